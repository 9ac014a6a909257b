use Rattle.std.proofs.Common.{◌-◌, length}
use Rattle.source_files.specs.Files.{AreSame}
use Rattle.source_files.specs.Reading.{AreShort}
use Rattle.source_files.proofs.Parts.{ArePart}
use Rattle.source_files.proofs.sources.read_needed.Given as goal

-- the first texts of the source are read, none of them too long, and what is known of the files is as it was
abbrev pub invariant-reading : goal.invariant-reading
invariant-reading g l =
    record {
      short : AreShort l.texts;
      same : AreSame (g.F.Files.state l.fn.files) (g.F.Files.state l.files);
      part : ArePart (g.F.Files.state l.fn.files) l.fn.own l.texts;
    }

-- the numbers that are left for texts
abbrev pub decreases-reading : goal.decreases-reading
decreases-reading g l = 4294967295 - length l.texts
