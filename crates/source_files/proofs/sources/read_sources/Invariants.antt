use Rattle.std.proofs.Common.{take}
use Rattle.source_files.specs.Files.{AreSame, HaveSources}
use Rattle.source_files.proofs.sources.read_sources.Given as goal

-- the sources so far have these texts, and what is known of the files is as it was
abbrev pub invariant-loop-program : goal.invariant-loop-program
invariant-loop-program g l =
    record {
      read : HaveSources (g.F.Files.state l.fn.files) (take l.program-index l.programs) l.sources.items;
      same : AreSame (g.F.Files.state l.fn.files) (g.F.Files.state l.files);
    }
