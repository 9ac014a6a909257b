use Rattle.std.proofs.Common.{take}
use Rattle.source_files.specs.Files.{AreSame, HaveTexts}
use Rattle.source_files.proofs.files.read_named.Given as goal

-- the files so far have these texts, and what is known of the files is as it was
abbrev pub invariant-loop-name : goal.invariant-loop-name
invariant-loop-name g l =
    record {
      read : HaveTexts (g.F.Files.state l.fn.files) (take l.name-index l.names) l.texts.items;
      same : AreSame (g.F.Files.state l.fn.files) (g.F.Files.state l.files);
    }
