use Rattle.std.proofs.Common.{length}
use Rattle.source_files.proofs.compiled.+add_codes.Given as goal

abbrev pub decreases-add_codes : goal.decreases-add_codes
decreases-add_codes l = length l.texts.now
