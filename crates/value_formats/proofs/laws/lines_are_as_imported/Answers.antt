use Rattle.value_formats.proofs.LineAnswers.{line_at_is}
use Rattle.value_formats.proofs.laws.lines_are_as_imported.Goals as goal

pub returns : goal.returns
returns c = line_at_is
