use Rattle.source_reader.proofs.Violations.{trees_break_none}
use Rattle.source_reader.proofs.laws.trees_break_no_rule.Goals as goal

pub returns : goal.returns
returns c = λ schema text tree rule place is breaks. trees_break_none schema text is breaks
