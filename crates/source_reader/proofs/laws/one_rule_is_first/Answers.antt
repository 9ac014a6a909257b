use Rattle.source_reader.proofs.Violations.{one_rule}
use Rattle.source_reader.proofs.laws.one_rule_is_first.Goals as goal

pub returns : goal.returns
returns c = λ schema text rule other place spot a b. let same = one_rule schema text a b in (same.rules, same.places)
