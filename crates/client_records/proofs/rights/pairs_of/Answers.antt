use Rattle.std.proofs.Common.{sym}
use Rattle.client_records.proofs.Pairs.{other_pairs}
use Rattle.client_records.proofs.rights.pairs_of.Goals as goal

pub returns-in_default : goal.returns-in_default
returns-in_default c = λ next. sym (other_pairs c.args.stmt.now next c.in_default.not-Assign)
