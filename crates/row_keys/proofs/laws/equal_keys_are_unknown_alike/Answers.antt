use Rattle.row_keys.proofs.Delimited.{unknown_alike}
use Rattle.row_keys.proofs.laws.equal_keys_are_unknown_alike.Goals as goal

pub returns : goal.returns
returns c = unknown_alike
