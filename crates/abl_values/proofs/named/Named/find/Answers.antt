use Rattle.std.proofs.Common.{refl}
use Rattle.abl_values.proofs.FoundNames.{found_number, found_nowhere}
use Rattle.abl_values.proofs.named.Named.find.Goals as goal

pub returns-in_err-key-clause-number : goal.returns-in_err-key-clause-number
returns-in_err-key-clause-number g c = found_nowhere g.T.HasName.name_of c.args.name.now c.self.invariant c.self.view_is (c.in_err-key.ensures.long.0 refl) c.from_residual.ensures

pub returns-clause-number : goal.returns-clause-number
returns-clause-number g c = found_number g.T.HasName.name_of c.args.name.now c.self.invariant c.self.view_is c.in_ok-key.ensures.key c.get_index_of.ensures.index
