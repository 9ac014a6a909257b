use Rattle.std.proofs.Common.{subst}
use Rattle.block_meaning.specs.Lines.{MoreThanOne}
use Rattle.flat_machine.specs.Flat as flat
use Rattle.client_machine.specs.KeepsFrom.{KeepsFrom}
use Rattle.client_machine.specs.Machine.{stack_in}
use Rattle.client_finds.proofs.takes.refuse_second.Goals as goal

pub returns-clause-ok : goal.returns-clause-ok
returns-clause-ok c = subst (λ b. KeepsFrom (λ p s. flat.fault (MoreThanOne b) (stack_in c.args.machine.now) s) c.args.machine.now c.fail.new.machine) c.in-Some.ensures c.fail.ensures
