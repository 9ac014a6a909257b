use Rattle.std.proofs.Common.{◌-◌, [], arith}
use Rattle.storage.specs.declared.slots.Undo.{Undo}
use Rattle.bi_recovery.proofs.Writing.{wrote_at}
use Rattle.recovered_view.proofs.stored.put_slots.Goals as goal

abbrev no_slot : Undo
no_slot = record { slot = 0; old = [] }

pub put_slot-requires-clause-small : goal.put_slot-requires-clause-small
put_slot-requires-clause-small c = c.requires.small _ (wrote_at c.args.noted.now (c.noted.i - 1) no_slot (let within = c.noted.invariant.within in let some = c.noted-test.true in omega (arith, within, some)))
