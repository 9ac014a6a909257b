use Rattle.std.proofs.Common.{true, refl, sym}
use Rattle.bound_tree.specs.declared.block.LockWanted.TheVariants as wanted
use Rattle.block_meaning.specs.Frames.{table_of}
use Rattle.block_meaning.specs.Reads.{is_exclusive}
use Rattle.block_meaning.specs.State as state
use Rattle.flat_machine.specs.Flat as flat
use Rattle.database_protocol.specs.declared.operation.Op.TheVariants as op
use Rattle.client_machine.specs.Config.{reading_at}
use Rattle.client_machine.specs.Machine.{stack_in}
use Rattle.client_finds.proofs.Kept.{on_ok}
use Rattle.client_finds.proofs.Locked.{took_again_kept}
use Rattle.client_finds.proofs.locks.take_again.Goals as goal

pub returns-in-Some-NoLock-clause-ok : goal.returns-in-Some-NoLock-clause-ok
returns-in-Some-NoLock-clause-ok c =
    let old = c.args.machine.now in
    let r = reading_at old.code.instrs.items c.args.place in
    on_ok c.read_row.result (λ keeps.
    took_again_kept old c.read_row.new.machine c.args.place c.args.retry c.args.row wanted.NoLock (λ p s. flat.ask (op.Get (table_of r.buffer s) c.args.row) (flat.WasRead r c.args.retry c.args.row state.NoLock) (stack_in old) s) (sym (rw c.in-Some-NoLock.field-0-is at c.in-Some-NoLock.ensures)) (λ p s. refl) keeps) c.read_row.ensures.ok

pub returns-in-Some-Share-clause-ok : goal.returns-in-Some-Share-clause-ok
returns-in-Some-Share-clause-ok c =
    let old = c.args.machine.now in
    let r = reading_at old.code.instrs.items c.args.place in
    on_ok c.lock_row.result (λ keeps.
    took_again_kept old c.lock_row.new.machine c.args.place c.args.retry c.args.row wanted.Share (λ p s. flat.ask (op.Lock (table_of r.buffer s) c.args.row (is_exclusive r.lock) true) (flat.WasGranted r c.args.retry c.args.row) (stack_in old) s) (sym (rw c.in-Some-Share.field-0-is at c.in-Some-Share.ensures)) (λ p s. refl) keeps) c.lock_row.ensures.ok

pub returns-in-Some-Exclusive-clause-ok : goal.returns-in-Some-Exclusive-clause-ok
returns-in-Some-Exclusive-clause-ok c =
    let old = c.args.machine.now in
    let r = reading_at old.code.instrs.items c.args.place in
    on_ok c.lock_row-in-Some-Exclusive.result (λ keeps.
    took_again_kept old c.lock_row-in-Some-Exclusive.new.machine c.args.place c.args.retry c.args.row wanted.Exclusive (λ p s. flat.ask (op.Lock (table_of r.buffer s) c.args.row (is_exclusive r.lock) true) (flat.WasGranted r c.args.retry c.args.row) (stack_in old) s) (sym (rw c.in-Some-Exclusive.field-0-is at c.in-Some-Exclusive.ensures)) (λ p s. refl) keeps) c.lock_row-in-Some-Exclusive.ensures.ok
