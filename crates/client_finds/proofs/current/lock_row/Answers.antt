use Rattle.std.proofs.Common.{Bool, ap, ◌∙◌}
use Rattle.block_meaning.specs.Frames.{table_of}
use Rattle.block_meaning.specs.Reads.{is_exclusive}
use Rattle.flat_machine.specs.Flat as flat
use Rattle.database_protocol.specs.declared.operation.Op.TheVariants as op
use Rattle.client_machine.specs.Config.{instr_at, reading_at}
use Rattle.client_machine.specs.Statements.{wait_in}
use Rattle.client_finds.specs.Stays.{state_under}
use Rattle.client_finds.proofs.Kept.{asked_kept}
use Rattle.client_finds.proofs.current.lock_row.Goals as goal

pub returns-clause-ok : goal.returns-clause-ok
returns-clause-ok c =
    let old = c.args.machine.now in
    let r = reading_at old.code.instrs.items c.args.place in
    asked_kept old c.ask.new.machine c.in-Some-lock_op.op (flat.CurrentGranted r c.args.row c.args.made) (λ s. op.Lock (table_of r.buffer s) c.args.row (is_exclusive r.lock) (wait_in (instr_at old.code.instrs.items c.args.place)))
    (λ p rest reads. c.in-Some-lock_op.ensures.op p rest reads ∙ ap (λ (w : Bool). op.Lock (table_of r.buffer (state_under rest old)) c.args.row (is_exclusive r.lock) w) c.in-Some.ensures) c.ask.ensures
