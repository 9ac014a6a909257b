use Rattle.std.proofs.Common.{Some, Option, ap, sym, ◌∙◌}
use Rattle.block_meaning.specs.State.{Buffer, Spot}
use Rattle.block_meaning.specs.Reads.{cursor_in}
use Rattle.bound_tree.specs.Bound.{reading_of}
use Rattle.database_protocol.specs.declared.row_order.Cursor.{Cursor}
use Rattle.client_memory.specs.Buffers.{denoted_spot_if}
use Rattle.buffer_steps.proofs.BuffersLemmas.Own.{own_is, own_none}
use Rattle.buffer_steps.proofs.buffers.running.RunningBuffersRecordBuffers.place.Goals as goal

pub returns-in_default : goal.returns-in_default
returns-in_default c = λ p rest fits. ap (λ (x : Buffer). cursor_in (reading_of c.args.reading.now) x.spot) (own_none rest c.args.self.now.procedures.now c.args.self.now.memory.now c.own.result c.args.reading.now.buffer fits.even c.own.ensures c.in_default.ensures)

pub returns-in_default-spot : goal.returns-in_default-spot
returns-in_default-spot c = λ p rest fits.
    ap (λ (s : Option Spot). cursor_in (reading_of c.args.reading.now) s) (sym (ap denoted_spot_if c.in_default-spot.is))
    ∙ ap (λ (x : Buffer). cursor_in (reading_of c.args.reading.now) x.spot) (own_is rest c.args.self.now.procedures.now c.args.self.now.memory.now c.own.result c.args.reading.now.buffer c.in-Some.buffer.now fits.even c.own.ensures c.in-Some.ensures)

pub returns-in_ok-copy-in-Some-cursor_in : goal.returns-in_ok-copy-in-Some-cursor_in
returns-in_ok-copy-in-Some-cursor_in c = λ p rest fits.
    ap (λ (x : Cursor). Some x) c.in_ok-copy-in-Some-cursor_in.ensures ∙ c.in-Some-cursor_in.ensures
    ∙ ap (λ (s : Option Spot). cursor_in (reading_of c.args.reading.now) s) (sym (ap denoted_spot_if c.in-Some-spot.is))
    ∙ ap (λ (x : Buffer). cursor_in (reading_of c.args.reading.now) x.spot) (own_is rest c.args.self.now.procedures.now c.args.self.now.memory.now c.own.result c.args.reading.now.buffer c.in-Some.buffer.now fits.even c.own.ensures c.in-Some.ensures)

pub returns-in-None : goal.returns-in-None
returns-in-None c = λ p rest fits.
    c.in-None.ensures
    ∙ ap (λ (s : Option Spot). cursor_in (reading_of c.args.reading.now) s) (sym (ap denoted_spot_if c.in-Some-spot.is))
    ∙ ap (λ (x : Buffer). cursor_in (reading_of c.args.reading.now) x.spot) (own_is rest c.args.self.now.procedures.now c.args.self.now.memory.now c.own.result c.args.reading.now.buffer c.in-Some.buffer.now fits.even c.own.ensures c.in-Some.ensures)
