use Rattle.std.proofs.Common.{[], ap, sym, ◌∙◌}
use Rattle.flat_machine.specs.Flat as flat
use Rattle.block_meaning.specs.Frames.{content_of, table_of}
use Rattle.block_meaning.specs.State.{Share}
use Rattle.buffer_steps.specs.changes.Buffers.{state_of}
use Rattle.client_records.proofs.Asked.{lock_asks, more_units, one_unit}
use Rattle.client_records.proofs.memory.locked.Goals as goal

pub returns-in_ok-values-in-Asks : goal.returns-in_ok-values-in-Asks
returns-in_ok-values-in-Asks c = λ p rest fits.
    let buffers = c.args.buffers.now in
    let b = c.args.buffer in
    let s = state_of rest buffers in
    let o = c.in-Asks.op in
    let row = c.in-Asks.row in
    let found = c.in_ok-values-in-Asks.field-0 in
    let g = c.in-Asks.ensures p rest fits in
    let h = c.in_ok-values-in-Asks.ensures p rest row g.0 Share g.1 fits g.2 in
    let one = c.in-Asks.ensures p (one_unit rest) (more_units p rest buffers.procedures.now buffers.memory.now buffers.error buffers.returned.now fits) in (
      lock_asks (content_of b s) (table_of b s) b s _ o (flat.WasUpgraded b row one.0 one.1) (one.3 []),
      λ ks. g.3 ks ∙ ap (λ vs. flat.ask o (flat.WasUpgraded b row vs g.1) ks s) (sym h.0) ∙ ap (λ k. flat.ask o (flat.WasUpgraded b row found.values k) ks s) (sym h.1),
    )
