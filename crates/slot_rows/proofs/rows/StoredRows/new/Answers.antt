use Rattle.std.proofs.Common.{ℕ, List, sym, ap, ◌∙◌, subst}
use Rattle.std.proofs.Math.Path.{fun_ext}
use Rattle.slot_rows.specs.Counted.{AreCounted}
use Rattle.slot_rows.specs.Decoded.{decoded}
use Rattle.slot_rows.proofs.Chaining.{opened_chains}
use Rattle.slot_rows.proofs.Counting.{counted_none}
use Rattle.slot_rows.proofs.Opening.{holds_no_row, nothing_is_chains, nothing_is_held, opened_stored, stored_nowhere}
use Rattle.slot_rows.proofs.Quiet.{quiet_opened}
use Rattle.slot_rows.proofs.rows.StoredRows.new.Goals as goal

pub invariant_of-result-clause-stored : goal.invariant_of-result-clause-stored
invariant_of-result-clause-stored g c =
    let s = g.S.Slots.state c.args.slots in
    let same = c.in_ok-chains.ensures.same in
    rw same
    (stored_nowhere c.args.schema s c.in_ok-opens.opens.items c.in_ok-opens.ensures.idle
    (opened_stored c.args.schema s c.requires.clean c.requires.settled (λ readable. nothing_is_held c.args.schema s.reads (c.requires.empty readable))))

pub invariant_of-result-clause-counted : goal.invariant_of-result-clause-counted
invariant_of-result-clause-counted g c =
    let s = g.S.Slots.state c.args.slots in
    let same = c.in_ok-chains.ensures.same in
    rw same
    (λ readable. subst (λ (f : ℕ → List ℕ). AreCounted (decoded c.args.schema f) 0) (sym (fun_ext (c.requires.settled readable))) (counted_none c.args.schema s.reads (holds_no_row c.args.schema s.reads (c.requires.empty readable))))

pub returns-clause-rows : goal.returns-clause-rows
returns-clause-rows g c = λ k readable. holds_no_row c.args.schema (g.S.Slots.state c.args.slots).reads (c.requires.empty readable) k

pub returns-clause-committed : goal.returns-clause-committed
returns-clause-committed g c = λ k readable.
    let s = g.S.Slots.state c.args.slots in
    ap (λ (f : ℕ → List ℕ). decoded c.args.schema f k) (fun_ext (c.requires.settled readable)) ∙ holds_no_row c.args.schema s.reads (c.requires.empty readable) k

pub invariant_of-result-clause-quiet : goal.invariant_of-result-clause-quiet
invariant_of-result-clause-quiet g c =
    rw c.in_ok-chains.ensures.same (quiet_opened (g.S.Slots.state c.args.slots) c.requires.idle c.requires.certain)

pub invariant_of-result-clause-laid : goal.invariant_of-result-clause-laid
invariant_of-result-clause-laid g c =
    let s = g.S.Slots.state c.args.slots in
    rw c.in_ok-chains.ensures.same
    (opened_chains s (g.S.Slots.stop c.args.slots) c.requires.fine c.requires.settled c.requires.certain c.requires.stops (λ readable. ∣ nothing_is_chains s.reads (c.requires.empty readable) ∣₁))

pub returns-clause-chains : goal.returns-clause-chains
returns-clause-chains g c = λ readable. nothing_is_chains (g.S.Slots.state c.args.slots).reads (c.requires.empty readable)
