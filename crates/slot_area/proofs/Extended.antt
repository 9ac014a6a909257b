-- What slots read, once area 0 has zeros up to a slot past its end.
use Rattle.std.proofs.Common.{◌≡◌, ◌⊎◌, ⊎_elim, ℕ, ◌<◌, ◌≤◌, List, sym, ◌∙◌, ap, arith}
use Rattle.std.proofs.lemmas.Bool.{cases_lt}
use Rattle.log_meaning.specs.Images.{slot_of}
use Rattle.slot_area.specs.declared.frames.Frames.{Frames}
use Rattle.slot_area.specs.Area.{zeros, below, bytes_or, IsWhole}
use Rattle.slot_area.specs.Held.{frame_in}
use Rattle.slot_area.proofs.AreaRuns.{below_in, below_out}

-- the slots of area 0 from its end on read zeros before and after
pub below_extended : (end last : ℕ) (old new : List ℕ) → end ≤ last → ((s : ℕ) → s < end → slot_of new s ≡ slot_of old s) → ((s : ℕ) → end ≤ s → s < last → slot_of new s ≡ zeros) → (s : ℕ) → below last new s ≡ below end old s
below_extended end last old new up same laid s = ⊎_elim
    (λ (within : s < end). below_in last new s (omega (arith, within, up)) ∙ same s within ∙ sym (below_in end old s within))
    (λ (out : end ≤ s). ⊎_elim
    (λ (lt : s < last). below_in last new s lt ∙ laid s out lt ∙ sym (below_out end old s out))
    (λ (past : last ≤ s). below_out last new s past ∙ sym (below_out end old s out))
    (cases_lt s last))
    (cases_lt s end)

-- each slot reads what it read
pub view_extended : (frames : Frames) (end last : ℕ) (old new : List ℕ) → ((s : ℕ) → below last new s ≡ below end old s) → (s : ℕ) → bytes_or (below last new s) (frame_in frames s) ≡ bytes_or (below end old s) (frame_in frames s)
view_extended frames end last old new under s = ap (λ (l : List ℕ). bytes_or l (frame_in frames s)) (under s)

module _ (end next last : ℕ) (which : ((next ≤ end) × (last ≡ end)) ⊎ ((end < next) × (last ≡ next))) where
  pub up : (end ≤ last) × (next ≤ last)
  up = ⊎_elim (λ (e : (next ≤ end) × (last ≡ end)). let le = e.0 in let is = e.1 in (omega (arith, is), omega (arith, is, le))) (λ (e : (end < next) × (last ≡ next)). let lt = e.0 in let is = e.1 in (omega (arith, is, lt), omega (arith, is))) which

  -- a slot from the end up to the later end is one of those that were written
  pub laid : (s : ℕ) → end ≤ s → s < last → s < next
  laid s from lt = ⊎_elim (λ (e : (next ≤ end) × (last ≡ end)). absurd (let is = e.1 in omega (arith, is, from, lt))) (λ (e : (end < next) × (last ≡ next)). let is = e.1 in omega (arith, is, lt)) which

  -- area 0 has zeros from the later end on
  pub whole_extended : (old new : List ℕ) → ((s : ℕ) → s < end → slot_of new s ≡ slot_of old s) → ((s : ℕ) → next ≤ s → slot_of new s ≡ slot_of old s) → IsWhole end old → IsWhole last new
  whole_extended old new below after whole s past = let reach = up in let low = reach.0 in let high = reach.1 in after s (omega (arith, past, high)) ∙ whole s (omega (arith, past, low))
