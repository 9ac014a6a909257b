-- The clause of time of slots, in rows.
use Rattle.std.proofs.Common.{◌≡◌, ◌⊎◌, ℕ, List, ap, ◌∙◌, inl, inr}
use Rattle.std.proofs.Math.Logic.{∥∥₁_map}
use Rattle.storage.specs.Slots.{SlotState, Goes}
use Rattle.row_fragments.specs.Fragments.{row_at}
use Rattle.row_fragments.specs.Stops.{rows_left, RowsGo}

pub rows_go : (old new : SlotState) (before after : ℕ → (ℕ → List ℕ) → Type 0) → Goes old new before after → RowsGo (rows_left before) (rows_left after) old.moment new.moment (row_at old.committed) (row_at new.doubt)
rows_go old new before after goes = record {
  later = goes.later;
  nothing_else = λ m rows past h. (h.0, goes.nothing_else m h.0 past h.1, h.2);
  stays = λ m rows past h. (h.0, goes.stays m h.0 past h.1, h.2);
  here = λ m rows now h. ∥∥₁_map (goes.here m h.0 now h.1) (λ (which : (h.0 ≡ old.committed) ⊎ (h.0 ≡ new.doubt)). elim which as (λ v. (rows ≡ row_at old.committed) ⊎ (rows ≡ row_at new.doubt)) [
    | inl e ↦ inl (h.2 ∙ ap row_at e)
    | inr e ↦ inr (h.2 ∙ ap row_at e)
  ]);
}
