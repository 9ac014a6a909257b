-- What is made can be taken back.
use Rattle.std.proofs.Common.{◌≡◌, ℕ, Bool, true, false, cond, List, [], ◌∷◌, ◌++◌, append_assoc, Option, Some, None, inl, inr, refl, sym, ap, ◌∙◌, subst}
use Rattle.std.proofs.lemmas.List.{append-nil}
use Rattle.row_indexes.specs.declared.moves.Move.{Move}
use Rattle.row_indexes.specs.declared.moves.Moved.{Moved}
use Rattle.row_indexes.specs.Places.{AreKept, CanUndo, Keepers, Places, owner_after, owner_before, undone, with_place}
use Rattle.row_indexes.specs.Changes.{AreAllKept, CanUndoAll}
use Rattle.row_indexes.specs.Making.{CanMake, HasPlace, kept_after, made, with_keeper}
use Rattle.row_indexes.proofs.Taking.{all_can_more, grown_fresh, grown_again, one_more_fresh, one_more_again}

-- so far these moves are made, and all can be taken back
record SoFar (client row : ℕ) (changes : List Moved) (moves : List Move) (places : Places) : Type 0 where
  before : CanUndoAll client changes (undone client row moves places)
  here : CanUndo client row moves places

one_further : (client row : ℕ) (changes : List Moved) (moves : List Move) (m : Move) (places : Places) (b : Bool) → m.entered ≡ b → HasPlace client b (places m.index m.key row)
    → SoFar client row changes moves places → SoFar client row changes (moves ++ m ∷ []) (with_place places m row (owner_after client m))
one_further client row changes moves m places true e (inl none) far = record {
  before = grown_fresh client row changes moves m places far.before far.here none;
  here = one_more_fresh client row moves m places far.here none;
}
one_further client row changes moves m places true e (inr own) far =
    let found : places m.index m.key row ≡ Some (owner_before client m) = own ∙ sym (ap (λ (b : Bool). Some (cond b (Some client) None)) e) in
    record { before = grown_again client row changes moves m places far.before found; here = one_more_again client row moves m places far.here found }
one_further client row changes moves m places false e entry far =
    let found : places m.index m.key row ≡ Some (owner_before client m) = entry ∙ sym (ap (λ (b : Bool). Some (cond b (Some client) None)) e) in
    record { before = grown_again client row changes moves m places far.before found; here = one_more_again client row moves m places far.here found }

all_further : (client row : ℕ) (changes : List Moved) (moves later : List Move) (places : Places) (keepers : Keepers) → CanMake client row later places keepers
    → SoFar client row changes moves places → SoFar client row changes (moves ++ later) (made client row later places)
all_further client row changes moves [] places keepers can far = subst (λ (ms : List Move). SoFar client row changes ms places) (sym (append-nil moves)) far
all_further client row changes moves (m ∷ later) places keepers can far =
    subst (λ (ms : List Move). SoFar client row changes ms (made client row (m ∷ later) places)) (append_assoc moves (m ∷ []) later)
    (all_further client row changes (moves ++ m ∷ []) later (with_place places m row (owner_after client m)) (with_keeper keepers m client) can.1
    (one_further client row changes moves m places m.entered refl can.0.place far))

pub made_can : (client : ℕ) (changes : List Moved) (c : Moved) (places : Places) (keepers : Keepers) → CanMake client c.row c.moves.items places keepers → CanUndoAll client changes places
    → CanUndoAll client (changes ++ c ∷ []) (made client c.row c.moves.items places)
made_can client changes c places keepers can h =
    let far : SoFar client c.row changes c.moves.items (made client c.row c.moves.items places) = all_further client c.row changes [] c.moves.items places keepers can (record { before = h; here = tt }) in
    all_can_more client changes c (made client c.row c.moves.items places) far.before far.here

-- ---- keepers

kept_or : (b : Bool) (client : ℕ) (keeper : Option ℕ) → keeper ≡ Some client → cond b (Some client) keeper ≡ Some client
kept_or true client keeper e = refl
kept_or false client keeper e = e

kept_on : (client : ℕ) (moves : List Move) (m : Move) (keepers : Keepers) → AreKept client moves keepers → AreKept client moves (with_keeper keepers m client)
kept_on client [] m keepers h = tt
kept_on client (x ∷ moves) m keepers h = ((λ u. kept_or _ client (keepers x.index x.key) (h.0 u)), kept_on client moves m keepers h.1)

kept_made : (client : ℕ) (moves later : List Move) (keepers : Keepers) → AreKept client moves keepers → AreKept client moves (kept_after client later keepers)
kept_made client moves [] keepers h = h
kept_made client moves (m ∷ later) keepers h = kept_made client moves later (with_keeper keepers m client) (kept_on client moves m keepers h)

pub all_kept_made : (client : ℕ) (changes : List Moved) (later : List Move) (keepers : Keepers) → AreAllKept client changes keepers → AreAllKept client changes (kept_after client later keepers)
all_kept_made client [] later keepers h = tt
all_kept_made client (c ∷ changes) later keepers h = (kept_made client c.moves.items later keepers h.0, all_kept_made client changes later keepers h.1)
