-- Places with the same entries, where moves are made and undone.
use Rattle.std.proofs.Common.{◌≡◌, ◌≢◌, ◌↔◌, ◌⊎◌, inl, inr, ℕ, Bool, true, false, cond, eqb, eqb-true, eq-eqb, List, [], ◌∷◌, ◌++◌, Option, Some, None, refl, sym, ap, ◌∙◌, subst}
use Rattle.abl_values.specs.Schema.{SchemaData}
use Rattle.database_meaning.specs.declared.state.StoredRow.{StoredRow}
use Rattle.row_store.specs.declared.store.RowChange.{RowChange}
use Rattle.row_store.specs.Changes.{RowsById, undone as rows_undone}
use Rattle.row_indexes.specs.declared.moves.Move.{Move}
use Rattle.row_indexes.specs.declared.moves.Moved.{Moved}
use Rattle.row_indexes.specs.Places.{Keepers, Places, is_place, owner_after, owner_before, undone, with_place}
use Rattle.row_indexes.specs.Changes.{all_undone}
use Rattle.row_indexes.specs.Making.{CanMake, HasPlace, made, with_keeper}
use Rattle.row_indexes.proofs.PlaceMoves.{IsAt, is_at, not_placed, placed}
use Rattle.row_indexes.proofs.Taking.{all_taken_more, taken_apart}
use Rattle.row_keys.specs.Entries.{AreEntries, AreEntriesAt}
use Rattle.row_keys.specs.Numbers.{number_of}
use Rattle.row_moves.specs.Indexed.{AreOfSameRows, LeadBack}

-- the same places have an entry
abbrev pub HasSameEntries : Places → Places → Type 0
HasSameEntries p q = (j : ℕ) (key : List ℕ) (k : ℕ) → (p j key k ≡ Some None) ↔ (q j key k ≡ Some None)

pub entries_at : (schema : SchemaData) (row : Option StoredRow) (p q : Places) (k : ℕ) → ((j : ℕ) (key : List ℕ) → (q j key k ≡ Some None) ↔ (p j key k ≡ Some None)) → AreEntriesAt schema row p k → AreEntriesAt schema row q k
entries_at schema row p q k same at = λ table o key has order.
    let here = at table o key has order in
    let there = same (number_of schema table o) key in
    (λ e. here.0 (there.0 e), λ e. there.1 (here.1 e))

pub iff_of : (a b : Option (Option ℕ)) → a ≡ b → (a ≡ Some None) ↔ (b ≡ Some None)
iff_of a b e = (λ x. sym e ∙ x, λ x. e ∙ x)

pub entries_on : (schema : SchemaData) (row : Option StoredRow) (p q : Places) (k : ℕ) → ((j : ℕ) (key : List ℕ) → q j key k ≡ p j key k) → AreEntriesAt schema row p k → AreEntriesAt schema row q k
entries_on schema row p q k same at = entries_at schema row p q k (λ j key. iff_of (q j key k) (p j key k) (same j key)) at

with_same : (p q : Places) (m : Move) (row : ℕ) (o : Option ℕ) → HasSameEntries p q → HasSameEntries (with_place p m row o) (with_place q m row o)
with_same p q m row o same = λ j key k. by_place j key k (is_place m row j key k)
  where
    by_place : (j : ℕ) (key : List ℕ) (k : ℕ) (b : Bool) → (cond b (Some o) (p j key k) ≡ Some None) ↔ (cond b (Some o) (q j key k) ≡ Some None)
    by_place j key k true = (λ e. e, λ e. e)
    by_place j key k false = same j key k

undone_same : (client row : ℕ) (moves : List Move) (p q : Places) → HasSameEntries p q → HasSameEntries (undone client row moves p) (undone client row moves q)
undone_same client row [] p q same = same
undone_same client row (m ∷ moves) p q same = with_same (undone client row moves p) (undone client row moves q) m row (owner_before client m) (undone_same client row moves p q same)

pub all_same : (client : ℕ) (moved : List Moved) (p q : Places) → HasSameEntries p q → HasSameEntries (all_undone client moved p) (all_undone client moved q)
all_same client [] p q same = same
all_same client (m ∷ moved) p q same = undone_same client m.row m.moves.items (all_undone client moved p) (all_undone client moved q) (all_same client moved p q same)

-- ---- moves that were made are undone

own_place : (client : ℕ) (b : Bool) (place : Option (Option ℕ)) → HasPlace client b place → (Some (cond b (Some client) None) ≡ Some None) ↔ (place ≡ Some None)
own_place client true place (inl none) = (λ e. absurd (cc e), λ e. absurd (cc (e, none)))
own_place client true place (inr own) = (λ e. absurd (cc e), λ e. absurd (cc (e, own)))
own_place client false place entry = (λ e. entry, λ e. refl)

at_own : (p : Places) (m : Move) (row j : ℕ) (key : List ℕ) (k : ℕ) → IsAt m row j key k → p m.index m.key row ≡ p j key k
at_own p m row j key k at = ap (λ (i : ℕ). p i m.key row) (sym at.index) ∙ (ap (λ (x : List ℕ). p j x row) (sym at.key_is) ∙ ap (p j key) (sym at.row_is))

-- a move is undone, after which the places have the entries that they had after it
move_undone : (client row : ℕ) (m : Move) (p u : Places) → HasPlace client m.entered (p m.index m.key row) → HasSameEntries u (with_place p m row (owner_after client m)) → HasSameEntries (with_place u m row (owner_before client m)) p
move_undone client row m p u can rest = λ j key k. by_place j key k (is_place m row j key k) refl
  where
    by_place : (j : ℕ) (key : List ℕ) (k : ℕ) (b : Bool) → is_place m row j key k ≡ b → (with_place u m row (owner_before client m) j key k ≡ Some None) ↔ (p j key k ≡ Some None)
    by_place j key k false e =
        let left = not_placed u m row (owner_before client m) j key k e in
        let right = not_placed p m row (owner_after client m) j key k e in
        (λ x. sym right ∙ (rest j key k).0 (sym left ∙ x), λ x. left ∙ (rest j key k).1 (right ∙ x))
    by_place j key k true e =
        let left = placed u m row (owner_before client m) j key k e in
        let is = at_own p m row j key k (is_at m row j key k e) in
        let own = own_place client m.entered (p m.index m.key row) can in
        (λ x. sym is ∙ own.0 (sym left ∙ x), λ x. left ∙ own.1 (is ∙ x))

pub made_same : (client row : ℕ) (moves : List Move) (p : Places) (keepers : Keepers) → CanMake client row moves p keepers → HasSameEntries (undone client row moves (made client row moves p)) p
made_same client row [] p keepers can = λ j key k. (λ e. e, λ e. e)
made_same client row (m ∷ later) p keepers can =
    move_undone client row m p (undone client row later (made client row later (with_place p m row (owner_after client m)))) can.0.place
    (made_same client row later (with_place p m row (owner_after client m)) (with_keeper keepers m client) can.1)

-- moves of a row leave the places of other rows
pub made_apart : (client row : ℕ) (moves : List Move) (p : Places) (j : ℕ) (key : List ℕ) (k : ℕ) → k ≢ row → made client row moves p j key k ≡ p j key k
made_apart client row [] p j key k ne = refl
made_apart client row (m ∷ later) p j key k ne = made_apart client row later (with_place p m row (owner_after client m)) j key k ne ∙ by_place (is_place m row j key k) refl
  where
    by_place : (b : Bool) → is_place m row j key k ≡ b → with_place p m row (owner_after client m) j key k ≡ p j key k
    by_place false e = not_placed p m row (owner_after client m) j key k e
    by_place true e = let h : IsAt m row j key k = is_at m row j key k e in absurd (ne h.row_is)

-- ---- changes that are undone

-- with the changes undone in rows and indexes, the entries are those of the rows again
module _ (schema : SchemaData) (client : ℕ) (c : RowChange) (m : Moved) (changes : List RowChange) (moved : List Moved) (rows : RowsById) (p : Places)
    (same : m.row ≡ c.row) (here : AreEntriesAt schema c.old (all_undone client (m ∷ moved) p) c.row) (rest : AreEntries schema (rows_undone changes rows) (all_undone client moved p)) where
  one_back : (k : ℕ) (b : Bool) → eqb k c.row ≡ b → AreEntriesAt schema (cond b c.old (rows_undone changes rows k)) (all_undone client (m ∷ moved) p) k
  one_back k true e = subst (AreEntriesAt schema c.old (all_undone client (m ∷ moved) p)) (sym (eqb-true k c.row e)) here
  one_back k false e =
      entries_on schema (rows_undone changes rows k) (all_undone client moved p) (all_undone client (m ∷ moved) p) k
      (λ j key. taken_apart client m.row m.moves.items (all_undone client moved p) j key k (λ is. let clash : true ≡ false = sym (eq-eqb k c.row (is ∙ same)) ∙ e in cc))
      (rest k)

pub back_entries : (schema : SchemaData) (client : ℕ) (changes : List RowChange) (moved : List Moved) (rows : RowsById) (p : Places) → AreOfSameRows changes moved → LeadBack schema client changes moved p → AreEntries schema rows p
    → AreEntries schema (rows_undone changes rows) (all_undone client moved p)
back_entries schema client [] [] rows p same back entries = entries
back_entries schema client (c ∷ changes) (m ∷ moved) rows p same back entries =
    λ k. one_back schema client c m changes moved rows p same.0 back.1 (back_entries schema client changes moved rows p same.1 back.0 entries) k (eqb k c.row) refl
back_entries schema client [] (m ∷ moved) rows p same back entries = absurd same
back_entries schema client (c ∷ changes) [] rows p same back entries = absurd same
