-- The first and the last of several changes and their moves, and changes of other rows.
use Rattle.std.proofs.Common.{◌≡◌, ◌≢◌, ◌↔◌, inl, inr, ◌||◌, ℕ, zero, suc, Bool, true, false, eqb, eqb-true, eq-eqb, List, [], ◌∷◌, ◌++◌, take, drop, Option, Some, None, IsTrue, IsFalse, refl, sym, ap, ◌∙◌, subst}
use Rattle.abl_values.specs.Schema.{SchemaData}
use Rattle.row_store.specs.declared.store.RowChange.{RowChange}
use Rattle.row_store.specs.Changes.{has_change}
use Rattle.row_indexes.specs.declared.moves.Moved.{Moved}
use Rattle.row_indexes.specs.Places.{AreKept, AreWithin, CanUndo, Keepers, Places, undone}
use Rattle.row_indexes.specs.Changes.{AreAllKept, AreAllWithin, CanUndoAll, IsOfRow, all_undone}
use Rattle.row_indexes.proofs.Taking.{all_taken_more, all_taken_point, taken_apart}
use Rattle.row_keys.specs.Entries.{AreEntriesAt}
use Rattle.row_moves.specs.Indexed.{AreOfSameRows, LeadBack}
use Rattle.row_moves.proofs.Same.{HasSameEntries, all_same, entries_at, entries_on}

-- ---- one more change

pub rows_more : (changes : List RowChange) (moved : List Moved) (c : RowChange) (m : Moved) → AreOfSameRows changes moved → m.row ≡ c.row → AreOfSameRows (changes ++ c ∷ []) (moved ++ m ∷ [])
rows_more [] [] c m same is = (is, tt)
rows_more (x ∷ changes) (y ∷ moved) c m same is = (same.0, rows_more changes moved c m same.1 is)
rows_more [] (y ∷ moved) c m same is = absurd same
rows_more (x ∷ changes) [] c m same is = absurd same

-- the places before the change have the same entries as those with its moves undone
pub lead_more : (schema : SchemaData) (client : ℕ) (changes : List RowChange) (moved : List Moved) (c : RowChange) (m : Moved) (p q : Places) → HasSameEntries (undone client m.row m.moves.items q) p
    → LeadBack schema client changes moved p → AreEntriesAt schema c.old (undone client m.row m.moves.items q) c.row → LeadBack schema client (changes ++ c ∷ []) (moved ++ m ∷ []) q
lead_more schema client [] [] c m p q same back here = (tt, here)
lead_more schema client (x ∷ changes) (y ∷ moved) c m p q same back here = (
  lead_more schema client changes moved c m p q same back.0 here,
  subst (λ (z : Places). AreEntriesAt schema x.old z x.row) (sym (all_taken_more client (y ∷ moved) m q))
      (entries_at schema x.old (all_undone client (y ∷ moved) p) (all_undone client (y ∷ moved) (undone client m.row m.moves.items q)) x.row
      (λ j key. all_same client (y ∷ moved) (undone client m.row m.moves.items q) p same j key x.row) back.1),
)
lead_more schema client [] (y ∷ moved) c m p q same back here = absurd back
lead_more schema client (x ∷ changes) [] c m p q same back here = absurd back

pub within_more : (count : ℕ) (moved : List Moved) (m : Moved) → AreAllWithin count moved → AreWithin count m.moves.items → AreAllWithin count (moved ++ m ∷ [])
within_more count [] m all within = (within, tt)
within_more count (x ∷ moved) m all within = (all.0, within_more count moved m all.1 within)

pub kept_more : (client : ℕ) (moved : List Moved) (m : Moved) (keepers : Keepers) → AreAllKept client moved keepers → AreKept client m.moves.items keepers → AreAllKept client (moved ++ m ∷ []) keepers
kept_more client [] m keepers all kept = (kept, tt)
kept_more client (x ∷ moved) m keepers all kept = (all.0, kept_more client moved m keepers all.1 kept)

-- ---- places with the same entries, and changes of other rows

pub lead_same : (schema : SchemaData) (client : ℕ) (changes : List RowChange) (moved : List Moved) (p q : Places) → HasSameEntries q p → LeadBack schema client changes moved p → LeadBack schema client changes moved q
lead_same schema client [] [] p q same back = tt
lead_same schema client (x ∷ changes) (y ∷ moved) p q same back = (
  lead_same schema client changes moved p q same back.0,
  entries_at schema x.old (all_undone client (y ∷ moved) p) (all_undone client (y ∷ moved) q) x.row (λ j key. all_same client (y ∷ moved) q p same j key x.row) back.1,
)
lead_same schema client [] (y ∷ moved) p q same back = absurd back
lead_same schema client (x ∷ changes) [] p q same back = absurd back

pub or_true : (a b : Bool) → b ≡ true → (a || b) ≡ true
or_true true b e = refl
or_true false b e = e

pub or_first : (a b : Bool) → a ≡ true → (a || b) ≡ true
or_first true b e = refl
or_first false b e = absurd (cc e)

-- where the places of the rows that were changed are the same
pub lead_apart : (schema : SchemaData) (client : ℕ) (changes : List RowChange) (moved : List Moved) (p q : Places) → ((j : ℕ) (key : List ℕ) (k : ℕ) → has_change changes k ≡ true → q j key k ≡ p j key k)
    → LeadBack schema client changes moved p → LeadBack schema client changes moved q
lead_apart schema client [] [] p q same back = tt
lead_apart schema client (x ∷ changes) (y ∷ moved) p q same back = (
  lead_apart schema client changes moved p q (λ j key k is. same j key k (or_true (eqb k x.row) (has_change changes k) is)) back.0,
  entries_on schema x.old (all_undone client (y ∷ moved) p) (all_undone client (y ∷ moved) q) x.row
      (λ j key. all_taken_point client (y ∷ moved) p q j key x.row (same j key x.row (or_first (eqb x.row x.row) (has_change changes x.row) (eq-eqb x.row x.row refl)))) back.1,
)
lead_apart schema client [] (y ∷ moved) p q same back = absurd back
lead_apart schema client (x ∷ changes) [] p q same back = absurd back

-- the rows of the moves are those of the changes
pub row_of_change : (changes : List RowChange) (moved : List Moved) (k : ℕ) → AreOfSameRows changes moved → IsOfRow moved k → has_change changes k ≡ true
row_of_change [] [] k same of = absurd of
row_of_change (x ∷ changes) (y ∷ moved) k same of = elim of [
  | inl here ↦ or_first (eqb k x.row) (has_change changes k) (eq-eqb k x.row (here ∙ same.0))
  | inr later ↦ or_true (eqb k x.row) (has_change changes k) (row_of_change changes moved k same.1 later)
]
row_of_change [] (y ∷ moved) k same of = absurd same
row_of_change (x ∷ changes) [] k same of = absurd same

-- ---- the first changes, with the later ones undone

pub rows_first : (n : ℕ) (changes : List RowChange) (moved : List Moved) → AreOfSameRows changes moved → AreOfSameRows (take n changes) (take n moved)
rows_first zero changes moved same = tt
rows_first (suc n) [] [] same = tt
rows_first (suc n) (x ∷ changes) (y ∷ moved) same = (same.0, rows_first n changes moved same.1)
rows_first (suc n) [] (y ∷ moved) same = absurd same
rows_first (suc n) (x ∷ changes) [] same = absurd same

pub rows_last : (n : ℕ) (changes : List RowChange) (moved : List Moved) → AreOfSameRows changes moved → AreOfSameRows (drop n changes) (drop n moved)
rows_last zero changes moved same = same
rows_last (suc n) [] [] same = tt
rows_last (suc n) (x ∷ changes) (y ∷ moved) same = rows_last n changes moved same.1
rows_last (suc n) [] (y ∷ moved) same = absurd same
rows_last (suc n) (x ∷ changes) [] same = absurd same

pub undone_parts : (n : ℕ) (client : ℕ) (moved : List Moved) (p : Places) → all_undone client (take n moved) (all_undone client (drop n moved) p) ≡ all_undone client moved p
undone_parts zero client moved p = refl
undone_parts (suc n) client [] p = refl
undone_parts (suc n) client (y ∷ moved) p = ap (undone client y.row y.moves.items) (undone_parts n client moved p)

pub lead_first : (n : ℕ) (schema : SchemaData) (client : ℕ) (changes : List RowChange) (moved : List Moved) (p : Places) → LeadBack schema client changes moved p
    → LeadBack schema client (take n changes) (take n moved) (all_undone client (drop n moved) p)
lead_first zero schema client changes moved p back = tt
lead_first (suc n) schema client [] [] p back = tt
lead_first (suc n) schema client (x ∷ changes) (y ∷ moved) p back = (
  lead_first n schema client changes moved p back.0,
  subst (λ (z : Places). AreEntriesAt schema x.old (undone client y.row y.moves.items z) x.row) (sym (undone_parts n client moved p)) back.1,
)
lead_first (suc n) schema client [] (y ∷ moved) p back = absurd back
lead_first (suc n) schema client (x ∷ changes) [] p back = absurd back

pub lead_last : (n : ℕ) (schema : SchemaData) (client : ℕ) (changes : List RowChange) (moved : List Moved) (p : Places) → LeadBack schema client changes moved p → LeadBack schema client (drop n changes) (drop n moved) p
lead_last zero schema client changes moved p back = back
lead_last (suc n) schema client [] [] p back = tt
lead_last (suc n) schema client (x ∷ changes) (y ∷ moved) p back = lead_last n schema client changes moved p back.0
lead_last (suc n) schema client [] (y ∷ moved) p back = absurd back
lead_last (suc n) schema client (x ∷ changes) [] p back = absurd back

pub can_first : (n client : ℕ) (moved : List Moved) (p : Places) → CanUndoAll client moved p → CanUndoAll client (take n moved) (all_undone client (drop n moved) p)
can_first zero client moved p can = tt
can_first (suc n) client [] p can = tt
can_first (suc n) client (y ∷ moved) p can =
    (can_first n client moved p can.0, subst (CanUndo client y.row y.moves.items) (sym (undone_parts n client moved p)) can.1)

pub can_last_of : (n client : ℕ) (moved : List Moved) (p : Places) → CanUndoAll client moved p → CanUndoAll client (drop n moved) p
can_last_of zero client moved p can = can
can_last_of (suc n) client [] p can = tt
can_last_of (suc n) client (y ∷ moved) p can = can_last_of n client moved p can.0

pub kept_first : (n client : ℕ) (moved : List Moved) (keepers : Keepers) → AreAllKept client moved keepers → AreAllKept client (take n moved) keepers
kept_first zero client moved keepers kept = tt
kept_first (suc n) client [] keepers kept = tt
kept_first (suc n) client (y ∷ moved) keepers kept = (kept.0, kept_first n client moved keepers kept.1)

pub within_first : (n count : ℕ) (moved : List Moved) → AreAllWithin count moved → AreAllWithin count (take n moved)
within_first zero count moved within = tt
within_first (suc n) count [] within = tt
within_first (suc n) count (y ∷ moved) within = (within.0, within_first n count moved within.1)

-- moves of one client in places of rows that the changes are not of
pub undone_apart : (client : ℕ) (moved : List Moved) (p : Places) (j : ℕ) (key : List ℕ) (k : ℕ) → ¬ IsOfRow moved k → all_undone client moved p j key k ≡ p j key k
undone_apart client [] p j key k out = refl
undone_apart client (y ∷ moved) p j key k out = taken_apart client y.row y.moves.items (all_undone client moved p) j key k (λ is. out (inl is)) ∙ undone_apart client moved p j key k (λ later. out (inr later))
