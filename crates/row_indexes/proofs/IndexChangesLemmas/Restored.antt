-- A move that entered and is forgotten leaves what was before it.
use Rattle.std.proofs.Common.{◌≡◌, ◌≢◌, ◌⊎◌, ℕ, ◌<◌, ◌≤◌, Bool, true, false, cond, ◌&&◌, List, length, slice_set, Option, Some, None, inl, inr, refl, sym, ap, ◌∙◌, eqb-true, eq-eqb}
use Rattle.std.specs.Prelude.{IsTrue, ◌==◌}
use Rattle.std.proofs.lemmas.Bool.{and_parts, cases_eq}
use Rattle.std.specs.FinMap as map
use Rattle.std.specs.Option.{option_and_then}
use Rattle.std.specs.Ordering.{nat_cmp}
use Rattle.std.specs.Cmp.Lexicographic.{slice_cmp}
use Rattle.key_index.specs.declared.index.Node.{Node}
use Rattle.std.proofs.lemmas.List.{get_or-set_other, get_or_past}
use Rattle.std.proofs.lemmas.Grind.{get_or-set_at}
use Rattle.abl_values.specs.Masks.{same_bytes}
use Rattle.key_index.specs.Index.{Forgets, IsEntry, Keys, NoOtherKeeps, Puts, keeper_of, place_at}
use Rattle.row_indexes.specs.declared.moves.Move.{Move}
use Rattle.row_indexes.specs.Places.{Keepers, Places, index_at, is_place, keepers_of, owner_after, places_of, with_place}
use Rattle.row_indexes.specs.Making.{with_keeper}
use Rattle.row_indexes.proofs.Bytes.{same_bytes_eq, same_bytes_refl}
use Rattle.row_indexes.proofs.PlaceMoves.{IsAt, at_place, is_at, placed, not_placed}
use Rattle.row_indexes.specs.declared.index_changes.entering.Before.{Before}
use Rattle.row_indexes.specs.index_changes.Entering.{IsBefore}

-- ---- places and keepers that a move leaves alone

pub not_at : (m : Move) (row j : ℕ) (key : List ℕ) (at : ℕ) → (IsAt m row j key at → ⊥) → is_place m row j key at ≡ false
not_at m row j key at never = by_test (is_place m row j key at) refl
  where
    by_test : (b : Bool) → is_place m row j key at ≡ b → is_place m row j key at ≡ false
    by_test true e = absurd (never (is_at m row j key at e))
    by_test false e = e

pub not_placed_at : (places : Places) (m : Move) (row : ℕ) (owner : Option ℕ) (j : ℕ) (key : List ℕ) (at : ℕ) → (IsAt m row j key at → ⊥) → with_place places m row owner j key at ≡ places j key at
not_placed_at places m row owner j key at never = not_placed places m row owner j key at (not_at m row j key at never)

pub placed_own : (places : Places) (m : Move) (row : ℕ) (owner : Option ℕ) → with_place places m row owner m.index m.key row ≡ Some owner
placed_own places m row owner = placed places m row owner m.index m.key row (at_place m row m.index m.key row refl refl refl)

abbrev is_kept : Move → ℕ → List ℕ → Bool
is_kept m j key = m.unique && ((j == m.index) && same_bytes key m.key)

pub not_kept_at : (keepers : Keepers) (m : Move) (client j : ℕ) (key : List ℕ) → (j ≡ m.index → key ≡ m.key → ⊥) → with_keeper keepers m client j key ≡ keepers j key
not_kept_at keepers m client j key never = by_test (is_kept m j key) refl
  where
    by_test : (b : Bool) → is_kept m j key ≡ b → with_keeper keepers m client j key ≡ keepers j key
    by_test false e = ap (λ (b : Bool). cond b (Some client) (keepers j key)) e
    by_test true e =
        let p = and_parts m.unique ((j == m.index) && same_bytes key m.key) e in
        let q = and_parts (j == m.index) (same_bytes key m.key) p.1 in
        absurd (never (eqb-true j m.index q.0) (same_bytes_eq key m.key q.1))

both : (a b : Bool) → a ≡ true → b ≡ true → (a && b) ≡ true
both true b h k = k
both false b h k = h

neither : (a b : Bool) → a ≡ false → (a && b) ≡ false
neither true b h = cc
neither false b h = refl

pub kept_unique : (keepers : Keepers) (m : Move) (client : ℕ) → m.unique ≡ true → with_keeper keepers m client m.index m.key ≡ Some client
kept_unique keepers m client unique =
    ap (λ (b : Bool). cond b (Some client) (keepers m.index m.key)) (both m.unique _ unique (both (m.index == m.index) (same_bytes m.key m.key) (eq-eqb m.index m.index refl) (same_bytes_refl m.key)))

pub kept_not_unique : (keepers : Keepers) (m : Move) (client : ℕ) → m.unique ≡ false → with_keeper keepers m client m.index m.key ≡ keepers m.index m.key
kept_not_unique keepers m client unique = ap (λ (b : Bool). cond b (Some client) (keepers m.index m.key)) (neither m.unique _ unique)

pub same_key_or_not : (key other : List ℕ) → (key ≡ other) ⊎ (key ≢ other)
same_key_or_not key other = by_test (same_bytes key other) refl
  where
    by_test : (b : Bool) → same_bytes key other ≡ b → (key ≡ other) ⊎ (key ≢ other)
    by_test true e = inl (same_bytes_eq key other e)
    by_test false e = inr (λ is. let clash : true ≡ false = sym (ap (λ (k : List ℕ). same_bytes k other) is ∙ same_bytes_refl other) ∙ e in cc)

-- ---- one index restored

-- the place and the keeper of the move are these again, and all others are as they were
record Restores (m : Move) (row : ℕ) (places : Places) (keepers : Keepers) (old new : Keys) : Type 0 where
  place : place_at new m.key row ≡ places m.index m.key row
  rows : (at : ℕ) → at ≢ row → place_at new m.key at ≡ place_at old m.key at
  others : (key : List ℕ) (at : ℕ) → key ≢ m.key → place_at new key at ≡ place_at old key at
  keeper : keeper_of new m.key ≡ keepers m.index m.key
  keepers_of_others : (key : List ℕ) → key ≢ m.key → keeper_of new key ≡ keeper_of old key

module _ (indexes : List Keys) (client row : ℕ) (m : Move) (owner : Option ℕ) (places : Places) (keepers : Keepers) (new : Keys) (within : m.index < length indexes)
    (places_are : places_of indexes ≡ with_place places m row owner) (keepers_are : keepers_of indexes ≡ with_keeper keepers m client)
    (restores : Restores m row places keepers (index_at indexes m.index) new) where
  abbrev changed : List Keys
  changed = slice_set indexes m.index new

  here : (j : ℕ) → j ≡ m.index → index_at changed j ≡ new
  here j e = get_or-set_at indexes m.index j new map.empty e within

  elsewhere : (j : ℕ) → j ≢ m.index → index_at changed j ≡ index_at indexes j
  elsewhere j ne = get_or-set_other indexes m.index j new map.empty ne

  other_place : (j : ℕ) (key : List ℕ) (at : ℕ) → (IsAt m row j key at → ⊥) → place_at (index_at indexes j) key at ≡ places j key at
  other_place j key at never = ap (λ (p : Places). p j key at) places_are ∙ not_placed_at places m row owner j key at never

  in_new : (key : List ℕ) (at : ℕ) → (key ≡ m.key) ⊎ (key ≢ m.key) → (at ≡ row) ⊎ (at ≢ row) → place_at new key at ≡ places m.index key at
  in_new key at (inr ne) row_is = restores.others key at ne ∙ other_place m.index key at (λ is. ne is.key_is)
  in_new key at (inl e) (inl row_is) = ap (λ (k : List ℕ). place_at new k at) e ∙ (ap (place_at new m.key) row_is ∙ (restores.place ∙ (ap (places m.index m.key) (sym row_is) ∙ ap (λ (k : List ℕ). places m.index k at) (sym e))))
  in_new key at (inl e) (inr ne) = ap (λ (k : List ℕ). place_at new k at) e ∙ (restores.rows at ne ∙ (other_place m.index m.key at (λ is. ne is.row_is) ∙ ap (λ (k : List ℕ). places m.index k at) (sym e)))

  place_restored : (j : ℕ) (key : List ℕ) (at : ℕ) → (j ≡ m.index) ⊎ (j ≢ m.index) → places_of changed j key at ≡ places j key at
  place_restored j key at (inl e) =
      ap (λ (k : Keys). place_at k key at) (here j e) ∙ (in_new key at (same_key_or_not key m.key) (cases_eq at row) ∙ ap (λ (i : ℕ). places i key at) (sym e))
  place_restored j key at (inr ne) = ap (λ (k : Keys). place_at k key at) (elsewhere j ne) ∙ other_place j key at (λ is. ne is.index)

  other_keeper : (j : ℕ) (key : List ℕ) → (j ≡ m.index → key ≡ m.key → ⊥) → keeper_of (index_at indexes j) key ≡ keepers j key
  other_keeper j key never = ap (λ (k : Keepers). k j key) keepers_are ∙ not_kept_at keepers m client j key never

  keeper_in_new : (key : List ℕ) → (key ≡ m.key) ⊎ (key ≢ m.key) → keeper_of new key ≡ keepers m.index key
  keeper_in_new key (inr ne) = restores.keepers_of_others key ne ∙ other_keeper m.index key (λ index_is key_is. ne key_is)
  keeper_in_new key (inl e) = ap (keeper_of new) e ∙ (restores.keeper ∙ ap (keepers m.index) (sym e))

  keeper_restored : (j : ℕ) (key : List ℕ) → (j ≡ m.index) ⊎ (j ≢ m.index) → keepers_of changed j key ≡ keepers j key
  keeper_restored j key (inl e) = ap (λ (k : Keys). keeper_of k key) (here j e) ∙ (keeper_in_new key (same_key_or_not key m.key) ∙ ap (λ (i : ℕ). keepers i key) (sym e))
  keeper_restored j key (inr ne) = ap (λ (k : Keys). keeper_of k key) (elsewhere j ne) ∙ other_keeper j key (λ index_is key_is. ne index_is)

  restored : (places_of changed ≡ places) × (keepers_of changed ≡ keepers)
  restored = ((λ i j key at. place_restored j key at (cases_eq j m.index) i), (λ i j key. keeper_restored j key (cases_eq j m.index) i))

-- ---- a move that entered

module _ (indexes : List Keys) (client row : ℕ) (m : Move) (was : Before) (places : Places) (keepers : Keepers) (before : IsBefore client row m was places keepers)
    (places_are : places_of indexes ≡ with_place places m row (owner_after client m)) (keepers_are : keepers_of indexes ≡ with_keeper keepers m client) where
  pub entry_there : IsEntry (index_at indexes m.index) m.key row
  entry_there =
      ap (λ (p : Places). p m.index m.key row) places_are ∙ (placed_own places m row (owner_after client m) ∙ ap (λ (b : Bool). Some (cond b None (Some client))) before.entered)

  keeper_now : keeper_of (index_at indexes m.index) m.key ≡ with_keeper keepers m client m.index m.key
  keeper_now = ap (λ (k : Keepers). k m.index m.key) keepers_are

  pub own_key : IsTrue m.unique → NoOtherKeeps (index_at indexes m.index) client m.key
  own_key unique other kept = let same : Some client ≡ Some other = sym (keeper_now ∙ kept_unique keepers m client unique) ∙ kept in cc

  by_forget : (new : Keys) → was.left ≡ false → Forgets (index_at indexes m.index) m.key row was.keeper new → Restores m row places keepers (index_at indexes m.index) new
  by_forget new empty forgets = record {
    place = forgets.place ∙ sym (before.place ∙ ap (λ (b : Bool). cond b (Some (Some client)) None) empty);
    rows = forgets.rows;
    others = forgets.places;
    keeper = forgets.keeper_is ∙ sym before.keeper;
    keepers_of_others = forgets.keepers;
  }

  keeper_left : (b : Bool) → m.unique ≡ b → was.left ≡ true → cond m.unique (Some client) (keeper_of (index_at indexes m.index) m.key) ≡ keepers m.index m.key
  keeper_left true unique left = ap (λ (b : Bool). cond b (Some client) (keeper_of (index_at indexes m.index) m.key)) unique ∙ sym (before.keeper ∙ before.own left unique)
  keeper_left false unique left = ap (λ (b : Bool). cond b (Some client) (keeper_of (index_at indexes m.index) m.key)) unique ∙ (keeper_now ∙ kept_not_unique keepers m client unique)

  by_leave : (new : Keys) → was.left ≡ true → Puts (index_at indexes m.index) client m.key row m.unique (Some client) new → Restores m row places keepers (index_at indexes m.index) new
  by_leave new left puts = record {
    place = puts.place ∙ sym (before.place ∙ ap (λ (b : Bool). cond b (Some (Some client)) None) left);
    rows = puts.rows;
    others = puts.places;
    keeper = puts.keeper ∙ keeper_left m.unique refl left;
    keepers_of_others = puts.keepers;
  }

  restores_by : (new : Keys) (b : Bool) → was.left ≡ b
      → (IsEntry (index_at indexes m.index) m.key row → was.left ≡ false → Forgets (index_at indexes m.index) m.key row was.keeper new)
      → (IsEntry (index_at indexes m.index) m.key row → was.left ≡ true → (IsTrue m.unique → NoOtherKeeps (index_at indexes m.index) client m.key) → Puts (index_at indexes m.index) client m.key row m.unique (Some client) new)
      → Restores m row places keepers (index_at indexes m.index) new
  restores_by new false e empty left = by_forget new e (empty entry_there e)
  restores_by new true e empty left = by_leave new e (left entry_there e own_key)

  pub forgotten : (new : Keys) → m.index < length indexes
      → (IsEntry (index_at indexes m.index) m.key row → was.left ≡ false → Forgets (index_at indexes m.index) m.key row was.keeper new)
      → (IsEntry (index_at indexes m.index) m.key row → was.left ≡ true → (IsTrue m.unique → NoOtherKeeps (index_at indexes m.index) client m.key) → Puts (index_at indexes m.index) client m.key row m.unique (Some client) new)
      → (places_of (slice_set indexes m.index new) ≡ places) × (keepers_of (slice_set indexes m.index new) ≡ keepers)
  forgotten new within empty left = restored indexes client row m (owner_after client m) places keepers new within places_are keepers_are (restores_by new was.left refl empty left)

  -- a move that entered is in one of the indexes
  pub is_within : length indexes ≤ m.index → ⊥
  is_within out =
      let clash : None ≡ Some None =
      sym (ap (λ (k : Keys). place_at k m.key row) (get_or_past indexes m.index map.empty out) ∙ ap (option_and_then (λ (n : Node). map.get n.rows row)) (map.get-empty (slice_cmp nat_cmp) m.key)) ∙ entry_there in
      cc
