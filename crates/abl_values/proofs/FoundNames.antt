-- A name found by its key is the first that is the same.
use Rattle.std.proofs.Common.{◌≡◌, ◌≢◌, ℕ, zero, suc, ◌+◌, ◌==◌, ◌<◌, ◌≤◌, ◌&&◌, if◌then◌else◌, Bool, true, false, cond, List, [], ◌∷◌, ◌++◌, map, length, Option, Some, None, refl, sym, ap, subst, ◌∙◌, true≢false, inl, inr, arith}
use Rattle.std.specs.List.{position, position_from}
use Rattle.std.proofs.lemmas.List.{map-append}
use Rattle.std.proofs.lemmas.List.Elements.{All-append}
use Rattle.std.specs.Map.{keys_of, values_of}
use Rattle.indexmap.specs.IndexMap.{IndexMap, keys, values, get, insert_entry}
use Rattle.indexmap.proofs.CallerLemmas.{insert_entry-new}
use Rattle.std.specs.Cmp.Lexicographic.{pointwise}
use Rattle.std.specs.Prelude.{nat_eq}
use Rattle.std.proofs.lemmas.Iterator.Adapters.{position_from-zero}
use Rattle.std.proofs.lemmas.Bool.{cases_lt}
use Rattle.std.proofs.lemmas.Bool.Decides.{nat_tests}
use Rattle.abl_base.specs.declared.limits.TheConstants.{MAX_NAME_BYTES}
use Rattle.arrayvec.specs.ArrayVec.{ArrayVec}
use Rattle.abl_values.specs.Order.{folded}
use Rattle.abl_values.specs.Masks.{same_bytes}
use Rattle.std.specs.List.{All}
use Rattle.abl_values.specs.Names.{key_of, IsShort, HaveKeys}
use Rattle.abl_values.proofs.SameNames.{same_name-length}
use Rattle.abl_values.specs.Schema.{same_name, number_of_name}

eq_swap : (x y : ℕ) → nat_eq x y ≡ (y == x)
eq_swap x y = grind (arith, nat_tests)

pointwise_same : (xs ys : List ℕ) → pointwise nat_eq xs ys ≡ same_bytes ys xs
pointwise_same [] [] = refl
pointwise_same [] (y ∷ ys) = refl
pointwise_same (x ∷ xs) [] = refl
pointwise_same (x ∷ xs) (y ∷ ys) = ap (λ b. b && pointwise nat_eq xs ys) (eq_swap x y) ∙ ap (λ b. (y == x) && b) (pointwise_same xs ys)

-- the key is found from a place on as the name is
from_place : (names : List (List ℕ)) (name : List ℕ) (n : ℕ) → position_from (λ (k : ArrayVec ℕ). pointwise nat_eq (folded name) k.items) n (map key_of names) ≡ number_of_name n names name
from_place [] name n = refl
from_place (x ∷ xs) name n =
    ap (λ b. cond b (Some n) (position_from (λ (k : ArrayVec ℕ). pointwise nat_eq (folded name) k.items) (n + 1) (map key_of xs))) (pointwise_same (folded name) (folded x))
    ∙ ap (λ o. cond (same_name x name) (Some n) o) (from_place xs name (n + 1))

pub found_by_key : (names : List (List ℕ)) (name : List ℕ) → position (λ (k : ArrayVec ℕ). pointwise nat_eq (folded name) k.items) (map key_of names) ≡ number_of_name 0 names name
found_by_key names name = position_from-zero (λ (k : ArrayVec ℕ). pointwise nat_eq (folded name) k.items) (map key_of names) ∙ from_place names name 0

-- a name that is too long is nowhere
not_among_short : (names : List (List ℕ)) (name : List ℕ) (n : ℕ) → All IsShort names → MAX_NAME_BYTES < length name → number_of_name n names name ≡ None
not_among_short [] name n h long = refl
not_among_short (x ∷ xs) name n h long =
    ap (λ b. if b then Some n else number_of_name (n + 1) xs name) (same_name-length x name (longer (length x) (length name) (h 0 [] (omega arith)) long))
    ∙ not_among_short xs name (n + 1) (λ k d low. h (suc k) d (omega arith)) long
  where
    longer : (a b : ℕ) → a ≤ MAX_NAME_BYTES → MAX_NAME_BYTES < b → a ≢ b
    longer a b ha hb e = omega arith

one_short : (name : List ℕ) → length name ≤ MAX_NAME_BYTES → All IsShort (name ∷ [])
one_short name h zero d low = h
one_short name h (suc k) d low = absurd (omega arith)

-- a name that has a key is short
pub short_where_key : {shown name : List ℕ} → shown ≡ name → (MAX_NAME_BYTES < length shown → true ≡ false) → length name ≤ MAX_NAME_BYTES
short_where_key {shown} e h =
    subst (λ (k : List ℕ). length k ≤ MAX_NAME_BYTES) e (elim (cases_lt MAX_NAME_BYTES (length shown)) [ inl long ↦ absurd (true≢false (h long)) | inr low ↦ low ])

module _ {X : Type 0} (name_of : X → List ℕ) where
  -- what a look-up by the key finds
  pub found_number : {r : Option ℕ} {items seen : List X} {keys : List (ArrayVec ℕ)} {key : ArrayVec ℕ} (name : List ℕ) → HaveKeys (map name_of items) keys → items ≡ seen → key ≡ key_of name
      → r ≡ position (λ (k : ArrayVec ℕ). pointwise nat_eq key.items k.items) keys → r ≡ number_of_name 0 (map name_of seen) name
  found_number {items} {keys} name h same e at =
      at ∙ ap (λ (key : ArrayVec ℕ). position (λ (k : ArrayVec ℕ). pointwise nat_eq key.items k.items) keys) e
      ∙ ap (position (λ (k : ArrayVec ℕ). pointwise nat_eq (folded name) k.items)) h.keys_are
      ∙ found_by_key (map name_of items) name ∙ ap (λ (ts : List X). number_of_name 0 (map name_of ts) name) same

  pub found_nowhere : {r : Option ℕ} {items seen : List X} {keys : List (ArrayVec ℕ)} (name : List ℕ) → HaveKeys (map name_of items) keys → items ≡ seen → MAX_NAME_BYTES < length name
      → r ≡ None → r ≡ number_of_name 0 (map name_of seen) name
  found_nowhere {items} name h same long at =
      at ∙ sym (not_among_short (map name_of items) name 0 h.short long) ∙ ap (λ (ts : List X). number_of_name 0 (map name_of ts) name) same

  module _ {S : Type 0} (m after : IndexMap (ArrayVec ℕ) X S) (key : ArrayVec ℕ) (item : X) where
    abbrev pub same_key : ArrayVec ℕ → ArrayVec ℕ → Bool
    same_key j k = pointwise nat_eq j.items k.items

    added_last : get same_key m key ≡ None → after.entries ≡ insert_entry same_key m.entries key item → after.entries ≡ m.entries ++ (key, item) ∷ []
    added_last none at = at ∙ insert_entry-new same_key m key item none

    pub values_after : get same_key m key ≡ None → after.entries ≡ insert_entry same_key m.entries key item → values after ≡ values m ++ item ∷ []
    values_after none at = ap values_of (added_last none at) ∙ map-append (λ (e : ArrayVec ℕ × X). e.1) m.entries ((key, item) ∷ [])

    keys_after : get same_key m key ≡ None → after.entries ≡ insert_entry same_key m.entries key item → keys after ≡ keys m ++ key ∷ []
    keys_after none at = ap keys_of (added_last none at) ∙ map-append (λ (e : ArrayVec ℕ × X). e.0) m.entries ((key, item) ∷ [])

    -- the keys stay those of the names
    pub keys_stay : get same_key m key ≡ None → after.entries ≡ insert_entry same_key m.entries key item → HaveKeys (map name_of (values m)) (keys m) → key ≡ key_of (name_of item)
        → length (name_of item) ≤ MAX_NAME_BYTES → HaveKeys (map name_of (values after)) (keys after)
    keys_stay none at h e short =
        let names : map name_of (values after) ≡ map name_of (values m) ++ name_of item ∷ [] = ap (map name_of) (values_after none at) ∙ map-append name_of (values m) (item ∷ []) in
        record {
          keys_are =
              keys_after none at ∙ ap (λ (ks : List (ArrayVec ℕ)). ks ++ key ∷ []) h.keys_are ∙ ap (λ (k : ArrayVec ℕ). map key_of (map name_of (values m)) ++ k ∷ []) e
              ∙ sym (map-append key_of (map name_of (values m)) (name_of item ∷ [])) ∙ ap (map key_of) (sym names);
          short = subst (All IsShort) (sym names) (All-append IsShort (map name_of (values m)) (name_of item ∷ []) h.short (one_short (name_of item) short));
        }
