-- A sound table stays sound.
use Rattle.std.proofs.Common.{◌≡◌, ◌≢◌, ⊎_elim, ℕ, zero, suc, ◌<◌, ◌≤◌, Bool, true, false, ◌||◌, List, [], ◌∷◌, ◌++◌, length, get_or, map, refl, sym, ap, ◌∙◌, subst, arith, length-append}
use Rattle.std.specs.Prelude.{All, IfSome}
use Rattle.std.proofs.lemmas.Bool.{cases_lt, or_from, or_parts}
use Rattle.std.proofs.lemmas.List.{length-map, map-append}
use Rattle.std.proofs.lemmas.List.Elements.{All-map, All-push, All-weaker}
use Rattle.std.proofs.lemmas.List.Folds.{list_any-append}
use Rattle.abl_values.specs.declared.schema.FieldDef.{FieldDef}
use Rattle.abl_values.specs.declared.schema.IndexDef.{IndexDef}
use Rattle.abl_values.specs.declared.schema.KeyPart.{KeyPart}
use Rattle.abl_values.specs.declared.schema.TableDef.{TableDef}
use Rattle.abl_values.specs.Schema.{field_names, same_name}
use Rattle.abl_values.specs.Sound.{IsSoundField, IsSoundIndex, IsSoundTable, has_twice, is_among}
use Rattle.stored_schema.proofs.Names.{same_name-back}
use Rattle.table_changes.specs.Changes.{index_after, number_after, part_after, table_with, table_without, without}
use Rattle.table_changes.proofs.Numbers.{number-before, number-past, place, place-within, without-at, without-length}

-- ---- names

swap_false : (a b : List ℕ) → same_name a b ≡ false → same_name b a ≡ false
swap_false a b h = by_test (same_name b a) refl
  where
    by_test : (t : Bool) → same_name b a ≡ t → same_name b a ≡ false
    by_test true is = absurd (differ (sym (same_name-back b a is) ∙ h))
      where
        differ : true ≡ false → ⊥
        differ e = cc
    by_test false is = is

has_twice_push : (names : List (List ℕ)) (name : List ℕ) → has_twice names ≡ false → is_among name names ≡ false → has_twice (names ++ name ∷ []) ≡ false
has_twice_push [] name h new = refl
has_twice_push (n ∷ ns) name h new =
    let parts = or_parts (is_among n ns) (has_twice ns) h in
    let apart = or_parts (same_name n name) (is_among name ns) new in
    let others : is_among n (ns ++ name ∷ []) ≡ false = list_any-append (λ m. same_name m n) ns (name ∷ []) ∙ or_from (is_among n ns) (same_name name n || false) parts.0 (or_from (same_name name n) false (swap_false n name apart.0) refl) in
    or_from (is_among n (ns ++ name ∷ [])) (has_twice (ns ++ name ∷ [])) others (has_twice_push ns name parts.1 apart.1)

not_among_fewer : (name : List ℕ) (names : List (List ℕ)) (n : ℕ) → is_among name names ≡ false → is_among name (without n names) ≡ false
not_among_fewer name [] n h = refl
not_among_fewer name (x ∷ xs) zero h = (or_parts (same_name x name) (is_among name xs) h).1
not_among_fewer name (x ∷ xs) (suc n) h =
    let parts = or_parts (same_name x name) (is_among name xs) h in
    or_from (same_name x name) (is_among name (without n xs)) parts.0 (not_among_fewer name xs n parts.1)

once_fewer : (names : List (List ℕ)) (n : ℕ) → has_twice names ≡ false → has_twice (without n names) ≡ false
once_fewer [] n h = refl
once_fewer (x ∷ xs) zero h = (or_parts (is_among x xs) (has_twice xs) h).1
once_fewer (x ∷ xs) (suc n) h =
    let parts = or_parts (is_among x xs) (has_twice xs) h in
    or_from (is_among x (without n xs)) (has_twice (without n xs)) (not_among_fewer x xs n parts.0) (once_fewer xs n parts.1)

names-fewer : (fs : List FieldDef) (n : ℕ) → field_names (without n fs) ≡ without n (field_names fs)
names-fewer [] n = refl
names-fewer (f ∷ fs) zero = refl
names-fewer (f ∷ fs) (suc n) = ap (λ (ns : List (List ℕ)). f.name ∷ ns) (names-fewer fs n)

-- ---- one field more

wider : (m n : ℕ) → m ≤ n → (i : IndexDef) → IsSoundIndex m i → IsSoundIndex n i
wider m n le i h = record { name = h.name; parts = λ k d lt. omega (arith, le, h.parts k d lt) }

pub sound-with : (t : TableDef) (f : FieldDef) → IsSoundTable t → IsSoundField f → is_among f.name (field_names t.fields) ≡ false → IsSoundTable (table_with f t)
sound-with t f h one new =
    let more : length t.fields ≤ length (t.fields ++ f ∷ []) = omega (arith, length-append t.fields (f ∷ [])) in
    record {
      name = h.name;
      fields = All-push IsSoundField t.fields f h.fields one;
      apart = ap has_twice (map-append (λ (g : FieldDef). g.name) t.fields (f ∷ [])) ∙ has_twice_push (field_names t.fields) f.name h.apart new;
      indexes = All-weaker (IsSoundIndex (length t.fields)) (IsSoundIndex (length (t.fields ++ f ∷ []))) (wider (length t.fields) (length (t.fields ++ f ∷ [])) more) t.indexes h.indexes;
      primary = h.primary;
    }

-- ---- one field less

all_fewer : {X : Type 0} (P : X → Type 0) (n : ℕ) (xs : List X) → n < length xs → All P xs → All P (without n xs)
all_fewer P n xs lt h k d low =
    subst P (sym (without-at n xs k d)) (h (place n k) d (inside (place-within n k (length (without n xs)) low) (without-length n xs lt)))
  where
    inside : place n k < suc (length (without n xs)) → suc (length (without n xs)) ≡ length xs → place n k < length xs
    inside less same = omega (arith, less, same)

number-low : (n k m : ℕ) → k ≢ n → k < suc m → n < suc m → number_after n k < m
number-low n k m other ltk ltn =
    ⊎_elim (λ (low : k < n). omega (arith, low, ltn, number-before n k (omega (arith, low))))
    (λ (high : n ≤ k). ⊎_elim (λ (past : n < k). omega (arith, past, ltk, number-past n k past)) (λ (same : k ≤ n). absurd (other (let is : k ≡ n = omega (arith, high, same) in is))) (cases_lt n k)) (cases_lt k n)

parts_fewer : (n m : ℕ) (ps : List KeyPart) → n < suc m → All (λ (p : KeyPart). p.field ≢ n) ps → All (λ (p : KeyPart). p.field < suc m) ps → All (λ (p : KeyPart). p.field < m) (map (part_after n) ps)
parts_fewer n m ps ltn other low =
    All-map (λ (p : KeyPart). p.field < m) (part_after n) ps (λ k d lt. number-low n (get_or ps k d).field m (other k d lt) (low k d lt) ltn)

index_fewer : (n m : ℕ) (i : IndexDef) → n < suc m → All (λ (p : KeyPart). p.field ≢ n) i.parts → IsSoundIndex (suc m) i → IsSoundIndex m (index_after n i)
index_fewer n m i ltn other h = record { name = h.name; parts = parts_fewer n m i.parts ltn other h.parts }

pub sound-without : (t : TableDef) (n : ℕ) → IsSoundTable t → n < length t.fields → All (λ (i : IndexDef). All (λ (p : KeyPart). p.field ≢ n) i.parts) t.indexes → IsSoundTable (table_without n t)
sound-without t n h lt free =
    let m = length (without n t.fields) in
    let long : suc m ≡ length t.fields = without-length n t.fields lt in
    let ltn : n < suc m = omega (arith, lt, long) in
    record {
      name = h.name;
      fields = all_fewer IsSoundField n t.fields lt h.fields;
      apart = ap has_twice (names-fewer t.fields n) ∙ once_fewer (field_names t.fields) n h.apart;
      indexes = All-map (IsSoundIndex m) (index_after n) t.indexes (λ k d low. index_fewer n m (get_or t.indexes k d) ltn (free k d low) (subst (λ (count : ℕ). IsSoundIndex count (get_or t.indexes k d)) (sym long) (h.indexes k d low)));
      primary = subst (λ (count : ℕ). IfSome t.primary (λ k. k < count)) (sym (length-map t.indexes (index_after n))) h.primary;
    }
