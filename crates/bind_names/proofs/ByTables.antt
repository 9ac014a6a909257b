-- Buffers by their tables: how they are grouped, and what is found in the groups.
use Rattle.std.proofs.Common.{◌≡◌, ◌∙◌, ◌<◌, ℕ, zero, suc, Bool, true, false, List, [], ◌∷◌, ◌++◌, length, Some, None, refl, sym, ap, subst, arith, append_assoc, append-nil, slice_index_or, slice_set, cond, drop, ◌+◌}
use Rattle.std.specs.Prelude.{◌&&◌, IsPermutation}
use Rattle.std.specs.List.{All, filter}
use Rattle.std.specs.Option.{is_some}
use Rattle.std.proofs.lemmas.List.{at_drop_more}
use Rattle.std.proofs.lemmas.List.Elements.{All-cons, All-head, All-nil, All-push, All-set, All-tail}
use Rattle.std.proofs.lemmas.List.Sorted.{All-permutation, IsPermutation-append_left, IsPermutation-append_right, IsPermutation-refl, IsPermutation-sym, IsPermutation-to_front, IsPermutation-trans, sum_by-IsPermutation}
use Rattle.std.proofs.lemmas.List.Sums.{length-filter}
use Rattle.abl_values.specs.Schema.{field_named}
use Rattle.bind_names.specs.declared.by_table.TableGroup.{TableGroup}
use Rattle.bind_names.specs.declared.among.Having.{Having}
use Rattle.bind_names.specs.declared.among.Having.TheVariants as h
use Rattle.bind_names.specs.declared.names.NamedBuffer.{NamedBuffer}
use Rattle.bind_names.specs.Among.{IsFinding, is_known}
use Rattle.bind_names.specs.ByTable.{IsGrouping, IsOfItsTable, all_of, no_group, with_more}
use Rattle.bind_names.specs.Names.{Scene, has_field}
use Rattle.bind_names.specs.Views.{IsHaving, buffer_of}

-- ---- grouping

all_set : (gs : List TableGroup) (i : ℕ) (b : NamedBuffer) → i < length gs → IsPermutation (all_of gs ++ b ∷ []) (all_of (slice_set gs i (with_more (slice_index_or gs i no_group) b)))
all_set [] i b lt = absurd (omega arith)
all_set (g ∷ gs) zero b lt =
    subst (λ l. IsPermutation l ((g.buffers ++ b ∷ []) ++ all_of gs)) (sym (append_assoc g.buffers (all_of gs) (b ∷ [])))
    (subst (IsPermutation (g.buffers ++ (all_of gs ++ b ∷ []))) (sym (append_assoc g.buffers (b ∷ []) (all_of gs))) (IsPermutation-append_right g.buffers _ _ (IsPermutation-to_front (all_of gs) b)))
all_set (g ∷ gs) (suc i) b lt =
    subst (λ l. IsPermutation l (g.buffers ++ all_of (slice_set gs i (with_more (slice_index_or gs i no_group) b)))) (sym (append_assoc g.buffers (all_of gs) (b ∷ [])))
    (IsPermutation-append_right g.buffers _ _ (all_set gs i b (omega arith)))

all_more : (gs : List TableGroup) (g : TableGroup) → all_of (gs ++ g ∷ []) ≡ all_of gs ++ g.buffers
all_more [] g = append-nil g.buffers
all_more (f ∷ gs) g = ap (λ l. f.buffers ++ l) (all_more gs g) ∙ sym (append_assoc f.buffers (all_of gs) g.buffers)

more_left : (all left xs ys : List NamedBuffer) (b : NamedBuffer) → IsPermutation (xs ++ b ∷ []) ys → IsPermutation all (xs ++ b ∷ left) → IsPermutation all (ys ++ left)
more_left all left xs ys b h k =
    IsPermutation-trans _ _ _ (subst (IsPermutation all) (sym (append_assoc xs (b ∷ []) left)) k) (IsPermutation-append_left left (xs ++ b ∷ []) ys h)

pub none_grouped : (all : List NamedBuffer) → IsGrouping all all []
none_grouped all = record { shuffled = IsPermutation-refl all; tables = All-nil IsOfItsTable }

pub put_keeps : (all left : List NamedBuffer) (gs new : List TableGroup) (i : ℕ) (b : NamedBuffer) → new ≡ slice_set gs i (with_more (slice_index_or gs i no_group) b) → i < length gs → (slice_index_or gs i no_group).table ≡ b.table →
    IsGrouping all (b ∷ left) gs → IsGrouping all left new
put_keeps all left gs new i b is lt e h = subst (IsGrouping all left) (sym is) (record {
  shuffled = more_left all left (all_of gs) _ b (all_set gs i b lt) h.shuffled;
  tables = All-set IsOfItsTable gs i _ (All-push (λ c. c.table ≡ (slice_index_or gs i no_group).table) (slice_index_or gs i no_group).buffers b (h.tables i no_group lt) (sym e)) h.tables;
})

pub new_keeps : (all left : List NamedBuffer) (gs new : List TableGroup) (b : NamedBuffer) → new ≡ gs ++ with_more (record { table = b.table; buffers = [] }) b ∷ [] → IsGrouping all (b ∷ left) gs → IsGrouping all left new
new_keeps all left gs new b is h =
    let g : TableGroup = record { table = b.table; buffers = b ∷ [] } in
    subst (IsGrouping all left) (sym is) (record {
      shuffled = more_left all left (all_of gs) _ b (subst (IsPermutation (all_of gs ++ b ∷ [])) (sym (all_more gs g)) (IsPermutation-refl (all_of gs ++ b ∷ []))) h.shuffled;
      tables = All-push IsOfItsTable gs g h.tables (All-cons (λ c. c.table ≡ b.table) b [] refl (All-nil (λ c. c.table ≡ b.table)));
    })

pub next_grouped : (all : List NamedBuffer) (i : ℕ) (b : NamedBuffer) (gs : List TableGroup) → i < length all → b ≡ slice_index_or all i b → IsGrouping all (drop i all) gs → IsGrouping all (b ∷ drop (i + 1) all) gs
next_grouped all i b gs lt is h =
    record { shuffled = subst (λ (l : List NamedBuffer). IsPermutation all (all_of gs ++ l)) (at_drop_more (λ (l : List NamedBuffer). l) all i b lt ∙ ap (λ c. c ∷ drop (i + 1) all) (sym is)) h.shuffled; tables = h.tables }

-- ---- of two lists together

pub two_ones : (xs ys : List NamedBuffer) (a b : NamedBuffer) → xs ≡ a ∷ [] → ys ≡ b ∷ [] → (x y : NamedBuffer) × (rest : List NamedBuffer) × (xs ++ ys ≡ x ∷ (y ∷ rest))
two_ones xs ys a b e f = (a, b, [], ap (λ l. l ++ ys) e ∙ ap (λ l. a ∷ l) f)

pub one_more_than : (xs ys : List NamedBuffer) (a : NamedBuffer) → xs ≡ a ∷ [] → ((x y : NamedBuffer) × (rest : List NamedBuffer) × (ys ≡ x ∷ (y ∷ rest))) → (x y : NamedBuffer) × (rest : List NamedBuffer) × (xs ++ ys ≡ x ∷ (y ∷ rest))
one_more_than xs ys a e f = (a, f.0, f.1 ∷ f.2, ap (λ l. l ++ ys) e ∙ ap (λ l. a ∷ l) f.3)

pub several_and : (xs ys : List NamedBuffer) → ((x y : NamedBuffer) × (rest : List NamedBuffer) × (xs ≡ x ∷ (y ∷ rest))) → (x y : NamedBuffer) × (rest : List NamedBuffer) × (xs ++ ys ≡ x ∷ (y ∷ rest))
several_and xs ys e = (e.0, e.1, e.2 ++ ys, ap (λ l. l ++ ys) e.3)

-- ---- what passes a test in all groups, one after the other

filter_append : (p : NamedBuffer → Bool) (xs ys : List NamedBuffer) → filter p (xs ++ ys) ≡ filter p xs ++ filter p ys
filter_append p [] ys = refl
filter_append p (x ∷ xs) ys = go (p x) (filter_append p xs ys)
  where
    go : (c : Bool) → filter p (xs ++ ys) ≡ filter p xs ++ filter p ys → cond c (x ∷ filter p (xs ++ ys)) (filter p (xs ++ ys)) ≡ cond c (x ∷ filter p xs) (filter p xs) ++ filter p ys
    go true e = ap (λ l. x ∷ l) e
    go false e = e

pub nothing_found : (p : NamedBuffer → Bool) (gs : List TableGroup) → All IsOfItsTable gs → IsFinding p (filter p (all_of gs)) gs h.None
nothing_found p gs t = record { passed = []; rest = refl; having = refl; tables = t }

pub found_more : (p : NamedBuffer → Bool) (wanted : List NamedBuffer) (g : TableGroup) (left : List TableGroup) (found more : Having) →
    (IsOfItsTable g → (xs : List NamedBuffer) → IsHaving xs found → IsHaving (xs ++ filter p g.buffers) more) → IsFinding p wanted (g ∷ left) found → IsFinding p wanted left more
found_more p wanted g left found more step f = record {
  passed = f.passed ++ filter p g.buffers;
  rest = f.rest ∙ ap (λ l. f.passed ++ l) (filter_append p g.buffers (all_of left)) ∙ sym (append_assoc f.passed (filter p g.buffers) (filter p (all_of left)));
  having = step (All-head IsOfItsTable g left f.tables) f.passed f.having;
  tables = All-tail IsOfItsTable g left f.tables;
}

pub all_found : (p : NamedBuffer → Bool) (wanted : List NamedBuffer) (found : Having) → IsFinding p wanted [] found → IsHaving wanted found
all_found p wanted found f = subst (λ l. IsHaving l found) (sym (f.rest ∙ append-nil f.passed)) f.having

-- ---- the order of the buffers does not matter

same_length : (p : NamedBuffer → Bool) (xs ys : List NamedBuffer) → IsPermutation xs ys → length (filter p xs) ≡ length (filter p ys)
same_length p xs ys s = length-filter p xs ∙ sym (sum_by-IsPermutation (λ x. cond (p x) 1 0) xs ys s) ∙ sym (length-filter p ys)

no_more : (l : List NamedBuffer) → length l ≡ 0 → l ≡ []
no_more [] e = refl
no_more (x ∷ l) e = absurd (omega arith)

two_more : (l : List NamedBuffer) (n : ℕ) → length l ≡ suc (suc n) → (x y : NamedBuffer) × (rest : List NamedBuffer) × (l ≡ x ∷ (y ∷ rest))
two_more [] n e = absurd (omega arith)
two_more (x ∷ []) n e = absurd (omega arith)
two_more (x ∷ (y ∷ l)) n e = (x, y, l, refl)

-- each that passes is this one
none_passes : (p : NamedBuffer → Bool) (b : NamedBuffer) (xs : List NamedBuffer) → filter p xs ≡ [] → All (λ x. p x ≡ true → x ≡ b) xs
none_passes p b [] e = All-nil (λ x. p x ≡ true → x ≡ b)
none_passes p b (x ∷ xs) e = go (p x) refl e (none_passes p b xs)
  where
    go : (c : Bool) → p x ≡ c → cond c (x ∷ filter p xs) (filter p xs) ≡ [] → (filter p xs ≡ [] → All (λ x. p x ≡ true → x ≡ b) xs) → All (λ x. p x ≡ true → x ≡ b) (x ∷ xs)
    go true is f later = absurd cc
    go false is f later = All-cons (λ x. p x ≡ true → x ≡ b) x xs (λ t. absurd cc) (later f)

one_passes : (p : NamedBuffer → Bool) (b : NamedBuffer) (xs : List NamedBuffer) → filter p xs ≡ b ∷ [] → All (λ x. p x ≡ true → x ≡ b) xs
one_passes p b [] e = absurd cc
one_passes p b (x ∷ xs) e = go (p x) refl e (one_passes p b xs)
  where
    go : (c : Bool) → p x ≡ c → cond c (x ∷ filter p xs) (filter p xs) ≡ b ∷ [] → (filter p xs ≡ b ∷ [] → All (λ x. p x ≡ true → x ≡ b) xs) → All (λ x. p x ≡ true → x ≡ b) (x ∷ xs)
    go true is f later =
        let same : x ≡ b = cc in
        let rest : filter p xs ≡ [] = cc in
        All-cons (λ x. p x ≡ true → x ≡ b) x xs (λ t. same) (none_passes p b xs rest)
    go false is f later = All-cons (λ x. p x ≡ true → x ≡ b) x xs (λ t. absurd cc) (later f)

one_left : (p : NamedBuffer → Bool) (b : NamedBuffer) (xs : List NamedBuffer) → length (filter p xs) ≡ 1 → All (λ x. p x ≡ true → x ≡ b) xs → filter p xs ≡ b ∷ []
one_left p b [] e only = absurd (omega arith)
one_left p b (x ∷ xs) e only = go (p x) refl e (λ f. one_left p b xs f (All-tail (λ x. p x ≡ true → x ≡ b) x xs only))
  where
    go : (c : Bool) → p x ≡ c → length (cond c (x ∷ filter p xs) (filter p xs)) ≡ 1 → (length (filter p xs) ≡ 1 → filter p xs ≡ b ∷ []) → cond c (x ∷ filter p xs) (filter p xs) ≡ b ∷ []
    go true is f later =
        let same : x ≡ b = All-head (λ x. p x ≡ true → x ≡ b) x xs only is in
        let rest : filter p xs ≡ [] = no_more (filter p xs) (omega arith) in
        ap (λ y. y ∷ filter p xs) same ∙ ap (λ l. b ∷ l) rest
    go false is f later = later f

shuffled : (p : NamedBuffer → Bool) (xs ys : List NamedBuffer) (found : Having) → IsPermutation xs ys → IsHaving (filter p ys) found → IsHaving (filter p xs) found
shuffled p xs ys h.None s e = no_more (filter p xs) (same_length p xs ys s ∙ ap length e)
shuffled p xs ys (h.One b) s e =
    one_left p (buffer_of b) xs (same_length p xs ys s ∙ ap length e) (All-permutation (λ x. p x ≡ true → x ≡ buffer_of b) ys xs (IsPermutation-sym xs ys s) (one_passes p (buffer_of b) ys e))
shuffled p xs ys h.Several s e = two_more (filter p xs) (length e.2) (same_length p xs ys s ∙ ap length e.3)

pub in_any_order : (p : NamedBuffer → Bool) (buffers : List NamedBuffer) (gs : List TableGroup) (found : Having) → IsGrouping buffers [] gs → IsHaving (filter p (all_of gs)) found → IsHaving (filter p buffers) found
in_any_order p buffers gs found g e = shuffled p buffers (all_of gs) found (subst (IsPermutation buffers) (append-nil (all_of gs)) g.shuffled) e

-- ---- the field of one table

with_field_of : (w : Scene) (name : List ℕ) (t f : ℕ) (bs : List NamedBuffer) → field_named w.context.schema t name ≡ Some f → All (λ b. b.table ≡ t) bs → filter (has_field w name) bs ≡ filter (is_known w) bs
with_field_of w name t f [] e of_it = refl
with_field_of w name t f (b ∷ bs) e of_it =
    let is : has_field w name b ≡ is_known w b = ap (λ n. is_known w b && is_some (field_named w.context.schema n name)) (All-head (λ b. b.table ≡ t) b bs of_it) ∙ ap (λ o. is_known w b && is_some o) e ∙ and_true (is_known w b) in
    ap (λ c. cond c (b ∷ filter (has_field w name) bs) (filter (has_field w name) bs)) is ∙ ap (λ l. cond (is_known w b) (b ∷ l) l) (with_field_of w name t f bs e (All-tail (λ b. b.table ≡ t) b bs of_it))
  where
    and_true : (c : Bool) → (c && true) ≡ c
    and_true true = refl
    and_true false = refl

without_field_of : (w : Scene) (name : List ℕ) (t : ℕ) (bs : List NamedBuffer) → field_named w.context.schema t name ≡ None → All (λ b. b.table ≡ t) bs → filter (has_field w name) bs ≡ []
without_field_of w name t [] e of_it = refl
without_field_of w name t (b ∷ bs) e of_it =
    let is : has_field w name b ≡ false = ap (λ n. is_known w b && is_some (field_named w.context.schema n name)) (All-head (λ b. b.table ≡ t) b bs of_it) ∙ ap (λ o. is_known w b && is_some o) e ∙ and_false (is_known w b) in
    ap (λ c. cond c (b ∷ filter (has_field w name) bs) (filter (has_field w name) bs)) is ∙ without_field_of w name t bs e (All-tail (λ b. b.table ≡ t) b bs of_it)
  where
    and_false : (c : Bool) → (c && false) ≡ false
    and_false true = refl
    and_false false = refl

pub with_the_field : (w : Scene) (name : List ℕ) (g : TableGroup) (f : ℕ) (found : Having) → field_named w.context.schema g.table name ≡ Some f → IsHaving (filter (is_known w) g.buffers) found → IsOfItsTable g → IsHaving (filter (has_field w name) g.buffers) found
with_the_field w name g f found e having of_it = subst (λ l. IsHaving l found) (sym (with_field_of w name g.table f g.buffers e of_it)) having

pub without_the_field : (w : Scene) (name : List ℕ) (g : TableGroup) → field_named w.context.schema g.table name ≡ None → IsOfItsTable g → filter (has_field w name) g.buffers ≡ []
without_the_field w name g e of_it = without_field_of w name g.table g.buffers e of_it
