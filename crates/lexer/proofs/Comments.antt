-- Steps through a comment.
use Rattle.std.proofs.Common.{ℕ, zero, suc, ◌+◌, ◌<◌, ◌≤◌, ◌≡◌, Bool, true, false, ◌&&◌, List, [], ◌∷◌, length, drop, Option, Some, None, refl, sym, ◌∙◌, ap, arith, length-drop}
use Rattle.std.specs.Prelude.{◌==◌, slice_index}
use Rattle.lexer.specs.Bytes.{pair_at, slash, star}
use Rattle.lexer.specs.Forms.{plus}
use Rattle.lexer.specs.Gaps.{comment}
use Rattle.std.proofs.lemmas.Bool.{cond-true, cond-false}

record Two (text : List ℕ) (i : ℕ) : Type 0 where
  b : ℕ
  c : ℕ
  rest : List ℕ
  at_i : drop i text ≡ b ∷ c ∷ rest
  next : drop (suc i) text ≡ c ∷ rest
  after : drop (suc (suc i)) text ≡ rest
  first : slice_index text i ≡ b
  second : slice_index text (suc i) ≡ c

two : (text : List ℕ) (i : ℕ) → suc i < length text → Two text i
two [] i h = absurd (omega arith)
two (b ∷ []) i h = absurd (omega arith)
two (b ∷ c ∷ rest) zero h = record { b = b; c = c; rest = rest; at_i = refl; next = refl; after = refl; first = refl; second = refl }
two (b ∷ c ∷ rest) (suc i) h =
    let t = two (c ∷ rest) i (omega arith) in
    record { b = t.b; c = t.c; rest = t.rest; at_i = t.at_i; next = t.next; after = t.after; first = t.first; second = t.second }

opens_at : (d b c : ℕ) (bs : List ℕ) → (b == slash && c == star) ≡ true → comment (suc d) (b ∷ c ∷ bs) ≡ plus 2 (comment (suc (suc d)) bs)
unfolding comment
opens_at d b c bs e = cond-true _ _ _ e

closes_at : (d b c : ℕ) (bs : List ℕ) → (b == slash && c == star) ≡ false → (b == star && c == slash) ≡ true → comment (suc d) (b ∷ c ∷ bs) ≡ plus 2 (comment d bs)
unfolding comment
closes_at d b c bs e f = cond-false _ _ _ e ∙ cond-true _ _ _ f

goes_at : (d b c : ℕ) (bs : List ℕ) → (b == slash && c == star) ≡ false → (b == star && c == slash) ≡ false → comment (suc d) (b ∷ c ∷ bs) ≡ plus 1 (comment (suc d) (c ∷ bs))
unfolding comment
goes_at d b c bs e f = cond-false _ _ _ e ∙ cond-false _ _ _ f

pair_is : (text : List ℕ) (i x y : ℕ) (v : Bool) → (t : Two text i) → pair_at text i x y ≡ v → (t.b == x && t.c == y) ≡ v
pair_is text i x y v t e =
    ap (λ n. n == x && t.c == y) (sym t.first) ∙ ap (λ n. slice_index text i == x && n == y) (sym t.second) ∙ ap (λ n. slice_index text i == x && slice_index text n == y) (let q : suc i ≡ i + 1 = omega arith in q) ∙ e

to_two : (text : List ℕ) (i : ℕ) → drop (suc (suc i)) text ≡ drop (i + 2) text
to_two text i = let e : suc (suc i) ≡ i + 2 = omega arith in ap (λ n. drop n text) e

to_one : (text : List ℕ) (i : ℕ) → drop (suc i) text ≡ drop (i + 1) text
to_one text i = let e : suc i ≡ i + 1 = omega arith in ap (λ n. drop n text) e

pub opens : (text : List ℕ) (i d : ℕ) → i + 1 < length text → pair_at text i slash star ≡ true → comment (suc d) (drop i text) ≡ plus 2 (comment (suc (suc d)) (drop (i + 2) text))
opens text i d h e =
    let t = two text i (omega arith) in
    ap (comment (suc d)) t.at_i ∙ opens_at d t.b t.c t.rest (pair_is text i slash star true t e) ∙ ap (λ r. plus 2 (comment (suc (suc d)) r)) (sym t.after ∙ to_two text i)

pub closes : (text : List ℕ) (i d : ℕ) → i + 1 < length text → pair_at text i slash star ≡ false → pair_at text i star slash ≡ true → comment (suc d) (drop i text) ≡ plus 2 (comment d (drop (i + 2) text))
closes text i d h e f =
    let t = two text i (omega arith) in
    ap (comment (suc d)) t.at_i ∙ closes_at d t.b t.c t.rest (pair_is text i slash star false t e) (pair_is text i star slash true t f) ∙ ap (λ r. plus 2 (comment d r)) (sym t.after ∙ to_two text i)

pub goes : (text : List ℕ) (i d : ℕ) → i + 1 < length text → pair_at text i slash star ≡ false → pair_at text i star slash ≡ false → comment (suc d) (drop i text) ≡ plus 1 (comment (suc d) (drop (i + 1) text))
goes text i d h e f =
    let t = two text i (omega arith) in
    ap (comment (suc d)) t.at_i ∙ goes_at d t.b t.c t.rest (pair_is text i slash star false t e) (pair_is text i star slash false t f) ∙ ap (λ r. plus 1 (comment (suc d) r)) (sym t.next ∙ to_one text i)

none_short : (d : ℕ) (xs : List ℕ) → length xs ≤ 1 → comment (suc d) xs ≡ None
unfolding comment
none_short d [] h = refl
none_short d (b ∷ []) h = refl
none_short d (b ∷ c ∷ xs) h = absurd (omega arith)

pub ends : (text : List ℕ) (i d : ℕ) → 0 < d → length text ≤ i + 1 → i ≤ length text → comment d (drop i text) ≡ None
ends text i zero p h l = absurd (omega arith)
ends text i (suc d) p h l = none_short d (drop i text) (omega (arith, length-drop i text))

pub plus_plus : (a b : ℕ) (o : Option ℕ) → plus a (plus b o) ≡ plus (a + b) o
plus_plus a b None = refl
plus_plus a b (Some n) = ap (λ m. Some m) (omega arith)

pub plus_none : (a : ℕ) (o : Option ℕ) → o ≡ None → plus a o ≡ None
plus_none a None e = refl
plus_none a (Some n) e = cc

pub closed : (text : List ℕ) → comment 0 text ≡ Some 0
unfolding comment
closed text = refl
