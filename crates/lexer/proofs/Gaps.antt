-- Gaps: one for each place, and how a loop goes through one.
use Rattle.std.proofs.Common.{ℕ, zero, suc, ◌+◌, ◌<◌, ◌≤◌, ◌≡◌, true, false, ◌&&◌, List, [], ◌∷◌, length, drop, Option, Some, None, refl, sym, ◌∙◌, ap, subst, arith, length-drop}
use Rattle.std.specs.Prelude.{◌==◌, slice_index, nat_lt}
use Rattle.std.proofs.lemmas.Bool.{eqb-true, eq-eqb, ltb-true}
use Rattle.std.proofs.lemmas.Bool.Decides.{nat_tests}
use Rattle.lexer.specs.Bytes.{star, slash, is_white, starts, comment_at, starts_gap}
use Rattle.lexer.specs.Forms.{plus}
use Rattle.std.proofs.lemmas.Bool.{or_left, or_right, and_from, both_ways, or_from}
use Rattle.abl_base.proofs.Bools.{left_of_and, right_of_and, both_no}
use Rattle.lexer.specs.Gaps.{comment, Gap, nothing, white, commented, OpenGap, opens, white_open, commented_open}

white_starts : (b : ℕ) (bs : List ℕ) → is_white b ≡ true → starts_gap (b ∷ bs) ≡ true
white_starts b bs e = or_left (is_white b) _ e

comment_starts : (b c : ℕ) (bs : List ℕ) → b ≡ slash → c ≡ star → starts_gap (b ∷ c ∷ bs) ≡ true
comment_starts b c bs e f = or_right (is_white b) _ (and_from (b == slash) (c == star) (eq-eqb b slash e) (eq-eqb c star f))

slash_not_white : (b : ℕ) → is_white b ≡ true → b ≡ slash → ⊥
slash_not_white b e f = grind (arith, nat_tests)

some_same : (a b : ℕ) (o : Option ℕ) → o ≡ Some a → o ≡ Some b → a ≡ b
some_same a b o e f = let q : Some a ≡ Some b = sym e ∙ f in cc

some_none : (a : ℕ) (o : Option ℕ) → o ≡ Some a → o ≡ None → ⊥
some_none a o e f = let q : Some a ≡ None = sym e ∙ f in cc

pub gap_unique : {text : List ℕ} {n m : ℕ} → Gap text n → Gap text m → n ≡ m
gap_unique (nothing e) (nothing f) = refl
gap_unique (nothing e) (white {b} {text = bs} w g) = absurd (both_ways _ e (white_starts b bs w))
gap_unique (nothing e) (commented {b} {c} {text = bs} m p q o g) = absurd (both_ways _ e (comment_starts b c bs p q))
gap_unique (white {b} {text = bs} w g) (nothing f) = absurd (both_ways _ f (white_starts b bs w))
gap_unique (white w g) (white v h) = ap suc (gap_unique g h)
gap_unique (white {b} w g) (commented m p q o h) = absurd (slash_not_white b w p)
gap_unique (commented {b} {c} {text = bs} m p q o g) (nothing f) = absurd (both_ways _ f (comment_starts b c bs p q))
gap_unique (commented {b} m p q o g) (white v h) = absurd (slash_not_white b v p)
gap_unique (commented {b} {c} {text = bs} {n} m p q o g) (commented {n = n'} m' p' q' o' h) =
    let e : m ≡ m' = some_same m m' _ o o' in
    let i = gap_unique g (subst (λ x. Gap (drop x bs) n') (sym e) h) in
    omega arith

pub gap_open : {text : List ℕ} {n m : ℕ} → Gap text n → OpenGap text m → ⊥
gap_open (nothing e) (opens {b} {c} {text = bs} p q o) = both_ways _ e (comment_starts b c bs p q)
gap_open (nothing e) (white_open {b} {text = bs} w g) = both_ways _ e (white_starts b bs w)
gap_open (nothing e) (commented_open {b} {c} {text = bs} m p q o g) = both_ways _ e (comment_starts b c bs p q)
gap_open (white {b} w g) (opens p q o) = slash_not_white b w p
gap_open (white w g) (white_open v h) = gap_open g h
gap_open (white {b} w g) (commented_open m p q o h) = slash_not_white b w p
gap_open (commented m p q o g) (opens p' q' o') = some_none m _ o o'
gap_open (commented {b} m p q o g) (white_open v h) = slash_not_white b v p
gap_open (commented {b} {c} {text = bs} m p q o g) (commented_open {n = n'} m' p' q' o' h) =
    let e : m ≡ m' = some_same m m' _ o o' in
    gap_open g (subst (λ x. OpenGap (drop x bs) n') (sym e) h)

pub open_unique : {text : List ℕ} {n m : ℕ} → OpenGap text n → OpenGap text m → n ≡ m
open_unique (opens p q o) (opens p' q' o') = refl
open_unique (opens {b} p q o) (white_open w g) = absurd (slash_not_white b w p)
open_unique (opens p q o) (commented_open m p' q' o' g) = absurd (some_none m _ o' o)
open_unique (white_open {b} w g) (opens p q o) = absurd (slash_not_white b w p)
open_unique (white_open w g) (white_open v h) = ap suc (open_unique g h)
open_unique (white_open {b} w g) (commented_open m p q o h) = absurd (slash_not_white b w p)
open_unique (commented_open m p q o g) (opens p' q' o') = absurd (some_none m _ o o')
open_unique (commented_open {b} m p q o g) (white_open v h) = absurd (slash_not_white b v p)
open_unique (commented_open {b} {c} {text = bs} m p q o g) (commented_open {n = n'} m' p' q' o' h) =
    let e : m ≡ m' = some_same m m' _ o o' in
    let i = open_unique g (subst (λ x. OpenGap (drop x bs) n') (sym e) h) in
    omega arith

-- THE LOOP
pub record GapSofar (text : List ℕ) (i : ℕ) : Type 0 where
  pub gap : (n : ℕ) → Gap (drop i text) n → Gap text (i + n)
  pub open' : (n : ℕ) → OpenGap (drop i text) n → OpenGap text (i + n)
  pub within : i ≤ length text

pub begin : (text : List ℕ) → GapSofar text 0
begin text = record {
  gap = λ n g. (let q : n ≡ 0 + n = omega arith in subst (λ m. Gap text m) q g);
  open' = λ n g. (let q : n ≡ 0 + n = omega arith in subst (λ m. OpenGap text m) q g);
  within = omega arith;
}

pub record One (text : List ℕ) (i : ℕ) : Type 0 where
  pub b : ℕ
  pub rest : List ℕ
  pub at_i : drop i text ≡ b ∷ rest
  pub next : drop (suc i) text ≡ rest
  pub first : slice_index text i ≡ b

pub one : (text : List ℕ) (i : ℕ) → i < length text → One text i
one [] i h = absurd (omega arith)
one (b ∷ rest) zero h = record { b = b; rest = rest; at_i = refl; next = refl; first = refl }
one (b ∷ rest) (suc i) h = let t = one rest i (omega arith) in record { b = t.b; rest = t.rest; at_i = t.at_i; next = t.next; first = t.first }

drop_nil : (m : ℕ) → drop {A = ℕ} m [] ≡ []
drop_nil zero = refl
drop_nil (suc m) = refl

drop_drop : (m i : ℕ) (text : List ℕ) → drop m (drop i text) ≡ drop (i + m) text
drop_drop m zero text = let q : m ≡ 0 + m = omega arith in ap (λ n. drop n text) q
drop_drop m (suc i) [] = drop_nil m ∙ sym (drop_nil (suc i + m))
drop_drop m (suc i) (x ∷ text) = drop_drop m i text ∙ (let q : suc (i + m) ≡ suc i + m = omega arith in ap (λ n. drop n (x ∷ text)) q)

pub white_next : (text : List ℕ) (i : ℕ) → GapSofar text i → i < length text → is_white (slice_index text i) ≡ true → GapSofar text (i + 1)
white_next text i s h w =
    let o = one text i h in
    let v : is_white o.b ≡ true = subst (λ x. is_white x ≡ true) o.first w in
    let e : drop (i + 1) text ≡ o.rest = (let q : i + 1 ≡ suc i = omega arith in ap (λ n. drop n text) q ∙ o.next) in
    record {
      gap = λ n g.
          let x = s.gap (suc n) (subst (λ t. Gap t (suc n)) (sym o.at_i) (white v (subst (λ t. Gap t n) e g))) in
          (let q : i + suc n ≡ i + 1 + n = omega arith in subst (λ m. Gap text m) q x);
      open' = λ n g.
          let x = s.open' (suc n) (subst (λ t. OpenGap t (suc n)) (sym o.at_i) (white_open v (subst (λ t. OpenGap t n) e g))) in
          (let q : i + suc n ≡ i + 1 + n = omega arith in subst (λ m. OpenGap text m) q x);
      within = omega arith;
    }

record Opening (text : List ℕ) (i : ℕ) : Type 0 where
  b : ℕ
  c : ℕ
  rest : List ℕ
  at_i : drop i text ≡ b ∷ c ∷ rest
  after : drop (i + 2) text ≡ rest
  slash_is : b ≡ slash
  star_is : c ≡ star
  fits : i + 2 ≤ length text

opening : (text : List ℕ) (i : ℕ) → comment_at text i ≡ true → Opening text i
opening text i e =
    let h : i + 1 < length text = ltb-true (i + 1) (length text) (left_of_and (nat_lt (i + 1) (length text)) _ e) in
    let p = right_of_and (nat_lt (i + 1) (length text)) _ e in
    let o = one text i (omega arith) in
    let t = one text (suc i) (omega arith) in
    let q : suc i ≡ i + 1 = omega arith in
    record {
      b = o.b;
      c = t.b;
      rest = t.rest;
      at_i = o.at_i ∙ ap (λ x. o.b ∷ x) (sym o.next ∙ t.at_i);
      after = (let r : i + 2 ≡ suc (suc i) = omega arith in ap (λ n. drop n text) r ∙ t.next);
      slash_is = sym o.first ∙ eqb-true _ _ (left_of_and (slice_index text i == slash) _ p);
      star_is = sym t.first ∙ ap (slice_index text) q ∙ eqb-true _ _ (right_of_and (slice_index text i == slash) _ p);
      fits = omega arith;
    }

plus_inside : (a : ℕ) (o : Option ℕ) (m : ℕ) → plus a o ≡ Some m → (k : ℕ) × (o ≡ Some k) × (m ≡ a + k)
plus_inside a None m e = cc
plus_inside a (Some k) m e = let q : a + k ≡ m = cc in (k, refl, sym q)

pub comment_next : (text : List ℕ) (i m : ℕ) → GapSofar text i → comment_at text i ≡ true → comment 1 (drop (i + 2) text) ≡ Some m → m ≤ length (drop (i + 2) text) → GapSofar text (i + (m + 2))
comment_next text i m s h e l =
    let o = opening text i h in
    let v : comment 1 o.rest ≡ Some m = subst (λ t. comment 1 t ≡ Some m) o.after e in
    let d : drop (i + (m + 2)) text ≡ drop m o.rest = (let q : i + (m + 2) ≡ i + 2 + m = omega arith in ap (λ n. drop n text) q ∙ sym (drop_drop m (i + 2) text) ∙ ap (drop m) o.after) in
    let f = o.fits in
    record {
      gap = λ n g.
          let x = s.gap (suc (suc (m + n))) (subst (λ t. Gap t (suc (suc (m + n)))) (sym o.at_i) (commented m o.slash_is o.star_is v (subst (λ t. Gap t n) d g))) in
          (let q : i + suc (suc (m + n)) ≡ i + (m + 2) + n = omega arith in subst (λ k. Gap text k) q x);
      open' = λ n g.
          let x = s.open' (suc (suc (m + n))) (subst (λ t. OpenGap t (suc (suc (m + n)))) (sym o.at_i) (commented_open m o.slash_is o.star_is v (subst (λ t. OpenGap t n) d g))) in
          (let q : i + suc (suc (m + n)) ≡ i + (m + 2) + n = omega arith in subst (λ k. OpenGap text k) q x);
      within = omega (arith, length-drop (i + 2) text);
    }

pub comment_opens : (text : List ℕ) (i : ℕ) → GapSofar text i → comment_at text i ≡ true → comment 1 (drop (i + 2) text) ≡ None → OpenGap text i
comment_opens text i s h e =
    let o = opening text i h in
    let v : comment 1 o.rest ≡ None = subst (λ t. comment 1 t ≡ None) o.after e in
    let x = s.open' 0 (subst (λ t. OpenGap t 0) (sym o.at_i) (opens o.slash_is o.star_is v)) in
    (let q : i + 0 ≡ i = omega arith in subst (λ k. OpenGap text k) q x)

pub drop_all : (xs : List ℕ) → drop (length xs) xs ≡ []
drop_all [] = refl
drop_all (x ∷ xs) = drop_all xs

lt_test : (a b : ℕ) → a < b → nat_lt a b ≡ true
lt_test a b h = grind (arith, nat_tests)

star_there : (text : List ℕ) (i c : ℕ) (rest : List ℕ) → drop (suc i) text ≡ c ∷ rest → (i + 1 < length text) × (slice_index text (i + 1) ≡ c)
star_there text i c rest e =
    let l : length (drop (suc i) text) ≡ suc (length rest) = ap length e in
    let h : i + 1 < length text = omega (arith, length-drop (suc i) text) in
    let o = one text (suc i) (omega arith) in
    let q : o.b ∷ o.rest ≡ c ∷ rest = sym o.at_i ∙ e in
    let r : o.b ≡ c = cc in
    let s : i + 1 ≡ suc i = omega arith in
    (h, ap (slice_index text) s ∙ o.first ∙ r)

there : (text : List ℕ) (i b : ℕ) (rest : List ℕ) → slice_index text i ≡ b → drop (suc i) text ≡ rest → b ≡ slash → starts star rest ≡ true → comment_at text i ≡ true
there text i b [] f n p q = let z : false ≡ true = q in cc
there text i b (c ∷ rest) f n p q =
    let t = star_there text i c rest n in
    and_from (nat_lt (i + 1) (length text)) _ (lt_test _ _ t.0) (and_from (slice_index text i == slash) _ (eq-eqb _ _ (f ∙ p)) (eq-eqb _ _ (t.1 ∙ eqb-true c star q)))

comment_there : (text : List ℕ) (i : ℕ) → (o : One text i) → o.b ≡ slash → starts star o.rest ≡ true → comment_at text i ≡ true
comment_there text i o p q = there text i o.b o.rest o.first o.next p q

no_gap : (b : ℕ) (rest : List ℕ) → is_white b ≡ false → (b ≡ slash → starts star rest ≡ true → ⊥) → starts_gap (b ∷ rest) ≡ false
no_gap b rest w n = or_from (is_white b) (b == slash && starts star rest) w (both_no (b == slash) (starts star rest) (λ e f. n (eqb-true b slash e) f))

pub stops : (text : List ℕ) (i : ℕ) → GapSofar text i → i < length text → is_white (slice_index text i) ≡ false → comment_at text i ≡ false → Gap text i
stops text i s h w e =
    let o = one text i h in
    let v : is_white o.b ≡ false = subst (λ x. is_white x ≡ false) o.first w in
    let x = s.gap 0 (subst (λ t. Gap t 0) (sym o.at_i) (nothing (no_gap o.b o.rest v (λ p q. both_ways _ e (comment_there text i o p q))))) in
    (let q : i + 0 ≡ i = omega arith in subst (λ k. Gap text k) q x)

pub ends : (text : List ℕ) (i : ℕ) → GapSofar text i → length text ≤ i → Gap text i
ends text i s h =
    let w = s.within in
    let d : drop i text ≡ [] = (let q : i ≡ length text = omega arith in ap (λ n. drop n text) q ∙ drop_all text) in
    let x = s.gap 0 (subst (λ t. Gap t 0) (sym d) (nothing refl)) in
    (let q : i + 0 ≡ i = omega arith in subst (λ k. Gap text k) q x)

pub starts_here : (c : ℕ) (text : List ℕ) (i : ℕ) → i < length text → (slice_index text i == c) ≡ starts c (drop i text)
starts_here c text i h = let o = one text i h in ap (λ n. n == c) o.first ∙ sym (ap (starts c) o.at_i)

pub starts_end : (c : ℕ) (text : List ℕ) (i : ℕ) → length text ≤ i → i ≤ length text → false ≡ starts c (drop i text)
starts_end c text i h l = let q : length text ≡ i = omega arith in ap (starts c) (sym (drop_all text) ∙ ap (λ n. drop n text) q)

-- the next bytes
pub begins : (c : ℕ) (xs : List ℕ) → starts c xs ≡ true → (b : ℕ) × (rest : List ℕ) × (xs ≡ b ∷ rest)
begins c [] e = let z : false ≡ true = e in cc
begins c (b ∷ rest) e = (b, rest, refl)
