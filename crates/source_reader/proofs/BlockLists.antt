-- Lists of numbered blocks, and those of one procedure among them.
use Rattle.std.proofs.Common.{◌≡◌, ◌+◌, ℕ, zero, suc, Bool, true, false, List, [], ◌∷◌, ◌++◌, length, Some, refl, sym, ap, ◌∙◌, subst, arith, if◌then◌else◌}
use Rattle.std.specs.Prelude.{◌==◌, slice_get}
use Rattle.std.proofs.lemmas.Bool.Decides.{nat_tests}
use Rattle.std.proofs.lemmas.List.Elements.{filter-append}
use Rattle.source_reader.specs.TextBlocks.{TextBlock, NumberedBlock, in_procedure, numbered}

-- each of the blocks is in procedure p
abbrev pub AreIn : ℕ → List TextBlock → Type 0
AreIn p [] = Unit {0}
AreIn p (b ∷ bs) = (b.procedure ≡ p) × AreIn p bs

pub in_join : (p : ℕ) (xs ys : List TextBlock) → AreIn p xs → AreIn p ys → AreIn p (xs ++ ys)
in_join p [] ys g h = h
in_join p (x ∷ xs) ys g h = (g.0, in_join p xs ys g.1 h)

same_number : (m n : ℕ) → m ≡ n → (m == n) ≡ true
same_number m n e = grind (arith, nat_tests)

pub other_number : (m n : ℕ) → (m ≡ n → ⊥) → (m == n) ≡ false
other_number m n e = grind (arith, nat_tests)

equal_numbers : (m n : ℕ) → (m == n) ≡ true → m ≡ n
equal_numbers m n e = grind (arith, nat_tests)

-- an element is kept if the test is true, and left out if it is false
kept : {A : Type 0} (c : Bool) (x : A) (xs ys : List A) → c ≡ true → xs ≡ ys → (if c then x ∷ xs else xs) ≡ x ∷ ys
kept true x xs ys e f = ap (λ l. x ∷ l) f
kept false x xs ys e f = absurd cc

pub left_out : {A : Type 0} (c : Bool) (x : A) (xs ys : List A) → c ≡ false → xs ≡ ys → (if c then x ∷ xs else xs) ≡ ys
left_out true x xs ys e f = absurd cc
left_out false x xs ys e f = f

-- where all blocks are in procedure p, the selection for p keeps all of them, and the selection for another procedure none
pub all_kept : (p n : ℕ) (bs : List TextBlock) → AreIn p bs → in_procedure p (numbered n bs) ≡ numbered n bs
all_kept p n [] h = refl
all_kept p n (b ∷ bs) h = kept (b.procedure == p) _ _ _ (same_number b.procedure p h.0) (all_kept p (n + 1) bs h.1)

pub none_kept : (p q n : ℕ) (bs : List TextBlock) → AreIn p bs → (p ≡ q → ⊥) → in_procedure q (numbered n bs) ≡ []
none_kept p q n [] h other = refl
none_kept p q n (b ∷ bs) h other =
    left_out (b.procedure == q) _ _ _ (other_number b.procedure q (λ e. other (sym h.0 ∙ e))) (none_kept p q (n + 1) bs h.1 other)

pub numbered_join : (n : ℕ) (xs ys : List TextBlock) → numbered n (xs ++ ys) ≡ numbered n xs ++ numbered (n + length xs) ys
numbered_join n [] ys = ap (λ m. numbered m ys) (let e : n ≡ n + 0 = omega arith in e)
numbered_join n (x ∷ xs) ys =
    ap (λ l. record { number = n; block = x } ∷ l)
    (numbered_join (n + 1) xs ys ∙ ap (λ m. numbered (n + 1) xs ++ numbered m ys) (let e : (n + 1) + length xs ≡ n + suc (length xs) = omega arith in e))

-- the blocks of procedure p in two lists, one after the other
pub in_both : (p n : ℕ) (xs ys : List TextBlock) → in_procedure p (numbered n (xs ++ ys)) ≡ in_procedure p (numbered n xs) ++ in_procedure p (numbered (n + length xs) ys)
in_both p n xs ys = ap (in_procedure p) (numbered_join n xs ys) ∙ filter-append (λ (b : NumberedBlock). b.block.procedure == p) (numbered n xs) (numbered (n + length xs) ys)

-- ---- the number of a block is its place

-- the block of a number, among those from number n on
pub record IsNumbered (n : ℕ) (bs : List TextBlock) (p : ℕ) (b : NumberedBlock) : Type 0 where
  pub place : ℕ
  pub number : b.number ≡ n + place
  pub at : slice_get bs place ≡ Some b.block
  pub procedure : b.block.procedure ≡ p

one_later : {n : ℕ} {p : ℕ} {b : NumberedBlock} (x : TextBlock) (bs : List TextBlock) → IsNumbered (n + 1) bs p b → IsNumbered n (x ∷ bs) p b
one_later {n = n} {b = b} x bs h = record { place = suc h.place; number = (let e = h.number in omega (arith, e)); at = h.at; procedure = h.procedure }

-- the number of each block of procedure p is n plus its place in the list
first_numbered : (p n : ℕ) (x : TextBlock) (bs : List TextBlock) (c : Bool) → (x.procedure == p) ≡ c → (i : ℕ) (b : NumberedBlock) →
    ((j : ℕ) → slice_get (in_procedure p (numbered (n + 1) bs)) j ≡ Some b → IsNumbered (n + 1) bs p b) →
    slice_get (if c then record { number = n; block = x } ∷ in_procedure p (numbered (n + 1) bs) else in_procedure p (numbered (n + 1) bs)) i ≡ Some b → IsNumbered n (x ∷ bs) p b
first_numbered p n x bs true is zero b more e =
    let same : record { number = n; block = x } ≡ b = cc in
    subst (IsNumbered n (x ∷ bs) p) same (record { place = zero; number = (let z : n ≡ n + 0 = omega arith in z); at = refl; procedure = equal_numbers x.procedure p is })
first_numbered p n x bs true is (suc i) b more e = one_later x bs (more i e)
first_numbered p n x bs false is i b more e = one_later x bs (more i e)

pub numbered_at : (p n : ℕ) (bs : List TextBlock) (i : ℕ) (b : NumberedBlock) → slice_get (in_procedure p (numbered n bs)) i ≡ Some b → IsNumbered n bs p b
numbered_at p n [] i b e = absurd cc
numbered_at p n (x ∷ bs) i b e = first_numbered p n x bs (x.procedure == p) refl i b (λ j. numbered_at p (n + 1) bs j b) e

-- the places of the blocks of one procedure are in the order of their numbers: one number is at one place
later_number : (p n : ℕ) (bs : List TextBlock) (i : ℕ) (b : NumberedBlock) → slice_get (in_procedure p (numbered (n + 1) bs)) i ≡ Some b → b.number ≡ n → ⊥
later_number p n bs i b e f =
    let it = numbered_at p (n + 1) bs i b e in
    let g = it.number in
    omega (arith, f, g)

first_place : (p n : ℕ) (x : TextBlock) (bs : List TextBlock) (c : Bool) (i j : ℕ) (a b : NumberedBlock) →
    ((i j : ℕ) → slice_get (in_procedure p (numbered (n + 1) bs)) i ≡ Some a → slice_get (in_procedure p (numbered (n + 1) bs)) j ≡ Some b → i ≡ j) →
    slice_get (if c then record { number = n; block = x } ∷ in_procedure p (numbered (n + 1) bs) else in_procedure p (numbered (n + 1) bs)) i ≡ Some a →
    slice_get (if c then record { number = n; block = x } ∷ in_procedure p (numbered (n + 1) bs) else in_procedure p (numbered (n + 1) bs)) j ≡ Some b → a.number ≡ b.number → i ≡ j
first_place p n x bs true zero zero a b more e f same = refl
first_place p n x bs true zero (suc j) a b more e f same =
    let is : record { number = n; block = x } ≡ a = cc in
    absurd (later_number p n bs j b f (sym same ∙ sym (ap (λ (y : NumberedBlock). y.number) is)))
first_place p n x bs true (suc i) zero a b more e f same =
    let is : record { number = n; block = x } ≡ b = cc in
    absurd (later_number p n bs i a e (same ∙ sym (ap (λ (y : NumberedBlock). y.number) is)))
first_place p n x bs true (suc i) (suc j) a b more e f same = ap suc (more i j e f)
first_place p n x bs false i j a b more e f same = more i j e f

pub one_place : (p n : ℕ) (bs : List TextBlock) (i j : ℕ) (a b : NumberedBlock) → slice_get (in_procedure p (numbered n bs)) i ≡ Some a → slice_get (in_procedure p (numbered n bs)) j ≡ Some b → a.number ≡ b.number → i ≡ j
one_place p n [] i j a b e f same = absurd cc
one_place p n (x ∷ bs) i j a b e f same = first_place p n x bs (x.procedure == p) i j a b (λ k l g h. one_place p (n + 1) bs k l a b g h same) e f same

-- the block at a place is among those of its procedure
pub record IsAmong (p n : ℕ) (bs : List TextBlock) (m : ℕ) (b : TextBlock) : Type 0 where
  pub place : ℕ
  pub at : slice_get (in_procedure p (numbered n bs)) place ≡ Some (record { number = m; block = b })

first_among : (p n m : ℕ) (x : TextBlock) (bs : List TextBlock) (b : TextBlock) (c : Bool) → (x.procedure == p) ≡ c → IsAmong p (n + 1) bs m b → IsAmong p n (x ∷ bs) m b
first_among p n m x bs b true is h = record { place = suc h.place; at = subst (λ c. slice_get (if c then record { number = n; block = x } ∷ in_procedure p (numbered (n + 1) bs) else in_procedure p (numbered (n + 1) bs)) (suc h.place) ≡ Some (record { number = m; block = b })) (sym is) h.at }
first_among p n m x bs b false is h = record { place = h.place; at = subst (λ c. slice_get (if c then record { number = n; block = x } ∷ in_procedure p (numbered (n + 1) bs) else in_procedure p (numbered (n + 1) bs)) h.place ≡ Some (record { number = m; block = b })) (sym is) h.at }

pub among : (n : ℕ) (bs : List TextBlock) (i : ℕ) (b : TextBlock) → slice_get bs i ≡ Some b → IsAmong b.procedure n bs (n + i) b
among n [] i b e = absurd cc
among n (x ∷ bs) zero b e =
    let same : x ≡ b = cc in
    let numbers : n ≡ n + 0 = omega arith in
    subst (λ (y : TextBlock). IsAmong y.procedure n (x ∷ bs) (n + 0) y) same
    (record {
      place = zero;
      at = ap (λ l. slice_get l zero) (kept (x.procedure == x.procedure) (record { number = n; block = x }) (in_procedure x.procedure (numbered (n + 1) bs)) _ (same_number x.procedure x.procedure refl) refl)
          ∙ ap (λ m. Some (record { number = m; block = x })) numbers;
    })
among n (x ∷ bs) (suc i) b e =
    let numbers : (n + 1) + i ≡ n + suc i = omega arith in
    first_among b.procedure n (n + suc i) x bs b (x.procedure == b.procedure) refl (subst (λ m. IsAmong b.procedure (n + 1) bs m b) numbers (among (n + 1) bs i b e))
