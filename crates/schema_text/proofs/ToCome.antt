-- Items that stand one after the other in a text, of which the first are read and the others are to come.
use Rattle.std.proofs.Common.{◌≡◌, ℕ, ◌+◌, Bool, true, false, List, [], ◌∷◌, ◌++◌, length, refl, sym, ap, ◌∙◌, arith, append_assoc, append-nil, length-append}
use Rattle.std.specs.List.{All, AllByRecursion, flat_map}
use Rattle.std.proofs.lemmas.Bool.{both_ways}
use Rattle.std.proofs.lemmas.List.Elements.{recursion_from_All}

-- the lines of items from the n-th on
abbrev pub lines : {X : Type 0} → (ℕ → X → List ℕ) → ℕ → List X → List ℕ
lines line n [] = []
lines line n (x ∷ xs) = line n x ++ lines line (n + 1) xs

pub lines-flat : {X : Type 0} (line : X → List ℕ) (n : ℕ) (xs : List X) → lines (λ k. line) n xs ≡ flat_map line xs
lines-flat line n [] = refl
lines-flat line n (x ∷ xs) = ap (λ (ys : List ℕ). line x ++ ys) (lines-flat line (n + 1) xs)

-- the items `done` are read, the others are to come, and `r` stands after them
pub record ToCome {X : Type 0} (line : ℕ → X → List ℕ) (Is : X → Type 0) (xs : List X) (r : List ℕ) (done : List X) (rest : List ℕ) : Type 0 where
  pub more : List X
  pub all : xs ≡ done ++ more
  pub text : rest ≡ lines line (length done) more ++ r
  pub are : AllByRecursion Is more

-- there is a next item
pub record Next {X : Type 0} (line : ℕ → X → List ℕ) (Is : X → Type 0) (xs : List X) (r : List ℕ) (done : List X) (rest : List ℕ) : Type 0 where
  pub item : X
  pub more : List X
  pub all : xs ≡ done ++ item ∷ more
  pub text : rest ≡ line (length done) item ++ (lines line (length done + 1) more ++ r)
  pub is : Is item
  pub are : AllByRecursion Is more

-- `starts` says whether an item begins there
module _ {X : Type 0} (line : ℕ → X → List ℕ) (Is : X → Type 0) (starts : List ℕ → Bool) (begins : (n : ℕ) (x : X) (r : List ℕ) → starts (line n x ++ r) ≡ true) (xs : List X) (r : List ℕ) (end : starts r ≡ false) where
  pub at_first : (text : List ℕ) → All Is xs → text ≡ lines line 0 xs ++ r → ToCome line Is xs r [] text
  at_first text are e = record { more = xs; all = refl; text = e; are = recursion_from_All Is xs are }

  next_of : (done : List X) (rest : List ℕ) (more : List X) → xs ≡ done ++ more → rest ≡ lines line (length done) more ++ r → AllByRecursion Is more → starts rest ≡ true → Next line Is xs r done rest
  next_of done rest [] all text are h = absurd (both_ways (starts r) end (sym (ap starts text) ∙ h))
  next_of done rest (x ∷ more) all text are h =
      record { item = x; more = more; all = all; text = text ∙ append_assoc (line (length done) x) (lines line (length done + 1) more) r; is = are.0; are = are.1 }

  pub at_next : (done : List X) (rest : List ℕ) → ToCome line Is xs r done rest → starts rest ≡ true → Next line Is xs r done rest
  at_next done rest c h = next_of done rest c.more c.all c.text c.are h

  pub after_next : (done : List X) (rest : List ℕ) (n : Next line Is xs r done rest) (x : X) (tail : List ℕ) → x ≡ n.item → tail ≡ lines line (length done + 1) n.more ++ r → ToCome line Is xs r (done ++ x ∷ []) tail
  after_next done rest n x tail same e =
      let longer : length done + 1 ≡ length (done ++ x ∷ []) = omega (arith, length-append done (x ∷ [])) in
      record {
        more = n.more;
        all = n.all ∙ ap (λ (y : X). done ++ y ∷ n.more) (sym same) ∙ sym (append_assoc done (x ∷ []) n.more);
        text = e ∙ ap (λ (k : ℕ). lines line k n.more ++ r) longer;
        are = n.are;
      }

  last_of : (done : List X) (rest : List ℕ) (more : List X) → xs ≡ done ++ more → rest ≡ lines line (length done) more ++ r → starts rest ≡ false → (xs ≡ done) × (rest ≡ r)
  last_of done rest [] all text h = (all ∙ append-nil done, text)
  last_of done rest (x ∷ more) all text h =
      absurd (both_ways (starts rest) h (ap starts (text ∙ append_assoc (line (length done) x) (lines line (length done + 1) more) r) ∙ begins (length done) x (lines line (length done + 1) more ++ r)))

  pub at_last : (done : List X) (rest : List ℕ) → ToCome line Is xs r done rest → starts rest ≡ false → (xs ≡ done) × (rest ≡ r)
  at_last done rest c h = last_of done rest c.more c.all c.text h
