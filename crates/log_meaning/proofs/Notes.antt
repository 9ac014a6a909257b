-- What one more note makes of the recovered slots.
use Rattle.std.proofs.Common.{◌≡◌, ◌≢◌, ◌⊎◌, inl, inr, ℕ, ◌==◌, Bool, true, false, ◌||◌, if◌then◌else◌, List, [], ◌∷◌, ◌++◌, refl, sym, ◌∙◌, ap, arith}
use Rattle.std.proofs.lemmas.List.{append-nil}
use Rattle.std.proofs.lemmas.Bool.{cases_Bool, cond-true, cond-false, or_left, eq-eqb, ne_eqb}
use Rattle.log_meaning.specs.declared.note.Change.{Change}
use Rattle.log_meaning.specs.declared.note.Note.{Note}
use Rattle.log_meaning.specs.declared.note.Note.TheVariants.{Change as Changed, Commit}
use Rattle.log_meaning.specs.Recovered.{changes_of, is_committed, first_old, last_new, given}

-- ---- lists of changes

pub changes_of-append : (s : ℕ) (xs ys : List Note) → changes_of s (xs ++ ys) ≡ changes_of s xs ++ changes_of s ys
changes_of-append s [] ys = refl
changes_of-append s (Changed c ∷ xs) ys = elim (cases_Bool (c.slot == s)) [
  | inl same ↦ cond-true (c.slot == s) _ _ same ∙ ap (λ (l : List Change). c ∷ l) (changes_of-append s xs ys) ∙ sym (ap (λ (l : List Change). l ++ changes_of s ys) (cond-true (c.slot == s) (c ∷ changes_of s xs) (changes_of s xs) same))
  | inr other ↦ cond-false (c.slot == s) _ _ other ∙ changes_of-append s xs ys ∙ sym (ap (λ (l : List Change). l ++ changes_of s ys) (cond-false (c.slot == s) (c ∷ changes_of s xs) (changes_of s xs) other))
]
changes_of-append s (Commit tx ∷ xs) ys = changes_of-append s xs ys

pub changes_of-here : (s : ℕ) (xs : List Note) (c : Change) → c.slot ≡ s → changes_of s (xs ++ Changed c ∷ []) ≡ changes_of s xs ++ c ∷ []
changes_of-here s xs c is = changes_of-append s xs (Changed c ∷ []) ∙ ap (λ (l : List Change). changes_of s xs ++ l) (cond-true (c.slot == s) (c ∷ []) [] (eq-eqb _ _ is))

pub changes_of-other : (s : ℕ) (xs : List Note) (c : Change) → c.slot ≢ s → changes_of s (xs ++ Changed c ∷ []) ≡ changes_of s xs
changes_of-other s xs c is = changes_of-append s xs (Changed c ∷ []) ∙ ap (λ (l : List Change). changes_of s xs ++ l) (cond-false (c.slot == s) (c ∷ []) [] (ne_eqb _ _ is)) ∙ append-nil _

pub changes_of-commit : (s : ℕ) (xs : List Note) (tx : ℕ) → changes_of s (xs ++ Commit tx ∷ []) ≡ changes_of s xs
changes_of-commit s xs tx = changes_of-append s xs (Commit tx ∷ []) ∙ append-nil _

pub is_committed-append : (xs ys : List Note) (t : ℕ) → is_committed (xs ++ ys) t ≡ (is_committed xs t || is_committed ys t)
is_committed-append [] ys t = refl
is_committed-append (Changed c ∷ xs) ys t = is_committed-append xs ys t
is_committed-append (Commit u ∷ xs) ys t = elim (cases_Bool (u == t)) [
  | inl same ↦ or_left _ _ same ∙ sym (or_left _ _ (or_left _ _ same))
  | inr other ↦ grind (arith, is_committed-append xs ys t, other)
]

-- ---- the bytes that changes recover to

pub last_new-append : (p : ℕ → Bool) (o : List ℕ) (xs : List Change) (c : Change) → last_new p o (xs ++ c ∷ []) ≡ (if p c.tx then c.new else last_new p o xs)
last_new-append p o [] c = refl
last_new-append p o (x ∷ xs) c = last_new-append p (if p x.tx then x.new else o) xs c

-- one more change of a committed transaction recovers to its new bytes
pub given-more : (p : ℕ → Bool) (below : List ℕ) (xs : List Change) (c : Change) → p c.tx ≡ true → given p below (xs ++ c ∷ []) ≡ c.new
given-more p below xs c is = last_new-append p (first_old below (xs ++ c ∷ [])) xs c ∙ cond-true (p c.tx) _ _ is

-- one more change of another transaction changes nothing, where it is not the first or began with the bytes below
pub given-same : (p : ℕ → Bool) (below : List ℕ) (xs : List Change) (c : Change) → p c.tx ≡ false → (xs ≡ [] → c.old ≡ below) → given p below (xs ++ c ∷ []) ≡ given p below xs
given-same p below [] c not first = cond-false (p c.tx) c.new c.old not ∙ first refl
given-same p below (x ∷ xs) c not first = last_new-append p x.old (x ∷ xs) c ∙ cond-false (p c.tx) _ _ not

-- where no change is of the second set, committing both sets recovers to the same as committing the first
pub given-either : (p q r : ℕ → Bool) (below : List ℕ) (xs : List Change) → ((t : ℕ) → r t ≡ (p t || q t)) → (given r below xs ≡ given p below xs) ⊎ (given r below xs ≡ given q below xs)
given-either p q r below [] both = inl refl
given-either p q r below (x ∷ xs) both = either x.old (x ∷ xs)
  where
    weigh : (a b : List ℕ) (ys : List Change) (o : List ℕ) → (o ≡ a) ⊎ (o ≡ b) → (last_new r o ys ≡ last_new p a ys) ⊎ (last_new r o ys ≡ last_new q b ys)
    weigh a b [] o is = is
    weigh a b (y ∷ ys) o is = weigh (if p y.tx then y.new else a) (if q y.tx then y.new else b) ys (if r y.tx then y.new else o) (grind (arith, both y.tx, is))

    either : (o : List ℕ) (ys : List Change) → (last_new r o ys ≡ last_new p o ys) ⊎ (last_new r o ys ≡ last_new q o ys)
    either o ys = weigh o o ys o (inl refl)

-- what is given looks at the bytes below only where there is no change
pub given-below : (p : ℕ → Bool) (a b : List ℕ) (xs : List Change) → (xs ≡ [] → a ≡ b) → given p a xs ≡ given p b xs
given-below p a b [] is = is refl
given-below p a b (x ∷ xs) is = refl

-- and at no transaction that has no change
pub last_new-same : (p q : ℕ → Bool) (o : List ℕ) (xs : List Change) → ((t : ℕ) → p t ≡ q t) → last_new p o xs ≡ last_new q o xs
last_new-same p q o [] same = refl
last_new-same p q o (x ∷ xs) same = ap (λ (b : Bool). last_new p (if b then x.new else o) xs) (same x.tx) ∙ last_new-same p q (if q x.tx then x.new else o) xs same
