-- Transactions by their numbers.
use Rattle.std.proofs.Common.{◌≡◌, ◌≢◌, inl, inr, ℕ, ◌%◌, ◌≤◌, ◌==◌, ◌||◌, Bool, true, false, List, [], ◌∷◌, ◌++◌, Option, Some, None, refl, sym, ◌∙◌, ap, subst, arith}
use Rattle.std.proofs.lemmas.Bool.{cases_Bool, cases_eq, cond-true, cond-false, eq-eqb, ne_eqb, eqb-true, true≢false}
use Rattle.storage.specs.declared.slots.Undo.{Undo}
use Rattle.storage.specs.Slots.{wrote}
use Rattle.log_meaning.specs.declared.note.Change.{Change}
use Rattle.log_meaning.specs.declared.note.Note.{Note}
use Rattle.log_meaning.specs.declared.note.Note.TheVariants.{Change as Changed, Commit}
use Rattle.log_meaning.specs.Recovered.{changes_of, is_committed}
use Rattle.log_meaning.proofs.LoggedStarts.{Each}
use Rattle.checkpoint.specs.kept.Numbers.{is_number, is_live, undo_of, AreBelow}

number_is : (o : Option ℕ) (tx : ℕ) → is_number o tx ≡ true → o ≡ Some tx
number_is None tx e = absurd (true≢false (sym e))
number_is (Some n) tx e = ap Some (eqb-true n tx e)

pub live_number : (number : ℕ → Option ℕ) (tx : ℕ) → is_live number tx ≡ true → number (tx % 16) ≡ Some tx
live_number number tx e = number_is (number (tx % 16)) tx e

pub number_live : (number : ℕ → Option ℕ) (c tx : ℕ) → number c ≡ Some tx → tx % 16 ≡ c → is_live number tx ≡ true
number_live number c tx is modulo = ap (λ (d : ℕ). is_number (number d) tx) modulo ∙ ap (λ (o : Option ℕ). is_number o tx) is ∙ eq-eqb tx tx refl

pub some_one : (a b : ℕ) → Some a ≡ Some b → a ≡ b
some_one a b e = ap (value_or 0) e
  where
    value_or : ℕ → Option ℕ → ℕ
    value_or d None = d
    value_or d (Some x) = x

-- the number of another transaction
pub number_dead : (number : ℕ → Option ℕ) (c tx n : ℕ) → number c ≡ Some n → tx % 16 ≡ c → n ≢ tx → is_live number tx ≡ false
number_dead number c tx n is modulo ne = ap (λ (d : ℕ). is_number (number d) tx) modulo ∙ ap (λ (o : Option ℕ). is_number o tx) is ∙ ne_eqb n tx ne

pub number_none : (number : ℕ → Option ℕ) (c tx : ℕ) → number c ≡ None → tx % 16 ≡ c → is_live number tx ≡ false
number_none number c tx is modulo = ap (λ (d : ℕ). is_number (number d) tx) modulo ∙ ap (λ (o : Option ℕ). is_number o tx) is

pub undo_live : (number : ℕ → Option ℕ) (list : ℕ → List Undo) (tx : ℕ) → is_live number tx ≡ true → undo_of number list tx ≡ list (tx % 16)
undo_live number list tx live = cond-true (is_live number tx) (list (tx % 16)) [] live

pub undo_dead : (number : ℕ → Option ℕ) (list : ℕ → List Undo) (tx : ℕ) → is_live number tx ≡ false → undo_of number list tx ≡ []
undo_dead number list tx dead = cond-false (is_live number tx) (list (tx % 16)) [] dead

pub undo_number : (number : ℕ → Option ℕ) (list : ℕ → List Undo) (c tx : ℕ) → number c ≡ Some tx → tx % 16 ≡ c → undo_of number list tx ≡ list c
undo_number number list c tx is modulo = undo_live number list tx (number_live number c tx is modulo) ∙ ap list modulo

-- another live transaction is another client's
pub live_other : (number : ℕ → Option ℕ) (c tx t : ℕ) → number c ≡ Some tx → t ≢ tx → is_live number t ≡ true → t % 16 ≢ c
live_other number c tx t is ne live same = ne (some_one t tx (sym (live_number number t live) ∙ ap number same ∙ is))

-- where one client's list changes, the writes of the other transactions stay
pub undo_others : (number : ℕ → Option ℕ) (list list' : ℕ → List Undo) (c tx : ℕ) → number c ≡ Some tx → ((d : ℕ) → d ≢ c → list' d ≡ list d) → (t : ℕ) → t ≢ tx → undo_of number list' t ≡ undo_of number list t
undo_others number list list' c tx is others t ne = elim (cases_Bool (is_live number t)) [
  | inl live ↦ undo_live number list' t live ∙ others (t % 16) (live_other number c tx t is ne live) ∙ sym (undo_live number list t live)
  | inr dead ↦ undo_dead number list' t dead ∙ sym (undo_dead number list t dead)
]

-- where no other client wrote the slot, no other transaction did
pub alone_undo : (number : ℕ → Option ℕ) (list : ℕ → List Undo) (c tx slot : ℕ) → number c ≡ Some tx → ((d : ℕ) → d ≢ c → wrote (list d) slot ≡ false) → (t : ℕ) → t ≢ tx → is_live number t ≡ true → wrote (undo_of number list t) slot ≡ false
alone_undo number list c tx slot is alone t ne live = ap (λ (us : List Undo). wrote us slot) (undo_live number list t live) ∙ alone (t % 16) (live_other number c tx t is ne live)

-- ---- numbers below a bound

pub below_more : (b : ℕ) (xs ys : List Note) → AreBelow b xs → AreBelow b ys → AreBelow b (xs ++ ys)
below_more b [] ys x y = y
below_more b (Changed c ∷ xs) ys x y = (x.0, below_more b xs ys (x.1) y)
below_more b (Commit t ∷ xs) ys x y = (x.0, below_more b xs ys (x.1) y)

pub below_wider : (b d : ℕ) (xs : List Note) → b ≤ d → AreBelow b xs → AreBelow d xs
below_wider b d [] le x = tt
below_wider b d (Changed c ∷ xs) le x = (let lt = x.0 in omega (arith, lt, le), below_wider b d xs le (x.1))
below_wider b d (Commit t ∷ xs) le x = (let lt = x.0 in omega (arith, lt, le), below_wider b d xs le (x.1))

-- no note has a number that is not below it
pub below_fresh : (b tx : ℕ) (xs : List Note) → AreBelow b xs → b ≤ tx → (s : ℕ) → Each (λ c. c.tx ≢ tx) (changes_of s xs)
below_fresh b tx [] x le s = tt
below_fresh b tx (Changed c ∷ xs) x le s = elim (cases_eq c.slot s) [
  | inl is ↦ subst (λ (l : List Change). Each (λ d. d.tx ≢ tx) l) (sym (cond-true (c.slot == s) (c ∷ changes_of s xs) (changes_of s xs) (eq-eqb c.slot s is))) ((λ e. let lt = x.0 in omega (arith, lt, le, e)), below_fresh b tx xs (x.1) le s)
  | inr ne ↦ subst (λ (l : List Change). Each (λ d. d.tx ≢ tx) l) (sym (cond-false (c.slot == s) (c ∷ changes_of s xs) (changes_of s xs) (ne_eqb c.slot s ne))) (below_fresh b tx xs (x.1) le s)
]
below_fresh b tx (Commit t ∷ xs) x le s = below_fresh b tx xs (x.1) le s

pub below_open : (b tx : ℕ) (xs : List Note) → AreBelow b xs → b ≤ tx → is_committed xs tx ≡ false
below_open b tx [] x le = refl
below_open b tx (Changed c ∷ xs) x le = below_open b tx xs (x.1) le
below_open b tx (Commit t ∷ xs) x le = ap (λ (y : Bool). y || is_committed xs tx) (ne_eqb t tx (λ e. let lt = x.0 in omega (arith, lt, le, e))) ∙ below_open b tx xs (x.1) le
