-- The answer for a line is what its elements give.
use Rattle.std.proofs.Common.{◌≡◌, ◌⊎◌, inl, inr, ℕ, zero, suc, ◌+◌, ◌-◌, ◌≤◌, Bool, true, false, ◌==◌, if◌then◌else◌, List, [], ◌∷◌, ◌++◌, length, take, drop, refl, sym, ap, ◌∙◌, subst, arith, append_assoc, length-append, Option, Some, None, IsSome, Result, Ok, Err}
use Rattle.std.proofs.lemmas.List.{take-append-drop, drop_at}
use Rattle.std.proofs.lemmas.Bool.{false≢true, both_ways, eqb-true, and_parts}
use Rattle.abl_base.specs.declared.value.Value.{Value}
use Rattle.abl_base.specs.declared.value.Kind.{Kind}
use Rattle.abl_base.specs.text_forms.TextForms.{AtInputEnd}
use Rattle.value_formats.specs.declared.element.Element.{Element}
use Rattle.value_formats.specs.Lines.{IsLine, IsInputEnd, Begins, starts_end, after_end, is_input_end, first_line, Reading}
use Rattle.value_formats.specs.Imports.{taken, AreTaken, IsFirstBad, ReadsLine, IsImport, value_before, next_value, values_from, line_answer, answer_of_line, line_at}
use Rattle.value_formats.proofs.Begun.{begins_before, begins_at_end, rest_after}
use Rattle.value_formats.proofs.Sound.{first_line_is}

abbrev Given : Type 0
Given = List (Option Value)

abbrev Found : Type 0
Found = Result (List (Option Value)) ℕ

-- ---- the values of a line

before_ok : (v : Option Value) (found : Found) (vs : Given) → value_before v found ≡ Ok vs → (ws : Given) × (found ≡ Ok ws) × (v ∷ ws ≡ vs)
before_ok v (Ok ws) vs h = (ws, refl, cc)
before_ok v (Err n) vs h = absurd (cc)

next_ok : (n : ℕ) (got : Option (Option Value)) (found : Found) (vs : Given) → next_value n got found ≡ Ok vs → (v : Option Value) × (got ≡ Some v) × (value_before v found ≡ Ok vs)
next_ok n None found vs h = absurd (cc)
next_ok n (Some v) found vs h = (v, refl, h)

-- each target gets its value
pub all_taken : (ks : List (Option Kind)) (es : List Element) (n : ℕ) (vs : Given) → values_from n ks es ≡ Ok vs → AreTaken ks es vs
all_taken [] es n [] h = tt
all_taken [] es n (v ∷ vs) h = cc
all_taken (k ∷ ks) [] n vs h =
    let b = before_ok None (values_from (n + 1) ks []) vs h in
    subst (λ (xs : Given). AreTaken (k ∷ ks) [] xs) b.2 (refl, all_taken ks [] (n + 1) b.0 b.1)
all_taken (k ∷ ks) (e ∷ es) n vs h =
    let a = next_ok n (taken k e) (values_from (n + 1) ks es) vs h in
    let b = before_ok a.0 (values_from (n + 1) ks es) vs a.2 in
    subst (λ (xs : Given). AreTaken (k ∷ ks) (e ∷ es) xs) b.2 (a.1, all_taken ks es (n + 1) b.0 b.1)

-- values that each target gets are those of the line
pub taken_all : (ks : List (Option Kind)) (es : List Element) (n : ℕ) (vs : Given) → AreTaken ks es vs → values_from n ks es ≡ Ok vs
taken_all [] es n [] h = refl
taken_all [] es n (v ∷ vs) h = absurd h
taken_all (k ∷ ks) es n [] h = absurd h
taken_all (k ∷ ks) [] n (v ∷ vs) h =
    ap (value_before None) (taken_all ks [] (n + 1) vs h.1) ∙ ap (λ (x : Option Value). Ok (x ∷ vs)) (sym h.0)
taken_all (k ∷ ks) (e ∷ es) n (v ∷ vs) h =
    ap (λ (got : Option (Option Value)). next_value n got (values_from (n + 1) ks es)) h.0 ∙ ap (value_before v) (taken_all ks es (n + 1) vs h.1)

before_err : (v : Option Value) (found : Found) (number : ℕ) → value_before v found ≡ Err number → found ≡ Err number
before_err v (Ok ws) number h = absurd (cc)
before_err v (Err n) number h = cc

next_err : (n : ℕ) (got : Option (Option Value)) (found : Found) (number : ℕ) → next_value n got found ≡ Err number → ((got ≡ None) × (n ≡ number)) ⊎ (IsSome got × (found ≡ Err number))
next_err n None found number h = inl (refl, cc)
next_err n (Some v) found number h = inr (refl, before_err v found number h)

none_is_bad : (ks : List (Option Kind)) (m : ℕ) → IsFirstBad ks [] m → ⊥
none_is_bad [] m h = h
none_is_bad (k ∷ ks) m h = h

-- the number is that of the first bad element
pub first_bad : (ks : List (Option Kind)) (es : List Element) (n number : ℕ) → values_from n ks es ≡ Err number → (m : ℕ) × (number ≡ n + m) × IsFirstBad ks es (suc m)
first_bad [] es n number h = absurd (cc)
first_bad (k ∷ ks) [] n number h =
    let b = first_bad ks [] (n + 1) number (before_err None (values_from (n + 1) ks []) number h) in
    absurd (none_is_bad ks (suc b.0) b.2)
first_bad (k ∷ ks) (e ∷ es) n number h =
    elim (next_err n (taken k e) (values_from (n + 1) ks es) number h) [
      | inl here ↦ (0, omega (arith, here.1), here.0)
      | inr there ↦ (let b = first_bad ks es (n + 1) number there.1 in (suc b.0, omega (arith, b.1), (there.0, b.2)))
    ]

-- no element has the number 0
pub bad_above_0 : (ks : List (Option Kind)) (es : List Element) → IsFirstBad ks es zero → ⊥
bad_above_0 [] es h = h
bad_above_0 (k ∷ ks) [] h = h
bad_above_0 (k ∷ ks) (e ∷ es) h = h

some_is : (got : Option (Option Value)) → IsSome got → (v : Option Value) × (got ≡ Some v)
some_is None h = absurd (false≢true h)
some_is (Some v) h = (v, refl)

-- the number of the first bad element is the one that is answered
pub bad_first : (ks : List (Option Kind)) (es : List Element) (n m : ℕ) → IsFirstBad ks es (suc m) → values_from n ks es ≡ Err (n + m)
bad_first [] es n m h = absurd h
bad_first (k ∷ ks) [] n m h = absurd h
bad_first (k ∷ ks) (e ∷ es) n zero h =
    let same : n ≡ n + zero = omega arith in
    ap (λ (got : Option (Option Value)). next_value n got (values_from (n + 1) ks es)) h ∙ ap (λ (x : ℕ). Err x) same
bad_first (k ∷ ks) (e ∷ es) n (suc m) h =
    let s = some_is (taken k e) h.0 in
    let same : (n + 1) + m ≡ n + suc m = omega arith in
    ap (λ (got : Option (Option Value)). next_value n got (values_from (n + 1) ks es)) s.1
    ∙ ap (value_before s.0) (bad_first ks es (n + 1) m h.1)
    ∙ ap (λ (x : ℕ). Err x) same

-- ---- the end of the input

pub input_end_is : (input : List ℕ) → is_input_end input ≡ true → IsInputEnd input
input_end_is [] h = inl refl
input_end_is (b ∷ []) h = inr ([], inr (inr (ap (λ (x : ℕ). x ∷ []) (eqb-true b 46 h), refl)))
input_end_is (b ∷ c ∷ cs) h =
    let both = and_parts (b == 46) (starts_end (c ∷ cs)) h in
    inr (
      after_end (c ∷ cs),
      subst (λ (x : ℕ). Begins true (x ∷ c ∷ cs) (46 ∷ []) (after_end (c ∷ cs))) (sym (eqb-true b 46 both.0))
          (begins_before true 46 (c ∷ cs) [] (after_end (c ∷ cs)) refl (begins_at_end c cs both.1)),
    )

pub is_input_end_of : (input : List ℕ) → IsInputEnd input → is_input_end input ≡ true
is_input_end_of input (inl h) = ap is_input_end h
is_input_end_of input (inr (rest, inl h)) = ap is_input_end h.0
is_input_end_of input (inr (rest, inr (inl h))) = ap is_input_end h
is_input_end_of input (inr (rest, inr (inr h))) = ap is_input_end h.0

-- ---- the place of the next line

pub next_is : (input : List ℕ) (from : ℕ) (es : List Element) (rest : List ℕ) → from ≤ length input → IsLine (drop from input) es rest → drop (length input - length rest) input ≡ rest
next_is input from es rest room h =
    let s = rest_after h.closed (drop from input) h.line rest h.begins in
    let front : List ℕ = take from input ++ s.0 in
    let whole : input ≡ front ++ rest = sym (take-append-drop from input) ∙ ap (λ (xs : List ℕ). take from input ++ xs) s.1 ∙ sym (append_assoc (take from input) s.0 rest) in
    let long : length front ≡ length input - length rest = omega (arith, ap length whole, length-append front rest) in
    ap (drop (length input - length rest)) whole ∙ drop_at front rest (length input - length rest) long

-- ---- a line

reads : (input : List ℕ) (from : ℕ) (holds : List Element → Type 0) → from ≤ length input → (IsInputEnd (drop from input) → ⊥) → holds (first_line (drop from input)).elements
    → ReadsLine input from (length input - length (first_line (drop from input)).rest) holds
reads input from holds room on so =
    let r : Reading = first_line (drop from input) in
    let line = first_line_is (drop from input) in
    record {
      goes_on = on;
      elements = r.elements;
      line = subst (λ (xs : List ℕ). IsLine (drop from input) r.elements xs) (sym (next_is input from r.elements r.rest room line)) line;
      within = omega arith;
      so = so;
    }

line_answer_is : (input : List ℕ) (from : ℕ) (kinds : List (Option Kind)) → from ≤ length input → (IsInputEnd (drop from input) → ⊥)
    → IsImport input from kinds (answer_of_line input kinds (first_line (drop from input)))
line_answer_is input from kinds room on = by_values (values_from 1 kinds (first_line (drop from input)).elements) refl
  where
    by_values : (found : Found) → values_from 1 kinds (first_line (drop from input)).elements ≡ found
        → IsImport input from kinds (line_answer (length input - length (first_line (drop from input)).rest) found)
    by_values (Ok vs) e = reads input from (λ es. AreTaken kinds es vs) room on (all_taken kinds (first_line (drop from input)).elements 1 vs e)
    by_values (Err number) e =
        let b = first_bad kinds (first_line (drop from input)).elements 1 number e in
        let same : suc b.0 ≡ number = omega (arith, b.1) in
        reads input from (λ es. IsFirstBad kinds es number) room on
        (subst (λ (k : ℕ). IsFirstBad kinds (first_line (drop from input)).elements k) same b.2)

-- what is read of a line is what the line is by its elements
pub line_at_is : (input : List ℕ) (from : ℕ) (kinds : List (Option Kind)) → from ≤ length input → IsImport input from kinds (line_at input from kinds)
unfolding line_at
line_at_is input from kinds room = by_end (is_input_end (drop from input)) refl
  where
    by_end : (t : Bool) → is_input_end (drop from input) ≡ t → IsImport input from kinds (if t then AtInputEnd else answer_of_line input kinds (first_line (drop from input)))
    by_end true e = input_end_is (drop from input) e
    by_end false e = line_answer_is input from kinds room (λ h. both_ways (is_input_end (drop from input)) e (is_input_end_of (drop from input) h))
