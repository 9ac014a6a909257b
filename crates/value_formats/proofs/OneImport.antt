-- What IMPORT may read of a line is what the function reads.
use Rattle.std.proofs.Common.{◌≡◌, ℕ, zero, suc, ◌+◌, ◌-◌, ◌≤◌, Bool, if◌then◌else◌, List, length, drop, sym, ap, ◌∙◌, arith, length-drop, Option, Result, Ok, Err}
use Rattle.std.proofs.lemmas.Bool.{false_from_ne_true}
use Rattle.abl_base.specs.declared.value.Value.{Value}
use Rattle.abl_base.specs.declared.value.Kind.{Kind}
use Rattle.abl_base.specs.text_forms.TextForms.{Imported, AtInputEnd, BadElement, Elements}
use Rattle.value_formats.specs.declared.element.Element.{Element}
use Rattle.value_formats.specs.Lines.{IsInputEnd, is_input_end, first_line}
use Rattle.value_formats.specs.Imports.{AreTaken, IsFirstBad, ReadsLine, IsImport, values_from, line_answer, answer_of_line, line_at}
use Rattle.value_formats.proofs.LineAnswers.{taken_all, bad_first, bad_above_0, input_end_is, is_input_end_of}
use Rattle.value_formats.proofs.Once.{line_reads}

-- the answer for a line that does not end the input
line_at_on : (input : List ℕ) (from : ℕ) (kinds : List (Option Kind)) → (IsInputEnd (drop from input) → ⊥) → line_at input from kinds ≡ answer_of_line input kinds (first_line (drop from input))
unfolding line_at
line_at_on input from kinds on =
    ap (λ (t : Bool). if t then AtInputEnd else answer_of_line input kinds (first_line (drop from input))) (false_from_ne_true (is_input_end (drop from input)) (λ h. on (input_end_is (drop from input) h)))

line_at_end : (input : List ℕ) (from : ℕ) (kinds : List (Option Kind)) → IsInputEnd (drop from input) → line_at input from kinds ≡ AtInputEnd
unfolding line_at
line_at_end input from kinds end =
    ap (λ (t : Bool). if t then AtInputEnd else answer_of_line input kinds (first_line (drop from input))) (is_input_end_of (drop from input) end)

read_once : (input : List ℕ) (from next : ℕ) (kinds : List (Option Kind)) (holds : List Element → Type 0) (found : Result (List (Option Value)) ℕ)
    → (h : ReadsLine input from next holds) → values_from 1 kinds h.elements ≡ found → line_at input from kinds ≡ line_answer next found
read_once input from next kinds holds found h e =
    let r = line_reads (drop from input) h.elements (drop next input) h.line in
    let place : length input - length (first_line (drop from input)).rest ≡ next = omega (arith, ap length r.1, length-drop next input, h.within) in
    line_at_on input from kinds h.goes_on
    ∙ ap (λ (k : ℕ). line_answer k (values_from 1 kinds (first_line (drop from input)).elements)) place
    ∙ ap (λ (es : List Element). line_answer next (values_from 1 kinds es)) r.0
    ∙ ap (line_answer next) e

-- the number of a bad element is one from 1 on
bad_is : (input : List ℕ) (from next number : ℕ) (kinds : List (Option Kind)) → ReadsLine input from next (λ es. IsFirstBad kinds es number) → line_at input from kinds ≡ BadElement number next
bad_is input from next zero kinds h = absurd (bad_above_0 kinds h.elements h.so)
bad_is input from next (suc m) kinds h =
    let same : 1 + m ≡ suc m = omega arith in
    read_once input from next kinds (λ es. IsFirstBad kinds es (suc m)) (Err (suc m)) h (bad_first kinds h.elements 1 m h.so ∙ ap (λ (k : ℕ). Err k) same)

pub import_is : (input : List ℕ) (from : ℕ) (kinds : List (Option Kind)) (a : Imported) → IsImport input from kinds a → line_at input from kinds ≡ a
import_is input from kinds AtInputEnd h = line_at_end input from kinds h
import_is input from kinds (BadElement number next) h = bad_is input from next number kinds h
import_is input from kinds (Elements values next) h =
    read_once input from next kinds (λ es. AreTaken kinds es values) (Ok values) h (taken_all kinds h.elements 1 values h.so)

pub imports_agree : (input : List ℕ) (from : ℕ) (kinds : List (Option Kind)) (a b : Imported) → from ≤ length input → IsImport input from kinds a → IsImport input from kinds b → a ≡ b
imports_agree input from kinds a b room h k = sym (import_is input from kinds a h) ∙ import_is input from kinds b k
