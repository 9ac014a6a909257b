-- What IMPORT reads: the values that the elements of a line give to targets of these kinds.
use Rattle.std.specs.Prelude.{◌≡◌, ◌≢◌, ◌≤◌, ℕ, zero, suc, ◌+◌, ◌-◌, List, [], ◌∷◌, length, drop, Option, Some, None, IsSome, option_map, Result, Ok, Err, if◌then◌else◌}
use Rattle.abl_base.specs.declared.value.Value.{Value}
use Rattle.abl_base.specs.declared.value.Value.TheVariants.{Unknown}
use Rattle.abl_base.specs.declared.value.Kind.{Kind}
use Rattle.abl_base.specs.text_forms.TextForms.{TextForms, Imported, AtInputEnd, BadElement, Elements}
use Rattle.value_formats.specs.declared.element.Element.{Element}
use Rattle.value_formats.specs.declared.element.Element.TheVariants.{Bare, Quoted}
use Rattle.value_formats.specs.declared.answer.Imported.{Imported as Values}
use Rattle.value_formats.specs.declared.answer.ImportFault.{ImportFault}
use Rattle.value_formats.specs.declared.answer.ImportFault.TheVariants.{AtEnd, BadField, NoMemory}
use Rattle.abl_values.specs.Masks.{same_bytes}
use Rattle.value_formats.specs.Masked.{masked}
use Rattle.text_values.specs.TextValues.{number_in, value_in}
use Rattle.value_formats.specs.Lines.{IsInputEnd, IsLine, first_line, is_input_end, Reading}

-- ---- one element

-- what a target gets of a text: no value where it is no text of its kind
abbrev pub given : Kind → List ℕ → Option (Option Value)
given kind text = option_map Some (value_in kind text)

-- what a target gets of an element, and none of a bad one. A bare `?` is unknown and a bare `-` leaves the target;
-- any other text, in quotes or not, is one of the target's kind or bad. A target without a kind takes no value
abbrev pub taken : Option Kind → Element → Option (Option Value)
taken None e = Some None
taken (Some kind) (Bare word) =
    if same_bytes word (63 ∷ []) then Some (Some Unknown)
    else if same_bytes word (45 ∷ []) then Some None
    else given kind word
taken (Some kind) (Quoted text) = given kind text

-- ---- the elements of a line, as a relation

-- these are the values that the targets get, one each. Elements beyond the targets are ignored
abbrev pub AreTaken : List (Option Kind) → List Element → List (Option Value) → Type 0
AreTaken [] es [] = Unit {0}
AreTaken [] es (v ∷ vs) = ⊥
AreTaken (k ∷ ks) es [] = ⊥
AreTaken (k ∷ ks) [] (v ∷ vs) = (v ≡ None) × AreTaken ks [] vs
AreTaken (k ∷ ks) (e ∷ es) (v ∷ vs) = (taken k e ≡ Some v) × AreTaken ks es vs

-- the element of this number, from 1, is bad, and those before it are not
abbrev pub IsFirstBad : List (Option Kind) → List Element → ℕ → Type 0
IsFirstBad [] es number = ⊥
IsFirstBad (k ∷ ks) [] number = ⊥
IsFirstBad (k ∷ ks) (e ∷ es) zero = ⊥
IsFirstBad (k ∷ ks) (e ∷ es) (suc zero) = taken k e ≡ None
IsFirstBad (k ∷ ks) (e ∷ es) (suc (suc number)) = IsSome (taken k e) × IsFirstBad ks es (suc number)

-- The bytes between these places are a line that is not the end of the input, and this holds of its elements.
pub record ReadsLine (input : List ℕ) (from next : ℕ) (holds : List Element → Type 0) : Type 0 where
  pub goes_on : IsInputEnd (drop from input) → ⊥
  pub elements : List Element
  pub line : IsLine (drop from input) elements (drop next input)
  pub within : next ≤ length input
  pub so : holds elements

-- what IMPORT may read at a place of an input, for targets of these kinds
abbrev pub IsImport : List ℕ → ℕ → List (Option Kind) → Imported → Type 0
IsImport input from kinds AtInputEnd = IsInputEnd (drop from input)
IsImport input from kinds (BadElement number next) = ReadsLine input from next (λ es. IsFirstBad kinds es number)
IsImport input from kinds (Elements values next) = ReadsLine input from next (λ es. AreTaken kinds es values)

-- ---- the same as a function

-- prepends one value; an error is unchanged
abbrev pub value_before : Option Value → Result (List (Option Value)) ℕ → Result (List (Option Value)) ℕ
value_before v (Ok vs) = Ok (v ∷ vs)
value_before v (Err number) = Err number

-- the value of one target before those of the later targets, or this number where its element is bad
abbrev pub next_value : ℕ → Option (Option Value) → Result (List (Option Value)) ℕ → Result (List (Option Value)) ℕ
next_value number None tail = Err number
next_value number (Some v) tail = value_before v tail

-- the values that the targets get, or the number of the first bad element. The first element has this number
abbrev pub values_from : ℕ → List (Option Kind) → List Element → Result (List (Option Value)) ℕ
values_from number [] es = Ok []
values_from number (k ∷ ks) [] = value_before None (values_from (number + 1) ks [])
values_from number (k ∷ ks) (e ∷ es) = next_value number (taken k e) (values_from (number + 1) ks es)

-- the answer for a line, when the next one begins at this place
abbrev pub line_answer : ℕ → Result (List (Option Value)) ℕ → Imported
line_answer next (Ok values) = Elements values next
line_answer next (Err number) = BadElement number next

abbrev pub answer_of_line : List ℕ → List (Option Kind) → Reading → Imported
answer_of_line input kinds line = line_answer (length input - length line.rest) (values_from 1 kinds line.elements)

-- what IMPORT reads at a place of an input, for targets of these kinds
unfoldable pub line_at : List ℕ → ℕ → List (Option Kind) → Imported
line_at input from kinds =
    if is_input_end (drop from input) then AtInputEnd else answer_of_line input kinds (first_line (drop from input))

-- ---- what expressions and statements take as a parameter

abbrev pub text_forms : TextForms
text_forms = record { masked = masked; number_in = number_in; line_at = line_at }

-- ---- the answer of a call

-- the call answered so. Out of memory is never answered at the end of an input
abbrev pub Answers : Result Values ImportFault → Imported → Type 0
Answers (Ok read) wanted = Elements read.values read.next ≡ wanted
Answers (Err AtEnd) wanted = AtInputEnd ≡ wanted
Answers (Err (BadField number next)) wanted = BadElement number next ≡ wanted
Answers (Err NoMemory) wanted = wanted ≢ AtInputEnd
