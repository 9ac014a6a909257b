-- What a stack of suspended layers comes to, step by step.
use Rattle.std.proofs.Common.{Bool, ◌≡◌, ℕ, zero, suc, ◌-◌, ◌<◌, true, false, List, [], ◌∷◌, ◌++◌, length, reverse, nat_le, Some, None, refl, ap, ◌∙◌, arith}
use Rattle.std.proofs.lemmas.List.{reverse-append}
use Rattle.abl_base.specs.declared.place.Place.{Place}
use Rattle.abl_base.specs.declared.rule.Rule.{Rule}
use Rattle.abl_base.specs.declared.rule.Rule.TheVariants.{E6}
use Rattle.preprocessor.specs.declared.layer.Layer.{Layer}
use Rattle.preprocessor.specs.declared.machine.Waiting.{Waiting}
use Rattle.preprocessor.specs.declared.machine.Waiting.TheVariants.{Inside, Included, Line, Condition}
use Rattle.preprocessor.specs.declared.reference.FileReference.{FileReference}
use Rattle.preprocessor.specs.declared.texts.NamedText.{NamedText}
use Rattle.preprocessor.specs.declared.texts.State.{State}
use Rattle.preprocessor.specs.declared.texts.Here.{Here}
use Rattle.preprocessor.specs.declared.texts.Outcome.{Outcome}
use Rattle.preprocessor.specs.declared.texts.Outcome.TheVariants.{Gives, Breaks, Needs}
use Rattle.preprocessor.specs.Modes.{plain}
use Rattle.preprocessor.specs.Places.{start}
use Rattle.preprocessor.specs.Texts.{bytes_at, found}
use Rattle.preprocessor.specs.Expansion.{Includes, closed, entered, in_file, included, layer, one_more_text, text_of}
use Rattle.preprocessor.specs.Machine.{condition_ended, file_ended, file_read, inside_ended, line_ended, reference_given, resumed, under}
use Rattle.preprocessor.proofs.Layers.{text_is}

-- a violation is final
breaks_on : (texts : List NamedText) (here : Here) (stack : List Waiting) (r : Rule) (t : ℕ) (p : Place) → resumed texts here stack (Breaks r t p) ≡ Breaks r t p
unfolding resumed
breaks_on texts here [] r t p = refl
breaks_on texts here (Inside l ∷ rest) r t p = breaks_on texts here rest r t p
breaks_on texts here (Line l global ∷ rest) r t p = breaks_on texts here rest r t p
breaks_on texts here (Condition l ∷ rest) r t p = breaks_on texts here rest r t p
breaks_on texts here (Included l below n branches ∷ rest) r t p = breaks_on texts below rest r t p

pub breaks : (texts : List NamedText) (here : Here) (stack : List Waiting) (r : Rule) (t : ℕ) (p : Place) → under texts here stack (Breaks r t p) ≡ Breaks r t p
breaks texts here stack r t p = breaks_on texts here (reverse stack) r t p

-- and so is a need
needs_on : (texts : List NamedText) (here : Here) (stack : List Waiting) (name : List ℕ) → resumed texts here stack (Needs name) ≡ Needs name
unfolding resumed
needs_on texts here [] name = refl
needs_on texts here (Inside l ∷ rest) name = needs_on texts here rest name
needs_on texts here (Line l global ∷ rest) name = needs_on texts here rest name
needs_on texts here (Condition l ∷ rest) name = needs_on texts here rest name
needs_on texts here (Included l below n branches ∷ rest) name = needs_on texts below rest name

pub needs : (texts : List NamedText) (here : Here) (stack : List Waiting) (name : List ℕ) → under texts here stack (Needs name) ≡ Needs name
needs texts here stack name = needs_on texts here (reverse stack) name

-- nothing waits
pub nothing_waits : (texts : List NamedText) (here : Here) (o : Outcome) → under texts here [] o ≡ o
unfolding resumed
nothing_waits texts here o = refl

-- a layer that waits for the inside of its reference is on top
pub inside_waits : (texts : List NamedText) (here : Here) (stack : List Waiting) (l : Layer) (o : Outcome) → under texts here (stack ++ Inside l ∷ []) o ≡ under texts here stack (inside_ended texts here l o)
unfolding resumed
inside_waits texts here stack l o = ap (λ s. resumed texts here s o) (reverse-append stack (Inside l ∷ []))

-- one that waits for the line of its definition is on top
pub line_waits : (texts : List NamedText) (here : Here) (stack : List Waiting) (l : Layer) (global : Bool) (o : Outcome) → under texts here (stack ++ Line l global ∷ []) o ≡ under texts here stack (line_ended texts here l global o)
unfolding resumed
line_waits texts here stack l global o = ap (λ s. resumed texts here s o) (reverse-append stack (Line l global ∷ []))

-- one that waits for its condition is on top
pub condition_waits : (texts : List NamedText) (here : Here) (stack : List Waiting) (l : Layer) (o : Outcome) → under texts here (stack ++ Condition l ∷ []) o ≡ under texts here stack (condition_ended texts here l o)
unfolding resumed
condition_waits texts here stack l o = ap (λ s. resumed texts here s o) (reverse-append stack (Condition l ∷ []))

-- one that waits for a file is on top
pub file_waits : (texts : List NamedText) (here below : Here) (stack : List Waiting) (l : Layer) (n : ℕ) (branches : List Bool) (o : Outcome) → under texts here (stack ++ Included l below n branches ∷ []) o ≡ under texts below stack (file_ended texts below l n branches o)
unfolding resumed
file_waits texts here below stack l n branches o = ap (λ s. resumed texts here s o) (reverse-append stack (Included l below n branches ∷ []))

-- what the file defined for itself ends with it
closed_is : (texts : List NamedText) (here : Here) (l : Layer) (state : State) (o : Outcome) → reference_given texts here l (closed state o) ≡ file_ended texts here l (length state.locals) state.branches o
closed_is texts here l state (Gives marks last) = refl
closed_is texts here l state (Breaks r t p) = refl
closed_is texts here l state (Needs n) = refl

-- a file that is there is entered, where its bytes fit
file_in : (texts : List NamedText) (here : Here) (l : Layer) (state : State) (file : FileReference) (n i : ℕ) → 0 < n → found 0 file.name texts ≡ Some i → nat_le (length (bytes_at texts i)) state.budget ≡ true → reference_given texts here l (one_more_text texts (text_of texts n) here l.start state file n) ≡ file_ended texts here l (length state.locals) state.branches (layer texts (record { text = i; arguments = file.arguments; left = n - 1 }) start plain (in_file state file (length (bytes_at texts i))) [] (bytes_at texts i))
file_in texts here l state file zero i h e f = absurd (omega (arith, h))
file_in texts here l state file (suc left) i h e f =
    let q : left ≡ suc left - 1 = omega arith in
    ap (λ x. reference_given texts here l (included texts (text_of texts (suc left)) here l.start state file left x)) e
    ∙ ap (λ x. reference_given texts here l (entered texts (text_of texts (suc left)) here l.start state file left i x)) f
    ∙ ap (λ o. reference_given texts here l (closed state o)) (text_is texts i left file.arguments (in_file state file (length (bytes_at texts i))) (bytes_at texts i))
    ∙ closed_is texts here l state (layer texts (record { text = i; arguments = file.arguments; left = left }) start plain (in_file state file (length (bytes_at texts i))) [] (bytes_at texts i))
    ∙ ap (λ m. file_ended texts here l (length state.locals) state.branches (layer texts (record { text = i; arguments = file.arguments; left = m }) start plain (in_file state file (length (bytes_at texts i))) [] (bytes_at texts i))) q

pub file_entered : (texts : List NamedText) (here : Here) (l : Layer) (state : State) (file : FileReference) (i : ℕ) → 0 < here.left → found 0 file.name texts ≡ Some i → nat_le (length (bytes_at texts i)) state.budget ≡ true → file_read texts here l state file ≡ file_ended texts here l (length state.locals) state.branches (layer texts (record { text = i; arguments = file.arguments; left = here.left - 1 }) start plain (in_file state file (length (bytes_at texts i))) [] (bytes_at texts i))
file_entered texts here l state file i h e f = file_in texts here l state file here.left i h e f

-- where they do not, E6 is broken
file_over : (texts : List NamedText) (here : Here) (l : Layer) (state : State) (file : FileReference) (n i : ℕ) → 0 < n → found 0 file.name texts ≡ Some i → nat_le (length (bytes_at texts i)) state.budget ≡ false → reference_given texts here l (one_more_text texts (text_of texts n) here l.start state file n) ≡ Breaks E6 here.text l.start
file_over texts here l state file zero i h e f = absurd (omega (arith, h))
file_over texts here l state file (suc left) i h e f =
    ap (λ x. reference_given texts here l (included texts (text_of texts (suc left)) here l.start state file left x)) e
    ∙ ap (λ x. reference_given texts here l (entered texts (text_of texts (suc left)) here l.start state file left i x)) f

pub file_too_long : (texts : List NamedText) (here : Here) (l : Layer) (state : State) (file : FileReference) (i : ℕ) → 0 < here.left → found 0 file.name texts ≡ Some i → nat_le (length (bytes_at texts i)) state.budget ≡ false → file_read texts here l state file ≡ Breaks E6 here.text l.start
file_too_long texts here l state file i h e f = file_over texts here l state file here.left i h e f

-- a file that is not there is needed
missing : (texts : List NamedText) (includes : Includes) (here : Here) (l : Layer) (state : State) (file : FileReference) (n : ℕ) → 0 < n → found 0 file.name texts ≡ None → reference_given texts here l (one_more_text texts includes here l.start state file n) ≡ Needs file.name
missing texts includes here l state file zero h e = absurd (omega (arith, h))
missing texts includes here l state file (suc left) h e = ap (λ f. reference_given texts here l (included texts includes here l.start state file left f)) e

pub file_missing : (texts : List NamedText) (here : Here) (l : Layer) (state : State) (file : FileReference) → 0 < here.left → found 0 file.name texts ≡ None → file_read texts here l state file ≡ Needs file.name
file_missing texts here l state file h e = missing texts (text_of texts here.left) here l state file here.left h e
