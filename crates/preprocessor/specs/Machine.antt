-- What a stack of suspended layers comes to.
use Rattle.std.specs.Prelude.{ℕ, ◌+◌, ◌*◌, ◌<◌, Bool, List, [], ◌∷◌, length, reverse}
use Rattle.preprocessor.specs.declared.layer.Layer.{Layer}
use Rattle.preprocessor.specs.declared.machine.Waiting.{Waiting}
use Rattle.preprocessor.specs.declared.machine.Waiting.TheVariants.{Inside, Included, Line, Condition}
use Rattle.preprocessor.specs.declared.machine.Machine.{Machine}
use Rattle.preprocessor.specs.declared.machine.Turn.{Turn}
use Rattle.preprocessor.specs.declared.machine.Turn.TheVariants.{Next, Ends}
use Rattle.preprocessor.specs.declared.directive.Directive.{Directive}
use Rattle.preprocessor.specs.declared.texts.NamedText.{NamedText}
use Rattle.preprocessor.specs.declared.texts.Mark.{Mark}
use Rattle.preprocessor.specs.declared.texts.State.{State}
use Rattle.preprocessor.specs.declared.texts.Here.{Here}
use Rattle.preprocessor.specs.declared.texts.Outcome.{Outcome}
use Rattle.preprocessor.specs.declared.reference.Reference.{Reference}
use Rattle.preprocessor.specs.declared.reference.FileReference.{FileReference}
use Rattle.abl_base.specs.declared.place.Place.{Place}
use Rattle.preprocessor.specs.Modes.{inner}
use Rattle.preprocessor.specs.Braces.{closing}
use Rattle.preprocessor.specs.Names.{word_length}
use Rattle.preprocessor.specs.Directives.{line_length}
use Rattle.preprocessor.specs.Expansion.{after_file, continued, copied, decided, defined, directed, given_by, layer, lined, one_more_text, opened, passed_by, referred, resolved, sized, text_of, then_with}

-- what is left of a layer's bytes comes to this
abbrev pub layer_read : List NamedText → Here → Layer → State → Outcome
layer_read texts here l state = layer texts here l.at l.mode state l.given l.rest.now

-- the layer goes on after what its reference gave
abbrev pub layer_continued : List NamedText → Here → Layer → State → List Mark → Outcome
layer_continued texts here l state extra = continued (layer texts) here l.start l.at l.mode state l.given extra l.rest.now

-- the layer's next byte is copied
abbrev pub byte_copied : List NamedText → Here → Layer → State → ℕ → List ℕ → Outcome
byte_copied texts here l state b bs = copied (layer texts) here l.at l.mode state l.given b bs

-- the layer's next byte opens a reference, which these bytes follow
abbrev pub reference_opened : List NamedText → Here → Layer → State → List ℕ → Outcome
reference_opened texts here l state bs = opened texts (text_of texts here.left) (layer texts) here l.at l.mode state l.given bs (closing [] inner bs)

-- the layer's next byte begins a word, which these bytes follow
abbrev pub word_read : List NamedText → Here → Layer → State → List ℕ → Outcome
word_read texts here l state bs = sized (layer texts) here l.at l.mode state l.given bs (word_length bs)

-- the line of a definition, whose word is next and ends at the place `next`
abbrev pub line_read : List NamedText → Here → Layer → Place → State → Bool → List ℕ → Outcome
line_read texts here l next state global bytes = lined (layer texts) here l.at next state l.given global (line_length bytes) bytes

-- a word of the text, which these bytes follow
abbrev pub text_word : List NamedText → Here → Layer → Place → State → List ℕ → Directive → Outcome
text_word texts here l next state bytes word = directed (layer texts) here l.at next state l.given bytes word

-- the word that ends a part which was not chosen
abbrev pub branch_word : List NamedText → Here → Layer → Place → State → List ℕ → Directive → Outcome
branch_word texts here l next state bytes word = passed_by (layer texts) here l.at next state l.given bytes word

-- the line of the layer's definition came to this
abbrev pub line_ended : List NamedText → Here → Layer → Bool → Outcome → Outcome
line_ended texts here l global outcome = defined (layer texts) here l.start l.at l.given l.rest.now global outcome

-- the condition that the layer waits for came to this
abbrev pub condition_ended : List NamedText → Here → Layer → Outcome → Outcome
condition_ended texts here l outcome = decided (layer texts) here l.start l.at l.given l.rest.now outcome

-- the layer's reference comes to this
abbrev pub reference_given : List NamedText → Here → Layer → Outcome → Outcome
reference_given texts here l outcome = given_by (layer texts) here l.start l.at l.mode l.given l.rest.now outcome

-- the layer's reference says this
abbrev pub reference_read : List NamedText → Here → Layer → State → Reference → Outcome
reference_read texts here l state reference = reference_given texts here l (referred texts (text_of texts here.left) here l.start state reference)

-- the layer's reference includes this file
abbrev pub file_read : List NamedText → Here → Layer → State → FileReference → Outcome
file_read texts here l state file = reference_given texts here l (one_more_text texts (text_of texts here.left) here l.start state file here.left)

-- the inside of the layer's reference came to this
abbrev pub inside_ended : List NamedText → Here → Layer → Outcome → Outcome
inside_ended texts here l outcome = resolved texts (text_of texts here.left) (layer texts) here l.start l.at l.mode l.given l.rest.now outcome

-- the file of the layer's reference came to this
abbrev pub file_ended : List NamedText → Here → Layer → ℕ → List Bool → Outcome → Outcome
file_ended texts here l n branches outcome =
    then_with outcome (λ marks state. layer_continued texts here l (after_file n branches state) marks)

-- what comes of it below, the innermost layer first
unfoldable pub resumed : List NamedText → Here → List Waiting → Outcome → Outcome
resumed texts here [] outcome = outcome
resumed texts here (Inside l ∷ rest) outcome = resumed texts here rest (inside_ended texts here l outcome)
resumed texts here (Line l global ∷ rest) outcome = resumed texts here rest (line_ended texts here l global outcome)
resumed texts here (Condition l ∷ rest) outcome = resumed texts here rest (condition_ended texts here l outcome)
resumed texts here (Included l below n branches ∷ rest) outcome = resumed texts below rest (file_ended texts below l n branches outcome)

-- the same where the innermost layer is the last
abbrev pub under : List NamedText → Here → List Waiting → Outcome → Outcome
under texts here stack outcome = resumed texts here (reverse stack) outcome

abbrev pub meaning : List NamedText → Machine → Outcome
meaning texts m = under texts m.here m.stack.items (layer texts m.here m.layer.at m.layer.mode m.state m.layer.given m.layer.rest.now)

abbrev pub comes_to : List NamedText → Turn → Outcome
comes_to texts (Next m) = meaning texts m
comes_to texts (Ends outcome) = outcome

-- ---- the work that is left

-- of a layer that waits: four for each byte, and two or one besides
abbrev pub weight : Waiting → ℕ
weight (Inside l) = 4 * length l.rest.now + 2
weight (Line l global) = 4 * length l.rest.now + 1
weight (Condition l) = 4 * length l.rest.now + 1
weight (Included l here n branches) = 4 * length l.rest.now + 1

unfoldable pub height : List Waiting → ℕ
height [] = 0
height (w ∷ ws) = weight w + height ws

-- of a machine in this state: the bytes that are left, and the work that the budget allows
abbrev pub measure : List Waiting → List ℕ → State → ℕ
measure stack rest state = height stack + 4 * length rest + 4 * state.budget

abbrev pub work_left : Machine → ℕ
work_left m = measure m.stack.items m.layer.rest.now m.state

-- less is left than this
abbrev pub IsBelow : ℕ → Turn → Type 0
IsBelow n (Next m) = work_left m < n
IsBelow n (Ends outcome) = 0 < 1
