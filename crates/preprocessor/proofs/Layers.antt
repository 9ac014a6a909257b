-- The bytes of a layer come to what the first of them and the rest come to.
use Rattle.std.proofs.Common.{◌≡◌, ℕ, zero, suc, ◌+◌, ◌≤◌, Bool, true, false, List, [], ◌∷◌, ◌++◌, length, take, drop, Option, Some, None, refl, ap, ◌∙◌, arith, length-drop}
use Rattle.std.proofs.lemmas.List.{length-take}
use Rattle.abl_base.specs.declared.place.Place.{Place}
use Rattle.abl_base.specs.declared.rule.Rule.TheVariants.{E6}
use Rattle.preprocessor.specs.declared.mode.Mode.{Mode}
use Rattle.preprocessor.specs.declared.names.Definition.{Definition}
use Rattle.preprocessor.specs.declared.directive.Directive.{Directive}
use Rattle.preprocessor.specs.declared.directive.Directive.TheVariants.{Scoped, Global, If, Then, ElseIf, Else, EndIf, Unknown}
use Rattle.preprocessor.specs.declared.texts.NamedText.{NamedText}
use Rattle.preprocessor.specs.declared.texts.Mark.{Mark}
use Rattle.preprocessor.specs.declared.texts.State.{State}
use Rattle.preprocessor.specs.declared.texts.Here.{Here}
use Rattle.preprocessor.specs.declared.texts.Outcome.{Outcome}
use Rattle.preprocessor.specs.declared.texts.Outcome.TheVariants.{Gives, Breaks, Needs}
use Rattle.preprocessor.specs.Modes.{after, at_branch, begins_word, beside, in_condition, inner, next_byte, opens, plain}
use Rattle.preprocessor.specs.Braces.{closing}
use Rattle.preprocessor.specs.Names.{word_length}
use Rattle.preprocessor.specs.Words.{words}
use Rattle.preprocessor.specs.Directives.{definition_of, line_length, maker_of}
use Rattle.preprocessor.specs.Parts.{part_length, word_at, word_in, word_size}
use Rattle.preprocessor.specs.Conditions.{truth}
use Rattle.preprocessor.specs.References.{reading}
use Rattle.preprocessor.specs.Texts.{bytes_of, last_of}
use Rattle.preprocessor.specs.Places.{moved, past, start}
use Rattle.preprocessor.specs.Expansion.{Includes, Reads, after_part, all_ended, branched, chosen, condition, conditional, continued, copied, decided, defined, directed, fits, given_by, in_part, judged, kept, layer, lined, made, opened, part_ended, passed_by, passed_over, past_word, reads, referred, resolved, sized, skipped, spent, step, text_of, unopened, with_one, worded}

-- ---- the limit

pub over : (r : Reads) (here : Here) (at next : Place) (mode : Mode) (state : State) (given extra : List Mark) (rest : List ℕ) → fits state given (length extra) ≡ false → continued r here at next mode state given extra rest ≡ Breaks E6 here.text at
over r here at next mode state given extra rest h = ap (kept r here at next mode state given extra rest) h

pub within_limit : (r : Reads) (here : Here) (at next : Place) (mode : Mode) (state : State) (given extra : List Mark) (rest : List ℕ) → fits state given (length extra) ≡ true → continued r here at next mode state given extra rest ≡ r here next mode (spent state (length extra)) (given ++ extra) rest
within_limit r here at next mode state given extra rest h = ap (kept r here at next mode state given extra rest) h

-- ---- what is read of at most k bytes is the same

pub record Agree (here : Here) (k : ℕ) (f g : Reads) : Type 0 where
  pub same : (at : Place) (mode : Mode) (state : State) (given : List Mark) (bs : List ℕ) → length bs ≤ k → f here at mode state given bs ≡ g here at mode state given bs

shrunk : (here : Here) (k j : ℕ) (f g : Reads) → Agree here k f g → j ≤ k → Agree here j f g
shrunk here k j f g a h = record { same = λ at mode state given bs q. a.same at mode state given bs (omega (arith, q, h)) }

fewer : (n : ℕ) (bs : List ℕ) → length (drop n bs) ≤ length bs
fewer n bs = omega (arith, length-drop n bs)

first_part : (n : ℕ) (bs : List ℕ) → length (take n bs) ≤ length bs
first_part n bs = omega (arith, length-take n bs)

-- what is read of the rest after n bytes is the same
later : (here : Here) (f g : Reads) (n : ℕ) (bs : List ℕ) → Agree here (length bs) f g → Agree here (length (drop n bs)) f g
later here f g n bs a = shrunk here (length bs) (length (drop n bs)) f g a (fewer n bs)

kept_same : (f g : Reads) (here : Here) (at next : Place) (mode : Mode) (state : State) (given extra : List Mark) (rest : List ℕ) → Agree here (length rest) f g → (t : Bool) → kept f here at next mode state given extra rest t ≡ kept g here at next mode state given extra rest t
kept_same f g here at next mode state given extra rest a true = a.same next mode (spent state (length extra)) (given ++ extra) rest (omega arith)
kept_same f g here at next mode state given extra rest a false = refl

continued_same : (f g : Reads) (here : Here) (at next : Place) (mode : Mode) (state : State) (given extra : List Mark) (rest : List ℕ) → Agree here (length rest) f g → continued f here at next mode state given extra rest ≡ continued g here at next mode state given extra rest
continued_same f g here at next mode state given extra rest a = kept_same f g here at next mode state given extra rest a (fits state given (length extra))

given_same : (f g : Reads) (here : Here) (at next : Place) (mode : Mode) (given : List Mark) (rest : List ℕ) → Agree here (length rest) f g → (o : Outcome) → given_by f here at next mode given rest o ≡ given_by g here at next mode given rest o
given_same f g here at next mode given rest a (Gives extra state) = continued_same f g here at next mode state given extra rest a
given_same f g here at next mode given rest a (Breaks r t p) = refl
given_same f g here at next mode given rest a (Needs n) = refl

resolved_same : (texts : List NamedText) (includes : Includes) (f g : Reads) (here : Here) (at next : Place) (mode : Mode) (given : List Mark) (rest : List ℕ) → Agree here (length rest) f g → (o : Outcome) → resolved texts includes f here at next mode given rest o ≡ resolved texts includes g here at next mode given rest o
resolved_same texts includes f g here at next mode given rest a (Gives marks state) = given_same f g here at next mode given rest a (referred texts includes here at state (reading (words None false (bytes_of marks))))
resolved_same texts includes f g here at next mode given rest a (Breaks r t p) = refl
resolved_same texts includes f g here at next mode given rest a (Needs n) = refl

opened_same : (texts : List NamedText) (includes : Includes) (f g : Reads) (here : Here) (at : Place) (mode : Mode) (state : State) (given : List Mark) (bs : List ℕ) → Agree here (length bs) f g → (o : Option ℕ) → opened texts includes f here at mode state given bs o ≡ opened texts includes g here at mode state given bs o
opened_same texts includes f g here at mode state given bs a None = refl
opened_same texts includes f g here at mode state given bs a (Some n) =
    ap (resolved texts includes f here at (past (moved at 123) (take (n + 1) bs)) (beside mode) given (drop (n + 1) bs)) (a.same (moved at 123) inner state [] (take n bs) (first_part n bs))
    ∙ resolved_same texts includes f g here at (past (moved at 123) (take (n + 1) bs)) (beside mode) given (drop (n + 1) bs) (later here f g (n + 1) bs a) (g here (moved at 123) inner state [] (take n bs))

made_same : (f g : Reads) (here : Here) (at next : Place) (state : State) (given : List Mark) (rest : List ℕ) (global : Bool) → Agree here (length rest) f g → (o : Option Definition) → made f here at next state given rest global o ≡ made g here at next state given rest global o
made_same f g here at next state given rest global a None = refl
made_same f g here at next state given rest global a (Some d) = a.same next plain (with_one global state d) given rest (omega arith)

defined_same : (f g : Reads) (here : Here) (at next : Place) (given : List Mark) (rest : List ℕ) (global : Bool) → Agree here (length rest) f g → (o : Outcome) → defined f here at next given rest global o ≡ defined g here at next given rest global o
defined_same f g here at next given rest global a (Gives marks state) = made_same f g here at next state given rest global a (definition_of (maker_of global) (bytes_of marks))
defined_same f g here at next given rest global a (Breaks r t p) = refl
defined_same f g here at next given rest global a (Needs n) = refl

lined_same : (f g : Reads) (here : Here) (at next : Place) (state : State) (given : List Mark) (global : Bool) (k : ℕ) (bytes : List ℕ) → Agree here (length bytes) f g → lined f here at next state given global k bytes ≡ lined g here at next state given global k bytes
lined_same f g here at next state given global k bytes a =
    ap (defined f here at (past next (take k bytes)) given (drop k bytes) global) (a.same next inner state [] (take k bytes) (first_part k bytes))
    ∙ defined_same f g here at (past next (take k bytes)) given (drop k bytes) global (later here f g k bytes a) (g here next inner state [] (take k bytes))

passed_over_same : (f g : Reads) (here : Here) (at next : Place) (state : State) (given : List Mark) (bytes : List ℕ) → Agree here (length bytes) f g → (o : Option ℕ) → passed_over f here at next state given bytes o ≡ passed_over g here at next state given bytes o
passed_over_same f g here at next state given bytes a None = refl
passed_over_same f g here at next state given bytes a (Some k) = a.same (past next (take k bytes)) at_branch state given (drop k bytes) (fewer k bytes)

branched_same : (f g : Reads) (here : Here) (at next : Place) (state : State) (given : List Mark) (rest : List ℕ) → Agree here (length rest) f g → (o : Option Bool) → branched f here at next state given rest o ≡ branched g here at next state given rest o
branched_same f g here at next state given rest a None = refl
branched_same f g here at next state given rest a (Some true) = a.same (past_word next rest) plain (in_part false state) given (drop (word_size rest) rest) (fewer (word_size rest) rest)
branched_same f g here at next state given rest a (Some false) = passed_over_same f g here at (past_word next rest) state given (drop (word_size rest) rest) (later here f g (word_size rest) rest a) (part_length false (drop (word_size rest) rest))

judged_same : (f g : Reads) (here : Here) (at next : Place) (state : State) (given : List Mark) (rest : List ℕ) → Agree here (length rest) f g → (d : Directive) (bytes : List ℕ) → judged f here at next state given rest d bytes ≡ judged g here at next state given rest d bytes
judged_same f g here at next state given rest a Then bytes = branched_same f g here at next state given rest a (truth state bytes)
judged_same f g here at next state given rest a Scoped bytes = refl
judged_same f g here at next state given rest a Global bytes = refl
judged_same f g here at next state given rest a If bytes = refl
judged_same f g here at next state given rest a ElseIf bytes = refl
judged_same f g here at next state given rest a Else bytes = refl
judged_same f g here at next state given rest a EndIf bytes = refl
judged_same f g here at next state given rest a Unknown bytes = refl

decided_same : (f g : Reads) (here : Here) (at next : Place) (given : List Mark) (rest : List ℕ) → Agree here (length rest) f g → (o : Outcome) → decided f here at next given rest o ≡ decided g here at next given rest o
decided_same f g here at next given rest a (Gives marks state) = judged_same f g here at next state given rest a (word_at rest) (bytes_of marks)
decided_same f g here at next given rest a (Breaks r t p) = refl
decided_same f g here at next given rest a (Needs n) = refl

condition_same : (f g : Reads) (here : Here) (at next : Place) (state : State) (given : List Mark) (bytes : List ℕ) → Agree here (length bytes) f g → (o : Option ℕ) → condition f here at next state given bytes o ≡ condition g here at next state given bytes o
condition_same f g here at next state given bytes a None = refl
condition_same f g here at next state given bytes a (Some k) =
    ap (decided f here at (past next (take k bytes)) given (drop k bytes)) (a.same next in_condition state [] (take k bytes) (first_part k bytes))
    ∙ decided_same f g here at (past next (take k bytes)) given (drop k bytes) (later here f g k bytes a) (g here next in_condition state [] (take k bytes))

conditional_same : (f g : Reads) (here : Here) (at next : Place) (state : State) (given : List Mark) (bytes : List ℕ) → Agree here (length bytes) f g → (o : Option ℕ) → conditional f here at next state given bytes o ≡ conditional g here at next state given bytes o
conditional_same f g here at next state given bytes a None = refl
conditional_same f g here at next state given bytes a (Some k) = condition_same f g here at next state given bytes a (part_length false bytes)

skipped_same : (f g : Reads) (here : Here) (at next : Place) (state : State) (given : List Mark) (bytes : List ℕ) → Agree here (length bytes) f g → (o : Option ℕ) → skipped f here at next state given bytes o ≡ skipped g here at next state given bytes o
skipped_same f g here at next state given bytes a None = refl
skipped_same f g here at next state given bytes a (Some k) =
    (later here f g k bytes a).same (past_word (past next (take k bytes)) (drop k bytes)) plain (after_part state) given (drop (word_size (drop k bytes)) (drop k bytes)) (fewer (word_size (drop k bytes)) (drop k bytes))

part_ended_same : (f g : Reads) (here : Here) (at next : Place) (state : State) (given : List Mark) (bytes : List ℕ) → Agree here (length bytes) f g → (o : Option Bool) → part_ended f here at next state given bytes o ≡ part_ended g here at next state given bytes o
part_ended_same f g here at next state given bytes a None = refl
part_ended_same f g here at next state given bytes a (Some true) = refl
part_ended_same f g here at next state given bytes a (Some false) = skipped_same f g here at next state given bytes a (part_length true bytes)

all_ended_same : (f g : Reads) (here : Here) (at next : Place) (state : State) (given : List Mark) (bytes : List ℕ) → Agree here (length bytes) f g → (o : Option Bool) → all_ended f here at next state given bytes o ≡ all_ended g here at next state given bytes o
all_ended_same f g here at next state given bytes a None = refl
all_ended_same f g here at next state given bytes a (Some last) = a.same next plain (after_part state) given bytes (omega arith)

directed_same : (f g : Reads) (here : Here) (at next : Place) (state : State) (given : List Mark) (bytes : List ℕ) → Agree here (length bytes) f g → (d : Directive) → directed f here at next state given bytes d ≡ directed g here at next state given bytes d
directed_same f g here at next state given bytes a Scoped = lined_same f g here at next state given false (line_length bytes) bytes a
directed_same f g here at next state given bytes a Global = lined_same f g here at next state given true (line_length bytes) bytes a
directed_same f g here at next state given bytes a If = conditional_same f g here at next state given bytes a (part_length true bytes)
directed_same f g here at next state given bytes a Then = refl
directed_same f g here at next state given bytes a ElseIf = part_ended_same f g here at next state given bytes a (last_of state.branches)
directed_same f g here at next state given bytes a Else = part_ended_same f g here at next state given bytes a (last_of state.branches)
directed_same f g here at next state given bytes a EndIf = all_ended_same f g here at next state given bytes a (last_of state.branches)
directed_same f g here at next state given bytes a Unknown = refl

passed_by_same : (f g : Reads) (here : Here) (at next : Place) (state : State) (given : List Mark) (bytes : List ℕ) → Agree here (length bytes) f g → (d : Directive) → passed_by f here at next state given bytes d ≡ passed_by g here at next state given bytes d
passed_by_same f g here at next state given bytes a ElseIf = condition_same f g here at next state given bytes a (part_length false bytes)
passed_by_same f g here at next state given bytes a Else = a.same next plain (in_part true state) given bytes (omega arith)
passed_by_same f g here at next state given bytes a EndIf = a.same next plain state given bytes (omega arith)
passed_by_same f g here at next state given bytes a Then = refl
passed_by_same f g here at next state given bytes a If = refl
passed_by_same f g here at next state given bytes a Scoped = refl
passed_by_same f g here at next state given bytes a Global = refl
passed_by_same f g here at next state given bytes a Unknown = refl

worded_same : (f g : Reads) (here : Here) (at next : Place) (state : State) (given : List Mark) (bytes : List ℕ) (d : Directive) → Agree here (length bytes) f g → (t : Bool) → worded f here at next state given bytes d t ≡ worded g here at next state given bytes d t
worded_same f g here at next state given bytes d a false = directed_same f g here at next state given bytes a d
worded_same f g here at next state given bytes d a true = passed_by_same f g here at next state given bytes a d

sized_same : (f g : Reads) (here : Here) (at : Place) (mode : Mode) (state : State) (given : List Mark) (bs : List ℕ) (n : ℕ) → Agree here (length bs) f g → sized f here at mode state given bs n ≡ sized g here at mode state given bs n
sized_same f g here at mode state given bs n a = worded_same f g here at (past (moved at 38) (take n bs)) state given (drop n bs) (word_in mode bs) (later here f g n bs a) mode.branch

unopened_same : (f g : Reads) (here : Here) (at : Place) (mode : Mode) (state : State) (given : List Mark) (b : ℕ) (bs : List ℕ) → Agree here (length bs) f g → (t : Bool) → unopened f here at mode state given b bs t ≡ unopened g here at mode state given b bs t
unopened_same f g here at mode state given b bs a false = continued_same f g here at (moved at b) (after mode b (next_byte bs)) state given (record { byte = b; text = here.text; place = at } ∷ []) bs a
unopened_same f g here at mode state given b bs a true = sized_same f g here at mode state given bs (word_length bs) a

chosen_same : (texts : List NamedText) (includes : Includes) (f g : Reads) (here : Here) (at : Place) (mode : Mode) (state : State) (given : List Mark) (b : ℕ) (bs : List ℕ) → Agree here (length bs) f g → (t : Bool) → chosen texts includes f here at mode state given b bs t ≡ chosen texts includes g here at mode state given b bs t
chosen_same texts includes f g here at mode state given b bs a false = unopened_same f g here at mode state given b bs a (begins_word mode b)
chosen_same texts includes f g here at mode state given b bs a true = opened_same texts includes f g here at mode state given bs a (closing [] inner bs)

step_same : (texts : List NamedText) (includes : Includes) (f g : Reads) (here : Here) (at : Place) (mode : Mode) (state : State) (given : List Mark) (b : ℕ) (bs : List ℕ) → Agree here (length bs) f g → step texts includes f here at mode state given b bs ≡ step texts includes g here at mode state given b bs
step_same texts includes f g here at mode state given b bs a = chosen_same texts includes f g here at mode state given b bs a (opens mode b)

-- ---- any number that is at least the count of the bytes serves

reads_same : (texts : List NamedText) (includes : Includes) (n m : ℕ) (here : Here) (at : Place) (mode : Mode) (state : State) (given : List Mark) (bs : List ℕ) → length bs ≤ n → length bs ≤ m → reads texts includes n here at mode state given bs ≡ reads texts includes m here at mode state given bs
unfolding reads
reads_same texts includes zero zero here at mode state given [] h k = refl
reads_same texts includes zero (suc m) here at mode state given [] h k = refl
reads_same texts includes (suc n) zero here at mode state given [] h k = refl
reads_same texts includes (suc n) (suc m) here at mode state given [] h k = refl
reads_same texts includes zero m here at mode state given (b ∷ bs) h k = absurd (omega (arith, h))
reads_same texts includes (suc n) zero here at mode state given (b ∷ bs) h k = absurd (omega (arith, k))
reads_same texts includes (suc n) (suc m) here at mode state given (b ∷ bs) h k =
    step_same texts includes (reads texts includes n) (reads texts includes m) here at mode state given b bs (record { same = λ at2 mode2 state2 given2 cs q. reads_same texts includes n m here at2 mode2 state2 given2 cs (omega (arith, q, h)) (omega (arith, q, k)) })

-- ---- the equations of a layer

pub layer_end : (texts : List NamedText) (here : Here) (at : Place) (mode : Mode) (state : State) (given : List Mark) → layer texts here at mode state given [] ≡ Gives given state
unfolding layer reads
layer_end texts here at mode state given = refl

pub layer_step : (texts : List NamedText) (here : Here) (at : Place) (mode : Mode) (state : State) (given : List Mark) (b : ℕ) (bs : List ℕ) → layer texts here at mode state given (b ∷ bs) ≡ step texts (text_of texts here.left) (layer texts) here at mode state given b bs
unfolding layer reads
layer_step texts here at mode state given b bs =
    step_same texts (text_of texts here.left) (reads texts (text_of texts here.left) (length bs)) (layer texts) here at mode state given b bs (record { same = λ at2 mode2 state2 given2 cs q. reads_same texts (text_of texts here.left) (length bs) (length cs) here at2 mode2 state2 given2 cs q (omega arith) })

-- a byte that opens no reference and begins no word
pub layer_copied : (texts : List NamedText) (here : Here) (at : Place) (mode : Mode) (state : State) (given : List Mark) (b : ℕ) (bs : List ℕ) → opens mode b ≡ false → begins_word mode b ≡ false → layer texts here at mode state given (b ∷ bs) ≡ copied (layer texts) here at mode state given b bs
layer_copied texts here at mode state given b bs e f =
    layer_step texts here at mode state given b bs ∙ ap (chosen texts (text_of texts here.left) (layer texts) here at mode state given b bs) e
    ∙ ap (unopened (layer texts) here at mode state given b bs) f

-- a byte that begins a word
pub layer_worded : (texts : List NamedText) (here : Here) (at : Place) (mode : Mode) (state : State) (given : List Mark) (b : ℕ) (bs : List ℕ) → opens mode b ≡ false → begins_word mode b ≡ true → layer texts here at mode state given (b ∷ bs) ≡ sized (layer texts) here at mode state given bs (word_length bs)
layer_worded texts here at mode state given b bs e f =
    layer_step texts here at mode state given b bs ∙ ap (chosen texts (text_of texts here.left) (layer texts) here at mode state given b bs) e
    ∙ ap (unopened (layer texts) here at mode state given b bs) f

-- a byte that opens a reference
pub layer_opened : (texts : List NamedText) (here : Here) (at : Place) (mode : Mode) (state : State) (given : List Mark) (b : ℕ) (bs : List ℕ) → opens mode b ≡ true → layer texts here at mode state given (b ∷ bs) ≡ opened texts (text_of texts here.left) (layer texts) here at mode state given bs (closing [] inner bs)
layer_opened texts here at mode state given b bs e =
    layer_step texts here at mode state given b bs ∙ ap (chosen texts (text_of texts here.left) (layer texts) here at mode state given b bs) e

-- a text is its layer
pub text_is : (texts : List NamedText) (text left : ℕ) (arguments : List (List ℕ)) (state : State) (bytes : List ℕ) → text_of texts (suc left) (record { text = text; arguments = arguments; left = left }) state bytes ≡ layer texts (record { text = text; arguments = arguments; left = left }) start plain state [] bytes
unfolding text_of layer
text_is texts text left arguments state bytes = refl
