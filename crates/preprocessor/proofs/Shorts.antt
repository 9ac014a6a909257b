-- What is given is at most as long as an expansion may be.
use Rattle.std.proofs.Common.{◌≡◌, ℕ, zero, suc, ◌+◌, ◌-◌, ◌≤◌, Bool, true, false, ◌&&◌, nat_le, List, [], ◌∷◌, ◌++◌, length, take, drop, Option, Some, None, refl, arith, length-append}
use Rattle.std.proofs.lemmas.Bool.{leb-true}
use Rattle.abl_base.specs.declared.place.Place.{Place}
use Rattle.preprocessor.specs.declared.mode.Mode.{Mode}
use Rattle.preprocessor.specs.declared.names.Definition.{Definition}
use Rattle.preprocessor.specs.declared.directive.Directive.{Directive}
use Rattle.preprocessor.specs.declared.directive.Directive.TheVariants.{Scoped, Global, If, Then, ElseIf, Else, EndIf, Unknown}
use Rattle.preprocessor.specs.declared.texts.NamedText.{NamedText}
use Rattle.preprocessor.specs.declared.texts.Mark.{Mark}
use Rattle.preprocessor.specs.declared.texts.State.{State}
use Rattle.preprocessor.specs.declared.texts.Here.{Here}
use Rattle.preprocessor.specs.declared.texts.Outcome.{Outcome}
use Rattle.preprocessor.specs.declared.texts.Outcome.TheVariants.{Gives, Breaks, Needs}
use Rattle.preprocessor.specs.Modes.{after, at_branch, begins_word, beside, in_condition, inner, next_byte, opens, plain}
use Rattle.preprocessor.specs.Braces.{closing}
use Rattle.preprocessor.specs.Names.{word_length}
use Rattle.preprocessor.specs.Words.{words}
use Rattle.preprocessor.specs.Directives.{definition_of, line_length, maker_of}
use Rattle.preprocessor.specs.Parts.{part_length, word_at, word_in, word_size}
use Rattle.preprocessor.specs.Conditions.{truth}
use Rattle.preprocessor.specs.References.{reading}
use Rattle.preprocessor.specs.Texts.{bytes_at, bytes_of, last_of}
use Rattle.preprocessor.specs.Places.{moved, past, start}
use Rattle.preprocessor.specs.Expansion.{Includes, at_first, expansion, Reads, after_part, all_ended, branched, chosen, condition, conditional, continued, directed, fits, given_by, in_part, judged, kept, lined, made, opened, part_ended, passed_by, passed_over, past_word, reads, referred, resolved, skipped, spent, text_of, then_with, unopened, with_one, worded}
use Rattle.preprocessor.specs.declared.limits.TheConstants.{MAX_EXPANSION_BYTES, MAX_OPEN_TEXTS}
use Rattle.preprocessor.specs.Laws.{IsShort}

record Keeping (f : Reads) : Type 0 where
  keeps : (here : Here) (at : Place) (mode : Mode) (state : State) (given : List Mark) (bs : List ℕ) → length given ≤ MAX_EXPANSION_BYTES → IsShort (f here at mode state given bs)

chained : (o : Outcome) (next : List Mark → State → Outcome) → ((marks : List Mark) (state : State) → IsShort (next marks state)) → IsShort (then_with o next)
chained (Gives marks state) next h = h marks state
chained (Breaks r t p) next h = tt
chained (Needs n) next h = tt

both : (x y : Bool) → (x && y) ≡ true → x ≡ true
both true y h = refl
both false y h = h

kept_short : (r : Reads) (here : Here) (at next : Place) (mode : Mode) (state : State) (given extra : List Mark) (rest : List ℕ) → Keeping r → (t : Bool) → fits state given (length extra) ≡ t → IsShort (kept r here at next mode state given extra rest t)
kept_short r here at next mode state given extra rest a false e = tt
kept_short r here at next mode state given extra rest a true e =
    let all : length (given ++ extra) ≡ length given + length extra = length-append given extra in
    let few : length given + length extra ≤ MAX_EXPANSION_BYTES = leb-true (length given + length extra) MAX_EXPANSION_BYTES (both (nat_le (length given + length extra) MAX_EXPANSION_BYTES) (nat_le (length extra) state.budget) e) in
    a.keeps here next mode (spent state (length extra)) (given ++ extra) rest (omega (arith, all, few))

continued_short : (r : Reads) (here : Here) (at next : Place) (mode : Mode) (state : State) (given extra : List Mark) (rest : List ℕ) → Keeping r → IsShort (continued r here at next mode state given extra rest)
continued_short r here at next mode state given extra rest a = kept_short r here at next mode state given extra rest a (fits state given (length extra)) refl

given_short : (r : Reads) (here : Here) (at next : Place) (mode : Mode) (given : List Mark) (rest : List ℕ) → Keeping r → (o : Outcome) → IsShort (given_by r here at next mode given rest o)
given_short r here at next mode given rest a o = chained o (λ extra state. continued r here at next mode state given extra rest) (λ extra state. continued_short r here at next mode state given extra rest a)

resolved_short : (texts : List NamedText) (includes : Includes) (r : Reads) (here : Here) (at next : Place) (mode : Mode) (given : List Mark) (rest : List ℕ) → Keeping r → (o : Outcome) → IsShort (resolved texts includes r here at next mode given rest o)
resolved_short texts includes r here at next mode given rest a o =
    chained o (λ marks state. given_by r here at next mode given rest (referred texts includes here at state (reading (words None false (bytes_of marks)))))
    (λ marks state. given_short r here at next mode given rest a (referred texts includes here at state (reading (words None false (bytes_of marks)))))

opened_short : (texts : List NamedText) (includes : Includes) (r : Reads) (here : Here) (at : Place) (mode : Mode) (state : State) (given : List Mark) (bs : List ℕ) → Keeping r → (o : Option ℕ) → IsShort (opened texts includes r here at mode state given bs o)
opened_short texts includes r here at mode state given bs a None = tt
opened_short texts includes r here at mode state given bs a (Some n) =
    resolved_short texts includes r here at (past (moved at 123) (take (n + 1) bs)) (beside mode) given (drop (n + 1) bs) a (r here (moved at 123) inner state [] (take n bs))

-- ---- definitions

made_short : (r : Reads) (here : Here) (at next : Place) (state : State) (given : List Mark) (rest : List ℕ) (global : Bool) → Keeping r → length given ≤ MAX_EXPANSION_BYTES → (o : Option Definition) → IsShort (made r here at next state given rest global o)
made_short r here at next state given rest global a h None = tt
made_short r here at next state given rest global a h (Some d) = a.keeps here next plain (with_one global state d) given rest h

lined_short : (r : Reads) (here : Here) (at next : Place) (state : State) (given : List Mark) (global : Bool) (k : ℕ) (bytes : List ℕ) → Keeping r → length given ≤ MAX_EXPANSION_BYTES → IsShort (lined r here at next state given global k bytes)
lined_short r here at next state given global k bytes a h =
    chained (r here next inner state [] (take k bytes)) (λ marks last. made r here at (past next (take k bytes)) last given (drop k bytes) global (definition_of (maker_of global) (bytes_of marks)))
    (λ marks last. made_short r here at (past next (take k bytes)) last given (drop k bytes) global a h (definition_of (maker_of global) (bytes_of marks)))

-- ---- conditionals

passed_over_short : (r : Reads) (here : Here) (at next : Place) (state : State) (given : List Mark) (bytes : List ℕ) → Keeping r → length given ≤ MAX_EXPANSION_BYTES → (o : Option ℕ) → IsShort (passed_over r here at next state given bytes o)
passed_over_short r here at next state given bytes a h None = tt
passed_over_short r here at next state given bytes a h (Some k) = a.keeps here (past next (take k bytes)) at_branch state given (drop k bytes) h

branched_short : (r : Reads) (here : Here) (at next : Place) (state : State) (given : List Mark) (rest : List ℕ) → Keeping r → length given ≤ MAX_EXPANSION_BYTES → (o : Option Bool) → IsShort (branched r here at next state given rest o)
branched_short r here at next state given rest a h None = tt
branched_short r here at next state given rest a h (Some true) = a.keeps here (past_word next rest) plain (in_part false state) given (drop (word_size rest) rest) h
branched_short r here at next state given rest a h (Some false) = passed_over_short r here at (past_word next rest) state given (drop (word_size rest) rest) a h (part_length false (drop (word_size rest) rest))

judged_short : (r : Reads) (here : Here) (at next : Place) (state : State) (given : List Mark) (rest : List ℕ) → Keeping r → length given ≤ MAX_EXPANSION_BYTES → (d : Directive) (bytes : List ℕ) → IsShort (judged r here at next state given rest d bytes)
judged_short r here at next state given rest a h Then bytes = branched_short r here at next state given rest a h (truth state bytes)
judged_short r here at next state given rest a h Scoped bytes = tt
judged_short r here at next state given rest a h Global bytes = tt
judged_short r here at next state given rest a h If bytes = tt
judged_short r here at next state given rest a h ElseIf bytes = tt
judged_short r here at next state given rest a h Else bytes = tt
judged_short r here at next state given rest a h EndIf bytes = tt
judged_short r here at next state given rest a h Unknown bytes = tt

condition_short : (r : Reads) (here : Here) (at next : Place) (state : State) (given : List Mark) (bytes : List ℕ) → Keeping r → length given ≤ MAX_EXPANSION_BYTES → (o : Option ℕ) → IsShort (condition r here at next state given bytes o)
condition_short r here at next state given bytes a h None = tt
condition_short r here at next state given bytes a h (Some k) =
    chained (r here next in_condition state [] (take k bytes)) (λ marks last. judged r here at (past next (take k bytes)) last given (drop k bytes) (word_at (drop k bytes)) (bytes_of marks))
    (λ marks last. judged_short r here at (past next (take k bytes)) last given (drop k bytes) a h (word_at (drop k bytes)) (bytes_of marks))

conditional_short : (r : Reads) (here : Here) (at next : Place) (state : State) (given : List Mark) (bytes : List ℕ) → Keeping r → length given ≤ MAX_EXPANSION_BYTES → (o : Option ℕ) → IsShort (conditional r here at next state given bytes o)
conditional_short r here at next state given bytes a h None = tt
conditional_short r here at next state given bytes a h (Some k) = condition_short r here at next state given bytes a h (part_length false bytes)

skipped_short : (r : Reads) (here : Here) (at next : Place) (state : State) (given : List Mark) (bytes : List ℕ) → Keeping r → length given ≤ MAX_EXPANSION_BYTES → (o : Option ℕ) → IsShort (skipped r here at next state given bytes o)
skipped_short r here at next state given bytes a h None = tt
skipped_short r here at next state given bytes a h (Some k) = a.keeps here (past_word (past next (take k bytes)) (drop k bytes)) plain (after_part state) given (drop (word_size (drop k bytes)) (drop k bytes)) h

part_ended_short : (r : Reads) (here : Here) (at next : Place) (state : State) (given : List Mark) (bytes : List ℕ) → Keeping r → length given ≤ MAX_EXPANSION_BYTES → (o : Option Bool) → IsShort (part_ended r here at next state given bytes o)
part_ended_short r here at next state given bytes a h None = tt
part_ended_short r here at next state given bytes a h (Some true) = tt
part_ended_short r here at next state given bytes a h (Some false) = skipped_short r here at next state given bytes a h (part_length true bytes)

all_ended_short : (r : Reads) (here : Here) (at next : Place) (state : State) (given : List Mark) (bytes : List ℕ) → Keeping r → length given ≤ MAX_EXPANSION_BYTES → (o : Option Bool) → IsShort (all_ended r here at next state given bytes o)
all_ended_short r here at next state given bytes a h None = tt
all_ended_short r here at next state given bytes a h (Some last) = a.keeps here next plain (after_part state) given bytes h

-- ---- words

directed_short : (r : Reads) (here : Here) (at next : Place) (state : State) (given : List Mark) (bytes : List ℕ) → Keeping r → length given ≤ MAX_EXPANSION_BYTES → (d : Directive) → IsShort (directed r here at next state given bytes d)
directed_short r here at next state given bytes a h Scoped = lined_short r here at next state given false (line_length bytes) bytes a h
directed_short r here at next state given bytes a h Global = lined_short r here at next state given true (line_length bytes) bytes a h
directed_short r here at next state given bytes a h If = conditional_short r here at next state given bytes a h (part_length true bytes)
directed_short r here at next state given bytes a h Then = tt
directed_short r here at next state given bytes a h ElseIf = part_ended_short r here at next state given bytes a h (last_of state.branches)
directed_short r here at next state given bytes a h Else = part_ended_short r here at next state given bytes a h (last_of state.branches)
directed_short r here at next state given bytes a h EndIf = all_ended_short r here at next state given bytes a h (last_of state.branches)
directed_short r here at next state given bytes a h Unknown = tt

passed_by_short : (r : Reads) (here : Here) (at next : Place) (state : State) (given : List Mark) (bytes : List ℕ) → Keeping r → length given ≤ MAX_EXPANSION_BYTES → (d : Directive) → IsShort (passed_by r here at next state given bytes d)
passed_by_short r here at next state given bytes a h ElseIf = condition_short r here at next state given bytes a h (part_length false bytes)
passed_by_short r here at next state given bytes a h Else = a.keeps here next plain (in_part true state) given bytes h
passed_by_short r here at next state given bytes a h EndIf = a.keeps here next plain state given bytes h
passed_by_short r here at next state given bytes a h Then = tt
passed_by_short r here at next state given bytes a h If = tt
passed_by_short r here at next state given bytes a h Scoped = tt
passed_by_short r here at next state given bytes a h Global = tt
passed_by_short r here at next state given bytes a h Unknown = tt

worded_short : (r : Reads) (here : Here) (at next : Place) (state : State) (given : List Mark) (bytes : List ℕ) (d : Directive) → Keeping r → length given ≤ MAX_EXPANSION_BYTES → (t : Bool) → IsShort (worded r here at next state given bytes d t)
worded_short r here at next state given bytes d a h false = directed_short r here at next state given bytes a h d
worded_short r here at next state given bytes d a h true = passed_by_short r here at next state given bytes a h d

-- ---- a text

unopened_short : (r : Reads) (here : Here) (at : Place) (mode : Mode) (state : State) (given : List Mark) (b : ℕ) (bs : List ℕ) → Keeping r → length given ≤ MAX_EXPANSION_BYTES → (t : Bool) → IsShort (unopened r here at mode state given b bs t)
unopened_short r here at mode state given b bs a h false = continued_short r here at (moved at b) (after mode b (next_byte bs)) state given (record { byte = b; text = here.text; place = at } ∷ []) bs a
unopened_short r here at mode state given b bs a h true = worded_short r here at (past (moved at 38) (take (word_length bs) bs)) state given (drop (word_length bs) bs) (word_in mode bs) a h mode.branch

chosen_short : (texts : List NamedText) (includes : Includes) (r : Reads) (here : Here) (at : Place) (mode : Mode) (state : State) (given : List Mark) (b : ℕ) (bs : List ℕ) → Keeping r → length given ≤ MAX_EXPANSION_BYTES → (t : Bool) → IsShort (chosen texts includes r here at mode state given b bs t)
chosen_short texts includes r here at mode state given b bs a h false = unopened_short r here at mode state given b bs a h (begins_word mode b)
chosen_short texts includes r here at mode state given b bs a h true = opened_short texts includes r here at mode state given bs a (closing [] inner bs)

reads_short : (texts : List NamedText) (includes : Includes) (n : ℕ) (here : Here) (at : Place) (mode : Mode) (state : State) (given : List Mark) (bs : List ℕ) → length given ≤ MAX_EXPANSION_BYTES → IsShort (reads texts includes n here at mode state given bs)
unfolding reads
reads_short texts includes zero here at mode state given [] h = h
reads_short texts includes zero here at mode state given (b ∷ bs) h = h
reads_short texts includes (suc n) here at mode state given [] h = h
reads_short texts includes (suc n) here at mode state given (b ∷ bs) h =
    chosen_short texts includes (reads texts includes n) here at mode state given b bs (record { keeps = λ here2 at2 mode2 state2 given2 cs h2. reads_short texts includes n here2 at2 mode2 state2 given2 cs h2 }) h (opens mode b)

text_short : (texts : List NamedText) (left : ℕ) (here : Here) (state : State) (bytes : List ℕ) → IsShort (text_of texts left here state bytes)
unfolding text_of
text_short texts zero here state bytes = omega arith
text_short texts (suc left) here state bytes = reads_short texts (text_of texts left) (length bytes) here start plain state [] bytes (omega arith)

-- ---- the law

pub expansions_are_short : (texts : List NamedText) → IsShort (expansion texts)
unfolding expansion
expansions_are_short texts =
    text_short texts MAX_OPEN_TEXTS (record { text = 0; arguments = []; left = MAX_OPEN_TEXTS - 1 }) (at_first (length (bytes_at texts 0))) (bytes_at texts 0)
