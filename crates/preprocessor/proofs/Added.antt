-- Reading adds definitions at the end, and takes none away; a file leaves none of its own.
use Rattle.std.proofs.Common.{◌≡◌, ℕ, zero, suc, ◌+◌, Bool, true, false, List, [], ◌∷◌, ◌++◌, length, take, drop, nat_le, Option, Some, None, refl, ap, sym, subst, ◌∙◌, append_assoc}
use Rattle.std.proofs.lemmas.List.{append-nil}
use Rattle.std.proofs.Math.Seq.{take-append_seam}
use Rattle.abl_base.specs.declared.place.Place.{Place}
use Rattle.preprocessor.specs.declared.mode.Mode.{Mode}
use Rattle.preprocessor.specs.declared.names.Definition.{Definition}
use Rattle.preprocessor.specs.declared.directive.Directive.{Directive}
use Rattle.preprocessor.specs.declared.directive.Directive.TheVariants.{Scoped, Global, If, Then, ElseIf, Else, EndIf, Unknown}
use Rattle.preprocessor.specs.declared.reference.Reference.{Reference}
use Rattle.preprocessor.specs.declared.reference.Reference.TheVariants.{Faulty, Name, Number, File}
use Rattle.preprocessor.specs.declared.reference.FileReference.{FileReference}
use Rattle.preprocessor.specs.declared.texts.NamedText.{NamedText}
use Rattle.preprocessor.specs.declared.texts.Mark.{Mark}
use Rattle.preprocessor.specs.declared.texts.State.{State}
use Rattle.preprocessor.specs.declared.texts.Here.{Here}
use Rattle.preprocessor.specs.declared.texts.Outcome.{Outcome}
use Rattle.preprocessor.specs.declared.texts.Outcome.TheVariants.{Gives, Breaks, Needs}
use Rattle.preprocessor.specs.Modes.{after, at_branch, begins_word, beside, in_condition, inner, next_byte, opens, plain}
use Rattle.preprocessor.specs.Braces.{closing}
use Rattle.preprocessor.specs.Names.{word_length}
use Rattle.preprocessor.specs.Words.{words}
use Rattle.preprocessor.specs.Directives.{definition_of, line_length, maker_of}
use Rattle.preprocessor.specs.Parts.{part_length, word_at, word_in, word_size}
use Rattle.preprocessor.specs.Conditions.{truth}
use Rattle.preprocessor.specs.References.{reading}
use Rattle.preprocessor.specs.Texts.{bytes_at, bytes_of, found, last_of}
use Rattle.preprocessor.specs.Places.{moved, past, start}
use Rattle.preprocessor.specs.Expansion.{Includes, Reads, after_part, all_ended, branched, chosen, closed, condition, conditional, continued, directed, entered, fits, given_by, in_file, in_part, included, judged, kept, lined, made, one_more_text, opened, part_ended, passed_by, passed_over, past_word, reads, referred, resolved, skipped, spent, text_of, then_with, unopened, with_one, worded}
use Rattle.preprocessor.specs.Laws.{DefinitionsEnd}

-- the definitions of open texts after it are those before it, and maybe more
abbrev Adds : List Definition → Outcome → Type 0
Adds before (Gives marks state) = (more : List Definition) × (state.locals ≡ before ++ more)
Adds before (Breaks rule text place) = Unit {0}
Adds before (Needs name) = Unit {0}

-- they are the same
abbrev Leaves : List Definition → Outcome → Type 0
Leaves before (Gives marks state) = state.locals ≡ before
Leaves before (Breaks rule text place) = Unit {0}
Leaves before (Needs name) = Unit {0}

record Adding (here : Here) (f : Reads) : Type 0 where
  adds : (at : Place) (mode : Mode) (state : State) (given : List Mark) (bs : List ℕ) → Adds state.locals (f here at mode state given bs)

record Including (f : Includes) : Type 0 where
  adds : (here : Here) (state : State) (bytes : List ℕ) → Adds state.locals (f here state bytes)

none_more : (before : List Definition) → before ≡ before ++ []
none_more before = sym (append-nil before)

from : (before mid more : List Definition) → mid ≡ before ++ more → (o : Outcome) → Adds mid o → Adds before o
from before mid more e (Gives marks state) h = (more ++ h.0, h.1 ∙ ap (λ (x : List Definition). x ++ h.0) e ∙ append_assoc before more h.0)
from before mid more e (Breaks r t p) h = tt
from before mid more e (Needs n) h = tt

chained : (before : List Definition) (o : Outcome) (next : List Mark → State → Outcome) → Adds before o → ((marks : List Mark) (state : State) → Adds state.locals (next marks state)) → Adds before (then_with o next)
chained before (Gives marks state) next h k = from before state.locals h.0 h.1 (next marks state) (k marks state)
chained before (Breaks r t p) next h k = tt
chained before (Needs n) next h k = tt

left_as_it_was : (before : List Definition) (o : Outcome) → Leaves before o → Adds before o
left_as_it_was before (Gives marks state) h = ([], h ∙ none_more before)
left_as_it_was before (Breaks r t p) h = tt
left_as_it_was before (Needs n) h = tt

kept_adds : (r : Reads) (here : Here) (at next : Place) (mode : Mode) (state : State) (given extra : List Mark) (rest : List ℕ) → Adding here r → (t : Bool) → Adds state.locals (kept r here at next mode state given extra rest t)
kept_adds r here at next mode state given extra rest a true = a.adds next mode (spent state (length extra)) (given ++ extra) rest
kept_adds r here at next mode state given extra rest a false = tt

continued_adds : (r : Reads) (here : Here) (at next : Place) (mode : Mode) (state : State) (given extra : List Mark) (rest : List ℕ) → Adding here r → Adds state.locals (continued r here at next mode state given extra rest)
continued_adds r here at next mode state given extra rest a = kept_adds r here at next mode state given extra rest a (fits state given (length extra))

given_adds : (r : Reads) (here : Here) (at next : Place) (mode : Mode) (given : List Mark) (rest : List ℕ) → Adding here r → (before : List Definition) (o : Outcome) → Adds before o → Adds before (given_by r here at next mode given rest o)
given_adds r here at next mode given rest a before o h = chained before o (λ extra state. continued r here at next mode state given extra rest) h (λ extra state. continued_adds r here at next mode state given extra rest a)

-- ---- files

closed_leaves : (state : State) (file : FileReference) (o : Outcome) → Adds (state.locals ++ file.definitions) o → Leaves state.locals (closed state o)
closed_leaves state file (Gives marks last) h =
    let n = length state.locals in
    let e : last.locals ≡ state.locals ++ (file.definitions ++ h.0) = h.1 ∙ append_assoc state.locals file.definitions h.0 in
    ap (take n) e ∙ take-append_seam state.locals (file.definitions ++ h.0)
closed_leaves state file (Breaks r t p) h = tt
closed_leaves state file (Needs n) h = tt

entered_leaves : (texts : List NamedText) (includes : Includes) (here : Here) (at : Place) (state : State) (file : FileReference) (left i : ℕ) → Including includes → (t : Bool) → Leaves state.locals (entered texts includes here at state file left i t)
entered_leaves texts includes here at state file left i a false = tt
entered_leaves texts includes here at state file left i a true =
    closed_leaves state file (includes (record { text = i; arguments = file.arguments; left = left }) (in_file state file (length (bytes_at texts i))) (bytes_at texts i)) (a.adds (record { text = i; arguments = file.arguments; left = left }) (in_file state file (length (bytes_at texts i))) (bytes_at texts i))

included_leaves : (texts : List NamedText) (includes : Includes) (here : Here) (at : Place) (state : State) (file : FileReference) (left : ℕ) → Including includes → (o : Option ℕ) → Leaves state.locals (included texts includes here at state file left o)
included_leaves texts includes here at state file left a None = tt
included_leaves texts includes here at state file left a (Some i) = entered_leaves texts includes here at state file left i a (nat_le (length (bytes_at texts i)) state.budget)

file_leaves : (texts : List NamedText) (includes : Includes) (here : Here) (at : Place) (state : State) (file : FileReference) → Including includes → (n : ℕ) → Leaves state.locals (one_more_text texts includes here at state file n)
file_leaves texts includes here at state file a zero = tt
file_leaves texts includes here at state file a (suc left) = included_leaves texts includes here at state file left a (found 0 file.name texts)

-- ---- references

referred_leaves : (texts : List NamedText) (includes : Includes) (here : Here) (at : Place) (state : State) → Including includes → (r : Reference) → Leaves state.locals (referred texts includes here at state r)
referred_leaves texts includes here at state a Faulty = tt
referred_leaves texts includes here at state a (Name name) = refl
referred_leaves texts includes here at state a (Number n) = refl
referred_leaves texts includes here at state a (File file) = file_leaves texts includes here at state file a here.left

resolved_adds : (texts : List NamedText) (includes : Includes) (r : Reads) (here : Here) (at next : Place) (mode : Mode) (given : List Mark) (rest : List ℕ) → Including includes → Adding here r → (before : List Definition) (o : Outcome) → Adds before o → Adds before (resolved texts includes r here at next mode given rest o)
resolved_adds texts includes r here at next mode given rest i a before o h =
    chained before o (λ marks state. given_by r here at next mode given rest (referred texts includes here at state (reading (words None false (bytes_of marks))))) h
    (λ marks state. given_adds r here at next mode given rest a state.locals (referred texts includes here at state (reading (words None false (bytes_of marks)))) (left_as_it_was state.locals (referred texts includes here at state (reading (words None false (bytes_of marks)))) (referred_leaves texts includes here at state i (reading (words None false (bytes_of marks))))))

opened_adds : (texts : List NamedText) (includes : Includes) (r : Reads) (here : Here) (at : Place) (mode : Mode) (state : State) (given : List Mark) (bs : List ℕ) → Including includes → Adding here r → (o : Option ℕ) → Adds state.locals (opened texts includes r here at mode state given bs o)
opened_adds texts includes r here at mode state given bs i a None = tt
opened_adds texts includes r here at mode state given bs i a (Some n) =
    resolved_adds texts includes r here at (past (moved at 123) (take (n + 1) bs)) (beside mode) given (drop (n + 1) bs) i a state.locals (r here (moved at 123) inner state [] (take n bs)) (a.adds (moved at 123) inner state [] (take n bs))

-- ---- definitions

with_one_adds : (global : Bool) (state : State) (d : Definition) → (more : List Definition) × ((with_one global state d).locals ≡ state.locals ++ more)
with_one_adds true state d = ([], none_more state.locals)
with_one_adds false state d = (d ∷ [], refl)

made_adds : (r : Reads) (here : Here) (at next : Place) (state : State) (given : List Mark) (rest : List ℕ) (global : Bool) → Adding here r → (o : Option Definition) → Adds state.locals (made r here at next state given rest global o)
made_adds r here at next state given rest global a None = tt
made_adds r here at next state given rest global a (Some d) =
    let w = with_one_adds global state d in
    from state.locals (with_one global state d).locals w.0 w.1 (r here next plain (with_one global state d) given rest) (a.adds next plain (with_one global state d) given rest)

lined_adds : (r : Reads) (here : Here) (at next : Place) (state : State) (given : List Mark) (global : Bool) (k : ℕ) (bytes : List ℕ) → Adding here r → Adds state.locals (lined r here at next state given global k bytes)
lined_adds r here at next state given global k bytes a =
    chained state.locals (r here next inner state [] (take k bytes)) (λ marks last. made r here at (past next (take k bytes)) last given (drop k bytes) global (definition_of (maker_of global) (bytes_of marks))) (a.adds next inner state [] (take k bytes))
    (λ marks last. made_adds r here at (past next (take k bytes)) last given (drop k bytes) global a (definition_of (maker_of global) (bytes_of marks)))

-- ---- conditionals

passed_over_adds : (r : Reads) (here : Here) (at next : Place) (state : State) (given : List Mark) (bytes : List ℕ) → Adding here r → (o : Option ℕ) → Adds state.locals (passed_over r here at next state given bytes o)
passed_over_adds r here at next state given bytes a None = tt
passed_over_adds r here at next state given bytes a (Some k) = a.adds (past next (take k bytes)) at_branch state given (drop k bytes)

branched_adds : (r : Reads) (here : Here) (at next : Place) (state : State) (given : List Mark) (rest : List ℕ) → Adding here r → (o : Option Bool) → Adds state.locals (branched r here at next state given rest o)
branched_adds r here at next state given rest a None = tt
branched_adds r here at next state given rest a (Some true) = a.adds (past_word next rest) plain (in_part false state) given (drop (word_size rest) rest)
branched_adds r here at next state given rest a (Some false) = passed_over_adds r here at (past_word next rest) state given (drop (word_size rest) rest) a (part_length false (drop (word_size rest) rest))

judged_adds : (r : Reads) (here : Here) (at next : Place) (state : State) (given : List Mark) (rest : List ℕ) → Adding here r → (d : Directive) (bytes : List ℕ) → Adds state.locals (judged r here at next state given rest d bytes)
judged_adds r here at next state given rest a Then bytes = branched_adds r here at next state given rest a (truth state bytes)
judged_adds r here at next state given rest a Scoped bytes = tt
judged_adds r here at next state given rest a Global bytes = tt
judged_adds r here at next state given rest a If bytes = tt
judged_adds r here at next state given rest a ElseIf bytes = tt
judged_adds r here at next state given rest a Else bytes = tt
judged_adds r here at next state given rest a EndIf bytes = tt
judged_adds r here at next state given rest a Unknown bytes = tt

condition_adds : (r : Reads) (here : Here) (at next : Place) (state : State) (given : List Mark) (bytes : List ℕ) → Adding here r → (o : Option ℕ) → Adds state.locals (condition r here at next state given bytes o)
condition_adds r here at next state given bytes a None = tt
condition_adds r here at next state given bytes a (Some k) =
    chained state.locals (r here next in_condition state [] (take k bytes)) (λ marks last. judged r here at (past next (take k bytes)) last given (drop k bytes) (word_at (drop k bytes)) (bytes_of marks)) (a.adds next in_condition state [] (take k bytes))
    (λ marks last. judged_adds r here at (past next (take k bytes)) last given (drop k bytes) a (word_at (drop k bytes)) (bytes_of marks))

conditional_adds : (r : Reads) (here : Here) (at next : Place) (state : State) (given : List Mark) (bytes : List ℕ) → Adding here r → (o : Option ℕ) → Adds state.locals (conditional r here at next state given bytes o)
conditional_adds r here at next state given bytes a None = tt
conditional_adds r here at next state given bytes a (Some k) = condition_adds r here at next state given bytes a (part_length false bytes)

skipped_adds : (r : Reads) (here : Here) (at next : Place) (state : State) (given : List Mark) (bytes : List ℕ) → Adding here r → (o : Option ℕ) → Adds state.locals (skipped r here at next state given bytes o)
skipped_adds r here at next state given bytes a None = tt
skipped_adds r here at next state given bytes a (Some k) = a.adds (past_word (past next (take k bytes)) (drop k bytes)) plain (after_part state) given (drop (word_size (drop k bytes)) (drop k bytes))

part_ended_adds : (r : Reads) (here : Here) (at next : Place) (state : State) (given : List Mark) (bytes : List ℕ) → Adding here r → (o : Option Bool) → Adds state.locals (part_ended r here at next state given bytes o)
part_ended_adds r here at next state given bytes a None = tt
part_ended_adds r here at next state given bytes a (Some true) = tt
part_ended_adds r here at next state given bytes a (Some false) = skipped_adds r here at next state given bytes a (part_length true bytes)

all_ended_adds : (r : Reads) (here : Here) (at next : Place) (state : State) (given : List Mark) (bytes : List ℕ) → Adding here r → (o : Option Bool) → Adds state.locals (all_ended r here at next state given bytes o)
all_ended_adds r here at next state given bytes a None = tt
all_ended_adds r here at next state given bytes a (Some last) = a.adds next plain (after_part state) given bytes

-- ---- words

directed_adds : (r : Reads) (here : Here) (at next : Place) (state : State) (given : List Mark) (bytes : List ℕ) → Adding here r → (d : Directive) → Adds state.locals (directed r here at next state given bytes d)
directed_adds r here at next state given bytes a Scoped = lined_adds r here at next state given false (line_length bytes) bytes a
directed_adds r here at next state given bytes a Global = lined_adds r here at next state given true (line_length bytes) bytes a
directed_adds r here at next state given bytes a If = conditional_adds r here at next state given bytes a (part_length true bytes)
directed_adds r here at next state given bytes a Then = tt
directed_adds r here at next state given bytes a ElseIf = part_ended_adds r here at next state given bytes a (last_of state.branches)
directed_adds r here at next state given bytes a Else = part_ended_adds r here at next state given bytes a (last_of state.branches)
directed_adds r here at next state given bytes a EndIf = all_ended_adds r here at next state given bytes a (last_of state.branches)
directed_adds r here at next state given bytes a Unknown = tt

passed_by_adds : (r : Reads) (here : Here) (at next : Place) (state : State) (given : List Mark) (bytes : List ℕ) → Adding here r → (d : Directive) → Adds state.locals (passed_by r here at next state given bytes d)
passed_by_adds r here at next state given bytes a ElseIf = condition_adds r here at next state given bytes a (part_length false bytes)
passed_by_adds r here at next state given bytes a Else = a.adds next plain (in_part true state) given bytes
passed_by_adds r here at next state given bytes a EndIf = a.adds next plain state given bytes
passed_by_adds r here at next state given bytes a Then = tt
passed_by_adds r here at next state given bytes a If = tt
passed_by_adds r here at next state given bytes a Scoped = tt
passed_by_adds r here at next state given bytes a Global = tt
passed_by_adds r here at next state given bytes a Unknown = tt

worded_adds : (r : Reads) (here : Here) (at next : Place) (state : State) (given : List Mark) (bytes : List ℕ) (d : Directive) → Adding here r → (t : Bool) → Adds state.locals (worded r here at next state given bytes d t)
worded_adds r here at next state given bytes d a false = directed_adds r here at next state given bytes a d
worded_adds r here at next state given bytes d a true = passed_by_adds r here at next state given bytes a d

-- ---- a text

unopened_adds : (r : Reads) (here : Here) (at : Place) (mode : Mode) (state : State) (given : List Mark) (b : ℕ) (bs : List ℕ) → Adding here r → (t : Bool) → Adds state.locals (unopened r here at mode state given b bs t)
unopened_adds r here at mode state given b bs a false = continued_adds r here at (moved at b) (after mode b (next_byte bs)) state given (record { byte = b; text = here.text; place = at } ∷ []) bs a
unopened_adds r here at mode state given b bs a true = worded_adds r here at (past (moved at 38) (take (word_length bs) bs)) state given (drop (word_length bs) bs) (word_in mode bs) a mode.branch

chosen_adds : (texts : List NamedText) (includes : Includes) (r : Reads) (here : Here) (at : Place) (mode : Mode) (state : State) (given : List Mark) (b : ℕ) (bs : List ℕ) → Including includes → Adding here r → (t : Bool) → Adds state.locals (chosen texts includes r here at mode state given b bs t)
chosen_adds texts includes r here at mode state given b bs i a false = unopened_adds r here at mode state given b bs a (begins_word mode b)
chosen_adds texts includes r here at mode state given b bs i a true = opened_adds texts includes r here at mode state given bs i a (closing [] inner bs)

reads_adds : (texts : List NamedText) (includes : Includes) → Including includes → (n : ℕ) (here : Here) (at : Place) (mode : Mode) (state : State) (given : List Mark) (bs : List ℕ) → Adds state.locals (reads texts includes n here at mode state given bs)
unfolding reads
reads_adds texts includes i zero here at mode state given [] = ([], none_more state.locals)
reads_adds texts includes i zero here at mode state given (b ∷ bs) = ([], none_more state.locals)
reads_adds texts includes i (suc n) here at mode state given [] = ([], none_more state.locals)
reads_adds texts includes i (suc n) here at mode state given (b ∷ bs) =
    chosen_adds texts includes (reads texts includes n) here at mode state given b bs i (record { adds = λ at2 mode2 state2 given2 cs. reads_adds texts includes i n here at2 mode2 state2 given2 cs }) (opens mode b)

text_adds : (texts : List NamedText) (left : ℕ) (here : Here) (state : State) (bytes : List ℕ) → Adds state.locals (text_of texts left here state bytes)
unfolding text_of
text_adds texts zero here state bytes = ([], none_more state.locals)
text_adds texts (suc left) here state bytes =
    reads_adds texts (text_of texts left) (record { adds = λ here2 state2 bytes2. text_adds texts left here2 state2 bytes2 }) (length bytes) here start plain state [] bytes

-- ---- the law

pub definitions_end : (texts : List NamedText) → DefinitionsEnd texts
definitions_end texts here at state last file marks e =
    subst (Leaves state.locals) e (file_leaves texts (text_of texts here.left) here at state file (record { adds = λ here2 state2 bytes. text_adds texts here.left here2 state2 bytes }) here.left)
