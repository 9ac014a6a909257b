-- What a text expands to: each byte with the place that it was taken from, or the first violation, or the first
-- file that is needed and is not there.
use Rattle.std.specs.Prelude.{ℕ, zero, suc, ◌+◌, ◌-◌, Bool, true, false, ◌&&◌, nat_le, List, [], ◌∷◌, ◌++◌, length, take, drop, Option, Some, None}
use Rattle.abl_base.specs.declared.place.Place.{Place}
use Rattle.abl_base.specs.declared.rule.Rule.TheVariants.{E1, E2, E3, E4, E5, E6, E7}
use Rattle.preprocessor.specs.declared.limits.TheConstants.{MAX_EXPANSION_BYTES, MAX_OPEN_TEXTS, MAX_WORK_BYTES}
use Rattle.preprocessor.specs.declared.mode.Mode.{Mode}
use Rattle.preprocessor.specs.declared.names.Definition.{Definition}
use Rattle.preprocessor.specs.declared.directive.Directive.{Directive}
use Rattle.preprocessor.specs.declared.directive.Directive.TheVariants.{Scoped, Global, If, Then, ElseIf, Else, EndIf, Unknown}
use Rattle.preprocessor.specs.declared.texts.NamedText.{NamedText}
use Rattle.preprocessor.specs.declared.texts.Mark.{Mark}
use Rattle.preprocessor.specs.declared.texts.State.{State}
use Rattle.preprocessor.specs.declared.texts.Here.{Here}
use Rattle.preprocessor.specs.declared.texts.Outcome.{Outcome}
use Rattle.preprocessor.specs.declared.texts.Outcome.TheVariants.{Gives, Breaks, Needs}
use Rattle.preprocessor.specs.declared.reference.Reference.{Reference}
use Rattle.preprocessor.specs.declared.reference.Reference.TheVariants.{Faulty, Name, Number, File}
use Rattle.preprocessor.specs.declared.reference.FileReference.{FileReference}
use Rattle.preprocessor.specs.Modes.{after, at_branch, begins_word, beside, in_condition, inner, next_byte, opens, plain}
use Rattle.preprocessor.specs.Braces.{closing}
use Rattle.preprocessor.specs.Names.{word_length}
use Rattle.preprocessor.specs.Words.{words}
use Rattle.preprocessor.specs.Directives.{definition_of, line_length, maker_of}
use Rattle.preprocessor.specs.Parts.{part_length, word_at, word_in, word_size}
use Rattle.preprocessor.specs.Conditions.{truth}
use Rattle.preprocessor.specs.References.{reading}
use Rattle.preprocessor.specs.Texts.{all_but_last, argument_at, bytes_at, bytes_of, found, last_of, marked, value_of}
use Rattle.preprocessor.specs.Places.{moved, past, start}

-- what bytes of a text come to: in which text, from which place, in which mode and state, after what was given
abbrev pub Reads : Type 0
Reads = Here → Place → Mode → State → List Mark → List ℕ → Outcome

-- what a whole text comes to
abbrev pub Includes : Type 0
Includes = Here → State → List ℕ → Outcome

-- the outcome that follows from what was given; a violation and a need are final
abbrev pub then_with : Outcome → (List Mark → State → Outcome) → Outcome
then_with (Gives marks state) next = next marks state
then_with (Breaks rule text place) next = Breaks rule text place
then_with (Needs name) next = Needs name

-- ---- giving

-- n bytes more fit into this expansion, and into the work of the whole
abbrev pub fits : State → List Mark → ℕ → Bool
fits state given n = nat_le (length given + n) MAX_EXPANSION_BYTES && nat_le n state.budget

-- n bytes of work were done
abbrev pub spent : State → ℕ → State
spent state n = record { locals = state.locals; globals = state.globals; branches = state.branches; budget = state.budget - n }

-- More is given, where it fits, and the rest is read.
abbrev pub kept : Reads → Here → Place → Place → Mode → State → List Mark → List Mark → List ℕ → Bool → Outcome
kept reads here at next mode state given extra rest true = reads here next mode (spent state (length extra)) (given ++ extra) rest
kept reads here at next mode state given extra rest false = Breaks E6 here.text at

-- More is given by what is at this place, and the rest is read.
abbrev pub continued : Reads → Here → Place → Place → Mode → State → List Mark → List Mark → List ℕ → Outcome
continued reads here at next mode state given extra rest =
    kept reads here at next mode state given extra rest (fits state given (length extra))

-- A byte that opens no reference and begins no word is given.
abbrev pub copied : Reads → Here → Place → Mode → State → List Mark → ℕ → List ℕ → Outcome
copied reads here at mode state given b bs =
    continued reads here at (moved at b) (after mode b (next_byte bs)) state given (record { byte = b; text = here.text; place = at } ∷ []) bs

-- ---- files

-- in a file: its definitions are in force, innermost, and its bytes are read
abbrev pub in_file : State → FileReference → ℕ → State
in_file state file n = record { locals = state.locals ++ file.definitions; globals = state.globals; branches = []; budget = state.budget - n }

-- after it: what it defined for itself ends with it
abbrev pub after_file : ℕ → List Bool → State → State
after_file n branches state = record { locals = take n state.locals; globals = state.globals; branches = branches; budget = state.budget }

abbrev pub closed : State → Outcome → Outcome
closed state (Gives marks last) = Gives marks (after_file (length state.locals) state.branches last)
closed state (Breaks rule text place) = Breaks rule text place
closed state (Needs name) = Needs name

-- the file with this number, where its bytes fit into the work
abbrev pub entered : List NamedText → Includes → Here → Place → State → FileReference → ℕ → ℕ → Bool → Outcome
entered texts includes here at state file left i false = Breaks E6 here.text at
entered texts includes here at state file left i true =
    closed state (includes (record { text = i; arguments = file.arguments; left = left }) (in_file state file (length (bytes_at texts i))) (bytes_at texts i))

-- the file with this number, where it is there
abbrev pub included : List NamedText → Includes → Here → Place → State → FileReference → ℕ → Option ℕ → Outcome
included texts includes here at state file left None = Needs file.name
included texts includes here at state file left (Some i) =
    entered texts includes here at state file left i (nat_le (length (bytes_at texts i)) state.budget)

-- a file, where one more text may be open
abbrev pub one_more_text : List NamedText → Includes → Here → Place → State → FileReference → ℕ → Outcome
one_more_text texts includes here at state file zero = Breaks E5 here.text at
one_more_text texts includes here at state file (suc left) = included texts includes here at state file left (found 0 file.name texts)

-- ---- references

-- what the reference at this place gives
abbrev pub referred : List NamedText → Includes → Here → Place → State → Reference → Outcome
referred texts includes here at state Faulty = Breaks E2 here.text at
referred texts includes here at state (Name name) = Gives (marked here.text at (value_of state name)) state
referred texts includes here at state (Number n) = Gives (marked here.text at (argument_at texts here n)) state
referred texts includes here at state (File file) = one_more_text texts includes here at state file here.left

-- What a reference says is given.
abbrev pub given_by : Reads → Here → Place → Place → Mode → List Mark → List ℕ → Outcome → Outcome
given_by reads here at next mode given rest outcome =
    then_with outcome (λ extra state. continued reads here at next mode state given extra rest)

-- The inside of a reference was expanded: the reference gives what its words say.
abbrev pub resolved : List NamedText → Includes → Reads → Here → Place → Place → Mode → List Mark → List ℕ → Outcome → Outcome
resolved texts includes reads here at next mode given rest outcome =
    then_with outcome (λ marks state. given_by reads here at next mode given rest (referred texts includes here at state (reading (words None false (bytes_of marks)))))

-- A reference: its inside is expanded first.
abbrev pub opened : List NamedText → Includes → Reads → Here → Place → Mode → State → List Mark → List ℕ → Option ℕ → Outcome
opened texts includes reads here at mode state given bs None = Breaks E1 here.text at
opened texts includes reads here at mode state given bs (Some n) =
    resolved texts includes reads here at (past (moved at 123) (take (n + 1) bs)) (beside mode) given (drop (n + 1) bs) (reads here (moved at 123) inner state [] (take n bs))

-- ---- definitions

-- one more definition, of all that follows or of this text
abbrev pub with_one : Bool → State → Definition → State
with_one true state d = record { locals = state.locals; globals = state.globals ++ d ∷ []; branches = state.branches; budget = state.budget }
with_one false state d = record { locals = state.locals ++ d ∷ []; globals = state.globals; branches = state.branches; budget = state.budget }

-- The line of a definition was expanded: it begins with a name, or not.
abbrev pub made : Reads → Here → Place → Place → State → List Mark → List ℕ → Bool → Option Definition → Outcome
made reads here at next state given rest global None = Breaks E7 here.text at
made reads here at next state given rest global (Some d) = reads here next plain (with_one global state d) given rest

abbrev pub defined : Reads → Here → Place → Place → List Mark → List ℕ → Bool → Outcome → Outcome
defined reads here at next given rest global outcome =
    then_with outcome (λ marks state. made reads here at next state given rest global (definition_of (maker_of global) (bytes_of marks)))

-- A definition, whose word ends at the place `next`; these bytes follow, and k of them are its line.
abbrev pub lined : Reads → Here → Place → Place → State → List Mark → Bool → ℕ → List ℕ → Outcome
lined reads here at next state given global k bytes =
    defined reads here at (past next (take k bytes)) given (drop k bytes) global (reads here next inner state [] (take k bytes))

-- ---- conditionals

-- in a part of an &IF, which is that of &ELSE where `last` is true
abbrev pub in_part : Bool → State → State
in_part last state = record { locals = state.locals; globals = state.globals; branches = state.branches ++ last ∷ []; budget = state.budget }

-- after the &IF
abbrev pub after_part : State → State
after_part state = record { locals = state.locals; globals = state.globals; branches = all_but_last state.branches; budget = state.budget }

-- the place after the word that these bytes begin with
abbrev pub past_word : Place → List ℕ → Place
past_word at bytes = past at (take (word_size bytes) bytes)

-- A part that is not chosen: the word that ends it is next.
abbrev pub passed_over : Reads → Here → Place → Place → State → List Mark → List ℕ → Option ℕ → Outcome
passed_over reads here at next state given bytes None = Breaks E3 here.text at
passed_over reads here at next state given bytes (Some k) = reads here (past next (take k bytes)) at_branch state given (drop k bytes)

-- The condition holds, or not, or is none; &THEN is at the place `next`.
abbrev pub branched : Reads → Here → Place → Place → State → List Mark → List ℕ → Option Bool → Outcome
branched reads here at next state given rest None = Breaks E4 here.text at
branched reads here at next state given rest (Some true) =
    reads here (past_word next rest) plain (in_part false state) given (drop (word_size rest) rest)
branched reads here at next state given rest (Some false) =
    passed_over reads here at (past_word next rest) state given (drop (word_size rest) rest) (part_length false (drop (word_size rest) rest))

-- &THEN ends a condition.
abbrev pub judged : Reads → Here → Place → Place → State → List Mark → List ℕ → Directive → List ℕ → Outcome
judged reads here at next state given rest Then bytes = branched reads here at next state given rest (truth state bytes)
judged reads here at next state given rest Scoped bytes = Breaks E3 here.text next
judged reads here at next state given rest Global bytes = Breaks E3 here.text next
judged reads here at next state given rest If bytes = Breaks E3 here.text next
judged reads here at next state given rest ElseIf bytes = Breaks E3 here.text next
judged reads here at next state given rest Else bytes = Breaks E3 here.text next
judged reads here at next state given rest EndIf bytes = Breaks E3 here.text next
judged reads here at next state given rest Unknown bytes = Breaks E3 here.text next

-- The condition of the word at this place was expanded.
abbrev pub decided : Reads → Here → Place → Place → List Mark → List ℕ → Outcome → Outcome
decided reads here at next given rest outcome =
    then_with outcome (λ marks state. judged reads here at next state given rest (word_at rest) (bytes_of marks))

-- A condition is expanded; it begins at the place `next`.
abbrev pub condition : Reads → Here → Place → Place → State → List Mark → List ℕ → Option ℕ → Outcome
condition reads here at next state given bytes None = Breaks E3 here.text at
condition reads here at next state given bytes (Some k) =
    decided reads here at (past next (take k bytes)) given (drop k bytes) (reads here next in_condition state [] (take k bytes))

-- &IF has its &ENDIF in the same text.
abbrev pub conditional : Reads → Here → Place → Place → State → List Mark → List ℕ → Option ℕ → Outcome
conditional reads here at next state given bytes None = Breaks E3 here.text at
conditional reads here at next state given bytes (Some k) = condition reads here at next state given bytes (part_length false bytes)

-- After a chosen part all up to &ENDIF is passed over.
abbrev pub skipped : Reads → Here → Place → Place → State → List Mark → List ℕ → Option ℕ → Outcome
skipped reads here at next state given bytes None = Breaks E3 here.text at
skipped reads here at next state given bytes (Some k) =
    reads here (past_word (past next (take k bytes)) (drop k bytes)) plain (after_part state) given (drop (word_size (drop k bytes)) (drop k bytes))

-- &ELSEIF or &ELSE after a chosen part, which is that of &ELSE where the flag is true
abbrev pub part_ended : Reads → Here → Place → Place → State → List Mark → List ℕ → Option Bool → Outcome
part_ended reads here at next state given bytes None = Breaks E3 here.text at
part_ended reads here at next state given bytes (Some true) = Breaks E3 here.text at
part_ended reads here at next state given bytes (Some false) = skipped reads here at next state given bytes (part_length true bytes)

-- &ENDIF after a chosen part
abbrev pub all_ended : Reads → Here → Place → Place → State → List Mark → List ℕ → Option Bool → Outcome
all_ended reads here at next state given bytes None = Breaks E3 here.text at
all_ended reads here at next state given bytes (Some last) = reads here next plain (after_part state) given bytes

-- ---- words

-- a word of a text; these bytes follow it
abbrev pub directed : Reads → Here → Place → Place → State → List Mark → List ℕ → Directive → Outcome
directed reads here at next state given bytes Scoped = lined reads here at next state given false (line_length bytes) bytes
directed reads here at next state given bytes Global = lined reads here at next state given true (line_length bytes) bytes
directed reads here at next state given bytes If = conditional reads here at next state given bytes (part_length true bytes)
directed reads here at next state given bytes Then = Breaks E3 here.text at
directed reads here at next state given bytes ElseIf = part_ended reads here at next state given bytes (last_of state.branches)
directed reads here at next state given bytes Else = part_ended reads here at next state given bytes (last_of state.branches)
directed reads here at next state given bytes EndIf = all_ended reads here at next state given bytes (last_of state.branches)
directed reads here at next state given bytes Unknown = Breaks E7 here.text at

-- the word that ends a part which was not chosen
abbrev pub passed_by : Reads → Here → Place → Place → State → List Mark → List ℕ → Directive → Outcome
passed_by reads here at next state given bytes ElseIf = condition reads here at next state given bytes (part_length false bytes)
passed_by reads here at next state given bytes Else = reads here next plain (in_part true state) given bytes
passed_by reads here at next state given bytes EndIf = reads here next plain state given bytes
passed_by reads here at next state given bytes Then = Breaks E3 here.text at
passed_by reads here at next state given bytes If = Breaks E3 here.text at
passed_by reads here at next state given bytes Scoped = Breaks E3 here.text at
passed_by reads here at next state given bytes Global = Breaks E3 here.text at
passed_by reads here at next state given bytes Unknown = Breaks E3 here.text at

abbrev pub worded : Reads → Here → Place → Place → State → List Mark → List ℕ → Directive → Bool → Outcome
worded reads here at next state given bytes word false = directed reads here at next state given bytes word
worded reads here at next state given bytes word true = passed_by reads here at next state given bytes word

-- a word, of which n bytes are among those after its &
abbrev pub sized : Reads → Here → Place → Mode → State → List Mark → List ℕ → ℕ → Outcome
sized reads here at mode state given bs n =
    worded reads here at (past (moved at 38) (take n bs)) state given (drop n bs) (word_in mode bs) mode.branch

-- ---- a text

-- a byte that opens no reference: one that begins a word, or another
abbrev pub unopened : Reads → Here → Place → Mode → State → List Mark → ℕ → List ℕ → Bool → Outcome
unopened reads here at mode state given b bs false = copied reads here at mode state given b bs
unopened reads here at mode state given b bs true = sized reads here at mode state given bs (word_length bs)

-- a byte that opens a reference, or does not
abbrev pub chosen : List NamedText → Includes → Reads → Here → Place → Mode → State → List Mark → ℕ → List ℕ → Bool → Outcome
chosen texts includes reads here at mode state given b bs false = unopened reads here at mode state given b bs (begins_word mode b)
chosen texts includes reads here at mode state given b bs true = opened texts includes reads here at mode state given bs (closing [] inner bs)

-- a byte and those after it
abbrev pub step : List NamedText → Includes → Reads → Here → Place → Mode → State → List Mark → ℕ → List ℕ → Outcome
step texts includes reads here at mode state given b bs = chosen texts includes reads here at mode state given b bs (opens mode b)

-- The bytes, of which there are at most n.
unfoldable pub reads : List NamedText → Includes → ℕ → Reads
reads texts includes n here at mode state given [] = Gives given state
reads texts includes zero here at mode state given (b ∷ bs) = Gives given state
reads texts includes (suc n) here at mode state given (b ∷ bs) = step texts includes (reads texts includes n) here at mode state given b bs

-- A whole text, of which this number may be open at once, it included.
unfoldable pub text_of : List NamedText → ℕ → Includes
text_of texts zero here state bytes = Gives [] state
text_of texts (suc left) here state bytes = reads texts (text_of texts left) (length bytes) here start plain state [] bytes

-- the bytes of a text that is open
unfoldable pub layer : List NamedText → Reads
layer texts here at mode state given bytes = reads texts (text_of texts here.left) (length bytes) here at mode state given bytes

-- before anything is read of n bytes
abbrev pub at_first : ℕ → State
at_first n = record { locals = []; globals = []; branches = []; budget = MAX_WORK_BYTES - n }

-- The expansion of the first text.
unfoldable pub expansion : List NamedText → Outcome
expansion texts =
    text_of texts MAX_OPEN_TEXTS (record { text = 0; arguments = []; left = MAX_OPEN_TEXTS - 1 }) (at_first (length (bytes_at texts 0))) (bytes_at texts 0)
