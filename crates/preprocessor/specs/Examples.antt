-- Worked rows of the definition.
use Rattle.std.specs.Prelude.{ℕ, ◌≡◌, true, false, List, [], ◌∷◌, Option, Some, None, codes, map, refl}
use Rattle.abl_base.specs.declared.place.Place.{Place}
use Rattle.abl_base.specs.declared.rule.Rule.TheVariants.{E1, E2, E3, E4, E5, E6, E7}
use Rattle.preprocessor.specs.declared.texts.NamedText.{NamedText}
use Rattle.preprocessor.specs.declared.texts.State.{State}
use Rattle.preprocessor.specs.declared.directive.Directive.TheVariants.{Else}
use Rattle.preprocessor.specs.declared.tokens.Token.TheVariants.{Close, Open, Text, Unequal, Word}
use Rattle.preprocessor.specs.declared.texts.Here.{Here}
use Rattle.preprocessor.specs.declared.texts.Outcome.{Outcome}
use Rattle.preprocessor.specs.declared.texts.Outcome.TheVariants.{Gives, Breaks, Needs}
use Rattle.preprocessor.specs.Modes.{plain}
use Rattle.preprocessor.specs.Places.{start}
use Rattle.preprocessor.specs.Texts.{bytes_of}
use Rattle.preprocessor.specs.Conditions.{truth, truth_of}
use Rattle.preprocessor.specs.Expansion.{branched, expansion, layer, part_ended, passed_by, reads, text_of}

text : List ℕ → List ℕ → NamedText
text name bytes = record { name = name; bytes = bytes }

-- the source alone
source : List ℕ → List NamedText
source bytes = text (codes "a.p") bytes ∷ []

-- the source and one file
with_file : List ℕ → List ℕ → List ℕ → List NamedText
with_file bytes name file = text (codes "a.p") bytes ∷ text name file ∷ []

at : ℕ → ℕ → Place
at line column = record { line = line; column = column }

abbrev bytes_given : Outcome → Option (List ℕ)
bytes_given (Gives marks state) = Some (bytes_of marks)
bytes_given (Breaks rule t place) = None
bytes_given (Needs name) = None

-- text, line and column of each byte
abbrev places_given : Outcome → List (List ℕ)
places_given (Gives marks state) = map (λ m. m.text ∷ m.place.line ∷ m.place.column ∷ []) marks
places_given (Breaks rule t place) = []
places_given (Needs name) = []

-- ---- references and files

-- a name that is defined for a file
argument_of_a_file : bytes_given (expansion (with_file (codes "{inc.i &F=num}") (codes "inc.i") (codes "x.{&f} y"))) ≡ Some (codes "x.num y")
unfolding expansion reads text_of text source with_file
argument_of_a_file = refl

-- The second line of a file has its place there.
place_in_a_file : places_given (expansion (with_file (codes "{b}") (codes "b") (codes "/* */\nx"))) ≡ (1 ∷ 1 ∷ 1 ∷ []) ∷ (1 ∷ 1 ∷ 2 ∷ []) ∷ (1 ∷ 1 ∷ 3 ∷ []) ∷ (1 ∷ 1 ∷ 4 ∷ []) ∷ (1 ∷ 1 ∷ 5 ∷ []) ∷ (1 ∷ 1 ∷ 6 ∷ []) ∷ (1 ∷ 2 ∷ 1 ∷ []) ∷ []
unfolding expansion reads text_of text source with_file
place_in_a_file = refl

-- a file that includes itself
too_many_texts : expansion (with_file (codes "{me.i}") (codes "me.i") (codes "{me.i}")) ≡ Breaks E5 1 (at 1 1)
unfolding expansion reads text_of text source with_file at
too_many_texts = refl

-- a value has the place of the reference
places_of_a_value : places_given (expansion (with_file (codes "{i v}b") (codes "i") (codes "x{1}"))) ≡ (1 ∷ 1 ∷ 1 ∷ []) ∷ (1 ∷ 1 ∷ 2 ∷ []) ∷ (0 ∷ 1 ∷ 6 ∷ []) ∷ []
unfolding expansion reads text_of text source with_file
places_of_a_value = refl

needed : expansion (source (codes "{x{0}}")) ≡ Needs (codes "xa.p")
unfolding expansion reads text_of text source
needed = refl

-- The outer { is reached before the reference inside.
unclosed_first : expansion (source (codes "x{ {}")) ≡ Breaks E1 0 (at 1 2)
unfolding expansion reads text_of text source at
unclosed_first = refl

empty_reference : expansion (source (codes "x{ }")) ≡ Breaks E2 0 (at 1 2)
unfolding expansion reads text_of text source at
empty_reference = refl

-- Comments are copied, and so is a brace after ~; a reference in a TEXT is one.
copied_bytes : bytes_given (expansion (source (codes "/*{*/ ~{'/*{0}'"))) ≡ Some (codes "/*{*/ ~{'/*a.p'")
unfolding expansion reads text_of text source
copied_bytes = refl

-- In a TEXT ~ and the next byte are a pair.
pair_in_a_text : bytes_given (expansion (source (codes "'~~{0}'"))) ≡ Some (codes "'~~a.p'")
unfolding expansion reads text_of text source
pair_in_a_text = refl

-- A brace in a comment inside a reference does not match.
comment_in_a_reference : expansion (source (codes "{x/*}*/}")) ≡ Needs (codes "x/*}*/")
unfolding expansion reads text_of text source
comment_in_a_reference = refl

-- {&} is the name of a file.
lone_sign : expansion (source (codes "{&}")) ≡ Needs (codes "&")
unfolding expansion reads text_of text source
lone_sign = refl

-- ---- definitions

-- a scoped definition ends with its text, a global one does not
definitions_hold : bytes_given (expansion (with_file (codes "{i}{&S}{&G}") (codes "i") (codes "&scoped-define S 1\n&GLOBAL-DEFINE G a{&s}\n{&G}"))) ≡ Some (codes "\n\na1a1")
unfolding expansion reads text_of text source with_file
definitions_hold = refl

unnamed_definition : expansion (source (codes "x\n&scoped-define 1 2")) ≡ Breaks E7 0 (at 2 1)
unfolding expansion reads text_of text source at
unnamed_definition = refl

no_such_word : expansion (source (codes "'&' a& &")) ≡ Breaks E7 0 (at 1 8)
unfolding expansion reads text_of text source at
no_such_word = refl

-- ---- conditionals

-- before any definition, with room for some bytes
fresh : State
fresh = record { locals = []; globals = []; branches = []; budget = 1000 }

-- in the source
first_text : Here
first_text = record { text = 0; arguments = []; left = 15 }

-- Zeros at either end of a number make no difference.
compared_numbers : truth fresh (codes "1.0=01") ≡ Some true
unfolding fresh
compared_numbers = refl

-- what DEFINED gives where nothing is defined
defined_names : truth_of fresh (Word (codes "defined") ∷ Open ∷ Word (codes "a") ∷ Close ∷ []) ≡ Some false
unfolding fresh
defined_names = refl

-- Small and capital letters are the same, and blanks at the end make no difference.
compared_texts : truth_of fresh (Text (codes "A ") ∷ Unequal ∷ Text (codes "a") ∷ []) ≡ Some false
unfolding fresh
compared_texts = refl

-- A TEXT alone is no condition.
text_alone : truth fresh (codes "'a'") ≡ None
unfolding fresh
text_alone = refl

no_condition : branched (layer (source [])) first_text start start fresh [] (codes "&then b &endif") None ≡ Breaks E4 0 (at 1 1)
unfolding layer reads text_of text source first_text fresh at
no_condition = refl

-- the part of a condition that holds
chosen_part : bytes_given (branched (layer (source [])) first_text start start fresh [] (codes "&THEN b &ELSE &ENDIF") (Some true)) ≡ Some (codes " b ")
unfolding layer reads text_of text source first_text fresh
chosen_part = refl

-- the part of &ELSE, after one that was not chosen
other_part : bytes_given (passed_by (layer (source [])) first_text start start fresh [] (codes " b") Else) ≡ Some (codes " b")
unfolding layer reads text_of text source first_text fresh
other_part = refl

part_alone : expansion (source (codes "a&then &else")) ≡ Breaks E3 0 (at 1 8)
unfolding expansion reads text_of text source at
part_alone = refl

-- &ENDIF is missing before the reference is reached.
no_end : expansion (source (codes "&if 1 &then {}")) ≡ Breaks E3 0 (at 1 1)
unfolding expansion reads text_of text source at
no_end = refl

-- &ELSE in the part of &ELSE
second_else : part_ended (layer (source [])) first_text (at 1 5) start fresh [] (codes " b &endif") (Some true) ≡ Breaks E3 0 (at 1 5)
unfolding layer reads text_of text source first_text fresh at
second_else = refl

-- ---- limits

-- No byte more fits into the work.
no_work_left : layer (source []) (record { text = 0; arguments = []; left = 15 }) start plain (record { locals = []; globals = []; branches = []; budget = 0 }) [] (codes "x") ≡ Breaks E6 0 (at 1 1)
unfolding layer reads text_of text source at
no_work_left = refl
