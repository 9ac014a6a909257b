-- Phrases and options that are in one header or statement twice.
use Rattle.std.specs.Prelude.{ℕ, Bool, ◌==◌, if◌then◌else◌, List, [], ◌∷◌, ◌++◌}
use Rattle.std.specs.List.{list_any}
use Rattle.abl_base.specs.declared.place.Place.{Place}
use Rattle.abl_base.specs.declared.rule.Rule.TheVariants.{U6}
use Rattle.bind_names.specs.declared.violation.Violation.{Violation}
use Rattle.bind_names.specs.Judged.{at}
use Rattle.syntax_tree.specs.declared.definition.VariableOption.{VariableOption}
use Rattle.syntax_tree.specs.declared.definition.VariableOption.TheVariants as option
use Rattle.syntax_tree.specs.Syntax.{Phrase, While, Transaction, OnError, OnEndkey, RecordOption, Where, UseIndex, Lock, NoWait, NoError}

-- a phrase or option: which one it is, by a number, and the place of its first word. All lock options are one
pub record Marked : Type 0 where
  pub class : ℕ
  pub place : Place

abbrev pub marked : ℕ → Place → Marked
marked class place = record { class = class; place = place }

abbrev pub of_phrase : Phrase → Marked
of_phrase (While at e) = marked 0 at
of_phrase (Transaction at) = marked 1 at
of_phrase (OnError at label action) = marked 2 at
of_phrase (OnEndkey at label action) = marked 3 at

abbrev pub of_option : RecordOption → Marked
of_option (Where at e) = marked 0 at
of_option (UseIndex at index) = marked 1 at
of_option (Lock at lock) = marked 2 at
of_option (NoWait at) = marked 3 at
of_option (NoError at) = marked 4 at

abbrev pub of_variable_option : VariableOption → Marked
of_variable_option (option.NoUndo at) = marked 0 at
of_variable_option (option.Initial at value literal_at) = marked 1 at
of_variable_option (option.Format at mask) = marked 2 at
of_variable_option (option.Label at) = marked 3 at

abbrev pub is_one_of : List ℕ → ℕ → Bool
is_one_of classes n = list_any (λ m. m == n) classes

-- the first of them that is one of those before it
abbrev pub repeats_after : List ℕ → List Marked → List Violation
repeats_after before [] = []
repeats_after before (m ∷ ms) = if is_one_of before m.class then at U6 m.place else repeats_after (before ++ m.class ∷ []) ms

-- THE FIRST THAT REPEATS ONE BEFORE IT
abbrev pub repeats : List Marked → List Violation
repeats = repeats_after []
