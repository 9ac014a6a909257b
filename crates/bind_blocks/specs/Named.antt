-- Blocks that are named, by the words of rules U, which are judged apart.
use Rattle.std.specs.Prelude.{ℕ, Bool, false, ◌==◌, if◌then◌else◌, List, [], ◌∷◌, Option, Some, None}
use Rattle.abl_values.specs.Schema.{same_name}
use Rattle.syntax_tree.specs.declared.name.Word.{Word}
use Rattle.bind_names.specs.declared.names.Around.{Around}

abbrev pub is_labelled : List ℕ → Around → Bool
is_labelled label x = elim x.label as (λ _. Bool) [ None ↦ false | Some name ↦ same_name name label ]

-- the number of the first such block, and the procedure's where there is none
abbrev pub first_block : (Around → Bool) → List Around → ℕ
first_block is_it [] = 0
first_block is_it (x ∷ []) = x.number
first_block is_it (x ∷ y ∷ xs) = if is_it x then x.number else first_block is_it (y ∷ xs)

abbrev pub block_named : (Around → Bool) → List Around → Option Word → ℕ
block_named otherwise around None = first_block otherwise around
block_named otherwise around (Some label) = first_block (is_labelled label.spelling) around

abbrev pub iterating : Around → Bool
iterating x = x.iterates

abbrev pub undoing : Around → Bool
undoing x = x.undoes

abbrev pub is_number : ℕ → Around → Bool
is_number n x = x.number == n
