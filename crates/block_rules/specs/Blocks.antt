-- The blocks around a place, and which of them a label or its absence means. A list of blocks has the innermost first; the block of the procedure, which
-- no label names, is around all of them and in none of the lists. A block among those around a place is the list that begins with it, so the empty list
-- is the procedure's.
use Rattle.std.specs.Prelude.{Bool, true, false, not, ◌||◌, if◌then◌else◌, List, [], ◌∷◌, Option, Some, None}
use Rattle.std.specs.Option.{is_some}
use Rattle.std.specs.List.{list_any}
use Rattle.abl_values.specs.Schema.{same_name}
use Rattle.syntax_tree.specs.declared.name.Word.{Word}
use Rattle.syntax_tree.specs.declared.word.BlockWord.TheVariants as word
use Rattle.syntax_tree.specs.Syntax.{Phrase, While, Opening, Plainly, Head}

abbrev pub is_while : Phrase → Bool
is_while (While at e) = true
is_while p = false

abbrev pub has_while : List Phrase → Bool
has_while = list_any is_while

-- TRANSACTION, ON ERROR or ON ENDKEY: each of these gives a DO the undo property
abbrev pub has_undo_phrase : List Phrase → Bool
has_undo_phrase = list_any (λ p. not (is_while p))

abbrev pub is_do : Opening → Bool
is_do (Plainly word.Do buffers) = true
is_do o = false

-- REPEAT, FOR, and DO with TO or WHILE
abbrev pub iterates : Head → Bool
iterates h = not (is_do h.opening) || (is_some h.counting || has_while h.phrases)

-- THE UNDO PROPERTY: REPEAT, FOR, and DO with TRANSACTION or ON
abbrev pub has_undo : Head → Bool
has_undo h = not (is_do h.opening) || has_undo_phrase h.phrases

abbrev pub is_called : Option Word → Word → Bool
is_called None label = false
is_called (Some name) label = same_name name.spelling label.spelling

-- the block with this label, else the procedure's
abbrev pub from_label : Word → List Head → List Head
from_label label [] = []
from_label label (h ∷ hs) = if is_called h.label label then h ∷ hs else from_label label hs

-- the innermost block with the undo property, which the procedure's has
abbrev pub from_undo : List Head → List Head
from_undo [] = []
from_undo (h ∷ hs) = if has_undo h then h ∷ hs else from_undo hs

-- it is not the block of a procedure
abbrev pub is_inner : List Head → Bool
is_inner [] = false
is_inner (h ∷ hs) = true

abbrev pub first_iterates : List Head → Bool
first_iterates [] = false
first_iterates (h ∷ hs) = iterates h

abbrev pub first_has_undo : List Head → Bool
first_has_undo [] = true
first_has_undo (h ∷ hs) = has_undo h

abbrev pub first_is_called : List Head → Word → Bool
first_is_called [] label = false
first_is_called (h ∷ hs) label = is_called h.label label

-- some block iterates
abbrev pub one_iterates : List Head → Bool
one_iterates = list_any iterates
