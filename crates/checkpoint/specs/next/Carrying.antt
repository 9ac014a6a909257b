-- What the next generation of the log carries.
use Rattle.std.specs.Prelude.{ℕ, zero, suc, List, [], ◌∷◌, ◌++◌, Option, Some, None}
use Rattle.storage.specs.declared.slots.Undo.{Undo}
use Rattle.log_meaning.specs.declared.note.Note.{Note}
use Rattle.log_meaning.specs.Logged.{carried_of}

-- the notes of one client's writes, if its transaction has a number
abbrev pub notes_of : Option ℕ → (ℕ → List ℕ) → List Undo → List Note
notes_of None reads writes = []
notes_of (Some tx) reads writes = carried_of tx reads writes

-- those of the clients below this one, in their order
abbrev pub notes_below : (ℕ → Option ℕ) → (ℕ → List ℕ) → (ℕ → List Undo) → ℕ → List Note
notes_below number reads list zero = []
notes_below number reads list (suc c) = notes_below number reads list c ++ notes_of (number c) reads (list c)

-- the numbers of those clients
abbrev pub number_list : Option ℕ → List ℕ
number_list None = []
number_list (Some tx) = tx ∷ []

abbrev pub numbers_below : (ℕ → Option ℕ) → ℕ → List ℕ
numbers_below number zero = []
numbers_below number (suc c) = numbers_below number c ++ number_list (number c)
