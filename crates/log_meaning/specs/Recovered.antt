-- The slots that a list of notes recovers to.
use Rattle.std.specs.Prelude.{ℕ, ◌==◌, Bool, false, ◌||◌, if◌then◌else◌, List, [], ◌∷◌}
use Rattle.log_meaning.specs.declared.note.Change.{Change}
use Rattle.log_meaning.specs.declared.note.Note.{Note}
use Rattle.log_meaning.specs.declared.note.Note.TheVariants.{Change as Changed, Commit}

-- the changes of the slot, in their order
abbrev pub changes_of : ℕ → List Note → List Change
changes_of slot [] = []
changes_of slot (Changed c ∷ notes) = if c.slot == slot then c ∷ changes_of slot notes else changes_of slot notes
changes_of slot (Commit tx ∷ notes) = changes_of slot notes

-- the notes commit the transaction
abbrev pub is_committed : List Note → ℕ → Bool
is_committed [] tx = false
is_committed (Changed c ∷ notes) tx = is_committed notes tx
is_committed (Commit t ∷ notes) tx = (t == tx) || is_committed notes tx

-- the bytes before the first of these changes, if there is one
abbrev pub first_old : List ℕ → List Change → List ℕ
first_old below [] = below
first_old below (c ∷ changes) = c.old

-- the bytes after the last of these changes whose transaction is committed, if there is one
abbrev pub last_new : (ℕ → Bool) → List ℕ → List Change → List ℕ
last_new committed otherwise [] = otherwise
last_new committed otherwise (c ∷ changes) = last_new committed (if committed c.tx then c.new else otherwise) changes

-- the bytes that these changes of one slot recover to, where these transactions are committed and the slot has the bytes `below` in area 0
abbrev pub given : (ℕ → Bool) → List ℕ → List Change → List ℕ
given committed below changes = last_new committed (first_old below changes) changes

-- The recovered slot: the bytes after its last change in a committed transaction, else those before its first change,
-- else those below the log.
abbrev pub recovered : List Note → (ℕ → List ℕ) → ℕ → List ℕ
recovered notes below slot = given (is_committed notes) (below slot) (changes_of slot notes)
