-- What an UNDO restores, and what it does not change.
use Rattle.std.specs.Prelude.{◌≡◌, ◌≤◌, ℕ, false, List, [], map, slice_index_or}
use Rattle.abl_base.specs.declared.value.Value.{Value}
use Rattle.block_meaning.specs.State.{State, Content, Empty, Record, Pending, Saved, Copy}
use Rattle.block_meaning.specs.Buffers.{Place, buffer_in, made_later}

-- the undoable variables of each open procedure
abbrev pub undoable_of : State → List (List Value)
undoable_of s = map (λ f. f.undoable) s.frames

-- the NO-UNDO variables of each open procedure
abbrev pub no_undo_of : State → List (List Value)
no_undo_of s = map (λ f. f.no_undo) s.frames

-- the undoable variables in a copy
abbrev pub saved_variables : Copy → List (List Value)
saved_variables copy = map (λ f. f.undoable) copy.frames

-- the default where a copy has no such procedure
abbrev pub no_saved : Saved
no_saved = record { undoable = []; contents = [] }

-- the content saved at a place
abbrev pub saved_content : Place → Copy → Content
saved_content at copy = slice_index_or (slice_index_or copy.frames at.out no_saved).contents at.number Empty

-- the content of the buffer at a place
abbrev pub content_in : Place → State → Content
content_in at s = (buffer_in at s).content

-- the content is no record that a CREATE after the first `mark` made
abbrev pub IsOlder : ℕ → Content → Type 0
IsOlder mark Empty = Unit {0}
IsOlder mark (Record row values held made) = made_later mark made ≡ false
IsOlder mark (Pending values since made) = made ≤ mark

-- NO-UNDO variables, streams and their places, ERROR-STATUS, RETURN-VALUE, the output and the number of CREATEs are
-- unchanged. Sequences belong to the database
pub record LeftAlone (s s' : State) : Type 0 where
  pub no_undo : no_undo_of s' ≡ no_undo_of s
  pub streams : s'.streams ≡ s.streams
  pub at : s'.at ≡ s.at
  pub status : s'.status ≡ s.status
  pub returned : s'.returned ≡ s.returned
  pub written : s'.written ≡ s.written
  pub size : s'.size ≡ s.size
  pub made : s'.made ≡ s.made
