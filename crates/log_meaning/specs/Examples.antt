-- Worked examples, each computed from the definitions.
use Rattle.std.specs.Prelude.{◌≡◌, ℕ, [], ◌∷◌, List, refl}
use Rattle.log_meaning.specs.declared.note.Note.{Note}
use Rattle.log_meaning.specs.declared.note.Note.TheVariants.{Change as Changed, Commit}
use Rattle.log_meaning.specs.Recovered.{recovered}
use Rattle.log_meaning.specs.Bytes.{eight, four, note_bytes, log_bytes, header_bytes}

-- slots of one byte, for short
abbrev change : ℕ → ℕ → ℕ → ℕ → Note
change tx slot old new = Changed (record { tx = tx; slot = slot; old = old ∷ []; new = new ∷ [] })

abbrev below : ℕ → List ℕ
below slot = 9 ∷ []

-- transaction 1 is committed and 2 is not
abbrev notes : List Note
notes = change 1 5 10 11 ∷ change 2 6 20 21 ∷ change 1 5 11 12 ∷ Commit 1 ∷ change 2 5 12 13 ∷ []

a_committed_slot_has_its_last_committed_bytes : recovered notes below 5 ≡ 12 ∷ []
a_committed_slot_has_its_last_committed_bytes = refl

an_unfinished_slot_has_its_first_bytes : recovered notes below 6 ≡ 20 ∷ []
an_unfinished_slot_has_its_first_bytes = refl

another_slot_has_the_bytes_below : recovered notes below 7 ≡ 9 ∷ []
another_slot_has_the_bytes_below = refl

-- why a new generation must not carry all notes of an unfinished transaction: here 1 took back its write of slot 5,
-- and 2 then wrote and committed it, so the slot has 30; the notes of 1 alone would make it 10 again
abbrev taken_back : List Note
taken_back = change 1 5 10 11 ∷ change 1 5 11 10 ∷ []

carried_notes_that_no_longer_stand_are_wrong : recovered taken_back (λ slot. 30 ∷ []) 5 ≡ 10 ∷ []
carried_notes_that_no_longer_stand_are_wrong = refl

-- a generation with one batch, which commits transaction 7
a_log : log_bytes 3 ((Commit 7 ∷ []) ∷ []) ≡ 1 ∷ 65 ∷ 66 ∷ 76 ∷ 66 ∷ 73 ∷ 48 ∷ 48 ∷ 49 ∷ 0 ∷ 0 ∷ 0 ∷ 0 ∷ 0 ∷ 0 ∷ 0 ∷ 3 ∷ 0 ∷ 0 ∷ 0 ∷ 0 ∷ 0 ∷ 0 ∷ 0 ∷ 0 ∷ 0 ∷ 0 ∷ 0 ∷ 0 ∷ 0 ∷ 0 ∷ 0 ∷ 1 ∷ 0 ∷ 0 ∷ 0 ∷ 9 ∷ 2 ∷ 0 ∷ 0 ∷ 0 ∷ 0 ∷ 0 ∷ 0 ∷ 0 ∷ 7 ∷ []
unfolding eight four note_bytes header_bytes
a_log = refl
