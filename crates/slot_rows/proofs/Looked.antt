-- A call that reads changes nothing.
use Rattle.std.proofs.Common.{◌≡◌, ℕ, List, Option, Some, None, MatchOption, Result, Ok, Err, refl, ap, ◌∙◌}
use Rattle.storage.specs.Slots.{SlotState}
use Rattle.abl_values.specs.Schema.{SchemaData}
use Rattle.database_meaning.specs.declared.state.StoredRow.{StoredRow}
use Rattle.row_fragments.specs.Calls.{Looked}
use Rattle.byte_rows.specs.declared.fault.ChainFault.{ChainFault}
use Rattle.byte_rows.specs.Rows.{of_slots}
use Rattle.slot_rows.specs.declared.decode.OldRow.{OldRow}
use Rattle.slot_rows.specs.declared.open.Open.{Open}
use Rattle.slot_rows.specs.Opens.{log_in, touched_in}
use Rattle.slot_rows.specs.Stored.{IsStored}
use Rattle.slot_rows.proofs.Assembles.{stored_rests}
use Rattle.slot_rows.proofs.Methods.{begun_rests, refused_stored}

pub looked_stored : {T : Type 0} (schema : SchemaData) (s t : SlotState) (at_s at_t : ℕ → (ℕ → List ℕ) → Type 0) (os : List Open) → IsStored schema s (log_in os) (touched_in os)
    → (r : Result T ChainFault) → Looked s t at_s at_t (of_slots r) → IsStored schema t (log_in os) (touched_in os)
looked_stored schema s t at_s at_t os stored (Ok v) l = stored_rests schema s t (log_in os) (touched_in os) l.rests (l.cause.stays (λ e. cc e)) stored
looked_stored schema s t at_s at_t os stored (Err fault) l = refused_stored schema s t os os (λ c. refl) stored fault (λ e. l.rests) l.cause (begun_rests s t l.rests)

pub found_some : (found : Option OldRow) (one : OldRow) (row : Option StoredRow) → found ≡ Some one → MatchOption found (row ≡ None) (λ other. row ≡ Some other.row) → row ≡ Some one.row
found_some None one row is h = absurd (cc is)
found_some (Some other) one row is h = h ∙ ap (λ (o : OldRow). Some o.row) (same other one is)
  where
    same : (a b : OldRow) → Some a ≡ Some b → a ≡ b
    same a b e = cc

pub found_none : (found : Option OldRow) (row : Option StoredRow) → found ≡ None → MatchOption found (row ≡ None) (λ other. row ≡ Some other.row) → row ≡ None
found_none None row is h = h
found_none (Some other) row is h = absurd (cc is)
