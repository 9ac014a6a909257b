-- Why a row may not be stored.
use Rattle.std.specs.Prelude.{ℕ, Bool, true, false, List, Option, Some, None, nat_lt, length}
use Rattle.abl_base.specs.declared.limits.TheConstants.{MAX_ROW_BYTES}
use Rattle.abl_base.specs.declared.value.Value.{Value}
use Rattle.abl_values.specs.Rows.{bytes_of_row}
use Rattle.block_meaning.specs.Lines.{Complaint, IsMandatory, RecordTooLong}
use Rattle.block_meaning.specs.Program.{Program, table_at}
use Rattle.block_meaning.specs.Buffers.{missing_field}

-- its first mandatory field that is `?`, or else its size
abbrev pub storing_complaint : Option ℕ → Bool → ℕ → Option Complaint
storing_complaint (Some f) long t = Some (IsMandatory t f)
storing_complaint None true t = Some (RecordTooLong t)
storing_complaint None false t = None

-- of a row of this table
abbrev pub complaint_about : Program → ℕ → List Value → Option Complaint
complaint_about p t vs = storing_complaint (missing_field 0 (table_at p t).fields vs) (nat_lt MAX_ROW_BYTES (length (bytes_of_row vs))) t
