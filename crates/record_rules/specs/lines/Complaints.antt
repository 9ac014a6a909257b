-- What a complaint of the code reports, and where its names come from.
use Rattle.std.specs.Prelude.{◌≡◌, ℕ, List, Option, Some, None}
use Rattle.abl_values.specs.Schema.{SchemaData}
use Rattle.bound_tree.specs.declared.procedure.BufferDef.{BufferDef}
use Rattle.block_meaning.specs.Program.{Program, procedure_at}
use Rattle.block_meaning.specs.Lines as lines
use Rattle.record_rules.specs.declared.lines.complaint.Complaint.{Complaint}
use Rattle.record_rules.specs.declared.lines.complaint.Complaint.TheVariants as complaint

-- the complaint of the meaning
abbrev pub complaint_in : Complaint → lines.Complaint
complaint_in (complaint.NoRecordFound b) = lines.NoRecordFound b
complaint_in (complaint.MoreThanOne b) = lines.MoreThanOne b
complaint_in (complaint.Locked b) = lines.IsLocked b
complaint_in (complaint.NoRecord b) = lines.NoRecordIn b
complaint_in (complaint.ReadNoLock b) = lines.IsReadNoLock b
complaint_in (complaint.Duplicate t i) = lines.IsDuplicate t i
complaint_in (complaint.Mandatory t f) = lines.IsMandatory t f
complaint_in (complaint.KeyTooLong t i) = lines.KeyIsTooLong t i
complaint_in (complaint.RecordTooLong t) = lines.RecordTooLong t
complaint_in complaint.DatabaseFull = lines.DatabaseFull
complaint_in (complaint.Gone b) = lines.RecordIsGone b
complaint_in complaint.OutOfRange = lines.OutOfRange
complaint_in complaint.BadConversion = lines.BadConversion
complaint_in complaint.BadArgument = lines.BadArgument
complaint_in (complaint.BadField k) = lines.BadField k

-- the same, if there is one
abbrev pub complaint_if : Option Complaint → Option lines.Complaint
complaint_if None = None
complaint_if (Some c) = Some (complaint_in c)

-- the program has these tables, and its procedure n these buffers
pub record HasNames (p : Program) (n : ℕ) (schema : SchemaData) (buffers : List BufferDef) : Type 0 where
  pub tables : p.tables ≡ schema.tables
  pub buffers_are : (procedure_at p n).buffers ≡ buffers
