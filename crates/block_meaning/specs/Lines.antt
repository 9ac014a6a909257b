-- The faults of statements, and the line about each.
use Rattle.std.specs.Prelude.{ℕ, List, [], ◌∷◌, ◌++◌, codes}
use Rattle.std.specs.Fmt.{decimal}
use Rattle.expression_meaning.specs.declared.fault.RunFault.{RunFault}
use Rattle.expression_meaning.specs.declared.fault.RunFault.TheVariants as fault
use Rattle.block_meaning.specs.Program.{Program, table_name, field_name, index_name, buffer_name}

-- what a line `** TEXT` reports. Buffers are those of the running procedure
pub data Complaint : Type 0 where
  NoRecordFound : (buffer : ℕ) → Complaint
  MoreThanOne : (buffer : ℕ) → Complaint
  IsLocked : (buffer : ℕ) → Complaint
  NoRecordIn : (buffer : ℕ) → Complaint
  IsReadNoLock : (buffer : ℕ) → Complaint
  IsDuplicate : (table index : ℕ) → Complaint
  IsMandatory : (table field : ℕ) → Complaint
  KeyIsTooLong : (table index : ℕ) → Complaint
  RecordTooLong : (table : ℕ) → Complaint
  DatabaseFull : Complaint
  RecordIsGone : (buffer : ℕ) → Complaint
  OutOfRange : Complaint
  BadConversion : Complaint
  BadArgument : Complaint
  BadField : (number : ℕ) → Complaint

-- the complaint about a fault of an expression
abbrev pub complaint_of : RunFault → Complaint
complaint_of (fault.EmptyBuffer b) = NoRecordIn b
complaint_of fault.Range = OutOfRange
complaint_of fault.Convert = BadConversion
complaint_of fault.Argument = BadArgument

-- the text after `** `, for a fault in procedure n
abbrev pub text_of : Program → ℕ → Complaint → List ℕ
text_of p n (NoRecordFound b) = codes "no record found in " ++ buffer_name p n b
text_of p n (MoreThanOne b) = codes "more than one record in " ++ buffer_name p n b
text_of p n (IsLocked b) = codes "record of " ++ buffer_name p n b ++ codes " is locked"
text_of p n (NoRecordIn b) = codes "no record in buffer " ++ buffer_name p n b
text_of p n (IsReadNoLock b) = codes "record of " ++ buffer_name p n b ++ codes " is read NO-LOCK"
text_of p n (IsDuplicate t i) = codes "duplicate key in index " ++ index_name p t i ++ codes " of " ++ table_name p t
text_of p n (IsMandatory t f) = codes "field " ++ field_name p t f ++ codes " of " ++ table_name p t ++ codes " is mandatory"
text_of p n (KeyIsTooLong t i) = codes "key too long in index " ++ index_name p t i ++ codes " of " ++ table_name p t
text_of p n (RecordTooLong t) = codes "record of " ++ table_name p t ++ codes " too long"
text_of p n DatabaseFull = codes "database full"
text_of p n (RecordIsGone b) = codes "record of " ++ buffer_name p n b ++ codes " is gone"
text_of p n OutOfRange = codes "value out of range"
text_of p n BadConversion = codes "bad conversion"
text_of p n BadArgument = codes "bad argument"
text_of p n (BadField k) = codes "input field " ++ decimal k ++ codes " is bad"

-- the line
abbrev pub line_of : Program → ℕ → Complaint → List ℕ
line_of p n c = codes "** " ++ text_of p n c ++ 10 ∷ []
