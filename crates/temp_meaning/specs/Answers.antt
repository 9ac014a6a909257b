-- What the temporary tables of a client answer to an operation on one of them, and what they are then.
use Rattle.std.specs.Prelude.{ℕ, ◌+◌, ◌==◌, nat_lt, Bool, true, false, not, ◌&&◌, if◌then◌else◌, List, [], ◌∷◌, length, Option, Some, None, is_some}
use Rattle.abl_base.specs.declared.value.Value.{Value}
use Rattle.abl_base.specs.declared.limits.TheConstants.{MAX_KEY_BYTES}
use Rattle.abl_values.specs.declared.schema.IndexDef.{IndexDef}
use Rattle.abl_values.specs.declared.schema.KeyPart.{KeyPart}
use Rattle.abl_values.specs.Keys.{key_bytes, unique_key}
use Rattle.abl_values.specs.Masks.{same_bytes}
use Rattle.abl_values.specs.Rows.{bytes_of_row}
use Rattle.database_protocol.specs.declared.operation.Op.{Op}
use Rattle.database_protocol.specs.declared.operation.Op.TheVariants as op
use Rattle.database_protocol.specs.declared.answer.Answer.{Answer}
use Rattle.database_protocol.specs.declared.answer.Answer.TheVariants as answer
use Rattle.temp_meaning.specs.Rows.{TempRow, row_of, with_row, without_row}
use Rattle.temp_meaning.specs.Tables.{TempTable, Temps, def_of, is_own, key_in, next_row, table_of, with_table}

-- this project's choice: all rows of all tables together have at most 16 MiB, and a row of a table gets no number above this one
abbrev pub max_bytes : ℕ
max_bytes = 16777216

abbrev pub max_number : ℕ
max_number = 4294967295

pub record OwnAnswer : Type 0 where
  pub answer : Answer
  pub after : Temps

abbrev pub unchanged : Answer → Temps → OwnAnswer
unchanged a ts = record { answer = a; after = ts }

-- ---- reading

abbrev pub found_answer : Temps → ℕ → Option ℕ → Option TempRow → OwnAnswer
found_answer ts t index None = unchanged answer.AtEnd ts
found_answer ts t index (Some r) = unchanged (answer.Found (record { 0 = r.number }) (key_in (def_of ts t) index r.values) r.values) ts

abbrev pub read_answer : Option (List Value) → Temps → OwnAnswer
read_answer None ts = unchanged answer.Gone ts
read_answer (Some values) ts = unchanged (answer.Row values) ts

abbrev pub lock_answer : Bool → Temps → OwnAnswer
lock_answer true ts = unchanged answer.Granted ts
lock_answer false ts = unchanged answer.Gone ts

-- ---- what refuses a row

-- the first index in which its key is too long
abbrev pub long_key : ℕ → List IndexDef → List Value → Option ℕ
long_key i [] values = None
long_key i (d ∷ ds) values = if nat_lt MAX_KEY_BYTES (length (key_bytes d.parts values)) then Some i else long_key (i + 1) ds values

-- a row other than n with this key
abbrev pub row_with_bytes : List KeyPart → ℕ → List ℕ → List TempRow → Option ℕ
row_with_bytes parts n key [] = None
row_with_bytes parts n key (r ∷ rs) = if not (r.number == n) && same_bytes (key_bytes parts r.values) key then Some r.number else row_with_bytes parts n key rs

abbrev pub row_with_key_in : Option (List ℕ) → List KeyPart → ℕ → List TempRow → Option ℕ
row_with_key_in None parts n rs = None
row_with_key_in (Some key) parts n rs = row_with_bytes parts n key rs

-- a row other than n with the unique key of these values, where they have one
abbrev pub row_with_key : IndexDef → ℕ → List Value → List TempRow → Option ℕ
row_with_key d n values rs = row_with_key_in (unique_key d.unique d.parts values) d.parts n rs

pub record Clash : Type 0 where
  pub index : ℕ
  pub row : ℕ

abbrev pub clash_if : ℕ → Option ℕ → Option Clash → Option Clash
clash_if i None more = more
clash_if i (Some row) more = Some (record { index = i; row = row })

-- the first index in which another row has it
abbrev pub clash : ℕ → List IndexDef → ℕ → List Value → List TempRow → Option Clash
clash i [] n values rs = None
clash i (d ∷ ds) n values rs = clash_if i (row_with_key d n values rs) (clash (i + 1) ds n values rs)

abbrev pub rows_size : List TempRow → ℕ
rows_size [] = 0
rows_size (r ∷ rs) = length (bytes_of_row r.values) + rows_size rs

abbrev pub tables_size : List TempTable → ℕ
tables_size [] = 0
tables_size (t ∷ ts) = rows_size t.rows + tables_size ts

-- why a row n with these values is refused, where the tables would then be `after`
abbrev pub refused_row : Option ℕ → Option Clash → Bool → Temps → OwnAnswer → OwnAnswer
refused_row (Some i) c full ts success = unchanged (answer.KeyTooLong i) ts
refused_row None (Some c) full ts success = unchanged (answer.Duplicate c.index (record { 0 = c.row })) ts
refused_row None None true ts success = unchanged answer.Full ts
refused_row None None false ts success = success

abbrev pub is_full : Temps → Bool
is_full ts = nat_lt max_bytes (tables_size ts.tables)

-- ---- changing

abbrev pub with_values : ℕ → ℕ → List Value → Temps → Temps
with_values t n values ts = with_table t (record (table_of ts t) { rows = with_row n values (table_of ts t).rows }) ts

abbrev pub inserted : ℕ → List Value → Temps → Temps
inserted t values ts = with_table t (record (table_of ts t) { given = (table_of ts t).given + 1; rows = with_row ((table_of ts t).given + 1) values (table_of ts t).rows }) ts

abbrev pub deleted : ℕ → ℕ → Temps → Temps
deleted t n ts = with_table t (record (table_of ts t) { rows = without_row n (table_of ts t).rows }) ts

abbrev pub or_full : Bool → Bool → Bool
or_full true b = true
or_full false b = b

abbrev pub insert_answer : Temps → ℕ → List Value → OwnAnswer
insert_answer ts t values =
    refused_row (long_key 0 (def_of ts t).indexes values) (clash 0 (def_of ts t).indexes 0 values (table_of ts t).rows)
    (or_full (not (nat_lt (table_of ts t).given max_number)) (is_full (inserted t values ts))) ts
    (record { answer = answer.Inserted (record { 0 = (table_of ts t).given + 1 }); after = inserted t values ts })

abbrev pub put_answer : Temps → ℕ → ℕ → List Value → OwnAnswer
put_answer ts t n values =
    if is_some (row_of (table_of ts t).rows n)
    then refused_row (long_key 0 (def_of ts t).indexes values) (clash 0 (def_of ts t).indexes n values (table_of ts t).rows) (is_full (with_values t n values ts)) ts
    (record { answer = answer.Done; after = with_values t n values ts })
    else unchanged answer.Gone ts

abbrev pub delete_answer : Temps → ℕ → ℕ → OwnAnswer
delete_answer ts t n = if is_some (row_of (table_of ts t).rows n) then record { answer = answer.Done; after = deleted t n ts } else unchanged answer.Gone ts

-- ---- operations

abbrev pub own_if : Bool → OwnAnswer → Option OwnAnswer
own_if true x = Some x
own_if false x = None

-- THE ANSWER TO AN OPERATION ON ONE OF THEM; None where the operation is none on them, so that the database is asked
abbrev pub own_answer : Temps → Op → Option OwnAnswer
own_answer ts (op.Next t index prefix from forward) = own_if (is_own ts t) (found_answer ts t index (next_row ts t index prefix from forward))
own_answer ts (op.Get t row) = own_if (is_own ts t) (read_answer (row_of (table_of ts t).rows row.0) ts)
own_answer ts (op.Lock t row exclusive wait) = own_if (is_own ts t) (lock_answer (is_some (row_of (table_of ts t).rows row.0)) ts)
own_answer ts (op.Insert t values) = own_if (is_own ts t) (insert_answer ts t values)
own_answer ts (op.Put t row values) = own_if (is_own ts t) (put_answer ts t row.0 values)
own_answer ts (op.Delete t row) = own_if (is_own ts t) (delete_answer ts t row.0)
own_answer ts o = None
