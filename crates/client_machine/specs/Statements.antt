-- What the statements and headers of code have.
use Rattle.std.specs.Prelude.{ℕ, Bool, true, List, [], Option, Some, None}
use Rattle.abl_base.specs.declared.value.Value.{Value}
use Rattle.bound_tree.specs.declared.block.FetchWord.TheVariants as fetch
use Rattle.bound_tree.specs.declared.block.LockWanted.TheVariants as wanted
use Rattle.bound_tree.specs.declared.statement.FindWord.{FindWord}
use Rattle.bound_tree.specs.declared.statement.FindWord.TheVariants as find
use Rattle.bound_tree.specs.Tree.{Assign, Assignment, Fetch, Find, FindCurrent, Reading}
use Rattle.database_protocol.specs.declared.operation.Op.{Op}
use Rattle.database_protocol.specs.declared.operation.Op.TheVariants as op
use Rattle.flat_machine.specs.Flat as flat

-- ---- readings

-- the default where there is no reading
abbrev pub no_reading : Reading
no_reading = record { buffer = 0; index = None; bracket = []; test = None; lock = wanted.NoLock }

-- the reading of a FOR
abbrev pub fetch_in : Option Fetch → Fetch
fetch_in None = record { word = fetch.Each; reading = no_reading }
fetch_in (Some f) = f

-- the reading of an instruction: FOR, FIND, FIND CURRENT
abbrev pub reading_in : flat.Instr → Reading
reading_in (flat.Opens b body next) = (fetch_in b.fetch).reading
reading_in (flat.Plain (Find word r wait quiet) next) = r
reading_in (flat.Plain (FindCurrent r wait quiet) next) = r
reading_in i = no_reading

-- the kind of a FIND (`FindWord`), and whether it waits
abbrev pub find_word_in : flat.Instr → FindWord
find_word_in (flat.Plain (Find word r wait quiet) next) = word
find_word_in i = find.Only

abbrev pub wait_in : flat.Instr → Bool
wait_in (flat.Plain (Find word r wait quiet) next) = wait
wait_in (flat.Plain (FindCurrent r wait quiet) next) = wait
wait_in i = true

-- ---- assignments

-- those of an assignment statement
abbrev pub pairs_in : flat.Instr → List Assignment
pairs_in (flat.Plain (Assign xs quiet) next) = xs
pairs_in i = []

-- ---- operations

-- the table and the values of an Insert
abbrev pub inserted_table : Op → ℕ
inserted_table (op.Insert t values) = t
inserted_table other = 0

abbrev pub inserted_values : Op → List Value
inserted_values (op.Insert t values) = values
inserted_values other = []
