-- Small sources: how the examples write them down.
use Rattle.std.specs.Prelude.{ℕ, zero, suc, ◌+◌, ◌==◌, List, [], ◌∷◌, codes, slice_index_or, Bool, true, false, Option, Some, None, pos}
use Rattle.abl_base.specs.declared.row.RowId.{RowId}
use Rattle.database_protocol.specs.declared.row_order.Cursor.{Cursor}
use Rattle.abl_values.specs.declared.schema.TableDef.{TableDef}
use Rattle.abl_base.specs.declared.value.Value.{Value}
use Rattle.abl_base.specs.declared.value.Value.TheVariants.{Text, Int, Int64}
use Rattle.abl_base.specs.declared.value.Kind.{Kind}
use Rattle.abl_base.specs.declared.value.Kind.TheVariants.{Character, Integer}
use Rattle.abl_values.specs.Texts.{plain_text}
use Rattle.bound_tree.specs.declared.expression.Variable.{Variable}
use Rattle.bound_tree.specs.declared.expression.Binary.TheVariants as two
use Rattle.bound_tree.specs.declared.block.LockWanted.{LockWanted}
use Rattle.bound_tree.specs.declared.block.FetchWord.{FetchWord}
use Rattle.bound_tree.specs.declared.block.BlockKind.{BlockKind}
use Rattle.bound_tree.specs.declared.block.BlockKind.TheVariants as block
use Rattle.bound_tree.specs.declared.block.Flags.{Flags}
use Rattle.bound_tree.specs.declared.statement.Target.TheVariants as target
use Rattle.bound_tree.specs.declared.procedure.BufferDef.{BufferDef}
use Rattle.bound_tree.specs.Tree.{Expr, Literal, TheVariable, TheField, Two, Header, Reading, ValueOf, Item, Shows, Skips, Stmt, Choose, Assign, PutItems, Body, Nothing, Then, Procedure, start_of_source}
use Rattle.abl_base.specs.text_forms.TextForms.{TextForms, Imported, AtInputEnd, BadElement, Elements}
use Rattle.block_meaning.specs.Program.{Program}

-- ---- lists of statements

infixr 5 ◌⨾◌
abbrev pub ◌⨾◌ : Stmt → Body → Body
t ⨾ b = Then t b

abbrev pub only : Stmt → Body
only t = Then t Nothing

-- ---- the table customer: num INTEGER and name CHARACTER, with the unique primary index num on num

abbrev pub customer : TableDef
customer = record {
  name = codes "customer";
  fields = (record { name = codes "num"; kind = Some Integer; initial = Int (pos 0); mandatory = false; mask = [] })
      ∷ (record { name = codes "name"; kind = Some Character; initial = Text []; mandatory = false; mask = [] }) ∷ [];
  indexes = (record { name = codes "num"; unique = true; parts = (record { field = 0; descending = false }) ∷ [] }) ∷ [];
  primary = Some 0;
}

abbrev pub ann : List Value
ann = Int (pos 1) ∷ Text (codes "Ann") ∷ []

abbrev pub bob : List Value
bob = Int (pos 2) ∷ Text (codes "Bob") ∷ []

abbrev pub row_id : ℕ → RowId
row_id n = record { 0 = n }

-- the cursor at a row; its key is its number
abbrev pub at_row : ℕ → Option Cursor
at_row n = Some (record { key = n ∷ []; row = row_id n })

abbrev pub named : List ℕ → BufferDef
named name = record { name = name; table = 0 }

-- ---- headers

abbrev pub no_flags : Flags
no_flags = record { starts = false; undo = false; retry_seen = false }

abbrev pub sub : Flags
sub = record { starts = false; undo = true; retry_seen = false }

abbrev pub transaction : Flags
transaction = record { starts = true; undo = true; retry_seen = false }

-- a transaction that names RETRY
abbrev pub retried : Flags
retried = record { starts = true; undo = true; retry_seen = true }

abbrev pub header : BlockKind → ℕ → Flags → List ℕ → Header
header kind n flags scoped = record {
  number = n;
  kind = kind;
  place = start_of_source;
  transaction = false;
  flags = flags;
  scoped = scoped;
  to = None;
  while_test = None;
  fetch = None;
  on_error = None;
  on_endkey = None;
}

abbrev pub reading : LockWanted → Reading
reading lock = record { buffer = 0; index = Some 0; bracket = []; test = None; lock = lock }

-- a FOR over buffer 0
abbrev pub for_of : FetchWord → ℕ → Flags → List ℕ → Reading → Header
for_of word n flags scoped r = record (header block.For n flags scoped) { fetch = Some (record { word = word; reading = r }) }

-- ---- variables and values

abbrev pub undoable : ℕ → Variable
undoable n = record { external = false; undoable = true; number = n; kind = Integer }

abbrev pub no_undo : ℕ → Variable
no_undo n = record { external = false; undoable = false; number = n; kind = Integer }

abbrev pub whole : ℕ → Expr
whole n = Literal (Int64 (pos n))

abbrev pub text : List ℕ → Expr
text t = Literal (Text t)

abbrev pub the : Variable → Expr
the x = TheVariable x

abbrev pub num : Expr
num = TheField 0 0 Integer

abbrev pub name : Expr
name = TheField 0 1 Character

-- ---- statements

abbrev pub sets : Variable → Expr → Stmt
sets x e = Assign ((record { target = target.Variable x; right = ValueOf e }) ∷ []) false

abbrev pub one_more : Variable → Stmt
one_more x = sets x (Two two.Add (TheVariable x) (whole 1))

abbrev pub sets_num : Expr → Stmt
sets_num e = Assign ((record { target = target.Field 0 0 Integer; right = ValueOf e }) ∷ []) false

abbrev pub sets_name : Expr → Bool → Stmt
sets_name e quiet = Assign ((record { target = target.Field 0 1 Character; right = ValueOf e }) ∷ []) quiet

-- PUT UNFORMATTED of values, and SKIP
abbrev pub items_of : List Expr → List Item
items_of [] = Skips 1 ∷ []
items_of (e ∷ es) = Shows e None ∷ items_of es

abbrev pub puts : List Expr → Stmt
puts es = PutItems 0 (items_of es)

abbrev pub when : Expr → Stmt → Stmt
when e t = Choose e (only t) Nothing

-- ---- programs

-- a procedure with these numbers of variables, all zero at first, and these buffers of the table customer
abbrev pub zeros : ℕ → List Value
zeros zero = []
zeros (suc n) = Int (pos 0) ∷ zeros n

abbrev pub procedure : ℕ → ℕ → List BufferDef → Header → Body → Procedure
procedure undo keep buffers head body = record { name = []; undoable = zeros undo; no_undo = zeros keep; buffers = buffers; parameters = []; header = head; body = body; references = [] }

-- each byte of an input is a line here: 0 ends it, 255 is a bad first element, another one is that number and then
-- the text "x"
abbrev pub line_of : Bool → ℕ → ℕ → Imported
line_of true n next = BadElement 1 (next + 1)
line_of false zero next = AtInputEnd
line_of false (suc n) next = Elements (Some (Int (pos (suc n))) ∷ Some (Text (codes "x")) ∷ []) (next + 1)

abbrev pub toy_line : List ℕ → ℕ → List (Option Kind) → Imported
toy_line input at kinds = line_of (slice_index_or input at 0 == 255) (slice_index_or input at 0) at

abbrev pub toy_forms : TextForms
toy_forms = record { masked = λ mask v. plain_text v; number_in = λ t. None; line_at = toy_line }

abbrev pub program : List ℕ → List Procedure → Program
program input procedures = record {
  tables = customer ∷ [];
  source = record { procedures = procedures; streams = 0; outputs = []; inputs = [] };
  input = input;
  inputs = [];
  forms = toy_forms;
}

-- the source of one procedure without records: the number of its undoable variables, and of its NO-UNDO ones
abbrev pub plain_source : ℕ → ℕ → Body → Program
plain_source undo keep body = program [] (procedure undo keep [] (header block.Procedure 0 sub []) body ∷ [])

-- the source of one procedure with buffer 0, customer
abbrev pub customer_source : List ℕ → ℕ → ℕ → Flags → List ℕ → Body → Program
customer_source input undo keep flags scoped body = program input (procedure undo keep (named (codes "customer") ∷ []) (header block.Procedure 0 flags scoped) body ∷ [])

-- the same with a second buffer, b
abbrev pub two_buffers : List ℕ → Flags → List ℕ → Body → Program
two_buffers input flags scoped body = program input (procedure 1 0 (named (codes "customer") ∷ named (codes "b") ∷ []) (header block.Procedure 0 flags scoped) body ∷ [])
