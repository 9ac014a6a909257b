-- What the parts of the compiler write.
use Rattle.std.specs.Prelude.{◌≡◌, ◌<◌, ℕ, List, ◌++◌, length}
use Rattle.bound_tree.specs.Tree.{Body, Nothing, Then}
use Rattle.bound_tree.specs.Bound.{stmt_of, body_of}
use Rattle.bound_tree.specs.declared.statement.Stmt.{Stmt}
use Rattle.bound_tree.specs.declared.procedure.Procedure.{Procedure}
use Rattle.flat_machine.specs.Code.{before}
use Rattle.flat_machine.specs.Written.{Encodes, tree_at}
use Rattle.block_code.specs.declared.code.Instr.{Instr}
use Rattle.block_code.specs.declared.code.ProcedureCode.{ProcedureCode}
use Rattle.block_code.specs.Code.{instrs_of, IsProcedure, AreProcedures}

-- place 0 has the end of a body
pub record HasEnd (ts : List Body) : Type 0 where
  pub some : 0 < length ts
  pub end : tree_at ts 0 ≡ Nothing

-- the code grew, and encodes more bodies after those that it encoded
pub record Grown (old new : List Instr) (ts : List Body) : Type 0 where
  pub more : List Instr
  pub is : new ≡ old ++ more
  pub later : List Body
  pub encodes : Encodes (instrs_of new) (ts ++ later)

-- the code grew, and has this body at the place
pub record GrownTo (old new : List Instr) (ts : List Body) (place : ℕ) (body : Body) : Type 0 where
  pub grown : Grown old new ts
  pub below : place < length (ts ++ grown.later)
  pub body_is : tree_at (ts ++ grown.later) place ≡ body

-- code before the place `next` was written, and begins at `place`: `put` adds its statements to those at `next`
abbrev pub Emitted : List Instr → List Instr → (Body → Body) → ℕ → ℕ → Type 0
Emitted old new put next place = (ts : List Body) → Encodes (instrs_of old) ts → HasEnd ts → next < length ts → GrownTo old new ts place (put (tree_at ts next))

-- the code of a body
abbrev pub EmittedBody : List Instr → List Instr → List Stmt → ℕ → ℕ → Type 0
EmittedBody old new body next place = Emitted old new (before (body_of body)) next place

-- the code of a statement
abbrev pub EmittedStmt : List Instr → List Instr → Stmt → ℕ → ℕ → Type 0
EmittedStmt old new stmt next place = Emitted old new (Then (stmt_of stmt)) next place

-- the code of a procedure
pub record GrownBy (old new : List Instr) (ts : List Body) (q : Procedure) (c : ProcedureCode) : Type 0 where
  pub grown : Grown old new ts
  pub is : IsProcedure (instrs_of new) (ts ++ grown.later) q c

abbrev pub EmittedProcedure : List Instr → List Instr → Procedure → ProcedureCode → Type 0
EmittedProcedure old new q c = (ts : List Body) → Encodes (instrs_of old) ts → HasEnd ts → GrownBy old new ts q c

-- the code of procedures
pub record GrownByAll (old new : List Instr) (ts : List Body) (qs : List Procedure) (cs : List ProcedureCode) : Type 0 where
  pub grown : Grown old new ts
  pub are : AreProcedures (instrs_of new) (ts ++ grown.later) qs cs

abbrev pub EmittedProcedures : List Instr → List Instr → List Procedure → List ProcedureCode → Type 0
EmittedProcedures old new qs cs = (ts : List Body) → Encodes (instrs_of old) ts → HasEnd ts → GrownByAll old new ts qs cs
