-- What flat code denotes.
use Rattle.std.specs.Prelude.{Bool, true, false, ◌≡◌, ◌<◌, ℕ, List, [], ◌∷◌, length, map, slice_index_or}
use Rattle.bound_tree.specs.Tree.{Header, Body}
use Rattle.bound_tree.specs.Bound.{expr_of, header_of, stmt_of, body_of, source_of}
use Rattle.bound_tree.specs.declared.statement.Stmt.{Stmt}
use Rattle.bound_tree.specs.declared.statement.Stmt.TheVariants as stmt
use Rattle.bound_tree.specs.declared.procedure.Bound.{Bound}
use Rattle.bound_tree.specs.declared.procedure.Procedure.{Procedure}
use Rattle.block_meaning.specs.Program.{Program, no_header}
use Rattle.flat_machine.specs.Code as flat
use Rattle.flat_machine.specs.Written.{instr_at, tree_at}
use Rattle.block_code.specs.declared.code.Instr.{Instr}
use Rattle.block_code.specs.declared.code.Instr.TheVariants as instr
use Rattle.block_code.specs.declared.code.ProcedureCode.{ProcedureCode}
use Rattle.block_code.specs.declared.code.Code.{Code}

-- a statement that is neither a block nor an IF
abbrev pub is_simple : Stmt → Bool
is_simple (stmt.Block' header shape body) = false
is_simple (stmt.If' test shape one shape' other) = false
is_simple t = true

-- an instruction
abbrev pub instr_of : Instr → flat.Instr
instr_of instr.End = flat.Ends
instr_of (instr.Block header body next) = flat.Opens (header_of header.value) body next
instr_of (instr.If test one other) = flat.Tests (expr_of test) one other
instr_of (instr.Simple t next) = flat.Plain (stmt_of t) next

-- the instructions
abbrev pub instrs_of : List Instr → List flat.Instr
instrs_of code = map instr_of code

-- the header of the block at a place, and the place of its body
abbrev pub header_in : flat.Instr → Header
header_in flat.Ends = no_header
header_in (flat.Opens b body next) = b
header_in (flat.Tests test one other) = no_header
header_in (flat.Plain t next) = no_header

abbrev pub body_in : flat.Instr → ℕ
body_in flat.Ends = 0
body_in (flat.Opens b body next) = body
body_in (flat.Tests test one other) = 0
body_in (flat.Plain t next) = 0

-- the place of the n-th procedure's block; 0 where there is no such procedure
abbrev pub place_of : List ProcedureCode → ℕ → ℕ
place_of cs n = slice_index_or (map (λ c. c.place) cs) n 0

-- the code as the machine has it
abbrev pub flat_of : Code → flat.Code
flat_of code = record {
  instr = instr_at (instrs_of code.instrs.items);
  entry = λ n. body_in (instr_at (instrs_of code.instrs.items) (place_of code.procedures.items n));
}

-- the code of a procedure, where these bodies are at the places of the code: its block has its header and its body
pub record IsProcedure (code : List flat.Instr) (ts : List Body) (q : Procedure) (c : ProcedureCode) : Type 0 where
  pub below : c.place < length code
  pub header : header_in (instr_at code c.place) ≡ header_of q.header.value
  pub body : tree_at ts (body_in (instr_at code c.place)) ≡ body_of q.body.items
  pub undoable : c.undoable ≡ q.undoable
  pub no_undo : c.no_undo ≡ q.no_undo
  pub buffers : c.buffers.items ≡ q.buffers.items
  pub parameters : c.parameters.items ≡ q.parameters.items

-- the same for each procedure, in order
abbrev pub AreProcedures : List flat.Instr → List Body → List Procedure → List ProcedureCode → Type 0
AreProcedures code ts [] [] = Unit {0}
AreProcedures code ts [] (c ∷ cs) = ⊥
AreProcedures code ts (q ∷ qs) [] = ⊥
AreProcedures code ts (q ∷ qs) (c ∷ cs) = IsProcedure code ts q c × AreProcedures code ts qs cs

-- the code denotes the source, with these bodies at its places
pub record IsCompiled (code : Code) (bound : Bound) : Type 0 where
  pub bodies : List Body
  pub denotes : (p : Program) → p.source ≡ source_of bound → flat.IsCodeOf (flat_of code) p (tree_at bodies)
  pub procedures : AreProcedures (instrs_of code.instrs.items) bodies bound.procedures.items code.procedures.items
  pub streams : code.streams ≡ bound.streams
  pub outputs : code.outputs.items ≡ bound.outputs.items
  pub inputs : code.inputs.items ≡ bound.inputs.items
