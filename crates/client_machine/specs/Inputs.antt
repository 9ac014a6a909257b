-- What the program of a client gives it: its procedures, whose code the machine has, its inputs, and the forms of values.
use Rattle.std.specs.Prelude.{◌≡◌, ℕ, List, [], ◌∷◌}
use Rattle.bound_tree.specs.Tree.{Procedure}
use Rattle.evaluator.specs.Forms.{AreForms}
use Rattle.value_formats.specs.Imports.{line_at}
use Rattle.block_meaning.specs.Program.{Program}
use Rattle.block_meaning.specs.State as state
use Rattle.block_code.specs.declared.code.Instr.{Instr}
use Rattle.block_code.specs.declared.code.ProcedureCode.{ProcedureCode}
use Rattle.block_code.specs.declared.code.Code.{Code}
use Rattle.client_machine.specs.declared.inputs.Stream.{Stream}
use Rattle.client_machine.specs.declared.inputs.Inputs.{Inputs}
use Rattle.client_machine.specs.Config.{header_at}

-- a procedure, and its code
pub record IsProcedureOf (code : List Instr) (c : ProcedureCode) (q : Procedure) : Type 0 where
  pub header : header_at code c.place ≡ q.header
  pub undoable : c.undoable ≡ q.undoable
  pub no_undo : c.no_undo ≡ q.no_undo
  pub parameters : c.parameters.items ≡ q.parameters
  pub buffers : c.buffers.items ≡ q.buffers

-- the same for each procedure, in order
abbrev pub AreProceduresOf : List Instr → List ProcedureCode → List Procedure → Type 0
AreProceduresOf code [] [] = Unit {0}
AreProceduresOf code [] (q ∷ qs) = ⊥
AreProceduresOf code (c ∷ cs) [] = ⊥
AreProceduresOf code (c ∷ cs) (q ∷ qs) = IsProcedureOf code c q × AreProceduresOf code cs qs

-- the code and the inputs are those of the program
pub record IsProgramOf (p : Program) (code : Code) (inputs : Inputs) : Type 0 where
  pub forms : AreForms p.forms
  pub tables : p.tables ≡ inputs.schema.tables
  pub lines : p.forms.line_at ≡ line_at
  pub procedures : AreProceduresOf code.instrs.items code.procedures.items p.source.procedures
  pub input : p.input ≡ inputs.own
  pub inputs_are : p.inputs ≡ inputs.named.items

-- the names of its outputs
abbrev pub names_of : Code → List (List ℕ)
names_of code = code.outputs.items

-- a stream
abbrev pub stream_of : Stream → state.Stream
stream_of x = record { output = x.output; input = x.input; at = x.at }
