-- The configurations that the runs of a program reach, and what an expression there may refer to.
use Rattle.std.specs.Prelude.{◌≡◌, ℕ, true, List, [], slice_index_or}
use Rattle.abl_values.specs.Schema.{SchemaData}
use Rattle.abl_values.specs.Sound.{IsSound}
use Rattle.database_protocol.specs.declared.event.Event.{Event}
use Rattle.bound_tree.specs.Tree.{Body}
use Rattle.kind_laws.specs.bound_kinds.WellKinded.{Surroundings, VariableKinds, inside, is_well_kinded, parameters_of}
use Rattle.block_meaning.specs.Frames.{own_frame}
use Rattle.block_meaning.specs.Program.{Program, procedure_at}
use Rattle.block_meaning.specs.State.{State}
use Rattle.flat_machine.specs.Code.{Code, IsCodeOf}
use Rattle.flat_machine.specs.Config.{Config}
use Rattle.machine_laws.specs.levels.Flagged.{IsFlaggedProgram}
use Rattle.machine_laws.specs.levels.Reached.{Reached}
use Rattle.kind_laws.specs.schemas.Named.{has_source}
use Rattle.kind_laws.specs.Placed.{is_placed}

-- a program with its code, its schema and the kinds of its variables, by procedure; `tree` has the body at each place of the code
pub record Ground : Type 0 where
  pub program : Program
  pub code : Code
  pub tree : ℕ → Body
  pub schema : SchemaData
  pub kinds : List VariableKinds

-- THE CODE DENOTES THE PROGRAM over a sound schema. Its source is well-kinded, names only blocks that are around, and what the schema has, and
-- each header says whether its block starts a transaction
pub record IsGround (g : Ground) : Type 0 where
  pub denotes : IsCodeOf g.code g.program g.tree
  pub flagged : IsFlaggedProgram g.program
  pub sound : IsSound g.schema
  pub tables : g.program.tables ≡ g.schema.tables
  pub kinded : is_well_kinded g.schema g.kinds g.program.source ≡ true
  pub placed : is_placed g.program.source ≡ true
  pub named : has_source g.schema g.program.source ≡ true

-- ---- places

abbrev pub no_variables : VariableKinds
no_variables = record { undoable = []; no_undo = [] }

-- the kinds of the variables of procedure n
abbrev pub kinds_at : Ground → ℕ → VariableKinds
kinds_at g n = slice_index_or g.kinds n no_variables

-- what the statements of procedure n refer to
abbrev pub surroundings : Ground → ℕ → Surroundings
surroundings g n = inside g.schema (kinds_at g 0) (parameters_of g.program.source.procedures) (kinds_at g n) (procedure_at g.program n)

-- what those of the running procedure refer to
abbrev pub running : Ground → State → Surroundings
running g s = surroundings g (own_frame s.frames).procedure

-- ---- runs

-- A CONFIGURATION THAT A RUN REACHES with these own events: their answers fit their operations, and none is Refused
abbrev pub ReachedOn : Ground → ℕ → List Event → Config → Type 0
ReachedOn g units own c = Reached g.code g.program g.schema units own c
