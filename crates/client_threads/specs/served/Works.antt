-- Works, and what clients that do them did.
use Rattle.std.specs.Prelude.{◌≡◌, ◌+◌, ℕ, List, [], ◌∷◌}
use Rattle.abl_values.specs.declared.schema.TableDef.{TableDef}
use Rattle.evaluator.specs.Forms.{AreForms}
use Rattle.value_formats.specs.Imports.{line_at}
use Rattle.bound_tree.specs.Tree.{Source as Tree}
use Rattle.block_meaning.specs.Program.{Program}
use Rattle.block_meaning.specs.Meaning.{run}
use Rattle.database_protocol.specs.declared.ends.ClientEnd.{ClientEnd}
use Rattle.database_protocol.specs.declared.event.Event.{Event}
use Rattle.client_output.specs.declared.section.Section.{Section}
use Rattle.database_meaning.specs.Setting.{Setting}
use Rattle.client_threads.specs.served.ClientRun.{ClientOutcome, own_events}

-- what a client runs: the tables of the schema, its source, its own input and the named ones
pub record Work : Type 0 where
  pub tables : List TableDef
  pub tree : Tree
  pub input : List ℕ
  pub inputs : List (List ℕ)

-- a program that is this work, with the forms of values in texts that `docs/formats.md` has
pub record IsProgram (work : Work) (p : Program) : Type 0 where
  pub tables : p.tables ≡ work.tables
  pub source : p.source ≡ work.tree
  pub input_is : p.input ≡ work.input
  pub inputs_are : p.inputs ≡ work.inputs
  pub forms : AreForms p.forms
  pub lines : p.forms.line_at ≡ line_at

-- what each client did over a database of this setting, with this number of units: as its source means under the answers to its own events. The
-- clients have the numbers from this one on, and came to these ends and wrote these sections
abbrev pub DidAsMeant : Setting → ℕ → List Event → ℕ → List Work → List ClientEnd → List (List Section) → Type 0
DidAsMeant setting units trace number [] [] [] = Unit {0}
DidAsMeant setting units trace number (w ∷ ws) (how ∷ ends) (sections ∷ parts) =
    ((p : Program) → IsProgram w p → ClientOutcome setting w.tree.outputs (run p units) (own_events number trace) how sections) × DidAsMeant setting units trace (number + 1) ws ends parts
DidAsMeant setting units trace number works ends parts = ⊥
