-- NO OPERATION OF A CLIENT OF BLOCK CODE IS REFUSED: what is known of a client and its trace.
use Rattle.std.specs.Prelude.{◌≡◌, ◌≢◌, ℕ, List, None}
use Rattle.std.specs.List.{All}
use Rattle.schema_reader.specs.Meaning.{schema_of}
use Rattle.schema_reader.specs.Rules.{violation_of}
use Rattle.source_reader.specs.Sources.{IsTreeOf}
use Rattle.abl_values.specs.Schema.{SchemaData}
use Rattle.schema_lines.specs.Files.{items_of}
use Rattle.database_protocol.specs.declared.answer.Answer.TheVariants.{Refused}
use Rattle.database_protocol.specs.declared.event.Event.{Event}
use Rattle.database_protocol.specs.declared.next_step.NextStep.{NextStep}
use Rattle.database_protocol.specs.declared.next_step.NextStep.TheVariants.{Ask}
use Rattle.database_protocol.specs.declared.operation.Op.{Op}
use Rattle.database_meaning.specs.declared.contents.Contents.{Contents}
use Rattle.database_meaning.specs.Answers.{IsWellFormed}
use Rattle.database_meaning.specs.Setting.{Setting}
use Rattle.database_meaning.specs.Traces.{left_by}
use Rattle.block_meaning.specs.Program.{Program}

-- the program of a source text, over the schema of a file. Neither breaks a rule
pub record IsOfFile (file text : List ℕ) (schema : SchemaData) (p : Program) : Type 0 where
  pub clean : violation_of file ≡ None
  pub schema_is : schema ≡ schema_of (items_of file)
  pub tables : p.tables ≡ schema.tables
  pub read : IsTreeOf schema text p.source

-- none of these answers is Refused
abbrev pub NoneRefused : List Event → Type 0
NoneRefused own = All (λ e. e.answer ≢ Refused) own

-- no answer in these events of client n, in this trace, is Refused; and what it requests next is well formed in the state that the trace
-- leaves
pub record IsNeverRefused (setting : Setting) (contents : Contents) (n : ℕ) (trace own : List Event) (next : NextStep) : Type 0 where
  pub none : NoneRefused own
  pub next_is : (op : Op) → next ≡ Ask op → IsWellFormed setting (left_by setting contents trace) n op
