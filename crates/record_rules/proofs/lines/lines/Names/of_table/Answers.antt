use Rattle.std.proofs.Common.{ap, codes, ◌++◌, ◌∙◌, ◌≡◌, ℕ, List, slice_index_or, sym}
use Rattle.std.proofs.lemmas.Result.{IfOk-weaker}
use Rattle.abl_values.specs.declared.schema.TableDef.{TableDef}
use Rattle.abl_values.specs.Schema.{no_table}
use Rattle.block_meaning.specs.Program.{table_name}
use Rattle.record_rules.proofs.LinesLemmas.Ended.{ended}
use Rattle.record_rules.proofs.lines.lines.Names.of_table.Goals as goal

pub returns : goal.returns
returns c =
    IfOk-weaker c.joined.result _ _ (λ line h p n names.
    let same : c.table_name-name.result.now ≡ table_name p c.args.table = c.table_name-name.ensures ∙ ap (λ (ts : List TableDef). (slice_index_or ts c.args.table no_table).name) (sym names.tables) in
    h ∙ ap (λ (t : List ℕ). codes "** record of " ++ t) (ap (λ (t : List ℕ). t ++ codes " too long\n") same ∙ ended (table_name p c.args.table) (codes " too long"))) c.joined.ensures
