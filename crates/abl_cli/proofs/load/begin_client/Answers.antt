use Rattle.std.proofs.Common.{List, ℕ, ap, subst}
use Rattle.abl_values.specs.declared.schema.TableDef.{TableDef}
use Rattle.abl_values.specs.Schema.{SchemaData}
use Rattle.source_files.specs.Files.{HaveTexts}
use Rattle.client_threads.specs.served.Served.{IsClientOf}
use Rattle.abl_cli.proofs.load.begin_client.Goals as goal

pub returns-in-Ok-client_to_run-clause-begun : goal.returns-in-Ok-client_to_run-clause-begun
returns-in-Ok-client_to_run-clause-begun g c =
    let named = c.in_ok-named.named.items in
    record {
      inputs = named;
      have = subst (λ (names : List (List ℕ)). HaveTexts (g.F.Files.state c.args.files.now) names named) c.as_slice.ensures.value c.in_ok-named.ensures.texts;
      to_run =
          subst (λ (tables : List TableDef). IsClientOf c.args.units tables c.args.code c.args.input named c.in-Ok-client_to_run.client)
          (ap (λ (schema : SchemaData). schema.tables) c.in-Ok.ensures.schema) c.in-Ok-client_to_run.ensures;
    }
