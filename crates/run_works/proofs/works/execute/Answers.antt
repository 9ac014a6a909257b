-- The clients have run, and their report is written; or the run did not begin.
use Rattle.std.proofs.Common.{◌≡◌, ◌<◌, inl, inr, ℕ, List, sym, subst, arith, rules, length}
use Rattle.std.specs.Prelude.{All, map}
use Rattle.abl_values.specs.Schema.{SchemaData}
use Rattle.database_protocol.specs.declared.event.Event.{Event}
use Rattle.database_protocol.specs.declared.ends.ClientEnd.{ClientEnd}
use Rattle.source_files.specs.Compiled.{schema_in}
use Rattle.client_threads.specs.declared.served.clients.EndedClient.{EndedClient}
use Rattle.client_threads.specs.served.Served.{end_or_none}
use Rattle.client_threads.specs.served.Works.{DidAsMeant}
use Rattle.run_works.specs.Disks.{IsDurable, ReadsAsDatabase, state_of}
use Rattle.run_works.specs.Works.{HasNotRun}
use Rattle.run_works.proofs.Runs.{as_many_clients, as_many_ended, did_as_meant}
use Rattle.run_works.proofs.works.execute.Goals as goal

pub returns-in_default-clause-ran : goal.returns-in_default-clause-ran
returns-in_default-clause-ran g c = λ units works to_do. inr c.out_of_memory.ensures.not_run

pub report-report-requires-clause-room : goal.report-report-requires-clause-room
report-report-requires-clause-room g c =
    let many : length c.in-Ok-run_together.ran.clients.items ≡ length c.args.clients.items = as_many_ended (record { schema = schema_in c.args.df.now; clients = length c.args.clients.items }) c.in-Ok-run_together.ran.trace 0 c.args.clients.items c.in-Ok-run_together.ran.clients.items c.in-Ok-run_together.ensures.ended in
    search (rules, many)

pub report-report-requires-clause-few : goal.report-report-requires-clause-few
report-report-requires-clause-few g c =
    let many : length c.in-Ok-run_together.ran.clients.items ≡ length c.args.clients.items = as_many_ended (record { schema = schema_in c.args.df.now; clients = length c.args.clients.items }) c.in-Ok-run_together.ran.trace 0 c.args.clients.items c.in-Ok-run_together.ran.clients.items c.in-Ok-run_together.ensures.ended in
    omega (arith, many, c.requires.few)

pub returns-in-Ok-run_together-clause-ran : goal.returns-in-Ok-run_together-clause-ran
returns-in-Ok-run_together-clause-ran g c = λ units works to_do.
    let ran = c.in-Ok-run_together.ran in
    let told = c.report-report.ensures.reported in
    let ends : List ClientEnd = map (λ (ended : EndedClient). end_or_none ended.end) ran.clients.items in
    let same = c.report-report.ensures.trace in
    let many : length c.args.clients.items ≡ length works = as_many_clients units works c.args.clients.items to_do in
    let was = state_of g.D.Disk c.args.disk in
    let now = state_of g.D.Disk ran.disk in
    let schema : SchemaData = c.args.form.now.schema.now in
    inl (record {
      ends = ends;
      parts = told.0;
      did = subst (λ (events : List Event). DidAsMeant (record { schema = schema; clients = length works }) units events 0 works ends told.0) (sym same)
          (subst (λ (n : ℕ). DidAsMeant (record { schema = schema; clients = n }) units ran.trace 0 works ends told.0) many
          (subst (λ (s : SchemaData). DidAsMeant (record { schema = s; clients = length c.args.clients.items }) units ran.trace 0 works ends told.0) (sym c.requires.schema)
          (did_as_meant (record { schema = schema_in c.args.df.now; clients = length c.args.clients.items }) ran.trace units 0 works c.args.clients.items ran.clients.items told.0 to_do c.in-Ok-run_together.ensures.ended told.1)));
      clients = subst (λ (events : List Event). All (λ (e : Event). e.client < length works) events) (sym same) (subst (λ (n : ℕ). All (λ (e : Event). e.client < n) ran.trace) many c.in-Ok-run_together.ensures.events);
      durable = subst (λ (events : List Event). IsDurable (record { schema = schema; clients = length works }) events was now) (sym same)
          (subst (λ (n : ℕ). IsDurable (record { schema = schema; clients = n }) ran.trace was now) many
          (subst (λ (s : SchemaData). IsDurable (record { schema = s; clients = length c.args.clients.items }) ran.trace was now) (sym c.requires.schema) c.in-Ok-run_together.ensures.durable));
      born = subst (λ (s : SchemaData). ReadsAsDatabase was s) (sym c.requires.schema) c.in-Ok-run_together.ensures.born;
      reported = told.2;
    })

pub returns-in-Err-clause-ran : goal.returns-in-Err-clause-ran
returns-in-Err-clause-ran g c = λ units works to_do.
    let not_run = c.in-Err.not_run in
    let was = state_of g.D.Disk c.args.disk in
    let now = state_of g.D.Disk not_run.disk in
    inr (subst (λ (s : SchemaData). HasNotRun s c.args.form.now.names.now was now (g.O.Out.state c.args.out.now) (g.O.Out.state c.refused-report.new.out) c.refused-report.result) (sym c.requires.schema) (record {
      refusal = not_run.refusal;
      cause = c.in-Err.ensures.refused;
      kept = c.in-Err.ensures.kept;
      others = c.in-Err.ensures.others;
      reported = c.refused-report.ensures;
    }))
