-- The clients have run in three phases, and their report is written; or the run did not begin.
use Rattle.std.proofs.Common.{◌≡◌, ◌+◌, inl, inr, ℕ, List, sym, subst, arith, rules, length}
use Rattle.std.specs.Prelude.{map}
use Rattle.database_protocol.specs.declared.event.Event.{Event}
use Rattle.database_protocol.specs.declared.ends.ClientEnd.{ClientEnd}
use Rattle.abl_values.specs.Schema.{SchemaData}
use Rattle.client_threads.specs.clients.Phases.{AreThreePhases}
use Rattle.client_threads.specs.declared.served.clients.EndedClient.{EndedClient}
use Rattle.client_threads.specs.served.Served.{end_or_none}
use Rattle.run_works.specs.Disks.{IsDurable, ReadsAsDatabase, state_of}
use Rattle.run_works.specs.Works.{HasNotRun}
use Rattle.run_works.proofs.Runs.{as_many_ended_or_not}
use Rattle.database_meaning.specs.Setting.{Setting}
use Rattle.bank_run.specs.Phases.{DidInPhases}
use Rattle.bank_run.specs.Result.{bank_schema}
use Rattle.bank_run.proofs.Outcomes.{did_in_phases}
use Rattle.bank_run.proofs.bank.execute.Goals as goal

pub report-report-requires-clause-room : goal.report-report-requires-clause-room
report-report-requires-clause-room g c =
    let many : length c.in-Ok.ran.clients.items ≡ length c.args.clients.items = as_many_ended_or_not (record { schema = bank_schema; clients = length c.args.clients.items }) c.in-Ok.ran.trace 0 c.args.clients.items c.in-Ok.ran.clients.items c.in-Ok.ensures.ended in
    search (rules, many)

pub report-report-requires-clause-few : goal.report-report-requires-clause-few
report-report-requires-clause-few g c =
    let many : length c.in-Ok.ran.clients.items ≡ length c.args.clients.items = as_many_ended_or_not (record { schema = bank_schema; clients = length c.args.clients.items }) c.in-Ok.ran.trace 0 c.args.clients.items c.in-Ok.ran.clients.items c.in-Ok.ensures.ended in
    omega (arith, many, c.requires.few)

pub returns-in-Ok-clause-ran : goal.returns-in-Ok-clause-ran
returns-in-Ok-clause-ran g c = λ units between works many to_do.
    let ran = c.in-Ok.ran in
    let told = c.report-report.ensures.reported in
    let ends : List ClientEnd = map (λ (ended : EndedClient). end_or_none ended.end) ran.clients.items in
    let is = c.report-report.ensures.trace in
    let was = state_of g.D.Disk c.args.disk in
    let now = state_of g.D.Disk ran.disk in
    let opened : Setting = record { schema = bank_schema; clients = length c.args.clients.items } in
    inl (record {
      ends = ends;
      parts = told.0;
      did = subst (λ (events : List Event). DidInPhases (record { schema = c.args.form.now.schema.now; clients = between + 2 }) units events 0 works ends told.0) (sym is)
          (subst (λ (n : ℕ). DidInPhases (record { schema = c.args.form.now.schema.now; clients = n }) units ran.trace 0 works ends told.0) many
          (subst (λ (s : SchemaData). DidInPhases (record { schema = s; clients = length c.args.clients.items }) units ran.trace 0 works ends told.0) (sym c.requires.schema)
          (did_in_phases opened ran.trace units 0 works c.args.clients.items ran.clients.items told.0 to_do c.in-Ok.ensures.ended told.1)));
      phases = subst (λ (events : List Event). AreThreePhases between events) (sym is) (c.in-Ok.ensures.phases between many);
      durable = subst (λ (events : List Event). IsDurable (record { schema = c.args.form.now.schema.now; clients = between + 2 }) events was now) (sym is)
          (subst (λ (n : ℕ). IsDurable (record { schema = c.args.form.now.schema.now; clients = n }) ran.trace was now) many
          (subst (λ (s : SchemaData). IsDurable (record { schema = s; clients = length c.args.clients.items }) ran.trace was now) (sym c.requires.schema) c.in-Ok.ensures.durable));
      born = subst (λ (s : SchemaData). ReadsAsDatabase was s) (sym c.requires.schema) c.in-Ok.ensures.born;
      reported = told.2;
    })

pub returns-in-Err-clause-ran : goal.returns-in-Err-clause-ran
returns-in-Err-clause-ran g c = λ units between works many to_do.
    let was = state_of g.D.Disk c.args.disk in
    let now = state_of g.D.Disk c.in-Err.not_run.disk in
    inr (subst (λ (s : SchemaData). HasNotRun s c.args.form.now.names.now was now (g.O.Out.state c.args.out.now) (g.O.Out.state c.refused-report.new.out) c.refused-report.result) (sym c.requires.schema) (record {
      refusal = c.in-Err.not_run.refusal;
      cause = c.in-Err.ensures.refused;
      kept = c.in-Err.ensures.kept;
      others = c.in-Err.ensures.others;
      reported = c.refused-report.ensures;
    }))
