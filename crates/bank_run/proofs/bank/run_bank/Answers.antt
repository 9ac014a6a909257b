-- A bank is refused by what prevents it; else its clients run, or the database is not opened.
use Rattle.std.proofs.Common.{◌≡◌, ◌⊎◌, ⊎_elim, List, ℕ, refl, ◌∙◌, subst}
use Rattle.abl_values.specs.Schema.{SchemaData}
use Rattle.command_arguments.specs.declared.parts.Mode.TheVariants.{Quiet}
use Rattle.run_report.specs.declared.refusal.Refusal.TheVariants.{NoMemory}
use Rattle.run_report.specs.Ending.{IsRefused}
use Rattle.run_works.specs.Disks.{state_of}
use Rattle.run_works.specs.Works.{HasNotRun}
use Rattle.bank_run.specs.declared.bank.TheConstants.{BANK_UNITS}
use Rattle.bank_run.specs.Phases.{HasRunPhases}
use Rattle.bank_run.specs.Result.{BankNotRun, BankPrevented, BankRan, BankResult, bank_wants}
use Rattle.bank_run.specs.Texts.{bank_names}
use Rattle.bank_run.proofs.Outcomes.{nameless}
use Rattle.bank_run.proofs.bank.run_bank.Goals as goal

pub returns-in_default-clause-did : goal.returns-in_default-clause-did
returns-in_default-clause-did g c = BankPrevented NoMemory bank_wants refl (nameless (bank_names c.args.bank.clients) _ _ _ c.refused-report.ensures)

pub returns-in-Err-clause-did : goal.returns-in-Err-clause-did
returns-in-Err-clause-did g c =
    BankPrevented c.in-Err.refusal c.in-Err.ensures.prevented refl
    (subst (λ (names : List (List ℕ)). IsRefused names c.in-Err.refusal (g.O.Out.state c.args.out.now) (g.O.Out.state c.refused-report-in-Err.new.out) c.refused-report-in-Err.result) (c.deref.ensures.value ∙ c.in-Ok.ensures) c.refused-report-in-Err.ensures)

pub returns-clause-did : goal.returns-clause-did
returns-clause-did g c =
    let ready = c.in-Ok-load.ensures.ready in
    let names_are : c.deref-in-Ok-load.result.now ≡ bank_names c.args.bank.clients = c.deref-in-Ok-load.ensures.value ∙ c.in-Ok.ensures in
    let was = state_of g.D.Disk c.args.disk in
    let now = state_of g.D.Disk c.execute.result.disk in
    let old = g.O.Out.state c.args.out.now in
    let new = g.O.Out.state c.execute.new.out in
    let report = c.execute.result.report in
    let schema = c.in-Ok-load.loaded.schema in
    let clients = c.args.bank.clients in
    let by_case : HasRunPhases Quiet schema c.deref-in-Ok-load.result.now BANK_UNITS clients ready.works was now old new report ⊎ HasNotRun schema c.deref-in-Ok-load.result.now was now old new report → BankResult c.args.bank (state_of g.D.Disk) c.args.disk old new c.execute.result =
    ⊎_elim
    (λ (ran : HasRunPhases Quiet schema c.deref-in-Ok-load.result.now BANK_UNITS clients ready.works was now old new report).
    BankRan ready.works ready.are
    (subst (λ (s : SchemaData). HasRunPhases Quiet s (bank_names clients) BANK_UNITS clients ready.works was now old new report) ready.schema_is
    (subst (λ (names : List (List ℕ)). HasRunPhases Quiet schema names BANK_UNITS clients ready.works was now old new report) names_are ran)))
    (λ (not_run : HasNotRun schema c.deref-in-Ok-load.result.now was now old new report).
    BankNotRun
    (subst (λ (s : SchemaData). HasNotRun s (bank_names clients) was now old new report) ready.schema_is
    (subst (λ (names : List (List ℕ)). HasNotRun schema names was now old new report) names_are not_run)))
    in
    by_case (c.execute.ensures.ran BANK_UNITS clients ready.works c.in-Ok-load.ensures.many ready.to_do)
