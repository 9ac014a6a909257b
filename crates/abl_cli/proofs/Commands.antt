-- The result of a run, from what was read, begun and executed.
use Rattle.std.proofs.Common.{◌≡◌, ◌⊎◌, inl, inr, ℕ, List, [], subst}
use Rattle.host_io.specs.Files.{FileState}
use Rattle.host_io.specs.Out.{OutState}
use Rattle.abl_values.specs.Schema.{SchemaData}
use Rattle.client_core.specs.ClientView.{ClientView}
use Rattle.command_arguments.specs.CommandLine.{Names, NamesCheck, ClientFiles, check_of, number_of}
use Rattle.command_arguments.specs.declared.check.CheckArguments.{CheckArguments}
use Rattle.command_arguments.specs.declared.run.RunArguments.{RunArguments}
use Rattle.command_arguments.specs.declared.parts.Mode.{Mode}
use Rattle.run_report.specs.declared.ending.Report.{Report}
use Rattle.run_report.specs.declared.refusal.Refusal.{Refusal}
use Rattle.run_report.specs.declared.refusal.Refusal.TheVariants.{NoMemory}
use Rattle.run_report.specs.Ending.{IsRefused}
use Rattle.source_files.specs.Compiled.{schema_in}
use Rattle.client_threads.specs.served.Works.{Work}
use Rattle.client_threads.specs.served.Served.{AreToDo}
use Rattle.run_works.specs.declared.outcome.Outcome.{Outcome}
use Rattle.run_works.specs.Disks.{DiskState}
use Rattle.run_works.specs.Works.{HasNotRun, HasRun}
use Rattle.abl_cli.specs.Command.{CommandResult, Refused, NotRun, Ran, Checked, Prevents, prevented, check_prevented, run_wants, client_names}
use Rattle.abl_cli.specs.Inside.{CheckResult, HasListed, HasNotListed, IsReady}

-- a refusal for out of memory is the same for any client names
pub nameless : (names : List (List ℕ)) (old new : OutState) (report : Report) → IsRefused [] NoMemory old new report → IsRefused names NoMemory old new report
nameless names old new report is = record { refusal = is.refusal; status = is.status; trace = is.trace; ends = is.ends; lines = is.lines }

module _ {D : Type 0} (seen : D → DiskState) (disk : D) (arguments : List (List ℕ)) (files : FileState) (faults : ℕ) (old new : OutState) (result : Outcome D) (read : RunArguments) (named : Names arguments read) where
  -- out of memory before the names of the clients are known
  pub run_lacks_memory : result.disk ≡ disk → IsRefused [] NoMemory old new result.report → CommandResult seen disk arguments files faults old new result
  run_lacks_memory same is = Refused (client_names named.run) NoMemory (prevented named.run named.is_run named.arguments_are run_wants) same (nameless (client_names named.run) old new result.report is)

  module _ (schema : List ℕ) (clients : List ClientFiles) (names : List (List ℕ)) (is_schema : schema ≡ named.run.schema) (are_clients : clients ≡ named.run.clients) (are_names : names ≡ client_names named.run) where
    pub run_refused : (refusal : Refusal) → Prevents files faults schema clients refusal → result.disk ≡ disk → IsRefused names refusal old new result.report → CommandResult seen disk arguments files faults old new result
    run_refused refusal prevents same is =
        Refused (client_names named.run) refusal
        (prevented named.run named.is_run named.arguments_are
        (subst (λ (s : List ℕ). Prevents files faults s named.run.clients refusal) is_schema (subst (λ (cs : List ClientFiles). Prevents files faults schema cs refusal) are_clients prevents)))
        same (subst (λ (ns : List (List ℕ)). IsRefused ns refusal old new result.report) are_names is)

    pub run_executed : (units : ℕ) (mode : Mode) (denoted : SchemaData) (begun : List ClientView) → units ≡ number_of named.run.steps → mode ≡ named.run.mode → IsReady files schema clients units denoted begun →
        ((n : ℕ) (works : List Work) → AreToDo n works begun → HasRun mode denoted names n works (seen disk) (seen result.disk) old new result.report ⊎ HasNotRun denoted names (seen disk) (seen result.disk) old new result.report) →
        CommandResult seen disk arguments files faults old new result
    run_executed units mode denoted begun are_units is_mode was_ready ensured = by_case (ensured units ready.works ready.to_do)
      where
        ready : IsReady files named.run.schema named.run.clients units denoted begun
        ready = subst (λ (s : List ℕ). IsReady files s named.run.clients units denoted begun) is_schema (subst (λ (cs : List ClientFiles). IsReady files schema cs units denoted begun) are_clients was_ready)

        by_case : HasRun mode denoted names units ready.works (seen disk) (seen result.disk) old new result.report ⊎ HasNotRun denoted names (seen disk) (seen result.disk) old new result.report → CommandResult seen disk arguments files faults old new result
        by_case (inl ran) =
            Ran named.run named.is_run named.arguments_are ready.texts ready.clean ready.works ready.are
            (subst (λ (m : Mode). HasRun m (schema_in ready.texts.df) (client_names named.run) (number_of named.run.steps) ready.works (seen disk) (seen result.disk) old new result.report) is_mode
            (subst (λ (s : SchemaData). HasRun mode s (client_names named.run) (number_of named.run.steps) ready.works (seen disk) (seen result.disk) old new result.report) ready.schema_is
            (subst (λ (ns : List (List ℕ)). HasRun mode denoted ns (number_of named.run.steps) ready.works (seen disk) (seen result.disk) old new result.report) are_names
            (subst (λ (n : ℕ). HasRun mode denoted names n ready.works (seen disk) (seen result.disk) old new result.report) are_units ran))))
        by_case (inr not_run) =
            NotRun named.run named.is_run named.arguments_are ready.texts ready.clean ready.works ready.are
            (subst (λ (s : SchemaData). HasNotRun s (client_names named.run) (seen disk) (seen result.disk) old new result.report) ready.schema_is
            (subst (λ (ns : List (List ℕ)). HasNotRun denoted ns (seen disk) (seen result.disk) old new result.report) are_names not_run))

-- a check that was done is what the arguments name
pub checked_by : {D : Type 0} (seen : D → DiskState) (disk : D) (arguments : List (List ℕ)) (files : FileState) (faults : ℕ) (old new : OutState) (result : Outcome D) (read : CheckArguments) → NamesCheck arguments read → result.disk ≡ disk →
    CheckResult (check_of read) files faults old new result.report → CommandResult seen disk arguments files faults old new result
checked_by seen disk arguments files faults old new result read named same (HasListed listings listed told) = Checked (check_of read) named.is_check named.arguments_are listings listed same told
checked_by seen disk arguments files faults old new result read named same (HasNotListed refusal prevents is) = Refused (check_of read).programs refusal (check_prevented (check_of read) named.is_check named.arguments_are prevents) same is
