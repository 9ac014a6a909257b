-- The clients of a run are refused nothing.
use Rattle.std.proofs.Common.{◌≡◌, ◌≢◌, refl, sym, subst, ℕ, List, [], ◌∷◌, length}
use Rattle.std.specs.Prelude.{map}
use Rattle.std.proofs.lemmas.List.Elements.{All-nil}
use Rattle.command_arguments.specs.CommandLine.{Run, arguments_of, number_of}
use Rattle.host_io.specs.Files.{FileState}
use Rattle.host_io.specs.Out.{OutState}
use Rattle.abl_values.specs.Schema.{SchemaData}
use Rattle.database_protocol.specs.declared.answer.Answer.TheVariants as answer
use Rattle.database_protocol.specs.declared.event.Event.{Event}
use Rattle.run_report.specs.declared.ending.Report.{Report}
use Rattle.source_files.specs.Compiled.{schema_in}
use Rattle.source_files.specs.declared.files.ClientTexts.{ClientTexts}
use Rattle.source_files.specs.Expansions.{expanded}
use Rattle.client_threads.specs.served.Works.{Work}
use Rattle.run_works.specs.declared.outcome.Outcome.{Outcome}
use Rattle.run_works.specs.Disks.{DiskState}
use Rattle.command_laws.specs.refusals.Unrefused.{NoneRefused}
use Rattle.command_laws.specs.refusals.Works.{AreOfTexts}
use Rattle.command_laws.proofs.RefusalsLemmas.Works.{works_unrefused}
use Rattle.abl_cli.specs.Command.{AreWorks, Banked, Checked, CommandResult, Created, Dumped, NotRun, Ran, Refused}
use Rattle.abl_cli.specs.Stored.{CreateResult, Made, NotMade}
use Rattle.abl_cli.proofs.Marks.{run_or_bank}

-- nothing has happened
nothing : (trace : List Event) → trace ≡ [] → NoneRefused trace
nothing trace none = subst NoneRefused (sym none) (All-nil (λ (e : Event). e.answer ≢ answer.Refused))

-- the works are of the expansions of their sources
of_texts : (files : FileState) (schema : SchemaData) (texts : List ClientTexts) (works : List Work) → AreWorks files schema texts works → AreOfTexts schema (map (λ (t : ClientTexts). expanded t.source) texts) works
of_texts files schema [] [] are = tt
of_texts files schema [] (w ∷ ws) are = absurd are
of_texts files schema (t ∷ ts) [] are = absurd are
of_texts files schema (t ∷ ts) (w ∷ ws) are = ((are.0.0.denotes, are.0.1.0), of_texts files schema ts ws are.1)

-- a creation has no clients
created : (schema : SchemaData) (was now : DiskState) (old new : OutState) (report : Report) → CreateResult schema was now old new report → report.trace ≡ []
created schema was now old new report (Made creates made silent) = silent.trace
created schema was now old new report (NotMade creates not_made refused) = refused.trace

pub run_unrefused : {D : Type 0} (seen : D → DiskState) (disk : D) (arguments : List (List ℕ)) (files : FileState) (faults : ℕ) (old new : OutState) (outcome : Outcome D) (run : Run) →
    CommandResult seen disk arguments files faults old new outcome → arguments ≡ arguments_of run → NoneRefused outcome.report.trace
run_unrefused seen disk arguments files faults old new outcome run (Refused names refusal cause same refused) is = nothing outcome.report.trace refused.trace
run_unrefused seen disk arguments files faults old new outcome run (NotRun named form args texts clean works are not_run) is = nothing outcome.report.trace not_run.reported.trace
run_unrefused seen disk arguments files faults old new outcome run (Ran named form args texts clean works are ran) is =
    works_unrefused texts.df (record { schema = schema_in texts.df; clients = length works }) (record { clean = clean; is = refl }) (number_of named.steps) outcome.report.trace (map (λ (t : ClientTexts). expanded t.source) texts.texts) works ran.ends ran.parts
    (of_texts files (schema_in texts.df) texts.texts works are) ran.did ran.clients
run_unrefused seen disk arguments files faults old new outcome run (Checked check form args listings listed same checked) is = nothing outcome.report.trace checked.trace
run_unrefused seen disk arguments files faults old new outcome run (Banked bank form args result) is = absurd (run_or_bank arguments run bank is args)
run_unrefused seen disk arguments files faults old new outcome run (Created create form args schema has result) is = nothing outcome.report.trace (created schema (seen disk) (seen outcome.disk) old new outcome.report result)
run_unrefused seen disk arguments files faults old new outcome run (Dumped dump form args schema table has result) is = nothing outcome.report.trace result.trace
