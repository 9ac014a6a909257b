-- What a bank comes to that nothing prevents.
use Rattle.std.proofs.Common.{◌≡◌, ◌∙◌, ◌+◌, ℕ, List, [], ◌∷◌, None, ap, inl, inr, refl, subst, sym}
use Rattle.storage.specs.faults.Faults.{Rose}
use Rattle.command_arguments.specs.CommandLine.{Bank, IsBank, bank_arguments, number_of}
use Rattle.command_arguments.specs.declared.parts.Mode.TheVariants.{Quiet}
use Rattle.host_io.specs.Files.{FileState}
use Rattle.host_io.specs.Out.{OutState}
use Rattle.schema_reader.proofs.ObservableSound.{files-sound}
use Rattle.schema_text.proofs.HeldLemmas.Held.{files-held}
use Rattle.schema_reader.specs.Rules.{violation_of}
use Rattle.abl_values.specs.Schema.{SchemaData}
use Rattle.bank_run.specs.declared.inputs.sources.TheConstants.{BANK_SCHEMA}
use Rattle.bank_run.specs.Result.{BankResult, BankPrevented, BankNotRun, BankRan, PreventsBank, schema_breaks, source_breaks, bank_wants, bank_schema}
use Rattle.bank_run.specs.Texts.{bank_names, bank_texts}
use Rattle.bound_tree.specs.Tree.{Source as Tree}
use Rattle.run_report.specs.declared.ending.Report.{Report}
use Rattle.run_report.specs.declared.refusal.Refusal.{Refusal}
use Rattle.run_report.specs.declared.refusal.Refusal.TheVariants.{NoMemory}
use Rattle.run_report.specs.Ending.{has_closed, status_after}
use Rattle.run_report.specs.Report.{status_of}
use Rattle.run_works.specs.declared.outcome.Outcome.{Outcome}
use Rattle.run_works.specs.Disks.{DiskState}
use Rattle.source_files.specs.declared.files.ClientTexts.{ClientTexts}
use Rattle.source_files.specs.Compiled.{OneSourceBreaks, breaks_rule, later_source, source_wants, this_source}
use Rattle.abl_cli.specs.Command.{AreTrees, CommandResult, Refused, NotRun, Ran, Checked, Banked, Created, Dumped, wrong_argument, prevented, check_prevented, create_prevented, dump_prevented, bank_of}
use Rattle.abl_cli.specs.Undisturbed.{HasDatabase, RunEnd, memory_was_out}
use Rattle.abl_cli.proofs.Databases.{not_opened_by}
use Rattle.abl_cli.proofs.FileCauses.{no_violation}
use Rattle.abl_cli.proofs.Judged.{rose_in_report, wrong_or_formed}
use Rattle.abl_cli.proofs.Marks.{check_or_bank, create_or_bank, dump_or_bank, run_or_bank}
use Rattle.abl_cli.proofs.Prevented.{done_ends}
use Rattle.abl_cli.proofs.SourceTexts.{no_break}

-- sources that denote trees break no rule
no_source_breaks : (schema : SchemaData) (n : ℕ) (ts : List ClientTexts) (trees : List Tree) {refusal : Refusal} → AreTrees schema ts trees → OneSourceBreaks schema n ts refusal → refusal ≡ NoMemory
no_source_breaks schema n [] trees denote h = elim h [ ]
no_source_breaks schema n (t ∷ ts) [] denote h = absurd denote
no_source_breaks schema n (t ∷ ts) (tree ∷ trees) denote (this_source (breaks_rule at found)) = absurd (no_break schema t.source denote.0 found)
no_source_breaks schema n (t ∷ ts) (tree ∷ trees) denote (this_source source_wants) = refl
no_source_breaks schema n (t ∷ ts) (tree ∷ trees) denote (later_source found is h) = no_source_breaks schema (n + 1) ts trees denote.1 h

one_bank : (a b : Bank) → bank_arguments a ≡ bank_arguments b → a ≡ b
one_bank a b same =
    let s : a.start ≡ b.start = cc same in
    let c : a.clients ≡ b.clients = cc same in
    let n : a.accounts ≡ b.accounts = cc same in
    let t : a.transfers ≡ b.transfers = cc same in
    λ i. record { start = s i; clients = c i; accounts = n i; transfers = t i }

module _ {D : Type 0} (seen : D → DiskState) (disk : D) (arguments : List (List ℕ)) (files : FileState) (faults : ℕ) (old new : OutState) (result : Outcome D) (bank : Bank) (is_bank : IsBank bank) (are : arguments ≡ bank_arguments bank)
    (clean : violation_of BANK_SCHEMA.now ≡ None) (trees : List Tree) (denote : AreTrees bank_schema (bank_texts (bank_of bank)) trees) (has : HasDatabase bank_schema (seen disk)) (there : (seen disk).left (seen disk).time (seen disk).seen) (fine : Rose (seen disk).failures (seen result.disk).failures → ⊥)
    (quiet : Rose old.faults new.faults → ⊥) where
  abbrev report : Report
  report = result.report

  only_memory : (refusal : Refusal) → PreventsBank (bank_of bank) refusal → refusal ≡ NoMemory
  only_memory refusal (schema_breaks h) = no_violation clean h
  only_memory refusal (source_breaks h) = no_source_breaks bank_schema 0 (bank_texts (bank_of bank)) trees denote h
  only_memory refusal bank_wants = refl

  by_result : BankResult (bank_of bank) seen disk old new result → RunEnd report
  by_result (BankPrevented refusal prevents same_disk is) = memory_was_out (is.status ∙ ap status_of (only_memory refusal prevents))
  by_result (BankNotRun not_run) = memory_was_out (not_run.reported.status ∙ ap status_of (not_opened_by bank_schema (files-sound BANK_SCHEMA.now clean) (files-held BANK_SCHEMA.now clean) (seen disk) has there (seen result.disk) not_run.refusal fine not_run.cause))
  by_result (BankRan works are_works ran) =
      let r = ran.reported in
      done_ends report (has_closed report.trace) r.whole ran.ends refl
      (λ broken. quiet (rose_in_report seen disk arguments files faults old new result Quiet bank_schema (bank_names (number_of bank.clients)) ran.ends ran.parts r broken)) (r.status ∙ ap status_after r.refusal)

  pub bank_ends : CommandResult seen disk arguments files faults old new result → RunEnd report
  bank_ends (Refused given refusal (wrong_argument wrong) same_disk is) = absurd (wrong_or_formed arguments _ wrong (inr (inr (inl (bank, (is_bank, are))))))
  bank_ends (Refused given refusal (prevented run is_run named prevents) same_disk is) = absurd (run_or_bank arguments run bank named are)
  bank_ends (Refused given refusal (check_prevented check is_check named prevents) same_disk is) = absurd (check_or_bank arguments check bank named are)
  bank_ends (Refused given refusal (create_prevented create is_create named prevents) same_disk is) = absurd (create_or_bank arguments create bank named are)
  bank_ends (Refused given refusal (dump_prevented dump is_dump named prevents) same_disk is) = absurd (dump_or_bank arguments dump bank named are)
  bank_ends (NotRun run is_run named texts fresh works are_works not_run) = absurd (run_or_bank arguments run bank named are)
  bank_ends (Ran run is_run named texts fresh works are_works ran) = absurd (run_or_bank arguments run bank named are)
  bank_ends (Checked check is_check named listings listed same_disk told) = absurd (check_or_bank arguments check bank named are)
  bank_ends (Banked other is_other named did) = by_result (subst (λ (b : Bank). BankResult (bank_of b) seen disk old new result) (one_bank other bank (sym named ∙ are)) did)
  bank_ends (Created create is_create named schema is did) = absurd (create_or_bank arguments create bank named are)
  bank_ends (Dumped dump is_dump named schema table is did) = absurd (dump_or_bank arguments dump bank named are)
