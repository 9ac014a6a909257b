-- The first cause that prevents a run is its refusal, and without one the clients run.
use Rattle.std.proofs.Common.{◌≡◌, inl, inr, ◌+◌, ◌<◌, ℕ, Bool, true, false, if◌then◌else◌, List, [], ◌∷◌, ◌++◌, Option, Some, None, refl, sym, ap, ◌∙◌, subst, arith, length, get_or}
use Rattle.std.specs.Prelude.{IsTrue, map}
use Rattle.storage.specs.faults.Faults.{Rose}
use Rattle.abl_base.specs.declared.rule.Rule.{Rule}
use Rattle.preprocessor.specs.declared.expanded.Origin.{Origin}
use Rattle.preprocessor.specs.declared.texts.NamedText.{NamedText}
use Rattle.host_io.specs.Files.{FileState}
use Rattle.host_io.specs.Out.{OutState}
use Rattle.schema_reader.specs.Rules.{violation_of}
use Rattle.abl_values.specs.Schema.{SchemaData}
use Rattle.bound_tree.specs.Tree.{Source as Tree}
use Rattle.database_protocol.specs.declared.ends.ClientEnd.{ClientEnd}
use Rattle.command_arguments.specs.CommandLine.{Run, ClientFiles, arguments_of, client_argument, mode_argument, IsRun}
use Rattle.command_arguments.specs.declared.parts.Mode.{Mode}
use Rattle.command_arguments.specs.declared.parts.Mode.TheVariants.{Trace, Quiet}
use Rattle.command_arguments.proofs.Clients.{same_clients}
use Rattle.abl_cli.proofs.Marks.{run_or_bank, run_or_check, run_or_create, run_or_dump}
use Rattle.run_report.specs.declared.refusal.Refusal.{Refusal}
use Rattle.run_report.specs.declared.refusal.Refusal.TheVariants.{File, TooLong, Schema, Source, NoMemory}
use Rattle.run_report.specs.declared.ending.Report.{Report}
use Rattle.source_files.specs.declared.files.TheConstants.{MAX_FILE_BYTES}
use Rattle.source_files.specs.declared.files.ClientTexts.{ClientTexts}
use Rattle.source_files.specs.Compiled.{BreaksFirst, IsSourceTree, schema_in, breaks_rule, source_wants, OneSourceBreaks, this_source, later_source}
use Rattle.source_files.specs.Expansions.{file_of}
use Rattle.source_files.specs.Files.{AskedIsNotRead, HaveTexts, HaveClients, IsNotRead, OneIsNotRead}
use Rattle.abl_cli.specs.Command.{AreTrees, AsksRun, Texts, Prevents, no_file, schema_breaks, source_breaks, no_named_input, run_wants, AreWorks, named_inputs, client_names, wrong_argument, prevented, check_prevented, create_prevented, dump_prevented, CommandResult, Refused, NotRun, Ran, Checked, Banked, Created, Dumped, IsRefusal, AreThere, ClientsThere, AllThere, AreSources, NamesRun}
use Rattle.abl_cli.specs.Undisturbed.{RunEnd, IsDone, all_well, a_client_failed, memory_was_out, disk_failed, ended, not_opened}
use Rattle.client_threads.specs.served.Works.{Work}
use Rattle.run_works.specs.declared.outcome.Outcome.{Outcome as Result}
use Rattle.run_works.specs.Disks.{DiskState}
use Rattle.run_works.specs.Works.{HasRun}
use Rattle.run_report.specs.Ending.{refusal_after, failure_refusal, first_failure, has_closed, one_lacks_memory, status_after}
use Rattle.source_files.proofs.Asked.{one_source}
use Rattle.abl_cli.proofs.Asked.{WasRead, clients_there, one_asked_run, run_read, there_read}
use Rattle.abl_cli.proofs.FileCauses.{asked_by, have_long, have_none, long_is, missing_is, no_text, no_violation, none_lacks, not_long, one_long, one_missing, same_text, same_violation, unread_read, wants}
use Rattle.abl_cli.proofs.SourceTexts.{no_break, one_break, one_refusal, one_tree}
use Rattle.abl_cli.proofs.Judged.{wrong_or_formed, rose_in_report}

-- ---- arguments name one run

one_mode : (a b : Mode) → mode_argument a ≡ mode_argument b → a ≡ b
one_mode Trace Trace e = refl
one_mode Trace Quiet e = let first : 116 ≡ 113 = ap (λ xs. get_or xs 0 0) e in absurd (omega (arith, first))
one_mode Quiet Trace e = let first : 113 ≡ 116 = ap (λ xs. get_or xs 0 0) e in absurd (omega (arith, first))
one_mode Quiet Quiet e = refl

same_run : (a b : Run) → a.schema ≡ b.schema → a.steps ≡ b.steps → a.mode ≡ b.mode → a.clients ≡ b.clients → a ≡ b
same_run a b f s m n = λ i. record { schema = f i; steps = s i; mode = m i; clients = n i }

one_run : (a b : Run) → IsRun a → IsRun b → arguments_of a ≡ arguments_of b → a ≡ b
one_run a b is_a is_b same =
    let schema : a.schema ≡ b.schema = cc same in
    let steps : a.steps ≡ b.steps = cc same in
    let mode : mode_argument a.mode ≡ mode_argument b.mode = cc same in
    let clients : map client_argument a.clients ≡ map client_argument b.clients = cc same in
    same_run a b schema steps (one_mode a.mode b.mode mode) (same_clients a.clients b.clients is_a.clients is_b.clients clients)

-- ---- how a run without faults ends

module _ (report : Report) where
  done_by : (lacks : Bool) (first : Option ℕ) (whole : Bool) → (whole ≡ false → ⊥) → report.status ≡ status_after (if lacks then Some NoMemory else failure_refusal first whole) → RunEnd report
  done_by true first whole unbroken is = memory_was_out is
  done_by false None true unbroken is = all_well is
  done_by false None false unbroken is = absurd (unbroken refl)
  done_by false (Some n) whole unbroken is = a_client_failed is

  pub done_ends : (closed whole : Bool) (ends : List ClientEnd) → has_closed report.trace ≡ closed → (whole ≡ false → ⊥) → report.status ≡ status_after (refusal_after closed ends whole) → RunEnd report
  done_ends true whole ends closed unbroken is = disk_failed closed is
  done_ends false whole ends closed unbroken is = done_by (one_lacks_memory ends) (first_failure 0 ends) whole unbroken is

-- ---- the texts of the clients' files

have_both : (files : FileState) (xs ys ts us : List (List ℕ)) → HaveTexts files xs ts → HaveTexts files ys us → HaveTexts files (xs ++ ys) (ts ++ us)
have_both files [] ys [] us have more = more
have_both files [] ys (t ∷ ts) us have more = absurd have
have_both files (x ∷ xs) ys [] us have more = absurd have
have_both files (x ∷ xs) ys (t ∷ ts) us have more = (have.0, have_both files xs ys ts us have.1 more)

-- ---- the sources

-- the clients have these sources
abbrev SourcesAre : List ClientTexts → List (List NamedText) → Type 0
SourcesAre [] [] = Unit {0}
SourcesAre [] (s ∷ ss) = ⊥
SourcesAre (t ∷ ts) [] = ⊥
SourcesAre (t ∷ ts) (s ∷ ss) = (t.source ≡ s) × SourcesAre ts ss

sources_are : (files : FileState) → IsTrue files.observable → (cs : List ClientFiles) (ts : List ClientTexts) (ss : List (List NamedText)) → HaveClients files cs ts → ClientsThere files cs ss → SourcesAre ts ss
sources_are files observable [] [] [] have are = tt
sources_are files observable [] [] (s ∷ ss) have are = absurd are
sources_are files observable [] (t ∷ ts) ss have are = absurd have
sources_are files observable (c ∷ cs) [] ss have are = absurd have
sources_are files observable (c ∷ cs) (t ∷ ts) [] have are = absurd are
sources_are files observable (c ∷ cs) (t ∷ ts) (s ∷ ss) have are = (one_source files observable c.program t.source s have.0.0 are.0.0, sources_are files observable cs ts ss have.1 are.1)

module _ (schema : SchemaData) where
  -- the first source that breaks a rule is the one that is refused
  broken_at : (n : ℕ) (ts : List ClientTexts) (before : List (List NamedText)) (trees : List Tree) (after : List (List NamedText)) (texts : List NamedText) {rule : Rule} {at : Origin} {refusal : Refusal} → SourcesAre ts (before ++ texts ∷ after) → AreSources schema before trees →
      BreaksFirst schema texts rule at → OneSourceBreaks schema n ts refusal → IsRefusal (Some refusal) (Source (n + length before) (file_of texts at.text) rule at.place)
  broken_at n [] [] trees after texts same are first h = absurd same
  broken_at n [] (b ∷ bs) trees after texts same are first h = absurd same
  broken_at n (t ∷ ts) [] [] after texts {rule} {at} same are first (this_source (breaks_rule {rule = found_rule} found_at found)) =
      let one = one_break schema texts (subst (λ s. BreaksFirst schema s found_rule found_at) same.0 found) first in
      inl (ap (λ s. Some (Source n (file_of s found_at.text) found_rule found_at.place)) same.0 ∙ ap (λ r. Some r) (one_refusal n texts one) ∙ ap (λ k. Some (Source k (file_of texts at.text) rule at.place)) (omega arith))
  broken_at n (t ∷ ts) [] [] after texts same are first (this_source source_wants) = inr refl
  broken_at n (t ∷ ts) [] [] after texts same are first (later_source tree is h) = absurd (no_break schema texts (subst (λ s. IsSourceTree schema s tree) same.0 is) first)
  broken_at n (t ∷ ts) [] (tree ∷ trees) after texts same are first h = absurd are
  broken_at n (t ∷ ts) (b ∷ bs) [] after texts same are first h = absurd are
  broken_at n (t ∷ ts) (b ∷ bs) (tree ∷ trees) after texts same are first (this_source (breaks_rule {rule = found_rule} found_at found)) =
      absurd (no_break schema b are.0 (subst (λ s. BreaksFirst schema s found_rule found_at) same.0 found))
  broken_at n (t ∷ ts) (b ∷ bs) (tree ∷ trees) after texts same are first (this_source source_wants) = inr refl
  broken_at n (t ∷ ts) (b ∷ bs) (tree ∷ trees) after texts {rule} {at} {refusal} same are first (later_source found is h) =
      subst (λ k. IsRefusal (Some refusal) (Source k (file_of texts at.text) rule at.place)) (omega arith) (broken_at (n + 1) ts bs trees after texts same.1 are.1 first h)

  -- the sources are numbered from 0
  first_broken : (ts : List ClientTexts) (before : List (List NamedText)) (trees : List Tree) (after : List (List NamedText)) (texts : List NamedText) {rule : Rule} {at : Origin} {refusal : Refusal} → SourcesAre ts (before ++ texts ∷ after) → AreSources schema before trees →
      BreaksFirst schema texts rule at → OneSourceBreaks schema 0 ts refusal → IsRefusal (Some refusal) (Source (length before) (file_of texts at.text) rule at.place)
  first_broken ts before trees after texts {rule} {at} {refusal} same are first h =
      let numbered : 0 + length before ≡ length before = omega arith in
      subst (λ k. IsRefusal (Some refusal) (Source k (file_of texts at.text) rule at.place)) numbered (broken_at 0 ts before trees after texts same are first h)

  -- where each denotes a tree, none is refused
  none_breaks : (n : ℕ) (ts : List ClientTexts) (ss : List (List NamedText)) (trees : List Tree) {refusal : Refusal} → SourcesAre ts ss → AreSources schema ss trees → OneSourceBreaks schema n ts refusal → refusal ≡ NoMemory
  none_breaks n [] ss trees same are h = elim h [ ]
  none_breaks n (t ∷ ts) [] trees same are h = absurd same
  none_breaks n (t ∷ ts) (s ∷ ss) [] same are h = absurd are
  none_breaks n (t ∷ ts) (s ∷ ss) (tree ∷ trees) same are (this_source (breaks_rule {rule = found_rule} found_at found)) =
      absurd (no_break schema s are.0 (subst (λ x. BreaksFirst schema x found_rule found_at) same.0 found))
  none_breaks n (t ∷ ts) (s ∷ ss) (tree ∷ trees) same are (this_source source_wants) = refl
  none_breaks n (t ∷ ts) (s ∷ ss) (tree ∷ trees) same are (later_source found is h) = none_breaks (n + 1) ts ss trees same.1 are.1 h

  -- the trees are determined by the sources
  one_trees : (ts : List ClientTexts) (ss : List (List NamedText)) (trees others : List Tree) → SourcesAre ts ss → AreSources schema ss trees → AreTrees schema ts others → others ≡ trees
  one_trees [] [] [] [] same are others = refl
  one_trees [] [] [] (o ∷ os) same are others = absurd others
  one_trees [] [] (tree ∷ trees) os same are others = absurd are
  one_trees [] (s ∷ ss) trees os same are others = absurd same
  one_trees (t ∷ ts) [] trees os same are others = absurd same
  one_trees (t ∷ ts) (s ∷ ss) [] os same are others = absurd are
  one_trees (t ∷ ts) (s ∷ ss) (tree ∷ trees) [] same are others = absurd others
  one_trees (t ∷ ts) (s ∷ ss) (tree ∷ trees) (o ∷ os) same are others =
      let first : o ≡ tree = one_tree schema s (subst (λ x. IsSourceTree schema x o) same.0 others.0) are.0 in
      ap (λ x. x ∷ os) first ∙ ap (λ xs. tree ∷ xs) (one_trees ts ss trees os same.1 are.1 others.1)

  -- a source that breaks a rule is no work
  no_work : (files : FileState) (ts : List ClientTexts) (before after : List (List NamedText)) (texts : List NamedText) (works : List Work) {rule : Rule} {at : Origin} → SourcesAre ts (before ++ texts ∷ after) → BreaksFirst schema texts rule at → AreWorks files schema ts works → ⊥
  no_work files [] [] after texts works same first are = same
  no_work files [] (b ∷ bs) after texts works same first are = same
  no_work files (t ∷ ts) before after texts [] same first are = are
  no_work files (t ∷ ts) [] after texts (w ∷ ws) same first are = no_break schema texts (subst (λ s. IsSourceTree schema s w.tree) same.0 are.0.0) first
  no_work files (t ∷ ts) (b ∷ bs) after texts (w ∷ ws) same first are = no_work files ts bs after texts ws same.1 first are.1

-- the trees of the works, and the texts of their named inputs
pub record Worked (files : FileState) (schema : SchemaData) (ts : List ClientTexts) : Type 0 where
  pub trees : List Tree
  pub are : AreTrees schema ts trees
  pub texts : List (List ℕ)
  pub have : HaveTexts files (named_inputs trees) texts

worked : (files : FileState) (schema : SchemaData) (ts : List ClientTexts) (works : List Work) → AreWorks files schema ts works → Worked files schema ts
worked files schema [] [] are = record { trees = []; are = tt; texts = []; have = tt }
worked files schema [] (w ∷ ws) are = absurd are
worked files schema (t ∷ ts) [] are = absurd are
worked files schema (t ∷ ts) (w ∷ ws) are =
    let rest = worked files schema ts ws are.1 in
    record {
      trees = w.tree ∷ rest.trees;
      are = (are.0.0, rest.are);
      texts = w.inputs ++ rest.texts;
      have = have_both files w.tree.inputs (named_inputs rest.trees) w.inputs rest.texts are.0.1.1.1 rest.have;
    }

module _ {D : Type 0} (seen : D → DiskState) (disk : D) (arguments : List (List ℕ)) (files : FileState) (faults : ℕ) (old new : OutState) (result : Result D) (run : Run) (names : NamesRun arguments files run) where
  abbrev report : Report
  report = result.report

  -- the outcome of the run that the arguments name
  data Outcome : Type 0 where
    was_prevented : (refusal : Refusal) → report.refusal ≡ Some refusal → report.status ≡ status_after (Some refusal) → Prevents files faults run.schema run.clients refusal → Outcome
    had_run : (texts : Texts files run.schema run.clients) → violation_of texts.df ≡ None → (works : List Work) → AreWorks files (schema_in texts.df) texts.texts works →
        ((Rose old.faults new.faults → ⊥) → IsDone seen disk (schema_in texts.df) result) → Outcome

  done_well : (named : Run) (schema : SchemaData) (units : ℕ) (works : List Work) → HasRun named.mode schema (client_names named) units works (seen disk) (seen result.disk) old new report → (Rose old.faults new.faults → ⊥) → IsDone seen disk schema result
  done_well named schema units works ran quiet =
      let r = ran.reported in
      ended (done_ends report (has_closed report.trace) r.whole ran.ends refl (λ broken. quiet (rose_in_report seen disk arguments files faults old new result named.mode schema (client_names named) ran.ends ran.parts r broken)) (r.status ∙ ap status_after r.refusal))

  moved : (named : Run) → named ≡ run → (texts : Texts files named.schema named.clients) → violation_of texts.df ≡ None → (works : List Work) → AreWorks files (schema_in texts.df) texts.texts works →
      ((Rose old.faults new.faults → ⊥) → IsDone seen disk (schema_in texts.df) result) → Outcome
  moved named same =
      subst
      (λ (r : Run). (texts : Texts files r.schema r.clients) → violation_of texts.df ≡ None → (works : List Work) → AreWorks files (schema_in texts.df) texts.texts works →
      ((Rose old.faults new.faults → ⊥) → IsDone seen disk (schema_in texts.df) result) → Outcome)
      (sym same) had_run

  outcome : CommandResult seen disk arguments files faults old new result → Outcome
  outcome (Refused given refusal (wrong_argument wrong) same_disk is) = absurd (wrong_or_formed arguments _ wrong (inl (run, (names.is_run, names.arguments_are))))
  outcome (Refused given refusal (prevented other is_other are prevents) same_disk is) =
      was_prevented refusal is.refusal is.status
      (subst (λ (r : Run). Prevents files faults r.schema r.clients refusal) (one_run other run is_other names.is_run (sym are ∙ names.arguments_are)) prevents)
  outcome (Refused given refusal (check_prevented check is_check are prevents) same_disk is) = absurd (run_or_check arguments run check names.arguments_are are)
  outcome (Refused given refusal (create_prevented named is_create are prevents) same_disk is) = absurd (run_or_create arguments run named names.arguments_are are)
  outcome (Refused given refusal (dump_prevented named is_dump are prevents) same_disk is) = absurd (run_or_dump arguments run named names.arguments_are are)
  outcome (Checked check is_check are listings listed same_disk told) = absurd (run_or_check arguments run check names.arguments_are are)
  outcome (Banked bank is_bank are did) = absurd (run_or_bank arguments run bank names.arguments_are are)
  outcome (Created named is_create are schema has did) = absurd (run_or_create arguments run named names.arguments_are are)
  outcome (Dumped named is_dump are schema table has did) = absurd (run_or_dump arguments run named names.arguments_are are)
  outcome (NotRun named is_named are texts clean works worked not_run) =
      moved named (one_run named run is_named names.is_run (sym are ∙ names.arguments_are)) texts clean works worked (λ quiet. not_opened not_run.refusal not_run.reported.refusal not_run.reported.status not_run.cause)
  outcome (Ran named is_named are texts clean works worked ran) =
      moved named (one_run named run is_named names.is_run (sym are ∙ names.arguments_are)) texts clean works worked (done_well named (schema_in texts.df) _ works ran)

  refusal_by : {want : Refusal} → ((refusal : Refusal) → Prevents files faults run.schema run.clients refusal → IsRefusal (Some refusal) want) →
      ((texts : Texts files run.schema run.clients) → violation_of texts.df ≡ None → (works : List Work) → AreWorks files (schema_in texts.df) texts.texts works → ⊥) → Outcome → IsRefusal report.refusal want
  refusal_by {want} by none (was_prevented refusal given status prevents) = subst (λ r. IsRefusal r want) (sym given) (by refusal prevents)
  refusal_by by none (had_run texts clean works are well) = absurd (none texts clean works are)

  -- ---- a file that is not read

  module _ (name : List ℕ) (asks : AsksRun files run.schema run.clients name) where
    not_all : (WasRead files name → ⊥) → Texts files run.schema run.clients → ⊥
    not_all none texts = none (run_read files names.observable texts.df texts.texts texts.has_schema texts.have asks)

    file_by : {refusal want : Refusal} → (IsNotRead files faults name refusal → IsRefusal (Some refusal) want) → (WasRead files name → ⊥) → Prevents files faults run.schema run.clients refusal → IsRefusal (Some refusal) want
    file_by by none (no_file h) = asked_by files names.observable names.sound faults by h.unread (one_asked_run files names.observable names.sound (λ text has. none (text, has)) h.unread asks h.asks)
    file_by by none (schema_breaks texts h) = absurd (not_all none texts)
    file_by by none (source_breaks texts clean h) = absurd (not_all none texts)
    file_by by none (no_named_input texts clean trees denote h) = absurd (not_all none texts)
    file_by by none run_wants = inr refl

    file_is : {want : Refusal} → ((refusal : Refusal) → IsNotRead files faults name refusal → IsRefusal (Some refusal) want) → (WasRead files name → ⊥) → Outcome → IsRefusal report.refusal want
    file_is by none = refusal_by (λ refusal prevents. file_by (by refusal) none prevents) (λ texts clean works done. not_all none texts)

    pub no_file_is_reported : CommandResult seen disk arguments files faults old new result → files.file name ≡ None → IsRefusal report.refusal (File name)
    no_file_is_reported did none = file_is (λ refusal h. missing_is files names.observable names.sound faults none h) (λ read. no_text files names.observable names.sound read.1 none) (outcome did)

    pub long_file_is_reported : {text : List ℕ} → CommandResult seen disk arguments files faults old new result → files.file name ≡ Some text → MAX_FILE_BYTES < length text → IsRefusal report.refusal (TooLong name MAX_FILE_BYTES)
    long_file_is_reported did there long = file_is (λ refusal h. long_is files names.observable names.sound faults there h) (λ read. not_long files names.observable names.sound read.1 there long) (outcome did)

  -- ---- all files are read

  module _ (df : List ℕ) (sources : List (List NamedText)) (there : AllThere files run df sources) where
    same_df : (texts : Texts files run.schema run.clients) → texts.df ≡ df
    same_df texts = same_text files names.observable names.sound texts.has_schema there.schema.there

    schema_read : (texts : Texts files run.schema run.clients) → violation_of texts.df ≡ violation_of df
    schema_read texts = ap violation_of (same_df texts)

    its_sources : (texts : Texts files run.schema run.clients) → SourcesAre texts.texts sources
    its_sources texts = sources_are files names.observable run.clients texts.texts sources texts.have there.clients

    its_break : {refusal : Refusal} (texts : Texts files run.schema run.clients) → OneSourceBreaks (schema_in texts.df) 0 texts.texts refusal → OneSourceBreaks (schema_in df) 0 texts.texts refusal
    its_break {refusal} texts h = subst (λ d. OneSourceBreaks (schema_in d) 0 texts.texts refusal) (same_df texts) h

    its_trees : (texts : Texts files run.schema run.clients) (trees : List Tree) → AreTrees (schema_in texts.df) texts.texts trees → AreTrees (schema_in df) texts.texts trees
    its_trees texts trees h = subst (λ d. AreTrees (schema_in d) texts.texts trees) (same_df texts) h

    its_works : (texts : Texts files run.schema run.clients) (works : List Work) → AreWorks files (schema_in texts.df) texts.texts works → AreWorks files (schema_in df) texts.texts works
    its_works texts works h = subst (λ d. AreWorks files (schema_in d) texts.texts works) (same_df texts) h

    files_want : {refusal : Refusal} → AskedIsNotRead files faults (AsksRun files run.schema run.clients) refusal → refusal ≡ NoMemory
    files_want h =
        let texts = clients_there files run.clients sources there.clients in
        unread_read files names.observable names.sound faults (run_read files names.observable df texts.0 (there_read there.schema) texts.1 h.asks) h.unread

    schema_by : {refusal : Refusal} {rule : Rule} {line : ℕ} → violation_of df ≡ Some (record { rule = rule; line = line }) → Prevents files faults run.schema run.clients refusal → IsRefusal (Some refusal) (Schema rule line)
    schema_by broken (no_file h) = wants (files_want h)
    schema_by broken (schema_breaks texts h) = same_violation texts.df df broken (schema_read texts) h
    schema_by broken (source_breaks texts clean h) = let both = sym (schema_read texts ∙ broken) ∙ clean in absurd (cc both)
    schema_by broken (no_named_input texts clean trees are h) = let both = sym (schema_read texts ∙ broken) ∙ clean in absurd (cc both)
    schema_by broken run_wants = inr refl

    pub broken_schema_is_reported : {rule : Rule} {line : ℕ} → CommandResult seen disk arguments files faults old new result → violation_of df ≡ Some (record { rule = rule; line = line }) → IsRefusal report.refusal (Schema rule line)
    broken_schema_is_reported did broken =
        refusal_by (λ refusal prevents. schema_by broken prevents) (λ texts clean works are. let both = sym (schema_read texts ∙ broken) ∙ clean in cc both) (outcome did)

    module _ (clean : violation_of df ≡ None) where
      -- ---- a source that breaks a rule

      module _ (before : List (List NamedText)) (trees : List Tree) (after : List (List NamedText)) (texts : List NamedText) (split : sources ≡ before ++ texts ∷ after) (are : AreSources (schema_in df) before trees) {rule : Rule} {at : Origin} (first : BreaksFirst (schema_in df) texts rule at) where
        split_sources : (read : Texts files run.schema run.clients) → SourcesAre read.texts (before ++ texts ∷ after)
        split_sources read = subst (SourcesAre read.texts) split (its_sources read)

        no_works : (read : Texts files run.schema run.clients) (works : List Work) → AreWorks files (schema_in read.df) read.texts works → ⊥
        no_works read works h = no_work (schema_in df) files read.texts before after texts works (split_sources read) first (its_works read works h)

        -- nor has it trees
        no_trees : (ts : List ClientTexts) (bs : List (List NamedText)) (found : List Tree) → SourcesAre ts (bs ++ texts ∷ after) → AreTrees (schema_in df) ts found → ⊥
        no_trees [] [] found same h = same
        no_trees [] (b ∷ bs) found same h = same
        no_trees (t ∷ ts) bs [] same h = h
        no_trees (t ∷ ts) [] (f ∷ fs) same h = no_break (schema_in df) texts (subst (λ s. IsSourceTree (schema_in df) s f) same.0 h.0) first
        no_trees (t ∷ ts) (b ∷ bs) (f ∷ fs) same h = no_trees ts bs fs same.1 h.1

        source_by : {refusal : Refusal} → Prevents files faults run.schema run.clients refusal → IsRefusal (Some refusal) (Source (length before) (file_of texts at.text) rule at.place)
        source_by (no_file h) = wants (files_want h)
        source_by (schema_breaks read h) = wants (no_violation (schema_read read ∙ clean) h)
        source_by (source_breaks read fine h) = first_broken (schema_in df) read.texts before trees after texts (split_sources read) are first (its_break read h)
        source_by (no_named_input read fine found denote h) = absurd (no_trees read.texts before found (split_sources read) (its_trees read found denote))
        source_by run_wants = inr refl

        pub broken_source_is_reported : CommandResult seen disk arguments files faults old new result → IsRefusal report.refusal (Source (length before) (file_of texts at.text) rule at.place)
        broken_source_is_reported did = refusal_by (λ refusal prevents. source_by prevents) (λ read fine works h. no_works read works h) (outcome did)

      -- ---- all sources denote trees

      module _ (trees : List Tree) (are : AreSources (schema_in df) sources trees) where
        sources_want : {refusal : Refusal} (texts : Texts files run.schema run.clients) → OneSourceBreaks (schema_in texts.df) 0 texts.texts refusal → refusal ≡ NoMemory
        sources_want texts h = none_breaks (schema_in df) 0 texts.texts sources trees (its_sources texts) are (its_break texts h)

        same_trees : (texts : Texts files run.schema run.clients) (found : List Tree) → AreTrees (schema_in texts.df) texts.texts found → found ≡ trees
        same_trees texts found h = one_trees (schema_in df) texts.texts sources trees found (its_sources texts) are (its_trees texts found h)

        module _ (before after : List (List ℕ)) (name : List ℕ) (split : named_inputs trees ≡ before ++ name ∷ after) (are_there : AreThere files before) where
          named_by : {refusal want : Refusal} → (OneIsNotRead files faults (before ++ name ∷ after) refusal → IsRefusal (Some refusal) want) → Prevents files faults run.schema run.clients refusal → IsRefusal (Some refusal) want
          named_by by (no_file h) = wants (files_want h)
          named_by by (schema_breaks texts h) = wants (no_violation (schema_read texts ∙ clean) h)
          named_by by (source_breaks texts fine h) = wants (sources_want texts h)
          named_by {refusal} by (no_named_input texts fine found denote h) = by (subst (λ ns. OneIsNotRead files faults ns refusal) (ap named_inputs (same_trees texts found denote) ∙ split) h)
          named_by by run_wants = inr refl

          not_worked : ((texts : List (List ℕ)) → HaveTexts files (before ++ name ∷ after) texts → ⊥) → (texts : Texts files run.schema run.clients) (works : List Work) → AreWorks files (schema_in texts.df) texts.texts works → ⊥
          not_worked none texts works h =
              let done = worked files (schema_in texts.df) texts.texts works h in
              none done.texts (subst (λ ns. HaveTexts files ns done.texts) (ap named_inputs (same_trees texts done.trees done.are) ∙ split) done.have)

          pub no_named_is_reported : CommandResult seen disk arguments files faults old new result → files.file name ≡ None → IsRefusal report.refusal (File name)
          no_named_is_reported did none =
              refusal_by (λ refusal prevents. named_by (λ h. one_missing files names.observable names.sound faults before after are_there none h) prevents)
              (λ texts fine works h. not_worked (λ ts have. have_none files names.observable names.sound before after ts none have) texts works h) (outcome did)

          pub long_named_is_reported : {text : List ℕ} → CommandResult seen disk arguments files faults old new result → files.file name ≡ Some text → MAX_FILE_BYTES < length text → IsRefusal report.refusal (TooLong name MAX_FILE_BYTES)
          long_named_is_reported did there_is long =
              refusal_by (λ refusal prevents. named_by (λ h. one_long files names.observable names.sound faults before after are_there there_is long h) prevents)
              (λ texts fine works h. not_worked (λ ts have. have_long files names.observable names.sound before after ts there_is long have) texts works h) (outcome did)

        -- ---- nothing prevents the run

        module _ (inputs_there : AreThere files (named_inputs trees)) where
          only_memory : {refusal : Refusal} → Prevents files faults run.schema run.clients refusal → refusal ≡ NoMemory
          only_memory (no_file h) = files_want h
          only_memory (schema_breaks texts h) = no_violation (schema_read texts ∙ clean) h
          only_memory (source_breaks texts fine h) = sources_want texts h
          only_memory {refusal} (no_named_input texts fine found denote h) = none_lacks files names.observable names.sound faults (named_inputs trees) inputs_there (subst (λ ns. OneIsNotRead files faults ns refusal) (ap named_inputs (same_trees texts found denote)) h)
          only_memory run_wants = refl

          done_by_outcome : (Rose old.faults new.faults → ⊥) → Outcome → IsDone seen disk (schema_in df) result
          done_by_outcome quiet (was_prevented refusal given status prevents) = ended (memory_was_out (status ∙ ap (λ r. status_after (Some r)) (only_memory prevents)))
          done_by_outcome quiet (had_run texts fine works h well) = subst (λ (d : List ℕ). IsDone seen disk (schema_in d) result) (same_df texts) (well quiet)

          pub run_is_done : CommandResult seen disk arguments files faults old new result → (Rose old.faults new.faults → ⊥) → IsDone seen disk (schema_in df) result
          run_is_done did quiet = done_by_outcome quiet (outcome did)
