-- The first cause that prevents a check is its refusal, and without one the sources are listed.
use Rattle.std.proofs.Common.{◌≡◌, ◌⊎◌, inl, inr, ◌+◌, ◌<◌, ℕ, Bool, true, false, List, [], ◌∷◌, ◌++◌, Some, None, refl, sym, ap, ◌∙◌, subst, arith, length}
use Rattle.std.specs.Prelude.{IsTrue}
use Rattle.storage.specs.faults.Faults.{Rose}
use Rattle.abl_base.specs.declared.rule.Rule.{Rule}
use Rattle.bound_tree.specs.Tree.{Source as Tree}
use Rattle.preprocessor.specs.declared.expanded.Origin.{Origin}
use Rattle.preprocessor.specs.declared.texts.NamedText.{NamedText}
use Rattle.host_io.specs.declared.out.Stream.TheVariants.{Output as Standard}
use Rattle.host_io.specs.Files.{FileState}
use Rattle.host_io.specs.Out.{OutState, appended}
use Rattle.schema_reader.specs.Rules.{violation_of}
use Rattle.abl_values.specs.Schema.{SchemaData}
use Rattle.source_reader.specs.listing.Listing.{listing}
use Rattle.command_arguments.specs.CommandLine.{Check, check_arguments}
use Rattle.abl_cli.proofs.Marks.{check_or_bank, check_or_create, check_or_dump, run_or_check}
use Rattle.run_report.specs.declared.refusal.Refusal.{Refusal}
use Rattle.run_report.specs.declared.refusal.Refusal.TheVariants.{File, TooLong, Schema, Source, NoMemory}
use Rattle.run_report.specs.declared.ending.Report.{Report}
use Rattle.run_works.specs.declared.outcome.Outcome.{Outcome as Result}
use Rattle.run_works.specs.Disks.{DiskState}
use Rattle.source_files.specs.declared.files.TheConstants.{MAX_FILE_BYTES}
use Rattle.abl_cli.specs.Check.{IsListing, HaveListings, OneBreaks, this_breaks, later_breaks, check_text}
use Rattle.source_files.specs.Compiled.{BreaksFirst, breaks_rule, schema_in, source_wants}
use Rattle.source_files.specs.Expansions.{file_of, own_line}
use Rattle.source_files.specs.Files.{AskedIsNotRead, IsNotRead}
use Rattle.abl_cli.specs.Command.{AsksCheck, CheckTexts, PreventsCheck, no_checked_file, schema_is_broken, one_breaks, AreListed, HasChecked, wrong_argument, prevented, check_prevented, create_prevented, dump_prevented, CommandResult, Refused, NotRun, Ran, Checked, Banked, Created, Dumped, IsRefusal}
use Rattle.run_report.specs.Ending.{WritesStatus, output_refusal, status_after}
use Rattle.abl_cli.specs.CheckFiles.{NamesSources, SourcesThere}
use Rattle.source_files.proofs.Asked.{one_sources}
use Rattle.abl_cli.proofs.Asked.{WasRead, check_read, one_asked_check, there_read}
use Rattle.abl_cli.proofs.FileCauses.{asked_by, long_is, missing_is, no_text, no_violation, not_long, same_text, same_violation, unread_read, wants}
use Rattle.abl_cli.proofs.SourceTexts.{no_break, one_break, one_refusal, one_tree}
use Rattle.abl_cli.proofs.Judged.{wrong_or_formed, rose_in_check}

-- ---- the rules of the sources

module _ (schema : SchemaData) where
  -- the first source that breaks a rule is the one that is refused
  broken_at : (n : ℕ) (before : List (List NamedText)) (lists : List (List ℕ)) (after : List (List NamedText)) (texts : List NamedText) {rule : Rule} {at : Origin} {refusal : Refusal} → HaveListings schema before lists → BreaksFirst schema texts rule at → OneBreaks schema n (before ++ texts ∷ after) refusal →
      IsRefusal (Some refusal) (Source (n + length before) (file_of texts at.text) rule at.place)
  broken_at n [] [] after texts {rule} {at} have first (this_breaks (breaks_rule found_at found)) =
      inl (ap (λ r. Some r) (one_refusal n texts (one_break schema texts found first)) ∙ ap (λ k. Some (Source k (file_of texts at.text) rule at.place)) (omega arith))
  broken_at n [] [] after texts have first (this_breaks source_wants) = inr refl
  broken_at n [] [] after texts have first (later_breaks is h) = absurd (no_break schema texts is.denotes first)
  broken_at n [] (l ∷ ls) after texts have first h = absurd have
  broken_at n (b ∷ bs) [] after texts have first h = absurd have
  broken_at n (b ∷ bs) (l ∷ ls) after texts have first (this_breaks (breaks_rule found_at found)) = absurd (no_break schema b have.0.denotes found)
  broken_at n (b ∷ bs) (l ∷ ls) after texts have first (this_breaks source_wants) = inr refl
  broken_at n (b ∷ bs) (l ∷ ls) after texts {rule} {at} {refusal} have first (later_breaks is h) =
      subst (λ k. IsRefusal (Some refusal) (Source k (file_of texts at.text) rule at.place)) (omega arith) (broken_at (n + 1) bs ls after texts have.1 first h)

  -- the sources are numbered from 0
  first_broken : (before : List (List NamedText)) (lists : List (List ℕ)) (after : List (List NamedText)) (texts : List NamedText) {rule : Rule} {at : Origin} {refusal : Refusal} → HaveListings schema before lists → BreaksFirst schema texts rule at → OneBreaks schema 0 (before ++ texts ∷ after) refusal →
      IsRefusal (Some refusal) (Source (length before) (file_of texts at.text) rule at.place)
  first_broken before lists after texts {rule} {at} {refusal} have first h =
      let numbered : 0 + length before ≡ length before = omega arith in
      subst (λ k. IsRefusal (Some refusal) (Source k (file_of texts at.text) rule at.place)) numbered (broken_at 0 before lists after texts have first h)

  not_listed : (before : List (List NamedText)) (lists : List (List ℕ)) (after : List (List NamedText)) (texts : List NamedText) {rule : Rule} {at : Origin} → BreaksFirst schema texts rule at → HaveListings schema (before ++ texts ∷ after) lists → ⊥
  not_listed [] [] after texts first have = have
  not_listed [] (l ∷ ls) after texts first have = no_break schema texts have.0.denotes first
  not_listed (b ∷ bs) [] after texts first have = have
  not_listed (b ∷ bs) (l ∷ ls) after texts first have = not_listed bs ls after texts first have.1

  -- where each has a listing, none is refused
  none_breaks : (n : ℕ) (sources : List (List NamedText)) (lists : List (List ℕ)) {refusal : Refusal} → HaveListings schema sources lists → OneBreaks schema n sources refusal → refusal ≡ NoMemory
  none_breaks n [] [] have h = elim h [ ]
  none_breaks n [] (l ∷ ls) have h = absurd have
  none_breaks n (s ∷ ss) [] have h = absurd have
  none_breaks n (s ∷ ss) (l ∷ ls) have (this_breaks (breaks_rule found_at found)) = absurd (no_break schema s have.0.denotes found)
  none_breaks n (s ∷ ss) (l ∷ ls) have (this_breaks source_wants) = refl
  none_breaks n (s ∷ ss) (l ∷ ls) have (later_breaks is h) = none_breaks (n + 1) ss ls have.1 h

  -- a source has one listing
  one_listing : (texts : List NamedText) (lines others : List ℕ) → IsListing schema texts lines → IsListing schema texts others → lines ≡ others
  one_listing texts lines others a b = a.lines_are ∙ ap (λ (tree : Tree). listing (own_line texts) tree) (one_tree schema texts a.denotes b.denotes) ∙ sym b.lines_are

  same_listings : (sources : List (List NamedText)) (lists others : List (List ℕ)) → HaveListings schema sources lists → HaveListings schema sources others → lists ≡ others
  same_listings [] [] [] a b = refl
  same_listings [] [] (o ∷ os) a b = absurd b
  same_listings [] (l ∷ ls) others a b = absurd a
  same_listings (s ∷ ss) [] others a b = absurd a
  same_listings (s ∷ ss) (l ∷ ls) [] a b = absurd b
  same_listings (s ∷ ss) (l ∷ ls) (o ∷ os) a b = ap (λ x. x ∷ ls) (one_listing s l o a.0 b.0) ∙ ap (λ xs. o ∷ xs) (same_listings ss ls os a.1 b.1)

-- ---- the outcome of the check that the arguments name

same_check : (a b : Check) → a.schema ≡ b.schema → a.programs ≡ b.programs → a ≡ b
same_check a b s p = λ i. record { schema = s i; programs = p i }

one_check : (a b : Check) → check_arguments a ≡ check_arguments b → a ≡ b
one_check a b same = let s : a.schema ≡ b.schema = cc same in let p : a.programs ≡ b.programs = cc same in same_check a b s p

module _ {D : Type 0} (seen : D → DiskState) (disk : D) (arguments : List (List ℕ)) (files : FileState) (faults : ℕ) (old new : OutState) (result : Result D) (check : Check) (names : NamesSources arguments files check) where
  abbrev report : Report
  report = result.report

  data Outcome : Type 0 where
    was_prevented : (refusal : Refusal) → report.refusal ≡ Some refusal → report.status ≡ status_after (Some refusal) → PreventsCheck files faults check refusal → Outcome
    had_listed : (listings : List (List ℕ)) → AreListed files check listings → HasChecked check.programs listings old new report → Outcome

  outcome : CommandResult seen disk arguments files faults old new result → Outcome
  outcome (Refused name refusal (wrong_argument wrong) same_disk is) = absurd (wrong_or_formed arguments _ wrong (inr (inl (check, (names.is_check, names.arguments_are)))))
  outcome (Refused name refusal (prevented run is_run are prevents) same_disk is) = absurd (run_or_check arguments run check are names.arguments_are)
  outcome (Refused name refusal (check_prevented other is_other are prevents) same_disk is) =
      was_prevented refusal is.refusal is.status (subst (λ (c : Check). PreventsCheck files faults c refusal) (one_check other check (sym are ∙ names.arguments_are)) prevents)
  outcome (Refused name refusal (create_prevented named is_create are prevents) same_disk is) = absurd (check_or_create arguments check named names.arguments_are are)
  outcome (Refused name refusal (dump_prevented named is_dump are prevents) same_disk is) = absurd (check_or_dump arguments check named names.arguments_are are)
  outcome (NotRun named is_named are texts clean works are_works not_run) = absurd (run_or_check arguments named check are names.arguments_are)
  outcome (Ran named is_named are texts clean works are_works ran) = absurd (run_or_check arguments named check are names.arguments_are)
  outcome (Banked bank is_bank are did) = absurd (check_or_bank arguments check bank names.arguments_are are)
  outcome (Created named is_create are schema has did) = absurd (check_or_create arguments check named names.arguments_are are)
  outcome (Dumped named is_dump are schema table has did) = absurd (check_or_dump arguments check named names.arguments_are are)
  outcome (Checked other is_other are listings listed same_disk told) =
      let same = one_check other check (sym are ∙ names.arguments_are) in
      had_listed listings (subst (λ (c : Check). AreListed files c listings) same listed) (subst (λ (c : Check). HasChecked c.programs listings old new report) same told)

  refusal_by : {want : Refusal} → ((refusal : Refusal) → PreventsCheck files faults check refusal → IsRefusal (Some refusal) want) → ((listings : List (List ℕ)) → AreListed files check listings → ⊥) → Outcome → IsRefusal report.refusal want
  refusal_by {want} by none (was_prevented refusal given status prevents) = subst (λ r. IsRefusal r want) (sym given) (by refusal prevents)
  refusal_by by none (had_listed listings listed told) = absurd (none listings listed)

  -- ---- a file that is not read

  module _ (name : List ℕ) (asks : AsksCheck files check name) where
    not_all : (WasRead files name → ⊥) → CheckTexts files check → ⊥
    not_all none texts = none (check_read files names.observable texts.df texts.sources texts.has_schema texts.have_sources asks)

    file_by : {refusal want : Refusal} → (IsNotRead files faults name refusal → IsRefusal (Some refusal) want) → (WasRead files name → ⊥) → PreventsCheck files faults check refusal → IsRefusal (Some refusal) want
    file_by by none (no_checked_file h) = asked_by files names.observable names.sound faults by h.unread (one_asked_check files names.observable names.sound (λ text has. none (text, has)) h.unread asks h.asks)
    file_by by none (schema_is_broken texts h) = absurd (not_all none texts)
    file_by by none (one_breaks texts clean h) = absurd (not_all none texts)

    file_is : {want : Refusal} → ((refusal : Refusal) → IsNotRead files faults name refusal → IsRefusal (Some refusal) want) → (WasRead files name → ⊥) → Outcome → IsRefusal report.refusal want
    file_is by none = refusal_by (λ refusal prevents. file_by (by refusal) none prevents) (λ listings listed. not_all none listed.texts)

    pub no_file_is_reported : CommandResult seen disk arguments files faults old new result → files.file name ≡ None → IsRefusal report.refusal (File name)
    no_file_is_reported did none = file_is (λ refusal h. missing_is files names.observable names.sound faults none h) (λ read. no_text files names.observable names.sound read.1 none) (outcome did)

    pub long_file_is_reported : {text : List ℕ} → CommandResult seen disk arguments files faults old new result → files.file name ≡ Some text → MAX_FILE_BYTES < length text → IsRefusal report.refusal (TooLong name MAX_FILE_BYTES)
    long_file_is_reported did there long = file_is (λ refusal h. long_is files names.observable names.sound faults there h) (λ read. not_long files names.observable names.sound read.1 there long) (outcome did)

  -- ---- all files are read

  module _ (df : List ℕ) (sources : List (List NamedText)) (are : SourcesThere files check df sources) where
    same_df : (texts : CheckTexts files check) → texts.df ≡ df
    same_df texts = same_text files names.observable names.sound texts.has_schema are.schema.there

    schema_read : (texts : CheckTexts files check) → violation_of texts.df ≡ violation_of df
    schema_read texts = ap violation_of (same_df texts)

    its_sources : (texts : CheckTexts files check) → texts.sources ≡ sources
    its_sources texts = one_sources files names.observable check.programs texts.sources sources texts.have_sources are.programs

    its_break : {refusal : Refusal} (texts : CheckTexts files check) → OneBreaks (schema_in texts.df) 0 texts.sources refusal → OneBreaks (schema_in df) 0 sources refusal
    its_break {refusal} texts h = subst (λ ts. OneBreaks (schema_in df) 0 ts refusal) (its_sources texts) (subst (λ d. OneBreaks (schema_in d) 0 texts.sources refusal) (same_df texts) h)

    its_listings : (listings : List (List ℕ)) (texts : CheckTexts files check) → HaveListings (schema_in texts.df) texts.sources listings → HaveListings (schema_in df) sources listings
    its_listings listings texts h = subst (λ ts. HaveListings (schema_in df) ts listings) (its_sources texts) (subst (λ d. HaveListings (schema_in d) texts.sources listings) (same_df texts) h)

    files_want : {refusal : Refusal} → AskedIsNotRead files faults (AsksCheck files check) refusal → refusal ≡ NoMemory
    files_want h = unread_read files names.observable names.sound faults (check_read files names.observable df sources (there_read are.schema) are.programs h.asks) h.unread

    schema_by : {refusal : Refusal} {rule : Rule} {line : ℕ} → violation_of df ≡ Some (record { rule = rule; line = line }) → PreventsCheck files faults check refusal → IsRefusal (Some refusal) (Schema rule line)
    schema_by broken (no_checked_file h) = wants (files_want h)
    schema_by broken (schema_is_broken texts h) = same_violation texts.df df broken (schema_read texts) h
    schema_by broken (one_breaks texts clean h) = let both = sym (schema_read texts ∙ broken) ∙ clean in absurd (cc both)

    pub broken_schema_is_reported : {rule : Rule} {line : ℕ} → CommandResult seen disk arguments files faults old new result → violation_of df ≡ Some (record { rule = rule; line = line }) → IsRefusal report.refusal (Schema rule line)
    broken_schema_is_reported did broken =
        refusal_by (λ refusal prevents. schema_by broken prevents) (λ listings listed. let both = sym (schema_read listed.texts ∙ broken) ∙ listed.clean in cc both) (outcome did)

    module _ (clean : violation_of df ≡ None) where
      source_by : {refusal want : Refusal} → (OneBreaks (schema_in df) 0 sources refusal → IsRefusal (Some refusal) want) → PreventsCheck files faults check refusal → IsRefusal (Some refusal) want
      source_by by (no_checked_file h) = wants (files_want h)
      source_by by (schema_is_broken texts h) = wants (no_violation (schema_read texts ∙ clean) h)
      source_by by (one_breaks texts fine h) = by (its_break texts h)

      pub broken_source_is_reported : (before after : List (List NamedText)) (lists : List (List ℕ)) (texts : List NamedText) {rule : Rule} {at : Origin} → CommandResult seen disk arguments files faults old new result → sources ≡ before ++ texts ∷ after → HaveListings (schema_in df) before lists →
          BreaksFirst (schema_in df) texts rule at → IsRefusal report.refusal (Source (length before) (file_of texts at.text) rule at.place)
      broken_source_is_reported before after lists texts did split have first =
          refusal_by (λ refusal prevents. source_by (λ h. first_broken (schema_in df) before lists after texts have first (subst (λ ts. OneBreaks (schema_in df) 0 ts refusal) split h)) prevents)
          (λ listings listed. not_listed (schema_in df) before listings after texts first (subst (λ ts. HaveListings (schema_in df) ts listings) split (its_listings listings listed.texts listed.have))) (outcome did)

      only_memory : {refusal : Refusal} (lists : List (List ℕ)) → HaveListings (schema_in df) sources lists → PreventsCheck files faults check refusal → refusal ≡ NoMemory
      only_memory lists have (no_checked_file h) = files_want h
      only_memory lists have (schema_is_broken texts h) = no_violation (schema_read texts ∙ clean) h
      only_memory lists have (one_breaks texts fine h) = none_breaks (schema_in df) 0 sources lists have (its_break texts h)

      module _ (lists : List (List ℕ)) (have : HaveListings (schema_in df) sources lists) (quiet : Rose old.faults new.faults → ⊥) (known : IsTrue old.observable) where
        listed_whole : (whole : Bool) (listings : List (List ℕ)) (told : HasChecked check.programs listings old new report) → told.whole ≡ whole → listings ≡ lists →
            ((report.status ≡ 0) × (new.texts ≡ appended Standard (check_text check.programs lists) old.texts)) ⊎ (report.status ≡ 7)
        listed_whole false listings told is same = absurd (quiet (rose_in_check seen disk arguments files faults old new result check.programs listings told is))
        listed_whole true listings told is same =
            let none : report.refusal ≡ None = told.refusal ∙ ap output_refusal is in
            let ends : new ≡ told.between = subst (λ r. WritesStatus [] [] r told.between new) none told.lines in
            inl (told.status ∙ ap status_after none, ap (λ (w : OutState). w.texts) ends ∙ told.text.all is known ∙ ap (λ ls. appended Standard (check_text check.programs ls) old.texts) same)

        listed_by : Outcome → ((report.status ≡ 0) × (new.texts ≡ appended Standard (check_text check.programs lists) old.texts)) ⊎ (report.status ≡ 7)
        listed_by (was_prevented refusal given status prevents) = inr (status ∙ ap (λ r. status_after (Some r)) (only_memory lists have prevents))
        listed_by (had_listed listings listed told) =
            listed_whole told.whole listings told refl (same_listings (schema_in df) sources listings lists (its_listings listings listed.texts listed.have) have)

        pub sources_are_listed : CommandResult seen disk arguments files faults old new result → ((report.status ≡ 0) × (new.texts ≡ appended Standard (check_text check.programs lists) old.texts)) ⊎ (report.status ≡ 7)
        sources_are_listed did = listed_by (outcome did)
