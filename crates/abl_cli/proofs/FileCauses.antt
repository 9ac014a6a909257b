-- Which refusals may come of files that are observable and sound, and of the text of a schema file.
use Rattle.std.proofs.Common.{◌≡◌, ◌⊎◌, inl, inr, ◌<◌, ℕ, List, [], ◌∷◌, ◌++◌, Some, None, refl, sym, ap, ◌∙◌, subst, arith, length}
use Rattle.std.specs.Prelude.{IsTrue}
use Rattle.abl_base.specs.declared.rule.Rule.{Rule}
use Rattle.host_io.specs.Files.{FileState, IsLonger}
use Rattle.schema_reader.specs.declared.violation.Violation.{Violation}
use Rattle.schema_reader.specs.Rules.{violation_of}
use Rattle.run_report.specs.declared.refusal.Refusal.{Refusal}
use Rattle.run_report.specs.declared.refusal.Refusal.TheVariants.{File, TooLong, Schema, NoMemory}
use Rattle.source_files.specs.declared.files.TheConstants.{MAX_FILE_BYTES}
use Rattle.source_files.specs.Files.{HasText, HaveTexts, IsNotRead, is_missing, is_too_long, reading_wants, OneIsNotRead, this_one, later_one}
use Rattle.source_files.specs.Compiled.{BreaksSchema, breaks_f, schema_wants}
use Rattle.abl_cli.specs.Command.{IsRefusal, IsThere, AreThere}
use Rattle.source_files.proofs.Asked.{unread_there}
use Rattle.abl_cli.proofs.Asked.{WasRead, there_read}

pub wants : {refusal want : Refusal} → refusal ≡ NoMemory → IsRefusal (Some refusal) want
wants e = inr (ap (λ r. Some r) e)

-- ---- files

module _ (files : FileState) (observable : IsTrue files.observable) (sound : IsTrue files.sound) where
  pub same_text : {name text other : List ℕ} → HasText files name text → files.file name ≡ Some other → text ≡ other
  same_text has there = let read = sym there ∙ has.content observable in cc read

  pub no_text : {name text : List ℕ} → HasText files name text → files.file name ≡ None → ⊥
  no_text has none = let read = sym none ∙ has.content observable in cc read

  pub not_long : {name text other : List ℕ} → HasText files name text → files.file name ≡ Some other → MAX_FILE_BYTES < length other → ⊥
  not_long has there long =
      let same = ap length (same_text has there) in
      let short = has.short in
      omega (arith, same, short, long)

  pub have_none : (before after texts : List (List ℕ)) {name : List ℕ} → files.file name ≡ None → HaveTexts files (before ++ name ∷ after) texts → ⊥
  have_none [] after [] none have = have
  have_none [] after (text ∷ texts) none have = no_text have.0 none
  have_none (other ∷ before) after [] none have = have
  have_none (other ∷ before) after (text ∷ texts) none have = have_none before after texts none have.1

  pub have_long : (before after texts : List (List ℕ)) {name text : List ℕ} → files.file name ≡ Some text → MAX_FILE_BYTES < length text → HaveTexts files (before ++ name ∷ after) texts → ⊥
  have_long [] after [] there long have = have
  have_long [] after (text ∷ texts) there long have = not_long have.0 there long
  have_long (other ∷ before) after [] there long have = have
  have_long (other ∷ before) after (text ∷ texts) there long have = have_long before after texts there long have.1

  module _ (faults : ℕ) where
    pub unread : {name text : List ℕ} {refusal : Refusal} → IsThere files name text → IsNotRead files faults name refusal → refusal ≡ NoMemory
    unread {text = text} is h = unread_there files observable sound text (there_read is) h

    pub missing_is : {name : List ℕ} {refusal : Refusal} → files.file name ≡ None → IsNotRead files faults name refusal → IsRefusal (Some refusal) (File name)
    missing_is none (is_missing rose missing) = inl refl
    missing_is none (is_too_long longer) = absurd (subst (λ file. IsLonger file MAX_FILE_BYTES) none (longer observable))
    missing_is none reading_wants = inr refl

    -- one that was read is not refused, if there is memory
    pub unread_read : {name : List ℕ} {refusal : Refusal} → WasRead files name → IsNotRead files faults name refusal → refusal ≡ NoMemory
    unread_read read h = unread_there files observable sound read.0 read.1 h

    -- the file that was not read is this one
    pub asked_by : {name other : List ℕ} {refusal want : Refusal} → (IsNotRead files faults name refusal → IsRefusal (Some refusal) want) → IsNotRead files faults other refusal → (refusal ≡ NoMemory) ⊎ (name ≡ other) → IsRefusal (Some refusal) want
    asked_by by h (inl e) = wants e
    asked_by {refusal = refusal} by h (inr same) = by (subst (λ n. IsNotRead files faults n refusal) (sym same) h)

    pub long_is : {name text : List ℕ} {refusal : Refusal} → files.file name ≡ Some text → IsNotRead files faults name refusal → IsRefusal (Some refusal) (TooLong name MAX_FILE_BYTES)
    long_is there (is_missing rose missing) = let none = sym there ∙ missing sound in absurd (cc none)
    long_is there (is_too_long longer) = inl refl
    long_is there reading_wants = inr refl

    -- of these files, which are there, none is refused
    pub none_lacks : (names : List (List ℕ)) {refusal : Refusal} → AreThere files names → OneIsNotRead files faults names refusal → refusal ≡ NoMemory
    none_lacks [] are h = elim h [ ]
    none_lacks (name ∷ names) are (this_one h) = unread are.0.1 h
    none_lacks (name ∷ names) are (later_one has h) = none_lacks names are.1 h

    pub one_missing : (before after : List (List ℕ)) {name : List ℕ} {refusal : Refusal} → AreThere files before → files.file name ≡ None → OneIsNotRead files faults (before ++ name ∷ after) refusal → IsRefusal (Some refusal) (File name)
    one_missing [] after are none (this_one h) = missing_is none h
    one_missing [] after are none (later_one has h) = absurd (no_text has none)
    one_missing (other ∷ before) after are none (this_one h) = wants (unread are.0.1 h)
    one_missing (other ∷ before) after are none (later_one has h) = one_missing before after are.1 none h

    pub one_long : (before after : List (List ℕ)) {name text : List ℕ} {refusal : Refusal} → AreThere files before → files.file name ≡ Some text → MAX_FILE_BYTES < length text → OneIsNotRead files faults (before ++ name ∷ after) refusal → IsRefusal (Some refusal) (TooLong name MAX_FILE_BYTES)
    one_long [] after are there long (this_one h) = long_is there h
    one_long [] after are there long (later_one has h) = absurd (not_long has there long)
    one_long (other ∷ before) after are there long (this_one h) = wants (unread are.0.1 h)
    one_long (other ∷ before) after are there long (later_one has h) = one_long before after are.1 there long h

-- ---- the rules of the schema

pub same_violation : (read df : List ℕ) {rule : Rule} {line : ℕ} {refusal : Refusal} → violation_of df ≡ Some (record { rule = rule; line = line }) → violation_of read ≡ violation_of df → BreaksSchema read refusal → IsRefusal (Some refusal) (Schema rule line)
same_violation read df {rule = rule} {line = line} broken same (breaks_f {rule = rule'} {line = line'} found) =
    let both : Some (record { rule = rule'; line = line' }) ≡ Some (record { rule = rule; line = line }) = sym found ∙ same ∙ broken in
    let one : record { rule = rule'; line = line' } ≡ record { rule = rule; line = line } = cc both in
    inl (ap (λ (v : Violation). Some (Schema v.rule v.line)) one)
same_violation read df broken same schema_wants = inr refl

pub no_violation : {read : List ℕ} {refusal : Refusal} → violation_of read ≡ None → BreaksSchema read refusal → refusal ≡ NoMemory
no_violation clean (breaks_f found) = let both = sym clean ∙ found in absurd (cc both)
no_violation clean schema_wants = refl
