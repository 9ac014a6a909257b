-- Files that are read one after the other, where none fails, and what prevents reading one.
use Rattle.std.proofs.Common.{◌≡◌, ◌<◌, ℕ, zero, suc, List, [], ◌∷◌, ◌++◌, Option, Some, None, Result, Err, refl, sym, ap, ◌∙◌, subst, length, take, get_or, arith}
use Rattle.std.specs.Prelude.{IsTrue, IfErr, IfOk, Ok, OnOk}
use Rattle.std.specs.List.{flat_map}
use Rattle.storage.specs.faults.Faults.{Rose}
use Rattle.host_io.specs.Files.{IsLonger, FileState}
use Rattle.source_files.specs.declared.files.TheConstants.{MAX_FILE_BYTES}
use Rattle.run_report.specs.declared.refusal.Refusal.{Refusal}
use Rattle.run_report.specs.declared.refusal.Refusal.TheVariants.{NoMemory}
use Rattle.command_arguments.specs.CommandLine.{ClientFiles}
use Rattle.source_files.specs.declared.files.ClientTexts.{ClientTexts}
use Rattle.preprocessor.specs.declared.texts.NamedText.{NamedText}
use Rattle.preprocessor.specs.declared.texts.Outcome.TheVariants.{Needs}
use Rattle.preprocessor.specs.Expansion.{expansion}
use Rattle.source_files.specs.Files.{HasText, HasInput, HaveTexts, HasClient, HaveClients, HasSource, HaveSources, Needed, IsNotRead, is_missing, is_too_long, reading_wants, OneIsNotRead, this_one, later_one, AreSame, AskedIsNotRead}
use Rattle.source_files.specs.Files.{AsksNeeded, asks_now, asks_later, AsksSource, asks_own, asks_needed, AsksSources, asks_this_source, asks_later_source, AsksClient, asks_source, asks_input, AsksClients, asks_this_client, asks_later_client}

-- what holds of an error holds of the result that has it
pub of_error : {A : Type 0} {result : Result A Refusal} {refusal : Refusal} (P : Refusal → Type 0) → result ≡ Err refusal → P refusal → IfErr result P
of_error P is holds = subst (λ r. IfErr r P) (sym is) holds

-- ---- a later read, where none failed before it

pub same_further : {old mid new : FileState} → AreSame old mid → AreSame mid new → AreSame old new
same_further p q = record {
  observable = q.observable ∙ p.observable;
  sound = q.sound ∙ p.sound;
  file = λ t. q.file (subst IsTrue (sym p.observable) t) ∙ p.file t;
  faults = q.faults ∙ p.faults;
}

pub same_files : (files : FileState) → AreSame files files
same_files files = record { observable = refl; sound = refl; file = λ t. refl; faults = refl }

module _ (files later : FileState) (same : AreSame files later) (sound_observable : IsTrue files.sound → IsTrue files.observable) where
  pub still_has : {name text : List ℕ} → HasText later name text → HasText files name text
  still_has {name} has = record {
    content = λ t. ap (λ file. file name) (sym (same.file t)) ∙ has.content (subst IsTrue (sym same.observable) t);
    short = has.short;
  }

  pub still_not_read : {faults : ℕ} {name : List ℕ} {refusal : Refusal} → IsNotRead later faults name refusal → IsNotRead files faults name refusal
  still_not_read {faults} {name} (is_missing rose missing) = is_missing (subst (λ n. Rose n faults) same.faults rose)
      (λ s. ap (λ file. file name) (sym (same.file (sound_observable s))) ∙ missing (subst IsTrue (sym same.sound) s))
  still_not_read {name} (is_too_long longer) = is_too_long (λ t. subst (λ file. IsLonger (file name) MAX_FILE_BYTES) (same.file t) (longer (subst IsTrue (sym same.observable) t)))
  still_not_read reading_wants = reading_wants

  pub still_has_input : (input : Option (List ℕ)) (text : List ℕ) → HasInput later input text → HasInput files input text
  still_has_input None text has = has
  still_has_input (Some name) text has = still_has has

  pub still_have : (names texts : List (List ℕ)) → HaveTexts later names texts → HaveTexts files names texts
  still_have [] [] have = tt
  still_have [] (text ∷ texts) have = have
  still_have (name ∷ names) [] have = have
  still_have (name ∷ names) (text ∷ texts) have = (still_has have.0, still_have names texts have.1)

  pub still_one : {faults : ℕ} {names : List (List ℕ)} {refusal : Refusal} → OneIsNotRead later faults names refusal → OneIsNotRead files faults names refusal
  still_one (this_one h) = this_one (still_not_read h)
  still_one (later_one has h) = later_one (still_has has) (still_one h)

  pub still_needed : (texts more : List NamedText) → Needed later texts more → Needed files texts more
  still_needed texts [] has = has
  still_needed texts (t ∷ more) has = (has.0, still_has has.1, still_needed (texts ++ t ∷ []) more has.2)

  pub still_source : (program : List ℕ) (texts : List NamedText) → HasSource later program texts → HasSource files program texts
  still_source program [] has = has
  still_source program (t ∷ needed) has = (has.0, still_has has.1, still_needed (t ∷ []) needed has.2)

  pub still_sources : (programs : List (List ℕ)) (sources : List (List NamedText)) → HaveSources later programs sources → HaveSources files programs sources
  still_sources [] [] have = tt
  still_sources [] (texts ∷ more) have = have
  still_sources (program ∷ programs) [] have = have
  still_sources (program ∷ programs) (texts ∷ more) have = (still_source program texts have.0, still_sources programs more have.1)

  pub still_client : (c : ClientFiles) (t : ClientTexts) → HasClient later c t → HasClient files c t
  still_client c t has = (still_source c.program t.source has.0, still_has_input c.input t.input has.1)

  pub still_clients : (cs : List ClientFiles) (ts : List ClientTexts) → HaveClients later cs ts → HaveClients files cs ts
  still_clients [] [] have = tt
  still_clients [] (t ∷ ts) have = have
  still_clients (c ∷ cs) [] have = have
  still_clients (c ∷ cs) (t ∷ ts) have = (still_client c t have.0, still_clients cs ts have.1)

  pub still_asks_needed : {texts : List NamedText} {name : List ℕ} → AsksNeeded later texts name → AsksNeeded files texts name
  still_asks_needed (asks_now is) = asks_now is
  still_asks_needed (asks_later t is has asks) = asks_later t is (still_has has) (still_asks_needed asks)

  pub still_asks_source : {program name : List ℕ} → AsksSource later program name → AsksSource files program name
  still_asks_source asks_own = asks_own
  still_asks_source (asks_needed has asks) = asks_needed (still_has has) (still_asks_needed asks)

  pub still_asks_sources : {programs : List (List ℕ)} {name : List ℕ} → AsksSources later programs name → AsksSources files programs name
  still_asks_sources (asks_this_source asks) = asks_this_source (still_asks_source asks)
  still_asks_sources (asks_later_source {program} texts has asks) = asks_later_source texts (still_source program texts has) (still_asks_sources asks)

  pub still_asks_client : {c : ClientFiles} {name : List ℕ} → AsksClient later c name → AsksClient files c name
  still_asks_client (asks_source asks) = asks_source (still_asks_source asks)
  still_asks_client {c} (asks_input texts has is) = asks_input texts (still_source c.program texts has) is

  pub still_asks_clients : {cs : List ClientFiles} {name : List ℕ} → AsksClients later cs name → AsksClients files cs name
  still_asks_clients (asks_this_client asks) = asks_this_client (still_asks_client asks)
  still_asks_clients (asks_later_client {c} t has asks) = asks_later_client t (still_client c t has) (still_asks_clients asks)

  -- what is asked for later is asked for, and for the same reason not read
  pub still_asked : {faults : ℕ} {Asked Asks : List ℕ → Type 0} {refusal : Refusal} → ((name : List ℕ) → Asked name → Asks name) → AskedIsNotRead later faults Asked refusal → AskedIsNotRead files faults Asks refusal
  still_asked asks h = record { name = h.name; asks = asks h.name h.asks; unread = still_not_read h.unread }

-- what is asked for is asked for otherwise
pub asked_so : {files : FileState} {faults : ℕ} {Asked Asks : List ℕ → Type 0} {refusal : Refusal} → ((name : List ℕ) → Asked name → Asks name) → AskedIsNotRead files faults Asked refusal → AskedIsNotRead files faults Asks refusal
asked_so asks h = record { name = h.name; asks = asks h.name h.asks; unread = h.unread }

-- memory is wanting while a file is asked for
pub asked_wants : {files : FileState} {faults : ℕ} {Asks : List ℕ → Type 0} (name : List ℕ) → Asks name → AskedIsNotRead files faults Asks NoMemory
asked_wants name asks = record { name = name; asks = asks; unread = reading_wants }

-- ---- files one after the other

-- one more of them is read
pub have_more : (files : FileState) (names texts : List (List ℕ)) (i : ℕ) (name text : List ℕ) → i < length names → HaveTexts files (take i names) texts → name ≡ get_or names i name → HasText files name text → HaveTexts files (take (suc i) names) (texts ++ text ∷ [])
have_more files [] texts i name text below have is has = absurd (omega (arith, below))
have_more files (n ∷ names) [] zero name text below have is has = (subst (λ x. HasText files x text) is has, tt)
have_more files (n ∷ names) (t ∷ texts) zero name text below have is has = absurd have
have_more files (n ∷ names) [] (suc i) name text below have is has = absurd have
have_more files (n ∷ names) (t ∷ texts) (suc i) name text below have is has = (have.0, have_more files names texts i name text (omega (arith, below)) have.1 is has)

-- one of them is not
pub one_unread : (files : FileState) (faults : ℕ) (names texts : List (List ℕ)) (i : ℕ) (name : List ℕ) (refusal : Refusal) → i < length names → HaveTexts files (take i names) texts → name ≡ get_or names i name → IsNotRead files faults name refusal → OneIsNotRead files faults names refusal
one_unread files faults [] texts i name refusal below have is h = absurd (omega (arith, below))
one_unread files faults (n ∷ names) texts zero name refusal below have is h = this_one (subst (λ x. IsNotRead files faults x refusal) is h)
one_unread files faults (n ∷ names) [] (suc i) name refusal below have is h = absurd have
one_unread files faults (n ∷ names) (t ∷ texts) (suc i) name refusal below have is h = later_one have.0 (one_unread files faults names texts i name refusal (omega (arith, below)) have.1 is h)

-- ---- sources one after the other

-- one more of them is read
pub have_source : (files : FileState) (programs : List (List ℕ)) (sources : List (List NamedText)) (i : ℕ) (program : List ℕ) (texts : List NamedText) → i < length programs → HaveSources files (take i programs) sources → program ≡ get_or programs i program → HasSource files program texts → HaveSources files (take (suc i) programs) (sources ++ texts ∷ [])
have_source files [] sources i program texts below have is has = absurd (omega (arith, below))
have_source files (p ∷ ps) [] zero program texts below have is has = (subst (λ x. HasSource files x texts) is has, tt)
have_source files (p ∷ ps) (t ∷ ts) zero program texts below have is has = absurd have
have_source files (p ∷ ps) [] (suc i) program texts below have is has = absurd have
have_source files (p ∷ ps) (t ∷ ts) (suc i) program texts below have is has = (have.0, have_source files ps ts i program texts (omega (arith, below)) have.1 is has)

-- one of them asks for a file
pub asks_at : (files : FileState) (programs : List (List ℕ)) (sources : List (List NamedText)) (i : ℕ) (program name : List ℕ) → i < length programs → HaveSources files (take i programs) sources → program ≡ get_or programs i program → AsksSource files program name → AsksSources files programs name
asks_at files [] sources i program name below have is asks = absurd (omega (arith, below))
asks_at files (p ∷ ps) sources zero program name below have is asks = asks_this_source (subst (λ x. AsksSource files x name) is asks)
asks_at files (p ∷ ps) [] (suc i) program name below have is asks = absurd have
asks_at files (p ∷ ps) (t ∷ ts) (suc i) program name below have is asks = asks_later_source t have.0 (asks_at files ps ts i program name (omega (arith, below)) have.1 is asks)

-- what follows from what holds of a result
pub on_ok : {A E : Type 0} (r : Result A E) (P Q : Type 0) → (P → Q) → OnOk r P → OnOk r Q
on_ok (Ok a) P Q f h = f h
on_ok (Err e) P Q f h = h

pub if_err : {A E : Type 0} (r : Result A E) (P Q : E → Type 0) → ((e : E) → P e → Q e) → IfErr r P → IfErr r Q
if_err (Ok a) P Q f h = h
if_err (Err e) P Q f h = f e h

pub if_ok : {A E : Type 0} (r : Result A E) (P Q : A → Type 0) → ((a : A) → P a → Q a) → IfOk r P → IfOk r Q
if_ok (Ok a) P Q f h = f a h
if_ok (Err e) P Q f h = h
