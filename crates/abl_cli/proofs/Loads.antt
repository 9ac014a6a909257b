-- What a run has loaded, and what prevents it once its texts are read.
use Rattle.std.proofs.Common.{◌≡◌, ◌⊎◌, inl, inr, ℕ, suc, List, [], ◌∷◌, ◌++◌, None, refl, sym, ap, ◌∙◌, subst, length}
use Rattle.std.specs.Prelude.{IsTrue}
use Rattle.schema_reader.specs.Rules.{violation_of}
use Rattle.abl_values.specs.declared.schema.TableDef.{TableDef}
use Rattle.abl_values.specs.Schema.{SchemaData}
use Rattle.host_io.specs.Files.{FileState}
use Rattle.bound_tree.specs.Bound.{source_of}
use Rattle.bound_tree.specs.Tree.{Source as Tree}
use Rattle.block_code.specs.declared.code.Code.{Code}
use Rattle.client_core.specs.ClientView.{ClientView}
use Rattle.command_arguments.specs.CommandLine.{ClientFiles}
use Rattle.source_files.specs.declared.files.ClientTexts.{ClientTexts}
use Rattle.run_report.specs.declared.refusal.Refusal.{Refusal}
use Rattle.run_report.specs.declared.refusal.Refusal.TheVariants.{NoMemory}
use Rattle.source_files.specs.Compiled.{schema_in, BreaksSchema, OneSourceBreaks}
use Rattle.source_files.specs.Files.{AskedIsNotRead, AsksClients, HasText, HaveTexts, HaveClients, OneIsNotRead, this_one, later_one, AreSame}
use Rattle.abl_cli.specs.Command.{Texts, AreTrees, AreWorks, Prevents, asks_clients, no_file, schema_breaks, source_breaks, no_named_input, run_wants, named_inputs}
use Rattle.client_threads.specs.served.Works.{Work}
use Rattle.abl_cli.specs.Inside.{AreBegun, IsReady, inputs_of}
use Rattle.client_threads.specs.served.Served.{AreToDo}
use Rattle.source_files.specs.Compiled.{HaveCodes}
use Rattle.run_works.proofs.Runs.{as_many_clients}
use Rattle.source_files.proofs.Causes.{asked_so, still_have, still_one}

-- ---- numbers of clients

pub as_many_texts : (files : FileState) (cs : List ClientFiles) (ts : List ClientTexts) → HaveClients files cs ts → length ts ≡ length cs
as_many_texts files [] [] have = refl
as_many_texts files [] (t ∷ ts) have = absurd have
as_many_texts files (c ∷ cs) [] have = absurd have
as_many_texts files (c ∷ cs) (t ∷ ts) have = ap (λ k. suc k) (as_many_texts files cs ts have.1)

pub as_many_codes : (schema : SchemaData) (ts : List ClientTexts) (codes : List Code) → HaveCodes schema ts codes → length codes ≡ length ts
as_many_codes schema [] [] have = refl
as_many_codes schema [] (code ∷ codes) have = absurd have
as_many_codes schema (t ∷ ts) [] have = absurd have
as_many_codes schema (t ∷ ts) (code ∷ codes) have = ap (λ k. suc k) (as_many_codes schema ts codes have.1)

as_many_works : (files : FileState) (schema : SchemaData) (ts : List ClientTexts) (works : List Work) → AreWorks files schema ts works → length works ≡ length ts
as_many_works files schema [] [] are = refl
as_many_works files schema [] (w ∷ ws) are = absurd are
as_many_works files schema (t ∷ ts) [] are = absurd are
as_many_works files schema (t ∷ ts) (w ∷ ws) are = ap (λ k. suc k) (as_many_works files schema ts ws are.1)

-- as many clients are begun as the arguments name
pub begun_of : (files : FileState) (schema : List ℕ) (cs : List ClientFiles) (units : ℕ) (denoted : SchemaData) (tasks : List ClientView) → IsReady files schema cs units denoted tasks → length tasks ≡ length cs
begun_of files schema cs units denoted tasks ready =
    as_many_clients units ready.works tasks ready.to_do ∙ as_many_works files (schema_in ready.texts.df) ready.texts.texts ready.works ready.are ∙ as_many_texts files cs ready.texts.texts ready.texts.have

-- ---- what the codes denote

-- the trees of the codes
pub record Denoted (schema : SchemaData) (ts : List ClientTexts) (codes : List Code) : Type 0 where
  pub trees : List Tree
  pub are : AreTrees schema ts trees
  pub inputs : inputs_of codes ≡ named_inputs trees

pub denoted : (schema : SchemaData) (ts : List ClientTexts) (codes : List Code) → HaveCodes schema ts codes → Denoted schema ts codes
denoted schema [] [] have = record { trees = []; are = tt; inputs = refl }
denoted schema [] (code ∷ codes) have = absurd have
denoted schema (t ∷ ts) [] have = absurd have
denoted schema (t ∷ ts) (code ∷ codes) have =
    let rest = denoted schema ts codes have.1 in
    let one = have.0 in
    record {
      trees = source_of one.bound ∷ rest.trees;
      are = (one.form, rest.are);
      inputs = ap (λ xs. xs ++ inputs_of codes) one.compiled.inputs ∙ ap (λ ys. (source_of one.bound).inputs ++ ys) rest.inputs;
    }

-- the works of the clients that were begun
pub record Begun (files : FileState) (schema : SchemaData) (units : ℕ) (ts : List ClientTexts) (tasks : List ClientView) : Type 0 where
  pub works : List Work
  pub are : AreWorks files schema ts works
  pub to_do : AreToDo units works tasks

pub begun_works : (files : FileState) (schema : SchemaData) (units : ℕ) (ts : List ClientTexts) (codes : List Code) (tasks : List ClientView) → HaveCodes schema ts codes → AreBegun files units schema.tables codes ts tasks → Begun files schema units ts tasks
begun_works files schema units [] [] [] have begun = record { works = []; are = tt; to_do = tt }
begun_works files schema units [] [] (task ∷ tasks) have begun = absurd begun
begun_works files schema units [] (code ∷ codes) tasks have begun = absurd have
begun_works files schema units (t ∷ ts) [] tasks have begun = absurd have
begun_works files schema units (t ∷ ts) (code ∷ codes) [] have begun = absurd begun
begun_works files schema units (t ∷ ts) (code ∷ codes) (task ∷ tasks) have begun =
    let rest = begun_works files schema units ts codes tasks have.1 begun.1 in
    let one = have.0 in
    let client = begun.0 in
    record {
      works = record { tables = schema.tables; tree = source_of one.bound; input = t.input; inputs = client.inputs } ∷ rest.works;
      are = ((one.form, (refl, (refl, subst (λ ns. HaveTexts files ns client.inputs) one.compiled.inputs client.have))), rest.are);
      to_do = ((λ p is. client.to_run one.bound p one.compiled is.source is.tables is.input_is is.inputs_are is.forms is.lines), rest.to_do);
    }

module _ (files later : FileState) (same : AreSame files later) (sound_observable : IsTrue files.sound → IsTrue files.observable) where
  pub still_begun : (units : ℕ) (tables : List TableDef) (codes : List Code) (ts : List ClientTexts) (tasks : List ClientView) → AreBegun later units tables codes ts tasks → AreBegun files units tables codes ts tasks
  still_begun units tables [] [] [] begun = tt
  still_begun units tables [] [] (task ∷ tasks) begun = absurd begun
  still_begun units tables [] (t ∷ ts) tasks begun = absurd begun
  still_begun units tables (code ∷ codes) [] tasks begun = absurd begun
  still_begun units tables (code ∷ codes) (t ∷ ts) [] begun = absurd begun
  still_begun units tables (code ∷ codes) (t ∷ ts) (task ∷ tasks) begun =
      let one = begun.0 in (
        record { inputs = one.inputs; have = still_have files later same sound_observable code.inputs.items one.inputs one.have; to_run = one.to_run },
        still_begun units tables codes ts tasks begun.1,
      )

-- ---- files one after the other

module _ (files : FileState) (faults : ℕ) where
  pub unread_first : (xs ys : List (List ℕ)) {refusal : Refusal} → OneIsNotRead files faults xs refusal → OneIsNotRead files faults (xs ++ ys) refusal
  unread_first [] ys h = elim h [ ]
  unread_first (x ∷ xs) ys (this_one h) = this_one h
  unread_first (x ∷ xs) ys (later_one has h) = later_one has (unread_first xs ys h)

  pub unread_later : (xs ys texts : List (List ℕ)) {refusal : Refusal} → HaveTexts files xs texts → OneIsNotRead files faults ys refusal → OneIsNotRead files faults (xs ++ ys) refusal
  unread_later [] ys texts have h = h
  unread_later (x ∷ xs) ys [] have h = absurd have
  unread_later (x ∷ xs) ys (t ∷ ts) have h = later_one have.0 (unread_later xs ys ts have.1 h)

-- ---- a run that is loaded, or prevented

pub lacks_memory : {files : FileState} {faults : ℕ} {schema : List ℕ} {clients : List ClientFiles} {refusal : Refusal} → refusal ≡ NoMemory → Prevents files faults schema clients refusal
lacks_memory {files} {faults} {schema} {clients} e = subst (Prevents files faults schema clients) (sym e) run_wants

module _ (files : FileState) (schema : List ℕ) (clients : List ClientFiles) (df : List ℕ) (has : HasText files schema df) where
  -- a file of a client is not read
  pub files_prevent : (faults : ℕ) (refusal : Refusal) → AskedIsNotRead files faults (AsksClients files clients) refusal → Prevents files faults schema clients refusal
  files_prevent faults refusal h = no_file (asked_so (λ name asks. asks_clients has asks) h)

  module _ (ts : List ClientTexts) (have : HaveClients files clients ts) (d : List ℕ) (is_df : d ≡ df) where
    texts_of : Texts files schema clients
    texts_of = record { df = df; texts = ts; has_schema = has; have = have }

    -- a rule is broken
    pub rules_prevent : (faults : ℕ) (refusal : Refusal) → (refusal ≡ NoMemory) ⊎ (BreaksSchema d refusal ⊎ ((violation_of d ≡ None) × OneSourceBreaks (schema_in d) 0 ts refusal)) → Prevents files faults schema clients refusal
    unfolding texts_of
    rules_prevent faults refusal (inl e) = lacks_memory e
    rules_prevent faults refusal (inr (inl h)) = schema_breaks texts_of (subst (λ t. BreaksSchema t refusal) is_df h)
    rules_prevent faults refusal (inr (inr h)) = source_breaks texts_of (subst (λ t. violation_of t ≡ None) is_df h.0) (subst (λ t. OneSourceBreaks (schema_in t) 0 ts refusal) is_df h.1)

    module _ (clean : violation_of d ≡ None) (codes : List Code) (are : HaveCodes (schema_in d) ts codes) (later : FileState) (same : AreSame files later) (sound_observable : IsTrue files.sound → IsTrue files.observable) where
      is_clean : violation_of df ≡ None
      is_clean = subst (λ t. violation_of t ≡ None) is_df clean

      are_codes : HaveCodes (schema_in df) ts codes
      are_codes = subst (λ t. HaveCodes (schema_in t) ts codes) is_df are

      -- a file after INPUT FROM is not read
      pub named_prevents : (faults : ℕ) (refusal : Refusal) → (refusal ≡ NoMemory) ⊎ OneIsNotRead later faults (inputs_of codes) refusal → Prevents files faults schema clients refusal
      unfolding texts_of
      named_prevents faults refusal (inl e) = lacks_memory e
      named_prevents faults refusal (inr h) =
          let d = denoted (schema_in df) ts codes are_codes in
          no_named_input texts_of is_clean d.trees d.are (subst (λ ns. OneIsNotRead files faults ns refusal) d.inputs (still_one files later same sound_observable h))

      -- the clients are begun
      pub is_ready : (units : ℕ) (denoted : SchemaData) (tasks : List ClientView) → denoted ≡ schema_in d → AreBegun later units (schema_in d).tables codes ts tasks → IsReady files schema clients units denoted tasks
      unfolding texts_of
      is_ready units denoted tasks schema_is begun =
          let done = begun_works files (schema_in df) units ts codes tasks are_codes (still_begun files later same sound_observable units (schema_in df).tables codes ts tasks (subst (λ t. AreBegun later units (schema_in t).tables codes ts tasks) is_df begun)) in
          record { texts = texts_of; clean = is_clean; schema_is = schema_is ∙ ap (λ (t : List ℕ). schema_in t) is_df; works = done.works; are = done.are; to_do = done.to_do }
