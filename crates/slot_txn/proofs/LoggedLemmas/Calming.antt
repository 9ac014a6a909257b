-- Parts of a call, one after another.
use Rattle.std.proofs.Common.{◌≡◌, ◌≢◌, inl, inr, ⊎_elim, ℕ, max, ◌+◌, ◌-◌, ◌<◌, ◌≤◌, ◌^◌, Bool, true, false, List, [], length, Option, IsTrue, refl, sym, ◌∙◌, ap, subst, arith}
use Rattle.std.proofs.Math.Logic.{∥∥₁_prop, ∥∥₁_map, ∥∥₁_elim}
use Rattle.std.proofs.lemmas.Bool.{cases_lt, true≢false}
use Rattle.std.specs.List.{flat_map}
use Rattle.storage.specs.faults.Faults.{Rose, counted}
use Rattle.storage.specs.Disk.{HasCause}
use Rattle.storage.specs.declared.slots.Undo.{Undo}
use Rattle.log_meaning.specs.steps.Steps.{Image, Run, Any}
use Rattle.log_meaning.proofs.StepsLemmas.Runs.{joined, started}
use Rattle.log_meaning.specs.declared.note.Note.{Note}
use Rattle.log_meaning.specs.Bytes.{note_bytes}
use Rattle.log_meaning.specs.Images.{Recovers}
use Rattle.bi_log.specs.declared.log.Log.{Log}
use Rattle.bi_log.specs.Buffer.{content}
use Rattle.bi_log.specs.Appending.{Held, with_batch, Appends}
use Rattle.bi_log.specs.Logs.{Keeps}
use Rattle.checkpoint.specs.kept.KeptLog.{KeptLog, Leaves}
use Rattle.checkpoint.proofs.KeptLemmas.Flushed.{settled_log, settle_leaves}
use Rattle.slot_txn.specs.logged.State.{faults_of}
use Rattle.slot_txn.specs.logged.Calls.{Calm}

pub rose_later : (a b c : ℕ) → a ≤ b → b ≤ c → Rose b c → Rose a c
rose_later a b c le up r = ⊎_elim
    (λ (more : a < c). inl more)
    (λ (none : c ≤ a). ⊎_elim (λ (x : b < c). absurd (omega (arith, x, none, le))) (λ (last : 2 ^ 64 ≤ b + 1). inr (omega (arith, last, none, le, up))) r)
    (cases_lt a c)

-- a part that makes no disk call
pub calm_none : (known : Bool) (was : ℕ) (left : ℕ → Image → Type 0) (reads committed : ℕ → List ℕ) (faults : ℕ) (failed : Bool) → failed ≡ false → ((m : ℕ) (image : Image) → left m image → m ≤ was) → Calm known known was was left left reads reads committed faults faults failed true
calm_none known was left reads committed faults failed usable top = record {
  same_observable = refl;
  past = started was left Any top;
  leaves = λ h m image later there. absurd (let past = top m image there in omega (arith, past, later));
  same_reads = λ h s. refl;
  later = omega arith;
  rose = λ e. absurd (true≢false e);
  broke = λ e. absurd (true≢false e);
  stays = λ e. (usable, refl);
}

-- a count that has come to its end
pub exhausted_later : (exhausted : Bool) (failures : ℕ) → exhausted ≡ false → faults_of exhausted failures ≤ faults_of true failures
exhausted_later exhausted failures fresh = subst (λ (b : Bool). faults_of b failures ≤ max failures (counted failures)) (sym fresh) (omega arith)

pub exhausted_rose : (exhausted : Bool) (failures : ℕ) → exhausted ≡ false → Rose (faults_of exhausted failures) (faults_of true failures)
exhausted_rose exhausted failures fresh = subst (λ (b : Bool). Rose (faults_of b failures) (max failures (counted failures))) (sym fresh)
    (⊎_elim (λ (room : failures < 2 ^ 64 - 1). inl (omega (arith, room))) (λ (last : 2 ^ 64 - 1 ≤ failures). inr (omega (arith, last))) (cases_lt failures (2 ^ 64 - 1)))

pub calm_exhausted : (known : Bool) (was : ℕ) (left : ℕ → Image → Type 0) (reads committed : ℕ → List ℕ) (exhausted : Bool) (failures : ℕ) → exhausted ≡ false → ((m : ℕ) (image : Image) → left m image → m ≤ was) → Calm known known was was left left reads reads committed (faults_of exhausted failures) (faults_of true failures) true false
calm_exhausted known was left reads committed exhausted failures fresh top = record {
  same_observable = refl;
  past = started was left Any top;
  leaves = λ h m image later there. absurd (let past = top m image there in omega (arith, past, later));
  same_reads = λ h s. refl;
  later = exhausted_later exhausted failures fresh;
  rose = λ e. exhausted_rose exhausted failures fresh;
  broke = λ e. refl;
  stays = λ e. absurd (true≢false (sym e));
}

-- a part that calls the disk, where no count has come to its end
pub calm_call : (known known' : Bool) (was now : ℕ) (left left' : ℕ → Image → Type 0) (reads reads' committed : ℕ → List ℕ) (exhausted : Bool) (failures failures' : ℕ) (failed ok : Bool) → exhausted ≡ false → known' ≡ known → Run was now left left' Any
    → (IsTrue known → Leaves was left' committed) → (IsTrue known → (s : ℕ) → reads' s ≡ reads s) → HasCause failures failures' ok → (ok ≡ false → failed ≡ true) → (ok ≡ true → failed ≡ false)
    → Calm known known' was now left left' reads reads' committed (faults_of exhausted failures) (faults_of exhausted failures') failed ok
calm_call known known' was now left left' reads reads' committed exhausted failures failures' failed ok fresh same run leaves view cause broke usable = record {
  same_observable = same;
  past = run;
  leaves = leaves;
  same_reads = view;
  later = subst (λ (b : Bool). faults_of b failures ≤ faults_of b failures') (sym fresh) cause.later;
  rose = λ e. subst (λ (b : Bool). Rose (faults_of b failures) (faults_of b failures')) (sym fresh) (cause.rose e);
  broke = broke;
  stays = λ e. (usable e, ap (faults_of exhausted) (cause.stays e));
}

-- the same answer
pub calm_as : (known known' : Bool) (was now : ℕ) (left left' : ℕ → Image → Type 0) (reads reads' committed : ℕ → List ℕ) (faults faults' : ℕ) (failed ok ok' : Bool) → ok' ≡ ok → Calm known known' was now left left' reads reads' committed faults faults' failed ok → Calm known known' was now left left' reads reads' committed faults faults' failed ok'
calm_as known known' was now left left' reads reads' committed faults faults' failed ok ok' same calm = subst (λ (x : Bool). Calm known known' was now left left' reads reads' committed faults faults' failed x) (sym same) calm

-- one part after another
pub calm_twice : (a b c : Bool) (l m n : ℕ) (x y z : ℕ → Image → Type 0) (r s t committed committed' : ℕ → List ℕ) (p q o : ℕ) (failed' failed'' ok : Bool)
    → Calm a b l m x y r s committed p q failed' true → Calm b c m n y z s t committed' q o failed'' ok → (IsTrue a → committed' ≡ committed) → Calm a c l n x z r t committed p o failed'' ok
calm_twice a b c l m n x y z r s t committed committed' p q o failed' failed'' ok one two same = record {
  same_observable = two.same_observable ∙ one.same_observable;
  past = joined l m n x y z Any Any Any one.past two.past (λ d i k h. tt) (λ d i k h g. tt) (λ d e i k h g j. tt);
  leaves = λ known k image later there. ⊎_elim
      (λ (fresh : m < k). subst (λ (w : ℕ → List ℕ). ∥ Recovers image w ∥₁) (same known) (two.leaves (subst (λ (v : Bool). IsTrue v) (sym one.same_observable) known) k image fresh there))
      (λ (past : k ≤ m). one.leaves known k image later (two.past.nothing_else k image past there))
      (cases_lt m k);
  same_reads = λ known i. two.same_reads (subst (λ (v : Bool). IsTrue v) (sym one.same_observable) known) i ∙ one.same_reads known i;
  later = let u = one.later in let v = two.later in omega (arith, u, v);
  rose = λ e. rose_later p q o one.later two.later (two.rose e);
  broke = two.broke;
  stays = λ e. let h = two.stays e in (h.0, h.1 ∙ (one.stays refl).1);
}

-- a buffer that is not empty has notes
pub some_notes : (log : Log) (left : Image → Type 0) (held : Held) (notes : List Note) → Keeps log left held notes → (length (content log.buffer) ≡ 0 → ⊥) → notes ≢ []
some_notes log left held notes k some is = some (ap (λ (l : List ℕ). length l) k.notes.bytes ∙ ap (λ (l : List Note). length (flat_map note_bytes l)) is)

module _ (committed reads : ℕ → List ℕ) (was now : ℕ) (left left' : ℕ → Image → Type 0) (log log' : Log) (un : ℕ → Option ℕ) (number : ℕ → Option ℕ) (list : ℕ → List Undo) (g e f n : ℕ)
    (kept : ∥ KeptLog committed reads (left was) log un number list g e f n ∥₁) (some : length (content log.buffer) ≡ 0 → ⊥)
    (run : (held : Held) (notes : List Note) → Keeps log (left was) held notes → notes ≢ [] → Run was now left left' (Appends log.area held notes)) where
  -- a flush is calm
  pub flush_leaves : Leaves was left' committed
  flush_leaves m image later there = ∥∥₁_elim kept ∥∥₁_prop (λ k. settle_leaves committed reads was now left left' log log' un number list g e f n k (run k.held k.buffered k.keeps (some_notes log (left was) k.held k.buffered k.keeps some)) m image later there)

  -- and keeps the log
  pub flush_keeps : ((held : Held) (notes : List Note) → Keeps log (left was) held notes → notes ≢ [] → Keeps log' (left' now) (with_batch held notes) []) → log'.area ≡ log.area → ∥ KeptLog committed reads (left' now) log' un number list g e f n ∥₁
  flush_keeps ok area = ∥∥₁_map kept (λ k.
      let some_of = some_notes log (left was) k.held k.buffered k.keeps some in
      settled_log committed reads was now left left' log log' un number list g e f n k (run k.held k.buffered k.keeps some_of) (ok k.held k.buffered k.keeps some_of) area)
