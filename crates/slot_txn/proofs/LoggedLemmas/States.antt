-- The state after the transactions have changed and the disk has not.
use Rattle.std.proofs.Common.{◌≡◌, ◌≢◌, ℕ, ◌+◌, ◌*◌, ◌<◌, Bool, List, [], Option, Some, None, refl, sym, ◌∙◌, ap, subst, arith}
use Rattle.std.proofs.Math.Logic.{∥∥₁_map}
use Rattle.storage.specs.declared.slots.Undo.{Undo}
use Rattle.storage.specs.Slots.{SlotState, KeepsCommitted, Rests, Goes, undone, joined}
use Rattle.log_meaning.specs.steps.Steps.{Image}
use Rattle.bi_log.specs.declared.log.Log.{Log}
use Rattle.open_transactions.specs.declared.client.Client.{Client}
use Rattle.open_transactions.specs.Clients.{transaction_in, lists, lists_but, due, list_in, number_in, NothingDue, AreApart}
use Rattle.open_transactions.proofs.Changed.{nothing_due, whole_list}
use Rattle.open_transactions.proofs.Doubt.{but_joined}
use Rattle.checkpoint.proofs.KeptLemmas.Began.{began_log}
use Rattle.checkpoint.specs.kept.KeptLog.{KeptLog}
use Rattle.slot_txn.specs.logged.State.{state_of, in_doubt}
use Rattle.slot_txn.specs.logged.Stops.{Stops}

-- time stands still
pub goes_still : (old new : SlotState) (known : Bool) (since time : ℕ) (left : ℕ → Image → Type 0) → old.moment ≡ time → new.moment ≡ old.moment → new.since ≡ old.since → new.short ≡ old.short → Goes old new (Stops known since time left) (Stops known since time left)
goes_still old new known since time left at same s h = record {
  later = omega (arith, same);
  since = s;
  short = h;
  nothing_else = λ m slots le st. st;
  stays = λ m slots le st. st;
  here = λ m slots later st. absurd (let past = st.2 in omega (arith, past, later, at));
}

pub as_one : {A : Type 0} {f g : ℕ → A} → ((k : ℕ) → f k ≡ g k) → f ≡ g
as_one same = λ i k. same k i

module _ (known : Bool) (view : ℕ → List ℕ) (time faults : ℕ) (cs cs' : List Client) (failed : Bool) (doubtful : Option ℕ) (since : ℕ) (short : Bool) where
  abbrev pub was : SlotState
  was = state_of known view time faults cs failed doubtful since short

  abbrev pub now : SlotState
  now = state_of known view time faults cs' failed doubtful since short

  same_doubt : (d : Option ℕ) → lists cs' ≡ lists cs → ((k : ℕ) → lists_but k cs' ≡ lists_but k cs) → in_doubt d cs' ≡ in_doubt d cs
  same_doubt None all but = all
  same_doubt (Some c) all but = but c

  -- the writes that the slots have stay
  pub keeps : lists cs' ≡ lists cs → ((k : ℕ) → lists_but k cs' ≡ lists_but k cs) → KeepsCommitted was now
  keeps all but = record {
    observable = refl;
    committed = λ h. ap (λ (us : List Undo). undone us view) all;
    doubt = λ h. ap (λ (us : List Undo). undone us view) (same_doubt doubtful all but);
  }

  pub rests : lists cs' ≡ lists cs → ((k : ℕ) → lists_but k cs' ≡ lists_but k cs) → due cs' ≡ due cs → transaction_in cs' ≡ transaction_in cs → Rests was now
  rests all but dues same = record { keeps = keeps all but; reads = λ h. ap (λ (us : List Undo). undone us view) dues; transaction = same }

-- the log is kept where the writes that the slots have stay, and the numbers
pub same_log : (reads : ℕ → List ℕ) (left : Image → Type 0) (log : Log) (un : ℕ → Option ℕ) (cs cs' : List Client) (g e f n : ℕ) → lists cs' ≡ lists cs → number_in cs' ≡ number_in cs → list_in cs' ≡ list_in cs
    → ∥ KeptLog (undone (lists cs) reads) reads left log un (number_in cs) (list_in cs) g e f n ∥₁ → ∥ KeptLog (undone (lists cs') reads) reads left log un (number_in cs') (list_in cs') g e f n ∥₁
same_log reads left log un cs cs' g e f n all numbers list kept =
    subst (λ (us : List Undo). ∥ KeptLog (undone us reads) reads left log un (number_in cs') (list_in cs') g e f n ∥₁) (sym all)
    (subst (λ (f' : ℕ → Option ℕ). ∥ KeptLog (undone (lists cs) reads) reads left log un f' (list_in cs') g e f n ∥₁) (sym numbers)
    (subst (λ (f' : ℕ → List Undo). ∥ KeptLog (undone (lists cs) reads) reads left log un (number_in cs) f' g e f n ∥₁) (sym list) kept))

-- and after a transaction has begun
pub began_keeps : (reads : ℕ → List ℕ) (left : Image → Type 0) (log : Log) (un : ℕ → Option ℕ) (cs cs' : List Client) (g e f n c tx : ℕ) → number_in cs' c ≡ Some tx → ((d : ℕ) → d ≢ c → number_in cs' d ≡ number_in cs d) → lists cs' ≡ lists cs → list_in cs' ≡ list_in cs → list_in cs c ≡ [] → tx ≡ 16 * n + c → c < 16
    → ∥ KeptLog (undone (lists cs) reads) reads left log un (number_in cs) (list_in cs) g e f n ∥₁ → ∥ KeptLog (undone (lists cs') reads) reads left log un (number_in cs') (list_in cs') g e f (n + 1) ∥₁
began_keeps reads left log un cs cs' g e f n c tx is others all list none tx_is client kept =
    subst (λ (us : List Undo). ∥ KeptLog (undone us reads) reads left log un (number_in cs') (list_in cs') g e f (n + 1) ∥₁) (sym all)
    (subst (λ (f' : ℕ → List Undo). ∥ KeptLog (undone (lists cs) reads) reads left log un (number_in cs') f' g e f (n + 1) ∥₁) (sym list)
    (∥∥₁_map kept (λ k. began_log (undone (lists cs) reads) reads left log un (number_in cs) (number_in cs') (list_in cs) g e f n c tx k is others none tx_is client)))

-- ---- the state before and after a commit, where nothing is due

module _ (cs : List Client) (client : ℕ) (view view' : ℕ → List ℕ) (none_due : NothingDue cs) (same : view' ≡ view) where
  pub reads_are : undone (due cs) view ≡ view
  reads_are = ap (λ (us : List Undo). undone us view) (nothing_due cs none_due)

  -- what is joined, by the transaction and by the list of the client
  pub joined_are : joined (list_in cs client) view (undone (lists cs) view) ≡ joined (transaction_in cs client).undo (undone (due cs) view) (undone (lists cs) view)
  joined_are = ap (λ (us : List Undo). joined us view (undone (lists cs) view)) (sym (whole_list cs client (none_due client))) ∙ ap (λ (v : ℕ → List ℕ). joined (transaction_in cs client).undo v (undone (lists cs) view)) (sym reads_are)

  pub in_doubt_is : AreApart cs → undone (lists_but client cs) view' ≡ joined (list_in cs client) view (undone (lists cs) view)
  in_doubt_is apart = ap (undone (lists_but client cs)) same ∙ as_one (but_joined cs client apart view)

  module _ (cs' : List Client) (none_due' : NothingDue cs') (joins : (slots : ℕ → List ℕ) (s : ℕ) → undone (lists cs') slots s ≡ joined (list_in cs client) slots (undone (lists cs) slots) s) where
    pub reads_stay : undone (due cs') view' ≡ undone (due cs) view
    reads_stay = ap (λ (us : List Undo). undone us view') (nothing_due cs' none_due') ∙ same ∙ sym reads_are

    pub committed_is : undone (lists cs') view' ≡ joined (list_in cs client) view (undone (lists cs) view)
    committed_is = ap (undone (lists cs')) same ∙ as_one (joins view)
