-- Parts of a call in the words of the trait, one after another.
use Rattle.std.proofs.Common.{◌≡◌, ◌⊎◌, inl, inr, ⊎_elim, ℕ, zero, suc, ◌<◌, ◌≤◌, Bool, true, List, [], ◌∷◌, is_some, Option, None, Result, IsTrue, refl, sym, ◌∙◌, ap, subst, arith}
use Rattle.std.proofs.Math.Logic.{∥∥₁_map}
use Rattle.std.proofs.lemmas.Bool.{cases_lt, true≢false}
use Rattle.storage.specs.faults.Faults.{Rose}
use Rattle.storage.specs.declared.slots.SlotFault.{SlotFault}
use Rattle.storage.specs.Slots.{SlotState, HasCause, KeepsCommitted, Rests, Goes, undone}
use Rattle.log_meaning.specs.steps.Steps.{Image}
use Rattle.open_transactions.specs.declared.client.Client.{Client}
use Rattle.open_transactions.specs.declared.transactions.Transactions.{Transactions}
use Rattle.open_transactions.specs.Clients.{transaction_in, lists, due, list_in, number_in}
use Rattle.slot_txn.specs.logged.State.{state_of, in_doubt}
use Rattle.slot_txn.specs.logged.Stops.{Stops}
use Rattle.slot_txn.specs.logged.Calls.{Calm}
use Rattle.slot_txn.proofs.LoggedLemmas.Calming.{rose_later, calm_twice}
use Rattle.slot_txn.proofs.LoggedLemmas.Recoverable.{left_only}
use Rattle.slot_txn.proofs.LoggedLemmas.Commits.{goes_on}
use Rattle.slot_txn.proofs.LoggedLemmas.States.{as_one}

pub keeps_twice : (a b c : SlotState) → KeepsCommitted a b → KeepsCommitted b c → KeepsCommitted a c
keeps_twice a b c one two = record {
  observable = two.observable ∙ one.observable;
  committed = λ known. two.committed (subst (λ (x : Bool). IsTrue x) (sym one.observable) known) ∙ one.committed known;
  doubt = λ known. two.doubt (subst (λ (x : Bool). IsTrue x) (sym one.observable) known) ∙ one.doubt known;
}

pub rests_twice : (a b c : SlotState) → b.failed ≡ a.failed → Rests a b → Rests b c → Rests a c
rests_twice a b c same one two = record {
  keeps = keeps_twice a b c one.keeps two.keeps;
  reads = λ h. two.reads (subst (λ (x : Bool). IsTrue x) (sym one.keeps.observable) (h.0), same ∙ h.1) ∙ one.reads h;
  transaction = two.transaction ∙ one.transaction;
}

-- where no commit is in doubt after the first part
pub goes_twice : (a b c : SlotState) (x y z : ℕ → (ℕ → List ℕ) → Type 0) → Goes a b x y → Goes b c y z → (IsTrue a.observable → b.committed ≡ a.committed) → (IsTrue a.observable → b.doubt ≡ a.committed) → ((m : ℕ) (slots : ℕ → List ℕ) → z m slots → IsTrue a.observable) → Goes a c x z
goes_twice a b c x y z one two same sure known = record {
  later = let u = one.later in let v = two.later in omega (arith, u, v);
  since = two.since ∙ one.since;
  short = two.short ∙ one.short;
  nothing_else = λ m slots le st. one.nothing_else m slots le (two.nothing_else m slots (let u = one.later in omega (arith, le, u)) st);
  stays = λ m slots le st. two.stays m slots (let u = one.later in omega (arith, le, u)) (one.stays m slots le st);
  here = λ m slots later st. ⊎_elim
      (λ (fresh : b.moment < m). ∥∥₁_map (two.here m slots fresh st) (λ (e : (slots ≡ b.committed) ⊎ (slots ≡ c.doubt)). ⊎_elim (λ (before : slots ≡ b.committed). inl (before ∙ same (known m slots st))) (λ (after : slots ≡ c.doubt). inr after) e))
      (λ (past : m ≤ b.moment). ∥∥₁_map (one.here m slots later (two.nothing_else m slots past st)) (λ (e : (slots ≡ a.committed) ⊎ (slots ≡ b.doubt)). ⊎_elim (λ (before : slots ≡ a.committed). inl before) (λ (after : slots ≡ b.doubt). inl (after ∙ sure (known m slots st))) e))
      (cases_lt b.moment m);
}

-- the same transactions over the same view
pub committed_same : (t t' : Transactions) (v v' : ℕ → List ℕ) → t' ≡ t → ((s : ℕ) → v' s ≡ v s) → undone (lists t'.clients.items) v' ≡ undone (lists t.clients.items) v
committed_same t t' v v' is same = ap (λ (x : Transactions). undone (lists x.clients.items) v') is ∙ ap (undone (lists t.clients.items)) (as_one same)

module _ (known known' : Bool) (view view' : ℕ → List ℕ) (was now : ℕ) (left left' : ℕ → Image → Type 0) (faults faults' : ℕ) (t t' : Transactions) (failed failed' ok : Bool) (doubtful doubtful' : Option ℕ) (since since' : ℕ) (short short' : Bool)
    (calm : Calm known known' was now left left' view view' (undone (lists t.clients.items) view) faults faults' failed' ok)
    (same : t' ≡ t) (d : doubtful' ≡ doubtful) (s : since' ≡ since) (h : short' ≡ short) where
  abbrev pub before : SlotState
  before = state_of known view was faults t.clients.items failed doubtful since short

  abbrev pub after : SlotState
  after = state_of known' view' now faults' t'.clients.items failed' doubtful' since' short'

  -- a calm part rests
  pub calm_rests : Rests before after
  calm_rests = record {
    keeps = record {
      observable = calm.same_observable;
      committed = λ k. committed_same t t' view view' same (calm.same_reads k);
      doubt = λ k. ap (λ (x : Transactions). undone (in_doubt doubtful' x.clients.items) view') same ∙ ap (λ (x : Option ℕ). undone (in_doubt x t.clients.items) view') d ∙ ap (undone (in_doubt doubtful t.clients.items)) (as_one (calm.same_reads k));
    };
    reads = λ r. ap (λ (x : Transactions). undone (due x.clients.items) view') same ∙ ap (undone (due t.clients.items)) (as_one (calm.same_reads (r.0)));
    transaction = ap (λ (x : Transactions). transaction_in x.clients.items) same;
  }

  pub calm_goes : since ≤ was → Goes before after (Stops known since was left) (Stops known' since' now left')
  calm_goes past = goes_on before after left left' calm.past s h calm.same_observable past
      (λ m slots later st. ∣ inl (left_only (st.3.0) (undone (lists t.clients.items) view) slots (calm.leaves (subst (λ (x : Bool). IsTrue x) calm.same_observable (st.0)) m (st.3.0) later (st.3.1)) (st.3.2)) ∣₁)

-- where the first part changed no count
pub cause_after : {T : Type 0} (a b c : SlotState) (result : Result T SlotFault) → b.faults ≡ a.faults → b.failed ≡ a.failed → HasCause b c result → HasCause a c result
cause_after a b c result faults failed h = record {
  later = let l = h.later in omega (arith, l, faults);
  disk = λ e. ⊎_elim (λ (r : Rose b.faults c.faults). inl (subst (λ (n : ℕ). Rose n c.faults) faults r)) (λ (f : IsTrue b.failed). inr (subst (λ (x : Bool). IsTrue x) failed f)) (h.disk e);
  failed = h.failed;
  stays = λ none. h.stays none ∙ failed;
}

-- one part after another, the first of them answered Ok
pub cause_twice : {T : Type 0} (a b c : SlotState) (result : Result T SlotFault) → a.faults ≤ b.faults → b.failed ≡ a.failed → HasCause b c result → HasCause a c result
cause_twice a b c result up failed h = record {
  later = let l = h.later in omega (arith, l, up);
  disk = λ e. ⊎_elim (λ (r : Rose b.faults c.faults). inl (rose_later a.faults b.faults c.faults up h.later r)) (λ (f : IsTrue b.failed). inr (subst (λ (x : Bool). IsTrue x) failed f)) (h.disk e);
  failed = h.failed;
  stays = λ none. h.stays none ∙ failed;
}

-- nothing
pub rests_none : (a : SlotState) → Rests a a
rests_none a = record { keeps = record { observable = refl; committed = λ k. refl; doubt = λ k. refl }; reads = λ h. refl; transaction = refl }

-- a client without a number has no write
pub numbered_in : (cs : List Client) (k : ℕ) → number_in cs k ≡ None → list_in cs k ≡ []
numbered_in [] k none = refl
numbered_in (c ∷ cs) zero none = c.numbered none
numbered_in (c ∷ cs) (suc k) none = numbered_in cs k none

-- a begun transaction has one
pub begun_number : (cs : List Client) (k : ℕ) → (transaction_in cs k).begun ≡ true → number_in cs k ≡ None → ⊥
begun_number [] k begun none = true≢false (sym begun)
begun_number (c ∷ cs) zero begun none = true≢false (sym (c.has_number begun) ∙ ap (λ (o : Option ℕ). is_some o) none)
begun_number (c ∷ cs) (suc k) begun none = begun_number cs k begun none

-- a calm part after another
pub calm_after : (a b c : Bool) (l m n : ℕ) (x y z : ℕ → Image → Type 0) (r s u : ℕ → List ℕ) (p q o : ℕ) (failed' failed'' ok : Bool) (t t' : Transactions)
    → Calm a b l m x y r s (undone (lists t.clients.items) r) p q failed' true → t' ≡ t → Calm b c m n y z s u (undone (lists t'.clients.items) s) q o failed'' ok → Calm a c l n x z r u (undone (lists t.clients.items) r) p o failed'' ok
calm_after a b c l m n x y z r s u p q o failed' failed'' ok t t' one is two = calm_twice a b c l m n x y z r s u (undone (lists t.clients.items) r) (undone (lists t'.clients.items) s) p q o failed' failed'' ok one two (λ known. committed_same t t' r s is (one.same_reads known))
