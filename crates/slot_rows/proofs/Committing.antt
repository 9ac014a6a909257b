-- A commit after sequence values were written.
use Rattle.std.proofs.Common.{◌≡◌, ◌≢◌, ◌⊎◌, inl, inr, ⊎_elim, ℕ, ◌<◌, ◌≤◌, Bool, true, false, cond, List, IsTrue, ℤ, refl, sym, ap, ◌∙◌, subst, arith}
use Rattle.std.proofs.Math.Logic.{∥∥₁_map}
use Rattle.std.proofs.Math.Path.{fun_ext}
use Rattle.std.proofs.lemmas.Bool.{cases_eq, cases_lt}
use Rattle.storage.specs.Slots.{SlotState, Transaction, Commits, Fails, Goes, IsReadable, IsStop, KeepsCommitted, wrote}
use Rattle.row_fragments.specs.Fragments.{ends}
use Rattle.row_fragments.proofs.Composes.{readable_on}
use Rattle.sequence_slots.specs.Values.{HoldValues}
use Rattle.sequence_slots.specs.writes.Wrote.{WroteLow, committed_by}
use Rattle.slot_rows.specs.Commits.{CommitsValues, FailsValues}

-- the slots for rows that a commit would leave
rows_by : (s m : SlotState) (client : ℕ) → KeepsCommitted s m → WroteLow s m client → IsReadable s → (k : ℕ) → ends k ≡ false → committed_by m client k ≡ committed_by s client k
rows_by s m client keeps low readable k inside =
    ap (λ (b : Bool). cond b (m.reads k) (m.committed k)) (low.rows k inside)
    ∙ (ap (λ (x : List ℕ). cond (wrote (s.transaction client).undo k) x (m.committed k)) (low.reads readable k (inl inside))
    ∙ ap (λ (f : ℕ → List ℕ). cond (wrote (s.transaction client).undo k) (s.reads k) (f k)) (keeps.committed readable.0))

module _ (s m t : SlotState) (client : ℕ) (values : List ℤ) (keeps : KeepsCommitted s m) (others : (c : ℕ) → c ≢ client → m.transaction c ≡ s.transaction c) (low : WroteLow s m client)
    (held : IsReadable s → HoldValues (committed_by m client) values) where
  there : IsReadable s → IsReadable m
  there readable = readable_on s m keeps.observable low.failed readable

  pub commits_values : Commits m t client → CommitsValues s t client values
  commits_values c = record {
    observable = c.observable ∙ keeps.observable;
    reads = λ readable k inside. ap (λ (f : ℕ → List ℕ). f k) (c.reads (there readable)) ∙ low.reads readable k (inl inside);
    committed = λ readable k inside. ap (λ (f : ℕ → List ℕ). f k) (c.committed (there readable).0) ∙ rows_by s m client keeps low readable k inside;
    held = λ readable. subst (λ (f : ℕ → List ℕ). HoldValues f values) (sym (c.committed (there readable).0)) (held readable);
    settled = λ readable k. by_wrote readable k (wrote (m.transaction client).undo k) refl;
    doubt = λ seen. c.doubt (subst (λ (b : Bool). IsTrue b) (sym keeps.observable) seen);
    transaction = record {
      others = λ d ne. c.transaction.others d ne ∙ others d ne;
      begun = c.transaction.begun;
      undo = c.transaction.undo;
      written = c.transaction.written;
      counted = c.transaction.counted;
      low = c.transaction.low;
      room = c.transaction.room;
    };
  }
    where
      by_wrote : IsReadable s → (k : ℕ) (b : Bool) → wrote (m.transaction client).undo k ≡ b → (t.committed k ≡ t.reads k) ⊎ ((t.committed k ≡ s.committed k) × (t.reads k ≡ s.reads k))
      by_wrote readable k true w = inl (
          ap (λ (f : ℕ → List ℕ). f k) (c.committed (there readable).0)
          ∙ (ap (λ (b : Bool). cond b (m.reads k) (m.committed k)) w ∙ sym (ap (λ (f : ℕ → List ℕ). f k) (c.reads (there readable))))
          )
      by_wrote readable k false w = inr (
        ap (λ (f : ℕ → List ℕ). f k) (c.committed (there readable).0)
            ∙ (ap (λ (b : Bool). cond b (m.reads k) (m.committed k)) w ∙ ap (λ (f : ℕ → List ℕ). f k) (keeps.committed readable.0)),
        ap (λ (f : ℕ → List ℕ). f k) (c.reads (there readable)) ∙ low.reads readable k (inr w),
      )

  pub fails_values : ((c : ℕ) → (m.transaction c).begun ≡ (s.transaction c).begun) → Fails m t client → FailsValues s t client values
  fails_values begun f = record {
    observable = f.observable ∙ keeps.observable;
    committed = λ seen. f.committed (subst (λ (b : Bool). IsTrue b) (sym keeps.observable) seen) ∙ keeps.committed seen;
    doubt = λ readable. ⊎_elim
        (λ (e : t.doubt ≡ m.doubt). inl (e ∙ keeps.doubt readable.0))
        (λ (h : (m.failed ≡ false) × (t.doubt ≡ committed_by m client)). inr (
          λ k inside. ap (λ (f : ℕ → List ℕ). f k) h.1 ∙ rows_by s m client keeps low readable k inside,
          subst (λ (f : ℕ → List ℕ). HoldValues f values) (sym h.1) (held readable),
        ))
        (f.doubt (there readable).0);
    begun = λ c. ap (λ (g : ℕ → Transaction). (g c).begun) f.transaction ∙ begun c;
  }

-- each transaction is begun where it was
pub begun_all : (s m : SlotState) (client : ℕ) → ((c : ℕ) → c ≢ client → m.transaction c ≡ s.transaction c) → (m.transaction client).begun ≡ (s.transaction client).begun → (c : ℕ) → (m.transaction c).begun ≡ (s.transaction c).begun
begun_all s m client others own c = elim (cases_eq c client) [
  | inl is ↦ ap (λ (d : ℕ). (m.transaction d).begun) is ∙ (own ∙ ap (λ (d : ℕ). (s.transaction d).begun) (sym is))
  | inr ne ↦ ap (λ (x : Transaction). x.begun) (others c ne)
]

-- the values could not be written
pub fails_early : (s m : SlotState) (client : ℕ) (values : List ℤ) → KeepsCommitted s m → ((c : ℕ) → (m.transaction c).begun ≡ (s.transaction c).begun) → FailsValues s m client values
fails_early s m client values keeps begun = record { observable = keeps.observable; committed = keeps.committed; doubt = λ readable. inl (keeps.doubt readable.0); begun = begun }

-- time over the writes and then the commit
pub goes_on_to_commit : (a b c : SlotState) (at_a at_b at_c : ℕ → (ℕ → List ℕ) → Type 0) → KeepsCommitted a b → a.failed ≡ false → (IsReadable a → (k : ℕ) → a.doubt k ≡ a.committed k) → c.observable ≡ b.observable
    → ((m : ℕ) (slots : ℕ → List ℕ) → at_c m slots → IsStop c m) → Goes a b at_a at_b → Goes b c at_b at_c → Goes a c at_a at_c
goes_on_to_commit a b c at_a at_b at_c keeps fine certain seen stop f s = record {
  later = let x = f.later in let y = s.later in omega (arith, x, y);
  since = s.since ∙ f.since;
  short = s.short ∙ f.short;
  nothing_else = λ m slots past h. f.nothing_else m slots past (s.nothing_else m slots (let x = f.later in omega (arith, past, x)) h);
  stays = λ m slots past h. s.stays m slots (let x = f.later in omega (arith, past, x)) (f.stays m slots past h);
  here = λ m slots now h.
      let seen_a : IsTrue a.observable = subst (λ (v : Bool). IsTrue v) (seen ∙ keeps.observable) (stop m slots h).observable in
      ⊎_elim
      (λ (later : b.moment < m). ∥∥₁_map (s.here m slots later h) (λ (which : (slots ≡ b.committed) ⊎ (slots ≡ c.doubt)). ⊎_elim (λ (e : slots ≡ b.committed). inl (e ∙ keeps.committed seen_a)) (λ e. inr e) which))
      (λ (past : m ≤ b.moment). ∥∥₁_map (f.here m slots now (s.nothing_else m slots past h)) (λ (which : (slots ≡ a.committed) ⊎ (slots ≡ b.doubt)). inl (
      ⊎_elim (λ (e : slots ≡ a.committed). e) (λ (e : slots ≡ b.doubt). e ∙ (keeps.doubt seen_a ∙ fun_ext (certain (seen_a, fine)))) which
      )))
      (cases_lt b.moment m);
}
