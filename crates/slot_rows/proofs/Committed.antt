-- A commit, said of the state of a store.
use Rattle.std.proofs.Common.{◌≡◌, ◌≢◌, inl, inr, ⊎_elim, ℕ, ◌+◌, ◌-◌, ◌^◌, ◌<◌, ◌≤◌, ◌==◌, ◌&&◌, not, cond, Bool, true, false, List, [], length, drop, slice_index_or, slice_set, Result, Ok, Err, OnOk, OnErr, IsErrOf, IsTrue, ℤ, refl, sym, ap, ◌∙◌, subst, arith}
use Rattle.std.proofs.Math.Logic.{∥∥₁_map}
use Rattle.std.proofs.Math.Path.{fun_ext}
use Rattle.std.proofs.lemmas.Bool.{cases_eq}
use Rattle.std.proofs.lemmas.Bool.Decides.{nat_tests}
use Rattle.storage.specs.Slots as storage
use Rattle.storage.specs.Slots.{SlotState, Transaction, Becomes, Commits, Goes, HasCause, IsReadable, IsStop, wrote}
use Rattle.storage.specs.declared.slots.Undo.{Undo}
use Rattle.storage.specs.declared.slots.SlotFault.TheVariants.{Disk as SlotDisk, TxFull, NoMemory as SlotMemory}
use Rattle.abl_values.specs.Schema.{SchemaData}
use Rattle.database_meaning.specs.declared.state.Key.{Key}
use Rattle.row_fragments.specs.Chains.{AreChains}
use Rattle.row_fragments.specs.Fragments.{ends}
use Rattle.byte_rows.specs.declared.places.Place.{Place as SlotPlace}
use Rattle.byte_rows.specs.declared.client.Client.{Client}
use Rattle.byte_rows.specs.declared.fault.ChainFault.{ChainFault}
use Rattle.byte_rows.specs.declared.fault.ChainFault.TheVariants.{Full, Slot}
use Rattle.byte_rows.specs.Noted.{IsSound}
use Rattle.byte_rows.specs.Rows.{of_slots}
use Rattle.row_store.specs.Changes.{RowsById, has_change, undone}
use Rattle.row_store.specs.Rows.{Durable, joined}
use Rattle.row_store.specs.Rows as rows
use Rattle.row_store.specs.Times.{IsInDoubt}
use Rattle.sequence_slots.specs.Values.{HoldValues, values_in}
use Rattle.sequence_slots.proofs.Reading.{values_read}
use Rattle.sequence_slots.specs.writes.Wrote.{committed_by}
use Rattle.slot_rows.specs.Chained.{HaveChains}
use Rattle.slot_rows.specs.Commits.{CommitsValues, FailsValues}
use Rattle.slot_rows.specs.Durable.{durable_in, times_in}
use Rattle.slot_rows.specs.Quiet.{IsQuiet}
use Rattle.slot_rows.specs.declared.log.Undone.{Undone}
use Rattle.slot_rows.specs.declared.open.Open.{Open}
use Rattle.slot_rows.specs.Counted.{AreCounted, after_all, before_all}
use Rattle.slot_rows.specs.Decoded.{decoded}
use Rattle.slot_rows.specs.Mixes.{IsMixed, slots_of}
use Rattle.slot_rows.specs.Opens.{OpenView, log_in, no_open, open_in, touched_in, view_of}
use Rattle.slot_rows.specs.State.{Reserved, rows_if, state_of, transaction_of}
use Rattle.slot_rows.specs.Stored.{IsStored, changes_of, mark_in}
use Rattle.slot_rows.proofs.Assembles.{stored_failed}
use Rattle.slot_rows.proofs.Changed.{open_set_other, open_set_same, rows_known, same_rows, sound_apart, stored_same}
use Rattle.slot_rows.proofs.Chaining.{stops_go}
use Rattle.slot_rows.proofs.Closed.{committed_chains, committed_rows, stored_closed}
use Rattle.slot_rows.proofs.Errors.{and_parts}
use Rattle.slot_rows.proofs.Histories.{IsApart}
use Rattle.slot_rows.proofs.Keeps.{slots_apart}
use Rattle.slot_rows.proofs.Lists.{undone_rest, wrote_drop}
use Rattle.slot_rows.proofs.LowSlots.{chains_same, decoded_same, stored_there, with_slots}
use Rattle.slot_rows.proofs.Methods.{old_view, same_all}
use Rattle.slot_rows.proofs.Quiet.{quiet_commits, quiet_failed}
use Rattle.slot_rows.proofs.Weights.{counted_joined}

known : (b : Bool) (x : RowsById) → IsTrue b → rows_if b x ≡ x
known b x is = ap (λ (v : Bool). rows_if v x) is

abbrev durable : List ℤ → RowsById → Durable
durable sequences present = record { rows = present; sequences = sequences }

-- ---- what a commit would leave

module _ (schema : SchemaData) (s : SlotState) (log : ℕ → List Undone) (touched : ℕ → List ℕ) (client : ℕ) (stored : IsStored schema s log touched) (lt : client < 16)
    (past : (c : ℕ) → 16 ≤ c → (s.transaction c).begun ≡ false) (apart_s : IsApart (slots_of s)) where
  abbrev none : Transaction
  none = record { begun = false; undo = []; written = λ k. false; counted = 0; low = 0; room = 0 }

  abbrev after : {V : Type 0} → V → (ℕ → V) → ℕ → V
  after own others c = cond (c == client) own (others c)

  after_own : {V : Type 0} (own : V) (others : ℕ → V) → after own others client ≡ own
  after_own own others = let same : (client == client) ≡ true = grind (arith, nat_tests) in ap (λ (b : Bool). cond b own (others client)) same

  after_other : {V : Type 0} (own : V) (others : ℕ → V) (c : ℕ) → c ≢ client → after own others c ≡ others c
  after_other own others c ne = let apart : (c == client) ≡ false = grind (arith, nat_tests, ne) in ap (λ (b : Bool). cond b own (others c)) apart

  -- the state after such a commit
  abbrev u : SlotState
  u = record {
    observable = s.observable;
    reads = s.reads;
    committed = committed_by s client;
    doubt = committed_by s client;
    transaction = after none s.transaction;
    failed = s.failed;
    faults = s.faults;
    moment = s.moment;
    since = s.since;
    short = s.short;
  }

  own_is : after none s.transaction client ≡ none
  own_is = after_own none s.transaction

  commits_there : s.failed ≡ false → Commits s u client
  commits_there fine = record {
    observable = refl;
    reads = λ readable. refl;
    committed = λ seen. refl;
    doubt = λ seen. refl;
    transaction = record {
      others = after_other none s.transaction;
      begun = ap (λ (x : Transaction). x.begun) own_is;
      undo = ap (λ (x : Transaction). x.undo) own_is;
      written = λ k. ap (λ (x : Transaction). x.written k) own_is;
      counted = ap (λ (x : Transaction). x.counted) own_is;
      low = ap (λ (x : Transaction). x.low) own_is;
      room = omega arith;
    };
    before = fine;
  }

  pub rows_by_commit : IsReadable s → decoded schema (committed_by s client) ≡ joined (changes_of (log client)) (decoded schema s.reads) (decoded schema s.committed)
  rows_by_commit readable =
      fun_ext (committed_rows schema s u log (after [] log) touched (after [] touched) client stored (commits_there readable.1) refl (after_own [] log) (after_other [] log) (after_own [] touched) (after_other [] touched)
      past (λ c le. ap (λ (x : Transaction). x.begun) (after_other none s.transaction c (omega (arith, le, lt))) ∙ past c le) apart_s readable)

  pub chains_by_commit : IsReadable s → ∥ AreChains (committed_by s client) ∥₁
  chains_by_commit readable =
      committed_chains schema s u log (after [] log) touched (after [] touched) client stored (commits_there readable.1) refl (after_own [] log) (after_other [] log) (after_own [] touched) (after_other [] touched)
      past (λ c le. ap (λ (x : Transaction). x.begun) (after_other none s.transaction c (omega (arith, le, lt))) ∙ past c le) apart_s readable

module _ (schema : SchemaData) (s t : SlotState) (was : List Open) (client : ℕ) (old x : Open) (many : length was ≡ 16) (lt : client < 16) (old_is : old ≡ slice_index_or was client old)
    (places : List SlotPlace) (free : ℕ → ℕ) (clients : List Client) (failed : Bool) (sound : IsSound s places free clients failed)
    (left_places : List SlotPlace) (left_free : ℕ → ℕ) (left_clients : List Client) (left_failed : Bool) (still_sound : IsSound t left_places left_free left_clients left_failed)
    (stored : IsStored schema s (log_in was) (touched_in was)) (fine : s.failed ≡ false) (values : List ℤ) where
  own_now : open_in (slice_set was client x) client ≡ view_of x
  own_now = open_set_same was client x (omega (arith, many, lt))

  rest_now : (c : ℕ) → c ≢ client → open_in (slice_set was client x) c ≡ open_in was c
  rest_now c ne = open_set_other was client c x ne

  apart_s : IsApart (slots_of s)
  apart_s = sound_apart schema s places free clients failed (log_in was) (touched_in was) sound fine stored

  rows_there : IsReadable s → decoded schema (committed_by s client) ≡ joined (changes_of (log_in was client)) (decoded schema s.reads) (decoded schema s.committed)
  rows_there = rows_by_commit schema s (log_in was) (touched_in was) client stored lt sound.past apart_s

  chains_there : IsReadable s → ∥ AreChains (committed_by s client) ∥₁
  chains_there = chains_by_commit schema s (log_in was) (touched_in was) client stored lt sound.past apart_s

  -- the same rows, said of the state of a store
  rows_said : IsReadable s → joined (changes_of (log_in was client)) (decoded schema s.reads) (decoded schema s.committed)
      ≡ joined (changes_of (log_in was client)) (rows_if (s.observable && not s.failed) (decoded schema s.reads)) (rows_if s.observable (decoded schema s.committed))
  rows_said readable =
      ap (λ (f : RowsById). joined (changes_of (log_in was client)) f (decoded schema s.committed)) (sym (rows_known s (decoded schema s.reads) readable))
      ∙ ap (λ (f : RowsById). joined (changes_of (log_in was client)) (rows_if (s.observable && not s.failed) (decoded schema s.reads)) f) (sym (known s.observable (decoded schema s.committed) readable.0))

  module _ (commits : CommitsValues s t client values) (none : view_of x ≡ no_open) (same : t.failed ≡ s.failed) where
    own_none : open_in (slice_set was client x) client ≡ no_open
    own_none = own_now ∙ none

    low_now : (c k : ℕ) → ends k ≡ true → wrote (t.transaction c).undo k ≡ false
    low_now c k e = elim (cases_eq c client) [
      | inl is ↦ ap (λ (d : ℕ). wrote (t.transaction d).undo k) is ∙ ap (λ (l : List Undo). wrote l k) commits.transaction.undo
      | inr ne ↦ ap (λ (y : Transaction). wrote y.undo k) (commits.transaction.others c ne) ∙ stored.low fine c k e
    ]

    apart_t : IsApart (slots_of t)
    apart_t = slots_apart t left_places (still_sound.noted (same ∙ fine)).kept still_sound.past low_now

    -- the state without the sequence values
    abbrev rows_alone : SlotState
    rows_alone = with_slots t s.reads (committed_by s client)

    apart_alone : IsApart (slots_of rows_alone)
    apart_alone = record {
      few = apart_t.few;
      apart = apart_t.apart;
      other = λ c n k none. undone_rest (drop n (t.transaction c).undo) s.reads k (wrote_drop n (t.transaction c).undo k none);
    }

    commits_alone : Commits s rows_alone client
    commits_alone = record {
      observable = commits.observable;
      reads = λ readable. refl;
      committed = λ seen. refl;
      doubt = λ seen. refl;
      transaction = commits.transaction;
      before = fine;
    }

    before : IsReadable t → IsReadable s
    before readable = (subst (λ (b : Bool). IsTrue b) commits.observable readable.0, fine)

    settled : IsReadable t → (k : ℕ) → ends k ≡ true → t.committed k ≡ t.reads k
    settled readable k outside = ⊎_elim
        (λ (e : t.committed k ≡ t.reads k). e)
        (λ (h : (t.committed k ≡ s.committed k) × (t.reads k ≡ s.reads k)). h.0 ∙ ((stored.base (before readable)).rest k (λ c. stored.low fine c k outside) ∙ sym h.1))
        (commits.settled (before readable) k)

    pub commit_stored : IsStored schema t (log_in (slice_set was client x)) (touched_in (slice_set was client x))
    commit_stored = stored_there schema t s.reads (committed_by s client) (log_in (slice_set was client x)) (touched_in (slice_set was client x))
        (stored_closed schema s rows_alone (log_in was) (log_in (slice_set was client x)) (touched_in was) (touched_in (slice_set was client x)) client stored commits_alone same
        (ap (λ (v : OpenView). v.log) own_none) (λ c ne. ap (λ (v : OpenView). v.log) (rest_now c ne)) (ap (λ (v : OpenView). v.touched) own_none) (λ c ne. ap (λ (v : OpenView). v.touched) (rest_now c ne))
        sound.past still_sound.past apart_s apart_alone)
        (λ readable. commits.reads (before readable)) (λ readable. commits.committed (before readable)) settled

    pub commit_says : (before after : Reserved) (sequences stored_now : List ℤ) → after client ≡ (λ key. false) → ((c : ℕ) → c ≢ client → after c ≡ before c)
        → rows.Commits (state_of schema before sequences s was) (state_of schema after stored_now t (slice_set was client x)) client stored_now
    commit_says before after sequences stored_now no_key others = record {
      observable = commits.observable;
      failed = same;
      schema = refl;
      rows =
          same_rows (s.observable && not s.failed) (t.observable && not t.failed) (decoded schema s.reads) (decoded schema t.reads)
          (ap (λ (v : Bool). v && not t.failed) commits.observable ∙ ap (λ (v : Bool). s.observable && not v) same)
          (λ is. decoded_same schema t.reads s.reads (commits.reads (and_parts s.observable s.failed is)));
      committed = λ readable. ap (durable stored_now)
          (known t.observable (decoded schema t.committed) (subst (λ (b : Bool). IsTrue b) (sym commits.observable) readable.0)
          ∙ (decoded_same schema t.committed (committed_by s client) (commits.committed readable) ∙ (rows_there readable ∙ rows_said readable)));
      transaction = record {
        others = λ c ne.
            ap (λ (y : Transaction). transaction_of y.begun (after c) (open_in (slice_set was client x) c)) (commits.transaction.others c ne)
            ∙ (ap (λ (f : Key → Bool). transaction_of (s.transaction c).begun f (open_in (slice_set was client x) c)) (others c ne) ∙ ap (transaction_of (s.transaction c).begun (before c)) (rest_now c ne));
        own =
            ap (λ (b : Bool). transaction_of b (after client) (open_in (slice_set was client x) client)) commits.transaction.begun
            ∙ (ap (λ (f : Key → Bool). transaction_of false f (open_in (slice_set was client x) client)) no_key ∙ ap (transaction_of false (λ key. false)) own_none);
      };
    }

    base_mixed : IsReadable s → IsMixed (slots_of s) (mark_in s (log_in was) (λ c. 0)) s.committed
    base_mixed readable = record {
      of = λ c k w. (stored.base readable).of c k w ∙ ap (λ (n : ℕ). storage.undone (drop n (s.transaction c).undo) s.reads k) (sym (stored.first readable.1 c));
      rest = (stored.base readable).rest;
    }

    base_of : IsReadable s → (k : ℕ) → has_change (changes_of (log_in was client)) k ≡ true → decoded schema s.committed k ≡ undone (changes_of (log_in was client)) (decoded schema s.reads) k
    base_of readable k e = (stored.mixes readable (λ c. 0) s.committed (base_mixed readable)).0.of client k e

    -- the fragments of the committed rows
    pub commit_counts : (used now : ℕ) → (IsReadable s → AreCounted (decoded schema s.committed) used) → length old.log.items ≤ 7989
        → (used + after_all old.log.items < 2 ^ 64 → now ≡ (used + after_all old.log.items) - before_all old.log.items) → IsReadable t → AreCounted (decoded schema t.committed) now
    commit_counts used now counted short is readable =
        let seen : IsReadable s = before readable in
        let log : log_in was client ≡ old.log.items = ap (λ (v : OpenView). v.log) (old_view was client old x many lt old_is) in
        subst (λ (f : RowsById). AreCounted f now)
        (sym (decoded_same schema t.committed (committed_by s client) (commits.committed seen) ∙ rows_there seen))
        (counted_joined (log_in was client) (decoded schema s.reads) (decoded schema s.committed) (stored.weighed seen client) (base_of seen) used now
        (subst (λ (l : List Undone). length l ≤ 7989) (sym log) short) (counted seen)
        (subst (λ (l : List Undone). used + after_all l < 2 ^ 64 → now ≡ (used + after_all l) - before_all l) (sym log) is))

  pub commit_keeps : (r : Result ℕ ChainFault) → OnOk r (CommitsValues s t client values) → OnOk r (view_of x ≡ no_open) → OnErr r (FailsValues s t client values) → OnErr r (view_of x ≡ view_of old) → HasCause s t (of_slots r)
      → (IsErrOf r Full → ⊥) × ((IsErrOf (of_slots r) SlotMemory → ⊥) × (IsErrOf (of_slots r) TxFull → ⊥)) → IsStored schema t (log_in (slice_set was client x)) (touched_in (slice_set was client x))
  commit_keeps (Ok v) commits none fails same cause only = commit_stored commits none (cause.stays (λ e. cc e))
  commit_keeps (Err (Slot SlotDisk)) commits none fails same cause only =
      stored_same schema t was (slice_set was client x) (same_all was client old x many lt old_is same) (stored_failed schema s t (log_in was) (touched_in was) (cause.failed refl) fails.begun stored)
  commit_keeps (Err (Slot TxFull)) commits none fails same cause only = absurd (only.1.1 refl)
  commit_keeps (Err (Slot SlotMemory)) commits none fails same cause only = absurd (only.1.0 refl)
  commit_keeps (Err Full) commits none fails same cause only = absurd (only.0 refl)

  pub commit_quiet : (r : Result ℕ ChainFault) → OnOk r (CommitsValues s t client values) → HasCause s t (of_slots r) → (IsErrOf r Full → ⊥) × ((IsErrOf (of_slots r) SlotMemory → ⊥) × (IsErrOf (of_slots r) TxFull → ⊥)) → IsQuiet s → IsQuiet t
  commit_quiet (Ok v) commits cause only q = quiet_commits s t client values (cause.stays (λ e. cc e)) commits q
  commit_quiet (Err (Slot SlotDisk)) commits cause only q = quiet_failed t (cause.failed refl)
  commit_quiet (Err (Slot TxFull)) commits cause only q = absurd (only.1.1 refl)
  commit_quiet (Err (Slot SlotMemory)) commits cause only q = absurd (only.1.0 refl)
  commit_quiet (Err Full) commits cause only q = absurd (only.0 refl)

  -- what is committed and in doubt are chains
  module _ (at_s at_t : ℕ → (ℕ → List ℕ) → Type 0) (law : (m : ℕ) (slots : ℕ → List ℕ) → at_t m slots → IsStop t m) (from : s.since ≤ s.moment) (time : Goes s t at_s at_t) (have : HaveChains s at_s) where
    by_rows : (slots : ℕ → List ℕ) → ((k : ℕ) → ends k ≡ false → slots k ≡ committed_by s client k) → IsTrue s.observable → ∥ AreChains slots ∥₁
    by_rows slots same seen = ∥∥₁_map (chains_there (seen, fine)) (chains_same (committed_by s client) slots (λ k inside. sym (same k inside)))

    pub chains_committed : CommitsValues s t client values → HaveChains t at_t
    chains_committed commits = record { committed = committed; doubt = doubt; stops = stops_go s t at_s at_t law from time commits.observable have.stops have.committed doubt }
      where
        seen_s : IsTrue t.observable → IsTrue s.observable
        seen_s seen = subst (λ (b : Bool). IsTrue b) commits.observable seen

        committed : IsTrue t.observable → ∥ AreChains t.committed ∥₁
        committed seen = by_rows t.committed (commits.committed (seen_s seen, fine)) (seen_s seen)

        doubt : IsTrue t.observable → ∥ AreChains t.doubt ∥₁
        doubt seen = subst (λ (f : ℕ → List ℕ). ∥ AreChains f ∥₁) (sym (commits.doubt (seen_s seen))) (committed seen)

    pub chains_in_doubt : FailsValues s t client values → HaveChains t at_t
    chains_in_doubt fails = record { committed = committed; doubt = doubt; stops = stops_go s t at_s at_t law from time fails.observable have.stops have.committed doubt }
      where
        seen_s : IsTrue t.observable → IsTrue s.observable
        seen_s seen = subst (λ (b : Bool). IsTrue b) fails.observable seen

        committed : IsTrue t.observable → ∥ AreChains t.committed ∥₁
        committed seen = subst (λ (f : ℕ → List ℕ). ∥ AreChains f ∥₁) (sym (fails.committed (seen_s seen))) (have.committed (seen_s seen))

        doubt : IsTrue t.observable → ∥ AreChains t.doubt ∥₁
        doubt seen = ⊎_elim
            (λ (e : t.doubt ≡ s.doubt). subst (λ (f : ℕ → List ℕ). ∥ AreChains f ∥₁) (sym e) (have.doubt (seen_s seen)))
            (λ (h : ((k : ℕ) → ends k ≡ false → t.doubt k ≡ committed_by s client k) × HoldValues t.doubt values). by_rows t.doubt h.0 (seen_s seen))
            (fails.doubt (seen_s seen, fine))

    pub commit_chains : (r : Result ℕ ChainFault) → OnOk r (CommitsValues s t client values) → OnErr r (FailsValues s t client values) → HaveChains t at_t
    commit_chains (Ok v) commits fails = chains_committed commits
    commit_chains (Err fault) commits fails = chains_in_doubt fails

  -- what a failed commit leaves in doubt
  pub commit_doubt : FailsValues s t client values → length values ≡ length schema.sequences → (reserved : Reserved) (sequences : List ℤ) → IsInDoubt (state_of schema reserved sequences s was) client values (times_in schema s) (times_in schema t)
  commit_doubt fails long reserved sequences seen = ⊎_elim
      (λ (e : t.doubt ≡ s.doubt). inl (ap (durable_in schema) e))
      (λ (h : ((k : ℕ) → ends k ≡ false → t.doubt k ≡ committed_by s client k) × HoldValues t.doubt values). inr (
        fine,
        ap (durable (values_in (length schema.sequences) t.doubt)) (decoded_same schema t.doubt (committed_by s client) h.0 ∙ (rows_there (seen, fine) ∙ rows_said (seen, fine)))
            ∙ ap (λ (v : List ℤ). durable v (joined (changes_of (log_in was client)) (rows_if (s.observable && not s.failed) (decoded schema s.reads)) (rows_if s.observable (decoded schema s.committed))))
            (ap (λ (n : ℕ). values_in n t.doubt) (sym long) ∙ values_read t.doubt values h.1),
      ))
      (fails.doubt (seen, fine))
