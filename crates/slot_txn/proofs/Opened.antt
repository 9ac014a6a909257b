-- Slots that are opened over a fresh log.
use Rattle.std.proofs.Common.{◌≡◌, ◌⊎◌, ⊎_elim, ℕ, zero, suc, ◌*◌, ◌<◌, ◌≤◌, Bool, IsTrue, List, [], ◌∷◌, ◌++◌, length, drop, None, refl, sym, ◌∙◌, ap, subst, arith}
use Rattle.std.proofs.Math.Logic.{∥∥₁_map}
use Rattle.std.proofs.lemmas.Bool.{cases_lt}
use Rattle.storage.specs.declared.slots.Undo.{Undo}
use Rattle.storage.specs.Disk.{Stays}
use Rattle.storage.specs.Slots.{SlotState, undone}
use Rattle.log_meaning.specs.steps.Steps.{Image, Run}
use Rattle.log_meaning.specs.Images.{Recovers}
use Rattle.bi_log.specs.declared.log.Log.{Log}
use Rattle.bi_log.specs.Appending.{RestsAt}
use Rattle.bi_log.specs.Logs.{HasNotes}
use Rattle.bi_recovery.specs.Reopening.{SameRecovery, NewLog, Reopens}
use Rattle.bi_recovery.proofs.Creating.{zeros_past}
use Rattle.open_transactions.specs.declared.client.Client.{Client}
use Rattle.open_transactions.specs.Clients.{list_in, list_of, lists, due, number_in}
use Rattle.slot_area.specs.declared.slot_area.SlotArea.{SlotArea}
use Rattle.slot_area.specs.Area.{below, view, unwritten, IsKept, IsWhole}
use Rattle.slot_area.proofs.AreaRuns.{below_in, below_out}
use Rattle.checkpoint.specs.kept.KeptLog.{KeptLog}
use Rattle.checkpoint.proofs.NextLemmas.Opened.{opened_log, reads_slots, rests_fresh, narrowed}
use Rattle.slot_txn.specs.logged.Stops.{Stops, HasSlots, StayRecoverable}
use Rattle.slot_txn.proofs.LoggedLemmas.Recoverable.{has_slots}
use Rattle.slot_txn.specs.Opening.{AllRecoverTo, IsFresh, IsOpenedOver}
use Rattle.slot_txn.proofs.Recovered.{only_slots, fewer_left}

-- what is recovered without notes is fresh
pub fresh_from : (seen mid read : Image) (left left' : Image → Type 0) (log : Log) (a g e t g' e' end : ℕ) → Reopens seen left a g e t → t ≡ 32 → left mid → ((image : Image) → left' image → left image) → ((a ≡ 1) ⊎ (a ≡ 2) → log.area ≡ a) → g' ≡ g → e' ≤ e → length (read 0) ≡ 256 * end
    → IsFresh seen read left' log.area g' e' end
fresh_from seen mid read left left' log a g e t g' e' end r first known back place number fewer whole =
    let same : log.area ≡ a = place (r.log.agrees mid known).newest.log in
    let here : NewLog left log.area g e 32 r.slots = subst (λ (x : ℕ). NewLog left log.area g e x r.slots) first (subst (λ (x : ℕ). NewLog left x g e t r.slots) (sym same) r.log) in
    let narrow : NewLog left log.area g e' 32 r.slots = narrowed r.slots left log (λ s. None) (λ c. None) (λ c. []) g e mid here known e' fewer in
    record {
      slots = r.slots;
      was = r.was;
      log = subst (λ (x : ℕ). NewLog left' log.area x e' 32 r.slots) (sym number) (fewer_left left left' log.area g e' 32 r.slots back narrow);
      whole = whole;
    }

-- ---- clients without writes

pub none_listed : (cs : List Client) → ((k : ℕ) → list_in cs k ≡ []) → lists cs ≡ []
none_listed [] none = refl
none_listed (c ∷ cs) none = ap (λ (us : List Undo). us ++ lists cs) (none 0) ∙ none_listed cs (λ k. none (suc k))

none_dropped : (n : ℕ) (us : List Undo) → us ≡ [] → drop n us ≡ []
none_dropped zero [] is = refl
none_dropped (suc n) [] is = refl
none_dropped n (u ∷ us) is = cc

pub none_is_due : (cs : List Client) → ((k : ℕ) → list_in cs k ≡ []) → due cs ≡ []
none_is_due [] none = refl
none_is_due (c ∷ cs) none = ap (λ (us : List Undo). us ++ due cs) (none_dropped c.standing (list_of c) (none 0)) ∙ none_is_due cs (λ k. none (suc k))

-- ---- slots over a fresh log

module _ (seen read : Image) (left : Image → Type 0) (log : Log) (area : SlotArea) (cs : List Client) (g e : ℕ)
    (fresh : IsFresh seen read left log.area g e area.end) (there : left read)
    (view_is : (stored : List ℕ) (s : ℕ) → view area stored s ≡ below area.end stored s)
    (listed : (k : ℕ) → list_in cs k ≡ []) where
  -- area 0 has zeros past its end
  pub is_whole : IsWhole area.end (read 0)
  is_whole s past = zeros_past (read 0) s (let w = fresh.whole in omega (arith, w, past))

  pub is_kept : IsKept area (read 0)
  is_kept = record { unchanged = λ s none. view_is (read 0) s; there = (let w = fresh.whole in omega (arith, w)) }

  -- each slot reads as it recovered
  pub view_slots : view area (read 0) ≡ fresh.slots
  view_slots = λ i s. (view_is (read 0) s ∙ ⊎_elim (λ (lt : s < area.end). below_in area.end (read 0) s lt) (λ (past : area.end ≤ s). below_out area.end (read 0) s past ∙ sym (is_whole s past)) (cases_lt s area.end)
      ∙ reads_slots fresh.slots left log (unwritten area) (number_in cs) (list_in cs) g e read fresh.log there s) i

  pub committed_slots : undone (lists cs) (view area (read 0)) ≡ fresh.slots
  committed_slots = ap (λ (us : List Undo). undone us (view area (read 0))) (none_listed cs listed) ∙ view_slots

  pub due_slots : undone (due cs) (view area (read 0)) ≡ fresh.slots
  due_slots = ap (λ (us : List Undo). undone us (view area (read 0))) (none_is_due cs listed) ∙ view_slots

  -- the log is kept
  pub fresh_log : log.gate ≡ 32 → HasNotes log.buffer [] → ((s : ℕ) → unwritten area s ≡ None) → ((k : ℕ) → number_in cs k ≡ None)
      → KeptLog (undone (lists cs) (view area (read 0))) (view area (read 0)) left log (unwritten area) (number_in cs) (list_in cs) g e e 1
  fresh_log at notes written numbers =
      subst (λ (c : ℕ → List ℕ). KeptLog c (view area (read 0)) left log (unwritten area) (number_in cs) (list_in cs) g e e 1) (sym committed_slots)
      (subst (λ (r : ℕ → List ℕ). KeptLog fresh.slots r left log (unwritten area) (number_in cs) (list_in cs) g e e 1) (sym view_slots)
      (opened_log fresh.slots left log (unwritten area) (number_in cs) (list_in cs) g e read fresh.log there
      (λ image known. subst (λ (x : ℕ). RestsAt (image log.area) (record { generation = g; batches = [] }) x) (sym at) (rests_fresh fresh.slots left log (unwritten area) (number_in cs) (list_in cs) g e read fresh.log there image known))
      notes written numbers listed))

  -- they are the slots that the disk recovered to
  pub recovered_slots : Recovers seen (undone (due cs) (view area (read 0)))
  recovered_slots = subst (λ (r : ℕ → List ℕ). Recovers seen r) (sym due_slots) fresh.was

  -- a stop leaves what the images of its moment recover to
  pub stop_now : (image : Image) (slots : ℕ → List ℕ) → left image → Recovers image slots → slots ≡ undone (lists cs) (view area (read 0))
  stop_now image slots known r = only_slots left log.area g e 32 fresh.slots fresh.log image slots known r ∙ sym committed_slots

-- a stop while the slots were opened
pub stop_then : (known : Bool) (was now : ℕ) (before after : ℕ → Image → Type 0) (committed : ℕ → List ℕ) → Run was now before after SameRecovery → AllRecoverTo before was committed
    → (m : ℕ) (slots : ℕ → List ℕ) → Stops known was now after m slots → slots ≡ committed
stop_then known was now before after committed run all m slots st = ⊎_elim
    (λ (later : was < m). let h = run.here m (st.3.0) later (st.3.1) in all (h.0) slots (h.1) ((h.2).from slots (st.3.2)))
    (λ (past : m ≤ was). let from = st.1 in all (st.3.0) slots (subst (λ (x : ℕ). before x (st.3.0)) (omega (arith, past, from)) (run.nothing_else m (st.3.0) past (st.3.1))) (st.3.2))
    (cases_lt was m)

-- the images of each moment are recoverable, where those of the start were
pub recoverable_opened : (was now : ℕ) (before after : ℕ → Image → Type 0) → Run was now before after SameRecovery → StayRecoverable after was
recoverable_opened was now before after run start m image from there = ⊎_elim
    (λ (later : was < m). let h = run.here m image later there in ∥∥₁_map (start (h.0) (run.stays was (h.0) (omega arith) (h.1))) (λ (k : HasSlots (h.0)). has_slots image k.slots ((h.2).to k.slots k.recovers)))
    (λ (past : m ≤ was). start image (subst (λ (x : ℕ). after x image) (omega (arith, past, from)) there))
    (cases_lt was m)

-- ---- slots that were opened after a call that made no moment

module _ (was_observable observable : Bool) (was_seen seen : Image) (was now : ℕ) (before after : ℕ → Image → Type 0) (stays : Stays was_observable observable was_seen seen was now before after) where
  all_after : (slots : ℕ → List ℕ) → AllRecoverTo before was slots → AllRecoverTo after now slots
  all_after slots all image other there recovers = all image other (subst (λ (m : ℕ). before m image) stays.moment (stays.nothing_else now image there)) recovers

  pub opened_before : (s : SlotState) (stop : ℕ → (ℕ → List ℕ) → Type 0) → IsOpenedOver s stop observable seen now after → IsOpenedOver s stop was_observable was_seen was before
  opened_before s stop opened = record {
    idle = opened.idle;
    clean = opened.clean;
    fine = opened.fine;
    same_observable = opened.same_observable ∙ stays.same_observable;
    since = opened.since ∙ stays.moment;
    settled = opened.settled;
    certain = opened.certain;
    recovered = λ known. subst (λ (i : Image). Recovers i s.reads) (stays.same known) (opened.recovered (subst (λ (b : Bool). IsTrue b) (sym stays.same_observable) known));
    now = opened.now;
    stops = λ all. opened.stops (all_after s.committed all);
  }
