-- The steps of `create`.
use Rattle.std.proofs.Common.{◌≡◌, ◌≢◌, ◌⊎◌, inl, inr, ⊎_elim, ℕ, ◌+◌, ◌-◌, ◌*◌, ◌<◌, ◌≤◌, ◌^◌, Bool, IsTrue, List, [], length, get_or, sym, ◌∙◌, ap, subst, arith}
use Rattle.std.proofs.lemmas.List.{ext_get_or, get_or_past, get_or-replicate, length-replicate}
use Rattle.std.proofs.lemmas.Bool.{cases_eq, cases_lt}
use Rattle.storage.specs.Disk.{Stays, Others}
use Rattle.storage.specs.declared.slots.Undo.{Undo}
use Rattle.storage.specs.Slots.{put, undone}
use Rattle.log_meaning.specs.steps.Steps.{Image, Run}
use Rattle.log_meaning.proofs.StepsLemmas.Runs.{joined, wider, stayed}
use Rattle.log_meaning.proofs.StepsLemmas.Writes.{reads-same}
use Rattle.log_meaning.specs.declared.note.Note.{Note}
use Rattle.log_meaning.specs.Bytes.{log_bytes}
use Rattle.log_meaning.specs.Images.{IsOpened, HoldsLog, IsNewest, Recovers, slot_of}
use Rattle.log_meaning.specs.Recovered.{recovered}
use Rattle.log_meaning.specs.LogState.{notes_in}
use Rattle.log_meaning.proofs.OneLog.{one_opened, one_log}
use Rattle.log_meaning.proofs.LogStates.{length-slot_of, get_or-slot_of, same_newest, other_of}
use Rattle.log_meaning.proofs.Undone.{put-here, put-other, undone-at}
use Rattle.bi_log.specs.Appending.{Holds, fresh}
use Rattle.bi_log.specs.Generations.{Closes, IsClosed, AfterGate}
use Rattle.bi_recovery.specs.Reopening.{SameAreas}
use Rattle.bi_recovery.specs.Creating.{Back, Creates, zeros}

-- a slot past the end
pub zeros_past : (area : List ℕ) (s : ℕ) → length area ≤ 256 * s → slot_of area s ≡ zeros
zeros_past area s past = ext_get_or 0 _ _ (length-slot_of area s ∙ sym (length-replicate {A = ℕ} 256 0)) (λ i lt.
    let small : i < 256 = omega (arith, lt, length-slot_of area s) in
    get_or-slot_of area s i small ∙ get_or_past area (256 * s + i) 0 (omega (arith, past)) ∙ sym (get_or-replicate 256 i 0 0 small))

-- zeros written one slot further
pub zeros_more : (f g : ℕ → List ℕ) (k : ℕ) → ((s : ℕ) → g s ≡ put f k zeros s) → ((s : ℕ) → s < k → f s ≡ zeros) → (s : ℕ) → s < k + 1 → g s ≡ zeros
zeros_more f g k is laid s lt = elim (cases_eq s k) [
  | inl here ↦ is s ∙ put-here f k s zeros here
  | inr other ↦ is s ∙ put-other f k s zeros other ∙ laid s (less other)
]
  where
    less : s ≢ k → s < k
    less other = ⊎_elim (λ (it : s < k). it) (λ (le : k ≤ s). absurd (other (omega (arith, le, lt)))) (cases_lt s k)

pub zeros_rest : (f g h : ℕ → List ℕ) (k : ℕ) → ((s : ℕ) → g s ≡ put f k zeros s) → ((s : ℕ) → k ≤ s → f s ≡ h s) → (s : ℕ) → k + 1 ≤ s → g s ≡ h s
zeros_rest f g h k is rest s from = is s ∙ put-other f k s zeros (λ e. omega (arith, e, from)) ∙ rest s (omega (arith, from))

-- ---- closing

-- a log that is there after the closing was there before it
pub log_back : (a g : ℕ) (bs : List (List Note)) (d image : Image) → Closes a d image → HoldsLog (image a) g bs → HoldsLog (d a) g bs
log_back a g bs d image s h =
    let was = s.opened g h.opened in
    let gate : get_or (image a) 0 0 ≡ get_or (d a) 0 0 = sym (h.opened.head 0 (omega arith)) ∙ was.head 0 (omega arith) in
    record {
      opened = was;
      reads = reads-same (image a) (d a) 0 (log_bytes g bs) (λ i from lt. sym (all_same gate i)) h.reads;
      closed = λ one. h.closed (all_same gate (length (log_bytes g bs)) ∙ one);
      sound = h.sound;
    }
  where
    all_same : get_or (image a) 0 0 ≡ get_or (d a) 0 0 → (i : ℕ) → get_or (image a) i 0 ≡ get_or (d a) i 0
    all_same gate i = ⊎_elim
        (λ (first : i < 1). ap (λ (k : ℕ). get_or (image a) k 0) (is_zero i first) ∙ gate ∙ ap (λ (k : ℕ). get_or (d a) k 0) (sym (is_zero i first)))
        (λ (beyond : 1 ≤ i). s.beyond i beyond)
        (cases_lt i 1)
      where
        is_zero : (k : ℕ) → k < 1 → k ≡ 0
        is_zero k lt = omega (arith, lt)

-- Closing one area leaves only what there was, if the log of the other one, where it has one, is the image's.
pub closing_back : (b : ℕ) (d image : Image) → (b ≡ 1) ⊎ (b ≡ 2) → ((g h : ℕ) → IsOpened (d (3 - b)) g → IsOpened (d b) h → (h < g) ⊎ ((h ≡ g) × (3 - b ≡ 1))) → Closes b d image → Back d image
closing_back b d image place older s slots r = elim (cases_eq r.area b) [
  | inl here ↦ record {
    area = b;
    generation = r.generation;
    batches = r.batches;
    newest = same_newest image d b r.generation (sym (s.others (3 - b) (far.0))) (subst (λ (k : ℕ). IsNewest image k r.generation) here r.newest);
    log = log_back b r.generation r.batches d image s (subst (λ (k : ℕ). HoldsLog (image k) r.generation r.batches) here r.log);
    gives = λ x. r.gives x ∙ ap (λ (l : List ℕ). recovered (notes_in r.batches) (slot_of l) x) (s.others 0 (far.1));
  }
  | inr other ↦
      let is = opposite other in
      let holds_it : HoldsLog (d (3 - b)) r.generation r.batches = subst (λ (l : List ℕ). HoldsLog l r.generation r.batches) (s.others (3 - b) (far.0)) (subst (λ (k : ℕ). HoldsLog (image k) r.generation r.batches) is r.log) in
      record {
        area = 3 - b;
        generation = r.generation;
        batches = r.batches;
        newest = record { log = far.2; newest = λ h o. older r.generation h holds_it.opened (subst (λ (k : ℕ). IsOpened (d k) h) (far.3) o) };
        log = holds_it;
        gives = λ x. r.gives x ∙ ap (λ (l : List ℕ). recovered (notes_in r.batches) (slot_of l) x) (s.others 0 (far.1));
      }
]
  where
    far : (3 - b ≢ b) × (0 ≢ b) × ((3 - b ≡ 1) ⊎ (3 - b ≡ 2)) × (3 - (3 - b) ≡ b) × (3 - b ≢ 0)
    far = other_of b place

    opposite : r.area ≢ b → r.area ≡ 3 - b
    opposite other = ⊎_elim
        (λ (one : r.area ≡ 1). ⊎_elim (λ (b1 : b ≡ 1). absurd (other (omega (arith, one, b1)))) (λ (b2 : b ≡ 2). omega (arith, one, b2)) place)
        (λ (two : r.area ≡ 2). ⊎_elim (λ (b1 : b ≡ 1). omega (arith, two, b1)) (λ (b2 : b ≡ 2). absurd (other (omega (arith, two, b2)))) place)
        r.newest.log

pub back_twice : (d e image : Image) → Back d e → Back e image → Back d image
back_twice d e image one two slots r = one slots (two slots r)

-- ---- nothing to recover

pub no_log : (image : Image) → IsClosed (image 1) → IsClosed (image 2) → (slots : ℕ → List ℕ) → Recovers image slots → ⊥
no_log image one two slots r = ⊎_elim
    (λ (is : r.area ≡ 1). one.gate (sym ((subst (λ (k : ℕ). IsOpened (image k) r.generation) is r.log.opened).head 0 (omega arith))))
    (λ (is : r.area ≡ 2). two.gate (sym ((subst (λ (k : ℕ). IsOpened (image k) r.generation) is r.log.opened).head 0 (omega arith))))
    r.newest.log

-- a run after which an image recovers only to the new slots
pub then_new : (was mid now : ℕ) (before between after : ℕ → Image → Type 0) (us : List Undo) (Step : Image → Image → Type 0) → Run was mid before between (Creates us) → Run mid now between after Step
    → ((e image : Image) → between mid e → Step e image → (slots : ℕ → List ℕ) → Recovers image slots → (s : ℕ) → s < 2 ^ 20 → slots s ≡ undone us (λ k. zeros) s) → Run was now before after (Creates us)
then_new was mid now before between after us Step one two new = joined _ _ _ _ _ _ (Creates us) Step (Creates us) one two
    (λ d image there s. s) (λ d image there m s slots r. inr (new d image m s slots r)) (λ d e image there x m y slots r. inr (new e image m y slots r))

-- a generation without notes in area 1, and no other
pub new_only : (image : Image) (us : List Undo) → (Holds (image 1) (fresh 1)) ⊎ (get_or (image 1) 0 0 ≢ 1) → IsClosed (image 2) → ((s : ℕ) → s < 2 ^ 20 → slot_of (image 0) s ≡ undone us (λ k. zeros) s)
    → (slots : ℕ → List ℕ) → Recovers image slots → (s : ℕ) → s < 2 ^ 20 → slots s ≡ undone us (λ k. zeros) s
new_only image us either two are slots r s lt = ⊎_elim
    (λ (is : r.area ≡ 1). ⊎_elim
    (λ (holds_it : Holds (image 1) (fresh 1)).
    let none : r.batches ≡ [] = one_log (image 1) r.generation 1 r.batches [] (subst (λ (k : ℕ). HoldsLog (image k) r.generation r.batches) is r.log) holds_it in
    r.gives s ∙ ap (λ (bs : List (List Note)). recovered (notes_in bs) (slot_of (image 0)) s) none ∙ are s lt)
    (λ (shut : get_or (image 1) 0 0 ≢ 1). absurd (shut (sym ((subst (λ (k : ℕ). IsOpened (image k) r.generation) is r.log.opened).head 0 (omega arith)))))
    either)
    (λ (is : r.area ≡ 2). absurd (two.gate (sym ((subst (λ (k : ℕ). IsOpened (image k) r.generation) is r.log.opened).head 0 (omega arith)))))
    r.newest.log

-- ---- runs

pub one_or_two : (a : ℕ) → 1 ≤ a → a ≤ 2 → (a ≡ 1) ⊎ (a ≡ 2)
one_or_two a low high = ⊎_elim (λ (less : a < 2). inl (omega (arith, low, less))) (λ (two : 2 ≤ a). inr (omega (arith, high, two))) (cases_lt a 2)

pub older_of : (seen : Image) (a k : ℕ) → IsNewest seen a k → IsOpened (seen a) k → (g h : ℕ) → IsOpened (seen (3 - (3 - a))) g → IsOpened (seen (3 - a)) h → (h < g) ⊎ ((h ≡ g) × (3 - (3 - a) ≡ 1))
older_of seen a k n o g h og oh =
    let back = (other_of a n.log).3 in
    let same : g ≡ k = one_opened (seen a) g k (subst (λ (x : ℕ). IsOpened (seen x) g) back og) o in
    ⊎_elim
    (λ (less : h < k). inl (omega (arith, less, same)))
    (λ (tie : (h ≡ k) × (a ≡ 1)). inr (tie.0 ∙ sym same, back ∙ tie.1))
    (n.newest h oh)

pub back_same : (was mid now : ℕ) (before between after : ℕ → Image → Type 0) → Run was mid before between (λ old new. new ≡ old) → Run mid now between after Back → Run was now before after Back
back_same was mid now before between after one two = joined _ _ _ _ _ _ (λ old new. new ≡ old) Back Back one two
    (λ d image there s slots r. subst (λ (i : Image). Recovers i slots) s r) (λ d image there m s. s) (λ d e image there x m y slots r. subst (λ (i : Image). Recovers i slots) x (y slots r))

pub back_stay : (a b : Bool) (x y : Image) (was mid now : ℕ) (before between after : ℕ → Image → Type 0) → Stays a b x y was mid before between → ((m : ℕ) (image : Image) → before m image → m ≤ was) → Run mid now between after Back → Run was now before after Back
back_stay a b x y was mid now before between after s top two = joined _ _ _ _ _ _ Back Back Back (stayed _ _ _ _ _ _ _ _ Back s top) two (λ d image there f. f) (λ d image there m f. f) (λ d e image there f m g. back_twice d e image f g)

pub back_both : (was mid now : ℕ) (before between after : ℕ → Image → Type 0) → Run was mid before between Back → Run mid now between after Back → Run was now before after Back
back_both was mid now before between after one two = joined _ _ _ _ _ _ Back Back Back one two (λ d image there f. f) (λ d image there m f. f) (λ d e image there f m g. back_twice d e image f g)

pub closing_run : (was now : ℕ) (before after : ℕ → Image → Type 0) (b : ℕ) → (b ≡ 1) ⊎ (b ≡ 2) → Run was now before after (Closes b) → ((d : Image) → before was d → (g h : ℕ) → IsOpened (d (3 - b)) g → IsOpened (d b) h → (h < g) ⊎ ((h ≡ g) × (3 - b ≡ 1))) → Run was now before after Back
closing_run was now before after b place run older = wider _ _ _ _ (Closes b) Back run (λ d image there s. closing_back b d image place (older d there) s)

pub shut_area : (area : List ℕ) → IsClosed area → (g : ℕ) → IsOpened area g → ⊥
shut_area area closed g o = closed.gate (sym (o.head 0 (omega arith)))

pub closed_both : (image : Image) (b : ℕ) → (b ≡ 1) ⊎ (b ≡ 2) → IsClosed (image b) → IsClosed (image (3 - b)) → IsClosed (image 1) × IsClosed (image 2)
closed_both image b place x y = ⊎_elim
    (λ (one : b ≡ 1). (subst (λ (k : ℕ). IsClosed (image k)) one x, subst (λ (k : ℕ). IsClosed (image k)) (ap (λ (k : ℕ). 3 - k) one) y))
    (λ (two : b ≡ 2). (subst (λ (k : ℕ). IsClosed (image k)) (ap (λ (k : ℕ). 3 - k) two) y, subst (λ (k : ℕ). IsClosed (image k)) two x))
    place

pub zeros_all : (us : List Undo) (f g : ℕ → List ℕ) (n s : ℕ) → (s < n → f s ≡ zeros) → (n ≤ s → f s ≡ g s) → (n ≤ s → g s ≡ zeros) → undone us f s ≡ undone us (λ k. zeros) s
zeros_all us f g n s laid left past = undone-at us f (λ k. zeros) s (⊎_elim (λ (lt : s < n). laid lt) (λ (le : n ≤ s). left le ∙ past le) (cases_lt s n))

pub both_closed : (d image : Image) → Others 0 d image → IsClosed (d 1) × IsClosed (d 2) → IsClosed (image 1) × IsClosed (image 2)
both_closed d image others c = (subst IsClosed (sym (others 1 (λ is. omega (arith, is)))) (c.0), subst IsClosed (sym (others 2 (λ is. omega (arith, is)))) (c.1))

pub behind_closed : (d image : Image) → AfterGate 1 d image → IsClosed (d 1) × IsClosed (d 2) → IsClosed (image 1) × IsClosed (image 2)
behind_closed d image s c = (record { gate = λ one. (c.0).gate (sym (s.gate.same 0 (omega arith)) ∙ one); there = (let longer = s.gate.no_shorter in let had = (c.0).there in omega (arith, longer, had)) }, subst IsClosed (sym (s.others 2 (λ is. omega (arith, is)))) (c.1))

-- the order of closing, in each image of a disk that was synced
pub older_in : (a b : Bool) (x y : Image) (was now : ℕ) (before after : ℕ → Image → Type 0) (r : ℕ) → 1 ≤ r → r ≤ 2 → Stays a b x y was now before after → ((m : ℕ) (image : Image) → before m image → IsTrue a) → ((image : Image) → before was image → SameAreas x image)
    → (IsTrue a → (g h : ℕ) → IsOpened (x (3 - r)) g → IsOpened (x r) h → (h < g) ⊎ ((h ≡ g) × (3 - r ≡ 1)))
    → (d : Image) → after now d → (g h : ℕ) → IsOpened (d (3 - r)) g → IsOpened (d r) h → (h < g) ⊎ ((h ≡ g) × (3 - r ≡ 1))
older_in a b x y was now before after r low high s same_observable synced older d left g h og oh =
    let was_left : before was d = subst (λ (m : ℕ). before m d) s.moment (s.nothing_else now d left) in
    older (same_observable was d was_left) g h (subst (λ (l : List ℕ). IsOpened l g) (synced d was_left (3 - r) (omega (arith, low))) og) (subst (λ (l : List ℕ). IsOpened l h) (synced d was_left r (omega (arith, high))) oh)
