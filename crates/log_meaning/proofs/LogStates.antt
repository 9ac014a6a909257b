-- What a write makes of an image, and that an image recovers to one array of slots.
use Rattle.std.proofs.Common.{◌≡◌, ◌≢◌, ◌⊎◌, inl, inr, ⊎_elim, ℕ, ◌+◌, ◌-◌, ◌*◌, ◌<◌, ◌≤◌, Bool, true, false, ◌||◌, List, [], ◌∷◌, ◌++◌, length, get_or, drop, replicate, refl, sym, ◌∙◌, ap, subst, arith, length-append, length-drop}
use Rattle.std.proofs.lemmas.List.{ext_get_or, length-take, length-replicate, get_or-take, get_or-drop, get_or-replicate, get_or_append_left, get_or-append_right, get_or_past}
use Rattle.std.proofs.lemmas.List.Concat.{flat_map-append}
use Rattle.std.proofs.lemmas.Bool.{cases_eq, cases_lt, true≢false}
use Rattle.storage.specs.Disk.{Torn, TornIn, Others}
use Rattle.storage.specs.declared.slots.Undo.{Undo}
use Rattle.log_meaning.specs.steps.Steps.{Image, SameBelow}
use Rattle.log_meaning.specs.declared.note.Change.{Change}
use Rattle.log_meaning.specs.declared.note.Note.{Note}
use Rattle.log_meaning.specs.Bytes.{log_bytes}
use Rattle.log_meaning.specs.Recovered.{changes_of, is_committed, recovered}
use Rattle.log_meaning.specs.Images.{IsOpened, HoldsLog, IsNewest, slot_of, Recovers}
use Rattle.log_meaning.specs.LogState.{notes_in, LogState, MayWrite, HasNotesTo}
use Rattle.log_meaning.specs.Logged.{Logged}
use Rattle.log_meaning.proofs.Notes.{changes_of-append, given-below}
use Rattle.log_meaning.proofs.LoggedSteps.{given-sets}
use Rattle.log_meaning.proofs.OneLog.{one_opened, one_log}
use Rattle.log_meaning.proofs.Areas.{same_log, torn_closing}

-- ---- one recovery

pub other_of : (area : ℕ) → (area ≡ 1) ⊎ (area ≡ 2) → (3 - area ≢ area) × (0 ≢ area) × ((3 - area ≡ 1) ⊎ (3 - area ≡ 2)) × (3 - (3 - area) ≡ area) × (3 - area ≢ 0)
other_of area log = ⊎_elim
    (λ (one : area ≡ 1). ((λ e. omega (arith, e, one)), (λ e. omega (arith, e, one)), inr (omega (arith, one)), omega (arith, one), (λ e. omega (arith, e, one))))
    (λ (two : area ≡ 2). ((λ e. omega (arith, e, two)), (λ e. omega (arith, e, two)), inl (omega (arith, two)), omega (arith, two), (λ e. omega (arith, e, two))))
    log

pub one_area : (image : Image) (a b g h : ℕ) → IsNewest image a g → IsOpened (image a) g → IsNewest image b h → IsOpened (image b) h → a ≡ b
one_area image a b g h x ox y oy = elim (cases_eq a b) [
  | inl same ↦ same
  | inr apart ↦ absurd (clash apart)
]
  where
    opposite : a ≢ b → b ≡ 3 - a
    opposite apart = ⊎_elim
        (λ (a1 : a ≡ 1). ⊎_elim (λ (b1 : b ≡ 1). absurd (apart (omega (arith, a1, b1)))) (λ (b2 : b ≡ 2). omega (arith, a1, b2)) y.log)
        (λ (a2 : a ≡ 2). ⊎_elim (λ (b1 : b ≡ 1). omega (arith, a2, b1)) (λ (b2 : b ≡ 2). absurd (apart (omega (arith, a2, b2)))) y.log)
        x.log

    clash : a ≢ b → ⊥
    clash apart =
        let there = opposite apart in
        let back : a ≡ 3 - b = (let far = (other_of a x.log).3 in omega (arith, there, far)) in
        ⊎_elim
        (λ (less : h < g). ⊎_elim (λ (more : g < h). omega (arith, less, more)) (λ (tie : (g ≡ h) × (b ≡ 1)). let same = tie.0 in omega (arith, less, same)) (y.newest g (subst (λ (k : ℕ). IsOpened (image k) g) back ox)))
        (λ (tie : (h ≡ g) × (a ≡ 1)). ⊎_elim
        (λ (more : g < h). let same = tie.0 in omega (arith, same, more))
        (λ (tie2 : (g ≡ h) × (b ≡ 1)). apart (tie.1 ∙ sym (tie2.1)))
        (y.newest g (subst (λ (k : ℕ). IsOpened (image k) g) back ox)))
        (x.newest h (subst (λ (k : ℕ). IsOpened (image k) h) there oy))

-- an image recovers to one array of slots
pub one_recovery : (image : Image) (x y : ℕ → List ℕ) → Recovers image x → Recovers image y → (s : ℕ) → x s ≡ y s
one_recovery image x y rx ry s =
    let area : rx.area ≡ ry.area = one_area image rx.area ry.area rx.generation ry.generation rx.newest rx.log.opened ry.newest ry.log.opened in
    let log : HoldsLog (image rx.area) ry.generation ry.batches = subst (λ (k : ℕ). HoldsLog (image k) ry.generation ry.batches) (sym area) ry.log in
    let batches : rx.batches ≡ ry.batches = one_log (image rx.area) rx.generation ry.generation rx.batches ry.batches rx.log log in
    rx.gives s
    ∙ ap (λ (bs : List (List Note)). recovered (notes_in bs) (slot_of (image 0)) s) batches
    ∙ sym (ry.gives s)

-- what an image with this log state recovers to
pub stands_for : (a g e : ℕ) (bs : List (List Note)) (base : ℕ → List ℕ) (image : Image) → LogState a g e bs base image → Recovers image (recovered (notes_in bs) base)
stands_for a g e bs base image st = record {
  area = a;
  generation = g;
  batches = bs;
  newest = st.newest;
  log = st.log;
  gives = λ s. given-below (is_committed (notes_in bs)) (base s) (slot_of (image 0) s) (changes_of s (notes_in bs)) (λ none. sym (st.below s none));
}

-- the notes recover to the committed slots
pub committed_now : (notes : List Note) (base committed reads : ℕ → List ℕ) (live : ℕ → Bool) (undo : ℕ → List Undo) → Logged notes base committed reads live undo → (s : ℕ) → recovered notes base s ≡ committed s
committed_now notes base committed reads live undo l s =
    given-sets (is_committed notes) (λ t. is_committed notes t || false) (base s) (changes_of s notes) (λ t. or_none (is_committed notes t))
    ∙ l.rest (λ t. false) s (λ t out. absurd (true≢false (sym out))) (λ t out. absurd (true≢false (sym out)))
  where
    or_none : (b : Bool) → b ≡ (b || false)
    or_none true = refl
    or_none false = refl

-- an image with these notes recovers to the committed slots
pub keeps : (a g e : ℕ) (bs : List (List Note)) (base committed reads : ℕ → List ℕ) (live : ℕ → Bool) (undo : ℕ → List Undo) (image : Image) (slots : ℕ → List ℕ)
    → LogState a g e bs base image → Logged (notes_in bs) base committed reads live undo → Recovers image slots → (s : ℕ) → slots s ≡ committed s
keeps a g e bs base committed reads live undo image slots st l r s =
    one_recovery image slots (recovered (notes_in bs) base) r (stands_for a g e bs base image st) s
    ∙ committed_now (notes_in bs) base committed reads live undo l s

-- ---- writes

pub same_newest : (d image : Image) (a g : ℕ) → image (3 - a) ≡ d (3 - a) → IsNewest d a g → IsNewest image a g
same_newest d image a g same n = record { log = n.log; newest = λ other o. n.newest other (subst (λ (l : List ℕ). IsOpened l other) same o) }

-- after the closed gate
pub behind_log : (a g e : ℕ) (bs : List (List Note)) (base : ℕ → List ℕ) (gate : ℕ) (d image : Image) → gate ≡ length (log_bytes g bs) → Others a d image → SameBelow (gate + 1) (d a) (image a) → LogState a g e bs base d → LogState a g e bs base image
behind_log a g e bs base gate d image is others same st =
    let far = other_of a st.newest.log in
    let zero_same : image 0 ≡ d 0 = others 0 (far.1) in
    record {
      newest = same_newest d image a g (others (3 - a) (far.0)) st.newest;
      log = same_log (d a) (image a) g bs gate is same st.log;
      there = omega (arith, st.there, ap (length {A = ℕ}) zero_same);
      below = λ s none. ap (λ (l : List ℕ). slot_of l s) zero_same ∙ st.below s none;
    }

-- the area holds these batches, in which no slot has lost its notes
pub relog : (a g e : ℕ) (bs cs : List (List Note)) (base : ℕ → List ℕ) (d image : Image) → Others a d image → HoldsLog (image a) g cs → ((s : ℕ) → changes_of s (notes_in cs) ≡ [] → changes_of s (notes_in bs) ≡ []) → LogState a g e bs base d → LogState a g e cs base image
relog a g e bs cs base d image others log fewer st =
    let far = other_of a st.newest.log in
    let zero_same : image 0 ≡ d 0 = others 0 (far.1) in
    record {
      newest = same_newest d image a g (others (3 - a) (far.0)) st.newest;
      log = log;
      there = omega (arith, st.there, ap (length {A = ℕ}) zero_same);
      below = λ s none. ap (λ (l : List ℕ). slot_of l s) zero_same ∙ st.below s (fewer s none);
    }

-- the gate of a batch is open
pub with_batch : (a g e : ℕ) (bs : List (List Note)) (b : List Note) (base : ℕ → List ℕ) (d image : Image) → Others a d image → HoldsLog (image a) g (bs ++ b ∷ []) → LogState a g e bs base d → LogState a g e (bs ++ b ∷ []) base image
with_batch a g e bs b base d image others log st =
    let far = other_of a st.newest.log in
    let zero_same : image 0 ≡ d 0 = others 0 (far.1) in
    record {
      newest = same_newest d image a g (others (3 - a) (far.0)) st.newest;
      log = log;
      there = omega (arith, st.there, ap (length {A = ℕ}) zero_same);
      below = λ s none. ap (λ (l : List ℕ). slot_of l s) zero_same ∙ st.below s (fewer (changes_of s (notes_in bs)) (changes_of s (notes_in (b ∷ [])))
          (sym (changes_of-append s (notes_in bs) (notes_in (b ∷ []))) ∙ ap (changes_of s) (sym (flat_map-append (λ (x : List Note). x) bs (b ∷ []))) ∙ none));
    }
  where
    fewer : (xs ys : List Change) → xs ++ ys ≡ [] → xs ≡ []
    fewer [] ys is = refl
    fewer (x ∷ xs) ys is = cc

-- a slot's bytes are those of its place
pub length-slot_of : (l : List ℕ) (s : ℕ) → length (slot_of l s) ≡ 256
unfolding slot_of
length-slot_of l s = omega (arith, length-take 256 (drop (256 * s) l ++ replicate 256 0), length-append (drop (256 * s) l) (replicate {A = ℕ} 256 0), length-replicate {A = ℕ} 256 0)

pub get_or-slot_of : (l : List ℕ) (s i : ℕ) → i < 256 → get_or (slot_of l s) i 0 ≡ get_or l (256 * s + i) 0
unfolding slot_of
get_or-slot_of l s i lt = get_or-take 256 (drop (256 * s) l ++ replicate 256 0) i 0 lt ∙ ⊎_elim
    (λ (within : i < length (drop (256 * s) l)). get_or_append_left (drop (256 * s) l) (replicate 256 0) 0 i within ∙ get_or-drop (256 * s) l i 0)
    (λ (past : length (drop (256 * s) l) ≤ i).
    get_or-append_right (drop (256 * s) l) (replicate 256 0) (length (drop (256 * s) l)) i 0 refl past
    ∙ get_or-replicate 256 (i - length (drop (256 * s) l)) 0 0 (omega (arith, lt))
    ∙ sym (get_or_past l (256 * s + i) 0 (omega (arith, past, length-drop (256 * s) l))))
    (cases_lt i (length (drop (256 * s) l)))

pub slot_same : (old new : List ℕ) (s : ℕ) → ((i : ℕ) → 256 * s ≤ i → i < 256 * s + 256 → get_or new i 0 ≡ get_or old i 0) → slot_of new s ≡ slot_of old s
slot_same old new s same = ext_get_or 0 _ _ (length-slot_of new s ∙ sym (length-slot_of old s)) (λ i lt.
    let small : i < 256 = omega (arith, lt, length-slot_of new s) in
    get_or-slot_of new s i small ∙ same (256 * s + i) (omega arith) (omega (arith, small)) ∙ sym (get_or-slot_of old s i small))

-- what a torn write leaves from its end on
pub torn_after_it : (at n : ℕ) (old new : List ℕ) → Torn at n old new → (i : ℕ) → at + n ≤ i → get_or new i 0 ≡ get_or old i 0
torn_after_it at n old new torn i from = ⊎_elim
    (λ (within : i < length old). torn.above i within from)
    (λ (past : length old ≤ i). get_or_past new i 0 (omega (arith, past, from, torn.no_longer)) ∙ sym (get_or_past old i 0 past))
    (cases_lt i (length old))

-- the rule for the write of a slot
pub may_write : (e : ℕ) (bs : List (List Note)) (slot : ℕ) → HasNotesTo e bs slot → MayWrite e bs (256 * slot) 256
may_write e bs slot has k none = ⊎_elim
    (λ (before : k < slot). ⊎_elim
    (λ (had : k < e). inl (had, omega (arith, before)))
    (λ (past : e ≤ k). absurd (has.gap k past before none))
    (cases_lt k e))
    (λ (from : slot ≤ k). elim (cases_eq k slot) [
      | inl its ↦ absurd (has.own (subst (λ (x : ℕ). changes_of x (notes_in bs) ≡ []) its none))
      | inr not ↦ inr (beyond from not)
    ])
    (cases_lt k slot)
  where
    beyond : slot ≤ k → k ≢ slot → 256 * slot + 256 ≤ 256 * k
    beyond from not = ⊎_elim (λ (more : slot < k). omega (arith, more)) (λ (le : k ≤ slot). absurd (not (omega (arith, le, from)))) (cases_lt slot k)

-- a write of area 0 that may be made
pub slot_write : (a g e : ℕ) (bs : List (List Note)) (base : ℕ → List ℕ) (at n : ℕ) (d image : Image) → TornIn 0 at n d image
    → MayWrite e bs at n → LogState a g e bs base d → LogState a g e bs base image
slot_write a g e bs base at n d image torn may st =
    let far = other_of a st.newest.log in
    record {
      newest = same_newest d image a g (torn.others (3 - a) (far.4)) st.newest;
      log = subst (λ (l : List ℕ). HoldsLog l g bs) (sym (torn.others a (λ is. far.1 (sym is)))) st.log;
      there = omega (arith, st.there, torn.torn.no_shorter);
      below = λ s none. slot_same (d 0) (image 0) s (λ i from to. ⊎_elim
          (λ (before : (s < e) × (256 * s + 256 ≤ at)). torn.torn.below i (let had = before.0 in omega (arith, st.there, had, to)) (let ends = before.1 in omega (arith, ends, to)))
          (λ (after : at + n ≤ 256 * s). torn_after_it at n (d 0) (image 0) torn.torn i (omega (arith, after, from)))
          (may s none))
          ∙ st.below s none;
    }

-- the other area of the log, as long as it has no open head
pub others_agree : (a g e : ℕ) (bs : List (List Note)) (base : ℕ → List ℕ) (d image : Image) → Others (3 - a) d image → ((h : ℕ) → IsOpened (image (3 - a)) h → IsOpened (d (3 - a)) h) → LogState a g e bs base d → LogState a g e bs base image
others_agree a g e bs base d image others opened st =
    let far = other_of a st.newest.log in
    let zero_same : image 0 ≡ d 0 = others 0 (λ is. far.4 (sym is)) in
    record {
      newest = record { log = st.newest.log; newest = λ h o. st.newest.newest h (opened h o) };
      log = subst (λ (l : List ℕ). HoldsLog l g bs) (sym (others a (λ is. far.0 (sym is)))) st.log;
      there = omega (arith, st.there, ap (length {A = ℕ}) zero_same);
      below = λ s none. ap (λ (l : List ℕ). slot_of l s) zero_same ∙ st.below s none;
    }

-- it is closed
pub other_closing : (a g e : ℕ) (bs : List (List Note)) (base : ℕ → List ℕ) (d image : Image) → TornIn (3 - a) 0 1 d image → (get_or (d (3 - a)) 0 0 ≡ 1) ⊎ (length (d (3 - a)) ≡ 0) → LogState a g e bs base d → LogState a g e bs base image
other_closing a g e bs base d image torn was st = others_agree a g e bs base d image torn.others (λ h o. torn_closing (d (3 - a)) (image (3 - a)) h was torn.torn o) st

-- it is written after its closed gate
pub other_after_gate : (a g e : ℕ) (bs : List (List Note)) (base : ℕ → List ℕ) (d image : Image) → Others (3 - a) d image → get_or (d (3 - a)) 0 0 ≢ 1 → SameBelow 1 (d (3 - a)) (image (3 - a)) → LogState a g e bs base d → LogState a g e bs base image
other_after_gate a g e bs base d image others shut same st = others_agree a g e bs base d image others (λ h o. absurd (shut (sym (same.same 0 (omega arith)) ∙ sym (o.head 0 (omega arith))))) st

-- its gate is open, with a greater generation: the log state is that of the new generation
pub other_opening : (a g e : ℕ) (bs : List (List Note)) (base : ℕ → List ℕ) (d image : Image) (h f : ℕ) (cs : List (List Note)) (below : ℕ → List ℕ)
    → Others (3 - a) d image → HoldsLog (image (3 - a)) h cs → g < h → 256 * f ≤ length (d 0) → ((s : ℕ) → slot_of (d 0) s ≡ below s) → LogState a g e bs base d → LogState (3 - a) h f cs below image
other_opening a g e bs base d image h f cs below others log later there reads st =
    let far = other_of a st.newest.log in
    let zero_same : image 0 ≡ d 0 = others 0 (λ is. far.4 (sym is)) in
    let same : image (3 - (3 - a)) ≡ d a = ap image (far.3) ∙ others a (λ is. far.0 (sym is)) in
    record {
      newest = record { log = far.2; newest = λ x o. inl (let is = one_opened (d a) x g (subst (λ (l : List ℕ). IsOpened l x) same o) st.log.opened in omega (arith, is, later)) };
      log = log;
      there = omega (arith, there, ap (length {A = ℕ}) zero_same);
      below = λ s none. ap (λ (l : List ℕ). slot_of l s) zero_same ∙ reads s;
    }
