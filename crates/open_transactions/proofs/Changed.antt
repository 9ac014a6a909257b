-- The clients after one of them has changed: who is due, and who wrote a slot.
use Rattle.std.proofs.Common.{◌≡◌, ◌≢◌, inl, inr, ℕ, zero, suc, ◌<◌, ◌==◌, ◌||◌, Bool, true, false, List, [], ◌∷◌, ◌++◌, length, take, drop, get_or, slice_index_or, slice_set, None, ◌^◌, refl, sym, ◌∙◌, ap, subst, arith}
use Rattle.std.proofs.lemmas.Bool.{cases_eq, cases_Bool, cases_lt, eq-eqb, true≢false}
use Rattle.std.proofs.lemmas.List.{append-nil, take-append-drop}
use Rattle.storage.specs.declared.slots.Undo.{Undo}
use Rattle.storage.specs.Slots.{wrote}
use Rattle.open_transactions.specs.declared.client.Client.{Client}
use Rattle.open_transactions.specs.Written.{has_written}
use Rattle.open_transactions.specs.Clients.{transaction_in, list_of, list_in, due_in, due, NothingDue, AreApart, OthersStay, ListsStay, due_of}
use Rattle.open_transactions.proofs.Parts.{part_past, part_here, part_set, part_other, part_same, flat_same, but_same}
use Rattle.log_meaning.proofs.Undone.{wrote-append, wrote-other}
use Rattle.open_transactions.proofs.Lists.{never}

-- what stands of a client's list, and what is due
pub parts_of : (cs : List Client) (k : ℕ) → (transaction_in cs k).undo ++ due_in cs k ≡ list_in cs k
parts_of [] k = refl
parts_of (c ∷ cs) zero = take-append-drop c.standing c.undo.items
parts_of (c ∷ cs) (suc k) = parts_of cs k

-- where nothing is due of it, all of it stands
pub whole_list : (cs : List Client) (k : ℕ) → due_in cs k ≡ [] → (transaction_in cs k).undo ≡ list_in cs k
whole_list cs k none = sym (append-nil (transaction_in cs k).undo) ∙ ap (λ (l : List Undo). (transaction_in cs k).undo ++ l) (sym none) ∙ parts_of cs k

wrote_first : (us vs : List Undo) (s : ℕ) → wrote us s ≡ true → wrote (us ++ vs) s ≡ true
wrote_first [] vs s w = absurd (true≢false (sym w))
wrote_first (x ∷ us) vs s w = elim (cases_Bool (s == x.slot)) [
  | inl here ↦ ap (λ (b : Bool). b || wrote (us ++ vs) s) here
  | inr far ↦ ap (λ (b : Bool). b || wrote (us ++ vs) s) far ∙ wrote_first us vs s (sym (ap (λ (b : Bool). b || wrote us s) far) ∙ w)
]

wrote_second : (us vs : List Undo) (s : ℕ) → wrote vs s ≡ true → wrote (us ++ vs) s ≡ true
wrote_second [] vs s w = w
wrote_second (x ∷ us) vs s w = grind (arith, wrote_second us vs s w)

-- what is due of a client, and what stands, is among its writes
pub due_within : (cs : List Client) (k s : ℕ) → wrote (due_in cs k) s ≡ true → wrote (list_in cs k) s ≡ true
due_within cs k s w = ap (λ (us : List Undo). wrote us s) (sym (parts_of cs k)) ∙ wrote_second (transaction_in cs k).undo (due_in cs k) s w

pub stands_within : (cs : List Client) (k s : ℕ) → wrote (transaction_in cs k).undo s ≡ true → wrote (list_in cs k) s ≡ true
stands_within cs k s w = ap (λ (us : List Undo). wrote us s) (sym (parts_of cs k)) ∙ wrote_first (transaction_in cs k).undo (due_in cs k) s w

pub drop_within : (n : ℕ) (us : List Undo) (s : ℕ) → wrote (drop n us) s ≡ true → wrote us s ≡ true
drop_within n us s w = ap (λ (l : List Undo). wrote l s) (sym (take-append-drop n us)) ∙ wrote_second (take n us) (drop n us) s w

-- where nothing is due there is no such list
pub nothing_due : (cs : List Client) → NothingDue cs → due cs ≡ []
nothing_due [] none = refl
nothing_due (c ∷ cs) none = ap (λ (l : List Undo). l ++ due cs) (none 0) ∙ nothing_due cs (λ k. none (suc k))

-- a client without a transaction has nothing that stands
pub idle_list : (cs : List Client) (k : ℕ) → NothingDue cs → (transaction_in cs k).begun ≡ false → list_in cs k ≡ []
idle_list [] k none ended = refl
idle_list (c ∷ cs) zero none ended = ap (λ (n : ℕ). drop n c.undo.items) (sym (c.ended ended)) ∙ none 0
idle_list (c ∷ cs) (suc k) none ended = idle_list cs k (λ j. none (suc j)) ended

-- a begun transaction has noted each slot of its list
pub noted_in : (cs : List Client) (k s : ℕ) → (transaction_in cs k).begun ≡ true → wrote (list_in cs k) s ≡ true → (transaction_in cs k).written s ≡ true
noted_in [] k s begun w = absurd (true≢false (sym w))
noted_in (c ∷ cs) zero s begun w = c.noted s begun w
noted_in (c ∷ cs) (suc k) s begun w = noted_in cs k s begun w

-- the slots of its list are below 2^20
pub small_in : (cs : List Client) (k s : ℕ) → wrote (list_in cs k) s ≡ true → s < 2 ^ 20
small_in [] k s w = absurd (true≢false (sym w))
small_in (c ∷ cs) zero s w = c.small s w
small_in (c ∷ cs) (suc k) s w = small_in cs k s w

-- where no other transaction wrote the slot and nothing is due, no other list has it
pub alone_lists : (cs : List Client) (client slot : ℕ) → length cs ≡ 16 → ((other : ℕ) → other ≢ client → other < 16 → (transaction_in cs other).begun ≡ true → (transaction_in cs other).written slot ≡ false) → NothingDue cs → (c : ℕ) → c ≢ client → wrote (list_in cs c) slot ≡ false
alone_lists cs client slot sixteen alone none c ne = elim (cases_lt c 16) [
  | inl lt ↦ elim (cases_Bool (transaction_in cs c).begun) [
    | inl begun ↦ never _ (λ w. true≢false (sym (noted_in cs c slot begun w) ∙ alone c ne lt begun))
    | inr ended ↦ ap (λ (us : List Undo). wrote us slot) (idle_list cs c none ended)
  ]
  | inr past ↦ ap (λ (us : List Undo). wrote us slot) (part_past [] list_of cs c (omega (arith, past, sixteen)))
]

-- one slot more
pub written_push : (slots : List ℕ) (slot k : ℕ) → has_written (slots ++ slot ∷ []) k ≡ ((k == slot) || has_written slots k)
written_push [] slot k = refl
written_push (s ∷ slots) slot k = ap (λ (b : Bool). (k == s) || b) (written_push slots slot k) ∙ swapped (k == s) (k == slot) (has_written slots k)
  where
    swapped : (a b c : Bool) → (a || (b || c)) ≡ (b || (a || c))
    swapped true true c = refl
    swapped true false c = refl
    swapped false b c = refl

-- a part of a longer list
pub wrote_front : (us : List Undo) (u : Undo) (s : ℕ) → wrote us s ≡ true → wrote (us ++ u ∷ []) s ≡ true
wrote_front [] u s w = absurd (true≢false (sym w))
wrote_front (x ∷ us) u s w = elim (cases_Bool (s == x.slot)) [
  | inl here ↦ ap (λ (b : Bool). b || wrote (us ++ u ∷ []) s) here
  | inr far ↦ ap (λ (b : Bool). b || wrote (us ++ u ∷ []) s) far ∙ wrote_front us u s (sym (ap (λ (b : Bool). b || wrote us s) far) ∙ w)
]

-- ---- the clients after one of them has changed

pub others_stay : (cs : List Client) (k : ℕ) (x : Client) → OthersStay k cs (slice_set cs k x)
others_stay cs k x = record {
  numbers = λ c ne. part_other None (λ (c : Client). c.number) cs k c x ne;
  lists = λ c ne. part_other [] list_of cs k c x ne;
  due = λ c ne. part_other [] due_of cs k c x ne;
}

pub lists_stay : (cs : List Client) (k : ℕ) (old x : Client) → k < length cs → old ≡ slice_index_or cs k old → x.number ≡ old.number → x.undo.items ≡ old.undo.items → ListsStay cs (slice_set cs k x)
lists_stay cs k old x lt is number undo =
    let same : x.undo.items ≡ list_in cs k = undo ∙ sym (part_here [] list_of cs k old lt is) in
    record {
      numbers = λ i j. part_same None (λ (c : Client). c.number) cs k x lt (number ∙ sym (part_here None (λ (c : Client). c.number) cs k old lt is)) j i;
      list = λ i j. part_same [] list_of cs k x lt same j i;
      all = flat_same list_of cs k x lt same;
      but = λ j. but_same cs j k x lt same;
    }

-- where one list has become another of the same slots, the lists are apart
pub apart_same : (cs : List Client) (k : ℕ) (old x : Client) → k < length cs → old ≡ slice_index_or cs k old → x.undo.items ≡ old.undo.items → AreApart cs → AreApart (slice_set cs k x)
apart_same cs k old x lt is undo apart = subst (λ (f : ℕ → List Undo). (c d s : ℕ) → wrote (f c) s ≡ true → wrote (f d) s ≡ true → c ≡ d) (λ i j. sym (part_same [] list_of cs k x lt (undo ∙ sym (part_here [] list_of cs k old lt is)) j) i) apart

pub due_stays : (cs : List Client) (k : ℕ) (old x : Client) → k < length cs → old ≡ slice_index_or cs k old → x.undo.items ≡ old.undo.items → x.standing ≡ old.standing → due (slice_set cs k x) ≡ due cs
due_stays cs k old x lt is undo standing = flat_same due_of cs k x lt (ap (λ (n : ℕ). drop n x.undo.items) standing ∙ ap (drop old.standing) undo ∙ sym (part_here [] due_of cs k old lt is))

pub due_in_stays : (cs : List Client) (k : ℕ) (old x : Client) → k < length cs → old ≡ slice_index_or cs k old → x.undo.items ≡ old.undo.items → x.standing ≡ old.standing → due_in (slice_set cs k x) ≡ due_in cs
due_in_stays cs k old x lt is undo standing = λ i j. part_same [] due_of cs k x lt (ap (λ (n : ℕ). drop n x.undo.items) standing ∙ ap (drop old.standing) undo ∙ sym (part_here [] due_of cs k old lt is)) j i

-- where nothing is due of the client that changed
pub none_due : (cs : List Client) (k : ℕ) (x : Client) → k < length cs → due_of x ≡ [] → NothingDue cs → NothingDue (slice_set cs k x)
none_due cs k x lt is none j = elim (cases_eq j k) [
  | inl here ↦ ap (λ (i : ℕ). due_in (slice_set cs k x) i) here ∙ part_set [] due_of cs k x lt ∙ is
  | inr ne ↦ part_other [] due_of cs k j x ne ∙ none j
]

-- a front of a list
pub take_within : (n : ℕ) (us : List Undo) (s : ℕ) → wrote (take n us) s ≡ true → wrote us s ≡ true
take_within n us s w = ap (λ (l : List Undo). wrote l s) (sym (take-append-drop n us)) ∙ wrote_first (take n us) (drop n us) s w

-- one write more, whose slot is noted
pub noted_push : (us : List Undo) (ws : List ℕ) (u : Undo) (s : ℕ) → (wrote us s ≡ true → has_written ws s ≡ true) → wrote (us ++ u ∷ []) s ≡ true → has_written (ws ++ u.slot ∷ []) s ≡ true
noted_push us ws u s noted w = written_push ws u.slot s ∙ elim (cases_Bool (s == u.slot)) [
  | inl here ↦ ap (λ (b : Bool). b || has_written ws s) here
  | inr far ↦ ap (λ (b : Bool). b || has_written ws s) far ∙ noted (sym (wrote-append us u s ∙ ap (λ (b : Bool). wrote us s || b) far ∙ or_false (wrote us s)) ∙ w)
]
  where
    or_false : (b : Bool) → (b || false) ≡ b
    or_false true = refl
    or_false false = refl

pub small_push : (us : List Undo) (u : Undo) (s : ℕ) → (wrote us s ≡ true → s < 2 ^ 20) → u.slot < 2 ^ 20 → wrote (us ++ u ∷ []) s ≡ true → s < 2 ^ 20
small_push us u s small lt w = elim (cases_eq s u.slot) [
  | inl here ↦ omega (arith, lt, here)
  | inr far ↦ small (sym (wrote-other us u s far) ∙ w)
]

-- the write at a place of the list
pub wrote_at : (us : List Undo) (i : ℕ) (x : Undo) → i < length us → x ≡ get_or us i x → wrote us x.slot ≡ true
wrote_at [] i x lt is = absurd (omega (arith, lt))
wrote_at (u ∷ us) zero x lt is = ap (λ (b : Bool). b || wrote us x.slot) (eq-eqb x.slot u.slot (ap (λ (y : Undo). y.slot) is))
wrote_at (u ∷ us) (suc i) x lt is = elim (cases_Bool (x.slot == u.slot)) [
  | inl here ↦ ap (λ (b : Bool). b || wrote us x.slot) here
  | inr far ↦ ap (λ (b : Bool). b || wrote us x.slot) far ∙ wrote_at us i x (omega (arith, lt)) is
]
