-- Parts of the clients, and what the change of one client makes of them.
use Rattle.std.proofs.Common.{◌≡◌, ◌≢◌, inl, inr, ℕ, zero, suc, ◌<◌, ◌≤◌, Bool, List, [], ◌∷◌, ◌++◌, length, slice_index_or, slice_set, refl, sym, ◌∙◌, ap, subst, arith}
use Rattle.std.proofs.lemmas.Bool.{cases_eq}
use Rattle.std.specs.List.{flat_map}
use Rattle.storage.specs.declared.slots.Undo.{Undo}
use Rattle.storage.specs.Slots.{Transaction, Becomes}
use Rattle.open_transactions.specs.declared.client.Client.{Client}
use Rattle.open_transactions.specs.Clients.{of_client, transaction_of, transaction_in, idle, list_of, lists, lists_but}

module _ {A : Type 0} (none : A) (part : Client → A) where
  pub part_here : (cs : List Client) (k : ℕ) (x : Client) → k < length cs → x ≡ slice_index_or cs k x → of_client none part cs k ≡ part x
  part_here [] k x lt is = absurd (omega (arith, lt))
  part_here (c ∷ cs) zero x lt is = ap part (sym is)
  part_here (c ∷ cs) (suc k) x lt is = part_here cs k x (omega (arith, lt)) is

  pub part_past : (cs : List Client) (k : ℕ) → length cs ≤ k → of_client none part cs k ≡ none
  part_past [] k le = refl
  part_past (c ∷ cs) zero le = absurd (omega (arith, le))
  part_past (c ∷ cs) (suc k) le = part_past cs k (omega (arith, le))

  pub part_set : (cs : List Client) (k : ℕ) (x : Client) → k < length cs → of_client none part (slice_set cs k x) k ≡ part x
  part_set [] k x lt = absurd (omega (arith, lt))
  part_set (c ∷ cs) zero x lt = refl
  part_set (c ∷ cs) (suc k) x lt = part_set cs k x (omega (arith, lt))

  pub part_other : (cs : List Client) (k j : ℕ) (x : Client) → j ≢ k → of_client none part (slice_set cs k x) j ≡ of_client none part cs j
  part_other [] k j x ne = refl
  part_other (c ∷ cs) zero zero x ne = absurd (ne refl)
  part_other (c ∷ cs) zero (suc j) x ne = refl
  part_other (c ∷ cs) (suc k) zero x ne = refl
  part_other (c ∷ cs) (suc k) (suc j) x ne = part_other cs k j x (λ e. ne (ap suc e))

  -- a client that is changed to one with the same part
  pub part_same : (cs : List Client) (k : ℕ) (x : Client) → k < length cs → part x ≡ of_client none part cs k → (j : ℕ) → of_client none part (slice_set cs k x) j ≡ of_client none part cs j
  part_same cs k x lt is j = elim (cases_eq j k) [
    | inl e ↦ subst (λ (n : ℕ). of_client none part (slice_set cs k x) n ≡ of_client none part cs n) (sym e) (part_set cs k x lt ∙ is)
    | inr ne ↦ part_other cs k j x ne
  ]

  -- one client more that has no such part
  pub part_more : (cs : List Client) (x : Client) → part x ≡ none → ((k : ℕ) → of_client none part cs k ≡ none) → (k : ℕ) → of_client none part (cs ++ x ∷ []) k ≡ none
  part_more [] x is all zero = is
  part_more [] x is all (suc k) = refl
  part_more (c ∷ cs) x is all zero = all 0
  part_more (c ∷ cs) x is all (suc k) = part_more cs x is (λ j. all (suc j)) k

pub flat_same : (h : Client → List Undo) (cs : List Client) (k : ℕ) (x : Client) → k < length cs → h x ≡ of_client [] h cs k → flat_map h (slice_set cs k x) ≡ flat_map h cs
flat_same h [] k x lt is = absurd (omega (arith, lt))
flat_same h (c ∷ cs) zero x lt is = ap (λ (l : List Undo). l ++ flat_map h cs) is
flat_same h (c ∷ cs) (suc k) x lt is = ap (λ (l : List Undo). h c ++ l) (flat_same h cs k x (omega (arith, lt)) is)

pub but_same : (cs : List Client) (j k : ℕ) (x : Client) → k < length cs → list_of x ≡ of_client [] list_of cs k → lists_but j (slice_set cs k x) ≡ lists_but j cs
but_same [] j k x lt is = absurd (omega (arith, lt))
but_same (c ∷ cs) zero zero x lt is = refl
but_same (c ∷ cs) zero (suc k) x lt is = flat_same list_of cs k x (omega (arith, lt)) is
but_same (c ∷ cs) (suc j) zero x lt is = ap (λ (l : List Undo). l ++ lists_but j cs) is
but_same (c ∷ cs) (suc j) (suc k) x lt is = ap (λ (l : List Undo). list_of c ++ l) (but_same cs j k x (omega (arith, lt)) is)

-- a client whose list is emptied
pub but_one : (cs : List Client) (k : ℕ) (x : Client) → k < length cs → list_of x ≡ [] → lists (slice_set cs k x) ≡ lists_but k cs
but_one [] k x lt is = absurd (omega (arith, lt))
but_one (c ∷ cs) zero x lt is = ap (λ (l : List Undo). l ++ lists cs) is
but_one (c ∷ cs) (suc k) x lt is = ap (λ (l : List Undo). list_of c ++ l) (but_one cs k x (omega (arith, lt)) is)

-- the transactions after one client has become this one
pub becomes : (cs : List Client) (k : ℕ) (x : Client) (goes_on : Bool) (writes : List Undo) (touched : ℕ → Bool) (many few more : ℕ) → k < length cs
    → (transaction_of x).begun ≡ goes_on → (transaction_of x).undo ≡ writes → ((j : ℕ) → (transaction_of x).written j ≡ touched j) → (transaction_of x).counted ≡ many → (transaction_of x).low ≡ few → more ≤ (transaction_of x).room
    → Becomes k (transaction_in cs) (transaction_in (slice_set cs k x)) goes_on writes touched many few more
becomes cs k x goes_on writes touched many few more lt begun undo written counted low room =
    let at = part_set idle transaction_of cs k x lt in
    record {
      others = λ j ne. part_other idle transaction_of cs k j x ne;
      begun = ap (λ (t : Transaction). t.begun) at ∙ begun;
      undo = ap (λ (t : Transaction). t.undo) at ∙ undo;
      written = λ j. ap (λ (t : Transaction). t.written j) at ∙ written j;
      counted = ap (λ (t : Transaction). t.counted) at ∙ counted;
      low = ap (λ (t : Transaction). t.low) at ∙ low;
      room = subst (λ (t : Transaction). more ≤ t.room) (sym at) room;
    }

-- where the client means this transaction
pub becomes_as : (cs : List Client) (k : ℕ) (x : Client) (t : Transaction) (goes_on : Bool) (more : ℕ) → k < length cs → transaction_of x ≡ t → t.begun ≡ goes_on → more ≤ t.room
    → Becomes k (transaction_in cs) (transaction_in (slice_set cs k x)) goes_on t.undo t.written t.counted t.low more
becomes_as cs k x t goes_on more lt is begun room = becomes cs k x goes_on t.undo t.written t.counted t.low more lt
    (ap (λ (u : Transaction). u.begun) is ∙ begun) (ap (λ (u : Transaction). u.undo) is) (λ j. ap (λ (u : Transaction). u.written j) is) (ap (λ (u : Transaction). u.counted) is) (ap (λ (u : Transaction). u.low) is)
    (subst (λ (u : Transaction). more ≤ u.room) (sym is) room)
