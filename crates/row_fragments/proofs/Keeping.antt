-- A change of one row leaves slots chains that were chains.
use Rattle.std.proofs.Common.{◌≡◌, ◌≢◌, ◌⊎◌, inl, inr, ⊎_elim, ℕ, zero, suc, ◌<◌, ◌≤◌, ◌&&◌, not, Bool, true, false, cond, eqb, List, [], ◌∷◌, ◌++◌, length, take, drop, get_or, Some, None, refl, sym, ap, ◌∙◌, subst, arith}
use Rattle.std.proofs.lemmas.Bool.{cases_eq}
use Rattle.std.proofs.lemmas.List.{length-take, take-append-drop}
use Rattle.std.specs.List.{Contains}
use Rattle.row_fragments.specs.Chains.{AreChains, AreOwn, HaveFragments, IsChain, IsOfOneRow, KeepsChains, Rewrites}
use Rattle.row_fragments.specs.Fragments.{AreClear, AreRowSlots, StoredBytes, begins, chain_of, ends, first_or_zero, kind_in, next_in, row_at, slots_from}
use Rattle.row_fragments.specs.Kinds.{HaveKinds}
use Rattle.row_fragments.proofs.Chained.{fragments_same, row_begins, row_same, row_there, row_written}
use Rattle.row_fragments.proofs.Exact.{begun_inside, chain_inside, chain_same, chain_used, chain_written, fragment_begins, fragment_holds, fragment_kinds, fragments_chain}
use Rattle.row_fragments.proofs.Parts.{rows_left}
use Rattle.row_fragments.proofs.Within.{head_in, left_in, none_in, parted, tail_in}

-- a slot is in a list, or it is not
pub among : (xs : List ℕ) (k : ℕ) → Contains xs k ⊎ (¬ Contains xs k)
among [] k = inr (none_in k)
among (x ∷ xs) k = elim (cases_eq k x) [
  | inl e ↦ inl (subst (Contains (x ∷ xs)) (sym e) (head_in x xs))
  | inr ne ↦ ⊎_elim (λ (h : Contains xs k). inl (tail_in x k xs h)) (λ (out : ¬ Contains xs k). inr (past ne out)) (among xs k)
]
  where
    past : k ≢ x → ¬ Contains xs k → ¬ Contains (x ∷ xs) k
    past ne out (zero, within, is) = ne (sym is)
    past ne out (suc i, within, is) = out (i, omega arith, is)

got_in : (xs : List ℕ) (i : ℕ) → i < length xs → Contains xs (get_or xs i 0)
got_in [] i lt = absurd (omega arith)
got_in (x ∷ xs) zero lt = head_in x xs
got_in (x ∷ xs) (suc i) lt = tail_in x (get_or xs i 0) xs (got_in xs i (omega arith))

clear_kind : (slots : ℕ → List ℕ) (xs : List ℕ) (k : ℕ) → AreClear slots xs → Contains xs k → kind_in (slots k) ≡ 0
clear_kind slots [] k clear there = absurd (none_in k there)
clear_kind slots (at ∷ rest) k clear (zero, low, is) = ap (λ (n : ℕ). kind_in (slots n)) (sym is) ∙ ap kind_in clear.0
clear_kind slots (at ∷ rest) k clear (suc i, low, is) = clear_kind slots rest k clear.1 (i, omega arith, is)

later_kind : (slots : ℕ → List ℕ) (xs : List ℕ) (k : ℕ) → HaveKinds slots xs 2 → Contains xs k → kind_in (slots k) ≡ 2
later_kind slots [] k kinds there = absurd (none_in k there)
later_kind slots (at ∷ rest) k kinds (zero, low, is) = ap (λ (n : ℕ). kind_in (slots n)) (sym is) ∙ kinds.0
later_kind slots (at ∷ rest) k kinds (suc i, low, is) = later_kind slots rest k kinds.1 (i, omega arith, is)

-- the only first fragment of a chain is its first slot
first_kind : (slots : ℕ → List ℕ) (xs : List ℕ) (k : ℕ) → HaveKinds slots xs 1 → Contains xs k → kind_in (slots k) ≡ 1 → k ≡ first_or_zero xs
first_kind slots [] k kinds there one = absurd (none_in k there)
first_kind slots (at ∷ rest) k kinds (zero, low, is) one = sym is
first_kind slots (at ∷ rest) k kinds (suc i, low, is) one = let two = later_kind slots rest k kinds.1 (i, omega arith, is) in absurd (omega (arith, one, two))

begun_first : (slots : ℕ → List ℕ) (xs : List ℕ) → HaveKinds slots xs 1 → AreRowSlots xs → 0 < length xs → begins slots (first_or_zero xs) ≡ true
begun_first slots [] kinds rows some = absurd (omega arith)
begun_first slots (at ∷ rest) kinds rows some = row_begins slots at rows.0 rows.1 kinds.0

some_in : (xs : List ℕ) (k : ℕ) → Contains xs k → 0 < length xs
some_in xs k there = let low : there.0 < length xs = there.1 in omega arith

-- what is read is a row only where one begins
pub row_of_some : (b : Bool) (x stored : StoredBytes) → cond b (Some x) None ≡ Some stored → b ≡ true
row_of_some true x stored e = refl
row_of_some false x stored e = absurd (cc e)

pub same_stored : (x y : StoredBytes) → Some x ≡ Some y → x ≡ y
same_stored x y e = cc

module _ (before after : ℕ → List ℕ) (own drawn : List ℕ) (keep table : ℕ) (bytes : List ℕ) (r : Rewrites before after own drawn keep table bytes) (a b : ℕ → List ℕ) (all : AreChains a)
    (was : (k : ℕ) → Contains (own ++ drawn) k → a k ≡ before k) (now : (k : ℕ) → Contains (own ++ drawn) k → b k ≡ after k) (same : (k : ℕ) → ¬ Contains (own ++ drawn) k → b k ≡ a k) where
  abbrev places : List ℕ
  places = own ++ drawn

  abbrev kept : List ℕ
  kept = take keep places

  abbrev freed : List ℕ
  freed = drop keep places

  whole : kept ++ freed ≡ places
  whole = take-append-drop keep places

  in_kept : (k : ℕ) → Contains kept k → Contains places k
  in_kept k there = subst (λ (xs : List ℕ). Contains xs k) whole (left_in kept freed k there)

  split : (k : ℕ) → Contains places k → Contains kept k ⊎ Contains freed k
  split k there = parted kept freed k (subst (λ (xs : List ℕ). Contains xs k) (sym whole) there)

  -- ---- before

  begun_on : (x y : ℕ → List ℕ) (q : ℕ) → y q ≡ x q → begins x q ≡ true → begins y q ≡ true
  begun_on x y q is e = ap (λ (bs : List ℕ). not (ends q) && eqb (kind_in bs) 1) is ∙ e

  used : (q : ℕ) → begins a q ≡ true → (k : ℕ) → Contains (chain_of a q) k → kind_in (a k) ≢ 0
  used q e k there = chain_used a (chain_of a q) _ _ (all.chains q _ (row_there a q e)) k there

  own_listed : (own ≡ chain_of before (first_or_zero own)) → chain_of a (first_or_zero own) ≡ own
  own_listed is = chain_same before a (first_or_zero own) (λ k there. was k (left_in own drawn k (subst (λ (xs : List ℕ). Contains xs k) (sym is) there))) ∙ sym is

  own_row : AreOwn before own → (q : ℕ) → begins a q ≡ true → (k : ℕ) → Contains (chain_of a q) k → Contains own k → (q ≡ first_or_zero own) × (own ≡ chain_of before (first_or_zero own))
  own_row (inl none) q e k there here = absurd (none_in k (subst (λ (xs : List ℕ). Contains xs k) none here))
  own_row (inr (begun, is)) q e k there here =
      let first : Contains own (first_or_zero own) = subst (λ (xs : List ℕ). Contains xs (first_or_zero own)) (sym is) (head_in (first_or_zero own) (slots_from 124 before (next_in (before (first_or_zero own))))) in
      let begun_a : begins a (first_or_zero own) ≡ true = begun_on before a (first_or_zero own) (was (first_or_zero own) (left_in own drawn (first_or_zero own) first)) begun in (
        ⊎_elim
            (λ (free : kind_in (a k) ≡ 0). absurd (used q e k there free))
            (λ (w : IsOfOneRow a k). w.only q e there ∙ sym (w.only (first_or_zero own) begun_a (subst (λ (xs : List ℕ). Contains xs k) (sym (own_listed is)) here)))
            (all.each k (chain_inside a q k (begun_inside a q e).0 there)),
        is,
      )

  -- a row that is read from one of the slots is read from none other
  all_in : (q : ℕ) → begins a q ≡ true → (k : ℕ) → Contains (chain_of a q) k → Contains places k → (j : ℕ) → Contains (chain_of a q) j → Contains places j
  all_in q e k there here j too = ⊎_elim
      (λ (l : Contains own k).
      let o = own_row r.owned q e k there l in
      left_in own drawn j (subst (λ (xs : List ℕ). Contains xs j) (own_listed o.1) (subst (λ (n : ℕ). Contains (chain_of a n) j) o.0 too)))
      (λ (d : Contains drawn k). absurd (used q e k there (ap kind_in (was k here) ∙ r.free k d)))
      (parted own drawn k here)

  disjoint : (q : ℕ) → begins a q ≡ true → ¬ Contains places q → (j : ℕ) → Contains (chain_of a q) j → ¬ Contains places j
  disjoint q e out j there here = out (all_in q e j there here q (head_in q (slots_from 124 a (next_in (a q)))))

  -- ---- rows that begin elsewhere

  begun_was : (q : ℕ) → ¬ Contains places q → begins b q ≡ true → begins a q ≡ true
  begun_was q out e = begun_on b a q (sym (same q out)) e

  chain_now : (q : ℕ) → ¬ Contains places q → begins a q ≡ true → chain_of b q ≡ chain_of a q
  chain_now q out e = chain_same a b q (λ k there. same k (disjoint q e out k there))

  row_now : (q : ℕ) → ¬ Contains places q → begins a q ≡ true → row_at b q ≡ row_at a q
  row_now q out e = row_same a b q (λ k there. same k (disjoint q e out k there))

  elsewhere : (q : ℕ) (stored : StoredBytes) → ¬ Contains places q → begins b q ≡ true → row_at b q ≡ Some stored → IsChain b 1 2 stored.table (chain_of b q) stored.bytes
  elsewhere q stored out e is =
      let begun = begun_was q out e in
      let held : IsChain a 1 2 stored.table (chain_of a q) stored.bytes = all.chains q stored (sym (row_now q out begun) ∙ is) in
      let there : IsChain b 1 2 stored.table (chain_of a q) stored.bytes = record {
        count = held.count;
        each = λ i lt. same (get_or (chain_of a q) i 0) (disjoint q begun out (get_or (chain_of a q) i 0) (got_in (chain_of a q) i lt)) ∙ held.each i lt;
      } in
      subst (λ (xs : List ℕ). IsChain b 1 2 stored.table xs stored.bytes) (sym (chain_now q out begun)) there

  -- ---- the row that was written

  fragments : HaveFragments b kept 1 (length bytes) table bytes
  fragments = fragments_same after b kept 1 (length bytes) table bytes (λ k there. now k (in_kept k there)) r.kept

  kinds : HaveKinds b kept 1
  kinds = fragment_kinds b kept 1 (length bytes) table bytes fragments

  rows : AreRowSlots kept
  rows = rows_left kept freed (subst AreRowSlots (sym whole) r.inside)

  long : length kept ≡ keep
  long = let many = r.many in omega (arith, length-take keep places, many)

  short : length kept ≤ 125
  short = let few = r.few in omega (arith, long, few)

  listed : 0 < length kept → chain_of b (first_or_zero kept) ≡ kept
  listed some = chain_written b kept bytes rows (fragment_holds b kept 1 (length bytes) table bytes (omega arith) rows fragments) some short

  written_row : 0 < length kept → row_at b (first_or_zero kept) ≡ Some (record { table = table; bytes = bytes })
  written_row some = row_written b kept bytes table some short rows (fragment_holds b kept 1 (length bytes) table bytes (omega arith) rows fragments) (fragment_begins b kept 1 (length bytes) table bytes r.fits fragments)

  written_chain : 0 < length kept → IsChain b 1 2 table kept bytes
  written_chain some = fragments_chain b kept table bytes fragments (long ∙ r.least (omega (arith, some, long)))

  -- a row that begins in one of the slots is the one that was written
  written : (q : ℕ) → begins b q ≡ true → Contains places q → (q ≡ first_or_zero kept) × (0 < length kept)
  written q e here =
      let one = (begun_inside b q e).1 in
      ⊎_elim
      (λ (l : Contains kept q). (first_kind b kept q kinds l one, some_in kept q l))
      (λ (f : Contains freed q). let none = ap kind_in (now q here) ∙ clear_kind after freed q r.freed f in absurd (omega (arith, one, none)))
      (split q here)

  chains_now : (q : ℕ) (stored : StoredBytes) → row_at b q ≡ Some stored → IsChain b 1 2 stored.table (chain_of b q) stored.bytes
  chains_now q stored is =
      let e : begins b q ≡ true = row_of_some (begins b q) _ stored is in
      ⊎_elim
      (λ (here : Contains places q).
      let w = written q e here in
      let same_row : record { table = table; bytes = bytes } ≡ stored = same_stored _ stored (sym (written_row w.1) ∙ (ap (row_at b) (sym w.0) ∙ is)) in
      let chain : IsChain b 1 2 table (chain_of b q) bytes = subst (λ (xs : List ℕ). IsChain b 1 2 table xs bytes) (sym (ap (chain_of b) w.0 ∙ listed w.1)) (written_chain w.1) in
      subst (λ (x : StoredBytes). IsChain b 1 2 x.table (chain_of b q) x.bytes) same_row chain)
      (λ (out : ¬ Contains places q). elsewhere q stored out e is)
      (among places q)

  -- ---- each slot

  here_of : (k : ℕ) → Contains places k → (kind_in (b k) ≡ 0) ⊎ IsOfOneRow b k
  here_of k here = ⊎_elim
      (λ (l : Contains kept k). inr (record {
        row = first_or_zero kept;
        begun = begun_first b kept kinds rows (some_in kept k l);
        there = subst (λ (xs : List ℕ). Contains xs k) (sym (listed (some_in kept k l))) l;
        only = λ other e there. ⊎_elim
            (λ (inside : Contains places other). (written other e inside).0)
            (λ (out : ¬ Contains places other). let begun = begun_was other out e in absurd (disjoint other begun out k (subst (λ (xs : List ℕ). Contains xs k) (chain_now other out begun) there) here))
            (among places other);
      }))
      (λ (f : Contains freed k). inl (ap kind_in (now k here) ∙ clear_kind after freed k r.freed f))
      (split k here)

  other_of : (k : ℕ) → ¬ Contains places k → IsOfOneRow a k → IsOfOneRow b k
  other_of k out w = record {
    row = w.row;
    begun = begun_on a b w.row (same w.row apart) w.begun;
    there = subst (λ (xs : List ℕ). Contains xs k) (sym (chain_now w.row apart w.begun)) w.there;
    only = λ other e there. ⊎_elim
        (λ (inside : Contains places other).
        let x = written other e inside in
        absurd (out (in_kept k (subst (λ (xs : List ℕ). Contains xs k) (ap (chain_of b) x.0 ∙ listed x.1) there))))
        (λ (far : ¬ Contains places other). let begun = begun_was other far e in w.only other begun (subst (λ (xs : List ℕ). Contains xs k) (chain_now other far begun) there))
        (among places other);
  }
    where
      apart : ¬ Contains places w.row
      apart inside = out (all_in w.row w.begun w.row (head_in w.row (slots_from 124 a (next_in (a w.row)))) inside k w.there)

  pub chains_kept : AreChains b
  chains_kept = record {
    chains = chains_now;
    each = λ k inside. ⊎_elim
        (λ (here : Contains places k). here_of k here)
        (λ (out : ¬ Contains places k). ⊎_elim
        (λ (free : kind_in (a k) ≡ 0). inl (ap kind_in (same k out) ∙ free))
        (λ (w : IsOfOneRow a k). inr (other_of k out w))
        (all.each k inside))
        (among places k);
  }

-- a change of one row keeps slots chains
pub rewriting_keeps_chains : (before after : ℕ → List ℕ) (own drawn : List ℕ) (keep table : ℕ) (bytes : List ℕ) → Rewrites before after own drawn keep table bytes → KeepsChains before after (own ++ drawn)
rewriting_keeps_chains before after own drawn keep table bytes r a b all was now same = chains_kept before after own drawn keep table bytes r a b all was now same
