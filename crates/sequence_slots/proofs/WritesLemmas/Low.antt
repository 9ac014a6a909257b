-- Writes of slots outside those for rows, one after the other.
use Rattle.std.proofs.Common.{◌≡◌, ◌≢◌, inl, inr, ⊎_elim, ℕ, ◌*◌, ◌<◌, ◌≤◌, ◌==◌, ◌||◌, min, cond, eqb, Bool, true, false, List, [], ◌∷◌, length, take, drop, ℤ, Result, Ok, Err, OnOk, refl, sym, ap, ◌∙◌, arith}
use Rattle.std.proofs.lemmas.Bool.{cases_lt}
use Rattle.std.proofs.lemmas.Bool.Decides.{nat_tests}
use Rattle.std.proofs.lemmas.List.{take_all, drop_all}
use Rattle.storage.specs.Slots.{SlotState, Transaction, IsAlone, HasCause, IsReadable, Writes, wrote}
use Rattle.storage.specs.declared.slots.Undo.{Undo}
use Rattle.row_fragments.specs.Fragments.{ends}
use Rattle.row_fragments.proofs.Composes.{readable_on, wrote_append}
use Rattle.byte_rows.specs.declared.fault.ChainFault.{ChainFault}
use Rattle.byte_rows.specs.Rows.{of_slots}
use Rattle.sequence_slots.specs.Values.{part}
use Rattle.sequence_slots.specs.writes.Wrote.{WroteLow, committed_by}

pub low_none : (s : SlotState) (client : ℕ) → WroteLow s s client
low_none s client = record { failed = refl; more = λ k none. none; rows = λ k inside. refl; reads = λ readable k why. refl }

or_false : (a b : Bool) → (a || b) ≡ false → a ≡ false
or_false true b e = absurd (cc e)
or_false false b e = refl

pub either_none : (a b : Bool) → b ≡ false → (a || b) ≡ a
either_none true b e = refl
either_none false b e = e

pub or_some : (a b : Bool) → b ≡ true → (a || b) ≡ true
or_some true b e = refl
or_some false b e = e

module _ (s t : SlotState) (client slot : ℕ) (bytes : List ℕ) (w : Writes s t client slot bytes) where
  now_is : (k : ℕ) → wrote (t.transaction client).undo k ≡ (wrote (s.transaction client).undo k || ((k == slot) || false))
  now_is k = ap (λ (us : List Undo). wrote us k) w.transaction.undo ∙ wrote_append (s.transaction client).undo (record { slot = slot; old = w.before } ∷ []) k

  other : (k : ℕ) → k ≢ slot → wrote (t.transaction client).undo k ≡ wrote (s.transaction client).undo k
  other k ne = now_is k ∙ either_none (wrote (s.transaction client).undo k) ((k == slot) || false) (let no : (k == slot) ≡ false = grind (arith, nat_tests, ne) in ap (λ (b : Bool). b || false) no)

  itself : (k : ℕ) → k ≡ slot → wrote (t.transaction client).undo k ≡ true
  itself k e = now_is k ∙ or_some (wrote (s.transaction client).undo k) ((k == slot) || false) (let yes : (k == slot) ≡ true = grind (arith, nat_tests, e) in ap (λ (b : Bool). b || false) yes)

  reads_other : IsReadable s → (k : ℕ) → k ≢ slot → t.reads k ≡ s.reads k
  reads_other readable k ne = ap (λ (f : ℕ → List ℕ). f k) (w.reads readable) ∙ (let no : eqb k slot ≡ false = grind (arith, nat_tests, ne) in ap (λ (b : Bool). cond b bytes (s.reads k)) no)

  reads_itself : IsReadable s → (k : ℕ) → k ≡ slot → t.reads k ≡ bytes
  reads_itself readable k e = ap (λ (f : ℕ → List ℕ). f k) (w.reads readable) ∙ (let yes : eqb k slot ≡ true = grind (arith, nat_tests, e) in ap (λ (b : Bool). cond b bytes (s.reads k)) yes)

  pub low_one : t.failed ≡ s.failed → ends slot ≡ true → WroteLow s t client
  low_one failed outside = record {
    failed = failed;
    more = λ k none. or_false (wrote (s.transaction client).undo k) ((k == slot) || false) (sym (now_is k) ∙ none);
    rows = λ k inside. other k (apart k inside);
    reads = λ readable k why. ⊎_elim (λ inside. reads_other readable k (apart k inside)) (λ none. reads_other readable k (λ e. clash (wrote (t.transaction client).undo k) (itself k e) none)) why;
  }
    where
      clash : (b : Bool) → b ≡ true → b ≡ false → ⊥
      clash true e f = cc f
      clash false e f = cc e

      apart : (k : ℕ) → ends k ≡ false → k ≢ slot
      apart k inside e = clash (ends k) (ap ends e ∙ outside) inside

  pub by_write : IsReadable s → committed_by t client slot ≡ bytes
  by_write readable = ap (λ (b : Bool). cond b (t.reads slot) (t.committed slot)) (itself slot refl) ∙ reads_itself readable slot refl

  pub by_others : IsReadable s → (k : ℕ) → k ≢ slot → committed_by t client k ≡ committed_by s client k
  by_others readable k ne =
      ap (λ (b : Bool). cond b (t.reads k) (t.committed k)) (other k ne)
      ∙ (ap (λ (x : List ℕ). cond (wrote (s.transaction client).undo k) x (t.committed k)) (reads_other readable k ne)
      ∙ ap (λ (f : ℕ → List ℕ). cond (wrote (s.transaction client).undo k) (s.reads k) (f k)) (w.keeps.committed readable.0))

pub low_by : {T : Type 0} (r : Result T ChainFault) (s t : SlotState) (client slot : ℕ) (bytes : List ℕ) → ends slot ≡ true → HasCause s t (of_slots r) → OnOk r (Writes s t client slot bytes) → OnOk r (WroteLow s t client)
low_by (Ok v) s t client slot bytes outside cause w = low_one s t client slot bytes w (cause.stays (λ e. cc e)) outside
low_by (Err e) s t client slot bytes outside cause w = tt

-- one after the other
pub low_both : (a b c : SlotState) (client : ℕ) → b.observable ≡ a.observable → WroteLow a b client → WroteLow b c client → WroteLow a c client
low_both a b c client seen f s = record {
  failed = s.failed ∙ f.failed;
  more = λ k none. f.more k (s.more k none);
  rows = λ k inside. s.rows k inside ∙ f.rows k inside;
  reads = λ readable k why. s.reads (readable_on a b seen f.failed readable) k why ∙ f.reads readable k (⊎_elim (λ inside. inl inside) (λ none. inr (s.more k none)) why);
}

pub alone_after : (s t : SlotState) (client slot : ℕ) → ((c : ℕ) → c ≢ client → t.transaction c ≡ s.transaction c) → IsAlone s client slot → IsAlone t client slot
alone_after s t client slot others alone other ne lt begun =
    ap (λ (x : Transaction). x.written slot) (others other ne) ∙ alone other ne lt (sym (ap (λ (x : Transaction). x.begun) (others other ne)) ∙ begun)

-- ---- the values of one slot

pub part_is : (number from : ℕ) (values : List ℤ) → from ≡ min (length values) (30 * number) → take (min (length (drop from values)) 30) (drop from values) ≡ part number values
part_is number from values e = ⊎_elim
    (λ (lt : 30 * number < length values). let is : from ≡ 30 * number = omega (arith, e, lt) in shorter (drop from values) ∙ ap (λ (n : ℕ). take 30 (drop n values)) is)
    (λ (le : length values ≤ 30 * number).
    let is : from ≡ length values = omega (arith, e, le) in
    let none : drop from values ≡ [] = drop_all from values (omega (arith, is)) in
    let none_there : drop (30 * number) values ≡ [] = drop_all (30 * number) values le in
    shorter (drop from values) ∙ ap (take 30) (none ∙ sym none_there))
    (cases_lt (30 * number) (length values))
  where
    shorter : (xs : List ℤ) → take (min (length xs) 30) xs ≡ take 30 xs
    shorter xs = ⊎_elim
        (λ (lt : length xs < 30). let is : min (length xs) 30 ≡ length xs = omega (arith, lt) in ap (λ (n : ℕ). take n xs) is ∙ (take_all (length xs) xs (omega arith) ∙ sym (take_all 30 xs (omega (arith, lt)))))
        (λ (le : 30 ≤ length xs). let is : min (length xs) 30 ≡ 30 = omega (arith, le) in ap (λ (n : ℕ). take n xs) is)
        (cases_lt (length xs) 30)
