-- The number of fragments of the committed rows, over the calls that do not commit.
use Rattle.std.proofs.Common.{◌≡◌, inl, inr, ℕ, ◌+◌, ◌-◌, ◌^◌, ◌<◌, ◌≤◌, ◌&&◌, not, Bool, true, false, eqb, List, Option, Some, None, Result, Ok, Err, OnOk, OnErr, IsTrue, ℤ, refl, sym, ap, ◌∙◌, subst, arith}
use Rattle.std.proofs.lemmas.Bool.{cases_eq, cases_lt}
use Rattle.std.proofs.lemmas.Bool.Decides.{nat_tests}
use Rattle.storage.specs.Slots.{AreBlankFrom, SlotState, Begins, GoesBack, HasCause, IsReadable, KeepsCommitted, Rests}
use Rattle.storage.specs.declared.slots.SlotFault.{SlotFault}
use Rattle.storage.specs.declared.slots.SlotFault.TheVariants.{Disk, NoMemory, TxFull}
use Rattle.abl_values.specs.Schema.{SchemaData}
use Rattle.byte_rows.specs.declared.fault.ChainFault.{ChainFault}
use Rattle.database_meaning.specs.declared.state.StoredRow.{StoredRow}
use Rattle.database_meaning.specs.Counts.{sum_below}
use Rattle.database_meaning.specs.Setting.{fragments}
use Rattle.row_fragments.specs.Fragments.{StoredBytes, ends, kind_in, row_at}
use Rattle.row_fragments.proofs.Chained.{no_row_at}
use Rattle.byte_rows.proofs.Rewrites.{high_bound}
use Rattle.row_store.specs.Changes.{RowsById}
use Rattle.row_store.specs.Questions.{IsUsed}
use Rattle.slot_rows.specs.declared.open.Open.{Open}
use Rattle.slot_rows.specs.Commits.{FailsValues}
use Rattle.slot_rows.specs.Counted.{AreCounted, IsWeight, fragments_below}
use Rattle.slot_rows.specs.Decoded.{decoded, is_read, row_of}
use Rattle.slot_rows.specs.Opens.{open_in}
use Rattle.slot_rows.specs.State.{Reserved, rows_if, state_of}
use Rattle.slot_rows.proofs.Opening.{not_begins}
use Rattle.slot_rows.proofs.Weights.{below_end, below_few, below_none, map_sum}

-- a call that leaves no failure found none
pub failed_before : {T : Type 0} (s t : SlotState) (r : Result T SlotFault) → HasCause s t r → t.failed ≡ false → s.failed ≡ false
failed_before s t (Ok v) cause fine = sym (cause.stays (λ e. cc e)) ∙ fine
failed_before s t (Err Disk) cause fine = let e : true ≡ false = sym (cause.failed refl) ∙ fine in absurd (cc e)
failed_before s t (Err TxFull) cause fine = sym (cause.stays (λ e. cc e)) ∙ fine
failed_before s t (Err NoMemory) cause fine = sym (cause.stays (λ e. cc e)) ∙ fine

-- what is committed stays
pub counted_keeps : (schema : SchemaData) (s t : SlotState) (used : ℕ) → KeepsCommitted s t → (t.failed ≡ false → s.failed ≡ false) → (IsReadable s → AreCounted (decoded schema s.committed) used) → IsReadable t → AreCounted (decoded schema t.committed) used
counted_keeps schema s t used keeps fine counted readable =
    let was : IsReadable s = (subst (λ (b : Bool). IsTrue b) keeps.observable readable.0, fine readable.1) in
    subst (λ (f : ℕ → List ℕ). AreCounted (decoded schema f) used) (sym (keeps.committed was.0)) (counted was)

-- a commit that failed leaves what was committed
pub counted_fails : (schema : SchemaData) (s t : SlotState) (used client : ℕ) (values : List ℤ) → FailsValues s t client values → s.failed ≡ false → (IsReadable s → AreCounted (decoded schema s.committed) used) → IsReadable t → AreCounted (decoded schema t.committed) used
counted_fails schema s t used client values fails fine counted readable =
    let was : IsReadable s = (subst (λ (b : Bool). IsTrue b) fails.observable readable.0, fine) in
    subst (λ (f : ℕ → List ℕ). AreCounted (decoded schema f) used) (sym (fails.committed was.0)) (counted was)

pub begins_keeps : (s t : SlotState) (client : ℕ) (r : Result Unit ChainFault) → OnOk r (Begins s t client) → OnErr r (Rests s t) → KeepsCommitted s t
begins_keeps s t client (Ok v) begins rests = begins.keeps
begins_keeps s t client (Err fault) begins rests = rests.keeps

pub back_keeps : (s t : SlotState) (client mark : ℕ) (r : Result Unit ChainFault) → OnOk r (GoesBack s t client mark) → OnErr r (Rests s t) → KeepsCommitted s t
back_keeps s t client mark (Ok v) back rests = back.keeps
back_keeps s t client mark (Err fault) back rests = rests.keeps

-- ---- which identities have rows

past_ends : (k : ℕ) → 1048576 ≤ k → ends k ≡ true
past_ends k le = grind (arith, nat_tests)

low_ends : (k : ℕ) → k < 8192 → ends k ≡ true
low_ends k lt = grind (arith, nat_tests)

ended_none : (schema : SchemaData) (slots : ℕ → List ℕ) (k : ℕ) → ends k ≡ true → decoded schema slots k ≡ None
ended_none schema slots k e = ap (row_of schema) (no_row_at slots k (not_begins (ends k) (eqb (kind_in (slots k)) 1) e))

pub past_none : (schema : SchemaData) (slots : ℕ → List ℕ) (k : ℕ) → 1048576 ≤ k → decoded schema slots k ≡ None
past_none schema slots k le = ended_none schema slots k (past_ends k le)

pub low_none : (schema : SchemaData) (slots : ℕ → List ℕ) (k : ℕ) → k < 8192 → decoded schema slots k ≡ None
low_none schema slots k lt = ended_none schema slots k (low_ends k lt)

-- ---- the number of used fragments

committed_known : (s : SlotState) (x : RowsById) → IsTrue s.observable → rows_if s.observable x ≡ x
committed_known s x is = ap (λ (b : Bool). rows_if b x) is

pub used_is : (schema : SchemaData) (reserved : Reserved) (sequences : List ℤ) (s : SlotState) (opens : List Open) (used drawn result : ℕ) → AreCounted (decoded schema s.committed) used → IsReadable s
    → drawn ≡ sum_below 16 (λ c. (open_in opens c).drawn) → drawn ≤ 15978000 → (used + drawn < 2 ^ 64 → result ≡ (used + drawn) - 0) → IsUsed (state_of schema reserved sequences s opens) result
used_is schema reserved sequences s opens used drawn result counted readable drawn_is few is = λ rows same.
    let all = map_sum 1048576 rows (decoded schema s.committed) (λ k. same k ∙ ap (λ (f : RowsById). f k) (committed_known s (decoded schema s.committed) readable.0)) (λ k le. past_none schema s.committed k le) in
    let sum = counted.sum in
    let most = below_few 1048576 (decoded schema s.committed) counted.few in
    let total : result ≡ (used + drawn) - 0 = is (omega (arith, sum, most, few)) in
    omega (arith, all, sum, total, drawn_is)

-- no row has no fragment
pub counted_none : (schema : SchemaData) (slots : ℕ → List ℕ) → ((k : ℕ) → decoded schema slots k ≡ None) → AreCounted (decoded schema slots) 0
counted_none schema slots none = record {
  few = λ k. subst (λ (r : Option StoredRow). fragments r ≤ 125) (sym (none k)) (omega arith);
  sum = sym (below_none 1048576 (decoded schema slots) (λ k lt. none k));
}

-- ---- counting the rows of slots

-- what holds of the identities below a number and of that number
pub one_more : (P : ℕ → Type 0) (at : ℕ) → ((k : ℕ) → 8192 ≤ k → k < at → P k) → P at → (k : ℕ) → 8192 ≤ k → k < at + 1 → P k
one_more P at below here k low lt = elim (cases_eq k at) [
  | inl e ↦ subst P (sym e) here
  | inr ne ↦ below k low (omega (arith, lt, ne))
]

none_few : (schema : SchemaData) (slots : ℕ → List ℕ) (k : ℕ) → decoded schema slots k ≡ None → fragments (decoded schema slots k) ≤ 125
none_few schema slots k none = subst (λ (r : Option StoredRow). fragments r ≤ 125) (sym none) (omega arith)

-- no row has an identity from the end on
pub counted_all : (schema : SchemaData) (slots : ℕ → List ℕ) (used end at : ℕ) → at ≡ end → end ≤ 1048576 → ((k : ℕ) → end ≤ k → decoded schema slots k ≡ None)
    → used + fragments_below 8192 (decoded schema slots) ≡ fragments_below at (decoded schema slots) → ((k : ℕ) → 8192 ≤ k → k < at → fragments (decoded schema slots k) ≤ 125) → AreCounted (decoded schema slots) used
counted_all schema slots used end at all high past is few = record {
  few = λ k. elim (cases_lt k 8192) [
    | inl lt ↦ none_few schema slots k (low_none schema slots k lt)
    | inr low ↦ elim (cases_lt k end) [
      | inl lt ↦ few k low (omega (arith, lt, all))
      | inr le ↦ none_few schema slots k (past k le)
    ]
  ];
  sum =
      let none = below_none 8192 (decoded schema slots) (λ k lt. low_none schema slots k lt) in
      let moved = ap (λ (n : ℕ). fragments_below n (decoded schema slots)) all in
      let rest = below_end 1048576 end (decoded schema slots) high past in
      omega (arith, is, none, moved, rest);
}

-- ---- opening

not_of_kind : (a : Bool) (kind : ℕ) → kind ≡ 0 → (not a && eqb kind 1) ≡ false
not_of_kind true kind e = refl
not_of_kind false kind e = ap (λ (k : ℕ). eqb k 1) e

-- no row begins in a slot of zeros
pub blank_none : (slots : ℕ → List ℕ) (end : ℕ) → AreBlankFrom end slots → (k : ℕ) → end ≤ k → row_at slots k ≡ None
blank_none slots end blank k le = by_end (ends k) refl
  where
    by_end : (b : Bool) → ends k ≡ b → row_at slots k ≡ None
    by_end true e = no_row_at slots k (not_begins (ends k) (eqb (kind_in (slots k)) 1) e)
    by_end false e =
        let high = high_bound k e in
        no_row_at slots k (not_of_kind (ends k) (kind_in (slots k)) (ap kind_in (blank k le (omega (arith, high)))))

-- what a weight says
pub weight_some : (schema : SchemaData) (stored : Option StoredBytes) (found : Option ℕ) (many : ℕ) → found ≡ Some many → IsWeight schema stored found → (is_read schema stored ≡ true) × (many ≡ fragments (row_of schema stored))
weight_some schema stored found many is weight = subst (IsWeight schema stored) is weight
