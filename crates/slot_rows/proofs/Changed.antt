-- A change of one row, said of the state of a store.
use Rattle.std.proofs.Common.{◌≡◌, ◌≢◌, inl, inr, ℕ, zero, suc, ◌+◌, ◌-◌, ◌<◌, ◌≤◌, max, ◌||◌, ◌&&◌, not, Bool, true, false, cond, eqb, List, [], ◌∷◌, ◌++◌, length, slice_index_or, slice_set, Option, IsTrue, ℤ, refl, sym, ap, ◌∙◌, subst, arith}
use Rattle.std.specs.List.{Contains}
use Rattle.std.proofs.Math.Path.{fun_ext}
use Rattle.std.proofs.lemmas.Bool.{cases_eq}
use Rattle.storage.specs.Slots.{SlotState, Transaction, IsReadable, KeepsCommitted, wrote}
use Rattle.abl_values.specs.Schema.{SchemaData}
use Rattle.database_meaning.specs.declared.state.Key.{Key}
use Rattle.database_meaning.specs.declared.state.StoredRow.{StoredRow}
use Rattle.database_meaning.specs.Setting.{fragments}
use Rattle.row_fragments.specs.Fragments.{StoredBytes, ends}
use Rattle.row_fragments.proofs.Composes.{readable_on}
use Rattle.byte_rows.specs.declared.places.Place.{Place as SlotPlace}
use Rattle.byte_rows.specs.declared.client.Client.{Client}
use Rattle.byte_rows.specs.Noted.{IsSound}
use Rattle.byte_rows.specs.Places.{IsKept, row_in}
use Rattle.byte_rows.specs.Rows.{ChangesRow as ChangesSlots}
use Rattle.byte_rows.proofs.Kept.{tied_of}
use Rattle.row_store.specs.declared.store.RowChange.{RowChange}
use Rattle.row_store.specs.Changes.{RowsById, with_row}
use Rattle.row_store.specs.Rows.{Becomes, ChangesRow, IsObservable, RowState, RowTransaction, SameBase, is_moved}
use Rattle.row_store.specs.Rows as rows
use Rattle.slot_rows.specs.declared.log.Undone.{Undone}
use Rattle.slot_rows.specs.declared.open.Open.{Open}
use Rattle.slot_rows.specs.Decoded.{decoded, is_read, row_of}
use Rattle.slot_rows.specs.Mixes.{slots_of}
use Rattle.slot_rows.specs.Opens.{OpenView, log_in, no_open, open_in, touched_in, view_of, with_change}
use Rattle.slot_rows.specs.State.{Reserved, ReservesMoved, rows_if, state_of, transaction_of}
use Rattle.slot_rows.specs.Stored.{IsStored, changes_of, has}
use Rattle.slot_rows.proofs.Added.{added_low, stored_added}
use Rattle.slot_rows.proofs.Histories.{IsApart, clash, not_true}
use Rattle.slot_rows.proofs.Keeps.{slots_apart}
use Rattle.slot_rows.proofs.Marks.{changes_added, chosen, passed}
use Rattle.slot_rows.proofs.Writes.{Added, row_now, row_others}

-- ---- the list of transactions

pub open_at : (os : List Open) (c : ℕ) (x : Open) → c < length os → x ≡ slice_index_or os c x → open_in os c ≡ view_of x
open_at [] c x lt is = absurd (omega arith)
open_at (o ∷ os) zero x lt is = ap view_of (sym is)
open_at (o ∷ os) (suc c) x lt is = open_at os c x (omega arith) is

pub open_set_same : (os : List Open) (c : ℕ) (x : Open) → c < length os → open_in (slice_set os c x) c ≡ view_of x
open_set_same [] c x lt = absurd (omega arith)
open_set_same (o ∷ os) zero x lt = refl
open_set_same (o ∷ os) (suc c) x lt = open_set_same os c x (omega arith)

pub open_set_other : (os : List Open) (c d : ℕ) (x : Open) → d ≢ c → open_in (slice_set os c x) d ≡ open_in os d
open_set_other [] c d x ne = refl
open_set_other (o ∷ os) zero zero x ne = absurd (ne refl)
open_set_other (o ∷ os) zero (suc d) x ne = refl
open_set_other (o ∷ os) (suc c) zero x ne = refl
open_set_other (o ∷ os) (suc c) (suc d) x ne = open_set_other os c d x (λ e. ne (ap suc e))

pub open_past : (os : List Open) (c : ℕ) → length os ≤ c → open_in os c ≡ no_open
open_past [] c le = refl
open_past (o ∷ os) zero le = absurd (omega arith)
open_past (o ∷ os) (suc c) le = open_past os c (omega arith)

pub stored_same : (schema : SchemaData) (s : SlotState) (a b : List Open) → ((c : ℕ) → open_in b c ≡ open_in a c) → IsStored schema s (log_in a) (touched_in a) → IsStored schema s (log_in b) (touched_in b)
stored_same schema s a b same stored =
    subst (λ (f : ℕ → OpenView). IsStored schema s (λ c. (f c).log) (λ c. (f c).touched)) (sym (fun_ext same)) stored

-- ---- what is committed

pub same_rows : (a b : Bool) (x y : RowsById) → b ≡ a → (IsTrue a → y ≡ x) → rows_if b y ≡ rows_if a x
same_rows true b x y e f = ap (λ (v : Bool). rows_if v y) e ∙ f (is_true refl)
  where
    is_true : true ≡ true → IsTrue true
    is_true e = e
same_rows false b x y e f = ap (λ (v : Bool). rows_if v y) e

pub base_same : (schema : SchemaData) (before after : Reserved) (sequences : List ℤ) (s t : SlotState) (a b : List Open) → KeepsCommitted s t → t.failed ≡ s.failed
    → SameBase (state_of schema before sequences s a) (state_of schema after sequences t b)
base_same schema before after sequences s t a b keeps same = record {
  observable = keeps.observable;
  failed = same;
  schema = refl;
  committed = same_rows s.observable t.observable (decoded schema s.committed) (decoded schema t.committed) keeps.observable (λ is. ap (decoded schema) (keeps.committed is));
  sequences = refl;
}

-- the rows where they are known
pub rows_known : (s : SlotState) (x : RowsById) → IsReadable s → rows_if (s.observable && not s.failed) x ≡ x
rows_known s x readable = ap (λ (b : Bool). rows_if b x) (both s.observable s.failed readable.0 readable.1)
  where
    both : (a b : Bool) → IsTrue a → b ≡ false → (a && not b) ≡ true
    both true b e f = ap not f
    both false b e f = absurd (cc e)

-- ---- slots that no two transactions wrote

pub sound_apart : (schema : SchemaData) (s : SlotState) (places : List SlotPlace) (free : ℕ → ℕ) (clients : List Client) (failed : Bool) (log : ℕ → List Undone) (touched : ℕ → List ℕ)
    → IsSound s places free clients failed → s.failed ≡ false → IsStored schema s log touched → IsApart (slots_of s)
sound_apart schema s places free clients failed log touched sound fine stored = slots_apart s places (sound.noted fine).kept sound.past (stored.low fine)

-- ---- one transaction

abbrev made : List RowChange → (ℕ → Bool) → (Key → Bool) → ℕ → ℕ → RowTransaction
made changes touched reserved drawn written = record { begun = true; changes = changes; touched = touched; reserved = reserved; drawn = drawn; written = written }

or_swap : (a b c : Bool) → (a || (b || c)) ≡ (b || (a || c))
or_swap true true c = refl
or_swap true false c = refl
or_swap false b c = refl

has_push : (rows : List ℕ) (row k : ℕ) → has (rows ++ row ∷ []) k ≡ (eqb k row || has rows k)
has_push [] row k = refl
has_push (r ∷ rows) row k = ap (λ (b : Bool). eqb k r || b) (has_push rows row k) ∙ or_swap (eqb k r) (eqb k row) (has rows k)

-- ---- the change

module _ (schema : SchemaData) (s t : SlotState) (was now : List Open) (client row : ℕ) (slots : List ℕ) (to : Option StoredBytes) (u : Undone)
    (places : List SlotPlace) (free : ℕ → ℕ) (clients : List Client) (failed : Bool) (sound : IsSound s places free clients failed)
    (left_places : List SlotPlace) (left_free : ℕ → ℕ) (left_clients : List Client) (left_failed : Bool) (still_sound : IsSound t left_places left_free left_clients left_failed)
    (stored : IsStored schema s (log_in was) (touched_in was)) (fine : s.failed ≡ false) (begun : (s.transaction client).begun ≡ true) (still_begun : (t.transaction client).begun ≡ true)
    (keeps : KeepsCommitted s t) (others : (c : ℕ) → c ≢ client → t.transaction c ≡ s.transaction c)
    (change : ChangesSlots s t client row slots to) (mark : u.mark ≡ length (s.transaction client).undo) (row_is : u.row ≡ row) (old : IsReadable s → u.old ≡ decoded schema s.reads row)
    (weighs : u.before ≡ fragments u.old) (weighs_now : IsReadable s → u.after ≡ fragments (row_of schema to)) (few : u.after ≤ 125)
    (read : IsReadable s → is_read schema to ≡ true)
    (own : open_in now client ≡ with_change (open_in was client) u) (same : (c : ℕ) → c ≢ client → open_in now c ≡ open_in was c) where
  still_fine : t.failed ≡ false
  still_fine = change.wrote.failed ∙ fine

  kept : IsKept t left_places
  kept = (still_sound.noted still_fine).kept

  owner_now : (k : ℕ) → Contains slots k → (c : ℕ) → c ≢ client → (t.transaction c).begun ≡ true → (t.transaction c).written k ≡ true → ⊥
  owner_now k there c ne is w =
      let inside = change.inside k there in
      let one = kept.owned c k inside is w in
      let two = kept.owned client k inside still_begun (change.wrote.marked k there) in
      ne (omega (arith, one, two))

  elsewhere : (c k : ℕ) → c ≢ client → wrote (t.transaction c).undo k ≡ true → ¬ Contains slots k
  elsewhere c k ne w there =
      let inside = change.inside k there in
      let one = kept.noted c k inside w in
      let two = kept.owned client k inside still_begun (change.wrote.marked k there) in
      ne (omega (arith, one, two))

  alone : (c : ℕ) → c ≢ client → has (touched_in was c) row ≡ false
  alone c ne = not_true (has (touched_in was c) row) (λ is. owner_now row change.first c ne (begun_of c ne is (s.transaction c).begun refl) (ap (λ (x : Transaction). x.written row) (others c ne) ∙ stored.written fine c row is))
    where
      begun_of : (c : ℕ) → c ≢ client → has (touched_in was c) row ≡ true → (b : Bool) → (s.transaction c).begun ≡ b → (t.transaction c).begun ≡ true
      begun_of c ne is true e = ap (λ (x : Transaction). x.begun) (others c ne) ∙ e
      begun_of c ne is false e = absurd (clash (has (touched_in was c) row) is (ap (λ (l : List ℕ). has l row) (stored.idle c e).1))

  added : Added schema s t (log_in was) (log_in now) client row slots to u
  added = record {
    change = change;
    observable = keeps.observable;
    committed = λ readable. keeps.committed readable.0;
    undo_others = λ c ne. ap (λ (x : Transaction). x.undo) (others c ne);
    elsewhere = elsewhere;
    mark = mark;
    row_is = row_is;
    old = old;
    before = weighs;
    after = weighs_now;
    few = few;
    read = read;
    alone = λ c ne. not_true _ (λ is. clash (has (touched_in was c) row) (stored.kept c row is) (alone c ne));
    log_own = ap (λ (v : OpenView). v.log) own;
    log_others = λ c ne. ap (λ (v : OpenView). v.log) (same c ne);
  }

  apart_s : IsApart (slots_of s)
  apart_s = sound_apart schema s places free clients failed (log_in was) (touched_in was) sound fine stored

  own_touched : touched_in now client ≡ touched_in was client ++ row ∷ []
  own_touched = ap (λ (v : OpenView). v.touched) own ∙ ap (λ (r : ℕ). touched_in was client ++ r ∷ []) row_is

  low_now : (c k : ℕ) → ends k ≡ true → wrote (t.transaction c).undo k ≡ false
  low_now = added_low schema s t (log_in was) (log_in now) (touched_in was) (touched_in now) client row slots to u stored added begun fine others still_begun alone own_touched (λ c ne. ap (λ (v : OpenView). v.touched) (same c ne))

  apart_t : IsApart (slots_of t)
  apart_t = slots_apart t left_places kept still_sound.past low_now

  pub changed_stored : IsStored schema t (log_in now) (touched_in now)
  changed_stored = stored_added schema s t (log_in was) (log_in now) (touched_in was) (touched_in now) client row slots to u stored added begun fine others still_begun alone own_touched (λ c ne. ap (λ (v : OpenView). v.touched) (same c ne))
      sound.past still_sound.past apart_s apart_t (row_in left_places) (λ readable. tied_of t left_places kept (readable_on s t keeps.observable change.wrote.failed readable))

  pub changed_rows : IsReadable s → decoded schema t.reads ≡ with_row (decoded schema s.reads) row (row_of schema to)
  changed_rows readable = fun_ext (λ k. elim (cases_eq k row) [
    | inl e ↦ ap (decoded schema t.reads) e ∙ (now_is ∙ sym (ap (λ (i : ℕ). cond (eqb i row) (row_of schema to) (decoded schema s.reads k)) e ∙ chosen row (row_of schema to) (decoded schema s.reads k)))
    | inr ne ↦ others_are k ne ∙ sym (passed k row (row_of schema to) (decoded schema s.reads k) ne)
  ])
    where
      now_is : decoded schema t.reads row ≡ row_of schema to
      now_is = row_now schema s t (log_in was) (log_in now) (touched_in was) client row slots to u stored added sound.past apart_s apart_t (row_in left_places) (tied_of t left_places kept (readable_on s t keeps.observable change.wrote.failed readable)) readable

      others_are : (k : ℕ) → k ≢ row → decoded schema t.reads k ≡ decoded schema s.reads k
      others_are = row_others schema s t (log_in was) (log_in now) (touched_in was) client row slots to u stored added sound.past apart_s apart_t (row_in left_places) (tied_of t left_places kept (readable_on s t keeps.observable change.wrote.failed readable)) readable

  pub changed_state : (value : Option StoredRow) → (IsReadable s → value ≡ row_of schema to) → u.after ≡ fragments value
      → (before after : Reserved) (sequences : List ℤ) → ReservesMoved schema before after client u.old value
      → ChangesRow (state_of schema before sequences s was) (state_of schema after sequences t now) client row value
  changed_state value value_is weighs_value before after sequences moved = record {
    base = base_same schema before after sequences s t was now keeps change.wrote.failed;
    rows = λ readable.
        rows_known t (decoded schema t.reads) (readable_on s t keeps.observable change.wrote.failed readable)
        ∙ (changed_rows readable
        ∙ (ap (with_row (decoded schema s.reads) row) (sym (value_is readable)) ∙ ap (λ (f : RowsById). with_row f row value) (sym (rows_known s (decoded schema s.reads) readable))));
    before = u.old;
    before_is = λ readable. old readable ∙ ap (λ (f : RowsById). f row) (sym (rows_known s (decoded schema s.reads) readable));
    transaction = record {
      others = λ c ne.
          ap (λ (x : Transaction). transaction_of x.begun (after c) (open_in now c)) (others c ne)
          ∙ (ap (λ (f : Key → Bool). transaction_of (s.transaction c).begun f (open_in now c)) (moved.others c ne) ∙ ap (transaction_of (s.transaction c).begun (before c)) (same c ne));
      own =
          ap (λ (b : Bool). transaction_of b (after client) (open_in now client)) still_begun
          ∙ (ap (λ (f : Key → Bool). transaction_of true f (open_in now client)) moved.own
          ∙ (ap (transaction_of true (λ key. is_moved schema u.old value key || before client key)) own
          ∙ own_is));
    };
  }
    where
      drawn_is : u.after - u.before ≡ fragments value - fragments u.old
      drawn_is = ap (λ (n : ℕ). n - u.before) weighs_value ∙ ap (λ (n : ℕ). fragments value - n) weighs

      written_is : max u.after u.before ≡ max (fragments value) (fragments u.old)
      written_is = ap (λ (n : ℕ). max n u.before) weighs_value ∙ ap (max (fragments value)) weighs

      own_is : transaction_of true (λ key. is_moved schema u.old value key || before client key) (with_change (open_in was client) u)
          ≡ rows.with_change schema (transaction_of (s.transaction client).begun (before client) (open_in was client)) row u.old value
      own_is =
          ap (λ (cs : List RowChange). made cs (has (touched_in was client ++ u.row ∷ [])) (λ key. is_moved schema u.old value key || before client key) ((open_in was client).drawn + (u.after - u.before)) ((open_in was client).written + max u.after u.before))
          (changes_added (log_in was client) u ∙ ap (λ (r : ℕ). changes_of (log_in was client) ++ record { row = r; old = u.old } ∷ []) row_is)
          ∙ (ap (λ (f : ℕ → Bool). made (changes_of (log_in was client) ++ record { row = row; old = u.old } ∷ []) f (λ key. is_moved schema u.old value key || before client key) ((open_in was client).drawn + (u.after - u.before)) ((open_in was client).written + max u.after u.before))
          (fun_ext (λ k. has_push (touched_in was client) u.row k ∙ ap (λ (r : ℕ). eqb k r || has (touched_in was client) k) row_is))
          ∙ (ap (λ (n : ℕ). made (changes_of (log_in was client) ++ record { row = row; old = u.old } ∷ []) (λ k. eqb k row || has (touched_in was client) k) (λ key. is_moved schema u.old value key || before client key) ((open_in was client).drawn + n) ((open_in was client).written + max u.after u.before)) drawn_is
          ∙ ap (λ (n : ℕ). made (changes_of (log_in was client) ++ record { row = row; old = u.old } ∷ []) (λ k. eqb k row || has (touched_in was client) k) (λ key. is_moved schema u.old value key || before client key) ((open_in was client).drawn + (fragments value - fragments u.old)) ((open_in was client).written + n)) written_is))
