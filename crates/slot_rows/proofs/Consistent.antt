-- What holds between two calls, said of the state.
use Rattle.std.proofs.Common.{◌≡◌, ℕ, zero, suc, ◌*◌, ◌≤◌, ◌&&◌, not, Bool, false, List, [], ◌∷◌, length, drop, IsTrue, ℤ, refl, sym, ap, ◌∙◌, arith}
use Rattle.std.proofs.Math.Path.{fun_ext}
use Rattle.storage.specs.Slots as storage
use Rattle.storage.specs.Slots.{SlotState, IsReadable}
use Rattle.abl_values.specs.Schema.{SchemaData}
use Rattle.database_meaning.specs.declared.state.Key.{Key}
use Rattle.row_store.specs.Changes.{RowsById}
use Rattle.row_store.specs.Rows.{IsConsistent, RowTransaction}
use Rattle.slot_rows.specs.declared.log.Undone.{Undone}
use Rattle.slot_rows.specs.declared.open.Open.{Open}
use Rattle.slot_rows.specs.Decoded.{decoded}
use Rattle.slot_rows.specs.Mixes.{IsMixed, rows_of, slots_of}
use Rattle.slot_rows.specs.Opens.{OpenView, log_in, no_open, open_in, touched_in}
use Rattle.slot_rows.specs.State.{Reserved, rows_if, state_of, transaction_of}
use Rattle.slot_rows.specs.Stored.{IsStored, changes_of, mark_in}
use Rattle.slot_rows.proofs.Changed.{rows_known}
use Rattle.slot_rows.proofs.Lists.{rows_at}

open_few : (os : List Open) (c : ℕ) → ((open_in os c).drawn ≤ 125 * length (open_in os c).touched) × ((open_in os c).written ≤ 125 * length (open_in os c).touched)
open_few [] c = (omega arith, omega arith)
open_few (o ∷ os) zero = (o.few, o.writes)
open_few (o ∷ os) (suc c) = open_few os c

view_none : (v : OpenView) → v.log ≡ [] → v.touched ≡ [] → v.drawn ≡ 0 → v.written ≡ 0 → v ≡ no_open
view_none v log touched drawn written =
    ap (λ (l : List Undone). made l v.touched v.drawn v.written) log
    ∙ (ap (λ (t : List ℕ). made [] t v.drawn v.written) touched ∙ (ap (λ (n : ℕ). made [] [] n v.written) drawn ∙ ap (made [] [] 0) written))
  where
    made : List Undone → List ℕ → ℕ → ℕ → OpenView
    made l t d w = record { log = l; touched = t; drawn = d; written = w }

committed_known : (s : SlotState) (x : RowsById) → IsTrue s.observable → rows_if s.observable x ≡ x
committed_known s x is = ap (λ (b : Bool). rows_if b x) is

module _ (schema : SchemaData) (reserved : Reserved) (sequences : List ℤ) (s : SlotState) (opens : List Open) (stored : IsStored schema s (log_in opens) (touched_in opens))
    (none : (c : ℕ) → (s.transaction c).begun ≡ false → reserved c ≡ (λ key. false)) where
  base_mixed : IsReadable s → IsMixed (slots_of s) (mark_in s (log_in opens) (λ c. 0)) s.committed
  base_mixed readable = record {
    of = λ c k w. (stored.base readable).of c k w ∙ ap (λ (n : ℕ). storage.undone (drop n (s.transaction c).undo) s.reads k) (sym (stored.first readable.1 c));
    rest = (stored.base readable).rest;
  }

  base_rows : IsReadable s → IsMixed (rows_of (λ c. changes_of (log_in opens c)) (decoded schema s.reads)) (λ c. 0) (decoded schema s.committed)
  base_rows readable = (stored.mixes readable (λ c. 0) s.committed (base_mixed readable)).0

  idle_view : (c : ℕ) → (s.transaction c).begun ≡ false → open_in opens c ≡ no_open
  idle_view c e =
      let both = stored.idle c e in
      let few = open_few opens c in
      let drawn = few.0 in
      let written = few.1 in
      let long = ap length both.1 in
      view_none (open_in opens c) both.0 both.1 (omega (arith, drawn, long)) (omega (arith, written, long))

  pub consistent : IsConsistent (state_of schema reserved sequences s opens)
  consistent = record {
    touched = λ c k is. stored.kept c k is;
    apart = λ c d k ne is. stored.apart c d k ne is;
    base = λ readable k rest.
        ap (λ (f : RowsById). f k) (rows_known s (decoded schema s.reads) readable)
        ∙ (sym ((base_rows readable).rest k rest) ∙ sym (ap (λ (f : RowsById). f k) (committed_known s (decoded schema s.committed) readable.0)));
    back = λ readable c k is.
        rows_at (changes_of (log_in opens c)) (rows_if (s.observable && not s.failed) (decoded schema s.reads)) (decoded schema s.reads) k (ap (λ (f : RowsById). f k) (rows_known s (decoded schema s.reads) readable))
        ∙ (sym ((base_rows readable).of c k is) ∙ sym (ap (λ (f : RowsById). f k) (committed_known s (decoded schema s.committed) readable.0)));
    idle = λ c e.
        ap (λ (b : Bool). transaction_of b (reserved c) (open_in opens c)) e
        ∙ (ap (λ (f : Key → Bool). transaction_of false f (open_in opens c)) (none c e)
        ∙ (ap (transaction_of false (λ key. false)) (idle_view c e)
        ∙ ap (λ (f : ℕ → Bool). quiet f) (fun_ext (λ k. refl))));
  }
    where
      quiet : (ℕ → Bool) → RowTransaction
      quiet f = record { begun = false; changes = []; touched = f; reserved = λ key. false; drawn = 0; written = 0 }
