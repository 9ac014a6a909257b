-- The steps of reading the notes of a log.
use Rattle.std.proofs.Common.{◌≡◌, ◌≢◌, inl, inr, ⊎_elim, ℕ, ◌+◌, ◌-◌, ◌<◌, ◌≤◌, List, [], ◌∷◌, ◌++◌, length, get_or, refl, sym, ◌∙◌, ap, subst, arith, append_assoc}
use Rattle.std.specs.Prelude.{Some}
use Rattle.std.proofs.lemmas.List.{append-nil}
use Rattle.std.proofs.lemmas.List.Elements.{All-nil}
use Rattle.std.proofs.lemmas.List.Concat.{flat_map-append}
use Rattle.std.proofs.lemmas.Bool.{cases_lt}
use Rattle.storage.specs.Disk.{Reads}
use Rattle.log_meaning.specs.declared.note.Note.{Note}
use Rattle.log_meaning.specs.Bytes.{note_bytes, IsBatch}
use Rattle.log_meaning.specs.Images.{IsOpened, HoldsLog}
use Rattle.log_meaning.specs.LogState.{notes_in}
use Rattle.log_meaning.proofs.OneLog.{length-head}
use Rattle.log_meaning.specs.Bytes.{header_bytes}
use Rattle.bi_log.specs.Appending.{Held, with_batch}
use Rattle.bi_log.specs.Reading.{HasBatches, gate_of, IsInside, IsBroken}
use Rattle.bi_log.specs.Outcomes.{NoteAnswer}
use Rattle.bi_log.proofs.ReadSteps.{ends_here}
use Rattle.bi_recovery.specs.ReadNotes.{HasReadTo, HoldsNotes}

-- at the header
pub read_head : (area : List ℕ) (g : ℕ) (notes : List Note) → notes ≡ [] → IsOpened area g → HasReadTo area g 32 0 notes
read_head area g notes none o = record {
  log = record { generation = g; batches = [] };
  part = [];
  is_generation = refl;
  read = record {
    before = record { opened = o; reads = subst (λ (l : List ℕ). Reads area 0 l) (sym (append-nil (1 ∷ header_bytes g))) o.head; sound = All-nil IsBatch };
    place = inl (refl, refl, omega (arith, length-head g, whole));
  };
  are = none;
}
  where
    whole : length ((1 ∷ header_bytes g) ++ []) ≡ length (1 ∷ header_bytes g)
    whole = ap (length {A = ℕ}) (append-nil (1 ∷ header_bytes g))

-- at a gate
pub record AtTheGate (area : List ℕ) (g at : ℕ) (notes : List Note) : Type 0 where
  pub log : Held
  pub is_generation : log.generation ≡ g
  pub has : HasBatches area log
  pub at_is : at ≡ gate_of log
  pub are : notes ≡ notes_in log.batches

pub at_gate : (area : List ℕ) (g at left : ℕ) (notes : List Note) → HasReadTo area g at left notes → left ≡ 0 → AtTheGate area g at notes
at_gate area g at left notes h none = ⊎_elim
    (λ (here : (left ≡ 0) × (h.part ≡ []) × (at ≡ gate_of h.log)). record {
      log = h.log;
      is_generation = h.is_generation;
      has = h.read.before;
      at_is = here.2;
      are = h.are ∙ ap (λ (l : List Note). notes_in h.log.batches ++ l) (here.1) ∙ append-nil (notes_in h.log.batches);
    })
    (λ (inside : IsInside area h.log h.part at left). absurd (let some = inside.some in omega (arith, none, some)))
    h.read.place

pub closed_log : (area : List ℕ) (g at : ℕ) (notes : List Note) → (a : AtTheGate area g at notes) → HoldsLog area a.log.generation a.log.batches → HoldsNotes area g notes
closed_log area g at notes a log = record { batches = a.log.batches; log = subst (λ (k : ℕ). HoldsLog area k a.log.batches) a.is_generation log; are = a.are }

pub closed_past : (area : List ℕ) (g at : ℕ) (notes : List Note) → (a : AtTheGate area g at notes) → get_or area at 0 ≢ 1 → HoldsNotes area g notes
closed_past area g at notes a shut = closed_log area g at notes a (ends_here area a.log a.has (λ one. shut (ap (λ (k : ℕ). get_or area k 0) a.at_is ∙ one)))

pub opens_gate : (area : List ℕ) (g at n : ℕ) (notes : List Note) → (a : AtTheGate area g at notes) → IsInside area a.log [] (gate_of a.log + 5) n → HasReadTo area g (at + 5) n notes
opens_gate area g at n notes a inside = record {
  log = a.log;
  part = [];
  is_generation = a.is_generation;
  read = record { before = a.has; place = inr (subst (λ (k : ℕ). IsInside area a.log [] k n) (omega (arith, a.at_is)) inside) };
  are = a.are ∙ sym (append-nil (notes_in a.log.batches));
}

pub broken_log : (area : List ℕ) (g at : ℕ) (notes : List Note) → (a : AtTheGate area g at notes) → IsBroken area a.log → (batches : List (List Note)) → HoldsLog area g batches → ⊥
broken_log area g at notes a broken batches log = broken batches (subst (λ (k : ℕ). HoldsLog area k batches) (sym a.is_generation) log)

-- in a batch
pub record InBatch (area : List ℕ) (g at left : ℕ) (notes : List Note) : Type 0 where
  pub log : Held
  pub part : List Note
  pub is_generation : log.generation ≡ g
  pub has : HasBatches area log
  pub inside : IsInside area log part at left
  pub are : notes ≡ notes_in log.batches ++ part

pub in_batch : (area : List ℕ) (g at left : ℕ) (notes : List Note) → HasReadTo area g at left notes → (left ≡ 0 → ⊥) → InBatch area g at left notes
in_batch area g at left notes h some = ⊎_elim
    (λ (here : (left ≡ 0) × (h.part ≡ []) × (at ≡ gate_of h.log)). absurd (some (here.0)))
    (λ (inside : IsInside area h.log h.part at left). record { log = h.log; part = h.part; is_generation = h.is_generation; has = h.read.before; inside = inside; are = h.are })
    h.read.place

pub broken_in : (area : List ℕ) (g at left : ℕ) (notes : List Note) → (b : InBatch area g at left notes) → IsBroken area b.log → (batches : List (List Note)) → HoldsLog area g batches → ⊥
broken_in area g at left notes b broken batches log = broken batches (subst (λ (k : ℕ). HoldsLog area k batches) (sym b.is_generation) log)

pub one_more : (area : List ℕ) (g at left size : ℕ) (notes : List Note) (n : Note) → (b : InBatch area g at left notes) → size ≡ length (note_bytes n) → size ≤ left → NoteAnswer area b.log b.part at left (Some n) → HasReadTo area g (at + size) (left - size) (notes ++ n ∷ [])
one_more area g at left size notes n b is within says = ⊎_elim
    (λ (less : size < left). record {
      log = b.log;
      part = b.part ++ n ∷ [];
      is_generation = b.is_generation;
      read = record { before = b.has; place = inr (subst (λ (k : ℕ). IsInside area b.log (b.part ++ n ∷ []) (at + k) (left - k)) (sym is) (says.0 (omega (arith, less, is)))) };
      are = ap (λ (l : List Note). l ++ n ∷ []) b.are ∙ append_assoc (notes_in b.log.batches) b.part (n ∷ []);
    })
    (λ (all : left ≤ size).
    let done = says.1 (omega (arith, all, within, is)) in
    record {
      log = with_batch b.log (b.part ++ n ∷ []);
      part = [];
      is_generation = b.is_generation;
      read = record { before = done.0; place = inl (omega (arith, all), refl, ap (λ (k : ℕ). at + k) is ∙ done.1) };
      are = ap (λ (l : List Note). l ++ n ∷ []) b.are ∙ append_assoc (notes_in b.log.batches) b.part (n ∷ [])
          ∙ sym (append-nil _ ∙ flat_map-append (λ (x : List Note). x) b.log.batches ((b.part ++ n ∷ []) ∷ []) ∙ ap (λ (l : List Note). notes_in b.log.batches ++ l) (append-nil (b.part ++ n ∷ [])));
    })
    (cases_lt size left)
