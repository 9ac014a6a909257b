-- What a write leaves of an area of the log.
use Rattle.std.proofs.Common.{◌≡◌, ◌⊎◌, inl, inr, ⊎_elim, ℕ, ◌+◌, ◌<◌, ◌≤◌, List, [], ◌∷◌, ◌++◌, length, get_or, refl, sym, ◌∙◌, ap, subst, arith, append_assoc, length-append}
use Rattle.std.specs.Prelude.{All}
use Rattle.std.specs.List.{flat_map}
use Rattle.std.proofs.lemmas.List.{append-nil, get_or_past}
use Rattle.std.proofs.lemmas.List.Concat.{flat_map-append}
use Rattle.std.proofs.lemmas.List.Elements.{All-push}
use Rattle.std.proofs.lemmas.Bool.{cases_eq, cases_lt}
use Rattle.storage.specs.Disk.{Reads, Torn}
use Rattle.log_meaning.specs.steps.Steps.{SameBelow}
use Rattle.log_meaning.proofs.StepsLemmas.Writes.{reads-head, reads-tail, reads-both, reads-one, reads-same}
use Rattle.log_meaning.specs.declared.note.Note.{Note}
use Rattle.log_meaning.specs.Bytes.{four, note_bytes, batch_bytes, header_bytes, log_bytes, after_gate, IsBatch}
use Rattle.log_meaning.specs.Images.{IsOpened, HoldsLog}
use Rattle.log_meaning.proofs.OneLog.{length-head, length-four}

-- one more batch
pub log-push : (g : ℕ) (bs : List (List Note)) (b : List Note) → log_bytes g (bs ++ b ∷ []) ≡ log_bytes g bs ++ batch_bytes 1 b
log-push g bs b =
    ap (λ (l : List ℕ). (1 ∷ header_bytes g) ++ l) (flat_map-append (batch_bytes 1) bs (b ∷ []) ∙ ap (λ (l : List ℕ). flat_map (batch_bytes 1) bs ++ l) (append-nil (batch_bytes 1 b)))
    ∙ sym (append_assoc (1 ∷ header_bytes g) (flat_map (batch_bytes 1) bs) (batch_bytes 1 b))

pub long_log : (g : ℕ) (bs : List (List Note)) → 32 ≤ length (log_bytes g bs)
long_log g bs = omega (arith, length-append (1 ∷ header_bytes g) (flat_map (batch_bytes 1) bs), length-head g)

-- an area whose first bytes are the same has the same head
pub same_header : (old new : List ℕ) (g : ℕ) → ((i : ℕ) → i < 32 → get_or new i 0 ≡ get_or old i 0) → IsOpened old g → IsOpened new g
same_header old new g same h = record { head = reads-same old new 0 (1 ∷ header_bytes g) (λ i from lt. same i (omega (arith, lt, length-head g))) h.head; old_enough = h.old_enough }

-- and, up to the closed gate, the same log
pub same_log : (old new : List ℕ) (g : ℕ) (bs : List (List Note)) (gate : ℕ) → gate ≡ length (log_bytes g bs) → SameBelow (gate + 1) old new → HoldsLog old g bs → HoldsLog new g bs
same_log old new g bs gate is same h = record {
  opened = same_header old new g (λ i lt. same.same i (omega (arith, lt, is, long_log g bs))) h.opened;
  reads = reads-same old new 0 (log_bytes g bs) (λ i from lt. same.same i (omega (arith, lt, is))) h.reads;
  closed = λ one. h.closed (sym (same.same (length (log_bytes g bs)) (omega (arith, is))) ∙ one);
  sound = h.sound;
}

pub length-after_gate : (b : List Note) → length (after_gate b) ≡ 5 + length (flat_map note_bytes b)
length-after_gate b = omega (arith, length-append (four (length (flat_map note_bytes b)) ++ flat_map note_bytes b) (0 ∷ []), length-append (four (length (flat_map note_bytes b))) (flat_map note_bytes b), length-four (length (flat_map note_bytes b)))

-- a whole batch after a gate counts where the gate is open
pub opened_batch : (area : List ℕ) (g : ℕ) (bs : List (List Note)) (b : List Note) (gate : ℕ) → gate ≡ length (log_bytes g bs) → IsBatch b → IsOpened area g → Reads area 0 (log_bytes g bs) → All IsBatch bs
    → get_or area gate 0 ≡ 1 → Reads area (gate + 1) (after_gate b) → HoldsLog area g (bs ++ b ∷ [])
opened_batch area g bs b gate is sound opened reads all one beyond = record {
  opened = opened;
  reads = subst (λ (l : List ℕ). Reads area 0 l) (sym (log-push g bs b)) (reads-both area 0 (log_bytes g bs) (batch_bytes 1 b) reads
      (subst (λ (k : ℕ). Reads area k (batch_bytes 1 b)) from_zero (reads-both area gate (1 ∷ []) (four (length (flat_map note_bytes b)) ++ flat_map note_bytes b) (reads-one area gate 1 one) (reads-head area (gate + 1) _ (0 ∷ []) beyond))));
  closed = λ open_next. zero≢one (sym (shut 0 (omega arith)) ∙ ap (λ (k : ℕ). get_or area k 0) next ∙ open_next);
  sound = All-push IsBatch bs b all sound;
}
  where
    from_zero : gate ≡ 0 + length (log_bytes g bs)
    from_zero = omega (arith, is)

    zero≢one : ◌≡◌ {A = ℕ} 0 1 → ⊥
    zero≢one e1 = omega (arith, e1)

    shut : (i : ℕ) → i < 1 → get_or area (gate + 1 + length (four (length (flat_map note_bytes b)) ++ flat_map note_bytes b) + i) 0 ≡ get_or (0 ∷ []) i 0
    shut i lt = sym (reads-tail area (gate + 1) (four (length (flat_map note_bytes b)) ++ flat_map note_bytes b) (0 ∷ []) beyond i lt)

    next : gate + 1 + length (four (length (flat_map note_bytes b)) ++ flat_map note_bytes b) + 0 ≡ length (log_bytes g (bs ++ b ∷ []))
    next = omega (arith, ap (length {A = ℕ}) (log-push g bs b), length-append (log_bytes g bs) (batch_bytes 1 b), is)

-- and else not
pub either_batch : (area : List ℕ) (g : ℕ) (bs : List (List Note)) (b : List Note) (gate : ℕ) → gate ≡ length (log_bytes g bs) → IsBatch b → IsOpened area g → Reads area 0 (log_bytes g bs) → All IsBatch bs
    → Reads area (gate + 1) (after_gate b) → HoldsLog area g bs ⊎ HoldsLog area g (bs ++ b ∷ [])
either_batch area g bs b gate is sound opened reads all beyond = elim (cases_eq (get_or area gate 0) 1) [
  | inl one ↦ inr (opened_batch area g bs b gate is sound opened reads all one beyond)
  | inr shut ↦ inl (record { opened = opened; reads = reads; closed = λ one. shut (ap (λ (k : ℕ). get_or area k 0) is ∙ one); sound = all })
]

text_first : (g : ℕ) → get_or (1 ∷ header_bytes g) 1 0 ≡ 65
unfolding header_bytes
text_first g = refl

-- a write of the first byte of an area leaves the bytes after it
pub torn_gate : (old new : List ℕ) → Torn 0 1 old new → (i : ℕ) → 1 ≤ i → get_or new i 0 ≡ get_or old i 0
torn_gate old new torn i from = ⊎_elim
    (λ (within : i < length old). torn.above i within (omega (arith, from)))
    (λ (past : length old ≤ i). get_or_past new i 0 (omega (arith, past, from, torn.no_longer)) ∙ sym (get_or_past old i 0 past))
    (cases_lt i (length old))

-- after it the area has an open head only where it had one before, if its gate was open or it was empty
pub torn_closing : (old new : List ℕ) (g : ℕ) → (get_or old 0 0 ≡ 1) ⊎ (length old ≡ 0) → Torn 0 1 old new → IsOpened new g → IsOpened old g
torn_closing old new g was torn h = ⊎_elim
    (λ (open_before : get_or old 0 0 ≡ 1). same_header new old g (λ i lt. ⊎_elim
    (λ (at_gate : i < 1). ap (λ (k : ℕ). get_or old k 0) (zero_is i at_gate) ∙ open_before ∙ h.head 0 (omega (arith, length-head g)) ∙ ap (λ (k : ℕ). get_or new k 0) (sym (zero_is i at_gate)))
    (λ (beyond : 1 ≤ i). sym (torn_gate old new torn i beyond))
    (cases_lt i 1)) h)
    (λ (empty : length old ≡ 0). absurd (no_text (sym (text_first g) ∙ h.head 1 (omega (arith, length-head g)) ∙ get_or_past new 1 0 (omega (arith, empty, torn.no_longer)))))
    was
  where
    zero_is : (i : ℕ) → i < 1 → i ≡ 0
    zero_is i lt = omega (arith, lt)

    no_text : ◌≡◌ {A = ℕ} 65 0 → ⊥
    no_text is = omega (arith, is)
