-- How an area is prepared for a new generation.
use Rattle.std.proofs.Common.{◌≡◌, ◌≢◌, ◌⊎◌, inl, inr, ⊎_elim, ℕ, zero, suc, ◌+◌, ◌-◌, ◌<◌, ◌≤◌, ◌^◌, List, [], ◌∷◌, ◌++◌, length, get_or, refl, sym, ◌∙◌, ap, subst, arith, length-append, length-drop, Result, Ok, Err, OnOk}
use Rattle.std.specs.Prelude.{All}
use Rattle.std.specs.List.{flat_map}
use Rattle.std.proofs.lemmas.List.{append-nil, get_or-drop}
use Rattle.std.proofs.lemmas.List.Elements.{All-nil, All-push}
use Rattle.std.proofs.lemmas.Bool.{cases_eq, cases_lt}
use Rattle.storage.specs.Disk.{Reads, Torn}
use Rattle.log_meaning.specs.steps.Steps.{Image, Has}
use Rattle.log_meaning.proofs.StepsLemmas.Writes.{below_same, below_twice, reads-head, reads-tail, reads-both, reads-one, reads-same}
use Rattle.log_meaning.specs.declared.note.Note.{Note}
use Rattle.log_meaning.specs.Bytes.{after_gate, batch_bytes, header_bytes, log_bytes, IsBatch}
use Rattle.log_meaning.proofs.Areas.{log-push, long_log, same_header, torn_gate}
use Rattle.log_meaning.proofs.OneLog.{length-head}
use Rattle.bi_log.specs.Appending.{Held, Holds, with_batch, RestsAt}
use Rattle.bi_log.specs.Generations.{AfterGate, opened_as, IsPrepared}

pub ok_then : {T E : Type 0} (r : Result T E) (P Q : Type 0) → OnOk r P → (P → Q) → OnOk r Q
ok_then (Ok x) P Q p f = f p
ok_then (Err e) P Q p f = tt

pub ok_both : {T E : Type 0} (r : Result T E) (P P' Q : Type 0) → OnOk r P → OnOk r P' → (P → P' → Q) → OnOk r Q
ok_both (Ok x) P P' Q p q f = f p q
ok_both (Err e) P P' Q p q f = tt

pub opened_at : (area : List ℕ) (i : ℕ) → 1 ≤ i → get_or (opened_as area) i 0 ≡ get_or area i 0
opened_at area zero from = absurd (omega (arith, from))
opened_at area (suc i) from = get_or-drop 1 area i 0 ∙ ap (λ (k : ℕ). get_or area k 0) (omega arith)

length-opened : (area : List ℕ) → 1 ≤ length area → length (opened_as area) ≡ length area
length-opened area there = omega (arith, length-drop 1 area, there)

-- a log that the area has where all its bytes are the same
pub same_rests : (old new : List ℕ) (h : Held) (gate : ℕ) → ((i : ℕ) → get_or new i 0 ≡ get_or old i 0) → length old ≤ length new → RestsAt old h gate → RestsAt new h gate
same_rests old new h gate same long r = record {
  log = record {
    opened = same_header old new h.generation (λ i lt. same i) r.log.opened;
    reads = reads-same old new 0 (log_bytes h.generation h.batches) (λ i a b. same i) r.log.reads;
    closed = λ one. r.log.closed (sym (same (length (log_bytes h.generation h.batches))) ∙ one);
    sound = r.log.sound;
  };
  at = r.at;
  there = omega (arith, r.there, long);
}

-- the header
pub prepared_head : (area : List ℕ) (h : Held) → get_or area 0 0 ≢ 1 → h.batches ≡ [] → h.generation < 2 ^ 63 → Has area 1 (header_bytes h.generation ++ 0 ∷ []) → IsPrepared area h 32
prepared_head area h shut empty old_enough has = record {
  closed = record { gate = shut; there = omega (arith, has.there) };
  rests = record {
    log = record {
      opened = record { head = head; old_enough = old_enough };
      reads = subst (λ (l : List ℕ). Reads (opened_as area) 0 l) (sym bytes_are) head;
      closed = λ one. none (sym zero_there ∙ ap (λ (k : ℕ). get_or (opened_as area) k 0) (sym size) ∙ one);
      sound = subst (λ (l : List (List Note)). All IsBatch l) (sym empty) (All-nil IsBatch);
    };
    at = sym size;
    there = omega (arith, length-opened area (omega (arith, has.there)), has.there, length-append (header_bytes h.generation) (0 ∷ []), length-head h.generation);
  };
}
  where
    head : Reads (opened_as area) 0 (1 ∷ header_bytes h.generation)
    head = reads-both (opened_as area) 0 (1 ∷ []) (header_bytes h.generation) (reads-one (opened_as area) 0 1 refl)
        (reads-same area (opened_as area) (0 + 1) (header_bytes h.generation) (λ i a b. opened_at area i (omega (arith, a))) (subst (λ (k : ℕ). Reads area k (header_bytes h.generation)) (omega arith) (reads-head area 1 (header_bytes h.generation) (0 ∷ []) has.reads)))

    bytes_are : log_bytes h.generation h.batches ≡ 1 ∷ header_bytes h.generation
    bytes_are = ap (λ (l : List (List Note)). 1 ∷ header_bytes h.generation ++ flat_map (batch_bytes 1) l) empty ∙ ap (λ (l : List ℕ). 1 ∷ l) (append-nil (header_bytes h.generation))

    size : length (log_bytes h.generation h.batches) ≡ 32
    size = ap (length {A = ℕ}) bytes_are ∙ omega (arith, length-head h.generation)

    zero_there : get_or (opened_as area) 32 0 ≡ 0
    zero_there = opened_at area 32 (omega arith) ∙ ap (λ (k : ℕ). get_or area k 0) (omega (arith, length-head h.generation)) ∙ sym (reads-tail area 1 (header_bytes h.generation) (0 ∷ []) has.reads 0 (omega arith))

    none : ◌≡◌ {A = ℕ} 0 1 → ⊥
    none e = omega (arith, e)

-- a batch more
pub prepared_more : (old new : List ℕ) (h : Held) (b : List Note) (gate n : ℕ) → IsBatch b → IsPrepared old h gate → Torn gate n old new → Has new gate (batch_bytes 1 b ++ 0 ∷ []) → IsPrepared new (with_batch h b) (gate + (length (batch_bytes 1 b ++ 0 ∷ []) - 1))
prepared_more old new h b gate n sound p torn has = record {
  closed = record { gate = λ one. p.closed.gate (sym (torn.below 0 (omega (arith, p.closed.there)) (omega (arith, after_head))) ∙ one); there = omega (arith, p.closed.there, torn.no_shorter) };
  rests = record {
    log = record {
      opened = same_header (opened_as old) (opened_as new) h.generation (λ i lt. same i (omega (arith, lt, after_head))) p.rests.log.opened;
      reads = subst (λ (l : List ℕ). Reads (opened_as new) 0 l) (sym (log-push h.generation h.batches b)) (reads-both (opened_as new) 0 (log_bytes h.generation h.batches) (batch_bytes 1 b)
          (reads-same (opened_as old) (opened_as new) 0 (log_bytes h.generation h.batches) (λ i a lt. same i (omega (arith, lt, p.rests.at))) p.rests.log.reads)
          (subst (λ (k : ℕ). Reads (opened_as new) k (batch_bytes 1 b)) from_zero (lift gate (batch_bytes 1 b) (omega (arith, after_head)) (reads-head new gate (batch_bytes 1 b) (0 ∷ []) has.reads))));
      closed = λ one. none (sym zero_there ∙ ap (λ (k : ℕ). get_or (opened_as new) k 0) (sym size) ∙ one);
      sound = All-push IsBatch h.batches b p.rests.log.sound sound;
    };
    at = omega (arith, size, length-append (batch_bytes 1 b) (0 ∷ []));
    there = omega (arith, length-opened new (omega (arith, p.closed.there, torn.no_shorter)), has.there, length-append (batch_bytes 1 b) (0 ∷ []));
  };
}
  where
    after_head : 32 ≤ gate
    after_head = omega (arith, p.rests.at, long_log h.generation h.batches)

    within : gate ≤ length old
    within = omega (arith, p.rests.there, length-opened old p.closed.there)

    same : (i : ℕ) → i < gate → get_or (opened_as new) i 0 ≡ get_or (opened_as old) i 0
    same i lt = ⊎_elim
        (λ (at_gate : i < 1). ap (λ (k : ℕ). get_or (opened_as new) k 0) (zero_is i at_gate) ∙ ap (λ (k : ℕ). get_or (opened_as old) k 0) (sym (zero_is i at_gate)))
        (λ (beyond : 1 ≤ i). opened_at new i beyond ∙ torn.below i (omega (arith, lt, within)) lt ∙ sym (opened_at old i beyond))
        (cases_lt i 1)
      where
        zero_is : (k : ℕ) → k < 1 → k ≡ 0
        zero_is k less = omega (arith, less)

    lift : (at : ℕ) (bytes : List ℕ) → 1 ≤ at → Reads new at bytes → Reads (opened_as new) at bytes
    lift at bytes from r = reads-same new (opened_as new) at bytes (λ i a lt. opened_at new i (omega (arith, a, from))) r

    from_zero : gate ≡ 0 + length (log_bytes h.generation h.batches)
    from_zero = omega (arith, p.rests.at)

    size : length (log_bytes h.generation (h.batches ++ b ∷ [])) ≡ gate + length (batch_bytes 1 b)
    size = ap (length {A = ℕ}) (log-push h.generation h.batches b) ∙ omega (arith, length-append (log_bytes h.generation h.batches) (batch_bytes 1 b), p.rests.at)

    zero_there : get_or (opened_as new) (gate + length (batch_bytes 1 b)) 0 ≡ 0
    zero_there = opened_at new (gate + length (batch_bytes 1 b)) (omega (arith, after_head)) ∙ ap (λ (k : ℕ). get_or new k 0) (omega arith) ∙ sym (reads-tail new gate (batch_bytes 1 b) (0 ∷ []) has.reads 0 (omega arith))

    none : ◌≡◌ {A = ℕ} 0 1 → ⊥
    none e = omega (arith, e)

-- a write after the gate, and then one of the gate
pub torn_both : (old mid new : List ℕ) (gate n : ℕ) → Torn (gate + 1) n old mid → Torn gate 1 mid new → Torn gate (1 + n) old new
torn_both old mid new gate n one two = record {
  no_shorter = omega (arith, one.no_shorter, two.no_shorter);
  no_longer = omega (arith, one.no_longer, two.no_longer);
  below = λ i within before. two.below i (omega (arith, within, one.no_shorter)) before ∙ one.below i within (omega (arith, before));
  above = λ i within after. two.above i (omega (arith, within, one.no_shorter)) (omega (arith, after)) ∙ one.above i within (omega (arith, after));
}

-- an open gate and a batch after it
pub batch_there : (area : List ℕ) (gate : ℕ) (bytes : List ℕ) (b : List Note) → bytes ≡ after_gate b → Has area gate (1 ∷ []) → Has area (gate + 1) bytes → Has area gate (batch_bytes 1 b ++ 0 ∷ [])
batch_there area gate bytes b is one after =
    let whole : (1 ∷ []) ++ bytes ≡ batch_bytes 1 b ++ 0 ∷ [] = ap (λ (l : List ℕ). 1 ∷ l) is in
    record {
      reads = subst (λ (l : List ℕ). Reads area gate l) whole (reads-both area gate (1 ∷ []) bytes one.reads after.reads);
      there = omega (arith, after.there, ap (length {A = ℕ}) whole, length-append (1 ∷ []) bytes);
    }

pub length-batch_after : (b : List Note) → length (batch_bytes 1 b ++ 0 ∷ []) - 1 ≡ length (after_gate b)
length-batch_after b = omega arith

-- the gate
pub opens_to : (old new : List ℕ) (h : Held) (gate : ℕ) → IsPrepared old h gate → Torn 0 1 old new → get_or new 0 0 ≡ 1 → RestsAt new h gate
opens_to old new h gate p torn one = same_rests (opened_as old) new h gate (λ i. ⊎_elim
    (λ (at_gate : i < 1). ap (λ (k : ℕ). get_or new k 0) (zero_is i at_gate) ∙ one ∙ ap (λ (k : ℕ). get_or (opened_as old) k 0) (sym (zero_is i at_gate)))
    (λ (beyond : 1 ≤ i). torn_gate old new torn i beyond ∙ sym (opened_at old i beyond))
    (cases_lt i 1))
    (omega (arith, length-opened old p.closed.there, torn.no_shorter)) p.rests
  where
    zero_is : (i : ℕ) → i < 1 → i ≡ 0
    zero_is i lt = omega (arith, lt)

pub either_opens : (old new : List ℕ) (h : Held) (gate : ℕ) → IsPrepared old h gate → Torn 0 1 old new → Holds new h ⊎ (get_or new 0 0 ≢ 1)
either_opens old new h gate p torn = elim (cases_eq (get_or new 0 0) 1) [
  | inl one ↦ inl (opens_to old new h gate p torn one).log
  | inr shut ↦ inr shut
]

-- ---- bytes after the gate

pub after_none : (area : ℕ) (d : Image) → AfterGate area d d
after_none area d = record { others = λ k other. refl; gate = below_same 1 (d area) (d area) refl }

pub after_twice : (area : ℕ) (d e image : Image) → AfterGate area d e → AfterGate area e image → AfterGate area d image
after_twice area d e image one two = record { others = λ k other. two.others k other ∙ one.others k other; gate = below_twice 1 (d area) (e area) (image area) one.gate two.gate }
