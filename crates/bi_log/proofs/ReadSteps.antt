-- The steps of reading.
use Rattle.std.proofs.Common.{◌≡◌, ◌≢◌, ◌⊎◌, ⊎_elim, ℕ, zero, suc, ◌+◌, ◌-◌, ◌<◌, ◌≤◌, ◌^◌, List, [], ◌∷◌, ◌++◌, length, get_or, take, drop, refl, sym, ◌∙◌, ap, subst, arith, append_assoc, length-append, take-append-drop}
use Rattle.std.specs.Prelude.{All}
use Rattle.std.specs.List.{flat_map}
use Rattle.std.proofs.lemmas.List.{append-nil, ext_get_or, length-take, get_or-take, get_or-drop}
use Rattle.std.proofs.lemmas.List.Concat.{flat_map-append}
use Rattle.std.proofs.lemmas.List.Elements.{All-head, All-tail, All-push, All-nil}
use Rattle.storage.specs.Disk.{Reads}
use Rattle.log_meaning.proofs.StepsLemmas.Writes.{reads-head, reads-tail, reads-both}
use Rattle.log_meaning.specs.declared.note.Note.{Note}
use Rattle.log_meaning.specs.Bytes.{four, note_bytes, batch_bytes, header_bytes, log_bytes, IsNote, IsBatch}
use Rattle.log_meaning.specs.Images.{HoldsLog}
use Rattle.log_meaning.proofs.OneLog.{Batches, log_batches, batch_length, batch_notes, batch_rest, length-batch, length-four, length-head, one_note, no_bytes, reads_two, four-one}
use Rattle.log_meaning.proofs.Areas.{log-push}
use Rattle.bi_log.specs.Appending.{Held, with_batch}
use Rattle.bi_log.specs.Reading.{BeginsWith, HasBatches, gate_of, IsInside, IsBroken}

-- ---- what another reading of the area begins with

-- notes whose bytes begin with those of others begin with these
pub split_notes : (part c : List Note) (rest : List ℕ) → All IsNote part → All IsNote c → flat_map note_bytes part ++ rest ≡ flat_map note_bytes c → (more : List Note) × (c ≡ part ++ more) × (rest ≡ flat_map note_bytes more) × All IsNote more
split_notes [] c rest ip ic is = (c, refl, is, ic)
split_notes (a ∷ part) [] rest ip ic is = absurd (no_bytes a (flat_map note_bytes part ++ rest) (sym (append_assoc (note_bytes a) (flat_map note_bytes part) rest) ∙ is))
split_notes (a ∷ part) (b ∷ c) rest ip ic is =
    let h = one_note a b (flat_map note_bytes part ++ rest) (flat_map note_bytes c) (All-head IsNote a part ip) (All-head IsNote b c ic) (sym (append_assoc (note_bytes a) (flat_map note_bytes part) rest) ∙ is) in
    let t = split_notes part c rest (All-tail IsNote a part ip) (All-tail IsNote b c ic) (h.1) in
    (t.0, ap (λ (n : Note). n ∷ c) (sym (h.0)) ∙ ap (λ (l : List Note). a ∷ l) (t.1), t.2, t.3)

-- of two lists that read alike the shorter one is a prefix of the longer one
goes_on : (area : List ℕ) (at : ℕ) (xs ys : List ℕ) → length xs ≤ length ys → Reads area at xs → Reads area at ys → xs ++ drop (length xs) ys ≡ ys
goes_on area at xs ys le a b =
    ap (λ (l : List ℕ). l ++ drop (length xs) ys) (ext_get_or 0 xs (take (length xs) ys) (omega (arith, length-take (length xs) ys, le)) (λ i lt. a i lt ∙ sym (b i (omega (arith, lt, le))) ∙ sym (get_or-take (length xs) ys i 0 lt)))
    ∙ take-append-drop (length xs) ys

batches_on : (area : List ℕ) (at : ℕ) (bs cs : List (List Note)) → Batches area at cs → Reads area at (flat_map (batch_bytes 1) bs) → All IsBatch bs → (rest : List (List Note)) × Batches area (at + length (flat_map (batch_bytes 1) bs)) rest
batches_on area at [] cs h r all = (cs, subst (λ (k : ℕ). Batches area k cs) (omega arith) h)
batches_on area at (b ∷ bs) [] h r all = absurd (h.closed (ap (λ (k : ℕ). get_or area k 0) (omega arith) ∙ sym (r 0 (omega arith))))
batches_on area at (b ∷ bs) (c ∷ cs) h r all =
    let ib = All-head IsBatch b bs all in
    let ic = All-head IsBatch c cs h.sound in
    let r1 : Reads area (at + 1) (four (length (flat_map note_bytes b)) ++ flat_map note_bytes b) = reads-tail area at (1 ∷ []) _ (reads-head area at (batch_bytes 1 b) (flat_map (batch_bytes 1) bs) r) in
    let long : length (flat_map note_bytes b) ≡ length (flat_map note_bytes c) = four-one _ _ (omega (arith, ib.few)) (omega (arith, ic.few))
    (reads_two area (at + 1) _ _ (length-four (length (flat_map note_bytes b)) ∙ sym (length-four (length (flat_map note_bytes c)))) (reads-head area (at + 1) _ (flat_map note_bytes b) r1) (batch_length area at c cs h)) in
    let t = batches_on area (at + (5 + length (flat_map note_bytes b))) bs cs (subst (λ (k : ℕ). Batches area (at + (5 + k)) cs) (sym long) (batch_rest area at c cs h))
    (subst (λ (k : ℕ). Reads area (at + k) (flat_map (batch_bytes 1) bs)) (length-batch b) (reads-tail area at (batch_bytes 1 b) (flat_map (batch_bytes 1) bs) r)) (All-tail IsBatch b bs all) in
    (t.0, subst (λ (k : ℕ). Batches area k (t.0)) (omega (arith, length-append (batch_bytes 1 b) (flat_map (batch_bytes 1) bs), length-batch b)) (t.1))

-- the batches that were read are a prefix of those of any log that the area holds
pub rest_at : (area : List ℕ) (log : Held) (cs : List (List Note)) → HasBatches area log → HoldsLog area log.generation cs → (rest : List (List Note)) × Batches area (gate_of log) rest
rest_at area log cs has h =
    let at32 : Reads area 32 (flat_map (batch_bytes 1) log.batches) = subst (λ (k : ℕ). Reads area k (flat_map (batch_bytes 1) log.batches)) (omega (arith, length-head log.generation)) (reads-tail area 0 (1 ∷ header_bytes log.generation) (flat_map (batch_bytes 1) log.batches) has.reads) in
    let t = batches_on area 32 log.batches cs (log_batches area log.generation cs h) at32 has.sound in
    (t.0, subst (λ (k : ℕ). Batches area k (t.0)) (omega (arith, length-append (1 ∷ header_bytes log.generation) (flat_map (batch_bytes 1) log.batches), length-head log.generation)) (t.1))

-- ---- at a gate

pub ends_here : (area : List ℕ) (log : Held) → HasBatches area log → get_or area (gate_of log) 0 ≢ 1 → HoldsLog area log.generation log.batches
ends_here area log has shut = record { opened = has.opened; reads = has.reads; closed = shut; sound = has.sound }

pub enters : (area : List ℕ) (log : Held) (n : ℕ) → get_or area (gate_of log) 0 ≡ 1 → Reads area (gate_of log + 1) (four n) → 0 < n → n ≤ 2 ^ 20 → IsInside area log [] (gate_of log + 5) n
enters area log n one four_there some few = record {
  some = some;
  few = omega (arith, few);
  gate = subst (λ (k : ℕ). Reads area (gate_of log) (1 ∷ four k)) (omega arith) (reads-both area (gate_of log) (1 ∷ []) (four n) (λ i lt. first i lt) four_there);
  reads = λ i lt. absurd (omega (arith, lt));
  at_is = omega arith;
  sound = All-nil IsNote;
}
  where
    first : (i : ℕ) → i < 1 → get_or (1 ∷ []) i 0 ≡ get_or area (gate_of log + i) 0
    first zero lt = sym one ∙ ap (λ (k : ℕ). get_or area k 0) (omega arith)
    first (suc i) lt = absurd (omega (arith, lt))

-- a gate is open and the number after it is no length of a batch
pub broken_head : (area : List ℕ) (log : Held) (n : ℕ) → HasBatches area log → get_or area (gate_of log) 0 ≡ 1 → n < 2 ^ 32 → Reads area (gate_of log + 1) (four n) → (n ≡ 0) ⊎ (2 ^ 20 < n) → IsBroken area log
broken_head area log n has one small there bad cs h = at_rest (t.0) (t.1)
  where
    t : (rest : List (List Note)) × Batches area (gate_of log) rest
    t = rest_at area log cs has h

    at_rest : (rest : List (List Note)) → Batches area (gate_of log) rest → ⊥
    at_rest [] b = b.closed (ap (λ (k : ℕ). get_or area k 0) (omega arith) ∙ one)
    at_rest (c ∷ rest) b =
        let ic = All-head IsBatch c rest b.sound in
        let few = ic.few in
        let some = ic.some in
        let same : length (flat_map note_bytes c) ≡ n = four-one _ _ (omega (arith, few)) small (reads_two area (gate_of log + 1) _ _ (length-four (length (flat_map note_bytes c)) ∙ sym (length-four n)) (batch_length area (gate_of log) c rest b) there) in
        ⊎_elim (λ (zero_is : n ≡ 0). omega (arith, same, some, zero_is)) (λ (large : 2 ^ 20 < n). omega (arith, same, few, large)) bad

-- ---- in a batch

-- a note more
pub note_more : (area bytes : List ℕ) (log : Held) (part : List Note) (at left : ℕ) (n : Note) → length bytes ≡ 525 → length (note_bytes n) ≤ 525 → HasBatches area log → IsInside area log part at left → Reads area at bytes → BeginsWith bytes left n
    → (length (note_bytes n) < left → IsInside area log (part ++ n ∷ []) (at + length (note_bytes n)) (left - length (note_bytes n)))
    × (length (note_bytes n) ≡ left → HasBatches area (with_batch log (part ++ n ∷ [])) × (at + length (note_bytes n) ≡ gate_of (with_batch log (part ++ n ∷ []))))
note_more area bytes log part at left n long short has in_it reads begins = (
  (λ less. record {
    some = omega (arith, less);
    few = omega (arith, in_it.few, size, begins.within);
    gate = subst (λ (k : ℕ). Reads area (gate_of log) (1 ∷ four k)) (omega (arith, size, begins.within)) in_it.gate;
    reads = whole;
    at_is = omega (arith, in_it.at_is, size);
    sound = all;
  }),
  (λ all_read.
      let total : length (flat_map note_bytes part) + left ≡ length (flat_map note_bytes (part ++ n ∷ [])) = omega (arith, size, all_read) in
      let batch : IsBatch (part ++ n ∷ []) = record { each = all; some = omega (arith, in_it.some, total); few = omega (arith, in_it.few, total) } in
      let beyond : Reads area (gate_of log) (batch_bytes 1 (part ++ n ∷ [])) = reads-both area (gate_of log) (1 ∷ four (length (flat_map note_bytes (part ++ n ∷ [])))) (flat_map note_bytes (part ++ n ∷ []))
      (subst (λ (k : ℕ). Reads area (gate_of log) (1 ∷ four k)) total in_it.gate)
      (subst (λ (k : ℕ). Reads area k (flat_map note_bytes (part ++ n ∷ []))) (omega (arith, length-four (length (flat_map note_bytes (part ++ n ∷ []))))) whole) in (
        record {
          opened = has.opened;
          reads = subst (λ (l : List ℕ). Reads area 0 l) (sym (log-push log.generation log.batches (part ++ n ∷ []))) (reads-both area 0 (log_bytes log.generation log.batches) (batch_bytes 1 (part ++ n ∷ [])) has.reads
              (subst (λ (k : ℕ). Reads area k (batch_bytes 1 (part ++ n ∷ []))) (omega arith) beyond));
          sound = All-push IsBatch log.batches (part ++ n ∷ []) has.sound batch;
        },
        omega (arith, in_it.at_is, size, ap (length {A = ℕ}) (log-push log.generation log.batches (part ++ n ∷ [])), length-append (log_bytes log.generation log.batches) (batch_bytes 1 (part ++ n ∷ [])), length-batch (part ++ n ∷ [])),
      )),
)
  where
    joined : flat_map note_bytes (part ++ n ∷ []) ≡ flat_map note_bytes part ++ note_bytes n
    joined = flat_map-append note_bytes part (n ∷ []) ∙ ap (λ (l : List ℕ). flat_map note_bytes part ++ l) (append-nil (note_bytes n))

    size : length (flat_map note_bytes (part ++ n ∷ [])) ≡ length (flat_map note_bytes part) + length (note_bytes n)
    size = ap (length {A = ℕ}) joined ∙ length-append (flat_map note_bytes part) (note_bytes n)

    all : All IsNote (part ++ n ∷ [])
    all = All-push IsNote part n in_it.sound begins.sound

    note_there : Reads area at (note_bytes n)
    note_there = λ i lt. ap (λ (l : List ℕ). get_or l i 0) (sym begins.is) ∙ get_or-take (length (note_bytes n)) bytes i 0 lt ∙ reads i (omega (arith, lt, short, long))

    whole : Reads area (gate_of log + 5) (flat_map note_bytes (part ++ n ∷ []))
    whole = subst (λ (l : List ℕ). Reads area (gate_of log + 5) l) (sym joined) (reads-both area (gate_of log + 5) (flat_map note_bytes part) (note_bytes n) in_it.reads (subst (λ (k : ℕ). Reads area k (note_bytes n)) in_it.at_is note_there))

-- bytes of an open batch that are no note
pub broken_note : (area bytes : List ℕ) (log : Held) (part : List Note) (at left : ℕ) → length bytes ≡ 525 → ((n : Note) → IsNote n → length (note_bytes n) ≤ 525) → HasBatches area log → IsInside area log part at left → Reads area at bytes → ((n : Note) → BeginsWith bytes left n → ⊥) → IsBroken area log
broken_note area bytes log part at left long short has in_it reads none cs h = at_rest (t.0) (t.1)
  where
    t : (rest : List (List Note)) × Batches area (gate_of log) rest
    t = rest_at area log cs has h

    one : get_or area (gate_of log) 0 ≡ 1
    one = ap (λ (k : ℕ). get_or area k 0) (omega arith) ∙ sym (in_it.gate 0 (omega arith))

    at_rest : (rest : List (List Note)) → Batches area (gate_of log) rest → ⊥
    at_rest [] b = b.closed (ap (λ (k : ℕ). get_or area k 0) (omega arith) ∙ one)
    at_rest (c ∷ rest) b = found (s.0) (s.1) (s.2) (s.3)
      where
        ic : IsBatch c
        ic = All-head IsBatch c rest b.sound

        size : length (flat_map note_bytes part) + left ≡ length (flat_map note_bytes c)
        size = four-one _ _ (omega (arith, in_it.few)) (omega (arith, ic.few)) (reads_two area (gate_of log + 1) _ _ (length-four (length (flat_map note_bytes part) + left) ∙ sym (length-four (length (flat_map note_bytes c)))) (reads-tail area (gate_of log) (1 ∷ []) (four (length (flat_map note_bytes part) + left)) in_it.gate) (batch_length area (gate_of log) c rest b))

        r : List ℕ
        r = drop (length (flat_map note_bytes part)) (flat_map note_bytes c)

        cut : flat_map note_bytes part ++ r ≡ flat_map note_bytes c
        cut = goes_on area (gate_of log + 5) (flat_map note_bytes part) (flat_map note_bytes c) (omega (arith, size)) in_it.reads (batch_notes area (gate_of log) c rest b)

        s : (more : List Note) × (c ≡ part ++ more) × (r ≡ flat_map note_bytes more) × All IsNote more
        s = split_notes part c r in_it.sound ic.each cut

        r_long : length r ≡ left
        r_long = omega (arith, ap (length {A = ℕ}) cut, length-append (flat_map note_bytes part) r, size)

        r_reads : Reads area at r
        r_reads = subst (λ (k : ℕ). Reads area k r) (sym in_it.at_is) (reads-tail area (gate_of log + 5) (flat_map note_bytes part) r (subst (λ (l : List ℕ). Reads area (gate_of log + 5) l) (sym cut) (batch_notes area (gate_of log) c rest b)))

        found : (more : List Note) → c ≡ part ++ more → r ≡ flat_map note_bytes more → All IsNote more → ⊥
        found [] is bytes_are sound = omega (arith, ap (length {A = ℕ}) bytes_are, r_long, in_it.some)
        found (m ∷ more) is bytes_are sound = none m (record {
          sound = All-head IsNote m more sound;
          within = omega (arith, ap (length {A = ℕ}) bytes_are, length-append (note_bytes m) (flat_map note_bytes more), r_long);
          is = reads_two area at (take (length (note_bytes m)) bytes) (note_bytes m) (omega (arith, length-take (length (note_bytes m)) bytes, long, short m (All-head IsNote m more sound)))
              (λ i lt. get_or-take (length (note_bytes m)) bytes i 0 (omega (arith, lt, length-take (length (note_bytes m)) bytes)) ∙ reads i (omega (arith, lt, length-take (length (note_bytes m)) bytes)))
              (reads-head area at (note_bytes m) (flat_map note_bytes more) (subst (λ (l : List ℕ). Reads area at l) bytes_are r_reads));
        })

-- the number after a gate
pub head_number : (area head : List ℕ) (at n : ℕ) → length head ≡ 5 → Reads area at head → four n ≡ take 4 (drop 1 head) → Reads area (at + 1) (four n)
head_number area head at n long reads is = subst (λ (l : List ℕ). Reads area (at + 1) l) (sym is)
    (λ i lt.
    let less : i < 4 = omega (arith, lt, length-take 4 (drop 1 head)) in
    get_or-take 4 (drop 1 head) i 0 less ∙ get_or-drop 1 head i 0 ∙ reads (1 + i) (omega (arith, less, long)) ∙ ap (λ (k : ℕ). get_or area k 0) (omega arith))

pub gate_byte : (area head : List ℕ) (at x : ℕ) → length head ≡ 5 → Reads area at head → get_or head 0 0 ≡ x → get_or area at 0 ≡ x
gate_byte area head at x long reads is = ap (λ (k : ℕ). get_or area k 0) (omega arith) ∙ sym (reads 0 (omega (arith, long))) ∙ is
