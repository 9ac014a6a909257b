use Rattle.std.proofs.Common.{◌≡◌, ◌≢◌, ℕ, ◌+◌, ◌≤◌, List, [], ◌∷◌, ◌++◌, length, sym, ◌∙◌, ap, subst, arith, length-append}
use Rattle.std.proofs.lemmas.List.{append-nil}
use Rattle.std.proofs.lemmas.List.Concat.{flat_map-append}
use Rattle.std.proofs.lemmas.List.Elements.{All-nil}
use Rattle.log_meaning.proofs.StepsLemmas.Runs.{started}
use Rattle.log_meaning.specs.declared.note.Note.{Note}
use Rattle.std.specs.List.{flat_map}
use Rattle.log_meaning.specs.Bytes.{four, note_bytes, IsNote}
use Rattle.log_meaning.specs.LogState.{notes_in}
use Rattle.log_meaning.proofs.OneLog.{length-four}
use Rattle.log_meaning.proofs.Areas.{length-after_gate}
use Rattle.bi_log.specs.Appending.{with_batch}
use Rattle.bi_log.specs.Buffer.{content}
use Rattle.bi_log.specs.Generations.{AfterGate, IsPrepared}
use Rattle.bi_log.proofs.Sealed.{some_bytes, is_after_gate, no_length}
use Rattle.bi_log.proofs.Lengths.{run_more, run_none}
use Rattle.bi_log.proofs.carrying.carry_buffer.Goals as goal

pub carry-requires-clause-end : goal.carry-requires-clause-end
carry-requires-clause-end g c =
    let few = c.len-n.ensures.few in
    let long = c.len-n.ensures.length in
    let small = c.requires.end in
    omega (arith, ap (length {A = ℕ}) c.sealed.ensures, length-append (four (length (content c.args.buffer.now)) ++ content c.args.buffer.now) (0 ∷ []), length-append (four (length (content c.args.buffer.now))) (content c.args.buffer.now), length-four (length (content c.args.buffer.now)), few, long, small)

pub returns-then-n-eq0-clause-time : goal.returns-then-n-eq0-clause-time
returns-then-n-eq0-clause-time g c = started _ _ (AfterGate c.args.area) (λ m image left. (g.met.D.Disk.image_known c.args.disk.now m image left).past)

pub returns-then-n-eq0-clause-empty : goal.returns-then-n-eq0-clause-empty
returns-then-n-eq0-clause-empty g c = no_length (content c.args.buffer.now) (sym c.len-n.ensures.length ∙ c.if-n-eq0.true)

all_notes : (bs : List (List Note)) (b notes : List Note) → notes ≡ notes_in bs ++ b → notes ≡ notes_in (bs ++ b ∷ []) ++ []
all_notes bs b notes are = are ∙ sym (append-nil (notes_in (bs ++ b ∷ [])) ∙ flat_map-append (λ (x : List Note). x) bs (b ∷ []) ∙ ap (λ (l : List Note). notes_in bs ++ l) (append-nil b))

pub returns-clause-ok : goal.returns-clause-ok
returns-clause-ok g c = λ generation notes k.
    let is = is_after_gate _ (content c.args.buffer.now) k.buffered c.sealed.ensures k.has.bytes in
    let long = c.len-n.ensures.length in
    let same = ap (length {A = ℕ}) k.has.bytes in
    let some : k.buffered ≢ [] = (λ none. c.if-n-eq0.false (long ∙ same ∙ ap (λ (l : List Note). length (flat_map note_bytes l)) none)) in
    record {
      held = with_batch k.held k.buffered;
      buffered = [];
      is_generation = k.is_generation;
      has = record { bytes = c.clear.ensures; sound = All-nil IsNote };
      prepared = λ image left. subst (λ (x : ℕ). IsPrepared (image c.args.area) (with_batch k.held k.buffered) x) (omega (arith, ap (length {A = ℕ}) is, length-after_gate k.buffered, long, same))
          (c.in_ok-carry.ensures.ok k.held k.buffered is (record { each = k.has.sound; some = some_bytes k.buffered some; few = (let few = c.len-n.ensures.few in omega (arith, few, long, same)) }) k.prepared image left);
      are = all_notes k.held.batches k.buffered notes k.are;
    }

pub returns-clause-place : goal.returns-clause-place
returns-clause-place g c =
    let long = c.len-n.ensures.length in
    let some = c.if-n-eq0.false in
    (omega arith, omega (arith, long, some))

-- the sealed bytes end six past the gate and the notes
sealed_end : (gate : ℕ) (bytes notes : List ℕ) → bytes ≡ four (length notes) ++ notes ++ 0 ∷ [] → gate + 1 + length bytes ≤ gate + 6 + length notes
sealed_end gate bytes notes sealed = omega (arith, ap (length {A = ℕ}) sealed, length-append (four (length notes) ++ notes) (0 ∷ []), length-append (four (length notes)) notes, length-four (length notes))

pub returns-then-n-eq0-clause-within : goal.returns-then-n-eq0-clause-within
returns-then-n-eq0-clause-within g c = run_none _ _ (c.args.gate + 6 + length (content c.args.buffer.now)) (λ m image left. (g.met.D.Disk.image_known c.args.disk.now m image left).past)

pub returns-in_err-carry-clause-within : goal.returns-in_err-carry-clause-within
returns-in_err-carry-clause-within g c = run_more _ _ _ _ (c.args.gate + 6 + length (content c.args.buffer.now)) _ (sealed_end c.args.gate _ (content c.args.buffer.now) c.sealed.ensures) c.carry.ensures.within

pub returns-clause-within : goal.returns-clause-within
returns-clause-within g c = run_more _ _ _ _ (c.args.gate + 6 + length (content c.args.buffer.now)) _ (sealed_end c.args.gate _ (content c.args.buffer.now) c.sealed.ensures) c.carry.ensures.within
