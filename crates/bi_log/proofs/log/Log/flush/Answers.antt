use Rattle.std.proofs.Common.{ℕ, ◌+◌, List, ◌≡◌, ◌≢◌, ◌≤◌, ◌∷◌, [], ◌++◌, length, ap, subst, arith, length-append}
use Rattle.std.proofs.lemmas.List.Elements.{All-nil}
use Rattle.log_meaning.specs.declared.note.Note.{Note}
use Rattle.log_meaning.specs.Bytes.{four, IsNote}
use Rattle.log_meaning.proofs.Areas.{length-after_gate}
use Rattle.bi_log.specs.Appending.{Held, RestsAt, with_batch, IsToBe}
use Rattle.log_meaning.specs.steps.Steps.{Image}
use Rattle.bi_log.specs.declared.log.Log.{Log}
use Rattle.log_meaning.proofs.OneLog.{length-four}
use Rattle.bi_log.specs.Buffer.{content}
use Rattle.bi_log.specs.Logs.{Keeps}
use Rattle.bi_log.proofs.Sealed.{some_bytes, is_after_gate}
use Rattle.bi_log.proofs.Lengths.{run_more}
use Rattle.bi_log.proofs.log.Log.flush.Goals as goal

to_be : (log : Log) (left : Image → Type 0) (held : Held) (notes : List Note) (bytes : List ℕ) (n : ℕ) → Keeps log left held notes → notes ≢ [] → bytes ≡ four (length (content log.buffer)) ++ content log.buffer ++ 0 ∷ [] → n ≡ length (content log.buffer) → n ≤ 1048576 → IsToBe left log.area log.gate bytes held notes
to_be log left held notes bytes n k some sealed long few = record {
  bytes_are = is_after_gate bytes (content log.buffer) notes sealed k.notes.bytes;
  sound = record { each = k.notes.sound; some = some_bytes notes some; few = omega (arith, few, long, ap (length {A = ℕ}) k.notes.bytes) };
  rests = k.each;
}

pub settle-requires-clause-end : goal.settle-requires-clause-end
settle-requires-clause-end g c =
    let few = c.len-n.ensures.few in
    let long = c.len-n.ensures.length in
    let small = c.requires.small in
    omega (arith, ap (length {A = ℕ}) c.sealed.ensures, length-append (four (length (content c.args.self.now.buffer)) ++ content c.args.self.now.buffer) (0 ∷ []), length-append (four (length (content c.args.self.now.buffer))) (content c.args.self.now.buffer), length-four (length (content c.args.self.now.buffer)), few, long, small)

pub returns-in_err-settle-clause-time : goal.returns-in_err-settle-clause-time
returns-in_err-settle-clause-time g c = λ held notes k some. c.settle.ensures.time held notes (to_be c.args.self.now _ held notes _ c.len-n.result k some c.sealed.ensures c.len-n.ensures.length c.len-n.ensures.few)

pub returns-clause-time : goal.returns-clause-time
returns-clause-time g c = λ held notes k some. c.settle.ensures.time held notes (to_be c.args.self.now _ held notes _ c.len-n.result k some c.sealed.ensures c.len-n.ensures.length c.len-n.ensures.few)

pub returns-clause-ok : goal.returns-clause-ok
returns-clause-ok g c = λ held notes k some.
    let is = is_after_gate _ (content c.args.self.now.buffer) notes c.sealed.ensures k.notes.bytes in
    let same = ap (length {A = ℕ}) k.notes.bytes in
    let long = c.len-n.ensures.length in
    record {
      each = λ image left. subst (λ (x : ℕ). RestsAt (image c.args.self.now.area) (with_batch held notes) x) (omega (arith, ap (length {A = ℕ}) is, length-after_gate notes, long, same))
          (c.in_ok-settle.ensures.ok held notes (to_be c.args.self.now _ held notes _ c.len-n.result k some c.sealed.ensures c.len-n.ensures.length c.len-n.ensures.few) image left);
      notes = record { bytes = c.clear.ensures; sound = All-nil IsNote };
    }

-- the sealed bytes end six past the gate and the notes
sealed_end : (gate : ℕ) (bytes notes : List ℕ) → bytes ≡ four (length notes) ++ notes ++ 0 ∷ [] → gate + 1 + length bytes ≤ gate + 6 + length notes
sealed_end gate bytes notes sealed = omega (arith, ap (length {A = ℕ}) sealed, length-append (four (length notes) ++ notes) (0 ∷ []), length-append (four (length notes)) notes, length-four (length notes))

pub returns-in_err-settle-clause-within : goal.returns-in_err-settle-clause-within
returns-in_err-settle-clause-within g c = run_more _ _ _ _ (c.args.self.now.gate + 6 + length (content c.args.self.now.buffer)) _ (sealed_end c.args.self.now.gate _ (content c.args.self.now.buffer) c.sealed.ensures) c.settle.ensures.within

pub returns-clause-within : goal.returns-clause-within
returns-clause-within g c = run_more _ _ _ _ (c.args.self.now.gate + 6 + length (content c.args.self.now.buffer)) _ (sealed_end c.args.self.now.gate _ (content c.args.self.now.buffer) c.sealed.ensures) c.settle.ensures.within
