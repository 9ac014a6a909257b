use Rattle.std.proofs.Common.{◌≡◌, ℕ, List, min, length, take, inl, inr, sym, ◌∙◌, ap, arith}
use Rattle.std.proofs.lemmas.List.{take_all}
use Rattle.std.proofs.lemmas.Bool.{cases_lt}
use Rattle.mem_disk.specs.declared.call.Call.{Call}
use Rattle.mem_disk.specs.declared.images.Images.{Images}
use Rattle.mem_disk.specs.Notes.{Note, notes_of, Left}
use Rattle.mem_disk.specs.Crash.{area_of, crashed}
use Rattle.mem_disk.proofs.Crashes.{ok_maps, take_notes, crash_left}
use Rattle.mem_disk.proofs.mem_disk.MemDisk.crash.Goals as goal

-- the calls up to the moment, or all of them
take_min : (m : ℕ) (calls : List Call) → take (min m (length calls)) calls ≡ take m calls
take_min m calls = elim (cases_lt m (length calls)) [
  | inl lt ↦ (let is : min m (length calls) ≡ m = omega arith in ap (λ (n : ℕ). take n calls) is)
  | inr le ↦ (let is : min m (length calls) ≡ length calls = omega arith in ap (λ (n : ℕ). take n calls) is ∙ take_all (length calls) calls (omega arith) ∙ sym (take_all m calls le))
]

pub returns-clause-exact : goal.returns-clause-exact
returns-clause-exact c =
    let d = c.args.self.now in
    let m = c.args.moment in
    let calls = d.calls.items in
    let size : c.min-count.result ≡ min m (length calls) = c.min-count.ensures ∙ ap (λ (n : ℕ). min m n) (omega (arith, c.len.ensures)) in
    let first : take c.min-count.result c.deref.result.now ≡ take m calls = (λ j. take (size j) (c.deref.ensures.value j)) ∙ take_min m calls in
    let notes : notes_of c.deref-2.result.now (take c.min-count.result c.deref.result.now) ≡ take m (notes_of d.pool.items calls) = (λ j. notes_of (c.deref-2.ensures.value j) (first j)) ∙ take_notes d.pool.items m calls in
    let P : Images → Type 0 = λ (images : Images). (k : ℕ) → area_of images k ≡ crashed (area_of d.first) (notes_of c.deref-2.result.now (take c.min-count.result c.deref.result.now)) c.args.torn.now k in
    let Q : Images → Type 0 = λ (images : Images). (k : ℕ) → area_of images k ≡ crashed (area_of d.first) (take m (notes_of d.pool.items calls)) c.args.torn.now k in
    ok_maps c.crashed_images.result P Q (λ (images : Images) (is : P images) (k : ℕ). is k ∙ ap (λ (l : List Note). crashed (area_of d.first) l c.args.torn.now k) notes) c.crashed_images.ensures

pub returns-clause-left : goal.returns-clause-left
returns-clause-left c =
    let d = c.args.self.now in
    let Q : Images → Type 0 = λ (images : Images). (k : ℕ) → area_of images k ≡ crashed (area_of d.first) (take c.args.moment (notes_of d.pool.items d.calls.items)) c.args.torn.now k in
    let R : Images → Type 0 = λ (images : Images). Left (area_of d.first) (notes_of d.pool.items d.calls.items) d.time c.args.moment (area_of images) in
    ok_maps c.crashed_images.result Q R (λ (images : Images) (is : Q images). crash_left d.pool.items (length d.pool.items) d.time c.args.moment (area_of d.first) (area_of images) d.calls.items c.args.torn.now c.requires is) (returns-clause-exact c)
