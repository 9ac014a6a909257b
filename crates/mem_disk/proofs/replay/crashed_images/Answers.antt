use Rattle.std.proofs.Common.{◌≡◌, ℕ, zero, suc, List, [], length, sym, ◌∙◌, ap, arith}
use Rattle.mem_disk.specs.declared.images.Images.{Images}
use Rattle.mem_disk.specs.Notes.{Held, notes_of, after_notes, fresh}
use Rattle.mem_disk.specs.Crash.{area_of, torn_all, crashed}
use Rattle.mem_disk.proofs.Crashes.{far_torn, far_held, each_area}
use Rattle.mem_disk.proofs.replay.crashed_images.Goals as goal

pub returns : goal.returns
returns c =
    let images : Images = record { d0 = c.in_ok-d0.d0; b1 = c.in_ok-b1.b1; b2 = c.in_ok-b2.b2 } in
    let pool = c.args.pool.now in
    let calls = c.args.calls.now in
    let notes = notes_of pool calls in
    let torn = c.args.torn.now in
    let from = λ (k : ℕ) (l : List ℕ). torn_all k (after_notes k (fresh l) notes).synced notes torn in
    each_area (λ (k : ℕ). area_of images k ≡ crashed (area_of c.args.first.now) notes torn k)
    (c.in_ok-d0.ensures ∙ ap (λ (l : List ℕ). from zero l) c.as_slice.ensures)
    (c.in_ok-b1.ensures ∙ ap (λ (l : List ℕ). from (suc zero) l) c.as_slice-2.ensures)
    (c.in_ok-b2.ensures ∙ ap (λ (l : List ℕ). from (suc (suc zero)) l) c.as_slice-3.ensures)
    (λ j. sym (far_torn pool (length pool) (suc (suc (suc j))) calls _ torn c.requires (omega arith) ∙ ap (λ (h : Held). h.synced) (far_held pool (length pool) (suc (suc (suc j))) calls (fresh []) c.requires (omega arith))))
