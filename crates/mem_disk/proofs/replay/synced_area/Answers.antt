use Rattle.std.proofs.Common.{◌≡◌, ℕ, Vec, take, get_or, sym, ◌∙◌, ap}
use Rattle.std.specs.declared.alloc.Global.{Global}
use Rattle.mem_disk.specs.Notes.{Note, Held, note_of, notes_of, done, after_notes, fresh}
use Rattle.mem_disk.specs.Sound.{no_call}
use Rattle.mem_disk.proofs.Record.{after_more, note_on, note_off}
use Rattle.mem_disk.proofs.replay.synced_area.Goals as goal
use Rattle.mem_disk.proofs.replay.synced_area.Goals.{then-call-area+in_ok-replay, else-call-area}

pub loop-call-preserved : goal.loop-call-preserved
loop-call-preserved c =
    let k = c.args.area in
    let pool = c.args.pool.now in
    let calls = c.args.calls.now in
    let i = c.loop-call.call-index in
    let n : Note = note_of pool (get_or calls i no_call) in
    let a : Held = after_notes k (fresh c.args.first.now) (notes_of pool (take i calls)) in
    let more = after_more k (fresh c.args.first.now) pool calls i c.loop-call-test.true in
    let inv = c.loop-call.invariant in
    let same : record { synced = c.loop-call.synced.items; pending = a.pending; seen = c.loop-call.seen.items } ≡ a = λ j. record { synced = inv.synced j; pending = a.pending; seen = inv.seen j } in
    elim c.if-call-area.branch [
      | then-call-area+in_ok-replay w ↦
          let next = more ∙ note_on k a n w.if-call-area.true in
          record {
            seen = ap (λ (v : Vec ℕ Global). v.items) w.seen-is ∙ w.in_ok-replay.ensures.seen a.pending ∙ ap (λ (h : Held). (done n h).seen) same ∙ sym (ap (λ (h : Held). h.seen) next);
            synced = ap (λ (v : Vec ℕ Global). v.items) w.synced-is ∙ w.in_ok-replay.ensures.synced a.pending ∙ ap (λ (h : Held). (done n h).synced) same ∙ sym (ap (λ (h : Held). h.synced) next);
          }
      | else-call-area w ↦
          let next = more ∙ note_off k a n w.if-call-area.false in
          record {
            seen = ap (λ (v : Vec ℕ Global). v.items) w.seen-is ∙ inv.seen ∙ sym (ap (λ (h : Held). h.seen) next);
            synced = ap (λ (v : Vec ℕ Global). v.items) w.synced-is ∙ inv.synced ∙ sym (ap (λ (h : Held). h.synced) next);
          }
    ]
