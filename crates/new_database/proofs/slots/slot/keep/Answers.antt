use Rattle.std.proofs.Common.{ℕ, List, take, get_or, sym, ◌∙◌, ap}
use Rattle.std.proofs.lemmas.List.{take_more}
use Rattle.storage.specs.Slots.{joined, put}
use Rattle.storage.specs.declared.slots.Undo.{Undo}
use Rattle.new_database.specs.slots.Sparse.{slot_in, committed_in, no_undo}
use Rattle.new_database.proofs.SlotsLemmas.Places.{joined_more, put_at}
use Rattle.new_database.proofs.slots.slot.keep.Goals as goal

pub keep_bytes-requires : goal.keep_bytes-requires
keep_bytes-requires c = c.loop-write.invariant.same _ ∙ c.requires.held c.loop-write.write-index c.loop-write-test.true

pub loop-write-preserved : goal.loop-write-preserved
loop-write-preserved c =
    let ss = c.loop-write.slots in
    let us = c.args.writes.now in
    let i = c.loop-write.write-index in
    let u : Undo = get_or us i no_undo in
    let r = slot_in c.args.slots.now in
    let committed = committed_in c.args.slots.now in
    let inv = c.loop-write.invariant in
    record {
      reads = λ k. c.keep_bytes.ensures.reads k ∙ inv.reads k;
      committed = λ k.
          c.keep_bytes.ensures.committed k
          ∙ put_at (committed_in ss) (joined (take i us) r committed) u.slot (slot_in ss u.slot) k (inv.committed k)
          ∙ ap (λ (v : List ℕ). put (joined (take i us) r committed) u.slot v k) (inv.reads u.slot)
          ∙ sym (ap (λ (l : List Undo). joined l r committed k) (take_more us i no_undo c.loop-write-test.true) ∙ joined_more (take i us) u r committed k);
      same = λ k. c.keep_bytes.ensures.held k ∙ inv.same k;
      spare = c.keep_bytes.ensures.spare ∙ inv.spare;
    }
