use Rattle.std.proofs.Common.{◌≡◌, ℕ, ◌+◌, ◌<◌, [], ◌∷◌, ◌++◌, true, length, drop, get_or, sym, ◌∙◌, ap, subst, arith, length-append}
use Rattle.std.proofs.lemmas.Grind.{common_steps}
use Rattle.storage.specs.Slots.{undone, put}
use Rattle.storage.specs.declared.slots.Undo.{Undo}
use Rattle.new_database.specs.slots.Sparse.{slot_in, holds, no_undo}
use Rattle.new_database.proofs.SlotsLemmas.Places.{put_at, pop_front, pop_last, undone_pop}
use Rattle.new_database.proofs.slots.slot.take_back.Goals as goal

pub put_bytes-written_over-requires : goal.put_bytes-written_over-requires
put_bytes-written_over-requires c =
    let U = c.args.undo.now.items in
    let S = c.loop-undo.undo.items in
    let T = c.pop.new.self.items in
    let u : Undo = c.in-Some.last in
    let inv = c.loop-undo.invariant in
    let split : S ≡ T ++ u ∷ [] = c.in-Some.ensures.items in
    let long : length S ≡ length T + 1 = ap length split ∙ length-append T (u ∷ []) in
    let last : get_or U (length T) no_undo ≡ u = pop_last U S T u no_undo inv.undo_is inv.size split in
    let less : length T < length U = omega (arith, long, inv.size) in
    inv.same u.slot ∙ subst (λ (x : Undo). holds c.args.slots.now x.slot ≡ true) last (c.requires.held (length T) less)

pub loop-undo-preserved-in-Some : goal.loop-undo-preserved-in-Some
loop-undo-preserved-in-Some c =
    let U = c.args.undo.now.items in
    let S = c.loop-undo.undo.items in
    let T = c.pop.new.self.items in
    let u : Undo = c.in-Some.last in
    let inv = c.loop-undo.invariant in
    let ss = c.loop-undo.slots in
    let split : S ≡ T ++ u ∷ [] = c.in-Some.ensures.items in
    let long : length S ≡ length T + 1 = ap length split ∙ length-append T (u ∷ []) in
    let last : get_or U (length T) no_undo ≡ u = pop_last U S T u no_undo inv.undo_is inv.size split in
    let less : length T < length U = omega (arith, long, inv.size) in
    let r = slot_in c.args.slots.now in
    record {
      undo_is = pop_front U S T u inv.undo_is inv.size split;
      stands = grind (arith, common_steps, long, c.loop-undo-test.true, c.len.ensures);
      size = omega (arith, less);
      reads = λ k.
          c.put_bytes-written_over.ensures.reads k
          ∙ put_at (slot_in ss) (undone (drop (length S) U) r) u.slot u.old k (inv.reads k)
          ∙ ap (λ (n : ℕ). put (undone (drop n U) r) u.slot u.old k) long
          ∙ sym (undone_pop U (length T) u no_undo r k less last);
      committed = λ k. c.put_bytes-written_over.ensures.committed k ∙ inv.committed k;
      same = λ k. c.put_bytes-written_over.ensures.held k ∙ inv.same k;
      spare = c.put_bytes-written_over.ensures.spare ∙ inv.spare;
      capacity = c.in-Some.ensures.capacity ∙ inv.capacity;
    }
