use Rattle.std.proofs.Common.{◌∙◌, List, false, sym, ap, subst, refl, arith}
use Rattle.storage.specs.Slots.{Transaction, joined}
use Rattle.storage.specs.declared.slots.Undo.{Undo}
use Rattle.new_database.specs.slots.Sparse.{slot_in, committed_in, AllHeld}
use Rattle.new_database.proofs.SlotsLemmas.Changes.{as_one, here, held_idle, held_here, stands_same, becomes_one}
use Rattle.new_database.proofs.slots.mem_slots.MemSlotsSlots.commit.Goals as goal

pub keep-requires : goal.keep-requires
keep-requires c = record {
  held = subst (λ (l : List Undo). AllHeld c.args.self.now.slots l) (sym c.deref.ensures.value) (held_here c.args.self.now c.requires.client c.index_mut-client.ensures.value);
}

pub invariant_of-self : goal.invariant_of-self
invariant_of-self c =
    stands_same c.args.self.now c.requires.client c.index_mut-client.ensures.value c.keep.new.slots c.end.new.self c.keep.ensures.same
    (λ _. held_idle c.keep.new.slots c.end.new.self c.end.ensures.idle) (omega (arith, c.end.ensures.promised)) c.keep.ensures.spare

pub returns-clause-ok : goal.returns-clause-ok
returns-clause-ok c =
    let s = c.args.self.now in
    let client = c.index_mut-client.ensures.value in
    record {
      observable = refl;
      reads = λ _. as_one c.keep.ensures.reads;
      committed = λ _. as_one c.keep.ensures.committed
          ∙ ap (λ (u : List Undo). joined u (slot_in s.slots) (committed_in s.slots)) (c.deref.ensures.value ∙ sym (ap (λ (t : Transaction). t.undo) (here s c.requires.client client)));
      doubt = λ _. refl;
      transaction = becomes_one s c.requires.client client c.end.new.self _ false 0 c.end.ensures.idle refl (omega arith);
      before = refl;
    }
