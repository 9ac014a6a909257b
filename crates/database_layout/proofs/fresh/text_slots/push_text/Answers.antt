use Rattle.std.proofs.Common.{◌+◌, List, refl, sym, subst, arith}
use Rattle.storage.specs.declared.slots.Undo.{Undo}
use Rattle.database_layout.specs.fresh.Laying.{LayText}
use Rattle.database_layout.proofs.FreshLemmas.Laying.{no_text, text_more}
use Rattle.database_layout.proofs.fresh.text_slots.push_text.Goals as goal

pub parts-init : goal.parts-init
parts-init c = record {
  within = omega arith;
  count = c.slot_count-count.ensures.is;
  same_text = refl;
  laid = subst (λ (us : List Undo). LayText c.args.text.now c.slot_count-count.result 0 us) (sym c.requires.empty) (no_text c.args.text.now c.slot_count-count.result);
}

pub parts-preserved : goal.parts-preserved
parts-preserved c = record {
  within = (let lt = c.parts-test.true in omega (arith, lt));
  count = c.parts.invariant.count;
  same_text = refl;
  laid = subst (λ (us : List Undo). LayText c.args.text.now c.slot_count-count.result (c.parts.i + 1) us) (sym c.in_ok-push.ensures.items)
      (text_more c.args.text.now c.slot_count-count.result c.parts.i c.parts.slots.items c.text_slot.result c.text_slot.ensures c.parts.invariant.laid);
}
