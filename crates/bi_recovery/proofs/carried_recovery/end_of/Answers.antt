use Rattle.std.proofs.Common.{◌≡◌, ⊎_elim, List, [], true, take, get_or, ◌∙◌, ap, arith}
use Rattle.std.proofs.lemmas.List.{take_all}
use Rattle.storage.specs.declared.slots.Undo.{Undo}
use Rattle.storage.specs.Slots.{wrote}
use Rattle.bi_recovery.proofs.Filled.{wrote_either}
use Rattle.bi_recovery.proofs.Writing.{wrote_at}
use Rattle.bi_recovery.proofs.carried_recovery.end_of.Goals as goal

abbrev no_slot : Undo
no_slot = record { slot = 0; old = [] }

pub end_past-last-requires-clause-small : goal.end_past-last-requires-clause-small
end_past-last-requires-clause-small c = c.requires.small _ (wrote_at c.args.slots.now c.loop-u.u-index no_slot (omega arith))

pub loop-u-preserved : goal.loop-u-preserved
loop-u-preserved c = record {
  above = λ s is. ⊎_elim
      (λ (before : wrote (take c.loop-u.u-index c.args.slots.now) s ≡ true). let lt = c.loop-u.invariant.above s before in let up = c.end_past-last.ensures.above.0 in omega (arith, lt, up))
      (λ (here : s ≡ (get_or c.args.slots.now c.loop-u.u-index no_slot).slot). let lt = c.end_past-last.ensures.above.1 in omega (arith, here, lt))
      (wrote_either c.args.slots.now c.loop-u.u-index no_slot s (omega arith) is);
  few = c.end_past-last.ensures.few;
}

pub returns : goal.returns
returns c = record {
  above = λ s is. c.loop-u.invariant.above s (ap (λ (l : List Undo). wrote l s) (take_all c.loop-u.u-index c.args.slots.now (omega arith)) ∙ is);
  few = c.loop-u.invariant.few;
}
