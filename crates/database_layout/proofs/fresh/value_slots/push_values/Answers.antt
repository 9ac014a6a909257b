use Rattle.std.proofs.Common.{◌≡◌, ◌+◌, ◌*◌, ◌≤◌, ℕ, ℤ, List, length, drop, refl, sym, ◌∙◌, ap, subst, arith}
use Rattle.std.proofs.lemmas.List.{length-take}
use Rattle.storage.specs.declared.slots.Undo.{Undo}
use Rattle.sequence_slots.specs.Values.{slot_bytes}
use Rattle.database_layout.specs.fresh.Laying.{Lay}
use Rattle.database_layout.proofs.FreshLemmas.Laying.{no_values, values_more}
use Rattle.database_layout.proofs.fresh.value_slots.push_values.Goals as goal

pub values-init : goal.values-init
values-init c = record {
  within = omega arith;
  same_values = refl;
  laid = λ text count few lay. no_values text count c.args.values.now c.args.slots.now.items few lay;
}

pub values-preserved : goal.values-preserved
values-preserved c = record {
  within = (let lt = c.values-test.true in omega (arith, lt));
  same_values = refl;
  laid = λ text count few lay. subst (λ (us : List Undo). Lay text count c.args.values.now (c.values.i + 1) us) (sym c.in_ok-push.ensures.items)
      (values_more text count c.args.values.now c.values.i c.values.slots.items c.slot_of.result few (c.slot_of.ensures ∙ ap slot_bytes c.part_of.ensures) (c.values.invariant.laid text count few lay));
}

pub slot_of-requires : goal.slot_of-requires
slot_of-requires c = omega (arith, ap (length {A = ℤ}) c.part_of.ensures, length-take 30 (drop (30 * c.values.i) c.args.values.now))

pub returns : goal.returns
returns c = record {
  ok = λ text count few lay.
      let done : 9 ≤ c.values.i = c.values-test.false in
      let is : c.values.i ≡ 9 = (let within = c.values.invariant.within in omega (arith, within, done)) in
      subst (λ (n : ℕ). Lay text count c.args.values.now n c.values.slots.items) is (c.values.invariant.laid text count few lay);
}
