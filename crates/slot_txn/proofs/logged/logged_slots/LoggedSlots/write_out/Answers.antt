use Rattle.std.specs.Prelude.{OnOk}
use Rattle.std.proofs.Common.{◌≡◌, ◌≤◌, Result, Ok, Err, false, is_ok, length, rules, refl, ◌∙◌, ap, subst}
use Rattle.bi_log.specs.Buffer.{content}
use Rattle.bi_log.specs.declared.log.Log.{Log}
use Rattle.slot_txn.specs.declared.logged.generation.Generation.{Generation}
use Rattle.slot_txn.proofs.LoggedLemmas.Calming.{calm_as}
use Rattle.slot_txn.proofs.LoggedLemmas.Composing.{calm_after}
use Rattle.slot_txn.proofs.logged.logged_slots.LoggedSlots.write_out.Goals as goal

pub write_changes-requires-clause-usable : goal.write_changes-requires-clause-usable
write_changes-requires-clause-usable g c = (c.in_ok-settle.ensures.calm.stays refl).0

pub write_changes-requires-clause-settled : goal.write_changes-requires-clause-settled
write_changes-requires-clause-settled g c = c.in_ok-settle.ensures.settled.0

pub extend-requires-clause-usable : goal.extend-requires-clause-usable
extend-requires-clause-usable g c = (c.in_ok-write_changes.ensures.calm.stays refl).0

pub extend-requires-clause-empty : goal.extend-requires-clause-empty
extend-requires-clause-empty g c = ap (λ (l : Log). length (content l.buffer)) (c.write_changes.ensures.same.0) ∙ c.in_ok-settle.ensures.settled.2

pub extend-requires-clause-written : goal.extend-requires-clause-written
extend-requires-clause-written g c = c.in_ok-write_changes.ensures.written

pub returns-in_err-write_changes-clause-calm : goal.returns-in_err-write_changes-clause-calm
returns-in_err-write_changes-clause-calm g c =
    let failed : is_ok c.from_residual-in_err-write_changes.result ≡ false = search rules in
    calm_as _ _ _ _ _ _ _ _ _ _ _ _ false _ failed (calm_after _ _ _ _ _ _ _ _ _ _ _ _ _ _ _ _ _ _ c.args.self.now.transactions c.settle.new.self.transactions c.in_ok-settle.ensures.calm (c.settle.ensures.book.0) c.in_err-write_changes.ensures.calm)

pub returns-clause-calm : goal.returns-clause-calm
returns-clause-calm g c = calm_after _ _ _ _ _ _ _ _ _ _ _ _ _ _ _ _ _ _ c.args.self.now.transactions c.write_changes.new.self.transactions
    (calm_after _ _ _ _ _ _ _ _ _ _ _ _ _ _ _ _ _ _ c.args.self.now.transactions c.settle.new.self.transactions c.in_ok-settle.ensures.calm (c.settle.ensures.book.0) c.in_ok-write_changes.ensures.calm)
    (c.write_changes.ensures.book.0 ∙ c.settle.ensures.book.0) c.extend.ensures.calm

on_ok_any : {T E : Type 0} (r : Result T E) (P : Type 0) → P → OnOk r P
on_ok_any (Ok x) P p = p
on_ok_any (Err e) P p = tt

pub returns-clause-empty : goal.returns-clause-empty
returns-clause-empty g c = on_ok_any c.extend.result _ (ap (λ (l : Log). length (content l.buffer)) (c.extend.ensures.same.0 ∙ c.write_changes.ensures.same.0) ∙ c.in_ok-settle.ensures.settled.2)

pub returns-clause-written : goal.returns-clause-written
returns-clause-written g c = on_ok_any c.extend.result _ c.extend.ensures.written

pub returns-clause-reaches : goal.returns-clause-reaches
returns-clause-reaches g c = subst (λ (x : Generation). OnOk c.extend.result (x.filled ≤ c.extend.new.self.slots.end)) (c.write_changes.ensures.same.1 ∙ c.settle.ensures.same.1) c.extend.ensures.reaches
