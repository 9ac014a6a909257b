use Rattle.std.proofs.Common.{◌≡◌, false, is_ok, rules, ◌∙◌, ap, arith}
use Rattle.bi_log.proofs.Preparing.{ok_then}
use Rattle.slot_area.specs.declared.slot_area.SlotArea.{SlotArea}
use Rattle.slot_txn.specs.declared.logged.generation.Generation.{Generation}
use Rattle.slot_txn.proofs.LoggedLemmas.Calming.{calm_as}
use Rattle.slot_txn.proofs.LoggedLemmas.Composing.{calm_after}
use Rattle.slot_txn.proofs.logged.logged_slots.LoggedSlots.checkpoint.Goals as goal

pub returns-in_err-sync_both-clause-calm : goal.returns-in_err-sync_both-clause-calm
returns-in_err-sync_both-clause-calm g c =
    let failed : is_ok c.from_residual-in_err-sync_both.result ≡ false = search rules in
    calm_as _ _ _ _ _ _ _ _ _ _ _ _ false _ failed (calm_after _ _ _ _ _ _ _ _ _ _ _ _ _ _ _ _ _ _ c.args.self.now.transactions c.write_out.new.self.transactions c.in_ok-write_out.ensures.calm (c.write_out.ensures.book.0) c.in_err-sync_both.ensures.calm)

pub returns-clause-calm : goal.returns-clause-calm
returns-clause-calm g c = calm_after _ _ _ _ _ _ _ _ _ _ _ _ _ _ _ _ _ _ c.args.self.now.transactions c.write_out.new.self.transactions c.in_ok-write_out.ensures.calm (c.write_out.ensures.book.0) c.in_ok-sync_both.ensures.calm

pub returns-then-can_turn-clause-calm : goal.returns-then-can_turn-clause-calm
returns-then-can_turn-clause-calm g c = calm_after _ _ _ _ _ _ _ _ _ _ _ _ _ _ _ _ _ _ c.args.self.now.transactions c.sync_both.new.self.transactions
    (calm_after _ _ _ _ _ _ _ _ _ _ _ _ _ _ _ _ _ _ c.args.self.now.transactions c.write_out.new.self.transactions c.in_ok-write_out.ensures.calm (c.write_out.ensures.book.0) c.in_ok-sync_both.ensures.calm)
    (c.sync_both.ensures.book.0 ∙ c.write_out.ensures.book.0) c.open_next.ensures.calm

pub returns-clause-filled : goal.returns-clause-filled
returns-clause-filled g c = let same = ap (λ (x : Generation). x.filled) (c.sync_both.ensures.same.2 ∙ c.write_out.ensures.same) in omega (arith, same)

pub returns-then-can_turn-clause-filled : goal.returns-then-can_turn-clause-filled
returns-then-can_turn-clause-filled g c = ok_then c.open_next.result _ _ c.open_next.ensures.filled (λ is.
    let up = c.in_ok-write_out.ensures.reaches in
    let same = ap (λ (x : SlotArea). x.end) (c.sync_both.ensures.same.1) in
    omega (arith, is, up, same))
