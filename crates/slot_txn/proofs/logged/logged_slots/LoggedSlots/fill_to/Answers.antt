use Rattle.std.proofs.Common.{◌≡◌, false, is_ok, rules, refl, ◌∙◌, arith}
use Rattle.storage.specs.Slots.{undone}
use Rattle.open_transactions.specs.Clients.{lists}
use Rattle.slot_area.specs.Area.{view}
use Rattle.slot_txn.proofs.LoggedLemmas.Calming.{calm_as, calm_none, calm_twice}
use Rattle.slot_txn.proofs.LoggedLemmas.Composing.{committed_same, calm_after}
use Rattle.slot_txn.proofs.logged.logged_slots.LoggedSlots.fill_to.Goals as goal

pub slots-init : goal.slots-init
slots-init g c = record {
  calm = calm_none _ _ _ _ _ _ c.args.self.now.failed c.requires.usable (λ m image l. (g.met.D.Disk.image_known c.args.self.now.disk m image l).past);
  book = (refl, refl, refl, refl, refl);
}

pub slots-preserved : goal.slots-preserved
slots-preserved g c =
    let l = c.slots.self in
    let b = c.slots.invariant.book in
    let n = c.fill_one.ensures.book in
    let m = c.make_way.ensures.book in
    record {
      calm = calm_after _ _ _ _ _ _ _ _ _ _ _ _ _ _ _ _ _ _ c.args.self.now.transactions c.fill_one.new.self.transactions
          (calm_after _ _ _ _ _ _ _ _ _ _ _ _ _ _ _ _ _ _ c.args.self.now.transactions l.transactions c.slots.invariant.calm (b.0) c.in_ok-fill_one.ensures.calm) (n.0 ∙ b.0) c.in_ok-make_way.ensures.calm;
      book = (m.0 ∙ n.0 ∙ b.0, m.1 ∙ n.1 ∙ b.1, m.2 ∙ n.2 ∙ b.2, m.3 ∙ n.3 ∙ b.3, m.4 ∙ n.4 ∙ b.4);
    }

pub slots-smaller : goal.slots-smaller
slots-smaller g c = let up = c.in_ok-fill_one.ensures.filled in let kept = c.in_ok-make_way.ensures.filled in let more = c.slots-test.true in omega (arith, up, kept, more)

pub returns-in_err-make_way-clause-calm : goal.returns-in_err-make_way-clause-calm
returns-in_err-make_way-clause-calm g c =
    let l = c.slots.self in
    let failed : is_ok c.from_residual-in_err-make_way.result ≡ false = search rules in
    calm_as _ _ _ _ _ _ _ _ _ _ _ _ false _ failed (calm_after _ _ _ _ _ _ _ _ _ _ _ _ _ _ _ _ _ _ c.args.self.now.transactions c.fill_one.new.self.transactions
    (calm_after _ _ _ _ _ _ _ _ _ _ _ _ _ _ _ _ _ _ c.args.self.now.transactions l.transactions c.slots.invariant.calm (c.slots.invariant.book.0) c.in_ok-fill_one.ensures.calm) (c.fill_one.ensures.book.0 ∙ c.slots.invariant.book.0) c.in_err-make_way.ensures.calm)

pub returns-in_err-make_way-clause-book : goal.returns-in_err-make_way-clause-book
returns-in_err-make_way-clause-book g c = let b = c.slots.invariant.book in let n = c.fill_one.ensures.book in let m = c.make_way.ensures.book in (m.0 ∙ n.0 ∙ b.0, m.1 ∙ n.1 ∙ b.1, m.2 ∙ n.2 ∙ b.2, m.3 ∙ n.3 ∙ b.3, m.4 ∙ n.4 ∙ b.4)

pub returns-in_err-fill_one-clause-calm : goal.returns-in_err-fill_one-clause-calm
returns-in_err-fill_one-clause-calm g c =
    let l = c.slots.self in
    let one = c.slots.invariant.calm in
    let failed : is_ok c.from_residual.result ≡ false = search rules in
    calm_as _ _ _ _ _ _ _ _ _ _ _ _ false _ failed (calm_twice _ _ _ _ _ _ _ _ _ _ _ _ _ (undone (lists l.transactions.clients.items) (view l.slots (g.D.Disk.seen l.disk 0))) _ _ _ _ _ _ one c.in_err-fill_one.ensures.calm
    (λ known. committed_same c.args.self.now.transactions l.transactions _ _ (c.slots.invariant.book.0) (one.same_reads known)))

pub returns-in_err-fill_one-clause-book : goal.returns-in_err-fill_one-clause-book
returns-in_err-fill_one-clause-book g c = let b = c.slots.invariant.book in let n = c.fill_one.ensures.book in (n.0 ∙ b.0, n.1 ∙ b.1, n.2 ∙ b.2, n.3 ∙ b.3, n.4 ∙ b.4)
