use Rattle.std.proofs.Common.{inl, true, false, refl, sym, ◌∙◌, subst, rules}
use Rattle.open_transactions.specs.declared.transactions.Transactions.{Transactions}
use Rattle.open_transactions.specs.Clients.{NothingDue}
use Rattle.slot_txn.proofs.LoggedLemmas.Composing.{calm_rests, calm_goes}
use Rattle.slot_txn.proofs.logged.logged_slots.LoggedSlots.go_on.Goals as goal

pub returns-in-Ok-clause-rest : goal.returns-in-Ok-clause-rest
returns-in-Ok-clause-rest g c =
    let s = c.args.self.now in
    let p = c.make_way.new.self in
    let b = c.make_way.ensures.book in
    calm_rests _ _ _ _ _ _ (g.D.Disk.left s.disk) (g.D.Disk.left p.disk) _ _ s.transactions p.transactions s.failed p.failed true s.doubtful p.doubtful s.since p.since s.short p.short c.in-Ok.ensures.calm (b.0) (b.1) (b.3) (b.4)

pub returns-in-Ok-clause-time : goal.returns-in-Ok-clause-time
returns-in-Ok-clause-time g c =
    let s = c.args.self.now in
    let p = c.make_way.new.self in
    let b = c.make_way.ensures.book in
    calm_goes _ _ _ _ _ _ (g.D.Disk.left s.disk) (g.D.Disk.left p.disk) _ _ s.transactions p.transactions s.failed p.failed true s.doubtful p.doubtful s.since p.since s.short p.short c.in-Ok.ensures.calm (b.0) (b.1) (b.3) (b.4) s.past

pub returns-in-Err-clause-rest : goal.returns-in-Err-clause-rest
returns-in-Err-clause-rest g c =
    let s = c.args.self.now in
    let p = c.make_way.new.self in
    let b = c.make_way.ensures.book in
    calm_rests _ _ _ _ _ _ (g.D.Disk.left s.disk) (g.D.Disk.left p.disk) _ _ s.transactions p.transactions s.failed p.failed false s.doubtful p.doubtful s.since p.since s.short p.short c.in-Err.ensures.calm (b.0) (b.1) (b.3) (b.4)

pub returns-in-Err-clause-time : goal.returns-in-Err-clause-time
returns-in-Err-clause-time g c =
    let s = c.args.self.now in
    let p = c.make_way.new.self in
    let b = c.make_way.ensures.book in
    calm_goes _ _ _ _ _ _ (g.D.Disk.left s.disk) (g.D.Disk.left p.disk) _ _ s.transactions p.transactions s.failed p.failed false s.doubtful p.doubtful s.since p.since s.short p.short c.in-Err.ensures.calm (b.0) (b.1) (b.3) (b.4) s.past

pub returns-in-Err-clause-cause : goal.returns-in-Err-clause-cause
returns-in-Err-clause-cause g c = let one = c.in-Err.ensures.calm in record { later = one.later; disk = λ e. inl (one.rose refl); failed = λ e. one.broke refl; stays = λ none. absurd (none (search rules)) }

pub returns-in-Ok-clause-cause : goal.returns-in-Ok-clause-cause
returns-in-Ok-clause-cause g c = let one = c.in-Ok.ensures.calm in record { later = one.later; disk = search rules; failed = search rules; stays = λ none. (one.stays refl).0 ∙ sym c.requires.usable }

pub returns-in-Ok-clause-ready : goal.returns-in-Ok-clause-ready
returns-in-Ok-clause-ready g c = ((c.in-Ok.ensures.calm.stays refl).0, subst (λ (t : Transactions). NothingDue t.clients.items) (sym (c.make_way.ensures.book.0)) c.requires.none_due)
