use Rattle.std.proofs.Common.{◌∙◌}
use Rattle.slot_rows.proofs.Committing.{begun_all, commits_values, fails_early, fails_values, goes_on_to_commit}
use Rattle.slot_rows.proofs.noted.commit.Goals as goal

pub store_values-requires-clause-alone : goal.store_values-requires-clause-alone
store_values-requires-clause-alone g c = λ k outside other ne lt begun. c.requires.quiet.written c.requires.fine other k outside begun

pub store_values-requires-clause-none : goal.store_values-requires-clause-none
store_values-requires-clause-none g c = c.requires.quiet.low c.requires.fine c.args.client c.requires.begun

pub commit-requires-clause-begun : goal.commit-requires-clause-begun
commit-requires-clause-begun g c = c.store_values.ensures.touched.begun ∙ c.requires.begun

pub returns-in-Ok-commit-clause-ok : goal.returns-in-Ok-commit-clause-ok
returns-in-Ok-commit-clause-ok g c =
    let s = g.S.Slots.state c.args.chains.now.slots in
    let m = g.S.Slots.state c.store_values.new.chains.slots in
    let t = g.S.Slots.state c.commit.new.self.slots in
    let e = c.in-Ok.ensures in
    commits_values s m t c.args.client c.args.values.now e.touched.keeps e.touched.others e.ok (λ readable. e.held readable c.requires.none (c.requires.held readable)) c.in-Ok-commit.ensures.ok

pub returns-in-Ok-commit-clause-time : goal.returns-in-Ok-commit-clause-time
returns-in-Ok-commit-clause-time g c =
    let s = g.S.Slots.state c.args.chains.now.slots in
    let m = g.S.Slots.state c.store_values.new.chains.slots in
    let t = g.S.Slots.state c.commit.new.self.slots in
    let e = c.in-Ok.ensures in
    goes_on_to_commit s m t (g.S.Slots.stop c.args.chains.now.slots) (g.S.Slots.stop c.store_values.new.chains.slots) (g.S.Slots.stop c.commit.new.self.slots) e.touched.keeps c.requires.fine c.requires.quiet.certain c.in-Ok-commit.ensures.ok.observable
    (g.met.S.Slots.stop_known c.commit.new.self.slots) e.touched.time c.in-Ok-commit.ensures.time

pub returns-in-Err-commit-clause-err : goal.returns-in-Err-commit-clause-err
returns-in-Err-commit-clause-err g c =
    let s = g.S.Slots.state c.args.chains.now.slots in
    let m = g.S.Slots.state c.store_values.new.chains.slots in
    let t = g.S.Slots.state c.commit.new.self.slots in
    let e = c.in-Ok.ensures in
    fails_values s m t c.args.client c.args.values.now e.touched.keeps e.touched.others e.ok (λ readable. e.held readable c.requires.none (c.requires.held readable)) (begun_all s m c.args.client e.touched.others e.touched.begun) c.in-Err-commit.ensures.err

pub returns-in-Err-commit-clause-time : goal.returns-in-Err-commit-clause-time
returns-in-Err-commit-clause-time g c =
    let s = g.S.Slots.state c.args.chains.now.slots in
    let m = g.S.Slots.state c.store_values.new.chains.slots in
    let t = g.S.Slots.state c.commit.new.self.slots in
    let e = c.in-Ok.ensures in
    goes_on_to_commit s m t (g.S.Slots.stop c.args.chains.now.slots) (g.S.Slots.stop c.store_values.new.chains.slots) (g.S.Slots.stop c.commit.new.self.slots) e.touched.keeps c.requires.fine c.requires.quiet.certain c.in-Err-commit.ensures.err.observable
    (g.met.S.Slots.stop_known c.commit.new.self.slots) e.touched.time c.in-Err-commit.ensures.time

pub returns-in-Err-clause-err : goal.returns-in-Err-clause-err
returns-in-Err-clause-err g c =
    let s = g.S.Slots.state c.args.chains.now.slots in
    let m = g.S.Slots.state c.store_values.new.chains.slots in
    let e = c.in-Err.ensures in
    fails_early s m c.args.client c.args.values.now e.touched.keeps (begun_all s m c.args.client e.touched.others e.touched.begun)
