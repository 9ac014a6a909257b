use Rattle.std.proofs.Common.{ℕ, subst}
use Rattle.std.specs.Prelude.{Option, Some, None}
use Rattle.bi_log.specs.declared.header.Header.{Header}
use Rattle.bi_log.specs.Outcomes.{FindAnswer}
use Rattle.bi_recovery.proofs.Creating.{older_of}
use Rattle.bi_recovery.proofs.creation.older_area.Goals as goal

pub returns-in-None-clause-older : goal.returns-in-None-clause-older
returns-in-None-clause-older g c = λ known k h ok oh.
    let says : FindAnswer (g.D.Disk.seen c.args.disk.now) None = subst (λ (r : Option (ℕ × Header)). FindAnswer (g.D.Disk.seen c.args.disk.now) r) c.in-None.is (c.in_ok-find.ensures.ok known) in
    absurd (says.1 k ok)

pub returns-in-Some-clause-older : goal.returns-in-Some-clause-older
returns-in-Some-clause-older g c = λ known k h ok oh.
    let says : FindAnswer (g.D.Disk.seen c.args.disk.now) (Some (c.in-Some.area, c.in-Some.field-0-1)) = subst (λ (r : Option (ℕ × Header)). FindAnswer (g.D.Disk.seen c.args.disk.now) r) c.in-Some.is (c.in_ok-find.ensures.ok known) in
    older_of (g.D.Disk.seen c.args.disk.now) c.in-Some.area c.in-Some.field-0-1.generation (says.0) (says.1) k h ok oh
