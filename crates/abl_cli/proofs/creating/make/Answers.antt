-- The database is made, or not: what the creation has done to the disk is what it says.
use Rattle.std.proofs.Common.{Err, ap, refl}
use Rattle.disk_database.specs.declared.refusals.CreateRefusal.{CreateRefusal}
use Rattle.run_works.specs.Disks.{state_of}
use Rattle.abl_cli.specs.Stored.{Made, NotMade}
use Rattle.abl_cli.proofs.Creations.{not_made, short_made}
use Rattle.abl_cli.proofs.creating.make.Goals as goal

pub returns-in-Ok-clause-did : goal.returns-in-Ok-clause-did
returns-in-Ok-clause-did g c =
    Made (record { observable = c.create.ensures.same_observable; steps = c.create.ensures.time })
    (record { fresh = c.in-Ok.ensures.new; short = c.in-Ok.ensures.short; born = c.in-Ok.ensures.ok })
    (record { refusal = refl; status = refl; trace = search; ends = search; out = refl })

pub returns-in-Err-clause-did : goal.returns-in-Err-clause-did
returns-in-Err-clause-did g c =
    NotMade (record { observable = c.create.ensures.same_observable; steps = c.create.ensures.time })
    (not_made (state_of g.D.Disk c.args.disk) (state_of g.D.Disk c.create.new.disk) c.in-Err.why _ c.creation_refusal.ensures
    (λ e. c.in-Err.ensures.already (ap (λ (x : CreateRefusal). Err x) e)) (λ e. c.in-Err.ensures.refused (ap (λ (x : CreateRefusal). Err x) e)) (λ e. c.in-Err.ensures.untouched (ap (λ (x : CreateRefusal). Err x) e)) (λ e. c.in-Err.ensures.harmless (ap (λ (x : CreateRefusal). Err x) e))
    (λ e. c.in-Err.ensures.cause (ap (λ (x : CreateRefusal). Err x) e)))
    c.refused-report.ensures

pub returns-in-Ok-clause-log : goal.returns-in-Ok-clause-log
returns-in-Ok-clause-log g c = short_made (state_of g.D.Disk c.args.disk) (state_of g.D.Disk c.create.new.disk) _ c.create.ensures.time c.create.ensures.log

pub returns-in-Err-clause-log : goal.returns-in-Err-clause-log
returns-in-Err-clause-log g c = short_made (state_of g.D.Disk c.args.disk) (state_of g.D.Disk c.create.new.disk) _ c.create.ensures.time c.create.ensures.log
