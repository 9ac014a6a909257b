use Rattle.std.proofs.Common.{List, sym, subst, arith}
use Rattle.storage.specs.declared.slots.Undo.{Undo}
use Rattle.bi_log.proofs.Lengths.{run_more, short_now, short_run}
use Rattle.log_meaning.proofs.StepsLemmas.Runs.{wider}
use Rattle.bi_recovery.specs.Creating.{Creates}
use Rattle.database_layout.specs.contents.Contents.{AreNew}
use Rattle.database_layout.specs.fresh.Laying.{laid}
use Rattle.database_layout.specs.creation.Created.{CreatesNew}
use Rattle.database_layout.proofs.CreationLemmas.Births.{creates_new, born_of_log}
use Rattle.database_layout.proofs.creation.making.create_database.Goals as goal

pub returns-in_err-create-clause-time : goal.returns-in_err-create-clause-time
returns-in_err-create-clause-time g c =
    let new : AreNew c.args.schema.now (laid c.deref.result.now) = subst (λ (us : List Undo). AreNew c.args.schema.now (laid us)) (sym c.deref.ensures.value) c.in_ok-slots.ensures.new in
    wider _ _ _ _ (Creates c.deref.result.now) (CreatesNew c.args.schema.now) c.create.ensures.time (λ d image was step. creates_new c.args.schema.now c.deref.result.now d image c.soundness.ensures new step)

pub returns-clause-time : goal.returns-clause-time
returns-clause-time g c =
    let new : AreNew c.args.schema.now (laid c.deref.result.now) = subst (λ (us : List Undo). AreNew c.args.schema.now (laid us)) (sym c.deref.ensures.value) c.in_ok-slots.ensures.new in
    wider _ _ _ _ (Creates c.deref.result.now) (CreatesNew c.args.schema.now) c.create.ensures.time (λ d image was step. creates_new c.args.schema.now c.deref.result.now d image c.soundness.ensures new step)

pub returns-clause-ok : goal.returns-clause-ok
returns-clause-ok g c = λ image left.
    let new : AreNew c.args.schema.now (laid c.deref.result.now) = subst (λ (us : List Undo). AreNew c.args.schema.now (laid us)) (sym c.deref.ensures.value) c.in_ok-slots.ensures.new in
    born_of_log c.args.schema.now c.deref.result.now image c.soundness.ensures new (c.in_ok-create.ensures.ok image left) (c.in_ok-create.ensures.are image left)

pub returns-in_err-slots-clause-log : goal.returns-in_err-slots-clause-log
returns-in_err-slots-clause-log g c = short_now (g.D.Disk.time c.args.disk.now) (g.D.Disk.left c.args.disk.now) (λ m image there. (g.met.D.Disk.image_known c.args.disk.now m image there).past)

pub returns-in_err-create-clause-log : goal.returns-in_err-create-clause-log
returns-in_err-create-clause-log g c =
    let was = g.D.Disk.time c.args.disk.now in
    let before = g.D.Disk.left c.args.disk.now in
    short_run was was (g.D.Disk.time c.create.new.disk) before (g.D.Disk.left c.create.new.disk) (run_more _ _ _ _ 167772160 33 (omega arith) c.create.ensures.within) (omega arith) (short_now was before (λ m image there. (g.met.D.Disk.image_known c.args.disk.now m image there).past))

pub returns-clause-log : goal.returns-clause-log
returns-clause-log g c =
    let was = g.D.Disk.time c.args.disk.now in
    let before = g.D.Disk.left c.args.disk.now in
    short_run was was (g.D.Disk.time c.create.new.disk) before (g.D.Disk.left c.create.new.disk) (run_more _ _ _ _ 167772160 33 (omega arith) c.create.ensures.within) (omega arith) (short_now was before (λ m image there. (g.met.D.Disk.image_known c.args.disk.now m image there).past))
