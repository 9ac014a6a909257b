-- A run that did not begin leaves the contents of the disk, and one that did survives.
use Rattle.std.proofs.Common.{◌≡◌, ◌≤◌, ◌∙◌, ℕ, sym, subst, length}
use denote.Param.Send.{sendable}
use Rattle.run_works.proofs.watched.watched.Watched.TheSendSync as watched
use Rattle.guarded_slots.proofs.guarded.Guarded.TheSendSync as guarded
use Rattle.disk_database.proofs.guard.SlotGuard.TheSendSync as guard
use Rattle.bi_log.specs.Lengths.{StayShort}
use Rattle.slot_txn.specs.logged.Stops.{StayRecoverable}
use Rattle.disk_database.specs.declared.refusals.OpenRefusal.TheVariants as opening
use Rattle.disk_database.specs.Images.{RecoversAsBefore, SurvivesCrashes}
use Rattle.source_files.specs.Compiled.{schema_in}
use Rattle.client_threads.specs.served.Served.{HaveEnded}
use Rattle.run_works.specs.Disks.{IsDurable, state_of}
use Rattle.run_works.proofs.Disks.{kept, short_kept, short_since}
use Rattle.run_works.proofs.Sends.{store_send, txn_send}
use Rattle.run_works.proofs.database.together_since.Goals as goal

pub returns-in-Err-clause-others : goal.returns-in-Err-clause-others
returns-in-Err-clause-others g c = λ memory schema.
    let disk = c.args.disk in
    let left = c.unwatched.result.disk in
    kept schema (state_of g.D.Disk disk) (state_of g.D.Disk left) g.K.Start.images c.requires.began
    (λ image there. c.unwatched.ensures.images image (subst (λ (m : ℕ). g.D.Disk.left left m image) (sym c.requires.moment) there))
    (subst (λ d. RecoversAsBefore (g.D.Disk.time disk) (g.D.Disk.left disk) (g.D.Disk.left d)) (sym c.unwatched.ensures.disk) c.in-Err.ensures.images)
    (subst (λ d. StayRecoverable (g.D.Disk.left d) (g.D.Disk.time disk)) (sym c.unwatched.ensures.disk) c.in-Err.ensures.recoverable)

pub returns-in-Err-clause-kept : goal.returns-in-Err-clause-kept
returns-in-Err-clause-kept g c =
    let disk = c.args.disk in
    let left = c.unwatched.result.disk in
    kept (schema_in c.args.df.now) (state_of g.D.Disk disk) (state_of g.D.Disk left) g.K.Start.images c.requires.began
    (λ image there. c.unwatched.ensures.images image (subst (λ (m : ℕ). g.D.Disk.left left m image) (sym c.requires.moment) there))
    (subst (λ d. RecoversAsBefore (g.D.Disk.time disk) (g.D.Disk.left disk) (g.D.Disk.left d)) (sym c.unwatched.ensures.disk) c.in-Err.ensures.images)
    (subst (λ d. StayRecoverable (g.D.Disk.left d) (g.D.Disk.time disk)) (sym c.unwatched.ensures.disk) c.in-Err.ensures.recoverable)

pub returns-in-Err-clause-short : goal.returns-in-Err-clause-short
returns-in-Err-clause-short g c =
    let disk = c.args.disk in
    let left = c.unwatched.result.disk in
    short_kept (state_of g.D.Disk disk) (state_of g.D.Disk left) g.K.Start.images c.requires.began
    (λ image there. c.unwatched.ensures.images image (subst (λ (m : ℕ). g.D.Disk.left left m image) (sym c.requires.moment) there))
    (subst (λ d. StayShort (g.D.Disk.left d) (g.D.Disk.time disk)) (sym c.unwatched.ensures.disk) c.in-Err.ensures.short)

pub serve-requires-send-S : goal.serve-requires-send-S
serve-requires-send-S g c κs within = let disk = c.type_bounds.send-D in let start = c.type_bounds.send-K in search (store_send, txn_send, guarded.the_send, guard.the_send, watched.the_send, sendable) depth 20

pub returns-in-Ok-serve-clause-ended : goal.returns-in-Ok-serve-clause-ended
returns-in-Ok-serve-clause-ended g c =
    let many : c.len.result ≡ length c.args.clients.items = c.len.ensures ∙ c.args.clients.ok.0 in
    subst (λ (n : ℕ). HaveEnded (record { schema = schema_in c.args.df.now; clients = n }) c.close_after_run.result.trace 0 c.args.clients.items c.close_after_run.result.clients.items) many
    (rw (c.close_after_run.ensures.trace, c.close_after_run.ensures.clients) (c.in-Ok-serve.ensures.ended (record { schema = schema_in c.args.df.now; clients = c.len.result }) c.in-Ok.ensures.setting))

pub returns-in-Ok-serve-clause-durable : goal.returns-in-Ok-serve-clause-durable
returns-in-Ok-serve-clause-durable g c =
    let many : c.len.result ≡ length c.args.clients.items = c.len.ensures ∙ c.args.clients.ok.0 in
    let disk = c.args.disk in
    let left = c.close_after_run.result.disk in
    let schema = schema_in c.args.df.now in
    subst (λ (n : ℕ). IsDurable (record { schema = schema; clients = n }) c.close_after_run.result.trace (state_of g.D.Disk disk) (state_of g.D.Disk left)) many
    (λ contents holds.
    let opened = c.in-Ok-serve.ensures.opened (record { schema = schema; clients = c.len.result }) contents (c.in-Ok.ensures.opened contents holds) in (
      c.close_after_run.ensures.legal (record { schema = schema; clients = c.len.result }) contents opened,
      subst (λ (m : ℕ). SurvivesCrashes m (g.D.Disk.time left) (g.D.Disk.left left) (record { schema = schema; clients = c.len.result }) contents c.close_after_run.result.trace) c.requires.moment
          (c.close_after_run.ensures.survives (record { schema = schema; clients = c.len.result }) contents opened (λ image was. holds.all image (c.requires.began image was)) c.requires.schema (λ image was. holds.all image (c.requires.opened image was))),
    ))

pub returns-in-Err-serve-clause-refused : goal.returns-in-Err-serve-clause-refused
returns-in-Err-serve-clause-refused g c = record { why = opening.NoMemory; is = c.close_unused.ensures.refusal; cause = tt; rose = λ e. absurd (cc e); untouched = λ e. absurd (cc e) }

pub returns-in-Err-serve-clause-kept : goal.returns-in-Err-serve-clause-kept
returns-in-Err-serve-clause-kept g c = λ contents holds m image from there.
    let disk = c.args.disk in
    let schema = schema_in c.args.df.now in
    c.close_unused.ensures.kept (record { schema = schema; clients = c.len.result }) contents (rw (c.in-Err-serve.ensures.back) (c.in-Ok.ensures.opened contents holds)) (λ image was. holds.all image (c.requires.began image was))
    c.requires.schema (λ image was. holds.all image (c.requires.opened image was)) m image (subst (λ (n : ℕ). n ≤ m) (sym c.requires.moment) from) there

pub returns-in-Ok-serve-clause-log : goal.returns-in-Ok-serve-clause-log
returns-in-Ok-serve-clause-log g c =
    short_since (state_of g.D.Disk c.args.disk) (state_of g.D.Disk c.close_after_run.result.disk) g.K.Start.images g.K.Start.moment c.requires.moment c.requires.began c.close_after_run.ensures.log

pub returns-in-Err-serve-clause-short : goal.returns-in-Err-serve-clause-short
returns-in-Err-serve-clause-short g c =
    short_since (state_of g.D.Disk c.args.disk) (state_of g.D.Disk c.close_unused.result.disk) g.K.Start.images g.K.Start.moment c.requires.moment c.requires.began c.close_unused.ensures.log
