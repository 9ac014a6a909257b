-- A disk that was not touched has the images that it had.
use Rattle.std.proofs.Common.{sym, subst}
use Rattle.abl_values.specs.Schema.{SchemaData}
use Rattle.disk_database.specs.Images.{AreImagesOf}
use Rattle.run_works.specs.Disks.{ReadsAsDatabase, state_of}
use Rattle.run_works.proofs.Disks.{as_before, stays_recoverable, stays_short}
use Rattle.run_works.proofs.opening.open_database.Goals as goal

pub returns-in_default-clause-images : goal.returns-in_default-clause-images
returns-in_default-clause-images g c = as_before _ _ _ (g.met.D.Disk.image_known c.args.disk)

pub returns-in_default-clause-recoverable : goal.returns-in_default-clause-recoverable
returns-in_default-clause-recoverable g c = stays_recoverable _ _ _ (g.met.D.Disk.image_known c.args.disk)

pub returns-in_default-schema_of-clause-images : goal.returns-in_default-schema_of-clause-images
returns-in_default-schema_of-clause-images g c = as_before _ _ _ (g.met.D.Disk.image_known c.args.disk)

pub returns-in_default-schema_of-clause-recoverable : goal.returns-in_default-schema_of-clause-recoverable
returns-in_default-schema_of-clause-recoverable g c = stays_recoverable _ _ _ (g.met.D.Disk.image_known c.args.disk)

pub returns-in_default-clause-short : goal.returns-in_default-clause-short
returns-in_default-clause-short g c = stays_short _ _ _ (g.met.D.Disk.image_known c.args.disk)

pub returns-in_default-schema_of-clause-short : goal.returns-in_default-schema_of-clause-short
returns-in_default-schema_of-clause-short g c = stays_short _ _ _ (g.met.D.Disk.image_known c.args.disk)

pub returns-in-Ok-open-clause-opened : goal.returns-in-Ok-open-clause-opened
returns-in-Ok-open-clause-opened g c = λ contents holds.
    let disk = c.args.disk in
    let held = subst (λ (s : SchemaData). AreImagesOf (g.D.Disk.observable disk) (g.D.Disk.time disk) (g.D.Disk.left disk) s contents) (sym c.in-Ok.ensures.schema) holds in
    rw (← c.in-Ok.ensures.schema) (c.in-Ok-open.ensures.opened contents held)

pub returns-in-Ok-open-clause-born : goal.returns-in-Ok-open-clause-born
returns-in-Ok-open-clause-born g c = subst (ReadsAsDatabase (state_of g.D.Disk c.args.disk)) c.in-Ok.ensures.schema c.in-Ok-open.ensures.born
