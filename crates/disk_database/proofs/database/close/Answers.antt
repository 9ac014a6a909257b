-- The images of a closed database.
use Rattle.std.proofs.Common.{ap, sym, subst, ◌∙◌, ℕ}
use Rattle.abl_values.specs.Schema.{SchemaData}
use Rattle.disk_database.specs.Images.{SurvivesCrashes}
use Rattle.disk_database.specs.Parts.{AllHoldParts, HoldParts}
use Rattle.disk_database.proofs.Parts.{parts_of_contents}
use Rattle.disk_database.proofs.Survivals.{crashes_survive}
use Rattle.disk_database.proofs.database.close.Goals as goal

pub returns-clause-survives : goal.returns-clause-survives
returns-clause-survives g c = λ f contents opened one all same held.
    let disk = c.disk_of.ensures.disk ∙ ap (λ r. r.rows.chains.slots.slots.slots.disk) c.close-rows.ensures.rows in
    let kept : AllHoldParts g.K.Opening.schema g.K.Opening.images = subst (λ (x : SchemaData). AllHoldParts x g.K.Opening.images) (sym same) (parts_of_contents f.schema g.K.Opening.images contents held) in
    subst (λ (n : ℕ). SurvivesCrashes c.args.database.rows.rows.chains.slots.slots.slots.since n (g.D.Disk.left c.disk_of.result) f contents c.close-rows.result.1) (sym (ap (λ d. g.D.Disk.time d) disk))
    (crashes_survive _ _ _ _ f contents _ (rw (c.close-rows.ensures.rows) at c.disk_of.ensures.stops) (rw (c.close-rows.ensures.rows) at c.disk_of.ensures.recoverable) one all (sym opened.was.represents.schema)
    (λ m image slots from there recovers. subst (λ (x : SchemaData). HoldParts x slots) same ((rw (c.close-rows.ensures.rows) at c.disk_of.ensures.parts) kept m image slots from there recovers))
    (rw (c.close-rows.ensures.rows) at c.disk_of.ensures.chains) (c.close-rows.ensures.crashes f contents opened))

pub returns-clause-short : goal.returns-clause-short
returns-clause-short g c = rw (c.close-rows.ensures.rows) at c.disk_of.ensures.short
