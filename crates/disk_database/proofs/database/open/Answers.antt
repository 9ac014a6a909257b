-- The database over the rows.
use Rattle.std.proofs.Common.{sym, subst, Bool, ℕ, List}
use Rattle.std.specs.Prelude.{IsTrue}
use Rattle.abl_values.specs.Schema.{canonical_text}
use Rattle.database_layout.specs.stored_text.Held.{HoldText}
use Rattle.disk_database.proofs.Openings.{opened_images}
use Rattle.disk_database.proofs.Starts.{born_over, starts}
use Rattle.disk_database.proofs.Survivals.{one_array}
use Rattle.disk_database.proofs.database.open.Goals as goal

pub returns-in-Ok-start-clause-opened : goal.returns-in-Ok-start-clause-opened
returns-in-Ok-start-clause-opened g c = λ contents images.
    c.in-Ok-start.ensures.opened contents (subst (λ (b : Bool). IsTrue b) (sym c.in-Ok.ensures.opened.same_observable) images.seen) images.ascending
    (starts _ c.args.schema_of_rows _ c.in-Ok.ensures.store _ c.in-Ok.ensures.store.store.schema_is _ _ _ _ _ c.in-Ok.ensures.opened (g.met.D.Disk.reads_left c.args.disk) contents (rw (← c.requires.same) at images))

pub returns-in-Ok-start-clause-text : goal.returns-in-Ok-start-clause-text
returns-in-Ok-start-clause-text g c = λ known slots recovers.
    subst (λ (x : ℕ → List ℕ). HoldText x (canonical_text c.args.schema)) (one_array (g.D.Disk.seen c.args.disk) _ slots (c.in-Ok.ensures.opened.recovered known) recovers) (rw (c.requires.same) at (c.in-Ok.ensures.text known))

pub returns-in-Ok-start-clause-born : goal.returns-in-Ok-start-clause-born
returns-in-Ok-start-clause-born g c =
    born_over _ c.args.schema _ (rw (c.requires.same) at c.in-Ok.ensures.store) _ _ _ _ _ c.in-Ok.ensures.opened c.soundness.ensures (rw (c.requires.same) at c.in-Ok.ensures.text) (rw (c.requires.same) at c.in-Ok.ensures.unused)

pub returns-in-Err-start-clause-images : goal.returns-in-Err-start-clause-images
returns-in-Err-start-clause-images g c = opened_images _ _ _ _ _ _ _ (rw (← c.in-Err-start.ensures.refused) at c.in-Ok.ensures.opened) c.disk_of.ensures.stops
