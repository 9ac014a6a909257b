-- The table over the rows, and the disk after it.
use Rattle.std.proofs.Common.{ap, sym, subst, ◌∙◌, refl, Bool, true, false, ℕ, List, arith}
use Rattle.std.specs.Prelude.{IsTrue, not}
use Rattle.bi_log.specs.Lengths.{StayShort}
use Rattle.slot_txn.specs.logged.Stops.{StayRecoverable}
use Rattle.abl_values.specs.Schema.{SchemaData, canonical_text}
use Rattle.database_layout.specs.stored_text.Held.{HoldText}
use Rattle.disk_database.specs.Answers.{IsDumped}
use Rattle.disk_database.specs.Images.{RecoversToChains}
use Rattle.disk_database.specs.Parts.{AllHoldParts, HoldParts}
use Rattle.disk_database.proofs.Parts.{parts_of_contents}
use Rattle.disk_database.proofs.Dumps.{dumped, holds_as_recovers, kept_by_reads, kept_by_recovery, not_dumped, nothing_dumped, output_same, read_observable, read_schema, reads_hold}
use Rattle.disk_database.proofs.Starts.{born_over}
use Rattle.disk_database.proofs.Survivals.{one_array}
use Rattle.disk_database.proofs.dumping.dump_since.Goals as goal

pub returns-in-Err-clause-part : goal.returns-in-Err-clause-part
returns-in-Err-clause-part g c = nothing_dumped _ _ _ _ _

pub returns-in-Err-clause-images : goal.returns-in-Err-clause-images
returns-in-Err-clause-images g c = holds_as_recovers c.args.schema (g.D.Disk.time c.args.disk) (g.D.Disk.left c.args.disk) (g.D.Disk.left c.in-Err.disk) c.in-Err.ensures.back.images

pub returns-in-Err-clause-kept : goal.returns-in-Err-clause-kept
returns-in-Err-clause-kept g c = λ contents held.
    kept_by_recovery c.args.schema contents (g.D.Disk.observable c.args.disk) (g.D.Disk.time c.args.disk) (g.D.Disk.left c.args.disk) (g.D.Disk.left c.in-Err.disk) held c.in-Err.ensures.back.images c.in-Err.ensures.back.recoverable

pub returns-in-Ok-written-clause-whole : goal.returns-in-Ok-written-clause-whole
returns-in-Ok-written-clause-whole g c =
    dumped _ c.args.schema _ _ (rw (c.requires.same) at c.in-Ok.ensures.store) (c.in-Ok.ensures.store.store.schema_is ∙ c.requires.same) _ _ _ _ _ c.in-Ok.ensures.opened (g.met.D.Disk.reads_left c.args.disk)
    c.args.table true true _ _ (rw (c.order_of.ensures.is) at c.in-Ok-written.ensures.written)

pub returns-in-Ok-written-clause-text : goal.returns-in-Ok-written-clause-text
returns-in-Ok-written-clause-text g c = λ known slots recovers.
    subst (λ (x : ℕ → List ℕ). HoldText x (canonical_text c.args.schema)) (one_array (g.D.Disk.seen c.args.disk) _ slots (c.in-Ok.ensures.opened.recovered known) recovers) (rw (c.requires.same) at (c.in-Ok.ensures.text known))

pub returns-in-Ok-written-clause-born : goal.returns-in-Ok-written-clause-born
returns-in-Ok-written-clause-born g c =
    born_over _ c.args.schema _ (rw (c.requires.same) at c.in-Ok.ensures.store) _ _ _ _ _ c.in-Ok.ensures.opened c.soundness.ensures (rw (c.requires.same) at c.in-Ok.ensures.text) (rw (c.requires.same) at c.in-Ok.ensures.unused)

pub returns-in-Ok-written-clause-images : goal.returns-in-Ok-written-clause-images
returns-in-Ok-written-clause-images g c =
    reads_hold _ c.args.schema _ _ (rw (c.requires.same) at c.in-Ok.ensures.store) (c.in-Ok.ensures.store.store.schema_is ∙ c.requires.same) _ _ _ _ _ c.in-Ok.ensures.opened (g.met.D.Disk.reads_left c.args.disk)
    _ _ _ _ _ _ _ _ (read_schema _ _ _ _ _ _ _ _ _ c.write_table-written.ensures.read) c.write_table-written.ensures.read c.disk_of-disk.ensures.stops
    (λ m slots st. subst (λ (b : Bool). IsTrue b) (read_observable _ _ _ _ _ _ _ _ _ c.write_table-written.ensures.read) st.0) refl

pub returns-in-Ok-written-clause-recoverable : goal.returns-in-Ok-written-clause-recoverable
returns-in-Ok-written-clause-recoverable g c = subst (StayRecoverable (g.D.Disk.left c.disk_of-disk.result)) (c.write_table-written.ensures.read.since ∙ c.in-Ok.ensures.opened.since) c.disk_of-disk.ensures.recoverable

pub returns-in-Ok-written-clause-short : goal.returns-in-Ok-written-clause-short
returns-in-Ok-written-clause-short g c = subst (StayShort (g.D.Disk.left c.disk_of-disk.result)) (c.write_table-written.ensures.read.since ∙ c.in-Ok.ensures.opened.since) c.disk_of-disk.ensures.short

pub returns-in-Ok-written-clause-kept : goal.returns-in-Ok-written-clause-kept
returns-in-Ok-written-clause-kept g c = λ contents held.
    let schema = c.args.schema in
    let read = c.write_table-written.ensures.read in
    let opened = c.in-Ok.ensures.opened in
    let since = read.since ∙ opened.since in
    let all : AllHoldParts g.K.Opening.schema g.K.Opening.images = subst (λ (x : SchemaData). AllHoldParts x g.K.Opening.images) (sym c.requires.of)
    (parts_of_contents schema g.K.Opening.images contents (λ image there. held.all image (c.requires.began image there))) in
    kept_by_reads schema contents (g.D.Disk.observable c.args.disk) (g.D.Disk.time c.args.disk) (g.D.Disk.left c.args.disk) (g.D.Disk.left c.disk_of-disk.result) held
    (returns-in-Ok-written-clause-images g c)
    (subst (StayRecoverable (g.D.Disk.left c.disk_of-disk.result)) since c.disk_of-disk.ensures.recoverable)
    (λ m image slots from there recovers. subst (λ (x : SchemaData). HoldParts x slots) c.requires.of (c.disk_of-disk.ensures.parts all m image slots (omega (arith, from, since)) there recovers))
    (subst (λ (n : ℕ). RecoversToChains n (g.D.Disk.left c.disk_of-disk.result)) since c.disk_of-disk.ensures.chains)

pub returns-clause-part : goal.returns-clause-part
returns-clause-part g c =
    subst (λ (b : Bool). IsDumped c.args.schema (g.D.Disk.observable c.args.disk) (g.D.Disk.seen c.args.disk) c.args.table false (not b) (g.O.Out.state c.args.out.now) (g.O.Out.state c.write_table-written.new.out)) (sym (output_same c.in-Err-written.error c.of_table.result c.of_table.ensures.is))
    (dumped _ c.args.schema _ _ (rw (c.requires.same) at c.in-Ok.ensures.store) (c.in-Ok.ensures.store.store.schema_is ∙ c.requires.same) _ _ _ _ _ c.in-Ok.ensures.opened (g.met.D.Disk.reads_left c.args.disk)
    c.args.table false _ _ _ (rw (c.order_of.ensures.is) at c.in-Err-written.ensures.part))

pub returns-clause-refused : goal.returns-clause-refused
returns-clause-refused g c = not_dumped c.args.schema (g.D.Disk.observable c.args.disk) (g.D.Disk.seen c.args.disk) c.in-Err-written.error c.of_table.result c.of_table.ensures.is

pub returns-clause-untouched : goal.returns-clause-untouched
returns-clause-untouched g c = λ judged. absurd (cc (sym c.of_table.ensures.late ∙ judged))

pub returns-clause-observable : goal.returns-clause-observable
returns-clause-observable g c = ap (λ d. g.D.Disk.observable d) c.disk_of-disk.ensures.disk ∙ read_observable _ _ _ _ _ _ _ _ _ c.write_table-written.ensures.read ∙ c.in-Ok.ensures.opened.same_observable

pub returns-clause-images : goal.returns-clause-images
returns-clause-images g c =
    reads_hold _ c.args.schema _ _ (rw (c.requires.same) at c.in-Ok.ensures.store) (c.in-Ok.ensures.store.store.schema_is ∙ c.requires.same) _ _ _ _ _ c.in-Ok.ensures.opened (g.met.D.Disk.reads_left c.args.disk)
    _ _ _ _ _ _ _ _ (read_schema _ _ _ _ _ _ _ _ _ c.write_table-written.ensures.read) c.write_table-written.ensures.read c.disk_of-disk.ensures.stops
    (λ m slots st. subst (λ (b : Bool). IsTrue b) (read_observable _ _ _ _ _ _ _ _ _ c.write_table-written.ensures.read) st.0) refl

pub returns-clause-kept : goal.returns-clause-kept
returns-clause-kept g c = λ contents held.
    let schema = c.args.schema in
    let read = c.write_table-written.ensures.read in
    let opened = c.in-Ok.ensures.opened in
    let since = read.since ∙ opened.since in
    let all : AllHoldParts g.K.Opening.schema g.K.Opening.images = subst (λ (x : SchemaData). AllHoldParts x g.K.Opening.images) (sym c.requires.of)
    (parts_of_contents schema g.K.Opening.images contents (λ image there. held.all image (c.requires.began image there))) in
    kept_by_reads schema contents (g.D.Disk.observable c.args.disk) (g.D.Disk.time c.args.disk) (g.D.Disk.left c.args.disk) (g.D.Disk.left c.disk_of-disk.result) held
    (returns-clause-images g c)
    (subst (StayRecoverable (g.D.Disk.left c.disk_of-disk.result)) since c.disk_of-disk.ensures.recoverable)
    (λ m image slots from there recovers. subst (λ (x : SchemaData). HoldParts x slots) c.requires.of (c.disk_of-disk.ensures.parts all m image slots (omega (arith, from, since)) there recovers))
    (subst (λ (n : ℕ). RecoversToChains n (g.D.Disk.left c.disk_of-disk.result)) since c.disk_of-disk.ensures.chains)

pub returns-clause-recoverable : goal.returns-clause-recoverable
returns-clause-recoverable g c = subst (StayRecoverable (g.D.Disk.left c.disk_of-disk.result)) (c.write_table-written.ensures.read.since ∙ c.in-Ok.ensures.opened.since) c.disk_of-disk.ensures.recoverable

pub returns-clause-short : goal.returns-clause-short
returns-clause-short g c = subst (StayShort (g.D.Disk.left c.disk_of-disk.result)) (c.write_table-written.ensures.read.since ∙ c.in-Ok.ensures.opened.since) c.disk_of-disk.ensures.short

pub returns-clause-cause : goal.returns-clause-cause
returns-clause-cause g c = λ yes. rw (c.faults-before.ensures, c.faults-now.ensures) at (c.of_table.ensures.cause yes)
