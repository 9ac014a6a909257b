use Rattle.std.proofs.Common.{◌≡◌, List, Bool, IsTrue, refl, sym, subst}
use Rattle.std.specs.Prelude.{All, IfSome, Option, Some, None, Vec}
use Rattle.std.specs.declared.alloc.Global.{Global}
use Rattle.log_meaning.specs.declared.note.Note.{Note}
use Rattle.log_meaning.specs.Bytes.{IsNote}
use Rattle.bi_recovery.specs.NoteSlots.{AreRecovered}
use Rattle.bi_recovery.specs.ReadNotes.{ReadAnswer}
use Rattle.bi_recovery.proofs.NoteSlots.{slots_small}
use Rattle.bi_recovery.proofs.Recovery.{no_recovery}
use Rattle.bi_recovery.proofs.log_read.read_area.Goals as goal

pub returns-in-None-clause-none : goal.returns-in-None-clause-none
returns-in-None-clause-none g c = λ is known.
    let newest = c.requires.newest known in
    no_recovery (g.D.Disk.seen c.args.disk.now) c.args.area c.args.generation (newest.0) (newest.1)
    (subst (λ (r : Option (Vec Note Global)). ReadAnswer (g.D.Disk.seen c.args.disk.now c.args.area) c.args.generation r) c.in-None.is (c.in_ok-read_notes.ensures.ok known c.args.generation (newest.1)))

pub invariant_of-result : goal.invariant_of-result
invariant_of-result g c =
    let are : AreRecovered c.in-Some.notes.items c.in_ok-slots-in-Some.slots.items = subst (λ (l : List Note). AreRecovered l c.in_ok-slots-in-Some.slots.items) c.deref.ensures.value c.in_ok-slots-in-Some.ensures in
    let sound : All IsNote c.in-Some.notes.items = subst (λ (r : Option (Vec Note Global)). IfSome r (λ notes. All IsNote notes.items)) c.in-Some.is c.in_ok-read_notes.ensures.sound in
    record { place = c.requires.area; small = slots_small c.in-Some.notes.items c.in_ok-slots-in-Some.slots.items c.in_ok-slots-in-Some.slots.items refl are sound; ascending = are.ascending }

pub returns-in_ok-slots-in-Some-clause-ok : goal.returns-in_ok-slots-in-Some-clause-ok
returns-in_ok-slots-in-Some-clause-ok g c = λ known.
    let newest = c.requires.newest known in
    let holds : ReadAnswer (g.D.Disk.seen c.args.disk.now c.args.area) c.args.generation (Some c.in-Some.notes) = subst (λ (r : Option (Vec Note Global)). ReadAnswer (g.D.Disk.seen c.args.disk.now c.args.area) c.args.generation r) c.in-Some.is (c.in_ok-read_notes.ensures.ok known c.args.generation (newest.1)) in
    record {
      notes = c.in-Some.notes.items;
      log = record { newest = newest.0; holds = holds };
      are = subst (λ (l : List Note). AreRecovered l c.in_ok-slots-in-Some.slots.items) c.deref.ensures.value c.in_ok-slots-in-Some.ensures;
    }
