use Rattle.std.proofs.Common.{◌≡◌, inl, inr, ⊎_elim, ◌<◌, ◌≤◌, Bool, IsTrue, Some, refl, sym, ◌∙◌, ap, subst, arith}
use Rattle.std.specs.List.{slice_get}
use Rattle.std.proofs.lemmas.Bool.{cases_eq, cases_lt, true≢false}
use Rattle.std.proofs.lemmas.Option.{none-some, slice_get_within}
use Rattle.storage.specs.Disk.{Others}
use Rattle.log_meaning.proofs.StepsLemmas.Runs.{started}
use Rattle.log_meaning.specs.LogState.{WritesNoted}
use Rattle.slot_area.specs.Frames.{note_of}
use Rattle.slot_area.specs.Area.{unwritten}
use Rattle.slot_area.proofs.FrameLists.{is_placed}
use Rattle.slot_area.proofs.AreaRuns.{more_written, more_past}
use Rattle.slot_area.proofs.AreaViews.{ends_twice, stored_twice, was_changed}
use Rattle.slot_area.proofs.Laws.{none_changed}
use Rattle.slot_area.proofs.slot_area.SlotArea.write_dirty.Goals as goal

pub frames-init : goal.frames-init
frames-init g c = record {
  within = omega arith;
  count = c.count-count.ensures;
  same_observable = refl;
  past = started _ _ (Others 0) (λ m image left. (g.met.D.Disk.image_known c.args.disk.now m image left).past);
  time = λ extent batches within there settled all noted. started _ _ (WritesNoted batches) (λ m image left. (g.met.D.Disk.image_known c.args.disk.now m image left).past);
  others = λ known k other. refl;
  failures = refl;
  kept = c.requires.kept;
  whole = λ known whole. whole;
  end = omega arith;
  view = λ known k. refl;
  unwritten = λ k. inl refl;
  stored = λ k note was gone. absurd (none-some note (sym gone ∙ was));
  written = λ j f lt at. absurd (omega (arith, lt));
}

pub write_frame-requires : goal.write_frame-requires
write_frame-requires g c =
    let inv = c.frames.invariant in
    record {
      index = (let lt = c.frames-test.true in let count = inv.count in omega (arith, lt, count));
      kept = λ known. inv.kept (subst (λ (b : Bool). IsTrue b) inv.same_observable known);
    }

pub frames-preserved : goal.frames-preserved
frames-preserved g c =
    let inv = c.frames.invariant in
    let known_at : IsTrue (g.D.Disk.observable c.args.disk.now) → IsTrue (g.D.Disk.observable c.frames.disk) = λ known. subst (λ (b : Bool). IsTrue b) (sym inv.same_observable) known in
    record {
      within = (let lt = c.frames-test.true in omega (arith, lt));
      count = inv.count ∙ sym c.write_frame.ensures.count;
      same_observable = c.write_frame.ensures.same_observable ∙ inv.same_observable;
      past = more_past _ _ _ _ _ _ inv.past c.write_frame.ensures.past;
      time = λ extent batches within there settled all noted. more_written _ _ _ _ _ _ extent batches there (inv.time extent batches within there settled all noted) (λ still.
          c.write_frame.ensures.time extent batches (let grew = inv.end in omega (arith, grew, within)) still (λ f note at changed.
          let fs = c.frames.self.frames in
          let was : unwritten c.args.self.now f.slot ≡ Some note = was_changed (unwritten c.args.self.now) (unwritten c.frames.self) f.slot note (inv.unwritten f.slot)
          (ap note_of (is_placed fs.frames.items fs.places.items c.frames.i f note fs.placed at changed) ∙ changed) in
          noted f.slot note was (all f.slot note was)));
      others = λ known k other. c.write_frame.ensures.others (known_at known) k other ∙ inv.others known k other;
      failures = c.in_ok-write_frame.ensures.cause.stays refl ∙ inv.failures;
      kept = λ known. c.write_frame.ensures.kept (known_at known);
      whole = λ known whole. c.in_ok-write_frame.ensures.whole (known_at known) (inv.whole known whole);
      end = (let a = inv.end in let b = c.write_frame.ensures.end in omega (arith, a, b));
      view = λ known k. c.write_frame.ensures.view (known_at known) k ∙ inv.view known k;
      unwritten = λ k. ends_twice (unwritten c.args.self.now) (unwritten c.frames.self) (unwritten c.write_frame.new.self) k (inv.unwritten k) (c.write_frame.ensures.unwritten k);
      stored = λ k note was gone. stored_twice (unwritten c.args.self.now) (unwritten c.frames.self) (unwritten c.write_frame.new.self) k note c.frames.self.end c.write_frame.new.self.end c.write_frame.ensures.end (inv.unwritten k) (inv.stored k note) (c.write_frame.ensures.stored k) was gone;
      written = λ j f lt at. elim (cases_eq j c.frames.i) [
        | inl here ↦ c.in_ok-write_frame.ensures.written f (ap (slice_get c.write_frame.new.self.frames.frames.items) (sym here) ∙ at)
        | inr other ↦ inv.written j f (⊎_elim (λ (l : j < c.frames.i). l) (λ (m : c.frames.i ≤ j). absurd (other (omega (arith, m, lt)))) (cases_lt j c.frames.i)) (sym (c.write_frame.ensures.frames j other) ∙ at)
      ];
    }

pub returns-in_err-write_frame-clause-past : goal.returns-in_err-write_frame-clause-past
returns-in_err-write_frame-clause-past g c = more_past _ _ _ _ _ _ c.frames.invariant.past c.write_frame.ensures.past

pub returns-in_err-write_frame-clause-time : goal.returns-in_err-write_frame-clause-time
returns-in_err-write_frame-clause-time g c = λ extent batches within there settled all noted.
    let inv = c.frames.invariant in
    more_written _ _ _ _ _ _ extent batches there (inv.time extent batches within there settled all noted) (λ still.
    c.write_frame.ensures.time extent batches (let grew = inv.end in omega (arith, grew, within)) still (λ f note at changed.
    let fs = c.frames.self.frames in
    let was : unwritten c.args.self.now f.slot ≡ Some note = was_changed (unwritten c.args.self.now) (unwritten c.frames.self) f.slot note (inv.unwritten f.slot)
    (ap note_of (is_placed fs.frames.items fs.places.items c.frames.i f note fs.placed at changed) ∙ changed) in
    noted f.slot note was (all f.slot note was)))

pub returns-in_err-write_frame-clause-others : goal.returns-in_err-write_frame-clause-others
returns-in_err-write_frame-clause-others g c = λ known k other.
    let at : IsTrue (g.D.Disk.observable c.frames.disk) = subst (λ (b : Bool). IsTrue b) (sym c.frames.invariant.same_observable) known in
    c.write_frame.ensures.others at k other ∙ c.frames.invariant.others known k other

pub returns-in_err-write_frame-clause-kept : goal.returns-in_err-write_frame-clause-kept
returns-in_err-write_frame-clause-kept g c = λ known. c.write_frame.ensures.kept (subst (λ (b : Bool). IsTrue b) (sym c.frames.invariant.same_observable) known)

pub returns-in_err-write_frame-clause-view : goal.returns-in_err-write_frame-clause-view
returns-in_err-write_frame-clause-view g c = λ known k.
    c.write_frame.ensures.view (subst (λ (b : Bool). IsTrue b) (sym c.frames.invariant.same_observable) known) k ∙ c.frames.invariant.view known k

pub returns-in_err-write_frame-clause-unwritten : goal.returns-in_err-write_frame-clause-unwritten
returns-in_err-write_frame-clause-unwritten g c = λ k. ends_twice (unwritten c.args.self.now) (unwritten c.frames.self) (unwritten c.write_frame.new.self) k (c.frames.invariant.unwritten k) (c.write_frame.ensures.unwritten k)

pub returns-clause-written : goal.returns-clause-written
returns-clause-written g c =
    let fs = c.frames.self.frames in
    let done = c.frames-test.false in
    let count = c.frames.invariant.count in
    none_changed fs.frames.items fs.places.items (λ i f at. c.frames.invariant.written i f (let within = slice_get_within fs.frames.items i f at in omega (arith, within, done, count)) at)

pub returns-clause-cause : goal.returns-clause-cause
returns-clause-cause g c =
    let same = c.frames.invariant.failures in
    record { later = omega (arith, same); rose = λ no. absurd (true≢false no); stays = λ yes. same }

pub returns-in_err-write_frame-clause-stored : goal.returns-in_err-write_frame-clause-stored
returns-in_err-write_frame-clause-stored g c = λ k note was gone.
    let inv = c.frames.invariant in
    stored_twice (unwritten c.args.self.now) (unwritten c.frames.self) (unwritten c.write_frame.new.self) k note c.frames.self.end c.write_frame.new.self.end c.write_frame.ensures.end (inv.unwritten k) (inv.stored k note) (c.write_frame.ensures.stored k) was gone
