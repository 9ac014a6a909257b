use Rattle.std.proofs.Common.{◌≡◌, inl, inr, ℕ, List, Bool, IsTrue, None, sym, ◌∙◌, ap, subst}
use Rattle.std.specs.List.{list_any}
use Rattle.std.proofs.lemmas.Bool.{cases_eq}
use Rattle.log_meaning.specs.LogState.{WritesNoted}
use Rattle.slot_area.specs.Frames.{note_of, is_free}
use Rattle.slot_area.specs.Held.{frame_in}
use Rattle.slot_area.specs.Area.{below, bytes_or, view, unwritten, IsKept, IsWhole}
use Rattle.slot_area.proofs.AreaRuns.{stays_then, stays_there}
use Rattle.slot_area.proofs.AreaViews.{none_found, put_read}
use Rattle.slot_area.proofs.Laws.{free_from_ready}
use Rattle.slot_area.proofs.slot_area.SlotArea.read_slot.Goals as goal

pub keep-requires : goal.keep-requires
keep-requires g c =
    let s = c.args.self.now in
    let none : frame_in s.frames c.args.slot ≡ None = none_found (frame_in s.frames c.args.slot) (sym c.bytes_of.ensures ∙ c.in-None.is) in
    let rest = c.bytes_below.ensures.rest in
    let was : IsTrue (g.D.Disk.observable c.bytes_below.new.disk) → IsTrue (g.D.Disk.observable c.args.disk.now) = λ k. subst (λ (b : Bool). IsTrue b) rest.same_observable k in
    record {
      slot = c.requires.slot;
      absent = none;
      free = free_from_ready (frame_in s.frames c.args.slot) (list_any (is_free c.args.settled) s.frames.frames.items) none c.requires.ready;
      bytes = λ k none_noted. c.in_ok-below-in-None.ensures.bytes (was k) ∙ ap (λ (z : ℕ → List ℕ). below s.end (z 0) c.args.slot) (sym (rest.same (was k)));
      kept = λ k. subst (λ (z : ℕ → List ℕ). IsKept s (z 0)) (sym (rest.same (was k))) (c.requires.kept (was k));
    }

pub returns-in_err-keep-in-None-clause-time : goal.returns-in_err-keep-in-None-clause-time
returns-in_err-keep-in-None-clause-time g c = λ extent batches within there noted. stays_then _ _ _ _ _ _ c.bytes_below.ensures.rest (WritesNoted batches)
    (c.keep.ensures.time extent batches within (stays_there _ _ _ _ c.bytes_below.ensures.rest extent there) noted)

pub returns-in_ok-keep-in-None-clause-time : goal.returns-in_ok-keep-in-None-clause-time
returns-in_ok-keep-in-None-clause-time g c = λ extent batches within there noted. stays_then _ _ _ _ _ _ c.bytes_below.ensures.rest (WritesNoted batches)
    (c.keep.ensures.time extent batches within (stays_there _ _ _ _ c.bytes_below.ensures.rest extent there) noted)

pub returns-in_ok-keep-in-None-clause-view : goal.returns-in_ok-keep-in-None-clause-view
returns-in_ok-keep-in-None-clause-view g c = λ known k.
    let s = c.args.self.now in
    let rest = c.bytes_below.ensures.rest in
    let mid : IsTrue (g.D.Disk.observable c.bytes_below.new.disk) = subst (λ (b : Bool). IsTrue b) (sym rest.same_observable) known in
    let none : frame_in s.frames c.args.slot ≡ None = none_found (frame_in s.frames c.args.slot) (sym c.bytes_of.ensures ∙ c.in-None.is) in
    let own : c.in_ok-below-in-None.below ≡ view s (g.D.Disk.seen c.args.disk.now 0) c.args.slot = c.in_ok-below-in-None.ensures.bytes known ∙ sym (ap (bytes_or (below s.end (g.D.Disk.seen c.args.disk.now 0) c.args.slot)) none) in
    c.in_ok-keep-in-None.ensures.view mid k
    ∙ put_read (view s (g.D.Disk.seen c.bytes_below.new.disk 0)) c.args.slot k c.in_ok-below-in-None.below (own ∙ ap (λ (z : ℕ → List ℕ). view s (z 0) c.args.slot) (sym (rest.same known)))
    ∙ ap (λ (z : ℕ → List ℕ). view s (z 0) k) (rest.same known)

pub returns-in_ok-keep-in-None-clause-unwritten : goal.returns-in_ok-keep-in-None-clause-unwritten
returns-in_ok-keep-in-None-clause-unwritten g c = λ k. elim (cases_eq k c.args.slot) [
  | inl here ↦ inr (ap (unwritten c.keep.new.self) here ∙ ap note_of c.in_ok-keep-in-None.ensures.frame)
  | inr other ↦ c.in_ok-keep-in-None.ensures.unwritten k other
]

pub returns-in_ok-keep-in-None-clause-whole : goal.returns-in_ok-keep-in-None-clause-whole
returns-in_ok-keep-in-None-clause-whole g c = λ known whole.
    let rest = c.bytes_below.ensures.rest in
    let mid : IsTrue (g.D.Disk.observable c.bytes_below.new.disk) = subst (λ (b : Bool). IsTrue b) (sym rest.same_observable) known in
    c.in_ok-keep-in-None.ensures.whole mid (subst (λ (z : ℕ → List ℕ). IsWhole c.args.self.now.end (z 0)) (sym (rest.same known)) whole)
