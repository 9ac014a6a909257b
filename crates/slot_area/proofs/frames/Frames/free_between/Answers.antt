use Rattle.std.proofs.Common.{◌≡◌, ◌<◌, ◌≤◌, inl, inr, ⊎_elim, sym, ◌∙◌, ap, arith}
use Rattle.std.specs.List.{slice_get}
use Rattle.std.proofs.lemmas.Bool.{cases_eq, cases_lt}
use Rattle.std.proofs.lemmas.Option.{same_Some}
use Rattle.slot_area.specs.Frames.{is_free}
use Rattle.slot_area.proofs.frames.Frames.free_between.Goals as goal

pub frames-preserved : goal.frames-preserved
frames-preserved c = record {
  none = λ k f start before at. elim (cases_eq k c.frames.i) [
    | inl here ↦
        let same : f ≡ c.at-frame.result = same_Some f c.at-frame.result (sym at ∙ ap (slice_get c.args.self.now.frames.items) here ∙ c.at-frame.ensures) in
        ap (is_free c.args.settled) same ∙ sym c.is_free.ensures ∙ c.if-is_free.false
    | inr other ↦ c.frames.invariant.none k f start (⊎_elim (λ (l : k < c.frames.i). l) (λ (m : c.frames.i ≤ k). absurd (other (omega (arith, m, before)))) (cases_lt k c.frames.i)) at
  ];
}
