use Rattle.std.proofs.Common.{◌≡◌, ◌<◌, ◌≤◌, inl, inr, ⊎_elim, sym, ◌∙◌, ap, subst, arith}
use Rattle.std.specs.List.{slice_get}
use Rattle.std.proofs.lemmas.Bool.{cases_eq, cases_lt}
use Rattle.std.proofs.lemmas.Option.{same_Some, slice_get_within}
use Rattle.slot_area.specs.declared.frame.Frame.{Frame}
use Rattle.slot_area.proofs.FrameLists.{no_frame}
use Rattle.slot_area.proofs.frames.Frames.bound.Goals as goal

pub frames-preserved : goal.frames-preserved
frames-preserved c =
    let inv = c.frames.invariant in
    let above = c.raised-bound.ensures.above in
    record {
      above = (let before = inv.above in omega (arith, above, before));
      small = c.raised-bound.ensures.small;
      past = λ k f lt at within. elim (cases_eq k c.frames.i) [
        | inl here ↦
            let same : c.at-frame.result ≡ f = same_Some c.at-frame.result f (sym c.at-frame.ensures ∙ sym (ap (slice_get c.args.self.now.frames.items) here) ∙ at) in
            subst (λ (x : Frame). x.slot < c.raised-bound.result) same (c.raised-bound.ensures.past (subst (λ (x : Frame). x.slot < 1048576) (sym same) within))
        | inr other ↦
            let before : k < c.frames.i = ⊎_elim (λ (l : k < c.frames.i). l) (λ (m : c.frames.i ≤ k). absurd (other (omega (arith, m, lt)))) (cases_lt k c.frames.i) in
            let low = inv.past k f before at within in
            omega (arith, low, above)
      ];
    }

pub returns-clause-none : goal.returns-clause-none
returns-clause-none c = λ slot le lt.
    no_frame c.args.self.now.frames.items slot _ (λ i f at same.
    let within = slice_get_within c.args.self.now.frames.items i f at in
    let low = c.frames.invariant.past i f (omega (arith, within, c.len-count.ensures, c.frames-test.false)) at (omega (arith, lt, same)) in
    omega (arith, low, le, same))
