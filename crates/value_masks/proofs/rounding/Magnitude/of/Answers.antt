use Rattle.std.proofs.Common.{◌/◌, ℕ, ap, ◌∙◌}
use Rattle.value_masks.proofs.Rounds.{rounded_as_kept}
use Rattle.value_masks.proofs.rounding.Magnitude.of.Goals as goal

pub returns-clause-whole : goal.returns-clause-whole
returns-clause-whole c =
    let kept = rounded_as_kept c.args.decimals c.args.stored _ _ _ c.min-digits.ensures c.ten_to.ensures.value c.rounded-units.ensures in
    ap (λ (t : ℕ). c.rounded-units.result / t) c.ten_to-2.ensures.value ∙ kept.whole

pub returns-clause-after : goal.returns-clause-after
returns-clause-after c =
    (rounded_as_kept c.args.decimals c.args.stored _ _ _ c.min-digits.ensures c.ten_to.ensures.value c.rounded-units.ensures).behind

pub returns-clause-zero : goal.returns-clause-zero
returns-clause-zero c =
    (rounded_as_kept c.args.decimals c.args.stored _ _ _ c.min-digits.ensures c.ten_to.ensures.value c.rounded-units.ensures).zero
