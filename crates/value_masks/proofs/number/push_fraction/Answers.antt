use Rattle.std.proofs.Common.{◌≡◌, ◌-◌, ◌++◌, ◌∷◌, [], List, ℕ, length, ap, sym, ◌∙◌, append_assoc, arith}
use Rattle.std.specs.Prelude.{replicate}
use Rattle.std.proofs.lemmas.List.{length-append, length-replicate}
use Rattle.std.proofs.lemmas.Result.{IfOk-equal}
use Rattle.abl_values.specs.Texts.{last_digits}
use Rattle.value_masks.proofs.LaidDigits.{after_point_some}
use Rattle.value_masks.proofs.Widths.{length_last_digits}
use Rattle.value_masks.proofs.number.push_fraction.Goals as goal

pub returns : goal.returns
returns c =
    let old = c.args.text.now.items in
    let m = c.args.magnitude in
    let digits = last_digits m.digits m.units in
    let zeros : List ℕ = replicate (c.args.decimals - m.digits) 48 in
    let long = length_last_digits m.digits m.units in
    let fill : length zeros ≡ c.args.decimals - m.digits = length-replicate (c.args.decimals - m.digits) 48 in
    let both = length-append digits zeros in
    let some = after_point_some (digits ++ zeros) (omega arith) in
    let joined = append_assoc old (46 ∷ []) digits in
    IfOk-equal _ _ _ _ c.push_times.ensures
    (ap (λ (xs : List ℕ). xs ++ zeros) (c.in_ok-push_last_digits.ensures ∙ ap (λ (xs : List ℕ). xs ++ digits) c.in_ok-push.ensures.items ∙ joined)
    ∙ append_assoc old (46 ∷ digits) zeros ∙ ap (λ (xs : List ℕ). old ++ xs) (sym some))
