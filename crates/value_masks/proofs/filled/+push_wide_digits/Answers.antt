use Rattle.std.proofs.Common.{ℕ, ◌+◌, ◌-◌, ◌/◌, ◌%◌, List, [], ◌∷◌, ◌++◌, ap, sym, ◌∙◌, append_assoc, arith}
use Rattle.abl_values.specs.Texts.{last_digits}
use Rattle.abl_values.proofs.Digits.{last_digits_more}
use Rattle.value_masks.proofs.filled.+push_wide_digits.Goals as goal

pub returns : goal.returns
returns t c =
    let old = c.args.bytes.now.items in
    let front = last_digits (c.args.digits - 1) (c.args.n / 10) in
    let last = (48 + c.args.n % 10) ∷ [] in
    c.in_ok-push.ensures.items ∙ ap (λ (xs : List ℕ). xs ++ last) c.in_ok-push_wide_digits.ensures
    ∙ append_assoc old front last ∙ ap (λ (xs : List ℕ). old ++ xs) (sym (last_digits_more c.args.digits c.args.n (omega arith)))
