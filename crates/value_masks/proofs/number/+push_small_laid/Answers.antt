use Rattle.std.proofs.Common.{◌+◌, ◌-◌, ◌/◌, ◌%◌, ◌++◌, ◌∷◌, [], List, ℕ, length, take, ap, sym, ◌∙◌, append_assoc, arith}
use Rattle.std.proofs.lemmas.List.{append-nil}
use Rattle.value_masks.proofs.LaidDigits.{laid_number, laid_number_comma, laid_number_digit, laid_number_none}
use Rattle.value_masks.proofs.number.+push_small_laid.Goals as goal

pub returns-in-empty : goal.returns-in-empty
returns-in-empty t c =
    let old = c.args.text.now.items in
    sym (ap (λ (xs : List ℕ). old ++ xs) (laid_number_none c.args.part.now c.args.digits c.args.n (omega arith)) ∙ append-nil old)

pub returns-in_ok-push-in-len1-up : goal.returns-in_ok-push-in-len1-up
returns-in_ok-push-in-len1-up t c =
    let old = c.args.text.now.items in
    let part = c.args.part.now in
    let front = laid_number (take (length part - 1) part) c.args.digits c.args.n in
    c.in_ok-push-in-len1-up.ensures.items ∙ ap (λ (xs : List ℕ). xs ++ 44 ∷ []) c.in_ok-push_small_laid-in-len1-up.ensures
    ∙ append_assoc old front (44 ∷ [])
    ∙ ap (λ (xs : List ℕ). old ++ xs) (sym (laid_number_comma part c.args.digits c.args.n (omega arith) c.if-sign-eq44.true (omega arith)))

pub returns-in_ok-push-in-len1-up-2 : goal.returns-in_ok-push-in-len1-up-2
returns-in_ok-push-in-len1-up-2 t c =
    let old = c.args.text.now.items in
    let part = c.args.part.now in
    let front = laid_number (take (length part - 1) part) (c.args.digits - 1) (c.args.n / 10) in
    let last = (48 + c.args.n % 10) ∷ [] in
    c.in_ok-push-in-len1-up-2.ensures.items ∙ ap (λ (xs : List ℕ). xs ++ last) c.in_ok-push_small_laid-in-len1-up-2.ensures
    ∙ append_assoc old front last
    ∙ ap (λ (xs : List ℕ). old ++ xs) (sym (laid_number_digit part c.args.digits c.args.n (omega arith) c.if-sign-eq44.false (omega arith)))
