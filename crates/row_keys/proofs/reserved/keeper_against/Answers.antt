use Rattle.std.proofs.Common.{◌≡◌, true, false, sym, ◌∙◌}
use Rattle.std.specs.Option.{option_copied}
use Rattle.row_keys.specs.Questions.{HasUniqueKey}
use Rattle.row_keys.proofs.Reserving.{kept_by_old, kept_by_other, kept_without_key}
use Rattle.row_keys.proofs.reserved.keeper_against.Goals as goal

pub returns-in_default : goal.returns-in_default
returns-in_default c = kept_without_key c.args.index.now c.args.def.now c.args.client (option_copied c.args.old) c.args.values.now (sym c.in_ok-key.ensures ∙ c.in_default.is)

pub returns-then-branch : goal.returns-then-branch
returns-then-branch c =
    kept_by_old c.args.index.now c.args.def.now c.args.client (option_copied c.args.old) c.args.values.now c.in-Some.key (sym c.in_ok-key.ensures ∙ c.in-Some.is) (c.in_ok-has_it.ensures.0 c.if-branch.true)

pub returns : goal.returns
returns c =
    let lacks : HasUniqueKey c.args.def.now (option_copied c.args.old) c.in-Some.key → ⊥ = λ h.
    (let t = c.in_ok-has_it.ensures.1 h in let clash : true ≡ false = sym t ∙ c.if-branch.false in cc) in
    kept_by_other c.args.index.now c.args.def.now c.args.client (option_copied c.args.old) c.args.values.now c.in-Some.key c.other_keeper.result (sym c.in_ok-key.ensures ∙ c.in-Some.is) lacks c.other_keeper.ensures
