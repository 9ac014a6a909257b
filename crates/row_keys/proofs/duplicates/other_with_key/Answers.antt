use Rattle.std.proofs.Common.{◌≡◌, true, false, Option, sym, ◌∙◌, subst}
use Rattle.std.specs.Prelude.{MatchOption}
use Rattle.abl_base.specs.declared.row.RowId.{RowId}
use Rattle.row_keys.specs.Questions.{IsOther}
use Rattle.row_keys.proofs.Others.{none_above, none_at_all, second_is_other}
use Rattle.row_keys.proofs.duplicates.other_with_key.Goals as goal

pub returns-in_err-first : goal.returns-in_err-first
returns-in_err-first c =
    subst (λ (r : Option RowId). MatchOption r ((other : RowId) → ¬ IsOther c.args.index.now c.args.key.now c.args.row other) (λ other. IsOther c.args.index.now c.args.key.now c.args.row other))
    (sym c.from_residual.ensures) (none_at_all c.args.index.now c.args.key.now c.args.row c.in_err-first.ensures.none)

pub returns-then-not-is_row : goal.returns-then-not-is_row
returns-then-not-is_row c = (
  c.in_ok-first.ensures.found,
  λ e. (let own : c.is_row.result ≡ true = c.is_row.ensures.1 e in let clash : true ≡ false = sym own ∙ c.if-not-is_row.true in cc),
)

pub returns-in_err-second : goal.returns-in_err-second
returns-in_err-second c =
    subst (λ (r : Option RowId). MatchOption r ((other : RowId) → ¬ IsOther c.args.index.now c.args.key.now c.args.row other) (λ other. IsOther c.args.index.now c.args.key.now c.args.row other))
    (sym c.from_residual-in_err-second.ensures)
    (none_above c.args.index.now c.args.key.now c.args.row (record { 0 = c.in_ok-first.first }) (c.is_row.ensures.0 c.if-not-is_row.false) c.in_ok-first.ensures.first c.in_err-second.ensures.none)

pub returns : goal.returns
returns c =
    second_is_other c.args.index.now c.args.key.now c.args.row (record { 0 = c.in_ok-first.first }) (record { 0 = c.in_ok-second.second }) (c.is_row.ensures.0 c.if-not-is_row.false) c.in_ok-second.ensures.beyond c.in_ok-second.ensures.found
