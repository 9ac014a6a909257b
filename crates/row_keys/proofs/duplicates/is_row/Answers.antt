use Rattle.std.proofs.Common.{◌≡◌, Some, true, false, sym, ap, ◌∙◌, eqb-true, eq-eqb}
use Rattle.abl_base.specs.declared.row.RowId.{RowId}
use Rattle.row_keys.proofs.Placed.{none_is_none}
use Rattle.row_keys.proofs.duplicates.is_row.Goals as goal

pub returns-in-None : goal.returns-in-None
returns-in-None c = ((λ t. let clash : false ≡ true = t in cc), (λ e. absurd (none_is_none c.args.other (sym c.in-None.is ∙ e))))

pub returns-in-Some : goal.returns-in-Some
returns-in-Some c = (
  λ t. c.in-Some.is ∙ ap (λ (q : RowId). Some q) (λ z. record { 0 = eqb-true c.in-Some.row.0 c.args.other.0 t z }),
  λ e. (let found : Some c.in-Some.row ≡ Some c.args.other = sym c.in-Some.is ∙ e in
      let same : c.in-Some.row ≡ c.args.other = cc in
      eq-eqb c.in-Some.row.0 c.args.other.0 (ap (λ (q : RowId). q.0) same)),
)
