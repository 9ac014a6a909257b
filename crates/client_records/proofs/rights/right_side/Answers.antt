use Rattle.std.proofs.Common.{◌≡◌, Err, rules, refl, ap, sym, subst}
use Rattle.std.specs.Prelude.{Result}
use Rattle.evaluator.specs.declared.fault.EvalFault.{EvalFault}
use Rattle.bound_tree.specs.Bound.{expr_of, right_of}
use Rattle.client_machine.specs.Machine.{state_in}
use Rattle.client_records.specs.Rights.{IsRightSide}
use Rattle.client_records.specs.declared.rights.RightSide.{RightSide}
use Rattle.client_records.proofs.Assigned.{right_fails}
use Rattle.client_records.proofs.Lent.{lent, rest_at}
use Rattle.client_records.proofs.rights.right_side.Goals as goal

pub returns-in_ok-value-in-Value : goal.returns-in_ok-value-in-Value
returns-in_ok-value-in-Value c = λ p rest reads.
    let m = c.args.machine.now in
    (expr_of c.in-Value.expression, ap right_of c.in-Value.is, c.in_ok-value-in-Value.ensures p (rest_at rest m) m.procedures.items (lent p rest m m.procedures.items c.as_slice.result.now refl c.as_slice.ensures reads))

pub returns-in_err-value-in-Value : goal.returns-in_err-value-in-Value
returns-in_err-value-in-Value c = λ p rest reads.
    let m = c.args.machine.now in
    let e = expr_of c.in-Value.expression in
    let r = right_of c.args.right.now in
    let fault = c.in_err-value-in-Value.field-0.0 in
    let is : c.from_residual.result ≡ Err fault = search rules in
    subst (λ (x : Result RightSide EvalFault). IsRightSide x r p c.args.retry (state_in rest m)) (sym is)
    (right_fails fault e r p c.args.retry (state_in rest m) (ap right_of c.in-Value.is)
    (c.in_err-value-in-Value.ensures p (rest_at rest m) m.procedures.items (lent p rest m m.procedures.items c.as_slice.result.now refl c.as_slice.ensures reads)))
