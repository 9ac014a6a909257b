use Rattle.std.proofs.Common.{◌≡◌, ◌+◌, ◌<◌, ◌∷◌, List, Err, arith, drop, length, rules, subst, sym, ap, ◌∙◌}
use Rattle.std.specs.Prelude.{Option, Result}
use Rattle.evaluator.specs.declared.fault.EvalFault.{EvalFault}
use Rattle.bound_tree.specs.Bound.{assignment_of, right_of}
use Rattle.bound_tree.specs.Tree.{Assignment}
use Rattle.client_machine.specs.Config.{instr_at}
use Rattle.client_machine.specs.Machine.{state_in}
use Rattle.client_machine.specs.Statements.{pairs_in}
use Rattle.client_records.specs.Rights.{IsNext}
use Rattle.client_records.specs.declared.rights.NextAssignment.{NextAssignment}
use Rattle.client_records.proofs.Once.{next_of}
use Rattle.client_records.proofs.rights.next_assignment.Goals as goal

pub returns-in_err-right : goal.returns-in_err-right
returns-in_err-right c = λ p rest reads.
    let m = c.args.machine.now in
    let i = c.args.index in
    let pair = c.index-pairs-index.result in
    let all = c.pairs_at-pairs.result.now in
    let xs = pairs_in (instr_at m.code.instrs.items c.args.place) in
    let below : i < length all = omega arith in
    let starts = ap (λ (ys : List Assignment). drop i ys) (sym c.pairs_at-pairs.ensures) ∙ next_of assignment_of all i pair below c.index-pairs-index.is ∙ ap (λ (ys : List Assignment). assignment_of pair ∷ drop (i + 1) ys) c.pairs_at-pairs.ensures in
    let fault = c.in_err-right.field-0.0 in
    let is : c.from_residual.result ≡ Err fault = search rules in
    subst (λ (x : Result (Option NextAssignment) EvalFault). IsNext x xs i p c.args.retry (state_in rest m)) (sym is)
    (pair.target, right_of pair.right, drop (i + 1) xs, starts, c.in_err-right.ensures p rest reads)

pub returns : goal.returns
returns c = λ p rest reads.
    let i = c.args.index in
    let pair = c.index-pairs-index.result in
    let all = c.pairs_at-pairs.result.now in
    let below : i < length all = omega arith in
    let starts = ap (λ (ys : List Assignment). drop i ys) (sym c.pairs_at-pairs.ensures) ∙ next_of assignment_of all i pair below c.index-pairs-index.is ∙ ap (λ (ys : List Assignment). assignment_of pair ∷ drop (i + 1) ys) c.pairs_at-pairs.ensures in
    (right_of pair.right, starts, c.in_ok-right.ensures p rest reads)
