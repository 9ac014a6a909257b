use Rattle.std.proofs.Common.{rules, sym, ap, ◌∙◌, subst}
use Rattle.flat_machine.specs.Steps.{block_step}
use Rattle.bound_tree.specs.Bound.{to_of}
use Rattle.client_values.specs.Loops.{BeginsWith, phrase_of}
use Rattle.client_values.specs.Variables.{state_with}
use Rattle.client_values.proofs.Headers.{by_fault, values_given}
use Rattle.client_values.proofs.loops.loop_values.Goals as goal

pub returns-in_err-by-in-Some : goal.returns-in_err-by-in-Some
returns-in_err-by-in-Some c =
    λ p rest ns b body d ks reads.
    let s = state_with rest ns c.args.memory.now in
    let retry = c.args.status.now.retry in
    let r = c.from_residual-in_err-by-in-Some.result in
    subst (λ x. BeginsWith r (block_step p (to_of x) b retry body d ks s) b retry body d ks s) (sym c.in-Some.is)
    (by_fault p (phrase_of c.in-Some.phrase) b retry body d ks s c.in_ok-start-in-Some.start r c.in_err-by-in-Some.field-0.0 (search rules) (c.in_ok-start-in-Some.ensures p rest ns reads) (c.in_err-by-in-Some.ensures p rest ns reads))

pub returns-in_ok-by-in-Some : goal.returns-in_ok-by-in-Some
returns-in_ok-by-in-Some c =
    λ p rest ns b body d ks reads.
    let s = state_with rest ns c.args.memory.now in
    let retry = c.args.status.now.retry in
    ap (λ x. block_step p (to_of x) b retry body d ks s) c.in-Some.is
    ∙ values_given p (phrase_of c.in-Some.phrase) b retry body d ks s c.in_ok-start-in-Some.start c.in_ok-by-in-Some.by (c.in_ok-start-in-Some.ensures p rest ns reads) (c.in_ok-by-in-Some.ensures p rest ns reads)
