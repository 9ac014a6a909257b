use Rattle.std.proofs.Common.{rules, ◌≡◌, [], sym, ap, ◌∙◌}
use Rattle.std.specs.Prelude.{reverse}
use Rattle.std.proofs.lemmas.List.{reverse-reverse}
use Rattle.block_meaning.specs.Changes.{assigns_each}
use Rattle.block_meaning.specs.Streams.{pairs_of}
use Rattle.client_values.specs.Variables.{state_with}
use Rattle.client_values.proofs.Assigned.{shape_after, even_after}
use Rattle.client_values.proofs.Each.{next_given_at, given_fault_at, no_more_given}
use Rattle.client_values.proofs.assign.assign_values.Goals as goal

pub loop-target-preserved : goal.loop-target-preserved
loop-target-preserved c = (
  shape_after c.args.memory.now c.loop-target.memory c.assign_given.new.memory c.loop-target.invariant.0 c.assign_given.ensures.shape,
  λ p rest ns retry ans even.
      next_given_at p c.args.targets.now c.loop-target.target-index _ c.in-Some.value c.loop-target.values.items c.pop.new.self.items retry _ (state_with rest ns c.loop-target.memory) (state_with rest ns c.assign_given.new.memory) ans
      c.loop-target-test.true c.in-Some.ensures.items (c.loop-target.invariant.1 p rest ns retry ans even)
      (c.in_ok-assign_given-in-Some.ensures.assigns p rest ns retry ans (even_after ns c.args.memory.now c.loop-target.memory c.loop-target.invariant.0 even)),
)

pub returns-in_err-assign_given-in-Some-clause-assigns : goal.returns-in_err-assign_given-in-Some-clause-assigns
returns-in_err-assign_given-in-Some-clause-assigns c =
    λ p rest ns retry ans even.
    let back : reverse c.reverse.new.self.items ≡ c.args.values.items = ap reverse c.reverse.ensures.items ∙ reverse-reverse c.args.values.items in
    given_fault_at (Unit {0}) p c.args.targets.now c.loop-target.target-index _ c.in-Some.value c.loop-target.values.items c.pop.new.self.items retry _ (state_with rest ns c.loop-target.memory) (state_with rest ns c.assign_given.new.memory) ans
    c.from_residual.result c.in_err-assign_given-in-Some.field-0.0 (search rules)
    c.loop-target-test.true c.in-Some.ensures.items
    (ap (λ vs. assigns_each p (pairs_of c.args.targets.now vs) retry (state_with rest ns c.args.memory.now) ans) (sym back) ∙ c.loop-target.invariant.1 p rest ns retry ans even)
    (c.in_err-assign_given-in-Some.ensures.assigns p rest ns retry ans (even_after ns c.args.memory.now c.loop-target.memory c.loop-target.invariant.0 even))

pub returns-in-None-clause-assigns : goal.returns-in-None-clause-assigns
returns-in-None-clause-assigns c =
    λ p rest ns retry ans even.
    let back : reverse c.reverse.new.self.items ≡ c.args.values.items = ap reverse c.reverse.ensures.items ∙ reverse-reverse c.args.values.items in
    let none : c.loop-target.values.items ≡ [] = search (rules, c.in-None.ensures.items) in
    no_more_given p c.args.targets.now c.loop-target.target-index c.loop-target.values.items retry _ (state_with rest ns c.loop-target.memory) ans none
    (ap (λ vs. assigns_each p (pairs_of c.args.targets.now vs) retry (state_with rest ns c.args.memory.now) ans) (sym back) ∙ c.loop-target.invariant.1 p rest ns retry ans even)
