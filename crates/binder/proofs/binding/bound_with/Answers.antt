use Rattle.std.proofs.Common.{◌≡◌, ◌∙◌, ap, refl, Option, Err}
use Rattle.bound_tree.specs.Bound.{source_of}
use Rattle.syntax_tree.specs.Typed.{program_of}
use Rattle.bind_names.specs.declared.violation.Violation.{Violation}
use Rattle.binder.specs.Sources.{or_first}
use Rattle.binder.proofs.Bound.{source_bound}
use Rattle.binder.proofs.binding.bound_with.Goals as goal

pub returns-in-None-clause-ok : goal.returns-in-None-clause-ok
returns-in-None-clause-ok c = λ listed.
    source_bound c.args.schema.now (program_of c.args.program.now) c.in_ok-explicit.explicit c.in_ok-said.said c.as_slice.result.now c.as_slice-2.result.now c.as_slice-3.result.now (source_of c.in_ok-tree.tree) _ c.judged.new.notes c.in_ok-first.first
    refl c.empty.ensures (c.in_ok-explicit.ensures listed) c.as_slice.ensures (c.in_ok-said.ensures listed) c.as_slice-2.ensures (c.in_ok-tree.ensures listed) c.as_slice-3.ensures c.in_ok-first.ensures
    ∙ ap (λ (x : Option Violation). or_first x (source_of c.in_ok-tree.tree)) c.in-None.is

pub returns-clause-broken : goal.returns-clause-broken
returns-clause-broken c = λ v listed e.
    let same : c.in-Some.violation ≡ v = cc in
    source_bound c.args.schema.now (program_of c.args.program.now) c.in_ok-explicit.explicit c.in_ok-said.said c.as_slice.result.now c.as_slice-2.result.now c.as_slice-3.result.now (source_of c.in_ok-tree.tree) _ c.judged.new.notes c.in_ok-first.first
    refl c.empty.ensures (c.in_ok-explicit.ensures listed) c.as_slice.ensures (c.in_ok-said.ensures listed) c.as_slice-2.ensures (c.in_ok-tree.ensures listed) c.as_slice-3.ensures c.in_ok-first.ensures
    ∙ ap (λ (x : Option Violation). or_first x (source_of c.in_ok-tree.tree)) c.in-Some.is ∙ ap Err same
