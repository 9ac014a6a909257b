use Rattle.std.proofs.Common.{ap, sym, ◌∙◌, ◌++◌, ◌+◌, ℕ, List, drop, map}
use Rattle.block_meaning.specs.Changes.{buffer_first, buffers_in}
use Rattle.bound_tree.specs.Bound.{assignment_of}
use Rattle.client_records.specs.Entries.{others}
use Rattle.bound_tree.specs.declared.statement.Assignment.{Assignment as AssignmentRs}
use Rattle.bound_tree.specs.Tree.{Assignment}
use Rattle.client_records.proofs.Once.{next_of, others_of_none}
use Rattle.client_records.proofs.targets.changed_by.Goals as goal

pub loop-index-init : goal.loop-index-init
loop-index-init c =
    let bs = buffers_in (drop c.args.from (map assignment_of c.args.pairs.now)) in
    ap (λ (xs : List ℕ). xs ++ others xs bs) c.new-buffers.ensures.items ∙ others_of_none bs

pub loop-index-preserved : goal.loop-index-preserved
loop-index-preserved c =
    let old = c.loop-index.buffers.items in
    let pairs = c.args.pairs.now in
    let i = c.loop-index.index in
    c.in_ok-add_target.ensures (buffers_in (drop (i + 1) (map assignment_of pairs)))
    ∙ ap (λ (x : AssignmentRs). old ++ others old (buffer_first x.target (buffers_in (drop (i + 1) (map assignment_of pairs))))) (sym c.index-pairs-index.is)
    ∙ ap (λ (xs : List Assignment). old ++ others old (buffers_in xs)) (sym (next_of assignment_of pairs i c.index-pairs-index.result c.loop-index-test.true c.index-pairs-index.is))
    ∙ c.loop-index.invariant
