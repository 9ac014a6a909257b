use Rattle.std.proofs.Common.{◌≡◌, ◌++◌, ◌-◌, ◌+◌, ℕ, List, map, take, sym, ap, ◌∙◌, arith}
use Rattle.std.proofs.Math.Seq.{take-length}
use Rattle.std.specs.Prelude.{reverse}
use Rattle.block_meaning.specs.Changes.{buffers_in}
use Rattle.client_machine.specs.Config.{given_of}
use Rattle.client_machine.specs.declared.mode.changes.GivenValue.{GivenValue}
use Rattle.client_records.specs.Entries.{others}
use Rattle.client_records.proofs.Backwards.{last_first}
use Rattle.client_records.proofs.Once.{others_of_none}
use Rattle.client_records.proofs.targets.changed_by_values.Goals as goal

pub loop-left-init : goal.loop-left-init
loop-left-init c =
    let values = c.args.values.now in
    let bs = buffers_in (map given_of (reverse values)) in
    record {
      within = omega arith;
      so_far =
          ap (λ (xs : List GivenValue). c.new-buffers.result.items ++ others c.new-buffers.result.items (buffers_in (map given_of (reverse xs)))) (take-length values)
          ∙ ap (λ (xs : List ℕ). xs ++ others xs bs) c.new-buffers.ensures.items ∙ others_of_none bs;
    }

pub loop-left-preserved : goal.loop-left-preserved
loop-left-preserved c =
    let values = c.args.values.now in
    let old = c.loop-left.buffers.items in
    let left = c.loop-left.left in
    let next : left ≡ (left - 1) + 1 = omega arith in
    let x = c.index-values-left.result in
    let bs = buffers_in (map given_of (reverse (take (left - 1) values))) in
    record {
      within = omega arith;
      so_far =
          c.in_ok-add_target.ensures bs
          ∙ sym (ap (λ (xs : List GivenValue). old ++ others old (buffers_in (map given_of xs))) (last_first values (left - 1) left x next c.loop-left.invariant.within))
          ∙ c.loop-left.invariant.so_far;
    }
