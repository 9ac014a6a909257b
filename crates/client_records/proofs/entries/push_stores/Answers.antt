use Rattle.std.proofs.Common.{◌≡◌, ℕ, ◌-◌, ◌+◌, ◌∷◌, [], List, drop, get_or, sym, ap, ◌∙◌, arith}
use Rattle.std.proofs.Math.Seq.{drop-length}
use Rattle.std.specs.Prelude.{reverse}
use Rattle.flat_machine.specs.Flat as flat
use Rattle.client_machine.specs.Config.{stack_of}
use Rattle.client_records.specs.Entries.{content_at, store_entries}
use Rattle.client_records.proofs.Backwards.{one_more}
use Rattle.client_records.proofs.entries.push_stores.Goals as goal

pub loop-left-init : goal.loop-left-init
loop-left-init c = record {
  within = omega arith;
  pushed = λ code cs. sym (ap (λ (bs : List ℕ). store_entries (content_at c.args.memory.now) bs (stack_of code cs (reverse c.args.stack.now.items))) (drop-length c.args.buffers.now));
  order = λ n o. o;
}

pub loop-left-preserved : goal.loop-left-preserved
loop-left-preserved c =
    let bs = c.args.buffers.now in
    let left = c.loop-left.left in
    let b = get_or bs (left - 1) 0 in
    let next : left ≡ (left - 1) + 1 = omega arith in
    record {
      within = omega arith;
      pushed = λ code cs.
          let base = stack_of code cs (reverse c.args.stack.now.items) in
          c.in_ok-push_store.ensures.pushed code cs
          ∙ ap (λ (ks : List flat.StackEntry). store_entries (content_at c.args.memory.now) (b ∷ []) ks) (c.loop-left.invariant.pushed code cs)
          ∙ sym (ap (λ (xs : List ℕ). store_entries (content_at c.args.memory.now) xs base) (one_more bs (left - 1) left 0 next c.loop-left.invariant.within));
      order = λ n o. c.in_ok-push_store.ensures.order n (c.loop-left.invariant.order n o);
    }

pub returns-clause-pushed : goal.returns-clause-pushed
returns-clause-pushed c = λ code cs.
    let none : c.loop-left.left ≡ 0 = omega arith in
    c.loop-left.invariant.pushed code cs ∙ ap (λ (k : ℕ). store_entries (content_at c.args.memory.now) (drop k c.args.buffers.now) (stack_of code cs (reverse c.args.stack.now.items))) none

pub returns-clause-order : goal.returns-clause-order
returns-clause-order c = λ n o. c.loop-left.invariant.order n o
