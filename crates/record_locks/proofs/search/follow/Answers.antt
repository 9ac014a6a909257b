use Rattle.std.proofs.Common.{List, sym, ap, subst, ◌∙◌}
use Rattle.std.proofs.lemmas.List.{get_or_default}
use Rattle.std.proofs.lemmas.Bool.{both_ways}
use Rattle.record_locks.specs.declared.search.Path.{Path}
use Rattle.record_locks.specs.Table.{WaitsAgainst}
use Rattle.record_locks.specs.Paths.{IsReached}
use Rattle.record_locks.proofs.PathLemmas.{follows_push, follows_skip}
use Rattle.record_locks.proofs.search.follow.Goals as goal
use Rattle.record_locks.proofs.search.follow.Goals.{then-waits_with+then-not-is_reached+in_ok-path+in_ok-push, else-waits_with, else-waits_with-via-then-waits_with+else-not-is_reached, else-waits_with-via-else-waits_with}

pub loop-number-preserved : goal.loop-number-preserved
loop-number-preserved c =
    let waits = WaitsAgainst c.args.search.table.now c.args.search.key_waits.now c.args.search.client c.args.search.against.now in
    elim c.if-waits_with.branch [
      | then-waits_with+then-not-is_reached+in_ok-path+in_ok-push w ↦
          rw (w.paths-is, w.in_ok-push.ensures.items)
          (follows_push waits c.args.search.client c.args.paths.now.items c.index.result.now.end c.loop-number.number c.loop-number.paths.items
          w.index-then-not-is_reached.result.now w.in_ok-path.path c.args.at c.loop-number.invariant c.requires.inside w.index-then-not-is_reached.ensures
          (λ (d : Path). ap (λ (p : Path). p.end) (c.index.ensures ∙ get_or_default c.args.paths.now.items c.args.at c.index.result.now d c.requires.inside))
          (λ r. both_ways w.is_reached.result w.if-not-is_reached.true (w.is_reached.ensures.1 (subst (λ (ps : List Path). IsReached ps c.loop-number.number) (sym w.as_slice.ensures.value) r)))
          (c.waits_with.ensures.0 w.if-waits_with.true) w.in_ok-path.ensures.end w.in_ok-path.ensures.way)
      | else-waits_with w ↦ rw w.paths-is (elim w.else-waits_with.branch [
        | else-waits_with-via-then-waits_with+else-not-is_reached v ↦
            follows_skip waits c.args.search.client c.args.paths.now.items c.index.result.now.end c.loop-number.number c.loop-number.paths.items c.loop-number.invariant
            (λ here. subst (λ (ps : List Path). IsReached ps c.loop-number.number) v.as_slice.ensures.value (v.is_reached.ensures.0 v.if-not-is_reached.false))
        | else-waits_with-via-else-waits_with v ↦
            follows_skip waits c.args.search.client c.args.paths.now.items c.index.result.now.end c.loop-number.number c.loop-number.paths.items c.loop-number.invariant
            (λ here. absurd (both_ways c.waits_with.result v.if-waits_with.false (c.waits_with.ensures.1 here)))
      ])
    ]
