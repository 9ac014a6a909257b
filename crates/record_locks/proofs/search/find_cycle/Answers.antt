use Rattle.std.proofs.Common.{◌≡◌, ◌<◌, ◌≤◌, length, sym, ap, subst, ◌∙◌, arith}
use Rattle.std.proofs.lemmas.List.{get_or_default}
use Rattle.std.proofs.lemmas.Bool.{both_ways}
use Rattle.record_locks.specs.declared.search.Path.{Path}
use Rattle.record_locks.specs.Table.{WaitsAgainst}
use Rattle.record_locks.specs.Paths.{IsPath}
use Rattle.record_locks.proofs.PathLemmas.{starts_search, goes_on, no_cycle, is_cycle, waits_below}
use Rattle.record_locks.proofs.search.find_cycle.Goals as goal

pub loop-at-init : goal.loop-at-init
loop-at-init c =
    let waits = WaitsAgainst c.args.search.table.now c.args.search.key_waits.now c.args.search.client c.args.search.against.now in
    rw (c.in_ok-push.ensures.items, c.new-paths.ensures.items)
    (starts_search waits c.args.search.client c.bound-bound.result c.in_ok-first.first c.in_ok-first.ensures.end c.in_ok-first.ensures.way)

pub returns-then-at-len : goal.returns-then-at-len
returns-then-at-len c =
    let waits = WaitsAgainst c.args.search.table.now c.args.search.key_waits.now c.args.search.client c.args.search.against.now in
    let end : length c.loop-at.paths.items ≤ c.loop-at.at = omega (arith, c.loop-at.paths.ok) in
    no_cycle waits c.args.search.client c.bound-bound.result c.loop-at.paths.items c.loop-at.at
    (waits_below c.args.search.table.now c.args.search.key_waits.now c.args.search.client c.args.search.against.now c.bound-bound.result c.bound-bound.ensures.waiting)
    c.loop-at.invariant.are c.loop-at.invariant.some end c.loop-at.invariant.done

pub returns-then-waits_with : goal.returns-then-waits_with
returns-then-waits_with c =
    let waits = WaitsAgainst c.args.search.table.now c.args.search.key_waits.now c.args.search.client c.args.search.against.now in
    let inside : c.loop-at.at < length c.loop-at.paths.items = omega (arith, c.loop-at.paths.ok) in
    let path : Path = c.index-then-waits_with.result.now in
    let same : c.index.result.now ≡ path =
    c.index.ensures ∙ get_or_default c.loop-at.paths.items c.loop-at.at c.index.result.now path inside ∙ sym c.index-then-waits_with.ensures in
    let here : IsPath waits c.args.search.client c.loop-at.paths.items path =
    subst (IsPath waits c.args.search.client c.loop-at.paths.items) (sym c.index-then-waits_with.ensures) (c.loop-at.invariant.are c.loop-at.at path inside) in
    is_cycle waits c.args.search.client c.loop-at.paths.items path c.in_ok-way.way.items here
    (subst (λ (p : Path). waits p.end c.args.search.client) same (c.waits_with.ensures.0 c.if-waits_with.true))
    (c.in_ok-way.ensures.items ∙ c.as_slice.ensures.value)

pub loop-at-preserved : goal.loop-at-preserved
loop-at-preserved c =
    let waits = WaitsAgainst c.args.search.table.now c.args.search.key_waits.now c.args.search.client c.args.search.against.now in
    let inside : c.loop-at.at < length c.loop-at.paths.items = omega (arith, c.loop-at.paths.ok) in
    goes_on waits c.args.search.client c.bound-bound.result c.loop-at.paths.items c.follow.new.paths.items c.loop-at.at c.index.result.now.end inside c.loop-at.invariant
    c.in_ok-follow.ensures.are c.in_ok-follow.ensures.longer
    (λ (d : Path). ap (λ (p : Path). p.end) (c.index.ensures ∙ get_or_default c.loop-at.paths.items c.loop-at.at c.index.result.now d inside))
    (λ back. both_ways c.waits_with.result c.if-waits_with.false (c.waits_with.ensures.1 back))
    c.in_ok-follow.ensures.followed

pub returns : goal.returns
returns c =
    let waits = WaitsAgainst c.args.search.table.now c.args.search.key_waits.now c.args.search.client c.args.search.against.now in
    let end : length c.loop-at.paths.items ≤ c.loop-at.at = omega (arith, c.loop-at.paths.ok, c.loop-at.paths.small) in
    no_cycle waits c.args.search.client c.bound-bound.result c.loop-at.paths.items c.loop-at.at
    (waits_below c.args.search.table.now c.args.search.key_waits.now c.args.search.client c.args.search.against.now c.bound-bound.result c.bound-bound.ensures.waiting)
    c.loop-at.invariant.are c.loop-at.invariant.some end c.loop-at.invariant.done
