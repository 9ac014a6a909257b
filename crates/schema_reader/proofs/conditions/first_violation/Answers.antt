use Rattle.std.proofs.Common.{◌≡◌, ◌+◌, ◌-◌, ◌^◌, ◌≤◌, ◌<◌, min, Some, None, sym, ap, ◌∙◌, subst, rules, arith}
use Rattle.abl_base.specs.declared.limits.TheConstants.{MAX_CANONICAL_BYTES}
use Rattle.schema_reader.specs.Census.{head_rule_in, item_bytes, line_violation_in}
use Rattle.schema_reader.proofs.SoFar.{AreClean, head_broken, line_broken, more_bytes, no_items, one_more_clean, text_broken}
use Rattle.schema_reader.proofs.conditions.first_violation.Goals as goal

pub loop-item-init : goal.loop-item-init
loop-item-init c = no_items c.args.items.now c.empty-census.result c.empty-census.ensures.names c.empty-census.ensures.tables c.empty-census.ensures.sequences

pub returns-in-Some : goal.returns-in-Some
returns-in-Some c =
    let broken : head_rule_in c.loop-item.census c.item-item.result.attributes c.item-item.result.head ≡ Some c.in-Some.rule = cc in
    sym (head_broken c.args.items.now c.loop-item.item-index c.item-item.result c.loop-item.census c.loop-item.bytes (omega arith) c.item-item.is c.loop-item.invariant c.in-Some.rule broken)

pub returns-then-bytes-gt-MAX_CANONICAL_BYTES : goal.returns-then-bytes-gt-MAX_CANONICAL_BYTES
returns-then-bytes-gt-MAX_CANONICAL_BYTES c =
    let item = c.item-item.result in
    let fits : head_rule_in c.loop-item.census item.attributes item.head ≡ None = search rules in
    let size : c.saturating_add-bytes.result ≡ more_bytes c.loop-item.bytes (item_bytes c.loop-item.census item.attributes item.head) =
    c.saturating_add-bytes.ensures ∙ ap (λ n. min (c.loop-item.bytes + n) (2 ^ 64 - 1)) c.in_ok-canonical_bytes.ensures in
    let over : MAX_CANONICAL_BYTES < c.saturating_add-bytes.result = omega arith in
    sym (text_broken c.args.items.now c.loop-item.item-index item c.loop-item.census c.loop-item.bytes (omega arith) c.item-item.is c.loop-item.invariant fits (subst (λ n. MAX_CANONICAL_BYTES < n) size over))

pub returns-in-Some-2 : goal.returns-in-Some-2
returns-in-Some-2 c =
    let item = c.item-item.result in
    let fits : head_rule_in c.loop-item.census item.attributes item.head ≡ None = search rules in
    let size : c.saturating_add-bytes.result ≡ more_bytes c.loop-item.bytes (item_bytes c.loop-item.census item.attributes item.head) =
    c.saturating_add-bytes.ensures ∙ ap (λ n. min (c.loop-item.bytes + n) (2 ^ 64 - 1)) c.in_ok-canonical_bytes.ensures in
    let short : c.saturating_add-bytes.result ≤ MAX_CANONICAL_BYTES = omega arith in
    let broken : line_violation_in c.loop-item.census item item.attributes ≡ Some c.in-Some-2.violation = cc (c.in_ok-violation.ensures) in
    sym (line_broken c.args.items.now c.loop-item.item-index item c.loop-item.census c.loop-item.bytes (omega arith) c.item-item.is c.loop-item.invariant fits (subst (λ n. n ≤ MAX_CANONICAL_BYTES) size short) c.in-Some-2.violation broken)

pub loop-item-preserved : goal.loop-item-preserved
loop-item-preserved c =
    let item = c.item-item.result in
    let fits : head_rule_in c.loop-item.census item.attributes item.head ≡ None = search rules in
    let size : c.saturating_add-bytes.result ≡ more_bytes c.loop-item.bytes (item_bytes c.loop-item.census item.attributes item.head) =
    c.saturating_add-bytes.ensures ∙ ap (λ n. min (c.loop-item.bytes + n) (2 ^ 64 - 1)) c.in_ok-canonical_bytes.ensures in
    let short : c.saturating_add-bytes.result ≤ MAX_CANONICAL_BYTES = omega arith in
    let kept : line_violation_in c.loop-item.census item item.attributes ≡ None = search (rules, c.in_ok-violation.ensures) in
    subst (AreClean c.args.items.now (c.loop-item.item-index + 1) c.count.new.self) (sym size)
    (one_more_clean c.args.items.now c.loop-item.item-index item c.loop-item.census c.loop-item.bytes (omega arith) c.item-item.is c.loop-item.invariant fits (subst (λ n. n ≤ MAX_CANONICAL_BYTES) size short)
    c.count.new.self kept c.in_ok-count.ensures.names c.in_ok-count.ensures.tables c.in_ok-count.ensures.sequences)
