use Rattle.std.proofs.Common.{ℕ, ◌<◌, ◌≡◌, List, length, drop, Result, Err, refl, sym, ◌∙◌, ap, subst, arith}
use Rattle.abl_base.specs.declared.rule.Rule.{Rule}
use Rattle.parse_tree.specs.declared.token.TokenKind.{TokenKind}
use Rattle.parser.specs.declared.syntax.SyntaxRefusal.{SyntaxRefusal}
use Rattle.parser.specs.declared.syntax.SyntaxRefusal.TheVariants.{Broken}
use Rattle.parser.specs.Grammar.{any_deep, kinds}
use Rattle.parser.specs.Violations.{IsFirst}
use Rattle.parser.proofs.Places.{begun, stuck_here, other_here, deep_here, onward_here, at_end, clean_end, text_of, kinds_long}
use Rattle.parser.proofs.syntax.read.Goals as goal

as_refused : (T : Type 0) (tokens : List TokenKind) (x : Result T SyntaxRefusal) (r : SyntaxRefusal) (one other : Rule) (p q : ℕ) → x ≡ Err r → r ≡ Broken one p → x ≡ Err (Broken other q) → IsFirst tokens one p → IsFirst tokens other q
as_refused T tokens x r one other p q d e f h =
    let a : one ≡ other = cc in
    let b : p ≡ q = cc in
    subst (λ y. IsFirst tokens y q) a (subst (λ y. IsFirst tokens one y) b h)

pub loop-at-init : goal.loop-at-init
loop-at-init c = begun (kinds c.args.tokens.now) c.in_ok-stack.stack c.new-used.result.items (text_of c.args.tokens.now c.requires) c.in_ok-stack.ensures c.new-used.ensures.items

pub loop-at-preserved : goal.loop-at-preserved
loop-at-preserved c =
    let ks = kinds c.args.tokens.now in
    let q = kinds_long c.args.tokens.now in
    let h : c.loop-at.at < length ks = omega arith in
    let d : drop (length c.loop-at.used.items) c.expand.new.used.items ≡ c.rest_from.result.now = sym (c.rest_from.ensures ∙ ap (λ n. drop n c.as_slice.result.now) (ap length c.as_slice-before.ensures.value) ∙ ap (drop (length c.loop-at.used.items)) c.as_slice.ensures.value) in
    onward_here ks c.loop-at.at c.kind_at-kind.result c.kind_after-next.result c.loop-at.stack c.expand.new.stack c.take.new.self c.loop-at.used.items c.expand.new.used.items
    (text_of c.args.tokens.now c.requires) c.loop-at.invariant h c.kind_at-kind.ensures (λ l. c.kind_after-next.ensures (omega arith)) c.in_ok-expand.ensures.went (c.if-not-take.ensures.taken refl)
    (c.in_ok-expand.ensures.suits c.loop-at.invariant.suits) (c.in_ok-expand.ensures.ends (c.loop-at.invariant.open' h))
    (ap any_deep d ∙ sym c.finds_deep.ensures ∙ c.if-finds_deep.false)

pub returns-then-not-branch-clause-refused : goal.returns-then-not-branch-clause-refused
returns-then-not-branch-clause-refused c = λ broken place e.
    let ks = kinds c.args.tokens.now in
    let q = kinds_long c.args.tokens.now in
    let h : c.loop-at.at < length ks = omega arith in
    let s = c.in_ok-expand.ensures.stuck (cc) in
    as_refused _ ks _ _ _ _ _ _ refl c.refusal.ensures e (
    stuck_here ks c.loop-at.at c.kind_at-kind.result c.loop-at.stack c.expand.new.stack c.loop-at.used.items c.expand.new.used.items c.loop-at.invariant h c.kind_at-kind.ensures s.0 s.1)

pub returns-then-not-take-clause-refused : goal.returns-then-not-take-clause-refused
returns-then-not-take-clause-refused c = λ broken place e.
    let ks = kinds c.args.tokens.now in
    let q = kinds_long c.args.tokens.now in
    let h : c.loop-at.at < length ks = omega arith in
    as_refused _ ks _ _ _ _ _ _ refl c.refusal-then-not-take.ensures e (
    other_here ks c.loop-at.at c.kind_at-kind.result c.kind_after-next.result c.loop-at.stack c.expand.new.stack c.loop-at.used.items c.expand.new.used.items c.loop-at.invariant h c.kind_at-kind.ensures
    c.in_ok-expand.ensures.went (c.in_ok-expand.ensures.taking (cc)) (c.if-not-take.ensures.other refl))

pub returns-then-finds_deep-clause-refused : goal.returns-then-finds_deep-clause-refused
returns-then-finds_deep-clause-refused c = λ broken place e.
    let ks = kinds c.args.tokens.now in
    let q = kinds_long c.args.tokens.now in
    let h : c.loop-at.at < length ks = omega arith in
    let d : drop (length c.loop-at.used.items) c.expand.new.used.items ≡ c.rest_from.result.now = sym (c.rest_from.ensures ∙ ap (λ n. drop n c.as_slice.result.now) (ap length c.as_slice-before.ensures.value) ∙ ap (drop (length c.loop-at.used.items)) c.as_slice.ensures.value) in
    as_refused _ ks _ _ _ _ _ _ refl c.refusal-then-finds_deep.ensures e (
    deep_here ks c.loop-at.at c.kind_at-kind.result c.kind_after-next.result c.loop-at.stack c.expand.new.stack c.take.new.self c.loop-at.used.items c.expand.new.used.items
    (text_of c.args.tokens.now c.requires) c.loop-at.invariant h c.kind_at-kind.ensures (λ l. c.kind_after-next.ensures (omega arith)) c.in_ok-expand.ensures.went (c.if-not-take.ensures.taken refl)
    (c.in_ok-expand.ensures.suits c.loop-at.invariant.suits) (ap any_deep d ∙ sym c.finds_deep.ensures ∙ c.if-finds_deep.true))

pub returns-clause-spelled : goal.returns-clause-spelled
returns-clause-spelled c =
    let q = kinds_long c.args.tokens.now in
    at_end (kinds c.args.tokens.now) c.loop-at.at c.loop-at.stack c.loop-at.used.items c.loop-at.invariant (omega (arith, c.loop-at.auto.at-end))

pub returns-clause-clean : goal.returns-clause-clean
returns-clause-clean c =
    let q = kinds_long c.args.tokens.now in
    clean_end (kinds c.args.tokens.now) c.loop-at.at c.loop-at.stack c.loop-at.used.items c.loop-at.invariant (omega (arith, c.loop-at.auto.at-end))
