use Rattle.std.proofs.Common.{◌≡◌, ◌<◌, ◌≤◌, subst, arith, length}
use Rattle.lexer.specs.Texts.{place_of}
use Rattle.lexer.proofs.Places.{as_known, column_small, feed, known, line_small, other, place_known}
use Rattle.lexer.proofs.place.moved.Goals.{then-text-i-eq10, else-text-i-eq10}
use Rattle.lexer.proofs.place.moved.Goals as goal

pub loop-i-init : goal.loop-i-init
loop-i-init c = known _ _ _ c.requires.known

pub overflow_add-line : goal.overflow_add-line
overflow_add-line c =
    let h : c.loop-i.i ≤ length c.args.text.now = omega arith in
    let s = line_small c.args.text.now c.loop-i.i c.loop-i.line c.loop-i.column c.loop-i.invariant h in
    omega arith

pub overflow_add-column : goal.overflow_add-column
overflow_add-column c =
    let h : c.loop-i.i ≤ length c.args.text.now = omega arith in
    let s = column_small c.args.text.now c.loop-i.i c.loop-i.line c.loop-i.column c.loop-i.invariant h in
    omega arith

pub loop-i-preserved : goal.loop-i-preserved
loop-i-preserved c =
    let h : c.loop-i.i < length c.args.text.now = omega arith in
    elim c.if-text-i-eq10.branch [
      | then-text-i-eq10 w ↦ as_known _ _ _ _ _ _ (feed _ _ _ _ c.loop-i.invariant h w.if-text-i-eq10.true) w.line-is w.column-is
      | else-text-i-eq10 w ↦ as_known _ _ _ _ _ _ (other _ _ _ _ c.loop-i.invariant h w.if-text-i-eq10.false) w.line-is w.column-is
    ]

pub returns : goal.returns
returns c =
    let e : c.loop-i.i ≡ c.args.to = omega arith in
    subst (λ i. record { line = c.loop-i.line; column = c.loop-i.column } ≡ place_of c.args.text.now i) e (place_known _ _ _ _ c.loop-i.invariant)
