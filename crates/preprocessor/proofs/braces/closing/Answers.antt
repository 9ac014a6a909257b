use Rattle.std.proofs.Common.{◌∙◌, ◌-◌, ◌++◌, ◌∷◌, [], ap, arith, drop, get_or, length, sym, take}
use Rattle.preprocessor.specs.declared.mode.Mode.{Mode}
use Rattle.preprocessor.specs.Braces.{closing}
use Rattle.preprocessor.specs.Modes.{inner}
use Rattle.preprocessor.proofs.Closings.{closed_holds, copied_holds, opened_holds}
use Rattle.preprocessor.proofs.Machines.{split_front}
use Rattle.preprocessor.proofs.braces.closing.Goals as goal
use Rattle.preprocessor.proofs.braces.closing.Goals.{then-opens+in_ok-push, else-opens+then-closes+in-Some, else-opens+else-closes}

pub loop-rest-preserved : goal.loop-rest-preserved
loop-rest-preserved c =
    let l = c.loop-rest in
    let rest = c.loop-rest.rest.now in
    let b = get_or rest 0 0 in
    let tail = take (length rest - 1) (drop 1 rest) in
    let e = split_front rest c.in-len1-up.len_at_least in
    elim c.if-opens.branch [
      | then-opens+in_ok-push w ↦ opened_holds (closing [] inner c.args.bytes.now) l.n (length c.args.bytes.now) l.outer.items c.if-opens.outer.items l.mode c.if-opens.mode rest b tail l.invariant e (sym c.opens.ensures ∙ w.if-opens.true) (ap (λ v. v.items) w.outer-is ∙ w.in_ok-push.ensures.items) (w.mode-is ∙ w.inner-mode-then-opens.ensures)
      | else-opens+then-closes+in-Some w ↦ closed_holds (closing [] inner c.args.bytes.now) l.n (length c.args.bytes.now) l.outer.items c.if-opens.outer.items w.in-Some.quote l.mode c.if-opens.mode rest b tail l.invariant e (sym c.opens.ensures ∙ w.if-opens.false) (sym w.closes.ensures ∙ w.if-closes.true) (w.in-Some.ensures.items ∙ ap (λ v. v.items ++ w.in-Some.quote ∷ []) (sym w.outer-is)) (w.mode-is ∙ w.within-mode.ensures)
      | else-opens+else-closes w ↦ copied_holds (closing [] inner c.args.bytes.now) l.n (length c.args.bytes.now) l.outer.items c.if-opens.outer.items l.mode c.if-opens.mode rest b w.next_byte.result tail l.invariant e (sym c.opens.ensures ∙ w.if-opens.false) (sym w.closes.ensures ∙ w.if-closes.false) (ap (λ v. v.items) w.outer-is) w.next_byte.ensures (w.mode-is ∙ w.after-mode.ensures.is) (omega (arith, ap (λ (x : Mode). x.comments) w.mode-is, w.after-mode.ensures.grown))
    ]
