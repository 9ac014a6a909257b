use Rattle.std.proofs.Common.{◌≡◌, ◌-◌, ◌∷◌, ap, arith, drop, get_or, length, refl, take}
use Rattle.preprocessor.specs.declared.texts.State.{State}
use Rattle.preprocessor.specs.Machine.{layer_read}
use Rattle.preprocessor.proofs.Machines.{split_front}
use Rattle.preprocessor.proofs.Runs.{one_more}
use Rattle.preprocessor.proofs.run.run.Goals as goal

pub loop-rest-preserved : goal.loop-rest-preserved
loop-rest-preserved c =
    let a = c.args in
    let l = c.loop-rest in
    let rest = c.loop-rest.rest.now in
    let b = get_or rest 0 0 in
    let tail = take (length rest - 1) (drop 1 rest) in
    let e = split_front rest c.in-len1-up.len_at_least in
    let t : length rest ≡ length (b ∷ tail) = ap length e in
    let s = c.stops.ensures in
    let f = c.if-stops.false in
    let v = l.invariant in
    let m = c.moved-at.ensures in
    let before : State = record { locals = a.state.locals; globals = a.state.globals; branches = a.state.branches; budget = l.budget } in
    let after : State = record { locals = a.state.locals; globals = a.state.globals; branches = a.state.branches; budget = l.budget - 1 } in (
      one_more a.texts.now a.here.now (layer_read a.texts.now a.here.now a.layer a.state) l.at c.moved-at.result l.mode c.after-mode.result before after l.given c.push.new.self b c.next_byte.result rest tail v.0 e (s.closed f) (s.wordless f) (omega (arith, s.given f, c.len.ensures)) (s.left f) c.next_byte.ensures c.after-mode.ensures.is m.is refl c.in_ok-push.ensures.ok,
      omega (arith, t, v.1, m.down),
      omega (arith, t, v.2, m.along),
      omega (arith, t, v.3, c.after-mode.ensures.grown),
      omega (arith, t, v.4),
      omega (arith, v.5),
    )
