use Rattle.std.proofs.Common.{◌-◌, arith, length, refl, sym}
use Rattle.std.proofs.lemmas.Option.{slice_get_past, slice_get_read}
use Rattle.preprocessor.specs.Places.{start}
use Rattle.preprocessor.proofs.Lines.{gone, in_the_line, no_column, no_line}
use Rattle.preprocessor.proofs.places.offset_of.Goals as goal

pub returns-then-line-eq0 : goal.returns-then-line-eq0
returns-then-line-eq0 c = sym (gone start c.args.place c.args.bytes.now (omega (arith, c.if-line-eq0.true)))

pub returns-then-column-eq0 : goal.returns-then-column-eq0
returns-then-column-eq0 c = sym (no_column start c.args.place c.args.bytes.now c.if-column-eq0.true (omega arith))

pub returns-in-Some : goal.returns-in-Some
returns-in-Some c =
    let a = c.args in
    let s = c.in-Some.start.now in
    let h = c.in-Some.ensures.lookup in
    let e = c.start_or.ensures in
    let there = slice_get_read a.starts.now (length a.starts.now) (a.place.line - 1) s refl h.3.0 h.1 in
    in_the_line a.bytes.now a.starts.now a.place s c.in_line.result c.requires (omega (arith, c.if-line-eq0.false)) (omega (arith, c.if-column-eq0.false)) there (λ p. c.in_line.ensures.there (omega (arith, e, p))) (λ p. c.in_line.ensures.past (omega (arith, e, p)))

pub returns-in-None : goal.returns-in-None
returns-in-None c =
    let a = c.args in
    no_line a.bytes.now a.starts.now a.place c.requires (omega (arith, c.if-line-eq0.false)) (omega (arith, c.if-column-eq0.false)) (slice_get_past a.starts.now (a.place.line - 1) c.in-None.ensures.lookup.3)
