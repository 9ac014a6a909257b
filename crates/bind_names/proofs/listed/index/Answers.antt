use Rattle.std.proofs.Common.{List, [], ◌∷◌, ◌++◌, Err, refl, sym, ap, ◌∙◌, subst}
use Rattle.bind_names.specs.declared.listed.First.{First}
use Rattle.bind_names.specs.Listed.{Finds}
use Rattle.bind_names.proofs.Firsts.{finds_added, finds_long, finds_taken, is_numbered}
use Rattle.bind_names.proofs.listed.index.Goals as goal

pub returns-in-Ok-clause-ok : goal.returns-in-Ok-clause-ok
returns-in-Ok-clause-ok c = λ names count h. finds_added c.args.firsts.now c.push.new.self names c.args.one c.args.one.spelling c.in-Ok.ensures.ok refl count h

pub returns-in-Err-Taken-clause-ok : goal.returns-in-Err-Taken-clause-ok
returns-in-Err-Taken-clause-ok c = λ names count h.
    let a = c.in-Err-Taken.ensures in
    let there = a.taken.0 (ap Err c.in-Err-Taken.field-0-is) in
    subst (λ (l : List First). Finds l (names ++ c.args.one.spelling ∷ [])) (sym a.err)
    (finds_taken c.args.firsts.now names c.args.one.spelling there.0 (sym (is_numbered c.args.firsts.now c.args.one.spelling) ∙ there.1) h)

pub returns-in-Err-TooLong-clause-ok : goal.returns-in-Err-TooLong-clause-ok
returns-in-Err-TooLong-clause-ok c = λ names count h.
    let a = c.in-Err-TooLong.ensures in
    let long = a.too_long.0 (ap Err c.in-Err-TooLong.field-0-is) in
    subst (λ (l : List First). Finds l (names ++ c.args.one.spelling ∷ [])) (sym a.err) (finds_long c.args.firsts.now names c.args.one.spelling long h)
