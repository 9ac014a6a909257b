use Rattle.std.proofs.lemmas.Result.{err_from_is_err_and}
use Rattle.std.proofs.Common.{◌≡◌, ◌∷◌, None, refl, sym, ap, ◌∙◌, rules}
use Rattle.std.proofs.lemmas.Option.{none-some}
use Rattle.schema_text.specs.Words.{index_head, past}
use Rattle.schema_text.proofs.Started.{index_is, index_started, index_there, same_there}
use Rattle.schema_text.proofs.indexes.index_at.Goals as goal

pub returns-in_default-clause-index : goal.returns-in_default-clause-index
returns-in_default-clause-index c i b r w e =
    let none : index_head c.args.text.now ≡ None = search rules in
    absurd (none-some _ (sym none ∙ index_there c.args.fields.now i b r c.args.text.now w e))

pub returns-in_err-parts-clause-index : goal.returns-in_err-parts-clause-index
returns-in_err-parts-clause-index c i b r w e =
    let st = index_started c.args.fields.now i b r c.args.text.now _ w e c.in-Some.ensures.head in
    let p = err_from_is_err_and c.from_residual.result c.from_residual.ensures.1 in
    rw (p.1, p.2) (c.in_err-parts.ensures.parts i.parts (10 ∷ r) w.sound.parts refl st.rest)

pub returns-in_default-past-clause-index : goal.returns-in_default-past-clause-index
returns-in_default-past-clause-index c i b r w e =
    let st = index_started c.args.fields.now i b r c.args.text.now _ w e c.in-Some.ensures.head in
    let p = c.in_ok-parts.ensures.parts i.parts (10 ∷ r) w.sound.parts refl st.rest in
    let none : past 10 c.in_ok-parts.end.now ≡ None = search rules in
    absurd (none-some _ (sym none ∙ ap (past 10) p.1))

pub returns-clause-index : goal.returns-clause-index
returns-clause-index c i b r w e =
    let st = index_started c.args.fields.now i b r c.args.text.now _ w e c.in-Some.ensures.head in
    let p = c.in_ok-parts.ensures.parts i.parts (10 ∷ r) w.sound.parts refl st.rest in
    (index_is i c.in_ok-name.name c.in-Some.head.unique c.in_ok-parts.parts w.told (c.in_ok-name.ensures ∙ st.name) st.unique p.0, st.primary, same_there (past 10 c.in_ok-parts.end.now) c.in-Some-past.rest.now r c.in-Some-past.ensures.past (ap (past 10) p.1))
