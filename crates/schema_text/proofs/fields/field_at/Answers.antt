use Rattle.std.proofs.lemmas.Result.{err_from_is_err_and}
use Rattle.std.proofs.Common.{◌≡◌, None, sym, ap, subst, ◌∙◌, rules}
use Rattle.std.proofs.lemmas.Option.{none-some}
use Rattle.abl_values.specs.Fit.{IsOfField}
use Rattle.abl_values.specs.Names.{is_name}
use Rattle.schema_text.specs.Words.{field_head}
use Rattle.schema_text.proofs.Started.{field_is, field_started, field_there}
use Rattle.schema_text.proofs.fields.field_at.Goals as goal

pub returns-in_default-clause-field : goal.returns-in_default-clause-field
returns-in_default-clause-field c f r w e =
    let none : field_head c.args.text.now ≡ None = search rules in
    absurd (none-some _ (sym none ∙ field_there f r c.args.text.now w e))

pub returns-in_err-initial-clause-field : goal.returns-in_err-initial-clause-field
returns-in_err-initial-clause-field c f r w e =
    let st = field_started f r c.args.text.now _ w e c.in-Some.ensures.head in
    let p = err_from_is_err_and c.from_residual.result c.from_residual.ensures.1 in
    rw (p.1, p.2) (c.in_err-initial.ensures.value f.initial r (subst (λ k. IsOfField k f.initial) (sym st.kind) w.sound.initial) st.rest)

pub returns-clause-field : goal.returns-clause-field
returns-clause-field c f r w e =
    let st = field_started f r c.args.text.now _ w e c.in-Some.ensures.head in
    let v = c.in_ok-initial.ensures.value f.initial r (subst (λ k. IsOfField k f.initial) (sym st.kind) w.sound.initial) st.rest in
    (field_is f c.in_ok-name.name c.in-Some.head.kind c.in_ok-initial.initial c.in-Some.head.mandatory c.empty.result w.told (c.in_ok-name.ensures ∙ st.name) st.kind v.0 st.mandatory c.empty.ensures, v.1)

pub returns-clause-sound : goal.returns-clause-sound
returns-clause-sound c = record { name = ap is_name c.in_ok-name.ensures ∙ c.in-Some.ensures.is_name; initial = c.in_ok-initial.ensures.fits }
