use Rattle.std.proofs.lemmas.Result.{err_from_is_err_and}
use Rattle.std.proofs.Common.{◌≡◌, ◌∷◌, ◌++◌, List, true, sym, ap, subst, ◌∙◌, arith}
use Rattle.abl_values.specs.declared.schema.FieldDef.{FieldDef}
use Rattle.schema_text.specs.Words.{begins}
use Rattle.schema_text.proofs.FieldsSoFar.{FieldsSoFar, all_fields, field_read, no_fields, one_more_field}
use Rattle.schema_text.proofs.Names.{next_free, short_name}
use Rattle.schema_text.proofs.fields.fields_at.Goals as goal

pub loop-alloc-init : goal.loop-alloc-init
loop-alloc-init c = subst (λ (fs : List FieldDef). FieldsSoFar c.args.text.now fs c.args.text.now) (sym c.empty-fields.ensures) (no_fields c.args.text.now)

pub returns-in_err-field-clause-fields : goal.returns-in_err-field-clause-fields
returns-in_err-field-clause-fields c fs r w b e =
    let h : begins 70 c.loop-alloc.rest.now ≡ true = sym c.begins.ensures ∙ c.loop-alloc-test.true in
    let n = one_more_field c.args.text.now c.loop-alloc.fields c.loop-alloc.rest.now c.loop-alloc.invariant h fs r w b e in
    let p = err_from_is_err_and c.from_residual.result c.from_residual.ensures.1 in
    rw (p.1, p.2) (c.in_err-field.ensures.field n.item _ n.is n.text)

pub returns-in_err-add-clause-fields : goal.returns-in_err-add-clause-fields
returns-in_err-add-clause-fields c fs r w b e =
    let h : begins 70 c.loop-alloc.rest.now ≡ true = sym c.begins.ensures ∙ c.loop-alloc-test.true in
    let n = one_more_field c.args.text.now c.loop-alloc.fields c.loop-alloc.rest.now c.loop-alloc.invariant h fs r w b e in
    let is = c.in_ok-field.ensures.field n.item _ n.is n.text in
    let p = err_from_is_err_and c.from_residual-in_err-add.result c.from_residual-in_err-add.ensures.1 in
    rw (p.1, p.2) (c.in_err-add.ensures.refused (short_name c.in_ok-field.field.name c.in_ok-field.ensures.sound.name)
    (next_free (λ f. f.name) fs c.loop-alloc.fields c.in_ok-field.field n.more w.apart (n.all ∙ ap (λ (f : FieldDef). c.loop-alloc.fields ++ f ∷ n.more) (sym is.0))))

pub loop-alloc-preserved : goal.loop-alloc-preserved
loop-alloc-preserved c =
    let h : begins 70 c.loop-alloc.rest.now ≡ true = sym c.begins.ensures ∙ c.loop-alloc-test.true in
    subst (λ (fs : List FieldDef). FieldsSoFar c.args.text.now fs c.in_ok-field.after.now) (sym c.in_ok-add.ensures.added)
    (field_read c.args.text.now c.loop-alloc.fields c.loop-alloc.rest.now c.loop-alloc.invariant h c.in_ok-field.field c.in_ok-field.after.now c.in_ok-field.ensures.sound c.in_ok-add.ensures.free (omega arith) c.in_ok-field.ensures.shorter c.in_ok-field.ensures.field)

pub returns-clause-fields : goal.returns-clause-fields
returns-clause-fields c fs r w b e =
    all_fields c.args.text.now c.loop-alloc.fields c.loop-alloc.rest.now c.loop-alloc.invariant (sym c.begins.ensures ∙ c.loop-alloc-test.false) fs r w b e
