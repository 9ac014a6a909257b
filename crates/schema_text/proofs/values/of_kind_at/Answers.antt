use Rattle.std.proofs.lemmas.Result.{err_from_is_err_and}
use Rattle.std.proofs.Common.{◌∷◌, [], Some, sym, subst, ◌∙◌}
use Rattle.abl_values.specs.Fit.{IsOfKind}
use Rattle.schema_text.proofs.Exported.{value_is_read}
use Rattle.schema_text.proofs.values.of_kind_at.Goals as goal

pub returns-in_err-values-clause-value : goal.returns-in_err-values-clause-value
returns-in_err-values-clause-value c v r h e =
    let b = value_is_read c.args.kind v c.args.text.now r h e in
    let err = err_from_is_err_and c.from_residual.result c.from_residual.ensures.1 in
    rw (err.1, err.2) (c.in_err-values.ensures.values (Some v ∷ []) b.next b.within b.line)

pub returns-in_default-clause-value : goal.returns-in_default-clause-value
returns-in_default-clause-value c v r h e =
    let b = value_is_read c.args.kind v c.args.text.now r h e in
    let read = c.in_ok-values.ensures.values (Some v ∷ []) b.next b.within b.line in
    absurd (c.in_default.ensures v (c.as_slice.ensures ∙ read.0))

pub returns-in_err-fitting-clause-value : goal.returns-in_err-fitting-clause-value
returns-in_err-fitting-clause-value c v r h e =
    let b = value_is_read c.args.kind v c.args.text.now r h e in
    let read = c.in_ok-values.ensures.values (Some v ∷ []) b.next b.within b.line in
    let same = c.in-Some.ensures v (c.as_slice.ensures ∙ read.0) in
    let err = err_from_is_err_and c.from_residual-in_err-fitting.result c.from_residual-in_err-fitting.ensures.1 in
    rw (err.1, err.2) (c.in_err-fitting.ensures.value (subst (IsOfKind c.args.kind) (sym same) h))

pub returns-clause-value : goal.returns-clause-value
returns-clause-value c v r h e =
    let b = value_is_read c.args.kind v c.args.text.now r h e in
    let read = c.in_ok-values.ensures.values (Some v ∷ []) b.next b.within b.line in
    let same = c.in-Some.ensures v (c.as_slice.ensures ∙ read.0) in
    (c.in_ok-fitting.ensures.value (subst (IsOfKind c.args.kind) (sym same) h) ∙ same, read.1 ∙ b.after)
