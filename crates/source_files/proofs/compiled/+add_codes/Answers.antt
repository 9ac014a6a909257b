use Rattle.std.proofs.Common.{◌≡◌, ◌⊎◌, ◌+◌, inl, inr, Err, List, sym, subst}
use Rattle.bound_tree.specs.Bound.{source_of}
use Rattle.std.proofs.lemmas.Result.{err_from_is_err_and}
use Rattle.source_files.specs.declared.files.ClientTexts.{ClientTexts}
use Rattle.run_report.specs.declared.refusal.Refusal.{Refusal}
use Rattle.run_report.specs.declared.refusal.Refusal.TheVariants.{NoMemory}
use Rattle.source_files.specs.Compiled.{OneSourceBreaks, later_source, this_source}
use Rattle.source_files.proofs.Causes.{if_err, of_error}
use Rattle.source_files.proofs.compiled.+add_codes.Goals as goal

pub returns-in_err-code-clause-refused : goal.returns-in_err-code-clause-refused
returns-in_err-code-clause-refused t c =
    let p = err_from_is_err_and c.from_residual.result c.from_residual.ensures.1 in
    let refusal = c.in_err-code.field-0.0 in
    let is : c.from_residual.result ≡ Err refusal = cc (p.1, p.2) in
    of_error (λ (refusal : Refusal). (refusal ≡ NoMemory) ⊎ OneSourceBreaks c.args.schema.now c.args.number c.args.texts.now refusal) is
    (inr (subst (λ (texts : List ClientTexts). OneSourceBreaks c.args.schema.now c.args.number texts refusal) (sym c.in-Some.ensures.cases.0) (this_source c.in_err-code.ensures.refused)))

pub returns-clause-refused : goal.returns-clause-refused
returns-clause-refused t c =
    if_err c.add_codes.result
    (λ (refusal : Refusal). (refusal ≡ NoMemory) ⊎ OneSourceBreaks c.args.schema.now (c.args.number + 1) c.in-Some.rest.now refusal)
    (λ (refusal : Refusal). (refusal ≡ NoMemory) ⊎ OneSourceBreaks c.args.schema.now c.args.number c.args.texts.now refusal)
    (λ refusal h. elim h [
      | inl e ↦ inl e
      | inr one ↦ inr (subst (λ (texts : List ClientTexts). OneSourceBreaks c.args.schema.now c.args.number texts refusal) (sym c.in-Some.ensures.cases.0) (later_source {t = c.in-Some.text.now} (source_of c.in_ok-code.ensures.code.bound) c.in_ok-code.ensures.code.form one))
    ])
    c.add_codes.ensures.refused
