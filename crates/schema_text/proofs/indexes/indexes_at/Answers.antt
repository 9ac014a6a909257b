use Rattle.std.proofs.lemmas.Result.{err_from_is_err_and}
use Rattle.std.proofs.Common.{◌≡◌, ◌^◌, ◌∷◌, None, ◌++◌, List, length, true, sym, ap, subst, ◌∙◌, arith, rules}
use Rattle.abl_values.specs.declared.schema.IndexDef.{IndexDef}
use Rattle.abl_values.specs.Schema.{is_number}
use Rattle.schema_text.specs.Words.{begins}
use Rattle.schema_text.proofs.IndexesSoFar.{IndexesSoFar, all_indexes, index_read, is_small, no_indexes, one_more_index}
use Rattle.schema_text.proofs.Names.{next_free, short_name}
use Rattle.schema_text.proofs.indexes.indexes_at.Goals as goal

pub loop-alloc-init : goal.loop-alloc-init
loop-alloc-init c = subst (λ (is : List IndexDef). IndexesSoFar c.args.fields.now c.args.text.now is None c.args.text.now) (sym c.empty-indexes.ensures) (no_indexes c.args.fields.now c.args.text.now)

pub returns-in_err-read-clause-indexes : goal.returns-in_err-read-clause-indexes
returns-in_err-read-clause-indexes c is p r w b e =
    let h : begins 73 c.loop-alloc.rest.now ≡ true = sym c.begins.ensures ∙ c.loop-alloc-test.true in
    let n = one_more_index c.args.fields.now c.args.text.now c.loop-alloc.indexes c.loop-alloc.primary c.loop-alloc.rest.now c.loop-alloc.invariant h is p r w b e in
    let err = err_from_is_err_and c.from_residual.result c.from_residual.ensures.1 in
    rw (err.1, err.2) (c.in_err-read.ensures.index n.item (is_number p (length c.loop-alloc.indexes)) _ n.is n.text)

pub returns-in_err-primary-clause-indexes : goal.returns-in_err-primary-clause-indexes
returns-in_err-primary-clause-indexes c is p r w b e =
    let h : begins 73 c.loop-alloc.rest.now ≡ true = sym c.begins.ensures ∙ c.loop-alloc-test.true in
    let n = one_more_index c.args.fields.now c.args.text.now c.loop-alloc.indexes c.loop-alloc.primary c.loop-alloc.rest.now c.loop-alloc.invariant h is p r w b e in
    let same = c.in_ok-read.ensures.index n.item (is_number p (length c.loop-alloc.indexes)) _ n.is n.text in
    let low = is_small p (length c.loop-alloc.indexes) (2 ^ 16) (sym same.1 ∙ c.in_err-primary.ensures.number.0) w.small in
    absurd (omega (arith, low, c.in_err-primary.ensures.number.1, c.len.ensures))

pub returns-in_err-add-clause-indexes : goal.returns-in_err-add-clause-indexes
returns-in_err-add-clause-indexes c is p r w b e =
    let h : begins 73 c.loop-alloc.rest.now ≡ true = sym c.begins.ensures ∙ c.loop-alloc-test.true in
    let n = one_more_index c.args.fields.now c.args.text.now c.loop-alloc.indexes c.loop-alloc.primary c.loop-alloc.rest.now c.loop-alloc.invariant h is p r w b e in
    let same = c.in_ok-read.ensures.index n.item (is_number p (length c.loop-alloc.indexes)) _ n.is n.text in
    let err = err_from_is_err_and c.from_residual-in_err-add.result c.from_residual-in_err-add.ensures.1 in
    rw (err.1, err.2) (c.in_err-add.ensures.refused (short_name c.in_ok-read.read.index.name c.in_ok-read.ensures.sound.name)
    (next_free (λ i. i.name) is c.loop-alloc.indexes c.in_ok-read.read.index n.more w.apart (n.all ∙ ap (λ (i : IndexDef). c.loop-alloc.indexes ++ i ∷ n.more) (sym same.0))))

pub loop-alloc-preserved : goal.loop-alloc-preserved
loop-alloc-preserved c =
    let h : begins 73 c.loop-alloc.rest.now ≡ true = sym c.begins.ensures ∙ c.loop-alloc-test.true in
    subst (λ (is : List IndexDef). IndexesSoFar c.args.fields.now c.args.text.now is c.in_ok-primary.primary c.in_ok-read.read.rest.now) (sym c.in_ok-add.ensures.added)
    (index_read c.args.fields.now c.args.text.now c.loop-alloc.indexes c.loop-alloc.primary c.loop-alloc.rest.now c.loop-alloc.invariant h c.in_ok-read.read.index c.in_ok-read.read.primary c.in_ok-primary.primary c.in_ok-read.read.rest.now c.in_ok-read.ensures.sound c.in_ok-add.ensures.free c.in_ok-read.ensures.shorter (search rules) c.in_ok-primary.ensures.small c.in_ok-read.ensures.index)

pub returns-clause-indexes : goal.returns-clause-indexes
returns-clause-indexes c is p r w b e =
    all_indexes c.args.fields.now c.args.text.now c.loop-alloc.indexes c.loop-alloc.primary c.loop-alloc.rest.now c.loop-alloc.invariant (sym c.begins.ensures ∙ c.loop-alloc-test.false) is p r w b e
