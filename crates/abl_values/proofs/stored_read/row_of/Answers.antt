use Rattle.std.proofs.Common.{ℕ, ◌+◌, List, drop, Some, sym, ◌∙◌, ap, rules}
use Rattle.abl_base.specs.declared.value.Value.{Value}
use Rattle.abl_values.proofs.RowReads.{left_in, left_in-read, left_in-none, left_in-end, left_in-more, with_before}
use Rattle.abl_values.proofs.stored_read.row_of.Goals as goal

pub returns-in-None : goal.returns-in-None
returns-in-None c =
    sym (c.loop-field.invariant ∙ left_in-none c.args.fields.now c.loop-field.field-index c.field-item.result c.loop-field.rest.now c.loop-field.values.items c.loop-field-test.true c.field-item.is (rw c.in-None.is at c.in_ok-read_field.ensures))

pub loop-field-preserved : goal.loop-field-preserved
loop-field-preserved c =
    let fields = c.args.fields.now in
    let i = c.loop-field.field-index in
    let rest = c.loop-field.rest.now in
    let read = c.in-Some.read in
    let values = c.loop-field.values.items in
    c.loop-field.invariant
    ∙ left_in-read fields i c.field-item.result rest (drop read.used rest) read.value values c.loop-field-test.true c.field-item.is (rw c.in-Some.is at c.in_ok-read_field.ensures).0
    ∙ ap (λ (xs : List Value). with_before xs (left_in fields (i + 1) (drop read.used rest))) (sym c.in_ok-push-in-Some.ensures.items)
    ∙ ap (λ (xs : List ℕ). with_before c.push.new.self.items (left_in fields (i + 1) xs)) (sym c.bytes_from-rest.ensures)

pub returns-then-is_empty : goal.returns-then-is_empty
returns-then-is_empty c =
    sym (c.loop-field.invariant ∙ left_in-end c.args.fields.now c.loop-field.field-index c.loop-field.rest.now c.loop-field.values.items c.loop-field-test.false (search rules) ∙ ap (λ xs. Some xs) (sym c.from_vec.ensures))

pub returns-else-is_empty : goal.returns-else-is_empty
returns-else-is_empty c =
    sym (c.loop-field.invariant ∙ left_in-more c.args.fields.now c.loop-field.field-index c.loop-field.rest.now c.loop-field.values.items c.loop-field-test.false (search rules))
