use Rattle.std.proofs.Common.{◌≡◌, List, map, sym, ap, subst, ◌∙◌}
use Rattle.std.specs.Prelude.{IfOk}
use Rattle.abl_values.specs.declared.schema.FieldDef.{FieldDef}
use Rattle.abl_values.specs.Schema.{field_names}
use Rattle.schema_reader.specs.InOrder.{AreApart, AreShort, field_of}
use Rattle.schema_reader.specs.Meaning.{by_order, fields_of}
use Rattle.schema_reader.proofs.SizesFound.{field_in}
use Rattle.schema_reader.proofs.Placing.{map-field_of}
use Rattle.schema_reader.proofs.KeptItems.{fields_apart, fields_short}
use Rattle.schema_reader.proofs.meaning.fields_of.Goals as goal

pub named-requires-clause-short : goal.named-requires-clause-short
named-requires-clause-short c =
    let e : map field_of c.in_ok-ordered.field-0.items ≡ fields_of c.args.items.now c.args.table.now =
    map-field_of c.in_ok-ordered.field-0.items ∙ ap (map field_in) (c.in_ok-ordered.ensures ∙ ap by_order c.in_ok-text.ensures) in
    subst (λ (fs : List FieldDef). AreShort (field_names fs)) (sym e) (fields_short c.args.items.now c.args.table.now c.requires)

pub named-requires-clause-apart : goal.named-requires-clause-apart
named-requires-clause-apart c =
    let e : map field_of c.in_ok-ordered.field-0.items ≡ fields_of c.args.items.now c.args.table.now =
    map-field_of c.in_ok-ordered.field-0.items ∙ ap (map field_in) (c.in_ok-ordered.ensures ∙ ap by_order c.in_ok-text.ensures) in
    subst (λ (fs : List FieldDef). AreApart (field_names fs)) (sym e) (fields_apart c.args.items.now c.args.table.now c.requires)

pub returns : goal.returns
returns c =
    let e : map field_of c.in_ok-ordered.field-0.items ≡ fields_of c.args.items.now c.args.table.now =
    map-field_of c.in_ok-ordered.field-0.items ∙ ap (map field_in) (c.in_ok-ordered.ensures ∙ ap by_order c.in_ok-text.ensures) in
    subst (λ (fs : List FieldDef). IfOk c.named.result (λ list. list ≡ fs)) e c.named.ensures
