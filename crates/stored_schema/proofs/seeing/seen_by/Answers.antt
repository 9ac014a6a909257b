use Rattle.std.proofs.Common.{◌≡◌, ◌≤◌, true, ap, length, subst, sym, ◌∙◌, arith}
use Rattle.std.specs.Prelude.{All}
use Rattle.abl_base.specs.declared.limits.TheConstants.{MAX_FIELDS}
use Rattle.abl_values.specs.declared.schema.TableDef.{TableDef}
use Rattle.abl_values.specs.Schema.{SchemaData}
use Rattle.stored_schema.specs.Agreement.{agree}
use Rattle.stored_schema.specs.Stored.{Stored}
use Rattle.stored_schema.proofs.SeenBy.{agreed, as_long, seen_whole}
use Rattle.stored_schema.proofs.SeenLaid.{IsSmall, own-small, seen-laid}
use Rattle.stored_schema.proofs.seeing.seen_by.Goals as goal

pub seen_tables-requires : goal.seen_tables-requires
seen_tables-requires c =
    let agrees : agree c.args.given c.args.own.now.schema ≡ true = agreed c.args.given c.args.own.now.schema c.schema-own_schema.result.now c.agree.result c.agree.ensures c.schema-own_schema.ensures c.if-not-agree.false in
    let tables = c.table_defs-own_tables.ensures ∙ ap (λ (s : SchemaData). s.tables) c.schema-own_schema.ensures in
    let fields : c.as_slice-stored.result.now ≡ c.args.own.now.fields = c.as_slice-stored.ensures ∙ ap (λ (s : Stored). s.fields) c.own.view_is in
    record {
      given = as_long c.args.given c.args.own.now c.table_defs-given_tables.result.now c.as_slice-stored.result.now c.requires agrees c.table_defs-given_tables.ensures fields;
      own = omega (arith, c.requires.as_many, ap length tables, ap length fields);
      few = subst (All (λ (t : TableDef). length t.fields ≤ MAX_FIELDS)) (sym c.table_defs-given_tables.ensures) c.soundness.ensures.limits.1;
      small = subst (All (All IsSmall)) (sym fields) (own-small c.args.own.now c.requires);
    }

pub invariant_of-result : goal.invariant_of-result
invariant_of-result c =
    let agrees : agree c.args.given c.args.own.now.schema ≡ true = agreed c.args.given c.args.own.now.schema c.schema-own_schema.result.now c.agree.result c.agree.ensures c.schema-own_schema.ensures c.if-not-agree.false in
    let tables = c.table_defs-own_tables.ensures ∙ ap (λ (s : SchemaData). s.tables) c.schema-own_schema.ensures in
    let fields : c.as_slice-stored.result.now ≡ c.args.own.now.fields = c.as_slice-stored.ensures ∙ ap (λ (s : Stored). s.fields) c.own.view_is in
    let seen = seen_whole c.args.given c.args.own.now c.table_defs-given_tables.result.now c.table_defs-own_tables.result.now c.as_slice-stored.result.now c.in_ok-fields.fields c.in_ok-text.text
    c.table_defs-given_tables.ensures tables fields agrees c.in_ok-fields.ensures.as_many c.in_ok-fields.ensures.each (c.in_ok-text.ensures ∙ c.text.ensures) in
    seen-laid c.args.given c.args.own.now (record { schema = c.args.given; fields = c.in_ok-fields.fields; text = c.in_ok-text.text }) c.soundness.ensures c.requires seen

pub returns : goal.returns
returns c =
    let agrees : agree c.args.given c.args.own.now.schema ≡ true = agreed c.args.given c.args.own.now.schema c.schema-own_schema.result.now c.agree.result c.agree.ensures c.schema-own_schema.ensures c.if-not-agree.false in
    let tables = c.table_defs-own_tables.ensures ∙ ap (λ (s : SchemaData). s.tables) c.schema-own_schema.ensures in
    let fields : c.as_slice-stored.result.now ≡ c.args.own.now.fields = c.as_slice-stored.ensures ∙ ap (λ (s : Stored). s.fields) c.own.view_is in
    seen_whole c.args.given c.args.own.now c.table_defs-given_tables.result.now c.table_defs-own_tables.result.now c.as_slice-stored.result.now c.in_ok-fields.fields c.in_ok-text.text
    c.table_defs-given_tables.ensures tables fields agrees c.in_ok-fields.ensures.as_many c.in_ok-fields.ensures.each (c.in_ok-text.ensures ∙ c.text.ensures)
