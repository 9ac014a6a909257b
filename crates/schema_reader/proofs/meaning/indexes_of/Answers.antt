use Rattle.std.proofs.Common.{◌≡◌, ◌≤◌, ◌∷◌, [], Bool, List, ℕ, ◌+◌, None, Some, cond, length, map, take, sym, ap, subst, ◌∙◌, arith, rules}
use Rattle.std.specs.Prelude.{is_some}
use Rattle.schema_lines.specs.declared.item.Attributed.{Attributed}
use Rattle.schema_lines.specs.Attributes.{has, is_primary}
use Rattle.abl_values.specs.declared.schema.IndexDef.{IndexDef}
use Rattle.abl_values.specs.Schema.{number_of_name}
use Rattle.abl_base.specs.declared.limits.TheConstants.{MAX_INDEXES}
use Rattle.schema_reader.specs.Meaning.{index_said, indexes_of}
use Rattle.schema_reader.proofs.KeptItems.{AreListed, index_next, indexes_few, none_listed, one_listed}
use Rattle.schema_reader.proofs.meaning.indexes_of.Goals as goal
use Rattle.schema_reader.proofs.meaning.indexes_of.Goals.{in-Some+in_ok-add, in_default}

pub overflow_cast-number : goal.overflow_cast-number
overflow_cast-number c =
    let few : length c.loop-item.indexes ≤ MAX_INDEXES =
    subst (λ (is : List IndexDef). length is ≤ MAX_INDEXES) (sym c.loop-item.invariant.indexes_are) (indexes_few c.args.items.now c.loop-item.item-index c.requires.clean c.args.fields.now c.args.t.now) in
    omega arith

pub add-requires-clause-short : goal.add-requires-clause-short
add-requires-clause-short c =
    let said : c.in-Some.index ∷ [] ≡ map (λ l. l.index) (index_said c.args.fields.now c.args.t.now c.item-item.result.attributes c.item-item.result.head) = search (rules, c.in_ok-index.ensures) in
    (index_next c.args.items.now c.loop-item.item-index c.requires.clean c.item-item.result (omega arith) c.item-item.is c.args.fields.now c.args.t.now c.in-Some.index said).0

pub add-requires-clause-free : goal.add-requires-clause-free
add-requires-clause-free c =
    let said : c.in-Some.index ∷ [] ≡ map (λ l. l.index) (index_said c.args.fields.now c.args.t.now c.item-item.result.attributes c.item-item.result.head) = search (rules, c.in_ok-index.ensures) in
    ap (λ (is : List IndexDef). number_of_name 0 (map (λ i. i.name) is) c.in-Some.index.name) c.loop-item.invariant.indexes_are
    ∙ (index_next c.args.items.now c.loop-item.item-index c.requires.clean c.item-item.result (omega arith) c.item-item.is c.args.fields.now c.args.t.now c.in-Some.index said).1

pub loop-item-preserved : goal.loop-item-preserved
loop-item-preserved c =
    let item = c.item-item.result in
    elim c.match-branch-2.branch [
      | in-Some+in_ok-add w ↦
          (let said : w.in-Some.index ∷ [] ≡ map (λ l. l.index) (index_said c.args.fields.now c.args.t.now item.attributes item.head) = search (rules, c.in_ok-index.ensures) in
          let found : c.match-branch-2.with_primary ≡ cond (is_some c.loop-item.with_primary) c.loop-item.with_primary (cond (has is_primary item.attributes) (Some (length c.loop-item.indexes)) None) =
          w.with_primary-is ∙ w.first_number-with_primary.ensures
          ∙ ap (λ (b : Bool). cond (is_some c.loop-item.with_primary) c.loop-item.with_primary (cond b (Some w.len-number.result) None))
          (w.is_primary-primary.ensures ∙ ap (λ (lines : List Attributed). has is_primary lines) w.as_slice.ensures)
          ∙ ap (λ (n : ℕ). cond (is_some c.loop-item.with_primary) c.loop-item.with_primary (cond (has is_primary item.attributes) (Some n) None)) w.len-number.ensures in
          subst (λ (is : List IndexDef). AreListed (indexes_of (take (c.loop-item.item-index + 1) c.args.items.now) c.args.fields.now c.args.t.now) is c.match-branch-2.with_primary) (sym (w.indexes-is ∙ w.in_ok-add.ensures))
          (one_listed c.args.items.now c.loop-item.item-index item (omega arith) c.item-item.is c.args.fields.now c.args.t.now c.loop-item.indexes c.loop-item.with_primary c.loop-item.invariant w.in-Some.index c.match-branch-2.with_primary said found))
      | in_default w ↦
          (let said : [] ≡ map (λ l. l.index) (index_said c.args.fields.now c.args.t.now item.attributes item.head) = search (rules, c.in_ok-index.ensures) in
          let same : AreListed (indexes_of (take (c.loop-item.item-index + 1) c.args.items.now) c.args.fields.now c.args.t.now) c.loop-item.indexes c.loop-item.with_primary =
          none_listed c.args.items.now c.loop-item.item-index item (omega arith) c.item-item.is c.args.fields.now c.args.t.now c.loop-item.indexes c.loop-item.with_primary c.loop-item.invariant said in
          rw (w.indexes-is, w.with_primary-is) same)
    ]
