use Rattle.std.proofs.Common.{◌≡◌, ◌≤◌, List, ◌∷◌, [], ◌++◌, length, length-append, sym, ap, ◌∙◌, subst, arith}
use Rattle.std.specs.FinMap as map
use Rattle.abl_values.specs.declared.schema.IndexDef.{IndexDef}
use Rattle.key_index.specs.Index.{Keys}
use Rattle.row_keys.specs.Blank.{AreBlank}
use Rattle.row_keys.proofs.Blank.{blank_more, no_keeper, no_place}
use Rattle.row_keys.proofs.Counted.{counted_all, counted_more}
use Rattle.row_keys.proofs.indexes.new_indexes.Goals as goal

pub loop-table-preserved : goal.loop-table-preserved
loop-table-preserved c =
    let items : c.push.new.self.items ≡ c.push_indexes.new.indexes.items ++ map.empty ∷ [] =
    c.in_ok-push.ensures.items ∙ ap (λ (i : Keys). c.push_indexes.new.indexes.items ++ i ∷ []) c.new.ensures in
    let more = length-append c.push_indexes.new.indexes.items (map.empty ∷ []) in
    let longer : length c.push.new.self.items ≡ length (c.push_indexes.new.indexes.items ++ map.empty ∷ []) = ap (λ (xs : List Keys). length xs) items in
    let before = c.loop-table.invariant.count in
    let pushed = c.in_ok-push_indexes.ensures.count in
    let defs = ap (λ (xs : List IndexDef). length xs) c.indexes.ensures in
    let next = counted_more c.args.schema.now.tables c.loop-table.table (let lt = c.loop-table-test.true in let end = c.tables-table-end.ensures in omega (arith, lt, end)) in
    record {
      blank = subst AreBlank (sym items) (blank_more c.push_indexes.new.indexes.items c.in_ok-push_indexes.ensures.blank);
      count = omega (arith, longer, more, before, pushed, defs, next);
    }

pub returns-clause-count : goal.returns-clause-count
returns-clause-count c =
    let past : length c.args.schema.now.tables ≤ c.loop-table.table = (let ge = c.loop-table-test.false in let end = c.tables-table-end.ensures in omega (arith, ge, end)) in
    c.loop-table.invariant.count ∙ counted_all c.args.schema.now.tables c.loop-table.table past

pub returns-clause-places : goal.returns-clause-places
returns-clause-places c = no_place c.loop-table.indexes.items c.loop-table.invariant.blank

pub returns-clause-keepers : goal.returns-clause-keepers
returns-clause-keepers c = no_keeper c.loop-table.indexes.items c.loop-table.invariant.blank
