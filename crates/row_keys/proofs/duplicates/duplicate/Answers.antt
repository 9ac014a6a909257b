use Rattle.std.proofs.Common.{◌≡◌, ◌+◌, ◌<◌, ℕ, Some, length, List, sym, ap, ◌∙◌, subst, rules, arith}
use Rattle.abl_base.specs.declared.row.RowId.{RowId}
use Rattle.abl_values.specs.declared.schema.IndexDef.{IndexDef}
use Rattle.abl_values.specs.Schema.{indexes_of}
use Rattle.database_meaning.specs.Waiting.{row_in}
use Rattle.key_index.specs.Index.{Keys}
use Rattle.row_indexes.specs.Places.{index_at}
use Rattle.row_keys.specs.Numbers.{index_count, number_of}
use Rattle.row_keys.specs.Questions.{HasOther, IsLeastDuplicateIn}
use Rattle.row_keys.proofs.Counted.{number_within}
use Rattle.row_keys.proofs.Others.{def_of, least, no_least, none_more}
use Rattle.row_keys.proofs.duplicates.duplicate.Goals as goal

pub def_at-def-requires-clause-index : goal.def_at-def-requires-clause-index
def_at-def-requires-clause-index c =
    let defs = ap (λ (xs : List IndexDef). length xs) c.indexes-index-end.ensures in
    let lt = c.loop-index-test.true in
    omega (arith, defs, lt)

pub overflow_add-first : goal.overflow_add-first
overflow_add-first c =
    let defs = ap (λ (xs : List IndexDef). length xs) c.indexes-index-end.ensures in
    let lt = c.loop-index-test.true in
    let here : c.loop-index.index < length (indexes_of c.args.schema.now c.args.table) = omega (arith, defs, lt) in
    let within = number_within c.args.schema.now c.args.table (Some c.loop-index.index) c.requires.table here in
    let first = c.first_of_table-first.ensures in
    let small : index_count c.args.schema.now < 18446744073709551616 = search rules in
    omega (arith, within, first, small)

pub index_at-requires : goal.index_at-requires
index_at-requires c =
    let defs = ap (λ (xs : List IndexDef). length xs) c.indexes-index-end.ensures in
    let lt = c.loop-index-test.true in
    let here : c.loop-index.index < length (indexes_of c.args.schema.now c.args.table) = omega (arith, defs, lt) in
    let within = number_within c.args.schema.now c.args.table (Some c.loop-index.index) c.requires.table here in
    let first = c.first_of_table-first.ensures in
    let count = c.requires.count in
    omega (arith, within, first, count)

pub returns-in-Some : goal.returns-in-Some
returns-in-Some c =
    let schema = c.args.schema.now in
    let table = c.args.table in
    let k = c.loop-index.index in
    let values = c.args.values.now in
    let defs = ap (λ (xs : List IndexDef). length xs) c.indexes-index-end.ensures in
    let lt = c.loop-index-test.true in
    let there : k < length (indexes_of schema table) = omega (arith, defs, lt) in
    let at : c.index_at.result.now ≡ index_at c.args.indexes.now (number_of schema table (Some k)) =
    c.index_at.ensures ∙ ap (λ (n : ℕ). index_at c.args.indexes.now (n + k)) c.first_of_table-first.ensures in
    let found : HasOther c.index_at.result.now c.def_at-def.result.now c.args.row values c.in-Some.other = rw c.in-Some.is at c.in_ok-other_row.ensures in
    let here : HasOther (index_at c.args.indexes.now (number_of schema table (Some k))) (def_of schema table k) c.args.row values c.in-Some.other =
    subst (λ (i : Keys). HasOther i (def_of schema table k) c.args.row values c.in-Some.other) at
    (subst (λ (d : IndexDef). HasOther c.index_at.result.now d c.args.row values c.in-Some.other) c.def_at-def.ensures found) in
    λ rows entries fitting.
    subst (λ (n : ℕ). IsLeastDuplicateIn schema rows c.args.row (row_in table values) n c.in-Some.other) (sym c.in_ok-numbered-in-Some.ensures)
    (least schema rows c.args.indexes.now table c.args.row values entries fitting c.requires.table c.requires.fits k c.in-Some.other there here c.loop-index.invariant)

pub loop-index-preserved : goal.loop-index-preserved
loop-index-preserved c =
    let schema = c.args.schema.now in
    let table = c.args.table in
    let k = c.loop-index.index in
    let values = c.args.values.now in
    let at : c.index_at.result.now ≡ index_at c.args.indexes.now (number_of schema table (Some k)) =
    c.index_at.ensures ∙ ap (λ (n : ℕ). index_at c.args.indexes.now (n + k)) c.first_of_table-first.ensures in
    let none : (q : RowId) → ¬ HasOther c.index_at.result.now c.def_at-def.result.now c.args.row values q = rw c.in-None.is at c.in_ok-other_row.ensures in
    none_more (λ j q. HasOther (index_at c.args.indexes.now (number_of schema table (Some j))) (def_of schema table j) c.args.row values q) k c.loop-index.invariant
    (λ q h. none q (subst (λ (i : Keys). HasOther i c.def_at-def.result.now c.args.row values q) (sym at) (subst (λ (d : IndexDef). HasOther (index_at c.args.indexes.now (number_of schema table (Some k))) d c.args.row values q) (sym c.def_at-def.ensures) h)))

pub returns : goal.returns
returns c =
    let defs = ap (λ (xs : List IndexDef). length xs) c.indexes-index-end.ensures in
    let ge = c.loop-index-test.false in
    λ rows entries fitting.
    no_least c.args.schema.now rows c.args.indexes.now c.args.table c.args.row c.args.values.now entries fitting c.requires.table c.requires.fits (λ j q lt. c.loop-index.invariant j q (omega (arith, defs, ge, lt)))
