use Rattle.std.proofs.Common.{◌≡◌, ◌↔◌, ℕ, ◌+◌, ◌<◌, List, length, Some, sym, ap, ◌∙◌, subst, rules, arith}
use Rattle.std.specs.Option.{option_copied}
use Rattle.abl_values.specs.declared.schema.IndexDef.{IndexDef}
use Rattle.abl_values.specs.Schema.{indexes_of}
use Rattle.database_meaning.specs.Waiting.{IsAscending, ListsAll, row_in}
use Rattle.key_index.specs.Index.{Keys}
use Rattle.key_index.specs.Left.{Lists}
use Rattle.row_indexes.specs.Places.{index_at, keepers_of}
use Rattle.row_keys.specs.Numbers.{first_of_table, index_count, number_of}
use Rattle.row_keys.specs.Questions.{IsKeptAgainst, KeepsAgainst}
use Rattle.row_keys.proofs.Ascending.{contains_lists}
use Rattle.std.proofs.lemmas.Grind.{common_steps}
use Rattle.row_keys.proofs.Counted.{number_within}
use Rattle.row_keys.proofs.Others.{def_of}
use Rattle.row_keys.proofs.Reserving.{lists_all, lists_more, lists_none}
use Rattle.row_keys.proofs.reserved.reserved_by.Goals as goal

pub loop-index-init : goal.loop-index-init
loop-index-init c =
    let empty = c.new-holders.ensures.items in
    record {
      up = subst IsAscending (sym empty) tt;
      all = λ d. subst (λ (xs : List ℕ). Lists xs d ↔ ((j : ℕ) × (j < 0) × IsKeptAgainst (index_at c.args.indexes.now (number_of c.args.schema.now c.args.table (Some j))) (def_of c.args.schema.now c.args.table j) c.args.client (option_copied c.args.old) c.args.values.now d))
          (sym empty)
          (lists_none (λ j e. IsKeptAgainst (index_at c.args.indexes.now (number_of c.args.schema.now c.args.table (Some j))) (def_of c.args.schema.now c.args.table j) c.args.client (option_copied c.args.old) c.args.values.now e) d);
    }

pub overflow_add-first : goal.overflow_add-first
overflow_add-first c =
    let defs = ap (λ (xs : List IndexDef). length xs) c.indexes-index-end.ensures in
    let lt = c.loop-index-test.true in
    let here : c.loop-index.index < length (indexes_of c.args.schema.now c.args.table) = omega (arith, defs, lt) in
    let within = number_within c.args.schema.now c.args.table (Some c.loop-index.index) c.requires.table here in
    let first = c.first_of_table-first.ensures in
    let bound : index_count c.args.schema.now < 18446744073709551616 = first_of (search rules, grind (arith, common_steps)) in
    omega (arith, within, first, bound)

pub index_at-at-requires : goal.index_at-at-requires
index_at-at-requires c =
    let defs = ap (λ (xs : List IndexDef). length xs) c.indexes-index-end.ensures in
    let lt = c.loop-index-test.true in
    let here : c.loop-index.index < length (indexes_of c.args.schema.now c.args.table) = omega (arith, defs, lt) in
    let within = number_within c.args.schema.now c.args.table (Some c.loop-index.index) c.requires.table here in
    let first = c.first_of_table-first.ensures in
    let count = c.requires.count in
    omega (arith, within, first, count)

pub loop-index-preserved : goal.loop-index-preserved
loop-index-preserved c =
    let old = option_copied c.args.old in
    let client = c.args.client in
    let values = c.args.values.now in
    let index = c.loop-index.index in
    let at : c.index_at-at.result.now ≡ index_at c.args.indexes.now (first_of_table c.args.schema.now c.args.table + index) =
    c.index_at-at.ensures ∙ ap (λ (n : ℕ). index_at c.args.indexes.now (n + index)) c.first_of_table-first.ensures in
    let one : (d : ℕ) → (c.in_ok-keeper.keeper ≡ Some d) ↔ IsKeptAgainst (index_at c.args.indexes.now (number_of c.args.schema.now c.args.table (Some index))) (def_of c.args.schema.now c.args.table index) client old values d = λ d.
    subst (λ (i : Keys). (c.in_ok-keeper.keeper ≡ Some d) ↔ IsKeptAgainst i (def_of c.args.schema.now c.args.table index) client old values d) at
    (subst (λ (def : IndexDef). (c.in_ok-keeper.keeper ≡ Some d) ↔ IsKeptAgainst c.index_at-at.result.now def client old values d) c.def_at-def.ensures (c.in_ok-keeper.ensures d)) in
    record {
      up = c.in_ok-add_keeper.ensures.ascending;
      all = lists_more (λ j e. IsKeptAgainst (index_at c.args.indexes.now (number_of c.args.schema.now c.args.table (Some j))) (def_of c.args.schema.now c.args.table j) client old values e)
          c.loop-index.holders.items c.add_keeper.new.clients.items index c.in_ok-keeper.keeper c.loop-index.invariant.all one c.in_ok-add_keeper.ensures.lists;
    }

pub returns : goal.returns
returns c = λ stored read.
    let schema = c.args.schema.now in
    let table = c.args.table in
    let old = option_copied c.args.old in
    let holders = c.loop-index.holders.items in
    let defs = ap (λ (xs : List IndexDef). length xs) c.indexes-index-end.ensures in
    let ge = c.loop-index-test.false in
    let le = c.loop-index.auto.index-end in
    let whole : c.loop-index.index ≡ length (indexes_of schema table) = omega (arith, defs, ge, le) in
    let all = subst (λ (n : ℕ). (d : ℕ) → Lists holders d ↔ ((j : ℕ) × (j < n) × IsKeptAgainst (index_at c.args.indexes.now (number_of schema table (Some j))) (def_of schema table j) c.args.client old c.args.values.now d)) whole c.loop-index.invariant.all in
    let listed = lists_all schema c.args.indexes.now c.args.client table old c.args.values.now c.requires.table holders c.loop-index.invariant.up
    (λ d. (λ h. (all d).0 ((contains_lists holders d).0 h), λ h. (contains_lists holders d).1 ((all d).1 h))) stored read in
    subst (λ (xs : List ℕ). ListsAll xs (KeepsAgainst schema (keepers_of c.args.indexes.now) c.args.client stored (row_in table c.args.values.now))) (sym c.from_vec.ensures) listed
