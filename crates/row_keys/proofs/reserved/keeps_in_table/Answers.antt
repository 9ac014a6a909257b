use Rattle.std.proofs.Common.{◌≡◌, ℕ, ◌+◌, ◌<◌, Some, true, false, length, List, refl, sym, ap, ◌∙◌, subst, below_more, rules, arith}
use Rattle.abl_values.specs.declared.schema.IndexDef.{IndexDef}
use Rattle.abl_values.specs.Schema.{indexes_of}
use Rattle.key_index.specs.Index.{Keys, KeepsSome}
use Rattle.row_indexes.specs.Places.{index_at}
use Rattle.row_keys.specs.Numbers.{first_of_table, index_count}
use Rattle.std.proofs.lemmas.Grind.{common_steps}
use Rattle.row_keys.proofs.Counted.{number_within}
use Rattle.row_keys.proofs.Reserving.{keeps_in, keeps_none}
use Rattle.row_keys.proofs.reserved.keeps_in_table.Goals as goal

pub overflow_add-first : goal.overflow_add-first
overflow_add-first c =
    let defs = ap (λ (xs : List IndexDef). length xs) c.indexes-index-end.ensures in
    let lt = c.loop-index-test.true in
    let here : c.loop-index.index < length (indexes_of c.args.schema.now c.args.table) = omega (arith, defs, lt) in
    let within = number_within c.args.schema.now c.args.table (Some c.loop-index.index) c.requires.table here in
    let first = c.first_of_table-first.ensures in
    let bound : index_count c.args.schema.now < 18446744073709551616 = first_of (search rules, grind (arith, common_steps)) in
    omega (arith, within, first, bound)

pub index_at-requires : goal.index_at-requires
index_at-requires c =
    let defs = ap (λ (xs : List IndexDef). length xs) c.indexes-index-end.ensures in
    let lt = c.loop-index-test.true in
    let here : c.loop-index.index < length (indexes_of c.args.schema.now c.args.table) = omega (arith, defs, lt) in
    let within = number_within c.args.schema.now c.args.table (Some c.loop-index.index) c.requires.table here in
    let first = c.first_of_table-first.ensures in
    let count = c.requires.count in
    omega (arith, within, first, count)

pub returns-then-keeps : goal.returns-then-keeps
returns-then-keeps c =
    let defs = ap (λ (xs : List IndexDef). length xs) c.indexes-index-end.ensures in
    let lt = c.loop-index-test.true in
    let here : c.loop-index.index < length (indexes_of c.args.schema.now c.args.table) = omega (arith, defs, lt) in
    let at : c.index_at.result.now ≡ index_at c.args.indexes.now (first_of_table c.args.schema.now c.args.table + c.loop-index.index) =
    c.index_at.ensures ∙ ap (λ (n : ℕ). index_at c.args.indexes.now (n + c.loop-index.index)) c.first_of_table-first.ensures in
    let some = subst (λ (i : Keys). KeepsSome i c.args.client) at (c.keeps.ensures.0 c.if-keeps.true) in
    (λ _. keeps_in c.args.schema.now c.args.indexes.now c.args.client c.args.table c.loop-index.index c.requires.table here some, λ _. refl)

pub loop-index-preserved : goal.loop-index-preserved
loop-index-preserved c =
    let at : c.index_at.result.now ≡ index_at c.args.indexes.now (first_of_table c.args.schema.now c.args.table + c.loop-index.index) =
    c.index_at.ensures ∙ ap (λ (n : ℕ). index_at c.args.indexes.now (n + c.loop-index.index)) c.first_of_table-first.ensures in
    let none : KeepsSome (index_at c.args.indexes.now (first_of_table c.args.schema.now c.args.table + c.loop-index.index)) c.args.client → ⊥ =
    λ h. (let t : c.keeps.result ≡ true = c.keeps.ensures.1 (subst (λ (i : Keys). KeepsSome i c.args.client) (sym at) h) in
    let clash : true ≡ false = sym t ∙ c.if-keeps.false in cc) in
    below_more _ _ c.loop-index.invariant none

pub returns : goal.returns
returns c =
    let defs = ap (λ (xs : List IndexDef). length xs) c.indexes-index-end.ensures in
    let ge = c.loop-index-test.false in
    let none : (j : ℕ) → j < length (indexes_of c.args.schema.now c.args.table) → ¬ KeepsSome (index_at c.args.indexes.now (first_of_table c.args.schema.now c.args.table + j)) c.args.client =
    λ j lt. c.loop-index.invariant j (omega (arith, defs, ge, lt)) in
    (λ t. (let clash : false ≡ true = t in cc), λ h. absurd (keeps_none c.args.schema.now c.args.indexes.now c.args.client c.args.table none h))
