use Rattle.std.proofs.Common.{◌≡◌, true, false, refl, sym, ◌∙◌, below_more, arith}
use Rattle.std.specs.Prelude.{IsTrue}
use Rattle.database_meaning.specs.declared.state.Key.{Key}
use Rattle.row_indexes.specs.Places.{keepers_of}
use Rattle.row_keys.specs.Reserved.{reserved_at}
use Rattle.row_keys.proofs.Reserving.{reserves_none}
use Rattle.row_keys.proofs.reserved.has_reserved.Goals as goal

pub returns-then-keeps_in_table : goal.returns-then-keeps_in_table
returns-then-keeps_in_table c = let k = c.keeps_in_table.ensures.0 c.if-keeps_in_table.true in (λ _. (k.0, k.2), λ _. refl)

pub loop-table-preserved : goal.loop-table-preserved
loop-table-preserved c =
    let none : ((k : Key) × (k.table ≡ c.loop-table.table) × IsTrue (reserved_at c.args.schema.now (keepers_of c.args.indexes.now) c.args.client k)) → ⊥ =
    λ h. (let t : c.keeps_in_table.result ≡ true = c.keeps_in_table.ensures.1 h in
    let clash : true ≡ false = sym t ∙ c.if-keeps_in_table.false in cc) in
    below_more _ _ c.loop-table.invariant none

pub returns : goal.returns
returns c =
    let ge = c.loop-table-test.false in
    let end = c.tables-table-end.ensures in
    (λ t. (let clash : false ≡ true = t in cc), λ h. absurd (reserves_none c.args.schema.now c.args.indexes.now c.args.client (λ t lt. c.loop-table.invariant t (omega (arith, ge, end, lt))) h))
