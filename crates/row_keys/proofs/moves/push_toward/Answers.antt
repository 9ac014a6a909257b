use Rattle.std.proofs.Common.{List, length, None, ap, arith}
use Rattle.abl_values.specs.declared.schema.IndexDef.{IndexDef}
use Rattle.row_keys.proofs.Counted.{number_within}
use Rattle.row_keys.proofs.moves.push_toward.Goals as goal

pub push_from-requires : goal.push_from-requires
push_from-requires c =
    let within = number_within c.args.schema.now c.args.table None c.requires.table tt in
    let first = c.first_of_table-first.ensures in
    let defs = ap (λ (xs : List IndexDef). length xs) c.indexes.ensures in
    let count = c.requires.count in
    omega (arith, within, first, defs, count)
