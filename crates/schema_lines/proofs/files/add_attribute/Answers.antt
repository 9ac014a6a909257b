use Rattle.std.proofs.Common.{◌<◌, ◌-◌, ◌≡◌, [], ◌∷◌, length, vec_len, arith}
use Rattle.std.proofs.lemmas.Grind.{common_steps}
use Rattle.schema_lines.proofs.Gathers.{under_last-set}
use Rattle.schema_lines.proofs.files.add_attribute.Goals as goal

pub returns-in_ok-push : goal.returns-in_ok-push
returns-in_ok-push c =
    let some : 0 < length c.args.items.now.items = grind (arith, common_steps) in
    let last : vec_len c.args.items.now - 1 ≡ length c.args.items.now.items - 1 = grind (arith, common_steps) in
    under_last-set (record { line = c.args.number; attribute = c.args.attribute } ∷ []) c.push.new.self c.args.items.now.items c.in-Some.item.now (vec_len c.args.items.now - 1)
    some last c.in-Some.ensures.value c.in_ok-push.ensures.ok
