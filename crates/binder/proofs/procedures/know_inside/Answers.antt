use Rattle.std.proofs.Common.{◌≡◌, ◌+◌, rules}
use Rattle.binder.proofs.procedures.know_inside.Goals as goal

pub returns : goal.returns
returns c =
    let is_blocks : c.in-Some.blocks ≡ c.args.known.now.blocks + 1 = search (rules, c.in-Some.is, c.checked_add.ensures) in
    cc
