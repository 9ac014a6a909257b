use Rattle.std.proofs.Common.{◌≡◌, ◌≢◌, length, arith, rules}
use Rattle.bind_statements.proofs.Alone.{chain_alone, chain_not_alone}
use Rattle.bind_statements.proofs.shown.+name_in.Goals as goal

pub returns-then-is_empty : goal.returns-then-is_empty
returns-then-is_empty t c =
    let none : length c.in-Chain.rest.items ≡ 0 = first_of (search rules, grind arith, omega arith) in
    let same = chain_alone c.args.e.now c.deref.result.now c.in-Chain.first c.in-Chain.rest c.in-Chain.is none c.deref.ensures in
    rw same c.name_in-found.ensures

pub returns-else-is_empty : goal.returns-else-is_empty
returns-else-is_empty t c =
    let more : length c.in-Chain.rest.items ≢ 0 = first_of (search rules, grind arith, omega arith) in
    chain_not_alone c.args.e.now c.in-Chain.first c.in-Chain.rest c.in-Chain.is more
