use Rattle.std.proofs.Common.{◌<◌, ℕ, Option, subst}
use Rattle.std.proofs.lemmas.Map.Keys.{ge_from_not_lt}
use Rattle.key_index.specs.Left.{seat_at}
use Rattle.key_index.specs.Places.{IsBelow}
use Rattle.key_index.proofs.Beyond.{less_from_lt}
use Rattle.key_index.proofs.Owners.{some_seat}
use Rattle.key_index.proofs.rows.previous_row.Goals as goal

pub returns-in_ok-row-in-Some-clause-last : goal.returns-in_ok-row-in-Some-clause-last
returns-in_ok-row-in-Some-clause-last c q below some =
    let inside : q < c.in-Some.from = subst (λ (b : Option ℕ). IsBelow b q) c.in-Some.is below in
    ge_from_not_lt c.in_ok-row-in-Some.row.now q
    ((c.range.ensures.in_range tt).4 _ _ c.in_ok-row-in-Some.ensures.steps q (tt, less_from_lt q c.in-Some.from inside) (some_seat (seat_at c.args.seats.now q) some))

pub returns-in_ok-row-in-None-clause-last : goal.returns-in_ok-row-in-None-clause-last
returns-in_ok-row-in-None-clause-last c q below some =
    ge_from_not_lt c.in_ok-row-in-None.row.now q ((c.range-in-None.ensures.in_range tt).4 _ _ c.in_ok-row-in-None.ensures.steps q (tt, tt) (some_seat (seat_at c.args.seats.now q) some))
