use Rattle.std.proofs.Common.{◌↔◌, IsSome, sym, ap, ◌∙◌}
use Rattle.std.specs.Option.{option_map}
use Rattle.key_index.specs.declared.left.Seat.{Seat}
use Rattle.key_index.specs.Left.{owner_at}
use Rattle.key_index.specs.Places.{IsLeft}
use Rattle.key_index.proofs.LeftRows.{is_left-owner}
use Rattle.key_index.proofs.left.is_left.Goals as goal

pub returns-in-Some : goal.returns-in-Some
returns-in-Some c =
    let place = owner_at c.args.seats.now c.args.row in
    let owned : IsSome c.in-Some.seat.now.owner ↔ IsLeft place =
    is_left-owner c.in-Some.seat.now.owner place (ap (option_map (λ (s : Seat). s.owner)) (sym c.in-Some.ensures.value)) in
    (λ yes. owned.0 (sym c.is_some.ensures ∙ yes), λ was_left. c.is_some.ensures ∙ owned.1 was_left)
