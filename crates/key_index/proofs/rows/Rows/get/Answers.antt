use Rattle.std.proofs.Common.{sym, ap, ◌∙◌}
use Rattle.std.specs.Option.{option_map}
use Rattle.key_index.specs.declared.left.Seat.{Seat}
use Rattle.key_index.proofs.Owners.{get_owner}
use Rattle.key_index.proofs.rows.Rows.get.Goals as goal

pub returns-in_err-seat : goal.returns-in_err-seat
returns-in_err-seat c =
    c.from_residual.ensures ∙ ap (option_map (λ (s : Seat). s.owner)) c.in_err-seat.ensures.value ∙ sym (get_owner c.self.inside.seats c.args.self.now c.self.view_is c.args.row)

pub returns : goal.returns
returns c = ap (option_map (λ (s : Seat). s.owner)) c.in_ok-seat.ensures.value ∙ sym (get_owner c.self.inside.seats c.args.self.now c.self.view_is c.args.row)
