use Rattle.std.proofs.Common.{sym, ◌∙◌}
use Rattle.std.proofs.lemmas.Bool.{true_from_ne_false}
use Rattle.key_index.specs.Left.{owner_at}
use Rattle.key_index.specs.Places.{IsLeft}
use Rattle.key_index.proofs.LeftRows.{left_listed}
use Rattle.key_index.proofs.Owners.{get_owner}
use Rattle.key_index.proofs.rows.Rows.has_left.Goals as goal

pub returns : goal.returns
returns c = (
  λ yes. let left = c.any_left.ensures.found yes in (left.0, (left.1.0, get_owner c.self.inside.seats c.args.self.now c.self.view_is left.0 ∙ left.1.1)),
  λ has. true_from_ne_false c.any_left.result (λ none.
      let here : IsLeft (owner_at c.self.inside.seats has.0) = (has.1.0, sym (get_owner c.self.inside.seats c.args.self.now c.self.view_is has.0) ∙ has.1.1) in
      c.any_left.ensures.none none has.0 (left_listed c.self.inside.seats c.self.inside.left has.0 c.self.invariant here) here),
)
