use Rattle.std.proofs.Common.{◌≡◌, ◌≢◌, ◌⊎◌, inl, inr, ℕ, Some, None, refl, sym, ap, subst, ◌∙◌, List}
use Rattle.std.specs.BTreeMap.{BTreeMap}
use Rattle.std.specs.Option.{option_map}
use Rattle.key_index.specs.declared.left.Seat.{Seat}
use Rattle.key_index.specs.Left.{AreListed, IsListed, seat_at}
use Rattle.key_index.proofs.LeftRows.{same_or_other}
use Rattle.key_index.proofs.Owners.{get_owner}
use Rattle.key_index.proofs.rows.Rows.forget.Goals as goal

no_seat_there : (seat : Seat) → None ≡ Some seat → ⊥
no_seat_there seat h = cc

-- the rest is listed as before
rest_listed : (old new : BTreeMap ℕ Seat) (left : List ℕ) (row : ℕ) → AreListed old left → seat_at new row ≡ None → ((q : ℕ) → q ≢ row → seat_at new q ≡ seat_at old q) → AreListed new left
rest_listed old new left row listed gone others q seat is = pick (same_or_other q row)
  where
    pick : (q ≡ row) ⊎ (q ≢ row) → IsListed left q seat
    pick (inl same) = absurd (no_seat_there seat (sym gone ∙ subst (λ (r : ℕ). seat_at new r ≡ Some seat) same is))
    pick (inr differ) = listed q seat (sym (others q differ) ∙ is)

pub invariant_of-self : goal.invariant_of-self
invariant_of-self c = rest_listed c.self.inside.seats c.forget_row.new.seats c.self.inside.left c.args.row c.self.invariant c.forget_row.ensures.gone c.forget_row.ensures.others

pub returns-clause-gone : goal.returns-clause-gone
returns-clause-gone c = get_owner c.forget_row.new.seats _ refl c.args.row ∙ ap (option_map (λ (s : Seat). s.owner)) c.forget_row.ensures.gone

pub returns-clause-others : goal.returns-clause-others
returns-clause-others c q differ =
    get_owner c.forget_row.new.seats _ refl q ∙ ap (option_map (λ (s : Seat). s.owner)) (c.forget_row.ensures.others q differ)
    ∙ sym (get_owner c.self.inside.seats c.args.self.now c.self.view_is q)
