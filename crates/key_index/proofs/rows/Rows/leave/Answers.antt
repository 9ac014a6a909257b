use Rattle.std.proofs.Common.{ℕ, List, inl, inr, Option, refl, sym, ap, subst, ◌∙◌}
use Rattle.std.specs.Option.{is_some}
use Rattle.std.specs.FinMap as map
use Rattle.key_index.specs.declared.left.Seat.{Seat}
use Rattle.key_index.specs.Left.{Lists}
use Rattle.key_index.proofs.Owners.{no_seat, put_listed, put_owner}
use Rattle.key_index.proofs.rows.Rows.leave.Goals as goal

pub returns-in_default : goal.returns-in_default
returns-in_default c = absurd (no_seat c.self.inside.seats c.args.self.now c.args.row c.self.view_is c.in_default.ensures.value c.requires)

pub invariant_of-self-in_default-leave : goal.invariant_of-self-in_default-leave
invariant_of-self-in_default-leave c =
    let w : Seat = c.leave.new.self in
    let writes = c.get_mut.follows.holds w in
    let there : Lists c.self.inside.left c.args.row = (c.self.invariant c.args.row c.in-Some.seat.now (sym c.in-Some.ensures.value)).used (sym c.leave.ensures.spare ∙ c.in_default-leave.is) in
    put_listed c.self.inside.seats (c.get_mut.follows.lender w) c.args.row w (writes.3 (ap is_some (sym c.in-Some.ensures.value))).0 c.self.inside.left c.self.inside.left c.self.invariant (λ q h. h)
    (record { owned = λ some. there; used = λ none. there })

pub returns-in_default-leave : goal.returns-in_default-leave
returns-in_default-leave c =
    let w : Seat = c.leave.new.self in
    let writes = c.get_mut.follows.holds w in
    put_owner c.self.inside.seats (c.get_mut.follows.lender w) c.args.row w (writes.3 (ap is_some (sym c.in-Some.ensures.value))).0 c.args.self.now c.self.view_is
    ∙ ap (λ (owner : Option ℕ). map.insert c.args.self.now c.args.row owner) c.leave.ensures.owner

pub invariant_of-self-2 : goal.invariant_of-self-2
invariant_of-self-2 c =
    let w : Seat = c.leave.new.self in
    let writes = c.get_mut.follows.holds w in
    let there : Lists c.add.new.self c.args.row = subst (λ (xs : List ℕ). Lists xs c.args.row) (sym c.add.ensures) (inl refl) in
    put_listed c.self.inside.seats (c.get_mut.follows.lender w) c.args.row w (writes.3 (ap is_some (sym c.in-Some.ensures.value))).0 c.self.inside.left c.add.new.self c.self.invariant
    (λ q h. subst (λ (xs : List ℕ). Lists xs q) (sym c.add.ensures) (inr h)) (record { owned = λ some. there; used = λ none. there })

pub returns : goal.returns
returns c =
    let w : Seat = c.leave.new.self in
    let writes = c.get_mut.follows.holds w in
    put_owner c.self.inside.seats (c.get_mut.follows.lender w) c.args.row w (writes.3 (ap is_some (sym c.in-Some.ensures.value))).0 c.args.self.now c.self.view_is
    ∙ ap (λ (owner : Option ℕ). map.insert c.args.self.now c.args.row owner) c.leave.ensures.owner
