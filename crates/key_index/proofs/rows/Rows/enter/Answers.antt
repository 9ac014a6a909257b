use Rattle.std.proofs.Common.{cond, None, Some, nat_cmp, refl, sym, ap, ◌≡◌, ◌∙◌}
use Rattle.std.specs.Option.{is_some}
use Rattle.std.specs.BTreeMap.{is_at}
use Rattle.key_index.specs.declared.left.Seat.{Seat}
use Rattle.key_index.specs.Left.{seat_at}
use Rattle.key_index.proofs.Owners.{entry_listed, no_seat, put_listed, put_owner}
use Rattle.key_index.proofs.rows.Rows.enter.Goals as goal

no_room : {X : Type 0} (x : X) → Some x ≡ None → ⊥
no_room x h = cc

pub invariant_of-self : goal.invariant_of-self
invariant_of-self c =
    let w : Seat = record { owner = None; spare = c.in-Some.seat.now.spare } in
    let writes = c.get_mut.follows.holds w in
    put_listed c.self.inside.seats (c.get_mut.follows.lender w) c.args.row w (writes.3 (ap is_some (sym c.in-Some.ensures.value))).0 c.self.inside.left c.self.inside.left c.self.invariant (λ q h. h)
    (entry_listed c.self.inside.left c.args.row w refl (λ none. (c.self.invariant c.args.row c.in-Some.seat.now (sym c.in-Some.ensures.value)).used none))

pub returns-in-Some-clause-ok : goal.returns-in-Some-clause-ok
returns-in-Some-clause-ok c =
    let w : Seat = record { owner = None; spare = c.in-Some.seat.now.spare } in
    let writes = c.get_mut.follows.holds w in
    put_owner c.self.inside.seats (c.get_mut.follows.lender w) c.args.row w (writes.3 (ap is_some (sym c.in-Some.ensures.value))).0 c.args.self.now c.self.view_is

pub returns-in_err-new-clause-known : goal.returns-in_err-new-clause-known
returns-in_err-new-clause-known c some = absurd (no_seat c.self.inside.seats c.args.self.now c.args.row c.self.view_is c.in_default.ensures.value some)

pub returns-in_err-insert-clause-known : goal.returns-in_err-insert-clause-known
returns-in_err-insert-clause-known c some = absurd (no_seat c.self.inside.seats c.args.self.now c.args.row c.self.view_is c.in_default.ensures.value some)

pub invariant_of-self-2 : goal.invariant_of-self-2
invariant_of-self-2 c =
    let w : Seat = record { owner = None; spare = Some c.in_ok-new.field-0 } in
    put_listed c.self.inside.seats c.insert.new.self c.args.row w
    (λ q. c.in_ok-insert.ensures.updates.0 q ∙ ap (λ m. cond (is_at (nat_cmp c.args.row) q) (Some w) (seat_at m q)) c.get_mut.follows.holds-at-none)
    c.self.inside.left c.self.inside.left c.self.invariant (λ q h. h)
    (entry_listed c.self.inside.left c.args.row w refl (λ none. absurd (no_room c.in_ok-new.field-0 none)))

pub returns-clause-ok : goal.returns-clause-ok
returns-clause-ok c =
    let w : Seat = record { owner = None; spare = Some c.in_ok-new.field-0 } in
    put_owner c.self.inside.seats c.insert.new.self c.args.row w
    (λ q. c.in_ok-insert.ensures.updates.0 q ∙ ap (λ m. cond (is_at (nat_cmp c.args.row) q) (Some w) (seat_at m q)) c.get_mut.follows.holds-at-none) c.args.self.now c.self.view_is
