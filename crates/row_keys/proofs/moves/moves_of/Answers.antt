use Rattle.std.proofs.Common.{◌≡◌, ℕ, List, ◌++◌, length, length-append, true, false, sym, ap, ◌∙◌, subst, arith}
use Rattle.std.specs.Option.{option_copied}
use Rattle.row_indexes.specs.declared.moves.Move.{Move}
use Rattle.row_keys.specs.Entries.{stored_in}
use Rattle.row_keys.specs.Moves.{AreMovesOf, EnterFirst}
use Rattle.row_keys.specs.Listed.{moves_toward}
use Rattle.row_keys.proofs.Listing.{changes, enter_first}
use Rattle.row_keys.proofs.UniqueMoves.{are_moves}
use Rattle.row_keys.proofs.moves.moves_of.Goals as goal

pub returns-clause-moves : goal.returns-clause-moves
returns-clause-moves c =
    let old = option_copied c.args.old in
    let new = option_copied c.args.new in
    let a = moves_toward c.args.schema.now c.args.table old new true in
    let b = moves_toward c.args.schema.now c.args.table new old false in
    let e : c.push_toward-2.new.moves.items ≡ changes c.args.schema.now c.args.table old new =
    c.in_ok-push_toward-2.ensures ∙ ap (λ (xs : List Move). xs ++ b) (c.in_ok-push_toward.ensures ∙ ap (λ (xs : List Move). xs ++ a) c.new-moves.ensures.items) in
    subst (AreMovesOf c.args.schema.now (stored_in c.args.table old) (stored_in c.args.table new)) (sym e) (are_moves c.args.schema.now c.args.table old new c.requires.table c.requires.old c.requires.new)

pub returns-clause-order : goal.returns-clause-order
returns-clause-order c =
    let old = option_copied c.args.old in
    let new = option_copied c.args.new in
    let a = moves_toward c.args.schema.now c.args.table old new true in
    let b = moves_toward c.args.schema.now c.args.table new old false in
    let first = c.in_ok-push_toward.ensures ∙ ap (λ (xs : List Move). xs ++ a) c.new-moves.ensures.items in
    let e : c.push_toward-2.new.moves.items ≡ changes c.args.schema.now c.args.table old new = c.in_ok-push_toward-2.ensures ∙ ap (λ (xs : List Move). xs ++ b) first in
    let len = c.len-enters.ensures in
    let ok = c.push_toward.new.moves.ok.0 in
    let n : c.len-enters.result ≡ length c.push_toward.new.moves.items = omega (arith, len, ok) in
    subst (λ (k : ℕ). EnterFirst k c.push_toward-2.new.moves.items) (sym (n ∙ ap (λ (xs : List Move). length xs) first))
    (subst (EnterFirst (length a)) (sym e) (enter_first c.args.schema.now c.args.table old new))

pub returns-clause-enters : goal.returns-clause-enters
returns-clause-enters c =
    let new = option_copied c.args.new in
    let b = moves_toward c.args.schema.now c.args.table new (option_copied c.args.old) false in
    let len = c.len-enters.ensures in
    let ok = c.push_toward.new.moves.ok.0 in
    let both : length c.push_toward-2.new.moves.items ≡ length (c.push_toward.new.moves.items ++ b) = ap (λ (xs : List Move). length xs) c.in_ok-push_toward-2.ensures in
    let parts = length-append c.push_toward.new.moves.items b in
    omega (arith, len, ok, both, parts)
