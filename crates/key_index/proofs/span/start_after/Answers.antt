use Rattle.std.proofs.Common.{ℕ, List, true, Option, Bor, sym, subst}
use Rattle.std.specs.Option.{option_copied}
use Rattle.database_protocol.specs.declared.row_order.Cursor.{Cursor}
use Rattle.key_index.specs.Search.{IsKeyBefore, IsKeyBeyond}
use Rattle.key_index.specs.Span.{IsKeyUpTo}
use Rattle.key_index.proofs.Orders.{before_upto, prefix_upto}
use Rattle.key_index.proofs.span.start_after.Goals as goal

pub returns-in_default-clause-covers : goal.returns-in_default-clause-covers
returns-in_default-clause-covers c key begins far = subst (λ (p : List ℕ). IsKeyUpTo p key) (sym c.in_ok-from_slice.ensures.items) (prefix_upto key c.args.prefix.now begins)

pub returns-then-is_before-clause-covers : goal.returns-then-is_before-clause-covers
returns-then-is_before-clause-covers c key begins far = subst (λ (p : List ℕ). IsKeyUpTo p key) (sym c.in_ok-from_slice-2.ensures.items) (prefix_upto key c.args.prefix.now begins)

pub returns-then-is_before-clause-beyond : goal.returns-then-is_before-clause-beyond
returns-then-is_before-clause-beyond c key upto =
    let less : IsKeyBefore c.in-Some.from.now.key c.args.prefix.now = subst (λ (k : List ℕ). IsKeyBefore k c.args.prefix.now) c.as_slice.ensures (c.is_before.ensures.0 c.if-is_before.true) in
    subst (λ (o : Option (Bor Cursor)). IsKeyBeyond (option_copied o) true key) (sym c.in-Some.is)
    (before_upto c.in-Some.from.now.key c.args.prefix.now key less (subst (λ (p : List ℕ). IsKeyUpTo p key) c.in_ok-from_slice-2.ensures.items upto))
