-- What a search finds under the cursor's own key.
use Rattle.std.proofs.Common.{◌≡◌, ◌<◌, ◌≤◌, ◌⊎◌, inl, inr, ℕ, Bool, true, false, List, Option, Some, None, MatchOption, IfSome, IfNone, refl, sym, subst, ◌∙◌}
use Rattle.std.specs.FinMap as map
use Rattle.database_protocol.specs.declared.row_order.Cursor.{Cursor}
use Rattle.key_index.specs.declared.index.Node.{Node}
use Rattle.key_index.specs.Index.{Keys, IsEntry}
use Rattle.key_index.specs.Search.{BeginsWith, IsKeyBefore, IsBeyondCursor, IsNextAmong, FindsNoneAmong, LiesBeyond}
use Rattle.key_index.specs.Places.{HasEntry, IsAbove, IsBelow}
use Rattle.key_index.proofs.Orders.{not_itself}
use Rattle.key_index.proofs.Ranged.{entry_node, node_entry, same_or_below}

some_node : (a b : Node) → Some a ≡ Some b → a ≡ b
some_node a b h = cc

no_node_there : (a : Node) → None ≡ Some a → ⊥
no_node_there a h = cc

module _ (index : Keys) (cursor : Cursor) (prefix : List ℕ) (node : Node) (is : map.get index cursor.key ≡ Some node) where
  has_row : (key : List ℕ) (row : ℕ) → key ≡ cursor.key → IsEntry index key row → HasEntry node.rows row
  has_row key row same entry =
      let there = entry_node index cursor.key row (subst (λ (k : List ℕ). IsEntry index k row) same entry) in
      subst (λ (n : Node). HasEntry n.rows row) (some_node there.0 node (sym there.1 ∙ is)) there.2

  above_cursor : (key : List ℕ) (row : ℕ) → key ≡ cursor.key → IsBeyondCursor (Some cursor) true key row → cursor.row.0 < row
  above_cursor key row same (inl less) = absurd (not_itself cursor.key (subst (λ (k : List ℕ). IsKeyBefore cursor.key k) same less))
  above_cursor key row same (inr (also, above)) = above

  below_cursor : (key : List ℕ) (row : ℕ) → key ≡ cursor.key → IsBeyondCursor (Some cursor) false key row → row < cursor.row.0
  below_cursor key row same (inl less) = absurd (not_itself cursor.key (subst (λ (k : List ℕ). IsKeyBefore k cursor.key) same less))
  below_cursor key row same (inr (also, below)) = below

  pub beside_above : BeginsWith cursor.key prefix → (r : Option ℕ) → IfSome r (λ row. HasEntry node.rows row) → IfSome r (λ row. IsAbove (Some cursor.row.0) row)
      → IfSome r (λ row. (q : ℕ) → IsAbove (Some cursor.row.0) q → HasEntry node.rows q → row ≤ q) → IfNone r ((q : ℕ) → IsAbove (Some cursor.row.0) q → ¬ HasEntry node.rows q)
      → MatchOption r (FindsNoneAmong (λ key. key ≡ cursor.key) index (Some cursor) prefix true) (λ row. IsNextAmong (λ key. key ≡ cursor.key) index (Some cursor) prefix true cursor.key row)
  beside_above begins None found beyond first none = λ key row same findable. none row (above_cursor key row same findable.beyond) (has_row key row same findable.entry)
  beside_above begins (Some row) found beyond first none = record {
    among = refl;
    findable = record { entry = node_entry index cursor.key row node is found; begins = begins; beyond = inr (refl, beyond) };
    first = λ other at same findable. judge other at same (same_or_below row at (first at (above_cursor other at same findable.beyond) (has_row other at same findable.entry)));
  }
    where
      judge : (other : List ℕ) (at : ℕ) → other ≡ cursor.key → (at ≡ row) ⊎ (row < at) → ((other ≡ cursor.key) × (at ≡ row)) ⊎ LiesBeyond true other at cursor.key row
      judge other at same (inl is_row) = inl (same, is_row)
      judge other at same (inr above) = inr (inr (sym same, above))

  pub beside_below : BeginsWith cursor.key prefix → (r : Option ℕ) → IfSome r (λ row. HasEntry node.rows row) → IfSome r (λ row. IsBelow (Some cursor.row.0) row)
      → IfSome r (λ row. (q : ℕ) → IsBelow (Some cursor.row.0) q → HasEntry node.rows q → q ≤ row) → IfNone r ((q : ℕ) → IsBelow (Some cursor.row.0) q → ¬ HasEntry node.rows q)
      → MatchOption r (FindsNoneAmong (λ key. key ≡ cursor.key) index (Some cursor) prefix false) (λ row. IsNextAmong (λ key. key ≡ cursor.key) index (Some cursor) prefix false cursor.key row)
  beside_below begins None found beyond last none = λ key row same findable. none row (below_cursor key row same findable.beyond) (has_row key row same findable.entry)
  beside_below begins (Some row) found beyond last none = record {
    among = refl;
    findable = record { entry = node_entry index cursor.key row node is found; begins = begins; beyond = inr (refl, beyond) };
    first = λ other at same findable. judge other at same (same_or_below at row (last at (below_cursor other at same findable.beyond) (has_row other at same findable.entry)));
  }
    where
      judge : (other : List ℕ) (at : ℕ) → other ≡ cursor.key → (row ≡ at) ⊎ (at < row) → ((other ≡ cursor.key) × (at ≡ row)) ⊎ LiesBeyond false other at cursor.key row
      judge other at same (inl is_row) = inl (same, sym is_row)
      judge other at same (inr below) = inr (inr (same, below))

-- no node is under the cursor's key
pub beside_nothing : (index : Keys) (cursor : Cursor) (prefix : List ℕ) (forward : Bool) → map.get index cursor.key ≡ None → FindsNoneAmong (λ key. key ≡ cursor.key) index (Some cursor) prefix forward
beside_nothing index cursor prefix forward is key row same findable =
    let there = entry_node index cursor.key row (subst (λ (k : List ℕ). IsEntry index k row) same findable.entry) in
    no_node_there there.0 (sym is ∙ there.1)
