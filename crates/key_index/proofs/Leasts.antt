-- The least row with an entry under a key.
use Rattle.std.proofs.Common.{◌≡◌, ◌≤◌, ℕ, List, Option, Some, None, IfSome, IfNone, sym, ap, ◌∙◌}
use Rattle.std.specs.Option.{option_and_then}
use Rattle.std.specs.FinMap as map
use Rattle.key_index.specs.declared.index.Node.{Node}
use Rattle.key_index.specs.Index.{Keys, IsEntry}
use Rattle.key_index.specs.Places.{HasEntry, IsAbove}

module _ (index : Keys) (key : List ℕ) (node : Node) (is : map.get index key ≡ Some node) where
  entry_of : (row : ℕ) → HasEntry node.rows row → IsEntry index key row
  entry_of row there = ap (option_and_then (λ (n : Node). map.get n.rows row)) is ∙ there

  row_of_entry : (row : ℕ) → IsEntry index key row → HasEntry node.rows row
  row_of_entry row entry = sym (ap (option_and_then (λ (n : Node). map.get n.rows row)) is) ∙ entry

  pub found_entry : (r : Option ℕ) → IfSome r (λ row. HasEntry node.rows row) → IfSome r (λ row. IsEntry index key row)
  found_entry None h = tt
  found_entry (Some row) h = entry_of row h

  pub first_entry : (above r : Option ℕ) → IfSome r (λ row. (q : ℕ) → IsAbove above q → HasEntry node.rows q → row ≤ q) → IfSome r (λ row. (q : ℕ) → IsAbove above q → IsEntry index key q → row ≤ q)
  first_entry above None h = tt
  first_entry above (Some row) h = λ q beyond entry. h q beyond (row_of_entry q entry)

  pub no_entry : (above r : Option ℕ) → IfNone r ((q : ℕ) → IsAbove above q → ¬ HasEntry node.rows q) → IfNone r ((q : ℕ) → IsAbove above q → ¬ IsEntry index key q)
  no_entry above None h = λ q beyond entry. h q beyond (row_of_entry q entry)
  no_entry above (Some row) h = tt
