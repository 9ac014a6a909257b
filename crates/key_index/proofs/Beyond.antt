-- How far a search has still to go, and what its end says of the rows seen as a finite map.
use Rattle.std.proofs.Common.{◌≡◌, ◌<◌, ℕ, ◌-◌, Option, Some, None, IfSome, IfNone, nat_cmp, sym, ◌∙◌, arith}
use Rattle.std.specs.declared.cmp.Ordering.TheVariants.{Less}
use Rattle.std.specs.BTreeMap.{BTreeMap}
use Rattle.std.specs.FinMap as map
use Rattle.std.proofs.lemmas.Grind.{common_steps}
use Rattle.key_index.specs.declared.left.Seat.{Seat}
use Rattle.key_index.specs.Left.{owner_at, owners_of}
use Rattle.key_index.specs.Places.{HasEntry, Rows}
use Rattle.key_index.proofs.Owners.{get_owner}

-- the rows above a given one, at most
abbrev pub rows_above : Option ℕ → ℕ
rows_above None = 4294967297
rows_above (Some row) = 4294967296 - row

-- the rows below a given one, at most
abbrev pub rows_below : Option ℕ → ℕ
rows_below None = 4294967297
rows_below (Some row) = row

pub less_from_lt : (a b : ℕ) → a < b → nat_cmp a b ≡ Less
less_from_lt a b lt = grind (arith, common_steps)

module _ (seats : BTreeMap ℕ Seat) (m : Rows) (is : map.from_entries (owners_of seats.entries) ≡ m) where
  same_at : (q : ℕ) → map.get m q ≡ owner_at seats q
  same_at = get_owner seats m is

  pub found_same : (r : Option ℕ) → IfSome r (λ row. owner_at seats row ≡ Some None) → IfSome r (λ row. HasEntry m row)
  found_same None h = tt
  found_same (Some row) h = same_at row ∙ h

  pub first_same : (Beyond : ℕ → Type 0) (Order : ℕ → ℕ → Type 0) (r : Option ℕ) → IfSome r (λ row. (q : ℕ) → Beyond q → owner_at seats q ≡ Some None → Order row q)
      → IfSome r (λ row. (q : ℕ) → Beyond q → HasEntry m q → Order row q)
  first_same Beyond Order None h = tt
  first_same Beyond Order (Some row) h = λ q beyond has. h q beyond (sym (same_at q) ∙ has)

  pub none_same : (Beyond : ℕ → Type 0) (r : Option ℕ) → IfNone r ((q : ℕ) → Beyond q → ¬ (owner_at seats q ≡ Some None)) → IfNone r ((q : ℕ) → Beyond q → ¬ HasEntry m q)
  none_same Beyond None h = λ q beyond has. h q beyond (sym (same_at q) ∙ has)
  none_same Beyond (Some row) h = tt
