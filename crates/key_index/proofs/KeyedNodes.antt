-- Look-ups by bytes in a map from vectors.
use Rattle.std.proofs.Common.{◌≡◌, ◌≢◌, ℕ, Bool, true, false, cond, List, [], ◌∷◌, Option, Some, is_some, Vec, refl, sym, ap, subst, ◌∙◌, nat_cmp}
use Rattle.std.specs.Ordering.{is_eq}
use Rattle.std.specs.Cmp.{eq_by_cmp_equiv}
use Rattle.std.specs.Cmp.Lexicographic.{slice_cmp, nat_list_cmp_total}
use Rattle.std.specs.declared.cmp.Ordering.{Ordering}
use Rattle.std.specs.declared.cmp.Ordering.TheVariants.{Less, Equal, Greater}
use Rattle.std.specs.Map.{lookup, KeepsOthers}
use Rattle.std.specs.BTreeMap.{BTreeMap, UpdatesBy, WritesThrough}
use Rattle.std.specs.FinMap as map
use Rattle.key_index.specs.Keyed.{by_bytes}

is_equal : (r : Ordering) → is_eq r ≡ true → r ≡ Equal
is_equal Less h = cc
is_equal Equal h = refl
is_equal Greater h = cc

pub same_bytes : (a b : List ℕ) → is_eq (slice_cmp nat_cmp a b) ≡ true → a ≡ b
same_bytes a b h = map.slice_cmp-IsAntisymmetric map.nat_cmp-IsAntisymmetric a b (is_equal (slice_cmp nat_cmp a b) h)

apart_bytes : (a b : List ℕ) → a ≢ b → (r : Bool) → is_eq (slice_cmp nat_cmp a b) ≡ r → r ≡ false
apart_bytes a b differ true is = absurd (differ (same_bytes a b is))
apart_bytes a b differ false is = refl

module _ {V Z : Type 0} where
  -- what the map has under these bytes
  abbrev pub node_at : List (Vec ℕ Z × V) → List ℕ → Option V
  node_at es key = lookup (λ v. is_eq (slice_cmp nat_cmp key v.items)) es

  find_node : (es : List (Vec ℕ Z × V)) (key : List ℕ) → map.find (slice_cmp nat_cmp) key (by_bytes es) ≡ node_at es key
  find_node [] key = refl
  find_node (e ∷ es) key = ap (cond (is_eq (slice_cmp nat_cmp key e.0.items)) (Some e.1)) (find_node es key)

  pub get_node : (es : List (Vec ℕ Z × V)) (key : List ℕ) → map.get (map.from_entries {R = slice_cmp nat_cmp} (by_bytes es)) key ≡ node_at es key
  get_node es key = map.get-from_entries nat_list_cmp_total (by_bytes es) key ∙ find_node es key

  -- a change under one key
  pub node_updated : (m n : BTreeMap (Vec ℕ Z) V) (key : List ℕ) (w : Option V) → UpdatesBy (λ x y. slice_cmp nat_cmp x.items y.items) (λ v. slice_cmp nat_cmp key v.items) m n w
      → (node_at n.entries key ≡ w) × ((other : List ℕ) → other ≢ key → node_at n.entries other ≡ node_at m.entries other)
  unfolding KeepsOthers
  node_updated m n key w updates = (
    updates.1,
    λ other differ. updates.3 (λ v. is_eq (slice_cmp nat_cmp other v.items))
        (λ x y here. ap (λ bytes. is_eq (slice_cmp nat_cmp bytes y.items)) (same_bytes other x.items here))
        (λ k here. apart_bytes other k.items (λ e. differ (e ∙ sym (same_bytes key k.items here))) (is_eq (slice_cmp nat_cmp other k.items)) refl),
  )

  -- a write through what `get_mut` lent
  pub write_node : (m n : BTreeMap (Vec ℕ Z) V) (key : List ℕ) (w : V) → WritesThrough (λ x y. slice_cmp nat_cmp x.items y.items) (λ v. slice_cmp nat_cmp key v.items) m w n
      → is_some (node_at m.entries key) ≡ true → (node_at n.entries key ≡ Some w) × ((other : List ℕ) → other ≢ key → node_at n.entries other ≡ node_at m.entries other)
  write_node m n key w writes some = node_updated m n key (Some w) (writes.3 some)

  -- an index seen through its map
  pub seen : (es : List (Vec ℕ Z × V)) (index : map.FinMap (slice_cmp nat_cmp) V) → map.from_entries (by_bytes es) ≡ index → (key : List ℕ) → map.get index key ≡ node_at es key
  seen es index is key = ap (λ m. map.get m key) (sym is) ∙ get_node es key

-- two functions of bytes that agree at a key and at each other
pub same_everywhere : {V : Type 0} (f g : List ℕ → Option V) (key : List ℕ) → f key ≡ g key → ((other : List ℕ) → other ≢ key → f other ≡ g other) → (k : List ℕ) → f k ≡ g k
same_everywhere f g key here others k = pick (is_eq (slice_cmp nat_cmp k key)) refl
  where
    clash : (b : Bool) → b ≡ true → b ≡ false → ⊥
    clash b t f' = cc

    equal_at : (a b : List ℕ) → a ≡ b → is_eq (slice_cmp nat_cmp a b) ≡ true
    equal_at a b same = subst (λ (c : List ℕ). is_eq (slice_cmp nat_cmp a c) ≡ true) same ((eq_by_cmp_equiv nat_list_cmp_total).refl a)

    pick : (b : Bool) → is_eq (slice_cmp nat_cmp k key) ≡ b → f k ≡ g k
    pick true is = let same = same_bytes k key is in ap f same ∙ here ∙ ap g (sym same)
    pick false is = others k (λ same. clash (is_eq (slice_cmp nat_cmp k key)) (equal_at k key same) is)
