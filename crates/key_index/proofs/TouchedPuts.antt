-- The list of the keys that were touched, where a place is put.
use Rattle.std.proofs.Common.{◌≡◌, ◌≢◌, ◌⊎◌, inl, inr, ℕ, Bool, true, false, cond, List, ◌∷◌, Option, Some, None, IsSome, IfSome, MatchOption, Vec, Global, refl, sym, ap, subst, ◌∙◌, nat_cmp}
use Rattle.std.specs.Option.{is_some}
use Rattle.std.specs.Ordering.{eq_by_cmp}
use Rattle.std.specs.Cmp.{nat_cmp_total}
use Rattle.std.specs.BTreeMap.{BTreeMap}
use Rattle.std.specs.FinMap as map
use Rattle.key_index.specs.declared.index.Node.{Node}
use Rattle.key_index.specs.declared.touched.Keyed.{Keyed}
use Rattle.key_index.specs.declared.touched.Spare.{Spare}
use Rattle.key_index.specs.Nodes.{IsTouched, no_node, node_entered}
use Rattle.key_index.specs.Places.{Rows}
use Rattle.key_index.specs.Touched.{AreKeysListed, IsKeyListed, ListsKey, keyed_at}
use Rattle.key_index.proofs.TouchedKeys.{same_key_or_other, some_keyed}

no_keeper : (keeper : Option ℕ) → keeper ≡ None → is_some keeper ≡ true → ⊥
no_keeper None is some = cc
no_keeper (Some client) is some = cc

no_spare : (spare : Option Spare) → is_some spare ≡ true → spare ≡ None → ⊥
no_spare None some none = cc
no_spare (Some s) some none = cc

-- an entry is no placeholder
entry_left : (rows : Rows) (row q client : ℕ) → map.get (map.insert rows row None) q ≡ Some (Some client) → map.get rows q ≡ Some (Some client)
entry_left rows row q client is_there = pick (eq_by_cmp nat_cmp q row) (sym (map.get-insert nat_cmp_total rows row None q) ∙ is_there)
  where
    nothing : Some None ≡ Some (Some client) → ⊥
    nothing h = cc

    pick : (b : Bool) → cond b (Some None) (map.get rows q) ≡ Some (Some client) → map.get rows q ≡ Some (Some client)
    pick true h = absurd (nothing h)
    pick false h = h

-- an entry does not touch the key
entered_touched : (was now : Node) (client row : ℕ) → now ≡ node_entered was client row false → IsTouched now → IsTouched was
entered_touched was now client row is (inl some) = inl (subst (λ (n : Node). is_some n.keeper ≡ true) is some)
entered_touched was now client row is (inr has) = inr (has.0, (has.1.0, entry_left was.rows row has.0 has.1.0 (sym (ap (λ (n : Node). map.get n.rows has.0) is) ∙ has.1.1)))

module _ {Z : Type 0} where
  -- a key that is put, where the list grows
  pub put_keyed : (old new : BTreeMap (Vec ℕ Z) Keyed) (key : List ℕ) (w : Keyed) (touched more : List (Vec ℕ Z)) → keyed_at new key ≡ Some w → ((other : List ℕ) → other ≢ key → keyed_at new other ≡ keyed_at old other)
      → AreKeysListed old touched → ((other : List ℕ) → ListsKey touched other → ListsKey more other) → IsKeyListed more key w → AreKeysListed new more
  put_keyed old new key w touched more here others listed grows is q keyed there = pick (same_key_or_other q key)
    where
      pick : (q ≡ key) ⊎ (q ≢ key) → IsKeyListed more q keyed
      pick (inl same) =
          subst (IsKeyListed more q) (some_keyed w keyed (sym here ∙ subst (λ (k : List ℕ). keyed_at new k ≡ Some keyed) same there)) (subst (λ (k : List ℕ). IsKeyListed more k w) (sym same) is)
      pick (inr differ) =
          let was = listed q keyed (sym (others q differ) ∙ there) in
          record {
            listed = λ is_touched. grows q (was.listed is_touched);
            used = λ none. grows q (was.used none);
            own = was.own;
          }

-- the list after the key of a spare, if there is one, came in
abbrev pub Comes : Option Spare → List (Vec ℕ Global) → List (Vec ℕ Global) → Type 0
Comes spare touched more = MatchOption spare (more ≡ touched) (λ s. more ≡ s.key ∷ touched)

pub come_grows : (spare : Option Spare) (touched more : List (Vec ℕ Global)) → Comes spare touched more → (key : List ℕ) → ListsKey touched key → ListsKey more key
come_grows None touched more is key h = subst (λ (vs : List (Vec ℕ Global)). ListsKey vs key) (sym is) h
come_grows (Some s) touched more is key h = subst (λ (vs : List (Vec ℕ Global)). ListsKey vs key) (sym is) (inr h)

come_there : (spare : Option Spare) (touched more : List (Vec ℕ Global)) (key : List ℕ) → Comes spare touched more → (spare ≡ None → ListsKey touched key) → IfSome spare (λ s. s.key.items ≡ key) → ListsKey more key
come_there None touched more key is used own = subst (λ (vs : List (Vec ℕ Global)). ListsKey vs key) (sym is) (used refl)
come_there (Some s) touched more key is used own = subst (λ (vs : List (Vec ℕ Global)). ListsKey vs key) (sym is) (inl own)

no_own : (key : List ℕ) (spare : Option Spare) → spare ≡ None → IfSome spare (λ s. s.key.items ≡ key)
no_own key spare none = subst (λ (o : Option Spare). IfSome o (λ s. s.key.items ≡ key)) (sym none) tt

-- a key whose spare came in
pub listed_there : (touched more : List (Vec ℕ Global)) (key : List ℕ) (was w : Keyed) (used : Option Spare) → IsKeyListed touched key was → used ≡ was.spare → w.spare ≡ None → Comes used touched more → IsKeyListed more key w
listed_there touched more key was w used listed is none comes =
    let there : ListsKey more key = come_there was.spare touched more key (subst (λ (o : Option Spare). Comes o touched more) is comes) listed.used listed.own in
    record { listed = λ is_touched. there; used = λ free. there; own = no_own key w.spare none }

-- a key under which an entry was put
pub entered_listed : (touched more : List (Vec ℕ Global)) (key : List ℕ) (was w : Keyed) (used : Option Spare) (client row : ℕ) (unique : Bool) → IsKeyListed touched key was
    → w.node ≡ node_entered was.node client row unique → w.spare ≡ cond unique None was.spare → used ≡ cond unique was.spare None → Comes used touched more → IsKeyListed more key w
entered_listed touched more key was w used client row true listed node spare is comes = listed_there touched more key was w used listed is spare comes
entered_listed touched more key was w used client row false listed node spare is comes =
    let same : more ≡ touched = subst (λ (o : Option Spare). Comes o touched more) is comes in
    let now = λ (h : ListsKey touched key). subst (λ (vs : List (Vec ℕ Global)). ListsKey vs key) (sym same) h in
    record {
      listed = λ is_touched. now (listed.listed (entered_touched was.node w.node client row node is_touched));
      used = λ none. now (listed.used (sym spare ∙ none));
      own = subst (λ (o : Option Spare). IfSome o (λ s. s.key.items ≡ key)) (sym spare) listed.own;
    }

-- a key that is new
pub new_listed : (touched : List (Vec ℕ Global)) (key : List ℕ) (keyed : Keyed) → keyed.node ≡ no_node → IsSome keyed.spare → IfSome keyed.spare (λ s. s.key.items ≡ key) → IsKeyListed touched key keyed
new_listed touched key keyed node some own = record {
  listed = λ is_touched. absurd (untouched is_touched);
  used = λ none. absurd (no_spare keyed.spare some none);
  own = own;
}
  where
    nothing : (client : ℕ) → None ≡ Some (Some client) → ⊥
    nothing client h = cc

    untouched : IsTouched keyed.node → ⊥
    untouched (inl keeps) = no_keeper keyed.node.keeper (ap (λ (n : Node). n.keeper) node) keeps
    untouched (inr has) = nothing has.1.0 (sym (ap (λ (n : Node). map.get n.rows has.0) node ∙ map.get-empty nat_cmp has.0) ∙ has.1.1)
