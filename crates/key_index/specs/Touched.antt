-- The nodes of an index under their keys, and the list of the keys that were touched.
use Rattle.std.specs.Prelude.{◌≡◌, ◌⊎◌, ℕ, List, [], ◌∷◌, Vec, Option, Some, None, IfSome}
use Rattle.std.specs.Ordering.{nat_cmp}
use Rattle.std.specs.Option.{option_and_then}
use Rattle.std.specs.Cmp.Lexicographic.{slice_cmp}
use Rattle.std.specs.BTreeMap as tree
use Rattle.std.specs.BTreeMap.{BTreeMap}
use Rattle.std.specs.FinMap as map
use Rattle.key_index.specs.declared.index.Node.{Node}
use Rattle.key_index.specs.declared.touched.Keyed.{Keyed}
use Rattle.key_index.specs.Nodes.{IsTouched}
use Rattle.key_index.specs.Places.{without_keeper, without_left}

-- the content of a row under a key, and the keeper of the key
abbrev pub row_of : Option Keyed → ℕ → Option (Option ℕ)
row_of keyed row = option_and_then (λ (k : Keyed). map.get k.node.rows row) keyed

abbrev pub keeper_in : Option Keyed → Option ℕ
keeper_in keyed = option_and_then (λ (k : Keyed). k.node.keeper) keyed

-- what the end of a client leaves under a key
pub record EndsAt (client : ℕ) (before after : Option Keyed) : Type 0 where
  pub rows : (row : ℕ) → row_of after row ≡ without_left client (row_of before row)
  pub keeper : keeper_in after ≡ without_keeper client (keeper_in before)

module _ {Z : Type 0} where
  -- the value under these bytes
  abbrev pub keyed_at : BTreeMap (Vec ℕ Z) Keyed → List ℕ → Option Keyed
  keyed_at nodes key = tree.get_by (λ v. slice_cmp nat_cmp key v.items) nodes

  abbrev pub keeper_at : BTreeMap (Vec ℕ Z) Keyed → List ℕ → Option ℕ
  keeper_at nodes key = keeper_in (keyed_at nodes key)

  -- the nodes alone
  abbrev pub nodes_of : List (Vec ℕ Z × Keyed) → List (Vec ℕ Z × Node)
  nodes_of [] = []
  nodes_of (e ∷ es) = (e.0, e.1.node) ∷ nodes_of es

  -- the list has a key of these bytes
  abbrev pub ListsKey : List (Vec ℕ Z) → List ℕ → Type 0
  ListsKey [] key = ⊥
  ListsKey (v ∷ vs) key = (v.items ≡ key) ⊎ ListsKey vs key

  -- the list contains the key if its node is touched or its spare is used; an unused spare has the same key
  pub record IsKeyListed (touched : List (Vec ℕ Z)) (key : List ℕ) (keyed : Keyed) : Type 0 where
    pub listed : IsTouched keyed.node → ListsKey touched key
    pub used : keyed.spare ≡ None → ListsKey touched key
    pub own : IfSome keyed.spare (λ spare. spare.key.items ≡ key)

  abbrev pub AreKeysListed : BTreeMap (Vec ℕ Z) Keyed → List (Vec ℕ Z) → Type 0
  AreKeysListed nodes touched = (key : List ℕ) (keyed : Keyed) → keyed_at nodes key ≡ Some keyed → IsKeyListed touched key keyed
