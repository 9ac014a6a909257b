-- What a search through nodes in order has found.
use Rattle.std.specs.Prelude.{◌≡◌, ℕ, ◌≤◌, List, [], ◌∷◌, ◌++◌, Vec}
use Rattle.key_index.specs.declared.index.Node.{Node}
use Rattle.key_index.specs.Places.{HasEntry}
use Rattle.key_index.specs.Search.{BeginsWith}

-- nodes under their keys, in an order
abbrev pub NodeList : Type 0 → Type 0
NodeList Z = List (Vec ℕ Z × Node)

-- the node has no entry, or its key does not begin with the prefix
abbrev pub IsPassed : List ℕ → List ℕ → Node → Type 0
IsPassed prefix key node = BeginsWith key prefix → (row : ℕ) → ¬ HasEntry node.rows row

-- none of the nodes has an entry under a key with the prefix
abbrev pub ArePassed : {Z : Type 0} → List ℕ → NodeList Z → Type 0
ArePassed prefix [] = Unit {0}
ArePassed prefix (e ∷ es) = IsPassed prefix e.0.items e.1 × ArePassed prefix es

-- the first node with an entry under a key with the prefix, and its least entry
pub record IsFirst {Z : Type 0} (prefix : List ℕ) (nodes : NodeList Z) (key : Vec ℕ Z) (row : ℕ) : Type 0 where
  pub before : NodeList Z
  pub node : Node
  pub after : NodeList Z
  pub split : nodes ≡ before ++ (key, node) ∷ after
  pub passed : ArePassed prefix before
  pub begins : BeginsWith key.items prefix
  pub entry : HasEntry node.rows row
  pub least : (q : ℕ) → HasEntry node.rows q → row ≤ q

-- the last such node, and its greatest entry
pub record IsLast {Z : Type 0} (prefix : List ℕ) (nodes : NodeList Z) (key : Vec ℕ Z) (row : ℕ) : Type 0 where
  pub before : NodeList Z
  pub node : Node
  pub after : NodeList Z
  pub split : nodes ≡ before ++ (key, node) ∷ after
  pub passed : ArePassed prefix after
  pub begins : BeginsWith key.items prefix
  pub entry : HasEntry node.rows row
  pub greatest : (q : ℕ) → HasEntry node.rows q → q ≤ row
