-- A search through nodes in order, from the front or from the back.
use Rattle.std.proofs.Common.{◌≡◌, ℕ, ◌≤◌, List, [], ◌∷◌, ◌++◌, Vec, refl, sym, ap, subst, ◌∙◌, append_assoc}
use Rattle.std.proofs.lemmas.List.{append-nil}
use Rattle.key_index.specs.declared.index.Node.{Node}
use Rattle.key_index.specs.Places.{HasEntry}
use Rattle.key_index.specs.Search.{BeginsWith}
use Rattle.key_index.specs.Seeking.{NodeList, IsPassed, ArePassed, IsFirst, IsLast}

-- the first nodes were passed, these are left
pub record SearchedUp {Z : Type 0} (prefix : List ℕ) (all left : NodeList Z) : Type 0 where
  pub before : NodeList Z
  pub split : all ≡ before ++ left
  pub passed : ArePassed prefix before

-- the nodes at the back were passed, these are left
pub record SearchedDown {Z : Type 0} (prefix : List ℕ) (all left : NodeList Z) : Type 0 where
  pub after : NodeList Z
  pub split : all ≡ left ++ after
  pub passed : ArePassed prefix after

module _ {Z : Type 0} where
  passed_push : (prefix : List ℕ) (es : NodeList Z) (key : Vec ℕ Z) (node : Node) → ArePassed prefix es → IsPassed prefix key.items node → ArePassed prefix (es ++ (key, node) ∷ [])
  passed_push prefix [] key node all one = (one, tt)
  passed_push prefix (e ∷ es) key node all one = (all.0, passed_push prefix es key node all.1 one)

  pub up_start : (prefix : List ℕ) (all : NodeList Z) → SearchedUp prefix all all
  up_start prefix all = record { before = []; split = refl; passed = tt }

  pub up_more : (prefix : List ℕ) (all left rest : NodeList Z) (key : Vec ℕ Z) (node : Node) → SearchedUp prefix all left → left ≡ (key, node) ∷ rest → IsPassed prefix key.items node → SearchedUp prefix all rest
  up_more prefix all left rest key node is step one = record {
    before = is.before ++ (key, node) ∷ [];
    split = is.split ∙ ap (λ (es : NodeList Z). is.before ++ es) step ∙ sym (append_assoc is.before ((key, node) ∷ []) rest);
    passed = passed_push prefix is.before key node is.passed one;
  }

  pub up_found : (prefix : List ℕ) (all left rest : NodeList Z) (key : Vec ℕ Z) (node : Node) (row : ℕ) → SearchedUp prefix all left → left ≡ (key, node) ∷ rest
      → BeginsWith key.items prefix → HasEntry node.rows row → ((q : ℕ) → HasEntry node.rows q → row ≤ q) → IsFirst prefix all key row
  up_found prefix all left rest key node row is step begins entry least = record {
    before = is.before;
    node = node;
    after = rest;
    split = is.split ∙ ap (λ (es : NodeList Z). is.before ++ es) step;
    passed = is.passed;
    begins = begins;
    entry = entry;
    least = least;
  }

  pub up_none : (prefix : List ℕ) (all left : NodeList Z) → SearchedUp prefix all left → left ≡ [] → ArePassed prefix all
  up_none prefix all left is none =
      subst (ArePassed prefix) (sym (is.split ∙ ap (λ (es : NodeList Z). is.before ++ es) none ∙ append-nil is.before)) is.passed

  pub down_start : (prefix : List ℕ) (all : NodeList Z) → SearchedDown prefix all all
  down_start prefix all = record { after = []; split = sym (append-nil all); passed = tt }

  pub down_more : (prefix : List ℕ) (all left rest : NodeList Z) (key : Vec ℕ Z) (node : Node) → SearchedDown prefix all left → left ≡ rest ++ (key, node) ∷ [] → IsPassed prefix key.items node → SearchedDown prefix all rest
  down_more prefix all left rest key node is step one = record {
    after = (key, node) ∷ is.after;
    split = is.split ∙ ap (λ (es : NodeList Z). es ++ is.after) step ∙ append_assoc rest ((key, node) ∷ []) is.after;
    passed = (one, is.passed);
  }

  pub down_found : (prefix : List ℕ) (all left rest : NodeList Z) (key : Vec ℕ Z) (node : Node) (row : ℕ) → SearchedDown prefix all left → left ≡ rest ++ (key, node) ∷ []
      → BeginsWith key.items prefix → HasEntry node.rows row → ((q : ℕ) → HasEntry node.rows q → q ≤ row) → IsLast prefix all key row
  down_found prefix all left rest key node row is step begins entry greatest = record {
    before = rest;
    node = node;
    after = is.after;
    split = is.split ∙ ap (λ (es : NodeList Z). es ++ is.after) step ∙ append_assoc rest ((key, node) ∷ []) is.after;
    passed = is.passed;
    begins = begins;
    entry = entry;
    greatest = greatest;
  }

  pub down_none : (prefix : List ℕ) (all left : NodeList Z) → SearchedDown prefix all left → left ≡ [] → ArePassed prefix all
  down_none prefix all left is none = subst (ArePassed prefix) (sym (is.split ∙ ap (λ (es : NodeList Z). es ++ is.after) none)) is.passed
