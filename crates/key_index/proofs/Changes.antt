-- What a change of one key's node means for the places and kept keys of an index.
use Rattle.std.proofs.Common.{◌≡◌, ◌≢◌, ℕ, Bool, true, false, cond, List, Option, Some, None, refl, sym, ap, ◌∙◌, nat_cmp}
use Rattle.std.specs.Ordering.{eq_by_cmp}
use Rattle.std.specs.Option.{option_and_then}
use Rattle.std.specs.Cmp.{nat_cmp_total, eq_by_cmp_equiv}
use Rattle.std.specs.FinMap as map
use Rattle.std.proofs.lemmas.Map.Lookups.{exact_unsigned}
use Rattle.std.proofs.lemmas.Map.Views.{tells_apart}
use Rattle.key_index.specs.declared.index.Node.{Node}
use Rattle.key_index.specs.Places.{Rows}
use Rattle.key_index.specs.Index.{Keys, place_at, keeper_of, Forgets, Puts, IsSame}
use Rattle.key_index.specs.Nodes.{IsNodeForgotten}

-- a node with a place put, and its keeper
abbrev pub put_node : Node → ℕ → ℕ → Bool → Option ℕ → Node
put_node node client row unique owner = record { rows = map.insert node.rows row owner; keeper = cond unique (Some client) node.keeper }

insert_here : (rows : Rows) (row : ℕ) (owner : Option ℕ) → map.get (map.insert rows row owner) row ≡ Some owner
insert_here rows row owner = map.get-insert nat_cmp_total rows row owner row ∙ ap (λ b. cond b (Some owner) (map.get rows row)) ((eq_by_cmp_equiv nat_cmp_total).refl row)

insert_other : (rows : Rows) (row : ℕ) (owner : Option ℕ) (q : ℕ) → q ≢ row → map.get (map.insert rows row owner) q ≡ map.get rows q
insert_other rows row owner q differ = map.get-insert nat_cmp_total rows row owner q ∙ pick (eq_by_cmp nat_cmp q row) refl
  where
    pick : (b : Bool) → eq_by_cmp nat_cmp q row ≡ b → cond b (Some owner) (map.get rows q) ≡ map.get rows q
    pick true is = absurd (differ (tells_apart exact_unsigned q row is))
    pick false is = refl

-- the content of a place, by the node of its key
pub at_node : (index : Keys) (key : List ℕ) (row : ℕ) (node : Option Node) → map.get index key ≡ node → place_at index key row ≡ option_and_then (λ n. map.get n.rows row) node
at_node index key row found is = ap (option_and_then (λ (n : Node). map.get n.rows row)) is

pub of_node : (index : Keys) (key : List ℕ) (node : Option Node) → map.get index key ≡ node → keeper_of index key ≡ option_and_then (λ n. n.keeper) node
of_node index key found is = ap (option_and_then (λ (n : Node). n.keeper)) is

-- a place put under a key that was there
pub known_puts : (old new : Keys) (node : Node) (client : ℕ) (key : List ℕ) (row : ℕ) (unique : Bool) (owner : Option ℕ) → map.get old key ≡ Some node
    → map.get new key ≡ Some (put_node node client row unique owner) → ((other : List ℕ) → other ≢ key → map.get new other ≡ map.get old other) → Puts old client key row unique owner new
known_puts old new node client key row unique owner was now others = record {
  place = at_node new key row _ now ∙ insert_here node.rows row owner;
  rows = λ other differ. at_node new key other _ now ∙ insert_other node.rows row owner other differ ∙ sym (at_node old key other _ was);
  places = λ other at differ. at_node new other at _ (others other differ);
  keeper = of_node new key _ now ∙ ap (λ (k : Option ℕ). cond unique (Some client) k) (sym (of_node old key _ was));
  keepers = λ other differ. of_node new other _ (others other differ);
}

-- a place put under a new key
pub fresh_puts : (old new : Keys) (client : ℕ) (key : List ℕ) (row : ℕ) (unique : Bool) (owner : Option ℕ) → map.get old key ≡ None
    → map.get new key ≡ Some (put_node (record { rows = map.empty; keeper = None }) client row unique owner) → ((other : List ℕ) → other ≢ key → map.get new other ≡ map.get old other)
    → Puts old client key row unique owner new
fresh_puts old new client key row unique owner was now others = record {
  place = at_node new key row _ now ∙ insert_here map.empty row owner;
  rows = λ other differ. at_node new key other _ now ∙ insert_other map.empty row owner other differ ∙ map.get-empty nat_cmp other ∙ sym (at_node old key other _ was);
  places = λ other at differ. at_node new other at _ (others other differ);
  keeper = of_node new key _ now ∙ ap (λ (k : Option ℕ). cond unique (Some client) k) (sym (of_node old key _ was));
  keepers = λ other differ. of_node new other _ (others other differ);
}

-- an entry taken out under a key that was there
pub known_forgets : (old new : Keys) (was now : Node) (key : List ℕ) (row : ℕ) (keeper : Option ℕ) → map.get old key ≡ Some was → map.get new key ≡ Some now → IsNodeForgotten row keeper was now
    → ((other : List ℕ) → other ≢ key → map.get new other ≡ map.get old other) → Forgets old key row keeper new
known_forgets old new was now key row keeper before after node others = record {
  place = at_node new key row _ after ∙ node.place;
  rows = λ other differ. at_node new key other _ after ∙ node.rows other differ ∙ sym (at_node old key other _ before);
  places = λ other at differ. at_node new other at _ (others other differ);
  keeper_is = of_node new key _ after ∙ node.keeper_is;
  keepers = λ other differ. of_node new other _ (others other differ);
}

pub same_nodes : (old new : Keys) → ((key : List ℕ) → map.get new key ≡ map.get old key) → IsSame old new
same_nodes old new same = record { places = λ key row. at_node new key row _ (same key); keepers = λ key. of_node new key _ (same key) }

-- the content of a place is in the node of its key
pub has_place : (index : Keys) (key : List ℕ) (row : ℕ) (node : Node) (owner : Option ℕ) → map.get index key ≡ Some node → place_at index key row ≡ Some owner → map.get node.rows row ≡ Some owner
has_place index key row node owner is is_there = sym (at_node index key row _ is) ∙ is_there

pub no_place : (index : Keys) (key : List ℕ) (row : ℕ) (owner : Option ℕ) → map.get index key ≡ None → place_at index key row ≡ Some owner → ⊥
no_place index key row owner is is_there = let none = sym (at_node index key row None is) ∙ is_there in nothing owner none
  where
    nothing : (o : Option ℕ) → None ≡ Some o → ⊥
    nothing o h = cc
