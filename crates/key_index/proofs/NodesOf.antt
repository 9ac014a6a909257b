-- The nodes of an index, seen without what puts their keys into the list.
use Rattle.std.proofs.Common.{◌≡◌, ℕ, Bool, true, false, cond, List, [], ◌∷◌, ◌++◌, Option, Some, None, Vec, refl, sym, ap, subst, ◌∙◌, nat_cmp, inl}
use Rattle.std.specs.Option.{is_some, option_and_then, option_map}
use Rattle.std.specs.Ordering.{is_eq}
use Rattle.std.specs.Cmp.Lexicographic.{slice_cmp}
use Rattle.std.specs.BTreeMap.{BTreeMap}
use Rattle.std.specs.BTreeMap.Range as range
use Rattle.std.specs.FinMap as map
use Rattle.std.specs.Map.{keys_of}
use Rattle.std.specs.List.Sorted.{IsStrictlySortedBy}
use Rattle.std.specs.declared.ops.Bound.{Bound}
use Rattle.key_index.specs.declared.index.Node.{Node}
use Rattle.key_index.specs.declared.touched.Keyed.{Keyed}
use Rattle.key_index.specs.Index.{Keys, IsEnded, keeper_of, place_at}
use Rattle.key_index.specs.Keyed.{by_bytes}
use Rattle.key_index.specs.Places.{without_keeper, without_left}
use Rattle.key_index.specs.Touched.{AreKeysListed, EndsAt, ListsKey, keeper_in, keyed_at, nodes_of, row_of}
use Rattle.key_index.proofs.KeyedNodes.{node_at, seen}
use Rattle.key_index.proofs.Ranged.{IsSorted, by_items}

abbrev pub node_in : Option Keyed → Option Node
node_in = option_map (λ (k : Keyed). k.node)

row_in_node : (o : Option Keyed) (row : ℕ) → option_and_then (λ (n : Node). map.get n.rows row) (node_in o) ≡ row_of o row
row_in_node None row = refl
row_in_node (Some keyed) row = refl

keeper_in_node : (o : Option Keyed) → option_and_then (λ (n : Node). n.keeper) (node_in o) ≡ keeper_in o
keeper_in_node None = refl
keeper_in_node (Some keyed) = refl

node_pick : (keyed : Keyed) (rest : Option Node) (more : Option Keyed) (b : Bool) → rest ≡ node_in more → cond b (Some keyed.node) rest ≡ node_in (cond b (Some keyed) more)
node_pick keyed rest more true same = refl
node_pick keyed rest more false same = same

module _ {Z : Type 0} where
  pub node_of : (es : List (Vec ℕ Z × Keyed)) (key : List ℕ) → node_at (nodes_of es) key ≡ node_in (node_at es key)
  node_of [] key = refl
  node_of (e ∷ es) key = node_pick e.1 (node_at (nodes_of es) key) (node_at es key) (is_eq (slice_cmp nat_cmp key e.0.items)) (node_of es key)

  -- what the index has under a key
  pub seen_node : (nodes : BTreeMap (Vec ℕ Z) Keyed) (index : Keys) → map.from_entries (by_bytes (nodes_of nodes.entries)) ≡ index → (key : List ℕ) → map.get index key ≡ node_in (keyed_at nodes key)
  seen_node nodes index is key = seen (nodes_of nodes.entries) index is key ∙ node_of nodes.entries key

  pub place_at_is : (nodes : BTreeMap (Vec ℕ Z) Keyed) (index : Keys) → map.from_entries (by_bytes (nodes_of nodes.entries)) ≡ index → (key : List ℕ) (row : ℕ) → place_at index key row ≡ row_of (keyed_at nodes key) row
  place_at_is nodes index is key row = ap (option_and_then (λ (n : Node). map.get n.rows row)) (seen_node nodes index is key) ∙ row_in_node (keyed_at nodes key) row

  pub keeper_is : (nodes : BTreeMap (Vec ℕ Z) Keyed) (index : Keys) → map.from_entries (by_bytes (nodes_of nodes.entries)) ≡ index → (key : List ℕ) → keeper_of index key ≡ keeper_in (keyed_at nodes key)
  keeper_is nodes index is key = ap (option_and_then (λ (n : Node). n.keeper)) (seen_node nodes index is key) ∙ keeper_in_node (keyed_at nodes key)

  pub index_ended : (client : ℕ) (before after : BTreeMap (Vec ℕ Z) Keyed) (old : Keys) → map.from_entries (by_bytes (nodes_of before.entries)) ≡ old → ((key : List ℕ) → EndsAt client (keyed_at before key) (keyed_at after key))
      → IsEnded client old (map.from_entries (by_bytes (nodes_of after.entries)))
  index_ended client before after old is ended = record {
    places = λ key row. place_at_is after _ refl key row ∙ (ended key).rows row ∙ ap (without_left client) (sym (place_at_is before old is key row));
    keepers = λ key. keeper_is after _ refl key ∙ (ended key).keeper ∙ ap (without_keeper client) (sym (keeper_is before old is key));
  }

  -- the keys are the same, and so is what lies between two ends
  keys_same : (es : List (Vec ℕ Z × Keyed)) → keys_of (nodes_of es) ≡ keys_of es
  keys_same [] = refl
  keys_same (e ∷ es) = ap (λ (ks : List (Vec ℕ Z)). e.0 ∷ ks) (keys_same es)

  pub sorted_nodes : (es : List (Vec ℕ Z × Keyed)) → IsStrictlySortedBy by_items (keys_of es) → IsSorted (nodes_of es)
  sorted_nodes es sorted = subst (IsStrictlySortedBy by_items) (sym (keys_same es)) sorted

  filter_pick : (e : Vec ℕ Z × Keyed) (es : List (Vec ℕ Z × Keyed)) (fs : List (Vec ℕ Z × Node)) (b : Bool) → nodes_of es ≡ fs → nodes_of (cond b (e ∷ es) es) ≡ cond b ((e.0, e.1.node) ∷ fs) fs
  filter_pick e es fs true same = ap (λ (ns : List (Vec ℕ Z × Node)). (e.0, e.1.node) ∷ ns) same
  filter_pick e es fs false same = same

  pub between_nodes : (lo hi : Bound (Vec ℕ Z)) (es : List (Vec ℕ Z × Keyed)) → nodes_of (range.entries_between by_items lo hi es) ≡ range.entries_between by_items lo hi (nodes_of es)
  between_nodes lo hi [] = refl
  between_nodes lo hi (e ∷ es) =
      filter_pick e (range.entries_between by_items lo hi es) (range.entries_between by_items lo hi (nodes_of es)) (range.range_contains by_items lo hi e.0) (between_nodes lo hi es)

  pub nodes_append : (es fs : List (Vec ℕ Z × Keyed)) → nodes_of (es ++ fs) ≡ nodes_of es ++ nodes_of fs
  nodes_append [] fs = refl
  nodes_append (e ∷ es) fs = ap (λ (ns : List (Vec ℕ Z × Node)). (e.0, e.1.node) ∷ ns) (nodes_append es fs)

  -- a client keeps only keys of the list
  pub kept_listed : (nodes : BTreeMap (Vec ℕ Z) Keyed) (touched : List (Vec ℕ Z)) (client : ℕ) (key : List ℕ) → AreKeysListed nodes touched → keeper_in (keyed_at nodes key) ≡ Some client → ListsKey touched key
  kept_listed nodes touched client key listed keeps = pick (keyed_at nodes key) refl keeps
    where
      pick : (o : Option Keyed) → keyed_at nodes key ≡ o → keeper_in o ≡ Some client → ListsKey touched key
      pick None is h = absurd (none_kept h)
        where
          none_kept : None ≡ Some client → ⊥
          none_kept e = cc
      pick (Some keyed) is h = (listed key keyed is).listed (inl (ap is_some h))
