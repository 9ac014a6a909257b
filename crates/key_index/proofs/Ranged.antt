-- The nodes of a range of an index, and what a search through them finds.
use Rattle.std.proofs.Common.{◌≡◌, ◌<◌, ◌≤◌, ◌⊎◌, inl, inr, ℕ, Bool, true, false, cond, List, [], ◌∷◌, ◌++◌, Option, Some, None, Vec, refl, sym, ap, subst, ◌∙◌, nat_cmp, arith}
use Rattle.std.specs.Option.{option_and_then}
use Rattle.std.specs.Ordering.{is_eq}
use Rattle.std.specs.declared.cmp.Ordering.{Ordering}
use Rattle.std.specs.declared.cmp.Ordering.TheVariants.{Less}
use Rattle.std.specs.declared.ops.Bound.{Bound}
use Rattle.std.specs.declared.ops.Bound.TheVariants.{Included, Excluded, Unbounded}
use Rattle.std.specs.BTreeMap.Range as range
use Rattle.std.specs.Cmp.{IsTotalOrder}
use Rattle.std.specs.Cmp.Lexicographic.{slice_cmp, nat_list_cmp_total}
use Rattle.std.specs.FinMap as map
use Rattle.std.specs.List.{AllByRecursion, filter}
use Rattle.std.specs.List.Sorted.{IsStrictlySortedBy}
use Rattle.std.specs.Map.{keys_of}
use Rattle.std.proofs.lemmas.Cmp.{on_total, tied_itself}
use Rattle.std.proofs.lemmas.Grind.{common_steps}
use Rattle.std.proofs.lemmas.List.Kept.{IsStrictlySortedBy-filter}
use Rattle.std.proofs.lemmas.Map.Entries.{lookup-filter-keys}
use Rattle.std.proofs.lemmas.Map.Keys.{sorted_head, sorted_tail}
use Rattle.std.proofs.lemmas.Map.Views.{IsInRange-from_range_contains, range_contains-from_IsInRange}
use Rattle.database_protocol.specs.declared.row_order.Cursor.{Cursor}
use Rattle.std.proofs.lemmas.Bool.{both_ways}
use Rattle.key_index.specs.declared.index.Node.{Node}
use Rattle.key_index.specs.Index.{Keys, IsEntry}
use Rattle.key_index.specs.Keyed.{by_bytes}
use Rattle.key_index.specs.Search.{BeginsWith, IsKeyBefore, IsKeyBeyond, IsBeyondCursor, IsFindable, IsNextAmong, FindsNoneAmong, LiesBeyond}
use Rattle.key_index.specs.Seeking.{NodeList, ArePassed, IsFirst, IsLast}
use Rattle.key_index.specs.Span.{IsFromStart, IsUpToEnd, IsSpan}
use Rattle.key_index.specs.Places.{HasEntry}
use Rattle.key_index.proofs.KeyedNodes.{node_at, same_bytes, seen}
use Rattle.key_index.proofs.Orders.{not_itself}

pub some_same : {X : Type 0} (x y : X) → Some x ≡ Some y → x ≡ y
some_same x y h = cc

pub none_some : {X : Type 0} (x : X) → None ≡ Some x → ⊥
none_some x h = cc

pub equal_itself : (a : List ℕ) → is_eq (slice_cmp nat_cmp a a) ≡ true
equal_itself a = ap is_eq (tied_itself nat_list_cmp_total a)

-- an entry of an index is in a node
pub entry_node : (index : Keys) (key : List ℕ) (row : ℕ) → IsEntry index key row → (n : Node) × (map.get index key ≡ Some n) × HasEntry n.rows row
entry_node index key row entry = pick (map.get index key) refl
  where
    at : (o : Option Node) → map.get index key ≡ o → option_and_then (λ n. map.get n.rows row) o ≡ Some None
    at o is = sym (ap (option_and_then (λ (n : Node). map.get n.rows row)) is) ∙ entry

    pick : (o : Option Node) → map.get index key ≡ o → (n : Node) × (map.get index key ≡ Some n) × HasEntry n.rows row
    pick None is = absurd (none_some None (at None is))
    pick (Some n) is = (n, is, at (Some n) is)

-- the node has the entries of its key
pub node_entry : (index : Keys) (key : List ℕ) (row : ℕ) (n : Node) → map.get index key ≡ Some n → HasEntry n.rows row → IsEntry index key row
node_entry index key row n is has = ap (option_and_then (λ (m : Node). map.get m.rows row)) is ∙ has

pub beyond_by_key : (cursor : Option Cursor) (forward : Bool) (key : List ℕ) (row : ℕ) → IsKeyBeyond cursor forward key → IsBeyondCursor cursor forward key row
beyond_by_key None forward key row h = tt
beyond_by_key (Some cursor) true key row h = inl h
beyond_by_key (Some cursor) false key row h = inl h

pub same_or_below : (a b : ℕ) → a ≤ b → (b ≡ a) ⊎ (a < b)
same_or_below a b le = grind (arith, common_steps)

module _ {Z : Type 0} where
  abbrev pub by_items : Vec ℕ Z → Vec ℕ Z → Ordering
  by_items x y = slice_cmp nat_cmp x.items y.items

  items_total : IsTotalOrder by_items
  items_total = on_total (λ (v : Vec ℕ Z). v.items) nat_list_cmp_total

  start_of : (lo : Bound (Vec ℕ Z)) (k : Vec ℕ Z) → IsFromStart lo k.items → range.IsFromStart by_items lo k
  start_of (Included a) k h = h
  start_of (Excluded a) k h = h
  start_of Unbounded k h = tt

  end_of : (hi : Bound (Vec ℕ Z)) (k : Vec ℕ Z) → IsUpToEnd hi k.items → range.IsUpToEnd by_items hi k
  end_of (Included b) k h = h
  end_of (Excluded b) k h = h
  end_of Unbounded k h = tt

  of_start : (lo : Bound (Vec ℕ Z)) (k : Vec ℕ Z) → range.IsFromStart by_items lo k → IsFromStart lo k.items
  of_start (Included a) k h = h
  of_start (Excluded a) k h = h
  of_start Unbounded k h = tt

  of_end : (hi : Bound (Vec ℕ Z)) (k : Vec ℕ Z) → range.IsUpToEnd by_items hi k → IsUpToEnd hi k.items
  of_end (Included b) k h = h
  of_end (Excluded b) k h = h
  of_end Unbounded k h = tt

  -- a key that a range has under these bytes, and the bytes between its ends
  inside : (lo hi : Bound (Vec ℕ Z)) (k : Vec ℕ Z) (key : List ℕ) → key ≡ k.items → IsFromStart lo key → IsUpToEnd hi key → range.range_contains by_items lo hi k ≡ true
  inside lo hi k key same from upto =
      range_contains-from_IsInRange items_total lo hi k (start_of lo k (subst (λ (b : List ℕ). IsFromStart lo b) same from), end_of hi k (subst (λ (b : List ℕ). IsUpToEnd hi b) same upto))

  between : (lo hi : Bound (Vec ℕ Z)) (k : Vec ℕ Z) (key : List ℕ) → key ≡ k.items → range.range_contains by_items lo hi k ≡ true → IsFromStart lo key × IsUpToEnd hi key
  between lo hi k key same is =
      let h = IsInRange-from_range_contains items_total lo hi k is in
      (subst (λ (b : List ℕ). IsFromStart lo b) (sym same) (of_start lo k h.0), subst (λ (b : List ℕ). IsUpToEnd hi b) (sym same) (of_end hi k h.1))

  -- what the range has of a key between its ends
  kept_node : (lo hi : Bound (Vec ℕ Z)) (es : NodeList Z) (key : List ℕ) → IsFromStart lo key → IsUpToEnd hi key → node_at (range.entries_between by_items lo hi es) key ≡ node_at es key
  kept_node lo hi es key from upto =
      lookup-filter-keys (λ v. is_eq (slice_cmp nat_cmp key v.items)) (range.range_contains by_items lo hi) true (λ k here. inside lo hi k key (same_bytes key k.items here) from upto) es

  was_one : (lo hi : Bound (Vec ℕ Z)) (e : Vec ℕ Z × Node) (es rest : NodeList Z) (key : List ℕ) (n : Node)
      → (node_at rest key ≡ Some n → (IsFromStart lo key × IsUpToEnd hi key) × (node_at es key ≡ Some n))
      → (b : Bool) → range.range_contains by_items lo hi e.0 ≡ b → (t : Bool) → is_eq (slice_cmp nat_cmp key e.0.items) ≡ t
      → node_at (cond b (e ∷ rest) rest) key ≡ Some n → (IsFromStart lo key × IsUpToEnd hi key) × (node_at (e ∷ es) key ≡ Some n)
  was_one lo hi e es rest key n below true is true at h =
      (between lo hi e.0 key (same_bytes key e.0.items at) is, ap (λ t. cond t (Some e.1) (node_at es key)) at ∙ sym (ap (λ t. cond t (Some e.1) (node_at rest key)) at) ∙ h)
  was_one lo hi e es rest key n below true is false at h =
      let was = below (sym (ap (λ t. cond t (Some e.1) (node_at rest key)) at) ∙ h) in
      (was.0, ap (λ t. cond t (Some e.1) (node_at es key)) at ∙ was.1)
  was_one lo hi e es rest key n below false is true at h =
      let was = below h in
      absurd (both_ways (range.range_contains by_items lo hi e.0) is (inside lo hi e.0 key (same_bytes key e.0.items at) was.0.0 was.0.1))
  was_one lo hi e es rest key n below false is false at h =
      let was = below h in
      (was.0, ap (λ t. cond t (Some e.1) (node_at es key)) at ∙ was.1)

  -- what the range has was in the map, between its ends
  was_node : (lo hi : Bound (Vec ℕ Z)) (es : NodeList Z) (key : List ℕ) (n : Node) → node_at (range.entries_between by_items lo hi es) key ≡ Some n
      → (IsFromStart lo key × IsUpToEnd hi key) × (node_at es key ≡ Some n)
  was_node lo hi [] key n h = absurd (none_some n h)
  was_node lo hi (e ∷ es) key n h =
      was_one lo hi e es (range.entries_between by_items lo hi es) key n (was_node lo hi es key n) (range.range_contains by_items lo hi e.0) refl (is_eq (slice_cmp nat_cmp key e.0.items)) refl h

  keys_kept : (p : Vec ℕ Z → Bool) (es : NodeList Z) → keys_of (filter (λ e. p e.0) es) ≡ filter p (keys_of es)
  keys_kept p [] = refl
  keys_kept p (e ∷ es) = pick (keys_kept p es) (p e.0)
    where
      pick : keys_of (filter (λ e. p e.0) es) ≡ filter p (keys_of es) → (b : Bool) → keys_of (cond b (e ∷ filter (λ e. p e.0) es) (filter (λ e. p e.0) es)) ≡ cond b (e.0 ∷ filter p (keys_of es)) (filter p (keys_of es))
      pick rest true = ap (λ (ks : List (Vec ℕ Z)). e.0 ∷ ks) rest
      pick rest false = rest

  abbrev pub IsSorted : NodeList Z → Type 0
  IsSorted es = IsStrictlySortedBy by_items (keys_of es)

  sorted_between : (lo hi : Bound (Vec ℕ Z)) (es : NodeList Z) → IsSorted es → IsSorted (range.entries_between by_items lo hi es)
  sorted_between lo hi es sorted =
      subst (IsStrictlySortedBy by_items) (sym (keys_kept (range.range_contains by_items lo hi) es)) (IsStrictlySortedBy-filter by_items (range.range_contains by_items lo hi) (keys_of es) sorted)

  -- what holds of each key holds of one that a look-up finds
  pub all_at : (P : List ℕ → Type 0) (es : NodeList Z) (key : List ℕ) (n : Node) → AllByRecursion (λ k. P k.items) (keys_of es) → node_at es key ≡ Some n → P key
  all_at P [] key n all h = absurd (none_some n h)
  all_at P (e ∷ es) key n all h = pick (all_at P es key n all.1) (is_eq (slice_cmp nat_cmp key e.0.items)) refl
    where
      pick : (node_at es key ≡ Some n → P key) → (t : Bool) → is_eq (slice_cmp nat_cmp key e.0.items) ≡ t → P key
      pick more true at = subst P (sym (same_bytes key e.0.items at)) all.0
      pick more false at = more (sym (ap (λ t. cond t (Some e.1) (node_at es key)) at) ∙ h)

  all_here : (P : Vec ℕ Z → Type 0) (before : NodeList Z) (key : Vec ℕ Z) (node : Node) (after : NodeList Z) → AllByRecursion P (keys_of (before ++ (key, node) ∷ after)) → P key
  all_here P [] key node after all = all.0
  all_here P (e ∷ before) key node after all = all_here P before key node after all.1

  -- where a list has a key, seen from one of its nodes
  data Found (before after : NodeList Z) (key : List ℕ) (node : Node) (q : List ℕ) (n : Node) : Type 0 where
    earlier : IsKeyBefore q key → node_at before q ≡ Some n → Found before after key node q n
    here : q ≡ key → n ≡ node → Found before after key node q n
    later : IsKeyBefore key q → node_at after q ≡ Some n → Found before after key node q n

  found_in : (before : NodeList Z) (key : Vec ℕ Z) (node : Node) (after : NodeList Z) → IsSorted (before ++ (key, node) ∷ after) → (q : List ℕ) (n : Node) → node_at (before ++ (key, node) ∷ after) q ≡ Some n
      → Found before after key.items node q n
  found_in [] key node after sorted q n h = pick (is_eq (slice_cmp nat_cmp q key.items)) refl
    where
      pick : (t : Bool) → is_eq (slice_cmp nat_cmp q key.items) ≡ t → Found [] after key.items node q n
      pick true at = here (same_bytes q key.items at) (some_same n node (sym h ∙ ap (λ t. cond t (Some node) (node_at after q)) at))
      pick false at =
          let there : node_at after q ≡ Some n = sym (ap (λ t. cond t (Some node) (node_at after q)) at) ∙ h in
          later (all_at (λ k. IsKeyBefore key.items k) after q n (sorted_head by_items key (keys_of after) sorted) there) there
  found_in (e ∷ before) key node after sorted q n h =
      pick (found_in before key node after (sorted_tail by_items e.0 (keys_of (before ++ (key, node) ∷ after)) sorted) q n) (is_eq (slice_cmp nat_cmp q e.0.items)) refl
    where
      more : is_eq (slice_cmp nat_cmp q e.0.items) ≡ false → Found before after key.items node q n → Found (e ∷ before) after key.items node q n
      more at (earlier less there) = earlier less (ap (λ t. cond t (Some e.1) (node_at before q)) at ∙ there)
      more at (here same is) = here same is
      more at (later less there) = later less there

      pick : (node_at (before ++ (key, node) ∷ after) q ≡ Some n → Found before after key.items node q n) → (t : Bool) → is_eq (slice_cmp nat_cmp q e.0.items) ≡ t → Found (e ∷ before) after key.items node q n
      pick rest true at =
          let less : IsKeyBefore e.0.items key.items = all_here (λ k. by_items e.0 k ≡ Less) before key node after (sorted_head by_items e.0 (keys_of (before ++ (key, node) ∷ after)) sorted) in
          earlier (subst (λ (b : List ℕ). IsKeyBefore b key.items) (sym (same_bytes q e.0.items at)) less)
          (ap (λ t. cond t (Some e.1) (node_at before q)) at ∙ sym (ap (λ t. cond t (Some e.1) (node_at (before ++ (key, node) ∷ after) q)) at) ∙ h)
      pick rest false at = more at (rest (sym (ap (λ t. cond t (Some e.1) (node_at (before ++ (key, node) ∷ after) q)) at) ∙ h))

  -- the node itself is what the list has under its key
  found_here : (before : NodeList Z) (key : Vec ℕ Z) (node : Node) (after : NodeList Z) → IsSorted (before ++ (key, node) ∷ after) → node_at (before ++ (key, node) ∷ after) key.items ≡ Some node
  found_here [] key node after sorted = ap (λ t. cond t (Some node) (node_at after key.items)) (equal_itself key.items)
  found_here (e ∷ before) key node after sorted =
      pick (found_here before key node after (sorted_tail by_items e.0 (keys_of (before ++ (key, node) ∷ after)) sorted)) (is_eq (slice_cmp nat_cmp key.items e.0.items)) refl
    where
      pick : node_at (before ++ (key, node) ∷ after) key.items ≡ Some node → (t : Bool) → is_eq (slice_cmp nat_cmp key.items e.0.items) ≡ t → node_at ((e ∷ before) ++ (key, node) ∷ after) key.items ≡ Some node
      pick rest true at =
          let less : IsKeyBefore e.0.items key.items = all_here (λ k. by_items e.0 k ≡ Less) before key node after (sorted_head by_items e.0 (keys_of (before ++ (key, node) ∷ after)) sorted) in
          absurd (not_itself key.items (subst (λ (b : List ℕ). IsKeyBefore b key.items) (sym (same_bytes key.items e.0.items at)) less))
      pick rest false at = ap (λ t. cond t (Some e.1) (node_at (before ++ (key, node) ∷ after) key.items)) at ∙ rest

  none_passed : (prefix : List ℕ) (es : NodeList Z) → ArePassed prefix es → (q : List ℕ) (n : Node) → node_at es q ≡ Some n → BeginsWith q prefix → (row : ℕ) → HasEntry n.rows row → ⊥
  none_passed prefix [] all q n h begins row has = none_some n h
  none_passed prefix (e ∷ es) all q n h begins row has = pick (λ there. none_passed prefix es all.1 q n there begins row has) (is_eq (slice_cmp nat_cmp q e.0.items)) refl
    where
      pick : (node_at es q ≡ Some n → ⊥) → (t : Bool) → is_eq (slice_cmp nat_cmp q e.0.items) ≡ t → ⊥
      pick rest true at =
          let same : n ≡ e.1 = some_same n e.1 (sym h ∙ ap (λ t. cond t (Some e.1) (node_at es q)) at) in
          all.0 (subst (λ (b : List ℕ). BeginsWith b prefix) (same_bytes q e.0.items at) begins) row (subst (λ (m : Node). HasEntry m.rows row) same has)
      pick rest false at = rest (sym (ap (λ t. cond t (Some e.1) (node_at es q)) at) ∙ h)

  -- a place that the search may find has its node in the range
  findable_node : (es : NodeList Z) (index : Keys) → map.from_entries (by_bytes es) ≡ index → (lo hi : Bound (Vec ℕ Z)) (cursor : Option Cursor) (prefix : List ℕ) (forward : Bool) → IsSpan cursor prefix forward lo hi
      → (key : List ℕ) (row : ℕ) → IsKeyBeyond cursor forward key → IsFindable index cursor prefix forward key row → (n : Node) × (node_at (range.entries_between by_items lo hi es) key ≡ Some n) × HasEntry n.rows row
  findable_node es index is lo hi cursor prefix forward span key row far found =
      let entry = entry_node index key row found.entry in
      let covered = span.covers key found.begins far in
      (entry.0, kept_node lo hi es key covered.0 covered.1 ∙ sym (seen es index is key) ∙ entry.1, entry.2)

  pub none_beyond : (es : NodeList Z) (index : Keys) → map.from_entries (by_bytes es) ≡ index → (lo hi : Bound (Vec ℕ Z)) (cursor : Option Cursor) (prefix : List ℕ) (forward : Bool) → IsSpan cursor prefix forward lo hi
      → (nodes : NodeList Z) → nodes ≡ range.entries_between by_items lo hi es → ArePassed prefix nodes → FindsNoneAmong (IsKeyBeyond cursor forward) index cursor prefix forward
  none_beyond es index is lo hi cursor prefix forward span nodes are passed key row far found =
      let there = findable_node es index is lo hi cursor prefix forward span key row far found in
      none_passed prefix (range.entries_between by_items lo hi es) (subst (ArePassed prefix) are passed) key there.0 there.1 found.begins row there.2

  -- the node that the search stopped at is one of the index, and beyond the cursor
  stop_findable : (es : NodeList Z) (index : Keys) → map.from_entries (by_bytes es) ≡ index → IsSorted es → (lo hi : Bound (Vec ℕ Z)) (cursor : Option Cursor) (prefix : List ℕ) (forward : Bool) → IsSpan cursor prefix forward lo hi
      → (before : NodeList Z) (key : Vec ℕ Z) (node : Node) (after : NodeList Z) (row : ℕ) → range.entries_between by_items lo hi es ≡ before ++ (key, node) ∷ after → BeginsWith key.items prefix → HasEntry node.rows row
      → IsKeyBeyond cursor forward key.items × IsFindable index cursor prefix forward key.items row
  stop_findable es index is sorted lo hi cursor prefix forward span before key node after row split begins has =
      let ordered : IsSorted (before ++ (key, node) ∷ after) = subst IsSorted split (sorted_between lo hi es sorted) in
      let there : node_at (range.entries_between by_items lo hi es) key.items ≡ Some node =
      subst (λ (ns : NodeList Z). node_at ns key.items ≡ Some node) (sym split) (found_here before key node after ordered) in
      let was = was_node lo hi es key.items node there in
      let far = span.beyond key.items was.0.0 was.0.1 in (
        far,
        record {
          entry = node_entry index key.items row node (seen es index is key.items ∙ was.1) has;
          begins = begins;
          beyond = beyond_by_key cursor forward key.items row far;
        },
      )

  pub first_beyond : (es : NodeList Z) (index : Keys) → map.from_entries (by_bytes es) ≡ index → IsSorted es → (lo hi : Bound (Vec ℕ Z)) (cursor : Option Cursor) (prefix : List ℕ) → IsSpan cursor prefix true lo hi
      → (nodes : NodeList Z) → nodes ≡ range.entries_between by_items lo hi es → (key : Vec ℕ Z) (row : ℕ) → IsFirst prefix nodes key row → IsNextAmong (IsKeyBeyond cursor true) index cursor prefix true key.items row
  first_beyond es index is sorted lo hi cursor prefix span nodes are key row found =
      let split : range.entries_between by_items lo hi es ≡ found.before ++ (key, found.node) ∷ found.after = sym are ∙ found.split in
      let ordered : IsSorted (found.before ++ (key, found.node) ∷ found.after) = subst IsSorted split (sorted_between lo hi es sorted) in
      let stop = stop_findable es index is sorted lo hi cursor prefix true span found.before key found.node found.after row split found.begins found.entry in
      record {
        among = stop.0;
        findable = stop.1;
        first = λ other at far findable.
            let there = findable_node es index is lo hi cursor prefix true span other at far findable in
            judge other at (findable.begins) there.0 there.2
            (found_in found.before key found.node found.after ordered other there.0 (subst (λ (ns : NodeList Z). node_at ns other ≡ Some there.0) split there.1));
      }
    where
      by_row : (other : List ℕ) (at : ℕ) → other ≡ key.items → (at ≡ row) ⊎ (row < at) → ((other ≡ key.items) × (at ≡ row)) ⊎ LiesBeyond true other at key.items row
      by_row other at same (inl is_row) = inl (same, is_row)
      by_row other at same (inr above) = inr (inr (sym same, above))

      judge : (other : List ℕ) (at : ℕ) → BeginsWith other prefix → (n : Node) → HasEntry n.rows at → Found found.before found.after key.items found.node other n
          → ((other ≡ key.items) × (at ≡ row)) ⊎ LiesBeyond true other at key.items row
      judge other at begins n has (earlier less there) = absurd (none_passed prefix found.before found.passed other n there begins at has)
      judge other at begins n has (here same same_node) = by_row other at same (same_or_below row at (found.least at (subst (λ (m : Node). HasEntry m.rows at) same_node has)))
      judge other at begins n has (later less there) = inr (inl less)

  pub last_beyond : (es : NodeList Z) (index : Keys) → map.from_entries (by_bytes es) ≡ index → IsSorted es → (lo hi : Bound (Vec ℕ Z)) (cursor : Option Cursor) (prefix : List ℕ) → IsSpan cursor prefix false lo hi
      → (nodes : NodeList Z) → nodes ≡ range.entries_between by_items lo hi es → (key : Vec ℕ Z) (row : ℕ) → IsLast prefix nodes key row → IsNextAmong (IsKeyBeyond cursor false) index cursor prefix false key.items row
  last_beyond es index is sorted lo hi cursor prefix span nodes are key row found =
      let split : range.entries_between by_items lo hi es ≡ found.before ++ (key, found.node) ∷ found.after = sym are ∙ found.split in
      let ordered : IsSorted (found.before ++ (key, found.node) ∷ found.after) = subst IsSorted split (sorted_between lo hi es sorted) in
      let stop = stop_findable es index is sorted lo hi cursor prefix false span found.before key found.node found.after row split found.begins found.entry in
      record {
        among = stop.0;
        findable = stop.1;
        first = λ other at far findable.
            let there = findable_node es index is lo hi cursor prefix false span other at far findable in
            judge other at (findable.begins) there.0 there.2
            (found_in found.before key found.node found.after ordered other there.0 (subst (λ (ns : NodeList Z). node_at ns other ≡ Some there.0) split there.1));
      }
    where
      by_row : (other : List ℕ) (at : ℕ) → other ≡ key.items → (row ≡ at) ⊎ (at < row) → ((other ≡ key.items) × (at ≡ row)) ⊎ LiesBeyond false other at key.items row
      by_row other at same (inl is_row) = inl (same, sym is_row)
      by_row other at same (inr below) = inr (inr (same, below))

      judge : (other : List ℕ) (at : ℕ) → BeginsWith other prefix → (n : Node) → HasEntry n.rows at → Found found.before found.after key.items found.node other n
          → ((other ≡ key.items) × (at ≡ row)) ⊎ LiesBeyond false other at key.items row
      judge other at begins n has (earlier less there) = inr (inl less)
      judge other at begins n has (here same same_node) = by_row other at same (same_or_below at row (found.greatest at (subst (λ (m : Node). HasEntry m.rows at) same_node has)))
      judge other at begins n has (later less there) = absurd (none_passed prefix found.after found.passed other n there begins at has)
