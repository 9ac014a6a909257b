-- The walk over the list of the keys that were touched, where a client ends.
use Rattle.std.proofs.Common.{◌≡◌, ◌≢◌, ◌⊎◌, inl, inr, ℕ, Bool, true, false, eqb, cond, List, [], ◌∷◌, Option, Some, None, IfSome, Vec, refl, sym, ap, subst, ◌∙◌, nat_cmp, arith}
use Rattle.std.specs.Option.{is_some}
use Rattle.std.specs.Ordering.{is_eq}
use Rattle.std.specs.Cmp.Lexicographic.{slice_cmp}
use Rattle.std.specs.BTreeMap.{BTreeMap, UpdatesBy, WritesThrough}
use Rattle.std.proofs.lemmas.Grind.{common_steps}
use Rattle.std.proofs.lemmas.Bool.{both_ways}
use Rattle.key_index.specs.declared.touched.Keyed.{Keyed}
use Rattle.key_index.specs.Nodes.{IsNodeEnded, IsTouched}
use Rattle.key_index.specs.Places.{without_keeper, without_left}
use Rattle.key_index.specs.Touched.{AreKeysListed, EndsAt, IsKeyListed, ListsKey, keeper_in, keyed_at, row_of}
use Rattle.key_index.proofs.KeyedNodes.{node_updated, same_bytes, write_node}
use Rattle.key_index.proofs.LeftRows.{left_again, not_left, others_stay}
use Rattle.key_index.proofs.Ranged.{equal_itself}

eqb_itself : (a : ℕ) → eqb a a ≡ true
eqb_itself a = grind (arith, common_steps)

eqb_same : (a b : ℕ) → eqb a b ≡ true → a ≡ b
eqb_same a b h = grind (arith, common_steps)

pub same_key_or_other : (a b : List ℕ) → (a ≡ b) ⊎ (a ≢ b)
same_key_or_other a b = pick (is_eq (slice_cmp nat_cmp a b)) refl
  where
    pick : (t : Bool) → is_eq (slice_cmp nat_cmp a b) ≡ t → (a ≡ b) ⊎ (a ≢ b)
    pick true is = inl (same_bytes a b is)
    pick false is = inr (λ same. both_ways (is_eq (slice_cmp nat_cmp a b)) is (subst (λ (c : List ℕ). is_eq (slice_cmp nat_cmp a c) ≡ true) same (equal_itself a)))

-- what is left of a keeper is not the client
not_kept : (client : ℕ) (o : Option ℕ) → without_keeper client o ≡ Some client → ⊥
not_kept client None is = cc
not_kept client (Some other) is = pick (eqb other client) refl is
  where
    pick : (b : Bool) → eqb other client ≡ b → cond b None (Some other) ≡ Some client → ⊥
    pick true same h = cc
    pick false same h = both_ways (eqb other client) same (subst (λ (c : ℕ). eqb other c ≡ true) (other_is h) (eqb_itself other))
      where
        other_is : Some other ≡ Some client → other ≡ client
        other_is e = cc

kept_again : (client : ℕ) (o : Option ℕ) → without_keeper client (without_keeper client o) ≡ without_keeper client o
kept_again client None = refl
kept_again client (Some other) = pick (eqb other client) refl
  where
    pick : (b : Bool) → eqb other client ≡ b → without_keeper client (cond b None (Some other)) ≡ cond b None (Some other)
    pick true is = refl
    pick false is = ap (λ b. cond b None (Some other)) is

others_keep : (client : ℕ) (o : Option ℕ) → (o ≡ Some client → ⊥) → without_keeper client o ≡ o
others_keep client None differs = refl
others_keep client (Some other) differs = pick (eqb other client) refl
  where
    pick : (b : Bool) → eqb other client ≡ b → cond b None (Some other) ≡ Some other
    pick true same = absurd (differs (ap (λ (c : ℕ). Some c) (eqb_same other client same)))
    pick false same = refl

pub some_keyed : (a b : Keyed) → Some a ≡ Some b → a ≡ b
some_keyed a b h = cc

pub none_keyed : (a : Keyed) → None ≡ Some a → ⊥
none_keyed a h = cc

module _ {Z : Type 0} where
  -- what a write through `get_mut` leaves
  pub written : (m n : BTreeMap (Vec ℕ Z) Keyed) (slice key : List ℕ) (was w : Keyed) → slice ≡ key → WritesThrough (λ x y. slice_cmp nat_cmp x.items y.items) (λ v. slice_cmp nat_cmp slice v.items) m w n
      → Some was ≡ keyed_at m slice → (keyed_at n key ≡ Some w) × ((other : List ℕ) → other ≢ key → keyed_at n other ≡ keyed_at m other)
  written m n slice key was w same writes found =
      subst (λ (k : List ℕ). (keyed_at n k ≡ Some w) × ((other : List ℕ) → other ≢ k → keyed_at n other ≡ keyed_at m other)) same (write_node m n slice w writes (ap is_some (sym found)))

  pub updated : (m n : BTreeMap (Vec ℕ Z) Keyed) (slice key : List ℕ) (w : Option Keyed) → slice ≡ key → UpdatesBy (λ x y. slice_cmp nat_cmp x.items y.items) (λ v. slice_cmp nat_cmp slice v.items) m n w
      → (keyed_at n key ≡ w) × ((other : List ℕ) → other ≢ key → keyed_at n other ≡ keyed_at m other)
  updated m n slice key w same updates =
      subst (λ (k : List ℕ). (keyed_at n k ≡ w) × ((other : List ℕ) → other ≢ k → keyed_at n other ≡ keyed_at m other)) same (node_updated m n slice w updates)

  -- what an end of the node under a key leaves there
  pub ends_at : (client : ℕ) (m n : BTreeMap (Vec ℕ Z) Keyed) (slice key : List ℕ) (was w : Keyed) → slice ≡ key → Some was ≡ keyed_at m slice → keyed_at n key ≡ Some w → IsNodeEnded client was.node w.node
      → EndsAt client (keyed_at m key) (keyed_at n key)
  ends_at client m n slice key was w same found now ended = record {
    rows = λ row. ap (λ (o : Option Keyed). row_of o row) now ∙ ended.rows row ∙ ap (λ (o : Option Keyed). without_left client (row_of o row)) old;
    keeper = ap keeper_in now ∙ ended.keeper ∙ ap (λ (o : Option Keyed). without_keeper client (keeper_in o)) old;
  }
    where
      old : Some was ≡ keyed_at m key
      old = found ∙ ap (λ (k : List ℕ). keyed_at m k) same

  -- the keys in the rest of the list are still to be looked at
  pub record EndsKeys (client : ℕ) (old now : BTreeMap (Vec ℕ Z) Keyed) (touched rest : List (Vec ℕ Z)) : Type 0 where
    pub listed : (key : List ℕ) (keyed : Keyed) → keyed_at now key ≡ Some keyed → IsTouched keyed.node → ListsKey touched key ⊎ ListsKey rest key
    pub used : (key : List ℕ) (keyed : Keyed) → keyed_at now key ≡ Some keyed → keyed.spare ≡ None → ListsKey touched key ⊎ ListsKey rest key
    pub own : (key : List ℕ) (keyed : Keyed) → keyed_at now key ≡ Some keyed → IfSome keyed.spare (λ spare. spare.key.items ≡ key)
    pub my_rows : (key : List ℕ) (row : ℕ) → row_of (keyed_at now key) row ≡ Some (Some client) → ListsKey rest key
    pub my_key : (key : List ℕ) → keeper_in (keyed_at now key) ≡ Some client → ListsKey rest key
    pub same_rows : (key : List ℕ) (row : ℕ) → without_left client (row_of (keyed_at now key) row) ≡ without_left client (row_of (keyed_at old key) row)
    pub same_keeper : (key : List ℕ) → without_keeper client (keeper_in (keyed_at now key)) ≡ without_keeper client (keeper_in (keyed_at old key))

  pub keys_start : (client : ℕ) (nodes : BTreeMap (Vec ℕ Z) Keyed) (touched : List (Vec ℕ Z)) → AreKeysListed nodes touched → EndsKeys client nodes nodes [] touched
  keys_start client nodes touched listed = record {
    listed = λ key keyed is is_touched. inr ((listed key keyed is).listed is_touched);
    used = λ key keyed is none. inr ((listed key keyed is).used none);
    own = λ key keyed is. (listed key keyed is).own;
    my_rows = λ key row mine. by_row key row (keyed_at nodes key) refl mine;
    my_key = λ key mine. by_keeper key (keyed_at nodes key) refl mine;
    same_rows = λ key row. refl;
    same_keeper = λ key. refl;
  }
    where
      none_left : None ≡ Some (Some client) → ⊥
      none_left h = cc

      none_kept : None ≡ Some client → ⊥
      none_kept h = cc

      by_row : (key : List ℕ) (row : ℕ) (o : Option Keyed) → keyed_at nodes key ≡ o → row_of (keyed_at nodes key) row ≡ Some (Some client) → ListsKey touched key
      by_row key row None is mine = absurd (none_left (sym (ap (λ (o : Option Keyed). row_of o row) is) ∙ mine))
      by_row key row (Some keyed) is mine = (listed key keyed is).listed (inr (row, (client, sym (ap (λ (o : Option Keyed). row_of o row) is) ∙ mine)))

      by_keeper : (key : List ℕ) (o : Option Keyed) → keyed_at nodes key ≡ o → keeper_in (keyed_at nodes key) ≡ Some client → ListsKey touched key
      by_keeper key None is mine = absurd (none_kept (sym (ap keeper_in is) ∙ mine))
      by_keeper key (Some keyed) is mine = (listed key keyed is).listed (inl (ap is_some (sym (ap keeper_in is) ∙ mine)))

  pub keys_step : (client : ℕ) (old now next : BTreeMap (Vec ℕ Z) Keyed) (touched more rest left_over : List (Vec ℕ Z)) (key : Vec ℕ Z) → EndsKeys client old now touched rest → rest ≡ key ∷ left_over
      → ((other : List ℕ) → other ≢ key.items → keyed_at next other ≡ keyed_at now other) → EndsAt client (keyed_at now key.items) (keyed_at next key.items)
      → ((keyed : Keyed) → keyed_at next key.items ≡ Some keyed → IsKeyListed more key.items keyed) → ((other : List ℕ) → ListsKey touched other → ListsKey more other) → EndsKeys client old next more left_over
  keys_step client old now next touched more rest left_over key walk is others ended listed grows = record {
    listed = λ q keyed there is_touched. by_key (ListsKey more q ⊎ ListsKey left_over q) q
        (λ same. inl (back q same ((listed keyed (to q keyed same there)).listed is_touched)))
        (λ differ. later q differ (walk.listed q keyed (sym (others q differ) ∙ there) is_touched));
    used = λ q keyed there none. by_key (ListsKey more q ⊎ ListsKey left_over q) q
        (λ same. inl (back q same ((listed keyed (to q keyed same there)).used none)))
        (λ differ. later q differ (walk.used q keyed (sym (others q differ) ∙ there) none));
    own = λ q keyed there. by_key (IfSome keyed.spare (λ spare. spare.key.items ≡ q)) q
        (λ same. subst (λ (k : List ℕ). IfSome keyed.spare (λ spare. spare.key.items ≡ k)) (sym same) ((listed keyed (to q keyed same there)).own))
        (λ differ. walk.own q keyed (sym (others q differ) ∙ there));
    my_rows = λ q row mine. by_key (ListsKey left_over q) q
        (λ same. absurd (not_left client (row_of (keyed_at now key.items) row) (sym (ended.rows row) ∙ subst (λ (k : List ℕ). row_of (keyed_at next k) row ≡ Some (Some client)) same mine)))
        (λ differ. past q differ (walk.my_rows q row (sym (ap (λ (o : Option Keyed). row_of o row) (others q differ)) ∙ mine)));
    my_key = λ q mine. by_key (ListsKey left_over q) q
        (λ same. absurd (not_kept client (keeper_in (keyed_at now key.items)) (sym ended.keeper ∙ subst (λ (k : List ℕ). keeper_in (keyed_at next k) ≡ Some client) same mine)))
        (λ differ. past q differ (walk.my_key q (sym (ap keeper_in (others q differ)) ∙ mine)));
    same_rows = λ q row. by_key (without_left client (row_of (keyed_at next q) row) ≡ without_left client (row_of (keyed_at old q) row)) q
        (λ same. subst (λ (k : List ℕ). without_left client (row_of (keyed_at next k) row) ≡ without_left client (row_of (keyed_at old k) row)) (sym same)
        (ap (without_left client) (ended.rows row) ∙ left_again client (row_of (keyed_at now key.items) row) ∙ walk.same_rows key.items row))
        (λ differ. ap (λ (o : Option Keyed). without_left client (row_of o row)) (others q differ) ∙ walk.same_rows q row);
    same_keeper = λ q. by_key (without_keeper client (keeper_in (keyed_at next q)) ≡ without_keeper client (keeper_in (keyed_at old q))) q
        (λ same. subst (λ (k : List ℕ). without_keeper client (keeper_in (keyed_at next k)) ≡ without_keeper client (keeper_in (keyed_at old k))) (sym same)
        (ap (without_keeper client) ended.keeper ∙ kept_again client (keeper_in (keyed_at now key.items)) ∙ walk.same_keeper key.items))
        (λ differ. ap (λ (o : Option Keyed). without_keeper client (keeper_in o)) (others q differ) ∙ walk.same_keeper q);
  }
    where
      by_key : (G : Type 0) (q : List ℕ) → (q ≡ key.items → G) → (q ≢ key.items → G) → G
      by_key G q here there = pick (same_key_or_other q key.items)
        where
          pick : (q ≡ key.items) ⊎ (q ≢ key.items) → G
          pick (inl h) = here h
          pick (inr h) = there h

      back : (q : List ℕ) → q ≡ key.items → ListsKey more key.items → ListsKey more q
      back q same h = subst (ListsKey more) (sym same) h

      to : (q : List ℕ) (keyed : Keyed) → q ≡ key.items → keyed_at next q ≡ Some keyed → keyed_at next key.items ≡ Some keyed
      to q keyed same there = subst (λ (k : List ℕ). keyed_at next k ≡ Some keyed) same there

      past : (q : List ℕ) → q ≢ key.items → ListsKey rest q → ListsKey left_over q
      past q differ h = pick (subst (λ (vs : List (Vec ℕ Z)). ListsKey vs q) is h)
        where
          pick : (key.items ≡ q) ⊎ ListsKey left_over q → ListsKey left_over q
          pick (inl same) = absurd (differ (sym same))
          pick (inr more_of) = more_of

      later : (q : List ℕ) → q ≢ key.items → ListsKey touched q ⊎ ListsKey rest q → ListsKey more q ⊎ ListsKey left_over q
      later q differ (inl h) = inl (grows q h)
      later q differ (inr h) = inr (past q differ h)

  listed_now : (touched rest : List (Vec ℕ Z)) (key : List ℕ) → rest ≡ [] → ListsKey touched key ⊎ ListsKey rest key → ListsKey touched key
  listed_now touched rest key none (inl h) = h
  listed_now touched rest key none (inr h) = absurd (subst (λ (vs : List (Vec ℕ Z)). ListsKey vs key) none h)

  pub keys_listed : (client : ℕ) (old now : BTreeMap (Vec ℕ Z) Keyed) (touched rest : List (Vec ℕ Z)) → EndsKeys client old now touched rest → rest ≡ [] → AreKeysListed now touched
  keys_listed client old now touched rest walk none key keyed is = record {
    listed = λ is_touched. listed_now touched rest key none (walk.listed key keyed is is_touched);
    used = λ free. listed_now touched rest key none (walk.used key keyed is free);
    own = walk.own key keyed is;
  }

  pub keys_ended : (client : ℕ) (old now : BTreeMap (Vec ℕ Z) Keyed) (touched rest : List (Vec ℕ Z)) → EndsKeys client old now touched rest → rest ≡ [] → (key : List ℕ) → EndsAt client (keyed_at old key) (keyed_at now key)
  keys_ended client old now touched rest walk none key = record {
    rows = λ row. sym (others_stay client (row_of (keyed_at now key) row) (λ mine. subst (λ (vs : List (Vec ℕ Z)). ListsKey vs key) none (walk.my_rows key row mine))) ∙ walk.same_rows key row;
    keeper = sym (others_keep client (keeper_in (keyed_at now key)) (λ mine. subst (λ (vs : List (Vec ℕ Z)). ListsKey vs key) none (walk.my_key key mine))) ∙ walk.same_keeper key;
  }
