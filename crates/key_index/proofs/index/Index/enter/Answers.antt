use Rattle.std.proofs.Common.{◌≡◌, ℕ, true, false, List, Some, None, IfSome, Result, Ok, Err, OnErr, is_some, refl, sym, ap, subst, ◌∙◌}
use Rattle.std.specs.FinMap as map
use Rattle.key_index.specs.declared.index.Node.{Node}
use Rattle.key_index.specs.declared.touched.Keyed.{Keyed}
use Rattle.key_index.specs.Keyed.{by_bytes}
use Rattle.key_index.specs.Index.{Keys, IsSame, place_at, Puts}
use Rattle.key_index.specs.Nodes.{node_entered}
use Rattle.key_index.specs.Touched.{AreKeysListed, IsKeyListed, keyed_at, nodes_of}
use Rattle.key_index.proofs.Changes.{known_puts, fresh_puts, same_nodes, has_place, no_place}
use Rattle.key_index.proofs.KeyedNodes.{node_at, same_everywhere}
use Rattle.key_index.proofs.NodesOf.{node_in, seen_node}
use Rattle.key_index.proofs.TouchedKeys.{updated, written}
use Rattle.key_index.proofs.TouchedPuts.{come_grows, entered_listed, new_listed, put_keyed}
use Rattle.key_index.proofs.index.Index.enter.Goals as goal

no_clash : false ≡ true → ⊥
no_clash h = cc

always : {T E : Type 0} (P : Type 0) (r : Result T E) → P → OnErr r P
always P (Ok x) h = tt
always P (Err e) h = h

-- the key that was there

pub invariant_of-self : goal.invariant_of-self
invariant_of-self c =
    let key = c.as_slice.result.now in
    let w : Keyed = c.enter.new.self in
    let after = c.get_mut.follows.lender w in
    let puts = written c.self.inside.nodes after key key c.in-Some.keyed.now w refl (c.get_mut.follows.holds w) c.in-Some.ensures.value in
    put_keyed c.self.inside.nodes after key w c.self.inside.touched c.self.inside.touched puts.0 puts.1 c.self.invariant (λ other h. h)
    (subst (IsKeyListed c.self.inside.touched key) (sym c.in_err-used.ensures.err) (c.self.invariant key c.in-Some.keyed.now (sym c.in-Some.ensures.value)))

pub returns-in_err-used-clause-err : goal.returns-in_err-used-clause-err
returns-in_err-used-clause-err c =
    let key = c.as_slice.result.now in
    let old = c.args.self.now in
    let w : Keyed = c.enter.new.self in
    let after = c.get_mut.follows.lender w in
    let puts = written c.self.inside.nodes after key key c.in-Some.keyed.now w refl (c.get_mut.follows.holds w) c.in-Some.ensures.value in
    always (IsSame old (map.from_entries (by_bytes (nodes_of after.entries)))) c.from_residual.result (same_nodes old (map.from_entries (by_bytes (nodes_of after.entries))) (λ k.
    seen_node after _ refl k
    ∙ ap node_in (same_everywhere (λ q. keyed_at after q) (λ q. keyed_at c.self.inside.nodes q) key (puts.0 ∙ ap (λ (n : Keyed). Some n) c.in_err-used.ensures.err ∙ c.in-Some.ensures.value) puts.1 k)
    ∙ sym (seen_node c.self.inside.nodes old c.self.view_is k)))

pub returns-in_err-used-clause-taken_back : goal.returns-in_err-used-clause-taken_back
returns-in_err-used-clause-taken_back c left =
    let key = c.as_slice.result.now in
    let was : map.get c.args.self.now key ≡ Some c.in-Some.keyed.now.node = seen_node c.self.inside.nodes c.args.self.now c.self.view_is key ∙ ap node_in (sym c.in-Some.ensures.value) in
    let there : place_at c.args.self.now key c.args.row.0 ≡ Some (Some c.args.client) =
    subst (λ (k : List ℕ). place_at c.args.self.now k c.args.row.0 ≡ Some (Some c.args.client)) (sym c.as_slice.ensures) left in
    absurd (no_clash (c.in_err-used.ensures.known (ap is_some (has_place c.args.self.now key c.args.row.0 c.in-Some.keyed.now.node (Some c.args.client) was there))))

pub invariant_of-self-in-Some : goal.invariant_of-self-in-Some
invariant_of-self-in-Some c =
    let key = c.as_slice.result.now in
    let w : Keyed = c.enter.new.self in
    let after = c.get_mut.follows.lender w in
    let puts = written c.self.inside.nodes after key key c.in-Some.keyed.now w refl (c.get_mut.follows.holds w) c.in-Some.ensures.value in
    put_keyed c.self.inside.nodes after key w c.self.inside.touched c.list.new.touched puts.0 puts.1 c.self.invariant (come_grows c.in_ok-used.used c.self.inside.touched c.list.new.touched c.list.ensures)
    (entered_listed c.self.inside.touched c.list.new.touched key c.in-Some.keyed.now w c.in_ok-used.used c.args.client c.args.row.0 c.args.unique
    (c.self.invariant key c.in-Some.keyed.now (sym c.in-Some.ensures.value)) c.in_ok-used.ensures.node c.in_ok-used.ensures.spare c.in_ok-used.ensures.used c.list.ensures)

pub returns-in-Some-clause-ok : goal.returns-in-Some-clause-ok
returns-in-Some-clause-ok c =
    let key = c.as_slice.result.now in
    let old = c.args.self.now in
    let w : Keyed = c.enter.new.self in
    let after = c.get_mut.follows.lender w in
    let was : map.get old key ≡ Some c.in-Some.keyed.now.node = seen_node c.self.inside.nodes old c.self.view_is key ∙ ap node_in (sym c.in-Some.ensures.value) in
    let puts = written c.self.inside.nodes after key key c.in-Some.keyed.now w refl (c.get_mut.follows.holds w) c.in-Some.ensures.value in
    subst (λ (k : List ℕ). Puts old c.args.client k c.args.row.0 c.args.unique None (map.from_entries (by_bytes (nodes_of after.entries)))) c.as_slice.ensures
    (known_puts old (map.from_entries (by_bytes (nodes_of after.entries))) c.in-Some.keyed.now.node c.args.client key c.args.row.0 c.args.unique None was
    (seen_node after _ refl key ∙ ap node_in puts.0 ∙ ap (λ (n : Node). Some n) c.in_ok-used.ensures.node)
    (λ other differ. seen_node after _ refl other ∙ ap node_in (puts.1 other differ) ∙ sym (seen_node c.self.inside.nodes old c.self.view_is other)))

-- a key that is new

not_there : (index : Keys) (slice key : List ℕ) (row client : ℕ) → map.get index slice ≡ None → slice ≡ key → place_at index key row ≡ Some (Some client) → ⊥
not_there index slice key row client none same left = no_place index slice row (Some client) none (subst (λ (k : List ℕ). place_at index k row ≡ Some (Some client)) (sym same) left)

pub invariant_of-self-in_err-bytes : goal.invariant_of-self-in_err-bytes
invariant_of-self-in_err-bytes c = subst (λ m. AreKeysListed m c.self.inside.touched) (sym c.get_mut.follows.holds-at-none) c.self.invariant

pub invariant_of-self-in_err-keyed : goal.invariant_of-self-in_err-keyed
invariant_of-self-in_err-keyed c = subst (λ m. AreKeysListed m c.self.inside.touched) (sym c.get_mut.follows.holds-at-none) c.self.invariant

pub invariant_of-self-in_err-used-2 : goal.invariant_of-self-in_err-used-2
invariant_of-self-in_err-used-2 c = subst (λ m. AreKeysListed m c.self.inside.touched) (sym c.get_mut.follows.holds-at-none) c.self.invariant

pub invariant_of-self-in_err-insert : goal.invariant_of-self-in_err-insert
invariant_of-self-in_err-insert c key keyed there =
    c.self.invariant key keyed (ap (λ m. keyed_at m key) (sym c.get_mut.follows.holds-at-none) ∙ ap (λ es. node_at es key) (sym c.in_err-insert.ensures.err) ∙ there)

pub returns-in_err-bytes-clause-taken_back : goal.returns-in_err-bytes-clause-taken_back
returns-in_err-bytes-clause-taken_back c left =
    absurd (not_there c.args.self.now c.as_slice.result.now c.args.key.now c.args.row.0 c.args.client
    (seen_node c.self.inside.nodes c.args.self.now c.self.view_is c.as_slice.result.now ∙ ap node_in (sym c.in_default.ensures.value)) c.as_slice.ensures left)

pub returns-in_err-keyed-clause-taken_back : goal.returns-in_err-keyed-clause-taken_back
returns-in_err-keyed-clause-taken_back c left =
    absurd (not_there c.args.self.now c.as_slice.result.now c.args.key.now c.args.row.0 c.args.client
    (seen_node c.self.inside.nodes c.args.self.now c.self.view_is c.as_slice.result.now ∙ ap node_in (sym c.in_default.ensures.value)) c.as_slice.ensures left)

pub returns-in_err-used-2-clause-taken_back : goal.returns-in_err-used-2-clause-taken_back
returns-in_err-used-2-clause-taken_back c left =
    absurd (not_there c.args.self.now c.as_slice.result.now c.args.key.now c.args.row.0 c.args.client
    (seen_node c.self.inside.nodes c.args.self.now c.self.view_is c.as_slice.result.now ∙ ap node_in (sym c.in_default.ensures.value)) c.as_slice.ensures left)

pub returns-in_err-insert-clause-taken_back : goal.returns-in_err-insert-clause-taken_back
returns-in_err-insert-clause-taken_back c left =
    absurd (not_there c.args.self.now c.as_slice.result.now c.args.key.now c.args.row.0 c.args.client
    (seen_node c.self.inside.nodes c.args.self.now c.self.view_is c.as_slice.result.now ∙ ap node_in (sym c.in_default.ensures.value)) c.as_slice.ensures left)

pub invariant_of-self-2 : goal.invariant_of-self-2
invariant_of-self-2 c =
    let key = c.in_ok-bytes.bytes.items in
    let w : Keyed = c.enter-2.new.self in
    let puts = updated c.get_mut.follows.lender-at-none c.insert.new.self key key (Some w) refl c.in_ok-insert.ensures.updates in
    let given : c.as_slice-3.result.now ≡ key = c.as_slice-3.ensures ∙ sym (c.in_ok-bytes.ensures.items ∙ c.as_slice-2.ensures) in
    let own : IfSome c.in_ok-keyed.keyed.spare (λ s. s.key.items ≡ key) = subst (λ (k : List ℕ). IfSome c.in_ok-keyed.keyed.spare (λ s. s.key.items ≡ k)) given c.in_ok-keyed.ensures.own in
    put_keyed c.self.inside.nodes c.insert.new.self key w c.self.inside.touched c.list-2.new.touched puts.0 (λ other differ. puts.1 other differ ∙ ap (λ m. keyed_at m other) c.get_mut.follows.holds-at-none) c.self.invariant
    (come_grows c.in_ok-used-2.used c.self.inside.touched c.list-2.new.touched c.list-2.ensures)
    (entered_listed c.self.inside.touched c.list-2.new.touched key c.in_ok-keyed.keyed w c.in_ok-used-2.used c.args.client c.args.row.0 c.args.unique
    (new_listed c.self.inside.touched key c.in_ok-keyed.keyed c.in_ok-keyed.ensures.node c.in_ok-keyed.ensures.spare own) c.in_ok-used-2.ensures.node c.in_ok-used-2.ensures.spare c.in_ok-used-2.ensures.used c.list-2.ensures)

pub returns-clause-ok : goal.returns-clause-ok
returns-clause-ok c =
    let key = c.in_ok-bytes.bytes.items in
    let old = c.args.self.now in
    let w : Keyed = c.enter-2.new.self in
    let after = c.insert.new.self in
    let given : key ≡ c.args.key.now = c.in_ok-bytes.ensures.items ∙ c.as_slice-2.ensures in
    let none : map.get old c.as_slice.result.now ≡ None = seen_node c.self.inside.nodes old c.self.view_is c.as_slice.result.now ∙ ap node_in (sym c.in_default.ensures.value) in
    let puts = updated c.get_mut.follows.lender-at-none after key key (Some w) refl c.in_ok-insert.ensures.updates in
    subst (λ (k : List ℕ). Puts old c.args.client k c.args.row.0 c.args.unique None (map.from_entries (by_bytes (nodes_of after.entries)))) given
    (fresh_puts old (map.from_entries (by_bytes (nodes_of after.entries))) c.args.client key c.args.row.0 c.args.unique None
    (subst (λ (k : List ℕ). map.get old k ≡ None) (c.as_slice.ensures ∙ sym given) none)
    (seen_node after _ refl key ∙ ap node_in puts.0 ∙ ap (λ (n : Node). Some n) (c.in_ok-used-2.ensures.node ∙ ap (λ (n : Node). node_entered n c.args.client c.args.row.0 c.args.unique) c.in_ok-keyed.ensures.node))
    (λ other differ. seen_node after _ refl other ∙ ap node_in (puts.1 other differ ∙ ap (λ m. keyed_at m other) c.get_mut.follows.holds-at-none) ∙ sym (seen_node c.self.inside.nodes old c.self.view_is other)))
