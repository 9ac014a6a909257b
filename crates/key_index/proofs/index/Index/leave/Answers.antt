use Rattle.std.proofs.Common.{◌≡◌, ℕ, List, Some, None, is_some, refl, sym, ap, subst, ◌∙◌}
use Rattle.std.specs.FinMap as map
use Rattle.key_index.specs.declared.index.Node.{Node}
use Rattle.key_index.specs.declared.touched.Keyed.{Keyed}
use Rattle.key_index.specs.Keyed.{by_bytes}
use Rattle.key_index.specs.Index.{place_at, Puts}
use Rattle.key_index.specs.Touched.{AreKeysListed, nodes_of}
use Rattle.key_index.proofs.Changes.{known_puts, has_place, no_place}
use Rattle.key_index.proofs.NodesOf.{node_in, seen_node}
use Rattle.key_index.proofs.TouchedKeys.{written}
use Rattle.key_index.proofs.TouchedPuts.{come_grows, listed_there, put_keyed}
use Rattle.key_index.proofs.index.Index.leave.Goals as goal

pub leave-used-requires : goal.leave-used-requires
leave-used-requires c =
    let key = c.as_slice.result.now in
    let was : map.get c.args.self.now key ≡ Some c.in-Some.keyed.now.node = seen_node c.self.inside.nodes c.args.self.now c.self.view_is key ∙ ap node_in (sym c.in-Some.ensures.value) in
    let there : place_at c.args.self.now key c.args.row.0 ≡ Some None = subst (λ (k : List ℕ). place_at c.args.self.now k c.args.row.0 ≡ Some None) (sym c.as_slice.ensures) c.requires.there in
    ap is_some (has_place c.args.self.now key c.args.row.0 c.in-Some.keyed.now.node None was there)

pub invariant_of-self : goal.invariant_of-self
invariant_of-self c = subst (λ m. AreKeysListed m c.self.inside.touched) (sym c.get_mut.follows.holds-at-none) c.self.invariant

pub returns-in_default : goal.returns-in_default
returns-in_default c =
    let key = c.as_slice.result.now in
    let none : map.get c.args.self.now key ≡ None = seen_node c.self.inside.nodes c.args.self.now c.self.view_is key ∙ ap node_in (sym c.in_default.ensures.value) in
    let there : place_at c.args.self.now key c.args.row.0 ≡ Some None = subst (λ (k : List ℕ). place_at c.args.self.now k c.args.row.0 ≡ Some None) (sym c.as_slice.ensures) c.requires.there in
    absurd (no_place c.args.self.now key c.args.row.0 None none there)

pub invariant_of-self-2 : goal.invariant_of-self-2
invariant_of-self-2 c =
    let key = c.as_slice.result.now in
    let w : Keyed = c.leave-used.new.self in
    let after = c.get_mut.follows.lender w in
    let puts = written c.self.inside.nodes after key key c.in-Some.keyed.now w refl (c.get_mut.follows.holds w) c.in-Some.ensures.value in
    put_keyed c.self.inside.nodes after key w c.self.inside.touched c.list.new.touched puts.0 puts.1 c.self.invariant (come_grows c.leave-used.result c.self.inside.touched c.list.new.touched c.list.ensures)
    (listed_there c.self.inside.touched c.list.new.touched key c.in-Some.keyed.now w c.leave-used.result (c.self.invariant key c.in-Some.keyed.now (sym c.in-Some.ensures.value))
    c.leave-used.ensures.used c.leave-used.ensures.spare c.list.ensures)

pub returns : goal.returns
returns c =
    let key = c.as_slice.result.now in
    let old = c.args.self.now in
    let w : Keyed = c.leave-used.new.self in
    let after = c.get_mut.follows.lender w in
    let was : map.get old key ≡ Some c.in-Some.keyed.now.node = seen_node c.self.inside.nodes old c.self.view_is key ∙ ap node_in (sym c.in-Some.ensures.value) in
    let puts = written c.self.inside.nodes after key key c.in-Some.keyed.now w refl (c.get_mut.follows.holds w) c.in-Some.ensures.value in
    subst (λ (k : List ℕ). Puts old c.args.client k c.args.row.0 c.args.unique (Some c.args.client) (map.from_entries (by_bytes (nodes_of after.entries)))) c.as_slice.ensures
    (known_puts old (map.from_entries (by_bytes (nodes_of after.entries))) c.in-Some.keyed.now.node c.args.client key c.args.row.0 c.args.unique (Some c.args.client) was
    (seen_node after _ refl key ∙ ap node_in puts.0 ∙ ap (λ (n : Node). Some n) c.leave-used.ensures.node)
    (λ other differ. seen_node after _ refl other ∙ ap node_in (puts.1 other differ) ∙ sym (seen_node c.self.inside.nodes old c.self.view_is other)))
