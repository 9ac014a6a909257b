use Rattle.std.proofs.Common.{◌≡◌, ℕ, List, Bool, Option, Some, None, MatchOption, sym, ap, subst, ◌∙◌}
use Rattle.std.specs.FinMap as map
use Rattle.key_index.specs.Search.{BeginsWith, FindsNoneAmong, IsNextAmong}
use Rattle.key_index.proofs.NodesOf.{node_in, seen_node}
use Rattle.key_index.proofs.Nexts.{beside_above, beside_below, beside_nothing}
use Rattle.key_index.proofs.index.Index.beside.Goals as goal

pub returns-in_err-keyed : goal.returns-in_err-keyed
returns-in_err-keyed c =
    let index = c.args.self.now in
    let cursor = c.args.cursor.now in
    let none : map.get index cursor.key ≡ None =
    ap (λ (k : List ℕ). map.get index k) (sym c.as_slice.ensures) ∙ seen_node c.self.inside.nodes index c.self.view_is c.as_slice.result.now ∙ ap node_in (sym c.in_err-keyed.ensures.value) in
    subst (λ (r : Option ℕ). MatchOption r (FindsNoneAmong (λ key. key ≡ cursor.key) index (Some cursor) c.args.prefix.now c.args.forward)
    (λ row. IsNextAmong (λ key. key ≡ cursor.key) index (Some cursor) c.args.prefix.now c.args.forward cursor.key row)) (sym c.from_residual.ensures)
    (beside_nothing index cursor c.args.prefix.now c.args.forward none)

pub returns-then-forward : goal.returns-then-forward
returns-then-forward c =
    let index = c.args.self.now in
    let cursor = c.args.cursor.now in
    let some : map.get index cursor.key ≡ Some c.in_ok-keyed.keyed.now.node =
    ap (λ (k : List ℕ). map.get index k) (sym c.as_slice.ensures) ∙ seen_node c.self.inside.nodes index c.self.view_is c.as_slice.result.now ∙ ap node_in (sym c.in_ok-keyed.ensures.value) in
    let begins : BeginsWith cursor.key c.args.prefix.now =
    subst (λ (k : List ℕ). BeginsWith k c.args.prefix.now) c.as_slice-2.ensures
    (subst (λ (p : List ℕ). BeginsWith c.as_slice-2.result.now p) c.as_slice-3.ensures (c.begins_with.ensures.0 c.if-not-begins_with.false)) in
    subst (λ (f : Bool). MatchOption c.least.result (FindsNoneAmong (λ key. key ≡ cursor.key) index (Some cursor) c.args.prefix.now f)
    (λ row. IsNextAmong (λ key. key ≡ cursor.key) index (Some cursor) c.args.prefix.now f cursor.key row)) (sym c.if-forward.true)
    (beside_above index cursor c.args.prefix.now c.in_ok-keyed.keyed.now.node some begins c.least.result c.least.ensures.found c.least.ensures.beyond c.least.ensures.first c.least.ensures.none)

pub returns-else-forward : goal.returns-else-forward
returns-else-forward c =
    let index = c.args.self.now in
    let cursor = c.args.cursor.now in
    let some : map.get index cursor.key ≡ Some c.in_ok-keyed.keyed.now.node =
    ap (λ (k : List ℕ). map.get index k) (sym c.as_slice.ensures) ∙ seen_node c.self.inside.nodes index c.self.view_is c.as_slice.result.now ∙ ap node_in (sym c.in_ok-keyed.ensures.value) in
    let begins : BeginsWith cursor.key c.args.prefix.now =
    subst (λ (k : List ℕ). BeginsWith k c.args.prefix.now) c.as_slice-2.ensures
    (subst (λ (p : List ℕ). BeginsWith c.as_slice-2.result.now p) c.as_slice-3.ensures (c.begins_with.ensures.0 c.if-not-begins_with.false)) in
    subst (λ (f : Bool). MatchOption c.greatest.result (FindsNoneAmong (λ key. key ≡ cursor.key) index (Some cursor) c.args.prefix.now f)
    (λ row. IsNextAmong (λ key. key ≡ cursor.key) index (Some cursor) c.args.prefix.now f cursor.key row)) (sym c.if-forward.false)
    (beside_below index cursor c.args.prefix.now c.in_ok-keyed.keyed.now.node some begins c.greatest.result c.greatest.ensures.found c.greatest.ensures.beyond c.greatest.ensures.last c.greatest.ensures.none)
