use Rattle.std.proofs.Common.{◌≡◌, ℕ, List, Option, Some, None, IfNone, sym, ap, subst, ◌∙◌}
use Rattle.std.specs.FinMap as map
use Rattle.key_index.specs.Index.{IsEntry}
use Rattle.key_index.specs.Places.{IsAbove}
use Rattle.key_index.proofs.Changes.{no_place}
use Rattle.key_index.proofs.Leasts.{first_entry, found_entry, no_entry}
use Rattle.key_index.proofs.NodesOf.{node_in, seen_node}
use Rattle.key_index.proofs.index.Index.least.Goals as goal

pub returns-in_err-keyed-clause-none : goal.returns-in_err-keyed-clause-none
returns-in_err-keyed-clause-none c =
    let index = c.args.self.now in
    let none : map.get index c.args.key.now ≡ None =
    ap (λ (k : List ℕ). map.get index k) (sym c.as_slice.ensures) ∙ seen_node c.self.inside.nodes index c.self.view_is c.as_slice.result.now ∙ ap node_in (sym c.in_err-keyed.ensures.value) in
    subst (λ (r : Option ℕ). IfNone r ((q : ℕ) → IsAbove c.args.above q → ¬ IsEntry index c.args.key.now q)) (sym c.from_residual.ensures)
    (λ q beyond entry. no_place index c.args.key.now q None none entry)

pub returns-clause-found : goal.returns-clause-found
returns-clause-found c =
    let index = c.args.self.now in
    let some : map.get index c.args.key.now ≡ Some c.in_ok-keyed.keyed.now.node =
    ap (λ (k : List ℕ). map.get index k) (sym c.as_slice.ensures) ∙ seen_node c.self.inside.nodes index c.self.view_is c.as_slice.result.now ∙ ap node_in (sym c.in_ok-keyed.ensures.value) in
    found_entry index c.args.key.now c.in_ok-keyed.keyed.now.node some c.least.result c.least.ensures.found

pub returns-clause-first : goal.returns-clause-first
returns-clause-first c =
    let index = c.args.self.now in
    let some : map.get index c.args.key.now ≡ Some c.in_ok-keyed.keyed.now.node =
    ap (λ (k : List ℕ). map.get index k) (sym c.as_slice.ensures) ∙ seen_node c.self.inside.nodes index c.self.view_is c.as_slice.result.now ∙ ap node_in (sym c.in_ok-keyed.ensures.value) in
    first_entry index c.args.key.now c.in_ok-keyed.keyed.now.node some c.args.above c.least.result c.least.ensures.first

pub returns-clause-none : goal.returns-clause-none
returns-clause-none c =
    let index = c.args.self.now in
    let some : map.get index c.args.key.now ≡ Some c.in_ok-keyed.keyed.now.node =
    ap (λ (k : List ℕ). map.get index k) (sym c.as_slice.ensures) ∙ seen_node c.self.inside.nodes index c.self.view_is c.as_slice.result.now ∙ ap node_in (sym c.in_ok-keyed.ensures.value) in
    no_entry index c.args.key.now c.in_ok-keyed.keyed.now.node some c.args.above c.least.result c.least.ensures.none
