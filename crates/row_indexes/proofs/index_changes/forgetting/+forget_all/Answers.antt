use Rattle.std.proofs.Common.{◌≡◌, List, ◌∷◌, ap, ◌∙◌, subst}
use Rattle.row_indexes.specs.declared.moves.Move.{Move}
use Rattle.row_indexes.specs.Places.{owner_after, with_place}
use Rattle.row_indexes.specs.Making.{kept_after, made, with_keeper}
use Rattle.row_indexes.specs.declared.index_changes.entering.Before.{Before}
use Rattle.row_indexes.specs.index_changes.Entering.{AreBefore}
use Rattle.row_indexes.proofs.index_changes.forgetting.+forget_all.Goals as goal

pub returns-clause-forgotten : goal.returns-clause-forgotten
returns-clause-forgotten t c P K before places keepers =
    let moves : c.args.moves.now ≡ c.in-Some.first.now ∷ c.in-Some.later.now = c.in-Some.ensures.cases.0 in
    let list : c.args.before.now ≡ c.in-Some-split_first.was.now ∷ c.in-Some-split_first.others.now = c.in-Some-split_first.ensures.cases.0 in
    let parts : AreBefore c.args.client c.args.row (c.in-Some.first.now ∷ c.in-Some.later.now) (c.in-Some-split_first.was.now ∷ c.in-Some-split_first.others.now) P K =
    subst (λ (ms : List Move). AreBefore c.args.client c.args.row ms (c.in-Some-split_first.was.now ∷ c.in-Some-split_first.others.now) P K) moves
    (subst (λ (bs : List Before). AreBefore c.args.client c.args.row c.args.moves.now bs P K) list before) in
    let so_far = c.forget_all.ensures.forgotten (with_place P c.in-Some.first.now c.args.row (owner_after c.args.client c.in-Some.first.now)) (with_keeper K c.in-Some.first.now c.args.client) parts.1
    (places ∙ ap (λ (ms : List Move). made c.args.client c.args.row ms P) moves) (keepers ∙ ap (λ (ms : List Move). kept_after c.args.client ms K) moves) in
    c.forget_one.ensures.forgotten P K parts.0 so_far.0 so_far.1
