use Rattle.std.proofs.Common.{Bool, cond, ap, sym, subst, ◌≡◌, ◌∙◌}
use Rattle.std.specs.Prelude.{Option, Some, None, ℕ}
use Rattle.std.specs.FinMap as map
use Rattle.std.proofs.lemmas.List.{get_or_default}
use Rattle.key_index.specs.Index.{Keys, Puts}
use Rattle.row_indexes.specs.Places.{index_at, owner_after}
use Rattle.row_indexes.proofs.PlaceMoves.{places_changed, keepers_kept}
use Rattle.row_indexes.proofs.index_changes.leaving.leave_one.Goals as goal

pub returns-in-Some-clause-places : goal.returns-in-Some-clause-places
returns-in-Some-clause-places c =
    let is : c.in-Some.index.now ≡ index_at c.args.indexes.now.items c.args.at.now.index =
    c.in-Some.ensures.value ∙ get_or_default c.args.indexes.now.items c.args.at.now.index c.in-Some.index.now map.empty c.requires.within in
    let owner : Some c.args.client ≡ owner_after c.args.client c.args.at.now = sym (ap (λ (b : Bool). cond b None (Some c.args.client)) c.requires.leaves) in
    places_changed c.args.indexes.now.items c.args.at.now c.args.row c.args.client (owner_after c.args.client c.args.at.now) c.leave.new.self c.requires.within
    (subst (λ (i : Keys). Puts i c.args.client c.args.at.now.key c.args.row c.args.at.now.unique (owner_after c.args.client c.args.at.now) c.leave.new.self) is
    (subst (λ (o : Option ℕ). Puts c.in-Some.index.now c.args.client c.args.at.now.key c.args.row c.args.at.now.unique o c.leave.new.self) owner c.leave.ensures))

pub returns-in-Some-clause-keepers : goal.returns-in-Some-clause-keepers
returns-in-Some-clause-keepers c =
    let is : c.in-Some.index.now ≡ index_at c.args.indexes.now.items c.args.at.now.index =
    c.in-Some.ensures.value ∙ get_or_default c.args.indexes.now.items c.args.at.now.index c.in-Some.index.now map.empty c.requires.within in
    let owner : Some c.args.client ≡ owner_after c.args.client c.args.at.now = sym (ap (λ (b : Bool). cond b None (Some c.args.client)) c.requires.leaves) in
    keepers_kept c.args.indexes.now.items c.args.at.now c.args.row c.args.client (owner_after c.args.client c.args.at.now) c.leave.new.self c.requires.within
    (subst (λ (i : Keys). Puts i c.args.client c.args.at.now.key c.args.row c.args.at.now.unique (owner_after c.args.client c.args.at.now) c.leave.new.self) is
    (subst (λ (o : Option ℕ). Puts c.in-Some.index.now c.args.client c.args.at.now.key c.args.row c.args.at.now.unique o c.leave.new.self) owner c.leave.ensures))
