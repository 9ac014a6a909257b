use Rattle.std.proofs.Common.{◌<◌, length, refl, arith, subst, ◌∙◌}
use Rattle.std.specs.FinMap as map
use Rattle.std.proofs.lemmas.List.{get_or_default}
use Rattle.std.proofs.lemmas.Result.{on_ok_weaker}
use Rattle.key_index.specs.Index.{Keys, Puts}
use Rattle.row_indexes.specs.Places.{owner_after}
use Rattle.row_indexes.proofs.PlaceMoves.{places_changed, keepers_kept}
use Rattle.row_indexes.proofs.index_changes.entering.enter_one.Goals as goal

pub returns-in-Some-clause-places : goal.returns-in-Some-clause-places
returns-in-Some-clause-places c =
    let within : c.args.at.now.index < length c.args.indexes.now.items =
    let below = c.in-Some.ensures.variant.0 refl in let len = c.args.indexes.now.ok.0 in omega (arith, below, len) in
    on_ok_weaker c.enter_in.result (λ puts.
    places_changed c.args.indexes.now.items c.args.at.now c.args.row c.args.client (owner_after c.args.client c.args.at.now) c.enter_in.new.index within
    (subst (λ (i : Keys). Puts i c.args.client c.args.at.now.key c.args.row c.args.at.now.unique (owner_after c.args.client c.args.at.now) c.enter_in.new.index)
    (c.in-Some.ensures.value ∙ get_or_default c.args.indexes.now.items c.args.at.now.index c.in-Some.index.now map.empty within) puts)) c.enter_in.ensures.ok

pub returns-in-Some-clause-keepers : goal.returns-in-Some-clause-keepers
returns-in-Some-clause-keepers c =
    let within : c.args.at.now.index < length c.args.indexes.now.items =
    let below = c.in-Some.ensures.variant.0 refl in let len = c.args.indexes.now.ok.0 in omega (arith, below, len) in
    on_ok_weaker c.enter_in.result (λ puts.
    keepers_kept c.args.indexes.now.items c.args.at.now c.args.row c.args.client (owner_after c.args.client c.args.at.now) c.enter_in.new.index within
    (subst (λ (i : Keys). Puts i c.args.client c.args.at.now.key c.args.row c.args.at.now.unique (owner_after c.args.client c.args.at.now) c.enter_in.new.index)
    (c.in-Some.ensures.value ∙ get_or_default c.args.indexes.now.items c.args.at.now.index c.in-Some.index.now map.empty within) puts)) c.enter_in.ensures.ok
