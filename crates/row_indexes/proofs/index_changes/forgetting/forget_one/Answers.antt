use Rattle.std.proofs.Common.{◌≡◌, ◌<◌, length, true, false, refl, subst, ◌∙◌, arith}
use Rattle.std.specs.Prelude.{IsTrue, Some}
use Rattle.std.specs.FinMap as map
use Rattle.std.proofs.lemmas.List.{get_or_default}
use Rattle.key_index.specs.Index.{Forgets, IsEntry, Keys, NoOtherKeeps, Puts}
use Rattle.row_indexes.specs.Places.{index_at}
use Rattle.row_indexes.proofs.IndexChangesLemmas.Restored.{forgotten, is_within}
use Rattle.row_indexes.proofs.index_changes.forgetting.forget_one.Goals as goal

pub returns-in-None-clause-forgotten : goal.returns-in-None-clause-forgotten
returns-in-None-clause-forgotten c P K before places keepers =
    absurd (is_within c.args.indexes.now.items c.args.client c.args.row c.args.at.now c.args.was P K before places keepers
    (let out = c.in-None.ensures.variant in grind arith))

pub returns-in-Some-clause-forgotten : goal.returns-in-Some-clause-forgotten
returns-in-Some-clause-forgotten c P K before places keepers =
    let within : c.args.at.now.index < length c.args.indexes.now.items =
    let below = c.in-Some.ensures.variant.0 refl in let len = c.args.indexes.now.ok.0 in omega (arith, below, len) in
    let is : c.in-Some.index.now ≡ index_at c.args.indexes.now.items c.args.at.now.index = c.in-Some.ensures.value ∙ get_or_default c.args.indexes.now.items c.args.at.now.index c.in-Some.index.now map.empty within in
    forgotten c.args.indexes.now.items c.args.client c.args.row c.args.at.now c.args.was P K before places keepers c.forget_in.new.index within
    (subst (λ (i : Keys). IsEntry i c.args.at.now.key c.args.row → c.args.was.left ≡ false → Forgets i c.args.at.now.key c.args.row c.args.was.keeper c.forget_in.new.index) is c.forget_in.ensures.empty)
    (subst (λ (i : Keys). IsEntry i c.args.at.now.key c.args.row → c.args.was.left ≡ true → (IsTrue c.args.at.now.unique → NoOtherKeeps i c.args.client c.args.at.now.key)
    → Puts i c.args.client c.args.at.now.key c.args.row c.args.at.now.unique (Some c.args.client) c.forget_in.new.index) is c.forget_in.ensures.left)
