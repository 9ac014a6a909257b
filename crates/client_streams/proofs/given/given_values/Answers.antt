use Rattle.std.proofs.Common.{◌≡◌, ◌++◌, ◌+◌, drop, List, Option, sym, ap, ◌∙◌}
use Rattle.std.specs.Prelude.{map, reverse}
use Rattle.std.proofs.Math.ListN.{drop_of_length-le}
use Rattle.std.proofs.lemmas.List.{append-nil, reverse-reverse}
use Rattle.abl_base.specs.declared.value.Value.{Value}
use Rattle.bound_tree.specs.declared.statement.Target.{Target}
use Rattle.block_meaning.specs.Streams.{pairs_of}
use Rattle.client_machine.specs.Config.{given_of}
use Rattle.client_machine.specs.declared.mode.changes.GivenValue.{GivenValue}
use Rattle.client_streams.proofs.GivenValues.{target_here}
use Rattle.client_streams.proofs.given.given_values.Goals as goal

pub loop-target-init : goal.loop-target-init
loop-target-init c = ap (λ (xs : List GivenValue). map given_of xs ++ pairs_of c.args.targets.now (reverse c.reverse.new.self.items)) c.new-given.ensures.items

pub loop-target-preserved : goal.loop-target-preserved
loop-target-preserved c =
    let ts = c.args.targets.now in
    let i = c.loop-target.target-index in
    let given = c.loop-target.given.items in
    let vs = reverse c.loop-target.values.items in
    c.in_ok-give_next.ensures (drop (i + 1) ts)
    ∙ ap (λ (xs : List (Option Target)). map given_of given ++ pairs_of xs vs) (sym (target_here ts i _ c.loop-target-test.true))
    ∙ c.loop-target.invariant

pub returns : goal.returns
returns c =
    let given = c.loop-target.given.items in
    let back : reverse c.reverse.new.self.items ≡ c.args.values.items = ap reverse c.reverse.ensures.items ∙ reverse-reverse c.args.values.items in
    let all : reverse c.reverse-2.new.self.items ≡ given = ap reverse c.reverse-2.ensures.items ∙ reverse-reverse given in
    ap (map given_of) all
    ∙ sym (append-nil (map given_of given))
    ∙ ap (λ (ts : List (Option Target)). map given_of given ++ pairs_of ts (reverse c.loop-target.values.items)) (sym (drop_of_length-le c.args.targets.now c.loop-target-test.false))
    ∙ c.loop-target.invariant
    ∙ ap (λ (vs : List (Option Value)). pairs_of c.args.targets.now vs) back
