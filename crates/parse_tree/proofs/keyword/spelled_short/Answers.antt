use Rattle.std.proofs.Common.{◌∙◌, sym, ap}
use Rattle.parse_tree.specs.Keywords.{spells}
use Rattle.parse_tree.proofs.Spelling.{short_ends, short_found, short_passed}
use Rattle.parse_tree.proofs.keyword.spelled_short.Goals as goal

pub returns-then-spells : goal.returns-then-spells
returns-then-spells c =
    sym (c.loop-kind.invariant ∙ short_found _ _ _ c.args.word.now c.loop-kind-test.true (ap (λ x. spells x c.args.word.now) (sym c.abbreviation.ensures) ∙ sym c.spells.ensures ∙ c.if-spells.true))

pub loop-kind-preserved : goal.loop-kind-preserved
loop-kind-preserved c =
    c.loop-kind.invariant ∙ short_passed _ _ _ c.args.word.now c.loop-kind-test.true (ap (λ x. spells x c.args.word.now) (sym c.abbreviation.ensures) ∙ sym c.spells.ensures ∙ c.if-spells.false)

pub returns : goal.returns
returns c = sym (c.loop-kind.invariant ∙ short_ends _ _ c.args.word.now c.loop-kind-test.false)
