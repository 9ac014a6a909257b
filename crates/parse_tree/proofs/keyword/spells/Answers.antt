use Rattle.std.proofs.Common.{◌≡◌, ◌<◌, ◌∙◌, length, sym, arith}
use Rattle.parse_tree.proofs.Spelling.{all_so_far, next_other, next_same, other_length}
use Rattle.parse_tree.proofs.keyword.spells.Goals as goal

pub returns-then-capitals-word : goal.returns-then-capitals-word
returns-then-capitals-word c = other_length _ _ c.if-capitals-word.true

pub returns-then-capitals-i : goal.returns-then-capitals-i
returns-then-capitals-i c =
    let e = c.loop-i.invariant.same_length in
    let h : c.loop-i.i < length c.args.capitals.now = omega arith in
    sym (c.loop-i.invariant.so_far ∙ next_other c.args.capitals.now c.args.word.now c.loop-i.i h c.loop-i-test.true (λ q. c.if-capitals-i.true (q ∙ sym c.to_ascii_uppercase.ensures.value)))

pub loop-i-preserved : goal.loop-i-preserved
loop-i-preserved c =
    let e = c.loop-i.invariant.same_length in
    let h : c.loop-i.i < length c.args.capitals.now = omega arith in
    record {
      same_length = e;
      so_far = c.loop-i.invariant.so_far ∙ next_same c.args.capitals.now c.args.word.now c.loop-i.i h c.loop-i-test.true (c.if-capitals-i.false ∙ c.to_ascii_uppercase.ensures.value);
    }

pub returns : goal.returns
returns c =
    let q : length c.args.word.now ≡ c.loop-i.i = omega arith in
    sym (c.loop-i.invariant.so_far ∙ all_so_far c.args.capitals.now c.args.word.now c.loop-i.i c.loop-i.invariant.same_length q)
