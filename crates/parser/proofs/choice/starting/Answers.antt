use Rattle.std.proofs.Common.{arith}
use Rattle.std.proofs.Math.Decide.{dec_lt}
use Rattle.std.proofs.lemmas.Bool.{and_left}
use Rattle.parser.proofs.Flags.{nonterminals_differ}
use Rattle.parser.proofs.choice.starting.Goals as goal

pub loop-r-init : goal.loop-r-init
loop-r-init c = λ q h. and_left _ _ (nonterminals_differ _ _ (λ e. absurd (let b = c.first_row-r.ensures.before q (let w = c.first_row-r.ensures.below in omega arith) e in omega arith)))

pub returns-clause-none : goal.returns-clause-none
returns-clause-none c = λ q w. elim (dec_lt q c.loop-r.r) [
  | yes h ↦ c.loop-r.invariant q h
  | no h ↦ and_left _ _ (nonterminals_differ _ _ (λ e. absurd (let b = c.after_rows-r-end.ensures.beyond q w e in let t = c.loop-r-test.false in omega arith)))
]
