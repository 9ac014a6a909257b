use Rattle.std.proofs.Common.{arith}
use Rattle.syntax_tree.specs.Typed.{expression_of}
use Rattle.syntax_reader.specs.Expressions.{AreOr, AreAnd, AreAdded, AreMultiplied}
use Rattle.syntax_reader.specs.Expressions as a
use Rattle.syntax_reader.specs.Views.{source_of}
use Rattle.syntax_reader.proofs.Chains.{chain_begins, chain_done, or_grows, and_grows, added_grows, multiplied_grows, arguments_begin, arguments_grow, arguments_done}
use Rattle.syntax_reader.proofs.expression.+expressions.Goals as goal

pub expression-returns-in-Some-clause-is : goal.expression-returns-in-Some-clause-is
expression-returns-in-Some-clause-is t c = rw c.in_ok-made.ensures (a.choice c.in-Some.ensures.is c.in_ok-at.ensures c.in_ok-test.ensures.is c.in_ok-one.ensures.is c.in_ok-other.ensures.is)

pub expression-returns-clause-is : goal.expression-returns-clause-is
expression-returns-clause-is t c = a.disjunction c.in_ok-k.ensures.is c.in_ok-first.ensures.is c.in_ok-all.ensures.is

pub conjunction-returns-clause-is : goal.conjunction-returns-clause-is
conjunction-returns-clause-is t c = a.conjunction c.in_ok-k.ensures.is c.in_ok-first.ensures.is c.in_ok-all.ensures.is

pub negation-returns-in-Some-clause-is : goal.negation-returns-in-Some-clause-is
negation-returns-in-Some-clause-is t c = rw c.in_ok-made.ensures (a.negated c.in-Some.ensures.is c.in_ok-at.ensures c.in_ok-inner.ensures.is)

pub negation-returns-clause-is : goal.negation-returns-clause-is
negation-returns-clause-is t c = a.compared c.in_ok-k.ensures.is c.in_ok-first.ensures.is c.in_ok-all.ensures.is

pub compared_with-returns-in-Some-clause-is : goal.compared_with-returns-in-Some-clause-is
compared_with-returns-in-Some-clause-is t c = rw c.in_ok-made.ensures (a.with_other c.in-Some.ensures.is c.in_ok-operator.ensures c.in_ok-operand.ensures.is)

pub compared_with-returns-clause-is : goal.compared_with-returns-clause-is
compared_with-returns-clause-is t c = a.alone c.in_ok-k.ensures.is

pub sum-returns-clause-is : goal.sum-returns-clause-is
sum-returns-clause-is t c = a.sum c.in_ok-k.ensures.is c.in_ok-first.ensures.is c.in_ok-all.ensures.is

pub product-returns-clause-is : goal.product-returns-clause-is
product-returns-clause-is t c = a.product c.in_ok-k.ensures.is c.in_ok-first.ensures.is c.in_ok-all.ensures.is

pub signed-returns-in-Some-clause-is : goal.signed-returns-in-Some-clause-is
signed-returns-in-Some-clause-is t c = a.signed c.in-Some.ensures.is c.in_ok-inner.ensures.is c.in_ok-made.ensures

pub signed-returns-clause-is : goal.signed-returns-clause-is
signed-returns-clause-is t c = a.unsigned c.in_ok-k.ensures.is c.in_ok-inner-2.ensures.is

pub primary-returns-in-Some-clause-is : goal.primary-returns-in-Some-clause-is
primary-returns-in-Some-clause-is t c = a.name c.in-Some.ensures.is c.in_ok-word.ensures

pub primary-returns-in-Some-uses-clause-is : goal.primary-returns-in-Some-uses-clause-is
primary-returns-in-Some-uses-clause-is t c = a.qualified c.in-Some-uses.ensures.is c.in_ok-named.ensures

pub primary-returns-in-Some-uses-2-clause-is : goal.primary-returns-in-Some-uses-2-clause-is
primary-returns-in-Some-uses-2-clause-is t c = rw c.in_ok-made.ensures (a.grouped c.in-Some-uses-2.ensures.is c.in_ok-at.ensures c.in_ok-within.ensures.is)

pub primary-returns-in-Some-uses-3-clause-is : goal.primary-returns-in-Some-uses-3-clause-is
primary-returns-in-Some-uses-3-clause-is t c = rw c.in_ok-made-2.ensures (a.string c.in-Some-uses-3.ensures.is c.in_ok-at-2.ensures c.in_ok-shown.ensures.is c.in_ok-mask.ensures.is)

pub primary-returns-in-Some-uses-4-clause-is : goal.primary-returns-in-Some-uses-4-clause-is
primary-returns-in-Some-uses-4-clause-is t c = rw (c.call-made.ensures, c.in_ok-arguments.ensures.is.is) (a.call c.in-Some-uses-4.ensures.is c.in_ok-at-3.ensures c.in_ok-function.ensures c.in_ok-first.ensures.is c.in_ok-arguments.ensures.is.read)

pub or_others-loop-k-init : goal.or_others-loop-k-init
or_others-loop-k-init t c = chain_begins (AreOr (source_of c.args.reader.now)) c.args.begun (expression_of c.args.first) c.new-rest.result.items c.new-rest.ensures.items

pub or_others-loop-k-preserved : goal.or_others-loop-k-preserved
or_others-loop-k-preserved t c = or_grows (source_of c.args.reader.now) c.args.begun c.loop-k.n c.in-Some.k c.in_ok-operand.end (expression_of c.args.first) (expression_of c.loop-k.first-1) c.in_ok-at.at c.loop-k.rest.items c.push.new.self.items c.in_ok-operand.operand c.loop-k.invariant c.in-Some.ensures.is c.in_ok-at.ensures c.in_ok-operand.ensures.is (omega (arith, c.in_ok-operand.ensures.after)) c.in_ok-push.ensures.items

pub or_others-returns-clause-is : goal.or_others-returns-clause-is
or_others-returns-clause-is t c = chain_done (expression_of c.in_ok-all.all) c.loop-k.invariant c.in_ok-all.ensures (a.no_or c.in_ok-k.ensures.is)

pub and_others-loop-k-init : goal.and_others-loop-k-init
and_others-loop-k-init t c = chain_begins (AreAnd (source_of c.args.reader.now)) c.args.begun (expression_of c.args.first) c.new-rest.result.items c.new-rest.ensures.items

pub and_others-loop-k-preserved : goal.and_others-loop-k-preserved
and_others-loop-k-preserved t c = and_grows (source_of c.args.reader.now) c.args.begun c.loop-k.n c.in-Some.k c.in_ok-operand.end (expression_of c.args.first) (expression_of c.loop-k.first-1) c.in_ok-at.at c.loop-k.rest.items c.push.new.self.items c.in_ok-operand.operand c.loop-k.invariant c.in-Some.ensures.is c.in_ok-at.ensures c.in_ok-operand.ensures.is (omega (arith, c.in_ok-operand.ensures.after)) c.in_ok-push.ensures.items

pub and_others-returns-clause-is : goal.and_others-returns-clause-is
and_others-returns-clause-is t c = chain_done (expression_of c.in_ok-all.all) c.loop-k.invariant c.in_ok-all.ensures (a.no_and c.in_ok-k.ensures.is)

pub added_others-loop-k-init : goal.added_others-loop-k-init
added_others-loop-k-init t c = chain_begins (AreAdded (source_of c.args.reader.now)) c.args.begun (expression_of c.args.first) c.new-rest.result.items c.new-rest.ensures.items

pub added_others-loop-k-preserved : goal.added_others-loop-k-preserved
added_others-loop-k-preserved t c = added_grows (source_of c.args.reader.now) c.args.begun c.loop-k.n c.in-Some.k c.in_ok-operand.end (expression_of c.args.first) (expression_of c.loop-k.first-1) c.in_ok-operator.operator c.in_ok-operator.at c.loop-k.rest.items c.push.new.self.items c.in_ok-operand.operand c.loop-k.invariant c.in-Some.ensures.is c.in_ok-operator.ensures c.in_ok-operand.ensures.is (omega (arith, c.in_ok-operand.ensures.after)) c.in_ok-push.ensures.items

pub added_others-returns-clause-is : goal.added_others-returns-clause-is
added_others-returns-clause-is t c = chain_done (expression_of c.in_ok-all.all) c.loop-k.invariant c.in_ok-all.ensures (a.none_added c.in_ok-k.ensures.is)

pub multiplied_others-loop-k-init : goal.multiplied_others-loop-k-init
multiplied_others-loop-k-init t c = chain_begins (AreMultiplied (source_of c.args.reader.now)) c.args.begun (expression_of c.args.first) c.new-rest.result.items c.new-rest.ensures.items

pub multiplied_others-loop-k-preserved : goal.multiplied_others-loop-k-preserved
multiplied_others-loop-k-preserved t c = multiplied_grows (source_of c.args.reader.now) c.args.begun c.loop-k.n c.in-Some.k c.in_ok-operand.end (expression_of c.args.first) (expression_of c.loop-k.first-1) c.in_ok-operator.operator c.in_ok-operator.at c.loop-k.rest.items c.push.new.self.items c.in_ok-operand.operand c.loop-k.invariant c.in-Some.ensures.is c.in_ok-operator.ensures c.in_ok-operand.ensures.is (omega (arith, c.in_ok-operand.ensures.after)) c.in_ok-push.ensures.items

pub multiplied_others-returns-clause-is : goal.multiplied_others-returns-clause-is
multiplied_others-returns-clause-is t c = chain_done (expression_of c.in_ok-all.all) c.loop-k.invariant c.in_ok-all.ensures (a.no_factor c.in_ok-k.ensures.is)

pub more_arguments-loop-k-init : goal.more_arguments-loop-k-init
more_arguments-loop-k-init t c = arguments_begin (source_of c.args.reader.now) c.args.begun c.args.first c.new-found.result.items c.push.new.self.items c.new-found.ensures.items c.in_ok-push.ensures.items

pub more_arguments-loop-k-preserved : goal.more_arguments-loop-k-preserved
more_arguments-loop-k-preserved t c = arguments_grow (source_of c.args.reader.now) c.args.begun c.loop-k.n c.in-Some.k c.in_ok-argument.end (expression_of c.args.first) c.loop-k.found.items c.push-in-Some.new.self.items c.in_ok-argument.argument c.loop-k.invariant c.in-Some.ensures.is c.in_ok-argument.ensures.is (omega (arith, c.in_ok-argument.ensures.after)) c.in_ok-push-2.ensures.items

pub more_arguments-returns-clause-is : goal.more_arguments-returns-clause-is
more_arguments-returns-clause-is t c = arguments_done (source_of c.args.reader.now) c.args.begun c.loop-k.n _ (expression_of c.args.first) c.loop-k.found.items c.loop-k.invariant c.in_ok-k.ensures.is
