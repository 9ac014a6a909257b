use Rattle.std.proofs.Common.{◌-◌, length}
use Rattle.syntax_tree.specs.Typed.{expression_of, linked_of}
use Rattle.syntax_reader.specs.Expressions.{AreOr, AreAnd, AreAdded, AreMultiplied}
use Rattle.syntax_reader.specs.Views.{source_of}
use Rattle.syntax_reader.proofs.Chains.{InChain, InArguments}
use Rattle.syntax_reader.proofs.expression.+expressions.Given as goal

abbrev pub decreases-expression : goal.decreases-expression
decreases-expression l = length l.reader.now.nodes.now - l.n

abbrev pub decreases-or_others : goal.decreases-or_others
decreases-or_others l = length l.reader.now.nodes.now - l.begun

abbrev pub decreases-conjunction : goal.decreases-conjunction
decreases-conjunction l = length l.reader.now.nodes.now - l.n

abbrev pub decreases-and_others : goal.decreases-and_others
decreases-and_others l = length l.reader.now.nodes.now - l.begun

abbrev pub decreases-negation : goal.decreases-negation
decreases-negation l = length l.reader.now.nodes.now - l.n

abbrev pub decreases-compared_with : goal.decreases-compared_with
decreases-compared_with l = length l.reader.now.nodes.now - l.n

abbrev pub decreases-sum : goal.decreases-sum
decreases-sum l = length l.reader.now.nodes.now - l.n

abbrev pub decreases-added_others : goal.decreases-added_others
decreases-added_others l = length l.reader.now.nodes.now - l.begun

abbrev pub decreases-product : goal.decreases-product
decreases-product l = length l.reader.now.nodes.now - l.n

abbrev pub decreases-multiplied_others : goal.decreases-multiplied_others
decreases-multiplied_others l = length l.reader.now.nodes.now - l.begun

abbrev pub decreases-signed : goal.decreases-signed
decreases-signed l = length l.reader.now.nodes.now - l.n

abbrev pub decreases-primary : goal.decreases-primary
decreases-primary l = length l.reader.now.nodes.now - l.n

abbrev pub decreases-more_arguments : goal.decreases-more_arguments
decreases-more_arguments l = length l.reader.now.nodes.now - l.begun

abbrev pub invariant-or_others-loop-k : goal.invariant-or_others-loop-k
invariant-or_others-loop-k l = InChain (AreOr (source_of l.reader)) l.begun (expression_of l.fn.first) l.n (linked_of l.rest.items (expression_of l.first))

abbrev pub decreases-or_others-loop-k : goal.decreases-or_others-loop-k
decreases-or_others-loop-k l = length l.reader.nodes.now - l.n

abbrev pub invariant-and_others-loop-k : goal.invariant-and_others-loop-k
invariant-and_others-loop-k l = InChain (AreAnd (source_of l.reader)) l.begun (expression_of l.fn.first) l.n (linked_of l.rest.items (expression_of l.first))

abbrev pub decreases-and_others-loop-k : goal.decreases-and_others-loop-k
decreases-and_others-loop-k l = length l.reader.nodes.now - l.n

abbrev pub invariant-added_others-loop-k : goal.invariant-added_others-loop-k
invariant-added_others-loop-k l = InChain (AreAdded (source_of l.reader)) l.begun (expression_of l.fn.first) l.n (linked_of l.rest.items (expression_of l.first))

abbrev pub decreases-added_others-loop-k : goal.decreases-added_others-loop-k
decreases-added_others-loop-k l = length l.reader.nodes.now - l.n

abbrev pub invariant-multiplied_others-loop-k : goal.invariant-multiplied_others-loop-k
invariant-multiplied_others-loop-k l = InChain (AreMultiplied (source_of l.reader)) l.begun (expression_of l.fn.first) l.n (linked_of l.rest.items (expression_of l.first))

abbrev pub decreases-multiplied_others-loop-k : goal.decreases-multiplied_others-loop-k
decreases-multiplied_others-loop-k l = length l.reader.nodes.now - l.n

abbrev pub invariant-more_arguments-loop-k : goal.invariant-more_arguments-loop-k
invariant-more_arguments-loop-k l = InArguments (source_of l.reader) l.begun (expression_of l.fn.first) l.n l.found.items

abbrev pub decreases-more_arguments-loop-k : goal.decreases-more_arguments-loop-k
decreases-more_arguments-loop-k l = length l.reader.nodes.now - l.n
