use Rattle.std.proofs.Common.{◌∙◌, ap, subst}
use Rattle.parser.specs.Closing.{laid}
use Rattle.parser.specs.Grammar.{kinds}
use Rattle.parser.specs.Violations.{IsFirst}
use Rattle.parser.proofs.NodeOrder.{tree_of, shallow_of}
use Rattle.parser.proofs.syntax.parse.Goals as goal

pub returns-clause-spelled : goal.returns-clause-spelled
returns-clause-spelled c = tree_of _ _ c.in-Ok.used.items _ c.as_slice.ensures.items c.in-Ok.ensures.spelled (c.from_vec.ensures ∙ c.in_ok-nodes_of.ensures ∙ ap laid c.as_slice-2.ensures.value)

pub returns-clause-shallow : goal.returns-clause-shallow
returns-clause-shallow c = shallow_of _ _ c.in-Ok.used.items _ c.as_slice.ensures.items c.in-Ok.ensures.spelled c.in-Ok.ensures.shallow

pub returns-in-Err-clause-refused : goal.returns-in-Err-clause-refused
returns-in-Err-clause-refused c = λ broken place e. subst (λ ts. IsFirst (kinds ts) broken place) c.as_slice.ensures.items (c.in-Err.ensures.refused broken place (cc))
