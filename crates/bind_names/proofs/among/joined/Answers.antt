use Rattle.std.proofs.Common.{subst}
use Rattle.bind_names.specs.Views.{IsHaving, buffer_of}
use Rattle.bind_names.proofs.ByTables.{one_more_than, several_and, two_ones}
use Rattle.bind_names.proofs.among.joined.Goals as goal

pub returns-in-One-other : goal.returns-in-One-other
returns-in-One-other c = λ xs ys h k. two_ones xs ys (buffer_of c.in-One.buffer) (buffer_of c.in-One-other.field-0) (subst (IsHaving xs) c.in-One.is h) (subst (IsHaving ys) c.in-One-other.is k)

pub returns-in-Several-other : goal.returns-in-Several-other
returns-in-Several-other c = λ xs ys h k. one_more_than xs ys (buffer_of c.in-One.buffer) (subst (IsHaving xs) c.in-One.is h) (subst (IsHaving ys) c.in-Several-other.is k)

pub returns-in-Several : goal.returns-in-Several
returns-in-Several c = λ xs ys h k. several_and xs ys (subst (IsHaving xs) c.in-Several.is h)
