use Rattle.std.proofs.Common.{◌≡◌, refl}
use Rattle.syntax_tree.specs.Syntax.{Program}
use Rattle.syntax_reader.specs.Nodes.{Source}
use Rattle.syntax_reader.specs.Statements.{IsProgram}
use Rattle.syntax_reader.proofs.SameStatements.{same_program}
use Rattle.syntax_reader.proofs.laws.one_program.Goals as goal

equal : (c : Source) (x y : Program) → IsProgram c x → IsProgram c y → x ≡ y
equal c x y h g = same_program h g (λ (z : Program). z ≡ y) refl

pub returns : goal.returns
returns c = equal
