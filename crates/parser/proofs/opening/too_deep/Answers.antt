use Rattle.std.proofs.Common.{◌||◌, ◌&&◌, sym, ◌∙◌, ap}
use Rattle.std.specs.Prelude.{◌==◌}
use Rattle.parser.specs.Grammar.{too_deep, expression}
use Rattle.parser.proofs.opening.too_deep.Goals as goal

pub returns-then-none_left : goal.returns-then-none_left
unfolding too_deep
returns-then-none_left c = ap (λ b. b || (expression c.args.r && c.args.room.expressions == 0)) (sym c.if-none_left.true ∙ c.none_left.ensures ∙ ap (λ b. b && c.args.room.statements == 0) c.is_statement.ensures)

pub returns-else-none_left : goal.returns-else-none_left
unfolding too_deep
returns-else-none_left c =
    (c.none_left-else-none_left.ensures ∙ ap (λ b. b && c.args.room.expressions == 0) c.is_expression.ensures)
    ∙ ap (λ b. b || (expression c.args.r && c.args.room.expressions == 0)) (sym c.if-none_left.false ∙ c.none_left.ensures ∙ ap (λ b. b && c.args.room.statements == 0) c.is_statement.ensures)
