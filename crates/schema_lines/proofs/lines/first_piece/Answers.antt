use Rattle.schema_lines.proofs.Pieces.{pieces-none, pieces-some}
use Rattle.schema_lines.proofs.lines.first_piece.Goals as goal

pub returns-in-empty-clause-pieces : goal.returns-in-empty-clause-pieces
returns-in-empty-clause-pieces c =
    pieces-none c.args.text.now c.after_line-end.result.now c.front_of-line.result.now c.after_line-end.ensures.rest c.front_of-line.ensures c.in-empty.len_below

pub returns-in-len1-up-clause-pieces : goal.returns-in-len1-up-clause-pieces
returns-in-len1-up-clause-pieces c =
    pieces-some c.args.text.now c.after_line-end.result.now c.front_of-line.result.now c.after_line-end.ensures.rest c.front_of-line.ensures c.in-len1-up.len_at_least
