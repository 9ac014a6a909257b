use Rattle.std.proofs.Common.{◌∙◌}
use Rattle.run_report.proofs.LineEnds.{line_end-last}
use Rattle.run_report.proofs.report.line_end.Goals as goal

pub returns-in-len1-up : goal.returns-in-len1-up
returns-in-len1-up c = c.line_end_after_byte.ensures ∙ line_end-last _ c.in-len1-up.len_at_least
