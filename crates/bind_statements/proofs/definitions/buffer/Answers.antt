use Rattle.abl_base.specs.declared.rule.Rule.TheVariants.{Y3}
use Rattle.bind_statements.proofs.Past.{skipped_after}
use Rattle.bind_statements.proofs.definitions.buffer.Goals as goal

pub returns-clause-judged : goal.returns-clause-judged
returns-clause-judged c =
    skipped_after _ _ _ c.is_newly_taken-taken.result Y3 c.args.name.now.at c.args.notes.now c.add_buffer.new.notes c.unless.new.self
    c.in_ok-add_buffer.ensures.judged c.is_newly_taken-taken.ensures c.unless.ensures.first c.unless.ensures.names
