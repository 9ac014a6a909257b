use Rattle.syntax_tree.specs.Typed.{record_option_of}
use Rattle.syntax_reader.specs.Plain.{AreFindOptions}
use Rattle.syntax_reader.specs.Views.{source_of}
use Rattle.syntax_reader.proofs.Rows.{mapped_starts, option_more, options_done}
use Rattle.syntax_reader.proofs.record_statement.find_options.Goals as goal

pub loop-found-init : goal.loop-found-init
loop-found-init c = mapped_starts record_option_of (AreFindOptions (source_of c.args.reader.now)) c.args.begun c.new-found.result.items c.new-found.ensures.items

pub loop-found-preserved : goal.loop-found-preserved
loop-found-preserved c =
    option_more record_option_of (source_of c.args.reader.now) c.args.begun c.loop-found.n c.in-Some.end c.loop-found.found.items c.push.new.self.items c.in-Some.one c.loop-found.invariant
    (rw c.in-Some.is at c.in_ok-one.ensures.is) (rw c.in-Some.is at c.in_ok-one.ensures.after) c.in_ok-push.ensures.items

pub returns-clause-is : goal.returns-clause-is
returns-clause-is c = options_done (source_of c.args.reader.now) _ _ _ _ c.loop-found.invariant c.in_ok-k.ensures.is
