use Rattle.syntax_reader.specs.Headers.{AreNames}
use Rattle.syntax_reader.specs.Views.{source_of}
use Rattle.syntax_reader.proofs.Rows.{name_more, names_done, rest_starts}
use Rattle.syntax_reader.proofs.header.more_names.Goals as goal

pub loop-k-init : goal.loop-k-init
loop-k-init c = rest_starts (AreNames (source_of c.args.reader.now)) c.args.begun c.args.first c.new-found.result.items c.push.new.self.items c.new-found.ensures.items c.in_ok-push.ensures.items

pub loop-k-preserved : goal.loop-k-preserved
loop-k-preserved c = name_more (source_of c.args.reader.now) c.args.begun c.loop-k.n c.in-Some.k c.args.first c.loop-k.found.items c.push-in-Some.new.self.items c.in_ok-word.word c.loop-k.invariant c.in-Some.ensures.is c.in_ok-word.ensures c.in_ok-push-2.ensures.items

pub returns-clause-is : goal.returns-clause-is
returns-clause-is c = names_done (source_of c.args.reader.now) _ _ _ _ _ c.loop-k.invariant c.in_ok-k.ensures.is
