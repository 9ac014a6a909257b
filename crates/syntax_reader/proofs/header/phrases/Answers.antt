use Rattle.syntax_tree.specs.Typed.{phrase_of}
use Rattle.syntax_reader.specs.Headers.{ArePhrases}
use Rattle.syntax_reader.specs.Views.{source_of}
use Rattle.syntax_reader.proofs.Rows.{all_done, mapped_grows, mapped_starts}
use Rattle.syntax_reader.proofs.header.phrases.Goals as goal

pub loop-k-init : goal.loop-k-init
loop-k-init c = mapped_starts phrase_of (ArePhrases (source_of c.args.reader.now)) c.args.begun c.new-found.result.items c.new-found.ensures.items

pub loop-k-preserved : goal.loop-k-preserved
loop-k-preserved c = mapped_grows phrase_of c.loop-k.found.items c.push.new.self.items c.in_ok-one.one c.loop-k.invariant c.in-Some.ensures.is c.in_ok-one.ensures.is c.in_ok-one.ensures.after c.in_ok-push.ensures.items

pub returns-clause-is : goal.returns-clause-is
returns-clause-is c = all_done c.loop-k.invariant c.in_ok-k.ensures.is
