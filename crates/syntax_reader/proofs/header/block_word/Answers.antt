use Rattle.syntax_reader.specs.Headers as a
use Rattle.syntax_reader.proofs.header.block_word.Goals as goal

pub returns-in-Some : goal.returns-in-Some
returns-in-Some c = a.do_block c.in-Some.ensures.is

pub returns : goal.returns
returns c = a.repeat_block c.in_ok-k.ensures.is
