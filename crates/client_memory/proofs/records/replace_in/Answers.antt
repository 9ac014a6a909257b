use Rattle.std.proofs.Common.{arith}
use Rattle.client_memory.specs.Buffers.{denoted_place, denoted_content, with_content}
use Rattle.client_memory.proofs.BufferLists.{changed_by_loan}
use Rattle.client_memory.proofs.records.replace_in.Goals as goal

pub returns-in-Some-get_mut-clause-new : goal.returns-in-Some-get_mut-clause-new
returns-in-Some-get_mut-clause-new c =
    changed_by_loan (denoted_place c.args.place) (with_content (denoted_content c.args.content)) c.args.frames.now.items c.in-Some.index c.in-Some-get_mut.buffers.now c.replace.new.self (omega (arith, c.in-Some.ensures, c.len.ensures, c.args.frames.now.ok.0)) c.in-Some-get_mut.ensures.value c.replace.ensures.new
