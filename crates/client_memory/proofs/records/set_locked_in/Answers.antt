use Rattle.std.proofs.Common.{arith}
use Rattle.client_memory.specs.Buffers.{denoted_place, with_locked}
use Rattle.client_memory.proofs.BufferLists.{changed_by_loan}
use Rattle.client_memory.proofs.records.set_locked_in.Goals as goal

pub returns-in-Some-get_mut : goal.returns-in-Some-get_mut
returns-in-Some-get_mut c =
    changed_by_loan (denoted_place c.args.place) (with_locked c.args.locked) c.args.frames.now.items c.in-Some.index c.in-Some-get_mut.buffers.now c.set_locked.new.self (omega (arith, c.in-Some.ensures, c.len.ensures, c.args.frames.now.ok.0)) c.in-Some-get_mut.ensures.value c.set_locked.ensures
