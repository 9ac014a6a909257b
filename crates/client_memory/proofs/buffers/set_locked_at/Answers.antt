use Rattle.std.proofs.Common.{refl}
use Rattle.client_memory.specs.Buffers.{with_locked}
use Rattle.client_memory.proofs.Denoted.{changed_denoted}
use Rattle.client_memory.proofs.buffers.set_locked_at.Goals as goal

pub returns : goal.returns
returns c =
    changed_denoted c.args.buffers.now.items c.args.number c.in-Some.buffer.now (record { table = c.in-Some.buffer.now.table; content = c.in-Some.buffer.now.content; spot = c.in-Some.buffer.now.spot; locked = c.args.locked }) (with_locked c.args.locked) c.in-Some.ensures.value c.in-Some.ensures.item.3.0 refl
