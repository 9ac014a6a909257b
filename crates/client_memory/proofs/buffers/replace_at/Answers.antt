use Rattle.client_memory.specs.Buffers.{denoted_content, with_content}
use Rattle.client_memory.proofs.Denoted.{changed_denoted, content_moved}
use Rattle.client_memory.proofs.buffers.replace_at.Goals as goal

pub returns-in-Some-clause-new : goal.returns-in-Some-clause-new
returns-in-Some-clause-new c =
    changed_denoted c.args.buffers.now.items c.args.number c.in-Some.buffer.now (record { table = c.in-Some.buffer.now.table; content = c.replace.new.dest; spot = c.in-Some.buffer.now.spot; locked = c.in-Some.buffer.now.locked }) (with_content (denoted_content c.args.content)) c.in-Some.ensures.value c.in-Some.ensures.item.3.0 (content_moved c.in-Some.buffer.now c.replace.new.dest c.args.content c.replace.ensures.after)
