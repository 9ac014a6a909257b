use Rattle.std.proofs.Common.{map, arith}
use Rattle.std.proofs.lemmas.List.{length-map}
use Rattle.client_memory.specs.Buffers.{denoted_buffer, denoted_content}
use Rattle.client_memory.proofs.BufferLists.{counted_again}
use Rattle.client_memory.proofs.buffers.Buffers.replace.Goals as goal

pub invariant_of-self : goal.invariant_of-self
invariant_of-self c =
    let m = c.self.inside.buffers in
    let bs = map denoted_buffer m.items in
    let long = length-map m.items denoted_buffer in
    counted_again bs (map denoted_buffer c.replace_at-old.new.buffers.items) c.args.number c.self.inside.pending c.recounted-self-inside.result (denoted_content c.replace_at-old.result) (denoted_content c.args.content) c.is_pending.result c.is_pending-is.result
    (omega (arith, long, c.if-number-len.false, c.len.ensures, m.ok.0))
    (omega (arith, long, m.ok.0, m.ok.1, m.small))
    c.self.invariant c.replace_at-old.ensures.old c.replace_at-old.ensures.new c.is_pending.ensures c.is_pending-is.ensures c.recounted-self-inside.ensures
