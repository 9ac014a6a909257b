use Rattle.std.proofs.Common.{ap, sym, ◌∙◌}
use Rattle.block_meaning.specs.State.{Buffer}
use Rattle.client_memory.specs.Buffers.{denoted_place}
use Rattle.client_memory.specs.Memory.{buffer_at}
use Rattle.client_memory.specs.declared.buffer.Place.{Place}
use Rattle.client_records.proofs.Lent.{if_ok}
use Rattle.client_records.proofs.entries.content_of.Goals as goal

pub returns-in-Some : goal.returns-in-Some
returns-in-Some c =
    let m = c.args.memory.now in
    if_ok c.copy.result (λ content is.
    is ∙ ap (λ (b : Buffer). b.content) c.in-Some.ensures ∙ ap (λ (at : Place). (buffer_at (denoted_place at) m).content) c.own.ensures) c.copy.ensures

pub returns-in-None : goal.returns-in-None
returns-in-None c =
    let m = c.args.memory.now in
    sym (ap (λ (b : Buffer). b.content) c.in-None.ensures) ∙ ap (λ (at : Place). (buffer_at (denoted_place at) m).content) c.own.ensures
