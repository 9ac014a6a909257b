use Rattle.std.proofs.Common.{◌≡◌, ap, sym, ◌∙◌}
use Rattle.block_meaning.specs.Frames.{buffer_at}
use Rattle.block_meaning.specs.State.{Buffer, Content, Empty, Pending, Record}
use Rattle.client_memory.specs.Buffers.{denoted_held}
use Rattle.buffer_steps.specs.changes.Buffers.{state_of}
use Rattle.buffer_steps.proofs.ChangesLemmas.Contents.{content_is}
use Rattle.client_records.proofs.memory.held_row.Goals as goal

pub returns-in_default : goal.returns-in_default
returns-in_default c = λ p rest row values held made fits is.
    absurd (let e : ◌≡◌ {A = Content} Empty (Record row values held made) = sym (ap (λ (x : Buffer). x.content) (c.in_default.ensures p rest fits)) ∙ is in cc)

pub returns-in-Empty : goal.returns-in-Empty
returns-in-Empty c = λ p rest row values held made fits is.
    absurd (let e : ◌≡◌ {A = Content} Empty (Record row values held made) = sym (content_is (buffer_at c.args.buffer (state_of rest c.args.buffers.now)) c.in-Some.found.now _ (c.in-Some.ensures p rest fits) c.in-Empty.is) ∙ is in cc)

pub returns-in-Pending : goal.returns-in-Pending
returns-in-Pending c = λ p rest row values held made fits is.
    absurd (let e : ◌≡◌ {A = Content} (Pending c.in-Pending.values c.in-Pending.since c.in-Pending.made) (Record row values held made) = sym (content_is (buffer_at c.args.buffer (state_of rest c.args.buffers.now)) c.in-Some.found.now _ (c.in-Some.ensures p rest fits) c.in-Pending.is) ∙ is in cc)

pub returns-in_ok-copy_row-in-Record : goal.returns-in_ok-copy_row-in-Record
returns-in_ok-copy_row-in-Record c = λ p rest row values held made fits is.
    let e : Record c.in-Record.row c.in-Record.values (denoted_held c.in-Record.held) c.in-Record.made ≡ Record row values held made = sym (content_is (buffer_at c.args.buffer (state_of rest c.args.buffers.now)) c.in-Some.found.now _ (c.in-Some.ensures p rest fits) c.in-Record.is) ∙ is in
    let same : c.in-Record.values ≡ values = cc in
    let number : c.in-Record.made ≡ made = cc in
    (c.in_ok-copy_row-in-Record.ensures ∙ same, number)
