use Rattle.std.proofs.Common.{ap, ◌∙◌}
use Rattle.block_meaning.specs.State.{Empty, Pending, Record}
use Rattle.block_meaning.specs.Frames.{holding}
use Rattle.block_meaning.specs.Reads.{held_as}
use Rattle.client_memory.specs.Buffers.{denoted_held}
use Rattle.client_memory.specs.Frames.{state_with}
use Rattle.buffer_steps.proofs.BuffersLemmas.Held.{holding_twice, relocked, unheld}
use Rattle.buffer_steps.proofs.BuffersLemmas.Own.{own_content, own_held, still_reads}
use Rattle.buffer_steps.proofs.buffers.running.RunningBuffersRecordBuffers.lock.Goals as goal

pub returns-in-Record-clause-fits : goal.returns-in-Record-clause-fits
returns-in-Record-clause-fits c = λ p rest fits.
    c.hold.ensures.fits p rest (still_reads p rest c.args.self.now.procedures.now c.args.self.now.memory.now c.replace.new.self c.args.self.now.error c.args.self.now.returned.now c.own.result Empty fits c.replace.ensures.new)

pub returns-in-Record-clause-state : goal.returns-in-Record-clause-state
returns-in-Record-clause-state c = λ p rest before row values fits is.
    let ns = c.args.self.now.procedures.now in
    let m = c.args.self.now.memory.now in
    let s = state_with rest ns m in
    let b = c.args.buffer in
    let h = held_as c.args.lock in
    let taken = Record c.in-Record.row c.in-Record.values h c.in-Record.made in
    c.hold.ensures.state p rest (still_reads p rest ns m c.replace.new.self c.args.self.now.error c.args.self.now.returned.now c.own.result Empty fits c.replace.ensures.new)
    ∙ ap (holding b taken) (own_held rest ns m c.replace.new.self c.own.result b Empty fits.even c.own.ensures c.replace.ensures.new)
    ∙ holding_twice s b Empty taken
    ∙ relocked b s before row c.in-Record.row values c.in-Record.values h (denoted_held c.in-Record.held) c.in-Record.made is (own_content rest ns m c.own.result b _ fits.even c.own.ensures c.in-Record.ensures.old)

pub returns-in-Pending-clause-state : goal.returns-in-Pending-clause-state
returns-in-Pending-clause-state c = λ p rest before row values fits is.
    let ns = c.args.self.now.procedures.now in
    let m = c.args.self.now.memory.now in
    own_held rest ns m c.replace.new.self c.own.result c.args.buffer Empty fits.even c.own.ensures c.replace.ensures.new
    ∙ unheld c.args.buffer (state_with rest ns m) before row values (held_as c.args.lock) (Pending c.in-Pending.values c.in-Pending.since c.in-Pending.made) Empty is (own_content rest ns m c.own.result c.args.buffer _ fits.even c.own.ensures c.in-Pending.ensures.old) (λ e. cc)

pub returns-clause-state : goal.returns-clause-state
returns-clause-state c = λ p rest before row values fits is.
    let ns = c.args.self.now.procedures.now in
    let m = c.args.self.now.memory.now in
    own_held rest ns m c.replace.new.self c.own.result c.args.buffer Empty fits.even c.own.ensures c.replace.ensures.new
    ∙ unheld c.args.buffer (state_with rest ns m) before row values (held_as c.args.lock) Empty Empty is (own_content rest ns m c.own.result c.args.buffer _ fits.even c.own.ensures c.in-Empty.ensures.old) (λ e. cc)
