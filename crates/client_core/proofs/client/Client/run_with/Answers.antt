use Rattle.std.proofs.Common.{inl, ◌<◌, ◌+◌, ap, refl, sym, subst}
use Rattle.client_output.specs.Written.{IsUnchanged}
use Rattle.client_output.proofs.Unchanged.{unchanged}
use Rattle.client_core.specs.declared.client.Client.{Client}
use Rattle.client_core.specs.declared.client.Phase.TheVariants as phase
use Rattle.client_core.specs.Work.{most_operations}
use Rattle.client_core.proofs.Resumes.{answered_call, failed_call, end_call}
use Rattle.client_core.proofs.Works.{at_end, awaiting_has, awaiting_not_ending, ended_fewer, gives_fewer, gives_shows, gives_ends}
use Rattle.client_core.proofs.client.Client.run_with.Goals as goal

-- ---- the run is over

pub returns-then-not-is_awaiting-clause-refines : goal.returns-then-not-is_awaiting-clause-refines
returns-then-not-is_awaiting-clause-refines c =
    let old = c.args.self.now in
    λ names m answers waiting d. end_call names c.args.answer m answers old _ c.end.result c.requires.running refl
    (c.end.ensures.ends (at_end old.phase old.machine.mode old.machine.stack.items c.requires.running waiting (c.is_awaiting.ensures.no c.if-not-is_awaiting.true))) c.end.ensures.sections d

pub returns-then-not-is_awaiting-clause-fewer : goal.returns-then-not-is_awaiting-clause-fewer
returns-then-not-is_awaiting-clause-fewer c =
    let old = c.args.self.now in
    λ plain waiting. ended_fewer old.phase old.machine.mode old.machine.stack.items old.machine.units c.end.new.self.units c.end.new.self.mode c.end.new.self.stack.items phase.Ended refl waiting

-- ---- the answer was taken

pub returns-in-Ok-clause-refines : goal.returns-in-Ok-clause-refines
returns-in-Ok-clause-refines c =
    λ names m answers waiting d. answered_call names c.args.answer m answers c.args.self.now c.run_on.new.self c.take_answer.new.machine c.run_on.result c.requires.running (c.is_awaiting.ensures.yes c.if-not-is_awaiting.false) (c.in-Ok.ensures.ok (c.is_awaiting.ensures.yes c.if-not-is_awaiting.false)) c.run_on.ensures.follows d

pub returns-in-Ok-clause-fewer : goal.returns-in-Ok-clause-fewer
returns-in-Ok-clause-fewer c =
    let old = c.args.self.now in
    λ plain waiting.
    subst (λ n. most_operations c.run_on.new.self < n) (sym (awaiting_has old.phase old.machine.mode old.machine.stack.items old.machine.units c.requires.running (c.is_awaiting.ensures.yes c.if-not-is_awaiting.false)))
    (subst (λ l. most_operations c.run_on.new.self < l + 2) (c.limit_after-limit.ensures plain) (c.run_on.ensures.fewer c.requires.running))

pub returns-in-Ok-clause-ended : goal.returns-in-Ok-clause-ended
returns-in-Ok-clause-ended c =
    let old = c.args.self.now in
    λ ending. absurd (awaiting_not_ending old.phase old.machine.mode old.machine.stack.items c.requires.running (c.is_awaiting.ensures.yes c.if-not-is_awaiting.false) ending)

-- ---- out of memory

pub returns-in-Err-clause-refines : goal.returns-in-Err-clause-refines
returns-in-Err-clause-refines c =
    λ names m answers waiting d. failed_call names c.args.answer m answers c.args.self.now c.give_up-in-Err.new.self c.give_up-in-Err.result c.requires.running (c.is_awaiting.ensures.yes c.if-not-is_awaiting.false)
    (ap (λ (x : Client). x.phase) c.give_up-in-Err.ensures.new) c.give_up-in-Err.ensures.asks (subst (λ (x : Client). IsUnchanged c.args.self.now.machine.output x.machine.output) (sym c.give_up-in-Err.ensures.new) c.in-Err.ensures.err) d

pub returns-in-Err-clause-fewer : goal.returns-in-Err-clause-fewer
returns-in-Err-clause-fewer c =
    let old = c.args.self.now in
    let new = c.give_up-in-Err.new.self in
    λ plain waiting.
    subst (λ n. most_operations new < n) (sym (awaiting_has old.phase old.machine.mode old.machine.stack.items old.machine.units c.requires.running (c.is_awaiting.ensures.yes c.if-not-is_awaiting.false)))
    (gives_fewer new.phase new.machine.mode new.machine.stack.items new.machine.units old.machine.units (ap (λ (x : Client). x.phase) c.give_up-in-Err.ensures.new))

pub returns-in-Err-clause-wants : goal.returns-in-Err-clause-wants
returns-in-Err-clause-wants c =
    let new = c.give_up-in-Err.new.self in
    gives_shows new.phase new.machine.mode new.machine.stack.items c.give_up-in-Err.result (ap (λ (x : Client). x.phase) c.give_up-in-Err.ensures.new) c.give_up-in-Err.ensures.asks

pub returns-in-Err-clause-ended : goal.returns-in-Err-clause-ended
returns-in-Err-clause-ended c =
    let old = c.args.self.now in
    λ ending. absurd (awaiting_not_ending old.phase old.machine.mode old.machine.stack.items c.requires.running (c.is_awaiting.ensures.yes c.if-not-is_awaiting.false) ending)

pub returns-in-Ok-clause-gives_up : goal.returns-in-Ok-clause-gives_up
returns-in-Ok-clause-gives_up c = λ is waiting. absurd (c.is_no_memory.ensures c.if-is_no_memory.false is)

pub returns-in-Err-clause-gives_up : goal.returns-in-Err-clause-gives_up
returns-in-Err-clause-gives_up c = λ is waiting. absurd (c.is_no_memory.ensures c.if-is_no_memory.false is)

-- ---- the database had no memory

pub returns-then-is_no_memory-clause-refines : goal.returns-then-is_no_memory-clause-refines
returns-then-is_no_memory-clause-refines c =
    λ names m answers waiting d. failed_call names c.args.answer m answers c.args.self.now c.give_up.new.self c.give_up.result c.requires.running (c.is_awaiting.ensures.yes c.if-not-is_awaiting.false)
    (ap (λ (x : Client). x.phase) c.give_up.ensures.new) c.give_up.ensures.asks (subst (λ (x : Client). IsUnchanged c.args.self.now.machine.output x.machine.output) (sym c.give_up.ensures.new) (unchanged c.args.self.now.machine.output)) d

pub returns-then-is_no_memory-clause-fewer : goal.returns-then-is_no_memory-clause-fewer
returns-then-is_no_memory-clause-fewer c =
    let old = c.args.self.now in
    let new = c.give_up.new.self in
    λ plain waiting.
    subst (λ n. most_operations new < n) (sym (awaiting_has old.phase old.machine.mode old.machine.stack.items old.machine.units c.requires.running (c.is_awaiting.ensures.yes c.if-not-is_awaiting.false)))
    (gives_fewer new.phase new.machine.mode new.machine.stack.items new.machine.units old.machine.units (ap (λ (x : Client). x.phase) c.give_up.ensures.new))

pub returns-then-is_no_memory-clause-wants : goal.returns-then-is_no_memory-clause-wants
returns-then-is_no_memory-clause-wants c =
    let new = c.give_up.new.self in
    gives_shows new.phase new.machine.mode new.machine.stack.items c.give_up.result (ap (λ (x : Client). x.phase) c.give_up.ensures.new) c.give_up.ensures.asks

pub returns-then-is_no_memory-clause-gives_up : goal.returns-then-is_no_memory-clause-gives_up
returns-then-is_no_memory-clause-gives_up c =
    let new = c.give_up.new.self in
    λ is waiting. inl (gives_ends new.phase new.machine.mode new.machine.stack.items (ap (λ (x : Client). x.phase) c.give_up.ensures.new))

pub returns-then-is_no_memory-clause-ended : goal.returns-then-is_no_memory-clause-ended
returns-then-is_no_memory-clause-ended c =
    let old = c.args.self.now in
    λ ending. absurd (awaiting_not_ending old.phase old.machine.mode old.machine.stack.items c.requires.running (c.is_awaiting.ensures.yes c.if-not-is_awaiting.false) ending)
