use Rattle.client_core.proofs.Asks.{asking_end_ends}
use Rattle.client_threads.proofs.SessionLemmas.Along.{waits_as, first_call, next_goes, sure_after, requests_any, has_ended}
use Rattle.client_threads.proofs.session.session.ClientSessionSession.resume.Goals as goal

pub returns-clause-first : goal.returns-clause-first
returns-clause-first c = λ m none begun.
    let along = first_call c.args.self.now.client c.resume.new.self m c.args.answer c.resume.result none c.resume.ensures.refines (waits_as c.resume.new.self c.resume.result c.resume.ensures.waits) begun in
    record { along = along; sure = sure_after c.open_levels_are_of_own_events.ensures c.resume.new.self m _ c.resume.result along }

pub returns-clause-next : goal.returns-clause-next
returns-clause-next c = λ m own op n h.
    next_goes c.open_levels_are_of_own_events.ensures c.args.self.now.client c.resume.new.self m own n op c.args.answer c.resume.result c.resume.ensures.refines c.resume.ensures.given_up (waits_as c.resume.new.self c.resume.result c.resume.ensures.waits) h

pub returns-clause-requests : goal.returns-clause-requests
returns-clause-requests c = requests_any c.resume.result

pub returns-clause-over : goal.returns-clause-over
returns-clause-over c = λ shows. has_ended c.args.answer c.resume.result (c.resume.ensures.ended (asking_end_ends c.args.self.now.client shows))
