-- Three phases, each over the database that the one before it left.
use Rattle.std.proofs.Common.{◌≡◌, ◌+◌, ◌-◌, ◌++◌, ◌≤◌, ℕ, List, refl, sym, ap, ◌∙◌, subst, arith, length}
use Rattle.database_protocol.specs.declared.event.Event.{Event}
use Rattle.client_threads.specs.clients.Ran.{ClientTask}
use Rattle.client_threads.specs.clients.Phases.{HaveRunOrNot}
use Rattle.client_threads.specs.clients.Outcome.{own_events}
use Rattle.client_threads.proofs.ClientsLemmas.InPhases.{fresh_after, have_joined, have_later, same_own}
use Rattle.client_threads.proofs.clients.phases.run_phases.Goals as goal

pub run_phase-database-requires-2-clause-fresh : goal.run_phase-database-requires-2-clause-fresh
run_phase-database-requires-2-clause-fresh g c κs within = λ client from.
    let T = g.D.Database.trace in
    let one = c.split_at_mut-first.ensures.front_len in
    fresh_after 0 (length c.split_at_mut-first.result.0.now) (T c.args.database) (T c.run_phase-database.result) (λ n later. ap (own_events n) c.requires.empty) c.run_phase-database.ensures.kept.grows client (omega (arith, one, from))

pub run_phase-requires-clause-fresh : goal.run_phase-requires-clause-fresh
run_phase-requires-clause-fresh g c κs within = λ client from.
    let T = g.D.Database.trace in
    let one = c.split_at_mut-first.ensures.front_len in
    let many = c.split_at_mut-middle.ensures.front_len in
    fresh_after 1 (length c.split_at_mut-middle.result.0.now) (T c.run_phase-database.result) (T c.run_phase-database-2.result)
    (λ n later. fresh_after 0 (length c.split_at_mut-first.result.0.now) (T c.args.database) (T c.run_phase-database.result) (λ m before. ap (own_events m) c.requires.empty) c.run_phase-database.ensures.kept.grows n (omega (arith, one, later)))
    c.run_phase-database-2.ensures.kept.grows client (omega (arith, many, from))

pub returns-clause-ran : goal.returns-clause-ran
returns-clause-ran g c =
    let D = g.D.Database in
    let T = D.trace in
    let first = c.split_at_mut-first.result.0.now in
    let middle = c.split_at_mut-middle.result.0.now in
    let last = c.split_at_mut-middle.result.1.now in
    let new_first = c.run_phase-database.new.tasks in
    let new_middle = c.run_phase-database-2.new.tasks in
    let new_last = c.run_phase.new.tasks in
    let between = length c.args.tasks.now - 2 in
    let one = c.split_at_mut-first.ensures.front_len in
    let many = c.split_at_mut-middle.ensures.front_len in
    let H = D.has_setting c.args.database in
    let end : List Event = T c.run_phase.result in
    let kept_1 = c.run_phase-database.ensures.kept in
    let kept_2 = c.run_phase-database-2.ensures.kept in
    let kept_3 = c.run_phase.ensures.kept in
    let after_first : (n : ℕ) → n ≤ between → own_events n end ≡ own_events n (T c.run_phase-database-2.result) =
    λ n low. same_own n (between + 1) (length last) (T c.run_phase-database-2.result) end kept_3.grows (λ among. absurd (omega (arith, low, among.0))) in
    let have_first = have_later H H (T c.run_phase-database.result) end (λ setting has. has) 0 first new_first
    (λ n among. after_first n (omega (arith, among.1, one)) ∙ same_own n 1 (length middle) (T c.run_phase-database.result) (T c.run_phase-database-2.result) kept_2.grows (λ other. absurd (omega (arith, among.1, one, other.0))))
    c.run_phase-database.ensures.ran in
    let have_middle = have_later H (D.has_setting c.run_phase-database.result) (T c.run_phase-database-2.result) end kept_1.setting 1 middle new_middle
    (λ n among. after_first n (omega (arith, among.1, many))) c.run_phase-database-2.ensures.ran in
    let have_last = have_later H (D.has_setting c.run_phase-database-2.result) end end (λ setting has. kept_2.setting setting (kept_1.setting setting has)) (between + 1) last new_last (λ n among. refl) c.run_phase.ensures.ran in
    subst (λ (tasks : List (ClientTask _)). HaveRunOrNot H end 0 tasks (new_first ++ (new_middle ++ new_last)))
    (sym (c.split_at_mut-first.ensures.value ∙ ap (λ (tasks : List (ClientTask _)). first ++ tasks) c.split_at_mut-middle.ensures.value))
    (have_joined H end 0 first new_first (middle ++ last) (new_middle ++ new_last) have_first
    (have_joined H end (0 + length first) middle new_middle last new_last
    (subst (λ n. HaveRunOrNot H end n middle new_middle) (omega (arith, one)) have_middle)
    (subst (λ n. HaveRunOrNot H end n last new_last) (omega (arith, one, many)) have_last)))
