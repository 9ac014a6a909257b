use Rattle.std.proofs.Common.{◌≡◌, ◌+◌, length, slice_index_or, sym, ap, ◌∙◌, subst, arith, All}
use mathlib.Core.List.{IsPrefix}
use Rattle.std.proofs.lemmas.List.{get_or-map, length-map}
use Rattle.database_protocol.specs.declared.event.Event.{Event}
use Rattle.turn_lock.specs.Journal.{own_entries}
use Rattle.turn_lock.specs.Passes.{ClientPass}
use Rattle.client_runner.specs.declared.start.Start.{Start}
use Rattle.client_runner.specs.Meant.{client_in}
use Rattle.client_runner.specs.Served.{Serving}
use Rattle.client_runner.specs.Tasks.{pass_of, own_in}
use Rattle.client_runner.proofs.Ends.{at_made, began_as, came_to_its_end}
use Rattle.client_runner.proofs.run.run_clients.Goals as goal

pub returns-clause-legal : goal.returns-clause-legal
returns-clause-legal g c = λ setting contents opened.
    let D = g.D.Database in
    let began = began_as c.in-Ok.made.0 (λ k. IsPrefix (D.trace k.start.value.database) (D.trace c.close.result.database)) c.new-served.result c.close.result c.args.first (length c.args.tasks.now) c.in-Ok.ensures.made c.close.ensures.start in
    let same = ap (λ (s : Start g.row.D.Denot). s.database.value) began ∙ c.new-served.ensures.start.0 in
    c.finish-2.ensures.legal setting contents (subst (λ (d : g.row.D.Denot). D.opened d setting contents) (sym same) opened)

pub returns-clause-came : goal.returns-clause-came
returns-clause-came g c = λ k t less.
    let D = g.row.D.Denot in
    let H = g.D.Database.has_setting in
    let T = g.D.Database.trace in
    let S = g.C.Session in
    let ran = c.run_all.new.tasks in
    let handed_long = c.hand_out.auto.tasks in
    let ran_long = c.run_all.auto.tasks in
    let lock = c.hand_out.new.passes.lock in
    let one = slice_index_or ran k t in
    let h = c.hand_out.ensures.ready k t (omega arith) in
    let r = c.run_all.ensures.run k t (omega arith) in
    let trace = T c.close.result.database in
    let AllOwn = All (λ (p : ClientPass (Serving D) Event). own_entries client_in p.client trace ≡ p.list) in
    let own = (subst AllOwn c.collect.ensures.all c.close.ensures.own) k (pass_of lock one) (omega (arith, length-map ran (pass_of lock))) in
    let mine = subst (λ (p : ClientPass (Serving D) Event). own_entries client_in p.client trace ≡ p.list) (get_or-map (pass_of lock) ran k t (pass_of lock one) (omega arith)) own in
    let events : own_entries client_in (c.args.first + k) (T c.finish-2.result) ≡ own_in one.pass =
    ap (λ d. own_entries client_in (c.args.first + k) (T d)) c.finish-2.ensures.database
    ∙ (ap (λ n. own_entries client_in n trace) (sym (r.number ∙ h.number)) ∙ mine) in
    came_to_its_end S.begins S.along S.suits S.careful S.certain H lock c.in-Ok.made.0 (c.args.first + k) (H c.args.database) _ (slice_index_or c.args.tasks.now k t) (slice_index_or c.hand_out.new.tasks k t) one (slice_index_or c.collect.new.tasks k t)
    h r (c.collect.ensures.same k t (omega arith))
    (λ f has. at_made (λ (d : D). H d f) c.in-Ok.made.0 c.new-served.result c.args.database c.args.first (length c.args.tasks.now) c.in-Ok.ensures.made c.new-served.ensures.start.0 has)
    events
