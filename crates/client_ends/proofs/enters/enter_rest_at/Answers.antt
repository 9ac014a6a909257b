use Rattle.std.proofs.Common.{◌≡◌, List, Some, sym, ap, ◌∙◌, length, map}
use Rattle.flat_machine.specs.Flat as flat
use Rattle.client_memory.specs.Buffers.{denoted_place}
use Rattle.client_machine.specs.declared.mode.Completion.TheVariants as completion
use Rattle.client_machine.specs.declared.mode.Mode.TheVariants as mode
use Rattle.client_machine.specs.declared.mode.Task.TheVariants as task
use Rattle.client_machine.specs.declared.mode.ends.EndTask.TheVariants as end_task
use Rattle.client_machine.specs.Machine.{stack_in, state_in}
use Rattle.std.proofs.lemmas.Bool.{eq-eqb, ne_eqb}
use Rattle.std.specs.Prelude.{◌==◌}
use Rattle.block_meaning.specs.State.{Normal}
use Rattle.block_meaning.specs.Buffers.{Place, all_places}
use Rattle.client_memory.proofs.FramesOut.{places_are}
use Rattle.client_ends.proofs.Closing.{level_depth}
use Rattle.client_ends.proofs.Moved.{mode_moved}
use Rattle.client_ends.proofs.enters.enter_rest_at.Goals as goal

pub returns-then-level-ne1-clause-ok : goal.returns-then-level-ne1-clause-ok
returns-then-level-ne1-clause-ok c =
    let old = c.args.machine.now in
    let d = c.args.level in
    mode_moved (task.End (end_task.EntersRest (Some d))) old c.set_mode.new.self (mode.Unwind completion.Normal) c.set_mode.ensures (λ o. (tt, o.1))
    (λ p rest f.
    let s = state_in rest old in
    let ks = stack_in old in
    let e = level_depth old.memory d f.whole f.order.0.1 in
    sym (ap (λ b. flat.config_if b (flat.config (flat.Execute (flat.Enters (all_places s))) ks s) (flat.config (flat.Unwind Normal) ks s)) (ap (λ k. k == 1) e ∙ ne_eqb d 1 c.if-level-ne1.true)))

pub returns-clause-ok : goal.returns-clause-ok
returns-clause-ok c =
    let old = c.args.machine.now in
    let d = c.args.level in
    let places = c.from_vec.result in
    mode_moved (task.End (end_task.EntersRest (Some d))) old c.set_mode-2.new.self (mode.Execute (task.End (end_task.Enters places 0))) c.set_mode-2.ensures (λ o. (tt, o.1))
    (λ p rest f.
    let s = state_in rest old in
    let ks = stack_in old in
    let e = level_depth old.memory d f.whole f.order.0.1 in
    let all : map denoted_place places ≡ all_places s = ap (map denoted_place) c.from_vec.ensures ∙ c.in_ok-places.ensures ∙ sym (places_are (record rest { level = length old.memory.copies; units = old.units }) old.procedures.items old.memory f.even) in
    ap (λ (ps : List Place). flat.config (flat.Execute (flat.Enters ps)) ks s) all
    ∙ sym (ap (λ b. flat.config_if b (flat.config (flat.Execute (flat.Enters (all_places s))) ks s) (flat.config (flat.Unwind Normal) ks s)) (ap (λ k. k == 1) e ∙ eq-eqb d 1 c.if-level-ne1.false)))
