use Rattle.std.proofs.Common.{ℕ, false, ◌∷◌, refl, sym, ap, ◌∙◌}
use Rattle.block_meaning.specs.Buffers.{own}
use Rattle.block_meaning.specs.Frames.{marked_locked}
use Rattle.block_meaning.specs.State.{State}
use Rattle.flat_machine.specs.Flat as flat
use Rattle.client_machine.specs.declared.mode.Task.TheVariants as task
use Rattle.client_machine.specs.declared.mode.reads.ReadTask.TheVariants as read_task
use Rattle.bound_tree.specs.Tree.{Reading}
use Rattle.client_machine.specs.Config.{fetch_at, read_task_of, turn_read}
use Rattle.client_machine.specs.Machine.{stack_in}
use Rattle.client_finds.specs.Stays.{state_under}
use Rattle.client_finds.specs.Steps.{instrs_in}
use Rattle.client_finds.proofs.Kept.{memory_kept, on_ok, reads_now, rest_now, step_kept, task_from}
use Rattle.client_finds.proofs.fetch.fetches.Goals as goal

pub returns-clause-ok : goal.returns-clause-ok
returns-clause-ok c =
    let old = c.args.machine.now in
    let mid = c.unlock.new.machine in
    let k = c.args.place in
    let f = fetch_at (instrs_in old) k in
    let b = c.in-Some-buffer_at.buffer in
    let t = read_task.FetchesFrom k c.args.again c.args.retry c.args.own in
    let to : ℕ → State → flat.Config = λ n s. flat.config (flat.Execute (flat.EntersOne (own n))) (flat.ThenDo (flat.Drops n) ∷ flat.ThenDo (read_task_of (instrs_in old) t) ∷ stack_in old) s in
    let is_buffer = sym (ap (λ (r : Reading). r.buffer) c.in-Some.ensures.reading) ∙ sym c.in-Some-buffer_at.ensures in
    on_ok c.release.result (λ keeps.
    task_from (task.Read (read_task.Fetches k c.args.again c.args.retry c.args.own)) old c.release.new.machine (λ o. o.1)
    (step_kept (flat.Fetches f (turn_read c.args.again c.args.own) c.args.retry) (λ p s. to f.reading.buffer (marked_locked f.reading.buffer false s)) old c.release.new.machine (λ p rest fits. refl)
    (memory_kept (λ p s. to f.reading.buffer (marked_locked f.reading.buffer false s))
    (λ is p ks s. flat.config (flat.Execute (flat.EntersOne (own b))) (flat.ThenDo (flat.Drops b) ∷ flat.ThenDo (read_task_of is t) ∷ ks) s)
    old mid c.release.new.machine c.unlock.ensures.moved c.unlock.ensures.stays
    (λ p rest fits.
    ap (λ n. to n (marked_locked n false (state_under (rest_now rest old) old))) is_buffer
    ∙ ap (to b) (sym (c.unlock.ensures.goes p (rest_now rest old) (reads_now p rest old fits)))) keeps))) c.release.ensures.ok
