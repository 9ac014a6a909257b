use Rattle.std.proofs.Common.{ℕ, false, ◌∷◌, refl, sym, ap, ◌∙◌}
use Rattle.block_meaning.specs.Buffers.{own}
use Rattle.block_meaning.specs.Frames.{marked_locked}
use Rattle.block_meaning.specs.State.{State}
use Rattle.flat_machine.specs.Flat as flat
use Rattle.client_machine.specs.declared.mode.StackEntry.TheVariants as stack
use Rattle.client_machine.specs.declared.mode.Task.TheVariants as task
use Rattle.client_machine.specs.declared.mode.reads.ReadEntry.TheVariants as read_entry
use Rattle.client_machine.specs.declared.mode.reads.ReadTask.TheVariants as read_task
use Rattle.client_machine.specs.Config.{instr_at, reading_at, read_task_of}
use Rattle.client_machine.specs.Machine.{stack_in}
use Rattle.client_machine.specs.Statements.{find_word_in, wait_in}
use Rattle.client_finds.specs.Stays.{state_under}
use Rattle.client_finds.specs.Steps.{instrs_in}
use Rattle.client_finds.proofs.Kept.{memory_kept, on_ok, pushed_kept, reads_now, rest_now, step_kept, task_from}
use Rattle.client_finds.proofs.find.finds.Goals as goal

pub returns-clause-ok : goal.returns-clause-ok
returns-clause-ok c =
    let old = c.args.machine.now in
    let mid = c.unlock.new.machine in
    let one = c.push.new.machine in
    let k = c.args.place in
    let r = reading_at (instrs_in old) k in
    let word = find_word_in (instr_at (instrs_in old) k) in
    let b = c.in-Some.buffer in
    let t = read_task.FindsAs k c.args.retry in
    let finds = flat.Finds word r (wait_in (instr_at (instrs_in old) k)) c.args.retry in
    let to : ℕ → State → flat.Config = λ n s. flat.config (flat.Execute (flat.EntersOne (own n))) (flat.ThenDo (flat.Drops n) ∷ flat.ThenDo (read_task_of (instrs_in old) t) ∷ flat.FoundAs word n ∷ stack_in old) s in
    on_ok c.release.result (λ keeps.
    task_from (task.Read (read_task.Finds k c.args.retry)) old c.release.new.machine (λ o. o.1)
    (step_kept finds (λ p s. to r.buffer (marked_locked r.buffer false s)) old c.release.new.machine (λ p rest f. refl)
    (memory_kept (λ p s. to r.buffer (marked_locked r.buffer false s))
    (λ is p ks s. flat.config (flat.Execute (flat.EntersOne (own b))) (flat.ThenDo (flat.Drops b) ∷ flat.ThenDo (read_task_of is t) ∷ flat.FoundAs (find_word_in (instr_at is k)) (reading_at is k).buffer ∷ ks) s)
    old mid c.release.new.machine c.unlock.ensures.moved c.unlock.ensures.stays
    (λ p rest f.
    ap (λ n. to n (marked_locked n false (state_under (rest_now rest old) old))) (sym c.in-Some.ensures)
    ∙ ap (to b) (sym (c.unlock.ensures.goes p (rest_now rest old) (reads_now p rest old f)))
    ∙ ap (λ n. flat.config (flat.Execute (flat.EntersOne (own b))) (flat.ThenDo (flat.Drops b) ∷ flat.ThenDo (read_task_of (instrs_in old) t) ∷ flat.FoundAs word n ∷ stack_in old) (state_under (rest_now rest old) mid)) c.in-Some.ensures)
    (pushed_kept (λ is p ks s. flat.config (flat.Execute (flat.EntersOne (own b))) (flat.ThenDo (flat.Drops b) ∷ flat.ThenDo (read_task_of is t) ∷ ks) s) mid one c.release.new.machine (stack.Read (read_entry.FoundAs k)) c.in_ok-push.ensures.moved c.in_ok-push.ensures.top (λ o. o) keeps)))) c.release.ensures.ok
