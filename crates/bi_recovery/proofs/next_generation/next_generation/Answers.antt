use Rattle.std.proofs.Common.{inr, ℕ, Bool, IsTrue, sym, ◌∙◌, subst, arith}
use Rattle.log_meaning.specs.steps.Steps.{Image, Run}
use Rattle.log_meaning.proofs.StepsLemmas.Runs.{joined, wider}
use Rattle.bi_log.specs.Appending.{fresh}
use Rattle.bi_log.specs.Generations.{Closes, IsClosed, AfterGate, Opens}
use Rattle.bi_log.proofs.Preparing.{ok_then}
use Rattle.bi_recovery.specs.Reopening.{StepsTo}
use Rattle.bi_recovery.proofs.Reopening.{closes_step, after_gate_step, opens_step, step_twice, shut_head}
use Rattle.bi_log.proofs.Lengths.{run_more, run_twice}
use Rattle.bi_recovery.proofs.next_generation.next_generation.Goals as goal

-- closed, and written after the gate
module _ (was mid now : ℕ) (before between after : ℕ → Image → Type 0) (a g : ℕ) (one : Run was mid before between (Closes a)) (closed : (image : Image) → between mid image → IsClosed (image a)) (two : Run mid now between after (AfterGate a)) where
  pub laid : Run was now before after (StepsTo a g)
  laid = joined _ _ _ _ _ _ (Closes a) (AfterGate a) (StepsTo a g) one two
      (λ d image there s. closes_step a g d image s)
      (λ d image there m s. after_gate_step a g d image (closed d m) s)
      (λ d e image there x m y. step_twice a g d e image (closes_step a g d e x) (after_gate_step a g e image (closed e m) y) (inr (λ h o p. shut_head (e a) (closed e m) h p)))

pub returns-in_err-close_area-clause-time : goal.returns-in_err-close_area-clause-time
returns-in_err-close_area-clause-time g c = wider _ _ _ _ _ _ c.close_area.ensures.time (λ d image there s. closes_step c.args.area c.args.generation d image s)

pub returns-in_err-write_header-clause-time : goal.returns-in_err-write_header-clause-time
returns-in_err-write_header-clause-time g c = laid _ _ _ _ _ _ c.args.area c.args.generation c.close_area.ensures.time c.in_ok-close_area.ensures.ok c.write_header.ensures.time

pub returns-clause-time : goal.returns-clause-time
returns-clause-time g c = joined _ _ _ _ _ _ (StepsTo c.args.area c.args.generation) (Opens c.args.area (fresh c.args.generation)) (StepsTo c.args.area c.args.generation)
    (laid _ _ _ _ _ _ c.args.area c.args.generation c.close_area.ensures.time c.in_ok-close_area.ensures.ok c.write_header.ensures.time)
    (c.open_area.ensures.time (fresh c.args.generation) 32 c.in_ok-write_header.ensures.ok)
    (λ d image there s. s)
    (λ d image there m s. opens_step c.args.area c.args.generation d image s)
    (λ d e image there x m y. step_twice c.args.area c.args.generation d e image x (opens_step c.args.area c.args.generation e image y) (inr (λ h o p. shut_head (e c.args.area) (c.in_ok-write_header.ensures.ok e m).closed h p)))

pub returns-clause-ok : goal.returns-clause-ok
returns-clause-ok g c = ok_then c.open_area.result _ _ c.open_area.ensures.ok (λ ok. ok (fresh c.args.generation) 32 c.in_ok-write_header.ensures.ok)

pub returns-in_err-write_header-clause-seen : goal.returns-in_err-write_header-clause-seen
returns-in_err-write_header-clause-seen g c = λ known k other.
    c.write_header.ensures.seen (subst (λ (b : Bool). IsTrue b) (sym c.close_area.ensures.same_observable) known) k other ∙ c.close_area.ensures.seen known k other

pub returns-clause-seen : goal.returns-clause-seen
returns-clause-seen g c = λ known k other.
    let known1 : IsTrue (g.D.Disk.observable c.close_area.new.disk) = subst (λ (b : Bool). IsTrue b) (sym c.close_area.ensures.same_observable) known in
    c.open_area.ensures.seen (subst (λ (b : Bool). IsTrue b) (sym c.write_header.ensures.same_observable) known1) k other ∙ c.write_header.ensures.seen known1 k other ∙ c.close_area.ensures.seen known k other

pub returns-in_err-close_area-clause-within : goal.returns-in_err-close_area-clause-within
returns-in_err-close_area-clause-within g c = run_more _ _ _ _ 33 1 (omega arith) c.close_area.ensures.within

pub returns-in_err-write_header-clause-within : goal.returns-in_err-write_header-clause-within
returns-in_err-write_header-clause-within g c = run_twice _ _ _ _ _ _ 33 (run_more _ _ _ _ 33 1 (omega arith) c.close_area.ensures.within) c.write_header.ensures.within

pub returns-clause-within : goal.returns-clause-within
returns-clause-within g c = run_twice _ _ _ _ _ _ 33 (run_twice _ _ _ _ _ _ 33 (run_more _ _ _ _ 33 1 (omega arith) c.close_area.ensures.within) c.write_header.ensures.within) (run_more _ _ _ _ 33 1 (omega arith) c.open_area.ensures.within)
