-- A part of a run ends at once after an answer that stops the client. No part requests End.
-- A part that has completed stays completed when more answers follow.
use Rattle.std.proofs.Common.{◌≡◌, refl, sym, ap, ◌∙◌, subst, ℕ, zero, suc, List, [], ◌∷◌, ◌++◌, Bool, true, false}
use Rattle.database_protocol.specs.declared.operation.Op.{Op}
use Rattle.database_protocol.specs.declared.operation.Op.TheVariants as op
use Rattle.database_protocol.specs.declared.answer.Answer.{Answer}
use Rattle.database_protocol.specs.declared.answer.Answer.TheVariants as answer
use Rattle.database_protocol.specs.declared.ends.ClientEnd.{ClientEnd}
use Rattle.database_protocol.specs.declared.next_step.NextStep.{NextStep}
use Rattle.database_protocol.specs.declared.next_step.NextStep.TheVariants.{Ask, Ended}
use Rattle.block_meaning.specs.State.{State, Completion, Normal, Stops, Progress, Outcome, Done, Suspended, Continuation, completes, if_else, update_then, costs_unit_of, costs_unit, awaits, asks, if_normal, and_then, Completed, immediately}
use Rattle.block_meaning.proofs.Continues.{Keeps, Stays}
use Rattle.client_threads.specs.runs.Careful.{IsStop}

-- the operation is not End
abbrev pub IsNoEnd : Op → Type 0
IsNoEnd op.End = ⊥
IsNoEnd o = Unit {0}

abbrev pub AsksNoEnd : NextStep → Type 0
AsksNoEnd (Ask o) = IsNoEnd o
AsksNoEnd (Ended e) = ⊥

-- if the first of these answers stops the client, the part ends, and the other answers are left
abbrev pub IsOverAfter : Outcome → List Answer → Type 0
IsOverAfter again [] = Unit {0}
IsOverAfter again (a ∷ more) = IsStop a → (e : ClientEnd) × (s : State) × (again ≡ Done (Stops e) s more)

-- an outcome, and the outcome with more answers
abbrev pub Goes : Outcome → Outcome → List Answer → Type 0
Goes (Done completion s left) again more = again ≡ Done completion s (left ++ more)
Goes (Suspended d) again more = AsksNoEnd d.wants × IsOverAfter again more

abbrev pub Fits : State → List Answer → Outcome → Outcome → List Answer → Type 0
Fits s ans r again more = Goes r again more

abbrev pub Halting : Continuation → Type 0
Halting go = (s : State) (ans more : List Answer) → Goes (go s ans) (go s (ans ++ more)) more

-- ---- parts

pub halts_goes : (completion : Completion) → Halting (completes completion)
halts_goes completion s ans more = refl

pub halts_where : (b : Bool) (one other : Continuation) → Halting one → Halting other → Halting (if_else b one other)
halts_where true one other x y s ans more = x s ans more
halts_where false one other x y s ans more = y s ans more

pub halts_first : (change : State → State) (go : Continuation) → ((s : State) → Keeps change s) → Halting go → Halting (update_then change go)
halts_first change go k x s ans more = x (change s) ans more

costs_unit_halts : (n : ℕ) (go : Continuation) → Halting go → (s : State) (ans more : List Answer) → Goes (costs_unit_of n go s ans) (costs_unit_of n go s (ans ++ more)) more
costs_unit_halts zero go x s ans more = refl
costs_unit_halts (suc n) go x s ans more = x (record s { units = n }) ans more

pub halts_charged : (go : Continuation) → Halting go → Halting (costs_unit go)
halts_charged go x s ans more = costs_unit_halts s.units go x s ans more

-- ---- operations

over_after : (o : Op) (go : Answer → Continuation) (s : State) (more : List Answer) → IsOverAfter (awaits o go s more) more
over_after o go s [] = tt
over_after o go s (answer.NoMemory ∷ more) = λ stop. (_, s, refl)
over_after o go s (answer.Closed ∷ more) = λ stop. (_, s, refl)
over_after o go s (answer.Deadlock cycle ∷ more) = λ stop. (_, s, refl)
over_after o go s (answer.TxFull ∷ more) = λ stop. (_, s, refl)
over_after o go s (answer.TraceFull ∷ more) = λ stop. (_, s, refl)
over_after o go s (a ∷ more) = λ stop. absurd stop

awaits_halts : (o : Op) → IsNoEnd o → (go : Answer → Continuation) → ((a : Answer) → Halting (go a)) → Halting (awaits o go)
awaits_halts o not_end go x s [] more = (not_end, over_after o go s more)
awaits_halts o not_end go x s (answer.Blocked holders ∷ ans) more = awaits_halts o not_end go x s ans more
awaits_halts o not_end go x s (answer.NoMemory ∷ ans) more = refl
awaits_halts o not_end go x s (answer.Closed ∷ ans) more = refl
awaits_halts o not_end go x s (answer.Deadlock cycle ∷ ans) more = refl
awaits_halts o not_end go x s (answer.TxFull ∷ ans) more = refl
awaits_halts o not_end go x s (answer.TraceFull ∷ ans) more = refl
awaits_halts o not_end go x s (a ∷ ans) more = x a s ans more

pub halts_asks : (o : Op) → IsNoEnd o → (go : Answer → Continuation) → ((a : Answer) → Halting (go a)) → Halting (asks o go)
halts_asks o not_end go x = halts_charged (awaits o go) (awaits_halts o not_end go x)

-- ---- one part after the other

-- what follows the completion of a part; a stop is propagated
pub record Handles (h : Outcome → Outcome) (k : Completion → Continuation) : Type 0 where
  pub completes : (completion : Completion) (s : State) (ans : List Answer) → h (Done completion s ans) ≡ k completion s ans
  pub stands : (d : Progress) → h (Suspended d) ≡ Suspended d
  pub stops : (e : ClientEnd) (s : State) (ans : List Answer) → h (Done (Stops e) s ans) ≡ Done (Stops e) s ans

over_handled : (h : Outcome → Outcome) (k : Completion → Continuation) → Handles h k → (again : Outcome) (more : List Answer) → IsOverAfter again more → IsOverAfter (h again) more
over_handled h k c again [] x = tt
over_handled h k c again (a ∷ more) x = λ stop. let y = x stop in (y.0, y.1, ap h y.2 ∙ c.stops y.0 y.1 more)

goes_handled : (h : Outcome → Outcome) (k : Completion → Continuation) → Handles h k → ((completion : Completion) → Halting (k completion)) → (r again : Outcome) (more : List Answer) → Goes r again more → Goes (h r) (h again) more
goes_handled h k c x (Done completion t left) again more g =
    let one : h (Done completion t left) ≡ k completion t left = c.completes completion t left in
    let two : h again ≡ k completion t (left ++ more) = ap h g ∙ c.completes completion t (left ++ more) in
    subst (λ r. Goes (h (Done completion t left)) r more) (sym two) (subst (λ r. Goes r (k completion t (left ++ more)) more) (sym one) (x completion t left more))
goes_handled h k c x (Suspended d) again more g = subst (λ r. Goes r (h again) more) (sym (c.stands d)) (g.0, over_handled h k c again more g.1)

-- a function of the outcome of a part
pub halts_handled : (go : Continuation) (h : Outcome → Outcome) (k : Completion → Continuation) → Handles h k → Halting go → ((completion : Completion) → Halting (k completion)) → (s : State) (ans more : List Answer) → Goes (h (go s ans)) (h (go s (ans ++ more))) more
halts_handled go h k c x y s ans more = goes_handled h k c y (go s ans) (go s (ans ++ more)) more (x s ans more)

if_normal_halts : (next : Continuation) → Halting next → (completion : Completion) → Halting (if_normal completion next)
if_normal_halts next x Normal s ans more = x s ans more
if_normal_halts next x completion s ans more = refl

pub halts_then : (go next : Continuation) → Halting go → Halting next → (s : State) (ans more : List Answer) → Goes (and_then (go s ans) next) (and_then (go s (ans ++ more)) next) more
halts_then go next x y s ans more =
    halts_handled go (λ r. and_then r next) (λ completion. if_normal completion next) (record { completes = λ completion s ans. refl; stands = λ d. refl; stops = λ e s ans. refl }) x (if_normal_halts next y) s ans more

-- ---- parts that ask for no operation

pub halts_done : (f : State → Completed) → ((s : State) → Stays f s) → Halting (immediately f)
halts_done f k s ans more = refl
