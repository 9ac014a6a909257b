-- What a client waits for, and its remaining work.
use Rattle.std.proofs.Common.{◌≡◌, ℕ, ◌+◌, ◌<◌, List, [], ◌∷◌, refl, sym, subst, arith}
use Rattle.database_protocol.specs.declared.operation.Op.TheVariants as op
use Rattle.database_protocol.specs.declared.next_step.NextStep.{NextStep}
use Rattle.database_protocol.specs.declared.next_step.NextStep.TheVariants.{Ask, Ended}
use Rattle.client_machine.specs.declared.mode.Mode.{Mode}
use Rattle.client_machine.specs.declared.mode.Mode.TheVariants as mode
use Rattle.client_machine.specs.declared.mode.StackEntry.{StackEntry}
use Rattle.client_machine.specs.Step.{IsAwaiting, IsOver}
use Rattle.client_machine.specs.Shows.{Shows}
use Rattle.client_core.specs.declared.client.Phase.{Phase}
use Rattle.client_core.specs.declared.client.Phase.TheVariants as phase
use Rattle.client_core.specs.NextStep.{IsAsking}
use Rattle.client_core.specs.ClientView.{ClientView}
use Rattle.client_core.specs.Work.{operations_in, WaitsIn, EndsIn, ShowsIn, IsWaiting, IsEnding, AsksNoEnd, ShowsNextStep}

-- if a running client waits but awaits no answer, the run is over and the stack is empty
pub at_end : (ph : Phase) (m : Mode) (ks : List StackEntry) → ph ≡ phase.Running → WaitsIn ph m ks → (IsAwaiting m → ⊥) → IsOver m × (ks ≡ [])
at_end phase.Running (mode.Execute t) ks e waits none = absurd waits
at_end phase.Running (mode.Await o k) ks e waits none = absurd (none tt)
at_end phase.Running (mode.Unwind w) [] e waits none = (tt, refl)
at_end phase.Running (mode.Unwind w) (k ∷ ks) e waits none = absurd waits
at_end phase.GivingUp m ks e waits none = absurd (cc)
at_end phase.Ended m ks e waits none = absurd (cc)

-- if it requests an operation, it waits
waits_in : (ph : Phase) (m : Mode) (ks : List StackEntry) (w : NextStep) → ShowsIn ph m ks w → IsAsking w → WaitsIn ph m ks
waits_in phase.Running (mode.Execute t) ks w shows asks = absurd shows.0
waits_in phase.Running (mode.Await o k) ks w shows asks = tt
waits_in phase.Running (mode.Unwind x) [] w shows asks = tt
waits_in phase.Running (mode.Unwind x) (k ∷ ks) w shows asks = absurd shows.0
waits_in phase.GivingUp m ks w shows asks = tt
waits_in phase.Ended m ks (Ask o) shows asks = absurd shows
waits_in phase.Ended m ks (Ended e) shows asks = absurd asks

pub shows_waits : (c : ClientView) (w : NextStep) → ShowsNextStep c w → IsAsking w → IsWaiting c
shows_waits c w shows asks = waits_in c.phase c.machine.mode c.machine.stack.items w shows asks

-- if it requests End, it waits for the answer to End
ends_in : (ph : Phase) (m : Mode) (ks : List StackEntry) → ShowsIn ph m ks (Ask op.End) → EndsIn ph m ks
ends_in phase.Running (mode.Execute t) ks shows = absurd shows.0
ends_in phase.Running (mode.Await o k) ks shows = absurd (shows.1 refl tt)
ends_in phase.Running (mode.Unwind x) [] shows = tt
ends_in phase.Running (mode.Unwind x) (k ∷ ks) shows = absurd shows.0
ends_in phase.GivingUp m ks shows = tt
ends_in phase.Ended m ks shows = absurd shows

pub shows_end : (c : ClientView) → ShowsNextStep c (Ask op.End) → IsEnding c
shows_end c shows = ends_in c.phase c.machine.mode c.machine.stack.items shows

-- after an answer to an operation, fewer operations remain
pub fewer_left : (ph : Phase) (m : Mode) (ks : List StackEntry) (units limit : ℕ) (w : NextStep) → ph ≡ phase.Running → Shows m ks w → (IsAwaiting m → units < limit) → operations_in ph m ks units < limit + 2
fewer_left phase.Running (mode.Execute t) ks units limit w e shows less = absurd shows
fewer_left phase.Running (mode.Await o k) ks units limit w e shows less = let lt = less tt in omega (arith, lt)
fewer_left phase.Running (mode.Unwind x) [] units limit w e shows less = omega arith
fewer_left phase.Running (mode.Unwind x) (k ∷ ks) units limit w e shows less = absurd shows
fewer_left phase.GivingUp m ks units limit w e shows less = absurd (cc)
fewer_left phase.Ended m ks units limit w e shows less = absurd (cc)

-- its next step while it runs
pub shows_running : (ph : Phase) (m : Mode) (ks : List StackEntry) (w : NextStep) → ph ≡ phase.Running → Shows m ks w → AsksNoEnd m w → ShowsIn ph m ks w
shows_running ph m ks w e shows request = subst (λ x. ShowsIn x m ks w) (sym e) (shows, request)

-- it gives up, or has ended
pub gives_shows : (ph : Phase) (m : Mode) (ks : List StackEntry) (w : NextStep) → ph ≡ phase.GivingUp → w ≡ Ask op.End → ShowsIn ph m ks w
gives_shows ph m ks w e asks = subst (λ x. ShowsIn x m ks w) (sym e) asks

pub gives_fewer : (ph : Phase) (m : Mode) (ks : List StackEntry) (units limit : ℕ) → ph ≡ phase.GivingUp → operations_in ph m ks units < limit + 2
gives_fewer ph m ks units limit e = subst (λ x. operations_in x m ks units < limit + 2) (sym e) (let lt : 1 < limit + 2 = omega arith in lt)

pub ended_fewer : (ph : Phase) (m : Mode) (ks : List StackEntry) (units units' : ℕ) (m' : Mode) (ks' : List StackEntry) (ph' : Phase) → ph' ≡ phase.Ended → WaitsIn ph m ks → operations_in ph' m' ks' units' < operations_in ph m ks units
ended_fewer phase.Running (mode.Execute t) ks units units' m' ks' ph' e waits = absurd waits
ended_fewer phase.Running (mode.Await o k) ks units units' m' ks' ph' e waits = subst (λ x. operations_in x m' ks' units' < units + 2) (sym e) (let lt : 0 < units + 2 = omega arith in lt)
ended_fewer phase.Running (mode.Unwind w) [] units units' m' ks' ph' e waits = subst (λ x. operations_in x m' ks' units' < 1) (sym e) (let lt : 0 < 1 = omega arith in lt)
ended_fewer phase.Running (mode.Unwind w) (k ∷ ks) units units' m' ks' ph' e waits = absurd waits
ended_fewer phase.GivingUp m ks units units' m' ks' ph' e waits = subst (λ x. operations_in x m' ks' units' < 1) (sym e) (let lt : 0 < 1 = omega arith in lt)
ended_fewer phase.Ended m ks units units' m' ks' ph' e waits = absurd waits

-- the bound on the operations of a client that awaits an answer
pub awaiting_has : (ph : Phase) (m : Mode) (ks : List StackEntry) (units : ℕ) → ph ≡ phase.Running → IsAwaiting m → operations_in ph m ks units ≡ units + 2
awaiting_has phase.Running (mode.Execute t) ks units e waits = absurd waits
awaiting_has phase.Running (mode.Await o k) ks units e waits = refl
awaiting_has phase.Running (mode.Unwind w) ks units e waits = absurd waits
awaiting_has phase.GivingUp m ks units e waits = absurd (cc)
awaiting_has phase.Ended m ks units e waits = absurd (cc)

-- a client that awaits an answer does not wait for the answer to End
pub awaiting_not_ending : (ph : Phase) (m : Mode) (ks : List StackEntry) → ph ≡ phase.Running → IsAwaiting m → EndsIn ph m ks → ⊥
awaiting_not_ending phase.Running (mode.Execute t) ks e waits ends = absurd waits
awaiting_not_ending phase.Running (mode.Await o k) ks e waits ends = absurd ends
awaiting_not_ending phase.Running (mode.Unwind w) ks e waits ends = absurd waits
awaiting_not_ending phase.GivingUp m ks e waits ends = absurd (cc)
awaiting_not_ending phase.Ended m ks e waits ends = absurd (cc)

pub gives_ends : (ph : Phase) (m : Mode) (ks : List StackEntry) → ph ≡ phase.GivingUp → EndsIn ph m ks
gives_ends ph m ks e = subst (λ x. EndsIn x m ks) (sym e) tt
