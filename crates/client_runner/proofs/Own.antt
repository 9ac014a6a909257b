-- A client's own events in a trace.
use Rattle.std.proofs.Common.{◌≡◌, ◌==◌, ℕ, Bool, true, false, List, [], ◌∷◌, map, cond, refl, ap}
use Rattle.database_protocol.specs.declared.event.Event.{Event}
use Rattle.database_meaning.specs.Traces.{answers_of, operations_of}
use Rattle.turn_lock.specs.Journal.{own_entries}
use Rattle.client_runner.specs.Meant.{client_in}

joined : {A : Type 0} (f : Event → A) (b : Bool) (e : Event) (left : List A) (own : List Event) → left ≡ map f own → cond b (f e ∷ left) left ≡ map f (cond b (e ∷ own) own)
joined f true e left own h = ap (λ l. f e ∷ l) h
joined f false e left own h = h

pub answers_own : (n : ℕ) (trace : List Event) → answers_of n trace ≡ map (λ (e : Event). e.answer) (own_entries client_in n trace)
answers_own n [] = refl
answers_own n (e ∷ trace) = joined (λ (e : Event). e.answer) (e.client == n) e (answers_of n trace) (own_entries client_in n trace) (answers_own n trace)

pub operations_own : (n : ℕ) (trace : List Event) → operations_of n trace ≡ map (λ (e : Event). e.op) (own_entries client_in n trace)
operations_own n [] = refl
operations_own n (e ∷ trace) = joined (λ (e : Event). e.op) (e.client == n) e (operations_of n trace) (own_entries client_in n trace) (operations_own n trace)
