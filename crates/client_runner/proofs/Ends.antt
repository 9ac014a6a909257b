-- A task at the end of the run.
use Rattle.std.proofs.Common.{◌≡◌, ℕ, List, Option, Some, None, IsSomeAnd, sym, ap, ◌∙◌, subst}
use Rattle.database_protocol.specs.declared.event.Event.{Event}
use Rattle.database_protocol.specs.declared.operation.Op.{Op}
use Rattle.database_protocol.specs.declared.next_step.NextStep.{NextStep}
use Rattle.database_meaning.specs.Setting.{Setting}
use Rattle.turn_lock.specs.declared.view.Key.{Key}
use Rattle.turn_lock.specs.Shared.{Lock, IsMadeOf}
use Rattle.client_runner.specs.declared.task.Task.{Task}
use Rattle.client_runner.specs.Meant.{Meant, NoneIsRefused, AllFit, RefusesOnlyUnsure}
use Rattle.client_runner.specs.Served.{Serving}
use Rattle.client_runner.specs.Tasks.{RanToEnd, IsHandedOut, HasRun, HasSettingAtLock, CameToItsEnd, own_in}

module _ {D : Type 0} (P : D → Type 0) where
  -- what holds of a database holds of the one that the lock was made of, which is that one
  pub at_made : (lock : Lock (Serving D)) (v : Serving D) (database : D) (first clients : ℕ)
      → IsMadeOf lock v first clients → v.start.database.value ≡ database → P database → IsSomeAnd lock.key (λ k. P k.start.value.start.database.value)
  at_made lock v database first clients made e h = by lock.key made
    where
      by : (key : Option (Key (Serving D))) → IsSomeAnd key (λ k. (k.start.value ≡ v) × (k.first ≡ first) × (k.seats ≡ clients)) → IsSomeAnd key (λ k. P k.start.value.start.database.value)
      by None is = absurd is
      by (Some k) is = subst P (sym (ap (λ (x : Serving D). x.start.database.value) is.0 ∙ e)) h

module _ {D : Type 0} where
  -- a value of the lock began as the one that the lock was made of
  pub began_as : (lock : Lock (Serving D)) (Q : Key (Serving D) → Type 0) (v x : Serving D) (first clients : ℕ)
      → IsMadeOf lock v first clients → IsSomeAnd lock.key (λ k. (x.start ≡ k.start.value.start) × Q k) → x.start ≡ v.start
  began_as lock Q v x first clients made h = by lock.key made h
    where
      by : (key : Option (Key (Serving D))) → IsSomeAnd key (λ k. (k.start.value ≡ v) × (k.first ≡ first) × (k.seats ≡ clients)) → IsSomeAnd key (λ k. (x.start ≡ k.start.value.start) × Q k) → x.start ≡ v.start
      by None is began = absurd is
      by (Some k) is began = began.0 ∙ ap (λ (y : Serving D). y.start) is.0

module _ {C D : Type 0} (begins : C → Meant → Type 0) (along : C → Meant → List Event → NextStep → Type 0) (suits : C → Setting → Type 0) (careful : Meant → Type 0) (certain : Op → Type 0) (has_setting : D → Setting → Type 0) where
  pub came_to_its_end : (lock made : Lock (Serving D)) (n : ℕ) (HasIt : Setting → Type 0) (own : List Event) (old handed ran done : Task C D)
      → IsHandedOut lock n old handed → HasRun begins along suits careful certain has_setting made handed ran → (done.client ≡ ran.client) × (done.end ≡ ran.end)
      → ((f : Setting) → HasIt f → HasSettingAtLock has_setting made f) → own ≡ own_in ran.pass → CameToItsEnd begins along suits careful certain HasIt own old done
  came_to_its_end lock made n HasIt own old handed ran done h r same is mine =
      let events : own ≡ r.own = mine ∙ ap (own_in {D = D}) r.has in
      record {
        end = r.end;
        ended = same.1 ∙ r.ended;
        came = λ m begun. subst (λ (y : C × List Event). RanToEnd along y.0 m y.1 r.end) (λ i. (sym same.0 i, sym events i)) (r.came m (subst (λ c. begins c m) (sym h.client) begun));
        fits = λ f has. subst (AllFit f) (sym events) (r.fits f (is f has));
        refused = λ f has. subst (RefusesOnlyUnsure f) (sym events) (r.refused f (is f has));
        unrefused = λ m f begun mild has suit. subst (NoneIsRefused certain) (sym events) (r.unrefused m f (subst (λ c. begins c m) (sym h.client) begun) mild (is f has) (subst (λ c. suits c f) (sym h.client) suit));
      }
