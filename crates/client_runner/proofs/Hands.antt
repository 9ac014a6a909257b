-- The passes as they are handed out and taken in.
use Rattle.std.proofs.Common.{◌≡◌, ℕ, ◌+◌, ◌<◌, ◌≤◌, List, [], ◌∷◌, ◌++◌, length, Option, Some, None, MatchOption, refl, sym, ap, ◌∙◌, subst, arith, length-append, length-set, set, get_or, get_or-set_same, get_or-set_other}
use Rattle.std.specs.Prelude.{slice_index_or}
use Rattle.std.proofs.lemmas.List.{get_or_default}
use mathlib.Core.Logic.{dite}
use native.Mathlib.Decide.{ℕ_discrete}
use Rattle.database_protocol.specs.declared.event.Event.{Event}
use Rattle.turn_lock.specs.Shared.{Lock}
use Rattle.turn_lock.specs.Passes.{ClientPass, PassList, passes_from}
use Rattle.turn_lock.proofs.PassLists.{passes_from-next}
use Rattle.client_runner.specs.declared.task.Task.{Task}
use Rattle.client_runner.specs.Served.{Serving}
use Rattle.client_runner.specs.Tasks.{IsHandedOut, client_pass}

-- two lists that are equal end alike
same_ends : {A : Type 0} (xs ys : List A) (a b : A) → xs ++ a ∷ [] ≡ ys ++ b ∷ [] → (xs ≡ ys) × (a ≡ b)
same_ends [] [] a b e = (refl, cc)
same_ends [] (y ∷ ys) a b e = absurd (omega (arith, ap length e, length-append ys (b ∷ [])))
same_ends (x ∷ xs) [] a b e = absurd (omega (arith, ap length e, length-append xs (a ∷ [])))
same_ends (x ∷ xs) (y ∷ ys) a b e =
    let t : xs ++ a ∷ [] ≡ ys ++ b ∷ [] = cc in
    let h : x ≡ y = cc in
    let r = same_ends xs ys a b t in ((λ i. h i ∷ r.0 i), r.1)

module _ {T E : Type 0} where
  -- the last of the first k + 1 passes is that of client first + k
  pub taken_last : (lock l : Lock T) (first k : ℕ) (old new : List (ClientPass T E)) (r : Option (ClientPass T E)) → old ≡ passes_from lock first (k + 1)
      → MatchOption r ((old ≡ []) × (new ≡ [])) (λ p. (old ≡ new ++ p ∷ []) × (p.lock ≡ l)) → (r ≡ Some record { lock = lock; client = first + k; list = [] }) × (new ≡ passes_from lock first k)
  taken_last lock l first k old new None is h =
      let e = sym h.0 ∙ (is ∙ passes_from-next E lock first k) in absurd (omega (arith, ap length e, length-append (passes_from {E = E} lock first k) (record { lock = lock; client = first + k; list = [] } ∷ [])))
  taken_last lock l first k old new (Some p) is h =
      let t = same_ends new (passes_from lock first k) p record { lock = lock; client = first + k; list = [] } (sym h.0 ∙ (is ∙ passes_from-next E lock first k)) in (ap Some t.1, t.0)

-- what holds of each one after one was set
pub at_each : {A : Type 0} (P : ℕ → A → Type 0) (xs : List A) (i k : ℕ) (x d : A) → k < length xs → (k ≡ i → P k x) → (¬ (k ≡ i) → P k (get_or xs k d)) → P k (get_or (set xs i x) k d)
at_each P xs i k x d less mine other = dite (ℕ_discrete k i)
    (λ e. let here : get_or (set xs i x) i d ≡ x = get_or-set_same xs i x d (omega arith) in let h : P k x = mine e in let s : get_or (set xs i x) k d ≡ x = ap (λ (n : ℕ). get_or (set xs i x) n d) e ∙ here in subst (P k) (sym s) h)
    (λ n. subst (P k) (sym (get_or-set_other xs i k x d n)) (other n))

-- the passes below i are in hand, and each task from i on has its own
pub record HandedDownTo {C D : Type 0} (lock : Lock (Serving D)) (first : ℕ) (start : List (Task C D)) (i : ℕ) (hand : PassList (Serving D) Event) (tasks : List (Task C D)) : Type 0 where
  pub within : i ≤ length tasks
  pub same_lock : hand.lock ≡ lock
  pub left : hand.passes ≡ passes_from lock first i
  pub ready : (k : ℕ) (d : Task C D) → i ≤ k → k < length tasks → IsHandedOut lock (first + k) (slice_index_or start k d) (slice_index_or tasks k d)
  pub clients : (k : ℕ) (d : Task C D) → k < length tasks → (slice_index_or tasks k d).client ≡ (slice_index_or start k d).client

module _ {C D : Type 0} where
  -- the task i gets the last pass
  pub handed_out : (lock : Lock (Serving D)) (first : ℕ) (start : List (Task C D)) (n i m : ℕ) (hand new : PassList (Serving D) Event) (tasks : List (Task C D)) (d : Task C D) (pass : Option (ClientPass (Serving D) Event)) → n ≡ i + 1 → m ≡ first + i
      → HandedDownTo lock first start n hand tasks → new.lock ≡ hand.lock
      → MatchOption pass ((hand.passes ≡ []) × (new.passes ≡ [])) (λ p. (hand.passes ≡ new.passes ++ p ∷ []) × (p.lock ≡ hand.lock))
      → HandedDownTo lock first start i new (set tasks i record { client = (slice_index_or tasks i d).client; number = m; pass = pass; end = (slice_index_or tasks i d).end })
  handed_out lock first start n i m hand new tasks d pass one number h same last =
      let within = h.within in
      let less : i < length tasks = omega arith in
      let t = taken_last lock hand.lock first i hand.passes new.passes pass (h.left ∙ ap (passes_from lock first) one) last in
      let client : (b : Task C D) (k : ℕ) → k ≡ i → (slice_index_or tasks i d).client ≡ (slice_index_or start k b).client =
      λ b k e. ap (λ (z : Task C D). z.client) (get_or_default tasks i d b less) ∙ (h.clients i b less ∙ ap (λ j. (slice_index_or start j b).client) (sym e)) in
      record {
        within = simp length-set (omega arith);
        same_lock = same ∙ h.same_lock;
        left = t.1;
        ready = λ k b above near'. let near = simp length-set at near' in at_each (λ j (z : Task C D). IsHandedOut lock (first + j) (slice_index_or start j b) z) tasks i k _ b near
            (λ e. record { number = number ∙ ap (λ j. first + j) (sym e); has = t.0 ∙ ap (λ j. Some (client_pass lock (first + j) [])) (sym e); client = client b k e })
            (λ other. h.ready k b (omega arith) near);
        clients = λ k b near'. let near = simp length-set at near' in at_each (λ j (z : Task C D). z.client ≡ (slice_index_or start j b).client) tasks i k _ b near
            (λ e. client b k e)
            (λ other. h.clients k b near);
      }
