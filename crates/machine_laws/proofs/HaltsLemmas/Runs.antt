-- Every machine halts: a step spends a unit, or leaves fewer rounds, or less work.
use Rattle.std.proofs.Common.{arith, ◌<◌, ◌≤◌, ◌⊎◌, inl, inr, ℕ, zero, suc, List, [], ◌∷◌}
use Rattle.block_meaning.specs.Program.{Program}
use Rattle.block_meaning.specs.State.{State}
use Rattle.flat_machine.specs.Code.{Code}
use Rattle.flat_machine.specs.Config.{Await, Config, Execute, Mode, StackEntry, Unwind}
use Rattle.flat_machine.specs.Machine.{mode_step, step}
use Rattle.flat_machine.specs.Works.{IsRunning}
use Rattle.machine_laws.specs.units.Spending.{LeavesIn, after_steps}
use Rattle.machine_laws.proofs.UnitsLemmas.Runs.{step_spends}
use Rattle.machine_laws.specs.halts.Halted.{HaltsIn, IsHalted}
use Rattle.machine_laws.proofs.HaltsLemmas.Weights.{Falls, FallsIn, rounds_at, rounds_in, work_at, work_in}
use Rattle.machine_laws.proofs.HaltsLemmas.Completions.{pop_falls}
use Rattle.machine_laws.proofs.HaltsLemmas.Tasks.{task_falls}

-- it has halted, or its next step leaves less to do
abbrev Steps : Code → Program → Config → Type 0
Steps code p c = IsHalted c ⊎ (IsRunning c.mode × Falls c.state.units (rounds_in c) (work_in c) (step code p c))

mode_steps : (code : Code) (p : Program) (m : Mode) (ks : List StackEntry) (s : State) → HaltsIn m ks ⊎ (IsRunning m × Falls s.units (rounds_at m ks) (work_at m ks) (mode_step code p m ks s))
mode_steps code p (Execute t) ks s = inr (tt, task_falls code p ks s t)
mode_steps code p (Unwind completion) [] s = inl tt
mode_steps code p (Unwind completion) (k ∷ ks) s = inr (tt, pop_falls p ks s k completion)
mode_steps code p (Await op on) ks s = inl tt

-- it halts after some number of steps
abbrev Halts : Code → Program → Config → Type 0
Halts code p c = (n : ℕ) × IsHalted (after_steps code p n c)

one_more : (code : Code) (p : Program) (c : Config) → Halts code p (step code p c) → Halts code p c
one_more code p c h = (suc h.0, h.1)

-- after a step, where it has not halted
fewer : (m : Mode) (ks : List StackEntry) (n u r w after r' w' : ℕ) → n ≤ u → LeavesIn m n after → FallsIn m n r w after r' w' → HaltsIn m ks ⊎ ((after ≤ u) × ((after < u) ⊎ ((r' < r) ⊎ ((r' ≤ r) × (w' < w)))))
fewer (Execute t) ks n u r w after r' w' e h (inl x) = inr (omega (arith, e, h), inl (omega (arith, e, x)))
fewer (Execute t) ks n u r w after r' w' e h (inr x) = inr (omega (arith, e, h), inr x)
fewer (Unwind completion) ks n u r w after r' w' e h (inl x) = inr (omega (arith, e, h), inl (omega (arith, e, x)))
fewer (Unwind completion) ks n u r w after r' w' e h (inr x) = inr (omega (arith, e, h), inr x)
fewer (Await op on) ks n u r w after r' w' e h x = inl tt

module _ (code : Code) (p : Program) where
  halted : (c : Config) → IsHalted c → Halts code p c
  halted c h = (0, h)

  -- with fewer units, with fewer rounds, and with less work it halts
  abbrev Below : ℕ → ℕ → ℕ → Type 0
  Below u r w = (c : Config) → c.state.units ≤ u → rounds_in c ≤ r → work_in c ≤ w → Halts code p c

  stepped : (u r w : ℕ) → ((v : ℕ) → v < u → (r w : ℕ) → Below v r w) → ((q : ℕ) → q < r → (w : ℕ) → Below u q w) → ((v : ℕ) → v < w → Below u r v) → Below u r w
  stepped u r w units rounds work c a b d =
      elim (mode_steps code p c.mode c.stack c.state) [
        | inl is ↦ halted c is
        | inr x ↦
            (let n = step code p c in
            elim (fewer n.mode n.stack c.state.units u (rounds_in c) (work_in c) n.state.units (rounds_in n) (work_in n) a (step_spends code p c x.0) x.1) [
              | inl is ↦ one_more code p c (halted n is)
              | inr y ↦
                  elim y.1 [
                    | inl less ↦ one_more code p c (units n.state.units less (rounds_in n) (work_in n) n (omega arith) (omega arith) (omega arith))
                    | inr z ↦
                        elim z [
                          | inl fewer_rounds ↦ one_more code p c (rounds (rounds_in n) (omega (arith, fewer_rounds, b)) (work_in n) n y.0 (omega arith) (omega arith))
                          | inr l ↦ (let l0 = l.0 in let l1 = l.1 in one_more code p c (work (work_in n) (omega (arith, l1, d)) n y.0 (omega (arith, l0, b)) (omega arith)))
                        ]
                  ]
            ])
      ]

  by_work : (u r : ℕ) → ((v : ℕ) → v < u → (r w : ℕ) → Below v r w) → ((q : ℕ) → q < r → (w : ℕ) → Below u q w) → (w v : ℕ) → v < w → Below u r v
  by_work u r units rounds zero v e = absurd (omega (arith, e))
  by_work u r units rounds (suc w) v e = stepped u r v units rounds (λ x l. by_work u r units rounds w x (omega (arith, e, l)))

  by_rounds : (u : ℕ) → ((v : ℕ) → v < u → (r w : ℕ) → Below v r w) → (r q : ℕ) → q < r → (w : ℕ) → Below u q w
  by_rounds u units zero q e w = absurd (omega (arith, e))
  by_rounds u units (suc r) q e w = by_work u q units (λ x l. by_rounds u units r x (omega (arith, e, l))) (suc w) w (omega arith)

  by_units : (u v : ℕ) → v < u → (r w : ℕ) → Below v r w
  by_units zero v e r w = absurd (omega (arith, e))
  by_units (suc u) v e r w = by_rounds v (λ x l. by_units u x (omega (arith, e, l))) (suc r) r (omega arith) w

pub halts : (code : Code) (p : Program) (c : Config) → (n : ℕ) × IsHalted (after_steps code p n c)
halts code p c = by_units code p (suc c.state.units) c.state.units (omega arith) (rounds_in c) (work_in c) c (omega arith) (omega arith) (omega arith)
