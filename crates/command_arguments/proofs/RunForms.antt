-- Arguments of the command `run`, and the wrong one among its clients.
use Rattle.std.proofs.Common.{◌≡◌, ◌+◌, ◌<◌, ◌≤◌, ℕ, suc, List, [], ◌∷◌, ◌++◌, refl, ap, sym, ◌∙◌, subst, arith, length, take, drop, get_or, length-append, append-nil, add-one, length-take-le, take-take}
use Rattle.std.proofs.lemmas.List.{take-append-drop}
use Rattle.std.specs.Prelude.{codes, map}
use Rattle.command_arguments.specs.declared.parts.Mode.{Mode}
use Rattle.command_arguments.specs.declared.parts.Mode.TheVariants.{Trace, Quiet}
use Rattle.command_arguments.specs.CommandLine.{Run, IsRun, IsSteps, AreClients, arguments_of, client_argument, mode_argument, HaveRunForm, BeginForm, IsWrongIn, at_argument, missing}
use Rattle.command_arguments.specs.Places.{form, FitAll}
use Rattle.command_arguments.proofs.Clients.{are_first, same_lengths}
use Rattle.command_arguments.proofs.Forms.{begin_of_fit, misfit_is_small}

-- ---- the first four arguments

-- the arguments `run SCHEMA STEPS MODE` and others
abbrev pub run_then : List ℕ → List ℕ → Mode → List (List ℕ) → List (List ℕ)
run_then schema steps mode rest = codes "run" ∷ schema ∷ steps ∷ mode_argument mode ∷ rest

pub record Fitted (arguments : List (List ℕ)) : Type 0 where
  pub schema : List ℕ
  pub steps : List ℕ
  pub mode : Mode
  pub some : 0 < length schema
  pub is_steps : IsSteps steps
  pub arguments_are : arguments ≡ run_then schema steps mode (drop 4 arguments)

by_parts : (arguments : List (List ℕ)) → 4 ≤ length arguments → FitAll form (take 4 arguments) → Fitted arguments
by_parts [] few fit = absurd (omega (arith, few))
by_parts (a ∷ []) few fit = absurd (omega (arith, few))
by_parts (a ∷ b ∷ []) few fit = absurd (omega (arith, few))
by_parts (a ∷ b ∷ c ∷ []) few fit = absurd (omega (arith, few))
by_parts (a ∷ b ∷ c ∷ d ∷ rest) few fit =
    record {
      schema = b;
      steps = c;
      mode = fit.1.1.1.0.0;
      some = fit.1.0;
      is_steps = fit.1.1.0;
      arguments_are = ap (λ w. w ∷ b ∷ c ∷ d ∷ rest) fit.0 ∙ ap (λ w. codes "run" ∷ b ∷ c ∷ w ∷ rest) fit.1.1.1.0.1;
    }

-- the arguments up to the first misfit, where it is not before the clients
pub fitted : (arguments : List (List ℕ)) (n : ℕ) → n ≤ length arguments → FitAll form (take n arguments) → 4 ≤ n → Fitted arguments
fitted arguments n within fit late =
    let small = misfit_is_small arguments n within fit in
    let is : n ≡ 4 = omega (arith, small, late) in
    by_parts arguments (omega (arith, within, late)) (subst (λ k. FitAll form (take k arguments)) is fit)

-- an argument names one mode
pub one_mode : (a b : Mode) → mode_argument a ≡ mode_argument b → a ≡ b
one_mode Trace Trace e = refl
one_mode Quiet Quiet e = refl
one_mode Trace Quiet e = let n : 116 ≡ 113 = ap (λ (ws : List ℕ). get_or ws 0 0) e in absurd (omega (arith, n))
one_mode Quiet Trace e = let n : 113 ≡ 116 = ap (λ (ws : List ℕ). get_or ws 0 0) e in absurd (omega (arith, n))

-- ---- the clients

module _ (schema steps : List ℕ) (mode : Mode) (some : 0 < length schema) (is_steps : IsSteps steps) where
  -- the run of the clients that arguments name
  abbrev pub run_of : (ws : List (List ℕ)) → AreClients ws → Run
  run_of ws are = record { schema = schema; steps = steps; mode = mode; clients = are.clients }

  pub is_run : (ws : List (List ℕ)) (are : AreClients ws) → 0 < length ws → length ws ≤ 16 → IsRun (run_of ws are)
  is_run ws are one few =
      let same = same_lengths ws are.clients are.arguments_are in
      record { schema = some; steps = is_steps; some = omega (arith, one, same); few = omega (arith, few, same); clients = are.good; names = are.names }

  pub arguments_are_its : (ws : List (List ℕ)) (are : AreClients ws) → run_then schema steps mode ws ≡ arguments_of (run_of ws are)
  arguments_are_its ws are = ap (run_then schema steps mode) are.arguments_are

  begin_with : (ws : List (List ℕ)) → AreClients ws → length ws ≤ 16 → BeginForm HaveRunForm (run_then schema steps mode ws)
  begin_with [] are few = begin_of_fit (run_then schema steps mode []) (refl, (some, (is_steps, ((mode, refl), tt))))
  begin_with (w ∷ ws) are few = ([], (run_of (w ∷ ws) are, (is_run (w ∷ ws) are (omega arith) few, append-nil (run_then schema steps mode (w ∷ ws)) ∙ arguments_are_its (w ∷ ws) are)))

  -- what follows in the form of a run
  record Follow (ws : List (List ℕ)) : Type 0 where
    pub are : AreClients ws
    pub one : 0 < length ws
    pub few : length ws ≤ 16

  follow : (ws : List (List ℕ)) → HaveRunForm (run_then schema steps mode ws) → Follow ws
  follow ws has =
      let rest : ws ≡ map client_argument has.0.clients = ap (drop 4) has.1.1 in
      let same = same_lengths ws has.0.clients rest in
      let one = has.1.0.some in
      let few = has.1.0.few in
      record { are = record { clients = has.0.clients; good = has.1.0.clients; names = has.1.0.names; arguments_are = rest }; one = omega (arith, same, one); few = omega (arith, same, few) }

  pub wrong_client : (ws : List (List ℕ)) (n : ℕ) → n < length ws → n < 16 → AreClients (take n ws) → ¬ AreClients (take (n + 1) ws) → IsWrongIn HaveRunForm (run_then schema steps mode ws) (n + 4)
  wrong_client ws n below few are wrong =
      subst (IsWrongIn HaveRunForm (run_then schema steps mode ws)) (omega arith) (at_argument (run_then schema steps mode ws) (suc (suc (suc (suc n)))) (omega (arith, below)) (begin_with (take n ws) are (omega (arith, few, short))) ends)
    where
      short : length (take n ws) ≡ n
      short = length-take-le n ws (omega (arith, below))

      by_form : (more : List (List ℕ)) → HaveRunForm (run_then schema steps mode (take (suc n) ws ++ more)) → ⊥
      by_form more has = wrong (subst (λ k. AreClients (take k ws)) (sym (add-one n)) (are_first (take (suc n) ws) more (follow (take (suc n) ws ++ more) has).are))

      ends : BeginForm HaveRunForm (take (suc (suc (suc (suc n))) + 1) (run_then schema steps mode ws)) → ⊥
      ends b = by_form b.0 (subst (λ k. HaveRunForm (take k (run_then schema steps mode ws) ++ b.0)) (add-one (suc (suc (suc (suc n))))) b.1)

  pub many_clients : (ws : List (List ℕ)) (n : ℕ) → 16 < length ws → 16 ≤ n → AreClients (take n ws) → IsWrongIn HaveRunForm (run_then schema steps mode ws) 20
  many_clients ws n many far are = at_argument (run_then schema steps mode ws) 20 (omega (arith, many)) (begin_with (take 16 ws) first (omega (arith, short))) ends
    where
      short : length (take 16 ws) ≡ 16
      short = length-take-le 16 ws (omega (arith, many))

      longer : length (take 17 ws) ≡ 17
      longer = length-take-le 17 ws (omega (arith, many))

      first : AreClients (take 16 ws)
      first = subst AreClients (take-take 16 n ws far) (are_first (take 16 (take n ws)) (drop 16 (take n ws)) (subst AreClients (sym (take-append-drop 16 (take n ws))) are))

      by_form : (more : List (List ℕ)) → HaveRunForm (run_then schema steps mode (take 17 ws ++ more)) → ⊥
      by_form more has =
          let few = (follow (take 17 ws ++ more) has).few in
          let sum = length-append (take 17 ws) more in
          omega (arith, few, sum, longer)

      ends : BeginForm HaveRunForm (take (20 + 1) (run_then schema steps mode ws)) → ⊥
      ends b = by_form b.0 b.1

  pub none_follow : (ws : List (List ℕ)) → length ws ≡ 0 → IsWrongIn HaveRunForm (run_then schema steps mode ws) 4
  none_follow [] none = missing (run_then schema steps mode []) (begin_of_fit (run_then schema steps mode []) (refl, (some, (is_steps, ((mode, refl), tt))))) (λ has. let one = (follow [] has).one in omega (arith, one))
  none_follow (w ∷ ws) none = absurd (omega (arith, none))
