-- Arguments that begin the form of a run are those that fit their places, and then those of clients.
use Rattle.std.proofs.Common.{◌≡◌, ◌≢◌, ◌<◌, ◌≤◌, ◌+◌, ℕ, suc, List, [], ◌∷◌, ◌++◌, refl, ap, sym, ◌∙◌, subst, arith, length, take, get_or, true, false, Bool, inr, None, length-take-le}
use Rattle.std.proofs.lemmas.List.{take_all}
use Rattle.std.proofs.lemmas.Bool.{ltb-true, ltb-false}
use Rattle.std.proofs.lemmas.List.Elements.{All-cons, All-nil}
use Rattle.std.specs.Prelude.{codes, map, nat_lt}
use Rattle.std.specs.Char.{IsAsciiDigit, IsAsciiAlphanumeric}
use Rattle.command_arguments.specs.declared.parts.Mode.{Mode}
use Rattle.command_arguments.specs.declared.parts.Mode.TheVariants.{Quiet}
use Rattle.command_arguments.specs.CommandLine.{Run, ClientFiles, IsClientFiles, IsRun, IsSteps, IsName, IsFileName, arguments_of, client_argument, HaveRunForm, BeginForm, IsWrongIn, at_argument, missing}
use Rattle.command_arguments.specs.Places.{form, FitAll}

-- ---- arguments of the form that some others begin

one_is_steps : IsSteps (49 ∷ [])
one_is_steps =
    record {
      digits = All-cons IsAsciiDigit 49 [] (omega arith, omega arith) (All-nil IsAsciiDigit);
      some = omega arith;
      short = omega arith;
      first = λ e. cc e;
    }

a_is_name : IsName (97 ∷ [])
a_is_name =
    record {
      letters = All-cons IsAsciiAlphanumeric 97 [] (inr (omega arith, omega arith)) (All-nil IsAsciiAlphanumeric);
      some = omega arith;
      short = omega arith;
    }

p_is_program : IsFileName (112 ∷ [])
p_is_program = record { some = omega arith; plain = All-cons (λ byte. byte ≢ 60) 112 [] (λ e. omega arith) (All-nil (λ byte. byte ≢ 60)) }

-- the client `a=p`
a_client : ClientFiles
a_client = record { name = 97 ∷ []; program = 112 ∷ []; input = None }

a_is_client : IsClientFiles a_client
unfolding a_client
a_is_client = record { name = a_is_name; program = p_is_program; input = tt }

only_a : List ClientFiles
only_a = a_client ∷ []

-- the run of the client `a=p` alone
run_with : List ℕ → List ℕ → Mode → Run
run_with schema steps mode = record { schema = schema; steps = steps; mode = mode; clients = only_a }

is_run_with : (schema steps : List ℕ) (mode : Mode) → 0 < length schema → IsSteps steps → IsRun (run_with schema steps mode)
unfolding run_with only_a
is_run_with schema steps mode some is_steps =
    record { schema = some; steps = is_steps; some = omega arith; few = omega arith; clients = All-cons IsClientFiles a_client [] a_is_client (All-nil IsClientFiles); names = (All-nil (λ (d : ClientFiles). a_client.name ≢ d.name), tt) }

-- arguments that fit their places begin the form
pub begin_of_fit : (arguments : List (List ℕ)) → FitAll form arguments → BeginForm HaveRunForm arguments
unfolding run_with
begin_of_fit [] fit = (arguments_of (run_with (115 ∷ []) (49 ∷ []) Quiet), (run_with (115 ∷ []) (49 ∷ []) Quiet, (is_run_with (115 ∷ []) (49 ∷ []) Quiet (omega arith) one_is_steps, refl)))
begin_of_fit (a ∷ []) fit =
    let rest : List (List ℕ) = (115 ∷ []) ∷ (49 ∷ []) ∷ codes "quiet" ∷ map client_argument only_a in
    (rest, (run_with (115 ∷ []) (49 ∷ []) Quiet, (is_run_with (115 ∷ []) (49 ∷ []) Quiet (omega arith) one_is_steps, ap (λ w. w ∷ rest) fit.0)))
begin_of_fit (a ∷ b ∷ []) fit =
    let rest : List (List ℕ) = (49 ∷ []) ∷ codes "quiet" ∷ map client_argument only_a in
    (rest, (run_with b (49 ∷ []) Quiet, (is_run_with b (49 ∷ []) Quiet fit.1.0 one_is_steps, ap (λ w. w ∷ b ∷ rest) fit.0)))
begin_of_fit (a ∷ b ∷ c ∷ []) fit =
    let rest : List (List ℕ) = codes "quiet" ∷ map client_argument only_a in
    (rest, (run_with b c Quiet, (is_run_with b c Quiet fit.1.0 fit.1.1.0, ap (λ w. w ∷ b ∷ c ∷ rest) fit.0)))
begin_of_fit (a ∷ b ∷ c ∷ d ∷ []) fit =
    let rest : List (List ℕ) = map client_argument only_a in (
      rest,
      (
        run_with b c fit.1.1.1.0.0,
        (
          is_run_with b c fit.1.1.1.0.0 fit.1.0 fit.1.1.0,
          ap (λ w. w ∷ b ∷ c ∷ d ∷ rest) fit.0 ∙ ap (λ w. codes "run" ∷ b ∷ c ∷ w ∷ rest) fit.1.1.1.0.1,
        ),
      ),
    )
begin_of_fit (a ∷ b ∷ c ∷ d ∷ e ∷ es) fit = absurd fit.1.1.1.1

-- ---- the converse

-- at most four arguments that begin the form fit their places
pub fit_of_begin : (arguments : List (List ℕ)) → length arguments ≤ 4 → BeginForm HaveRunForm arguments → FitAll form arguments
fit_of_begin arguments few begins = by_run arguments begins.0 few begins.1.0 begins.1.1.0 begins.1.1.1
  where
    word : (n : ℕ) {xs ys : List (List ℕ)} → xs ≡ ys → get_or xs n [] ≡ get_or ys n []
    word n e = ap (λ ws. get_or ws n []) e

    by_run : (ws more : List (List ℕ)) → length ws ≤ 4 → (run : Run) → IsRun run → ws ++ more ≡ arguments_of run → FitAll form ws
    by_run [] more few run is e = tt
    by_run (a ∷ []) more few run is e = (word 0 e, tt)
    by_run (a ∷ b ∷ []) more few run is e = (word 0 e, (subst (λ x. 0 < length x) (sym (word 1 e)) is.schema, tt))
    by_run (a ∷ b ∷ c ∷ []) more few run is e = (word 0 e, (subst (λ x. 0 < length x) (sym (word 1 e)) is.schema, (subst IsSteps (sym (word 2 e)) is.steps, tt)))
    by_run (a ∷ b ∷ c ∷ d ∷ []) more few run is e =
        (word 0 e, (subst (λ x. 0 < length x) (sym (word 1 e)) is.schema, (subst IsSteps (sym (word 2 e)) is.steps, ((run.mode, word 3 e), tt))))
    by_run (a ∷ b ∷ c ∷ d ∷ f ∷ fs) more few run is e = absurd (omega (arith, few))

-- at most four arguments fit, the number of places in the form
pub fit_is_short : (arguments : List (List ℕ)) → FitAll form arguments → length arguments ≤ 4
fit_is_short [] fit = omega arith
fit_is_short (a ∷ []) fit = omega arith
fit_is_short (a ∷ b ∷ []) fit = omega arith
fit_is_short (a ∷ b ∷ c ∷ []) fit = omega arith
fit_is_short (a ∷ b ∷ c ∷ d ∷ []) fit = omega arith
fit_is_short (a ∷ b ∷ c ∷ d ∷ e ∷ es) fit = absurd fit.1.1.1.1

-- an argument number is small
pub misfit_is_small : (arguments : List (List ℕ)) (n : ℕ) → n ≤ length arguments → FitAll form (take n arguments) → n ≤ 4
misfit_is_small arguments n within fit = let few = fit_is_short (take n arguments) fit in let same : length (take n arguments) ≡ n = length-take-le n arguments within in omega (arith, few, same)

-- ---- the wrong argument, among the first four

form_is_longer : (run : Run) → IsRun run → 5 ≤ length (arguments_of run)
form_is_longer run is = let some = is.some in let same : length (map client_argument run.clients) ≡ length run.clients = length_mapped run.clients in omega (arith, some, same)
  where
    length_mapped : (cs : List ClientFiles) → length (map client_argument cs) ≡ length cs
    length_mapped [] = refl
    length_mapped (c ∷ cs) = ap suc (length_mapped cs)

wrong_by : (b : Bool) (arguments : List (List ℕ)) (n : ℕ) → nat_lt n (length arguments) ≡ b → n ≤ length arguments → n < 4 → FitAll form (take n arguments) → (n < length arguments → ¬ FitAll form (take (n + 1) arguments)) → IsWrongIn HaveRunForm arguments n
wrong_by true arguments n e within small fit misfit =
    let below : n < length arguments = ltb-true n (length arguments) e in
    let short : length (take (n + 1) arguments) ≡ n + 1 = length-take-le (n + 1) arguments (omega (arith, below)) in
    at_argument arguments n below (begin_of_fit (take n arguments) fit) (λ begins. misfit below (fit_of_begin (take (n + 1) arguments) (omega (arith, short, small)) begins))
wrong_by false arguments n e within small fit misfit =
    let is : n ≡ length arguments = let ge = ltb-false n (length arguments) e in omega (arith, ge, within) in
    let all : FitAll form arguments = subst (FitAll form) (take_all n arguments (omega (arith, is))) fit in
    subst (IsWrongIn HaveRunForm arguments) (sym is) (missing arguments (begin_of_fit arguments all) (λ has. let long = form_is_longer has.0 has.1.0 in let same : length arguments ≡ length (arguments_of has.0) = ap length has.1.1 in absurd (omega (arith, small, is, long, same))))

-- the first argument that does not fit its place is the wrong one; where all fit and they are fewer than four, more are missing
pub wrong_early : (arguments : List (List ℕ)) (n : ℕ) → n ≤ length arguments → n < 4 → FitAll form (take n arguments) → (n < length arguments → ¬ FitAll form (take (n + 1) arguments)) → IsWrongIn HaveRunForm arguments n
wrong_early arguments n within small fit misfit = wrong_by (nat_lt n (length arguments)) arguments n refl within small fit misfit
