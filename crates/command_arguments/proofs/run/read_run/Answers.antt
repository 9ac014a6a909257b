-- The first argument that does not fit its place is the wrong one, or the first wrong client.
use Rattle.std.proofs.Common.{◌≡◌, ◌≤◌, ◌<◌, ◌+◌, ◌∙◌, ℕ, List, sym, ap, subst, arith, length, get_or}
use Rattle.std.proofs.lemmas.List.{take_all}
use Rattle.std.proofs.lemmas.Bool.Decides.{nat_tests}
use Rattle.command_arguments.specs.CommandLine.{AreClients, IsSteps, HaveRunForm, IsWrongIn, mode_argument, number_of}
use Rattle.command_arguments.proofs.Forms.{wrong_early}
use Rattle.command_arguments.proofs.RunForms.{Fitted, fitted, run_then, wrong_client, many_clients, none_follow, is_run, run_of, arguments_are_its, one_mode}
use Rattle.command_arguments.proofs.run.read_run.Goals as goal
use Rattle.command_arguments.proofs.run.read_run.Goals.{else-wrong-ge16-via-then-wrong-ge16+else-clients-gt16, else-wrong-ge16-via-else-wrong-ge16}

pub returns-then-misfit-lt4-clause-wrong : goal.returns-then-misfit-lt4-clause-wrong
returns-then-misfit-lt4-clause-wrong c =
    wrong_early c.args.arguments.now c.first_misfit-misfit.result c.first_misfit-misfit.ensures.within c.if-misfit-lt4.true c.first_misfit-misfit.ensures.fits c.first_misfit-misfit.ensures.first

pub returns-then-clients-gt16-clause-wrong : goal.returns-then-clients-gt16-clause-wrong
returns-then-clients-gt16-clause-wrong c =
    let f : Fitted c.args.arguments.now = fitted c.args.arguments.now c.first_misfit-misfit.result c.first_misfit-misfit.ensures.within c.first_misfit-misfit.ensures.fits c.if-misfit-lt4.false in
    subst (λ ws. IsWrongIn HaveRunForm ws 20) (sym f.arguments_are)
    (subst (λ ws. IsWrongIn HaveRunForm (run_then f.schema f.steps f.mode ws) 20) c.split_at.ensures.back
    (many_clients f.schema f.steps f.mode f.some f.is_steps _ c.first_wrong-wrong.result c.if-clients-gt16.true c.if-wrong-ge16.true c.first_wrong-wrong.ensures.clients))

pub returns-then-wrong-clients-clause-wrong : goal.returns-then-wrong-clients-clause-wrong
returns-then-wrong-clients-clause-wrong c =
    let f : Fitted c.args.arguments.now = fitted c.args.arguments.now c.first_misfit-misfit.result c.first_misfit-misfit.ensures.within c.first_misfit-misfit.ensures.fits c.if-misfit-lt4.false in
    subst (λ ws. IsWrongIn HaveRunForm ws (c.first_wrong-wrong.result + 4)) (sym f.arguments_are)
    (subst (λ ws. IsWrongIn HaveRunForm (run_then f.schema f.steps f.mode ws) (c.first_wrong-wrong.result + 4)) c.split_at.ensures.back
    (wrong_client f.schema f.steps f.mode f.some f.is_steps _ c.first_wrong-wrong.result c.if-wrong-clients.true few c.first_wrong-wrong.ensures.clients (c.first_wrong-wrong.ensures.wrong c.if-wrong-clients.true)))
  where
    few : c.first_wrong-wrong.result < 16
    few = elim c.else-wrong-ge16.branch [
      | else-wrong-ge16-via-then-wrong-ge16+else-clients-gt16 w ↦ omega (arith, c.if-wrong-clients.true, w.if-clients-gt16.false)
      | else-wrong-ge16-via-else-wrong-ge16 w ↦ omega (arith, w.if-wrong-ge16.false)
    ]

pub returns-then-is_empty-clause-wrong : goal.returns-then-is_empty-clause-wrong
returns-then-is_empty-clause-wrong c =
    let f : Fitted c.args.arguments.now = fitted c.args.arguments.now c.first_misfit-misfit.result c.first_misfit-misfit.ensures.within c.first_misfit-misfit.ensures.fits c.if-misfit-lt4.false in
    subst (λ ws. IsWrongIn HaveRunForm ws 4) (sym f.arguments_are)
    (subst (λ ws. IsWrongIn HaveRunForm (run_then f.schema f.steps f.mode ws) 4) c.split_at.ensures.back
    (none_follow f.schema f.steps f.mode f.some f.is_steps _ (grind (arith, nat_tests))))

pub unreachable-requires : goal.unreachable-requires
unreachable-requires c =
    let f : Fitted c.args.arguments.now = fitted c.args.arguments.now c.first_misfit-misfit.result c.first_misfit-misfit.ensures.within c.first_misfit-misfit.ensures.fits c.if-misfit-lt4.false in
    let word : c.as_slice.result.now ≡ mode_argument f.mode = c.as_slice.ensures ∙ c.index-arguments-3.is ∙ ap (λ (ws : List (List ℕ)). get_or ws 3 c.index-arguments-3.result) f.arguments_are in
    c.in_default.ensures.none (f.mode, word)

pub number_in-requires-clause-digits : goal.number_in-requires-clause-digits
number_in-requires-clause-digits c =
    let f : Fitted c.args.arguments.now = fitted c.args.arguments.now c.first_misfit-misfit.result c.first_misfit-misfit.ensures.within c.first_misfit-misfit.ensures.fits c.if-misfit-lt4.false in
    let word : c.as_slice-3.result.now ≡ f.steps = c.as_slice-3.ensures ∙ c.index-arguments-2.is ∙ ap (λ (ws : List (List ℕ)). get_or ws 2 c.index-arguments-2.result) f.arguments_are in
    (subst IsSteps (sym word) f.is_steps).digits

pub number_in-requires-clause-short : goal.number_in-requires-clause-short
number_in-requires-clause-short c =
    let f : Fitted c.args.arguments.now = fitted c.args.arguments.now c.first_misfit-misfit.result c.first_misfit-misfit.ensures.within c.first_misfit-misfit.ensures.fits c.if-misfit-lt4.false in
    let word : c.as_slice-3.result.now ≡ f.steps = c.as_slice-3.ensures ∙ c.index-arguments-2.is ∙ ap (λ (ws : List (List ℕ)). get_or ws 2 c.index-arguments-2.result) f.arguments_are in
    let short = (subst IsSteps (sym word) f.is_steps).short in
    omega (arith, short)

pub returns-clause-form : goal.returns-clause-form
returns-clause-form c =
    let f : Fitted c.args.arguments.now = fitted c.args.arguments.now c.first_misfit-misfit.result c.first_misfit-misfit.ensures.within c.first_misfit-misfit.ensures.fits c.if-misfit-lt4.false in
    let schema : c.as_slice-2.result.now ≡ f.schema = c.as_slice-2.ensures ∙ c.index-arguments-1.is ∙ ap (λ (ws : List (List ℕ)). get_or ws 1 c.index-arguments-1.result) f.arguments_are in
    let steps : c.as_slice-3.result.now ≡ f.steps = c.as_slice-3.ensures ∙ c.index-arguments-2.is ∙ ap (λ (ws : List (List ℕ)). get_or ws 2 c.index-arguments-2.result) f.arguments_are in
    let mode : c.as_slice.result.now ≡ mode_argument f.mode = c.as_slice.ensures ∙ c.index-arguments-3.is ∙ ap (λ (ws : List (List ℕ)). get_or ws 3 c.index-arguments-3.result) f.arguments_are in
    let are : AreClients c.split_at.result.1.now = subst AreClients (take_all c.first_wrong-wrong.result c.split_at.result.1.now c.if-wrong-clients.false) c.first_wrong-wrong.ensures.clients in
    record {
      run = run_of f.schema f.steps f.mode f.some f.is_steps c.split_at.result.1.now are;
      is_run = is_run f.schema f.steps f.mode f.some f.is_steps c.split_at.result.1.now are (grind (arith, nat_tests)) few;
      arguments_are = f.arguments_are ∙ ap (run_then f.schema f.steps f.mode) (sym c.split_at.ensures.back) ∙ arguments_are_its f.schema f.steps f.mode f.some f.is_steps c.split_at.result.1.now are;
      schema = schema;
      steps = c.number_in.ensures ∙ ap number_of steps;
      mode = one_mode c.in-Some.mode f.mode (sym c.in-Some.ensures.some ∙ mode);
      clients = are.arguments_are;
    }
  where
    few : length c.split_at.result.1.now ≤ 16
    few = elim c.else-wrong-ge16.branch [
      | else-wrong-ge16-via-then-wrong-ge16+else-clients-gt16 w ↦ w.if-clients-gt16.false
      | else-wrong-ge16-via-else-wrong-ge16 w ↦ omega (arith, c.if-wrong-clients.false, w.if-wrong-ge16.false)
    ]
