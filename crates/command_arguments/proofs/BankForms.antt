-- Arguments of the command `bank`, and the wrong one among them.
use Rattle.std.proofs.Common.{◌≡◌, ◌<◌, ◌≤◌, ◌+◌, ℕ, List, [], ◌∷◌, ◌++◌, refl, ap, sym, subst, arith, length, take, get_or, true, false, Bool, inl, length-append, length-take-le}
use Rattle.std.proofs.lemmas.List.{take_all}
use Rattle.std.proofs.lemmas.Bool.{ltb-true, ltb-false}
use Rattle.std.proofs.lemmas.List.Elements.{All-cons, All-nil}
use Rattle.std.specs.Prelude.{nat_lt}
use Rattle.std.specs.Char.{IsAsciiDigit}
use Rattle.command_arguments.specs.CommandLine.{Bank, IsBank, IsDecimal, IsNumber, bank_arguments, HaveBankForm, BeginForm, IsWrongIn, at_argument, missing}
use Rattle.command_arguments.specs.Places.{bank_form, FitBank}

-- ---- arguments that begin the form

one_is_decimal : IsDecimal (49 ∷ [])
one_is_decimal = record { digits = All-cons IsAsciiDigit 49 [] (omega arith, omega arith) (All-nil IsAsciiDigit); some = omega arith; short = omega arith; first = inl refl }

two_is_decimal : IsDecimal (50 ∷ [])
two_is_decimal = record { digits = All-cons IsAsciiDigit 50 [] (omega arith, omega arith) (All-nil IsAsciiDigit); some = omega arith; short = omega arith; first = inl refl }

a_start : IsNumber 0 2147483647 (49 ∷ [])
a_start = record { decimal = one_is_decimal; enough = omega arith; few = omega arith }

some_clients : IsNumber 1 8 (49 ∷ [])
some_clients = record { decimal = one_is_decimal; enough = omega arith; few = omega arith }

some_accounts : IsNumber 2 10000 (50 ∷ [])
some_accounts = record { decimal = two_is_decimal; enough = omega arith; few = omega arith }

some_transfers : IsNumber 1 50000 (49 ∷ [])
some_transfers = record { decimal = one_is_decimal; enough = omega arith; few = omega arith }

-- the bank of these numbers
abbrev pub bank_with : List ℕ → List ℕ → List ℕ → List ℕ → Bank
bank_with start clients accounts transfers = record { start = start; clients = clients; accounts = accounts; transfers = transfers }

pub is_bank_with : (a b c d : List ℕ) → IsNumber 0 2147483647 a → IsNumber 1 8 b → IsNumber 2 10000 c → IsNumber 1 50000 d → IsBank (bank_with a b c d)
is_bank_with a b c d start clients accounts transfers = record { start = start; clients = clients; accounts = accounts; transfers = transfers }

pub begin_bank : (arguments : List (List ℕ)) → FitBank bank_form arguments → BeginForm HaveBankForm arguments
begin_bank [] fit = (bank_arguments (bank_with (49 ∷ []) (49 ∷ []) (50 ∷ []) (49 ∷ [])), (bank_with (49 ∷ []) (49 ∷ []) (50 ∷ []) (49 ∷ []), (is_bank_with _ _ _ _ a_start some_clients some_accounts some_transfers, refl)))
begin_bank (w ∷ []) fit =
    let rest : List (List ℕ) = (49 ∷ []) ∷ (49 ∷ []) ∷ (50 ∷ []) ∷ (49 ∷ []) ∷ [] in
    (rest, (bank_with (49 ∷ []) (49 ∷ []) (50 ∷ []) (49 ∷ []), (is_bank_with _ _ _ _ a_start some_clients some_accounts some_transfers, ap (λ x. x ∷ rest) fit.0)))
begin_bank (w ∷ a ∷ []) fit =
    let rest : List (List ℕ) = (49 ∷ []) ∷ (50 ∷ []) ∷ (49 ∷ []) ∷ [] in
    (rest, (bank_with a (49 ∷ []) (50 ∷ []) (49 ∷ []), (is_bank_with _ _ _ _ fit.1.0 some_clients some_accounts some_transfers, ap (λ x. x ∷ a ∷ rest) fit.0)))
begin_bank (w ∷ a ∷ b ∷ []) fit =
    let rest : List (List ℕ) = (50 ∷ []) ∷ (49 ∷ []) ∷ [] in
    (rest, (bank_with a b (50 ∷ []) (49 ∷ []), (is_bank_with _ _ _ _ fit.1.0 fit.1.1.0 some_accounts some_transfers, ap (λ x. x ∷ a ∷ b ∷ rest) fit.0)))
begin_bank (w ∷ a ∷ b ∷ c ∷ []) fit =
    let rest : List (List ℕ) = (49 ∷ []) ∷ [] in
    (rest, (bank_with a b c (49 ∷ []), (is_bank_with _ _ _ _ fit.1.0 fit.1.1.0 fit.1.1.1.0 some_transfers, ap (λ x. x ∷ a ∷ b ∷ c ∷ rest) fit.0)))
begin_bank (w ∷ a ∷ b ∷ c ∷ d ∷ []) fit =
    ([], (bank_with a b c d, (is_bank_with _ _ _ _ fit.1.0 fit.1.1.0 fit.1.1.1.0 fit.1.1.1.1.0, ap (λ x. x ∷ a ∷ b ∷ c ∷ d ∷ []) fit.0)))
begin_bank (w ∷ a ∷ b ∷ c ∷ d ∷ e ∷ es) fit = absurd fit.1.1.1.1.1

-- ---- the converse

-- at most five arguments that begin the form fit their places
pub fit_bank : (arguments : List (List ℕ)) → length arguments ≤ 5 → BeginForm HaveBankForm arguments → FitBank bank_form arguments
fit_bank arguments few begins = by_bank arguments begins.0 few begins.1.0 begins.1.1.0 begins.1.1.1
  where
    word : (n : ℕ) {xs ys : List (List ℕ)} → xs ≡ ys → get_or ys n [] ≡ get_or xs n []
    word n e = ap (λ ws. get_or ws n []) (sym e)

    by_bank : (ws more : List (List ℕ)) → length ws ≤ 5 → (bank : Bank) → IsBank bank → ws ++ more ≡ bank_arguments bank → FitBank bank_form ws
    by_bank [] more few bank is e = tt
    by_bank (w ∷ []) more few bank is e = (sym (word 0 e), tt)
    by_bank (w ∷ a ∷ []) more few bank is e = (sym (word 0 e), (subst (IsNumber 0 2147483647) (word 1 e) is.start, tt))
    by_bank (w ∷ a ∷ b ∷ []) more few bank is e = (sym (word 0 e), (subst (IsNumber 0 2147483647) (word 1 e) is.start, (subst (IsNumber 1 8) (word 2 e) is.clients, tt)))
    by_bank (w ∷ a ∷ b ∷ c ∷ []) more few bank is e =
        (sym (word 0 e), (subst (IsNumber 0 2147483647) (word 1 e) is.start, (subst (IsNumber 1 8) (word 2 e) is.clients, (subst (IsNumber 2 10000) (word 3 e) is.accounts, tt))))
    by_bank (w ∷ a ∷ b ∷ c ∷ d ∷ []) more few bank is e =
        (sym (word 0 e), (subst (IsNumber 0 2147483647) (word 1 e) is.start, (subst (IsNumber 1 8) (word 2 e) is.clients, (subst (IsNumber 2 10000) (word 3 e) is.accounts, (subst (IsNumber 1 50000) (word 4 e) is.transfers, tt)))))
    by_bank (w ∷ a ∷ b ∷ c ∷ d ∷ f ∷ fs) more few bank is e = absurd (omega (arith, few))

-- no more than five arguments begin the form
begins_short : (arguments : List (List ℕ)) → BeginForm HaveBankForm arguments → length arguments ≤ 5
begins_short arguments begins =
    let same : length (arguments ++ begins.0) ≡ 5 = ap length begins.1.1.1 in
    let sum = length-append arguments begins.0 in
    omega (arith, same, sum)

-- ---- the wrong argument

wrong_at : (arguments : List (List ℕ)) (n : ℕ) → n < length arguments → FitBank bank_form (take n arguments) → ¬ FitBank bank_form (take (n + 1) arguments) → IsWrongIn HaveBankForm arguments n
wrong_at arguments n below fit misfit =
    at_argument arguments n below (begin_bank (take n arguments) fit) (λ begins. misfit (fit_bank (take (n + 1) arguments) (begins_short (take (n + 1) arguments) begins) begins))

wrong_by : (b : Bool) (arguments : List (List ℕ)) (n : ℕ) → nat_lt n (length arguments) ≡ b → n ≤ length arguments → n < 5 → FitBank bank_form (take n arguments) → (n < length arguments → ¬ FitBank bank_form (take (n + 1) arguments)) → IsWrongIn HaveBankForm arguments n
wrong_by true arguments n e within few fit misfit =
    let below : n < length arguments = ltb-true n (length arguments) e in
    wrong_at arguments n below fit (misfit below)
wrong_by false arguments n e within few fit misfit =
    let ge : length arguments ≤ n = ltb-false n (length arguments) e in
    let is : n ≡ length arguments = omega (arith, ge, within) in
    let all : FitBank bank_form arguments = subst (FitBank bank_form) (take_all n arguments (omega (arith, is))) fit in
    subst (IsWrongIn HaveBankForm arguments) (sym is) (missing arguments (begin_bank arguments all) (λ has. let same : length arguments ≡ 5 = ap length has.1.1 in absurd (omega (arith, few, is, same))))

-- the first argument that does not fit its place is the wrong one; where all fit and they are fewer than five, more are missing
pub wrong_in_bank : (arguments : List (List ℕ)) (n : ℕ) → n ≤ length arguments → n < 5 → FitBank bank_form (take n arguments) → (n < length arguments → ¬ FitBank bank_form (take (n + 1) arguments)) → IsWrongIn HaveBankForm arguments n
wrong_in_bank arguments n within few fit misfit = wrong_by (nat_lt n (length arguments)) arguments n refl within few fit misfit

-- at most five arguments fit
fit_is_short : (arguments : List (List ℕ)) → FitBank bank_form arguments → length arguments ≤ 5
fit_is_short [] fit = omega arith
fit_is_short (w ∷ []) fit = omega arith
fit_is_short (w ∷ a ∷ []) fit = omega arith
fit_is_short (w ∷ a ∷ b ∷ []) fit = omega arith
fit_is_short (w ∷ a ∷ b ∷ c ∷ []) fit = omega arith
fit_is_short (w ∷ a ∷ b ∷ c ∷ d ∷ []) fit = omega arith
fit_is_short (w ∷ a ∷ b ∷ c ∷ d ∷ e ∷ es) fit = absurd fit.1.1.1.1.1

all_five : (arguments : List (List ℕ)) (n : ℕ) → 5 ≤ n → n ≤ length arguments → FitBank bank_form (take n arguments) → n ≡ 5
all_five arguments n far within fit =
    let few = fit_is_short (take n arguments) fit in
    let same : length (take n arguments) ≡ n = length-take-le n arguments within in
    omega (arith, few, same, far)

-- the sixth argument is wrong
pub wrong_sixth : (arguments : List (List ℕ)) (n : ℕ) → 5 ≤ n → n ≤ length arguments → 5 < length arguments → FitBank bank_form (take n arguments) → IsWrongIn HaveBankForm arguments 5
wrong_sixth arguments n far within many fit =
    let first : FitBank bank_form (take 5 arguments) = subst (λ k. FitBank bank_form (take k arguments)) (all_five arguments n far within fit) fit in
    let longer : length (take 6 arguments) ≡ 6 = length-take-le 6 arguments (omega (arith, many)) in
    at_argument arguments 5 many (begin_bank (take 5 arguments) first) (λ begins. let few = begins_short (take 6 arguments) begins in absurd (omega (arith, few, longer)))

-- ---- arguments that fit

-- the numbers of five arguments that fit
pub record Numbered (arguments : List (List ℕ)) : Type 0 where
  pub start : List ℕ
  pub clients : List ℕ
  pub accounts : List ℕ
  pub transfers : List ℕ
  pub is_start : IsNumber 0 2147483647 start
  pub is_clients : IsNumber 1 8 clients
  pub is_accounts : IsNumber 2 10000 accounts
  pub is_transfers : IsNumber 1 50000 transfers
  pub arguments_are : arguments ≡ bank_arguments (bank_with start clients accounts transfers)

by_parts : (arguments : List (List ℕ)) → 5 ≤ length arguments → FitBank bank_form arguments → Numbered arguments
by_parts [] few fit = absurd (omega (arith, few))
by_parts (w ∷ []) few fit = absurd (omega (arith, few))
by_parts (w ∷ a ∷ []) few fit = absurd (omega (arith, few))
by_parts (w ∷ a ∷ b ∷ []) few fit = absurd (omega (arith, few))
by_parts (w ∷ a ∷ b ∷ c ∷ []) few fit = absurd (omega (arith, few))
by_parts (w ∷ a ∷ b ∷ c ∷ d ∷ []) few fit =
    record {
      start = a;
      clients = b;
      accounts = c;
      transfers = d;
      is_start = fit.1.0;
      is_clients = fit.1.1.0;
      is_accounts = fit.1.1.1.0;
      is_transfers = fit.1.1.1.1.0;
      arguments_are = ap (λ x. x ∷ a ∷ b ∷ c ∷ d ∷ []) fit.0;
    }
by_parts (w ∷ a ∷ b ∷ c ∷ d ∷ e ∷ es) few fit = absurd fit.1.1.1.1.1

pub numbered : (arguments : List (List ℕ)) (n : ℕ) → 5 ≤ n → n ≤ length arguments → length arguments ≤ 5 → FitBank bank_form (take n arguments) → Numbered arguments
numbered arguments n far within few fit = by_parts arguments (omega (arith, far, within)) (subst (FitBank bank_form) (take_all n arguments (omega (arith, far, few))) fit)
