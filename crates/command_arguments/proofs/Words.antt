-- The first argument decides which form arguments can have.
use Rattle.std.proofs.Common.{◌≡◌, ◌∙◌, inl, inr, ◌+◌, ◌<◌, ℕ, suc, List, [], ◌∷◌, ◌++◌, ap, sym, subst, arith, length, take, drop, get_or, add-one}
use Rattle.std.specs.Prelude.{codes}
use Rattle.command_arguments.specs.CommandLine.{bank_arguments, check_arguments, create_arguments, dump_arguments, HaveRunForm, HaveCheckForm, HaveBankForm, HaveCreateForm, HaveDumpForm, HaveForm, BeginForm, IsWrongIn, IsWrong, at_argument, missing}

-- equal lists have one first argument
first_of : {v w : List ℕ} {a b : List (List ℕ)} → v ∷ a ≡ w ∷ b → v ≡ w
first_of e = ap (λ (ws : List (List ℕ)). get_or ws 0 []) e

-- words of other lengths, or with another first letter, differ
by_length : {v w : List ℕ} → v ≡ w → length v ≡ length w
by_length e = ap length e

by_letter : {v w : List ℕ} → v ≡ w → get_or v 0 0 ≡ get_or w 0 0
by_letter e = ap (λ w. get_or w 0 0) e

run_is_not_check : codes "run" ≡ codes "check" → ⊥
run_is_not_check e = let n : 3 ≡ 5 = by_length e in absurd (omega (arith, n))

run_is_not_bank : codes "run" ≡ codes "bank" → ⊥
run_is_not_bank e = let n : 3 ≡ 4 = by_length e in absurd (omega (arith, n))

run_is_not_create : codes "run" ≡ codes "create" → ⊥
run_is_not_create e = let n : 3 ≡ 6 = by_length e in absurd (omega (arith, n))

run_is_not_dump : codes "run" ≡ codes "dump" → ⊥
run_is_not_dump e = let n : 3 ≡ 4 = by_length e in absurd (omega (arith, n))

check_is_not_bank : codes "check" ≡ codes "bank" → ⊥
check_is_not_bank e = let n : 5 ≡ 4 = by_length e in absurd (omega (arith, n))

check_is_not_create : codes "check" ≡ codes "create" → ⊥
check_is_not_create e = let n : 5 ≡ 6 = by_length e in absurd (omega (arith, n))

check_is_not_dump : codes "check" ≡ codes "dump" → ⊥
check_is_not_dump e = let n : 5 ≡ 4 = by_length e in absurd (omega (arith, n))

bank_is_not_create : codes "bank" ≡ codes "create" → ⊥
bank_is_not_create e = let n : 4 ≡ 6 = by_length e in absurd (omega (arith, n))

bank_is_not_dump : codes "bank" ≡ codes "dump" → ⊥
bank_is_not_dump e = let n : 98 ≡ 100 = by_letter e in absurd (omega (arith, n))

create_is_not_dump : codes "create" ≡ codes "dump" → ⊥
create_is_not_dump e = let n : 6 ≡ 4 = by_length e in absurd (omega (arith, n))

-- ---- the form of arguments whose first one is a command

pub only_check : (rest : List (List ℕ)) → HaveForm (codes "check" ∷ rest) → HaveCheckForm (codes "check" ∷ rest)
only_check rest (inl run) = absurd (run_is_not_check (sym (first_of run.1.1)))
only_check rest (inr (inl check)) = check
only_check rest (inr (inr (inl bank))) = absurd (check_is_not_bank (first_of bank.1.1))
only_check rest (inr (inr (inr (inl create)))) = absurd (check_is_not_create (first_of create.1.1))
only_check rest (inr (inr (inr (inr dump)))) = absurd (check_is_not_dump (first_of dump.1.1))

pub only_bank : (rest : List (List ℕ)) → HaveForm (codes "bank" ∷ rest) → HaveBankForm (codes "bank" ∷ rest)
only_bank rest (inl run) = absurd (run_is_not_bank (sym (first_of run.1.1)))
only_bank rest (inr (inl check)) = absurd (check_is_not_bank (sym (first_of check.1.1)))
only_bank rest (inr (inr (inl bank))) = bank
only_bank rest (inr (inr (inr (inl create)))) = absurd (bank_is_not_create (first_of create.1.1))
only_bank rest (inr (inr (inr (inr dump)))) = absurd (bank_is_not_dump (first_of dump.1.1))

pub only_create : (rest : List (List ℕ)) → HaveForm (codes "create" ∷ rest) → HaveCreateForm (codes "create" ∷ rest)
only_create rest (inl run) = absurd (run_is_not_create (sym (first_of run.1.1)))
only_create rest (inr (inl check)) = absurd (check_is_not_create (sym (first_of check.1.1)))
only_create rest (inr (inr (inl bank))) = absurd (bank_is_not_create (sym (first_of bank.1.1)))
only_create rest (inr (inr (inr (inl create)))) = create
only_create rest (inr (inr (inr (inr dump)))) = absurd (create_is_not_dump (first_of dump.1.1))

pub only_dump : (rest : List (List ℕ)) → HaveForm (codes "dump" ∷ rest) → HaveDumpForm (codes "dump" ∷ rest)
only_dump rest (inl run) = absurd (run_is_not_dump (sym (first_of run.1.1)))
only_dump rest (inr (inl check)) = absurd (check_is_not_dump (sym (first_of check.1.1)))
only_dump rest (inr (inr (inl bank))) = absurd (bank_is_not_dump (sym (first_of bank.1.1)))
only_dump rest (inr (inr (inr (inl create)))) = absurd (create_is_not_dump (sym (first_of create.1.1)))
only_dump rest (inr (inr (inr (inr dump)))) = dump

-- ---- the wrong argument of a run

-- where the first argument is not this word, no beginning of the arguments has it first
no_word_begins : (word : List ℕ) (ws more rest : List (List ℕ)) (k : ℕ) → k < length ws → ((rest : List (List ℕ)) → ws ≡ word ∷ rest → ⊥) → take (k + 1) ws ++ more ≡ word ∷ rest → ⊥
no_word_begins word [] more rest k below other e = absurd (omega (arith, below))
no_word_begins word (w ∷ ws) more rest k below other e =
    let is : take (suc k) (w ∷ ws) ++ more ≡ word ∷ rest = subst (λ n. take n (w ∷ ws) ++ more ≡ word ∷ rest) (add-one k) e in
    let first : w ≡ word = ap (λ (xs : List (List ℕ)). get_or xs 0 []) is in
    other ws (ap (λ x. x ∷ ws) first)

-- the first argument is not this word
abbrev pub HaveNot : List ℕ → List (List ℕ) → Type 0
HaveNot word arguments = (rest : List (List ℕ)) → arguments ≡ word ∷ rest → ⊥

pub wrong_run : (arguments : List (List ℕ)) (n : ℕ) → IsWrongIn HaveRunForm arguments n → HaveNot (codes "check") arguments → HaveNot (codes "create") arguments → HaveNot (codes "dump") arguments → HaveNot (codes "bank") arguments → IsWrong arguments n
wrong_run arguments n (at_argument ws k below begins ends) no_check no_create no_dump no_bank = at_argument ws k below (begins.0, inl begins.1) by_form
  where
    by_more : (more : List (List ℕ)) → HaveForm (take (k + 1) ws ++ more) → ⊥
    by_more more (inl run) = ends (more, run)
    by_more more (inr (inl check)) = no_word_begins (codes "check") ws more (drop 1 (check_arguments check.0)) k below no_check check.1.1
    by_more more (inr (inr (inl bank))) = no_word_begins (codes "bank") ws more (drop 1 (bank_arguments bank.0)) k below no_bank bank.1.1
    by_more more (inr (inr (inr (inl create)))) = no_word_begins (codes "create") ws more (drop 1 (create_arguments create.0)) k below no_create create.1.1
    by_more more (inr (inr (inr (inr dump)))) = no_word_begins (codes "dump") ws more (drop 1 (dump_arguments dump.0)) k below no_dump dump.1.1

    by_form : BeginForm HaveForm (take (k + 1) ws) → ⊥
    by_form b = by_more b.0 b.1
wrong_run arguments n (missing ws begins formless) no_check no_create no_dump no_bank = missing ws (begins.0, inl begins.1) by_form
  where
    by_form : HaveForm ws → ⊥
    by_form (inl run) = formless run
    by_form (inr (inl check)) = no_check (drop 1 (check_arguments check.0)) check.1.1
    by_form (inr (inr (inl bank))) = no_bank (drop 1 (bank_arguments bank.0)) bank.1.1
    by_form (inr (inr (inr (inl create)))) = no_create (drop 1 (create_arguments create.0)) create.1.1
    by_form (inr (inr (inr (inr dump)))) = no_dump (drop 1 (dump_arguments dump.0)) dump.1.1

-- ---- the wrong argument of a bank

-- the beginning of arguments with this first word has it first too
begun : (word : List ℕ) (ws rest more : List (List ℕ)) (k : ℕ) → ws ≡ word ∷ rest → take (k + 1) ws ++ more ≡ word ∷ take k rest ++ more
begun word ws rest more k is = ap (λ (xs : List (List ℕ)). take (k + 1) xs ++ more) is ∙ ap (λ (n : ℕ). take n (word ∷ rest) ++ more) (add-one k)

pub wrong_bank : (arguments : List (List ℕ)) (n : ℕ) → IsWrongIn HaveBankForm arguments n → (rest : List (List ℕ)) → arguments ≡ codes "bank" ∷ rest → IsWrong arguments n
wrong_bank arguments n (at_argument ws k below begins ends) rest is = at_argument ws k below (begins.0, inr (inr (inl begins.1))) by_form
  where
    by_form : BeginForm HaveForm (take (k + 1) ws) → ⊥
    by_form b =
        let same = begun (codes "bank") ws rest b.0 k is in
        ends (b.0, subst HaveBankForm (sym same) (only_bank (take k rest ++ b.0) (subst HaveForm same b.1)))
wrong_bank arguments n (missing ws begins formless) rest is = missing ws (begins.0, inr (inr (inl begins.1))) by_form
  where
    by_form : HaveForm ws → ⊥
    by_form form = formless (subst HaveBankForm (sym is) (only_bank rest (subst HaveForm is form)))
