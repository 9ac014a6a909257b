-- Arguments of the command `check`, and the wrong one among them.
use Rattle.std.proofs.Common.{◌≡◌, inl, inr, ◌+◌, ◌<◌, ◌≤◌, ℕ, zero, suc, List, [], ◌∷◌, ◌++◌, refl, ap, subst, arith, length, take, get_or, length-append, append-nil, add-one, length-take-le, take-take}
use Rattle.std.proofs.lemmas.List.Elements.{All-push, All-take, All-head, All-tail, All-same, All-cons, All-nil}
use Rattle.std.specs.Prelude.{All, codes}
use Rattle.command_arguments.specs.CommandLine.{Check, IsCheck, check_arguments, HaveForm, BeginForm, IsWrong, at_argument, missing}
use Rattle.command_arguments.proofs.Words.{only_check}

-- no name is empty
abbrev pub AreNames : List (List ℕ) → Type 0
AreNames names = All (λ (name : List ℕ). 0 < length name) names

-- ---- the beginning of a check

a_name : List ℕ
a_name = 112 ∷ []

some_name : 0 < length a_name
unfolding a_name
some_name = omega arith

module _ (schema : List ℕ) (some : 0 < length schema) where
  pub is_check : (programs : List (List ℕ)) → 0 < length programs → length programs ≤ 16 → AreNames programs → IsCheck (record { schema = schema; programs = programs })
  is_check programs one few names = record { schema = some; some = one; few = few; names = names }

  -- fewer than 16 programs
  begin_with : (programs : List (List ℕ)) → length programs < 16 → AreNames programs → BeginForm HaveForm (codes "check" ∷ schema ∷ programs)
  begin_with programs few names =
      let longer : length (programs ++ a_name ∷ []) ≡ length programs + 1 = length-append programs (a_name ∷ []) in (
        a_name ∷ [],
        inr (inl (
          record { schema = schema; programs = programs ++ a_name ∷ [] },
          (is_check (programs ++ a_name ∷ []) (omega (arith, longer)) (omega (arith, longer, few)) (All-push (λ (name : List ℕ). 0 < length name) programs a_name names some_name), refl),
        )),
      )

  -- 1 to 16 programs
  begin_full : (programs : List (List ℕ)) → 0 < length programs → length programs ≤ 16 → AreNames programs → BeginForm HaveForm (codes "check" ∷ schema ∷ programs)
  begin_full programs one few names =
      ([], inr (inl (record { schema = schema; programs = programs }, (is_check programs one few names, append-nil (codes "check" ∷ schema ∷ programs)))))

  -- no program is empty in a check
  no_empty : (programs more : List (List ℕ)) (n : ℕ) → n < length programs → length (get_or programs n []) ≡ 0 → AreNames (take (suc n) programs ++ more) → ⊥
  no_empty [] more n below empty names = absurd (omega (arith, below))
  no_empty (p ∷ ps) more zero below empty names = let one = All-head (λ (name : List ℕ). 0 < length name) p more names in absurd (omega (arith, one, empty))
  no_empty (p ∷ ps) more (suc n) below empty names = no_empty ps more n (omega (arith, below)) empty (All-tail (λ (name : List ℕ). 0 < length name) p (take (suc n) ps ++ more) names)

  its_programs : (programs : List (List ℕ)) (check : Check) → codes "check" ∷ schema ∷ programs ≡ check_arguments check → programs ≡ check.programs
  its_programs programs check e = cc e

  pub wrong_program : (programs : List (List ℕ)) (n : ℕ) → n < length programs → n < 16 → AreNames (take n programs) → length (get_or programs n []) ≡ 0 → IsWrong (codes "check" ∷ schema ∷ programs) (n + 2)
  wrong_program programs n below few names empty =
      subst (IsWrong (codes "check" ∷ schema ∷ programs)) (omega arith) (at_argument (codes "check" ∷ schema ∷ programs) (suc (suc n)) (omega (arith, below)) (begin_with (take n programs) (omega (arith, few, short)) names) ends)
    where
      short : length (take n programs) ≡ n
      short = length-take-le n programs (omega (arith, below))

      by_form : (more : List (List ℕ)) → HaveForm (codes "check" ∷ schema ∷ take (suc n) programs ++ more) → ⊥
      by_form more form =
          let check = only_check (schema ∷ take (suc n) programs ++ more) form in
          no_empty programs more n below empty (All-same (λ (name : List ℕ). 0 < length name) (take (suc n) programs ++ more) check.0.programs (its_programs (take (suc n) programs ++ more) check.0 check.1.1) check.1.0.names)

      ends : BeginForm HaveForm (take (suc (suc n) + 1) (codes "check" ∷ schema ∷ programs)) → ⊥
      ends b = by_form b.0 (subst (λ k. HaveForm (take k (codes "check" ∷ schema ∷ programs) ++ b.0)) (add-one (suc (suc n))) b.1)

  pub wrong_many : (programs : List (List ℕ)) (n : ℕ) → 16 < length programs → 16 ≤ n → AreNames (take n programs) → IsWrong (codes "check" ∷ schema ∷ programs) 18
  wrong_many programs n many far names =
      at_argument (codes "check" ∷ schema ∷ programs) 18 (omega (arith, many)) (begin_full (take 16 programs) (omega (arith, short)) (omega (arith, short)) first) ends
    where
      short : length (take 16 programs) ≡ 16
      short = length-take-le 16 programs (omega (arith, many))

      longer : length (take 17 programs) ≡ 17
      longer = length-take-le 17 programs (omega (arith, many))

      first : AreNames (take 16 programs)
      first = subst AreNames (take-take 16 n programs far) (All-take (λ (name : List ℕ). 0 < length name) 16 (take n programs) names)

      by_form : (more : List (List ℕ)) → HaveForm (codes "check" ∷ schema ∷ take 17 programs ++ more) → ⊥
      by_form more form =
          let check = only_check (schema ∷ take 17 programs ++ more) form in
          let same : length (take 17 programs ++ more) ≡ length check.0.programs = ap length (its_programs (take 17 programs ++ more) check.0 check.1.1) in
          let sum = length-append (take 17 programs) more in
          let few = check.1.0.few in
          omega (arith, same, sum, few, longer)

      ends : BeginForm HaveForm (take (18 + 1) (codes "check" ∷ schema ∷ programs)) → ⊥
      ends b = by_form b.0 b.1

  pub wrong_none : (programs : List (List ℕ)) → length programs ≡ 0 → IsWrong (codes "check" ∷ schema ∷ programs) 2
  wrong_none [] none = missing (codes "check" ∷ schema ∷ []) (begin_with [] (omega arith) (All-nil (λ (name : List ℕ). 0 < length name))) by_form
    where
      by_form : HaveForm (codes "check" ∷ schema ∷ []) → ⊥
      by_form form =
          let check = only_check (schema ∷ []) form in
          let same : 0 ≡ length check.0.programs = ap length (its_programs [] check.0 check.1.1) in
          let some = check.1.0.some in
          omega (arith, same, some)
  wrong_none (p ∷ ps) none = absurd (omega (arith, none))

-- SCHEMA is empty
pub wrong_schema : (schema : List ℕ) (programs : List (List ℕ)) → length schema ≡ 0 → IsWrong (codes "check" ∷ schema ∷ programs) 1
wrong_schema schema programs empty = at_argument (codes "check" ∷ schema ∷ programs) 1 (omega arith) (a_name ∷ a_name ∷ [], begins) (λ b. by_form b.0 b.1)
  where
    begins : HaveForm (codes "check" ∷ a_name ∷ a_name ∷ [])
    begins = inr (inl (record { schema = a_name; programs = a_name ∷ [] }, (record { schema = some_name; some = omega arith; few = omega arith; names = All-cons (λ (name : List ℕ). 0 < length name) a_name [] some_name (All-nil (λ (name : List ℕ). 0 < length name)) }, refl)))

    by_form : (more : List (List ℕ)) → HaveForm (codes "check" ∷ schema ∷ more) → ⊥
    by_form more form =
        let check = only_check (schema ∷ more) form in
        let same : length schema ≡ length check.0.schema = ap (λ (ws : List (List ℕ)). length (get_or ws 1 [])) check.1.1 in
        let some = check.1.0.schema in
        omega (arith, same, some, empty)

-- SCHEMA is missing
pub wrong_alone : IsWrong (codes "check" ∷ []) 1
wrong_alone = missing (codes "check" ∷ []) (a_name ∷ a_name ∷ [], inr (inl (record { schema = a_name; programs = a_name ∷ [] }, (record { schema = some_name; some = omega arith; few = omega arith; names = All-cons (λ (name : List ℕ). 0 < length name) a_name [] some_name (All-nil (λ (name : List ℕ). 0 < length name)) }, refl)))) by_form
  where
    by_form : HaveForm (codes "check" ∷ []) → ⊥
    by_form form =
        let check = only_check [] form in
        let same : 1 ≡ suc (suc (length check.0.programs)) = ap length check.1.1 in
        omega (arith, same)

-- one name more is not empty
pub one_name_more : (names : List (List ℕ)) (i : ℕ) (name : List ℕ) → i < length names → AreNames (take i names) → name ≡ get_or names i name → 0 < length name → AreNames (take (suc i) names)
one_name_more [] i name below all is one = absurd (omega (arith, below))
one_name_more (n ∷ ns) zero name below all is one = All-cons (λ (name : List ℕ). 0 < length name) n [] (subst (λ (x : List ℕ). 0 < length x) is one) (All-nil (λ (name : List ℕ). 0 < length name))
one_name_more (n ∷ ns) (suc i) name below all is one =
    All-cons (λ (name : List ℕ). 0 < length name) n (take (suc i) ns) (All-head (λ (name : List ℕ). 0 < length name) n (take i ns) all) (one_name_more ns i name (omega (arith, below)) (All-tail (λ (name : List ℕ). 0 < length name) n (take i ns) all) is one)

pub wrong_when_alone : (rest : List (List ℕ)) → length rest ≡ 0 → IsWrong (codes "check" ∷ rest) 1
wrong_when_alone [] none = wrong_alone
wrong_when_alone (w ∷ ws) none = absurd (omega (arith, none))
