-- Arguments of the commands `create` and `dump`, and the wrong one among them.
use Rattle.std.proofs.Common.{◌≡◌, inr, inl, ◌<◌, ℕ, suc, List, [], ◌∷◌, refl, ap, arith, length, get_or}
use Rattle.std.specs.Prelude.{codes}
use Rattle.command_arguments.specs.CommandLine.{HaveForm, IsWrong, at_argument, missing}
use Rattle.command_arguments.proofs.Words.{only_create, only_dump}

a_name : List ℕ
a_name = 112 ∷ []

some_name : 0 < length a_name
unfolding a_name
some_name = omega arith

-- ---- create

a_creation : (schema : List ℕ) → 0 < length schema → HaveForm (codes "create" ∷ schema ∷ [])
a_creation schema some = inr (inr (inr (inl (record { schema = schema }, (record { schema = some }, refl)))))

-- SCHEMA is missing
pub creation_alone : (rest : List (List ℕ)) → length rest ≡ 0 → IsWrong (codes "create" ∷ rest) 1
creation_alone [] none = missing (codes "create" ∷ []) (a_name ∷ [], a_creation a_name some_name) by_form
  where
    by_form : HaveForm (codes "create" ∷ []) → ⊥
    by_form form =
        let create = only_create [] form in
        let same : 1 ≡ 2 = ap length create.1.1 in
        omega (arith, same)
creation_alone (w ∷ ws) none = absurd (omega (arith, none))

-- SCHEMA is empty
pub creation_of_none : (schema : List ℕ) (rest : List (List ℕ)) → length schema ≡ 0 → IsWrong (codes "create" ∷ schema ∷ rest) 1
creation_of_none schema rest empty = at_argument (codes "create" ∷ schema ∷ rest) 1 (omega arith) (a_name ∷ [], a_creation a_name some_name) (λ b. by_form b.0 b.1)
  where
    by_form : (more : List (List ℕ)) → HaveForm (codes "create" ∷ schema ∷ more) → ⊥
    by_form more form =
        let create = only_create (schema ∷ more) form in
        let same : length schema ≡ length create.0.schema = ap (λ (ws : List (List ℕ)). length (get_or ws 1 [])) create.1.1 in
        let some = create.1.0.schema in
        omega (arith, same, some, empty)

-- an argument follows
pub creation_with_more : (schema : List ℕ) (rest : List (List ℕ)) → 0 < length schema → 0 < length rest → IsWrong (codes "create" ∷ schema ∷ rest) 2
creation_with_more schema [] some many = absurd (omega (arith, many))
creation_with_more schema (w ∷ ws) some many = at_argument (codes "create" ∷ schema ∷ w ∷ ws) 2 (omega arith) ([], a_creation schema some) (λ b. by_form b.0 b.1)
  where
    by_form : (more : List (List ℕ)) → HaveForm (codes "create" ∷ schema ∷ w ∷ more) → ⊥
    by_form more form =
        let create = only_create (schema ∷ w ∷ more) form in
        let same : suc (suc (suc (length more))) ≡ 2 = ap length create.1.1 in
        omega (arith, same)

-- ---- dump

a_dump : (schema table : List ℕ) → 0 < length schema → 0 < length table → HaveForm (codes "dump" ∷ schema ∷ table ∷ [])
a_dump schema table some one = inr (inr (inr (inr (record { schema = schema; table = table }, (record { schema = some; table = one }, refl)))))

-- SCHEMA is missing
pub dump_alone : (rest : List (List ℕ)) → length rest ≡ 0 → IsWrong (codes "dump" ∷ rest) 1
dump_alone [] none = missing (codes "dump" ∷ []) (a_name ∷ a_name ∷ [], a_dump a_name a_name some_name some_name) by_form
  where
    by_form : HaveForm (codes "dump" ∷ []) → ⊥
    by_form form =
        let dump = only_dump [] form in
        let same : 1 ≡ 3 = ap length dump.1.1 in
        omega (arith, same)
dump_alone (w ∷ ws) none = absurd (omega (arith, none))

-- SCHEMA is empty
pub dump_of_none : (schema : List ℕ) (rest : List (List ℕ)) → length schema ≡ 0 → IsWrong (codes "dump" ∷ schema ∷ rest) 1
dump_of_none schema rest empty = at_argument (codes "dump" ∷ schema ∷ rest) 1 (omega arith) (a_name ∷ a_name ∷ [], a_dump a_name a_name some_name some_name) (λ b. by_form b.0 b.1)
  where
    by_form : (more : List (List ℕ)) → HaveForm (codes "dump" ∷ schema ∷ more) → ⊥
    by_form more form =
        let dump = only_dump (schema ∷ more) form in
        let same : length schema ≡ length dump.0.schema = ap (λ (ws : List (List ℕ)). length (get_or ws 1 [])) dump.1.1 in
        let some = dump.1.0.schema in
        omega (arith, same, some, empty)

-- TABLE is missing
pub dump_without_table : (schema : List ℕ) (rest : List (List ℕ)) → 0 < length schema → length rest ≡ 0 → IsWrong (codes "dump" ∷ schema ∷ rest) 2
dump_without_table schema [] some none = missing (codes "dump" ∷ schema ∷ []) (a_name ∷ [], a_dump schema a_name some some_name) by_form
  where
    by_form : HaveForm (codes "dump" ∷ schema ∷ []) → ⊥
    by_form form =
        let dump = only_dump (schema ∷ []) form in
        let same : 2 ≡ 3 = ap length dump.1.1 in
        omega (arith, same)
dump_without_table schema (w ∷ ws) some none = absurd (omega (arith, none))

-- TABLE is empty
pub dump_of_no_table : (schema table : List ℕ) (rest : List (List ℕ)) → 0 < length schema → length table ≡ 0 → IsWrong (codes "dump" ∷ schema ∷ table ∷ rest) 2
dump_of_no_table schema table rest some empty = at_argument (codes "dump" ∷ schema ∷ table ∷ rest) 2 (omega arith) (a_name ∷ [], a_dump schema a_name some some_name) (λ b. by_form b.0 b.1)
  where
    by_form : (more : List (List ℕ)) → HaveForm (codes "dump" ∷ schema ∷ table ∷ more) → ⊥
    by_form more form =
        let dump = only_dump (schema ∷ table ∷ more) form in
        let same : length table ≡ length dump.0.table = ap (λ (ws : List (List ℕ)). length (get_or ws 2 [])) dump.1.1 in
        let one = dump.1.0.table in
        omega (arith, same, one, empty)

-- an argument follows
pub dump_with_more : (schema table : List ℕ) (rest : List (List ℕ)) → 0 < length schema → 0 < length table → 0 < length rest → IsWrong (codes "dump" ∷ schema ∷ table ∷ rest) 3
dump_with_more schema table [] some one many = absurd (omega (arith, many))
dump_with_more schema table (w ∷ ws) some one many = at_argument (codes "dump" ∷ schema ∷ table ∷ w ∷ ws) 3 (omega arith) ([], a_dump schema table some one) (λ b. by_form b.0 b.1)
  where
    by_form : (more : List (List ℕ)) → HaveForm (codes "dump" ∷ schema ∷ table ∷ w ∷ more) → ⊥
    by_form more form =
        let dump = only_dump (schema ∷ table ∷ w ∷ more) form in
        let same : suc (suc (suc (suc (length more)))) ≡ 3 = ap length dump.1.1 in
        omega (arith, same)
