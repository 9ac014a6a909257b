-- EVERY PROGRAM HAS FLAT CODE that denotes it: each statement is written after what it names.
use Rattle.std.proofs.Common.{◌≡◌, ℕ, zero, suc, ◌<◌, ◌≤◌, List, [], ◌∷◌, ◌++◌, length, refl, sym, ap, ◌∙◌, subst, arith}
use Rattle.std.specs.Prelude.{slice_index_or}
use Rattle.std.proofs.lemmas.List.{get_or_append_left, get_or_at, length-append}
use Rattle.bound_tree.specs.Tree.{Body, Choose, Inner, Nothing, Procedure, Stmt, Then}
use Rattle.block_meaning.specs.Program.{Program, no_procedure}
use Rattle.flat_machine.specs.Code.{Code, Ends, Instr, IsCodeOf, Opens, Plain, Tests, before}
use Rattle.flat_machine.specs.Written.{DenotesNext, Encodes, NamesBelow, instr_at, tree_at}
use Rattle.flat_machine.proofs.Written.{all_stand, ends_next, one_more, opens_next, plain_next, tests_next}

-- ---- code that grows

-- what was written before stays, and a place has this body
pub record Grown (old : List Body) (t : Body) : Type 0 where
  pub is : List Instr
  pub ts : List Body
  pub encodes : Encodes is ts
  pub longer : length old ≤ length ts
  pub stays : (k : ℕ) → k < length old → tree_at ts k ≡ tree_at old k
  pub place : ℕ
  pub below : place < length ts
  pub at : tree_at ts place ≡ t

-- one instruction more
one_grown : (is : List Instr) (ts : List Body) → Encodes is ts → (i : Instr) (t : Body) → NamesBelow (length ts) i → DenotesNext ts t i → Grown ts t
one_grown is ts enc i t below next =
    let long = length-append ts (t ∷ []) in
    record {
      is = is ++ i ∷ [];
      ts = ts ++ t ∷ [];
      encodes = one_more is ts i t enc (subst (λ n. NamesBelow n i) (sym enc.same_length) below) next;
      longer = omega (arith, long);
      stays = λ k low. get_or_append_left ts (t ∷ []) Nothing k low;
      place = length ts;
      below = omega (arith, long);
      at = get_or_at ts t [] Nothing (length ts) refl;
    }

-- one growth after another
then_grown : (old : List Body) (t u : Body) (x : Grown old t) → Grown x.ts u → Grown old u
then_grown old t u x y =
    let a = x.longer in
    let b = y.longer in
    record { is = y.is; ts = y.ts; encodes = y.encodes; longer = omega (arith, a, b); stays = λ k low. y.stays k (omega (arith, low, a)) ∙ x.stays k low; place = y.place; below = y.below; at = y.at }

named : (old : List Body) (t u : Body) → t ≡ u → Grown old t → Grown old u
named old t u e x = subst (Grown old) e x

before_nothing : (b : Body) → before b Nothing ≡ b
before_nothing Nothing = refl
before_nothing (Then t more) = ap (λ b. Then t b) (before_nothing more)

-- ---- bodies and statements

mutual
  -- a body before what is at a place
  body_grown : (b : Body) (is : List Instr) (ts : List Body) → Encodes is ts → (next : ℕ) → next < length ts → Grown ts (before b (tree_at ts next))
  body_grown Nothing is ts enc next low = record { is = is; ts = ts; encodes = enc; longer = omega arith; stays = λ k below. refl; place = next; below = low; at = refl }
  body_grown (Then t more) is ts enc next low =
      let x = body_grown more is ts enc next low in
      then_grown ts (before more (tree_at ts next)) (Then t (before more (tree_at ts next))) x (named x.ts (Then t (tree_at x.ts x.place)) (Then t (before more (tree_at ts next))) (ap (λ b. Then t b) x.at) (statement_grown t x.is x.ts x.encodes x.place x.below))

  -- a statement before what is at a place
  statement_grown : (t : Stmt) (is : List Instr) (ts : List Body) → Encodes is ts → (next : ℕ) → next < length ts → Grown ts (Then t (tree_at ts next))
  statement_grown (Inner h body) is ts enc next low =
      let x = one_grown is ts enc Ends Nothing tt (ends_next ts) in
      let y = body_grown body x.is x.ts x.encodes x.place x.below in
      let inside : tree_at y.ts y.place ≡ body = y.at ∙ (ap (before body) x.at ∙ before_nothing body) in
      let a = x.longer in
      let b = y.longer in
      let after : next < length y.ts = omega (arith, low, a, b) in
      let rest : tree_at y.ts next ≡ tree_at ts next = y.stays next (omega (arith, low, a)) ∙ x.stays next low in
      let z = one_grown y.is y.ts y.encodes (Opens h y.place next) (Then (Inner h (tree_at y.ts y.place)) (tree_at y.ts next)) (y.below, after) (opens_next y.ts h y.place next y.below after) in
      named ts (Then (Inner h (tree_at y.ts y.place)) (tree_at y.ts next)) (Then (Inner h body) (tree_at ts next)) (ap (λ c. Then (Inner h c) (tree_at y.ts next)) inside ∙ ap (λ c. Then (Inner h body) c) rest)
      (then_grown ts Nothing (Then (Inner h (tree_at y.ts y.place)) (tree_at y.ts next)) x (then_grown x.ts (before body (tree_at x.ts x.place)) (Then (Inner h (tree_at y.ts y.place)) (tree_at y.ts next)) y z))
  statement_grown (Choose test then_it else_it) is ts enc next low =
      let x = body_grown then_it is ts enc next low in
      let a = x.longer in
      let y = body_grown else_it x.is x.ts x.encodes next (omega (arith, low, a)) in
      let b = y.longer in
      let first : x.place < length y.ts = let c = x.below in omega (arith, b, c) in
      let one : tree_at y.ts x.place ≡ before then_it (tree_at ts next) = y.stays x.place x.below ∙ x.at in
      let other : tree_at y.ts y.place ≡ before else_it (tree_at ts next) = y.at ∙ ap (before else_it) (x.stays next low) in
      let z = one_grown y.is y.ts y.encodes (Tests test x.place y.place) (Then (Choose test then_it else_it) (tree_at ts next)) (first, y.below) (tests_next y.ts test then_it else_it (tree_at ts next) x.place y.place first y.below one other) in
      then_grown ts (before then_it (tree_at ts next)) (Then (Choose test then_it else_it) (tree_at ts next)) x (then_grown x.ts (before else_it (tree_at x.ts next)) (Then (Choose test then_it else_it) (tree_at ts next)) y z)
  statement_grown t is ts enc next low = one_grown is ts enc (Plain t next) (Then t (tree_at ts next)) low (plain_next ts t next tt low)

-- ---- procedures

-- each procedure has a place
pub record AreGrown (old : List Body) (qs : List Procedure) : Type 0 where
  pub is : List Instr
  pub ts : List Body
  pub encodes : Encodes is ts
  pub longer : length old ≤ length ts
  pub stays : (k : ℕ) → k < length old → tree_at ts k ≡ tree_at old k
  pub entry : ℕ → ℕ
  pub begins : (n : ℕ) → tree_at ts (entry n) ≡ (slice_index_or qs n no_procedure).body

procedures_grown : (qs : List Procedure) (is : List Instr) (ts : List Body) → Encodes is ts → 0 < length ts → tree_at ts 0 ≡ Nothing → AreGrown ts qs
procedures_grown [] is ts enc low end = record { is = is; ts = ts; encodes = enc; longer = omega arith; stays = λ k below. refl; entry = λ n. 0; begins = λ n. end }
procedures_grown (q ∷ qs) is ts enc low end =
    let x = body_grown q.body is ts enc 0 low in
    let a = x.longer in
    let y = procedures_grown qs x.is x.ts x.encodes (omega (arith, low, a)) (x.stays 0 low ∙ end) in
    let b = y.longer in
    record {
      is = y.is;
      ts = y.ts;
      encodes = y.encodes;
      longer = omega (arith, a, b);
      stays = λ k below. y.stays k (omega (arith, below, a)) ∙ x.stays k below;
      entry = entries x.place y.entry;
      begins = first x.place y.ts y.entry (y.stays x.place x.below ∙ (x.at ∙ (ap (before q.body) end ∙ before_nothing q.body))) y.begins;
    }
  where
    entries : ℕ → (ℕ → ℕ) → ℕ → ℕ
    entries place more zero = place
    entries place more (suc n) = more n

    first : (place : ℕ) (us : List Body) (more : ℕ → ℕ) → tree_at us place ≡ q.body → ((n : ℕ) → tree_at us (more n) ≡ (slice_index_or qs n no_procedure).body) → (n : ℕ) → tree_at us (entries place more n) ≡ (slice_index_or (q ∷ qs) n no_procedure).body
    first place us more is rest zero = is
    first place us more is rest (suc n) = rest n

-- ---- programs

-- code that denotes the program
pub record HasCode (p : Program) : Type 0 where
  pub code : Code
  pub tree : ℕ → Body
  pub denotes : IsCodeOf code p tree

none_encoded : Encodes [] []
none_encoded = record { same_length = refl; below = λ k low. absurd (omega (arith, low)); denotes = λ k low. absurd (omega (arith, low)) }

pub program_has_code : (p : Program) → HasCode p
unfolding none_encoded one_grown
program_has_code p =
    let end = one_grown [] [] none_encoded Ends Nothing tt (ends_next []) in
    let all = procedures_grown p.source.procedures end.is end.ts end.encodes end.below end.at in
    record { code = record { instr = instr_at all.is; entry = all.entry }; tree = tree_at all.ts; denotes = record { denotes = all_stand all.is all.ts all.encodes; begins = all.begins } }
