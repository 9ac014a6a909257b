-- Code grows by one instruction at a time, and denotes its bodies throughout.
use Rattle.std.proofs.Common.{◌≡◌, ℕ, ◌+◌, ◌<◌, ◌≤◌, List, [], ◌∷◌, ◌++◌, length, refl, sym, ap, ◌∙◌, subst, arith}
use Rattle.std.specs.Prelude.{Bool, true, false, nat_lt}
use Rattle.std.proofs.lemmas.Bool.{ltb-true, ltb-false}
use Rattle.std.proofs.lemmas.List.{get_or_append_left, get_or_at, get_or_past, length-append}
use Rattle.bound_tree.specs.Tree.{Header, Expr, Stmt, Inner, Choose, Body, Nothing, Then}
use Rattle.flat_machine.specs.Code.{Instr, Ends, Opens, Tests, Plain, IsSimple, before, DenotesAt}
use Rattle.flat_machine.specs.Written.{instr_at, tree_at, NamesBelow, Encodes, DenotesNext}

-- what an instruction denotes depends on the places that it names
moved : (one other : ℕ → Body) (k n : ℕ) (i : Instr) → NamesBelow k i → k < n → ((j : ℕ) → j < n → other j ≡ one j) → DenotesAt one k i → DenotesAt other k i
moved one other k n Ends below lt same is = same k lt ∙ is
moved one other k n (Opens b body next) below lt same is =
    same k lt ∙ is ∙ ap (λ x. Then (Inner b x) (one next)) (sym (same body (omega (arith, below.0, lt)))) ∙ ap (λ x. Then (Inner b (other body)) x) (sym (same next (omega (arith, below.1, lt))))
moved one other k n (Tests test a b) below lt same is =
    record { then_it = is.then_it; else_it = is.else_it; rest = is.rest; is = same k lt ∙ is.is; first = same a (omega (arith, below.0, lt)) ∙ is.first; second = same b (omega (arith, below.1, lt)) ∙ is.second }
moved one other k n (Plain t next) below lt same is = (is.0, same k lt ∙ is.1 ∙ ap (λ x. Then t x) (sym (same next (omega (arith, below, lt)))))

below_by : (b : Bool) (is : List Instr) (i : Instr) (k : ℕ) → nat_lt k (length is) ≡ b → ((j : ℕ) → j < length is → NamesBelow j (instr_at is j)) → NamesBelow (length is) i → k < length is + 1 → NamesBelow k (instr_at (is ++ i ∷ []) k)
below_by true is i k e all new lt = let low : k < length is = ltb-true k (length is) e in subst (λ x. NamesBelow k x) (sym (get_or_append_left is (i ∷ []) Ends k low)) (all k low)
below_by false is i k e all new lt =
    let at : length is ≡ k = let ge = ltb-false k (length is) e in omega (arith, ge, lt) in
    subst (λ x. NamesBelow k x) (sym (get_or_at is i [] Ends k at)) (subst (λ n. NamesBelow n i) at new)

stands_by : (b : Bool) (is : List Instr) (ts : List Body) (i : Instr) (t : Body) (k : ℕ) → nat_lt k (length is) ≡ b → Encodes is ts → DenotesNext ts t i → k < length is + 1 → DenotesAt (tree_at (ts ++ t ∷ [])) k (instr_at (is ++ i ∷ []) k)
stands_by true is ts i t k e all new lt =
    let low : k < length is = ltb-true k (length is) e in
    let same : (j : ℕ) → j < length is → tree_at (ts ++ t ∷ []) j ≡ tree_at ts j = λ j l. get_or_append_left ts (t ∷ []) Nothing j (omega (arith, l, all.same_length)) in
    subst (λ x. DenotesAt (tree_at (ts ++ t ∷ [])) k x) (sym (get_or_append_left is (i ∷ []) Ends k low)) (moved (tree_at ts) (tree_at (ts ++ t ∷ [])) k (length is) (instr_at is k) (all.below k low) low same (all.denotes k low))
stands_by false is ts i t k e all new lt =
    let at : length is ≡ k = let ge = ltb-false k (length is) e in omega (arith, ge, lt) in
    let at' : length ts ≡ k = sym all.same_length ∙ at in
    let new' : DenotesAt (tree_at (ts ++ t ∷ [])) (length ts) i = new (tree_at (ts ++ t ∷ [])) (get_or_at ts t [] Nothing (length ts) refl) (λ j l. get_or_append_left ts (t ∷ []) Nothing j l) in
    subst (λ x. DenotesAt (tree_at (ts ++ t ∷ [])) k x) (sym (get_or_at is i [] Ends k at)) (subst (λ n. DenotesAt (tree_at (ts ++ t ∷ [])) n i) at' new')

-- one more instruction
pub one_more : (is : List Instr) (ts : List Body) (i : Instr) (t : Body) → Encodes is ts → NamesBelow (length is) i → DenotesNext ts t i → Encodes (is ++ i ∷ []) (ts ++ t ∷ [])
one_more is ts i t all below new =
    let l1 = length-append is (i ∷ []) in let l2 = length-append ts (t ∷ []) in
    record {
      same_length = omega (arith, l1, l2, all.same_length);
      below = λ k lt. below_by (nat_lt k (length is)) is i k refl all.below below (omega (arith, lt, l1));
      denotes = λ k lt. stands_by (nat_lt k (length is)) is ts i t k refl all new (omega (arith, lt, l1));
    }

-- the kinds of instruction
pub ends_next : (ts : List Body) → DenotesNext ts Nothing Ends
ends_next ts = λ tree is same. is

pub opens_next : (ts : List Body) (b : Header) (body next : ℕ) → body < length ts → next < length ts → DenotesNext ts (Then (Inner b (tree_at ts body)) (tree_at ts next)) (Opens b body next)
opens_next ts b body next l1 l2 = λ tree is same. is ∙ ap (λ x. Then (Inner b x) (tree_at ts next)) (sym (same body l1)) ∙ ap (λ x. Then (Inner b (tree body)) x) (sym (same next l2))

pub tests_next : (ts : List Body) (test : Expr) (then_it else_it rest : Body) (one other : ℕ) → one < length ts → other < length ts → tree_at ts one ≡ before then_it rest → tree_at ts other ≡ before else_it rest → DenotesNext ts (Then (Choose test then_it else_it) rest) (Tests test one other)
tests_next ts test then_it else_it rest one other l1 l2 e1 e2 = λ tree is same. record { then_it = then_it; else_it = else_it; rest = rest; is = is; first = same one l1 ∙ e1; second = same other l2 ∙ e2 }

pub plain_next : (ts : List Body) (t : Stmt) (next : ℕ) → IsSimple t → next < length ts → DenotesNext ts (Then t (tree_at ts next)) (Plain t next)
plain_next ts t next plain l = λ tree is same. (plain, is ∙ ap (λ x. Then t x) (sym (same next l)))

-- at each place, and past the last one
pub all_stand : (is : List Instr) (ts : List Body) → Encodes is ts → (k : ℕ) → DenotesAt (tree_at ts) k (instr_at is k)
all_stand is ts all k = by (nat_lt k (length is)) refl
  where
    by : (b : Bool) → nat_lt k (length is) ≡ b → DenotesAt (tree_at ts) k (instr_at is k)
    by true e = all.denotes k (ltb-true k (length is) e)
    by false e =
        let ge : length is ≤ k = ltb-false k (length is) e in
        subst (λ x. DenotesAt (tree_at ts) k x) (sym (get_or_past is k Ends ge)) (get_or_past ts k Nothing (omega (arith, ge, all.same_length)))
