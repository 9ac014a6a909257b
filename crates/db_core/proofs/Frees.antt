-- Whether a step frees a lock or a reserved key.
use Rattle.std.proofs.Common.{◌≡◌, ◌≢◌, ◌↔◌, ℕ, ◌&&◌, ◌||◌, not, T, Bool, true, false, cond, List, [], ◌∷◌, Option, Some, None, is_some, refl, sym, ap, ◌∙◌, subst, nat_cmp, Ordering, Less, Equal, Greater, eqb, eq-eqb}
use Rattle.std.specs.Prelude.{IsTrue, IsSome}
use Rattle.std.specs.List.{list_any}
use Rattle.std.specs.Ordering.{eq_by_cmp, is_eq, is_lt}
use Rattle.std.specs.FinMap.{get, find, entries, entries_sorted, is_sorted, get-entries, nat_cmp-IsAntisymmetric}
use Rattle.std.specs.FinMap.Entries.{below_all}
use Rattle.std.proofs.lemmas.Cmp.{tied_itself, nat_cmp_total}
use Rattle.abl_values.specs.Masks.{same_bytes}
use Rattle.database_meaning.specs.declared.state.Key.{Key}
use Rattle.database_meaning.specs.Setting.{has_key, same_key}
use Rattle.database_meaning.specs.State.{Held}
use Rattle.database_meaning.specs.Steps.{is_empty}
use Rattle.database_meaning.proofs.Maps.{tied_same, tied_other}
use Rattle.record_locks.specs.Settled.{IsFreed}

-- two tests that agree are one
pub same_test : (a b : Bool) → (IsTrue a → IsTrue b) → (IsTrue b → IsTrue a) → a ≡ b
same_test true true f g = refl
same_test true false f g = let h : false ≡ true = f refl in cc
same_test false true f g = let h : false ≡ true = g refl in cc
same_test false false f g = refl

both_true : (a b : Bool) → a ≡ true → b ≡ true → (a && b) ≡ true
both_true true b h k = k
both_true false b h k = h

same_bytes_self : (xs : List ℕ) → same_bytes xs xs ≡ true
same_bytes_self [] = refl
same_bytes_self (x ∷ xs) = both_true (eqb x x) (same_bytes xs xs) (eq-eqb x x refl) (same_bytes_self xs)

same_key_self : (k : Key) → same_key k k ≡ true
same_key_self k = both_true (eqb k.table k.table) _ (eq-eqb k.table k.table refl) (both_true (eqb k.index k.index) _ (eq-eqb k.index k.index refl) (same_bytes_self k.bytes))

or_first : (a b : Bool) → a ≡ true → (a || b) ≡ true
or_first true b h = refl
or_first false b h = cc

or_second : (a b : Bool) → b ≡ true → (a || b) ≡ true
or_second true b h = refl
or_second false b h = h

-- a key is reserved exactly where the list is not empty
pub reserved_some : (keys : List Key) (reserved : Bool) (Reserved : Key → Bool) → ((k : Key) → Reserved k ≡ has_key keys k) → (IsTrue reserved ↔ ((k : Key) × IsTrue (Reserved k))) → reserved ≡ not (is_empty keys)
reserved_some [] reserved Reserved same iff = same_test reserved false (λ h. let found = iff.0 h in sym (same found.0) ∙ found.1) (λ h. let clash : false ≡ true = h in cc)
reserved_some (x ∷ keys) reserved Reserved same iff = same_test reserved true (λ h. refl) (λ h. iff.1 (x, same x ∙ or_first (same_key x x) (has_key keys x) (same_key_self x)))

-- ---- entries

tied_eq : (o : Ordering) → is_eq o ≡ true → o ≡ Equal
tied_eq Less e = cc
tied_eq Equal e = refl
tied_eq Greater e = cc

same_row : (q k : ℕ) → eq_by_cmp nat_cmp q k ≡ true → q ≡ k
same_row q k e = nat_cmp-IsAntisymmetric q k (tied_eq (nat_cmp q k) e)

t_both : (a b : Bool) → T (a && b) → T a × T b
t_both true b h = (tt, h)
t_both false b h = absurd h

apart : (x y : ℕ) → T (is_lt (nat_cmp x y)) → y ≢ x
apart x y h e =
    let same : nat_cmp x y ≡ Equal = ap (nat_cmp x) e ∙ tied_itself nat_cmp_total x in
    subst (λ o. T (is_lt o)) same h

-- a row found among greater ones is another
found_apart : (x : ℕ) (es : List (ℕ × Bool)) (k : ℕ) (b : Bool) → T (below_all nat_cmp x es) → find nat_cmp k es ≡ Some b → k ≢ x
found_apart x [] k b below found = cc
found_apart x (e ∷ es) k b below found =
    let parts = t_both (is_lt (nat_cmp x e.0)) (below_all nat_cmp x es) below in
    at (eq_by_cmp nat_cmp k e.0) refl found parts.0 (λ later. found_apart x es k b parts.1 later)
  where
    at : (t : Bool) → eq_by_cmp nat_cmp k e.0 ≡ t → cond t (Some e.1) (find nat_cmp k es) ≡ Some b → T (is_lt (nat_cmp x e.0)) → (find nat_cmp k es ≡ Some b → k ≢ x) → k ≢ x
    at true is found less rest same = apart x e.0 less (sym (same_row k e.0 is) ∙ same)
    at false is found less rest same = rest found same

-- an entry that passes a test is found
any_found : (test : ℕ × Bool → Bool) (es : List (ℕ × Bool)) → T (is_sorted nat_cmp es) → list_any test es ≡ true → (k : ℕ) × (b : Bool) × (find nat_cmp k es ≡ Some b) × (test (k, b) ≡ true)
any_found test [] sorted any = cc
any_found test (e ∷ es) sorted any =
    let parts = t_both (below_all nat_cmp e.0 es) (is_sorted nat_cmp es) sorted in
    at (test e) refl any (λ later. further parts.0 (any_found test es parts.1 later))
  where
    further : T (below_all nat_cmp e.0 es) → (k : ℕ) × (b : Bool) × (find nat_cmp k es ≡ Some b) × (test (k, b) ≡ true)
        → (k : ℕ) × (b : Bool) × (find nat_cmp k (e ∷ es) ≡ Some b) × (test (k, b) ≡ true)
    further below (k, b, found, is) =
        let other : eq_by_cmp nat_cmp k e.0 ≡ false = tied_other k e.0 (found_apart e.0 es k b below found) in
        (k, b, ap (λ t. cond t (Some e.1) (find nat_cmp k es)) other ∙ found, is)

    at : (t : Bool) → test e ≡ t → (t || list_any test es) ≡ true → (list_any test es ≡ true → (k : ℕ) × (b : Bool) × (find nat_cmp k (e ∷ es) ≡ Some b) × (test (k, b) ≡ true))
        → (k : ℕ) × (b : Bool) × (find nat_cmp k (e ∷ es) ≡ Some b) × (test (k, b) ≡ true)
    at true is any rest = (e.0, e.1, ap (λ t. cond t (Some e.1) (find nat_cmp e.0 es)) (tied_same e.0), is)
    at false is any rest = rest any

found_any : (test : ℕ × Bool → Bool) (es : List (ℕ × Bool)) (k : ℕ) (b : Bool) → find nat_cmp k es ≡ Some b → test (k, b) ≡ true → list_any test es ≡ true
found_any test [] k b found is = cc
found_any test (e ∷ es) k b found is = at (eq_by_cmp nat_cmp k e.0) refl found (λ later. found_any test es k b later is)
  where
    at : (t : Bool) → eq_by_cmp nat_cmp k e.0 ≡ t → cond t (Some e.1) (find nat_cmp k es) ≡ Some b → (find nat_cmp k es ≡ Some b → list_any test es ≡ true) → (test e || list_any test es) ≡ true
    at true same found rest =
        let row : k ≡ e.0 = same_row k e.0 same in
        let lock : e.1 ≡ b = cc in
        or_first (test e) (list_any test es) (ap (λ (n : ℕ). test (n, e.1)) (sym row) ∙ (ap (λ (v : Bool). test (k, v)) lock ∙ is))
    at false same found rest = or_second (test e) (list_any test es) (rest found)

-- ---- locks

-- some row is held exactly where there is an entry
pub held_some : (held : Held) (freed : Bool) → (IsTrue freed ↔ ((row : ℕ) × IsSome (get held row))) → freed ≡ not (is_empty (entries held))
held_some held freed iff = at (entries held) refl
  where
    none_in : (row : ℕ) → entries held ≡ [] → get held row ≡ None
    none_in row is = get-entries held row ∙ ap (find nat_cmp row) is

    at : (es : List (ℕ × Bool)) → entries held ≡ es → freed ≡ not (is_empty es)
    at [] is = same_test freed false (λ h. let found = iff.0 h in let clash : true ≡ false = sym found.1 ∙ ap is_some (none_in found.0 is) in cc) (λ h. let clash : false ≡ true = h in cc)
    at (x ∷ es) is =
        same_test freed true (λ h. refl)
        (λ h. iff.1 (x.0, ap is_some (get-entries held x.0 ∙ (ap (find nat_cmp x.0) is ∙ ap (λ t. cond t (Some x.1) (find nat_cmp x.0 es)) (tied_same x.0)))))

freed_test : (stay exclusive : Bool) → IsFreed stay (Some exclusive) → (exclusive || not stay) ≡ true
freed_test true true h = refl
freed_test true false h = absurd h
freed_test false true h = refl
freed_test false false h = refl

test_freed : (stay exclusive : Bool) → (exclusive || not stay) ≡ true → IsFreed stay (Some exclusive)
test_freed true true h = tt
test_freed true false h = cc
test_freed false true h = tt
test_freed false false h = tt

has_lock : (stay : Bool) (lock : Option Bool) → IsFreed stay lock → (exclusive : Bool) × (lock ≡ Some exclusive)
has_lock stay None h = absurd h
has_lock stay (Some exclusive) h = (exclusive, refl)

-- some lock is freed exactly where an entry is exclusive or does not stay
pub settled_some : (held : Held) (staying stay : ℕ → Bool) (freed : Bool) → ((k : ℕ) (b : Bool) → get held k ≡ Some b → staying k ≡ stay k)
    → (IsTrue freed ↔ ((row : ℕ) × IsFreed (staying row) (get held row))) → freed ≡ list_any (λ e. e.1 || not (stay e.0)) (entries held)
settled_some held staying stay freed right iff =
    same_test freed _
    (λ h.
    let found = iff.0 h in
    let lock = has_lock (staying found.0) (get held found.0) found.1 in
    found_any (λ e. e.1 || not (stay e.0)) (entries held) found.0 lock.0 (sym (get-entries held found.0) ∙ lock.1)
    (ap (λ (b : Bool). lock.0 || not b) (sym (right found.0 lock.0 lock.1)) ∙ freed_test (staying found.0) lock.0 (subst (IsFreed (staying found.0)) lock.1 found.1)))
    (λ h.
    let found = any_found (λ e. e.1 || not (stay e.0)) (entries held) (entries_sorted held) h in
    let lock : get held found.0 ≡ Some found.1 = get-entries held found.0 ∙ found.2 in
    iff.1 (found.0, subst (IsFreed (staying found.0)) (sym lock) (test_freed (staying found.0) found.1 (ap (λ (b : Bool). found.1 || not b) (right found.0 found.1 lock) ∙ found.3))))
