-- What `retain` and a search leave of a client's locks.
use Rattle.std.proofs.Common.{◌≡◌, ◌↔◌, ℕ, Bool, true, false, not, ◌||◌, cond, List, [], ◌∷◌, length, Option, Some, None, IsTrue, IsSome, is_some, refl, sym, ap, subst, ◌∙◌, nat_cmp, arith}
use Rattle.std.specs.Cmp.{nat_cmp_total, eq_by_cmp_equiv}
use Rattle.std.specs.List.{list_any}
use Rattle.std.specs.Map.Calls.{RetainsPairs}
use Rattle.std.specs.BTreeMap.{BTreeMap, IsOrdered, is_at}
use Rattle.std.specs.FinMap as map
use Rattle.std.proofs.lemmas.List.Elements.{All-contains}
use Rattle.std.proofs.lemmas.List.Folds.{Any-from_list_any}
use Rattle.std.proofs.lemmas.Bool.{or_left, or_right}
use Rattle.std.proofs.lemmas.Map.Lookups.{exact_unsigned}
use Rattle.std.proofs.lemmas.Map.Views.{All-found, tells_apart}
use Rattle.record_locks.specs.Settled.{IsFreed, settled}
use Rattle.abl_base.proofs.TreeEntries.{at, get_at}

-- a row is at itself
at_itself : (row : ℕ) → is_at (nat_cmp row) row ≡ true
at_itself row = (eq_by_cmp_equiv nat_cmp_total).refl row

pub same_at : (q row : ℕ) → is_at (nat_cmp q) row ≡ true → q ≡ row
same_at q row is = tells_apart exact_unsigned q row is

pub no_some : {X : Type 0} (o : Option X) → is_some o ≡ true → o ≡ None → ⊥
no_some None some none = cc
no_some (Some x) some none = cc

-- some row is held exactly where the map has entries
pub some_row : (es : List (ℕ × Bool)) (m : map.FinMap nat_cmp Bool) → map.from_entries es ≡ m → (empty : Bool) → (IsTrue empty ↔ (length es ≡ 0))
    → (IsTrue (not empty) ↔ ((row : ℕ) × IsSome (map.get m row)))
some_row [] m is empty iff = (
  (λ h. let e : empty ≡ true = iff.1 refl in absurd (cc)),
  (λ r. absurd (no_some (map.get m r.0) r.1 (ap (λ n. map.get n r.0) (sym is) ∙ get_at [] r.0))),
)
some_row (e ∷ es) m is true iff = ((λ h. absurd (cc)), (λ r. absurd (omega (arith, iff.0 refl))))
some_row (e ∷ es) m is false iff =
    ((λ h. (e.0, ap is_some (ap (λ n. map.get n e.0) (sym is) ∙ get_at (e ∷ es) e.0 ∙ ap (λ b. cond b (Some e.1) (at es e.0)) (at_itself e.0)))), (λ r. refl))

pub settled_none : (kept : Bool) → settled kept None ≡ None
settled_none true = refl
settled_none false = refl

-- one entry of them
one_settled : (keeps : ℕ → Bool) (e : ℕ × Bool) (b w : Bool) (rest : List (ℕ × Bool)) (q : ℕ) → b ≡ keeps e.0 → w ≡ false
    → (before : Option Bool) → at rest q ≡ settled (keeps q) before → (here : Bool) → is_at (nat_cmp q) e.0 ≡ here
    → at (cond b ((e.0, w) ∷ rest) rest) q ≡ settled (keeps q) (cond here (Some e.1) before)
one_settled keeps e true w rest q is wrote before below true at_e =
    ap (λ b. cond b (Some w) (at rest q)) at_e ∙ ap (λ (lock : Bool). Some lock) wrote ∙ ap (λ kept. settled kept (Some e.1)) (is ∙ ap keeps (sym (same_at q e.0 at_e)))
one_settled keeps e true w rest q is wrote before below false at_e = ap (λ b. cond b (Some w) (at rest q)) at_e ∙ below
one_settled keeps e false w rest q is wrote before below true at_e =
    let no : keeps q ≡ false = ap keeps (same_at q e.0 at_e) ∙ sym is in
    below ∙ ap (λ kept. settled kept before) no ∙ sym (ap (λ kept. settled kept (Some e.1)) no)
one_settled keeps e false w rest q is wrote before below false at_e = below

-- where a closure keeps the rows that pass and writes false, the map has the locks settled
pub settled_pairs : {F : Type 0} (T : F → ℕ → Bool → Bool → Bool → F → Type 0) (keeps : ℕ → Bool) (f : F)
    → ((k : ℕ) (v b w : Bool) (f' : F) → T f k v b w f' → (b ≡ keeps k) × (w ≡ false) × (f' ≡ f))
    → (es kept : List (ℕ × Bool)) → RetainsPairs T f es kept → (q : ℕ) → at kept q ≡ settled (keeps q) (at es q)
settled_pairs T keeps f says [] kept r q = ap (λ es. at es q) r ∙ sym (settled_none (keeps q))
settled_pairs T keeps f says (e ∷ es) kept (b, w, f', rest, t, r, is) q =
    let said = says e.0 e.1 b w f' t in
    let below : at rest q ≡ settled (keeps q) (at es q) = settled_pairs T keeps f says es rest (subst (λ g. RetainsPairs T g es rest) said.2 r) q in
    ap (λ (es : List (ℕ × Bool)). at es q) is ∙ one_settled keeps e b w rest q said.0 said.1 (at es q) below (is_at (nat_cmp q) e.0) refl

-- a lock that passes a test is freed
freed_by_test : (kept exclusive : Bool) → (exclusive || not kept) ≡ true → IsFreed kept (Some exclusive)
freed_by_test true true h = tt
freed_by_test true false h = cc
freed_by_test false true h = tt
freed_by_test false false h = tt

test_by_freed : (kept exclusive : Bool) → IsFreed kept (Some exclusive) → (exclusive || not kept) ≡ true
test_by_freed true true h = refl
test_by_freed true false h = absurd h
test_by_freed false true h = refl
test_by_freed false false h = refl

passes_here : (test : ℕ × Bool → Bool) (e : ℕ × Bool) (es : List (ℕ × Bool)) (q : ℕ) (exclusive : Bool) → test (q, exclusive) ≡ true
    → (at es q ≡ Some exclusive → test (q, exclusive) ≡ true → list_any test es ≡ true)
    → (here : Bool) → is_at (nat_cmp q) e.0 ≡ here → cond here (Some e.1) (at es q) ≡ Some exclusive → (test e || list_any test es) ≡ true
passes_here test e es q exclusive h below true at_e is =
    let row : e.0 ≡ q = sym (same_at q e.0 at_e) in
    let lock : e.1 ≡ exclusive = cc in
    or_left (test e) _ (ap test (λ i. (row i, lock i)) ∙ h)
passes_here test e es q exclusive h below false at_e is = or_right (test e) _ (below is h)

-- a lock that the map has passes some test of the entries
passes_somewhere : (test : ℕ × Bool → Bool) (es : List (ℕ × Bool)) (q : ℕ) (exclusive : Bool) → at es q ≡ Some exclusive → test (q, exclusive) ≡ true → list_any test es ≡ true
passes_somewhere test [] q exclusive is h = absurd (cc)
passes_somewhere test (e ∷ es) q exclusive is h =
    passes_here test e es q exclusive h (passes_somewhere test es q exclusive) (is_at (nat_cmp q) e.0) refl is

freed_has_lock : (kept : Bool) (lock : Option Bool) → IsFreed kept lock → (exclusive : Bool) × (lock ≡ Some exclusive)
freed_has_lock kept None h = absurd h
freed_has_lock kept (Some exclusive) h = (exclusive, refl)

-- some entry passes the test exactly where some lock is freed
pub frees_some : (keeps : ℕ → Bool) (rows : BTreeMap ℕ Bool) (m : map.FinMap nat_cmp Bool) → IsOrdered nat_cmp rows → map.from_entries rows.entries ≡ m → (frees : Bool)
    → frees ≡ list_any (λ lock. lock.1 || not (keeps lock.0)) rows.entries
    → (IsTrue frees ↔ ((row : ℕ) × IsFreed (keeps row) (map.get m row)))
frees_some keeps rows m ordered is frees any =
    let read : (q : ℕ) → at rows.entries q ≡ map.get m q = λ q. sym (get_at rows.entries q) ∙ ap (λ n. map.get n q) is in (
      (λ h.
          let found = Any-from_list_any (λ lock. lock.1 || not (keeps lock.0)) rows.entries (sym any ∙ h) in
          let entry = found.1 in
          let has : at rows.entries entry.0 ≡ Some entry.1 = All-contains (λ e. at rows.entries e.0 ≡ Some e.1) rows.entries entry (All-found nat_cmp_total rows ordered) (found.0, found.2, found.3) in
          (entry.0, subst (λ lock. IsFreed (keeps entry.0) lock) (sym has ∙ read entry.0) (freed_by_test (keeps entry.0) entry.1 found.4))),
      (λ r.
          let lock = freed_has_lock (keeps r.0) (map.get m r.0) r.1 in
          any ∙ passes_somewhere (λ lock. lock.1 || not (keeps lock.0)) rows.entries r.0 lock.0 (read r.0 ∙ lock.1)
          (test_by_freed (keeps r.0) lock.0 (subst (λ held. IsFreed (keeps r.0) held) lock.1 r.1))),
    )
