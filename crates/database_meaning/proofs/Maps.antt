-- What finite maps from numbers have at a number after a change.
use Rattle.std.proofs.Common.{◌≡◌, ◌⊎◌, ℕ, Bool, true, false, cond, List, [], ◌∷◌, map, Option, Some, None, refl, sym, ap, ◌∙◌, inl, inr, nat_cmp, Ordering, Less, Equal, Greater}
use Rattle.std.specs.Ordering.{eq_by_cmp, is_eq}
use Rattle.std.specs.Cmp.{nat_cmp_total, eq_by_cmp_equiv}
use Rattle.std.specs.FinMap.{FinMap, get, insert, remove, empty, entries, retain_keys, find, get-insert, get-remove, get-empty, get-entries, get-retain_keys, get-from_entries, nat_cmp-IsAntisymmetric}
use Rattle.std.proofs.lemmas.Bool.{cases_eq}
use Rattle.database_meaning.specs.declared.state.StoredRow.{StoredRow}
use Rattle.database_meaning.specs.State.{Rows, Held, over}
use Rattle.database_meaning.specs.Steps.{as_share, put_row, laid_on}

pub tied_same : (k : ℕ) → eq_by_cmp nat_cmp k k ≡ true
tied_same k = (eq_by_cmp_equiv nat_cmp_total).refl k

apart_by : (r : Ordering) → (r ≡ Equal → ⊥) → is_eq r ≡ false
apart_by Less ne = refl
apart_by Equal ne = absurd (ne refl)
apart_by Greater ne = refl

pub tied_other : (q k : ℕ) → (q ≡ k → ⊥) → eq_by_cmp nat_cmp q k ≡ false
tied_other q k ne = apart_by (nat_cmp q k) (λ e. ne (nat_cmp-IsAntisymmetric q k e))

keys_alike : (p : ℕ → Bool) (q x : ℕ) → nat_cmp q x ≡ Equal → p x ≡ p q
keys_alike p q x e = ap p (sym (nat_cmp-IsAntisymmetric q x e))

module _ {X : Type 0} where
  pub get_insert_same : (m : FinMap nat_cmp X) (k : ℕ) (v : X) → get (insert m k v) k ≡ Some v
  get_insert_same m k v = get-insert nat_cmp_total m k v k ∙ ap (λ b. cond b (Some v) (get m k)) (tied_same k)

  pub get_insert_other : (m : FinMap nat_cmp X) (k : ℕ) (v : X) (q : ℕ) → (q ≡ k → ⊥) → get (insert m k v) q ≡ get m q
  get_insert_other m k v q ne = get-insert nat_cmp_total m k v q ∙ ap (λ b. cond b (Some v) (get m q)) (tied_other q k ne)

  pub get_remove_same : (m : FinMap nat_cmp X) (k : ℕ) → get (remove m k) k ≡ None
  get_remove_same m k = get-remove nat_cmp_total m k k ∙ ap (λ b. cond b None (get m k)) (tied_same k)

  pub get_remove_other : (m : FinMap nat_cmp X) (k q : ℕ) → (q ≡ k → ⊥) → get (remove m k) q ≡ get m q
  get_remove_other m k q ne = get-remove nat_cmp_total m k q ∙ ap (λ b. cond b None (get m q)) (tied_other q k ne)

  -- what is there after an insert was put in, or was there
  pub insert_cases : (m : FinMap nat_cmp X) (k : ℕ) (v : X) (q : ℕ) (w : X) → get (insert m k v) q ≡ Some w → ((q ≡ k) × (v ≡ w)) ⊎ ((q ≡ k → ⊥) × (get m q ≡ Some w))
  insert_cases m k v q w e =
      elim (cases_eq q k) [
        | inl same ↦ let at : get (insert m k v) q ≡ Some v = ap (get (insert m k v)) same ∙ get_insert_same m k v in inl (same, cc)
        | inr ne ↦ inr (ne, sym (get_insert_other m k v q ne) ∙ e)
      ]

  -- what is there after a remove was there
  pub remove_cases : (m : FinMap nat_cmp X) (k q : ℕ) (w : X) → get (remove m k) q ≡ Some w → (q ≡ k → ⊥) × (get m q ≡ Some w)
  remove_cases m k q w e =
      elim (cases_eq q k) [
        | inl same ↦ let at : get (remove m k) q ≡ None = ap (get (remove m k)) same ∙ get_remove_same m k in cc
        | inr ne ↦ (ne, sym (get_remove_other m k q ne) ∙ e)
      ]

  none_there : (b : Bool) (o : Option X) (w : X) → cond b o None ≡ Some w → o ≡ Some w
  none_there true o w e = e
  none_there false o w e = cc

  pub retain_cases : (m : FinMap nat_cmp X) (p : ℕ → Bool) (q : ℕ) (w : X) → get (retain_keys m p) q ≡ Some w → get m q ≡ Some w
  retain_cases m p q w e = none_there (p q) (get m q) w (sym (get-retain_keys m p q (keys_alike p q)) ∙ e)

  pub empty_cases : (q : ℕ) (w : X) → get (empty {X = X} {R = nat_cmp}) q ≡ Some w → ⊥
  empty_cases q w e = let none : get (empty {X = X} {R = nat_cmp}) q ≡ None = get-empty nat_cmp q in cc

some_none : {A : Type 0} (v : A) (o : Option A) (b : Bool) → b ≡ true → cond b (Some v) o ≡ None → ⊥
some_none v o true e h = cc
some_none v o false e h = cc

-- entries with one value
found_false : (b : Bool) (v w : Bool) (o p : Option Bool) → cond b (Some false) o ≡ Some w → (o ≡ Some w → (w ≡ false) × (u : Bool) × (p ≡ Some u)) → (w ≡ false) × (u : Bool) × (cond b (Some v) p ≡ Some u)
found_false true v w o p e h = (cc, v, refl)
found_false false v w o p e h = h e

pub find_mapped : (es : List (ℕ × Bool)) (q : ℕ) (w : Bool) → find nat_cmp q (map {B = ℕ × Bool} (λ e. (e.0, false)) es) ≡ Some w → (w ≡ false) × (u : Bool) × (find nat_cmp q es ≡ Some u)
find_mapped [] q w e = cc
find_mapped (x ∷ es) q w e = found_false (eq_by_cmp nat_cmp q x.0) x.1 w _ _ e (find_mapped es q w)

-- a lock that became share was there
pub as_share_cases : (held : Held) (q : ℕ) (w : Bool) → get (as_share held) q ≡ Some w → (w ≡ false) × (u : Bool) × (get held q ≡ Some u)
as_share_cases held q w e =
    let h = find_mapped (entries held) q w (sym (get-from_entries nat_cmp_total _ q) ∙ e) in
    (h.0, h.1, get-entries held q ∙ h.2)

put_row_other : (rows : Rows) (k : ℕ) (o : Option StoredRow) (q : ℕ) → (q ≡ k → ⊥) → get (put_row rows k o) q ≡ get rows q
put_row_other rows k None q ne = get_remove_other rows k q ne
put_row_other rows k (Some r) q ne = get_insert_other rows k r q ne

put_row_same : (rows : Rows) (k : ℕ) (o : Option StoredRow) → get (put_row rows k o) k ≡ o
put_row_same rows k None = get_remove_same rows k
put_row_same rows k (Some r) = get_insert_same rows k r

-- where no change is, the row below stays
pub get_laid_on_none : (es : List (ℕ × Option StoredRow)) (rows : Rows) (q : ℕ) → find nat_cmp q es ≡ None → get (laid_on es rows) q ≡ get rows q
get_laid_on_none [] rows q e = refl
get_laid_on_none (x ∷ es) rows q e =
    elim (cases_eq q x.0) [
      | inl same ↦ let at : eq_by_cmp nat_cmp q x.0 ≡ true = ap (eq_by_cmp nat_cmp q) (sym same) ∙ tied_same q in
          absurd (some_none x.1 (find nat_cmp q es) _ at e)
      | inr ne ↦ put_row_other (laid_on es rows) x.0 x.1 q ne ∙ get_laid_on_none es rows q (sym (ap (λ b. cond b (Some x.1) (find nat_cmp q es)) (tied_other q x.0 ne)) ∙ e)
    ]

-- the changes cover the rows
pub get_laid_on : (es : List (ℕ × Option StoredRow)) (rows : Rows) (q : ℕ) → get (laid_on es rows) q ≡ over (find nat_cmp q es) (get rows q)
get_laid_on [] rows q = refl
get_laid_on (x ∷ es) rows q =
    elim (cases_eq q x.0) [
      | inl same ↦
          let at : eq_by_cmp nat_cmp q x.0 ≡ true = ap (eq_by_cmp nat_cmp q) (sym same) ∙ tied_same q in
          ap (get (put_row (laid_on es rows) x.0 x.1)) same ∙ put_row_same (laid_on es rows) x.0 x.1
          ∙ sym (ap (λ b. over (cond b (Some x.1) (find nat_cmp q es)) (get rows q)) at)
      | inr ne ↦
          put_row_other (laid_on es rows) x.0 x.1 q ne ∙ get_laid_on es rows q
          ∙ sym (ap (λ b. over (cond b (Some x.1) (find nat_cmp q es)) (get rows q)) (tied_other q x.0 ne))
    ]
