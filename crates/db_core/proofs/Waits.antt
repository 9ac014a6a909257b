-- Lists of waits by keys, one client more at a time.
use Rattle.std.proofs.Common.{◌≡◌, ◌≢◌, ◌⊎◌, ℕ, zero, suc, ◌+◌, ◌<◌, List, [], ◌∷◌, ◌++◌, Option, Some, None, MatchOption, refl, sym, ◌∙◌, subst, inl, inr, arith}
use Rattle.std.specs.List.{Any}
use Rattle.std.proofs.lemmas.Bool.{cases_eq}
use Rattle.database_meaning.specs.Waiting.{ListsAll}
use Rattle.record_locks.specs.declared.locks.KeyWait.{KeyWait}
use Rattle.row_store.specs.Rows.{RowState, IsObservable}
use Rattle.db_core.specs.declared.control.Control.{Control}
use Rattle.db_core.specs.Represents.{blocked_at}
use Rattle.db_core.specs.Waits.{WaitsByKey, ListsWaits}

-- ---- some element of a list with one more

any_nil : {X : Type 0} (P : X → Type 0) → ¬ Any P []
any_nil P (k, x, within, is, p) = absurd (omega arith)

any_head : {X : Type 0} (P : X → Type 0) (x : X) (xs : List X) → P x → Any P (x ∷ xs)
any_head P x xs p = (0, x, omega arith, refl, p)

any_tail : {X : Type 0} (P : X → Type 0) (x : X) (xs : List X) → Any P xs → Any P (x ∷ xs)
any_tail P x xs (k, y, within, is, p) = (suc k, y, omega arith, is, p)

any_cases : {X : Type 0} (P : X → Type 0) (x : X) (xs : List X) → Any P (x ∷ xs) → P x ⊎ Any P xs
any_cases P x xs (zero, y, within, is, p) = inl (subst P (sym is) p)
any_cases P x xs (suc k, y, within, is, p) = inr (k, y, omega arith, is, p)

any_left : {X : Type 0} (P : X → Type 0) (xs : List X) (y : X) → Any P xs → Any P (xs ++ y ∷ [])
any_left P [] y h = absurd (any_nil P h)
any_left P (x ∷ xs) y h = elim (any_cases P x xs h) [ inl p ↦ any_head P x (xs ++ y ∷ []) p | inr q ↦ any_tail P x (xs ++ y ∷ []) (any_left P xs y q) ]

any_last : {X : Type 0} (P : X → Type 0) (xs : List X) (y : X) → P y → Any P (xs ++ y ∷ [])
any_last P [] y p = any_head P y [] p
any_last P (x ∷ xs) y p = any_tail P x (xs ++ y ∷ []) (any_last P xs y p)

any_push : {X : Type 0} (P : X → Type 0) (xs : List X) (y : X) → Any P (xs ++ y ∷ []) → Any P xs ⊎ P y
any_push P [] y h = elim (any_cases P y [] h) [ inl p ↦ inr p | inr q ↦ inl q ]
any_push P (x ∷ xs) y h = elim (any_cases P x (xs ++ y ∷ []) h) [
  | inl p ↦ inl (any_head P x xs p)
  | inr q ↦ elim (any_push P xs y q) [ inl r ↦ inl (any_tail P x xs r) | inr p ↦ inr p ]
]

-- ---- the list of waits

module _ (rows : RowState) (control : Control) (client : ℕ) where
  pub none_listed : ListsWaits rows control client 0 []
  none_listed = record {
    sound = λ a b h. absurd (any_nil _ h);
    other = λ a b h. absurd (any_nil _ h);
    all = λ a b lt ne h. absurd (omega arith);
  }

  pub skipped : (n : ℕ) (keyed : List KeyWait) → ListsWaits rows control client n keyed → (n ≡ client) ⊎ ((b : ℕ) → ¬ WaitsByKey rows n (blocked_at control n) b) → ListsWaits rows control client (n + 1) keyed
  skipped n keyed lists why = record {
    sound = lists.sound;
    other = λ a b h. let before = lists.other a b h in (before.0, (let lt : a < n = before.1 in omega arith));
    all = λ a b lt ne h. elim (cases_eq a n) [
      | inl same ↦ elim why [
        | inl is ↦ absurd (ne (same ∙ is))
        | inr not ↦ absurd (not b (subst (λ (e : ℕ). WaitsByKey rows e (blocked_at control e) b) same h))
      ]
      | inr apart ↦ lists.all a b (omega arith) ne h
    ];
  }

  pub listed : (n : ℕ) (keyed : List KeyWait) (blocked : KeyWait) → ListsWaits rows control client n keyed → n ≢ client → blocked.client ≡ n → ListsAll blocked.holders (WaitsByKey rows n (blocked_at control n))
      → ListsWaits rows control client (n + 1) (keyed ++ blocked ∷ [])
  listed n keyed blocked lists ne is holders = record {
    sound = λ a b h. elim (any_push _ keyed blocked h) [
      | inl before ↦ lists.sound a b before
      | inr last ↦ let same : n ≡ a = sym is ∙ last.0 in subst (λ (e : ℕ). WaitsByKey rows e (blocked_at control e) b) same ((holders.1 b).0 last.1)
    ];
    other = λ a b h. elim (any_push _ keyed blocked h) [
      | inl before ↦ let was = lists.other a b before in (was.0, (let lt : a < n = was.1 in omega arith))
      | inr last ↦ let same : n ≡ a = sym is ∙ last.0 in ((λ e. ne (same ∙ e)), omega arith)
    ];
    all = λ a b lt apart h. elim (cases_eq a n) [
      | inl same ↦ any_last _ keyed blocked (is ∙ sym same, (holders.1 b).1 (subst (λ (e : ℕ). WaitsByKey rows e (blocked_at control e) b) same h))
      | inr before ↦ any_left _ keyed blocked (lists.all a b (omega arith) apart h)
    ];
  }

-- ---- what the store answers about one client's wait, after calls that changed nothing

none_found : (found : Option (List ℕ)) (R : Type 0) (P : List ℕ → Type 0) → found ≡ None → MatchOption found R P → R
none_found None R P e h = h
none_found (Some x) R P e h = cc

some_found : (found : Option (List ℕ)) (x : List ℕ) (R : Type 0) (P : List ℕ → Type 0) → found ≡ Some x → MatchOption found R P → P x
some_found None x R P e h = cc
some_found (Some y) x R P e h = let same : y ≡ x = cc in subst P same h

pub seen_none : (rows now : RowState) (control : Control) (a : ℕ) (found : Option (List ℕ)) → now ≡ rows → found ≡ None
    → (IsObservable now → MatchOption found ((b : ℕ) → ¬ WaitsByKey now a (blocked_at control a) b) (λ holders. ListsAll holders (WaitsByKey now a (blocked_at control a))))
    → IsObservable rows → (b : ℕ) → ¬ WaitsByKey rows a (blocked_at control a) b
seen_none rows now control a found same e observable =
    subst (λ (r : RowState). IsObservable r → (b : ℕ) → ¬ WaitsByKey r a (blocked_at control a) b) same (λ seen. none_found found _ _ e (observable seen))

pub seen_some : (rows now : RowState) (control : Control) (a : ℕ) (found : Option (List ℕ)) (holders : List ℕ) → now ≡ rows → found ≡ Some holders
    → (IsObservable now → MatchOption found ((b : ℕ) → ¬ WaitsByKey now a (blocked_at control a) b) (λ holders. ListsAll holders (WaitsByKey now a (blocked_at control a))))
    → IsObservable rows → ListsAll holders (WaitsByKey rows a (blocked_at control a))
seen_some rows now control a found holders same e observable =
    subst (λ (r : RowState). IsObservable r → ListsAll holders (WaitsByKey r a (blocked_at control a))) same (λ seen. some_found found holders _ _ e (observable seen))
