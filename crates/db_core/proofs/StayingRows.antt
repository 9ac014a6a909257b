-- The rows on which locks stay at a commit.
use Rattle.std.proofs.Common.{◌≡◌, ℕ, ◌==◌, ◌&&◌, ◌||◌, Bool, true, false, eq-eqb, List, [], ◌∷◌, ◌++◌, Option, Some, None, is_some, refl, sym, ap, ◌∙◌, subst, inl, inr}
use Rattle.std.proofs.lemmas.Bool.{cases_eq, ne_eqb}
use Rattle.abl_base.specs.declared.row.RowId.{RowId}
use Rattle.database_meaning.specs.declared.state.StoredRow.{StoredRow}
use Rattle.database_meaning.specs.Setting.{Setting}
use Rattle.database_meaning.specs.State.{State}
use Rattle.database_meaning.specs.Steps.{is_in, is_outermost}
use Rattle.record_locks.specs.Settled.{has_row}
use Rattle.row_store.specs.Changes.{RowsById, has_change}
use Rattle.row_store.specs.Rows.{RowState, IsObservable, IsConsistent}
use Rattle.row_store.specs.Questions.{table_at, table_in}
use Rattle.db_core.specs.declared.control.Control.{Control}
use Rattle.db_core.specs.Represents.{Represents}
use Rattle.db_core.specs.Moves.{AreStaying, ListsPresent}
use Rattle.db_core.proofs.Commits.{held_rows_stay}

or_none : (b : Bool) → (b || false) ≡ b
or_none true = refl
or_none false = refl

or_assoc : (a b c : Bool) → ((a || b) || c) ≡ (a || (b || c))
or_assoc true b c = refl
or_assoc false b c = refl

has_row_more : (xs : List RowId) (x : RowId) (k : ℕ) → has_row (xs ++ x ∷ []) k ≡ (has_row xs k || (x.0 == k))
has_row_more [] x k = or_none (x.0 == k)
has_row_more (y ∷ xs) x k = ap (λ (b : Bool). (y.0 == k) || b) (has_row_more xs x k) ∙ sym (or_assoc (y.0 == k) (has_row xs k) (x.0 == k))

is_in_more : (xs : List RowId) (x : RowId) (k : ℕ) → is_in k (xs ++ x ∷ []) ≡ (is_in k xs || (k == x.0))
is_in_more [] x k = or_none (k == x.0)
is_in_more (y ∷ xs) x k = ap (λ (b : Bool). (k == y.0) || b) (is_in_more xs x k) ∙ sym (or_assoc (k == y.0) (is_in k xs) (k == x.0))

-- a further row that is there
here_both : (a p : Bool) → p ≡ true → ((a && p) || true) ≡ ((a || true) && p)
here_both true true e = refl
here_both false true e = refl
here_both a false e = cc

apart_both : (a p : Bool) → ((a && p) || false) ≡ ((a || false) && p)
apart_both true p = or_none p
apart_both false p = refl

pub present_more : (rows : RowsById) (keep list : List RowId) (x : RowId) → is_some (rows x.0) ≡ true → ListsPresent rows keep list → ListsPresent rows (keep ++ x ∷ []) (list ++ x ∷ [])
present_more rows keep list x there lists k = elim (cases_eq k x.0) [
  | inl is ↦
      has_row_more list x k
      ∙ (ap (λ (b : Bool). b || (x.0 == k)) (lists k)
      ∙ (ap (λ (b : Bool). (is_in k keep && is_some (rows k)) || b) (eq-eqb x.0 k (sym is))
      ∙ (here_both (is_in k keep) (is_some (rows k)) (ap (λ (n : ℕ). is_some (rows n)) is ∙ there)
      ∙ sym (ap (λ (b : Bool). b && is_some (rows k)) (is_in_more keep x k ∙ ap (λ (b : Bool). is_in k keep || b) (eq-eqb k x.0 is))))))
  | inr ne ↦
      has_row_more list x k
      ∙ (ap (λ (b : Bool). b || (x.0 == k)) (lists k)
      ∙ (ap (λ (b : Bool). (is_in k keep && is_some (rows k)) || b) (ne_eqb x.0 k (λ e. ne (sym e)))
      ∙ (apart_both (is_in k keep) (is_some (rows k))
      ∙ sym (ap (λ (b : Bool). b && is_some (rows k)) (is_in_more keep x k ∙ ap (λ (b : Bool). is_in k keep || b) (ne_eqb k x.0 ne))))))
]

-- a further row that is not there
none_both : (a b p : Bool) → p ≡ false → (a && p) ≡ ((a || b) && p)
none_both true b p e = refl
none_both false true p e = sym e
none_both false false p e = refl

pub present_skip : (rows : RowsById) (keep list : List RowId) (x : RowId) → is_some (rows x.0) ≡ false → ListsPresent rows keep list → ListsPresent rows (keep ++ x ∷ []) list
present_skip rows keep list x none lists k = elim (cases_eq k x.0) [
  | inl is ↦
      lists k
      ∙ (none_both (is_in k keep) (k == x.0) (is_some (rows k)) (ap (λ (n : ℕ). is_some (rows n)) is ∙ none)
      ∙ sym (ap (λ (b : Bool). b && is_some (rows k)) (is_in_more keep x k)))
  | inr ne ↦
      lists k
      ∙ sym (ap (λ (b : Bool). b && is_some (rows k)) (is_in_more keep x k ∙ (ap (λ (b : Bool). is_in k keep || b) (ne_eqb k x.0 ne) ∙ or_none (is_in k keep))))
]

pub table_some : (o : Option StoredRow) (found : Option ℕ) (t : ℕ) → found ≡ table_in o → found ≡ Some t → is_some o ≡ true
table_some None found t e is = cc
table_some (Some r) found t e is = refl

pub table_none : (o : Option StoredRow) (found : Option ℕ) → found ≡ table_in o → found ≡ None → is_some o ≡ false
table_none None found e is = refl
table_none (Some r) found e is = cc

-- the rows that are there stay locked
pub are_staying : (f : Setting) (rows : RowState) (control : Control) (s : State) (c : ℕ) (keep staying : List RowId) → IsConsistent rows → Represents f rows control s → is_outermost s c ≡ true → IsObservable rows
    → ListsPresent rows.rows keep staying → AreStaying s c keep staying
are_staying f rows control s c keep staying settled represents outermost seen lists k b held =
    lists k ∙ ap (λ (o : Option StoredRow). is_in k keep && is_some o) (sym (held_rows_stay f rows control s c keep settled represents outermost seen k b held (has_change (rows.transaction c).changes k) refl))

-- the answer of the store, where the state is as before
pub seen_some : (rows now : RowState) (k : ℕ) (found : Option ℕ) (t : ℕ) → now ≡ rows → (IsObservable now → found ≡ table_at now.rows k) → found ≡ Some t → IsObservable rows → is_some (rows.rows k) ≡ true
seen_some rows now k found t same says is seen = table_some (rows.rows k) found t (subst (λ (r : RowState). IsObservable r → found ≡ table_at r.rows k) same says seen) is

pub seen_none : (rows now : RowState) (k : ℕ) (found : Option ℕ) → now ≡ rows → (IsObservable now → found ≡ table_at now.rows k) → found ≡ None → IsObservable rows → is_some (rows.rows k) ≡ false
seen_none rows now k found same says is seen = table_none (rows.rows k) found (subst (λ (r : RowState). IsObservable r → found ≡ table_at r.rows k) same says seen) is
