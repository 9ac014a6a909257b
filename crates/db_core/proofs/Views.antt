-- The rows of the store are the view of the state.
use Rattle.std.proofs.Common.{◌≡◌, ◌⊎◌, ℕ, zero, suc, ◌<◌, ◌≤◌, Bool, true, false, cond, [], length, Option, Some, None, refl, sym, ap, ◌∙◌, subst, inl, inr, arith}
use Rattle.std.specs.Prelude.{IsTrue, IsFalse}
use Rattle.std.specs.FinMap.{get}
use Rattle.std.proofs.lemmas.Bool.{cases_lt, cases_eq}
use Rattle.std.proofs.lemmas.Option.{slice_get_past}
use Rattle.database_meaning.specs.declared.state.StoredRow.{StoredRow}
use Rattle.database_meaning.specs.Setting.{Setting}
use Rattle.database_meaning.specs.State.{State, Client, Rows, over, laid, view}
use Rattle.row_store.specs.Changes.{has_change, change_at, IsOverlay}
use Rattle.row_store.specs.Rows.{RowState, RowTransaction, IsObservable, IsConsistent, no_transaction}
use Rattle.db_core.specs.declared.control.Control.{Control}
use Rattle.db_core.specs.Represents.{Represents, IsSound, marks_at, marks_in, is_open}

-- a client beyond the last has changed nothing
pub past_idle : (rows : RowState) (control : Control) → IsSound rows control → IsConsistent rows → (c : ℕ) → length control.sessions.items ≤ c → rows.transaction c ≡ no_transaction
past_idle rows control sound settled c past =
    let marks : marks_at control c ≡ [] = ap marks_in (slice_get_past control.sessions.items c past) in
    settled.idle c ((sound.client c).begun ∙ ap is_open marks)

module _ (rows : RowState) (client : ℕ → Client) (committed : Rows) (k : ℕ) (overlays : (c : ℕ) → IsOverlay (client c).overlay (change_at rows.rows (rows.transaction c).changes)) where
  abbrev Changed : ℕ → Type 0
  Changed n = (c : ℕ) × (c < n) × IsTrue (has_change (rows.transaction c).changes k) × (laid n client committed k ≡ rows.rows k)

  abbrev Unchanged : ℕ → Type 0
  Unchanged n = ((c : ℕ) → c < n → has_change (rows.transaction c).changes k ≡ false) × (laid n client committed k ≡ get committed k)

  one_more : (n : ℕ) (b : Bool) → has_change (rows.transaction n).changes k ≡ b → Changed n ⊎ Unchanged n → Changed (suc n) ⊎ Unchanged (suc n)
  one_more n true is before =
      let there : get (client n).overlay k ≡ Some (rows.rows k) = overlays n k ∙ ap (λ (b : Bool). cond b (Some (rows.rows k)) None) is in
      inl (n, omega arith, is, ap (λ (o : Option (Option StoredRow)). over o (laid n client committed k)) there)
  one_more n false is before =
      let there : get (client n).overlay k ≡ None = overlays n k ∙ ap (λ (b : Bool). cond b (Some (rows.rows k)) None) is in
      let below : laid (suc n) client committed k ≡ laid n client committed k = ap (λ (o : Option (Option StoredRow)). over o (laid n client committed k)) there in
      elim before [
        | inl h ↦ inl (h.0, (let lt : h.0 < n = h.1 in omega arith), h.2, below ∙ h.3)
        | inr h ↦ inr (
          (λ c lt. elim (cases_eq c n) [
            | inl same ↦ subst (λ (d : ℕ). has_change (rows.transaction d).changes k ≡ false) (sym same) is
            | inr apart ↦ h.0 c (omega arith)
          ]),
          below ∙ h.1,
        )
      ]

  pub laid_cases : (n : ℕ) → Changed n ⊎ Unchanged n
  laid_cases zero = inr ((λ c lt. absurd (omega arith)), refl)
  laid_cases (suc n) = one_more n (has_change (rows.transaction n).changes k) refl (laid_cases n)

pub rows_viewed : (f : Setting) (rows : RowState) (control : Control) (s : State) → Represents f rows control s → IsSound rows control → IsConsistent rows → IsObservable rows → (k : ℕ) → rows.rows k ≡ view f s k
rows_viewed f rows control s represents sound settled seen k =
    elim (laid_cases rows s.client s.committed k (λ c. (represents.client c).overlay seen) f.clients) [
      | inl h ↦ sym h.3
      | inr h ↦
          let none : (c : ℕ) → IsFalse (has_change (rows.transaction c).changes k) = λ c.
          elim (cases_lt c f.clients) [
            | inl lt ↦ h.0 c lt
            | inr past ↦
                let le : length control.sessions.items ≤ c = subst (λ (n : ℕ). n ≤ c) represents.clients past in
                ap (λ (t : RowTransaction). has_change t.changes k) (past_idle rows control sound settled c le)
          ] in
          settled.base seen k none ∙ (sym (represents.committed seen.0 k) ∙ sym h.1)
    ]
