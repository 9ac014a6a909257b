-- That Refused depends on the control data alone.
use Rattle.std.proofs.Common.{◌≡◌, ℕ, ◌<◌, ◌≤◌, true, length, Some, sym, ap, ◌∙◌, subst}
use Rattle.std.specs.Prelude.{◌↔◌, IsTrue}
use Rattle.std.specs.FinMap.{get}
use Rattle.std.proofs.lemmas.List.{length-map}
use Rattle.abl_values.specs.Schema.{SchemaData}
use Rattle.database_protocol.specs.declared.operation.Op.{Op}
use Rattle.database_protocol.specs.declared.operation.Op.TheVariants.{Leave, Back, Insert, Put, Delete}
use Rattle.database_meaning.specs.declared.state.BlockedRequest.{BlockedRequest}
use Rattle.database_meaning.specs.Setting.{Setting}
use Rattle.database_meaning.specs.State.{State, Held, depth_of}
use Rattle.database_meaning.specs.Answers.{AsksAgain, IsWellFormed}
use Rattle.record_locks.specs.Table.{client_of}
use Rattle.row_store.specs.Rows.{RowState}
use Rattle.db_core.specs.declared.control.Control.{Control}
use Rattle.db_core.specs.Represents.{Represents, marks_at, blocked_at}
use Rattle.db_core.specs.Known.{IsAllowed, IsWaiting, known, no_overlay, setting_at}

pub known_depth : (control : Control) (c : ℕ) → depth_of (known control) c ≡ length (marks_at control c)
known_depth control c = length-map (marks_at control c) no_overlay

-- ---- what an operation names

well_formed : (f : Setting) (s t : State) (c : ℕ) → depth_of s c ≡ depth_of t c → (s.client c).held ≡ (t.client c).held → (op : Op) → IsWellFormed f s c op → IsWellFormed f t c op
well_formed f s t c depth held (Leave keep) h = subst (λ (n : ℕ). 0 < n) depth h
well_formed f s t c depth held (Back d) h = (h.0, subst (λ (n : ℕ). d ≤ n) depth h.1)
well_formed f s t c depth held (Insert table values) h = (h.0, h.1, subst (λ (n : ℕ). 0 < n) depth h.2)
well_formed f s t c depth held (Put table row values) h = (h.0, h.1, subst (λ (n : ℕ). 0 < n) depth h.2, subst (λ (m : Held). get m row.0 ≡ Some true) held h.3)
well_formed f s t c depth held (Delete table row) h = (h.0, subst (λ (n : ℕ). 0 < n) depth h.1, subst (λ (m : Held). get m row.0 ≡ Some true) held h.2)
well_formed f s t c depth held _ h = h

again : (s t : State) (c : ℕ) → (s.client c).blocked ≡ (t.client c).blocked → s.frees ≡ t.frees → (op : Op) → AsksAgain s c op → AsksAgain t c op
again s t c blocked frees op h = sym blocked ∙ (h ∙ ap (λ (n : ℕ). let w : BlockedRequest = record { op = op; frees = n } in Some w) frees)

module _ (f : Setting) (rows : RowState) (control : Control) (s : State) (represents : Represents f rows control s) (observable : IsTrue rows.observable) (schema : SchemaData) (is : f.schema ≡ schema) where
  same_setting : setting_at schema control ≡ f
  same_setting =
      ap (λ (x : SchemaData). let g : Setting = record { schema = x; clients = length control.sessions.items } in g) (sym is)
      ∙ ap (λ (n : ℕ). let g : Setting = record { schema = f.schema; clients = n } in g) (sym represents.clients)

  depth : (c : ℕ) → depth_of (known control) c ≡ depth_of s c
  depth c = known_depth control c ∙ sym (represents.client c).depth

  held : (c : ℕ) → (client_of control.locks c).held ≡ (s.client c).held
  held c = (represents.client c).held

  blocked : (c : ℕ) → blocked_at control c ≡ (s.client c).blocked
  blocked c = (represents.client c).blocked observable

  frees : control.frees ≡ s.frees
  frees = represents.frees observable

  pub allowed_to : (c : ℕ) (op : Op) → IsAllowed (setting_at schema control) (known control) c op → IsAllowed f s c op
  allowed_to c op allowed =
      let h : IsAllowed f (known control) c op = subst (λ (g : Setting). IsAllowed g (known control) c op) same_setting allowed in
      (h.0, well_formed f (known control) s c (depth c) (held c) op h.1, λ a. h.2 (again s (known control) c (sym (blocked c)) (sym frees) op a))

  pub allowed_from : (c : ℕ) (op : Op) → IsAllowed f s c op → IsAllowed (setting_at schema control) (known control) c op
  allowed_from c op h =
      let now : IsAllowed f (known control) c op = (h.0, well_formed f s (known control) c (sym (depth c)) (sym (held c)) op h.1, λ a. h.2 (again (known control) s c (blocked c) frees op a)) in
      subst (λ (g : Setting). IsAllowed g (known control) c op) (sym same_setting) now

  pub waiting_same : (c : ℕ) → IsWaiting (known control) c ↔ IsWaiting s c
  waiting_same c = ((λ h. (h.0, sym (blocked c) ∙ h.1, h.2 ∙ frees)), λ h. (h.0, blocked c ∙ h.1, h.2 ∙ sym frees))
