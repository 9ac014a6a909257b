-- That the control data stay sound where one client changes.
use Rattle.std.proofs.Common.{◌≡◌, ◌≢◌, ℕ, zero, suc, ◌+◌, ◌≤◌, true, List, [], ◌∷◌, ◌++◌, length, take, Option, None, refl, sym, ◌∙◌, subst, inl, inr, arith}
use Rattle.std.proofs.lemmas.Bool.{cases_eq}
use Rattle.std.proofs.lemmas.List.{length_push}
use Rattle.database_meaning.specs.declared.state.StoredRow.{StoredRow}
use Rattle.database_meaning.specs.declared.state.BlockedRequest.{BlockedRequest}
use Rattle.row_store.specs.declared.store.RowChange.{RowChange}
use Rattle.row_store.specs.Changes.{AreMarks}
use Rattle.row_store.specs.Rows.{RowState, RowTransaction, ChangesRow}
use Rattle.db_core.specs.declared.control.Control.{Control}
use Rattle.record_locks.specs.declared.locks.Client.{Client as LockClient}
use Rattle.db_core.specs.Moves.{OnlyClient}
use Rattle.db_core.specs.Represents.{IsSound, IsOpen, marks_at, blocked_at, is_open}

-- of the other clients nothing changes
pub record OthersStay (rows new : RowState) (control now : Control) (c : ℕ) : Type 0 where
  pub schema : new.schema ≡ rows.schema
  pub transaction : (d : ℕ) → d ≢ c → new.transaction d ≡ rows.transaction d
  pub marks : (d : ℕ) → d ≢ c → marks_at now d ≡ marks_at control d
  pub blocked : (d : ℕ) → d ≢ c → blocked_at now d ≡ blocked_at control d

pub sound_more : (rows new : RowState) (control now : Control) (c : ℕ) → OthersStay rows new control now c
    → IsOpen new.schema (marks_at now c) (blocked_at now c) (new.transaction c) → IsSound rows control → IsSound new now
sound_more rows new control now c stay own sound = record {
  client = λ d. elim (cases_eq d c) [
    | inl is ↦ subst (λ (e : ℕ). IsOpen new.schema (marks_at now e) (blocked_at now e) (new.transaction e)) (sym is) own
    | inr ne ↦
        subst (λ x. IsOpen x (marks_at now d) (blocked_at now d) (new.transaction d)) (sym stay.schema)
        (subst (λ (t : RowTransaction). IsOpen rows.schema (marks_at now d) (blocked_at now d) t) (sym (stay.transaction d ne))
        (subst (λ w. IsOpen rows.schema (marks_at now d) w (rows.transaction d)) (sym (stay.blocked d ne))
        (subst (λ (m : List ℕ). IsOpen rows.schema m (blocked_at control d) (rows.transaction d)) (sym (stay.marks d ne)) (sound.client d))))
  ];
}

-- a client with these levels, request and transaction
pub open_as : (rows new : RowState) (now : Control) (c : ℕ) (marks : List ℕ) (request : Option BlockedRequest) (t : RowTransaction)
    → new.schema ≡ rows.schema → marks_at now c ≡ marks → blocked_at now c ≡ request → new.transaction c ≡ t
    → IsOpen rows.schema marks request t → IsOpen new.schema (marks_at now c) (blocked_at now c) (new.transaction c)
open_as rows new now c marks request t schema marks_are request_is t_is is_open_so =
    subst (λ x. IsOpen x (marks_at now c) (blocked_at now c) (new.transaction c)) (sym schema)
    (subst (λ (u : RowTransaction). IsOpen rows.schema (marks_at now c) (blocked_at now c) u) (sym t_is)
    (subst (λ w. IsOpen rows.schema (marks_at now c) w t) (sym request_is)
    (subst (λ (m : List ℕ). IsOpen rows.schema m request t) (sym marks_are) is_open_so)))

-- ---- marks

pub marks_wider : (low high more : ℕ) (marks : List ℕ) → high ≤ more → AreMarks low marks high → AreMarks low marks more
marks_wider low high more [] le m = let here : low ≤ high = m in omega arith
marks_wider low high more (mark ∷ marks) le m = (m.0, marks_wider mark high more marks le m.1)

pub marks_first : (low high : ℕ) (marks : List ℕ) (n : ℕ) → AreMarks low marks high → AreMarks low (take n marks) high
marks_first low high marks zero m = low_high low high marks m
  where
    low_high : (low high : ℕ) (marks : List ℕ) → AreMarks low marks high → low ≤ high
    low_high low high [] m = m
    low_high low high (mark ∷ marks) m = let rest = low_high mark high marks m.1 in let here : low ≤ mark = m.0 in omega arith
marks_first low high [] (suc n) m = m
marks_first low high (mark ∷ marks) (suc n) m = (m.0, marks_first mark high marks n m.1)

pub marks_more : (low high : ℕ) (marks : List ℕ) → AreMarks low marks high → AreMarks low (marks ++ high ∷ []) high
marks_more low high [] m = (m, omega arith)
marks_more low high (mark ∷ marks) m = (m.0, marks_more mark high marks m.1)

pub open_more : (marks : List ℕ) (mark : ℕ) → is_open (marks ++ mark ∷ []) ≡ true
open_more [] mark = refl
open_more (x ∷ marks) mark = refl

-- ---- calls

longer : (changes : List RowChange) (e : RowChange) (marks : List ℕ) → AreMarks 0 marks (length changes) → AreMarks 0 marks (length (changes ++ e ∷ []))
longer changes e marks m = let more : length (changes ++ e ∷ []) ≡ length changes + 1 = length_push changes e in marks_wider 0 (length changes) (length (changes ++ e ∷ [])) marks (omega arith) m

-- a change of a row
pub change_sound : (rows new : RowState) (control now : Control) (c row : ℕ) (value : Option StoredRow) → (rows.transaction c).begun ≡ true → ChangesRow rows new c row value
    → ((d : ℕ) → marks_at now d ≡ marks_at control d) → ((d : ℕ) → d ≢ c → blocked_at now d ≡ blocked_at control d) → blocked_at now c ≡ None → IsSound rows control → IsSound new now
change_sound rows new control now c row value begun changes marks blocked none sound =
    sound_more rows new control now c
    (record { schema = changes.base.schema; transaction = changes.transaction.others; marks = λ d ne. marks d; blocked = blocked })
    (open_as rows new now c (marks_at control c) None _ changes.base.schema (marks c) none changes.transaction.own
    (record {
      begun = sym begun ∙ (sound.client c).begun;
      marks = longer (rows.transaction c).changes (record { row = row; old = changes.before }) (marks_at control c) (sound.client c).marks;
      fits = tt;
    }))
    sound

-- the count of frees is no part of it
pub sound_counted : (rows : RowState) (control : Control) (n : ℕ) → IsSound rows control → IsSound rows (record control { frees = n })
sound_counted rows control n sound = record { client = λ c. sound.client c }

-- the marks stay where the client's own do
pub marks_stay : (control now : Control) (c : ℕ) (lock : LockClient) → OnlyClient control c (marks_at control c) lock now → (d : ℕ) → marks_at now d ≡ marks_at control d
marks_stay control now c lock only d = elim (cases_eq d c) [
  | inl is ↦ subst (λ (e : ℕ). marks_at now e ≡ marks_at control e) (sym is) only.own_marks
  | inr ne ↦ only.marks d ne
]
