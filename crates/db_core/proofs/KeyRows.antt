-- Whether reserved keys of others conflict with an Insert or Put, and its answer then.
use Rattle.std.proofs.Common.{◌≡◌, ◌≢◌, ◌<◌, ℕ, List, [], ◌∷◌, length, refl, inl, inr, arith}
use Rattle.std.specs.List.{Contains}
use Rattle.database_protocol.specs.declared.operation.Op.{Op}
use Rattle.database_protocol.specs.declared.operation.Op.TheVariants.{Insert, Put}
use Rattle.database_protocol.specs.declared.answer.Answer.TheVariants.{Blocked, Deadlock}
use Rattle.database_meaning.specs.Setting.{Setting}
use Rattle.database_meaning.specs.State.{State}
use Rattle.database_meaning.specs.Waiting.{Conflicts, HasConflict, IsHolders, ListsAll, Chain, IsCycleFrom}
use Rattle.record_locks.specs.declared.locks.KeyWait.{KeyWait}
use Rattle.record_locks.specs.Table.{WaitsAgainst}
use Rattle.row_store.specs.Rows.{RowState, IsObservable, IsConsistent}
use Rattle.db_core.specs.declared.control.Control.{Control}
use Rattle.db_core.specs.Represents.{Represents, IsSound}
use Rattle.db_core.specs.Waits.{MeetsReserved, ListsWaits, IsKeyed, AnswersConflict}
use Rattle.db_core.proofs.LockRows.{op_from, op_to, never_closes, closes_so}

module _ (f : Setting) (rows : RowState) (control : Control) (s : State) (represents : Represents f rows control s) (sound : IsSound rows control) (settled : IsConsistent rows) (seen : IsObservable rows) (c : ℕ) (op : Op) (keyed_op : IsKeyed op)
    (against : List ℕ) (lists : ListsAll against (MeetsReserved rows c op)) where
  conflict_to : (o : Op) → IsKeyed o → (d : ℕ) → Conflicts f s c o d → MeetsReserved rows c o d
  conflict_to (Insert table values) is d h = elim (op_to f rows control s represents sound settled seen c d (Insert table values) h) [ inl l ↦ absurd l | inr k ↦ k ]
  conflict_to (Put table row values) is d h = elim (op_to f rows control s represents sound settled seen c d (Put table row values) h) [ inl l ↦ absurd l | inr k ↦ k ]
  conflict_to _ is d h = absurd is

  pub key_holders : IsHolders f s c op against
  key_holders = (lists.0, (λ d. ((λ has. op_from f rows control s represents sound settled seen c d op (inr ((lists.1 d).0 has))), λ conflict. (lists.1 d).1 (conflict_to op keyed_op d conflict))))

  head_in : (xs : List ℕ) → length xs ≢ 0 → (d : ℕ) × Contains xs d
  head_in [] ne = absurd (ne refl)
  head_in (x ∷ xs) ne = (x, (0, omega arith, refl))

  some_conflict : length against ≢ 0 → HasConflict f s c op
  some_conflict ne = let first = head_in against ne in (first.0, (key_holders.1 first.0).0 first.1)

  pub no_conflict : length against ≡ 0 → ¬ HasConflict f s c op
  no_conflict none p = let has = (key_holders.1 p.0).1 p.1 in absurd (omega (arith, has.1))

  module _ (some : length against ≢ 0) (keyed : List KeyWait) (waiting : ListsWaits rows control c (length control.sessions.items) keyed) where
    pub key_blocked : ((others : List ℕ) → ¬ Chain (WaitsAgainst control.locks keyed c against) c others c) → AnswersConflict f s c op (Blocked against)
    key_blocked none = (some_conflict some, inl (never_closes f rows control s represents sound settled seen c keyed waiting op against key_holders none, (against, key_holders, refl)))

    pub key_deadlock : (cycle : List ℕ) → IsCycleFrom (WaitsAgainst control.locks keyed c against) c cycle → AnswersConflict f s c op (Deadlock cycle)
    key_deadlock cycle is =
        (some_conflict some, inr (cycle, closes_so f rows control s represents sound settled seen c keyed waiting op against key_holders cycle is, refl))

-- where the store lists no holders there is no conflict
pub none_conflict : (f : Setting) (rows : RowState) (control : Control) (s : State) → Represents f rows control s → IsSound rows control → IsConsistent rows → IsObservable rows → (c : ℕ) (op : Op) → IsKeyed op
    → ((b : ℕ) → ¬ MeetsReserved rows c op b) → ¬ HasConflict f s c op
none_conflict f rows control s represents sound settled seen c op brings none p =
    let lists : ListsAll [] (MeetsReserved rows c op) = (tt, λ d. ((λ has. let within : has.0 < 0 = has.1 in absurd (omega arith)), λ h. absurd (none d h))) in
    no_conflict f rows control s represents sound settled seen c op brings [] lists refl p
