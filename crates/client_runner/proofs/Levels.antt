-- The open levels of a client, by its own events.
use Rattle.std.proofs.Common.{◌≡◌, ◌≢◌, inl, inr, ℕ, ◌-◌, ◌==◌, Bool, true, false, List, [], ◌∷◌, length, cond, refl, sym, ap, ◌∙◌, arith, length-append, eq-eqb}
use Rattle.std.proofs.lemmas.Bool.Decides.{eqb_tells}
use Rattle.std.proofs.lemmas.List.{length-take, length-take-le}
use Rattle.abl_base.specs.declared.row.RowId.{RowId}
use Rattle.database_protocol.specs.declared.event.Event.{Event}
use Rattle.database_protocol.specs.declared.operation.Op.{Op}
use Rattle.database_protocol.specs.declared.operation.Op.TheVariants as op
use Rattle.database_protocol.specs.declared.answer.Answer.{Answer}
use Rattle.database_meaning.specs.Setting.{Setting}
use Rattle.database_meaning.specs.State.{State, depth_of}
use Rattle.database_meaning.specs.Steps.{after, is_success, client_after, own_after, own_after_commit, own_after_leave, own_after_drop, blocked_after, row_of_answer}
use Rattle.database_meaning.specs.Traces.{state_after, after_event}
use Rattle.turn_lock.specs.Journal.{own_entries}
use Rattle.client_runner.specs.Meant.{client_in}
use Rattle.client_runner.specs.Levels.{levels_after, levels_left}

module _ (f : Setting) (s : State) (c : ℕ) where
  left_levels : (keep : List RowId) → length (own_after f s c (op.Leave keep) 0).levels ≡ depth_of s c - 1
  left_levels keep =
      elim (eqb_tells (depth_of s c) 1) [
        | inl one ↦ ap (λ b. length (cond b (own_after_commit s c keep) (own_after_leave s c)).levels) one.0 ∙ sym (ap (λ n. n - 1) one.1)
        | inr more ↦ ap (λ b. length (cond b (own_after_commit s c keep) (own_after_leave s c)).levels) more.0 ∙ length-take-le (depth_of s c - 1) (s.client c).levels (omega arith)
      ]

  dropped_levels : (b : Bool) (row : ℕ) → length (cond b (own_after_drop s c row) (s.client c)).levels ≡ depth_of s c
  dropped_levels true row = refl
  dropped_levels false row = refl

  own_levels : (o : Op) (fresh : ℕ) → length (own_after f s c o fresh).levels ≡ levels_after (depth_of s c) o
  own_levels op.Enter fresh = length-append (s.client c).levels ((s.client c).overlay ∷ [])
  own_levels (op.Leave keep) fresh = left_levels keep
  own_levels (op.Back depth) fresh = length-take depth (s.client c).levels
  own_levels (op.Next table index prefix cursor forward) fresh = refl
  own_levels (op.Get table row) fresh = refl
  own_levels (op.Lock table row exclusive wait) fresh = refl
  own_levels (op.Insert table values) fresh = refl
  own_levels (op.Put table row values) fresh = refl
  own_levels (op.Delete table row) fresh = refl
  own_levels (op.Drop row) fresh = dropped_levels (depth_of s c == 0) row.0
  own_levels (op.NextValue sequence) fresh = refl
  own_levels (op.CurrentValue sequence) fresh = refl
  own_levels op.End fresh = refl

  module _ (o : Op) (a : Answer) where
    by_success : (b : Bool) → length (cond b (own_after f s c o (row_of_answer a)) (s.client c)).levels ≡ cond b (levels_after (depth_of s c) o) (depth_of s c)
    by_success true = own_levels o (row_of_answer a)
    by_success false = refl

    -- the client that asked
    own_step : (d : ℕ) → d ≡ c → depth_of (after f s c o a) d ≡ cond (is_success a) (levels_after (depth_of s d) o) (depth_of s d)
    own_step d e =
        ap (λ b. length (cond b (record (client_after f s c o a) { blocked = blocked_after s c o a }) (s.client d)).levels) (eq-eqb d c e)
        ∙ by_success (is_success a) ∙ ap (λ k. cond (is_success a) (levels_after (depth_of s k) o) (depth_of s k)) (sym e)

    -- another client
    other_step : (d : ℕ) → d ≢ c → depth_of (after f s c o a) d ≡ depth_of s d
    other_step d other =
        elim (eqb_tells d c) [
          | inl same ↦ absurd (other same.1)
          | inr differs ↦ ap (λ b. length (cond b (record (client_after f s c o a) { blocked = blocked_after s c o a }) (s.client d)).levels) differs.0
        ]

pub levels_own : (f : Setting) (s : State) (n : ℕ) (trace : List Event) → depth_of (state_after f s trace) n ≡ levels_left (depth_of s n) (own_entries client_in n trace)
levels_own f s n [] = refl
levels_own f s n (e ∷ trace) =
    elim (eqb_tells e.client n) [
      | inl same ↦
          levels_own f (after_event f s e) n trace ∙ ap (λ d. levels_left d (own_entries client_in n trace)) (own_step f s e.client e.op e.answer n (sym same.1))
          ∙ sym (ap (λ b. levels_left (depth_of s n) (cond b (e ∷ own_entries client_in n trace) (own_entries client_in n trace))) same.0)
      | inr other ↦
          levels_own f (after_event f s e) n trace ∙ ap (λ d. levels_left d (own_entries client_in n trace)) (other_step f s e.client e.op e.answer n (λ is. other.1 (sym is)))
          ∙ sym (ap (λ b. levels_left (depth_of s n) (cond b (e ∷ own_entries client_in n trace) (own_entries client_in n trace))) other.0)
    ]
