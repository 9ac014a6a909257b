-- From the decided answer to the answer that there is room for.
use Rattle.std.proofs.Common.{◌≡◌, ◌≢◌, ℕ, ◌+◌, ◌≤◌, min, true, false, List, None, refl, sym, ◌∙◌, subst, inl, inr, arith}
use Rattle.abl_base.specs.declared.limits.TheConstants.{MAX_TRACE_BYTES}
use Rattle.abl_base.specs.declared.row.RowId.{RowId}
use Rattle.database_protocol.specs.declared.operation.Op.{Op}
use Rattle.database_protocol.specs.declared.operation.Op.TheVariants.{Back, Drop as DropLock, End, Enter, Leave, NextValue}
use Rattle.database_protocol.specs.declared.answer.Answer.{Answer}
use Rattle.database_protocol.specs.declared.answer.Answer.TheVariants.{AtEnd, Busy, Closed, Committed, Deadlock, Done, Duplicate, Full, Gone, KeyTooLong, NoMemory, Refused, SequenceEnd, TraceFull, TxFull}
use Rattle.database_meaning.specs.Setting.{Setting}
use Rattle.database_meaning.specs.State.{State}
use Rattle.database_meaning.specs.Answers.{Answers, FromGone, IsRefused, Succeeds}
use Rattle.database_meaning.specs.Counts.{HasRoom, event_size}
use Rattle.database_meaning.specs.Steps.{blocked_after, is_success}
use Rattle.db_core.proofs.GetRows.{no_key}
use Rattle.db_machine.specs.Replies.{ByRoom, HasPlace, IsFitted, IsRefusal, IsSize}

-- ---- room

small : (n m k e : ℕ) → k ≡ min n (m + 1) → k + e ≤ m → n + e ≤ m
small n m k e is fits = omega arith

large : (n m k e : ℕ) → k ≡ min n (m + 1) → n + e ≤ m → k + e ≤ m
large n m k e is fits = omega arith

module _ (f : Setting) (s : State) (c : ℕ) (op : Op) (kept : ℕ) (size : IsSize kept s.size) where
  pub place_room : (a : Answer) → HasPlace kept op a → HasRoom s op a
  place_room a (inl end) = inl end
  place_room a (inr fits) = inr (small s.size MAX_TRACE_BYTES kept (event_size op a) size fits)

  pub room_place : (a : Answer) → HasRoom s op a → HasPlace kept op a
  room_place a (inl end) = inl end
  room_place a (inr fits) = inr (large s.size MAX_TRACE_BYTES kept (event_size op a) size fits)

  pub by_room : (b a : Answer) → FromGone f s c op b → IsFitted kept op b a → ByRoom f s c op a
  by_room b a from (inl fitted) =
      inl (subst (λ (x : Answer). HasRoom s op x) (sym fitted.1) (place_room b fitted.0), subst (λ (x : Answer). FromGone f s c op x) (sym fitted.1) from)
  by_room b a from (inr full) = inr (full.1, b, from, λ room. full.0 (room_place b room))

-- ---- refusals

pub refusal_fails : (a : Answer) → IsRefusal a → is_success a ≡ false
refusal_fails TraceFull is = refl
refusal_fails Gone is = refl
refusal_fails (KeyTooLong index) is = refl
refusal_fails (Busy holders) is = refl
refusal_fails (Deadlock cycle) is = refl
refusal_fails (Duplicate index row) is = refl
refusal_fails Full is = refl
refusal_fails TxFull is = refl
refusal_fails SequenceEnd is = refl
refusal_fails AtEnd is = refl
refusal_fails _ is = absurd is

pub refusal_ends : (a : Answer) → IsRefusal a → (s : State) (c : ℕ) (op : Op) → blocked_after s c op a ≡ None
refusal_ends TraceFull is s c op = refl
refusal_ends Gone is s c op = refl
refusal_ends (KeyTooLong index) is s c op = refl
refusal_ends (Busy holders) is s c op = refl
refusal_ends (Deadlock cycle) is s c op = refl
refusal_ends (Duplicate index row) is s c op = refl
refusal_ends Full is s c op = refl
refusal_ends TxFull is s c op = refl
refusal_ends SequenceEnd is s c op = refl
refusal_ends AtEnd is s c op = refl
refusal_ends _ is s c op = absurd is

-- an answer other than TraceFull is the decided one
pub fitted_is : (kept : ℕ) (op : Op) (b a : Answer) → IsFitted kept op b a → ¬ IsRefusal a → a ≡ b
fitted_is kept op b a (inl fitted) other = fitted.1
fitted_is kept op b a (inr full) other = absurd (other (subst IsRefusal (sym full.1) tt))

pub fitted_quiet : (kept : ℕ) (op : Op) (b a : Answer) → IsFitted kept op b a → ((s : State) (c : ℕ) (o : Op) → blocked_after s c o b ≡ None) → (s : State) (c : ℕ) (o : Op) → blocked_after s c o a ≡ None
fitted_quiet kept op b a (inl fitted) quiet s c o = subst (λ (x : Answer). blocked_after s c o x ≡ None) (sym fitted.1) (quiet s c o)
fitted_quiet kept op b a (inr full) quiet s c o = subst (λ (x : Answer). blocked_after s c o x ≡ None) (sym full.1) refl

-- ---- operations that nothing prevents

module _ (f : Setting) (s : State) (c : ℕ) where
  pub enter_row : FromGone f s c Enter Done
  enter_row =
      inr ((λ h. h), inr ((λ h. h.1), inr ((λ h. h.0.1), inr ((λ h. h.0.1), inr ((λ h. h.1), inr ((λ h. no_key f.schema h.2.0.0 h.2.0.2), inr ((λ h. h.0), inr ((λ h. h.0), inr ((λ h. let e : Enter ≡ NextValue h.0 = h.1 in cc), inr ((λ h. h.0), refl))))))))))

  pub back_row : (depth : ℕ) → FromGone f s c (Back depth) Done
  back_row depth =
      inr ((λ h. h), inr ((λ h. h.1), inr ((λ h. h.0.1), inr ((λ h. h.0.1), inr ((λ h. h.1), inr ((λ h. no_key f.schema h.2.0.0 h.2.0.2), inr ((λ h. h.0), inr ((λ h. h.0), inr ((λ h. let e : Back depth ≡ NextValue h.0 = h.1 in cc), inr ((λ h. h.0), refl))))))))))

  pub drop_row : (row : RowId) → FromGone f s c (DropLock row) Done
  drop_row row =
      inr ((λ h. h), inr ((λ h. h.1), inr ((λ h. h.0.1), inr ((λ h. h.0.1), inr ((λ h. h.1), inr ((λ h. no_key f.schema h.2.0.0 h.2.0.2), inr ((λ h. h.0), inr ((λ h. h.0), inr ((λ h. let e : DropLock row ≡ NextValue h.0 = h.1 in cc), inr ((λ h. h.0), refl))))))))))

  pub leave_row : (keep : List RowId) (a : Answer) → Succeeds f s c (Leave keep) a → FromGone f s c (Leave keep) a
  leave_row keep a success =
      inr ((λ h. h), inr ((λ h. h.1), inr ((λ h. h.0.1), inr ((λ h. h.0.1), inr ((λ h. h.1), inr ((λ h. no_key f.schema h.2.0.0 h.2.0.2), inr ((λ h. h.0), inr ((λ h. h.0), inr ((λ h. let e : Leave keep ≡ NextValue h.0 = h.1 in cc), inr ((λ h. h.0), success))))))))))

  pub end_row : FromGone f s c End Done
  end_row =
      inr ((λ h. h), inr ((λ h. h.1), inr ((λ h. h.0.1), inr ((λ h. h.0.1), inr ((λ h. h.1), inr ((λ h. no_key f.schema h.2.0.0 h.2.0.2), inr ((λ h. h.0), inr ((λ h. h.0), inr ((λ h. let e : End ≡ NextValue h.0 = h.1 in cc), inr ((λ h. h.0), refl))))))))))

-- ---- the whole table

module _ (f : Setting) (s : State) (c : ℕ) (op : Op) (a : Answer) where
  pub refused_answers : IsRefused f s c op → a ≡ Refused → Answers f s c op a
  refused_answers refused is = inr (inl (refused, is))

  pub closed_answers : ¬ IsRefused f s c op → op ≢ End → s.closed ≡ true → a ≡ Closed → Answers f s c op a
  closed_answers allowed ne closed is = inr (inr (allowed, inl ((closed, ne), is)))

  pub room_answers : ¬ IsRefused f s c op → s.closed ≡ false → ByRoom f s c op a → Answers f s c op a
  room_answers allowed unshut room = inr (inr (allowed, inr ((λ p. let clash : true ≡ false = sym p.0 ∙ unshut in cc), room)))

  pub memory_answers : op ≢ End → a ≡ NoMemory → Answers f s c op a
  memory_answers ne is = inl (ne, inl is)

  pub failed_answers : ¬ IsRefused f s c op → op ≢ End → a ≡ Closed → Answers f s c op a
  failed_answers allowed ne is = inl (ne, inr (is, allowed))

-- there is room for a decided answer that was not replaced
pub place_of : (kept : ℕ) (op : Op) (b a : Answer) → IsFitted kept op b a → ¬ IsRefusal a → HasPlace kept op b
place_of kept op b a (inl fitted) other = fitted.0
place_of kept op b a (inr full) other = absurd (other (subst IsRefusal (sym full.1) tt))

-- the moment of a commit counts nothing
pub moment_place : (kept : ℕ) (op : Op) (m n : ℕ) → HasPlace kept op (Committed m) → HasPlace kept op (Committed n)
moment_place kept op m n h = h
