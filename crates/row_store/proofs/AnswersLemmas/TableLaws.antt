-- Answers by the rows of the table.
use Rattle.std.proofs.Common.{◌≡◌, ◌≢◌, ℕ, ◌<◌, Bool, true, false, List, [], ◌∷◌, length, Option, Some, None, MatchOption, refl, sym, subst, inl, inr, arith}
use Rattle.std.specs.Prelude.{IsTrue, ◌↔◌}
use Rattle.std.specs.List.{Contains}
use Rattle.abl_base.specs.declared.value.Value.{Value}
use Rattle.abl_base.specs.declared.row.RowId.{RowId}
use Rattle.database_protocol.specs.declared.row_order.Cursor.{Cursor}
use Rattle.database_protocol.specs.declared.operation.Op.{Op}
use Rattle.database_protocol.specs.declared.operation.Op.TheVariants.{Next, NextValue, End}
use Rattle.database_protocol.specs.declared.answer.Answer.{Answer}
use Rattle.database_protocol.specs.declared.answer.Answer.TheVariants.{Refused, Closed, TraceFull, Gone, KeyTooLong, Deadlock, Duplicate, Found, Done}
use Rattle.database_meaning.specs.declared.state.Key.{Key}
use Rattle.database_meaning.specs.Setting.{Setting, unique_keys}
use Rattle.database_meaning.specs.State.{State}
use Rattle.database_meaning.specs.Waiting.{HasConflict, IsHolders, Closes, IsCycle}
use Rattle.database_meaning.specs.Search.{IsNext}
use Rattle.database_meaning.specs.Counts.{HasRoom}
use Rattle.database_meaning.specs.Answers.{Answers, ByTable, FromGone, IsRefused, AsksAgain, IsGone, HasTooLongKey, IsFirstLongKey, entered, MayWait, IsFirstDuplicate}
use Rattle.database_meaning.proofs.Keys.{Has}
use Rattle.row_store.specs.answers.Stages.{FromSequenceEnd, FromDuplicate, FromBusy}

pub found_at : {A : Type 0} (o : Option A) (x : A) (R : Type 0) (P : A → Type 0) → o ≡ Some x → MatchOption o R P → P x
found_at (Some y) x R P e h = let same : y ≡ x = cc in subst P same h
found_at None x R P e h = cc

pub none_at_all : {A : Type 0} (o : Option A) (R : Type 0) (P : A → Type 0) → o ≡ None → MatchOption o R P → R
none_at_all (Some y) R P e h = cc
none_at_all None R P e h = h

cycle_closes : (f : Setting) (s : State) (c : ℕ) (op : Op) (cycle : List ℕ) → IsCycle f s c op cycle → Closes f s c op
cycle_closes f s c op [] h = absurd h
cycle_closes f s c op (first ∷ others) h = (others, h.2)

pub deadlock_row : (f : Setting) (s : State) (c : ℕ) (op : Op) (may : Bool) (cycle : List ℕ) → (IsTrue may ↔ MayWait op) → may ≡ true → HasConflict f s c op → IsCycle f s c op cycle → FromBusy f s c op (Deadlock cycle)
deadlock_row f s c op may cycle waits e conflict h =
    inr ((λ p. p.1 (waits.0 e)), inr ((λ p. p.1 (cycle_closes f s c op cycle h)), inl (conflict, (cycle, h, refl))))

pub duplicate_row : (f : Setting) (s : State) (c : ℕ) (op : Op) (index : ℕ) (row : RowId) → IsFirstDuplicate f s op index row → FromDuplicate f s c op (Duplicate index row)
duplicate_row f s c op index row h = inl ((index, row, h), (index, row, h, refl))

found_next : (f : Setting) (s : State) (c table : ℕ) (index : Option ℕ) (prefix : List Value) (cursor : Option Cursor) (forward : Bool) (row : RowId) (key : List ℕ) (values : List Value) → IsNext f s (Next table index prefix cursor forward) row key values → FromSequenceEnd f s c (Next table index prefix cursor forward) (Found row key values)
found_next f s c table index prefix cursor forward row key values h =
    inr ((λ p. let e : Next table index prefix cursor forward ≡ NextValue p.0 = p.1 in cc), inr ((λ p. p.1 row key values h.0), (row, key, values, refl, h)))

pub found_row : (f : Setting) (s : State) (c : ℕ) (op : Op) (table : ℕ) (index : Option ℕ) (prefix : List Value) (cursor : Option Cursor) (forward : Bool) (row : RowId) (key : List ℕ) (values : List Value) → op ≡ Next table index prefix cursor forward → IsNext f s (Next table index prefix cursor forward) row key values → FromSequenceEnd f s c op (Found row key values)
found_row f s c op table index prefix cursor forward row key values e h =
    subst (λ (o : Op). FromSequenceEnd f s c o (Found row key values)) (sym e) (found_next f s c table index prefix cursor forward row key values h)

-- ---- holders and conflicts

head_in : (xs : List ℕ) → 0 < length xs → (d : ℕ) × Contains xs d
head_in [] lt = absurd (omega arith)
head_in (x ∷ xs) lt = (x, (0, omega arith, refl))

pub holders_conflict : (f : Setting) (s : State) (c : ℕ) (op : Op) (xs : List ℕ) → IsHolders f s c op xs → (0 < length xs) ↔ HasConflict f s c op
holders_conflict f s c op xs h =
    ((λ lt. let first = head_in xs lt in (first.0, (h.1 first.0).0 first.1)), λ p. let there = (h.1 p.0).1 p.1 in omega (arith, there.1))

-- ---- the middle of the table

module _ (f : Setting) (s : State) (c : ℕ) (op : Op) (a : Answer) where
  pub gone_row : IsGone f s c op → a ≡ Gone → FromGone f s c op a
  gone_row h e = inl (h, e)

  pub long_row : (index : ℕ) → ¬ IsGone f s c op → IsFirstLongKey f (entered op) index → a ≡ KeyTooLong index → FromGone f s c op a
  long_row index there h e = inr (there, inl ((index, h), (index, h, e)))

  pub wait_row : ¬ IsGone f s c op → ¬ HasTooLongKey f op → FromBusy f s c op a → FromGone f s c op a
  wait_row there short w = inr (there, inr (short, w))

  pub from_duplicate_row : ¬ IsGone f s c op → ¬ HasTooLongKey f op → ¬ HasConflict f s c op → FromDuplicate f s c op a → FromGone f s c op a
  from_duplicate_row there short alone t = inr (there, inr (short, inr ((λ p. alone p.0), inr ((λ p. alone p.0), inr (alone, t)))))

  pub refused_row : IsRefused f s c op → a ≡ Refused → ByTable f s c op a
  refused_row h e = inl (h, e)

  pub closed_row : ¬ IsRefused f s c op → s.closed ≡ true → op ≢ End → a ≡ Closed → ByTable f s c op a
  closed_row r h ne e = inr (r, inl ((h, ne), e))

  pub roomy_row : ¬ IsRefused f s c op → s.closed ≡ false → HasRoom s op a → FromGone f s c op a → ByTable f s c op a
  roomy_row r h room m = inr (r, inr ((λ p. let t : s.closed ≡ true = p.0 in cc), inl (room, m)))

  pub full_row : (b : Answer) → ¬ IsRefused f s c op → s.closed ≡ false → a ≡ TraceFull → FromGone f s c op b → ¬ HasRoom s op b → ByTable f s c op a
  full_row b r h e m room = inr (r, inr ((λ p. let t : s.closed ≡ true = p.0 in cc), inr (e, b, m, room)))

-- ---- End

no_keys_at : (f : Setting) (k : Key) → ¬ Has (unique_keys f.schema None) k
unfolding unique_keys
no_keys_at f k h = let clash : false ≡ true = h in cc

end_from_gone : (f : Setting) (s : State) (c : ℕ) → FromGone f s c End Done
end_from_gone f s c =
    inr ((λ h. h), inr ((λ h. h.1), inr ((λ h. h.0.1), inr ((λ h. h.0.1), inr ((λ h. h.1), inr ((λ h. no_keys_at f h.2.0.0 h.2.0.2), inr ((λ h. h.0), inr ((λ h. h.0), inr ((λ h. let e : End ≡ NextValue h.0 = h.1 in cc), inr ((λ h. h.0), refl))))))))))

pub end_row : (f : Setting) (s : State) (c : ℕ) → ¬ IsRefused f s c End → Answers f s c End Done
end_row f s c r = inr (inr (r, inr ((λ p. p.1 refl), inl (inl refl, end_from_gone f s c))))

pub end_refused : (f : Setting) (s : State) (c : ℕ) → IsRefused f s c End → Answers f s c End Refused
end_refused f s c r = inr (inl (r, refl))

pub false_no : (b : Bool) (P : Type 0) → (IsTrue b ↔ P) → b ≡ false → ¬ P
false_no b P h e p = let t : b ≡ true = h.1 p in cc

pub none_conflict : (f : Setting) (s : State) (c : ℕ) (op : Op) (xs : List ℕ) → IsHolders f s c op xs → length xs ≡ 0 → IsTrue false ↔ HasConflict f s c op
none_conflict f s c op xs h e = ((λ t. let clash : false ≡ true = t in cc), λ p. let lt : 0 < length xs = (holders_conflict f s c op xs h).1 p in absurd (omega arith))

pub some_conflict : (f : Setting) (s : State) (c : ℕ) (op : Op) (xs : List ℕ) → IsHolders f s c op xs → 0 < length xs → IsTrue true ↔ HasConflict f s c op
some_conflict f s c op xs h lt = ((λ t. (holders_conflict f s c op xs h).0 lt), λ p. refl)

pub end_open : (f : Setting) (s : State) (c : ℕ) → c < f.clients → ¬ AsksAgain s c End → ¬ IsRefused f s c End
end_open f s c known again r = r (known, tt, again)

pub from_table : (f : Setting) (s : State) (c : ℕ) (op : Op) (a : Answer) → ByTable f s c op a → Answers f s c op a
from_table f s c op a h = inr h

pub from_end : (f : Setting) (s : State) (c : ℕ) (op : Op) (a : Answer) → op ≡ End → Answers f s c End a → Answers f s c op a
from_end f s c op a e h = subst (λ (o : Op). Answers f s c o a) (sym e) h
