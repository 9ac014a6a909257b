-- The answers that the table gives fit their operations.
use Rattle.std.proofs.Common.{◌≡◌, ◌≢◌, ℕ, ◌+◌, ◌<◌, ◌≤◌, Bool, true, false, List, [], ◌∷◌, length, Option, Some, None, refl, sym, ap, subst, inl, inr, arith}
use Rattle.std.specs.Prelude.{IsTrue, IsFalse}
use Rattle.abl_base.specs.declared.value.Value.{Value}
use Rattle.abl_base.specs.declared.row.RowId.{RowId}
use Rattle.abl_values.specs.declared.schema.IndexDef.{IndexDef}
use Rattle.abl_values.specs.Keys.{unique_key}
use Rattle.abl_values.specs.Schema.{indexes_of}
use Rattle.database_meaning.specs.declared.state.Key.{Key}
use Rattle.database_meaning.specs.declared.contents.Contents.{Contents}
use Rattle.database_meaning.specs.Setting.{Setting, key_at, keys_from, unique_keys, FitsTable}
use Rattle.database_meaning.specs.State.{State, view}
use Rattle.database_meaning.specs.Waiting.{row_in, HasConflict}
use Rattle.database_meaning.specs.Answers.{Answers, FromGone, Succeeds, IsGone, IsFirstLongKey, entered, MayWait, IsFirstDuplicate, DrawsTooMany, WritesTooMany, IsNextOp}
use Rattle.database_meaning.specs.Fits.{Fits, IsNoEnd}
use Rattle.database_meaning.specs.Traces.{state_after, opened}
use Rattle.database_meaning.specs.Laws.{AnswersFit}
use Rattle.database_protocol.specs.declared.operation.Op.{Op}
use Rattle.database_protocol.specs.declared.operation.Op.TheVariants.{Enter, Leave, Back, Next, Get, Lock, Insert, Put, Delete, Drop as DropLock, NextValue, CurrentValue, End}
use Rattle.database_protocol.specs.declared.answer.Answer.{Answer}
use Rattle.database_protocol.specs.declared.answer.Answer.TheVariants.{Gone, KeyTooLong, Busy, Blocked, Deadlock, Duplicate, Full, TxFull, SequenceEnd, AtEnd}
use Rattle.database_meaning.proofs.Keys.{Has, has_cases, has_one}
use Rattle.database_meaning.proofs.LockedReads.{follows_split}
use Rattle.database_meaning.proofs.RowsFit.{RowFits, StateFits, laid_fits, fits_legal}

-- ---- keys by their index

pub index_at : (table i : ℕ) (bytes : Option (List ℕ)) (k : Key) → Has (key_at table i bytes) k → k.index ≡ i
index_at table i None k h = cc
index_at table i (Some bytes) k h = sym (ap (λ (x : Key). x.index) (has_one (record { table = table; index = i; bytes = bytes }) k h))

-- a key of the indexes from i on has the number of one of them
pub index_within : (table i : ℕ) (indexes : List IndexDef) (values : List Value) (k : Key) → Has (keys_from table i indexes values) k → (i ≤ k.index) × (k.index < i + length indexes)
index_within table i [] values k h = cc
index_within table i (index ∷ indexes) values k h =
    elim (has_cases (key_at table i (unique_key index.unique index.parts values)) _ k h) [
      | inl here ↦ let at : k.index ≡ i = index_at table i (unique_key index.unique index.parts values) k here in (omega arith, omega arith)
      | inr later ↦ let rest = index_within table (i + 1) indexes values k later in (omega arith, omega arith)
    ]

-- ---- an answer of each row of the table

no_end : (op : Op) → op ≢ End → IsNoEnd op
no_end End ne = absurd (ne refl)
no_end Enter ne = tt
no_end (Leave keep) ne = tt
no_end (Back depth) ne = tt
no_end (Next table index prefix cursor forward) ne = tt
no_end (Get table row) ne = tt
no_end (Lock table row exclusive wait) ne = tt
no_end (Insert table values) ne = tt
no_end (Put table row values) ne = tt
no_end (Delete table row) ne = tt
no_end (DropLock row) ne = tt
no_end (NextValue sequence) ne = tt
no_end (CurrentValue sequence) ne = tt

module _ (f : Setting) (s : State) (c : ℕ) where
  gone_fits : (op : Op) → IsGone f s c op → Fits f.schema op Gone
  gone_fits (Get table row) h = tt
  gone_fits (Put table row values) h = tt
  gone_fits (Delete table row) h = tt
  gone_fits (Lock table row exclusive wait) h = tt
  gone_fits Enter h = h
  gone_fits (Leave keep) h = h
  gone_fits (Back depth) h = h
  gone_fits (Next table index prefix cursor forward) h = absurd h
  gone_fits (Insert table values) h = h
  gone_fits (DropLock row) h = h
  gone_fits (NextValue sequence) h = h
  gone_fits (CurrentValue sequence) h = h
  gone_fits End h = h

  long_fits : (op : Op) (index : ℕ) → IsFirstLongKey f (entered op) index → Fits f.schema op (KeyTooLong index)
  long_fits (Insert table values) index h = h.0.0
  long_fits (Put table row values) index h = h.0.0
  long_fits Enter index h = h
  long_fits (Leave keep) index h = h
  long_fits (Back depth) index h = h
  long_fits (Next table order prefix cursor forward) index h = h
  long_fits (Get table row) index h = h
  long_fits (Lock table row exclusive wait) index h = absurd h
  long_fits (Delete table row) index h = h
  long_fits (DropLock row) index h = h
  long_fits (NextValue sequence) index h = h
  long_fits (CurrentValue sequence) index h = h
  long_fits End index h = h

  waits_not : (wait : Bool) → ¬ IsTrue wait → IsFalse wait
  waits_not true h = absurd (h refl)
  waits_not false h = refl

  waits_so : (wait : Bool) → ¬ ¬ IsTrue wait → IsTrue wait
  waits_so true h = refl
  waits_so false h = absurd (h (λ e. cc))

  busy_fits : (op : Op) (holders : List ℕ) → HasConflict f s c op → ¬ MayWait op → Fits f.schema op (Busy holders)
  busy_fits (Lock table row exclusive wait) holders h never = waits_not wait never
  busy_fits (Insert table values) holders h never = never tt
  busy_fits (Put table row values) holders h never = never tt
  busy_fits Enter holders h never = h.1
  busy_fits (Leave keep) holders h never = h.1
  busy_fits (Back depth) holders h never = h.1
  busy_fits (Next table index prefix cursor forward) holders h never = absurd h.1
  busy_fits (Get table row) holders h never = h.1
  busy_fits (Delete table row) holders h never = h.1
  busy_fits (DropLock row) holders h never = h.1
  busy_fits (NextValue sequence) holders h never = h.1
  busy_fits (CurrentValue sequence) holders h never = h.1
  busy_fits End holders h never = h.1

  -- an operation that waits
  waiting_fits : (op : Op) (holders : List ℕ) → HasConflict f s c op → ¬ ¬ MayWait op → Fits f.schema op (Blocked holders) × Fits f.schema op (Deadlock holders)
  waiting_fits (Lock table row exclusive wait) holders h may = (waits_so wait may, waits_so wait may)
  waiting_fits (Insert table values) holders h may = (tt, tt)
  waiting_fits (Put table row values) holders h may = (tt, tt)
  waiting_fits Enter holders h may = absurd h.1
  waiting_fits (Leave keep) holders h may = absurd h.1
  waiting_fits (Back depth) holders h may = absurd h.1
  waiting_fits (Next table index prefix cursor forward) holders h may = absurd h.1
  waiting_fits (Get table row) holders h may = absurd h.1
  waiting_fits (Delete table row) holders h may = absurd h.1
  waiting_fits (DropLock row) holders h may = absurd h.1
  waiting_fits (NextValue sequence) holders h may = absurd h.1
  waiting_fits (CurrentValue sequence) holders h may = absurd h.1
  waiting_fits End holders h may = absurd h.1

  no_keys_of : (k : Key) → ¬ Has (unique_keys f.schema None) k
  unfolding unique_keys
  no_keys_of k h = let e : false ≡ true = h in cc

  index_of : (table : ℕ) (values : List Value) (k : Key) → Has (unique_keys f.schema (row_in table values)) k → k.index < length (indexes_of f.schema table)
  unfolding unique_keys
  index_of table values k h = let within = index_within table 0 (indexes_of f.schema table) values k h in omega arith

  duplicate_fits : (op : Op) (index : ℕ) (row : RowId) → IsFirstDuplicate f s op index row → Fits f.schema op (Duplicate index row)
  duplicate_fits (Insert table values) index row h = subst (λ i. i < length (indexes_of f.schema table)) h.0.1 (index_of table values h.0.0 h.0.2)
  duplicate_fits (Put table at values) index row h = subst (λ i. i < length (indexes_of f.schema table)) h.0.1 (index_of table values h.0.0 h.0.2)
  duplicate_fits Enter index row h = absurd (no_keys_of h.0.0 h.0.2)
  duplicate_fits (Leave keep) index row h = absurd (no_keys_of h.0.0 h.0.2)
  duplicate_fits (Back depth) index row h = absurd (no_keys_of h.0.0 h.0.2)
  duplicate_fits (Next table order prefix cursor forward) index row h = absurd (no_keys_of h.0.0 h.0.2)
  duplicate_fits (Get table at) index row h = absurd (no_keys_of h.0.0 h.0.2)
  duplicate_fits (Lock table at exclusive wait) index row h = absurd (no_keys_of h.0.0 h.0.2)
  duplicate_fits (Delete table at) index row h = absurd (no_keys_of h.0.0 h.0.2)
  duplicate_fits (DropLock at) index row h = absurd (no_keys_of h.0.0 h.0.2)
  duplicate_fits (NextValue sequence) index row h = absurd (no_keys_of h.0.0 h.0.2)
  duplicate_fits (CurrentValue sequence) index row h = absurd (no_keys_of h.0.0 h.0.2)
  duplicate_fits End index row h = absurd (no_keys_of h.0.0 h.0.2)

  full_fits : (op : Op) → DrawsTooMany f s op → Fits f.schema op Full
  full_fits (Insert table values) h = tt
  full_fits (Put table row values) h = tt
  full_fits Enter h = h.0
  full_fits (Leave keep) h = h.0
  full_fits (Back depth) h = h.0
  full_fits (Next table index prefix cursor forward) h = absurd h.0
  full_fits (Get table row) h = h.0
  full_fits (Lock table row exclusive wait) h = absurd h.0
  full_fits (Delete table row) h = h.0
  full_fits (DropLock row) h = h.0
  full_fits (NextValue sequence) h = h.0
  full_fits (CurrentValue sequence) h = h.0
  full_fits End h = h.0

  tx_full_fits : (op : Op) → WritesTooMany f s c op → Fits f.schema op TxFull
  tx_full_fits (Insert table values) h = tt
  tx_full_fits (Put table row values) h = tt
  tx_full_fits (Delete table row) h = tt
  tx_full_fits Enter h = h.0
  tx_full_fits (Leave keep) h = h.0
  tx_full_fits (Back depth) h = h.0
  tx_full_fits (Next table index prefix cursor forward) h = absurd h.0
  tx_full_fits (Get table row) h = h.0
  tx_full_fits (Lock table row exclusive wait) h = absurd h.0
  tx_full_fits (DropLock row) h = h.0
  tx_full_fits (NextValue sequence) h = h.0
  tx_full_fits (CurrentValue sequence) h = h.0
  tx_full_fits End h = h.0

  at_end_fits : (op : Op) → IsNextOp op → Fits f.schema op AtEnd
  at_end_fits (Next table index prefix cursor forward) h = tt
  at_end_fits Enter h = h
  at_end_fits (Leave keep) h = h
  at_end_fits (Back depth) h = h
  at_end_fits (Get table row) h = h
  at_end_fits (Lock table row exclusive wait) h = absurd h
  at_end_fits (Insert table values) h = h
  at_end_fits (Put table row values) h = h
  at_end_fits (Delete table row) h = h
  at_end_fits (DropLock row) h = h
  at_end_fits (NextValue sequence) h = h
  at_end_fits (CurrentValue sequence) h = h
  at_end_fits End h = h

  seen_fits : StateFits f s → (row : ℕ) (table : ℕ) (values : List Value) → view f s row ≡ row_in table values → FitsTable f.schema table values
  seen_fits g row table values e = subst (λ o. RowFits f o) e (laid_fits f f.clients s.client s.committed g.own g.committed row)

  success_fits : StateFits f s → (op : Op) (a : Answer) → Succeeds f s c op a → Fits f.schema op a
  success_fits g Enter a e = subst (λ x. Fits f.schema Enter x) (sym e) tt
  success_fits g (Leave keep) a (inl p) = subst (λ x. Fits f.schema (Leave keep) x) (sym p.2) tt
  success_fits g (Leave keep) a (inr p) = subst (λ x. Fits f.schema (Leave keep) x) (sym p.1) tt
  success_fits g (Back depth) a e = subst (λ x. Fits f.schema (Back depth) x) (sym e) tt
  success_fits g (Next table index prefix cursor forward) a p =
      subst (λ x. Fits f.schema (Next table index prefix cursor forward) x) (sym p.3) (seen_fits g p.0.0 table p.2 p.4.0.0)
  success_fits g (Get table row) a p = subst (λ x. Fits f.schema (Get table row) x) (sym p.1) (seen_fits g row.0 table p.0 p.2)
  success_fits g (Lock table row exclusive wait) a e = subst (λ x. Fits f.schema (Lock table row exclusive wait) x) (sym e) tt
  success_fits g (Insert table values) a p = subst (λ x. Fits f.schema (Insert table values) x) (sym p.1) tt
  success_fits g (Put table row values) a e = subst (λ x. Fits f.schema (Put table row values) x) (sym e) tt
  success_fits g (Delete table row) a e = subst (λ x. Fits f.schema (Delete table row) x) (sym e) tt
  success_fits g (DropLock row) a e = subst (λ x. Fits f.schema (DropLock row) x) (sym e) tt
  success_fits g (NextValue sequence) a e = subst (λ x. Fits f.schema (NextValue sequence) x) (sym e) tt
  success_fits g (CurrentValue sequence) a e = subst (λ x. Fits f.schema (CurrentValue sequence) x) (sym e) tt
  success_fits g End a e = subst (λ x. Fits f.schema End x) (sym e) tt

  module _ (op : Op) (a : Answer) where
    by_answer : {b : Answer} → a ≡ b → Fits f.schema op b → Fits f.schema op a
    by_answer e h = subst (λ x. Fits f.schema op x) (sym e) h

    from_gone_fits : StateFits f s → FromGone f s c op a → Fits f.schema op a
    from_gone_fits g (inl p) = by_answer p.1 (gone_fits op p.0)
    from_gone_fits g (inr (_, inl p)) = by_answer p.1.2 (long_fits op p.1.0 p.1.1)
    from_gone_fits g (inr (_, inr (_, inl p))) = by_answer p.1.2 (busy_fits op p.1.0 p.0.0 p.0.1)
    from_gone_fits g (inr (_, inr (_, inr (waits, inl p)))) = by_answer p.1.2 (waiting_fits op p.1.0 p.0.0 (λ never. waits (p.0.0, never))).0
    from_gone_fits g (inr (_, inr (_, inr (waits, inr (_, inl p))))) = by_answer p.1.2 (waiting_fits op p.1.0 p.0 (λ never. waits (p.0, never))).1
    from_gone_fits g (inr (_, inr (_, inr (_, inr (_, inr (_, inl p)))))) = by_answer p.1.3 (duplicate_fits op p.1.0 p.1.1 p.1.2)
    from_gone_fits g (inr (_, inr (_, inr (_, inr (_, inr (_, inr (_, inl p))))))) = by_answer p.1 (full_fits op p.0)
    from_gone_fits g (inr (_, inr (_, inr (_, inr (_, inr (_, inr (_, inr (_, inl p)))))))) = by_answer p.1 (tx_full_fits op p.0)
    from_gone_fits g (inr (_, inr (_, inr (_, inr (_, inr (_, inr (_, inr (_, inr (_, inl p))))))))) = by_answer p.1 (subst (λ o. Fits f.schema o SequenceEnd) (sym p.0.1) tt)
    from_gone_fits g (inr (_, inr (_, inr (_, inr (_, inr (_, inr (_, inr (_, inr (_, inr (_, inl p)))))))))) = by_answer p.1 (at_end_fits op p.0.0)
    from_gone_fits g (inr (_, inr (_, inr (_, inr (_, inr (_, inr (_, inr (_, inr (_, inr (_, inr p)))))))))) = success_fits g op a p.1

    answer_fits : StateFits f s → Answers f s c op a → Fits f.schema op a
    answer_fits g (inl (ne, inl e)) = by_answer e (no_end op ne)
    answer_fits g (inl (ne, inr p)) = by_answer p.0 (no_end op ne)
    answer_fits g (inr (inl p)) = by_answer p.1 tt
    answer_fits g (inr (inr (_, inl p))) = by_answer p.1 (no_end op p.0.1)
    answer_fits g (inr (inr (_, inr (_, inl p)))) = from_gone_fits g p.1
    answer_fits g (inr (inr (_, inr (_, inr p)))) = by_answer p.0 (no_end op (λ e. p.3 (inl e)))

-- ---- every event of a legal trace

pub answers_fit : (f : Setting) (contents : Contents) → AnswersFit f contents
answers_fit f contents before later e legal =
    let parts = follows_split f (opened contents) before (e ∷ later) legal.1 in
    answer_fits f (state_after f (opened contents) before) e.client e.op e.answer (fits_legal f contents before (legal.0, parts.0)) parts.1.0
