-- Levels and exclusive locks after an answer, whatever the store says.
use Rattle.std.proofs.Common.{◌≡◌, ◌≢◌, inl, inr, ℕ, ◌+◌, ◌-◌, ◌<◌, ◌≤◌, ◌==◌, ◌||◌, ◌∷◌, Bool, true, false, cond, List, [], length, min, Option, Some, None, refl, sym, ap, ◌∙◌, subst, length-append, eq-eqb}
use Rattle.std.specs.FinMap.{get, insert, remove}
use Rattle.std.proofs.lemmas.Bool.{cases_eq, ne_eqb}
use Rattle.std.proofs.lemmas.List.{length-take}
use Rattle.abl_base.specs.declared.row.RowId.{RowId}
use Rattle.database_protocol.specs.declared.operation.Op.{Op}
use Rattle.database_protocol.specs.declared.operation.Op.TheVariants.{Enter, Leave, Back, Next, Get, Lock, Insert, Put, Delete, Drop as DropLock, NextValue, CurrentValue, End}
use Rattle.database_protocol.specs.declared.answer.Answer.{Answer}
use Rattle.database_meaning.specs.Setting.{Setting}
use Rattle.database_meaning.specs.State.{State, Client, Held, Rows as Stored, depth_of, lock_of}
use Rattle.database_meaning.specs.Answers.{IsWellFormed}
use Rattle.database_meaning.specs.Steps.{after, blocked_after, client_after, committed_after, held_after_commit, is_outermost, is_success, or_exclusive, own_after, own_after_commit, own_after_drop, own_after_leave, row_of_answer, stays}
use Rattle.database_meaning.proofs.Maps.{get_insert_other, get_insert_same, get_remove_other, get_remove_same}
use Rattle.record_locks.specs.Settled.{has_row, settled}
use Rattle.record_locks.specs.Table.{client_of, lock_of as table_lock}
use Rattle.row_store.specs.Rows.{RowState}
use Rattle.db_core.specs.declared.control.Control.{Control}
use Rattle.db_core.specs.Known.{known}
use Rattle.db_core.specs.Levels.{SameLevels, is_exclusive}
use Rattle.record_locks.specs.declared.locks.Client.{Client as LockClient}
use Rattle.db_core.specs.Moves.{EndsWait, SameControl, Settles}
use Rattle.db_core.specs.Represents.{Represents, marks_at}
use Rattle.db_core.proofs.Commits.{get_kept}
use Rattle.db_core.proofs.RefusalLaws.{known_depth}

-- ---- the relation

pub levels_same : (s : State) → SameLevels s s
levels_same s = record { depth = λ c. refl; exclusive = λ c row. refl }

pub levels_back : (s t : State) → SameLevels s t → SameLevels t s
levels_back s t h = record { depth = λ c. sym (h.depth c); exclusive = λ c row. sym (h.exclusive c row) }

pub levels_then : (s t u : State) → SameLevels s t → SameLevels t u → SameLevels s u
levels_then s t u h k = record { depth = λ c. h.depth c ∙ k.depth c; exclusive = λ c row. h.exclusive c row ∙ k.exclusive c row }

exclusive_is : (o : Option Bool) → is_exclusive o ≡ true → o ≡ Some true
exclusive_is None e = cc
exclusive_is (Some b) e = ap Some e

pub exclusive_in : (s t : State) (c row : ℕ) → SameLevels s t → lock_of s c row ≡ Some true → lock_of t c row ≡ Some true
exclusive_in s t c row same held = exclusive_is (lock_of t c row) (sym (same.exclusive c row) ∙ ap is_exclusive held)

-- what an operation has to name is known by levels and exclusive locks
pub well_formed_in : (f : Setting) (s t : State) (c : ℕ) → SameLevels s t → (op : Op) → IsWellFormed f s c op → IsWellFormed f t c op
well_formed_in f s t c same (Leave keep) h = subst (λ (n : ℕ). 0 < n) (same.depth c) h
well_formed_in f s t c same (Back d) h = (h.0, subst (λ (n : ℕ). d ≤ n) (same.depth c) h.1)
well_formed_in f s t c same (Insert table values) h = (h.0, h.1, subst (λ (n : ℕ). 0 < n) (same.depth c) h.2)
well_formed_in f s t c same (Put table row values) h = (h.0, h.1, subst (λ (n : ℕ). 0 < n) (same.depth c) h.2, exclusive_in s t c row.0 same h.3)
well_formed_in f s t c same (Delete table row) h = (h.0, subst (λ (n : ℕ). 0 < n) (same.depth c) h.1, exclusive_in s t c row.0 same h.2)
well_formed_in f s t c same _ h = h

-- ---- one client after its success

or_is : (o : Option Bool) (x : Bool) → or_exclusive o x ≡ (is_exclusive o || x)
or_is None x = refl
or_is (Some b) x = refl

settled_share : (b : Bool) (o : Option Bool) → is_exclusive (settled b o) ≡ false
settled_share true None = refl
settled_share true (Some v) = refl
settled_share false o = refl

-- no lock that stays at a commit is exclusive
share_at : (rows : Stored) (keep : List RowId) (held : Held) (k : ℕ) → is_exclusive (get (held_after_commit rows keep held) k) ≡ false
share_at rows keep held k = ap is_exclusive (get_kept rows keep held k) ∙ settled_share (stays rows keep k) (get held k)

granted_at : (m n : Held) (row k : ℕ) (x : Bool) → ((q : ℕ) → is_exclusive (get m q) ≡ is_exclusive (get n q)) → is_exclusive (get (insert m row (or_exclusive (get m row) x)) k) ≡ is_exclusive (get (insert n row (or_exclusive (get n row) x)) k)
granted_at m n row k x same = elim (cases_eq k row) [
  | inl is ↦
      ap (λ (q : ℕ). is_exclusive (get (insert m row (or_exclusive (get m row) x)) q)) is
      ∙ (ap is_exclusive (get_insert_same m row (or_exclusive (get m row) x))
      ∙ (or_is (get m row) x
      ∙ (ap (λ (b : Bool). b || x) (same row)
      ∙ (sym (or_is (get n row) x)
      ∙ (sym (ap is_exclusive (get_insert_same n row (or_exclusive (get n row) x)))
      ∙ sym (ap (λ (q : ℕ). is_exclusive (get (insert n row (or_exclusive (get n row) x)) q)) is))))))
  | inr ne ↦ ap is_exclusive (get_insert_other m row _ k ne) ∙ (same k ∙ sym (ap is_exclusive (get_insert_other n row _ k ne)))
]

inserted_at : (m n : Held) (row k : ℕ) (v : Bool) → ((q : ℕ) → is_exclusive (get m q) ≡ is_exclusive (get n q)) → is_exclusive (get (insert m row v) k) ≡ is_exclusive (get (insert n row v) k)
inserted_at m n row k v same = elim (cases_eq k row) [
  | inl is ↦
      ap (λ (q : ℕ). is_exclusive (get (insert m row v) q)) is
      ∙ (ap is_exclusive (get_insert_same m row v ∙ sym (get_insert_same n row v)) ∙ sym (ap (λ (q : ℕ). is_exclusive (get (insert n row v) q)) is))
  | inr ne ↦ ap is_exclusive (get_insert_other m row v k ne) ∙ (same k ∙ sym (ap is_exclusive (get_insert_other n row v k ne)))
]

removed_at : (m n : Held) (row k : ℕ) → ((q : ℕ) → is_exclusive (get m q) ≡ is_exclusive (get n q)) → is_exclusive (get (remove m row) k) ≡ is_exclusive (get (remove n row) k)
removed_at m n row k same = elim (cases_eq k row) [
  | inl is ↦
      ap (λ (q : ℕ). is_exclusive (get (remove m row) q)) is
      ∙ (ap is_exclusive (get_remove_same m row ∙ sym (get_remove_same n row)) ∙ sym (ap (λ (q : ℕ). is_exclusive (get (remove n row) q)) is))
  | inr ne ↦ ap is_exclusive (get_remove_other m row k ne) ∙ (same k ∙ sym (ap is_exclusive (get_remove_other n row k ne)))
]

module _ (f g : Setting) (s t : State) (c : ℕ) (same : SameLevels s t) where
  left_depth : (keep : List RowId) (a b : Bool) → a ≡ b → length (cond a (own_after_commit s c keep) (own_after_leave s c)).levels ≡ length (cond b (own_after_commit t c keep) (own_after_leave t c)).levels
  left_depth keep true true e = refl
  left_depth keep false false e =
      length-take (depth_of s c - 1) (s.client c).levels
      ∙ (ap (λ (n : ℕ). min (n - 1) n) (same.depth c) ∙ sym (length-take (depth_of t c - 1) (t.client c).levels))
  left_depth keep true false e = cc
  left_depth keep false true e = cc

  dropped_depth : (row : ℕ) (a b : Bool) → length (cond a (own_after_drop s c row) (s.client c)).levels ≡ length (cond b (own_after_drop t c row) (t.client c)).levels
  dropped_depth row true true = same.depth c
  dropped_depth row true false = same.depth c
  dropped_depth row false true = same.depth c
  dropped_depth row false false = same.depth c

  own_depth : (op : Op) (fresh : ℕ) → length (own_after f s c op fresh).levels ≡ length (own_after g t c op fresh).levels
  own_depth Enter fresh =
      length-append (s.client c).levels ((s.client c).overlay ∷ []) ∙ (ap (λ (n : ℕ). n + 1) (same.depth c) ∙ sym (length-append (t.client c).levels ((t.client c).overlay ∷ [])))
  own_depth (Leave keep) fresh = left_depth keep (is_outermost s c) (is_outermost t c) (ap (λ (n : ℕ). n == 1) (same.depth c))
  own_depth (Back depth) fresh = length-take depth (s.client c).levels ∙ (ap (min depth) (same.depth c) ∙ sym (length-take depth (t.client c).levels))
  own_depth (Next table index prefix cursor forward) fresh = same.depth c
  own_depth (Get table row) fresh = same.depth c
  own_depth (Lock table row exclusive wait) fresh = same.depth c
  own_depth (Insert table values) fresh = same.depth c
  own_depth (Put table row values) fresh = same.depth c
  own_depth (Delete table row) fresh = same.depth c
  own_depth (DropLock row) fresh = dropped_depth row.0 (depth_of s c == 0) (depth_of t c == 0)
  own_depth (NextValue sequence) fresh = same.depth c
  own_depth (CurrentValue sequence) fresh = same.depth c
  own_depth End fresh = refl

  left_locks : (keep : List RowId) (k : ℕ) (a b : Bool) → a ≡ b
      → is_exclusive (get (cond a (own_after_commit s c keep) (own_after_leave s c)).held k) ≡ is_exclusive (get (cond b (own_after_commit t c keep) (own_after_leave t c)).held k)
  left_locks keep k true true e = share_at _ keep (s.client c).held k ∙ sym (share_at _ keep (t.client c).held k)
  left_locks keep k false false e = same.exclusive c k
  left_locks keep k true false e = cc
  left_locks keep k false true e = cc

  dropped_locks : (row k : ℕ) (a b : Bool) → a ≡ b → is_exclusive (get (cond a (own_after_drop s c row) (s.client c)).held k) ≡ is_exclusive (get (cond b (own_after_drop t c row) (t.client c)).held k)
  dropped_locks row k true true e = removed_at (s.client c).held (t.client c).held row k (same.exclusive c)
  dropped_locks row k false false e = same.exclusive c k
  dropped_locks row k true false e = cc
  dropped_locks row k false true e = cc

  own_locks : (op : Op) (fresh k : ℕ) → is_exclusive (get (own_after f s c op fresh).held k) ≡ is_exclusive (get (own_after g t c op fresh).held k)
  own_locks Enter fresh k = same.exclusive c k
  own_locks (Leave keep) fresh k = left_locks keep k (is_outermost s c) (is_outermost t c) (ap (λ (n : ℕ). n == 1) (same.depth c))
  own_locks (Back depth) fresh k = same.exclusive c k
  own_locks (Next table index prefix cursor forward) fresh k = same.exclusive c k
  own_locks (Get table row) fresh k = same.exclusive c k
  own_locks (Lock table row exclusive wait) fresh k = granted_at (s.client c).held (t.client c).held row.0 k exclusive (same.exclusive c)
  own_locks (Insert table values) fresh k = inserted_at (s.client c).held (t.client c).held fresh k true (same.exclusive c)
  own_locks (Put table row values) fresh k = same.exclusive c k
  own_locks (Delete table row) fresh k = same.exclusive c k
  own_locks (DropLock row) fresh k = dropped_locks row.0 k (depth_of s c == 0) (depth_of t c == 0) (ap (λ (n : ℕ). n == 0) (same.depth c))
  own_locks (NextValue sequence) fresh k = same.exclusive c k
  own_locks (CurrentValue sequence) fresh k = same.exclusive c k
  own_locks End fresh k = refl

  -- ---- the state after an answer

  module _ (op : Op) (a : Answer) where
    answered_depth : (b : Bool) → length (cond b (own_after f s c op (row_of_answer a)) (s.client c)).levels ≡ length (cond b (own_after g t c op (row_of_answer a)) (t.client c)).levels
    answered_depth true = own_depth op (row_of_answer a)
    answered_depth false = same.depth c

    answered_locks : (k : ℕ) (b : Bool) → is_exclusive (get (cond b (own_after f s c op (row_of_answer a)) (s.client c)).held k) ≡ is_exclusive (get (cond b (own_after g t c op (row_of_answer a)) (t.client c)).held k)
    answered_locks k true = own_locks op (row_of_answer a) k
    answered_locks k false = same.exclusive c k

    depth_after : (d : ℕ) (b : Bool)
        → length (cond b (record (client_after f s c op a) { blocked = blocked_after s c op a }) (s.client d)).levels ≡ length (cond b (record (client_after g t c op a) { blocked = blocked_after t c op a }) (t.client d)).levels
    depth_after d true = answered_depth (is_success a)
    depth_after d false = same.depth d

    locks_after : (d k : ℕ) (b : Bool)
        → is_exclusive (get (cond b (record (client_after f s c op a) { blocked = blocked_after s c op a }) (s.client d)).held k) ≡ is_exclusive (get (cond b (record (client_after g t c op a) { blocked = blocked_after t c op a }) (t.client d)).held k)
    locks_after d k true = answered_locks k (is_success a)
    locks_after d k false = same.exclusive d k

    -- after one answer states with the same levels have the same levels
    pub levels_after : SameLevels (after f s c op a) (after g t c op a)
    levels_after = record { depth = λ d. depth_after d (d == c); exclusive = λ d k. locks_after d k (d == c) }

-- an answer that is no success changes no level and no lock
module _ (f : Setting) (s : State) (c : ℕ) (op : Op) (a : Answer) (fails : is_success a ≡ false) where
  kept_client : client_after f s c op a ≡ s.client c
  kept_client = ap (λ (b : Bool). cond b (own_after f s c op (row_of_answer a)) (s.client c)) fails

  still_depth : (d : ℕ) (b : Bool) → (b ≡ true → d ≡ c) → length (cond b (record (client_after f s c op a) { blocked = blocked_after s c op a }) (s.client d)).levels ≡ depth_of s d
  still_depth d true is = ap (λ (cl : Client). length cl.levels) kept_client ∙ ap (depth_of s) (sym (is refl))
  still_depth d false is = refl

  still_locks : (d k : ℕ) (b : Bool) → (b ≡ true → d ≡ c) → is_exclusive (get (cond b (record (client_after f s c op a) { blocked = blocked_after s c op a }) (s.client d)).held k) ≡ is_exclusive (lock_of s d k)
  still_locks d k true is = ap (λ (cl : Client). is_exclusive (get cl.held k)) kept_client ∙ ap (λ (e : ℕ). is_exclusive (lock_of s e k)) (sym (is refl))
  still_locks d k false is = refl

  same_client : (d : ℕ) → (d == c) ≡ true → d ≡ c
  same_client d e = elim (cases_eq d c) [ inl is ↦ is | inr ne ↦ let clash : true ≡ false = sym e ∙ ne_eqb d c ne in cc ]

  pub levels_stay : SameLevels (after f s c op a) s
  levels_stay = record { depth = λ d. still_depth d (d == c) (same_client d); exclusive = λ d k. still_locks d k (d == c) (same_client d) }

-- ---- the control data

pub levels_known : (f : Setting) (rows : RowState) (control : Control) (s : State) → Represents f rows control s → SameLevels (known control) s
levels_known f rows control s h = record {
  depth = λ c. known_depth control c ∙ sym (h.client c).depth;
  exclusive = λ c row. ap (λ (m : Held). is_exclusive (get m row)) (h.client c).held;
}

pub levels_control : (before after : Control) → SameControl before after → SameLevels (known after) (known before)
levels_control before after same = record {
  depth = λ c. known_depth after c ∙ (ap length (same.marks c) ∙ sym (known_depth before c));
  exclusive = λ c row. ap (λ (l : LockClient). is_exclusive (get l.held row)) (same.locks c);
}

pub levels_ended : (before after : Control) (c : ℕ) → EndsWait before c after → SameLevels (known after) (known before)
levels_ended before after c ends = record {
  depth = λ d. known_depth after d ∙ (ap length (marks d) ∙ sym (known_depth before d));
  exclusive = λ d row. ap (λ (m : Held). is_exclusive (get m row)) (held d);
}
  where
    marks : (d : ℕ) → marks_at after d ≡ marks_at before d
    marks d = elim (cases_eq d c) [
      | inl is ↦ ap (marks_at after) is ∙ (ends.client.own_marks ∙ ap (marks_at before) (sym is))
      | inr ne ↦ ends.client.marks d ne
    ]

    held : (d : ℕ) → (client_of after.locks d).held ≡ (client_of before.locks d).held
    held d = elim (cases_eq d c) [
      | inl is ↦ ap (λ (e : ℕ). (client_of after.locks e).held) is ∙ (ap (λ (l : LockClient). l.held) ends.client.own_lock ∙ ap (λ (e : ℕ). (client_of before.locks e).held) (sym is))
      | inr ne ↦ ap (λ (l : LockClient). l.held) (ends.client.lock d ne)
    ]

-- the count of frees is none of them
pub levels_counted : (control : Control) (frees : ℕ) → SameLevels (known (record control { frees = frees })) (known control)
levels_counted control frees = record { depth = λ c. refl; exclusive = λ c row. refl }

-- the end of a transaction
module _ (f : Setting) (before now : Control) (s : State) (c : ℕ) (keep staying : List RowId) (a : Answer) (success : is_success a ≡ true) (outermost : is_outermost s c ≡ true) (settles : Settles before c staying now) (same : SameLevels (known before) s) where
  abbrev left : State
  left = after f s c (Leave keep) a

  gone : client_after f s c (Leave keep) a ≡ own_after_commit s c keep
  gone = ap (λ (b : Bool). cond b (own_after f s c (Leave keep) (row_of_answer a)) (s.client c)) success ∙ ap (λ (b : Bool). cond b (own_after_commit s c keep) (own_after_leave s c)) outermost

  own_left : (d : ℕ) → d ≡ c → left.client d ≡ record (client_after f s c (Leave keep) a) { blocked = blocked_after s c (Leave keep) a }
  own_left d is = ap (λ (b : Bool). cond b (record (client_after f s c (Leave keep) a) { blocked = blocked_after s c (Leave keep) a }) (s.client d)) (eq-eqb d c is)

  other_left : (d : ℕ) → d ≢ c → left.client d ≡ s.client d
  other_left d ne = ap (λ (b : Bool). cond b (record (client_after f s c (Leave keep) a) { blocked = blocked_after s c (Leave keep) a }) (s.client d)) (ne_eqb d c ne)

  pub levels_settled : SameLevels (known now) left
  levels_settled = record {
    depth = λ d. elim (cases_eq d c) [
      | inl is ↦
          known_depth now d
          ∙ (ap (λ (e : ℕ). length (marks_at now e)) is
          ∙ (ap length settles.own_marks
          ∙ (sym (ap (λ (cl : Client). length cl.levels) gone) ∙ sym (ap (λ (cl : Client). length cl.levels) (own_left d is)))))
      | inr ne ↦ known_depth now d ∙ (ap length (settles.marks d ne) ∙ (sym (known_depth before d) ∙ (same.depth d ∙ sym (ap (λ (cl : Client). length cl.levels) (other_left d ne)))))
    ];
    exclusive = λ d row. elim (cases_eq d c) [
      | inl is ↦
          ap (λ (e : ℕ). is_exclusive (table_lock now.locks e row)) is
          ∙ (ap is_exclusive (settles.own_lock row)
          ∙ (settled_share (has_row staying row) (table_lock before.locks c row)
          ∙ (sym (share_at (committed_after s c (Leave keep)) keep (s.client c).held row)
          ∙ (sym (ap (λ (cl : Client). is_exclusive (get cl.held row)) gone) ∙ sym (ap (λ (cl : Client). is_exclusive (get cl.held row)) (own_left d is))))))
      | inr ne ↦ ap (λ (l : LockClient). is_exclusive (get l.held row)) (settles.lock d ne) ∙ (same.exclusive d row ∙ sym (ap (λ (cl : Client). is_exclusive (get cl.held row)) (other_left d ne)))
    ];
  }
