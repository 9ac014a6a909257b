-- Opening a level, and leaving an inner one.
use Rattle.std.proofs.Common.{◌≡◌, ◌≢◌, ℕ, zero, suc, ◌+◌, ◌-◌, ◌<◌, ◌==◌, ◌&&◌, Bool, true, false, cond, List, [], ◌∷◌, ◌++◌, length, take, drop, Option, None, refl, sym, ap, ◌∙◌, subst, inl, inr, arith}
use Rattle.std.specs.FinMap.{get, entries}
use Rattle.std.proofs.lemmas.Bool.{cases_eq, ne_eqb}
use Rattle.std.proofs.lemmas.List.{length_push}
use Rattle.abl_base.specs.declared.row.RowId.{RowId}
use Rattle.database_meaning.specs.declared.state.StoredRow.{StoredRow}
use Rattle.database_protocol.specs.declared.operation.Op.TheVariants.{Enter, Leave}
use Rattle.database_protocol.specs.declared.answer.Answer.TheVariants.{Done}
use Rattle.database_meaning.specs.Setting.{Setting}
use Rattle.database_meaning.specs.State.{State, Client, Overlay, depth_of}
use Rattle.database_meaning.specs.Steps.{after, is_outermost, own_after_commit, own_after_leave, frees_some, laid_on}
use Rattle.record_locks.specs.declared.locks.Client.{Client as LockClient}
use Rattle.record_locks.specs.Table.{client_of, lock_of}
use Rattle.row_store.specs.declared.store.RowChange.{RowChange}
use Rattle.row_store.specs.Changes.{RowsById, undone, change_at, copy_at, IsOverlay, AreCopies, AreMarks}
use Rattle.row_store.specs.Rows.{RowState, RowTransaction, Begins, IsObservable, IsConsistent}
use Rattle.db_core.specs.declared.control.Control.{Control}
use Rattle.db_core.specs.Represents.{Represents, IsSound, IsClient, marks_at, is_open}
use Rattle.db_core.specs.Moves.{OnlyClient, OnlyMarks, SameControl, Enters, EndsWait, BacksTo}
use Rattle.db_core.proofs.Clients.{client_as, client_stays, all_clients, still_observable}
use Rattle.db_core.proofs.Quiet.{represents_as}
use Rattle.db_core.proofs.Backs.{length_take_same, open_take}
use Rattle.db_core.proofs.Sound.{sound_more, open_as, marks_first, marks_more, open_more}

-- ---- lists

and_false : (a b : Bool) → a ≡ false → (a && b) ≡ false
and_false true b e = cc
and_false false b e = refl

take_all : {A : Type 0} (xs : List A) → take (length xs) xs ≡ xs
take_all [] = refl
take_all {A = A} (x ∷ xs) = ap (λ (r : List A). x ∷ r) (take_all xs)

drop_all : {A : Type 0} (xs : List A) → drop (length xs) xs ≡ []
drop_all [] = refl
drop_all (x ∷ xs) = drop_all xs

copies_more_level : (rows : RowsById) (changes : List RowChange) (marks : List ℕ) (copies : List Overlay) (overlay : Overlay) → IsOverlay overlay (change_at rows changes)
    → AreCopies rows changes marks copies → AreCopies rows changes (marks ++ length changes ∷ []) (copies ++ overlay ∷ [])
copies_more_level rows changes [] [] overlay here h = (at, tt)
  where
    same : copy_at rows changes (length changes) ≡ change_at rows changes
    same = ap (λ (later : List RowChange). change_at (undone later rows) (take (length changes) changes)) (drop_all changes) ∙ ap (change_at rows) (take_all changes)

    at : IsOverlay overlay (copy_at rows changes (length changes))
    at k = here k ∙ ap (λ (f : ℕ → Option (Option StoredRow)). f k) (sym same)
copies_more_level rows changes [] (copy ∷ copies) overlay here h = absurd h
copies_more_level rows changes (mark ∷ marks) [] overlay here h = absurd h
copies_more_level rows changes (mark ∷ marks) (copy ∷ copies) overlay here h = (h.0, copies_more_level rows changes marks copies overlay here h.1)

copies_first : (rows : RowsById) (changes : List RowChange) (marks : List ℕ) (copies : List Overlay) (n : ℕ) → AreCopies rows changes marks copies → AreCopies rows changes (take n marks) (take n copies)
copies_first rows changes marks copies zero h = tt
copies_first rows changes [] [] (suc n) h = h
copies_first rows changes [] (copy ∷ copies) (suc n) h = absurd h
copies_first rows changes (mark ∷ marks) [] (suc n) h = absurd h
copies_first rows changes (mark ∷ marks) (copy ∷ copies) (suc n) h = (h.0, copies_first rows changes marks copies n h.1)

-- ---- locks that stay

module _ (control now : Control) (c : ℕ) (levels : List ℕ) (only : OnlyClient control c levels (record { held = (client_of control.locks c).held; blocked = None }) now) where
  pub same_lock : (d k : ℕ) → lock_of now.locks d k ≡ lock_of control.locks d k
  same_lock d k = elim (cases_eq d c) [
    | inl is ↦ subst (λ (e : ℕ). lock_of now.locks e k ≡ lock_of control.locks e k) (sym is) (ap (λ (l : LockClient). get l.held k) only.own_lock)
    | inr ne ↦ ap (λ (l : LockClient). get l.held k) (only.lock d ne)
  ]

-- ---- a level that opens

-- the rows stay, and the client's transaction is begun
pub record Opens (rows new : RowState) (c : ℕ) : Type 0 where
  pub observable : new.observable ≡ rows.observable
  pub failed : new.failed ≡ rows.failed
  pub schema : new.schema ≡ rows.schema
  pub committed : new.committed ≡ rows.committed
  pub rows_stay : new.rows ≡ rows.rows
  pub others : (d : ℕ) → d ≢ c → new.transaction d ≡ rows.transaction d
  pub own : new.transaction c ≡ record (rows.transaction c) { begun = true }

module _ (rows new : RowState) (control now : Control) (c mark : ℕ) (sound : IsSound rows control) (settled : IsConsistent rows) (opens : Opens rows new c)
    (mark_is : mark ≡ length (rows.transaction c).changes) (enters : Enters control c mark now) where
  pub enter_sound : IsSound new now
  enter_sound =
      sound_more rows new control now c
      (record { schema = opens.schema; transaction = opens.others; marks = enters.client.marks; blocked = enters.client.blocked })
      (open_as rows new now c (marks_at control c ++ mark ∷ []) None _ opens.schema enters.client.own_marks enters.client.own_blocked opens.own
      (record {
        begun = sym (open_more (marks_at control c) mark);
        marks = subst (λ (m : ℕ). AreMarks 0 (marks_at control c ++ m ∷ []) (length (rows.transaction c).changes)) (sym mark_is) (marks_more 0 (length (rows.transaction c).changes) (marks_at control c) (sound.client c).marks);
        fits = tt;
      }))
      sound

  module _ (f : Setting) (s : State) (represents : Represents f rows control s) where
    abbrev entered : Client
    entered = record (s.client c) { levels = (s.client c).levels ++ (s.client c).overlay ∷ []; blocked = None }

    own_client : IsClient new (marks_at control c ++ mark ∷ []) None (record { held = (client_of control.locks c).held; blocked = None }) (record (rows.transaction c) { begun = true }) entered
    own_client =
        let h = represents.client c in
        let before : IsObservable new → IsObservable rows = still_observable rows new opens.observable opens.failed in
        record {
          held = h.held;
          waits = refl;
          blocked = λ observable. refl;
          depth = length_push (s.client c).levels (s.client c).overlay ∙ (ap (λ (n : ℕ). n + 1) h.depth ∙ sym (length_push (marks_at control c) mark));
          reserved = λ observable k. h.reserved (sym opens.observable ∙ observable) k;
          drawn = λ seen. h.drawn (before seen);
          written = λ seen. h.written (before seen);
          overlay = λ seen. subst (λ (r : RowsById). IsOverlay (s.client c).overlay (change_at r (rows.transaction c).changes)) (sym opens.rows_stay) (h.overlay (before seen));
          copies = λ seen.
              subst (λ (r : RowsById). AreCopies r (rows.transaction c).changes (marks_at control c ++ mark ∷ []) entered.levels) (sym opens.rows_stay)
              (subst (λ (m : ℕ). AreCopies rows.rows (rows.transaction c).changes (marks_at control c ++ m ∷ []) entered.levels) (sym mark_is)
              (copies_more_level rows.rows (rows.transaction c).changes (marks_at control c) (s.client c).levels (s.client c).overlay (h.overlay (before seen)) (h.copies (before seen))));
          locked = λ seen k touched. h.locked (before seen) k touched;
          there = λ seen k b held none. h.there (before seen) k b held (ap (λ (r : RowsById). r k) (sym opens.rows_stay) ∙ none);
        }

    pub enter_represents : Represents f new now (after f s c Enter Done)
    enter_represents = record {
      schema = represents.schema ∙ sym opens.schema;
      clients = represents.clients ∙ sym enters.client.count;
      client = all_clients new now s c entered
          (client_as new _ _ _ _ _ _ _ _ entered enters.client.own_marks enters.client.own_blocked enters.client.own_lock opens.own own_client)
          (λ d ne. client_as new _ _ _ _ _ _ _ _ (s.client d) (enters.client.marks d ne) (enters.client.blocked d ne) (enters.client.lock d ne) (opens.others d ne)
          (client_stays rows new _ _ _ _ (s.client d) opens.observable opens.failed (settled.touched d) (λ seen k b held. ap (λ (r : RowsById). r k) opens.rows_stay) (represents.client d)));
      apart = λ seen q a b ne e.
          same_lock control now c _ enters.client b q ∙ represents.apart (still_observable rows new opens.observable opens.failed seen) q a b ne (sym (same_lock control now c _ enters.client a q) ∙ e);
      committed = λ observable k. represents.committed (sym opens.observable ∙ observable) k ∙ ap (λ (r : RowsById). r k) (sym opens.committed);
      sequences = ap (λ v. v.items) enters.sequences ∙ represents.sequences;
      frees = λ observable. enters.frees ∙ represents.frees (sym opens.observable ∙ observable);
    }

-- ---- an inner level that is left

module _ (rows : RowState) (control now : Control) (c depth : ℕ) (sound : IsSound rows control) (depth_is : length (marks_at control c) ≡ suc (suc depth)) (goes : BacksTo control c (suc depth) now) where
  pub leave_sound : IsSound rows now
  leave_sound =
      sound_more rows rows control now c
      (record { schema = refl; transaction = λ d ne. refl; marks = goes.client.marks; blocked = goes.client.blocked })
      (open_as rows rows now c (take (suc depth) (marks_at control c)) None _ refl goes.client.own_marks goes.client.own_blocked refl
      (record {
        begun = (sound.client c).begun ∙ sym (open_take (marks_at control c) depth);
        marks = marks_first 0 (length (rows.transaction c).changes) (marks_at control c) (suc depth) (sound.client c).marks;
        fits = tt;
      }))
      sound

  module _ (f : Setting) (s : State) (keep : List RowId) (represents : Represents f rows control s) where
    abbrev inner : Client
    inner = record (s.client c) { levels = take (suc depth) (s.client c).levels; blocked = None }

    inner_client : IsClient rows (take (suc depth) (marks_at control c)) None (record { held = (client_of control.locks c).held; blocked = None }) (rows.transaction c) inner
    inner_client =
        let h = represents.client c in
        record {
          held = h.held;
          waits = refl;
          blocked = λ observable. refl;
          depth = length_take_same (s.client c).levels (marks_at control c) (suc depth) h.depth;
          reserved = h.reserved;
          drawn = h.drawn;
          written = h.written;
          overlay = h.overlay;
          copies = λ seen. copies_first rows.rows (rows.transaction c).changes (marks_at control c) (s.client c).levels (suc depth) (h.copies seen);
          locked = h.locked;
          there = h.there;
        }

    abbrev up : State
    up = record s { client = λ d. cond (d == c) inner (s.client d) }

    up_represents : Represents f rows now up
    up_represents = record {
      schema = represents.schema;
      clients = represents.clients ∙ sym goes.client.count;
      client = all_clients rows now s c inner
          (client_as rows _ _ _ _ _ _ (rows.transaction c) _ inner goes.client.own_marks goes.client.own_blocked goes.client.own_lock refl inner_client)
          (λ d ne. client_as rows _ _ _ _ _ _ (rows.transaction d) _ (s.client d) (goes.client.marks d ne) (goes.client.blocked d ne) (goes.client.lock d ne) refl (represents.client d));
      apart = λ seen q a b ne e. same_lock control now c _ goes.client b q ∙ represents.apart seen q a b ne (sym (same_lock control now c _ goes.client a q) ∙ e);
      committed = represents.committed;
      sequences = ap (λ v. v.items) goes.sequences ∙ represents.sequences;
      frees = λ observable. goes.frees ∙ represents.frees observable;
    }

    depth_now : depth_of s c ≡ suc (suc depth)
    depth_now = (represents.client c).depth ∙ depth_is

    less : depth_of s c - 1 ≡ suc depth
    less = let is : depth_of s c ≡ suc (suc depth) = depth_now in omega arith

    is_inner : is_outermost s c ≡ false
    is_inner = ne_eqb (depth_of s c) 1 (λ e. let is : depth_of s c ≡ suc (suc depth) = depth_now in absurd (omega arith))

    client_is : (after f s c (Leave keep) Done).client ≡ up.client
    client_is =
        ap (λ (b : Bool). λ (d : ℕ). cond (d == c) (record (cond b (own_after_commit s c keep) (own_after_leave s c)) { blocked = None }) (s.client d)) is_inner
        ∙ ap (λ (n : ℕ). λ (d : ℕ). cond (d == c) (record (s.client c) { levels = take n (s.client c).levels; blocked = None }) (s.client d)) less

    committed_is : (after f s c (Leave keep) Done).committed ≡ s.committed
    committed_is = ap (λ (b : Bool). cond b (laid_on (entries (s.client c).overlay) s.committed) s.committed) is_inner

    none_freed : frees_some s c (Leave keep) ≡ false
    none_freed = and_false (is_outermost s c) _ is_inner

    frees_is : (after f s c (Leave keep) Done).frees ≡ s.frees
    frees_is = ap (λ (b : Bool). cond b (s.frees + 1) s.frees) none_freed

    pub leave_represents : Represents f rows now (after f s c (Leave keep) Done)
    leave_represents = represents_as f rows now up (after f s c (Leave keep) Done) committed_is refl client_is frees_is up_represents

-- ---- marks in the control data

pub two_levels : (n : ℕ) → 1 < n → (depth : ℕ) × (n ≡ suc (suc depth))
two_levels zero lt = absurd (omega arith)
two_levels (suc zero) lt = absurd (omega arith)
two_levels (suc (suc n)) lt = (n, refl)

-- marks that change and a request that ends, in one
only_client : (old middle now : Control) (c : ℕ) (levels : List ℕ) → OnlyMarks old c levels middle → EndsWait middle c now
    → OnlyClient old c levels (record { held = (client_of old.locks c).held; blocked = None }) now
only_client old middle now c levels marks ends = record {
  own_marks = ends.client.own_marks ∙ marks.own;
  own_blocked = ends.client.own_blocked;
  own_lock = ends.client.own_lock ∙ ap (λ (l : List LockClient). record { held = (client_of l c).held; blocked = None }) marks.locks;
  marks = λ d ne. ends.client.marks d ne ∙ marks.marks d ne;
  blocked = λ d ne. ends.client.blocked d ne ∙ marks.blocked d;
  lock = λ d ne. ends.client.lock d ne ∙ ap (λ (l : List LockClient). client_of l d) marks.locks;
  count = ends.client.count ∙ marks.count;
}

pub enters_of : (old middle now : Control) (c mark : ℕ) → OnlyMarks old c (marks_at old c ++ mark ∷ []) middle → EndsWait middle c now → Enters old c mark now
enters_of old middle now c mark marks ends = record {
  client = only_client old middle now c (marks_at old c ++ mark ∷ []) marks ends;
  sequences = ends.sequences ∙ marks.sequences;
  frees = ends.frees ∙ marks.frees;
}

pub backs_of : (old middle now : Control) (c depth : ℕ) → length (marks_at old c) ≡ suc (suc depth) → OnlyMarks old c (take (length (marks_at old c) - 1) (marks_at old c)) middle → EndsWait middle c now
    → BacksTo old c (suc depth) now
backs_of old middle now c depth is marks ends =
    let less : length (marks_at old c) - 1 ≡ suc depth = omega arith in
    let those : OnlyMarks old c (take (suc depth) (marks_at old c)) middle = subst (λ (n : ℕ). OnlyMarks old c (take n (marks_at old c)) middle) less marks in
    record {
      client = only_client old middle now c (take (suc depth) (marks_at old c)) those ends;
      sequences = ends.sequences ∙ those.sequences;
      frees = ends.frees ∙ those.frees;
    }

take_pushed : {A : Type 0} (xs : List A) (x : A) → take (length (xs ++ x ∷ []) - 1) (xs ++ x ∷ []) ≡ xs
take_pushed xs x = let less : length (xs ++ x ∷ []) - 1 ≡ length xs = omega (arith, length_push xs x) in ap (λ (n : ℕ). take n (xs ++ x ∷ [])) less ∙ exact xs x
  where
    exact : {A : Type 0} (xs : List A) (x : A) → take (length xs) (xs ++ x ∷ []) ≡ xs
    exact [] x = refl
    exact {A = A} (y ∷ xs) x = ap (λ (r : List A). y ∷ r) (exact xs x)

-- a mark that is pushed and popped
pub popped_same : (old middle now : Control) (c mark : ℕ) → OnlyMarks old c (marks_at old c ++ mark ∷ []) middle → OnlyMarks middle c (take (length (marks_at middle c) - 1) (marks_at middle c)) now → SameControl old now
popped_same old middle now c mark pushed popped = record {
  locks = λ d. ap (λ (l : List LockClient). client_of l d) (popped.locks ∙ pushed.locks);
  marks = λ d. elim (cases_eq d c) [
    | inl is ↦
        subst (λ (e : ℕ). marks_at now e ≡ marks_at old e) (sym is)
        (popped.own ∙ (ap (λ (m : List ℕ). take (length m - 1) m) pushed.own ∙ take_pushed (marks_at old c) mark))
    | inr ne ↦ popped.marks d ne ∙ pushed.marks d ne
  ];
  blocked = λ d. popped.blocked d ∙ pushed.blocked d;
  count = popped.count ∙ pushed.count;
  sequences = popped.sequences ∙ pushed.sequences;
  frees = popped.frees ∙ pushed.frees;
}

-- a transaction that begins, and one that is begun already
pub begins_opens : (rows new : RowState) (c : ℕ) → IsConsistent rows → (rows.transaction c).begun ≡ false → Begins rows new c → Opens rows new c
begins_opens rows new c settled idle begins = record {
  observable = begins.base.observable;
  failed = begins.base.failed;
  schema = begins.base.schema;
  committed = begins.base.committed;
  rows_stay = begins.rows;
  others = begins.transaction.others;
  own = begins.transaction.own ∙ ap (λ (t : RowTransaction). record t { begun = true }) (sym (settled.idle c idle));
}

pub begun_opens : (rows : RowState) (c : ℕ) → (rows.transaction c).begun ≡ true → Opens rows rows c
begun_opens rows c begun = record {
  observable = refl;
  failed = refl;
  schema = refl;
  committed = refl;
  rows_stay = refl;
  others = λ d ne. refl;
  own = ap (λ (b : Bool). record (rows.transaction c) { begun = b }) begun;
}

pub some_open : (marks : List ℕ) → length marks ≢ 0 → is_open marks ≡ true
some_open [] ne = absurd (ne refl)
some_open (mark ∷ marks) ne = refl
