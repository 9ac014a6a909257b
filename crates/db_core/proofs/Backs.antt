-- Going back to a level.
use Rattle.std.proofs.Common.{◌≡◌, ◌≢◌, ℕ, zero, suc, ◌-◌, ◌<◌, ◌≤◌, ◌==◌, ◌||◌, Bool, true, false, List, [], ◌∷◌, length, take, drop, get_or, slice_get, Some, None, refl, sym, ap, ◌∙◌, subst, inl, inr, arith}
use Rattle.std.specs.Prelude.{IsTrue}
use Rattle.std.specs.FinMap.{get}
use Rattle.std.proofs.lemmas.Bool.{cases_eq}
use Rattle.std.proofs.lemmas.Option.{slice_get_read}
use Rattle.database_protocol.specs.declared.operation.Op.TheVariants.{Back}
use Rattle.database_protocol.specs.declared.answer.Answer.TheVariants.{Done}
use Rattle.database_meaning.specs.Setting.{Setting}
use Rattle.database_meaning.specs.State.{State, Client}
use Rattle.database_meaning.specs.Steps.{after, copy_of_level}
use Rattle.record_locks.specs.declared.locks.Client.{Client as LockClient}
use Rattle.record_locks.specs.Table.{client_of, lock_of, AreApart}
use Rattle.row_store.specs.declared.store.RowChange.{RowChange}
use Rattle.row_store.specs.Changes.{RowsById, has_change, change_at, copy_at, IsOverlay, AreCopies, AreMarks}
use Rattle.row_store.specs.Rows.{RowState, RowTransaction, IsObservable, IsConsistent, GoesBack}
use Rattle.row_store.proofs.Copies.{undone_other, copy_of, copies_back, marks_rise, mark_at}
use Rattle.db_core.specs.declared.control.Control.{Control}
use Rattle.db_core.specs.declared.control.Session.{Session}
use Rattle.db_core.specs.Represents.{Represents, IsSound, IsOpen, IsClient, marks_at, marks_in, blocked_at, is_open}
use Rattle.db_core.specs.Moves.{BacksTo}
use Rattle.db_core.proofs.Clients.{client_stays, client_as, still_observable, untouched_where_held, all_clients}

-- ---- lists

pub length_take_same : {A B : Type 0} (xs : List A) (ys : List B) (n : ℕ) → length xs ≡ length ys → length (take n xs) ≡ length (take n ys)
length_take_same xs ys zero e = refl
length_take_same [] [] (suc n) e = refl
length_take_same [] (y ∷ ys) (suc n) e = absurd (omega arith)
length_take_same (x ∷ xs) [] (suc n) e = absurd (omega arith)
length_take_same (x ∷ xs) (y ∷ ys) (suc n) e = let rest : length (take n xs) ≡ length (take n ys) = length_take_same xs ys n (omega arith) in omega arith

length_take_all : {A : Type 0} (xs : List A) (n : ℕ) → n ≤ length xs → length (take n xs) ≡ n
length_take_all xs zero le = refl
length_take_all [] (suc n) le = absurd (omega arith)
length_take_all (x ∷ xs) (suc n) le = let rest : length (take n xs) ≡ n = length_take_all xs n (omega arith) in omega arith

has_change_drop : (changes : List RowChange) (n k : ℕ) → has_change changes k ≡ false → has_change (drop n changes) k ≡ false
has_change_drop changes zero k e = e
has_change_drop [] (suc n) k e = e
has_change_drop (c ∷ changes) (suc n) k e = has_change_drop changes n k (below (k == c.row) (has_change changes k) e)
  where
    below : (a b : Bool) → (a || b) ≡ false → b ≡ false
    below true b e = cc
    below false b e = e

is_false : (b : Bool) → (IsTrue b → ⊥) → b ≡ false
is_false true h = absurd (h refl)
is_false false h = refl

marks_take : (low high : ℕ) (marks : List ℕ) (i : ℕ) → AreMarks low marks high → i < length marks → AreMarks low (take (suc i) marks) (get_or marks i 0)
marks_take low high [] i m lt = absurd (omega arith)
marks_take low high (mark ∷ marks) zero m lt = (m.0, omega arith)
marks_take low high (mark ∷ marks) (suc i) m lt = (m.0, marks_take mark high marks i m.1 (omega arith))

pub open_take : (marks : List ℕ) (i : ℕ) → is_open (take (suc i) marks) ≡ is_open marks
open_take [] i = refl
open_take (mark ∷ marks) i = refl

-- the mark that the code read is the level's
pub mark_found : (control : Control) (c at : ℕ) (session : Session) (i mark : ℕ) → at ≡ c → c < length control.sessions.items → session ≡ get_or control.sessions.items at session → mark ≡ get_or session.marks.items i mark
    → i < length (marks_at control c) → mark ≡ get_or (marks_at control c) i 0
mark_found control c at session i mark same known session_is mark_is lt =
    let here : slice_get control.sessions.items c ≡ Some session = slice_get_read control.sessions.items (length control.sessions.items) c session refl known (session_is ∙ ap (λ (n : ℕ). get_or control.sessions.items n session) same) in
    let marks : marks_at control c ≡ session.marks.items = ap marks_in here in
    let there : i < length session.marks.items = subst (λ (m : List ℕ). i < length m) marks lt in
    mark_is ∙ (any_default session.marks.items i mark 0 there ∙ ap (λ (m : List ℕ). get_or m i 0) (sym marks))
  where
    any_default : (xs : List ℕ) (i d e : ℕ) → i < length xs → get_or xs i d ≡ get_or xs i e
    any_default [] i d e lt = absurd (omega arith)
    any_default (x ∷ xs) zero d e lt = refl
    any_default (x ∷ xs) (suc i) d e lt = any_default xs i d e (omega arith)

pub within_mark : (rows : RowState) (control : Control) (c depth mark : ℕ) → IsSound rows control → 0 < depth → depth ≤ length (marks_at control c) → mark ≡ get_or (marks_at control c) (depth - 1) 0 → mark ≤ length (rows.transaction c).changes
within_mark rows control c depth mark sound level there is =
    let here = mark_at 0 (length (rows.transaction c).changes) (marks_at control c) (sound.client c).marks (depth - 1) (omega arith) in
    subst (λ (n : ℕ). n ≤ length (rows.transaction c).changes) (sym is) here.1

same_apart : (old new : List LockClient) → ((d k : ℕ) → lock_of new d k ≡ lock_of old d k) → AreApart old → AreApart new
same_apart old new same apart row c d ne e = same d row ∙ apart row c d ne (sym (same c row) ∙ e)

module _ (rows new : RowState) (control now : Control) (c depth mark : ℕ)
    (sound : IsSound rows control) (settled : IsConsistent rows) (level : 0 < depth) (open_so : depth ≤ length (marks_at control c))
    (mark_is : mark ≡ get_or (marks_at control c) (depth - 1) 0) (back : GoesBack rows new c mark) (goes : BacksTo control c depth now) where
  abbrev marks : List ℕ
  marks = marks_at control c

  abbrev changes : List RowChange
  changes = (rows.transaction c).changes

  at_mark : (low : ℕ) → AreMarks 0 marks low → mark ≤ low
  at_mark low m = let here = mark_at 0 low marks m (depth - 1) (omega arith) in subst (λ (n : ℕ). n ≤ low) (sym mark_is) here.1

  -- ---- the control data and the transactions

  pub back_sound : IsSound new now
  back_sound = record {
    client = λ d. elim (cases_eq d c) [
      | inl is ↦ subst (λ (e : ℕ). IsOpen new.schema (marks_at now e) (blocked_at now e) (new.transaction e)) (sym is) own
      | inr ne ↦ other d ne
    ];
  }
    where
      step : suc (depth - 1) ≡ depth
      step = omega arith

      own : IsOpen new.schema (marks_at now c) (blocked_at now c) (new.transaction c)
      own =
          let was = sound.client c in
          let taken : IsOpen new.schema (take (suc (depth - 1)) marks) None (record (rows.transaction c) { changes = take mark changes }) = record {
            begun = was.begun ∙ sym (open_take marks (depth - 1));
            marks = subst (λ (n : ℕ). AreMarks 0 (take (suc (depth - 1)) marks) n) (sym mark_is ∙ sym (length_take_all changes mark (at_mark (length changes) was.marks)))
                (marks_take 0 (length changes) marks (depth - 1) was.marks (omega arith));
            fits = tt;
          } in
          subst (λ (t : RowTransaction). IsOpen new.schema (marks_at now c) (blocked_at now c) t) (sym back.transaction.own)
          (subst (λ w. IsOpen new.schema (marks_at now c) w (record (rows.transaction c) { changes = take mark changes })) (sym goes.client.own_blocked)
          (subst (λ (m : List ℕ). IsOpen new.schema m None (record (rows.transaction c) { changes = take mark changes })) (ap (λ (n : ℕ). take n marks) step ∙ sym goes.client.own_marks) taken))

      other : (d : ℕ) → d ≢ c → IsOpen new.schema (marks_at now d) (blocked_at now d) (new.transaction d)
      other d ne =
          let was = sound.client d in
          subst (λ x. IsOpen x (marks_at now d) (blocked_at now d) (new.transaction d)) (sym back.base.schema)
          (subst (λ (t : RowTransaction). IsOpen rows.schema (marks_at now d) (blocked_at now d) t) (sym (back.transaction.others d ne))
          (subst (λ w. IsOpen rows.schema (marks_at now d) w (rows.transaction d)) (sym (goes.client.blocked d ne))
          (subst (λ (m : List ℕ). IsOpen rows.schema m (blocked_at control d) (rows.transaction d)) (sym (goes.client.marks d ne)) was)))

  -- ---- the state

  -- rows that the client does not name stay
  stay : IsObservable rows → (k : ℕ) → (rows.transaction c).touched k ≡ false → new.rows k ≡ rows.rows k
  stay seen k untouched =
      let free : has_change changes k ≡ false = is_false _ (λ h. let clash : true ≡ false = sym (settled.touched c k h) ∙ untouched in cc) in
      ap (λ (r : RowsById). r k) (back.rows seen) ∙ undone_other (drop mark changes) rows.rows k (has_change_drop changes mark k free)

  module _ (f : Setting) (s : State) (represents : Represents f rows control s) where
    abbrev gone_back : Client
    gone_back = record (s.client c) { overlay = copy_of_level (s.client c).levels depth; levels = take depth (s.client c).levels; blocked = None }

    own_client : IsClient new (take depth marks) None (record { held = (client_of control.locks c).held; blocked = None }) (record (rows.transaction c) { changes = take mark changes }) gone_back
    own_client =
        let h = represents.client c in
        let m = (sound.client c).marks in
        let before : IsObservable new → IsObservable rows = still_observable rows new back.base.observable back.base.failed in
        record {
          held = h.held;
          waits = refl;
          blocked = λ observable. refl;
          depth = length_take_same (s.client c).levels marks depth h.depth;
          reserved = λ observable k. h.reserved (sym back.base.observable ∙ observable) k;
          drawn = λ seen. h.drawn (before seen);
          written = λ seen. h.written (before seen);
          overlay = λ seen.
              let copy = copy_of rows.rows changes marks (s.client c).levels (depth - 1) (h.copies (before seen)) (omega arith) in
              let at : IsOverlay (copy_of_level (s.client c).levels depth) (copy_at rows.rows changes mark) =
              subst (λ (n : ℕ). IsOverlay (copy_of_level (s.client c).levels depth) (copy_at rows.rows changes n)) (sym mark_is) copy in
              subst (λ (r : RowsById). IsOverlay (copy_of_level (s.client c).levels depth) (change_at r (take mark changes))) (sym (back.rows (before seen))) at;
          copies = λ seen.
              let all = copies_back rows.rows changes mark 0 (length changes) marks (s.client c).levels depth (h.copies (before seen)) m
              (λ i lt there. subst (λ (n : ℕ). get_or marks i 0 ≤ n) (sym mark_is) (marks_rise 0 (length changes) marks m i (depth - 1) (omega arith) (omega arith))) in
              subst (λ (r : RowsById). AreCopies r (take mark changes) (take depth marks) (take depth (s.client c).levels)) (sym (back.rows (before seen))) all;
          locked = λ seen k there. h.locked (before seen) k there;
          there = λ seen k b held none. touched_or_there seen k b held none ((rows.transaction c).touched k) refl;
        }
      where
        touched_or_there : IsObservable new → (k : ℕ) (b : Bool) → get (s.client c).held k ≡ Some b → new.rows k ≡ None → (n : Bool) → (rows.transaction c).touched k ≡ n → (rows.transaction c).touched k ≡ true
        touched_or_there seen k b held none true is = is
        touched_or_there seen k b held none false is =
            let was : IsObservable rows = still_observable rows new back.base.observable back.base.failed seen in
            (represents.client c).there was k b held (sym (stay was k is) ∙ none)

    abbrev left : State
    left = after f s c (Back depth) Done

    at_client : (d : ℕ) → IsClient new (marks_at now d) (blocked_at now d) (client_of now.locks d) (new.transaction d) (left.client d)
    at_client =
        all_clients new now s c gone_back
        (client_as new _ _ _ _ _ _ _ _ gone_back goes.client.own_marks goes.client.own_blocked goes.client.own_lock back.transaction.own own_client)
        (λ d ne.
        client_as new _ _ _ _ _ _ _ _ (s.client d) (goes.client.marks d ne) (goes.client.blocked d ne) (goes.client.lock d ne) (back.transaction.others d ne)
        (client_stays rows new _ _ _ _ (s.client d) back.base.observable back.base.failed (settled.touched d)
        (λ seen k b held. stay seen k (untouched_where_held f rows control s represents seen c d k b ne held)) (represents.client d)))

    same_lock : (d k : ℕ) → lock_of now.locks d k ≡ lock_of control.locks d k
    same_lock d k = elim (cases_eq d c) [
      | inl is ↦ subst (λ (e : ℕ). lock_of now.locks e k ≡ lock_of control.locks e k) (sym is) (ap (λ (l : LockClient). get l.held k) goes.client.own_lock)
      | inr ne ↦ ap (λ (l : LockClient). get l.held k) (goes.client.lock d ne)
    ]

    pub back_represents : Represents f new now (after f s c (Back depth) Done)
    back_represents = record {
      schema = represents.schema ∙ sym back.base.schema;
      clients = represents.clients ∙ sym goes.client.count;
      client = at_client;
      apart = λ seen. same_apart control.locks now.locks (λ d k. same_lock d k) (represents.apart (still_observable rows new back.base.observable back.base.failed seen));
      committed = λ observable k. represents.committed (sym back.base.observable ∙ observable) k ∙ ap (λ (r : RowsById). r k) (sym back.base.committed);
      sequences = ap (λ v. v.items) goes.sequences ∙ represents.sequences;
      frees = λ observable. goes.frees ∙ represents.frees (sym back.base.observable ∙ observable);
    }
