-- Reserved keys of different clients differ, where no two rows had one key as the database was opened.
use Rattle.std.proofs.Common.{◌≡◌, ◌⊎◌, ℕ, zero, suc, ◌+◌, ◌-◌, ◌<◌, Bool, true, false, cond, List, [], ◌∷◌, ◌++◌, length, take, Option, Some, None, refl, sym, ap, ◌∙◌, subst, inl, inr, arith, nat_cmp, eqb, eqb-true, get_or, length-append, length-take}
use Rattle.std.specs.FinMap.{get, insert, empty, entries, get-empty, get-entries}
use Rattle.std.proofs.lemmas.Bool.{cases_eq, cases_lt}
use Rattle.std.proofs.lemmas.Bool.{cases_Bool}
use Rattle.abl_base.specs.declared.row.RowId.{RowId}
use Rattle.database_meaning.specs.declared.state.StoredRow.{StoredRow}
use Rattle.database_meaning.specs.declared.state.Key.{Key}
use Rattle.database_meaning.specs.declared.state.BlockedRequest.{BlockedRequest}
use Rattle.database_meaning.specs.Setting.{Setting, unique_keys, has_key, keys_without}
use Rattle.database_meaning.specs.State.{State, Client, Rows, Overlay, Held, view, lock_of, laid, over, depth_of}
use Rattle.database_meaning.specs.Waiting.{LocksConflict, row_in}
use Rattle.database_meaning.specs.Answers.{Answers, IsRefused, HasDuplicate, HasDuplicates}
use Rattle.database_meaning.specs.Steps.{own_after, own_after_commit, own_after_leave, own_after_drop, is_outermost, is_success, row_of_answer, after, client_after, blocked_after, committed_after, laid_on, reserving}
use Rattle.database_meaning.specs.Traces.{rows_of, state_after, Follows, opened, IsLegal, left_by}
use Rattle.database_meaning.specs.declared.contents.Contents.{Contents}
use Rattle.database_protocol.specs.declared.event.Event.{Event}
use Rattle.abl_base.specs.declared.value.Value.{Value}
use Rattle.database_protocol.specs.declared.operation.Op.{Op}
use Rattle.database_protocol.specs.declared.operation.Op.TheVariants.{Enter, Leave, Back, Next, Get, Lock, Insert, Put, Delete, Drop as DropLock, NextValue, CurrentValue, End}
use Rattle.database_protocol.specs.declared.answer.Answer.{Answer}
use Rattle.database_meaning.proofs.Maps.{get_insert_same, get_insert_other, insert_cases, empty_cases, get_laid_on}
use Rattle.database_meaning.proofs.Keys.{Has, has_left, has_right, has_cases, has_without, without_cases}
use Rattle.database_meaning.proofs.TableRows.{Success, success_of}
use Rattle.database_meaning.proofs.Own.{Covers, CoversAll, Grows, sound, stable_lt, stable_true, grows_lock, grows_true}
use Rattle.database_meaning.proofs.Good.{Good, good_step, good_opened, self_after, other_after}
use Rattle.database_meaning.proofs.LockedReads.{laid_one, others_lack}

no_keys : (f : Setting) (k : Key) → has_key (unique_keys f.schema None) k ≡ false
unfolding unique_keys
no_keys f k = refl

-- ---- what a transaction keeps

module _ (f : Setting) where
  abbrev pub keys : Option StoredRow → List Key
  keys o = unique_keys f.schema o

  reserved_still : (old new : Option StoredRow) (reserved_keys : List Key) (k : Key) → Has reserved_keys k → Has (reserving f old new reserved_keys) k
  reserved_still old new reserved_keys k h = has_right (keys_without (keys new) (keys old)) _ k (has_right (keys_without (keys old) (keys new)) reserved_keys k h)

  reserved_entered : (old new : Option StoredRow) (reserved_keys : List Key) (k : Key) → Has (keys new) k → has_key (keys old) k ≡ false → Has (reserving f old new reserved_keys) k
  reserved_entered old new reserved_keys k h e = has_left (keys_without (keys new) (keys old)) _ k (has_without (keys new) (keys old) k h e)

  reserved_left : (old new : Option StoredRow) (reserved_keys : List Key) (k : Key) → Has (keys old) k → has_key (keys new) k ≡ false → Has (reserving f old new reserved_keys) k
  reserved_left old new reserved_keys k h e = has_right (keys_without (keys new) (keys old)) _ k (has_left (keys_without (keys old) (keys new)) reserved_keys k (has_without (keys old) (keys new) k h e))

  reserved_cases : (old new : Option StoredRow) (reserved_keys : List Key) (k : Key) → Has (reserving f old new reserved_keys) k → (Has (keys new) k × (has_key (keys old) k ≡ false)) ⊎ (Has (keys old) k ⊎ Has reserved_keys k)
  reserved_cases old new reserved_keys k h =
      elim (has_cases (keys_without (keys new) (keys old)) _ k h) [
        | inl e ↦ inl (without_cases (keys new) (keys old) k e)
        | inr r ↦ elim (has_cases (keys_without (keys old) (keys new)) reserved_keys k r) [
          | inl l ↦ inr (inl (without_cases (keys old) (keys new) k l).0)
          | inr t ↦ inr (inr t)
        ]
      ]

  -- ---- one version of a client's changes

  -- each key that a change adds to the committed row or takes from it is reserved
  abbrev pub Adds : List Key → Rows → Overlay → Type 0
  Adds reserved_keys rows overlay = (row : ℕ) (change : Option StoredRow) (k : Key) → get overlay row ≡ Some change → Has (keys change) k → Has (keys (get rows row)) k ⊎ Has reserved_keys k

  abbrev pub Takes : List Key → Rows → Overlay → Type 0
  Takes reserved_keys rows overlay = (row : ℕ) (change : Option StoredRow) (k : Key) → get overlay row ≡ Some change → Has (keys (get rows row)) k → Has (keys change) k ⊎ Has reserved_keys k

  -- no two rows have one key
  abbrev pub One : Rows → Overlay → Type 0
  One rows overlay = (r q : ℕ) (k : Key) → Has (keys (over (get overlay r) (get rows r))) k → Has (keys (over (get overlay q) (get rows q))) k → r ≡ q

  pub record Version (reserved_keys : List Key) (rows : Rows) (overlay : Overlay) : Type 0 where
    pub adds : Adds reserved_keys rows overlay
    pub takes : Takes reserved_keys rows overlay
    pub one : One rows overlay

  abbrev pub Versions : List Key → Rows → List Overlay → Type 0
  Versions reserved_keys rows [] = Unit {0}
  Versions reserved_keys rows (o ∷ os) = Version reserved_keys rows o × Versions reserved_keys rows os

  pub record OwnKeys (rows : Rows) (cl : Client) : Type 0 where
    pub now : Version cl.reserved_keys rows cl.overlay
    pub copies : Versions cl.reserved_keys rows cl.levels
    pub guarded : (row : ℕ) (k : Key) → Has cl.reserved_keys k → Has (keys (get rows row)) k → get cl.held row ≡ Some true
    pub idle : length cl.levels ≡ 0 → (k : Key) → ¬ Has cl.reserved_keys k

  abbrev pub OneEach : Rows → Type 0
  OneEach rows = (r q : ℕ) (k : Key) → Has (keys (get rows r)) k → Has (keys (get rows q)) k → r ≡ q

  pub record GoodKeys (s : State) : Type 0 where
    pub own : (c : ℕ) → OwnKeys s.committed (s.client c)
    pub apart : (c d : ℕ) (k : Key) → (c ≡ d → ⊥) → Has (s.client c).reserved_keys k → ¬ Has (s.client d).reserved_keys k
    pub one_each : OneEach s.committed

  -- ---- versions

  version_grow : (reserved_keys more : List Key) (rows : Rows) (o : Overlay) → ((k : Key) → Has reserved_keys k → Has more k) → Version reserved_keys rows o → Version more rows o
  version_grow reserved_keys more rows o grow v =
      record {
        adds = λ row change k e h. elim (v.adds row change k e h) [ inl p ↦ inl p | inr p ↦ inr (grow k p) ];
        takes = λ row change k e h. elim (v.takes row change k e h) [ inl p ↦ inl p | inr p ↦ inr (grow k p) ];
        one = v.one;
      }

  versions_grow : (reserved_keys more : List Key) (rows : Rows) (os : List Overlay) → ((k : Key) → Has reserved_keys k → Has more k) → Versions reserved_keys rows os → Versions more rows os
  versions_grow reserved_keys more rows [] grow v = tt
  versions_grow reserved_keys more rows (o ∷ os) grow v = (version_grow reserved_keys more rows o grow v.0, versions_grow reserved_keys more rows os grow v.1)

  empty_over : (rows : Rows) (row : ℕ) → over (get (empty {X = Option StoredRow} {R = nat_cmp}) row) (get rows row) ≡ get rows row
  empty_over rows row = ap (λ o. over o (get rows row)) (get-empty nat_cmp row)

  version_empty : (reserved_keys : List Key) (rows : Rows) → OneEach rows → Version reserved_keys rows empty
  version_empty reserved_keys rows one =
      record {
        adds = λ row change k e h. absurd (empty_cases row change e);
        takes = λ row change k e h. absurd (empty_cases row change e);
        one = λ r q k hr hq. one r q k (subst (λ o. Has (keys o) k) (empty_over rows r) hr) (subst (λ o. Has (keys o) k) (empty_over rows q) hq);
      }

  versions_push : (reserved_keys : List Key) (rows : Rows) (os : List Overlay) (o : Overlay) → Versions reserved_keys rows os → Version reserved_keys rows o → Versions reserved_keys rows (os ++ o ∷ [])
  versions_push reserved_keys rows [] o vs v = (v, tt)
  versions_push reserved_keys rows (x ∷ os) o vs v = (vs.0, versions_push reserved_keys rows os o vs.1 v)

  versions_take : (reserved_keys : List Key) (rows : Rows) (n : ℕ) (os : List Overlay) → Versions reserved_keys rows os → Versions reserved_keys rows (take n os)
  versions_take reserved_keys rows zero os vs = tt
  versions_take reserved_keys rows (suc n) [] vs = tt
  versions_take reserved_keys rows (suc n) (x ∷ os) vs = (vs.0, versions_take reserved_keys rows n os vs.1)

  version_at : (reserved_keys : List Key) (rows : Rows) (os : List Overlay) (i : ℕ) → OneEach rows → Versions reserved_keys rows os → Version reserved_keys rows (get_or os i empty)
  version_at reserved_keys rows [] i one vs = version_empty reserved_keys rows one
  version_at reserved_keys rows (x ∷ os) zero one vs = vs.0
  version_at reserved_keys rows (x ∷ os) (suc i) one vs = version_at reserved_keys rows os i one vs.1

-- ---- what the view shows

unfoldable pub Named : ℕ → (ℕ → Client) → Rows → ℕ → Type 0
Named n client rows row = (e : ℕ) × (e < n) × (change : Option StoredRow) × (get (client e).overlay row ≡ Some change) × (laid n client rows row ≡ change)

unfoldable pub Bare : ℕ → (ℕ → Client) → Rows → ℕ → Type 0
Bare n client rows row = ((d : ℕ) → d < n → get (client d).overlay row ≡ None) × (laid n client rows row ≡ get rows row)

pub opt_cases : {A : Type 0} → (o : Option A) → ((x : A) × (o ≡ Some x)) ⊎ (o ≡ None)
opt_cases None = inr refl
opt_cases (Some x) = inl (x, refl)

pub view_cases : (n : ℕ) (client : ℕ → Client) (rows : Rows) (row : ℕ) → Named n client rows row ⊎ Bare n client rows row
unfolding Named Bare
view_cases zero client rows row = inr ((λ d lt. absurd (omega arith)), refl)
view_cases (suc n) client rows row =
    elim (opt_cases (get (client n).overlay row)) [
      | inl p ↦ inl (n, omega arith, p.0, p.1, ap (λ o. over o (laid n client rows row)) p.1)
      | inr none ↦
          let same : laid (suc n) client rows row ≡ laid n client rows row = ap (λ o. over o (laid n client rows row)) none in
          elim (view_cases n client rows row) [
            | inl q ↦ inl (q.0, omega arith, q.2, q.3, same ∙ q.4)
            | inr q ↦ inr (
              (λ d lt. elim (cases_eq d n) [
                | inl e ↦ ap (λ k. get (client k).overlay row) e ∙ none
                | inr ne ↦ q.0 d (omega arith)
              ]),
              same ∙ q.1,
            )
          ]
    ]

module _ (f : Setting) (s : State) (g : Good f s) (gk : GoodKeys f s) where
  Keeper : ℕ → Key → Type 0
  Keeper row k = (e : ℕ) × Has (s.client e).reserved_keys k × (lock_of s e row ≡ Some true)

  -- a committed key is seen, or reserved by who holds its row
  seen_or_reserved : (row : ℕ) (k : Key) → Has (unique_keys f.schema (get s.committed row)) k → Has (unique_keys f.schema (view f s row)) k ⊎ Keeper row k
  unfolding Named Bare Keeper
  seen_or_reserved row k h =
      elim (view_cases f.clients s.client s.committed row) [
        | inl p ↦ elim ((gk.own p.0).now.takes row p.2 k p.3 h) [
          | inl q ↦ inl (subst (λ o. Has (unique_keys f.schema o) k) (sym p.4) q)
          | inr q ↦ inr (p.0, q, (g.own p.0).covers row p.2 p.3)
        ]
        | inr p ↦ inl (subst (λ o. Has (unique_keys f.schema o) k) (sym p.1) h)
      ]

  -- a key that a client has by its own changes is seen, or reserved by another
  own_or_reserved : (c row : ℕ) (k : Key) → c < f.clients → Has (unique_keys f.schema (over (get (s.client c).overlay row) (get s.committed row))) k → Has (unique_keys f.schema (view f s row)) k ⊎ ((e : ℕ) × (e ≡ c → ⊥) × Has (s.client e).reserved_keys k)
  unfolding Named Bare
  own_or_reserved c row k known h =
      elim (view_cases f.clients s.client s.committed row) [
        | inl p ↦ elim (cases_eq p.0 c) [
          | inl e ↦
              let mine : get (s.client c).overlay row ≡ Some p.2 = ap (λ x. get (s.client x).overlay row) (sym e) ∙ p.3 in
              inl (subst (λ o. Has (unique_keys f.schema o) k) (ap (λ o. over o (get s.committed row)) mine ∙ sym p.4) h)
          | inr ne ↦
              let lack : get (s.client c).overlay row ≡ None = others_lack f s g p.0 row true ((g.own p.0).covers row p.2 p.3) c (λ x. ne (sym x)) in
              let below : Has (unique_keys f.schema (get s.committed row)) k = subst (λ o. Has (unique_keys f.schema o) k) (ap (λ o. over o (get s.committed row)) lack) h in
              elim ((gk.own p.0).now.takes row p.2 k p.3 below) [
                | inl q ↦ inl (subst (λ o. Has (unique_keys f.schema o) k) (sym p.4) q)
                | inr q ↦ inr (p.0, ne, q)
              ]
        ]
        | inr p ↦
            let lack : get (s.client c).overlay row ≡ None = p.0 c known in
            inl (subst (λ o. Has (unique_keys f.schema o) k) (ap (λ o. over o (get s.committed row)) lack ∙ sym p.1) h)
      ]

-- ---- a row is written

record Write (f : Setting) (s : State) (c row : ℕ) (old new : Option StoredRow) : Type 0 where
  known : c < f.clients
  own_old : old ≡ over (get (s.client c).overlay row) (get s.committed row)
  alone : (k : Key) → Has (unique_keys f.schema new) k → has_key (unique_keys f.schema old) k ≡ false → (d : ℕ) → (d ≡ c → ⊥) → ¬ Has (s.client d).reserved_keys k
  no_duplicate : (k : Key) → Has (unique_keys f.schema new) k → has_key (unique_keys f.schema old) k ≡ false → (q : ℕ) → (q ≡ row → ⊥) → ¬ Has (unique_keys f.schema (view f s q)) k
  locked : (k : Key) → Has (unique_keys f.schema old) k → lock_of s c row ≡ Some true

clash_true : (f : Setting) (s : State) → Good f s → (c d row : ℕ) → (c ≡ d → ⊥) → lock_of s c row ≡ Some true → lock_of s d row ≡ Some true → ⊥
clash_true f s g c d row ne hc hd = g.clash c d row true ne hc (subst (λ o. LocksConflict o true) (sym hd) tt)

module _ (f : Setting) (s : State) (g : Good f s) (gk : GoodKeys f s) (c row : ℕ) (old new : Option StoredRow) (w : Write f s c row old new) where
  abbrev cl : Client
  cl = s.client c

  abbrev rows : Rows
  rows = s.committed

  abbrev reserved_keys : List Key
  reserved_keys = reserving f old new cl.reserved_keys

  -- the old row, where a change is and where none is
  old_cases : ((change : Option StoredRow) × (get cl.overlay row ≡ Some change) × (old ≡ change)) ⊎ (old ≡ get rows row)
  old_cases =
      elim (opt_cases (get cl.overlay row)) [
        | inl p ↦ inl (p.0, p.1, w.own_old ∙ ap (λ o. over o (get rows row)) p.1)
        | inr none ↦ inr (w.own_old ∙ ap (λ o. over o (get rows row)) none)
      ]

  old_adds : (k : Key) → Has (unique_keys f.schema old) k → Has (unique_keys f.schema (get rows row)) k ⊎ Has cl.reserved_keys k
  old_adds k h =
      elim old_cases [
        | inl p ↦ (gk.own c).now.adds row p.0 k p.1 (subst (λ o. Has (unique_keys f.schema o) k) p.2 h)
        | inr e ↦ inl (subst (λ o. Has (unique_keys f.schema o) k) e h)
      ]

  old_takes : (k : Key) → Has (unique_keys f.schema (get rows row)) k → Has (unique_keys f.schema old) k ⊎ Has cl.reserved_keys k
  old_takes k h =
      elim old_cases [
        | inl p ↦ elim ((gk.own c).now.takes row p.0 k p.1 h) [
          | inl q ↦ inl (subst (λ o. Has (unique_keys f.schema o) k) (sym p.2) q)
          | inr q ↦ inr q
        ]
        | inr e ↦ inl (subst (λ o. Has (unique_keys f.schema o) k) (sym e) h)
      ]

  write_adds : Adds f reserved_keys rows (insert cl.overlay row new)
  write_adds q change k e h =
      elim (insert_cases cl.overlay row new q change e) [
        | inl p ↦
            let mine : Has (unique_keys f.schema new) k = subst (λ o. Has (unique_keys f.schema o) k) (sym p.1) h in
            elim (cases_Bool (has_key (unique_keys f.schema old) k)) [
              | inl had ↦ elim (old_adds k had) [
                | inl x ↦ inl (subst (λ r. Has (unique_keys f.schema (get rows r)) k) (sym p.0) x)
                | inr x ↦ inr (reserved_still f old new cl.reserved_keys k x)
              ]
              | inr fresh ↦ inr (reserved_entered f old new cl.reserved_keys k mine fresh)
            ]
        | inr p ↦ elim ((gk.own c).now.adds q change k p.1 h) [
          | inl x ↦ inl x
          | inr x ↦ inr (reserved_still f old new cl.reserved_keys k x)
        ]
      ]

  write_takes : Takes f reserved_keys rows (insert cl.overlay row new)
  write_takes q change k e h =
      elim (insert_cases cl.overlay row new q change e) [
        | inl p ↦
            let there : Has (unique_keys f.schema (get rows row)) k = subst (λ r. Has (unique_keys f.schema (get rows r)) k) p.0 h in
            elim (cases_Bool (has_key (unique_keys f.schema new) k)) [
              | inl has ↦ inl (subst (λ o. Has (unique_keys f.schema o) k) p.1 has)
              | inr lost ↦ elim (old_takes k there) [
                | inl had ↦ inr (reserved_left f old new cl.reserved_keys k had lost)
                | inr x ↦ inr (reserved_still f old new cl.reserved_keys k x)
              ]
            ]
        | inr p ↦ elim ((gk.own c).now.takes q change k p.1 h) [
          | inl x ↦ inl x
          | inr x ↦ inr (reserved_still f old new cl.reserved_keys k x)
        ]
      ]

  at_row : over (get (insert cl.overlay row new) row) (get rows row) ≡ new
  at_row = ap (λ o. over o (get rows row)) (get_insert_same cl.overlay row new)

  at_other : (q : ℕ) → (q ≡ row → ⊥) → over (get (insert cl.overlay row new) q) (get rows q) ≡ over (get cl.overlay q) (get rows q)
  at_other q ne = ap (λ o. over o (get rows q)) (get_insert_other cl.overlay row new q ne)

  one_other : (q : ℕ) (k : Key) → (q ≡ row → ⊥) → Has (unique_keys f.schema new) k → Has (unique_keys f.schema (over (get cl.overlay q) (get rows q))) k → row ≡ q
  one_other q k ne mine other =
      elim (cases_Bool (has_key (unique_keys f.schema old) k)) [
        | inl had ↦ (gk.own c).now.one row q k (subst (λ o. Has (unique_keys f.schema o) k) w.own_old had) other
        | inr fresh ↦ elim (own_or_reserved f s g gk c q k w.known other) [
          | inl seen ↦ absurd (w.no_duplicate k mine fresh q ne seen)
          | inr p ↦ absurd (w.alone k mine fresh p.0 p.1 p.2)
        ]
      ]

  write_one : One f rows (insert cl.overlay row new)
  write_one r q k hr hq =
      elim (cases_eq r row) [
        | inl re ↦
            let mine : Has (unique_keys f.schema new) k = subst (λ o. Has (unique_keys f.schema o) k) (ap (λ x. over (get (insert cl.overlay row new) x) (get rows x)) re ∙ at_row) hr in
            elim (cases_eq q row) [
              | inl qe ↦ re ∙ sym qe
              | inr qn ↦ re ∙ one_other q k qn mine (subst (λ o. Has (unique_keys f.schema o) k) (at_other q qn) hq)
            ]
        | inr rn ↦
            let there : Has (unique_keys f.schema (over (get cl.overlay r) (get rows r))) k = subst (λ o. Has (unique_keys f.schema o) k) (at_other r rn) hr in
            elim (cases_eq q row) [
              | inl qe ↦
                  let mine : Has (unique_keys f.schema new) k = subst (λ o. Has (unique_keys f.schema o) k) (ap (λ x. over (get (insert cl.overlay row new) x) (get rows x)) qe ∙ at_row) hq in
                  sym (qe ∙ one_other r k rn mine there)
              | inr qn ↦ (gk.own c).now.one r q k there (subst (λ o. Has (unique_keys f.schema o) k) (at_other q qn) hq)
            ]
      ]

  -- a reserved key that is committed is that of a row that the client holds
  write_guarded : (held : Held) → Grows cl.held held → get held row ≡ Some true → (q : ℕ) (k : Key) → Has reserved_keys k → Has (unique_keys f.schema (get rows q)) k → get held q ≡ Some true
  unfolding Keeper
  write_guarded held grows here q k h there =
      elim (cases_eq q row) [
        | inl e ↦ ap (get held) e ∙ here
        | inr ne ↦ elim (reserved_cases f old new cl.reserved_keys k h) [
          | inl p ↦ elim (seen_or_reserved f s g gk q k there) [
            | inl seen ↦ absurd (w.no_duplicate k p.0 p.1 q ne seen)
            | inr x ↦ elim (cases_eq x.0 c) [
              | inl mine ↦ grows q (subst (λ e. lock_of s e q ≡ Some true) mine x.2)
              | inr other ↦ absurd (w.alone k p.0 p.1 x.0 other x.1)
            ]
          ]
          | inr p ↦ elim p [
            | inl had ↦ elim (opt_cases (get cl.overlay q)) [
              | inl named ↦ grows q ((g.own c).covers q named.0 named.1)
              | inr none ↦
                  let below : Has (unique_keys f.schema (over (get cl.overlay q) (get rows q))) k = subst (λ o. Has (unique_keys f.schema o) k) (sym (ap (λ o. over o (get rows q)) none)) there in
                  absurd (ne (sym ((gk.own c).now.one row q k (subst (λ o. Has (unique_keys f.schema o) k) w.own_old had) below)))
            ]
            | inr before ↦ grows q ((gk.own c).guarded q k before there)
          ]
        ]
      ]

  -- nobody else keeps what the client keeps
  write_apart : (d : ℕ) (k : Key) → (d ≡ c → ⊥) → Has reserved_keys k → ¬ Has (s.client d).reserved_keys k
  write_apart d k ne h other =
      elim (reserved_cases f old new cl.reserved_keys k h) [
        | inl p ↦ w.alone k p.0 p.1 d ne other
        | inr p ↦ elim p [
          | inl had ↦ elim (old_adds k had) [
            | inl below ↦ clash_true f s g c d row (λ e. ne (sym e)) (w.locked k had) ((gk.own d).guarded row k other below)
            | inr before ↦ gk.apart c d k (λ e. ne (sym e)) before other
          ]
          | inr before ↦ gk.apart c d k (λ e. ne (sym e)) before other
        ]
      ]

  write_own : (held : Held) (drawn written : ℕ) (blocked : Option BlockedRequest) → Grows cl.held held → get held row ≡ Some true → 0 < length cl.levels → OwnKeys f rows (record { overlay = insert cl.overlay row new; levels = cl.levels; reserved_keys = reserved_keys; drawn = drawn; written = written; held = held; blocked = blocked })
  write_own held drawn written blocked grows here deep =
      record {
        now = record { adds = write_adds; takes = write_takes; one = write_one };
        copies = versions_grow f cl.reserved_keys reserved_keys rows cl.levels (λ k h. reserved_still f old new cl.reserved_keys k h) (gk.own c).copies;
        guarded = write_guarded held grows here;
        idle = λ e k. absurd (omega arith);
      }

-- ---- what a write that succeeds says

abbrev id_of : ℕ → RowId
id_of q = record { 0 = q }

module _ (f : Setting) (s : State) (op : Op) (no : ¬ HasDuplicates f s op) where
  below_duplicate : (n j : ℕ) → j < n → (row : RowId) → ¬ HasDuplicate f s op j row
  below_duplicate zero j lt row t = absurd (omega arith)
  below_duplicate (suc n) j lt row t =
      elim (cases_lt j n) [
        | inl less ↦ below_duplicate n j less row t
        | inr ge ↦ no (j, row, (t, λ i other il tw. below_duplicate n i (omega arith) other tw))
      ]

  never_duplicate : (j : ℕ) (row : RowId) → ¬ HasDuplicate f s op j row
  never_duplicate j row t = below_duplicate (j + 1) j (omega arith) row t

module _ (f : Setting) (s : State) (g : Good f s) (c : ℕ) where
  in_setting : (op : Op) → ¬ IsRefused f s c op → c < f.clients
  in_setting op r = stable_lt _ _ (λ k. r (λ p. k p.0))

  no_key : (k : Key) → ¬ Has (unique_keys f.schema None) k
  no_key k h = let none : has_key (unique_keys f.schema None) k ≡ false = no_keys f k in cc

  insert_write : (table : ℕ) (values : List Value) (a : Answer) → Success f s c (Insert table values) a → Write f s c (row_of_answer a) None (row_in table values)
  insert_write table values a ok =
      let fresh = ok.succeeds in
      let at : row_of_answer a ≡ fresh.0.0 = ap row_of_answer fresh.1 in
      record {
        known = in_setting (Insert table values) ok.sound;
        own_old = sym (ap (λ r. over (get (s.client c).overlay r) (get s.committed r)) at ∙ ap (λ o. over o (get s.committed fresh.0.0)) (fresh.2.3 c).0 ∙ fresh.2.2);
        alone = λ k h e d ne kd. ok.alone (d, (ne, (k, h, e, kd)));
        no_duplicate = λ k h e q ne seen. never_duplicate f s (Insert table values) ok.no_duplicates k.index (id_of q) (k, refl, h, (λ (x : None ≡ Some (id_of q)). cc), seen);
        locked = λ k h. absurd (no_key k h);
      }

  exclusive_view : (at : ℕ) → c < f.clients → lock_of s c at ≡ Some true → view f s at ≡ over (get (s.client c).overlay at) (get s.committed at)
  exclusive_view at known has = laid_one f.clients c s.client s.committed at known (others_lack f s g c at true has)

  put_write : (table : ℕ) (at : RowId) (values : List Value) (a : Answer) → Success f s c (Put table at values) a → Write f s c at.0 (view f s at.0) (row_in table values)
  put_write table at values a ok =
      let has : lock_of s c at.0 ≡ Some true = stable_true _ (λ k. sound f s c (Put table at values) ok.sound (λ p. k p.3)) in
      let known = in_setting (Put table at values) ok.sound in
      record {
        known = known;
        own_old = exclusive_view at.0 known has;
        alone = λ k h e d ne kd. ok.alone (d, (ne, (k, h, e, kd)));
        no_duplicate = λ k h e q ne seen. never_duplicate f s (Put table at values) ok.no_duplicates k.index (id_of q) (k, refl, h, (λ (x : Some at ≡ Some (id_of q)). ne (let y : at ≡ id_of q = cc in sym (ap (λ (r : RowId). r.0) y))), seen);
        locked = λ k h. has;
      }

  delete_write : (table : ℕ) (at : RowId) (a : Answer) → Success f s c (Delete table at) a → Write f s c at.0 (view f s at.0) None
  delete_write table at a ok =
      let has : lock_of s c at.0 ≡ Some true = stable_true _ (λ k. sound f s c (Delete table at) ok.sound (λ p. k p.2)) in
      let known = in_setting (Delete table at) ok.sound in
      record {
        known = known;
        own_old = exclusive_view at.0 known has;
        alone = λ k h e d ne kd. no_key k h;
        no_duplicate = λ k h e q ne seen. no_key k h;
        locked = λ k h. has;
      }

-- ---- a commit

module _ (f : Setting) (s : State) (g : Good f s) (gk : GoodKeys f s) (c : ℕ) where
  abbrev laid_rows : Rows
  laid_rows = laid_on (entries (s.client c).overlay) s.committed

  laid_over_own : (r : ℕ) → get laid_rows r ≡ over (get (s.client c).overlay r) (get s.committed r)
  laid_over_own r = get_laid_on (entries (s.client c).overlay) s.committed r ∙ ap (λ o. over o (get s.committed r)) (sym (get-entries (s.client c).overlay r))

  one_committed : OneEach f laid_rows
  one_committed r q k hr hq =
      (gk.own c).now.one r q k (subst (λ o. Has (unique_keys f.schema o) k) (laid_over_own r) hr) (subst (λ o. Has (unique_keys f.schema o) k) (laid_over_own q) hq)

  module _ (d : ℕ) (ne : d ≡ c → ⊥) where
    -- where the other names the row, nothing was committed
    other_same : (o : Overlay) → Covers (s.client d).held o → (r : ℕ) (change : Option StoredRow) → get o r ≡ Some change → get laid_rows r ≡ get s.committed r
    other_same o covers r change e =
        laid_over_own r ∙ ap (λ x. over x (get s.committed r)) (others_lack f s g d r true (covers r change e) c (λ x. ne (sym x)))

    Same : Overlay → ℕ → Type 0
    Same o r = over (get o r) (get laid_rows r) ≡ over (get o r) (get s.committed r)

    New : Overlay → ℕ → Type 0
    New o r = (get o r ≡ None) × (change : Option StoredRow) × (get (s.client c).overlay r ≡ Some change) × (over (get o r) (get laid_rows r) ≡ change)

    same_or_new : (o : Overlay) → Covers (s.client d).held o → (r : ℕ) → (Same o r × (get o r ≡ None → get (s.client c).overlay r ≡ None)) ⊎ New o r
    unfolding Same New
    same_or_new o covers r =
        elim (opt_cases (get o r)) [
          | inl p ↦ inl (ap (over (get o r)) (other_same o covers r p.0 p.1), (λ none. let some : get o r ≡ Some p.0 = p.1 in cc))
          | inr none ↦ elim (opt_cases (get (s.client c).overlay r)) [
            | inl q ↦ inr (none, q.0, q.1, ap (λ x. over x (get laid_rows r)) none ∙ laid_over_own r ∙ ap (λ x. over x (get s.committed r)) q.1)
            | inr bare ↦ inl (ap (over (get o r)) (laid_over_own r ∙ ap (λ x. over x (get s.committed r)) bare), (λ e. bare))
          ]
        ]

    -- a key that c commits at q, and that the other has at r: the rows are one
    mixed : (o : Overlay) → Covers (s.client d).held o → Version f (s.client d).reserved_keys s.committed o → (r q : ℕ) (k : Key) → Same o r → Has (unique_keys f.schema (over (get o r) (get s.committed r))) k → New o q → ((change : Option StoredRow) → get (s.client c).overlay q ≡ Some change → Has (unique_keys f.schema change) k) → (get o r ≡ None → get (s.client c).overlay r ≡ None) → r ≡ q
    unfolding Same New
    mixed o covers v r q k same hr new hq bare =
        elim ((gk.own c).now.adds q new.1 k new.2 (hq new.1 new.2)) [
          | inl below ↦ v.one r q k hr (subst (λ x. Has (unique_keys f.schema (over x (get s.committed q))) k) (sym new.0) below)
          | inr mine ↦ elim (opt_cases (get o r)) [
            | inl p ↦
                let change : Has (unique_keys f.schema p.0) k = subst (λ x. Has (unique_keys f.schema (over x (get s.committed r))) k) p.1 hr in
                elim (v.adds r p.0 k p.1 change) [
                  | inl old ↦ absurd (clash_true f s g c d r (λ e. ne (sym e)) ((gk.own c).guarded r k mine old) (covers r p.0 p.1))
                  | inr theirs ↦ absurd (gk.apart c d k (λ e. ne (sym e)) mine theirs)
                ]
            | inr none ↦
                let old : Has (unique_keys f.schema (get s.committed r)) k = subst (λ x. Has (unique_keys f.schema (over x (get s.committed r))) k) none hr in
                (gk.own c).now.one r q k
                (subst (λ x. Has (unique_keys f.schema (over x (get s.committed r))) k) (sym (bare none)) old)
                (subst (λ x. Has (unique_keys f.schema (over x (get s.committed q))) k) (sym new.2) (hq new.1 new.2))
          ]
        ]

    new_has : (o : Overlay) (q : ℕ) (k : Key) → (new : New o q) → Has (unique_keys f.schema (over (get o q) (get laid_rows q))) k → (change : Option StoredRow) → get (s.client c).overlay q ≡ Some change → Has (unique_keys f.schema change) k
    unfolding New
    new_has o q k new h change e =
        let two : Some new.1 ≡ Some change = sym new.2 ∙ e in
        let same : new.1 ≡ change = cc in
        subst (λ x. Has (unique_keys f.schema x) k) (new.3 ∙ same) h

    both_new : (o : Overlay) (r q : ℕ) (k : Key) → New o r → New o q → Has (unique_keys f.schema (over (get o r) (get laid_rows r))) k → Has (unique_keys f.schema (over (get o q) (get laid_rows q))) k → r ≡ q
    unfolding New
    both_new o r q k nr nq hr hq =
        (gk.own c).now.one r q k
        (subst (λ x. Has (unique_keys f.schema (over x (get s.committed r))) k) (sym nr.2) (new_has o r k nr hr nr.1 nr.2))
        (subst (λ x. Has (unique_keys f.schema (over x (get s.committed q))) k) (sym nq.2) (new_has o q k nq hq nq.1 nq.2))

    committed_one : (o : Overlay) → Covers (s.client d).held o → Version f (s.client d).reserved_keys s.committed o → One f laid_rows o
    unfolding Same
    committed_one o covers v r q k hr hq =
        elim (same_or_new o covers r) [
          | inl sr ↦ elim (same_or_new o covers q) [
            | inl sq ↦ v.one r q k (subst (λ x. Has (unique_keys f.schema x) k) sr.0 hr) (subst (λ x. Has (unique_keys f.schema x) k) sq.0 hq)
            | inr nq ↦ mixed o covers v r q k sr.0 (subst (λ x. Has (unique_keys f.schema x) k) sr.0 hr) nq (new_has o q k nq hq) sr.1
          ]
          | inr nr ↦ elim (same_or_new o covers q) [
            | inl sq ↦ sym (mixed o covers v q r k sq.0 (subst (λ x. Has (unique_keys f.schema x) k) sq.0 hq) nr (new_has o r k nr hr) sq.1)
            | inr nq ↦ both_new o r q k nr nq hr hq
          ]
        ]

    committed_version : (o : Overlay) → Covers (s.client d).held o → Version f (s.client d).reserved_keys s.committed o → Version f (s.client d).reserved_keys laid_rows o
    committed_version o covers v =
        record {
          adds = λ r change k e h. elim (v.adds r change k e h) [
            | inl below ↦ inl (subst (λ x. Has (unique_keys f.schema x) k) (sym (other_same o covers r change e)) below)
            | inr reserved_keys ↦ inr reserved_keys
          ];
          takes = λ r change k e h. v.takes r change k e (subst (λ x. Has (unique_keys f.schema x) k) (other_same o covers r change e) h);
          one = committed_one o covers v;
        }

    committed_versions : (os : List Overlay) → CoversAll (s.client d).held os → Versions f (s.client d).reserved_keys s.committed os → Versions f (s.client d).reserved_keys laid_rows os
    committed_versions [] covers vs = tt
    committed_versions (o ∷ os) covers vs = (committed_version o covers.0 vs.0, committed_versions os covers.1 vs.1)

    committed_other : OwnKeys f laid_rows (s.client d)
    committed_other =
        record {
          now = committed_version (s.client d).overlay (g.own d).covers (gk.own d).now;
          copies = committed_versions (s.client d).levels (g.own d).copies (gk.own d).copies;
          guarded = λ row k h there. elim (opt_cases (get (s.client c).overlay row)) [
            | inl p ↦
                let change : Has (unique_keys f.schema p.0) k = subst (λ x. Has (unique_keys f.schema x) k) (laid_over_own row ∙ ap (λ x. over x (get s.committed row)) p.1) there in
                elim ((gk.own c).now.adds row p.0 k p.1 change) [
                  | inl below ↦ (gk.own d).guarded row k h below
                  | inr mine ↦ absurd (gk.apart c d k (λ e. ne (sym e)) mine h)
                ]
            | inr none ↦ (gk.own d).guarded row k h (subst (λ x. Has (unique_keys f.schema x) k) (laid_over_own row ∙ ap (λ x. over x (get s.committed row)) none) there)
          ];
          idle = (gk.own d).idle;
        }

-- ---- a success

by_test : {A : Type 0} (P : A → Type 0) (b : Bool) (x y : A) → (b ≡ true → P x) → (b ≡ false → P y) → P (cond b x y)
by_test P true x y then_x else_y = then_x refl
by_test P false x y then_x else_y = else_y refl

by_two : {A B : Type 0} (P : A → B → Type 0) (b : Bool) (x y : A) (z w : B) → (b ≡ true → P x z) → (b ≡ false → P y w) → P (cond b x y) (cond b z w)
by_two P true x y z w then_x else_y = then_x refl
by_two P false x y z w then_x else_y = else_y refl

module _ (f : Setting) (s : State) (g : Good f s) (gk : GoodKeys f s) (c : ℕ) where
  nothing_reserved : (k : Key) → ¬ Has [] k
  nothing_reserved k h = cc

  fresh_client : (rows : Rows) (held : Held) (blocked : Option BlockedRequest) → OneEach f rows → OwnKeys f rows (record { overlay = empty; levels = []; reserved_keys = []; drawn = 0; written = 0; held = held; blocked = blocked })
  fresh_client rows held blocked one =
      record { now = version_empty f [] rows one; copies = tt; guarded = λ row k h there. absurd (nothing_reserved k h); idle = λ e k. nothing_reserved k }

  own_keys : (op : Op) (a : Answer) → Success f s c op a → OwnKeys f (committed_after s c op) (own_after f s c op (row_of_answer a))
  own_keys Enter a ok =
      let o = gk.own c in
      record { now = o.now; copies = versions_push f (s.client c).reserved_keys s.committed (s.client c).levels (s.client c).overlay o.copies o.now; guarded = o.guarded; idle = λ e k. absurd (let l = length-append (s.client c).levels ((s.client c).overlay ∷ []) in omega arith) }
  own_keys (Leave keep) a ok =
      let deep : 0 < depth_of s c = stable_lt _ _ (sound f s c (Leave keep) ok.sound) in
      by_two (λ (rows : Rows) (cl : Client). OwnKeys f rows cl) (is_outermost s c) (laid_on (entries (s.client c).overlay) s.committed) s.committed (own_after_commit s c keep) (own_after_leave s c)
      (λ e. fresh_client (laid_on (entries (s.client c).overlay) s.committed) _ _ (one_committed f s g gk c))
      (λ e.
      let more : depth_of s c ≡ 1 → ⊥ = λ one. let t : eqb (depth_of s c) 1 ≡ true = ap (λ n. eqb n 1) one in cc in
      let o = gk.own c in
      record { now = o.now; copies = versions_take f (s.client c).reserved_keys s.committed (depth_of s c - 1) (s.client c).levels o.copies; guarded = o.guarded; idle = λ z k. absurd (let l = length-take (depth_of s c - 1) (s.client c).levels in omega arith) })
  own_keys (Back depth) a ok =
      let deep : 0 < depth = stable_lt _ _ (λ k. sound f s c (Back depth) ok.sound (λ p. k p.0)) in
      let within : depth < depth_of s c + 1 = stable_lt _ _ (λ k. sound f s c (Back depth) ok.sound (λ p. k (omega arith))) in
      let o = gk.own c in
      record {
        now = version_at f (s.client c).reserved_keys s.committed (s.client c).levels (depth - 1) gk.one_each o.copies;
        copies = versions_take f (s.client c).reserved_keys s.committed depth (s.client c).levels o.copies;
        guarded = o.guarded;
        idle = λ z k. absurd (let l = length-take depth (s.client c).levels in omega arith);
      }
  own_keys (Next table index prefix cursor forward) a ok = gk.own c
  own_keys (Get table at) a ok = gk.own c
  own_keys (Lock table at exclusive wait) a ok =
      let o = gk.own c in
      record { now = o.now; copies = o.copies; guarded = λ row k h there. grows_lock (s.client c).held at.0 exclusive row (o.guarded row k h there); idle = o.idle }
  own_keys (Insert table values) a ok =
      let deep : 0 < depth_of s c = stable_lt _ _ (λ k. sound f s c (Insert table values) ok.sound (λ p. k p.2)) in
      write_own f s g gk c (row_of_answer a) None (row_in table values) (insert_write f s g c table values a ok) _ _ _ _ (grows_true (s.client c).held (row_of_answer a)) (get_insert_same (s.client c).held (row_of_answer a) true) deep
  own_keys (Put table at values) a ok =
      let has : lock_of s c at.0 ≡ Some true = stable_true _ (λ k. sound f s c (Put table at values) ok.sound (λ p. k p.3)) in
      let deep : 0 < depth_of s c = stable_lt _ _ (λ k. sound f s c (Put table at values) ok.sound (λ p. k p.2)) in
      write_own f s g gk c at.0 (view f s at.0) (row_in table values) (put_write f s g c table at values a ok) (s.client c).held _ _ _ (λ row h. h) has deep
  own_keys (Delete table at) a ok =
      let has : lock_of s c at.0 ≡ Some true = stable_true _ (λ k. sound f s c (Delete table at) ok.sound (λ p. k p.2)) in
      let deep : 0 < depth_of s c = stable_lt _ _ (λ k. sound f s c (Delete table at) ok.sound (λ p. k p.1)) in
      write_own f s g gk c at.0 (view f s at.0) None (delete_write f s g c table at a ok) (s.client c).held _ _ _ (λ row h. h) has deep
  own_keys (DropLock at) a ok =
      by_test (λ (cl : Client). OwnKeys f s.committed cl) (eqb (depth_of s c) 0) (own_after_drop s c at.0) (s.client c)
      (λ e. let o = gk.own c in record { now = o.now; copies = o.copies; guarded = λ row k h there. absurd (o.idle (eqb-true (depth_of s c) 0 e) k h); idle = o.idle })
      (λ e. gk.own c)
  own_keys (NextValue sequence) a ok = gk.own c
  own_keys (CurrentValue sequence) a ok = gk.own c
  own_keys End a ok = fresh_client s.committed _ _ gk.one_each

  own_apart : (op : Op) (a : Answer) → Success f s c op a → (d : ℕ) (k : Key) → (d ≡ c → ⊥) → Has (own_after f s c op (row_of_answer a)).reserved_keys k → ¬ Has (s.client d).reserved_keys k
  own_apart Enter a ok d k ne h other = gk.apart c d k (λ e. ne (sym e)) h other
  own_apart (Leave keep) a ok d k ne h other =
      by_test (λ (cl : Client). Has cl.reserved_keys k → ⊥) (is_outermost s c) (own_after_commit s c keep) (own_after_leave s c) (λ e. nothing_reserved k) (λ e mine. gk.apart c d k (λ x. ne (sym x)) mine other) h
  own_apart (Back depth) a ok d k ne h other = gk.apart c d k (λ e. ne (sym e)) h other
  own_apart (Next table index prefix cursor forward) a ok d k ne h other = gk.apart c d k (λ e. ne (sym e)) h other
  own_apart (Get table at) a ok d k ne h other = gk.apart c d k (λ e. ne (sym e)) h other
  own_apart (Lock table at exclusive wait) a ok d k ne h other = gk.apart c d k (λ e. ne (sym e)) h other
  own_apart (Insert table values) a ok d k ne h other = write_apart f s g gk c (row_of_answer a) None (row_in table values) (insert_write f s g c table values a ok) d k ne h other
  own_apart (Put table at values) a ok d k ne h other = write_apart f s g gk c at.0 (view f s at.0) (row_in table values) (put_write f s g c table at values a ok) d k ne h other
  own_apart (Delete table at) a ok d k ne h other = write_apart f s g gk c at.0 (view f s at.0) None (delete_write f s g c table at a ok) d k ne h other
  own_apart (DropLock at) a ok d k ne h other =
      by_test (λ (cl : Client). Has cl.reserved_keys k → ⊥) (eqb (depth_of s c) 0) (own_after_drop s c at.0) (s.client c) (λ e mine. gk.apart c d k (λ x. ne (sym x)) mine other) (λ e mine. gk.apart c d k (λ x. ne (sym x)) mine other) h
  own_apart (NextValue sequence) a ok d k ne h other = gk.apart c d k (λ e. ne (sym e)) h other
  own_apart (CurrentValue sequence) a ok d k ne h other = gk.apart c d k (λ e. ne (sym e)) h other
  own_apart End a ok d k ne h other = nothing_reserved k h

  others_keys : (op : Op) (d : ℕ) → (d ≡ c → ⊥) → OwnKeys f (committed_after s c op) (s.client d)
  others_keys (Leave keep) d ne = by_test (λ (rows : Rows). OwnKeys f rows (s.client d)) (is_outermost s c) (laid_on (entries (s.client c).overlay) s.committed) s.committed (λ e. committed_other f s g gk c d ne) (λ e. gk.own d)
  others_keys Enter d ne = gk.own d
  others_keys (Back depth) d ne = gk.own d
  others_keys (Next table index prefix cursor forward) d ne = gk.own d
  others_keys (Get table at) d ne = gk.own d
  others_keys (Lock table at exclusive wait) d ne = gk.own d
  others_keys (Insert table values) d ne = gk.own d
  others_keys (Put table at values) d ne = gk.own d
  others_keys (Delete table at) d ne = gk.own d
  others_keys (DropLock at) d ne = gk.own d
  others_keys (NextValue sequence) d ne = gk.own d
  others_keys (CurrentValue sequence) d ne = gk.own d
  others_keys End d ne = gk.own d

  one_after : (op : Op) → OneEach f (committed_after s c op)
  one_after (Leave keep) = by_test (λ (rows : Rows). OneEach f rows) (is_outermost s c) (laid_on (entries (s.client c).overlay) s.committed) s.committed (λ e. one_committed f s g gk c) (λ e. gk.one_each)
  one_after Enter = gk.one_each
  one_after (Back depth) = gk.one_each
  one_after (Next table index prefix cursor forward) = gk.one_each
  one_after (Get table at) = gk.one_each
  one_after (Lock table at exclusive wait) = gk.one_each
  one_after (Insert table values) = gk.one_each
  one_after (Put table at values) = gk.one_each
  one_after (Delete table at) = gk.one_each
  one_after (DropLock at) = gk.one_each
  one_after (NextValue sequence) = gk.one_each
  one_after (CurrentValue sequence) = gk.one_each
  one_after End = gk.one_each

-- ---- any step, and a whole trace

rewant : (f : Setting) (rows : Rows) (cl : Client) (blocked : Option BlockedRequest) → OwnKeys f rows cl → OwnKeys f rows (record cl { blocked = blocked })
rewant f below one blocked o = record { now = o.now; copies = o.copies; guarded = o.guarded; idle = o.idle }

module _ (f : Setting) (s : State) (g : Good f s) (gk : GoodKeys f s) (c : ℕ) (op : Op) (a : Answer) (ok : Answers f s c op a) where
  abbrev next : State
  next = after f s c op a

  self_keys : (b : Bool) → is_success a ≡ b → OwnKeys f (cond b (committed_after s c op) s.committed) (cond b (own_after f s c op (row_of_answer a)) (s.client c))
  self_keys true good = own_keys f s g gk c op a (success_of f s c op a good ok)
  self_keys false fails = gk.own c

  self_apart : (b : Bool) → is_success a ≡ b → (d : ℕ) (k : Key) → (d ≡ c → ⊥) → Has (cond b (own_after f s c op (row_of_answer a)) (s.client c)).reserved_keys k → ¬ Has (s.client d).reserved_keys k
  self_apart true good d k ne h other = own_apart f s g gk c op a (success_of f s c op a good ok) d k ne h other
  self_apart false fails d k ne h other = gk.apart c d k (λ e. ne (sym e)) h other

  next_own : (d : ℕ) → OwnKeys f next.committed (next.client d)
  next_own d =
      elim (cases_eq d c) [
        | inl e ↦ subst (λ x. OwnKeys f next.committed (next.client x)) (sym e) (subst (λ (cl : Client). OwnKeys f next.committed cl) (sym (self_after f s c op a)) (rewant f next.committed (client_after f s c op a) (blocked_after s c op a) (self_keys (is_success a) refl)))
        | inr ne ↦ subst (λ (cl : Client). OwnKeys f next.committed cl) (sym (other_after f s c op a d ne))
            (by_test (λ (rows : Rows). OwnKeys f rows (s.client d)) (is_success a) (committed_after s c op) s.committed (λ e. others_keys f s g gk c op d ne) (λ e. gk.own d))
      ]

  mine_apart : (d : ℕ) (k : Key) → (d ≡ c → ⊥) → Has (next.client c).reserved_keys k → ¬ Has (s.client d).reserved_keys k
  mine_apart d k ne h other = self_apart (is_success a) refl d k ne (subst (λ (cl : Client). Has cl.reserved_keys k) (self_after f s c op a) h) other

  next_apart : (x y : ℕ) (k : Key) → (x ≡ y → ⊥) → Has (next.client x).reserved_keys k → ¬ Has (next.client y).reserved_keys k
  next_apart x y k ne hx hy =
      elim (cases_eq x c) [
        | inl xc ↦
            let yn : y ≡ c → ⊥ = λ e. ne (xc ∙ sym e) in
            mine_apart y k yn (subst (λ z. Has (next.client z).reserved_keys k) xc hx) (subst (λ (cl : Client). Has cl.reserved_keys k) (other_after f s c op a y yn) hy)
        | inr xn ↦ elim (cases_eq y c) [
          | inl yc ↦ mine_apart x k xn (subst (λ z. Has (next.client z).reserved_keys k) yc hy) (subst (λ (cl : Client). Has cl.reserved_keys k) (other_after f s c op a x xn) hx)
          | inr yn ↦ gk.apart x y k ne (subst (λ (cl : Client). Has cl.reserved_keys k) (other_after f s c op a x xn) hx) (subst (λ (cl : Client). Has cl.reserved_keys k) (other_after f s c op a y yn) hy)
        ]
      ]

  keys_step : GoodKeys f next
  keys_step =
      record {
        own = next_own;
        apart = next_apart;
        one_each = by_test (λ (rows : Rows). OneEach f rows) (is_success a) (committed_after s c op) s.committed (λ e. one_after f s g gk c op) (λ e. gk.one_each);
      }

keys_after : (f : Setting) (s : State) (trace : List Event) → Good f s → GoodKeys f s → Follows f s trace → GoodKeys f (state_after f s trace)
keys_after f s [] g gk ok = gk
keys_after f s (e ∷ es) g gk ok = keys_after f (after f s e.client e.op e.answer) es (good_step f s e.client e.op e.answer ok.0 g) (keys_step f s g gk e.client e.op e.answer ok.0) ok.1

keys_opened : (f : Setting) (contents : Contents) → OneEach f (rows_of contents.rows) → GoodKeys f (opened contents)
keys_opened f contents one =
    record {
      own = λ c. record { now = version_empty f [] (rows_of contents.rows) one; copies = tt; guarded = λ row k h there. absurd (let no : Has [] k = h in cc); idle = λ e k h. let no : Has [] k = h in cc };
      apart = λ c d k ne h other. let no : Has [] k = h in cc;
      one_each = one;
    }

pub keys_legal : (f : Setting) (contents : Contents) (trace : List Event) → IsLegal f contents trace → GoodKeys f (left_by f contents trace)
keys_legal f contents trace legal = keys_after f (opened contents) trace (good_opened f contents) (keys_opened f contents legal.0.unique) legal.1
