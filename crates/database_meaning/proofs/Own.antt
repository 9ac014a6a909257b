-- What holds of each client alone: it holds exclusively each row that its overlay or a copy names.
use Rattle.std.proofs.Common.{◌≡◌, ℕ, zero, suc, ◌+◌, ◌-◌, ◌<◌, ◌≤◌, Bool, true, false, cond, List, [], ◌∷◌, ◌++◌, length, get_or, take, Option, Some, None, refl, sym, ap, ◌∙◌, inl, inr, arith, nat_cmp, eqb, length-append, length-take, eq-eqb, eqb-true}
use Rattle.std.specs.FinMap.{get, insert, empty, get-empty}
use Rattle.std.proofs.lemmas.Bool.{cases_eq, cases_lt}
use Rattle.abl_base.specs.declared.row.RowId.{RowId}
use Rattle.database_meaning.specs.declared.state.StoredRow.{StoredRow}
use Rattle.database_meaning.specs.declared.state.BlockedRequest.{BlockedRequest}
use Rattle.database_meaning.specs.Setting.{Setting}
use Rattle.database_meaning.specs.State.{State, Client, Overlay, Held, depth_of}
use Rattle.database_meaning.specs.Answers.{IsRefused, IsWellFormed}
use Rattle.database_meaning.specs.Steps.{own_after, own_after_commit, own_after_leave, own_after_drop, is_outermost, or_exclusive}
use Rattle.database_protocol.specs.declared.operation.Op.{Op}
use Rattle.database_protocol.specs.declared.operation.Op.TheVariants.{Enter, Leave, Back, Next, Get, Lock, Insert, Put, Delete, Drop as DropLock, NextValue, CurrentValue, End}
use Rattle.database_meaning.proofs.Maps.{get_insert_same, get_insert_other, insert_cases, empty_cases}

-- each row that the overlay names is held exclusively
abbrev pub Covers : Held → Overlay → Type 0
Covers held overlay = (row : ℕ) (change : Option StoredRow) → get overlay row ≡ Some change → get held row ≡ Some true

abbrev pub CoversAll : Held → List Overlay → Type 0
CoversAll held [] = Unit {0}
CoversAll held (overlay ∷ overlays) = Covers held overlay × CoversAll held overlays

abbrev pub OpHeld : Held → Op → Type 0
OpHeld held (Put table row values) = get held row.0 ≡ Some true
OpHeld held _ = Unit {0}

abbrev pub BlockedHeld : Held → Option BlockedRequest → Type 0
BlockedHeld held None = Unit {0}
BlockedHeld held (Some blocked) = OpHeld held blocked.op

pub record Own (cl : Client) : Type 0 where
  pub covers : Covers cl.held cl.overlay
  pub copies : CoversAll cl.held cl.levels
  pub idle : length cl.levels ≡ 0 → (row : ℕ) → get cl.overlay row ≡ None
  pub wanted : BlockedHeld cl.held cl.blocked

-- ---- what a sound operation says

pub stable_lt : (m n : ℕ) → ¬ ¬ (m < n) → m < n
stable_lt m n h = elim (cases_lt m n) [ inl lt ↦ lt | inr ge ↦ absurd (h (λ lt. omega arith)) ]

pub stable_true : (o : Option Bool) → ¬ ¬ (o ≡ Some true) → o ≡ Some true
stable_true None h = absurd (h (λ e. cc))
stable_true (Some true) h = refl
stable_true (Some false) h = absurd (h (λ e. cc))

pub sound : (f : Setting) (s : State) (c : ℕ) (op : Op) → ¬ IsRefused f s c op → ¬ ¬ IsWellFormed f s c op
sound f s c op r k = r (λ p. k p.1)

-- ---- lists of copies

covers_push : (held : Held) (os : List Overlay) (o : Overlay) → CoversAll held os → Covers held o → CoversAll held (os ++ o ∷ [])
covers_push held [] o all one = (one, tt)
covers_push held (x ∷ xs) o all one = (all.0, covers_push held xs o all.1 one)

covers_take : (held : Held) (n : ℕ) (os : List Overlay) → CoversAll held os → CoversAll held (take n os)
covers_take held zero os all = tt
covers_take held (suc n) [] all = tt
covers_take held (suc n) (x ∷ xs) all = (all.0, covers_take held n xs all.1)

covers_empty : (held : Held) → Covers held empty
covers_empty held row change e = absurd (empty_cases row change e)

covers_at : (held : Held) (os : List Overlay) (i : ℕ) → CoversAll held os → Covers held (get_or os i empty)
covers_at held [] i all = covers_empty held
covers_at held (x ∷ xs) zero all = all.0
covers_at held (x ∷ xs) (suc i) all = covers_at held xs i all.1

-- what is held exclusively stays so
abbrev pub Grows : Held → Held → Type 0
Grows held new = (row : ℕ) → get held row ≡ Some true → get new row ≡ Some true

covers_grow : (held new : Held) (o : Overlay) → Grows held new → Covers held o → Covers new o
covers_grow held new o grows covers row change e = grows row (covers row change e)

covers_all_grow : (held new : Held) (os : List Overlay) → Grows held new → CoversAll held os → CoversAll new os
covers_all_grow held new [] grows all = tt
covers_all_grow held new (x ∷ xs) grows all = (covers_grow held new x grows all.0, covers_all_grow held new xs grows all.1)

pub grows_true : (held : Held) (k : ℕ) → Grows held (insert held k true)
grows_true held k row e =
    elim (cases_eq row k) [
      | inl same ↦ ap (get (insert held k true)) same ∙ get_insert_same held k true
      | inr ne ↦ get_insert_other held k true row ne ∙ e
    ]

or_true_of : (o : Option Bool) (x : Bool) → o ≡ Some true → or_exclusive o x ≡ true
or_true_of None x e = cc
or_true_of (Some true) x e = refl
or_true_of (Some false) x e = cc

pub grows_lock : (held : Held) (k : ℕ) (x : Bool) → Grows held (insert held k (or_exclusive (get held k) x))
grows_lock held k x row e =
    elim (cases_eq row k) [
      | inl same ↦ ap (get (insert held k (or_exclusive (get held k) x))) same ∙ get_insert_same held k _ ∙ ap Some (or_true_of (get held k) x (ap (get held) (sym same) ∙ e))
      | inr ne ↦ get_insert_other held k _ row ne ∙ e
    ]

-- a change at a row that is held exclusively
covers_insert : (held : Held) (o : Overlay) (k : ℕ) (v : Option StoredRow) → get held k ≡ Some true → Covers held o → Covers held (insert o k v)
covers_insert held o k v has covers row change e =
    elim (insert_cases o k v row change e) [
      | inl p ↦ ap (get held) p.0 ∙ has
      | inr p ↦ covers row change p.1
    ]

-- ---- a client after its own step

pub forget : (cl : Client) → Own cl → Own (record cl { blocked = None })
forget cl o = record { covers = o.covers; copies = o.copies; idle = o.idle; wanted = tt }

own_commit : (s : State) (c : ℕ) (keep : List RowId) → Own (record (own_after_commit s c keep) { blocked = None })
own_commit s c keep = record { covers = covers_empty _; copies = tt; idle = λ e row. get-empty nat_cmp row; wanted = tt }

own_leave : (s : State) (c : ℕ) → 0 < depth_of s c → (depth_of s c ≡ 1 → ⊥) → Own (s.client c) → Own (record (own_after_leave s c) { blocked = None })
own_leave s c deep more o =
    record {
      covers = o.covers;
      copies = covers_take _ _ _ o.copies;
      idle = λ e row. absurd (let l = length-take (depth_of s c - 1) (s.client c).levels in omega arith);
      wanted = tt;
    }

no_copies : (held : Held) (os : List Overlay) → length os ≡ 0 → CoversAll held os
no_copies held [] e = tt
no_copies held (x ∷ xs) e = absurd (omega arith)

own_free : (s : State) (c : ℕ) (row : ℕ) → depth_of s c ≡ 0 → Own (s.client c) → Own (record (own_after_drop s c row) { blocked = None })
own_free s c row none o =
    record {
      covers = λ at change e. let gone : get (s.client c).overlay at ≡ None = o.idle none at in cc;
      copies = no_copies _ (s.client c).levels none;
      idle = o.idle;
      wanted = tt;
    }

pub by_test : {A : Type 0} (P : A → Type 0) (b : Bool) (x y : A) → (b ≡ true → P x) → (b ≡ false → P y) → P (cond b x y)
by_test P true x y then_x else_y = then_x refl
by_test P false x y then_x else_y = else_y refl

deep_after : (held : Held) (n : ℕ) (os : List Overlay) → 0 < n → n ≤ length os → length (take n os) ≡ 0 → ⊥
deep_after held n os pos le e = let l = length-take n os in omega arith

abbrev pub OwnAfter : Setting → State → ℕ → Op → ℕ → Type 0
OwnAfter f s c op row = Own (record (own_after f s c op row) { blocked = None })

pub own_good : (f : Setting) (s : State) (c : ℕ) (op : Op) (row : ℕ) → ¬ IsRefused f s c op → Own (s.client c) → OwnAfter f s c op row
own_good f s c Enter row r o =
    record { covers = o.covers; copies = covers_push _ _ _ o.copies o.covers; idle = λ e at. absurd (let l = length-append (s.client c).levels ((s.client c).overlay ∷ []) in omega arith); wanted = tt }
own_good f s c (Leave keep) row r o =
    let deep : 0 < depth_of s c = stable_lt _ _ (sound f s c (Leave keep) r) in
    by_test (λ (cl : Client). Own (record cl { blocked = None })) (is_outermost s c) (own_after_commit s c keep) (own_after_leave s c)
    (λ e. own_commit s c keep)
    (λ e. own_leave s c deep (λ one. let t : eqb (depth_of s c) 1 ≡ true = eq-eqb (depth_of s c) 1 one in cc) o)
own_good f s c (Back depth) row r o =
    let deep : 0 < depth = stable_lt _ _ (λ k. sound f s c (Back depth) r (λ p. k p.0)) in
    let within : depth < depth_of s c + 1 = stable_lt _ _ (λ k. sound f s c (Back depth) r (λ p. k (omega arith))) in
    record { covers = covers_at _ (s.client c).levels (depth - 1) o.copies; copies = covers_take _ _ _ o.copies; idle = λ e at. absurd (deep_after (s.client c).held depth (s.client c).levels deep (omega arith) e); wanted = tt }
own_good f s c (Next table index prefix cursor forward) row r o = forget _ o
own_good f s c (Get table at) row r o = forget _ o
own_good f s c (Lock table at exclusive wait) row r o =
    let grows = grows_lock (s.client c).held at.0 exclusive in
    record { covers = covers_grow _ _ _ grows o.covers; copies = covers_all_grow _ _ _ grows o.copies; idle = o.idle; wanted = tt }
own_good f s c (Insert table values) row r o =
    let grows = grows_true (s.client c).held row in
    let deep : 0 < depth_of s c = stable_lt _ _ (λ k. sound f s c (Insert table values) r (λ p. k p.2)) in
    record {
      covers = covers_insert _ _ row _ (get_insert_same (s.client c).held row true) (covers_grow _ _ _ grows o.covers);
      copies = covers_all_grow _ _ _ grows o.copies;
      idle = λ e at. absurd (omega arith);
      wanted = tt;
    }
own_good f s c (Put table at values) row r o =
    let has : get (s.client c).held at.0 ≡ Some true = stable_true _ (λ k. sound f s c (Put table at values) r (λ p. k p.3)) in
    let deep : 0 < depth_of s c = stable_lt _ _ (λ k. sound f s c (Put table at values) r (λ p. k p.2)) in
    record { covers = covers_insert _ _ at.0 _ has o.covers; copies = o.copies; idle = λ e q. absurd (omega arith); wanted = tt }
own_good f s c (Delete table at) row r o =
    let has : get (s.client c).held at.0 ≡ Some true = stable_true _ (λ k. sound f s c (Delete table at) r (λ p. k p.2)) in
    let deep : 0 < depth_of s c = stable_lt _ _ (λ k. sound f s c (Delete table at) r (λ p. k p.1)) in
    record { covers = covers_insert _ _ at.0 _ has o.covers; copies = o.copies; idle = λ e q. absurd (omega arith); wanted = tt }
own_good f s c (DropLock at) row r o =
    by_test (λ (cl : Client). Own (record cl { blocked = None })) (eqb (depth_of s c) 0) (own_after_drop s c at.0) (s.client c)
    (λ e. own_free s c at.0 (eqb-true (depth_of s c) 0 e) o)
    (λ e. forget _ o)
own_good f s c (NextValue sequence) row r o = forget _ o
own_good f s c (CurrentValue sequence) row r o = forget _ o
own_good f s c End row r o = record { covers = covers_empty _; copies = tt; idle = λ e at. get-empty nat_cmp at; wanted = tt }
