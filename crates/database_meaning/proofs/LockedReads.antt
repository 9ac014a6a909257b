-- What is read under a lock.
use Rattle.std.proofs.Common.{◌≡◌, ◌≢◌, ◌⊎◌, ℕ, zero, suc, ◌-◌, ◌<◌, Bool, true, false, cond, List, [], ◌∷◌, ◌++◌, length, take, Option, Some, None, refl, sym, ap, ◌∙◌, subst, inl, inr, arith, length-append}
use Rattle.std.specs.FinMap.{get, insert, entries}
use Rattle.std.proofs.lemmas.Bool.{cases_eq, ne_eqb}
use Rattle.database_meaning.specs.declared.state.StoredRow.{StoredRow}
use Rattle.database_meaning.specs.declared.contents.Contents.{Contents}
use Rattle.database_meaning.specs.Setting.{Setting}
use Rattle.database_meaning.specs.State.{State, Client, Rows, Overlay, Held, view, lock_of, laid, over, depth_of}
use Rattle.database_meaning.specs.Waiting.{LocksConflict, row_in}
use Rattle.database_meaning.specs.Answers.{Answers}
use Rattle.database_meaning.specs.Steps.{own_after, own_after_commit, own_after_leave, own_after_drop, is_success, row_of_answer, or_exclusive, after, client_after, blocked_after, committed_after, laid_on}
use Rattle.database_meaning.specs.Traces.{state_after, Follows, opened, is_committed}
use Rattle.database_meaning.specs.Laws.{StaysOpen, AllStayOpen, ReadsAsCommitted, read_event}
use Rattle.database_protocol.specs.declared.event.Event.{Event}
use Rattle.database_protocol.specs.declared.operation.Op.{Op}
use Rattle.database_protocol.specs.declared.operation.Op.TheVariants.{Enter, Leave, Back, Next, Get, Lock, Insert, Put, Delete, Drop as DropLock, NextValue, CurrentValue, End}
use Rattle.database_protocol.specs.declared.answer.Answer.{Answer}
use Rattle.database_protocol.specs.declared.answer.Answer.TheVariants.{Row as RowAnswer}
use Rattle.database_meaning.proofs.Maps.{get_insert_same, get_insert_other}
use Rattle.database_meaning.proofs.TableRows.{Success, success_of}
use Rattle.database_meaning.proofs.Own.{Covers, sound, stable_lt}
use Rattle.database_meaning.proofs.Good.{Good, good_step, good_after, good_opened, self_after, other_after, committed_step}

-- ---- the view at a row that the others' overlays lack

pub laid_none : (n : ℕ) (client : ℕ → Client) (rows : Rows) (row : ℕ) → ((d : ℕ) → d < n → get (client d).overlay row ≡ None) → laid n client rows row ≡ get rows row
laid_none zero client rows row none = refl
laid_none (suc n) client rows row none = ap (λ o. over o (laid n client rows row)) (none n (omega arith)) ∙ laid_none n client rows row (λ d lt. none d (omega arith))

pub laid_one : (n c : ℕ) (client : ℕ → Client) (rows : Rows) (row : ℕ) → c < n → ((d : ℕ) → (d ≡ c → ⊥) → get (client d).overlay row ≡ None) → laid n client rows row ≡ over (get (client c).overlay row) (get rows row)
laid_one zero c client rows row lt none = absurd (omega arith)
laid_one (suc n) c client rows row lt none =
    elim (cases_eq n c) [
      | inl e ↦ ap (λ k. over (get (client k).overlay row) (laid n client rows row)) e ∙ ap (over (get (client c).overlay row)) (laid_none n client rows row (λ d less. none d (omega arith)))
      | inr ne ↦ ap (λ o. over o (laid n client rows row)) (none n ne) ∙ laid_one n c client rows row (omega arith) none
    ]

-- ---- a lock keeps others' changes away

held_stands : (o : Option Bool) (x : Bool) → o ≡ Some x → LocksConflict o true
held_stands None x e = cc
held_stands (Some true) x e = tt
held_stands (Some false) x e = refl

unchanged : (change : Option (Option StoredRow)) (overlay : Overlay) (held : Held) (row : ℕ) → get overlay row ≡ change → Covers held overlay → ¬ (get held row ≡ Some true) → change ≡ None
unchanged None overlay held row e covers free = refl
unchanged (Some change) overlay held row e covers free = absurd (free (covers row change e))

pub others_lack : (f : Setting) (s : State) → Good f s → (c row : ℕ) (x : Bool) → lock_of s c row ≡ Some x → (d : ℕ) → (d ≡ c → ⊥) → get (s.client d).overlay row ≡ None
others_lack f s g c row x lock d ne =
    unchanged _ (s.client d).overlay (s.client d).held row refl (g.own d).covers
    (λ exclusive. g.clash d c row true ne exclusive (held_stands _ x lock))

-- ---- the client's own steps inside its transaction

stays_locked : (held : Held) (k row : ℕ) (v x : Bool) → get held row ≡ Some x → (y : Bool) × (get (insert held k v) row ≡ Some y)
stays_locked held k row v x e =
    elim (cases_eq row k) [
      | inl same ↦ (v, ap (get (insert held k v)) same ∙ get_insert_same held k v)
      | inr ne ↦ (x, get_insert_other held k v row ne ∙ e)
    ]

abbrev pub Inside : Client → ℕ → Type 0
Inside cl row = (0 < length cl.levels) × (x : Bool) × (get cl.held row ≡ Some x)

deep_take : (n : ℕ) (os : List Overlay) → 0 < n → 0 < length os → 0 < length (take n os)
deep_take zero os pos deep = absurd (omega arith)
deep_take (suc n) [] pos deep = absurd (omega arith)
deep_take (suc n) (o ∷ os) pos deep = omega arith

own_inside : (f : Setting) (s : State) (c : ℕ) (op : Op) (a : Answer) → Success f s c op a → (op ≢ End) → is_committed a ≡ false → (row : ℕ) → Inside (s.client c) row → Inside (own_after f s c op (row_of_answer a)) row
own_inside f s c Enter a ok open_still same row h = (let l = length-append (s.client c).levels ((s.client c).overlay ∷ []) in omega arith, h.1, h.2)
own_inside f s c (Leave keep) a ok open_still same row h =
    elim ok.succeeds [
      | inl p ↦ absurd (let t : is_committed a ≡ true = ap is_committed p.2 in cc)
      | inr p ↦
          subst (λ b. Inside (cond b (own_after_commit s c keep) (own_after_leave s c)) row) (sym (ne_eqb (depth_of s c) 1 p.0))
          (let deep : 0 < length (s.client c).levels = h.0 in let more : depth_of s c ≡ 1 → ⊥ = p.0 in deep_take (depth_of s c - 1) (s.client c).levels (omega arith) deep, h.1, h.2)
    ]
own_inside f s c (Back depth) a ok open_still same row h =
    (deep_take depth (s.client c).levels (stable_lt _ _ (λ k. sound f s c (Back depth) ok.sound (λ p. k p.0))) h.0, h.1, h.2)
own_inside f s c (Next table index prefix cursor forward) a ok open_still same row h = h
own_inside f s c (Get table at) a ok open_still same row h = h
own_inside f s c (Lock table at exclusive wait) a ok open_still same row h = let reserved_keys = stays_locked (s.client c).held at.0 row (or_exclusive (lock_of s c at.0) exclusive) h.1 h.2 in (h.0, reserved_keys.0, reserved_keys.1)
own_inside f s c (Insert table values) a ok open_still same row h = let reserved_keys = stays_locked (s.client c).held (row_of_answer a) row true h.1 h.2 in (h.0, reserved_keys.0, reserved_keys.1)
own_inside f s c (Put table at values) a ok open_still same row h = h
own_inside f s c (Delete table at) a ok open_still same row h = h
own_inside f s c (DropLock at) a ok open_still same row h =
    subst (λ b. Inside (cond b (own_after_drop s c at.0) (s.client c)) row) (sym (ne_eqb (depth_of s c) 0 (let deep : 0 < depth_of s c = h.0 in λ e. omega arith))) h
own_inside f s c (NextValue sequence) a ok open_still same row h = h
own_inside f s c (CurrentValue sequence) a ok open_still same row h = h
own_inside f s c End a ok open_still same row h = absurd (open_still refl)

not_committed : (f : Setting) (s : State) (d : ℕ) (row : ℕ) (op : Op) (a : Answer) → Success f s d op a → is_committed a ≡ false → get (committed_after s d op) row ≡ get s.committed row
not_committed f s d row (Leave keep) a ok same =
    elim ok.succeeds [
      | inl p ↦ absurd (let t : is_committed a ≡ true = ap is_committed p.2 in cc)
      | inr p ↦ ap (λ b. get (cond b (laid_on (entries (s.client d).overlay) s.committed) s.committed) row) (ne_eqb (depth_of s d) 1 p.0)
    ]
not_committed f s d row Enter a ok same = refl
not_committed f s d row (Back depth) a ok same = refl
not_committed f s d row (Next table index prefix cursor forward) a ok same = refl
not_committed f s d row (Get table at) a ok same = refl
not_committed f s d row (Lock table at exclusive wait) a ok same = refl
not_committed f s d row (Insert table values) a ok same = refl
not_committed f s d row (Put table at values) a ok same = refl
not_committed f s d row (Delete table at) a ok same = refl
not_committed f s d row (DropLock at) a ok same = refl
not_committed f s d row (NextValue sequence) a ok same = refl
not_committed f s d row (CurrentValue sequence) a ok same = refl
not_committed f s d row End a ok same = refl

-- ---- any step

inside_self_at : (f : Setting) (s : State) (row d : ℕ) (op : Op) (a : Answer) (b : Bool) → is_success a ≡ b → Answers f s d op a → (op ≢ End) × (is_committed a ≡ false) → Inside (s.client d) row → Inside (cond b (own_after f s d op (row_of_answer a)) (s.client d)) row
inside_self_at f s row d op a true good ok still h = own_inside f s d op a (success_of f s d op a good ok) still.0 still.1 row h
inside_self_at f s row d op a false good ok still h = h

module _ (f : Setting) (s : State) (c : ℕ) (row : ℕ) where
  inside_step : (d : ℕ) (op : Op) (a : Answer) → Answers f s d op a → (d ≡ c → (op ≢ End) × (is_committed a ≡ false)) → Inside (s.client c) row → Inside ((after f s d op a).client c) row
  inside_step d op a ok open_still h =
      elim (cases_eq c d) [
        | inl e ↦
            let still = open_still (sym e) in
            subst (λ (cl : Client). Inside cl row) (sym (ap (λ k. (after f s d op a).client k) e ∙ self_after f s d op a))
            (subst (λ (cl : Client). Inside cl row → Inside (record (client_after f s d op a) { blocked = blocked_after s d op a }) row) (ap s.client (sym e)) (λ i. inside_self_at f s row d op a (is_success a) refl ok still i) h)
        | inr ne ↦ subst (λ (cl : Client). Inside cl row) (sym (other_after f s d op a c ne)) h
      ]

  -- what is committed at the row stays, while the client holds it in a transaction
  committed_locked : Good f s → (d : ℕ) (op : Op) (a : Answer) → Answers f s d op a → (d ≡ c → (op ≢ End) × (is_committed a ≡ false)) → Inside (s.client c) row → get (after f s d op a).committed row ≡ get s.committed row
  committed_locked g d op a ok open_still h =
      elim (cases_eq d c) [
        | inl e ↦ elim (is_success a) as (λ b. is_success a ≡ b → get (cond b (committed_after s d op) s.committed) row ≡ get s.committed row) [
          | true ↦ λ good. not_committed f s d row op a (success_of f s d op a good ok) (open_still e).1
          | false ↦ λ fails. refl
        ] refl
        | inr ne ↦ committed_step f s d op a row (others_lack f s g c row h.1 h.2 d ne)
      ]

-- ---- the whole trace

committed_along : (f : Setting) (c row : ℕ) (s : State) (es : List Event) → Good f s → Follows f s es → AllStayOpen c es → Inside (s.client c) row → get (state_after f s es).committed row ≡ get s.committed row
committed_along f c row s [] g ok open_still h = refl
committed_along f c row s (e ∷ es) g ok open_still h =
    committed_along f c row (after f s e.client e.op e.answer) es (good_step f s e.client e.op e.answer ok.0 g) ok.1 open_still.1 (inside_step f s c row e.client e.op e.answer ok.0 open_still.0 h)
    ∙ committed_locked f s c row g e.client e.op e.answer ok.0 open_still.0 h

pub follows_split : (f : Setting) (s : State) (es fs : List Event) → Follows f s (es ++ fs) → Follows f s es × Follows f (state_after f s es) fs
follows_split f s [] fs ok = (tt, ok)
follows_split f s (e ∷ es) fs ok = let rest = follows_split f (after f s e.client e.op e.answer) es fs ok.1 in ((ok.0, rest.0), rest.1)

pub state_split : (f : Setting) (s : State) (es fs : List Event) → state_after f s (es ++ fs) ≡ state_after f (state_after f s es) fs
state_split f s [] fs = refl
state_split f s (e ∷ es) fs = state_split f (after f s e.client e.op e.answer) es fs

read_here : (own : Option (Option StoredRow)) (below : Option StoredRow) (r : Option StoredRow) → over own below ≡ r → (own ≡ Some r) ⊎ (below ≡ r)
read_here None below r e = inr e
read_here (Some change) below r e = inl (ap Some e)

pub reads_as_committed : (f : Setting) (contents : Contents) → ReadsAsCommitted f contents
reads_as_committed f contents before later c table row values legal lock open_still =
    let s : State = state_after f (opened contents) before in
    let e : Event = read_event c table row values in
    let parts = follows_split f (opened contents) before (e ∷ later) legal.1 in
    let g : Good f s = good_after f (opened contents) before (good_opened f contents) parts.0 in
    let ok = success_of f s c (Get table row) (RowAnswer values) refl parts.1.0 in
    let known : c < f.clients = stable_lt _ _ (λ k. ok.sound (λ p. k p.0)) in
    let shown = ok.succeeds in
    let same : shown.0 ≡ values = cc in
    let there : view f s row.0 ≡ row_in table values = shown.2 ∙ ap (row_in table) same in
    let own : over (get (s.client c).overlay row.0) (get s.committed row.0) ≡ row_in table values = sym (laid_one f.clients c s.client s.committed row.0 known (others_lack f s g c row.0 lock.1 lock.2)) ∙ there in
    let stay : StaysOpen c e = λ mine. (λ end. cc, refl) in
    let reserved_keys = committed_along f c row.0 s (e ∷ later) g parts.1 (stay, open_still) lock in
    elim (read_here _ _ _ own) [
      | inl mine ↦ inl mine
      | inr below ↦ inr (ap (λ (z : State). get z.committed row.0) (state_split f (opened contents) before (e ∷ later)) ∙ reserved_keys ∙ below)
    ]
