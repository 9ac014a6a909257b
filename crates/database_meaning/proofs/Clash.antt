-- No two clients' locks conflict.
use Rattle.std.proofs.Common.{◌≡◌, ℕ, Bool, true, false, cond, List, Option, Some, None, refl, sym, ap, ◌∙◌, subst, inl, inr, eqb}
use Rattle.std.specs.FinMap.{get, insert, remove, empty}
use Rattle.abl_base.specs.declared.row.RowId.{RowId}
use Rattle.database_meaning.specs.Setting.{Setting}
use Rattle.database_meaning.specs.State.{State, Client, Rows, Held, depth_of}
use Rattle.database_meaning.specs.Waiting.{LocksConflict}
use Rattle.database_meaning.specs.Steps.{own_after, own_after_commit, own_after_leave, own_after_drop, is_outermost, row_of_answer, or_exclusive, held_after_commit, stays}
use Rattle.database_protocol.specs.declared.operation.Op.{Op}
use Rattle.database_protocol.specs.declared.operation.Op.TheVariants.{Enter, Leave, Back, Next, Get, Lock, Insert, Put, Delete, Drop as DropLock, NextValue, CurrentValue, End}
use Rattle.database_protocol.specs.declared.answer.Answer.{Answer}
use Rattle.database_meaning.proofs.Maps.{insert_cases, remove_cases, retain_cases, empty_cases, as_share_cases}
use Rattle.database_meaning.proofs.TableRows.{Success}

-- of two locks of different clients on a row neither conflicts with the other
abbrev pub NoClash : (ℕ → Client) → Type 0
NoClash client = (c d row : ℕ) (x : Bool) → (c ≡ d → ⊥) → get (client c).held row ≡ Some x → ¬ LocksConflict (get (client d).held row) x

-- these locks of client c conflict with no other client's
abbrev pub Suits : (ℕ → Client) → ℕ → Held → Type 0
Suits client c held = (d row : ℕ) (x : Bool) → (c ≡ d → ⊥) → get held row ≡ Some x → ¬ LocksConflict (get (client d).held row) x

-- each lock of the new ones was there, as strong or stronger
abbrev pub Weaker : Held → Held → Type 0
Weaker new held = (row : ℕ) (x : Bool) → get new row ≡ Some x → (y : Bool) × (get held row ≡ Some y) × (x ≡ true → y ≡ true)

weaker_stands : (o : Option Bool) (x y : Bool) → (x ≡ true → y ≡ true) → LocksConflict o x → LocksConflict o y
weaker_stands None x y le s = absurd s
weaker_stands (Some true) x y le s = tt
weaker_stands (Some false) true y le s = le refl
weaker_stands (Some false) false y le s = cc

suits_weaker : (client : ℕ → Client) (c : ℕ) (new : Held) → NoClash client → Weaker new (client c).held → Suits client c new
suits_weaker client c new clash weaker d row x ne e stands =
    let w = weaker row x e in
    clash c d row w.0 ne w.1 (weaker_stands _ x w.0 w.2 stands)

pub suits_same : (client : ℕ → Client) (c : ℕ) → NoClash client → Suits client c (client c).held
suits_same client c clash d row x ne e = clash c d row x ne e

weaker_empty : (held : Held) → Weaker empty held
weaker_empty held row x e = absurd (empty_cases row x e)

weaker_remove : (held : Held) (k : ℕ) → Weaker (remove held k) held
weaker_remove held k row x e = (x, (remove_cases held k row x e).1, λ t. t)

weaker_commit : (rows : Rows) (keep : List RowId) (held : Held) → Weaker (held_after_commit rows keep held) held
weaker_commit rows keep held row x e =
    let share = as_share_cases _ row x e in
    (share.1, retain_cases held (stays rows keep) row share.1 share.2, λ t. let weak : x ≡ false = share.0 in cc)

-- a lock without a conflict
or_true_stands : (o p : Option Bool) (x : Bool) → ((y : Bool) → o ≡ Some y → ¬ LocksConflict p y) → ¬ LocksConflict p x → ¬ LocksConflict p (or_exclusive o x)
or_true_stands None p x had free stands = free stands
or_true_stands (Some true) p x had free stands = had true refl stands
or_true_stands (Some false) p x had free stands = free stands

suits_lock : (client : ℕ → Client) (c k : ℕ) (x : Bool) → NoClash client → ((d : ℕ) → (c ≡ d → ⊥) → ¬ LocksConflict (get (client d).held k) x) → Suits client c (insert (client c).held k (or_exclusive (get (client c).held k) x))
suits_lock client c k x clash free d row y ne e stands =
    elim (insert_cases (client c).held k _ row y e) [
      | inl p ↦
          let at : get (client d).held row ≡ get (client d).held k = ap (get (client d).held) p.0 in
          let there : LocksConflict (get (client d).held k) (or_exclusive (get (client c).held k) x) = subst (λ b. LocksConflict (get (client d).held k) b) (sym p.1) (subst (λ o. LocksConflict o y) at stands) in
          or_true_stands (get (client c).held k) (get (client d).held k) x (λ z has. clash c d k z ne has) (free d ne) there
      | inr p ↦ clash c d row y ne p.1 stands
    ]

none_stands : (o : Option Bool) (x : Bool) → o ≡ None → ¬ LocksConflict o x
none_stands None x e s = s
none_stands (Some b) x e s = cc

suits_insert : (client : ℕ → Client) (c k : ℕ) → NoClash client → ((d : ℕ) → get (client d).held k ≡ None) → Suits client c (insert (client c).held k true)
suits_insert client c k clash nobody d row y ne e stands =
    elim (insert_cases (client c).held k true row y e) [
      | inl p ↦ none_stands _ y (ap (get (client d).held) p.0 ∙ nobody d) stands
      | inr p ↦ clash c d row y ne p.1 stands
    ]

by_test : {A : Type 0} (P : A → Type 0) (b : Bool) (x y : A) → P x → P y → P (cond b x y)
by_test P true x y then_x else_y = then_x
by_test P false x y then_x else_y = else_y

pub own_suits : (f : Setting) (s : State) (c : ℕ) (op : Op) (a : Answer) → Success f s c op a → NoClash s.client → Suits s.client c (own_after f s c op (row_of_answer a)).held
own_suits f s c Enter a ok clash = suits_same s.client c clash
own_suits f s c (Leave keep) a ok clash =
    by_test (λ (cl : Client). Suits s.client c cl.held) (is_outermost s c) (own_after_commit s c keep) (own_after_leave s c)
    (suits_weaker s.client c _ clash (weaker_commit _ keep _))
    (suits_same s.client c clash)
own_suits f s c (Back depth) a ok clash = suits_same s.client c clash
own_suits f s c (Next table index prefix cursor forward) a ok clash = suits_same s.client c clash
own_suits f s c (Get table row) a ok clash = suits_same s.client c clash
own_suits f s c (Lock table row exclusive wait) a ok clash = suits_lock s.client c row.0 exclusive clash (λ d ne stands. ok.alone (d, (λ e. ne (sym e), stands)))
own_suits f s c (Insert table values) a ok clash =
    let fresh = ok.succeeds in
    let at : row_of_answer a ≡ fresh.0.0 = ap row_of_answer fresh.1 in
    suits_insert s.client c (row_of_answer a) clash (λ d. ap (λ k. get (s.client d).held k) at ∙ (fresh.2.3 d).1)
own_suits f s c (Put table row values) a ok clash = suits_same s.client c clash
own_suits f s c (Delete table row) a ok clash = suits_same s.client c clash
own_suits f s c (DropLock row) a ok clash =
    by_test (λ (cl : Client). Suits s.client c cl.held) (eqb (depth_of s c) 0) (own_after_drop s c row.0) (s.client c)
    (suits_weaker s.client c _ clash (weaker_remove _ row.0))
    (suits_same s.client c clash)
own_suits f s c (NextValue sequence) a ok clash = suits_same s.client c clash
own_suits f s c (CurrentValue sequence) a ok clash = suits_same s.client c clash
own_suits f s c End a ok clash = suits_weaker s.client c _ clash (weaker_empty _)
