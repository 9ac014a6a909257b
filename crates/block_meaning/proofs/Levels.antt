-- A part of a run requests Leave and Back of open levels only. Its completion determines how many levels are open after it.
use Rattle.std.proofs.Common.{◌≡◌, refl, sym, ap, ◌∙◌, subst, ℕ, zero, suc, ◌+◌, ◌≤◌, List, [], ◌∷◌, ◌++◌, Bool, true, false, Option, Some, None}
use Rattle.std.proofs.Math.Path.{fun_ext}
use Rattle.database_protocol.specs.declared.operation.Op.{Op}
use Rattle.database_protocol.specs.declared.answer.Answer.{Answer}
use Rattle.database_protocol.specs.declared.answer.Answer.TheVariants as answer
use Rattle.database_protocol.specs.declared.next_step.NextStep.{NextStep}
use Rattle.database_protocol.specs.declared.next_step.NextStep.TheVariants.{Ask, Ended}
use Rattle.block_meaning.specs.State.{State, Copy, Completion, Normal, Undoes, Raises, EndKeys, Stops, Outcome, Done, Suspended, Continuation, completes, if_else, update_then, costs_unit_of, costs_unit, awaits, asks, if_normal, and_then, Completed, immediately}
use Rattle.block_meaning.specs.GivesUp.{is_blocked}
use Rattle.block_meaning.specs.Levels.{CanAsk, levels_after}
use Rattle.block_meaning.proofs.Continues.{Continues, Fits, Handles}

-- ---- the levels that are open when a part completes. It began with k of them

-- UNDO, ERROR and ENDKEY leave open the levels that they have passed; the first of these is level k + 1
abbrev pub FirstAt : ℕ → Option Copy → State → Type 0
FirstAt k None s = s.level ≡ k
FirstAt k (Some copy) s = (copy.depth ≡ k + 1) × (k + 1 ≤ s.level)

-- after the requested operations n levels are open, as the state and the completion require
abbrev pub Over : ℕ → ℕ → Completion → State → Type 0
Over k n (Stops end) s = Unit {0}
Over k n (Undoes block action retry passed) s = (n ≡ s.level) × FirstAt k passed.first s
Over k n (Raises passed) s = (n ≡ s.level) × FirstAt k passed.first s
Over k n (EndKeys passed) s = (n ≡ s.level) × FirstAt k passed.first s
Over k n completion s = (n ≡ s.level) × (s.level ≡ k)

abbrev pub IsStop : Completion → Type 0
IsStop (Stops end) = Unit {0}
IsStop completion = ⊥

over_stop : (completion : Completion) (k n : ℕ) (s : State) → IsStop completion → Over k n completion s
over_stop (Stops end) k n s i = tt
over_stop completion k n s i = absurd i

-- ---- what is asked meanwhile

abbrev pub WantsAt : ℕ → NextStep → Type 0
WantsAt n (Ask o) = CanAsk n o
WantsAt n (Ended e) = ⊥

abbrev pub after_wants : Bool → ℕ → NextStep → ℕ
after_wants true n w = n
after_wants false n (Ask o) = levels_after n o
after_wants false n (Ended e) = n

-- completed with no answer used, or suspended at an operation that may be asked. O gives the number of open levels at completion
abbrev pub Now : (ℕ → Completion → State → Type 0) → ℕ → Outcome → Type 0
Now O n (Done completion s left) = (left ≡ []) × O n completion s
Now O n (Suspended d) = WantsAt n d.wants

abbrev pub Later : (ℕ → Completion → State → Type 0) → ℕ → Outcome → Answer → (ℕ → Type 0) → Type 0
Later O n (Done completion s left) a rest = (left ≡ []) × O n completion s
Later O n (Suspended d) a rest = WantsAt n d.wants × rest (after_wants (is_blocked a) n d.wants)

-- a run requests only operations that may be requested, answer by answer, where n levels are open after the requests so far
abbrev pub Legal : (ℕ → Completion → State → Type 0) → ℕ → (List Answer → Outcome) → List Answer → Type 0
Legal O n f [] = Now O n (f [])
Legal O n f (a ∷ ans) = Later O n (f []) a (λ m. Legal O m (λ more. f (a ∷ more)) ans)

-- a family of conditions on the number of open levels at completion, where k were open before
pub record IsFamily (O : ℕ → ℕ → Completion → State → Type 0) : Type 0 where
  pub stops : (k n : ℕ) (completion : Completion) (s : State) → IsStop completion → O k n completion s
  pub ran : (k n : ℕ) (s : State) → (n ≡ s.level) × (s.level ≡ k) → O k n Normal s
  pub back : (k n : ℕ) (s : State) → O k n Normal s → (n ≡ s.level) × (s.level ≡ k)

abbrev pub LevelsIn : (ℕ → ℕ → Completion → State → Type 0) → Continuation → Type 0
LevelsIn O go = (s : State) (ans : List Answer) → Legal (O s.level) s.level (go s) ans

abbrev pub Levels : Continuation → Type 0
Levels go = LevelsIn Over go

pub over_family : IsFamily Over
over_family = record { stops = λ k n completion s i. over_stop completion k n s i; ran = λ k n s h. h; back = λ k n s h. h }

-- ---- what has completed stays so with more answers

abbrev pub Steady : (List Answer → Outcome) → Type 0
Steady f = (ans more : List Answer) (completion : Completion) (s : State) (left : List Answer) → f ans ≡ Done completion s left → f (ans ++ more) ≡ Done completion s (left ++ more)

pub steady_part : (go : Continuation) → Continues go → (s : State) → Steady (go s)
steady_part go x s ans more completion t left e =
    let y : Fits s ans (Done completion t left) (go s (ans ++ more)) more = subst (λ r. Fits s ans r (go s (ans ++ more)) more) e (x s ans more) in y.same

pub steady_further : (f : List Answer → Outcome) (a : Answer) → Steady f → Steady (λ more. f (a ∷ more))
steady_further f a x ans more completion s left e = x (a ∷ ans) more completion s left e

-- ---- parts

pub over_at_once : (O : ℕ → Completion → State → Type 0) (n : ℕ) (completion : Completion) (s : State) → O n completion s → (ans : List Answer) → Legal O n (completes completion s) ans
over_at_once O n completion s h [] = (refl, h)
over_at_once O n completion s h (a ∷ ans) = (refl, h)

pub levels_goes : (completion : Completion) → ((s : State) → Over s.level s.level completion s) → Levels (completes completion)
levels_goes completion x s ans = over_at_once (Over s.level) s.level completion s (x s) ans

pub in_ran : (O : ℕ → ℕ → Completion → State → Type 0) → IsFamily O → LevelsIn O (completes Normal)
in_ran O F s ans = over_at_once (O s.level) s.level Normal s (F.ran s.level s.level s (refl, refl)) ans

pub in_where : (O : ℕ → ℕ → Completion → State → Type 0) (b : Bool) (one other : Continuation) → LevelsIn O one → LevelsIn O other → LevelsIn O (if_else b one other)
in_where O true one other x y s ans = x s ans
in_where O false one other x y s ans = y s ans

pub levels_where : (b : Bool) (one other : Continuation) → Levels one → Levels other → Levels (if_else b one other)
levels_where b one other x y = in_where Over b one other x y

-- where the level is the same
pub in_at : (O : ℕ → ℕ → Completion → State → Type 0) (k n : ℕ) (go : Continuation) → LevelsIn O go → (s : State) → n ≡ s.level → s.level ≡ k → (ans : List Answer) → Legal (O k) n (go s) ans
in_at O k n go x s e f ans = subst (λ m. Legal (O k) m (go s) ans) (sym e) (subst (λ j. Legal (O j) s.level (go s) ans) f (x s ans))

pub legal_at : (k n : ℕ) (go : Continuation) → Levels go → (s : State) → n ≡ s.level → s.level ≡ k → (ans : List Answer) → Legal (Over k) n (go s) ans
legal_at k n go x s e f ans = in_at Over k n go x s e f ans

pub in_first : (O : ℕ → ℕ → Completion → State → Type 0) (change : State → State) (go : Continuation) → ((s : State) → (change s).level ≡ s.level) → LevelsIn O go → LevelsIn O (update_then change go)
in_first O change go k x s ans = in_at O s.level s.level go x (change s) (sym (k s)) (k s) ans

pub levels_first : (change : State → State) (go : Continuation) → ((s : State) → (change s).level ≡ s.level) → Levels go → Levels (update_then change go)
levels_first change go k x = in_first Over change go k x

-- an operation that may be asked, and what follows its answer
pub legal_hears : (O : ℕ → Completion → State → Type 0) → ((n : ℕ) (completion : Completion) (s : State) → IsStop completion → O n completion s) → (n : ℕ) (op : Op) (go : Answer → Continuation) (s : State) → CanAsk n op → ((a : Answer) (ans : List Answer) → Legal O (levels_after n op) (go a s) ans) → (ans : List Answer) → Legal O n (awaits op go s) ans
legal_hears O z n op go s c x [] = c
legal_hears O z n op go s c x (answer.Blocked holders ∷ ans) = (c, legal_hears O z n op go s c x ans)
legal_hears O z n op go s c x (answer.NoMemory ∷ ans) = (c, over_at_once O (levels_after n op) (Stops _) s (z (levels_after n op) (Stops _) s tt) ans)
legal_hears O z n op go s c x (answer.Closed ∷ ans) = (c, over_at_once O (levels_after n op) (Stops _) s (z (levels_after n op) (Stops _) s tt) ans)
legal_hears O z n op go s c x (answer.Deadlock cycle ∷ ans) = (c, over_at_once O (levels_after n op) (Stops _) s (z (levels_after n op) (Stops _) s tt) ans)
legal_hears O z n op go s c x (answer.TxFull ∷ ans) = (c, over_at_once O (levels_after n op) (Stops _) s (z (levels_after n op) (Stops _) s tt) ans)
legal_hears O z n op go s c x (answer.TraceFull ∷ ans) = (c, over_at_once O (levels_after n op) (Stops _) s (z (levels_after n op) (Stops _) s tt) ans)
legal_hears O z n op go s c x (a ∷ ans) = (c, x a ans)

pub legal_from : (O : ℕ → Completion → State → Type 0) → ((n : ℕ) (completion : Completion) (s : State) → IsStop completion → O n completion s) → (u n : ℕ) (op : Op) (go : Answer → Continuation) (s : State) → CanAsk n op → ((m : ℕ) (a : Answer) (ans : List Answer) → Legal O (levels_after n op) (go a (record s { units = m })) ans) → (ans : List Answer) → Legal O n (costs_unit_of u (awaits op go) s) ans
legal_from O z zero n op go s c x ans = over_at_once O n (Stops _) s (z n (Stops _) s tt) ans
legal_from O z (suc u) n op go s c x ans = legal_hears O z n op go (record s { units = u }) c (x u) ans

-- an operation that does not concern levels
pub record IsNeutral (op : Op) : Type 0 where
  pub can : (n : ℕ) → CanAsk n op
  pub after : (n : ℕ) → levels_after n op ≡ n

pub in_asks : (O : ℕ → ℕ → Completion → State → Type 0) → IsFamily O → (op : Op) (go : Answer → Continuation) → IsNeutral op → ((a : Answer) → LevelsIn O (go a)) → LevelsIn O (asks op go)
in_asks O F op go i x s ans =
    legal_from (O s.level) (F.stops s.level) s.units s.level op go s (i.can s.level)
    (λ m a ans. subst (λ n. Legal (O s.level) n (go a (record s { units = m })) ans) (sym (i.after s.level)) (x a (record s { units = m }) ans)) ans

pub levels_asks : (op : Op) (go : Answer → Continuation) → IsNeutral op → ((a : Answer) → Levels (go a)) → Levels (asks op go)
levels_asks op go i x = in_asks Over over_family op go i x

costs_unit_levels : (u : ℕ) (go : Continuation) → Levels go → (s : State) (ans : List Answer) → Legal (Over s.level) s.level (costs_unit_of u go s) ans
costs_unit_levels zero go x s ans = over_at_once (Over s.level) s.level (Stops _) s tt ans
costs_unit_levels (suc u) go x s ans = x (record s { units = u }) ans

pub levels_charged : (go : Continuation) → Levels go → Levels (costs_unit go)
levels_charged go x s ans = costs_unit_levels s.units go x s ans

-- ---- one part after another

-- what follows a completion, from its state
abbrev pub FollowsTo : (ℕ → Completion → State → Type 0) → (ℕ → Completion → State → Type 0) → (Completion → Continuation) → Type 0
FollowsTo O R kk = (n : ℕ) (completion : Completion) (s : State) → O n completion s → (ans : List Answer) → Legal R n (kk completion s) ans

abbrev pub FollowsAt : ℕ → (Completion → Continuation) → Type 0
FollowsAt k kk = FollowsTo (Over k) (Over k) kk

handled_over : (h : Outcome → Outcome) (kk : Completion → Continuation) → Handles h kk → (f : List Answer → Outcome) → Steady f → (completion : Completion) (s : State) (left : List Answer) → f [] ≡ Done completion s left → left ≡ [] → (ans : List Answer) → kk completion s ans ≡ h (f ans)
handled_over h kk c f x completion s left e l ans = sym (ap h (x [] ans completion s left e ∙ ap (λ m. Done completion s (m ++ ans)) l) ∙ c.completes completion s ans)

over_handled : (O R : ℕ → Completion → State → Type 0) (n : ℕ) (h : Outcome → Outcome) (kk : Completion → Continuation) → Handles h kk → FollowsTo O R kk → (f : List Answer → Outcome) → Steady f → (completion : Completion) (s : State) (left : List Answer) → f [] ≡ Done completion s left → left ≡ [] → O n completion s → (ans : List Answer) → Legal R n (λ ans. h (f ans)) ans
over_handled O R n h kk c y f x completion s left e l o ans = subst (λ g. Legal R n g ans) (fun_ext (handled_over h kk c f x completion s left e l)) (y n completion s o ans)

mutual
  handled_by : (O R : ℕ → Completion → State → Type 0) (n : ℕ) (h : Outcome → Outcome) (kk : Completion → Continuation) → Handles h kk → FollowsTo O R kk → (f : List Answer → Outcome) → Steady f → (r : Outcome) → f [] ≡ r → (ans : List Answer) → Legal O n f ans → Legal R n (λ ans. h (f ans)) ans
  handled_by O R n h kk c y f x (Done completion s left) e [] l = let m = subst (Now O n) e l in over_handled O R n h kk c y f x completion s left e m.0 m.1 []
  handled_by O R n h kk c y f x (Done completion s left) e (a ∷ ans) l =
      let m = subst (λ r. Later O n r a (λ m. Legal O m (λ more. f (a ∷ more)) ans)) e l in over_handled O R n h kk c y f x completion s left e m.0 m.1 (a ∷ ans)
  handled_by O R n h kk c y f x (Suspended d) e [] l = subst (Now R n) (sym (ap h e ∙ c.stands d)) (subst (Now O n) e l)
  handled_by O R n h kk c y f x (Suspended d) e (a ∷ ans) l =
      let m = subst (λ r. Later O n r a (λ m. Legal O m (λ more. f (a ∷ more)) ans)) e l in
      subst (λ r. Later R n r a (λ m. Legal R m (λ more. h (f (a ∷ more))) ans)) (sym (ap h e ∙ c.stands d))
      (m.0, handled_by O R (after_wants (is_blocked a) n d.wants) h kk c y (λ more. f (a ∷ more)) (steady_further f a x) (f (a ∷ [])) refl ans m.1)

pub legal_handled : (O R : ℕ → Completion → State → Type 0) (n : ℕ) (h : Outcome → Outcome) (kk : Completion → Continuation) → Handles h kk → FollowsTo O R kk → (f : List Answer → Outcome) → Steady f → (ans : List Answer) → Legal O n f ans → Legal R n (λ ans. h (f ans)) ans
legal_handled O R n h kk c y f x ans l = handled_by O R n h kk c y f x (f []) refl ans l

pub levels_handled : (go : Continuation) (h : Outcome → Outcome) (kk : Completion → Continuation) → Handles h kk → Continues go → Levels go → ((k : ℕ) → FollowsAt k kk) → (s : State) (ans : List Answer) → Legal (Over s.level) s.level (λ ans. h (go s ans)) ans
levels_handled go h kk c g x y s ans = legal_handled (Over s.level) (Over s.level) s.level h kk c (y s.level) (go s) (steady_part go g s) ans (x s ans)

-- a completion that is propagated
pub follows_same : (k n : ℕ) (completion : Completion) (s : State) → Over k n completion s → (ans : List Answer) → Legal (Over k) n (completes completion s) ans
follows_same k n completion s o ans = over_at_once (Over k) n completion s o ans

pub legal_then : (O R : ℕ → Completion → State → Type 0) (n : ℕ) (next : Continuation) → FollowsTo O R (λ completion. if_normal completion next) → (f : List Answer → Outcome) → Steady f → (ans : List Answer) → Legal O n f ans → Legal R n (λ ans. and_then (f ans) next) ans
legal_then O R n next y f x ans l = legal_handled O R n (λ r. and_then r next) (λ completion. if_normal completion next) (record { completes = λ completion s ans. refl; stands = λ d. refl }) y f x ans l

after_way_follows : (O : ℕ → ℕ → Completion → State → Type 0) → IsFamily O → (next : Continuation) → LevelsIn O next → (k : ℕ) → FollowsTo (O k) (O k) (λ completion. if_normal completion next)
after_way_follows O F next x k n Normal s o ans = in_at O k n next x s (F.back k n s o).0 (F.back k n s o).1 ans
after_way_follows O F next x k n completion s o ans = over_at_once (O k) n completion s o ans

pub in_then : (O : ℕ → ℕ → Completion → State → Type 0) → IsFamily O → (go next : Continuation) → Continues go → LevelsIn O go → LevelsIn O next → (s : State) (ans : List Answer) → Legal (O s.level) s.level (λ ans. and_then (go s ans) next) ans
in_then O F go next g x y s ans = legal_then (O s.level) (O s.level) s.level next (after_way_follows O F next y s.level) (go s) (steady_part go g s) ans (x s ans)

pub levels_then : (go next : Continuation) → Continues go → Levels go → Levels next → (s : State) (ans : List Answer) → Legal (Over s.level) s.level (λ ans. and_then (go s ans) next) ans
levels_then go next g x y = in_then Over over_family go next g x y

-- ---- parts that ask for no operation

pub levels_done : (f : State → Completed) → ((s : State) → Over s.level s.level (f s).completion (f s).state) → Levels (immediately f)
levels_done f x s [] = (refl, x s)
levels_done f x s (a ∷ ans) = (refl, x s)
