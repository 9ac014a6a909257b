-- What every step keeps: outside of a transaction no record is pending, and inside of one each pending record is of a CREATE after its Enter.
use Rattle.std.proofs.Common.{◌≡◌, ◌<◌, ◌≤◌, inl, inr, sym, subst, ℕ, List, [], ◌∷◌, ◌++◌, Option, Some, None, map, append_assoc}
use Rattle.block_meaning.specs.Buffers.{Place, own}
use Rattle.block_meaning.specs.State.{CallFrame, Completion, Copy, EndKeys, Faults, Normal, Raises, State, Stops, Undoes}
use Rattle.flat_machine.specs.Config.{AfterBack, AfterClosing, Await, Begins, Closing, Completes, Config, Drops, Empties, EndKeyComes, EndsWith, Enters, EntersOne, EntersRest, ErrorComes, Execute, FetchedAs, Fetches, FetchesFrom, FindsAs, GoesBack, In, IsOnly, LeavesIf, LeavesNow, Looks, Mode, OnAnswer, OrDo, Passes, Releases, Searches, Seconds, StackEntry, Takes, TakesAgain, TakesAs, Task, ThenDo, UndoComes, Unwind, Updates, UpdatesOne, WasBack, WasDropped, WasGot, WasGranted, WasInserted, WasLeft, WasNext, WasRead, WasSecond}
use Rattle.machine_laws.proofs.PendingLemmas.Pends.{FramesClaim, IsClear, SavedClaim}
use Rattle.machine_laws.proofs.PendingLemmas.Places.{Covers, IsAmong, PendingAmong, among_either, among_left, among_right, covers_more}

-- ---- copies

-- what a copy restores is of CREATEs after number m, which is its own mark if it is of the transaction
abbrev pub IsCopyOf : ℕ → Option Copy → Type 0
IsCopyOf m None = Unit {0}
IsCopyOf m (Some copy) = SavedClaim (λ made. m < made) copy.frames × (copy.depth ≡ 1 → copy.made ≡ m)

abbrev pub Carries : ℕ → Completion → Type 0
Carries m (Undoes block act retry passed) = IsCopyOf m passed.first
Carries m (Raises passed) = IsCopyOf m passed.first
Carries m (EndKeys passed) = IsCopyOf m passed.first
Carries m completion = Unit {0}

-- it has passed no level
abbrev pub HasPassedNone : Option Copy → Type 0
HasPassedNone None = Unit {0}
HasPassedNone (Some copy) = ⊥

abbrev pub CarriesNone : Completion → Type 0
CarriesNone (Undoes block act retry passed) = HasPassedNone passed.first
CarriesNone (Raises passed) = HasPassedNone passed.first
CarriesNone (EndKeys passed) = HasPassedNone passed.first
CarriesNone completion = Unit {0}

-- ---- what follows needs no record to be pending, but for these places

-- after a Leave, buffers are emptied, or nothing follows that cares
abbrev pub AfterLeave : List Place → List StackEntry → List CallFrame → ℕ → Type 0
AfterLeave places (ThenDo (Empties but) ∷ ks) fs k = k ≡ 1 → PendingAmong (places ++ map own but) fs
AfterLeave places ks fs k = k ≡ 1 → PendingAmong places fs

abbrev pub Want : List Place → List StackEntry → List CallFrame → ℕ → Type 0
Want places (ThenDo (Enters more) ∷ ks) fs k = Want (more ++ places) ks fs k
Want places (ThenDo (EntersRest copy) ∷ ks) fs k = Unit {0}
Want places (ThenDo (LeavesIf None but) ∷ ks) fs k = Unit {0}
Want places (ThenDo (LeavesIf (Some copy) but) ∷ ks) fs k = copy.depth ≡ 1 → PendingAmong places fs
Want places (ThenDo (Updates mark but more) ∷ ks) fs k = (k ≡ 1 → FramesClaim (λ made. mark < made) fs) × (k ≡ 1 → PendingAmong ((more ++ places) ++ map own but) fs)
Want places (ThenDo (LeavesNow but) ∷ ks) fs k = AfterLeave places ks fs k
Want places (ThenDo (Empties but) ∷ ks) fs k = k ≡ 0 → PendingAmong (places ++ map own but) fs
Want places (ThenDo t ∷ ks) fs k = Want places ks fs k
Want places (OrDo t ∷ ks) fs k = Want places ks fs k
Want places (FetchedAs b None t buffer body d retry ∷ ks) fs k = Unit {0}
Want places (FetchedAs b (Some copy) t buffer body d retry ∷ ks) fs k = copy.depth ≡ 1 → PendingAmong places fs
Want places ks fs k = Unit {0}

-- the read of a FOR needs it, however it completes
abbrev pub WantAny : List StackEntry → List CallFrame → Type 0
WantAny (ThenDo (Enters more) ∷ ks) fs = Unit {0}
WantAny (ThenDo (EntersRest copy) ∷ ks) fs = Unit {0}
WantAny (ThenDo (LeavesIf copy but) ∷ ks) fs = Unit {0}
WantAny (ThenDo (Updates mark but more) ∷ ks) fs = Unit {0}
WantAny (ThenDo (LeavesNow but) ∷ ks) fs = Unit {0}
WantAny (ThenDo (Empties but) ∷ ks) fs = Unit {0}
WantAny (ThenDo t ∷ ks) fs = WantAny ks fs
WantAny (OrDo t ∷ ks) fs = WantAny ks fs
WantAny (FetchedAs b None t buffer body d retry ∷ ks) fs = Unit {0}
WantAny (FetchedAs b (Some copy) t buffer body d retry ∷ ks) fs = copy.depth ≡ 1 → PendingAmong [] fs
WantAny ks fs = Unit {0}

-- nothing that follows cares
abbrev pub IsIdle : Task → Type 0
IsIdle (Enters more) = ⊥
IsIdle (EntersRest copy) = ⊥
IsIdle (LeavesIf copy but) = ⊥
IsIdle (Updates mark but more) = ⊥
IsIdle (LeavesNow but) = ⊥
IsIdle (Empties but) = ⊥
IsIdle t = Unit {0}

abbrev pub Rests : List StackEntry → Type 0
Rests (ThenDo t ∷ ks) = IsIdle t × Rests ks
Rests (OrDo t ∷ ks) = Rests ks
Rests (FetchedAs b copy t buffer body d retry ∷ ks) = ⊥
Rests ks = Unit {0}

-- ---- the stack

-- a level of this copy is left next
abbrev pub IsLeaving : Option Copy → List StackEntry → Type 0
IsLeaving copy (ThenDo (LeavesIf c but) ∷ ks) = c ≡ copy
IsLeaving copy ks = ⊥

-- a Leave, after which these buffers are emptied
abbrev pub IsUndone : List ℕ → List StackEntry → Type 0
IsUndone but (ThenDo (LeavesNow b) ∷ ThenDo (Empties c) ∷ ks) = c ≡ but
IsUndone but ks = ⊥

abbrev pub LeavesTo : List StackEntry → Type 0
LeavesTo (ThenDo (Empties but) ∷ ks) = Rests ks
LeavesTo ks = Rests ks

-- the iteration ends
abbrev pub IsAtEnd : List StackEntry → Type 0
IsAtEnd (ThenDo (EntersRest copy) ∷ ks) = Unit {0}
IsAtEnd (ThenDo (LeavesIf copy but) ∷ ks) = Unit {0}
IsAtEnd (ThenDo (Releases bs) ∷ ks) = IsAtEnd ks
IsAtEnd (ThenDo (Drops b) ∷ ks) = IsAtEnd ks
IsAtEnd (ThenDo (Enters places) ∷ ks) = IsAtEnd ks
IsAtEnd ks = ⊥

-- the read of a FOR, or nothing that cares
abbrev pub IsReading : List StackEntry → Type 0
IsReading (FetchedAs b copy t buffer body d retry ∷ ks) = Unit {0}
IsReading ks = Rests ks

-- a search
abbrev pub IsSearching : Task → Type 0
IsSearching (Looks n k from) = Unit {0}
IsSearching (Searches r forward only wait retry from) = Unit {0}
IsSearching t = ⊥

-- a task on the stack, over those below it. It carries no copy
abbrev pub FitsOver : Task → List StackEntry → Type 0
FitsOver (Enters more) ks = IsAtEnd ks
FitsOver (EntersRest copy) ks = IsLeaving copy ks
FitsOver (LeavesIf copy but) ks = Rests ks
FitsOver (LeavesNow but) ks = LeavesTo ks
FitsOver (Updates mark but more) ks = IsUndone but ks
FitsOver (Empties but) ks = Rests ks
FitsOver (Completes completion) ks = CarriesNone completion
FitsOver (Drops b) ks = Unit {0}
FitsOver (Releases bs) ks = Unit {0}
FitsOver (TakesAs r wait retry row) ks = Unit {0}
FitsOver (FetchesFrom again f retry at) ks = IsReading ks
FitsOver (FindsAs word r wait retry) ks = IsReading ks
FitsOver (EntersOne place) ks = ⊥
FitsOver (UpdatesOne mark place) ks = ⊥
FitsOver (Closing b o) ks = ⊥
FitsOver (GoesBack copy but) ks = ⊥
FitsOver (AfterBack copy but) ks = ⊥
FitsOver (EndsWith b o completion) ks = ⊥
FitsOver (UndoComes b o target act retry passed) ks = ⊥
FitsOver (ErrorComes b o passed) ks = ⊥
FitsOver (EndKeyComes b o passed) ks = ⊥
FitsOver (Passes b ended_way left_way) ks = ⊥
FitsOver (Begins b copy t retry body d) ks = ⊥
FitsOver (IsOnly k c values) ks = ⊥
FitsOver (Seconds n k c values from) ks = ⊥
FitsOver (TakesAgain r retry row) ks = ⊥
FitsOver (Takes k c values) ks = ⊥
FitsOver (Looks n k from) ks = ⊥
FitsOver (Searches r forward only wait retry from) ks = ⊥
FitsOver (Fetches f t retry) ks = ⊥
FitsOver t ks = Rests ks

abbrev pub IsStack : ℕ → List StackEntry → Type 0
IsStack m [] = Unit {0}
IsStack m (ThenDo t ∷ ks) = FitsOver t ks × IsStack m ks
IsStack m (OrDo t ∷ ks) = (IsSearching t × IsReading ks) × IsStack m ks
IsStack m (In b o ∷ ks) = (IsCopyOf m o.copy × Rests ks) × IsStack m ks
IsStack m (FetchedAs b copy t buffer body d retry ∷ ks) = (IsCopyOf m copy × Rests ks) × IsStack m ks
IsStack m (AfterClosing b o completion ∷ ks) = (IsCopyOf m o.copy × Rests ks) × IsStack m ks
IsStack m (k ∷ ks) = Rests ks × IsStack m ks

-- ---- tasks, completions and answers

abbrev pub IsUnpended : Option Copy → List CallFrame → Type 0
IsUnpended None fs = Unit {0}
IsUnpended (Some copy) fs = copy.depth ≡ 1 → IsClear fs

abbrev pub Follows : Completion → List StackEntry → List CallFrame → ℕ → Type 0
Follows Normal ks fs k = Want [] ks fs k
Follows (Faults c) ks fs k = Unit {0}
Follows completion ks fs k = WantAny ks fs

-- others are updated next
abbrev pub IsUpdating : ℕ → Place → List StackEntry → List CallFrame → ℕ → Type 0
IsUpdating mark place (ThenDo (Updates from but more) ∷ ks) fs k = (from ≡ mark) × Want (place ∷ []) (ThenDo (Updates from but more) ∷ ks) fs k
IsUpdating mark place ks fs k = ⊥

abbrev pub TaskFits : ℕ → ℕ → Task → List StackEntry → List CallFrame → Type 0
TaskFits m k (EntersOne place) ks fs = Want (place ∷ []) ks fs k
TaskFits m k (Enters places) ks fs = IsAtEnd ks × Want (places ++ []) ks fs k
TaskFits m k (EntersRest copy) ks fs = IsLeaving copy ks
TaskFits m k (LeavesIf copy but) ks fs = Rests ks × IsUnpended copy fs
TaskFits m k (LeavesNow but) ks fs = LeavesTo ks × AfterLeave [] ks fs k
TaskFits m k (UpdatesOne mark place) ks fs = IsUpdating mark place ks fs k
TaskFits m k (Updates mark but places) ks fs = IsUndone but ks × (k ≡ 1 → FramesClaim (λ made. mark < made) fs) × (k ≡ 1 → PendingAmong ((places ++ []) ++ map own but) fs)
TaskFits m k (Drops b) ks fs = Want [] ks fs k
TaskFits m k (Releases bs) ks fs = Want [] ks fs k
TaskFits m k (IsOnly q c values) ks fs = Want [] ks fs k
TaskFits m k (Seconds n q c values from) ks fs = Want [] ks fs k
TaskFits m k (TakesAs r wait retry row) ks fs = Want [] ks fs k
TaskFits m k (TakesAgain r retry row) ks fs = Want [] ks fs k
TaskFits m k (Takes q c values) ks fs = Want [] ks fs k
TaskFits m k (Looks n q from) ks fs = IsReading ks × Want [] ks fs k
TaskFits m k (Searches r forward only wait retry from) ks fs = IsReading ks × Want [] ks fs k
TaskFits m k (FetchesFrom again f retry at) ks fs = IsReading ks × Want [] ks fs k
TaskFits m k (Fetches f t retry) ks fs = IsReading ks × Want [] ks fs k
TaskFits m k (FindsAs word r wait retry) ks fs = IsReading ks × Want [] ks fs k
TaskFits m k (Completes completion) ks fs = Carries m completion × Follows completion ks fs k
TaskFits m k (GoesBack copy but) ks fs = IsCopyOf m copy × Rests ks
TaskFits m k (AfterBack copy but) ks fs = IsCopyOf m (Some copy) × Rests ks
TaskFits m k (EndsWith b o completion) ks fs = IsCopyOf m o.copy × Carries m completion × Rests ks
TaskFits m k (UndoComes b o target act retry passed) ks fs = IsCopyOf m o.copy × IsCopyOf m passed.first × Rests ks
TaskFits m k (ErrorComes b o passed) ks fs = IsCopyOf m o.copy × IsCopyOf m passed.first × Rests ks
TaskFits m k (EndKeyComes b o passed) ks fs = IsCopyOf m o.copy × IsCopyOf m passed.first × Rests ks
TaskFits m k (Passes b ended_way left_way) ks fs = Carries m ended_way × Carries m left_way × Rests ks
TaskFits m k (Begins b copy t retry body d) ks fs = IsCopyOf m copy × IsUnpended copy fs × Rests ks
TaskFits m k t ks fs = Rests ks

abbrev pub AwaitFits : ℕ → ℕ → OnAnswer → List StackEntry → List CallFrame → Type 0
AwaitFits m k (WasInserted place t values made) ks fs = (0 < k) × Want (place ∷ []) ks fs k
AwaitFits m k WasDropped ks fs = Want [] ks fs k
AwaitFits m k WasLeft ks fs = LeavesTo ks × AfterLeave [] ks fs k
AwaitFits m k (WasBack copy but) ks fs = IsCopyOf m (Some copy) × Rests ks
AwaitFits m k (WasGot place row lock made) ks fs = Want (place ∷ []) ks fs k
AwaitFits m k (WasSecond n q c values) ks fs = Want [] ks fs k
AwaitFits m k (WasNext n q) ks fs = IsReading ks × Want [] ks fs k
AwaitFits m k (WasGranted r retry row) ks fs = Want [] ks fs k
AwaitFits m k (WasRead r retry row lock) ks fs = Want [] ks fs k
AwaitFits m k on ks fs = Rests ks

-- ---- configurations

-- pending records are of CREATEs after number m
abbrev pub IsMarked : ℕ → State → Type 0
IsMarked m s = FramesClaim (λ made. m < made) s.frames × (m ≤ s.made)

-- outside of a transaction none is pending
abbrev pub IsIn : ℕ → ℕ → List StackEntry → State → Type 0
IsIn m k ks s = IsMarked m s × (k ≡ 0 → IsClear s.frames) × IsStack m ks

-- after an UNDO the buffers of what was undone are still to be emptied. A client that stops does nothing more
abbrev pub ModeFits : ℕ → ℕ → Mode → List StackEntry → State → Type 0
ModeFits m k (Execute (EndsWith b o (Stops end))) ks s = Unit {0}
ModeFits m k (Execute (Empties but)) ks s = IsMarked m s × (k ≡ 0 → PendingAmong (map own but) s.frames) × (Rests ks × IsStack m ks)
ModeFits m k (Execute (Completes (Stops end))) ks s = Unit {0}
ModeFits m k (Execute t) ks s = IsIn m k ks s × TaskFits m k t ks s.frames
ModeFits m k (Unwind (Stops end)) ks s = Unit {0}
ModeFits m k (Unwind completion) (ThenDo (ErrorComes b o passed) ∷ ks) s = IsIn m k ks s × IsCopyOf m o.copy × IsCopyOf m passed.first × Rests ks × Carries m completion
ModeFits m k (Unwind Normal) (ThenDo (Empties but) ∷ ks) s = IsMarked m s × (k ≡ 0 → PendingAmong (map own but) s.frames) × (Rests ks × IsStack m ks)
ModeFits m k (Unwind completion) ks s = IsIn m k ks s × Carries m completion × Follows completion ks s.frames k
ModeFits m k (Await o on) ks s = IsIn m k ks s × AwaitFits m k on ks s.frames

-- WHAT IS KEPT, where k levels are open
abbrev pub Kept : ℕ → Config → Type 0
Kept k c = (m : ℕ) × ModeFits m k c.mode c.stack c.state

-- ---- needs

pub rests_want : (places : List Place) (ks : List StackEntry) (fs : List CallFrame) (k : ℕ) → Rests ks → Want places ks fs k
rests_want places [] fs k r = tt
rests_want places (ThenDo (Enters more) ∷ ks) fs k r = absurd r.0
rests_want places (ThenDo (EntersRest copy) ∷ ks) fs k r = absurd r.0
rests_want places (ThenDo (LeavesIf copy but) ∷ ks) fs k r = absurd r.0
rests_want places (ThenDo (Updates mark but more) ∷ ks) fs k r = absurd r.0
rests_want places (ThenDo (LeavesNow but) ∷ ks) fs k r = absurd r.0
rests_want places (ThenDo (Empties but) ∷ ks) fs k r = absurd r.0
rests_want places (ThenDo t ∷ ks) fs k r = rests_want places ks fs k r.1
rests_want places (OrDo t ∷ ks) fs k r = rests_want places ks fs k r
rests_want places (FetchedAs b copy t buffer body d retry ∷ ks) fs k r = absurd r
rests_want places (x ∷ ks) fs k r = tt

pub want_any : (ks : List StackEntry) (fs : List CallFrame) (k : ℕ) → Want [] ks fs k → WantAny ks fs
want_any [] fs k w = tt
want_any (ThenDo (Enters more) ∷ ks) fs k w = tt
want_any (ThenDo (EntersRest copy) ∷ ks) fs k w = tt
want_any (ThenDo (LeavesIf copy but) ∷ ks) fs k w = tt
want_any (ThenDo (Updates mark but more) ∷ ks) fs k w = tt
want_any (ThenDo (LeavesNow but) ∷ ks) fs k w = tt
want_any (ThenDo (Empties but) ∷ ks) fs k w = tt
want_any (ThenDo t ∷ ks) fs k w = want_any ks fs k w
want_any (OrDo t ∷ ks) fs k w = want_any ks fs k w
want_any (FetchedAs b None t buffer body d retry ∷ ks) fs k w = tt
want_any (FetchedAs b (Some copy) t buffer body d retry ∷ ks) fs k w = w
want_any (x ∷ ks) fs k w = tt

leave_covers : (one other : List Place) (ks : List StackEntry) (fs : List CallFrame) (k : ℕ) → Covers one other → AfterLeave one ks fs k → AfterLeave other ks fs k
leave_covers one other (ThenDo (Empties but) ∷ ks) fs k x w = λ e out n p. covers_after one other (map own but) x out n (w e out n p)
  where
    covers_after : (one other rest : List Place) → Covers one other → Covers (one ++ rest) (other ++ rest)
    covers_after one other rest x out n h = elim (among_either out n one rest h) [ inl a ↦ among_left out n other rest (x out n a) | inr b ↦ among_right out n other rest b ]
leave_covers one other ks fs k x w = λ e out n p. x out n (w e out n p)

covers_before : (one other rest : List Place) → Covers one other → Covers (one ++ rest) (other ++ rest)
covers_before one other rest x out n h = elim (among_either out n one rest h) [ inl a ↦ among_left out n other rest (x out n a) | inr b ↦ among_right out n other rest b ]

-- more places may have pending records
pub want_covers : (one other : List Place) (ks : List StackEntry) (fs : List CallFrame) (k : ℕ) → Covers one other → Want one ks fs k → Want other ks fs k
want_covers one other [] fs k x w = tt
want_covers one other (ThenDo (Enters more) ∷ ks) fs k x w = want_covers (more ++ one) (more ++ other) ks fs k (covers_more more one other x) w
want_covers one other (ThenDo (EntersRest copy) ∷ ks) fs k x w = tt
want_covers one other (ThenDo (LeavesIf None but) ∷ ks) fs k x w = tt
want_covers one other (ThenDo (LeavesIf (Some copy) but) ∷ ks) fs k x w = λ e out n p. x out n (w e out n p)
want_covers one other (ThenDo (Updates mark but more) ∷ ks) fs k x w = (w.0, λ e out n p. covers_before (more ++ one) (more ++ other) (map own but) (covers_more more one other x) out n (w.1 e out n p))
want_covers one other (ThenDo (LeavesNow but) ∷ ks) fs k x w = leave_covers one other ks fs k x w
want_covers one other (ThenDo (Empties but) ∷ ks) fs k x w = λ e out n p. covers_before one other (map own but) x out n (w e out n p)
want_covers one other (ThenDo t ∷ ks) fs k x w = want_covers one other ks fs k x w
want_covers one other (OrDo t ∷ ks) fs k x w = want_covers one other ks fs k x w
want_covers one other (FetchedAs b None t buffer body d retry ∷ ks) fs k x w = tt
want_covers one other (FetchedAs b (Some copy) t buffer body d retry ∷ ks) fs k x w = λ e out n p. x out n (w e out n p)
want_covers one other (y ∷ ks) fs k x w = tt

-- the pending records are moved from places to others, and none is new
pub record Moves (one other : List Place) (fs gs : List CallFrame) : Type 1 where
  pub places : (rest : List Place) → PendingAmong (rest ++ one) fs → PendingAmong (rest ++ other) gs
  pub claims : (held : ℕ → Type 0) → FramesClaim held fs → FramesClaim held gs

moved : (one other : List Place) (fs gs : List CallFrame) → Moves one other fs gs → (before after : List Place) → PendingAmong ((before ++ one) ++ after) fs → PendingAmong ((before ++ other) ++ after) gs
moved one other fs gs x before after h =
    let turned : PendingAmong ((after ++ before) ++ one) fs = λ out n p. turn one before after out n (h out n p) in
    λ out n p. turn_back other before after out n (x.places (after ++ before) turned out n p)
  where
    turn : (one before after : List Place) (out n : ℕ) → IsAmong out n ((before ++ one) ++ after) → IsAmong out n ((after ++ before) ++ one)
    turn one before after out n h =
        elim (among_either out n (before ++ one) after h) [
          | inl a ↦ elim (among_either out n before one a) [ inl b ↦ among_left out n (after ++ before) one (among_right out n after before b) | inr c ↦ among_right out n (after ++ before) one c ]
          | inr d ↦ among_left out n (after ++ before) one (among_left out n after before d)
        ]

    turn_back : (other before after : List Place) (out n : ℕ) → IsAmong out n ((after ++ before) ++ other) → IsAmong out n ((before ++ other) ++ after)
    turn_back other before after out n h =
        elim (among_either out n (after ++ before) other h) [
          | inl a ↦ elim (among_either out n after before a) [ inl b ↦ among_right out n (before ++ other) after b | inr c ↦ among_left out n (before ++ other) after (among_left out n before other c) ]
          | inr d ↦ among_left out n (before ++ other) after (among_right out n before other d)
        ]

moved_one : (one other : List Place) (fs gs : List CallFrame) → Moves one other fs gs → (before : List Place) → PendingAmong (before ++ one) fs → PendingAmong (before ++ other) gs
moved_one one other fs gs x before h = x.places before h

moved_leave : (one other : List Place) (ks : List StackEntry) (fs gs : List CallFrame) (k : ℕ) (before : List Place) → Moves one other fs gs → AfterLeave (before ++ one) ks fs k → AfterLeave (before ++ other) ks gs k
moved_leave one other (ThenDo (Empties but) ∷ ks) fs gs k before x w = λ e. moved one other fs gs x before (map own but) (w e)
moved_leave one other ks fs gs k before x w = λ e. moved_one one other fs gs x before (w e)

want_moves_in : (one other before : List Place) (ks : List StackEntry) (fs gs : List CallFrame) (k : ℕ) → Moves one other fs gs → Want (before ++ one) ks fs k → Want (before ++ other) ks gs k
want_moves_in one other before [] fs gs k x w = tt
want_moves_in one other before (ThenDo (Enters more) ∷ ks) fs gs k x w =
    subst (λ l. Want l ks gs k) (append_assoc more before other) (want_moves_in one other (more ++ before) ks fs gs k x (subst (λ l. Want l ks fs k) (sym (append_assoc more before one)) w))
want_moves_in one other before (ThenDo (EntersRest copy) ∷ ks) fs gs k x w = tt
want_moves_in one other before (ThenDo (LeavesIf None but) ∷ ks) fs gs k x w = tt
want_moves_in one other before (ThenDo (LeavesIf (Some copy) but) ∷ ks) fs gs k x w = λ e. moved_one one other fs gs x before (w e)
want_moves_in one other before (ThenDo (Updates mark but more) ∷ ks) fs gs k x w = (
  λ e. x.claims (λ made. mark < made) (w.0 e),
  λ e. subst (λ l. PendingAmong (l ++ map own but) gs) (append_assoc more before other) (moved one other fs gs x (more ++ before) (map own but) (subst (λ l. PendingAmong (l ++ map own but) fs) (sym (append_assoc more before one)) (w.1 e))),
)
want_moves_in one other before (ThenDo (LeavesNow but) ∷ ks) fs gs k x w = moved_leave one other ks fs gs k before x w
want_moves_in one other before (ThenDo (Empties but) ∷ ks) fs gs k x w = λ e. moved one other fs gs x before (map own but) (w e)
want_moves_in one other before (ThenDo t ∷ ks) fs gs k x w = want_moves_in one other before ks fs gs k x w
want_moves_in one other before (OrDo t ∷ ks) fs gs k x w = want_moves_in one other before ks fs gs k x w
want_moves_in one other before (FetchedAs b None t buffer body d retry ∷ ks) fs gs k x w = tt
want_moves_in one other before (FetchedAs b (Some copy) t buffer body d retry ∷ ks) fs gs k x w = λ e. moved_one one other fs gs x before (w e)
want_moves_in one other before (y ∷ ks) fs gs k x w = tt

pub want_moves : (one other : List Place) (ks : List StackEntry) (fs gs : List CallFrame) (k : ℕ) → Moves one other fs gs → Want one ks fs k → Want other ks gs k
want_moves one other ks fs gs k x w = want_moves_in one other [] ks fs gs k x w

pub end_any : (ks : List StackEntry) (fs : List CallFrame) → IsAtEnd ks → WantAny ks fs
end_any (ThenDo (EntersRest copy) ∷ ks) fs h = tt
end_any (ThenDo (LeavesIf copy but) ∷ ks) fs h = tt
end_any (ThenDo (Releases bs) ∷ ks) fs h = end_any ks fs h
end_any (ThenDo (Drops b) ∷ ks) fs h = end_any ks fs h
end_any (ThenDo (Enters places) ∷ ks) fs h = tt
end_any ks fs h = absurd h

pub reading_want : (ks : List StackEntry) (fs : List CallFrame) (k : ℕ) → IsReading ks → WantAny ks fs → Want [] ks fs k
reading_want (FetchedAs b None t buffer body d retry ∷ ks) fs k h w = tt
reading_want (FetchedAs b (Some copy) t buffer body d retry ∷ ks) fs k h w = w
reading_want ks fs k h w = rests_want [] ks fs k h
