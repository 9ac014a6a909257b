-- What every step keeps: at which level each entry of the stack is reached.
use Rattle.std.proofs.Common.{◌≡◌, ◌<◌, ◌≤◌, ℕ, ◌+◌, true, List, [], ◌∷◌, Option, Some, None}
use Rattle.abl_base.specs.declared.row.RowId.{RowId}
use Rattle.abl_base.specs.declared.value.Value.{Value}
use Rattle.bound_tree.specs.Tree.{Body, Header}
use Rattle.txn_infer.specs.Updates.{assigns_field, block_updates, directly_updates, reads_field, updates_in}
use Rattle.database_protocol.specs.declared.operation.Op.{Op}
use Rattle.database_protocol.specs.declared.operation.Op.TheVariants as op
use Rattle.block_meaning.specs.State.{Completion, Copy, EndKeys, Faults, Found, Lost, Normal, NotFound, Raises, State, Stops, Undoes}
use Rattle.flat_machine.specs.Config.{Acts, AfterBack, AfterClosing, AndAgain, AsBefore, Assigns, Await, Begins, Begun, Blocks, Called, Calls, Closes, Closing, Completes, Config, Creates, CurrentGranted, Deletes, DeletesRow, Empties, EndKeyComes, EndsWith, EntersLevel, ErrorComes, Execute, FetchedAs, Fetches, FetchesFrom, Finds, FindsAs, FoundAs, GoesBack, Handles, Imports, In, Iterates, LeavesIf, LeavesNow, Looks, Mode, OnAnswer, OrDo, Passes, Quiet, RunsFrom, Searches, SettlesAll, SettlesOne, StackEntry, Takes, TakesAgain, TakesAs, Task, ThenDo, Turns, UndoComes, Unwind, Updates, UpdatesOne, WasBack, WasCounted, WasCurrent, WasDeleted, WasDropped, WasEntered, WasGot, WasGranted, WasInserted, WasLeft, WasNext, WasPut, WasRead, WasSecond, WasUpgraded}
use Rattle.machine_laws.specs.levels.Flagged.{HaveFlags, IsFlagged}

-- ---- levels

-- an iteration is at the first level, and what is around it at the second: it has opened the first one, or none
abbrev pub Below : Option Copy → ℕ → ℕ → Type 0
Below None inside outside = inside ≡ outside
Below (Some copy) inside outside = (copy.depth ≡ inside) × (inside ≡ outside + 1)

-- an iteration of a block that can be undone has opened no level only where none is open
abbrev pub IsBare : Header → Option Copy → ℕ → Type 0
IsBare b None inside = b.flags.undo ≡ true → inside ≡ 0
IsBare b (Some copy) inside = Unit {0}

-- levels that were passed are still open; the first of them is the next one
abbrev pub FirstAt : ℕ → Option Copy → ℕ → Type 0
FirstAt k None level = level ≡ k
FirstAt k (Some copy) level = (copy.depth ≡ k + 1) × (k + 1 ≤ level)

-- a completion at this level, where k are open around it
abbrev pub Arrives : Completion → ℕ → ℕ → Type 0
Arrives (Stops end) k level = Unit {0}
Arrives (Undoes block act retry passed) k level = FirstAt k passed.first level
Arrives (Raises passed) k level = FirstAt k passed.first level
Arrives (EndKeys passed) k level = FirstAt k passed.first level
Arrives completion k level = level ≡ k

-- a normal completion comes at the first level, any other at the second
abbrev pub Comes : Completion → ℕ → ℕ → ℕ → Type 0
Comes Normal n f level = level ≡ n
Comes completion n f level = Arrives completion f level

-- ---- which completions come where

-- 0: the end, a fault or a stop; 1: those of a search too; 2: any
abbrev pub class_of_first : Option Copy → ℕ
class_of_first None = 1
class_of_first (Some copy) = 2

abbrev pub class : Completion → ℕ
class Normal = 0
class (Faults c) = 0
class (Stops end) = 0
class (Found c) = 1
class Lost = 1
class NotFound = 1
class (EndKeys passed) = class_of_first passed.first
class completion = 2

-- the greatest class that the stack takes
abbrev pub takes : List StackEntry → ℕ
takes [] = 2
takes (ThenDo t ∷ ks) = takes ks
takes (OrDo t ∷ ks) = takes ks
takes (AsBefore olds bs ∷ ks) = takes ks
takes (FoundAs word b ∷ ks) = 1
takes (Quiet quiet ∷ ks) = 1
takes (AfterClosing b o completion ∷ ks) = 0
takes (FetchedAs b copy t buffer body d retry ∷ ks) = 1
takes (k ∷ ks) = 2

-- the class of the completions of a task
abbrev pub reaches : Task → ℕ
reaches (TakesAs r wait retry row) = 1
reaches (TakesAgain r retry row) = 1
reaches (Takes k c values) = 1
reaches (Looks n k from) = 1
reaches (Searches r forward only wait retry from) = 1
reaches (FetchesFrom again f retry own) = 1
reaches (Fetches f t retry) = 1
reaches (FindsAs word r wait retry) = 1
reaches (Finds word r wait retry) = 1
reaches (Imports n ts retry) = 1
reaches (Acts b o act retry) = 2
reaches (Closes b o completion) = 2
reaches (RunsFrom body d retry) = 2
reaches (EntersLevel b t retry body d) = 2
reaches (Turns n b outer body d t) = 2
reaches (Iterates b outer body d t) = 2
reaches (Blocks b outer body d) = 2
reaches (Calls d n args vs) = 2
reaches t = 0

-- it is none that passes levels
abbrev pub IsOver : Completion → Type 0
IsOver (Undoes block act retry passed) = ⊥
IsOver (Raises passed) = ⊥
IsOver (EndKeys passed) = ⊥
IsOver completion = Unit {0}

-- ---- changes are inside a level

module _ (tree : ℕ → Body) where
  -- the body at this place is run at this level
  pub record IsPlaced (body level : ℕ) : Type 0 where
    pub inside : updates_in (tree body) ≡ true → 0 < level
    pub flags : HaveFlags (tree body)

  -- a block with this body, at this level
  pub record IsBlockAt (b : Header) (body level : ℕ) : Type 0 where
    pub inside : block_updates b (updates_in (tree body)) ≡ true → 0 < level
    pub flag : IsFlagged b (tree body)
    pub flags : HaveFlags (tree body)

  -- an iteration of it, at this level
  pub record IsIterationAt (b : Header) (body level : ℕ) : Type 0 where
    pub inside : directly_updates b (updates_in (tree body)) ≡ true → 0 < level
    pub flags : HaveFlags (tree body)

  abbrev pub IfAny : List ℕ → ℕ → Type 0
  IfAny [] level = Unit {0}
  IfAny (b ∷ bs) level = 0 < level

  -- what a task needs of the level where it begins, beside that it leaves it as it is
  abbrev pub NeedsLevel : Task → ℕ → Type 0
  NeedsLevel (Creates b) level = 0 < level
  NeedsLevel (Begun b) level = 0 < level
  NeedsLevel (Deletes b) level = 0 < level
  NeedsLevel (DeletesRow b t row) level = 0 < level
  NeedsLevel (SettlesOne b) level = 0 < level
  NeedsLevel (SettlesAll olds bs) level = IfAny bs level
  NeedsLevel (Assigns xs retry) level = assigns_field xs ≡ true → 0 < level
  NeedsLevel (Closes b o completion) level = IsOver completion
  NeedsLevel (Imports n ts retry) level = reads_field ts ≡ true → 0 < level
  NeedsLevel (RunsFrom body d retry) level = IsPlaced body level
  NeedsLevel (EntersLevel b t retry body d) level = IsBlockAt b body level
  NeedsLevel (Turns n b outer body d t) level = IsBlockAt b body level
  NeedsLevel (Iterates b outer body d t) level = IsBlockAt b body level
  NeedsLevel (Blocks b outer body d) level = IsBlockAt b body level
  NeedsLevel t level = Unit {0}

  -- an iteration at the first level, over a stack
  abbrev pub Around : (ℕ → ℕ → Type 0) → ℕ → Header → Option Copy → ℕ → Type 0
  Around At room b copy inside = (m : ℕ) × Below copy inside m × At m m × (2 ≤ room) × IsBare b copy inside

  -- a task begins at this level, over a stack that is reached so, and takes completions of this class
  abbrev pub TaskAt : (ℕ → ℕ → Type 0) → ℕ → Task → ℕ → Type 0
  TaskAt At room (LeavesIf copy but) level = (m : ℕ) × (f : ℕ) × Below copy level m × At m f
  TaskAt At room (LeavesNow but) level = (m : ℕ) × (f : ℕ) × (level ≡ m + 1) × At m f
  TaskAt At room (Empties but) level = (f : ℕ) × At level f
  TaskAt At room (Updates mark but places) level = (f : ℕ) × At level f
  TaskAt At room (UpdatesOne mark place) level = (f : ℕ) × At level f
  TaskAt At room (GoesBack copy but) level = (m : ℕ) × (f : ℕ) × FirstAt m copy level × At m f
  TaskAt At room (AfterBack copy but) level = (m : ℕ) × (f : ℕ) × (copy.depth ≡ level) × (level ≡ m + 1) × At m f
  TaskAt At room (Closing b o) level = (m : ℕ) × Below o.copy level m × At m level
  TaskAt At room (EndsWith b o completion) level = (i : ℕ) × Arrives completion i level × Around At room b o.copy i
  TaskAt At room (UndoComes b o target act retry passed) level = (i : ℕ) × FirstAt i passed.first level × Around At room b o.copy i
  TaskAt At room (ErrorComes b o passed) level = (i : ℕ) × FirstAt i passed.first level × Around At room b o.copy i
  TaskAt At room (EndKeyComes b o passed) level = (i : ℕ) × FirstAt i passed.first level × Around At room b o.copy i
  TaskAt At room (Passes b ended_way left_way) level = (m : ℕ) × Arrives left_way m level × (level ≡ 0 → Comes ended_way m m level × (level ≡ m)) × At m m × (2 ≤ room)
  TaskAt At room (Completes completion) level = (n : ℕ) × (f : ℕ) × Comes completion n f level × At n f × (class completion ≤ room)
  TaskAt At room (Begins b copy t retry body d) level = IsIterationAt b body level × Around At room b copy level
  TaskAt At room t level = At level level × (reaches t ≤ room) × NeedsLevel t level

  -- ---- the stack

  -- a normal completion reaches it at the first level, any other at the second
  abbrev pub StackAt : List StackEntry → ℕ → ℕ → Type 0
  StackAt [] n f = Unit {0}
  StackAt (ThenDo t ∷ ks) n f = TaskAt (StackAt ks) (takes ks) t n × ((m : ℕ) × StackAt ks m f)
  StackAt (OrDo t ∷ ks) n f = (n ≡ f) × StackAt ks f f × TaskAt (StackAt ks) (takes ks) t f
  StackAt (FoundAs word b ∷ ks) n f = (n ≡ f) × StackAt ks f f × (1 ≤ takes ks)
  StackAt (AsBefore olds bs ∷ ks) n f = StackAt ks n f
  StackAt (AfterClosing b o completion ∷ ks) n f = Below o.copy f n × StackAt ks n n × (2 ≤ takes ks) × IsOver completion × IsBare b o.copy f
  StackAt (Quiet quiet ∷ ks) n f = (n ≡ f) × StackAt ks f f × (2 ≤ takes ks)
  StackAt (Handles quiet ∷ ks) n f = (n ≡ f) × StackAt ks f f × (2 ≤ takes ks)
  StackAt (In b o ∷ ks) n f = (n ≡ f) × Around (StackAt ks) (takes ks) b o.copy f
  StackAt (FetchedAs b copy t buffer body d retry ∷ ks) n f = (n ≡ f) × IsIterationAt b body f × Around (StackAt ks) (takes ks) b copy f
  StackAt (AndAgain i b outer body d ∷ ks) n f = (n ≡ f) × IsBlockAt b body f × StackAt ks f f × (2 ≤ takes ks)
  StackAt (Called args i ∷ ks) n f = (n ≡ f) × StackAt ks f f × (2 ≤ takes ks)

  -- ---- what is awaited

  -- an operation that leaves the levels as they are, and needs none
  abbrev pub IsStill : Op → Type 0
  IsStill op.Enter = ⊥
  IsStill (op.Leave keep) = ⊥
  IsStill (op.Back depth) = ⊥
  IsStill op.End = ⊥
  IsStill (op.Put table row values) = ⊥
  IsStill (op.Delete table row) = ⊥
  IsStill o = Unit {0}

  abbrev pub AwaitAt : List StackEntry → Op → OnAnswer → ℕ → Type 0
  AwaitAt ks o (WasInserted place t values made) level = IsStill o × StackAt ks level level
  AwaitAt ks o WasDropped level = IsStill o × StackAt ks level level
  AwaitAt ks o WasLeft level = (keep : List RowId) × (o ≡ op.Leave keep) × (m : ℕ) × (f : ℕ) × (level ≡ m + 1) × StackAt ks m f
  AwaitAt ks o (WasBack copy but) level = (o ≡ op.Back copy.depth) × (m : ℕ) × (f : ℕ) × (copy.depth ≡ m + 1) × (m + 1 ≤ level) × StackAt ks m f
  AwaitAt ks o (WasGot place row lock made) level = IsStill o × (f : ℕ) × StackAt ks level f
  AwaitAt ks o (WasSecond n k c values) level = IsStill o × StackAt ks level level
  AwaitAt ks o (WasNext n k) level = IsStill o × StackAt ks level level × (1 ≤ takes ks)
  AwaitAt ks o (WasGranted r retry row) level = IsStill o × StackAt ks level level × (1 ≤ takes ks)
  AwaitAt ks o (WasRead r retry row lock) level = IsStill o × StackAt ks level level × (1 ≤ takes ks)
  AwaitAt ks o (CurrentGranted r row made) level = IsStill o × StackAt ks level level
  AwaitAt ks o (WasCurrent r row made) level = IsStill o × StackAt ks level level
  AwaitAt ks o (WasCounted t) level = IsStill o × StackAt ks level level
  AwaitAt ks o (WasUpgraded b row values made) level = IsStill o × StackAt ks level level
  AwaitAt ks o (WasPut b t) level = (row : RowId) × (values : List Value) × (o ≡ op.Put t row values) × (0 < level) × StackAt ks level level
  AwaitAt ks o (WasDeleted b) level = (t : ℕ) × (row : RowId) × (o ≡ op.Delete t row) × (0 < level) × StackAt ks level level
  AwaitAt ks o (WasEntered b t retry body d) level = (o ≡ op.Enter) × IsBlockAt b body level × StackAt ks level level × (2 ≤ takes ks)

  -- ---- configurations

  abbrev pub ModeAt : Mode → List StackEntry → ℕ → Type 0
  ModeAt (Execute t) ks level = TaskAt (StackAt ks) (takes ks) t level
  ModeAt (Unwind completion) ks level = (n : ℕ) × (f : ℕ) × Comes completion n f level × StackAt ks n f × (class completion ≤ takes ks)
  ModeAt (Await o on) ks level = AwaitAt ks o on level

  -- after a Back the state has still the levels that were open before
  abbrev pub HasLevel : Mode → State → ℕ → Type 0
  HasLevel (Execute (AfterBack copy but)) s level = Unit {0}
  HasLevel mode s level = s.level ≡ level

  -- WHAT IS KEPT, where by its own events the client has these many levels open
  abbrev pub Sound : ℕ → Config → Type 0
  Sound level c = HasLevel c.mode c.state level × ModeAt c.mode c.stack level
