-- What the machine has still to do before it spends a unit. Work falls with each step, but for a task that makes a list of others: each such
-- step is a round, and there are fewer of them left afterwards.
use Rattle.std.specs.Prelude.{ℕ, zero, suc, ◌+◌, ◌<◌, ◌≤◌, ◌⊎◌, List, [], ◌∷◌}
use Rattle.flat_machine.specs.Config.{Acts, AfterBack, Assigns, AssignsEach, Begins, Blocks, Calls, Closes, Closing, Creates, Deletes, EndKeyComes, EndsWith, Enters, EntersLevel, EntersRest, ErrorComes, Fetches, FetchesFrom, Finds, FindsAs, Imports, IsOnly, LeavesIf, LocksAll, Passes, Releases, Searches, SettlesAll, SettlesOne, Takes, Turns, UndoComes, Updates, AfterClosing, AndAgain, Await, Config, Execute, FetchedAs, Handles, In, Mode, OrDo, StackEntry, Task, ThenDo, Unwind}

-- ---- lists of tasks

abbrev pub short_work : {A : Type 0} → List A → ℕ
short_work [] = 1
short_work (x ∷ xs) = 4 + short_work xs

abbrev pub long_work : {A : Type 0} → List A → ℕ
long_work [] = 1
long_work (x ∷ xs) = 6 + long_work xs

abbrev pub turns_work : ℕ → ℕ
turns_work zero = 1
turns_work (suc n) = 4 + turns_work n

-- ---- tasks

abbrev pub rounds : Task → ℕ
rounds (EntersRest copy) = 1
rounds (Closing b o) = 2
rounds (AfterBack copy but) = 1
rounds (Acts b o act retry) = 1
rounds (Closes b o completion) = 1
rounds (Passes b ended_way left_way) = 1
rounds (UndoComes b o target act retry passed) = 1
rounds (ErrorComes b o passed) = 1
rounds (EndKeyComes b o passed) = 1
rounds (EndsWith b o completion) = 3
rounds (Assigns xs retry) = 1
rounds (Imports n ts retry) = 1
rounds (Begins b copy t retry body d) = 3
rounds (EntersLevel b t retry body d) = 3
rounds (Blocks b outer body d) = 1
rounds (Calls d n args vs) = 1
rounds t = 0

abbrev pub work : Task → ℕ
work (Enters places) = short_work places
work (Releases bs) = long_work bs
work (LeavesIf copy but) = 2
work (Updates mark but places) = short_work places
work (Acts b o act retry) = 2
work (IsOnly k c values) = 2
work (Takes k c values) = 7
work (Searches r forward only wait retry from) = 2
work (FetchesFrom again f retry own) = 7
work (Fetches f t retry) = 12
work (FindsAs word r wait retry) = 3
work (Finds word r wait retry) = 9
work (AssignsEach xs retry) = short_work xs
work (LocksAll bs) = short_work bs
work (SettlesOne b) = 2
work (SettlesAll olds bs) = long_work bs
work (Creates b) = 6
work (Deletes b) = 3
work (UndoComes b o target act retry passed) = 5
work (ErrorComes b o passed) = 6
work (EndKeyComes b o passed) = 6
work (EndsWith b o completion) = 10
work (Begins b copy t retry body d) = 26
work (EntersLevel b t retry body d) = 27
work (Turns n b outer body d t) = turns_work n
work (Imports n ts retry) = 2
work (Calls d n args vs) = 3
work t = 1

-- ---- the stack

abbrev pub entry_rounds : StackEntry → ℕ
entry_rounds (ThenDo t) = rounds t
entry_rounds (OrDo t) = rounds t
entry_rounds (AfterClosing b o completion) = 1
entry_rounds (In b o) = 3
entry_rounds (FetchedAs b copy t buffer body d retry) = 3
entry_rounds k = 0

abbrev pub entry_work : StackEntry → ℕ
entry_work (ThenDo t) = work t + 1
entry_work (OrDo t) = work t + 1
entry_work (AfterClosing b o completion) = 8
entry_work (Handles quiet) = 3
entry_work (In b o) = 11
entry_work (FetchedAs b copy t buffer body d retry) = 13
entry_work (AndAgain n b outer body d) = turns_work n + 1
entry_work k = 1

abbrev pub rounds_of : List StackEntry → ℕ
rounds_of [] = 0
rounds_of (k ∷ ks) = entry_rounds k + rounds_of ks

abbrev pub work_of : List StackEntry → ℕ
work_of [] = 0
work_of (k ∷ ks) = entry_work k + work_of ks

-- ---- configurations

abbrev pub rounds_at : Mode → List StackEntry → ℕ
rounds_at (Execute t) ks = rounds t + rounds_of ks
rounds_at (Unwind completion) ks = rounds_of ks
rounds_at (Await op on) ks = rounds_of ks

abbrev pub work_at : Mode → List StackEntry → ℕ
work_at (Execute t) ks = work t + work_of ks
work_at (Unwind completion) ks = work_of ks
work_at (Await op on) ks = work_of ks

abbrev pub rounds_in : Config → ℕ
rounds_in c = rounds_at c.mode c.stack

abbrev pub work_in : Config → ℕ
work_in c = work_at c.mode c.stack

-- the machine has spent a unit, or it has fewer rounds to do, or as many and less work; where it awaits an answer it has halted
abbrev pub FallsIn : Mode → ℕ → ℕ → ℕ → ℕ → ℕ → ℕ → Type 0
FallsIn (Await op on) units rounds work u r w = Unit {0}
FallsIn mode units rounds work u r w = (u < units) ⊎ ((r < rounds) ⊎ ((r ≤ rounds) × (w < work)))

-- from these units, rounds and work on
abbrev pub Falls : ℕ → ℕ → ℕ → Config → Type 0
Falls units rounds work c = FallsIn c.mode units rounds work c.state.units (rounds_in c) (work_in c)
