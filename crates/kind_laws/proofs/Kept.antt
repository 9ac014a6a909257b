-- What every step keeps: each open procedure has values of its kinds, and what remains to be done suits the procedure that does it.
use Rattle.std.specs.Prelude.{◌≡◌, ◌⊎◌, ℕ, zero, suc, Bool, true, false, List, [], ◌∷◌, Option, Some, None, slice_get, slice_index_or}
use Rattle.std.specs.List.{list_all}
use Rattle.abl_base.specs.declared.value.Kind.{Kind}
use Rattle.abl_base.specs.declared.value.Value.{Value}
use Rattle.abl_base.specs.declared.value.Value.TheVariants.{Unknown}
use Rattle.abl_values.specs.Schema.{SchemaData}
use Rattle.database_protocol.specs.declared.operation.Op.{Op}
use Rattle.database_protocol.specs.declared.operation.Op.TheVariants as op
use Rattle.database_meaning.specs.Setting.{FitsTable, HasTable}
use Rattle.bound_tree.specs.declared.expression.Variable.{Variable}
use Rattle.bound_tree.specs.declared.procedure.BufferDef.{BufferDef}
use Rattle.bound_tree.specs.declared.statement.Target.{Target}
use Rattle.bound_tree.specs.Tree.{Argument, Assignment, Header, Reading, Right, ValueOf}
use Rattle.kind_laws.specs.bound_kinds.WellKinded.{Surroundings, are_arguments, if_there, is_action, is_body, is_for, is_good_procedure, is_header, is_of_kind, is_reading, is_target, kind_of_target}
use Rattle.block_meaning.specs.Blocks.{Iteration}
use Rattle.block_meaning.specs.Frames.{is_in, no_buffer}
use Rattle.block_meaning.specs.Program.{no_buffer_def, procedure_at}
use Rattle.block_meaning.specs.State.{Again, Buffer, CallFrame, Completion, Content, Copy, Empty, EndKeys, Faults, Found, Leaves, Lost, Nexts, Normal, NotFound, Pending, Raises, Record, Returns, Saved, Stops, Undoes}
use Rattle.flat_machine.specs.Config.{Acts, AfterBack, AfterClosing, AndAgain, AsBefore, Assigns, AssignsEach, AssignsOne, Await, Begins, Begun, Blocks, Called, Calls, Closes, Closing, Completes, Config, Creates, CurrentGranted, Deletes, DeletesRow, Drops, Empties, EndKeyComes, EndsWith, Enters, EntersLevel, EntersOne, EntersRest, ErrorComes, Execute, FetchedAs, Fetches, FetchesFrom, Finds, FindsAs, FindsCurrent, FoundAs, GoesBack, Handles, Imports, In, IsOnly, Iterates, LeavesIf, LeavesNow, LocksAll, LocksOne, Looks, Mode, OnAnswer, OrDo, Passes, Quiet, Releases, RunsFrom, Searches, Seconds, SettlesAll, SettlesOne, StackEntry, Takes, TakesAgain, TakesAs, Task, ThenDo, Turns, UndoComes, Unwind, Updates, UpdatesOne, WasBack, WasCounted, WasCurrent, WasDeleted, WasDropped, WasEntered, WasGot, WasGranted, WasInserted, WasLeft, WasNext, WasPut, WasRead, WasSecond, WasUpgraded}
use Rattle.flat_machine.specs.Means.{first_of, less}
use Rattle.kind_laws.specs.schemas.Named.{has_body, has_buffer, has_fetch, has_procedure, has_reading, has_right}
use Rattle.kind_laws.specs.Operations.{IsOfSchema}
use Rattle.kind_laws.specs.Placed.{is_internal, is_nil, is_outermost, is_placed_body, is_placed_header, is_placed_procedure, names_one_of, undoes_one_of}
use Rattle.kind_laws.specs.Reached.{Ground, kinds_at, surroundings}

-- ---- values

-- at the place of each kind is a value of the kind, or `?`
abbrev pub HaveKinds : (ℕ → Option Kind) → List Value → Type 0
HaveKinds kinds values = (n : ℕ) (k : Kind) → kinds n ≡ Some k → is_of_kind k (slice_index_or values n Unknown) ≡ true

-- the values of a row of a table of the schema
abbrev pub IsRow : SchemaData → ℕ → List Value → Type 0
IsRow schema t values = HasTable schema t × FitsTable schema t values

-- a record of the table, or none
abbrev pub IsRecord : SchemaData → ℕ → Content → Type 0
IsRecord schema t Empty = Unit {0}
IsRecord schema t (Record row values held made) = IsRow schema t values
IsRecord schema t (Pending values since made) = IsRow schema t values

-- a buffer of the table
pub record IsBuffer (g : Ground) (t : ℕ) (b : Buffer) : Type 0 where
  pub table : b.table ≡ t
  pub content : IsRecord g.schema t b.content

-- the table of a buffer of these, by its number
abbrev pub table_among : List BufferDef → ℕ → ℕ
table_among buffers b = (slice_index_or buffers b no_buffer_def).table

-- the table of a buffer of procedure n
abbrev pub table_in : Ground → ℕ → ℕ → ℕ
table_in g n b = table_among (procedure_at g.program n).buffers b

-- buffers, by their numbers
abbrev pub AreBuffers : Ground → (ℕ → ℕ) → List Buffer → Type 0
AreBuffers g tables bs = (b : ℕ) → IsBuffer g (tables b) (slice_index_or bs b no_buffer)

-- records, by the numbers of their buffers
abbrev pub AreRecords : SchemaData → (ℕ → ℕ) → List Content → Type 0
AreRecords schema tables cs = (b : ℕ) → IsRecord schema (tables b) (slice_index_or cs b Empty)

-- a frame of procedure n
pub record IsFrame (g : Ground) (n : ℕ) (f : CallFrame) : Type 0 where
  pub procedure : f.procedure ≡ n
  pub undoable : HaveKinds (slice_get (kinds_at g n).undoable) f.undoable
  pub no_undo : HaveKinds (slice_get (kinds_at g n).no_undo) f.no_undo
  pub buffers : AreBuffers g (table_in g n) f.buffers

-- the outermost procedure is the external one
abbrev pub IsMain : ℕ → List ℕ → Type 0
IsMain n [] = n ≡ 0
IsMain n (m ∷ ms) = Unit {0}

-- frames of these procedures, the innermost first
abbrev pub AreFrames : Ground → List ℕ → List CallFrame → Type 0
AreFrames g [] [] = Unit {0}
AreFrames g [] (f ∷ fs) = ⊥
AreFrames g (n ∷ ns) [] = ⊥
AreFrames g (n ∷ ns) (f ∷ fs) = IsFrame g n f × IsMain n ns × AreFrames g ns fs

-- what a copy has of these procedures
abbrev pub AreSaved : Ground → List ℕ → List Saved → Type 0
AreSaved g ns [] = Unit {0}
AreSaved g [] (c ∷ cs) = Unit {0}
AreSaved g (n ∷ ns) (c ∷ cs) = HaveKinds (slice_get (kinds_at g n).undoable) c.undoable × AreRecords g.schema (table_in g n) c.contents × AreSaved g ns cs

abbrev pub IsCopy : Ground → List ℕ → Option Copy → Type 0
IsCopy g ns None = Unit {0}
IsCopy g ns (Some copy) = AreSaved g ns copy.frames

-- what the running procedure refers to, where these are open
abbrev pub here : Ground → List ℕ → Surroundings
here g [] = record (surroundings g 0) { buffers = [] }
here g (n ∷ ns) = surroundings g n

-- ---- records

-- the table of a buffer of the running procedure, by its number
abbrev pub table_here : Ground → List ℕ → ℕ → ℕ
table_here g ns b = table_among (here g ns).buffers b

-- the table of a buffer of any open procedure
abbrev pub table_there : Ground → List ℕ → ℕ → ℕ → ℕ
table_there g [] out b = 0
table_there g (n ∷ ns) zero b = table_in g n b
table_there g (n ∷ ns) (suc out) b = table_there g ns out b

-- the contents that buffers of the running procedure had
abbrev pub AreOld : Ground → List ℕ → List Content → List ℕ → Type 0
AreOld g ns cs [] = Unit {0}
AreOld g ns cs (b ∷ bs) = IsRecord g.schema (table_here g ns b) (first_of cs) × AreOld g ns (less cs) bs

-- the rows that the answer to an operation may have
abbrev pub IsAsked : Ground → Op → List Value → Type 0
IsAsked g (op.Next t index prefix from forward) values = FitsTable g.schema t values
IsAsked g (op.Get t row) values = FitsTable g.schema t values
IsAsked g o values = ⊥

-- such a row is one of the table
abbrev pub Suits : Ground → Op → ℕ → Type 0
Suits g o t = (values : List Value) → IsAsked g o values → IsRow g.schema t values

-- the procedure is good
pub record IsProcedure (g : Ground) (n : ℕ) : Type 0 where
  pub kinded : is_good_procedure (surroundings g n) (procedure_at g.program n) ≡ true
  pub placed : is_placed_procedure (procedure_at g.program n) ≡ true
  pub named : has_procedure g.schema (procedure_at g.program n) ≡ true

-- a RUN of it with these arguments
pub record IsCall (g : Ground) (ns : List ℕ) (n : ℕ) (args : List Argument) : Type 0 where
  pub procedure : IsProcedure g n
  pub internal : is_internal n ≡ true
  pub arguments : are_arguments (here g ns) (procedure_at g.program n).parameters args ≡ true

-- values of the kinds of parameters
abbrev pub AreFor : List Variable → List Value → Type 0
AreFor [] vs = Unit {0}
AreFor (x ∷ xs) [] = Unit {0}
AreFor (x ∷ xs) (v ∷ vs) = (is_of_kind x.kind v ≡ true) × AreFor xs vs

-- ---- completions

-- how a part of a run may complete, beside its end, RETURN and the end of the client: the blocks that LEAVE, NEXT and UNDO may name;
-- whether by a fault, by another iteration, by a search, or by a record that was lost
pub record Allowed : Type 0 where
  pub blocks : List ℕ
  pub faults : Bool
  pub again : Bool
  pub found : Bool
  pub lost : Bool

abbrev pub nothing : Allowed
nothing = record { blocks = []; faults = false; again = false; found = false; lost = false }

-- in an iteration of a block
abbrev pub in_block : ℕ → Allowed → Allowed
in_block n a = record { blocks = n ∷ a.blocks; faults = false; again = false; found = false; lost = false }

abbrev pub IsAllowed : Ground → List ℕ → Allowed → Completion → Type 0
IsAllowed g ns a Normal = Unit {0}
IsAllowed g ns a (Again t) = a.again ≡ true
IsAllowed g ns a (Leaves l) = is_in l a.blocks ≡ true
IsAllowed g ns a (Nexts l) = is_in l a.blocks ≡ true
IsAllowed g ns a (Undoes l act retry passed) = (undoes_one_of a.blocks l act ≡ true) × (is_action (here g ns) act ≡ true) × IsCopy g ns passed.first
IsAllowed g ns a (Faults c) = a.faults ≡ true
IsAllowed g ns a (Raises passed) = (is_nil a.blocks ≡ false) × IsCopy g ns passed.first
IsAllowed g ns a (EndKeys passed) = (is_nil a.blocks ≡ false) × IsCopy g ns passed.first
IsAllowed g ns a (Found c) = a.found ≡ true
IsAllowed g ns a Lost = a.lost ≡ true
IsAllowed g ns a NotFound = a.found ≡ true
IsAllowed g ns a (Returns error) = Unit {0}
IsAllowed g ns a (Stops end) = Unit {0}

-- the completion of an iteration that is not undone
abbrev pub IsOver : List ℕ → Completion → Type 0
IsOver blocks Normal = Unit {0}
IsOver blocks (Leaves l) = is_in l blocks ≡ true
IsOver blocks (Nexts l) = is_in l blocks ≡ true
IsOver blocks (Returns error) = Unit {0}
IsOver blocks completion = ⊥

-- a fault is handled
pub record CanFail (a : Allowed) : Type 0 where
  pub faults : a.faults ≡ true
  pub inside : is_nil a.blocks ≡ false

-- ---- blocks

-- the block of a procedure
pub record IsApart (a : Allowed) (b : Header) : Type 0 where
  pub outermost : is_outermost b ≡ true
  pub alone : is_nil a.blocks ≡ true

-- a block at a place where this is allowed
pub record IsBlock (g : Ground) (ns : List ℕ) (a : Allowed) (b : Header) : Type 0 where
  pub kinded : is_header (here g ns) b ≡ true
  pub placed : is_placed_header a.blocks b ≡ true
  pub named : has_fetch g.schema (here g ns).buffers b.fetch ≡ true
  pub covered : CanFail a ⊎ IsApart a b

-- code for a body
pub record IsCode (g : Ground) (ns : List ℕ) (blocks : List ℕ) (body : ℕ) : Type 0 where
  pub kinded : is_body (here g ns) (g.tree body) ≡ true
  pub placed : is_placed_body blocks (g.tree body) ≡ true
  pub named : has_body g.schema (here g ns).buffers (g.tree body) ≡ true

-- a block with its body
pub record IsWhole (g : Ground) (ns : List ℕ) (a : Allowed) (b : Header) (body : ℕ) : Type 0 where
  pub block : IsBlock g ns a b
  pub code : IsCode g ns (b.number ∷ a.blocks) body

-- an iteration of a block, after which another may begin
pub record IsOpen (g : Ground) (ns : List ℕ) (a : Allowed) (b : Header) (o : Iteration) : Type 0 where
  pub block : IsBlock g ns a b
  pub copy : IsCopy g ns o.copy
  pub again : a.again ≡ true

-- ---- assignments

abbrev pub is_right : Surroundings → Target → Right → Bool
is_right x t (ValueOf e) = is_for x (kind_of_target t) e
is_right x t right = true

-- IMPORT has given the value, or it is an expression for the target or a sequence of the schema
pub record IsAssigned (schema : SchemaData) (x : Surroundings) (a : Assignment) : Type 0 where
  pub target : is_target x a.target ≡ true
  pub right : is_right x a.target a.right ≡ true
  pub named : has_right schema a.right ≡ true

abbrev pub AreAssigned : SchemaData → Surroundings → List Assignment → Type 0
AreAssigned schema x [] = Unit {0}
AreAssigned schema x (a ∷ as_) = IsAssigned schema x a × AreAssigned schema x as_

-- ---- tasks, where this is allowed

pub record IsSearch (g : Ground) (ns : List ℕ) (a : Allowed) (r : Reading) : Type 0 where
  pub reading : is_reading (here g ns) r ≡ true
  pub named : has_reading g.schema (here g ns).buffers r ≡ true
  pub faults : a.faults ≡ true

abbrev pub IsTask : Ground → List ℕ → Allowed → Task → Type 0
IsTask g ns a (EntersOne place) = a.faults ≡ true
IsTask g ns a (Enters places) = a.faults ≡ true
IsTask g ns a (Drops b) = Unit {0}
IsTask g ns a (Releases bs) = a.faults ≡ true
IsTask g ns a (EntersRest copy) = a.faults ≡ true
IsTask g ns a (LeavesIf copy but) = Unit {0}
IsTask g ns a (LeavesNow but) = Unit {0}
IsTask g ns a (Closing b o) = a.faults ≡ true
IsTask g ns a (GoesBack copy but) = IsCopy g ns copy
IsTask g ns a (UpdatesOne mark place) = Unit {0}
IsTask g ns a (Updates mark but places) = Unit {0}
IsTask g ns a (AfterBack copy but) = AreSaved g ns copy.frames
IsTask g ns a (Acts b o act retry) = IsOpen g ns a b o × (is_action (here g ns) act ≡ true) × (names_one_of (b.number ∷ a.blocks) act ≡ true) × (a.faults ≡ true)
IsTask g ns a (IsOnly k c values) = IsSearch g ns a k.reading × IsRow g.schema (table_here g ns k.reading.buffer) values
IsTask g ns a (Seconds n k c values from) = IsSearch g ns a k.reading × IsRow g.schema (table_here g ns k.reading.buffer) values
IsTask g ns a (TakesAs r wait retry row) = IsSearch g ns a r × (a.lost ≡ true)
IsTask g ns a (TakesAgain r retry row) = IsSearch g ns a r × (a.lost ≡ true)
IsTask g ns a (Takes k c values) = IsSearch g ns a k.reading × (a.found ≡ true) × (a.lost ≡ true) × IsRow g.schema (table_here g ns k.reading.buffer) values
IsTask g ns a (Looks n k from) = IsSearch g ns a k.reading × (a.found ≡ true)
IsTask g ns a (Searches r forward only wait retry from) = IsSearch g ns a r × (a.found ≡ true)
IsTask g ns a (FetchesFrom again f retry own) = IsSearch g ns a f.reading × (a.found ≡ true)
IsTask g ns a (Fetches f t retry) = IsSearch g ns a f.reading × (a.found ≡ true)
IsTask g ns a (FindsAs word r wait retry) = IsSearch g ns a r × (a.found ≡ true)
IsTask g ns a (Finds word r wait retry) = IsSearch g ns a r × (is_nil a.blocks ≡ false)
IsTask g ns a (FindsCurrent r wait) = a.faults ≡ true
IsTask g ns a (AssignsOne t x retry) = IsAssigned g.schema (here g ns) (record { target = t; right = x }) × (a.faults ≡ true)
IsTask g ns a (AssignsEach xs retry) = AreAssigned g.schema (here g ns) xs × (a.faults ≡ true)
IsTask g ns a (LocksOne b) = a.faults ≡ true
IsTask g ns a (LocksAll bs) = a.faults ≡ true
IsTask g ns a (SettlesOne b) = a.faults ≡ true
IsTask g ns a (SettlesAll olds bs) = (a.faults ≡ true) × AreOld g ns olds bs
IsTask g ns a (Assigns xs retry) = AreAssigned g.schema (here g ns) xs × (a.faults ≡ true)
IsTask g ns a (Creates b) = (a.faults ≡ true) × (has_buffer g.schema (slice_get (here g ns).buffers b) ≡ true)
IsTask g ns a (Deletes b) = a.faults ≡ true
IsTask g ns a (DeletesRow b t row) = (a.faults ≡ true) × HasTable g.schema t
IsTask g ns a (Begun b) = has_buffer g.schema (slice_get (here g ns).buffers b) ≡ true
IsTask g ns a (Completes completion) = IsAllowed g ns a completion
IsTask g ns a (Empties but) = Unit {0}
IsTask g ns a (Closes b o completion) = IsOpen g ns a b o × IsOver (b.number ∷ a.blocks) completion × (a.faults ≡ true)
IsTask g ns a (Passes b ended_way left_way) = (a.faults ≡ true) × IsAllowed g ns a ended_way × IsAllowed g ns a left_way
IsTask g ns a (UndoComes b o target act retry passed) =
    IsOpen g ns a b o × (undoes_one_of (b.number ∷ a.blocks) target act ≡ true) × (is_action (here g ns) act ≡ true) × IsCopy g ns passed.first
IsTask g ns a (ErrorComes b o passed) = IsOpen g ns a b o × IsCopy g ns passed.first
IsTask g ns a (EndKeyComes b o passed) = IsOpen g ns a b o × IsCopy g ns passed.first
IsTask g ns a (EndsWith b o completion) = IsOpen g ns a b o × IsAllowed g ns (in_block b.number a) completion
IsTask g ns a (RunsFrom body d retry) = IsCode g ns a.blocks body × (is_nil a.blocks ≡ false)
IsTask g ns a (Begins b copy t retry body d) = IsWhole g ns a b body × IsCopy g ns copy × (a.again ≡ true)
IsTask g ns a (EntersLevel b t retry body d) = IsWhole g ns a b body × (a.again ≡ true)
IsTask g ns a (Turns n b outer body d t) = IsWhole g ns a b body
IsTask g ns a (Iterates b outer body d t) = IsWhole g ns a b body × (a.again ≡ true)
IsTask g ns a (Blocks b outer body d) = IsWhole g ns a b body
IsTask g ns a (Imports n ts retry) = (list_all (if_there (is_target (here g ns))) ts ≡ true) × CanFail a
IsTask g ns a (Calls d n args vs) = IsCall g ns n args × AreFor (procedure_at g.program n).parameters vs × (a.faults ≡ true)

-- ---- the stack

-- the completions that the stack handles; a fault that comes to its end is that of the client
abbrev pub allows : List StackEntry → Allowed
allows [] = record nothing { faults = true }
allows (ThenDo t ∷ ks) = allows ks
allows (OrDo t ∷ ks) = record (allows ks) { lost = true }
allows (FoundAs word b ∷ ks) = record (allows ks) { found = true }
allows (AsBefore olds bs ∷ ks) = allows ks
allows (AfterClosing b o completion ∷ ks) = record nothing { faults = true }
allows (Quiet quiet ∷ ks) = allows ks
allows (Handles quiet ∷ ks) = record (allows ks) { faults = true }
allows (In b o ∷ ks) = in_block b.number (allows ks)
allows (FetchedAs b copy t buffer body d retry ∷ ks) = record nothing { faults = true; found = true }
allows (AndAgain n b outer body d ∷ ks) = record (allows ks) { again = true }
allows (Called args n ∷ ks) = nothing

abbrev pub IsStack : Ground → List ℕ → List StackEntry → Type 0
IsStack g ns [] = Unit {0}
IsStack g ns (ThenDo t ∷ ks) = IsTask g ns (allows ks) t × IsStack g ns ks
IsStack g ns (OrDo t ∷ ks) = IsTask g ns (allows ks) t × IsStack g ns ks
IsStack g ns (FoundAs word b ∷ ks) = CanFail (allows ks) × IsStack g ns ks
IsStack g ns (AsBefore olds bs ∷ ks) = AreOld g ns olds bs × IsStack g ns ks
IsStack g ns (AfterClosing b o completion ∷ ks) = (IsOpen g ns (allows ks) b o × IsOver (b.number ∷ (allows ks).blocks) completion) × IsStack g ns ks
IsStack g ns (Quiet quiet ∷ ks) = ((allows ks).faults ≡ true) × IsStack g ns ks
IsStack g ns (Handles quiet ∷ ks) = (is_nil (allows ks).blocks ≡ false) × IsStack g ns ks
IsStack g ns (In b o ∷ ks) = IsOpen g ns (allows ks) b o × IsStack g ns ks
IsStack g ns (FetchedAs b copy t buffer body d retry ∷ ks) =
    (IsWhole g ns (allows ks) b body × IsCopy g ns copy × ((allows ks).again ≡ true) × ((allows ks).faults ≡ true)) × IsStack g ns ks
IsStack g ns (AndAgain n b outer body d ∷ ks) = IsWhole g ns (allows ks) b body × IsStack g ns ks
IsStack g [] (Called args n ∷ ks) = ⊥
IsStack g (m ∷ []) (Called args n ∷ ks) = ⊥
IsStack g (m ∷ l ∷ ns) (Called args n ∷ ks) = ((m ≡ n) × IsCall g (l ∷ ns) n args × ((allows ks).faults ≡ true)) × IsStack g (l ∷ ns) ks

-- ---- answers

abbrev pub IsAwaited : Ground → List ℕ → Allowed → Op → OnAnswer → Type 0
IsAwaited g ns a o (WasInserted place t values made) = (a.faults ≡ true) × IsRow g.schema (table_there g ns place.out place.number) values
IsAwaited g ns a o WasDropped = Unit {0}
IsAwaited g ns a o WasLeft = Unit {0}
IsAwaited g ns a o (WasBack copy but) = AreSaved g ns copy.frames
IsAwaited g ns a o (WasGot place row held made) = Suits g o (table_there g ns place.out place.number)
IsAwaited g ns a o (WasSecond n k c values) = IsSearch g ns a k.reading × IsRow g.schema (table_here g ns k.reading.buffer) values × Suits g o (table_here g ns k.reading.buffer)
IsAwaited g ns a o (WasNext n k) = IsSearch g ns a k.reading × (a.found ≡ true) × Suits g o (table_here g ns k.reading.buffer)
IsAwaited g ns a o (WasGranted r retry row) = IsSearch g ns a r × (a.lost ≡ true)
IsAwaited g ns a o (WasRead r retry row held) = IsSearch g ns a r × (a.lost ≡ true) × Suits g o (table_here g ns r.buffer)
IsAwaited g ns a o (CurrentGranted r row made) = (a.faults ≡ true) × HasTable g.schema (table_here g ns r.buffer)
IsAwaited g ns a o (WasCurrent r row made) = (a.faults ≡ true) × Suits g o (table_here g ns r.buffer)
IsAwaited g ns a o (WasCounted t) = (is_target (here g ns) t ≡ true) × (a.faults ≡ true)
IsAwaited g ns a o (WasUpgraded b row values made) = (a.faults ≡ true) × IsRow g.schema (table_here g ns b) values
IsAwaited g ns a o (WasPut b t) = a.faults ≡ true
IsAwaited g ns a o (WasDeleted b) = a.faults ≡ true
IsAwaited g ns a o (WasEntered b t retry body d) = IsWhole g ns a b body × (a.again ≡ true)

-- ---- configurations

-- a client that is about to end does nothing more
abbrev pub IsGoing : Ground → List ℕ → List StackEntry → Mode → Type 0
IsGoing g ns ks (Execute (EndsWith b o (Stops end))) = Unit {0}
IsGoing g ns ks (Execute t) = IsTask g ns (allows ks) t × IsStack g ns ks
IsGoing g ns ks (Unwind (Stops end)) = Unit {0}
IsGoing g ns ks (Unwind completion) = IsAllowed g ns (allows ks) completion × IsStack g ns ks
IsGoing g ns ks (Await o k) = IsOfSchema g.schema o × IsAwaited g ns (allows ks) o k × IsStack g ns ks

-- WHAT IS KEPT, where these procedures are open
abbrev pub Kept : Ground → List ℕ → Config → Type 0
Kept g ns c = AreFrames g ns c.state.frames × IsGoing g ns c.stack c.mode

-- some procedure is open
abbrev pub IsKept : Ground → Config → Type 0
IsKept g c = (n : ℕ) × (ns : List ℕ) × Kept g (n ∷ ns) c
