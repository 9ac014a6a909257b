-- What a client stores in place of whole copies of its variables: the old values since a savepoint. The outermost
-- procedure is first, the last old value is first. Pending records are few, so a savepoint stores them whole.
use Rattle.std.specs.Prelude.{◌≤◌, ℕ, ◌+◌, nat_lt, List, [], ◌∷◌, Bool, true, false, length, map, reverse, slice_index_or, slice_set}
use Rattle.abl_base.specs.declared.value.Value.{Value}
use Rattle.abl_base.specs.declared.value.Value.TheVariants.{Unknown}
use Rattle.block_meaning.specs.State.{CallFrame, Content, Saved, Copy}
use Rattle.block_meaning.specs.Frames.{pending_of, contents_restored}

-- the value that an undoable variable had; its procedure is counted from the outermost
pub record OldValue : Type 0 where
  pub frame : ℕ
  pub number : ℕ
  pub value : Value

-- a savepoint, made with an Enter: its level, the number of CREATEs before, the number of old values, and the pending
-- records of each open procedure
pub record Savepoint : Type 0 where
  pub depth : ℕ
  pub made : ℕ
  pub old_values : ℕ
  pub pending : List (List Content)

-- one of two
abbrev pub one_or : {A : Type 0} → Bool → A → A → A
one_or true this other = this
one_or false this other = other

-- the undoable variables of each procedure
abbrev pub Values : Type 0
Values = List (List Value)

-- gives an undoable variable another value
abbrev pub with_value : ℕ → ℕ → Value → Values → Values
with_value k n v vss = slice_set vss k (slice_set (slice_index_or vss k []) n v)

-- its value
abbrev pub value_at : ℕ → ℕ → Values → Value
value_at k n vss = slice_index_or (slice_index_or vss k []) n Unknown

-- restores the old values after the first `at`, the last one first
abbrev pub restored_to : ℕ → List OldValue → Values → Values
restored_to at [] vss = vss
restored_to at (o ∷ old_values) vss = one_or (nat_lt (length old_values) at) vss (restored_to at old_values (with_value o.frame o.number o.value vss))

-- the old values that remain
abbrev pub old_values_before : ℕ → List OldValue → List OldValue
old_values_before at [] = []
old_values_before at (o ∷ old_values) = one_or (nat_lt (length old_values) at) (o ∷ old_values) (old_values_before at old_values)

-- what a copy has of each procedure
abbrev pub saved_of_all : Values → List (List Content) → List Saved
saved_of_all [] css = []
saved_of_all (vs ∷ vss) [] = []
saved_of_all (vs ∷ vss) (cs ∷ css) = record { undoable = vs; contents = cs } ∷ saved_of_all vss css

-- the whole copy that a savepoint denotes, the innermost procedure first, without the procedures that began after it
abbrev pub copy_at : List OldValue → Values → Savepoint → Copy
copy_at old_values vss m = record { depth = m.depth; made = m.made; frames = reverse (saved_of_all (restored_to m.old_values old_values vss) m.pending) }

-- the savepoint that is made with an Enter
abbrev pub savepoint_now : List OldValue → List CallFrame → ℕ → ℕ → Savepoint
savepoint_now old_values fs level made = record { depth = level + 1; made = made; old_values = length old_values; pending = map (λ f. map (λ b. pending_of b.content) f.buffers) fs }

-- the savepoints are nested, the innermost first
abbrev pub AreNested : ℕ → List Savepoint → Type 0
AreNested old_values [] = Unit {0}
AreNested old_values (m ∷ ms) = (m.old_values ≤ old_values) × AreNested m.old_values ms

-- the undoable variables of all procedures
abbrev pub undoables : List CallFrame → Values
undoables fs = map (λ f. f.undoable) fs

-- restores the variables and the pending records of every procedure
abbrev pub all_restored : Values → List (List Content) → List CallFrame → List CallFrame
all_restored [] css fs = []
all_restored (vs ∷ vss) [] fs = []
all_restored (vs ∷ vss) (cs ∷ css) [] = []
all_restored (vs ∷ vss) (cs ∷ css) (f ∷ fs) = record f { undoable = vs; buffers = contents_restored cs f.buffers } ∷ all_restored vss css fs
