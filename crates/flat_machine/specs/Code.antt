-- Flat code. Each instruction names the place of the one that follows it.
use Rattle.std.specs.Prelude.{◌≡◌, ℕ}
use Rattle.bound_tree.specs.Tree.{Expr, Header, Stmt, Inner, Choose, Body, Nothing, Then}
use Rattle.block_meaning.specs.Program.{Program, procedure_at}

-- an instruction, with the place of the one that follows it
pub data Instr : Type 0 where
  -- the end of a body
  Ends : Instr
  -- a block: the place of its body, and the place after it
  Opens : (b : Header) (body next : ℕ) → Instr
  -- IF: the places of its branches; the last statement of each names the place after the IF
  Tests : (test : Expr) (one other : ℕ) → Instr
  -- any other statement
  Plain : (t : Stmt) (next : ℕ) → Instr

-- a statement that is neither a block nor an IF
abbrev pub IsSimple : Stmt → Type 0
IsSimple (Inner b body) = ⊥
IsSimple (Choose test then_it else_it) = ⊥
IsSimple t = Unit {0}

-- a body followed by another one
abbrev pub before : Body → Body → Body
before Nothing rest = rest
before (Then t more) rest = Then t (before more rest)

-- an IF and the statements after it
pub record IsIf (test : Expr) (all one other : Body) : Type 0 where
  pub then_it : Body
  pub else_it : Body
  pub rest : Body
  pub is : all ≡ Then (Choose test then_it else_it) rest
  pub first : one ≡ before then_it rest
  pub second : other ≡ before else_it rest

-- the instruction at a place denotes the first statement of the body there
abbrev pub DenotesAt : (ℕ → Body) → ℕ → Instr → Type 0
DenotesAt tree p Ends = tree p ≡ Nothing
DenotesAt tree p (Opens b body next) = tree p ≡ Then (Inner b (tree body)) (tree next)
DenotesAt tree p (Tests test one other) = IsIf test (tree p) (tree one) (tree other)
DenotesAt tree p (Plain t next) = IsSimple t × (tree p ≡ Then t (tree next))

-- code: its instructions, and where each procedure begins
pub record Code : Type 0 where
  pub instr : ℕ → Instr
  pub entry : ℕ → ℕ

-- the code denotes the program: `tree` gives the body at each place
pub record IsCodeOf (code : Code) (p : Program) (tree : ℕ → Body) : Type 0 where
  pub denotes : (k : ℕ) → DenotesAt tree k (code.instr k)
  pub begins : (n : ℕ) → tree (code.entry n) ≡ (procedure_at p n).body
