-- The blocks of a source in text order, each with the blocks that it is in. The number of a block is how many begin before it, as the binder counts
-- them; that of the external procedure is 0.
use Rattle.std.specs.Prelude.{ℕ, Bool, true, false, List, [], ◌∷◌, ◌++◌, length, Option, Some, None, slice_get}
use Rattle.abl_base.specs.declared.place.Place.{Place}
use Rattle.syntax_tree.specs.declared.word.BlockWord.TheVariants as word
use Rattle.syntax_tree.specs.Syntax.{Opening, Plainly, Statement, Block, Choose, Statements, Nothing, Then, Item, Procedure, Alone, Program}

-- a block: its first keyword, whether the free scope of a buffer may be it, and the numbers of the blocks that hold what is in it, itself the first and
-- its procedure's the last
pub record Placed : Type 0 where
  pub keyword : Place
  pub may_scope : Bool
  pub around : List ℕ

-- FOR, REPEAT, DO FOR and REPEAT FOR, and no other DO
abbrev pub may_scope : Opening → Bool
may_scope (Plainly word.Do []) = false
may_scope opening = true

-- one more block, in the blocks `outer`, where `before` begin before it
abbrev pub one_more : List Placed → Place → Bool → List ℕ → List Placed
one_more before keyword capable outer = before ++ record { keyword = keyword; may_scope = capable; around = length before ∷ outer } ∷ []

abbrev mutual
  -- the blocks that begin before the end of a statement, where `before` begin before it and `outer` hold it
  pub through : List ℕ → List Placed → Statement → List Placed
  through outer before (Block h body) = through_all (length before ∷ outer) (one_more before h.at (may_scope h.opening) outer) body
  through outer before (Choose test x y) = through_all outer (through outer before x) y
  through outer before t = before

  pub through_all : List ℕ → List Placed → Statements → List Placed
  through_all outer before Nothing = before
  through_all outer before (Then t ts) = through_all outer (through outer before t) ts

-- an internal procedure, whose block is in no other, or a statement of the external one
abbrev pub through_item : List Placed → Item → List Placed
through_item before (Procedure keyword name body) = through_all (length before ∷ []) (one_more before keyword true []) body
through_item before (Alone t) = through (0 ∷ []) before t

abbrev pub through_items : List Placed → Program → List Placed
through_items before [] = before
through_items before (i ∷ is) = through_items (through_item before i) is

-- THE BLOCKS OF A SOURCE
abbrev pub blocks_of : Program → List Placed
blocks_of p = through_items (one_more [] (record { line = 1; column = 1 }) true []) p

-- ---- the block of a number

abbrev pub around_of : Option Placed → List ℕ
around_of None = []
around_of (Some b) = b.around

abbrev pub may_scope_of : Option Placed → Bool
may_scope_of None = false
may_scope_of (Some b) = b.may_scope

abbrev pub keyword_of : Place → Option Placed → Place
keyword_of otherwise None = otherwise
keyword_of otherwise (Some b) = b.keyword

-- the blocks that hold what is in block n
abbrev pub holding : List Placed → ℕ → List ℕ
holding blocks n = around_of (slice_get blocks n)
