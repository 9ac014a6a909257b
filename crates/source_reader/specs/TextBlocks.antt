-- THE BLOCKS OF A TEXT, each with its number, by the syntax of the text alone; and the headers of a tree in text order.
use Rattle.std.specs.Prelude.{ℕ, ◌+◌, ◌≡◌, ◌==◌, List, [], ◌∷◌, ◌++◌, map}
use Rattle.std.specs.List.{filter}
use Rattle.abl_base.specs.declared.place.Place.{Place}
use Rattle.bound_tree.specs.declared.block.BlockKind.{BlockKind}
use Rattle.bound_tree.specs.declared.block.BlockKind.TheVariants as block_kind
use Rattle.bound_tree.specs.Tree as t
use Rattle.bound_tree.specs.Tree.{Header, Stmt, Body, start_of_source}
use Rattle.syntax_tree.specs.Syntax as s
use Rattle.syntax_tree.specs.Syntax.{Statement, Statements, Program}
use Rattle.bind_blocks.specs.Headers.{block_kind_of}

-- ---- the blocks of the syntax

-- a block: the procedure that it is in (0 is the external one, and the internal ones follow in text order), its first keyword, and what it is
pub record TextBlock : Type 0 where
  pub procedure : ℕ
  pub keyword : Place
  pub kind : BlockKind

abbrev mutual
  -- the blocks in a statement of the procedure p, in text order
  pub blocks_in : ℕ → Statement → List TextBlock
  blocks_in p (s.Block h body) = record { procedure = p; keyword = h.at; kind = block_kind_of h.opening } ∷ blocks_within p body
  blocks_in p (s.Choose test then_it else_it) = blocks_in p then_it ++ blocks_within p else_it
  blocks_in p statement = []

  pub blocks_within : ℕ → Statements → List TextBlock
  blocks_within p s.Nothing = []
  blocks_within p (s.Then first rest) = blocks_in p first ++ blocks_within p rest

-- a procedure, and the blocks in it
abbrev pub procedure_blocks : ℕ → Place → Statements → List TextBlock
procedure_blocks p keyword body = record { procedure = p; keyword = keyword; kind = block_kind.Procedure } ∷ blocks_within p body

-- the blocks of items in text order, where the next internal procedure has number p
abbrev pub blocks_among : ℕ → Program → List TextBlock
blocks_among p [] = []
blocks_among p (s.Alone statement ∷ items) = blocks_in 0 statement ++ blocks_among p items
blocks_among p (s.Procedure keyword name body ∷ items) = procedure_blocks p keyword body ++ blocks_among (p + 1) items

-- THE BLOCKS OF A TEXT in text order, the external procedure first
abbrev pub text_blocks : Program → List TextBlock
text_blocks program = record { procedure = 0; keyword = start_of_source; kind = block_kind.Procedure } ∷ blocks_among 1 program

-- ---- their numbers

-- a block and the number of blocks that begin before it
pub record NumberedBlock : Type 0 where
  pub number : ℕ
  pub block : TextBlock

-- these blocks with their numbers, where n blocks begin before them
abbrev pub numbered : ℕ → List TextBlock → List NumberedBlock
numbered n [] = []
numbered n (b ∷ bs) = record { number = n; block = b } ∷ numbered (n + 1) bs

-- those of one procedure
abbrev pub in_procedure : ℕ → List NumberedBlock → List NumberedBlock
in_procedure p = filter (λ (b : NumberedBlock). b.block.procedure == p)

-- THE BLOCKS OF PROCEDURE p in text order, with their numbers
abbrev pub blocks_of_procedure : Program → ℕ → List NumberedBlock
blocks_of_procedure program p = in_procedure p (numbered 0 (text_blocks program))

-- ---- the headers of a tree

abbrev mutual
  -- the headers in a statement, in text order
  pub headers_in : Stmt → List Header
  headers_in (t.Inner h body) = h ∷ headers_within body
  headers_in (t.Choose test then_it else_it) = headers_within then_it ++ headers_within else_it
  headers_in statement = []

  pub headers_within : Body → List Header
  headers_within t.Nothing = []
  headers_within (t.Then first rest) = headers_in first ++ headers_within rest

-- THE HEADERS OF A PROCEDURE in text order, its own first
abbrev pub headers_of : t.Procedure → List Header
headers_of q = q.header ∷ headers_within q.body

-- ---- the header of each block

-- what names a block: its number, the place of its first keyword, and what it is
pub record BlockName : Type 0 where
  pub number : ℕ
  pub place : Place
  pub kind : BlockKind

abbrev pub name_of_header : Header → BlockName
name_of_header h = record { number = h.number; place = h.place; kind = h.kind }

abbrev pub name_of_block : NumberedBlock → BlockName
name_of_block b = record { number = b.number; place = b.block.keyword; kind = b.block.kind }

-- THE HEADERS OF THE PROCEDURE ARE THOSE OF THE BLOCKS OF PROCEDURE p, one for one, in text order
abbrev pub AreItsBlocks : Program → ℕ → t.Procedure → Type 0
AreItsBlocks program p q = map name_of_header (headers_of q) ≡ map name_of_block (blocks_of_procedure program p)
