-- THE HEADER OF EACH BLOCK OF THE TEXT: each block has exactly one header, in its own procedure, with its number.
use Rattle.std.specs.Prelude.{ℕ, ◌≡◌, Some, slice_get}
use Rattle.syntax_tree.specs.Syntax.{Program as Syntax}
use Rattle.bound_tree.specs.Tree.{Header, Procedure, Source}
use Rattle.buffer_scope.specs.Blocks.{blocks_of}
use Rattle.buffer_scope.specs.Scoped.{scoped_to}
use Rattle.source_reader.specs.TextBlocks.{TextBlock, headers_of, name_of_block, name_of_header}

-- the header at place i in the text order of procedure p of the tree
pub record IsHeaderAt (tree : Source) (p i : ℕ) (h : Header) : Type 0 where
  pub procedure : Procedure
  pub at_number : slice_get tree.procedures p ≡ Some procedure
  pub at_place : slice_get (headers_of procedure) i ≡ Some h

-- THE HEADER OF THE BLOCK b of the text, where n blocks begin before b. It is in the block's procedure. It has the block's number, place
-- and kind and the buffers scoped to that block. No other header has its number
pub record HasOneHeader (syntax_of : Syntax) (tree : Source) (n : ℕ) (b : TextBlock) : Type 0 where
  pub place : ℕ
  pub header : Header
  pub at : IsHeaderAt tree b.procedure place header
  pub named : name_of_header header ≡ name_of_block (record { number = n; block = b })
  pub buffers : header.scoped ≡ scoped_to (blocks_of syntax_of) at.procedure n
  pub alone : (p i : ℕ) (h : Header) → IsHeaderAt tree p i h → h.number ≡ n → (p ≡ b.procedure) × (i ≡ place)
