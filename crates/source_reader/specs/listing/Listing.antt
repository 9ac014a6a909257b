-- The listing of a source, as the command `check` prints it: a line for each block, in text order, with its line number, what it is, whether it starts a
-- transaction or has the undo property, and the buffers scoped to it. The text that is read may have been put together of others: `own` gives the line
-- that a place of it has in the text where it was written.
use Rattle.std.specs.Prelude.{ℕ, zero, suc, if◌then◌else◌, List, [], ◌∷◌, ◌++◌, Option, Some, None, codes, decimal, slice_get}
use Rattle.std.specs.List.{flat_map}
use Rattle.std.specs.Ordering.{nat_cmp}
use Rattle.std.specs.BTreeMap.{insert_entry}
use Rattle.abl_base.specs.declared.place.Place.{Place}
use Rattle.bound_tree.specs.declared.block.BlockKind.{BlockKind}
use Rattle.bound_tree.specs.declared.block.BlockKind.TheVariants as kind
use Rattle.bound_tree.specs.declared.block.Flags.{Flags}
use Rattle.bound_tree.specs.declared.procedure.BufferDef.{BufferDef}
use Rattle.source_reader.specs.declared.listing.line.ListedBlock.{ListedBlock}
use Rattle.bound_tree.specs.Tree.{Header, Stmt, Inner, Choose, Body, Nothing, Then, Procedure, Source}

abbrev pub kind_word : BlockKind → List ℕ
kind_word kind.Procedure = codes "procedure"
kind_word kind.Do = codes "DO"
kind_word kind.Repeat = codes "REPEAT"
kind_word kind.For = codes "FOR"

-- `transaction` where it starts one, else `sub` where it has the undo property, else `plain`
abbrev pub property : Flags → List ℕ
property f = if f.starts then codes "transaction" else if f.undo then codes "sub" else codes "plain"

abbrev pub name_of : Option BufferDef → List ℕ
name_of None = []
name_of (Some b) = b.name

-- a blank and the name of a buffer, as its DEFINE BUFFER or the schema spells it
abbrev pub named : List BufferDef → ℕ → List ℕ
named buffers n = 32 ∷ name_of (slice_get buffers n)

-- what is listed of a block: where its first keyword is, and what follows the line number, with the line feed
abbrev pub listed : List BufferDef → Header → ListedBlock
listed buffers h = record { place = h.place; text = 32 ∷ kind_word h.kind ++ 32 ∷ property h.flags ++ flat_map (named buffers) h.scoped ++ 10 ∷ [] }

-- the line number of the block of this number, whose first keyword is at the place: the line that the keyword has in its own text. The
-- external procedure, block 0, has no keyword, and line 1
abbrev pub line_number : (Place → ℕ) → ℕ → Place → ℕ
line_number own zero place = 1
line_number own (suc number) place = own place

-- THE LINE OF A BLOCK of this number
abbrev pub line : (Place → ℕ) → ℕ → ListedBlock → List ℕ
line own number b = decimal (line_number own number b.place) ++ b.text

-- ---- blocks by their numbers, ascending. They are numbered in text order

abbrev pub Lines : Type 0
Lines = List (ℕ × ListedBlock)

abbrev pub add : List BufferDef → Lines → Header → Lines
add buffers before h = insert_entry nat_cmp before h.number (listed buffers h)

abbrev mutual
  -- those of the blocks in a statement, and these
  pub in_stmt : List BufferDef → Lines → Stmt → Lines
  in_stmt buffers before (Inner h body) = in_body buffers (add buffers before h) body
  in_stmt buffers before (Choose test x y) = in_body buffers (in_body buffers before x) y
  in_stmt buffers before t = before

  pub in_body : List BufferDef → Lines → Body → Lines
  in_body buffers before Nothing = before
  in_body buffers before (Then t ts) = in_body buffers (in_stmt buffers before t) ts

abbrev pub in_procedure : Lines → Procedure → Lines
in_procedure before q = in_body q.buffers (add q.buffers before q.header) q.body

abbrev pub in_procedures : Lines → List Procedure → Lines
in_procedures before [] = before
in_procedures before (q ∷ qs) = in_procedures (in_procedure before q) qs

-- their lines one after the other
abbrev pub joined : (Place → ℕ) → Lines → List ℕ
joined own = flat_map (λ (e : ℕ × ListedBlock). line own e.0 e.1)

-- THE LISTING of a source
abbrev pub listing : (Place → ℕ) → Source → List ℕ
listing own s = joined own (in_procedures [] s.procedures)
