-- Worked rows, each with its source text. They compute, and nothing depends on them.
use Rattle.std.specs.Prelude.{ℕ, ◌+◌, ◌≡◌, Bool, true, false, List, [], ◌∷◌, ◌++◌, None, refl, codes}
use Rattle.std.specs.Fmt.{digits}
use Rattle.bound_tree.specs.declared.block.BlockKind.{BlockKind}
use Rattle.bound_tree.specs.declared.block.BlockKind.TheVariants as kind
use Rattle.bound_tree.specs.declared.procedure.BufferDef.{BufferDef}
use Rattle.bound_tree.specs.Tree.{Header, Body, Inner, Nothing, Then, Procedure, Source}
use Rattle.source_reader.specs.listing.Listing.{listing}

abbrev head : ℕ → BlockKind → ℕ → Bool → Bool → List ℕ → Header
head number what line starts undo scoped = record {
  number = number;
  kind = what;
  place = record { line = line; column = 1 };
  transaction = false;
  flags = record { starts = starts; undo = undo; retry_seen = false };
  scoped = scoped;
  to = None;
  while_test = None;
  fetch = None;
  on_error = None;
  on_endkey = None;
}

abbrev procedure : List BufferDef → Header → Body → Procedure
procedure buffers header body = record { name = []; undoable = []; no_undo = []; buffers = buffers; parameters = []; header = header; body = body; references = [] }

abbrev source : List Procedure → Source
source procedures = record { procedures = procedures; streams = 0; outputs = []; inputs = [] }

abbrev customer : List BufferDef
customer = record { name = codes "customer"; table = 0 } ∷ []

abbrev line_of : List ℕ → List ℕ
line_of text = text ++ 10 ∷ []

-- REPEAT: CREATE customer. IMPORT customer. END.
-- FOR EACH customer NO-LOCK: EXPORT customer. END.
pub read_in :
    listing (λ place. place.line) (source (procedure customer (head 0 kind.Procedure 1 false true []) (Then (Inner (head 1 kind.Repeat 1 true true (0 ∷ [])) Nothing) (Then (Inner (head 2 kind.For 2 false true (0 ∷ [])) Nothing) Nothing)) ∷ []))
    ≡ line_of (codes "1 procedure sub") ++ (line_of (codes "1 REPEAT transaction customer") ++ line_of (codes "2 FOR sub customer"))
unfolding digits
read_in = refl

-- DO: END.
-- PROCEDURE p: DO: END. END.
-- DO: END.
-- the blocks of an internal procedure are listed where it is in the text
pub in_text_order :
    listing (λ place. place.line) (source (procedure [] (head 0 kind.Procedure 1 false true []) (Then (Inner (head 1 kind.Do 1 false false []) Nothing) (Then (Inner (head 4 kind.Do 3 false false []) Nothing) Nothing))
    ∷ procedure [] (head 2 kind.Procedure 2 false true []) (Then (Inner (head 3 kind.Do 2 false false []) Nothing) Nothing) ∷ []))
    ≡ line_of (codes "1 procedure sub") ++ (line_of (codes "1 DO plain") ++ (line_of (codes "2 procedure sub") ++ (line_of (codes "2 DO plain") ++ line_of (codes "3 DO plain"))))
unfolding digits
in_text_order = refl

-- {head.i}
-- DO: END.
-- with one line feed in head.i: the line of a block is that of its own text
pub in_its_own_text :
    listing (λ place. place.line + 1) (source (procedure [] (head 0 kind.Procedure 1 false true []) (Then (Inner (head 1 kind.Do 1 false false []) Nothing) Nothing) ∷ []))
    ≡ line_of (codes "1 procedure sub") ++ line_of (codes "2 DO plain")
unfolding digits
in_its_own_text = refl
