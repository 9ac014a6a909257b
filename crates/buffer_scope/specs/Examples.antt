-- Worked rows, each with its source text: the buffers scoped to each block, and the first rule S that is broken. They compute, and nothing depends on
-- them.
use Rattle.std.specs.Prelude.{ℕ, ◌≡◌, false, List, [], ◌∷◌, Option, Some, None, refl, codes}
use Rattle.abl_base.specs.declared.place.Place.{Place}
use Rattle.abl_base.specs.declared.rule.Rule.{Rule}
use Rattle.abl_base.specs.declared.rule.Rule.TheVariants.{S1, S2, S3, S4}
use Rattle.bind_names.specs.declared.violation.Violation.{Violation}
use Rattle.syntax_tree.specs.declared.name.Word.{Word}
use Rattle.syntax_tree.specs.declared.word.BlockWord.TheVariants as word
use Rattle.syntax_tree.specs.Syntax.{Opening, Plainly, ForRecords, Head, Statement, Block, Stop, Statements, Alone, Item, Program}
use Rattle.syntax_tree.specs.Syntax as s
use Rattle.bound_tree.specs.declared.block.BlockKind.TheVariants as kind
use Rattle.bound_tree.specs.declared.block.FetchWord.TheVariants as fetch
use Rattle.bound_tree.specs.declared.procedure.Reference.{Reference}
use Rattle.bound_tree.specs.declared.procedure.ReferenceKind.{ReferenceKind}
use Rattle.bound_tree.specs.declared.procedure.ReferenceKind.TheVariants.{Strong, Weak, Free}
use Rattle.bound_tree.specs.Tree as tree
use Rattle.bound_tree.specs.Tree.{Procedure, start_of_source}
use Rattle.buffer_scope.specs.Blocks.{blocks_of}
use Rattle.buffer_scope.specs.First.{first}
use Rattle.buffer_scope.specs.Rules.{procedure_breaks}
use Rattle.buffer_scope.specs.Scoped.{scoped_to}
use Rattle.buffer_scope.specs.Scopes.{own_blocks}

-- ---- sources in one line; the blocks begin at the given columns

abbrev col : ℕ → Place
col column = record { line = 1; column = column }

abbrev customer : Word
customer = record { spelling = codes "customer"; at = col 1 }

abbrev body : List Statement → Statements
body [] = s.Nothing
body (t ∷ ts) = s.Then t (body ts)

abbrev block : ℕ → Opening → List Statement → Statement
block column opening inside = Block (record { label = None; at = col column; opening = opening; counting = None; phrases = [] }) (body inside)

abbrev do_plain : Opening
do_plain = Plainly word.Do []

abbrev repeat_plain : Opening
repeat_plain = Plainly word.Repeat []

abbrev do_for : Opening
do_for = Plainly word.Do (customer ∷ [])

abbrev for_each : Opening
for_each = ForRecords fetch.Each customer []

abbrev ref : ReferenceKind → ℕ → ℕ → Reference
ref kind block column = record { buffer = 0; kind = kind; block = block; place = col column }

-- a procedure with the buffer customer and these references to it
abbrev main : List Reference → Procedure
main references = record {
  name = [];
  undoable = [];
  no_undo = [];
  buffers = record { name = codes "customer"; table = 0 } ∷ [];
  parameters = [];
  header = record {
    number = 0;
    kind = kind.Procedure;
    place = start_of_source;
    transaction = false;
    flags = record { starts = false; undo = false; retry_seen = false };
    scoped = [];
    to = None;
    while_test = None;
    fetch = None;
    on_error = None;
    on_endkey = None;
  };
  body = tree.Nothing;
  references = references;
}

-- the buffers scoped to block n
abbrev scoped_in : Program → List Reference → ℕ → List ℕ
scoped_in p references = scoped_to (blocks_of p) (main references)

-- the first rule that is broken
abbrev broken : Program → List Reference → Option Violation
broken p references = first (procedure_breaks (blocks_of p) (main references))

abbrev breaks : Rule → ℕ → Option Violation
breaks rule column = Some (record { rule = rule; place = col column })

-- ---- REPEAT: CREATE customer. IMPORT customer. END. FOR EACH customer NO-LOCK: EXPORT customer. END.   each block has the buffer

abbrev read_in : Program
read_in = Alone (block 1 repeat_plain []) ∷ Alone (block 50 for_each []) ∷ []

abbrev read_in_refs : List Reference
read_in_refs = ref Free 1 16 ∷ ref Free 1 33 ∷ ref Weak 2 59 ∷ ref Free 2 85 ∷ []

pub the_repeat_has_the_buffer : scoped_in read_in read_in_refs 1 ≡ 0 ∷ []
unfolding own_blocks
the_repeat_has_the_buffer = refl

pub the_for_has_its_own : scoped_in read_in read_in_refs 2 ≡ 0 ∷ []
unfolding own_blocks
the_for_has_its_own = refl

pub the_procedure_has_none : scoped_in read_in read_in_refs 0 ≡ []
unfolding own_blocks
the_procedure_has_none = refl

pub nothing_is_broken : broken read_in read_in_refs ≡ None
unfolding own_blocks
nothing_is_broken = refl

-- ---- FOR EACH customer: LEAVE. END. IF AVAILABLE customer THEN EXPORT customer.   the procedure takes the FOR in

abbrev left_open : Program
left_open = Alone (block 1 for_each []) ∷ []

pub the_procedure_takes_the_for_in : scoped_in left_open (ref Weak 1 10 ∷ ref Free 0 45 ∷ ref Free 0 66 ∷ []) 0 ≡ 0 ∷ []
unfolding own_blocks
the_procedure_takes_the_for_in = refl

pub the_for_taken_in_has_none : scoped_in left_open (ref Weak 1 10 ∷ ref Free 0 45 ∷ ref Free 0 66 ∷ []) 1 ≡ []
unfolding own_blocks
the_for_taken_in_has_none = refl

-- ---- DO: FIND FIRST customer. END.   a DO is no free scope, and the procedure is

abbrev in_a_do : Program
in_a_do = Alone (block 1 do_plain []) ∷ []

pub a_do_is_no_scope : scoped_in in_a_do (ref Free 1 16 ∷ []) 1 ≡ []
unfolding own_blocks
a_do_is_no_scope = refl

pub the_procedure_around_a_do_is : scoped_in in_a_do (ref Free 1 16 ∷ []) 0 ≡ 0 ∷ []
unfolding own_blocks
the_procedure_around_a_do_is = refl

-- ---- DO FOR customer: FIND FIRST customer. END.   it is its own scope

pub a_do_for_is_a_scope : scoped_in (Alone (block 1 do_for []) ∷ []) (ref Strong 1 8 ∷ ref Free 1 29 ∷ []) 1 ≡ 0 ∷ []
unfolding own_blocks
a_do_for_is_a_scope = refl

-- ---- FOR EACH customer: FOR EACH customer: END. END.

pub a_weak_block_in_a_weak_one : broken (Alone (block 1 for_each (block 20 for_each [] ∷ [])) ∷ []) (ref Weak 1 10 ∷ ref Weak 2 29 ∷ []) ≡ breaks S1 20
unfolding own_blocks
a_weak_block_in_a_weak_one = refl

-- ---- FIND FIRST customer. DO FOR customer: FIND LAST customer. END.

pub a_strong_block_in_the_free_scope : broken (Alone Stop ∷ Alone (block 22 do_for []) ∷ []) (ref Free 0 12 ∷ ref Strong 1 29 ∷ ref Free 1 49 ∷ []) ≡ breaks S2 22
unfolding own_blocks
a_strong_block_in_the_free_scope = refl

-- ---- DO FOR customer: FOR EACH customer: END. END.

pub a_weak_block_in_a_strong_one : broken (Alone (block 1 do_for (block 18 for_each [] ∷ [])) ∷ []) (ref Strong 1 8 ∷ ref Weak 2 27 ∷ []) ≡ breaks S3 18
unfolding own_blocks
a_weak_block_in_a_strong_one = refl

-- ---- FOR EACH customer: DO FOR customer: END. END.

pub a_strong_block_in_a_weak_one : broken (Alone (block 1 for_each (block 20 do_for [] ∷ [])) ∷ []) (ref Weak 1 10 ∷ ref Strong 2 27 ∷ []) ≡ breaks S3 20
unfolding own_blocks
a_strong_block_in_a_weak_one = refl

-- ---- FIND FIRST customer. FOR EACH customer: DO FOR customer: END. END.   S2 and S3 at one place, of which S2 has the lesser number

pub the_lesser_number_is_first : broken (Alone Stop ∷ Alone (block 22 for_each (block 41 do_for [] ∷ [])) ∷ []) (ref Free 0 12 ∷ ref Weak 1 31 ∷ ref Strong 2 48 ∷ []) ≡ breaks S2 41
unfolding own_blocks
the_lesser_number_is_first = refl

-- ---- DO FOR customer, customer: END.

pub a_buffer_twice_in_one_list : broken (Alone (block 1 do_for []) ∷ []) (ref Strong 1 8 ∷ ref Strong 1 18 ∷ []) ≡ breaks S4 18
unfolding own_blocks
a_buffer_twice_in_one_list = refl
