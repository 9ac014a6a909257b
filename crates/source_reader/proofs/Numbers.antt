-- The headers of a bound source are numbered by the text: those of each procedure are its blocks.
use Rattle.std.proofs.Common.{◌≡◌, ◌<◌, ◌≤◌, ◌+◌, ℕ, zero, suc, Bool, true, false, List, [], ◌∷◌, ◌++◌, Option, Some, None, length, map, refl, sym, ap, ◌∙◌, subst, arith}
use Rattle.std.specs.Prelude.{◌==◌, slice_get}
use Rattle.std.proofs.lemmas.List.{append-nil, append_assoc, length-append, map-append}
use Rattle.abl_base.specs.declared.place.Place.{Place}
use Rattle.abl_values.specs.Schema.{SchemaData, number_of_name, table_named}
use Rattle.bound_tree.specs.declared.block.BlockKind.TheVariants as block_kind
use Rattle.bound_tree.specs.Tree as t
use Rattle.bound_tree.specs.Tree.{Header, Stmt, Body, Procedure, Source, start_of_source}
use Rattle.syntax_tree.specs.Syntax as s
use Rattle.syntax_tree.specs.Syntax.{Expression, Statement, Statements, Program}
use Rattle.syntax_tree.specs.declared.name.Word.{Word}
use Rattle.syntax_tree.specs.declared.word.FindWhich.{FindWhich}
use Rattle.syntax_tree.specs.declared.word.FindWhich.TheVariants as which
use Rattle.bind_names.specs.declared.names.Known.{Known}
use Rattle.bind_names.specs.declared.names.NamedBuffer.{NamedBuffer}
use Rattle.bind_names.specs.declared.names.Naming.{Naming}
use Rattle.bind_names.specs.Names.{Scene, from}
use Rattle.bind_expressions.specs.Parts.{append, scene_after}
use Rattle.bind_statements.specs.Definitions.{buffer_for, define}
use Rattle.bind_statements.specs.Runs.{run_numbered}
use Rattle.bind_statements.specs.Streams.{export_record, input, lone_buffer, named_alone, output, stream}
use Rattle.bind_blocks.specs.Headers.{block_kind_of, inside}
use Rattle.bind_blocks.specs.Records.{find}
use Rattle.binder.specs.Statements.{statement, statements}
use Rattle.binder.specs.Sources.{beginning, inside_procedure, items, judged, outside_again, procedure_with, signatures}
use Rattle.source_reader.specs.TextBlocks.{AreItsBlocks, TextBlock, blocks_among, blocks_in, blocks_within, headers_in, headers_of, headers_within, in_procedure, name_of_block, name_of_header, numbered, procedure_blocks, text_blocks}
use Rattle.source_reader.proofs.BlockLists.{AreIn, all_kept, in_both, in_join, left_out, none_kept, numbered_join, other_number}

-- ---- statements

-- these blocks, preceded by n others, have these headers
abbrev Have : ℕ → List TextBlock → List Header → Type 0
Have n bs hs = map name_of_header hs ≡ map name_of_block (numbered n bs)

have_join : (n : ℕ) (xs ys : List TextBlock) (hs ks : List Header) → Have n xs hs → Have (n + length xs) ys ks → Have n (xs ++ ys) (hs ++ ks)
have_join n xs ys hs ks g h =
    map-append name_of_header hs ks
    ∙ ap (λ l. l ++ map name_of_header ks) g
    ∙ ap (λ l. map name_of_block (numbered n xs) ++ l) h
    ∙ sym (ap (map name_of_block) (numbered_join n xs ys) ∙ map-append name_of_block (numbered n xs) (numbered (n + length xs) ys))

-- the headers of appended statements
headers_appended : (x y : Body) → headers_within (append x y) ≡ headers_within x ++ headers_within y
headers_appended t.Nothing y = refl
headers_appended (t.Then first rest) y = ap (λ l. headers_in first ++ l) (headers_appended rest y) ∙ sym (append_assoc (headers_in first) (headers_within rest) (headers_within y))

-- the blocks of the statements have their headers, and the count grows by the number of blocks
record AreCounted (n : ℕ) (bs : List TextBlock) (body : Body) (after : Known) : Type 0 where
  headers : Have n bs (headers_within body)
  count : after.blocks ≡ n + length bs

-- a statement that is not a block and contains none
plain : (n : ℕ) (body : Body) (after : Known) → headers_within body ≡ [] → after.blocks ≡ n → AreCounted n [] body after
plain n body after none same = record { headers = ap (map name_of_header) none; count = same ∙ (let e : n ≡ n + 0 = omega arith in e) }

define_plain : (w : Scene) (d : s.Definition) → AreCounted w.known.blocks [] (define w d).is.body (define w d).is.after
define_plain w (s.Variable name k os) = plain w.known.blocks _ _ refl refl
define_plain w (s.Parameter direction place name k os) = plain w.known.blocks _ _ refl refl
define_plain w (s.Stream name) = plain w.known.blocks _ _ refl refl
define_plain w (s.Buffer name table) = go (table_named w.context.schema table.spelling)
  where
    go : (o : Option ℕ) → AreCounted w.known.blocks [] (buffer_for w name table o).is.body (buffer_for w name table o).is.after
    go None = plain w.known.blocks _ _ refl refl
    go (Some x) = plain w.known.blocks _ _ refl refl

find_plain : (w : Scene) (word : FindWhich) (x : Word) (os : List s.RecordOption) → AreCounted w.known.blocks [] (find w word x os).is.body (find w word x os).is.after
find_plain w which.Only x os = plain w.known.blocks _ _ refl refl
find_plain w which.First x os = plain w.known.blocks _ _ refl refl
find_plain w which.Last x os = plain w.known.blocks _ _ refl refl
find_plain w which.Next x os = plain w.known.blocks _ _ refl refl
find_plain w which.Previous x os = plain w.known.blocks _ _ refl refl
find_plain w which.Current x os = plain w.known.blocks _ _ refl refl

return_plain : (w : Scene) (place : Place) (error : Bool) (e : Option Expression) → AreCounted w.known.blocks [] (statement w (s.ReturnIt place error e)).is.body (statement w (s.ReturnIt place error e)).is.after
return_plain w place true e = plain w.known.blocks _ _ refl refl
return_plain w place false e = plain w.known.blocks _ _ refl refl

run_plain : (w : Scene) (name : Word) (as_ : List s.Argument) (quiet : Bool) (o : Option ℕ) → AreCounted w.known.blocks [] (run_numbered w name as_ quiet o).is.body (run_numbered w name as_ quiet o).is.after
run_plain w name as_ quiet None = plain w.known.blocks _ _ refl refl
run_plain w name as_ quiet (Some p) = plain w.known.blocks _ _ refl refl

input_plain : (w : Scene) (name file : Option Word) → AreCounted w.known.blocks [] (input w name file).is.body (input w name file).is.after
input_plain w name None = plain w.known.blocks _ _ refl refl
input_plain w name (Some file) = plain w.known.blocks _ _ refl refl

output_plain : (w : Scene) (name file : Option Word) (append_it : Bool) → AreCounted w.known.blocks [] (output w name file append_it).is.body (output w name file append_it).is.after
output_plain w name None append_it = plain w.known.blocks _ _ refl refl
output_plain w name (Some file) append_it = plain w.known.blocks _ _ refl refl

-- EXPORT of a record or of values
export_plain : (w : Scene) (name : Option Word) (es : List Expression) → AreCounted w.known.blocks [] (statement w (s.Export name es)).is.body (statement w (s.Export name es)).is.after
export_plain w name es = plain w.known.blocks _ _ (go (stream w name).is (from (named_alone es) (lone_buffer w))) refl
  where
    go : (n : ℕ) (o : Option NamedBuffer) → headers_within (t.Then (export_record w n es o).is t.Nothing) ≡ []
    go n None = refl
    go n (Some x) = refl

-- the numbers of blocks of two consecutive parts add up
count_then : (n : ℕ) (xs ys : List TextBlock) (k l : Known) → k.blocks ≡ n + length xs → l.blocks ≡ k.blocks + length ys → l.blocks ≡ n + length (xs ++ ys)
count_then n xs ys k l e f = let g = length-append xs ys in omega (arith, e, f, g)

have_then : (n : ℕ) (xs ys : List TextBlock) (k : Known) (hs ks : List Header) → Have n xs hs → k.blocks ≡ n + length xs → Have k.blocks ys ks → Have n (xs ++ ys) (hs ++ ks)
have_then n xs ys k hs ks g e h = have_join n xs ys hs ks g (subst (λ m. Have m ys ks) e h)

mutual
  counted : (p : ℕ) (w : Scene) (x : Statement) → AreCounted w.known.blocks (blocks_in p x) (statement w x).is.body (statement w x).is.after
  counted p w (s.Block h body) =
      let it = all_counted p (inside h w) body in
      let e = it.count in
      record {
        headers = ap (λ l. record { number = w.known.blocks; place = h.at; kind = block_kind_of h.opening } ∷ l)
            (ap (map name_of_header) (append-nil (headers_within (statements (inside h w) body).is.body)) ∙ it.headers);
        count = omega (arith, e);
      }
  counted p w (s.Choose test then_it else_it) =
      let after = (statement w then_it).is.after in
      let x = counted p w then_it in
      let y = all_counted p (scene_after w after) else_it in
      let one = (statement w then_it).is.body in
      let other = (statements (scene_after w after) else_it).is.body in
      record {
        headers = ap (map name_of_header) (append-nil (headers_within one ++ headers_within other))
            ∙ have_then w.known.blocks (blocks_in p then_it) (blocks_within p else_it) after (headers_within one) (headers_within other) x.headers x.count y.headers;
        count = count_then w.known.blocks (blocks_in p then_it) (blocks_within p else_it) after (statements (scene_after w after) else_it).is.after x.count y.count;
      }
  counted p w (s.Define d) = define_plain w d
  counted p w (s.Assign ps quiet) = plain w.known.blocks _ _ refl refl
  counted p w (s.Find word x os) = find_plain w word x os
  counted p w (s.Create x quiet) = plain w.known.blocks _ _ refl refl
  counted p w (s.Delete x quiet) = plain w.known.blocks _ _ refl refl
  counted p w (s.Release x quiet) = plain w.known.blocks _ _ refl refl
  counted p w (s.Undo place label act) = plain w.known.blocks _ _ refl refl
  counted p w (s.LeaveBlock place label) = plain w.known.blocks _ _ refl refl
  counted p w (s.NextBlock place label) = plain w.known.blocks _ _ refl refl
  counted p w (s.ReturnIt place error e) = return_plain w place error e
  counted p w s.Stop = plain w.known.blocks _ _ refl refl
  counted p w (s.Run name as_ quiet) = run_plain w name as_ quiet (number_of_name 0 (map (λ p. p.name) w.context.procedures) name.spelling)
  counted p w (s.Import name targets quiet) = plain w.known.blocks _ _ refl refl
  counted p w (s.Export name es) = export_plain w name es
  counted p w (s.Put name is_plain xs) = plain w.known.blocks _ _ refl refl
  counted p w (s.Message es) = plain w.known.blocks _ _ refl refl
  counted p w (s.InputFrom name file) = input_plain w name file
  counted p w (s.OutputTo name file append_it) = output_plain w name file append_it

  all_counted : (p : ℕ) (w : Scene) (xs : Statements) → AreCounted w.known.blocks (blocks_within p xs) (statements w xs).is.body (statements w xs).is.after
  all_counted p w s.Nothing = plain w.known.blocks _ _ refl refl
  all_counted p w (s.Then x xs) =
      let after = (statement w x).is.after in
      let first = counted p w x in
      let more = all_counted p (scene_after w after) xs in
      let one = (statement w x).is.body in
      let other = (statements (scene_after w after) xs).is.body in
      record {
        headers = ap (map name_of_header) (headers_appended one other)
            ∙ have_then w.known.blocks (blocks_in p x) (blocks_within p xs) after (headers_within one) (headers_within other) first.headers first.count more.headers;
        count = count_then w.known.blocks (blocks_in p x) (blocks_within p xs) after (statements (scene_after w after) xs).is.after first.count more.count;
      }

-- ---- procedures

mutual
  pub are_in : (p : ℕ) (x : Statement) → AreIn p (blocks_in p x)
  are_in p (s.Block h body) = (refl, all_are_in p body)
  are_in p (s.Choose test then_it else_it) = in_join p (blocks_in p then_it) (blocks_within p else_it) (are_in p then_it) (all_are_in p else_it)
  are_in p other = tt

  pub all_are_in : (p : ℕ) (xs : Statements) → AreIn p (blocks_within p xs)
  all_are_in p s.Nothing = tt
  all_are_in p (s.Then x xs) = in_join p (blocks_in p x) (blocks_within p xs) (are_in p x) (all_are_in p xs)

-- among these blocks, preceded by n others, those of procedure p have these headers
abbrev Own : ℕ → ℕ → List TextBlock → List Header → Type 0
Own p n bs hs = map name_of_header hs ≡ map name_of_block (in_procedure p (numbered n bs))

-- the blocks are all in the procedure, or none of them is
own_all : (p n : ℕ) (bs : List TextBlock) (hs : List Header) → AreIn p bs → Have n bs hs → Own p n bs hs
own_all p n bs hs are h = h ∙ sym (ap (map name_of_block) (all_kept p n bs are))

own_none : (p q n : ℕ) (bs : List TextBlock) → AreIn p bs → (p ≡ q → ⊥) → Own q n bs []
own_none p q n bs are other = sym (ap (map name_of_block) (none_kept p q n bs are other))

own_join : (p n : ℕ) (xs ys : List TextBlock) (hs ks : List Header) → Own p n xs hs → Own p (n + length xs) ys ks → Own p n (xs ++ ys) (hs ++ ks)
own_join p n xs ys hs ks g h =
    map-append name_of_header hs ks
    ∙ ap (λ l. l ++ map name_of_header ks) g
    ∙ ap (λ l. map name_of_block (in_procedure p (numbered n xs)) ++ l) h
    ∙ sym (ap (map name_of_block) (in_both p n xs ys) ∙ map-append name_of_block (in_procedure p (numbered n xs)) (in_procedure p (numbered (n + length xs) ys)))

-- two consecutive parts, where m blocks begin before the second
own_then : (p n m : ℕ) (xs ys : List TextBlock) (hs ks : List Header) → Own p n xs hs → m ≡ n + length xs → Own p m ys ks → Own p n (xs ++ ys) (hs ++ ks)
own_then p n m xs ys hs ks g e h = own_join p n xs ys hs ks g (subst (λ k. Own p k ys ks) e h)

own_first : (p n : ℕ) (xs ys : List TextBlock) (hs : List Header) → Own p n xs hs → Own p (n + length xs) ys [] → Own p n (xs ++ ys) hs
own_first p n xs ys hs g h = subst (λ l. Own p n (xs ++ ys) l) (append-nil hs) (own_join p n xs ys hs [] g h)

-- items whose internal procedures are numbered from m on contain no block of an earlier internal procedure
own_earlier : (q n m : ℕ) (program : Program) → 1 ≤ q → q < m → Own q n (blocks_among m program) []
own_earlier q n m [] a b = refl
own_earlier q n m (s.Alone x ∷ rest) a b =
    own_join q n (blocks_in 0 x) (blocks_among m rest) [] [] (own_none 0 q n (blocks_in 0 x) (are_in 0 x) (λ e. omega (arith, a, e))) (own_earlier q (n + length (blocks_in 0 x)) m rest a b)
own_earlier q n m (s.Procedure keyword name body ∷ rest) a b =
    own_join q n (procedure_blocks m keyword body) (blocks_among (m + 1) rest) [] []
    (own_none m q n (procedure_blocks m keyword body) (refl, all_are_in m body) (λ e. omega (arith, b, e)))
    (own_earlier q (n + length (procedure_blocks m keyword body)) (m + 1) rest a (omega (arith, b)))

-- an internal procedure increases the number of blocks by the number of its own
after_procedure : (w : Scene) (p m : ℕ) (keyword : Place) (body : Statements) → (statements (inside_procedure p w) body).is.after.blocks ≡ w.known.blocks + length (procedure_blocks m keyword body)
after_procedure w p m keyword body =
    let it = all_counted m (inside_procedure p w) body in
    let e = it.count in
    omega (arith, e)

-- the blocks of the external procedure
outer_items : (w : Scene) (names : List Word) (program : Program) (m : ℕ) → 1 ≤ m → Own 0 w.known.blocks (blocks_among m program) (headers_within (items w names program).is.body)
outer_items w names [] m a = refl
outer_items w names (s.Alone x ∷ rest) m a =
    let it = counted 0 w x in
    let k = (statement w x).is.after in
    let one = (statement w x).is.body in
    let more = (items (scene_after w k) names rest).is.body in
    ap (map name_of_header) (headers_appended one more)
    ∙ own_then 0 w.known.blocks k.blocks (blocks_in 0 x) (blocks_among m rest) (headers_within one) (headers_within more)
    (own_all 0 w.known.blocks (blocks_in 0 x) (headers_within one) (are_in 0 x) it.headers) it.count (outer_items (scene_after w k) names rest m a)
outer_items w names (s.Procedure keyword name body ∷ rest) m a =
    let v = inside_procedure (length names + 1) w in
    let k = (statements v body).is.after in
    let u = scene_after w (outside_again w.known.own k) in
    own_then 0 w.known.blocks k.blocks (procedure_blocks m keyword body) (blocks_among (m + 1) rest) [] (headers_within (items u (name ∷ names) rest).is.body)
    (own_none m 0 w.known.blocks (procedure_blocks m keyword body) (refl, all_are_in m body) (λ e. omega (arith, a, e)))
    (after_procedure w (length names + 1) m keyword body)
    (outer_items u (name ∷ names) rest (m + 1) (omega (arith, a)))

-- the blocks of the internal procedure at place i, where the first internal procedure has number m
inner_items : (w : Scene) (names : List Word) (program : Program) (m : ℕ) → 1 ≤ m → (i : ℕ) (q : Procedure) → slice_get (items w names program).is.procedures i ≡ Some q → Own (m + i) w.known.blocks (blocks_among m program) (headers_of q)
inner_items w names [] m a i q e = absurd cc
inner_items w names (s.Alone x ∷ rest) m a i q e =
    let it = counted 0 w x in
    let k = (statement w x).is.after in
    own_then (m + i) w.known.blocks k.blocks (blocks_in 0 x) (blocks_among m rest) [] (headers_of q)
    (own_none 0 (m + i) w.known.blocks (blocks_in 0 x) (are_in 0 x) (λ e. omega (arith, a, e))) it.count
    (inner_items (scene_after w k) names rest m a i q e)
inner_items w names (s.Procedure keyword name body ∷ rest) m a zero q e =
    let v = inside_procedure (length names + 1) w in
    let x = statements v body in
    let it : procedure_with v keyword name.spelling x.is.after.own x.is.body ≡ q = cc in
    let same : m ≡ m + 0 = omega arith in
    subst (λ p. Own p w.known.blocks (procedure_blocks m keyword body ++ blocks_among (m + 1) rest) (headers_of q)) same
    (subst (λ (q : Procedure). Own m w.known.blocks (procedure_blocks m keyword body ++ blocks_among (m + 1) rest) (headers_of q)) it
    (own_first m w.known.blocks (procedure_blocks m keyword body) (blocks_among (m + 1) rest) (headers_of (procedure_with v keyword name.spelling x.is.after.own x.is.body))
    (own_all m w.known.blocks (procedure_blocks m keyword body) (headers_of (procedure_with v keyword name.spelling x.is.after.own x.is.body)) (refl, all_are_in m body)
    (ap (λ l. record { number = w.known.blocks; place = keyword; kind = block_kind.Procedure } ∷ l) (all_counted m v body).headers))
    (own_earlier m (w.known.blocks + length (procedure_blocks m keyword body)) (m + 1) rest a (omega arith))))
inner_items w names (s.Procedure keyword name body ∷ rest) m a (suc i) q e =
    let v = inside_procedure (length names + 1) w in
    let k = (statements v body).is.after in
    let u = scene_after w (outside_again w.known.own k) in
    let same : (m + 1) + i ≡ m + suc i = omega arith in
    own_then (m + suc i) w.known.blocks k.blocks (procedure_blocks m keyword body) (blocks_among (m + 1) rest) [] (headers_of q)
    (own_none m (m + suc i) w.known.blocks (procedure_blocks m keyword body) (refl, all_are_in m body) (λ e. omega (arith, e)))
    (after_procedure w (length names + 1) m keyword body)
    (subst (λ p. Own p k.blocks (blocks_among (m + 1) rest) (headers_of q)) same (inner_items u (name ∷ names) rest (m + 1) (omega (arith, a)) i q e))

-- THE HEADERS OF EACH PROCEDURE OF A JUDGED SOURCE ARE ITS BLOCKS
pub judged_blocks : (schema : SchemaData) (program : Program) (said : List Naming) (i : ℕ) (q : Procedure) → slice_get (judged schema program said).is.procedures i ≡ Some q → AreItsBlocks program i q
judged_blocks schema program said zero q e =
    let w = beginning (record { schema = schema; namings = said; procedures = signatures program }) in
    let x = (items w [] program).is in
    let it : procedure_with w start_of_source [] x.after.own x.body ≡ q = cc in
    subst (AreItsBlocks program zero) it
    (ap (λ l. record { number = 0; place = start_of_source; kind = block_kind.Procedure } ∷ l) (outer_items w [] program 1 (omega arith)))
judged_blocks schema program said (suc i) q e =
    let w = beginning (record { schema = schema; namings = said; procedures = signatures program }) in
    let same : 1 + i ≡ suc i = omega arith in
    subst (λ p. Own p 1 (blocks_among 1 program) (headers_of q)) same (inner_items w [] program 1 (omega arith) i q e)
    ∙ sym (ap (map name_of_block) (not_the_first i program))
  where
    not_the_first : (i : ℕ) (program : Program) → in_procedure (suc i) (numbered 0 (text_blocks program)) ≡ in_procedure (suc i) (numbered 1 (blocks_among 1 program))
    not_the_first i program = left_out (0 == suc i) _ _ _ (other_number 0 (suc i) (λ e. omega (arith, e))) refl
