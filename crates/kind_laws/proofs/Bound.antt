-- A source that breaks no rule Y and no rule U is bound to a tree that names only blocks that are around.
use Rattle.std.proofs.Common.{◌≡◌, ℕ, Bool, true, false, List, [], ◌∷◌, ◌++◌, Option, Some, None, Ok, length, map, refl, ap, ap₂, subst, ◌∙◌}
use Rattle.std.specs.Prelude.{◌&&◌, ◌||◌, ◌+◌, not, if◌then◌else◌, IfSome}
use Rattle.std.specs.List.{list_all, list_any}
use Rattle.std.proofs.Math.Numerals.{add-one}
use Rattle.abl_base.specs.declared.place.Place.{Place}
use Rattle.abl_base.specs.declared.rule.Rule.{Rule}
use Rattle.abl_base.specs.declared.rule.Rule.TheVariants as rule
use Rattle.abl_values.specs.Schema.{SchemaData, number_of_name, table_named}
use Rattle.syntax_tree.specs.declared.name.Word.{Word}
use Rattle.syntax_tree.specs.declared.word.BlockWord.TheVariants as word
use Rattle.syntax_tree.specs.Syntax as s
use Rattle.syntax_tree.specs.Syntax.{Head, Opening, Phrase, Program, Statement, Statements}
use Rattle.bound_tree.specs.declared.expression.Variable.{Variable}
use Rattle.bound_tree.specs.declared.statement.FindWord.{FindWord}
use Rattle.bound_tree.specs.Tree as b
use Rattle.bound_tree.specs.Tree.{Body, Nothing, Procedure, Source, Then, start_of_source}
use Rattle.bind_names.specs.declared.names.Around.{Around}
use Rattle.bind_names.specs.declared.names.Defined.{Defined}
use Rattle.bind_names.specs.declared.names.NamedBuffer.{NamedBuffer}
use Rattle.bind_names.specs.declared.violation.Violation.{Violation}
use Rattle.bind_names.specs.Judged.{at, earlier, first, first_of, unless}
use Rattle.bind_names.specs.Names.{Scene, buffer, from}
use Rattle.bind_names.specs.declared.names.NamingKind.TheVariants as naming_kind
use Rattle.bind_expressions.specs.Parts.{Done, append, scene_after}
use Rattle.bind_statements.specs.Definitions.{buffer_for, define}
use Rattle.bind_statements.specs.Runs.{run_numbered}
use Rattle.bind_statements.specs.Streams.{export_record, input, lone_buffer, named_alone, output, stream}
use Rattle.bind_blocks.specs.Flow.{action}
use Rattle.bind_blocks.specs.Headers.{Phrases, can_be_undone, head, inside, is_for, is_repeat, on_phrase, phrases}
use Rattle.bind_blocks.specs.Headers as headers
use Rattle.bind_blocks.specs.Named.{block_named, first_block, is_labelled, is_number, iterating, undoing}
use Rattle.bind_blocks.specs.Records.{Asked, find_word_of, found, looked_for}
use Rattle.binder.specs.Statements.{statement, statements}
use Rattle.binder.specs.Sources.{Parts, beginning, bound, inside_procedure, items, judged, namings, or_first, outside_again, procedure_with, signatures, violations}
use Rattle.block_rules.specs.Blocks as rules
use Rattle.block_rules.specs.Blocks.{first_iterates, from_label, from_undo, is_called, is_inner}
use Rattle.block_rules.specs.Rules.{action_breaks, head_breaks, inside_breaks, item_breaks, label_breaks, leave_breaks, maybe_action_breaks, next_breaks, opening_breaks, phrase_breaks, phrases_break, program_breaks, statement_breaks, statements_break, target_breaks, undo_breaks, undone_by}
use Rattle.block_rules.specs.Rules as broken
use Rattle.block_rules.specs.Options.{of_phrase, repeats}
use Rattle.buffer_scope.specs.Blocks.{Placed, blocks_of}
use Rattle.buffer_scope.specs.Scoped.{scoped_body, scoped_procedure, scoped_to, with_scopes}
use Rattle.txn_infer.specs.Flags.{flagged_procedure, with_flags}
use Rattle.block_meaning.specs.Frames.{is_in}
use Rattle.kind_laws.proofs.BoundKindsLemmas.Parts.{both, both_left, both_right, holds, nil_left, nil_right}
use Rattle.kind_laws.specs.Placed.{is_internal, is_own, is_placed, is_placed_body, is_placed_header, is_placed_phrase, is_placed_procedure, is_placed_statement, names_one_of, outward, undoes_one_of}
use Rattle.kind_laws.proofs.Around.{Agree, AreDistinct, first_in, from_test, label_agrees, label_around, label_is_test, Match, named_in, no_match, number_outward, numbers, rest_outward, undo_agrees, undo_is_test}
use Rattle.kind_laws.proofs.Inferred.{flags_place_in, scopes_place_in}
use Rattle.kind_laws.proofs.Parts.{not_holds}

-- ---- the undo property

while_same : (p : Phrase) → headers.is_while p ≡ rules.is_while p
while_same (s.While place e) = refl
while_same p = refl

phrases_same : (ps : List Phrase) → list_any (λ p. not (headers.is_while p)) ps ≡ list_any (λ p. not (rules.is_while p)) ps
phrases_same [] = refl
phrases_same (p ∷ ps) = ap₂ (λ c d. not c || d) (while_same p) (phrases_same ps)

opening_same : (o : Opening) (c : Bool) → (is_for o || (is_repeat o || c)) ≡ (not (rules.is_do o) || c)
opening_same (s.Plainly word.Do buffers) c = refl
opening_same (s.Plainly word.Repeat buffers) c = refl
opening_same (s.ForRecords fetch x os) c = refl

undo_same : (h : Head) → can_be_undone h ≡ rules.has_undo h
undo_same h = ap (λ c. is_for h.opening || (is_repeat h.opening || c)) (phrases_same h.phrases) ∙ opening_same h.opening _

-- ---- an action

-- what it names, without the value of RETURN
abbrev names_act : List ℕ → List Around → ℕ → Option s.Action → Bool
names_act outer around block None = true
names_act outer around block (Some (s.RetryIt place label)) = true
names_act outer around block (Some (s.Leave place label)) = is_in (block_named (is_number block) around label) outer
names_act outer around block (Some (s.Next place label)) = is_in (block_named (is_number block) around label) outer
names_act outer around block (Some (s.Return place error e)) = true

same_names : (outer : List ℕ) (w : Scene) (block : ℕ) (act : Option s.Action) → names_one_of outer (action w block act).is ≡ names_act outer w.around block act
same_names outer w block None = refl
same_names outer w block (Some (s.RetryIt place label)) = refl
same_names outer w block (Some (s.Leave place label)) = refl
same_names outer w block (Some (s.Next place label)) = refl
same_names outer w block (Some (s.Return place error e)) = refl

if_inner : (c : Bool) (vs : List Violation) (r : Rule) (place : Place) → (if c then vs else at r place) ≡ [] → c ≡ true
if_inner true vs r place e = refl
if_inner false vs r place e = absurd cc

then_inside : (c d : Bool) (r : Rule) (place : Place) → c ≡ true → (if c then unless d r place else []) ≡ [] → d ≡ true
then_inside true d r place e h = holds d r place h
then_inside false d r place e h = absurd cc

-- a label that breaks no rule, after a block was undone
label_placed : (p : Head → Bool) (q : Around → Bool) → Agree p q → (x : Around) (xs : List Around) (hs : List Head) → Match hs (x ∷ xs) → AreDistinct hs → (l : Word) → is_inner (from_label l hs) ≡ true → inside_breaks hs (from_test p hs) l ≡ [] →
    is_in (first_block (is_labelled l.spelling) (x ∷ xs)) (outward (first_block q (x ∷ xs)) (numbers (x ∷ xs))) ≡ true
label_placed p q agree x xs hs m d l inner h =
    rest_outward q (x ∷ xs) (first_block (is_labelled l.spelling) (x ∷ xs)) (label_around p q agree l hs x xs m d (then_inside (is_inner (from_label l hs)) (is_inner (from_label l (from_test p hs))) rule.U5 l.at inner h))

act_placed : (p : Head → Bool) (q : Around → Bool) → Agree p q → (x : Around) (xs : List Around) (hs : List Head) → Match hs (x ∷ xs) → AreDistinct hs → (act : Option s.Action) → maybe_action_breaks hs (from_test p hs) act ≡ [] →
    names_act (outward (first_block q (x ∷ xs)) (numbers (x ∷ xs))) (x ∷ xs) (first_block q (x ∷ xs)) act ≡ true
act_placed p q agree x xs hs m d None h = refl
act_placed p q agree x xs hs m d (Some (s.RetryIt place label)) h = refl
act_placed p q agree x xs hs m d (Some (s.Leave place None)) h = number_outward (first_block q (x ∷ xs)) x xs (first_in q x xs)
act_placed p q agree x xs hs m d (Some (s.Leave place (Some l))) h =
    label_placed p q agree x xs hs m d l (holds (is_inner (from_label l hs)) rule.U1 l.at (nil_left (leave_breaks hs l) _ h)) (nil_right (leave_breaks hs l) _ h)
act_placed p q agree x xs hs m d (Some (s.Next place None)) h = number_outward (first_block q (x ∷ xs)) x xs (first_in q x xs)
act_placed p q agree x xs hs m d (Some (s.Next place (Some l))) h =
    label_placed p q agree x xs hs m d l (if_inner (is_inner (from_label l hs)) _ rule.U1 l.at (nil_left (next_breaks hs l) _ h)) (nil_right (next_breaks hs l) _ h)
act_placed p q agree x xs hs m d (Some (s.Return place error e)) h = refl

-- ---- UNDO

abbrev IsUndo : List Around → Option Word → Option s.Action → Type 0
IsUndo around label act = (is_in (block_named undoing around label) (numbers around) && names_act (outward (block_named undoing around label) (numbers around)) around (block_named undoing around label) act) ≡ true

undo_at : (x : Around) (xs : List Around) (hs : List Head) → Match hs (x ∷ xs) → AreDistinct hs → (label : Option Word) (act : Option s.Action) → undo_breaks hs label act ≡ [] → IsUndo (x ∷ xs) label act
undo_at x xs hs m d None act h =
    both (is_in (first_block undoing (x ∷ xs)) (numbers (x ∷ xs))) _ (first_in undoing x xs)
    (act_placed rules.has_undo undoing undo_agrees x xs hs m d act (subst (λ (u : List Head). maybe_action_breaks hs u act ≡ []) (undo_is_test hs) (nil_right (target_breaks hs None) _ h)))
undo_at x xs hs m d (Some l) act h =
    both (is_in (first_block (is_labelled l.spelling) (x ∷ xs)) (numbers (x ∷ xs))) _ (first_in (is_labelled l.spelling) x xs)
    (act_placed (λ k. is_called k.label l) (is_labelled l.spelling) (label_agrees l) x xs hs m d act
    (subst (λ (u : List Head). maybe_action_breaks hs u act ≡ []) (label_is_test l hs) (nil_right (target_breaks hs (Some l)) _ h)))

-- some block is around each place
some_around : (P : List Around → Type 0) (hs : List Head) (xs : List Around) → Match hs xs → ((y : Around) (ys : List Around) → Match hs (y ∷ ys) → P (y ∷ ys)) → P xs
some_around P hs [] m f = absurd (no_match hs m)
some_around P hs (x ∷ xs) m f = f x xs m

undo_placed : (w : Scene) (hs : List Head) → Match hs w.around → AreDistinct hs → (label : Option Word) (act : Option s.Action) → undo_breaks hs label act ≡ [] →
    undoes_one_of (numbers w.around) (block_named undoing w.around label) (action w (block_named undoing w.around label) act).is ≡ true
undo_placed w hs m d label act h =
    ap (λ c. is_in (block_named undoing w.around label) (numbers w.around) && c) (same_names (outward (block_named undoing w.around label) (numbers w.around)) w (block_named undoing w.around label) act)
    ∙ some_around (λ around. IsUndo around label act) hs w.around m (λ y ys m. undo_at y ys hs m d label act h)

named_placed : (test : Around → Bool) (hs : List Head) (xs : List Around) (label : Option Word) → Match hs xs → is_in (block_named test xs label) (numbers xs) ≡ true
named_placed test hs xs label m = some_around (λ around. is_in (block_named test around label) (numbers around) ≡ true) hs xs m (λ y ys m. named_in test y ys label)

first_placed : (test : Around → Bool) (hs : List Head) (xs : List Around) → Match hs xs → is_in (first_block test xs) (numbers xs) ≡ true
first_placed test hs xs m = some_around (λ around. is_in (first_block test around) (numbers around) ≡ true) hs xs m (λ y ys m. first_in test y ys)

-- ---- heads of blocks

pub record ArePhrases (around : List ℕ) (p : Phrases) : Type 0 where
  pub error : is_placed_phrase around p.on_error ≡ true
  pub endkey : is_placed_phrase around p.on_endkey ≡ true

phrases_placed : (w : Scene) (hs : List Head) → Match hs w.around → AreDistinct hs → (ps : List Phrase) → phrases_break hs ps ≡ [] → ArePhrases (numbers w.around) (phrases w ps).is
phrases_placed w hs m d [] h = record { error = refl; endkey = refl }
phrases_placed w hs m d (s.While place e ∷ ps) h = let rest = phrases_placed w hs m d ps h in record { error = rest.error; endkey = rest.endkey }
phrases_placed w hs m d (s.Transaction place ∷ ps) h = phrases_placed w hs m d ps h
phrases_placed w hs m d (s.OnError place label act ∷ ps) h =
    let rest = phrases_placed w hs m d ps (nil_right (undo_breaks hs label act) _ h) in
    record { error = undo_placed w hs m d label act (nil_left (undo_breaks hs label act) _ h); endkey = rest.endkey }
phrases_placed w hs m d (s.OnEndkey place label act ∷ ps) h =
    let rest = phrases_placed w hs m d ps (nil_right (undo_breaks hs label act) _ h) in
    record { error = rest.error; endkey = undo_placed w hs m d label act (nil_left (undo_breaks hs label act) _ h) }

-- inside a block
match_inside : (w : Scene) (h : Head) (hs : List Head) → Match hs w.around → Match (h ∷ hs) (inside h w).around
match_inside w h hs m = (record { label = refl; undoes = undo_same h }, m)

distinct_label : (hs : List Head) (label : Option Word) → label_breaks hs label ≡ [] → IfSome label (λ l. is_inner (from_label l hs) ≡ false)
distinct_label hs None e = tt
distinct_label hs (Some l) e = not_holds (is_inner (from_label l hs)) (holds (not (is_inner (from_label l hs))) rule.U2 l.at e)

distinct_inside : (h : Head) (hs : List Head) → AreDistinct hs → head_breaks hs h ≡ [] → AreDistinct (h ∷ hs)
distinct_inside h hs d e = (distinct_label hs h.label (nil_left (label_breaks hs h.label) _ e), d)

header_placed : (w : Scene) (h : Head) (hs : List Head) → Match hs w.around → AreDistinct hs → head_breaks hs h ≡ [] → is_placed_header (numbers w.around) (head (inside h w) h).is ≡ true
header_placed w h hs m d e =
    let broken_phrases = nil_right (repeats (map of_phrase h.phrases)) _ (nil_right (opening_breaks h.opening) _ (nil_right (label_breaks hs h.label) _ e)) in
    let is = phrases_placed (inside h w) (h ∷ hs) (match_inside w h hs m) (distinct_inside h hs d e) h.phrases broken_phrases in
    both (is_placed_phrase (numbers (inside h w).around) (phrases (inside h w) h.phrases).is.on_error) _ is.error is.endkey

-- ---- statements

-- the statements name blocks that are around, and the parameters that are known are the procedure's own
pub record IsPlacedDone (around : List ℕ) (d : Done) : Type 0 where
  pub body : is_placed_body around d.body ≡ true
  pub parameters : list_all is_own d.after.own.parameters ≡ true

abbrev AreOwn : Scene → Type 0
AreOwn w = list_all is_own w.known.own.parameters ≡ true

own_join : (xs ys : List Variable) → list_all is_own xs ≡ true → list_all is_own ys ≡ true → list_all is_own (xs ++ ys) ≡ true
own_join [] ys g h = h
own_join (x ∷ xs) ys g h = both (is_own x) _ (both_left (is_own x) _ g) (own_join xs ys (both_right (is_own x) _ g) h)

own_if : (c : Bool) (xs : List Variable) (x : Variable) → list_all is_own xs ≡ true → is_own x ≡ true → list_all is_own (if c then xs ++ x ∷ [] else xs) ≡ true
own_if true xs x h o = own_join xs (x ∷ []) h (both (is_own x) _ o refl)
own_if false xs x h o = h

one_statement : (around : List ℕ) (t : b.Stmt) → is_placed_statement around t ≡ true → is_placed_body around (Then t Nothing) ≡ true
one_statement around t h = both (is_placed_statement around t) _ h refl

buffer_placed : (w : Scene) (name table : Word) (t : Option ℕ) → AreOwn w → IsPlacedDone (numbers w.around) (buffer_for w name table t).is
buffer_placed w name table None o = record { body = refl; parameters = o }
buffer_placed w name table (Some t) o = record { body = refl; parameters = o }

define_placed : (w : Scene) (x : s.Definition) → AreOwn w → IsPlacedDone (numbers w.around) (define w x).is
define_placed w (s.Variable name k os) o = record { body = refl; parameters = o }
define_placed w (s.Parameter direction place name k os) o = record { body = refl; parameters = own_join w.known.own.parameters (_ ∷ []) o refl }
define_placed w (s.Buffer name table) o = buffer_placed w name table (table_named w.context.schema table.spelling) o
define_placed w (s.Stream name) o = record { body = refl; parameters = o }

run_placed : (w : Scene) (name : Word) (as_ : List s.Argument) (quiet : Bool) (n : Option ℕ) → AreOwn w → IsPlacedDone (numbers w.around) (run_numbered w name as_ quiet n).is
run_placed w name as_ quiet None o = record { body = refl; parameters = o }
run_placed w name as_ quiet (Some p) o = record { body = both (is_internal (p + 1)) _ (ap is_internal (add-one p)) refl; parameters = o }

input_placed : (w : Scene) (name file : Option Word) → AreOwn w → IsPlacedDone (numbers w.around) (input w name file).is
input_placed w name None o = record { body = refl; parameters = o }
input_placed w name (Some file) o = record { body = refl; parameters = o }

output_placed : (w : Scene) (name file : Option Word) (append_it : Bool) → AreOwn w → IsPlacedDone (numbers w.around) (output w name file append_it).is
output_placed w name None append_it o = record { body = refl; parameters = o }
output_placed w name (Some file) append_it o = record { body = refl; parameters = o }

found_placed : (around : List ℕ) (word_of : Option FindWord) (r : b.Reading) (a : Asked) → is_placed_statement around (found word_of r a) ≡ true
found_placed around None r a = refl
found_placed around (Some word) r a = refl

exported_placed : (around : List ℕ) (w : Scene) (n : ℕ) (es : List s.Expression) (alone : Option NamedBuffer) → is_placed_statement around (export_record w n es alone).is ≡ true
exported_placed around w n es None = refl
exported_placed around w n es (Some x) = refl

appended : (around : List ℕ) (a more : Body) → is_placed_body around a ≡ true → is_placed_body around more ≡ true → is_placed_body around (append a more) ≡ true
appended around Nothing more h k = k
appended around (Then t ts) more h k = both (is_placed_statement around t) _ (both_left (is_placed_statement around t) _ h) (appended around ts more (both_right (is_placed_statement around t) _ h) k)

and_true : (c : Bool) → c ≡ true → (c && true) ≡ true
and_true true e = refl
and_true false e = absurd cc

mutual
  statement_placed : (w : Scene) (hs : List Head) (t : Statement) → Match hs w.around → AreDistinct hs → AreOwn w → statement_breaks hs t ≡ [] → IsPlacedDone (numbers w.around) (statement w t).is
  statement_placed w hs (s.Block h body) m d o e =
      let heads = nil_left (head_breaks hs h) _ e in
      let x = statements_placed (inside h w) (h ∷ hs) body (match_inside w h hs m) (distinct_inside h hs d heads) o (nil_right (head_breaks hs h) _ e) in
      record { body = and_true (is_placed_header (numbers w.around) (head (inside h w) h).is && is_placed_body (numbers (inside h w).around) (statements (inside h w) body).is.body) (both (is_placed_header (numbers w.around) (head (inside h w) h).is) (is_placed_body (numbers (inside h w).around) (statements (inside h w) body).is.body) (header_placed w h hs m d heads) x.body); parameters = x.parameters }
  statement_placed w hs (s.Choose test then_it else_it) m d o e =
      let x = statement_placed w hs then_it m d o (nil_left (statement_breaks hs then_it) _ e) in
      let y = statements_placed (scene_after w (statement w then_it).is.after) hs else_it m d x.parameters (nil_right (statement_breaks hs then_it) _ e) in
      record { body = and_true (is_placed_body (numbers w.around) (statement w then_it).is.body && is_placed_body (numbers w.around) (statements (scene_after w (statement w then_it).is.after) else_it).is.body) (both (is_placed_body (numbers w.around) (statement w then_it).is.body) (is_placed_body (numbers w.around) (statements (scene_after w (statement w then_it).is.after) else_it).is.body) x.body y.body); parameters = y.parameters }
  statement_placed w hs (s.Define x) m d o e = define_placed w x o
  statement_placed w hs (s.Assign ps quiet) m d o e = record { body = refl; parameters = o }
  statement_placed w hs (s.Find which x os) m d o e =
      let r = (looked_for w (buffer w naming_kind.Free true x) os).is in
      record { body = and_true (is_placed_statement (numbers w.around) (found (find_word_of which) r.0 r.1)) (found_placed (numbers w.around) (find_word_of which) r.0 r.1); parameters = o }
  statement_placed w hs (s.Create x quiet) m d o e = record { body = refl; parameters = o }
  statement_placed w hs (s.Delete x quiet) m d o e = record { body = refl; parameters = o }
  statement_placed w hs (s.Release x quiet) m d o e = record { body = refl; parameters = o }
  statement_placed w hs (s.Undo place label act) m d o e = record { body = and_true (undoes_one_of (numbers w.around) (block_named undoing w.around label) (action w (block_named undoing w.around label) act).is) (undo_placed w hs m d label act e); parameters = o }
  statement_placed w hs (s.LeaveBlock place label) m d o e = record { body = and_true (is_in (block_named iterating w.around label) (numbers w.around)) (named_placed iterating hs w.around label m); parameters = o }
  statement_placed w hs (s.NextBlock place label) m d o e = record { body = and_true (is_in (block_named iterating w.around label) (numbers w.around)) (named_placed iterating hs w.around label m); parameters = o }
  statement_placed w hs (s.ReturnIt place false e) m d o x = record { body = refl; parameters = o }
  statement_placed w hs (s.ReturnIt place true e) m d o x = record { body = and_true (is_in (first_block undoing w.around) (numbers w.around)) (first_placed undoing hs w.around m); parameters = o }
  statement_placed w hs s.Stop m d o e = record { body = refl; parameters = o }
  statement_placed w hs (s.Run name as_ quiet) m d o e = run_placed w name as_ quiet (number_of_name 0 (map (λ p. p.name) w.context.procedures) name.spelling) o
  statement_placed w hs (s.Import name targets quiet) m d o e = record { body = refl; parameters = o }
  statement_placed w hs (s.Export name es) m d o e =
      let alone = from (named_alone es) (lone_buffer w) in
      record { body = and_true (is_placed_statement (numbers w.around) (export_record w (stream w name).is es alone).is) (exported_placed (numbers w.around) w (stream w name).is es alone); parameters = o }
  statement_placed w hs (s.Put name plain put_items) m d o e = record { body = refl; parameters = o }
  statement_placed w hs (s.Message es) m d o e = record { body = refl; parameters = o }
  statement_placed w hs (s.InputFrom name file) m d o e = input_placed w name file o
  statement_placed w hs (s.OutputTo name file append_it) m d o e = output_placed w name file append_it o

  statements_placed : (w : Scene) (hs : List Head) (ts : Statements) → Match hs w.around → AreDistinct hs → AreOwn w → statements_break hs ts ≡ [] → IsPlacedDone (numbers w.around) (statements w ts).is
  statements_placed w hs s.Nothing m d o e = record { body = refl; parameters = o }
  statements_placed w hs (s.Then t ts) m d o e =
      let x = statement_placed w hs t m d o (nil_left (statement_breaks hs t) _ e) in
      let y = statements_placed (scene_after w (statement w t).is.after) hs ts m d x.parameters (nil_right (statement_breaks hs t) _ e) in
      record { body = appended (numbers w.around) (statement w t).is.body (statements (scene_after w (statement w t).is.after) ts).is.body x.body y.body; parameters = y.parameters }

-- ---- the whole source

-- a procedure with the flags of its blocks and the scopes of its buffers
abbrev whole : List Placed → Procedure → Procedure
whole blocks q = flagged_procedure (scoped_procedure blocks q)

procedure_placed : (blocks : List Placed) (w : Scene) (place : Place) (name : List ℕ) (d : Defined) (body : Body) → list_all is_own d.parameters ≡ true → is_placed_body (w.block ∷ []) body ≡ true → is_placed_procedure (whole blocks (procedure_with w place name d body)) ≡ true
procedure_placed blocks w place name d body o h =
    both (list_all is_own d.parameters && true) _ (both (list_all is_own d.parameters) _ o refl)
    (flags_place_in (w.block ∷ []) (scoped_body (scoped_to blocks (procedure_with w place name d body)) body) ∙ (scopes_place_in (scoped_to blocks (procedure_with w place name d body)) (w.block ∷ []) body ∙ h))

pub record ArePlaced (around : List ℕ) (blocks : List Placed) (p : Parts) : Type 0 where
  pub body : is_placed_body around p.body ≡ true
  pub procedures : list_all (λ q. is_placed_procedure (whole blocks q)) p.procedures ≡ true
  pub parameters : list_all is_own p.after.own.parameters ≡ true

items_placed : (blocks : List Placed) (w : Scene) (names : List Word) (program : Program) → Match [] w.around → AreOwn w → program_breaks program ≡ [] → ArePlaced (numbers w.around) blocks (items w names program).is
items_placed blocks w names [] m o e = record { body = refl; procedures = refl; parameters = o }
items_placed blocks w names (s.Alone t ∷ rest) m o e =
    let x = statement_placed w [] t m tt o (nil_left (statement_breaks [] t) _ e) in
    let more = items_placed blocks (scene_after w (statement w t).is.after) names rest m x.parameters (nil_right (statement_breaks [] t) _ e) in
    record { body = appended (numbers w.around) (statement w t).is.body _ x.body more.body; procedures = more.procedures; parameters = more.parameters }
items_placed blocks w names (s.Procedure place name body ∷ rest) m o e =
    let v = inside_procedure (length names + 1) w in
    let x = statements_placed v [] body tt tt refl (nil_left (statements_break [] body) _ e) in
    let more = items_placed blocks (scene_after w (outside_again w.known.own (statements v body).is.after)) (name ∷ names) rest m o (nil_right (statements_break [] body) _ e) in
    record {
      body = more.body;
      procedures = both (is_placed_procedure (whole blocks (procedure_with v place name.spelling (statements v body).is.after.own (statements v body).is.body))) _ (procedure_placed blocks v place name.spelling (statements v body).is.after.own (statements v body).is.body x.parameters x.body) more.procedures;
      parameters = more.parameters;
    }

all_whole : (blocks : List Placed) (qs : List Procedure) → list_all (λ q. is_placed_procedure (whole blocks q)) qs ≡ true → list_all is_placed_procedure (map flagged_procedure (map (scoped_procedure blocks) qs)) ≡ true
all_whole blocks [] h = refl
all_whole blocks (q ∷ qs) h = both (is_placed_procedure (whole blocks q)) _ (both_left (is_placed_procedure (whole blocks q)) _ h) (all_whole blocks qs (both_right (is_placed_procedure (whole blocks q)) _ h))

stays : (v : Violation) (vs : List Violation) → first_of (Some v) vs ≡ None → ⊥
stays v [] e = cc
stays v (u ∷ vs) e = stays (earlier (Some v) u) vs e

no_first : (vs : List Violation) → first vs ≡ None → vs ≡ []
no_first [] e = refl
no_first (v ∷ vs) e = absurd (stays v vs e)

bound_is : (o : Option Violation) (t tree : Source) → or_first o t ≡ Ok tree → t ≡ tree
bound_is None t tree e = cc
bound_is (Some v) t tree e = absurd cc

-- THE TREE OF A SOURCE THAT BREAKS NO RULE names only blocks that are around
pub bound_placed : (schema : SchemaData) (program : Program) (plain : Source) → bound schema program ≡ Ok plain → broken.first_broken program ≡ None → is_placed (with_flags (with_scopes program plain)) ≡ true
bound_placed schema program plain e clean =
    let w = beginning (record { schema = schema; namings = namings schema program; procedures = signatures program }) in
    let x = items_placed (blocks_of program) w [] program tt refl (no_first (program_breaks program) clean) in
    let p = (items w [] program).is in
    subst (λ (t : Source). is_placed (with_flags (with_scopes program t)) ≡ true) (bound_is (first (violations schema program)) (judged schema program (namings schema program)).is plain e)
    (all_whole (blocks_of program) (procedure_with w start_of_source [] p.after.own p.body ∷ p.procedures)
    (both (is_placed_procedure (whole (blocks_of program) (procedure_with w start_of_source [] p.after.own p.body))) _ (procedure_placed (blocks_of program) w start_of_source [] p.after.own p.body x.parameters x.body) x.procedures))
