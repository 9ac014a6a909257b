-- The same relation, over all forms of statements.
use Rattle.std.proofs.Common.{◌≡◌, ℕ, Bool, true, false, List, [], ◌∷◌, ◌++◌, Option, Some, None, map, refl, sym, ap, subst, ◌∙◌}
use Rattle.std.specs.Prelude.{if◌then◌else◌, slice_index_or, unwrap_or}
use Rattle.std.specs.Option.{is_some}
use Rattle.abl_base.specs.declared.place.Place.{Place}
use Rattle.abl_base.specs.declared.rule.Rule.TheVariants as rule
use Rattle.abl_base.specs.declared.value.Kind.{Kind}
use Rattle.abl_values.specs.Schema.{number_of_name, table_named}
use Rattle.bound_tree.specs.Tree as b
use Rattle.syntax_tree.specs.Syntax as s
use Rattle.syntax_tree.specs.Syntax.{Expression, Arguments, Statement, Statements, named_at, starts_at}
use Rattle.syntax_tree.specs.declared.name.Named.{Named}
use Rattle.syntax_tree.specs.declared.name.Named.TheVariants.{Plain, Qualified}
use Rattle.syntax_tree.specs.declared.name.Word.{Word}
use Rattle.syntax_tree.specs.declared.definition.VariableOption.{VariableOption}
use Rattle.syntax_tree.specs.declared.definition.VariableOption.TheVariants as opt
use Rattle.syntax_tree.specs.declared.word.Direction.{Direction}
use Rattle.syntax_tree.specs.declared.word.Direction.TheVariants as direction
use Rattle.bind_names.specs.declared.names.Formal.{Formal}
use Rattle.bind_names.specs.declared.names.Known.{Known}
use Rattle.bind_names.specs.declared.names.Around.{Around}
use Rattle.bind_names.specs.declared.names.NamedBuffer.{NamedBuffer}
use Rattle.bind_names.specs.declared.names.NamedStream.{NamedStream}
use Rattle.bind_names.specs.declared.names.NamedVariable.{NamedVariable}
use Rattle.bind_names.specs.declared.names.Naming.{Naming}
use Rattle.bind_names.specs.declared.names.NamingKind.{NamingKind}
use Rattle.bind_names.specs.declared.names.NamingKind.TheVariants as naming_kind
use Rattle.bind_names.specs.Judged.{Judged, fine, broken, breaking, unless}
use Rattle.bind_names.specs.Names.{Scene, buffer, buffer_named, from, meaning, names_it, stream_named, variable_named}
use Rattle.bind_expressions.specs.Expressions.{condition, expression, number, of_meaning}
use Rattle.bind_expressions.specs.Parts.{listed, maybe, scene_after, the_expr}
use Rattle.bind_statements.specs.declared.definitions.Options.{Options}
use Rattle.bind_statements.specs.Assignments.{pair, pairs, right_side, target_kind, target_of, the_target, value_for_target}
use Rattle.abl_values.specs.Fit.{default_initial}
use Rattle.abl_values.specs.Masks.{mask_is_for}
use Rattle.bound_tree.specs.declared.expression.Variable.{Variable}
use Rattle.bind_blocks.specs.Named.{block_named, undoing}
use Rattle.bind_statements.specs.Definitions.{buffer_for, define, initial_value, no_options, option, options, with_buffer}
use Rattle.bind_statements.specs.Runs.{beyond, run_argument, run_arguments, run_numbered, variable_for}
use Rattle.bind_statements.specs.Shown.{count, put_item}
use Rattle.bind_statements.specs.Streams.{export_names, export_record, import_alone, import_target, import_targets, input, lone_buffer, named_alone, output, stream}
use Rattle.bind_blocks.specs.Flow.{action, returned}
use Rattle.bind_blocks.specs.Headers.{counter_of, counts, head, inside, on_phrase, opening, phrases}
use Rattle.bind_blocks.specs.Records.{Asked, looked_for, nothing_asked, record_option, record_options}
use Rattle.binder.specs.Statements.{statement, statements}
use Rattle.kind_laws.proofs.BoundKindsLemmas.Grows.{Grows, all_grow, grows}
use Rattle.kind_laws.proofs.BoundKindsLemmas.RelatedNames.{Others, varied, IsKept, IsLeaf, nothing, target_uses, counter_uses, of_meaning_relates, alone_relates, buffer_relates, relates}

-- ---- parts of statements

listed_relates : {A B : Type 0} (R : List Naming → List Naming → Type 0) (k : IsKept R) (f g : A → Judged B) → ((a : A) → R (f a).names (g a).names) → (xs : List A) → R (listed f xs).names (listed g xs).names
listed_relates R k f g h [] = k.nil
listed_relates R k f g h (a ∷ xs) = k.join (f a).names (g a).names _ _ (h a) (listed_relates R k f g h xs)

maybe_relates : {A B : Type 0} (R : List Naming → List Naming → Type 0) (k : IsKept R) (f g : A → Judged B) → ((a : A) → R (f a).names (g a).names) → (o : Option A) → R (maybe f o).names (maybe g o).names
maybe_relates R k f g h None = k.nil
maybe_relates R k f g h (Some a) = h a

stream_names : (w : Scene) (name : Option Word) → (stream w name).names ≡ []
stream_names w None = refl
stream_names w (Some name) =
    elim (stream_named w.known name.spelling) as (λ (o : Option NamedStream). (elim o as (λ _. Judged ℕ) [ None ↦ broken 0 rule.Y1 name.at | Some x ↦ fine x.number ]).names ≡ []) [ None ↦ refl | Some x ↦ refl ]

stream_relates : (R : List Naming → List Naming → Type 0) (w : Scene) (d : Others) → IsLeaf R w d → (name : Option Word) → R (stream w name).names (stream (varied w d) name).names
stream_relates R w d l name = nothing R _ _ l.kept.nil (stream_names w name) (stream_names (varied w d) name)

target_relates : (R : List Naming → List Naming → Type 0) (w : Scene) (d : Others) → IsLeaf R w d → (name : Named) → R (the_target w name).names (the_target (varied w d) name).names
target_relates R w d l name = of_meaning_relates R w d l (named_at name) name (target_of w (named_at name)) (target_of (varied w d) (named_at name)) (target_uses w (named_at name)) (target_uses (varied w d) (named_at name))

value_relates : (R : List Naming → List Naming → Type 0) (w : Scene) (d : Others) → IsLeaf R w d → (k j : Option Kind) (e : Expression) → R (value_for_target w k e).names (value_for_target (varied w d) j e).names
value_relates R w d l None None e = relates R w d l e
value_relates R w d l None (Some j) e = relates R w d l e
value_relates R w d l (Some k) None e = relates R w d l e
value_relates R w d l (Some k) (Some j) e = relates R w d l e

right_relates : (R : List Naming → List Naming → Type 0) (w : Scene) (d : Others) → IsLeaf R w d → (k j : Option Kind) (r : s.RightSide) → R (right_side w k r).names (right_side (varied w d) j r).names
right_relates R w d l k j (s.ValueOf e) = value_relates R w d l k j e
right_relates R w d l k j (s.NextValue place name) = l.kept.nil
right_relates R w d l k j (s.CurrentValue place name) = l.kept.nil

pairs_relate : (R : List Naming → List Naming → Type 0) (w : Scene) (d : Others) → IsLeaf R w d → (ps : List s.Pair) → R (pairs w ps).names (pairs (varied w d) ps).names
pairs_relate R w d l [] = l.kept.nil
pairs_relate R w d l (p ∷ ps) =
    l.kept.join (pair w p).names (pair (varied w d) p).names _ _
    (l.kept.join (the_target w p.target).names (the_target (varied w d) p.target).names _ _ (target_relates R w d l p.target)
    (right_relates R w d l (target_kind (the_target w p.target).is) (target_kind (the_target (varied w d) p.target).is) p.right))
    (pairs_relate R w d l ps)

-- ---- RUN

variable_relates : (R : List Naming → List Naming → Type 0) (w : Scene) (d : Others) → IsLeaf R w d → (build : Variable → b.Argument) (f : Option Formal) (x : Direction) (place : Place) (name : Word) (v : Option NamedVariable) →
    R (variable_for w build f x place name v).names (variable_for (varied w d) build f x place name v).names
variable_relates R w d l build f x place name (Some v) = l.kept.nil
variable_relates R w d l build f x place name None = alone_relates R w d l (Plain name)

argument_relates : (R : List Naming → List Naming → Type 0) (w : Scene) (d : Others) → IsLeaf R w d → (f : Option Formal) (a : s.Argument) → R (run_argument w f a).names (run_argument (varied w d) f a).names
argument_relates R w d l f (s.Input place e) = relates R w d l e
argument_relates R w d l f (s.Output place name) = variable_relates R w d l b.Out f direction.Output place name (variable_named w.known name.spelling)
argument_relates R w d l f (s.InputOutput place name) = variable_relates R w d l b.InOut f direction.InputOutput place name (variable_named w.known name.spelling)

beyond_relates : (R : List Naming → List Naming → Type 0) (w : Scene) (d : Others) → IsLeaf R w d → (first : Bool) (as_ : List s.Argument) → R (beyond w first as_).names (beyond (varied w d) first as_).names
beyond_relates R w d l first [] = l.kept.nil
beyond_relates R w d l first (a ∷ as_) = l.kept.join (run_argument w None a).names (run_argument (varied w d) None a).names _ _ (argument_relates R w d l None a) (beyond_relates R w d l false as_)

arguments_relate : (R : List Naming → List Naming → Type 0) (w : Scene) (d : Others) → IsLeaf R w d → (fs : List Formal) (as_ : List s.Argument) → R (run_arguments w fs as_).names (run_arguments (varied w d) fs as_).names
arguments_relate R w d l [] [] = l.kept.nil
arguments_relate R w d l (f ∷ fs) [] = l.kept.nil
arguments_relate R w d l [] (a ∷ as_) = beyond_relates R w d l true (a ∷ as_)
arguments_relate R w d l (f ∷ fs) (a ∷ as_) = l.kept.join (run_argument w (Some f) a).names (run_argument (varied w d) (Some f) a).names _ _ (argument_relates R w d l (Some f) a) (arguments_relate R w d l fs as_)

run_relates : (R : List Naming → List Naming → Type 0) (w : Scene) (d : Others) → IsLeaf R w d → (name : Word) (as_ : List s.Argument) (quiet : Bool) (o : Option ℕ) → R (run_numbered w name as_ quiet o).names (run_numbered (varied w d) name as_ quiet o).names
run_relates R w d l name as_ quiet None = beyond_relates R w d l false as_
run_relates R w d l name as_ quiet (Some p) = arguments_relate R w d l (slice_index_or w.context.procedures p (record { name = []; formals = [] })).formals as_

-- ---- IMPORT and EXPORT

-- a buffer that a name alone names is known by some name
pub record IsLone (w : Scene) (x : NamedBuffer) : Type 0 where
  pub name : List ℕ
  pub is : buffer_named w name ≡ Some x

lone : (w : Scene) (name : Named) (x : NamedBuffer) → lone_buffer w name ≡ Some x → IsLone w x
lone w (Plain word) x e = go (is_some (variable_named w.known word.spelling)) e
  where
    go : (c : Bool) → (if c then None else buffer_named w word.spelling) ≡ Some x → IsLone w x
    go true e = absurd cc
    go false e = record { name = word.spelling; is = e }
lone w (Qualified other field at) x e = absurd cc

import_target_relates : (R : List Naming → List Naming → Type 0) (w : Scene) (d : Others) → IsLeaf R w d → (o : Option Named) → R (import_target w o).names (import_target (varied w d) o).names
import_target_relates R w d l None = l.kept.nil
import_target_relates R w d l (Some name) = target_relates R w d l name

import_alone_relates : (R : List Naming → List Naming → Type 0) (w : Scene) (d : Others) → IsLeaf R w d → (name : Named) (o : Option NamedBuffer) → lone_buffer w name ≡ o → R (import_alone w name o).names (import_alone (varied w d) name o).names
import_alone_relates R w d l name None e = target_relates R w d l name
import_alone_relates R w d l name (Some x) e = let it = lone w name x e in l.buffers it.name x it.is naming_kind.Free true (named_at name)

imports_relate : (R : List Naming → List Naming → Type 0) (w : Scene) (d : Others) → IsLeaf R w d → (names : List (Option Named)) → R (import_targets w names).names (import_targets (varied w d) names).names
imports_relate R w d l (Some name ∷ []) = import_alone_relates R w d l name (lone_buffer w name) refl
imports_relate R w d l [] = l.kept.nil
imports_relate R w d l (None ∷ names) = listed_relates R l.kept (import_target w) (import_target (varied w d)) (import_target_relates R w d l) (None ∷ names)
imports_relate R w d l (Some name ∷ other ∷ names) = listed_relates R l.kept (import_target w) (import_target (varied w d)) (import_target_relates R w d l) (Some name ∷ other ∷ names)

values_relate : (R : List Naming → List Naming → Type 0) (w : Scene) (d : Others) → IsLeaf R w d → (es : List Expression) → R (listed (λ e. the_expr (expression w e)) es).names (listed (λ e. the_expr (expression (varied w d) e)) es).names
values_relate R w d l es = listed_relates R l.kept (λ e. the_expr (expression w e)) (λ e. the_expr (expression (varied w d) e)) (relates R w d l) es

lone_of : (w : Scene) (o : Option Named) (x : NamedBuffer) → from o (lone_buffer w) ≡ Some x → IsLone w x
lone_of w None x e = absurd cc
lone_of w (Some name) x e = lone w name x e

export_relates : (R : List Naming → List Naming → Type 0) (w : Scene) (d : Others) → IsLeaf R w d → (i j : ℕ) (es : List Expression) (o : Option NamedBuffer) → from (named_alone es) (lone_buffer w) ≡ o →
    R (export_names w es o ++ (export_record w i es o).names) (export_names (varied w d) es o ++ (export_record (varied w d) j es o).names)
export_relates R w d l i j [] None e = l.kept.nil
export_relates R w d l i j [] (Some x) e = l.kept.nil
export_relates R w d l i j (a ∷ es) None e = values_relate R w d l (a ∷ es)
export_relates R w d l i j (a ∷ es) (Some x) e = let it = lone_of w (named_alone (a ∷ es)) x e in l.buffers it.name x it.is naming_kind.Free true (starts_at a)

count_names : (c : Option s.Count) → (count c).names ≡ []
count_names None = refl
count_names (Some c) = refl

item_relates : (R : List Naming → List Naming → Type 0) (w : Scene) (d : Others) → IsLeaf R w d → (is_plain : Bool) (i : s.PutItem) → R (put_item w is_plain i).names (put_item (varied w d) is_plain i).names
item_relates R w d l is_plain (s.Shows e None) = relates R w d l e
item_relates R w d l is_plain (s.Shows e (Some mask)) = relates R w d l e
item_relates R w d l is_plain (s.Skip c) = nothing R _ _ l.kept.nil (count_names c) (count_names c)
item_relates R w d l is_plain (s.Space c) = nothing R _ _ l.kept.nil (count_names c) (count_names c)

-- ---- records, actions and headers

option_relates : (R : List Naming → List Naming → Type 0) (w : Scene) (d : Others) → IsLeaf R w d → (o p : Option NamedBuffer) (a c : Asked) (x : s.RecordOption) → R (record_option w o x a).names (record_option (varied w d) p x c).names
option_relates R w d l o p a c (s.Where place e) = relates R w d l e
option_relates R w d l o p a c (s.UseIndex place index) = l.kept.nil
option_relates R w d l o p a c (s.Lock place lock) = l.kept.nil
option_relates R w d l o p a c (s.NoWait place) = l.kept.nil
option_relates R w d l o p a c (s.NoError place) = l.kept.nil

options_relate : (R : List Naming → List Naming → Type 0) (w : Scene) (d : Others) → IsLeaf R w d → (o p : Option NamedBuffer) (a c : Asked) (xs : List s.RecordOption) → R (record_options w o a xs).names (record_options (varied w d) p c xs).names
options_relate R w d l o p a c [] = l.kept.nil
options_relate R w d l o p a c (x ∷ xs) =
    l.kept.join (record_option w o x a).names (record_option (varied w d) p x c).names _ _ (option_relates R w d l o p a c x)
    (options_relate R w d l o p (record_option w o x a).is (record_option (varied w d) p x c).is xs)

looked_for_relates : (R : List Naming → List Naming → Type 0) (w : Scene) (d : Others) → IsLeaf R w d → (kind : NamingKind) (word : Word) (os : List s.RecordOption) →
    R (looked_for w (buffer w kind true word) os).names (looked_for (varied w d) (buffer (varied w d) kind true word) os).names
looked_for_relates R w d l kind word os =
    l.kept.join (buffer w kind true word).names (buffer (varied w d) kind true word).names _ _ (buffer_relates R w d l kind true word)
    (options_relate R w d l (buffer w kind true word).is (buffer (varied w d) kind true word).is (nothing_asked w (buffer w kind true word).is) (nothing_asked (varied w d) (buffer (varied w d) kind true word).is) os)

returned_relates : (R : List Naming → List Naming → Type 0) (w : Scene) (d : Others) → IsLeaf R w d → (o : Option Expression) → R (returned w o).names (returned (varied w d) o).names
returned_relates R w d l None = l.kept.nil
returned_relates R w d l (Some e) = relates R w d l e

action_relates : (R : List Naming → List Naming → Type 0) (w : Scene) (d : Others) → IsLeaf R w d → (block : ℕ) (act : Option s.Action) → R (action w block act).names (action (varied w d) block act).names
action_relates R w d l block None = l.kept.nil
action_relates R w d l block (Some (s.RetryIt place label)) = l.kept.nil
action_relates R w d l block (Some (s.Leave place label)) = l.kept.nil
action_relates R w d l block (Some (s.Next place label)) = l.kept.nil
action_relates R w d l block (Some (s.Return place error e)) = returned_relates R w d l e

opening_relates : (R : List Naming → List Naming → Type 0) (w : Scene) (d : Others) → IsLeaf R w d → (o : s.Opening) → R (opening w o).names (opening (varied w d) o).names
opening_relates R w d l (s.Plainly word buffers) = listed_relates R l.kept (buffer w naming_kind.Strong true) (buffer (varied w d) naming_kind.Strong true) (buffer_relates R w d l naming_kind.Strong true) buffers
opening_relates R w d l (s.ForRecords fetch word os) = looked_for_relates R w d l naming_kind.Weak word os

counts_relate : (R : List Naming → List Naming → Type 0) (w : Scene) (d : Others) → IsLeaf R w d → (o : Option s.Counting) → R (counts w o).names (counts (varied w d) o).names
counts_relate R w d l None = l.kept.nil
counts_relate R w d l (Some c) =
    l.kept.join (of_meaning (meaning w c.variable) (counter_of w (named_at c.variable))).names (of_meaning (meaning (varied w d) c.variable) (counter_of (varied w d) (named_at c.variable))).names _ _
    (of_meaning_relates R w d l (named_at c.variable) c.variable (counter_of w (named_at c.variable)) (counter_of (varied w d) (named_at c.variable)) (counter_uses w (named_at c.variable)) (counter_uses (varied w d) (named_at c.variable)))
    (l.kept.join (number w c.start).names (number (varied w d) c.start).names _ _ (relates R w d l c.start)
    (l.kept.join (number w c.end).names (number (varied w d) c.end).names _ _ (relates R w d l c.end)
    (maybe_relates R l.kept (λ e. the_expr (number w e)) (λ e. the_expr (number (varied w d) e)) (relates R w d l) c.by)))

phrases_relate : (R : List Naming → List Naming → Type 0) (w : Scene) (d : Others) → IsLeaf R w d → (ps : List s.Phrase) → R (phrases w ps).names (phrases (varied w d) ps).names
phrases_relate R w d l [] = l.kept.nil
phrases_relate R w d l (s.While place e ∷ ps) = l.kept.join (condition w e).names (condition (varied w d) e).names _ _ (relates R w d l e) (phrases_relate R w d l ps)
phrases_relate R w d l (s.Transaction place ∷ ps) = phrases_relate R w d l ps
phrases_relate R w d l (s.OnError place label act ∷ ps) = l.kept.join (on_phrase w label act).names (on_phrase (varied w d) label act).names _ _ (action_relates R w d l (block_named undoing w.around label) act) (phrases_relate R w d l ps)
phrases_relate R w d l (s.OnEndkey place label act ∷ ps) = l.kept.join (on_phrase w label act).names (on_phrase (varied w d) label act).names _ _ (action_relates R w d l (block_named undoing w.around label) act) (phrases_relate R w d l ps)

head_relates : (R : List Naming → List Naming → Type 0) (w : Scene) (d : Others) → IsLeaf R w d → (h : s.Head) → R (head w h).names (head (varied w d) h).names
head_relates R w d l h =
    l.kept.join (opening w h.opening).names (opening (varied w d) h.opening).names _ _ (opening_relates R w d l h.opening)
    (l.kept.join (counts w h.counting).names (counts (varied w d) h.counting).names _ _ (counts_relate R w d l h.counting) (phrases_relate R w d l h.phrases))

-- ---- definitions

names_if : {A : Type 0} (c : Bool) (i j : Judged A) → i.names ≡ [] → j.names ≡ [] → (if c then i else j).names ≡ []
names_if true i j g h = g
names_if false i j g h = h

option_names : (k : Kind) (x : VariableOption) (o : Options) → (option k x o).names ≡ []
option_names k (opt.NoUndo place) o = refl
option_names k (opt.Label place) o = refl
option_names k (opt.Format place mask) o = names_if (is_some o.mask) (fine o) (breaking (fine (record o { mask = Some mask.spelling })) (unless (mask_is_for mask.spelling k) rule.Y12 mask.at)) refl refl
option_names k (opt.Initial place v at) o =
    names_if (is_some o.initial) (fine o) (breaking (fine (record o { initial = Some (unwrap_or (initial_value k v) (default_initial k)) })) (unless (is_some (initial_value k v)) rule.Y13 at)) refl refl

options_names : (k : Kind) (o : Options) (xs : List VariableOption) → (options k o xs).names ≡ []
options_names k o [] = refl
options_names k o (x ∷ xs) = ap (λ ns. ns ++ (options k (option k x o).is xs).names) (option_names k x o) ∙ options_names k (option k x o).is xs

-- ---- statements

-- the place, with other things known, in other blocks
abbrev pub moved : Scene → Known → List Around → ℕ → Scene
moved w known around block = record { context = w.context; known = known; procedure = w.procedure; buffers = w.buffers; named = w.named; around = around; block = block }

-- the relation holds of what single names make wherever Ok says that this is known, and of definitions
pub record AreLeaves (R : List Naming → List Naming → Type 0) (Ok : Known → Type 0) (w : Scene) (d : Others) : Type 0 where
  pub before : (k l : Known) → Grows k l → Ok l → Ok k
  pub leaf : (k : Known) (around : List Around) (block : ℕ) → Ok k → IsLeaf R (moved w k around block) d
  pub definition : (k : Known) (around : List Around) (block : ℕ) (x : NamedBuffer) (place : Place) → Ok (with_buffer x k) →
      R (names_it (moved w k around block) x naming_kind.Definition true place ∷ []) (names_it (moved w k around block) x naming_kind.Definition true place ∷ [])

buffer_for_relates : (R : List Naming → List Naming → Type 0) (Ok : Known → Type 0) (w : Scene) (d : Others) → AreLeaves R Ok w d → (k : Known) (around : List Around) (block : ℕ) (name table : Word) (o : Option ℕ) →
    Ok (buffer_for (moved w k around block) name table o).is.after → R (buffer_for (moved w k around block) name table o).names (buffer_for (varied (moved w k around block) d) name table o).names
buffer_for_relates R Ok w d l k around block name table None g = (l.leaf k around block g).kept.nil
buffer_for_relates R Ok w d l k around block name table (Some t) g = l.definition k around block (record { name = name.spelling; table = t }) name.at g

define_relates : (R : List Naming → List Naming → Type 0) (Ok : Known → Type 0) (w : Scene) (d : Others) → AreLeaves R Ok w d → IsKept R → (k : Known) (around : List Around) (block : ℕ) (x : s.Definition) →
    Ok (define (moved w k around block) x).is.after → R (define (moved w k around block) x).names (define (varied (moved w k around block) d) x).names
define_relates R Ok w d l j k around block (s.Variable name kind os) g = nothing R _ _ j.nil (options_names kind no_options os) (options_names kind no_options os)
define_relates R Ok w d l j k around block (s.Parameter x place name kind os) g = nothing R _ _ j.nil (options_names kind no_options os) (options_names kind no_options os)
define_relates R Ok w d l j k around block (s.Buffer name table) g = buffer_for_relates R Ok w d l k around block name table (table_named w.context.schema table.spelling) g
define_relates R Ok w d l j k around block (s.Stream name) g = j.nil

-- what is known after a statement does not depend on the namings
buffer_after : (w : Scene) (d : Others) (name table : Word) (o : Option ℕ) → (buffer_for (varied w d) name table o).is.after ≡ (buffer_for w name table o).is.after
buffer_after w d name table None = refl
buffer_after w d name table (Some t) = refl

define_after : (w : Scene) (d : Others) (x : s.Definition) → (define (varied w d) x).is.after ≡ (define w x).is.after
define_after w d (s.Variable name kind os) = refl
define_after w d (s.Parameter x place name kind os) = refl
define_after w d (s.Buffer name table) = buffer_after w d name table (table_named w.context.schema table.spelling)
define_after w d (s.Stream name) = refl

run_after : (w : Scene) (d : Others) (name : Word) (as_ : List s.Argument) (quiet : Bool) (o : Option ℕ) → (run_numbered (varied w d) name as_ quiet o).is.after ≡ (run_numbered w name as_ quiet o).is.after
run_after w d name as_ quiet None = refl
run_after w d name as_ quiet (Some p) = refl

mutual
  pub same_after : (w : Scene) (d : Others) (t : Statement) → (statement (varied w d) t).is.after ≡ (statement w t).is.after
  same_after w d (s.Block h body) = all_same_after (inside h w) d body
  same_after w d (s.Choose test then_it else_it) =
      ap (λ k. (statements (varied (scene_after w k) d) else_it).is.after) (same_after w d then_it) ∙ all_same_after (scene_after w (statement w then_it).is.after) d else_it
  same_after w d (s.Define x) = define_after w d x
  same_after w d (s.Assign ps quiet) = refl
  same_after w d (s.Find which x os) = refl
  same_after w d (s.Create x quiet) = refl
  same_after w d (s.Delete x quiet) = refl
  same_after w d (s.Release x quiet) = refl
  same_after w d (s.Undo place label act) = refl
  same_after w d (s.LeaveBlock place label) = refl
  same_after w d (s.NextBlock place label) = refl
  same_after w d (s.ReturnIt place error e) = refl
  same_after w d s.Stop = refl
  same_after w d (s.Run name as_ quiet) = run_after w d name as_ quiet (number_of_name 0 (map (λ p. p.name) w.context.procedures) name.spelling)
  same_after w d (s.Import name targets quiet) = refl
  same_after w d (s.Export name es) = refl
  same_after w d (s.Put name is_plain items) = refl
  same_after w d (s.Message es) = refl
  same_after w d (s.InputFrom name None) = refl
  same_after w d (s.InputFrom name (Some file)) = refl
  same_after w d (s.OutputTo name None append_it) = refl
  same_after w d (s.OutputTo name (Some file) append_it) = refl

  pub all_same_after : (w : Scene) (d : Others) (ts : Statements) → (statements (varied w d) ts).is.after ≡ (statements w ts).is.after
  all_same_after w d s.Nothing = refl
  all_same_after w d (s.Then t ts) =
      ap (λ k. (statements (varied (scene_after w k) d) ts).is.after) (same_after w d t) ∙ all_same_after (scene_after w (statement w t).is.after) d ts

-- a place with this known, these blocks around it and this block
abbrev Relates : (List Naming → List Naming → Type 0) → Scene → Others → Statement → Type 0
Relates R w d t = R (statement w t).names (statement (varied w d) t).names

input_relates : (R : List Naming → List Naming → Type 0) (w : Scene) (d : Others) → IsLeaf R w d → (name file : Option Word) → R (input w name file).names (input (varied w d) name file).names
input_relates R w d l name None = stream_relates R w d l name
input_relates R w d l name (Some file) = l.kept.join (stream w name).names (stream (varied w d) name).names [] [] (stream_relates R w d l name) l.kept.nil

output_relates : (R : List Naming → List Naming → Type 0) (w : Scene) (d : Others) → IsLeaf R w d → (name file : Option Word) (append_it : Bool) → R (output w name file append_it).names (output (varied w d) name file append_it).names
output_relates R w d l name None append_it = stream_relates R w d l name
output_relates R w d l name (Some file) append_it = l.kept.join (stream w name).names (stream (varied w d) name).names [] [] (stream_relates R w d l name) l.kept.nil

mutual
  pub statement_relates : (R : List Naming → List Naming → Type 0) (Ok : Known → Type 0) (w : Scene) (d : Others) → AreLeaves R Ok w d → (k : Known) (around : List Around) (block : ℕ) (t : Statement) →
      Ok (statement (moved w k around block) t).is.after → Relates R (moved w k around block) d t
  statement_relates R Ok w d l k around block (s.Block h body) g =
      let u = inside h (moved w k around block) in
      let known = l.before u.known (statements u body).is.after (all_grow u body) g in
      let leaf = l.leaf u.known u.around u.block known in
      leaf.kept.join (head u h).names (head (varied u d) h).names _ _ (head_relates R u d leaf h) (body_relates R Ok w d l u.known u.around u.block body g)
  statement_relates R Ok w d l k around block (s.Choose test then_it else_it) g =
      let u = moved w k around block in
      let next = (statement u then_it).is.after in
      let mid = l.before next (statements (scene_after u next) else_it).is.after (all_grow (scene_after u next) else_it) g in
      let leaf = l.leaf k around block (l.before k next (grows u then_it) mid) in
      leaf.kept.join (condition u test).names (condition (varied u d) test).names _ _ (relates R u d leaf test)
      (leaf.kept.join (statement u then_it).names (statement (varied u d) then_it).names _ _ (statement_relates R Ok w d l k around block then_it mid)
      (subst (λ m. R (statements (scene_after u next) else_it).names (statements (varied (scene_after u m) d) else_it).names) (sym (same_after u d then_it)) (body_relates R Ok w d l next around block else_it g)))
  statement_relates R Ok w d l k around block (s.Define x) g =
      let u = moved w k around block in
      define_relates R Ok w d l (l.leaf k around block (l.before k (define u x).is.after (grows u (s.Define x)) g)).kept k around block x g
  statement_relates R Ok w d l k around block (s.Assign ps quiet) g = pairs_relate R (moved w k around block) d (l.leaf k around block g) ps
  statement_relates R Ok w d l k around block (s.Find which word os) g = looked_for_relates R (moved w k around block) d (l.leaf k around block g) naming_kind.Free word os
  statement_relates R Ok w d l k around block (s.Create word quiet) g = buffer_relates R (moved w k around block) d (l.leaf k around block g) naming_kind.Free true word
  statement_relates R Ok w d l k around block (s.Delete word quiet) g = buffer_relates R (moved w k around block) d (l.leaf k around block g) naming_kind.Free true word
  statement_relates R Ok w d l k around block (s.Release word quiet) g = buffer_relates R (moved w k around block) d (l.leaf k around block g) naming_kind.Free true word
  statement_relates R Ok w d l k around block (s.Undo place label act) g = action_relates R (moved w k around block) d (l.leaf k around block g) (block_named undoing around label) act
  statement_relates R Ok w d l k around block (s.LeaveBlock place label) g = (l.leaf k around block g).kept.nil
  statement_relates R Ok w d l k around block (s.NextBlock place label) g = (l.leaf k around block g).kept.nil
  statement_relates R Ok w d l k around block (s.ReturnIt place error e) g = returned_relates R (moved w k around block) d (l.leaf k around block g) e
  statement_relates R Ok w d l k around block s.Stop g = (l.leaf k around block g).kept.nil
  statement_relates R Ok w d l k around block (s.Run name as_ quiet) g =
      let u = moved w k around block in
      run_relates R u d (l.leaf k around block (l.before k (statement u (s.Run name as_ quiet)).is.after (grows u (s.Run name as_ quiet)) g)) name as_ quiet (number_of_name 0 (map (λ p. p.name) w.context.procedures) name.spelling)
  statement_relates R Ok w d l k around block (s.Import name targets quiet) g =
      let u = moved w k around block in
      let leaf = l.leaf k around block g in
      leaf.kept.join (stream u name).names (stream (varied u d) name).names _ _ (stream_relates R u d leaf name) (imports_relate R u d leaf targets)
  statement_relates R Ok w d l k around block (s.Export name es) g =
      let u = moved w k around block in
      let leaf = l.leaf k around block g in
      leaf.kept.join (stream u name).names (stream (varied u d) name).names _ _ (stream_relates R u d leaf name)
      (export_relates R u d leaf (stream u name).is (stream (varied u d) name).is es (from (named_alone es) (lone_buffer u)) refl)
  statement_relates R Ok w d l k around block (s.Put name is_plain items) g =
      let u = moved w k around block in
      let leaf = l.leaf k around block g in
      leaf.kept.join (stream u name).names (stream (varied u d) name).names _ _ (stream_relates R u d leaf name)
      (listed_relates R leaf.kept (put_item u is_plain) (put_item (varied u d) is_plain) (item_relates R u d leaf is_plain) items)
  statement_relates R Ok w d l k around block (s.Message es) g = values_relate R (moved w k around block) d (l.leaf k around block g) es
  statement_relates R Ok w d l k around block (s.InputFrom name file) g =
      let u = moved w k around block in
      input_relates R u d (l.leaf k around block (l.before k (statement u (s.InputFrom name file)).is.after (grows u (s.InputFrom name file)) g)) name file
  statement_relates R Ok w d l k around block (s.OutputTo name file append_it) g =
      let u = moved w k around block in
      output_relates R u d (l.leaf k around block (l.before k (statement u (s.OutputTo name file append_it)).is.after (grows u (s.OutputTo name file append_it)) g)) name file append_it

  pub body_relates : (R : List Naming → List Naming → Type 0) (Ok : Known → Type 0) (w : Scene) (d : Others) → AreLeaves R Ok w d → (k : Known) (around : List Around) (block : ℕ) (ts : Statements) →
      Ok (statements (moved w k around block) ts).is.after → R (statements (moved w k around block) ts).names (statements (varied (moved w k around block) d) ts).names
  body_relates R Ok w d l k around block s.Nothing g = (l.leaf k around block g).kept.nil
  body_relates R Ok w d l k around block (s.Then t ts) g =
      let u = moved w k around block in
      let next = (statement u t).is.after in
      let mid = l.before next (statements (scene_after u next) ts).is.after (all_grow (scene_after u next) ts) g in
      let leaf = l.leaf next around block mid in
      leaf.kept.join (statement u t).names (statement (varied u d) t).names _ _ (statement_relates R Ok w d l k around block t mid)
      (subst (λ m. R (statements (scene_after u next) ts).names (statements (varied (scene_after u m) d) ts).names) (sym (same_after u d t)) (body_relates R Ok w d l next around block ts g))
