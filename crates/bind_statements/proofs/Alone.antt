-- Names that are alone.
use Rattle.std.proofs.Common.{◌≡◌, ◌≢◌, ◌<◌, ◌+◌, ℕ, List, [], ◌∷◌, ◌++◌, length, drop, get_or, map, Option, Some, None, true, refl, ap, sym, ◌∙◌, subst, append_assoc, arith}
use Rattle.std.specs.Prelude.{Box, Vec}
use Rattle.std.specs.Option.{option_map}
use Rattle.std.specs.declared.alloc.Global.{Global}
use Rattle.abl_base.specs.declared.place.Place.{Place}
use Rattle.abl_values.specs.declared.schema.FieldDef.{FieldDef}
use Rattle.bound_tree.specs.Tree.{Expr, Export, ExportRecord, Stmt}
use Rattle.bound_tree.specs.declared.statement.Target.{Target}
use Rattle.bound_tree.specs.declared.statement.Target.TheVariants as target
use Rattle.syntax_tree.specs.Syntax as s
use Rattle.syntax_tree.specs.Syntax.{Expression, named_at, starts_at}
use Rattle.syntax_tree.specs.Typed.{expression_of, joined, linked_of}
use Rattle.syntax_tree.specs.declared.expression.Expression.{Expression as TypedExpression}
use Rattle.syntax_tree.specs.declared.expression.Expression.TheViews as view
use Rattle.syntax_tree.specs.declared.expression.Link.{Link}
use Rattle.syntax_tree.specs.declared.expression.Operator.{Operator}
use Rattle.syntax_tree.specs.declared.expression.Operator.TheVariants as op
use Rattle.syntax_tree.specs.declared.name.Named.{Named}
use Rattle.syntax_tree.proofs.Chains.{chain_is}
use Rattle.bind_names.specs.declared.names.NamedBuffer.{NamedBuffer}
use Rattle.bind_names.specs.declared.names.Naming.{Naming}
use Rattle.bind_names.specs.declared.names.NamingKind.TheVariants.{Free}
use Rattle.bind_names.specs.declared.notes.Notes.{Notes}
use Rattle.bind_names.specs.Judged.{Judged}
use Rattle.bind_names.specs.Views.{IsJudged}
use Rattle.bind_names.specs.Names.{Scene, buffer_number, from, meaning, names_it}
use Rattle.bind_expressions.specs.Parts.{listed}
use Rattle.bind_statements.specs.Streams.{export_names, export_record, exported, field_targets, import_alone, import_target, import_targets, lone_buffer, named_alone}
use Rattle.bind_statements.specs.Shown.{mask_of_meaning, mask_of_name}
use Rattle.bind_statements.specs.Views.{IsExported, expr_in, name_in, target_alone}
use Rattle.bind_statements.proofs.Lists.{next_item}

-- ---- an expression that is a name

joined_has_no_name : (o : Operator) (place : Place) (a b : Expression) → name_in (joined o place a b) ≡ None
joined_has_no_name (op.Two o) place a b = refl
joined_has_no_name op.And place a b = refl
joined_has_no_name op.Or place a b = refl

linked_has_no_name : (ls : List Link) (a : Expression) → name_in a ≡ None → name_in (linked_of ls a) ≡ None
linked_has_no_name [] a e = e
linked_has_no_name (l ∷ ls) a e = linked_has_no_name ls (joined l.operator l.at a (expression_of l.operand)) (joined_has_no_name l.operator l.at a (expression_of l.operand))

several_have_no_name : (ls : List Link) (a : Expression) → length ls ≢ 0 → name_in (linked_of ls a) ≡ None
several_have_no_name [] a n = absurd (n refl)
several_have_no_name (l ∷ ls) a n = linked_has_no_name ls (joined l.operator l.at a (expression_of l.operand)) (joined_has_no_name l.operator l.at a (expression_of l.operand))

pub chain_has_no_name : (first : Box TypedExpression Global) (v : Vec Link Global) → length v.items ≢ 0 → name_in (expression_of (view.Chain first v)) ≡ None
chain_has_no_name first v n = ap name_in (chain_is first v) ∙ several_have_no_name v.items (expression_of first.value) n

pub first_of_chain : (first : Box TypedExpression Global) (v : Vec Link Global) → length v.items ≡ 0 → expression_of (view.Chain first v) ≡ expression_of first.value
first_of_chain first v e = chain_is first v ∙ none v.items e
  where
    none : (ls : List Link) → length ls ≡ 0 → linked_of ls (expression_of first.value) ≡ expression_of first.value
    none [] e = refl
    none (l ∷ ls) e = absurd (omega arith)

-- the same of an expression that is known to be a chain
pub chain_alone : (e a : TypedExpression) (first : Box TypedExpression Global) (v : Vec Link Global) → e ≡ view.Chain first v → length v.items ≡ 0 → a ≡ first.value →
    expression_of e ≡ expression_of a
chain_alone e a first v is none at_first = ap expression_of is ∙ first_of_chain first v none ∙ ap expression_of (sym at_first)

pub chain_not_alone : (e : TypedExpression) (first : Box TypedExpression Global) (v : Vec Link Global) → e ≡ view.Chain first v → length v.items ≢ 0 → name_in (expression_of e) ≡ None
chain_not_alone e first v is more = ap (λ (x : TypedExpression). name_in (expression_of x)) is ∙ chain_has_no_name first v more

pub mask_of_name_is : (w : Scene) (e : Expression) → mask_of_name w e ≡ from (name_in e) (λ n. mask_of_meaning (meaning w n).is)
mask_of_name_is w (s.Name n) = refl
mask_of_name_is w (s.Literal v at) = refl
mask_of_name_is w (s.Grouped at a) = refl
mask_of_name_is w (s.Plus at a) = refl
mask_of_name_is w (s.Minus at a) = refl
mask_of_name_is w (s.Not at a) = refl
mask_of_name_is w (s.Two o at a b) = refl
mask_of_name_is w (s.And at a b) = refl
mask_of_name_is w (s.Or at a b) = refl
mask_of_name_is w (s.If at t a b) = refl
mask_of_name_is w (s.Available at b) = refl
mask_of_name_is w (s.Locked at b) = refl
mask_of_name_is w (s.Retry at) = refl
mask_of_name_is w (s.ReturnValue at) = refl
mask_of_name_is w (s.ErrorStatus at) = refl
mask_of_name_is w (s.Text at a mask) = refl
mask_of_name_is w (s.Call f at as_) = refl

-- ---- one item alone

pub one_alone : {A : Type 0} (xs : List A) (x : A) → length xs ≡ 1 → x ≡ get_or xs 0 x → xs ≡ x ∷ []
one_alone [] x e is = absurd (omega arith)
one_alone (y ∷ []) x e is = ap (λ z. z ∷ []) (sym is)
one_alone (y ∷ z ∷ xs) x e is = absurd (omega arith)

pub target_not_alone : (names : List (Option Named)) → length names ≢ 1 → target_alone names ≡ None
target_not_alone [] n = refl
target_not_alone (None ∷ []) n = refl
target_not_alone (Some x ∷ []) n = absurd (n refl)
target_not_alone (None ∷ y ∷ names) n = refl
target_not_alone (Some x ∷ y ∷ names) n = refl

named_one : (e : Expression) → named_alone (e ∷ []) ≡ name_in e
named_one (s.Name n) = refl
named_one (s.Literal v at) = refl
named_one (s.Grouped at a) = refl
named_one (s.Plus at a) = refl
named_one (s.Minus at a) = refl
named_one (s.Not at a) = refl
named_one (s.Two o at a b) = refl
named_one (s.And at a b) = refl
named_one (s.Or at a b) = refl
named_one (s.If at t a b) = refl
named_one (s.Available at b) = refl
named_one (s.Locked at b) = refl
named_one (s.Retry at) = refl
named_one (s.ReturnValue at) = refl
named_one (s.ErrorStatus at) = refl
named_one (s.Text at a mask) = refl
named_one (s.Call f at as_) = refl

several_not_named : (e f : Expression) (es : List Expression) → named_alone (e ∷ f ∷ es) ≡ None
several_not_named (s.Name n) f es = refl
several_not_named (s.Literal v at) f es = refl
several_not_named (s.Grouped at a) f es = refl
several_not_named (s.Plus at a) f es = refl
several_not_named (s.Minus at a) f es = refl
several_not_named (s.Not at a) f es = refl
several_not_named (s.Two o at a b) f es = refl
several_not_named (s.And at a b) f es = refl
several_not_named (s.Or at a b) f es = refl
several_not_named (s.If at t a b) f es = refl
several_not_named (s.Available at b) f es = refl
several_not_named (s.Locked at b) f es = refl
several_not_named (s.Retry at) f es = refl
several_not_named (s.ReturnValue at) f es = refl
several_not_named (s.ErrorStatus at) f es = refl
several_not_named (s.Text at a mask) f es = refl
several_not_named (s.Call g at as_) f es = refl

pub named_not_alone : (es : List TypedExpression) → length es ≢ 1 → named_alone (map expression_of es) ≡ None
named_not_alone [] n = refl
named_not_alone (e ∷ []) n = absurd (n refl)
named_not_alone (e ∷ f ∷ es) n = several_not_named (expression_of e) (expression_of f) (map expression_of es)

pub named_is : (es : List TypedExpression) (e : TypedExpression) → length es ≡ 1 → e ≡ get_or es 0 e → named_alone (map expression_of es) ≡ name_in (expression_of e)
named_is es e one is = ap (λ xs. named_alone (map expression_of xs)) (one_alone es e one is) ∙ named_one (expression_of e)

-- ---- IMPORT

abbrev pub by_alone : Scene → List (Option Named) → Option Named → Judged (List (Option Target))
by_alone w names (Some name) = import_alone w name (lone_buffer w name)
by_alone w names None = listed (import_target w) names

pub import_targets_is : (w : Scene) (names : List (Option Named)) → import_targets w names ≡ by_alone w names (target_alone names)
import_targets_is w [] = refl
import_targets_is w (None ∷ []) = refl
import_targets_is w (Some x ∷ []) = refl
import_targets_is w (None ∷ y ∷ names) = refl
import_targets_is w (Some x ∷ y ∷ names) = refl

pub one_more_field : (buffer : ℕ) (all : List FieldDef) (i n : ℕ) (d : FieldDef) (bound new : List (Option Target)) (t : Option Target) →
    i < length all → d ≡ get_or all i d → n ≡ i → t ≡ option_map (target.Field buffer n) d.kind → new ≡ bound ++ t ∷ [] →
    bound ++ field_targets buffer i (drop i all) ≡ field_targets buffer 0 all → new ++ field_targets buffer (i + 1) (drop (i + 1) all) ≡ field_targets buffer 0 all
one_more_field buffer all i n d bound new t lt e same is is_new h =
    let next : drop i all ≡ d ∷ drop (i + 1) all = next_item all i d lt e in
    let h1 = rw next at h in
    rw (is_new, is, same) (rw append_assoc h1)

pub mask_of_no_name : (w : Scene) (e : Expression) → name_in e ≡ None → mask_of_name w e ≡ None
mask_of_no_name w e h = mask_of_name_is w e ∙ ap (λ (x : Option Named). from x (λ n. mask_of_meaning (meaning w n).is)) h

pub mask_of_a_name : (w : Scene) (e : Expression) (n : Named) → name_in e ≡ Some n → mask_of_name w e ≡ mask_of_meaning (meaning w n).is
mask_of_a_name w e n h = mask_of_name_is w e ∙ ap (λ (x : Option Named). from x (λ n. mask_of_meaning (meaning w n).is)) h

pub target_one : (names : List (Option Named)) (x : Option Named) → length names ≡ 1 → x ≡ get_or names 0 x → target_alone names ≡ x
target_one names x one is = ap target_alone (one_alone names x one is) ∙ itself x
  where
    itself : (y : Option Named) → target_alone (y ∷ []) ≡ y
    itself None = refl
    itself (Some n) = refl

pub import_of_one : (w : Scene) (names : List (Option Named)) (n : Named) → target_alone names ≡ Some n → import_targets w names ≡ import_alone w n (lone_buffer w n)
import_of_one w names n h = import_targets_is w names ∙ ap (by_alone w names) h

pub import_of_several : (w : Scene) (names : List (Option Named)) → target_alone names ≡ None → import_targets w names ≡ listed (import_target w) names
import_of_several w names h = import_targets_is w names ∙ ap (by_alone w names) h

-- ---- EXPORT

named_starts : (e : Expression) (n : Named) → name_in e ≡ Some n → starts_at e ≡ named_at n
named_starts (s.Name m) n h = let same : m ≡ n = cc in ap named_at same
named_starts (s.Literal v place) n h = absurd cc
named_starts (s.Grouped place a) n h = absurd cc
named_starts (s.Plus place a) n h = absurd cc
named_starts (s.Minus place a) n h = absurd cc
named_starts (s.Not place a) n h = absurd cc
named_starts (s.Two o place a b) n h = absurd cc
named_starts (s.And place a b) n h = absurd cc
named_starts (s.Or place a b) n h = absurd cc
named_starts (s.If place t a b) n h = absurd cc
named_starts (s.Available place b) n h = absurd cc
named_starts (s.Locked place b) n h = absurd cc
named_starts (s.Retry place) n h = absurd cc
named_starts (s.ReturnValue place) n h = absurd cc
named_starts (s.ErrorStatus place) n h = absurd cc
named_starts (s.Text place a mask) n h = absurd cc
named_starts (s.Call f place as_) n h = absurd cc

export_named : (w : Scene) (es : List Expression) (n : Named) (x : NamedBuffer) → named_alone es ≡ Some n → export_names w es (Some x) ≡ names_it w x Free true (named_at n) ∷ []
export_named w [] n x h = absurd cc
export_named w (e ∷ []) n x h = ap (λ p. names_it w x Free true p ∷ []) (named_starts e n (sym (named_one e) ∙ h))
export_named w (e ∷ f ∷ es) n x h = let none : named_alone (e ∷ f ∷ es) ≡ None = several_not_named e f es in absurd cc

pub exported_alone : (w : Scene) (es : List Expression) (n : Named) (x : NamedBuffer) (place : Place) → named_alone es ≡ Some n → Some x ≡ lone_buffer w n → place ≡ named_at n → IsExported w es x place
exported_alone w es n x place h is at_n = record {
  buffer = ap (λ (m : Option Named). from m (lone_buffer w)) h ∙ sym is;
  names = export_named w es n x h ∙ ap (λ p. names_it w x Free true p ∷ []) (sym at_n);
}

no_names : (w : Scene) (es : List Expression) → export_names w es None ≡ []
no_names w [] = refl
no_names w (e ∷ es) = refl

-- what EXPORT is judged to be, by the buffer that it names alone
abbrev judged_export : Scene → ℕ → List Expression → Option NamedBuffer → Judged Stmt
judged_export w number es alone =
    let x = export_record w number es alone in
    record { is = x.is; breaks = x.breaks; names = export_names w es alone ++ x.names }

pub export_of_values : (w : Scene) (number : ℕ) (es : List Expression) (values : List Expr) (t : Stmt) (o n : Notes) → from (named_alone es) (lone_buffer w) ≡ None →
    IsJudged (listed (expr_in w) es) values o n → t ≡ Export number values → IsJudged (exported w number es) t o n
export_of_values w number es values t o n none h is = subst (λ (alone : Option NamedBuffer). IsJudged (judged_export w number es alone) t o n) (sym none) (record {
  is = is ∙ ap (λ (vs : List Expr). Export number vs) h.is;
  first = h.first;
  names = h.names ∙ ap (λ (ns : List Naming). o.names ++ (ns ++ (listed (expr_in w) es).names)) (sym (no_names w es));
})

pub export_of_record : (w : Scene) (number k : ℕ) (es : List Expression) (x : NamedBuffer) (place : Place) (o n : Notes) → IsExported w es x place →
    k ≡ buffer_number w x.name → n.first ≡ o.first → n.names ≡ o.names ++ names_it w x Free true place ∷ [] → IsJudged (exported w number es) (ExportRecord number k) o n
export_of_record w number k es x place o n h same first names = subst (λ (alone : Option NamedBuffer). IsJudged (judged_export w number es alone) (ExportRecord number k) o n) (sym h.buffer) (record {
  is = ap (λ i. ExportRecord number i) same;
  first = first;
  names = names ∙ ap (λ (ns : List Naming). o.names ++ (ns ++ [])) (sym h.names);
})
