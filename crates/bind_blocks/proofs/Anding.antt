-- What the AND parts of a chain say, from its operands on the left.
use Rattle.std.proofs.Common.{◌≡◌, ◌<◌, ◌+◌, ℕ, Bool, true, false, List, [], ◌∷◌, ◌++◌, length, take, get_or, Option, Some, None, refl, ap, sym, ◌∙◌, arith}
use Rattle.std.proofs.lemmas.List.{nil_from_length, take_more}
use Rattle.std.specs.Prelude.{Box, Vec, ◌&&◌, not, if◌then◌else◌}
use Rattle.std.specs.List.{list_any}
use Rattle.abl_values.specs.Schema.{same_name}
use Rattle.bind_names.specs.declared.names.Naming.{Naming}
use Rattle.bind_names.specs.declared.notes.Notes.{Notes}
use Rattle.bind_names.specs.Views.{IsJudged}
use Rattle.bind_expressions.specs.Expressions.{Typed, expression}
use Rattle.std.specs.declared.alloc.Global.{Global}
use Rattle.abl_base.specs.declared.place.Place.{Place}
use Rattle.bound_tree.specs.declared.expression.Binary.{Binary}
use Rattle.bound_tree.specs.Tree.{Expr}
use Rattle.syntax_tree.specs.declared.name.Named.{Named}
use Rattle.syntax_tree.specs.declared.expression.Operator.{Operator}
use Rattle.syntax_tree.specs.declared.expression.Operator.TheVariants as op
use Rattle.syntax_tree.specs.declared.expression.Link.{Link}
use Rattle.syntax_tree.specs.declared.expression.Expression.{Expression as TypedExpression}
use Rattle.syntax_tree.specs.declared.expression.Expression.TheViews as view
use Rattle.syntax_tree.proofs.Chains.{chain_is}
use Rattle.syntax_tree.specs.Syntax as s
use Rattle.syntax_tree.specs.Syntax.{Expression}
use Rattle.syntax_tree.specs.Typed.{expression_of, joined, linked_of}
use Rattle.bind_names.specs.declared.names.NamedBuffer.{NamedBuffer}
use Rattle.bind_names.specs.Names.{Scene, buffer_number, meaning, or_else}
use Rattle.bind_blocks.specs.Records.{and_parts, first_said, is_equal_sign, is_field, said_of}
use Rattle.bind_blocks.specs.Views.{lone_name, said_by}

or_else_again : {A : Type 0} (a b c : Option A) → or_else (or_else a b) c ≡ or_else a (or_else b c)
or_else_again None b c = refl
or_else_again (Some a) b c = refl

or_else_nothing : {A : Type 0} (a : Option A) → or_else a None ≡ a
or_else_nothing None = refl
or_else_nothing (Some a) = refl

first_said_append : (w : Scene) (x : NamedBuffer) (f : ℕ) (es fs : List Expression) → first_said w x f (es ++ fs) ≡ or_else (first_said w x f es) (first_said w x f fs)
first_said_append w x f [] fs = refl
first_said_append w x f (e ∷ es) fs = ap (or_else (said_of w x f e)) (first_said_append w x f es fs) ∙ sym (or_else_again (said_of w x f e) (first_said w x f es) (first_said w x f fs))

said_of_two : (w : Scene) (x : NamedBuffer) (f : ℕ) (o : Binary) (at : Place) (a b : Expression) → said_of w x f (s.Two o at a b) ≡ said_by w x f o (lone_name a) b
said_of_two w x f o at (s.Name n) b = refl
said_of_two w x f o at (s.Literal v p) b = refl
said_of_two w x f o at (s.Grouped p a) b = refl
said_of_two w x f o at (s.Plus p a) b = refl
said_of_two w x f o at (s.Minus p a) b = refl
said_of_two w x f o at (s.Not p a) b = refl
said_of_two w x f o at (s.Two o' p a c) b = refl
said_of_two w x f o at (s.And p a c) b = refl
said_of_two w x f o at (s.Or p a c) b = refl
said_of_two w x f o at (s.If p t a c) b = refl
said_of_two w x f o at (s.Available p n) b = refl
said_of_two w x f o at (s.Locked p n) b = refl
said_of_two w x f o at (s.Retry p) b = refl
said_of_two w x f o at (s.ReturnValue p) b = refl
said_of_two w x f o at (s.ErrorStatus p) b = refl
said_of_two w x f o at (s.Text p a m) b = refl
said_of_two w x f o at (s.Call g p as_) b = refl

-- a value that names the buffer says nothing
never : (p q : Bool) → (p && (q && false)) ≡ false
never true true = refl
never true false = refl
never false q = refl

pub said_itself : (w : Scene) (x : NamedBuffer) (f : ℕ) (o : Binary) (name : Option Named) (e : Expression) (r : Typed) (begun n : Notes) → begun.names ≡ [] → IsJudged (expression w e) r begun n →
    list_any (λ (m : Naming). same_name m.name x.name) n.names ≡ true → None ≡ said_by w x f o name e
said_itself w x f o None e r begun n none h t = refl
said_itself w x f o (Some m) e r begun n none h t =
    let same : n.names ≡ (expression w e).names = h.names ∙ ap (λ (ns : List Naming). ns ++ (expression w e).names) none in
    let hit : list_any (λ (m : Naming). same_name m.name x.name) (expression w e).names ≡ true = ap (list_any (λ (m : Naming). same_name m.name x.name)) (sym same) ∙ t in
    let fails : (is_equal_sign o && (is_field (buffer_number w x.name) f (meaning w m).is && not (list_any (λ (m : Naming). same_name m.name x.name) (expression w e).names))) ≡ false =
    ap (λ (b : Bool). is_equal_sign o && (is_field (buffer_number w x.name) f (meaning w m).is && not b)) hit ∙ never (is_equal_sign o) (is_field (buffer_number w x.name) f (meaning w m).is) in
    sym (ap (λ (b : Bool). if b then Some (expression w e).is.expr else None) fails)

-- what is said with one more operand
pub said_with_and : (w : Scene) (x : NamedBuffer) (f : ℕ) (o : Operator) (at : Place) (a b : Expression) (u v : Option Expr) → o ≡ op.And →
    u ≡ first_said w x f (and_parts a) → v ≡ first_said w x f (and_parts b) → or_else u v ≡ first_said w x f (and_parts (joined o at a b))
said_with_and w x f o at a b u v is hu hv = rw (is, hu, hv) (sym (first_said_append w x f (and_parts a) (and_parts b)))

pub said_with_two : (w : Scene) (x : NamedBuffer) (f : ℕ) (o : Operator) (two : Binary) (at : Place) (a b : Expression) (n : Option Named) (v : Option Expr) → o ≡ op.Two two →
    n ≡ lone_name a → v ≡ said_by w x f two n b → v ≡ first_said w x f (and_parts (joined o at a b))
said_with_two w x f o two at a b n v is hn hv = rw (is, hv, hn) (sym (or_else_nothing (said_of w x f (s.Two two at a b)) ∙ said_of_two w x f two at a b))

-- ---- chains

linked_of_append : (ls : List Link) (l : Link) (a : Expression) → linked_of (ls ++ l ∷ []) a ≡ joined l.operator l.at (linked_of ls a) (expression_of l.operand)
linked_of_append [] l a = refl
linked_of_append (k ∷ ks) l a = linked_of_append ks l (joined k.operator k.at a (expression_of k.operand))

joined_is_no_name : (o : Operator) (at : Place) (a b : Expression) → lone_name (joined o at a b) ≡ None
joined_is_no_name (op.Two o) at a b = refl
joined_is_no_name op.And at a b = refl
joined_is_no_name op.Or at a b = refl

stays_no_name : (ls : List Link) (a : Expression) → lone_name a ≡ None → lone_name (linked_of ls a) ≡ None
stays_no_name [] a e = e
stays_no_name (l ∷ ls) a e = stays_no_name ls _ (joined_is_no_name l.operator l.at a (expression_of l.operand))

pub without_links : (ls : List Link) (a : Expression) → length ls ≡ 0 → lone_name (linked_of ls a) ≡ lone_name a
without_links ls a e = rw (nil_from_length ls e) refl

pub with_links : (ls : List Link) (a : Expression) → 0 < length ls → lone_name (linked_of ls a) ≡ None
with_links [] a lt = absurd (omega arith)
with_links (l ∷ ls) a lt = stays_no_name ls _ (joined_is_no_name l.operator l.at a (expression_of l.operand))

-- what is before an operator, as the program has it
pub left_alone : (e : TypedExpression) (first : Box TypedExpression Global) (v : Vec Link Global) (a : TypedExpression) (name : Option Named) → e ≡ view.Chain first v → a ≡ first.value → length v.items ≡ 0 →
    name ≡ lone_name (expression_of a) → name ≡ lone_name (expression_of e)
left_alone e first v a name is is_a none h =
    h ∙ ap (λ (x : TypedExpression). lone_name (expression_of x)) is_a ∙ sym (ap (λ (x : TypedExpression). lone_name (expression_of x)) is ∙ ap lone_name (chain_is first v) ∙ without_links v.items (expression_of first.value) none)

pub left_linked : (e : TypedExpression) (first : Box TypedExpression Global) (v : Vec Link Global) → e ≡ view.Chain first v → 0 < length v.items → None ≡ lone_name (expression_of e)
left_linked e first v is some = sym (ap (λ (x : TypedExpression). lone_name (expression_of x)) is ∙ ap lone_name (chain_is first v) ∙ with_links v.items (expression_of first.value) some)

-- a chain, as the program has it
pub chain_says : (w : Scene) (x : NamedBuffer) (f : ℕ) (e : TypedExpression) (first : Box TypedExpression Global) (v : Vec Link Global) (a : TypedExpression) (ls : List Link) → e ≡ view.Chain first v → a ≡ first.value → ls ≡ v.items →
    (name : Option Named) (begun r : Option Expr) → name ≡ lone_name (expression_of a) → begun ≡ first_said w x f (and_parts (expression_of a)) →
    ((b : Expression) → name ≡ lone_name b → begun ≡ first_said w x f (and_parts b) → r ≡ first_said w x f (and_parts (linked_of ls b))) → r ≡ first_said w x f (and_parts (expression_of e))
chain_says w x f e first v a ls is is_a is_ls name begun r hn hb all =
    let t = all (expression_of a) hn hb in
    rw (is, chain_is first v) (rw (is_a, is_ls) at t)

-- the results for the first i links of the chain
pub record LinksSay (w : Scene) (x : NamedBuffer) (f : ℕ) (a : Expression) (ls : List Link) (i : ℕ) (name : Option Named) (found : Option Expr) : Type 0 where
  pub alone : name ≡ lone_name (linked_of (take i ls) a)
  pub said : found ≡ first_said w x f (and_parts (linked_of (take i ls) a))

pub next_links : (ls : List Link) (i : ℕ) (l : Link) (a : Expression) → i < length ls → l ≡ get_or ls i l → linked_of (take (i + 1) ls) a ≡ joined l.operator l.at (linked_of (take i ls) a) (expression_of l.operand)
next_links ls i l a lt e = ap (λ ks. linked_of ks a) (take_more ls i l lt) ∙ (rw (← e) (linked_of_append (take i ls) l a))

pub one_more_says : (w : Scene) (x : NamedBuffer) (f : ℕ) (a : Expression) (ls : List Link) (i : ℕ) (l : Link) (found : Option Expr) → i < length ls → l ≡ get_or ls i l →
    found ≡ first_said w x f (and_parts (joined l.operator l.at (linked_of (take i ls) a) (expression_of l.operand))) → LinksSay w x f a ls (i + 1) None found
one_more_says w x f a ls i l found lt e h = record {
  alone = sym (ap lone_name (next_links ls i l a lt e) ∙ joined_is_no_name l.operator l.at (linked_of (take i ls) a) (expression_of l.operand));
  said = h ∙ ap (λ b. first_said w x f (and_parts b)) (sym (next_links ls i l a lt e));
}

take_whole : {A : Type 0} (xs : List A) → take (length xs) xs ≡ xs
take_whole [] = refl
take_whole (x ∷ xs) = ap (λ ys. x ∷ ys) (take_whole xs)

pub links_say_all : (w : Scene) (x : NamedBuffer) (f : ℕ) (a : Expression) (ls : List Link) (i : ℕ) (name : Option Named) (found : Option Expr) → i ≡ length ls → LinksSay w x f a ls i name found →
    found ≡ first_said w x f (and_parts (linked_of ls a))
links_say_all w x f a ls i name found e h = h.said ∙ ap (λ ks. first_said w x f (and_parts (linked_of ks a))) (ap (λ j. take j ls) e ∙ take_whole ls)
