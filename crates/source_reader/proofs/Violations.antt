-- At most one rule is the first that a text breaks over a schema, and a text that denotes a tree breaks none.
use Rattle.std.proofs.Common.{ℕ, ◌<◌, ◌≤◌, ◌≡◌, ◌⊎◌, inl, inr, List, Option, Some, None, Result, Ok, Err, refl, sym, ◌∙◌, ap, subst, arith}
use Rattle.std.specs.Prelude.{slice_get, ◌==◌, if◌then◌else◌}
use Rattle.std.proofs.lemmas.Bool.{cases_order}
use Rattle.abl_base.specs.declared.place.Place.{Place}
use Rattle.abl_base.specs.declared.rule.Rule.{Rule}
use Rattle.abl_base.specs.declared.rule.Rule.TheVariants.{L1, L2, L3, L4, L5, G1, G2}
use Rattle.parse_tree.specs.declared.token.Token.{Token}
use Rattle.parse_tree.specs.declared.token.TokenKind.{TokenKind}
use Rattle.parse_tree.specs.declared.tree.Node.{Node}
use Rattle.abl_values.specs.Schema.{SchemaData}
use Rattle.lexer.specs.declared.form.Form.{Form}
use Rattle.lexer.specs.Texts.{BreaksFrom, here, later, Broken, no_token, open_comment, open_text, misfit, Misfit, long_name, long_first, long_second, long_whole, long_before, long_fraction, no_date, IsRefused, place_of, number}
use Rattle.lexer.proofs.Runs.{tokens_one}
use Rattle.parser.specs.Grammar.{Spells, kinds}
use Rattle.parser.specs.Violations.{Breaks as BreaksGrammar, IsFirst as IsFirstOfGrammar}
use Rattle.parser.proofs.NodeOrder.{one_tree}
use Rattle.syntax_tree.specs.Syntax.{Program as Syntax}
use Rattle.syntax_reader.specs.Nodes.{Source as TreeOf}
use Rattle.syntax_reader.specs.Statements.{IsProgram as Denotes}
use Rattle.syntax_reader.proofs.SameStatements.{same_program}
use Rattle.binder.specs.Sources.{bound}
use Rattle.buffer_scope.specs.Scoped.{with_scopes, first_broken as first_broken_scope}
use Rattle.block_rules.specs.Rules.{first_broken as first_broken_label}
use Rattle.bind_names.specs.declared.violation.Violation.{Violation}
use Rattle.bound_tree.specs.Tree.{Source}
use Rattle.txn_infer.specs.Flags.{with_flags}
use Rattle.source_reader.specs.Sources.{HasCleanTokens, IsSyntaxTree, HasSyntax, IsTreeOf, BreaksRule, of_tokens, of_grammar, of_types, of_scopes, of_blocks}

-- L1 to L5
data IsTokenRule : Rule → Type 0 where
  l1 : IsTokenRule L1
  l2 : IsTokenRule L2
  l3 : IsTokenRule L3
  l4 : IsTokenRule L4
  l5 : IsTokenRule L5

misfit_rule : {f : Form} {w : List ℕ} {rule : Rule} {offset : ℕ} → Misfit f w rule offset → IsTokenRule rule
misfit_rule (long_name h) = l4
misfit_rule (long_first h) = l4
misfit_rule (long_second h) = l4
misfit_rule (long_whole h) = l5
misfit_rule (long_before h) = l5
misfit_rule (long_fraction h) = l5
misfit_rule (no_date h) = l5

broken_rule : {text : List ℕ} {at spot : ℕ} {rule : Rule} → Broken text at rule spot → IsTokenRule rule
broken_rule (no_token gap g b q n) = l1
broken_rule (open_comment gap g) = l2
broken_rule (open_text gap g q n) = l3
broken_rule (misfit s m) = misfit_rule m

token_rule : {text : List ℕ} {at spot : ℕ} {rule : Rule} → BreaksFrom text at rule spot → IsTokenRule rule
token_rule (here b) = broken_rule b
token_rule (later s b) = token_rule b

abbrev rule_numbered : ℕ → Rule
rule_numbered n = if n == 1 then L1 else if n == 2 then L2 else if n == 3 then L3 else if n == 4 then L4 else L5

numbered : {rule : Rule} → IsTokenRule rule → rule_numbered (number rule) ≡ rule
numbered l1 = refl
numbered l2 = refl
numbered l3 = refl
numbered l4 = refl
numbered l5 = refl

-- the same rule at the same place
pub record Same (rule other : Rule) (place spot : Place) : Type 0 where
  pub rules : rule ≡ other
  pub places : place ≡ spot

module _ (text : List ℕ) where
  -- two positions are equal if neither precedes the other
  one_spot : (a b : ℕ) (m n : ℕ) → (a < b) ⊎ ((a ≡ b) × (m ≤ n)) → (b < a) ⊎ ((b ≡ a) × (n ≤ m)) → (a ≡ b) × (m ≡ n)
  one_spot a b m n (inl x) (inl y) = absurd (omega (arith, x, y))
  one_spot a b m n (inl x) (inr y) = let z = y.0 in absurd (omega (arith, x, z))
  one_spot a b m n (inr x) (inl y) = let z = x.0 in absurd (omega (arith, z, y))
  one_spot a b m n (inr x) (inr y) = let u = x.1 in let v = y.1 in (x.0, omega (arith, u, v))

  one_of_tokens : {rule other : Rule} {place spot : Place} → IsRefused text rule place → IsRefused text other spot → Same rule other place spot
  one_of_tokens {rule} {other} (at, first, is) (to, second, are) =
      let same = one_spot at to (number rule) (number other) (first.first other to second.breaks) (second.first rule at first.breaks) in
      record {
        rules = sym (numbered (token_rule first.breaks)) ∙ ap rule_numbered same.1 ∙ numbered (token_rule second.breaks);
        places = is ∙ ap (place_of text) same.0 ∙ sym are;
      }

rule_of_grammar : (tokens : List TokenKind) (rule : Rule) (p : ℕ) → BreaksGrammar tokens rule p → (rule ≡ G1) ⊎ (rule ≡ G2)
rule_of_grammar tokens G1 p a = inl refl
rule_of_grammar tokens G2 p a = inr refl
rule_of_grammar tokens rule p a = absurd a

-- G1 and G2 are not broken at one place
not_both : (tokens : List TokenKind) (p : ℕ) → BreaksGrammar tokens G1 p → BreaksGrammar tokens G2 p → ⊥
not_both tokens p a b = a.no_further b.so_far

one_rule_of_grammar : (tokens : List TokenKind) (rule other : Rule) (p : ℕ) → BreaksGrammar tokens rule p → BreaksGrammar tokens other p → rule ≡ other
one_rule_of_grammar tokens rule other p a b = by_case (rule_of_grammar tokens rule p a) (rule_of_grammar tokens other p b)
  where
    by_case : (rule ≡ G1) ⊎ (rule ≡ G2) → (other ≡ G1) ⊎ (other ≡ G2) → rule ≡ other
    by_case (inl x) (inl y) = x ∙ sym y
    by_case (inl x) (inr y) = absurd (not_both tokens p (subst (λ r. BreaksGrammar tokens r p) x a) (subst (λ r. BreaksGrammar tokens r p) y b))
    by_case (inr x) (inl y) = absurd (not_both tokens p (subst (λ r. BreaksGrammar tokens r p) y b) (subst (λ r. BreaksGrammar tokens r p) x a))
    by_case (inr x) (inr y) = x ∙ sym y

one_of_grammar : (tokens : List TokenKind) (rule other : Rule) (p q : ℕ) → IsFirstOfGrammar tokens rule p → IsFirstOfGrammar tokens other q → (rule ≡ other) × (p ≡ q)
one_of_grammar tokens rule other p q a b = by_case (cases_order p q)
  where
    by_case : (p ≡ q) ⊎ ((p < q) ⊎ (q < p)) → (rule ≡ other) × (p ≡ q)
    by_case (inl same) = (one_rule_of_grammar tokens rule other q (subst (BreaksGrammar tokens rule) same a.breaks) b.breaks, same)
    by_case (inr (inl below)) = absurd (b.none_before rule p below a.breaks)
    by_case (inr (inr above)) = absurd (a.none_before other q above b.breaks)

-- a place has at most one token
one_token : {found : Option Token} {token other : Token} → found ≡ Some token → found ≡ Some other → token ≡ other
one_token e f = let g = sym e ∙ f in cc

module _ (text : List ℕ) where
  same_of_grammar : {rule other : Rule} {at to : ℕ} {token second : Token} (tokens : List Token) →
      IsFirstOfGrammar (kinds tokens) rule at → slice_get tokens at ≡ Some token → IsFirstOfGrammar (kinds tokens) other to → slice_get tokens to ≡ Some second →
      Same rule other token.place second.place
  same_of_grammar {rule} {other} {at} {to} {second} tokens first here' next there =
      let same = one_of_grammar (kinds tokens) rule other at to first next in
      record {
        rules = same.0;
        places = ap (λ (t : Token). t.place) (one_token here' (subst (λ n. slice_get tokens n ≡ Some second) (sym same.1) there));
      }

  -- ---- what a text that breaks no rule L and G denotes

  not_clean : {rule : Rule} {place : Place} {tokens : List Token} → IsRefused text rule place → HasCleanTokens text tokens → ⊥
  not_clean {rule} refused has = has.clean rule refused.0 refused.1.breaks

  no_program : {rule : Rule} {at : ℕ} {more : List Token} {nodes : List Node} (tokens : List Token) → HasCleanTokens text tokens → IsFirstOfGrammar (kinds tokens) rule at → IsSyntaxTree text more nodes → ⊥
  no_program {rule} {at} {more} tokens has first is =
      let same : tokens ≡ more = tokens_one text tokens more has.has is.tokens_of.has in
      is.clean rule at (subst (λ ts. BreaksGrammar (kinds ts) rule at) same first.breaks)

  pub one_syntax : {p q : Syntax} → HasSyntax text p → HasSyntax text q → p ≡ q
  one_syntax {p} {q} a b =
      let tokens : a.tokens ≡ b.tokens = tokens_one text a.tokens b.tokens a.has_tree.tokens_of.has b.has_tree.tokens_of.has in
      let spelled : Spells a.nodes (kinds b.tokens) = subst (λ ts. Spells a.nodes (kinds ts)) tokens a.has_tree.spelled in
      let nodes : a.nodes ≡ b.nodes = one_tree a.nodes b.nodes (kinds b.tokens) spelled b.has_tree.spelled in
      let x : TreeOf = record { tokens = a.tokens; nodes = a.nodes } in
      let y : TreeOf = record { tokens = b.tokens; nodes = b.nodes } in
      let same : x ≡ y = cc (tokens, nodes) in
      same_program (subst (λ c. Denotes c p) same a.denotes) b.denotes (λ z. z ≡ q) refl

  one_label : {p q : Syntax} {x y : Option Violation} → HasSyntax text p → HasSyntax text q → first_broken_label p ≡ x → first_broken_label q ≡ y → x ≡ y
  one_label {p} {q} a b e f = sym e ∙ ap first_broken_label (one_syntax a b) ∙ f

  not_broken : {p q : Syntax} {v : Violation} → HasSyntax text p → HasSyntax text q → first_broken_label p ≡ None → first_broken_label q ≡ Some v → ⊥
  not_broken has is e f = let both = one_label has is e f in cc both

-- equal violations have the same rule and the same place
same_violation : {v w : Violation} → v ≡ w → Same v.rule w.rule v.place w.place
same_violation one = record { rules = ap (λ (x : Violation). x.rule) one; places = ap (λ (x : Violation). x.place) one }

one_some : {v w : Violation} → Some v ≡ Some w → v ≡ w
one_some e = cc e

one_err : {v w : Violation} → ◌≡◌ {A = Result Source Violation} (Err v) (Err w) → v ≡ w
one_err e = cc e

module _ (schema : SchemaData) (text : List ℕ) where
  one_bound : {p q : Syntax} {x y : Result Source Violation} → HasSyntax text p → HasSyntax text q → bound schema p ≡ x → bound schema q ≡ y → x ≡ y
  one_bound {p} {q} a b e f = sym e ∙ ap (λ s. bound schema s) (one_syntax text a b) ∙ f

  one_plain : {p q : Syntax} {a b : Source} → HasSyntax text p → HasSyntax text q → bound schema p ≡ Ok a → bound schema q ≡ Ok b → a ≡ b
  one_plain has is e f = let both = one_bound has is e f in cc both

  not_bound : {p q : Syntax} {a : Source} {v : Violation} → HasSyntax text p → HasSyntax text q → bound schema p ≡ Ok a → bound schema q ≡ Err v → ⊥
  not_bound has is e f = let both = one_bound has is e f in cc both

  -- one tree, before and after its buffers are scoped
  one_scoping : {p q : Syntax} {a b : Source} {x y : Option Violation} → HasSyntax text p → HasSyntax text q → bound schema p ≡ Ok a → bound schema q ≡ Ok b → first_broken_scope p a ≡ x → first_broken_scope q b ≡ y → x ≡ y
  one_scoping {p} {q} {a} {b} has is e f g h = sym g ∙ ap (λ s. first_broken_scope s a) (one_syntax text has is) ∙ ap (first_broken_scope q) (one_plain has is e f) ∙ h

  not_scoped : {p q : Syntax} {a b : Source} {v : Violation} → HasSyntax text p → HasSyntax text q → bound schema p ≡ Ok a → bound schema q ≡ Ok b → first_broken_scope p a ≡ None → first_broken_scope q b ≡ Some v → ⊥
  not_scoped has is e f g h = let both = one_scoping has is e f g h in cc both

  same_tree : {p q : Syntax} {a b : Source} → HasSyntax text p → HasSyntax text q → bound schema p ≡ Ok a → bound schema q ≡ Ok b → with_flags (with_scopes p a) ≡ with_flags (with_scopes q b)
  same_tree {q = q} {a = a} has is e f = ap (λ s. with_flags (with_scopes s a)) (one_syntax text has is) ∙ ap (λ t. with_flags (with_scopes q t)) (one_plain has is e f)

  -- at most one of the rules L, G, Y, S and U is the first one broken
  pub one_rule : {rule other : Rule} {place spot : Place} → BreaksRule schema text rule place → BreaksRule schema text other spot → Same rule other place spot
  one_rule (of_tokens a) (of_tokens b) = one_of_tokens text a b
  one_rule (of_tokens a) (of_grammar more have next there) = absurd (not_clean text a have)
  one_rule (of_tokens a) (of_types q is violated) = absurd (not_clean text a is.has_tree.tokens_of)
  one_rule (of_tokens a) (of_scopes q y is f violated) = absurd (not_clean text a is.has_tree.tokens_of)
  one_rule (of_tokens a) (of_blocks q y is f scoping violated) = absurd (not_clean text a is.has_tree.tokens_of)
  one_rule (of_grammar tokens has first token) (of_tokens b) = absurd (not_clean text b has)
  one_rule (of_grammar {rule} {at} {token} tokens has first here') (of_grammar more have next there) =
      let same : tokens ≡ more = tokens_one text tokens more has.has have.has in
      same_of_grammar text more (subst (λ ts. IsFirstOfGrammar (kinds ts) rule at) same first) (subst (λ ts. slice_get ts at ≡ Some token) same here') next there
  one_rule (of_grammar tokens has first token) (of_types q is violated) = absurd (no_program text tokens has first is.has_tree)
  one_rule (of_grammar tokens has first token) (of_scopes q y is f violated) = absurd (no_program text tokens has first is.has_tree)
  one_rule (of_grammar tokens has first token) (of_blocks q y is f scoping violated) = absurd (no_program text tokens has first is.has_tree)
  one_rule (of_types p has broken) (of_tokens b) = absurd (not_clean text b has.has_tree.tokens_of)
  one_rule (of_types p has broken) (of_grammar more have next there) = absurd (no_program text more have next has.has_tree)
  one_rule (of_types p has broken) (of_types q is violated) = same_violation (one_err (one_bound has is broken violated))
  one_rule (of_types p has broken) (of_scopes q y is f violated) = absurd (not_bound is has f broken)
  one_rule (of_types p has broken) (of_blocks q y is f scoping violated) = absurd (not_bound is has f broken)
  one_rule (of_scopes p x has e broken) (of_tokens b) = absurd (not_clean text b has.has_tree.tokens_of)
  one_rule (of_scopes p x has e broken) (of_grammar more have next there) = absurd (no_program text more have next has.has_tree)
  one_rule (of_scopes p x has e broken) (of_types q is violated) = absurd (not_bound has is e violated)
  one_rule (of_scopes p x has e broken) (of_scopes q y is f violated) = same_violation (one_some (one_scoping has is e f broken violated))
  one_rule (of_scopes p x has e broken) (of_blocks q y is f scoping violated) = absurd (not_scoped is has f e scoping broken)
  one_rule (of_blocks p x has e scopes broken) (of_tokens b) = absurd (not_clean text b has.has_tree.tokens_of)
  one_rule (of_blocks p x has e scopes broken) (of_grammar more have next there) = absurd (no_program text more have next has.has_tree)
  one_rule (of_blocks p x has e scopes broken) (of_types q is violated) = absurd (not_bound has is e violated)
  one_rule (of_blocks p x has e scopes broken) (of_scopes q y is f violated) = absurd (not_scoped has is e f scopes violated)
  one_rule (of_blocks p x has e scopes broken) (of_blocks q y is f scoping violated) = same_violation (one_some (one_label text has is broken violated))

  -- a text with a tree breaks none of them
  pub trees_break_none : {rule : Rule} {place : Place} {tree : Source} → IsTreeOf schema text tree → BreaksRule schema text rule place → ⊥
  trees_break_none t (of_tokens a) = not_clean text a t.has.has_tree.tokens_of
  trees_break_none t (of_grammar tokens has first token) = no_program text tokens has first t.has.has_tree
  trees_break_none t (of_types syntax_of has broken) = not_bound t.has has t.is_bound broken
  trees_break_none t (of_scopes syntax_of plain has is broken) = not_scoped t.has has t.is_bound is t.scopes broken
  trees_break_none t (of_blocks syntax_of plain has is scopes broken) = not_broken text t.has has t.clean broken

  -- A TEXT HAS ONE TREE
  pub one_tree_of : {a b : Source} → IsTreeOf schema text a → IsTreeOf schema text b → a ≡ b
  one_tree_of a b = a.flags ∙ same_tree a.has b.has a.is_bound b.is_bound ∙ sym b.flags
