-- Nothing follows the end token.
use Rattle.std.proofs.Common.{ℕ, ◌+◌, ◌≡◌, true, List, [], ◌∷◌, ◌++◌, refl, sym, ◌∙◌, subst, ◌⊎◌, inl, inr}
use Rattle.parse_tree.specs.declared.token.TokenKind.{TokenKind}
use Rattle.parse_tree.specs.declared.token.TokenKind.TheVariants.{EndOfSource}
use Rattle.parse_tree.specs.declared.tree.Node.{Node}
use Rattle.parser.specs.declared.symbol.Entry.{Entry}
use Rattle.parser.specs.declared.symbol.Opening.{Opening}
use Rattle.parser.specs.Same.{same_kind}
use Rattle.parser.specs.Grammar.{Spells, openings, full}
use Rattle.parser.specs.Table.{ends_once, is_nil}
use Rattle.parser.specs.Engine.{plain, Steps, done, take_one, open_one}
use Rattle.std.proofs.lemmas.Bool.{cases_Bool, cond-true, cond-false}
use Rattle.parser.proofs.Flags.{nil_is, kinds_equal, same_first, same_rest}
use Rattle.parser.proofs.Steps.{ends_row}
use Rattle.parser.proofs.Runs.{plain_nil, no_more, steps_of_forest, open_source}

not_empty : (xs ys : List TokenKind) → [] ≡ xs ++ EndOfSource ∷ ys → ⊥
not_empty [] ys e = cc
not_empty (x ∷ xs) ys e = cc

-- where the end token is taken, it was the last awaited
last_taken : (at : ℕ) (k : TokenKind) (stack : List Entry) (os : List Opening) (ts : List TokenKind) → ends_once (plain stack) ≡ true ⊎ (same_kind k EndOfSource ≡ true) → same_kind k EndOfSource ≡ true → Steps at stack os ts → is_nil (plain stack) ≡ true → ts ≡ []
last_taken at k stack os ts c e d n = (no_more (subst (λ s. Steps at s os ts) (plain_nil stack (nil_is (plain stack) n)) d)).1

ends_here : {at : ℕ} {stack : List Entry} {os : List Opening} {ts : List TokenKind} → Steps at stack os ts → ends_once (plain stack) ≡ true → (xs ys : List TokenKind) → ts ≡ xs ++ EndOfSource ∷ ys → ys ≡ []
ends_here done e xs ys f = absurd (not_empty xs ys f)
ends_here (take_one {at} {stack} {os} {k} {ts} d) e [] ys f =
    let s : same_kind k EndOfSource ≡ true = kinds_equal k EndOfSource (same_first f) in
    let n : is_nil (plain stack) ≡ true = sym (cond-true (same_kind k EndOfSource) (is_nil (plain stack)) (ends_once (plain stack)) s) ∙ e in
    sym (same_rest f) ∙ last_taken (at + 1) k stack os ts (inr s) s d n
ends_here (take_one {at} {stack} {os} {k} {ts} d) e (x ∷ xs) ys f = elim (cases_Bool (same_kind k EndOfSource)) [
  | inl s ↦ (
      let n : is_nil (plain stack) ≡ true = sym (cond-true (same_kind k EndOfSource) (is_nil (plain stack)) (ends_once (plain stack)) s) ∙ e in
      absurd (not_empty xs ys (sym (last_taken (at + 1) k stack os ts (inr s) s d n) ∙ same_rest f)))
  | inr s ↦ ends_here d (sym (cond-false (same_kind k EndOfSource) (is_nil (plain stack)) (ends_once (plain stack)) s) ∙ e) xs ys (same_rest f)
]
ends_here (open_one {at} {stack} {os} {ts} {a} {room} r w p g d) e xs ys f = ends_here d (ends_row room a r _ stack _ w refl refl e) xs ys f

pub nothing_follows : (xs ys : List TokenKind) (tree : List Node) → Spells tree (xs ++ EndOfSource ∷ ys) → ys ≡ []
nothing_follows xs ys tree s = ends_here (steps_of_forest s.0 (openings 0 full s.0) (xs ++ EndOfSource ∷ ys) s.1.derives refl s.1.spells) open_source xs ys refl
