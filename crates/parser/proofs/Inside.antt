-- Each node of a tree lies within it.
use Rattle.std.proofs.Common.{ℕ, zero, suc, ◌+◌, ◌<◌, ◌≤◌, ◌≡◌, List, [], ◌∷◌, ◌++◌, length, length-append, slice_get, Some, None, refl, sym, ◌∙◌, ap, subst, arith}
use Rattle.parse_tree.specs.declared.token.TokenKind.{TokenKind}
use Rattle.parse_tree.specs.declared.tree.Node.{Node}
use Rattle.parse_tree.specs.declared.production.TheConstants.{PRODUCTIONS}
use Rattle.parser.specs.declared.symbol.Symbol.{Symbol}
use Rattle.parser.specs.declared.symbol.Symbol.TheVariants.{Take, Open}
use Rattle.parser.specs.Grammar.{Forest, none, leaf, node, spelt, Derives, rule, rules, row, nonterminals, symbols, symbols_from, starts, starts_from, empty, rule_count, whole, nodes, node_count, Spells}
use Rattle.parser.specs.Within.{IsWithin}

rows_named : rule_count ≡ PRODUCTIONS
unfolding rules row nonterminals symbols symbols_from starts starts_from empty
rows_named = refl

record Fit (number last most : ℕ) (x : Node) : Type 0 where
  beyond : number < x.end
  ends : x.end ≤ last
  begins : x.first ≤ most
  uses : x.production < rule_count

AllFit : ℕ → ℕ → ℕ → List Node → Type 0
AllFit number last most [] = Unit {0}
AllFit number last most (x ∷ xs) = Fit number last most x × AllFit (number + 1) last most xs

all_append : (n last most : ℕ) (xs ys : List Node) → AllFit n last most xs → AllFit (n + length xs) last most ys → AllFit n last most (xs ++ ys)
unfolding AllFit
all_append n last most [] ys h g = subst (λ m. AllFit m last most ys) (omega arith) g
all_append n last most (x ∷ xs) ys h g = (h.0, all_append (n + 1) last most xs ys h.1 (subst (λ m. AllFit m last most ys) (omega arith) g))

nodes_long : (f : Forest) (n at : ℕ) → length (nodes n at f) ≡ node_count f
nodes_long none n at = refl
nodes_long (leaf k f) n at = nodes_long f n (at + 1)
nodes_long (node r f g) n at =
    let a = nodes_long f (n + 1) at in
    let b = nodes_long g (n + 1 + node_count f) (at + length (spelt f)) in
    let c = length-append (nodes (n + 1) at f) (nodes (n + 1 + node_count f) (at + length (spelt f)) g) in
    omega arith

all_fit : (f : Forest) (n at last most : ℕ) (symbols : List Symbol) (after : List TokenKind) → Derives f symbols after → n + node_count f ≤ last → at + length (spelt f) ≤ most → AllFit n last most (nodes n at f)
unfolding AllFit
all_fit none n at last most [] after d h g = tt
all_fit (leaf k f) n at last most (Take w ∷ symbols) after d h g = all_fit f n (at + 1) last most symbols after d.1 h (omega arith)
all_fit (node r f g) n at last most (Open a ∷ symbols) after d h i =
    let next = at + length (spelt f) in
    let m = n + 1 + node_count f in
    let l = length-append (spelt f) (spelt g) in
    let long = nodes_long f (n + 1) at in
    let s : n + 1 + length (nodes (n + 1) at f) ≡ m = omega arith in (
      record { beyond = omega arith; ends = omega arith; begins = omega arith; uses = d.0 },
      all_append (n + 1) last most (nodes (n + 1) at f) (nodes m next g)
          (all_fit f (n + 1) at last most (rule r).symbols _ d.3 (omega arith) (omega arith))
          (subst (λ x. AllFit x last most (nodes m next g)) (sym s) (all_fit g m next last most symbols after d.4 (omega arith) (omega arith))),
    )
all_fit none n at last most (x ∷ symbols) after d h g = absurd d
all_fit (leaf k f) n at last most [] after d h g = absurd d
all_fit (leaf k f) n at last most (Open a ∷ symbols) after d h g = absurd d
all_fit (node r f g) n at last most [] after d h i = absurd d
all_fit (node r f g) n at last most (Take w ∷ symbols) after d h i = absurd d

fit_at : (xs : List Node) (n last most i : ℕ) (x : Node) → AllFit n last most xs → slice_get xs i ≡ Some x → Fit (n + i) last most x
unfolding AllFit
fit_at [] n last most i x h e = absurd (let z : None ≡ Some x = e in cc)
fit_at (y ∷ ys) n last most zero x h e = let z : y ≡ x = cc in subst (λ m. Fit m last most x) (omega arith) (subst (λ w. Fit n last most w) z h.0)
fit_at (y ∷ ys) n last most (suc i) x h e = subst (λ m. Fit m last most x) (omega arith) (fit_at ys (n + 1) last most i x h.1 e)

-- a program, and after it the end token
record Cut (f : Forest) : Type 0 where
  before : ℕ
  fits : AllFit 0 (node_count f) before (nodes 0 0 f)
  shorter : before < length (spelt f)

cut : (f : Forest) → Derives f whole [] → Cut f
unfolding AllFit
cut (node r f (leaf k none)) d =
    let long = length-append (spelt f) (k ∷ []) in
    let last = node_count (node r f (leaf k none)) in
    record {
      before = length (spelt f);
      fits = (
        record { beyond = omega arith; ends = omega arith; begins = omega arith; uses = d.0 },
        all_append 1 last (length (spelt f)) (nodes 1 0 f) [] (all_fit f 1 0 last (length (spelt f)) (rule r).symbols _ d.3 (omega arith) (omega arith)) tt,
      );
      shorter = omega arith;
    }
cut none d = absurd d
cut (leaf k f) d = absurd d
cut (node r f none) d = absurd d.4
cut (node r f (node q g h)) d = absurd d.4
cut (node r f (leaf k (leaf j g))) d = absurd d.4.1
cut (node r f (leaf k (node q g h))) d = absurd d.4.1

pub within : (tree : List Node) (tokens : List TokenKind) → Spells tree tokens → (number : ℕ) (x : Node) → slice_get tree number ≡ Some x → IsWithin number x tree tokens
within tree tokens s number x e =
    let f = s.0 in
    let t = s.1 in
    let c = cut f t.derives in
    let w = fit_at (nodes 0 0 f) 0 (node_count f) c.before number x c.fits (ap (λ y. slice_get y number) t.laid ∙ e) in
    let a = w.beyond in
    let b = w.ends in
    let g = w.begins in
    let u = w.uses in
    let r = rows_named in
    let m : node_count f ≡ length tree = sym (nodes_long f 0 0) ∙ ap length t.laid in
    let l : length (spelt f) ≡ length tokens = ap length t.spells in
    let h = c.shorter in
    record { ends_beyond = omega arith; ends_within = omega arith; begins = omega arith; uses = omega arith }
