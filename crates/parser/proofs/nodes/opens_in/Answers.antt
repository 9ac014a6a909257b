use Rattle.std.proofs.Common.{ℕ, zero, suc, ◌+◌, ◌<◌, ◌≡◌, Bool, true, false, cond, List, [], ◌∷◌, length, drop, slice_index_or, sym, ◌∙◌, ap, arith}
use Rattle.parser.specs.declared.symbol.Symbol.{Symbol}
use Rattle.parser.specs.declared.symbol.Symbol.TheVariants.{Take, Open}
use Rattle.parser.specs.Closing.{opens_in, is_nonterminal}
use Rattle.parser.proofs.nodes.opens_in.Goals as goal
use Rattle.parser.proofs.nodes.opens_in.Goals.{then-is_nonterminal, else-is_nonterminal}

one_on : (xs : List Symbol) (i : ℕ) (d : Symbol) → i < length xs → opens_in (drop i xs) ≡ cond (is_nonterminal (slice_index_or xs i d)) 1 0 + opens_in (drop (suc i) xs)
one_on [] i d h = absurd (omega arith)
one_on (Take k ∷ xs) zero d h = omega arith
one_on (Open a ∷ xs) zero d h = omega arith
one_on (Take k ∷ xs) (suc i) d h = one_on xs i d (omega arith)
one_on (Open a ∷ xs) (suc i) d h = one_on xs i d (omega arith)

counted : (xs : List Symbol) (i p q : ℕ) (d : Symbol) (b : Bool) → i < length xs → b ≡ is_nonterminal (slice_index_or xs i d) → opens_in xs ≡ p + opens_in (drop i xs) → q ≡ p + cond b 1 0 → opens_in xs ≡ q + opens_in (drop (i + 1) xs)
counted xs i p q d b h e f g =
    let a : opens_in (drop i xs) ≡ cond b 1 0 + opens_in (drop (suc i) xs) = one_on xs i d h ∙ ap (λ t. cond t 1 0 + opens_in (drop (suc i) xs)) (sym e) in
    let n : i + 1 ≡ suc i = omega arith in
    let s : opens_in (drop (i + 1) xs) ≡ opens_in (drop (suc i) xs) = ap (λ m. opens_in (drop m xs)) n in
    omega arith

pub loop-symbol-preserved : goal.loop-symbol-preserved
loop-symbol-preserved c =
    elim c.if-is_nonterminal.branch [
      | then-is_nonterminal w ↦ (omega arith, counted c.args.symbols.now c.loop-symbol.symbol-index c.loop-symbol.nonterminals c.if-is_nonterminal.nonterminals _ true c.loop-symbol-test.true (sym w.if-is_nonterminal.true ∙ c.is_nonterminal.ensures) c.loop-symbol.invariant.1 (omega arith))
      | else-is_nonterminal w ↦ (omega arith, counted c.args.symbols.now c.loop-symbol.symbol-index c.loop-symbol.nonterminals c.if-is_nonterminal.nonterminals _ false c.loop-symbol-test.true (sym w.if-is_nonterminal.false ∙ c.is_nonterminal.ensures) c.loop-symbol.invariant.1 (omega arith))
    ]
