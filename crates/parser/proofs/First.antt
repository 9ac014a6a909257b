-- Which tokens a derivation can begin with.
use Rattle.std.proofs.Common.{ℕ, zero, suc, ◌≤◌, ◌≡◌, List, [], ◌∷◌, ◌++◌, length, sym, ap, subst, arith, ◌⊎◌, inl, inr}
use Rattle.parse_tree.specs.declared.token.TokenKind.{TokenKind}
use Rattle.parser.specs.declared.symbol.Symbol.{Symbol}
use Rattle.parser.specs.declared.symbol.Symbol.TheVariants.{Take, Open}
use Rattle.parser.specs.declared.symbol.Room.{Room}
use Rattle.parser.specs.declared.symbol.Entry.{Entry}
use Rattle.parser.specs.declared.symbol.Opening.{Opening}
use Rattle.parser.specs.Grammar.{rule, inside, Vanishes, nothing, both, Begins, here, inside_nonterminal, past}
use Rattle.parser.specs.Engine.{entries, Steps}
use Rattle.parser.proofs.Flags.{same_first, no_first}
use Rattle.parser.proofs.Trees.{taken, opened}

-- the symbols derive no tokens, and the derivation continues after them
pub record Passed (at : ℕ) (symbols : List Symbol) (stack : List Entry) (os : List Opening) (ts : List TokenKind) : Type 0 where
  pub vanishes : Vanishes symbols
  pub more : List Opening
  pub shorter : length more ≤ length os
  pub then' : Steps at stack more ts

abbrev pub First : ℕ → List Symbol → List Entry → List Opening → TokenKind → List TokenKind → Type 0
First at symbols stack os k ts = Begins symbols k ⊎ Passed at symbols stack os (k ∷ ts)

pub first : (n at : ℕ) (room : Room) (symbols : List Symbol) (stack : List Entry) (os : List Opening) (k : TokenKind) (ts : List TokenKind) → length os ≤ n → Steps at (entries room symbols ++ stack) os (k ∷ ts) → First at symbols stack os k ts
first n at room [] stack os k ts h d = inr (record { vanishes = nothing; more = os; shorter = omega arith; then' = d })
first n at room (Take w ∷ symbols) stack os k ts h d = inl (subst (λ x. Begins (Take w ∷ symbols) x) (sym (same_first (taken d).is)) here)
first zero at room (Open a ∷ symbols) stack os k ts h d =
    let o = opened d in
    let e : length os ≡ suc (length o.rest) = ap length o.is in
    absurd (omega arith)
first (suc n) at room (Open a ∷ symbols) stack os k ts h d =
    let o = opened d in
    let e : length os ≡ suc (length o.rest) = ap length o.is in
    elim (first n at (inside o.r room) (rule o.r).symbols (entries room symbols ++ stack) o.rest k ts (omega arith) o.then') [
      | inl b ↦ inl (inside_nonterminal o.r o.within o.nonterminal b)
      | inr p ↦
          elim (first n at room symbols stack p.more k ts (let s = p.shorter in omega arith) p.then') [
            | inl b ↦ inl (past (both o.r o.within p.vanishes nothing o.nonterminal) b)
            | inr q ↦ inr (record { vanishes = both o.r o.within p.vanishes q.vanishes o.nonterminal; more = q.more; shorter = (let s = p.shorter in let s' = q.shorter in omega arith); then' = q.then' })
          ]
    ]

-- where no token remains, the symbols derive no tokens
pub silent : (n at : ℕ) (room : Room) (symbols : List Symbol) (stack : List Entry) (os : List Opening) → length os ≤ n → Steps at (entries room symbols ++ stack) os [] → Passed at symbols stack os []
silent n at room [] stack os h d = record { vanishes = nothing; more = os; shorter = omega arith; then' = d }
silent n at room (Take w ∷ symbols) stack os h d = absurd (no_first (taken d).is)
silent zero at room (Open a ∷ symbols) stack os h d =
    let o = opened d in
    let e : length os ≡ suc (length o.rest) = ap length o.is in
    absurd (omega arith)
silent (suc n) at room (Open a ∷ symbols) stack os h d =
    let o = opened d in
    let e : length os ≡ suc (length o.rest) = ap length o.is in
    let p = silent n at (inside o.r room) (rule o.r).symbols (entries room symbols ++ stack) o.rest (omega arith) o.then' in
    let q = silent n at room symbols stack p.more (let s = p.shorter in omega arith) p.then' in
    record { vanishes = both o.r o.within p.vanishes q.vanishes o.nonterminal; more = q.more; shorter = (let s = p.shorter in let s' = q.shorter in omega arith); then' = q.then' }
