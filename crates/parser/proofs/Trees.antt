-- The reader's steps and the trees are the same derivations.
use Rattle.std.proofs.Common.{ℕ, zero, suc, ◌+◌, ◌<◌, ◌≤◌, ◌≡◌, List, [], ◌∷◌, ◌++◌, length, refl, sym, ◌∙◌, ap, subst, append_assoc, arith, length-append}
use Rattle.parse_tree.specs.declared.token.TokenKind.{TokenKind}
use Rattle.parser.specs.declared.nonterminal.Nonterminal.{Nonterminal}
use Rattle.parser.specs.declared.symbol.Symbol.{Symbol}
use Rattle.parser.specs.declared.symbol.Symbol.TheVariants.{Take, Open}
use Rattle.parser.specs.declared.symbol.Room.{Room}
use Rattle.parser.specs.declared.symbol.Entry.{Entry}
use Rattle.parser.specs.declared.symbol.Entry.TheVariants.{Await, Derive}
use Rattle.parser.specs.declared.symbol.Opening.{Opening}
use Rattle.parser.specs.Grammar.{rule, rule_count, Greedy, Forest, none, leaf, node, spelt, Derives, openings, opening, inside}
use Rattle.parser.specs.Engine.{entries, body, Steps, take_one, open_one}

-- the first step of a derivation from a token
pub record Taken (at : ℕ) (stack : List Entry) (os : List Opening) (k : TokenKind) (ts : List TokenKind) : Type 0 where
  pub rest : List TokenKind
  pub is : ts ≡ k ∷ rest
  pub then' : Steps (at + 1) stack os rest

pub taken : {at : ℕ} {stack : List Entry} {os : List Opening} {k : TokenKind} {ts : List TokenKind} → Steps at (Await k ∷ stack) os ts → Taken at stack os k ts
taken (take_one d) = record { rest = _; is = refl; then' = d }

-- the first step of a derivation from a nonterminal
pub record Opened (at : ℕ) (room : Room) (stack : List Entry) (os : List Opening) (a : Nonterminal) (ts : List TokenKind) : Type 0 where
  pub r : ℕ
  pub rest : List Opening
  pub is : os ≡ opening r at room ∷ rest
  pub within : r < rule_count
  pub nonterminal : (rule r).nonterminal ≡ a
  pub greedy : Greedy r ts
  pub then' : Steps at (body r room ++ stack) rest ts

pub opened : {at : ℕ} {room : Room} {stack : List Entry} {os : List Opening} {a : Nonterminal} {ts : List TokenKind} → Steps at (Derive a room ∷ stack) os ts → Opened at room stack os a ts
opened (open_one r w p g d) = record { r = r; rest = _; is = refl; within = w; nonterminal = p; greedy = g; then' = d }

shift_one : (at n : ℕ) → at + suc n ≡ at + 1 + n
shift_one at n = omega arith

shift_append : (at : ℕ) (f g : List TokenKind) → at + length (f ++ g) ≡ at + length f + length g
shift_append at f g = let e = length-append f g in omega arith

-- prepends the steps of a tree to a derivation
pub steps_of : (f : Forest) (at : ℕ) (room : Room) (symbols : List Symbol) (stack : List Entry) (after : List TokenKind) (os : List Opening) → Derives f symbols after → Steps (at + length (spelt f)) stack os after
    → Steps at (entries room symbols ++ stack) (openings at room f ++ os) (spelt f ++ after)
steps_of none at room [] stack after os d s = subst (λ n. Steps n stack os after) (omega arith) s
steps_of (leaf k f) at room (Take wanted ∷ symbols) stack after os d s =
    subst (λ w. Steps at (Await w ∷ (entries room symbols ++ stack)) (openings (at + 1) room f ++ os) (k ∷ (spelt f ++ after))) d.0 (
    take_one (steps_of f (at + 1) room symbols stack after os d.1 (subst (λ n. Steps n stack os after) (shift_one at (length (spelt f))) s)))
steps_of (node r f g) at room (Open nonterminal ∷ symbols) stack after os d s =
    let next = at + length (spelt f) in
    open_one r d.0 d.1 (subst (Greedy r) (sym (append_assoc (spelt f) (spelt g) after)) d.2) (
    subst (λ q. Steps at (body r room ++ (entries room symbols ++ stack)) q ((spelt f ++ spelt g) ++ after)) (sym (append_assoc (openings at (inside r room) f) (openings next room g) os)) (
    subst (λ t. Steps at (body r room ++ (entries room symbols ++ stack)) (openings at (inside r room) f ++ (openings next room g ++ os)) t) (sym (append_assoc (spelt f) (spelt g) after)) (
    steps_of f at (inside r room) (rule r).symbols (entries room symbols ++ stack) (spelt g ++ after) (openings next room g ++ os) d.3 (
    steps_of g next room symbols stack after os d.4 (subst (λ n. Steps n stack os after) (shift_append at (spelt f) (spelt g)) s)))))
steps_of none at room (x ∷ symbols) stack after os d s = absurd d
steps_of (leaf k f) at room [] stack after os d s = absurd d
steps_of (leaf k f) at room (Open nonterminal ∷ symbols) stack after os d s = absurd d
steps_of (node r f g) at room [] stack after os d s = absurd d
steps_of (node r f g) at room (Take wanted ∷ symbols) stack after os d s = absurd d

-- a derivation split after these symbols: a tree for them, and the remaining derivation
pub record Split (at : ℕ) (room : Room) (symbols : List Symbol) (stack : List Entry) (os : List Opening) (ts : List TokenKind) : Type 0 where
  pub tree : Forest
  pub more : List Opening
  pub after : List TokenKind
  pub derives : Derives tree symbols after
  pub openings_are : os ≡ openings at room tree ++ more
  pub tokens_are : ts ≡ spelt tree ++ after
  pub then' : Steps (at + length (spelt tree)) stack more after

joined : (at : ℕ) (room : Room) (symbols : List Symbol) (stack : List Entry) (k : TokenKind) (os : List Opening) (rest : List TokenKind) → Split (at + 1) room symbols stack os rest → Split at room (Take k ∷ symbols) stack os (k ∷ rest)
joined at room symbols stack k os rest s = record {
  tree = leaf k s.tree;
  more = s.more;
  after = s.after;
  derives = (refl, s.derives);
  openings_are = s.openings_are;
  tokens_are = ap (λ t. k ∷ t) s.tokens_are;
  then' = subst (λ n. Steps n stack s.more s.after) (sym (shift_one at (length (spelt s.tree)))) s.then';
}

nested : (at : ℕ) (room : Room) (a : Nonterminal) (symbols : List Symbol) (stack : List Entry) (r : ℕ) (os : List Opening) (ts : List TokenKind) → r < rule_count → (rule r).nonterminal ≡ a → Greedy r ts
    → (i : Split at (inside r room) (rule r).symbols (entries room symbols ++ stack) os ts) → (o : Split (at + length (spelt i.tree)) room symbols stack i.more i.after)
    → Split at room (Open a ∷ symbols) stack (opening r at room ∷ os) ts
nested at room a symbols stack r os ts w p g i o =
    let next = at + length (spelt i.tree) in
    let e : ts ≡ spelt i.tree ++ (spelt o.tree ++ o.after) = i.tokens_are ∙ ap (λ t. spelt i.tree ++ t) o.tokens_are in
    record {
      tree = node r i.tree o.tree;
      more = o.more;
      after = o.after;
      derives = (w, p, subst (Greedy r) e g, subst (λ t. Derives i.tree (rule r).symbols t) o.tokens_are i.derives, o.derives);
      openings_are = ap (λ q. opening r at room ∷ q) (i.openings_are ∙ ap (λ q. openings at (inside r room) i.tree ++ q) o.openings_are ∙ sym (append_assoc (openings at (inside r room) i.tree) (openings next room o.tree) o.more));
      tokens_are = e ∙ sym (append_assoc (spelt i.tree) (spelt o.tree) o.after);
      then' = subst (λ n. Steps n stack o.more o.after) (sym (shift_append at (spelt i.tree) (spelt o.tree))) o.then';
    }

pub split : (n at : ℕ) (room : Room) (symbols : List Symbol) (stack : List Entry) (os : List Opening) (ts : List TokenKind) → length os + length ts ≤ n → Steps at (entries room symbols ++ stack) os ts → Split at room symbols stack os ts
split n at room [] stack os ts h d = record { tree = none; more = os; after = ts; derives = tt; openings_are = refl; tokens_are = refl; then' = subst (λ m. Steps m stack os ts) (omega arith) d }
split zero at room (Take k ∷ symbols) stack os ts h d =
    let t = taken d in
    let e : length ts ≡ suc (length t.rest) = ap length t.is in
    absurd (omega arith)
split (suc n) at room (Take k ∷ symbols) stack os ts h d =
    let t = taken d in
    let e : length ts ≡ suc (length t.rest) = ap length t.is in
    subst (λ x. Split at room (Take k ∷ symbols) stack os x) (sym t.is) (
    joined at room symbols stack k os t.rest (split n (at + 1) room symbols stack os t.rest (omega arith) t.then'))
split zero at room (Open a ∷ symbols) stack os ts h d =
    let o = opened d in
    let e : length os ≡ suc (length o.rest) = ap length o.is in
    absurd (omega arith)
split (suc n) at room (Open a ∷ symbols) stack os ts h d =
    let o = opened d in
    let e : length os ≡ suc (length o.rest) = ap length o.is in
    let i = split n at (inside o.r room) (rule o.r).symbols (entries room symbols ++ stack) o.rest ts (omega arith) o.then' in
    let er : length o.rest ≡ length (openings at (inside o.r room) i.tree) + length i.more = ap length i.openings_are ∙ length-append (openings at (inside o.r room) i.tree) i.more in
    let et : length ts ≡ length (spelt i.tree) + length i.after = ap length i.tokens_are ∙ length-append (spelt i.tree) i.after in
    subst (λ x. Split at room (Open a ∷ symbols) stack x ts) (sym o.is) (
    nested at room a symbols stack o.r o.rest ts o.within o.nonterminal o.greedy i (split n (at + length (spelt i.tree)) room symbols stack i.more i.after (omega arith) i.then'))
