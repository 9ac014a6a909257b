-- The parser's steps: a stack of expected entries, the topmost first, against the remaining tokens.
use Rattle.std.specs.Prelude.{ℕ, ◌<◌, ◌≡◌, ◌+◌, List, [], ◌∷◌, ◌++◌, true}
use Rattle.parse_tree.specs.declared.token.TokenKind.{TokenKind}
use Rattle.parse_tree.specs.declared.token.TokenKind.TheVariants.{Name}
use Rattle.parser.specs.declared.nonterminal.Nonterminal.{Nonterminal}
use Rattle.parser.specs.declared.nonterminal.Nonterminal.TheVariants.{Statement}
use Rattle.parser.specs.declared.symbol.Symbol.{Symbol}
use Rattle.parser.specs.declared.symbol.Symbol.TheVariants.{Take, Open}
use Rattle.parser.specs.declared.symbol.Room.{Room}
use Rattle.parser.specs.declared.symbol.Entry.{Entry}
use Rattle.parser.specs.declared.symbol.Entry.TheVariants.{Await, Derive}
use Rattle.parser.specs.declared.symbol.Opening.{Opening}
use Rattle.parser.specs.Grammar.{rule, rule_count, Greedy, Forest, Derives, spelt, openings, opening, inside, full, whole, any_deep}

abbrev pub entry : Room → Symbol → Entry
entry room (Take k) = Await k
entry room (Open a) = Derive a room

-- the stack entries of these symbols, with this room
abbrev pub entries : Room → List Symbol → List Entry
entries room [] = []
entries room (s ∷ ss) = entry room s ∷ entries room ss

-- the stack entries of a production opened with this room
abbrev pub body : ℕ → Room → List Entry
body r room = entries (inside r room) (rule r).symbols

-- a whole source
abbrev pub source : List Entry
source = entries full whole

abbrev pub symbol_of : Entry → Symbol
symbol_of (Await k) = Take k
symbol_of (Derive a room) = Open a

-- the symbols without their room
abbrev pub plain : List Entry → List Symbol
plain [] = []
plain (e ∷ es) = symbol_of e ∷ plain es

-- These openings in order, each applied to the leftmost nonterminal, derive these tokens from the stack. The first token has this number.
pub data Steps : ℕ → List Entry → List Opening → List TokenKind → Type 0 where
  done : {at : ℕ} → Steps at [] [] []
  take_one : {at : ℕ} {stack : List Entry} {os : List Opening} {k : TokenKind} {ts : List TokenKind} → Steps (at + 1) stack os ts → Steps at (Await k ∷ stack) os (k ∷ ts)
  open_one : {at : ℕ} {stack : List Entry} {os : List Opening} {ts : List TokenKind} {a : Nonterminal} {room : Room} (r : ℕ) → r < rule_count → (rule r).nonterminal ≡ a → Greedy r ts
      → Steps at (body r room ++ stack) os ts → Steps at (Derive a room ∷ stack) (opening r at room ∷ os) ts

-- these openings are all at this place
abbrev pub AllAt : ℕ → List Opening → Type 0
AllAt at [] = Unit {0}
AllAt at (o ∷ os) = (o.first ≡ at) × AllAt at os

-- Steps from one stack to another, and the openings they add. Every derivation of tokens that begin with k takes these steps.
pub record Leads (at : ℕ) (start : List Entry) (earlier : List Opening) (goal : List Entry) (later : List Opening) (k : TokenKind) : Type 0 where
  pub added : List Opening
  pub is : later ≡ earlier ++ added
  pub all_here : AllAt at added
  pub sound : (os : List Opening) (ts : List TokenKind) → Steps at goal os (k ∷ ts) → Steps at start (added ++ os) (k ∷ ts)
  pub only : (os : List Opening) (ts : List TokenKind) → Steps at start os (k ∷ ts) → (more : List Opening) × (os ≡ added ++ more) × Steps at goal more (k ∷ ts)

-- The one production of the nonterminal that a derivation can use where the next token is k.
pub record OnlyRule (a : Nonterminal) (k : TokenKind) (r : ℕ) : Type 0 where
  pub within : r < rule_count
  pub nonterminal : (rule r).nonterminal ≡ a
  pub greedy : (ts : List TokenKind) → Greedy r (k ∷ ts)
  pub only : (at : ℕ) (q : ℕ) (room : Room) (stack : List Entry) (os : List Opening) (ts : List TokenKind) → Steps at (Derive a room ∷ stack) (opening q at room ∷ os) (k ∷ ts) → q ≡ r

-- No derivation from this stack accepts k as the next token.
abbrev pub Stuck : ℕ → List Entry → TokenKind → Type 0
Stuck at stack k = (os : List Opening) (ts : List TokenKind) → Steps at stack os (k ∷ ts) → ⊥

-- no nonterminal is on top
abbrev pub IsTaking : List Entry → Type 0
IsTaking stack = (a : Nonterminal) (room : Room) (rest : List Entry) → stack ≡ Derive a room ∷ rest → ⊥

-- The same from a statement that begins with a name, where the token after the name is known too.
pub record Named (at : ℕ) (room : Room) (rest : List Entry) (earlier : List Opening) (goal : List Entry) (later : List Opening) (next : TokenKind) : Type 0 where
  pub added : List Opening
  pub is : later ≡ earlier ++ added
  pub all_here : AllAt at added
  pub deep : any_deep added ≡ true → room.statements ≡ 0
  pub top : (beyond : List Entry) × (goal ≡ Await Name ∷ beyond)
  pub sound : (os : List Opening) (ts : List TokenKind) → Steps at goal os (Name ∷ ts) → Steps at (Derive Statement room ∷ rest) (added ++ os) (Name ∷ ts)
  pub only : (os : List Opening) (ts : List TokenKind) → Steps at (Derive Statement room ∷ rest) os (Name ∷ next ∷ ts) → (more : List Opening) × (os ≡ added ++ more) × Steps at goal more (Name ∷ next ∷ ts)

-- steps chosen by k alone, or at a name by k and the token after it
pub data Went (at : ℕ) (start : List Entry) (earlier : List Opening) (goal : List Entry) (later : List Opening) (k next : TokenKind) : Type 0 where
  plainly : Leads at start earlier goal later k → Went at start earlier goal later k next
  looking : (room : Room) (rest : List Entry) (between : List Opening) → Leads at start earlier (Derive Statement room ∷ rest) between k → Named at room rest between goal later next → k ≡ Name → Went at start earlier goal later k next

-- both lists begin with the same token, unless the second is empty
abbrev pub FirstIs : List TokenKind → List TokenKind → Type 0
FirstIs ts [] = Unit {0}
FirstIs ts (k ∷ others) = (rest : List TokenKind) × (ts ≡ k ∷ rest)

-- the parser's state after the tokens seen and before those ahead
pub record Reached (at : ℕ) (stack : List Entry) (used : List Opening) (seen ahead : List TokenKind) : Type 0 where
  pub sound : (os : List Opening) (ts : List TokenKind) → Steps at stack os ts → Steps 0 source (used ++ os) (seen ++ ts)
  pub only : (os : List Opening) (ts : List TokenKind) → FirstIs ts ahead → Steps 0 source os (seen ++ ts) → (more : List Opening) × (os ≡ used ++ more) × Steps at stack more ts

-- the forest is a derivation of these tokens with these openings
pub record IsRead (forest : Forest) (used : List Opening) (tokens : List TokenKind) : Type 0 where
  pub derives : Derives forest whole []
  pub spells : spelt forest ≡ tokens
  pub opens : openings 0 full forest ≡ used
