-- The one production with which a derivation can continue, and one step of the reader.
use Rattle.std.proofs.Common.{ℕ, ◌+◌, ◌<◌, ◌≡◌, Bool, true, false, not, ◌&&◌, cond, List, [], ◌∷◌, ◌++◌, length, refl, sym, ◌∙◌, ap, subst, append_assoc, arith, ◌⊎◌, inl, inr}
use Rattle.parse_tree.specs.declared.token.TokenKind.{TokenKind}
use Rattle.parse_tree.specs.declared.token.TokenKind.TheVariants.{EndOfSource, Name}
use Rattle.parser.specs.declared.nonterminal.Nonterminal.{Nonterminal}
use Rattle.parser.specs.declared.nonterminal.Nonterminal.TheVariants.{Statement}
use Rattle.parser.specs.declared.symbol.Symbol.{Symbol}
use Rattle.parser.specs.declared.symbol.Symbol.TheVariants.{Take, Open}
use Rattle.parser.specs.declared.symbol.Room.{Room}
use Rattle.parser.specs.declared.symbol.Entry.{Entry}
use Rattle.parser.specs.declared.symbol.Entry.TheVariants.{Await, Derive}
use Rattle.parser.specs.declared.symbol.Opening.{Opening}
use Rattle.parser.specs.Same.{same_kind, same_nonterminal}
use Rattle.parser.specs.Grammar.{rule, rules as table, rule_count, Begins, inside, opening}
use Rattle.parser.specs.Completions.{rank}
use Rattle.parser.specs.Table.{has, starts_with, vanishes_as, some, front, is_nil, ends_free, ends_once}
use Rattle.parser.specs.Engine.{entry, entries, body, plain, symbol_of, Steps, open_one, OnlyRule, Stuck, Leads, AllAt, Named, Went, looking, IsTaking}
use Rattle.std.proofs.lemmas.Bool.{and_from, both_ways, not-true, cond-false}
use Rattle.abl_base.proofs.Bools.{left_of_and, right_of_and}
use Rattle.parser.proofs.Flags.{nonterminals_same, nonterminals_equal, same_first}
use Rattle.parser.proofs.Checks.{all_vanish}
use Rattle.parser.proofs.Trees.{opened, Opened}
use Rattle.parser.proofs.First.{first, silent}
use Rattle.parser.proofs.Sound.{row_holds, rule_empty, vanishing_is, starts_are, starts_begin, alike}

first_opening : {a b : Opening} {xs ys : List Opening} → a ∷ xs ≡ b ∷ ys → a ≡ b
first_opening e = cc

-- one opening, one production
pub same_rule : (q r at : ℕ) (room : Room) (xs ys : List Opening) → opening q at room ∷ xs ≡ opening r at room ∷ ys → q ≡ r
same_rule q r at room xs ys e = ap (λ o. o.production) (first_opening e)

nothing_begins : {k : TokenKind} → Begins [] k → ⊥
nothing_begins b = elim b [ ]

-- the production of a derivation starts with the next token k or can be empty
pub begun : (at : ℕ) (room : Room) (a : Nonterminal) (k : TokenKind) (stack : List Entry) (os : List Opening) (ts : List TokenKind) → (o : Opened at room stack os a (k ∷ ts)) → (has (rule o.r).starts k ≡ true) ⊎ ((rule o.r).empty ≡ true)
begun at room a k stack os ts o = elim (first (length o.rest) at (inside o.r room) (rule o.r).symbols stack o.rest k ts (omega arith) o.then') [
  | inl b ↦ inl (starts_are o.r k o.within b)
  | inr p ↦ inr ((row_holds o.r o.within).empties (vanishing_is p.vanishes))
]

-- without a next token the production can be empty
pub begun_silent : (at : ℕ) (room : Room) (a : Nonterminal) (stack : List Entry) (os : List Opening) → (o : Opened at room stack os a []) → (rule o.r).empty ≡ true
begun_silent at room a stack os o =
    let p = silent (length o.rest) at (inside o.r room) (rule o.r).symbols stack o.rest (omega arith) o.then' in
    (row_holds o.r o.within).empties (vanishing_is p.vanishes)

no_empty_begins : (r : ℕ) (k : TokenKind) → (rule r).symbols ≡ [] → Begins (rule r).symbols k → ⊥
no_empty_begins r k e b = nothing_begins (subst (λ s. Begins s k) e b)

-- a row that starts with the token is the only one that applies
pub by_start : (a : Nonterminal) (k : TokenKind) (r : ℕ) → (k ≡ Name → a ≡ Statement → ⊥) → r < rule_count → starts_with a k (rule r) ≡ true → OnlyRule a k r
by_start a k r one_decides h e =
    let p = nonterminals_same (rule r).nonterminal a (left_of_and (same_nonterminal (rule r).nonterminal a) (has (rule r).starts k) e) in
    let s = right_of_and (same_nonterminal (rule r).nonterminal a) (has (rule r).starts k) e in
    record {
      within = h;
      nonterminal = p;
      greedy = λ ts nil q k' rest lq eq et b. no_empty_begins r k nil (starts_begin r k h s);
      only = λ at q room stack os ts d.
          let o = opened d in
          let same : q ≡ o.r = same_rule q o.r at room os o.rest o.is in
          same ∙ elim (alike o.r r o.within h (o.nonterminal ∙ sym p)) [
            | inl g ↦ g
            | inr x ↦ elim (begun at room a k stack (opening q at room ∷ os) ts o) [
              | inl g ↦ absurd (let d = x.disjoint k g s in one_decides d.0 (sym o.nonterminal ∙ d.1))
              | inr g ↦ absurd (o.greedy (x.first_nil g) r k ts h (p ∙ sym o.nonterminal) refl (starts_begin r k h s))
            ]
          ];
    }

-- where no row starts with the token, the row that can be empty is the only one that applies
pub by_nothing : (a : Nonterminal) (k : TokenKind) (r : ℕ) → r < rule_count → vanishes_as a (rule r) ≡ true → ((q : ℕ) → q < rule_count → starts_with a k (rule q) ≡ false) → OnlyRule a k r
by_nothing a k r h e none =
    let p = nonterminals_same (rule r).nonterminal a (left_of_and (same_nonterminal (rule r).nonterminal a) (rule r).empty e) in
    let v = right_of_and (same_nonterminal (rule r).nonterminal a) (rule r).empty e in
    record {
      within = h;
      nonterminal = p;
      greedy = λ ts nil q k' rest lq eq et b. both_ways _ (none q lq) (and_from (same_nonterminal (rule q).nonterminal a) (has (rule q).starts k) (nonterminals_equal (rule q).nonterminal a (eq ∙ p)) (starts_are q k lq (subst (λ x. Begins (rule q).symbols x) (sym (same_first et)) b)));
      only = λ at q room stack os ts d.
          let o = opened d in
          let same : q ≡ o.r = same_rule q o.r at room os o.rest o.is in
          same ∙ elim (begun at room a k stack (opening q at room ∷ os) ts o) [
            | inl g ↦ absurd (both_ways _ (none o.r o.within) (and_from (same_nonterminal (rule o.r).nonterminal a) (has (rule o.r).starts k) (nonterminals_equal (rule o.r).nonterminal a o.nonterminal) g))
            | inr g ↦ elim (alike o.r r o.within h (o.nonterminal ∙ sym p)) [
              | inl x ↦ x
              | inr x ↦ absurd (x.one_empty g v)
            ]
          ];
    }

-- where neither row exists, no derivation continues
pub by_none : (a : Nonterminal) (k : TokenKind) → ((q : ℕ) → q < rule_count → starts_with a k (rule q) ≡ false) → ((q : ℕ) → q < rule_count → vanishes_as a (rule q) ≡ false) → (at : ℕ) (room : Room) (stack : List Entry) → Stuck at (Derive a room ∷ stack) k
by_none a k none empty_none at room stack os ts d =
    let o = opened d in
    elim (begun at room a k stack os ts o) [
      | inl g ↦ both_ways _ (none o.r o.within) (and_from (same_nonterminal (rule o.r).nonterminal a) (has (rule o.r).starts k) (nonterminals_equal (rule o.r).nonterminal a o.nonterminal) g)
      | inr g ↦ both_ways _ (empty_none o.r o.within) (and_from (same_nonterminal (rule o.r).nonterminal a) (rule o.r).empty (nonterminals_equal (rule o.r).nonterminal a o.nonterminal) g)
    ]

-- ONE STEP
-- every derivation of tokens that begin with k takes these openings from one stack to the other
pub record Along (at : ℕ) (start : List Entry) (added : List Opening) (goal : List Entry) (k : TokenKind) : Type 0 where
  pub sound : (os : List Opening) (ts : List TokenKind) → Steps at goal os (k ∷ ts) → Steps at start (added ++ os) (k ∷ ts)
  pub only : (os : List Opening) (ts : List TokenKind) → Steps at start os (k ∷ ts) → (more : List Opening) × (os ≡ added ++ more) × Steps at goal more (k ∷ ts)

pub along_by : (at : ℕ) (room : Room) (a : Nonterminal) (k : TokenKind) (r : ℕ) (rest : List Entry) → OnlyRule a k r → Along at (Derive a room ∷ rest) (opening r at room ∷ []) (body r room ++ rest) k
along_by at room a k r rest w = record {
  sound = λ os ts d. open_one r w.within w.nonterminal (w.greedy ts) d;
  only = λ os ts d.
      let o = opened d in
      let e : o.r ≡ r = w.only at o.r room rest o.rest ts (subst (λ x. Steps at (Derive a room ∷ rest) x (k ∷ ts)) o.is d) in
      (o.rest, o.is ∙ ap (λ x. opening x at room ∷ o.rest) e, subst (λ x. Steps at (body x room ++ rest) o.rest (k ∷ ts)) e o.then');
}

leads_by : (at : ℕ) (room : Room) (a : Nonterminal) (k : TokenKind) (r : ℕ) (rest : List Entry) (earlier : List Opening) → OnlyRule a k r
    → Leads at (Derive a room ∷ rest) earlier (body r room ++ rest) (earlier ++ opening r at room ∷ []) k
leads_by at room a k r rest earlier w =
    let g = along_by at room a k r rest w in
    record { added = opening r at room ∷ []; is = refl; all_here = (refl, tt); sound = g.sound; only = g.only }

chain : (n : ℕ) (b c : Bool) (x y z : ℕ) → x ≡ y + cond c z 0 → n + cond b x 0 ≡ (n + cond b y 0) + cond (b && c) z 0
chain n true c x y z e = omega (arith, e)
chain n false c x y z e = omega arith

front_append : (s st : List Symbol) → front table (s ++ st) ≡ front table s + cond (all_vanish table s) (front table st) 0
front_append [] st = omega arith
front_append (Take k ∷ s) st = refl
front_append (Open a ∷ s) st = chain (rank a) (some (vanishes_as a) table) (all_vanish table s) (front table (s ++ st)) (front table s) (front table st) (front_append s st)

less : (v w : Bool) (f n g : ℕ) → f < n → (v ≡ true → w ≡ true) → f + cond v g 0 < n + cond w g 0
less true true f n g h i = omega arith
less true false f n g h i = let e : false ≡ true = i refl in cc
less false w f n g h i = omega arith

nearer_by : (a : Nonterminal) (r : ℕ) (rest : List Symbol) → r < rule_count → (rule r).nonterminal ≡ a → front table ((rule r).symbols ++ rest) < front table (Open a ∷ rest)
nearer_by a r rest h p =
    let row = row_holds r h in
    let q : rank (rule r).nonterminal ≡ rank a = ap rank p in
    let d = row.deeper in
    subst (λ x. x < rank a + cond (some (vanishes_as a) table) (front table rest) 0) (sym (front_append (rule r).symbols rest)) (
    less (all_vanish table (rule r).symbols) (some (vanishes_as a) table) (front table (rule r).symbols) (rank a) (front table rest) (omega arith) (λ v. rule_empty r a h p (row.empties v)))

ends_append : (s st : List Symbol) → ends_free s ≡ true → ends_once (s ++ st) ≡ ends_once st
ends_append [] st e = refl
ends_append (Take k ∷ s) st e =
    cond-false (same_kind k EndOfSource) (is_nil (s ++ st)) (ends_once (s ++ st)) (not-true (same_kind k EndOfSource) (left_of_and (not (same_kind k EndOfSource)) (ends_free s) e)) ∙ ends_append s st (right_of_and (not (same_kind k EndOfSource)) (ends_free s) e)
ends_append (Open a ∷ s) st e = ends_append s st e

-- without their room the entries are the symbols again
entry_plain : (room : Room) (s : Symbol) → symbol_of (entry room s) ≡ s
entry_plain room (Take k) = refl
entry_plain room (Open a) = refl

pub plain_append : (room : Room) (s : List Symbol) (st : List Entry) → plain (entries room s ++ st) ≡ s ++ plain st
plain_append room [] st = refl
plain_append room (x ∷ s) st = ap (λ y. y ∷ plain (entries room s ++ st)) (entry_plain room x) ∙ ap (λ y. x ∷ y) (plain_append room s st)

pub record Stepped (at : ℕ) (from to : List Entry) (earlier later : List Opening) (k : TokenKind) : Type 0 where
  pub leads : Leads at from earlier to later k
  pub nearer : front table (plain to) < front table (plain from)
  pub ends : ends_once (plain from) ≡ true → ends_once (plain to) ≡ true

step_plain : (at : ℕ) (room : Room) (a : Nonterminal) (k : TokenKind) (r : ℕ) (rest : List Entry) (earlier : List Opening) → OnlyRule a k r → Stepped at (Derive a room ∷ rest) (body r room ++ rest) earlier (earlier ++ opening r at room ∷ []) k
step_plain at room a k r rest earlier w = record {
  leads = leads_by at room a k r rest earlier w;
  nearer = subst (λ x. front table x < front table (Open a ∷ plain rest)) (sym (plain_append (inside r room) (rule r).symbols rest)) (nearer_by a r (plain rest) w.within w.nonterminal);
  ends = λ e. ap ends_once (plain_append (inside r room) (rule r).symbols rest) ∙ ends_append (rule r).symbols (plain rest) (row_holds r w.within).ends ∙ e;
}

pub stepped : (at : ℕ) (room : Room) (a : Nonterminal) (k : TokenKind) (r : ℕ) (from to rest : List Entry) (earlier later : List Opening) → OnlyRule a k r
    → from ≡ Derive a room ∷ rest → to ≡ body r room ++ rest → later ≡ earlier ++ opening r at room ∷ [] → Stepped at from to earlier later k
stepped at room a k r from to rest earlier later w e1 e2 e3 =
    subst (λ f. Stepped at f to earlier later k) (sym e1) (
    subst (λ p. Stepped at (Derive a room ∷ rest) p earlier later k) (sym e2) (
    subst (λ u. Stepped at (Derive a room ∷ rest) (body r room ++ rest) earlier u k) (sym e3) (
    step_plain at room a k r rest earlier w)))

pub ends_row : (room : Room) (a : Nonterminal) (r : ℕ) (from rest to : List Entry) → r < rule_count → from ≡ Derive a room ∷ rest → to ≡ body r room ++ rest → ends_once (plain from) ≡ true → ends_once (plain to) ≡ true
ends_row room a r from rest to h e f s =
    subst (λ x. ends_once (plain x) ≡ true) (sym f) (
    ap ends_once (plain_append (inside r room) (rule r).symbols rest) ∙ ends_append (rule r).symbols (plain rest) (row_holds r h).ends ∙ subst (λ x. ends_once (plain x) ≡ true) e s)

-- steps compose
pub all_at_append : (at : ℕ) (xs ys : List Opening) → AllAt at xs → AllAt at ys → AllAt at (xs ++ ys)
all_at_append at [] ys h g = g
all_at_append at (x ∷ xs) ys h g = (h.0, all_at_append at xs ys h.1 g)

pub leads_more : (at : ℕ) (a b c : List Entry) (u v w : List Opening) (k : TokenKind) → Leads at a u b v k → Leads at b v c w k → Leads at a u c w k
leads_more at a b c u v w k l m = record {
  added = l.added ++ m.added;
  is = m.is ∙ ap (λ x. x ++ m.added) l.is ∙ append_assoc u l.added m.added;
  all_here = all_at_append at l.added m.added l.all_here m.all_here;
  sound = λ os ts d. subst (λ x. Steps at a x (k ∷ ts)) (sym (append_assoc l.added m.added os)) (l.sound (m.added ++ os) ts (m.sound os ts d));
  only = λ os ts d.
      let x = l.only os ts d in
      let y = m.only x.0 ts x.2 in
      (y.0, x.1 ∙ ap (λ z. l.added ++ z) y.1 ∙ sym (append_assoc l.added m.added y.0), y.2);
}

-- at a name, the next two tokens determine the steps
pub went_named : (at : ℕ) (start mid goal rest : List Entry) (u v w : List Opening) (a : Nonterminal) (room : Room) (k n : TokenKind) → Leads at start u mid v k → mid ≡ Derive a room ∷ rest → a ≡ Statement → k ≡ Name → Named at room rest v goal w n → Went at start u goal w k n
went_named at start mid goal rest u v w a room k n l e p q m =
    looking room rest v (subst (λ x. Leads at start u x v k) (e ∙ ap (λ x. Derive x room ∷ rest) p) l) m q

token_on_top : (goal beyond rest : List Entry) (k : TokenKind) (a : Nonterminal) (room : Room) → goal ≡ Await k ∷ beyond → goal ≡ Derive a room ∷ rest → ⊥
token_on_top goal beyond rest k a room e f = let q : Await k ∷ beyond ≡ Derive a room ∷ rest = sym e ∙ f in cc

pub taking_named : (at : ℕ) (goal rest : List Entry) (v w : List Opening) (room : Room) (n : TokenKind) → Named at room rest v goal w n → IsTaking goal
taking_named at goal rest v w room n m a r beyond e = token_on_top goal m.top.0 beyond Name a r m.top.1 e

pub statement_top : (mid rest : List Entry) (a : Nonterminal) (room : Room) → mid ≡ Derive a room ∷ rest → a ≡ Statement → mid ≡ Derive Statement room ∷ rest
statement_top mid rest a room e p = e ∙ ap (λ x. Derive x room ∷ rest) p
