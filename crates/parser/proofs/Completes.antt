-- Every stack that the reader comes to can be completed: so what was read is viable.
use Rattle.std.proofs.Common.{ℕ, zero, suc, ◌+◌, ◌<◌, ◌≤◌, ◌≡◌, Bool, true, false, not, ◌&&◌, cond, ltb, List, [], ◌∷◌, ◌++◌, length, Option, Some, None, refl, sym, ◌∙◌, ap, subst, arith}
use Rattle.std.proofs.lemmas.Bool.{ltb-true}
use Rattle.parse_tree.specs.declared.token.TokenKind.{TokenKind}
use Rattle.parse_tree.specs.declared.token.TokenKind.TheVariants.{EndOfSource}
use Rattle.parser.specs.declared.nonterminal.Nonterminal.{Nonterminal}
use Rattle.parser.specs.declared.symbol.Symbol.{Symbol}
use Rattle.parser.specs.declared.symbol.Symbol.TheVariants.{Take, Open}
use Rattle.parser.specs.declared.symbol.Room.{Room}
use Rattle.parser.specs.declared.symbol.Entry.{Entry}
use Rattle.parser.specs.declared.symbol.Entry.TheVariants.{Await, Derive}
use Rattle.parser.specs.declared.symbol.Opening.{Opening}
use Rattle.parser.specs.Same.{same_kind, same_nonterminal}
use Rattle.parser.specs.Grammar.{row, nonterminals, symbols, symbols_from, starts, starts_from, empty, rule, rules as table, rule_count, Greedy, whole, inside, opening}
use Rattle.parser.specs.Table.{has, vanishes_as, some, is_nil, each, of_nonterminal}
use Rattle.parser.specs.Engine.{body, plain, source, Steps, done, take_one, open_one}
use Rattle.parser.specs.Completions.{short, first_of, expects, size}
use Rattle.parser.specs.Completing.{head, before, weigh, is_head, no_head, nonterminal_ok, suits}
use Rattle.std.proofs.lemmas.Bool.{and_from}
use Rattle.abl_base.proofs.Bools.{left_of_and, right_of_and, not_true, implied}
use Rattle.parser.proofs.Flags.{nonterminals_same, kinds_same, each_has, each_at, same_first, no_first}
use Rattle.parser.proofs.Sound.{starts_are, rule_nonterminal}
use Rattle.parser.proofs.Steps.{plain_append}

-- THE CHECK OF THE COMPLETIONS
pub suited : each (λ x. each (λ k. suits table x.symbols k) (expects x.nonterminal)) table ≡ true
unfolding table row nonterminals symbols symbols_from starts starts_from empty same_kind same_nonterminal
suited = refl

pub suited_whole : (k : TokenKind) → suits table whole k ≡ true
unfolding table row nonterminals symbols symbols_from starts starts_from empty same_kind same_nonterminal
suited_whole k = refl

through : (v : Bool) (x y : Option TokenKind) (f k j : TokenKind) → before x k ≡ before y j → before (cond v x (Some f)) k ≡ before (cond v y (Some f)) j
through true x y f k j e = e
through false x y f k j e = refl

head_append : (s t : List Symbol) (k : TokenKind) → before (head table (s ++ t)) k ≡ before (head table s) (before (head table t) k)
head_append [] t k = refl
head_append (Take w ∷ s) t k = refl
head_append (Open a ∷ s) t k = through (some (vanishes_as a) table) (head table (s ++ t)) (head table s) (first_of a) k (before (head table t) k) (head_append s t k)

suits_append : (s t : List Symbol) (k : TokenKind) → suits table t k ≡ true → suits table s (before (head table t) k) ≡ true → suits table (s ++ t) k ≡ true
suits_append [] t k e h = e
suits_append (Take w ∷ s) t k e h = suits_append s t k e h
suits_append (Open a ∷ s) t k e h =
    let b = before (head table t) k in
    let l = left_of_and (has (expects a) (before (head table s) b) && nonterminal_ok table a) _ h in
    let m : has (expects a) (before (head table (s ++ t)) k) ≡ true = subst (λ x. has (expects a) x ≡ true) (sym (head_append s t k)) (left_of_and _ _ l) in
    and_from (has (expects a) (before (head table (s ++ t)) k) && nonterminal_ok table a) _ (and_from _ _ m (right_of_and _ _ l)) (suits_append s t k e (right_of_and _ _ h))

rule_suits : (r : ℕ) (k : TokenKind) → r < rule_count → has (expects (rule r).nonterminal) k ≡ true → suits table (rule r).symbols k ≡ true
unfolding rule
rule_suits r k h e = each_has (λ k. suits table (rule r).symbols k) (expects (rule r).nonterminal) k (each_at (λ x. each (λ k. suits table x.symbols k) (expects x.nonterminal)) table r _ suited h) e

-- a production keeps it
pub suits_rule : (a : Nonterminal) (r : ℕ) (st : List Symbol) (k : TokenKind) → r < rule_count → (rule r).nonterminal ≡ a → suits table (Open a ∷ st) k ≡ true → suits table ((rule r).symbols ++ st) k ≡ true
suits_rule a r st k h p e =
    let l = left_of_and (has (expects a) (before (head table st) k) && nonterminal_ok table a) _ e in
    let m = left_of_and (has (expects a) (before (head table st) k)) _ l in
    suits_append (rule r).symbols st k (right_of_and _ _ e) (rule_suits r (before (head table st) k) h (subst (λ x. has (expects x) (before (head table st) k) ≡ true) (sym p) m))

record Short (a : Nonterminal) : Type 0 where
  within : short a < rule_count
  nonterminal : (rule (short a)).nonterminal ≡ a
  smaller : weigh (rule (short a)).symbols < size a
  silent : (rule (short a)).symbols ≡ [] → (k : TokenKind) → has (expects a) k ≡ true → has (of_nonterminal table a) k ≡ true → ⊥
  heads : cond (some (vanishes_as a) table) (no_head (head table (rule (short a)).symbols)) (is_head (head table (rule (short a)).symbols) (first_of a)) ≡ true

nil_true : (xs : List Symbol) → xs ≡ [] → is_nil xs ≡ true
nil_true xs e = ap is_nil e

short_is : (a : Nonterminal) → nonterminal_ok table a ≡ true → Short a
unfolding rule
short_is a e =
    let x = rule (short a) in
    let t1 = right_of_and (same_nonterminal x.nonterminal a) _ e in
    let t2 = right_of_and (ltb (short a) (length table)) _ t1 in
    let t3 = right_of_and (ltb (weigh x.symbols) (size a)) _ t2 in
    record {
      within = ltb-true _ _ (left_of_and (ltb (short a) (length table)) _ t1);
      nonterminal = nonterminals_same x.nonterminal a (left_of_and (same_nonterminal x.nonterminal a) _ e);
      smaller = ltb-true _ _ (left_of_and (ltb (weigh x.symbols) (size a)) _ t2);
      silent = λ n k h g. not_true (has (of_nonterminal table a) k) (each_has (λ k. not (has (of_nonterminal table a) k)) (expects a) k (implied (is_nil x.symbols) _ (left_of_and _ _ t3) (nil_true x.symbols n)) h) g;
      heads = right_of_and _ _ t3;
    }

weigh_append : (s t : List Symbol) → weigh (s ++ t) ≡ weigh s + weigh t
weigh_append [] t = omega arith
weigh_append (Take w ∷ s) t = let i = weigh_append s t in omega arith
weigh_append (Open a ∷ s) t = let i = weigh_append s t in omega arith

pub record Completed (at : ℕ) (stack : List Entry) (k : TokenKind) : Type 0 where
  pub os : List Opening
  pub ts : List TokenKind
  pub steps : Steps at stack os ts
  pub begins : (t : TokenKind) (rest : List TokenKind) → ts ≡ t ∷ rest → t ≡ before (head table (plain stack)) k

heads_agree : (v : Bool) (h : Option TokenKind) (f : TokenKind) (o : Option TokenKind) (k : TokenKind) → cond v (no_head h) (is_head h f) ≡ true → before h (before o k) ≡ before (cond v o (Some f)) k
heads_agree true None f o k e = refl
heads_agree true (Some w) f o k e = let z : false ≡ true = e in cc
heads_agree false None f o k e = let z : false ≡ true = e in cc
heads_agree false (Some w) f o k e = kinds_same w f e

short_greedy : (a : Nonterminal) (st : List Symbol) (k : TokenKind) (ts : List TokenKind) → Short a → has (expects a) (before (head table st) k) ≡ true
    → ((t : TokenKind) (rest : List TokenKind) → ts ≡ t ∷ rest → t ≡ before (head table ((rule (short a)).symbols ++ st)) k) → Greedy (short a) ts
short_greedy a st k ts s m f nil q t rest lq eq et b =
    let e : t ≡ before (head table st) k = f t rest et ∙ ap (λ x. before (head table (x ++ st)) k) nil in
    let p : (rule q).nonterminal ≡ a = eq ∙ s.nonterminal in
    s.silent nil t (subst (λ x. has (expects a) x ≡ true) (sym e) m) (rule_nonterminal q a t lq p (starts_are q t lq b))

pub complete : (n at : ℕ) (stack : List Entry) (k : TokenKind) → weigh (plain stack) ≤ n → suits table (plain stack) k ≡ true → Completed at stack k
complete n at [] k h e = record { os = []; ts = []; steps = done; begins = λ t rest q. absurd (no_first q) }
complete zero at (Await w ∷ st) k h e = absurd (omega arith)
complete (suc n) at (Await w ∷ st) k h e =
    let c = complete n (at + 1) st k (omega arith) e in
    record { os = c.os; ts = w ∷ c.ts; steps = take_one c.steps; begins = λ t rest q. sym (same_first q) }
complete zero at (Derive a room ∷ st) k h e =
    let s = short_is a (right_of_and _ _ (left_of_and (has (expects a) (before (head table (plain st)) k) && nonterminal_ok table a) _ e)) in
    absurd (let l = s.smaller in omega arith)
complete (suc n) at (Derive a room ∷ st) k h e =
    let p = plain st in
    let l = left_of_and (has (expects a) (before (head table p) k) && nonterminal_ok table a) _ e in
    let s = short_is a (right_of_and _ _ l) in
    let r = short a in
    let i : plain (body r room ++ st) ≡ (rule r).symbols ++ p = plain_append (inside r room) (rule r).symbols st in
    let w : weigh (plain (body r room ++ st)) ≤ n = subst (λ x. weigh x ≤ n) (sym i) (let q = s.smaller in let g = weigh_append (rule r).symbols p in omega arith) in
    let c = complete n at (body r room ++ st) k w (subst (λ x. suits table x k ≡ true) (sym i) (suits_rule a r p k s.within s.nonterminal e)) in
    let m = left_of_and (has (expects a) (before (head table p) k)) _ l in
    let b = λ (t : TokenKind) (rest : List TokenKind) (q : c.ts ≡ t ∷ rest). c.begins t rest q ∙ ap (λ x. before (head table x) k) i in
    record {
      os = opening r at room ∷ c.os;
      ts = c.ts;
      steps = open_one r s.within s.nonterminal (short_greedy a p k c.ts s m b) c.steps;
      begins = λ t rest q. b t rest q ∙ head_append (rule r).symbols p k ∙ heads_agree (some (vanishes_as a) table) (head table (rule r).symbols) (first_of a) (head table p) k s.heads;
    }

pub suits_row : (room : Room) (a : Nonterminal) (r : ℕ) (from rest to : List Entry) → r < rule_count → (rule r).nonterminal ≡ a → from ≡ Derive a room ∷ rest → to ≡ body r room ++ rest → suits table (plain from) EndOfSource ≡ true → suits table (plain to) EndOfSource ≡ true
suits_row room a r from rest to h p e f s =
    subst (λ x. suits table (plain x) EndOfSource ≡ true) (sym f) (
    subst (λ x. suits table x EndOfSource ≡ true) (sym (plain_append (inside r room) (rule r).symbols rest)) (
    suits_rule a r (plain rest) EndOfSource h p (subst (λ x. suits table (plain x) EndOfSource ≡ true) e s)))

pub suits_take : (stack rest : List Entry) (k : TokenKind) → suits table (plain stack) EndOfSource ≡ true → stack ≡ Await k ∷ rest → suits table (plain rest) EndOfSource ≡ true
suits_take stack rest k s e = subst (λ p. suits table (plain p) EndOfSource ≡ true) e s

pub suits_source : suits table (plain source) EndOfSource ≡ true
suits_source = suited_whole EndOfSource
