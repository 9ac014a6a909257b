-- A statement that begins with a name: the token after it decides.
use Rattle.std.proofs.Common.{ℕ, zero, suc, ◌+◌, ◌<◌, ◌≡◌, ◌≢◌, true, List, [], ◌∷◌, ◌++◌, length, slice_index_or, refl, sym, ◌∙◌, ap, subst, append_assoc, arith, ◌⊎◌, inl, inr}
use Rattle.std.specs.Prelude.{◌==◌}
use Rattle.std.proofs.lemmas.Bool.{eqb-true}
use Rattle.parse_tree.specs.declared.token.TokenKind.{TokenKind}
use Rattle.parse_tree.specs.declared.token.TokenKind.TheVariants.{Name, Colon, Equals, Period}
use Rattle.parse_tree.specs.declared.production.TheConstants.{ASSIGNMENT_TARGET, TARGET_NAME}
use Rattle.parser.specs.declared.nonterminal.Nonterminal.TheVariants.{Statement, Block, Assignment, Target, RightSide, NoErrorWord}
use Rattle.parser.specs.declared.symbol.Symbol.{Symbol}
use Rattle.parser.specs.declared.symbol.Symbol.TheVariants.{Take, Open}
use Rattle.parser.specs.declared.symbol.Room.{Room}
use Rattle.parser.specs.declared.symbol.Entry.{Entry}
use Rattle.parser.specs.declared.symbol.Entry.TheVariants.{Await, Derive}
use Rattle.parser.specs.declared.symbol.Opening.{Opening}
use Rattle.parser.specs.Same.{same_kind, same_nonterminal}
use Rattle.parser.specs.Grammar.{Production, row, nonterminals, symbols, symbols_from, starts, starts_from, empty, rule, rules as table, rule_count, Greedy, inside, opening}
use Rattle.parser.specs.Table.{has, starts_with}
use Rattle.parser.specs.Engine.{entries, body, Steps, open_one, OnlyRule}
use Rattle.std.proofs.lemmas.Bool.{and_from, or_cases, both_ways}
use Rattle.abl_base.proofs.Bools.{left_of_and, right_of_and, implied}
use Rattle.parser.proofs.Flags.{nonterminals_equal, same_first, same_rest}
use Rattle.parser.proofs.Trees.{opened, Opened, taken}
use Rattle.parser.proofs.Checks.{only_named, named_hold, never_empty, label_row, assign_row}
use Rattle.parser.proofs.Sound.{rule_empty}
use Rattle.parser.proofs.Steps.{begun, by_start, Along, along_by}

named_at : (i : ℕ) (xs : List Production) (r : ℕ) (d : Production) → only_named i xs ≡ true → r < length xs → starts_with Statement Name (slice_index_or xs r d) ≡ true → (i + r ≡ label_row) ⊎ (i + r ≡ assign_row)
named_at i [] r d e h s = absurd (omega arith)
named_at i (x ∷ xs) zero d e h s =
    elim (or_cases (i == label_row) (i == assign_row) (implied (starts_with Statement Name x) _ (left_of_and _ _ e) s)) [
      | inl g ↦ inl (let q = eqb-true i label_row g in omega arith)
      | inr g ↦ inr (let q = eqb-true i assign_row g in omega arith)
    ]
named_at i (x ∷ xs) (suc r) d e h s =
    elim (named_at (suc i) xs r d (right_of_and _ _ e) (omega arith) s) [ inl g ↦ inl (omega arith) | inr g ↦ inr (omega arith) ]

pub named : (r : ℕ) → r < rule_count → (rule r).nonterminal ≡ Statement → has (rule r).starts Name ≡ true → (r ≡ label_row) ⊎ (r ≡ assign_row)
unfolding rule
named r h p s = elim (named_at 0 table r _ named_hold h (and_from _ _ (nonterminals_equal (rule r).nonterminal Statement p) s)) [ inl g ↦ inl (omega arith) | inr g ↦ inr (omega arith) ]

-- which production a derivation from a statement uses at a name
pub one_of_two : (at : ℕ) (room : Room) (rest : List Entry) (os : List Opening) (ts : List TokenKind) → (o : Opened at room rest os Statement (Name ∷ ts)) → (o.r ≡ label_row) ⊎ (o.r ≡ assign_row)
one_of_two at room rest os ts o = elim (begun at room Statement Name rest os ts o) [
  | inl s ↦ named o.r o.within o.nonterminal s
  | inr v ↦ absurd (both_ways _ never_empty (rule_empty o.r Statement o.within o.nonterminal v))
]

pub label_is : (rule label_row).symbols ≡ Take Name ∷ Take Colon ∷ Open Block ∷ []
unfolding rule table row nonterminals symbols symbols_from starts starts_from empty
label_is = refl

pub assign_is : (rule assign_row).symbols ≡ Open Assignment ∷ []
unfolding rule table row nonterminals symbols symbols_from starts starts_from empty
assign_is = refl

pub form_is : (rule ASSIGNMENT_TARGET).symbols ≡ Open Target ∷ Take Equals ∷ Open RightSide ∷ Open NoErrorWord ∷ Take Period ∷ []
unfolding rule table row nonterminals symbols symbols_from starts starts_from empty
form_is = refl

pub target_is : (rule TARGET_NAME).symbols ≡ Take Name ∷ []
unfolding rule table row nonterminals symbols symbols_from starts starts_from empty
target_is = refl

pub rows_there : 200 < rule_count
unfolding table row nonterminals symbols symbols_from starts starts_from empty
rows_there = omega arith

pub nonterminals_are : ((rule label_row).nonterminal ≡ Statement) × ((rule assign_row).nonterminal ≡ Statement)
unfolding rule table row nonterminals symbols symbols_from starts starts_from empty
nonterminals_are = (refl, refl)

form_starts : starts_with Assignment Name (rule ASSIGNMENT_TARGET) ≡ true
unfolding rule table row nonterminals symbols symbols_from starts starts_from empty same_kind same_nonterminal
form_starts = refl

target_starts : starts_with Target Name (rule TARGET_NAME) ≡ true
unfolding rule table row nonterminals symbols symbols_from starts starts_from empty same_kind same_nonterminal
target_starts = refl

assign_apart : Assignment ≡ Statement → ⊥
assign_apart e = cc

target_apart : Target ≡ Statement → ⊥
target_apart e = cc

pub form_only : OnlyRule Assignment Name ASSIGNMENT_TARGET
form_only = by_start Assignment Name ASSIGNMENT_TARGET (λ e f. assign_apart f) (let h = rows_there in omega arith) form_starts

pub target_only : OnlyRule Target Name TARGET_NAME
target_only = by_start Target Name TARGET_NAME (λ e f. target_apart f) (let h = rows_there in omega arith) target_starts

-- two tokens of a label, two tokens of an assignment
-- what follows a name where these two tokens are awaited
pub record Behind (k : TokenKind) (ts : List TokenKind) : Type 0 where
  pub rest : List TokenKind
  pub is : ts ≡ k ∷ rest

after_two : (at : ℕ) (j k : TokenKind) (stack : List Entry) (os : List Opening) (ts : List TokenKind) → Steps at (Await j ∷ Await k ∷ stack) os (Name ∷ ts) → Behind k ts
after_two at j k stack os ts d =
    let x = taken d in
    let y = taken x.then' in
    record { rest = y.rest; is = same_rest x.is ∙ y.is }

pub label_next : (at : ℕ) (room : Room) (rest : List Entry) (os : List Opening) (ts : List TokenKind) → Steps at (body label_row room ++ rest) os (Name ∷ ts) → Behind Colon ts
label_next at room rest os ts d =
    after_two at Name Colon (Derive Block (inside label_row room) ∷ rest) os ts (subst (λ s. Steps at (entries (inside label_row room) s ++ rest) os (Name ∷ ts)) label_is d)

pub assign_next : (at : ℕ) (room : Room) (rest : List Entry) (os : List Opening) (ts : List TokenKind) → Steps at (body assign_row room ++ rest) os (Name ∷ ts) → Behind Equals ts
assign_next at room rest os ts d =
    let w = inside assign_row room in
    let t = inside ASSIGNMENT_TARGET w in
    let a = (along_by at w Assignment Name ASSIGNMENT_TARGET rest form_only).only os ts (subst (λ s. Steps at (entries w s ++ rest) os (Name ∷ ts)) assign_is d) in
    let m = Await Equals ∷ Derive RightSide t ∷ Derive NoErrorWord t ∷ Await Period ∷ rest in
    let b = (along_by at t Target Name TARGET_NAME m target_only).only a.0 ts (subst (λ s. Steps at (entries t s ++ rest) a.0 (Name ∷ ts)) form_is a.2) in
    after_two at Name Equals (Derive RightSide t ∷ Derive NoErrorWord t ∷ Await Period ∷ rest) b.0 ts (subst (λ s. Steps at (entries (inside TARGET_NAME t) s ++ m) b.0 (Name ∷ ts)) target_is b.2)

no_colon : {xs ys : List TokenKind} → Colon ∷ xs ≡ Equals ∷ ys → ⊥
no_colon e = cc

some_symbols : (r : ℕ) (x : Symbol) (xs : List Symbol) (ts : List TokenKind) → (rule r).symbols ≡ x ∷ xs → Greedy r ts
some_symbols r x xs ts e nil = let q : x ∷ xs ≡ [] = sym e ∙ nil in cc

-- the same where the token after is known too
pub record AlongNext (at : ℕ) (start : List Entry) (added : List Opening) (goal : List Entry) (k follower : TokenKind) : Type 0 where
  pub sound : (os : List Opening) (ts : List TokenKind) → Steps at goal os (k ∷ ts) → Steps at start (added ++ os) (k ∷ ts)
  pub only : (os : List Opening) (ts : List TokenKind) → Steps at start os (k ∷ follower ∷ ts) → (more : List Opening) × (os ≡ added ++ more) × Steps at goal more (k ∷ follower ∷ ts)

pub label_along : (at : ℕ) (room : Room) (rest : List Entry) → AlongNext at (Derive Statement room ∷ rest) (opening label_row at room ∷ []) (body label_row room ++ rest) Name Colon
label_along at room rest = record {
  sound = λ os ts d. open_one label_row (let h = rows_there in omega arith) nonterminals_are.0 (some_symbols label_row (Take Name) (Take Colon ∷ Open Block ∷ []) (Name ∷ ts) label_is) d;
  only = λ os ts d.
      let o = opened d in
      let e : o.r ≡ label_row = elim (one_of_two at room rest os (Colon ∷ ts) o) [
        | inl g ↦ g
        | inr g ↦ absurd (no_colon (assign_next at room rest o.rest (Colon ∷ ts) (subst (λ r. Steps at (body r room ++ rest) o.rest (Name ∷ Colon ∷ ts)) g o.then')).is)
      ] in
      (o.rest, o.is ∙ ap (λ x. opening x at room ∷ o.rest) e, subst (λ x. Steps at (body x room ++ rest) o.rest (Name ∷ Colon ∷ ts)) e o.then');
}

pub assign_along : (at : ℕ) (room : Room) (rest : List Entry) (n : TokenKind) → n ≢ Colon → AlongNext at (Derive Statement room ∷ rest) (opening assign_row at room ∷ []) (body assign_row room ++ rest) Name n
assign_along at room rest n c = record {
  sound = λ os ts d. open_one assign_row (let h = rows_there in omega arith) nonterminals_are.1 (some_symbols assign_row (Open Assignment) [] (Name ∷ ts) assign_is) d;
  only = λ os ts d.
      let o = opened d in
      let e : o.r ≡ assign_row = elim (one_of_two at room rest os (n ∷ ts) o) [
        | inl g ↦ absurd (c (same_first (label_next at room rest o.rest (n ∷ ts) (subst (λ r. Steps at (body r room ++ rest) o.rest (Name ∷ n ∷ ts)) g o.then')).is))
        | inr g ↦ g
      ] in
      (o.rest, o.is ∙ ap (λ x. opening x at room ∷ o.rest) e, subst (λ x. Steps at (body x room ++ rest) o.rest (Name ∷ n ∷ ts)) e o.then');
}

-- and on by one token
pub along_more : (at : ℕ) (a b c : List Entry) (xs ys : List Opening) (k n : TokenKind) → AlongNext at a xs b k n → Along at b ys c k → AlongNext at a (xs ++ ys) c k n
along_more at a b c xs ys k n l m = record {
  sound = λ os ts d. subst (λ x. Steps at a x (k ∷ ts)) (sym (append_assoc xs ys os)) (l.sound (ys ++ os) ts (m.sound os ts d));
  only = λ os ts d.
      let x = l.only os ts d in
      let y = m.only x.0 (n ∷ ts) x.2 in
      (y.0, x.1 ∙ ap (λ z. xs ++ z) y.1 ∙ sym (append_assoc xs ys y.0), y.2);
}
