-- What opening a statement at a name does.
use Rattle.std.proofs.Common.{ℕ, ◌≡◌, ◌≢◌, true, false, ◌&&◌, List, [], ◌∷◌, ◌++◌, refl, sym, ◌∙◌, ap, subst, inl, inr}
use Rattle.std.specs.Prelude.{◌==◌}
use Rattle.std.proofs.lemmas.Bool.{eqb-true}
use Rattle.parse_tree.specs.declared.token.TokenKind.{TokenKind}
use Rattle.parse_tree.specs.declared.token.TokenKind.TheVariants.{Name, Colon, Equals, Period}
use Rattle.parse_tree.specs.declared.production.TheConstants.{ASSIGNMENT_TARGET, TARGET_NAME}
use Rattle.parser.specs.declared.nonterminal.Nonterminal.TheVariants.{Statement, Block, Assignment, Target, RightSide, NoErrorWord}
use Rattle.parser.specs.declared.symbol.Room.{Room}
use Rattle.parser.specs.declared.symbol.Entry.{Entry}
use Rattle.parser.specs.declared.symbol.Entry.TheVariants.{Await, Derive}
use Rattle.parser.specs.declared.symbol.Opening.{Opening}
use Rattle.parser.specs.Same.{same_nonterminal}
use Rattle.parser.specs.Grammar.{row, nonterminals, symbols, symbols_from, starts, starts_from, empty, rule, rules as table, inside, opening, statement, expression, too_deep, any_deep}
use Rattle.parser.specs.Engine.{entries, body, Named}
use Rattle.std.proofs.lemmas.Bool.{or_cases, both_ways}
use Rattle.abl_base.proofs.Bools.{left_of_and, right_of_and}
use Rattle.parser.proofs.Steps.{Along, along_by}
use Rattle.parser.proofs.Checks.{label_row, assign_row}
use Rattle.parser.proofs.NameRows.{AlongNext, label_along, assign_along, along_more, label_is, assign_is, form_is, target_is, form_only, target_only}

-- which of the four productions are counted
statement_label : (expression label_row ≡ false)
unfolding expression rule table row nonterminals symbols symbols_from starts starts_from empty same_nonterminal
statement_label = refl

statement_assign : (expression assign_row ≡ false)
unfolding expression rule table row nonterminals symbols symbols_from starts starts_from empty same_nonterminal
statement_assign = refl

form_plain : (statement ASSIGNMENT_TARGET ≡ false) × (expression ASSIGNMENT_TARGET ≡ false)
unfolding statement expression rule table row nonterminals symbols symbols_from starts starts_from empty same_nonterminal
form_plain = (refl, refl)

target_plain : (statement TARGET_NAME ≡ false) × (expression TARGET_NAME ≡ false)
unfolding statement expression rule table row nonterminals symbols symbols_from starts starts_from empty same_nonterminal
target_plain = (refl, refl)

-- a statement that is no expression finds no room only where there is none for statements
no_statement : (r : ℕ) (room : Room) → expression r ≡ false → too_deep r room ≡ true → room.statements ≡ 0
unfolding too_deep
no_statement r room e d = elim (or_cases (statement r && room.statements == 0) _ d) [
  | inl h ↦ eqb-true room.statements 0 (right_of_and (statement r) _ h)
  | inr h ↦ absurd (both_ways _ e (left_of_and (expression r) _ h))
]

never_deep : (r : ℕ) (room : Room) → (statement r ≡ false) × (expression r ≡ false) → too_deep r room ≡ true → ⊥
unfolding too_deep
never_deep r room e d = elim (or_cases (statement r && room.statements == 0) _ d) [
  | inl h ↦ both_ways _ e.0 (left_of_and (statement r) _ h)
  | inr h ↦ both_ways _ e.1 (left_of_and (expression r) _ h)
]

label_deep : (at : ℕ) (room : Room) → any_deep (opening label_row at room ∷ []) ≡ true → room.statements ≡ 0
label_deep at room d = elim (or_cases (too_deep label_row room) false d) [
  | inl h ↦ no_statement label_row room statement_label h
  | inr h ↦ cc
]

assign_deep : (at : ℕ) (room : Room) → any_deep (opening assign_row at room ∷ opening ASSIGNMENT_TARGET at (inside assign_row room) ∷ opening TARGET_NAME at (inside ASSIGNMENT_TARGET (inside assign_row room)) ∷ []) ≡ true → room.statements ≡ 0
assign_deep at room d =
    let w = inside assign_row room in
    let t = inside ASSIGNMENT_TARGET w in
    elim (or_cases (too_deep assign_row room) _ d) [
      | inl h ↦ no_statement assign_row room statement_assign h
      | inr h ↦ elim (or_cases (too_deep ASSIGNMENT_TARGET w) _ h) [
        | inl g ↦ absurd (never_deep ASSIGNMENT_TARGET w form_plain g)
        | inr g ↦ elim (or_cases (too_deep TARGET_NAME t) false g) [
          | inl f ↦ absurd (never_deep TARGET_NAME t target_plain f)
          | inr f ↦ cc
        ]
      ]
    ]

label_named : (at : ℕ) (room : Room) (rest : List Entry) (earlier : List Opening) → Named at room rest earlier (body label_row room ++ rest) (earlier ++ opening label_row at room ∷ []) Colon
label_named at room rest earlier =
    let l = label_along at room rest in
    record {
      added = opening label_row at room ∷ [];
      is = refl;
      all_here = (refl, tt);
      deep = label_deep at room;
      top = (Await Colon ∷ Derive Block (inside label_row room) ∷ rest, ap (λ s. entries (inside label_row room) s ++ rest) label_is);
      sound = l.sound;
      only = l.only;
    }

pub label_step : (at : ℕ) (room : Room) (rest to : List Entry) (earlier later : List Opening) (n : TokenKind) → to ≡ body label_row room ++ rest → later ≡ earlier ++ opening label_row at room ∷ [] → n ≡ Colon → Named at room rest earlier to later n
label_step at room rest to earlier later n e f g =
    subst (λ x. Named at room rest earlier to later x) (sym g) (
    subst (λ x. Named at room rest earlier x later Colon) (sym e) (
    subst (λ x. Named at room rest earlier (body label_row room ++ rest) x Colon) (sym f) (label_named at room rest earlier)))

-- the stacks between
pub second_top : (room : Room) (to rest : List Entry) → to ≡ body assign_row room ++ rest → to ≡ Derive Assignment (inside assign_row room) ∷ rest
second_top room to rest f = f ∙ ap (λ s. entries (inside assign_row room) s ++ rest) assign_is

abbrev pub beyond_target : Room → List Entry → List Entry
beyond_target t rest = Await Equals ∷ Derive RightSide t ∷ Derive NoErrorWord t ∷ Await Period ∷ rest

pub third_top : (room : Room) (to rest : List Entry) → to ≡ body ASSIGNMENT_TARGET room ++ rest → to ≡ Derive Target (inside ASSIGNMENT_TARGET room) ∷ beyond_target (inside ASSIGNMENT_TARGET room) rest
third_top room to rest f = f ∙ ap (λ s. entries (inside ASSIGNMENT_TARGET room) s ++ rest) form_is

-- the openings of an assignment, and the room in its two lower nonterminals
abbrev pub inner : Room → Room
inner room = inside assign_row room

abbrev pub innermost : Room → Room
innermost room = inside ASSIGNMENT_TARGET (inner room)

abbrev pub three : ℕ → Room → List Opening
three at room = opening assign_row at room ∷ opening ASSIGNMENT_TARGET at (inner room) ∷ opening TARGET_NAME at (innermost room) ∷ []

three_along : (at : ℕ) (room : Room) (rest : List Entry) (n : TokenKind) → n ≢ Colon → AlongNext at (Derive Statement room ∷ rest) (three at room) (body TARGET_NAME (innermost room) ++ beyond_target (innermost room) rest) Name n
three_along at room rest n c =
    let w = inner room in
    let t = innermost room in
    let m = beyond_target t rest in
    let a = assign_along at room rest n c in
    let e1 : body assign_row room ++ rest ≡ Derive Assignment w ∷ rest = second_top room (body assign_row room ++ rest) rest refl in
    let e2 : body ASSIGNMENT_TARGET w ++ rest ≡ Derive Target t ∷ m = third_top w (body ASSIGNMENT_TARGET w ++ rest) rest refl in
    let b : Along at (body assign_row room ++ rest) (opening ASSIGNMENT_TARGET at w ∷ []) (body ASSIGNMENT_TARGET w ++ rest) Name =
    subst (λ x. Along at x (opening ASSIGNMENT_TARGET at w ∷ []) (body ASSIGNMENT_TARGET w ++ rest) Name) (sym e1) (along_by at w Assignment Name ASSIGNMENT_TARGET rest form_only) in
    let d : Along at (body ASSIGNMENT_TARGET w ++ rest) (opening TARGET_NAME at t ∷ []) (body TARGET_NAME t ++ m) Name =
    subst (λ x. Along at x (opening TARGET_NAME at t ∷ []) (body TARGET_NAME t ++ m) Name) (sym e2) (along_by at t Target Name TARGET_NAME m target_only) in
    along_more at _ _ _ (opening assign_row at room ∷ opening ASSIGNMENT_TARGET at w ∷ []) (opening TARGET_NAME at t ∷ []) Name n (
    along_more at _ _ _ (opening assign_row at room ∷ []) (opening ASSIGNMENT_TARGET at w ∷ []) Name n a b) d

assign_named : (at : ℕ) (room : Room) (rest : List Entry) (earlier : List Opening) (n : TokenKind) → n ≢ Colon → Named at room rest earlier (body TARGET_NAME (innermost room) ++ beyond_target (innermost room) rest) (earlier ++ three at room) n
assign_named at room rest earlier n c =
    let l = three_along at room rest n c in
    record {
      added = three at room;
      is = refl;
      all_here = (refl, (refl, (refl, tt)));
      deep = assign_deep at room;
      top = (beyond_target (innermost room) rest, ap (λ s. entries (inside TARGET_NAME (innermost room)) s ++ beyond_target (innermost room) rest) target_is);
      sound = l.sound;
      only = l.only;
    }

three_added : (u : List Opening) (a b c : Opening) → ((u ++ a ∷ []) ++ b ∷ []) ++ c ∷ [] ≡ u ++ a ∷ b ∷ c ∷ []
three_added [] a b c = refl
three_added (x ∷ u) a b c = ap (λ y. x ∷ y) (three_added u a b c)

pub assign_step : (at : ℕ) (room within target : Room) (rest to : List Entry) (u v w x : List Opening) (n : TokenKind) → within ≡ inner room → target ≡ inside ASSIGNMENT_TARGET within
    → to ≡ body TARGET_NAME target ++ beyond_target target rest
    → v ≡ u ++ opening assign_row at room ∷ [] → w ≡ v ++ opening ASSIGNMENT_TARGET at within ∷ [] → x ≡ w ++ opening TARGET_NAME at target ∷ [] → n ≢ Colon → Named at room rest u to x n
assign_step at room within target rest to u v w x n e f i j k l c =
    let t : target ≡ innermost room = f ∙ ap (λ y. inside ASSIGNMENT_TARGET y) e in
    let xs : x ≡ u ++ three at room =
    l ∙ ap (λ y. y ++ opening TARGET_NAME at target ∷ []) (k ∙ ap (λ y. y ++ opening ASSIGNMENT_TARGET at within ∷ []) j)
    ∙ ap (λ y. ((u ++ opening assign_row at room ∷ []) ++ opening ASSIGNMENT_TARGET at y ∷ []) ++ opening TARGET_NAME at target ∷ []) e
    ∙ ap (λ y. ((u ++ opening assign_row at room ∷ []) ++ opening ASSIGNMENT_TARGET at (inner room) ∷ []) ++ opening TARGET_NAME at y ∷ []) t
    ∙ three_added u (opening assign_row at room) (opening ASSIGNMENT_TARGET at (inner room)) (opening TARGET_NAME at (innermost room)) in
    let es : to ≡ body TARGET_NAME (innermost room) ++ beyond_target (innermost room) rest = i ∙ ap (λ y. body TARGET_NAME y ++ beyond_target y rest) t in
    subst (λ y. Named at room rest u y x n) (sym es) (
    subst (λ y. Named at room rest u (body TARGET_NAME (innermost room) ++ beyond_target (innermost room) rest) y n) (sym xs) (
    assign_named at room rest u n c))

pub second_at : (room within : Room) (to rest : List Entry) → within ≡ inner room → to ≡ body assign_row room ++ rest → to ≡ Derive Assignment within ∷ rest
second_at room within to rest e f = second_top room to rest f ∙ ap (λ y. Derive Assignment y ∷ rest) (sym e)

pub third_at : (within target : Room) (to rest : List Entry) → target ≡ inside ASSIGNMENT_TARGET within → to ≡ body ASSIGNMENT_TARGET within ++ rest → to ≡ Derive Target target ∷ beyond_target target rest
third_at within target to rest e f = third_top within to rest f ∙ ap (λ y. Derive Target y ∷ beyond_target y rest) (sym e)
