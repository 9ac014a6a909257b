-- Where a token opens the 65th.
use Rattle.std.proofs.Common.{ℕ, ◌+◌, ◌<◌, ◌≡◌, true, false, ◌&&◌, List, [], ◌∷◌, ◌++◌, length, take, drop, slice_index_or, refl, sym, ◌∙◌, ap, subst, append_assoc, arith, ◌⊎◌, inl, inr}
use Rattle.std.specs.Prelude.{◌==◌}
use Rattle.std.proofs.lemmas.List.{append_cancel_left}
use Rattle.abl_base.specs.declared.rule.Rule.{Rule}
use Rattle.abl_base.specs.declared.rule.Rule.TheVariants.{G1, G2}
use Rattle.parse_tree.specs.declared.token.TokenKind.{TokenKind}
use Rattle.parser.specs.declared.nonterminal.Nonterminal.TheVariants.{Statement}
use Rattle.parser.specs.declared.symbol.Room.{Room}
use Rattle.parser.specs.declared.symbol.Entry.{Entry}
use Rattle.parser.specs.declared.symbol.Opening.{Opening}
use Rattle.parser.specs.Grammar.{Viable, openings, full, rule, statement, too_deep, any_deep, DeepAt}
use Rattle.parser.specs.Violations.{Breaks, Stops, Overflows}
use Rattle.parser.specs.Engine.{source, Steps, done, take_one, open_one, AllAt, Went, plainly, looking, Reached}
use Rattle.std.proofs.lemmas.Bool.{or_cases, or_left, or_right, cases_Bool, both_ways}
use Rattle.parser.proofs.Flags.{nonterminals_equal}
use Rattle.parser.proofs.Trees.{opened}
use Rattle.parser.proofs.Runs.{seen_more, first_is, steps_of_forest, forest_of_steps, Finished}

pub deep_left : (at : ℕ) (xs ys : List Opening) → DeepAt at xs → DeepAt at (xs ++ ys)
deep_left at [] ys h = absurd h
deep_left at (x ∷ xs) ys (inl h) = inl h
deep_left at (x ∷ xs) ys (inr h) = inr (deep_left at xs ys h)

pub deep_right : (at : ℕ) (xs ys : List Opening) → DeepAt at ys → DeepAt at (xs ++ ys)
deep_right at [] ys h = h
deep_right at (x ∷ xs) ys h = inr (deep_right at xs ys h)

pub deep_cases : (at : ℕ) (xs ys : List Opening) → DeepAt at (xs ++ ys) → DeepAt at xs ⊎ DeepAt at ys
deep_cases at [] ys h = inr h
deep_cases at (x ∷ xs) ys (inl h) = inl (inl h)
deep_cases at (x ∷ xs) ys (inr h) = elim (deep_cases at xs ys h) [ inl g ↦ inl (inr g) | inr g ↦ inr g ]

pub any_append : (xs ys : List Opening) → any_deep (xs ++ ys) ≡ true → (any_deep xs ≡ true) ⊎ (any_deep ys ≡ true)
any_append [] ys e = inr e
any_append (x ∷ xs) ys e = elim (or_cases x.deep (any_deep (xs ++ ys)) e) [
  | inl h ↦ inl (or_left x.deep (any_deep xs) h)
  | inr h ↦ elim (any_append xs ys h) [ inl g ↦ inl (or_right x.deep (any_deep xs) g) | inr g ↦ inr g ]
]

pub none_append : (xs ys : List Opening) → any_deep xs ≡ false → any_deep ys ≡ false → any_deep (xs ++ ys) ≡ false
none_append xs ys e f = elim (cases_Bool (any_deep (xs ++ ys))) [
  | inl h ↦ elim (any_append xs ys h) [ inl g ↦ absurd (both_ways _ e g) | inr g ↦ absurd (both_ways _ f g) ]
  | inr h ↦ h
]

-- where all are here, one that finds no room is here
pub deep_here : (at : ℕ) (xs : List Opening) → AllAt at xs → any_deep xs ≡ true → DeepAt at xs
deep_here at [] h e = let z : false ≡ true = e in absurd (both_ways _ (sym z) refl)
deep_here at (x ∷ xs) h e = elim (or_cases x.deep (any_deep xs) e) [ inl g ↦ inl (g, h.0) | inr g ↦ inr (deep_here at xs h.1 g) ]

-- where none finds no room, none does at any place
pub shallow_none : (at : ℕ) (xs : List Opening) → any_deep xs ≡ false → DeepAt at xs → ⊥
shallow_none at [] e h = h
shallow_none at (x ∷ xs) e (inl h) = both_ways _ e (or_left x.deep (any_deep xs) h.0)
shallow_none at (x ∷ xs) e (inr h) = shallow_none at xs (elim (cases_Bool (any_deep xs)) [ inl g ↦ absurd (both_ways _ e (or_right x.deep (any_deep xs) g)) | inr g ↦ g ]) h

-- what comes later is opened later
pub not_before : {at : ℕ} {stack : List Entry} {os : List Opening} {ts : List TokenKind} → Steps at stack os ts → (p : ℕ) → p < at → DeepAt p os → ⊥
not_before done p h d = d
not_before (take_one x) p h d = not_before x p (omega arith) d
not_before (open_one r w q g x) p h (inl d) = let e = d.1 in absurd (omega arith)
not_before (open_one r w q g x) p h (inr d) = not_before x p h d

is_statement : (r : ℕ) → (rule r).nonterminal ≡ Statement → statement r ≡ true
unfolding statement
is_statement r p = nonterminals_equal (rule r).nonterminal Statement p

zero_is : (n : ℕ) → n ≡ 0 → (n == 0) ≡ true
zero_is n e = ap (λ x. x == 0) e

no_room : (r : ℕ) (room : Room) → (rule r).nonterminal ≡ Statement → room.statements ≡ 0 → too_deep r room ≡ true
unfolding too_deep
no_room r room p e = or_left (statement r && room.statements == 0) _ (ap (λ b. b && room.statements == 0) (is_statement r p) ∙ zero_is room.statements e)

in_added : (at : ℕ) (xs more os : List Opening) → AllAt at xs → any_deep xs ≡ true → os ≡ xs ++ more → DeepAt at os
in_added at xs more os h e i = subst (λ o. DeepAt at o) (sym i) (deep_left at xs more (deep_here at xs h e))

-- every run that comes here opens the 65th here
pub opens_65th : (at : ℕ) (start : List Entry) (earlier : List Opening) (goal : List Entry) (later : List Opening) (k n : TokenKind) (added : List Opening) → Went at start earlier goal later k n → later ≡ earlier ++ added → any_deep added ≡ true
    → (os : List Opening) (ts : List TokenKind) → Steps at start os (k ∷ ts) → DeepAt at os
opens_65th at start earlier goal later k n added (plainly l) is deep os ts d =
    let e : added ≡ l.added = append_cancel_left earlier added l.added (sym is ∙ l.is) in
    let one = l.only os ts d in
    in_added at l.added one.0 os l.all_here (subst (λ x. any_deep x ≡ true) e deep) one.1
opens_65th at start earlier goal later k n added (looking room rest between l m c) is deep os ts d =
    let i : later ≡ earlier ++ (l.added ++ m.added) = m.is ∙ ap (λ x. x ++ m.added) l.is ∙ append_assoc earlier l.added m.added in
    let e : added ≡ l.added ++ m.added = append_cancel_left earlier added (l.added ++ m.added) (sym is ∙ i) in
    let one = l.only os ts d in
    elim (any_append l.added m.added (subst (λ x. any_deep x ≡ true) e deep)) [
      | inl h ↦ in_added at l.added one.0 os l.all_here h one.1
      | inr h ↦ (
          let o = opened one.2 in
          let x : DeepAt at one.0 = subst (λ y. DeepAt at y) (sym o.is) (inl (no_room o.r room o.nonterminal (m.deep h), refl)) in
          subst (λ y. DeepAt at y) (sym one.1) (deep_right at l.added one.0 x))
    ]

pub overflows : (tokens : List TokenKind) (at : ℕ) (d n : TokenKind) (stack stack' : List Entry) (earlier later added : List Opening) → at < length tokens
    → Reached at stack earlier (take at tokens) (drop at tokens) → Went at stack earlier stack' later (slice_index_or tokens at d) n → later ≡ earlier ++ added → any_deep added ≡ true → Viable (take (at + 1) tokens) → Overflows tokens at
overflows tokens at d n stack stack' earlier later added h r w is deep v = record {
  within = h;
  so_far = v;
  opens = λ forest more x e.
      let run = steps_of_forest forest (openings 0 full forest) (take (at + 1) tokens ++ more) x refl e in
      let one = r.only (openings 0 full forest) (slice_index_or tokens at d ∷ more) (first_is tokens at d more h) (subst (λ t. Steps 0 source (openings 0 full forest) t) (seen_more tokens at d more h) run) in
      subst (λ y. DeepAt at y) (sym one.1) (deep_right at earlier one.0 (opens_65th at stack earlier stack' later (slice_index_or tokens at d) n added w is deep one.0 more one.2));
}

pub no_overflow : (tokens : List TokenKind) (at : ℕ) (used : List Opening) → Finished (at + 1) used (take (at + 1) tokens) → any_deep used ≡ false → Overflows tokens at → ⊥
no_overflow tokens at used f e o =
    let r = forest_of_steps (used ++ f.more) (take (at + 1) tokens ++ f.tokens) f.steps in
    let x = subst (λ y. DeepAt at y) r.reads.opens (o.opens r.forest f.tokens r.reads.derives r.reads.spells) in
    elim (deep_cases at used f.more x) [
      | inl h ↦ shallow_none at used e h
      | inr h ↦ not_before f.goes_on at (omega arith) h
    ]

pub unbroken : (tokens : List TokenKind) (at : ℕ) → (Stops tokens at → ⊥) → (Overflows tokens at → ⊥) → (broken : Rule) → Breaks tokens broken at → ⊥
unbroken tokens at s o G1 b = s b
unbroken tokens at s o G2 b = o b
unbroken tokens at s o _ b = b

pub broken_within : (tokens : List TokenKind) (at : ℕ) (broken : Rule) → Breaks tokens broken at → at < length tokens
broken_within tokens at G1 b = b.within
broken_within tokens at G2 b = b.within
broken_within tokens at _ b = absurd b
