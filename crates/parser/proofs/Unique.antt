-- No list of tokens has two derivations.
use Rattle.std.proofs.Common.{ℕ, ◌+◌, ◌≡◌, List, [], ◌∷◌, ◌++◌, refl, sym, ◌∙◌, ap, subst, inl, inr}
use Rattle.parse_tree.specs.declared.token.TokenKind.{TokenKind}
use Rattle.parse_tree.specs.declared.token.TokenKind.TheVariants.{Name, Colon, Equals}
use Rattle.parser.specs.declared.nonterminal.Nonterminal.{Nonterminal}
use Rattle.parser.specs.declared.nonterminal.Nonterminal.TheVariants.{Statement}
use Rattle.parser.specs.declared.symbol.Room.{Room}
use Rattle.parser.specs.declared.symbol.Entry.{Entry}
use Rattle.parser.specs.declared.symbol.Opening.{Opening}
use Rattle.parser.specs.Grammar.{opening}
use Rattle.parser.specs.Engine.{body, Steps, done, take_one, open_one}
use Rattle.parser.proofs.Flags.{same_rest}
use Rattle.parser.proofs.Checks.{label_row, assign_row}
use Rattle.parser.proofs.Trees.{opened, Opened, taken}
use Rattle.parser.proofs.Sound.{alike, starts_begin}
use Rattle.parser.proofs.Steps.{begun, begun_silent}
use Rattle.parser.proofs.NameRows.{one_of_two, label_next, assign_next}

-- a label and an assignment have not one second token
not_both : (at : ℕ) (room : Room) (stack : List Entry) (os os' : List Opening) (ts : List TokenKind) → Steps at (body label_row room ++ stack) os (Name ∷ ts) → Steps at (body assign_row room ++ stack) os' (Name ∷ ts) → ⊥
not_both at room stack os os' ts d e =
    let a = label_next at room stack os ts d in
    let b = assign_next at room stack os' ts e in
    let q : Colon ∷ a.rest ≡ Equals ∷ b.rest = sym a.is ∙ b.is in cc

at_name : (at : ℕ) (room : Room) (stack : List Entry) (os os' : List Opening) (ts : List TokenKind) (o : Opened at room stack os Statement (Name ∷ ts)) (p : Opened at room stack os' Statement (Name ∷ ts)) → o.r ≡ p.r
at_name at room stack os os' ts o p = elim (one_of_two at room stack os ts o) [
  | inl g ↦ elim (one_of_two at room stack os' ts p) [
    | inl h ↦ g ∙ sym h
    | inr h ↦ absurd (not_both at room stack o.rest p.rest ts (subst (λ r. Steps at (body r room ++ stack) o.rest (Name ∷ ts)) g o.then') (subst (λ r. Steps at (body r room ++ stack) p.rest (Name ∷ ts)) h p.then'))
  ]
  | inr g ↦ elim (one_of_two at room stack os' ts p) [
    | inl h ↦ absurd (not_both at room stack p.rest o.rest ts (subst (λ r. Steps at (body r room ++ stack) p.rest (Name ∷ ts)) h p.then') (subst (λ r. Steps at (body r room ++ stack) o.rest (Name ∷ ts)) g o.then'))
    | inr h ↦ g ∙ sym h
  ]
]

named_alike : (at : ℕ) (room : Room) (a : Nonterminal) (k : TokenKind) (stack : List Entry) (os os' : List Opening) (ts : List TokenKind) → k ≡ Name → a ≡ Statement → (o : Opened at room stack os a (k ∷ ts)) (p : Opened at room stack os' a (k ∷ ts)) → o.r ≡ p.r
named_alike at room a k stack os os' ts e f =
    let P : TokenKind → Nonterminal → Type 0 = λ j b. (o : Opened at room stack os b (j ∷ ts)) (p : Opened at room stack os' b (j ∷ ts)) → o.r ≡ p.r in
    subst (λ j. P j a) (sym e) (subst (λ b. P Name b) (sym f) (at_name at room stack os os' ts))

same_row : (at : ℕ) (room : Room) (a : Nonterminal) (stack : List Entry) (os os' : List Opening) (ts : List TokenKind) (o : Opened at room stack os a ts) (p : Opened at room stack os' a ts) → o.r ≡ p.r
same_row at room a stack os os' [] o p = elim (alike o.r p.r o.within p.within (o.nonterminal ∙ sym p.nonterminal)) [
  | inl g ↦ g
  | inr x ↦ absurd (x.one_empty (begun_silent at room a stack os o) (begun_silent at room a stack os' p))
]
same_row at room a stack os os' (k ∷ ts) o p = elim (alike o.r p.r o.within p.within (o.nonterminal ∙ sym p.nonterminal)) [
  | inl g ↦ g
  | inr x ↦ elim (begun at room a k stack os ts o) [
    | inl g ↦ elim (begun at room a k stack os' ts p) [
      | inl h ↦ (let d = x.disjoint k g h in named_alike at room a k stack os os' ts d.0 (sym o.nonterminal ∙ d.1) o p)
      | inr h ↦ absurd (p.greedy (x.second_nil h) o.r k ts o.within (o.nonterminal ∙ sym p.nonterminal) refl (starts_begin o.r k o.within g))
    ]
    | inr g ↦ elim (begun at room a k stack os' ts p) [
      | inl h ↦ absurd (o.greedy (x.first_nil g) p.r k ts p.within (p.nonterminal ∙ sym o.nonterminal) refl (starts_begin p.r k p.within h))
      | inr h ↦ absurd (x.one_empty g h)
    ]
  ]
]

none_left : {at : ℕ} {os : List Opening} {ts : List TokenKind} → Steps at [] os ts → os ≡ []
none_left done = refl

pub unique : {at : ℕ} {stack : List Entry} {os : List Opening} {ts : List TokenKind} → Steps at stack os ts → (os' : List Opening) → Steps at stack os' ts → os ≡ os'
unique done os' e = sym (none_left e)
unique (take_one {at} {stack} {os} {k} {ts} d) os' e =
    let t = taken e in
    unique d os' (subst (λ x. Steps (at + 1) stack os' x) (sym (same_rest t.is)) t.then')
unique (open_one {at} {stack} {os} {ts} {a} {room} r w p g d) os' e =
    let o = opened e in
    let own : Opened at room stack (opening r at room ∷ os) a ts = record { r = r; rest = os; is = refl; within = w; nonterminal = p; greedy = g; then' = d } in
    let same : r ≡ o.r = same_row at room a stack (opening r at room ∷ os) os' ts own o in
    let below : os ≡ o.rest = unique d o.rest (subst (λ x. Steps at (body x room ++ stack) o.rest ts) (sym same) o.then') in
    ap (λ x. opening x at room ∷ os) same ∙ ap (λ x. opening o.r at room ∷ x) below ∙ sym o.is
