use Rattle.std.proofs.Common.{◌≡◌, List, ◌∷◌, true, false, sym, ◌∙◌, ap}
use Rattle.parse_tree.specs.declared.token.TokenKind.{TokenKind}
use Rattle.parser.specs.declared.symbol.Entry.{Entry}
use Rattle.parser.specs.declared.symbol.Entry.TheVariants.{Await}
use Rattle.parser.specs.Same.{same_kind}
use Rattle.std.proofs.lemmas.Bool.{both_ways}
use Rattle.parser.proofs.Flags.{kinds_same, kind_itself}
use Rattle.parser.proofs.stack.Stack.take.Goals as goal

took : (old new : List Entry) (f : Entry) (k kind : TokenKind) → ((rest : List Entry) × (old ≡ f ∷ rest)) → f ≡ Await k → same_kind k kind ≡ true → ((s : Entry) (rest : List Entry) → old ≡ s ∷ rest → new ≡ rest) → old ≡ Await kind ∷ new
took old new f k kind m e s p =
    let q : k ≡ kind = kinds_same k kind s in
    let n : new ≡ m.0 = p f m.0 m.1 in
    let o : old ≡ f ∷ m.0 = m.1 in
    cc

passed : (old : List Entry) (f : Entry) (k kind : TokenKind) → ((rest : List Entry) × (old ≡ f ∷ rest)) → f ≡ Await k → same_kind k kind ≡ false → (rest : List Entry) → old ≡ Await kind ∷ rest → ⊥
passed old f k kind m e s rest q =
    let o : old ≡ f ∷ m.0 = m.1 in
    let d : k ≡ kind = cc in
    both_ways (same_kind k kind) s (ap (λ x. same_kind k x) (sym d) ∙ kind_itself k)

pub returns-then-same_kind-clause-taken : goal.returns-then-same_kind-clause-taken
returns-then-same_kind-clause-taken c = λ t. took c.args.self.now c.pop.new.self _ _ c.args.kind c.in-Some-Await.ensures c.in-Some-Await.field-0-is (sym c.same_kind.ensures ∙ c.if-same_kind.true) c.pop.ensures

pub returns-else-same_kind-clause-other : goal.returns-else-same_kind-clause-other
returns-else-same_kind-clause-other c = λ t. passed c.args.self.now _ _ c.args.kind c.in-Some-Await.ensures c.in-Some-Await.field-0-is (sym c.same_kind.ensures ∙ c.if-same_kind.false)
