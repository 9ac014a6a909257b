use Rattle.std.proofs.Common.{◌≡◌, ℕ, List, ◌∷◌, ◌++◌, take, drop, Some, true, false, inl, inr, sym, ap, ◌∙◌, subst}
use Rattle.database_meaning.specs.Waiting.{IsAscending}
use Rattle.key_index.specs.Left.{Lists}
use Rattle.row_keys.specs.Questions.{below}
use Rattle.row_keys.proofs.Ascending.{inserted, inserted_ascending, inserted_is, inserted_lists}
use Rattle.row_keys.proofs.reserved.add_keeper.Goals as goal

pub returns-then-lists-clause-lists : goal.returns-then-lists-clause-lists
returns-then-lists-clause-lists c = λ d. (
  λ h. inl h,
  λ h. elim h [
    | inl l ↦ l
    | inr e ↦
        let found : Some c.in-Some.client ≡ Some d = sym c.in-Some.is ∙ e in
        let same : c.in-Some.client ≡ d = cc in
        let there : Lists c.as_slice.result.now c.in-Some.client = c.lists.ensures.0 c.if-lists.true in
        subst (λ (n : ℕ). Lists c.args.clients.now.items n) same (subst (λ (xs : List ℕ). Lists xs c.in-Some.client) c.as_slice.ensures.value there)
  ],
)

pub returns-clause-ascending : goal.returns-clause-ascending
returns-clause-ascending c =
    let xs = c.args.clients.now.items in
    let client = c.in-Some.client in
    let place : c.place_of-at.result ≡ below xs client = c.place_of-at.ensures.place ∙ ap (λ (ys : List ℕ). below ys client) c.as_slice-2.ensures.value in
    let is : c.insert.new.self.items ≡ inserted xs client =
    c.in_ok-insert.ensures.items ∙ (ap (λ (n : ℕ). take n xs ++ client ∷ drop n xs) place ∙ inserted_is xs client) in
    let never : Lists xs client → ⊥ = λ h.
    (let t : c.lists.result ≡ true = c.lists.ensures.1 (subst (λ (ys : List ℕ). Lists ys client) (sym c.as_slice.ensures.value) h) in
    let clash : true ≡ false = sym t ∙ c.if-lists.false in cc) in
    subst IsAscending (sym is) (inserted_ascending xs client c.requires never)

pub returns-clause-lists : goal.returns-clause-lists
returns-clause-lists c = λ d.
    let xs = c.args.clients.now.items in
    let client = c.in-Some.client in
    let place : c.place_of-at.result ≡ below xs client = c.place_of-at.ensures.place ∙ ap (λ (ys : List ℕ). below ys client) c.as_slice-2.ensures.value in
    let is : c.insert.new.self.items ≡ inserted xs client =
    c.in_ok-insert.ensures.items ∙ (ap (λ (n : ℕ). take n xs ++ client ∷ drop n xs) place ∙ inserted_is xs client) in (
      λ h. elim ((inserted_lists xs client d).0 (subst (λ (ys : List ℕ). Lists ys d) is h)) [
        | inl l ↦ inl l
        | inr e ↦ inr (c.in-Some.is ∙ ap (λ (n : ℕ). Some n) e)
      ],
      λ h. subst (λ (ys : List ℕ). Lists ys d) (sym is) ((inserted_lists xs client d).1 (elim h [
        | inl l ↦ inl l
        | inr e ↦
            let found : Some client ≡ Some d = sym c.in-Some.is ∙ e in
            let same : client ≡ d = cc in
            inr same
      ])),
    )
