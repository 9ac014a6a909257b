use Rattle.std.proofs.Common.{ℕ, ◌≡◌, ◌<◌, ◌≤◌, inl, inr, List, refl, subst, arith, Option, Some, None}
use Rattle.std.proofs.lemmas.Bool.{cases_eq}
use Rattle.log_meaning.specs.Images.{IsOpened, IsNewest}
use Rattle.log_meaning.proofs.OneLog.{one_opened}
use Rattle.bi_log.specs.declared.header.Header.{Header}
use Rattle.bi_log.specs.Outcomes.{HeaderAnswer}
use Rattle.bi_log.proofs.reader.newer.Goals as goal

says : (image : ℕ → List ℕ) (a : ℕ) (r s : Option Header) → r ≡ s → HeaderAnswer (image a) r → HeaderAnswer (image a) s
says image a r s is h = subst (λ (x : Option Header). HeaderAnswer (image a) x) is h

only_one : (image : ℕ → List ℕ) (a : Header) → HeaderAnswer (image 1) (Some a) → HeaderAnswer (image 2) None → IsNewest image 1 a.generation × IsOpened (image 1) a.generation
only_one image a x y = (record { log = inl refl; newest = λ h o. absurd (y h o) }, x)

only_two : (image : ℕ → List ℕ) (b : Header) → HeaderAnswer (image 1) None → HeaderAnswer (image 2) (Some b) → IsNewest image 2 b.generation × IsOpened (image 2) b.generation
only_two image b x y = (record { log = inr refl; newest = λ h o. absurd (x h o) }, y)

first_newer : (image : ℕ → List ℕ) (a b : Header) → HeaderAnswer (image 1) (Some a) → HeaderAnswer (image 2) (Some b) → b.generation ≤ a.generation → IsNewest image 1 a.generation × IsOpened (image 1) a.generation
first_newer image a b x y le = (
  record {
    log = inl refl;
    newest = λ h o.
        let is = one_opened (image 2) h b.generation o y in
        elim (cases_eq h a.generation) [ inl same ↦ inr (same, refl) | inr other ↦ inl (less h a.generation (omega (arith, is, le)) other) ];
  },
  x,
)
  where
    less : (m n : ℕ) → m ≤ n → (m ≡ n → ⊥) → m < n
    less m n at_most other = grind (arith)

second_newer : (image : ℕ → List ℕ) (a b : Header) → HeaderAnswer (image 1) (Some a) → HeaderAnswer (image 2) (Some b) → a.generation < b.generation → IsNewest image 2 b.generation × IsOpened (image 2) b.generation
second_newer image a b x y lt = (record { log = inr refl; newest = λ h o. inl (let is = one_opened (image 1) h a.generation o x in omega (arith, is, lt)) }, y)

pub returns-in-None-Some-clause-says : goal.returns-in-None-Some-clause-says
returns-in-None-Some-clause-says c = λ image x y. only_two image c.in-None-Some.b (says image 1 _ None c.in-None-Some.is-0 x) (says image 2 _ _ c.in-None-Some.is-1 y)

pub returns-in-Some-None-clause-says : goal.returns-in-Some-None-clause-says
returns-in-Some-None-clause-says c = λ image x y. only_one image c.in-Some-None.a (says image 1 _ _ c.in-Some-None.is-0 x) (says image 2 _ None c.in-Some-None.is-1 y)

pub returns-then-b-a-clause-says : goal.returns-then-b-a-clause-says
returns-then-b-a-clause-says c = λ image x y. second_newer image c.in-Some-Some.a c.in-Some-Some.b (says image 1 _ _ c.in-Some-Some.is-0 x) (says image 2 _ _ c.in-Some-Some.is-1 y) c.if-b-a.true

pub returns-else-b-a-clause-says : goal.returns-else-b-a-clause-says
returns-else-b-a-clause-says c = λ image x y. first_newer image c.in-Some-Some.a c.in-Some-Some.b (says image 1 _ _ c.in-Some-Some.is-0 x) (says image 2 _ _ c.in-Some-Some.is-1 y) c.if-b-a.false
