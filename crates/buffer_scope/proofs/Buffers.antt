-- One more buffer of a procedure has its scopes, and is judged.
use Rattle.std.proofs.Common.{◌≡◌, ℕ, zero, suc, ◌+◌, ◌<◌, List, [], ◌∷◌, ◌++◌, Option, length, drop, refl, sym, ap, ◌∙◌, add-one, arith}
use Rattle.std.specs.Prelude.{map}
use Rattle.bind_names.specs.declared.violation.Violation.{Violation}
use Rattle.bound_tree.specs.declared.procedure.BufferDef.{BufferDef}
use Rattle.bound_tree.specs.declared.procedure.Reference.{Reference}
use Rattle.buffer_scope.specs.declared.buffer.BufferScopes.{BufferScopes}
use Rattle.buffer_scope.specs.Blocks.{Placed}
use Rattle.buffer_scope.specs.First.{first_of}
use Rattle.buffer_scope.specs.Rules.{buffer_breaks, buffers_break}
use Rattle.buffer_scope.specs.Scoped.{all_scopes}
use Rattle.buffer_scope.specs.Scopes.{Scopes, references_to, scopes_of}
use Rattle.buffer_scope.specs.Views.{found_of}
use Rattle.buffer_scope.proofs.Joined.{first_of_append}

one_here : {A : Type 0} (xs : List A) (i : ℕ) → i < length xs → (x : A) × (drop i xs ≡ x ∷ drop (suc i) xs)
one_here [] i below = absurd (omega (arith, below))
one_here (x ∷ xs) zero below = (x, refl)
one_here (x ∷ xs) (suc i) below = one_here xs i (omega (arith, below))

pushed : {A B : Type 0} (f : A → B) (xs : List A) (x : A) (ys : List B) → map f (xs ++ x ∷ []) ++ ys ≡ map f xs ++ (f x ∷ ys)
pushed f [] x ys = refl
pushed f (z ∷ zs) x ys = ap (λ t. f z ∷ t) (pushed f zs x ys)

pub next_scopes :
    (blocks : List Placed) (rs named : List Reference) (bs : List BufferDef) (i : ℕ) (all : List Scopes) (old new : List BufferScopes) (s : BufferScopes) → i < length bs → named ≡ rs →
    all ≡ map found_of old ++ all_scopes blocks rs i (drop i bs) → found_of s ≡ scopes_of blocks (references_to i named) → new ≡ old ++ s ∷ [] →
    all ≡ map found_of new ++ all_scopes blocks rs (i + 1) (drop (i + 1) bs)
next_scopes blocks rs named bs i all old new s below same before is added =
    before
    ∙ ap (λ xs. map found_of old ++ all_scopes blocks rs i xs) (one_here bs i below).1
    ∙ ap (λ j. map found_of old ++ (scopes_of blocks (references_to i rs) ∷ all_scopes blocks rs (i + 1) (drop j bs))) (sym (add-one i))
    ∙ ap (λ xs. map found_of old ++ (scopes_of blocks (references_to i xs) ∷ all_scopes blocks rs (i + 1) (drop (i + 1) bs))) (sym same)
    ∙ ap (λ t. map found_of old ++ (t ∷ all_scopes blocks rs (i + 1) (drop (i + 1) bs))) (sym is)
    ∙ sym (pushed found_of old s (all_scopes blocks rs (i + 1) (drop (i + 1) bs)))
    ∙ ap (λ xs. map found_of xs ++ all_scopes blocks rs (i + 1) (drop (i + 1) bs)) (sym added)

pub next_breaks :
    (blocks : List Placed) (rs named : List Reference) (bs : List BufferDef) (i : ℕ) (all so_far next : Option Violation) → i < length bs → named ≡ rs →
    all ≡ first_of so_far (buffers_break blocks rs i (drop i bs)) → next ≡ first_of so_far (buffer_breaks blocks (references_to i named)) →
    all ≡ first_of next (buffers_break blocks rs (i + 1) (drop (i + 1) bs))
next_breaks blocks rs named bs i all so_far next below same before now =
    let rest = buffers_break blocks rs (i + 1) (drop (i + 1) bs) in
    before
    ∙ ap (λ xs. first_of so_far (buffers_break blocks rs i xs)) (one_here bs i below).1
    ∙ ap (λ j. first_of so_far (buffer_breaks blocks (references_to i rs) ++ buffers_break blocks rs (i + 1) (drop j bs))) (sym (add-one i))
    ∙ first_of_append so_far (buffer_breaks blocks (references_to i rs)) rest
    ∙ ap (λ xs. first_of (first_of so_far (buffer_breaks blocks (references_to i xs))) rest) (sym same)
    ∙ ap (λ o. first_of o rest) (sym now)
