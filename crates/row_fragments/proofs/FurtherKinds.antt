-- The kinds of fragments, over writes of other slots.
use Rattle.std.proofs.Common.{◌≡◌, ℕ, List, [], ◌∷◌, sym, ap, ◌∙◌, subst}
use Rattle.std.specs.List.{Contains}
use Rattle.row_fragments.specs.Fragments.{kind_in, fragment_bytes}
use Rattle.row_fragments.specs.Kinds.{HaveKinds}
use Rattle.row_fragments.proofs.Within.{head_in, tail_in}
use Rattle.row_fragments.proofs.Encoded.{kind_read}

-- slots that read the same have the same kinds
pub kinds_same : (old new : ℕ → List ℕ) (slots : List ℕ) (kind : ℕ) → ((k : ℕ) → Contains slots k → new k ≡ old k) → HaveKinds old slots kind → HaveKinds new slots kind
kinds_same old new [] kind same h = tt
kinds_same old new (at ∷ rest) kind same h =
    (ap kind_in (same at (head_in at rest)) ∙ h.0, kinds_same old new rest 2 (λ k there. same k (tail_in at k rest there)) h.1)

-- a first fragment before further ones
pub kinds_more : (old new : ℕ → List ℕ) (at kind next total table : ℕ) (rest slots content : List ℕ) → slots ≡ at ∷ rest → ((k : ℕ) → Contains rest k → new k ≡ old k)
    → new at ≡ fragment_bytes kind next total table content → HaveKinds old rest 2 → HaveKinds new slots kind
kinds_more old new at kind next total table rest slots content is same here h =
    let whole : HaveKinds new (at ∷ rest) kind = (ap kind_in here ∙ kind_read kind next total table content, kinds_same old new rest 2 same h) in
    subst (λ (xs : List ℕ). HaveKinds new xs kind) (sym is) whole
