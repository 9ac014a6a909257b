use Rattle.std.proofs.Common.{sym, ◌∙◌, inl, inr}
use Rattle.parser.proofs.Sound.{starts_are, alike}
use Rattle.parser.proofs.laws.one_token_decides.Goals as goal

pub returns : goal.returns
returns c = λ q r kind hq hr p b d. elim (alike q r hq hr p) [
  | inl e ↦ inl e
  | inr x ↦ (let both = x.disjoint kind (starts_are q kind hq b) (starts_are r kind hr d) in inr (both.0, sym p ∙ both.1))
]
