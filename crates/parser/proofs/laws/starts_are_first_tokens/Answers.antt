use Rattle.parser.proofs.Sound.{starts_are, starts_begin}
use Rattle.parser.proofs.laws.starts_are_first_tokens.Goals as goal

pub returns : goal.returns
returns c = λ r kind h. (λ e. starts_begin r kind h e, λ b. starts_are r kind h b)
