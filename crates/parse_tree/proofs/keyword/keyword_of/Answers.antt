use Rattle.std.proofs.Common.{◌∙◌, ap}
use Rattle.parse_tree.specs.Keywords.{first_of, keyword_of, abbreviated, spelled_short}
use Rattle.parse_tree.proofs.keyword.keyword_of.Goals as goal

pub returns-in-Some : goal.returns-in-Some
unfolding keyword_of
returns-in-Some c = ap (λ o. first_of o (spelled_short abbreviated c.args.word.now)) c.in-Some.ensures

pub returns-in-None : goal.returns-in-None
unfolding keyword_of
returns-in-None c = c.spelled_short.ensures ∙ ap (λ o. first_of o (spelled_short abbreviated c.args.word.now)) c.in-None.ensures
