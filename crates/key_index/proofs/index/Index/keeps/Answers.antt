use Rattle.std.proofs.Common.{sym, ◌∙◌}
use Rattle.std.proofs.lemmas.Bool.{true_from_ne_false}
use Rattle.key_index.proofs.NodesOf.{keeper_is, kept_listed}
use Rattle.key_index.proofs.index.Index.keeps.Goals as goal

pub returns : goal.returns
returns c = (
  λ yes. let kept = c.keeps_one.ensures.found yes in (kept.0, keeper_is c.self.inside.nodes c.args.self.now c.self.view_is kept.0 ∙ kept.1),
  λ (key, keeps). true_from_ne_false c.keeps_one.result (λ none.
      let here = sym (keeper_is c.self.inside.nodes c.args.self.now c.self.view_is key) ∙ keeps in
      c.keeps_one.ensures.none none key (kept_listed c.self.inside.nodes c.self.inside.touched c.args.client key c.self.invariant here) here),
)
