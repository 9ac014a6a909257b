use Rattle.std.proofs.Common.{sym, ap, ◌∙◌, refl}
use Rattle.key_index.specs.Places.{without_left}
use Rattle.key_index.proofs.Owners.{get_owner}
use Rattle.key_index.proofs.rows.Rows.end.Goals as goal

pub returns : goal.returns
returns c row =
    get_owner c.end_rows.new.seats _ refl row ∙ c.end_rows.ensures.ended row ∙ ap (without_left c.args.client) (sym (get_owner c.self.inside.seats c.args.self.now c.self.view_is row))
