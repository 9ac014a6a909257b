use Rattle.std.proofs.Common.{◌≡◌, [], length, sym, ap, ◌∙◌}
use Rattle.std.specs.Option.{option_map}
use Rattle.std.proofs.lemmas.List.{nil_from_length}
use Rattle.key_index.specs.declared.left.Seat.{Seat}
use Rattle.abl_base.proofs.TreeEntries.{at}
use Rattle.key_index.proofs.Owners.{get_owner, no_entry}
use Rattle.key_index.proofs.rows.Rows.is_empty.Goals as goal

pub returns : goal.returns
returns c = (
  λ empty row.
      let none : c.self.inside.seats.entries ≡ [] = nil_from_length c.self.inside.seats.entries (c.is_empty.ensures.0 empty) in
      get_owner c.self.inside.seats c.args.self.now c.self.view_is row ∙ ap (λ es. option_map (λ (s : Seat). s.owner) (at es row)) none,
  λ none. c.is_empty.ensures.1 (ap length (no_entry c.self.inside.seats.entries (λ row. sym (get_owner c.self.inside.seats c.args.self.now c.self.view_is row) ∙ none row))),
)
