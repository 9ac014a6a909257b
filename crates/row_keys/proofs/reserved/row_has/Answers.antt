use Rattle.std.proofs.Common.{◌≡◌, ℕ, List, Some, true, false, sym, ap, ◌∙◌}
use Rattle.abl_values.specs.Masks.{same_bytes}
use Rattle.row_indexes.proofs.Bytes.{same_bytes_eq, same_bytes_refl}
use Rattle.row_keys.proofs.Placed.{none_is_none}
use Rattle.row_keys.proofs.Reserving.{same_key}
use Rattle.row_keys.proofs.reserved.row_has.Goals as goal

pub returns-in-None : goal.returns-in-None
returns-in-None c = (
  λ t. (let clash : false ≡ true = t in cc),
  λ e. absurd (none_is_none c.args.key.now (sym c.in-None.is ∙ (c.in_ok-unique_key_of.ensures ∙ e))),
)

pub returns-in-Some : goal.returns-in-Some
returns-in-Some c = (
  λ t. sym c.in_ok-unique_key_of.ensures ∙ (c.in-Some.is ∙ ap (λ (k : List ℕ). Some k) (same_bytes_eq c.in-Some.other c.args.key.now (sym c.same_key.ensures ∙ t))),
  λ e. (let same = same_key c.in_ok-unique_key_of.field-0 c.in-Some.other c.args.key.now c.in-Some.is (c.in_ok-unique_key_of.ensures ∙ e) in
      c.same_key.ensures ∙ (ap (λ (k : List ℕ). same_bytes k c.args.key.now) same ∙ same_bytes_refl c.args.key.now)),
)
