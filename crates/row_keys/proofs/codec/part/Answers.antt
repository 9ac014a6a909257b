use Rattle.std.proofs.Common.{◌≡◌, ◌++◌, ◌∷◌, [], Bool, List, ap, ◌∙◌}
use Rattle.std.proofs.lemmas.List.{append-nil}
use Rattle.abl_base.specs.declared.value.Value.{Value}
use Rattle.abl_values.specs.Keys.{component_bytes, key_bytes}
use Rattle.row_keys.proofs.codec.part.Goals as goal

-- the key of one component is that component's bytes
one_part : (descending : Bool) (value : Value) → key_bytes (record { field = 0; descending = descending } ∷ []) (value ∷ []) ≡ component_bytes descending value
unfolding key_bytes
one_part descending value = append-nil (component_bytes descending value)

pub returns : goal.returns
returns c =
    let row : c.from_vec-row.result ≡ c.args.value.now ∷ [] =
    c.from_vec-row.ensures ∙ c.in_ok-push.ensures.items ∙ ap (λ (before : List Value). before ++ c.in_ok-copied.copied ∷ []) c.new-values.ensures.items
    ∙ ap (λ (value : Value). value ∷ []) c.in_ok-copied.ensures in
    c.in_ok-bytes.ensures ∙ ap (λ (values : List Value). key_bytes (record { field = 0; descending = c.args.descending } ∷ []) values) row ∙ one_part c.args.descending c.args.value.now
