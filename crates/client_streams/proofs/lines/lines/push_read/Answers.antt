use Rattle.std.proofs.Common.{◌∷◌, [], List, ap, sym, ◌∙◌}
use Rattle.std.specs.Prelude.{map}
use Rattle.std.proofs.lemmas.List.{map-append}
use Rattle.abl_base.specs.declared.value.Value.{Value}
use Rattle.block_meaning.specs.Values.{Evaluated, with_value, before_all, values_now}
use Rattle.client_streams.specs.declared.lines.read.Read.{Read}
use Rattle.client_streams.specs.lines.Reads.{value_read, all_after}
use Rattle.client_streams.proofs.LinesLemmas.Texts.{one_more}
use Rattle.client_streams.proofs.lines.lines.push_read.Goals as goal

pub returns-in-Ok : goal.returns-in-Ok
returns-in-Ok g c p retry s h es =
    let old = c.args.values.now.items in
    ap (λ (r : Evaluated). all_after (map value_read old) (with_value r (λ v. before_all v (values_now p es retry s)))) (c.in_ok-value.ensures p retry s h)
    ∙ sym (one_more (map value_read old) (value_read c.in_ok-value.value) (values_now p es retry s))
    ∙ ap (λ (vs : List Value). all_after vs (values_now p es retry s)) (sym (map-append value_read old (c.in_ok-value.value ∷ [])))
    ∙ ap (λ (rs : List Read). all_after (map value_read rs) (values_now p es retry s)) (sym c.in-Ok.ensures.items)
