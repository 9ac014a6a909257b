use Rattle.std.proofs.Common.{rules, ◌≡◌, ℕ, ◌+◌, ◌*◌, suc, List, [], ◌∷◌, ◌++◌, ℤ, sym, ap, ◌∙◌, arith}
use Rattle.std.proofs.lemmas.List.{take_rest}
use Rattle.std.specs.Int.{w64, cast_signed}
use Rattle.abl_values.specs.Rows.{number_at_head}
use Rattle.sequence_slots.specs.Values.{values_of}
use Rattle.sequence_slots.proofs.ReadsLemmas.Contents.{values_more}
use Rattle.sequence_slots.proofs.reads.decode.values_from.Goals as goal

pub loop-number-preserved : goal.loop-number-preserved
loop-number-preserved c =
    let bytes = c.args.bytes.now in
    let number = c.loop-number.number in
    let next : suc number ≡ number + 1 = omega arith in
    let pushed : c.push.new.self.items ≡ c.loop-number.values.items ++ c.value_in.result ∷ [] = search rules in
    pushed ∙ ap (λ (xs : List ℤ). xs ++ c.value_in.result ∷ []) c.loop-number.invariant
    ∙ ap (λ (value : ℤ). values_of number bytes ++ value ∷ []) c.value_in.ensures
    ∙ ap (λ (xs : List ℕ). values_of number bytes ++ cast_signed w64 (number_at_head 8 xs) ∷ []) (take_rest bytes (8 * number))
    ∙ sym (values_more number bytes) ∙ ap (λ (n : ℕ). values_of n bytes) next
