use Rattle.std.proofs.Common.{◌-◌, List, ℕ, Some, Option, length, take, sym, ap, ◌∙◌}
use Rattle.std.specs.Prelude.{option_map}
use Rattle.schema_text.specs.Words.{past, run}
use Rattle.schema_text.proofs.HeadLines.{word_is}
use Rattle.schema_text.proofs.Runs.{take-run}
use Rattle.schema_text.proofs.words.word_before.Goals as goal

pub returns-clause-word : goal.returns-clause-word
returns-clause-word c =
    let text = c.args.text.now in
    let rest = c.in_ok-rest.rest.now in
    ap (λ (t : List ℕ). option_map (λ r. word_is (run text) r) (past c.args.end t)) (sym c.after_word-from_end.ensures.rest)
    ∙ ap (λ (o : Option (List ℕ)). option_map (λ r. word_is (run text) r) o) c.in_ok-rest.ensures.past
    ∙ ap (λ (w : List ℕ). Some (word_is w rest)) (sym (ap (λ (t : List ℕ). take (length text - length t) text) c.after_word-from_end.ensures.rest ∙ take-run text))
