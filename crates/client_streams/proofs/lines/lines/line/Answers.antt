use Rattle.std.proofs.Common.{◌++◌, ◌∷◌, [], ℕ, List, ap, sym, ◌∙◌}
use Rattle.std.specs.Prelude.{flat_map, drop}
use Rattle.std.proofs.lemmas.List.{take_rest}
use Rattle.client_streams.specs.declared.lines.read.Read.{Read}
use Rattle.client_streams.specs.lines.Reads.{value_read}
use Rattle.client_streams.specs.lines.Writes.{text_in}
use Rattle.client_streams.proofs.LinesLemmas.Texts.{empty_line, long_line}
use Rattle.client_streams.proofs.lines.lines.line.Goals as goal
use Rattle.client_streams.proofs.lines.lines.line.Goals.{in_default, in-len1-up+in_ok-push_value+in_ok-push_after_blanks}

pub returns : goal.returns
returns c =
    c.from_vec.ensures ∙ c.in_ok-push.ensures.items ∙ ap (λ (t : List ℕ). t ++ 10 ∷ []) (
    elim c.if-values-lt1.branch [
      | in_default w ↦
          ap (λ v. v.items) w.text-is ∙ c.new-text.ensures.items ∙ sym (empty_line value_read (text_in c.args.form) c.args.values.now w.in_default.len_below)
      | in-len1-up+in_ok-push_value+in_ok-push_after_blanks w ↦
          let some = long_line value_read (text_in c.args.form) c.args.values.now w.first-item.result w.in-len1-up.len_at_least w.first-item.is in
          let blanks = λ (rs : List Read). flat_map (λ (r : Read). 32 ∷ text_in c.args.form (value_read r)) rs in
          ap (λ v. v.items) w.text-is ∙ w.in_ok-push_after_blanks.ensures
          ∙ ap (λ (rs : List Read). w.push_value.new.text.items ++ blanks rs) (take_rest c.args.values.now 1)
          ∙ ap (λ (t : List ℕ). t ++ blanks (drop 1 c.args.values.now)) (w.in_ok-push_value.ensures ∙ ap (λ (t : List ℕ). t ++ text_in c.args.form w.value.result.now) c.new-text.ensures.items ∙ ap (text_in c.args.form) w.value.ensures)
          ∙ sym some
    ])
