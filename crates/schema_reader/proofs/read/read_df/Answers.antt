use Rattle.std.proofs.Common.{List, ◌≡◌, None, ◌∙◌, subst, sym, rules}
use Rattle.abl_values.specs.Sound.{IsSound}
use Rattle.schema_lines.specs.declared.item.Item.{Item}
use Rattle.schema_reader.specs.Meaning.{schema_of}
use Rattle.schema_reader.specs.Rules.{violation_of}
use Rattle.schema_reader.proofs.ObservableSound.{files-sound}
use Rattle.schema_reader.proofs.read.read_df.Goals as goal

pub schema_of-requires-clause-sound : goal.schema_of-requires-clause-sound
unfolding violation_of
schema_of-requires-clause-sound c =
    let clean : violation_of c.args.text.now ≡ None = search rules in
    subst (λ (items : List Item). IsSound (schema_of items)) (sym (c.as_slice-2.ensures.value ∙ c.in_ok-items.ensures)) (files-sound c.args.text.now clean)
