use Rattle.std.proofs.Common.{◌≡◌, ℕ, Some, length, sym, ◌∙◌, ap, subst, arith}
use Rattle.abl_values.specs.Rows.{fragments_of}
use Rattle.database_layout.specs.stored_text.Held.{AreOf}
use Rattle.database_layout.proofs.StoredTextLemmas.Contents.{contents_are}
use Rattle.database_layout.proofs.stored_text.texts.text_of.Goals.{then-len-bytes-via-then-len-bytes, then-len-bytes-via-else-len-bytes+then-not-are_of}
use Rattle.database_layout.proofs.stored_text.texts.text_of.Goals as goal

pub returns-then-len-bytes-clause-held : goal.returns-then-len-bytes-clause-held
returns-then-len-bytes-clause-held c = λ text long are.
    let same : c.in_ok-text.text.items ≡ text = c.in_ok-text.ensures ∙ contents_are c.args.slots.now text (c.requires.count ∙ ap fragments_of (sym long)) are in
    let long_too = ap (length {A = ℕ}) same in
    absurd (elim c.then-len-bytes.branch [
      | then-len-bytes-via-then-len-bytes w ↦ omega (arith, w.if-len-bytes.true, c.len.ensures, long_too, long)
      | then-len-bytes-via-else-len-bytes+then-not-are_of w ↦ cc (w.are_of.ensures.1 (subst (AreOf c.args.slots.now) (sym (w.deref.ensures.value ∙ same)) are), w.if-not-are_of.true)
    ])

pub returns-clause-held : goal.returns-clause-held
returns-clause-held c = λ text long are.
    ap Some (c.from_vec.ensures ∙ c.in_ok-text.ensures ∙ contents_are c.args.slots.now text (c.requires.count ∙ ap fragments_of (sym long)) are)
