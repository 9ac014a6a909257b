use Rattle.std.proofs.Common.{◌≡◌, List, ℕ, sym, ap, ◌∙◌, true≢false}
use Rattle.abl_values.specs.Masks.{same_bytes}
use Rattle.abl_values.specs.Schema.{canonical_text}
use Rattle.schema_text.specs.Written.{told_schema}
use Rattle.schema_text.specs.declared.unread.Unread.TheVariants.{NoMemory, NotCanonical}
use Rattle.schema_text.proofs.Names.{same_bytes-equal, same_bytes-itself}
use Rattle.schema_text.proofs.Told.{told_text, told_written}
use Rattle.schema_text.proofs.reading.read_canonical.Goals as goal

pub returns-then-same_bytes-clause-some : goal.returns-then-same_bytes-clause-some
returns-then-same_bytes-clause-some c =
    (sym c.in_ok-canonical-in-Ok.ensures ∙ sym c.as_slice.ensures ∙ same_bytes-equal c.as_slice.result.now c.args.text.now (sym c.same_bytes.ensures ∙ c.if-same_bytes.true), c.in-Ok.ensures.held)

pub returns-then-same_bytes-clause-told : goal.returns-then-same_bytes-clause-told
returns-then-same_bytes-clause-told c =
    let s = c.in-Ok.schema in
    let same : canonical_text s ≡ c.args.text.now = sym c.in_ok-canonical-in-Ok.ensures ∙ sym c.as_slice.ensures ∙ same_bytes-equal c.as_slice.result.now c.args.text.now (sym c.same_bytes.ensures ∙ c.if-same_bytes.true) in
    sym (c.in-Ok.ensures.schema (told_schema s) (told_written s c.in-Ok.ensures.sound c.in-Ok.ensures.held) (sym (told_text s ∙ same)))

pub returns-else-same_bytes-clause-none : goal.returns-else-same_bytes-clause-none
returns-else-same_bytes-clause-none c none s sound held e =
    let same = c.in-Ok.ensures.schema (told_schema s) (told_written s sound held) (sym (told_text s ∙ e)) in
    let text : c.as_slice.result.now ≡ c.args.text.now = c.as_slice.ensures ∙ c.in_ok-canonical-in-Ok.ensures ∙ ap canonical_text same ∙ told_text s ∙ e in
    true≢false (sym (same_bytes-itself c.args.text.now) ∙ ap (λ (xs : List ℕ). same_bytes xs c.args.text.now) (sym text) ∙ sym c.same_bytes.ensures ∙ c.if-same_bytes.false)

pub returns-in-Err-NotCanonical-clause-none : goal.returns-in-Err-NotCanonical-clause-none
returns-in-Err-NotCanonical-clause-none c none s sound held e =
    let memory = c.in-Err-NotCanonical.ensures.schema (told_schema s) (told_written s sound held) (sym (told_text s ∙ e)) in
    let other : NotCanonical ≡ NoMemory = sym c.in-Err-NotCanonical.field-0-is ∙ memory in
    cc
