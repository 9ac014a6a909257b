use Rattle.std.proofs.Common.{◌≡◌, ◌≤◌, ℕ, List, length, sym, ◌∙◌, subst, arith}
use Rattle.abl_values.specs.Rows.{fragments_of}
use Rattle.abl_values.specs.Schema.{canonical_text}
use Rattle.sequence_slots.specs.Values.{Have64Bits}
use Rattle.database_layout.specs.contents.Contents.{initial_values}
use Rattle.database_layout.specs.fresh.Laying.{LayText}
use Rattle.database_layout.proofs.FreshLemmas.Laying.{laid_are_new, written_low, few_slots}
use Rattle.database_layout.proofs.fresh.first_slots.new_slots.Goals as goal

pub push_text-requires-clause-short : goal.push_text-requires-clause-short
push_text-requires-clause-short c = subst (λ (l : List ℕ). length l ≤ 1048576) (sym (c.as_slice.ensures ∙ c.in_ok-text.ensures)) c.requires.short

pub returns-clause-new : goal.returns-clause-new
returns-clause-new c =
    let text = canonical_text c.args.schema.now in
    let count = fragments_of (length text) in
    let few : count ≤ 4370 = few_slots (length text) c.requires.short in
    let lay : LayText text count count c.push_text.new.slots.items =
    subst (λ (l : List ℕ). LayText l (fragments_of (length l)) (fragments_of (length l)) c.push_text.new.slots.items) (c.as_slice.ensures ∙ c.in_ok-text.ensures) c.in_ok-push_text.ensures.ok in
    let are : c.deref-2.result.now ≡ initial_values c.args.schema.now = c.deref-2.ensures.value ∙ c.in_ok-values.ensures in
    let whole : Have64Bits c.deref-2.result.now = subst Have64Bits (c.deref.ensures.value ∙ sym c.deref-2.ensures.value) c.have_64_bits.ensures in
    laid_are_new c.args.schema.now c.push_values.new.slots.items c.deref-2.result.now few c.requires.few are whole (c.in_ok-push_values.ensures.ok text count (omega (arith, few)) lay)

pub returns-clause-small : goal.returns-clause-small
returns-clause-small c =
    let text = canonical_text c.args.schema.now in
    let count = fragments_of (length text) in
    let few : count ≤ 4370 = few_slots (length text) c.requires.short in
    let lay : LayText text count count c.push_text.new.slots.items =
    subst (λ (l : List ℕ). LayText l (fragments_of (length l)) (fragments_of (length l)) c.push_text.new.slots.items) (c.as_slice.ensures ∙ c.in_ok-text.ensures) c.in_ok-push_text.ensures.ok in
    written_low text count c.deref-2.result.now c.push_values.new.slots.items (c.in_ok-push_values.ensures.ok text count (omega (arith, few)) lay)
