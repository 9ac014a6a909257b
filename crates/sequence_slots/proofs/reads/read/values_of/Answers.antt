use Rattle.std.proofs.Common.{◌≡◌, ℕ, ◌<◌, List, [], length, get_or, ℤ, sym, ap, ◌∙◌, subst, arith}
use Rattle.sequence_slots.specs.Values.{Have64Bits, contents_from, part, slot_bytes, values_in, values_of}
use Rattle.sequence_slots.proofs.ReadsLemmas.Contents.{contents_taken, held_length, length_values, length_values_in, values_taken}
use Rattle.sequence_slots.proofs.reads.read.values_of.Goals as goal

pub returns-then-len-count-clause-exact : goal.returns-then-len-count-clause-exact
returns-then-len-count-clause-exact c = λ slots each h.
    let taken = c.args.taken.now in
    let count = c.args.count in
    let bytes : length c.in_ok-bytes.bytes.items ≡ length (contents_from 9 slots 5000) = ap (length {A = ℕ}) (c.in_ok-bytes.ensures ∙ contents_taken taken slots c.requires.nine each) in
    omega (arith, c.if-len-count.true, c.len.ensures, bytes, held_length slots (values_in count slots) h, length_values_in count slots)

pub returns-then-are_of-clause-count : goal.returns-then-are_of-clause-count
returns-then-are_of-clause-count c = ap (length {A = ℤ}) c.in_ok-values.ensures ∙ length_values c.args.count c.deref.result.now

pub returns-then-are_of-clause-exact : goal.returns-then-are_of-clause-exact
returns-then-are_of-clause-exact c = λ slots each.
    let taken = c.args.taken.now in
    let count = c.args.count in
    let values = c.in_ok-values.values.items in
    let long : length values ≡ count = ap (length {A = ℤ}) c.in_ok-values.ensures ∙ length_values count c.deref.result.now in
    let few = c.requires.few in
    let is : values ≡ values_in count slots = c.in_ok-values.ensures ∙ ap (values_of count) (c.deref.ensures.value ∙ c.in_ok-bytes.ensures) ∙ values_taken taken slots c.requires.nine each count in
    let are : (i : ℕ) → i < 9 → get_or taken i [] ≡ slot_bytes (part i values) = subst (λ (l : List ℤ). (i : ℕ) → i < 9 → get_or taken i [] ≡ slot_bytes (part i l)) c.deref-3.ensures.value (c.are_of.ensures.0 c.if-are_of.true) in (
      is,
      record { few = omega (arith, long, few); whole = subst Have64Bits c.deref-2.ensures.value c.have_64_bits.ensures; each = λ i lt. sym (each i lt) ∙ are i lt },
    )

pub returns-clause-exact : goal.returns-clause-exact
returns-clause-exact c = λ slots each h.
    let taken = c.args.taken.now in
    let count = c.args.count in
    let values = c.in_ok-values.values.items in
    let is : values ≡ values_in count slots = c.in_ok-values.ensures ∙ ap (values_of count) (c.deref.ensures.value ∙ c.in_ok-bytes.ensures) ∙ values_taken taken slots c.requires.nine each count in
    let held : c.deref-3.result.now ≡ values_in count slots = c.deref-3.ensures.value ∙ is in
    let are : (i : ℕ) → i < 9 → get_or taken i [] ≡ slot_bytes (part i c.deref-3.result.now) = λ i lt. each i lt ∙ h.each i lt ∙ ap (λ (l : List ℤ). slot_bytes (part i l)) (sym held) in
    let yes = c.are_of.ensures.1 are in
    cc (yes, c.if-are_of.false)
