-- What the walk over the items of a file keeps.
use Rattle.std.proofs.Common.{◌≡◌, ℕ, ◌+◌, ◌-◌, ◌^◌, ◌<◌, ◌≤◌, Bool, true, false, cond, List, [], ◌∷◌, ◌++◌, length, get_or, take, drop, min, Option, Some, None, refl, sym, ap, subst, ◌∙◌, arith}
use Rattle.std.specs.Prelude.{nat_lt}
use Rattle.std.proofs.lemmas.Bool.Decides.{nat_tests}
use Rattle.abl_base.specs.declared.rule.Rule.{Rule}
use Rattle.abl_base.specs.declared.rule.Rule.TheVariants.{F12}
use Rattle.abl_values.specs.Schema.{canonical_text, lines_in_order}
use Rattle.schema_lines.specs.declared.item.Item.{Item}
use Rattle.schema_reader.specs.declared.violation.Violation.{Violation}
use Rattle.abl_base.specs.declared.limits.TheConstants.{MAX_CANONICAL_BYTES}
use Rattle.schema_reader.specs.declared.census.Census.{Census}
use Rattle.schema_reader.specs.Meaning.{schema_of}
use Rattle.schema_reader.specs.Rules.{Condition, first_after, first_broken, first_in_item, first_in_lines, head_conditions, is_past_text, or_else}
use Rattle.schema_reader.specs.Census.{Counts, at_line, head_rule_in, item_bytes, line_violation_in, names_after, names_of, sequences_after, tables_after}
use Rattle.schema_reader.proofs.SizesSound.{AreKept, is_sound}
use Rattle.schema_reader.proofs.SizesAdded.{Stands, canonical_text-one_more, item_line}
use Rattle.schema_reader.proofs.Counting.{counts_more}
use Rattle.schema_reader.proofs.RulesInCensus.{first_rule, head_rule-told, line_violation-told, own_conditions}
use Rattle.schema_reader.proofs.FirstBroken.{clean_more, head_conditions-told, take_one, violation_at}
use Rattle.schema_reader.proofs.ItemBytes.{item_bytes-is}

-- the first `i` items break no rule, and are counted
pub record AreClean (items : List Item) (i : ℕ) (census : Census) (bytes : ℕ) : Type 0 where
  pub clean : first_after [] (take i items) ≡ None
  pub counts : Counts (take i items) census
  pub size : bytes ≡ length (canonical_text (schema_of (take i items)))
  pub small : bytes ≤ MAX_CANONICAL_BYTES

pub no_items : (items : List Item) (census : Census) → census.names ≡ [] → census.tables.items ≡ [] → census.sequences ≡ [] → AreClean items 0 census 0
unfolding schema_of canonical_text lines_in_order
no_items items census en et es = record {
  clean = refl;
  counts = record { names = ap (λ cs. names_of cs) en; tables = et; sequences = ap (λ cs. names_of cs) es };
  size = refl;
  small = omega arith;
}

-- ---- an item whose first line breaks no rule, save the length of the text

none_kept : (b : Bool) (r : Rule) (rest : Option Rule) → cond b (Some r) rest ≡ None → (b ≡ false) × (rest ≡ None)
none_kept true r rest h = cc
none_kept false r rest h = (refl, h)

are_kept : (cs : List Condition) → first_rule cs ≡ None → AreKept cs
are_kept [] h = tt
are_kept (c ∷ cs) h =
    let parts = none_kept c.broken c.rule (first_rule cs) h in
    (parts.0, are_kept cs parts.1)

stands : (before : List Item) (census : Census) (item : Item) → Counts before census → head_rule_in census item.attributes item.head ≡ None → Stands before item.head
stands before census item c h =
    let kept = are_kept (own_conditions before item.attributes item.head) (sym (head_rule-told before census item.attributes item.head c) ∙ h) in
    record { new_table = kept.1.1.0; has_table = kept.1.1.1.0; new_field = kept.1.1.1.1.0 }

-- the bytes after one item more
abbrev pub more_bytes : ℕ → ℕ → ℕ
more_bytes bytes more = min (bytes + min more (2 ^ 64 - 1)) (2 ^ 64 - 1)

over_both : (bytes more : ℕ) → MAX_CANONICAL_BYTES < more_bytes bytes more → MAX_CANONICAL_BYTES < bytes + more
over_both bytes more h = omega arith

short_both : (bytes more : ℕ) → more_bytes bytes more ≤ MAX_CANONICAL_BYTES → bytes + more ≤ MAX_CANONICAL_BYTES
short_both bytes more h = omega arith

exact : (bytes more : ℕ) → more_bytes bytes more ≤ MAX_CANONICAL_BYTES → more_bytes bytes more ≡ bytes + more
exact bytes more h = omega arith

ltb-from : (m n : ℕ) → m < n → nat_lt m n ≡ true
ltb-from m n h = grind (arith, nat_tests)

ltb-not : (m n : ℕ) → n ≤ m → nat_lt m n ≡ false
ltb-not m n h = grind (arith, nat_tests)

module _ (items : List Item) (i : ℕ) (item : Item) (census : Census) (bytes : ℕ) (below : i < length items) (at : item ≡ get_or items i item) (s : AreClean items i census bytes) where
  abbrev before : List Item
  before = take i items

  head_is : first_broken item.line (head_conditions before item) ≡ or_else (at_line item.line (head_rule_in census item.attributes item.head)) (cond (is_past_text before item) (Some (record { rule = F12; line = item.line })) None)
  head_is =
      head_conditions-told before item
      ∙ ap (λ r. or_else (at_line item.line r) (cond (is_past_text before item) (Some (record { rule = F12; line = item.line })) None)) (sym (head_rule-told before census item.attributes item.head s.counts))

  pub head_broken : (rule : Rule) → head_rule_in census item.attributes item.head ≡ Some rule → first_after [] items ≡ Some (record { rule = rule; line = item.line })
  head_broken rule h =
      let first : first_broken item.line (head_conditions before item) ≡ Some (record { rule = rule; line = item.line }) =
      head_is ∙ ap (λ r. or_else (at_line item.line r) (cond (is_past_text before item) (Some (record { rule = F12; line = item.line })) None)) h in
      violation_at items i item below at s.clean
      ∙ ap (λ v. or_else (or_else v (first_in_lines before item item.attributes)) (first_after (before ++ item ∷ []) (drop (i + 1) items))) first

  module _ (fits : head_rule_in census item.attributes item.head ≡ None) where
    size_is : length (canonical_text (schema_of (before ++ item ∷ []))) ≡ bytes + item_bytes census item.attributes item.head
    size_is =
        let k = stands before census item s.counts fits in
        canonical_text-one_more before item s.clean k
        ∙ ap (λ n. n + length (item_line before item)) (sym s.size)
        ∙ ap (λ n. bytes + n) (sym (item_bytes-is before census item.attributes item.head s.clean s.counts k.has_table))

    past_is : (b : Bool) → is_past_text before item ≡ b → first_broken item.line (head_conditions before item) ≡ cond b (Some (record { rule = F12; line = item.line })) None
    past_is b e =
        head_is ∙ ap (λ r. or_else (at_line item.line r) (cond (is_past_text before item) (Some (record { rule = F12; line = item.line })) None)) fits
        ∙ ap (λ b. cond b (Some (record { rule = F12; line = item.line })) None) e

    pub text_broken : MAX_CANONICAL_BYTES < more_bytes bytes (item_bytes census item.attributes item.head) → first_after [] items ≡ Some (record { rule = F12; line = item.line })
    text_broken over =
        let past : is_past_text before item ≡ true = ltb-from MAX_CANONICAL_BYTES (length (canonical_text (schema_of (before ++ item ∷ [])))) (subst (λ n. MAX_CANONICAL_BYTES < n) (sym size_is) (over_both bytes (item_bytes census item.attributes item.head) over)) in
        violation_at items i item below at s.clean
        ∙ ap (λ v. or_else (or_else v (first_in_lines before item item.attributes)) (first_after (before ++ item ∷ []) (drop (i + 1) items))) (past_is true past)

    module _ (short : more_bytes bytes (item_bytes census item.attributes item.head) ≤ MAX_CANONICAL_BYTES) where
      lines_are : first_in_item before item ≡ line_violation_in census item item.attributes
      lines_are =
          let past : is_past_text before item ≡ false = ltb-not MAX_CANONICAL_BYTES (length (canonical_text (schema_of (before ++ item ∷ [])))) (subst (λ n. n ≤ MAX_CANONICAL_BYTES) (sym size_is) (short_both bytes (item_bytes census item.attributes item.head) short)) in
          ap (λ v. or_else v (first_in_lines before item item.attributes)) (past_is false past)
          ∙ sym (line_violation-told before census item s.counts (stands before census item s.counts fits).has_table item.attributes)

      pub line_broken : (v : Violation) → line_violation_in census item item.attributes ≡ Some v → first_after [] items ≡ Some v
      line_broken v h =
          violation_at items i item below at s.clean
          ∙ ap (λ o. or_else o (first_after (before ++ item ∷ []) (drop (i + 1) items))) (lines_are ∙ h)

      pub one_more_clean : (after : Census) → line_violation_in census item item.attributes ≡ None
          → after.names ≡ names_after census.names item.head → after.tables.items ≡ tables_after census item.attributes item.head → after.sequences ≡ sequences_after census.sequences item.head
          → AreClean items (i + 1) after (more_bytes bytes (item_bytes census item.attributes item.head))
      one_more_clean after none en et es =
          let one = take_one items i item below at in
          let counts = counts_more before item census after (is_sound before s.clean) s.counts (stands before census item s.counts fits) en et es in
          record {
            clean = ap (first_after []) one ∙ clean_more items i item below at s.clean (lines_are ∙ none);
            counts = subst (λ (is : List Item). Counts is after) (sym one) counts;
            size =
                exact bytes (item_bytes census item.attributes item.head) short ∙ sym size_is
                ∙ ap (λ (is : List Item). length (canonical_text (schema_of is))) (sym one);
            small = short;
          }
