-- The first violation, item by item.
use Rattle.std.proofs.Common.{◌≡◌, ℕ, ◌+◌, ◌<◌, Bool, true, false, ◌||◌, cond, List, [], ◌∷◌, ◌++◌, length, get_or, take, drop, Option, Some, None, refl, sym, ap, ◌∙◌, append_assoc, append-nil}
use Rattle.std.proofs.lemmas.List.{drop_more, take-append-drop, take_more}
use Rattle.abl_base.specs.declared.rule.Rule.{Rule}
use Rattle.abl_base.specs.declared.rule.Rule.TheVariants.{F1, F2, F3, F4, F5, F6, F8, F11, F12}
use Rattle.schema_lines.specs.declared.item.Item.{Item}
use Rattle.schema_reader.specs.declared.violation.Violation.{Violation}
use Rattle.schema_reader.specs.Rules.{Condition, first_after, first_broken, first_in_item, head_conditions, is_ill_made, is_malformed, is_misnamed, is_past_limit, is_past_text, lacks_table, or_else, repeats_field, repeats_index, repeats_sequence, repeats_table}
use Rattle.schema_reader.specs.Census.{at_line}
use Rattle.schema_reader.proofs.RulesInCensus.{first_rule, head_rule}

-- ---- the first line of an item

first_broken-last : (line : ℕ) (cs : List Condition) (r : Rule) (p q : Bool)
    → first_broken line (cs ++ record { rule = r; broken = p || q } ∷ []) ≡ or_else (at_line line (first_rule (cs ++ record { rule = r; broken = p } ∷ []))) (cond q (Some (record { rule = r; line = line })) None)
first_broken-last line [] r true q = refl
first_broken-last line [] r false q = refl
first_broken-last line (c ∷ cs) r p q = go c.broken (first_broken-last line cs r p q)
  where
    go : (b : Bool) → first_broken line (cs ++ record { rule = r; broken = p || q } ∷ []) ≡ or_else (at_line line (first_rule (cs ++ record { rule = r; broken = p } ∷ []))) (cond q (Some (record { rule = r; line = line })) None)
        → cond b (Some (record { rule = c.rule; line = line })) (first_broken line (cs ++ record { rule = r; broken = p || q } ∷ []))
        ≡ or_else (at_line line (cond b (Some c.rule) (first_rule (cs ++ record { rule = r; broken = p } ∷ [])))) (cond q (Some (record { rule = r; line = line })) None)
    go true again = refl
    go false again = again

pub head_conditions-told : (before : List Item) (item : Item)
    → first_broken item.line (head_conditions before item) ≡ or_else (at_line item.line (head_rule before item.attributes item.head)) (cond (is_past_text before item) (Some (record { rule = F12; line = item.line })) None)
head_conditions-told before item =
    first_broken-last item.line
    (record { rule = F1; broken = is_malformed item.head }
    ∷ record { rule = F2; broken = is_misnamed item.head }
    ∷ record { rule = F3; broken = repeats_table before item.head }
    ∷ record { rule = F4; broken = lacks_table before item.head }
    ∷ record { rule = F5; broken = repeats_field before item.head }
    ∷ record { rule = F6; broken = repeats_index before item.head }
    ∷ record { rule = F8; broken = is_ill_made item.attributes item.head }
    ∷ record { rule = F11; broken = repeats_sequence before item.head } ∷ [])
    F12 (is_past_limit before item.attributes item.head) (is_past_text before item)

-- ---- items in order

or_else-assoc : (a b c : Option Violation) → or_else a (or_else b c) ≡ or_else (or_else a b) c
or_else-assoc None b c = refl
or_else-assoc (Some v) b c = refl

pub first_after-append : (before xs ys : List Item) → first_after before (xs ++ ys) ≡ or_else (first_after before xs) (first_after (before ++ xs) ys)
first_after-append before [] ys = ap (λ (b : List Item). first_after b ys) (sym (append-nil before))
first_after-append before (x ∷ xs) ys =
    ap (or_else (first_in_item before x)) (first_after-append (before ++ x ∷ []) xs ys)
    ∙ or_else-assoc (first_in_item before x) (first_after (before ++ x ∷ []) xs) (first_after ((before ++ x ∷ []) ++ xs) ys)
    ∙ ap (λ (b : List Item). or_else (or_else (first_in_item before x) (first_after (before ++ x ∷ []) xs)) (first_after b ys)) (append_assoc before (x ∷ []) xs)

module _ (items : List Item) (i : ℕ) (item : Item) (below : i < length items) (at : item ≡ get_or items i item) where
  pub take_one : take (i + 1) items ≡ take i items ++ item ∷ []
  take_one = take_more items i item below ∙ ap (λ (x : Item). take i items ++ x ∷ []) (sym at)

  pub parts_are : items ≡ take i items ++ item ∷ drop (i + 1) items
  parts_are =
      sym (take-append-drop i items) ∙ ap (λ (xs : List Item). take i items ++ xs) (drop_more items i item below)
      ∙ ap (λ (x : Item). take i items ++ x ∷ drop (i + 1) items) (sym at)

module _ (items : List Item) (i : ℕ) (item : Item) (below : i < length items) (at : item ≡ get_or items i item) (clean : first_after [] (take i items) ≡ None) where
  -- the first violation is that of the item, or comes after it
  pub violation_at : first_after [] items ≡ or_else (first_in_item (take i items) item) (first_after (take i items ++ item ∷ []) (drop (i + 1) items))
  violation_at =
      ap (first_after []) (parts_are items i item below at) ∙ first_after-append [] (take i items) (item ∷ drop (i + 1) items)
      ∙ ap (λ o. or_else o (first_after (take i items) (item ∷ drop (i + 1) items))) clean

  -- no violation up to the item, and none in it
  pub clean_more : first_in_item (take i items) item ≡ None → first_after [] (take i items ++ item ∷ []) ≡ None
  clean_more h =
      first_after-append [] (take i items) (item ∷ [])
      ∙ ap (λ o. or_else o (or_else (first_in_item (take i items) item) None)) clean
      ∙ ap (λ o. or_else o None) h
