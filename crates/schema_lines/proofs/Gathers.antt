-- Items so far, and the lines after them.
use Rattle.std.proofs.Common.{◌≡◌, ℕ, ◌+◌, ◌-◌, ◌<◌, List, [], ◌∷◌, ◌++◌, length, get_or, set, refl, sym, ap, ◌∙◌, append_assoc, arith, Option, Some, None}
use Rattle.std.proofs.lemmas.List.{append-nil}
use Rattle.schema_lines.specs.declared.item.Attribute.{Attribute}
use Rattle.schema_lines.specs.declared.item.Attributed.{Attributed}
use Rattle.schema_lines.specs.declared.item.Head.{Head}
use Rattle.schema_lines.specs.declared.item.Item.{Item}
use Rattle.schema_lines.specs.declared.item.Line.TheVariants.{Begins, Says}
use Rattle.schema_lines.specs.Lines.{pieces}
use Rattle.schema_lines.specs.Files.{Lot, line_before}
use Rattle.schema_lines.specs.Walk.{followed_by, under_last}

-- the pieces that are left: none where the last has been read
abbrev pub left_of : Option (List ℕ) → List (List ℕ)
left_of None = []
left_of (Some text) = pieces text

-- at most how many pieces are left
abbrev pub room_of : Option (List ℕ) → ℕ
room_of None = 0
room_of (Some text) = length text + 1

-- an item with other attributes
abbrev pub item_with : Item → List Attributed → Item
item_with item attributes = record { line = item.line; head = item.head; attributes = attributes }

pub under_last-none : (items : List Item) → under_last [] items ≡ items
under_last-none [] = refl
under_last-none (item ∷ []) = ap (λ (as_ : List Attributed). item_with item as_ ∷ []) (append-nil item.attributes)
under_last-none (item ∷ next ∷ items) = ap (λ (xs : List Item). item ∷ xs) (under_last-none (next ∷ items))

pub under_last-push : (as_ : List Attributed) (items : List Item) (item : Item)
    → under_last as_ (items ++ item ∷ []) ≡ items ++ item_with item (item.attributes ++ as_) ∷ []
under_last-push as_ [] item = refl
under_last-push as_ (a ∷ []) item = refl
under_last-push as_ (a ∷ b ∷ items) item = ap (λ (xs : List Item). a ∷ xs) (under_last-push as_ (b ∷ items) item)

one_more : (a : Attributed) (as_ : List Attributed) (item : Item)
    → item_with item (item.attributes ++ (a ∷ as_)) ∷ [] ≡ item_with item ((item.attributes ++ a ∷ []) ++ as_) ∷ []
one_more a as_ item = ap (λ (xs : List Attributed). item_with item xs ∷ []) (sym (append_assoc item.attributes (a ∷ []) as_))

pub under_last-more : (a : Attributed) (as_ : List Attributed) (items : List Item)
    → under_last (a ∷ as_) items ≡ under_last as_ (under_last (a ∷ []) items)
under_last-more a as_ [] = refl
under_last-more a as_ (x ∷ []) = one_more a as_ x
under_last-more a as_ (x ∷ y ∷ []) = ap (λ (xs : List Item). x ∷ xs) (one_more a as_ y)
under_last-more a as_ (x ∷ y ∷ z ∷ items) = ap (λ (xs : List Item). x ∷ xs) (under_last-more a as_ (y ∷ z ∷ items))

set_at_end : (as_ : List Attributed) (x : Item) (items : List Item) (item : Item)
    → item ≡ get_or (x ∷ items) (length items) item
    → set (x ∷ items) (length items) (item_with item (item.attributes ++ as_)) ≡ under_last as_ (x ∷ items)
set_at_end as_ x [] item is = ap (λ (i : Item). item_with i (i.attributes ++ as_) ∷ []) is
set_at_end as_ x (y ∷ items) item is = ap (λ (xs : List Item). x ∷ xs) (set_at_end as_ y items item is)

-- the last item written anew with these attributes too
pub under_last-set : (as_ attributes : List Attributed) (items : List Item) (item : Item) (n : ℕ)
    → 0 < length items → n ≡ length items - 1 → item ≡ get_or items n item → attributes ≡ item.attributes ++ as_
    → set items n (item_with item attributes) ≡ under_last as_ items
under_last-set as_ attributes [] item n some last is more = let false_ : ⊥ = omega arith in absurd false_
under_last-set as_ attributes (x ∷ items) item n some last is more =
    let at_end : n ≡ length items = omega arith in
    ap (λ (xs : List Attributed). set (x ∷ items) n (item_with item xs)) more
    ∙ ap (λ (k : ℕ). set (x ∷ items) k (item_with item (item.attributes ++ as_))) at_end
    ∙ set_at_end as_ x items item (is ∙ ap (λ (k : ℕ). get_or (x ∷ items) k item) at_end)

pub followed_by-none : (items : List Item) → followed_by items (record { loose = []; items = [] }) ≡ items
followed_by-none items = append-nil (under_last [] items) ∙ under_last-none items

-- a line that says an attribute
pub followed_by-says : (n : ℕ) (attribute : Attribute) (items : List Item) (lot : Lot)
    → followed_by (under_last (record { line = n; attribute = attribute } ∷ []) items) lot ≡ followed_by items (line_before n (Says attribute) lot)
followed_by-says n attribute items lot =
    ap (λ (xs : List Item). xs ++ lot.items) (sym (under_last-more (record { line = n; attribute = attribute }) lot.loose items))

-- a line that begins an item
pub followed_by-begins : (n : ℕ) (head : Head) (items : List Item) (lot : Lot)
    → followed_by (items ++ record { line = n; head = head; attributes = [] } ∷ []) lot ≡ followed_by items (line_before n (Begins head) lot)
followed_by-begins n head items lot =
    let item : Item = record { line = n; head = head; attributes = [] } in
    let begun : Item = item_with item lot.loose in
    ap (λ (xs : List Item). xs ++ lot.items) (under_last-push lot.loose items item)
    ∙ append_assoc items (begun ∷ []) lot.items
    ∙ ap (λ (xs : List Item). xs ++ (begun ∷ lot.items)) (sym (under_last-none items))
