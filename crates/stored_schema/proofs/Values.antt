-- Values, kinds and truth values that are the same are equal.
use Rattle.std.proofs.Common.{◌≡◌, ℕ, ℤ, Bool, true, false, ◌&&◌, List, [], ◌∷◌, get_or, Option, Some, None, refl, sym, ap, ◌∙◌}
use Rattle.std.specs.Prelude.{codes, if◌then◌else◌}
use Rattle.std.specs.Ordering.{int_eq}
use Rattle.std.proofs.lemmas.Bool.{and_from, and_parts, false≢true}
use Rattle.std.proofs.lemmas.Bool.Decides.{Decides-int_eq}
use Rattle.abl_base.specs.declared.value.Value.{Value}
use Rattle.abl_base.specs.declared.value.Value.TheVariants.{Text, Int, Int64, Dec, Logical, Date, Unknown}
use Rattle.abl_base.specs.declared.value.Kind.{Kind}
use Rattle.abl_base.specs.declared.value.Kind.TheVariants.{Character, Integer, Int64 as Whole64, Decimal, Logical as Truth, Date as Day}
use Rattle.abl_values.specs.declared.schema.FieldDef.{FieldDef}
use Rattle.abl_values.specs.Masks.{same_bytes}
use Rattle.abl_values.specs.Schema.{kind_text}
use Rattle.stored_schema.specs.Agreement.{same_field, same_kind, same_truth, same_value}
use Rattle.stored_schema.proofs.Names.{same_bytes-equal, same_bytes-itself}

pub same_truth-is : (a b : Bool) → same_truth a b ≡ true → a ≡ b
same_truth-is true true h = refl
same_truth-is true false h = absurd (false≢true h)
same_truth-is false true h = absurd (false≢true h)
same_truth-is false false h = refl

pub same_truth-itself : (a : Bool) → same_truth a a ≡ true
same_truth-itself true = refl
same_truth-itself false = refl

pub same_int-itself : (n : ℤ) → int_eq n n ≡ true
same_int-itself n = (Decides-int_eq n n).1 refl

pub same_value-is : (v w : Value) → same_value v w ≡ true → v ≡ w
same_value-is (Text a) (Text b) h = ap (λ (t : List ℕ). Text t) (same_bytes-equal a b h)
same_value-is (Text a) (Int b) h = absurd (false≢true h)
same_value-is (Text a) (Int64 b) h = absurd (false≢true h)
same_value-is (Text a) (Dec b) h = absurd (false≢true h)
same_value-is (Text a) (Logical b) h = absurd (false≢true h)
same_value-is (Text a) (Date b) h = absurd (false≢true h)
same_value-is (Text a) Unknown h = absurd (false≢true h)
same_value-is (Int a) (Text b) h = absurd (false≢true h)
same_value-is (Int a) (Int b) h = ap (λ (n : ℤ). Int n) ((Decides-int_eq a b).0 h)
same_value-is (Int a) (Int64 b) h = absurd (false≢true h)
same_value-is (Int a) (Dec b) h = absurd (false≢true h)
same_value-is (Int a) (Logical b) h = absurd (false≢true h)
same_value-is (Int a) (Date b) h = absurd (false≢true h)
same_value-is (Int a) Unknown h = absurd (false≢true h)
same_value-is (Int64 a) (Text b) h = absurd (false≢true h)
same_value-is (Int64 a) (Int b) h = absurd (false≢true h)
same_value-is (Int64 a) (Int64 b) h = ap (λ (n : ℤ). Int64 n) ((Decides-int_eq a b).0 h)
same_value-is (Int64 a) (Dec b) h = absurd (false≢true h)
same_value-is (Int64 a) (Logical b) h = absurd (false≢true h)
same_value-is (Int64 a) (Date b) h = absurd (false≢true h)
same_value-is (Int64 a) Unknown h = absurd (false≢true h)
same_value-is (Dec a) (Text b) h = absurd (false≢true h)
same_value-is (Dec a) (Int b) h = absurd (false≢true h)
same_value-is (Dec a) (Int64 b) h = absurd (false≢true h)
same_value-is (Dec a) (Dec b) h = ap (λ (n : ℤ). Dec n) ((Decides-int_eq a b).0 h)
same_value-is (Dec a) (Logical b) h = absurd (false≢true h)
same_value-is (Dec a) (Date b) h = absurd (false≢true h)
same_value-is (Dec a) Unknown h = absurd (false≢true h)
same_value-is (Logical a) (Text b) h = absurd (false≢true h)
same_value-is (Logical a) (Int b) h = absurd (false≢true h)
same_value-is (Logical a) (Int64 b) h = absurd (false≢true h)
same_value-is (Logical a) (Dec b) h = absurd (false≢true h)
same_value-is (Logical a) (Logical b) h = ap (λ (t : Bool). Logical t) (same_truth-is a b h)
same_value-is (Logical a) (Date b) h = absurd (false≢true h)
same_value-is (Logical a) Unknown h = absurd (false≢true h)
same_value-is (Date a) (Text b) h = absurd (false≢true h)
same_value-is (Date a) (Int b) h = absurd (false≢true h)
same_value-is (Date a) (Int64 b) h = absurd (false≢true h)
same_value-is (Date a) (Dec b) h = absurd (false≢true h)
same_value-is (Date a) (Logical b) h = absurd (false≢true h)
same_value-is (Date a) (Date b) h = ap (λ (n : ℤ). Date n) ((Decides-int_eq a b).0 h)
same_value-is (Date a) Unknown h = absurd (false≢true h)
same_value-is Unknown (Text b) h = absurd (false≢true h)
same_value-is Unknown (Int b) h = absurd (false≢true h)
same_value-is Unknown (Int64 b) h = absurd (false≢true h)
same_value-is Unknown (Dec b) h = absurd (false≢true h)
same_value-is Unknown (Logical b) h = absurd (false≢true h)
same_value-is Unknown (Date b) h = absurd (false≢true h)
same_value-is Unknown Unknown h = refl

pub same_value-itself : (v : Value) → same_value v v ≡ true
same_value-itself (Text t) = same_bytes-itself t
same_value-itself (Int n) = same_int-itself n
same_value-itself (Int64 n) = same_int-itself n
same_value-itself (Dec n) = same_int-itself n
same_value-itself (Logical b) = same_truth-itself b
same_value-itself (Date n) = same_int-itself n
same_value-itself Unknown = refl

-- ---- kinds

-- a number of a kind's name
abbrev mark : List ℕ → ℕ
mark text = if same_bytes text (codes "CHARACTER") then 1 else (if same_bytes text (codes "INTEGER") then 2 else (if same_bytes text (codes "INT64") then 3 else (if same_bytes text (codes "DECIMAL") then 4 else (if same_bytes text (codes "LOGICAL") then 5 else (if same_bytes text (codes "DATE") then 6 else 0)))))

abbrev kind_marked : ℕ → Option Kind
kind_marked n = get_or (None ∷ Some Character ∷ Some Integer ∷ Some Whole64 ∷ Some Decimal ∷ Some Truth ∷ Some Day ∷ []) n None

marked : (kind : Option Kind) → kind_marked (mark (kind_text kind)) ≡ kind
marked None = refl
marked (Some Character) = refl
marked (Some Integer) = refl
marked (Some Whole64) = refl
marked (Some Decimal) = refl
marked (Some Truth) = refl
marked (Some Day) = refl

pub same_kind-is : (a b : Option Kind) → same_kind a b ≡ true → a ≡ b
same_kind-is a b h = sym (marked a) ∙ ap (λ (text : List ℕ). kind_marked (mark text)) (same_bytes-equal (kind_text a) (kind_text b) h) ∙ marked b

pub same_kind-itself : (a : Option Kind) → same_kind a a ≡ true
same_kind-itself a = same_bytes-itself (kind_text a)

-- ---- fields

pub same_field-kind : (f g : FieldDef) → same_field f g ≡ true → f.kind ≡ g.kind
same_field-kind f g h = same_kind-is f.kind g.kind (and_parts (same_kind f.kind g.kind) (same_truth f.mandatory g.mandatory && same_value f.initial g.initial) h).0

pub same_field-mandatory : (f g : FieldDef) → same_field f g ≡ true → f.mandatory ≡ g.mandatory
same_field-mandatory f g h =
    let rest = (and_parts (same_kind f.kind g.kind) (same_truth f.mandatory g.mandatory && same_value f.initial g.initial) h).1 in
    same_truth-is f.mandatory g.mandatory (and_parts (same_truth f.mandatory g.mandatory) (same_value f.initial g.initial) rest).0

pub same_field-initial : (f g : FieldDef) → same_field f g ≡ true → f.initial ≡ g.initial
same_field-initial f g h =
    let rest = (and_parts (same_kind f.kind g.kind) (same_truth f.mandatory g.mandatory && same_value f.initial g.initial) h).1 in
    same_value-is f.initial g.initial (and_parts (same_truth f.mandatory g.mandatory) (same_value f.initial g.initial) rest).1

pub same_field-itself : (f : FieldDef) → same_field f f ≡ true
same_field-itself f =
    and_from (same_kind f.kind f.kind) (same_truth f.mandatory f.mandatory && same_value f.initial f.initial) (same_kind-itself f.kind)
    (and_from (same_truth f.mandatory f.mandatory) (same_value f.initial f.initial) (same_truth-itself f.mandatory) (same_value-itself f.initial))
