-- The words at the head of a text, and what follows them.
use Rattle.std.specs.Prelude.{ℕ, Bool, true, false, ◌==◌, nat_lt, if◌then◌else◌, List, [], ◌∷◌, codes, Option, Some, None, option_and_then, option_map}
use Rattle.abl_base.specs.declared.value.Kind.{Kind}
use Rattle.abl_base.specs.declared.value.Kind.TheVariants.{Character, Integer, Int64, Decimal, Logical, Date}
use Rattle.abl_values.specs.declared.schema.FieldDef.{FieldDef}
use Rattle.abl_values.specs.declared.schema.KeyPart.{KeyPart}
use Rattle.abl_values.specs.Masks.{after_run, same_bytes}
use Rattle.abl_values.specs.Names.{is_name}
use Rattle.abl_values.specs.Schema.{field_names, number_of_name}

-- goes on with what there is
abbrev pub on_some : {X Y : Type 0} → Option X → (X → Option Y) → Option Y
on_some o f = option_and_then f o

-- ---- bytes and words

-- the text begins with this byte
abbrev pub begins : ℕ → List ℕ → Bool
begins byte [] = false
begins byte (b ∷ bs) = b == byte

-- what follows this byte
abbrev pub past : ℕ → List ℕ → Option (List ℕ)
past byte [] = None
past byte (b ∷ bs) = if b == byte then Some bs else None

-- every byte of a word is above the blank
abbrev pub is_word_byte : ℕ → Bool
is_word_byte b = nat_lt 32 b

-- the longest run of bytes of a word
abbrev pub run : List ℕ → List ℕ
run [] = []
run (b ∷ bs) = if is_word_byte b then b ∷ run bs else []

-- a word, and what follows the byte after it
pub record Word : Type 0 where
  pub word : List ℕ
  pub rest : List ℕ

-- the word that ends before this byte
abbrev pub word_before : ℕ → List ℕ → Option Word
word_before end text = option_map (λ rest. record { word = run text; rest = rest }) (past end (after_run is_word_byte text))

abbrev pub if_name : Word → Option Word
if_name w = if is_name w.word then Some w else None

-- the name that ends before this byte
abbrev pub name_before : ℕ → List ℕ → Option Word
name_before end text = on_some (word_before end text) if_name

-- the name after a letter and a blank
abbrev pub name_after : ℕ → ℕ → List ℕ → Option Word
name_after letter end text = on_some (past letter text) (λ blank. on_some (past 32 blank) (λ name. name_before end name))

-- which of two letters stands there, and what follows it
pub record Flag : Type 0 where
  pub is_set : Bool
  pub rest : List ℕ

abbrev pub flag_at : ℕ → ℕ → List ℕ → Option Flag
flag_at on off [] = None
flag_at on off (b ∷ bs) =
    if b == on then Some (record { is_set = true; rest = bs })
    else if b == off then Some (record { is_set = false; rest = bs })
    else None

-- the kind that a word of a field's line says: `-` says that the field has none
abbrev pub kind_said : List ℕ → Option (Option Kind)
kind_said word =
    if same_bytes word (codes "-") then Some None
    else if same_bytes word (codes "CHARACTER") then Some (Some Character)
    else if same_bytes word (codes "INTEGER") then Some (Some Integer)
    else if same_bytes word (codes "INT64") then Some (Some Int64)
    else if same_bytes word (codes "DECIMAL") then Some (Some Decimal)
    else if same_bytes word (codes "LOGICAL") then Some (Some Logical)
    else if same_bytes word (codes "DATE") then Some (Some Date)
    else None

-- ---- the lines of items, as far as their words go

-- `F name kind M|O `
pub record FieldHead : Type 0 where
  pub name : List ℕ
  pub kind : Option Kind
  pub mandatory : Bool
  pub rest : List ℕ

abbrev pub field_head : List ℕ → Option FieldHead
field_head text =
    on_some (name_after 70 32 text) (λ name.
    on_some (word_before 32 name.rest) (λ word.
    on_some (kind_said word.word) (λ kind.
    on_some (flag_at 77 79 word.rest) (λ mandatory.
    on_some (past 32 mandatory.rest) (λ rest.
    Some (record { name = name.word; kind = kind; mandatory = mandatory.is_set; rest = rest }))))))

-- `I name U|N P|N`
pub record IndexHead : Type 0 where
  pub name : List ℕ
  pub unique : Bool
  pub primary : Bool
  pub rest : List ℕ

abbrev pub index_head : List ℕ → Option IndexHead
index_head text =
    on_some (name_after 73 32 text) (λ name.
    on_some (flag_at 85 78 name.rest) (λ unique.
    on_some (past 32 unique.rest) (λ blank.
    on_some (flag_at 80 78 blank) (λ primary.
    Some (record { name = name.word; unique = unique.is_set; primary = primary.is_set; rest = primary.rest })))))

-- ` field A|D`, the field one of these names
pub record Part : Type 0 where
  pub part : KeyPart
  pub rest : List ℕ

abbrev pub part_at : List FieldDef → List ℕ → Option Part
part_at fields text =
    on_some (past 32 text) (λ blank.
    on_some (name_before 32 blank) (λ name.
    on_some (number_of_name 0 (field_names fields) name.word) (λ number.
    on_some (flag_at 68 65 name.rest) (λ descending.
    Some (record { part = record { field = number; descending = descending.is_set }; rest = descending.rest })))))
