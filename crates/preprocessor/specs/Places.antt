-- Lines and columns.
use Rattle.std.specs.Prelude.{ℕ, ◌+◌, Bool, ◌&&◌, ◌==◌, if◌then◌else◌, List, [], ◌∷◌, take}
use Rattle.abl_base.specs.declared.place.Place.{Place}

-- the place of the first byte of a text
abbrev pub start : Place
start = record { line = 1; column = 1 }

-- the place after this byte
abbrev pub moved : Place → ℕ → Place
moved p b = if b == 10 then record { line = p.line + 1; column = 1 } else record { line = p.line; column = p.column + 1 }

-- the place after these bytes
abbrev pub past : Place → List ℕ → Place
past p [] = p
past p (b ∷ bs) = past (moved p b) bs

-- the place of the byte at this offset of a text, and at its length that of the end
abbrev pub place_at : List ℕ → ℕ → Place
place_at bytes at = past start (take at bytes)

abbrev pub same_place : Place → Place → Bool
same_place p q = p.line == q.line && p.column == q.column

-- the number of bytes before the first one at this place, where these bytes begin at p; all of them where none has it
abbrev pub offset_from : Place → List ℕ → Place → ℕ
offset_from p [] place = 0
offset_from p (b ∷ bs) place = if same_place p place then 0 else 1 + offset_from (moved p b) bs place

-- the same of a text
abbrev pub offset_of : List ℕ → Place → ℕ
offset_of bytes place = offset_from start bytes place

-- the offsets at which the lines after the first begin, where these bytes begin at the offset n
abbrev pub later_starts : ℕ → List ℕ → List ℕ
later_starts n [] = []
later_starts n (b ∷ bs) = if b == 10 then (n + 1) ∷ later_starts (n + 1) bs else later_starts (n + 1) bs

-- the offsets at which the lines of a text begin
abbrev pub line_starts : List ℕ → List ℕ
line_starts bytes = 0 ∷ later_starts 0 bytes
