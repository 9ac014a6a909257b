-- Worked examples, each computed from the definitions.
use Rattle.std.specs.Prelude.{◌≡◌, refl, ℕ, false, List, [], ◌∷◌, codes, Some, None}
use Rattle.abl_base.specs.declared.value.Kind.TheVariants.{Logical as Truth}
use Rattle.abl_base.specs.declared.value.Value.TheVariants.{Unknown}
use Rattle.abl_values.specs.declared.schema.FieldDef.{FieldDef}
use Rattle.stored_schema.specs.Laid.{laid_from, stored_as}
use Rattle.table_changes.specs.Changes.{number_after, with_field, without, without_field}

field : List ℕ → FieldDef
field name = record { name = name; kind = Some Truth; initial = Unknown; mandatory = false; mask = [] }

-- the second of three
the_others : without {X = ℕ} 1 (7 ∷ 8 ∷ 9 ∷ []) ≡ 7 ∷ 9 ∷ []
the_others = refl

the_third_is_the_second : number_after 1 2 ≡ 1
the_third_is_the_second = refl

-- a field is dropped, and one of its name is added: the first keeps its place
dropped_and_added : (with_field (field (codes "a")) (without_field 0 (record { fields = field (codes "a") ∷ field (codes "b") ∷ []; stored = laid_from 0 (field (codes "a") ∷ field (codes "b") ∷ []) }))).stored
    ≡ record { name = codes "a"; kind = Some Truth; initial = Unknown; live = None } ∷ stored_as 0 (field (codes "b")) ∷ stored_as 1 (field (codes "a")) ∷ []
unfolding field
dropped_and_added = refl
