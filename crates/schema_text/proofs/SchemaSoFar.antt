-- The tables and sequences that are read so far.
use Rattle.std.proofs.Common.{◌≡◌, ◌==◌, true≢false, ℕ, true, false, List, [], ◌∷◌, length, sym, ap, subst, ◌∙◌, arith}
use Rattle.std.proofs.lemmas.Bool.{eqb-true}
use Rattle.abl_values.specs.Schema.{SchemaData, canonical_text}
use Rattle.abl_values.specs.Sound.{IsSound}
use Rattle.schema_text.specs.Entries.{IsBegun, data_of}
use Rattle.schema_text.specs.Words.{begins}
use Rattle.schema_text.specs.Written.{IsHeld, IsWritten}
use Rattle.schema_text.specs.declared.entries.Entries.{Entries}
use Rattle.schema_text.proofs.Begun.{begins_item, begun_first, begun_last, held_none, sound_none}
use Rattle.schema_text.proofs.Told.{schema_as}

pub record SchemaSoFar (text : List ℕ) (e : Entries) (rest : List ℕ) : Type 0 where
  pub sound : IsSound (data_of e)
  pub held : IsHeld (data_of e)
  pub to_come : (s : SchemaData) → IsWritten s → text ≡ canonical_text s → IsBegun s e rest

pub nothing_yet : (text : List ℕ) (e : Entries) → e.tables ≡ [] → e.sequences ≡ [] → e.order ≡ [] → SchemaSoFar text e text
nothing_yet text e ht hq ho =
    let none : data_of e ≡ schema_as [] [] [] = ap (λ ts. schema_as ts e.sequences e.order) ht ∙ ap (λ qs. schema_as [] qs e.order) hq ∙ ap (λ os. schema_as [] [] os) ho in
    record {
      sound = subst IsSound (sym none) sound_none;
      held = subst IsHeld (sym none) held_none;
      to_come = λ s w e_text. begun_first s e text w.sound ht hq ho e_text;
    }

-- an item that is no table is a sequence
pub sequence_begins : (s : SchemaData) (e : Entries) (rest : List ℕ) → (length rest == 0) ≡ false → IsBegun s e rest → begins 84 rest ≡ false → begins 83 rest ≡ true
sequence_begins s e [] some c h = absurd (true≢false some)
sequence_begins s e (b ∷ bs) some c h = begins_item s e b bs c h

pub nothing_left : (s : SchemaData) (e : Entries) (rest : List ℕ) → (length rest == 0) ≡ true → IsBegun s e rest → data_of e ≡ s
nothing_left s e [] none c = begun_last s e c
nothing_left s e (b ∷ bs) none c = absurd (omega (arith, eqb-true (length (b ∷ bs)) 0 none))
