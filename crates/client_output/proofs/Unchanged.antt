-- An output that is unchanged still has what was written.
use Rattle.std.proofs.Common.{◌≡◌, ℕ, List, refl, sym, ap, ◌∙◌}
use Rattle.std.specs.Prelude.{None, Some, ◌∷◌, map}
use Rattle.block_meaning.specs.declared.wants.Piece.{Piece}
use Rattle.client_output.specs.declared.output.Output.{Output}
use Rattle.client_output.specs.Written.{HasWritten, IsUnchanged}

pub unchanged : (output : Output) → IsUnchanged output output
unchanged output = record { opened = refl; sections = refl; size = refl }

-- the same output
pub unchanged_same : (old new : Output) → new ≡ old → IsUnchanged old new
unchanged_same old new e = record { opened = ap (λ (o : Output). o.opened.items) e; sections = ap (λ (o : Output). o.sections.items) e; size = ap (λ (o : Output). o.size) e }

pub unchanged_after : (old mid new : Output) → IsUnchanged old mid → IsUnchanged mid new → IsUnchanged old new
unchanged_after old mid new first second = record { opened = second.opened ∙ first.opened; sections = second.sections ∙ first.sections; size = second.size ∙ first.size }

pub still_written : (old new : Output) (names : List (List ℕ)) (pieces : List Piece) → IsUnchanged old new → HasWritten old names pieces → HasWritten new names pieces
still_written old new names pieces same has =
    record { opened = has.opened ∙ ap (λ (ns : List ℕ). None ∷ map (λ (n : ℕ). Some n) ns) (sym same.opened); sections = same.sections ∙ has.sections }

-- the same output, where it is named by an equation
pub written_same : (old new : Output) (names : List (List ℕ)) (pieces : List Piece) → new ≡ old → HasWritten old names pieces → HasWritten new names pieces
written_same old new names pieces e has = still_written old new names pieces (unchanged_same old new e) has
