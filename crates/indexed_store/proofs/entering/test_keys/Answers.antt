use Rattle.std.proofs.Common.{ℕ, Option, None, MatchOption, subst}
use Rattle.abl_base.specs.declared.row.RowId.{RowId}
use Rattle.row_store.specs.declared.store.Duplicate.{Duplicate}
use Rattle.row_store.specs.Questions.{IsLongKey}
use Rattle.database_meaning.specs.Waiting.{row_in}
use Rattle.row_keys.specs.Questions.{IsLeastDuplicateIn}
use Rattle.indexed_store.proofs.Sound.{all_short, duplicate_unsound, fitting_of, long_unsound, no_duplicate, sound_more}
use Rattle.indexed_store.proofs.entering.test_keys.Goals as goal

pub returns-in-Ok-Some-clause-unsound : goal.returns-in-Ok-Some-clause-unsound
returns-in-Ok-Some-clause-unsound c = λ e rows at empty entered sound.
    let schema = c.args.schema.now in
    let table = c.args.table in
    let values = c.args.values.now in
    let long : IsLongKey schema table values c.in-Ok-Some.field-0-0 =
    subst (λ (o : Option ℕ). MatchOption o ((i : ℕ) → IsLongKey schema table values i → ⊥) (λ i. IsLongKey schema table values i)) c.in-Ok-Some.field-0-is c.in-Ok-Some.ensures in
    long_unsound schema rows at table values c.in-Ok-Some.field-0-0 long sound

pub returns-in-Ok-None-duplicate-clause-sound : goal.returns-in-Ok-None-duplicate-clause-sound
returns-in-Ok-None-duplicate-clause-sound c = λ rows at entered.
    let schema = c.args.schema.now in
    let table = c.args.table in
    let values = c.args.values.now in
    let new = row_in table values in
    let none_long : (i : ℕ) → IsLongKey schema table values i → ⊥ =
    subst (λ (o : Option ℕ). MatchOption o ((i : ℕ) → IsLongKey schema table values i → ⊥) (λ i. IsLongKey schema table values i)) c.in-Ok-None.field-0-is c.in-Ok-None.ensures in
    let none : (i : ℕ) (other : RowId) → IsLeastDuplicateIn schema rows None new i other → ⊥ =
    subst (λ (o : Option Duplicate). MatchOption o ((i : ℕ) (other : RowId) → IsLeastDuplicateIn schema rows None new i other → ⊥) (λ d. IsLeastDuplicateIn schema rows None new d.index d.row)) c.in-Ok-None-duplicate.field-0-is
    (c.in-Ok-None-duplicate.ensures rows entered.entries (fitting_of schema rows entered.sound)) in
    sound_more schema rows at table values entered.sound (record { table = c.requires.table; fits = c.requires.fits; short = all_short schema table values none_long }) (no_duplicate schema rows new none)

pub returns-in-Ok-Some-duplicate-clause-unsound : goal.returns-in-Ok-Some-duplicate-clause-unsound
returns-in-Ok-Some-duplicate-clause-unsound c = λ e rows at empty entered sound.
    let schema = c.args.schema.now in
    let table = c.args.table in
    let values = c.args.values.now in
    let new = row_in table values in
    let d = c.in-Ok-Some-duplicate.field-0-0 in
    let least : IsLeastDuplicateIn schema rows None new d.index d.row =
    subst (λ (o : Option Duplicate). MatchOption o ((i : ℕ) (other : RowId) → IsLeastDuplicateIn schema rows None new i other → ⊥) (λ d. IsLeastDuplicateIn schema rows None new d.index d.row)) c.in-Ok-Some-duplicate.field-0-is
    (c.in-Ok-Some-duplicate.ensures rows entered.entries (fitting_of schema rows entered.sound)) in
    duplicate_unsound schema rows at table values d.index d.row empty least.0 sound
