-- A row that an operation enters with success.
use Rattle.std.proofs.Common.{◌≡◌, ⊎_elim, inl, inr, ℕ, zero, suc, ◌<◌, ◌≤◌, true, false, length, Some, refl, ap, arith}
use Rattle.std.proofs.lemmas.Bool.{cases_eq, cases_lt}
use Rattle.abl_base.specs.declared.limits.TheConstants.{MAX_KEY_BYTES}
use Rattle.database_protocol.specs.declared.operation.Op.{Op}
use Rattle.database_protocol.specs.declared.answer.Answer.{Answer}
use Rattle.database_protocol.specs.declared.answer.Answer.TheVariants.{Gone}
use Rattle.database_meaning.specs.declared.state.StoredRow.{StoredRow}
use Rattle.database_meaning.specs.Setting.{HasIndex, Setting, key_in}
use Rattle.database_meaning.specs.State.{State}
use Rattle.database_meaning.specs.Answers.{Answers, FromGone, HasLongKey, HasTooLongKey, IsFirstLongKey, IsGone, IsRefused}
use Rattle.database_meaning.specs.Steps.{is_success}
use Rattle.database_meaning.proofs.TableRows.{skip}

refusal : {a b : Answer} → is_success a ≡ true → is_success b ≡ false → a ≡ b → ⊥
refusal {a} {b} good bad e = let same : is_success a ≡ is_success b = ap is_success e in cc

from_gone : (f : Setting) (s : State) (c : ℕ) (op : Op) (a : Answer) → is_success a ≡ true → FromGone f s c op a → ¬ HasTooLongKey f op
from_gone f s c op a h m =
    let m1 = skip {applies = IsGone f s c op} (λ (e : a ≡ Gone). refusal h refl e) m in
    let m2 = skip (λ e. refusal h refl e.2) m1.1 in
    m2.0

-- no key of it is too long
pub no_long_key : (f : Setting) (s : State) (c : ℕ) (op : Op) (a : Answer) → is_success a ≡ true → Answers f s c op a → ¬ HasTooLongKey f op
no_long_key f s c op a h (inl free) = absurd (⊎_elim (λ e. refusal h refl e) (λ p. refusal h refl p.0) free.1)
no_long_key f s c op a h (inr t) =
    let t1 = skip {applies = IsRefused f s c op} (λ e. refusal h refl e) t in
    let t2 = skip (λ e. refusal h refl e) t1.1 in
    let fits : FromGone f s c op a = elim t2.1 [ inl p ↦ p.1 | inr p ↦ absurd (refusal h refl p.0) ] in
    from_gone f s c op a h fits

module _ (f : Setting) (row : StoredRow) (no : (index : ℕ) → IsFirstLongKey f (Some row) index → ⊥) where
  none_before : (n j : ℕ) → j < n → HasLongKey f row j → ⊥
  none_before zero j lt long = absurd (omega (arith, lt))
  none_before (suc n) j lt long = elim (cases_eq j n) [
    | inl e ↦ no j (long, λ i less. none_before n i (omega (arith, less, e)))
    | inr ne ↦ none_before n j (omega (arith, lt, ne)) long
  ]

  -- where there is no first index in which the key is too long, it is in none
  pub all_short : (index : ℕ) → HasIndex f.schema row.table index → length (key_in f.schema row.table index row.values) ≤ MAX_KEY_BYTES
  all_short index has = ⊎_elim
      (λ (lt : MAX_KEY_BYTES < length (key_in f.schema row.table index row.values)). absurd (none_before (suc index) index (omega arith) (has, lt)))
      (λ (le : length (key_in f.schema row.table index row.values) ≤ MAX_KEY_BYTES). le)
      (cases_lt MAX_KEY_BYTES (length (key_in f.schema row.table index row.values)))
