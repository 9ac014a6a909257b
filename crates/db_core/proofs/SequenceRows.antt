-- The rows of the table of answers that operations on sequences can come to.
use Rattle.std.proofs.Common.{◌≡◌, ◌⊎◌, ℕ, zero, suc, ◌<◌, List, [], ◌∷◌, length, get_or, refl, sym, ap, ◌∙◌, subst, inl, inr, arith}
use Rattle.std.specs.Prelude.{ℤ, pos, ◌+ℤ◌}
use Rattle.database_protocol.specs.declared.operation.Op.TheVariants.{NextValue, CurrentValue}
use Rattle.database_protocol.specs.declared.answer.Answer.{Answer}
use Rattle.database_protocol.specs.declared.answer.Answer.TheVariants.{AtEnd, SequenceEnd, Value as ValueAnswer}
use Rattle.database_meaning.specs.Setting.{Setting, increment_of}
use Rattle.database_meaning.specs.State.{State}
use Rattle.database_meaning.specs.Search.{FindsNone}
use Rattle.database_meaning.specs.Answers.{FromGone, IsI64, PassesEnd, current_value, next_value}
use Rattle.db_core.proofs.GetRows.{no_key}

module _ (f : Setting) (s : State) (c sequence : ℕ) where
  past_next : (a : Answer) → ((PassesEnd f s (NextValue sequence) × (a ≡ SequenceEnd)) ⊎ (¬ PassesEnd f s (NextValue sequence) × (a ≡ ValueAnswer (next_value f s sequence)))) → FromGone f s c (NextValue sequence) a
  past_next a h =
      inr ((λ h. h), inr ((λ h. h.1), inr ((λ h. h.0.1), inr ((λ h. h.0.1), inr ((λ h. h.1), inr ((λ h. no_key f.schema h.2.0.0 h.2.0.2), inr ((λ h. h.0), inr ((λ h. h.0), last h))))))))
    where
      last : ((PassesEnd f s (NextValue sequence) × (a ≡ SequenceEnd)) ⊎ (¬ PassesEnd f s (NextValue sequence) × (a ≡ ValueAnswer (next_value f s sequence))))
          → ((PassesEnd f s (NextValue sequence) × (a ≡ SequenceEnd)) ⊎ (¬ PassesEnd f s (NextValue sequence) × (((⊥ × FindsNone f s (NextValue sequence)) × (a ≡ AtEnd)) ⊎ (¬ (⊥ × FindsNone f s (NextValue sequence)) × (a ≡ ValueAnswer (next_value f s sequence))))))
      last (inl n) = inl n
      last (inr n) = inr (n.0, inr ((λ m. m.0), n.1))

  pub value_ends : ¬ IsI64 (next_value f s sequence) → FromGone f s c (NextValue sequence) SequenceEnd
  value_ends beyond = past_next SequenceEnd (inl ((sequence, refl, beyond), refl))

  same_sequence : (other : ℕ) → NextValue sequence ≡ NextValue other → other ≡ sequence
  same_sequence other e = cc

  pub value_moves : IsI64 (next_value f s sequence) → FromGone f s c (NextValue sequence) (ValueAnswer (next_value f s sequence))
  value_moves within =
      past_next (ValueAnswer (next_value f s sequence))
      (inr ((λ h. h.2 (subst (λ (n : ℕ). IsI64 (next_value f s n)) (sym (same_sequence h.0 h.1)) within)), refl))

  pub value_stays : FromGone f s c (CurrentValue sequence) (ValueAnswer (current_value s sequence))
  value_stays =
      inr (
        (λ h. h),
        inr (
          (λ h. h.1),
          inr ((λ h. h.0.1), inr ((λ h. h.0.1), inr ((λ h. h.1), inr ((λ h. no_key f.schema h.2.0.0 h.2.0.2), inr ((λ h. h.0), inr ((λ h. h.0), inr ((λ h. let e : CurrentValue sequence ≡ NextValue h.0 = h.1 in cc), inr ((λ h. h.0), refl)))))))),
        ),
      )

-- a sequence as it is read
pub sequence_read : (xs ys : List ℤ) (at i : ℕ) (v : ℤ) → at ≡ i → i < length xs → v ≡ get_or xs at v → xs ≡ ys → get_or ys i (pos 0) ≡ v
sequence_read xs ys at i v same within is lists =
    ap (λ (zs : List ℤ). get_or zs i (pos 0)) (sym lists) ∙ (any_default xs i (pos 0) v within ∙ sym (is ∙ ap (λ (n : ℕ). get_or xs n v) same))
  where
    any_default : (xs : List ℤ) (i : ℕ) (d e : ℤ) → i < length xs → get_or xs i d ≡ get_or xs i e
    any_default [] i d e lt = absurd (omega arith)
    any_default (x ∷ xs) zero d e lt = refl
    any_default (x ∷ xs) (suc i) d e lt = any_default xs i d e (omega arith)

-- the next value, as it is added
pub sum_is : (f : Setting) (s : State) (sequence : ℕ) (a b x y : ℤ) → current_value s sequence ≡ a → b ≡ increment_of f.schema sequence → x ≡ a → y ≡ b → next_value f s sequence ≡ x +ℤ y
sum_is f s sequence a b x y current increment x_is y_is =
    ap (λ (v : ℤ). v +ℤ increment_of f.schema sequence) (current ∙ sym x_is) ∙ ap (λ (v : ℤ). x +ℤ v) (sym (y_is ∙ increment))
