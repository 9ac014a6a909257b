-- No node denotes two parts of the syntax: comparisons.
use Rattle.std.specs.Prelude.{ℕ}
use Rattle.std.proofs.Common.{refl}
use Rattle.abl_base.specs.declared.place.Place.{Place}
use Rattle.bound_tree.specs.declared.expression.Binary.{Binary}
use Rattle.bound_tree.specs.declared.expression.Binary.TheVariants as two
use Rattle.syntax_reader.specs.Nodes.{Source, IsAt}
use Rattle.syntax_reader.specs.Expressions.{IsComparison}
use Rattle.syntax_reader.specs.Expressions as a
use Rattle.syntax_reader.proofs.Same.{same_use, same_at, differ}

pub same_comparison : {c : Source} {i0 : ℕ} {x1 y1 : Binary} {x2 y2 : Place} → IsComparison c i0 x1 x2 → IsComparison c i0 y1 y2 → (P : Binary → Place → Type 0) → P y1 y2 → P x1 x2
same_comparison {c} (a.equals {n = n_a} {k = k_a} {at = at_a} h1 h2) (a.equals {k = k_b} {at = at_b} g1 g2) P q =
    let g2a = same_use h1 g1 (λ (k_x : ℕ). IsAt c k_x at_b) g2 in
    let qb = same_at h2 g2a (λ (at_x : Place). P two.Equal at_x) q in
    qb
same_comparison (a.equals h1 _) (a.not_equal g1 _) P q = absurd (differ h1 g1 refl)
same_comparison (a.equals h1 _) (a.less g1 _) P q = absurd (differ h1 g1 refl)
same_comparison (a.equals h1 _) (a.greater g1 _) P q = absurd (differ h1 g1 refl)
same_comparison (a.equals h1 _) (a.less_or_equal g1 _) P q = absurd (differ h1 g1 refl)
same_comparison (a.equals h1 _) (a.greater_or_equal g1 _) P q = absurd (differ h1 g1 refl)
same_comparison (a.equals h1 _) (a.eq g1 _) P q = absurd (differ h1 g1 refl)
same_comparison (a.equals h1 _) (a.ne g1 _) P q = absurd (differ h1 g1 refl)
same_comparison (a.equals h1 _) (a.lt g1 _) P q = absurd (differ h1 g1 refl)
same_comparison (a.equals h1 _) (a.gt g1 _) P q = absurd (differ h1 g1 refl)
same_comparison (a.equals h1 _) (a.le g1 _) P q = absurd (differ h1 g1 refl)
same_comparison (a.equals h1 _) (a.ge g1 _) P q = absurd (differ h1 g1 refl)
same_comparison (a.equals h1 _) (a.begins g1 _) P q = absurd (differ h1 g1 refl)
same_comparison {c} (a.not_equal {n = n_a} {k = k_a} {at = at_a} h1 h2) (a.not_equal {k = k_b} {at = at_b} g1 g2) P q =
    let g2a = same_use h1 g1 (λ (k_x : ℕ). IsAt c k_x at_b) g2 in
    let qb = same_at h2 g2a (λ (at_x : Place). P two.Unequal at_x) q in
    qb
same_comparison (a.not_equal h1 _) (a.equals g1 _) P q = absurd (differ h1 g1 refl)
same_comparison (a.not_equal h1 _) (a.less g1 _) P q = absurd (differ h1 g1 refl)
same_comparison (a.not_equal h1 _) (a.greater g1 _) P q = absurd (differ h1 g1 refl)
same_comparison (a.not_equal h1 _) (a.less_or_equal g1 _) P q = absurd (differ h1 g1 refl)
same_comparison (a.not_equal h1 _) (a.greater_or_equal g1 _) P q = absurd (differ h1 g1 refl)
same_comparison (a.not_equal h1 _) (a.eq g1 _) P q = absurd (differ h1 g1 refl)
same_comparison (a.not_equal h1 _) (a.ne g1 _) P q = absurd (differ h1 g1 refl)
same_comparison (a.not_equal h1 _) (a.lt g1 _) P q = absurd (differ h1 g1 refl)
same_comparison (a.not_equal h1 _) (a.gt g1 _) P q = absurd (differ h1 g1 refl)
same_comparison (a.not_equal h1 _) (a.le g1 _) P q = absurd (differ h1 g1 refl)
same_comparison (a.not_equal h1 _) (a.ge g1 _) P q = absurd (differ h1 g1 refl)
same_comparison (a.not_equal h1 _) (a.begins g1 _) P q = absurd (differ h1 g1 refl)
same_comparison {c} (a.less {n = n_a} {k = k_a} {at = at_a} h1 h2) (a.less {k = k_b} {at = at_b} g1 g2) P q =
    let g2a = same_use h1 g1 (λ (k_x : ℕ). IsAt c k_x at_b) g2 in
    let qb = same_at h2 g2a (λ (at_x : Place). P two.Less at_x) q in
    qb
same_comparison (a.less h1 _) (a.equals g1 _) P q = absurd (differ h1 g1 refl)
same_comparison (a.less h1 _) (a.not_equal g1 _) P q = absurd (differ h1 g1 refl)
same_comparison (a.less h1 _) (a.greater g1 _) P q = absurd (differ h1 g1 refl)
same_comparison (a.less h1 _) (a.less_or_equal g1 _) P q = absurd (differ h1 g1 refl)
same_comparison (a.less h1 _) (a.greater_or_equal g1 _) P q = absurd (differ h1 g1 refl)
same_comparison (a.less h1 _) (a.eq g1 _) P q = absurd (differ h1 g1 refl)
same_comparison (a.less h1 _) (a.ne g1 _) P q = absurd (differ h1 g1 refl)
same_comparison (a.less h1 _) (a.lt g1 _) P q = absurd (differ h1 g1 refl)
same_comparison (a.less h1 _) (a.gt g1 _) P q = absurd (differ h1 g1 refl)
same_comparison (a.less h1 _) (a.le g1 _) P q = absurd (differ h1 g1 refl)
same_comparison (a.less h1 _) (a.ge g1 _) P q = absurd (differ h1 g1 refl)
same_comparison (a.less h1 _) (a.begins g1 _) P q = absurd (differ h1 g1 refl)
same_comparison {c} (a.greater {n = n_a} {k = k_a} {at = at_a} h1 h2) (a.greater {k = k_b} {at = at_b} g1 g2) P q =
    let g2a = same_use h1 g1 (λ (k_x : ℕ). IsAt c k_x at_b) g2 in
    let qb = same_at h2 g2a (λ (at_x : Place). P two.Greater at_x) q in
    qb
same_comparison (a.greater h1 _) (a.equals g1 _) P q = absurd (differ h1 g1 refl)
same_comparison (a.greater h1 _) (a.not_equal g1 _) P q = absurd (differ h1 g1 refl)
same_comparison (a.greater h1 _) (a.less g1 _) P q = absurd (differ h1 g1 refl)
same_comparison (a.greater h1 _) (a.less_or_equal g1 _) P q = absurd (differ h1 g1 refl)
same_comparison (a.greater h1 _) (a.greater_or_equal g1 _) P q = absurd (differ h1 g1 refl)
same_comparison (a.greater h1 _) (a.eq g1 _) P q = absurd (differ h1 g1 refl)
same_comparison (a.greater h1 _) (a.ne g1 _) P q = absurd (differ h1 g1 refl)
same_comparison (a.greater h1 _) (a.lt g1 _) P q = absurd (differ h1 g1 refl)
same_comparison (a.greater h1 _) (a.gt g1 _) P q = absurd (differ h1 g1 refl)
same_comparison (a.greater h1 _) (a.le g1 _) P q = absurd (differ h1 g1 refl)
same_comparison (a.greater h1 _) (a.ge g1 _) P q = absurd (differ h1 g1 refl)
same_comparison (a.greater h1 _) (a.begins g1 _) P q = absurd (differ h1 g1 refl)
same_comparison {c} (a.less_or_equal {n = n_a} {k = k_a} {at = at_a} h1 h2) (a.less_or_equal {k = k_b} {at = at_b} g1 g2) P q =
    let g2a = same_use h1 g1 (λ (k_x : ℕ). IsAt c k_x at_b) g2 in
    let qb = same_at h2 g2a (λ (at_x : Place). P two.AtMost at_x) q in
    qb
same_comparison (a.less_or_equal h1 _) (a.equals g1 _) P q = absurd (differ h1 g1 refl)
same_comparison (a.less_or_equal h1 _) (a.not_equal g1 _) P q = absurd (differ h1 g1 refl)
same_comparison (a.less_or_equal h1 _) (a.less g1 _) P q = absurd (differ h1 g1 refl)
same_comparison (a.less_or_equal h1 _) (a.greater g1 _) P q = absurd (differ h1 g1 refl)
same_comparison (a.less_or_equal h1 _) (a.greater_or_equal g1 _) P q = absurd (differ h1 g1 refl)
same_comparison (a.less_or_equal h1 _) (a.eq g1 _) P q = absurd (differ h1 g1 refl)
same_comparison (a.less_or_equal h1 _) (a.ne g1 _) P q = absurd (differ h1 g1 refl)
same_comparison (a.less_or_equal h1 _) (a.lt g1 _) P q = absurd (differ h1 g1 refl)
same_comparison (a.less_or_equal h1 _) (a.gt g1 _) P q = absurd (differ h1 g1 refl)
same_comparison (a.less_or_equal h1 _) (a.le g1 _) P q = absurd (differ h1 g1 refl)
same_comparison (a.less_or_equal h1 _) (a.ge g1 _) P q = absurd (differ h1 g1 refl)
same_comparison (a.less_or_equal h1 _) (a.begins g1 _) P q = absurd (differ h1 g1 refl)
same_comparison {c} (a.greater_or_equal {n = n_a} {k = k_a} {at = at_a} h1 h2) (a.greater_or_equal {k = k_b} {at = at_b} g1 g2) P q =
    let g2a = same_use h1 g1 (λ (k_x : ℕ). IsAt c k_x at_b) g2 in
    let qb = same_at h2 g2a (λ (at_x : Place). P two.AtLeast at_x) q in
    qb
same_comparison (a.greater_or_equal h1 _) (a.equals g1 _) P q = absurd (differ h1 g1 refl)
same_comparison (a.greater_or_equal h1 _) (a.not_equal g1 _) P q = absurd (differ h1 g1 refl)
same_comparison (a.greater_or_equal h1 _) (a.less g1 _) P q = absurd (differ h1 g1 refl)
same_comparison (a.greater_or_equal h1 _) (a.greater g1 _) P q = absurd (differ h1 g1 refl)
same_comparison (a.greater_or_equal h1 _) (a.less_or_equal g1 _) P q = absurd (differ h1 g1 refl)
same_comparison (a.greater_or_equal h1 _) (a.eq g1 _) P q = absurd (differ h1 g1 refl)
same_comparison (a.greater_or_equal h1 _) (a.ne g1 _) P q = absurd (differ h1 g1 refl)
same_comparison (a.greater_or_equal h1 _) (a.lt g1 _) P q = absurd (differ h1 g1 refl)
same_comparison (a.greater_or_equal h1 _) (a.gt g1 _) P q = absurd (differ h1 g1 refl)
same_comparison (a.greater_or_equal h1 _) (a.le g1 _) P q = absurd (differ h1 g1 refl)
same_comparison (a.greater_or_equal h1 _) (a.ge g1 _) P q = absurd (differ h1 g1 refl)
same_comparison (a.greater_or_equal h1 _) (a.begins g1 _) P q = absurd (differ h1 g1 refl)
same_comparison {c} (a.eq {n = n_a} {k = k_a} {at = at_a} h1 h2) (a.eq {k = k_b} {at = at_b} g1 g2) P q =
    let g2a = same_use h1 g1 (λ (k_x : ℕ). IsAt c k_x at_b) g2 in
    let qb = same_at h2 g2a (λ (at_x : Place). P two.Equal at_x) q in
    qb
same_comparison (a.eq h1 _) (a.equals g1 _) P q = absurd (differ h1 g1 refl)
same_comparison (a.eq h1 _) (a.not_equal g1 _) P q = absurd (differ h1 g1 refl)
same_comparison (a.eq h1 _) (a.less g1 _) P q = absurd (differ h1 g1 refl)
same_comparison (a.eq h1 _) (a.greater g1 _) P q = absurd (differ h1 g1 refl)
same_comparison (a.eq h1 _) (a.less_or_equal g1 _) P q = absurd (differ h1 g1 refl)
same_comparison (a.eq h1 _) (a.greater_or_equal g1 _) P q = absurd (differ h1 g1 refl)
same_comparison (a.eq h1 _) (a.ne g1 _) P q = absurd (differ h1 g1 refl)
same_comparison (a.eq h1 _) (a.lt g1 _) P q = absurd (differ h1 g1 refl)
same_comparison (a.eq h1 _) (a.gt g1 _) P q = absurd (differ h1 g1 refl)
same_comparison (a.eq h1 _) (a.le g1 _) P q = absurd (differ h1 g1 refl)
same_comparison (a.eq h1 _) (a.ge g1 _) P q = absurd (differ h1 g1 refl)
same_comparison (a.eq h1 _) (a.begins g1 _) P q = absurd (differ h1 g1 refl)
same_comparison {c} (a.ne {n = n_a} {k = k_a} {at = at_a} h1 h2) (a.ne {k = k_b} {at = at_b} g1 g2) P q =
    let g2a = same_use h1 g1 (λ (k_x : ℕ). IsAt c k_x at_b) g2 in
    let qb = same_at h2 g2a (λ (at_x : Place). P two.Unequal at_x) q in
    qb
same_comparison (a.ne h1 _) (a.equals g1 _) P q = absurd (differ h1 g1 refl)
same_comparison (a.ne h1 _) (a.not_equal g1 _) P q = absurd (differ h1 g1 refl)
same_comparison (a.ne h1 _) (a.less g1 _) P q = absurd (differ h1 g1 refl)
same_comparison (a.ne h1 _) (a.greater g1 _) P q = absurd (differ h1 g1 refl)
same_comparison (a.ne h1 _) (a.less_or_equal g1 _) P q = absurd (differ h1 g1 refl)
same_comparison (a.ne h1 _) (a.greater_or_equal g1 _) P q = absurd (differ h1 g1 refl)
same_comparison (a.ne h1 _) (a.eq g1 _) P q = absurd (differ h1 g1 refl)
same_comparison (a.ne h1 _) (a.lt g1 _) P q = absurd (differ h1 g1 refl)
same_comparison (a.ne h1 _) (a.gt g1 _) P q = absurd (differ h1 g1 refl)
same_comparison (a.ne h1 _) (a.le g1 _) P q = absurd (differ h1 g1 refl)
same_comparison (a.ne h1 _) (a.ge g1 _) P q = absurd (differ h1 g1 refl)
same_comparison (a.ne h1 _) (a.begins g1 _) P q = absurd (differ h1 g1 refl)
same_comparison {c} (a.lt {n = n_a} {k = k_a} {at = at_a} h1 h2) (a.lt {k = k_b} {at = at_b} g1 g2) P q =
    let g2a = same_use h1 g1 (λ (k_x : ℕ). IsAt c k_x at_b) g2 in
    let qb = same_at h2 g2a (λ (at_x : Place). P two.Less at_x) q in
    qb
same_comparison (a.lt h1 _) (a.equals g1 _) P q = absurd (differ h1 g1 refl)
same_comparison (a.lt h1 _) (a.not_equal g1 _) P q = absurd (differ h1 g1 refl)
same_comparison (a.lt h1 _) (a.less g1 _) P q = absurd (differ h1 g1 refl)
same_comparison (a.lt h1 _) (a.greater g1 _) P q = absurd (differ h1 g1 refl)
same_comparison (a.lt h1 _) (a.less_or_equal g1 _) P q = absurd (differ h1 g1 refl)
same_comparison (a.lt h1 _) (a.greater_or_equal g1 _) P q = absurd (differ h1 g1 refl)
same_comparison (a.lt h1 _) (a.eq g1 _) P q = absurd (differ h1 g1 refl)
same_comparison (a.lt h1 _) (a.ne g1 _) P q = absurd (differ h1 g1 refl)
same_comparison (a.lt h1 _) (a.gt g1 _) P q = absurd (differ h1 g1 refl)
same_comparison (a.lt h1 _) (a.le g1 _) P q = absurd (differ h1 g1 refl)
same_comparison (a.lt h1 _) (a.ge g1 _) P q = absurd (differ h1 g1 refl)
same_comparison (a.lt h1 _) (a.begins g1 _) P q = absurd (differ h1 g1 refl)
same_comparison {c} (a.gt {n = n_a} {k = k_a} {at = at_a} h1 h2) (a.gt {k = k_b} {at = at_b} g1 g2) P q =
    let g2a = same_use h1 g1 (λ (k_x : ℕ). IsAt c k_x at_b) g2 in
    let qb = same_at h2 g2a (λ (at_x : Place). P two.Greater at_x) q in
    qb
same_comparison (a.gt h1 _) (a.equals g1 _) P q = absurd (differ h1 g1 refl)
same_comparison (a.gt h1 _) (a.not_equal g1 _) P q = absurd (differ h1 g1 refl)
same_comparison (a.gt h1 _) (a.less g1 _) P q = absurd (differ h1 g1 refl)
same_comparison (a.gt h1 _) (a.greater g1 _) P q = absurd (differ h1 g1 refl)
same_comparison (a.gt h1 _) (a.less_or_equal g1 _) P q = absurd (differ h1 g1 refl)
same_comparison (a.gt h1 _) (a.greater_or_equal g1 _) P q = absurd (differ h1 g1 refl)
same_comparison (a.gt h1 _) (a.eq g1 _) P q = absurd (differ h1 g1 refl)
same_comparison (a.gt h1 _) (a.ne g1 _) P q = absurd (differ h1 g1 refl)
same_comparison (a.gt h1 _) (a.lt g1 _) P q = absurd (differ h1 g1 refl)
same_comparison (a.gt h1 _) (a.le g1 _) P q = absurd (differ h1 g1 refl)
same_comparison (a.gt h1 _) (a.ge g1 _) P q = absurd (differ h1 g1 refl)
same_comparison (a.gt h1 _) (a.begins g1 _) P q = absurd (differ h1 g1 refl)
same_comparison {c} (a.le {n = n_a} {k = k_a} {at = at_a} h1 h2) (a.le {k = k_b} {at = at_b} g1 g2) P q =
    let g2a = same_use h1 g1 (λ (k_x : ℕ). IsAt c k_x at_b) g2 in
    let qb = same_at h2 g2a (λ (at_x : Place). P two.AtMost at_x) q in
    qb
same_comparison (a.le h1 _) (a.equals g1 _) P q = absurd (differ h1 g1 refl)
same_comparison (a.le h1 _) (a.not_equal g1 _) P q = absurd (differ h1 g1 refl)
same_comparison (a.le h1 _) (a.less g1 _) P q = absurd (differ h1 g1 refl)
same_comparison (a.le h1 _) (a.greater g1 _) P q = absurd (differ h1 g1 refl)
same_comparison (a.le h1 _) (a.less_or_equal g1 _) P q = absurd (differ h1 g1 refl)
same_comparison (a.le h1 _) (a.greater_or_equal g1 _) P q = absurd (differ h1 g1 refl)
same_comparison (a.le h1 _) (a.eq g1 _) P q = absurd (differ h1 g1 refl)
same_comparison (a.le h1 _) (a.ne g1 _) P q = absurd (differ h1 g1 refl)
same_comparison (a.le h1 _) (a.lt g1 _) P q = absurd (differ h1 g1 refl)
same_comparison (a.le h1 _) (a.gt g1 _) P q = absurd (differ h1 g1 refl)
same_comparison (a.le h1 _) (a.ge g1 _) P q = absurd (differ h1 g1 refl)
same_comparison (a.le h1 _) (a.begins g1 _) P q = absurd (differ h1 g1 refl)
same_comparison {c} (a.ge {n = n_a} {k = k_a} {at = at_a} h1 h2) (a.ge {k = k_b} {at = at_b} g1 g2) P q =
    let g2a = same_use h1 g1 (λ (k_x : ℕ). IsAt c k_x at_b) g2 in
    let qb = same_at h2 g2a (λ (at_x : Place). P two.AtLeast at_x) q in
    qb
same_comparison (a.ge h1 _) (a.equals g1 _) P q = absurd (differ h1 g1 refl)
same_comparison (a.ge h1 _) (a.not_equal g1 _) P q = absurd (differ h1 g1 refl)
same_comparison (a.ge h1 _) (a.less g1 _) P q = absurd (differ h1 g1 refl)
same_comparison (a.ge h1 _) (a.greater g1 _) P q = absurd (differ h1 g1 refl)
same_comparison (a.ge h1 _) (a.less_or_equal g1 _) P q = absurd (differ h1 g1 refl)
same_comparison (a.ge h1 _) (a.greater_or_equal g1 _) P q = absurd (differ h1 g1 refl)
same_comparison (a.ge h1 _) (a.eq g1 _) P q = absurd (differ h1 g1 refl)
same_comparison (a.ge h1 _) (a.ne g1 _) P q = absurd (differ h1 g1 refl)
same_comparison (a.ge h1 _) (a.lt g1 _) P q = absurd (differ h1 g1 refl)
same_comparison (a.ge h1 _) (a.gt g1 _) P q = absurd (differ h1 g1 refl)
same_comparison (a.ge h1 _) (a.le g1 _) P q = absurd (differ h1 g1 refl)
same_comparison (a.ge h1 _) (a.begins g1 _) P q = absurd (differ h1 g1 refl)
same_comparison {c} (a.begins {n = n_a} {k = k_a} {at = at_a} h1 h2) (a.begins {k = k_b} {at = at_b} g1 g2) P q =
    let g2a = same_use h1 g1 (λ (k_x : ℕ). IsAt c k_x at_b) g2 in
    let qb = same_at h2 g2a (λ (at_x : Place). P two.Begins at_x) q in
    qb
same_comparison (a.begins h1 _) (a.equals g1 _) P q = absurd (differ h1 g1 refl)
same_comparison (a.begins h1 _) (a.not_equal g1 _) P q = absurd (differ h1 g1 refl)
same_comparison (a.begins h1 _) (a.less g1 _) P q = absurd (differ h1 g1 refl)
same_comparison (a.begins h1 _) (a.greater g1 _) P q = absurd (differ h1 g1 refl)
same_comparison (a.begins h1 _) (a.less_or_equal g1 _) P q = absurd (differ h1 g1 refl)
same_comparison (a.begins h1 _) (a.greater_or_equal g1 _) P q = absurd (differ h1 g1 refl)
same_comparison (a.begins h1 _) (a.eq g1 _) P q = absurd (differ h1 g1 refl)
same_comparison (a.begins h1 _) (a.ne g1 _) P q = absurd (differ h1 g1 refl)
same_comparison (a.begins h1 _) (a.lt g1 _) P q = absurd (differ h1 g1 refl)
same_comparison (a.begins h1 _) (a.gt g1 _) P q = absurd (differ h1 g1 refl)
same_comparison (a.begins h1 _) (a.le g1 _) P q = absurd (differ h1 g1 refl)
same_comparison (a.begins h1 _) (a.ge g1 _) P q = absurd (differ h1 g1 refl)
