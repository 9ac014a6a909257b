-- No node denotes two parts of the syntax: constants, functions, operators and signs.
use Rattle.std.specs.Prelude.{◌≡◌, ℕ, ℤ, ◌+◌, Bool, true, false, pos, ◌||◌}
use Rattle.std.proofs.Common.{refl, eqb}
use Rattle.abl_base.specs.declared.place.Place.{Place}
use Rattle.abl_base.specs.declared.value.Value.{Value}
use Rattle.bound_tree.specs.declared.expression.Binary.{Binary}
use Rattle.syntax_tree.specs.declared.name.Word.{Word}
use Rattle.syntax_tree.specs.declared.word.Function.{Function}
use Rattle.abl_base.specs.declared.value.Value.TheVariants as value
use Rattle.bound_tree.specs.declared.expression.Binary.TheVariants as two
use Rattle.parse_tree.specs.declared.production.TheConstants as p
use Rattle.syntax_tree.specs.Syntax as s
use Rattle.syntax_tree.specs.Syntax.{Expression}
use Rattle.syntax_reader.specs.Nodes.{Source, Uses, IsAt, IsName, IsText, IsWhole, IsScaled, IsDay}
use Rattle.syntax_reader.specs.Expressions.{IsConstant, IsFunction, IsOperator, IsWithSign, IsTestedName}
use Rattle.syntax_reader.specs.Expressions as a
use Rattle.syntax_reader.proofs.Same.{same_use, same_at, same_name, same_text, same_whole, same_scaled, same_day, differ, not_here}

pub same_constant : {c : Source} {i0 : ℕ} {x1 y1 : Value} {x2 y2 : Place} → IsConstant c i0 x1 x2 → IsConstant c i0 y1 y2 → (P : Value → Place → Type 0) → P y1 y2 → P x1 x2
same_constant {c} (a.whole {n = n_a} {k = k_a} {x = x_a} {at = at_a} h1 h2 h3) (a.whole {k = k_b} {x = x_b} {at = at_b} g1 g2 g3) P q =
    let g2a = same_use h1 g1 (λ (k_x : ℕ). IsWhole c k_x x_b) g2 in
    let g3a = same_use h1 g1 (λ (k_x : ℕ). IsAt c k_x at_b) g3 in
    let qb = same_whole h2 g2a (λ (x_x : ℕ). P (value.Int64 (pos x_x)) at_b) q in
    let qc = same_at h3 g3a (λ (at_x : Place). P (value.Int64 (pos x_a)) at_x) qb in
    qc
same_constant (a.whole h1 _ _) (a.scaled g1 _ _) P q = absurd (differ h1 g1 refl)
same_constant (a.whole h1 _ _) (a.text g1 _) P q = absurd (differ h1 g1 refl)
same_constant (a.whole h1 _ _) (a.date g1 _ _) P q = absurd (differ h1 g1 refl)
same_constant (a.whole h1 _ _) (a.yes g1 _) P q = absurd (differ h1 g1 refl)
same_constant (a.whole h1 _ _) (a.no g1 _) P q = absurd (differ h1 g1 refl)
same_constant (a.whole h1 _ _) (a.truth g1 _) P q = absurd (differ h1 g1 refl)
same_constant (a.whole h1 _ _) (a.falsehood g1 _) P q = absurd (differ h1 g1 refl)
same_constant (a.whole h1 _ _) (a.unknown g1 _) P q = absurd (differ h1 g1 refl)
same_constant {c} (a.scaled {n = n_a} {k = k_a} {x = x_a} {at = at_a} h1 h2 h3) (a.scaled {k = k_b} {x = x_b} {at = at_b} g1 g2 g3) P q =
    let g2a = same_use h1 g1 (λ (k_x : ℕ). IsScaled c k_x x_b) g2 in
    let g3a = same_use h1 g1 (λ (k_x : ℕ). IsAt c k_x at_b) g3 in
    let qb = same_scaled h2 g2a (λ (x_x : ℕ). P (value.Dec (pos x_x)) at_b) q in
    let qc = same_at h3 g3a (λ (at_x : Place). P (value.Dec (pos x_a)) at_x) qb in
    qc
same_constant (a.scaled h1 _ _) (a.whole g1 _ _) P q = absurd (differ h1 g1 refl)
same_constant (a.scaled h1 _ _) (a.text g1 _) P q = absurd (differ h1 g1 refl)
same_constant (a.scaled h1 _ _) (a.date g1 _ _) P q = absurd (differ h1 g1 refl)
same_constant (a.scaled h1 _ _) (a.yes g1 _) P q = absurd (differ h1 g1 refl)
same_constant (a.scaled h1 _ _) (a.no g1 _) P q = absurd (differ h1 g1 refl)
same_constant (a.scaled h1 _ _) (a.truth g1 _) P q = absurd (differ h1 g1 refl)
same_constant (a.scaled h1 _ _) (a.falsehood g1 _) P q = absurd (differ h1 g1 refl)
same_constant (a.scaled h1 _ _) (a.unknown g1 _) P q = absurd (differ h1 g1 refl)
same_constant {c} (a.text {n = n_a} {k = k_a} {word = word_a} h1 h2) (a.text {k = k_b} {word = word_b} g1 g2) P q =
    let g2a = same_use h1 g1 (λ (k_x : ℕ). IsText c k_x word_b) g2 in
    let qb = same_text h2 g2a (λ (word_x : Word). P (value.Text word_x.spelling) word_x.at) q in
    qb
same_constant (a.text h1 _) (a.whole g1 _ _) P q = absurd (differ h1 g1 refl)
same_constant (a.text h1 _) (a.scaled g1 _ _) P q = absurd (differ h1 g1 refl)
same_constant (a.text h1 _) (a.date g1 _ _) P q = absurd (differ h1 g1 refl)
same_constant (a.text h1 _) (a.yes g1 _) P q = absurd (differ h1 g1 refl)
same_constant (a.text h1 _) (a.no g1 _) P q = absurd (differ h1 g1 refl)
same_constant (a.text h1 _) (a.truth g1 _) P q = absurd (differ h1 g1 refl)
same_constant (a.text h1 _) (a.falsehood g1 _) P q = absurd (differ h1 g1 refl)
same_constant (a.text h1 _) (a.unknown g1 _) P q = absurd (differ h1 g1 refl)
same_constant {c} (a.date {n = n_a} {k = k_a} {day = day_a} {at = at_a} h1 h2 h3) (a.date {k = k_b} {day = day_b} {at = at_b} g1 g2 g3) P q =
    let g2a = same_use h1 g1 (λ (k_x : ℕ). IsDay c k_x day_b) g2 in
    let g3a = same_use h1 g1 (λ (k_x : ℕ). IsAt c k_x at_b) g3 in
    let qb = same_day h2 g2a (λ (day_x : ℤ). P (value.Date day_x) at_b) q in
    let qc = same_at h3 g3a (λ (at_x : Place). P (value.Date day_a) at_x) qb in
    qc
same_constant (a.date h1 _ _) (a.whole g1 _ _) P q = absurd (differ h1 g1 refl)
same_constant (a.date h1 _ _) (a.scaled g1 _ _) P q = absurd (differ h1 g1 refl)
same_constant (a.date h1 _ _) (a.text g1 _) P q = absurd (differ h1 g1 refl)
same_constant (a.date h1 _ _) (a.yes g1 _) P q = absurd (differ h1 g1 refl)
same_constant (a.date h1 _ _) (a.no g1 _) P q = absurd (differ h1 g1 refl)
same_constant (a.date h1 _ _) (a.truth g1 _) P q = absurd (differ h1 g1 refl)
same_constant (a.date h1 _ _) (a.falsehood g1 _) P q = absurd (differ h1 g1 refl)
same_constant (a.date h1 _ _) (a.unknown g1 _) P q = absurd (differ h1 g1 refl)
same_constant {c} (a.yes {n = n_a} {k = k_a} {at = at_a} h1 h2) (a.yes {k = k_b} {at = at_b} g1 g2) P q =
    let g2a = same_use h1 g1 (λ (k_x : ℕ). IsAt c k_x at_b) g2 in
    let qb = same_at h2 g2a (λ (at_x : Place). P (value.Logical true) at_x) q in
    qb
same_constant (a.yes h1 _) (a.whole g1 _ _) P q = absurd (differ h1 g1 refl)
same_constant (a.yes h1 _) (a.scaled g1 _ _) P q = absurd (differ h1 g1 refl)
same_constant (a.yes h1 _) (a.text g1 _) P q = absurd (differ h1 g1 refl)
same_constant (a.yes h1 _) (a.date g1 _ _) P q = absurd (differ h1 g1 refl)
same_constant (a.yes h1 _) (a.no g1 _) P q = absurd (differ h1 g1 refl)
same_constant (a.yes h1 _) (a.truth g1 _) P q = absurd (differ h1 g1 refl)
same_constant (a.yes h1 _) (a.falsehood g1 _) P q = absurd (differ h1 g1 refl)
same_constant (a.yes h1 _) (a.unknown g1 _) P q = absurd (differ h1 g1 refl)
same_constant {c} (a.no {n = n_a} {k = k_a} {at = at_a} h1 h2) (a.no {k = k_b} {at = at_b} g1 g2) P q =
    let g2a = same_use h1 g1 (λ (k_x : ℕ). IsAt c k_x at_b) g2 in
    let qb = same_at h2 g2a (λ (at_x : Place). P (value.Logical false) at_x) q in
    qb
same_constant (a.no h1 _) (a.whole g1 _ _) P q = absurd (differ h1 g1 refl)
same_constant (a.no h1 _) (a.scaled g1 _ _) P q = absurd (differ h1 g1 refl)
same_constant (a.no h1 _) (a.text g1 _) P q = absurd (differ h1 g1 refl)
same_constant (a.no h1 _) (a.date g1 _ _) P q = absurd (differ h1 g1 refl)
same_constant (a.no h1 _) (a.yes g1 _) P q = absurd (differ h1 g1 refl)
same_constant (a.no h1 _) (a.truth g1 _) P q = absurd (differ h1 g1 refl)
same_constant (a.no h1 _) (a.falsehood g1 _) P q = absurd (differ h1 g1 refl)
same_constant (a.no h1 _) (a.unknown g1 _) P q = absurd (differ h1 g1 refl)
same_constant {c} (a.truth {n = n_a} {k = k_a} {at = at_a} h1 h2) (a.truth {k = k_b} {at = at_b} g1 g2) P q =
    let g2a = same_use h1 g1 (λ (k_x : ℕ). IsAt c k_x at_b) g2 in
    let qb = same_at h2 g2a (λ (at_x : Place). P (value.Logical true) at_x) q in
    qb
same_constant (a.truth h1 _) (a.whole g1 _ _) P q = absurd (differ h1 g1 refl)
same_constant (a.truth h1 _) (a.scaled g1 _ _) P q = absurd (differ h1 g1 refl)
same_constant (a.truth h1 _) (a.text g1 _) P q = absurd (differ h1 g1 refl)
same_constant (a.truth h1 _) (a.date g1 _ _) P q = absurd (differ h1 g1 refl)
same_constant (a.truth h1 _) (a.yes g1 _) P q = absurd (differ h1 g1 refl)
same_constant (a.truth h1 _) (a.no g1 _) P q = absurd (differ h1 g1 refl)
same_constant (a.truth h1 _) (a.falsehood g1 _) P q = absurd (differ h1 g1 refl)
same_constant (a.truth h1 _) (a.unknown g1 _) P q = absurd (differ h1 g1 refl)
same_constant {c} (a.falsehood {n = n_a} {k = k_a} {at = at_a} h1 h2) (a.falsehood {k = k_b} {at = at_b} g1 g2) P q =
    let g2a = same_use h1 g1 (λ (k_x : ℕ). IsAt c k_x at_b) g2 in
    let qb = same_at h2 g2a (λ (at_x : Place). P (value.Logical false) at_x) q in
    qb
same_constant (a.falsehood h1 _) (a.whole g1 _ _) P q = absurd (differ h1 g1 refl)
same_constant (a.falsehood h1 _) (a.scaled g1 _ _) P q = absurd (differ h1 g1 refl)
same_constant (a.falsehood h1 _) (a.text g1 _) P q = absurd (differ h1 g1 refl)
same_constant (a.falsehood h1 _) (a.date g1 _ _) P q = absurd (differ h1 g1 refl)
same_constant (a.falsehood h1 _) (a.yes g1 _) P q = absurd (differ h1 g1 refl)
same_constant (a.falsehood h1 _) (a.no g1 _) P q = absurd (differ h1 g1 refl)
same_constant (a.falsehood h1 _) (a.truth g1 _) P q = absurd (differ h1 g1 refl)
same_constant (a.falsehood h1 _) (a.unknown g1 _) P q = absurd (differ h1 g1 refl)
same_constant {c} (a.unknown {n = n_a} {k = k_a} {at = at_a} h1 h2) (a.unknown {k = k_b} {at = at_b} g1 g2) P q =
    let g2a = same_use h1 g1 (λ (k_x : ℕ). IsAt c k_x at_b) g2 in
    let qb = same_at h2 g2a (λ (at_x : Place). P value.Unknown at_x) q in
    qb
same_constant (a.unknown h1 _) (a.whole g1 _ _) P q = absurd (differ h1 g1 refl)
same_constant (a.unknown h1 _) (a.scaled g1 _ _) P q = absurd (differ h1 g1 refl)
same_constant (a.unknown h1 _) (a.text g1 _) P q = absurd (differ h1 g1 refl)
same_constant (a.unknown h1 _) (a.date g1 _ _) P q = absurd (differ h1 g1 refl)
same_constant (a.unknown h1 _) (a.yes g1 _) P q = absurd (differ h1 g1 refl)
same_constant (a.unknown h1 _) (a.no g1 _) P q = absurd (differ h1 g1 refl)
same_constant (a.unknown h1 _) (a.truth g1 _) P q = absurd (differ h1 g1 refl)
same_constant (a.unknown h1 _) (a.falsehood g1 _) P q = absurd (differ h1 g1 refl)

-- whether a production is one of these
abbrev pub uses_constant : ℕ → Bool
uses_constant q = eqb q p.PRIMARY_WHOLE_NUMBER || eqb q p.PRIMARY_DECIMAL_NUMBER || eqb q p.PRIMARY_TEXT_LITERAL || eqb q p.PRIMARY_DATE_LITERAL || eqb q p.PRIMARY_YES || eqb q p.PRIMARY_NO || eqb q p.PRIMARY_TRUE || eqb q p.PRIMARY_FALSE || eqb q p.PRIMARY_QUESTION_MARK

pub not_constant : {c : Source} {n q k : ℕ} {v : Value} {at : Place} → IsConstant c n v at → Uses c n q k → uses_constant q ≡ false → ⊥
not_constant (a.whole h1 _ _) u e = not_here uses_constant h1 u refl e
not_constant (a.scaled h1 _ _) u e = not_here uses_constant h1 u refl e
not_constant (a.text h1 _) u e = not_here uses_constant h1 u refl e
not_constant (a.date h1 _ _) u e = not_here uses_constant h1 u refl e
not_constant (a.yes h1 _) u e = not_here uses_constant h1 u refl e
not_constant (a.no h1 _) u e = not_here uses_constant h1 u refl e
not_constant (a.truth h1 _) u e = not_here uses_constant h1 u refl e
not_constant (a.falsehood h1 _) u e = not_here uses_constant h1 u refl e
not_constant (a.unknown h1 _) u e = not_here uses_constant h1 u refl e

pub same_function : {c : Source} {i0 : ℕ} {x1 y1 : Function} → IsFunction c i0 x1 → IsFunction c i0 y1 → (P : Function → Type 0) → P y1 → P x1
same_function {c} (a.integer {n = n_a} {k = k_a} h1) (a.integer {k = k_b} g1) P q =
    q
same_function (a.integer h1) (a.int64 g1) P q = absurd (differ h1 g1 refl)
same_function (a.integer h1) (a.decimal g1) P q = absurd (differ h1 g1 refl)
same_function (a.integer h1) (a.substring g1) P q = absurd (differ h1 g1 refl)
same_function (a.integer h1) (a.length g1) P q = absurd (differ h1 g1 refl)
same_function (a.integer h1) (a.entry g1) P q = absurd (differ h1 g1 refl)
same_function (a.integer h1) (a.num_entries g1) P q = absurd (differ h1 g1 refl)
same_function (a.integer h1) (a.date g1) P q = absurd (differ h1 g1 refl)
same_function (a.integer h1) (a.year g1) P q = absurd (differ h1 g1 refl)
same_function (a.integer h1) (a.month g1) P q = absurd (differ h1 g1 refl)
same_function (a.integer h1) (a.day g1) P q = absurd (differ h1 g1 refl)
same_function {c} (a.int64 {n = n_a} {k = k_a} h1) (a.int64 {k = k_b} g1) P q =
    q
same_function (a.int64 h1) (a.integer g1) P q = absurd (differ h1 g1 refl)
same_function (a.int64 h1) (a.decimal g1) P q = absurd (differ h1 g1 refl)
same_function (a.int64 h1) (a.substring g1) P q = absurd (differ h1 g1 refl)
same_function (a.int64 h1) (a.length g1) P q = absurd (differ h1 g1 refl)
same_function (a.int64 h1) (a.entry g1) P q = absurd (differ h1 g1 refl)
same_function (a.int64 h1) (a.num_entries g1) P q = absurd (differ h1 g1 refl)
same_function (a.int64 h1) (a.date g1) P q = absurd (differ h1 g1 refl)
same_function (a.int64 h1) (a.year g1) P q = absurd (differ h1 g1 refl)
same_function (a.int64 h1) (a.month g1) P q = absurd (differ h1 g1 refl)
same_function (a.int64 h1) (a.day g1) P q = absurd (differ h1 g1 refl)
same_function {c} (a.decimal {n = n_a} {k = k_a} h1) (a.decimal {k = k_b} g1) P q =
    q
same_function (a.decimal h1) (a.integer g1) P q = absurd (differ h1 g1 refl)
same_function (a.decimal h1) (a.int64 g1) P q = absurd (differ h1 g1 refl)
same_function (a.decimal h1) (a.substring g1) P q = absurd (differ h1 g1 refl)
same_function (a.decimal h1) (a.length g1) P q = absurd (differ h1 g1 refl)
same_function (a.decimal h1) (a.entry g1) P q = absurd (differ h1 g1 refl)
same_function (a.decimal h1) (a.num_entries g1) P q = absurd (differ h1 g1 refl)
same_function (a.decimal h1) (a.date g1) P q = absurd (differ h1 g1 refl)
same_function (a.decimal h1) (a.year g1) P q = absurd (differ h1 g1 refl)
same_function (a.decimal h1) (a.month g1) P q = absurd (differ h1 g1 refl)
same_function (a.decimal h1) (a.day g1) P q = absurd (differ h1 g1 refl)
same_function {c} (a.substring {n = n_a} {k = k_a} h1) (a.substring {k = k_b} g1) P q =
    q
same_function (a.substring h1) (a.integer g1) P q = absurd (differ h1 g1 refl)
same_function (a.substring h1) (a.int64 g1) P q = absurd (differ h1 g1 refl)
same_function (a.substring h1) (a.decimal g1) P q = absurd (differ h1 g1 refl)
same_function (a.substring h1) (a.length g1) P q = absurd (differ h1 g1 refl)
same_function (a.substring h1) (a.entry g1) P q = absurd (differ h1 g1 refl)
same_function (a.substring h1) (a.num_entries g1) P q = absurd (differ h1 g1 refl)
same_function (a.substring h1) (a.date g1) P q = absurd (differ h1 g1 refl)
same_function (a.substring h1) (a.year g1) P q = absurd (differ h1 g1 refl)
same_function (a.substring h1) (a.month g1) P q = absurd (differ h1 g1 refl)
same_function (a.substring h1) (a.day g1) P q = absurd (differ h1 g1 refl)
same_function {c} (a.length {n = n_a} {k = k_a} h1) (a.length {k = k_b} g1) P q =
    q
same_function (a.length h1) (a.integer g1) P q = absurd (differ h1 g1 refl)
same_function (a.length h1) (a.int64 g1) P q = absurd (differ h1 g1 refl)
same_function (a.length h1) (a.decimal g1) P q = absurd (differ h1 g1 refl)
same_function (a.length h1) (a.substring g1) P q = absurd (differ h1 g1 refl)
same_function (a.length h1) (a.entry g1) P q = absurd (differ h1 g1 refl)
same_function (a.length h1) (a.num_entries g1) P q = absurd (differ h1 g1 refl)
same_function (a.length h1) (a.date g1) P q = absurd (differ h1 g1 refl)
same_function (a.length h1) (a.year g1) P q = absurd (differ h1 g1 refl)
same_function (a.length h1) (a.month g1) P q = absurd (differ h1 g1 refl)
same_function (a.length h1) (a.day g1) P q = absurd (differ h1 g1 refl)
same_function {c} (a.entry {n = n_a} {k = k_a} h1) (a.entry {k = k_b} g1) P q =
    q
same_function (a.entry h1) (a.integer g1) P q = absurd (differ h1 g1 refl)
same_function (a.entry h1) (a.int64 g1) P q = absurd (differ h1 g1 refl)
same_function (a.entry h1) (a.decimal g1) P q = absurd (differ h1 g1 refl)
same_function (a.entry h1) (a.substring g1) P q = absurd (differ h1 g1 refl)
same_function (a.entry h1) (a.length g1) P q = absurd (differ h1 g1 refl)
same_function (a.entry h1) (a.num_entries g1) P q = absurd (differ h1 g1 refl)
same_function (a.entry h1) (a.date g1) P q = absurd (differ h1 g1 refl)
same_function (a.entry h1) (a.year g1) P q = absurd (differ h1 g1 refl)
same_function (a.entry h1) (a.month g1) P q = absurd (differ h1 g1 refl)
same_function (a.entry h1) (a.day g1) P q = absurd (differ h1 g1 refl)
same_function {c} (a.num_entries {n = n_a} {k = k_a} h1) (a.num_entries {k = k_b} g1) P q =
    q
same_function (a.num_entries h1) (a.integer g1) P q = absurd (differ h1 g1 refl)
same_function (a.num_entries h1) (a.int64 g1) P q = absurd (differ h1 g1 refl)
same_function (a.num_entries h1) (a.decimal g1) P q = absurd (differ h1 g1 refl)
same_function (a.num_entries h1) (a.substring g1) P q = absurd (differ h1 g1 refl)
same_function (a.num_entries h1) (a.length g1) P q = absurd (differ h1 g1 refl)
same_function (a.num_entries h1) (a.entry g1) P q = absurd (differ h1 g1 refl)
same_function (a.num_entries h1) (a.date g1) P q = absurd (differ h1 g1 refl)
same_function (a.num_entries h1) (a.year g1) P q = absurd (differ h1 g1 refl)
same_function (a.num_entries h1) (a.month g1) P q = absurd (differ h1 g1 refl)
same_function (a.num_entries h1) (a.day g1) P q = absurd (differ h1 g1 refl)
same_function {c} (a.date {n = n_a} {k = k_a} h1) (a.date {k = k_b} g1) P q =
    q
same_function (a.date h1) (a.integer g1) P q = absurd (differ h1 g1 refl)
same_function (a.date h1) (a.int64 g1) P q = absurd (differ h1 g1 refl)
same_function (a.date h1) (a.decimal g1) P q = absurd (differ h1 g1 refl)
same_function (a.date h1) (a.substring g1) P q = absurd (differ h1 g1 refl)
same_function (a.date h1) (a.length g1) P q = absurd (differ h1 g1 refl)
same_function (a.date h1) (a.entry g1) P q = absurd (differ h1 g1 refl)
same_function (a.date h1) (a.num_entries g1) P q = absurd (differ h1 g1 refl)
same_function (a.date h1) (a.year g1) P q = absurd (differ h1 g1 refl)
same_function (a.date h1) (a.month g1) P q = absurd (differ h1 g1 refl)
same_function (a.date h1) (a.day g1) P q = absurd (differ h1 g1 refl)
same_function {c} (a.year {n = n_a} {k = k_a} h1) (a.year {k = k_b} g1) P q =
    q
same_function (a.year h1) (a.integer g1) P q = absurd (differ h1 g1 refl)
same_function (a.year h1) (a.int64 g1) P q = absurd (differ h1 g1 refl)
same_function (a.year h1) (a.decimal g1) P q = absurd (differ h1 g1 refl)
same_function (a.year h1) (a.substring g1) P q = absurd (differ h1 g1 refl)
same_function (a.year h1) (a.length g1) P q = absurd (differ h1 g1 refl)
same_function (a.year h1) (a.entry g1) P q = absurd (differ h1 g1 refl)
same_function (a.year h1) (a.num_entries g1) P q = absurd (differ h1 g1 refl)
same_function (a.year h1) (a.date g1) P q = absurd (differ h1 g1 refl)
same_function (a.year h1) (a.month g1) P q = absurd (differ h1 g1 refl)
same_function (a.year h1) (a.day g1) P q = absurd (differ h1 g1 refl)
same_function {c} (a.month {n = n_a} {k = k_a} h1) (a.month {k = k_b} g1) P q =
    q
same_function (a.month h1) (a.integer g1) P q = absurd (differ h1 g1 refl)
same_function (a.month h1) (a.int64 g1) P q = absurd (differ h1 g1 refl)
same_function (a.month h1) (a.decimal g1) P q = absurd (differ h1 g1 refl)
same_function (a.month h1) (a.substring g1) P q = absurd (differ h1 g1 refl)
same_function (a.month h1) (a.length g1) P q = absurd (differ h1 g1 refl)
same_function (a.month h1) (a.entry g1) P q = absurd (differ h1 g1 refl)
same_function (a.month h1) (a.num_entries g1) P q = absurd (differ h1 g1 refl)
same_function (a.month h1) (a.date g1) P q = absurd (differ h1 g1 refl)
same_function (a.month h1) (a.year g1) P q = absurd (differ h1 g1 refl)
same_function (a.month h1) (a.day g1) P q = absurd (differ h1 g1 refl)
same_function {c} (a.day {n = n_a} {k = k_a} h1) (a.day {k = k_b} g1) P q =
    q
same_function (a.day h1) (a.integer g1) P q = absurd (differ h1 g1 refl)
same_function (a.day h1) (a.int64 g1) P q = absurd (differ h1 g1 refl)
same_function (a.day h1) (a.decimal g1) P q = absurd (differ h1 g1 refl)
same_function (a.day h1) (a.substring g1) P q = absurd (differ h1 g1 refl)
same_function (a.day h1) (a.length g1) P q = absurd (differ h1 g1 refl)
same_function (a.day h1) (a.entry g1) P q = absurd (differ h1 g1 refl)
same_function (a.day h1) (a.num_entries g1) P q = absurd (differ h1 g1 refl)
same_function (a.day h1) (a.date g1) P q = absurd (differ h1 g1 refl)
same_function (a.day h1) (a.year g1) P q = absurd (differ h1 g1 refl)
same_function (a.day h1) (a.month g1) P q = absurd (differ h1 g1 refl)

pub same_operator : {c : Source} {i0 : ℕ} {x1 y1 : Binary} {x2 y2 : Place} → IsOperator c i0 x1 x2 → IsOperator c i0 y1 y2 → (P : Binary → Place → Type 0) → P y1 y2 → P x1 x2
same_operator {c} (a.plus {n = n_a} {k = k_a} {at = at_a} h1 h2) (a.plus {k = k_b} {at = at_b} g1 g2) P q =
    let g2a = same_use h1 g1 (λ (k_x : ℕ). IsAt c k_x at_b) g2 in
    let qb = same_at h2 g2a (λ (at_x : Place). P two.Add at_x) q in
    qb
same_operator (a.plus h1 _) (a.minus g1 _) P q = absurd (differ h1 g1 refl)
same_operator (a.plus h1 _) (a.star g1 _) P q = absurd (differ h1 g1 refl)
same_operator (a.plus h1 _) (a.slash g1 _) P q = absurd (differ h1 g1 refl)
same_operator (a.plus h1 _) (a.modulo g1 _) P q = absurd (differ h1 g1 refl)
same_operator {c} (a.minus {n = n_a} {k = k_a} {at = at_a} h1 h2) (a.minus {k = k_b} {at = at_b} g1 g2) P q =
    let g2a = same_use h1 g1 (λ (k_x : ℕ). IsAt c k_x at_b) g2 in
    let qb = same_at h2 g2a (λ (at_x : Place). P two.Subtract at_x) q in
    qb
same_operator (a.minus h1 _) (a.plus g1 _) P q = absurd (differ h1 g1 refl)
same_operator (a.minus h1 _) (a.star g1 _) P q = absurd (differ h1 g1 refl)
same_operator (a.minus h1 _) (a.slash g1 _) P q = absurd (differ h1 g1 refl)
same_operator (a.minus h1 _) (a.modulo g1 _) P q = absurd (differ h1 g1 refl)
same_operator {c} (a.star {n = n_a} {k = k_a} {at = at_a} h1 h2) (a.star {k = k_b} {at = at_b} g1 g2) P q =
    let g2a = same_use h1 g1 (λ (k_x : ℕ). IsAt c k_x at_b) g2 in
    let qb = same_at h2 g2a (λ (at_x : Place). P two.Multiply at_x) q in
    qb
same_operator (a.star h1 _) (a.plus g1 _) P q = absurd (differ h1 g1 refl)
same_operator (a.star h1 _) (a.minus g1 _) P q = absurd (differ h1 g1 refl)
same_operator (a.star h1 _) (a.slash g1 _) P q = absurd (differ h1 g1 refl)
same_operator (a.star h1 _) (a.modulo g1 _) P q = absurd (differ h1 g1 refl)
same_operator {c} (a.slash {n = n_a} {k = k_a} {at = at_a} h1 h2) (a.slash {k = k_b} {at = at_b} g1 g2) P q =
    let g2a = same_use h1 g1 (λ (k_x : ℕ). IsAt c k_x at_b) g2 in
    let qb = same_at h2 g2a (λ (at_x : Place). P two.Divide at_x) q in
    qb
same_operator (a.slash h1 _) (a.plus g1 _) P q = absurd (differ h1 g1 refl)
same_operator (a.slash h1 _) (a.minus g1 _) P q = absurd (differ h1 g1 refl)
same_operator (a.slash h1 _) (a.star g1 _) P q = absurd (differ h1 g1 refl)
same_operator (a.slash h1 _) (a.modulo g1 _) P q = absurd (differ h1 g1 refl)
same_operator {c} (a.modulo {n = n_a} {k = k_a} {at = at_a} h1 h2) (a.modulo {k = k_b} {at = at_b} g1 g2) P q =
    let g2a = same_use h1 g1 (λ (k_x : ℕ). IsAt c k_x at_b) g2 in
    let qb = same_at h2 g2a (λ (at_x : Place). P two.Modulo at_x) q in
    qb
same_operator (a.modulo h1 _) (a.plus g1 _) P q = absurd (differ h1 g1 refl)
same_operator (a.modulo h1 _) (a.minus g1 _) P q = absurd (differ h1 g1 refl)
same_operator (a.modulo h1 _) (a.star g1 _) P q = absurd (differ h1 g1 refl)
same_operator (a.modulo h1 _) (a.slash g1 _) P q = absurd (differ h1 g1 refl)

pub same_with_sign : {c : Source} {n_a : ℕ} {a_a : Expression} {x2 y2 : Expression} → IsWithSign c n_a a_a x2 → IsWithSign c n_a a_a y2 → (P : Expression → Type 0) → P y2 → P x2
same_with_sign {c} {n_a} {a_a} (a.positive {k = k_a} {at = at_a} h1 h2) (a.positive {k = k_b} {at = at_b} g1 g2) P q =
    let g2a = same_use h1 g1 (λ (k_x : ℕ). IsAt c k_x at_b) g2 in
    let qb = same_at h2 g2a (λ (at_x : Place). P (s.Plus at_x a_a)) q in
    qb
same_with_sign (a.positive h1 _) (a.negative g1 _) P q = absurd (differ h1 g1 refl)
same_with_sign {c} {n_a} {a_a} (a.negative {k = k_a} {at = at_a} h1 h2) (a.negative {k = k_b} {at = at_b} g1 g2) P q =
    let g2a = same_use h1 g1 (λ (k_x : ℕ). IsAt c k_x at_b) g2 in
    let qb = same_at h2 g2a (λ (at_x : Place). P (s.Minus at_x a_a)) q in
    qb
same_with_sign (a.negative h1 _) (a.positive g1 _) P q = absurd (differ h1 g1 refl)

pub same_tested_name : {c : Source} {i0 : ℕ} {x1 y1 : Word} → IsTestedName c i0 x1 → IsTestedName c i0 y1 → (P : Word → Type 0) → P y1 → P x1
same_tested_name {c} (a.bare {n = n_a} {k = k_a} {word = word_a} h1 h2) (a.bare {k = k_b} {word = word_b} g1 g2) P q =
    let g2a = same_use h1 g1 (λ (k_x : ℕ). IsName c k_x word_b) g2 in
    let qb = same_name h2 g2a (λ (word_x : Word). P word_x) q in
    qb
same_tested_name (a.bare h1 _) (a.enclosed g1 _) P q = absurd (differ h1 g1 refl)
same_tested_name {c} (a.enclosed {n = n_a} {k = k_a} {word = word_a} h1 h2) (a.enclosed {k = k_b} {word = word_b} g1 g2) P q =
    let g2a = same_use h1 g1 (λ (k_x : ℕ). IsName c (k_x + 1) word_b) g2 in
    let qb = same_name h2 g2a (λ (word_x : Word). P word_x) q in
    qb
same_tested_name (a.enclosed h1 _) (a.bare g1 _) P q = absurd (differ h1 g1 refl)
