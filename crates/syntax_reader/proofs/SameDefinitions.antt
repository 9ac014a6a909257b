-- No node denotes two parts of the syntax: definitions.
use Rattle.std.specs.Prelude.{ℕ, ℤ, ◌+◌, List, Bool, true, false}
use Rattle.std.proofs.Common.{refl}
use Rattle.abl_base.specs.declared.place.Place.{Place}
use Rattle.abl_base.specs.declared.value.Value.{Value}
use Rattle.abl_base.specs.declared.value.Kind.{Kind}
use Rattle.syntax_tree.specs.declared.name.Word.{Word}
use Rattle.syntax_tree.specs.declared.word.Direction.{Direction}
use Rattle.syntax_tree.specs.declared.definition.VariableOption.{VariableOption}
use Rattle.abl_base.specs.declared.value.Value.TheVariants as value
use Rattle.syntax_tree.specs.declared.definition.VariableOption.TheVariants as option
use Rattle.syntax_tree.specs.Syntax as s
use Rattle.syntax_tree.specs.Syntax.{Definition}
use Rattle.syntax_reader.specs.Nodes.{Source, IsAt, IsName, IsText, IsWhole, IsScaled, IsDay, signed}
use Rattle.syntax_reader.specs.Definitions.{IsKind, IsNumber, IsLiteral, IsVariableOption, IsDirection, IsDefinition}
use Rattle.syntax_reader.specs.Definitions as a
use Rattle.syntax_reader.proofs.Same.{same_use, same_at, same_name, same_text, same_whole, same_scaled, same_day, same_word_there, same_row, differ}

pub same_kind : {c : Source} {i0 : ℕ} {x1 y1 : Kind} → IsKind c i0 x1 → IsKind c i0 y1 → (P : Kind → Type 0) → P y1 → P x1
same_kind {c} (a.character {n = n_a} {k = k_a} h1) (a.character {k = k_b} g1) P q =
    q
same_kind (a.character h1) (a.integer g1) P q = absurd (differ h1 g1 refl)
same_kind (a.character h1) (a.int64 g1) P q = absurd (differ h1 g1 refl)
same_kind (a.character h1) (a.decimal g1) P q = absurd (differ h1 g1 refl)
same_kind (a.character h1) (a.logical g1) P q = absurd (differ h1 g1 refl)
same_kind (a.character h1) (a.date g1) P q = absurd (differ h1 g1 refl)
same_kind {c} (a.integer {n = n_a} {k = k_a} h1) (a.integer {k = k_b} g1) P q =
    q
same_kind (a.integer h1) (a.character g1) P q = absurd (differ h1 g1 refl)
same_kind (a.integer h1) (a.int64 g1) P q = absurd (differ h1 g1 refl)
same_kind (a.integer h1) (a.decimal g1) P q = absurd (differ h1 g1 refl)
same_kind (a.integer h1) (a.logical g1) P q = absurd (differ h1 g1 refl)
same_kind (a.integer h1) (a.date g1) P q = absurd (differ h1 g1 refl)
same_kind {c} (a.int64 {n = n_a} {k = k_a} h1) (a.int64 {k = k_b} g1) P q =
    q
same_kind (a.int64 h1) (a.character g1) P q = absurd (differ h1 g1 refl)
same_kind (a.int64 h1) (a.integer g1) P q = absurd (differ h1 g1 refl)
same_kind (a.int64 h1) (a.decimal g1) P q = absurd (differ h1 g1 refl)
same_kind (a.int64 h1) (a.logical g1) P q = absurd (differ h1 g1 refl)
same_kind (a.int64 h1) (a.date g1) P q = absurd (differ h1 g1 refl)
same_kind {c} (a.decimal {n = n_a} {k = k_a} h1) (a.decimal {k = k_b} g1) P q =
    q
same_kind (a.decimal h1) (a.character g1) P q = absurd (differ h1 g1 refl)
same_kind (a.decimal h1) (a.integer g1) P q = absurd (differ h1 g1 refl)
same_kind (a.decimal h1) (a.int64 g1) P q = absurd (differ h1 g1 refl)
same_kind (a.decimal h1) (a.logical g1) P q = absurd (differ h1 g1 refl)
same_kind (a.decimal h1) (a.date g1) P q = absurd (differ h1 g1 refl)
same_kind {c} (a.logical {n = n_a} {k = k_a} h1) (a.logical {k = k_b} g1) P q =
    q
same_kind (a.logical h1) (a.character g1) P q = absurd (differ h1 g1 refl)
same_kind (a.logical h1) (a.integer g1) P q = absurd (differ h1 g1 refl)
same_kind (a.logical h1) (a.int64 g1) P q = absurd (differ h1 g1 refl)
same_kind (a.logical h1) (a.decimal g1) P q = absurd (differ h1 g1 refl)
same_kind (a.logical h1) (a.date g1) P q = absurd (differ h1 g1 refl)
same_kind {c} (a.date {n = n_a} {k = k_a} h1) (a.date {k = k_b} g1) P q =
    q
same_kind (a.date h1) (a.character g1) P q = absurd (differ h1 g1 refl)
same_kind (a.date h1) (a.integer g1) P q = absurd (differ h1 g1 refl)
same_kind (a.date h1) (a.int64 g1) P q = absurd (differ h1 g1 refl)
same_kind (a.date h1) (a.decimal g1) P q = absurd (differ h1 g1 refl)
same_kind (a.date h1) (a.logical g1) P q = absurd (differ h1 g1 refl)

pub same_number : {c : Source} {i0 : ℕ} {i1 : Bool} {x2 y2 : Value} → IsNumber c i0 i1 x2 → IsNumber c i0 i1 y2 → (P : Value → Type 0) → P y2 → P x2
same_number {c} (a.whole {n = n_a} {k = k_a} {x = x_a} {minus = minus_a} h1 h2) (a.whole {k = k_b} {x = x_b} g1 g2) P q =
    let g2a = same_use h1 g1 (λ (k_x : ℕ). IsWhole c k_x x_b) g2 in
    let qb = same_whole h2 g2a (λ (x_x : ℕ). P (value.Int64 (signed minus_a x_x))) q in
    qb
same_number (a.whole h1 _) (a.scaled g1 _) P q = absurd (differ h1 g1 refl)
same_number {c} (a.scaled {n = n_a} {k = k_a} {x = x_a} {minus = minus_a} h1 h2) (a.scaled {k = k_b} {x = x_b} g1 g2) P q =
    let g2a = same_use h1 g1 (λ (k_x : ℕ). IsScaled c k_x x_b) g2 in
    let qb = same_scaled h2 g2a (λ (x_x : ℕ). P (value.Dec (signed minus_a x_x))) q in
    qb
same_number (a.scaled h1 _) (a.whole g1 _) P q = absurd (differ h1 g1 refl)

pub same_literal : {c : Source} {i0 : ℕ} {x1 y1 : ℕ} {x2 y2 : Value} {x3 y3 : Place} → IsLiteral c i0 x1 x2 x3 → IsLiteral c i0 y1 y2 y3 → (P : ℕ → Value → Place → Type 0) → P y1 y2 y3 → P x1 x2 x3
same_literal {c} (a.number {n = n_a} {k = k_a} {minus = minus_a} {v = v_a} {at = at_a} h1 h2 h3 h4) (a.number {k = k_b} {minus = minus_b} {v = v_b} {at = at_b} g1 g2 g3 g4) P q =
    let g2a = same_use h1 g1 (λ (k_x : ℕ). IsAt c k_x at_b) g2 in
    let qb = same_at h2 g2a (λ (at_x : Place). P (n_a + 3) v_b at_x) q in
    let g4c = same_word_there h3 g3 refl (λ (minus_x : Bool). IsNumber c (n_a + 2) minus_x v_b) g4 in
    let qd = same_number h4 g4c (λ (v_x : Value). P (n_a + 3) v_x at_a) qb in
    qd
same_literal (a.number h1 _ _ _) (a.text g1 _) P q = absurd (differ h1 g1 refl)
same_literal (a.number h1 _ _ _) (a.date g1 _ _) P q = absurd (differ h1 g1 refl)
same_literal (a.number h1 _ _ _) (a.yes g1 _) P q = absurd (differ h1 g1 refl)
same_literal (a.number h1 _ _ _) (a.no g1 _) P q = absurd (differ h1 g1 refl)
same_literal (a.number h1 _ _ _) (a.truth g1 _) P q = absurd (differ h1 g1 refl)
same_literal (a.number h1 _ _ _) (a.falsehood g1 _) P q = absurd (differ h1 g1 refl)
same_literal (a.number h1 _ _ _) (a.unknown g1 _) P q = absurd (differ h1 g1 refl)
same_literal {c} (a.text {n = n_a} {k = k_a} {word = word_a} h1 h2) (a.text {k = k_b} {word = word_b} g1 g2) P q =
    let g2a = same_use h1 g1 (λ (k_x : ℕ). IsText c k_x word_b) g2 in
    let qb = same_text h2 g2a (λ (word_x : Word). P (n_a + 1) (value.Text word_x.spelling) word_x.at) q in
    qb
same_literal (a.text h1 _) (a.number g1 _ _ _) P q = absurd (differ h1 g1 refl)
same_literal (a.text h1 _) (a.date g1 _ _) P q = absurd (differ h1 g1 refl)
same_literal (a.text h1 _) (a.yes g1 _) P q = absurd (differ h1 g1 refl)
same_literal (a.text h1 _) (a.no g1 _) P q = absurd (differ h1 g1 refl)
same_literal (a.text h1 _) (a.truth g1 _) P q = absurd (differ h1 g1 refl)
same_literal (a.text h1 _) (a.falsehood g1 _) P q = absurd (differ h1 g1 refl)
same_literal (a.text h1 _) (a.unknown g1 _) P q = absurd (differ h1 g1 refl)
same_literal {c} (a.date {n = n_a} {k = k_a} {day = day_a} {at = at_a} h1 h2 h3) (a.date {k = k_b} {day = day_b} {at = at_b} g1 g2 g3) P q =
    let g2a = same_use h1 g1 (λ (k_x : ℕ). IsDay c k_x day_b) g2 in
    let g3a = same_use h1 g1 (λ (k_x : ℕ). IsAt c k_x at_b) g3 in
    let qb = same_day h2 g2a (λ (day_x : ℤ). P (n_a + 1) (value.Date day_x) at_b) q in
    let qc = same_at h3 g3a (λ (at_x : Place). P (n_a + 1) (value.Date day_a) at_x) qb in
    qc
same_literal (a.date h1 _ _) (a.number g1 _ _ _) P q = absurd (differ h1 g1 refl)
same_literal (a.date h1 _ _) (a.text g1 _) P q = absurd (differ h1 g1 refl)
same_literal (a.date h1 _ _) (a.yes g1 _) P q = absurd (differ h1 g1 refl)
same_literal (a.date h1 _ _) (a.no g1 _) P q = absurd (differ h1 g1 refl)
same_literal (a.date h1 _ _) (a.truth g1 _) P q = absurd (differ h1 g1 refl)
same_literal (a.date h1 _ _) (a.falsehood g1 _) P q = absurd (differ h1 g1 refl)
same_literal (a.date h1 _ _) (a.unknown g1 _) P q = absurd (differ h1 g1 refl)
same_literal {c} (a.yes {n = n_a} {k = k_a} {at = at_a} h1 h2) (a.yes {k = k_b} {at = at_b} g1 g2) P q =
    let g2a = same_use h1 g1 (λ (k_x : ℕ). IsAt c k_x at_b) g2 in
    let qb = same_at h2 g2a (λ (at_x : Place). P (n_a + 1) (value.Logical true) at_x) q in
    qb
same_literal (a.yes h1 _) (a.number g1 _ _ _) P q = absurd (differ h1 g1 refl)
same_literal (a.yes h1 _) (a.text g1 _) P q = absurd (differ h1 g1 refl)
same_literal (a.yes h1 _) (a.date g1 _ _) P q = absurd (differ h1 g1 refl)
same_literal (a.yes h1 _) (a.no g1 _) P q = absurd (differ h1 g1 refl)
same_literal (a.yes h1 _) (a.truth g1 _) P q = absurd (differ h1 g1 refl)
same_literal (a.yes h1 _) (a.falsehood g1 _) P q = absurd (differ h1 g1 refl)
same_literal (a.yes h1 _) (a.unknown g1 _) P q = absurd (differ h1 g1 refl)
same_literal {c} (a.no {n = n_a} {k = k_a} {at = at_a} h1 h2) (a.no {k = k_b} {at = at_b} g1 g2) P q =
    let g2a = same_use h1 g1 (λ (k_x : ℕ). IsAt c k_x at_b) g2 in
    let qb = same_at h2 g2a (λ (at_x : Place). P (n_a + 1) (value.Logical false) at_x) q in
    qb
same_literal (a.no h1 _) (a.number g1 _ _ _) P q = absurd (differ h1 g1 refl)
same_literal (a.no h1 _) (a.text g1 _) P q = absurd (differ h1 g1 refl)
same_literal (a.no h1 _) (a.date g1 _ _) P q = absurd (differ h1 g1 refl)
same_literal (a.no h1 _) (a.yes g1 _) P q = absurd (differ h1 g1 refl)
same_literal (a.no h1 _) (a.truth g1 _) P q = absurd (differ h1 g1 refl)
same_literal (a.no h1 _) (a.falsehood g1 _) P q = absurd (differ h1 g1 refl)
same_literal (a.no h1 _) (a.unknown g1 _) P q = absurd (differ h1 g1 refl)
same_literal {c} (a.truth {n = n_a} {k = k_a} {at = at_a} h1 h2) (a.truth {k = k_b} {at = at_b} g1 g2) P q =
    let g2a = same_use h1 g1 (λ (k_x : ℕ). IsAt c k_x at_b) g2 in
    let qb = same_at h2 g2a (λ (at_x : Place). P (n_a + 1) (value.Logical true) at_x) q in
    qb
same_literal (a.truth h1 _) (a.number g1 _ _ _) P q = absurd (differ h1 g1 refl)
same_literal (a.truth h1 _) (a.text g1 _) P q = absurd (differ h1 g1 refl)
same_literal (a.truth h1 _) (a.date g1 _ _) P q = absurd (differ h1 g1 refl)
same_literal (a.truth h1 _) (a.yes g1 _) P q = absurd (differ h1 g1 refl)
same_literal (a.truth h1 _) (a.no g1 _) P q = absurd (differ h1 g1 refl)
same_literal (a.truth h1 _) (a.falsehood g1 _) P q = absurd (differ h1 g1 refl)
same_literal (a.truth h1 _) (a.unknown g1 _) P q = absurd (differ h1 g1 refl)
same_literal {c} (a.falsehood {n = n_a} {k = k_a} {at = at_a} h1 h2) (a.falsehood {k = k_b} {at = at_b} g1 g2) P q =
    let g2a = same_use h1 g1 (λ (k_x : ℕ). IsAt c k_x at_b) g2 in
    let qb = same_at h2 g2a (λ (at_x : Place). P (n_a + 1) (value.Logical false) at_x) q in
    qb
same_literal (a.falsehood h1 _) (a.number g1 _ _ _) P q = absurd (differ h1 g1 refl)
same_literal (a.falsehood h1 _) (a.text g1 _) P q = absurd (differ h1 g1 refl)
same_literal (a.falsehood h1 _) (a.date g1 _ _) P q = absurd (differ h1 g1 refl)
same_literal (a.falsehood h1 _) (a.yes g1 _) P q = absurd (differ h1 g1 refl)
same_literal (a.falsehood h1 _) (a.no g1 _) P q = absurd (differ h1 g1 refl)
same_literal (a.falsehood h1 _) (a.truth g1 _) P q = absurd (differ h1 g1 refl)
same_literal (a.falsehood h1 _) (a.unknown g1 _) P q = absurd (differ h1 g1 refl)
same_literal {c} (a.unknown {n = n_a} {k = k_a} {at = at_a} h1 h2) (a.unknown {k = k_b} {at = at_b} g1 g2) P q =
    let g2a = same_use h1 g1 (λ (k_x : ℕ). IsAt c k_x at_b) g2 in
    let qb = same_at h2 g2a (λ (at_x : Place). P (n_a + 1) value.Unknown at_x) q in
    qb
same_literal (a.unknown h1 _) (a.number g1 _ _ _) P q = absurd (differ h1 g1 refl)
same_literal (a.unknown h1 _) (a.text g1 _) P q = absurd (differ h1 g1 refl)
same_literal (a.unknown h1 _) (a.date g1 _ _) P q = absurd (differ h1 g1 refl)
same_literal (a.unknown h1 _) (a.yes g1 _) P q = absurd (differ h1 g1 refl)
same_literal (a.unknown h1 _) (a.no g1 _) P q = absurd (differ h1 g1 refl)
same_literal (a.unknown h1 _) (a.truth g1 _) P q = absurd (differ h1 g1 refl)
same_literal (a.unknown h1 _) (a.falsehood g1 _) P q = absurd (differ h1 g1 refl)

pub same_variable_option : {c : Source} {i0 : ℕ} {x1 y1 : ℕ} {x2 y2 : VariableOption} → IsVariableOption c i0 x1 x2 → IsVariableOption c i0 y1 y2 → (P : ℕ → VariableOption → Type 0) → P y1 y2 → P x1 x2
same_variable_option {c} (a.no_undo {n = n_a} {k = k_a} {at = at_a} h1 h2) (a.no_undo {k = k_b} {at = at_b} g1 g2) P q =
    let g2a = same_use h1 g1 (λ (k_x : ℕ). IsAt c k_x at_b) g2 in
    let qb = same_at h2 g2a (λ (at_x : Place). P (n_a + 1) (option.NoUndo at_x)) q in
    qb
same_variable_option (a.no_undo h1 _) (a.initial g1 _ _) P q = absurd (differ h1 g1 refl)
same_variable_option (a.no_undo h1 _) (a.format g1 _ _ _) P q = absurd (differ h1 g1 refl)
same_variable_option (a.no_undo h1 _) (a.label g1 _ _) P q = absurd (differ h1 g1 refl)
same_variable_option {c} (a.initial {n = n_a} {k = k_a} {m = m_a} {v = v_a} {at = at_a} {literal_at = literal_at_a} h1 h2 h3) (a.initial {k = k_b} {m = m_b} {v = v_b} {at = at_b} {literal_at = literal_at_b} g1 g2 g3) P q =
    let g2a = same_use h1 g1 (λ (k_x : ℕ). IsAt c k_x at_b) g2 in
    let qb = same_at h2 g2a (λ (at_x : Place). P m_b (option.Initial at_x v_b literal_at_b)) q in
    let qc = same_literal h3 g3 (λ (m_x : ℕ) (v_x : Value) (literal_at_x : Place). P m_x (option.Initial at_a v_x literal_at_x)) qb in
    qc
same_variable_option (a.initial h1 _ _) (a.no_undo g1 _) P q = absurd (differ h1 g1 refl)
same_variable_option (a.initial h1 _ _) (a.format g1 _ _ _) P q = absurd (differ h1 g1 refl)
same_variable_option (a.initial h1 _ _) (a.label g1 _ _) P q = absurd (differ h1 g1 refl)
same_variable_option {c} (a.format {n = n_a} {k = k_a} {j = j_a} {at = at_a} {mask = mask_a} h1 h2 h3 h4) (a.format {k = k_b} {j = j_b} {at = at_b} {mask = mask_b} g1 g2 g3 g4) P q =
    let g2a = same_use h1 g1 (λ (k_x : ℕ). IsAt c k_x at_b) g2 in
    let g4a = same_use h1 g1 (λ (k_x : ℕ). IsText c (k_x + 1) mask_b) g4 in
    let qb = same_at h2 g2a (λ (at_x : Place). P (n_a + 2) (option.Format at_x mask_b)) q in
    let qd = same_text h4 g4a (λ (mask_x : Word). P (n_a + 2) (option.Format at_a mask_x)) qb in
    qd
same_variable_option (a.format h1 _ _ _) (a.no_undo g1 _) P q = absurd (differ h1 g1 refl)
same_variable_option (a.format h1 _ _ _) (a.initial g1 _ _) P q = absurd (differ h1 g1 refl)
same_variable_option (a.format _ _ h3 _) (a.label _ _ g3) P q = absurd (differ h3 g3 refl)
same_variable_option {c} (a.label {n = n_a} {k = k_a} {j = j_a} {at = at_a} h1 h2 h3) (a.label {k = k_b} {j = j_b} {at = at_b} g1 g2 g3) P q =
    let g2a = same_use h1 g1 (λ (k_x : ℕ). IsAt c k_x at_b) g2 in
    let qb = same_at h2 g2a (λ (at_x : Place). P (n_a + 2) (option.Label at_x)) q in
    qb
same_variable_option (a.label h1 _ _) (a.no_undo g1 _) P q = absurd (differ h1 g1 refl)
same_variable_option (a.label h1 _ _) (a.initial g1 _ _) P q = absurd (differ h1 g1 refl)
same_variable_option (a.label _ _ h3) (a.format _ _ g3 _) P q = absurd (differ h3 g3 refl)

pub same_variable_option_at : {c : Source} (n m l : ℕ) (a b : VariableOption) → IsVariableOption c n m a → IsVariableOption c n l b → (P : ℕ → VariableOption → Type 0) → P l b → P m a
same_variable_option_at n m l a b h g P q = same_variable_option h g P q

pub same_direction : {c : Source} {i0 : ℕ} {x1 y1 : Direction} → IsDirection c i0 x1 → IsDirection c i0 y1 → (P : Direction → Type 0) → P y1 → P x1
same_direction {c} (a.input {n = n_a} {k = k_a} h1) (a.input {k = k_b} g1) P q =
    q
same_direction (a.input h1) (a.output g1) P q = absurd (differ h1 g1 refl)
same_direction (a.input h1) (a.input_output g1) P q = absurd (differ h1 g1 refl)
same_direction {c} (a.output {n = n_a} {k = k_a} h1) (a.output {k = k_b} g1) P q =
    q
same_direction (a.output h1) (a.input g1) P q = absurd (differ h1 g1 refl)
same_direction (a.output h1) (a.input_output g1) P q = absurd (differ h1 g1 refl)
same_direction {c} (a.input_output {n = n_a} {k = k_a} h1) (a.input_output {k = k_b} g1) P q =
    q
same_direction (a.input_output h1) (a.input g1) P q = absurd (differ h1 g1 refl)
same_direction (a.input_output h1) (a.output g1) P q = absurd (differ h1 g1 refl)

pub same_definition : {c : Source} {i0 : ℕ} {x1 y1 : ℕ} {x2 y2 : Definition} → IsDefinition c i0 x1 x2 → IsDefinition c i0 y1 y2 → (P : ℕ → Definition → Type 0) → P y1 y2 → P x1 x2
same_definition {c} (a.variable {n = n_a} {k = k_a} {m = m_a} {name = name_a} {kind = kind_a} {options = options_a} h1 h2 h3 h4) (a.variable {k = k_b} {m = m_b} {name = name_b} {kind = kind_b} {options = options_b} g1 g2 g3 g4) P q =
    let g2a = same_use h1 g1 (λ (k_x : ℕ). IsName c (k_x + 1) name_b) g2 in
    let qb = same_name h2 g2a (λ (name_x : Word). P m_b (s.Variable name_x kind_b options_b)) q in
    let qc = same_kind h3 g3 (λ (kind_x : Kind). P m_b (s.Variable name_a kind_x options_b)) qb in
    let qd = same_row same_variable_option_at h4 g4 refl (λ (m_x : ℕ) (options_x : List VariableOption). P m_x (s.Variable name_a kind_a options_x)) qc in
    qd
same_definition (a.variable h1 _ _ _) (a.buffer g1 _ _) P q = absurd (differ h1 g1 refl)
same_definition (a.variable h1 _ _ _) (a.stream g1 _) P q = absurd (differ h1 g1 refl)
same_definition (a.variable h1 _ _ _) (a.parameter g1 _ _ _ _ _) P q = absurd (differ h1 g1 refl)
same_definition {c} (a.buffer {n = n_a} {k = k_a} {name = name_a} {table = table_a} h1 h2 h3) (a.buffer {k = k_b} {name = name_b} {table = table_b} g1 g2 g3) P q =
    let g2a = same_use h1 g1 (λ (k_x : ℕ). IsName c (k_x + 1) name_b) g2 in
    let g3a = same_use h1 g1 (λ (k_x : ℕ). IsName c (k_x + 3) table_b) g3 in
    let qb = same_name h2 g2a (λ (name_x : Word). P (n_a + 1) (s.Buffer name_x table_b)) q in
    let qc = same_name h3 g3a (λ (table_x : Word). P (n_a + 1) (s.Buffer name_a table_x)) qb in
    qc
same_definition (a.buffer h1 _ _) (a.variable g1 _ _ _) P q = absurd (differ h1 g1 refl)
same_definition (a.buffer h1 _ _) (a.stream g1 _) P q = absurd (differ h1 g1 refl)
same_definition (a.buffer h1 _ _) (a.parameter g1 _ _ _ _ _) P q = absurd (differ h1 g1 refl)
same_definition {c} (a.stream {n = n_a} {k = k_a} {name = name_a} h1 h2) (a.stream {k = k_b} {name = name_b} g1 g2) P q =
    let g2a = same_use h1 g1 (λ (k_x : ℕ). IsName c (k_x + 1) name_b) g2 in
    let qb = same_name h2 g2a (λ (name_x : Word). P (n_a + 1) (s.Stream name_x)) q in
    qb
same_definition (a.stream h1 _) (a.variable g1 _ _ _) P q = absurd (differ h1 g1 refl)
same_definition (a.stream h1 _) (a.buffer g1 _ _) P q = absurd (differ h1 g1 refl)
same_definition (a.stream h1 _) (a.parameter g1 _ _ _ _ _) P q = absurd (differ h1 g1 refl)
same_definition {c} (a.parameter {n = n_a} {k = k_a} {m = m_a} {direction = direction_a} {at = at_a} {name = name_a} {kind = kind_a} {options = options_a} h1 h2 h3 h4 h5 h6) (a.parameter {k = k_b} {m = m_b} {direction = direction_b} {at = at_b} {name = name_b} {kind = kind_b} {options = options_b} g1 g2 g3 g4 g5 g6) P q =
    let g3a = same_use h1 g1 (λ (k_x : ℕ). IsAt c (k_x + 1) at_b) g3 in
    let g4a = same_use h1 g1 (λ (k_x : ℕ). IsName c (k_x + 2) name_b) g4 in
    let qb = same_direction h2 g2 (λ (direction_x : Direction). P m_b (s.Parameter direction_x at_b name_b kind_b options_b)) q in
    let qc = same_at h3 g3a (λ (at_x : Place). P m_b (s.Parameter direction_a at_x name_b kind_b options_b)) qb in
    let qd = same_name h4 g4a (λ (name_x : Word). P m_b (s.Parameter direction_a at_a name_x kind_b options_b)) qc in
    let qe = same_kind h5 g5 (λ (kind_x : Kind). P m_b (s.Parameter direction_a at_a name_a kind_x options_b)) qd in
    let qf = same_row same_variable_option_at h6 g6 refl (λ (m_x : ℕ) (options_x : List VariableOption). P m_x (s.Parameter direction_a at_a name_a kind_a options_x)) qe in
    qf
same_definition (a.parameter h1 _ _ _ _ _) (a.variable g1 _ _ _) P q = absurd (differ h1 g1 refl)
same_definition (a.parameter h1 _ _ _ _ _) (a.buffer g1 _ _) P q = absurd (differ h1 g1 refl)
same_definition (a.parameter h1 _ _ _ _ _) (a.stream g1 _) P q = absurd (differ h1 g1 refl)
