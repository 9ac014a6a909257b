-- No node denotes two parts of the syntax: expressions.
use Rattle.std.specs.Prelude.{ℕ, ◌+◌, Option}
use Rattle.std.proofs.Common.{refl}
use Rattle.abl_base.specs.declared.place.Place.{Place}
use Rattle.abl_base.specs.declared.value.Value.{Value}
use Rattle.bound_tree.specs.declared.expression.Binary.{Binary}
use Rattle.syntax_tree.specs.declared.name.Named.{Named}
use Rattle.syntax_tree.specs.declared.name.Word.{Word}
use Rattle.syntax_tree.specs.declared.word.Function.{Function}
use Rattle.syntax_tree.specs.declared.name.Named.TheVariants.{Plain}
use Rattle.parse_tree.specs.declared.production.TheConstants as p
use Rattle.syntax_tree.specs.Syntax as s
use Rattle.syntax_tree.specs.Syntax.{Expression, Arguments}
use Rattle.syntax_reader.specs.Nodes.{Source, IsTextThere, IsAt, IsName, IsQualified}
use Rattle.syntax_reader.specs.Expressions.{IsWithSign, IsExpression, AreOr, IsConjunction, AreAnd, IsNegation, IsCompared, IsSum, AreAdded, IsProduct, AreMultiplied, IsSigned, IsPrimary, AreMoreArguments}
use Rattle.syntax_reader.specs.Expressions as a
use Rattle.syntax_reader.proofs.Same.{same_use, same_at, same_name, same_qualified, same_text_there, differ}
use Rattle.syntax_reader.proofs.SameLeaves.{same_constant, same_function, same_operator, same_with_sign, same_tested_name, not_constant}
use Rattle.syntax_reader.proofs.SameComparisons.{same_comparison}

mutual
  pub same_expression : {c : Source} {i0 : ℕ} {x1 y1 : ℕ} {x2 y2 : Expression} → IsExpression c i0 x1 x2 → IsExpression c i0 y1 y2 → (P : ℕ → Expression → Type 0) → P y1 y2 → P x1 x2
  same_expression {c} (a.choice {n = n_a} {k = k_a} {m = m_a} {l = l_a} {end = end_a} {at = at_a} {test = test_a} {one = one_a} {other = other_a} h1 h2 h3 h4 h5) (a.choice {k = k_b} {m = m_b} {l = l_b} {end = end_b} {at = at_b} {test = test_b} {one = one_b} {other = other_b} g1 g2 g3 g4 g5) P q =
      let g2a = same_use h1 g1 (λ (k_x : ℕ). IsAt c k_x at_b) g2 in
      let qb = same_at h2 g2a (λ (at_x : Place). P end_b (s.If at_x test_b one_b other_b)) q in
      let g4c = same_expression h3 g3 (λ (m_x : ℕ) (test_x : Expression). IsExpression c m_x l_b one_b) g4 in
      let qc = same_expression h3 g3 (λ (m_x : ℕ) (test_x : Expression). P end_b (s.If at_a test_x one_b other_b)) qb in
      let g5d = same_expression h4 g4c (λ (l_x : ℕ) (one_x : Expression). IsExpression c l_x end_b other_b) g5 in
      let qd = same_expression h4 g4c (λ (l_x : ℕ) (one_x : Expression). P end_b (s.If at_a test_a one_x other_b)) qc in
      let qe = same_expression h5 g5d (λ (end_x : ℕ) (other_x : Expression). P end_x (s.If at_a test_a one_a other_x)) qd in
      qe
  same_expression (a.choice h1 _ _ _ _) (a.disjunction g1 _ _) P q = absurd (differ h1 g1 refl)
  same_expression {c} (a.disjunction {n = n_a} {k = k_a} {m = m_a} {l = l_a} {a = a_a} {all = all_a} h1 h2 h3) (a.disjunction {k = k_b} {m = m_b} {l = l_b} {a = a_b} {all = all_b} g1 g2 g3) P q =
      let g3b = same_conjunction h2 g2 (λ (m_x : ℕ) (a_x : Expression). AreOr c m_x l_b a_x all_b) g3 in
      let qc = same_or h3 g3b (λ (l_x : ℕ) (all_x : Expression). P l_x all_x) q in
      qc
  same_expression (a.disjunction h1 _ _) (a.choice g1 _ _ _ _) P q = absurd (differ h1 g1 refl)

  pub same_or : {c : Source} {i0 : ℕ} {x1 y1 : ℕ} {i2 : Expression} {x3 y3 : Expression} → AreOr c i0 x1 i2 x3 → AreOr c i0 y1 i2 y3 → (P : ℕ → Expression → Type 0) → P y1 y3 → P x1 x3
  same_or {c} (a.no_or {n = n_a} {k = k_a} {a = a_a} h1) (a.no_or {k = k_b} g1) P q =
      q
  same_or (a.no_or h1) (a.one_or g1 _ _ _) P q = absurd (differ h1 g1 refl)
  same_or {c} (a.one_or {n = n_a} {k = k_a} {m = m_a} {l = l_a} {at = at_a} {a = a_a} {b = b_a} {all = all_a} h1 h2 h3 h4) (a.one_or {k = k_b} {m = m_b} {l = l_b} {at = at_b} {b = b_b} {all = all_b} g1 g2 g3 g4) P q =
      let g2a = same_use h1 g1 (λ (k_x : ℕ). IsAt c k_x at_b) g2 in
      let g4b = same_at h2 g2a (λ (at_x : Place). AreOr c m_b l_b (s.Or at_x a_a b_b) all_b) g4 in
      let g4c = same_conjunction h3 g3 (λ (m_x : ℕ) (b_x : Expression). AreOr c m_x l_b (s.Or at_a a_a b_x) all_b) g4b in
      let qd = same_or h4 g4c (λ (l_x : ℕ) (all_x : Expression). P l_x all_x) q in
      qd
  same_or (a.one_or h1 _ _ _) (a.no_or g1) P q = absurd (differ h1 g1 refl)

  pub same_conjunction : {c : Source} {i0 : ℕ} {x1 y1 : ℕ} {x2 y2 : Expression} → IsConjunction c i0 x1 x2 → IsConjunction c i0 y1 y2 → (P : ℕ → Expression → Type 0) → P y1 y2 → P x1 x2
  same_conjunction {c} (a.conjunction {n = n_a} {k = k_a} {m = m_a} {l = l_a} {a = a_a} {all = all_a} h1 h2 h3) (a.conjunction {k = k_b} {m = m_b} {l = l_b} {a = a_b} {all = all_b} g1 g2 g3) P q =
      let g3b = same_negation h2 g2 (λ (m_x : ℕ) (a_x : Expression). AreAnd c m_x l_b a_x all_b) g3 in
      let qc = same_and h3 g3b (λ (l_x : ℕ) (all_x : Expression). P l_x all_x) q in
      qc

  pub same_and : {c : Source} {i0 : ℕ} {x1 y1 : ℕ} {i2 : Expression} {x3 y3 : Expression} → AreAnd c i0 x1 i2 x3 → AreAnd c i0 y1 i2 y3 → (P : ℕ → Expression → Type 0) → P y1 y3 → P x1 x3
  same_and {c} (a.no_and {n = n_a} {k = k_a} {a = a_a} h1) (a.no_and {k = k_b} g1) P q =
      q
  same_and (a.no_and h1) (a.one_and g1 _ _ _) P q = absurd (differ h1 g1 refl)
  same_and {c} (a.one_and {n = n_a} {k = k_a} {m = m_a} {l = l_a} {at = at_a} {a = a_a} {b = b_a} {all = all_a} h1 h2 h3 h4) (a.one_and {k = k_b} {m = m_b} {l = l_b} {at = at_b} {b = b_b} {all = all_b} g1 g2 g3 g4) P q =
      let g2a = same_use h1 g1 (λ (k_x : ℕ). IsAt c k_x at_b) g2 in
      let g4b = same_at h2 g2a (λ (at_x : Place). AreAnd c m_b l_b (s.And at_x a_a b_b) all_b) g4 in
      let g4c = same_negation h3 g3 (λ (m_x : ℕ) (b_x : Expression). AreAnd c m_x l_b (s.And at_a a_a b_x) all_b) g4b in
      let qd = same_and h4 g4c (λ (l_x : ℕ) (all_x : Expression). P l_x all_x) q in
      qd
  same_and (a.one_and h1 _ _ _) (a.no_and g1) P q = absurd (differ h1 g1 refl)

  pub same_negation : {c : Source} {i0 : ℕ} {x1 y1 : ℕ} {x2 y2 : Expression} → IsNegation c i0 x1 x2 → IsNegation c i0 y1 y2 → (P : ℕ → Expression → Type 0) → P y1 y2 → P x1 x2
  same_negation {c} (a.negated {n = n_a} {k = k_a} {m = m_a} {at = at_a} {a = a_a} h1 h2 h3) (a.negated {k = k_b} {m = m_b} {at = at_b} {a = a_b} g1 g2 g3) P q =
      let g2a = same_use h1 g1 (λ (k_x : ℕ). IsAt c k_x at_b) g2 in
      let qb = same_at h2 g2a (λ (at_x : Place). P m_b (s.Not at_x a_b)) q in
      let qc = same_negation h3 g3 (λ (m_x : ℕ) (a_x : Expression). P m_x (s.Not at_a a_x)) qb in
      qc
  same_negation (a.negated h1 _ _) (a.compared g1 _ _) P q = absurd (differ h1 g1 refl)
  same_negation {c} (a.compared {n = n_a} {k = k_a} {m = m_a} {l = l_a} {a = a_a} {all = all_a} h1 h2 h3) (a.compared {k = k_b} {m = m_b} {l = l_b} {a = a_b} {all = all_b} g1 g2 g3) P q =
      let g3b = same_sum h2 g2 (λ (m_x : ℕ) (a_x : Expression). IsCompared c m_x l_b a_x all_b) g3 in
      let qc = same_compared h3 g3b (λ (l_x : ℕ) (all_x : Expression). P l_x all_x) q in
      qc
  same_negation (a.compared h1 _ _) (a.negated g1 _ _) P q = absurd (differ h1 g1 refl)

  pub same_compared : {c : Source} {i0 : ℕ} {x1 y1 : ℕ} {i2 : Expression} {x3 y3 : Expression} → IsCompared c i0 x1 i2 x3 → IsCompared c i0 y1 i2 y3 → (P : ℕ → Expression → Type 0) → P y1 y3 → P x1 x3
  same_compared {c} (a.alone {n = n_a} {k = k_a} {a = a_a} h1) (a.alone {k = k_b} g1) P q =
      q
  same_compared (a.alone h1) (a.with_other g1 _ _) P q = absurd (differ h1 g1 refl)
  same_compared {c} (a.with_other {n = n_a} {k = k_a} {m = m_a} {op = op_a} {at = at_a} {a = a_a} {b = b_a} h1 h2 h3) (a.with_other {k = k_b} {m = m_b} {op = op_b} {at = at_b} {b = b_b} g1 g2 g3) P q =
      let qb = same_comparison h2 g2 (λ (op_x : Binary) (at_x : Place). P m_b (s.Two op_x at_x a_a b_b)) q in
      let qc = same_sum h3 g3 (λ (m_x : ℕ) (b_x : Expression). P m_x (s.Two op_a at_a a_a b_x)) qb in
      qc
  same_compared (a.with_other h1 _ _) (a.alone g1) P q = absurd (differ h1 g1 refl)

  pub same_sum : {c : Source} {i0 : ℕ} {x1 y1 : ℕ} {x2 y2 : Expression} → IsSum c i0 x1 x2 → IsSum c i0 y1 y2 → (P : ℕ → Expression → Type 0) → P y1 y2 → P x1 x2
  same_sum {c} (a.sum {n = n_a} {k = k_a} {m = m_a} {l = l_a} {a = a_a} {all = all_a} h1 h2 h3) (a.sum {k = k_b} {m = m_b} {l = l_b} {a = a_b} {all = all_b} g1 g2 g3) P q =
      let g3b = same_product h2 g2 (λ (m_x : ℕ) (a_x : Expression). AreAdded c m_x l_b a_x all_b) g3 in
      let qc = same_added h3 g3b (λ (l_x : ℕ) (all_x : Expression). P l_x all_x) q in
      qc

  pub same_added : {c : Source} {i0 : ℕ} {x1 y1 : ℕ} {i2 : Expression} {x3 y3 : Expression} → AreAdded c i0 x1 i2 x3 → AreAdded c i0 y1 i2 y3 → (P : ℕ → Expression → Type 0) → P y1 y3 → P x1 x3
  same_added {c} (a.none_added {n = n_a} {k = k_a} {a = a_a} h1) (a.none_added {k = k_b} g1) P q =
      q
  same_added (a.none_added h1) (a.one_added g1 _ _ _) P q = absurd (differ h1 g1 refl)
  same_added {c} (a.one_added {n = n_a} {k = k_a} {m = m_a} {l = l_a} {op = op_a} {at = at_a} {a = a_a} {b = b_a} {all = all_a} h1 h2 h3 h4) (a.one_added {k = k_b} {m = m_b} {l = l_b} {op = op_b} {at = at_b} {b = b_b} {all = all_b} g1 g2 g3 g4) P q =
      let g4b = same_operator h2 g2 (λ (op_x : Binary) (at_x : Place). AreAdded c m_b l_b (s.Two op_x at_x a_a b_b) all_b) g4 in
      let g4c = same_product h3 g3 (λ (m_x : ℕ) (b_x : Expression). AreAdded c m_x l_b (s.Two op_a at_a a_a b_x) all_b) g4b in
      let qd = same_added h4 g4c (λ (l_x : ℕ) (all_x : Expression). P l_x all_x) q in
      qd
  same_added (a.one_added h1 _ _ _) (a.none_added g1) P q = absurd (differ h1 g1 refl)

  pub same_product : {c : Source} {i0 : ℕ} {x1 y1 : ℕ} {x2 y2 : Expression} → IsProduct c i0 x1 x2 → IsProduct c i0 y1 y2 → (P : ℕ → Expression → Type 0) → P y1 y2 → P x1 x2
  same_product {c} (a.product {n = n_a} {k = k_a} {m = m_a} {l = l_a} {a = a_a} {all = all_a} h1 h2 h3) (a.product {k = k_b} {m = m_b} {l = l_b} {a = a_b} {all = all_b} g1 g2 g3) P q =
      let g3b = same_signed h2 g2 (λ (m_x : ℕ) (a_x : Expression). AreMultiplied c m_x l_b a_x all_b) g3 in
      let qc = same_multiplied h3 g3b (λ (l_x : ℕ) (all_x : Expression). P l_x all_x) q in
      qc

  pub same_multiplied : {c : Source} {i0 : ℕ} {x1 y1 : ℕ} {i2 : Expression} {x3 y3 : Expression} → AreMultiplied c i0 x1 i2 x3 → AreMultiplied c i0 y1 i2 y3 → (P : ℕ → Expression → Type 0) → P y1 y3 → P x1 x3
  same_multiplied {c} (a.no_factor {n = n_a} {k = k_a} {a = a_a} h1) (a.no_factor {k = k_b} g1) P q =
      q
  same_multiplied (a.no_factor h1) (a.one_factor g1 _ _ _) P q = absurd (differ h1 g1 refl)
  same_multiplied {c} (a.one_factor {n = n_a} {k = k_a} {m = m_a} {l = l_a} {op = op_a} {at = at_a} {a = a_a} {b = b_a} {all = all_a} h1 h2 h3 h4) (a.one_factor {k = k_b} {m = m_b} {l = l_b} {op = op_b} {at = at_b} {b = b_b} {all = all_b} g1 g2 g3 g4) P q =
      let g4b = same_operator h2 g2 (λ (op_x : Binary) (at_x : Place). AreMultiplied c m_b l_b (s.Two op_x at_x a_a b_b) all_b) g4 in
      let g4c = same_signed h3 g3 (λ (m_x : ℕ) (b_x : Expression). AreMultiplied c m_x l_b (s.Two op_a at_a a_a b_x) all_b) g4b in
      let qd = same_multiplied h4 g4c (λ (l_x : ℕ) (all_x : Expression). P l_x all_x) q in
      qd
  same_multiplied (a.one_factor h1 _ _ _) (a.no_factor g1) P q = absurd (differ h1 g1 refl)

  pub same_signed : {c : Source} {i0 : ℕ} {x1 y1 : ℕ} {x2 y2 : Expression} → IsSigned c i0 x1 x2 → IsSigned c i0 y1 y2 → (P : ℕ → Expression → Type 0) → P y1 y2 → P x1 x2
  same_signed {c} (a.signed {n = n_a} {k = k_a} {m = m_a} {a = a_a} {all = all_a} h1 h2 h3) (a.signed {k = k_b} {m = m_b} {a = a_b} {all = all_b} g1 g2 g3) P q =
      let g3b = same_signed h2 g2 (λ (m_x : ℕ) (a_x : Expression). IsWithSign c (n_a + 1) a_x all_b) g3 in
      let qb = same_signed h2 g2 (λ (m_x : ℕ) (a_x : Expression). P m_x all_b) q in
      let qc = same_with_sign h3 g3b (λ (all_x : Expression). P m_a all_x) qb in
      qc
  same_signed (a.signed h1 _ _) (a.unsigned g1 _) P q = absurd (differ h1 g1 refl)
  same_signed {c} (a.unsigned {n = n_a} {k = k_a} {m = m_a} {a = a_a} h1 h2) (a.unsigned {k = k_b} {m = m_b} {a = a_b} g1 g2) P q =
      let qb = same_primary h2 g2 (λ (m_x : ℕ) (a_x : Expression). P m_x a_x) q in
      qb
  same_signed (a.unsigned h1 _) (a.signed g1 _ _) P q = absurd (differ h1 g1 refl)

  pub same_primary : {c : Source} {i0 : ℕ} {x1 y1 : ℕ} {x2 y2 : Expression} → IsPrimary c i0 x1 x2 → IsPrimary c i0 y1 y2 → (P : ℕ → Expression → Type 0) → P y1 y2 → P x1 x2
  same_primary {c} (a.constant {n = n_a} {v = v_a} {at = at_a} h1) (a.constant {v = v_b} {at = at_b} g1) P q =
      let qa = same_constant h1 g1 (λ (v_x : Value) (at_x : Place). P (n_a + 1) (s.Literal v_x at_x)) q in
      qa
  same_primary (a.constant h1) (a.name g1 _) P q = absurd (not_constant h1 g1 refl)
  same_primary (a.constant h1) (a.qualified g1 _) P q = absurd (not_constant h1 g1 refl)
  same_primary (a.constant h1) (a.grouped g1 _ _) P q = absurd (not_constant h1 g1 refl)
  same_primary (a.constant h1) (a.retry g1 _) P q = absurd (not_constant h1 g1 refl)
  same_primary (a.constant h1) (a.return_value g1 _) P q = absurd (not_constant h1 g1 refl)
  same_primary (a.constant h1) (a.error_status g1 _) P q = absurd (not_constant h1 g1 refl)
  same_primary (a.constant h1) (a.available g1 _ _ _) P q = absurd (not_constant h1 g1 refl)
  same_primary (a.constant h1) (a.locked g1 _ _ _) P q = absurd (not_constant h1 g1 refl)
  same_primary (a.constant h1) (a.string g1 _ _ _) P q = absurd (not_constant h1 g1 refl)
  same_primary (a.constant h1) (a.call g1 _ _ _ _) P q = absurd (not_constant h1 g1 refl)
  same_primary {c} (a.name {n = n_a} {k = k_a} {word = word_a} h1 h2) (a.name {k = k_b} {word = word_b} g1 g2) P q =
      let g2a = same_use h1 g1 (λ (k_x : ℕ). IsName c k_x word_b) g2 in
      let qb = same_name h2 g2a (λ (word_x : Word). P (n_a + 1) (s.Name (Plain word_x))) q in
      qb
  same_primary (a.name h1 _) (a.constant g1) P q = absurd (not_constant g1 h1 refl)
  same_primary (a.name h1 _) (a.qualified g1 _) P q = absurd (differ h1 g1 refl)
  same_primary (a.name h1 _) (a.grouped g1 _ _) P q = absurd (differ h1 g1 refl)
  same_primary (a.name h1 _) (a.retry g1 _) P q = absurd (differ h1 g1 refl)
  same_primary (a.name h1 _) (a.return_value g1 _) P q = absurd (differ h1 g1 refl)
  same_primary (a.name h1 _) (a.error_status g1 _) P q = absurd (differ h1 g1 refl)
  same_primary (a.name h1 _) (a.available g1 _ _ _) P q = absurd (differ h1 g1 refl)
  same_primary (a.name h1 _) (a.locked g1 _ _ _) P q = absurd (differ h1 g1 refl)
  same_primary (a.name h1 _) (a.string g1 _ _ _) P q = absurd (differ h1 g1 refl)
  same_primary (a.name h1 _) (a.call g1 _ _ _ _) P q = absurd (differ h1 g1 refl)
  same_primary {c} (a.qualified {n = n_a} {k = k_a} {name = name_a} h1 h2) (a.qualified {k = k_b} {name = name_b} g1 g2) P q =
      let g2a = same_use h1 g1 (λ (k_x : ℕ). IsQualified c k_x name_b) g2 in
      let qb = same_qualified h2 g2a (λ (name_x : Named). P (n_a + 1) (s.Name name_x)) q in
      qb
  same_primary (a.qualified h1 _) (a.constant g1) P q = absurd (not_constant g1 h1 refl)
  same_primary (a.qualified h1 _) (a.name g1 _) P q = absurd (differ h1 g1 refl)
  same_primary (a.qualified h1 _) (a.grouped g1 _ _) P q = absurd (differ h1 g1 refl)
  same_primary (a.qualified h1 _) (a.retry g1 _) P q = absurd (differ h1 g1 refl)
  same_primary (a.qualified h1 _) (a.return_value g1 _) P q = absurd (differ h1 g1 refl)
  same_primary (a.qualified h1 _) (a.error_status g1 _) P q = absurd (differ h1 g1 refl)
  same_primary (a.qualified h1 _) (a.available g1 _ _ _) P q = absurd (differ h1 g1 refl)
  same_primary (a.qualified h1 _) (a.locked g1 _ _ _) P q = absurd (differ h1 g1 refl)
  same_primary (a.qualified h1 _) (a.string g1 _ _ _) P q = absurd (differ h1 g1 refl)
  same_primary (a.qualified h1 _) (a.call g1 _ _ _ _) P q = absurd (differ h1 g1 refl)
  same_primary {c} (a.grouped {n = n_a} {k = k_a} {m = m_a} {at = at_a} {a = a_a} h1 h2 h3) (a.grouped {k = k_b} {m = m_b} {at = at_b} {a = a_b} g1 g2 g3) P q =
      let g2a = same_use h1 g1 (λ (k_x : ℕ). IsAt c k_x at_b) g2 in
      let qb = same_at h2 g2a (λ (at_x : Place). P m_b (s.Grouped at_x a_b)) q in
      let qc = same_expression h3 g3 (λ (m_x : ℕ) (a_x : Expression). P m_x (s.Grouped at_a a_x)) qb in
      qc
  same_primary (a.grouped h1 _ _) (a.constant g1) P q = absurd (not_constant g1 h1 refl)
  same_primary (a.grouped h1 _ _) (a.name g1 _) P q = absurd (differ h1 g1 refl)
  same_primary (a.grouped h1 _ _) (a.qualified g1 _) P q = absurd (differ h1 g1 refl)
  same_primary (a.grouped h1 _ _) (a.retry g1 _) P q = absurd (differ h1 g1 refl)
  same_primary (a.grouped h1 _ _) (a.return_value g1 _) P q = absurd (differ h1 g1 refl)
  same_primary (a.grouped h1 _ _) (a.error_status g1 _) P q = absurd (differ h1 g1 refl)
  same_primary (a.grouped h1 _ _) (a.available g1 _ _ _) P q = absurd (differ h1 g1 refl)
  same_primary (a.grouped h1 _ _) (a.locked g1 _ _ _) P q = absurd (differ h1 g1 refl)
  same_primary (a.grouped h1 _ _) (a.string g1 _ _ _) P q = absurd (differ h1 g1 refl)
  same_primary (a.grouped h1 _ _) (a.call g1 _ _ _ _) P q = absurd (differ h1 g1 refl)
  same_primary {c} (a.retry {n = n_a} {k = k_a} {at = at_a} h1 h2) (a.retry {k = k_b} {at = at_b} g1 g2) P q =
      let g2a = same_use h1 g1 (λ (k_x : ℕ). IsAt c k_x at_b) g2 in
      let qb = same_at h2 g2a (λ (at_x : Place). P (n_a + 1) (s.Retry at_x)) q in
      qb
  same_primary (a.retry h1 _) (a.constant g1) P q = absurd (not_constant g1 h1 refl)
  same_primary (a.retry h1 _) (a.name g1 _) P q = absurd (differ h1 g1 refl)
  same_primary (a.retry h1 _) (a.qualified g1 _) P q = absurd (differ h1 g1 refl)
  same_primary (a.retry h1 _) (a.grouped g1 _ _) P q = absurd (differ h1 g1 refl)
  same_primary (a.retry h1 _) (a.return_value g1 _) P q = absurd (differ h1 g1 refl)
  same_primary (a.retry h1 _) (a.error_status g1 _) P q = absurd (differ h1 g1 refl)
  same_primary (a.retry h1 _) (a.available g1 _ _ _) P q = absurd (differ h1 g1 refl)
  same_primary (a.retry h1 _) (a.locked g1 _ _ _) P q = absurd (differ h1 g1 refl)
  same_primary (a.retry h1 _) (a.string g1 _ _ _) P q = absurd (differ h1 g1 refl)
  same_primary (a.retry h1 _) (a.call g1 _ _ _ _) P q = absurd (differ h1 g1 refl)
  same_primary {c} (a.return_value {n = n_a} {k = k_a} {at = at_a} h1 h2) (a.return_value {k = k_b} {at = at_b} g1 g2) P q =
      let g2a = same_use h1 g1 (λ (k_x : ℕ). IsAt c k_x at_b) g2 in
      let qb = same_at h2 g2a (λ (at_x : Place). P (n_a + 1) (s.ReturnValue at_x)) q in
      qb
  same_primary (a.return_value h1 _) (a.constant g1) P q = absurd (not_constant g1 h1 refl)
  same_primary (a.return_value h1 _) (a.name g1 _) P q = absurd (differ h1 g1 refl)
  same_primary (a.return_value h1 _) (a.qualified g1 _) P q = absurd (differ h1 g1 refl)
  same_primary (a.return_value h1 _) (a.grouped g1 _ _) P q = absurd (differ h1 g1 refl)
  same_primary (a.return_value h1 _) (a.retry g1 _) P q = absurd (differ h1 g1 refl)
  same_primary (a.return_value h1 _) (a.error_status g1 _) P q = absurd (differ h1 g1 refl)
  same_primary (a.return_value h1 _) (a.available g1 _ _ _) P q = absurd (differ h1 g1 refl)
  same_primary (a.return_value h1 _) (a.locked g1 _ _ _) P q = absurd (differ h1 g1 refl)
  same_primary (a.return_value h1 _) (a.string g1 _ _ _) P q = absurd (differ h1 g1 refl)
  same_primary (a.return_value h1 _) (a.call g1 _ _ _ _) P q = absurd (differ h1 g1 refl)
  same_primary {c} (a.error_status {n = n_a} {k = k_a} {at = at_a} h1 h2) (a.error_status {k = k_b} {at = at_b} g1 g2) P q =
      let g2a = same_use h1 g1 (λ (k_x : ℕ). IsAt c k_x at_b) g2 in
      let qb = same_at h2 g2a (λ (at_x : Place). P (n_a + 1) (s.ErrorStatus at_x)) q in
      qb
  same_primary (a.error_status h1 _) (a.constant g1) P q = absurd (not_constant g1 h1 refl)
  same_primary (a.error_status h1 _) (a.name g1 _) P q = absurd (differ h1 g1 refl)
  same_primary (a.error_status h1 _) (a.qualified g1 _) P q = absurd (differ h1 g1 refl)
  same_primary (a.error_status h1 _) (a.grouped g1 _ _) P q = absurd (differ h1 g1 refl)
  same_primary (a.error_status h1 _) (a.retry g1 _) P q = absurd (differ h1 g1 refl)
  same_primary (a.error_status h1 _) (a.return_value g1 _) P q = absurd (differ h1 g1 refl)
  same_primary (a.error_status h1 _) (a.available g1 _ _ _) P q = absurd (differ h1 g1 refl)
  same_primary (a.error_status h1 _) (a.locked g1 _ _ _) P q = absurd (differ h1 g1 refl)
  same_primary (a.error_status h1 _) (a.string g1 _ _ _) P q = absurd (differ h1 g1 refl)
  same_primary (a.error_status h1 _) (a.call g1 _ _ _ _) P q = absurd (differ h1 g1 refl)
  same_primary {c} (a.available {n = n_a} {k = k_a} {j = j_a} {at = at_a} {word = word_a} h1 h2 h3 h4) (a.available {k = k_b} {j = j_b} {at = at_b} {word = word_b} g1 g2 g3 g4) P q =
      let g2a = same_use h1 g1 (λ (k_x : ℕ). IsAt c k_x at_b) g2 in
      let qb = same_at h2 g2a (λ (at_x : Place). P (n_a + 3) (s.Available at_x word_b)) q in
      let qd = same_tested_name h4 g4 (λ (word_x : Word). P (n_a + 3) (s.Available at_a word_x)) qb in
      qd
  same_primary (a.available h1 _ _ _) (a.constant g1) P q = absurd (not_constant g1 h1 refl)
  same_primary (a.available h1 _ _ _) (a.name g1 _) P q = absurd (differ h1 g1 refl)
  same_primary (a.available h1 _ _ _) (a.qualified g1 _) P q = absurd (differ h1 g1 refl)
  same_primary (a.available h1 _ _ _) (a.grouped g1 _ _) P q = absurd (differ h1 g1 refl)
  same_primary (a.available h1 _ _ _) (a.retry g1 _) P q = absurd (differ h1 g1 refl)
  same_primary (a.available h1 _ _ _) (a.return_value g1 _) P q = absurd (differ h1 g1 refl)
  same_primary (a.available h1 _ _ _) (a.error_status g1 _) P q = absurd (differ h1 g1 refl)
  same_primary (a.available _ _ h3 _) (a.locked _ _ g3 _) P q = absurd (differ h3 g3 refl)
  same_primary (a.available h1 _ _ _) (a.string g1 _ _ _) P q = absurd (differ h1 g1 refl)
  same_primary (a.available h1 _ _ _) (a.call g1 _ _ _ _) P q = absurd (differ h1 g1 refl)
  same_primary {c} (a.locked {n = n_a} {k = k_a} {j = j_a} {at = at_a} {word = word_a} h1 h2 h3 h4) (a.locked {k = k_b} {j = j_b} {at = at_b} {word = word_b} g1 g2 g3 g4) P q =
      let g2a = same_use h1 g1 (λ (k_x : ℕ). IsAt c k_x at_b) g2 in
      let qb = same_at h2 g2a (λ (at_x : Place). P (n_a + 3) (s.Locked at_x word_b)) q in
      let qd = same_tested_name h4 g4 (λ (word_x : Word). P (n_a + 3) (s.Locked at_a word_x)) qb in
      qd
  same_primary (a.locked h1 _ _ _) (a.constant g1) P q = absurd (not_constant g1 h1 refl)
  same_primary (a.locked h1 _ _ _) (a.name g1 _) P q = absurd (differ h1 g1 refl)
  same_primary (a.locked h1 _ _ _) (a.qualified g1 _) P q = absurd (differ h1 g1 refl)
  same_primary (a.locked h1 _ _ _) (a.grouped g1 _ _) P q = absurd (differ h1 g1 refl)
  same_primary (a.locked h1 _ _ _) (a.retry g1 _) P q = absurd (differ h1 g1 refl)
  same_primary (a.locked h1 _ _ _) (a.return_value g1 _) P q = absurd (differ h1 g1 refl)
  same_primary (a.locked h1 _ _ _) (a.error_status g1 _) P q = absurd (differ h1 g1 refl)
  same_primary (a.locked _ _ h3 _) (a.available _ _ g3 _) P q = absurd (differ h3 g3 refl)
  same_primary (a.locked h1 _ _ _) (a.string g1 _ _ _) P q = absurd (differ h1 g1 refl)
  same_primary (a.locked h1 _ _ _) (a.call g1 _ _ _ _) P q = absurd (differ h1 g1 refl)
  same_primary {c} (a.string {n = n_a} {k = k_a} {m = m_a} {at = at_a} {a = a_a} {mask = mask_a} h1 h2 h3 h4) (a.string {k = k_b} {m = m_b} {at = at_b} {a = a_b} {mask = mask_b} g1 g2 g3 g4) P q =
      let g2a = same_use h1 g1 (λ (k_x : ℕ). IsAt c k_x at_b) g2 in
      let qb = same_at h2 g2a (λ (at_x : Place). P (m_b + 1) (s.Text at_x a_b mask_b)) q in
      let g4c = same_expression h3 g3 (λ (m_x : ℕ) (a_x : Expression). IsTextThere c p.STRING_FORMAT_COMMA p.STRING_FORMAT_NONE m_x mask_b) g4 in
      let qc = same_expression h3 g3 (λ (m_x : ℕ) (a_x : Expression). P (m_x + 1) (s.Text at_a a_x mask_b)) qb in
      let qd = same_text_there h4 g4c refl (λ (mask_x : Option Word). P (m_a + 1) (s.Text at_a a_a mask_x)) qc in
      qd
  same_primary (a.string h1 _ _ _) (a.constant g1) P q = absurd (not_constant g1 h1 refl)
  same_primary (a.string h1 _ _ _) (a.name g1 _) P q = absurd (differ h1 g1 refl)
  same_primary (a.string h1 _ _ _) (a.qualified g1 _) P q = absurd (differ h1 g1 refl)
  same_primary (a.string h1 _ _ _) (a.grouped g1 _ _) P q = absurd (differ h1 g1 refl)
  same_primary (a.string h1 _ _ _) (a.retry g1 _) P q = absurd (differ h1 g1 refl)
  same_primary (a.string h1 _ _ _) (a.return_value g1 _) P q = absurd (differ h1 g1 refl)
  same_primary (a.string h1 _ _ _) (a.error_status g1 _) P q = absurd (differ h1 g1 refl)
  same_primary (a.string h1 _ _ _) (a.available g1 _ _ _) P q = absurd (differ h1 g1 refl)
  same_primary (a.string h1 _ _ _) (a.locked g1 _ _ _) P q = absurd (differ h1 g1 refl)
  same_primary (a.string h1 _ _ _) (a.call g1 _ _ _ _) P q = absurd (differ h1 g1 refl)
  same_primary {c} (a.call {n = n_a} {k = k_a} {m = m_a} {l = l_a} {at = at_a} {f = f_a} {a = a_a} {more = more_a} h1 h2 h3 h4 h5) (a.call {k = k_b} {m = m_b} {l = l_b} {at = at_b} {f = f_b} {a = a_b} {more = more_b} g1 g2 g3 g4 g5) P q =
      let g2a = same_use h1 g1 (λ (k_x : ℕ). IsAt c k_x at_b) g2 in
      let qb = same_at h2 g2a (λ (at_x : Place). P l_b (s.Call f_b at_x (s.More a_b more_b))) q in
      let qc = same_function h3 g3 (λ (f_x : Function). P l_b (s.Call f_x at_a (s.More a_b more_b))) qb in
      let g5d = same_expression h4 g4 (λ (m_x : ℕ) (a_x : Expression). AreMoreArguments c m_x l_b more_b) g5 in
      let qd = same_expression h4 g4 (λ (m_x : ℕ) (a_x : Expression). P l_b (s.Call f_a at_a (s.More a_x more_b))) qc in
      let qe = same_more_arguments h5 g5d (λ (l_x : ℕ) (more_x : Arguments). P l_x (s.Call f_a at_a (s.More a_a more_x))) qd in
      qe
  same_primary (a.call h1 _ _ _ _) (a.constant g1) P q = absurd (not_constant g1 h1 refl)
  same_primary (a.call h1 _ _ _ _) (a.name g1 _) P q = absurd (differ h1 g1 refl)
  same_primary (a.call h1 _ _ _ _) (a.qualified g1 _) P q = absurd (differ h1 g1 refl)
  same_primary (a.call h1 _ _ _ _) (a.grouped g1 _ _) P q = absurd (differ h1 g1 refl)
  same_primary (a.call h1 _ _ _ _) (a.retry g1 _) P q = absurd (differ h1 g1 refl)
  same_primary (a.call h1 _ _ _ _) (a.return_value g1 _) P q = absurd (differ h1 g1 refl)
  same_primary (a.call h1 _ _ _ _) (a.error_status g1 _) P q = absurd (differ h1 g1 refl)
  same_primary (a.call h1 _ _ _ _) (a.available g1 _ _ _) P q = absurd (differ h1 g1 refl)
  same_primary (a.call h1 _ _ _ _) (a.locked g1 _ _ _) P q = absurd (differ h1 g1 refl)
  same_primary (a.call h1 _ _ _ _) (a.string g1 _ _ _) P q = absurd (differ h1 g1 refl)

  pub same_more_arguments : {c : Source} {i0 : ℕ} {x1 y1 : ℕ} {x2 y2 : Arguments} → AreMoreArguments c i0 x1 x2 → AreMoreArguments c i0 y1 y2 → (P : ℕ → Arguments → Type 0) → P y1 y2 → P x1 x2
  same_more_arguments {c} (a.no_argument {n = n_a} {k = k_a} h1) (a.no_argument {k = k_b} g1) P q =
      q
  same_more_arguments (a.no_argument h1) (a.one_argument g1 _ _) P q = absurd (differ h1 g1 refl)
  same_more_arguments {c} (a.one_argument {n = n_a} {k = k_a} {m = m_a} {l = l_a} {a = a_a} {more = more_a} h1 h2 h3) (a.one_argument {k = k_b} {m = m_b} {l = l_b} {a = a_b} {more = more_b} g1 g2 g3) P q =
      let g3b = same_expression h2 g2 (λ (m_x : ℕ) (a_x : Expression). AreMoreArguments c m_x l_b more_b) g3 in
      let qb = same_expression h2 g2 (λ (m_x : ℕ) (a_x : Expression). P l_b (s.More a_x more_b)) q in
      let qc = same_more_arguments h3 g3b (λ (l_x : ℕ) (more_x : Arguments). P l_x (s.More a_a more_x)) qb in
      qc
  same_more_arguments (a.one_argument h1 _ _) (a.no_argument g1) P q = absurd (differ h1 g1 refl)

pub same_expression_at : {c : Source} (n m l : ℕ) (a b : Expression) → IsExpression c n m a → IsExpression c n l b → (P : ℕ → Expression → Type 0) → P l b → P m a
same_expression_at n m l a b h g P q = same_expression h g P q
