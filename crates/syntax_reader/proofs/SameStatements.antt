-- No node denotes two parts of the syntax: statements, items and programs.
use Rattle.std.specs.Prelude.{◌≡◌, ℕ, ◌+◌, List, Option, Some, Bool, false, ◌||◌}
use Rattle.std.proofs.Common.{refl, eqb}
use Rattle.abl_base.specs.declared.place.Place.{Place}
use Rattle.syntax_tree.specs.declared.name.Word.{Word}
use Rattle.parse_tree.specs.declared.production.TheConstants as p
use Rattle.syntax_tree.specs.Syntax as s
use Rattle.syntax_tree.specs.Syntax.{Expression, Head, Definition, Statement, Statements, Item, Program}
use Rattle.syntax_reader.specs.Nodes.{Source, Uses, IsAt, IsName}
use Rattle.syntax_reader.specs.Statements.{IsPlain, IsStatement, IsBlock, IsElse, AreStatements, IsItem, IsProgram}
use Rattle.syntax_reader.specs.Statements as a
use Rattle.syntax_reader.proofs.Same.{same_use, same_at, same_name, same_row, differ, not_here}
use Rattle.syntax_reader.proofs.SameExpressions.{same_expression}
use Rattle.syntax_reader.proofs.SameDefinitions.{same_definition}
use Rattle.syntax_reader.proofs.SameHeaders.{same_head}
use Rattle.syntax_reader.proofs.SamePlain.{same_assignment, same_record, same_flow}
use Rattle.syntax_reader.proofs.SameStreaming.{same_streaming}

pub same_plain : {c : Source} {i0 : ℕ} {x1 y1 : ℕ} {x2 y2 : Statement} → IsPlain c i0 x1 x2 → IsPlain c i0 y1 y2 → (P : ℕ → Statement → Type 0) → P y1 y2 → P x1 x2
same_plain {c} (a.assignment {n = n_a} {k = k_a} {m = m_a} {t = t_a} h1 h2) (a.assignment {k = k_b} {m = m_b} {t = t_b} g1 g2) P q =
    let qb = same_assignment h2 g2 (λ (m_x : ℕ) (t_x : Statement). P m_x t_x) q in
    qb
same_plain (a.assignment h1 _) (a.record_statement g1 _) P q = absurd (differ h1 g1 refl)
same_plain (a.assignment h1 _) (a.flow g1 _) P q = absurd (differ h1 g1 refl)
same_plain (a.assignment h1 _) (a.streaming g1 _) P q = absurd (differ h1 g1 refl)
same_plain (a.assignment h1 _) (a.define g1 _) P q = absurd (differ h1 g1 refl)
same_plain {c} (a.record_statement {n = n_a} {k = k_a} {m = m_a} {t = t_a} h1 h2) (a.record_statement {k = k_b} {m = m_b} {t = t_b} g1 g2) P q =
    let qb = same_record h2 g2 (λ (m_x : ℕ) (t_x : Statement). P m_x t_x) q in
    qb
same_plain (a.record_statement h1 _) (a.assignment g1 _) P q = absurd (differ h1 g1 refl)
same_plain (a.record_statement h1 _) (a.flow g1 _) P q = absurd (differ h1 g1 refl)
same_plain (a.record_statement h1 _) (a.streaming g1 _) P q = absurd (differ h1 g1 refl)
same_plain (a.record_statement h1 _) (a.define g1 _) P q = absurd (differ h1 g1 refl)
same_plain {c} (a.flow {n = n_a} {k = k_a} {m = m_a} {t = t_a} h1 h2) (a.flow {k = k_b} {m = m_b} {t = t_b} g1 g2) P q =
    let qb = same_flow h2 g2 (λ (m_x : ℕ) (t_x : Statement). P m_x t_x) q in
    qb
same_plain (a.flow h1 _) (a.assignment g1 _) P q = absurd (differ h1 g1 refl)
same_plain (a.flow h1 _) (a.record_statement g1 _) P q = absurd (differ h1 g1 refl)
same_plain (a.flow h1 _) (a.streaming g1 _) P q = absurd (differ h1 g1 refl)
same_plain (a.flow h1 _) (a.define g1 _) P q = absurd (differ h1 g1 refl)
same_plain {c} (a.streaming {n = n_a} {k = k_a} {m = m_a} {t = t_a} h1 h2) (a.streaming {k = k_b} {m = m_b} {t = t_b} g1 g2) P q =
    let qb = same_streaming h2 g2 (λ (m_x : ℕ) (t_x : Statement). P m_x t_x) q in
    qb
same_plain (a.streaming h1 _) (a.assignment g1 _) P q = absurd (differ h1 g1 refl)
same_plain (a.streaming h1 _) (a.record_statement g1 _) P q = absurd (differ h1 g1 refl)
same_plain (a.streaming h1 _) (a.flow g1 _) P q = absurd (differ h1 g1 refl)
same_plain (a.streaming h1 _) (a.define g1 _) P q = absurd (differ h1 g1 refl)
same_plain {c} (a.define {n = n_a} {k = k_a} {m = m_a} {d = d_a} h1 h2) (a.define {k = k_b} {m = m_b} {d = d_b} g1 g2) P q =
    let qb = same_definition h2 g2 (λ (m_x : ℕ) (d_x : Definition). P m_x (s.Define d_x)) q in
    qb
same_plain (a.define h1 _) (a.assignment g1 _) P q = absurd (differ h1 g1 refl)
same_plain (a.define h1 _) (a.record_statement g1 _) P q = absurd (differ h1 g1 refl)
same_plain (a.define h1 _) (a.flow g1 _) P q = absurd (differ h1 g1 refl)
same_plain (a.define h1 _) (a.streaming g1 _) P q = absurd (differ h1 g1 refl)

-- whether a production is one of these
abbrev pub uses_plain : ℕ → Bool
uses_plain q = eqb q p.STATEMENT_ASSIGNMENT || eqb q p.STATEMENT_RECORD || eqb q p.STATEMENT_FLOW || eqb q p.STATEMENT_STREAMING || eqb q p.STATEMENT_DEFINE

pub not_plain : {c : Source} {n q k : ℕ} {m : ℕ} {x : Statement} → IsPlain c n m x → Uses c n q k → uses_plain q ≡ false → ⊥
not_plain (a.assignment h1 _) u e = not_here uses_plain h1 u refl e
not_plain (a.record_statement h1 _) u e = not_here uses_plain h1 u refl e
not_plain (a.flow h1 _) u e = not_here uses_plain h1 u refl e
not_plain (a.streaming h1 _) u e = not_here uses_plain h1 u refl e
not_plain (a.define h1 _) u e = not_here uses_plain h1 u refl e

mutual
  pub same_statement : {c : Source} {i0 : ℕ} {x1 y1 : ℕ} {x2 y2 : Statement} → IsStatement c i0 x1 x2 → IsStatement c i0 y1 y2 → (P : ℕ → Statement → Type 0) → P y1 y2 → P x1 x2
  same_statement {c} (a.plain {n = n_a} {m = m_a} {t = t_a} h1) (a.plain {m = m_b} {t = t_b} g1) P q =
      let qa = same_plain h1 g1 (λ (m_x : ℕ) (t_x : Statement). P m_x t_x) q in
      qa
  same_statement (a.plain h1) (a.labelled g1 _ _) P q = absurd (not_plain h1 g1 refl)
  same_statement (a.plain h1) (a.block g1 _) P q = absurd (not_plain h1 g1 refl)
  same_statement (a.plain h1) (a.choice g1 _ _ _) P q = absurd (not_plain h1 g1 refl)
  same_statement {c} (a.labelled {n = n_a} {k = k_a} {m = m_a} {label = label_a} {t = t_a} h1 h2 h3) (a.labelled {k = k_b} {m = m_b} {label = label_b} {t = t_b} g1 g2 g3) P q =
      let g2a = same_use h1 g1 (λ (k_x : ℕ). IsName c k_x label_b) g2 in
      let g3b = same_name h2 g2a (λ (label_x : Word). IsBlock c (Some label_x) (n_a + 1) m_b t_b) g3 in
      let qc = same_block h3 g3b (λ (m_x : ℕ) (t_x : Statement). P m_x t_x) q in
      qc
  same_statement (a.labelled h1 _ _) (a.plain g1) P q = absurd (not_plain g1 h1 refl)
  same_statement (a.labelled h1 _ _) (a.block g1 _) P q = absurd (differ h1 g1 refl)
  same_statement (a.labelled h1 _ _) (a.choice g1 _ _ _) P q = absurd (differ h1 g1 refl)
  same_statement {c} (a.block {n = n_a} {k = k_a} {m = m_a} {t = t_a} h1 h2) (a.block {k = k_b} {m = m_b} {t = t_b} g1 g2) P q =
      let qb = same_block h2 g2 (λ (m_x : ℕ) (t_x : Statement). P m_x t_x) q in
      qb
  same_statement (a.block h1 _) (a.plain g1) P q = absurd (not_plain g1 h1 refl)
  same_statement (a.block h1 _) (a.labelled g1 _ _) P q = absurd (differ h1 g1 refl)
  same_statement (a.block h1 _) (a.choice g1 _ _ _) P q = absurd (differ h1 g1 refl)
  same_statement {c} (a.choice {n = n_a} {k = k_a} {m = m_a} {l = l_a} {end = end_a} {test = test_a} {then_it = then_it_a} {else_it = else_it_a} h1 h2 h3 h4) (a.choice {k = k_b} {m = m_b} {l = l_b} {end = end_b} {test = test_b} {then_it = then_it_b} {else_it = else_it_b} g1 g2 g3 g4) P q =
      let g3b = same_expression h2 g2 (λ (m_x : ℕ) (test_x : Expression). IsStatement c m_x l_b then_it_b) g3 in
      let qb = same_expression h2 g2 (λ (m_x : ℕ) (test_x : Expression). P end_b (s.Choose test_x then_it_b else_it_b)) q in
      let g4c = same_statement h3 g3b (λ (l_x : ℕ) (then_it_x : Statement). IsElse c l_x end_b else_it_b) g4 in
      let qc = same_statement h3 g3b (λ (l_x : ℕ) (then_it_x : Statement). P end_b (s.Choose test_a then_it_x else_it_b)) qb in
      let qd = same_else h4 g4c (λ (end_x : ℕ) (else_it_x : Statements). P end_x (s.Choose test_a then_it_a else_it_x)) qc in
      qd
  same_statement (a.choice h1 _ _ _) (a.plain g1) P q = absurd (not_plain g1 h1 refl)
  same_statement (a.choice h1 _ _ _) (a.labelled g1 _ _) P q = absurd (differ h1 g1 refl)
  same_statement (a.choice h1 _ _ _) (a.block g1 _) P q = absurd (differ h1 g1 refl)

  pub same_block : {c : Source} {i0 : Option Word} {i1 : ℕ} {x2 y2 : ℕ} {x3 y3 : Statement} → IsBlock c i0 i1 x2 x3 → IsBlock c i0 i1 y2 y3 → (P : ℕ → Statement → Type 0) → P y2 y3 → P x2 x3
  same_block {c} (a.body {n = n_a} {m = m_a} {l = l_a} {label = label_a} {head = head_a} {inner = inner_a} h1 h2) (a.body {m = m_b} {l = l_b} {head = head_b} {inner = inner_b} g1 g2) P q =
      let g2a = same_head h1 g1 (λ (m_x : ℕ) (head_x : Head). AreStatements c m_x l_b inner_b) g2 in
      let qa = same_head h1 g1 (λ (m_x : ℕ) (head_x : Head). P l_b (s.Block head_x inner_b)) q in
      let qb = same_statements h2 g2a (λ (l_x : ℕ) (inner_x : Statements). P l_x (s.Block head_a inner_x)) qa in
      qb

  pub same_else : {c : Source} {i0 : ℕ} {x1 y1 : ℕ} {x2 y2 : Statements} → IsElse c i0 x1 x2 → IsElse c i0 y1 y2 → (P : ℕ → Statements → Type 0) → P y1 y2 → P x1 x2
  same_else {c} (a.else_branch {n = n_a} {k = k_a} {m = m_a} {t = t_a} h1 h2) (a.else_branch {k = k_b} {m = m_b} {t = t_b} g1 g2) P q =
      let qb = same_statement h2 g2 (λ (m_x : ℕ) (t_x : Statement). P m_x (s.Then t_x s.Nothing)) q in
      qb
  same_else (a.else_branch h1 _) (a.no_else g1) P q = absurd (differ h1 g1 refl)
  same_else {c} (a.no_else {n = n_a} {k = k_a} h1) (a.no_else {k = k_b} g1) P q =
      q
  same_else (a.no_else h1) (a.else_branch g1 _) P q = absurd (differ h1 g1 refl)

  pub same_statements : {c : Source} {i0 : ℕ} {x1 y1 : ℕ} {x2 y2 : Statements} → AreStatements c i0 x1 x2 → AreStatements c i0 y1 y2 → (P : ℕ → Statements → Type 0) → P y1 y2 → P x1 x2
  same_statements {c} (a.all_statements {n = n_a} {k = k_a} h1) (a.all_statements {k = k_b} g1) P q =
      q
  same_statements (a.all_statements h1) (a.one_statement g1 _ _) P q = absurd (differ h1 g1 refl)
  same_statements {c} (a.one_statement {n = n_a} {k = k_a} {m = m_a} {l = l_a} {t = t_a} {rest = rest_a} h1 h2 h3) (a.one_statement {k = k_b} {m = m_b} {l = l_b} {t = t_b} {rest = rest_b} g1 g2 g3) P q =
      let g3b = same_statement h2 g2 (λ (m_x : ℕ) (t_x : Statement). AreStatements c m_x l_b rest_b) g3 in
      let qb = same_statement h2 g2 (λ (m_x : ℕ) (t_x : Statement). P l_b (s.Then t_x rest_b)) q in
      let qc = same_statements h3 g3b (λ (l_x : ℕ) (rest_x : Statements). P l_x (s.Then t_a rest_x)) qb in
      qc
  same_statements (a.one_statement h1 _ _) (a.all_statements g1) P q = absurd (differ h1 g1 refl)

pub same_item : {c : Source} {i0 : ℕ} {x1 y1 : ℕ} {x2 y2 : Item} → IsItem c i0 x1 x2 → IsItem c i0 y1 y2 → (P : ℕ → Item → Type 0) → P y1 y2 → P x1 x2
same_item {c} (a.procedure {n = n_a} {k = k_a} {m = m_a} {at = at_a} {name = name_a} {inner = inner_a} h1 h2 h3 h4) (a.procedure {k = k_b} {m = m_b} {at = at_b} {name = name_b} {inner = inner_b} g1 g2 g3 g4) P q =
    let g2a = same_use h1 g1 (λ (k_x : ℕ). IsAt c k_x at_b) g2 in
    let g3a = same_use h1 g1 (λ (k_x : ℕ). IsName c (k_x + 1) name_b) g3 in
    let qb = same_at h2 g2a (λ (at_x : Place). P (m_b + 1) (s.Procedure at_x name_b inner_b)) q in
    let qc = same_name h3 g3a (λ (name_x : Word). P (m_b + 1) (s.Procedure at_a name_x inner_b)) qb in
    let qd = same_statements h4 g4 (λ (m_x : ℕ) (inner_x : Statements). P (m_x + 1) (s.Procedure at_a name_a inner_x)) qc in
    qd
same_item (a.procedure h1 _ _ _) (a.alone g1 _) P q = absurd (differ h1 g1 refl)
same_item {c} (a.alone {n = n_a} {k = k_a} {m = m_a} {t = t_a} h1 h2) (a.alone {k = k_b} {m = m_b} {t = t_b} g1 g2) P q =
    let qb = same_statement h2 g2 (λ (m_x : ℕ) (t_x : Statement). P m_x (s.Alone t_x)) q in
    qb
same_item (a.alone h1 _) (a.procedure g1 _ _ _) P q = absurd (differ h1 g1 refl)

pub same_item_at : {c : Source} (n m l : ℕ) (a b : Item) → IsItem c n m a → IsItem c n l b → (P : ℕ → Item → Type 0) → P l b → P m a
same_item_at n m l a b h g P q = same_item h g P q

pub same_program : {c : Source} {x0 y0 : Program} → IsProgram c x0 → IsProgram c y0 → (P : Program → Type 0) → P y0 → P x0
same_program {c} (a.program {k = k_a} {end = end_a} {items = items_a} h1 h2) (a.program {k = k_b} {end = end_b} {items = items_b} g1 g2) P q =
    let qb = same_row same_item_at h2 g2 refl (λ (end_x : ℕ) (items_x : List Item). P items_x) q in
    qb
