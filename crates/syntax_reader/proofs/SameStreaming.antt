-- No node denotes two parts of the syntax: statements of streams.
use Rattle.std.specs.Prelude.{◌≡◌, ℕ, ◌+◌, List, ◌∷◌, Option, Some, None, Bool, false, ◌||◌}
use Rattle.std.proofs.Common.{refl, eqb}
use Rattle.abl_base.specs.declared.place.Place.{Place}
use Rattle.syntax_tree.specs.declared.name.Named.{Named}
use Rattle.syntax_tree.specs.declared.name.Word.{Word}
use Rattle.parse_tree.specs.declared.production.TheConstants as p
use Rattle.syntax_tree.specs.Syntax as s
use Rattle.syntax_tree.specs.Syntax.{Expression, Count, PutItem, Statement}
use Rattle.syntax_reader.specs.Nodes.{Source, IsTextThere, Uses, IsAt, IsText, IsWhole}
use Rattle.syntax_reader.specs.Plain.{IsQuiet}
use Rattle.syntax_reader.specs.Streaming.{IsStream, IsImportTarget, AreTargets, IsCount, IsPutItem, IsStreaming}
use Rattle.syntax_reader.specs.Streaming as a
use Rattle.syntax_reader.proofs.Same.{same_use, same_at, same_text, same_whole, same_word_there, same_name_there, same_text_there, same_row, differ, not_here}
use Rattle.syntax_reader.proofs.SameExpressions.{same_expression, same_expression_at}
use Rattle.syntax_reader.proofs.SamePlain.{same_target}

pub same_stream : {c : Source} {i0 : ℕ} {x1 y1 : Option Word} → IsStream c i0 x1 → IsStream c i0 y1 → (P : Option Word → Type 0) → P y1 → P x1
same_stream {c} (a.choice {n = n_a} {k = k_a} {stream = stream_a} h1 h2) (a.choice {k = k_b} {stream = stream_b} g1 g2) P q =
    let qb = same_name_there h2 g2 refl (λ (stream_x : Option Word). P stream_x) q in
    qb

pub same_import_target : {c : Source} {i0 : ℕ} {x1 y1 : ℕ} {x2 y2 : Option Named} → IsImportTarget c i0 x1 x2 → IsImportTarget c i0 y1 y2 → (P : ℕ → Option Named → Type 0) → P y1 y2 → P x1 x2
same_import_target {c} (a.target {n = n_a} {k = k_a} {target = target_a} h1 h2) (a.target {k = k_b} {target = target_b} g1 g2) P q =
    let qb = same_target h2 g2 (λ (target_x : Named). P (n_a + 2) (Some target_x)) q in
    qb
same_import_target (a.target h1 _) (a.skipped g1) P q = absurd (differ h1 g1 refl)
same_import_target {c} (a.skipped {n = n_a} {k = k_a} h1) (a.skipped {k = k_b} g1) P q =
    q
same_import_target (a.skipped h1) (a.target g1 _) P q = absurd (differ h1 g1 refl)

-- whether a production is one of these
abbrev pub uses_import_target : ℕ → Bool
uses_import_target q = eqb q p.IMPORT_TARGETS_TARGET || eqb q p.IMPORT_TARGETS_CARET

pub not_import_target : {c : Source} {n q k : ℕ} {m : ℕ} {x : Option Named} → IsImportTarget c n m x → Uses c n q k → uses_import_target q ≡ false → ⊥
not_import_target (a.target h1 _) u e = not_here uses_import_target h1 u refl e
not_import_target (a.skipped h1) u e = not_here uses_import_target h1 u refl e

pub same_targets : {c : Source} {i0 : ℕ} {x1 y1 : ℕ} {x2 y2 : List (Option Named)} → AreTargets c i0 x1 x2 → AreTargets c i0 y1 y2 → (P : ℕ → List (Option Named) → Type 0) → P y1 y2 → P x1 x2
same_targets {c} (a.all_targets {n = n_a} {k = k_a} h1) (a.all_targets {k = k_b} g1) P q =
    q
same_targets (a.all_targets h1) (a.one_target g1 _) P q = absurd (not_import_target g1 h1 refl)
same_targets {c} (a.one_target {n = n_a} {m = m_a} {l = l_a} {target = target_a} {targets = targets_a} h1 h2) (a.one_target {m = m_b} {l = l_b} {target = target_b} {targets = targets_b} g1 g2) P q =
    let g2a = same_import_target h1 g1 (λ (m_x : ℕ) (target_x : Option Named). AreTargets c m_x l_b targets_b) g2 in
    let qa = same_import_target h1 g1 (λ (m_x : ℕ) (target_x : Option Named). P l_b (target_x ∷ targets_b)) q in
    let qb = same_targets h2 g2a (λ (l_x : ℕ) (targets_x : List (Option Named)). P l_x (target_a ∷ targets_x)) qa in
    qb
same_targets (a.one_target h1 _) (a.all_targets g1) P q = absurd (not_import_target h1 g1 refl)

pub same_count : {c : Source} {i0 : ℕ} {x1 y1 : Option Count} → IsCount c i0 x1 → IsCount c i0 y1 → (P : Option Count → Type 0) → P y1 → P x1
same_count {c} (a.count {n = n_a} {k = k_a} {x = x_a} {at = at_a} h1 h2 h3) (a.count {k = k_b} {x = x_b} {at = at_b} g1 g2 g3) P q =
    let g2a = same_use h1 g1 (λ (k_x : ℕ). IsWhole c (k_x + 1) x_b) g2 in
    let g3a = same_use h1 g1 (λ (k_x : ℕ). IsAt c (k_x + 1) at_b) g3 in
    let qb = same_whole h2 g2a (λ (x_x : ℕ). P (Some (record { number = x_x; at = at_b }))) q in
    let qc = same_at h3 g3a (λ (at_x : Place). P (Some (record { number = x_a; at = at_x }))) qb in
    qc
same_count (a.count h1 _ _) (a.no_count g1) P q = absurd (differ h1 g1 refl)
same_count {c} (a.no_count {n = n_a} {k = k_a} h1) (a.no_count {k = k_b} g1) P q =
    q
same_count (a.no_count h1) (a.count g1 _ _) P q = absurd (differ h1 g1 refl)

pub same_put_item : {c : Source} {i0 : ℕ} {x1 y1 : ℕ} {x2 y2 : PutItem} → IsPutItem c i0 x1 x2 → IsPutItem c i0 y1 y2 → (P : ℕ → PutItem → Type 0) → P y1 y2 → P x1 x2
same_put_item {c} (a.shows {n = n_a} {k = k_a} {m = m_a} {e = e_a} {mask = mask_a} h1 h2 h3) (a.shows {k = k_b} {m = m_b} {e = e_b} {mask = mask_b} g1 g2 g3) P q =
    let g3b = same_expression h2 g2 (λ (m_x : ℕ) (e_x : Expression). IsTextThere c p.PUT_FORMAT_FORMAT p.PUT_FORMAT_NONE m_x mask_b) g3 in
    let qb = same_expression h2 g2 (λ (m_x : ℕ) (e_x : Expression). P (m_x + 1) (s.Shows e_x mask_b)) q in
    let qc = same_text_there h3 g3b refl (λ (mask_x : Option Word). P (m_a + 1) (s.Shows e_a mask_x)) qb in
    qc
same_put_item (a.shows h1 _ _) (a.skip g1 _ _) P q = absurd (differ h1 g1 refl)
same_put_item (a.shows h1 _ _) (a.space g1 _ _) P q = absurd (differ h1 g1 refl)
same_put_item {c} (a.skip {n = n_a} {k = k_a} {j = j_a} {count = count_a} h1 h2 h3) (a.skip {k = k_b} {j = j_b} {count = count_b} g1 g2 g3) P q =
    let qc = same_count h3 g3 (λ (count_x : Option Count). P (n_a + 3) (s.Skip count_x)) q in
    qc
same_put_item (a.skip h1 _ _) (a.shows g1 _ _) P q = absurd (differ h1 g1 refl)
same_put_item (a.skip _ h2 _) (a.space _ g2 _) P q = absurd (differ h2 g2 refl)
same_put_item {c} (a.space {n = n_a} {k = k_a} {j = j_a} {count = count_a} h1 h2 h3) (a.space {k = k_b} {j = j_b} {count = count_b} g1 g2 g3) P q =
    let qc = same_count h3 g3 (λ (count_x : Option Count). P (n_a + 3) (s.Space count_x)) q in
    qc
same_put_item (a.space h1 _ _) (a.shows g1 _ _) P q = absurd (differ h1 g1 refl)
same_put_item (a.space _ h2 _) (a.skip _ g2 _) P q = absurd (differ h2 g2 refl)

pub same_put_item_at : {c : Source} (n m l : ℕ) (a b : PutItem) → IsPutItem c n m a → IsPutItem c n l b → (P : ℕ → PutItem → Type 0) → P l b → P m a
same_put_item_at n m l a b h g P q = same_put_item h g P q

pub same_streaming : {c : Source} {i0 : ℕ} {x1 y1 : ℕ} {x2 y2 : Statement} → IsStreaming c i0 x1 x2 → IsStreaming c i0 y1 y2 → (P : ℕ → Statement → Type 0) → P y1 y2 → P x1 x2
same_streaming {c} (a.import {n = n_a} {k = k_a} {m = m_a} {stream = stream_a} {targets = targets_a} {quiet = quiet_a} h1 h2 h3 h4) (a.import {k = k_b} {m = m_b} {stream = stream_b} {targets = targets_b} {quiet = quiet_b} g1 g2 g3 g4) P q =
    let qb = same_stream h2 g2 (λ (stream_x : Option Word). P (m_b + 1) (s.Import stream_x targets_b quiet_b)) q in
    let g4c = same_targets h3 g3 (λ (m_x : ℕ) (targets_x : List (Option Named)). IsQuiet c m_x quiet_b) g4 in
    let qc = same_targets h3 g3 (λ (m_x : ℕ) (targets_x : List (Option Named)). P (m_x + 1) (s.Import stream_a targets_x quiet_b)) qb in
    let qd = same_word_there h4 g4c refl (λ (quiet_x : Bool). P (m_a + 1) (s.Import stream_a targets_a quiet_x)) qc in
    qd
same_streaming (a.import h1 _ _ _) (a.export g1 _ _) P q = absurd (differ h1 g1 refl)
same_streaming (a.import h1 _ _ _) (a.put g1 _ _ _) P q = absurd (differ h1 g1 refl)
same_streaming (a.import h1 _ _ _) (a.message g1 _) P q = absurd (differ h1 g1 refl)
same_streaming (a.import h1 _ _ _) (a.input_from g1 _ _ _) P q = absurd (differ h1 g1 refl)
same_streaming (a.import h1 _ _ _) (a.input_close g1 _ _) P q = absurd (differ h1 g1 refl)
same_streaming (a.import h1 _ _ _) (a.output_to g1 _ _ _ _) P q = absurd (differ h1 g1 refl)
same_streaming (a.import h1 _ _ _) (a.output_close g1 _ _) P q = absurd (differ h1 g1 refl)
same_streaming {c} (a.export {n = n_a} {k = k_a} {m = m_a} {stream = stream_a} {values = values_a} h1 h2 h3) (a.export {k = k_b} {m = m_b} {stream = stream_b} {values = values_b} g1 g2 g3) P q =
    let qb = same_stream h2 g2 (λ (stream_x : Option Word). P m_b (s.Export stream_x values_b)) q in
    let qc = same_row same_expression_at h3 g3 refl (λ (m_x : ℕ) (values_x : List Expression). P m_x (s.Export stream_a values_x)) qb in
    qc
same_streaming (a.export h1 _ _) (a.import g1 _ _ _) P q = absurd (differ h1 g1 refl)
same_streaming (a.export h1 _ _) (a.put g1 _ _ _) P q = absurd (differ h1 g1 refl)
same_streaming (a.export h1 _ _) (a.message g1 _) P q = absurd (differ h1 g1 refl)
same_streaming (a.export h1 _ _) (a.input_from g1 _ _ _) P q = absurd (differ h1 g1 refl)
same_streaming (a.export h1 _ _) (a.input_close g1 _ _) P q = absurd (differ h1 g1 refl)
same_streaming (a.export h1 _ _) (a.output_to g1 _ _ _ _) P q = absurd (differ h1 g1 refl)
same_streaming (a.export h1 _ _) (a.output_close g1 _ _) P q = absurd (differ h1 g1 refl)
same_streaming {c} (a.put {n = n_a} {k = k_a} {m = m_a} {stream = stream_a} {plain = plain_a} {items = items_a} h1 h2 h3 h4) (a.put {k = k_b} {m = m_b} {stream = stream_b} {plain = plain_b} {items = items_b} g1 g2 g3 g4) P q =
    let qb = same_stream h2 g2 (λ (stream_x : Option Word). P m_b (s.Put stream_x plain_b items_b)) q in
    let qc = same_word_there h3 g3 refl (λ (plain_x : Bool). P m_b (s.Put stream_a plain_x items_b)) qb in
    let qd = same_row same_put_item_at h4 g4 refl (λ (m_x : ℕ) (items_x : List PutItem). P m_x (s.Put stream_a plain_a items_x)) qc in
    qd
same_streaming (a.put h1 _ _ _) (a.import g1 _ _ _) P q = absurd (differ h1 g1 refl)
same_streaming (a.put h1 _ _ _) (a.export g1 _ _) P q = absurd (differ h1 g1 refl)
same_streaming (a.put h1 _ _ _) (a.message g1 _) P q = absurd (differ h1 g1 refl)
same_streaming (a.put h1 _ _ _) (a.input_from g1 _ _ _) P q = absurd (differ h1 g1 refl)
same_streaming (a.put h1 _ _ _) (a.input_close g1 _ _) P q = absurd (differ h1 g1 refl)
same_streaming (a.put h1 _ _ _) (a.output_to g1 _ _ _ _) P q = absurd (differ h1 g1 refl)
same_streaming (a.put h1 _ _ _) (a.output_close g1 _ _) P q = absurd (differ h1 g1 refl)
same_streaming {c} (a.message {n = n_a} {k = k_a} {m = m_a} {values = values_a} h1 h2) (a.message {k = k_b} {m = m_b} {values = values_b} g1 g2) P q =
    let qb = same_row same_expression_at h2 g2 refl (λ (m_x : ℕ) (values_x : List Expression). P m_x (s.Message values_x)) q in
    qb
same_streaming (a.message h1 _) (a.import g1 _ _ _) P q = absurd (differ h1 g1 refl)
same_streaming (a.message h1 _) (a.export g1 _ _) P q = absurd (differ h1 g1 refl)
same_streaming (a.message h1 _) (a.put g1 _ _ _) P q = absurd (differ h1 g1 refl)
same_streaming (a.message h1 _) (a.input_from g1 _ _ _) P q = absurd (differ h1 g1 refl)
same_streaming (a.message h1 _) (a.input_close g1 _ _) P q = absurd (differ h1 g1 refl)
same_streaming (a.message h1 _) (a.output_to g1 _ _ _ _) P q = absurd (differ h1 g1 refl)
same_streaming (a.message h1 _) (a.output_close g1 _ _) P q = absurd (differ h1 g1 refl)
same_streaming {c} (a.input_from {n = n_a} {k = k_a} {j = j_a} {stream = stream_a} {file = file_a} h1 h2 h3 h4) (a.input_from {k = k_b} {j = j_b} {stream = stream_b} {file = file_b} g1 g2 g3 g4) P q =
    let qb = same_stream h2 g2 (λ (stream_x : Option Word). P (n_a + 4) (s.InputFrom stream_x (Some file_b))) q in
    let g4c = same_use h3 g3 (λ (j_x : ℕ). IsText c (j_x + 1) file_b) g4 in
    let qd = same_text h4 g4c (λ (file_x : Word). P (n_a + 4) (s.InputFrom stream_a (Some file_x))) qb in
    qd
same_streaming (a.input_from h1 _ _ _) (a.import g1 _ _ _) P q = absurd (differ h1 g1 refl)
same_streaming (a.input_from h1 _ _ _) (a.export g1 _ _) P q = absurd (differ h1 g1 refl)
same_streaming (a.input_from h1 _ _ _) (a.put g1 _ _ _) P q = absurd (differ h1 g1 refl)
same_streaming (a.input_from h1 _ _ _) (a.message g1 _) P q = absurd (differ h1 g1 refl)
same_streaming (a.input_from _ _ h3 _) (a.input_close _ _ g3) P q = absurd (differ h3 g3 refl)
same_streaming (a.input_from h1 _ _ _) (a.output_to g1 _ _ _ _) P q = absurd (differ h1 g1 refl)
same_streaming (a.input_from h1 _ _ _) (a.output_close g1 _ _) P q = absurd (differ h1 g1 refl)
same_streaming {c} (a.input_close {n = n_a} {k = k_a} {j = j_a} {stream = stream_a} h1 h2 h3) (a.input_close {k = k_b} {j = j_b} {stream = stream_b} g1 g2 g3) P q =
    let qb = same_stream h2 g2 (λ (stream_x : Option Word). P (n_a + 4) (s.InputFrom stream_x None)) q in
    qb
same_streaming (a.input_close h1 _ _) (a.import g1 _ _ _) P q = absurd (differ h1 g1 refl)
same_streaming (a.input_close h1 _ _) (a.export g1 _ _) P q = absurd (differ h1 g1 refl)
same_streaming (a.input_close h1 _ _) (a.put g1 _ _ _) P q = absurd (differ h1 g1 refl)
same_streaming (a.input_close h1 _ _) (a.message g1 _) P q = absurd (differ h1 g1 refl)
same_streaming (a.input_close _ _ h3) (a.input_from _ _ g3 _) P q = absurd (differ h3 g3 refl)
same_streaming (a.input_close h1 _ _) (a.output_to g1 _ _ _ _) P q = absurd (differ h1 g1 refl)
same_streaming (a.input_close h1 _ _) (a.output_close g1 _ _) P q = absurd (differ h1 g1 refl)
same_streaming {c} (a.output_to {n = n_a} {k = k_a} {j = j_a} {stream = stream_a} {file = file_a} {append = append_a} h1 h2 h3 h4 h5) (a.output_to {k = k_b} {j = j_b} {stream = stream_b} {file = file_b} {append = append_b} g1 g2 g3 g4 g5) P q =
    let qb = same_stream h2 g2 (λ (stream_x : Option Word). P (n_a + 5) (s.OutputTo stream_x (Some file_b) append_b)) q in
    let g4c = same_use h3 g3 (λ (j_x : ℕ). IsText c (j_x + 1) file_b) g4 in
    let qd = same_text h4 g4c (λ (file_x : Word). P (n_a + 5) (s.OutputTo stream_a (Some file_x) append_b)) qb in
    let qe = same_word_there h5 g5 refl (λ (append_x : Bool). P (n_a + 5) (s.OutputTo stream_a (Some file_a) append_x)) qd in
    qe
same_streaming (a.output_to h1 _ _ _ _) (a.import g1 _ _ _) P q = absurd (differ h1 g1 refl)
same_streaming (a.output_to h1 _ _ _ _) (a.export g1 _ _) P q = absurd (differ h1 g1 refl)
same_streaming (a.output_to h1 _ _ _ _) (a.put g1 _ _ _) P q = absurd (differ h1 g1 refl)
same_streaming (a.output_to h1 _ _ _ _) (a.message g1 _) P q = absurd (differ h1 g1 refl)
same_streaming (a.output_to h1 _ _ _ _) (a.input_from g1 _ _ _) P q = absurd (differ h1 g1 refl)
same_streaming (a.output_to h1 _ _ _ _) (a.input_close g1 _ _) P q = absurd (differ h1 g1 refl)
same_streaming (a.output_to _ _ h3 _ _) (a.output_close _ _ g3) P q = absurd (differ h3 g3 refl)
same_streaming {c} (a.output_close {n = n_a} {k = k_a} {j = j_a} {stream = stream_a} h1 h2 h3) (a.output_close {k = k_b} {j = j_b} {stream = stream_b} g1 g2 g3) P q =
    let qb = same_stream h2 g2 (λ (stream_x : Option Word). P (n_a + 4) (s.OutputTo stream_x None false)) q in
    qb
same_streaming (a.output_close h1 _ _) (a.import g1 _ _ _) P q = absurd (differ h1 g1 refl)
same_streaming (a.output_close h1 _ _) (a.export g1 _ _) P q = absurd (differ h1 g1 refl)
same_streaming (a.output_close h1 _ _) (a.put g1 _ _ _) P q = absurd (differ h1 g1 refl)
same_streaming (a.output_close h1 _ _) (a.message g1 _) P q = absurd (differ h1 g1 refl)
same_streaming (a.output_close h1 _ _) (a.input_from g1 _ _ _) P q = absurd (differ h1 g1 refl)
same_streaming (a.output_close h1 _ _) (a.input_close g1 _ _) P q = absurd (differ h1 g1 refl)
same_streaming (a.output_close _ _ h3) (a.output_to _ _ g3 _ _) P q = absurd (differ h3 g3 refl)
