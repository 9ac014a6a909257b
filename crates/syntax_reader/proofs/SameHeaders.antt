-- No node denotes two parts of the syntax: headers.
use Rattle.std.specs.Prelude.{ℕ, ◌+◌, List, ◌∷◌, Option, Some, Bool}
use Rattle.std.proofs.Common.{refl}
use Rattle.abl_base.specs.declared.place.Place.{Place}
use Rattle.bound_tree.specs.declared.block.FetchWord.{FetchWord}
use Rattle.syntax_tree.specs.declared.name.Word.{Word}
use Rattle.syntax_tree.specs.declared.word.BlockWord.{BlockWord}
use Rattle.syntax_tree.specs.declared.name.Named.TheVariants.{Plain}
use Rattle.bound_tree.specs.declared.block.LockWanted.TheVariants as lock
use Rattle.parse_tree.specs.declared.production.TheConstants as p
use Rattle.syntax_tree.specs.Syntax as s
use Rattle.syntax_tree.specs.Syntax.{Expression, RecordOption, Action, Phrase, Counting, Opening, Head}
use Rattle.syntax_reader.specs.Nodes.{Source, Uses, IsAt, IsName}
use Rattle.syntax_reader.specs.Expressions.{IsExpression}
use Rattle.syntax_reader.specs.Headers.{IsRecordOption, IsValueThere, IsAction, IsActionThere, IsPhrase, IsStep, IsCounting, AreNames, AreBuffers, IsBlockWord, IsFetchWord, IsOpening, IsHead, ArePhrases}
use Rattle.syntax_reader.specs.Headers as a
use Rattle.syntax_reader.proofs.Same.{same_use, same_at, same_name, same_word_there, same_name_there, same_row, differ}
use Rattle.syntax_reader.proofs.SameExpressions.{same_expression}

pub same_record_option : {c : Source} {i0 : ℕ} {x1 y1 : ℕ} {x2 y2 : RecordOption} → IsRecordOption c i0 x1 x2 → IsRecordOption c i0 y1 y2 → (P : ℕ → RecordOption → Type 0) → P y1 y2 → P x1 x2
same_record_option {c} (a.filter {n = n_a} {k = k_a} {m = m_a} {at = at_a} {test = test_a} h1 h2 h3) (a.filter {k = k_b} {m = m_b} {at = at_b} {test = test_b} g1 g2 g3) P q =
    let g2a = same_use h1 g1 (λ (k_x : ℕ). IsAt c k_x at_b) g2 in
    let qb = same_at h2 g2a (λ (at_x : Place). P m_b (s.Where at_x test_b)) q in
    let qc = same_expression h3 g3 (λ (m_x : ℕ) (test_x : Expression). P m_x (s.Where at_a test_x)) qb in
    qc
same_record_option (a.filter h1 _ _) (a.use_index g1 _ _) P q = absurd (differ h1 g1 refl)
same_record_option (a.filter h1 _ _) (a.no_lock g1 _) P q = absurd (differ h1 g1 refl)
same_record_option (a.filter h1 _ _) (a.share_lock g1 _) P q = absurd (differ h1 g1 refl)
same_record_option (a.filter h1 _ _) (a.exclusive_lock g1 _) P q = absurd (differ h1 g1 refl)
same_record_option {c} (a.use_index {n = n_a} {k = k_a} {at = at_a} {index = index_a} h1 h2 h3) (a.use_index {k = k_b} {at = at_b} {index = index_b} g1 g2 g3) P q =
    let g2a = same_use h1 g1 (λ (k_x : ℕ). IsAt c k_x at_b) g2 in
    let g3a = same_use h1 g1 (λ (k_x : ℕ). IsName c (k_x + 1) index_b) g3 in
    let qb = same_at h2 g2a (λ (at_x : Place). P (n_a + 1) (s.UseIndex at_x index_b)) q in
    let qc = same_name h3 g3a (λ (index_x : Word). P (n_a + 1) (s.UseIndex at_a index_x)) qb in
    qc
same_record_option (a.use_index h1 _ _) (a.filter g1 _ _) P q = absurd (differ h1 g1 refl)
same_record_option (a.use_index h1 _ _) (a.no_lock g1 _) P q = absurd (differ h1 g1 refl)
same_record_option (a.use_index h1 _ _) (a.share_lock g1 _) P q = absurd (differ h1 g1 refl)
same_record_option (a.use_index h1 _ _) (a.exclusive_lock g1 _) P q = absurd (differ h1 g1 refl)
same_record_option {c} (a.no_lock {n = n_a} {k = k_a} {at = at_a} h1 h2) (a.no_lock {k = k_b} {at = at_b} g1 g2) P q =
    let g2a = same_use h1 g1 (λ (k_x : ℕ). IsAt c k_x at_b) g2 in
    let qb = same_at h2 g2a (λ (at_x : Place). P (n_a + 1) (s.Lock at_x lock.NoLock)) q in
    qb
same_record_option (a.no_lock h1 _) (a.filter g1 _ _) P q = absurd (differ h1 g1 refl)
same_record_option (a.no_lock h1 _) (a.use_index g1 _ _) P q = absurd (differ h1 g1 refl)
same_record_option (a.no_lock h1 _) (a.share_lock g1 _) P q = absurd (differ h1 g1 refl)
same_record_option (a.no_lock h1 _) (a.exclusive_lock g1 _) P q = absurd (differ h1 g1 refl)
same_record_option {c} (a.share_lock {n = n_a} {k = k_a} {at = at_a} h1 h2) (a.share_lock {k = k_b} {at = at_b} g1 g2) P q =
    let g2a = same_use h1 g1 (λ (k_x : ℕ). IsAt c k_x at_b) g2 in
    let qb = same_at h2 g2a (λ (at_x : Place). P (n_a + 1) (s.Lock at_x lock.Share)) q in
    qb
same_record_option (a.share_lock h1 _) (a.filter g1 _ _) P q = absurd (differ h1 g1 refl)
same_record_option (a.share_lock h1 _) (a.use_index g1 _ _) P q = absurd (differ h1 g1 refl)
same_record_option (a.share_lock h1 _) (a.no_lock g1 _) P q = absurd (differ h1 g1 refl)
same_record_option (a.share_lock h1 _) (a.exclusive_lock g1 _) P q = absurd (differ h1 g1 refl)
same_record_option {c} (a.exclusive_lock {n = n_a} {k = k_a} {at = at_a} h1 h2) (a.exclusive_lock {k = k_b} {at = at_b} g1 g2) P q =
    let g2a = same_use h1 g1 (λ (k_x : ℕ). IsAt c k_x at_b) g2 in
    let qb = same_at h2 g2a (λ (at_x : Place). P (n_a + 1) (s.Lock at_x lock.Exclusive)) q in
    qb
same_record_option (a.exclusive_lock h1 _) (a.filter g1 _ _) P q = absurd (differ h1 g1 refl)
same_record_option (a.exclusive_lock h1 _) (a.use_index g1 _ _) P q = absurd (differ h1 g1 refl)
same_record_option (a.exclusive_lock h1 _) (a.no_lock g1 _) P q = absurd (differ h1 g1 refl)
same_record_option (a.exclusive_lock h1 _) (a.share_lock g1 _) P q = absurd (differ h1 g1 refl)

pub same_record_option_at : {c : Source} (n m l : ℕ) (a b : RecordOption) → IsRecordOption c n m a → IsRecordOption c n l b → (P : ℕ → RecordOption → Type 0) → P l b → P m a
same_record_option_at n m l a b h g P q = same_record_option h g P q

pub same_value_there : {c : Source} {i0 : ℕ} {x1 y1 : ℕ} {x2 y2 : Option Expression} → IsValueThere c i0 x1 x2 → IsValueThere c i0 y1 y2 → (P : ℕ → Option Expression → Type 0) → P y1 y2 → P x1 x2
same_value_there {c} (a.value_there {n = n_a} {k = k_a} {m = m_a} {e = e_a} h1 h2) (a.value_there {k = k_b} {m = m_b} {e = e_b} g1 g2) P q =
    let qb = same_expression h2 g2 (λ (m_x : ℕ) (e_x : Expression). P m_x (Some e_x)) q in
    qb
same_value_there (a.value_there h1 _) (a.no_value g1) P q = absurd (differ h1 g1 refl)
same_value_there {c} (a.no_value {n = n_a} {k = k_a} h1) (a.no_value {k = k_b} g1) P q =
    q
same_value_there (a.no_value h1) (a.value_there g1 _) P q = absurd (differ h1 g1 refl)

pub same_action : {c : Source} {i0 : ℕ} {x1 y1 : ℕ} {x2 y2 : Action} → IsAction c i0 x1 x2 → IsAction c i0 y1 y2 → (P : ℕ → Action → Type 0) → P y1 y2 → P x1 x2
same_action {c} (a.leave {n = n_a} {k = k_a} {j = j_a} {at = at_a} {label = label_a} h1 h2 h3 h4) (a.leave {k = k_b} {j = j_b} {at = at_b} {label = label_b} g1 g2 g3 g4) P q =
    let g2a = same_use h1 g1 (λ (k_x : ℕ). IsAt c k_x at_b) g2 in
    let qb = same_at h2 g2a (λ (at_x : Place). P (n_a + 3) (s.Leave at_x label_b)) q in
    let qd = same_name_there h4 g4 refl (λ (label_x : Option Word). P (n_a + 3) (s.Leave at_a label_x)) qb in
    qd
same_action (a.leave _ _ h3 _) (a.next _ _ g3 _) P q = absurd (differ h3 g3 refl)
same_action (a.leave _ _ h3 _) (a.retry _ _ g3 _) P q = absurd (differ h3 g3 refl)
same_action (a.leave h1 _ _ _) (a.return g1 _ _ _) P q = absurd (differ h1 g1 refl)
same_action {c} (a.next {n = n_a} {k = k_a} {j = j_a} {at = at_a} {label = label_a} h1 h2 h3 h4) (a.next {k = k_b} {j = j_b} {at = at_b} {label = label_b} g1 g2 g3 g4) P q =
    let g2a = same_use h1 g1 (λ (k_x : ℕ). IsAt c k_x at_b) g2 in
    let qb = same_at h2 g2a (λ (at_x : Place). P (n_a + 3) (s.Next at_x label_b)) q in
    let qd = same_name_there h4 g4 refl (λ (label_x : Option Word). P (n_a + 3) (s.Next at_a label_x)) qb in
    qd
same_action (a.next _ _ h3 _) (a.leave _ _ g3 _) P q = absurd (differ h3 g3 refl)
same_action (a.next _ _ h3 _) (a.retry _ _ g3 _) P q = absurd (differ h3 g3 refl)
same_action (a.next h1 _ _ _) (a.return g1 _ _ _) P q = absurd (differ h1 g1 refl)
same_action {c} (a.retry {n = n_a} {k = k_a} {j = j_a} {at = at_a} {label = label_a} h1 h2 h3 h4) (a.retry {k = k_b} {j = j_b} {at = at_b} {label = label_b} g1 g2 g3 g4) P q =
    let g2a = same_use h1 g1 (λ (k_x : ℕ). IsAt c k_x at_b) g2 in
    let qb = same_at h2 g2a (λ (at_x : Place). P (n_a + 3) (s.RetryIt at_x label_b)) q in
    let qd = same_name_there h4 g4 refl (λ (label_x : Option Word). P (n_a + 3) (s.RetryIt at_a label_x)) qb in
    qd
same_action (a.retry _ _ h3 _) (a.leave _ _ g3 _) P q = absurd (differ h3 g3 refl)
same_action (a.retry _ _ h3 _) (a.next _ _ g3 _) P q = absurd (differ h3 g3 refl)
same_action (a.retry h1 _ _ _) (a.return g1 _ _ _) P q = absurd (differ h1 g1 refl)
same_action {c} (a.return {n = n_a} {k = k_a} {m = m_a} {at = at_a} {error = error_a} {value = value_a} h1 h2 h3 h4) (a.return {k = k_b} {m = m_b} {at = at_b} {error = error_b} {value = value_b} g1 g2 g3 g4) P q =
    let g2a = same_use h1 g1 (λ (k_x : ℕ). IsAt c k_x at_b) g2 in
    let qb = same_at h2 g2a (λ (at_x : Place). P m_b (s.Return at_x error_b value_b)) q in
    let qc = same_word_there h3 g3 refl (λ (error_x : Bool). P m_b (s.Return at_a error_x value_b)) qb in
    let qd = same_value_there h4 g4 (λ (m_x : ℕ) (value_x : Option Expression). P m_x (s.Return at_a error_a value_x)) qc in
    qd
same_action (a.return h1 _ _ _) (a.leave g1 _ _ _) P q = absurd (differ h1 g1 refl)
same_action (a.return h1 _ _ _) (a.next g1 _ _ _) P q = absurd (differ h1 g1 refl)
same_action (a.return h1 _ _ _) (a.retry g1 _ _ _) P q = absurd (differ h1 g1 refl)

pub same_action_there : {c : Source} {i0 : ℕ} {x1 y1 : ℕ} {x2 y2 : Option Action} → IsActionThere c i0 x1 x2 → IsActionThere c i0 y1 y2 → (P : ℕ → Option Action → Type 0) → P y1 y2 → P x1 x2
same_action_there {c} (a.action_there {n = n_a} {k = k_a} {m = m_a} {a = a_a} h1 h2) (a.action_there {k = k_b} {m = m_b} {a = a_b} g1 g2) P q =
    let qb = same_action h2 g2 (λ (m_x : ℕ) (a_x : Action). P m_x (Some a_x)) q in
    qb
same_action_there (a.action_there h1 _) (a.no_action g1) P q = absurd (differ h1 g1 refl)
same_action_there {c} (a.no_action {n = n_a} {k = k_a} h1) (a.no_action {k = k_b} g1) P q =
    q
same_action_there (a.no_action h1) (a.action_there g1 _) P q = absurd (differ h1 g1 refl)

pub same_phrase : {c : Source} {i0 : ℕ} {x1 y1 : ℕ} {x2 y2 : Phrase} → IsPhrase c i0 x1 x2 → IsPhrase c i0 y1 y2 → (P : ℕ → Phrase → Type 0) → P y1 y2 → P x1 x2
same_phrase {c} (a.while {n = n_a} {k = k_a} {m = m_a} {at = at_a} {test = test_a} h1 h2 h3) (a.while {k = k_b} {m = m_b} {at = at_b} {test = test_b} g1 g2 g3) P q =
    let g2a = same_use h1 g1 (λ (k_x : ℕ). IsAt c k_x at_b) g2 in
    let qb = same_at h2 g2a (λ (at_x : Place). P m_b (s.While at_x test_b)) q in
    let qc = same_expression h3 g3 (λ (m_x : ℕ) (test_x : Expression). P m_x (s.While at_a test_x)) qb in
    qc
same_phrase (a.while h1 _ _) (a.transaction g1 _) P q = absurd (differ h1 g1 refl)
same_phrase (a.while h1 _ _) (a.on_error g1 _ _ _ _) P q = absurd (differ h1 g1 refl)
same_phrase (a.while h1 _ _) (a.on_endkey g1 _ _ _ _) P q = absurd (differ h1 g1 refl)
same_phrase {c} (a.transaction {n = n_a} {k = k_a} {at = at_a} h1 h2) (a.transaction {k = k_b} {at = at_b} g1 g2) P q =
    let g2a = same_use h1 g1 (λ (k_x : ℕ). IsAt c k_x at_b) g2 in
    let qb = same_at h2 g2a (λ (at_x : Place). P (n_a + 1) (s.Transaction at_x)) q in
    qb
same_phrase (a.transaction h1 _) (a.while g1 _ _) P q = absurd (differ h1 g1 refl)
same_phrase (a.transaction h1 _) (a.on_error g1 _ _ _ _) P q = absurd (differ h1 g1 refl)
same_phrase (a.transaction h1 _) (a.on_endkey g1 _ _ _ _) P q = absurd (differ h1 g1 refl)
same_phrase {c} (a.on_error {n = n_a} {k = k_a} {j = j_a} {m = m_a} {at = at_a} {label = label_a} {action = action_a} h1 h2 h3 h4 h5) (a.on_error {k = k_b} {j = j_b} {m = m_b} {at = at_b} {label = label_b} {action = action_b} g1 g2 g3 g4 g5) P q =
    let g2a = same_use h1 g1 (λ (k_x : ℕ). IsAt c k_x at_b) g2 in
    let qb = same_at h2 g2a (λ (at_x : Place). P m_b (s.OnError at_x label_b action_b)) q in
    let qd = same_name_there h4 g4 refl (λ (label_x : Option Word). P m_b (s.OnError at_a label_x action_b)) qb in
    let qe = same_action_there h5 g5 (λ (m_x : ℕ) (action_x : Option Action). P m_x (s.OnError at_a label_a action_x)) qd in
    qe
same_phrase (a.on_error h1 _ _ _ _) (a.while g1 _ _) P q = absurd (differ h1 g1 refl)
same_phrase (a.on_error h1 _ _ _ _) (a.transaction g1 _) P q = absurd (differ h1 g1 refl)
same_phrase (a.on_error _ _ h3 _ _) (a.on_endkey _ _ g3 _ _) P q = absurd (differ h3 g3 refl)
same_phrase {c} (a.on_endkey {n = n_a} {k = k_a} {j = j_a} {m = m_a} {at = at_a} {label = label_a} {action = action_a} h1 h2 h3 h4 h5) (a.on_endkey {k = k_b} {j = j_b} {m = m_b} {at = at_b} {label = label_b} {action = action_b} g1 g2 g3 g4 g5) P q =
    let g2a = same_use h1 g1 (λ (k_x : ℕ). IsAt c k_x at_b) g2 in
    let qb = same_at h2 g2a (λ (at_x : Place). P m_b (s.OnEndkey at_x label_b action_b)) q in
    let qd = same_name_there h4 g4 refl (λ (label_x : Option Word). P m_b (s.OnEndkey at_a label_x action_b)) qb in
    let qe = same_action_there h5 g5 (λ (m_x : ℕ) (action_x : Option Action). P m_x (s.OnEndkey at_a label_a action_x)) qd in
    qe
same_phrase (a.on_endkey h1 _ _ _ _) (a.while g1 _ _) P q = absurd (differ h1 g1 refl)
same_phrase (a.on_endkey h1 _ _ _ _) (a.transaction g1 _) P q = absurd (differ h1 g1 refl)
same_phrase (a.on_endkey _ _ h3 _ _) (a.on_error _ _ g3 _ _) P q = absurd (differ h3 g3 refl)

pub same_phrase_at : {c : Source} (n m l : ℕ) (a b : Phrase) → IsPhrase c n m a → IsPhrase c n l b → (P : ℕ → Phrase → Type 0) → P l b → P m a
same_phrase_at n m l a b h g P q = same_phrase h g P q

pub same_step : {c : Source} {i0 : ℕ} {x1 y1 : ℕ} {x2 y2 : Option Expression} → IsStep c i0 x1 x2 → IsStep c i0 y1 y2 → (P : ℕ → Option Expression → Type 0) → P y1 y2 → P x1 x2
same_step {c} (a.step {n = n_a} {k = k_a} {m = m_a} {by = by_a} h1 h2) (a.step {k = k_b} {m = m_b} {by = by_b} g1 g2) P q =
    let qb = same_expression h2 g2 (λ (m_x : ℕ) (by_x : Expression). P m_x (Some by_x)) q in
    qb
same_step (a.step h1 _) (a.no_step g1) P q = absurd (differ h1 g1 refl)
same_step {c} (a.no_step {n = n_a} {k = k_a} h1) (a.no_step {k = k_b} g1) P q =
    q
same_step (a.no_step h1) (a.step g1 _) P q = absurd (differ h1 g1 refl)

pub same_counting : {c : Source} {i0 : ℕ} {x1 y1 : ℕ} {x2 y2 : Option Counting} → IsCounting c i0 x1 x2 → IsCounting c i0 y1 y2 → (P : ℕ → Option Counting → Type 0) → P y1 y2 → P x1 x2
same_counting {c} (a.counting {n = n_a} {k = k_a} {m = m_a} {l = l_a} {end_at = end_at_a} {name = name_a} {start = start_a} {end = end_a} {by = by_a} h1 h2 h3 h4 h5) (a.counting {k = k_b} {m = m_b} {l = l_b} {end_at = end_at_b} {name = name_b} {start = start_b} {end = end_b} {by = by_b} g1 g2 g3 g4 g5) P q =
    let g2a = same_use h1 g1 (λ (k_x : ℕ). IsName c k_x name_b) g2 in
    let qb = same_name h2 g2a (λ (name_x : Word). P end_at_b (Some (record { variable = Plain name_x; start = start_b; end = end_b; by = by_b }))) q in
    let g4c = same_expression h3 g3 (λ (m_x : ℕ) (start_x : Expression). IsExpression c m_x l_b end_b) g4 in
    let qc = same_expression h3 g3 (λ (m_x : ℕ) (start_x : Expression). P end_at_b (Some (record { variable = Plain name_a; start = start_x; end = end_b; by = by_b }))) qb in
    let g5d = same_expression h4 g4c (λ (l_x : ℕ) (end_x : Expression). IsStep c l_x end_at_b by_b) g5 in
    let qd = same_expression h4 g4c (λ (l_x : ℕ) (end_x : Expression). P end_at_b (Some (record { variable = Plain name_a; start = start_a; end = end_x; by = by_b }))) qc in
    let qe = same_step h5 g5d (λ (end_at_x : ℕ) (by_x : Option Expression). P end_at_x (Some (record { variable = Plain name_a; start = start_a; end = end_a; by = by_x }))) qd in
    qe
same_counting (a.counting h1 _ _ _ _) (a.no_counting g1) P q = absurd (differ h1 g1 refl)
same_counting {c} (a.no_counting {n = n_a} {k = k_a} h1) (a.no_counting {k = k_b} g1) P q =
    q
same_counting (a.no_counting h1) (a.counting g1 _ _ _ _) P q = absurd (differ h1 g1 refl)

pub same_names : {c : Source} {i0 : ℕ} {x1 y1 : ℕ} {x2 y2 : List Word} → AreNames c i0 x1 x2 → AreNames c i0 y1 y2 → (P : ℕ → List Word → Type 0) → P y1 y2 → P x1 x2
same_names {c} (a.all_named {n = n_a} {k = k_a} h1) (a.all_named {k = k_b} g1) P q =
    q
same_names (a.all_named h1) (a.one_name g1 _ _) P q = absurd (differ h1 g1 refl)
same_names {c} (a.one_name {n = n_a} {k = k_a} {m = m_a} {name = name_a} {names = names_a} h1 h2 h3) (a.one_name {k = k_b} {m = m_b} {name = name_b} {names = names_b} g1 g2 g3) P q =
    let g2a = same_use h1 g1 (λ (k_x : ℕ). IsName c (k_x + 1) name_b) g2 in
    let qb = same_name h2 g2a (λ (name_x : Word). P m_b (name_x ∷ names_b)) q in
    let qc = same_names h3 g3 (λ (m_x : ℕ) (names_x : List Word). P m_x (name_a ∷ names_x)) qb in
    qc
same_names (a.one_name h1 _ _) (a.all_named g1) P q = absurd (differ h1 g1 refl)

pub same_buffers : {c : Source} {i0 : ℕ} {x1 y1 : ℕ} {x2 y2 : List Word} → AreBuffers c i0 x1 x2 → AreBuffers c i0 y1 y2 → (P : ℕ → List Word → Type 0) → P y1 y2 → P x1 x2
same_buffers {c} (a.buffers {n = n_a} {k = k_a} {m = m_a} {name = name_a} {names = names_a} h1 h2 h3) (a.buffers {k = k_b} {m = m_b} {name = name_b} {names = names_b} g1 g2 g3) P q =
    let g2a = same_use h1 g1 (λ (k_x : ℕ). IsName c (k_x + 1) name_b) g2 in
    let qb = same_name h2 g2a (λ (name_x : Word). P m_b (name_x ∷ names_b)) q in
    let qc = same_names h3 g3 (λ (m_x : ℕ) (names_x : List Word). P m_x (name_a ∷ names_x)) qb in
    qc
same_buffers (a.buffers h1 _ _) (a.no_buffers g1) P q = absurd (differ h1 g1 refl)
same_buffers {c} (a.no_buffers {n = n_a} {k = k_a} h1) (a.no_buffers {k = k_b} g1) P q =
    q
same_buffers (a.no_buffers h1) (a.buffers g1 _ _) P q = absurd (differ h1 g1 refl)

pub same_block_word : {c : Source} {i0 : ℕ} {x1 y1 : BlockWord} → IsBlockWord c i0 x1 → IsBlockWord c i0 y1 → (P : BlockWord → Type 0) → P y1 → P x1
same_block_word {c} (a.do_block {n = n_a} {k = k_a} h1) (a.do_block {k = k_b} g1) P q =
    q
same_block_word (a.do_block h1) (a.repeat_block g1) P q = absurd (differ h1 g1 refl)
same_block_word {c} (a.repeat_block {n = n_a} {k = k_a} h1) (a.repeat_block {k = k_b} g1) P q =
    q
same_block_word (a.repeat_block h1) (a.do_block g1) P q = absurd (differ h1 g1 refl)

pub same_fetch_word : {c : Source} {i0 : ℕ} {x1 y1 : FetchWord} → IsFetchWord c i0 x1 → IsFetchWord c i0 y1 → (P : FetchWord → Type 0) → P y1 → P x1
same_fetch_word {c} (a.each {n = n_a} {k = k_a} h1) (a.each {k = k_b} g1) P q =
    q
same_fetch_word (a.each h1) (a.first g1) P q = absurd (differ h1 g1 refl)
same_fetch_word (a.each h1) (a.last g1) P q = absurd (differ h1 g1 refl)
same_fetch_word {c} (a.first {n = n_a} {k = k_a} h1) (a.first {k = k_b} g1) P q =
    q
same_fetch_word (a.first h1) (a.each g1) P q = absurd (differ h1 g1 refl)
same_fetch_word (a.first h1) (a.last g1) P q = absurd (differ h1 g1 refl)
same_fetch_word {c} (a.last {n = n_a} {k = k_a} h1) (a.last {k = k_b} g1) P q =
    q
same_fetch_word (a.last h1) (a.each g1) P q = absurd (differ h1 g1 refl)
same_fetch_word (a.last h1) (a.first g1) P q = absurd (differ h1 g1 refl)

pub same_opening : {c : Source} {i0 : ℕ} {x1 y1 : ℕ} {x2 y2 : Place} {x3 y3 : Opening} → IsOpening c i0 x1 x2 x3 → IsOpening c i0 y1 y2 y3 → (P : ℕ → Place → Opening → Type 0) → P y1 y2 y3 → P x1 x2 x3
same_opening {c} (a.plainly {n = n_a} {k = k_a} {m = m_a} {at = at_a} {word = word_a} {buffers = buffers_a} h1 h2 h3 h4) (a.plainly {k = k_b} {m = m_b} {at = at_b} {word = word_b} {buffers = buffers_b} g1 g2 g3 g4) P q =
    let g2a = same_use h1 g1 (λ (k_x : ℕ). IsAt c k_x at_b) g2 in
    let qb = same_at h2 g2a (λ (at_x : Place). P m_b at_x (s.Plainly word_b buffers_b)) q in
    let qc = same_block_word h3 g3 (λ (word_x : BlockWord). P m_b at_a (s.Plainly word_x buffers_b)) qb in
    let qd = same_buffers h4 g4 (λ (m_x : ℕ) (buffers_x : List Word). P m_x at_a (s.Plainly word_a buffers_x)) qc in
    qd
same_opening (a.plainly h1 _ _ _) (a.for_records g1 _ _ _ _) P q = absurd (differ h1 g1 refl)
same_opening {c} (a.for_records {n = n_a} {k = k_a} {m = m_a} {at = at_a} {which = which_a} {buffer = buffer_a} {options = options_a} h1 h2 h3 h4 h5) (a.for_records {k = k_b} {m = m_b} {at = at_b} {which = which_b} {buffer = buffer_b} {options = options_b} g1 g2 g3 g4 g5) P q =
    let g2a = same_use h1 g1 (λ (k_x : ℕ). IsAt c k_x at_b) g2 in
    let g4a = same_use h1 g1 (λ (k_x : ℕ). IsName c (k_x + 2) buffer_b) g4 in
    let qb = same_at h2 g2a (λ (at_x : Place). P m_b at_x (s.ForRecords which_b buffer_b options_b)) q in
    let qc = same_fetch_word h3 g3 (λ (which_x : FetchWord). P m_b at_a (s.ForRecords which_x buffer_b options_b)) qb in
    let qd = same_name h4 g4a (λ (buffer_x : Word). P m_b at_a (s.ForRecords which_a buffer_x options_b)) qc in
    let qe = same_row same_record_option_at h5 g5 refl (λ (m_x : ℕ) (options_x : List RecordOption). P m_x at_a (s.ForRecords which_a buffer_a options_x)) qd in
    qe
same_opening (a.for_records h1 _ _ _ _) (a.plainly g1 _ _ _) P q = absurd (differ h1 g1 refl)

pub same_head : {c : Source} {label_a : Option Word} {i1 : ℕ} {x2 y2 : ℕ} {x3 y3 : Head} → IsHead c label_a i1 x2 x3 → IsHead c label_a i1 y2 y3 → (P : ℕ → Head → Type 0) → P y2 y3 → P x2 x3
same_head {c} {label_a} (a.head {n = n_a} {k = k_a} {m = m_a} {l = l_a} {end = end_a} {at = at_a} {opening = opening_a} {counting = counting_a} {phrases = phrases_a} h1 h2 h3 h4) (a.head {k = k_b} {m = m_b} {l = l_b} {end = end_b} {at = at_b} {opening = opening_b} {counting = counting_b} {phrases = phrases_b} g1 g2 g3 g4) P q =
    let g2a = same_opening h1 g1 (λ (m_x : ℕ) (at_x : Place) (opening_x : Opening). Uses c m_x p.HEADER_COUNTING k_b) g2 in
    let g3a = same_opening h1 g1 (λ (m_x : ℕ) (at_x : Place) (opening_x : Opening). IsCounting c (m_x + 1) l_b counting_b) g3 in
    let qa = same_opening h1 g1 (λ (m_x : ℕ) (at_x : Place) (opening_x : Opening). P end_b (record { label = label_a; at = at_x; opening = opening_x; counting = counting_b; phrases = phrases_b })) q in
    let g4c = same_counting h3 g3a (λ (l_x : ℕ) (counting_x : Option Counting). ArePhrases c l_x end_b phrases_b) g4 in
    let qc = same_counting h3 g3a (λ (l_x : ℕ) (counting_x : Option Counting). P end_b (record { label = label_a; at = at_a; opening = opening_a; counting = counting_x; phrases = phrases_b })) qa in
    let qd = same_row same_phrase_at h4 g4c refl (λ (end_x : ℕ) (phrases_x : List Phrase). P end_x (record { label = label_a; at = at_a; opening = opening_a; counting = counting_a; phrases = phrases_x })) qc in
    qd
