-- No node denotes two parts of the syntax: statements without others inside.
use Rattle.std.specs.Prelude.{◌≡◌, ℕ, ◌+◌, List, [], ◌∷◌, Option, Bool, false, ◌||◌}
use Rattle.std.proofs.Common.{refl, eqb}
use Rattle.abl_base.specs.declared.place.Place.{Place}
use Rattle.syntax_tree.specs.declared.name.Named.{Named}
use Rattle.syntax_tree.specs.declared.name.Word.{Word}
use Rattle.syntax_tree.specs.declared.word.FindWhich.{FindWhich}
use Rattle.syntax_tree.specs.declared.name.Named.TheVariants.{Plain}
use Rattle.syntax_tree.specs.declared.word.FindWhich.TheVariants as which
use Rattle.parse_tree.specs.declared.production.TheConstants as p
use Rattle.syntax_tree.specs.Syntax as s
use Rattle.syntax_tree.specs.Syntax.{Expression, RightSide, Pair, RecordOption, Action, Argument, Statement}
use Rattle.syntax_reader.specs.Nodes.{Source, Uses, IsAt, IsName, IsQualified}
use Rattle.syntax_reader.specs.Plain.{IsTarget, IsRightSide, IsPair, IsAssignment, IsFindWhich, IsFindOption, AreFindOptions, IsRecord, IsArgument, AreRunArguments, IsFlow, AreOtherArguments, IsQuiet}
use Rattle.syntax_reader.specs.Plain as a
use Rattle.syntax_reader.proofs.Same.{same_use, same_at, same_name, same_qualified, same_word_there, same_name_there, same_row, differ, not_here}
use Rattle.syntax_reader.proofs.SameExpressions.{same_expression}
use Rattle.syntax_reader.proofs.SameHeaders.{same_record_option, same_value_there, same_action_there}

pub same_target : {c : Source} {i0 : ℕ} {x1 y1 : Named} → IsTarget c i0 x1 → IsTarget c i0 y1 → (P : Named → Type 0) → P y1 → P x1
same_target {c} (a.name {n = n_a} {k = k_a} {word = word_a} h1 h2) (a.name {k = k_b} {word = word_b} g1 g2) P q =
    let g2a = same_use h1 g1 (λ (k_x : ℕ). IsName c k_x word_b) g2 in
    let qb = same_name h2 g2a (λ (word_x : Word). P (Plain word_x)) q in
    qb
same_target (a.name h1 _) (a.qualified g1 _) P q = absurd (differ h1 g1 refl)
same_target {c} (a.qualified {n = n_a} {k = k_a} {name = name_a} h1 h2) (a.qualified {k = k_b} {name = name_b} g1 g2) P q =
    let g2a = same_use h1 g1 (λ (k_x : ℕ). IsQualified c k_x name_b) g2 in
    let qb = same_qualified h2 g2a (λ (name_x : Named). P name_x) q in
    qb
same_target (a.qualified h1 _) (a.name g1 _) P q = absurd (differ h1 g1 refl)

pub same_right_side : {c : Source} {i0 : ℕ} {x1 y1 : ℕ} {x2 y2 : RightSide} → IsRightSide c i0 x1 x2 → IsRightSide c i0 y1 y2 → (P : ℕ → RightSide → Type 0) → P y1 y2 → P x1 x2
same_right_side {c} (a.next_value {n = n_a} {k = k_a} {j = j_a} {at = at_a} {sequence = sequence_a} h1 h2 h3 h4) (a.next_value {k = k_b} {j = j_b} {at = at_b} {sequence = sequence_b} g1 g2 g3 g4) P q =
    let g2a = same_use h1 g1 (λ (k_x : ℕ). IsAt c k_x at_b) g2 in
    let g4a = same_use h1 g1 (λ (k_x : ℕ). IsName c (k_x + 2) sequence_b) g4 in
    let qb = same_at h2 g2a (λ (at_x : Place). P (n_a + 2) (s.NextValue at_x sequence_b)) q in
    let qd = same_name h4 g4a (λ (sequence_x : Word). P (n_a + 2) (s.NextValue at_a sequence_x)) qb in
    qd
same_right_side (a.next_value _ _ h3 _) (a.current_value _ _ g3 _) P q = absurd (differ h3 g3 refl)
same_right_side (a.next_value h1 _ _ _) (a.value g1 _) P q = absurd (differ h1 g1 refl)
same_right_side {c} (a.current_value {n = n_a} {k = k_a} {j = j_a} {at = at_a} {sequence = sequence_a} h1 h2 h3 h4) (a.current_value {k = k_b} {j = j_b} {at = at_b} {sequence = sequence_b} g1 g2 g3 g4) P q =
    let g2a = same_use h1 g1 (λ (k_x : ℕ). IsAt c k_x at_b) g2 in
    let g4a = same_use h1 g1 (λ (k_x : ℕ). IsName c (k_x + 2) sequence_b) g4 in
    let qb = same_at h2 g2a (λ (at_x : Place). P (n_a + 2) (s.CurrentValue at_x sequence_b)) q in
    let qd = same_name h4 g4a (λ (sequence_x : Word). P (n_a + 2) (s.CurrentValue at_a sequence_x)) qb in
    qd
same_right_side (a.current_value _ _ h3 _) (a.next_value _ _ g3 _) P q = absurd (differ h3 g3 refl)
same_right_side (a.current_value h1 _ _ _) (a.value g1 _) P q = absurd (differ h1 g1 refl)
same_right_side {c} (a.value {n = n_a} {k = k_a} {m = m_a} {e = e_a} h1 h2) (a.value {k = k_b} {m = m_b} {e = e_b} g1 g2) P q =
    let qb = same_expression h2 g2 (λ (m_x : ℕ) (e_x : Expression). P m_x (s.ValueOf e_x)) q in
    qb
same_right_side (a.value h1 _) (a.next_value g1 _ _ _) P q = absurd (differ h1 g1 refl)
same_right_side (a.value h1 _) (a.current_value g1 _ _ _) P q = absurd (differ h1 g1 refl)

pub same_pair : {c : Source} {i0 : ℕ} {x1 y1 : ℕ} {x2 y2 : Pair} → IsPair c i0 x1 x2 → IsPair c i0 y1 y2 → (P : ℕ → Pair → Type 0) → P y1 y2 → P x1 x2
same_pair {c} (a.pair {n = n_a} {m = m_a} {target = target_a} {right = right_a} h1 h2) (a.pair {m = m_b} {target = target_b} {right = right_b} g1 g2) P q =
    let qa = same_target h1 g1 (λ (target_x : Named). P m_b (record { target = target_x; right = right_b })) q in
    let qb = same_right_side h2 g2 (λ (m_x : ℕ) (right_x : RightSide). P m_x (record { target = target_a; right = right_x })) qa in
    qb

pub same_pair_at : {c : Source} (n m l : ℕ) (a b : Pair) → IsPair c n m a → IsPair c n l b → (P : ℕ → Pair → Type 0) → P l b → P m a
same_pair_at n m l a b h g P q = same_pair h g P q

pub same_assignment : {c : Source} {i0 : ℕ} {x1 y1 : ℕ} {x2 y2 : Statement} → IsAssignment c i0 x1 x2 → IsAssignment c i0 y1 y2 → (P : ℕ → Statement → Type 0) → P y1 y2 → P x1 x2
same_assignment {c} (a.alone {n = n_a} {k = k_a} {m = m_a} {pair = pair_a} {quiet = quiet_a} h1 h2 h3) (a.alone {k = k_b} {m = m_b} {pair = pair_b} {quiet = quiet_b} g1 g2 g3) P q =
    let g3b = same_pair h2 g2 (λ (m_x : ℕ) (pair_x : Pair). IsQuiet c m_x quiet_b) g3 in
    let qb = same_pair h2 g2 (λ (m_x : ℕ) (pair_x : Pair). P (m_x + 1) (s.Assign (pair_x ∷ []) quiet_b)) q in
    let qc = same_word_there h3 g3b refl (λ (quiet_x : Bool). P (m_a + 1) (s.Assign (pair_a ∷ []) quiet_x)) qb in
    qc
same_assignment (a.alone h1 _ _) (a.several g1 _ _) P q = absurd (differ h1 g1 refl)
same_assignment {c} (a.several {n = n_a} {k = k_a} {m = m_a} {pairs = pairs_a} {quiet = quiet_a} h1 h2 h3) (a.several {k = k_b} {m = m_b} {pairs = pairs_b} {quiet = quiet_b} g1 g2 g3) P q =
    let g3b = same_row same_pair_at h2 g2 refl (λ (m_x : ℕ) (pairs_x : List Pair). IsQuiet c m_x quiet_b) g3 in
    let qb = same_row same_pair_at h2 g2 refl (λ (m_x : ℕ) (pairs_x : List Pair). P (m_x + 1) (s.Assign pairs_x quiet_b)) q in
    let qc = same_word_there h3 g3b refl (λ (quiet_x : Bool). P (m_a + 1) (s.Assign pairs_a quiet_x)) qb in
    qc
same_assignment (a.several h1 _ _) (a.alone g1 _ _) P q = absurd (differ h1 g1 refl)

pub same_find_which : {c : Source} {i0 : ℕ} {x1 y1 : FindWhich} {x2 y2 : ℕ} → IsFindWhich c i0 x1 x2 → IsFindWhich c i0 y1 y2 → (P : FindWhich → ℕ → Type 0) → P y1 y2 → P x1 x2
same_find_which {c} (a.first {n = n_a} {k = k_a} h1) (a.first {k = k_b} g1) P q =
    let qa = same_use h1 g1 (λ (k_x : ℕ). P which.First (k_x + 1)) q in
    qa
same_find_which (a.first h1) (a.last g1) P q = absurd (differ h1 g1 refl)
same_find_which (a.first h1) (a.next g1) P q = absurd (differ h1 g1 refl)
same_find_which (a.first h1) (a.previous g1) P q = absurd (differ h1 g1 refl)
same_find_which (a.first h1) (a.current g1) P q = absurd (differ h1 g1 refl)
same_find_which (a.first h1) (a.only g1) P q = absurd (differ h1 g1 refl)
same_find_which {c} (a.last {n = n_a} {k = k_a} h1) (a.last {k = k_b} g1) P q =
    let qa = same_use h1 g1 (λ (k_x : ℕ). P which.Last (k_x + 1)) q in
    qa
same_find_which (a.last h1) (a.first g1) P q = absurd (differ h1 g1 refl)
same_find_which (a.last h1) (a.next g1) P q = absurd (differ h1 g1 refl)
same_find_which (a.last h1) (a.previous g1) P q = absurd (differ h1 g1 refl)
same_find_which (a.last h1) (a.current g1) P q = absurd (differ h1 g1 refl)
same_find_which (a.last h1) (a.only g1) P q = absurd (differ h1 g1 refl)
same_find_which {c} (a.next {n = n_a} {k = k_a} h1) (a.next {k = k_b} g1) P q =
    let qa = same_use h1 g1 (λ (k_x : ℕ). P which.Next (k_x + 1)) q in
    qa
same_find_which (a.next h1) (a.first g1) P q = absurd (differ h1 g1 refl)
same_find_which (a.next h1) (a.last g1) P q = absurd (differ h1 g1 refl)
same_find_which (a.next h1) (a.previous g1) P q = absurd (differ h1 g1 refl)
same_find_which (a.next h1) (a.current g1) P q = absurd (differ h1 g1 refl)
same_find_which (a.next h1) (a.only g1) P q = absurd (differ h1 g1 refl)
same_find_which {c} (a.previous {n = n_a} {k = k_a} h1) (a.previous {k = k_b} g1) P q =
    let qa = same_use h1 g1 (λ (k_x : ℕ). P which.Previous (k_x + 1)) q in
    qa
same_find_which (a.previous h1) (a.first g1) P q = absurd (differ h1 g1 refl)
same_find_which (a.previous h1) (a.last g1) P q = absurd (differ h1 g1 refl)
same_find_which (a.previous h1) (a.next g1) P q = absurd (differ h1 g1 refl)
same_find_which (a.previous h1) (a.current g1) P q = absurd (differ h1 g1 refl)
same_find_which (a.previous h1) (a.only g1) P q = absurd (differ h1 g1 refl)
same_find_which {c} (a.current {n = n_a} {k = k_a} h1) (a.current {k = k_b} g1) P q =
    let qa = same_use h1 g1 (λ (k_x : ℕ). P which.Current (k_x + 1)) q in
    qa
same_find_which (a.current h1) (a.first g1) P q = absurd (differ h1 g1 refl)
same_find_which (a.current h1) (a.last g1) P q = absurd (differ h1 g1 refl)
same_find_which (a.current h1) (a.next g1) P q = absurd (differ h1 g1 refl)
same_find_which (a.current h1) (a.previous g1) P q = absurd (differ h1 g1 refl)
same_find_which (a.current h1) (a.only g1) P q = absurd (differ h1 g1 refl)
same_find_which {c} (a.only {n = n_a} {k = k_a} h1) (a.only {k = k_b} g1) P q =
    let qa = same_use h1 g1 (λ (k_x : ℕ). P which.Only k_x) q in
    qa
same_find_which (a.only h1) (a.first g1) P q = absurd (differ h1 g1 refl)
same_find_which (a.only h1) (a.last g1) P q = absurd (differ h1 g1 refl)
same_find_which (a.only h1) (a.next g1) P q = absurd (differ h1 g1 refl)
same_find_which (a.only h1) (a.previous g1) P q = absurd (differ h1 g1 refl)
same_find_which (a.only h1) (a.current g1) P q = absurd (differ h1 g1 refl)

pub same_find_option : {c : Source} {i0 : ℕ} {x1 y1 : ℕ} {x2 y2 : RecordOption} → IsFindOption c i0 x1 x2 → IsFindOption c i0 y1 y2 → (P : ℕ → RecordOption → Type 0) → P y1 y2 → P x1 x2
same_find_option {c} (a.record_option {n = n_a} {k = k_a} {m = m_a} {option = option_a} h1 h2) (a.record_option {k = k_b} {m = m_b} {option = option_b} g1 g2) P q =
    let qb = same_record_option h2 g2 (λ (m_x : ℕ) (option_x : RecordOption). P m_x option_x) q in
    qb
same_find_option (a.record_option h1 _) (a.no_wait g1 _) P q = absurd (differ h1 g1 refl)
same_find_option (a.record_option h1 _) (a.no_error g1 _) P q = absurd (differ h1 g1 refl)
same_find_option {c} (a.no_wait {n = n_a} {k = k_a} {at = at_a} h1 h2) (a.no_wait {k = k_b} {at = at_b} g1 g2) P q =
    let g2a = same_use h1 g1 (λ (k_x : ℕ). IsAt c k_x at_b) g2 in
    let qb = same_at h2 g2a (λ (at_x : Place). P (n_a + 1) (s.NoWait at_x)) q in
    qb
same_find_option (a.no_wait h1 _) (a.record_option g1 _) P q = absurd (differ h1 g1 refl)
same_find_option (a.no_wait h1 _) (a.no_error g1 _) P q = absurd (differ h1 g1 refl)
same_find_option {c} (a.no_error {n = n_a} {k = k_a} {at = at_a} h1 h2) (a.no_error {k = k_b} {at = at_b} g1 g2) P q =
    let g2a = same_use h1 g1 (λ (k_x : ℕ). IsAt c k_x at_b) g2 in
    let qb = same_at h2 g2a (λ (at_x : Place). P (n_a + 1) (s.NoError at_x)) q in
    qb
same_find_option (a.no_error h1 _) (a.record_option g1 _) P q = absurd (differ h1 g1 refl)
same_find_option (a.no_error h1 _) (a.no_wait g1 _) P q = absurd (differ h1 g1 refl)

-- whether a production is one of these
abbrev pub uses_find_option : ℕ → Bool
uses_find_option q = eqb q p.FIND_OPTIONS_RECORD_OPTION || eqb q p.FIND_OPTIONS_NO_WAIT || eqb q p.FIND_OPTIONS_NO_ERROR

pub not_find_option : {c : Source} {n q k : ℕ} {m : ℕ} {x : RecordOption} → IsFindOption c n m x → Uses c n q k → uses_find_option q ≡ false → ⊥
not_find_option (a.record_option h1 _) u e = not_here uses_find_option h1 u refl e
not_find_option (a.no_wait h1 _) u e = not_here uses_find_option h1 u refl e
not_find_option (a.no_error h1 _) u e = not_here uses_find_option h1 u refl e

pub same_find_options : {c : Source} {i0 : ℕ} {x1 y1 : ℕ} {x2 y2 : List RecordOption} → AreFindOptions c i0 x1 x2 → AreFindOptions c i0 y1 y2 → (P : ℕ → List RecordOption → Type 0) → P y1 y2 → P x1 x2
same_find_options {c} (a.all_options {n = n_a} {k = k_a} h1) (a.all_options {k = k_b} g1) P q =
    q
same_find_options (a.all_options h1) (a.one_option g1 _) P q = absurd (not_find_option g1 h1 refl)
same_find_options {c} (a.one_option {n = n_a} {m = m_a} {l = l_a} {option = option_a} {options = options_a} h1 h2) (a.one_option {m = m_b} {l = l_b} {option = option_b} {options = options_b} g1 g2) P q =
    let g2a = same_find_option h1 g1 (λ (m_x : ℕ) (option_x : RecordOption). AreFindOptions c m_x l_b options_b) g2 in
    let qa = same_find_option h1 g1 (λ (m_x : ℕ) (option_x : RecordOption). P l_b (option_x ∷ options_b)) q in
    let qb = same_find_options h2 g2a (λ (l_x : ℕ) (options_x : List RecordOption). P l_x (option_a ∷ options_x)) qa in
    qb
same_find_options (a.one_option h1 _) (a.all_options g1) P q = absurd (not_find_option h1 g1 refl)

pub same_record : {c : Source} {i0 : ℕ} {x1 y1 : ℕ} {x2 y2 : Statement} → IsRecord c i0 x1 x2 → IsRecord c i0 y1 y2 → (P : ℕ → Statement → Type 0) → P y1 y2 → P x1 x2
same_record {c} (a.find {n = n_a} {k = k_a} {j = j_a} {m = m_a} {which = which_a} {buffer = buffer_a} {options = options_a} h1 h2 h3 h4) (a.find {k = k_b} {j = j_b} {m = m_b} {which = which_b} {buffer = buffer_b} {options = options_b} g1 g2 g3 g4) P q =
    let g3b = same_find_which h2 g2 (λ (which_x : FindWhich) (j_x : ℕ). IsName c j_x buffer_b) g3 in
    let qb = same_find_which h2 g2 (λ (which_x : FindWhich) (j_x : ℕ). P m_b (s.Find which_x buffer_b options_b)) q in
    let qc = same_name h3 g3b (λ (buffer_x : Word). P m_b (s.Find which_a buffer_x options_b)) qb in
    let qd = same_find_options h4 g4 (λ (m_x : ℕ) (options_x : List RecordOption). P m_x (s.Find which_a buffer_a options_x)) qc in
    qd
same_record (a.find h1 _ _ _) (a.create g1 _ _ _) P q = absurd (differ h1 g1 refl)
same_record (a.find h1 _ _ _) (a.delete g1 _ _ _) P q = absurd (differ h1 g1 refl)
same_record (a.find h1 _ _ _) (a.release g1 _ _ _) P q = absurd (differ h1 g1 refl)
same_record {c} (a.create {n = n_a} {k = k_a} {j = j_a} {buffer = buffer_a} {quiet = quiet_a} h1 h2 h3 h4) (a.create {k = k_b} {j = j_b} {buffer = buffer_b} {quiet = quiet_b} g1 g2 g3 g4) P q =
    let g3a = same_use h1 g1 (λ (k_x : ℕ). IsName c (k_x + 1) buffer_b) g3 in
    let qc = same_name h3 g3a (λ (buffer_x : Word). P (n_a + 3) (s.Create buffer_x quiet_b)) q in
    let qd = same_word_there h4 g4 refl (λ (quiet_x : Bool). P (n_a + 3) (s.Create buffer_a quiet_x)) qc in
    qd
same_record (a.create h1 _ _ _) (a.find g1 _ _ _) P q = absurd (differ h1 g1 refl)
same_record (a.create _ h2 _ _) (a.delete _ g2 _ _) P q = absurd (differ h2 g2 refl)
same_record (a.create _ h2 _ _) (a.release _ g2 _ _) P q = absurd (differ h2 g2 refl)
same_record {c} (a.delete {n = n_a} {k = k_a} {j = j_a} {buffer = buffer_a} {quiet = quiet_a} h1 h2 h3 h4) (a.delete {k = k_b} {j = j_b} {buffer = buffer_b} {quiet = quiet_b} g1 g2 g3 g4) P q =
    let g3a = same_use h1 g1 (λ (k_x : ℕ). IsName c (k_x + 1) buffer_b) g3 in
    let qc = same_name h3 g3a (λ (buffer_x : Word). P (n_a + 3) (s.Delete buffer_x quiet_b)) q in
    let qd = same_word_there h4 g4 refl (λ (quiet_x : Bool). P (n_a + 3) (s.Delete buffer_a quiet_x)) qc in
    qd
same_record (a.delete h1 _ _ _) (a.find g1 _ _ _) P q = absurd (differ h1 g1 refl)
same_record (a.delete _ h2 _ _) (a.create _ g2 _ _) P q = absurd (differ h2 g2 refl)
same_record (a.delete _ h2 _ _) (a.release _ g2 _ _) P q = absurd (differ h2 g2 refl)
same_record {c} (a.release {n = n_a} {k = k_a} {j = j_a} {buffer = buffer_a} {quiet = quiet_a} h1 h2 h3 h4) (a.release {k = k_b} {j = j_b} {buffer = buffer_b} {quiet = quiet_b} g1 g2 g3 g4) P q =
    let g3a = same_use h1 g1 (λ (k_x : ℕ). IsName c (k_x + 1) buffer_b) g3 in
    let qc = same_name h3 g3a (λ (buffer_x : Word). P (n_a + 3) (s.Release buffer_x quiet_b)) q in
    let qd = same_word_there h4 g4 refl (λ (quiet_x : Bool). P (n_a + 3) (s.Release buffer_a quiet_x)) qc in
    qd
same_record (a.release h1 _ _ _) (a.find g1 _ _ _) P q = absurd (differ h1 g1 refl)
same_record (a.release _ h2 _ _) (a.create _ g2 _ _) P q = absurd (differ h2 g2 refl)
same_record (a.release _ h2 _ _) (a.delete _ g2 _ _) P q = absurd (differ h2 g2 refl)

pub same_argument : {c : Source} {i0 : ℕ} {x1 y1 : ℕ} {x2 y2 : Argument} → IsArgument c i0 x1 x2 → IsArgument c i0 y1 y2 → (P : ℕ → Argument → Type 0) → P y1 y2 → P x1 x2
same_argument {c} (a.input {n = n_a} {k = k_a} {m = m_a} {at = at_a} {input = input_a} {e = e_a} h1 h2 h3 h4) (a.input {k = k_b} {m = m_b} {at = at_b} {input = input_b} {e = e_b} g1 g2 g3 g4) P q =
    let g2a = same_use h1 g1 (λ (k_x : ℕ). IsAt c k_x at_b) g2 in
    let qb = same_at h2 g2a (λ (at_x : Place). P m_b (s.Input at_x e_b)) q in
    let qd = same_expression h4 g4 (λ (m_x : ℕ) (e_x : Expression). P m_x (s.Input at_a e_x)) qb in
    qd
same_argument (a.input h1 _ _ _) (a.output g1 _ _ _) P q = absurd (differ h1 g1 refl)
same_argument (a.input h1 _ _ _) (a.input_output g1 _ _ _) P q = absurd (differ h1 g1 refl)
same_argument {c} (a.output {n = n_a} {k = k_a} {j = j_a} {at = at_a} {name = name_a} h1 h2 h3 h4) (a.output {k = k_b} {j = j_b} {at = at_b} {name = name_b} g1 g2 g3 g4) P q =
    let g2a = same_use h1 g1 (λ (k_x : ℕ). IsAt c k_x at_b) g2 in
    let g4a = same_use h1 g1 (λ (k_x : ℕ). IsName c (k_x + 1) name_b) g4 in
    let qb = same_at h2 g2a (λ (at_x : Place). P (n_a + 2) (s.Output at_x name_b)) q in
    let qd = same_name h4 g4a (λ (name_x : Word). P (n_a + 2) (s.Output at_a name_x)) qb in
    qd
same_argument (a.output h1 _ _ _) (a.input g1 _ _ _) P q = absurd (differ h1 g1 refl)
same_argument (a.output _ _ h3 _) (a.input_output _ _ g3 _) P q = absurd (differ h3 g3 refl)
same_argument {c} (a.input_output {n = n_a} {k = k_a} {j = j_a} {at = at_a} {name = name_a} h1 h2 h3 h4) (a.input_output {k = k_b} {j = j_b} {at = at_b} {name = name_b} g1 g2 g3 g4) P q =
    let g2a = same_use h1 g1 (λ (k_x : ℕ). IsAt c k_x at_b) g2 in
    let g4a = same_use h1 g1 (λ (k_x : ℕ). IsName c (k_x + 1) name_b) g4 in
    let qb = same_at h2 g2a (λ (at_x : Place). P (n_a + 2) (s.InputOutput at_x name_b)) q in
    let qd = same_name h4 g4a (λ (name_x : Word). P (n_a + 2) (s.InputOutput at_a name_x)) qb in
    qd
same_argument (a.input_output h1 _ _ _) (a.input g1 _ _ _) P q = absurd (differ h1 g1 refl)
same_argument (a.input_output _ _ h3 _) (a.output _ _ g3 _) P q = absurd (differ h3 g3 refl)

pub same_argument_at : {c : Source} (n m l : ℕ) (a b : Argument) → IsArgument c n m a → IsArgument c n l b → (P : ℕ → Argument → Type 0) → P l b → P m a
same_argument_at n m l a b h g P q = same_argument h g P q

pub same_run_arguments : {c : Source} {i0 : ℕ} {x1 y1 : ℕ} {x2 y2 : List Argument} → AreRunArguments c i0 x1 x2 → AreRunArguments c i0 y1 y2 → (P : ℕ → List Argument → Type 0) → P y1 y2 → P x1 x2
same_run_arguments {c} (a.no_list {n = n_a} {k = k_a} h1) (a.no_list {k = k_b} g1) P q =
    q
same_run_arguments (a.no_list h1) (a.empty_list g1 _) P q = absurd (differ h1 g1 refl)
same_run_arguments (a.no_list h1) (a.list g1 _ _ _) P q = absurd (differ h1 g1 refl)
same_run_arguments {c} (a.empty_list {n = n_a} {k = k_a} {j = j_a} h1 h2) (a.empty_list {k = k_b} {j = j_b} g1 g2) P q =
    q
same_run_arguments (a.empty_list h1 _) (a.no_list g1) P q = absurd (differ h1 g1 refl)
same_run_arguments (a.empty_list _ h2) (a.list _ g2 _ _) P q = absurd (differ h2 g2 refl)
same_run_arguments {c} (a.list {n = n_a} {k = k_a} {j = j_a} {m = m_a} {l = l_a} {argument = argument_a} {others = others_a} h1 h2 h3 h4) (a.list {k = k_b} {j = j_b} {m = m_b} {l = l_b} {argument = argument_b} {others = others_b} g1 g2 g3 g4) P q =
    let g4c = same_argument h3 g3 (λ (m_x : ℕ) (argument_x : Argument). AreOtherArguments c m_x l_b others_b) g4 in
    let qc = same_argument h3 g3 (λ (m_x : ℕ) (argument_x : Argument). P l_b (argument_x ∷ others_b)) q in
    let qd = same_row same_argument_at h4 g4c refl (λ (l_x : ℕ) (others_x : List Argument). P l_x (argument_a ∷ others_x)) qc in
    qd
same_run_arguments (a.list h1 _ _ _) (a.no_list g1) P q = absurd (differ h1 g1 refl)
same_run_arguments (a.list _ h2 _ _) (a.empty_list _ g2) P q = absurd (differ h2 g2 refl)

pub same_flow : {c : Source} {i0 : ℕ} {x1 y1 : ℕ} {x2 y2 : Statement} → IsFlow c i0 x1 x2 → IsFlow c i0 y1 y2 → (P : ℕ → Statement → Type 0) → P y1 y2 → P x1 x2
same_flow {c} (a.undo {n = n_a} {k = k_a} {m = m_a} {at = at_a} {label = label_a} {action = action_a} h1 h2 h3 h4) (a.undo {k = k_b} {m = m_b} {at = at_b} {label = label_b} {action = action_b} g1 g2 g3 g4) P q =
    let g2a = same_use h1 g1 (λ (k_x : ℕ). IsAt c k_x at_b) g2 in
    let qb = same_at h2 g2a (λ (at_x : Place). P m_b (s.Undo at_x label_b action_b)) q in
    let qc = same_name_there h3 g3 refl (λ (label_x : Option Word). P m_b (s.Undo at_a label_x action_b)) qb in
    let qd = same_action_there h4 g4 (λ (m_x : ℕ) (action_x : Option Action). P m_x (s.Undo at_a label_a action_x)) qc in
    qd
same_flow (a.undo h1 _ _ _) (a.leave g1 _ _ _) P q = absurd (differ h1 g1 refl)
same_flow (a.undo h1 _ _ _) (a.next g1 _ _ _) P q = absurd (differ h1 g1 refl)
same_flow (a.undo h1 _ _ _) (a.return g1 _ _ _) P q = absurd (differ h1 g1 refl)
same_flow (a.undo h1 _ _ _) (a.stop g1) P q = absurd (differ h1 g1 refl)
same_flow (a.undo h1 _ _ _) (a.run g1 _ _ _) P q = absurd (differ h1 g1 refl)
same_flow {c} (a.leave {n = n_a} {k = k_a} {j = j_a} {at = at_a} {label = label_a} h1 h2 h3 h4) (a.leave {k = k_b} {j = j_b} {at = at_b} {label = label_b} g1 g2 g3 g4) P q =
    let g2a = same_use h1 g1 (λ (k_x : ℕ). IsAt c k_x at_b) g2 in
    let qb = same_at h2 g2a (λ (at_x : Place). P (n_a + 3) (s.LeaveBlock at_x label_b)) q in
    let qd = same_name_there h4 g4 refl (λ (label_x : Option Word). P (n_a + 3) (s.LeaveBlock at_a label_x)) qb in
    qd
same_flow (a.leave h1 _ _ _) (a.undo g1 _ _ _) P q = absurd (differ h1 g1 refl)
same_flow (a.leave _ _ h3 _) (a.next _ _ g3 _) P q = absurd (differ h3 g3 refl)
same_flow (a.leave h1 _ _ _) (a.return g1 _ _ _) P q = absurd (differ h1 g1 refl)
same_flow (a.leave h1 _ _ _) (a.stop g1) P q = absurd (differ h1 g1 refl)
same_flow (a.leave h1 _ _ _) (a.run g1 _ _ _) P q = absurd (differ h1 g1 refl)
same_flow {c} (a.next {n = n_a} {k = k_a} {j = j_a} {at = at_a} {label = label_a} h1 h2 h3 h4) (a.next {k = k_b} {j = j_b} {at = at_b} {label = label_b} g1 g2 g3 g4) P q =
    let g2a = same_use h1 g1 (λ (k_x : ℕ). IsAt c k_x at_b) g2 in
    let qb = same_at h2 g2a (λ (at_x : Place). P (n_a + 3) (s.NextBlock at_x label_b)) q in
    let qd = same_name_there h4 g4 refl (λ (label_x : Option Word). P (n_a + 3) (s.NextBlock at_a label_x)) qb in
    qd
same_flow (a.next h1 _ _ _) (a.undo g1 _ _ _) P q = absurd (differ h1 g1 refl)
same_flow (a.next _ _ h3 _) (a.leave _ _ g3 _) P q = absurd (differ h3 g3 refl)
same_flow (a.next h1 _ _ _) (a.return g1 _ _ _) P q = absurd (differ h1 g1 refl)
same_flow (a.next h1 _ _ _) (a.stop g1) P q = absurd (differ h1 g1 refl)
same_flow (a.next h1 _ _ _) (a.run g1 _ _ _) P q = absurd (differ h1 g1 refl)
same_flow {c} (a.return {n = n_a} {k = k_a} {m = m_a} {at = at_a} {error = error_a} {value = value_a} h1 h2 h3 h4) (a.return {k = k_b} {m = m_b} {at = at_b} {error = error_b} {value = value_b} g1 g2 g3 g4) P q =
    let g2a = same_use h1 g1 (λ (k_x : ℕ). IsAt c k_x at_b) g2 in
    let qb = same_at h2 g2a (λ (at_x : Place). P m_b (s.ReturnIt at_x error_b value_b)) q in
    let qc = same_word_there h3 g3 refl (λ (error_x : Bool). P m_b (s.ReturnIt at_a error_x value_b)) qb in
    let qd = same_value_there h4 g4 (λ (m_x : ℕ) (value_x : Option Expression). P m_x (s.ReturnIt at_a error_a value_x)) qc in
    qd
same_flow (a.return h1 _ _ _) (a.undo g1 _ _ _) P q = absurd (differ h1 g1 refl)
same_flow (a.return h1 _ _ _) (a.leave g1 _ _ _) P q = absurd (differ h1 g1 refl)
same_flow (a.return h1 _ _ _) (a.next g1 _ _ _) P q = absurd (differ h1 g1 refl)
same_flow (a.return h1 _ _ _) (a.stop g1) P q = absurd (differ h1 g1 refl)
same_flow (a.return h1 _ _ _) (a.run g1 _ _ _) P q = absurd (differ h1 g1 refl)
same_flow {c} (a.stop {n = n_a} {k = k_a} h1) (a.stop {k = k_b} g1) P q =
    q
same_flow (a.stop h1) (a.undo g1 _ _ _) P q = absurd (differ h1 g1 refl)
same_flow (a.stop h1) (a.leave g1 _ _ _) P q = absurd (differ h1 g1 refl)
same_flow (a.stop h1) (a.next g1 _ _ _) P q = absurd (differ h1 g1 refl)
same_flow (a.stop h1) (a.return g1 _ _ _) P q = absurd (differ h1 g1 refl)
same_flow (a.stop h1) (a.run g1 _ _ _) P q = absurd (differ h1 g1 refl)
same_flow {c} (a.run {n = n_a} {k = k_a} {m = m_a} {procedure = procedure_a} {arguments = arguments_a} {quiet = quiet_a} h1 h2 h3 h4) (a.run {k = k_b} {m = m_b} {procedure = procedure_b} {arguments = arguments_b} {quiet = quiet_b} g1 g2 g3 g4) P q =
    let g2a = same_use h1 g1 (λ (k_x : ℕ). IsName c (k_x + 1) procedure_b) g2 in
    let qb = same_name h2 g2a (λ (procedure_x : Word). P (m_b + 1) (s.Run procedure_x arguments_b quiet_b)) q in
    let g4c = same_run_arguments h3 g3 (λ (m_x : ℕ) (arguments_x : List Argument). IsQuiet c m_x quiet_b) g4 in
    let qc = same_run_arguments h3 g3 (λ (m_x : ℕ) (arguments_x : List Argument). P (m_x + 1) (s.Run procedure_a arguments_x quiet_b)) qb in
    let qd = same_word_there h4 g4c refl (λ (quiet_x : Bool). P (m_a + 1) (s.Run procedure_a arguments_a quiet_x)) qc in
    qd
same_flow (a.run h1 _ _ _) (a.undo g1 _ _ _) P q = absurd (differ h1 g1 refl)
same_flow (a.run h1 _ _ _) (a.leave g1 _ _ _) P q = absurd (differ h1 g1 refl)
same_flow (a.run h1 _ _ _) (a.next g1 _ _ _) P q = absurd (differ h1 g1 refl)
same_flow (a.run h1 _ _ _) (a.return g1 _ _ _) P q = absurd (differ h1 g1 refl)
same_flow (a.run h1 _ _ _) (a.stop g1) P q = absurd (differ h1 g1 refl)
