-- Which section a text is appended to, and which one is opened.
use Rattle.std.proofs.Common.{◌≡◌, ◌<◌, ℕ, zero, suc, List, [], ◌∷◌, ◌++◌, Bool, true, false, Option, Some, None, refl, sym, ap, ◌∙◌, subst, arith, eq-eqb}
use Rattle.std.proofs.lemmas.Bool.{ne_eqb}
use Rattle.std.proofs.lemmas.Bool.Decides.{eqb_tells}
use Rattle.std.proofs.Common.{inl, inr}
use Rattle.std.specs.Prelude.{◌==◌, Result, Ok, Err, OnOk, map, length, slice_index_or}
use Rattle.block_meaning.specs.declared.wants.Piece.{Piece}
use Rattle.block_meaning.specs.declared.wants.Piece.TheVariants.{Wrote, Opened}
use Rattle.client_output.specs.Sections.{OutputBytes, is_same, with_text, emptied_unless, opened_or, with_opened, with_piece, with_pieces, longer_if, named}
use Rattle.client_output.specs.Written.{longer_at, emptied_at}
use Rattle.client_output.specs.declared.section.Section.{Section}

pub more_pieces : (ps : List Piece) (x : Piece) (ss : List OutputBytes) → with_pieces (ps ++ x ∷ []) ss ≡ with_piece x (with_pieces ps ss)
more_pieces [] x ss = refl
more_pieces (p ∷ ps) x ss = more_pieces ps x (with_piece p ss)

-- ---- outputs

-- the outputs of sections
abbrev pub outs : List OutputBytes → List (Option ℕ)
outs ss = map (λ (s : OutputBytes). s.output) ss

-- an output that is none of these
abbrev pub Lacks : Option ℕ → List (Option ℕ) → Type 0
Lacks o [] = Unit {0}
Lacks o (x ∷ xs) = (is_same o x ≡ false) × Lacks o xs

abbrev pub AreDistinct : List (Option ℕ) → Type 0
AreDistinct [] = Unit {0}
AreDistinct (x ∷ xs) = Lacks x xs × AreDistinct xs

eqb-comm : (m n : ℕ) → (m == n) ≡ (n == m)
eqb-comm m n = elim (eqb_tells m n) [ inl h ↦ h.0 ∙ sym (eq-eqb n m (sym h.1)) | inr h ↦ h.0 ∙ sym (ne_eqb n m (λ e. h.1 (sym e))) ]

same_comm : (a b : Option ℕ) → is_same a b ≡ is_same b a
same_comm None None = refl
same_comm None (Some n) = refl
same_comm (Some m) None = refl
same_comm (Some m) (Some n) = eqb-comm m n

pub same_refl : (a : Option ℕ) → is_same a a ≡ true
same_refl None = refl
same_refl (Some n) = eq-eqb n n refl

-- one more output at the end, unless it is among them
abbrev opens_or : Bool → Option ℕ → List (Option ℕ) → List (Option ℕ) → List (Option ℕ)
opens_or true o os rest = o ∷ os
opens_or false o os rest = o ∷ rest

abbrev pub opens : ℕ → List (Option ℕ) → List (Option ℕ)
opens n [] = Some n ∷ []
opens n (o ∷ os) = opens_or (is_same (Some n) o) o os (opens n os)

longer_output : (b : Bool) (bytes : List ℕ) (s : OutputBytes) → (longer_if b bytes s).output ≡ s.output
longer_output true bytes s = refl
longer_output false bytes s = refl

pub text_outs : (o : Option ℕ) (bytes : List ℕ) (ss : List OutputBytes) → outs (with_text o bytes ss) ≡ outs ss
text_outs o bytes [] = refl
text_outs o bytes (s ∷ ss) =
    ap (λ x. x ∷ outs (with_text o bytes ss)) (longer_output (is_same o s.output) bytes s)
    ∙ ap (λ xs. s.output ∷ xs) (text_outs o bytes ss)

emptied_output : (append : Bool) (s : OutputBytes) → (emptied_unless append s).output ≡ s.output
emptied_output true s = refl
emptied_output false s = refl

opened_outs_by : (b append : Bool) (s : OutputBytes) (ss rest : List OutputBytes) → outs (opened_or b append s ss rest) ≡ opens_or b s.output (outs ss) (outs rest)
opened_outs_by true append s ss rest = ap (λ x. x ∷ outs ss) (emptied_output append s)
opened_outs_by false append s ss rest = refl

pub opened_outs : (n : ℕ) (append : Bool) (ss : List OutputBytes) → outs (with_opened n append ss) ≡ opens n (outs ss)
opened_outs n append [] = refl
opened_outs n append (s ∷ ss) =
    opened_outs_by (is_same (Some n) s.output) append s ss (with_opened n append ss)
    ∙ ap (λ rest. opens_or (is_same (Some n) s.output) s.output (outs ss) rest) (opened_outs n append ss)

lacks_opens_by : (o x : Option ℕ) (xs rest : List (Option ℕ)) (b : Bool) → Lacks o (x ∷ xs) → Lacks o rest → Lacks o (opens_or b x xs rest)
lacks_opens_by o x xs rest true h r = h
lacks_opens_by o x xs rest false h r = (h.0, r)

lacks_opens : (o : Option ℕ) (n : ℕ) (os : List (Option ℕ)) → Lacks o os → is_same o (Some n) ≡ false → Lacks o (opens n os)
lacks_opens o n [] h e = (e, tt)
lacks_opens o n (x ∷ xs) h e = lacks_opens_by o x xs (opens n xs) (is_same (Some n) x) h (lacks_opens o n xs h.1 e)

distinct_opens_by : (n : ℕ) (x : Option ℕ) (xs : List (Option ℕ)) (b : Bool) → is_same (Some n) x ≡ b → AreDistinct (x ∷ xs) → AreDistinct (opens n xs) → AreDistinct (opens_or b x xs (opens n xs))
distinct_opens_by n x xs true e h r = h
distinct_opens_by n x xs false e h r = (lacks_opens x n xs h.0 (same_comm x (Some n) ∙ e), r)

distinct_opens : (n : ℕ) (os : List (Option ℕ)) → AreDistinct os → AreDistinct (opens n os)
distinct_opens n [] h = (tt, tt)
distinct_opens n (x ∷ xs) h = distinct_opens_by n x xs (is_same (Some n) x) refl h (distinct_opens n xs h.1)

piece_distinct : (x : Piece) (ss : List OutputBytes) → AreDistinct (outs ss) → AreDistinct (outs (with_piece x ss))
piece_distinct (Wrote o bytes) ss h = subst AreDistinct (sym (text_outs o bytes ss)) h
piece_distinct (Opened n append) ss h = subst AreDistinct (sym (opened_outs n append ss)) (distinct_opens n (outs ss) h)

pub pieces_distinct : (ps : List Piece) (ss : List OutputBytes) → AreDistinct (outs ss) → AreDistinct (outs (with_pieces ps ss))
pieces_distinct [] ss h = h
pieces_distinct (p ∷ ps) ss h = pieces_distinct ps (with_piece p ss) (piece_distinct p ss h)

-- ---- a text

other_longer : (b : Bool) (bytes : List ℕ) (s : OutputBytes) → b ≡ false → longer_if b bytes s ≡ s
other_longer true bytes s e = absurd (cc)
other_longer false bytes s e = refl

same_longer : (b : Bool) (bytes : List ℕ) (s : OutputBytes) → b ≡ true → longer_if b bytes s ≡ (let x : OutputBytes = record s { bytes = s.bytes ++ bytes } in x)
same_longer true bytes s e = refl
same_longer false bytes s e = absurd (cc)

-- an output without a section takes no text
pub lacks_text : (o : Option ℕ) (bytes : List ℕ) (ss : List OutputBytes) → Lacks o (outs ss) → with_text o bytes ss ≡ ss
lacks_text o bytes [] h = refl
lacks_text o bytes (s ∷ ss) h =
    ap (λ x. x ∷ with_text o bytes ss) (other_longer (is_same o s.output) bytes s h.0)
    ∙ ap (λ xs. s ∷ xs) (lacks_text o bytes ss h.1)

lacks_at : (x o : Option ℕ) (os : List (Option ℕ)) (i : ℕ) → Lacks x os → i < length os → slice_index_or os i None ≡ o → is_same x o ≡ false
lacks_at x o [] i h l e = absurd (omega arith)
lacks_at x o (y ∷ ys) zero h l e = subst (λ v. is_same x v ≡ false) e h.0
lacks_at x o (y ∷ ys) (suc i) h l e = lacks_at x o ys i h.1 (omega arith) e

-- the text is appended to the section at the place of its output
pub text_at : (names : List (List ℕ)) (o : Option ℕ) (bytes : List ℕ) (ss : List OutputBytes) (i : ℕ) → AreDistinct (outs ss) → i < length (outs ss) → slice_index_or (outs ss) i None ≡ o → map (named names) (with_text o bytes ss) ≡ longer_at i bytes (map (named names) ss)
text_at names o bytes [] i h l e = absurd (omega arith)
text_at names o bytes (s ∷ ss) zero h l e =
    ap (λ x. named names x ∷ map (named names) (with_text o bytes ss)) (same_longer (is_same o s.output) bytes s (subst (λ v. is_same o v ≡ true) (sym e) (same_refl o)))
    ∙ ap (λ (xs : List OutputBytes). let x : OutputBytes = record s { bytes = s.bytes ++ bytes } in named names x ∷ map (named names) xs) (lacks_text o bytes ss (subst (λ v. Lacks v (outs ss)) e h.0))
text_at names o bytes (s ∷ ss) (suc i) h l e =
    ap (λ x. named names x ∷ map (named names) (with_text o bytes ss)) (other_longer (is_same o s.output) bytes s (same_comm o s.output ∙ lacks_at s.output o (outs ss) i h.0 (omega arith) e))
    ∙ ap (λ xs. named names s ∷ xs) (text_at names o bytes ss i h.1 (omega arith) e)

-- ---- an opening

-- what it does to the section at the place
abbrev pub opened_at : Bool → ℕ → List Section → List Section
opened_at true i ss = ss
opened_at false i ss = emptied_at i ss

-- with_opened where the first section is that of the output, or is another one
first_opened : (b append : Bool) (s : OutputBytes) (ss rest : List OutputBytes) → b ≡ true → opened_or b append s ss rest ≡ emptied_unless append s ∷ ss
first_opened true append s ss rest e = refl
first_opened false append s ss rest e = absurd (cc)

other_opened : (b append : Bool) (s : OutputBytes) (ss rest : List OutputBytes) → b ≡ false → opened_or b append s ss rest ≡ s ∷ rest
other_opened true append s ss rest e = absurd (cc)
other_opened false append s ss rest e = refl

emptied_first : (names : List (List ℕ)) (append : Bool) (s : OutputBytes) (ss : List OutputBytes) → map (named names) (emptied_unless append s ∷ ss) ≡ opened_at append 0 (map (named names) (s ∷ ss))
emptied_first names true s ss = refl
emptied_first names false s ss = refl

opened_more : (append : Bool) (i : ℕ) (s : Section) (ss : List Section) → s ∷ opened_at append i ss ≡ opened_at append (suc i) (s ∷ ss)
opened_more true i s ss = refl
opened_more false i s ss = refl

pub open_at : (names : List (List ℕ)) (n : ℕ) (append : Bool) (ss : List OutputBytes) (i : ℕ) → AreDistinct (outs ss) → i < length (outs ss) → slice_index_or (outs ss) i None ≡ Some n → map (named names) (with_opened n append ss) ≡ opened_at append i (map (named names) ss)
open_at names n append [] i h l e = absurd (omega arith)
open_at names n append (s ∷ ss) zero h l e =
    ap (map (named names)) (first_opened (is_same (Some n) s.output) append s ss (with_opened n append ss) (subst (λ v. is_same (Some n) v ≡ true) (sym e) (same_refl (Some n))))
    ∙ emptied_first names append s ss
open_at names n append (s ∷ ss) (suc i) h l e =
    ap (map (named names)) (other_opened (is_same (Some n) s.output) append s ss (with_opened n append ss) (same_comm (Some n) s.output ∙ lacks_at s.output (Some n) (outs ss) i h.0 (omega arith) e))
    ∙ ap (λ xs. named names s ∷ xs) (open_at names n append ss i h.1 (omega arith) e)
    ∙ opened_more append i (named names s) (map (named names) ss)

-- the first opening adds a section
pub open_new : (n : ℕ) (append : Bool) (ss : List OutputBytes) → Lacks (Some n) (outs ss) → with_opened n append ss ≡ ss ++ (record { output = Some n; bytes = [] }) ∷ []
open_new n append [] h = refl
open_new n append (s ∷ ss) h =
    other_opened (is_same (Some n) s.output) append s ss (with_opened n append ss) h.0
    ∙ ap (λ xs. s ∷ xs) (open_new n append ss h.1)

opens_other : (b : Bool) (o : Option ℕ) (os rest : List (Option ℕ)) → b ≡ false → opens_or b o os rest ≡ o ∷ rest
opens_other true o os rest e = absurd (cc)
opens_other false o os rest e = refl

pub opens_new : (n : ℕ) (os : List (Option ℕ)) → Lacks (Some n) os → opens n os ≡ os ++ Some n ∷ []
opens_new n [] h = refl
opens_new n (o ∷ os) h = opens_other (is_same (Some n) o) o os (opens n os) h.0 ∙ ap (λ xs. o ∷ xs) (opens_new n os h.1)

opens_known_by : (b : Bool) (o : Option ℕ) (os rest : List (Option ℕ)) → rest ≡ os → opens_or b o os rest ≡ o ∷ os
opens_known_by true o os rest e = refl
opens_known_by false o os rest e = ap (λ xs. o ∷ xs) e

opens_first : (b : Bool) (o : Option ℕ) (os rest : List (Option ℕ)) → b ≡ true → opens_or b o os rest ≡ o ∷ os
opens_first true o os rest e = refl
opens_first false o os rest e = absurd (cc)

-- a later one adds none
pub opens_known : (n : ℕ) (os : List (Option ℕ)) (i : ℕ) → i < length os → slice_index_or os i None ≡ Some n → opens n os ≡ os
opens_known n [] i l e = absurd (omega arith)
opens_known n (o ∷ os) zero l e = opens_first (is_same (Some n) o) o os (opens n os) (subst (λ v. is_same (Some n) v ≡ true) (sym e) (same_refl (Some n)))
opens_known n (o ∷ os) (suc i) l e = opens_known_by (is_same (Some n) o) o os (opens n os) (opens_known n os i (omega arith) e)

pub on_ok : {A E : Type 0} {P Q : Type 0} (r : Result A E) → (P → Q) → OnOk r P → OnOk r Q
on_ok (Ok x) f p = f p
on_ok (Err e) f p = p

pub on_ok_both : {A E : Type 0} {P Q R : Type 0} (r : Result A E) → (P → Q → R) → OnOk r P → OnOk r Q → OnOk r R
on_ok_both (Ok x) f p q = f p q
on_ok_both (Err e) f p q = p
