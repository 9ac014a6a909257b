-- A text without { and & is its own expansion, and each place of it is its own.
use Rattle.std.proofs.Common.{◌≡◌, ◌≤◌, ◌<◌, ◌+◌, ◌⊎◌, ◌==◌, ◌&&◌, ℕ, zero, suc, Bool, true, false, if◌then◌else◌, List, [], ◌∷◌, Option, Some, None, refl, sym, ap, ◌∙◌, subst, length, take, arith, inl, inr}
use Rattle.std.specs.Prelude.{slice_get}
use Rattle.std.proofs.lemmas.Bool.{cases_lt}
use Rattle.abl_base.specs.declared.limits.TheConstants.{MAX_FILE_BYTES}
use Rattle.abl_base.specs.declared.place.Place.{Place}
use Rattle.preprocessor.specs.declared.expanded.Origin.{Origin}
use Rattle.preprocessor.specs.declared.texts.Mark.{Mark}
use Rattle.preprocessor.specs.declared.texts.NamedText.{NamedText}
use Rattle.preprocessor.specs.declared.texts.Outcome.{Outcome}
use Rattle.preprocessor.specs.declared.texts.Outcome.TheVariants.{Gives}
use Rattle.preprocessor.specs.Answers.{end_of, or_end, origin_of_place, origins_of}
use Rattle.preprocessor.specs.Expansion.{expansion}
use Rattle.preprocessor.specs.Laws.{is_plain, taken}
use Rattle.preprocessor.specs.Places.{moved, offset_from, offset_of, past, place_at, same_place, start}
use Rattle.preprocessor.specs.Texts.{bytes_of}
use Rattle.preprocessor.proofs.Plain.{plain_source}
use Rattle.source_files.specs.Expansions.{IsText, bytes_in, taken_from}
use Rattle.source_files.specs.Laws.{IsItself, one_text}

-- ---- a place after another

abbrev After : Place → Place → Type 0
After p q = (p.line < q.line) ⊎ ((p.line ≡ q.line) × (p.column < q.column))

after_further : (p q r : Place) → After p q → After q r → After p r
after_further p q r (inl a) (inl b) = inl (omega (arith, a, b))
after_further p q r (inl a) (inr b) = inl (omega (arith, a, b.0))
after_further p q r (inr a) (inl b) = inl (omega (arith, a.0, b))
after_further p q r (inr a) (inr b) = inr (a.0 ∙ b.0, omega (arith, a.1, b.1))

moved_so : (p : Place) (feed : Bool) (q : Place) → q ≡ (if feed then record { line = p.line + 1; column = 1 } else record { line = p.line; column = p.column + 1 }) → After p q
moved_so p true q is = let e : q.line ≡ p.line + 1 = ap (λ (x : Place). x.line) is in inl (omega (arith, e))
moved_so p false q is =
    let e : q.line ≡ p.line = ap (λ (x : Place). x.line) is in
    let f : q.column ≡ p.column + 1 = ap (λ (x : Place). x.column) is in
    inr (sym e, omega (arith, f))

moved_after : (p : Place) (b : ℕ) → After p (moved p b)
moved_after p b = moved_so p (b == 10) (moved p b) refl

past_after : (p q : Place) (bs : List ℕ) → After p q → After p (past q bs)
past_after p q [] h = h
past_after p q (b ∷ bs) h = past_after p (moved q b) bs (after_further p q (moved q b) h (moved_after q b))

lt_apart : (m n : ℕ) → m < n → (m == n) ≡ false
lt_apart m n lt = grind (arith, lt)

and_false : (x : Bool) → (x && false) ≡ false
and_false true = refl
and_false false = refl

apart : (p q : Place) → After p q → same_place p q ≡ false
apart p q (inl lt) = ap (λ (x : Bool). x && (p.column == q.column)) (lt_apart p.line q.line lt)
apart p q (inr both) = ap (λ (x : Bool). (p.line == q.line) && x) (lt_apart p.column q.column both.1) ∙ and_false (p.line == q.line)

eq_self : (n : ℕ) → (n == n) ≡ true
eq_self n = grind arith

same_self : (p : Place) → same_place p p ≡ true
same_self p = ap (λ (x : Bool). x && (p.column == p.column)) (eq_self p.line) ∙ eq_self p.column

-- ---- offsets of places

offset_at : (p : Place) (bs : List ℕ) (at : ℕ) → at ≤ length bs → offset_from p bs (past p (take at bs)) ≡ at
offset_at p [] zero le = refl
offset_at p [] (suc at) le = absurd (omega (arith, le))
offset_at p (b ∷ bs) zero le = ap (λ (x : Bool). if x then 0 else 1 + offset_from (moved p b) bs p) (same_self p)
offset_at p (b ∷ bs) (suc at) le =
    let q : Place = past (moved p b) (take at bs) in
    let later : After p q = past_after p (moved p b) (take at bs) (moved_after p b) in
    let rest : offset_from (moved p b) bs q ≡ at = offset_at (moved p b) bs at (omega (arith, le)) in
    ap (λ (x : Bool). if x then 0 else 1 + offset_from (moved p b) bs q) (apart p q later) ∙ omega (arith, rest)

-- ---- what was taken

taken_bytes : (text : ℕ) (p : Place) (bs : List ℕ) → bytes_of (taken text p bs) ≡ bs
taken_bytes text p [] = refl
taken_bytes text p (b ∷ bs) = ap (λ xs. b ∷ xs) (taken_bytes text (moved p b) bs)

origin_taken : (end p : Place) (bs : List ℕ) (at : ℕ) → at ≤ length bs → end ≡ past p bs → or_end end (slice_get (origins_of (taken 0 p bs)) at) ≡ record { text = 0; place = past p (take at bs) }
origin_taken end p [] zero le is = ap (λ (x : Place). let r : Origin = record { text = 0; place = x } in r) is
origin_taken end p [] (suc at) le is = absurd (omega (arith, le))
origin_taken end p (b ∷ bs) zero le is = refl
origin_taken end p (b ∷ bs) (suc at) le is = origin_taken end (moved p b) bs at (omega (arith, le)) is

-- ---- the law

pub plain_itself : (name bytes : List ℕ) → is_plain bytes ≡ true → length bytes ≤ MAX_FILE_BYTES → IsItself name bytes
plain_itself name bytes plain short =
    let texts : List NamedText = one_text name bytes in
    let is = plain_source texts plain short in
    let given : bytes_of (taken 0 start bytes) ≡ bytes = taken_bytes 0 start bytes in
    record {
      expands = subst IsText (sym is.1) tt;
      same = ap bytes_in is.1 ∙ given;
      places = λ at le.
          ap (λ (o : Outcome). taken_from texts o (place_at bytes at)) is.1
          ∙ ap (λ (bs : List ℕ). origin_of_place bs (origins_of (taken 0 start bytes)) (end_of texts) (place_at bytes at)) given
          ∙ ap (λ n. or_end (end_of texts) (slice_get (origins_of (taken 0 start bytes)) n)) (offset_at start bytes at le)
          ∙ origin_taken (end_of texts) start bytes at le refl;
    }
