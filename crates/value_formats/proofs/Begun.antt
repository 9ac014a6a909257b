-- How the first line of an input changes when a byte is prepended.
use Rattle.std.proofs.Common.{◌≡◌, ℕ, Bool, true, false, ◌&&◌, ◌||◌, ◌==◌, inl, inr, if◌then◌else◌, List, [], ◌∷◌, ◌++◌, drop, refl, sym, ap, ◌∙◌, subst, append_assoc, append-nil}
use Rattle.std.proofs.lemmas.Bool.{false≢true, eqb-true, and_from, and_parts, or_parts}
use Rattle.value_formats.specs.declared.element.Element.{Element}
use Rattle.value_formats.specs.declared.element.Element.TheVariants.{Bare, Quoted}
use Rattle.value_formats.specs.Lines.{is_blank, starts, starts_end, after_end, Begins, Spells}

-- prepends a byte
abbrev pub before : ℕ → List ℕ → List ℕ
before b xs = b ∷ xs

-- ---- the beginning

begins_more : (closed : Bool) (b c : ℕ) (bs cs rest : List ℕ) → Begins closed bs (c ∷ cs) rest → Begins closed (b ∷ bs) (b ∷ c ∷ cs) rest
begins_more true b c bs cs rest (inl h) = inl (ap (before b) h.0, h.1)
begins_more true b c bs cs rest (inr (inl h)) = inr (inl (ap (before b) h))
begins_more true b c bs cs rest (inr (inr h)) = inr (inr (ap (before b) h.0, h.1))
begins_more false b c bs cs rest h = (ap (before b) h.0, h.1)

-- a byte prepended to a line that is not empty
pub begins_inside : (closed : Bool) (b : ℕ) (bs line rest : List ℕ) → (line ≡ [] → ⊥) → Begins closed bs line rest → Begins closed (b ∷ bs) (b ∷ line) rest
begins_inside closed b bs [] rest some h = absurd (some refl)
begins_inside closed b bs (c ∷ cs) rest some h = begins_more closed b c bs cs rest h

and_true : (t : Bool) → (t && true) ≡ false → t ≡ false
and_true true h = h
and_true false h = refl

no_return : (b : ℕ) (bs rest : List ℕ) → starts_end (b ∷ bs) ≡ false → bs ≡ 10 ∷ rest → (b == 13) ≡ false
no_return b bs rest t e =
    let u : ((b == 10) || ((b == 13) && true)) ≡ false = subst (λ (xs : List ℕ). starts_end (b ∷ xs) ≡ false) e t in
    and_true (b == 13) (or_parts (b == 10) ((b == 13) && true) u).1

-- a prepended byte that does not begin a line end
pub begins_before : (closed : Bool) (b : ℕ) (bs line rest : List ℕ) → starts_end (b ∷ bs) ≡ false → Begins closed bs line rest → Begins closed (b ∷ bs) (b ∷ line) rest
begins_before true b bs [] rest t (inl h) = inl (ap (before b) h.0, no_return b bs rest t h.0)
begins_before true b bs [] rest t (inr (inl h)) = inr (inl (ap (before b) h))
begins_before true b bs [] rest t (inr (inr h)) = inr (inr (ap (before b) h.0, h.1))
begins_before true b bs (c ∷ cs) rest t h = begins_more true b c bs cs rest h
begins_before false b bs line rest t h = (ap (before b) h.0, h.1)

feed_of : (bs : List ℕ) → starts 10 bs ≡ true → bs ≡ 10 ∷ drop 1 bs
feed_of [] h = absurd (false≢true h)
feed_of (c ∷ cs) h = ap (λ (x : ℕ). x ∷ cs) (eqb-true c 10 h)

-- the input begins with a line end
pub begins_at_end : (b : ℕ) (bs : List ℕ) → starts_end (b ∷ bs) ≡ true → Begins true (b ∷ bs) [] (after_end (b ∷ bs))
begins_at_end b bs h = by_feed (b == 10) refl
  where
    by_feed : (t : Bool) → (b == 10) ≡ t → Begins true (b ∷ bs) [] (if t then bs else drop 1 bs)
    by_feed true e = inl (ap (λ (x : ℕ). x ∷ bs) (eqb-true b 10 e), refl)
    by_feed false e =
        let both = and_parts (b == 13) (starts 10 bs) (subst (λ (t : Bool). (t || ((b == 13) && starts 10 bs)) ≡ true) e h) in
        inr (inl (ap (λ (x : ℕ). x ∷ bs) (eqb-true b 13 both.0) ∙ ap (before 13) (feed_of bs both.1)))

-- the rest is a suffix of the input
pub rest_after : (closed : Bool) (input line rest : List ℕ) → Begins closed input line rest → (front : List ℕ) × (input ≡ front ++ rest)
rest_after true input line rest (inl h) = (line ++ 10 ∷ [], h.0 ∙ sym (append_assoc line (10 ∷ []) rest))
rest_after true input line rest (inr (inl h)) = (line ++ 13 ∷ 10 ∷ [], h ∙ sym (append_assoc line (13 ∷ 10 ∷ []) rest))
rest_after true input line rest (inr (inr h)) = (line, h.0 ∙ sym (append-nil line) ∙ ap (λ (xs : List ℕ). line ++ xs) (sym h.1))
rest_after false input line rest h = (line, h.0 ∙ sym (append-nil line) ∙ ap (λ (xs : List ℕ). line ++ xs) (sym h.1))

-- ---- blanks before elements

pub spells_blank : (closed : Bool) (b : ℕ) (line : List ℕ) (es : List Element) → is_blank b ≡ true → Spells closed line es → Spells closed (b ∷ line) es
spells_blank true b line [] h s = and_from (is_blank b) _ h s
spells_blank false b line [] h s = s
spells_blank true b line (Bare word ∷ es) h s =
    (s.0, record { gap = b ∷ s.1.gap; blank = and_from (is_blank b) _ h s.1.blank; bytes = ap (before b) s.1.bytes; bare = s.1.bare; ends = s.1.ends }, s.2)
spells_blank false b line (Bare word ∷ es) h s =
    (s.0, record { gap = b ∷ s.1.gap; blank = and_from (is_blank b) _ h s.1.blank; bytes = ap (before b) s.1.bytes; bare = s.1.bare; ends = s.1.ends }, s.2)
spells_blank true b line (Quoted text ∷ es) h s =
    (s.0, record { gap = b ∷ s.1.gap; blank = and_from (is_blank b) _ h s.1.blank; bytes = ap (before b) s.1.bytes; ends = s.1.ends }, s.2)
spells_blank false b line (Quoted text ∷ []) h s =
    record { gap = b ∷ s.gap; blank = and_from (is_blank b) _ h s.blank; bytes = ap (before b) s.bytes }
spells_blank false b line (Quoted text ∷ e ∷ es) h s =
    (s.0, record { gap = b ∷ s.1.gap; blank = and_from (is_blank b) _ h s.1.blank; bytes = ap (before b) s.1.bytes; ends = s.1.ends }, s.2)
