-- A line has one list of elements: the one that its bytes read as.
use Rattle.std.proofs.Common.{◌≡◌, ℕ, Bool, true, false, not, ◌&&◌, ◌||◌, ◌==◌, ◌⊎◌, inl, inr, if◌then◌else◌, List, [], ◌∷◌, ◌++◌, refl, sym, ap, ◌∙◌, subst, append_assoc, append-nil}
use Rattle.std.specs.List.{list_all}
use Rattle.std.proofs.lemmas.Bool.{true≢false, false≢true, eqb-true, and_parts, and_left, and_right, or_parts, or_from, or_cases, not-true, not-false}
use Rattle.abl_values.specs.Texts.{doubled}
use Rattle.value_formats.specs.declared.element.Element.{Element}
use Rattle.value_formats.specs.declared.element.Element.TheVariants.{Bare, Quoted}
use Rattle.value_formats.specs.Lines.{is_blank, is_bare, is_bare_byte, starts, starts_bare, starts_end, after_end, ends_in_return, Begins, BareAt, QuotedAt, Spells, IsLine, Reading, Readings, closing, byte_before, opened, line_ending, between_at, in_bare_at, in_quotes_at, after_mark_at, readings, first_line}
use Rattle.value_formats.proofs.Begun.{before}

-- ---- what follows a line

-- the line ends with these bytes, and this follows
abbrev IsEndOf : Bool → List ℕ → List ℕ → List ℕ → Type 0
IsEndOf true line end rest = ((end ≡ 10 ∷ rest) × (ends_in_return line ≡ false)) ⊎ ((end ≡ 13 ∷ 10 ∷ rest) ⊎ ((end ≡ []) × (rest ≡ [])))
IsEndOf false line end rest = (end ≡ []) × (rest ≡ [])

end_of : (closed : Bool) (input line rest : List ℕ) → Begins closed input line rest → (end : List ℕ) × (input ≡ line ++ end) × IsEndOf closed line end rest
end_of true input line rest (inl h) = (10 ∷ rest, h.0, inl (refl, h.1))
end_of true input line rest (inr (inl h)) = (13 ∷ 10 ∷ rest, h, inr (inl refl))
end_of true input line rest (inr (inr h)) = ([], h.0 ∙ sym (append-nil line), inr (inr (refl, h.1)))
end_of false input line rest h = ([], h.0 ∙ sym (append-nil line), (refl, h.1))

end_after_byte : (closed : Bool) (b : ℕ) (line end rest : List ℕ) → IsEndOf closed (b ∷ line) end rest → IsEndOf closed line end rest
end_after_byte true b [] end rest (inl h) = inl (h.0, refl)
end_after_byte true b (c ∷ cs) end rest (inl h) = inl h
end_after_byte true b line end rest (inr h) = inr h
end_after_byte false b line end rest h = h

end_after : (closed : Bool) (front line end rest : List ℕ) → IsEndOf closed (front ++ line) end rest → IsEndOf closed line end rest
end_after closed [] line end rest h = h
end_after closed (b ∷ front) line end rest h = end_after closed front line end rest (end_after_byte closed b (front ++ line) end rest h)

-- ---- bytes

blank_cases : (P : ℕ → Type 0) (b : ℕ) → is_blank b ≡ true → P 32 → P 9 → P b
blank_cases P b h p q =
    elim (or_cases (b == 32) (b == 9) h) [ inl e ↦ subst P (sym (eqb-true b 32 e)) p | inr e ↦ subst P (sym (eqb-true b 9 e)) q ]

blank_no_end : (b : ℕ) (bs : List ℕ) → is_blank b ≡ true → starts_end (b ∷ bs) ≡ false
blank_no_end b bs h = blank_cases (λ (x : ℕ). starts_end (x ∷ bs) ≡ false) b h refl refl

blank_no_feed : (b : ℕ) → is_blank b ≡ true → (b == 10) ≡ false
blank_no_feed b h = blank_cases (λ (x : ℕ). (x == 10) ≡ false) b h refl refl

bare_parts : (b : ℕ) → is_bare_byte b ≡ true → (is_blank b ≡ false) × ((b == 10) ≡ false)
bare_parts b h = or_parts (is_blank b) (b == 10) (not-true (is_blank b || (b == 10)) h)

-- no bare byte and no line feed is a blank
blank_of : (b : ℕ) → is_bare_byte b ≡ false → (b == 10) ≡ false → is_blank b ≡ true
blank_of b h f =
    elim (or_cases (is_blank b) (b == 10) (not-false (is_blank b || (b == 10)) h)) [ inl e ↦ e | inr e ↦ absurd (true≢false (sym e ∙ f)) ]

-- ---- readings at one byte

between_blank : (b : ℕ) (bs : List ℕ) (after : Readings) → is_blank b ≡ true → between_at b bs after ≡ after.between
between_blank b bs after h =
    ap (λ (t : Bool). if t then line_ending (after_end (b ∷ bs)) else if is_blank b then after.between else if b == 34 then opened Quoted after.in_quotes else opened Bare (byte_before b after.in_bare)) (blank_no_end b bs h)
    ∙ ap (λ (t : Bool). if t then after.between else if b == 34 then opened Quoted after.in_quotes else opened Bare (byte_before b after.in_bare)) h

between_bare : (b : ℕ) (bs : List ℕ) (after : Readings) → starts_end (b ∷ bs) ≡ false → is_blank b ≡ false → (b == 34) ≡ false → between_at b bs after ≡ opened Bare (byte_before b after.in_bare)
between_bare b bs after t u q =
    ap (λ (x : Bool). if x then line_ending (after_end (b ∷ bs)) else if is_blank b then after.between else if b == 34 then opened Quoted after.in_quotes else opened Bare (byte_before b after.in_bare)) t
    ∙ ap (λ (x : Bool). if x then after.between else if b == 34 then opened Quoted after.in_quotes else opened Bare (byte_before b after.in_bare)) u
    ∙ ap (λ (x : Bool). if x then opened Quoted after.in_quotes else opened Bare (byte_before b after.in_bare)) q

in_bare_blank : (b : ℕ) (bs : List ℕ) (after : Readings) → is_blank b ≡ true → in_bare_at b bs after ≡ closing after.between
in_bare_blank b bs after h =
    ap (λ (t : Bool). if t then line_ending (after_end (b ∷ bs)) else if is_blank b then closing after.between else byte_before b after.in_bare) (blank_no_end b bs h)
    ∙ ap (λ (t : Bool). if t then closing after.between else byte_before b after.in_bare) h

in_bare_byte : (b : ℕ) (bs : List ℕ) (after : Readings) → starts_end (b ∷ bs) ≡ false → is_blank b ≡ false → in_bare_at b bs after ≡ byte_before b after.in_bare
in_bare_byte b bs after t u =
    ap (λ (x : Bool). if x then line_ending (after_end (b ∷ bs)) else if is_blank b then closing after.between else byte_before b after.in_bare) t
    ∙ ap (λ (x : Bool). if x then closing after.between else byte_before b after.in_bare) u

in_quotes_byte : (b : ℕ) (after : Readings) → (b == 34) ≡ false → in_quotes_at b after ≡ byte_before b after.in_quotes
in_quotes_byte b after q = ap (λ (x : Bool). if x then after.after_mark else byte_before b after.in_quotes) q

after_mark_byte : (b : ℕ) (bs : List ℕ) (after : Readings) → (b == 34) ≡ false → after_mark_at b bs after ≡ closing (between_at b bs after)
after_mark_byte b bs after q = ap (λ (x : Bool). if x then byte_before 34 after.in_quotes else closing (between_at b bs after)) q

-- ---- blanks

-- the bytes read as these elements, and this follows the line
abbrev ReadsAs : List ℕ → List Element → List ℕ → Type 0
ReadsAs input es rest = ((readings input).between.elements ≡ es) × ((readings input).between.rest ≡ rest)

skip_gap : (gap bs : List ℕ) → list_all is_blank gap ≡ true → (readings (gap ++ bs)).between ≡ (readings bs).between
skip_gap [] bs h = refl
skip_gap (b ∷ gap) bs h =
    let both = and_parts (is_blank b) (list_all is_blank gap) h in
    between_blank b (gap ++ bs) (readings (gap ++ bs)) both.0 ∙ skip_gap gap bs both.1

reads_after_gap : (gap bs : List ℕ) (es : List Element) (rest : List ℕ) → list_all is_blank gap ≡ true → ReadsAs bs es rest → ReadsAs (gap ++ bs) es rest
reads_after_gap gap bs es rest h r =
    (ap (λ (x : Reading). x.elements) (skip_gap gap bs h) ∙ r.0, ap (λ (x : Reading). x.rest) (skip_gap gap bs h) ∙ r.1)

end_reads : (line end rest : List ℕ) → IsEndOf true line end rest → ReadsAs end [] rest
end_reads line end rest (inl h) = subst (λ (xs : List ℕ). ReadsAs xs [] rest) (sym h.0) (refl, refl)
end_reads line end rest (inr (inl h)) = subst (λ (xs : List ℕ). ReadsAs xs [] rest) (sym h) (refl, refl)
end_reads line end rest (inr (inr h)) = subst (λ (xs : List ℕ). ReadsAs xs [] rest) (sym h.0) (refl, sym h.1)

-- ---- a bare element

-- a spelled line begins with no line feed
no_feed_gap : (c : ℕ) (cs gap more : List ℕ) → c ∷ cs ≡ gap ++ more → list_all is_blank gap ≡ true → starts 10 more ≡ false → (c == 10) ≡ false
no_feed_gap c cs [] more e g m = subst (λ (xs : List ℕ). starts 10 xs ≡ false) (sym e) m
no_feed_gap c cs (b ∷ gap) more e g m =
    let k : c ∷ cs ≡ b ∷ (gap ++ more) = e in
    let same : c ≡ b = cc in
    ap (λ (x : ℕ). x == 10) same ∙ blank_no_feed b (and_parts (is_blank b) (list_all is_blank gap) g).0

no_feed_word : (word after : List ℕ) → is_bare word ≡ true → starts 10 (word ++ after) ≡ false
no_feed_word [] after h = absurd (false≢true h)
no_feed_word (w ∷ ws) after h =
    let both = and_parts (not (w == 34)) (list_all is_bare_byte (w ∷ ws)) h in
    (bare_parts w (and_parts (is_bare_byte w) (list_all is_bare_byte ws) both.1).0).1

no_feed : (closed : Bool) (line : List ℕ) (es : List Element) → Spells closed line es → starts 10 line ≡ false
no_feed closed [] es h = refl
no_feed true (c ∷ cs) [] h = blank_no_feed c (and_parts (is_blank c) (list_all is_blank cs) h).0
no_feed false (c ∷ cs) [] h = absurd h
no_feed true (c ∷ cs) (Bare word ∷ es) h = no_feed_gap c cs h.1.gap (word ++ h.0) h.1.bytes h.1.blank (no_feed_word word h.0 h.1.bare)
no_feed false (c ∷ cs) (Bare word ∷ es) h = no_feed_gap c cs h.1.gap (word ++ h.0) h.1.bytes h.1.blank (no_feed_word word h.0 h.1.bare)
no_feed true (c ∷ cs) (Quoted text ∷ es) h = no_feed_gap c cs h.1.gap (34 ∷ (doubled text ++ 34 ∷ h.0)) h.1.bytes h.1.blank refl
no_feed false (c ∷ cs) (Quoted text ∷ []) h = no_feed_gap c cs h.gap (34 ∷ doubled text) h.bytes h.blank refl
no_feed false (c ∷ cs) (Quoted text ∷ e ∷ es) h = no_feed_gap c cs h.1.gap (34 ∷ (doubled text ++ 34 ∷ h.0)) h.1.bytes h.1.blank refl

-- no byte of a bare element begins the line's end
no_end_feed : (closed : Bool) (b : ℕ) (end rest : List ℕ) → IsEndOf closed (b ∷ []) end rest → ((b == 13) && starts 10 end) ≡ false
no_end_feed true b end rest (inl h) = and_left (b == 13) (starts 10 end) h.1
no_end_feed true b end rest (inr (inl h)) = and_right (b == 13) (starts 10 end) (ap (starts 10) h)
no_end_feed true b end rest (inr (inr h)) = and_right (b == 13) (starts 10 end) (ap (starts 10) h.0)
no_end_feed false b end rest h = and_right (b == 13) (starts 10 end) (ap (starts 10) h.0)

no_end : (closed : Bool) (b : ℕ) (word after end rest : List ℕ) → is_bare_byte b ≡ true → list_all is_bare_byte word ≡ true → starts 10 after ≡ false → IsEndOf closed (b ∷ (word ++ after)) end rest
    → starts_end (b ∷ (word ++ (after ++ end))) ≡ false
no_end closed b [] [] end rest h w f e = or_from (b == 10) ((b == 13) && starts 10 end) (bare_parts b h).1 (no_end_feed closed b end rest e)
no_end closed b [] (c ∷ cs) end rest h w f e = or_from (b == 10) ((b == 13) && (c == 10)) (bare_parts b h).1 (and_right (b == 13) (c == 10) f)
no_end closed b (c ∷ cs) after end rest h w f e =
    or_from (b == 10) ((b == 13) && (c == 10)) (bare_parts b h).1
    (and_right (b == 13) (c == 10) (bare_parts c (and_parts (is_bare_byte c) (list_all is_bare_byte cs) w).0).1)

-- from these bytes on, the element that is open has this word, and after it these bytes are read
record WordReads (bytes word tail : List ℕ) : Type 0 where
  word_is : (readings bytes).in_bare.open_bytes ≡ word
  elements : (readings bytes).in_bare.elements ≡ (readings tail).between.elements
  rest : (readings bytes).in_bare.rest ≡ (readings tail).between.rest

end_word : (closed : Bool) (line end rest : List ℕ) → IsEndOf closed line end rest → WordReads end [] end
end_word true line end rest (inl h) = subst (λ (xs : List ℕ). WordReads xs [] xs) (sym h.0) (record { word_is = refl; elements = refl; rest = refl })
end_word true line end rest (inr (inl h)) = subst (λ (xs : List ℕ). WordReads xs [] xs) (sym h) (record { word_is = refl; elements = refl; rest = refl })
end_word true line end rest (inr (inr h)) = subst (λ (xs : List ℕ). WordReads xs [] xs) (sym h.0) (record { word_is = refl; elements = refl; rest = refl })
end_word false line end rest h = subst (λ (xs : List ℕ). WordReads xs [] xs) (sym h.0) (record { word_is = refl; elements = refl; rest = refl })

word_reads : (closed : Bool) (word after end rest : List ℕ) → list_all is_bare_byte word ≡ true → starts_bare after ≡ false → starts 10 after ≡ false → IsEndOf closed (word ++ after) end rest
    → WordReads (word ++ (after ++ end)) word (after ++ end)
word_reads closed [] [] end rest w s f e = end_word closed [] end rest e
word_reads closed [] (c ∷ cs) end rest w s f e =
    let blank = blank_of c s f in
    let here = in_bare_blank c (cs ++ end) (readings (cs ++ end)) blank in
    let there = between_blank c (cs ++ end) (readings (cs ++ end)) blank in
    record {
      word_is = ap (λ (x : Reading). x.open_bytes) here;
      elements = ap (λ (x : Reading). x.elements) here ∙ sym (ap (λ (x : Reading). x.elements) there);
      rest = ap (λ (x : Reading). x.rest) here ∙ sym (ap (λ (x : Reading). x.rest) there);
    }
word_reads closed (b ∷ word) after end rest w s f e =
    let both = and_parts (is_bare_byte b) (list_all is_bare_byte word) w in
    let tail = word_reads closed word after end rest both.1 s f (end_after_byte closed b (word ++ after) end rest e) in
    let here = in_bare_byte b (word ++ (after ++ end)) (readings (word ++ (after ++ end))) (no_end closed b word after end rest both.0 both.1 f e) (bare_parts b both.0).0 in
    record {
      word_is = ap (λ (x : Reading). x.open_bytes) here ∙ ap (before b) tail.word_is;
      elements = ap (λ (x : Reading). x.elements) here ∙ tail.elements;
      rest = ap (λ (x : Reading). x.rest) here ∙ tail.rest;
    }

-- one more element
more_elements : (e f : Element) (es fs : List Element) → e ≡ f → es ≡ fs → e ∷ es ≡ f ∷ fs
more_elements e f es fs h k = ap (λ (x : Element). x ∷ es) h ∙ ap (λ (xs : List Element). f ∷ xs) k

bare_reads : (closed : Bool) (word after end rest : List ℕ) (es : List Element) → is_bare word ≡ true → starts_bare after ≡ false → starts 10 after ≡ false → IsEndOf closed (word ++ after) end rest
    → ReadsAs (after ++ end) es rest → ReadsAs (word ++ (after ++ end)) (Bare word ∷ es) rest
bare_reads closed [] after end rest es w s f e r = absurd (false≢true w)
bare_reads closed (b ∷ word) after end rest es w s f e r =
    let whole = and_parts (not (b == 34)) (list_all is_bare_byte (b ∷ word)) w in
    let both = and_parts (is_bare_byte b) (list_all is_bare_byte word) whole.1 in
    let tail = word_reads closed word after end rest both.1 s f (end_after_byte closed b (word ++ after) end rest e) in
    let here = between_bare b (word ++ (after ++ end)) (readings (word ++ (after ++ end))) (no_end closed b word after end rest both.0 both.1 f e) (bare_parts b both.0).0 (not-true (b == 34) whole.0) in (
      ap (λ (x : Reading). x.elements) here
          ∙ more_elements (Bare (b ∷ (readings (word ++ (after ++ end))).in_bare.open_bytes)) (Bare (b ∷ word)) (readings (word ++ (after ++ end))).in_bare.elements es
          (ap (λ (xs : List ℕ). Bare (b ∷ xs)) tail.word_is) (tail.elements ∙ r.0),
      ap (λ (x : Reading). x.rest) here ∙ tail.rest ∙ r.1,
    )

-- ---- a quoted element

-- from these bytes on, the text in quotes is this, and after its mark these bytes are read
record TextReads (bytes text tail : List ℕ) : Type 0 where
  text_is : (readings bytes).in_quotes.open_bytes ≡ text
  elements : (readings bytes).in_quotes.elements ≡ (readings tail).between.elements
  rest : (readings bytes).in_quotes.rest ≡ (readings tail).between.rest

mark_ends : (bs : List ℕ) → starts 34 bs ≡ false → TextReads (34 ∷ bs) [] bs
mark_ends [] h = record { text_is = refl; elements = refl; rest = refl }
mark_ends (c ∷ cs) h =
    let here = after_mark_byte c cs (readings cs) h in
    record {
      text_is = ap (λ (x : Reading). x.open_bytes) here;
      elements = ap (λ (x : Reading). x.elements) here;
      rest = ap (λ (x : Reading). x.rest) here;
    }

-- a byte of a text in quotes, doubled where it is a mark
record OneMore (b : ℕ) (text more : List ℕ) : Type 0 where
  open_is : (readings (doubled (b ∷ text) ++ more)).in_quotes.open_bytes ≡ b ∷ (readings (doubled text ++ more)).in_quotes.open_bytes
  elements : (readings (doubled (b ∷ text) ++ more)).in_quotes.elements ≡ (readings (doubled text ++ more)).in_quotes.elements
  rest : (readings (doubled (b ∷ text) ++ more)).in_quotes.rest ≡ (readings (doubled text ++ more)).in_quotes.rest

one_more : (b : ℕ) (text more : List ℕ) → OneMore b text more
one_more b text more = by_mark (b == 34) refl
  where
    by_mark : (q : Bool) → (b == 34) ≡ q → OneMore b text more
    by_mark true e = subst (λ (x : ℕ). OneMore x text more) (sym (eqb-true b 34 e)) (record { open_is = refl; elements = refl; rest = refl })
    by_mark false e =
        let bytes : doubled (b ∷ text) ++ more ≡ b ∷ (doubled text ++ more) = ap (λ (t : Bool). ((if t then 34 ∷ 34 ∷ [] else b ∷ []) ++ doubled text) ++ more) e in
        let here : (readings (doubled (b ∷ text) ++ more)).in_quotes ≡ byte_before b (readings (doubled text ++ more)).in_quotes =
        ap (λ (xs : List ℕ). (readings xs).in_quotes) bytes ∙ in_quotes_byte b (readings (doubled text ++ more)) e in
        record {
          open_is = ap (λ (x : Reading). x.open_bytes) here;
          elements = ap (λ (x : Reading). x.elements) here;
          rest = ap (λ (x : Reading). x.rest) here;
        }

text_reads : (text tail : List ℕ) → starts 34 tail ≡ false → TextReads (doubled text ++ 34 ∷ tail) text tail
text_reads [] tail h = mark_ends tail h
text_reads (b ∷ text) tail h =
    let here = one_more b text (34 ∷ tail) in
    let more = text_reads text tail h in
    record {
      text_is = here.open_is ∙ ap (before b) more.text_is;
      elements = here.elements ∙ more.elements;
      rest = here.rest ∙ more.rest;
    }

no_mark : (closed : Bool) (after end rest : List ℕ) → starts 34 after ≡ false → IsEndOf closed after end rest → starts 34 (after ++ end) ≡ false
no_mark closed (c ∷ cs) end rest h e = h
no_mark true [] end rest h (inl e) = ap (starts 34) e.0
no_mark true [] end rest h (inr (inl e)) = ap (starts 34) e
no_mark true [] end rest h (inr (inr e)) = ap (starts 34) e.0
no_mark false [] end rest h e = ap (starts 34) e.0

quoted_reads : (text tail : List ℕ) (es : List Element) (rest : List ℕ) → starts 34 tail ≡ false → ReadsAs tail es rest → ReadsAs (34 ∷ (doubled text ++ 34 ∷ tail)) (Quoted text ∷ es) rest
quoted_reads text tail es rest h r =
    let t = text_reads text tail h in (
      more_elements (Quoted (readings (doubled text ++ 34 ∷ tail)).in_quotes.open_bytes) (Quoted text) (readings (doubled text ++ 34 ∷ tail)).in_quotes.elements es
          (ap (λ (xs : List ℕ). Quoted xs) t.text_is) (t.elements ∙ r.0),
      t.rest ∙ r.1,
    )

-- quotes that stay open
record OpenReads (text : List ℕ) : Type 0 where
  text_is : (readings (doubled text ++ [])).in_quotes.open_bytes ≡ text
  elements : (readings (doubled text ++ [])).in_quotes.elements ≡ []
  rest : (readings (doubled text ++ [])).in_quotes.rest ≡ []

open_reads : (text : List ℕ) → OpenReads text
open_reads [] = record { text_is = refl; elements = refl; rest = refl }
open_reads (b ∷ text) =
    let here = one_more b text [] in
    let more = open_reads text in
    record {
      text_is = here.open_is ∙ ap (before b) more.text_is;
      elements = here.elements ∙ more.elements;
      rest = here.rest ∙ more.rest;
    }

open_at_end : (text end rest : List ℕ) → end ≡ [] → rest ≡ [] → ReadsAs (34 ∷ (doubled text ++ end)) (Quoted text ∷ []) rest
open_at_end text end rest e r =
    let t = open_reads text in
    subst (λ (xs : List ℕ). ReadsAs (34 ∷ (doubled text ++ xs)) (Quoted text ∷ []) rest) (sym e) (
      more_elements (Quoted (readings (doubled text ++ [])).in_quotes.open_bytes) (Quoted text) (readings (doubled text ++ [])).in_quotes.elements []
          (ap (λ (xs : List ℕ). Quoted xs) t.text_is) t.elements,
      t.rest ∙ sym r,
    )

-- ---- a line

reads_at : (line end gap more : List ℕ) (es : List Element) (rest : List ℕ) → line ≡ gap ++ more → list_all is_blank gap ≡ true → ReadsAs (more ++ end) es rest → ReadsAs (line ++ end) es rest
reads_at line end gap more es rest e g r =
    subst (λ (xs : List ℕ). ReadsAs xs es rest) (sym (ap (λ (xs : List ℕ). xs ++ end) e ∙ append_assoc gap more end)) (reads_after_gap gap (more ++ end) es rest g r)

-- what follows a gap has the line's end
end_at : (closed : Bool) (line gap more end rest : List ℕ) → line ≡ gap ++ more → IsEndOf closed line end rest → IsEndOf closed more end rest
end_at closed line gap more end rest e h = end_after closed gap more end rest (subst (λ (xs : List ℕ). IsEndOf closed xs end rest) e h)

bare_line : (closed : Bool) (line word after end rest : List ℕ) (es : List Element) → BareAt line word after → starts 10 after ≡ false → IsEndOf closed line end rest
    → (IsEndOf closed after end rest → ReadsAs (after ++ end) es rest) → ReadsAs (line ++ end) (Bare word ∷ es) rest
bare_line closed line word after end rest es b f e r =
    let here = end_at closed line b.gap (word ++ after) end rest b.bytes e in
    reads_at line end b.gap (word ++ after) (Bare word ∷ es) rest b.bytes b.blank
    (subst (λ (xs : List ℕ). ReadsAs xs (Bare word ∷ es) rest) (sym (append_assoc word after end))
    (bare_reads closed word after end rest es b.bare b.ends f here (r (end_after closed word after end rest here))))

mark_in : (text after end : List ℕ) → (34 ∷ (doubled text ++ 34 ∷ after)) ++ end ≡ 34 ∷ (doubled text ++ 34 ∷ (after ++ end))
mark_in text after end = ap (before 34) (append_assoc (doubled text) (34 ∷ after) end)

quoted_line : (closed : Bool) (line text after end rest : List ℕ) (es : List Element) → QuotedAt line text after → IsEndOf closed line end rest
    → (IsEndOf closed after end rest → ReadsAs (after ++ end) es rest) → ReadsAs (line ++ end) (Quoted text ∷ es) rest
quoted_line closed line text after end rest es q e r =
    let here = end_at closed line q.gap (34 ∷ (doubled text ++ 34 ∷ after)) end rest q.bytes e in
    let inside = end_after_byte closed 34 (doubled text ++ 34 ∷ after) end rest here in
    let tail = end_after_byte closed 34 after end rest (end_after closed (doubled text) (34 ∷ after) end rest inside) in
    reads_at line end q.gap (34 ∷ (doubled text ++ 34 ∷ after)) (Quoted text ∷ es) rest q.bytes q.blank
    (subst (λ (xs : List ℕ). ReadsAs xs (Quoted text ∷ es) rest) (sym (mark_in text after end))
    (quoted_reads text (after ++ end) es rest (no_mark closed after end rest q.ends tail) (r tail)))

spelled_reads : (closed : Bool) (line : List ℕ) (es : List Element) (end rest : List ℕ) → Spells closed line es → IsEndOf closed line end rest → ReadsAs (line ++ end) es rest
spelled_reads true line [] end rest s e = reads_after_gap line end [] rest s (end_reads line end rest e)
spelled_reads false line [] end rest s e = absurd s
spelled_reads true line (Bare word ∷ es) end rest s e =
    bare_line true line word s.0 end rest es s.1 (no_feed true s.0 es s.2) e (spelled_reads true s.0 es end rest s.2)
spelled_reads false line (Bare word ∷ es) end rest s e =
    bare_line false line word s.0 end rest es s.1 (no_feed false s.0 es s.2) e (spelled_reads false s.0 es end rest s.2)
spelled_reads true line (Quoted text ∷ es) end rest s e =
    quoted_line true line text s.0 end rest es s.1 e (spelled_reads true s.0 es end rest s.2)
spelled_reads false line (Quoted text ∷ []) end rest s e =
    reads_at line end s.gap (34 ∷ doubled text) (Quoted text ∷ []) rest s.bytes s.blank (open_at_end text end rest e.0 e.1)
spelled_reads false line (Quoted text ∷ f ∷ es) end rest s e =
    quoted_line false line text s.0 end rest (f ∷ es) s.1 e (spelled_reads false s.0 (f ∷ es) end rest s.2)

-- the elements of a line and what follows it are those that its bytes read as
pub line_reads : (input : List ℕ) (es : List Element) (rest : List ℕ) → IsLine input es rest → ((first_line input).elements ≡ es) × ((first_line input).rest ≡ rest)
unfolding first_line
line_reads input es rest h =
    let end = end_of h.closed input h.line rest h.begins in
    subst (λ (xs : List ℕ). ReadsAs xs es rest) (sym end.1) (spelled_reads h.closed h.line es end.0 rest h.spells end.2)
