-- What the bytes read as is what the line is by its elements.
use Rattle.std.proofs.Common.{◌≡◌, ℕ, Bool, true, false, not, ◌&&◌, ◌||◌, ◌==◌, ◌⊎◌, inl, inr, if◌then◌else◌, List, [], ◌∷◌, ◌++◌, refl, sym, ap, ◌∙◌, subst}
use Rattle.std.specs.List.{list_all}
use Rattle.std.proofs.lemmas.Bool.{eqb-true, and_from, or_parts, or_from, not_from_false}
use Rattle.abl_values.specs.Texts.{doubled}
use Rattle.value_formats.specs.declared.element.Element.{Element}
use Rattle.value_formats.specs.declared.element.Element.TheVariants.{Bare, Quoted}
use Rattle.value_formats.specs.Lines.{is_blank, is_bare, is_bare_byte, starts, starts_bare, starts_end, after_end, Begins, Spells, IsLine, Reading, Readings, closing, byte_before, opened, line_ending, between_at, in_bare_at, in_quotes_at, after_mark_at, readings, first_line}
use Rattle.value_formats.proofs.Begun.{before, begins_inside, begins_before, begins_at_end, spells_blank}

-- ---- what each of the four readings says of the bytes

-- between elements
abbrev LineFrom : List ℕ → Reading → Type 0
LineFrom bs r = IsLine bs r.elements r.rest

-- in a bare element
record BareFrom (bs : List ℕ) (r : Reading) : Type 0 where
  closed : Bool
  after : List ℕ
  begins : Begins closed bs (r.open_bytes ++ after) r.rest
  bare : list_all is_bare_byte r.open_bytes ≡ true
  ends : starts_bare after ≡ false
  spells : Spells closed after r.elements

-- in quotes that are closed
record ClosedFrom (bs : List ℕ) (r : Reading) : Type 0 where
  closed : Bool
  after : List ℕ
  begins : Begins closed bs (doubled r.open_bytes ++ 34 ∷ after) r.rest
  ends : starts 34 after ≡ false
  spells : Spells closed after r.elements

-- in quotes that are open up to the end
record OpenFrom (bs : List ℕ) (r : Reading) : Type 0 where
  bytes : bs ≡ doubled r.open_bytes
  elements : r.elements ≡ []
  rest : r.rest ≡ []

abbrev QuotedFrom : List ℕ → Reading → Type 0
QuotedFrom bs r = ClosedFrom bs r ⊎ OpenFrom bs r

record AllFrom (bs : List ℕ) (r : Readings) : Type 0 where
  between : LineFrom bs r.between
  in_bare : BareFrom bs r.in_bare
  in_quotes : QuotedFrom bs r.in_quotes
  after_mark : QuotedFrom (34 ∷ bs) r.after_mark

-- ---- between elements

closed_at : (closed : Bool) (bs text after rest : List ℕ) (es : List Element) → Begins closed bs (doubled text ++ 34 ∷ after) rest → starts 34 after ≡ false → Spells closed after es → IsLine (34 ∷ bs) (Quoted text ∷ es) rest
closed_at true bs text after rest es b e s = record {
  closed = true;
  line = 34 ∷ (doubled text ++ 34 ∷ after);
  begins = begins_before true 34 bs (doubled text ++ 34 ∷ after) rest refl b;
  spells = (after, record { gap = []; blank = refl; bytes = refl; ends = e }, s);
}
closed_at false bs text after rest [] b e s = absurd s
closed_at false bs text after rest (x ∷ es) b e s = record {
  closed = false;
  line = 34 ∷ (doubled text ++ 34 ∷ after);
  begins = begins_before false 34 bs (doubled text ++ 34 ∷ after) rest refl b;
  spells = (after, record { gap = []; blank = refl; bytes = refl; ends = e }, s);
}

open_at : (bs text rest : List ℕ) → bs ≡ doubled text → rest ≡ [] → IsLine (34 ∷ bs) (Quoted text ∷ []) rest
open_at bs text rest e r = record {
  closed = false;
  line = 34 ∷ bs;
  begins = (refl, r);
  spells = record { gap = []; blank = refl; bytes = ap (before 34) e };
}

quoted_at : (bs : List ℕ) (r : Reading) → QuotedFrom bs r → IsLine (34 ∷ bs) (Quoted r.open_bytes ∷ r.elements) r.rest
quoted_at bs r (inl q) = closed_at q.closed bs r.open_bytes q.after r.rest r.elements q.begins q.ends q.spells
quoted_at bs r (inr q) =
    subst (λ (es : List Element). IsLine (34 ∷ bs) (Quoted r.open_bytes ∷ es) r.rest) (sym q.elements) (open_at bs r.open_bytes r.rest q.bytes q.rest)

bare_is : (closed : Bool) (b : ℕ) (bs word after rest : List ℕ) (es : List Element) → is_bare (b ∷ word) ≡ true → starts_bare after ≡ false → Begins closed (b ∷ bs) (b ∷ (word ++ after)) rest → Spells closed after es → IsLine (b ∷ bs) (Bare (b ∷ word) ∷ es) rest
bare_is true b bs word after rest es w e g s = record {
  closed = true;
  line = b ∷ (word ++ after);
  begins = g;
  spells = (after, record { gap = []; blank = refl; bytes = refl; bare = w; ends = e }, s);
}
bare_is false b bs word after rest es w e g s = record {
  closed = false;
  line = b ∷ (word ++ after);
  begins = g;
  spells = (after, record { gap = []; blank = refl; bytes = refl; bare = w; ends = e }, s);
}

bare_byte : (b : ℕ) (bs : List ℕ) → starts_end (b ∷ bs) ≡ false → is_blank b ≡ false → is_bare_byte b ≡ true
bare_byte b bs t u = not_from_false (is_blank b || (b == 10)) (or_from (is_blank b) (b == 10) u (or_parts (b == 10) ((b == 13) && starts 10 bs) t).0)

bare_at : (b : ℕ) (bs : List ℕ) (r : Reading) → starts_end (b ∷ bs) ≡ false → is_blank b ≡ false → (b == 34) ≡ false → BareFrom bs r → IsLine (b ∷ bs) (Bare (b ∷ r.open_bytes) ∷ r.elements) r.rest
bare_at b bs r t u q h =
    bare_is h.closed b bs r.open_bytes h.after r.rest r.elements
    (and_from (not (b == 34)) (list_all is_bare_byte (b ∷ r.open_bytes)) (not_from_false (b == 34) q) (and_from (is_bare_byte b) (list_all is_bare_byte r.open_bytes) (bare_byte b bs t u) h.bare))
    h.ends (begins_before h.closed b bs (r.open_bytes ++ h.after) r.rest t h.begins) h.spells

line_after : (b : ℕ) (bs : List ℕ) (r : Reading) → starts_end (b ∷ bs) ≡ false → is_blank b ≡ true → LineFrom bs r → LineFrom (b ∷ bs) r
line_after b bs r t u h = record {
  closed = h.closed;
  line = b ∷ h.line;
  begins = begins_before h.closed b bs h.line r.rest t h.begins;
  spells = spells_blank h.closed b h.line r.elements u h.spells;
}

between_from : (b : ℕ) (bs : List ℕ) (after : Readings) → AllFrom bs after → LineFrom (b ∷ bs) (between_at b bs after)
between_from b bs after h = by_end (starts_end (b ∷ bs)) refl
  where
    by_quote : starts_end (b ∷ bs) ≡ false → is_blank b ≡ false → (q : Bool) → (b == 34) ≡ q → LineFrom (b ∷ bs) (if q then opened Quoted after.in_quotes else opened Bare (byte_before b after.in_bare))
    by_quote t u true e =
        subst (λ (x : ℕ). IsLine (x ∷ bs) (Quoted after.in_quotes.open_bytes ∷ after.in_quotes.elements) after.in_quotes.rest) (sym (eqb-true b 34 e)) (quoted_at bs after.in_quotes h.in_quotes)
    by_quote t u false e = bare_at b bs after.in_bare t u e h.in_bare

    by_blank : starts_end (b ∷ bs) ≡ false → (u : Bool) → is_blank b ≡ u → LineFrom (b ∷ bs) (if u then after.between else if b == 34 then opened Quoted after.in_quotes else opened Bare (byte_before b after.in_bare))
    by_blank t true e = line_after b bs after.between t e h.between
    by_blank t false e = by_quote t e (b == 34) refl

    by_end : (t : Bool) → starts_end (b ∷ bs) ≡ t → LineFrom (b ∷ bs) (if t then line_ending (after_end (b ∷ bs)) else if is_blank b then after.between else if b == 34 then opened Quoted after.in_quotes else opened Bare (byte_before b after.in_bare))
    by_end true e = record { closed = true; line = []; begins = begins_at_end b bs e; spells = refl }
    by_end false e = by_blank e (is_blank b) refl

-- ---- in a bare element

in_bare_from : (b : ℕ) (bs : List ℕ) (after : Readings) → AllFrom bs after → BareFrom (b ∷ bs) (in_bare_at b bs after)
in_bare_from b bs after h = by_end (starts_end (b ∷ bs)) refl
  where
    by_blank : starts_end (b ∷ bs) ≡ false → (u : Bool) → is_blank b ≡ u → BareFrom (b ∷ bs) (if u then closing after.between else byte_before b after.in_bare)
    by_blank t true e = record {
      closed = h.between.closed;
      after = b ∷ h.between.line;
      begins = begins_before h.between.closed b bs h.between.line after.between.rest t h.between.begins;
      bare = refl;
      ends = ap (λ (x : Bool). not (x || (b == 10))) e;
      spells = spells_blank h.between.closed b h.between.line after.between.elements e h.between.spells;
    }
    by_blank t false e = record {
      closed = h.in_bare.closed;
      after = h.in_bare.after;
      begins = begins_before h.in_bare.closed b bs (after.in_bare.open_bytes ++ h.in_bare.after) after.in_bare.rest t h.in_bare.begins;
      bare = and_from (is_bare_byte b) (list_all is_bare_byte after.in_bare.open_bytes) (bare_byte b bs t e) h.in_bare.bare;
      ends = h.in_bare.ends;
      spells = h.in_bare.spells;
    }

    by_end : (t : Bool) → starts_end (b ∷ bs) ≡ t → BareFrom (b ∷ bs) (if t then line_ending (after_end (b ∷ bs)) else if is_blank b then closing after.between else byte_before b after.in_bare)
    by_end true e = record { closed = true; after = []; begins = begins_at_end b bs e; bare = refl; ends = refl; spells = refl }
    by_end false e = by_blank e (is_blank b) refl

-- ---- in quotes

not_empty : (xs : List ℕ) (c : ℕ) (ys : List ℕ) → xs ++ c ∷ ys ≡ [] → ⊥
not_empty [] c ys h = cc
not_empty (x ∷ xs) c ys h = cc

doubled_one : (b : ℕ) (text : List ℕ) → (b == 34) ≡ false → doubled (b ∷ text) ≡ b ∷ doubled text
doubled_one b text e = ap (λ (t : Bool). (if t then 34 ∷ 34 ∷ [] else b ∷ []) ++ doubled text) e

byte_in_quotes : (b : ℕ) (bs : List ℕ) (r : Reading) → (b == 34) ≡ false → QuotedFrom bs r → QuotedFrom (b ∷ bs) (byte_before b r)
byte_in_quotes b bs r e (inl q) = inl (record {
  closed = q.closed;
  after = q.after;
  begins = subst (λ (xs : List ℕ). Begins q.closed (b ∷ bs) (xs ++ 34 ∷ q.after) r.rest) (sym (doubled_one b r.open_bytes e))
      (begins_inside q.closed b bs (doubled r.open_bytes ++ 34 ∷ q.after) r.rest (not_empty (doubled r.open_bytes) 34 q.after) q.begins);
  ends = q.ends;
  spells = q.spells;
})
byte_in_quotes b bs r e (inr q) = inr (record {
  bytes = ap (before b) q.bytes ∙ sym (doubled_one b r.open_bytes e);
  elements = q.elements;
  rest = q.rest;
})

mark_in_quotes : (bs : List ℕ) (r : Reading) → QuotedFrom bs r → QuotedFrom (34 ∷ 34 ∷ bs) (byte_before 34 r)
mark_in_quotes bs r (inl q) = inl (record {
  closed = q.closed;
  after = q.after;
  begins =
      begins_inside q.closed 34 (34 ∷ bs) (34 ∷ (doubled r.open_bytes ++ 34 ∷ q.after)) r.rest (not_empty (34 ∷ doubled r.open_bytes) 34 q.after)
      (begins_inside q.closed 34 bs (doubled r.open_bytes ++ 34 ∷ q.after) r.rest (not_empty (doubled r.open_bytes) 34 q.after) q.begins);
  ends = q.ends;
  spells = q.spells;
})
mark_in_quotes bs r (inr q) = inr (record {
  bytes = ap (λ (xs : List ℕ). 34 ∷ 34 ∷ xs) q.bytes;
  elements = q.elements;
  rest = q.rest;
})

in_quotes_from : (b : ℕ) (bs : List ℕ) (after : Readings) → AllFrom bs after → QuotedFrom (b ∷ bs) (in_quotes_at b after)
in_quotes_from b bs after h = by_mark (b == 34) refl
  where
    by_mark : (q : Bool) → (b == 34) ≡ q → QuotedFrom (b ∷ bs) (if q then after.after_mark else byte_before b after.in_quotes)
    by_mark true e = subst (λ (x : ℕ). QuotedFrom (x ∷ bs) after.after_mark) (sym (eqb-true b 34 e)) h.after_mark
    by_mark false e = byte_in_quotes b bs after.in_quotes e h.in_quotes

-- ---- after a mark

no_mark : (b c : ℕ) → (b == 34) ≡ false → b ≡ c → (c == 34) ≡ false
no_mark b c h e = ap (λ (x : ℕ). x == 34) (sym e) ∙ h

first_of_line : (closed : Bool) (b : ℕ) (bs line rest : List ℕ) → (b == 34) ≡ false → Begins closed (b ∷ bs) line rest → starts 34 line ≡ false
first_of_line closed b bs [] rest e h = refl
first_of_line true b bs (c ∷ cs) rest e (inl h) = let k : b ∷ bs ≡ c ∷ (cs ++ 10 ∷ rest) = h.0 in no_mark b c e (cc)
first_of_line true b bs (c ∷ cs) rest e (inr (inl h)) = let k : b ∷ bs ≡ c ∷ (cs ++ 13 ∷ 10 ∷ rest) = h in no_mark b c e (cc)
first_of_line true b bs (c ∷ cs) rest e (inr (inr h)) = let k : b ∷ bs ≡ c ∷ cs = h.0 in no_mark b c e (cc)
first_of_line false b bs (c ∷ cs) rest e h = let k : b ∷ bs ≡ c ∷ cs = h.0 in no_mark b c e (cc)

after_mark_from : (b : ℕ) (bs : List ℕ) (after : Readings) → AllFrom bs after → QuotedFrom (34 ∷ b ∷ bs) (after_mark_at b bs after)
after_mark_from b bs after h = by_mark (b == 34) refl
  where
    by_mark : (q : Bool) → (b == 34) ≡ q → QuotedFrom (34 ∷ b ∷ bs) (if q then byte_before 34 after.in_quotes else closing (between_at b bs after))
    by_mark true e = subst (λ (x : ℕ). QuotedFrom (34 ∷ x ∷ bs) (byte_before 34 after.in_quotes)) (sym (eqb-true b 34 e)) (mark_in_quotes bs after.in_quotes h.in_quotes)
    by_mark false e =
        let line = between_from b bs after h in
        inl (record {
          closed = line.closed;
          after = line.line;
          begins = begins_before line.closed 34 (b ∷ bs) line.line (between_at b bs after).rest refl line.begins;
          ends = first_of_line line.closed b bs line.line (between_at b bs after).rest e line.begins;
          spells = line.spells;
        })

-- ---- the four together

all_from : (bs : List ℕ) → AllFrom bs (readings bs)
all_from [] = record {
  between = record { closed = true; line = []; begins = inr (inr (refl, refl)); spells = refl };
  in_bare = record { closed = true; after = []; begins = inr (inr (refl, refl)); bare = refl; ends = refl; spells = refl };
  in_quotes = inr (record { bytes = refl; elements = refl; rest = refl });
  after_mark = inl (record { closed = true; after = []; begins = inr (inr (refl, refl)); ends = refl; spells = refl });
}
all_from (b ∷ bs) =
    let h = all_from bs in
    record {
      between = between_from b bs (readings bs) h;
      in_bare = in_bare_from b bs (readings bs) h;
      in_quotes = in_quotes_from b bs (readings bs) h;
      after_mark = after_mark_from b bs (readings bs) h;
    }

-- the elements that are read of the first line, and what is left, are those of the line
pub first_line_is : (input : List ℕ) → IsLine input (first_line input).elements (first_line input).rest
unfolding first_line
first_line_is input = (all_from input).between
