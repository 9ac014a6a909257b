-- One lexeme at each place, and the run over a whole text.
use Rattle.std.proofs.Common.{ℕ, ◌+◌, ◌-◌, ◌<◌, ◌≤◌, ◌≡◌, true, false, not, List, [], ◌∷◌, ◌++◌, length, take, drop, refl, sym, ◌∙◌, ap, subst, arith, append_assoc, ◌⊎◌, inl, inr, length-drop, drop-drop}
use Rattle.std.proofs.Math.Decide.{dec_lt}
use Rattle.abl_base.specs.declared.rule.Rule.{Rule}
use Rattle.abl_base.specs.declared.rule.Rule.TheVariants.{L1, L2, L3}
use Rattle.parse_tree.specs.Tokens.{ends_once, is_end}
use Rattle.abl_base.specs.declared.place.Place.{Place}
use Rattle.parse_tree.specs.declared.token.Token.{Token}
use Rattle.parse_tree.specs.declared.token.TokenKind.{TokenKind}
use Rattle.parse_tree.specs.declared.token.Meaning.{Meaning}
use Rattle.lexer.specs.declared.form.Form.{Form}
use Rattle.lexer.specs.Bytes.{starts_quote, starts_gap}
use Rattle.lexer.specs.Forms.{form, Longest, NoForm}
use Rattle.lexer.specs.Gaps.{Gap, nothing, white, commented, OpenGap, opens, white_open, commented_open}
use Rattle.lexer.specs.Meanings.{kind_of, meaning_of}
use Rattle.lexer.specs.Texts.{IsRefused, place_of, bytes_of, IsNextWord, token_of, end_token, TokensFrom, ended, token, HasTokens, Misfit, Broken, no_token, open_comment, open_text, misfit, BreaksFrom, here, later, Breaks, IsFirst, number, EndsAt, IsFit, IsFirstMisfit, IsBrokenFirst, BreaksFront}
use Rattle.std.proofs.lemmas.Bool.{both_ways, and_from, not_from_false}
use Rattle.lexer.proofs.Gaps.{gap_unique, gap_open, open_unique}
use Rattle.lexer.proofs.OneForm.{one_form, no_end}
use Rattle.lexer.proofs.Misfits.{inside_word}
use Rattle.lexer.proofs.Prefixes.{length_take}

order : (q r : ℕ) → (q < r) ⊎ ((r < q) ⊎ (q ≡ r))
order q r = elim (dec_lt q r) [ yes h ↦ inl h | no h ↦ elim (dec_lt r q) [ yes g ↦ inr (inl g) | no g ↦ inr (inr (omega arith)) ] ]

-- the length of the longest lexeme is unique
same_long : (f g : Form) (n m : ℕ) (text : List ℕ) → Longest f n text → Longest g m text → n ≡ m
same_long f g n m text a b = elim (order n m) [
  | inl h ↦ absurd (a.longest g m h b.within b.matches)
  | inr s ↦ elim s [ inl h ↦ absurd (b.longest f n h a.within a.matches) | inr h ↦ h ]
]

pub record Same (f g : Form) (s s' e e' : ℕ) : Type 0 where
  pub shape : f ≡ g
  pub start : s ≡ s'
  pub end : e ≡ e'

pub word_unique : (text : List ℕ) (at : ℕ) (f g : Form) (s e s' e' : ℕ) → IsNextWord text at f s e → IsNextWord text at g s' e' → Same f g s s' e e'
word_unique text at f g s e s' e' a b =
    let i : a.gap ≡ b.gap = gap_unique a.gap_is b.gap_is in
    let p = a.start_is in
    let q = b.start_is in
    let r : s ≡ s' = omega arith in
    let l : Longest g b.n (drop s text) = subst (λ x. Longest g b.n (drop x text)) (sym r) b.longest in
    let n : a.n ≡ b.n = same_long f g a.n b.n (drop s text) a.longest l in
    let u = a.end_is in
    let v = b.end_is in
    record {
      shape = one_form f g (take a.n (drop s text)) (drop a.n (drop s text)) a.longest.matches (subst (λ m. form g (take m (drop s text)) (drop m (drop s text)) ≡ true) (sym n) l.matches);
      start = r;
      end = omega arith;
    }

-- THE LEXEME AT A PLACE
pub gap_stops : {text : List ℕ} {n : ℕ} → Gap text n → starts_gap (drop n text) ≡ false
gap_stops (nothing e) = e
gap_stops (white w g) = gap_stops g
gap_stops (commented {text = bs} {n} m p q o g) = sym (ap starts_gap (drop-drop n m bs)) ∙ gap_stops g

pub next_word : (text : List ℕ) (at gap : ℕ) (f : Form) (n : ℕ) (first rest : List ℕ) → first ≡ drop at text → Gap first gap → rest ≡ drop (at + gap) text → Longest f n rest → IsNextWord text at f (at + gap) (at + gap + n)
next_word text at gap f n first rest e g r l = record {
  gap = gap;
  gap_is = subst (λ t. Gap t gap) e g;
  start_is = refl;
  n = n;
  end_is = refl;
  longest = subst (λ t. Longest f n t) r l;
}

pub record Inside (text : List ℕ) (at s e : ℕ) : Type 0 where
  pub from : at ≤ s
  pub some : s < e
  pub within : e ≤ length text

pub word_inside : (text : List ℕ) (at : ℕ) (f : Form) (s e : ℕ) → at ≤ length text → IsNextWord text at f s e → Inside text at s e
word_inside text at f s e h w =
    let p = w.start_is in
    let q = w.end_is in
    let a = w.longest.some in
    let b = w.longest.within in
    record { from = omega arith; some = omega arith; within = omega (arith, length-drop s text) }

pub word_bytes : (text : List ℕ) (at : ℕ) (f : Form) (s e : ℕ) → IsNextWord text at f s e → (after : List ℕ) × (form f (bytes_of text s e) after ≡ true)
word_bytes text at f s e w =
    let q = w.end_is in
    let n : w.n ≡ e - s = omega arith in
    (drop w.n (drop s text), subst (λ k. form f (take k (drop s text)) (drop w.n (drop s text)) ≡ true) n w.longest.matches)

word_length : (text : List ℕ) (at : ℕ) (f : Form) (s e : ℕ) → IsNextWord text at f s e → length (bytes_of text s e) ≡ e - s
word_length text at f s e w =
    let q = w.end_is in
    let b = w.longest.within in
    length_take (e - s) (drop s text) (omega arith)

-- no lexeme is at a place where no form matches
no_such : (text : List ℕ) (at : ℕ) (f : Form) (s e gap : ℕ) → IsNextWord text at f s e → Gap (drop at text) gap → NoForm (drop (at + gap) text) → ⊥
no_such text at f s e gap w g n =
    let u : w.gap ≡ gap = gap_unique w.gap_is g in
    let v = w.start_is in
    let r : s ≡ at + gap = omega arith in
    let l : Longest f w.n (drop (at + gap) text) = subst (λ x. Longest f w.n (drop x text)) r w.longest in
    n f w.n l.within l.matches

two_quotes : (text : List ℕ) (at gap gap' : ℕ) → Gap (drop at text) gap → Gap (drop at text) gap' → starts_quote (drop (at + gap) text) ≡ false → starts_quote (drop (at + gap') text) ≡ true → ⊥
two_quotes text at gap gap' g h e f =
    let u : gap ≡ gap' = gap_unique g h in
    both_ways (starts_quote (drop (at + gap) text)) e (subst (λ x. starts_quote (drop (at + x) text) ≡ true) (sym u) f)

-- THE RULE BROKEN FIRST AT A PLACE
level : (a b : ℕ) → a ≡ b → a ≤ b
level a b e = omega arith

comment_least : (text : List ℕ) (at n : ℕ) → OpenGap (drop at text) n → (other : Rule) (x : ℕ) → Broken text at other x → (at + n ≤ x) × (number L2 ≤ number other)
comment_least text at n g other x (no_token gap g' h q m) = absurd (gap_open g' g)
comment_least text at n g other x (open_comment gap g') = (let u : n ≡ gap = open_unique g g' in omega arith, omega arith)
comment_least text at n g other x (open_text gap g' q m) = absurd (gap_open g' g)
comment_least text at n g other x (misfit w m) = absurd (gap_open w.gap_is g)

pub comment_first : (text : List ℕ) (at n : ℕ) (rest : List ℕ) → rest ≡ drop at text → OpenGap rest n → IsBrokenFirst text at L2 (at + n)
comment_first text at n rest e o =
    let g = subst (λ t. OpenGap t n) e o in
    record { breaks = open_comment n g; first = λ other x b. comment_least text at n g other x b }

token_least : (text : List ℕ) (at n : ℕ) → Gap (drop at text) n → starts_quote (drop (at + n) text) ≡ false → NoForm (drop (at + n) text) → (other : Rule) (x : ℕ) → Broken text at other x → (at + n ≤ x) × (number L1 ≤ number other)
token_least text at n g s free other x (no_token gap g' h q m) = (let u : n ≡ gap = gap_unique g g' in omega arith, omega arith)
token_least text at n g s free other x (open_comment gap g') = absurd (gap_open g g')
token_least text at n g s free other x (open_text gap g' q m) = absurd (two_quotes text at n gap g g' s q)
token_least text at n g s free other x (misfit {f} {start} {end} w m) = absurd (no_such text at f start end n w g free)

text_least : (text : List ℕ) (at n : ℕ) → Gap (drop at text) n → starts_quote (drop (at + n) text) ≡ true → NoForm (drop (at + n) text) → (other : Rule) (x : ℕ) → Broken text at other x → (at + n ≤ x) × (number L3 ≤ number other)
text_least text at n g s free other x (no_token gap g' h q m) = absurd (two_quotes text at gap n g' g q s)
text_least text at n g s free other x (open_comment gap g') = absurd (gap_open g g')
text_least text at n g s free other x (open_text gap g' q m) = (let u : n ≡ gap = gap_unique g g' in omega arith, omega arith)
text_least text at n g s free other x (misfit {f} {start} {end} w m) = absurd (no_such text at f start end n w g free)

pub record FrontBroken (text : List ℕ) (at n : ℕ) (first rest : List ℕ) : Type 0 where
  pub first_is : first ≡ drop at text
  pub gap_is : Gap first n
  pub rest_is : rest ≡ drop (at + n) text
  pub inside : at + n < length text

pub leading_first : (text : List ℕ) (at n : ℕ) (first rest : List ℕ) (rule : Rule) → FrontBroken text at n first rest → BreaksFront rule rest → IsBrokenFirst text at rule (at + n)
leading_first text at n first rest L1 p b =
    let g = subst (λ t. Gap t n) p.first_is p.gap_is in
    let s = sym (ap starts_quote p.rest_is) ∙ b.0 in
    let free = subst NoForm p.rest_is b.1 in
    record { breaks = no_token n g p.inside s free; first = λ other x c. token_least text at n g s free other x c }
leading_first text at n first rest L3 p b =
    let g = subst (λ t. Gap t n) p.first_is p.gap_is in
    let s = sym (ap starts_quote p.rest_is) ∙ b.0 in
    let free = subst NoForm p.rest_is b.1 in
    record { breaks = open_text n g s free; first = λ other x c. text_least text at n g s free other x c }
leading_first text at n first rest _ p b = absurd b

misfit_least : (text : List ℕ) (at : ℕ) (f : Form) (s e : ℕ) (rule : Rule) (offset : ℕ) → IsNextWord text at f s e → IsFirstMisfit f (bytes_of text s e) rule offset → (other : Rule) (x : ℕ) → Broken text at other x → (s + offset ≤ x) × (number rule ≤ number other)
misfit_least text at f s e rule offset w m other x (no_token gap g' h q n) = absurd (no_such text at f s e gap w g' n)
misfit_least text at f s e rule offset w m other x (open_comment gap g') = absurd (gap_open w.gap_is g')
misfit_least text at f s e rule offset w m other x (open_text gap g' q n) = absurd (no_such text at f s e gap w g' n)
misfit_least text at f s e rule offset w m other x (misfit {f = g} {start = s'} {end = e'} {offset = o} v n) =
    let u = word_unique text at g f s' e' s e v w in
    let i = u.start in
    let a : Misfit f (bytes_of text s' e') other o = subst (λ k. Misfit k (bytes_of text s' e') other o) u.shape n in
    let b : Misfit f (bytes_of text s e') other o = subst (λ k. Misfit f (bytes_of text k e') other o) u.start a in
    let c : Misfit f (bytes_of text s e) other o = subst (λ k. Misfit f (bytes_of text s k) other o) u.end b in
    let z = m.first other o c in
    (let y = z.0 in omega arith, z.1)

pub misfit_first : (text : List ℕ) (at : ℕ) (f : Form) (s e : ℕ) (rule : Rule) (offset : ℕ) (word : List ℕ) → IsNextWord text at f s e → word ≡ bytes_of text s e → IsFirstMisfit f word rule offset → IsBrokenFirst text at rule (s + offset)
misfit_first text at f s e rule offset word w h m =
    let i = subst (λ v. IsFirstMisfit f v rule offset) h m in
    record { breaks = misfit w i.breaks; first = λ other x b. misfit_least text at f s e rule offset w i other x b }

-- THE RUN
pub record LexSofar (text : List ℕ) (at : ℕ) (done : List Token) : Type 0 where
  pub within : at ≤ length text
  pub tokens : (list : List Token) → TokensFrom text at list → HasTokens text (done ++ list)
  pub back : (rule : Rule) (spot : ℕ) → Breaks text rule spot → BreaksFrom text at rule spot
  pub forth : (rule : Rule) (spot : ℕ) → BreaksFrom text at rule spot → Breaks text rule spot

pub begin : (text : List ℕ) → LexSofar text 0 []
begin text = record { within = omega arith; tokens = λ list t. t; back = λ r p b. b; forth = λ r p b. b }

-- a lexeme that breaks no rule of its own leaves no rule broken at its place
fine_word : (text : List ℕ) (at : ℕ) (f : Form) (s e : ℕ) (rule : Rule) (spot : ℕ) → IsNextWord text at f s e → IsFit f (bytes_of text s e) → Broken text at rule spot → ⊥
fine_word text at f s e rule spot w fit (no_token gap g h q n) = no_such text at f s e gap w g n
fine_word text at f s e rule spot w fit (open_comment gap g) = gap_open w.gap_is g
fine_word text at f s e rule spot w fit (open_text gap g q n) = no_such text at f s e gap w g n
fine_word text at f s e rule spot w fit (misfit {f = g} {start = s'} {end = e'} {offset = o} v n) =
    let u = word_unique text at g f s' e' s e v w in
    let a : Misfit f (bytes_of text s' e') rule o = subst (λ k. Misfit k (bytes_of text s' e') rule o) u.shape n in
    let b : Misfit f (bytes_of text s e') rule o = subst (λ k. Misfit f (bytes_of text k e') rule o) u.start a in
    let c : Misfit f (bytes_of text s e) rule o = subst (λ k. Misfit f (bytes_of text s k) rule o) u.end b in
    fit rule o c

past : (text : List ℕ) (at : ℕ) (f : Form) (s e : ℕ) (rule : Rule) (spot : ℕ) → IsNextWord text at f s e → IsFit f (bytes_of text s e) → BreaksFrom text at rule spot → BreaksFrom text e rule spot
past text at f s e rule spot w fit (here b) = absurd (fine_word text at f s e rule spot w fit b)
past text at f s e rule spot w fit (later {start = s'} {end = e'} {f = g} v b) =
    let u = word_unique text at f g s e s' e' w v in
    subst (λ x. BreaksFrom text x rule spot) (sym u.end) b

-- at the end no lexeme follows, and no rule is broken
no_word_here : (text : List ℕ) (at : ℕ) (f : Form) (s e : ℕ) → EndsAt text at → IsNextWord text at f s e → ⊥
no_word_here text at f s e d w =
    let u : w.gap ≡ d.0 = gap_unique w.gap_is d.1 in
    let p = w.start_is in
    let q = d.2 in
    let a = w.longest.some in
    let b = w.longest.within in
    omega (arith, length-drop s text)

quote_inside : (xs : List ℕ) → starts_quote xs ≡ true → 0 < length xs
quote_inside [] e = let z : false ≡ true = e in cc
quote_inside (b ∷ bs) e = omega arith

no_broken : (text : List ℕ) (at : ℕ) (rule : Rule) (spot : ℕ) → EndsAt text at → Broken text at rule spot → ⊥
no_broken text at rule spot d (no_token gap g h q n) =
    let u : d.0 ≡ gap = gap_unique d.1 g in
    let r = d.2 in
    omega arith
no_broken text at rule spot d (open_comment gap g) = gap_open d.1 g
no_broken text at rule spot d (open_text gap g q n) =
    let u : d.0 ≡ gap = gap_unique d.1 g in
    let r = d.2 in
    let l = quote_inside (drop (at + gap) text) q in
    omega (arith, length-drop (at + gap) text)
no_broken text at rule spot d (misfit {f} {start} {end} w m) = no_word_here text at f start end d w

no_break : (text : List ℕ) (at : ℕ) (rule : Rule) (spot : ℕ) → EndsAt text at → BreaksFrom text at rule spot → ⊥
no_break text at rule spot d (here b) = no_broken text at rule spot d b
no_break text at rule spot d (later {start = s} {end = e} {f} v b) = no_word_here text at f s e d v

pub go_on : (text : List ℕ) (at : ℕ) (done more : List Token) (t : Token) (f : Form) (s e : ℕ) → LexSofar text at done → IsNextWord text at f s e → IsFit f (bytes_of text s e) → t ≡ token_of text f s e → more ≡ done ++ (t ∷ []) → LexSofar text e more
go_on text at done more t f s e r w fit h m = record {
  within = (word_inside text at f s e r.within w).within;
  tokens = λ list x. subst (HasTokens text) (sym (append_assoc done (token_of text f s e ∷ []) list) ∙ ap (λ u. (done ++ (u ∷ [])) ++ list) (sym h) ∙ ap (λ d. d ++ list) (sym m)) (r.tokens (token_of text f s e ∷ list) (token w x));
  back = λ rule spot b. past text at f s e rule spot w fit (r.back rule spot b);
  forth = λ rule spot b. r.forth rule spot (later w b);
}

pub finished : (text : List ℕ) (at : ℕ) (done more : List Token) (t : Token) → LexSofar text at done → EndsAt text at → t ≡ end_token text → more ≡ done ++ (t ∷ []) → HasTokens text more
finished text at done more t s w e m =
    subst (HasTokens text) (ap (λ x. done ++ (x ∷ [])) (sym e) ∙ sym m) (s.tokens (end_token text ∷ []) (ended w.0 w.1 w.2))

-- no rule is broken where the text ends
pub clean : (text : List ℕ) (at : ℕ) (done : List Token) → LexSofar text at done → EndsAt text at → (rule : Rule) (spot : ℕ) → Breaks text rule spot → ⊥
clean text at done s w rule spot b = no_break text at rule spot w (s.back rule spot b)

pub at_place : (text : List ℕ) (at : ℕ) (rule : Rule) (spot : ℕ) → Broken text at rule spot → at ≤ spot
at_place text at rule spot (no_token gap g h q n) = omega arith
at_place text at rule spot (open_comment gap g) = omega arith
at_place text at rule spot (open_text gap g q n) = omega arith
at_place text at rule spot (misfit w m) = (let p = w.start_is in omega arith)

later_on : (text : List ℕ) (at : ℕ) (rule : Rule) (spot : ℕ) → at ≤ length text → BreaksFrom text at rule spot → at ≤ spot
later_on text at rule spot h (here b) = at_place text at rule spot b
later_on text at rule spot h (later {start = s} {end = e} {f} v b) =
    let w = word_inside text at f s e h v in
    let i = later_on text e rule spot w.within b in
    let p = w.from in
    let q = w.some in
    omega arith

-- after a lexeme
past_word : (text : List ℕ) (at : ℕ) (f : Form) (s e : ℕ) (rule : Rule) (spot : ℕ) → s < e → IsNextWord text at f s e → Broken text at rule spot → spot < e
past_word text at f s e rule spot l w (no_token gap g h q n) = absurd (no_such text at f s e gap w g n)
past_word text at f s e rule spot l w (open_comment gap g) = absurd (gap_open w.gap_is g)
past_word text at f s e rule spot l w (open_text gap g q n) = absurd (no_such text at f s e gap w g n)
past_word text at f s e rule spot l w (misfit {f = g} {start = s'} {end = e'} {offset = o} v m) =
    let u = word_unique text at g f s' e' s e v w in
    let a = u.start in
    let b = u.end in
    let k = word_length text at g s' e' v in
    let i = inside_word g (bytes_of text s' e') rule o (omega arith) m in
    omega arith

compared : (text : List ℕ) (at : ℕ) (rule other : Rule) (spot x : ℕ) → at ≤ length text → IsBrokenFirst text at rule spot → BreaksFrom text at other x → (spot < x) ⊎ ((spot ≡ x) × (number rule ≤ number other))
compared text at rule other spot x h a (here b) =
    let l = a.first other x b in
    let m = l.0 in
    elim (order spot x) [
      | inl g ↦ inl g
      | inr g ↦ elim g [ inl k ↦ absurd (omega arith) | inr k ↦ inr (k, l.1) ]
    ]
compared text at rule other spot x h a (later {start = s} {end = e} {f} v b) =
    let w = word_inside text at f s e h v in
    let i = later_on text e other x w.within b in
    let p = past_word text at f s e rule spot w.some v a.breaks in
    inl (omega arith)

pub is_first : (text : List ℕ) (at : ℕ) (done : List Token) (rule : Rule) (spot : ℕ) → LexSofar text at done → IsBrokenFirst text at rule spot → IsFirst text rule spot
is_first text at done rule spot s b = record {
  breaks = s.forth rule spot (here b.breaks);
  first = λ other x c. compared text at rule other spot x s.within b (s.back other x c);
}

open_within : {text : List ℕ} {n : ℕ} → OpenGap text n → n < length text
open_within (opens p q o) = omega arith
open_within (white_open w g) = (let i = open_within g in omega arith)
open_within (commented_open {text = bs} m p q o g) = (let i = open_within g in omega (arith, length-drop m bs))

open_inside : (text : List ℕ) (at n : ℕ) → at ≤ length text → OpenGap (drop at text) n → at + n ≤ length text
open_inside text at n h g = let i = open_within g in omega (arith, length-drop at text)

pub rule_inside : (text : List ℕ) (at : ℕ) (rule : Rule) (spot : ℕ) → at ≤ length text → Broken text at rule spot → spot ≤ length text
rule_inside text at rule spot h (no_token gap g i q n) = omega arith
rule_inside text at rule spot h (open_comment gap g) = open_inside text at gap h g
rule_inside text at rule spot h (open_text gap g q n) =
    let l = quote_inside (drop (at + gap) text) q in
    omega (arith, length-drop (at + gap) text)
rule_inside text at rule spot h (misfit {f} {start} {end} w m) =
    let i = word_inside text at f start end h w in
    let p = past_word text at f start end rule spot i.some w (misfit w m) in
    let q = i.within in
    omega arith

-- ONE END TOKEN
cons_ends : (t : Token) (list : List Token) → is_end t.kind ≡ false → ends_once list ≡ true → ends_once (t ∷ list) ≡ true
cons_ends t [] e h = let z : false ≡ true = h in cc
cons_ends t (u ∷ us) e h = and_from (not (is_end t.kind)) _ (not_from_false _ e) h

end_alone : (text : List ℕ) → ends_once (end_token text ∷ []) ≡ true
unfolding end_token
end_alone text = refl

token_kind : (text : List ℕ) (f : Form) (s e : ℕ) → is_end (token_of text f s e).kind ≡ false
unfolding token_of
token_kind text f s e = no_end f (bytes_of text s e)

ends : (text : List ℕ) (at : ℕ) (list : List Token) → TokensFrom text at list → ends_once list ≡ true
ends text at list (ended gap g e) = end_alone text
ends text at list (token {list = more} {f} {start} {end} w t) = cons_ends (token_of text f start end) more (token_kind text f start end) (ends text end more t)

pub tokens_end : (text : List ℕ) (list : List Token) → HasTokens text list → ends_once list ≡ true
tokens_end text list t = ends text 0 list t

-- ONE LIST
same_tokens : (text : List ℕ) (f g : Form) (s s' e e' : ℕ) (l m : List Token) → Same f g s s' e e' → l ≡ m → token_of text f s e ∷ l ≡ token_of text g s' e' ∷ m
same_tokens text f g s s' e e' l m u h =
    ap (λ k. token_of text k s e ∷ l) u.shape ∙ ap (λ k. token_of text g k e ∷ l) u.start ∙ ap (λ k. token_of text g s' k ∷ l) u.end ∙ ap (λ k. token_of text g s' e' ∷ k) h

one_list : (text : List ℕ) (at : ℕ) (l m : List Token) → TokensFrom text at l → TokensFrom text at m → l ≡ m
one_list text at l m (ended gap g e) (ended gap' g' e') = refl
one_list text at l m (ended gap g e) (token {f} {start} {end} w t) = absurd (no_word_here text at f start end (gap, g, e) w)
one_list text at l m (token {f} {start} {end} w t) (ended gap g e) = absurd (no_word_here text at f start end (gap, g, e) w)
one_list text at l m (token {list = x} {f} {start} {end} w t) (token {list = y} {f = f'} {start = start'} {end = end'} w' t') =
    let u = word_unique text at f f' start end start' end' w w' in
    same_tokens text f f' start start' end end' x y u (one_list text end x y t (subst (λ k. TokensFrom text k y) (sym u.end) t'))

pub tokens_one : (text : List ℕ) (l m : List Token) → HasTokens text l → HasTokens text m → l ≡ m
tokens_one text l m a b = one_list text 0 l m a b

-- IN THE FORM THAT THE CODE USES
pub misfit_inside : (text : List ℕ) (at : ℕ) (f : Form) (s e : ℕ) (rule : Rule) (offset : ℕ) (word : List ℕ) → at ≤ length text → IsNextWord text at f s e → word ≡ bytes_of text s e → IsFirstMisfit f word rule offset → s + offset < length text
misfit_inside text at f s e rule offset word h w q m =
    let i = word_inside text at f s e h w in
    let l = word_length text at f s e w in
    let a = i.some in
    let b = i.within in
    let k = inside_word f (bytes_of text s e) rule offset (omega arith) (subst (λ v. Misfit f v rule offset) q m.breaks) in
    omega arith

pub leading_broken : (text : List ℕ) (at n : ℕ) (first rest : List ℕ) → first ≡ drop at text → Gap first n → n ≤ length first → (at + n ≡ length text → ⊥) → at ≤ length text → rest ≡ drop (at + n) text → FrontBroken text at n first rest
leading_broken text at n first rest e g l no_end h r =
    let q : length first ≡ length (drop at text) = ap length e in
    record { first_is = e; gap_is = g; rest_is = r; inside = omega (arith, length-drop at text) }

abbrev pub made : ℕ → ℕ → TokenKind → Meaning → Place → Token
made s e k m p = record { kind = k; start = s; end = e; place = p; meaning = m }

pub token_known : (text : List ℕ) (f : Form) (s e : ℕ) (k : TokenKind) (m : Meaning) (p : Place) (word : List ℕ) → word ≡ bytes_of text s e → k ≡ kind_of f word → m ≡ meaning_of f word → p ≡ place_of text s → made s e k m p ≡ token_of text f s e
unfolding token_of
token_known text f s e k m p word h a b c =
    ap (λ x. made s e x m p) (a ∙ ap (kind_of f) h) ∙ ap (λ x. made s e (kind_of f (bytes_of text s e)) x p) (b ∙ ap (meaning_of f) h)
    ∙ ap (λ x. made s e (kind_of f (bytes_of text s e)) (meaning_of f (bytes_of text s e)) x) c

pub begin_with : (text : List ℕ) (done : List Token) → done ≡ [] → LexSofar text 0 done
begin_with text done e = subst (λ d. LexSofar text 0 d) (sym e) (begin text)

pub refused : (text : List ℕ) (at : ℕ) (done : List Token) (r rule : Rule) (spot : ℕ) (p place : Place) → LexSofar text at done → IsBrokenFirst text at r spot → p ≡ place_of text spot → r ≡ rule → p ≡ place → IsRefused text rule place
refused text at done r rule spot p place s b h e f = (spot, subst (λ q. IsFirst text q spot) e (is_first text at done r spot s b), sym f ∙ h)
