-- The state of the parser before a token, and what each outcome of reading it means.
use Rattle.std.proofs.Common.{ℕ, suc, ◌+◌, ◌<◌, ◌≡◌, true, false, not, List, [], ◌∷◌, length, take, drop, slice_index_or, IsTrue, refl, sym, ◌∙◌, ap, subst, arith}
use Rattle.std.proofs.Math.Seq.{drop-append_seam}
use Rattle.std.proofs.Math.Decide.{dec_lt}
use Rattle.abl_base.specs.declared.rule.Rule.{Rule}
use Rattle.abl_base.specs.declared.rule.Rule.TheVariants.{G1, G2}
use Rattle.parse_tree.specs.declared.token.TokenKind.{TokenKind}
use Rattle.parse_tree.specs.declared.token.TokenKind.TheVariants.{EndOfSource, Name}
use Rattle.parse_tree.specs.declared.token.Token.{Token}
use Rattle.parse_tree.specs.Tokens.{ends_once as tokens_end_once, is_end}
use Rattle.parser.specs.declared.symbol.Entry.{Entry}
use Rattle.parser.specs.declared.symbol.Entry.TheVariants.{Await}
use Rattle.parser.specs.declared.symbol.Opening.{Opening}
use Rattle.parser.specs.Grammar.{Forest, Viable, rules, IsText, kinds, any_deep}
use Rattle.parser.specs.Violations.{Breaks, IsFirst, Stops, Overflows}
use Rattle.parser.specs.Table.{ends_once}
use Rattle.parser.specs.Completing.{suits}
use Rattle.parser.specs.Engine.{plain, source, Leads, Went, Stuck, IsTaking, Reached, IsRead}
use Rattle.std.proofs.lemmas.Bool.{not-true}
use Rattle.abl_base.proofs.Bools.{left_of_and, right_of_and}
use Rattle.parser.proofs.Completes.{suits_take, suits_source}
use Rattle.parser.proofs.Runs.{refused, refused_went, reached, open_after, closed_after, ended, open_source, viable, finished, onward, Onward, forest_of_steps}
use Rattle.parser.proofs.Nesting.{overflows, no_overflow, unbroken, broken_within, none_append}

pub record At (tokens : List TokenKind) (at : ℕ) (stack : List Entry) (used : List Opening) : Type 0 where
  pub reached : Reached at stack used (take at tokens) (drop at tokens)
  pub suits : suits rules (plain stack) EndOfSource ≡ true
  pub open' : at < length tokens → ends_once (plain stack) ≡ true
  pub closed : at ≡ length tokens → stack ≡ []
  pub shallow : any_deep used ≡ false
  pub clean : (p : ℕ) → p < at → (broken : Rule) → Breaks tokens broken p → ⊥

some_text : (tokens : List TokenKind) → IsText tokens → 0 ≡ length tokens → ⊥
some_text [] t e = t
some_text (k ∷ ks) t e = omega arith

pub begun : (tokens : List TokenKind) (stack : List Entry) (used : List Opening) → IsText tokens → stack ≡ source → used ≡ [] → At tokens 0 stack used
begun tokens stack used t e u =
    subst (λ s. At tokens 0 s used) (sym e) (
    subst (λ v. At tokens 0 source v) (sym u) (
    record {
      reached = record { sound = λ os ts d. d; only = λ os ts f d. (os, refl, d) };
      suits = suits_source;
      open' = λ h. open_source;
      closed = λ h. absurd (some_text tokens t h);
      shallow = refl;
      clean = λ p h. absurd (omega arith);
    }))

-- the tokens before this place are a viable prefix
so_far : (tokens : List TokenKind) (at : ℕ) (stack : List Entry) (used : List Opening) → At tokens at stack used → Viable (take at tokens)
so_far tokens at stack used a = viable at stack used (take at tokens) (drop at tokens) a.reached a.suits

first_stop : (tokens : List TokenKind) (at : ℕ) (stack : List Entry) (used : List Opening) → At tokens at stack used → at < length tokens → (Viable (take (at + 1) tokens) → ⊥) → IsFirst tokens G1 at
first_stop tokens at stack used a h f = record {
  breaks = record { within = h; so_far = so_far tokens at stack used a; no_further = f };
  none_before = λ other p l b. a.clean p l other b;
}

-- no production applies
pub stuck_here : (tokens : List TokenKind) (at : ℕ) (k : TokenKind) (stack stack' : List Entry) (used used' : List Opening) → At tokens at stack used → at < length tokens → k ≡ slice_index_or tokens at Name
    → Leads at stack used stack' used' k → Stuck at stack' k → IsFirst tokens G1 at
stuck_here tokens at k stack stack' used used' a h e l s =
    first_stop tokens at stack used a h (
    refused tokens at Name stack stack' used used' h a.reached (subst (λ x. Leads at stack used stack' used' x) e l) (subst (λ x. Stuck at stack' x) e s))

-- the stack expects another token
pub other_here : (tokens : List TokenKind) (at : ℕ) (k n : TokenKind) (stack stack' : List Entry) (used used' : List Opening) → At tokens at stack used → at < length tokens → k ≡ slice_index_or tokens at Name
    → Went at stack used stack' used' k n → IsTaking stack' → ((rest : List Entry) → stack' ≡ Await k ∷ rest → ⊥) → IsFirst tokens G1 at
other_here tokens at k n stack stack' used used' a h e w t o =
    first_stop tokens at stack used a h (
    refused_went tokens at Name n stack stack' used used' h a.reached (subst (λ x. Went at stack used stack' used' x n) e w) t (λ rest q. o rest (q ∙ ap (λ x. Await x ∷ rest) (sym e))))

-- the token is taken
record Moved (tokens : List TokenKind) (at : ℕ) (rest : List Entry) (used' : List Opening) : Type 0 where
  reaches : Reached (at + 1) rest used' (take (at + 1) tokens) (drop (at + 1) tokens)
  suits_on : suits rules (plain rest) EndOfSource ≡ true

moved : (tokens : List TokenKind) (at : ℕ) (k n : TokenKind) (stack stack' rest : List Entry) (used used' : List Opening) → IsText tokens → At tokens at stack used → at < length tokens → k ≡ slice_index_or tokens at Name
    → (at + 1 < length tokens → n ≡ slice_index_or tokens (at + 1) Name) → Went at stack used stack' used' k n → stack' ≡ Await k ∷ rest → suits rules (plain stack') EndOfSource ≡ true → Moved tokens at rest used'
moved tokens at k n stack stack' rest used used' t a h e m w top s =
    let j = slice_index_or tokens at Name in
    let top' : stack' ≡ Await j ∷ rest = top ∙ ap (λ x. Await x ∷ rest) e in
    record {
      reaches = reached tokens at Name n stack stack' rest used used' t h a.reached (subst (λ x. Went at stack used stack' used' x n) e w) top' m;
      suits_on = suits_take stack' rest k s top;
    }

added_is : (used used' : List Opening) (at : ℕ) (start goal : List Entry) (k : TokenKind) → (o : Onward at start used goal used' k) → drop (length used) used' ≡ o.added
added_is used used' at start goal k o = ap (drop (length used)) o.is ∙ drop-append_seam used o.added

-- one of the new openings is too deep
pub deep_here : (tokens : List TokenKind) (at : ℕ) (k n : TokenKind) (stack stack' rest : List Entry) (used used' : List Opening) → IsText tokens → At tokens at stack used → at < length tokens → k ≡ slice_index_or tokens at Name
    → (at + 1 < length tokens → n ≡ slice_index_or tokens (at + 1) Name) → Went at stack used stack' used' k n → stack' ≡ Await k ∷ rest → suits rules (plain stack') EndOfSource ≡ true
    → any_deep (drop (length used) used') ≡ true → IsFirst tokens G2 at
deep_here tokens at k n stack stack' rest used used' t a h e m w top s d =
    let x = moved tokens at k n stack stack' rest used used' t a h e m w top s in
    let o = onward at stack used stack' used' k n w in
    let v = viable (at + 1) rest used' (take (at + 1) tokens) (drop (at + 1) tokens) x.reaches x.suits_on in
    record {
      breaks = overflows tokens at Name n stack stack' used used' o.added h a.reached (subst (λ y. Went at stack used stack' used' y n) e w) o.is (subst (λ y. any_deep y ≡ true) (added_is used used' at stack stack' k o) d) v;
      none_before = λ other p l b. a.clean p l other b;
    }

clean_on : (tokens : List TokenKind) (at : ℕ) (stack : List Entry) (used : List Opening) → At tokens at stack used → (Stops tokens at → ⊥) → (Overflows tokens at → ⊥) → (p : ℕ) → p < at + 1 → (broken : Rule) → Breaks tokens broken p → ⊥
clean_on tokens at stack used a s o p h broken b = elim (dec_lt p at) [
  | yes l ↦ a.clean p l broken b
  | no l ↦ (let e : p ≡ at = omega arith in unbroken tokens at s o broken (subst (λ q. Breaks tokens broken q) e b))
]

-- none of the new openings is too deep, and the parser continues with the next token
pub onward_here : (tokens : List TokenKind) (at : ℕ) (k n : TokenKind) (stack stack' rest : List Entry) (used used' : List Opening) → IsText tokens → At tokens at stack used → at < length tokens → k ≡ slice_index_or tokens at Name
    → (at + 1 < length tokens → n ≡ slice_index_or tokens (at + 1) Name) → Went at stack used stack' used' k n → stack' ≡ Await k ∷ rest → suits rules (plain stack') EndOfSource ≡ true → ends_once (plain stack') ≡ true
    → any_deep (drop (length used) used') ≡ false → At tokens (at + 1) rest used'
onward_here tokens at k n stack stack' rest used used' t a h e m w top s ends d =
    let x = moved tokens at k n stack stack' rest used used' t a h e m w top s in
    let o = onward at stack used stack' used' k n w in
    let j = slice_index_or tokens at Name in
    let top' : stack' ≡ Await j ∷ rest = top ∙ ap (λ y. Await y ∷ rest) e in
    let flat : any_deep used' ≡ false = subst (λ y. any_deep y ≡ false) (sym o.is) (none_append used o.added a.shallow (subst (λ y. any_deep y ≡ false) (added_is used used' at stack stack' k o) d)) in
    let f = finished (at + 1) rest used' (take (at + 1) tokens) (drop (at + 1) tokens) x.reaches x.suits_on in
    let v = viable (at + 1) rest used' (take (at + 1) tokens) (drop (at + 1) tokens) x.reaches x.suits_on in
    record {
      reached = x.reaches;
      suits = x.suits_on;
      open' = λ l. open_after tokens at Name stack' rest t ends top' l;
      closed = λ l. closed_after tokens at Name stack' rest t ends top' l;
      shallow = flat;
      clean = clean_on tokens at stack used a (λ b. b.no_further v) (λ b. no_overflow tokens at used' f flat b);
    }

-- after the last token
pub at_end : (tokens : List TokenKind) (at : ℕ) (stack : List Entry) (used : List Opening) → At tokens at stack used → at ≡ length tokens → (forest : Forest) × IsRead forest used tokens
at_end tokens at stack used a e =
    let r = forest_of_steps used tokens (ended tokens at stack used e a.reached (a.closed e)) in
    (r.forest, r.reads)

pub clean_end : (tokens : List TokenKind) (at : ℕ) (stack : List Entry) (used : List Opening) → At tokens at stack used → at ≡ length tokens → (broken : Rule) (place : ℕ) → Breaks tokens broken place → ⊥
clean_end tokens at stack used a e broken place b = a.clean place (let h = broken_within tokens place broken b in omega arith) broken b

-- the kinds of a source's tokens
end_is : (k : TokenKind) → is_end k ≡ true → k ≡ EndOfSource
end_is EndOfSource e = refl
end_is _ e = cc

end_is_not : (k : TokenKind) → is_end k ≡ false → k ≡ EndOfSource → ⊥
end_is_not k e q = let z : true ≡ false = ap is_end (sym q) ∙ e in cc

text_by : (tokens : List Token) → tokens_end_once tokens ≡ true → IsText (kinds tokens)
text_by [] e = cc
text_by (t ∷ []) e = end_is t.kind e
text_by (t ∷ u ∷ ts) e = (end_is_not t.kind (not-true (is_end t.kind) (left_of_and (not (is_end t.kind)) (tokens_end_once (u ∷ ts)) e)), text_by (u ∷ ts) (right_of_and (not (is_end t.kind)) (tokens_end_once (u ∷ ts)) e))

pub text_of : (tokens : List Token) → IsTrue (tokens_end_once tokens) → IsText (kinds tokens)
text_of tokens h = text_by tokens h

pub kinds_long : (tokens : List Token) → length (kinds tokens) ≡ length tokens
kinds_long [] = refl
kinds_long (t ∷ ts) = ap suc (kinds_long ts)
