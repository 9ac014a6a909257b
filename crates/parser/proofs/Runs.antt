-- The reader's run over a source.
use Rattle.std.proofs.Common.{ℕ, zero, suc, ◌+◌, ◌<◌, ◌≡◌, ◌≢◌, true, List, [], ◌∷◌, ◌++◌, length, take, drop, slice_index_or, refl, sym, ◌∙◌, ap, subst, append_assoc, append-nil, arith}
use Rattle.std.proofs.lemmas.List.{take_more}
use Rattle.std.proofs.Math.Decide.{dec_lt}
use Rattle.parse_tree.specs.declared.token.TokenKind.{TokenKind}
use Rattle.parse_tree.specs.declared.token.TokenKind.TheVariants.{EndOfSource, Name}
use Rattle.parser.specs.declared.nonterminal.Nonterminal.TheVariants.{Statement}
use Rattle.parser.specs.declared.symbol.Entry.{Entry}
use Rattle.parser.specs.declared.symbol.Entry.TheVariants.{Await, Derive}
use Rattle.parser.specs.declared.symbol.Opening.{Opening}
use Rattle.parser.specs.Same.{same_kind}
use Rattle.parser.specs.Grammar.{Forest, spelt, Derives, whole, nodes, Viable, openings, full, IsText, rules}
use Rattle.parser.specs.Table.{ends_once, is_nil}
use Rattle.parser.specs.Completing.{suits, weigh}
use Rattle.parser.specs.Engine.{plain, source, Steps, done, take_one, Leads, Went, plainly, looking, FirstIs, Stuck, IsTaking, Reached, IsRead}
use Rattle.std.proofs.lemmas.Bool.{cond-true, cond-false}
use Rattle.parser.proofs.Flags.{nil_is, kinds_differ, kinds_equal, same_first, same_rest}
use Rattle.parser.proofs.Trees.{taken, steps_of, split, Split}
use Rattle.parser.proofs.Completes.{complete}

-- a tree of a source is a run of the reader
pub steps_of_forest : (forest : Forest) (os : List Opening) (tokens : List TokenKind) → Derives forest whole [] → openings 0 full forest ≡ os → spelt forest ≡ tokens → Steps 0 source os tokens
steps_of_forest forest os tokens d e f =
    let x : Steps 0 source (openings 0 full forest ++ []) (spelt forest ++ []) = steps_of forest 0 full whole [] [] [] d done in
    subst (λ n. Steps 0 source n tokens) (append-nil (openings 0 full forest) ∙ e) (
    subst (λ t. Steps 0 source (openings 0 full forest ++ []) t) (append-nil (spelt forest) ∙ f) x)

pub no_more : {at : ℕ} {os : List Opening} {ts : List TokenKind} → Steps at [] os ts → (os ≡ []) × (ts ≡ [])
no_more done = (refl, refl)

-- a forest that is read
pub record Read (os : List Opening) (tokens : List TokenKind) : Type 0 where
  pub forest : Forest
  pub reads : IsRead forest os tokens

finish : (os : List Opening) (tokens : List TokenKind) → Split 0 full whole [] os tokens → Read os tokens
finish os tokens s =
    let n = no_more s.then' in
    record {
      forest = s.tree;
      reads = record {
        derives = subst (λ a. Derives s.tree whole a) n.1 s.derives;
        spells = sym (s.tokens_are ∙ ap (λ a. spelt s.tree ++ a) n.1 ∙ append-nil (spelt s.tree));
        opens = sym (s.openings_are ∙ ap (λ m. openings 0 full s.tree ++ m) n.0 ∙ append-nil (openings 0 full s.tree));
      };
    }

-- and a run is a tree
pub forest_of_steps : (os : List Opening) (tokens : List TokenKind) → Steps 0 source os tokens → Read os tokens
forest_of_steps os tokens d = finish os tokens (split (length os + length tokens) 0 full whole [] os tokens (omega arith) d)

pub viable_by : (os : List Opening) (seen more : List TokenKind) → Steps 0 source os (seen ++ more) → Viable seen
viable_by os seen more d =
    let r = forest_of_steps os (seen ++ more) d in
    (more, nodes 0 0 r.forest, (r.forest, record { derives = r.reads.derives; spells = r.reads.spells; laid = refl }))

-- a viable prefix has a run
pub record Run (seen : List TokenKind) : Type 0 where
  pub os : List Opening
  pub more : List TokenKind
  pub steps : Steps 0 source os (seen ++ more)

pub run_of : (seen : List TokenKind) → Viable seen → Run seen
run_of seen v =
    let t = v.2.1 in
    record { os = openings 0 full v.2.0; more = v.0; steps = steps_of_forest v.2.0 (openings 0 full v.2.0) (seen ++ v.0) t.derives refl t.spells }

no_token : {at : ℕ} {os : List Opening} {k : TokenKind} {ts : List TokenKind} → Steps at [] os (k ∷ ts) → ⊥
no_token d = elim d [ ]

-- neither this token nor a nonterminal is on top
pub mismatch : (at : ℕ) (stack : List Entry) (k : TokenKind) → IsTaking stack → ((rest : List Entry) → stack ≡ Await k ∷ rest → ⊥) → Stuck at stack k
mismatch at [] k t o os ts d = no_token d
mismatch at (Await w ∷ rest) k t o os ts d = o rest (ap (λ x. Await x ∷ rest) (sym (same_first (taken d).is)))
mismatch at (Derive a room ∷ rest) k t o os ts d = t a room rest refl

pub seen_more : (tokens : List TokenKind) (at : ℕ) (d : TokenKind) (more : List TokenKind) → at < length tokens → take (at + 1) tokens ++ more ≡ take at tokens ++ (slice_index_or tokens at d ∷ more)
seen_more tokens at d more h = ap (λ t. t ++ more) (take_more tokens at d h) ∙ append_assoc (take at tokens) (slice_index_or tokens at d ∷ []) more

-- the end token comes last, and only there
text_before : (tokens : List TokenKind) (at : ℕ) (d : TokenKind) → IsText tokens → at + 1 < length tokens → slice_index_or tokens at d ≢ EndOfSource
text_before [] at d t h = absurd t
text_before (k ∷ []) at d t h = absurd (omega arith)
text_before (k ∷ follower ∷ ks) zero d t h = t.0
text_before (k ∷ follower ∷ ks) (suc at) d t h = text_before (follower ∷ ks) at d t.1 (omega arith)

text_last : (tokens : List TokenKind) (at : ℕ) (d : TokenKind) → IsText tokens → at + 1 ≡ length tokens → slice_index_or tokens at d ≡ EndOfSource
text_last [] at d t h = absurd t
text_last (k ∷ []) zero d t h = t
text_last (k ∷ []) (suc at) d t h = absurd (omega arith)
text_last (k ∷ follower ∷ ks) zero d t h = absurd (omega arith)
text_last (k ∷ follower ∷ ks) (suc at) d t h = text_last (follower ∷ ks) at d t.1 (omega arith)

before_last : (tokens : List TokenKind) (at : ℕ) (d : TokenKind) → IsText tokens → at < length tokens → slice_index_or tokens at d ≢ EndOfSource → at + 1 < length tokens
before_last tokens at d t h n = elim (dec_lt (at + 1) (length tokens)) [ yes y ↦ y | no y ↦ absurd (n (text_last tokens at d t (omega arith))) ]

drop_one : (xs : List TokenKind) (i : ℕ) (d : TokenKind) → i < length xs → drop i xs ≡ slice_index_or xs i d ∷ drop (suc i) xs
drop_one [] i d h = absurd (omega arith)
drop_one (x ∷ xs) zero d h = refl
drop_one (x ∷ xs) (suc i) d h = drop_one xs i d (omega arith)

pub first_is : (tokens : List TokenKind) (at : ℕ) (d : TokenKind) (ts : List TokenKind) → at < length tokens → FirstIs (slice_index_or tokens at d ∷ ts) (drop at tokens)
first_is tokens at d ts h = subst (FirstIs (slice_index_or tokens at d ∷ ts)) (sym (drop_one tokens at d h)) (ts, refl)

first_next : (tokens : List TokenKind) (at : ℕ) (d : TokenKind) (ts : List TokenKind) → at + 1 < length tokens → FirstIs ts (drop (at + 1) tokens) → (rest : List TokenKind) × (ts ≡ slice_index_or tokens (at + 1) d ∷ rest)
first_next tokens at d ts h f = subst (FirstIs ts) (drop_one tokens (at + 1) d h) f

-- NO DERIVATION CONTINUES
pub refused : (tokens : List TokenKind) (at : ℕ) (d : TokenKind) (stack stack' : List Entry) (earlier later : List Opening) → at < length tokens
    → Reached at stack earlier (take at tokens) (drop at tokens) → Leads at stack earlier stack' later (slice_index_or tokens at d) → Stuck at stack' (slice_index_or tokens at d) → Viable (take (at + 1) tokens) → ⊥
refused tokens at d stack stack' earlier later h r l s v =
    let run = run_of (take (at + 1) tokens) v in
    let x = subst (λ t. Steps 0 source run.os t) (seen_more tokens at d run.more h) run.steps in
    let one = r.only run.os (slice_index_or tokens at d ∷ run.more) (first_is tokens at d run.more h) x in
    let two = l.only one.0 run.more one.2 in
    s two.0 run.more two.2

-- also where two tokens were read, because this token is then on top
pub refused_went : (tokens : List TokenKind) (at : ℕ) (d n : TokenKind) (stack stack' : List Entry) (earlier later : List Opening) → at < length tokens
    → Reached at stack earlier (take at tokens) (drop at tokens) → Went at stack earlier stack' later (slice_index_or tokens at d) n → IsTaking stack' → ((rest : List Entry) → stack' ≡ Await (slice_index_or tokens at d) ∷ rest → ⊥) → Viable (take (at + 1) tokens) → ⊥
refused_went tokens at d n stack stack' earlier later h r (plainly l) t o v = refused tokens at d stack stack' earlier later h r l (mismatch at stack' (slice_index_or tokens at d) t o) v
refused_went tokens at d n stack stack' earlier later h r (looking room rest between l m k) t o v = o m.top.0 (m.top.1 ∙ ap (λ x. Await x ∷ m.top.0) (sym k))

-- ADVANCING BY ONE TOKEN
-- the openings that some steps add, and that the steps preserve soundness
pub record Onward (at : ℕ) (start : List Entry) (earlier : List Opening) (goal : List Entry) (later : List Opening) (k : TokenKind) : Type 0 where
  pub added : List Opening
  pub is : later ≡ earlier ++ added
  pub sound : (os : List Opening) (ts : List TokenKind) → Steps at goal os (k ∷ ts) → Steps at start (added ++ os) (k ∷ ts)

pub onward : (at : ℕ) (start : List Entry) (earlier : List Opening) (goal : List Entry) (later : List Opening) (k n : TokenKind) → Went at start earlier goal later k n → Onward at start earlier goal later k
onward at start earlier goal later k n (plainly l) = record { added = l.added; is = l.is; sound = l.sound }
onward at start earlier goal later k n (looking room rest between l m e) =
    let a = l.added in
    record {
      added = a ++ m.added;
      is = m.is ∙ ap (λ x. x ++ m.added) l.is ∙ append_assoc earlier a m.added;
      sound = λ os ts d. subst (λ x. Steps at start x (k ∷ ts)) (sym (append_assoc a m.added os)) (
          l.sound (m.added ++ os) ts (
          subst (λ j. Steps at (Derive Statement room ∷ rest) (m.added ++ os) (j ∷ ts)) (sym e) (m.sound os ts (subst (λ j. Steps at goal os (j ∷ ts)) e d))));
    }

sound_on : (tokens : List TokenKind) (at : ℕ) (d : TokenKind) (stack stack' rest : List Entry) (earlier later : List Opening) → at < length tokens
    → ((os : List Opening) (ts : List TokenKind) → Steps at stack os ts → Steps 0 source (earlier ++ os) (take at tokens ++ ts))
    → Onward at stack earlier stack' later (slice_index_or tokens at d) → stack' ≡ Await (slice_index_or tokens at d) ∷ rest → (os : List Opening) (ts : List TokenKind) → Steps (at + 1) rest os ts → Steps 0 source (later ++ os) (take (at + 1) tokens ++ ts)
sound_on tokens at d stack stack' rest earlier later h f g e os ts x =
    let k = slice_index_or tokens at d in
    let y : Steps at stack' os (k ∷ ts) = subst (λ s. Steps at s os (k ∷ ts)) (sym e) (take_one x) in
    let z = f (g.added ++ os) (k ∷ ts) (g.sound os ts y) in
    let e1 : earlier ++ (g.added ++ os) ≡ later ++ os = sym (append_assoc earlier g.added os) ∙ ap (λ u. u ++ os) (sym g.is) in
    subst (λ u. Steps 0 source u (take (at + 1) tokens ++ ts)) e1 (subst (λ t. Steps 0 source (earlier ++ (g.added ++ os)) t) (sym (seen_more tokens at d ts h)) z)

only_on : (at : ℕ) (k : TokenKind) (stack' rest : List Entry) (earlier later added os one two : List Opening) (ts : List TokenKind) → later ≡ earlier ++ added → stack' ≡ Await k ∷ rest → os ≡ earlier ++ one → one ≡ added ++ two → Steps at stack' two (k ∷ ts) → (more : List Opening) × (os ≡ later ++ more) × Steps (at + 1) rest more ts
only_on at k stack' rest earlier later added os one two ts is e f g x =
    let y = taken (subst (λ s. Steps at s two (k ∷ ts)) e x) in
    let e1 : os ≡ later ++ two = f ∙ ap (λ u. earlier ++ u) g ∙ sym (append_assoc earlier added two) ∙ ap (λ u. u ++ two) (sym is) in
    (two, e1, subst (λ t. Steps (at + 1) rest two t) (sym (same_rest y.is)) y.then')

name_apart : Name ≡ EndOfSource → ⊥
name_apart e = cc

pub reached : (tokens : List TokenKind) (at : ℕ) (d n : TokenKind) (stack stack' rest : List Entry) (earlier later : List Opening) → IsText tokens → at < length tokens
    → Reached at stack earlier (take at tokens) (drop at tokens) → Went at stack earlier stack' later (slice_index_or tokens at d) n → stack' ≡ Await (slice_index_or tokens at d) ∷ rest
    → (at + 1 < length tokens → n ≡ slice_index_or tokens (at + 1) d) → Reached (at + 1) rest later (take (at + 1) tokens) (drop (at + 1) tokens)
reached tokens at d n stack stack' rest earlier later t h r (plainly l) e m =
    let k = slice_index_or tokens at d in
    record {
      sound = sound_on tokens at d stack stack' rest earlier later h r.sound (onward at stack earlier stack' later k n (plainly l)) e;
      only = λ os ts f x.
          let one = r.only os (k ∷ ts) (first_is tokens at d ts h) (subst (λ t. Steps 0 source os t) (seen_more tokens at d ts h) x) in
          let two = l.only one.0 ts one.2 in
          only_on at k stack' rest earlier later l.added os one.0 two.0 ts l.is e one.1 two.1 two.2;
    }
reached tokens at d n stack stack' rest earlier later t h r (looking room beyond between l w c) e m =
    let k = slice_index_or tokens at d in
    let follows : at + 1 < length tokens = before_last tokens at d t h (λ q. name_apart (sym c ∙ q)) in
    record {
      sound = sound_on tokens at d stack stack' rest earlier later h r.sound (onward at stack earlier stack' later k n (looking room beyond between l w c)) e;
      only = λ os ts f x.
          let one = r.only os (k ∷ ts) (first_is tokens at d ts h) (subst (λ t. Steps 0 source os t) (seen_more tokens at d ts h) x) in
          let g = first_next tokens at d ts follows f in
          let q : ts ≡ n ∷ g.0 = g.1 ∙ ap (λ z. z ∷ g.0) (sym (m follows)) in
          let two = l.only one.0 ts one.2 in
          let y : Steps at (Derive Statement room ∷ beyond) two.0 (Name ∷ n ∷ g.0) = subst (λ z. Steps at (Derive Statement room ∷ beyond) two.0 (Name ∷ z)) q (subst (λ j. Steps at (Derive Statement room ∷ beyond) two.0 (j ∷ ts)) c two.2) in
          let three = w.only two.0 g.0 y in
          let z : Steps at stack' three.0 (k ∷ ts) = subst (λ j. Steps at stack' three.0 (j ∷ ts)) (sym c) (subst (λ v. Steps at stack' three.0 (Name ∷ v)) (sym q) three.2) in
          only_on at k stack' rest earlier later (l.added ++ w.added) os one.0 three.0 ts
          (w.is ∙ ap (λ u. u ++ w.added) l.is ∙ append_assoc earlier l.added w.added) e one.1
          (two.1 ∙ ap (λ u. l.added ++ u) three.1 ∙ sym (append_assoc l.added w.added three.0)) z;
    }

pub open_after : (tokens : List TokenKind) (at : ℕ) (d : TokenKind) (stack rest : List Entry) → IsText tokens → ends_once (plain stack) ≡ true → stack ≡ Await (slice_index_or tokens at d) ∷ rest → at + 1 < length tokens → ends_once (plain rest) ≡ true
open_after tokens at d stack rest t e s h =
    let k = slice_index_or tokens at d in
    sym (cond-false (same_kind k EndOfSource) (is_nil (plain rest)) (ends_once (plain rest)) (kinds_differ k EndOfSource (text_before tokens at d t h))) ∙ sym (ap (λ x. ends_once (plain x)) s) ∙ e

pub plain_nil : (stack : List Entry) → plain stack ≡ [] → stack ≡ []
plain_nil [] e = refl
plain_nil (x ∷ xs) e = cc

pub closed_after : (tokens : List TokenKind) (at : ℕ) (d : TokenKind) (stack rest : List Entry) → IsText tokens → ends_once (plain stack) ≡ true → stack ≡ Await (slice_index_or tokens at d) ∷ rest → at + 1 ≡ length tokens → rest ≡ []
closed_after tokens at d stack rest t e s h =
    let k = slice_index_or tokens at d in
    plain_nil rest (nil_is (plain rest) (sym (cond-true (same_kind k EndOfSource) (is_nil (plain rest)) (ends_once (plain rest)) (kinds_equal k EndOfSource (text_last tokens at d t h))) ∙ sym (ap (λ x. ends_once (plain x)) s) ∙ e))

take_all : (xs : List TokenKind) → take (length xs) xs ≡ xs
take_all [] = refl
take_all (x ∷ xs) = ap (λ t. x ∷ t) (take_all xs)

-- THE END
pub ended : (tokens : List TokenKind) (at : ℕ) (stack : List Entry) (os : List Opening) → at ≡ length tokens → Reached at stack os (take at tokens) (drop at tokens) → stack ≡ [] → Steps 0 source os tokens
ended tokens at stack os e r s =
    let x = r.sound [] [] (subst (λ t. Steps at t [] []) (sym s) done) in
    let y : Steps 0 source os (take at tokens ++ []) = subst (λ u. Steps 0 source u (take at tokens ++ [])) (append-nil os) x in
    let f : take at tokens ++ [] ≡ tokens = append-nil (take at tokens) ∙ ap (λ n. take n tokens) e ∙ take_all tokens in
    subst (λ t. Steps 0 source os t) f y

pub open_source : ends_once (plain source) ≡ true
unfolding same_kind
open_source = refl

-- THE TOKENS READ ARE VIABLE
pub record Finished (at : ℕ) (used : List Opening) (seen : List TokenKind) : Type 0 where
  pub stack : List Entry
  pub more : List Opening
  pub tokens : List TokenKind
  pub goes_on : Steps at stack more tokens
  pub steps : Steps 0 source (used ++ more) (seen ++ tokens)

pub finished : (at : ℕ) (stack : List Entry) (used : List Opening) (seen ahead : List TokenKind) → Reached at stack used seen ahead → suits rules (plain stack) EndOfSource ≡ true → Finished at used seen
finished at stack used seen ahead r e =
    let c = complete (weigh (plain stack)) at stack EndOfSource (omega arith) e in
    record { stack = stack; more = c.os; tokens = c.ts; goes_on = c.steps; steps = r.sound c.os c.ts c.steps }

pub viable : (at : ℕ) (stack : List Entry) (used : List Opening) (seen ahead : List TokenKind) → Reached at stack used seen ahead → suits rules (plain stack) EndOfSource ≡ true → Viable seen
viable at stack used seen ahead r e =
    let f = finished at stack used seen ahead r e in
    viable_by (used ++ f.more) seen f.tokens f.steps
