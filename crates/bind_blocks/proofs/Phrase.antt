-- The phrases of a header, one after the other.
use Rattle.std.proofs.Common.{◌≡◌, ◌<◌, ◌+◌, ℕ, List, [], ◌∷◌, ◌++◌, length, drop, get_or, map, Option, Some, None, refl, sym, ◌∙◌, append_assoc, append-nil}
use Rattle.syntax_tree.specs.Syntax as s
use Rattle.syntax_tree.specs.Typed.{phrase_of}
use Rattle.syntax_tree.specs.declared.block.Phrase.{Phrase as TypedPhrase}
use Rattle.bind_names.specs.declared.notes.Notes.{Notes}
use Rattle.bind_names.specs.Judged.{first_of, made, made_of}
use Rattle.bind_names.specs.Names.{Scene, or_else}
use Rattle.bind_names.specs.Views.{IsJudged}
use Rattle.bind_names.proofs.Joined.{first_of_append}
use Rattle.bind_blocks.specs.Headers.{Phrases, phrases}
use Rattle.bind_blocks.specs.Views.{firsts, phrase}
use Rattle.bind_blocks.proofs.Items.{next_item, none_left}

phrase_then : (w : Scene) (p : s.Phrase) (ps : List s.Phrase) → phrases w (p ∷ ps) ≡ made_of firsts (phrase w p) (phrases w ps)
phrase_then w (s.While at e) ps = refl
phrase_then w (s.Transaction at) ps = refl
phrase_then w (s.OnError at label act) ps = refl
phrase_then w (s.OnEndkey at label act) ps = refl

or_else_again : {A : Type 0} (a c d : Option A) → or_else (or_else a c) d ≡ or_else a (or_else c d)
or_else_again None c d = refl
or_else_again (Some a) c d = refl

or_else_nothing : {A : Type 0} (a : Option A) → or_else a None ≡ a
or_else_nothing None = refl
or_else_nothing (Some a) = refl

firsts_again : (p q r : Phrases) → firsts (firsts p q) r ≡ firsts p (firsts q r)
firsts_again p q r = rw (or_else_again p.while_test q.while_test r.while_test, or_else_again p.on_error q.on_error r.on_error, or_else_again p.on_endkey q.on_endkey r.on_endkey) refl

abbrev pub no_phrases : Phrases
no_phrases = record { while_test = None; on_error = None; on_endkey = None }

firsts_nothing : (p : Phrases) → firsts p no_phrases ≡ p
firsts_nothing p = rw (or_else_nothing p.while_test, or_else_nothing p.on_error, or_else_nothing p.on_endkey) refl

pub record PhrasesContinue (w : Scene) (all : List TypedPhrase) (i : ℕ) (now : Phrases) (so_far begun : Notes) : Type 0 where
  pub is : firsts now (phrases w (map phrase_of (drop i all))).is ≡ (phrases w (map phrase_of all)).is
  pub first : first_of so_far.first (phrases w (map phrase_of (drop i all))).breaks ≡ first_of begun.first (phrases w (map phrase_of all)).breaks
  pub names : so_far.names ++ (phrases w (map phrase_of (drop i all))).names ≡ begun.names ++ (phrases w (map phrase_of all)).names

pub one_more_phrase : (w : Scene) (all : List TypedPhrase) (i : ℕ) (p : TypedPhrase) (now next : Phrases) (begun n m : Notes) →
    i < length all → p ≡ get_or all i p → IsJudged (made (firsts now) (phrase w (phrase_of p))) next n m → PhrasesContinue w all i now n begun → PhrasesContinue w all (i + 1) next m begun
one_more_phrase w all i p now next begun n m lt e j h =
    let d : drop i all ≡ p ∷ drop (i + 1) all = next_item all i p lt e in
    let t = phrase_then w (phrase_of p) (map phrase_of (drop (i + 1) all)) in
    let is1 = rw t at (rw d at h.is) in
    let first1 = rw t at (rw d at h.first) in
    let names1 = rw t at (rw d at h.names) in
    record {
      is = rw (j.is, firsts_again) is1;
      first = rw j.first (rw first_of_append at first1);
      names = rw j.names (rw append_assoc names1);
    }

pub phrases_judged : (w : Scene) (all : List TypedPhrase) (i : ℕ) (now : Phrases) (begun n : Notes) → i ≡ length all → PhrasesContinue w all i now n begun → IsJudged (phrases w (map phrase_of all)) now begun n
phrases_judged w all i now begun n e h =
    let d : drop i all ≡ [] = none_left all i e in
    record {
      is = sym (firsts_nothing now) ∙ (rw d at h.is);
      first = rw d at h.first;
      names = sym (append-nil n.names) ∙ (rw d at h.names);
    }
