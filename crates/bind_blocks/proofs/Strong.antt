-- The buffers after DO FOR and REPEAT FOR, one after the other.
use Rattle.std.proofs.Common.{◌≡◌, ◌<◌, ◌+◌, ℕ, true, List, [], ◌∷◌, ◌++◌, length, drop, get_or, Option, None, refl, sym, ◌∙◌, append_assoc, append-nil}
use Rattle.syntax_tree.specs.Syntax.{Plainly}
use Rattle.syntax_tree.specs.declared.name.Word.{Word}
use Rattle.syntax_tree.specs.declared.word.BlockWord.{BlockWord}
use Rattle.bind_names.specs.declared.names.NamedBuffer.{NamedBuffer}
use Rattle.bind_names.specs.declared.names.NamingKind.TheVariants as naming_kind
use Rattle.bind_names.specs.declared.notes.Notes.{Notes}
use Rattle.bind_names.specs.Judged.{first_of}
use Rattle.bind_names.specs.Names.{Scene, buffer}
use Rattle.bind_names.specs.Views.{IsJudged}
use Rattle.bind_names.proofs.Joined.{first_of_append}
use Rattle.bind_expressions.specs.Parts.{listed}
use Rattle.bind_blocks.specs.Headers.{opening}
use Rattle.bind_blocks.proofs.Items.{next_item, none_left}

pub record StrongContinue (w : Scene) (all : List Word) (i : ℕ) (so_far begun : Notes) : Type 0 where
  pub first : first_of so_far.first (listed (buffer w naming_kind.Strong true) (drop i all)).breaks ≡ first_of begun.first (listed (buffer w naming_kind.Strong true) all).breaks
  pub names : so_far.names ++ (listed (buffer w naming_kind.Strong true) (drop i all)).names ≡ begun.names ++ (listed (buffer w naming_kind.Strong true) all).names

pub one_more_strong : (w : Scene) (all : List Word) (i : ℕ) (x : Word) (r : Option NamedBuffer) (begun n m : Notes) →
    i < length all → x ≡ get_or all i x → IsJudged (buffer w naming_kind.Strong true x) r n m → StrongContinue w all i n begun → StrongContinue w all (i + 1) m begun
one_more_strong w all i x r begun n m lt e j h =
    let d : drop i all ≡ x ∷ drop (i + 1) all = next_item all i x lt e in
    let first1 = rw d at h.first in
    let names1 = rw d at h.names in
    record {
      first = rw j.first (rw first_of_append at first1);
      names = rw j.names (rw append_assoc names1);
    }

pub strong_judged : (w : Scene) (word : BlockWord) (all : List Word) (i : ℕ) (begun n : Notes) → i ≡ length all → StrongContinue w all i n begun → IsJudged (opening w (Plainly word all)) None begun n
strong_judged w word all i begun n e h =
    let d : drop i all ≡ [] = none_left all i e in
    record {
      is = refl;
      first = rw d at h.first;
      names = sym (append-nil n.names) ∙ (rw d at h.names);
    }
