-- Judging the items of a list one after the other.
use Rattle.std.proofs.Common.{◌≡◌, ◌<◌, ◌+◌, ℕ, suc, List, [], ◌∷◌, ◌++◌, length, drop, get_or, map, refl, ap, sym, ◌∙◌, add-one, drop-cons, append_assoc, append-nil}
use Rattle.abl_base.specs.declared.value.Kind.{Kind}
use Rattle.bound_tree.specs.Tree.{Assignment}
use Rattle.syntax_tree.specs.declared.statement.Pair.{Pair as TypedPair}
use Rattle.syntax_tree.specs.declared.definition.VariableOption.{VariableOption}
use Rattle.syntax_tree.specs.Typed.{pair_of}
use Rattle.bind_statements.specs.declared.definitions.Options.{Options}
use Rattle.bind_names.specs.declared.notes.Notes.{Notes}
use Rattle.bind_names.specs.Judged.{Judged, first_of}
use Rattle.bind_names.specs.Names.{Scene}
use Rattle.syntax_tree.specs.Syntax.{Expression}
use Rattle.bind_expressions.specs.Expressions.{Typed, expression}
use Rattle.bind_statements.specs.Views.{expr_in}
use Rattle.bind_expressions.specs.Parts.{listed}
use Rattle.bind_statements.specs.Definitions.{option, options, no_options}
use Rattle.bind_statements.specs.Assignments.{pair, pairs}
use Rattle.bind_names.specs.Views.{IsJudged}
use Rattle.bind_names.proofs.Joined.{first_of_append}

pub next_item : {A : Type 0} (xs : List A) (i : ℕ) (x : A) → i < length xs → x ≡ get_or xs i x → drop i xs ≡ x ∷ drop (i + 1) xs
next_item xs i x lt e = rw (add-one, drop-cons xs i x) (ap (λ y. y ∷ drop (suc i) xs) (sym e))

-- what is noted so far, with what the rest breaks and names, is what all of it breaks and names
pub record Continues {A B : Type 0} (rest : Judged A) (all : Judged B) (so_far begun : Notes) : Type 0 where
  pub first : first_of so_far.first rest.breaks ≡ first_of begun.first all.breaks
  pub names : so_far.names ++ rest.names ≡ begun.names ++ all.names

pub record OptionsContinue (k : Kind) (given : List VariableOption) (i : ℕ) (now : Options) (so_far begun : Notes) : Type 0 where
  pub is : (options k now (drop i given)).is ≡ (options k no_options given).is
  pub first : first_of so_far.first (options k now (drop i given)).breaks ≡ first_of begun.first (options k no_options given).breaks
  pub names : so_far.names ++ (options k now (drop i given)).names ≡ begun.names ++ (options k no_options given).names

pub one_more_option : (k : Kind) (given : List VariableOption) (i : ℕ) (x : VariableOption) (now next : Options) (begun n m : Notes) →
    i < length given → x ≡ get_or given i x → IsJudged (option k x now) next n m → OptionsContinue k given i now n begun → OptionsContinue k given (i + 1) next m begun
one_more_option k given i x now next begun n m lt e j h =
    let d : drop i given ≡ x ∷ drop (i + 1) given = next_item given i x lt e in
    let is1 = rw d at h.is in
    let first1 = rw d at h.first in
    let names1 = rw d at h.names in
    record {
      is = rw j.is is1;
      first = rw (j.is, j.first) (rw first_of_append at first1);
      names = rw (j.is, j.names) (rw append_assoc names1);
    }

pub record PairsContinue (w : Scene) (all : List TypedPair) (i : ℕ) (bound : List Assignment) (so_far begun : Notes) : Type 0 where
  pub is : bound ++ (pairs w (map pair_of (drop i all))).is ≡ (pairs w (map pair_of all)).is
  pub first : first_of so_far.first (pairs w (map pair_of (drop i all))).breaks ≡ first_of begun.first (pairs w (map pair_of all)).breaks
  pub names : so_far.names ++ (pairs w (map pair_of (drop i all))).names ≡ begun.names ++ (pairs w (map pair_of all)).names

pub one_more_pair : (w : Scene) (all : List TypedPair) (i : ℕ) (x : TypedPair) (bound more new : List Assignment) (begun n m : Notes) →
    i < length all → x ≡ get_or all i x → IsJudged (pair w (pair_of x)) more n m → new ≡ bound ++ more → PairsContinue w all i bound n begun → PairsContinue w all (i + 1) new m begun
one_more_pair w all i x bound more new begun n m lt e j is h =
    let d : drop i all ≡ x ∷ drop (i + 1) all = next_item all i x lt e in
    let is1 = rw d at h.is in
    let first1 = rw d at h.first in
    let names1 = rw d at h.names in
    record {
      is = rw (is, j.is) (rw append_assoc is1);
      first = rw j.first (rw first_of_append at first1);
      names = rw j.names (rw append_assoc names1);
    }

-- ---- the items of a list, judged one by one

-- what is bound so far, with the items to come, is the whole list
pub record ListContinues {A B : Type 0} (f : A → Judged B) (all rest : List A) (bound : List B) (so_far begun : Notes) : Type 0 where
  pub is : bound ++ (listed f rest).is ≡ (listed f all).is
  pub first : first_of so_far.first (listed f rest).breaks ≡ first_of begun.first (listed f all).breaks
  pub names : so_far.names ++ (listed f rest).names ≡ begun.names ++ (listed f all).names

pub list_begins : {A B : Type 0} (f : A → Judged B) (all : List A) (n : Notes) → ListContinues f all all [] n n
list_begins f all n = record { is = refl; first = refl; names = refl }

pub one_more_item : {A B : Type 0} (f : A → Judged B) (all rest more : List A) (x : A) (bound new : List B) (y : B) (n m begun : Notes) →
    rest ≡ x ∷ more → IsJudged (f x) y n m → new ≡ bound ++ y ∷ [] → ListContinues f all rest bound n begun → ListContinues f all more new m begun
one_more_item f all rest more x bound new y n m begun d j is h =
    let is1 = rw d at h.is in
    let first1 = rw d at h.first in
    let names1 = rw d at h.names in
    record {
      is = rw (is, j.is) (rw append_assoc is1);
      first = rw j.first (rw first_of_append at first1);
      names = rw j.names (rw append_assoc names1);
    }

drop_all : {A : Type 0} (xs : List A) → drop (length xs) xs ≡ []
drop_all [] = refl
drop_all (x ∷ xs) = drop_all xs

-- the item of this number, of a list that is seen through another one
pub next_mapped : {A B : Type 0} (g : A → B) (xs : List A) (i : ℕ) (x : A) → i < length xs → x ≡ get_or xs i x → map g (drop i xs) ≡ g x ∷ map g (drop (i + 1) xs)
next_mapped g xs i x lt e = ap (map g) (next_item xs i x lt e)

pub none_mapped : {A B : Type 0} (g : A → B) (xs : List A) (i : ℕ) → i ≡ length xs → map g (drop i xs) ≡ []
none_mapped g xs i e = ap (λ j. map g (drop j xs)) e ∙ ap (map g) (drop_all xs)

pub none_left : {A : Type 0} (xs : List A) (i : ℕ) → i ≡ length xs → drop i xs ≡ []
none_left xs i e = ap (λ j. drop j xs) e ∙ drop_all xs

pub list_judged : {A B : Type 0} (f : A → Judged B) (all rest : List A) (bound : List B) (n begun : Notes) → rest ≡ [] → ListContinues f all rest bound n begun → IsJudged (listed f all) bound begun n
list_judged f all rest bound n begun d h = record {
  is = sym (append-nil bound) ∙ (rw d at h.is);
  first = rw d at h.first;
  names = sym (append-nil n.names) ∙ (rw d at h.names);
}

-- one more item of a list that is seen through another one
map_one_more : {A B : Type 0} (g : A → B) (xs : List A) (x : A) → map g (xs ++ x ∷ []) ≡ map g xs ++ g x ∷ []
map_one_more g [] x = refl
map_one_more g (y ∷ xs) x = ap (λ zs. g y ∷ zs) (map_one_more g xs x)

pub mapped_push : {A B : Type 0} (g : A → B) (xs new : List A) (x : A) → new ≡ xs ++ x ∷ [] → map g new ≡ map g xs ++ g x ∷ []
mapped_push g xs new x e = ap (map g) e ∙ map_one_more g xs x

pub expr_judged : (w : Scene) (e : Expression) (x : Typed) (o n : Notes) → IsJudged (expression w e) x o n → IsJudged (expr_in w e) x.expr o n
expr_judged w e x o n h = record { is = ap (λ (t : Typed). t.expr) h.is; first = h.first; names = h.names }
