-- The options of a record phrase, one after the other.
use Rattle.std.proofs.Common.{◌≡◌, ◌<◌, ◌+◌, ℕ, List, [], ◌∷◌, ◌++◌, length, drop, get_or, map, Option, None, refl, ap, sym, ◌∙◌, append_assoc, append-nil}
use Rattle.syntax_tree.specs.Syntax.{Expression, RecordOption}
use Rattle.syntax_tree.specs.Typed.{record_option_of}
use Rattle.syntax_tree.specs.declared.record.RecordOption.{RecordOption as TypedRecordOption}
use Rattle.bind_names.specs.declared.names.NamedBuffer.{NamedBuffer}
use Rattle.bind_names.specs.declared.notes.Notes.{Notes}
use Rattle.bind_names.specs.Judged.{Judged, first_of, made}
use Rattle.bind_names.specs.Names.{Scene}
use Rattle.bind_names.specs.Views.{IsJudged}
use Rattle.bind_names.proofs.Joined.{first_of_append}
use Rattle.bind_blocks.specs.declared.records.Asked.{Asked as TypedAsked}
use Rattle.bind_blocks.specs.Records.{Asked, looked_for, nothing_asked, record_option, record_options}
use Rattle.bind_blocks.specs.Views.{Found, asked_of, found_of, selected, where_after, where_from}
use Rattle.bind_blocks.proofs.Items.{next_item, none_left}

pub record AskedContinue (w : Scene) (x : Option NamedBuffer) (begins : Asked) (given : List TypedRecordOption) (i : ℕ) (now : TypedAsked) (so_far begun : Notes) : Type 0 where
  pub where_it : Option Expression
  pub rest : where_from where_it (map record_option_of (drop i given)) ≡ where_from None (map record_option_of given)
  pub is : (record_options w x (asked_of now where_it) (map record_option_of (drop i given))).is ≡ (record_options w x begins (map record_option_of given)).is
  pub first : first_of so_far.first (record_options w x (asked_of now where_it) (map record_option_of (drop i given))).breaks ≡ first_of begun.first (record_options w x begins (map record_option_of given)).breaks
  pub names : so_far.names ++ (record_options w x (asked_of now where_it) (map record_option_of (drop i given))).names ≡ begun.names ++ (record_options w x begins (map record_option_of given)).names

pub asked_begins : (w : Scene) (x : Option NamedBuffer) (begins : Asked) (given : List TypedRecordOption) (now : TypedAsked) (n : Notes) → asked_of now None ≡ begins → AskedContinue w x begins given 0 now n n
asked_begins w x begins given now n e = record {
  where_it = None;
  rest = refl;
  is = ap (λ a. (record_options w x a (map record_option_of given)).is) e;
  first = ap (λ a. first_of n.first (record_options w x a (map record_option_of given)).breaks) e;
  names = ap (λ a. n.names ++ (record_options w x a (map record_option_of given)).names) e;
}

pub one_more_asked : (w : Scene) (x : Option NamedBuffer) (begins : Asked) (given : List TypedRecordOption) (i : ℕ) (o : TypedRecordOption) (now next : TypedAsked) (begun n m : Notes) →
    i < length given → o ≡ get_or given i o → ((e : Option Expression) → IsJudged (record_option w x (record_option_of o) (asked_of now e)) (asked_of next (where_after (record_option_of o) e)) n m) →
    AskedContinue w x begins given i now n begun → AskedContinue w x begins given (i + 1) next m begun
one_more_asked w x begins given i o now next begun n m lt e js h =
    let d : drop i given ≡ o ∷ drop (i + 1) given = next_item given i o lt e in
    let j = js h.where_it in
    let rest1 = rw d at h.rest in
    let is1 = rw d at h.is in
    let first1 = rw d at h.first in
    let names1 = rw d at h.names in
    record {
      where_it = where_after (record_option_of o) h.where_it;
      rest = rest1;
      is = rw j.is is1;
      first = rw (j.is, j.first) (rw first_of_append at first1);
      names = rw (j.is, j.names) (rw append_assoc names1);
    }

pub asked_judged : (w : Scene) (x : Option NamedBuffer) (begins : Asked) (given : List TypedRecordOption) (i : ℕ) (now : TypedAsked) (begun n : Notes) → i ≡ length given → AskedContinue w x begins given i now n begun →
    IsJudged (record_options w x begins (map record_option_of given)) (asked_of now (where_from None (map record_option_of given))) begun n
asked_judged w x begins given i now begun n e h =
    let d : drop i given ≡ [] = none_left given i e in
    let r : h.where_it ≡ where_from None (map record_option_of given) = rw d at h.rest in
    record {
      is = ap (asked_of now) (sym r) ∙ (rw d at h.is);
      first = rw d at h.first;
      names = sym (append-nil n.names) ∙ (rw d at h.names);
    }

-- the last WHERE
pub one_more_where : (given : List TypedRecordOption) (i : ℕ) (o : TypedRecordOption) (now : Option Expression) → i < length given → o ≡ get_or given i o →
    where_from now (map record_option_of (drop i given)) ≡ where_from None (map record_option_of given) → where_from (where_after (record_option_of o) now) (map record_option_of (drop (i + 1) given)) ≡ where_from None (map record_option_of given)
one_more_where given i o now lt e h = let d : drop i given ≡ o ∷ drop (i + 1) given = next_item given i o lt e in rw d at h

-- a buffer and its options
pub looked_judged : (w : Scene) (j : Judged (Option NamedBuffer)) (os : List RecordOption) (x : Option NamedBuffer) (a : Asked) (r : Found) (o n m : Notes) →
    IsJudged j x o n → IsJudged (record_options w x (nothing_asked w x) os) a n m → r ≡ selected w x a → IsJudged (made found_of (looked_for w j os)) r o m
looked_judged w j os x a r o n m hx ha is =
    let same : j.is ≡ x = sym hx.is in
    record {
      is = rw same (is ∙ ap (selected w x) ha.is);
      first = let p = hx.first in let q = ha.first in rw (same, first_of_append) cc;
      names = let p = hx.names in let q = ha.names in rw (same, ← append_assoc) cc;
    }
