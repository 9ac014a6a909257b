-- FIND and FOR, from what the record phrase selects.
use Rattle.std.proofs.Common.{◌≡◌, Option, Some, None, refl, ap, ◌∙◌}
use Rattle.bound_tree.specs.Tree as b
use Rattle.bound_tree.specs.Tree.{Stmt}
use Rattle.bound_tree.specs.declared.block.FetchWord.{FetchWord}
use Rattle.bound_tree.specs.declared.statement.FindWord.{FindWord}
use Rattle.bind_names.specs.declared.notes.Notes.{Notes}
use Rattle.bind_names.specs.Judged.{Judged, made}
use Rattle.bind_names.specs.Names.{Scene}
use Rattle.bind_names.specs.Views.{IsJudged}
use Rattle.bind_expressions.specs.Parts.{does}
use Rattle.bind_blocks.specs.Records.{Asked, found}
use Rattle.bind_blocks.specs.Views.{Found, find_stmt, found_of}

find_is : (word : Option FindWord) (r : b.Reading × Asked) → find_stmt word (found_of r) ≡ found word r.0 r.1
find_is None r = refl
find_is (Some word) r = refl

pub find_judged : (w : Scene) (word : Option FindWord) (j : Judged (b.Reading × Asked)) (x : Found) (t : Stmt) (o n : Notes) →
    IsJudged (made found_of j) x o n → t ≡ find_stmt word x → IsJudged (made (λ r. does w (found word r.0 r.1)) j) (does w t) o n
find_judged w word j x t o n h is = record {
  is = ap (λ (u : Stmt). does w u) (is ∙ ap (find_stmt word) h.is ∙ find_is word j.is);
  first = h.first;
  names = h.names;
}

abbrev pub fetch : FetchWord → b.Reading → Option b.Fetch
fetch word r = Some (record { word = word; reading = r })

pub fetch_judged : (word : FetchWord) (j : Judged (b.Reading × Asked)) (x : Found) (o n : Notes) → IsJudged (made found_of j) x o n → IsJudged (made (λ (r : b.Reading × Asked). fetch word r.0) j) (fetch word x.reading) o n
fetch_judged word j x o n h = record {
  is = ap (λ (f : Found). fetch word f.reading) h.is;
  first = h.first;
  names = h.names;
}
