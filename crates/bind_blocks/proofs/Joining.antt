-- The notes of several consecutive parts are the notes of all of them.
use Rattle.std.proofs.Common.{◌≡◌, ◌++◌, append_assoc}
use Rattle.bind_names.specs.declared.notes.Notes.{Notes}
use Rattle.bind_names.specs.Judged.{Judged, made_of}
use Rattle.bind_names.specs.Views.{IsJudged}
use Rattle.bind_names.proofs.Joined.{first_of_append}

-- combines the judgements of three parts, and of four
abbrev pub made_of_three : {A B C D : Type 0} → (A → B → C → D) → Judged A → Judged B → Judged C → Judged D
made_of_three f a b c = record { is = f a.is b.is c.is; breaks = a.breaks ++ (b.breaks ++ c.breaks); names = a.names ++ (b.names ++ c.names) }

abbrev pub made_of_four : {A B C D E : Type 0} → (A → B → C → D → E) → Judged A → Judged B → Judged C → Judged D → Judged E
made_of_four f a b c d = record {
  is = f a.is b.is c.is d.is;
  breaks = a.breaks ++ (b.breaks ++ (c.breaks ++ d.breaks));
  names = a.names ++ (b.names ++ (c.names ++ d.names));
}

pub two_judged : {A B C : Type 0} (f : A → B → C) (i : Judged A) (j : Judged B) (x : A) (y : B) (r : C) (o n m : Notes) →
    IsJudged i x o n → IsJudged j y n m → r ≡ f x y → IsJudged (made_of f i j) r o m
two_judged f i j x y r o n m hx hy is = record {
  is = let a = hx.is in let b = hy.is in cc;
  first = let a = hx.first in let b = hy.first in rw first_of_append cc;
  names = let a = hx.names in let b = hy.names in rw (← append_assoc) cc;
}

pub three_judged : {A B C D : Type 0} (f : A → B → C → D) (i : Judged A) (j : Judged B) (k : Judged C) (x : A) (y : B) (z : C) (r : D) (o n m l : Notes) →
    IsJudged i x o n → IsJudged j y n m → IsJudged k z m l → r ≡ f x y z → IsJudged (made_of_three f i j k) r o l
three_judged f i j k x y z r o n m l hx hy hz is = record {
  is = let a = hx.is in let b = hy.is in let c = hz.is in cc;
  first = let a = hx.first in let b = hy.first in let c = hz.first in rw (first_of_append, first_of_append) cc;
  names = let a = hx.names in let b = hy.names in let c = hz.names in rw (← append_assoc, ← append_assoc) cc;
}

pub four_judged : {A B C D E : Type 0} (f : A → B → C → D → E) (i : Judged A) (j : Judged B) (k : Judged C) (q : Judged D) (x : A) (y : B) (z : C) (v : D) (r : E) (o n m l p : Notes) →
    IsJudged i x o n → IsJudged j y n m → IsJudged k z m l → IsJudged q v l p → r ≡ f x y z v → IsJudged (made_of_four f i j k q) r o p
four_judged f i j k q x y z v r o n m l p hx hy hz hv is = record {
  is = let a = hx.is in let b = hy.is in let c = hz.is in let d = hv.is in cc;
  first = let a = hx.first in let b = hy.first in let c = hz.first in let d = hv.first in rw (first_of_append, first_of_append, first_of_append) cc;
  names = let a = hx.names in let b = hy.names in let c = hz.names in let d = hv.names in rw (← append_assoc, ← append_assoc, ← append_assoc) cc;
}
