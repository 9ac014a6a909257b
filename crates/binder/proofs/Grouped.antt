-- Grouping the namings of a source by their procedures.
use Rattle.std.proofs.Common.{◌≡◌, ◌<◌, ℕ, zero, suc, Bool, true, false, List, [], ◌∷◌, ◌++◌, length, refl, sym, ap, ◌∙◌, arith, append_assoc, append-nil, subst, slice_index_or, slice_set}
use Rattle.std.specs.Prelude.{◌&&◌, ◌==◌, if◌then◌else◌}
use Rattle.std.specs.List.{filter}
use Rattle.std.proofs.lemmas.Bool.Decides.{nat_tests}
use Rattle.bound_tree.specs.declared.procedure.Reference.{Reference}
use Rattle.bind_names.specs.declared.names.NamedBuffer.{NamedBuffer}
use Rattle.bind_names.specs.declared.names.Naming.{Naming}
use Rattle.bind_names.specs.declared.names.Known.{Known}
use Rattle.bind_names.specs.Names.{Scene, buffers_in, distinct, named_in}
use Rattle.bind_expressions.specs.Parts.{scene_after}
use Rattle.binder.specs.declared.groups.Groups.{Groups}
use Rattle.binder.specs.Groups.{IsGrouped, IsGrouping, own_namings}
use Rattle.binder.specs.Sources.{kind_of_reference, reference, references_in}

-- ---- what is found among a procedure's own namings is what is found among all

filter_inside : (p q : Naming → Bool) → ((n : Naming) → q n ≡ true → p n ≡ true) → (ns : List Naming) → filter q (filter p ns) ≡ filter q ns
filter_inside p q h [] = refl
filter_inside p q h (n ∷ ns) = go (p n) refl (filter_inside p q h ns)
  where
    out : (c : Bool) → q n ≡ c → p n ≡ false → filter q (filter p ns) ≡ filter q ns → filter q (filter p ns) ≡ (if c then n ∷ filter q ns else filter q ns)
    out true e f later = absurd (let g : p n ≡ true = h n e in cc)
    out false e f later = later

    go : (b : Bool) → p n ≡ b → filter q (filter p ns) ≡ filter q ns → filter q (if b then n ∷ filter p ns else filter p ns) ≡ filter q (n ∷ ns)
    go true e later = ap (λ (ms : List Naming). if q n then n ∷ ms else ms) later
    go false e later = out (q n) refl e later

right_of : (a b : Bool) → (a && b) ≡ true → b ≡ true
right_of true b e = e
right_of false b e = absurd cc

pub own_buffers : (p : ℕ) (own said : List Naming) → own ≡ own_namings p said → buffers_in p own ≡ buffers_in p said
own_buffers p own said e =
    ap (buffers_in p) e ∙ ap (distinct []) (filter_inside (λ (n : Naming). n.procedure == p) (λ (n : Naming). n.procedure == p) (λ (n : Naming) h. h) said)

pub own_named : (p : ℕ) (own said : List Naming) → own ≡ own_namings p said → named_in p own ≡ named_in p said
own_named p own said e =
    ap (named_in p) e ∙ ap (distinct []) (filter_inside (λ (n : Naming). n.procedure == p) (λ (n : Naming). n.explicit && (n.procedure == p)) (λ (n : Naming) h. right_of n.explicit (n.procedure == p) h) said)

references_inside : (p : ℕ) (bs : List NamedBuffer) (said : List Naming) → references_in p bs (own_namings p said) ≡ references_in p bs said
references_inside p bs [] = refl
references_inside p bs (n ∷ ns) = go (n.procedure == p) refl (references_inside p bs ns)
  where
    go : (c : Bool) → (n.procedure == p) ≡ c → references_in p bs (own_namings p ns) ≡ references_in p bs ns →
        references_in p bs (if c then n ∷ own_namings p ns else own_namings p ns) ≡ references_in p bs (n ∷ ns)
    go true e later = ap (λ (rs : List Reference). (if n.procedure == p then reference bs n (kind_of_reference n.kind) else []) ++ rs) later
    go false e later = later ∙ sym (ap (λ (c : Bool). (if c then reference bs n (kind_of_reference n.kind) else []) ++ references_in p bs ns) e)

pub own_references : (p : ℕ) (bs : List NamedBuffer) (own said : List Naming) → own ≡ own_namings p said → references_in p bs own ≡ references_in p bs said
own_references p bs own said e = ap (references_in p bs) e ∙ references_inside p bs said

-- ---- the lists, one naming after the other

pub grouping_begins : (all : List Naming) (groups : List (List Naming)) → groups ≡ [] → IsGrouping all all groups
grouping_begins all groups e = record { each = λ (p : ℕ). ap (λ (gs : List (List Naming)). slice_index_or gs p [] ++ own_namings p all) e }

pub grouping_ends : (all groups_left : List Naming) (groups : List (List Naming)) (p : ℕ) → groups_left ≡ [] → IsGrouping all groups_left groups → slice_index_or groups p [] ≡ own_namings p all
grouping_ends all left groups p e h = sym (append-nil (slice_index_or groups p [])) ∙ sym (ap (λ (ns : List Naming). slice_index_or groups p [] ++ own_namings p ns) e) ∙ h.each p

index_of_one : (p : ℕ) → slice_index_or {A = List Naming} ([] ∷ []) p [] ≡ []
index_of_one zero = refl
index_of_one (suc p) = refl

one_empty : (groups : List (List Naming)) (p : ℕ) → slice_index_or (groups ++ [] ∷ []) p [] ≡ slice_index_or groups p []
one_empty [] p = index_of_one p
one_empty (g ∷ gs) zero = refl
one_empty (g ∷ gs) (suc p) = one_empty gs p

pub one_more_group : (all left : List Naming) (groups more : List (List Naming)) → more ≡ groups ++ [] ∷ [] → IsGrouping all left groups → IsGrouping all left more
one_more_group all left groups more e h = record {
  each = λ (p : ℕ). ap (λ (gs : List (List Naming)). slice_index_or gs p [] ++ own_namings p left) e ∙ ap (λ (g : List Naming). g ++ own_namings p left) (one_empty groups p) ∙ h.each p;
}

index_set : (groups : List (List Naming)) (i : ℕ) (g : List Naming) → i < length groups → slice_index_or (slice_set groups i g) i [] ≡ g
index_set [] i g lt = absurd (omega (arith, lt))
index_set (x ∷ xs) zero g lt = refl
index_set (x ∷ xs) (suc i) g lt = index_set xs i g (omega (arith, lt))

one_less : (i p : ℕ) → (suc i == suc p) ≡ false → (i == p) ≡ false
one_less i p ne = grind (arith, nat_tests)

index_other : (groups : List (List Naming)) (i p : ℕ) (g : List Naming) → (i == p) ≡ false → slice_index_or (slice_set groups i g) p [] ≡ slice_index_or groups p []
index_other [] i p g ne = refl
index_other (x ∷ xs) zero zero g ne = absurd cc
index_other (x ∷ xs) zero (suc p) g ne = refl
index_other (x ∷ xs) (suc i) zero g ne = refl
index_other (x ∷ xs) (suc i) (suc p) g ne = index_other xs i p g (one_less i p ne)

equal : (m n : ℕ) → (m == n) ≡ true → m ≡ n
equal m n e = grind (arith, nat_tests)

pub one_more_naming : (all left : List Naming) (n : Naming) (groups more : List (List Naming)) → n.procedure < length groups →
    more ≡ slice_set groups n.procedure (slice_index_or groups n.procedure [] ++ n ∷ []) → IsGrouping all (n ∷ left) groups → IsGrouping all left more
one_more_naming all left n groups more lt e h = record { each = λ (p : ℕ). ap (λ (gs : List (List Naming)). slice_index_or gs p [] ++ own_namings p left) e ∙ go p (n.procedure == p) refl (h.each p) }
  where
    longer : List Naming
    longer = slice_index_or groups n.procedure [] ++ n ∷ []

    go : (p : ℕ) (c : Bool) → (n.procedure == p) ≡ c → slice_index_or groups p [] ++ (if c then n ∷ own_namings p left else own_namings p left) ≡ own_namings p all →
        slice_index_or (slice_set groups n.procedure longer) p [] ++ own_namings p left ≡ own_namings p all
    go p true f k =
        let same : n.procedure ≡ p = equal n.procedure p f in
        ap (λ (i : ℕ). slice_index_or (slice_set groups n.procedure longer) i [] ++ own_namings p left) (sym same)
        ∙ ap (λ (g : List Naming). g ++ own_namings p left) (index_set groups n.procedure longer lt)
        ∙ append_assoc (slice_index_or groups n.procedure []) (n ∷ []) (own_namings p left)
        ∙ ap (λ (i : ℕ). slice_index_or groups i [] ++ (n ∷ own_namings p left)) same ∙ k
    go p false f k = ap (λ (g : List Naming). g ++ own_namings p left) (index_other groups n.procedure p longer f) ∙ k

-- ---- further on in the source they are the same

pub still_grouped : (w v : Scene) (k : Known) (groups : Groups) → v ≡ scene_after w k → IsGrouped w.context.namings groups → IsGrouped v.context.namings groups
still_grouped w v k groups e h = subst (λ (u : Scene). IsGrouped u.context.namings groups) (sym e) h

pub still_own : (w v : Scene) (k : Known) (own : List Naming) → v ≡ scene_after w k → own ≡ own_namings w.procedure w.context.namings → own ≡ own_namings v.procedure v.context.namings
still_own w v k own e h = h ∙ ap (λ (u : Scene). own_namings u.procedure u.context.namings) (sym e)
