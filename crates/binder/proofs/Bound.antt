-- The first violation of a source, from what its third walk has noted.
use Rattle.std.proofs.Common.{◌≡◌, ◌++◌, List, [], Option, None, ap, sym, ◌∙◌}
use Rattle.abl_values.specs.Schema.{SchemaData}
use Rattle.bound_tree.specs.Tree.{Source}
use Rattle.syntax_tree.specs.Syntax.{Program}
use Rattle.bind_names.specs.declared.names.Naming.{Naming}
use Rattle.bind_names.specs.declared.notes.Notes.{Notes}
use Rattle.bind_names.specs.declared.violation.Violation.{Violation}
use Rattle.bind_names.specs.Judged.{first, first_of}
use Rattle.bind_names.specs.Views.{IsJudged}
use Rattle.bind_names.proofs.Joined.{first_of_append}
use Rattle.binder.specs.Sources.{bound, judged, namings, or_first, too_many_buffers, violations}

pub bound_is : (schema : SchemaData) (program : Program) (said : List Naming) (tree : Source) (o n : Notes) (v : Option Violation) → o.first ≡ None → o.names ≡ [] →
    said ≡ namings schema program → IsJudged (judged schema program said) tree o n → v ≡ first_of n.first (too_many_buffers n.names) → bound schema program ≡ or_first v tree
bound_is schema program said tree o n v none empty is_said j is_v =
    let k : IsJudged (judged schema program (namings schema program)) tree o n = rw is_said at j in
    let names : n.names ≡ (judged schema program (namings schema program)).names = k.names ∙ ap (λ ns. ns ++ (judged schema program (namings schema program)).names) empty in
    let begun : n.first ≡ first_of None (judged schema program (namings schema program)).breaks = k.first ∙ ap (λ f. first_of f (judged schema program (namings schema program)).breaks) none in
    let all : first (violations schema program) ≡ v =
    first_of_append None (judged schema program (namings schema program)).breaks (too_many_buffers (judged schema program (namings schema program)).names)
    ∙ sym (is_v ∙ ap (λ f. first_of f (too_many_buffers n.names)) begun ∙ ap (λ ns. first_of (first_of None (judged schema program (namings schema program)).breaks) (too_many_buffers ns)) names) in
    let is_tree : (judged schema program (namings schema program)).is ≡ tree = sym k.is in
    ap (λ w. or_first w (judged schema program (namings schema program)).is) all ∙ ap (or_first v) is_tree

-- the same, from what the three walks give
pub source_bound : (schema : SchemaData) (program : Program) (explicit said first_said all_said names : List Naming) (tree : Source) (o n : Notes) (v : Option Violation) → o.first ≡ None → o.names ≡ [] →
    explicit ≡ (judged schema program []).names → first_said ≡ explicit → said ≡ (judged schema program first_said).names → all_said ≡ said → IsJudged (judged schema program all_said) tree o n →
    names ≡ n.names → v ≡ first_of n.first (too_many_buffers names) → bound schema program ≡ or_first v tree
source_bound schema program explicit said first_said all_said names tree o n v none empty is_explicit is_first is_said is_all j is_names is_v =
    bound_is schema program all_said tree o n v none empty (is_all ∙ is_said ∙ ap (λ (x : List Naming). (judged schema program x).names) (is_first ∙ is_explicit)) j
    (is_v ∙ ap (λ (x : List Naming). first_of n.first (too_many_buffers x)) is_names)
