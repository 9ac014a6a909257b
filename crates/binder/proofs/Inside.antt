-- An internal procedure, from the scene at its beginning and what is known at its end.
use Rattle.std.proofs.Common.{◌≡◌, ℕ, false, List, Some, None, refl, ap, ◌∙◌, subst}
use Rattle.abl_base.specs.declared.place.Place.{Place}
use Rattle.bound_tree.specs.declared.block.BlockKind.TheVariants as block_kind
use Rattle.bound_tree.specs.declared.expression.Variable.{Variable}
use Rattle.bound_tree.specs.Tree as b
use Rattle.bound_tree.specs.Tree.{Body}
use Rattle.syntax_tree.specs.Syntax.{Statements}
use Rattle.bind_names.specs.declared.names.Defined.{Defined}
use Rattle.bind_names.specs.declared.names.Known.{Known}
use Rattle.bind_names.specs.declared.notes.Notes.{Notes}
use Rattle.bind_names.specs.Names.{Scene}
use Rattle.bind_names.specs.Views.{IsJudged}
use Rattle.bind_expressions.specs.Parts.{Done}
use Rattle.bind_blocks.specs.Headers.{header}
use Rattle.binder.specs.Statements.{statements}
use Rattle.binder.specs.Sources.{inside_procedure, outside_again, procedure_with}
use Rattle.binder.specs.declared.procedures.Frame.{Frame}
use Rattle.binder.specs.Views.{IsFrame, internal, procedured}
use Rattle.binder.proofs.Choices.{done}
use Rattle.binder.proofs.Outer.{keeps_outer}

-- a procedure of these parts
abbrev framed : Frame → List ℕ → Defined → List Variable → b.Header → Body → b.Procedure
framed f name d parameters header body = record {
  name = name;
  undoable = d.undoable;
  no_undo = d.no_undo;
  buffers = f.buffers.items;
  parameters = parameters;
  header = header;
  body = body;
  references = f.references.items;
}

pub procedure_is : (w : Scene) (f : Frame) → IsFrame w f → (place : Place) (name : List ℕ) (d : Defined) (body : Body) (h : b.Header) (parameters : List Variable) →
    h ≡ header w place false block_kind.Procedure None None (record { while_test = None; on_error = None; on_endkey = None }) → parameters ≡ d.parameters →
    framed f name d parameters h body ≡ procedure_with w place name d body
procedure_is w f k place name d body h parameters is_header is_parameters =
    let bs = k.buffers in
    let rs = k.references in
    rw (is_header, is_parameters, bs, rs) refl

pub internal_judged : (w v : Scene) (number : ℕ) (place : Place) (name : List ℕ) (ts : Statements) (bound : Body) (ended after : Known) (own : Defined) (made : b.Procedure) (o n : Notes) →
    v ≡ inside_procedure number w → IsJudged (statements v ts) (done bound ended) o n → ((d : Defined) → ended.outer ≡ Some d → after ≡ outside_again d ended) →
    own ≡ ended.own → made ≡ procedure_with v place name own bound → IsJudged (internal w number place name ts) (procedured made after) o n
internal_judged w v number place name ts bound ended after own made o n is_v j is_after is_own is_made =
    let k : IsJudged (statements (inside_procedure number w) ts) (done bound ended) o n = subst (λ (p : Scene). IsJudged (statements p ts) (done bound ended) o n) is_v j in
    let body : bound ≡ (statements (inside_procedure number w) ts).is.body = ap (λ (d : Done). d.body) k.is in
    let known : ended ≡ (statements (inside_procedure number w) ts).is.after = ap (λ (d : Done). d.after) k.is in
    let outer : ended.outer ≡ Some w.known.own = ap (λ (x : Known). x.outer) known ∙ keeps_outer (inside_procedure number w) ts in
    let later : after ≡ outside_again w.known.own (statements (inside_procedure number w) ts).is.after = is_after w.known.own outer ∙ ap (outside_again w.known.own) known in
    let mine : own ≡ (statements (inside_procedure number w) ts).is.after.own = is_own ∙ ap (λ (x : Known). x.own) known in
    let whole : made ≡ procedure_with (inside_procedure number w) place name (statements (inside_procedure number w) ts).is.after.own (statements (inside_procedure number w) ts).is.body =
    is_made ∙ ap (λ (p : Scene). procedure_with p place name own bound) is_v
    ∙ ap (λ (d : Defined). procedure_with (inside_procedure number w) place name d bound) mine
    ∙ ap (procedure_with (inside_procedure number w) place name (statements (inside_procedure number w) ts).is.after.own) body in
    record {
      is = ap (λ (p : b.Procedure). procedured p after) whole ∙ ap (procedured (procedure_with (inside_procedure number w) place name (statements (inside_procedure number w) ts).is.after.own (statements (inside_procedure number w) ts).is.body)) later;
      first = k.first;
      names = k.names;
    }
