-- The place at the beginning of a procedure, and the one after it.
use Rattle.std.proofs.Common.{◌≡◌, ℕ, ◌+◌, List, [], ◌∷◌, Some, None, sym, ap, ◌∙◌}
use Rattle.bind_names.specs.declared.names.Around.{Around}
use Rattle.bind_names.specs.declared.names.Known.{Known}
use Rattle.bind_names.specs.declared.names.NamedBuffer.{NamedBuffer}
use Rattle.bind_names.specs.declared.names.Naming.{Naming}
use Rattle.bind_names.specs.Names.{Context, Scene, buffers_in, named_in}
use Rattle.bind_expressions.specs.Parts.{scene_after}
use Rattle.binder.specs.declared.procedures.Position.{Position}
use Rattle.binder.specs.Groups.{own_namings}
use Rattle.binder.specs.Sources.{beginning, inside_procedure, nothing_defined, procedure_block}
use Rattle.binder.specs.Views.{moved_to, opening, position_of}
use Rattle.binder.proofs.Grouped.{own_buffers, own_named}

abbrev the_position : ℕ → List NamedBuffer → List NamedBuffer → List Around → ℕ → Position
the_position procedure buffers named around block = record { procedure = procedure; buffers = buffers; named = named; around = around; block = block }

pub opening_is : (procedure block : ℕ) (own said : List Naming) (buffers named : List NamedBuffer) (around : List Around) → own ≡ own_namings procedure said →
    buffers ≡ buffers_in procedure own → named ≡ named_in procedure own → around ≡ procedure_block block ∷ [] → the_position procedure buffers named around block ≡ opening procedure block said
opening_is procedure block own said buffers named around is_own is_buffers is_named is_around =
    ap (λ (bs : List NamedBuffer). the_position procedure bs named around block) (is_buffers ∙ own_buffers procedure own said is_own)
    ∙ ap (λ (bs : List NamedBuffer). the_position procedure (buffers_in procedure said) bs around block) (is_named ∙ own_named procedure own said is_own)
    ∙ ap (λ (xs : List Around). the_position procedure (buffers_in procedure said) (named_in procedure said) xs block) is_around

abbrev the_scene : Context → Known → Position → Scene
the_scene context known p = record {
  context = context;
  known = known;
  procedure = p.procedure;
  buffers = p.buffers;
  named = p.named;
  around = p.around;
  block = p.block;
}

-- ---- an internal procedure

abbrev known_in : Known → Known
known_in known = record known { own = nothing_defined; outer = Some known.own; blocks = known.blocks + 1 }

pub gone_inside : (number : ℕ) (w v : Scene) (known : Known) (p : Position) → p ≡ opening number w.known.blocks w.context.namings → known ≡ known_in w.known → v ≡ moved_to p (scene_after w known) →
    v ≡ inside_procedure number w
gone_inside number w v known p is_p is_known is_v =
    is_v ∙ ap (λ (q : Position). the_scene w.context known q) is_p ∙ ap (λ (k : Known). the_scene w.context k (opening number w.known.blocks w.context.namings)) is_known

pub gone_back : (w v u x : Scene) (k l : Known) (p : Position) → v.context ≡ w.context → u ≡ scene_after v k → x ≡ moved_to p (scene_after u l) → p ≡ position_of w → x ≡ scene_after w l
gone_back w v u x k l p same is_u is_x is_p =
    is_x ∙ ap (λ (y : Scene). the_scene y.context l p) is_u ∙ ap (λ (q : Position). the_scene v.context l q) is_p ∙ ap (λ (y : Context). the_scene y l (position_of w)) same

-- ---- the external procedure

abbrev known_first : Known
known_first = record { own = nothing_defined; outer = None; variables = 0; streams = 0; blocks = 1; inputs = []; outputs = [] }

pub beginning_is : (context : Context) (known : Known) (p : Position) → p ≡ opening 0 0 context.namings → known ≡ known_first → the_scene context known p ≡ beginning context
beginning_is context known p is_p is_known =
    ap (λ (k : Known). the_scene context k p) is_known ∙ ap (λ (q : Position). the_scene context known_first q) is_p
