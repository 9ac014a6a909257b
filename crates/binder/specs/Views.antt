-- How the contracts see the values of the program.
use Rattle.std.specs.Prelude.{◌≡◌, ℕ, List, [], ◌∷◌, map}
use Rattle.abl_base.specs.declared.place.Place.{Place}
use Rattle.bound_tree.specs.Tree as b
use Rattle.syntax_tree.specs.Syntax.{Program, Statements}
use Rattle.bind_names.specs.declared.names.Known.{Known}
use Rattle.bind_names.specs.Judged.{Judged}
use Rattle.bind_names.specs.declared.names.Naming.{Naming}
use Rattle.bind_names.specs.Names.{Scene, buffers_in, named_in}
use Rattle.binder.specs.Statements.{statements}
use Rattle.binder.specs.declared.procedures.Frame.{Frame}
use Rattle.binder.specs.declared.procedures.Position.{Position}
use Rattle.binder.specs.Sources.{buffer_def, items, references_in, inside_procedure, outside_again, procedure_block, procedure_with, source_with}

-- an internal procedure, and what is known after it
pub record Procedured : Type 0 where
  pub procedure : b.Procedure
  pub after : Known

abbrev pub internal : Scene → ℕ → Place → List ℕ → Statements → Judged Procedured
internal w number place name body =
    let v = inside_procedure number w in
    let x = statements v body in
    record {
      is = record { procedure = procedure_with v place name x.is.after.own x.is.body; after = outside_again w.known.own x.is.after };
      breaks = x.breaks;
      names = x.names;
    }

abbrev pub procedured : b.Procedure → Known → Procedured
procedured p k = record { procedure = p; after = k }

-- what a place has of its procedure, and the blocks around it
abbrev pub position_of : Scene → Position
position_of w = record { procedure = w.procedure; buffers = w.buffers; named = w.named; around = w.around; block = w.block }

abbrev pub moved_to : Position → Scene → Scene
moved_to p w = record w { procedure = p.procedure; buffers = p.buffers; named = p.named; around = p.around; block = p.block }

-- the position at the beginning of the procedure of this number, whose block has this number, in a source with these namings
abbrev pub opening : ℕ → ℕ → List Naming → Position
opening procedure block said = record {
  procedure = procedure;
  buffers = buffers_in procedure said;
  named = named_in procedure said;
  around = procedure_block block ∷ [];
  block = block;
}

-- the source with these items, from the place at its beginning on
abbrev pub judged_from : Scene → Program → Judged b.Source
judged_from w program =
    let x = items w [] program in
    record { is = source_with w x.is; breaks = x.breaks; names = x.names }

-- the parts of the procedure that its namings of buffers determine
pub record IsFrame (w : Scene) (f : Frame) : Type 0 where
  pub block : w.block ≡ f.block
  pub buffers : map buffer_def w.buffers ≡ f.buffers.items
  pub references : references_in w.procedure w.buffers w.context.namings ≡ f.references.items
