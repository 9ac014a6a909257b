-- THE KINDS OF THE VARIABLES OF A SOURCE, as its definitions of variables and parameters say, by the syntax alone.
use Rattle.std.specs.Prelude.{Bool, true, false, if◌then◌else◌, List, [], ◌∷◌, ◌++◌}
use Rattle.std.specs.List.{list_any}
use Rattle.abl_base.specs.declared.value.Kind.{Kind}
use Rattle.syntax_tree.specs.declared.definition.VariableOption.{VariableOption}
use Rattle.syntax_tree.specs.declared.definition.VariableOption.TheVariants as opt
use Rattle.syntax_tree.specs.Syntax as s
use Rattle.syntax_tree.specs.Syntax.{Statement, Statements, Program}
use Rattle.kind_laws.specs.bound_kinds.WellKinded.{VariableKinds}

abbrev pub no_kinds : VariableKinds
no_kinds = record { undoable = []; no_undo = [] }

-- those of one part of a text, then those of another
abbrev pub then_kinds : VariableKinds → VariableKinds → VariableKinds
then_kinds x y = record { undoable = x.undoable ++ y.undoable; no_undo = x.no_undo ++ y.no_undo }

abbrev pub is_no_undo : VariableOption → Bool
is_no_undo (opt.NoUndo place) = true
is_no_undo option = false

-- a variable of the kind with these options
abbrev pub kind_defined : Kind → List VariableOption → VariableKinds
kind_defined k os = if list_any is_no_undo os then record { undoable = []; no_undo = k ∷ [] } else record { undoable = k ∷ []; no_undo = [] }

abbrev mutual
  -- the variables and parameters that a statement defines, in text order
  pub kinds_in : Statement → VariableKinds
  kinds_in (s.Block h body) = kinds_within body
  kinds_in (s.Choose test then_it else_it) = then_kinds (kinds_in then_it) (kinds_within else_it)
  kinds_in (s.Define (s.Variable name k os)) = kind_defined k os
  kinds_in (s.Define (s.Parameter direction at name k os)) = kind_defined k os
  kinds_in statement = no_kinds

  pub kinds_within : Statements → VariableKinds
  kinds_within s.Nothing = no_kinds
  kinds_within (s.Then first rest) = then_kinds (kinds_in first) (kinds_within rest)

-- of the external procedure
abbrev pub outer_kinds : Program → VariableKinds
outer_kinds [] = no_kinds
outer_kinds (s.Alone statement ∷ items) = then_kinds (kinds_in statement) (outer_kinds items)
outer_kinds (s.Procedure keyword name body ∷ items) = outer_kinds items

-- of each internal procedure
abbrev pub inner_kinds : Program → List VariableKinds
inner_kinds [] = []
inner_kinds (s.Alone statement ∷ items) = inner_kinds items
inner_kinds (s.Procedure keyword name body ∷ items) = kinds_within body ∷ inner_kinds items

-- OF EACH PROCEDURE, the external one first
abbrev pub kinds_of_source : Program → List VariableKinds
kinds_of_source program = outer_kinds program ∷ inner_kinds program
