-- What UNDO, LEAVE, NEXT and RETURN are bound to.
use Rattle.std.specs.Prelude.{ℕ, Bool, true, false, Option, Some, None}
use Rattle.abl_base.specs.declared.value.Kind.TheVariants.{Character}
use Rattle.bound_tree.specs.Tree as b
use Rattle.bound_tree.specs.Tree.{Expr, Stmt}
use Rattle.syntax_tree.specs.Syntax as s
use Rattle.syntax_tree.specs.declared.name.Word.{Word}
use Rattle.syntax_tree.specs.Syntax.{Expression}
use Rattle.bind_names.specs.Judged.{Judged, fine, made}
use Rattle.bind_names.specs.Names.{Scene}
use Rattle.bind_expressions.specs.Expressions.{value_for}
use Rattle.bind_expressions.specs.Parts.{Done, does, maybe, the_expr}
use Rattle.bind_blocks.specs.Named.{block_named, first_block, is_number, iterating, undoing}

-- a text for RETURN: Y5 where it is none
abbrev pub returned : Scene → Option Expression → Judged (Option Expr)
returned w = maybe (λ e. the_expr (value_for w Character e))

-- what becomes of the undone block of this number
abbrev pub action : Scene → ℕ → Option s.Action → Judged b.Action
action w block None = fine b.ThenRetry
action w block (Some (s.RetryIt place label)) = fine b.ThenRetry
action w block (Some (s.Leave place label)) = fine (b.ThenLeave (block_named (is_number block) w.around label))
action w block (Some (s.Next place label)) = fine (b.ThenNext (block_named (is_number block) w.around label))
action w block (Some (s.Return place error e)) = made (b.ThenReturn error) (returned w e)

-- RETURN ERROR undoes the innermost block that can be undone
abbrev pub returns : Scene → Bool → Option Expr → Stmt
returns w false e = b.Return e
returns w true e = b.ReturnError (first_block undoing w.around) e

-- UNDO
abbrev pub undo_block : Scene → Option Word → Option s.Action → Judged Done
undo_block w label act =
    let undone = block_named undoing w.around label in
    made (λ a. does w (b.UndoBlock undone a)) (action w undone act)

-- LEAVE and NEXT
abbrev pub leave_block : Scene → Option Word → Judged Done
leave_block w label = fine (does w (b.LeaveBlock (block_named iterating w.around label)))

abbrev pub next_block : Scene → Option Word → Judged Done
next_block w label = fine (does w (b.NextBlock (block_named iterating w.around label)))

-- RETURN
abbrev pub return_it : Scene → Bool → Option Expression → Judged Done
return_it w error e = made (λ e. does w (returns w error e)) (returned w e)
