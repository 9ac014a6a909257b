-- What a statement is bound to, what is known after it, the rules that it breaks, and the buffers that it names.
use Rattle.std.specs.Prelude.{◌++◌}
use Rattle.bound_tree.specs.Tree as b
use Rattle.bound_tree.specs.Tree.{Nothing, Then}
use Rattle.syntax_tree.specs.Syntax as s
use Rattle.syntax_tree.specs.Syntax.{Statement, Statements}
use Rattle.bind_names.specs.Judged.{Judged, fine, made_of}
use Rattle.bind_names.specs.Names.{Scene}
use Rattle.bind_expressions.specs.Expressions.{Typed, condition}
use Rattle.bind_expressions.specs.Parts.{Done, append, does, scene_after}
use Rattle.bind_statements.specs.Definitions.{define}
use Rattle.bind_statements.specs.Assignments.{assign, record_statement}
use Rattle.bind_statements.specs.Runs.{run}
use Rattle.bind_statements.specs.Streams.{export, import, input, output}
use Rattle.bind_statements.specs.Shown.{message, put}
use Rattle.bind_blocks.specs.Records.{find}
use Rattle.bind_blocks.specs.Flow.{leave_block, next_block, return_it, undo_block}
use Rattle.bind_blocks.specs.Headers.{head, inside}

-- one part after the other
abbrev pub then_more : Judged Done → Judged Done → Judged Done
then_more x y = record { is = record { body = append x.is.body y.is.body; after = y.is.after }; breaks = x.breaks ++ y.breaks; names = x.names ++ y.names }

-- a block
abbrev pub block : Judged b.Header → Judged Done → Judged Done
block h x = made_of (λ h x. record { body = Then (b.Inner h x.body) Nothing; after = x.after }) h x

-- IF
abbrev pub choose : Judged Typed → Judged Done → Judged Done → Judged Done
choose t x y = record {
  is = record { body = Then (b.Choose t.is.expr x.is.body y.is.body) Nothing; after = y.is.after };
  breaks = t.breaks ++ (x.breaks ++ y.breaks);
  names = t.names ++ (x.names ++ y.names);
}

abbrev mutual
  -- WHAT A STATEMENT IS BOUND TO
  pub statement : Scene → Statement → Judged Done
  statement w (s.Block h body) = block (head (inside h w) h) (statements (inside h w) body)
  statement w (s.Choose test then_it else_it) =
      let x = statement w then_it in
      choose (condition w test) x (statements (scene_after w x.is.after) else_it)
  statement w (s.Define d) = define w d
  statement w (s.Assign ps quiet) = assign w ps quiet
  statement w (s.Find word x os) = find w word x os
  statement w (s.Create x quiet) = record_statement w b.Create x quiet
  statement w (s.Delete x quiet) = record_statement w b.Remove x quiet
  statement w (s.Release x quiet) = record_statement w b.Release x quiet
  statement w (s.Undo place label act) = undo_block w label act
  statement w (s.LeaveBlock place label) = leave_block w label
  statement w (s.NextBlock place label) = next_block w label
  statement w (s.ReturnIt place error e) = return_it w error e
  statement w s.Stop = fine (does w b.Stop)
  statement w (s.Run name as_ quiet) = run w name as_ quiet
  statement w (s.Import name targets quiet) = import w name targets quiet
  statement w (s.Export name es) = export w name es
  statement w (s.Put name plain items) = put w name plain items
  statement w (s.Message es) = message w es
  statement w (s.InputFrom name file) = input w name file
  statement w (s.OutputTo name file append_it) = output w name file append_it

  pub statements : Scene → Statements → Judged Done
  statements w s.Nothing = fine (record { body = Nothing; after = w.known })
  statements w (s.Then t ts) =
      let x = statement w t in
      then_more x (statements (scene_after w x.is.after) ts)
