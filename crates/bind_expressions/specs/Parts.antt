-- What the judgements of statements have in common.
use Rattle.std.specs.Prelude.{List, [], ◌∷◌, Option, Some, None, ◌≡◌}
use Rattle.bound_tree.specs.Tree.{Expr, Stmt, Body, Nothing, Then}
use Rattle.bind_names.specs.Judged.{Judged, fine, made, made_of}
use Rattle.bind_names.specs.declared.names.Known.{Known}
use Rattle.bind_names.specs.Names.{Scene}
use Rattle.bind_expressions.specs.Expressions.{Typed}
use Rattle.bind_names.specs.declared.scene.Scene.{Scene as TypedScene}
use Rattle.bind_names.specs.Views.{scene_of}

-- the statements that a part is bound to, and what is known after it
pub record Done : Type 0 where
  pub body : Body
  pub after : Known

-- one statement, after which the same is known
abbrev pub does : Scene → Stmt → Done
does w t = record { body = Then t Nothing; after = w.known }

abbrev pub append : Body → Body → Body
append Nothing more = more
append (Then t ts) more = Then t (append ts more)

-- none of them where it is left out
abbrev pub maybe : {A B : Type 0} → (A → Judged B) → Option A → Judged (Option B)
maybe f None = fine None
maybe f (Some a) = made Some (f a)

abbrev pub listed : {A B : Type 0} → (A → Judged B) → List A → Judged (List B)
listed f [] = fine []
listed f (a ∷ as_) = made_of (λ x xs. x ∷ xs) (f a) (listed f as_)

abbrev pub the_expr : Judged Typed → Judged Expr
the_expr = made (λ x. x.expr)

-- the place after a part
abbrev pub scene_after : Scene → Known → Scene
scene_after w known = record w { known = known }

-- only what is known is another
abbrev pub IsAfter : TypedScene → TypedScene → Type 0
IsAfter old new = scene_of new ≡ scene_after (scene_of old) new.known

-- a definition has no statement
abbrev pub nothing_done : Scene → Done
nothing_done w = record { body = Nothing; after = w.known }

-- these statements, after which this is known
abbrev pub done_with : Body → Scene → Done
done_with body w = record { body = body; after = w.known }
