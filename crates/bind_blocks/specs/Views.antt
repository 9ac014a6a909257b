-- How the contracts see the values of the program.
use Rattle.std.specs.Prelude.{ℕ, Bool, not, ◌&&◌, if◌then◌else◌, List, [], ◌∷◌, Option, Some, None, ◌||◌}
use Rattle.std.specs.List.{list_any}
use Rattle.std.specs.Option.{is_some}
use Rattle.abl_base.specs.declared.rule.Rule.TheVariants.{Y10}
use Rattle.abl_values.specs.Schema.{same_name}
use Rattle.bound_tree.specs.declared.block.OnPhrase.{OnPhrase as SourceOnPhrase}
use Rattle.bound_tree.specs.declared.expression.Binary.{Binary}
use Rattle.bound_tree.specs.declared.statement.FindWord.{FindWord}
use Rattle.bound_tree.specs.Bound.{action_of, maybe_expr_of, on_of, reading_of}
use Rattle.bound_tree.specs.Tree as b
use Rattle.bound_tree.specs.Tree.{Expr, Stmt}
use Rattle.syntax_tree.specs.declared.name.Named.{Named}
use Rattle.syntax_tree.specs.declared.name.Word.{Word}
use Rattle.syntax_tree.specs.Syntax as s
use Rattle.syntax_tree.specs.Syntax.{Expression}
use Rattle.syntax_tree.specs.Typed.{expression_of}
use Rattle.bind_names.specs.declared.names.Around.{Around}
use Rattle.bind_names.specs.declared.names.NamedBuffer.{NamedBuffer}
use Rattle.bind_names.specs.Judged.{Judged, breaking, fine, made, unless}
use Rattle.bind_names.specs.Names.{Scene, buffer_number, meaning, or_else}
use Rattle.bind_expressions.specs.Expressions.{Typed, condition, expression}
use Rattle.bind_blocks.specs.declared.brackets.Left.{Left}
use Rattle.bind_blocks.specs.declared.brackets.Left.TheVariants as left
use Rattle.bind_blocks.specs.declared.named.Sought.{Sought}
use Rattle.bind_blocks.specs.declared.named.Sought.TheVariants as sought
use Rattle.bind_blocks.specs.declared.phrases.Phrases.{Phrases as BoundPhrases}
use Rattle.bind_blocks.specs.declared.records.Asked.{Asked as TypedAsked}
use Rattle.bind_blocks.specs.declared.records.Selection.{Selection}
use Rattle.bind_blocks.specs.declared.records.Test.{Test}
use Rattle.bind_blocks.specs.declared.records.Test.TheVariants as test
use Rattle.bind_blocks.specs.Named.{is_labelled, is_number, iterating, undoing}
use Rattle.bind_blocks.specs.Headers.{Phrases, on_phrase}
use Rattle.bind_blocks.specs.Records.{Asked, index_number, is_equal_sign, is_field, reading}

-- the blocks that are looked for
abbrev pub sought_test : Sought → Around → Bool
sought_test sought.Iterating = iterating
sought_test sought.Undoing = undoing
sought_test (sought.Numbered n) = is_number n
sought_test (sought.Labelled label) = is_labelled label.now

-- ---- record phrases

-- the name before an operator, where one is there
abbrev pub name_in : Left → Option Named
name_in (left.Name name) = Some name.now
name_in left.Other = None

-- the name that an expression is, where it is one
abbrev pub lone_name : Expression → Option Named
lone_name (s.Name name) = Some name
lone_name e = None

-- the expression after WHERE, where there is one
abbrev pub maybe_test_of : Test → Option Expression
maybe_test_of test.None = None
maybe_test_of (test.Of e) = Some (expression_of e.now)

-- what the options of a record phrase say, with the expression after WHERE
abbrev pub asked_of : TypedAsked → Option Expression → Asked
asked_of a e = record { where_it = e; test = maybe_expr_of a.test; index = a.index; lock = a.lock; wait = a.wait; quiet = a.quiet }

-- the expression after the last WHERE, where there is one
abbrev pub where_after : s.RecordOption → Option Expression → Option Expression
where_after (s.Where place e) so_far = Some e
where_after (s.UseIndex place index) so_far = so_far
where_after (s.Lock place lock) so_far = so_far
where_after (s.NoWait place) so_far = so_far
where_after (s.NoError place) so_far = so_far

abbrev pub where_from : Option Expression → List s.RecordOption → Option Expression
where_from so_far [] = so_far
where_from so_far (o ∷ os) = where_from (where_after o so_far) os

-- what a record phrase selects
pub record Found : Type 0 where
  pub reading : b.Reading
  pub wait : Bool
  pub quiet : Bool

abbrev pub found_of : b.Reading × Asked → Found
found_of r = record { reading = r.0; wait = r.1.wait; quiet = r.1.quiet }

abbrev pub selection_of : Selection → Found
selection_of s = record { reading = reading_of s.reading; wait = s.wait; quiet = s.quiet }

abbrev pub selected : Scene → Option NamedBuffer → Asked → Found
selected w x a = record { reading = reading w x a; wait = a.wait; quiet = a.quiet }

-- USE-INDEX
abbrev pub used_index : Scene → Option NamedBuffer → Word → Judged (Option ℕ)
used_index w x index =
    breaking (fine (index_number w x index.spelling)) (unless (not (is_some x) || is_some (index_number w x index.spelling)) Y10 index.at)

-- the value that `name operator e` says the field is equal to
abbrev pub said_by : Scene → NamedBuffer → ℕ → Binary → Option Named → Expression → Option Expr
said_by w x field op None e = None
said_by w x field op (Some name) e =
    if is_equal_sign op && (is_field (buffer_number w x.name) field (meaning w name).is && not (list_any (λ n. same_name n.name x.name) (expression w e).names))
    then Some (expression w e).is.expr else None

-- FIND of what is selected
abbrev pub find_stmt : Option FindWord → Found → Stmt
find_stmt (Some word) x = b.Find word x.reading x.wait x.quiet
find_stmt None x = b.FindCurrent x.reading x.wait x.quiet

-- ---- headers

-- an ON phrase
abbrev pub on_phrase_of : SourceOnPhrase → b.OnPhrase
on_phrase_of on = record { target = on.target; action = action_of on.action }

-- the phrases of a header
abbrev pub phrases_of : BoundPhrases → Phrases
phrases_of p = record { while_test = maybe_expr_of p.while_test; on_error = on_of p.on_error; on_endkey = on_of p.on_endkey }

-- the first of each kind
abbrev pub firsts : Phrases → Phrases → Phrases
firsts p q = record { while_test = or_else p.while_test q.while_test; on_error = or_else p.on_error q.on_error; on_endkey = or_else p.on_endkey q.on_endkey }

-- one phrase alone
abbrev pub phrase : Scene → s.Phrase → Judged Phrases
phrase w (s.While place e) = made (λ (t : Typed). record { while_test = Some t.expr; on_error = None; on_endkey = None }) (condition w e)
phrase w (s.Transaction place) = fine (record { while_test = None; on_error = None; on_endkey = None })
phrase w (s.OnError place label act) = made (λ (on : b.OnPhrase). record { while_test = None; on_error = Some on; on_endkey = None }) (on_phrase w label act)
phrase w (s.OnEndkey place label act) = made (λ (on : b.OnPhrase). record { while_test = None; on_error = None; on_endkey = Some on }) (on_phrase w label act)
