-- Which statement, item or program a node denotes, a constructor a production.
use Rattle.std.specs.Prelude.{ℕ, ◌+◌, List, Option, Some, None}
use Rattle.abl_base.specs.declared.place.Place.{Place}
use Rattle.parse_tree.specs.declared.production.TheConstants as p
use Rattle.syntax_tree.specs.declared.name.Word.{Word}
use Rattle.syntax_tree.specs.Syntax as s
use Rattle.syntax_tree.specs.Syntax.{Expression, Head, Definition, Statement, Statements, Item, Program}
use Rattle.syntax_reader.specs.Nodes.{Source, Uses, IsAt, IsName, AreAll}
use Rattle.syntax_reader.specs.Expressions.{IsExpression}
use Rattle.syntax_reader.specs.Definitions.{IsDefinition}
use Rattle.syntax_reader.specs.Headers.{IsHead}
use Rattle.syntax_reader.specs.Plain.{IsAssignment, IsRecord, IsFlow}
use Rattle.syntax_reader.specs.Streaming.{IsStreaming}

-- the statements without others inside
pub data IsPlain (c : Source) : ℕ → ℕ → Statement → Type 0 where
  assignment : {n k m : ℕ} {t : Statement} → Uses c n p.STATEMENT_ASSIGNMENT k → IsAssignment c (n + 1) m t → IsPlain c n m t
  record_statement : {n k m : ℕ} {t : Statement} → Uses c n p.STATEMENT_RECORD k → IsRecord c (n + 1) m t → IsPlain c n m t
  flow : {n k m : ℕ} {t : Statement} → Uses c n p.STATEMENT_FLOW k → IsFlow c (n + 1) m t → IsPlain c n m t
  streaming : {n k m : ℕ} {t : Statement} → Uses c n p.STATEMENT_STREAMING k → IsStreaming c (n + 1) m t → IsPlain c n m t
  define : {n k m : ℕ} {d : Definition} → Uses c n p.STATEMENT_DEFINE k → IsDefinition c (n + 1) m d → IsPlain c n m (s.Define d)

mutual
  -- Statement
  pub data IsStatement (c : Source) : ℕ → ℕ → Statement → Type 0 where
    plain : {n m : ℕ} {t : Statement} → IsPlain c n m t → IsStatement c n m t
    labelled : {n k m : ℕ} {label : Word} {t : Statement} → Uses c n p.STATEMENT_NAME k → IsName c k label → IsBlock c (Some label) (n + 1) m t → IsStatement c n m t
    block : {n k m : ℕ} {t : Statement} → Uses c n p.STATEMENT_BLOCK k → IsBlock c None (n + 1) m t → IsStatement c n m t
    choice : {n k m l end : ℕ} {test : Expression} {then_it : Statement} {else_it : Statements} → Uses c n p.STATEMENT_IF k → IsExpression c (n + 1) m test → IsStatement c m l then_it →
        IsElse c l end else_it → IsStatement c n end (s.Choose test then_it else_it)

  -- Block, after the label
  pub data IsBlock (c : Source) : Option Word → ℕ → ℕ → Statement → Type 0 where
    body : {n m l : ℕ} {label : Option Word} {head : Head} {inner : Statements} → IsHead c label n m head → AreStatements c m l inner → IsBlock c label n l (s.Block head inner)

  -- ElseBranch
  pub data IsElse (c : Source) : ℕ → ℕ → Statements → Type 0 where
    else_branch : {n k m : ℕ} {t : Statement} → Uses c n p.ELSE_BRANCH_ELSE k → IsStatement c (n + 1) m t → IsElse c n m (s.Then t s.Nothing)
    no_else : {n k : ℕ} → Uses c n p.ELSE_BRANCH_NONE k → IsElse c n (n + 1) s.Nothing

  -- Statements
  pub data AreStatements (c : Source) : ℕ → ℕ → Statements → Type 0 where
    all_statements : {n k : ℕ} → Uses c n p.STATEMENTS_NONE k → AreStatements c n (n + 1) s.Nothing
    one_statement : {n k m l : ℕ} {t : Statement} {rest : Statements} → Uses c n p.STATEMENTS_STATEMENT k → IsStatement c (n + 1) m t → AreStatements c m l rest →
        AreStatements c n l (s.Then t rest)

-- Item; the node after the statements of a procedure is that of the keyword PROCEDURE, which may be left out
pub data IsItem (c : Source) : ℕ → ℕ → Item → Type 0 where
  procedure : {n k m : ℕ} {at : Place} {name : Word} {inner : Statements} → Uses c n p.ITEM_PROCEDURE k → IsAt c k at → IsName c (k + 1) name → AreStatements c (n + 1) m inner →
      IsItem c n (m + 1) (s.Procedure at name inner)
  alone : {n k m : ℕ} {t : Statement} → Uses c n p.ITEM_STATEMENT k → IsStatement c (n + 1) m t → IsItem c n m (s.Alone t)

-- Items
abbrev pub AreItems : Source → ℕ → ℕ → List Item → Type 0
AreItems c = AreAll c p.ITEMS_ITEM p.ITEMS_NONE (IsItem c)

-- Program: node 0 denotes the program
pub data IsProgram (c : Source) : Program → Type 0 where
  program : {k end : ℕ} {items : List Item} → Uses c 0 p.PROGRAM_ITEMS k → AreItems c 1 end items → IsProgram c items
