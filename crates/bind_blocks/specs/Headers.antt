-- What the heads of blocks are bound to.
use Rattle.std.specs.Prelude.{ℕ, ◌+◌, Bool, true, false, not, ◌||◌, if◌then◌else◌, List, [], ◌∷◌, ◌++◌, Option, Some, None}
use Rattle.std.specs.Option.{is_some, option_map}
use Rattle.std.specs.List.{list_any}
use Rattle.abl_base.specs.declared.place.Place.{Place}
use Rattle.abl_base.specs.declared.rule.Rule.TheVariants.{Y8}
use Rattle.bound_tree.specs.declared.block.BlockKind.{BlockKind}
use Rattle.bound_tree.specs.declared.block.BlockKind.TheVariants as block_kind
use Rattle.bound_tree.specs.declared.expression.Variable.{Variable}
use Rattle.bound_tree.specs.Tree as b
use Rattle.bound_tree.specs.Tree.{Expr}
use Rattle.syntax_tree.specs.Syntax as s
use Rattle.syntax_tree.specs.declared.name.Word.{Word}
use Rattle.syntax_tree.specs.Syntax.{named_at}
use Rattle.syntax_tree.specs.declared.word.BlockWord.TheVariants as word
use Rattle.bind_names.specs.declared.names.NamingKind.TheVariants as naming_kind
use Rattle.bind_names.specs.Judged.{Judged, unless, fine, broken, made, made_of, breaking, naming}
use Rattle.bind_names.specs.Sorts.{is_whole_kind}
use Rattle.bind_names.specs.Names.{Scene, Meaning, TheVariable, TheField, TheBuffer, names_it, meaning, buffer}
use Rattle.bind_names.specs.Names as n
use Rattle.bind_expressions.specs.Expressions.{Typed, condition, number, of_meaning}
use Rattle.bind_expressions.specs.Parts.{listed, maybe, the_expr}
use Rattle.bind_blocks.specs.Records.{looked_for}
use Rattle.bind_blocks.specs.Named.{block_named, undoing}
use Rattle.bind_blocks.specs.Flow.{action}

abbrev pub on_phrase : Scene → Option Word → Option s.Action → Judged b.OnPhrase
on_phrase w label act =
    let block = block_named undoing w.around label in
    made (λ a. record { target = block; action = a }) (action w block act)

-- the phrases of a header; the first of each kind counts
pub record Phrases : Type 0 where
  pub while_test : Option Expr
  pub on_error : Option b.OnPhrase
  pub on_endkey : Option b.OnPhrase

abbrev pub phrases : Scene → List s.Phrase → Judged Phrases
phrases w [] = fine (record { while_test = None; on_error = None; on_endkey = None })
phrases w (s.While place e ∷ ps) = made_of (λ (t : Typed) (more : Phrases). record more { while_test = Some t.expr }) (condition w e) (phrases w ps)
phrases w (s.Transaction place ∷ ps) = phrases w ps
phrases w (s.OnError place label act ∷ ps) = made_of (λ (on : b.OnPhrase) (more : Phrases). record more { on_error = Some on }) (on_phrase w label act) (phrases w ps)
phrases w (s.OnEndkey place label act ∷ ps) = made_of (λ (on : b.OnPhrase) (more : Phrases). record more { on_endkey = Some on }) (on_phrase w label act) (phrases w ps)

-- the variable of a TO: Y8 unless it is an INTEGER or INT64 variable
abbrev pub counter_of : Scene → Place → Meaning → Judged (Option Variable)
counter_of w place (TheVariable x mask) = breaking (fine (Some x)) (unless (is_whole_kind x.kind) Y8 place)
counter_of w place (TheField buffer field kind mask) = broken None Y8 place
counter_of w place (TheBuffer x) = naming (names_it w x naming_kind.Free false place) (broken None Y8 place)
counter_of w place n.Nothing = fine None

abbrev pub to_phrase : Option Variable → Typed → Typed → Option Expr → Option b.ToPhrase
to_phrase None start end by = None
to_phrase (Some x) start end by = Some (record { variable = x; start = start.expr; end = end.expr; by = by })

abbrev pub counting : Scene → s.Counting → Judged (Option b.ToPhrase)
counting w c =
    let x = of_meaning (meaning w c.variable) (counter_of w (named_at c.variable)) in
    let start = number w c.start in
    let end = number w c.end in
    let by = maybe (λ e. the_expr (number w e)) c.by in
    record {
      is = to_phrase x.is start.is end.is by.is;
      breaks = x.breaks ++ (start.breaks ++ (end.breaks ++ by.breaks));
      names = x.names ++ (start.names ++ (end.names ++ by.names));
    }

abbrev pub counts : Scene → Option s.Counting → Judged (Option b.ToPhrase)
counts w None = fine None
counts w (Some c) = counting w c

-- the buffers after DO FOR and REPEAT FOR, and the record phrase of FOR
abbrev pub opening : Scene → s.Opening → Judged (Option b.Fetch)
opening w (s.Plainly word buffers) = made (λ xs. None) (listed (buffer w naming_kind.Strong true) buffers)
opening w (s.ForRecords fetch x os) =
    made (λ r. Some (record { word = fetch; reading = r.0 })) (looked_for w (buffer w naming_kind.Weak true x) os)

abbrev pub is_for : s.Opening → Bool
is_for (s.Plainly word buffers) = false
is_for (s.ForRecords fetch x os) = true

abbrev pub is_repeat : s.Opening → Bool
is_repeat (s.Plainly word.Repeat buffers) = true
is_repeat (s.Plainly word.Do buffers) = false
is_repeat (s.ForRecords fetch x os) = false

abbrev pub is_while : s.Phrase → Bool
is_while (s.While place e) = true
is_while p = false

abbrev pub is_transaction : s.Phrase → Bool
is_transaction (s.Transaction place) = true
is_transaction p = false

abbrev pub block_kind_of : s.Opening → BlockKind
block_kind_of o = if is_for o then block_kind.For else if is_repeat o then block_kind.Repeat else block_kind.Do

-- it iterates: REPEAT, FOR, and DO with TO or WHILE
abbrev pub iterates : s.Head → Bool
iterates h = is_for h.opening || (is_repeat h.opening || (is_some h.counting || list_any is_while h.phrases))

-- it can be undone: REPEAT, FOR, and DO with TRANSACTION, ON ERROR or ON ENDKEY
abbrev pub can_be_undone : s.Head → Bool
can_be_undone h = is_for h.opening || (is_repeat h.opening || list_any (λ p. not (is_while p)) h.phrases)

-- inside the block of this head
abbrev pub inside : s.Head → Scene → Scene
inside h w = record w {
  known = record w.known { blocks = w.known.blocks + 1 };
  around = record { number = w.known.blocks; label = option_map (λ l. l.spelling) h.label; iterates = iterates h; undoes = can_be_undone h } ∷ w.around;
  block = w.known.blocks;
}

-- the header of the block that the scene is in, with the place of its first word and whether it has TRANSACTION; its flags and its
-- buffers are inferred later
abbrev pub header : Scene → Place → Bool → BlockKind → Option b.Fetch → Option b.ToPhrase → Phrases → b.Header
header w place transaction kind fetch to p = record {
  number = w.block;
  kind = kind;
  place = place;
  transaction = transaction;
  flags = record { starts = false; undo = false; retry_seen = false };
  scoped = [];
  to = to;
  while_test = p.while_test;
  fetch = fetch;
  on_error = p.on_error;
  on_endkey = p.on_endkey;
}

abbrev pub head : Scene → s.Head → Judged b.Header
head w h =
    let o = opening w h.opening in
    let c = counts w h.counting in
    let p = phrases w h.phrases in
    record {
      is = header w h.at (list_any is_transaction h.phrases) (block_kind_of h.opening) o.is c.is p.is;
      breaks = o.breaks ++ (c.breaks ++ p.breaks);
      names = o.names ++ (c.names ++ p.names);
    }
