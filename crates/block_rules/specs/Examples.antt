-- Worked rows, each with its source text, and the first rule U that it breaks. They compute, and nothing depends on them.
use Rattle.std.specs.Prelude.{ℕ, ◌≡◌, List, [], ◌∷◌, Option, Some, None, refl, codes}
use Rattle.abl_base.specs.declared.place.Place.{Place}
use Rattle.abl_base.specs.declared.rule.Rule.{Rule}
use Rattle.abl_base.specs.declared.rule.Rule.TheVariants.{U1, U2, U3, U4, U5, U6, U7}
use Rattle.bind_names.specs.declared.violation.Violation.{Violation}
use Rattle.bound_tree.specs.declared.block.LockWanted.TheVariants as lock
use Rattle.syntax_tree.specs.declared.name.Word.{Word}
use Rattle.syntax_tree.specs.declared.word.BlockWord.{BlockWord}
use Rattle.syntax_tree.specs.declared.word.BlockWord.TheVariants.{Do, Repeat}
use Rattle.syntax_tree.specs.declared.word.FindWhich.TheVariants as which
use Rattle.syntax_tree.specs.Syntax.{Phrase, Transaction, OnError, Lock, UseIndex, Plainly, Head, Leave, Next, RetryIt, Statement, Block, Find, Undo, NextBlock, Statements, Nothing, Then, Alone}
use Rattle.block_rules.specs.Rules.{first_broken}

-- a place in the first line
abbrev col : ℕ → Place
col column = record { line = 1; column = column }

abbrev x : ℕ → Option Word
x column = Some (record { spelling = codes "x"; at = col column })

abbrev y : ℕ → Option Word
y column = Some (record { spelling = codes "y"; at = col column })

abbrev head : Option Word → BlockWord → List Phrase → Head
head label word phrases = record { label = label; at = col 1; opening = Plainly word []; counting = None; phrases = phrases }

abbrev alone : Statement → Statements
alone t = Then t Nothing

abbrev only : Statement → Option Violation
only t = first_broken (Alone t ∷ [])

abbrev breaks : Rule → ℕ → Option Violation
breaks rule column = Some (record { rule = rule; place = col column })

-- REPEAT: UNDO x, LEAVE. END.
pub no_block_has_the_label : only (Block (head None Repeat []) (alone (Undo (col 9) (x 14) (Some (Leave (col 17) None))))) ≡ breaks U1 14
no_block_has_the_label = refl

-- x: REPEAT: UNDO x, LEAVE X. END.   case does not count
pub a_label_in_another_case : only (Block (head (x 1) Repeat []) (alone (Undo (col 12) (x 17) (Some (Leave (col 20) (Some (record { spelling = codes "X"; at = col 26 }))))))) ≡ None
a_label_in_another_case = refl

-- x: DO: x: DO: END. END.
pub a_label_twice : only (Block (head (x 1) Do []) (alone (Block (head (x 8) Do []) Nothing))) ≡ breaks U2 8
a_label_twice = refl

-- x: DO: UNDO x. END.
pub a_do_without_the_undo_property : only (Block (head (x 1) Do []) (alone (Undo (col 8) (x 13) None))) ≡ breaks U3 13
a_do_without_the_undo_property = refl

-- DO TRANSACTION: NEXT. END.
pub nothing_to_go_on_with : only (Block (head None Do (Transaction (col 4) ∷ [])) (alone (NextBlock (col 17) None))) ≡ breaks U4 17
nothing_to_go_on_with = refl

-- DO TRANSACTION: UNDO, NEXT. END.   NEXT means the undone block
pub the_undone_block_does_not_iterate : only (Block (head None Do (Transaction (col 4) ∷ [])) (alone (Undo (col 17) None (Some (Next (col 23) None))))) ≡ breaks U4 23
the_undone_block_does_not_iterate = refl

-- x: REPEAT: y: REPEAT: UNDO x, LEAVE y. END. END.
pub the_label_is_inside : only (Block (head (x 1) Repeat []) (alone (Block (head (y 12) Repeat []) (alone (Undo (col 23) (x 28) (Some (Leave (col 31) (y 37)))))))) ≡ breaks U5 37
the_label_is_inside = refl

-- y: REPEAT: UNDO, LEAVE x. END.   inside x: REPEAT, LEAVE goes out of both
pub the_label_is_outside : only (Block (head (x 1) Repeat []) (alone (Block (head (y 12) Repeat []) (alone (Undo (col 23) None (Some (Leave (col 29) (x 35)))))))) ≡ None
the_label_is_outside = refl

-- DO TRANSACTION TRANSACTION: END.
pub a_phrase_twice : only (Block (head None Do (Transaction (col 4) ∷ Transaction (col 16) ∷ [])) Nothing) ≡ breaks U6 16
a_phrase_twice = refl

-- FIND FIRST x NO-LOCK SHARE-LOCK.
pub two_locks : only (Find which.First (record { spelling = codes "x"; at = col 12 }) (Lock (col 14) lock.NoLock ∷ Lock (col 22) lock.Share ∷ [])) ≡ breaks U6 22
two_locks = refl

-- FIND CURRENT x USE-INDEX y.
pub an_index_on_find_current : only (Find which.Current (record { spelling = codes "x"; at = col 14 }) (UseIndex (col 16) (record { spelling = codes "y"; at = col 26 }) ∷ [])) ≡ breaks U6 16
an_index_on_find_current = refl

-- x: REPEAT: y: REPEAT: UNDO, RETRY x. END. END.   y is undone
pub retry_of_another_block : only (Block (head (x 1) Repeat []) (alone (Block (head (y 12) Repeat []) (alone (Undo (col 23) None (Some (RetryIt (col 29) (x 35)))))))) ≡ breaks U7 35
retry_of_another_block = refl

-- x: DO ON ERROR UNDO x, LEAVE x: END.   an ON phrase may name its own block, which has the undo property by it
pub a_phrase_names_its_own_block : only (Block (head (x 1) Do (OnError (col 7) (x 21) (Some (Leave (col 24) (x 30))) ∷ [])) Nothing) ≡ None
a_phrase_names_its_own_block = refl
