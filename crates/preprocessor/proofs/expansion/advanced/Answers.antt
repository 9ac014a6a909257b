use Rattle.std.proofs.Common.{◌≡◌, ◌-◌, ◌∙◌, drop, get_or, length, sym, subst, take}
use Rattle.std.specs.Prelude.{IfOk}
use Rattle.preprocessor.specs.Machine.{comes_to}
use Rattle.preprocessor.specs.declared.texts.Outcome.{Outcome}
use Rattle.preprocessor.proofs.Machines.{byte_goes, reference_goes, split_front, word_goes}
use Rattle.preprocessor.proofs.expansion.advanced.Goals as goal

pub returns-then-opens-clause-is : goal.returns-then-opens-clause-is
returns-then-opens-clause-is c =
    let m = c.args.machine in
    let bytes = m.layer.rest.now in
    let P : Outcome → Type 0 = λ o. IfOk c.opened.result (λ turn. comes_to c.args.texts.now turn ≡ o) in
    subst P (reference_goes c.args.texts.now m.here m.stack.items m.layer m.state (get_or bytes 0 0) (take (length bytes - 1) (drop 1 bytes)) (split_front bytes c.in-len1-up.len_at_least) (sym c.opens.ensures ∙ c.if-opens.true)) c.opened.ensures.is

pub returns-then-begins_word-clause-is : goal.returns-then-begins_word-clause-is
returns-then-begins_word-clause-is c =
    let m = c.args.machine in
    let bytes = m.layer.rest.now in
    let P : Outcome → Type 0 = λ o. IfOk c.worded.result (λ turn. comes_to c.args.texts.now turn ≡ o) in
    subst P (word_goes c.args.texts.now m.here m.stack.items m.layer m.state (get_or bytes 0 0) (take (length bytes - 1) (drop 1 bytes)) (split_front bytes c.in-len1-up.len_at_least) (sym c.opens.ensures ∙ c.if-opens.false) (sym c.begins_word.ensures ∙ c.if-begins_word.true)) c.worded.ensures.is

pub returns-in-len1-up-clause-is : goal.returns-in-len1-up-clause-is
returns-in-len1-up-clause-is c =
    let m = c.args.machine in
    let bytes = m.layer.rest.now in
    let P : Outcome → Type 0 = λ o. IfOk c.copied.result (λ turn. comes_to c.args.texts.now turn ≡ o) in
    subst P (byte_goes c.args.texts.now m.here m.stack.items m.layer m.state (get_or bytes 0 0) (take (length bytes - 1) (drop 1 bytes)) (split_front bytes c.in-len1-up.len_at_least) (sym c.opens.ensures ∙ c.if-opens.false) (sym c.begins_word.ensures ∙ c.if-begins_word.false)) c.copied.ensures.is
