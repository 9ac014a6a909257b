use Rattle.std.proofs.Common.{◌≡◌, ⊎_elim, ap, arith}
use Rattle.abl_base.specs.declared.rule.Rule.TheVariants.{E3}
use Rattle.preprocessor.specs.declared.directive.Directive.{Directive}
use Rattle.preprocessor.specs.declared.directive.Directive.TheVariants.{Global, If, Scoped, Then, Unknown}
use Rattle.preprocessor.specs.declared.texts.Outcome.{Outcome}
use Rattle.preprocessor.specs.declared.texts.Outcome.TheVariants.{Breaks}
use Rattle.preprocessor.specs.Machine.{branch_word}
use Rattle.preprocessor.proofs.Machines.{breaks_at}
use Rattle.preprocessor.proofs.expansion.passed_by.Goals as goal

pub returns : goal.returns
returns c =
    let a = c.args in
    let read : Directive → Outcome = λ w. branch_word a.texts.now a.here a.layer a.next a.state a.bytes.now w in
    let wrong : read a.word ≡ Breaks E3 a.here.text a.layer.at =
    ⊎_elim (λ (e : a.word ≡ Then). ap read e) (⊎_elim (λ (e : a.word ≡ If). ap read e) (⊎_elim (λ (e : a.word ≡ Scoped). ap read e) (⊎_elim (λ (e : a.word ≡ Global). ap read e) (λ (e : a.word ≡ Unknown). ap read e)))) c.in-Then.is in
    record { is = breaks_at a.texts.now a.here a.stack.items E3 a.here.text a.layer.at (read a.word) wrong; falls = omega arith }
