use Rattle.std.proofs.Common.{◌≡◌, ◌∙◌, ⊎_elim, ap, arith, sym}
use Rattle.abl_base.specs.declared.rule.Rule.TheVariants.{E3}
use Rattle.preprocessor.specs.declared.directive.Directive.{Directive}
use Rattle.preprocessor.specs.declared.directive.Directive.TheVariants.{Else, ElseIf, EndIf, Global, If, Scoped, Unknown}
use Rattle.preprocessor.specs.declared.texts.Outcome.{Outcome}
use Rattle.preprocessor.specs.declared.texts.Outcome.TheVariants.{Breaks, Gives}
use Rattle.preprocessor.specs.Expansion.{judged, layer}
use Rattle.preprocessor.specs.Machine.{condition_ended}
use Rattle.preprocessor.specs.Texts.{bytes_of}
use Rattle.preprocessor.proofs.Machines.{breaks_at}
use Rattle.preprocessor.proofs.conditionals.decided.Goals as goal

pub returns : goal.returns
returns c =
    let a = c.args in
    let l = c.args.layer in
    let read : Directive → Outcome = λ w. judged (layer a.texts.now) a.here l.start l.at a.state l.given l.rest.now w (bytes_of a.marks) in
    let word = c.word_at.result in
    let wrong : read word ≡ Breaks E3 a.here.text l.at =
    ⊎_elim (λ (e : word ≡ Scoped). ap read e) (⊎_elim (λ (e : word ≡ Global). ap read e) (⊎_elim (λ (e : word ≡ If). ap read e) (⊎_elim (λ (e : word ≡ ElseIf). ap read e) (⊎_elim (λ (e : word ≡ Else). ap read e) (⊎_elim (λ (e : word ≡ EndIf). ap read e) (λ (e : word ≡ Unknown). ap read e)))))) c.in-Scoped.is in
    record { is = breaks_at a.texts.now a.here a.stack.items E3 a.here.text l.at (condition_ended a.texts.now a.here l (Gives a.marks a.state)) (ap read (sym c.word_at.ensures) ∙ wrong); falls = omega arith }
