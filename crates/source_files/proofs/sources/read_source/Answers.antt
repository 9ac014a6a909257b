use Rattle.std.proofs.Common.{◌≡◌, ◌⊎◌, ◌∷◌, [], ℕ, List, Err, inl, inr, sym, ◌∙◌, subst}
use Rattle.std.proofs.lemmas.Result.{err_from_is_err_and}
use Rattle.host_io.specs.Files.{FileState}
use Rattle.preprocessor.specs.declared.texts.NamedText.{NamedText}
use Rattle.run_report.specs.declared.refusal.Refusal.{Refusal}
use Rattle.run_report.specs.declared.refusal.Refusal.TheVariants.{NoMemory}
use Rattle.source_files.specs.Files.{AreSame, AskedIsNotRead, AsksNeeded, AsksSource, HasSource, HasText, IsNotRead, Needed, asks_own}
use Rattle.source_files.proofs.Causes.{asked_wants, if_err, if_ok, of_error, on_ok, same_further, still_asked, still_asks_needed, still_needed}
use Rattle.source_files.proofs.Parts.{AreAll, asks_of_own}
use Rattle.source_files.proofs.sources.read_source.Goals as goal

pub returns-in_default-clause-refused : goal.returns-in_default-clause-refused
returns-in_default-clause-refused g c = asked_wants c.args.program.now asks_own

pub returns-in_err-own-clause-refused : goal.returns-in_err-own-clause-refused
returns-in_err-own-clause-refused g c =
    let files : FileState = g.F.Files.state c.args.files.now in
    let faults : ℕ = (g.F.Files.state c.read_text.new.files).faults in
    let p = err_from_is_err_and c.from_residual.result c.from_residual.ensures.1 in
    let refusal = c.in_err-own.field-0.0 in
    let is : c.from_residual.result ≡ Err refusal = cc (p.1, p.2) in
    let unread : IsNotRead files faults c.args.program.now refusal = subst (λ n. IsNotRead files faults n refusal) c.in-Ok.ensures c.in_err-own.ensures.refused in
    of_error (λ (refusal : Refusal). AskedIsNotRead files faults (AsksSource files c.args.program.now) refusal) is
    (record { name = c.args.program.now; asks = asks_own; unread = unread })

pub returns-clause-read : goal.returns-clause-read
returns-clause-read g c =
    let files : FileState = g.F.Files.state c.args.files.now in
    let later : FileState = g.F.Files.state c.read_text.new.files in
    let own : NamedText = c.in_ok-own.own in
    let program : List ℕ = c.args.program.now in
    let name : own.name ≡ program = c.in_ok-own.ensures.name ∙ c.in-Ok.ensures in
    let has : HasText files program own.bytes = subst (λ n. HasText files n own.bytes) c.in-Ok.ensures c.in_ok-own.ensures.text in
    if_ok c.read_needed.result (AreAll later own) (HasSource files program)
    (λ source all. subst (HasSource files program) (sym all.1) (name, has, still_needed files later c.in_ok-own.ensures.same (g.met.F.Files.sound_observable c.args.files.now) (own ∷ []) all.0 all.2))
    c.read_needed.ensures.read

pub returns-clause-same : goal.returns-clause-same
returns-clause-same g c =
    let files : FileState = g.F.Files.state c.args.files.now in
    let later : FileState = g.F.Files.state c.read_text.new.files in
    let last : FileState = g.F.Files.state c.read_needed.new.files in
    on_ok c.read_needed.result (AreSame later last) (AreSame files last) (λ more. same_further c.in_ok-own.ensures.same more) c.read_needed.ensures.same

pub returns-clause-refused : goal.returns-clause-refused
returns-clause-refused g c =
    let files : FileState = g.F.Files.state c.args.files.now in
    let later : FileState = g.F.Files.state c.read_text.new.files in
    let faults : ℕ = (g.F.Files.state c.read_needed.new.files).faults in
    let own : NamedText = c.in_ok-own.own in
    let program : List ℕ = c.args.program.now in
    let sound = g.met.F.Files.sound_observable c.args.files.now in
    let name : own.name ≡ program = c.in_ok-own.ensures.name ∙ c.in-Ok.ensures in
    let has : HasText files program own.bytes = subst (λ n. HasText files n own.bytes) c.in-Ok.ensures c.in_ok-own.ensures.text in
    if_err c.read_needed.result (λ (refusal : Refusal). (refusal ≡ NoMemory) ⊎ AskedIsNotRead later faults (AsksNeeded later (own ∷ [])) refusal) (λ (refusal : Refusal). AskedIsNotRead files faults (AsksSource files program) refusal)
    (λ refusal h. elim h [
      | inl wants ↦ subst (λ (r : Refusal). AskedIsNotRead files faults (AsksSource files program) r) (sym wants) (asked_wants program asks_own)
      | inr asked ↦ still_asked files later c.in_ok-own.ensures.same sound (λ n asks. asks_of_own files own program name has n (still_asks_needed files later c.in_ok-own.ensures.same sound asks)) asked
    ])
    c.read_needed.ensures.refused
