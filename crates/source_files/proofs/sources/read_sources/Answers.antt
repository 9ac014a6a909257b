-- The sources are read one after the other.
use Rattle.std.proofs.Common.{◌≡◌, ◌++◌, ◌∷◌, [], ℕ, List, Err, suc, sym, subst, take, add-one}
use Rattle.std.proofs.lemmas.Result.{err_from_is_err_and}
use Rattle.host_io.specs.Files.{FileState}
use Rattle.preprocessor.specs.declared.texts.NamedText.{NamedText}
use Rattle.run_report.specs.declared.refusal.Refusal.{Refusal}
use Rattle.source_files.specs.Files.{AskedIsNotRead, AsksSource, AsksSources, HasSource, HaveSources, asks_own}
use Rattle.source_files.proofs.Causes.{asked_wants, asks_at, have_source, of_error, same_further, still_asked, still_asks_source, still_source}
use Rattle.source_files.proofs.sources.read_sources.Goals as goal

pub returns-in_err-source-clause-refused : goal.returns-in_err-source-clause-refused
returns-in_err-source-clause-refused g c =
    let files : FileState = g.F.Files.state c.args.files.now in
    let later : FileState = g.F.Files.state c.loop-program.files in
    let faults : ℕ = (g.F.Files.state c.read_source.new.files).faults in
    let same = c.loop-program.invariant.same in
    let sound = g.met.F.Files.sound_observable c.args.files.now in
    let program : List ℕ = c.program-item.result in
    let p = err_from_is_err_and c.from_residual.result c.from_residual.ensures.1 in
    let refusal = c.in_err-source.field-0.0 in
    let is : c.from_residual.result ≡ Err refusal = cc (p.1, p.2) in
    let asked : AskedIsNotRead later faults (AsksSource later program) refusal = subst (λ n. AskedIsNotRead later faults (AsksSource later n) refusal) c.as_slice.ensures c.in_err-source.ensures.refused in
    of_error (λ (refusal : Refusal). AskedIsNotRead files faults (AsksSources files c.args.programs.now) refusal) is
    (still_asked files later same sound
    (λ name asks. asks_at files c.args.programs.now c.loop-program.sources.items c.loop-program.program-index program name c.loop-program-test.true c.loop-program.invariant.read c.program-item.is (still_asks_source files later same sound asks)) asked)

-- there is no memory for its texts
pub returns-in_default-clause-refused : goal.returns-in_default-clause-refused
returns-in_default-clause-refused g c =
    let files : FileState = g.F.Files.state c.args.files.now in
    let program : List ℕ = c.program-item.result in
    asked_wants program (asks_at files c.args.programs.now c.loop-program.sources.items c.loop-program.program-index program program c.loop-program-test.true c.loop-program.invariant.read c.program-item.is asks_own)

pub loop-program-preserved : goal.loop-program-preserved
loop-program-preserved g c =
    let files : FileState = g.F.Files.state c.args.files.now in
    let later : FileState = g.F.Files.state c.loop-program.files in
    let program : List ℕ = c.program-item.result in
    let sources : List (List NamedText) = c.loop-program.sources.items in
    let has : HasSource later program c.in_ok-source.source = subst (λ n. HasSource later n c.in_ok-source.source) c.as_slice.ensures c.in_ok-source.ensures.read in
    let more : HaveSources files (take (suc c.loop-program.program-index) c.args.programs.now) (sources ++ c.in_ok-source.source ∷ []) =
    have_source files c.args.programs.now sources c.loop-program.program-index program c.in_ok-source.source c.loop-program-test.true c.loop-program.invariant.read c.program-item.is
    (still_source files later c.loop-program.invariant.same (g.met.F.Files.sound_observable c.args.files.now) program c.in_ok-source.source has) in
    record {
      read =
          subst (λ n. HaveSources files (take n c.args.programs.now) c.push.new.self.items) (sym (add-one c.loop-program.program-index))
          (subst (λ texts. HaveSources files (take (suc c.loop-program.program-index) c.args.programs.now) texts) (sym c.in-Ok.ensures.items) more);
      same = same_further c.loop-program.invariant.same c.in_ok-source.ensures.same;
    }
