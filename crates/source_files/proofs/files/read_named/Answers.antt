-- The files are read one after the other.
use Rattle.std.proofs.Common.{◌++◌, ◌∷◌, [], suc, sym, subst, take, add-one}
use Rattle.host_io.specs.Files.{FileState}
use Rattle.run_report.specs.declared.refusal.Refusal.TheVariants.{NoMemory}
use Rattle.source_files.specs.Files.{HasText, HaveTexts, IsNotRead, reading_wants}
use Rattle.source_files.proofs.Causes.{same_further, still_has, still_not_read, have_more, one_unread}
use Rattle.source_files.proofs.files.read_named.Goals as goal

pub returns-in-Err-clause-refused : goal.returns-in-Err-clause-refused
returns-in-Err-clause-refused g c =
    let files : FileState = g.F.Files.state c.args.files.now in
    let later : FileState = g.F.Files.state c.loop-name.files in
    let faults = (g.F.Files.state c.read.new.files).faults in
    let h : IsNotRead later faults c.name-item.result c.in-Err.refusal = subst (λ n. IsNotRead later faults n c.in-Err.refusal) c.as_slice.ensures c.in-Err.ensures.refused in
    one_unread files faults c.args.names.now c.loop-name.texts.items c.loop-name.name-index c.name-item.result c.in-Err.refusal c.loop-name-test.true c.loop-name.invariant.read c.name-item.is
    (still_not_read files later c.loop-name.invariant.same (g.met.F.Files.sound_observable c.args.files.now) h)

-- there is no memory for its text
pub returns-in-Err-push-clause-refused : goal.returns-in-Err-push-clause-refused
returns-in-Err-push-clause-refused g c =
    one_unread (g.F.Files.state c.args.files.now) (g.F.Files.state c.read.new.files).faults c.args.names.now c.loop-name.texts.items c.loop-name.name-index c.name-item.result NoMemory c.loop-name-test.true c.loop-name.invariant.read c.name-item.is reading_wants

pub loop-name-preserved : goal.loop-name-preserved
loop-name-preserved g c =
    let files : FileState = g.F.Files.state c.args.files.now in
    let later : FileState = g.F.Files.state c.loop-name.files in
    let has : HasText later c.name-item.result c.in-Ok.text = subst (λ n. HasText later n c.in-Ok.text) c.as_slice.ensures c.in-Ok.ensures.text in
    let more : HaveTexts files (take (suc c.loop-name.name-index) c.args.names.now) (c.loop-name.texts.items ++ c.in-Ok.text ∷ []) =
    have_more files c.args.names.now c.loop-name.texts.items c.loop-name.name-index c.name-item.result c.in-Ok.text c.loop-name-test.true c.loop-name.invariant.read c.name-item.is
    (still_has files later c.loop-name.invariant.same (g.met.F.Files.sound_observable c.args.files.now) has) in
    record {
      read =
          subst (λ n. HaveTexts files (take n c.args.names.now) c.push.new.self.items) (sym (add-one c.loop-name.name-index))
          (subst (λ texts. HaveTexts files (take (suc c.loop-name.name-index) c.args.names.now) texts) (sym c.in-Ok-push.ensures.items) more);
      same = same_further c.loop-name.invariant.same c.in-Ok.ensures.same;
    }
