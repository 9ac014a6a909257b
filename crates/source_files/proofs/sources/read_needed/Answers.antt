-- The texts are read one after the other, each where those before it ask for it.
use Rattle.std.proofs.Common.{◌≡◌, ◌<◌, ◌+◌, ◌++◌, ◌∷◌, [], ℕ, List, inl, inr, ap, ◌∙◌, length, arith, length-append}
use Rattle.host_io.specs.Files.{FileState}
use Rattle.preprocessor.specs.declared.texts.NamedText.{NamedText}
use Rattle.source_files.proofs.Causes.{same_files, same_further, still_asked, still_asks_needed, still_has}
use Rattle.source_files.proofs.Parts.{part_all, part_first, part_more, short_first, short_more}
use Rattle.source_files.proofs.sources.read_needed.Goals as goal

pub reading-init : goal.reading-init
reading-init g c =
    let files : FileState = g.F.Files.state c.args.files.now in
    let own : NamedText = c.args.own in
    let first : c.push.new.self ≡ own ∷ [] = c.in-Ok.ensures.ok ∙ ap (λ (ts : List NamedText). ts ++ own ∷ []) c.empty-texts.ensures in
    record {
      short = short_first own c.push.new.self first c.requires;
      same = same_files files;
      part = part_first files own c.push.new.self first;
    }

pub reading-preserved : goal.reading-preserved
reading-preserved g c =
    let files : FileState = g.F.Files.state c.args.files.now in
    let later : FileState = g.F.Files.state c.reading.files in
    let same = c.reading.invariant.same in
    let sound = g.met.F.Files.sound_observable c.args.files.now in
    let texts : List NamedText = c.reading.texts in
    let step = rw c.in-Ok-Goes.field-0-is at c.in-Ok-Goes.ensures.read in
    record {
      short = short_more texts c.in-Ok-Goes.longer step.0 c.reading.invariant.short step.3.short step.1;
      same = same_further same c.in-Ok-Goes.ensures.same;
      part = part_more files c.args.own texts c.in-Ok-Goes.longer step.0 c.reading.invariant.part step.2 (still_has files later same sound step.3) step.1;
    }

pub reading-smaller : goal.reading-smaller
reading-smaller g c =
    let texts : List NamedText = c.reading.texts in
    let step = rw c.in-Ok-Goes.field-0-is at c.in-Ok-Goes.ensures.read in
    let more : length c.in-Ok-Goes.longer ≡ length texts + 1 = ap length step.1 ∙ length-append texts (step.0 ∷ []) in
    let few : length texts < 4294967295 = omega (arith, c.len.ensures, c.reading-test.true) in
    omega (arith, more, few)

pub read_one-requires : goal.read_one-requires
read_one-requires g c = record { few = omega (arith, c.len.ensures, c.reading-test.true); short = c.reading.invariant.short }

pub returns-in-Ok-Ends-clause-read : goal.returns-in-Ok-Ends-clause-read
returns-in-Ok-Ends-clause-read g c =
    let step = rw c.in-Ok-Ends.field-0-is at c.in-Ok-Ends.ensures.read in
    part_all (g.F.Files.state c.args.files.now) c.args.own c.reading.texts c.in-Ok-Ends.source c.reading.invariant.part step.0 step.1

pub returns-in-Err-clause-refused : goal.returns-in-Err-clause-refused
returns-in-Err-clause-refused g c =
    let files : FileState = g.F.Files.state c.args.files.now in
    let later : FileState = g.F.Files.state c.reading.files in
    let same = c.reading.invariant.same in
    let sound = g.met.F.Files.sound_observable c.args.files.now in
    elim c.in-Err.ensures.refused [
      | inl wants ↦ inl wants
      | inr asked ↦ inr (still_asked files later same sound (λ name asks. c.reading.invariant.part.asks name (still_asks_needed files later same sound asks)) asked)
    ]
