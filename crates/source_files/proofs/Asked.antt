-- Over files that are observable it is determined which texts a source has, and for which files a reading asks.
use Rattle.std.proofs.Common.{◌≡◌, ◌≤◌, ◌<◌, ◌⊎◌, ℕ, List, [], ◌∷◌, ◌++◌, Option, Some, None, refl, sym, ap, ◌∙◌, subst, length, arith, inl, inr}
use Rattle.std.specs.Prelude.{IsTrue}
use Rattle.host_io.specs.Files.{FileState, IsLonger}
use Rattle.command_arguments.specs.CommandLine.{ClientFiles}
use Rattle.preprocessor.specs.declared.texts.NamedText.{NamedText}
use Rattle.preprocessor.specs.declared.texts.Outcome.{Outcome}
use Rattle.preprocessor.specs.declared.texts.Outcome.TheVariants.{Gives, Breaks, Needs}
use Rattle.preprocessor.specs.Expansion.{expansion}
use Rattle.run_report.specs.declared.refusal.Refusal.{Refusal}
use Rattle.run_report.specs.declared.refusal.Refusal.TheVariants.{NoMemory}
use Rattle.source_files.specs.declared.files.TheConstants.{MAX_FILE_BYTES}
use Rattle.source_files.specs.declared.files.ClientTexts.{ClientTexts}
use Rattle.source_files.specs.Expansions.{AsksForNone}
use Rattle.source_files.specs.Files.{HasText, HasInput, HasClient, HaveClients, HasSource, HaveSources, Needed, IsNotRead, is_missing, is_too_long, reading_wants}
use Rattle.source_files.specs.Files.{AsksNeeded, asks_now, asks_later, AsksSource, asks_own, asks_needed, AsksSources, asks_this_source, asks_later_source, AsksClient, asks_source, asks_input, AsksClients, asks_this_client, asks_later_client}

text_eq : (t u : NamedText) → t.name ≡ u.name → t.bytes ≡ u.bytes → t ≡ u
text_eq t u names bytes =
    ap (λ (x : List ℕ). let r : NamedText = record { name = x; bytes = t.bytes } in r) names
    ∙ ap (λ (x : List ℕ). let r : NamedText = record { name = u.name; bytes = x } in r) bytes

client_eq : (t u : ClientTexts) → t.source ≡ u.source → t.input ≡ u.input → t ≡ u
client_eq t u sources inputs =
    ap (λ (x : List NamedText). let r : ClientTexts = record { source = x; input = t.input } in r) sources
    ∙ ap (λ (x : List ℕ). let r : ClientTexts = record { source = u.source; input = x } in r) inputs

asks_none : (o : Outcome) (name : List ℕ) → AsksForNone o → o ≡ Needs name → ⊥
asks_none (Gives marks state) name none is = cc
asks_none (Breaks rule text place) name none is = cc
asks_none (Needs other) name none is = none

same_name : (o : Outcome) (a b : List ℕ) → o ≡ Needs a → o ≡ Needs b → a ≡ b
same_name o a b p q = cc

module _ (files : FileState) (observable : IsTrue files.observable) where
  pub one_text : (name a b : List ℕ) → HasText files name a → HasText files name b → a ≡ b
  one_text name a b p q =
      let x = p.content observable in
      let y = q.content observable in
      cc (x, y)

  one_named : (t u : NamedText) → t.name ≡ u.name → HasText files t.name t.bytes → HasText files u.name u.bytes → t ≡ u
  one_named t u names p q = text_eq t u names (one_text u.name t.bytes u.bytes (subst (λ n. HasText files n t.bytes) names p) q)

  -- ---- which texts

  one_needed : (texts a b : List NamedText) → Needed files texts a → Needed files texts b → a ≡ b
  one_needed texts [] [] p q = refl
  one_needed texts [] (u ∷ b) p q = absurd (asks_none (expansion texts) u.name p q.0)
  one_needed texts (t ∷ a) [] p q = absurd (asks_none (expansion texts) t.name q p.0)
  one_needed texts (t ∷ a) (u ∷ b) p q =
      let same : t ≡ u = one_named t u (same_name (expansion texts) t.name u.name p.0 q.0) p.1 q.1 in
      let more : a ≡ b = one_needed (texts ++ u ∷ []) a b (subst (λ (x : NamedText). Needed files (texts ++ x ∷ []) a) same p.2) q.2 in
      cc (same, more)

  -- a source has one list of texts
  pub one_source : (program : List ℕ) (a b : List NamedText) → HasSource files program a → HasSource files program b → a ≡ b
  one_source program [] b p q = absurd p
  one_source program (t ∷ a) [] p q = absurd q
  one_source program (t ∷ a) (u ∷ b) p q =
      let same : t ≡ u = text_eq t u (p.0 ∙ sym q.0) (one_text program t.bytes u.bytes p.1 q.1) in
      let more : a ≡ b = one_needed (u ∷ []) a b (subst (λ (x : NamedText). Needed files (x ∷ []) a) same p.2) q.2 in
      cc (same, more)

  pub one_sources : (programs : List (List ℕ)) (a b : List (List NamedText)) → HaveSources files programs a → HaveSources files programs b → a ≡ b
  one_sources [] [] [] p q = refl
  one_sources [] [] (u ∷ b) p q = absurd q
  one_sources [] (t ∷ a) b p q = absurd p
  one_sources (program ∷ programs) [] b p q = absurd p
  one_sources (program ∷ programs) (t ∷ a) [] p q = absurd q
  one_sources (program ∷ programs) (t ∷ a) (u ∷ b) p q =
      let first : t ≡ u = one_source program t u p.0 q.0 in
      let more : a ≡ b = one_sources programs a b p.1 q.1 in
      cc (first, more)

  one_input : (input : Option (List ℕ)) (a b : List ℕ) → HasInput files input a → HasInput files input b → a ≡ b
  one_input None a b p q = p ∙ sym q
  one_input (Some name) a b p q = one_text name a b p q

  pub one_client : (c : ClientFiles) (t u : ClientTexts) → HasClient files c t → HasClient files c u → t ≡ u
  one_client c t u p q = client_eq t u (one_source c.program t.source u.source p.0 q.0) (one_input c.input t.input u.input p.1 q.1)

  pub one_clients : (cs : List ClientFiles) (a b : List ClientTexts) → HaveClients files cs a → HaveClients files cs b → a ≡ b
  one_clients [] [] [] p q = refl
  one_clients [] [] (u ∷ b) p q = absurd q
  one_clients [] (t ∷ a) b p q = absurd p
  one_clients (c ∷ cs) [] b p q = absurd p
  one_clients (c ∷ cs) (t ∷ a) [] p q = absurd q
  one_clients (c ∷ cs) (t ∷ a) (u ∷ b) p q =
      let first : t ≡ u = one_client c t u p.0 q.0 in
      let more : a ≡ b = one_clients cs a b p.1 q.1 in
      cc (first, more)

  -- ---- the file that is asked for is there, where all were read

  there_needed : (texts more : List NamedText) {name : List ℕ} → Needed files texts more → AsksNeeded files texts name → (text : List ℕ) × HasText files name text
  there_needed texts [] {name} p (asks_now is) = absurd (asks_none (expansion texts) name p is)
  there_needed texts [] p (asks_later u is has asks) = absurd (asks_none (expansion texts) u.name p is)
  there_needed texts (t ∷ more) {name} p (asks_now is) = (t.bytes, subst (λ n. HasText files n t.bytes) (same_name (expansion texts) t.name name p.0 is) p.1)
  there_needed texts (t ∷ more) p (asks_later u is has asks) =
      let same : t ≡ u = one_named t u (same_name (expansion texts) t.name u.name p.0 is) p.1 has in
      there_needed (texts ++ u ∷ []) more (subst (λ (x : NamedText). Needed files (texts ++ x ∷ []) more) same p.2) asks

  pub there_source : {program name : List ℕ} (texts : List NamedText) → HasSource files program texts → AsksSource files program name → (text : List ℕ) × HasText files name text
  there_source [] p asks = absurd p
  there_source (t ∷ needed) p asks_own = (t.bytes, p.1)
  there_source {program} (t ∷ needed) p (asks_needed {bytes} has asks) =
      let u : NamedText = record { name = program; bytes = bytes } in
      let same : t ≡ u = text_eq t u p.0 (one_text program t.bytes bytes p.1 has) in
      there_needed (u ∷ []) needed (subst (λ (x : NamedText). Needed files (x ∷ []) needed) same p.2) asks

  pub there_sources : {programs : List (List ℕ)} {name : List ℕ} (sources : List (List NamedText)) → HaveSources files programs sources → AsksSources files programs name → (text : List ℕ) × HasText files name text
  there_sources [] p (asks_this_source asks) = absurd p
  there_sources [] p (asks_later_source texts has asks) = absurd p
  there_sources (texts ∷ more) p (asks_this_source asks) = there_source texts p.0 asks
  there_sources (texts ∷ more) p (asks_later_source other has asks) = there_sources more p.1 asks

  pub there_client : {c : ClientFiles} {name : List ℕ} (t : ClientTexts) → HasClient files c t → AsksClient files c name → (text : List ℕ) × HasText files name text
  there_client t p (asks_source asks) = there_source t.source p.0 asks
  there_client t p (asks_input texts has is) = (t.input, subst (λ input. HasInput files input t.input) is p.1)

  pub there_clients : {cs : List ClientFiles} {name : List ℕ} (ts : List ClientTexts) → HaveClients files cs ts → AsksClients files cs name → (text : List ℕ) × HasText files name text
  there_clients [] p (asks_this_client asks) = absurd p
  there_clients [] p (asks_later_client t has asks) = absurd p
  there_clients (t ∷ ts) p (asks_this_client asks) = there_client t p.0 asks
  there_clients (t ∷ ts) p (asks_later_client u has asks) = there_clients ts p.1 asks

  -- ---- why it was not read, where the files fail for a missing one alone

  module _ (sound : IsTrue files.sound) where
    -- a file that is there is read, if there is memory
    pub unread_there : {faults : ℕ} {name : List ℕ} {refusal : Refusal} (text : List ℕ) → HasText files name text → IsNotRead files faults name refusal → refusal ≡ NoMemory
    unread_there text has (is_missing rose missing) =
        let x = has.content observable in
        let y = missing sound in
        absurd (cc (x, y))
    unread_there text has (is_too_long longer) =
        let long : MAX_FILE_BYTES < length text = subst (λ file. IsLonger file MAX_FILE_BYTES) (has.content observable) (longer observable) in
        absurd (omega (arith, long, has.short))
    unread_there text has reading_wants = refl

    -- ---- at most one file that is not there is asked for

    one_asked_needed : {faults : ℕ} {texts : List NamedText} {name other : List ℕ} {why : Refusal} → ((text : List ℕ) → HasText files name text → ⊥) → IsNotRead files faults other why → AsksNeeded files texts name → AsksNeeded files texts other → (why ≡ NoMemory) ⊎ (name ≡ other)
    one_asked_needed {texts} {name} {other} lacks unread (asks_now is) (asks_now was) = inr (same_name (expansion texts) name other is was)
    one_asked_needed {texts} {name} {other} lacks unread (asks_now is) (asks_later u was has asks) = absurd (lacks u.bytes (subst (λ n. HasText files n u.bytes) (same_name (expansion texts) u.name name was is) has))
    one_asked_needed {texts} {name} {other} lacks unread (asks_later t is has asks) (asks_now was) = inl (unread_there t.bytes (subst (λ n. HasText files n t.bytes) (same_name (expansion texts) t.name other is was) has) unread)
    one_asked_needed {texts} {name} {other} lacks unread (asks_later t is has asks) (asks_later u was had asked) =
        let same : u ≡ t = one_named u t (same_name (expansion texts) u.name t.name was is) had has in
        one_asked_needed lacks unread asks (subst (λ (x : NamedText). AsksNeeded files (texts ++ x ∷ []) other) same asked)

    pub one_asked_source : {faults : ℕ} {program name other : List ℕ} {why : Refusal} → ((text : List ℕ) → HasText files name text → ⊥) → IsNotRead files faults other why → AsksSource files program name → AsksSource files program other → (why ≡ NoMemory) ⊎ (name ≡ other)
    one_asked_source lacks unread asks_own asks_own = inr refl
    one_asked_source lacks unread asks_own (asks_needed {bytes} has asks) = absurd (lacks bytes has)
    one_asked_source lacks unread (asks_needed {bytes} has asks) asks_own = inl (unread_there bytes has unread)
    one_asked_source {program} {other} lacks unread (asks_needed {bytes} has asks) (asks_needed {bytes = others} had asked) =
        one_asked_needed lacks unread asks (subst (λ (x : List ℕ). AsksNeeded files (record { name = program; bytes = x } ∷ []) other) (one_text program others bytes had has) asked)

    module _ {faults : ℕ} {name other : List ℕ} {why : Refusal} (lacks : (text : List ℕ) → HasText files name text → ⊥) (unread : IsNotRead files faults other why) where
      pub one_asked_sources : {programs : List (List ℕ)} → AsksSources files programs name → AsksSources files programs other → (why ≡ NoMemory) ⊎ (name ≡ other)
      one_asked_sources (asks_this_source asks) (asks_this_source asked) = one_asked_source lacks unread asks asked
      one_asked_sources (asks_this_source asks) (asks_later_source texts has asked) =
          let there = there_source texts has asks in
          absurd (lacks there.0 there.1)
      one_asked_sources (asks_later_source texts has asks) (asks_this_source asked) =
          let there = there_source texts has asked in
          inl (unread_there there.0 there.1 unread)
      one_asked_sources (asks_later_source texts has asks) (asks_later_source others had asked) = one_asked_sources asks asked

      pub one_asked_client : {c : ClientFiles} → AsksClient files c name → AsksClient files c other → (why ≡ NoMemory) ⊎ (name ≡ other)
      one_asked_client (asks_source asks) (asks_source asked) = one_asked_source lacks unread asks asked
      one_asked_client (asks_source asks) (asks_input texts has is) =
          let there = there_source texts has asks in
          absurd (lacks there.0 there.1)
      one_asked_client (asks_input texts has is) (asks_source asked) =
          let there = there_source texts has asked in
          inl (unread_there there.0 there.1 unread)
      one_asked_client (asks_input texts has is) (asks_input others had was) = inr (cc (is, was))

      pub one_asked_clients : {cs : List ClientFiles} → AsksClients files cs name → AsksClients files cs other → (why ≡ NoMemory) ⊎ (name ≡ other)
      one_asked_clients (asks_this_client asks) (asks_this_client asked) = one_asked_client asks asked
      one_asked_clients (asks_this_client asks) (asks_later_client t has asked) =
          let there = there_client t has asks in
          absurd (lacks there.0 there.1)
      one_asked_clients (asks_later_client t has asks) (asks_this_client asked) =
          let there = there_client t has asked in
          inl (unread_there there.0 there.1 unread)
      one_asked_clients (asks_later_client t has asks) (asks_later_client u had asked) = one_asked_clients asks asked
