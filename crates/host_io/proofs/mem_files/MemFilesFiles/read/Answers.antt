use Rattle.std.proofs.Common.{◌≡◌, inl, refl, ap, ◌∙◌, subst, ℕ, List, Contains}
use Rattle.storage.specs.faults.Faults.{counted}
use Rattle.host_io.specs.MemFiles.{Folder}
use Rattle.host_io.proofs.mem_files.MemFilesFiles.read.Goals as goal

pub returns-then-is_among-clause-failed : goal.returns-then-is_among-clause-failed
returns-then-is_among-clause-failed c =
    let listed : c.deref.result.now ≡ c.args.self.now.fails = c.deref.ensures.value ∙ ap (λ (f : Folder). f.fails) c.self.view_is in
    let number : c.saturating_add-self-inside.result ≡ counted c.args.self.now.calls = c.saturating_add-self-inside.ensures ∙ ap (λ (f : Folder). counted f.calls) c.self.view_is in
    let due = c.is_among.ensures.0 c.if-is_among.true in
    let due_now : Contains c.args.self.now.fails (counted c.args.self.now.calls) =
    subst (λ (n : ℕ). Contains c.args.self.now.fails n) number (subst (λ (l : List ℕ). Contains l c.saturating_add-self-inside.result) listed due) in
    (λ _. inl due_now, λ _. refl)
