use Rattle.std.proofs.Common.{ap, ◌∙◌, ◌+◌, List, ℕ, length}
use Rattle.row_store.proofs.AnswersLemmas.Sizes.{size-Int, size-Int64, size-Dec, size-Date, size-Text}
use Rattle.row_store.proofs.answers.rows.field_size.Goals as goal

pub returns-in-Int64 : goal.returns-in-Int64
returns-in-Int64 c = size-Int64 _ _ c.in-Int64.is

pub returns-in-Dec : goal.returns-in-Dec
returns-in-Dec c = size-Dec _ _ c.in-Dec.is

pub returns-in-Int : goal.returns-in-Int
returns-in-Int c = size-Int _ _ c.in-Int.is

pub returns-in-Date : goal.returns-in-Date
returns-in-Date c = size-Date _ _ c.in-Date.is

pub returns-in-Text : goal.returns-in-Text
returns-in-Text c = ap (λ (xs : List ℕ). length xs + 3) c.as_slice.ensures ∙ size-Text _ _ c.in-Text.is
