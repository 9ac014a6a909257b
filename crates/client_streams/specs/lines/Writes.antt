-- What a call answers that makes the text of a statement.
use Rattle.std.specs.Prelude.{◌≡◌, ℕ, List, Option, Some, None, Result, Ok, Err}
use Rattle.abl_base.specs.declared.value.Value.{Value}
use Rattle.abl_values.specs.Texts.{plain_text, export_text}
use Rattle.value_formats.specs.Masked.{masked}
use Rattle.evaluator.specs.declared.fault.EvalFault.{EvalFault}
use Rattle.evaluator.specs.declared.fault.EvalFault.TheVariants.{Fault, NoMemory}
use Rattle.block_meaning.specs.Lines.{complaint_of}
use Rattle.block_meaning.specs.Values.{EvaluatedAll, GivesAll, FailsAll, Text, IsText, HasFault, before_text}
use Rattle.client_streams.specs.declared.lines.values.Form.{Form}
use Rattle.client_streams.specs.declared.lines.values.Form.TheVariants.{Plain, Export}

-- the text of a value in this form
abbrev pub text_in : Form → Value → List ℕ
text_in Plain v = plain_text v
text_in Export v = export_text v

-- the text of an item of PUT
abbrev pub item_text : Option (List ℕ) → Value → List ℕ
item_text None v = plain_text v
item_text (Some mask) v = masked mask v

-- the call answers the text or its fault, or there is no memory
abbrev pub WritesText : Result (List ℕ) EvalFault → Text → Type 0
WritesText (Ok text) wanted = wanted ≡ IsText text
WritesText (Err (Fault fault)) wanted = wanted ≡ HasFault (complaint_of fault)
WritesText (Err NoMemory) wanted = Unit {0}

-- the line of values, unless one fails
abbrev pub line_text : (List Value → List ℕ) → EvaluatedAll → Text
line_text line (GivesAll vs) = IsText (line vs)
line_text line (FailsAll c) = HasFault c

-- the call appends the text of an item, where PUT writes `all` from it on and `more` after it; or it answers the fault of the item
abbrev pub WritesItem : Result (Unit {0}) EvalFault → List ℕ → List ℕ → Text → Text → Type 0
WritesItem (Ok done) old new all more = before_text old all ≡ before_text new more
WritesItem (Err (Fault fault)) old new all more = all ≡ HasFault (complaint_of fault)
WritesItem (Err NoMemory) old new all more = Unit {0}
