-- A quoted text, read byte by byte.
use Rattle.std.proofs.Common.{ℕ, List, ◌++◌, Option, Some, None}
use Rattle.schema_lines.specs.Lines.{Quote}

-- what stands after a quoted text
abbrev pub rest_of : Option Quote → Option (List ℕ)
rest_of None = None
rest_of (Some q) = Some q.rest

-- these bytes before a quoted text
abbrev pub onto : List ℕ → Option Quote → Option Quote
onto xs None = None
onto xs (Some q) = Some (record { text = xs ++ q.text; rest = q.rest })
