-- Which words are reserved.
use Rattle.std.specs.Prelude.{ℕ, Bool, true, false, ◌&&◌, ◌==◌, List, [], ◌∷◌, Option, Some, None, codes, if◌then◌else◌}
use Rattle.std.specs.Char.{to_ascii_uppercase}
use Rattle.parse_tree.specs.declared.token.TokenKind.{TokenKind}
use Rattle.parse_tree.specs.declared.token.TokenKind.TheVariants.{And, Append, As, Assign, Available, Begins, Buffer, By, Character, Close, Create, Current, CurrentValue, Date, Day, Decimal, Define, Delete, Do, Each, Else, End, Endkey, Entry, Eq, Error, ErrorStatus, ExclusiveLock, Export, False, Find, First, For, Format, From, Ge, Gt, If, Import, Initial, Input, InputOutput, Int64, Integer, Label, Last, Le, Leave, Length, Locked, Logical, Lt, Message, Modulo, Month, Ne, Next, NextValue, No, NoError, NoLock, NoUndo, NoWait, Not, NumEntries, On, Or, Output, Parameter, Prev, Procedure, Put, Release, Repeat, Retry, Return, ReturnValue, Run, ShareLock, Skip, Space, Stop, Stream, String, Substring, Then, To, Transaction, True, Undo, Unformatted, UseIndex, Variable, Where, While, Year, Yes}
use Rattle.parse_tree.specs.declared.keyword.TheConstants.{RESERVED, ABBREVIATED}

-- the kinds of the reserved words
unfoldable pub reserved : List TokenKind
reserved = RESERVED

-- the kinds of those that have an abbreviation
unfoldable pub abbreviated : List TokenKind
abbreviated = ABBREVIATED

-- the reserved word in capitals
abbrev pub capitals : TokenKind → List ℕ
capitals And = codes "AND"
capitals Append = codes "APPEND"
capitals As = codes "AS"
capitals Assign = codes "ASSIGN"
capitals Available = codes "AVAILABLE"
capitals Begins = codes "BEGINS"
capitals Buffer = codes "BUFFER"
capitals By = codes "BY"
capitals Character = codes "CHARACTER"
capitals Close = codes "CLOSE"
capitals Create = codes "CREATE"
capitals Current = codes "CURRENT"
capitals CurrentValue = codes "CURRENT-VALUE"
capitals Date = codes "DATE"
capitals Day = codes "DAY"
capitals Decimal = codes "DECIMAL"
capitals Define = codes "DEFINE"
capitals Delete = codes "DELETE"
capitals Do = codes "DO"
capitals Each = codes "EACH"
capitals Else = codes "ELSE"
capitals End = codes "END"
capitals Endkey = codes "ENDKEY"
capitals Entry = codes "ENTRY"
capitals Eq = codes "EQ"
capitals Error = codes "ERROR"
capitals ErrorStatus = codes "ERROR-STATUS"
capitals ExclusiveLock = codes "EXCLUSIVE-LOCK"
capitals Export = codes "EXPORT"
capitals False = codes "FALSE"
capitals Find = codes "FIND"
capitals First = codes "FIRST"
capitals For = codes "FOR"
capitals Format = codes "FORMAT"
capitals From = codes "FROM"
capitals Ge = codes "GE"
capitals Gt = codes "GT"
capitals If = codes "IF"
capitals Import = codes "IMPORT"
capitals Initial = codes "INITIAL"
capitals Input = codes "INPUT"
capitals InputOutput = codes "INPUT-OUTPUT"
capitals Int64 = codes "INT64"
capitals Integer = codes "INTEGER"
capitals Label = codes "LABEL"
capitals Last = codes "LAST"
capitals Le = codes "LE"
capitals Leave = codes "LEAVE"
capitals Length = codes "LENGTH"
capitals Locked = codes "LOCKED"
capitals Logical = codes "LOGICAL"
capitals Lt = codes "LT"
capitals Message = codes "MESSAGE"
capitals Modulo = codes "MODULO"
capitals Month = codes "MONTH"
capitals Ne = codes "NE"
capitals Next = codes "NEXT"
capitals NextValue = codes "NEXT-VALUE"
capitals No = codes "NO"
capitals NoError = codes "NO-ERROR"
capitals NoLock = codes "NO-LOCK"
capitals NoUndo = codes "NO-UNDO"
capitals NoWait = codes "NO-WAIT"
capitals Not = codes "NOT"
capitals NumEntries = codes "NUM-ENTRIES"
capitals On = codes "ON"
capitals Or = codes "OR"
capitals Output = codes "OUTPUT"
capitals Parameter = codes "PARAMETER"
capitals Prev = codes "PREV"
capitals Procedure = codes "PROCEDURE"
capitals Put = codes "PUT"
capitals Release = codes "RELEASE"
capitals Repeat = codes "REPEAT"
capitals Retry = codes "RETRY"
capitals Return = codes "RETURN"
capitals ReturnValue = codes "RETURN-VALUE"
capitals Run = codes "RUN"
capitals ShareLock = codes "SHARE-LOCK"
capitals Skip = codes "SKIP"
capitals Space = codes "SPACE"
capitals Stop = codes "STOP"
capitals Stream = codes "STREAM"
capitals String = codes "STRING"
capitals Substring = codes "SUBSTRING"
capitals Then = codes "THEN"
capitals To = codes "TO"
capitals Transaction = codes "TRANSACTION"
capitals True = codes "TRUE"
capitals Undo = codes "UNDO"
capitals Unformatted = codes "UNFORMATTED"
capitals UseIndex = codes "USE-INDEX"
capitals Variable = codes "VARIABLE"
capitals Where = codes "WHERE"
capitals While = codes "WHILE"
capitals Year = codes "YEAR"
capitals Yes = codes "YES"
capitals _ = []

-- its abbreviation in capitals
abbrev pub abbreviation : TokenKind → List ℕ
abbreviation Available = codes "AVAIL"
abbreviation Character = codes "CHAR"
abbreviation Decimal = codes "DEC"
abbreviation Define = codes "DEF"
abbreviation ExclusiveLock = codes "EXCLUSIVE"
abbreviation Initial = codes "INIT"
abbreviation Integer = codes "INT"
abbreviation Logical = codes "LOG"
abbreviation Parameter = codes "PARAM"
abbreviation Procedure = codes "PROCE"
abbreviation ShareLock = codes "SHARE"
abbreviation Transaction = codes "TRANS"
abbreviation Variable = codes "VAR"
abbreviation _ = []

-- the word is these capitals, in any case
unfoldable pub spells : List ℕ → List ℕ → Bool
spells [] [] = true
spells [] (b ∷ bs) = false
spells (c ∷ cs) [] = false
spells (c ∷ cs) (b ∷ bs) = (c == to_ascii_uppercase b) && spells cs bs

-- the first of the kinds that the word spells in full
unfoldable pub spelled_in_full : List TokenKind → List ℕ → Option TokenKind
spelled_in_full [] word = None
spelled_in_full (k ∷ ks) word = if spells (capitals k) word then Some k else spelled_in_full ks word

-- the first of the kinds that the word abbreviates
unfoldable pub spelled_short : List TokenKind → List ℕ → Option TokenKind
spelled_short [] word = None
spelled_short (k ∷ ks) word = if spells (abbreviation k) word then Some k else spelled_short ks word

abbrev pub first_of : Option TokenKind → Option TokenKind → Option TokenKind
first_of None k = k
first_of (Some k) _ = Some k

-- the kind of a reserved word or an abbreviation
unfoldable pub keyword_of : List ℕ → Option TokenKind
keyword_of word = first_of (spelled_in_full reserved word) (spelled_short abbreviated word)
