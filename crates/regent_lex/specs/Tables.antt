-- The tables of reserved words and of signs.
use Rattle.std.specs.Prelude.{ℕ, List, [], ◌∷◌, Option, bytes_eq, codes}
use Rattle.std.specs.Map.{lookup}
use Rattle.regent_lex.specs.declared.tables.Mark.{Mark}
use Rattle.regent_lex.specs.declared.tables.Mark.TheVariants as mark
use Rattle.regent_lex.specs.declared.tables.Word.{Word}
use Rattle.regent_lex.specs.declared.tables.Word.TheVariants as word

-- the reserved words
abbrev pub word_table : List (List ℕ × Word)
word_table =
    (codes "__demand", word.Demand) ∷ (codes "__index_launch", word.IndexLaunch)
    ∷ (codes "aliased", word.Aliased) ∷ (codes "and", word.And) ∷ (codes "bool", word.Bool)
    ∷ (codes "disjoint", word.Disjoint) ∷ (codes "do", word.Do)
    ∷ (codes "dynamic_cast", word.DynamicCast) ∷ (codes "else", word.Else)
    ∷ (codes "elseif", word.Elseif) ∷ (codes "end", word.End) ∷ (codes "equal", word.Equal)
    ∷ (codes "false", word.False) ∷ (codes "fill", word.Fill) ∷ (codes "for", word.For)
    ∷ (codes "fspace", word.Fspace) ∷ (codes "if", word.If) ∷ (codes "image", word.Image)
    ∷ (codes "import", word.Import) ∷ (codes "in", word.In) ∷ (codes "int", word.Int)
    ∷ (codes "int1d", word.Int1d) ∷ (codes "int32", word.Int32) ∷ (codes "int64", word.Int64)
    ∷ (codes "isnull", word.Isnull) ∷ (codes "ispace", word.Ispace) ∷ (codes "local", word.Local)
    ∷ (codes "max", word.Max) ∷ (codes "min", word.Min) ∷ (codes "not", word.Not)
    ∷ (codes "null", word.Null) ∷ (codes "or", word.Or) ∷ (codes "partition", word.Partition)
    ∷ (codes "preimage", word.Preimage) ∷ (codes "ptr", word.Ptr) ∷ (codes "reads", word.Reads)
    ∷ (codes "reduces", word.Reduces) ∷ (codes "regentlib", word.Regentlib)
    ∷ (codes "region", word.Region) ∷ (codes "return", word.Return) ∷ (codes "task", word.Task)
    ∷ (codes "then", word.Then) ∷ (codes "true", word.True) ∷ (codes "var", word.Var)
    ∷ (codes "where", word.Where) ∷ (codes "while", word.While) ∷ (codes "wild", word.Wild)
    ∷ (codes "writes", word.Writes) ∷ []

-- the signs
abbrev pub mark_table : List (List ℕ × Mark)
mark_table =
    (codes "(", mark.Open) ∷ (codes ")", mark.Close) ∷ (codes "[", mark.OpenSquare)
    ∷ (codes "]", mark.CloseSquare) ∷ (codes "{", mark.OpenBrace) ∷ (codes "}", mark.CloseBrace)
    ∷ (codes ",", mark.Comma) ∷ (codes ";", mark.Semicolon) ∷ (codes ":", mark.Colon)
    ∷ (codes ".", mark.Dot) ∷ (codes "=", mark.Assign) ∷ (codes "==", mark.Equal)
    ∷ (codes "~=", mark.NotEqual) ∷ (codes "<", mark.Less) ∷ (codes "<=", mark.AtMost)
    ∷ (codes ">", mark.Greater) ∷ (codes ">=", mark.AtLeast) ∷ (codes "+", mark.Plus)
    ∷ (codes "-", mark.Minus) ∷ (codes "*", mark.Star) ∷ (codes "/", mark.Slash)
    ∷ (codes "%", mark.Percent) ∷ (codes "+=", mark.PlusAssign) ∷ (codes "*=", mark.StarAssign)
    ∷ (codes "&", mark.Ampersand) ∷ (codes "|", mark.Bar) ∷ []

-- what the bytes are in the tables
unfoldable pub word_of : List ℕ → Option Word
word_of bytes = lookup (bytes_eq bytes) word_table

unfoldable pub mark_of : List ℕ → Option Mark
mark_of bytes = lookup (bytes_eq bytes) mark_table
