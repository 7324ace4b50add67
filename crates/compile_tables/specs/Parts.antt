-- The text of a print, a byte after the other.
use Rattle.std.specs.Prelude.{ℕ, Bool, true, false, List, [], ◌∷◌, ◌++◌}
use Rattle.task_code.specs.declared.instr.PrintPart.{PrintPart}
use Rattle.task_code.specs.declared.instr.PrintPart.TheVariants as part
use Rattle.code_rules.specs.Prints.{parts_of, parts_after, text_part}
use Rattle.compile_tables.specs.declared.parts.Piece.{Piece}
use Rattle.compile_tables.specs.declared.parts.Piece.TheVariants as piece

-- the parts from a place behind `%`, or else in the text
abbrev pub parts_at : Bool → List ℕ → List ℕ → List PrintPart
parts_at true text cs = parts_after text cs
parts_at false text cs = parts_of text cs

-- the parts of what a byte does and what follows it
abbrev pub parts_by : Piece → List ℕ → List ℕ → List PrintPart
parts_by piece.Silent text cs = parts_after text cs
parts_by (piece.Byte c) text cs = parts_of (text ++ c ∷ []) cs
parts_by piece.Number text cs = text_part text (part.Number ∷ parts_of [] cs)
