-- What a text of `printf` comes to: parts of text, and numbers between them.
use Rattle.std.specs.Prelude.{ℕ, List, [], ◌∷◌, ◌++◌, true, false, ◌==◌}
use Rattle.task_code.specs.declared.instr.PrintPart.{PrintPart}
use Rattle.task_code.specs.declared.instr.PrintPart.TheVariants as part

-- the parts of a text, with the bytes so far
abbrev pub text_part : List ℕ → List PrintPart → List PrintPart
text_part [] ps = ps
text_part (b ∷ bs) ps = part.Text (b ∷ bs) ∷ ps

abbrev mutual
  pub parts_of : List ℕ → List ℕ → List PrintPart
  parts_of so_far [] = text_part so_far []
  parts_of so_far (c ∷ cs) = elim (c == 37) [
    | true ↦ parts_after so_far cs
    | false ↦ parts_of (so_far ++ c ∷ []) cs
  ]

  pub parts_after : List ℕ → List ℕ → List PrintPart
  parts_after so_far [] = text_part so_far []
  parts_after so_far (c ∷ cs) = elim (c == 37) [
    | true ↦ parts_of (so_far ++ 37 ∷ []) cs
    | false ↦ elim (c == 108) [
      | true ↦ parts_after so_far cs
      | false ↦ text_part so_far (part.Number ∷ parts_of [] cs)
    ]
  ]
