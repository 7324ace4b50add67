-- The code of prints has marks.
use Rattle.std.proofs.Common.{◌≡◌, ℕ, suc, pos, List, [], ◌∷◌, Option, Some, refl, sym, ap, ◌∙◌, subst, true}
use Rattle.std.specs.Prelude.{length, replicate}
use Rattle.std.proofs.lemmas.List.{length-replicate}
use Rattle.check_rules.specs.rules.Formats.{numbers_in}
use Rattle.regent_tree.specs.Syntax.{Name, Expressions, no_expr, an_expr, print_form}
use Rattle.task_code.specs.declared.code.TaskCode.{TaskCode}
use Rattle.task_code.specs.declared.instr.Instr.TheVariants as instr
use Rattle.machine_terms.specs.Calls.{count_numbers}
use Rattle.code_rules.specs.Expressions.{count, exprs_code}
use Rattle.code_rules.specs.Prints.{parts_of}
use Rattle.code_rules.specs.Slots.{Where, typed}
use Rattle.code_rules.specs.Statements.{form_code}
use Rattle.code_laws.specs.Standing.{Stands}
use Rattle.code_laws.specs.Steps.{Forms}
use Rattle.code_laws.specs.Typed.{AreNumbers}
use Rattle.code_laws.proofs.Prints.{writes_format}
use Rattle.fit_rules.specs.Shapes.{Each, Shape, Numeric}
use Rattle.fit_rules.specs.Marks.{Mark, stacked}
use Rattle.fit_rules.specs.Fits.{Program}
use Rattle.fit_rules.specs.Sound.{Takes, does_print}
use Rattle.sound_code.specs.Named.{HasSlots}
use Rattle.sound_code.proofs.WholeTasks.{are_whole_expressions}
use Rattle.sound_code.specs.Ways.{Way, shape_of}
use Rattle.sound_code.proofs.Wholes.{Asks, asks_first, asks_second}
use Rattle.sound_code.proofs.Told.{ToldArgs, told_arg}
use Rattle.sound_code.proofs.Asked.{Asked}
use Rattle.sound_code.proofs.Calling.{onto, scalar_numeric, takes_pushed}
use Rattle.sound_code.proofs.Combining.{Marked, nothing_done, both, does}
use Rattle.sound_code.proofs.Expressions.{integer_is_plain}
use Rattle.sound_code.proofs.Statements.{Followed, unchanged, value_marked}

-- as many numbers are printed as the text asks for
printed_count : (format : List ℕ) (n : ℕ) → numbers_in format ≡ Some n → count_numbers (parts_of [] format) ≡ n
printed_count format n e =
    let long = length-replicate n (pos 0) in
    (writes_format [] format (replicate n (pos 0)) (e ∙ ap Some (sym long))).count ∙ long

module _ (g : Program) (t : TaskCode) (k slots : ℕ) (have : HasSlots t slots) (forms : Forms) (way : Way) (w : Where) (m : Mark)
    (asked : Asked g t k slots forms way w m) where
  abbrev shapes : Expressions → List Shape
  shapes no_expr = []
  shapes (an_expr e es) = shape_of (typed w e) ∷ shapes es

  shapes_long : (es : Expressions) → length (shapes es) ≡ count es
  shapes_long no_expr = refl
  shapes_long (an_expr e es) = ap suc (shapes_long es)

  shapes_numeric : (es : Expressions) → AreNumbers forms w es → Each Numeric (shapes es)
  shapes_numeric no_expr h = tt
  shapes_numeric (an_expr e es) h = (scalar_numeric _ (integer_is_plain _ h.0), shapes_numeric es h.2)

  numbers_marked : (es : Expressions) (us : List Shape) → AreNumbers forms w es → Asks forms.keeps (are_whole_expressions true w es) → ToldArgs way w.tree w.scope es → (pc : ℕ) →
      Stands t.body pc (exprs_code w 0 [] es) →
      Marked g t k (stacked m us) (exprs_code w 0 [] es) (stacked m (onto (shapes es) us))
  numbers_marked no_expr us h simple told pc st = nothing_done g t k _
  numbers_marked (an_expr e es) us h simple told pc st =
      let parts = told_arg w.tree w.scope way e es told in
      both g t k (value_marked g t k slots have forms way w m asked e us h.1 (asks_first _ _ _ simple) parts.0 pc st.0)
      (both g t k (nothing_done g t k _) (numbers_marked es (shape_of (typed w e) ∷ us) h.2 (asks_second _ _ _ simple) parts.1 _ st.1.1))

  pub print_marked : (alias : Option Name) (format : List ℕ) (es : Expressions) → AreNumbers forms w es → Asks forms.keeps (are_whole_expressions true w es) → ToldArgs way w.tree w.scope es → numbers_in format ≡ Some (count es) →
      (pc : ℕ) → Stands t.body pc (form_code w (print_form alias format es)) → Followed g t k forms.keeps way w.tree w.params w.scope.names m (form_code w (print_form alias format es))
  print_marked alias format es h simple told e pc st =
      let many = printed_count format (count es) e in
      let same : length (shapes es) ≡ count_numbers (parts_of [] format) = shapes_long es ∙ sym many in
      unchanged g t k forms.keeps way w.tree _ _ m _ asked.ready asked.scoped asked.cut (both g t k (numbers_marked es [] h simple told pc st.0)
      (does g t k (stacked m (onto (shapes es) [])) (instr.Print (parts_of [] format)) w.line []
      (does_print (parts_of [] format) _ (shapes es) [] (subst (λ y. Takes y (onto (shapes es) []) [] (shapes es) []) same
      (takes_pushed (shapes es) [] (shapes_numeric es h))) (shapes_numeric es h) same)))
