-- What suits the mark from which a piece leads suits the mark of its first line, or the one behind it where it has none.
use Rattle.std.proofs.Common.{ℕ, List, [], ◌∷◌, ◌++◌}
use Rattle.std.specs.Prelude.{get_or}
use Rattle.task_code.specs.declared.code.TaskCode.{TaskCode}
use Rattle.code_rules.specs.Pieces.{Piece}
use Rattle.fit_rules.specs.Marks.{Mark, Into, stacked}
use Rattle.fit_rules.specs.Fits.{Program}
use Rattle.marked_code.specs.Marked.{Typed, typed_empty, typed_op, typed_both, typed_into, typed_from, typed_and, typed_or, typed_if, typed_branch, typed_loop, typed_rounds, typed_points}
use Rattle.marked_code.proofs.Placed.{into_then}

module _ (g : Program) (t : TaskCode) (k : ℕ) (d : Mark) where
  -- the first of marks, and the one behind
  abbrev first : List Mark → Mark → Mark
  first ms n = get_or (ms ++ n ∷ []) 0 d

  same : (m : Mark) → Into t.params m m
  same m x vs st s = s

  first_of_both : (ms ns : List Mark) (m n o : Mark) → Into t.params m (first ms n) → Into t.params n (first ns o) →
      Into t.params m (first (ms ++ ns) o)
  first_of_both [] ns m n o h i = into_then g t k m n (first ns o) h i
  first_of_both (x ∷ ms) ns m n o h i = h

  first_into : (ms : List Mark) (m n o : Mark) → Into t.params m (first ms n) → Into t.params n o → Into t.params m (first ms o)
  first_into [] m n o h i = into_then g t k m n o h i
  first_into (x ∷ ms) m n o h i = h

  pub begins_with : (m : Mark) (p : Piece) (ms : List Mark) (n : Mark) → Typed g t k m p ms n → Into t.params m (first ms n)
  begins_with _ _ _ _ (typed_empty m) = same m
  begins_with _ _ _ _ (typed_op m n i line l) = same m
  begins_with _ _ _ _ (typed_both m n o a b ms ns f h) =
      first_of_both ms ns m n o (begins_with m a ms n f) (begins_with n b ns o h)
  begins_with _ _ _ _ (typed_into m n o a ms f i lg) = first_into ms m n o (begins_with m a ms n f) i
  begins_with _ _ _ _ (typed_from l m n a ms i f lg) = into_then g t k l m (first ms n) i (begins_with m a ms n f)
  begins_with _ _ _ _ (typed_and m a ss line p ms e n f) = same m
  begins_with _ _ _ _ (typed_or m a ss line p ms e n f) = same m
  begins_with _ _ _ _ (typed_if m a ss line p ms e n f) = same m
  begins_with _ _ _ _ (typed_branch m n a ss line p q ms ns e nm f h) = same m
  begins_with _ _ _ _ (typed_loop m n a line test body ms ns f h e nm i) = same (stacked m m.stack)
  begins_with _ _ _ _ (typed_rounds m n c l v a b line body ms ec nc el nl hv r lg f) = same (stacked m m.stack)
  begins_with _ _ _ _ (typed_points m n s c v ptr line body ms ef hv r lg f) = same (stacked m m.stack)
