-- The parts that the state in the middle of compiled code holds fit.
use Rattle.std.proofs.Common.{◌≡◌, ℕ, pos, List, [], ◌∷◌, Bool, true, false, ◌||◌, cond, Option, Some, None, refl, sym, ap, ◌∙◌, subst, arith}
use Rattle.std.specs.Prelude.{◌+ℤ◌, ◌==◌}
use Rattle.std.proofs.lemmas.Bool.{eqb-true, eqb-false, ne_eqb}
use Rattle.std.proofs.lemmas.Int.{ints}
use Rattle.lane_kernels.specs.declared.numbers.FieldKind.TheVariants.{Int32 as Narrow}
use Rattle.lane_kernels.specs.declared.numbers.Mode.TheVariants.{Read, Reduce, Write}
use Rattle.lane_kernels.specs.declared.numbers.Mode.{Mode}
use Rattle.lane_kernels.specs.declared.numbers.Op.TheVariants.{Sum}
use Rattle.lane_kernels.specs.declared.numbers.Width.TheVariants.{W32}
use Rattle.plain_values.specs.Points.{has}
use Rattle.region_tree.proofs.Joins.{modes_at-not}
use Rattle.region_tree.specs.declared.piece.Part.{Part}
use Rattle.region_tree.specs.Requirements.{mode_at, join_from, Requirement}
use Rattle.machine_terms.proofs.FitParts.{wrapped_fits}
use Rattle.machine_terms.specs.Parts.{cell_of, cell_at}
use Rattle.code_rules.specs.Programs.{code_of}
use Rattle.fit_rules.specs.Shapes.{integer, Shape, World}
use Rattle.fit_rules.specs.Marks.{Mark}
use Rattle.fit_rules.specs.Fits.{CellFits, claims, PartFits, Program, requires}
use Rattle.sound_code.specs.MiddleExample.{args_of, folded, held, middle_program, part, work_code, world_of}

module _ (positions : ℕ → ℕ → ℕ) (results : ℕ → Shape) (begins : ℕ → Mark) (marks : ℕ → ℕ → Mark) where
  abbrev g : Program
  g = record { code = code_of middle_program; positions = positions; results = results; begins = begins; marks = marks }

  -- ---- the parts

  module _ (i : ℕ) where
    abbrev x : World
    x = world_of i (args_of part)

    abbrev points_of : List ℕ
    points_of = 0 ∷ 1 ∷ []

    abbrev mode_of : ℕ → ℕ → Option Mode
    mode_of f y = mode_at (claims g x work_code) 3 f y

    abbrev own_two : List Requirement
    own_two = requires 5 points_of Write 0 ∷ requires 5 points_of Write 1 ∷ []

    no_mode : (y : ℕ) → has points_of y ≡ false → mode_of 0 y ≡ None
    no_mode y e = ap (join_from None)
        (modes_at-not (requires 3 points_of Read 0) (requires 3 points_of Write 0 ∷ requires 3 points_of (Reduce Sum) 1 ∷ own_two) 3 0 y e
        ∙ modes_at-not (requires 3 points_of Write 0) (requires 3 points_of (Reduce Sum) 1 ∷ own_two) 3 0 y e)

    no_sum : (y : ℕ) → has points_of y ≡ false → mode_of 1 y ≡ None
    no_sum y e = ap (join_from None) (modes_at-not (requires 3 points_of (Reduce Sum) 1) own_two 3 1 y e)

    -- what holds of each point of a part with a number at point 0 and at point 1, and of no other
    at_points : (P : ℕ → Type 0) → P 0 → P 1 → ((y : ℕ) → 0 == y ≡ false → 1 == y ≡ false → has points_of y ≡ false → P y) → (y : ℕ) → P y
    at_points P a b c y = at (0 == y) refl (1 == y) refl
      where
        at : (a : Bool) → 0 == y ≡ a → (b : Bool) → 1 == y ≡ b → P y
        at true e d f = subst P (eqb-true 0 y e) a
        at false e true f = subst P (eqb-true 1 y f) b
        at false e false f = c y e f (ap (λ d. d || ((y == 1) || false)) (ne_eqb y 0 (λ q. eqb-false 0 y e (sym q)))
            ∙ ap (λ d. d || false) (ne_eqb y 1 (λ q. eqb-false 1 y f (sym q))))

    -- there is no number elsewhere
    no_cell : (m : Mode) (n y : ℕ) → 0 == y ≡ false → 1 == y ≡ false →
        cell_at (record { points = 0 ∷ 1 ∷ []; mode = m; values = pos 0 ∷ pos n ∷ [] } ∷ []) y ≡ None
    no_cell m n y e f = ap (λ c. cell_of m (cond c (Some (pos 0)) (cond (1 == y) (Some (pos n)) None)) None) e
        ∙ ap (λ c. cell_of m (cond c (Some (pos n)) None) None) f

    abbrev Fitting : ℕ → Part → ℕ → Type 0
    Fitting f q y = CellFits Narrow (integer W32) (cell_at q.pieces y) (mode_of f y)

    pub held_fits : PartFits g x work_code 3 0 held
    held_fits = record {
      there = refl;
      kind = refl;
      cells = at_points (Fitting 0 held) (refl, omega (arith, ints)) (refl, omega (arith, ints))
          (λ y e f none. subst (λ o. CellFits Narrow (integer W32) o (mode_of 0 y)) (sym (no_cell Write 41 y e f))
          (subst (CellFits Narrow (integer W32) None) (sym (no_mode y none)) tt));
    }

    pub folded_fits : PartFits g x work_code 3 1 (folded 5)
    folded_fits = record {
      there = refl;
      kind = refl;
      cells = at_points (Fitting 1 (folded 5)) (refl, (omega (arith, ints), λ z h. wrapped_fits W32 (z +ℤ pos 0)))
          (refl, (omega (arith, ints), λ z h. wrapped_fits W32 (z +ℤ pos 5)))
          (λ y e f none. subst (λ o. CellFits Narrow (integer W32) o (mode_of 1 y)) (sym (no_cell (Reduce Sum) 5 y e f))
          (subst (CellFits Narrow (integer W32) None) (sym (no_sum y none)) tt));
    }
