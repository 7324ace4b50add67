-- Folds with one operator swap.
use Rattle.std.proofs.Common.{◌∙◌, ap, sym, ℤ}
use Rattle.std.proofs.lemmas.Int.{SFits-int_wrap, int_wrap_fits}
use Rattle.lane_kernels.specs.Numbers.{FitsWidth, applied, std_width, wrapped}
use Rattle.lane_kernels.specs.declared.numbers.Width.{Width}
use Rattle.lane_kernels.proofs.Operators.{associative, closed, commutative}
use Rattle.regent_boards.specs.Folds.{FoldsAreApplied, FoldsSwap}

fits : (w : Width) (z : ℤ) → FitsWidth w (wrapped w z)
fits w z = SFits-int_wrap (std_width w) z

pub folds_swap : FoldsSwap
folds_swap op w x a b =
    ap (λ z. applied op w z (wrapped w b)) (int_wrap_fits (std_width w) _ (closed op w (wrapped w x) (wrapped w a)))
    ∙ associative op w (wrapped w x) (wrapped w a) (wrapped w b) (fits w x) (fits w a) (fits w b)
    ∙ ap (applied op w (wrapped w x)) (commutative op w (wrapped w a) (wrapped w b) (fits w a) (fits w b))
    ∙ sym (associative op w (wrapped w x) (wrapped w b) (wrapped w a) (fits w x) (fits w b) (fits w a))
    ∙ sym (ap (λ z. applied op w z (wrapped w a)) (int_wrap_fits (std_width w) _ (closed op w (wrapped w x) (wrapped w b))))

pub folds_are_applied : FoldsAreApplied
folds_are_applied op w x a f g = ap (λ z. applied op w z (wrapped w a)) (int_wrap_fits (std_width w) x f) ∙ ap (applied op w x) (int_wrap_fits (std_width w) a g)
