-- What the kernels make of lists of one length. Std's zip2 joins two lists item by item, and its
-- sel_l takes, place by place, the first list's item where a mask is set and else the second's.
use Rattle.std.specs.Prelude.{ℕ, ℤ, ◌==◌, not, Bool, List, bit_and, bit_or}
use Rattle.std.specs.Int.{w64, bit_not}
use Rattle.std.specs.List.{list_any}
use Rattle.std.specs.Simd.Lanes.{zip2}
use Rattle.lane_kernels.specs.Numbers.{applied}
use Rattle.lane_kernels.specs.declared.numbers.Op.{Op}
use Rattle.lane_kernels.specs.declared.numbers.Width.{Width}

-- each number with the one beside it folded in
abbrev pub folded : Op → Width → List ℤ → List ℤ → List ℤ
folded op width into from = zip2 (applied op width) into from

-- the bits that a word has and another has or hasn't, word by word
abbrev pub anded : List ℕ → List ℕ → List ℕ
anded into from = zip2 bit_and into from

abbrev pub ored : List ℕ → List ℕ → List ℕ
ored into from = zip2 bit_or into from

abbrev pub lessened : List ℕ → List ℕ → List ℕ
lessened into from = zip2 (λ a b. bit_and a (bit_not w64 b)) into from

-- whether two words beside each other share a bit
abbrev pub share_a_bit : List ℕ → List ℕ → Bool
share_a_bit a b = list_any (λ common. not (common == 0)) (zip2 bit_and a b)
