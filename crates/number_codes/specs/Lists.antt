-- Lists of numbers as numbers, one number for each list. So the name of a root, by the place of its maker and
-- which of its roots it is, can be a number too.
use Rattle.std.specs.Prelude.{◌≡◌, ◌+◌, ◌*◌, ◌/◌, ◌%◌, ◌^◌, ◌∷◌, List, [], cond, nat_eq, suc, zero, ℕ}

-- the number of a list
abbrev pub list_code : List ℕ → ℕ
list_code [] = 0
list_code (a ∷ xs) = 2 ^ a * (2 * list_code xs + 1)

pub record Halved : Type 0 where
  pub times : ℕ
  pub left : ℕ

abbrev pub once_more : Halved → Halved
once_more h = record { times = suc h.times; left = h.left }

-- how often n is even, and half of what is left, looked for so many times
abbrev pub halved : ℕ → ℕ → Halved
halved zero n = record { times = 0; left = 0 }
halved (suc f) n = cond (nat_eq (n % 2) 1) (record { times = 0; left = n / 2 }) (once_more (halved f (n / 2)))

-- the list of a number, so many members at most
abbrev pub listed : ℕ → ℕ → List ℕ
listed zero n = []
listed (suc f) n = cond (nat_eq n 0) [] ((halved n n).times ∷ listed f (halved n n).left)

abbrev pub decoded_list : ℕ → List ℕ
decoded_list n = listed n n

-- each list is told by its number
abbrev pub ListsTell : Type 0
ListsTell = (xs : List ℕ) → decoded_list (list_code xs) ≡ xs
