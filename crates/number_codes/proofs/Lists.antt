-- Each list is told by its number.
use Rattle.std.proofs.Common.{◌≡◌, ◌∙◌, ◌+◌, ◌*◌, ◌/◌, ◌%◌, ◌^◌, ◌∷◌, ◌<◌, ◌≤◌, List, [], ap, arith, cond, eq-eqb, le_refl, mul_right_comm, ne_eqb, pow-suc, refl, suc, zero, ℕ}
use Rattle.number_codes.specs.Lists.{ListsTell, list_code, halved, listed, once_more}

pub twice : (a m : ℕ) → 2 ^ suc a * (2 * m + 1) ≡ 2 ^ a * (2 * m + 1) * 2
twice a m = ap (λ z. z * (2 * m + 1)) (pow-suc 2 a) ∙ mul_right_comm (2 ^ a) 2 (2 * m + 1)

half_of : (n x : ℕ) → n ≡ x * 2 → n / 2 ≡ x
half_of n x e = omega (arith, e)

even : (n x : ℕ) → n ≡ x * 2 → ¬ (n % 2 ≡ 1)
even n x e z = omega (arith, e, z)

odd : (n m : ℕ) → n ≡ 2 * m + 1 → n % 2 ≡ 1
odd n m e = omega (arith, e)

half_of_odd : (n m : ℕ) → n ≡ 2 * m + 1 → n / 2 ≡ m
half_of_odd n m e = omega (arith, e)

pub halves : (f a m n : ℕ) → n ≡ 2 ^ a * (2 * m + 1) → a < f → halved f n ≡ record { times = a; left = m }
halves zero a m n e h = absurd (omega (arith, h))
halves (suc f) zero m n e h =
    ap (λ b. cond b (record { times = 0; left = n / 2 }) (once_more (halved f (n / 2)))) (eq-eqb (n % 2) 1 (odd n m (omega (arith, e))))
    ∙ (λ i. record { times = 0; left = half_of_odd n m (omega (arith, e)) i })
halves (suc f) (suc a) m n e h =
    ap (λ b. cond b (record { times = 0; left = n / 2 }) (once_more (halved f (n / 2)))) (ne_eqb (n % 2) 1 (even n (2 ^ a * (2 * m + 1)) (e ∙ twice a m)))
    ∙ ap once_more (halves f a m (n / 2) (half_of n (2 ^ a * (2 * m + 1)) (e ∙ twice a m)) (omega (arith, h)))

grows : (a : ℕ) → suc a ≤ 2 ^ a
grows zero = omega arith
grows (suc a) = let h = grows a in let e = pow-suc 2 a in omega (arith, h, e)

at_least : (x y : ℕ) → 1 ≤ x → y ≤ x * y
at_least zero y h = absurd (omega (arith, h))
at_least (suc x) y h = omega arith

pub first_below : (a m : ℕ) → a < 2 ^ a * (2 * m + 1)
first_below a m = let h = grows a in let k : 2 ^ a ≤ 2 ^ a * (2 * m + 1) = below (2 ^ a) m in omega (arith, h, k)
  where
    below : (x m : ℕ) → x ≤ x * (2 * m + 1)
    below x m = omega arith

rest_below : (a m : ℕ) → m < 2 ^ a * (2 * m + 1)
rest_below a m = let h = grows a in let k = at_least (2 ^ a) (2 * m + 1) (omega (arith, h)) in omega (arith, k)

lists : (f : ℕ) (xs : List ℕ) → list_code xs ≤ f → listed f (list_code xs) ≡ xs
lists zero [] h = refl
lists (suc f) [] h = refl
lists zero (a ∷ xs) h = let k = first_below a (list_code xs) in absurd (omega (arith, h, k))
lists (suc f) (a ∷ xs) h =
    ap (λ b. cond b [] ((halved n n).times ∷ listed f (halved n n).left)) (ne_eqb n 0 (λ z. omega (arith, z, first)))
    ∙ (λ i. (parts i).times ∷ listed f (parts i).left)
    ∙ ap (λ ys. a ∷ ys) (lists f xs (omega (arith, h, rest)))
  where
    n : ℕ
    n = 2 ^ a * (2 * list_code xs + 1)

    first : a < 2 ^ a * (2 * list_code xs + 1)
    first = first_below a (list_code xs)

    rest : list_code xs < 2 ^ a * (2 * list_code xs + 1)
    rest = rest_below a (list_code xs)

    parts : halved n n ≡ record { times = a; left = list_code xs }
    parts = halves n a (list_code xs) n refl first

pub lists_tell : ListsTell
lists_tell xs = lists (list_code xs) xs (le_refl (list_code xs))
