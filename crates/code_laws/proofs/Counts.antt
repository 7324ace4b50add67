-- How many numbers there are from one to below another.
use Rattle.std.proofs.Common.{◌≡◌, ℕ, zero, suc, ◌+◌, ◌-◌, ◌<◌, ◌≤◌, ℤ, pos, negsuc, ◌+ℤ◌, true, false, refl, ap, ◌∙◌, arith, ⊎_elim}
use Rattle.std.specs.Prelude.{int_lt, cond}
use Rattle.std.proofs.Math.IntN.{sub_ℕ}
use Rattle.std.proofs.lemmas.Bool.{lt-ltb, le-ltb, cases_lt}
use Rattle.regent_tree.specs.Numbers.{distance}
use Rattle.code_laws.specs.Typed.{CountsDown}

sub_low : (a b : ℕ) → a < b → sub_ℕ a b ≡ negsuc (b - suc a)
sub_low a b h = ap (λ c. cond c (negsuc (b - suc a)) (pos (a - b))) (lt-ltb a b h)

sub_high : (a b : ℕ) → b ≤ a → sub_ℕ a b ≡ pos (a - b)
sub_high a b h = ap (λ c. cond c (negsuc (b - suc a)) (pos (a - b))) (le-ltb a b h)

-- a difference of naturals, and 0 where it is below that
cut : (a b : ℕ) → elim (sub_ℕ a b) as (λ z. ℕ) [ pos n ↦ n | negsuc n ↦ 0 ] ≡ a - b
cut a b = ⊎_elim
    (λ h. let none : 0 ≡ a - b = omega (arith, h) in
    ap (λ z. elim z as (λ z. ℕ) [ pos n ↦ n | negsuc n ↦ 0 ]) (sub_low a b h) ∙ none)
    (λ h. ap (λ z. elim z as (λ z. ℕ) [ pos n ↦ n | negsuc n ↦ 0 ]) (sub_high a b h))
    (cases_lt a b)

from_pos : (a b : ℕ) → distance (pos a) (pos b) ≡ b - a
from_pos zero b = omega arith
from_pos (suc a) b = cut b (suc a)

pos_to_neg : (a b : ℕ) → distance (pos a) (negsuc b) ≡ 0
pos_to_neg zero b = let none : 0 - suc b ≡ 0 = omega arith in cut 0 (suc b) ∙ none
pos_to_neg (suc a) b = refl

between_neg : (a b : ℕ) → distance (negsuc a) (negsuc b) ≡ a - b
between_neg a b = let same : suc a - suc b ≡ a - b = omega arith in cut (suc a) (suc b) ∙ same

after_neg : (a : ℕ) → negsuc (suc a) +ℤ pos 1 ≡ negsuc a
after_neg a =
    let same : suc (suc a) - 2 ≡ a = omega arith in
    sub_low 1 (suc (suc a)) (omega arith) ∙ ap negsuc same

none_left : (a b : ℤ) → distance a b ≡ 0 → int_lt a b ≡ false
none_left (pos a) (pos b) e = le-ltb a b (omega (arith, e, from_pos a b))
none_left (pos a) (negsuc b) e = refl
none_left (negsuc a) (pos b) e = let n : b + suc a ≡ 0 = e in absurd (omega (arith, n))
none_left (negsuc a) (negsuc b) e = le-ltb b a (omega (arith, e, between_neg a b))

some_left : (k : ℕ) (a b : ℤ) → distance a b ≡ suc k →
    (int_lt a b ≡ true) × (distance (a +ℤ pos 1) b ≡ k)
some_left k (pos a) (pos b) e =
    let d = from_pos a b in
    let n : b - (a + 1) ≡ k = omega (arith, e, d) in
    (lt-ltb a b (omega (arith, e, d)), from_pos (a + 1) b ∙ n)
some_left k (pos a) (negsuc b) e = absurd (omega (arith, e, pos_to_neg a b))
some_left k (negsuc zero) (pos b) e =
    let s : b + 1 ≡ suc k = e in
    let n : b - 0 ≡ k = omega (arith, s) in
    (refl, from_pos 0 b ∙ n)
some_left k (negsuc (suc a)) (pos b) e =
    let s : b + suc (suc a) ≡ suc k = e in
    let n : b + suc a ≡ k = omega (arith, s) in
    (refl, ap (λ z. distance z (pos b)) (after_neg a) ∙ n)
some_left k (negsuc zero) (negsuc b) e = absurd (omega (arith, e, between_neg 0 b))
some_left k (negsuc (suc a)) (negsuc b) e =
    let d = between_neg (suc a) b in
    let n : a - b ≡ k = omega (arith, e, d) in (
      lt-ltb b (suc a) (omega (arith, e, d)),
      ap (λ z. distance z (negsuc b)) (after_neg a) ∙ between_neg a b ∙ n,
    )

pub counts_down : CountsDown
counts_down = record { none = none_left; some = some_left }
