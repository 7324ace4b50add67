-- Signed lanes, which a vector holds as their bits.
use Rattle.std.proofs.Common.{rules, ⊎_elim, negsuc, pos, ◌-◌, ◌/◌, int_lt, IsTrue, ◌↔◌, replicate, bit_and, ◌≡◌, ℕ, zero, suc, ◌+◌, ◌*◌, ◌%◌, ◌^◌, ◌≤◌, ◌<◌, List, [], ◌∷◌, length, map, slice_index_or, Bool, true, false, not, cond, ◌||◌, ◌==◌, nat_eq, ℤ, FitsSigned, to_z, of_z, w64, w32, ap, refl, sym, subst, ◌∙◌, arith}
use Rattle.std.proofs.lemmas.Bool.{cases_lt, eq-eqb, eqb-true, true≢false}
use Rattle.std.proofs.lemmas.Bool.Decides.{Decides-int_eq, same_from_decides}
use Rattle.std.proofs.lemmas.Int.{ints, clamps, int_wrap_fits, to_z_pos, wraps, to_z-of_z, SFits-int_wrap}
use Rattle.std.proofs.Math.Facts.{to_z-neg}
use Rattle.std.proofs.lemmas.List.{length-map}
use Rattle.std.proofs.lemmas.Nat.{and_mask, shl-shr}
use Rattle.std.proofs.lemmas.Simd.{length-sel_l, length-zip2, map-map, mask_l-mod, tops_compared, zip2_splat}
use Rattle.std.specs.Simd.Lanes.{top}
use Rattle.std.specs.Int.Signed.{shr_z}
use Rattle.std.specs.Simd.Lanes.{Each1, chunk, mask_l, sel_l, zip2}
use Rattle.std.specs.Ordering.{int_eq}
use Rattle.lane_kernels.proofs.Operators.{closed, wrap-max, wrap-min, wrapped-applied}
use Rattle.lane_kernels.proofs.Wraps.{wrapped-low_half}
use Rattle.lane_kernels.specs.Numbers.{applied, wrapped}
use Rattle.lane_kernels.specs.declared.numbers.Op.{Op}
use Rattle.lane_kernels.specs.declared.numbers.Op.TheVariants.{Sum, Product, Least, Greatest}
use Rattle.lane_kernels.specs.declared.numbers.Width.{Width}
use Rattle.lane_kernels.specs.declared.numbers.Width.TheVariants.{W32, W64}
use Rattle.lane_kernels.specs.Fronts.{AreLanes, differ, is_mark, mark_number, some_pair, updated}
use Rattle.lane_kernels.specs.Kernels.{share_a_bit}
use Rattle.lane_kernels.specs.declared.update.Update.{Update}
use Rattle.lane_kernels.specs.declared.update.Update.TheVariants.{Fold, Copy}

abbrev bits_of : List ℤ → List ℕ
bits_of xs = map (of_z w64) xs

abbrev numbers_of : List ℕ → List ℤ
numbers_of ns = map (to_z w64) ns

pub each_back : (xs : List ℤ) → Each1 (FitsSigned w64) xs → numbers_of (bits_of xs) ≡ xs
each_back [] f = refl
each_back (x ∷ xs) f = λ i. to_z-of_z w64 x f.0 i ∷ each_back xs f.1 i

pub lanes_back : (xs : List ℤ) → AreLanes xs → numbers_of (bits_of xs) ≡ xs
lanes_back xs l = each_back xs l.fit

pub lanes_again : (xs : List ℤ) → AreLanes xs → AreLanes (numbers_of (bits_of xs))
lanes_again xs l = subst AreLanes (sym (lanes_back xs l)) l

-- what an operator on bits makes of lanes, where it is known of two numbers
each_paired : (h : ℕ → ℕ → ℕ) (k : ℤ → ℤ → ℤ) → ((x y : ℤ) → FitsSigned w64 x → FitsSigned w64 y → to_z w64 (h (of_z w64 x) (of_z w64 y)) ≡ k x y)
    → (xs ys : List ℤ) → Each1 (FitsSigned w64) xs → Each1 (FitsSigned w64) ys → numbers_of (zip2 h (bits_of xs) (bits_of ys)) ≡ zip2 k xs ys
each_paired h k one [] ys f g = refl
each_paired h k one (x ∷ xs) [] f g = refl
each_paired h k one (x ∷ xs) (y ∷ ys) f g = λ i. one x y f.0 g.0 i ∷ each_paired h k one xs ys f.1 g.1 i

-- the same of an operator on one
each_changed : (h : ℕ → ℕ) (k : ℤ → ℤ) → ((x : ℤ) → FitsSigned w64 x → to_z w64 (h (of_z w64 x)) ≡ k x) → (xs : List ℤ) → Each1 (FitsSigned w64) xs → numbers_of (map h (bits_of xs)) ≡ map k xs
each_changed h k one [] f = refl
each_changed h k one (x ∷ xs) f = λ i. one x f.0 i ∷ each_changed h k one xs f.1 i

each_selected : (ms : List Bool) (xs ys : List ℤ) → Each1 (FitsSigned w64) xs → Each1 (FitsSigned w64) ys → numbers_of (sel_l ms (bits_of xs) (bits_of ys)) ≡ sel_l ms xs ys
each_selected [] xs ys f g = refl
each_selected (m ∷ ms) [] ys f g = refl
each_selected (m ∷ ms) (x ∷ xs) [] f g = refl
each_selected (true ∷ ms) (x ∷ xs) (y ∷ ys) f g = λ i. to_z-of_z w64 x f.0 i ∷ each_selected ms xs ys f.1 g.1 i
each_selected (false ∷ ms) (x ∷ xs) (y ∷ ys) f g = λ i. to_z-of_z w64 y g.0 i ∷ each_selected ms xs ys f.1 g.1 i

pub lanes_selected : (ms : List Bool) (xs ys : List ℤ) → AreLanes xs → AreLanes ys → numbers_of (sel_l ms (bits_of xs) (bits_of ys)) ≡ sel_l ms xs ys
lanes_selected ms xs ys l m = each_selected ms xs ys l.fit m.fit

-- a choice by a test of the bits
each_picked : (t : ℕ → ℕ → Bool) (k : ℤ → ℤ → ℤ) → ((x y : ℤ) → FitsSigned w64 x → FitsSigned w64 y → cond (t (of_z w64 x) (of_z w64 y)) x y ≡ k x y)
    → (xs ys : List ℤ) → Each1 (FitsSigned w64) xs → Each1 (FitsSigned w64) ys → sel_l (zip2 t (bits_of xs) (bits_of ys)) xs ys ≡ zip2 k xs ys
each_picked t k one [] ys f g = refl
each_picked t k one (x ∷ xs) [] f g = refl
each_picked t k one (x ∷ xs) (y ∷ ys) f g = λ i. one x y f.0 g.0 i ∷ each_picked t k one xs ys f.1 g.1 i

each_picked_back : (t : ℕ → ℕ → Bool) (k : ℤ → ℤ → ℤ) → ((x y : ℤ) → FitsSigned w64 x → FitsSigned w64 y → cond (t (of_z w64 x) (of_z w64 y)) y x ≡ k x y)
    → (xs ys : List ℤ) → Each1 (FitsSigned w64) xs → Each1 (FitsSigned w64) ys → sel_l (zip2 t (bits_of xs) (bits_of ys)) ys xs ≡ zip2 k xs ys
each_picked_back t k one [] ys f g = refl
each_picked_back t k one (x ∷ xs) [] f g = refl
each_picked_back t k one (x ∷ xs) (y ∷ ys) f g = λ i. one x y f.0 g.0 i ∷ each_picked_back t k one xs ys f.1 g.1 i

abbrev compared : List ℕ → List ℕ → List Bool
compared ms ns = map (top 63) (zip2 (λ m n. cond (int_lt (to_z w64 m) (to_z w64 n)) 18446744073709551615 0) ms ns)

each_fits : (k : ℤ → ℤ → ℤ) → ((x y : ℤ) → FitsSigned w64 x → FitsSigned w64 y → FitsSigned w64 (k x y))
    → (xs ys : List ℤ) → Each1 (FitsSigned w64) xs → Each1 (FitsSigned w64) ys → Each1 (FitsSigned w64) (zip2 k xs ys)
each_fits k one [] ys f g = tt
each_fits k one (x ∷ xs) [] f g = tt
each_fits k one (x ∷ xs) (y ∷ ys) f g = (one x y f.0 g.0, each_fits k one xs ys f.1 g.1)

-- a number of 32 bits is one of 64
wide : (z : ℤ) → FitsSigned w32 z → FitsSigned w64 z
wide z f = record { sfits = omega (arith, f.sfits) }

wrapped_fits : (w : Width) (z : ℤ) → FitsSigned w64 (wrapped w z)
wrapped_fits W32 z = wide (wrapped W32 z) (SFits-int_wrap w32 z)
wrapped_fits W64 z = SFits-int_wrap w64 z

updated_fits : (u : Update) (x y : ℤ) → FitsSigned w64 x → FitsSigned w64 y → FitsSigned w64 (updated u x y)
updated_fits (Fold op W32) x y f g = wide (applied op W32 x y) (closed op W32 x y)
updated_fits (Fold op W64) x y f g = closed op W64 x y
updated_fits Copy x y f g = g

pub lanes_updated : (u : Update) (xs ys : List ℤ) → AreLanes xs → AreLanes ys → AreLanes (zip2 (updated u) xs ys)
lanes_updated u xs ys l m = record {
  eight = length-zip2 (updated u) xs ys (l.eight ∙ sym m.eight) ∙ l.eight;
  fit = each_fits (updated u) (updated_fits u) xs ys l.fit m.fit;
}

-- what is left at a width of the results at 64 bits
each_wrapped : (op : Op) (w : Width) (xs ys : List ℤ) → map (wrapped w) (zip2 (applied op W64) xs ys) ≡ zip2 (applied op w) xs ys
each_wrapped op w [] ys = refl
each_wrapped op w (x ∷ xs) [] = refl
each_wrapped op w (x ∷ xs) (y ∷ ys) = λ i. wrapped-applied op w x y i ∷ each_wrapped op w xs ys i

pub lanes_wrapped : (op : Op) (w : Width) (xs ys : List ℤ) → map (wrapped w) (zip2 (applied op W64) xs ys) ≡ zip2 (updated (Fold op w)) xs ys
lanes_wrapped op w xs ys = each_wrapped op w xs ys

pub copied : (xs ys : List ℤ) → length xs ≡ length ys → zip2 (updated Copy) xs ys ≡ ys
copied [] [] e = refl
copied [] (y ∷ ys) e = absurd omega (arith, e)
copied (x ∷ xs) [] e = absurd omega (arith, e)
copied (x ∷ xs) (y ∷ ys) e = ap (λ zs. y ∷ zs) (copied xs ys omega (arith, e))

-- a list's next items, one by one
abbrev pub listed : {A : Type 0} → ℕ → ℕ → ℕ → List A → A → List A
listed zero k i xs d = []
listed (suc n) k i xs d = slice_index_or xs (i + k) d ∷ listed n (suc k) i xs d

next_item : {A : Type 0} (n j : ℕ) (ys : List A) (d : A) → j < length ys → chunk j (suc n) ys ≡ slice_index_or ys j d ∷ chunk (suc j) n ys
next_item n j [] d g = absurd omega (arith, g)
next_item n zero (y ∷ ys) d g = refl
next_item n (suc j) (y ∷ ys) d g = next_item n j ys d omega (arith, g)

chunk_listed : {A : Type 0} (n k i : ℕ) (xs : List A) (d : A) → i + k + n ≤ length xs → chunk (i + k) n xs ≡ listed n k i xs d
chunk_listed zero k i xs d h = refl
chunk_listed (suc n) k i xs d h =
    let next : suc (i + k) ≡ i + suc k = omega arith in
    next_item n (i + k) xs d omega (arith, h)
    ∙ ap (λ zs. slice_index_or xs (i + k) d ∷ zs) (ap (λ j. chunk j n xs) next ∙ chunk_listed n (suc k) i xs d omega (arith, h))

-- the next eight
abbrev pub eight_listed : {A : Type 0} → ℕ → List A → A → List A
eight_listed i xs d = slice_index_or xs i d ∷ listed 7 1 i xs d

pub chunk_eight_listed : {A : Type 0} (i : ℕ) (xs : List A) (d : A) → i + 8 ≤ length xs → chunk i 8 xs ≡ eight_listed i xs d
chunk_eight_listed i xs d h =
    let next : suc i ≡ i + 1 = omega arith in
    next_item 7 i xs d omega (arith, h) ∙ ap (λ zs. slice_index_or xs i d ∷ zs) (ap (λ j. chunk j 7 xs) next ∙ chunk_listed 7 1 i xs d omega (arith, h))

-- ---- tests

mark_back : (b : Bool) → is_mark (mark_number b) ≡ b
mark_back false = refl
mark_back true = refl

pub marks_back : (bs : List Bool) → map is_mark (map mark_number bs) ≡ bs
marks_back [] = refl
marks_back (b ∷ bs) = λ i. mark_back b i ∷ marks_back bs i

zero_alike : (m n : ℕ) → (m ≡ 0 → n ≡ 0) → (n ≡ 0 → m ≡ 0) → nat_eq m 0 ≡ nat_eq n 0
zero_alike m n f g = same_from_decides (nat_eq m 0) (nat_eq n 0) ((λ e. eqb-true m 0 e), λ e. eq-eqb m 0 e) ((λ e. g (eqb-true n 0 e)), λ e. eq-eqb n 0 (f e))

-- a mask has a bit where any two items pass
pub any_bit : {A B : Type 0} (t : A → B → Bool) (xs : List A) (ys : List B) → not (nat_eq (mask_l (zip2 t xs ys)) 0) ≡ some_pair t xs ys
any_bit t [] ys = refl
any_bit t (x ∷ xs) [] = refl
any_bit t (x ∷ xs) (y ∷ ys) = by_first (t x y) (any_bit t xs ys)
  where
    by_first : (b : Bool) → not (nat_eq (mask_l (zip2 t xs ys)) 0) ≡ some_pair t xs ys → not (nat_eq (cond b 1 0 + 2 * mask_l (zip2 t xs ys)) 0) ≡ b || some_pair t xs ys
    by_first true rest = ap not (zero_alike (1 + 2 * mask_l (zip2 t xs ys)) 1 (λ e. omega (arith, e)) (λ e. omega (arith, e)))
    by_first false rest = ap not (zero_alike (0 + 2 * mask_l (zip2 t xs ys)) (mask_l (zip2 t xs ys)) (λ e. omega (arith, e)) (λ e. omega (arith, e))) ∙ rest

same_test : (x y : ℤ) → FitsSigned w64 x → FitsSigned w64 y → nat_eq (of_z w64 x) (of_z w64 y) ≡ int_eq x y
same_test x y f g = same_from_decides (nat_eq (of_z w64 x) (of_z w64 y)) (int_eq x y)
    ((λ e. sym (to_z-of_z w64 x f) ∙ ap (to_z w64) (eqb-true (of_z w64 x) (of_z w64 y) e) ∙ to_z-of_z w64 y g), λ e. eq-eqb (of_z w64 x) (of_z w64 y) (ap (of_z w64) e))
    (Decides-int_eq x y)

each_differs : (xs ys : List ℤ) → Each1 (FitsSigned w64) xs → Each1 (FitsSigned w64) ys → some_pair (λ m n. not (nat_eq m n)) (bits_of xs) (bits_of ys) ≡ some_pair differ xs ys
each_differs [] ys f g = refl
each_differs (x ∷ xs) [] f g = refl
each_differs (x ∷ xs) (y ∷ ys) f g =
    λ i. not (same_test x y f.0 g.0 i) || each_differs xs ys f.1 g.1 i

pub lanes_differ : (xs ys : List ℤ) → AreLanes xs → AreLanes ys → some_pair (λ m n. not (nat_eq m n)) (bits_of xs) (bits_of ys) ≡ some_pair differ xs ys
lanes_differ xs ys l m = each_differs xs ys l.fit m.fit

or_false : (a b : Bool) → a || b ≡ false → (a ≡ false) × (b ≡ false)
or_false false b e = (refl, e)
or_false true b e = absurd cc

not_false : (a : Bool) → not a ≡ false → a ≡ true
not_false true e = refl
not_false false e = absurd cc

-- lists of one length without a difference are the same
pub same_from_none : (xs ys : List ℤ) → length xs ≡ length ys → some_pair differ xs ys ≡ false → xs ≡ ys
same_from_none [] [] h e = refl
same_from_none [] (y ∷ ys) h e = absurd omega (arith, h)
same_from_none (x ∷ xs) [] h e = absurd omega (arith, h)
same_from_none (x ∷ xs) (y ∷ ys) h e =
    let parts = or_false (differ x y) (some_pair differ xs ys) e in
    λ i. (Decides-int_eq x y).0 (not_false (int_eq x y) parts.0) i ∷ same_from_none xs ys omega (arith, h) parts.1 i

pub none_from_same : (xs : List ℤ) → some_pair differ xs xs ≡ false
none_from_same [] = refl
none_from_same (x ∷ xs) = (λ i. not ((Decides-int_eq x x).1 refl i) || some_pair differ xs xs) ∙ none_from_same xs

pub shared_bits : (a b : List ℕ) → some_pair (λ x y. not (bit_and x y == 0)) a b ≡ share_a_bit a b
shared_bits [] b = refl
shared_bits (x ∷ a) [] = refl
shared_bits (x ∷ a) (y ∷ b) = ap (λ r. not (bit_and x y == 0) || r) (shared_bits a b)

-- ---- numbers

pub sum_bits : (x y : ℤ) → FitsSigned w64 x → FitsSigned w64 y → to_z w64 ((of_z w64 x + of_z w64 y) % 2 ^ 64) ≡ applied Sum W64 x y
sum_bits x y f g = search (rules, wraps)

pub product_bits : (x y : ℤ) → FitsSigned w64 x → FitsSigned w64 y → to_z w64 (of_z w64 x * of_z w64 y % 2 ^ 64) ≡ applied Product W64 x y
product_bits x y f g = search (rules, wraps)

pub least_pick : (x y : ℤ) → FitsSigned w64 x → FitsSigned w64 y → cond (int_lt (to_z w64 (of_z w64 x)) (to_z w64 (of_z w64 y))) x y ≡ applied Least W64 x y
least_pick x y f g = rw (to_z-of_z w64 x f, to_z-of_z w64 y g) (omega (arith, ints, clamps) ∙ sym (wrap-min w64 x y f g))

pub greatest_pick : (x y : ℤ) → FitsSigned w64 x → FitsSigned w64 y → cond (int_lt (to_z w64 (of_z w64 x)) (to_z w64 (of_z w64 y))) y x ≡ applied Greatest W64 x y
greatest_pick x y f g = rw (to_z-of_z w64 x f, to_z-of_z w64 y g) (omega (arith, ints, clamps) ∙ sym (wrap-max w64 x y f g))

pub lanes_sum : (xs ys : List ℤ) → AreLanes xs → AreLanes ys → numbers_of (zip2 (λ m n. (m + n) % 2 ^ 64) (bits_of xs) (bits_of ys)) ≡ zip2 (applied Sum W64) xs ys
lanes_sum xs ys l m = each_paired (λ p q. (p + q) % 2 ^ 64) (applied Sum W64) sum_bits xs ys l.fit m.fit

pub lanes_product : (xs ys : List ℤ) → AreLanes xs → AreLanes ys → numbers_of (zip2 (λ m n. m * n % 2 ^ 64) (bits_of xs) (bits_of ys)) ≡ zip2 (applied Product W64) xs ys
lanes_product xs ys l m = each_paired (λ p q. p * q % 2 ^ 64) (applied Product W64) product_bits xs ys l.fit m.fit

pub lanes_least : (xs ys : List ℤ) → AreLanes xs → AreLanes ys → numbers_of (sel_l (compared (bits_of xs) (bits_of ys)) (bits_of xs) (bits_of ys)) ≡ zip2 (applied Least W64) xs ys
lanes_least xs ys l m =
    let t : ℕ → ℕ → Bool = λ p q. int_lt (to_z w64 p) (to_z w64 q) in
    each_selected (compared (bits_of xs) (bits_of ys)) xs ys l.fit m.fit
    ∙ ap (λ ms. sel_l ms xs ys) (tops_compared w64 t (bits_of xs) (bits_of ys)) ∙ each_picked t (applied Least W64) least_pick xs ys l.fit m.fit

pub lanes_greatest : (xs ys : List ℤ) → AreLanes xs → AreLanes ys → numbers_of (sel_l (compared (bits_of xs) (bits_of ys)) (bits_of ys) (bits_of xs)) ≡ zip2 (applied Greatest W64) xs ys
lanes_greatest xs ys l m =
    let t : ℕ → ℕ → Bool = λ p q. int_lt (to_z w64 p) (to_z w64 q) in
    each_selected (compared (bits_of xs) (bits_of ys)) ys xs m.fit l.fit
    ∙ ap (λ ms. sel_l ms ys xs) (tops_compared w64 t (bits_of xs) (bits_of ys)) ∙ each_picked_back t (applied Greatest W64) greatest_pick xs ys l.fit m.fit

-- ---- the low half of a number, by two shifts

negative_64 : (n : ℕ) → 2 ^ 63 ≤ n → n < 2 ^ 64 → to_z w64 n ≡ negsuc (2 ^ 64 - suc n)
negative_64 n g h =
    let twice : n ≡ 2 ^ 64 - suc (2 ^ 64 - suc n) = omega (arith, g, h) in
    ap (to_z w64) twice ∙ to_z-neg w64 (2 ^ 64 - suc n) omega (arith, g, h)

negative_32 : (n : ℕ) → 2 ^ 31 ≤ n → n < 2 ^ 32 → to_z w32 n ≡ negsuc (2 ^ 32 - suc n)
negative_32 n g h =
    let twice : n ≡ 2 ^ 32 - suc (2 ^ 32 - suc n) = omega (arith, g, h) in
    ap (to_z w32) twice ∙ to_z-neg w32 (2 ^ 32 - suc n) omega (arith, g, h)

shifted_back : (m : ℕ) → m < 2 ^ 32 → shr_z (to_z w64 (m * 2 ^ 32)) (2 ^ 32) ≡ to_z w32 m
shifted_back m h = ⊎_elim (λ l. below (to_z_pos w64 (m * 2 ^ 32) omega (arith, l)) (to_z_pos w32 m l)) (λ g. above (negative_64 (m * 2 ^ 32) omega (arith, g) omega (arith, h)) (negative_32 m g h)) (cases_lt m (2 ^ 31))
  where
    below : to_z w64 (m * 2 ^ 32) ≡ pos (m * 2 ^ 32) → to_z w32 m ≡ pos m → shr_z (to_z w64 (m * 2 ^ 32)) (2 ^ 32) ≡ to_z w32 m
    below e f = ap (λ z. shr_z z (2 ^ 32)) e ∙ ap pos (shl-shr m 32) ∙ sym f

    above : to_z w64 (m * 2 ^ 32) ≡ negsuc (2 ^ 64 - suc (m * 2 ^ 32)) → to_z w32 m ≡ negsuc (2 ^ 32 - suc m) → shr_z (to_z w64 (m * 2 ^ 32)) (2 ^ 32) ≡ to_z w32 m
    above e f =
        let down : (2 ^ 64 - suc (m * 2 ^ 32)) / 2 ^ 32 ≡ 2 ^ 32 - suc m = omega (arith, h) in
        ap (λ z. shr_z z (2 ^ 32)) e ∙ ap negsuc down ∙ sym f

low_half : (x : ℤ) → FitsSigned w64 x → to_z w64 (of_z w64 (shr_z (to_z w64 (of_z w64 x * 2 ^ 32 % 2 ^ 64)) (2 ^ 32))) ≡ wrapped W32 x
low_half x f =
    let n = of_z w64 x in
    let low : n % 2 ^ 32 < 2 ^ 32 = omega arith in
    let shifted : n * 2 ^ 32 % 2 ^ 64 ≡ n % 2 ^ 32 * 2 ^ 32 = omega arith in
    let is : shr_z (to_z w64 (n * 2 ^ 32 % 2 ^ 64)) (2 ^ 32) ≡ wrapped W32 x =
    ap (λ m. shr_z (to_z w64 m) (2 ^ 32)) shifted ∙ shifted_back (n % 2 ^ 32) low ∙ ap (to_z w32) (sym (and_mask n 32)) ∙ wrapped-low_half x f in
    ap (λ z. to_z w64 (of_z w64 z)) is ∙ to_z-of_z w64 (wrapped W32 x) (wide (wrapped W32 x) (SFits-int_wrap w32 x))

pub lanes_low : (xs : List ℤ) → AreLanes xs
    → numbers_of (zip2 (λ m s. of_z w64 (shr_z (to_z w64 m) (2 ^ s))) (zip2 (λ n s. n * 2 ^ s % 2 ^ 64) (bits_of xs) (replicate 8 32)) (replicate 8 32)) ≡ map (wrapped W32) xs
lanes_low xs l =
    let up = λ (n : ℕ). n * 2 ^ 32 % 2 ^ 64 in
    let down = λ (m : ℕ). of_z w64 (shr_z (to_z w64 m) (2 ^ 32)) in
    let bits = bits_of xs in
    let long : length bits ≡ 8 = length-map xs (of_z w64) ∙ l.eight in
    ap numbers_of (ap (λ ms. zip2 (λ m s. of_z w64 (shr_z (to_z w64 m) (2 ^ s))) ms (replicate 8 32)) (zip2_splat (λ n s. n * 2 ^ s % 2 ^ 64) bits 8 32 long)
    ∙ zip2_splat (λ m s. of_z w64 (shr_z (to_z w64 m) (2 ^ s))) (map up bits) 8 32 (length-map bits up ∙ long) ∙ map-map down up bits)
    ∙ each_changed (λ n. down (up n)) (wrapped W32) low_half xs l.fit

-- ---- masks of vectors

pub marks_compared : (ns : List ℕ) → length ns ≡ 8 → map (top 63) (zip2 (λ m n. cond (not (nat_eq m n)) 18446744073709551615 0) ns (replicate 8 0)) ≡ map is_mark ns
marks_compared ns h = tops_compared w64 (λ m n. not (nat_eq m n)) ns (replicate 8 0) ∙ zip2_splat (λ m n. not (nat_eq m n)) ns 8 0 h

pub lanes_any_differ : (xs ys : List ℤ) → AreLanes xs → AreLanes ys
    → not (nat_eq (mask_l (map (top 63) (zip2 (λ m n. cond (not (nat_eq m n)) 18446744073709551615 0) (bits_of xs) (bits_of ys))) % 18446744073709551616) 0) ≡ some_pair differ xs ys
lanes_any_differ xs ys l m =
    let t : ℕ → ℕ → Bool = λ p q. not (nat_eq p q) in
    let bits : List Bool = zip2 t (bits_of xs) (bits_of ys) in
    let long : length bits ≡ 8 = length-zip2 t (bits_of xs) (bits_of ys) (length-map xs (of_z w64) ∙ (l.eight ∙ sym m.eight) ∙ sym (length-map ys (of_z w64))) ∙ length-map xs (of_z w64) ∙ l.eight in
    ap (λ ms. not (nat_eq (mask_l ms % 18446744073709551616) 0)) (tops_compared w64 t (bits_of xs) (bits_of ys))
    ∙ ap (λ n. not (nat_eq n 0)) (mask_l-mod bits 64 omega (arith, long)) ∙ any_bit t (bits_of xs) (bits_of ys) ∙ lanes_differ xs ys l m

pub equal_tells : (r : Bool) (xs ys : List ℤ) → length xs ≡ length ys → r ≡ some_pair differ xs ys → IsTrue (not r) ↔ (xs ≡ ys)
equal_tells false xs ys h e = ((λ _. same_from_none xs ys h (sym e)), λ _. refl)
equal_tells true xs ys h e = ((λ a. absurd cc), λ s. absurd (true≢false (e ∙ ap (some_pair differ xs) (sym s) ∙ none_from_same xs)))

-- ---- results of calls, which a function holds as bits

pub lanes_kept : (ns : List ℕ) (r xs : List ℤ) → AreLanes xs → ns ≡ bits_of r → r ≡ xs → numbers_of ns ≡ xs
lanes_kept ns r xs l b e = ap numbers_of (b ∙ ap bits_of e) ∙ lanes_back xs l

-- a result on lanes that went through bits
pub lanes_told : (u : Update) (r xs ys : List ℤ) → AreLanes xs → AreLanes ys → r ≡ zip2 (updated u) (numbers_of (bits_of xs)) (numbers_of (bits_of ys)) → r ≡ zip2 (updated u) xs ys
lanes_told u r xs ys l m e = e ∙ λ i. zip2 (updated u) (lanes_back xs l i) (lanes_back ys m i)

pub lanes_result : (u : Update) (ns : List ℕ) (r xs ys : List ℤ) → AreLanes xs → AreLanes ys → ns ≡ bits_of r → r ≡ zip2 (updated u) (numbers_of (bits_of xs)) (numbers_of (bits_of ys)) → numbers_of ns ≡ zip2 (updated u) xs ys
lanes_result u ns r xs ys l m b e =
    lanes_kept ns r (zip2 (updated u) xs ys) (lanes_updated u xs ys l m) b (lanes_told u r xs ys l m e)

pub lanes_changed : (w : Width) (xs : List ℤ) → AreLanes xs → AreLanes (map (wrapped w) xs)
lanes_changed w xs l = record { eight = length-map xs (wrapped w) ∙ l.eight; fit = each xs }
  where
    each : (ys : List ℤ) → Each1 (FitsSigned w64) (map (wrapped w) ys)
    each [] = tt
    each (y ∷ ys) = (wrapped_fits w y, each ys)

pub lanes_whole : (xs : List ℤ) → AreLanes xs → map (wrapped W64) xs ≡ xs
lanes_whole xs l = each xs l.fit
  where
    each : (ys : List ℤ) → Each1 (FitsSigned w64) ys → map (wrapped W64) ys ≡ ys
    each [] f = refl
    each (y ∷ ys) f = λ i. int_wrap_fits w64 y f.0 i ∷ each ys f.1 i

pub lanes_chosen : (ms : List Bool) (xs ys : List ℤ) → length ms ≡ 8 → AreLanes xs → AreLanes ys → AreLanes (sel_l ms xs ys)
lanes_chosen ms xs ys h l m = record {
  eight = length-sel_l ms xs ys (h ∙ sym l.eight) (h ∙ sym m.eight) ∙ h;
  fit = each ms xs ys l.fit m.fit;
}
  where
    each : (bs : List Bool) (us vs : List ℤ) → Each1 (FitsSigned w64) us → Each1 (FitsSigned w64) vs → Each1 (FitsSigned w64) (sel_l bs us vs)
    each [] us vs f g = tt
    each (b ∷ bs) [] vs f g = tt
    each (b ∷ bs) (u ∷ us) [] f g = tt
    each (true ∷ bs) (u ∷ us) (v ∷ vs) f g = (f.0, each bs us vs f.1 g.1)
    each (false ∷ bs) (u ∷ us) (v ∷ vs) f g = (g.0, each bs us vs f.1 g.1)
