-- Ways, one step at a time.
use Rattle.std.specs.Prelude.{nat_lt}
use Rattle.std.proofs.Common.{◌≡◌, ◌≢◌, ◌≤◌, ◌==◌, ◌&&◌, ◌⊎◌, ◌∷◌, [], ◌∙◌, ℕ, suc, zero, Bool, true, false, cond, List, ap, sym, refl, arith, drop, get_or, inl, inr, length, min, ⊎_elim}
use Rattle.std.proofs.lemmas.Bool.{cases_lt, eq-eqb, le-ltb, lt-ltb, ne_eqb}
use Rattle.std.proofs.Math.ListN.{drop_of_length-le}
use Rattle.std.proofs.Math.Seq.{drop-cons}
use Rattle.region_finder.specs.Forests.{Upward}
use Rattle.region_walk.specs.Sides.{is_less, is_on_side, leaves, numbers_of}

-- ---- the order

itself : (b : Bool) → cond b true false ≡ b
itself true = refl
itself false = refl

less_at : (a b c d : List Upward) → a ≡ c → b ≡ d → is_less (numbers_of a) (numbers_of b) ≡ is_less (numbers_of c) (numbers_of d)
less_at a b c d e f = ap (λ (xs : List Upward). is_less (numbers_of xs) (numbers_of b)) e ∙ ap (λ (xs : List Upward). is_less (numbers_of c) (numbers_of xs)) f

pub same_head : (x y : ℕ) (xs ys : List ℕ) → x ≡ y → is_less (x ∷ xs) (y ∷ ys) ≡ is_less xs ys
same_head x y xs ys e =
    ap (λ (c : Bool). cond c true (cond (x == y) (is_less xs ys) false)) (le-ltb x y (omega (arith, e)))
    ∙ ap (λ (c : Bool). cond c (is_less xs ys) false) (eq-eqb x y e)

other_head : (x y : ℕ) (xs ys : List ℕ) → x ≢ y → is_less (x ∷ xs) (y ∷ ys) ≡ nat_lt x y
other_head x y xs ys n =
    ap (λ (c : Bool). cond (nat_lt x y) true (cond c (is_less xs ys) false)) (ne_eqb x y n) ∙ itself (nat_lt x y)

-- at another node
pub less_node : (a b c d : List Upward) (x y : Upward) → a ≡ x ∷ c → b ≡ y ∷ d → x.0.0 ≢ y.0.0 →
    is_less (numbers_of a) (numbers_of b) ≡ nat_lt x.0.0 y.0.0
less_node a b c d x y e f n = less_at a b (x ∷ c) (y ∷ d) e f ∙ other_head x.0.0 y.0.0 (x.1 ∷ numbers_of c) (y.1 ∷ numbers_of d) n

-- at another colour
pub less_colour : (a b c d : List Upward) (x y : Upward) → a ≡ x ∷ c → b ≡ y ∷ d → x.0.0 ≡ y.0.0 → x.1 ≢ y.1 →
    is_less (numbers_of a) (numbers_of b) ≡ nat_lt x.1 y.1
less_colour a b c d x y e f s n =
    less_at a b (x ∷ c) (y ∷ d) e f ∙ same_head x.0.0 y.0.0 (x.1 ∷ numbers_of c) (y.1 ∷ numbers_of d) s
    ∙ other_head x.1 y.1 (numbers_of c) (numbers_of d) n

-- behind the same step
pub less_step : (a b c d : List Upward) (x y : Upward) → a ≡ x ∷ c → b ≡ y ∷ d → x.0.0 ≡ y.0.0 → x.1 ≡ y.1 →
    is_less (numbers_of c) (numbers_of d) ≡ is_less (numbers_of a) (numbers_of b)
less_step a b c d x y e f s n =
    sym (less_at a b (x ∷ c) (y ∷ d) e f ∙ same_head x.0.0 y.0.0 (x.1 ∷ numbers_of c) (y.1 ∷ numbers_of d) s
    ∙ same_head x.1 y.1 (numbers_of c) (numbers_of d) n)

-- where one of them ends
pub less_short : (a b d : List Upward) (y : Upward) → a ≡ [] → b ≡ y ∷ d → is_less (numbers_of a) (numbers_of b) ≡ true
less_short a b d y e f = less_at a b [] (y ∷ d) e f

pub less_nothing : (xs : List ℕ) → is_less xs [] ≡ false
less_nothing [] = refl
less_nothing (x ∷ xs) = refl

pub less_long : (a b : List Upward) → b ≡ [] → is_less (numbers_of a) (numbers_of b) ≡ false
less_long a b f = less_at a b a [] refl f ∙ less_nothing (numbers_of a)

never : (a b : Bool) → cond a true (cond b false false) ≡ a
never true b = refl
never false true = refl
never false false = refl

pub last_head : (x y : ℕ) (xs : List ℕ) → is_less (x ∷ xs) (y ∷ []) ≡ nat_lt x y
last_head x y xs =
    ap (λ (b : Bool). cond (nat_lt x y) true (cond (x == y) b false)) (less_nothing xs) ∙ never (nat_lt x y) (x == y)

-- ---- a way that leaves another one

leaves_at : (r : ℕ) (side : Bool) (a b c d : List Upward) → a ≡ c → b ≡ d → leaves r side a b ≡ leaves r side c d
leaves_at r side a b c d e f = ap (λ (xs : List Upward). leaves r side xs b) e ∙ ap (λ (xs : List Upward). leaves r side c xs) f

-- behind the same step
pub leaves_step : (r q : ℕ) (side : Bool) (a b c d : List Upward) (x y : Upward) → r ≡ suc q → a ≡ x ∷ c → b ≡ y ∷ d →
    x.0.0 ≡ y.0.0 → x.1 ≡ y.1 → leaves q side c d ≡ leaves r side a b
leaves_step r q side a b c d x y h e f s n =
    sym (leaves_at r side a b (x ∷ c) (y ∷ d) e f
    ∙ ap (λ (i : ℕ). leaves i side (x ∷ c) (y ∷ d)) h
    ∙ ap (λ (p : Bool). p && ((x.1 == y.1) && leaves q side c d)) (eq-eqb x.0.0 y.0.0 s)
    ∙ ap (λ (p : Bool). p && leaves q side c d) (eq-eqb x.1 y.1 n))

-- at another node
pub leaves_node : (r : ℕ) (side : Bool) (a b c d : List Upward) (x y : Upward) → a ≡ x ∷ c → b ≡ y ∷ d →
    x.0.0 ≢ y.0.0 → leaves r side a b ≡ false
leaves_node zero side a b c d x y e f n =
    leaves_at zero side a b (x ∷ c) (y ∷ d) e f ∙ ap (λ (p : Bool). p && is_on_side side x.1 y.1) (ne_eqb x.0.0 y.0.0 n)
leaves_node (suc q) side a b c d x y e f n =
    leaves_at (suc q) side a b (x ∷ c) (y ∷ d) e f
    ∙ ap (λ (p : Bool). p && ((x.1 == y.1) && leaves q side c d)) (ne_eqb x.0.0 y.0.0 n)

-- at another colour, before
and_never : (a : Bool) → (a && false) ≡ false
and_never true = refl
and_never false = refl

pub leaves_colour : (r q : ℕ) (side : Bool) (a b c d : List Upward) (x y : Upward) → r ≡ suc q → a ≡ x ∷ c → b ≡ y ∷ d →
    x.1 ≢ y.1 → leaves r side a b ≡ false
leaves_colour r q side a b c d x y h e f n =
    leaves_at r side a b (x ∷ c) (y ∷ d) e f
    ∙ ap (λ (i : ℕ). leaves i side (x ∷ c) (y ∷ d)) h
    ∙ ap (λ (p : Bool). (x.0.0 == y.0.0) && (p && leaves q side c d)) (ne_eqb x.1 y.1 n)
    ∙ and_never (x.0.0 == y.0.0)

-- at its end
pub leaves_last : (r : ℕ) (side : Bool) (a b c d : List Upward) (x y : Upward) → r ≡ zero → a ≡ x ∷ c → b ≡ y ∷ d →
    leaves r side a b ≡ ((x.0.0 == y.0.0) && is_on_side side x.1 y.1)
leaves_last r side a b c d x y h e f =
    leaves_at r side a b (x ∷ c) (y ∷ d) e f ∙ ap (λ (i : ℕ). leaves i side (x ∷ c) (y ∷ d)) h

-- too short a way is never left, nor leaves
pub leaves_short : (r : ℕ) (side : Bool) (a b : List Upward) → length a ≤ r → leaves r side a b ≡ false
leaves_short r side [] b l = refl
leaves_short r side (x ∷ a) [] l = refl
leaves_short zero side (x ∷ a) (y ∷ b) l = absurd (omega (arith, l))
leaves_short (suc r) side (x ∷ a) (y ∷ b) l =
    ap (λ (p : Bool). (x.0.0 == y.0.0) && ((x.1 == y.1) && p)) (leaves_short r side a b (omega (arith, l)))
    ∙ ap (λ (p : Bool). (x.0.0 == y.0.0) && p) (and_never (x.1 == y.1)) ∙ and_never (x.0.0 == y.0.0)

pub leaves_too_short : (r : ℕ) (side : Bool) (a b : List Upward) → length b ≤ r → leaves r side a b ≡ false
leaves_too_short r side [] b l = refl
leaves_too_short r side (x ∷ a) [] l = refl
leaves_too_short zero side (x ∷ a) (y ∷ b) l = absurd (omega (arith, l))
leaves_too_short (suc r) side (x ∷ a) (y ∷ b) l =
    ap (λ (p : Bool). (x.0.0 == y.0.0) && ((x.1 == y.1) && p)) (leaves_too_short r side a b (omega (arith, l)))
    ∙ ap (λ (p : Bool). (x.0.0 == y.0.0) && p) (and_never (x.1 == y.1)) ∙ and_never (x.0.0 == y.0.0)

-- ---- where the shorter of two ways ends

nowhere : Upward
nowhere = (record { 0 = 0 }, 0)

ends_at : (a b : List Upward) (k : ℕ) → k ≤ length a → k ≤ length b → (length a ≤ k) ⊎ (length b ≤ k) →
    nat_lt (length a) (length b) ≡ is_less (numbers_of (drop k a)) (numbers_of (drop k b))
ends_at a b k m n (inl h) = ⊎_elim
    (λ l. lt-ltb (length a) (length b) l
    ∙ sym (less_short (drop k a) (drop k b) (drop (suc k) b) (get_or b k nowhere) (drop_of_length-le a h)
    (drop-cons b k nowhere (omega (arith, m, h, l)))))
    (λ l. le-ltb (length a) (length b) l
    ∙ sym (less_long (drop k a) (drop k b) (drop_of_length-le b (omega (arith, l, h)))))
    (cases_lt (length a) (length b))
ends_at a b k m n (inr h) =
    le-ltb (length a) (length b) (omega (arith, h, m))
    ∙ sym (less_long (drop k a) (drop k b) (drop_of_length-le b h))

one_ends : (m n k : ℕ) → min m n ≤ k → (m ≤ k) ⊎ (n ≤ k)
one_ends m n k l = ⊎_elim
    (λ a. ⊎_elim (λ b. inr (omega (arith, l, a, b))) (λ b. inl (omega (arith, l, b))) (cases_lt n m))
    (λ a. inl a)
    (cases_lt k m)

pub less_at_end : (a b : List Upward) (k : ℕ) → min (length a) (length b) ≤ k → k ≤ min (length a) (length b) →
    nat_lt (length a) (length b) ≡ is_less (numbers_of (drop k a)) (numbers_of (drop k b))
less_at_end a b k l m =
    ends_at a b k (omega (arith, m)) (omega (arith, m)) (one_ends (length a) (length b) k l)
