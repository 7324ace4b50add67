-- Interference of needs: either way round, and without what is needed of no points.
use Rattle.std.proofs.Common.{◌≡◌, ◌∷◌, ◌∙◌, ◌&&◌, ◌||◌, ◌==◌, ℕ, Bool, List, [], ap, eq-eqb, false, not, refl, sym, true, ⊎_elim}
use Rattle.std.specs.List.{list_any}
use Rattle.std.proofs.lemmas.Bool.{cases_eq, ne_eqb}
use Rattle.plain_values.specs.Points.{has, meets}
use Rattle.lane_kernels.specs.Modes.{in_conflict, same_op}
use Rattle.lane_kernels.specs.declared.numbers.Mode.{Mode}
use Rattle.lane_kernels.specs.declared.numbers.Mode.TheVariants.{Read, Reduce, Write}
use Rattle.lane_kernels.specs.declared.numbers.Op.{Op}
use Rattle.lane_kernels.specs.declared.numbers.Op.TheVariants.{Sum, Product, Least, Greatest}
use Rattle.region_tree.specs.Requirements.{Requirement, conflict, interfere}
use Rattle.machine_terms.specs.Opening.{with_points}
use Rattle.board_trees.specs.Names.{pointed}

-- ---- either way round

equal_swap : (a b : ℕ) → (a == b) ≡ (b == a)
equal_swap a b = ⊎_elim (λ e. eq-eqb a b e ∙ sym (eq-eqb b a (sym e))) (λ n. ne_eqb a b n ∙ sym (ne_eqb b a (λ e. n (sym e)))) (cases_eq a b)

none_any : {A : Type 0} (xs : List A) → list_any (λ (x : A). false) xs ≡ false
none_any [] = refl
none_any (x ∷ xs) = none_any xs

either : {A : Type 0} (f g : A → Bool) (xs : List A) → list_any (λ x. f x || g x) xs ≡ (list_any f xs || list_any g xs)
either f g [] = refl
either f g (x ∷ xs) = ap (λ b. (f x || g x) || b) (either f g xs) ∙ turned (f x) (g x) (list_any f xs) (list_any g xs)
  where
    turned : (a b c d : Bool) → ((a || b) || (c || d)) ≡ ((a || c) || (b || d))
    turned true b c d = refl
    turned false true true d = refl
    turned false true false d = refl
    turned false false true d = refl
    turned false false false d = refl

any_swap : {A B : Type 0} (f : A → B → Bool) (list : List A) (bs : List B) → list_any (λ a. list_any (f a) bs) list ≡ list_any (λ b. list_any (λ a. f a b) list) bs
any_swap f [] bs = sym (none_any bs)
any_swap f (a ∷ list) bs = ap (λ c. list_any (f a) bs || c) (any_swap f list bs) ∙ sym (either (f a) (λ b. list_any (λ a. f a b) list) bs)

any_alike : {A : Type 0} (f g : A → Bool) → ((a : A) → f a ≡ g a) → (list : List A) → list_any f list ≡ list_any g list
any_alike f g h [] = refl
any_alike f g h (a ∷ list) = λ i. h a i || any_alike f g h list i

op_swap : (p q : Op) → same_op p q ≡ same_op q p
op_swap Sum Sum = refl
op_swap Sum Product = refl
op_swap Sum Least = refl
op_swap Sum Greatest = refl
op_swap Product Sum = refl
op_swap Product Product = refl
op_swap Product Least = refl
op_swap Product Greatest = refl
op_swap Least Sum = refl
op_swap Least Product = refl
op_swap Least Least = refl
op_swap Least Greatest = refl
op_swap Greatest Sum = refl
op_swap Greatest Product = refl
op_swap Greatest Least = refl
op_swap Greatest Greatest = refl

modes_swap : (m n : Mode) → in_conflict m n ≡ in_conflict n m
modes_swap Read Read = refl
modes_swap Read Write = refl
modes_swap Read (Reduce q) = refl
modes_swap Write Read = refl
modes_swap Write Write = refl
modes_swap Write (Reduce q) = refl
modes_swap (Reduce p) Read = refl
modes_swap (Reduce p) Write = refl
modes_swap (Reduce p) (Reduce q) = ap not (op_swap p q)

meets_swap : (xs ys : List ℕ) → meets xs ys ≡ meets ys xs
meets_swap xs ys = any_swap (λ x y. x == y) xs ys ∙ any_alike (λ y. list_any (λ x. x == y) xs) (has xs) (λ y. any_alike (λ x. x == y) (λ x. y == x) (λ x. equal_swap x y) xs) ys

conflict_swap : (a b : Requirement) → conflict a b ≡ conflict b a
conflict_swap a b = λ i. equal_swap a.root b.root i && equal_swap a.field b.field i && modes_swap a.mode b.mode i && meets_swap a.points b.points i

pub interfere_swap : (a b : List Requirement) → interfere a b ≡ interfere b a
interfere_swap a b = any_swap conflict a b ∙ any_alike (λ y. list_any (λ x. conflict x y) a) (λ y. list_any (conflict y) a) (λ y. any_alike (λ x. conflict x y) (conflict y) (λ x. conflict_swap x y) a) b

-- ---- without what is needed of no points

never : (a b c : Bool) → (a && b && c && false) ≡ false
never true true true = refl
never true true false = refl
never true false c = refl
never false b c = refl

pub pointed_left : (a b : List Requirement) → interfere (pointed a) b ≡ interfere a b
pointed_left [] b = refl
pointed_left (r ∷ rs) b = by_points r.points refl (pointed_left rs b)
  where
    by_points : (xs : List ℕ) → r.points ≡ xs → interfere (pointed rs) b ≡ interfere rs b → interfere (with_points xs r (pointed rs)) b ≡ interfere (r ∷ rs) b
    by_points [] e more = more ∙ ap (λ c. c || interfere rs b) (sym (any_alike (conflict r) (λ y. false)
        (λ y. ap (λ ps. (r.root == y.root) && (r.field == y.field) && in_conflict r.mode y.mode && meets ps y.points) e ∙ never (r.root == y.root) (r.field == y.field) (in_conflict r.mode y.mode)) b ∙ none_any b))
    by_points (x ∷ xs) e more = ap (λ c. list_any (conflict r) b || c) more

pub interfere_pointed : (a b : List Requirement) → interfere (pointed a) (pointed b) ≡ interfere a b
interfere_pointed a b = pointed_left a (pointed b) ∙ interfere_swap a (pointed b) ∙ pointed_left b a ∙ interfere_swap b a
