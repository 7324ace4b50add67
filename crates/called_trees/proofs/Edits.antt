-- Items in a row, and trees that are changed twice at a way, or not at all.
use Rattle.std.proofs.Common.{◌≡◌, ◌+◌, ℕ, zero, suc, List, [], ◌∷◌, ap, arith, refl}
use Rattle.board_rules.specs.Boards.{◌+++◌, Items, Operation, child_op, no_item, op, said}
use Rattle.board_rules.specs.Ground.{Ground}
use Rattle.board_rules.specs.RootNumbers.{made_among, made_in}
use Rattle.board_rules.specs.Running.{Machine}
use Rattle.changed_trees.specs.Edits.{edited, edited_among}

module _ (G : Ground) where
  pub none_behind : (is : Items G) → ◌+++◌ G is no_item ≡ is
  none_behind no_item = refl
  none_behind (said t is) = ap (λ js. said t js) (none_behind is)
  none_behind (child_op n is) = ap (λ js. child_op n js) (none_behind is)

  pub in_row : (is js ks : Items G) → ◌+++◌ G (◌+++◌ G is js) ks ≡ ◌+++◌ G is (◌+++◌ G js ks)
  in_row no_item js ks = refl
  in_row (said t is) js ks = ap (λ xs. said t xs) (in_row is js ks)
  in_row (child_op n is) js ks = ap (λ xs. child_op n xs) (in_row is js ks)

  pub made_behind : (K : ℕ → Machine G) (x : Operation G) → made_in G K x ≡ 0 → (is : Items G) → made_among G K (◌+++◌ G is (child_op x no_item)) ≡ made_among G K is
  made_behind K x e no_item = omega (arith, e)
  made_behind K x e (said t is) = made_behind K x e is
  made_behind K x e (child_op n is) = ap (λ z. made_in G K n + z) (made_behind K x e is)

  -- ---- at a way

  module _ (g h : Operation G → Operation G) where
    mutual
      pub edited_twice : (way : List ℕ) (n : Operation G) → edited G way h (edited G way g n) ≡ edited G way (λ n. h (g n)) n
      edited_twice [] n = refl
      edited_twice (c ∷ way) (op D N i f ps st is) = ap (λ js. op D N i f ps st js) (among_twice c way is)

      among_twice : (c : ℕ) (way : List ℕ) (is : Items G) → edited_among G c way h (edited_among G c way g is) ≡ edited_among G c way (λ n. h (g n)) is
      among_twice c way no_item = refl
      among_twice c way (said t is) = ap (λ js. said t js) (among_twice c way is)
      among_twice zero way (child_op n is) = ap (λ m. child_op m is) (edited_twice way n)
      among_twice (suc c) way (child_op n is) = ap (λ js. child_op n js) (among_twice c way is)

  mutual
    pub edited_same : (way : List ℕ) (n : Operation G) → edited G way (λ n. n) n ≡ n
    edited_same [] n = refl
    edited_same (c ∷ way) (op D N i f ps st is) = ap (λ js. op D N i f ps st js) (among_same c way is)

    among_same : (c : ℕ) (way : List ℕ) (is : Items G) → edited_among G c way (λ n. n) is ≡ is
    among_same c way no_item = refl
    among_same c way (said t is) = ap (λ js. said t js) (among_same c way is)
    among_same zero way (child_op n is) = ap (λ m. child_op m is) (edited_same way n)
    among_same (suc c) way (child_op n is) = ap (λ js. child_op n js) (among_same c way is)
