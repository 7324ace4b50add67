-- When a map has what the roots hold, each root by its number on the board.
use Rattle.std.proofs.Common.{◌≡◌, ℕ, ◌+◌, ◌<◌, ◌≤◌, List, [], ◌∷◌, Bool, true, false, cond, refl, sym, ap, ◌∙◌, subst, map, arith, ◌==◌, ◌||◌, get_or, ⊎_elim}
use Rattle.std.specs.Prelude.{length, replicate}
use Rattle.std.proofs.lemmas.Bool.{cases_lt, cases_order, eqb-false, ne_eqb}
use Rattle.std.proofs.lemmas.List.{get_or-replicate, get_or_default, length-replicate}
use Rattle.std.proofs.Math.ListN.{get_or-eq_default, get_or-map}
use Rattle.plain_values.specs.Points.{IsPoints, has}
use Rattle.lane_kernels.specs.declared.numbers.FieldKind.TheVariants.{Int64, Truth}
use Rattle.lane_kernels.specs.Numbers.{FitsWidth, width_of}
use Rattle.regent_tree.specs.declared.outcome.RootImage.{RootImage}
use Rattle.regent_tree.specs.Laws.{Shape, shape_of}
use Rattle.regent_tree.specs.Store.{no_root}
use Rattle.task_code.specs.declared.code.Code.{Code}
use Rattle.task_code.specs.declared.code.FieldCode.{FieldCode}
use Rattle.task_code.specs.declared.code.SpaceCode.{SpaceCode}
use Rattle.machine_terms.specs.declared.order.Contents.{Contents}
use Rattle.machine_terms.specs.declared.order.Root.{Root}
use Rattle.machine_terms.specs.Contents.{image_in, image_of, kept_at, kind_of as kept_kind, kinds_of, no_space}
use Rattle.memory_laws.specs.Places.{column_of, numbers}
use Rattle.memory_laws.proofs.Placing.{each_below}
use Rattle.number_codes.specs.Pairs.{first_of, pair_code, second_of}
use Rattle.number_codes.proofs.Pairs.{pairs_tell}
use Rattle.board_rules.specs.Processes.{Map}
use Rattle.regent_boards.specs.Frames.{Location}
use Rattle.regent_boards.specs.RegentMachine.{kind_of, regent_ground, root_of, size_of, space_of, who_of}
use Rattle.code_boards.specs.Views.{spaces_of}

-- ---- what a root's number on the board tells

pub root_space : (space size who : ℕ) → space_of (root_of space size who) ≡ space
root_space space size who = (pairs_tell space (pair_code size who)).0

pub root_size : (space size who : ℕ) → size_of (root_of space size who) ≡ size
root_size space size who = ap first_of (pairs_tell space (pair_code size who)).1 ∙ (pairs_tell size who).0

pub root_who : (space size who : ℕ) → who_of (root_of space size who) ≡ who
root_who space size who = ap second_of (pairs_tell space (pair_code size who)).1 ∙ (pairs_tell size who).1

abbrev pub at : ℕ → ℕ → ℕ → Location
at root field point = record { root = root; field = field; point = point }

abbrev pub IsLive : Contents → ℕ → Type 0
IsLive c r = has (numbers c) r ≡ true

-- the number of a root on the board: its field space, its size, and who it is
abbrev pub board_root : Contents → (ℕ → ℕ) → ℕ → ℕ
board_root c who r = root_of (image_of c r).space (image_of c r).count (who r)

pub board_root_same : (c d : Contents) (who : ℕ → ℕ) (r : ℕ) → shape_of (image_of d r) ≡ shape_of (image_of c r) →
    board_root d who r ≡ board_root c who r
board_root_same c d who r e = ap (λ (s : Shape). root_of s.space s.count (who r)) e

-- ---- roots that are there

both_false : (a b : Bool) → (a || b) ≡ false → (a ≡ false) × (b ≡ false)
both_false true b e = absurd cc
both_false false b e = (refl, e)

absent_image : (rs : List Root) (r : ℕ) → has (map (λ (k : Root). k.id.0) rs) r ≡ false → image_in rs r ≡ no_root
absent_image [] r e = refl
absent_image (k ∷ rs) r e =
    let parts = both_false (r == k.id.0) (has (map (λ (k : Root). k.id.0) rs) r) e in
    ap (λ b. cond b k.image (image_in rs r)) (ne_eqb k.id.0 r (λ q. eqb-false r k.id.0 parts.0 (sym q)))
    ∙ absent_image rs r parts.1

pub shown_live : (c : Contents) (r f p : ℕ) → p < length (column_of c r f) → IsLive c r
shown_live c r f p l = chosen (has (numbers c) r) refl
  where
    none : (k : ℕ) → length (get_or no_root.fields k []) ≡ 0
    none k = ap length (get_or-eq_default no_root.fields [] {n = k} (omega arith))

    chosen : (b : Bool) → has (numbers c) r ≡ b → b ≡ true
    chosen true e = refl
    chosen false e = absurd (omega (arith, l, ap (λ (i : RootImage). length (get_or i.fields f [])) (absent_image c.roots r e), none f))

pub live_below : (c : Contents) (r : ℕ) → IsPoints c.made (numbers c) → IsLive c r → r < c.made
live_below c r n l = each_below c.made (numbers c) n.below r l

module _ (code : Code) where
  -- ---- shapes

  -- each field of the root's field space has as many numbers as the root has points
  abbrev pub IsShaped : Shape → Type 0
  IsShaped s = s.lengths ≡ replicate (length (kinds_of code s.space)) s.count

  pub column_length : (c : Contents) (r f : ℕ) → IsShaped (shape_of (image_of c r)) → f < length (kinds_of code (image_of c r).space) →
      length (column_of c r f) ≡ (image_of c r).count
  column_length c r f s l = sym (get_or-map length (image_of c r).fields f []) ∙ ap (λ ns. get_or ns f 0) s
      ∙ get_or-replicate (length (kinds_of code (image_of c r).space)) f (image_of c r).count 0 l

  pub field_below : (c : Contents) (r f p : ℕ) → IsShaped (shape_of (image_of c r)) → p < length (column_of c r f) →
      f < length (kinds_of code (image_of c r).space)
  field_below c r f p s l = ⊎_elim (λ e. e) (λ e. absurd (omega (
    arith,
    l,
    sym (get_or-map length (image_of c r).fields f []) ∙ ap (λ ns. get_or ns f 0) s
        ∙ get_or-eq_default (replicate (length (kinds_of code (image_of c r).space)) (image_of c r).count) 0
        (subst (λ k. k ≤ f) (sym (length-replicate (length (kinds_of code (image_of c r).space)) (image_of c r).count)) e),
  ))) (cases_lt f (length (kinds_of code (image_of c r).space)))

  -- ---- kinds

  pub kinds_same : (space : ℕ) → get_or (spaces_of code) space [] ≡ kinds_of code space
  kinds_same space = get_or-map (λ (s : SpaceCode). map (λ (f : FieldCode). f.kind) s.fields) code.spaces space no_space

  pub kind_same : (space size who f : ℕ) → f < length (kinds_of code space) →
      kind_of (spaces_of code) (root_of space size who) f ≡ get_or (kinds_of code space) f Truth
  kind_same space size who f l =
      ap (λ k. get_or (get_or (spaces_of code) k []) f Int64) (root_space space size who)
      ∙ ap (λ ks. get_or ks f Int64) (kinds_same space) ∙ get_or_default (kinds_of code space) f Int64 Truth l

  -- ---- the map has what the roots hold

  -- Who a root is on the board is how many makings there were before it. Of so many makings, the map has at each
  -- place of a root that is there what the root holds, and the numbers fit.
  pub record Stands (who : ℕ → ℕ) (n : ℕ) (c : Contents) (m : Map (regent_ground (spaces_of code))) : Type 0 where
    pub below : (r : ℕ) → r < c.made → who r < n
    pub rising : (a b : ℕ) → a < b → b < c.made → who a < who b
    pub numbered : IsPoints c.made (numbers c)
    pub shaped : (r : ℕ) → IsLive c r → IsShaped (shape_of (image_of c r))
    pub same : (r f p : ℕ) → p < length (column_of c r f) → kept_at c r f p ≡ m (at (board_root c who r) f p)
    pub fits : (r f p : ℕ) → p < length (column_of c r f) → FitsWidth (width_of (kept_kind code c r f)) (kept_at c r f p)

  -- where it is shown, a root's kind on the board is that in the code
  pub shown_kind : (who : ℕ → ℕ) (n : ℕ) (c : Contents) (m : Map (regent_ground (spaces_of code))) → Stands who n c m → (r f p : ℕ) →
      p < length (column_of c r f) → kind_of (spaces_of code) (board_root c who r) f ≡ kept_kind code c r f
  shown_kind who n c m s r f p l = kind_same (image_of c r).space (image_of c r).count (who r) f
      (field_below c r f p (s.shaped r (shown_live c r f p l)) l)

  -- one making more, of no root
  pub stands_on : (who : ℕ → ℕ) (n k : ℕ) (c : Contents) (m : Map (regent_ground (spaces_of code))) → n ≤ k → Stands who n c m → Stands who k c m
  stands_on who n k c m l s = record {
    below = λ r h. omega (arith, l, s.below r h);
    rising = s.rising;
    numbered = s.numbered;
    shaped = s.shaped;
    same = s.same;
    fits = s.fits;
  }

  -- ---- roots by other numbers

  -- no two roots have one number, and those that are there have the numbers of the board
  pub record Naming (c : Contents) (who : ℕ → ℕ) (s : ℕ → ℕ) : Type 0 where
    pub one : (a b : ℕ) → s a ≡ s b → a ≡ b
    pub live : (r : ℕ) → IsLive c r → s r ≡ board_root c who r

  module _ (who : ℕ → ℕ) (n : ℕ) (c : Contents) (m : Map (regent_ground (spaces_of code))) (s : Stands who n c m) (a : ℕ) where
    -- there are such numbers: a root that isn't there has one that no root on the board has
    abbrev who_named : ℕ → ℕ
    who_named r = cond (has (numbers c) r) (who r) (n + a + r)

    abbrev pub named : ℕ → ℕ
    named r = cond (has (numbers c) r) (board_root c who r) (root_of 0 0 (n + a + r))

    who_is : (r : ℕ) → who_of (named r) ≡ who_named r
    who_is r = chosen (has (numbers c) r)
      where
        chosen : (b : Bool) → who_of (cond b (board_root c who r) (root_of 0 0 (n + a + r))) ≡ cond b (who r) (n + a + r)
        chosen true = root_who (image_of c r).space (image_of c r).count (who r)
        chosen false = root_who 0 0 (n + a + r)

    one_who : (x y : ℕ) (b d : Bool) → has (numbers c) x ≡ b → has (numbers c) y ≡ d → cond b (who x) (n + a + x) ≡ cond d (who y) (n + a + y) → x ≡ y
    one_who x y true true e f q = ⊎_elim (λ e. e) (λ more. ⊎_elim
        (λ l. absurd (omega (arith, q, s.rising x y l (live_below c y s.numbered f))))
        (λ l. absurd (omega (arith, q, s.rising y x l (live_below c x s.numbered e)))) more) (cases_order x y)
    one_who x y true false e f q = absurd (omega (arith, q, s.below x (live_below c x s.numbered e)))
    one_who x y false true e f q = absurd (omega (arith, q, s.below y (live_below c y s.numbered f)))
    one_who x y false false e f q = omega (arith, q)

    pub some_naming : Naming c who named
    some_naming = record {
      one = λ x y e. one_who x y (has (numbers c) x) (has (numbers c) y) refl refl (sym (who_is x) ∙ ap who_of e ∙ who_is y);
      live = λ r l. ap (λ b. cond b (board_root c who r) (root_of 0 0 (n + a + r))) l;
    }

    pub absent_who : (r : ℕ) → has (numbers c) r ≡ false → who_of (named r) ≡ n + a + r
    absent_who r e = who_is r ∙ ap (λ b. cond b (who r) (n + a + r)) e

  -- what has one number however roots are numbered is there
  pub named_live : (who : ℕ → ℕ) (n : ℕ) (c : Contents) (m : Map (regent_ground (spaces_of code))) → Stands who n c m → (r R : ℕ) →
      ((s : ℕ → ℕ) → Naming c who s → s r ≡ R) → IsLive c r
  named_live who n c m s r R h = chosen (has (numbers c) r) refl
    where
      chosen : (b : Bool) → has (numbers c) r ≡ b → b ≡ true
      chosen true e = refl
      chosen false e = absurd (omega (
        arith,
        sym (absent_who who n c m s 0 r e)
            ∙ ap who_of (h (named who n c m s 0) (some_naming who n c m s 0) ∙ sym (h (named who n c m s 1) (some_naming who n c m s 1)))
            ∙ absent_who who n c m s 1 r e,
      ))
