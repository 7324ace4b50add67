-- The roots and the store where one number is set.
use Rattle.std.proofs.Common.{◌≡◌, ⊎_elim, ℕ, zero, suc, ◌<◌, ℤ, pos, List, [], ◌∷◌, Bool, true, false, refl, sym, ap, ◌∙◌, subst, arith}
use Rattle.std.specs.Prelude.{cond, get_or, length, map, slice_set, ◌==◌, ◌&&◌}
use Rattle.std.proofs.lemmas.Bool.{eqb-true, eqb-false, cases_lt}
use Rattle.std.proofs.lemmas.List.{get_or-set_same, get_or-set_other, length-set}
use Rattle.std.proofs.Math.ListN.{get_or-eq_default}
use Rattle.regent_tree.specs.declared.outcome.RootImage.{RootImage}
use Rattle.regent_tree.specs.Store.{Store, no_root, column, read_at, write_at}
use Rattle.machine_terms.specs.declared.order.Contents.{Contents}
use Rattle.machine_terms.specs.declared.order.Root.{Root}
use Rattle.machine_terms.specs.Contents.{image_in, image_of, kept_at, kept_in, with_number, keep}
use Rattle.memory_laws.specs.Places.{column_of, is_same}

-- a place in a list that has something there is below its end
pub some_below : {A : Type 0} (xs : List (List A)) (i n : ℕ) → n < length (get_or xs i []) → i < length xs
some_below {A = A} xs i n l = ⊎_elim (λ e. e) (λ e. absurd (none (get_or xs i []) (get_or-eq_default xs [] e) l))
    (cases_lt i (length xs))
  where
    none : (ys : List A) → ys ≡ [] → n < length ys → ⊥
    none [] e l = omega (arith, l)
    none (y ∷ ys) e l = omega (arith, ap length e)

-- ---- the fields of one root

fields_set : (fields : List (List ℤ)) (f x g : ℕ) (z : ℤ) → x < length (get_or fields f []) →
    get_or (slice_set fields f (slice_set (get_or fields f []) x z)) g []
    ≡ cond (f == g) (slice_set (get_or fields g []) x z) (get_or fields g [])
fields_set fields f x g z l = chosen (f == g) refl
  where
    chosen : (b : Bool) → (f == g) ≡ b →
        get_or (slice_set fields f (slice_set (get_or fields f []) x z)) g []
        ≡ cond b (slice_set (get_or fields g []) x z) (get_or fields g [])
    chosen true e = subst (λ k. get_or (slice_set fields f (slice_set (get_or fields f []) x z)) k []
        ≡ slice_set (get_or fields k []) x z) (eqb-true f g e)
        (get_or-set_same fields f _ [] (some_below fields f x l))
    chosen false e = get_or-set_other fields f g _ [] (λ q. eqb-false f g e (sym q))

-- a number of a column
number_set : (zs : List ℤ) (x p : ℕ) (z : ℤ) → x < length zs →
    get_or (slice_set zs x z) p (pos 0) ≡ cond (x == p) z (get_or zs p (pos 0))
number_set zs x p z l = chosen (x == p) refl
  where
    chosen : (b : Bool) → (x == p) ≡ b →
        get_or (slice_set zs x z) p (pos 0) ≡ cond b z (get_or zs p (pos 0))
    chosen true e = subst (λ k. get_or (slice_set zs x z) k (pos 0) ≡ z) (eqb-true x p e)
        (get_or-set_same zs x z (pos 0) l)
    chosen false e = get_or-set_other zs x p z (pos 0) (λ q. eqb-false x p e (sym q))

-- ---- a root before and behind, where a number of it may be set

module _ (i j : RootImage) (set : Bool) (f x : ℕ) (z : ℤ) (is : j ≡ cond set (with_number i f x z) i)
    (low : set ≡ true → x < length (get_or i.fields f [])) where
  column_set : (g : ℕ) → get_or j.fields g []
      ≡ cond (set && (f == g)) (slice_set (get_or i.fields g []) x z) (get_or i.fields g [])
  column_set g = ap (λ (k : RootImage). get_or k.fields g []) is ∙ chosen set low
    where
      chosen : (b : Bool) → (b ≡ true → x < length (get_or i.fields f [])) →
          get_or (cond b (with_number i f x z) i).fields g []
          ≡ cond (b && (f == g)) (slice_set (get_or i.fields g []) x z) (get_or i.fields g [])
      chosen true low = fields_set i.fields f x g z (low refl)
      chosen false low = refl

  one_set : (g p : ℕ) → get_or (get_or j.fields g []) p (pos 0)
      ≡ cond (set && (f == g) && (x == p)) z (get_or (get_or i.fields g []) p (pos 0))
  one_set g p = ap (λ zs. get_or zs p (pos 0)) (column_set g) ∙ chosen set (f == g) refl low
    where
      chosen : (a b : Bool) → (f == g) ≡ b → (a ≡ true → x < length (get_or i.fields f [])) →
          get_or (cond (a && b) (slice_set (get_or i.fields g []) x z) (get_or i.fields g [])) p (pos 0)
          ≡ cond (a && b && (x == p)) z (get_or (get_or i.fields g []) p (pos 0))
      chosen true true d low = number_set (get_or i.fields g []) x p z
          (subst (λ k. x < length (get_or i.fields k [])) (eqb-true f g d) (low refl))
      chosen true false d low = refl
      chosen false b d low = refl

  same_length : (g : ℕ) → length (get_or j.fields g []) ≡ length (get_or i.fields g [])
  same_length g = ap length (column_set g) ∙ chosen (set && (f == g))
    where
      chosen : (b : Bool) →
          length (cond b (slice_set (get_or i.fields g []) x z) (get_or i.fields g [])) ≡ length (get_or i.fields g [])
      chosen true = length-set (get_or i.fields g []) x z
      chosen false = refl

-- ---- the roots

image_in_kept : (rs : List Root) (root f x : ℕ) (z : ℤ) (r : ℕ) →
    image_in (map (kept_in root f x z) rs) r
    ≡ cond (root == r) (with_number (image_in rs r) f x z) (image_in rs r)
image_in_kept [] root f x z r = none (root == r)
  where
    none : (b : Bool) → no_root ≡ cond b (with_number no_root f x z) no_root
    none true = refl
    none false = refl
image_in_kept (k ∷ rs) root f x z r =
    chosen (k.id.0 == root) (k.id.0 == r) (root == r) refl refl refl (image_in_kept rs root f x z r)
  where
    rest : RootImage
    rest = image_in (map (kept_in root f x z) rs) r

    chosen : (a b d : Bool) → (k.id.0 == root) ≡ a → (k.id.0 == r) ≡ b → (root == r) ≡ d →
        rest ≡ cond d (with_number (image_in rs r) f x z) (image_in rs r) →
        image_in (cond a (record k { image = with_number k.image f x z }) k ∷ map (kept_in root f x z) rs) r
        ≡ cond d (with_number (cond b k.image (image_in rs r)) f x z) (cond b k.image (image_in rs r))
    chosen true true true a b d more = ap (λ t. cond t (with_number k.image f x z) rest) b
    chosen true true false a b d more =
        absurd (eqb-false root r d (sym (eqb-true k.id.0 root a) ∙ eqb-true k.id.0 r b))
    chosen true false true a b d more =
        absurd (eqb-false k.id.0 r b (eqb-true k.id.0 root a ∙ eqb-true root r d))
    chosen true false false a b d more = ap (λ t. cond t (with_number k.image f x z) rest) b ∙ more
    chosen false true true a b d more =
        absurd (eqb-false k.id.0 root a (eqb-true k.id.0 r b ∙ sym (eqb-true root r d)))
    chosen false true false a b d more = ap (λ t. cond t k.image rest) b
    chosen false false d a b _ more = ap (λ t. cond t k.image rest) b ∙ more

pub image_kept : (c : Contents) (root f x : ℕ) (z : ℤ) (r : ℕ) →
    image_of (keep c root f x z) r
    ≡ cond (root == r) (with_number (image_of c r) f x z) (image_of c r)
image_kept c root f x z r = image_in_kept c.roots root f x z r

-- a number is set at one point, and nowhere else
pub kept_set : (c : Contents) (root f x : ℕ) (z : ℤ) (r g p : ℕ) → x < length (column_of c root f) →
    kept_at (keep c root f x z) r g p ≡ cond (is_same root f x r g p) z (kept_at c r g p)
kept_set c root f x z r g p l =
    one_set (image_of c r) (image_of (keep c root f x z) r) (root == r) f x z (image_kept c root f x z r)
    (λ e. subst (λ k. x < length (column_of c k f)) (eqb-true root r e) l) g p

pub length_kept : (c : Contents) (root f x : ℕ) (z : ℤ) (r g : ℕ) → x < length (column_of c root f) →
    length (column_of (keep c root f x z) r g) ≡ length (column_of c r g)
length_kept c root f x z r g l =
    same_length (image_of c r) (image_of (keep c root f x z) r) (root == r) f x z (image_kept c root f x z r)
    (λ e. subst (λ k. x < length (column_of c k f)) (eqb-true root r e) l) g

-- ---- the store

pub image_written : (store : Store) (root f x : ℕ) (z : ℤ) (r : ℕ) → root < length store →
    get_or (write_at store root f x z) r no_root
    ≡ cond (root == r) (with_number (get_or store r no_root) f x z) (get_or store r no_root)
image_written store root f x z r l = chosen (root == r) refl
  where
    chosen : (b : Bool) → (root == r) ≡ b → get_or (write_at store root f x z) r no_root
        ≡ cond b (with_number (get_or store r no_root) f x z) (get_or store r no_root)
    chosen true e = subst (λ k. get_or (write_at store root f x z) k no_root
        ≡ with_number (get_or store k no_root) f x z) (eqb-true root r e)
        (get_or-set_same store root _ no_root l)
    chosen false e = get_or-set_other store root r _ no_root (λ q. eqb-false root r e (sym q))

-- a root that has a number is one of the store
pub root_below : (store : Store) (root f x : ℕ) → x < length (column store root f) → root < length store
root_below store root f x l = ⊎_elim (λ e. e)
    (λ e. absurd (empty f (subst (λ (i : RootImage). x < length (get_or i.fields f [])) (get_or-eq_default store no_root e) l)))
    (cases_lt root (length store))
  where
    empty : (k : ℕ) → x < length (get_or no_root.fields k []) → ⊥
    empty zero l = omega (arith, l)
    empty (suc k) l = omega (arith, l)

pub read_written : (store : Store) (root f x : ℕ) (z : ℤ) (r g p : ℕ) → x < length (column store root f) →
    read_at (write_at store root f x z) r g p ≡ cond (is_same root f x r g p) z (read_at store r g p)
read_written store root f x z r g p l =
    one_set (get_or store r no_root) (get_or (write_at store root f x z) r no_root) (root == r) f x z
    (image_written store root f x z r (root_below store root f x l))
    (λ e. subst (λ k. x < length (column store k f)) (eqb-true root r e) l) g p

pub length_written : (store : Store) (root f x : ℕ) (z : ℤ) (r g : ℕ) → x < length (column store root f) →
    length (column (write_at store root f x z) r g) ≡ length (column store r g)
length_written store root f x z r g l =
    same_length (get_or store r no_root) (get_or (write_at store root f x z) r no_root) (root == r) f x z
    (image_written store root f x z r (root_below store root f x l))
    (λ e. subst (λ k. x < length (column store k f)) (eqb-true root r e) l) g
