-- Lists of numbers that are put in the place of a field's.
use Rattle.std.proofs.Common.{◌≡◌, ◌≢◌, ◌<◌, ◌&&◌, ◌||◌, ◌==◌, ℕ, zero, suc, ℤ, Bool, true, false, cond, not, List, [], ◌∷◌, refl, sym, ap, ◌∙◌, subst, map, length, get_or}
use Rattle.std.specs.Prelude.{slice_set}
use Rattle.std.specs.List.{list_any}
use Rattle.std.proofs.lemmas.Bool.{eqb-true, eqb-false, eq-eqb, true≢false}
use Rattle.std.proofs.lemmas.List.{get_or-set_same, get_or-set_other, length-set, set_comm, set-get_or, set-set}
use Rattle.region_tree.specs.declared.tree.RootId.{RootId}
use Rattle.regent_tree.specs.declared.outcome.RootImage.{RootImage}
use Rattle.machine_terms.specs.declared.order.Contents.{Contents}
use Rattle.machine_terms.specs.declared.order.Root.{Root}
use Rattle.machine_terms.specs.Contents.{image_in, image_of, keep, kept_in, with_number}
use Rattle.plain_store.specs.Columns.{column_of, is_alone, is_root, put_column, with_column}

-- ---- lists that are mapped twice

maps_alike : {A : Type 0} (g h k l : A → A) → ((x : A) → g (h x) ≡ k (l x)) → (xs : List A) →
    map g (map h xs) ≡ map k (map l xs)
maps_alike g h k l e [] = refl
maps_alike g h k l e (x ∷ xs) = ap (λ y. y ∷ map g (map h xs)) (e x) ∙
    ap (λ ys. k (l x) ∷ ys) (maps_alike g h k l e xs)

maps_as : {A : Type 0} (g h k : A → A) → ((x : A) → g (h x) ≡ k x) → (xs : List A) →
    map g (map h xs) ≡ map k xs
maps_as g h k e [] = refl
maps_as g h k e (x ∷ xs) = ap (λ y. y ∷ map g (map h xs)) (e x) ∙
    ap (λ ys. k x ∷ ys) (maps_as g h k e xs)

-- ---- one root

abbrev with_if : Bool → ℕ → List ℤ → Root → Root
with_if b field zs r = cond b
    (record r { image = record r.image { fields = slice_set r.image.fields field zs } }) r

id_if : (b : Bool) (field : ℕ) (zs : List ℤ) (r : Root) → (with_if b field zs r).id ≡ r.id
id_if true field zs r = refl
id_if false field zs r = refl

pub same_number : (n root field : ℕ) (zs : List ℤ) (r : Root) →
    is_root n (with_column root field zs r) ≡ is_root n r
same_number n root field zs r =
    ap (λ (i : RootId). i.0 == n) (id_if (r.id.0 == root) field zs r)

twice_if : (b c : Bool) (f : ℕ) (ys zs : List ℤ) (r : Root) → c ≡ b →
    with_if c f zs (with_if b f ys r) ≡ with_if b f zs r
twice_if true c f ys zs r e = ap (λ (d : Bool). with_if d f zs (with_if true f ys r)) e ∙
    ap (λ (fs : List (List ℤ)). record r { image = record r.image { fields = fs } })
    (set-set r.image.fields f ys zs)
twice_if false c f ys zs r e = ap (λ (d : Bool). with_if d f zs r) e

pub put_twice : (c : Contents) (root f : ℕ) (ys zs : List ℤ) →
    put_column root f zs (put_column root f ys c) ≡ put_column root f zs c
put_twice c root f ys zs = ap (λ (rs : List Root). record c { roots = rs })
    (maps_as (with_column root f zs) (with_column root f ys) (with_column root f zs)
    (λ r. twice_if (r.id.0 == root) _ f ys zs r (same_number root root f ys r)) c.roots)

pub put_again : (root f : ℕ) (k rest given : Contents) (xs ys zs : List ℤ) → rest ≡ put_column root f xs k →
    given ≡ put_column root f zs rest → zs ≡ ys → given ≡ put_column root f ys k
put_again root f k rest given xs ys zs out back is = back ∙ ap (put_column root f zs) out ∙
    put_twice k root f xs zs ∙ ap (λ (xs : List ℤ). put_column root f xs k) is

-- ---- one number

number_set : (fs : List (List ℤ)) (f p : ℕ) (z : ℤ) (zs : List ℤ) →
    slice_set (slice_set fs f zs) f (slice_set (get_or (slice_set fs f zs) f []) p z)
    ≡ slice_set fs f (slice_set zs p z)
number_set [] f p z zs = refl
number_set (x ∷ xs) zero p z zs = refl
number_set (x ∷ xs) (suc f) p z zs = ap (λ ys. x ∷ ys) (number_set xs f p z zs)

abbrev kept_if : Bool → ℕ → ℕ → ℤ → Root → Root
kept_if b f p z r = cond b (record r { image = with_number r.image f p z }) r

keep_if : (b c : Bool) (f p : ℕ) (z : ℤ) (zs : List ℤ) (r : Root) → c ≡ b →
    kept_if c f p z (with_if b f zs r) ≡ with_if b f (slice_set zs p z) r
keep_if true c f p z zs r e = ap (λ (d : Bool). kept_if d f p z (with_if true f zs r)) e ∙
    ap (λ (fs : List (List ℤ)). record r { image = record r.image { fields = fs } })
    (number_set r.image.fields f p z zs)
keep_if false c f p z zs r e = ap (λ (d : Bool). kept_if d f p z r) e

pub keep_put : (c : Contents) (root f p : ℕ) (z : ℤ) (zs : List ℤ) →
    keep (put_column root f zs c) root f p z ≡ put_column root f (slice_set zs p z) c
keep_put c root f p z zs = ap (λ (rs : List Root). record c { roots = rs })
    (maps_as (kept_in root f p z) (with_column root f zs) (with_column root f (slice_set zs p z))
    (λ r. keep_if (r.id.0 == root) _ f p z zs r (same_number root root f zs r)) c.roots)

-- ---- what is read of the root itself

abbrev image_with : ℕ → List ℤ → RootImage → RootImage
image_with f zs m = record m { fields = slice_set m.fields f zs }

image_if : (b c : Bool) (f : ℕ) (zs : List ℤ) (r : Root) (rest after : RootImage) → c ≡ b →
    after ≡ image_with f zs rest →
    cond c (with_if b f zs r).image after ≡ image_with f zs (cond b r.image rest)
image_if true c f zs r rest after e h = ap (λ (d : Bool). cond d (with_if true f zs r).image after) e
image_if false c f zs r rest after e h = ap (λ (d : Bool). cond d r.image after) e ∙ h

image_put : (rs : List Root) (root f : ℕ) (zs : List ℤ) →
    image_in (map (with_column root f zs) rs) root ≡ image_with f zs (image_in rs root)
image_put [] root f zs = refl
image_put (r ∷ rs) root f zs = image_if (r.id.0 == root) _ f zs r (image_in rs root) _
    (same_number root root f zs r) (image_put rs root f zs)

pub column_put : (c : Contents) (root f : ℕ) (zs : List ℤ) → f < length (image_of c root).fields →
    column_of (put_column root f zs c) root f ≡ zs
column_put c root f zs h = ap (λ (m : RootImage). get_or m.fields f []) (image_put c.roots root f zs) ∙
    get_or-set_same (image_of c root).fields f zs [] h

-- ---- what is read of other fields

other_if : (b d c : Bool) (f : ℕ) (zs : List ℤ) (r : Root) (rest after : RootImage) → c ≡ d →
    (b ≡ true → d ≡ false) → after ≡ rest →
    cond c (with_if b f zs r).image after ≡ cond d r.image rest
other_if true d c f zs r rest after e h k =
    ap (λ (x : Bool). cond x (with_if true f zs r).image after) (e ∙ h refl) ∙ k ∙
    sym (ap (λ (x : Bool). cond x r.image rest) (h refl))
other_if false d c f zs r rest after e h k = ap (λ (x : Bool). cond x r.image after) e ∙
    ap (λ (m : RootImage). cond d r.image m) k

image_other : (rs : List Root) (root other f : ℕ) (zs : List ℤ) → (root == other) ≡ false →
    image_in (map (with_column root f zs) rs) other ≡ image_in rs other
image_other [] root other f zs h = refl
image_other (r ∷ rs) root other f zs h =
    other_if (r.id.0 == root) (r.id.0 == other) _ f zs r (image_in rs other) _
    (same_number other root f zs r)
    (λ e. ap (λ (n : ℕ). n == other) (eqb-true r.id.0 root e) ∙ h) (image_other rs root other f zs h)

pub column_other : (c : Contents) (root f other g : ℕ) (zs : List ℤ) →
    ((root == other) && (f == g)) ≡ false →
    column_of (put_column root f zs c) other g ≡ column_of c other g
column_other c root f other g zs h = go (root == other) refl h
  where
    go : (b : Bool) → (root == other) ≡ b → (b && (f == g)) ≡ false →
        column_of (put_column root f zs c) other g ≡ column_of c other g
    go true e d = subst (λ (n : ℕ). column_of (put_column root f zs c) n g ≡ column_of c n g)
        (eqb-true root other e)
        (ap (λ (m : RootImage). get_or m.fields g []) (image_put c.roots root f zs) ∙
        get_or-set_other (image_of c root).fields f g zs [] (λ k. eqb-false f g d (sym k)))
    go false e d = ap (λ (m : RootImage). get_or m.fields g []) (image_other c.roots root other f zs e)

-- ---- what no list of numbers changes

abbrev pub shape : RootImage → ℕ × ℕ
shape m = (m.space, length m.fields)

shape_if : (b d : Bool) (f : ℕ) (zs : List ℤ) (r : Root) (rest after : RootImage) →
    shape after ≡ shape rest → shape (cond d (with_if b f zs r).image after) ≡ shape (cond d r.image rest)
shape_if true true f zs r rest after h =
    ap (λ (n : ℕ). (r.image.space, n)) (length-set r.image.fields f zs)
shape_if false true f zs r rest after h = refl
shape_if true false f zs r rest after h = h
shape_if false false f zs r rest after h = h

pub shape_put : (rs : List Root) (root other f : ℕ) (zs : List ℤ) →
    shape (image_in (map (with_column root f zs) rs) other) ≡ shape (image_in rs other)
shape_put [] root other f zs = refl
shape_put (r ∷ rs) root other f zs =
    ap (λ (d : Bool). shape (cond d (with_column root f zs r).image
    (image_in (map (with_column root f zs) rs) other))) (same_number other root f zs r) ∙
    shape_if (r.id.0 == root) (r.id.0 == other) f zs r (image_in rs other) _
    (shape_put rs root other f zs)

any_put : (rs : List Root) (n root f : ℕ) (zs : List ℤ) →
    list_any (is_root n) (map (with_column root f zs) rs) ≡ list_any (is_root n) rs
any_put [] n root f zs = refl
any_put (r ∷ rs) n root f zs =
    ap (λ (b : Bool). b || list_any (is_root n) (map (with_column root f zs) rs))
    (same_number n root f zs r) ∙ ap (λ (b : Bool). is_root n r || b) (any_put rs n root f zs)

pub alone_put : (rs : List Root) (n root f : ℕ) (zs : List ℤ) →
    is_alone (map (with_column root f zs) rs) n ≡ is_alone rs n
alone_put [] n root f zs = refl
alone_put (r ∷ rs) n root f zs =
    let more = map (with_column root f zs) rs in
    ap (λ (b : Bool). cond b (not (list_any (is_root n) more)) (is_alone more n))
    (same_number n root f zs r) ∙
    ap (λ (b : Bool). cond (is_root n r) (not b) (is_alone more n)) (any_put rs n root f zs) ∙
    ap (λ (b : Bool). cond (is_root n r) (not (list_any (is_root n) rs)) b) (alone_put rs n root f zs)

-- ---- two fields

commute_if : (b d : Bool) (f g : ℕ) (ys zs : List ℤ) (r : Root) → (b ≡ true → d ≡ true → g ≢ f) →
    with_if b f ys (with_if d g zs r) ≡ with_if d g zs (with_if b f ys r)
commute_if true true f g ys zs r h =
    ap (λ (fs : List (List ℤ)). record r { image = record r.image { fields = fs } })
    (set_comm r.image.fields g f zs ys (h refl refl))
commute_if true false f g ys zs r h = refl
commute_if false true f g ys zs r h = refl
commute_if false false f g ys zs r h = refl

both_same : (n root other : ℕ) → (n == root) ≡ true → (n == other) ≡ true → (root == other) ≡ true
both_same n root other a b = eq-eqb root other (sym (eqb-true n root a) ∙ eqb-true n other b)

pub put_commutes : (c : Contents) (root f other g : ℕ) (ys zs : List ℤ) →
    ((root == other) && (f == g)) ≡ false →
    put_column root f ys (put_column other g zs c) ≡ put_column other g zs (put_column root f ys c)
put_commutes c root f other g ys zs h = ap (λ (rs : List Root). record c { roots = rs })
    (maps_alike (with_column root f ys) (with_column other g zs) (with_column other g zs)
    (with_column root f ys) each c.roots)
  where
    apart : (n : ℕ) → (n == root) ≡ true → (n == other) ≡ true → g ≢ f
    apart n a b k = eqb-false f g (ap (λ (x : Bool). x && (f == g)) (sym (both_same n root other a b)) ∙ h) (sym k)

    each : (r : Root) → with_column root f ys (with_column other g zs r)
        ≡ with_column other g zs (with_column root f ys r)
    each r =
        ap (λ (b : Bool). with_if b f ys (with_column other g zs r)) (same_number root other g zs r) ∙
        commute_if (r.id.0 == root) (r.id.0 == other) f g ys zs r (apart r.id.0) ∙
        sym (ap (λ (b : Bool). with_if b g zs (with_column root f ys r)) (same_number other root f ys r))

-- ---- a field's own numbers

pub absent_kept : (rs : List Root) (root f : ℕ) (zs : List ℤ) → list_any (is_root root) rs ≡ false →
    map (with_column root f zs) rs ≡ rs
absent_kept [] root f zs h = refl
absent_kept (r ∷ rs) root f zs h = go (r.id.0 == root) refl h (absent_kept rs root f zs)
  where
    go : (b : Bool) → (r.id.0 == root) ≡ b → (b || list_any (is_root root) rs) ≡ false →
        (list_any (is_root root) rs ≡ false → map (with_column root f zs) rs ≡ rs) →
        map (with_column root f zs) (r ∷ rs) ≡ r ∷ rs
    go true e d more = absurd (true≢false d)
    go false e d more = ap (λ (b : Bool). with_if b f zs r ∷ map (with_column root f zs) rs) e ∙
        ap (λ (ys : List Root). r ∷ ys) (more d)

pub not_true : (b : Bool) → not b ≡ true → b ≡ false
not_true true e = absurd (true≢false (sym e))
not_true false e = refl

own_in : (rs : List Root) (root f : ℕ) (zs : List ℤ) → zs ≡ get_or (image_in rs root).fields f [] →
    is_alone rs root ≡ true → map (with_column root f zs) rs ≡ rs
own_in [] root f zs e h = refl
own_in (r ∷ rs) root f zs e h = go (r.id.0 == root) refl h (own_in rs root f zs)
  where
    go : (b : Bool) → (r.id.0 == root) ≡ b →
        cond b (not (list_any (is_root root) rs)) (is_alone rs root) ≡ true →
        (zs ≡ get_or (image_in rs root).fields f [] → is_alone rs root ≡ true →
        map (with_column root f zs) rs ≡ rs) →
        map (with_column root f zs) (r ∷ rs) ≡ r ∷ rs
    go true d k more =
        let is = e ∙ ap (λ (b : Bool). get_or (cond b r.image (image_in rs root)).fields f []) d in
        ap (λ (b : Bool). with_if b f zs r ∷ map (with_column root f zs) rs) d ∙
        ap (λ (fs : List (List ℤ)). record r { image = record r.image { fields = fs } }
        ∷ map (with_column root f zs) rs)
        (ap (λ (ys : List ℤ). slice_set r.image.fields f ys) is ∙ set-get_or r.image.fields f []) ∙
        ap (λ (ys : List Root). r ∷ ys)
        (absent_kept rs root f zs (not_true (list_any (is_root root) rs) k))
    go false d k more =
        let is = e ∙ ap (λ (b : Bool). get_or (cond b r.image (image_in rs root)).fields f []) d in
        ap (λ (b : Bool). with_if b f zs r ∷ map (with_column root f zs) rs) d ∙
        ap (λ (ys : List Root). r ∷ ys) (more is k)

pub put_own : (c : Contents) (root f : ℕ) → is_alone c.roots root ≡ true →
    put_column root f (column_of c root f) c ≡ c
put_own c root f h = ap (λ (rs : List Root). record c { roots = rs })
    (own_in c.roots root f (column_of c root f) refl h)
