-- What is kept of the roots while some fields are lent.
use Rattle.std.specs.Prelude.{slice_set}
use Rattle.std.proofs.Common.{◌≡◌, ◌<◌, ◌&&◌, ◌||◌, ◌==◌, ◌++◌, ℕ, suc, ℤ, Bool, true, false, cond, not, List, [], ◌∷◌, refl, sym, ap, ◌∙◌, subst, map, length, get_or, arith}
use Rattle.std.specs.List.{list_any}
use Rattle.std.proofs.lemmas.Bool.{eqb-true, eq-eqb, true≢false}
use Rattle.std.proofs.lemmas.List.{map-append}
use Rattle.std.proofs.lemmas.List.Folds.{list_any-append}
use Rattle.lane_kernels.specs.declared.numbers.FieldKind.{FieldKind}
use Rattle.lane_kernels.specs.declared.numbers.Mode.TheVariants.{Write}
use Rattle.plain_values.specs.Points.{points}
use Rattle.region_tree.specs.Pieces.{Held}
use Rattle.regent_tree.specs.declared.outcome.RootImage.{RootImage}
use Rattle.machine_terms.specs.declared.order.Contents.{Contents}
use Rattle.machine_terms.specs.declared.order.Root.{Root}
use Rattle.machine_terms.specs.Contents.{image_in, image_of, with_root}
use Rattle.machine_terms.specs.Copies.{give_pieces}
use Rattle.plain_store.specs.declared.loan.Loan.{Loan}
use Rattle.plain_store.specs.Columns.{IsThere, column_of, is_alone, is_root, pieces_given, put_column, with_column}
use Rattle.plain_store.specs.Keys.{is_lent, is_loan_of}
use Rattle.plain_store.specs.Loans.{AreLent, MayBeLent}
use Rattle.plain_store.proofs.ColumnLaws.{alone_put, column_other, put_commutes, put_twice, shape, shape_put}
use Rattle.plain_store.proofs.Giving.{all_written, pieces_go}

-- ---- fields that are lent, and others

or_first : (a b : Bool) → (a || b) ≡ false → a ≡ false
or_first true b e = e
or_first false b e = refl

or_second : (a b : Bool) → (a || b) ≡ false → b ≡ false
or_second true b e = absurd (true≢false e)
or_second false b e = e

same_turned : (a b : ℕ) → (a == b) ≡ (b == a)
same_turned a b = go (a == b) (b == a) refl refl
  where
    go : (p q : Bool) → (a == b) ≡ p → (b == a) ≡ q → p ≡ q
    go true q e d = sym (eq-eqb b a (sym (eqb-true a b e))) ∙ d
    go false true e d = sym e ∙ eq-eqb a b (sym (eqb-true b a d))
    go false false e d = refl

pub keys_turned : (a b f g : ℕ) → ((a == b) && (f == g)) ≡ false → ((b == a) && (g == f)) ≡ false
keys_turned a b f g e = ap (λ (x : Bool). x && (g == f)) (same_turned b a) ∙
    ap (λ (x : Bool). (a == b) && x) (same_turned g f) ∙ e

-- ---- what is kept of other fields

pub kept_made : (ls : List Loan) (c k : Contents) → AreLent ls c k → k.made ≡ c.made
kept_made [] c k h = ap (λ (x : Contents). x.made) h
kept_made (l ∷ ls) c k h = kept_made ls (put_column l.root.0 l.field [] c) k h.others

pub kept_column : (ls : List Loan) (c k : Contents) (root f : ℕ) → AreLent ls c k →
    is_lent ls root f ≡ false → column_of k root f ≡ column_of c root f
kept_column [] c k root f h n = ap (λ (x : Contents). column_of x root f) h
kept_column (l ∷ ls) c k root f h n =
    kept_column ls (put_column l.root.0 l.field [] c) k root f h.others (or_second (is_loan_of root f l) (is_lent ls root f) n) ∙
    column_other c l.root.0 l.field root f [] (or_first (is_loan_of root f l) (is_lent ls root f) n)

pub kept_shape : (ls : List Loan) (c k : Contents) (root : ℕ) → AreLent ls c k →
    shape (image_of k root) ≡ shape (image_of c root)
kept_shape [] c k root h = ap (λ (x : Contents). shape (image_of x root)) h
kept_shape (l ∷ ls) c k root h = kept_shape ls (put_column l.root.0 l.field [] c) k root h.others ∙
    shape_put c.roots l.root.0 root l.field []

kept_alone : (ls : List Loan) (c k : Contents) (root : ℕ) → AreLent ls c k →
    is_alone k.roots root ≡ is_alone c.roots root
kept_alone [] c k root h = ap (λ (x : Contents). is_alone x.roots root) h
kept_alone (l ∷ ls) c k root h = kept_alone ls (put_column l.root.0 l.field [] c) k root h.others ∙
    alone_put c.roots root l.root.0 l.field []

pub there_in_whole : (ls : List Loan) (c k : Contents) (root f : ℕ) → AreLent ls c k → IsThere k root f →
    IsThere c root f
there_in_whole ls c k root f h t = record {
  alone = sym (kept_alone ls c k root h) ∙ t.alone;
  inside = subst (λ (s : ℕ × ℕ). f < s.1) (kept_shape ls c k root h) t.inside;
}

there_put : (c : Contents) (root f other g : ℕ) (zs : List ℤ) → IsThere c root f →
    IsThere (put_column other g zs c) root f
there_put c root f other g zs t = record {
  alone = alone_put c.roots root other g zs ∙ t.alone;
  inside = subst (λ (s : ℕ × ℕ). f < s.1) (sym (shape_put c.roots other root g zs)) t.inside;
}

-- ---- a field that isn't lent gets other numbers

pub put_beside : (ls : List Loan) (c k : Contents) (root f : ℕ) (zs : List ℤ) → is_lent ls root f ≡ false →
    AreLent ls c k → AreLent ls (put_column root f zs c) (put_column root f zs k)
put_beside [] c k root f zs n h = ap (put_column root f zs) h
put_beside (l ∷ ls) c k root f zs n h =
    let this = or_first (is_loan_of root f l) (is_lent ls root f) n in
    let rest = or_second (is_loan_of root f l) (is_lent ls root f) n in
    let turned = keys_turned l.root.0 root l.field f this in record {
      first = record {
        there = there_put c l.root.0 l.field root f zs h.first.there;
        count = ap length (column_other c root f l.root.0 l.field zs turned) ∙ h.first.count;
        made = h.first.made;
      };
      once = h.once;
      others = subst (λ (x : Contents). AreLent ls x (put_column root f zs k))
          (put_commutes c root f l.root.0 l.field zs [] turned)
          (put_beside ls (put_column l.root.0 l.field [] c) k root f zs rest h.others);
    }

-- ---- one field more is lent

lent_last : (ls : List Loan) (l : Loan) (root f : ℕ) → is_lent ls root f ≡ false →
    is_loan_of root f l ≡ false → is_lent (ls ++ l ∷ []) root f ≡ false
lent_last ls l root f n e = list_any-append (is_loan_of root f) ls (l ∷ []) ∙
    ap (λ (b : Bool). b || (is_loan_of root f l || false)) n ∙ ap (λ (b : Bool). b || false) e

pub lent_next : (ls : List Loan) (l : Loan) (c k : Contents) → AreLent ls c k → MayBeLent k l →
    is_lent ls l.root.0 l.field ≡ false →
    AreLent (ls ++ l ∷ []) c (put_column l.root.0 l.field [] k)
lent_next [] l c k h m n = record {
  first = subst (λ (x : Contents). MayBeLent x l) h m;
  once = refl;
  others = ap (put_column l.root.0 l.field []) h;
}
lent_next (p ∷ ps) l c k h m n =
    let this = or_first (is_loan_of l.root.0 l.field p) (is_lent ps l.root.0 l.field) n in
    let rest = or_second (is_loan_of l.root.0 l.field p) (is_lent ps l.root.0 l.field) n in record {
      first = h.first;
      once = lent_last ps l p.root.0 p.field h.once (keys_turned p.root.0 l.root.0 p.field l.field this);
      others = lent_next ps l (put_column p.root.0 p.field [] c) k h.others m rest;
    }

-- ---- parts go back

pub pieces_back : (kind : FieldKind) (hs : List Held) (ls : List Loan) (c k : Contents) (root f : ℕ) →
    AreLent ls c k → is_lent ls root f ≡ false → IsThere k root f →
    AreLent ls (give_pieces kind root f hs c)
    (put_column root f (pieces_given kind hs (column_of k root f)) k)
pieces_back kind hs ls c k root f h n t =
    subst (λ (x : Contents). AreLent ls x (put_column root f (pieces_given kind hs (column_of k root f)) k))
    (ap (λ (zs : List ℤ). put_column root f (pieces_given kind hs zs) c) (kept_column ls c k root f h n) ∙
    sym (pieces_go kind root f hs c (there_in_whole ls c k root f h t)))
    (put_beside ls c k root f (pieces_given kind hs (column_of k root f)) n h)

-- a piece for writing of all points
abbrev pub all_of : List ℤ → Held
all_of zs = record { points = points (length zs); mode = Write; values = zs }

pub loan_back : (kind : FieldKind) (zs : List ℤ) (l : Loan) (ls : List Loan) (c k : Contents) →
    AreLent (l ∷ ls) c k → length zs ≡ l.count →
    AreLent ls (give_pieces kind l.root.0 l.field (all_of zs ∷ []) c) (put_column l.root.0 l.field zs k)
loan_back kind zs l ls c k h e =
    subst (λ (x : Contents). AreLent ls x (put_column l.root.0 l.field zs k))
    (put_twice c l.root.0 l.field [] zs ∙
    sym (pieces_go kind l.root.0 l.field (all_of zs ∷ []) c h.first.there ∙
    ap (λ (ys : List ℤ). put_column l.root.0 l.field ys c)
    (all_written kind zs (column_of c l.root.0 l.field) (h.first.count ∙ sym e))))
    (put_beside ls (put_column l.root.0 l.field [] c) k l.root.0 l.field zs h.once h.others)

-- ---- a root is made

behind_alone : (rs : List Root) (new : Root) (root : ℕ) → (new.id.0 == root) ≡ false →
    is_alone rs root ≡ true → is_alone (rs ++ new ∷ []) root ≡ true
behind_alone [] new root n h = absurd (true≢false (sym h))
behind_alone (r ∷ rs) new root n h = go (r.id.0 == root) refl h (behind_alone rs new root n)
  where
    none : list_any (is_root root) (rs ++ new ∷ []) ≡ list_any (is_root root) rs
    none = list_any-append (is_root root) rs (new ∷ []) ∙
        ap (λ (b : Bool). list_any (is_root root) rs || (b || false)) n ∙ or_none (list_any (is_root root) rs)
      where
        or_none : (b : Bool) → (b || false) ≡ b
        or_none true = refl
        or_none false = refl

    go : (b : Bool) → (r.id.0 == root) ≡ b →
        cond b (not (list_any (is_root root) rs)) (is_alone rs root) ≡ true →
        (is_alone rs root ≡ true → is_alone (rs ++ new ∷ []) root ≡ true) →
        is_alone (r ∷ (rs ++ new ∷ [])) root ≡ true
    go true e k more = ap (λ (b : Bool). cond b (not (list_any (is_root root) (rs ++ new ∷ [])))
        (is_alone (rs ++ new ∷ []) root)) e ∙ ap not none ∙ k
    go false e k more = ap (λ (b : Bool). cond b (not (list_any (is_root root) (rs ++ new ∷ [])))
        (is_alone (rs ++ new ∷ []) root)) e ∙ more k

behind_image : (rs : List Root) (new : Root) (root : ℕ) → is_alone rs root ≡ true →
    image_in (rs ++ new ∷ []) root ≡ image_in rs root
behind_image [] new root h = absurd (true≢false (sym h))
behind_image (r ∷ rs) new root h = go (r.id.0 == root) refl h (behind_image rs new root)
  where
    go : (b : Bool) → (r.id.0 == root) ≡ b →
        cond b (not (list_any (is_root root) rs)) (is_alone rs root) ≡ true →
        (is_alone rs root ≡ true → image_in (rs ++ new ∷ []) root ≡ image_in rs root) →
        cond (r.id.0 == root) r.image (image_in (rs ++ new ∷ []) root)
        ≡ cond (r.id.0 == root) r.image (image_in rs root)
    go true e k more = ap (λ (b : Bool). cond b r.image (image_in (rs ++ new ∷ []) root)) e ∙
        sym (ap (λ (b : Bool). cond b r.image (image_in rs root)) e)
    go false e k more = ap (λ (m : RootImage). cond (r.id.0 == root) r.image m) (more k)

other_number : (a b : ℕ) → a < b → (b == a) ≡ false
other_number a b l = go (b == a) refl
  where
    go : (q : Bool) → (b == a) ≡ q → q ≡ false
    go true e = let same = eqb-true b a e in absurd (omega (arith, l, same))
    go false e = refl

put_before : (c : Contents) (image : RootImage) (root f : ℕ) (zs : List ℤ) → root < c.made →
    with_root image (put_column root f zs c) ≡ put_column root f zs (with_root image c)
put_before c image root f zs l =
    let new : Root = record { id = record { 0 = c.made }; image = image } in
    let itself : with_column root f zs new ≡ new = ap (λ (b : Bool). cond b
    (record new { image = record image { fields = slice_set image.fields f zs } }) new)
    (other_number root c.made l) in
    ap (λ (rs : List Root). record { made = suc c.made; roots = rs })
    (ap (λ (r : Root). map (with_column root f zs) c.roots ++ r ∷ []) (sym itself) ∙
    sym (map-append (with_column root f zs) c.roots (new ∷ [])))

pub made_beside : (ls : List Loan) (c k : Contents) (image : RootImage) → AreLent ls c k →
    AreLent ls (with_root image c) (with_root image k)
made_beside [] c k image h = ap (with_root image) h
made_beside (l ∷ ls) c k image h =
    let new : Root = record { id = record { 0 = c.made }; image = image } in
    let same = behind_image c.roots new l.root.0 h.first.there.alone in record {
      first = record {
        there = record {
          alone = behind_alone c.roots new l.root.0 (other_number l.root.0 c.made h.first.made)
              h.first.there.alone;
          inside = subst (λ (m : RootImage). l.field < length m.fields) (sym same) h.first.there.inside;
        };
        count = ap (λ (m : RootImage). length (get_or m.fields l.field [])) same ∙ h.first.count;
        made = let below = h.first.made in omega (arith, below);
      };
      once = h.once;
      others = subst (λ (x : Contents). AreLent ls x (with_root image k))
          (put_before c image l.root.0 l.field [] h.first.made)
          (made_beside ls (put_column l.root.0 l.field [] c) k image h.others);
    }
