-- Roots that are closed: the others are as they were.
use Rattle.std.proofs.Common.{◌≡◌, ◌≢◌, inl, inr, ⊎_elim, ℕ, List, [], ◌∷◌, map, Bool, true, false, cond, not, refl, sym, ap, ◌∙◌}
use Rattle.std.specs.Prelude.{filter, ◌==◌}
use Rattle.std.proofs.lemmas.Bool.{eqb-true, ne_eqb, or_cases}
use Rattle.region_tree.specs.declared.tree.RootId.{RootId}
use Rattle.machine_terms.specs.declared.order.Contents.{Contents}
use Rattle.machine_terms.specs.declared.order.Root.{Root}
use Rattle.machine_terms.specs.Contents.{closed, image_in, image_of, is_among}
use Rattle.memory_laws.specs.Places.{numbers}
use Rattle.fit_rules.specs.Shapes.{Among}

abbrev pub ids_of : List RootId → List ℕ
ids_of own = map (λ (r : RootId). r.0) own

-- one of these roots has its number
among_ids : (own : List RootId) (r : Root) → is_among own r ≡ true → Among (ids_of own) r.id.0
among_ids [] r e = absurd cc
among_ids (i ∷ own) r e = ⊎_elim (λ q. inl (sym (eqb-true r.id.0 i.0 q))) (λ q. inr (among_ids own r q)) (or_cases (r.id.0 == i.0) (is_among own r) e)

image_left : (own : List RootId) (rs : List Root) (n : ℕ) → ((m : ℕ) → Among (ids_of own) m → m ≢ n) →
    image_in (filter (λ r. not (is_among own r)) rs) n ≡ image_in rs n
image_left own [] n h = refl
image_left own (r ∷ rs) n h = of (is_among own r) refl (image_left own rs n h)
  where
    of : (b : Bool) → is_among own r ≡ b → image_in (filter (λ r. not (is_among own r)) rs) n ≡ image_in rs n →
        image_in (cond (not b) (r ∷ filter (λ r. not (is_among own r)) rs) (filter (λ r. not (is_among own r)) rs)) n ≡ image_in (r ∷ rs) n
    of true e more = more ∙ ap (λ b. cond b r.image (image_in rs n)) (sym (ne_eqb r.id.0 n (h r.id.0 (among_ids own r e))))
    of false e more = ap (cond (r.id.0 == n) r.image) more

pub image_closed : (own : List RootId) (c : Contents) (n : ℕ) → ((m : ℕ) → Among (ids_of own) m → m ≢ n) → image_of (closed own c) n ≡ image_of c n
image_closed own c n h = image_left own c.roots n h

-- a root that isn't closed is still there
pub numbers_left : (own : List RootId) (c : Contents) (n : ℕ) → ((m : ℕ) → Among (ids_of own) m → m ≢ n) → Among (numbers c) n → Among (numbers (closed own c)) n
numbers_left own c n h a = over c.roots a
  where
    over : (rs : List Root) → Among (map (λ (r : Root). r.id.0) rs) n → Among (map (λ (r : Root). r.id.0) (filter (λ r. not (is_among own r)) rs)) n
    over [] a = a
    over (r ∷ rs) a = of (is_among own r) refl a (over rs)
      where
        of : (b : Bool) → is_among own r ≡ b → Among (map (λ (r : Root). r.id.0) (r ∷ rs)) n →
            (Among (map (λ (r : Root). r.id.0) rs) n → Among (map (λ (r : Root). r.id.0) (filter (λ r. not (is_among own r)) rs)) n) →
            Among (map (λ (r : Root). r.id.0) (cond (not b) (r ∷ filter (λ r. not (is_among own r)) rs) (filter (λ r. not (is_among own r)) rs))) n
        of true e (inl same) more = absurd (h r.id.0 (among_ids own r e) same)
        of true e (inr a) more = more a
        of false e (inl same) more = inl same
        of false e (inr a) more = inr (more a)

pub numbers_closed : (own : List RootId) (c : Contents) (n : ℕ) → Among (numbers (closed own c)) n → Among (numbers c) n
numbers_closed own c n h = over c.roots h
  where
    over : (rs : List Root) → Among (map (λ (r : Root). r.id.0) (filter (λ r. not (is_among own r)) rs)) n → Among (map (λ (r : Root). r.id.0) rs) n
    over [] h = h
    over (r ∷ rs) h = of (is_among own r) h (over rs)
      where
        of : (b : Bool) → Among (map (λ (r : Root). r.id.0) (cond (not b) (r ∷ filter (λ r. not (is_among own r)) rs) (filter (λ r. not (is_among own r)) rs))) n →
            (Among (map (λ (r : Root). r.id.0) (filter (λ r. not (is_among own r)) rs)) n → Among (map (λ (r : Root). r.id.0) rs) n) →
            Among (map (λ (r : Root). r.id.0) (r ∷ rs)) n
        of true h more = inr (more h)
        of false (inl e) more = inl e
        of false (inr h) more = inr (more h)
