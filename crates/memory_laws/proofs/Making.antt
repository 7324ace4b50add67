-- A root that was made: the store has one root more, and parts that are held stay.
use Rattle.std.proofs.Common.{◌≡◌, ◌≢◌, ⊎_elim, ℕ, ◌+◌, ◌-◌, ◌<◌, ◌≤◌, List, [], ◌∷◌, ◌++◌, Bool, true, false, Option, Some, None, refl, sym, ap, ◌∙◌, subst, arith}
use Rattle.std.specs.Prelude.{cond, get_or, length, map, ◌==◌}
use Rattle.std.proofs.lemmas.Bool.{and_parts, cases_eq, cases_lt, ltb-true, ne_eqb}
use Rattle.std.proofs.lemmas.List.{append_assoc, length-append, length-map, map-append}
use Rattle.std.proofs.Math.ListN.{get_or-append}
use Rattle.std.proofs.Math.Seq.{get_or-append_right, get_or-append_seam}
use Rattle.plain_values.specs.Points.{IsPoints, points}
use Rattle.point_sets.proofs.Rising.{has-counted_from}
use Rattle.lane_kernels.specs.declared.numbers.Mode.{Mode}
use Rattle.region_tree.specs.declared.needs.Need.{Need}
use Rattle.region_tree.specs.declared.piece.Part.{Part}
use Rattle.region_tree.specs.declared.tree.RootId.{RootId}
use Rattle.region_tree.specs.Requirements.{Requirement, mode_at}
use Rattle.regent_tree.specs.declared.outcome.RootImage.{RootImage}
use Rattle.regent_tree.specs.Laws.{shape_of}
use Rattle.regent_tree.specs.Store.{Store, new_root, no_root, column, read_at}
use Rattle.task_code.specs.declared.code.Code.{Code}
use Rattle.machine_terms.specs.declared.order.Contents.{Contents}
use Rattle.machine_terms.specs.declared.order.Root.{Root}
use Rattle.machine_terms.specs.Contents.{image_of, kept_at, kinds_of, kind_of, with_root}
use Rattle.machine_terms.specs.Makes.{fields_needed, root_needs, root_requirements}
use Rattle.machine_terms.specs.Parts.{part_of, is_needed}
use Rattle.memory_laws.specs.Making.{MadeHolds, MadeIsNumbered, MadeIsOwn}
use Rattle.memory_laws.specs.Memory.{IsKept, StandFor}
use Rattle.memory_laws.specs.Parts.{outline_in, AreHeld, AreNeeds}
use Rattle.memory_laws.specs.Places.{column_of, numbers, number_at}
use Rattle.memory_laws.specs.Seen.{seen, seen_part}
use Rattle.memory_laws.proofs.Closed.{kind_in, number_in, Fits}
use Rattle.memory_laws.proofs.Keeping.{root_below}
use Rattle.memory_laws.proofs.Made.{zero_kept, zero_at, size_of, zeros_fit, number_old, number_new, numbers_more, numbered_more, image_old, images_more, image_made}
use Rattle.memory_laws.proofs.Needing.{parts_other, mode_other, mode_new, needed_still, needed_new}
use Rattle.memory_laws.proofs.Placing.{each_below, image_beyond, images, number_below}
use Rattle.memory_laws.proofs.Shapes.{held_part}

-- a root that wasn't made yet has no part
not_held : (code : Code) (c : Contents) (needs : List Requirement) (ps : List Part) (r f : ℕ) →
    AreHeld code c needs ps → c.made ≤ r → part_of ps r f ≡ None
not_held code c needs ps r f h l = over (part_of ps r f) refl
  where
    over : (o : Option Part) → part_of ps r f ≡ o → o ≡ None
    over None e = refl
    over (Some q) e =
        let a = held_part code c needs ps r f q h e in
        absurd (omega (arith, l, a.0.made, a.1))

module _ (code : Code) (store : Store) (c : Contents) (ps : List Part) (needs : List Requirement)
    (size space : ℕ) (s : StandFor code c ps store) (h : AreHeld code c needs ps) where
  abbrev image : RootImage
  image = new_root space size (kinds_of code space)

  abbrev d : Contents
  d = with_root image c

  abbrev more : Store
  more = store ++ image ∷ []

  stored_old : (r : ℕ) → r < length store → get_or more r no_root ≡ get_or store r no_root
  stored_old r l = get_or-append store (image ∷ []) no_root r l

  stored_new : get_or more (length store) no_root ≡ image
  stored_new = get_or-append_seam store image [] no_root

  same_image : (r : ℕ) → r < length store → image_of d (number_at d r) ≡ image_of c (number_at c r)
  same_image r l =
      let k : r < length c.roots = subst (λ n. r < n) (sym s.count) l in
      ap (image_of d) (number_old c image s.numbered r k)
      ∙ image_old c image s.numbered (number_at c r) (λ q. omega (arith, q, number_below c r s.numbered k))

  new_image : image_of d (number_at d (length store)) ≡ image
  new_image = ap (λ k. image_of d (number_at d k)) (sym s.count)
      ∙ ap (image_of d) (number_new c image s.numbered) ∙ image_made c image s.numbered

  shape_there : (r : ℕ) → shape_of (image_of d (number_at d r)) ≡ shape_of (get_or more r no_root)
  shape_there r = ⊎_elim
      (λ l. ap shape_of (same_image r l) ∙ s.shape r ∙ ap shape_of (sym (stored_old r l)))
      (λ l. ap shape_of (images_more c image s.numbered r
      ∙ get_or-append_right (images c) (image ∷ []) r no_root (subst (λ n. n ≤ r) (sym long) l)
      ∙ ap (λ n. get_or (image ∷ []) (r - n) no_root) long
      ∙ sym (get_or-append_right store (image ∷ []) r no_root l)))
      (cases_lt r (length store))
    where
      long : length (images c) ≡ length store
      long = length-map c.roots (λ (r : Root). r.image) ∙ s.count

  -- a root with a number is an old one or the new one
  by_root : {P : ℕ → Type 0} (r f p : ℕ) → p < length (column more r f) →
      ((r : ℕ) → r < length store → p < length (column store r f) → P r) →
      (p < length (get_or image.fields f []) → P (length store)) → P r
  by_root {P = P} r f p l old new = ⊎_elim
      (λ k. old r k (subst (λ (i : RootImage). p < length (get_or i.fields f [])) (stored_old r k) l))
      (λ k. at (omega (arith, k, root_below more r f p l, length-append store (image ∷ []))))
      (cases_lt r (length store))
    where
      at : r ≡ length store → P r
      at e = subst P (sym e) (new (subst (λ (i : RootImage). p < length (get_or i.fields f []))
          (ap (λ r. get_or more r no_root) e ∙ stored_new) l))

  pub made_stands : StandFor code d ps more
  made_stands = record {
    count = length-append c.roots _ ∙ ap (λ n. n + 1) s.count ∙ sym (length-append store (image ∷ []));
    numbered = numbered_more c image s.numbered;
    shape = shape_there;
    same = λ r f p l. by_root {P = λ r. read_at more r f p ≡ seen d ps (number_at d r) f p} r f p l
        (λ r k l. ap (λ i. number_in i f p) (stored_old r k) ∙ s.same r f p l ∙ seen_old r f p k)
        (λ l. ap (λ i. number_in i f p) (stored_new ∙ sym new_image)
        ∙ ap (seen_part (kept_at d (number_at d (length store)) f p) p) (sym (none_new f)));
    kept = λ r f p l. by_root {P = λ r. IsKept (kind_of code d (number_at d r) f) (read_at more r f p)} r f p l
        (λ r k l. subst (λ i. IsKept (kind_in code i f) (read_at more r f p)) (sym (same_image r k))
        (subst (λ i. IsKept (kind_of code c (number_at c r) f) (number_in i f p)) (sym (stored_old r k)) (s.kept r f p l)))
        (λ l. subst (λ i. IsKept (kind_in code i f) (read_at more (length store) f p)) (sym new_image)
        (subst (λ i. IsKept (kind_in code image f) (number_in i f p)) (sym stored_new)
        (subst (IsKept (kind_in code image f)) (sym (zero_at (kinds_of code space) size f p l)) (zero_kept (kind_in code image f)))));
    fits = λ r. ⊎_elim
        (λ e. subst (Fits code) (sym (ap (image_of d) e ∙ image_made c image s.numbered)) (zeros_fit code space size))
        (λ ne. subst (Fits code) (sym (image_old c image s.numbered r ne)) (s.fits r))
        (cases_eq r c.made);
  }
    where
      seen_old : (r f p : ℕ) → r < length store → seen c ps (number_at c r) f p ≡ seen d ps (number_at d r) f p
      seen_old r f p l =
          ap (λ i. seen_part (number_in i f p) p (part_of ps (number_at c r) f)) (sym (same_image r l))
          ∙ ap (λ n. seen_part (kept_at d (number_at d r) f p) p (part_of ps n f))
          (sym (number_old c image s.numbered r (subst (λ n. r < n) (sym s.count) l)))

      none_new : (f : ℕ) → part_of ps (number_at d (length store)) f ≡ None
      none_new f = ap (λ n. part_of ps n f)
          (ap (number_at d) (sym s.count) ∙ number_new c image s.numbered)
          ∙ not_held code c needs ps c.made f h (omega arith)

-- ---- the parts and needs

held_more : (code : Code) (c : Contents) (image : RootImage) (needs : List Requirement) (xs : List ℕ) (n : ℕ)
    (numbered : IsPoints c.made (numbers c)) (ps : List Part) → AreHeld code c needs ps →
    AreHeld code (with_root image c) (needs ++ root_requirements c.made xs n) ps
held_more code c image needs xs n numbered [] h = tt
held_more code c image needs xs n numbered (q ∷ ps) h =
    let ne : q.root.0 ≢ c.made = λ e. omega (arith, e, h.0.made) in
    let old = sym (image_old c image numbered q.root.0 ne) in (
      record {
        made = omega (arith, h.0.made);
        kind = h.0.kind ∙ ap (λ i. kind_in code i q.field) old;
        outline = h.0.outline ∙ ap (map outline_in) (sym (parts_other needs c.made xs q.root.0 q.field
            (ne_eqb c.made q.root.0 (λ e. ne (sym e))) n));
        reads = λ p b e m. h.0.reads p b e m ∙ ap (λ i. number_in i q.field p) old;
        fits = h.0.fits;
      },
      h.1,
      held_more code c image needs xs n numbered ps h.2,
    )

needs_more : (code : Code) (c : Contents) (size space : ℕ) (needs : List Requirement) (items : List Need)
    (numbered : IsPoints c.made (numbers c)) → AreNeeds c needs items →
    AreNeeds (with_root (new_root space size (kinds_of code space)) c)
    (needs ++ root_requirements c.made (points size) (fields_needed code size space))
    (items ++ root_needs c.made (fields_needed code size space))
needs_more code c size space needs items numbered h root f p m e = ⊎_elim here other (cases_eq root c.made)
  where
    other : root ≢ c.made → (p < length (column_of (with_root (new_root space size (kinds_of code space)) c) root f))
        × (is_needed (items ++ root_needs c.made (fields_needed code size space)) root f ≡ true)
    other ne =
        let n = fields_needed code size space in
        let a = h root f p m (sym (mode_other needs c.made (points size) root f (ne_eqb c.made root (λ q. ne (sym q))) n p) ∙ e) in (
          subst (λ (i : RootImage). p < length (get_or i.fields f []))
              (sym (image_old c (new_root space size (kinds_of code space)) numbered root ne)) a.0,
          needed_still items (root_needs c.made n) root f a.1,
        )

    -- no field of the new root was needed
    none : (o : Option Mode) → mode_at needs c.made f p ≡ o → o ≡ None
    none None q = refl
    none (Some k) q =
        let a = (h c.made f p k q).0 in
        absurd (omega (
          arith,
          subst (λ (i : RootImage). p < length (get_or i.fields f []))
              (image_beyond c.roots c.made (each_below c.made (numbers c) numbered.below)) a,
        ))

    few : (b : Bool) → cond b 0 (length (kinds_of code space)) ≤ length (kinds_of code space)
    few true = omega arith
    few false = omega arith

    here : root ≡ c.made → (p < length (column_of (with_root (new_root space size (kinds_of code space)) c) root f))
        × (is_needed (items ++ root_needs c.made (fields_needed code size space)) root f ≡ true)
    here r =
        let n = fields_needed code size space in
        let a = mode_new needs c.made (points size) f p m (none (mode_at needs c.made f p) refl) n
        (ap (λ k. mode_at (needs ++ root_requirements c.made (points size) n) k f p) (sym r) ∙ e) in
        let low : p < size = omega (
          arith,
          ltb-true p (0 + size)
              (and_parts _ _ (sym (has-counted_from 0 size p) ∙ a.1)).1,
        ) in
        let field : f < length (kinds_of code space) = omega (arith, a.0, few (size == 0)) in (
          subst (λ (i : RootImage). p < length (get_or i.fields f []))
              (sym (ap (image_of (with_root (new_root space size (kinds_of code space)) c)) r
              ∙ image_made c (new_root space size (kinds_of code space)) numbered))
              (subst (λ k. p < k) (sym (size_of (kinds_of code space) size f field)) low),
          ap (λ k. is_needed (items ++ root_needs c.made n) k f) r ∙ needed_new items c.made f n a.0,
        )

-- ---- the laws

pub made_holds : MadeHolds
made_holds code store i size space h =
    let c = i.contents in
    let image = new_root space size (kinds_of code space) in record {
      stands = made_stands code store c i.parts i.needs size space h.stands h.held;
      held = held_more code c image i.needs (points size) (fields_needed code size space) h.stands.numbered i.parts h.held;
      needed = needs_more code c size space i.needs i.frame.needs.items h.stands.numbered h.needed;
    }

pub made_is_numbered : MadeIsNumbered
made_is_numbered code store i size space h =
    let c = i.contents in
    let image = new_root space size (kinds_of code space) in (
      ap (number_at (with_root image c)) (sym h.stands.count) ∙ number_new c image h.stands.numbered,
      numbers_more c image h.stands.numbered,
    )

pub made_is_own : MadeIsOwn
made_is_own code i size space before is =
    map-append (λ (r : Root). r.id.0) i.contents.roots _
    ∙ ap (λ ns. ns ++ i.contents.made ∷ []) is
    ∙ append_assoc before (map (λ (id : RootId). id.0) i.frame.own) (i.contents.made ∷ [])
    ∙ ap (λ ns. before ++ ns) (sym (map-append (λ (id : RootId). id.0) i.frame.own _))
