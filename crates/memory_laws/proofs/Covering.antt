-- Covered touches stay covered, and those of a new root are.
use Rattle.std.proofs.Common.{true, ◌≡◌, inl, inr, ⊎_elim, ℕ, ◌+◌, ◌<◌, ◌≤◌, List, [], ◌∷◌, ◌++◌, false, Option, Some, sym, ap, ◌∙◌, subst, arith}
use Rattle.std.specs.Prelude.{cond, get_or, leb, length, ltb, replicate, ◌==◌}
use Rattle.std.proofs.lemmas.Bool.{and_from, cases_lt, le-leb, lt-ltb, ne_eqb}
use Rattle.std.proofs.lemmas.List.{get_or_default, length-append, length-map}
use Rattle.std.proofs.Math.ListN.{get_or-append, get_or-eq_default}
use Rattle.std.proofs.Math.Seq.{get_or-append_seam}
use Rattle.plain_values.specs.Points.{has, points}
use Rattle.point_sets.proofs.Rising.{has-counted_from}
use Rattle.lane_kernels.specs.declared.numbers.FieldKind.{FieldKind}
use Rattle.lane_kernels.specs.declared.numbers.Mode.{Mode}
use Rattle.lane_kernels.specs.declared.numbers.Mode.TheVariants as mode
use Rattle.regent_tree.specs.Store.{no_root, column, new_root}
use Rattle.regent_tree.specs.declared.outcome.RootImage.{RootImage}
use Rattle.regent_tree.specs.Values.{kept_zero}
use Rattle.machine_terms.specs.declared.order.Root.{Root}
use Rattle.machine_terms.specs.Contents.{kinds_of, with_root}
use Rattle.machine_terms.specs.Makes.{fields_needed, make_root}
use Rattle.region_tree.specs.Requirements.{mode_at}
use Rattle.memory_laws.specs.Covering.{CoveredStays, MadeCovers}
use Rattle.memory_laws.specs.Places.{numbers, number_at}
use Rattle.memory_laws.specs.Touches.{Covers, IsCovered}
use Rattle.memory_laws.proofs.Keeping.{root_below}
use Rattle.memory_laws.proofs.Made.{zeros, size_of, number_old, number_new}
use Rattle.memory_laws.proofs.Needing.{mode_other, mode_written}
use Rattle.memory_laws.proofs.Placing.{number_below}
use Rattle.memory_laws.proofs.Shapes.{length_of, shapes_at}

pub covered_stays : CoveredStays
covered_stays code store after m n passes h same needs roots covered t ok l =
    let low : t.point < length (column store t.root t.field) =
    subst (λ k. t.point < k) (length_of (get_or after t.root no_root) (get_or store t.root no_root) t.field
    (shapes_at store after t.root roots)) l in
    let there : t.root < length (numbers m.contents) = subst (λ k. t.root < k)
    (sym (length-map m.contents.roots (λ (r : Root). r.id.0) ∙ h.stands.count))
    (root_below store t.root t.field t.point low) in
    let at : number_at n.contents t.root ≡ number_at m.contents t.root =
    ap (λ ns. get_or ns t.root n.contents.made) same
    ∙ get_or_default (numbers m.contents) t.root n.contents.made m.contents.made there in
    subst (λ k. Covers t.access (mode_at n.needs k t.field t.point)) (sym at)
    (subst (λ rs. Covers t.access (mode_at rs (number_at m.contents t.root) t.field t.point)) (sym needs)
    (covered t ok low))

-- writing covers every access
written_covers : (a : Mode) (o : Option Mode) → o ≡ Some mode.Write → Covers a o
written_covers mode.Read o e = inr e
written_covers mode.Write o e = e
written_covers (mode.Reduce p) o e = inl e

-- a point that a new root has
in_field : (kinds : List FieldKind) (size f p : ℕ) → p < length (get_or (zeros size kinds) f []) →
    (f < length kinds) × (p < size)
in_field kinds size f p l = ⊎_elim
    (λ k. (k, subst (λ n. p < n) (size_of kinds size f k) l))
    (λ k. absurd (omega (
      arith,
      l,
      ap length (get_or-eq_default (zeros size kinds) [] {n = f}
          (subst (λ n. n ≤ f) (sym (length-map kinds (λ k. replicate size (kept_zero k)))) k)),
    )))
    (cases_lt f (length kinds))

pub made_covers : MadeCovers
made_covers code store i size space passes h covered t ok l =
    ⊎_elim old fresh (cases_lt t.root (length store))
  where
    old : t.root < length store →
        IsCovered (make_root code size space i).contents (make_root code size space i).needs t
    old k =
        let c = i.contents in
        let image = new_root space size (kinds_of code space) in
        let low : t.root < length c.roots = subst (λ n. t.root < n) (sym h.stands.count) k in
        let n = number_at c t.root in
        let ne : (c.made == n) ≡ false =
        ne_eqb c.made n (λ q. omega (arith, q, number_below c t.root h.stands.numbered low)) in
        subst (λ k. Covers t.access (mode_at (make_root code size space i).needs k t.field t.point))
        (sym (number_old c image h.stands.numbered t.root low))
        (subst (Covers t.access) (sym (mode_other i.needs c.made (points size) n t.field ne
        (fields_needed code size space) t.point))
        (covered t ok (subst (λ (r : RootImage). t.point < length (get_or r.fields t.field []))
        (get_or-append store (image ∷ []) no_root t.root k) l)))

    fresh : length store ≤ t.root →
        IsCovered (make_root code size space i).contents (make_root code size space i).needs t
    fresh k =
        let c = i.contents in
        let image = new_root space size (kinds_of code space) in
        let more = store ++ image ∷ [] in
        let last : t.root ≡ length store =
        omega (arith, k, root_below more t.root t.field t.point l, length-append store (image ∷ [])) in
        let at : number_at (with_root image c) t.root ≡ c.made =
        ap (number_at (with_root image c)) (last ∙ sym h.stands.count) ∙ number_new c image h.stands.numbered in
        let there = in_field (kinds_of code space) size t.field t.point
        (subst (λ (r : RootImage). t.point < length (get_or r.fields t.field []))
        (ap (λ r. get_or more r no_root) last ∙ get_or-append_seam store image [] no_root) l) in
        let few : fields_needed code size space ≡ length (kinds_of code space) =
        ap (λ b. cond b 0 (length (kinds_of code space))) (ne_eqb size 0 (λ q. omega (arith, q, there.1))) in
        let inside : has (points size) t.point ≡ true = has-counted_from 0 size t.point
        ∙ and_from (leb 0 t.point) (ltb t.point (0 + size)) (le-leb 0 t.point (omega arith))
        (lt-ltb t.point (0 + size) (omega (arith, there.1))) in
        written_covers t.access _
        (ap (λ k. mode_at (make_root code size space i).needs k t.field t.point) at
        ∙ mode_written i.needs c.made (points size) t.field t.point inside
        (fields_needed code size space) (subst (λ n. t.field < n) (sym few) there.0))
