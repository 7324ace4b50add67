-- What a call needs is within what its caller needs, where each need is covered at each point of its region.
use Rattle.std.proofs.Common.{◌≡◌, ◌⊎◌, inl, inr, ⊎_elim, ℕ, List, [], ◌∷◌, true, Option, Some, None, refl, sym, ap, ◌∙◌, subst}
use Rattle.std.specs.Prelude.{slice_get, ◌==◌}
use Rattle.std.proofs.lemmas.Bool.{and_parts, cases_Bool, eqb-true}
use Rattle.lane_kernels.specs.Modes.{joined}
use Rattle.lane_kernels.specs.declared.numbers.Mode.{Mode}
use Rattle.lane_kernels.specs.declared.numbers.Mode.TheVariants as mode
use Rattle.region_tree.proofs.Joins.{joined-itself, modes_at-here, modes_at-not}
use Rattle.region_tree.specs.Requirements.{Requirement, is_at, is_of, modes_at, join_from, mode_at}
use Rattle.task_code.specs.declared.code.NeedCode.{NeedCode}
use Rattle.machine_terms.specs.declared.value.RegionValue.{RegionValue}
use Rattle.machine_terms.specs.declared.value.Value.{Value}
use Rattle.machine_terms.specs.Opening.{with_points}
use Rattle.machine_terms.specs.Pointers.{region_in}
use Rattle.fit_rules.specs.Shapes.{Among}
use Rattle.fit_rules.specs.Fits.{requires, claim_on, declared_claims, claims}
use Rattle.fit_laws.specs.Within.{CoveredNeedsAreWithin, IsGranted}
use Rattle.fit_laws.proofs.Cover.{Claimed, Joined, Permits, read_reads, write_reads, write_writes, reduce_reduces, write_reduces, by_writing, covered_granted}

-- ---- joins

-- a mode that permits another is the same, or Write
same_or_write : (a c : Mode) → Permits a c → (c ≡ a) ⊎ (c ≡ mode.Write)
same_or_write _ _ read_reads = inl refl
same_or_write _ _ write_reads = inr refl
same_or_write _ _ write_writes = inl refl
same_or_write _ _ (reduce_reduces o) = inl refl
same_or_write _ _ (write_reduces o) = inr refl

-- the join of modes that are all one is that one
joins_to : (c : Mode) (ms : List Mode) → ((m : Mode) → Among ms m → c ≡ m) → join_from (Some c) ms ≡ Some c
joins_to c [] h = refl
joins_to c (m ∷ ms) h = ap (λ d. join_from (Some d) ms) (ap (joined c) (sym (h m (inl refl))) ∙ joined-itself c) ∙ joins_to c ms (λ d i. h d (inr i))

all_or_write : (c : Mode) (ms : List Mode) → ((m : Mode) → Among ms m → (c ≡ m) ⊎ (c ≡ mode.Write)) →
    ((m : Mode) → Among ms m → c ≡ m) ⊎ (c ≡ mode.Write)
all_or_write c [] h = inl (λ m i. absurd i)
all_or_write c (m ∷ ms) h = ⊎_elim
    (λ e. ⊎_elim (λ more. inl (λ d i. ⊎_elim (λ q. e ∙ q) (more d) i)) (λ w. inr w) (all_or_write c ms (λ d i. h d (inr i))))
    (λ w. inr w) (h m (inl refl))

-- what permits each of some modes is their join, or Write
join_met : (o : Option Mode) (ms : List Mode) → ((m : Mode) → Among ms m → Joined m o) →
    (join_from None ms ≡ None) ⊎ ((join_from None ms ≡ o) ⊎ (o ≡ Some mode.Write))
join_met o [] h = inl refl
join_met o (m ∷ ms) h =
    let first = h m (inl refl) in
    let c = first.held in
    inr (⊎_elim
    (λ all. inl (ap (λ d. join_from (Some d) ms) (sym (all m (inl refl))) ∙ joins_to c ms (λ d i. all d (inr i)) ∙ sym first.is))
    (λ w. inr (first.is ∙ ap (λ d. Some d) w))
    (all_or_write c (m ∷ ms) (λ d i. let j = h d i in
    subst (λ e. (e ≡ d) ⊎ (e ≡ mode.Write)) (got (sym j.is ∙ first.is)) (same_or_write d j.held j.permits))))
  where
    got : {a b : Mode} → Some a ≡ Some b → a ≡ b
    got {a} {b} e = ap (λ y. elim y [ None ↦ a | Some d ↦ d ]) e

-- ---- claims

-- each mode at a point is that of a claim there
claimed_mode : (rs : List Requirement) (root f p : ℕ) (m : Mode) → Among (modes_at rs root f p) m → Claimed rs root f p m
claimed_mode [] root f p m h = absurd h
claimed_mode (r ∷ rs) root f p m h = ⊎_elim
    (λ e. ⊎_elim (λ q. record { claim = r; among = inl refl; at = e; in_mode = q })
    (λ i. later (claimed_mode rs root f p m i)) (subst (λ ms. Among ms m) (modes_at-here r rs root f p e) h))
    (λ n. later (claimed_mode rs root f p m (subst (λ ms. Among ms m) (modes_at-not r rs root f p n) h)))
    (cases_Bool (is_at root f p r))
  where
    later : Claimed rs root f p m → Claimed (r ∷ rs) root f p m
    later c = record { claim = c.claim; among = inr c.among; at = c.at; in_mode = c.in_mode }

-- each declared claim is a need on a region
pub record IsOfNeed (ns : List NeedCode) (args : List Value) (c : Requirement) : Type 0 where
  pub need : NeedCode
  pub there : Among ns need
  pub region : RegionValue
  pub argument : region_in (slice_get args need.param) ≡ Some region
  pub is : c ≡ requires region.root.0 region.points need.mode need.field

of_need : (ns : List NeedCode) (args : List Value) (c : Requirement) → Among (declared_claims ns args) c → IsOfNeed ns args c
of_need [] args c h = absurd h
of_need (n ∷ ns) args c h = on (region_in (slice_get args n.param)) refl (of_need ns args c) h
  where
    later : IsOfNeed ns args c → IsOfNeed (n ∷ ns) args c
    later i = record { need = i.need; there = inr i.there; region = i.region; argument = i.argument; is = i.is }

    on_points : (xs : List ℕ) (a : Requirement) → Among (with_points xs a (declared_claims ns args)) c →
        (c ≡ a) ⊎ Among (declared_claims ns args) c
    on_points [] a h = inr h
    on_points (x ∷ xs) a (inl e) = inl (sym e)
    on_points (x ∷ xs) a (inr i) = inr i

    on : (o : Option RegionValue) → region_in (slice_get args n.param) ≡ o → (Among (declared_claims ns args) c → IsOfNeed ns args c) →
        Among (claim_on n o (declared_claims ns args)) c → IsOfNeed (n ∷ ns) args c
    on None q more h = later (more h)
    on (Some r) q more h = ⊎_elim (λ e. record { need = n; there = inl refl; region = r; argument = q; is = e }) (λ i. later (more i))
        (on_points r.points (requires r.root.0 r.points n.mode n.field) h)

pub covered_needs_are_within : CoveredNeedsAreWithin
covered_needs_are_within g x t ns args h root f p =
    join_met (mode_at (claims g x t) root f p) (modes_at (declared_claims ns args) root f p) (λ m i.
    let c = claimed_mode (declared_claims ns args) root f p m i in
    let d = of_need ns args c.claim c.among in
    let at = subst (λ y. is_at root f p y ≡ true) d.is c.at in
    let parts = and_parts (is_of root f (requires d.region.root.0 d.region.points d.need.mode d.need.field)) _ at in
    let of = and_parts (d.region.root.0 == root) _ parts.0 in
    let same : d.need.mode ≡ m = ap (λ (y : Requirement). y.mode) (sym d.is) ∙ c.in_mode in
    let covered = h d.need d.there d.region d.argument p parts.1 in
    joined_at m (subst (λ y. IsGranted g x t root f p y) same
    (subst (λ y. IsGranted g x t root y p d.need.mode) (eqb-true d.need.field f of.1)
    (subst (λ y. IsGranted g x t y d.need.field p d.need.mode) (eqb-true d.region.root.0 root of.0) covered))))
  where
    joined_at : (a : Mode) → IsGranted g x t root f p a → Joined a (mode_at (claims g x t) root f p)
    joined_at a = ⊎_elim (λ c. (covered_granted g x t root f p a c).joined)
        (λ c. by_writing g x t root f p a (covered_granted g x t root f p mode.Write c).joined)
