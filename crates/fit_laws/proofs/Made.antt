-- What the run in order makes is what is asked of what is made.
use Rattle.std.proofs.Common.{◌≡◌, inl, inr, ℕ, zero, suc, ◌+◌, List, [], ◌∷◌, map, cond, refl, sym, ap, subst, arith}
use Rattle.std.specs.Prelude.{length}
use Rattle.std.proofs.lemmas.Bool.{ne_eqb}
use Rattle.lane_kernels.specs.declared.numbers.Mode.TheVariants as mode
use Rattle.plain_values.specs.Points.{points}
use Rattle.partitions.proofs.Colours.{colours_more}
use Rattle.machine_terms.specs.declared.value.RegionValue.{RegionValue}
use Rattle.machine_terms.specs.Contents.{kinds_of}
use Rattle.machine_terms.specs.Makes.{region_with, root_needs}
use Rattle.fit_rules.specs.Shapes.{Among}
use Rattle.fit_rules.specs.Fits.{requires, root_claims, AreClaims, no_claims, a_claim}
use Rattle.fit_laws.specs.Makes.{RootsAreClaimed, PartitionsAreMade}
use Rattle.fit_laws.proofs.Rooting.{claims_both}

fields_claimed : (root : ℕ) (xs : List ℕ) (n : ℕ) →
    AreClaims (root_needs root n) (map (requires root xs mode.Write) (points n))
fields_claimed root xs zero = no_claims
fields_claimed root xs (suc n) =
    let same : n + 1 ≡ suc n = omega arith in
    subst (λ k. AreClaims (root_needs root (suc n)) (map (requires root xs mode.Write) (points k))) same
    (subst (AreClaims (root_needs root (suc n))) (sym (colours_more (requires root xs mode.Write) n))
    (claims_both _ _ _ _ (fields_claimed root xs n) (a_claim _ _ _ _ refl refl refl no_claims)))

pub roots_are_claimed : RootsAreClaimed
roots_are_claimed g root sp zero = no_claims
roots_are_claimed g root sp (suc n) =
    subst (λ b. AreClaims (root_needs root (cond b 0 (length (kinds_of g.code sp)))) (root_claims g root sp (points (suc n))))
    (sym (ne_eqb (suc n) 0 (λ e. omega (arith, e)))) (fields_claimed root (points (suc n)) (length (kinds_of g.code sp)))

points_kept : (root : ℕ) (sets : List (List ℕ)) →
    map (λ (r : RegionValue). r.points) (map (region_with root) sets) ≡ sets
points_kept root [] = refl
points_kept root (s ∷ sets) = ap (λ l. s ∷ l) (points_kept root sets)

roots_kept : (root : ℕ) (sets : List (List ℕ)) (r : RegionValue) → Among (map (region_with root) sets) r → r.root.0 ≡ root
roots_kept root [] r h = absurd h
roots_kept root (s ∷ sets) r (inl e) = ap (λ (y : RegionValue). y.root.0) (sym e)
roots_kept root (s ∷ sets) r (inr h) = roots_kept root sets r h

pub partitions_are_made : PartitionsAreMade
partitions_are_made r sets flag = record {
  of_root = refl;
  flagged = refl;
  made = points_kept r.root.0 sets;
  roots = roots_kept r.root.0 sets;
}
