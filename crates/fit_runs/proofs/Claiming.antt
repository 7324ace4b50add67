-- What is claimed: each claim is of a root that is there, and a mode is claimed at a point exactly where a claim has it.
use Rattle.std.proofs.Common.{◌≡◌, ◌⊎◌, inl, inr, ⊎_elim, ℕ, ◌<◌, List, [], ◌∷◌, ◌++◌, map, true, false, ◌&&◌, Option, Some, None, refl, sym, ap, ◌∙◌, subst}
use Rattle.std.specs.Prelude.{length, slice_get, ◌==◌}
use Rattle.std.proofs.lemmas.Bool.{and_parts, cases_Bool, eq-eqb, eqb-true, false≢true, or_cases}
use Rattle.std.proofs.lemmas.Option.{none-some}
use Rattle.lane_kernels.specs.declared.numbers.Mode.{Mode}
use Rattle.lane_kernels.specs.declared.numbers.Mode.TheVariants as mode
use Rattle.plain_values.specs.Points.{has}
use Rattle.region_tree.proofs.Joins.{modes_at-here, modes_at-not}
use Rattle.region_tree.specs.declared.needs.Need.{Need}
use Rattle.region_tree.specs.Requirements.{is_at, is_of, IsWithin, join_from, mode_at, modes_at, Requirement}
use Rattle.task_code.specs.declared.code.NeedCode.{NeedCode}
use Rattle.task_code.specs.declared.code.TaskCode.{TaskCode}
use Rattle.machine_terms.specs.declared.order.Contents.{Contents}
use Rattle.machine_terms.specs.declared.value.RegionValue.{RegionValue}
use Rattle.machine_terms.specs.Opening.{with_points}
use Rattle.machine_terms.specs.Parts.{is_needed}
use Rattle.machine_terms.specs.Pointers.{region_in}
use Rattle.memory_laws.specs.Places.{column_of}
use Rattle.fit_rules.specs.Shapes.{Among, KnowsRoots, World}
use Rattle.fit_rules.specs.Fits.{a_claim, AreClaims, claim_on, claims, declared_claims, no_claims, own_claims, Program, requires, root_claims}
use Rattle.fit_runs.proofs.Standing.{AreReached}

-- ---- modes and claims

-- a claim at a point
pub record ClaimedAt (rs : List Requirement) (r f p : ℕ) : Type 0 where
  pub claim : Requirement
  pub among : Among rs claim
  pub root : claim.root ≡ r
  pub field : claim.field ≡ f
  pub point : has claim.points p ≡ true

mode_not : (c : Requirement) (rs : List Requirement) (r f p : ℕ) → is_at r f p c ≡ false → mode_at (c ∷ rs) r f p ≡ mode_at rs r f p
mode_not c rs r f p e = ap (join_from None) (modes_at-not c rs r f p e)

pub mode_claimed : (rs : List Requirement) (r f p : ℕ) (m : Mode) → mode_at rs r f p ≡ Some m → ClaimedAt rs r f p
mode_claimed [] r f p m e = absurd (none-some m e)
mode_claimed (c ∷ rs) r f p m e = ⊎_elim
    (λ q.
    let a = and_parts (is_of r f c) (has c.points p) q in
    let b = and_parts (c.root == r) (c.field == f) a.0 in
    record { claim = c; among = inl refl; root = eqb-true c.root r b.0; field = eqb-true c.field f b.1; point = a.1 })
    (λ q.
    let more = mode_claimed rs r f p m (sym (mode_not c rs r f p q) ∙ e) in
    record { claim = more.claim; among = inr more.among; root = more.root; field = more.field; point = more.point })
    (cases_Bool (is_at r f p c))

some_joins : (m : Mode) (ms : List Mode) → join_from (Some m) ms ≡ None → ⊥
some_joins m [] e = none-some m (sym e)
some_joins m (n ∷ ms) e = some_joins _ ms e

some_here : (c : Requirement) (rs : List Requirement) (r f p : ℕ) → is_at r f p c ≡ true → mode_at (c ∷ rs) r f p ≡ None → ⊥
some_here c rs r f p q e = some_joins c.mode (modes_at rs r f p) (sym (ap (join_from None) (modes_at-here c rs r f p q)) ∙ e)

claim_here : (c : Requirement) (p : ℕ) → has c.points p ≡ true → is_at c.root c.field p c ≡ true
claim_here c p h = ap (λ b. (b && (c.field == c.field)) && has c.points p) (eq-eqb c.root c.root refl)
    ∙ ap (λ b. b && has c.points p) (eq-eqb c.field c.field refl) ∙ h

pub claimed_mode : (rs : List Requirement) (c : Requirement) → Among rs c → (p : ℕ) → has c.points p ≡ true → mode_at rs c.root c.field p ≡ None → ⊥
claimed_mode [] c a p h e = a
claimed_mode (d ∷ rs) c (inl same) p h e =
    some_here d rs c.root c.field p (subst (λ y. is_at y.root y.field p d ≡ true) same (claim_here d p (subst (λ y. has y.points p ≡ true) (sym same) h))) e
claimed_mode (d ∷ rs) c (inr a) p h e = ⊎_elim
    (λ q. some_here d rs c.root c.field p q e)
    (λ q. claimed_mode rs c a p h (sym (mode_not d rs c.root c.field p q) ∙ e))
    (cases_Bool (is_at c.root c.field p d))

-- ---- points of the roots

pub reached_modes : (c : Contents) (rs : List Requirement) → AreReached c rs → (r f p : ℕ) (m : Mode) → mode_at rs r f p ≡ Some m →
    p < length (column_of c r f)
reached_modes c rs h r f p m e =
    let q = mode_claimed rs r f p m e in
    subst (λ k. p < length (column_of c k f)) q.root (subst (λ k. p < length (column_of c q.claim.root k)) q.field (h q.claim q.among p q.point))

-- what is claimed within other claims is among their points
pub reached_within : (c : Contents) (ours theirs : List Requirement) → IsWithin ours theirs → AreReached c theirs → AreReached c ours
reached_within c ours theirs w h r a p i = ⊎_elim
    (λ none. absurd (claimed_mode ours r a p i none))
    (λ more. of (mode_at theirs r.root r.field p) refl more) (w r.root r.field p)
  where
    of : (o : Option Mode) → mode_at theirs r.root r.field p ≡ o →
        (mode_at ours r.root r.field p ≡ mode_at theirs r.root r.field p) ⊎ (mode_at theirs r.root r.field p ≡ Some mode.Write) →
        p < length (column_of c r.root r.field)
    of (Some m) e more = reached_modes c theirs h r.root r.field p m e
    of None e (inl same) = absurd (claimed_mode ours r a p i (same ∙ e))
    of None e (inr write) = absurd (none-some mode.Write (sym e ∙ write))

-- ---- roots that are there

pub among_both : {A : Type 0} (xs ys : List A) (a : A) → Among (xs ++ ys) a → Among xs a ⊎ Among ys a
among_both [] ys a h = inr h
among_both (x ∷ xs) ys a (inl e) = inl (inl e)
among_both (x ∷ xs) ys a (inr h) = ⊎_elim (λ l. inl (inr l)) (λ r. inr r) (among_both xs ys a h)

pub among_map : {A B : Type 0} (f : A → B) (xs : List A) (b : B) → Among (map f xs) b → (a : A) × Among xs a × (f a ≡ b)
among_map f [] b h = absurd h
among_map f (x ∷ xs) b (inl e) = (x, inl refl, e)
among_map f (x ∷ xs) b (inr h) = let more = among_map f xs b h in (more.0, inr more.1, more.2)

module _ (g : Program) (x : World) (t : TaskCode) (knows : KnowsRoots x) where
  one_there : (n : NeedCode) (rest : List Requirement) (c : Requirement) → (Among rest c → x.there c.root ≡ true) → (o : Option RegionValue) →
      region_in (slice_get x.args n.param) ≡ o → Among (claim_on n o rest) c → x.there c.root ≡ true
  one_there n rest c more None e h = more h
  one_there n rest c more (Some r) e h = by_points r.points h
    where
      by_points : (xs : List ℕ) → Among (with_points xs (requires r.root.0 r.points n.mode n.field) rest) c → x.there c.root ≡ true
      by_points [] h = more h
      by_points (p ∷ ps) (inl same) = subst (λ (y : Requirement). x.there y.root ≡ true) same (knows.args_there n.param r e)
      by_points (p ∷ ps) (inr h) = more h

  declared_there : (ns : List NeedCode) (c : Requirement) → Among (declared_claims ns x.args) c → x.there c.root ≡ true
  declared_there [] c h = absurd h
  declared_there (n ∷ ns) c h = one_there n (declared_claims ns x.args) c (declared_there ns c) (region_in (slice_get x.args n.param)) refl h

  root_of : (root sp : ℕ) (xs : List ℕ) (c : Requirement) → Among (root_claims g root sp xs) c → root ≡ c.root
  root_of root sp [] c h = absurd h
  root_of root sp (p ∷ ps) c h =
      let f = among_map (requires root (p ∷ ps) mode.Write) _ c h in ap (λ (y : Requirement). y.root) f.2

  own_there : (rs : List ℕ) → ((r : ℕ) → Among rs r → Among x.own r) → (c : Requirement) → Among (own_claims g x rs) c → x.there c.root ≡ true
  own_there [] a c h = absurd h
  own_there (r ∷ rs) a c h = ⊎_elim
      (λ l. subst (λ y. x.there y ≡ true) (root_of r (x.spaces r) (x.points r) c l) (knows.own_there r (a r (inl refl))))
      (λ l. own_there rs (λ q i. a q (inr i)) c l) (among_both (root_claims g r (x.spaces r) (x.points r)) (own_claims g x rs) c h)

  pub claim_there : (c : Requirement) → Among (claims g x t) c → x.there c.root ≡ true
  claim_there c h = ⊎_elim (declared_there t.needs c) (own_there x.own (λ r i. i) c) (among_both (declared_claims t.needs x.args) (own_claims g x x.own) c h)

  needed_claim : (ns : List Need) (rs : List Requirement) → AreClaims ns rs → (r f : ℕ) → is_needed ns r f ≡ true → (c : Requirement) × Among rs c × (c.root ≡ r)
  needed_claim _ _ no_claims r f e = absurd (false≢true e)
  needed_claim _ _ (a_claim n c ns rs er ef em more) r f e = ⊎_elim
      (λ q. (c, inl refl, sym er ∙ eqb-true n.root.0 r (and_parts (n.root.0 == r) (n.field == f) q).0))
      (λ q. let later = needed_claim ns rs more r f q in (later.0, inr later.1, later.2))
      (or_cases ((n.root.0 == r) && (n.field == f)) (is_needed ns r f) e)

  -- and so is a root of which a field is needed
  pub needed_there : (ns : List Need) → AreClaims ns (claims g x t) → (r f : ℕ) → is_needed ns r f ≡ true → x.there r ≡ true
  needed_there ns a r f e = let c = needed_claim ns (claims g x t) a r f e in subst (λ y. x.there y ≡ true) c.2 (claim_there c.0 c.1)
