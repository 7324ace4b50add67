-- What is covered is found in a part, in a mode that allows it.
use Rattle.std.proofs.Common.{◌≡◌, inl, inr, ⊎_elim, ℕ, zero, suc, ◌+◌, ◌<◌, ◌≤◌, List, [], ◌∷◌, ◌++◌, map, Bool, true, false, ◌&&◌, ◌||◌, cond, Option, Some, None, refl, sym, ap, ◌∙◌, subst, arith}
use Rattle.std.specs.Prelude.{slice_get, ◌==◌}
use Rattle.std.proofs.lemmas.Bool.{eq-eqb, cases_Bool, false≢true}
use Rattle.std.proofs.Math.Nat.{eq-or-lt_of_le}
use Rattle.lane_kernels.specs.Modes.{joined, same_op}
use Rattle.lane_kernels.specs.declared.numbers.Mode.{Mode}
use Rattle.lane_kernels.specs.declared.numbers.Mode.TheVariants as mode
use Rattle.lane_kernels.specs.declared.numbers.Op.{Op}
use Rattle.plain_values.specs.Points.{has, counted_from}
use Rattle.lane_kernels.proofs.SameOps.{same_op-tells}
use Rattle.region_tree.proofs.Joins.{joined_is, modes_at-here, modes_at-not}
use Rattle.region_tree.specs.declared.needs.Need.{Need}
use Rattle.region_tree.specs.Requirements.{Requirement, is_of, is_at, modes_at, join_onto, join_from, mode_at, same_mode}
use Rattle.task_code.specs.declared.code.NeedCode.{NeedCode}
use Rattle.task_code.specs.declared.code.TaskCode.{TaskCode}
use Rattle.machine_terms.specs.declared.value.RegionValue.{RegionValue}
use Rattle.machine_terms.specs.declared.value.Value.{Value}
use Rattle.machine_terms.specs.Opening.{with_points}
use Rattle.machine_terms.specs.Parts.{is_needed}
use Rattle.machine_terms.specs.Pointers.{region_in}
use Rattle.fit_rules.specs.Shapes.{Among, World}
use Rattle.fit_rules.specs.Fits.{Program, count_at, requires, claim_on, declared_claims, root_claims, own_claims, claims, AreClaims, no_claims, a_claim, Declares, Covers, made_it, declares_it, reads_and_writes}

-- a mode in which a cell is held allows an access
pub data Permits : Mode → Mode → Type 0 where
  read_reads : Permits mode.Read mode.Read
  write_reads : Permits mode.Read mode.Write
  write_writes : Permits mode.Write mode.Write
  reduce_reduces : (o : Op) → Permits (mode.Reduce o) (mode.Reduce o)
  write_reduces : (o : Op) → Permits (mode.Reduce o) mode.Write

permits_itself : (a : Mode) → Permits a a
permits_itself mode.Read = read_reads
permits_itself mode.Write = write_writes
permits_itself (mode.Reduce o) = reduce_reduces o

write_permits : (a : Mode) → Permits a mode.Write
write_permits mode.Read = write_reads
write_permits mode.Write = write_writes
write_permits (mode.Reduce o) = write_reduces o

-- ---- joins

chosen : (a n : Mode) (b : Bool) → Permits a n → Permits a (cond b n mode.Write)
chosen a n true h = h
chosen a n false h = write_permits a

left_of_join : (a n m : Mode) → Permits a n → Permits a (joined n m)
left_of_join a n m h = subst (Permits a) (sym (joined_is n m)) (chosen a n (same_mode n m) h)

right_of_join : (n a : Mode) → Permits a (joined n a)
right_of_join mode.Read mode.Read = read_reads
right_of_join (mode.Reduce p) (mode.Reduce q) = of_both (same_op p q) refl
  where
    of_both : (b : Bool) → same_op p q ≡ b → Permits (mode.Reduce q) (cond b (mode.Reduce p) mode.Write)
    of_both true e = subst (λ o. Permits (mode.Reduce q) (mode.Reduce o)) (sym (same_op-tells p q e)) (reduce_reduces q)
    of_both false e = write_reduces q
right_of_join mode.Read mode.Write = write_writes
right_of_join mode.Read (mode.Reduce q) = write_reduces q
right_of_join mode.Write m = write_permits m
right_of_join (mode.Reduce p) mode.Read = write_reads
right_of_join (mode.Reduce p) mode.Write = write_writes

pub record Joined (a : Mode) (o : Option Mode) : Type 0 where
  pub held : Mode
  pub is : o ≡ Some held
  pub permits : Permits a held

join_keeps : (a n : Mode) (ms : List Mode) → Permits a n → Joined a (join_from (Some n) ms)
join_keeps a n [] h = record { held = n; is = refl; permits = h }
join_keeps a n (m ∷ ms) h = join_keeps a (joined n m) ms (left_of_join a n m h)

onto_permits : (o : Option Mode) (a : Mode) (ms : List Mode) → Joined a (join_from (join_onto o a) ms)
onto_permits None a ms = join_keeps a a ms (permits_itself a)
onto_permits (Some n) a ms = join_keeps a (joined n a) ms (right_of_join n a)

join_permits : (a : Mode) (o : Option Mode) (ms : List Mode) → Among ms a → Joined a (join_from o ms)
join_permits a o [] h = absurd h
join_permits a o (m ∷ ms) (inl e) = subst (λ y. Joined a (join_from (join_onto o y) ms)) (sym e) (onto_permits o a ms)
join_permits a o (m ∷ ms) (inr h) = join_permits a (join_onto o m) ms h

-- ---- claims

-- a claim of a field at a point in a mode
pub record Claimed (rs : List Requirement) (root f p : ℕ) (a : Mode) : Type 0 where
  pub claim : Requirement
  pub among : Among rs claim
  pub at : is_at root f p claim ≡ true
  pub in_mode : claim.mode ≡ a

among_modes : (rs : List Requirement) (root f p : ℕ) (c : Requirement) → Among rs c →
    is_at root f p c ≡ true → Among (modes_at rs root f p) c.mode
among_modes [] root f p c h e = absurd h
among_modes (r ∷ rs) root f p c (inl g) e =
    subst (λ ms. Among ms c.mode) (sym (modes_at-here r rs root f p (ap (is_at root f p) g ∙ e)))
    (inl (ap (λ (y : Requirement). y.mode) g))
among_modes (r ∷ rs) root f p c (inr h) e = ⊎_elim
    (λ y. subst (λ ms. Among ms c.mode) (sym (modes_at-here r rs root f p y)) (inr (among_modes rs root f p c h e)))
    (λ n. subst (λ ms. Among ms c.mode) (sym (modes_at-not r rs root f p n)) (among_modes rs root f p c h e))
    (cases_Bool (is_at root f p r))

pub claimed_joins : (rs : List Requirement) (root f p : ℕ) (a : Mode) → Claimed rs root f p a →
    Joined a (mode_at rs root f p)
claimed_joins rs root f p a c = subst (λ y. Joined y (mode_at rs root f p)) c.in_mode
    (join_permits c.claim.mode None (modes_at rs root f p) (among_modes rs root f p c.claim c.among c.at))

both_hold : (a b : Bool) → a && b ≡ true → a ≡ true
both_hold true b e = refl
both_hold false b e = e

or_right : (a : Bool) → a || true ≡ true
or_right true = refl
or_right false = refl

pub claimed_needed : (ns : List Need) (rs : List Requirement) (root f p : ℕ) (a : Mode) →
    AreClaims ns rs → (c : Requirement) → Among rs c → is_at root f p c ≡ true →
    is_needed ns root f ≡ true
claimed_needed _ _ root f p a no_claims c h e = absurd h
claimed_needed _ _ root f p a (a_claim n r ns rs er ef em more) c (inl g) e =
    ap (λ b. b || is_needed ns root f)
    (ap (λ z. (z == root) && (n.field == f)) er ∙ ap (λ z. (r.root == root) && (z == f)) ef
    ∙ both_hold (is_of root f r) (has r.points p) (ap (is_at root f p) g ∙ e))
claimed_needed _ _ root f p a (a_claim n r ns rs er ef em more) c (inr h) e =
    ap (λ b. ((n.root.0 == root) && (n.field == f)) || b) (claimed_needed ns rs root f p a more c h e)
    ∙ or_right _

-- ---- what is covered is claimed

pub in_front : {A : Type 0} (xs ys : List A) (a : A) → Among xs a → Among (xs ++ ys) a
in_front [] ys a h = absurd h
in_front (x ∷ xs) ys a (inl e) = inl e
in_front (x ∷ xs) ys a (inr h) = inr (in_front xs ys a h)

pub in_back : {A : Type 0} (xs ys : List A) (a : A) → Among ys a → Among (xs ++ ys) a
in_back [] ys a h = h
in_back (x ∷ xs) ys a h = inr (in_back xs ys a h)

in_map : {A B : Type 0} (f : A → B) (xs : List A) (a : A) → Among xs a → Among (map f xs) (f a)
in_map f [] a h = absurd h
in_map f (x ∷ xs) a (inl e) = inl (ap f e)
in_map f (x ∷ xs) a (inr h) = inr (in_map f xs a h)

pub in_counted : (first n i : ℕ) → first ≤ i → i < first + n → Among (counted_from first n) i
in_counted first zero i h l = absurd (omega (arith, h, l))
in_counted first (suc n) i h l = ⊎_elim (λ e. inl e)
    (λ more. inr (in_counted (suc first) n i (omega (arith, more)) (omega (arith, l)))) (eq-or-lt_of_le h)

at_claim : (r : Requirement) (root f p : ℕ) → r.root ≡ root → r.field ≡ f → has r.points p ≡ true →
    is_at root f p r ≡ true
at_claim r root f p er ef ep =
    ap (λ b. (b && (r.field == f)) && has r.points p) (eq-eqb r.root root er)
    ∙ ap (λ b. (true && b) && has r.points p) (eq-eqb r.field f ef) ∙ ep

behind_claim : (m : NeedCode) (o : Option RegionValue) (rs : List Requirement) (c : Requirement) →
    Among rs c → Among (claim_on m o rs) c
behind_claim m None rs c h = h
behind_claim m (Some q) rs c h = behind_points q.points (requires q.root.0 q.points m.mode m.field) rs c h
  where
    behind_points : (xs : List ℕ) (a : Requirement) (rs : List Requirement) (c : Requirement) → Among rs c →
        Among (with_points xs a rs) c
    behind_points [] a rs c h = h
    behind_points (x ∷ xs) a rs c h = inr h

-- a claim with points is kept
kept_claim : (xs : List ℕ) (p : ℕ) (a : Requirement) (rs : List Requirement) → has xs p ≡ true →
    Among (with_points xs a rs) a
kept_claim [] p a rs h = absurd (false≢true h)
kept_claim (x ∷ xs) p a rs h = inl refl

declared_among : (ns : List NeedCode) (args : List Value) (n : NeedCode) (r : RegionValue) (p : ℕ) →
    has r.points p ≡ true → Among ns n → region_in (slice_get args n.param) ≡ Some r →
    Among (declared_claims ns args)
    (requires r.root.0 r.points n.mode n.field)
declared_among [] args n r p ep h e = absurd h
declared_among (m ∷ ns) args n r p ep (inl g) e =
    subst (λ (y : NeedCode). Among (claim_on y (region_in (slice_get args y.param)) (declared_claims ns args))
    (requires r.root.0 r.points n.mode n.field)) (sym g)
    (subst (λ o. Among (claim_on n o (declared_claims ns args))
    (requires r.root.0 r.points n.mode n.field)) (sym e)
    (kept_claim r.points p (requires r.root.0 r.points n.mode n.field) (declared_claims ns args) ep))
declared_among (m ∷ ns) args n r p ep (inr h) e =
    behind_claim m (region_in (slice_get args m.param)) _ _ (declared_among ns args n r p ep h e)

module _ (g : Program) (x : World) (t : TaskCode) (root f p : ℕ) where
  declared_claimed : (a : Mode) → Declares x t root f p a → Claimed (claims g x t) root f p a
  declared_claimed a d = record {
    claim = requires d.region.root.0 d.region.points d.need.mode d.need.field;
    among = in_front (declared_claims t.needs x.args) _ (requires d.region.root.0 d.region.points d.need.mode d.need.field) (declared_among t.needs x.args d.need d.region p d.its_point d.is_there d.argument);
    at = at_claim (requires d.region.root.0 d.region.points d.need.mode d.need.field) root f p d.its_root d.its_field d.its_point;
    in_mode = d.its_mode;
  }

  root_among : (sp : ℕ) (xs : List ℕ) → has xs p ≡ true → f < count_at g sp →
      Among (root_claims g root sp xs) (requires root xs mode.Write f)
  root_among sp [] h l = absurd (false≢true h)
  root_among sp (y ∷ xs) h l = in_map (requires root (y ∷ xs) mode.Write) _ f
      (in_counted 0 (count_at g sp) f (omega arith) (omega (arith, l)))

  own_among : (rs : List ℕ) → Among rs root → has (x.points root) p ≡ true → f < count_at g (x.spaces root) →
      Among (own_claims g x rs) (requires root (x.points root) mode.Write f)
  own_among [] h e l = absurd h
  own_among (r ∷ rs) (inl q) e l = in_front (root_claims g r (x.spaces r) (x.points r)) _ _
      (subst (λ y. Among (root_claims g y (x.spaces y) (x.points y)) (requires root (x.points root) mode.Write f))
      (sym q) (root_among (x.spaces root) (x.points root) e l))
  own_among (r ∷ rs) (inr h) e l = in_back (root_claims g r (x.spaces r) (x.points r)) _ _ (own_among rs h e l)

  own_claimed : Among x.own root → has (x.points root) p ≡ true → f < count_at g (x.spaces root) →
      Claimed (claims g x t) root f p mode.Write
  own_claimed h e l = record {
    claim = requires root (x.points root) mode.Write f;
    among = in_back (declared_claims t.needs x.args) _ _ (own_among x.own h e l);
    at = at_claim (requires root (x.points root) mode.Write f) root f p refl refl e;
    in_mode = refl;
  }

  -- a claim at the point, and a join that permits the access
  pub record Granted (a : Mode) : Type 0 where
    pub claim : Requirement
    pub among : Among (claims g x t) claim
    pub at : is_at root f p claim ≡ true
    pub joined : Joined a (mode_at (claims g x t) root f p)

  pub by_writing : (a : Mode) → Joined mode.Write (mode_at (claims g x t) root f p) →
      Joined a (mode_at (claims g x t) root f p)
  by_writing a j = record { held = mode.Write; is = j.is ∙ ap Some (only j.held j.permits); permits = write_permits a }
    where
      only : (m : Mode) → Permits mode.Write m → m ≡ mode.Write
      only _ write_writes = refl

  granted_by : (a : Mode) (c : Claimed (claims g x t) root f p a) → Granted a
  granted_by a c = record {
    claim = c.claim;
    among = c.among;
    at = c.at;
    joined = claimed_joins (claims g x t) root f p a c;
  }

  granted_writing : (a : Mode) (c : Claimed (claims g x t) root f p mode.Write) → Granted a
  granted_writing a c = record {
    claim = c.claim;
    among = c.among;
    at = c.at;
    joined = by_writing a (claimed_joins (claims g x t) root f p mode.Write c);
  }

  pub covered_granted : (a : Mode) → Covers g x t root f p a → Granted a
  covered_granted _ (made_it a h e l) = granted_writing a (own_claimed h e l)
  covered_granted _ (declares_it a d) = granted_by a (declared_claimed a d)
  covered_granted _ (reads_and_writes o d w) = granted_writing (mode.Reduce o) (declared_claimed mode.Write w)
