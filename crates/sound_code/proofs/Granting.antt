-- What the rules grant a task it may touch: through the slot of a region's name, or of a part, each access is allowed that is
-- declared on a region within which it is known to lie, and any where the task made that.
use Rattle.std.proofs.Common.{◌≡◌, inl, inr, ℕ, ◌<◌, ◌≤◌, List, Bool, true, cond, ◌&&◌, None, Option, Some, refl, sym, ap, ◌∙◌, subst, arith}
use Rattle.std.specs.List.{list_any}
use Rattle.std.specs.Prelude.{length, slice_get, ◌==◌}
use Rattle.std.proofs.lemmas.Bool.{and_parts, eqb-true, le-leb, or_cases}
use Rattle.std.proofs.lemmas.Option.{same_Some}
use Rattle.lane_kernels.specs.declared.numbers.Mode.{Mode}
use Rattle.lane_kernels.specs.declared.numbers.Mode.TheVariants as mode
use Rattle.plain_values.specs.Points.{has}
use Rattle.regent_tree.specs.Accesses.{space_in}
use Rattle.regent_tree.specs.Facts.{is_subregion}
use Rattle.regent_tree.specs.Rights.{allows, gives, is_held, same_access}
use Rattle.regent_tree.specs.Scopes.{bound_as, Scope}
use Rattle.regent_tree.specs.Typing.{parent_of}
use Rattle.regent_tree.specs.StaticTypes.{space_at}
use Rattle.regent_tree.specs.Syntax.{TaskTree, Tree}
use Rattle.regent_tree.specs.declared.facts.Colour.{Colour}
use Rattle.regent_tree.specs.declared.facts.Known.{Known}
use Rattle.regent_tree.specs.declared.facts.Known.TheVariants.{Within, Apart, PartOf, Made}
use Rattle.regent_tree.specs.declared.facts.Term.{Term}
use Rattle.regent_tree.specs.declared.facts.Term.TheVariants.{Name, Child}
use Rattle.regent_tree.specs.declared.rights.Access.{Access}
use Rattle.regent_tree.specs.declared.rights.Access.TheVariants.{Read, Write, Reduce}
use Rattle.regent_tree.specs.declared.rights.Right.{Right}
use Rattle.regent_tree.specs.declared.typing.StaticType.{StaticType}
use Rattle.regent_tree.specs.declared.typing.StaticType.TheVariants.{Region as region_type}
use Rattle.regent_tree.proofs.Members.{Has, Has-from_list_any}
use Rattle.task_code.specs.declared.code.TaskCode.{TaskCode}
use Rattle.machine_terms.specs.declared.value.RegionValue.{RegionValue}
use Rattle.machine_terms.specs.declared.value.Value.{Value}
use Rattle.machine_terms.specs.Pointers.{region_in}
use Rattle.check_rules.specs.rules.Privileges.{made_above, may_do, rights_declared, wanting}
use Rattle.code_laws.specs.Simple.{a_region_type, IsPartition, IsRegion}
use Rattle.expression_laws.specs.Needs.{mode_of}
use Rattle.lane_kernels.proofs.SameOps.{same_op-tells}
use Rattle.fit_laws.proofs.Lookup.{value_at}
use Rattle.fit_rules.specs.Shapes.{Among, Are, argument, ComesFrom, Is, is_number, is_region, IsRegion as IsRegionValue, Origin, own_as, own_root, part, region, Shape, World}
use Rattle.fit_rules.specs.Marks.{Fact, Mark, stacked, Suits}
use Rattle.fit_rules.specs.Fits.{count_at, Covers, declares_it, Declares, made_it, Program, reads_and_writes}
use Rattle.fit_rules.specs.Sound.{Allowed}
use Rattle.fit_laws.proofs.Allowing.{allowed_made}
use Rattle.sound_code.specs.Named.{slot_at}
use Rattle.sound_code.specs.Ways.{Tops, Way, all_made, by_rules, opening_facts, origin_in, shape_in}
use Rattle.sound_code.proofs.Asked.{Known as KnownTasks}
use Rattle.sound_code.proofs.Declaring.{is_need, need_of}
use Rattle.sound_code.proofs.Elements.{field_there}
use Rattle.sound_code.proofs.Interpreting.{not_below}
use Rattle.sound_code.proofs.Lying.{above, Over, over_inside, over_same, Reaches, reaches, Stands}
use Rattle.sound_code.proofs.Under.{LiesUnder, under_in, under_part}
use Rattle.sound_code.proofs.Scoped.{partition_found}
use Rattle.sound_code.proofs.Grounds.{begins_under, Ground, HasFacts, high_top, IsTold, Kept, low_top, OfType, tells_made, top_in}

-- the term of a region's type
abbrev pub term_in : StaticType → Term
term_in (region_type k sp args r) = r
term_in t = Name 0

-- by the rules a task may do an access on a field of a region of a type
abbrev pub May : Way → Tree → Scope → StaticType → ℕ → Access → Type 0
May all_made tree s u f a = Unit {0}
May (by_rules tops task) tree s u f a = may_do (rights_declared tree task) s.known (wanting f a (term_in u)) ≡ true

abbrev pub InPlace : Way → ℕ → ℕ → StaticType → Type 0
InPlace all_made params place u = Unit {0}
InPlace (by_rules tops task) params place u = OfType params place u

-- accesses that are told alike are of one mode
same_modes : (a b : Access) → same_access a b ≡ true → mode_of a ≡ mode_of b
same_modes Read Read e = refl
same_modes Write Write e = refl
same_modes (Reduce p) (Reduce q) e = ap mode.Reduce (same_op-tells p q e)
same_modes Read Write e = absurd cc
same_modes Read (Reduce q) e = absurd cc
same_modes Write Read e = absurd cc
same_modes Write (Reduce q) e = absurd cc
same_modes (Reduce p) Read e = absurd cc
same_modes (Reduce p) Write e = absurd cc

-- a region in a slot
record RegionAt (x : World) (vs : List Value) (s sp : ℕ) (o : Origin) : Type 0 where
  it : RegionValue
  at : region_in (slice_get vs s) ≡ Some it
  is : IsRegionValue x (Some sp) o it

region_there : (x : World) (ss : List Shape) (vs : List Value) (s sp : ℕ) (o : Origin) → Are x ss vs → slice_get ss s ≡ Some (region (Some sp) o) → RegionAt x vs s sp o
region_there x ss vs s sp o a e = let v = value_at x ss vs s (region (Some sp) o) a e in of v.value v.at v.of
  where
    of : (v : Value) → slice_get vs s ≡ Some v → Is x (region (Some sp) o) v → RegionAt x vs s sp o
    of _ e (is_region _ _ r i) = record { it = r; at = ap region_in e; is = i }
    of _ e (is_number _ z h) = absurd h

module _ (g : Program) (t : TaskCode) (tops : Tops) (task : TaskTree) (tree : Tree) (params : ℕ) (s : Scope) (m : Mark)
    (ep : params ≡ t.params) (kept : Kept t tops task tree params s) (facts : HasFacts (by_rules tops task) tree m.facts) where
  abbrev ks : List Fact
  ks = opening_facts (by_rules tops task) tree task

  abbrev up : ℕ → Option (ℕ × ℕ)
  up = tops task

  -- of a term, and the region within which it lies
  module _ (term : Term) (k : ℕ) (stands : Stands params up s.known term k) where
    reached : (j : ℕ) → is_subregion s.known term (Name j) ≡ true → Reaches t.params params up ks m s.known k (Name j)
    reached j e = reaches t.params params up ks m s.known facts kept.known (begins_under t tops task tree params s kept) term (Name j) k stands e

    -- what is held on it is declared at each point of such a region
    declared : (f : ℕ) (a : Access) → is_held (rights_declared tree task) s.known term f a ≡ true → (x : World) (vs st : List Value) →
        Suits x t.params m vs st → (r : RegionValue) → LiesUnder x params k r → (p : ℕ) → has r.points p ≡ true → Declares x t r.root.0 f p (mode_of a)
    declared f a e x vs st h r under p inp =
        let found = Has-from_list_any (gives s.known term f a) (rights_declared tree task) e in
        let right : Right = found.0 in
        let last = and_parts ((right.field == f) && same_access right.access a) _ found.2 in
        let first = and_parts (right.field == f) _ last.0 in
        let need = is_need tree task kept.sound_task right found.1 in
        let many = kept.many in
        let high : right.region < params = omega (arith, need.low, many) in
        let to = reached right.region last.1 in
        let same : right.region ≡ to.upper = sym (low_top params up right.region high) ∙ to.stands in
        let low : k < params = over_low k to.upper to.over (omega (arith, same, high)) in
        let whole : region_in (slice_get x.args k) ≡ Some under.whole =
        subst (λ b. ComesFrom x (cond b (own_as k) (argument k)) under.whole) (not_below params k low) under.from in
        let at = above t.params params up ks m s.known ep k to.upper low to.over x vs st h under.whole whole in
        record {
          need = need_of tree task right;
          is_there = subst (λ ns. Among ns (need_of tree task right)) (sym kept.needs) need.there;
          its_field = eqb-true right.field f first.0;
          its_mode = same_modes right.access a first.1;
          region = at.other;
          argument = ap (λ n. region_in (slice_get x.args n)) same ∙ at.at;
          its_root = sym (under.inside.0 ∙ at.inside.0);
          its_point = at.inside.1 p (under.inside.1 p inp);
        }
      where
        over_low : (i j : ℕ) → Over t.params params up ks m s.known i j → j < params → i < params
        over_low i j (over_same e) l = omega (arith, e, l)
        over_low i j (over_inside low high inside below) l = low

    covered : (f : ℕ) (a : Access) → allows (rights_declared tree task) s.known term f a ≡ true → (x : World) (vs st : List Value) →
        Suits x t.params m vs st → (r : RegionValue) → LiesUnder x params k r → (p : ℕ) → has r.points p ≡ true → Covers g x t r.root.0 f p (mode_of a)
    covered f Read e x vs st h r u p ep = declares_it _ (declared f Read e x vs st h r u p ep)
    covered f Write e x vs st h r u p ep = declares_it _ (declared f Write e x vs st h r u p ep)
    covered f (Reduce o) e x vs st h r u p ep = elim (or_cases _ _ e) [
      | inl d ↦ declares_it _ (declared f (Reduce o) d x vs st h r u p ep)
      | inr d ↦
          let both = and_parts _ _ d in
          reads_and_writes o (declared f Read both.0 x vs st h r u p ep) (declared f Write both.1 x vs st h r u p ep)
    ]

    -- where it follows that it was made, it is of a root that the task made
    was_made : list_any (made_above s.known term) s.known ≡ true → params ≤ k
    was_made e = of (Has-from_list_any (made_above s.known term) s.known e)
      where
        behind : (j : ℕ) → IsTold params up ks (Made j) → Reaches t.params params up ks m s.known k (Name j) → params ≤ k
        behind _ (tells_made j l none) to = over_high to.upper to.over (sym (high_top params up j None l none) ∙ to.stands)
          where
            over_high : (u : ℕ) → Over t.params params up ks m s.known k u → j ≡ u → params ≤ k
            over_high u (over_same e) same = omega (arith, e, same, l)
            over_high u (over_inside low high inside below) same = absurd (omega (arith, high, same, l))

        of : ((q : Known) × Has s.known q × (made_above s.known term q ≡ true)) → params ≤ k
        of (Made j, h, above) = behind j (kept.known (Made j) h) (reached j above)
        of (Within a b, h, above) = absurd cc
        of (Apart a b, h, above) = absurd cc
        of (PartOf p r d, h, above) = absurd cc

    own_covered : (sp f : ℕ) (a : Mode) (x : World) (r : RegionValue) → f < count_at g sp → params ≤ k → LiesUnder x params k r → x.spaces r.root.0 ≡ sp → (p : ℕ) →
        has r.points p ≡ true → Covers g x t r.root.0 f p a
    own_covered sp f a x r l high u es p ip =
        let own : ComesFrom x (own_as k) u.whole = subst (λ b. ComesFrom x (cond b (own_as k) (argument k)) u.whole) (le-leb params k high) u.from in
        subst (λ n. Covers g x t n f p a) (sym u.inside.0)
        (made_it a own.0.0 (subst (λ ps. has ps p ≡ true) own.0.1 (u.inside.1 p ip))
        (subst (λ n. f < count_at g n) (sym es ∙ ap x.spaces u.inside.0) l))

    -- through the slot of a region that lies so by its origin
    allowed_by : (sp f slot : ℕ) (a : Access) (o : Origin) → slice_get m.slots slot ≡ Some (region (Some sp) o) →
        ((x : World) (r : RegionValue) → ComesFrom x o r → LiesUnder x params k r) → f < count_at g sp →
        may_do (rights_declared tree task) s.known (wanting f a term) ≡ true → Allowed g t m sp f (mode_of a) slot
    allowed_by sp f slot a o there under l e = record {
      origin = o;
      shape = there;
      covers = λ x vs st q r er p ip.
          let at = region_there x m.slots vs slot sp o q.slots there in
          let same : at.it ≡ r = same_Some at.it r (sym at.at ∙ er) in
          let is = subst (λ (d : RegionValue). IsRegionValue x (Some sp) o d) same at.is in
          elim (or_cases _ _ e) [
            | inl d ↦ covered f a d x vs st q r (under x r is.origin) p ip
            | inr d ↦ own_covered sp f (mode_of a) x r l (was_made d) (under x r is.origin) is.space p ip
          ];
    }

module _ (g : Program) (t : TaskCode) (w_tree : Tree) (params : ℕ) (s : Scope) (m : Mark) (ep : params ≡ t.params) where
  pub allowed : (way : Way) → KnownTasks way g w_tree → Ground t way w_tree params s → HasFacts way w_tree m.facts → (u : StaticType) (place f : ℕ) (a : Access)
      (us : List _) → IsRegion u → slice_get m.slots (slot_at params place) ≡ Some (shape_in way params u) → InPlace way params place u →
      f < length (space_at w_tree (space_in u)).fields → May way w_tree s u f a → Allowed g t (stacked m us) (space_in u) f (mode_of a) (slot_at params place)
  allowed all_made known ground facts _ place f a us (a_region_type k sp args r) there stands l may =
      allowed_made g t (stacked m us) sp f (slot_at params place) (mode_of a) own_root tt there (field_there g w_tree all_made known sp f l)
  allowed (by_rules tops task) known ground facts _ place f a us (a_region_type k sp args (Name i)) there stands l may =
      allowed_by g t tops task w_tree params s (stacked m us) ep ground facts (Name i) (top_in params (tops task) i) refl sp f (slot_at params place) a
      (origin_in (by_rules tops task) params (Name i)) there (λ x r c. under_in tops task params i x r c) (field_there g w_tree (by_rules tops task) known sp f l) may
  allowed (by_rules tops task) known ground facts _ place f a us (a_region_type k sp args (Child p c)) there stands l may = absurd stands

  -- so a part may be touched through a slot that has it
  pub allowed_part : (tops : Tops) (task : TaskTree) → KnownTasks (by_rules tops task) g w_tree → (kept : Kept t tops task w_tree params s) →
      HasFacts (by_rules tops task) w_tree m.facts → (p : ℕ) (c : Colour) (slot sp f : ℕ) (a : Access) (us : List _) → IsPartition (bound_as s.names p).static_type →
      slice_get m.slots slot ≡ Some (region (Some sp) (part (origin_in (by_rules tops task) params (Name (parent_of (bound_as s.names p).static_type))))) →
      f < length (space_at w_tree sp).fields → may_do (rights_declared w_tree task) s.known (wanting f a (Child p c)) ≡ true →
      Allowed g t (stacked m us) sp f (mode_of a) slot
  allowed_part tops task known kept facts p c slot sp f a us is there l may =
      let i = parent_of (bound_as s.names p).static_type in
      allowed_by g t tops task w_tree params s (stacked m us) ep kept facts (Child p c) (top_in params (tops task) i) stands sp f slot a
      (part (origin_in (by_rules tops task) params (Name i))) there (λ x r o. under_part tops task params i x r o)
      (field_there g w_tree (by_rules tops task) known sp f l) may
    where
      stands : (r : ℕ) (d : Bool) → Has s.known (PartOf p r d) → top_in params (tops task) r ≡ top_in params (tops task) (parent_of (bound_as s.names p).static_type)
      stands r d h =
          let found = partition_found s.names p is in
          ap (λ (u : StaticType). top_in params (tops task) (parent_of u)) (sym ((kept.head.parts (PartOf p r d) h).one (bound_as s.names p) found.0 found.1))
