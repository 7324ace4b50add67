-- The needs of a call of which nothing is told lie within what the caller has.
use Rattle.check_rules.proofs.Untold.{rule_none, stand_none}
use Rattle.plain_values.proofs.Plain.{option_or_parts}
use Rattle.std.proofs.Common.{List, [], ◌∷◌, Bool, None, Option, Some, false, true, refl, ap, sym, subst, ℕ, zero, suc, ◌≡◌, ◌∙◌, ◌&&◌, ◌||◌, ◌==◌, not, get_or, length, map, cond, flat_map, inl, inr}
use Rattle.std.proofs.lemmas.Bool.{and_from, and_parts, cond-true, eq-eqb, eqb-true, le-leb, or_cases, or_parts, not-false}
use Rattle.std.proofs.Common.{arith, reverse}
use Rattle.std.proofs.lemmas.List.{length-append, length-map, length-reverse}
use Rattle.regent_tree.specs.declared.types.Param.{Param}
use Rattle.regent_tree.specs.declared.typing.Bound.{Bound}
use Rattle.regent_tree.specs.Lookup.{has_task}
use Rattle.std.specs.List.{list_any}
use Rattle.std.specs.Prelude.{nat_le}
use Rattle.lane_kernels.specs.declared.numbers.Mode.{Mode}
use Rattle.lane_kernels.specs.declared.numbers.Mode.TheVariants as mode
use Rattle.regent_tree.specs.Rights.{allows, gives, is_granted, is_held, same_access}
use Rattle.regent_tree.specs.Running.{Here}
use Rattle.regent_tree.specs.Scopes.{Scope, bound_params}
use Rattle.regent_tree.specs.StaticTypes.{task_named}
use Rattle.regent_tree.specs.Syntax.{Expressions, Name, TaskTree, Tree, an_expr, no_expr}
use Rattle.regent_tree.specs.Typing.{param_types, params_at, put_in, type_of, types_of}
use Rattle.regent_tree.specs.Values.{Region, Value, a_truth, region_of}
use Rattle.regent_tree.specs.declared.facts.Known.{Known}
use Rattle.regent_tree.specs.declared.facts.Known.TheVariants.{Within, Apart, PartOf, Made}
use Rattle.regent_tree.specs.declared.facts.Term.{Term}
use Rattle.regent_tree.specs.declared.facts.Term.TheVariants as term
use Rattle.regent_tree.specs.declared.program.Clause.{Clause}
use Rattle.regent_tree.specs.declared.program.Clause.TheVariants as clause
use Rattle.regent_tree.specs.declared.rights.Access.{Access}
use Rattle.regent_tree.specs.declared.rights.Access.TheVariants.{Read, Write, Reduce}
use Rattle.regent_tree.specs.declared.rights.Right.{Right}
use Rattle.regent_tree.specs.declared.rights.Wanted.{Wanted}
use Rattle.regent_tree.specs.declared.typing.StaticType.{StaticType}
use Rattle.regent_tree.specs.declared.typing.StaticType.TheVariants.{Index as index_type, Integer as integer_type, Ispace as ispace_type, Nothing as no_type, Partition as partition_type, Pointer as pointer_type, Region as region_type, Truth as truth_type, Unknown as unknown_type}
use Rattle.regent_tree.proofs.Members.{Contains-from_Has, Has, Has-append_left, Has-append_right, Has-from_list_any}
use Rattle.check_rules.specs.rules.Constraints.{breaks_constraint}
use Rattle.check_rules.specs.rules.Counts.{miscounts_call}
use Rattle.check_rules.specs.rules.Partitions.{mispartitions_call}
use Rattle.check_rules.specs.types.Declarations.{params_bound, params_of}
use Rattle.check_rules.specs.first.FirstInExpressions.{first_in_args, first_in_expression, first_of_call}
use Rattle.check_rules.specs.types.KnownTypes.{known_types}
use Rattle.check_rules.specs.rules.Names.{is_unknown_task}
use Rattle.check_rules.specs.types.Params.{types_in_order}
use Rattle.check_rules.specs.rules.Privileges.{lacks, made_above, may_do, rights_declared, rights_of_clause, rights_of_place, wanted_by_call, wanted_of_argument, wanting, rights_told}
use Rattle.check_rules.proofs.Written.{rights_soundly}
use Rattle.check_rules.specs.types.TypedForms.{Calling, calling}
use Rattle.check_rules.specs.types.Sorts.{is_region, is_unknown_type, type_at}
use Rattle.check_rules.specs.scopes.Sound.{IsSound, IsSoundTask}
use Rattle.check_rules.specs.rules.Spaces.{differs, misfit_in, misfits_call}
use Rattle.check_rules.specs.rules.Standing.{param_spot, stand_at, standing_in_call, stands}
use Rattle.check_rules.specs.rules.Types.{is_ill_typed_at_place}
use Rattle.check_rules.specs.declared.rule.Rule.TheVariants as rule
use Rattle.check_laws.specs.SoundScopes.{IsSoundScope}
use Rattle.expression_laws.proofs.Knowing.{known_as_meant}
use Rattle.check_laws.proofs.Parts.{contrary}
use Rattle.expression_laws.specs.Kinds.{IsOfType, is_region_of, is_unknown}
use Rattle.expression_laws.specs.Needs.{IsCallWithin, IsMet, argument_at, is_needed_at, joined_all, mode_at, mode_of, modes_had, modes_needed}
use Rattle.fact_laws.specs.Regions.{IsIn, Interpretation, StandsFor}
use Rattle.expression_laws.specs.Sound.{ArePassed, Instance, IsPassed, IsSoundPlace}
use Rattle.expression_laws.proofs.Covers.{has_flat, on_region}
use Rattle.fact_laws.proofs.Facts.{is_subregion_holds}
use Rattle.lane_kernels.proofs.SameOps.{same_op-tells}
use Rattle.expression_laws.proofs.Joins.{met_among, met_joined}
use Rattle.expression_laws.proofs.Steps.{all_has}

-- ---- lists

pub flat_has : {A B : Type 0} (f : A → List B) (xs : List A) (x : A) (y : B) → Has xs x → Has (f x) y → Has (flat_map f xs) y
flat_has f [] x y h g = absurd h
flat_has f (z ∷ xs) x y (inl e) g = Has-append_left (f z) (flat_map f xs) y (subst (λ k. Has (f k) y) (sym e) g)
flat_has f (z ∷ xs) x y (inr h) g = Has-append_right (f z) (flat_map f xs) y (flat_has f xs x y h g)

-- ---- privileges

-- a privilege is on a parameter of a region
pub right_region : (tree : Tree) (t : TaskTree) (right : Right) → Has (rights_declared tree t) right →
    is_region (type_at (types_in_order (params_bound tree t.params)) right.region) ≡ true
right_region tree t right h =
    let c = has_flat (rights_of_clause tree t.params) t.clauses right h in of_clause c.0 c.2
  where
    of_clause : (c : Clause) → Has (rights_of_clause tree t.params c) right → is_region (type_at (types_in_order (params_bound tree t.params)) right.region) ≡ true
    of_clause (clause.Grants grants places) g =
        let p = has_flat (rights_of_place tree t.params grants) places right g in
        let on = on_region tree _ _ grants p.0.fields right p.2 in
        subst (λ i. is_region (type_at (types_in_order (params_bound tree t.params)) i) ≡ true) (ap (λ (r : Right). r.region) on.is) on.region
    of_clause (clause.Within a b) g = absurd g
    of_clause (clause.Apart a b) g = absurd g

same_modes : (a b : Access) → same_access a b ≡ true → mode_of a ≡ mode_of b
same_modes Read Read e = refl
same_modes Read Write e = absurd cc
same_modes Read (Reduce o) e = absurd cc
same_modes Write Read e = absurd cc
same_modes Write Write e = refl
same_modes Write (Reduce o) e = absurd cc
same_modes (Reduce p) Read e = absurd cc
same_modes (Reduce p) Write e = absurd cc
same_modes (Reduce p) (Reduce q) e = ap mode.Reduce (same_op-tells p q e)

module _ (x : Instance) (m : Interpretation) (s : Scope) (task : IsSoundTask x.tree x.task) (place : IsSoundPlace x m s) where
  -- what is held on a term is had at each point of its regions
  held_mode : (t : Term) (f : ℕ) (a : Access) (r : Region) (root point : ℕ) → StandsFor m t r → IsIn r root point →
      is_held (rights_declared x.tree x.task) s.known t f a ≡ true → Has (modes_needed x.tree x.task x.args root f point) (mode_of a)
  held_mode t f a r root point stands is_in e =
      let found = Has-from_list_any (gives s.known t f a) (rights_declared x.tree x.task) e in
      let right : Right = found.0 in
      let last = and_parts ((right.field == f) && same_access right.access a) _ found.2 in
      let first = and_parts (right.field == f) _ last.0 in
      let lies = is_subregion_holds m s.known place.holds t (term.Name right.region) last.1 r (m.region right.region) stands refl in
      let given = place.params right.region
      (subst (λ ts. is_region (type_at ts right.region) ≡ true) (ap types_in_order task.params) (right_region x.tree x.task right found.1)) in
      let there = subst (λ q. IsIn q root point) given (lies root point is_in) in
      let needed : is_needed_at x.args root f point right ≡ true = and_from _ _ first.0 (and_from _ _ (eq-eqb _ root there.0) there.1) in
      let at : Has (mode_at x.args root f point right) (mode_of a) =
      subst (λ ms. Has ms (mode_of a)) (sym (cond-true (is_needed_at x.args root f point right) (mode_of right.access ∷ []) [] needed))
      (inl (same_modes right.access a first.1)) in
      flat_has (mode_at x.args root f point) (rights_declared x.tree x.task) right (mode_of a) found.1 at

  -- what meets both Read and Write is Write
  both_met : (o : Option Mode) (a : Mode) → IsMet o mode.Read → IsMet o mode.Write → IsMet o a
  both_met None a r w = absurd r
  both_met (Some c) a r (inl e) = inr e
  both_met (Some c) a r (inr e) = inr e

  granted_met : (w : Wanted) (r : Region) (root point : ℕ) → StandsFor m w.term r → IsIn r root point →
      is_granted (rights_declared x.tree x.task) s.known w ≡ true → IsMet (joined_all (modes_needed x.tree x.task x.args root w.field point)) (mode_of w.access)
  granted_met w r root point stands is_in e = by w.access e
    where
      by : (a : Access) → allows (rights_declared x.tree x.task) s.known w.term w.field a ≡ true → IsMet (joined_all (modes_needed x.tree x.task x.args root w.field point)) (mode_of a)
      by Read g = met_among _ _ (held_mode w.term w.field Read r root point stands is_in g)
      by Write g = met_among _ _ (held_mode w.term w.field Write r root point stands is_in g)
      by (Reduce o) g = elim (or_cases _ _ g) [
        | inl k ↦ met_among _ _ (held_mode w.term w.field (Reduce o) r root point stands is_in k)
        | inr k ↦
            let both = and_parts _ _ k in
            both_met _ _ (met_among _ _ (held_mode w.term w.field Read r root point stands is_in both.0))
            (met_among _ _ (held_mode w.term w.field Write r root point stands is_in both.1))
      ]

  pub may_meets : (w : Wanted) (r : Region) (root point : ℕ) → StandsFor m w.term r → IsIn r root point →
      may_do (rights_declared x.tree x.task) s.known w ≡ true → IsMet (joined_all (modes_had x root w.field point)) (mode_of w.access)
  may_meets w r root point stands is_in e = had (nat_le x.roots root) refl
    where
      own_root : ((k : Known) × Has s.known k × (made_above s.known w.term k ≡ true)) → nat_le x.roots root ≡ true
      own_root (Made i, h, above) =
          let lies = is_subregion_holds m s.known place.holds w.term (term.Name i) above r (m.region i) stands refl in
          le-leb x.roots root (place.own i (Contains-from_Has s.known (Made i) h) root point (lies root point is_in))
      own_root (Within a b, h, above) = absurd cc
      own_root (Apart a b, h, above) = absurd cc
      own_root (PartOf p r d, h, above) = absurd cc

      had : (b : Bool) → nat_le x.roots root ≡ b →
          IsMet (joined_all (cond b (mode.Write ∷ []) (modes_needed x.tree x.task x.args root w.field point))) (mode_of w.access)
      had true q = inr refl
      had false q = elim (or_cases _ _ e) [
        | inl g ↦ granted_met w r root point stands is_in g
        | inr g ↦ absurd (contrary (sym (own_root (Has-from_list_any (made_above s.known w.term) s.known g)) ∙ q))
      ]

-- ---- arguments

-- a region that is given for a parameter of a region: what a privilege on the parameter wants of it
record IsGivenRegion (p t : StaticType) : Type 0 where
  term : Term
  wants : (w : Right) → Has (wanted_of_argument p t w) (wanting w.field w.access term)
  stands : (m : Interpretation) (v : Value) → IsOfType m t v → StandsFor m term (region_of v)

given_region : (known : List Known) (types : List StaticType) (p t : StaticType) → is_region p ≡ true → is_unknown_type t ≡ false →
    is_ill_typed_at_place known (stands t (param_spot (put_in types p))) ≡ false → differs types p t ≡ false → IsGivenRegion p t
given_region known types (region_type k s args r) (region_type j u others q) e is st d =
    let same = and_parts _ _ (and_parts _ _ (not-false _ d)).0 in record {
      term = q;
      wants = λ w. subst (λ ws. Has ws (wanting w.field w.access q)) (sym (cond-true (s == u) (wanting w.field w.access q ∷ []) [] same.1)) (inl refl);
      stands = λ m v is. region_stands m v is;
    }
  where
    region_stands : (m : Interpretation) (v : Value) → IsOfType m (region_type j u others q) v → StandsFor m q (region_of v)
    region_stands m v (is_region_of is) = is
given_region known types (region_type k s args r) (integer_type w) e is st d = absurd cc
given_region known types (region_type k s args r) truth_type e is st d = absurd cc
given_region known types (region_type k s args r) (index_type j) e is st d = absurd cc
given_region known types (region_type k s args r) (pointer_type j u others terms) e is st d = absurd cc
given_region known types (region_type k s args r) (ispace_type j) e is st d = absurd cc
given_region known types (region_type k s args r) (partition_type f q p) e is st d = absurd cc
given_region known types (region_type k s args r) no_type e is st d = absurd cc
given_region known types (region_type k s args r) unknown_type e is st d = absurd cc
given_region known types (integer_type w) t e is st d = absurd cc
given_region known types truth_type t e is st d = absurd cc
given_region known types (index_type k) t e is st d = absurd cc
given_region known types (pointer_type k s args terms) t e is st d = absurd cc
given_region known types (ispace_type k) t e is st d = absurd cc
given_region known types (partition_type f q p) t e is st d = absurd cc
given_region known types no_type t e is st d = absurd cc
given_region known types unknown_type t e is st d = absurd cc

given_at : (known : List Known) (types params args : List StaticType) (i : ℕ) → is_region (type_at params i) ≡ true →
    length args ≡ length params → list_any is_unknown_type args ≡ false → list_any (is_ill_typed_at_place known) (stand_at types params args) ≡ false →
    misfit_in types params args ≡ false → IsGivenRegion (type_at params i) (type_at args i)
given_at known types [] args i e len is st d = absurd cc
given_at known types (p ∷ params) [] i e len is st d = absurd (omega (arith, len))
given_at known types (p ∷ params) (t ∷ args) zero e len is st d =
    given_region known types p t e (or_parts _ _ is).0 (or_parts _ _ st).0 (sym (λ j. e j && differs types p t) ∙ (or_parts _ _ d).0)
given_at known types (p ∷ params) (t ∷ args) (suc i) e len is st d =
    given_at known types params args i e (omega (arith, len)) (or_parts _ _ is).1 (or_parts _ _ st).1 (or_parts _ _ d).1

-- the types of parameters as they are read with arguments are of the same sorts
put_region : (types : List StaticType) (p : StaticType) → is_region (put_in types p) ≡ is_region p
put_region types (integer_type w) = refl
put_region types truth_type = refl
put_region types (index_type k) = refl
put_region types (pointer_type k s args terms) = refl
put_region types (ispace_type k) = refl
put_region types (region_type k s args r) = refl
put_region types (partition_type d r p) = refl
put_region types no_type = refl
put_region types unknown_type = refl

put_regions : (types params : List StaticType) (i : ℕ) → is_region (type_at (map (put_in types) params) i) ≡ is_region (type_at params i)
put_regions types [] i = refl
put_regions types (p ∷ params) zero = put_region types p
put_regions types (p ∷ params) (suc i) = put_regions types params i

region_passed : (m : Interpretation) (from wanted : StaticType) (v : Value) → is_region wanted ≡ true → IsPassed m from wanted v → IsOfType m from v
region_passed m from (region_type k s args r) v e is = is
region_passed m from (integer_type w) v e is = absurd cc
region_passed m from truth_type v e is = absurd cc
region_passed m from (index_type k) v e is = absurd cc
region_passed m from (pointer_type k s args terms) v e is = absurd cc
region_passed m from (ispace_type k) v e is = absurd cc
region_passed m from (partition_type d r p) v e is = absurd cc
region_passed m from no_type v e is = absurd cc
region_passed m from unknown_type v e is = absurd cc

passed_at : (m : Interpretation) (tree : Tree) (s : Scope) (types : List StaticType) (es : Expressions) (vs : List Value) (i : ℕ) →
    ArePassed m tree s types es vs → is_region (type_at types i) ≡ true → IsOfType m (type_at (types_of tree s es) i) (get_or vs i (a_truth false))
passed_at m tree s types no_expr [] i passed e = is_unknown
passed_at m tree s types no_expr (v ∷ vs) i passed e = absurd passed
passed_at m tree s types (an_expr y es) [] i passed e = absurd passed
passed_at m tree s [] (an_expr y es) (v ∷ vs) i passed e = absurd cc
passed_at m tree s (t ∷ types) (an_expr y es) (v ∷ vs) zero passed e = region_passed m (type_of tree s y) t v e passed.0
passed_at m tree s (t ∷ types) (an_expr y es) (v ∷ vs) (suc i) passed e = passed_at m tree s types es vs i passed.1 e

-- what isn't told of a call
pub record IsFlawless (tree : Tree) (task : TaskTree) (s : Scope) (c : Calling) : Type 0 where
  pub named : is_unknown_task tree c ≡ false
  pub counted : miscounts_call tree c ≡ false
  pub stand : list_any (is_ill_typed_at_place s.known) (standing_in_call tree c) ≡ false
  pub fits : misfits_call (params_of tree c.task) c ≡ false
  pub parted : mispartitions_call (params_of tree c.task) c ≡ false
  pub allowed : lacks tree task s (wanted_by_call tree c) ≡ false
  pub constrained : breaks_constraint tree s.known c ≡ false

pub call_parts : (tree : Tree) (task : TaskTree) (s : Scope) (c : Calling) → first_of_call tree task s c ≡ None → IsFlawless tree task s c
call_parts tree task s c e =
    let n = option_or_parts _ _ e in
    let o = option_or_parts _ _ n.1 in
    let p = option_or_parts _ _ o.1 in
    let q = option_or_parts _ _ p.1 in
    let r = option_or_parts _ _ q.1 in
    let l = option_or_parts _ _ r.1 in
    let k = option_or_parts _ _ l.1 in record {
      named = rule_none (is_unknown_task tree c) rule.Name n.0;
      counted = rule_none (miscounts_call tree c) rule.Count o.0;
      stand = stand_none s.known (standing_in_call tree c) p.0;
      fits = rule_none (misfits_call (params_of tree c.task) c) rule.Spaces q.0;
      parted = rule_none (mispartitions_call (params_of tree c.task) c) rule.Partition r.0;
      allowed = rule_none (lacks tree task s (wanted_by_call tree c)) rule.CallPrivilege l.0;
      constrained = rule_none (breaks_constraint tree s.known c) rule.CallConstraint k.0;
    }

pub bound_count : (tree : Tree) (all : List Param) (i : ℕ) (ps : List Param) → length (bound_params tree all i ps) ≡ length ps
bound_count tree all i [] = refl
bound_count tree all i (p ∷ ps) =
    let rest = bound_count tree all (suc i) ps in
    length-append (bound_params tree all (suc i) ps) _ ∙ omega (arith, rest)

pub bound_long : (tree : Tree) (all : List Param) (i : ℕ) (ps : List Param) → length (types_in_order (bound_params tree all i ps)) ≡ length ps
bound_long tree all i ps =
    length-map (reverse (bound_params tree all i ps)) (λ (b : Bound). b.static_type) ∙ length-reverse (bound_params tree all i ps) ∙ bound_count tree all i ps

module _ (task : TaskTree) (args : List Value) (roots : ℕ) (m : Interpretation) (h : Here) (sound : IsSound h.tree) (sound_task : IsSoundTask h.tree task)
    (scope : IsSoundScope h.scope) (place : IsSoundPlace (record { tree = h.tree; calls = h.calls; task = task; args = args; roots = roots }) m h.scope) where
  abbrev x : Instance
  x = record { tree = h.tree; calls = h.calls; task = task; args = args; roots = roots }

  pub types_known : (es : Expressions) → first_in_args h.tree task h.scope es ≡ None →
      (known_types h.tree h.scope es ≡ types_of h.tree h.scope es) × (list_any is_unknown_type (known_types h.tree h.scope es) ≡ false)
  types_known no_expr e = (refl, refl)
  types_known (an_expr y es) e =
      let parts = option_or_parts (first_in_expression h.tree task h.scope y) _ e in
      let k = known_as_meant h.tree task h.scope y sound scope parts.0 in
      let rest = types_known es parts.1 in
      ((λ j. k.1 j ∷ rest.0 j), (λ j. k.0.known j || rest.1 j))

  pub params_long : (name : Name) → length (params_of h.tree name) ≡ length (task_named h.tree name).params
  params_long name = ap (λ bs. length (types_in_order bs)) (sound.params name) ∙ bound_long h.tree (task_named h.tree name).params 0 (task_named h.tree name).params

  -- the values that arguments without a breach have, for a call of which nothing is told
  pub call_within : (name : Name) (es : Expressions) (vs : List Value) → first_in_args h.tree task h.scope es ≡ None →
      first_of_call h.tree task h.scope (calling name (known_types h.tree h.scope es)) ≡ None →
      ArePassed m h.tree h.scope (params_at h.tree h.scope (task_named h.tree name) es) es vs →
      IsCallWithin x (task_named h.tree name) vs
  call_within name es vs told e passed root field point a joined =
      met_joined (joined_all (modes_had x root field point)) (modes_needed h.tree (task_named h.tree name) vs root field point) a each joined
    where
      right_met : (w : Right) → Has (rights_declared h.tree (task_named h.tree name)) w → is_needed_at vs root field point w ≡ true →
          IsMet (joined_all (modes_had x root field point)) (mode_of w.access)
      right_met w h_right needed =
          let parts = call_parts h.tree task h.scope (calling name (known_types h.tree h.scope es)) e in
          let counted : not (length (known_types h.tree h.scope es) == length (task_named h.tree name).params) ≡ false =
          sym (λ j. not-false (has_task h.tree name) parts.named j && not (length (known_types h.tree h.scope es) == length (task_named h.tree name).params)) ∙ parts.counted in
          let types = types_known es told in
          let region = right_region h.tree (task_named h.tree name) w h_right in
          let long : length (known_types h.tree h.scope es) ≡ length (params_of h.tree name) =
          eqb-true _ _ (not-false _ counted) ∙ sym (params_long name) in
          let given = given_at h.scope.known (known_types h.tree h.scope es) (params_of h.tree name) (known_types h.tree h.scope es) w.region region long types.1 parts.stand parts.fits in
          let passed_region : is_region (type_at (params_at h.tree h.scope (task_named h.tree name) es) w.region) ≡ true =
          put_regions (types_of h.tree h.scope es) (param_types h.tree (task_named h.tree name)) w.region ∙ ap (λ ts. is_region (type_at (types_in_order ts) w.region)) (sym (sound.params name)) ∙ region in
          let value = passed_at m h.tree h.scope (params_at h.tree h.scope (task_named h.tree name) es) es vs w.region passed passed_region in
          let stands_for = given.stands m (get_or vs w.region (a_truth false)) (subst (λ ts. IsOfType m (type_at ts w.region) (get_or vs w.region (a_truth false))) (sym types.0) value) in
          let at = and_parts (w.field == field) _ needed in
          let is_in = and_parts ((argument_at vs w.region).root == root) _ at.1 in
          let wanted = flat_has (λ (v : Right). wanted_of_argument (type_at (params_of h.tree name) v.region) (type_at (known_types h.tree h.scope es) v.region) v)
          (rights_told h.tree (task_named h.tree name)) w (wanting w.field w.access given.term)
          (subst (λ rs. Has rs w) (sym (rights_soundly h.tree (task_named h.tree name) (sound.clauses name))) h_right) (given.wants w) in
          let may = all_has (may_do (rights_declared h.tree task) h.scope.known) (wanted_by_call h.tree (calling name (known_types h.tree h.scope es))) (wanting w.field w.access given.term) (not-false _ parts.allowed) wanted in
          subst (λ f. IsMet (joined_all (modes_had x root f point)) (mode_of w.access)) (eqb-true w.field field at.0)
          (may_meets x m h.scope sound_task place (wanting w.field w.access given.term) (argument_at vs w.region) root point stands_for
          (eqb-true (argument_at vs w.region).root root is_in.0, is_in.1) may)

      mode_met : (w : Right) → Has (rights_declared h.tree (task_named h.tree name)) w → (b : Mode) (needed : Bool) → is_needed_at vs root field point w ≡ needed →
          Has (cond needed (mode_of w.access ∷ []) []) b → IsMet (joined_all (modes_had x root field point)) b
      mode_met w h_right b true needed (inl same) = subst (IsMet (joined_all (modes_had x root field point))) same (right_met w h_right needed)
      mode_met w h_right b true needed (inr g) = absurd g
      mode_met w h_right b false needed g = absurd g

      each : (b : Mode) → Has (modes_needed h.tree (task_named h.tree name) vs root field point) b → IsMet (joined_all (modes_had x root field point)) b
      each b g =
          let w = has_flat (mode_at vs root field point) (rights_declared h.tree (task_named h.tree name)) b g in
          mode_met w.0 w.1 b (is_needed_at vs root field point w.0) refl w.2
