-- What stands as an argument: a name that has a region, a part of a partition that has a name, or an expression of a
-- number or truth.
use Rattle.std.proofs.Common.{⊎_elim, ◌≡◌, ◌⊎◌, inl, inr, Bool, false, true, [], Option, Some, None, refl, ap, ◌∙◌, subst}
use Rattle.std.proofs.lemmas.Option.{none-some, same_Some}
use Rattle.regent_tree.specs.Accesses.{converted, space_in}
use Rattle.regent_tree.specs.Lookup.{is_bound}
use Rattle.regent_tree.specs.Running.{Here, State, gives}
use Rattle.regent_tree.specs.Scopes.{Scope, bound_as}
use Rattle.regent_tree.specs.Syntax.{Expression, Name, access_expr, at_step, call_expr, cast_expr, chain_expr, convert_expr, field_step, is_null_expr, no_step, null_expr, number_expr, prefix_expr, space_expr, truth_expr}
use Rattle.regent_tree.specs.Typing.{child_type, colour_of, parent_of, type_of_element}
use Rattle.regent_tree.specs.Values.{Value}
use Rattle.regent_tree.specs.declared.facts.Term.{Term}
use Rattle.regent_tree.specs.declared.facts.Term.TheVariants as term
use Rattle.regent_tree.specs.declared.typing.StaticType.{StaticType}
use Rattle.regent_tree.specs.declared.typing.StaticType.TheVariants.{Index as index_type, Integer as integer_type, Ispace as ispace_type, Nothing as no_type, Partition as partition_type, Pointer as pointer_type, Region as region_type, Truth as truth_type, Unknown as unknown_type}
use Rattle.code_rules.specs.Instructions.{converted_code}
use Rattle.code_rules.specs.Pieces.{empty}
use Rattle.code_rules.specs.Slots.{Where, bound, typed}
use Rattle.code_laws.specs.Pointers.{Passes, PassesInto, a_pointer_type, passes_plain, passes_pointer, GoesInto, fills_alike, fills_index, into_index, into_plain, into_space}
use Rattle.code_laws.specs.Simple.{AreAlike, AreRegions, IsPartition, IsRegion, a_partition_type, a_region_type, two_integers, two_regions, two_truths, number_index, number_integer}
use Rattle.code_laws.specs.Steps.{Taking}
use Rattle.code_laws.specs.Arguments.{IsCutName, IsHanded, IsHandedPart, name_of, parent_bound, part_of}

-- ---- names that stand as arguments

-- a region that is handed over has a name
pub handed_name : (y : Taking) (w : Where) (t p : StaticType) (e : Expression) → IsHanded (Some y) w t p e →
    (n : Name) × (e ≡ access_expr n no_step) × (is_bound w.scope.names n ≡ true) × (t ≡ p) × AreRegions (bound w n).static_type p
handed_name y w t p (access_expr n no_step) h = (n, refl, h.0, h.1, h.2)
handed_name y w t p (access_expr n (field_step _ _)) h = absurd h
handed_name y w t p (access_expr n (at_step _ _)) h = absurd h
handed_name y w t p (number_expr _ _) h = absurd h
handed_name y w t p (truth_expr _) h = absurd h
handed_name y w t p (chain_expr _ _) h = absurd h
handed_name y w t p (prefix_expr _ _) h = absurd h
handed_name y w t p (call_expr _ _) h = absurd h
handed_name y w t p (convert_expr _ _) h = absurd h
handed_name y w t p (is_null_expr _) h = absurd h
handed_name y w t p (null_expr _) h = absurd h
handed_name y w t p (cast_expr _ _) h = absurd h
handed_name y w t p (space_expr _ _) h = absurd h

-- a part that is handed over is one of a name's partition
pub record IsPartArgument (o : Option Taking) (w : Where) (t p : StaticType) (e : Expression) (Part : Type 0) : Type 0 where
  pub taking : Taking
  pub takes : o ≡ Some taking
  pub name : Name
  pub index : Expression
  pub is : e ≡ access_expr name (at_step index no_step)
  pub cut : IsCutName w name
  pub same : t ≡ p
  pub regions : AreRegions (typed w e) p
  pub part : Part

-- so is a partition
pub record IsCutArgument (o : Option Taking) (w : Where) (t p : StaticType) (e : Expression) : Type 0 where
  pub taking : Taking
  pub takes : o ≡ Some taking
  pub name : Name
  pub is : e ≡ access_expr name no_step
  pub cut : IsCutName w name
  pub same : t ≡ p
  pub partition : IsPartition p

pub handed_part : (keeps : Bool) (o : Option Taking) (w : Where) (t p : StaticType) (e : Expression) (Part : Type 0) →
    IsHandedPart keeps o w t p e Part → IsPartArgument o w t p e Part ⊎ IsCutArgument o w t p e
handed_part false o w t p e Part h = absurd h
handed_part true None w t p e Part h = absurd h
handed_part true (Some y) w t p (access_expr n (at_step e no_step)) Part h =
    inl (record { taking = y; takes = refl; name = n; index = e; is = refl; cut = h.0; same = h.1; regions = h.2; part = h.3 })
handed_part true (Some y) w t p (access_expr n no_step) Part h =
    inr (record { taking = y; takes = refl; name = n; is = refl; cut = h.0; same = h.1; partition = h.2 })
handed_part true (Some y) w t p (access_expr n (field_step _ _)) Part h = absurd h
handed_part true (Some y) w t p (access_expr n (at_step _ (field_step _ _))) Part h = absurd h
handed_part true (Some y) w t p (access_expr n (at_step _ (at_step _ _))) Part h = absurd h
handed_part true (Some y) w t p (number_expr _ _) Part h = absurd h
handed_part true (Some y) w t p (truth_expr _) Part h = absurd h
handed_part true (Some y) w t p (chain_expr _ _) Part h = absurd h
handed_part true (Some y) w t p (prefix_expr _ _) Part h = absurd h
handed_part true (Some y) w t p (call_expr _ _) Part h = absurd h
handed_part true (Some y) w t p (convert_expr _ _) Part h = absurd h
handed_part true (Some y) w t p (is_null_expr _) Part h = absurd h
handed_part true (Some y) w t p (null_expr _) Part h = absurd h
handed_part true (Some y) w t p (cast_expr _ _) Part h = absurd h
handed_part true (Some y) w t p (space_expr _ _) Part h = absurd h

-- nothing is a name and a part
pub no_both : (e : Expression) (n : Name) (p : Name × Expression) → name_of e ≡ Some n → part_of e ≡ Some p → ⊥
no_both (access_expr m no_step) n p a b = absurd (none-some p b)
no_both (access_expr m (field_step _ _)) n p a b = absurd (none-some n a)
no_both (access_expr m (at_step _ _)) n p a b = absurd (none-some n a)
no_both (number_expr _ _) n p a b = absurd (none-some n a)
no_both (truth_expr _) n p a b = absurd (none-some n a)
no_both (chain_expr _ _) n p a b = absurd (none-some n a)
no_both (prefix_expr _ _) n p a b = absurd (none-some n a)
no_both (call_expr _ _) n p a b = absurd (none-some n a)
no_both (convert_expr _ _) n p a b = absurd (none-some n a)
no_both (is_null_expr _) n p a b = absurd (none-some n a)
no_both (null_expr _) n p a b = absurd (none-some n a)
no_both (cast_expr _ _) n p a b = absurd (none-some n a)
no_both (space_expr _ _) n p a b = absurd (none-some n a)

-- what goes into something is a number, a truth, an index, a pointer or an index space
abbrev IsGoing : StaticType → Type 0
IsGoing (integer_type w) = Unit {0}
IsGoing truth_type = Unit {0}
IsGoing (index_type k) = Unit {0}
IsGoing (pointer_type k sp args rs) = Unit {0}
IsGoing (ispace_type k) = Unit {0}
IsGoing t = ⊥

goes_as : (t u : StaticType) → GoesInto t u → IsGoing t
goes_as _ _ (into_plain _ _ (fills_alike _ _ (two_integers v w))) = tt
goes_as _ _ (into_plain _ _ (fills_alike _ _ two_truths)) = tt
goes_as _ _ (into_plain _ _ (fills_index _ k (number_integer w))) = tt
goes_as _ _ (into_plain _ _ (fills_index _ k (number_index j))) = tt
goes_as _ _ (into_index k sp args rs j) = tt
goes_as _ _ (into_space j k) = tt

passes_as : (t u p : StaticType) → Passes t u p → IsGoing t
passes_as t _ _ (passes_plain _ u g) = goes_as t u g
passes_as _ _ _ (passes_pointer _ k sp args brgs rs qs (a_pointer_type j sq crgs us n) e) = tt

-- so a part of a partition goes into nothing
child_other : (t u p : StaticType) (r : Term) → Passes (child_type t r) u p → ⊥
child_other (region_type k sp args q) u p r a = passes_as _ u p a
child_other (integer_type _) u p r a = passes_as _ u p a
child_other truth_type u p r a = passes_as _ u p a
child_other (index_type _) u p r a = passes_as _ u p a
child_other (pointer_type _ _ _ _) u p r a = passes_as _ u p a
child_other (ispace_type _) u p r a = passes_as _ u p a
child_other (partition_type _ _ _) u p r a = passes_as _ u p a
child_other no_type u p r a = passes_as _ u p a
child_other unknown_type u p r a = passes_as _ u p a

cut_other : (s : Scope) (t u p : StaticType) (e : Expression) → IsPartition t → Passes (type_of_element s t e) u p → ⊥
cut_other s _ u p e (a_partition_type d r own) a = child_other (bound_as s.names r).static_type u p (term.Child own (colour_of s e)) a

child_space : (t : StaticType) (r : Term) → IsRegion t → space_in (child_type t r) ≡ space_in t
child_space _ r (a_region_type k sp args q) = refl

cut_space : (s : Scope) (t : StaticType) (e : Expression) → IsPartition t → IsRegion (bound_as s.names (parent_of t)).static_type →
    space_in (type_of_element s t e) ≡ space_in (bound_as s.names (parent_of t)).static_type
cut_space s _ e (a_partition_type d r own) region = child_space (bound_as s.names r).static_type (term.Child own (colour_of s e)) region

-- a part is written so
pub part_is : (e : Expression) (p : Name × Expression) → part_of e ≡ Some p → e ≡ access_expr p.0 (at_step p.1 no_step)
part_is (access_expr m (at_step f no_step)) p is = ap (λ (q : Name × Expression). access_expr q.0 (at_step q.1 no_step)) (same_Some (m, f) p is)
part_is (access_expr m no_step) p is = absurd (none-some p is)
part_is (access_expr m (field_step _ _)) p is = absurd (none-some p is)
part_is (access_expr m (at_step _ (field_step _ _))) p is = absurd (none-some p is)
part_is (access_expr m (at_step _ (at_step _ _))) p is = absurd (none-some p is)
part_is (number_expr _ _) p is = absurd (none-some p is)
part_is (truth_expr _) p is = absurd (none-some p is)
part_is (chain_expr _ _) p is = absurd (none-some p is)
part_is (prefix_expr _ _) p is = absurd (none-some p is)
part_is (call_expr _ _) p is = absurd (none-some p is)
part_is (convert_expr _ _) p is = absurd (none-some p is)
part_is (is_null_expr _) p is = absurd (none-some p is)
part_is (null_expr _) p is = absurd (none-some p is)
part_is (cast_expr _ _) p is = absurd (none-some p is)
part_is (space_expr _ _) p is = absurd (none-some p is)

pub part_other : (w : Where) (e : Expression) (t u : StaticType) (p : Name × Expression) → part_of e ≡ Some p → IsCutName w p.0 → Passes (typed w e) t u → ⊥
part_other w e t u p is cut a = cut_other w.scope (bound w p.0).static_type t u p.1 cut.partition (subst (λ e. Passes (typed w e) t u) (part_is e p is) a)

pub part_space : (w : Where) (e : Expression) (p : Name × Expression) → part_of e ≡ Some p → IsCutName w p.0 → IsRegion (parent_bound w p.0).static_type →
    space_in (typed w e) ≡ space_in (parent_bound w p.0).static_type
part_space w e p is cut region =
    ap (λ e. space_in (typed w e)) (part_is e p is) ∙ cut_space w.scope (bound w p.0).static_type p.1 cut.partition region

-- a name's type
pub named_typed : (w : Where) (e : Expression) (n : Name) → name_of e ≡ Some n → typed w e ≡ (bound w n).static_type
named_typed w (access_expr m no_step) n h = ap (λ k. (bound w k).static_type) (same_Some m n h)
named_typed w (access_expr m (field_step _ _)) n h = absurd (none-some n h)
named_typed w (access_expr m (at_step _ _)) n h = absurd (none-some n h)
named_typed w (number_expr _ _) n h = absurd (none-some n h)
named_typed w (truth_expr _) n h = absurd (none-some n h)
named_typed w (chain_expr _ _) n h = absurd (none-some n h)
named_typed w (prefix_expr _ _) n h = absurd (none-some n h)
named_typed w (call_expr _ _) n h = absurd (none-some n h)
named_typed w (convert_expr _ _) n h = absurd (none-some n h)
named_typed w (is_null_expr _) n h = absurd (none-some n h)
named_typed w (null_expr _) n h = absurd (none-some n h)
named_typed w (cast_expr _ _) n h = absurd (none-some n h)
named_typed w (space_expr _ _) n h = absurd (none-some n h)

-- no region is a number or truth
abbrev pub IsNoRegion : StaticType → Type 0
IsNoRegion (region_type k sp args r) = ⊥
IsNoRegion t = Unit {0}

pub alike_other : (t u : StaticType) → AreAlike t u → IsNoRegion t
alike_other _ _ (two_integers v w) = tt
alike_other _ _ two_truths = tt

pub goes_other : (t u : StaticType) → GoesInto t u → IsNoRegion t
goes_other _ _ (into_plain t u (fills_alike _ _ a)) = alike_other t u a
goes_other _ _ (into_plain _ _ (fills_index _ k (number_integer w))) = tt
goes_other _ _ (into_plain _ _ (fills_index _ k (number_index j))) = tt
goes_other _ _ (into_index k sp args rs j) = tt
goes_other _ _ (into_space j k) = tt

pub passes_other : (t u p : StaticType) → Passes t u p → IsNoRegion t
passes_other t _ _ (passes_plain _ u g) = goes_other t u g
passes_other _ _ _ (passes_pointer _ k sp args brgs rs qs (a_pointer_type j sq crgs us n) e) = tt

pub region_other : (t : StaticType) → IsRegion t → IsNoRegion t → ⊥
region_other _ (a_region_type k sp args r) h = absurd h

pub first_region : (t u : StaticType) → AreRegions t u → IsRegion t
first_region _ _ (two_regions k l sp args brgs r u) = a_region_type k sp args r

-- a region isn't converted
pub record Unchanged (h : Here) (w : Where) (from t : StaticType) : Type 0 where
  pub code : converted_code w from t ≡ empty
  pub value : (v : Value) (s : State) → converted h from t [] v s ≡ gives v s

pub unchanged : (h : Here) (w : Where) (from b p : StaticType) → AreRegions b p → Unchanged h w from p
unchanged h w from _ _ (two_regions k l sp args brgs r u) = record { code = refl; value = λ v s. refl }

pub cut_unchanged : (h : Here) (w : Where) (from p : StaticType) → IsPartition p → Unchanged h w from p
cut_unchanged h w from _ (a_partition_type d r own) = record { code = refl; value = λ v s. refl }

-- what is passed goes into the parameter, or is a region that has a name, a part, or a partition that has a name
pub given_by : (keeps : Bool) (o : Option Taking) (w : Where) (t p : StaticType) (e : Expression) (Typed Part Goal : Type 0) →
    (PassesInto keeps (typed w e) t p → Typed → Goal) → ((y : Taking) → o ≡ Some y → IsHanded (Some y) w t p e → Goal) →
    (IsPartArgument o w t p e Part → Goal) → (IsCutArgument o w t p e → Goal) →
    (PassesInto keeps (typed w e) t p × Typed) ⊎ (IsHanded o w t p e ⊎ IsHandedPart keeps o w t p e Part) → Goal
given_by keeps o w t p e Typed Part Goal this that other last (inl a) = this a.0 a.1
given_by keeps None w t p e Typed Part Goal this that other last (inr (inl h)) = absurd h
given_by keeps (Some y) w t p e Typed Part Goal this that other last (inr (inl h)) = that y refl h
given_by keeps o w t p e Typed Part Goal this that other last (inr (inr h)) = ⊎_elim other last (handed_part keeps o w t p e Part h)
