-- Over what loops go, of which no breach is told: index spaces, regions that have names, and parts.
use Rattle.std.proofs.Common.{inr, ◌≡◌, List, None, true, sym, subst, ℕ, refl, inl, ◌⊎◌, false}
use Rattle.regent_tree.specs.Limits.{parts_of_expression}
use Rattle.regent_tree.specs.Lookup.{is_bound}
use Rattle.regent_tree.specs.Scopes.{Scope, bound_to}
use Rattle.regent_tree.specs.StaticTypes.{Reach}
use Rattle.regent_tree.specs.Syntax.{Expression, Name, TaskTree, Tree, access_expr, no_step, at_step}
use Rattle.regent_tree.specs.Typing.{type_of, taken_from, parent_of}
use Rattle.regent_tree.specs.declared.facts.Term.TheVariants as place
use Rattle.regent_tree.specs.declared.typing.StaticType.{StaticType}
use Rattle.check_laws.specs.SoundScopes.{IsSoundScope}
use Rattle.check_rules.specs.first.FirstInExpressions.{first_in_expression}
use Rattle.check_rules.specs.rules.Standing.{domain_spot, stands}
use Rattle.check_rules.specs.rules.Types.{may_stand}
use Rattle.check_rules.specs.scopes.Sound.{IsSound, IsSoundTask}
use Rattle.check_rules.specs.types.KnownTypes.{known_type}
use Rattle.code_rules.specs.Slots.{Where}
use Rattle.code_laws.specs.WrittenForms.{is_written_expression}
use Rattle.code_laws.specs.Handing.{forms_by}
use Rattle.code_laws.specs.Simple.{IsRegion, IsSpace, a_space_type, simple_index, IsPartition, a_partition_type}
use Rattle.code_laws.specs.Steps.{Forms}
use Rattle.code_laws.specs.Typed.{IsTyped, LoopsOver, IsIndexed, IsOwnCut, LoopsOverPart}
use Rattle.code_laws.proofs.KnownHeads.{IsReady}
use Rattle.code_laws.proofs.LocalNames.{IsKept, IsLocalTree, kept_region, named_kept, kept_value, kept_partition}
use Rattle.code_laws.proofs.Typing.{AreKept, no_way_back}
use Rattle.code_laws.proofs.LocalValues.{IsValue, space_looped, value_domain, value_pointer, value_simple, value_other}
use Rattle.regent_tree.specs.declared.types.Kind.{Kind}
use Rattle.regent_tree.specs.declared.typing.StaticType.TheVariants.{Index as index_type, Region as region_type}
use Rattle.code_laws.proofs.LocalElements.{own_region, part_goal, region_among, region_bound, region_of_space}
use Rattle.code_laws.specs.Arguments.{IsCutName}
use Rattle.code_laws.proofs.Domains.{part_is}
use Rattle.code_laws.proofs.LocalGoals.{IsRegionAmong}
use Rattle.code_laws.proofs.LocalArguments.{IsArgument}
use Rattle.check_rules.specs.types.Declarations.{is_no_result_type}
use Rattle.code_laws.proofs.LocalVariables.{at, headed, stands_as}

module _ (tree : Tree) (task : TaskTree) (sound : IsSound tree) (sound_task : IsSoundTask tree task)
    (local : IsLocalTree tree) (params : ℕ) (result : is_no_result_type task.result ≡ false) where
  abbrev forms : Forms
  forms = forms_by true true tree task

  abbrev Ready : Scope → Type 0
  Ready s = IsReady tree task s

  abbrev here : Scope → ℕ → Where
  here s line = at tree task sound sound_task local params result s line

  -- over what a loop goes, and what it takes
  pub record IsDomain (s : Scope) (line : ℕ) (y : Expression) : Type 0 where
    pub over : (LoopsOver true (here s line) y × IsTyped forms (here s line) y)
        ⊎ ((true ≡ true) × LoopsOverPart (here s line) y (IsIndexed forms (here s line) y))
    pub taken : IsKept true s.names s.next (taken_from (type_of tree s y))

  index_kept : (s : Scope) (t : StaticType) → IsSpace t → IsKept true s.names s.next (taken_from t)
  index_kept s _ (a_space_type k) = kept_value (index_type k) (value_simple (index_type k) (simple_index k))

  space_domain : (s : Scope) (line : ℕ) (y : Expression) → IsTyped forms (here s line) y →
      IsValue true s.names (type_of tree s y) → may_stand s.known (stands (type_of tree s y) domain_spot) ≡ true → IsDomain s line y
  space_domain s line y is value may =
      let space = value_domain true s.names (type_of tree s y) value may in
      record { over = inl (space_looped true (here s line) y space, is); taken = index_kept s (type_of tree s y) space }

  -- the name of a region, whose pointers are taken
  region_domain : (s : Scope) (line : ℕ) (r : Name) → IsSoundScope s → is_bound s.names r ≡ true → (k : Kind) (sp : ℕ) (args : List Reach) →
      (bound_to s.names r).static_type ≡ region_type k sp args (place.Name (bound_to s.names r).number) → IsDomain s line (access_expr r no_step)
  region_domain s line r scope there k sp args same =
      let b = bound_to s.names r in
      let own = own_region (here s line) scope.numbers r there k sp args same in record {
        over = inl (
          (inr (region_bound s.next s.names scope.numbers r there k sp args same, own)),
          (there, tt),
        );
        taken = subst (λ t. IsKept true s.names s.next (taken_from t)) (sym same)
            (kept_value _ (value_pointer k sp args _ refl (
              region_among s.next s.names scope.numbers r there k sp args same,
              region_of_space s.next s.names scope.numbers r there k sp args same,
              tt,
            )));
      }

  named_domain : (s : Scope) (line : ℕ) (r : Name) → IsSoundScope s → is_bound s.names r ≡ true → IsRegion (bound_to s.names r).static_type →
      (t : StaticType) → (bound_to s.names r).static_type ≡ t → IsKept true s.names (bound_to s.names r).number t → IsDomain s line (access_expr r no_step)
  named_domain s line r scope there region t same (kept_value _ a) = absurd (value_other true s.names t a (subst IsRegion same region))
  named_domain s line r scope there region _ same (kept_region k sp args) = region_domain s line r scope there k sp args same
  named_domain s line r scope there region _ same (kept_partition d q kept among) = absurd (elim (subst IsRegion same region) [ ])

  -- a part, whose pointers are taken
  part_domain : (s : Scope) (line : ℕ) (p : Name) (e : Expression) → IsSoundScope s →
      IsCutName (here s line) p → IsOwnCut (here s line) p → IsRegionAmong s.names (parent_of (bound_to s.names p).static_type) →
      IsRegion (type_of tree s (access_expr p (at_step e no_step))) → IsIndexed forms (here s line) (access_expr p (at_step e no_step)) →
      IsDomain s line (access_expr p (at_step e no_step))
  part_domain s line p e scope cut own parent region indexed =
      let kind = part_is (here s line) p e own region in record {
        over = inr (refl, (cut, own, region, indexed));
        taken = subst (λ t. IsKept true s.names s.next (taken_from t)) (sym kind.is)
            (kept_value _ (value_pointer kind.kind kind.space kind.args _ refl (part_goal (here s line) scope.numbers p e cut.named own parent region, refl)));
      }

  -- a partition is no domain
  cut_no_domain : (s : Scope) (t : StaticType) → IsPartition t → may_stand s.known (stands t domain_spot) ≡ true → ⊥
  cut_no_domain s _ (a_partition_type d r p) e = no_way_back e

  domain_by : (s : Scope) (line : ℕ) (y : Expression) → (scope : IsSoundScope s) (ready : Ready s) → may_stand s.known (stands (type_of tree s y) domain_spot) ≡ true →
      IsArgument task (here s line) sound sound_task local scope ready.names ready.head y → IsDomain s line y
  domain_by s line y scope ready may (inl a) = space_domain s line y a.is a.value may
  domain_by s line y scope ready may (inr (inl r)) = subst (IsDomain s line) (sym r.is)
      (named_domain s line r.name scope r.there r.region (bound_to s.names r.name).static_type refl (named_kept true s.names r.name ready.names r.there))
  domain_by s line y scope ready may (inr (inr (inl p))) =
      subst (IsDomain s line) (sym p.is) (part_domain s line p.name p.index scope p.cut p.own p.parent p.region (p.indexed, p.counts))
  domain_by s line y scope ready may (inr (inr (inr c))) =
      absurd (cut_no_domain s (type_of tree s y) (subst (λ y. IsPartition (type_of tree s y)) (sym c.is) c.cut.partition) may)

  pub domain_local : (s : Scope) (line : ℕ) (y : Expression) → is_written_expression y ≡ true → AreKept (parts_of_expression y) → IsSoundScope s → Ready s →
      first_in_expression tree task s y ≡ None → may_stand s.known (stands (known_type tree s y) domain_spot) ≡ true → IsDomain s line y
  domain_local s line y lo k scope names told may =
      domain_by s line y scope names (stands_as tree task sound sound_task local params result s y domain_spot scope told may)
      (headed tree task sound sound_task local params result s line y lo k scope names told)
