-- What loops take: indices of index spaces, and pointers into regions that have names and into parts of partitions.
use Rattle.std.proofs.Common.{◌≡◌, ◌⊎◌, inl, inr, ⊎_elim, ℕ, List, [], ◌∷◌, Bool, true, false, Some, refl, sym, subst, arith}
use Rattle.regent_tree.specs.Syntax.{access_expr, at_step, Expression, no_step}
use Rattle.regent_tree.specs.Scopes.{bound_as}
use Rattle.regent_tree.specs.Typing.{child_type, taken_from, type_of_element}
use Rattle.regent_tree.specs.declared.facts.Colour.{Colour}
use Rattle.regent_tree.specs.declared.facts.Term.{Term}
use Rattle.regent_tree.specs.declared.facts.Term.TheVariants as term
use Rattle.regent_tree.specs.declared.typing.Bound.{Bound}
use Rattle.regent_tree.specs.declared.typing.StaticType.{StaticType}
use Rattle.regent_tree.specs.declared.typing.StaticType.TheVariants.{Integer as integer_type, Truth as truth_type, Index as index_type, Pointer as pointer_type, Ispace as ispace_type, Region as region_type, Partition as partition_type, Nothing as no_type, Unknown as unknown_type}
use Rattle.code_rules.specs.Slots.{bound, typed, Where}
use Rattle.code_laws.specs.Simple.{a_partition_type, a_region_type, a_space_type, IsPartition, IsRegion, IsSpace, simple_index}
use Rattle.code_laws.specs.Typed.{IsLooped, IsNamedRegion, IsOwnRegion, LoopsOver, LoopsOverPart}
use Rattle.code_laws.proofs.Wider.{loops_over}
use Rattle.sound_code.proofs.Scoped.{Aims, IsScoped}
use Rattle.sound_code.proofs.Wholes.{IsWorth, worth_pointer, worth_simple}

-- the region that a loop goes over has a name
abbrev pub region_name : (w : Where) (e : Expression) → IsNamedRegion w e → IsRegion (typed w e)
region_name w (access_expr n no_step) r = r.0
region_name w _ r = absurd r

-- a part of a region is one
pub part_region : (w : Where) (e : Expression) (Part : Type 0) → LoopsOverPart w e Part → IsRegion (typed w e)
part_region w (access_expr n (at_step e no_step)) Part p = p.2
part_region w _ Part p = absurd p

-- what a loop goes over, and its body
abbrev pub Over : Bool → Where → Expression → Type 0 → Type 0 → Type 0
Over b w e Typed Part = (LoopsOver b w e × Typed) ⊎ ((b ≡ true) × LoopsOverPart w e Part)

pub looped_parts : (b : Bool) (w : Where) (e : Expression) (Typed Part Body : Type 0) → IsLooped b w e Typed Part Body → Over b w e Typed Part × Body
looped_parts false w e Typed Part Body f = (inl (f.0, f.1), f.2)
looped_parts true w e Typed Part Body (inl f) = (inl (f.0, f.1), f.2)
looped_parts true w e Typed Part Body (inr p) = (inr (refl, p.0), p.1)

-- ---- its type

space_worth : (u : StaticType) → IsSpace u → IsWorth (taken_from u)
space_worth _ (a_space_type c) = worth_simple _ (simple_index c)

region_worth : (u : StaticType) → IsRegion u → IsWorth (taken_from u)
region_worth _ (a_region_type c sp args r) = worth_pointer c sp args (Some r ∷ []) (omega arith)

pub taken_worth : (b : Bool) (w : Where) (e : Expression) (Typed Part : Type 0) → Over b w e Typed Part → IsWorth (taken_from (typed w e))
taken_worth b w e Typed Part h = ⊎_elim
    (λ (o : LoopsOver b w e × Typed). ⊎_elim (space_worth (typed w e)) (λ r. region_worth (typed w e) (region_name w e r)) (loops_over b w e o.0))
    (λ p. region_worth (typed w e) (part_region w e Part p.1)) h

-- ---- the regions of what is taken are in scope

-- a part of what is no region is none
pub of_region : (u : StaticType) (t : Term) → IsRegion (child_type u t) → IsRegion u
of_region (region_type k sp args r) t h = a_region_type k sp args r
of_region (integer_type w) t h = elim h [ ]
of_region truth_type t h = elim h [ ]
of_region (index_type k) t h = elim h [ ]
of_region (pointer_type k sp args rs) t h = elim h [ ]
of_region (ispace_type k) t h = elim h [ ]
of_region (partition_type d r p) t h = elim h [ ]
of_region no_type t h = elim h [ ]
of_region unknown_type t h = elim h [ ]

child_scoped : (all : List Bound) (n : ℕ) (u : StaticType) (p : ℕ) (c : Colour) → IsRegion u → IsScoped all n (taken_from (child_type u (term.Child p c)))
child_scoped all n _ p c (a_region_type k sp args r) = tt

element_scoped : (w : Where) (n : ℕ) (u : StaticType) (e : Expression) → IsPartition u → IsRegion (type_of_element w.scope u e) →
    IsScoped w.scope.names n (taken_from (type_of_element w.scope u e))
element_scoped w n _ e (a_partition_type d r p) h =
    child_scoped w.scope.names n (bound_as w.scope.names r).static_type p _ (of_region (bound_as w.scope.names r).static_type _ h)

pub taken_scoped : (b : Bool) (w : Where) (e : Expression) (n : ℕ) (Typed Part : Type 0) → Over b w e Typed Part → IsScoped w.scope.names n (taken_from (typed w e))
taken_scoped b w e n Typed Part h = ⊎_elim
    (λ (o : LoopsOver b w e × Typed). ⊎_elim (of_space (typed w e)) (of_named e) (loops_over b w e o.0)) (λ p. of_part e p.1) h
  where
    of_space : (u : StaticType) → IsSpace u → IsScoped w.scope.names n (taken_from u)
    of_space _ (a_space_type c) = tt

    of_own : (b : Bound) (u : StaticType) → IsRegion u → IsOwnRegion w b u → IsScoped w.scope.names n (taken_from u)
    of_own b _ (a_region_type k sp args r) own = subst (Aims w.scope.names sp) (sym own.is) (own.numbered, own.typed, own.space, tt)

    of_named : (e : Expression) → IsNamedRegion w e → IsScoped w.scope.names n (taken_from (typed w e))
    of_named (access_expr x no_step) r = of_own (bound w x) (bound w x).static_type r.0 r.1
    of_named _ r = absurd r

    of_part : (e : Expression) → LoopsOverPart w e Part → IsScoped w.scope.names n (taken_from (typed w e))
    of_part (access_expr x (at_step e no_step)) p = element_scoped w n (bound w x).static_type e p.0.partition p.2
    of_part _ p = absurd p
