-- What the rules allow of what a pointer goes to may be done, also of a part.
use Rattle.std.proofs.Common.{◌≡◌, List, [], ◌∷◌, Some, None, true, false, cond, not, ap, sym, subst, ◌∙◌, ℕ}
use Rattle.std.specs.Prelude.{map, ◌&&◌}
use Rattle.std.specs.List.{list_all}
use Rattle.std.proofs.lemmas.Bool.{and_parts, not-false}
use Rattle.regent_tree.specs.Accesses.{space_in}
use Rattle.regent_tree.specs.Lookup.{has_field}
use Rattle.regent_tree.specs.Scopes.{bound_as}
use Rattle.regent_tree.specs.StaticTypes.{Reach, field_place}
use Rattle.regent_tree.specs.Syntax.{Name, TaskTree}
use Rattle.regent_tree.specs.Typing.{has_wild, is_disjoint, parent_of, reaches_of}
use Rattle.regent_tree.specs.declared.facts.Colour.{Colour}
use Rattle.regent_tree.specs.declared.facts.Term.TheVariants as place
use Rattle.regent_tree.specs.declared.rights.Access.{Access}
use Rattle.regent_tree.specs.declared.typing.Bound.{Bound}
use Rattle.check_laws.specs.SoundScopes.{Falls}
use Rattle.check_rules.specs.rules.Privileges.{lacks, may_do, rights_declared, wanted_of_step, wanting}
use Rattle.check_rules.specs.scopes.Sound.{IsSoundTask}
use Rattle.check_rules.specs.types.TypedForms.{field_of}
use Rattle.code_rules.specs.Slots.{Where, bound}
use Rattle.regent_tree.specs.declared.typing.StaticType.{StaticType}
use Rattle.code_laws.specs.Handing.{forms_by, takes_by}
use Rattle.code_laws.specs.Simple.{term_in}
use Rattle.code_laws.specs.Taking.{MayDo}
use Rattle.code_laws.specs.Typed.{MayGo, MayReach}
use Rattle.code_laws.proofs.KnownHeads.{KnowsHead, may_touch, reach_may}
use Rattle.code_laws.proofs.KnownParts.{whole_may}
use Rattle.code_laws.proofs.LocalGoals.{AreGoals, IsCutAmong, found_among}
use Rattle.code_laws.proofs.LocalNames.{region_of_number}
use Rattle.code_laws.proofs.LocalPlaces.{IsAimed}
use Rattle.code_laws.proofs.Privileges.{mode_in}
use Rattle.check_rules.specs.rules.Privileges.{regions_named}

-- of a part, what may be done with the whole
part_may : (task : TaskTree) (w : Where) → IsSoundTask w.tree task → KnowsHead w.tree task w.scope → Falls w.scope.next w.scope.names →
    (field sp p : ℕ) (c : Colour) (a : Access) → IsCutAmong w.scope.names sp p →
    may_do (rights_declared w.tree task) w.scope.known (wanting field a (place.Child p c)) ≡ true →
    MayDo (takes_by true w.tree task) (term_in (bound_as w.scope.names (parent_of (bound_as w.scope.names p).static_type)).static_type) field (mode_in a)
part_may task w sound h falls field sp p c a cut e =
    let t = cut.named.static_type in
    let r = parent_of t in
    let found : bound_as w.scope.names p ≡ cut.named =
    subst (λ n. bound_as w.scope.names n ≡ cut.named) cut.number (found_among w.scope.next w.scope.names cut.named falls cut.among).0 in
    let whole = whole_may w.tree task w.scope h p r c (is_disjoint t) cut.named cut.among cut.number cut.is (rights_declared w.tree task) field a e in
    let own = (region_of_number w.scope.next w.scope.names r falls cut.parent).1 in
    subst (λ (b : Bound). MayDo (takes_by true w.tree task) (term_in (bound_as w.scope.names (parent_of b.static_type)).static_type) field (mode_in a)) (sym found)
    (subst (λ u. MayDo (takes_by true w.tree task) u field (mode_in a)) (sym own) (may_touch w.tree task w.scope sound h r field a whole))

-- so of each region to which a pointer may go
reach_goals : (task : TaskTree) (w : Where) → IsSoundTask w.tree task → KnowsHead w.tree task w.scope → Falls w.scope.next w.scope.names →
    (field sp : ℕ) (a : Access) (rs : List Reach) → AreGoals w.scope.names sp rs →
    list_all (may_do (rights_declared w.tree task) w.scope.known) (map (wanting field a) (regions_named rs)) ≡ true →
    MayReach (forms_by true true w.tree task) w rs field (mode_in a)
reach_goals task w sound h falls field sp a [] among e = tt
reach_goals task w sound h falls field sp a (Some (place.Name i) ∷ rs) among e =
    reach_may task w sound h falls field sp a (Some (place.Name i) ∷ rs) among e
reach_goals task w sound h falls field sp a (None ∷ rs) among e = reach_may task w sound h falls field sp a (None ∷ rs) among e
reach_goals task w sound h falls field sp a (Some (place.Child p c) ∷ []) among e = (
  part_may task w sound h falls field sp p c a among.0 (and_parts (may_do (rights_declared w.tree task) w.scope.known (wanting field a (place.Child p c))) true e).0,
  tt,
)
reach_goals task w sound h falls field sp a (Some (place.Child p c) ∷ (r ∷ rs)) among e = absurd cc

-- so of a field of what a pointer goes to
pub aimed_reach : (task : TaskTree) (w : Where) → IsSoundTask w.tree task → KnowsHead w.tree task w.scope → Falls w.scope.next w.scope.names →
    (t : StaticType) (f : Name) (a : Access) → (p : IsAimed w.tree w.scope.names t f) →
    lacks w.tree task w.scope (wanted_of_step w.tree a (field_of t f)) ≡ false →
    MayReach (forms_by true true w.tree task) w (reaches_of t) (field_place w.tree (space_in t) f) (mode_in a)
aimed_reach task w sound h falls t f a p lacking =
    let field = field_place w.tree (space_in t) f in
    let wants = map (wanting field a) (regions_named p.reaches) in
    let allowed : lacks w.tree task w.scope (cond (has_field w.tree (space_in t) f && not (has_wild p.reaches)) wants []) ≡ false =
    subst (λ u. lacks w.tree task w.scope (wanted_of_step w.tree a (field_of u f)) ≡ false) p.is lacking in
    let some : (has_field w.tree (space_in t) f && not (has_wild p.reaches)) ≡ true =
    ap (λ b. b && not (has_wild p.reaches)) p.there ∙ ap not p.certain in
    let all : lacks w.tree task w.scope wants ≡ false = ap (λ b. lacks w.tree task w.scope (cond b wants [])) (sym some) ∙ allowed in
    subst (λ rs. MayReach (forms_by true true w.tree task) w rs field (mode_in a)) (sym (ap reaches_of p.is))
    (reach_goals task w sound h falls field (space_in t) a p.reaches p.among (not-false _ all))

-- which is a name's
pub aimed_may : (task : TaskTree) (w : Where) → IsSoundTask w.tree task → KnowsHead w.tree task w.scope → Falls w.scope.next w.scope.names →
    (n f : Name) (a : Access) → (p : IsAimed w.tree w.scope.names (bound w n).static_type f) →
    lacks w.tree task w.scope (wanted_of_step w.tree a (field_of (bound w n).static_type f)) ≡ false → MayGo (forms_by true true w.tree task) w n f (mode_in a)
aimed_may task w sound h falls n f a p lacking = aimed_reach task w sound h falls (bound w n).static_type f a p lacking
