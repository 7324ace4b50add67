-- What a called task needs of the regions and parts that are handed to it, as calls are typed.
use Rattle.std.proofs.Common.{◌≡◌, ◌⊎◌, inl, inr, ⊎_elim, ◌<◌, List, [], ◌∷◌, Bool, true, false, None, Option, Some, refl, subst}
use Rattle.std.specs.Prelude.{length}
use Rattle.regent_tree.specs.Accesses.{space_in}
use Rattle.regent_tree.specs.StaticTypes.{space_at}
use Rattle.regent_tree.specs.Syntax.{Expression, Expressions, Name}
use Rattle.task_code.specs.declared.code.NeedCode.{NeedCode}
use Rattle.code_rules.specs.Slots.{bound, Where}
use Rattle.code_laws.specs.Simple.{IsRegion, term_in}
use Rattle.code_laws.specs.Steps.{Taking}
use Rattle.code_laws.specs.Taking.{MayDo}
use Rattle.code_laws.specs.Arguments.{AreMet, IsCutName, IsMet, IsMetAt, IsMetPart, name_at, parent_bound, part_at}
use Rattle.fit_rules.specs.Shapes.{Among}

pub met_at : (b : Bool) (o : Option Taking) (w : Where) (es : Expressions) (ns : List NeedCode) (n : NeedCode) → Among ns n → AreMet b o w es ns → IsMetAt b o w es n
met_at b o w es [] n h a = absurd h
met_at b o w es (m ∷ ns) n (inl e) a = subst (IsMetAt b o w es) e a.0
met_at b o w es (m ∷ ns) n (inr h) a = met_at b o w es ns n h a.1

-- it is of a region that has a name
pub record IsNeedOf (y : Taking) (w : Where) (need : NeedCode) (o : Option Name) : Type 0 where
  pub name : Name
  pub stands : o ≡ Some name
  pub of_region : IsRegion (bound w name).static_type
  pub field : need.field < length (space_at w.tree (space_in (bound w name).static_type)).fields
  pub may : MayDo (Some y) (term_in (bound w name).static_type) need.field need.mode

need_of : (y : Taking) (w : Where) (need : NeedCode) (o : Option Name) → IsMet (Some y) w need o → IsNeedOf y w need o
need_of y w need None h = absurd h
need_of y w need (Some n) h = record { name = n; stands = refl; of_region = h.1; field = h.2; may = h.3 }

-- or of a part, and may be done with the whole
pub record IsPartNeed (y : Taking) (w : Where) (need : NeedCode) (o : Option (Name × Expression)) : Type 0 where
  pub it : Name × Expression
  pub stands : o ≡ Some it
  pub cut : IsCutName w it.0
  pub field : need.field < length (space_at w.tree (space_in (parent_bound w it.0).static_type)).fields
  pub may : MayDo (Some y) (term_in (parent_bound w it.0).static_type) need.field need.mode

part_need_of : (y : Taking) (w : Where) (need : NeedCode) (o : Option (Name × Expression)) → IsMetPart (Some y) w need o → IsPartNeed y w need o
part_need_of y w need None h = absurd h
part_need_of y w need (Some q) h = record { it = q; stands = refl; cut = h.0; field = h.1; may = h.2 }

abbrev pub IsWant : Bool → Taking → Where → Expressions → NeedCode → Type 0
IsWant b y w es n = IsNeedOf y w n (name_at es n.param) ⊎ ((b ≡ true) × IsPartNeed y w n (part_at es n.param))

pub want_of : (b : Bool) (y : Taking) (w : Where) (es : Expressions) (n : NeedCode) → IsMetAt b (Some y) w es n → IsWant b y w es n
want_of false y w es n m = inl (need_of y w n (name_at es n.param) m)
want_of true y w es n m = ⊎_elim (λ a. inl (need_of y w n (name_at es n.param) a)) (λ a. inr (refl, part_need_of y w n (part_at es n.param) a)) m
