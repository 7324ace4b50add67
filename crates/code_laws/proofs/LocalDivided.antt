-- Partitions that are given to parameters, where nothing is told: each is of the region that is given for its parent. So calls may be made.
use Rattle.std.proofs.Common.{◌≡◌, ℕ, zero, suc, List, [], ◌∷◌, inl, inr, Bool, true, false, Some, None, refl, sym, ap, ◌∙◌, subst, ⊎_elim, ◌+◌, ◌&&◌, not, arith}
use Rattle.std.specs.Prelude.{not}
use Rattle.std.proofs.lemmas.Bool.{not-false, or_parts, eqb-true}
use Rattle.regent_tree.specs.Facts.{is_name}
use Rattle.regent_tree.specs.Scopes.{bound_as, scope_of}
use Rattle.regent_tree.specs.StaticTypes.{task_named}
use Rattle.regent_tree.specs.Syntax.{Expression, Expressions, Name, TaskTree, access_expr, an_expr, at_step, no_expr, no_step}
use Rattle.regent_tree.specs.Typing.{is_disjoint, param_types, params_at, parent_of}
use Rattle.regent_tree.specs.declared.typing.Bound.{Bound}
use Rattle.regent_tree.specs.declared.typing.StaticType.{StaticType}
use Rattle.check_laws.proofs.Scopes.{found_by_number}
use Rattle.check_laws.specs.SoundScopes.{IsSoundScope}
use Rattle.check_rules.specs.first.FirstInExpressions.{first_in_args}
use Rattle.check_rules.specs.scopes.Sound.{IsSound, IsSoundTask}
use Rattle.check_rules.specs.types.KnownTypes.{known_types}
use Rattle.check_rules.specs.types.Params.{types_in_order}
use Rattle.check_rules.specs.types.Sorts.{is_region, type_at}
use Rattle.check_rules.specs.types.TypedForms.{calling}
use Rattle.expression_laws.proofs.Calls.{IsFlawless}
use Rattle.code_rules.specs.Slots.{Where, bound, typed}
use Rattle.code_laws.specs.Handing.{forms_by, taking_of}
use Rattle.code_laws.specs.Simple.{IsRegion, a_region_type, term_in, IsPartition, a_partition_type}
use Rattle.code_laws.specs.Steps.{Forms, Taking}
use Rattle.code_laws.specs.Arguments.{AreDivided, IsCutName, name_at, name_of, IsDivided, IsDividedBy, IsHanded}
use Rattle.code_laws.specs.Typed.{ArePassed, IsCallable, IsIndexed, IsPassed, IsTyped}
use Rattle.code_laws.proofs.Arguments.{first_region}
use Rattle.code_laws.proofs.KnownHeads.{KnowsHead}
use Rattle.code_laws.proofs.LocalGiven.{IsHandedAt, IsPartAt, handed_at}
use Rattle.code_laws.proofs.LocalNames.{AllKept, IsLocalTask, IsLocalTree, named_kept}
use Rattle.code_laws.proofs.Typing.{no_way_back}
use Rattle.regent_tree.specs.declared.typing.StaticType.TheVariants.{Index as index_type, Integer as integer_type, Ispace as ispace_type, Nothing as no_type, Partition as partition_type, Pointer as pointer_type, Region as region_type, Truth as truth_type, Unknown as unknown_type}
use Rattle.check_rules.specs.rules.Partitions.{is_parent, mispartition_in, mispartitions}
use Rattle.expression_laws.proofs.Params.{param_type}
use Rattle.value_laws.specs.Spaces.{HasSpacedDeclarations}
use Rattle.code_laws.proofs.CallCuts.{passes_no_cut, regions_no_cut}
use Rattle.code_laws.proofs.LocalCalls.{calls_handed, kept_term, cut_by, name_type, part_type}
use Rattle.code_laws.proofs.Arguments.{IsCutArgument, IsPartArgument, handed_name, handed_part}
use Rattle.code_laws.proofs.Wider.{passing}
use Rattle.check_laws.specs.SoundScopes.{IsPlaced}

-- an argument that is a partition is that of a name
record IsCutAt (w : Where) (es : Expressions) (k : ℕ) : Type 0 where
  name : Name
  at : name_at es k ≡ Some name
  cut : IsCutName w name

module _ (forms : Forms) (y : Taking) (takes : forms.takes ≡ Some y) (w : Where) where
  cut_first : (t p : StaticType) (e : Expression) (es : Expressions) → IsPartition p → IsPassed forms w t p e (IsTyped forms w e) (IsIndexed forms w e) →
      IsCutAt w (an_expr e es) 0
  cut_first t p e es c (inl a) = absurd (passes_no_cut (typed w e) t p (passing forms.keeps (typed w e) t p a.0) c)
  cut_first t p e es c (inr (inl h)) =
      let n = handed_name y w t p e (subst (λ o. IsHanded o w t p e) takes h) in
      absurd (regions_no_cut (bound w n.0).static_type p n.4 c)
  cut_first t p e es c (inr (inr h)) = ⊎_elim
      (λ (a : IsPartArgument forms.takes w t p e (IsIndexed forms w e)). absurd (regions_no_cut (typed w e) p a.regions c))
      (λ (a : IsCutArgument forms.takes w t p e). record { name = a.name; at = ap name_of a.is; cut = a.cut })
      (handed_part forms.keeps forms.takes w t p e (IsIndexed forms w e) h)

  cut_later : (e : Expression) (es : Expressions) (k : ℕ) → IsCutAt w es k → IsCutAt w (an_expr e es) (suc k)
  cut_later e es k c = record { name = c.name; at = c.at; cut = c.cut }

  cut_at : (ts ps : List StaticType) (es : Expressions) → ArePassed forms w ts ps es → (k : ℕ) → IsPartition (type_at ps k) → IsCutAt w es k
  cut_at [] [] no_expr a zero c = absurd (elim c [ ])
  cut_at [] [] no_expr a (suc k) c = absurd (elim c [ ])
  cut_at (t ∷ ts) (p ∷ ps) (an_expr e es) a zero c = cut_first t p e es c a.0
  cut_at (t ∷ ts) (p ∷ ps) (an_expr e es) a (suc k) c = cut_later e es k (cut_at ts ps es a.1 k c)
  cut_at [] [] (an_expr e es) a k c = absurd a
  cut_at [] (p ∷ ps) es a k c = absurd a
  cut_at (t ∷ ts) [] es a k c = absurd a
  cut_at (t ∷ ts) (p ∷ ps) no_expr a k c = absurd a

-- nothing is told of the argument at a place
unknown_told : (types : List StaticType) (p : StaticType) → mispartitions types p unknown_type ≡ false
unknown_told types (partition_type d r p) = refl
unknown_told types (integer_type w) = refl
unknown_told types truth_type = refl
unknown_told types (index_type k) = refl
unknown_told types (pointer_type k sp args rs) = refl
unknown_told types (ispace_type k) = refl
unknown_told types (region_type k sp args r) = refl
unknown_told types no_type = refl
unknown_told types unknown_type = refl

pub told_at : (types ps ts : List StaticType) → mispartition_in types ps ts ≡ false → (k : ℕ) → mispartitions types (type_at ps k) (type_at ts k) ≡ false
told_at types [] ts e zero = refl
told_at types [] ts e (suc k) = refl
told_at types (p ∷ ps) [] e zero = unknown_told types p
told_at types (p ∷ ps) [] e (suc k) = unknown_told types (type_at ps k)
told_at types (p ∷ ps) (t ∷ ts) e zero = (or_parts (mispartitions types p t) _ e).0
told_at types (p ∷ ps) (t ∷ ts) e (suc k) = told_at types ps ts (or_parts (mispartitions types p t) _ e).1 k

-- a parent that is named
parent_named : (i : ℕ) (t : StaticType) → IsRegion t → is_parent i t ≡ true → is_name i (term_in t) ≡ true
parent_named i _ (a_region_type k sp args r) e = e

module _ (task : TaskTree) (w : Where) (sound : IsSound w.tree) (sound_task : IsSoundTask w.tree task)
    (scope : IsSoundScope w.scope) (names : AllKept true w.scope.names) (head : KnowsHead w.tree task w.scope) (declared : HasSpacedDeclarations w.tree)
    (n : Name) (args : Expressions) (told : first_in_args w.tree task w.scope args ≡ None)
    (parts : IsFlawless w.tree task w.scope (calling n (known_types w.tree w.scope args)))
    (passed : ArePassed (forms_by true true w.tree task) w (params_at w.tree w.scope (task_named w.tree n) args) (param_types w.tree (task_named w.tree n)) args) where
  abbrev t : TaskTree
  t = task_named w.tree n

  abbrev y : Taking
  y = taking_of w.tree task

  abbrev ps : List StaticType
  ps = param_types w.tree t

  abbrev types : List StaticType
  types = known_types w.tree w.scope args

  abbrev forms : Forms
  forms = forms_by true true w.tree task

  -- the parameter of a partition's parent is a region
  parent_region : (k : ℕ) (d : Bool) (r own : ℕ) → type_at ps k ≡ partition_type d r own → is_region (type_at ps r) ≡ true
  parent_region k d r own e =
      let placed : IsPlaced (scope_of w.tree t) (partition_type d r own) = subst (IsPlaced (scope_of w.tree t)) e (declared.tasks n k) in
      subst (λ u. is_region u ≡ true) (param_type w.tree t r) placed.0

  -- the parent of the argument is what is given there
  parent_is : (k : ℕ) (d : Bool) (r own : ℕ) → type_at ps k ≡ partition_type d r own → (c : IsCutAt w args k) →
      is_parent (parent_of (bound w c.name).static_type) (type_at types r) ≡ true
  parent_is k d r own e c =
      let b = (bound w c.name).static_type in
      let cut = cut_by task w sound sound_task scope names head c.name c.cut in
      let none : mispartitions types (type_at ps k) (type_at types k) ≡ false =
      told_at types ps types (subst (λ ts. mispartition_in types ts types ≡ false) (ap types_in_order (sound.params n)) parts.parted) k in
      let here : mispartitions types (partition_type d r own) (partition_type (is_disjoint b) (parent_of b) (bound w c.name).number) ≡ false =
      subst (λ u. mispartitions types (partition_type d r own) u ≡ false) (name_type task w sound sound_task scope names head args k c.name told c.at ∙ cut.is)
      (subst (λ p. mispartitions types p (type_at types k) ≡ false) e none) in
      not-false (is_parent (parent_of b) (type_at types r)) (or_parts (d && not (is_disjoint b)) _ here).1

  divided_one : (k : ℕ) (d : Bool) (r own : ℕ) → type_at ps k ≡ partition_type d r own → IsDividedBy w (name_at args k) (name_at args r)
  divided_one k d r own e =
      let c = cut_at forms y refl w (params_at w.tree w.scope t args) ps args passed k (subst IsPartition (sym e) (a_partition_type d r own)) in
      let parent = parent_of (bound w c.name).static_type in
      ⊎_elim
      (λ (a : IsHandedAt w args r (type_at ps r)).
      let b = (bound w a.name).static_type in
      let region = first_region b (type_at ps r) a.regions in
      let i = (bound w a.name).number in
      let kept = kept_term true w.scope.names i b (named_kept true w.scope.names a.name names a.there) region in
      let is : is_parent parent b ≡ true =
      subst (λ u. is_parent parent u ≡ true) (name_type task w sound sound_task scope names head args r a.name told a.at) (parent_is k d r own e c) in
      let number : parent ≡ i = eqb-true parent i (subst (λ u. is_name parent u ≡ true) kept (parent_named parent b region is)) in
      let found = (found_by_number w.scope.next w.scope.names a.name scope.numbers a.there).0 in
      subst (λ o. IsDividedBy w o (name_at args r)) (sym c.at)
      (subst (IsDividedBy w (Some c.name)) (sym a.at) (
        c.cut,
        record { named = a.there; numbers = scope.numbers; region = region },
        ap (λ k. (bound_as w.scope.names k).place) number ∙ ap (λ (b : Bound). b.place) found,
      )))
      (λ (a : IsPartAt forms w args r (type_at ps r)).
      let part = typed w (access_expr a.name (at_step a.index no_step)) in
      let cut = cut_by task w sound sound_task scope names head a.name a.cut in
      let is : is_parent parent part ≡ true =
      subst (λ u. is_parent parent u ≡ true) (part_type task w sound sound_task scope names head args r (a.name, a.index) told a.at) (parent_is k d r own e c) in
      absurd (no_way_back (subst (λ u. is_name parent u ≡ true) (cut.part a.index) (parent_named parent part (cut.like a.index) is))))
      (handed_at forms y refl w (params_at w.tree w.scope t args) ps args passed r (parent_region k d r own e))

  divided_type : (k : ℕ) (u : StaticType) → type_at ps k ≡ u → IsDivided w args k u
  divided_type k (partition_type d r own) e = divided_one k d r own e
  divided_type k (integer_type v) e = tt
  divided_type k truth_type e = tt
  divided_type k (index_type j) e = tt
  divided_type k (pointer_type j sp brgs rs) e = tt
  divided_type k (ispace_type j) e = tt
  divided_type k (region_type j sp brgs r) e = tt
  divided_type k no_type e = tt
  divided_type k unknown_type e = tt

  divided_from : (k : ℕ) (rest : List StaticType) → ((j : ℕ) → type_at ps (k + j) ≡ type_at rest j) → AreDivided w args k rest
  divided_from k [] at = tt
  divided_from k (u ∷ rest) at =
      let none_more : k ≡ (k + 0) = omega arith in
      let moved : (j : ℕ) → (suc k + j) ≡ (k + suc j) = λ j. omega arith in
      (divided_type k u (ap (type_at ps) none_more ∙ at 0), divided_from (suc k) rest (λ j. ap (type_at ps) (moved j) ∙ at (suc j)))

  divided_told : AreDivided w args 0 ps
  divided_told = divided_from 0 ps (λ j. ap (type_at ps) (omega arith))

-- with regions that are handed over, or without
pub may_call : (task : TaskTree) (w : Where) → IsSound w.tree → IsSoundTask w.tree task → IsLocalTree w.tree →
    IsSoundScope w.scope → AllKept true w.scope.names → KnowsHead w.tree task w.scope → (n : Name) (args : Expressions) → IsLocalTask w.tree n →
    first_in_args w.tree task w.scope args ≡ None → IsFlawless w.tree task w.scope (calling n (known_types w.tree w.scope args)) →
    ArePassed (forms_by true true w.tree task) w (params_at w.tree w.scope (task_named w.tree n) args) (param_types w.tree (task_named w.tree n)) args →
    IsCallable (forms_by true true w.tree task) w n args
may_call task w sound sound_task local scope names head n args l told parts passed =
    calls_handed task w sound sound_task scope names head n args told parts (sound.tasks (task_named w.tree n) l.stands) local.named passed l.called l.goals
    (divided_told task w sound sound_task scope names head local.declared n args told parts passed)
