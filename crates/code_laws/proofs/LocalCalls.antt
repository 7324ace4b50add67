-- Where nothing is told of a call that hands regions over, what the called task needs may be done with them, and its
-- constraints hold of them.
use Rattle.std.proofs.Common.{◌≡◌, ◌⊎◌, ℕ, zero, suc, ◌<◌, List, [], ◌∷◌, inl, inr, Bool, true, false, Option, Some, None, refl, sym, ap, ◌∙◌, subst, ⊎_elim}
use Rattle.std.specs.Prelude.{length, not, slice_get, cond}
use Rattle.std.proofs.lemmas.Bool.{eq-eqb, not-false}
use Rattle.std.proofs.lemmas.Option.{none-some}
use Rattle.plain_values.proofs.Plain.{option_or_parts}
use Rattle.constraint_check.proofs.Table.{is_subregion-derivable}
use Rattle.constraint_check.specs.Derivations.{IsBelow}
use Rattle.regent_tree.proofs.Members.{Has}
use Rattle.regent_tree.specs.Accesses.{space_in}
use Rattle.regent_tree.specs.Facts.{is_subregion, is_unknown}
use Rattle.regent_tree.specs.Lookup.{is_bound}
use Rattle.regent_tree.specs.Scopes.{scope_of}
use Rattle.regent_tree.specs.StaticTypes.{place_in, space_at, task_named}
use Rattle.regent_tree.specs.Syntax.{Expression, Expressions, Name, TaskTree, access_expr, an_expr, at_step, no_expr, no_step}
use Rattle.regent_tree.specs.Typing.{child_type, colour_of, is_disjoint, param_types, params_at, parent_of, type_of_element}
use Rattle.regent_tree.specs.declared.facts.Colour.{Colour}
use Rattle.regent_tree.specs.declared.facts.Colour.TheVariants.{Unknown}
use Rattle.regent_tree.specs.declared.facts.Known.{Known}
use Rattle.regent_tree.specs.declared.facts.Term.{Term}
use Rattle.regent_tree.specs.declared.facts.Term.TheVariants as term
use Rattle.regent_tree.specs.declared.program.Clause.TheVariants as clause
use Rattle.regent_tree.specs.declared.rights.Right.{Right}
use Rattle.regent_tree.specs.declared.typing.Bound.{Bound}
use Rattle.regent_tree.specs.declared.typing.StaticType.{StaticType}
use Rattle.check_laws.proofs.Blocks.{head_known}
use Rattle.check_laws.proofs.Scopes.{found_by_number}
use Rattle.check_laws.specs.SoundScopes.{IsSoundScope}
use Rattle.check_rules.proofs.Written.{rights_soundly, told_soundly}
use Rattle.check_rules.specs.first.FirstInExpressions.{first_in_args, first_in_expression}
use Rattle.check_rules.specs.rules.Constraints.{breaks_clause, is_not_within}
use Rattle.check_rules.specs.rules.Privileges.{a_right, fields_named, may_do, rights_declared, rights_told, wanted_by_call, wanted_of_argument, wanting}
use Rattle.check_rules.specs.scopes.Sound.{IsSound, IsSoundTask}
use Rattle.check_rules.specs.types.Declarations.{params_of}
use Rattle.check_rules.specs.types.KnownTypes.{known_types}
use Rattle.check_rules.specs.types.Params.{types_in_order}
use Rattle.check_rules.specs.types.Sorts.{is_region, type_at}
use Rattle.check_rules.specs.types.TypedForms.{calling}
use Rattle.expression_laws.proofs.Calls.{IsFlawless, flat_has}
use Rattle.expression_laws.proofs.Params.{none_has}
use Rattle.expression_laws.proofs.Steps.{all_has}
use Rattle.task_code.specs.declared.code.NeedCode.{NeedCode}
use Rattle.code_rules.specs.Instructions.{place_of_task, tasks_of}
use Rattle.code_rules.specs.Programs.{task_code}
use Rattle.code_rules.specs.Slots.{Where, bound, typed}
use Rattle.code_laws.specs.Handing.{forms_by, taking_of}
use Rattle.code_laws.specs.Pointers.{AllGoToParams}
use Rattle.code_laws.specs.Simple.{AreRegions, IsRegion, a_region_type, term_in, two_regions}
use Rattle.code_laws.specs.Steps.{Forms, Taking}
use Rattle.code_laws.specs.Taking.{MayDo, pairs_in}
use Rattle.code_laws.specs.Arguments.{AreDivided, AreMet, AreParted, BeganWithin, IsCutName, IsMet, IsMetAt, IsMetPart, IsPart, IsPartBelow, IsParted, IsPartedAt, IsPieceBelow, LandsIn, name_at, name_of, parent_bound, part_at}
use Rattle.code_laws.specs.Typed.{ArePassed, IsCallable}
use Rattle.code_laws.proofs.Arguments.{first_region, named_typed, part_is, part_space}
use Rattle.code_laws.proofs.DeclaredNeeds.{IsDeclared, need_declared, pair_constrained}
use Rattle.code_laws.proofs.KnownHeads.{KnowsHead, kept_may, may_touch}
use Rattle.code_laws.proofs.KnownParts.{Began, IsPaired, name_within, part_below, part_landed, part_over, whole_may, whole_within}
use Rattle.code_laws.proofs.LocalBegan.{began_within, below_told}
use Rattle.code_laws.proofs.LocalGiven.{IsGivenAt, IsHandedAt, IsPartAt, handed_at, one_colour, same_name, IsCutBy, child_term}
use Rattle.code_laws.proofs.LocalNames.{AllKept, IsKept, kept_partition, kept_region, kept_value, named_kept, parent_among, region_of_number}
use Rattle.code_laws.proofs.LocalValues.{bound_among, value_other}
use Rattle.code_laws.proofs.Typing.{no_way_back}

-- ---- regions and their types

abbrev partition_in : Term → ℕ
partition_in (term.Name j) = 0
partition_in (term.Child q c) = q

abbrev colour_in : Term → Colour
colour_in (term.Name j) = Unknown
colour_in (term.Child q c) = c

same_space : (t p : StaticType) → AreRegions t p → space_in p ≡ space_in t
same_space _ _ (two_regions k l sp args brgs r u) = refl

-- what is wanted of a region for a privilege on a parameter
wants : (t p : StaticType) → AreRegions t p → (w : Right) → Has (wanted_of_argument p t w) (wanting w.field w.access (term_in t))
wants _ _ (two_regions k l sp args brgs r u) w =
    subst (λ b. Has (cond b (wanting w.field w.access r ∷ []) []) (wanting w.field w.access r)) (sym (eq-eqb sp sp refl)) (inl refl)

-- one region lies within another where nothing else is told
lies_within : (known : List Known) (t u : StaticType) → IsRegion t → IsRegion u → is_not_within known t u ≡ false →
    is_subregion known (term_in t) (term_in u) ≡ true
lies_within known _ _ (a_region_type k sp args r) (a_region_type l sq brgs q) e = not-false (is_subregion known r q) e

-- the term of a name's region is its own number
pub kept_term : (keeping : Bool) (bs : List Bound) (i : ℕ) (t : StaticType) → IsKept keeping bs i t → IsRegion t → term_in t ≡ term.Name i
kept_term keeping bs i t (kept_value _ a) r = absurd (value_other keeping bs t a r)
kept_term keeping bs i _ (kept_region k sp args) r = refl
kept_term keeping bs i _ (kept_partition d q keeps among) r = absurd (elim r [ ])

all_met : (keeps : Bool) (o : Option Taking) (w : Where) (es : Expressions) (ns : List NeedCode) → ((n : NeedCode) → Has ns n → IsMetAt keeps o w es n) →
    AreMet keeps o w es ns
all_met keeps o w es [] h = tt
all_met keeps o w es (n ∷ ns) h = (h n (inl refl), all_met keeps o w es ns (λ k g. h k (inr g)))

all_parted : (keeps : Bool) (y : Taking) (w : Where) (es : Expressions) (ps : List (ℕ × ℕ)) →
    ((p : ℕ × ℕ) → Has ps p → IsPartedAt keeps y w es p) → AreParted keeps (Some y) w es ps
all_parted keeps y w es [] h = tt
all_parted keeps y w es (p ∷ ps) h = (h p (inl refl), all_parted keeps y w es ps (λ q g. h q (inr g)))

-- by a name, or by a part
met_name : (keeps : Bool) (o : Option Taking) (w : Where) (es : Expressions) (n : NeedCode) → IsMet o w n (name_at es n.param) → IsMetAt keeps o w es n
met_name false o w es n m = m
met_name true o w es n m = inl m

met_part : (keeps : Bool) (o : Option Taking) (w : Where) (es : Expressions) (n : NeedCode) → keeps ≡ true → IsMetPart o w n (part_at es n.param) → IsMetAt keeps o w es n
met_part false o w es n e m = absurd (no_way_back e)
met_part true o w es n e m = inr m

parted_names : (keeps : Bool) (y : Taking) (w : Where) (es : Expressions) (p : ℕ × ℕ) → IsParted y w (name_at es p.0) (name_at es p.1) → IsPartedAt keeps y w es p
parted_names false y w es p m = m
parted_names true y w es p m = inl m

parted_below : (keeps : Bool) (y : Taking) (w : Where) (es : Expressions) (p : ℕ × ℕ) → keeps ≡ true →
    IsPartBelow y w (part_at es p.0) (name_at es p.1) (part_at es p.1) → IsPartedAt keeps y w es p
parted_below false y w es p e m = absurd (no_way_back e)
parted_below true y w es p e m = inr (inl m)

parted_piece : (keeps : Bool) (y : Taking) (w : Where) (es : Expressions) (p : ℕ × ℕ) → keeps ≡ true →
    IsPieceBelow y w (name_at es p.0) (part_at es p.0) (part_at es p.1) → IsPartedAt keeps y w es p
parted_piece false y w es p e m = absurd (no_way_back e)
parted_piece true y w es p e m = inr (inr m)

-- what isn't a name is a part
no_name : (es : Expressions) (k : ℕ) (p : Name × Expression) → part_at es k ≡ Some p → name_at es k ≡ None
no_name no_expr k p e = refl
no_name (an_expr e es) zero p at = ap name_of (part_is e p at)
no_name (an_expr e es) (suc k) p at = no_name es k p at

-- ---- a call

module _ (task : TaskTree) (w : Where) (sound : IsSound w.tree) (sound_task : IsSoundTask w.tree task)
    (scope : IsSoundScope w.scope) (names : AllKept true w.scope.names) (head : KnowsHead w.tree task w.scope) where
  -- the checker's type of an argument that is a name
  pub name_type : (es : Expressions) (k : ℕ) (n : Name) → first_in_args w.tree task w.scope es ≡ None → name_at es k ≡ Some n →
      type_at (known_types w.tree w.scope es) k ≡ (bound w n).static_type
  name_type no_expr k n told at = absurd (none-some n at)
  name_type (an_expr e es) zero n told at =
      (head_known w.tree task sound w.scope scope e (option_or_parts (first_in_expression w.tree task w.scope e) _ told).0).1 ∙ named_typed w e n at
  name_type (an_expr e es) (suc k) n told at =
      name_type es k n (option_or_parts (first_in_expression w.tree task w.scope e) _ told).1 at

  -- the checker's type of an argument that is a part
  pub part_type : (es : Expressions) (k : ℕ) (p : Name × Expression) → first_in_args w.tree task w.scope es ≡ None → part_at es k ≡ Some p →
      type_at (known_types w.tree w.scope es) k ≡ typed w (access_expr p.0 (at_step p.1 no_step))
  part_type no_expr k p told at = absurd (none-some p at)
  part_type (an_expr e es) zero p told at =
      (head_known w.tree task sound w.scope scope e (option_or_parts (first_in_expression w.tree task w.scope e) _ told).0).1 ∙ ap (typed w) (part_is e p at)
  part_type (an_expr e es) (suc k) p told at =
      part_type es k p (option_or_parts (first_in_expression w.tree task w.scope e) _ told).1 at

  pub cut_by : (n : Name) → IsCutName w n → IsCutBy w n
  cut_by n cut =
      let t = (bound w n).static_type in
      let i = (bound w n).number in
      let among = parent_among true w.scope.names i t (named_kept true w.scope.names n names cut.named) cut.partition in
      let parent = region_of_number w.scope.next w.scope.names (parent_of t) scope.numbers among.0 in
      let child : (e : Expression) → type_of_element w.scope t e ≡ child_type (parent_bound w n).static_type (term.Child i (colour_of w.scope e)) =
      λ e. ap (λ u. type_of_element w.scope u e) among.1 in record {
        is = among.1;
        parent = parent.0;
        named = parent.1;
        part = λ e. ap term_in (child e) ∙ (child_term (parent_bound w n).static_type (term.Child i (colour_of w.scope e)) parent.0).1;
        like = λ e. subst IsRegion (sym (child e)) (child_term (parent_bound w n).static_type (term.Child i (colour_of w.scope e)) parent.0).0;
      }

  module _ (n : Name) (args : Expressions) (told : first_in_args w.tree task w.scope args ≡ None)
      (parts : IsFlawless w.tree task w.scope (calling n (known_types w.tree w.scope args)))
      (callee_sound : IsSoundTask w.tree (task_named w.tree n))
      (callee_named : (sp i : ℕ) → i < length (space_at w.tree sp).fields → Has (fields_named w.tree sp None) i)
      (passed : ArePassed (forms_by true true w.tree task) w (params_at w.tree w.scope (task_named w.tree n) args) (param_types w.tree (task_named w.tree n)) args) where
    abbrev t : TaskTree
    t = task_named w.tree n

    abbrev y : Taking
    y = taking_of w.tree task

    abbrev ps : List StaticType
    ps = param_types w.tree t

    abbrev types : List StaticType
    types = known_types w.tree w.scope args

    abbrev forms : Forms
    forms = forms_by true true w.tree task

    region_at : (k : ℕ) → is_region (type_at ps k) ≡ true → IsGivenAt forms y refl w args k (type_at ps k)
    region_at k region = handed_at forms y refl w (params_at w.tree w.scope t args) ps args passed k region

    order : params_of w.tree n ≡ ps
    order = ap types_in_order (sound.params n)

    -- what is wanted of an argument of a type may be done with it
    allowed : (d : NeedCode) (is : IsDeclared w.tree t callee_sound callee_named d) (b : StaticType) → AreRegions b (type_at ps d.param) → type_at types d.param ≡ b →
        may_do (rights_declared w.tree task) w.scope.known (wanting d.field is.access (term_in b)) ≡ true
    allowed d is b regions typed_b =
        let right = a_right d.param d.field is.access in
        let want = wanting d.field is.access (term_in b) in
        let given : Has (wanted_of_argument (type_at (params_of w.tree n) d.param) (type_at types d.param) right) want =
        subst (λ ts. Has (wanted_of_argument (type_at ts d.param) (type_at types d.param) right) want) (sym order)
        (subst (λ u. Has (wanted_of_argument (type_at ps d.param) u right) want) (sym typed_b) (wants b (type_at ps d.param) regions right)) in
        let wanted = flat_has (λ (v : Right). wanted_of_argument (type_at (params_of w.tree n) v.region) (type_at types v.region) v) (rights_told w.tree t)
        right want (subst (λ rs. Has rs right) (sym (rights_soundly w.tree t callee_sound.clauses)) is.right) given in
        all_has (may_do (rights_declared w.tree task) w.scope.known) (wanted_by_call w.tree (calling n types)) want (not-false _ parts.allowed) wanted

    met : (d : NeedCode) → Has (task_code w.tree t).needs d → IsMetAt true (Some y) w args d
    met d h =
        let is = need_declared w.tree t callee_sound callee_named d h in
        ⊎_elim
        (λ (a : IsHandedAt w args d.param (type_at ps d.param)).
        let b = (bound w a.name).static_type in
        let region = first_region b (type_at ps d.param) a.regions in
        let done = kept_may w.tree task w.scope sound_task head w.scope.names (bound w a.name).number b (named_kept true w.scope.names a.name names a.there) region
        d.field is.access (allowed d is b a.regions (name_type args d.param a.name told a.at)) in
        met_name true (Some y) w args d (subst (IsMet (Some y) w d) (sym a.at) (
          a.there,
          region,
          subst (λ sp. d.field < length (space_at w.tree sp).fields) (same_space b (type_at ps d.param) a.regions) is.field,
          subst (MayDo (Some y) (term_in b) d.field) is.mode done,
        )))
        (λ (a : IsPartAt forms w args d.param (type_at ps d.param)).
        let b = typed w (access_expr a.name (at_step a.index no_step)) in
        let p : Name × Expression = (a.name, a.index) in
        let c = cut_by a.name a.cut in
        let parent = (parent_bound w a.name).static_type in
        let r = parent_of (bound w a.name).static_type in
        let may = whole_may w.tree task w.scope head (bound w a.name).number r (colour_of w.scope a.index) (is_disjoint (bound w a.name).static_type) (bound w a.name)
        (bound_among w.scope.names a.name a.cut.named) refl c.is (rights_declared w.tree task) d.field is.access
        (subst (λ u. may_do (rights_declared w.tree task) w.scope.known (wanting d.field is.access u) ≡ true) (c.part a.index)
        (allowed d is b a.regions (part_type args d.param p told a.at))) in
        let done = may_touch w.tree task w.scope sound_task head r d.field is.access may in
        met_part true (Some y) w args d a.keeps (subst (IsMetPart (Some y) w d) (sym a.at) (
          a.cut,
          subst (λ sp. d.field < length (space_at w.tree sp).fields)
              (same_space b (type_at ps d.param) a.regions ∙ part_space w (access_expr a.name (at_step a.index no_step)) p refl a.cut c.parent) is.field,
          subst (λ u. MayDo (Some y) u d.field d.mode) (sym c.named) (subst (MayDo (Some y) (term.Name r) d.field) is.mode done),
        )))
        (region_at d.param is.region)

    -- by the numbers of two names
    parted_by : (a b : Name) → is_bound w.scope.names a ≡ true → is_bound w.scope.names b ≡ true → (i j : ℕ) → (bound w a).number ≡ i → (bound w b).number ≡ j →
        is_subregion w.scope.known (term.Name i) (term.Name j) ≡ true →
        (a ≡ b) ⊎ (IsPaired w.tree task w.scope head i j ⊎ Began w.tree task w.scope head i j)
    parted_by a b ha hb i j ia jb e = ⊎_elim
        (λ number. inl (same_name w scope.numbers a b ha hb (ia ∙ sym number ∙ sym jb)))
        (λ part. inr part)
        (name_within w.tree task w.scope head i j e)

    -- where nothing is told, one argument lies within another
    argument_within : (lower upper : Name) (ta tb : StaticType) → IsRegion ta → IsRegion tb → type_at types (place_in t.params lower) ≡ ta →
        type_at types (place_in t.params upper) ≡ tb → Has t.clauses (clause.Within lower upper) → is_subregion w.scope.known (term_in ta) (term_in tb) ≡ true
    argument_within lower upper ta tb ra rb a b said =
        let whole = none_has (breaks_clause w.scope.known t.params types) _ (clause.Within lower upper) parts.constrained
        (subst (λ cs. Has cs (clause.Within lower upper)) (sym (told_soundly w.tree t callee_sound.clauses)) said) in
        lies_within w.scope.known ta tb ra rb
        (subst (λ u. is_not_within w.scope.known ta u ≡ false) b
        (subst (λ u. is_not_within w.scope.known u (type_at types (place_in t.params upper)) ≡ false) a whole))

    -- a region lies within the part of a colour
    lands : (q : Name × Expression) → IsCutName w q.0 → (i : ℕ) → IsBelow w.scope.known (term.Name i) (term.Child (bound w q.0).number (colour_of w.scope q.1)) →
        not (is_unknown (colour_of w.scope q.1)) ≡ true → LandsIn y w i q
    lands q cut i below certain =
        let l = part_landed w.tree task w.scope head i (bound w q.0).number (colour_of w.scope q.1) below in
        record { cut = cut; upper = l.upper; up = l.up; behind = l.high; piece = l.piece; certain = certain }

    -- by what stands at the places of a constraint
    parted_as : (p : ℕ × ℕ) (lower upper : Name) → Has t.clauses (clause.Within lower upper) → (place_in t.params lower ≡ p.0) → (place_in t.params upper ≡ p.1) →
        IsGivenAt forms y refl w args (place_in t.params lower) (type_at ps (place_in t.params lower)) →
        IsGivenAt forms y refl w args (place_in t.params upper) (type_at ps (place_in t.params upper)) → IsPartedAt true y w args p
    parted_as p lower upper said low high (inl a) (inl b) =
        let ta = (bound w a.name).static_type in
        let tb = (bound w b.name).static_type in
        let ra = first_region ta _ a.regions in
        let rb = first_region tb _ b.regions in
        let kept_a = kept_term true w.scope.names (bound w a.name).number ta (named_kept true w.scope.names a.name names a.there) ra in
        let kept_b = kept_term true w.scope.names (bound w b.name).number tb (named_kept true w.scope.names b.name names b.there) rb in
        let lies = argument_within lower upper ta tb ra rb (name_type args (place_in t.params lower) a.name told a.at)
        (name_type args (place_in t.params upper) b.name told b.at) said in
        let by = parted_by a.name b.name a.there b.there (bound w a.name).number (bound w b.name).number refl refl
        (subst (λ r. is_subregion w.scope.known (term.Name (bound w a.name).number) r ≡ true) kept_b
        (subst (λ r. is_subregion w.scope.known r (term_in tb) ≡ true) kept_a lies)) in
        let found = (found_by_number w.scope.next w.scope.names b.name scope.numbers b.there).0 in
        let part : (a.name ≡ b.name) ⊎ (IsPart y (term_in ta) (term_in tb) ⊎ BeganWithin y w (term_in ta) (bound w b.name)) = ⊎_elim (λ q. inl q)
        (λ is. inr (⊎_elim
        (λ pair. inl (subst (λ r. IsPart y r (term_in tb)) (sym kept_a) (subst (IsPart y (term.Name (bound w a.name).number)) (sym kept_b) pair)))
        (λ began. inr (began_within task w head scope.numbers (bound w a.name).number (bound w b.name).number (term_in ta) (bound w b.name) kept_a found kept_b began)) is)) by in
        parted_names true y w args p (subst (λ i. IsParted y w (name_at args i) (name_at args p.1)) low
        (subst (λ j. IsParted y w (name_at args (place_in t.params lower)) (name_at args j)) high
        (subst (λ o. IsParted y w o (name_at args (place_in t.params upper))) (sym a.at)
        (subst (IsParted y w (Some a.name)) (sym b.at) (a.there, b.there, ra, rb, part)))))
    parted_as p lower upper said low high (inr a) (inl b) =
        let ca = cut_by a.name a.cut in
        let i = (bound w a.name).number in
        let r = parent_of (bound w a.name).static_type in
        let tb = (bound w b.name).static_type in
        let j = (bound w b.name).number in
        let rb = first_region tb _ b.regions in
        let kept_b = kept_term true w.scope.names j tb (named_kept true w.scope.names b.name names b.there) rb in
        let lies = argument_within lower upper (typed w (access_expr a.name (at_step a.index no_step))) tb (ca.like a.index) rb
        (part_type args (place_in t.params lower) (a.name, a.index) told a.at) (name_type args (place_in t.params upper) b.name told b.at) said in
        let over = whole_within w.tree task w.scope head i r (colour_of w.scope a.index) (is_disjoint (bound w a.name).static_type) (bound w a.name)
        (bound_among w.scope.names a.name a.cut.named) refl ca.is j
        (subst (λ u. is_subregion w.scope.known (term.Child i (colour_of w.scope a.index)) u ≡ true) kept_b
        (subst (λ u. is_subregion w.scope.known u (term_in tb) ≡ true) (ca.part a.index) lies)) in
        let found = (found_by_number w.scope.next w.scope.names b.name scope.numbers b.there).0 in
        let by = below_told task w head scope.numbers r j (parent_bound w a.name) (bound w b.name) refl found ca.named kept_b over in
        parted_below true y w args p a.keeps (subst (λ i. IsPartBelow y w (part_at args i) (name_at args p.1) (part_at args p.1)) low
        (subst (λ j. IsPartBelow y w (part_at args (place_in t.params lower)) (name_at args j) (part_at args j)) high
        (subst (λ o. IsPartBelow y w o (name_at args (place_in t.params upper)) (part_at args (place_in t.params upper))) (sym a.at)
        (subst (λ o. IsPartBelow y w (Some (a.name, a.index)) o (part_at args (place_in t.params upper))) (sym b.at)
        (a.cut, record { named = b.there; numbers = scope.numbers; region = rb }, by)))))
    parted_as p lower upper said low high (inr a) (inr b) =
        let ca = cut_by a.name a.cut in
        let cb = cut_by b.name b.cut in
        let i = (bound w a.name).number in
        let r = parent_of (bound w a.name).static_type in
        let j = (bound w b.name).number in
        let ka = colour_of w.scope a.index in
        let kb = colour_of w.scope b.index in
        let lies = argument_within lower upper (typed w (access_expr a.name (at_step a.index no_step))) (typed w (access_expr b.name (at_step b.index no_step)))
        (ca.like a.index) (cb.like b.index) (part_type args (place_in t.params lower) (a.name, a.index) told a.at)
        (part_type args (place_in t.params upper) (b.name, b.index) told b.at) said in
        let q = (is_subregion-derivable w.scope.known (term.Child i ka) (term.Child j kb)).0
        (subst (λ u. is_subregion w.scope.known (term.Child i ka) u ≡ true) (cb.part b.index)
        (subst (λ u. is_subregion w.scope.known u (term_in (typed w (access_expr b.name (at_step b.index no_step)))) ≡ true) (ca.part a.index) lies)) in
        ⊎_elim
        (λ (alike : term.Child j kb ≡ term.Child i ka).
        let name = same_name w scope.numbers a.name b.name a.cut.named b.cut.named (sym (ap partition_in alike)) in
        let colour = one_colour forms w scope.numbers a.index b.index a.indexed b.indexed (sym (ap colour_in alike))
        (subst (λ c. not (is_unknown c) ≡ true) (ap colour_in alike) q.certain) in
        parted_below true y w args p a.keeps (subst (λ i. IsPartBelow y w (part_at args i) (name_at args p.1) (part_at args p.1)) low
        (subst (λ j. IsPartBelow y w (part_at args (place_in t.params lower)) (name_at args j) (part_at args j)) high
        (subst (λ o. IsPartBelow y w o (name_at args (place_in t.params upper)) (part_at args (place_in t.params upper))) (sym a.at)
        (subst (λ o. IsPartBelow y w (Some (a.name, a.index)) o (part_at args (place_in t.params upper))) (sym (no_name args (place_in t.params upper) (b.name, b.index) b.at))
        (subst (IsPartBelow y w (Some (a.name, a.index)) None) (sym b.at) (a.cut, name, colour)))))))
        (λ below.
        let land = lands (b.name, b.index) b.cut r below q.certain in
        parted_piece true y w args p a.keeps (subst (λ i. IsPieceBelow y w (name_at args i) (part_at args i) (part_at args p.1)) low
        (subst (λ j. IsPieceBelow y w (name_at args (place_in t.params lower)) (part_at args (place_in t.params lower)) (part_at args j)) high
        (subst (λ o. IsPieceBelow y w o (part_at args (place_in t.params lower)) (part_at args (place_in t.params upper))) (sym (no_name args (place_in t.params lower) (a.name, a.index) a.at))
        (subst (λ o. IsPieceBelow y w None o (part_at args (place_in t.params upper))) (sym a.at)
        (subst (IsPieceBelow y w None (Some (a.name, a.index))) (sym b.at) (a.cut, ca.named, land)))))))
        (part_over w.tree task w.scope head i r ka (is_disjoint (bound w a.name).static_type) (bound w a.name)
        (bound_among w.scope.names a.name a.cut.named) refl ca.is (term.Child j kb)
        (part_below w.tree task w.scope head (term.Child i ka) (term.Child j kb) q.below i ka refl))
    parted_as p lower upper said low high (inl a) (inr b) =
        let cb = cut_by b.name b.cut in
        let ta = (bound w a.name).static_type in
        let i = (bound w a.name).number in
        let ra = first_region ta _ a.regions in
        let kept_a = kept_term true w.scope.names i ta (named_kept true w.scope.names a.name names a.there) ra in
        let j = (bound w b.name).number in
        let kb = colour_of w.scope b.index in
        let lies = argument_within lower upper ta (typed w (access_expr b.name (at_step b.index no_step))) ra (cb.like b.index)
        (name_type args (place_in t.params lower) a.name told a.at) (part_type args (place_in t.params upper) (b.name, b.index) told b.at) said in
        let q = (is_subregion-derivable w.scope.known (term.Name i) (term.Child j kb)).0
        (subst (λ u. is_subregion w.scope.known (term.Name i) u ≡ true) (cb.part b.index)
        (subst (λ u. is_subregion w.scope.known u (term_in (typed w (access_expr b.name (at_step b.index no_step)))) ≡ true) kept_a lies)) in
        let land = lands (b.name, b.index) b.cut i q.below q.certain in
        parted_piece true y w args p b.keeps (subst (λ i. IsPieceBelow y w (name_at args i) (part_at args i) (part_at args p.1)) low
        (subst (λ j. IsPieceBelow y w (name_at args (place_in t.params lower)) (part_at args (place_in t.params lower)) (part_at args j)) high
        (subst (λ o. IsPieceBelow y w o (part_at args (place_in t.params lower)) (part_at args (place_in t.params upper))) (sym a.at)
        (subst (IsPieceBelow y w (Some a.name) (part_at args (place_in t.params lower))) (sym b.at)
        (record { named = a.there; numbers = scope.numbers; region = ra }, kept_a, land)))))

    parted : (p : ℕ × ℕ) → Has (pairs_in (scope_of w.tree t).known) p → IsPartedAt true y w args p
    parted p h =
        let c = pair_constrained w.tree t callee_sound p h in
        parted_as p c.lower c.upper c.told c.are.0 c.are.1 (region_at (place_in t.params c.lower) c.low.region) (region_at (place_in t.params c.upper) c.high.region)

    pub calls_handed : slice_get (tasks_of w.tree) (place_of_task w.tree n) ≡ Some t → AllGoToParams (scope_of w.tree t).names → AreDivided w args 0 ps → IsCallable (forms_by true true w.tree task) w n args
    calls_handed at goals divided =
        (at, all_met true (Some y) w args (task_code w.tree t).needs met, all_parted true y w args (pairs_in (scope_of w.tree t).known) parted, goals, divided)
