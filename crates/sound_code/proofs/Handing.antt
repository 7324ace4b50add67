-- Calls, also those that hand regions over: what is handed is what the called task needs, and the frame which the call
-- opens suits the mark in which the task's body begins.
use Rattle.std.proofs.Common.{◌≡◌, inl, inr, ℕ, suc, ◌+◌, ◌<◌, ◌≤◌, ◌-◌, pos, List, [], ◌∷◌, ◌++◌, map, true, None, Some, refl, sym, ap, ◌∙◌, subst, arith, cond, ⊎_elim, false}
use Rattle.std.specs.Prelude.{length, replicate, slice_get, ◌==◌, ◌&&◌}
use Rattle.std.specs.List.{list_any}
use Rattle.std.proofs.lemmas.Bool.{and_parts, eqb-true, le-leb, or_cases}
use Rattle.std.proofs.lemmas.Option.{same_Some}
use Rattle.lane_kernels.specs.declared.numbers.Mode.{Mode}
use Rattle.lane_kernels.specs.declared.numbers.Mode.TheVariants as mode
use Rattle.plain_values.specs.Points.{has}
use Rattle.region_tree.proofs.Joins.{same_mode-tells}
use Rattle.region_tree.specs.Requirements.{same_mode}
use Rattle.regent_tree.proofs.Members.{Has, Has-from_list_any}
use Rattle.regent_tree.specs.Accesses.{space_in}
use Rattle.regent_tree.specs.Facts.{is_subregion}
use Rattle.regent_tree.specs.Scopes.{scope_of}
use Rattle.regent_tree.specs.StaticTypes.{space_at, task_named}
use Rattle.regent_tree.specs.Syntax.{Expression, Expressions, Name, TaskTree, an_expr, no_expr}
use Rattle.regent_tree.specs.Typing.{is_disjoint, param_types, parent_of}
use Rattle.regent_tree.specs.declared.facts.Term.TheVariants as term
use Rattle.regent_tree.specs.declared.typing.StaticType.{StaticType}
use Rattle.task_code.specs.declared.code.NeedCode.{NeedCode}
use Rattle.task_code.specs.declared.code.TaskCode.{TaskCode}
use Rattle.task_code.specs.declared.instr.Instr.TheVariants as instr
use Rattle.machine_terms.specs.declared.value.RegionValue.{RegionValue}
use Rattle.machine_terms.specs.declared.value.Value.{Value}
use Rattle.machine_terms.specs.declared.value.Value.TheVariants as value
use Rattle.machine_terms.specs.Pointers.{region_in}
use Rattle.code_rules.specs.Expressions.{count, expr_code}
use Rattle.code_rules.specs.Instructions.{one, place_of_task}
use Rattle.code_rules.specs.Programs.{task_code}
use Rattle.code_rules.specs.Slots.{Where, bound, slot_named, typed}
use Rattle.code_laws.specs.Simple.{a_partition_type, AreRegions, IsPartition, IsRegion, a_region_type, term_in, two_regions}
use Rattle.code_laws.specs.Steps.{Forms, Taking}
use Rattle.code_laws.specs.Taking.{LiesUp, MayDo, allows, is_need, is_part, known_of_pairs, pairs_in}
use Rattle.code_laws.specs.Arguments.{AreMet, IsHanded, name_at, parent_bound, part_at}
use Rattle.code_laws.specs.Typed.{ArePassed, IsCallable, IsIndexed, IsTyped}
use Rattle.code_laws.proofs.Arguments.{handed_name}
use Rattle.code_laws.proofs.Calling.{code_there}
use Rattle.fit_rules.specs.Shapes.{ComesFrom, part, Among, Are, are_more, are_none, awaited, Each, Is, cut_from, is_cut, is_number, is_partition, is_region, IsRegion as IsRegionValue, Origin, partition, region, Shape, World, unknown, argument, own_as}
use Rattle.fit_rules.specs.Marks.{around, Mark, stacked, Suits}
use Rattle.sound_code.proofs.Placing.{named_as}
use Rattle.sound_code.proofs.SlotShapes.{regions_plain}
use Rattle.sound_code.proofs.SlotShapes.{partition_plain, pointer_plain, region_plain, slot_bare, slot_is, slot_numbered, slot_plain}
use Rattle.sound_code.specs.Named.{name_shape, slot_shape}
use Rattle.sound_code.specs.Named.{AreNamed}
use Rattle.fit_rules.specs.Fits.{count_at, Declares, declares_it, made_it, Program}
use Rattle.fit_rules.specs.Ends.{called, IsNeeded}
use Rattle.fit_rules.specs.Sound.{Opens, Takes}
use Rattle.fit_laws.specs.Within.{IsGranted}
use Rattle.fit_laws.proofs.Within.{covered_needs_are_within}
use Rattle.marked_code.proofs.Placed.{below}
use Rattle.marked_code.specs.Marked.{leads_calling, typed_op}
use Rattle.sound_code.specs.Ways.{by_rules, none_begun, origin_behind, origin_in, shape_in, shape_of, Tops, Way, whole_origin, opening_facts}
use Rattle.sound_code.proofs.WholeTasks.{are_whole_arguments}
use Rattle.sound_code.proofs.Wholes.{Asks, asks_first, asks_second, given_whole, IsWorth, worth_named}
use Rattle.sound_code.proofs.Parts.{parent_named}
use Rattle.sound_code.proofs.Asked.{AreTops, AskedAt, Hands, hands_none, hands_taken, Known, told_total, UpTo}
use Rattle.sound_code.proofs.Calling.{args_many, nothing_needed, onto, opening_suits, opens, passed_many, passed_worth, some_body, takes_settled, types_many, worth_is}
use Rattle.sound_code.proofs.Colours.{named_low, slot_low}
use Rattle.sound_code.proofs.Cuts.{CutBy}
use Rattle.sound_code.proofs.Combining.{both, Marked, nothing_done}
use Rattle.sound_code.proofs.Elements.{field_there}
use Rattle.sound_code.proofs.Parameters.{AreAt, IsLow, IsOwnAt, params_low, params_own}
use Rattle.sound_code.proofs.Placing.{named_at}
use Rattle.check_rules.specs.rules.Partitions.{mispartition_in}
use Rattle.check_rules.specs.types.KnownTypes.{known_types}
use Rattle.check_rules.specs.types.Params.{types_in_order}
use Rattle.check_rules.specs.types.TypedForms.{calling}
use Rattle.expression_laws.proofs.Calls.{call_parts}
use Rattle.sound_code.proofs.Dividing.{AreFlagged, flags_told, IsFlagged}
use Rattle.sound_code.proofs.Handed.{all_handed, all_long, all_settled, any_given, any_of, argument_at, cut_handed, given_cut, given_from, given_part, handed, IsAny, IsArgument, IsPartGiven, part_argument_at, part_handed, region_handed, region_loaded, unheld, worth_handed, worths_handed}
use Rattle.sound_code.proofs.Grounds.{Ground, HasFacts, Kept, top_in}
use Rattle.sound_code.proofs.Pairs.{OverPair, paired, pairs_over}
use Rattle.sound_code.proofs.Under.{LiesUnder, under_in, under_part}
use Rattle.sound_code.proofs.Interpreting.{not_below}
use Rattle.sound_code.proofs.Told.{ToldCall}
use Rattle.sound_code.proofs.Lying.{above}
use Rattle.sound_code.proofs.Constraining.{facts_told}
use Rattle.sound_code.proofs.Wants.{IsNeedOf, IsPartNeed, IsWant, met_at, want_of}
use Rattle.sound_code.proofs.Scoped.{ScopedBy}

-- ---- what the called task needs

module _ (g : Program) (t : TaskCode) (w : Where) (tops : Tops) (task : TaskTree) (known : Known (by_rules tops task) g w.tree) (ep : w.params ≡ t.params)
    (kept : Kept t tops task w.tree w.params w.scope) (m : Mark) (facts : HasFacts (by_rules tops task) w.tree m.facts)
    (y : Taking) (params : y.params ≡ t.params) (needs : y.needs ≡ t.needs) (within : y.within ≡ pairs_in (scope_of w.tree task).known)
    (tells : AreTops y t.params (tops task)) where
  part_below : (i j : ℕ) → is_part y i j ≡ true → OverPair t tops task w.tree w.params w.scope kept m facts i j
  part_below i j e = pairs_over t tops task w.tree w.params w.scope kept m facts i j
      (subst (λ ps. is_subregion (known_of_pairs ps) (term.Name i) (term.Name j) ≡ true) within e)

  module _ (x : World) (vs st : List Value) (suits : Suits x t.params m vs st) where
    -- what stands around the arguments
    abbrev z : World
    z = around x m vs

    has_field : (u sp f : ℕ) → x.spaces u ≡ sp → f < length (space_at w.tree sp).fields → f < count_at g (x.spaces u)
    has_field u sp f e l = subst (λ s. f < count_at g s) (sym e) (field_there g w.tree (by_rules tops task) known sp f l)

    -- an argument is a region of its field space
    needed_by : (need : NeedCode) (sp : ℕ) (o : Origin) (ws : List Value) → need.field < length (space_at w.tree sp).fields →
        IsArgument z ws need.param (region (Some sp) o) → IsNeeded g x ws need
    needed_by need sp o ws l a =
        let q = any_of z sp o a.it a.of in record {
          region = q.it;
          argument = ap region_in (a.at ∙ ap Some q.is);
          there = q.of_space.there;
          field = has_field q.it.root.0 sp need.field q.of_space.space l;
        }

    needed_of : (need : NeedCode) (u : StaticType) (ws : List Value) → IsRegion u → need.field < length (space_at w.tree (space_in u)).fields →
        IsArgument z ws need.param (shape_in (by_rules tops task) w.params u) → IsNeeded g x ws need
    needed_of need _ ws (a_region_type c sp args r) l a = needed_by need sp (origin_in (by_rules tops task) w.params r) ws l a

    -- what is declared of the argument
    declared : (need : NeedCode) (i : ℕ) (r : RegionValue) (p : ℕ) → i < w.params → list_any (is_need y i need.field need.mode) y.needs ≡ true →
        region_in (slice_get x.args i) ≡ Some r → has r.points p ≡ true → IsGranted g x t r.root.0 need.field p need.mode
    declared need i r p low e at ip =
        let found = Has-from_list_any (is_need y i need.field need.mode) y.needs e in
        let n : NeedCode = found.0 in
        let first = and_parts (is_part y i n.param) ((n.field == need.field) && allows n.mode need.mode) found.2 in
        let last = and_parts (n.field == need.field) (allows n.mode need.mode) first.1 in
        let q = above t.params w.params (none_begun task) (opening_facts (by_rules tops task) w.tree task) m
        (paired t tops task w.tree w.params w.scope kept m facts) ep i n.param low (part_below i n.param first.0) x vs st suits r at in
        let have : (a : Mode) → n.mode ≡ a → Declares x t r.root.0 need.field p a = λ a ea. record {
          need = n;
          is_there = subst (λ ns. Among ns n) needs (among_in y.needs n found.1);
          its_field = eqb-true n.field need.field last.0;
          its_mode = ea;
          region = q.other;
          argument = q.at;
          its_root = sym q.inside.0;
          its_point = q.inside.1 p ip;
        } in
        elim (or_cases (same_mode n.mode need.mode) (same_mode n.mode mode.Write) last.1) [
          | inl d ↦ inl (declares_it need.mode (have need.mode (same_mode-tells n.mode need.mode d)))
          | inr d ↦ inr (declares_it mode.Write (have mode.Write (same_mode-tells n.mode mode.Write d)))
        ]
      where
        among_in : (ns : List NeedCode) (n : NeedCode) → Has ns n → Among ns n
        among_in [] n h = absurd h
        among_in (m ∷ ns) n (inl e) = inl e
        among_in (m ∷ ns) n (inr h) = inr (among_in ns n h)

    made_there : (need : NeedCode) (sp k : ℕ) (whole : RegionValue) → w.params ≤ k → ComesFrom z (whole_origin w.params k) whole → x.spaces whole.root.0 ≡ sp →
        need.field < length (space_at w.tree sp).fields → (p : ℕ) → has whole.points p ≡ true → IsGranted g x t whole.root.0 need.field p need.mode
    made_there need sp k whole high from s l p ip =
        let own : ComesFrom z (own_as k) whole = subst (λ b. ComesFrom z (cond b (own_as k) (argument k)) whole) (le-leb w.params k high) from in
        inl (made_it need.mode own.0.0 (subst (λ xs. has xs p ≡ true) own.0.1 ip) (has_field whole.root.0 sp need.field s l))

    -- so what is needed of a region is granted, by that within which it lies
    granted : (need : NeedCode) (sp i : ℕ) (r : RegionValue) → need.field < length (space_at w.tree sp).fields → MayDo (Some y) (term.Name i) need.field need.mode →
        LiesUnder z w.params (top_in w.params (tops task) i) r → x.spaces r.root.0 ≡ sp → (p : ℕ) → has r.points p ≡ true →
        IsGranted g x t r.root.0 need.field p need.mode
    granted need sp i r l may u es p ip =
        let k = top_in w.params (tops task) i in
        subst (λ n. IsGranted g x t n need.field p need.mode) (sym u.inside.0) (elim (below k w.params) [
          | inl low ↦ declared need k u.whole p low
              (may k (subst (λ n. LiesUp y i (top_in n (tops task) i)) (sym ep) (tells.upwards i)) (omega (arith, low, ep, params)))
              (subst (λ b. ComesFrom z (cond b (own_as k) (argument k)) u.whole) (not_below w.params k low) u.from) (u.inside.1 p ip)
          | inr high ↦ made_there need sp k u.whole high u.from (ap x.spaces (sym u.inside.0) ∙ es) l p (u.inside.1 p ip)
        ])

    -- an argument of a field space
    granted_by : (need : NeedCode) (sp i : ℕ) (o : Origin) (ws : List Value) → need.field < length (space_at w.tree sp).fields → MayDo (Some y) (term.Name i) need.field need.mode →
        ((r : RegionValue) → ComesFrom z o r → LiesUnder z w.params (top_in w.params (tops task) i) r) → IsArgument z ws need.param (region (Some sp) o) →
        (r : RegionValue) → region_in (slice_get ws need.param) ≡ Some r → (p : ℕ) → has r.points p ≡ true → IsGranted g x t r.root.0 need.field p need.mode
    granted_by need sp i o ws l may under a r er p ip =
        let at = sym (ap region_in a.at) ∙ er in
        let q = any_of z sp o a.it a.of in
        let one : q.it ≡ r = same_Some q.it r (sym (ap region_in (a.at ∙ ap Some q.is)) ∙ er) in
        granted need sp i r l may (under r (given_from z sp o a.it a.of r at)) (subst (λ (d : RegionValue). x.spaces d.root.0 ≡ sp) one q.of_space.space) p ip

    granted_of : (need : NeedCode) (u : StaticType) (ws : List Value) → IsRegion u → need.field < length (space_at w.tree (space_in u)).fields →
        MayDo (Some y) (term_in u) need.field need.mode → IsArgument z ws need.param (shape_in (by_rules tops task) w.params u) → (r : RegionValue) →
        region_in (slice_get ws need.param) ≡ Some r → (p : ℕ) → has r.points p ≡ true → IsGranted g x t r.root.0 need.field p need.mode
    granted_of need _ ws (a_region_type c sp args (term.Name i)) l may a =
        granted_by need sp i (origin_in (by_rules tops task) w.params (term.Name i)) ws l may (λ r c. under_in tops task w.params i z r c) a
    granted_of need _ ws (a_region_type c sp args (term.Child q d)) l may a = absurd may

    -- so of a part
    granted_part : (need : NeedCode) (sp i : ℕ) (ws : List Value) → need.field < length (space_at w.tree sp).fields → MayDo (Some y) (term.Name i) need.field need.mode →
        IsArgument z ws need.param (given_part (by_rules tops task) w.params sp i) → (r : RegionValue) → region_in (slice_get ws need.param) ≡ Some r → (p : ℕ) →
        has r.points p ≡ true → IsGranted g x t r.root.0 need.field p need.mode
    granted_part need sp i ws l may a =
        granted_by need sp i (part (origin_in (by_rules tops task) w.params (term.Name i))) ws l may (λ r c. under_part tops task w.params i z r c) a

-- ---- arguments as the called task has them

module _ (forms : Forms) (way : Way) (tops : Tops) (w : Where) (u : TaskTree) (n : ℕ) (x : World) (all : List Value) where
  region_called : (sp k : ℕ) (r : RegionValue) → IsRegionValue x (Some sp) unknown r → region_in (slice_get all k) ≡ Some r →
      IsRegionValue (called x all) (Some sp) (argument k) r
  region_called sp k r i e = record { there = i.there; space = i.space; set = i.set; points = i.points; origin = e }

  region_taken : (b p : StaticType) (v : Value) (k : ℕ) → AreRegions b p → IsLow n p → IsOwnAt k p → slice_get all k ≡ Some v → IsAny x (space_in p) v →
      Is (called x all) (shape_in (by_rules tops u) n p) v
  region_taken _ _ v k (two_regions c d sp args brgs r (term.Name j)) low own at a =
      subst (λ o. Is (called x all) (region (Some sp) o) v)
      (ap argument (sym own) ∙ sym (ap (λ b. cond b (origin_behind n j (tops u j)) (argument j)) (not_below n j low)))
      (subst (Is (called x all) (region (Some sp) (argument k))) (sym a.is)
      (is_region (Some sp) (argument k) a.it (region_called sp k a.it a.of_space (ap region_in (at ∙ ap Some a.is)))))
  region_taken _ _ v k (two_regions c d sp args brgs r (term.Child q e)) low own at a = absurd low

  worth_taken : (p : StaticType) (v : Value) → IsWorth p → Is x (shape_of p) v → Is (called x all) (shape_in (by_rules tops u) n p) v
  worth_taken p v h i = subst (λ s. Is (called x all) s v) (sym (worth_named (by_rules tops u) n p h)) (worth_is x (called x all) p v h i)

  part_called : (r : RegionValue) → IsRegionValue x None unknown r → IsRegionValue (called x all) None unknown r
  part_called r i = record { there = i.there; space = i.space; set = i.set; points = i.points; origin = tt }

  cut_taken : (b p : StaticType) (v : Value) → IsPartition b → IsPartition p → (is_disjoint p ≡ true → is_disjoint b ≡ true) → Is x (given_cut way w b) v →
      Is (called x all) (shape_in (by_rules tops u) n p) v
  cut_taken _ _ v (a_partition_type d r o) (a_partition_type e s q) flag i = of _ v i
    where
      of : (o : Origin) (v : Value) → Is x (cut_from None d o) v → Is (called x all) (partition None e) v
      of o _ (is_cut _ _ _ c h f) = is_partition None e c (record {
        flag = λ y. h.flag (flag y);
        apart = h.apart;
        there = h.there;
        space = tt;
        count = h.count;
        regions = λ r a. ((h.regions r a).0, part_called r (h.regions r a).1);
      })
      of o _ (is_number _ z h) = absurd h

  are_taken : (k : ℕ) (ts ps : List StaticType) (es : Expressions) (ws : List Value) → Each (IsLow n) ps → AreAt IsOwnAt k ps → AreFlagged w ps es →
      ((i : ℕ) (v : Value) → slice_get ws i ≡ Some v → slice_get all (k + i) ≡ Some v) → ArePassed forms w ts ps es →
      Asks forms.keeps (are_whole_arguments true w ps es) → Are x (all_handed way w ps es) ws → Are (called x all) (map (shape_in (by_rules tops u) n) ps) ws
  are_taken k [] [] no_expr _ l o flags at h asks are_none = are_none
  are_taken k (t ∷ ts) (p ∷ ps) (an_expr e es) _ l o flags at h asks (are_more _ v _ vs i a) = are_more _ v _ vs
      (given_whole forms.keeps forms.takes w t p e (IsTyped forms w e) (IsIndexed forms w e) (Is (called x all) (shape_in (by_rules tops u) n p) v)
      (asks_first _ _ _ asks)
      (λ enters is. worth_taken p v enters.worth (subst (λ b. Is x b v) (worth_handed way w p e enters.worth) i))
      (λ y takes q.
      let b = handed_name y w t p e q in
      let here : k + 0 ≡ k = omega arith in
      region_taken (bound w b.0).static_type p v k b.4 l.0 o.0 (subst (λ j. slice_get all j ≡ Some v) here (at 0 v refl))
      (any_given x way w.params (bound w b.0).static_type p v b.4
      (unheld x (slot_named w b.0) _ v (subst (λ s. Is x s v) (ap (handed way w p) b.1 ∙ region_handed way w b.0 _ p b.4) i))))
      (λ keeps b.
      let here : k + 0 ≡ k = omega arith in
      region_taken (typed w e) p v k b.regions l.0 o.0 (subst (λ j. slice_get all j ≡ Some v) here (at 0 v refl))
      (any_of x (space_in p) _ v (subst (λ s. Is x s v) (ap (handed way w p) b.is ∙ part_handed way w b.name b.index _ p b.regions) i)))
      (λ keeps b. cut_taken (bound w b.name).static_type p v b.cut.partition b.partition
      (subst (λ y. IsFlagged p (typed w y)) b.is flags.0 b.partition b.cut.partition)
      (subst (λ s. Is x s v) (ap (handed way w p) b.is ∙ cut_handed way w b.name p b.partition) i)) h.0)
      (are_taken (suc k) ts ps es vs l.1 o.1 flags.1 (λ j z e.
      let next : k + suc j ≡ suc k + j = omega arith in subst (λ c. slice_get all c ≡ Some z) next (at (suc j) z e)) h.1 (asks_second _ _ _ asks) a)
  are_taken k [] [] (an_expr e es) ws l o flags at h asks a = absurd h
  are_taken k [] (p ∷ ps) es ws l o flags at h asks a = absurd h
  are_taken k (t ∷ ts) [] es ws l o flags at h asks a = absurd h
  are_taken k (t ∷ ts) (p ∷ ps) no_expr ws l o flags at h asks a = absurd h

-- ---- calls

module _ (g : Program) (t : TaskCode) (k slots : ℕ) (forms : Forms) (way : Way) (w : Where) (m : Mark) {deep : ℕ} (asked : AskedAt g t k slots deep forms way w m) where
  pub handed_marked : (y : Taking) → forms.takes ≡ Some y → (d : ℕ) (u p : StaticType) (e : Expression) (us : List Shape) →
      IsHanded (Some y) w u p e → Marked g t k (stacked m us) (expr_code w d e) (stacked m (handed way w p e ∷ us))
  handed_marked y takes d u p e us h =
      let q = handed_name y w u p e h in
      let b = bound w q.0 in
      subst (λ a. Marked g t k (stacked m us) (expr_code w d a) (stacked m (handed way w p a ∷ us))) (sym q.1)
      (both g t k (subst (λ s. Marked g t k (stacked m us) (one w (instr.Load (slot_named w q.0))) (stacked m (s ∷ us))) (sym (region_handed way w q.0 _ p q.4))
      (region_loaded g t k w.line w.params m way b.place b.static_type p us q.4
      (subst (λ l. slot_named w q.0 < l) (sym asked.ready.fixed)
      (slot_low w.params b.place (length w.scope.names) (named_low way w.params m.slots w.scope.names q.0 asked.ready.named q.2)))
      (named_as way w.params m.slots w.scope.names q.0 asked.ready.named q.2 (regions_plain way w.params _ p q.4))))
      (nothing_done g t k _))

  module _ (name : Name) (ts : List StaticType) (es : Expressions) (us : List Shape) (is : IsCallable forms w name es)
      (passed : ArePassed forms w ts (param_types w.tree (task_named w.tree name)) es) (whole : Asks forms.keeps (are_whole_arguments true w (param_types w.tree (task_named w.tree name)) es))
      (told : ToldCall way w.tree w.scope name es) where
    abbrev callee : TaskTree
    callee = task_named w.tree name

    abbrev place : ℕ
    place = place_of_task w.tree name

    abbrev types : List StaticType
    types = param_types w.tree callee

    abbrev shapes : List Shape
    shapes = all_handed way w types es

    abbrev before : Mark
    before = stacked m (onto shapes us)

    need_at : (y : Taking) → forms.takes ≡ Some y → (n : NeedCode) → Among (task_code w.tree callee).needs n → IsWant forms.keeps y w es n
    need_at y takes n h = want_of forms.keeps y w es n (met_at forms.keeps (Some y) w es (task_code w.tree callee).needs n h
        (subst (λ o. AreMet forms.keeps o w es (task_code w.tree callee).needs) takes is.1))

    need_place : (y : Taking) (x : World) (ws : List Value) → Are x shapes ws → (n : NeedCode) (q : IsNeedOf y w n (name_at es n.param)) →
        IsArgument x ws n.param (shape_in way w.params (bound w q.name).static_type)
    need_place y x ws a n q = (argument_at forms way w x ts types es ws n.param q.name passed whole a q.stands q.of_region).given

    part_place : (y : Taking) (x : World) (ws : List Value) → Are x shapes ws → (n : NeedCode) (q : IsPartNeed y w n (part_at es n.param)) → IsPartGiven forms way w x ws n.param q.it
    part_place y x ws a n q = part_argument_at forms way w x ts types es ws n.param q.it passed whole a q.stands q.cut.partition

    part_field : (x : World) (ws : List Value) (n : NeedCode) (p : Name × Expression) (d : IsPartGiven forms way w x ws n.param p) →
        n.field < length (space_at w.tree (space_in (parent_bound w p.0).static_type)).fields → n.field < length (space_at w.tree d.space).fields
    part_field x ws n p d l = subst (λ sp. n.field < length (space_at w.tree sp).fields) (sym d.same) l

    each_needed : (x : World) (ws : List Value) (ns : List NeedCode) → ((n : NeedCode) → Among ns n → IsNeeded g x ws n) → Each (IsNeeded g x ws) ns
    each_needed x ws [] h = tt
    each_needed x ws (n ∷ ns) h = (h n (inl refl), each_needed x ws ns (λ d i. h d (inr i)))

    taken_opens : (tops : Tops) (task : TaskTree) (y : Taking) → way ≡ by_rules tops task → forms.takes ≡ Some y → y.params ≡ t.params → y.needs ≡ t.needs →
        y.within ≡ pairs_in (scope_of w.tree task).known → AreTops y t.params (tops task) → (forms.keeps ≡ false → (i : ℕ) → tops task i ≡ None) →
        Opens g t before place (task_code w.tree callee) shapes
    taken_opens tops task y by takes params needs within tells none = (
      asked.known.first place callee is.0,
      λ x vs st ws knows s a.
          let z = around x before vs in
          let known = subst (λ v. Known v g w.tree) by asked.known in
          let kept = subst (λ v. Ground t v w.tree w.params w.scope) by asked.ground in
          let facts = subst (λ v. HasFacts v w.tree m.facts) by asked.facts in
          let call = subst (λ v. ToldCall v w.tree w.scope name es) by told in
          let are = subst (λ v. Are z (all_handed v w types es) ws) by a in
          let flags = flags_told w task kept.sound call.0 (known_types w.tree w.scope es) types es call.1
          (subst (λ ts. mispartition_in (known_types w.tree w.scope es) ts (known_types w.tree w.scope es) ≡ false) (ap types_in_order (kept.sound.params name))
          (call_parts w.tree task w.scope (calling name (known_types w.tree w.scope es)) call.2).parted) in
          let names = subst (λ v. AreNamed v w.params m.slots w.scope.names) by asked.ready.named in
          let of : (n : NeedCode) (q : IsNeedOf y w n (name_at es n.param)) → IsArgument z ws n.param (shape_in (by_rules tops task) w.params (bound w q.name).static_type) =
          λ n q. subst (λ v. IsArgument z ws n.param (shape_in v w.params (bound w q.name).static_type)) by (need_place y z ws a n q) in
          let part : (n : NeedCode) (q : IsPartNeed y w n (part_at es n.param)) (d : IsPartGiven forms way w z ws n.param q.it) →
          IsArgument z ws n.param (given_part (by_rules tops task) w.params d.space (parent_of (bound w q.it.0).static_type)) =
          λ n q d. subst (λ v. IsArgument z ws n.param (given_part v w.params d.space (parent_of (bound w q.it.0).static_type))) by d.given in
          let taken = are_taken forms way tops w callee (length callee.params) z ws 0 ts types es ws (params_low w.tree callee) (params_own w.tree callee) flags (λ i v e.
          let from : 0 + i ≡ i = omega arith in subst (λ j. slice_get ws j ≡ Some v) (sym from) e) passed whole a in (
            (
              args_many (by_rules tops callee) w.tree callee (called x ws) ws taken,
              subst (λ v. Suits (called x ws) (length callee.params) v (ws ++ replicate ((task_code w.tree callee).slots - length ws) (value.Number (pos 0))) [])
                  (sym (known.begins place callee is.0))
                  (opening_suits (by_rules tops callee) w.tree callee x ws taken
                  (facts_told tops task t w kept before facts asked.params names asked.ready.fixed x vs st ws knows s forms y takes name ts es
                  (λ q. subst (λ v. ScopedBy v w.scope.names) by (asked.scoped q)) is passed whole (λ q. subst (λ v. CutBy v w.tree w.params m.facts w.scope.names) by (asked.cut q))
                  (told_total w.tree task w.scope (subst (λ v. UpTo v w.tree w.scope) by asked.upto)) none are call)),
            ),
            each_needed x ws (task_code w.tree callee).needs (λ n h. ⊎_elim
                (λ (q : IsNeedOf y w n (name_at es n.param)).
                needed_of g t w tops task known asked.params kept before facts y params needs within tells x vs st s n (bound w q.name).static_type ws q.of_region q.field (of n q))
                (λ c.
                let q = c.1 in
                let d = part_place y z ws a n q in
                needed_by g t w tops task known asked.params kept before facts y params needs within tells x vs st s n d.space _ ws
                (part_field z ws n q.it d q.field) (part n q d)) (need_at y takes n h)),
            covered_needs_are_within g x t (task_code w.tree callee).needs ws (λ n h r er p ip. ⊎_elim
                (λ (q : IsNeedOf y w n (name_at es n.param)).
                granted_of g t w tops task known asked.params kept before facts y params needs within tells x vs st s n (bound w q.name).static_type ws q.of_region q.field q.may (of n q) r er p ip)
                (λ c.
                let q = c.1 in
                let d = part_place y z ws a n q in
                granted_part g t w tops task known asked.params kept before facts y params needs within tells x vs st s n d.space (parent_of (bound w q.it.0).static_type) ws
                (part_field z ws n q.it d q.field)
                (subst (λ u. MayDo (Some y) u n.field n.mode) (parent_named g t k slots forms way w m asked q.it.0 c.0 q.cut) q.may) (part n q d) r er p ip) (need_at y takes n h)),
          ),
    )

    pub call_opens : Opens g t before place (task_code w.tree callee) shapes
    call_opens = of asked.hands
      where
        of : Hands forms t way w.tree → Opens g t before place (task_code w.tree callee) shapes
        of (hands_none none unkept wholly) =
            let worths = passed_worth forms none w ts types es passed whole in
            subst (Opens g t before place (task_code w.tree callee)) (sym (worths_handed forms way w types es worths (passed_many forms w ts types es passed)))
            (opens g t k way w asked.known before place callee is.0 (nothing_needed forms.keeps forms.takes none w types es (task_code w.tree callee).needs whole is.1) worths)
        of (hands_taken tops task y by e1 e2 e3 e4 e5 e6) = taken_opens tops task y by e1 e2 e3 e4 e5 e6

    -- a call with its arguments on the stack
    pub calls : Marked g t k before (one w (instr.Call place (count es))) (stacked m (awaited (g.results place) ∷ us))
    calls = record {
      marks = _;
      is = typed_op _ _ _ w.line (leads_calling before place (count es) (task_code w.tree callee) shapes us
          (ap (λ c. slice_get c.tasks place) asked.known.code ∙ code_there w.tree name is.0)
          (sym (types_many w.tree callee) ∙ passed_many forms w ts types es passed) (some_body w.tree callee)
          (subst (λ n. Takes n (onto shapes us) [] shapes us) (all_long forms way w ts types es passed)
          (takes_settled shapes us (all_settled forms way w ts types es passed whole)))
          call_opens);
    }
