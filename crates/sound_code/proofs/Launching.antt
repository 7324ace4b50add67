-- The code of a launch has marks: what it hands over is there, and at each colour its call may be made, since the call of a round may be.
use Rattle.std.proofs.Common.{◌≡◌, inl, ℕ, suc, ◌<◌, ◌+◌, List, [], ◌∷◌, map, Bool, true, false, not, cond, None, Some, refl, sym, ap, ◌∙◌, subst, arith}
use Rattle.std.specs.Prelude.{length, slice_get}
use Rattle.std.proofs.lemmas.Bool.{false≢true}
use Rattle.std.proofs.lemmas.List.{length-set}
use Rattle.index_launch.specs.declared.points.LaunchArg.TheVariants as launch_arg
use Rattle.regent_tree.specs.Lookup.{type_named}
use Rattle.regent_tree.specs.Scopes.{with_name}
use Rattle.regent_tree.specs.StaticTypes.{task_named}
use Rattle.regent_tree.specs.Syntax.{Expression, Expressions, Name, TaskTree, access_expr, an_expr, no_expr, no_step}
use Rattle.regent_tree.specs.Typing.{param_types, params_at}
use Rattle.regent_tree.specs.declared.types.Kind.{Kind}
use Rattle.regent_tree.specs.declared.typing.Bound.{Bound}
use Rattle.regent_tree.specs.declared.typing.StaticType.{StaticType}
use Rattle.task_code.specs.declared.code.TaskCode.{TaskCode}
use Rattle.task_code.specs.declared.instr.Instr.TheVariants as instr
use Rattle.machine_terms.specs.declared.value.Value.{Value}
use Rattle.check_rules.specs.types.Declarations.{params_of}
use Rattle.check_rules.specs.types.Sorts.{type_at}
use Rattle.code_rules.specs.Expressions.{count}
use Rattle.code_rules.specs.Initializers.{new_place}
use Rattle.code_rules.specs.Instructions.{place_of_task}
use Rattle.code_rules.specs.Launches.{arg_of, args_of, is_fixed, kept, launch_code, varying_arg}
use Rattle.code_rules.specs.Programs.{task_code}
use Rattle.code_rules.specs.Slots.{beside, bound, Where}
use Rattle.code_laws.specs.Simple.{AreRegions, simple_index, simple_integer, simple_space, simple_truth, two_regions}
use Rattle.code_laws.specs.Standing.{Stands}
use Rattle.code_laws.specs.Steps.{Forms}
use Rattle.code_laws.specs.Typed.{ArePassed, IsCallable, IsIndexed, IsPassed, IsTyped}
use Rattle.code_laws.proofs.Arguments.{handed_name}
use Rattle.code_laws.proofs.Calling.{code_there}
use Rattle.code_laws.proofs.LaunchShapes.{AreForms, IsLaunched, launched_child, launched_conversion, launched_name, launched_none, launched_number, launched_so, launched_truth, launched_variable}
use Rattle.code_laws.proofs.LaunchTypes.{cut_no_region, unknown_no_region}
use Rattle.fit_rules.specs.Shapes.{Are, are_more, are_none, Each, Is, space, World}
use Rattle.fit_rules.specs.Marks.{around, Mark, stacked, Suits}
use Rattle.fit_rules.specs.Fits.{Program}
use Rattle.fit_rules.specs.Sound.{HasArgument, OpensEach, OpensWith, Settled, settled_partition, settled_region}
use Rattle.fit_laws.proofs.Keeping.{get_other, get_set, set_mark}
use Rattle.marked_code.specs.Marked.{leads_launching, typed_op}
use Rattle.sound_code.specs.Named.{loops_in}
use Rattle.sound_code.proofs.Steady.{steady_stand}
use Rattle.sound_code.specs.Named.{HasSlots, Narrower, Ready, slot_at}
use Rattle.sound_code.specs.Ways.{shape_in, shape_of, Way}
use Rattle.sound_code.proofs.Alike.{Alike, alike_regions, alike_same, AllAlike, more_alike, none_alike}
use Rattle.sound_code.proofs.Asked.{Asked, Hands, hands_none, hands_taken, Known}
use Rattle.sound_code.proofs.Calling.{passed_many, passed_worth, some_body, types_many}
use Rattle.sound_code.proofs.Combining.{behind_kept, both, into, Marked}
use Rattle.sound_code.proofs.Handed.{all_handed, worths_handed}
use Rattle.sound_code.proofs.Handing.{call_opens}
use Rattle.sound_code.proofs.KeptCode.{all_put, have_room}
use Rattle.sound_code.proofs.KeptMarks.{all_kept, all_knows, are_kept, AreKept, cut_kept, HaveRoom, IsKept, kept_shape, keeping, kept_one, Knows, knows_then, region_kept, worth_kept}
use Rattle.sound_code.proofs.LaunchedNames.{cut_low, inside, no_cut_seen, part_of_cut, turn, turn_outside}
use Rattle.sound_code.proofs.LikeCalls.{opens_alike}
use Rattle.sound_code.proofs.Narrowing.{fewer_facts, narrow_into, narrow_itself, narrow_long, narrow_set}
use Rattle.sound_code.proofs.Parts.{cut_of}
use Rattle.sound_code.proofs.RoundArguments.{all_given}
use Rattle.sound_code.proofs.RoundFrames as rounds
use Rattle.sound_code.proofs.RoundFrames.{pushed, suits_pushed}
use Rattle.sound_code.proofs.Told.{ToldCall}
use Rattle.sound_code.proofs.WholeTasks.{are_whole_arguments}
use Rattle.sound_code.proofs.Wholes.{Asks, asks_first, asks_second, AsksArgument, given_whole, IsWorth, worth_pointer, worth_settled, worth_simple}

-- ---- numbers that are alike are the same

same_worth : (y : World) (p : StaticType) (v z : Value) → IsWorth p → Is y (shape_of p) v → Alike v z → v ≡ z
same_worth y _ v _ worth h (alike_same _) = refl
same_worth y _ _ _ (worth_simple _ (simple_integer a)) h (alike_regions q o e f) = elim h [ ]
same_worth y _ _ _ (worth_simple _ simple_truth) h (alike_regions q o e f) = elim h [ ]
same_worth y _ _ _ (worth_simple _ (simple_index a)) h (alike_regions q o e f) = elim h [ ]
same_worth y _ _ _ (worth_simple _ (simple_space a)) h (alike_regions q o e f) = elim h [ ]
same_worth y _ _ _ (worth_pointer a sp args rs few) h (alike_regions q o e f) = elim h [ ]

same_worths : (y : World) (ps : List StaticType) (vs zs : List Value) → Each IsWorth ps → Are y (map shape_of ps) vs → AllAlike vs zs → vs ≡ zs
same_worths y [] _ _ worths are_none none_alike = refl
same_worths y (p ∷ ps) _ _ worths (are_more _ v _ vs h a) (more_alike _ z _ zs e b) =
    ap (λ u. u ∷ vs) (same_worth y p v z worths.0 h e) ∙ ap (λ us. z ∷ us) (same_worths y ps vs zs worths.1 a b)

-- as many arguments as stand at the call
args_long : (w : Where) (i : Name) (place : ℕ) (es : Expressions) → length (args_of w i place es) ≡ count es
args_long w i place no_expr = refl
args_long w i place (an_expr e es) = ap suc (args_long w i (suc place) es)

module _ (g : Program) (t : TaskCode) (k slots : ℕ) (have : HasSlots t slots) (forms : Forms) (way : Way) (w : Where) (i : Name) (kind : Kind) (line : ℕ) (m : Mark)
    (r : Ready way w.params w.scope.names m) (ep : w.params ≡ t.params) (hi : slot_at w.params (length w.scope.names) + 2 < length m.slots) where
  abbrev here : Where
  here = inside w i kind line

  abbrev top : ℕ
  top = slot_at w.params (length w.scope.names)

  abbrev round : Mark
  round = turn g t k way w m r ep hi

  -- the mark behind the domain
  abbrev over : Mark
  over = set_mark m (top + 2) space []

  module _ (asked : Asked g t k slots forms way here round) (room : length m.slots ≡ slots) (t1 : StaticType) where
    abbrev seen : List Bound
    seen = (with_name w.scope i t1 true).names

    -- ---- what is handed over is there

    kept_settled : (u p : StaticType) (e : Expression) → is_fixed i e ≡ true → IsPassed forms here u p e (IsTyped forms here e) (IsIndexed forms here e) →
        AsksArgument forms.keeps here p e → Settled (kept_shape way here p e)
    kept_settled u p e fixed passed asks =
        given_whole forms.keeps forms.takes here u p e (IsTyped forms here e) (IsIndexed forms here e) (Settled (kept_shape way here p e)) asks
        (λ enters is. subst Settled (sym (worth_kept way here p e enters.worth)) (worth_settled p enters.worth))
        (λ y takes h.
        let q = handed_name y here u p e h in
        subst (λ d. Settled (kept_shape way here p d)) (sym q.1)
        (subst Settled (sym (region_kept way here q.0 _ p q.4)) (region_settled (bound here q.0).static_type p q.4)))
        (λ keeps a. absurd (false≢true (subst (λ d. is_fixed i d ≡ true) a.is fixed)))
        (λ keeps a. subst (λ d. Settled (kept_shape way here p d)) (sym a.is) (subst Settled (sym (cut_kept way here a.name p a.partition)) (settled_partition None _))) passed
      where
        region_settled : (u p : StaticType) → AreRegions u p → Settled (shape_in way w.params u)
        region_settled _ _ (two_regions a b sp args brgs c d) = settled_region (Some sp) _

    module _ (o : Mark) (knows : Knows way here top m o) where
      varying_has : (u p wanted : StaticType) (e : Expression) → IsLaunched seen i wanted e → is_fixed i e ≡ false →
          IsPassed forms here u p e (IsTyped forms here e) (IsIndexed forms here e) → AsksArgument forms.keeps here p e → HasArgument (stacked o []) (varying_arg here e)
      varying_has u p wanted _ (launched_number a b) varies passed asks = absurd (false≢true (sym varies))
      varying_has u p wanted _ (launched_truth b) varies passed asks = absurd (false≢true (sym varies))
      varying_has u p wanted _ (launched_name n other plain) varies passed asks = absurd (false≢true (sym varies ∙ ap not other))
      varying_has u p wanted _ (launched_variable n own) varies passed asks = tt
      varying_has u p wanted _ (launched_child n v part own) varies passed asks =
          let is = part_of_cut forms w i kind line t1 u p n (access_expr v no_step) (cut_no_region (type_named seen n) part) passed asks in
          let its = cut_of g t k slots forms way here round asked n is.keeps is.cut in
          let low = cut_low w i kind line way m r n is.cut in
          (None, record { disjoint = its.disjoint; shape = knows.slots _ low ∙ sym (turn_outside g t k way w m r ep hi _ low) ∙ its.shape })
      varying_has u p wanted _ (launched_none n e none) varies passed asks =
          let is = part_of_cut forms w i kind line t1 u p n e (unknown_no_region (type_named seen n) none) passed asks in
          absurd (no_cut_seen w i kind line t1 n none is.cut.partition)
      varying_has u p wanted _ (launched_conversion q n own) varies passed asks = tt

      one_has : (place : ℕ) (u p wanted : StaticType) (e : Expression) → IsLaunched seen i wanted e →
          IsPassed forms here u p e (IsTyped forms here e) (IsIndexed forms here e) → AsksArgument forms.keeps here p e →
          (is_fixed i e ≡ true → IsKept way here i place p e o) → HasArgument (stacked o []) (arg_of here i place e)
      one_has place u p wanted e form passed asks waits = of (is_fixed i e) refl
        where
          of : (b : Bool) → is_fixed i e ≡ b → HasArgument (stacked o []) (cond b (launch_arg.Keep (kept here place)) (varying_arg here e))
          of true fixed = (kept_shape way here p e, (waits fixed).shape, kept_settled u p e fixed passed asks)
          of false varies = varying_has u p wanted e form varies passed asks

      all_have : (place : ℕ) (ts ps wanted : List StaticType) (es : Expressions) → AreForms seen i wanted place es → ArePassed forms here ts ps es →
          Asks forms.keeps (are_whole_arguments true here ps es) → AreKept way here i place ps es o → Each (HasArgument (stacked o [])) (args_of here i place es)
      all_have place [] [] wanted no_expr looks passed whole waits = tt
      all_have place (u ∷ ts) (p ∷ ps) wanted (an_expr e es) looks passed whole waits = (
        one_has place u p (type_at wanted place) e (launched_so seen i (type_at wanted place) e looks.0) passed.0 (asks_first _ _ _ whole) waits.0,
        all_have (suc place) ts ps wanted es looks.1 passed.1 (asks_second _ _ _ whole) waits.1,
      )
      all_have place [] [] wanted (an_expr e es) looks passed whole waits = absurd passed
      all_have place [] (p ∷ ps) wanted es looks passed whole waits = absurd passed
      all_have place (u ∷ ts) [] wanted es looks passed whole waits = absurd passed
      all_have place (u ∷ ts) (p ∷ ps) wanted no_expr looks passed whole waits = absurd passed

    -- ---- what is kept tells no less than the mark before the loop

    over_knows : Knows way here top m over
    over_knows = record {
      slots = λ s l. get_other m.slots (top + 2) s space (λ e. omega (arith, e, l));
      long = length-set m.slots (top + 2) space;
      facts = λ f a. a;
      fixed = refl;
    }

    over_narrower : Narrower over.slots m.slots
    over_narrower = narrow_set m.slots m.slots (top + 2) space (narrow_itself m.slots) (inl (r.free (top + 2) (omega arith) hi))

    one_narrower : (place : ℕ) (p : StaticType) (e : Expression) (o : Mark) → Narrower o.slots m.slots → (is_fixed i e ≡ true → kept here place < slots) →
        Narrower (kept_one way here i place p e o).slots m.slots
    one_narrower place p e o narrow there = of (is_fixed i e) refl
      where
        of : (b : Bool) → is_fixed i e ≡ b → Narrower (cond b (keeping way here (kept here place) p e o) o).slots m.slots
        of true fixed = let l = there fixed in narrow_set o.slots m.slots (kept here place) (kept_shape way here p e) narrow (inl (r.free (kept here place) (omega arith) (omega (arith, l, room))))
        of false varies = narrow

    all_narrower : (place : ℕ) (ps : List StaticType) (es : Expressions) (o : Mark) → Narrower o.slots m.slots → HaveRoom way here i place ps es slots →
        Narrower (all_kept way here i place ps es o).slots m.slots
    all_narrower place [] es o narrow there = narrow
    all_narrower place (p ∷ ps) no_expr o narrow there = narrow
    all_narrower place (p ∷ ps) (an_expr e es) o narrow there =
        all_narrower (suc place) ps es (kept_one way here i place p e o) (one_narrower place p e o narrow there.0) there.1

    -- ---- the launch

    module _ (task : Name) (es : Expressions) (is : IsCallable forms here task es)
        (passed : ArePassed forms here (params_at here.tree here.scope (task_named here.tree task) es) (param_types here.tree (task_named here.tree task)) es)
        (whole : Asks forms.keeps (are_whole_arguments true here (param_types here.tree (task_named here.tree task)) es)) (told : ToldCall way here.tree here.scope task es)
        (looks : AreForms seen i (params_of here.tree task) 0 es) where
      abbrev callee : TaskTree
      callee = task_named here.tree task

      abbrev place : ℕ
      place = place_of_task here.tree task

      abbrev given : List StaticType
      given = params_at here.tree here.scope callee es

      abbrev types : List StaticType
      types = param_types here.tree callee

      abbrev last : Mark
      last = all_kept way here i 0 types es over

      -- with what the round's call hands over it may be made, and so with what is alike
      alike_opens : (x : World) (us zs : List Value) (y : World) → Are y (all_handed way here types es) us → AllAlike us zs →
          OpensWith g t x place (task_code here.tree callee) us → OpensWith g t x place (task_code here.tree callee) zs
      alike_opens x us zs y are like opens = of asked.hands
        where
          of : Hands forms t way here.tree → OpensWith g t x place (task_code here.tree callee) zs
          of (hands_none none unkept wholly) =
              let worths = passed_worth forms none here given types es passed whole in
              subst (OpensWith g t x place (task_code here.tree callee))
              (same_worths y types us zs worths (subst (λ ss. Are y ss us) (worths_handed forms way here types es worths (passed_many forms here given types es passed)) are) like) opens
          of (hands_taken tops mine taking by e1 e2 e3 e4 e5 e6) =
              opens_alike g t here.tree tops mine callee (subst (λ v. Known v g here.tree) by asked.known) place is.0 x us zs like opens

      opens_each : HaveRoom way here i 0 types es slots → OpensEach g t (stacked last []) place (task_code here.tree callee) (args_of here i 0 es)
      opens_each there =
          let call = call_opens g t k slots forms way here round asked task given es [] is passed whole told in
          let knows = knows_then way here top (kept here 0) m over last (omega arith) over_knows (all_knows way here i 0 types es over) in
          let waits = are_kept way here i 0 types es over (subst (HaveRoom way here i 0 types es) (sym (over_knows.long ∙ room)) there) in (
            call.0,
            λ x vs st ws colour roots s small e.
                let now : Suits x t.params (stacked last []) vs [] = record { slots = s.slots; stack = are_none; facts = s.facts; top = tt; args = s.args } in
                let before = narrow_into t.params last m (all_narrower 0 types es over over_narrower there) (fewer_facts m.facts last.facts knows.facts) x vs [] now in
                let values = all_given g t k slots forms way w i kind line m r ep hi asked t1 last x vs colour small before now 0 given types (params_of here.tree task) es ws looks passed whole waits e in
                let frame = rounds.frame g t k way w.params w.scope.names m r ep hi vs colour in
                let suits = rounds.round_suits g t k way w.params w.scope.names m r ep hi x vs colour small before in
                alike_opens x values.are ws (around x round frame) values.of values.like
                (call.1 x frame (pushed values.are []) values.are roots (suits_pushed x t.params round (all_handed way here types es) frame values.are suits values.of) values.of),
          )

      pub launched : (pc : ℕ) → Stands t.body pc (launch_code w here i (beside w (new_place w)) (record { line = line; task = task; args = es })) →
          Marked g t k (stacked over []) (launch_code w here i (beside w (new_place w)) (record { line = line; task = task; args = es })) (stacked m [])
      launched pc st =
          let there = have_room g t k slots have forms way w i kind line m r ep hi asked t1 0 given types es passed pc st.0 in
          let first = all_knows way here i 0 types es over in
          let knows = knows_then way here top (kept here 0) m over last (omega arith) over_knows first in
          let waits = are_kept way here i 0 types es over (subst (HaveRoom way here i 0 types es) (sym (over_knows.long ∙ room)) there) in
          let narrow = all_narrower 0 types es over over_narrower there in
          both g t k (all_put g t k slots have forms way w i kind line m r ep hi asked t1 (params_of here.tree task) 0 given types es over looks passed whole (record {
            knows = over_knows;
            steady = λ s l. behind_kept way w.params w.scope.names m s r (omega (arith, l));
            stand = λ ss. steady_stand w.params (length w.scope.names) (loops_in way w.scope.names) ss m.facts r.facts;
            long = over_knows.long ∙ room;
          }) pc st.0)
          (into g t k (record {
            marks = _;
            is = typed_op (stacked last []) (stacked last []) (instr.Launch place (top + 2) line (args_of here i 0 es)) w.line
                (leads_launching (stacked last []) place (top + 2) line (args_of here i 0 es) (task_code here.tree callee)
                (ap (λ c. slice_get c.tasks place) asked.known.code ∙ code_there here.tree task is.0)
                (sym (types_many here.tree callee) ∙ passed_many forms here given types es passed ∙ sym (args_long here i 0 es)) (some_body here.tree callee)
                (first.slots (top + 2) (omega arith) ∙ get_set m.slots (top + 2) space hi)
                (all_have last knows 0 given types (params_of here.tree task) es looks passed whole waits) (opens_each there));
          }) (narrow_into t.params last m narrow (fewer_facts m.facts last.facts knows.facts)) (sym (narrow_long _ _ narrow)))
