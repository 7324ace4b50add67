-- The code of blocks has marks.
use Rattle.std.proofs.Common.{inl, ⊎_elim, ℕ, ◌<◌, [], ◌∷◌, true, ◌&&◌, Some, None, refl, sym, ap, ◌∙◌, subst, arith, suc}
use Rattle.std.specs.Prelude.{length}
use Rattle.regent_tree.specs.declared.statement.How.TheVariants as how
use Rattle.regent_tree.specs.declared.typing.Bound.{Bound}
use Rattle.regent_tree.specs.Syntax.{no_step, field_step, at_step, plain_initializer, a_statement, Form, var_form, if_form, while_form, for_in_form, for_to_form, do_form, fill_form, call_form, assert_form, print_form, assign_form, return_form, Block, no_statement, then_statement, Arms, no_arm, an_arm, Otherwise, no_else, else_block}
use Rattle.regent_tree.specs.Typing.{arithmetic_type, scope_after, scope_after_block, scope_after_else, owned, taken_from, var_type}
use Rattle.task_code.specs.declared.code.TaskCode.{TaskCode}
use Rattle.task_code.specs.declared.instr.Instr.TheVariants as instr
use Rattle.code_rules.specs.Initializers.{new_place}
use Rattle.code_rules.specs.Pieces.{Piece}
use Rattle.code_rules.specs.Slots.{Where, typed, bound, beside, slot_named}
use Rattle.code_rules.specs.Statements.{on_line, looping, after_form, after_arm, after_arms, form_code, arms_code, else_code, block_code}
use Rattle.code_laws.specs.Standing.{Stands}
use Rattle.code_laws.proofs.Names.{arms_names, else_names}
use Rattle.fit_rules.specs.Shapes.{integer, Is}
use Rattle.fit_rules.specs.Marks.{Mark, stacked}
use Rattle.fit_rules.specs.Fits.{Program}
use Rattle.code_laws.proofs.Told.{arms_grow, block_grows, else_grows}
use Rattle.code_laws.specs.Steps.{Forms}
use Rattle.code_laws.specs.Pointers.{BeginsWith}
use Rattle.code_laws.specs.Typed.{IsIndexed, IsKeepable, IsTyped, element_field, IsTypedForm, AreTypedArms, IsTypedElse, IsTypedBlock}
use Rattle.marked_code.specs.Marked.{leads_nowhere, typed_op}
use Rattle.code_laws.proofs.Wider.{any_field, assigned, counting, zeroed}
use Rattle.regent_tree.specs.Syntax.{call_expr}
use Rattle.code_rules.proofs.KeptCalls.{kept_either}
use Rattle.code_rules.specs.Initializers.{new_place}
use Rattle.code_rules.specs.Instructions.{keeps_number}
use Rattle.code_rules.specs.Slots.{slot}
use Rattle.code_rules.specs.Statements.{begun_form, put_call}
use Rattle.std.proofs.Common.{◌≡◌, true}
use Rattle.sound_code.proofs.Copies.{begun_called}
use Rattle.sound_code.proofs.Saying.{said_called}
use Rattle.sound_code.proofs.Placing.{named_as}
use Rattle.sound_code.proofs.SlotShapes.{partition_plain, pointer_plain, region_plain, slot_bare, slot_is, slot_numbered, slot_plain}
use Rattle.sound_code.specs.Named.{name_shape, slot_shape}
use Rattle.sound_code.specs.Named.{HasPartBeside, HasSlots, loops_in}
use Rattle.regent_tree.specs.Scopes.{past}
use Rattle.regent_tree.specs.Typing.{scope_after_arms}
use Rattle.regent_tree.specs.declared.rights.Access.TheVariants as access
use Rattle.check_rules.specs.types.Parts.{tests_of}
use Rattle.check_laws.specs.MeantVisits.{meant_in_arms, meant_in_else, meant_within}
use Rattle.sound_code.proofs.WholeTasks.{is_value, are_whole_arms, is_whole_block, is_whole_else, is_whole_expression, is_whole_form}
use Rattle.sound_code.specs.Ways.{Way, shape_in, shape_of}
use Rattle.sound_code.proofs.Wholes.{Asks, asks_first, asks_second, assigned_becomes, begun_whole, field_few, set_worth, worth_named, worth_numbered, worth_simple, zero_worth}
use Rattle.sound_code.proofs.SaidWholes.{said_whole}
use Rattle.sound_code.proofs.Scoped.{Scoped}
use Rattle.sound_code.proofs.ScopedNames.{scoped_bound, simple_scoped, zero_scoped}
use Rattle.sound_code.proofs.Pointing.{reduce_behind_marked, set_behind_marked}
use Rattle.sound_code.proofs.Copies.{begun_marked}
use Rattle.sound_code.proofs.CutForms.{minus_marked, minus_said}
use Rattle.sound_code.proofs.Saying.{said_marked}
use Rattle.sound_code.proofs.Pieces.{piece_marked, piece_said}
use Rattle.sound_code.proofs.Started.{said_started, started}
use Rattle.sound_code.proofs.Cuts.{cut_plain, cut_same}
use Rattle.sound_code.proofs.NoCuts.{worth_no_partition}
use Rattle.sound_code.proofs.Bindings.{parts_told, widens}
use Rattle.sound_code.proofs.Taken.{looped_parts}
use Rattle.sound_code.proofs.Besides.{written_no_child}
use Rattle.sound_code.proofs.Behind.{BeginsSo, after_arms_ground, after_block_ground, after_form_ground, counted_simple}
use Rattle.sound_code.proofs.Grounds.{facts_among}
use Rattle.sound_code.proofs.Grown.{ground_block, ground_looping}
use Rattle.sound_code.proofs.Steady.{steady_below}
use Rattle.sound_code.proofs.Told.{ToldAll, ToldBlock, ToldForm, ToldList, told_arms, told_call_form, told_first, told_head, told_heads, told_listed, told_statement}
use Rattle.sound_code.proofs.Wanting.{may_reduce, may_write, told_index}
use Rattle.sound_code.proofs.Asked.{begins_under, begins_wholly, Asked, same_names, UpTo, upto_before, upto_inner}
use Rattle.sound_code.proofs.Calling.{scalar_numeric}
use Rattle.sound_code.proofs.Combining.{Marked, nothing_done, both, into}
use Rattle.sound_code.proofs.Elements.{reduces, writes}
use Rattle.sound_code.proofs.Expressions.{converted_marked, integer_is_plain, named_at, region_named, stored, touched}
use Rattle.sound_code.proofs.Filling.{fill_marked}
use Rattle.sound_code.proofs.Folds.{folded}
use Rattle.sound_code.proofs.FurtherTargets.{behind_reduced, behind_set, point_reduced, point_set}
use Rattle.sound_code.proofs.PartTargets.{part_reduced, part_reduced_further, part_set, part_set_further}
use Rattle.sound_code.proofs.LoopCode.{asked_inside, loop_marked, round}
use Rattle.sound_code.proofs.Loops as numbers
use Rattle.sound_code.proofs.Narrowing.{narrow_itself, narrow_then, narrow_long, narrow_into, fewer_facts}
use Rattle.sound_code.proofs.Prints.{print_marked}
use Rattle.sound_code.proofs.Rounds.{long_round, round_narrow, round_ready}
use Rattle.sound_code.proofs.Stops.{asked_in, FollowedBlock, joined, more_then, on_the_line, stops_both}
use Rattle.sound_code.proofs.Statements.{begin_marked, Followed, new_name, unchanged, value_marked, bind_marked, assign_marked, return_marked, assert_marked, call_marked, closed_block, while_marked, branch_marked}
use Rattle.sound_code.proofs.Looping.{may_store}

module _ (g : Program) (t : TaskCode) (k slots : ℕ) (have : HasSlots t slots) (forms : Forms) (way : Way) where
  -- what is asked of a place
  abbrev At : Where → Mark → Type 0
  At w m = Asked g t k slots forms way w m

  -- how regions begin
  beginning_at : (w : Where) (m : Mark) → At w m → BeginsSo forms t way w
  beginning_at w m a = (
    λ i b. begins_wholly forms t way w.tree i a.hands b,
    λ keeps i r b l. begins_under forms t way w.tree w.params i r a.params keeps a.hands b l,
  )

  mutual
    pub form_marked : (w : Where) (m : Mark) (form : Form) → IsTypedForm forms w form → Asks forms.keeps (is_whole_form true w form) → At w m → ToldForm way w.tree w.scope form →
        ToldAll way w.tree (λ task. meant_within w.tree task w.scope form) → UpTo way w.tree (scope_after w.tree w.scope form) → (pc : ℕ) →
        Stands t.body pc (form_code w form) → Followed g t k forms.keeps way w.tree w.params (after_form w form).scope.names m (form_code w form)
    form_marked w m (var_form x None (Some (plain_initializer e))) f whole a told within up pc st =
        kept_either (λ p. Stands t.body pc p → Followed g t k forms.keeps way w.tree w.params (after_form w (var_form x None (Some (plain_initializer e)))).scope.names m p)
        w (slot w (new_place w)) (begun_form w None (Some (plain_initializer e)))
        (λ st.
        ⊎_elim (λ (begun : (IsKeepable forms.keeps w e × IsTyped forms w e) × Asks forms.keeps (is_value true (owned w.scope.next (typed w e)) && is_whole_expression true w e)).
        begun_marked g t k slots have forms way w m a x e told begun.0.0 begun.0.1 begun.1 pc st)
        (λ d. ⊎_elim (λ minus. minus_marked g t k slots have forms way w m a x e told d.0 minus (stored g t k slots have forms way w m a _ _ st.1))
        (λ part. piece_marked g t k slots have forms way w m a x e told up d.0 part.0 part.1 pc st (stored g t k slots have forms way w m a _ _ st.1)) d.1)
        (begun_whole forms.keeps forms.takes w e (is_whole_expression true w e) (IsTyped forms w e) (IsIndexed forms w e) f whole)) (var_type w.tree w.scope None (Some (plain_initializer e))) e
        (λ task args is keeps. subst (λ e. IsTypedForm forms w (var_form x None (Some (plain_initializer e))) → Asks forms.keeps (is_whole_form true w (var_form x None (Some (plain_initializer e)))) →
        ToldForm way w.tree w.scope (var_form x None (Some (plain_initializer e))) →
        keeps_number (typed w (call_expr task args)) (var_type w.tree w.scope None (Some (plain_initializer e))) ≡ true → Stands t.body pc (put_call w (slot w (new_place w)) task args) →
        Followed g t k forms.keeps way w.tree w.params (after_form w (var_form x None (Some (plain_initializer e)))).scope.names m (put_call w (slot w (new_place w)) task args)) (sym is)
        (λ f whole told keeps st. ⊎_elim (λ (begun : (IsKeepable forms.keeps w (call_expr task args) × IsTyped forms w (call_expr task args))
        × Asks forms.keeps (is_value true (owned w.scope.next (typed w (call_expr task args))) && is_whole_expression true w (call_expr task args))).
        begun_called g t k slots have forms way w m a x task args told begun.0.0 begun.0.1 begun.1 keeps pc st)
        (λ d. ⊎_elim (λ minus. absurd minus) (λ part. absurd part.0) d.1)
        (begun_whole forms.keeps forms.takes w (call_expr task args) (is_whole_expression true w (call_expr task args)) (IsTyped forms w (call_expr task args)) (IsIndexed forms w (call_expr task args)) f whole)) f whole told keeps) st
    form_marked w m (var_form x (Some term) (Some (plain_initializer e))) f whole a told within up pc st =
        kept_either (λ p. Stands t.body pc p → Followed g t k forms.keeps way w.tree w.params (after_form w (var_form x (Some term) (Some (plain_initializer e)))).scope.names m p)
        w (slot w (new_place w)) (begun_form w (Some term) (Some (plain_initializer e)))
        (λ st.
        let u = var_type w.tree w.scope (Some term) (Some (plain_initializer e)) in
        ⊎_elim
        (λ (b : (BeginsWith forms.keeps w.scope.names (typed w e) u × IsTyped forms w e) × Asks forms.keeps (is_value true u && is_whole_expression true w e)).
        said_marked g t k slots have forms way w m a x term e b.0.0 b.0.1 b.1 told pc st)
        (λ d. ⊎_elim (λ minus. minus_said g t k slots have forms way w m a x term e told d.0 minus d.2 (stored g t k slots have forms way w m a _ _ st.1))
        (λ part. piece_said g t k slots have forms way w m a x term e told up d.0 part.0 part.1 d.2 pc st (stored g t k slots have forms way w m a _ _ st.1)) d.1)
        (said_whole forms.keeps forms.takes w e u (is_whole_expression true w e) (IsTyped forms w e) (IsIndexed forms w e) f whole)) (var_type w.tree w.scope (Some term) (Some (plain_initializer e))) e
        (λ task args is keeps. subst (λ e. IsTypedForm forms w (var_form x (Some term) (Some (plain_initializer e))) → Asks forms.keeps (is_whole_form true w (var_form x (Some term) (Some (plain_initializer e)))) →
        ToldForm way w.tree w.scope (var_form x (Some term) (Some (plain_initializer e))) →
        keeps_number (typed w (call_expr task args)) (var_type w.tree w.scope (Some term) (Some (plain_initializer e))) ≡ true → Stands t.body pc (put_call w (slot w (new_place w)) task args) →
        Followed g t k forms.keeps way w.tree w.params (after_form w (var_form x (Some term) (Some (plain_initializer e)))).scope.names m (put_call w (slot w (new_place w)) task args)) (sym is)
        (λ f whole told keeps st. let u = var_type w.tree w.scope (Some term) (Some (plain_initializer (call_expr task args))) in
        ⊎_elim
        (λ (b : (BeginsWith forms.keeps w.scope.names (typed w (call_expr task args)) u × IsTyped forms w (call_expr task args))
        × Asks forms.keeps (is_value true u && is_whole_expression true w (call_expr task args))).
        said_called g t k slots have forms way w m a x term task args b.0.0 b.0.1 b.1 told keeps pc st)
        (λ d. ⊎_elim (λ minus. absurd minus) (λ part. absurd part.0) d.1)
        (said_whole forms.keeps forms.takes w (call_expr task args) u (is_whole_expression true w (call_expr task args)) (IsTyped forms w (call_expr task args)) (IsIndexed forms w (call_expr task args)) f whole)) f whole told keeps) st
    form_marked w m (var_form x (Some term) None) f whole a told within up pc st =
        let u = var_type w.tree w.scope (Some term) None in
        let zero = zeroed forms.keeps w.scope.names u f in
        let is = zero_worth forms.keeps w.scope.names u f whole in
        let b = new_name g t k slots have forms way w m a x u in
        bind_marked g t k slots have forms way w m a x (shape_of u) u _ (λ x v. subst (λ s. Is x s v) (sym (worth_named way w.params u is)))
        (worth_numbered way w.params (b ∷ w.scope.names) u is)
        (scoped_bound forms.keeps way w.tree w.scope (var_form x (Some term) None) b refl told a.scoped (λ all. zero_scoped w.scope.names w.scope.next u zero))
        (cut_plain forms.keeps way w.tree w.scope (var_form x (Some term) None) b w.params m.facts m.facts refl told (λ l h. h) a.cut (worth_no_partition u is))
        (written_no_child w.tree w.scope w.scope.next term)
        (begin_marked g t k slots have forms way w m a u zero)
        (stored g t k slots have forms way w m a _ _ st.1)
    form_marked w m (if_form arms other) f whole a told within up pc st = record {
      next = m;
      is = arms_marked w w m arms (else_code (after_arms w arms) other) f.0 (asks_first _ _ _ whole) a a (told_heads w.tree w.scope way (if_form arms other) told)
          (parts_told w.tree way w.scope arms other within).0 (upto_before way w.tree _ _ (else_grows w.tree (scope_after_arms w.tree w.scope arms) other) up) pc st
          (λ q s. else_marked (after_arms w arms) m other f.1 (asks_second _ _ _ whole)
          (asked_in g t k slots forms way w m (scope_after_arms w.tree w.scope arms) (arms_names w.tree w.scope arms)
          (after_arms_ground forms t way w w arms f.0 (asks_first _ _ _ whole) (beginning_at w m a) a.ground)
          (upto_before way w.tree _ _ (else_grows w.tree (scope_after_arms w.tree w.scope arms) other) up) a) (parts_told w.tree way w.scope arms other within).1 up q s);
      ready = same_names way w.params _ _ m
          (sym (else_names w.tree (after_arms w arms).scope other ∙ arms_names w.tree w.scope arms)) a.ready;
      narrower = narrow_itself m.slots;
      facts = λ l h. h;
      new = λ l h. inl h;
      cut = cut_same forms.keeps way w.tree w.params m.facts _ _ (sym (else_names w.tree (after_arms w arms).scope other ∙ arms_names w.tree w.scope arms)) a.cut;
      scoped = subst (Scoped forms.keeps way) (sym (else_names w.tree (after_arms w arms).scope other ∙ arms_names w.tree w.scope arms)) a.scoped;
    }
    form_marked w m (while_form test body) f whole a told within up pc st = unchanged g t k forms.keeps way w.tree _ _ m _ a.ready a.scoped a.cut
        (while_marked g t k slots have forms way w m a test (block_code w body) f.0 f.1 (asks_first _ _ _ whole)
        (told_head w.tree w.scope way (while_form test body) test refl told) _ st.3
        (closed_block g t k forms.keeps way w.tree _ _ m _ (block_marked w m body f.2 (asks_second _ _ _ whole) a within (upto_inner way w.tree w.scope _ up) _ st.2).done))
    form_marked w m (for_to_form demanded x from to body) f whole a told within up pc st =
        let u = typed w from in
        let v = typed w to in
        let wd = widens u v f.0 f.1 in
        let rest = asks_second forms.keeps _ (is_whole_expression true w to && is_whole_block true (looping w x (arithmetic_type u v)) body) whole in
        let bs = w.scope.names in
        let i = integer wd.width in
        let b : Bound = record {
          name = x;
          number = w.scope.next;
          place = length bs;
          static_type = arithmetic_type u v;
          by_loop = true;
        } in
        let hi : beside w (new_place w) < length m.slots = stored g t k slots have forms way w m a _ _ st.1.1.0 in
        let lw = looping w x (arithmetic_type u v) in
        let end = upto_inner way w.tree w.scope (scope_after_block w.tree lw.scope body) up in
        let rm = numbers.round g t k way w.params bs m a.ready a.params wd.width hi in
        let hm = numbers.head g t k way w.params bs m a.ready a.params wd.width hi in
        let inner = block_marked lw rm body f.4 (asks_second _ _ _ rest) (record {
          hands = a.hands;
          ready = round_ready way w.params bs m a.ready i i i m.facts hi b refl (ap (shape_in way w.params) wd.is) tt tt tt
              (steady_below w.params (length bs) (suc (length bs)) (loops_in way bs) (loops_in way bs) m.facts (omega arith) (λ c h. h) a.ready.facts)
              (subst (HasPartBeside way w.params rm.slots bs (length bs)) (sym wd.is) tt);
          params = a.params;
          result = a.result;
          room = long_round way w.params bs m a.ready i i i m.facts hi ∙ a.room;
          known = a.known;
          ground = ground_looping t w.tree w.params way w.scope x (arithmetic_type u v) (worth_simple _ (counted_simple u v f.0 f.1)) a.ground;
          facts = a.facts;
          ruled = a.ruled;
          scoped = scoped_bound forms.keeps way w.tree w.scope (for_to_form demanded x from to body) b refl told a.scoped
              (λ all. simple_scoped w.scope.names w.scope.next (arithmetic_type u v) (counted_simple u v f.0 f.1));
          cut = cut_plain forms.keeps way w.tree w.scope (for_to_form demanded x from to body) b w.params m.facts m.facts refl told (λ l h. h) a.cut
              (worth_no_partition _ (worth_simple _ (counted_simple u v f.0 f.1)));
          upto = upto_before way w.tree _ _ (block_grows w.tree lw.scope body) end;
        }) within end _ st.1.1.1.1.1 in
        let first = told_first w.tree w.scope way from (to ∷ []) (told_heads w.tree w.scope way (for_to_form demanded x from to body) told) in
        let second = told_first w.tree w.scope way to [] first.1 in
        let narrow = narrow_then _ _ _ inner.done.narrower (round_narrow way w.params bs m a.ready i i i m.facts hi) in
        unchanged g t k forms.keeps way w.tree _ _ m _ a.ready a.scoped a.cut
        (both g t k (value_marked g t k slots have forms way w m a from [] f.2 (asks_first _ _ _ whole) first.0 pc st.0)
        (both g t k (value_marked g t k slots have forms way w m a to (shape_of u ∷ []) f.3 (asks_first _ _ _ rest) second.0 _ st.1.0)
        (numbers.counted g t k way w.params bs m a.ready a.params wd.width hi (shape_of u) (shape_of v) w.line
        (block_code lw body) wd.left wd.right
        (into g t k inner.done.is (narrow_into t.params inner.done.next hm narrow (fewer_facts m.facts inner.done.next.facts inner.done.facts)) (sym (narrow_long _ _ narrow))))))
    form_marked w m (for_in_form demanded x domain body) looped whole a told within up pc st =
        let u = typed w domain in
        let f = looped_parts forms.keeps w domain _ _ _ looped in
        let lw = looping w x (taken_from u) in
        let hi : beside w (new_place w) < length m.slots = stored g t k slots have forms way w m a _ _ st.1.0 in
        let end = upto_inner way w.tree w.scope (scope_after_block w.tree lw.scope body) up in
        let upto = upto_before way w.tree _ _ (block_grows w.tree lw.scope body) end in
        unchanged g t k forms.keeps way w.tree _ _ m _ a.ready a.scoped a.cut
        (loop_marked g t k slots have forms way w m a hi x demanded domain body f.0 f.1 whole told within upto
        (λ tk q s. block_marked lw (round g t k slots have forms way w m a hi x u tk) body f.1 (asks_second _ _ _ whole)
        (asked_inside g t k slots have forms way w m a hi x demanded domain body f.0 f.1 whole told within upto tk) within end q s) pc st)
    form_marked w m (do_form body) f whole a told within up pc st = unchanged g t k forms.keeps way w.tree _ _ m _ a.ready a.scoped a.cut
        (closed_block g t k forms.keeps way w.tree _ _ m _ (block_marked w m body f whole a within (upto_inner way w.tree w.scope _ up) pc st).done)
    form_marked w m (fill_form r fields e) f whole a told within up pc st = fill_marked g t k slots have forms way w m a r fields e f.0 whole told f.1 f.2 f.3 pc st
    form_marked w m (call_form task args) f whole a told within up pc st = call_marked g t k slots have forms way w m a task args f.1 f.2 whole (told_call_form w.tree w.scope way task args told)
        (told_listed w.tree w.scope way args (told_heads w.tree w.scope way (call_form task args) told)) pc st
    form_marked w m (assert_form e) f whole a told within up pc st = assert_marked g t k slots have forms way w m a e f.0 f.1 whole
        (told_head w.tree w.scope way (assert_form e) e refl told) pc st.0
    form_marked w m (print_form alias format args) f whole a told within up pc st = print_marked g t k slots have forms way w m a alias format args f.0 whole
        (told_listed w.tree w.scope way args (told_heads w.tree w.scope way (print_form alias format args) told)) f.1 pc st
    form_marked w m (assign_form x no_step how.Set e) f whole a told within up pc st =
        assign_marked g t k slots have forms way w m a x e (assigned_becomes _ _ (assigned forms.keeps _ _ f.0)) (set_worth forms.keeps _ _ f.0 (asks_first _ _ _ whole)) f.1 (asks_second _ _ _ whole)
        (told_head w.tree w.scope way (assign_form x no_step how.Set e) e refl told) f.2 (may_store way w.tree w.scope x how.Set e told f.2) pc st
    form_marked w m (assign_form x no_step (how.Reduce o) e) f whole a told within up pc st =
        unchanged g t k forms.keeps way w.tree _ _ m _ a.ready a.scoped a.cut (both g t k (value_marked g t k slots have forms way w m a e [] f.2 (asks_second _ _ _ whole)
        (told_head w.tree w.scope way (assign_form x no_step (how.Reduce o) e) e refl told) pc st.0)
        (folded g t k slots have forms way w m x o (shape_of (typed w e)) (bound w x).static_type refl (scalar_numeric _ (integer_is_plain _ f.0)) f.1 f.3 (may_store way w.tree w.scope x (how.Reduce o) e told f.3) a _ st.1))
    form_marked w m (assign_form x (at_step e (field_step l no_step)) how.Set y) f whole a told within up pc st =
        let field = any_field forms.keeps w x l _ f.5 in
        let number = counting forms.keeps _ f.3 in
        let one = asks_first forms.keeps (is_whole_expression true w e) _ whole in
        let two = asks_second forms.keeps _ (is_whole_expression true w y) whole in
        let goes = assigned_becomes _ _ (assigned forms.keeps _ _ f.0) in
        let out = element_field w x e l in
        let u = (bound w x).static_type in
        let here = named_as way w.params m.slots w.scope.names x a.ready.named field.named (region_plain way w.params _ field.region) in
        unchanged g t k forms.keeps way w.tree _ _ m _ a.ready a.scoped a.cut
        (both g t k (both g t k (value_marked g t k slots have forms way w m a y [] f.1 two
        (told_head w.tree w.scope way (assign_form x (at_step e (field_step l no_step)) how.Set y) y refl told) pc st.0.0)
        (converted_marked g t k slots have forms way w m a _ _ [] goes (field_few _ _ _ field.keeps)))
        (writes g t k way w m a.known u (bound w x).place e l out [] field.region (region_named way w.params m (slot_named w x) u field.region here) number f.4 field.keeps
        (touched g t k slots have forms way w m a x l _ access.Write field (may_write w x e l number field.region t way a.ground y told))
        (λ q s. value_marked g t k slots have forms way w m a e (shape_of out ∷ []) f.2 one
        (told_index w x e l number field.region t way a.ground how.Set y told) q s) _ st.1))
    form_marked w m (assign_form x (at_step e (field_step l no_step)) (how.Reduce o) y) f whole a told within up pc st =
        let field = any_field forms.keeps w x l _ f.6 in
        let number = counting forms.keeps _ f.4 in
        let one = asks_first forms.keeps (is_whole_expression true w e) _ whole in
        let two = asks_second forms.keeps _ (is_whole_expression true w y) whole in
        let out = element_field w x e l in
        let u = (bound w x).static_type in
        let here = named_as way w.params m.slots w.scope.names x a.ready.named field.named (region_plain way w.params _ field.region) in
        unchanged g t k forms.keeps way w.tree _ _ m _ a.ready a.scoped a.cut
        (both g t k (value_marked g t k slots have forms way w m a y [] f.2 two
        (told_head w.tree w.scope way (assign_form x (at_step e (field_step l no_step)) (how.Reduce o) y) y refl told) pc st.0)
        (reduces g t k way w m a.known u (bound w x).place e l out [] field.region (region_named way w.params m (slot_named w x) u field.region here) number f.5 field.keeps
        o (shape_of (typed w y)) (scalar_numeric _ (integer_is_plain _ f.0)) f.1
        (touched g t k slots have forms way w m a x l _ (access.Reduce o) field (may_reduce w x e l number field.region t way a.ground o y told))
        (λ q s. value_marked g t k slots have forms way w m a e (shape_of (typed w y) ∷ []) f.3 one
        (told_index w x e l number field.region t way a.ground (how.Reduce o) y told) q s) _ st.1))
    form_marked w m (return_form None) f whole a told within up pc st = unchanged g t k forms.keeps way w.tree _ _ m _ a.ready a.scoped a.cut (record {
      marks = _;
      is = typed_op (stacked m []) (stacked m []) instr.Return w.line (leads_nowhere _ _ refl);
    })
    form_marked w m (return_form (Some e)) f whole a told within up pc st = return_marked g t k slots have forms way w m a e f.0 f.1 whole
        (told_head w.tree w.scope way (return_form (Some e)) e refl told) pc st.0
    form_marked w m (assign_form x (field_step l no_step) how.Set y) f whole a told within up pc st = unchanged g t k forms.keeps way w.tree _ _ m _ a.ready a.scoped a.cut
        (both g t k (both g t k (value_marked g t k slots have forms way w m a y [] f.2 whole
        (told_head w.tree w.scope way (assign_form x (field_step l no_step) how.Set y) y refl told) pc st.0.0)
        (converted_marked g t k slots have forms way w m a _ _ [] (assigned_becomes _ _ f.1) (field_few _ _ _ (f.3).keeps)))
        (set_behind_marked g t k slots forms way w m a x l y f.0 f.3 told))
    form_marked w m (assign_form x (field_step l no_step) (how.Reduce o) y) f whole a told within up pc st = unchanged g t k forms.keeps way w.tree _ _ m _ a.ready a.scoped a.cut
        (both g t k (value_marked g t k slots have forms way w m a y [] f.3 whole
        (told_head w.tree w.scope way (assign_form x (field_step l no_step) (how.Reduce o) y) y refl told) pc st.0)
        (reduce_behind_marked g t k slots forms way w m a x l o y (shape_of (typed w y)) f.0 (scalar_numeric _ (integer_is_plain _ f.1)) f.2 f.4 told))
    form_marked w m (var_form x None (Some start)) f whole a told within up pc st = started g t k slots have forms way w m a x start f whole told pc st
    form_marked w m (var_form x (Some said) (Some start)) f whole a told within up pc st =
        said_started g t k slots have forms way w m a x said start f.1 f.2 whole told pc st
    form_marked w m (assign_form x (field_step l (field_step e rest)) how.Set y) f whole a told within up pc st = unchanged g t k forms.keeps way w.tree _ _ m _ a.ready a.scoped a.cut
        (behind_set g t k slots have forms way w m a f.0 x l e rest y f whole (told_head w.tree w.scope way (assign_form x (field_step l (field_step e rest)) how.Set y) y refl told) told pc st)
    form_marked w m (assign_form x (field_step l (field_step e rest)) (how.Reduce o) y) f whole a told within up pc st = unchanged g t k forms.keeps way w.tree _ _ m _ a.ready a.scoped a.cut
        (behind_reduced g t k slots have forms way w m a f.0 x l e rest o y f whole (told_head w.tree w.scope way (assign_form x (field_step l (field_step e rest)) (how.Reduce o) y) y refl told) told pc st)
    form_marked w m (assign_form x (at_step i (field_step l (field_step e rest))) how.Set y) f whole a told within up pc st = unchanged g t k forms.keeps way w.tree _ _ m _ a.ready a.scoped a.cut
        (point_set g t k slots have forms way w m a f.0 x i l e rest y f (asks_first _ _ _ whole) (asks_second _ _ _ whole) (told_head w.tree w.scope way (assign_form x (at_step i (field_step l (field_step e rest))) how.Set y) y refl told) told pc st)
    form_marked w m (assign_form x (at_step i (field_step l (field_step e rest))) (how.Reduce o) y) f whole a told within up pc st = unchanged g t k forms.keeps way w.tree _ _ m _ a.ready a.scoped a.cut
        (point_reduced g t k slots have forms way w m a f.0 x i l e rest o y f (asks_first _ _ _ whole) (asks_second _ _ _ whole) (told_head w.tree w.scope way (assign_form x (at_step i (field_step l (field_step e rest))) (how.Reduce o) y) y refl told) told pc st)
    form_marked w m (assign_form x (at_step e (at_step i (field_step l no_step))) how.Set y) f whole a told within up pc st = unchanged g t k forms.keeps way w.tree _ _ m _ a.ready a.scoped a.cut
        (part_set g t k slots have forms way w m a f.0 x e i l y f (asks_first _ _ _ whole) (asks_second _ _ _ whole) (told_head w.tree w.scope way (assign_form x (at_step e (at_step i (field_step l no_step))) how.Set y) y refl told) told pc st)
    form_marked w m (assign_form x (at_step e (at_step i (field_step l no_step))) (how.Reduce o) y) f whole a told within up pc st = unchanged g t k forms.keeps way w.tree _ _ m _ a.ready a.scoped a.cut
        (part_reduced g t k slots have forms way w m a f.0 x e i l o y f (asks_first _ _ _ whole) (asks_second _ _ _ whole) (told_head w.tree w.scope way (assign_form x (at_step e (at_step i (field_step l no_step))) (how.Reduce o) y) y refl told) told pc st)
    form_marked w m (assign_form x (at_step e (at_step i (field_step l (field_step b rest)))) how.Set y) f whole a told within up pc st = unchanged g t k forms.keeps way w.tree _ _ m _ a.ready a.scoped a.cut
        (part_set_further g t k slots have forms way w m a f.0 x e i l b rest y f (asks_first _ _ _ whole) (asks_second _ _ _ whole) (told_head w.tree w.scope way (assign_form x (at_step e (at_step i (field_step l (field_step b rest)))) how.Set y) y refl told) told pc st)
    form_marked w m (assign_form x (at_step e (at_step i (field_step l (field_step b rest)))) (how.Reduce o) y) f whole a told within up pc st = unchanged g t k forms.keeps way w.tree _ _ m _ a.ready a.scoped a.cut
        (part_reduced_further g t k slots have forms way w m a f.0 x e i l b rest o y f (asks_first _ _ _ whole) (asks_second _ _ _ whole) (told_head w.tree w.scope way (assign_form x (at_step e (at_step i (field_step l (field_step b rest)))) (how.Reduce o) y) y refl told) told pc st)
    form_marked w m _ f whole a told within up pc st = absurd f

    arms_marked : (own w : Where) (m : Mark) (arms : Arms) (other : Piece) → AreTypedArms forms own w arms → Asks forms.keeps (are_whole_arms true own w arms) → At own m →
        At w m → ToldList way own.tree own.scope (tests_of arms) → ToldAll way w.tree (λ task. meant_in_arms w.tree task w.scope arms) → UpTo way w.tree (scope_after_arms w.tree w.scope arms) → (pc : ℕ) →
        Stands t.body pc (arms_code own w arms other) →
        ((q : ℕ) → Stands t.body q other → Marked g t k (stacked m []) other (stacked m [])) →
        Marked g t k (stacked m []) (arms_code own w arms other) (stacked m [])
    arms_marked own w m no_arm other f whole o a tests within up pc st more = more pc st
    arms_marked own w m (an_arm test body rest) other f whole o a tests within up pc st more =
        let later = asks_second forms.keeps _ (is_whole_block true w body && are_whole_arms true own (after_arm w body) rest) whole in
        let first = told_first own.tree own.scope way test (tests_of rest) tests in
        let parts = told_arms w.tree way w.scope test body rest within in
        let inner = scope_after_block w.tree w.scope body in
        let behind = upto_before way w.tree (past w.scope inner) _ (arms_grow w.tree (past w.scope inner) rest) up in
        branch_marked g t k slots have forms way own m o w.line test (block_code w body) (arms_code own (after_arm w body) rest other) f.0 f.1 (asks_first _ _ _ whole) first.0 pc st.0
        (closed_block g t k forms.keeps way w.tree _ _ m _ (block_marked w m body f.2 (asks_first _ _ _ later) a parts.0 (upto_inner way w.tree w.scope inner behind) _ st.1.1).done)
        (arms_marked own (after_arm w body) m rest other f.3 (asks_second _ _ _ later) o
        (asked_in g t k slots forms way w m (past w.scope inner) refl
        (ground_block t w.tree w.params way w.scope body a.ground (after_block_ground forms t way w body f.2 (asks_first _ _ _ later) (beginning_at w m a) a.ground)) behind a)
        first.1 parts.1 up _ st.1.3 more)

    else_marked : (w : Where) (m : Mark) (other : Otherwise) → IsTypedElse forms w other → Asks forms.keeps (is_whole_else true w other) → At w m →
        ToldAll way w.tree (λ task. meant_in_else w.tree task w.scope other) → UpTo way w.tree (scope_after_else w.tree w.scope other) → (pc : ℕ) →
        Stands t.body pc (else_code w other) → Marked g t k (stacked m []) (else_code w other) (stacked m [])
    else_marked w m no_else f whole a within up pc st = nothing_done g t k _
    else_marked w m (else_block body) f whole a within up pc st =
        closed_block g t k forms.keeps way w.tree _ _ m _ (block_marked w m body f whole a within (upto_inner way w.tree w.scope _ up) pc st).done

    pub block_marked : (w : Where) (m : Mark) (b : Block) → IsTypedBlock forms w b → Asks forms.keeps (is_whole_block true w b) → At w m → ToldBlock way w.tree w.scope b → UpTo way w.tree (scope_after_block w.tree w.scope b) → (pc : ℕ) →
        Stands t.body pc (block_code w b) → FollowedBlock g t k forms.keeps way w.tree w.params (scope_after_block w.tree w.scope b).names m w b pc
    block_marked w m no_statement f whole a told up pc st = record {
      done = unchanged g t k forms.keeps way w.tree _ _ m _ a.ready a.scoped a.cut (nothing_done g t k _);
      stops = λ d v q h. absurd h;
    }
    block_marked w m (then_statement (a_statement line form) rest) f whole a told up pc st =
        let parts = told_statement w.tree way w.scope line form rest told in
        let behind = upto_before way w.tree _ _ (block_grows w.tree (scope_after w.tree w.scope form) rest) up in
        let one = form_marked (on_line w line) m form f.0 (asks_first _ _ _ whole) (on_the_line g t k slots forms way w m line a) parts.0 parts.1 behind pc st.0 in
        let two = block_marked (after_form w form) one.next rest f.1 (asks_second _ _ _ whole)
        (record {
          hands = a.hands;
          ready = one.ready;
          params = a.params;
          result = a.result;
          room = narrow_long _ _ one.narrower ∙ a.room;
          known = a.known;
          ground = after_form_ground forms t way (on_line w line) form f.0 (asks_first _ _ _ whole) (beginning_at w m a) a.ground;
          facts = facts_among way w.tree _ _ one.facts a.facts;
          ruled = a.ruled;
          scoped = one.scoped;
          cut = one.cut;
          upto = behind;
        }) parts.2 up _ st.1 in
        record {
          done = record {
            next = two.done.next;
            is = joined g t k way w.tree w.params one.is two.done.is;
            ready = two.done.ready;
            narrower = narrow_then _ _ _ two.done.narrower one.narrower;
            facts = λ l h. two.done.facts l (one.facts l h);
            new = more_then w.params m.facts one.next.facts two.done.next.facts one.new two.done.new;
            scoped = two.done.scoped;
            cut = two.done.cut;
          };
          stops = stops_both g t k way w.tree w.params w line form rest pc m one.next two.done.next a.ready a.facts one.new one.is two.done.is two.stops;
        }
