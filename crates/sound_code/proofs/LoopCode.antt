-- The code of a loop over points has marks, point by point or in one step.
use Rattle.std.proofs.Common.{◌≡◌, inr, ℕ, suc, ◌<◌, ◌+◌, List, [], ◌∷◌, Bool, true, false, ◌&&◌, cond, None, Option, Some, refl, sym, ◌∙◌, subst, arith, ⊎_elim}
use Rattle.std.specs.Prelude.{length}
use Rattle.std.proofs.lemmas.Bool.{false≢true}
use Rattle.std.proofs.lemmas.Option.{none-some}
use Rattle.regent_tree.specs.Syntax.{Block, Expression, Form, Name, call_form, for_in_form, no_statement}
use Rattle.regent_tree.specs.StaticTypes.{task_named}
use Rattle.regent_tree.specs.Typing.{is_pointer, param_types, scope_after_block, taken_from}
use Rattle.regent_tree.specs.Scopes.{with_name}
use Rattle.regent_tree.specs.declared.typing.Bound.{Bound}
use Rattle.regent_tree.specs.declared.typing.StaticType.{StaticType}
use Rattle.regent_tree.specs.declared.typing.StaticType.TheVariants.{Ispace as ispace_type}
use Rattle.task_code.specs.declared.code.TaskCode.{TaskCode}
use Rattle.task_code.specs.declared.instr.Instr.TheVariants as instr
use Rattle.check_rules.specs.launches.Shapes.{shape_of as loop_shape}
use Rattle.check_rules.specs.types.Declarations.{params_of}
use Rattle.check_rules.specs.types.KnownTypes.{known_type}
use Rattle.check_rules.specs.types.Sorts.{is_space}
use Rattle.code_rules.specs.Expressions.{expr_code}
use Rattle.code_rules.specs.Initializers.{new_place}
use Rattle.code_rules.specs.Instructions.{one}
use Rattle.code_rules.specs.Launches.{is_launch, launch_code, LaunchedCall, launched_call, one_call}
use Rattle.code_rules.specs.Pieces.{Piece, ◌⨟◌, past}
use Rattle.code_rules.specs.Slots.{beside, typed, Where}
use Rattle.code_rules.specs.Statements.{block_code, form_code, in_one_step, looping, on_line, points_code}
use Rattle.code_laws.specs.Simple.{a_space_type, IsRegion, IsSpace}
use Rattle.code_laws.specs.Standing.{Stands}
use Rattle.code_laws.specs.Steps.{Forms}
use Rattle.code_laws.specs.Typed.{IsIndexed, IsTyped, IsTypedBlock, IsTypedForm}
use Rattle.code_laws.proofs.LaunchShapes.{AreForms, is_launched}
use Rattle.fit_rules.specs.Shapes.{index, space}
use Rattle.fit_rules.specs.Marks.{Fact, Mark, stacked}
use Rattle.fit_rules.specs.Fits.{Program}
use Rattle.fit_laws.proofs.Keeping.{set_mark}
use Rattle.sound_code.specs.Named.{HasSlots, slot_at}
use Rattle.sound_code.specs.Ways.{Way}
use Rattle.sound_code.proofs.Asked.{Asked, UpTo}
use Rattle.sound_code.proofs.Bindings.{over_points}
use Rattle.sound_code.proofs.Combining.{behind_kept, both, into, Marked, slot_high, storing}
use Rattle.sound_code.proofs.Cuts.{Cut, cut_plain}
use Rattle.sound_code.proofs.Domains.{domain_marked, space_whole, Takes, takes_indices}
use Rattle.sound_code.proofs.Grounds.{facts_more}
use Rattle.sound_code.proofs.Grown.{ground_looping}
use Rattle.sound_code.proofs.Launching.{launched}
use Rattle.sound_code.proofs.Narrowing.{fewer_facts, narrow_into, narrow_long, narrow_then}
use Rattle.sound_code.proofs.NoCuts.{worth_no_partition}
use Rattle.sound_code.proofs.Numbering.{numbered_more}
use Rattle.sound_code.proofs.PointLoops as points
use Rattle.sound_code.proofs.Rounds.{domain_there, long_round, round_narrow, round_ready}
use Rattle.sound_code.proofs.Scoped.{Scoped}
use Rattle.sound_code.proofs.ScopedNames.{scoped_bound}
use Rattle.sound_code.proofs.Statements.{space_marked}
use Rattle.sound_code.proofs.Stops.{FollowedBlock, on_the_line}
use Rattle.sound_code.proofs.Taken.{Over, part_region, taken_scoped}
use Rattle.sound_code.proofs.Told.{ToldBlock, ToldCall, ToldForm, told_call_form, told_head, told_statement}
use Rattle.sound_code.proofs.WholeTasks.{are_whole_arguments, is_whole_block, is_whole_domain}
use Rattle.sound_code.proofs.Wholes.{Asks, asks_first, asks_second}

space_of : (u : StaticType) → is_space u ≡ true → IsSpace u
space_of (ispace_type k) e = a_space_type k
space_of _ e = absurd (false≢true e)

no_region_space : (u : StaticType) → IsSpace u → IsRegion u → ⊥
no_region_space _ (a_space_type k) r = elim r [ ]

-- a launch goes over an index space
over_space : (a b : Bool) (o : Option LaunchedCall) (c : LaunchedCall) → cond (a && b) o None ≡ Some c → a ≡ true
over_space true b o c e = refl
over_space false b o c e = absurd (none-some c e)

module _ (g : Program) (t : TaskCode) (k slots : ℕ) (have : HasSlots t slots) (forms : Forms) (way : Way) (w : Where) (m : Mark) (a : Asked g t k slots forms way w m)
    (hi : slot_at w.params (length w.scope.names) + 2 < length m.slots) (x : Name) where
  -- ---- in a round

  module _ (u : StaticType) (tk : Takes way w.params w.scope.names u) where
    abbrev variable : Bound
    variable = record {
      name = x;
      number = w.scope.next;
      place = length w.scope.names;
      static_type = taken_from u;
      by_loop = true;
    }

    abbrev pub round : Mark
    round = points.round g t k way w.params w.scope.names m a.ready a.params hi tk.D tk.V tk.ptr tk.domain

    abbrev pub head : Mark
    head = points.head g t k way w.params w.scope.names m a.ready a.params hi tk.D tk.V tk.ptr tk.domain

    abbrev pub known : List Fact
    known = points.counting g t k way w.params w.scope.names m a.ready a.params hi tk.D tk.V tk.ptr tk.domain

    pub asked_round : Scoped forms.keeps way (variable ∷ w.scope.names) → Cut forms.keeps way w.tree w.params known (variable ∷ w.scope.names) →
        UpTo way w.tree (looping w x (taken_from u)).scope → Asked g t k slots forms way (looping w x (taken_from u)) round
    asked_round scoped cut upto = record {
      hands = a.hands;
      ready = round_ready way w.params w.scope.names m a.ready tk.D index tk.V known hi variable refl tk.shape (numbered_more w.scope.names variable tk.D tk.numbered.0) tt
          (numbered_more w.scope.names variable tk.V tk.numbered.1) (points.are_counts g t k way w.params w.scope.names m a.ready a.params hi tk.D tk.V tk.ptr tk.domain)
          (tk.beside round.slots (domain_there way w.params w.scope.names m a.ready tk.D index tk.V known hi));
      params = a.params;
      result = a.result;
      room = long_round way w.params w.scope.names m a.ready tk.D index tk.V known hi ∙ a.room;
      known = a.known;
      ground = ground_looping t w.tree w.params way w.scope x (taken_from u) tk.worth a.ground;
      facts = facts_more way w.tree m.facts _ a.facts;
      ruled = a.ruled;
      scoped = scoped;
      cut = cut;
      upto = upto;
    }

  -- ---- in one step

  launch_marked : (u : StaticType) (is : IsSpace u) (t1 : StaticType) (c : LaunchedCall) →
      Scoped forms.keeps way (variable u (takes_indices way w.params w.scope.names u is) ∷ w.scope.names) →
      Cut forms.keeps way w.tree w.params (known u (takes_indices way w.params w.scope.names u is)) (variable u (takes_indices way w.params w.scope.names u is) ∷ w.scope.names) →
      UpTo way w.tree (looping w x (taken_from u)).scope → AreForms (with_name w.scope x t1 true).names x (params_of w.tree c.task) 0 c.args →
      IsTypedForm forms (on_line (looping w x (taken_from u)) c.line) (call_form c.task c.args) →
      Asks forms.keeps (are_whole_arguments true (on_line (looping w x (taken_from u)) c.line) (param_types w.tree (task_named w.tree c.task)) c.args) →
      ToldCall way w.tree (looping w x (taken_from u)).scope c.task c.args → (pc : ℕ) →
      Stands t.body pc (launch_code w (on_line (looping w x (taken_from u)) c.line) x (beside w (new_place w)) c) →
      Marked g t k (set_mark m (beside w (new_place w)) space []) (launch_code w (on_line (looping w x (taken_from u)) c.line) x (beside w (new_place w)) c) (stacked m [])
  launch_marked _ (a_space_type kind) t1 c scoped cut upto looks fine whole told pc st =
      launched g t k slots have forms way w x kind c.line m a.ready a.params hi
      (on_the_line g t k slots forms way _ _ c.line (asked_round (ispace_type kind) (takes_indices way w.params w.scope.names (ispace_type kind) (a_space_type kind)) scoped cut upto))
      a.room t1 c.task c.args fine.1 fine.2 whole told looks pc st

  -- ---- the loop

  module _ (demanded : Bool) (domain : Expression) (body : Block) (over : Over forms.keeps w domain (IsTyped forms w domain) (IsIndexed forms w domain))
      (fine : IsTypedBlock forms (looping w x (taken_from (typed w domain))) body)
      (whole : Asks forms.keeps (is_whole_domain true w domain && is_whole_block true (looping w x (taken_from (typed w domain))) body))
      (told : ToldForm way w.tree w.scope (for_in_form demanded x domain body)) (within : ToldBlock way w.tree (looping w x (taken_from (typed w domain))).scope body)
      (upto : UpTo way w.tree (looping w x (taken_from (typed w domain))).scope) where
    abbrev form : Form
    form = for_in_form demanded x domain body

    abbrev u : StaticType
    u = typed w domain

    abbrev inner : Where
    inner = looping w x (taken_from u)

    abbrev point_by_point : Piece
    point_by_point = points_code w (is_pointer (taken_from u)) (block_code inner body)

    still_scoped : (tk : Takes way w.params w.scope.names u) → Scoped forms.keeps way (variable u tk ∷ w.scope.names)
    still_scoped tk = scoped_bound forms.keeps way w.tree w.scope form (variable u tk) refl told a.scoped (λ all. taken_scoped forms.keeps w domain w.scope.next _ _ over)

    still_cut : (tk : Takes way w.params w.scope.names u) → Cut forms.keeps way w.tree w.params (known u tk) (variable u tk ∷ w.scope.names)
    still_cut tk = cut_plain forms.keeps way w.tree w.scope form (variable u tk) w.params m.facts (known u tk) refl told (λ l h. inr h) a.cut (worth_no_partition _ tk.worth)

    -- what is asked of the body in each round
    pub asked_inside : (tk : Takes way w.params w.scope.names u) → Asked g t k slots forms way inner (round u tk)
    asked_inside tk = asked_round u tk (still_scoped tk) (still_cut tk) upto

    in_step : (c : LaunchedCall) → launched_call w form body ≡ Some c → (pc : ℕ) → Stands t.body pc (expr_code w 0 domain) → (pc2 : ℕ) →
        Stands t.body pc2 (launch_code w (on_line inner c.line) x (beside w (new_place w)) c) →
        Marked g t k (stacked m []) (expr_code w 0 domain ⨟ one w (instr.Store (beside w (new_place w))) ⨟ launch_code w (on_line inner c.line) x (beside w (new_place w)) c) (stacked m [])
    in_step c e pc st pc2 st2 =
        let is = space_of u (over_space (is_space u) (is_launch (loop_shape w.tree w.scope form)) (one_call body) c e) in
        let tk = takes_indices way w.params w.scope.names u is in
        let looks = is_launched w x domain c demanded body e in
        let part = told_statement w.tree way inner.scope c.line (call_form c.task c.args) no_statement (subst (ToldBlock way w.tree inner.scope) looks.is within) in
        let high = slot_high w.params (length w.scope.names) a.ready.low in
        both g t k (space_marked g t k slots have forms way w m a domain is
        (⊎_elim (λ o. o.1) (λ p. absurd (no_region_space u is (part_region w domain _ p.1))) over)
        (λ q. space_whole w domain is (asks_first _ _ _ whole q)) (told_head w.tree w.scope way form domain refl told) pc st)
        (both g t k (storing g t k m (beside w (new_place w)) space space [] w.line (behind_kept way w.params w.scope.names m _ a.ready (omega arith))
        (omega (arith, high, a.params)) (omega (arith, a.ready.fixed)) tt hi (λ x y h. h))
        (launch_marked u is (taken_from (known_type w.tree w.scope domain)) c (still_scoped tk) (still_cut tk) upto looks.forms (subst (IsTypedBlock forms inner) looks.is fine).0
        (asks_first _ _ _ (subst (λ b. Asks forms.keeps (is_whole_block true inner b)) looks.is (asks_second _ _ _ whole)))
        (told_call_form w.tree inner.scope way c.task c.args part.0) pc2 st2))

    pub loop_marked : ((tk : Takes way w.params w.scope.names u) (q : ℕ) → Stands t.body q (block_code inner body) →
        FollowedBlock g t k forms.keeps way w.tree w.params (scope_after_block w.tree inner.scope body).names (round u tk) inner body q) →
        (pc : ℕ) → Stands t.body pc (form_code w form) → Marked g t k (stacked m []) (form_code w form) (stacked m [])
    loop_marked block pc st = by (launched_call w form body) refl st.1.1
      where
        pc2 : ℕ
        pc2 = suc (past (expr_code w 0 domain) pc)

        by : (o : Option LaunchedCall) → launched_call w form body ≡ o → Stands t.body pc2 (in_one_step w inner x o point_by_point) →
            Marked g t k (stacked m []) (expr_code w 0 domain ⨟ one w (instr.Store (beside w (new_place w))) ⨟ in_one_step w inner x o point_by_point) (stacked m [])
        by (Some c) e f = in_step c e pc st.0 pc2 f
        by None e f =
            let goes = domain_marked g t k slots have forms way w m a domain over (asks_first _ _ _ whole) (told_head w.tree w.scope way form domain refl told) pc st.0 in
            let tk = goes.taken in
            let done = (block tk _ f.1.1.1).done in
            let fs = known u tk in
            let narrow = narrow_then _ _ _ done.narrower (round_narrow way w.params w.scope.names m a.ready tk.D index tk.V fs hi) in
            both g t k goes.is
            (subst (λ p. Marked g t k (stacked m (tk.D ∷ [])) (over_points w x u body p) (stacked m [])) (sym tk.is_ptr)
            (points.counted g t k way w.params w.scope.names m a.ready a.params hi tk.D tk.V tk.ptr tk.domain w.line (block_code inner body)
            (into g t k done.is (narrow_into t.params done.next (head u tk) narrow (fewer_facts fs done.next.facts done.facts)) (sym (narrow_long _ _ narrow)))))
