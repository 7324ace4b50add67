-- Calls in a run in order: an instance that begins at a call fits, and where it comes back its caller goes on.
use Rattle.std.proofs.Common.{◌≡◌, ◌≢◌, inl, inr, ℕ, suc, ℤ, ◌<◌, ◌≤◌, ◌^◌, ◌-◌, pos, List, [], ◌∷◌, ◌++◌, Bool, true, false, cond, Option, Some, None, refl, sym, ap, ◌∙◌, subst, arith, length-append, eqb-true}
use Rattle.std.specs.Prelude.{get_or, length, replicate, slice_get, ◌==◌}
use Rattle.std.proofs.lemmas.Bool.{eqb-false, le-leb, cases_lt}
use Rattle.std.proofs.lemmas.List.{append-nil, length-replicate}
use Rattle.std.proofs.lemmas.Option.{same_Some}
use Rattle.std.proofs.Math.ListN.{get_or-append}
use Rattle.std.proofs.Math.Seq.{get_or-append_seam}
use Rattle.plain_values.specs.Points.{points}
use Rattle.region_tree.specs.Requirements.{IsWithin, is_within}
use Rattle.regent_tree.specs.declared.outcome.RootImage.{RootImage}
use Rattle.task_code.specs.declared.code.TaskCode.{TaskCode}
use Rattle.machine_terms.specs.declared.frame.Frame.{Frame}
use Rattle.machine_terms.specs.declared.order.Contents.{Contents}
use Rattle.machine_terms.specs.declared.order.Ended.{Ended}
use Rattle.machine_terms.specs.declared.order.Ended.TheVariants.{Broke, CameBack}
use Rattle.machine_terms.specs.declared.order.Instance.{Instance}
use Rattle.machine_terms.specs.declared.order.Resumed.{Resumed}
use Rattle.machine_terms.specs.declared.order.Resumed.TheVariants.{GoesOn, IsOver}
use Rattle.machine_terms.specs.declared.outcome.CallOut.{CallOut}
use Rattle.machine_terms.specs.declared.value.Value.TheVariants.{Number}
use Rattle.machine_terms.specs.Contents.{closed, image_of, kept_at}
use Rattle.machine_terms.specs.Opening.{opening, requirements_on}
use Rattle.machine_terms.specs.Orders.{after_call, begun, breaks, call_all, call_task, call_within, on_resumed, result_of, Runner}
use Rattle.memory_laws.specs.Places.{column_of}
use Rattle.fit_rules.specs.Shapes.{Among, Each, KnowsRoots, NumberIs, Shape, World}
use Rattle.fit_rules.specs.Fits.{claims, declared_claims, Program, shape_at}
use Rattle.fit_rules.specs.Ends.{called, CallsWell, grown, grown_by, IsNeeded, ResultIs}
use Rattle.task_code.specs.declared.code.NeedCode.{NeedCode}
use Rattle.machine_terms.specs.declared.value.Value.{Value}
use Rattle.fit_laws.specs.Segments.{PassesTest}
use Rattle.fit_laws.proofs.Calls.{claims_grown, knows_grown}
use Rattle.fit_laws.proofs.Lookup.{as_long}
use Rattle.fit_laws.proofs.Passing.{passes}
use Rattle.fit_runs.specs.Runs.{IsSoundCode}
use Rattle.fit_runs.proofs.Standing.{Agrees, agrees_called, AreReached, Grew, InstanceFits}
use Rattle.fit_runs.proofs.Claiming.{claim_there, reached_within}
use Rattle.fit_runs.proofs.Closing.{ids_of, image_closed, numbers_closed, numbers_left}
use Rattle.region_tree.specs.declared.tree.RootId.{RootId}

-- How an instance ends that fits: with a value of its task's result type, and with roots that have grown, of which the last
-- ones are its own.
abbrev pub EndsFitting : Program → World → Contents → ℕ → Ended → Type 0
EndsFitting g x c k (CameBack v own d text) = ResultIs (g.results k) v × ((y : World) × Grew x c y d × (ids_of own ≡ y.own) × Agrees g y d)
EndsFitting g x c k (Broke f text) = Unit {0}

abbrev pub RunnerFits : Program → Runner → Type 0
RunnerFits g child = (x : World) (t : TaskCode) (k : ℕ) (i : Instance) → slice_get g.code.tasks k ≡ Some t → InstanceFits g x t k i →
    EndsFitting g x i.contents k (child i)

-- An instance between two of its calls holds no part, and knows its claims and its children's results.
pub record Between (g : Program) (x : World) (t : TaskCode) (f : Frame) (i : Instance) : Type 0 where
  pub frame : i.frame ≡ f
  pub contents : Agrees g x i.contents
  pub knows : KnowsRoots x
  pub needs : i.needs ≡ claims g x t
  pub reached : AreReached i.contents (claims g x t)
  pub parts : i.parts ≡ []
  pub count : length i.results ≡ x.children
  pub results : (n : ℕ) → n < x.children → NumberIs (x.results n) (get_or i.results n (pos 0))

-- the roots that were there have as many points
abbrev pub SameColumns : World → Contents → Contents → Type 0
SameColumns x c d = (r f : ℕ) → x.there r ≡ true → length (column_of d r f) ≡ length (column_of c r f)

abbrev pub GoesBetween : Program → World → World → TaskCode → Frame → Contents → Resumed → Type 0
GoesBetween g x y t f c (GoesOn j) = Between g y t f j × SameColumns x c j.contents
GoesBetween g x y t f c (IsOver (Broke k text)) = Unit {0}
GoesBetween g x y t f c (IsOver (CameBack v own d text)) = ⊥

-- ---- calls beside one child more

needed_grown : (g : Program) (x : World) (s : Shape) (args : List Value) (ns : List NeedCode) → Each (IsNeeded g x args) ns → Each (IsNeeded g (grown x s) args) ns
needed_grown g x s args [] h = tt
needed_grown g x s args (n ∷ ns) h = (
  record { region = h.0.region; argument = h.0.argument; there = h.0.there; field = h.0.field },
  needed_grown g x s args ns h.1,
)

pub call_grown : (g : Program) (x : World) (t : TaskCode) (s : Shape) (c : CallOut) → CallsWell g x t c → CallsWell g (grown x s) t c
call_grown g x t s c w = record {
  callee = w.callee;
  there = w.there;
  opens = w.opens;
  needed = needed_grown g x s c.args w.callee.needs w.needed;
  within = subst (IsWithin (declared_claims w.callee.needs c.args)) (sym (claims_grown g x s t)) w.within;
}

calls_grown : (g : Program) (x : World) (t : TaskCode) (s : Shape) (cs : List CallOut) → Each (CallsWell g x t) cs → Each (CallsWell g (grown x s) t) cs
calls_grown g x t s [] h = tt
calls_grown g x t s (c ∷ cs) h = (call_grown g x t s c h.0, calls_grown g x t s cs h.1)

module _ (g : Program) (sound : IsSoundCode g) (turns : ℕ) (few : turns < 2 ^ 64) where
  -- ---- an instance begins

  pub begun_fits : (x : World) (t : TaskCode) (f : Frame) (i : Instance) (c : CallOut) (w : CallsWell g x t c) → Between g x t f i → (depth : ℕ) →
      InstanceFits g (called x c.args) w.callee c.task
      (begun (opening turns depth c.task w.callee c.args) (declared_claims w.callee.needs c.args) i.contents)
  begun_fits x t f i c w m depth =
      let all = append-nil (declared_claims w.callee.needs c.args) in record {
        machine = w.opens turns depth few;
        contents = agrees_called g x i.contents c.args m.contents;
        needs = sym all;
        reached = reached_within i.contents (claims g (called x c.args) w.callee) (claims g x t)
            (subst (λ rs. IsWithin rs (claims g x t)) (sym all) w.within) m.reached;
        parts = tt;
        count = refl;
        results = λ n l. absurd (omega (arith, l));
      }

  -- ---- it comes back

  result_is : (k : ℕ) (v : Option ℤ) → ResultIs (g.results k) v → NumberIs (g.results k) (result_of v)
  result_is k None h = sound.zeros k
  result_is k (Some z) h = h

  module _ (x : World) (t : TaskCode) (f : Frame) (i : Instance) (c : CallOut) (w : CallsWell g x t c) (m : Between g x t f i) where
    abbrev s : Shape
    s = g.results c.task

    abbrev back : List RootId → Contents → Option ℤ → List ℕ → Instance
    back own d v text = record i { contents = closed own d; results = i.results ++ result_of v ∷ []; text = i.text ++ text }

    came : (e : Ended) → EndsFitting g (called x c.args) i.contents c.task e → GoesBetween g x (grown x s) t f i.contents (after_call e i)
    came (Broke q text) h = tt
    came (CameBack v own d text) (res, (y, grew, ids, agrees)) = (
      record {
        frame = m.frame;
        contents = record {
          given = λ r h. agrees.given r (grew.there r h);
          below = λ n a. agrees.below n (numbers_closed own d n a);
          present = λ r h. numbers_left own d r (other r h) (agrees.present r (grew.there r h));
          spaces = λ r h. ap (λ (q : RootImage). q.space) (same r h) ∙ agrees.spaces r (grew.there r h) ∙ grew.spaces r h;
          points = λ r h. sym (grew.points r h) ∙ agrees.points r (grew.there r h) ∙ ap (λ (q : RootImage). points q.count) (sym (same r h));
          kept = λ r q p h. subst (λ (k : RootImage). NumberIs (shape_at g (x.spaces r) q) (get_or (get_or k.fields q []) p (pos 0))) (sym (same r h))
              (subst (λ n. NumberIs (shape_at g n q) (kept_at d r q p)) (grew.spaces r h) (agrees.kept r q p (grew.there r h)));
        };
        knows = knows_grown x s m.knows;
        needs = m.needs ∙ sym (claims_grown g x s t);
        reached = subst (AreReached (closed own d)) (sym (claims_grown g x s t))
            (λ r a p q. subst (λ n. p < n) (sym (columns r.root r.field (claim_there g x t m.knows r a))) (m.reached r a p q));
        parts = m.parts;
        count = length-append i.results (result_of v ∷ []) ∙ (let e = m.count in omega (arith, e));
        results = λ n l. result n l (n == x.children) refl;
      },
      columns,
    )
      where
        other : (r : ℕ) → x.there r ≡ true → (n : ℕ) → Among (ids_of own) n → n ≢ r
        other r h n a e = grew.own n (subst (λ ns. Among ns n) ids a) (subst (λ k. x.there k ≡ true) (sym e) h)

        same : (r : ℕ) → x.there r ≡ true → image_of (closed own d) r ≡ image_of d r
        same r h = image_closed own d r (other r h)

        columns : SameColumns x i.contents (closed own d)
        columns r q h = ap (λ (k : RootImage). length (get_or k.fields q [])) (same r h) ∙ grew.columns r q h

        result : (n : ℕ) → n < suc x.children → (b : Bool) → n == x.children ≡ b →
            NumberIs (cond (n == x.children) s (x.results n)) (get_or (i.results ++ result_of v ∷ []) n (pos 0))
        result n l true e =
            let at : n ≡ length i.results = eqb-true n x.children e ∙ sym m.count in
            subst (λ b. NumberIs (cond b s (x.results n)) (get_or (i.results ++ result_of v ∷ []) n (pos 0))) (sym e)
            (subst (λ k. NumberIs s (get_or (i.results ++ result_of v ∷ []) k (pos 0))) (sym at)
            (subst (NumberIs s) (sym (get_or-append_seam i.results (result_of v) [] (pos 0))) (result_is c.task v res)))
        result n l false e =
            let low : n < x.children = let ne = eqb-false n x.children e in below_suc n x.children l ne in
            subst (λ b. NumberIs (cond b s (x.results n)) (get_or (i.results ++ result_of v ∷ []) n (pos 0))) (sym e)
            (subst (NumberIs (x.results n)) (sym (get_or-append i.results (result_of v ∷ []) (pos 0) n (subst (λ k. n < k) (sym m.count) low))) (m.results n low))
          where
            below_suc : (n k : ℕ) → n < suc k → n ≢ k → n < k
            below_suc n k l ne = elim (cases_lt n k) [
              | inl a ↦ a
              | inr b ↦ absurd (ne (omega (arith, l, b)))
            ]

    test : PassesTest g x t c
    test = passes g x t c w

    room : length c.args ≤ w.callee.slots
    room =
        let fit = w.opens turns 0 few in
        let long = as_long (called x c.args) _ _ fit.suits.slots in
        let slots = (sound.tasks c.task w.callee w.there).slots 0 in
        let both = length-append c.args (replicate (w.callee.slots - length c.args) (Number (pos 0))) in
        let blanks = length-replicate (w.callee.slots - length c.args) (Number (pos 0)) in
        omega (arith, long, slots, both, blanks)

    abbrev first : Frame
    first = opening turns (suc i.frame.depth) c.task w.callee c.args

    module _ (child : Runner) (runner : RunnerFits g child) where
      pub call_fits : GoesBetween g x (grown x s) t f i.contents (call_task g.code turns child c (slice_get g.code.tasks c.task) i)
      call_fits =
          let goal = GoesBetween g x (grown x s) t f i.contents in
          let agrees = m.contents in
          subst (λ o. goal (call_task g.code turns child c o i)) (sym w.there)
          (subst (λ b. goal (cond b (call_within child first (requirements_on g.code i.contents w.callee.needs c.args) i) (breaks i)))
          (sym (le-leb (length c.args) w.callee.slots room))
          (subst (λ o. goal (call_within child first o i)) (sym told)
          (subst (λ b. goal (cond b (after_call (child (begun first (declared_claims w.callee.needs c.args) i.contents)) i) (breaks i)))
          (sym (ap (is_within (declared_claims w.callee.needs c.args)) m.needs ∙ passed))
          (came (child (begun first (declared_claims w.callee.needs c.args) i.contents))
          (runner (called x c.args) w.callee c.task (begun first (declared_claims w.callee.needs c.args) i.contents) w.there
          (begun_fits x t f i c w m (suc i.frame.depth)))))))
        where
          task : test.callee ≡ w.callee
          task = same_Some test.callee w.callee (sym test.there ∙ w.there)

          told : requirements_on g.code i.contents w.callee.needs c.args ≡ Some (declared_claims w.callee.needs c.args)
          told = subst (λ (y : TaskCode). requirements_on g.code i.contents y.needs c.args ≡ Some (declared_claims y.needs c.args)) task
              (test.required i.contents m.contents.spaces)

          passed : is_within (declared_claims w.callee.needs c.args) (claims g x t) ≡ true
          passed = subst (λ (y : TaskCode). is_within (declared_claims y.needs c.args) (claims g x t) ≡ true) task test.within

  -- ---- one call after the other

  module _ (child : Runner) (runner : RunnerFits g child) (t : TaskCode) (f : Frame) where
    -- what goes on behind one call
    then_more : (x z : World) (c d : Contents) → SameColumns x c d → (r : Resumed) → GoesBetween g x z t f d r → GoesBetween g x z t f c r
    then_more x z c d one (GoesOn k) (b, two) = (b, λ r p e. two r p e ∙ one r p e)
    then_more x z c d one (IsOver (Broke k text)) b = tt
    then_more x z c d one (IsOver (CameBack v own e text)) b = absurd b

    behind_one : (x y z : World) (c : Contents) (cs : List CallOut) → ((j : Instance) → Between g y t f j → GoesBetween g x z t f j.contents (call_all g.code turns child cs j)) →
        (r : Resumed) → GoesBetween g x y t f c r → GoesBetween g x z t f c (on_resumed r (call_all g.code turns child cs))
    behind_one x y z c cs more (GoesOn j) (b, one) = then_more x z c j.contents one (call_all g.code turns child cs j) (more j b)
    behind_one x y z c cs more (IsOver (Broke k text)) b = tt
    behind_one x y z c cs more (IsOver (CameBack v own d text)) b = absurd b

    pub calls_fit : (cs : List CallOut) (x : World) (i : Instance) → Each (CallsWell g x t) cs → Between g x t f i →
        GoesBetween g x (grown_by g x cs) t f i.contents (call_all g.code turns child cs i)
    calls_fit [] x i h m = (m, λ r q e. refl)
    calls_fit (c ∷ cs) x i h m = behind_one x (grown x (g.results c.task)) (grown_by g x (c ∷ cs)) i.contents cs
        (λ j b. calls_fit cs (grown x (g.results c.task)) j (calls_grown g x t (g.results c.task) cs h.1) b)
        (call_task g.code turns child c (slice_get g.code.tasks c.task) i) (call_fits x t f i c h.0 m child runner)

    -- the calls before one, and that one
    pub calls_before : (before behind : List CallOut) (c : CallOut) (x : World) → Each (CallsWell g x t) (before ++ c ∷ behind) →
        Each (CallsWell g x t) before × CallsWell g (grown_by g x before) t c
    calls_before [] behind c x h = (tt, h.0)
    calls_before (b ∷ before) behind c x h =
        let more = calls_before before behind c (grown x (g.results b.task)) (calls_grown g x t (g.results b.task) (before ++ c ∷ behind) h.1) in
        let one = calls_before before behind c x h.1 in
        ((h.0, one.0), more.1)

-- a world with children more has the same roots
pub grew_by : (g : Program) (cs : List CallOut) (x : World) (c d : Contents) → SameColumns x c d → Grew x c (grown_by g x cs) d
grew_by g [] x c d h = record { there = λ r e. e; spaces = λ r e. refl; points = λ r e. refl; own = λ r a e. a; columns = h }
grew_by g (k ∷ cs) x c d h =
    let more = grew_by g cs (grown x (g.results k.task)) c d h in
    record { there = more.there; spaces = more.spaces; points = more.points; own = more.own; columns = more.columns }
