-- From segment to segment, and from call to call, each instance of a run in order fits.
use Rattle.std.proofs.Common.{◌≡◌, ℕ, zero, suc, ◌<◌, ◌^◌, List, [], ◌++◌, Some, refl, sym, ap, ◌∙◌, subst, arith}
use Rattle.std.specs.Prelude.{slice_get}
use Rattle.std.proofs.lemmas.Bool.{false≢true}
use Rattle.std.proofs.lemmas.Option.{same_Some}
use Rattle.task_code.specs.declared.code.TaskCode.{TaskCode}
use Rattle.machine_terms.specs.declared.frame.Frame.{Frame}
use Rattle.machine_terms.specs.declared.order.Contents.{Contents}
use Rattle.machine_terms.specs.declared.order.Ended.{Ended}
use Rattle.machine_terms.specs.declared.order.Ended.TheVariants.{Broke, CameBack}
use Rattle.machine_terms.specs.declared.order.Instance.{Instance}
use Rattle.machine_terms.specs.declared.order.Resumed.{Resumed}
use Rattle.machine_terms.specs.declared.order.Resumed.TheVariants.{GoesOn, IsOver}
use Rattle.machine_terms.specs.declared.outcome.CallOut.{CallOut}
use Rattle.machine_terms.specs.Contents.{no_contents}
use Rattle.machine_terms.specs.Copies.{give_parts}
use Rattle.machine_terms.specs.Opening.{opening, requirements_on}
use Rattle.machine_terms.specs.Orders.{before_of, begun, resume_after, run_segments, Runner, runs, until_over, enough_segments}
use Rattle.machine_terms.specs.Segments.{segment}
use Rattle.fit_rules.specs.Shapes.{Among, World}
use Rattle.fit_rules.specs.Fits.{declared_claims, Program}
use Rattle.fit_rules.specs.Ends.{called, grown_by, IsLeft}
use Rattle.fit_laws.proofs.Passing.{passes}
use Rattle.fit_runs.specs.Runs.{Comes, comes_down, comes_first, comes_on, IsSoundCode, RunsFit}
use Rattle.fit_runs.proofs.Standing.{Grew, grew_then, InstanceFits}
use Rattle.fit_runs.proofs.Calls.{begun_fits, Between, calls_before, calls_fit, EndsFitting, GoesBetween, RunnerFits}
use Rattle.fit_runs.proofs.Resumed.{after_fits, between, GoesFitting, parts_given_back, step_fits}

module _ (g : Program) (sound : IsSoundCode g) (turns : ℕ) (few : turns < 2 ^ 64) where
  -- an end in a world that has grown is one from before
  ends_from : (x y : World) (c d : Contents) (k : ℕ) → Grew x c y d → (e : Ended) → EndsFitting g y d k e → EndsFitting g x c k e
  ends_from x y c d k a (Broke f text) h = tt
  ends_from x y c d k a (CameBack v own b text) (res, (z, grew, ids, agrees)) = (res, (z, grew_then x y z c d b a grew, ids, agrees))

  module _ (child : Runner) (runner : RunnerFits g child) where
    goes_on : (x : World) (t : TaskCode) (k : ℕ) (c : Contents) (more : Instance → Ended) →
        ((y : World) (j : Instance) → InstanceFits g y t k j → EndsFitting g y j.contents k (more j)) →
        (r : Resumed) → GoesFitting g x t k c r → EndsFitting g x c k (until_over r more)
    goes_on x t k c more so (GoesOn j) (y, grew, fit) = ends_from x y c j.contents k grew (more j) (so y j fit)
    goes_on x t k c more so (IsOver e) h = h

    segments_fit : (n : ℕ) (x : World) (t : TaskCode) (k : ℕ) (i : Instance) → slice_get g.code.tasks k ≡ Some t → InstanceFits g x t k i →
        EndsFitting g x i.contents k (run_segments g.code turns child n i)
    segments_fit zero x t k i there fits = tt
    segments_fit (suc n) x t k i there fits = goes_on x t k i.contents (run_segments g.code turns child n)
        (λ y j fit. segments_fit n y t k j there fit)
        (resume_after g.code turns child (segment (before_of g.code i)) i) (step_fits g sound turns few child runner x t k i fits there)

  pub runner_fits : (more : ℕ) → RunnerFits g (runs g.code turns more)
  runner_fits zero x t k i there fits = tt
  runner_fits (suc more) x t k i there fits =
      segments_fit (runs g.code turns more) (runner_fits more) (enough_segments g.code i.frame) x t k i there fits

  -- an instance of some task, in some world
  record FitsSomewhere (i : Instance) : Type 0 where
    world : World
    task : TaskCode
    place : ℕ
    there : slice_get g.code.tasks place ≡ Some task
    fits : InstanceFits g world task place i

  goes_somewhere : (x : World) (t : TaskCode) (k : ℕ) (c : Contents) (r : Resumed) (j : Instance) → slice_get g.code.tasks k ≡ Some t → GoesFitting g x t k c r →
      r ≡ GoesOn j → FitsSomewhere j
  goes_somewhere x t k c r j there h e = of (subst (GoesFitting g x t k c) e h)
    where
      of : GoesFitting g x t k c (GoesOn j) → FitsSomewhere j
      of (y, grew, fit) = record { world = y; task = t; place = k; there = there; fits = fit }

  module _ (first : Instance) (begins : FitsSomewhere first) where
    comes_fitting : (more : ℕ) (j : Instance) → Comes g.code turns first more j → FitsSomewhere j
    comes_fitting _ _ comes_first = begins
    comes_fitting _ _ (comes_on more i j c e) =
        let s = comes_fitting (suc more) i c in
        goes_somewhere s.world s.task s.place i.contents _ j s.there
        (step_fits g sound turns few (runs g.code turns more) (runner_fits more) s.world s.task s.place i s.fits s.there) e
    comes_fitting _ _ (comes_down more i j f before behind c t needs h ef ec ej et er) =
        let s = comes_fitting (suc more) i h in
        let a = segment (before_of g.code i) in
        let child = runs g.code turns more in
        let left = after_fits g sound turns few child (runner_fits more) s.world s.task s.place i s.fits s.there in
        let met = subst (λ y. IsLeft g s.world s.task s.place y (Some f) a.parts) ec (subst (λ o. IsLeft g s.world s.task s.place a.ends o a.parts) ef left.1) in
        let back = parts_given_back g sound turns few child (runner_fits more) s.world s.task s.place i s.fits s.there in
        let b = between g sound turns few child (runner_fits more) s.world s.task s.place i s.fits f a.parts (i.text ++ a.text) left.0 back in
        let well = calls_before g sound turns few child (runner_fits more) s.task f before behind c s.world met.0 in
        let here = between_there s.world s.task f before _ j (give_parts a.parts i.contents)
        (calls_fit g sound turns few child (runner_fits more) s.task f before s.world _ well.0 b) ej in
        let w = well.1 in
        let callee : w.callee ≡ t = same_Some w.callee t (sym w.there ∙ et) in
        let test = passes g (grown_by g s.world before) s.task c w in
        let needed : declared_claims t.needs c.args ≡ needs = same_Some (declared_claims t.needs c.args) needs
        (sym (subst (λ (y : TaskCode). requirements_on g.code j.contents y.needs c.args ≡ Some (declared_claims y.needs c.args))
        (same_Some test.callee t (sym test.there ∙ et)) (test.required j.contents here.contents.spaces)) ∙ er) in
        record {
          world = called (grown_by g s.world before) c.args;
          task = t;
          place = c.task;
          there = et;
          fits = subst (λ ns. InstanceFits g (called (grown_by g s.world before) c.args) t c.task (begun (opening turns (suc j.frame.depth) c.task t c.args) ns j.contents)) needed
              (subst (λ (y : TaskCode). InstanceFits g (called (grown_by g s.world before) c.args) y c.task
              (begun (opening turns (suc j.frame.depth) c.task y c.args) (declared_claims y.needs c.args) j.contents)) callee
              (begun_fits g sound turns few (grown_by g s.world before) s.task f j c w here (suc j.frame.depth)));
        }
      where
        between_there : (x : World) (t : TaskCode) (f : Frame) (cs : List CallOut) (r : Resumed) (j : Instance) →
            (c : Contents) → GoesBetween g x (grown_by g x cs) t f c r → r ≡ GoesOn j → Between g (grown_by g x cs) t f j
        between_there x t f cs r j c h e = (subst (GoesBetween g x (grown_by g x cs) t f c) e h).0

pub runs_fit : RunsFit
runs_fit g turns k t x args sound few there none nothing fits more j comes =
    let s = comes_fitting g sound turns few (begun (opening turns 1 k t args) [] no_contents) (record {
      world = called x args;
      task = t;
      place = k;
      there = there;
      fits = record {
        machine = fits;
        contents = record {
          given = λ r h. absurd (false≢true (sym (nothing r) ∙ h));
          below = λ r h. absurd h;
          present = λ r h. absurd (false≢true (sym (nothing r) ∙ h));
          spaces = λ r h. absurd (false≢true (sym (nothing r) ∙ h));
          points = λ r h. absurd (false≢true (sym (nothing r) ∙ h));
          kept = λ r f p h. absurd (false≢true (sym (nothing r) ∙ h));
        };
        needs = ap (λ ns. declared_claims ns args ++ []) (sym none);
        reached = λ r a p h. absurd (subst (λ ns. Among (declared_claims ns args ++ []) r) none a);
        parts = tt;
        count = refl;
        results = λ n l. absurd (omega (arith, l));
      };
    }) more j comes in
    let has = s.fits.contents in record {
      world = s.world;
      task = s.task;
      place = s.place;
      there = s.there;
      fits = record { code = refl; machine = s.fits.machine };
      roots = λ r h. record { present = has.present r h; space = sym (has.spaces r h); points = has.points r h; kept = λ f p. has.kept r f p h };
      own = sym s.fits.machine.beside.own;
      needs = s.fits.needs;
      count = s.fits.count;
      results = s.fits.results;
    }
