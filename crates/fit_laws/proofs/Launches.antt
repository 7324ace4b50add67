-- Launches: what is handed over at each colour is what a call may have, and the caller fits beside all its children.
use Rattle.std.proofs.Common.{◌≡◌, ℕ, zero, suc, ◌+◌, ◌<◌, ◌≤◌, ◌^◌, pos, List, [], ◌∷◌, map, not, Bool, true, false, ◌&&◌, Option, Some, None, option_map, refl, sym, ap, ◌∙◌, subst, arith, slice_get}
use Rattle.std.specs.Prelude.{length, nat_lt}
use Rattle.std.specs.List.{list_all}
use Rattle.std.proofs.lemmas.Bool.{lt-ltb, eq-eqb}
use Rattle.std.proofs.lemmas.Option.{none-some, same_Some}
use Rattle.index_launch.specs.Points.{at_colour, call_at, calls_of}
use Rattle.index_launch.specs.declared.points.LaunchArg.{LaunchArg}
use Rattle.index_launch.specs.declared.points.LaunchArg.TheVariants as launch_arg
use Rattle.index_launch.specs.declared.points.PointArg.TheVariants as point
use Rattle.plain_values.specs.Points.{counted_from, points}
use Rattle.regent_tree.specs.declared.outcome.Fault.{Fault}
use Rattle.regent_tree.specs.declared.outcome.FaultKind.TheVariants.{Depth}
use Rattle.task_code.specs.declared.code.TaskCode.{TaskCode}
use Rattle.machine_terms.specs.declared.frame.Frame.{Frame}
use Rattle.machine_terms.specs.declared.outcome.CallOut.{CallOut}
use Rattle.machine_terms.specs.declared.outcome.Yield.TheVariants as yield
use Rattle.machine_terms.specs.declared.value.RegionValue.{RegionValue}
use Rattle.machine_terms.specs.declared.value.Value.{Value}
use Rattle.machine_terms.specs.declared.value.Value.TheVariants as value
use Rattle.machine_terms.specs.Launches.{Launch, Launched, and_argument, argument, arguments, behind_call, behind_launch, child_in, cut_off, hand_then, is_held, is_partition as is_a_partition, is_settled, issue, launch, launch_of, launch_over, launch_task, launched, yield_calls}
use Rattle.machine_terms.specs.Machine.{Machine, broken, stops, when, yields}
use Rattle.machine_terms.specs.Pointers.{region_in}
use Rattle.machine_terms.specs.Regions.{partition_in}
use Rattle.fit_rules.specs.Shapes.{Are, Each, Shape, partition, space, World, Is, is_number, is_partition, is_space, IsChild, IsRegion, the_colour, unknown}
use Rattle.fit_rules.specs.Marks.{Mark}
use Rattle.fit_rules.specs.Fits.{Program, Fits}
use Rattle.fit_rules.specs.Sound.{HasArgument, OpensEach, To}
use Rattle.fit_rules.specs.Ends.{CallsWell, grown, grown_by, Safe, safe_stops}
use Rattle.fit_laws.proofs.Calls.{bare, beside_grown, no_parts, opening_fits, suits_grown}
use Rattle.fit_laws.proofs.Lookup.{value_at}
use Rattle.fit_laws.proofs.Pointers.{among_coloured, partition_at}
use Rattle.fit_laws.proofs.Taking.{at_hand, one_there}

-- ---- more children

module _ (g : Program) (t : TaskCode) (k : ℕ) where
  -- a frame with so many children
  abbrev counting : ℕ → Frame → Frame
  counting n f = record f { children = n }

  frames_grown : (cs : List CallOut) (x : World) (f : Frame) → f.children + length cs + f.turns < 2 ^ 64 → Fits g x t k (bare f) →
      Fits g (grown_by g x cs) t k (bare (counting (f.children + length cs) f))
  frames_grown [] x f l fit =
      let same : f.children ≡ f.children + 0 = omega arith in subst (λ n. Fits g x t k (bare (counting n f))) same fit
  frames_grown (c ∷ cs) x f l fit =
      let s = g.results c.task in
      let same : suc f.children + length cs ≡ f.children + suc (length cs) = omega arith in
      subst (λ n. Fits g (grown_by g (grown x s) cs) t k (bare (counting n f))) same
      (frames_grown cs (grown x s) (counting (suc f.children) f) (omega (arith, l)) (record {
        inside = fit.inside;
        suits = suits_grown x s t.params (g.marks k f.pc) f.slots f.stack fit.suits;
        beside = beside_grown g x s t k f fit.beside (omega (arith, l));
      }))

-- ---- colours

-- the colours of a space are below its bound
below_each : (b first n : ℕ) → first + n ≤ b → Each (λ c. c < b) (counted_from first n)
below_each b first zero l = tt
below_each b first (suc n) l = (omega (arith, l), below_each b (suc first) n (omega (arith, l)))

-- ---- arguments

-- a child that is handed over
pub record HandedChild (x : World) (vs : List Value) (sp : Option ℕ) (s c : ℕ) (v : Value) : Type 0 where
  pub region : RegionValue
  pub is : v ≡ value.Region region
  pub of_space : IsRegion x sp unknown region
  pub child : IsChild vs s (the_colour (pos c)) region

pub handed_child : (x : World) (ss : List Shape) (vs : List Value) (sp : Option ℕ) (d : Bool) (s c : ℕ) (v : Value) → Are x ss vs →
    slice_get ss s ≡ Some (partition sp d) → argument vs (point.Child s c) ≡ Some v → HandedChild x vs sp s c v
handed_child x ss vs sp d s c v a e h = let w = value_at x ss vs s (partition sp d) a e in of_value w.value w.at w.of
  where
    of_value : (u : Value) → slice_get vs s ≡ Some u → Is x (partition sp d) u → HandedChild x vs sp s c v
    of_value _ at (is_number _ z i) = absurd i
    of_value _ at (is_partition _ _ q i) =
        of_child (slice_get q.children c) refl (subst (λ o. child_in (partition_in o) c ≡ Some v) at h)
      where
        of_child : (o : Option RegionValue) → slice_get q.children c ≡ o → option_map value.Region o ≡ Some v → HandedChild x vs sp s c v
        of_child None eo ev = absurd (none-some v ev)
        of_child (Some r) eo ev = record {
          region = r;
          is = sym (same_Some _ v ev);
          of_space = (i.regions r (among_coloured q.children (pos c) r eo)).1;
          child = record { parts = q; there = ap partition_in at; colour = pos c; has_colour = refl; child = eo };
        }

-- arguments are there where each is
pub record BothThere (o : Option Value) (rest : Option (List Value)) (ws : List Value) : Type 0 where
  pub head : Value
  pub tail : List Value
  pub first : o ≡ Some head
  pub more : rest ≡ Some tail
  pub are : head ∷ tail ≡ ws

pub both_there : (o : Option Value) (rest : Option (List Value)) (ws : List Value) → and_argument o rest ≡ Some ws → BothThere o rest ws
both_there None rest ws e = absurd (none-some ws e)
both_there (Some v) None ws e = absurd (none-some ws e)
both_there (Some v) (Some vs) ws e = record { head = v; tail = vs; first = refl; more = refl; are = same_Some _ ws e }

module _ (g : Program) (x : World) (t : TaskCode) (k : ℕ) (m : Machine) (fit : Fits g x t k m) where
  abbrev here : Mark
  here = g.marks k m.frame.pc

  one_held : (a : LaunchArg) → HasArgument here a → is_held m.frame.slots a ≡ true
  one_held (launch_arg.Child s) h = ap is_a_partition (partition_at g x t k m fit h.0 s h.1).there
  one_held (launch_arg.Keep s) h =
      let v = value_at x _ _ s h.0 fit.suits.slots h.1 in ap is_settled v.at ∙ ap not (at_hand x h.0 v.value h.2 v.of)
  one_held (launch_arg.Number z) h = refl
  one_held launch_arg.Point h = refl

  all_held : (args : List LaunchArg) → Each (HasArgument here) args → list_all (is_held m.frame.slots) args ≡ true
  all_held [] h = refl
  all_held (a ∷ args) h = ap (λ b. b && list_all (is_held m.frame.slots) args) (one_held a h.0) ∙ all_held args h.1

  -- a region that is handed over is of a root that is there
  abbrev IsThere : Option Value → Type 0
  IsThere o = (r : RegionValue) → region_in o ≡ Some r → x.there r.root.0 ≡ true

  one_handed : (a : LaunchArg) (c : ℕ) (v : Value) → HasArgument here a → argument m.frame.slots (at_colour c a) ≡ Some v → IsThere (Some v)
  one_handed (launch_arg.Child s) c v h e r er =
      let w = handed_child x here.slots m.frame.slots h.0 h.1.disjoint s c v fit.suits.slots h.1.shape e in
      subst (λ (y : RegionValue). x.there y.root.0 ≡ true) (same_Some w.region r (ap (λ u. region_in (Some u)) (sym w.is) ∙ er)) w.of_space.there
  one_handed (launch_arg.Keep s) c v h e r er =
      let w = value_at x _ _ s h.0 fit.suits.slots h.1 in
      one_there x h.0 w.value r h.2 w.of (ap region_in (sym w.at ∙ e) ∙ er)
  one_handed (launch_arg.Number z) c v h e r er = absurd (none-some r (ap region_in e ∙ er))
  one_handed launch_arg.Point c v h e r er = absurd (none-some r (ap region_in e ∙ er))

  all_handed : (args : List LaunchArg) (c : ℕ) (ws : List Value) → Each (HasArgument here) args →
      arguments m.frame.slots (call_at args c) ≡ Some ws → (i : ℕ) → IsThere (slice_get ws i)
  all_handed [] c ws h e i r er = absurd (none-some r (ap (λ us. region_in (slice_get us i)) (same_Some [] ws e) ∙ er))
  all_handed (a ∷ args) c ws h e i r er =
      let w = both_there _ _ ws e in
      of_place w.head w.tail (one_handed a c w.head h.0 w.first) (all_handed args c w.tail h.1 w.more) i
      (ap (λ us. region_in (slice_get us i)) w.are ∙ er)
    where
      of_place : (v : Value) (vs : List Value) → IsThere (Some v) → ((i : ℕ) → IsThere (slice_get vs i)) →
          (i : ℕ) → region_in (slice_get (v ∷ vs) i) ≡ Some r → x.there r.root.0 ≡ true
      of_place v vs one more zero q = one r q
      of_place v vs one more (suc i) q = more i r q

  -- ---- the calls

  -- they may be made, and with the turns that are left they are no more than the turns before
  record IsFit (n : ℕ) (r : Launched) : Type 0 where
    count : length r.calls + r.turns ≤ n
    calls : Each (CallsWell g x t) r.calls

  module _ (short : length t.body ≤ 2 ^ 32) (task call_line line : ℕ) (args : List LaunchArg) (callee : TaskCode) (there : slice_get g.code.tasks task ≡ Some callee)
      (some : 0 < length callee.body) (has : Each (HasArgument here) args) (o : OpensEach g t here task callee args) (to : To g t k here (suc m.frame.pc)) where
    abbrev l : Launch
    l = launch_of task call_line line m

    one_call : (c : ℕ) (ws : List Value) → c < 4194304 → arguments m.frame.slots (call_at args c) ≡ Some ws →
        CallsWell g x t (record { task = task; args = ws })
    one_call c ws low e =
        let opens = o.1 x m.frame.slots m.frame.stack ws c fit.beside.roots fit.suits low e in record {
          callee = callee;
          there = there;
          opens = λ turns depth h. opening_fits g x task callee ws turns depth h some (all_handed args c ws has e) o.0 opens.0;
          needed = opens.1;
          within = opens.2;
        }

    launched_fit : (cs : List ℕ) → Each (λ c. c < 4194304) cs → (n : ℕ) → IsFit n (launched l (map (call_at args) cs) n)
    launched_fit [] low n = record { count = omega arith; calls = tt }
    launched_fit (c ∷ cs) low zero = record { count = omega arith; calls = tt }
    launched_fit (c ∷ cs) low (suc n) =
        by_arguments (arguments m.frame.slots (call_at args c)) refl n (launched_fit cs low.1)
      where
        by_arguments : (q : Option (List Value)) → arguments m.frame.slots (call_at args c) ≡ q → (n : ℕ) →
            ((p : ℕ) → IsFit p (launched l (map (call_at args) cs) p)) → IsFit (suc n) (hand_then l q n (launched l (map (call_at args) cs)))
        by_arguments None e n more = record { count = omega arith; calls = tt }
        by_arguments (Some ws) e zero more = record { count = omega arith; calls = tt }
        by_arguments (Some ws) e (suc p) more = by_depth (nat_lt m.frame.depth 64)
          where
            by_depth : (b : Bool) → IsFit (suc (suc p)) (elim b [
              | true ↦ behind_call (record { task = task; args = ws }) (launched l (map (call_at args) cs) p)
              | false ↦ cut_off Depth call_line p
            ])
            by_depth true = record { count = omega (arith, (more p).count); calls = (one_call c ws low.0 e, (more p).calls) }
            by_depth false = record { count = omega arith; calls = tt }

    -- ---- the instruction

    -- the caller behind them
    goes_on : (r : Launched) → IsFit m.frame.turns r →
        Fits g x t k (bare (record m.frame { pc = suc m.frame.pc; turns = r.turns; later = r.fault }))
    goes_on r h = record {
      inside = to.0;
      suits = to.1 x _ _ fit.suits;
      beside = record {
        task = fit.beside.task;
        needs = fit.beside.needs;
        parts = no_parts g x t;
        children = fit.beside.children;
        calls = omega (arith, h.count, fit.beside.calls);
        own = fit.beside.own;
        roots = fit.beside.roots;
        begins = fit.beside.begins;
      };
    }

    yields_safe : (r : Launched) → IsFit m.frame.turns r → Safe g x t k (yield_calls r m)
    yields_safe r h =
        let next = behind_launch r m in
        subst (λ b. Safe g x t k (when b (yields (yield.Calls r.calls) next) (broken m)))
        (sym (lt-ltb (m.frame.children + length r.calls) (2 ^ 64) (omega (arith, h.count, fit.beside.calls))))
        (subst (λ b. Safe g x t k (when b (stops (yield.Calls r.calls) next) (broken next)))
        (sym (lt-ltb (suc m.frame.pc) (2 ^ 32) (omega (arith, to.0, short))))
        (safe_stops _ _ (
          fit.beside.parts,
          (h.calls, frames_grown g t k r.calls x _ (omega (arith, h.count, fit.beside.calls)) (goes_on r h)),
        )))

    issue_safe : (cs : List CallOut) (f : Option Fault) (r : Launched) → IsFit m.frame.turns r → Safe g x t k (issue cs f r m)
    issue_safe [] (Some f) r h = safe_stops _ _ (fit.beside.parts, tt)
    issue_safe [] None r h = yields_safe r h
    issue_safe (c ∷ cs) f r h = yields_safe r h

    over_safe : (v : Value) → Is x space v → Safe g x t k (launch_over (Some v) l args m)
    over_safe _ (is_space n low) =
        let r = launched l (calls_of n args) m.frame.turns in
        issue_safe r.calls r.fault r (launched_fit (points n) (below_each 4194304 0 n (omega (arith, low))) m.frame.turns)
    over_safe _ (is_number _ z h) = absurd h

  pub launch_safe : length t.body ≤ 2 ^ 32 → (task s call_line line : ℕ) (args : List LaunchArg) (callee : TaskCode) →
      slice_get g.code.tasks task ≡ Some callee → callee.params ≡ length args → 0 < length callee.body →
      slice_get here.slots s ≡ Some space → Each (HasArgument here) args → OpensEach g t here task callee args →
      To g t k here (suc m.frame.pc) → Safe g x t k (launch g.code task s call_line args line m)
  launch_safe short task s call_line line args callee there ep some es has o to =
      let v = value_at x _ _ s space fit.suits.slots es in
      let over = launch_of task call_line line m in
      subst (λ c. Safe g x t k (launch_task c task s call_line args line m)) (sym there)
      (subst (λ b. Safe g x t k (when b (launch_over (slice_get m.frame.slots s) over args m) (broken m)))
      (sym (ap (λ b. b && list_all (is_held m.frame.slots) args) (eq-eqb callee.params (length args) ep) ∙ all_held args has))
      (subst (λ c. Safe g x t k (launch_over c over args m)) (sym v.at)
      (over_safe short task call_line line args callee there some has o to v.value v.of)))
