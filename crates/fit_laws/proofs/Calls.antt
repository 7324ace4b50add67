-- Calls: the opening frame of a call fits, and its caller fits beside one child more.
use Rattle.std.proofs.Common.{◌≡◌, ℕ, suc, ◌<◌, ◌≤◌, ◌+◌, ◌^◌, List, [], ◌∷◌, ◌++◌, Bool, true, false, cond, Option, Some, None, refl, sym, ap, subst, arith}
use Rattle.std.proofs.lemmas.Option.{none-some}
use Rattle.std.specs.Prelude.{slice_get, length, nat_lt, ◌==◌}
use Rattle.std.proofs.lemmas.Bool.{lt-ltb, eq-eqb, ne_eqb}
use Rattle.regent_tree.specs.declared.outcome.FaultKind.TheVariants.{Depth}
use Rattle.region_tree.specs.declared.needs.Need.{Need}
use Rattle.region_tree.specs.Requirements.{Requirement}
use Rattle.task_code.specs.declared.code.NeedCode.{NeedCode}
use Rattle.task_code.specs.declared.code.TaskCode.{TaskCode}
use Rattle.machine_terms.specs.declared.frame.Frame.{Frame}
use Rattle.machine_terms.specs.declared.outcome.Yield.{Yield}
use Rattle.machine_terms.specs.declared.outcome.Yield.TheVariants as yield
use Rattle.machine_terms.specs.declared.value.PartitionValue.{PartitionValue}
use Rattle.machine_terms.specs.declared.value.RegionValue.{RegionValue}
use Rattle.machine_terms.specs.declared.value.Value.{Value}
use Rattle.machine_terms.specs.declared.value.Value.TheVariants as value
use Rattle.machine_terms.specs.Machine.{Machine, Stepped, stops, when, with_turns, faults, broken}
use Rattle.machine_terms.specs.Pointers.{region_in}
use Rattle.machine_terms.specs.Calls.{take_values, yield_call, calling, call_task, call}
use Rattle.machine_terms.specs.Opening.{with_points, need_on, needs_on}
use Rattle.fit_rules.specs.Shapes.{Shape, awaited, NumberIs, World, IsPartition, IsRegion, Is, is_anything, is_number, is_space, is_region, is_partition, is_cut, is_pending, Are, are_none, are_more, Origin, unknown, Each, ComesFrom, argument, own_root, own_as, part, child_at, held_at, KnowsRoots}
use Rattle.fit_rules.specs.Marks.{around, Into, Mark, stacked, Suits}
use Rattle.fit_rules.specs.Fits.{Begins, Beside, Program, requires, claim_on, declared_claims, root_claims, own_claims, claims, AreClaims, no_claims, a_claim, PartsFit, Fits}
use Rattle.fit_rules.specs.Sound.{Takes, Opens, To, Settled}
use Rattle.fit_rules.specs.Ends.{grown, called, opening_machine, without_parts, Safe, safe_stops}
use Rattle.fit_laws.proofs.Held.{over}
use Rattle.fit_laws.proofs.Taking.{takes_values, takes_settled, all_there}
use Rattle.fit_laws.proofs.Straight.{beside_moved, turned}

-- ---- one more child

module _ (x : World) (s : Shape) where
  origin_grown : (o : Origin) (r : RegionValue) → ComesFrom x o r → ComesFrom (grown x s) o r
  origin_grown unknown r c = c
  origin_grown (argument i) r c = c
  origin_grown own_root r c = c
  origin_grown (own_as i) r c = c
  origin_grown (part o) r c = (c.0, origin_grown o c.0 c.1, c.2)
  origin_grown (child_at p d o) r c = (c.0, origin_grown o c.0 c.1, c.2, c.3)
  origin_grown (held_at p o) r c = (origin_grown o r c.0, c.1)

  region_grown : (sp : Option ℕ) (o : Origin) (r : RegionValue) → IsRegion x sp o r → IsRegion (grown x s) sp o r
  region_grown sp o r i =
      record { there = i.there; space = i.space; points = i.points; set = i.set; origin = origin_grown o r i.origin }

  other_child : (i : ℕ) → i < x.children → i == x.children ≡ false
  other_child i l = ne_eqb i x.children (λ e. omega (arith, e, l))

  partition_grown : (sp : Option ℕ) (d : Bool) (q : PartitionValue) → IsPartition x sp d q → IsPartition (grown x s) sp d q
  partition_grown sp d q i = record {
    flag = i.flag;
    apart = i.apart;
    there = i.there;
    space = i.space;
    count = i.count;
    regions = λ r h. ((i.regions r h).0, region_grown sp unknown r (i.regions r h).1);
  }

  value_grown : (u : Shape) (v : Value) → Is x u v → Is (grown x s) u v
  value_grown _ _ (is_anything v) = is_anything v
  value_grown _ _ (is_number u z h) = is_number u z h
  value_grown _ _ (is_space n h) = is_space n h
  value_grown _ _ (is_region sp o r i) = is_region sp o r (region_grown sp o r i)
  value_grown _ _ (is_partition sp d q i) = is_partition sp d q (partition_grown sp d q i)
  value_grown _ _ (is_cut sp d o q i c) = is_cut sp d o q (partition_grown sp d q i)
      (record { parent = c.parent; origin = origin_grown o c.parent c.origin; root = c.root; inside = c.inside })
  value_grown _ _ (is_pending u i l h) = is_pending u i (omega (arith, l))
      (λ z q. h z (subst (λ b. NumberIs (cond b s (x.results i)) z) (other_child i l) q))

  pub are_grown : (ss : List Shape) (vs : List Value) → Are x ss vs → Are (grown x s) ss vs
  are_grown _ _ are_none = are_none
  are_grown _ _ (are_more u v ss vs h a) = are_more u v ss vs (value_grown u v h) (are_grown ss vs a)

  new_child : Is (grown x s) (awaited s) (value.Pending x.children)
  new_child = is_pending s x.children (omega arith)
      (λ z q. subst (λ b. NumberIs (cond b s (x.results x.children)) z) (eq-eqb x.children x.children refl) q)

own_grown : (g : Program) (x : World) (s : Shape) (rs : List ℕ) → own_claims g (grown x s) rs ≡ own_claims g x rs
own_grown g x s [] = refl
own_grown g x s (r ∷ rs) =
    ap (λ more. root_claims g r (x.spaces r) (x.points r) ++ more) (own_grown g x s rs)

pub claims_grown : (g : Program) (x : World) (s : Shape) (t : TaskCode) → claims g (grown x s) t ≡ claims g x t
claims_grown g x s t = ap (λ more. declared_claims t.needs x.args ++ more) (own_grown g x s x.own)

pub knows_grown : (x : World) (s : Shape) → KnowsRoots x → KnowsRoots (grown x s)
knows_grown x s k = record {
  own_there = k.own_there;
  args_there = k.args_there;
  last_own = k.last_own;
  one_number = k.one_number;
  args_other = k.args_other;
}

pub suits_grown : (x : World) (s : Shape) (params : ℕ) (m : Mark) (vs st : List Value) → Suits x params m vs st → Suits (grown x s) params m vs st
suits_grown x s params m vs st h = record {
  slots = are_grown x s _ vs h.slots;
  stack = are_grown (around x m vs) s _ st h.stack;
  facts = h.facts;
  top = h.top;
  args = h.args;
}

pub no_parts : (g : Program) (x : World) (t : TaskCode) → PartsFit g x t []
no_parts g x t root f q e = absurd (none-some q e)

-- a frame for which no part is held
abbrev pub bare : Frame → Machine
bare f = record { frame = f; parts = [] }

pub beside_grown : (g : Program) (x : World) (s : Shape) (t : TaskCode) (k : ℕ) (f : Frame) → Beside g x t k (bare f) →
    suc (f.children + f.turns) < 2 ^ 64 → Beside g (grown x s) t k (bare (record f { children = suc f.children }))
beside_grown g x s t k f b l = record {
  task = b.task;
  needs = subst (AreClaims f.needs.items) (sym (claims_grown g x s t)) b.needs;
  parts = no_parts g (grown x s) t;
  children = ap suc b.children;
  calls = omega (arith, l);
  own = b.own;
  roots = knows_grown x s b.roots;
  begins = b.begins;
}

-- ---- opening frames

claim_more : (n : NeedCode) (o : Option RegionValue) (ns : List Need) (rs : List Requirement) → AreClaims ns (rs ++ []) →
    AreClaims (need_on n o ns) (claim_on n o rs ++ [])
claim_more n None ns rs h = h
claim_more n (Some r) ns rs h = of_points r.points
    (record { root = r.root; node = r.node; field = n.field; mode = n.mode })
    (requires r.root.0 r.points n.mode n.field) ns rs refl refl refl h
  where
    of_points : (xs : List ℕ) (a : Need) (c : Requirement) (ns : List Need) (rs : List Requirement) →
        a.root.0 ≡ c.root → a.field ≡ c.field → a.mode ≡ c.mode → AreClaims ns (rs ++ []) →
        AreClaims (with_points xs a ns) (with_points xs c rs ++ [])
    of_points [] a c ns rs er ef em h = h
    of_points (x ∷ xs) a c ns rs er ef em h = a_claim a c ns (rs ++ []) er ef em h

claims_open : (ns : List NeedCode) (vs : List Value) → AreClaims (needs_on ns vs) (declared_claims ns vs ++ [])
claims_open [] vs = no_claims
claims_open (n ∷ ns) vs = claim_more n (region_in (slice_get vs n.param)) _ _ (claims_open ns vs)

pub opening_fits : (g : Program) (x : World) (k : ℕ) (t : TaskCode) (vs : List Value) (turns depth : ℕ) → turns < 2 ^ 64 →
    0 < length t.body → ((i : ℕ) (r : RegionValue) → region_in (slice_get vs i) ≡ Some r → x.there r.root.0 ≡ true) →
    Into t.params (g.begins k) (g.marks k 0) → Begins g x t k vs → Fits g (called x vs) t k (opening_machine turns depth k t vs)
opening_fits g x k t vs turns depth h l there first s = record {
  inside = l;
  suits = first (called x vs) _ [] s.1;
  beside = record {
    task = refl;
    needs = claims_open t.needs vs;
    parts = no_parts g (called x vs) t;
    children = refl;
    calls = omega (arith, h);
    own = refl;
    roots = record {
      own_there = λ r h. absurd h;
      args_there = there;
      last_own = λ i r e. absurd (none-some r e);
      one_number = λ i j r p e f h. absurd (none-some r e);
      args_other = λ i j p r e h f. none-some r.root.0 f;
    };
    begins = s;
  };
}

-- ---- calls

module _ (g : Program) (x : World) (t : TaskCode) (k : ℕ) (m : Machine) (fit : Fits g x t k m) where
  caller_fits : (task p : ℕ) (rest : List Shape) (st : List Value) → suc p ≡ m.frame.turns →
      To g t k (stacked (g.marks k m.frame.pc) (awaited (g.results task) ∷ rest)) (suc m.frame.pc) → Are (over g x k m) rest st →
      Fits g (grown x (g.results task)) t k (without_parts (record m {
        frame = record m.frame {
          turns = p;
          pc = suc m.frame.pc;
          stack = value.Pending m.frame.children ∷ st;
          children = suc m.frame.children;
        };
      }))
  caller_fits task p rest st e to a = record {
    inside = to.0;
    suits = to.1 (grown x (g.results task)) m.frame.slots _ (record {
      slots = are_grown x (g.results task) _ m.frame.slots fit.suits.slots;
      stack = are_more _ _ rest st (subst (λ c. Is (grown (over g x k m) (g.results task)) (awaited (g.results task)) (value.Pending c))
          (sym fit.beside.children) (new_child (over g x k m) (g.results task))) (are_grown (over g x k m) (g.results task) rest st a);
      facts = fit.suits.facts;
      top = tt;
      args = fit.suits.args;
    });
    beside = beside_grown g x (g.results task) t k (record m.frame { turns = p; pc = suc m.frame.pc; stack = value.Pending m.frame.children ∷ st })
        (beside_moved g x t k m fit (suc m.frame.pc) p m.frame.slots (value.Pending m.frame.children ∷ st) [] (omega (arith, e)) (no_parts g x t))
        (omega (arith, e, fit.beside.calls));
  }

  issued : (task line p : ℕ) (callee : TaskCode) (args rest : List Shape) (ws st : List Value) → length t.body ≤ 2 ^ 32 →
      slice_get g.code.tasks task ≡ Some callee → 0 < length callee.body →
      Opens g t (g.marks k m.frame.pc) task callee args → suc p ≡ m.frame.turns →
      To g t k (stacked (g.marks k m.frame.pc) (awaited (g.results task) ∷ rest)) (suc m.frame.pc) →
      Each Settled args → Are (over g x k m) args ws → Are (over g x k m) rest st → Safe g x t k (yield_call task ws st (with_turns p m))
  issued task line p callee args rest ws st short there some o e to settled aw ar =
      let opens = o.1 x m.frame.slots m.frame.stack ws fit.beside.roots fit.suits aw in
      subst (λ b. Safe g x t k (when b (when (nat_lt (suc m.frame.pc) (2 ^ 32)) (stops y next) (broken next)) (broken (with_turns p m))))
      (sym (lt-ltb (suc m.frame.children) (2 ^ 64) (omega (arith, e, fit.beside.calls))))
      (subst (λ b. Safe g x t k (when b (stops y next) (broken next)))
      (sym (lt-ltb (suc m.frame.pc) (2 ^ 32) (omega (arith, to.0, short))))
      (safe_stops _ _ (
        fit.beside.parts,
        (
          (
            record {
              callee = callee;
              there = there;
              opens = λ turns depth h. opening_fits g x task callee ws turns depth h some (all_there (over g x k m) args ws settled aw) o.0 opens.0;
              needed = opens.1;
              within = opens.2;
            },
            tt,
          ),
          caller_fits task p rest st e to ar,
        ),
      )))
    where
      y : Yield
      y = yield.Calls (record { task = task; args = ws } ∷ [])

      next : Machine
      next = record m {
        frame = record m.frame {
          turns = p;
          pc = suc m.frame.pc;
          stack = value.Pending m.frame.children ∷ st;
          children = suc m.frame.children;
        };
      }

  pub call_safe : length t.body ≤ 2 ^ 32 → (task n line : ℕ) (callee : TaskCode) (args rest : List Shape) →
      slice_get g.code.tasks task ≡ Some callee → callee.params ≡ n → 0 < length callee.body →
      Takes n (g.marks k m.frame.pc).stack [] args rest → Opens g t (g.marks k m.frame.pc) task callee args →
      To g t k (stacked (g.marks k m.frame.pc) (awaited (g.results task) ∷ rest)) (suc m.frame.pc) →
      Safe g x t k (call g.code task n line m)
  call_safe short task n line callee args rest there ep some tk o to =
      let w = takes_values (over g x k m) n _ [] args rest m.frame.stack [] tk fit.suits.stack are_none in
      subst (λ c. Safe g x t k (call_task c task n line m)) (sym there)
      (subst (λ b. Safe g x t k (when b (calling task line (take_values n m.frame.stack []) m) (broken m)))
      (sym (eq-eqb callee.params n ep))
      (subst (λ z. Safe g x t k (calling task line z m)) (sym w.is)
      (turned g x t k m fit m.frame.turns line _ refl (λ p e. deep (nat_lt m.frame.depth 64) p
      (issued task line p callee args rest w.values w.below short there some o e to (takes_settled n _ [] args rest tk tt) w.args_are w.rest_are)))))
    where
      deep : (b : Bool) (p : ℕ) → {a : Stepped} → Safe g x t k a → Safe g x t k (when b a (faults Depth line (with_turns p m)))
      deep true p h = h
      deep false p h = safe_stops _ _ (fit.beside.parts, tt)
