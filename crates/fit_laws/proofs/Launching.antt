-- The code of the example with a launch is sound.
use Rattle.std.proofs.Common.{◌≡◌, inl, inr, ℕ, zero, suc, ◌<◌, pos, List, [], ◌∷◌, true, Some, refl, sym, ap, ◌∙◌, subst, arith}
use Rattle.std.specs.Prelude.{get_or, length, slice_get}
use Rattle.std.proofs.lemmas.Int.{ints}
use Rattle.std.proofs.lemmas.Option.{same_Some}
use Rattle.index_launch.specs.Points.{call_at}
use Rattle.index_launch.specs.declared.points.LaunchArg.TheVariants as launch_arg
use Rattle.index_launch.specs.declared.points.PointArg.TheVariants as point
use Rattle.lane_kernels.specs.declared.numbers.Mode.TheVariants.{Write}
use Rattle.lane_kernels.specs.declared.numbers.Width.TheVariants.{W32}
use Rattle.plain_values.specs.Points.{has}
use Rattle.region_tree.specs.Requirements.{IsWithin}
use Rattle.task_code.specs.declared.code.NeedCode.{NeedCode}
use Rattle.machine_terms.specs.declared.value.RegionValue.{RegionValue}
use Rattle.machine_terms.specs.declared.value.Value.{Value}
use Rattle.machine_terms.specs.declared.value.Value.TheVariants as value
use Rattle.machine_terms.specs.Launches.{argument as argument_at, arguments}
use Rattle.machine_terms.specs.Pointers.{region_in}
use Rattle.fit_rules.specs.Shapes.{Among, anything, are_more, are_none, argument, Each, index, integer, Is, is_number, is_region, IsRegion, LiesIn, numeric_index, numeric_integer, space, World}
use Rattle.fit_rules.specs.Marks.{IsParted, Mark, parted, Stores, Suits}
use Rattle.fit_rules.specs.Fits.{Begins, called, count_at, declared_claims, claims, declares_it}
use Rattle.fit_rules.specs.Ends.{IsNeeded}
use Rattle.fit_rules.specs.Sound.{does_num, does_space, makes_launch, OpensEach, OpensWith, returns, settled_number, Sound, stored, straight}
use Rattle.fit_laws.specs.Launching.{body, callee, caller, LaunchCalls, LaunchIsSound, mark, marks, need, others, program}
use Rattle.fit_laws.specs.Within.{IsGranted}
use Rattle.fit_laws.proofs.Example.{fetched}
use Rattle.fit_laws.proofs.Keeping.{set_each, stores_behind}
use Rattle.fit_laws.proofs.Launches.{both_there, BothThere, handed_child, HandedChild}
use Rattle.fit_laws.proofs.Lookup.{value_at}
use Rattle.fit_laws.proofs.Pointers.{among_coloured}
use Rattle.fit_laws.proofs.Within.{covered_needs_are_within}

-- ---- the arguments at a colour

number_anywhere : (x y : World) (v : Value) → Is x (integer W32) v → Is y (integer W32) v
number_anywhere x y _ (is_number _ z h) = is_number (integer W32) z h

module _ (x : World) (vs st ws : List Value) (c : ℕ) (suits : Suits x 3 (mark space []) vs st) (low : c < 4194304)
    (e : arguments vs (call_at (launch_arg.Child 1 ∷ others) c) ≡ Some ws) where
  first : BothThere (argument_at vs (point.Child 1 c)) (arguments vs (call_at others c)) ws
  first = both_there _ _ ws e

  second : BothThere (slice_get vs 2) (Some (value.Number (pos 5) ∷ value.Number (pos c) ∷ [])) first.tail
  second = both_there _ _ first.tail first.more

  child : HandedChild x vs (Some 0) 1 c first.head
  child = handed_child x (mark space []).slots vs (Some 0) true 1 c first.head suits.slots refl first.first

  abbrev given : List Value
  given = value.Region child.region ∷ second.head ∷ value.Number (pos 5) ∷ value.Number (pos c) ∷ []

  is_given : given ≡ ws
  is_given = ap (λ us. value.Region child.region ∷ second.head ∷ us) (same_Some _ _ second.more)
      ∙ ap (λ us. value.Region child.region ∷ us) second.are ∙ ap (λ v. v ∷ first.tail) (sym child.is) ∙ first.are

  -- they are such as a frame begins with
  region_called : IsRegion (called x given) (Some 0) (argument 0) child.region
  region_called = record {
    there = child.of_space.there;
    space = child.of_space.space;
    set = child.of_space.set;
    points = child.of_space.points;
    origin = refl;
  }

  number_called : Is (called x given) (integer W32) second.head
  number_called =
      let w = value_at x (mark space []).slots vs 2 (integer W32) suits.slots refl in
      number_anywhere x (called x given) second.head (subst (Is x (integer W32)) (same_Some w.value second.head (sym w.at ∙ second.first)) w.of)

  begins : Begins program x callee 1 given
  begins = (
    refl,
    record {
      slots = are_more _ _ _ _ (is_region (Some 0) (argument 0) child.region region_called)
          (are_more _ _ _ _ number_called
          (are_more _ _ _ _ (is_number (integer W32) (pos 5) (omega (arith, ints)))
          (are_more _ _ _ _ (is_number (integer W32) (pos c) (omega (arith, ints, low))) are_none)));
      stack = are_none;
      facts = tt;
      top = tt;
      args = λ i l. refl;
    },
  )

  needed : IsNeeded program x given need
  needed = record {
    region = child.region;
    argument = refl;
    there = child.of_space.there;
    field = subst (λ n. 0 < count_at program n) (sym child.of_space.space) (omega arith);
  }

  -- the child lies within the caller's region
  parent : IsParted vs child.child.parts 0
  parent = suits.facts.0 child.child.parts child.child.there

  inside : LiesIn child.region parent.parent
  inside = parent.inside child.region (among_coloured child.child.parts.children child.child.colour child.region child.child.child)

  granted : (p : ℕ) → has child.region.points p ≡ true → IsGranted program x caller child.region.root.0 0 p Write
  granted p h = inl (declares_it Write (record {
    need = need;
    is_there = inl refl;
    its_field = refl;
    its_mode = refl;
    region = parent.parent;
    argument = sym (suits.args 0 (omega arith)) ∙ parent.at;
    its_root = sym inside.0;
    its_point = inside.1 p h;
  }))

  within : IsWithin (declared_claims callee.needs given) (claims program x caller)
  within = covered_needs_are_within program x caller callee.needs given covered
    where
      covered : (n : NeedCode) → Among callee.needs n → (r : RegionValue) → region_in (slice_get given n.param) ≡ Some r →
          (p : ℕ) → has r.points p ≡ true → IsGranted program x caller r.root.0 n.field p n.mode
      covered n (inl q) = subst (λ (y : NeedCode). (r : RegionValue) → region_in (slice_get given y.param) ≡ Some r →
          (p : ℕ) → has r.points p ≡ true → IsGranted program x caller r.root.0 y.field p y.mode) q
          (λ r er. subst (λ (y : RegionValue). (p : ℕ) → has y.points p ≡ true → IsGranted program x caller y.root.0 0 p Write)
          (same_Some child.region r er) granted)
      covered n (inr h) = absurd h

  pub opened : OpensWith program caller x 1 callee ws
  opened = subst (OpensWith program caller x 1 callee) is_given (begins, (needed, tt), within)

opens : OpensEach program caller (mark space []) 1 callee (launch_arg.Child 1 ∷ others)
opens = (λ x vs st s. s, λ x vs st ws c roots suits low e. opened x vs st ws c suits low e)

-- ---- the code

stores_space : Stores 3 (mark anything (space ∷ [])) 3 (mark space [])
stores_space = stores_behind 3 (mark anything (space ∷ [])) 3 space space [] refl (omega arith) (omega arith) tt
    (λ vs v h. set_each vs 3 v (parted 1 0 ∷ []) ((λ e. omega (arith, e), λ e. omega (arith, e)), tt) h) (λ x v h. h)

four : (ms : List Mark) (pc : ℕ) → Each (λ m. length m.slots ≡ 4) ms → length (get_or ms pc (mark space [])).slots ≡ 4
four [] pc h = refl
four (m ∷ ms) zero h = h.0
four (m ∷ ms) (suc pc) h = four ms pc h.1

pub launch_is_sound : LaunchIsSound
launch_is_sound = (
  record {
    there = refl;
    short = omega arith;
    valid = fetched (Sound program caller 0) body (
      straight _ _ (does_num (pos 2) index [] (omega (arith, ints))) (omega arith, λ x vs st s. s),
      (
        straight _ _ (does_space index [] numeric_index) (omega arith, λ x vs st s. s),
        (
          stored 3 _ [] refl (omega arith) (omega arith, stores_space),
          (
            makes_launch 1 3 2 _ callee refl refl (omega arith) refl (
              (Some 0, record { disjoint = true; shape = refl }),
              ((integer W32, refl, settled_number _ (numeric_integer W32)), (tt, (tt, tt))),
            ) opens (omega arith, λ x vs st s. s),
            (returns, tt),
          ),
        ),
      ),
    );
    slots = λ pc. four marks pc (refl, (refl, (refl, (refl, (refl, tt)))));
  },
  record {
    there = refl;
    short = omega arith;
    valid = fetched (Sound program callee 1) callee.body (returns, tt);
    slots = λ pc. refl;
  },
)

pub launch_calls : LaunchCalls
launch_calls = refl
