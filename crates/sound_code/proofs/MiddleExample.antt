-- A state in the middle of compiled code fits, since its task's first one does, and each that a segment leaves; and states that
-- differ from it in one thing don't, since they break the law, now or where their segment ends.
use Rattle.std.proofs.Common.{◌≡◌, inl, inr, ⊎_elim, ℕ, ◌^◌, ℤ, pos, List, [], ◌∷◌, true, false, ◌||◌, Some, refl, sym, ap, ◌∙◌, subst, arith}
use Rattle.std.specs.Int.{int_wrap}
use Rattle.std.specs.Prelude.{◌≢◌, ◌==◌, length, replicate, slice_get, suc}
use Rattle.std.proofs.lemmas.Bool.{cases_Bool, false≢true}
use Rattle.std.proofs.lemmas.Int.{ints}
use Rattle.std.proofs.lemmas.Option.{same_Some}
use Rattle.lane_kernels.specs.declared.numbers.FieldKind.TheVariants.{Int32 as Narrow, Int64 as Wide}
use Rattle.lane_kernels.specs.declared.numbers.Mode.TheVariants.{Read, Write}
use Rattle.lane_kernels.specs.declared.numbers.Width.TheVariants.{W32, W64}
use Rattle.lane_kernels.specs.Numbers.{FitsWidth}
use Rattle.plain_values.specs.Points.{has, points}
use Rattle.region_tree.specs.declared.needs.Need.{Need}
use Rattle.region_tree.specs.declared.piece.Part.{Part}
use Rattle.region_tree.specs.declared.tree.RootId.{RootId}
use Rattle.region_tree.specs.Requirements.{Requirement}
use Rattle.task_code.specs.declared.code.TaskCode.{TaskCode}
use Rattle.machine_terms.specs.declared.frame.Before.{Before}
use Rattle.machine_terms.specs.declared.frame.Frame.{Frame}
use Rattle.machine_terms.specs.declared.outcome.CallOut.{CallOut}
use Rattle.machine_terms.specs.declared.outcome.Yield.{Yield}
use Rattle.machine_terms.specs.declared.outcome.Yield.TheVariants as yield
use Rattle.machine_terms.specs.declared.value.RegionValue.{RegionValue}
use Rattle.machine_terms.specs.declared.value.Value.{Value}
use Rattle.machine_terms.specs.declared.value.Value.TheVariants as value
use Rattle.machine_terms.specs.Opening.{opening}
use Rattle.machine_terms.specs.Parts.{part_of}
use Rattle.machine_terms.specs.Pointers.{region_in}
use Rattle.machine_terms.specs.Segments.{segment}
use Rattle.regent_tree.specs.Limits.{parts_of_program, WithinLimits}
use Rattle.code_rules.specs.Programs.{code_of}
use Rattle.fit_rules.specs.Shapes.{Among, anything, argument, integer, IsRegion, is_number, is_region, Are, are_more, are_none, region, Shape, unknown, World}
use Rattle.fit_rules.specs.Marks.{apart, lies, LiesAt, in_slot, Mark, Suits}
use Rattle.fit_rules.specs.Fits.{a_claim, BeforeFits, Fits, no_claims, PartFits, Program, root_claims, AreClaims}
use Rattle.fit_rules.proofs.Points.{counted_points}
use Rattle.fit_rules.specs.Ends.{AfterFits, called, grown, IsLeft, IsMet, IsMadeOf, opening_machine, rooted, with_root}
use Rattle.sound_code.specs.MiddleExample.{args_of, cut, FailsEach, FitsInside, five, folded, given_halves, given_needs, halves, held, made, middle, middle_program, MiddleExampleHolds, needs, one_root, own_needs, part, parts, pointer_at, slots_of, state, whole, work, work_code, world_of}
use Rattle.sound_code.proofs.MiddleParts.{folded_fits, held_fits}
use Rattle.sound_code.proofs.LeftWith.{after_left, await_low, await_met, call_met, first_of, number_of, partition_met, region_of, rest_of, root_met, want_met}
use Rattle.code_laws.proofs.LocalExample.{all_keep}
use Rattle.code_laws.proofs.WrittenForms.{program_written}
use Rattle.code_laws.specs.AcceptedPrograms.{IsProgramRun}
use Rattle.sound_code.specs.Programs.{argument_shapes, AreConstrained, TasksKeepRules}
use Rattle.sound_code.proofs.Rules.{whole_programs_are_sound}

-- ---- what the law gives

-- the marks in which frames of the two tasks begin
abbrev work_begins : Mark
work_begins = record {
  slots = region (Some 0) (argument 0) ∷ region (Some 0) (argument 1) ∷ integer W32 ∷ replicate 12 anything;
  facts = lies (in_slot 1) (in_slot 0) ∷ [];
  stack = [];
  top = [];
  fixed = 3;
}

abbrev two_begins : Mark
two_begins = record {
  slots = region (Some 0) (argument 0) ∷ region (Some 0) (argument 1) ∷ region (Some 0) (argument 2) ∷ integer W32
      ∷ region (Some 0) (argument 4) ∷ region (Some 0) (argument 5) ∷ [];
  facts = apart (in_slot 0) (in_slot 1) ∷ lies (in_slot 0) (in_slot 2) ∷ lies (in_slot 4) (in_slot 5) ∷ [];
  stack = [];
  top = [];
  fixed = 6;
}

record Law (g : Program) : Type 0 where
  opens : Fits g (called one_root (args_of part)) work_code 1 (opening_machine 9 2 1 work_code (args_of part))
  fits : (x : World) (b : Before) → BeforeFits g x work_code 1 b → AfterFits g x work_code 1 (segment b)
  unbroken : (x : World) (b : Before) → BeforeFits g x work_code 1 b → (segment b).ends ≢ yield.MachineFault
  two : g.begins 0 ≡ two_begins
  work : g.begins 1 ≡ work_begins

-- ---- a program with such code

module _ (positions : ℕ → ℕ → ℕ) (results : ℕ → Shape) (begins : ℕ → Mark) (marks : ℕ → ℕ → Mark) where
  abbrev g : Program
  g = record { code = code_of middle_program; positions = positions; results = results; begins = begins; marks = marks }

  module _ (law : Law g) where
    -- ---- from its first frame on

    abbrev zeroes : Value
    zeroes = value.Number (pos 0)

    abbrev slots_at : Value → Value → List Value
    slots_at o p = value.Region whole ∷ value.Region part ∷ five ∷ o ∷ zeroes ∷ zeroes ∷ p ∷ replicate 8 zeroes

    abbrev frame_at : ℕ → List Value → List Value → List Need → List RootId → Frame
    frame_at pc slots stack ns own = record (state pc slots stack ns 9 0 []).frame { own = own }

    abbrev before_at : ℕ → List Value → List Value → List Need → List RootId → Before
    before_at pc slots stack ns own = record { code = code_of middle_program; frame = frame_at pc slots stack ns own; parts = [] }

    abbrev x0 : World
    x0 = called one_root (args_of part)

    abbrev five_made : List RootId
    five_made = record { 0 = 5 } ∷ []

    left_at : (y : World) (b : Before) → BeforeFits g y work_code 1 b → IsLeft g y work_code 1 (segment b).ends (segment b).frame (segment b).parts
    left_at y b f = after_left g y work_code 1 (segment b) (law.fits y b f)

    -- it makes a root
    abbrev unmade : List Value
    unmade = slots_at zeroes zeroes

    opening_left : (i : ℕ) × ((r : RegionValue) (ns : List Need) → x0.there r.root.0 ≡ false → r.points ≡ points 2 → AreClaims ns (root_claims g r.root.0 0 (points 2)) →
        Fits g (rooted x0 i r.root.0 0 2) work_code 1 (with_root r ns r.root (record { frame = frame_at 3 unmade [] given_needs []; parts = [] })))
    opening_left = root_met g x0 work_code 1 2 0 (record { frame = frame_at 3 unmade [] given_needs []; parts = [] })
        (left_at x0 (record { code = code_of middle_program; frame = opening 9 2 1 work_code (args_of part); parts = [] }) (record { code = refl; machine = law.opens }))

    abbrev number : ℕ
    number = opening_left.0

    abbrev x1 : World
    x1 = world_of number (args_of part)

    abbrev after_root : Before
    after_root = before_at 3 unmade (value.Region made ∷ []) needs five_made

    rooted_fits : BeforeFits g x1 work_code 1 after_root
    rooted_fits = record { code = refl; machine = opening_left.1 made own_needs refl refl (a_claim _ _ _ _ refl refl refl (a_claim _ _ _ _ refl refl refl no_claims)) }

    -- it cuts it, and the region that it was given
    halves_made : (root : ℕ) → IsMadeOf root true ((0 ∷ []) ∷ (1 ∷ []) ∷ []) (cut root (0 ∷ []) (1 ∷ []))
    halves_made root = record { of_root = refl; flagged = refl; made = refl; roots = each }
      where
        each : (r : RegionValue) → Among (cut root (0 ∷ []) (1 ∷ [])).children r → r.root.0 ≡ root
        each r (inl e) = ap (λ (q : RegionValue). q.root.0) (sym e)
        each r (inr (inl e)) = ap (λ (q : RegionValue). q.root.0) (sym e)
        each r (inr (inr h)) = absurd h

    abbrev uncut : List Value
    uncut = slots_at (value.Region made) zeroes

    abbrev after_cut : Before
    after_cut = before_at 7 uncut (value.Partition halves ∷ []) needs five_made

    cut_fits : BeforeFits g x1 work_code 1 after_cut
    cut_fits = record {
      code = refl;
      machine = partition_met g x1 work_code 1 made ((0 ∷ []) ∷ (1 ∷ []) ∷ []) true (record { frame = frame_at 7 uncut [] needs five_made; parts = [] })
          (left_at x1 after_root rooted_fits) halves (halves_made 5);
    }

    abbrev once_cut : List Value
    once_cut = slots_at (value.Region made) (value.Partition halves)

    abbrev after_both : Before
    after_both = before_at 11 once_cut (value.Partition given_halves ∷ []) needs five_made

    both_fit : BeforeFits g x1 work_code 1 after_both
    both_fit = record {
      code = refl;
      machine = partition_met g x1 work_code 1 whole ((0 ∷ []) ∷ (1 ∷ []) ∷ []) true (record { frame = frame_at 11 once_cut [] needs five_made; parts = [] })
          (left_at x1 after_cut cut_fits) given_halves (halves_made 3);
    }

    -- it wants the field that it reduces, and adds 2 to what is to be added
    abbrev twice_cut : List Value
    twice_cut = value.Region whole ∷ value.Region part ∷ five ∷ value.Region made ∷ zeroes ∷ zeroes ∷ value.Partition halves ∷ zeroes ∷ zeroes
        ∷ value.Partition given_halves ∷ replicate 5 zeroes

    abbrev at_sum : Frame
    at_sum = frame_at 15 twice_cut (pointer_at 1 ∷ value.Number (pos 2) ∷ []) needs five_made

    abbrev at_reduce : Before
    at_reduce = record { code = code_of middle_program; frame = at_sum; parts = folded 5 ∷ [] }

    reduce_fits : BeforeFits g x1 work_code 1 at_reduce
    reduce_fits = record {
      code = refl;
      machine = want_met g x1 work_code 1 (record { 0 = 3 }) 1 (record { frame = at_sum; parts = [] }) (left_at x1 after_both both_fit) (folded 5) refl refl
          (folded_fits positions results begins marks number);
    }

    sum_left : IsMet g x1 work_code 1 (yield.Want (record { 0 = 3 }) 0) (record { frame = middle.frame; parts = folded 7 ∷ [] })
    unfolding int_wrap
    sum_left = left_at x1 at_reduce reduce_fits

    -- and wants the one that it reads
    fits_inside : FitsInside g
    fits_inside = (
      number,
      record {
        code = refl;
        machine = want_met g x1 work_code 1 (record { 0 = 3 }) 0 (record { frame = middle.frame; parts = folded 7 ∷ [] }) sum_left held refl refl (held_fits positions results begins marks number);
      },
    )

    -- ---- by what its segment is left with

    met_at : (y : World) (b : Before) (ends : Yield) (f : Frame) → (segment b).ends ≡ ends → (segment b).frame ≡ Some f → BeforeFits g y work_code 1 b →
        IsMet g y work_code 1 ends (record { frame = f; parts = (segment b).parts })
    met_at y b ends f e d fits = subst (λ q. IsMet g y work_code 1 q (record { frame = f; parts = (segment b).parts })) e
        (subst (λ o. IsLeft g y work_code 1 (segment b).ends o (segment b).parts) d (left_at y b fits))

    -- the task that it calls begins with arguments of its parameters' types, of which the constraints hold
    abbrev args_two : RegionValue → RegionValue → RegionValue → Value → RegionValue → List Value
    args_two a b c n d = value.Region a ∷ value.Region b ∷ value.Region c ∷ n ∷ value.Region d ∷ value.Region whole ∷ []

    record Called (y : World) (a b c : RegionValue) (n : Value) (d : RegionValue) : Type 0 where
      callee : TaskCode
      begins_so : Suits (called y (args_two a b c n d)) callee.params two_begins (opening 0 0 0 callee (args_two a b c n d)).slots []

    called_at : (y : World) (b : Before) (f : Frame) (a0 a1 a2 : RegionValue) (n : Value) (d : RegionValue) →
        (segment b).ends ≡ yield.Calls (record { task = 0; args = args_two a0 a1 a2 n d } ∷ []) →
        (segment b).frame ≡ Some f → BeforeFits g y work_code 1 b → Called y a0 a1 a2 n d
    called_at y b f a0 a1 a2 n d e h fits =
        let args = args_two a0 a1 a2 n d in
        let c : CallOut = record { task = 0; args = args } in
        let w = call_met g y work_code 1 c (record { frame = f; parts = (segment b).parts }) (met_at y b (yield.Calls (c ∷ [])) f e h fits) in record {
          callee = w.callee;
          begins_so = subst (λ m. Suits (called y args) w.callee.params m (opening 0 0 0 w.callee args).slots []) law.two (w.opens 0 0 (omega arith)).beside.begins.1;
        }

    -- the number that it is given
    fourth_number : (y : World) (a b c : RegionValue) (z : ℤ) (d : RegionValue) → Called y a b c (value.Number z) d → FitsWidth W32 z
    fourth_number y a b c z d h = number_of _ (integer W32) z (first_of _ _ _ _ _ (rest_of _ _ _ _ _ (rest_of _ _ _ _ _ (rest_of _ _ _ _ _ h.begins_so.slots))))

    -- the frame began with arguments of which the constraint holds
    begun : (y : World) (b : Before) → BeforeFits g y work_code 1 b →
        Suits (called y y.args) work_code.params work_begins (opening 0 0 1 work_code y.args).slots []
    begun y b f = subst (λ m. Suits (called y y.args) work_code.params m (opening 0 0 1 work_code y.args).slots []) law.work
        f.machine.beside.begins.1

    -- ---- the part, as it stands

    part_at : (y : World) (b : Before) → BeforeFits g y work_code 1 b → (q : Part) → part_of b.parts 3 0 ≡ Some q → PartFits g y work_code 3 0 q
    part_at y b f q e = f.machine.beside.parts 3 0 q e

    second_claim : (a b : Need) (ns : List Need) (c d : Requirement) (rs : List Requirement) → AreClaims (a ∷ b ∷ ns) (c ∷ d ∷ rs) → b.field ≡ d.field
    second_claim a b ns c d rs (a_claim _ _ _ _ e f h (a_claim _ _ _ _ i j k more)) = j

    -- as many needs as claims
    as_many : (ns : List Need) (rs : List Requirement) → AreClaims ns rs → length ns ≡ length rs
    as_many _ _ no_claims = refl
    as_many _ _ (a_claim n r ns rs e h k more) = ap suc (as_many ns rs more)

    fails_each : FailsEach g
    fails_each = record {
      place = λ i f. absurd (omega (arith, f.machine.inside));
      kind = λ i f. law.unbroken _ _ f refl;
      stack = λ i f. law.unbroken _ _ f refl;
      part_kind = λ i f. let e : Wide ≡ Narrow = (part_at _ _ f _ refl).kind in absurd cc;
      root = λ i f. false≢true (region_of _ _ _ _ (first_of _ _ _ _ _ (rest_of _ _ _ _ _ (begun _ _ f).slots))).there;
      space = λ i f. let e : 1 ≡ 0 = (region_of _ _ _ _ (first_of _ _ _ _ _ (begun _ _ f).slots)).space in absurd (omega (arith, e));
      child = λ i f. let l = await_low g _ work_code 1 0 _ (met_at _ _ (yield.Await 0) _ refl refl f) in absurd (omega (arith, l));
      result = λ i f.
          let fit = await_met g _ work_code 1 0 _ (met_at _ _ (yield.Await 0) _ refl refl f) (pos (2 ^ 40)) (omega (arith, ints)) in
          let b : Before = state 24 (slots_of part (value.Number (pos (2 ^ 40))) made halves given_halves 1) (value.Number (pos 41) ∷ []) needs 8 1 parts in
          let again : BeforeFits g (grown (world_of i (args_of part)) (integer W64)) work_code 1 b = record { code = refl; machine = fit } in
          let z = fourth_number _ _ _ _ _ _ (called_at _ b _ _ _ _ _ _ refl refl again) in absurd (omega (arith, ints, z));
      number = λ i f. let z = fourth_number _ _ _ _ _ _ (called_at _ _ _ _ _ _ _ _ refl refl f) in absurd (omega (arith, ints, z));
      part_number = λ i f. let h = ((part_at _ _ f _ refl).cells 1).1 in absurd (omega (arith, ints, h));
      reduced = λ i f. let h = ((f.machine.beside.parts 3 1 _ refl).cells 1).1.0 in absurd (omega (arith, ints, h));
      position = λ i f. law.unbroken _ _ f refl;
      count = λ i f. law.unbroken _ _ f refl;
      flag = λ i f. false≢true (sym ((called_at _ _ _ _ _ _ _ _ refl refl f).begins_so.facts.0 _ _ refl refl refl 1 refl));
      points = λ i f.
          let w = (called_at _ _ _ _ _ _ _ _ refl refl f).begins_so.facts.1.0 _ refl in
          false≢true (ap (λ (r : RegionValue). has r.points 2) (same_Some _ _ w.at) ∙ w.inside.1 2 refl);
      parent = λ i f.
          let w = (called_at _ _ _ _ _ _ _ _ refl refl f).begins_so.facts.1.1.0 _ refl in
          false≢true (ap (λ (r : RegionValue). has r.points 2) (same_Some _ _ w.at) ∙ w.inside.1 2 refl);
      partition_root = λ i f.
          let w = (called_at _ _ _ _ _ _ _ _ refl refl f).begins_so.facts.1.1.0 _ refl in
          let e : 5 ≡ 3 = w.inside.0 ∙ sym (ap (λ (r : RegionValue). r.root.0) (same_Some _ _ w.at)) in absurd (omega (arith, e));
      constraint = λ i f.
          let w = (begun _ _ f).facts.0 _ refl in
          false≢true (ap (λ (r : RegionValue). has r.points 2) (same_Some _ _ w.at) ∙ w.inside.1 2 refl);
      argument = λ i f. false≢true (ap (λ (r : RegionValue). has r.points 1) (same_Some _ _ (f.machine.suits.args 1 (omega arith))));
      own = λ i f.
          let w = (called_at _ _ _ _ _ _ _ _ refl refl f).begins_so.facts.1.0 _ refl in
          false≢true (ap (λ (r : RegionValue). has r.points 0) (same_Some _ _ w.at) ∙ w.inside.1 0 refl);
      other = λ i f.
          let w = (called_at _ _ _ _ _ _ _ _ refl refl f).begins_so.facts.1.0 _ refl in
          let e : 5 ≡ 3 = w.inside.0 ∙ sym (ap (λ (r : RegionValue). r.root.0) (same_Some _ _ w.at)) in absurd (omega (arith, e));
      declared_need = λ i f. let e : 1 ≡ 0 = second_claim _ _ _ _ _ _ f.machine.beside.needs in absurd (omega (arith, e));
      own_need = λ i f. let e : 4 ≡ 5 = as_many _ _ f.machine.beside.needs in absurd (omega (arith, e));
      mode = λ i f. let e : Read ≡ Write = ((part_at _ _ f _ refl).cells 1).0 in absurd cc;
      more = λ i f. absurd ((part_at _ _ f _ refl).cells 2);
      fewer = λ i f. absurd ((part_at _ _ f _ refl).cells 0);
      turns = λ i f. absurd (omega (arith, f.machine.beside.calls));
    }

-- ---- the law's own marks

-- the second region lies within the first
in_whole : (p : ℕ) → has part.points p ≡ true → has whole.points p ≡ true
in_whole p e = ⊎_elim (λ q. ap (λ b. b || has part.points p) q) (λ q. ap (λ b. b || has part.points p) q ∙ e) (cases_Bool (p == 0))

-- a region that is given
given_region : (i : ℕ) (r : RegionValue) → IsRegion one_root (Some 0) unknown r → region_in (slice_get (args_of part) i) ≡ Some r →
    IsRegion (called one_root (args_of part)) (Some 0) (argument i) r
given_region i r h at = record { there = h.there; space = h.space; set = h.set; points = h.points; origin = at }

whole_there : IsRegion one_root (Some 0) unknown whole
whole_there = record { there = refl; space = refl; set = counted_points 4194304 0 2 (omega arith); points = within; origin = tt }
  where
    within : (p : ℕ) → has whole.points p ≡ true → has (one_root.points 3) p ≡ true
    within p e = ⊎_elim (λ q. ap (λ b. b || ((p == 1) || ((p == 2) || false))) q)
        (λ q. ⊎_elim (λ o. ap (λ b. b || ((p == 1) || ((p == 2) || false))) q ∙ ap (λ b. b || ((p == 2) || false)) o)
        (λ o. absurd (false≢true (sym (ap (λ b. b || ((p == 1) || false)) q ∙ ap (λ b. b || false) o) ∙ e))) (cases_Bool (p == 1)))
        (cases_Bool (p == 0))

part_there : IsRegion one_root (Some 0) unknown part
part_there = record { there = refl; space = refl; set = counted_points 4194304 1 1 (omega arith); points = λ p e. whole_there.points p (in_whole p e); origin = tt }

args_are : Are (called one_root (args_of part)) (argument_shapes middle_program work) (args_of part)
args_are = are_more _ _ _ _ (is_region (Some 0) (argument 0) whole (given_region 0 whole whole_there refl))
    (are_more _ _ _ _ (is_region (Some 0) (argument 1) part (given_region 1 part part_there refl))
    (are_more (integer W32) _ _ _ (is_number (integer W32) (pos 5) (omega (arith, ints))) are_none))

constrained : AreConstrained middle_program work (args_of part)
constrained = (
  λ r e. subst (λ y. LiesAt (args_of part) y (in_slot 0)) (same_Some part r e) (record {
    other = whole;
    at = refl;
    inside = (refl, in_whole);
  }),
  tt,
)

law_of : (s : TasksKeepRules middle_program) → Law s.program
law_of s = record {
  opens = s.opens 1 work refl one_root (args_of part) 9 2 (omega arith) args_are constrained;
  fits = λ x b f. (s.segments 1 work refl x b f).fits;
  unbroken = λ x b f. (s.segments 1 work refl x b f).unbroken;
  two = s.of_tree.begins 0 _ refl;
  work = s.of_tree.begins 1 _ refl;
}

-- whatever they are, since the code is the compiled code
of_code : (P : Program → Type 0) (h : Program) → h.code ≡ code_of middle_program → (Law (record h { code = code_of middle_program }) → P (record h { code = code_of middle_program })) →
    Law h → P h
of_code P h e more = subst (λ c. Law (record h { code = c }) → P (record h { code = c })) (sym e) more

within_limits : WithinLimits middle_program
within_limits = record { each = all_keep (parts_of_program middle_program) refl; nodes = omega (arith) }

run : IsProgramRun middle_program []
run = record { within = within_limits; accepted = refl; written = program_written middle_program refl; numbers = tt }

pub middle_example_holds : MiddleExampleHolds
middle_example_holds = record {
  run = run;
  sound = whole_programs_are_sound middle_program [] run;
  fits = λ s. of_code FitsInside s.program s.code (fits_inside s.program.positions s.program.results s.program.begins s.program.marks) (law_of s);
  fails = λ s. of_code FailsEach s.program s.code (fails_each s.program.positions s.program.results s.program.begins s.program.marks) (law_of s);
}
