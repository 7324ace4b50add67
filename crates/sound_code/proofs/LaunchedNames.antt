-- Names in the scope of a launch's body: the loop's variable is the innermost one, and an index. All others stand below it, and are what
-- they are outside of the loop.
use Rattle.std.proofs.Common.{◌≡◌, inl, inr, ℕ, ◌<◌, ◌+◌, Bool, true, false, cond, Some, refl, sym, ap, ◌∙◌, subst, arith}
use Rattle.std.specs.Prelude.{bytes_eq, length, slice_get, ◌==◌}
use Rattle.std.proofs.lemmas.Bool.{false≢true}
use Rattle.std.proofs.lemmas.Option.{same_Some}
use Rattle.regent_tree.specs.Lookup.{is_bound, type_named}
use Rattle.regent_tree.specs.Scopes.{bound_as, bound_to, with_name}
use Rattle.regent_tree.specs.Syntax.{Expression, Name, access_expr, at_step, no_step}
use Rattle.regent_tree.specs.declared.types.Kind.{Kind}
use Rattle.regent_tree.specs.declared.typing.Bound.{Bound}
use Rattle.regent_tree.specs.declared.typing.StaticType.{StaticType}
use Rattle.regent_tree.specs.declared.typing.StaticType.TheVariants.{Index as index_type}
use Rattle.check_rules.specs.types.Sorts.{is_region, is_unknown_type}
use Rattle.code_rules.specs.Slots.{Where, bound, slot_bound, slot_named, typed}
use Rattle.code_rules.specs.Statements.{looping, on_line}
use Rattle.code_laws.specs.Arguments.{IsCutName, part_of}
use Rattle.code_laws.specs.Simple.{AreRegions, IsPartition, IsRegion}
use Rattle.code_laws.specs.Steps.{Forms}
use Rattle.code_laws.specs.Typed.{IsIndexed, IsPassed, IsTyped}
use Rattle.code_laws.proofs.LaunchTypes.{a_region_is, cut_known, no_cut, no_region_type, step_no_name}
use Rattle.code_laws.proofs.LaunchValues.{bound_other, bound_own, there_other, variable}
use Rattle.task_code.specs.declared.code.TaskCode.{TaskCode}
use Rattle.fit_rules.specs.Shapes.{Among, index, space}
use Rattle.fit_rules.specs.Marks.{Mark, parted}
use Rattle.fit_rules.specs.Fits.{Program}
use Rattle.fit_laws.proofs.Keeping.{get_other}
use Rattle.sound_code.proofs.SlotShapes.{partition_plain, pointer_plain, region_plain, slot_bare, slot_is, slot_numbered, slot_plain}
use Rattle.sound_code.specs.Named.{name_shape, slot_shape}
use Rattle.sound_code.specs.Named.{Ready, slot_at}
use Rattle.sound_code.specs.Ways.{shape_in, Way}
use Rattle.sound_code.proofs.Colours.{named_low, slot_low}
use Rattle.sound_code.proofs.Cuts.{place_as}
use Rattle.sound_code.proofs.Placing.{named_at}
use Rattle.sound_code.proofs.RoundFrames as rounds
use Rattle.sound_code.proofs.Wholes.{AsksArgument, given_whole}

-- where the call stands
abbrev pub inside : Where → Name → Kind → ℕ → Where
inside w i kind line = on_line (looping w i (index_type kind)) line

module _ (w : Where) (i : Name) (kind : Kind) (line : ℕ) where
  abbrev here : Where
  here = inside w i kind line

  -- the slot of the loop's variable
  abbrev top : ℕ
  top = slot_at w.params (length w.scope.names)

  pub own_type : (n : Name) → bytes_eq n i ≡ true → (bound here n).static_type ≡ index_type kind
  own_type n own = ap (λ (b : Bound). b.static_type) (bound_own w.scope i (index_type kind) n own)

  pub no_own_region : (n : Name) → bytes_eq n i ≡ true → IsRegion (bound here n).static_type → ⊥
  no_own_region n own r = no_region_type kind (subst IsRegion (own_type n own) r)

  pub no_own_cut : (n : Name) → bytes_eq n i ≡ true → IsPartition (bound here n).static_type → ⊥
  no_own_cut n own c = no_cut kind (subst IsPartition (own_type n own) c)

  -- so no partition is had by it
  pub cut_other : (n : Name) → IsPartition (bound here n).static_type → bytes_eq n i ≡ false
  cut_other n c = of (bytes_eq n i) refl
    where
      of : (b : Bool) → bytes_eq n i ≡ b → bytes_eq n i ≡ false
      of true own = absurd (no_own_cut n own c)
      of false other = other

  -- ---- as the loop's shape sees them

  module _ (t1 : StaticType) where
    abbrev seen : Name → StaticType
    seen n = type_named (with_name w.scope i t1 true).names n

    seen_other : (n : Name) → bytes_eq n i ≡ false → seen n ≡ (bound here n).static_type
    seen_other n other = ap (λ (b : Bound). b.static_type) (bound_other w.scope i t1 n other ∙ sym (bound_other w.scope i (index_type kind) n other))

    pub no_region_seen : (n : Name) → is_region (seen n) ≡ false → IsRegion (bound here n).static_type → ⊥
    no_region_seen n plain r = of (bytes_eq n i) refl
      where
        of : (b : Bool) → bytes_eq n i ≡ b → ⊥
        of true own = no_own_region n own r
        of false other = false≢true (sym plain ∙ ap is_region (seen_other n other) ∙ a_region_is (bound here n).static_type r)

    pub no_cut_seen : (n : Name) → is_unknown_type (seen n) ≡ true → IsPartition (bound here n).static_type → ⊥
    no_cut_seen n unknown c = of (bytes_eq n i) refl
      where
        of : (b : Bool) → bytes_eq n i ≡ b → ⊥
        of true own = no_own_cut n own c
        of false other = false≢true (sym (cut_known (bound here n).static_type c) ∙ sym (ap is_unknown_type (seen_other n other)) ∙ unknown)

  -- ---- as the mark before the loop has them

  module _ (way : Way) (m : Mark) (r : Ready way w.params w.scope.names m) where
    pub named_outside : (n : Name) → bytes_eq n i ≡ false → is_bound here.scope.names n ≡ true →
        slice_get m.slots (slot_named here n) ≡ Some (name_shape way w.params (bound here n))
    named_outside n other there = subst (λ (b : Bound). slice_get m.slots (slot_at w.params b.place) ≡ Some (name_shape way w.params b))
        (sym (bound_other w.scope i (index_type kind) n other))
        (named_at way w.params m.slots w.scope.names n r.named (there_other w.scope i (index_type kind) n other there))

    pub low_outside : (n : Name) → bytes_eq n i ≡ false → is_bound here.scope.names n ≡ true → slot_named here n < top
    low_outside n other there = subst (λ (b : Bound). slot_at w.params b.place < top) (sym (bound_other w.scope i (index_type kind) n other))
        (slot_low w.params (bound_to w.scope.names n).place (length w.scope.names)
        (named_low way w.params m.slots w.scope.names n r.named (there_other w.scope i (index_type kind) n other there)))

    pub cut_low : (n : Name) → IsCutName here n → slot_named here n < top
    cut_low n c = low_outside n (cut_other n c.partition) c.named

    -- a region by its number
    pub low_region : (q : ℕ) → IsRegion (bound_as here.scope.names q).static_type → slot_bound here q < top
    low_region q region = of (w.scope.next == q) region
      where
        of : (c : Bool) → IsRegion (cond c (variable w.scope i (index_type kind)) (bound_as w.scope.names q)).static_type → slot_at w.params (cond c (variable w.scope i (index_type kind)) (bound_as w.scope.names q)).place < top
        of true region = absurd (no_region_type kind region)
        of false region = slot_low w.params (bound_as w.scope.names q).place (length w.scope.names) (place_as way w.params m.slots w.scope.names q r.named region)

-- ---- the mark of a round

module _ (g : Program) (t : TaskCode) (k : ℕ) (way : Way) (w : Where) (m : Mark) (r : Ready way w.params w.scope.names m) (ep : w.params ≡ t.params)
    (hi : slot_at w.params (length w.scope.names) + 2 < length m.slots) where
  abbrev pub turn : Mark
  turn = rounds.round g t k way w.params w.scope.names m r ep hi

  -- the slots of names outside are what they were
  pub turn_outside : (s : ℕ) → s < slot_at w.params (length w.scope.names) → slice_get turn.slots s ≡ slice_get m.slots s
  turn_outside s low =
      let v = slot_at w.params (length w.scope.names) in
      get_other _ (v + 1) s index (λ e. omega (arith, e, low)) ∙ get_other _ v s index (λ e. omega (arith, e, low))
      ∙ get_other _ (v + 1) s index (λ e. omega (arith, e, low)) ∙ get_other m.slots (v + 2) s space (λ e. omega (arith, e, low))

  -- of which region a partition is was known
  pub parted_outside : (p q : ℕ) → Among turn.facts (parted p q) → Among m.facts (parted p q)
  parted_outside p q (inl e) = absurd cc
  parted_outside p q (inr a) = a

-- ---- parts

-- what stands at a step of a name that isn't seen to be a region is a part of a partition that has the name
pub record IsTakenPart (forms : Forms) (w : Where) (p : StaticType) (n : Name) (e : Expression) : Type 0 where
  pub keeps : forms.keeps ≡ true
  pub cut : IsCutName w n
  pub regions : AreRegions (typed w (access_expr n (at_step e no_step))) p

pub part_of_cut : (forms : Forms) (w : Where) (i : Name) (kind : Kind) (line : ℕ) (t1 u p : StaticType) (n : Name) (e : Expression) →
    is_region (type_named (with_name w.scope i t1 true).names n) ≡ false →
    IsPassed forms (inside w i kind line) u p (access_expr n (at_step e no_step)) (IsTyped forms (inside w i kind line) (access_expr n (at_step e no_step)))
    (IsIndexed forms (inside w i kind line) (access_expr n (at_step e no_step))) → AsksArgument forms.keeps (inside w i kind line) p (access_expr n (at_step e no_step)) →
    IsTakenPart forms (inside w i kind line) p n e
part_of_cut forms w i kind line t1 u p n e plain passed asks =
    let h = inside w i kind line in
    let it = access_expr n (at_step e no_step) in
    given_whole forms.keeps forms.takes h u p it (IsTyped forms h it) (IsIndexed forms h it) (IsTakenPart forms h p n e) asks
    (λ enters is. absurd (no_region_seen w i kind line t1 n plain is.4))
    (λ y takes handed. absurd handed)
    (λ keeps a. record {
      keeps = keeps;
      cut = subst (IsCutName h) (sym (ap (λ (q : Name × Expression). q.0) (same_Some (n, e) (a.name, a.index) (ap part_of a.is)))) a.cut;
      regions = a.regions;
    })
    (λ keeps a. absurd (step_no_name n e a.name a.is)) passed
