-- The code of what a launch hands over at each colour alike has marks: each such argument is computed, as its parameter wants it, and goes
-- into a slot of its own.
use Rattle.std.proofs.Common.{◌≡◌, ℕ, suc, ◌<◌, ◌≤◌, ◌+◌, List, [], ◌∷◌, ◌++◌, Bool, true, false, cond, None, Some, refl, sym, ap, ◌∙◌, subst, arith}
use Rattle.std.specs.Prelude.{bytes_eq, length, slice_get, slice_set}
use Rattle.std.proofs.lemmas.Bool.{false≢true, not-true}
use Rattle.regent_tree.specs.Lookup.{is_bound}
use Rattle.regent_tree.specs.Scopes.{with_name}
use Rattle.regent_tree.specs.Syntax.{Expression, Expressions, Name, access_expr, an_expr, no_expr, no_step}
use Rattle.regent_tree.specs.Typing.{parent_of}
use Rattle.regent_tree.specs.Values.{kept_truth}
use Rattle.regent_tree.specs.declared.facts.Term.TheVariants as term
use Rattle.regent_tree.specs.declared.types.Kind.{Kind}
use Rattle.regent_tree.specs.declared.typing.Bound.{Bound}
use Rattle.regent_tree.specs.declared.typing.StaticType.{StaticType}
use Rattle.task_code.specs.declared.code.TaskCode.{TaskCode}
use Rattle.task_code.specs.declared.instr.Instr.TheVariants as instr
use Rattle.check_rules.specs.types.Sorts.{type_at}
use Rattle.code_rules.specs.Expressions.{expr_code}
use Rattle.code_rules.specs.Instructions.{converted_code, one}
use Rattle.code_rules.specs.Launches.{fixed_code, is_fixed, kept, kept_code}
use Rattle.code_rules.specs.Pieces.{Piece, empty, ◌⨟◌}
use Rattle.code_rules.specs.Slots.{Where, bound, slot_bound, slot_named, typed}
use Rattle.code_laws.specs.Arguments.{IsCutName}
use Rattle.code_laws.specs.Simple.{AreRegions, IsPartition, two_regions}
use Rattle.code_laws.specs.Standing.{Stands}
use Rattle.code_laws.specs.Steps.{Forms}
use Rattle.code_laws.specs.Typed.{ArePassed, IsIndexed, IsPassed, IsTyped}
use Rattle.code_laws.proofs.Arguments.{handed_name}
use Rattle.code_laws.proofs.LaunchShapes.{AreForms, IsLaunched, launched_child, launched_conversion, launched_name, launched_none, launched_number, launched_so, launched_truth, launched_variable}
use Rattle.fit_rules.specs.Shapes.{Each, held_at, integer, Is, partition, region, Shape, truth}
use Rattle.fit_rules.specs.Marks.{Fact, Holds, in_slot, lies, Mark, stacked}
use Rattle.fit_rules.specs.Fits.{Program}
use Rattle.fit_rules.specs.Sound.{does_load, does_num}
use Rattle.fit_laws.proofs.Keeping.{get_other, OfSlots, same_each}
use Rattle.fit_laws.proofs.Numbers.{truth_is}
use Rattle.fit_rules.specs.Marks.{ColoursStand}
use Rattle.regent_tree.specs.declared.typing.StaticType.TheVariants.{Partition as partition_type, Region as region_type}
use Rattle.sound_code.proofs.Expressions.{worth_loaded}
use Rattle.sound_code.proofs.SlotShapes.{regions_plain, slot_plain}
use Rattle.sound_code.specs.Named.{is_still, slot_shape}
use Rattle.sound_code.specs.Named.{HasSlots, Ready, slot_at}
use Rattle.sound_code.specs.Ways.{origin_in, shape_in, shape_of, Way}
use Rattle.sound_code.proofs.Asked.{Asked}
use Rattle.sound_code.proofs.Combining.{both, does, Keeps, Marked, nothing_done, slot_high, storing}
use Rattle.sound_code.proofs.Counting.{becomes}
use Rattle.sound_code.proofs.Cutting.{cut_loaded, each_onto, region_taken}
use Rattle.sound_code.proofs.Handed.{cut_unconverted, same_code}
use Rattle.sound_code.proofs.KeptMarks.{all_kept, cut_facts, cut_kept, HaveRoom, keeping, kept_facts, kept_one, kept_shape, Knows, knows_then, one_knows, region_facts, region_kept, worth_facts, worth_kept}
use Rattle.sound_code.proofs.KeptStores.{put, puts_cut, puts_region}
use Rattle.sound_code.proofs.LaunchedNames.{cut_low, inside, low_outside, low_region, named_outside, parted_outside, turn, turn_outside}
use Rattle.sound_code.proofs.Parts.{cut_of, parent_there}
use Rattle.sound_code.proofs.Plain.{plain_origin, plain_shape}
use Rattle.sound_code.proofs.WholeTasks.{are_whole_arguments, is_whole_expression, takes_part}
use Rattle.sound_code.proofs.Wholes.{Asks, asks_first, asks_second, AsksArgument, Enters, given_whole, read_worth, whole_argument, worth_named, worth_settled}

module _ (g : Program) (t : TaskCode) (k slots : ℕ) (have : HasSlots t slots) (forms : Forms) (way : Way) (w : Where) (i : Name) (kind : Kind) (line : ℕ) (m : Mark)
    (r : Ready way w.params w.scope.names m) (ep : w.params ≡ t.params) (hi : slot_at w.params (length w.scope.names) + 2 < length m.slots) where
  abbrev here : Where
  here = inside w i kind line

  -- the slot of the loop's variable, and the mark of a round
  abbrev top : ℕ
  top = slot_at w.params (length w.scope.names)

  abbrev round : Mark
  round = turn g t k way w m r ep hi

  -- facts stay where slots are set from one on
  abbrev pub KeepsFrom : ℕ → Mark → Type 0
  KeepsFrom low o = (s : ℕ) → low ≤ s → Keeps o s

  module _ (asked : Asked g t k slots forms way here round) (t1 : StaticType) where
    abbrev seen : List Bound
    seen = (with_name w.scope i t1 true).names

    module _ (wanted : StaticType) (place : ℕ) (o : Mark) (knows : Knows way here top m o) (steady : KeepsFrom (kept here place) o)
        (stand : (ss : List Shape) → Each (ColoursStand ss) o.facts) (room : kept here place < length o.slots) where
      -- where it waits
      abbrev s : ℕ
      s = kept here place

      lo : t.params ≤ s
      lo = omega (arith, ep, slot_high w.params (length w.scope.names) r.low)

      behind : o.fixed ≤ s
      behind = omega (arith, knows.fixed, r.fixed)

      under : (q : ℕ) → q < top → q < o.fixed
      under q low = omega (arith, low, knows.fixed, r.fixed)

      abbrev Goes : List Shape → Piece → List Shape → Type 0
      Goes us p vs = Marked g t k (stacked o us) p (stacked o vs)

      abbrev IsPut : Piece → StaticType → Expression → Type 0
      IsPut p v e = Marked g t k (stacked o []) p (keeping way here s v e o)

      as_put : (p : Piece) (v : StaticType) (e : Expression) (a : Shape) (fs : List Fact) → kept_shape way here v e ≡ a → kept_facts way here s v e ≡ fs →
          Marked g t k (stacked o []) p (put o s a fs) → IsPut p v e
      as_put p v e a fs ea ef f = subst (λ b. Marked g t k (stacked o []) p (put o s b (kept_facts way here s v e))) (sym ea)
          (subst (λ ls. Marked g t k (stacked o []) p (put o s a ls)) (sym ef) f)

      -- ---- values

      value_code : (e : Expression) → IsLaunched seen i wanted e → is_fixed i e ≡ true → IsTyped forms here e →
          ((takes_part true here e ≡ true → ⊥) → Asks forms.keeps (is_whole_expression true here e)) → Goes [] (expr_code here 0 e) (shape_of (typed here e) ∷ [])
      value_code _ (launched_number z v) fixed fine whole = does g t k (stacked o []) (instr.Num z) here.line _ (does_num z (integer v) [] fine)
      value_code _ (launched_truth b) fixed fine whole = does g t k (stacked o []) (instr.Num (kept_truth b)) here.line _ (does_num _ truth [] (truth_is b))
      value_code _ (launched_name n other plain) fixed fine whole =
          let is = read_worth forms.keeps _ fine.1 (whole (λ h. false≢true h)) in
          let at = knows.slots (slot_named here n) (low_outside w i kind line way m r n other fine.0) ∙ named_outside w i kind line way m r n other fine.0
          ∙ ap (λ s. Some (slot_shape (is_still w.params (bound here n)) s)) (worth_named way w.params _ is) in
          both g t k (worth_loaded g t k here o (slot_named here n) (is_still w.params (bound here n)) (bound here n).static_type [] is (stand o.slots) at) (nothing_done g t k _)
      value_code _ (launched_variable n own) fixed fine whole = absurd (false≢true (sym (not-true (bytes_eq n i) fixed) ∙ own))
      value_code _ (launched_child q n part own) fixed fine whole = absurd (false≢true fixed)
      value_code _ (launched_none q e none) fixed fine whole = absurd (false≢true fixed)
      value_code _ (launched_conversion u n own) fixed fine whole = absurd (false≢true fixed)

      value_put : (u v : StaticType) (e : Expression) → Enters (typed here e) u v → Goes [] (expr_code here 0 e) (shape_of (typed here e) ∷ []) → IsPut (fixed_code here place u e) v e
      value_put u v e enters f =
          let shape = worth_kept way here v e enters.worth in
          as_put _ v e (shape_of v) [] shape (worth_facts way here s v e enters.worth)
          (both g t k f (both g t k (becomes g t k here o (typed here e) u [] enters.goes enters.few)
          (storing g t k o s (shape_of u) (shape_of v) [] here.line (steady s (omega arith)) lo behind (plain_shape v) room
          (λ x y h. subst (λ b. Is x b y) enters.same h))))

      -- ---- regions and partitions that have names

      -- what isn't converted is loaded and stored
      unconverted : (p : Piece) (n : Name) (a : Shape) (b : Mark) → p ≡ empty → Goes [] (one here (instr.Load (slot_named here n))) (a ∷ []) →
          Marked g t k (stacked o (a ∷ [])) (one here (instr.Store s)) b → Marked g t k (stacked o []) ((one here (instr.Load (slot_named here n)) ⨟ empty) ⨟ p ⨟ one here (instr.Store s)) b
      unconverted p n a b none load store =
          both g t k (both g t k load (nothing_done g t k _)) (both g t k (subst (λ y. Goes (a ∷ []) y (a ∷ [])) (sym none) (nothing_done g t k _)) store)

      region_code : (p : Piece) (n : Name) (u v : StaticType) → p ≡ empty → AreRegions u v → slot_named here n < top → slice_get o.slots (slot_named here n) ≡ Some (shape_in way w.params u) →
          Marked g t k (stacked o []) ((one here (instr.Load (slot_named here n)) ⨟ empty) ⨟ p ⨟ one here (instr.Store s))
          (put o s (shape_in way w.params u) (lies (in_slot s) (in_slot (slot_named here n)) ∷ lies (in_slot (slot_named here n)) (in_slot s) ∷ []))
      region_code p n _ _ none (two_regions c d sp args brgs a b) low at =
          let q = slot_named here n in
          unconverted p n (region (Some sp) (held_at q (origin_in way w.params a))) _ none
          (region_taken g t k here.line o q sp (origin_in way w.params a) [] (plain_origin way w.params a) (under q low) at)
          (puts_region g t k here.line o s q (origin_in way w.params a) (steady s (omega arith)) lo behind (under q low) room (plain_origin way w.params a) sp)

      region_put : (u v : StaticType) (n : Name) → u ≡ v → bytes_eq n i ≡ false → is_bound here.scope.names n ≡ true → AreRegions (bound here n).static_type v →
          IsPut (fixed_code here place u (access_expr n no_step)) v (access_expr n no_step)
      region_put u v n same other there regions =
          let e = access_expr n no_step in
          let low = low_outside w i kind line way m r n other there in
          as_put _ v e _ _ (region_kept way here n _ v regions) (region_facts way here s n _ v regions)
          (region_code (converted_code here (typed here e) u) n (bound here n).static_type v
          (ap (converted_code here (typed here e)) same ∙ same_code here (typed here e) v regions) regions low
          (knows.slots (slot_named here n) low ∙ named_outside w i kind line way m r n other there ∙ ap Some (slot_plain _ _ (regions_plain way w.params _ v regions))))

      cut_put : (u v : StaticType) (n : Name) → forms.keeps ≡ true → u ≡ v → IsCutName here n → IsPartition v →
          IsPut (fixed_code here place u (access_expr n no_step)) v (access_expr n no_step)
      cut_put u v n keeps same cut is =
          let e = access_expr n no_step in
          let of = cut_of g t k slots forms way here round asked n keeps cut in
          let q = parent_of (bound here n).static_type in
          let low = cut_low w i kind line way m r n cut in
          let up = low_region w i kind line way m r q of.region in
          let origin = origin_in way w.params (term.Name q) in
          let plain = plain_origin way w.params (term.Name q) in
          as_put _ v e _ _ (cut_kept way here n v is ∙ ap (partition None) of.is) (cut_facts way here s n v is)
          (unconverted (converted_code here (typed here e) u) n _ _ (ap (converted_code here (typed here e)) same ∙ cut_unconverted here (typed here e) v is)
          (cut_loaded g t k here.line o (slot_named here n) (slot_bound here q) _ of.disjoint origin [] plain (under _ up)
          (knows.slots _ low ∙ sym (turn_outside g t k way w m r ep hi _ low) ∙ of.shape)
          (knows.slots _ up ∙ sym (turn_outside g t k way w m r ep hi _ up) ∙ parent_there g t k slots forms way here round asked n keeps cut)
          (knows.facts _ (parted_outside g t k way w m r ep hi _ _ of.fact)))
          (puts_cut g t k here.line o s (slot_bound here q) origin (steady s (omega arith)) lo behind (under _ up) room plain of.disjoint))

      -- ---- by what it is

      one_put : (u v : StaticType) (e : Expression) → IsLaunched seen i wanted e → is_fixed i e ≡ true → IsPassed forms here u v e (IsTyped forms here e) (IsIndexed forms here e) →
          AsksArgument forms.keeps here v e → IsPut (fixed_code here place u e) v e
      one_put u v e form fixed passed asks =
          given_whole forms.keeps forms.takes here u v e (IsTyped forms here e) (IsIndexed forms here e) (IsPut (fixed_code here place u e) v e) asks
          (λ enters is. value_put u v e enters (value_code e form fixed is (λ none. whole_argument forms.keeps here v e asks enters.worth enters.other none)))
          (λ y takes h.
          let q = handed_name y here u v e h in
          subst (λ y. IsPut (fixed_code here place u y) v y) (sym q.1)
          (region_put u v q.0 q.3 (not-true (bytes_eq q.0 i) (subst (λ y. is_fixed i y ≡ true) q.1 fixed)) q.2 q.4))
          (λ keeps a. absurd (false≢true (subst (λ y. is_fixed i y ≡ true) a.is fixed)))
          (λ keeps a. subst (λ y. IsPut (fixed_code here place u y) v y) (sym a.is)
          (cut_put u v a.name keeps a.same a.cut a.partition)) passed

      -- what is known of it speaks of slots below those behind
      one_low : (u v : StaticType) (e : Expression) → is_fixed i e ≡ true → IsPassed forms here u v e (IsTyped forms here e) (IsIndexed forms here e) →
          AsksArgument forms.keeps here v e → Each (OfSlots (λ q. q ≤ s)) (kept_facts way here s v e)
      one_low u v e fixed passed asks =
          given_whole forms.keeps forms.takes here u v e (IsTyped forms here e) (IsIndexed forms here e) (Each (OfSlots (λ q. q ≤ s)) (kept_facts way here s v e)) asks
          (λ enters is. subst (Each (OfSlots (λ q. q ≤ s))) (sym (worth_facts way here s v e enters.worth)) tt)
          (λ y takes h.
          let q = handed_name y here u v e h in
          let low = low_outside w i kind line way m r q.0 (not-true (bytes_eq q.0 i) (subst (λ y. is_fixed i y ≡ true) q.1 fixed)) q.2 in
          subst (λ y. Each (OfSlots (λ q. q ≤ s)) (kept_facts way here s v y)) (sym q.1)
          (subst (Each (OfSlots (λ q. q ≤ s))) (sym (region_facts way here s q.0 _ v q.4))
          ((omega arith, omega (arith, low)), ((omega (arith, low), omega arith), tt))))
          (λ keeps a. absurd (false≢true (subst (λ y. is_fixed i y ≡ true) a.is fixed)))
          (λ keeps a.
          let of = cut_of g t k slots forms way here round asked a.name keeps a.cut in
          let up = low_region w i kind line way m r (parent_of (bound here a.name).static_type) of.region in
          subst (λ y. Each (OfSlots (λ q. q ≤ s)) (kept_facts way here s v y)) (sym a.is)
          (subst (Each (OfSlots (λ q. q ≤ s))) (sym (cut_facts way here s a.name v a.partition)) ((omega arith, omega (arith, up)), tt))) passed

    -- ---- all of them

    -- a mark that knows as much as the one before the loop, and whose facts stay where the slots of further arguments are set
    pub record IsOpen (place : ℕ) (o : Mark) : Type 0 where
      pub knows : Knows way here top m o
      pub steady : KeepsFrom (kept here place) o
      pub stand : (ss : List Shape) → Each (ColoursStand ss) o.facts
      pub long : length o.slots ≡ slots

    -- no colour is named in what is known of such an argument
    kept_stand : (s : ℕ) (p : StaticType) (e : Expression) (ss : List Shape) → Each (ColoursStand ss) (kept_facts way here s p e)
    kept_stand s (region_type k sp args r) (access_expr n no_step) ss = (tt, (tt, tt))
    kept_stand s (partition_type d r p) (access_expr n no_step) ss = (tt, tt)
    kept_stand s _ _ ss = tt

    both_facts : (fs ks : List Fact) (P : Fact → Type 0) → Each P (fs ++ ks) → Each P fs × Each P ks
    both_facts [] ks P h = (tt, h)
    both_facts (f ∷ fs) ks P h = let more = both_facts fs ks P h.1 in ((h.0, more.0), more.1)

    kept_open : (place : ℕ) (v : StaticType) (e : Expression) (o : Mark) → IsOpen place o → Each (OfSlots (λ q. q ≤ kept here place)) (kept_facts way here (kept here place) v e) →
        KeepsFrom (kept here (suc place)) (keeping way here (kept here place) v e o)
    kept_open place v e o ready low s behind vs y h =
        let parts = both_facts (kept_facts way here (kept here place) v e) o.facts (λ f. Holds f vs) h in
        each_onto (λ f. Holds f (slice_set vs s y)) (kept_facts way here (kept here place) v e) o.facts
        (same_each vs (slice_set vs s y) (λ q. q ≤ kept here place) (λ q l. get_other vs s q y (λ e. omega (arith, e, l, behind))) (kept_facts way here (kept here place) v e) low parts.0)
        (ready.steady s (omega (arith, behind)) vs y parts.1)

    -- the slots that are used are there
    pub have_room : (place : ℕ) (ts ps : List StaticType) (es : Expressions) → ArePassed forms here ts ps es → (pc : ℕ) → Stands t.body pc (kept_code here i place ts es) →
        HaveRoom way here i place ps es slots
    have_room place [] [] no_expr passed pc st = tt
    have_room place (u ∷ ts) (v ∷ ps) (an_expr e es) passed pc st = (λ fixed. of (is_fixed i e) fixed st.0, have_room (suc place) ts ps es passed.1 _ st.1)
      where
        of : (c : Bool) → c ≡ true → Stands t.body pc (cond c (fixed_code here place u e) empty) → kept here place < slots
        of true fixed st = have _ _ st.1.1
        of false fixed st = absurd (false≢true fixed)
    have_room place [] [] (an_expr e es) passed pc st = absurd passed
    have_room place [] (v ∷ ps) es passed pc st = absurd passed
    have_room place (u ∷ ts) [] es passed pc st = absurd passed
    have_room place (u ∷ ts) (v ∷ ps) no_expr passed pc st = absurd passed

    module _ (wanted : List StaticType) where
      pub all_put : (place : ℕ) (ts ps : List StaticType) (es : Expressions) (o : Mark) → AreForms seen i wanted place es → ArePassed forms here ts ps es →
          Asks forms.keeps (are_whole_arguments true here ps es) → IsOpen place o → (pc : ℕ) → Stands t.body pc (kept_code here i place ts es) →
          Marked g t k (stacked o []) (kept_code here i place ts es) (stacked (all_kept way here i place ps es o) [])
      all_put place [] [] no_expr o looks passed whole ready pc st = nothing_done g t k _
      all_put place (u ∷ ts) (v ∷ ps) (an_expr e es) o looks passed whole ready pc st =
          both g t k (step (is_fixed i e) refl)
          (all_put (suc place) ts ps es (kept_one way here i place v e o) looks.1 passed.1 (asks_second _ _ _ whole) next _ st.1)
        where
          form : IsLaunched seen i (type_at wanted place) e
          form = launched_so seen i (type_at wanted place) e looks.0

          room : is_fixed i e ≡ true → kept here place < length o.slots
          room fixed = subst (λ n. kept here place < n) (sym ready.long) ((have_room place (u ∷ ts) (v ∷ ps) (an_expr e es) passed pc st).0 fixed)

          step : (c : Bool) → is_fixed i e ≡ c → Marked g t k (stacked o []) (cond c (fixed_code here place u e) empty) (stacked (cond c (keeping way here (kept here place) v e o) o) [])
          step true fixed = one_put (type_at wanted place) place o ready.knows ready.steady ready.stand (room fixed) u v e form fixed passed.0 (asks_first _ _ _ whole)
          step false varies = nothing_done g t k _

          steady : (c : Bool) → is_fixed i e ≡ c → KeepsFrom (kept here (suc place)) (cond c (keeping way here (kept here place) v e o) o)
          steady true fixed = kept_open place v e o ready (one_low (type_at wanted place) place o ready.knows ready.steady ready.stand (room fixed) u v e fixed passed.0 (asks_first _ _ _ whole))
          steady false varies = λ s l. ready.steady s (omega (arith, l))

          stands : (c : Bool) (ss : List Shape) → Each (ColoursStand ss) (cond c (keeping way here (kept here place) v e o) o).facts
          stands true ss = each_onto (ColoursStand ss) (kept_facts way here (kept here place) v e) o.facts (kept_stand (kept here place) v e ss) (ready.stand ss)
          stands false ss = ready.stand ss

          next : IsOpen (suc place) (kept_one way here i place v e o)
          next =
              let one = one_knows way here i place v e o in record {
                knows = knows_then way here top (kept here place) m o (kept_one way here i place v e o) (omega arith) ready.knows one;
                steady = steady (is_fixed i e) refl;
                stand = λ ss. stands (is_fixed i e) ss;
                long = one.long ∙ ready.long;
              }
      all_put place [] [] (an_expr e es) o looks passed whole ready pc st = absurd passed
      all_put place [] (v ∷ ps) es o looks passed whole ready pc st = absurd passed
      all_put place (u ∷ ts) [] es o looks passed whole ready pc st = absurd passed
      all_put place (u ∷ ts) (v ∷ ps) no_expr o looks passed whole ready pc st = absurd passed
