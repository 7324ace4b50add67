-- Each line of a piece that has marks is sound, where the piece stands and the marks are those of its
-- places.
use Rattle.std.proofs.Common.{◌≡◌, ◌⊎◌, inl, inr, ⊎_elim, ℕ, zero, suc, ◌<◌, ◌≤◌, List, [], ◌∷◌, ◌++◌, Bool, true, false, ◌||◌, Some, refl, sym, ap, ◌∙◌, subst, arith}
use Rattle.std.specs.Prelude.{slice_get, length, nat_lt}
use Rattle.std.proofs.lemmas.Bool.{lt-ltb}
use Rattle.std.proofs.lemmas.Option.{same_Some}
use Rattle.std.proofs.Math.Nat.{eq-or-lt_of_le}
use Rattle.task_code.specs.declared.code.Line.{Line}
use Rattle.task_code.specs.declared.code.TaskCode.{TaskCode}
use Rattle.task_code.specs.declared.instr.Instr.{Instr}
use Rattle.task_code.specs.declared.instr.Instr.TheVariants as instr
use Rattle.machine_terms.specs.Jumps.{fetch, may_jump, goes_back}
use Rattle.code_rules.specs.Pieces.{Piece, past, line_of}
use Rattle.code_laws.specs.Standing.{Stands}
use Rattle.code_laws.proofs.Values.{past_later}
use Rattle.lane_kernels.specs.declared.numbers.Mode.TheVariants as mode
use Rattle.fit_rules.specs.Shapes.{Among, Each, index, truth, space, region, partition, awaited, own_as, unknown}
use Rattle.fit_rules.specs.Marks.{child_in, colour_in, point_in, ColoursStand, counts, in_slot, lies, Mark, parted, Suits, Into, stacked, the_colour, top_colour, top_at, top_parted, topped}
use Rattle.fit_rules.specs.Fits.{Program}
use Rattle.fit_rules.specs.Sound.{Effect, Opens, RoundNumber, RoundPoint, Takes, To, ToStored, Sound, straight, stored, jumps, jumps_if_not, jumps_and, jumps_or, counts_numbers, counts_points, takes_turn, returns, returns_value, colours, colours_by, colours_point, takes_child, awaits, makes_root, makes_call, makes_launch, makes_equal, makes_by_field, makes_minus, makes_meet, makes_join, makes_image, makes_preimage, IsOther, Allowed, HasArgument, HasPartition, HasRegion, OpensEach}
use Rattle.marked_code.specs.Bodies.{MarksAt}
use Rattle.marked_code.specs.Marked.{Leads, leads_on, leads_storing, leads_nowhere, leads_back, leads_coloured, leads_loaded, leads_pointed, leads_child, leads_launching, leads_calling, leads_waiting, leads_making, leads_cutting, leads_colouring, leads_minus, leads_meet, leads_join, leads_image, leads_preimage, Typed, typed_empty, typed_op, typed_both, typed_into, typed_from, typed_and, typed_or, typed_if, typed_branch, typed_loop, typed_rounds, typed_points}

-- a number is below another one or not
pub below : (a b : ℕ) → (a < b) ⊎ (b ≤ a)
below a zero = inr (omega arith)
below zero (suc b) = inl (omega arith)
below (suc a) (suc b) = ⊎_elim (λ l. inl (omega (arith, l))) (λ l. inr (omega (arith, l))) (below a b)

module _ (g : Program) (t : TaskCode) (k : ℕ) where
  abbrev pub behind : List Mark → ℕ → ℕ
  behind [] pc = pc
  behind (m ∷ ms) pc = behind ms (suc pc)

  pub marks_front : (ms ns : List Mark) (pc : ℕ) → MarksAt g k pc (ms ++ ns) → MarksAt g k pc ms
  marks_front [] ns pc h = tt
  marks_front (m ∷ ms) ns pc h = (h.0, marks_front ms ns (suc pc) h.1)

  marks_back : (ms ns : List Mark) (pc : ℕ) → MarksAt g k pc (ms ++ ns) → MarksAt g k (behind ms pc) ns
  marks_back [] ns pc h = h
  marks_back (m ∷ ms) ns pc h = marks_back ms ns (suc pc) h.1

  behind_both : (ms ns : List Mark) (pc : ℕ) → behind (ms ++ ns) pc ≡ behind ns (behind ms pc)
  behind_both [] ns pc = refl
  behind_both (m ∷ ms) ns pc = behind_both ms ns (suc pc)

  -- a piece has as many marks as lines
  pub past_marks : (m : Mark) (p : Piece) (ms : List Mark) (n : Mark) (pc : ℕ) → Typed g t k m p ms n →
      behind ms pc ≡ past p pc
  past_marks _ _ _ _ pc (typed_empty m) = refl
  past_marks _ _ _ _ pc (typed_op m n i line l) = refl
  past_marks _ _ _ _ pc (typed_both m n o a b ms ns f h) = behind_both ms ns pc
      ∙ ap (behind ns) (past_marks m a ms n pc f) ∙ past_marks n b ns o (past a pc) h
  past_marks _ _ _ _ pc (typed_into m n o a ms f i lg) = past_marks m a ms n pc f
  past_marks _ _ _ _ pc (typed_from l m n a ms i f lg) = past_marks m a ms n pc f
  past_marks _ _ _ _ pc (typed_and m a ss line p ms e n f) = past_marks _ p ms _ (suc pc) f
  past_marks _ _ _ _ pc (typed_or m a ss line p ms e n f) = past_marks _ p ms _ (suc pc) f
  past_marks _ _ _ _ pc (typed_if m a ss line p ms e n f) = past_marks _ p ms _ (suc pc) f
  past_marks _ _ _ _ pc (typed_branch m n a ss line p q ms ns e nm f h) = behind_both ms (n ∷ ns) (suc pc)
      ∙ ap (λ y. behind ns (suc y)) (past_marks _ p ms n (suc pc) f)
      ∙ past_marks _ q ns _ (suc (past p (suc pc))) h
  past_marks _ _ _ _ pc (typed_loop m n a line test body ms ns f h e nm i) =
      let q = suc (suc pc) in
      let two : List Mark = n ∷ stacked m m.stack ∷ [] in
      behind_both ms (ns ++ two) q ∙ ap (behind (ns ++ two)) (past_marks _ body ms _ q f)
      ∙ behind_both ns two (past body q) ∙ ap (λ y. suc (suc y)) (past_marks _ test ns _ (past body q) h)
  past_marks _ _ _ _ pc (typed_rounds m n c l v a b line body ms ec nc el nl hv r lg f) =
      behind_both ms (stacked m m.stack ∷ []) (suc pc) ∙ ap suc (past_marks n body ms _ (suc pc) f)
  past_marks _ _ _ _ pc (typed_points m n s c v ptr line body ms ef hv r lg f) =
      behind_both ms (stacked m m.stack ∷ []) (suc pc) ∙ ap suc (past_marks n body ms _ (suc pc) f)

  pub back_at : (m : Mark) (p : Piece) (ms ns : List Mark) (n : Mark) (pc : ℕ) → Typed g t k m p ms n →
      MarksAt g k pc (ms ++ ns) → MarksAt g k (past p pc) ns
  back_at m p ms ns n pc f h = subst (λ y. MarksAt g k y ns) (past_marks m p ms n pc f) (marks_back ms ns pc h)

  -- ---- where a piece begins

  pub into_same : (m n : Mark) → n ≡ m → Into t.params m n
  into_same m n e x vs st s = subst (λ y. Suits x t.params y vs st) (sym e) s

  pub into_then : (l m n : Mark) → Into t.params l m → Into t.params m n → Into t.params l n
  into_then l m n h i x vs st s = i x vs st (h x vs st s)

  -- what suits the first mark may go on where the piece begins
  pub begins : (m : Mark) (p : Piece) (ms : List Mark) (n : Mark) (pc : ℕ) → Typed g t k m p ms n →
      MarksAt g k pc ms → To g t k n (past p pc) → To g t k m pc
  begins _ _ _ _ pc (typed_empty m) h to = to
  begins _ _ _ _ pc (typed_op m n i line l) h to = (omega (arith, to.0), into_same m _ h.0)
  begins _ _ _ _ pc (typed_both m n o a b ms ns f q) h to = begins m a ms n pc f (marks_front ms ns pc h)
      (begins n b ns o (past a pc) q (back_at m a ms ns n pc f h) to)
  begins _ _ _ _ pc (typed_into m n o a ms f i lg) h to =
      begins m a ms n pc f h (to.0, into_then n o _ i to.1)
  begins _ _ _ _ pc (typed_from l m n a ms i f lg) h to =
      let w = begins m a ms n pc f h to in (w.0, into_then l m _ i w.1)
  begins _ _ _ _ pc (typed_and m a ss line p ms e n f) h to =
      (omega (arith, to.0, past_later p (suc pc)), into_same m _ h.0)
  begins _ _ _ _ pc (typed_or m a ss line p ms e n f) h to =
      (omega (arith, to.0, past_later p (suc pc)), into_same m _ h.0)
  begins _ _ _ _ pc (typed_if m a ss line p ms e n f) h to =
      (omega (arith, to.0, past_later p (suc pc)), into_same m _ h.0)
  begins _ _ _ _ pc (typed_branch m n a ss line p q ms ns e nm f w) h to =
      (omega (arith, to.0, past_later p (suc pc), past_later q (suc (past p (suc pc)))), into_same m _ h.0)
  begins _ _ _ _ pc (typed_loop m n a line test body ms ns f w e nm i) h to =
      (omega (arith, to.0, past_later body (suc (suc pc)), past_later test (past body (suc (suc pc)))), into_same _ _ h.0)
  begins _ _ _ _ pc (typed_rounds m n c l v a b line body ms ec nc el nl hv r lg f) h to =
      (omega (arith, to.0, past_later body (suc pc)), into_same _ _ h.0)
  begins _ _ _ _ pc (typed_points m n s c v ptr line body ms ef hv r lg f) h to =
      (omega (arith, to.0, past_later body (suc pc)), into_same _ _ h.0)

  -- ---- lines

  abbrev IsSound : ℕ → Type 0
  IsSound q = (l : Line) → fetch t.body q ≡ Some l → Sound g t k q l.instr

  abbrev AreSound : ℕ → ℕ → Type 0
  AreSound from to = (q : ℕ) → from ≤ q → q < to → IsSound q

  -- the line that is fetched
  pub at_line : (q : ℕ) (i : Instr) (line : ℕ) → fetch t.body q ≡ Some (line_of i line) → Sound g t k q i → IsSound q
  at_line q i line e s l f =
      subst (λ y. Sound g t k q y.instr) (same_Some _ _ (sym e ∙ f)) s

  -- one line, and those behind it
  one_more : (from to : ℕ) → IsSound from → AreSound (suc from) to → AreSound from to
  one_more from to s more q l h = ⊎_elim (λ e. subst IsSound e s) (λ g. more q (omega (arith, g)) h) (eq-or-lt_of_le l)

  joined : (from mid to : ℕ) → AreSound from mid → AreSound mid to → AreSound from to
  joined from mid to a b q l h = ⊎_elim (λ y. a q l y) (λ y. b q y h) (below q mid)

  none_left : (from : ℕ) → AreSound from from
  none_left from q l h = absurd (omega (arith, l, h))

  later : (from to : ℕ) → from < to → may_jump t.body from to ≡ true
  later from to l = ap (λ b. elim b [ true ↦ true | false ↦ goes_back from (fetch t.body to) ]) (lt-ltb from to l)

  module _ (pc : ℕ) (m : Mark) (e : g.marks k pc ≡ m) where
    -- a mark at a place
    abbrev Of : (Mark → Type 0) → Type 0
    Of P = P m

    at_mark : (P : Mark → Type 0) → P m → P (g.marks k pc)
    at_mark P = subst P (sym e)

  led : (m n : Mark) (i : Instr) (pc : ℕ) → g.marks k pc ≡ m → Leads g t k m i n → To g t k n (suc pc) →
      Sound g t k pc i
  led _ _ _ pc e (leads_on m i us f) to = straight i us (at_mark pc m e (λ y. Effect g t y i y.stack us) f)
      (at_mark pc m e (λ y. To g t k (stacked y us) (suc pc)) to)
  led _ _ _ pc e (leads_storing m n s a ss es l h lg) to = stored s a ss (at_mark pc m e (λ y. y.stack ≡ a ∷ ss) es)
      (at_mark pc m e (λ y. s < length y.slots) l)
      (at_mark pc m e (λ y. ToStored g t k y s (suc pc)) (to.0, λ x vs st v q. to.1 x _ st (h x vs st v q)))
  led _ _ _ pc e (leads_nowhere m n lg) to = returns
  led _ _ _ pc e (leads_back m n a ss es nm h lg) to =
      returns_value a ss (at_mark pc m e (λ y. y.stack ≡ a ∷ ss) es) nm h
  led _ _ _ pc e (leads_coloured m z s h) to = colours z s h
      (at_mark pc m e (λ y. To g t k (topped y (s ∷ y.stack) (top_colour (the_colour z))) (suc pc)) to)
  led _ _ _ pc e (leads_loaded m i s there n) to = colours_by i s (at_mark pc m e (λ y. slice_get y.slots i ≡ Some s) there) n
      (at_mark pc m e (λ y. To g t k (topped y (s ∷ y.stack) (top_colour (colour_in i))) (suc pc)) to)
  led _ _ _ pc e (leads_pointed m i a ss es n q) to = colours_point i a ss (at_mark pc m e (λ y. y.stack ≡ a ∷ ss) es) n
      (at_mark pc m e (λ y. Among y.top (top_colour (colour_in i))) q)
      (at_mark pc m e (λ y. To g t k (topped y (index ∷ ss) (top_colour (point_in i))) (suc pc)) to)
  led _ _ _ pc e (leads_child m i sp a ss c es n h q) to = takes_child i sp a ss c (at_mark pc m e (λ y. y.stack ≡ a ∷ ss) es) n
      (at_mark pc m e (λ y. HasPartition y sp i) h) (at_mark pc m e (λ y. Among y.top (top_colour c)) q)
      (at_mark pc m e (λ y. To g t k (topped y (region sp unknown ∷ ss) (top_at (child_in i c))) (suc pc)) to)
  led _ _ _ pc e (leads_launching m task s line args callee there p b es h o) to = makes_launch task s line args callee there p b
      (at_mark pc m e (λ y. slice_get y.slots s ≡ Some space) es) (at_mark pc m e (λ y. Each (HasArgument y) args) h)
      (at_mark pc m e (λ y. OpensEach g t y task callee args) o) (at_mark pc m e (λ y. To g t k y (suc pc)) to)
  led _ _ _ pc e (leads_calling m task n callee args rest there p b tk o) to = makes_call task n callee args rest there p b
      (at_mark pc m e (λ y. Takes n y.stack [] args rest) tk) (at_mark pc m e (λ y. Opens g t y task callee args) o)
      (at_mark pc m e (λ y. To g t k (stacked y (awaited (g.results task) ∷ rest)) (suc pc)) to)
  led _ _ _ pc e (leads_waiting m i s there n h) to = awaits i s
      (at_mark pc m e (λ y. slice_get y.slots i ≡ Some (awaited s)) there) n
      (at_mark pc m e (λ y. Each (ColoursStand y.slots) y.facts) h)
      (at_mark pc m e (λ y. To g t k (stacked y (s ∷ y.stack)) (suc pc)) to)
  led _ _ _ pc e (leads_making m sp i c ss es there l os oss) to = makes_root sp i c ss
      (at_mark pc m e (λ y. y.stack ≡ space ∷ ss) es) there l (at_mark pc m e (λ y. Each (IsOther i) y.slots) os) oss
      (at_mark pc m e (λ y. To g t k (stacked y (region (Some sp) (own_as i) ∷ ss)) (suc pc)) to)
  led _ _ _ pc e (leads_cutting m s sp ss es h) to = makes_equal s sp ss
      (at_mark pc m e (λ y. y.stack ≡ space ∷ ss) es) (at_mark pc m e (λ y. HasRegion y sp s) h)
      (at_mark pc m e (λ y. To g t k (topped y (partition sp true ∷ ss) (top_parted s)) (suc pc)) to)
  led _ _ _ pc e (leads_colouring m s f sp ss es h) to = makes_by_field s f sp ss
      (at_mark pc m e (λ y. y.stack ≡ space ∷ ss) es) (at_mark pc m e (λ y. Allowed g t y sp f mode.Read s) h)
      (at_mark pc m e (λ y. To g t k (topped y (partition (Some sp) true ∷ ss) (top_parted s)) (suc pc)) to)
  led _ _ _ pc e (leads_minus m p q s sp sq so d hp hq hs f) to = makes_minus p q s sp sq so
      (record { disjoint = d; shape = at_mark pc m e (λ y. slice_get y.slots p ≡ Some (partition sp d)) hp })
      (at_mark pc m e (λ y. HasPartition y sq q) hq) (at_mark pc m e (λ y. HasRegion y so s) hs)
      (at_mark pc m e (λ y. Among y.facts (parted p s)) f)
      (at_mark pc m e (λ y. To g t k (topped y (partition so d ∷ y.stack) (top_parted s)) (suc pc)) to)
  led _ _ _ pc e (leads_meet m p q s sp sq so d b hp hq hs f) to = makes_meet p q s sp sq so
      (record { disjoint = d; shape = at_mark pc m e (λ y. slice_get y.slots p ≡ Some (partition sp d)) hp })
      (record { disjoint = b; shape = at_mark pc m e (λ y. slice_get y.slots q ≡ Some (partition sq b)) hq })
      (at_mark pc m e (λ y. HasRegion y so s) hs) (at_mark pc m e (λ y. Among y.facts (parted p s)) f)
      (at_mark pc m e (λ y. To g t k (topped y (partition so (d || b) ∷ y.stack) (top_parted s)) (suc pc)) to)
  led _ _ _ pc e (leads_join m p q s sp sq so hp hq hs f h) to = makes_join p q s sp sq so (at_mark pc m e (λ y. HasPartition y sp p) hp)
      (at_mark pc m e (λ y. HasPartition y sq q) hq) (at_mark pc m e (λ y. HasRegion y so s) hs)
      (at_mark pc m e (λ y. Among y.facts (parted p s)) f) (at_mark pc m e (λ y. Among y.facts (parted q s)) h)
      (at_mark pc m e (λ y. To g t k (topped y (partition so false ∷ y.stack) (top_parted s)) (suc pc)) to)
  led _ _ _ pc e (leads_image m s p r f sp sq so hs hp h i) to = makes_image s p r f sp sq so (at_mark pc m e (λ y. HasRegion y so s) hs)
      (at_mark pc m e (λ y. HasPartition y sq p) hp) (at_mark pc m e (λ y. Allowed g t y sp f mode.Read r) h)
      (at_mark pc m e (λ y. Among y.facts (parted p r)) i)
      (at_mark pc m e (λ y. To g t k (topped y (partition so false ∷ y.stack) (top_parted s)) (suc pc)) to)
  led _ _ _ pc e (leads_preimage m s p r f sp sq so d hs hp h i) to = makes_preimage s p r f sp sq so (at_mark pc m e (λ y. HasRegion y so s) hs)
      (record { disjoint = d; shape = at_mark pc m e (λ y. slice_get y.slots p ≡ Some (partition sq d)) hp })
      (at_mark pc m e (λ y. Allowed g t y sp f mode.Read r) h) (at_mark pc m e (λ y. Among y.facts (lies (in_slot s) (in_slot r))) i)
      (at_mark pc m e (λ y. To g t k (topped y (partition so d ∷ y.stack) (top_parted s)) (suc pc)) to)

  -- ---- jumps back

  goes_there : (from to : ℕ) → goes_back from (fetch t.body to) ≡ true → may_jump t.body from to ≡ true
  goes_there from to e = of_test (nat_lt from to)
    where
      of_test : (b : Bool) → elim b [ true ↦ true | false ↦ goes_back from (fetch t.body to) ] ≡ true
      of_test true = refl
      of_test false = e

  turn_back : (from to line : ℕ) → fetch t.body to ≡ Some (line_of instr.Turn line) → may_jump t.body from to ≡ true
  turn_back from to line e = goes_there from to (ap (goes_back from) e)

  head_back : (from to line c l v exit : ℕ) → fetch t.body to ≡ Some (line_of (instr.NextNumber c l v exit) line) →
      from < exit → may_jump t.body from to ≡ true
  head_back from to line c l v exit e h = goes_there from to (ap (goes_back from) e ∙ lt-ltb from exit h)

  head_point_back : (from to line s c v : ℕ) (ptr : Bool) (exit : ℕ) →
      fetch t.body to ≡ Some (line_of (instr.NextPoint s c v ptr exit) line) → from < exit → may_jump t.body from to ≡ true
  head_point_back from to line s c v ptr exit e h = goes_there from to (ap (goes_back from) e ∙ lt-ltb from exit h)

  -- ---- pieces

  pub are_sound : (m : Mark) (p : Piece) (ms : List Mark) (n : Mark) (pc : ℕ) → Typed g t k m p ms n →
      Stands t.body pc p → MarksAt g k pc ms → To g t k n (past p pc) → AreSound pc (past p pc)
  are_sound _ _ _ _ pc (typed_empty m) st h to = none_left pc
  are_sound _ _ _ _ pc (typed_op m n i line l) st h to = one_more pc (suc pc)
      (at_line pc i line st (led m n i pc h.0 l to)) (none_left (suc pc))
  are_sound _ _ _ _ pc (typed_both m n o a b ms ns f q) st h to =
      let hb = back_at m a ms ns n pc f h in
      joined pc (past a pc) (past b (past a pc))
      (are_sound m a ms n pc f st.0 (marks_front ms ns pc h) (begins n b ns o (past a pc) q hb to))
      (are_sound n b ns o (past a pc) q st.1 hb to)
  are_sound _ _ _ _ pc (typed_into m n o a ms f i lg) st h to =
      are_sound m a ms n pc f st h (to.0, into_then n o _ i to.1)
  are_sound _ _ _ _ pc (typed_from l m n a ms i f lg) st h to = are_sound m a ms n pc f st h to
  are_sound _ _ _ _ pc (typed_and m a ss line p ms e n f) st h to = one_more pc _
      (at_line pc _ line st.0 (jumps_and (past p (suc pc)) a ss (at_mark pc m h.0 (λ y. y.stack ≡ a ∷ ss) e) n
      (later pc _ (omega (arith, past_later p (suc pc))))
      (at_mark pc m h.0 (λ y. To g t k (stacked y (truth ∷ ss)) (past p (suc pc))) to)
      (at_mark pc m h.0 (λ y. To g t k (stacked y ss) (suc pc)) (begins _ p ms _ (suc pc) f h.1 to))))
      (are_sound _ p ms _ (suc pc) f st.1 h.1 to)
  are_sound _ _ _ _ pc (typed_or m a ss line p ms e n f) st h to = one_more pc _
      (at_line pc _ line st.0 (jumps_or (past p (suc pc)) a ss (at_mark pc m h.0 (λ y. y.stack ≡ a ∷ ss) e) n
      (later pc _ (omega (arith, past_later p (suc pc))))
      (at_mark pc m h.0 (λ y. To g t k (stacked y (truth ∷ ss)) (past p (suc pc))) to)
      (at_mark pc m h.0 (λ y. To g t k (stacked y ss) (suc pc)) (begins _ p ms _ (suc pc) f h.1 to))))
      (are_sound _ p ms _ (suc pc) f st.1 h.1 to)
  are_sound _ _ _ _ pc (typed_if m a ss line p ms e n f) st h to = one_more pc _
      (at_line pc _ line st.0 (jumps_if_not (past p (suc pc)) a ss (at_mark pc m h.0 (λ y. y.stack ≡ a ∷ ss) e) n
      (later pc _ (omega (arith, past_later p (suc pc))))
      (at_mark pc m h.0 (λ y. To g t k (stacked y ss) (past p (suc pc))) to)
      (at_mark pc m h.0 (λ y. To g t k (stacked y ss) (suc pc)) (begins _ p ms _ (suc pc) f h.1 to))))
      (are_sound _ p ms _ (suc pc) f st.1 h.1 to)
  are_sound _ _ _ _ pc (typed_branch m n a ss line p q ms ns e nm f w) st h to =
      let r = past p (suc pc) in
      let hb = back_at _ p ms (n ∷ ns) n (suc pc) f h.1 in
      let rest = begins _ q ns _ (suc r) w hb.1 to in
      let first = begins _ p ms n (suc pc) f (marks_front ms (n ∷ ns) (suc pc) h.1)
      (omega (arith, to.0, past_later q (suc r)), into_same n _ hb.0) in
      one_more pc _
      (at_line pc _ line st.0 (jumps_if_not (suc r) a ss (at_mark pc m h.0 (λ y. y.stack ≡ a ∷ ss) e) nm
      (later pc _ (omega (arith, past_later p (suc pc))))
      (at_mark pc m h.0 (λ y. To g t k (stacked y ss) (suc r)) rest)
      (at_mark pc m h.0 (λ y. To g t k (stacked y ss) (suc pc)) first)))
      (joined (suc pc) r _
      (are_sound _ p ms n (suc pc) f st.1 (marks_front ms (n ∷ ns) (suc pc) h.1)
      (omega (arith, to.0, past_later q (suc r)), into_same n _ hb.0))
      (one_more r _ (at_line r _ line st.2 (jumps (past q (suc r)) (later r _ (omega (arith, past_later q (suc r))))
      (at_mark r n hb.0 (λ y. To g t k (stacked y y.stack) (past q (suc r))) to)))
      (are_sound _ q ns _ (suc r) w st.3 hb.1 to)))
  are_sound _ _ _ _ pc (typed_loop m n a line test body ms ns f w e nm i) st h to =
      let q = suc (suc pc) in
      let r = past body q in
      let j = past test r in
      let o = stacked m m.stack in
      let two : List Mark = n ∷ o ∷ [] in
      let hb = back_at o body ms (ns ++ two) o q f h.1.1 in
      let he = back_at o test ns two n r w hb in
      let long : r ≤ j = past_later test r in
      let front : q ≤ r = past_later body q in
      let end_test : To g t k n j = (omega (arith, to.0), into_same n _ he.0) in
      let to_test = begins o test ns n r w (marks_front ns two r hb) end_test in
      let to_body = begins o body ms o q f (marks_front ms (ns ++ two) q h.1.1) to_test in
      one_more pc _
      (at_line pc _ line st.0 (jumps r (later pc r (omega (arith, front)))
      (at_mark pc o h.0 (λ y. To g t k (stacked y y.stack) r) to_test)))
      (one_more (suc pc) _
      (at_line (suc pc) _ line st.1 (takes_turn (at_mark (suc pc) o h.1.0 (λ y. To g t k y q) to_body)))
      (joined q r _ (are_sound o body ms o q f st.2 (marks_front ms (ns ++ two) q h.1.1) to_test)
      (joined r j _ (are_sound o test ns n r w st.3 (marks_front ns two r hb) end_test)
      (one_more j _
      (at_line j _ line st.4 (jumps_if_not (suc (suc j)) a m.stack (at_mark j n he.0 (λ y. y.stack ≡ a ∷ m.stack) e) nm
      (later j _ (omega arith))
      (at_mark j n he.0 (λ y. To g t k (stacked y m.stack) (suc (suc j))) (to.0, into_then _ o _ i to.1))
      (at_mark j n he.0 (λ y. To g t k (stacked y m.stack) (suc j))
      (omega (arith, to.0), into_then _ o _ i (into_same o _ he.1.0)))))
      (one_more (suc j) _
      (at_line (suc j) _ line st.5 (jumps (suc pc) (turn_back (suc j) (suc pc) line st.1)
      (at_mark (suc j) o he.1.0 (λ y. To g t k (stacked y y.stack) (suc pc))
      (omega (arith, to.0, long, front), into_same o _ h.1.0))))
      (none_left (suc (suc j))))))))
  are_sound _ _ _ _ pc (typed_rounds m n c l v a b line body ms ec nc el nl hv r lg f) st h to =
      let q = past body (suc pc) in
      let o = stacked m m.stack in
      let front : suc pc ≤ q = past_later body (suc pc) in
      let hb = back_at n body ms (o ∷ []) o (suc pc) f h.1 in
      let end_body : To g t k o q = (omega (arith, to.0), into_same o _ hb.0) in
      let to_body = begins n body ms o (suc pc) f (marks_front ms (o ∷ []) (suc pc) h.1) end_body in
      one_more pc _
      (at_line pc _ line st.0 (counts_numbers c l v (suc q) a b
      (at_mark pc o h.0 (λ y. slice_get y.slots c ≡ Some a) ec) nc
      (at_mark pc o h.0 (λ y. slice_get y.slots l ≡ Some b) el) nl
      (at_mark pc o h.0 (λ y. v < length y.slots) hv) (omega (arith, front))
      (at_mark pc o h.0 (λ y. To g t k (stacked y y.stack) (suc q)) to) to_body.0
      (at_mark pc o h.0 (λ y. RoundNumber g t c l v y (g.marks k (suc pc)))
      (λ x vs st u i e ei ee lt. to_body.1 x _ st (r x vs st u i e ei ee lt)))))
      (joined (suc pc) q _ (are_sound n body ms o (suc pc) f st.1 (marks_front ms (o ∷ []) (suc pc) h.1) end_body)
      (one_more q _
      (at_line q _ line st.2 (jumps pc (head_back q pc line c l v (suc q) st.0 (omega arith))
      (at_mark q o hb.0 (λ y. To g t k (stacked y y.stack) pc) (omega (arith, to.0, front), into_same o _ h.0))))
      (none_left (suc q))))
  are_sound _ _ _ _ pc (typed_points m n s c v ptr line body ms ef hv r lg f) st h to =
      let q = past body (suc pc) in
      let o = stacked m m.stack in
      let front : suc pc ≤ q = past_later body (suc pc) in
      let hb = back_at n body ms (o ∷ []) o (suc pc) f h.1 in
      let end_body : To g t k o q = (omega (arith, to.0), into_same o _ hb.0) in
      let to_body = begins n body ms o (suc pc) f (marks_front ms (o ∷ []) (suc pc) h.1) end_body in
      one_more pc _
      (at_line pc _ line st.0 (counts_points s c v ptr (suc q)
      (at_mark pc o h.0 (λ y. Among y.facts (counts c s)) ef)
      (at_mark pc o h.0 (λ y. v < length y.slots) hv) (omega (arith, front))
      (at_mark pc o h.0 (λ y. To g t k (stacked y y.stack) (suc q)) to) to_body.0
      (at_mark pc o h.0 (λ y. RoundPoint g t s c v ptr y (g.marks k (suc pc)))
      (λ x vs st u d i p es ec ep. to_body.1 x _ st (r x vs st u d i p es ec ep)))))
      (joined (suc pc) q _ (are_sound n body ms o (suc pc) f st.1 (marks_front ms (o ∷ []) (suc pc) h.1) end_body)
      (one_more q _
      (at_line q _ line st.2 (jumps pc (head_point_back q pc line s c v ptr (suc q) st.0 (omega arith))
      (at_mark q o hb.0 (λ y. To g t k (stacked y y.stack) pc) (omega (arith, to.0, front), into_same o _ h.0))))
      (none_left (suc q))))
