-- Pieces of code with a mark for each line: the code leads from mark to mark.
use Rattle.std.specs.Prelude.{◌≡◌, ℕ, ◌<◌, ◌≤◌, ℤ, Bool, true, false, ◌||◌, List, [], ◌∷◌, ◌++◌, length, Option, Some, slice_get}
use Rattle.index_launch.specs.declared.points.LaunchArg.{LaunchArg}
use Rattle.lane_kernels.specs.declared.numbers.Mode.TheVariants as mode
use Rattle.task_code.specs.declared.code.TaskCode.{TaskCode}
use Rattle.task_code.specs.declared.instr.Instr.{Instr}
use Rattle.task_code.specs.declared.instr.Instr.TheVariants as instr
use Rattle.code_rules.specs.Pieces.{Piece, empty, op, ◌⨟◌, over, branch, loop, rounds}
use Rattle.task_code.specs.declared.code.SpaceCode.{SpaceCode}
use Rattle.fit_rules.specs.Shapes.{Among, Each, index, Shape, truth, space, region, partition, own_as, unknown, awaited, Numeric, NumberIs}
use Rattle.fit_rules.specs.Marks.{child_in, Colour, colour_in, point_in, ColoursStand, counts, in_slot, lies, Mark, Into, parted, Stores, stacked, the_colour, top_colour, top_at, top_parted, topped}
use Rattle.fit_rules.specs.Fits.{Program}
use Rattle.fit_rules.specs.Sound.{Allowed, Effect, HasArgument, HasPartition, HasRegion, IsOther, Opens, OpensEach, RoundNumber, RoundPoint, Takes}

module _ (g : Program) (t : TaskCode) (k : ℕ) where
  -- an instruction leads from a mark to a mark; behind a return any mark may stand
  pub data Leads : Mark → Instr → Mark → Type 0 where
    leads_on : (m : Mark) (i : Instr) (us : List Shape) → Effect g t m i m.stack us →
        Leads m i (stacked m us)
    leads_storing : (m n : Mark) (s : ℕ) (a : Shape) (ss : List Shape) → m.stack ≡ a ∷ ss →
        s < length m.slots → Stores t.params m s n → length n.slots ≡ length m.slots →
        Leads m (instr.Store s) n
    leads_nowhere : (m n : Mark) → length n.slots ≡ length m.slots → Leads m instr.Return n
    leads_back : (m n : Mark) (a : Shape) (ss : List Shape) → m.stack ≡ a ∷ ss → Numeric a →
        ((z : ℤ) → NumberIs a z → NumberIs (g.results k) z) → length n.slots ≡ length m.slots →
        Leads m instr.ReturnValue n
    -- a number that is known
    leads_coloured : (m : Mark) (z : ℤ) (s : Shape) → NumberIs s z →
        Leads m (instr.Num z) (topped m (s ∷ m.stack) (top_colour (the_colour z)))
    -- one that is known to stand in a slot, and the point of such a pointer
    leads_loaded : (m : Mark) (i : ℕ) (s : Shape) → slice_get m.slots i ≡ Some s → Numeric s →
        Leads m (instr.Load i) (topped m (s ∷ m.stack) (top_colour (colour_in i)))
    leads_pointed : (m : Mark) (i : ℕ) (a : Shape) (ss : List Shape) → m.stack ≡ a ∷ ss → Numeric a → Among m.top (top_colour (colour_in i)) →
        Leads m instr.Point (topped m (index ∷ ss) (top_colour (point_in i)))
    -- a child, of which is known of which partition it is
    leads_child : (m : Mark) (i : ℕ) (sp : Option ℕ) (a : Shape) (ss : List Shape) (c : Colour) → m.stack ≡ a ∷ ss → Numeric a →
        HasPartition m sp i → Among m.top (top_colour c) →
        Leads m (instr.Child i) (topped m (region sp unknown ∷ ss) (top_at (child_in i c)))
    -- a launch, whose results nobody keeps
    leads_launching : (m : Mark) (task s line : ℕ) (args : List LaunchArg) (callee : TaskCode) →
        slice_get g.code.tasks task ≡ Some callee → callee.params ≡ length args → 0 < length callee.body →
        slice_get m.slots s ≡ Some space → Each (HasArgument m) args → OpensEach g t m task callee args →
        Leads m (instr.Launch task s line args) m
    -- a call, whose result may be pending, and where it is waited for
    leads_calling : (m : Mark) (task n : ℕ) (callee : TaskCode) (args rest : List Shape) →
        slice_get g.code.tasks task ≡ Some callee → callee.params ≡ n → 0 < length callee.body →
        Takes n m.stack [] args rest → Opens g t m task callee args →
        Leads m (instr.Call task n) (stacked m (awaited (g.results task) ∷ rest))
    leads_waiting : (m : Mark) (i : ℕ) (s : Shape) → slice_get m.slots i ≡ Some (awaited s) → Numeric s →
        Each (ColoursStand m.slots) m.facts → Leads m (instr.Load i) (stacked m (s ∷ m.stack))
    -- a root is made under a number
    leads_making : (m : Mark) (sp i : ℕ) (c : SpaceCode) (ss : List Shape) → m.stack ≡ space ∷ ss →
        slice_get g.code.spaces sp ≡ Some c → length c.fields ≤ 256 → Each (IsOther i) m.slots → Each (IsOther i) ss →
        Leads m (instr.NewRoot sp) (stacked m (region (Some sp) (own_as i) ∷ ss))
    -- a partition is made of the region in a slot, an equal one or one by a field
    leads_cutting : (m : Mark) (s : ℕ) (sp : Option ℕ) (ss : List Shape) → m.stack ≡ space ∷ ss → HasRegion m sp s →
        Leads m (instr.Equal s) (topped m (partition sp true ∷ ss) (top_parted s))
    leads_colouring : (m : Mark) (s f sp : ℕ) (ss : List Shape) → m.stack ≡ space ∷ ss → Allowed g t m sp f mode.Read s →
        Leads m (instr.ByField s f) (topped m (partition (Some sp) true ∷ ss) (top_parted s))
    -- one is made of two others of the region in a slot
    leads_minus : (m : Mark) (p q s : ℕ) (sp sq so : Option ℕ) (d : Bool) → slice_get m.slots p ≡ Some (partition sp d) →
        HasPartition m sq q → HasRegion m so s → Among m.facts (parted p s) →
        Leads m (instr.Minus p q s) (topped m (partition so d ∷ m.stack) (top_parted s))
    leads_meet : (m : Mark) (p q s : ℕ) (sp sq so : Option ℕ) (d e : Bool) → slice_get m.slots p ≡ Some (partition sp d) →
        slice_get m.slots q ≡ Some (partition sq e) → HasRegion m so s → Among m.facts (parted p s) →
        Leads m (instr.Meet p q s) (topped m (partition so (d || e) ∷ m.stack) (top_parted s))
    leads_join : (m : Mark) (p q s : ℕ) (sp sq so : Option ℕ) → HasPartition m sp p → HasPartition m sq q → HasRegion m so s →
        Among m.facts (parted p s) → Among m.facts (parted q s) →
        Leads m (instr.Join p q s) (topped m (partition so false ∷ m.stack) (top_parted s))
    -- or of another one and a field of a region: that one is of this region, or what is cut lies within it
    leads_image : (m : Mark) (s p r f sp : ℕ) (sq so : Option ℕ) → HasRegion m so s → HasPartition m sq p →
        Allowed g t m sp f mode.Read r → Among m.facts (parted p r) →
        Leads m (instr.Image s p r f) (topped m (partition so false ∷ m.stack) (top_parted s))
    leads_preimage : (m : Mark) (s p r f sp : ℕ) (sq so : Option ℕ) (d : Bool) → HasRegion m so s → slice_get m.slots p ≡ Some (partition sq d) →
        Allowed g t m sp f mode.Read r → Among m.facts (lies (in_slot s) (in_slot r)) →
        Leads m (instr.Preimage s p r f) (topped m (partition so d ∷ m.stack) (top_parted s))

  -- A piece leads from a mark to a mark, with a mark for each of its lines.
  pub data Typed : Mark → Piece → List Mark → Mark → Type 0 where
    typed_empty : (m : Mark) → Typed m empty [] m
    typed_op : (m n : Mark) (i : Instr) (line : ℕ) → Leads m i n → Typed m (op i line) (m ∷ []) n
    typed_both : (m n o : Mark) (a b : Piece) (ms ns : List Mark) → Typed m a ms n → Typed n b ns o →
        Typed m (a ⨟ b) (ms ++ ns) o
    typed_into : (m n o : Mark) (a : Piece) (ms : List Mark) → Typed m a ms n → Into t.params n o →
        length o.slots ≡ length n.slots → Typed m a ms o
    typed_from : (l m n : Mark) (a : Piece) (ms : List Mark) → Into t.params l m → Typed m a ms n →
        length m.slots ≡ length l.slots → Typed l a ms n
    typed_and : (m : Mark) (a : Shape) (ss : List Shape) (line : ℕ) (p : Piece) (ms : List Mark) →
        m.stack ≡ a ∷ ss → Numeric a → Typed (stacked m ss) p ms (stacked m (truth ∷ ss)) →
        Typed m (over instr.AndJump line p) (m ∷ ms) (stacked m (truth ∷ ss))
    typed_or : (m : Mark) (a : Shape) (ss : List Shape) (line : ℕ) (p : Piece) (ms : List Mark) →
        m.stack ≡ a ∷ ss → Numeric a → Typed (stacked m ss) p ms (stacked m (truth ∷ ss)) →
        Typed m (over instr.OrJump line p) (m ∷ ms) (stacked m (truth ∷ ss))
    typed_if : (m : Mark) (a : Shape) (ss : List Shape) (line : ℕ) (p : Piece) (ms : List Mark) →
        m.stack ≡ a ∷ ss → Numeric a → Typed (stacked m ss) p ms (stacked m ss) →
        Typed m (over instr.JumpIfNot line p) (m ∷ ms) (stacked m ss)
    typed_branch : (m n : Mark) (a : Shape) (ss : List Shape) (line : ℕ) (p q : Piece)
        (ms ns : List Mark) → m.stack ≡ a ∷ ss → Numeric a → Typed (stacked m ss) p ms n →
        Typed (stacked m ss) q ns (stacked n n.stack) →
        Typed m (branch line p q) (m ∷ (ms ++ n ∷ ns)) (stacked n n.stack)
    -- a loop's mark stands at its head, before its body and before its test
    typed_loop : (m n : Mark) (a : Shape) (line : ℕ) (test body : Piece) (ms ns : List Mark) →
        Typed (stacked m m.stack) body ms (stacked m m.stack) →
        Typed (stacked m m.stack) test ns n → n.stack ≡ a ∷ m.stack → Numeric a →
        Into t.params (stacked n m.stack) (stacked m m.stack) →
        Typed (stacked m m.stack) (loop line test body)
        (stacked m m.stack ∷ stacked m m.stack
        ∷ (ms ++ (ns ++ n ∷ stacked m m.stack ∷ []))) (stacked m m.stack)
    typed_rounds : (m n : Mark) (c l v : ℕ) (a b : Shape) (line : ℕ) (body : Piece)
        (ms : List Mark) → slice_get m.slots c ≡ Some a → Numeric a →
        slice_get m.slots l ≡ Some b → Numeric b → v < length m.slots →
        RoundNumber g t c l v (stacked m m.stack) n → length n.slots ≡ length m.slots → Typed n body ms (stacked m m.stack) →
        Typed (stacked m m.stack) (rounds (instr.NextNumber c l v) line body)
        (stacked m m.stack ∷ (ms ++ stacked m m.stack ∷ [])) (stacked m m.stack)
    typed_points : (m n : Mark) (s c v : ℕ) (ptr : Bool) (line : ℕ) (body : Piece) (ms : List Mark) →
        Among m.facts (counts c s) → v < length m.slots →
        RoundPoint g t s c v ptr (stacked m m.stack) n → length n.slots ≡ length m.slots → Typed n body ms (stacked m m.stack) →
        Typed (stacked m m.stack) (rounds (instr.NextPoint s c v ptr) line body)
        (stacked m m.stack ∷ (ms ++ stacked m m.stack ∷ [])) (stacked m m.stack)
