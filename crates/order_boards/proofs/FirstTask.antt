-- The roots of a board's first task have its makings, and what it answers tells of each.
use Rattle.std.proofs.Common.{◌≡◌, ℕ, suc, List, [], ◌∷◌, ◌++◌, Bool, true, false, cond, map, Option, Some, None, refl, sym, ◌∙◌, subst, drop, take}
use Rattle.std.proofs.lemmas.Option.{none-some, same_Some}
use Rattle.region_tree.specs.Requirements.{Requirement}
use Rattle.task_code.specs.declared.code.Code.{Code}
use Rattle.machine_terms.specs.declared.frame.Frame.{Frame}
use Rattle.machine_terms.specs.declared.outcome.Made.{Made}
use Rattle.machine_terms.specs.declared.outcome.Made.TheVariants as made
use Rattle.machine_terms.specs.declared.outcome.Yield.{Yield}
use Rattle.machine_terms.specs.declared.outcome.Yield.TheVariants as yield
use Rattle.machine_terms.specs.Segments.{segment}
use Rattle.board_rules.specs.Boards.{◌+++◌, Items, Kind, Operation, Stage, Stepped, Wait, all_ended, all_issued, all_over, at_fault, awaited, back, by, child, claim, close, closing, copied, copy, dropped, ending_with, filling, first, give, given, idle, in_op, is_over, is_ready, met_by, no_item, nothing, op, out, over, part, said, settle, stop, stopped, step_among, step_in, sweep, waits_for_failed, wants}
use Rattle.board_rules.specs.Ground.{Ground}
use Rattle.board_rules.specs.Journals.{Entry, State, after_entries, stepped}
use Rattle.board_rules.specs.Processes.{Map}
use Rattle.board_rules.specs.Running.{Call, Element, Machine as BoardMachine, Spot, calls, filled}
use Rattle.regent_boards.specs.Frames as board
use Rattle.regent_boards.specs.Laws.{by_maker}
use Rattle.regent_boards.specs.RegentMachine.{name_of, own_roots, regent_ground, root_of, size_of, space_of}
use Rattle.code_boards.specs.Views.{before_in, board_segment, called, last_frame, made_out, spaces_of, yield_out}
use Rattle.order_boards.proofs.Stands.{root_size, root_space}

-- each root has the name of this making of the operation at a place
abbrev pub AreNamed : List ℕ → List ℕ → List ℕ → Type 0
AreNamed p [] [] = Unit {0}
AreNamed p (r ∷ rs) (i ∷ is) = (r ≡ root_of (space_of r) (size_of r) (name_of p i)) × AreNamed p rs is
AreNamed p _ _ = ⊥

named_more : (p : List ℕ) (rs is : List ℕ) (space size i : ℕ) → AreNamed p rs is → AreNamed p (rs ++ root_of space size (name_of p i) ∷ []) (is ++ i ∷ [])
named_more p [] [] space size i h = (λ l. root_of (sym (root_space space size (name_of p i)) l) (sym (root_size space size (name_of p i)) l) (name_of p i), tt)
named_more p [] (k ∷ is) space size i h = absurd h
named_more p (r ∷ rs) [] space size i h = absurd h
named_more p (r ∷ rs) (k ∷ is) space size i h = (h.0, named_more p rs is space size i h.1)

module _ (code : Code) (turns : ℕ) where
  abbrev G : Ground
  G = regent_ground (spaces_of code)

  abbrev K : BoardMachine G
  K = by_maker (spaces_of code) (board_segment code turns)

  -- one whose work has ended answers with its roots
  abbrev pub Told : Stage G → board.Frame → Type 0
  Told (closing (by v)) f = v.roots ≡ own_roots f.own f.makings
  Told (over (by v)) f = v.roots ≡ own_roots f.own f.makings
  Told _ f = Unit {0}

  abbrev pub IsFirst : Operation G → Type 0
  IsFirst (op D N i f ps st is) = AreNamed [] f.own f.makings × Told st f

  abbrev IfFirst : Option (Stepped G (Operation G)) → Type 0
  IfFirst None = Unit {0}
  IfFirst (Some s) = IsFirst s.left

  -- ---- what follows a step

  told_stop : (N : List Requirement) (st : Stage G) (is : Items G) (f : board.Frame) → Told st f → Told (stop G K N st is) f
  told_stop N (idle w) is f h = by_failed (waits_for_failed G K N w is)
    where
      by_failed : (b : Bool) → Told (cond b (closing stopped) (idle w)) f
      by_failed true = tt
      by_failed false = tt
  told_stop N (filling w d l) is f h = h
  told_stop N (out w d) is f h = h
  told_stop N (closing e) is f h = h
  told_stop N (over e) is f h = h
  told_stop N dropped is f h = h

  told_close : (st : Stage G) (is : Items G) (f : board.Frame) → Told st f → Told (close G K st is) f
  told_close (idle w) is f h = h
  told_close (filling w d l) is f h = h
  told_close (out w d) is f h = h
  told_close (closing (by v)) is f h = by_children (all_over G is) (all_ended G is)
    where
      by_children : (b c : Bool) → Told (cond b (over (ending_with G K (by v) c)) (closing (by v))) f
      by_children true true = h
      by_children true false = tt
      by_children false c = h
  told_close (closing (at_fault x)) is f h = by_children (all_over G is)
    where
      by_children : (b : Bool) → Told (cond b (over (at_fault x)) (closing (at_fault x))) f
      by_children true = tt
      by_children false = tt
  told_close (closing stopped) is f h = by_children (all_over G is)
    where
      by_children : (b : Bool) → Told (cond b (over stopped) (closing stopped)) f
      by_children true = tt
      by_children false = tt
  told_close (over e) is f h = h
  told_close dropped is f h = h

  settled_first : (n : Operation G) → IsFirst n → IsFirst (settle G K n)
  settled_first (op D N i f ps st is) h =
      let js = sweep G K [] is in (h.0, told_close (stop G K N st js) js f (told_stop N st js f h.1))

  -- ---- a segment that is given back

  -- own roots and makings are those of the frame from which the segment ran
  last_own : (f : board.Frame) (o : Option Frame) → ((last_frame f o).own ≡ f.own) × ((last_frame f o).makings ≡ f.makings)
  last_own f None = (refl, refl)
  last_own f (Some g) = (refl, refl)

  last_named : (f : board.Frame) (o : Option Frame) → AreNamed [] f.own f.makings → AreNamed [] (last_frame f o).own (last_frame f o).makings
  last_named f None h = h
  last_named f (Some g) h = h

  last_told : (f : board.Frame) (o : Option Frame) → own_roots f.own f.makings ≡ own_roots (last_frame f o).own (last_frame f o).makings
  last_told f None = refl
  last_told f (Some g) = refl

  module _ (D N : List Requirement) (i : ℕ) (is : Items G) (t : List ℕ) (f : board.Frame) (o : Option Frame) (ps : List (Element G)) (h : AreNamed [] f.own f.makings) where
    abbrev g : board.Frame
    g = last_frame f o

    calls_first : (xs : List (Call G)) → IsFirst (given G K [] D N i is t g ps (calls xs)).left
    calls_first xs = (last_named f o h, by_issued (all_issued G K N xs))
      where
        by_issued : (b : Bool) → Told (cond b (idle nothing) (closing (at_fault board.broken))) g
        by_issued true = tt
        by_issued false = tt

    made_first : (d : Made) → IsFirst (given G K [] D N i is t g ps (yield_out code turns f (yield.Make d))).left
    made_first (made.Root size space) = (named_more [] g.own g.makings space size i (last_named f o h), tt)
    made_first (made.Partition r sets disjoint) = by_sound (K.sound (made_out (made.Partition r sets disjoint)))
      where
        by_sound : (b : Bool) → IsFirst (cond {A = Stepped G (Operation G)} b
            (record { left = op D (K.grown [] i (made_out (made.Partition r sets disjoint)) N) (suc i) (K.pushed [] i (made_out (made.Partition r sets disjoint)) g) ps (idle nothing) (◌+++◌ G is (said t no_item)); effects = K.zeros [] i (made_out (made.Partition r sets disjoint)) })
            (record { left = op D N i g [] (closing (at_fault board.broken)) (◌+++◌ G is (said t no_item)); effects = [] })).left
        by_sound true = (last_named f o h, tt)
        by_sound false = (last_named f o h, tt)

    given_first : (y : Yield) → IsFirst (given G K [] D N i is t g ps (yield_out code turns f y)).left
    given_first (yield.Calls cs) = calls_first (map (called code turns f.depth) cs)
    given_first (yield.Want r k) = (last_named f o h, tt)
    given_first (yield.Await c) = (last_named f o h, tt)
    given_first (yield.Make d) = made_first d
    given_first (yield.End v) = (last_named f o h, last_told f o)
    given_first (yield.Fault x) = (last_named f o h, tt)
    given_first yield.MachineFault = (last_named f o h, tt)

  met_named : (w : Wait G) (f : board.Frame) (a : Option board.Answer) → AreNamed [] f.own f.makings → AreNamed [] (met_by G K w f a).own (met_by G K w f a).makings
  met_named first f a h = h
  met_named nothing f a h = h
  met_named (part k) f a h = h
  met_named (child c) f a h = h

  -- ---- each step keeps it

  own_first : (k : Kind) (before : Bool) (m : Map G) (D N : List Requirement) (i : ℕ) (f : board.Frame) (ps : List (Element G)) (st : Stage G) (is : Items G) →
      AreNamed [] f.own f.makings → IfFirst (step_in G K k [] [] before m (op D N i f ps st is))
  own_first claim before m D N i f ps (idle w) is h = by_ready (is_ready G K before N w is)
    where
      by_ready : (b : Bool) → IfFirst (cond b (Some (record { left = op D N i f ps (filling w [] (wants G K N w)) is; effects = [] })) None)
      by_ready true = (h, tt)
      by_ready false = tt
  own_first claim before m D N i f ps (filling w d l) is h = tt
  own_first claim before m D N i f ps (out w d) is h = tt
  own_first claim before m D N i f ps (closing e) is h = tt
  own_first claim before m D N i f ps (over e) is h = tt
  own_first claim before m D N i f ps dropped is h = tt
  own_first copy before m D N i f ps (idle w) is h = tt
  own_first copy before m D N i f ps (filling w d l) is h = (h, by_left (d ++ filled G K (take K.chunk l) m) (drop K.chunk l))
    where
      by_left : (e : List (Element G)) (k : List (Spot G)) → Told (copied G K w e k) f
      by_left e [] = tt
      by_left e (x ∷ k) = tt
  own_first copy before m D N i f ps (out w d) is h = tt
  own_first copy before m D N i f ps (closing e) is h = tt
  own_first copy before m D N i f ps (over e) is h = tt
  own_first copy before m D N i f ps dropped is h = tt
  own_first give before m D N i f ps (idle w) is h = tt
  own_first give before m D N i f ps (filling w d l) is h = tt
  own_first give before m D N i f ps (out w d) is h =
      let g = met_by G K w f (awaited G K w is) in
      let a = segment (before_in code g (ps ++ d)) in
      settled_first _ (given_first D N i is a.text g a.frame (K.segment g (ps ++ d)).parts (met_named w f (awaited G K w is) h) a.ends)
  own_first give before m D N i f ps (closing e) is h = tt
  own_first give before m D N i f ps (over e) is h = tt
  own_first give before m D N i f ps dropped is h = tt
  own_first back before m D N i f ps (idle w) is h = tt
  own_first back before m D N i f ps (filling w d l) is h = (h, tt)
  own_first back before m D N i f ps (out w d) is h = (h, tt)
  own_first back before m D N i f ps (closing e) is h = tt
  own_first back before m D N i f ps (over e) is h = tt
  own_first back before m D N i f ps dropped is h = tt

  step_first : (k : Kind) (way : List ℕ) (before : Bool) (m : Map G) (n : Operation G) → IsFirst n → IfFirst (step_in G K k way [] before m n)
  step_first k [] before m (op D N i f ps st is) h = own_first k before m D N i f ps st is h.0
  step_first k (c ∷ way) before m (op D N i f ps st is) h = by_over (is_over G st) (step_among G K k c way [] 0 [] m is)
    where
      by_items : (o : Option (Stepped G (Items G))) → IfFirst (in_op G K D N i f ps st o)
      by_items None = tt
      by_items (Some s) = settled_first (op D N i f ps st s.left) h

      by_over : (b : Bool) (o : Option (Stepped G (Items G))) → IfFirst (cond b None (in_op G K D N i f ps st o))
      by_over true o = tt
      by_over false o = by_items o

  none_stays : (es : List Entry) → after_entries G K None es ≡ None
  none_stays [] = refl
  none_stays (e ∷ es) = none_stays es

  pub journal_first : (es : List Entry) (s u : State G) → IsFirst s.tree → after_entries G K (Some s) es ≡ Some u → IsFirst u.tree
  journal_first [] s u h e = subst (λ (x : State G). IsFirst x.tree) (same_Some s u e) h
  journal_first (x ∷ es) s u h e =
      by_step (step_in G K x.kind x.way [] true s.map s.tree) (step_first x.kind x.way true s.map s.tree h) e (λ v g k. journal_first es v u g k)
    where
      by_step : (o : Option (Stepped G (Operation G))) → IfFirst o → after_entries G K (stepped G K s.map o) es ≡ Some u →
          ((v : State G) → IsFirst v.tree → after_entries G K (Some v) es ≡ Some u → IsFirst u.tree) → IsFirst u.tree
      by_step None g d more = absurd (none-some u (sym (none_stays es) ∙ d))
      by_step (Some t) g d more = more _ g d
