-- The code that tasks are compiled to is sound, with marks that are chosen task by task.
use Rattle.std.proofs.Common.{◌≡◌, ◌⊎◌, ⊎_elim, ℕ, zero, suc, ◌<◌, ◌≤◌, ◌-◌, ◌^◌, List, [], ◌∷◌, ◌++◌, map, Option, Some, None, true, refl, sym, ap, ◌∙◌, subst, arith, append_assoc, length-append}
use Rattle.std.specs.Prelude.{length, get_or, option_map, replicate, slice_get}
use Rattle.std.proofs.lemmas.List.{append-nil, length-map, length-replicate}
use Rattle.std.proofs.lemmas.Option.{get_or_from_slice_get, none-some, same_Some, slice_get-map}
use Rattle.regent_tree.specs.declared.typing.Bound.{Bound}
use Rattle.regent_tree.specs.declared.typing.StaticType.{StaticType}
use Rattle.regent_tree.specs.Scopes.{scope_of}
use Rattle.regent_tree.specs.StaticTypes.{field_term, no_task}
use Rattle.value_laws.specs.Shapes.{regions_listed}
use Rattle.regent_tree.specs.Syntax.{Tree, TaskTree}
use Rattle.regent_tree.specs.Typing.{param_types, result_type}
use Rattle.task_code.specs.declared.code.TaskCode.{TaskCode}
use Rattle.code_rules.specs.Instructions.{tasks_of}
use Rattle.code_rules.specs.Pieces.{lines}
use Rattle.code_rules.specs.Programs.{body_piece, code_of, task_code, place_of}
use Rattle.code_rules.specs.Statements.{block_code}
use Rattle.code_laws.specs.Programs.{task_setting}
use Rattle.code_laws.specs.Steps.{Forms}
use Rattle.code_laws.specs.Typed.{IsTypedBlock}
use Rattle.code_laws.proofs.Openings.{AreFrom, fits_slots, least_slots, params_from, params_length, types_in, types_cons, types_length}
use Rattle.code_laws.proofs.Places.{stands_alone}
use Rattle.fit_rules.specs.Shapes.{Each, Shape, anything}
use Rattle.fit_rules.specs.Marks.{Into, Mark, stacked}
use Rattle.fit_rules.specs.Fits.{Program}
use Rattle.fit_rules.specs.Sound.{IsSound}
use Rattle.marked_code.specs.Marked.{Typed}
use Rattle.std.proofs.Common.{◌||◌, nat_lt, Bool, true, false}
use Rattle.std.proofs.lemmas.Bool.{lt-ltb}
use Rattle.sound_code.proofs.SlotShapes.{partition_plain, pointer_plain, region_plain, slot_bare, slot_is, slot_numbered, slot_plain}
use Rattle.sound_code.specs.Named.{name_shape, slot_shape}
use Rattle.sound_code.specs.Named.{slot_at, AreNamed, HasSlots, Ready, loops_in}
use Rattle.sound_code.specs.Ways.{Way, all_made, by_rules, opening_facts, shape_in, shape_of}
use Rattle.sound_code.proofs.WholeTasks.{is_whole_task}
use Rattle.sound_code.proofs.Besides.{params_beside}
use Rattle.sound_code.proofs.Cuts.{Cut}
use Rattle.sound_code.proofs.Scoped.{IsByRules, Scoped}
use Rattle.sound_code.proofs.Wholes.{Asks}
use Rattle.sound_code.proofs.Grounds.{Ground, HasFacts}
use Rattle.sound_code.proofs.Steady.{steady_below}
use Rattle.sound_code.proofs.Told.{ToldBlock}
use Rattle.sound_code.proofs.Parameters.{opening_numbered, params_low}
use Rattle.sound_code.specs.Marks.{opening_mark}
use Rattle.sound_code.proofs.Asked.{Hands, other, Known, upto_before, upto_end}
use Rattle.code_laws.proofs.Told.{block_grows}
use Rattle.sound_code.proofs.Blocks.{block_marked}
use Rattle.sound_code.proofs.Stops.{Stops}
use Rattle.sound_code.proofs.Calling.{opening_steady, types_many}
use Rattle.marked_code.proofs.Firsts.{begins_with}
use Rattle.marked_code.specs.Bodies.{MarksAt}
use Rattle.marked_code.proofs.Long.{long_marks}
use Rattle.marked_code.proofs.Remarked.{Begins, marks_listed, remarked, typed_remarked}
use Rattle.marked_code.proofs.Validity.{valid_of}

-- ---- the mark in which a body begins

at_seam : (f : StaticType → Shape) (xs ys : List StaticType) (y : StaticType) (zs : List Shape) →
    slice_get (map f (xs ++ y ∷ ys) ++ zs) (length xs) ≡ Some (f y)
at_seam f [] ys y zs = refl
at_seam f (x ∷ xs) ys y zs = at_seam f xs ys y zs

or_true : (a b : Bool) → b ≡ true → (a || b) ≡ true
or_true true b e = refl
or_true false b e = e

named_open : (way : Way) (params : ℕ) (bs : List Bound) (more : List StaticType) (blanks : List Shape) → AreFrom 0 bs →
    length bs ≤ params → AreNamed way params (map (shape_in way params) (types_in bs ++ more) ++ blanks) bs
named_open way params [] more blanks a l = tt
named_open way params (b ∷ bs) more blanks a l =
    let f = shape_in way params in
    let eq : types_in (b ∷ bs) ++ more ≡ types_in bs ++ b.static_type ∷ more =
    ap (λ ts. ts ++ more) (types_cons b bs) ∙ append_assoc (types_in bs) (b.static_type ∷ []) more in
    let place : slot_at params b.place ≡ length (types_in bs) = omega (arith, a.0, l, types_length bs) in
    subst (λ ts. AreNamed way params (map f ts ++ blanks) (b ∷ bs)) (sym eq) (
      omega (arith, a.0),
      ap (slice_get (map f (types_in bs ++ b.static_type ∷ more) ++ blanks)) place ∙ at_seam f (types_in bs) more b.static_type blanks
          ∙ ap (λ c. Some (slot_shape c (f b.static_type))) (sym (or_true b.by_loop (nat_lt b.place params) (lt-ltb b.place params (omega (arith, a.0, l))))),
      named_open way params bs (b.static_type ∷ more) blanks a.1 (omega (arith, l)),
    )

free_behind : (ss : List Shape) (n s : ℕ) → length ss ≤ s → s < length (ss ++ replicate n anything) →
    slice_get (ss ++ replicate n anything) s ≡ Some anything
free_behind [] zero s h l = absurd (omega (arith, l))
free_behind [] (suc n) zero h l = refl
free_behind [] (suc n) (suc s) h l = free_behind [] n s (omega arith) (omega (arith, l))
free_behind (x ∷ ss) n zero h l = absurd (omega (arith, h))
free_behind (x ∷ ss) n (suc s) h l = free_behind ss n s (omega (arith, h)) (omega (arith, l))

-- tasks are looked at in the same way from each other
other_same : (way : Way) (t u : TaskTree) → other (other way t) u ≡ other way u
other_same all_made t u = refl
other_same (by_rules tops task) t u = refl

module _ (tree : Tree) where
  names_many : (t : TaskTree) → length (scope_of tree t).names ≡ length t.params
  names_many t = params_length tree t.params 0 t.params

  slots_many : (way : Way) (t : TaskTree) → length (opening_mark way tree t).slots ≡ (task_code tree t).slots
  slots_many way t =
      let blanks = (task_code tree t).slots - length t.params in
      length-append (map (shape_in way (length t.params)) (param_types tree t)) (replicate blanks anything)
      ∙ omega (
        arith,
        length-map (param_types tree t) (shape_in way (length t.params)),
        length-replicate blanks anything,
        types_many tree t,
        least_slots (length t.params) (task_code tree t).body,
      )

  opening_ready : (way : Way) (t : TaskTree) → Ready way (length t.params) (scope_of tree t).names (opening_mark way tree t)
  opening_ready way t =
      let n = length t.params in
      let blanks = (task_code tree t).slots - n in
      let f = shape_in way n in
      record {
        named = subst (λ y. AreNamed way n (map f y ++ replicate blanks anything) (scope_of tree t).names)
            (append-nil (param_types tree t)) (named_open way n (scope_of tree t).names [] (replicate blanks anything)
            (params_from tree t.params 0 t.params) (omega (arith, names_many t)));
        beside = params_beside way n (opening_mark way tree t).slots tree t.params;
        free = λ s h l. free_behind (map f (param_types tree t)) blanks s
            (omega (arith, h, names_many t, length-map (param_types tree t) f, types_many tree t)) l;
        numbered = opening_numbered way n (scope_of tree t).names (param_types tree t) blanks (params_low tree t);
        facts = steady_below n n (length (scope_of tree t).names) [] (loops_in way (scope_of tree t).names) (opening_facts way tree t) (omega (arith, names_many t)) (λ b h. absurd h) (opening_steady way tree t);
        low = omega (arith, names_many t);
        fixed = omega (arith, names_many t);
      }

-- ---- the program before marks are chosen

facts_open : (way : Way) (tree : Tree) (t : TaskTree) → HasFacts (other way t) tree (opening_facts (other way t) tree t)
facts_open all_made tree t = tt
facts_open (by_rules tops task) tree t = λ k a. a

module _ (tree : Tree) (way : Way) where
  -- the mark in which a task begins
  abbrev pub first_of : TaskTree → Mark
  first_of t = opening_mark (other way t) tree t

  abbrev pub task_at : ℕ → TaskTree
  task_at k = get_or (tasks_of tree) k no_task

  abbrev pub bare : Program
  bare = record {
    code = code_of tree;
    positions = λ sp f. regions_listed (field_term tree sp f);
    results = λ k. shape_of (result_type tree (task_at k).result);
    begins = λ k. first_of (task_at k);
    marks = λ k pc. first_of (task_at k);
  }

  pub is_at : (k : ℕ) (t : TaskTree) → slice_get (tasks_of tree) k ≡ Some t → task_at k ≡ t
  is_at k t e = get_or_from_slice_get (tasks_of tree) k t no_task e

  bare_known : (t : TaskTree) → Known (other way t) bare tree
  bare_known t = record {
    code = refl;
    positions = λ sp f. refl;
    results = λ k t e. ap (λ y. shape_of (result_type tree y.result)) (is_at k t e);
    begins = λ k u e. ap first_of (is_at k u e) ∙ ap (λ y. opening_mark y tree u) (sym (other_same way t u));
    first = λ k u e x vs st s. s;
  }

  -- marks of a task's body, and of the place behind it
  pub record Treated (k : ℕ) (t : TaskTree) (ms : List Mark) : Type 0 where
    pub front : List Mark
    pub last : Mark
    pub are : ms ≡ front ++ last ∷ []
    pub typed : Typed bare (task_code tree t) k (first_of t) (block_code (place_of tree t) t.body) front last
    pub stops : Stops bare (task_code tree t) k (other way t) tree (length t.params) (first_of t).facts (place_of tree t) t.body 0 front last
    pub small : length (task_code tree t).body ≤ 2 ^ 32

  pub record HasMarks (k : ℕ) (t : TaskTree) : Type 0 where
    pub marks : List Mark
    pub treated : Treated k t marks

  pub treat : (forms : Forms) (k : ℕ) (t : TaskTree) → slice_get (tasks_of tree) k ≡ Some t → Hands forms (task_code tree t) (other way t) tree →
      Ground (task_code tree t) (other way t) tree (length t.params) (scope_of tree t) → ToldBlock (other way t) tree (scope_of tree t) t.body →
      IsTypedBlock forms (place_of tree t) t.body → (forms.keeps ≡ true → IsByRules (other way t)) → Scoped forms.keeps (other way t) (scope_of tree t).names →
      Cut forms.keeps (other way t) tree (length t.params) (opening_facts (other way t) tree t) (scope_of tree t).names → Asks forms.keeps (is_whole_task true tree t) →
      length (lines (body_piece tree t) 0) ≤ 2 ^ 32 → HasMarks k t
  treat forms k t there hands ground told typed ruled scoped cut whole small =
      let code = task_code tree t in
      let m = first_of t in
      let have : HasSlots code code.slots = fits_slots (task_setting forms tree 0 0 0 [] t) tree t refl in
      let f = block_marked bare code k code.slots have forms (other way t) (place_of tree t) m t.body typed whole
      (record {
        hands = hands;
        ready = opening_ready tree (other way t) t;
        params = refl;
        result = ap (λ y. shape_of (result_type tree y.result)) (is_at k t there);
        room = slots_many tree (other way t) t;
        known = bare_known t;
        ground = ground;
        facts = facts_open way tree t;
        ruled = ruled;
        scoped = scoped;
        cut = cut;
        upto = upto_before (other way t) tree _ _ (block_grows tree (scope_of tree t) t.body) (upto_end way tree t);
      }) told (upto_end way tree t) 0 (stands_alone (body_piece tree t) small).0 in
      record {
        marks = f.done.is.marks ++ stacked f.done.next [] ∷ [];
        treated = record { front = f.done.is.marks; last = stacked f.done.next []; are = refl; typed = f.done.is.is; stops = f.stops; small = small };
      }

  -- ---- the program with its marks

  -- the marks of each task: those of a list, and else the one in which it begins
  abbrev pub marks_of : (ℕ → List Mark) → ℕ → ℕ → Mark
  marks_of lists k pc = get_or (lists k) pc (first_of (task_at k))

  -- a task has marks, or none
  abbrev pub IsMarked : (ℕ → List Mark) → Type 0
  IsMarked lists = (k : ℕ) (t : TaskTree) → slice_get (tasks_of tree) k ≡ Some t → (lists k ≡ []) ⊎ Treated k t (lists k)

  -- a task's code is there
  pub record TaskOf (k : ℕ) (callee : TaskCode) : Type 0 where
    pub task : TaskTree
    pub there : slice_get (tasks_of tree) k ≡ Some task
    pub is : task_code tree task ≡ callee

  task_of : (k : ℕ) (callee : TaskCode) → slice_get (code_of tree).tasks k ≡ Some callee → TaskOf k callee
  task_of k callee e = found (slice_get (tasks_of tree) k) refl (sym (slice_get-map (task_code tree) (tasks_of tree) k) ∙ e)
    where
      found : (o : Option TaskTree) → slice_get (tasks_of tree) k ≡ o → option_map (task_code tree) o ≡ Some callee → TaskOf k callee
      found None q e = absurd (none-some callee e)
      found (Some t) q e = record { task = t; there = q; is = same_Some _ _ e }

  pub begins : (lists : ℕ → List Mark) → IsMarked lists → Begins bare (marks_of lists)
  begins lists marked k callee e =
      let o = task_of k callee e in
      ⊎_elim
      (λ none. subst (λ ms. Into callee.params (first_of (task_at k)) (get_or ms 0 (first_of (task_at k)))) (sym none)
      (λ x vs st s. s))
      (λ (h : Treated k o.task (lists k)). subst (λ (c : TaskCode). Into c.params (first_of (task_at k)) (marks_of lists k 0)) o.is
      (subst (λ ms. Into (task_code tree o.task).params (first_of (task_at k)) (get_or ms 0 (first_of (task_at k)))) (sym h.are)
      (subst (λ y. Into (task_code tree o.task).params y (get_or (h.front ++ h.last ∷ []) 0 (first_of (task_at k))))
      (ap (first_of) (sym (is_at k o.task o.there)))
      (begins_with bare (task_code tree o.task) k (first_of (task_at k)) (first_of o.task) _ h.front h.last h.typed))))
      (marked k o.task o.there)

  -- a mark of a list, or the other one
  long_at : (c : ℕ) (ms : List Mark) (d : Mark) (pc : ℕ) → Each (λ y. length y.slots ≡ c) ms → length d.slots ≡ c →
      length (get_or ms pc d).slots ≡ c
  long_at c [] d pc h e = e
  long_at c (m ∷ ms) d zero h e = h.0
  long_at c (m ∷ ms) d (suc pc) h e = long_at c ms d pc h.1 e

  long_last : (c : ℕ) (ms : List Mark) (n : Mark) → Each (λ y. length y.slots ≡ c) ms → length n.slots ≡ c →
      Each (λ y. length y.slots ≡ c) (ms ++ n ∷ [])
  long_last c [] n h e = (e, tt)
  long_last c (m ∷ ms) n h e = (h.0, long_last c ms n h.1 e)

  pub sound_task : (lists : ℕ → List Mark) → IsMarked lists → (k : ℕ) (t : TaskTree) → slice_get (tasks_of tree) k ≡ Some t →
      Treated k t (lists k) → IsSound (remarked bare (marks_of lists)) (task_code tree t) k
  sound_task lists marked k t there h =
      let code = task_code tree t in
      let g = remarked bare (marks_of lists) in
      let m = first_of t in
      let p = block_code (place_of tree t) t.body in
      let typed = typed_remarked bare code k (marks_of lists) (begins lists marked) m p h.front h.last h.typed in
      let listed : MarksAt g k 0 (h.front ++ h.last ∷ []) =
      marks_listed g code k (first_of (task_at k)) [] (h.front ++ h.last ∷ [])
      (λ pc. ap (λ l. get_or l pc (first_of (task_at k))) h.are) in
      let long = long_marks g code k code.slots m p h.front h.last typed (slots_many tree (other way t) t) in
      let first : length (first_of (task_at k)).slots ≡ code.slots =
      ap (λ y. length (first_of y).slots) (is_at k t there) ∙ slots_many tree (other way t) t in
      record {
        there = slice_get-map (task_code tree) (tasks_of tree) k ∙ ap (option_map (task_code tree)) there;
        short = h.small;
        valid = valid_of g code k m h.last p 0 h.front typed refl h.small listed;
        slots = λ pc. long_at code.slots (lists k) (first_of (task_at k)) pc
            (subst (Each (λ y. length y.slots ≡ code.slots)) (sym h.are) (long_last code.slots h.front h.last long.each long.last)) first;
      }
