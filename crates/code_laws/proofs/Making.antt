-- A root is made for a new variable: the instance agrees with the state whose store has one root more.
use Rattle.std.proofs.Common.{◌≡◌, ℕ, suc, ◌+◌, ◌^◌, ◌<◌, ◌≤◌, List, [], ◌∷◌, ◌++◌, true, false, Option, Some, None, inl, refl, sym, ap, ◌∙◌, subst, arith, length-append, ⊎_elim}
use Rattle.std.specs.Prelude.{get_or, leb, length, ltb, map}
use Rattle.std.proofs.lemmas.Bool.{and_parts, cases_lt, le-leb, lt-ltb, ltb-true}
use Rattle.std.proofs.lemmas.List.{length-map}
use Rattle.std.proofs.lemmas.Option.{slice_get-get_or}
use Rattle.std.proofs.Math.ListN.{get_or-append}
use Rattle.std.proofs.Math.Seq.{get_or-append_seam}
use Rattle.plain_values.specs.Points.{IsPoints, has, points}
use Rattle.point_sets.proofs.Rising.{get_or-counted_from, has-counted_from, length-counted_from, rising-counted_from}
use Rattle.regent_tree.specs.Running.{Here, State}
use Rattle.regent_tree.specs.StaticTypes.{field_kinds, kind_said, space_at}
use Rattle.regent_tree.specs.Store.{Store, new_root, no_root}
use Rattle.regent_tree.specs.Values.{Region, Value, a_region}
use Rattle.regent_tree.specs.declared.outcome.RootImage.{RootImage}
use Rattle.regent_tree.specs.declared.types.Param.{Param}
use Rattle.regent_tree.specs.declared.typing.Bound.{Bound}
use Rattle.regent_tree.specs.declared.typing.StaticType.{StaticType}
use Rattle.task_code.specs.declared.code.FieldCode.{FieldCode}
use Rattle.task_code.specs.declared.instr.Instr.TheVariants as instr
use Rattle.machine_terms.specs.declared.order.Contents.{Contents}
use Rattle.machine_terms.specs.declared.order.Instance.{Instance}
use Rattle.machine_terms.specs.declared.order.Resumed.TheVariants.{GoesOn}
use Rattle.machine_terms.specs.declared.outcome.Made.TheVariants as made
use Rattle.machine_terms.specs.declared.outcome.Yield.TheVariants as yield
use Rattle.machine_terms.specs.declared.value.Value.TheVariants as machine
use Rattle.machine_terms.specs.Contents.{kinds_of, no_space}
use Rattle.machine_terms.specs.Machine.{at, broken, stops, when, yields}
use Rattle.machine_terms.specs.Makes.{make_root, region_with}
use Rattle.machine_terms.specs.Regions.{root_of_space}
use Rattle.code_rules.specs.Pieces.{op}
use Rattle.memory_laws.specs.Places.{number_at}
use Rattle.memory_laws.proofs.Covering.{made_covers}
use Rattle.memory_laws.proofs.Made.{number_old, size_of}
use Rattle.memory_laws.proofs.Making.{made_holds, made_is_numbered, made_is_own}
use Rattle.region_tree.specs.declared.tree.RootId.{RootId}
use Rattle.machine_terms.specs.declared.order.Root.{Root}
use Rattle.value_laws.specs.Shapes.{KeepsNumbers}
use Rattle.code_laws.specs.Standing.{Agrees, AreOf, Aside, IsInside, is_own, IsOf, LiesIn, Stands, machine_value, nothing, of_index, of_integer, of_partition, of_pointer, of_region, of_space, of_truth, where_of, blank}
use Rattle.code_laws.specs.Steps.{Setting, Taking, machine_of, placed, on_step, Leads}
use Rattle.code_laws.specs.Taking.{IsFresh, IsHadBy, is_asked}
use Rattle.regent_tree.specs.StaticTypes.{Reach}
use Rattle.regent_tree.specs.declared.facts.Term.{Term}
use Rattle.regent_tree.specs.declared.types.Kind.{Kind}
use Rattle.regent_tree.specs.declared.typing.StaticType.TheVariants.{Region as region_type}
use Rattle.task_code.specs.declared.code.Code.{Code}
use Rattle.code_laws.specs.Typed.{IsMakable}
use Rattle.code_laws.proofs.Kept.{numbers_made}
use Rattle.code_laws.proofs.Reaching.{kept_here, kinds_are}
use Rattle.regent_tree.specs.StaticTypes.{spaces_of}
use Rattle.code_rules.specs.Programs.{space_code}
use Rattle.code_laws.proofs.Shapes.{new_shaped, shaped_more}
use Rattle.code_laws.proofs.Runs.{leads_by}
use Rattle.code_rules.specs.Slots.{beside}
use Rattle.code_laws.proofs.Besides.{beside_roots}

-- ---- what was there stays

module _ (x : Setting) (store : Store) (image : RootImage) where
  lies_more : (sp : ℕ) (q : Region) → LiesIn x.code store sp q → LiesIn x.code (store ++ image ∷ []) sp q
  lies_more sp q l =
      let same : get_or (store ++ image ∷ []) q.root no_root ≡ get_or store q.root no_root =
      get_or-append store (image ∷ []) no_root q.root l.there in record {
        there = omega (arith, l.there, length-append store (image ∷ []));
        of_space = ap (λ (r : RootImage). r.space) same ∙ l.of_space;
        points = λ f n low h. subst (λ (r : RootImage). n < length (get_or r.fields f [])) (sym same) (l.points f n low h);
        small = l.small;
        set = l.set;
      }

  inside_more : (t : StaticType) (v : Value) → IsOf t v → IsInside x store t v → IsInside x (store ++ image ∷ []) t v
  inside_more _ _ (of_integer w z p) l = tt
  inside_more _ _ (of_truth b) l = tt
  inside_more _ _ (of_index k z p) l = tt
  inside_more _ _ (of_pointer k sp args rs t regions p) l = tt
  inside_more _ _ (of_space k n p) l = tt
  inside_more _ _ (of_region k sp args r q) l = (lies_more sp q l.0, l.1)
  inside_more _ _ (of_partition d r p q) l = omega (arith, l, length-append store (image ∷ []))

  all_more : (bs : List Bound) (names : List Value) → AreOf IsOf bs names → AreOf (IsInside x store) bs names →
      AreOf (IsInside x (store ++ image ∷ [])) bs names
  all_more [] names a l = tt
  all_more (b ∷ bs) names a l =
      (a.0, inside_more b.static_type (get_or names b.place nothing) a.1 l.1, all_more bs names a.2 l.2)

  -- values have the numbers that they had
  pub same_value : (c d : Contents) → ((r : ℕ) → r < length store → number_at d r ≡ number_at c r) → (t : StaticType) (v : Value) →
      IsOf t v → IsInside x store t v → machine_value d v ≡ machine_value c v
  same_value c d same _ _ (of_integer w z p) l = refl
  same_value c d same _ _ (of_truth b) l = refl
  same_value c d same _ _ (of_index k z p) l = refl
  same_value c d same _ _ (of_pointer k sp args rs t regions p) l = refl
  same_value c d same _ _ (of_space k n p) l = refl
  same_value c d same _ _ (of_region k sp args r q) l = ap (λ n. machine.Region (region_with n q.points)) (same q.root l.0.there)
  same_value c d same _ _ (of_partition e r p q) l = ap (λ n. machine.Partition (record {
    root = record { 0 = n };
    disjoint = q.disjoint;
    children = map (region_with n) q.sets;
  })) (same q.root l)

  pub same_names : (c d : Contents) → ((r : ℕ) → r < length store → number_at d r ≡ number_at c r) → (bs : List Bound) (names : List Value) →
      AreOf IsOf bs names → AreOf (IsInside x store) bs names → (p : ℕ) → p < length bs →
      machine_value d (get_or names p nothing) ≡ machine_value c (get_or names p nothing)
  same_names c d same [] names a l p low = absurd (omega (arith, low))
  same_names c d same (b ∷ bs) names a l p low = ⊎_elim
      (λ e. same_names c d same bs names a.2 l.2 p e)
      (λ e. let is : b.place ≡ p = omega (arith, e, low, a.0) in
      subst (λ k. machine_value d (get_or names k nothing) ≡ machine_value c (get_or names k nothing)) is
      (same_value c d same b.static_type (get_or names b.place nothing) a.1 l.1))
      (cases_lt p (length bs))

-- ---- the new root

-- a point of an index space
point_below : (size n : ℕ) → has (points size) n ≡ true → n < size
point_below size n e =
    omega (arith, ltb-true n (0 + size) (and_parts (leb 0 n) (ltb n (0 + size)) (sym (has-counted_from 0 size n) ∙ e)).1)

-- the points of an index space that isn't too large
counted_points : (size : ℕ) → size ≤ 4194304 → IsPoints 4194304 (points size)
counted_points size small = record {
  rising = rising-counted_from 0 size;
  below = λ k d l.
      let under : k < size = omega (arith, l, length-counted_from 0 size) in
      rw (get_or-counted_from 0 size k d under) (omega (arith, under, small));
}

-- the region of all points of a new root lies in it
new_lies : (code : Code) (store : Store) (sp size : ℕ) → size ≤ 4194304 →
    LiesIn code (store ++ new_root sp size (kinds_of code sp) ∷ []) sp (record { root = length store; points = points size })
new_lies code store sp size small =
    let image = new_root sp size (kinds_of code sp) in
    let seam : get_or (store ++ image ∷ []) (length store) no_root ≡ image = get_or-append_seam store image [] no_root in record {
      there = omega (arith, length-append store (image ∷ []));
      of_space = ap (λ (r : RootImage). r.space) seam;
      points = λ f n low h. subst (λ (r : RootImage). n < length (get_or r.fields f [])) (sym seam)
          (subst (λ k. n < k) (sym (size_of (kinds_of code sp) size f low)) (point_below size n h));
      small = λ n h. omega (arith, point_below size n h, small);
      set = counted_points size small;
    }

module _ (x : Setting) (params slots : ℕ) {deep : ℕ} (aside : Aside deep) where
  -- the state with the new root
  abbrev pub with_new : Here → ℕ → ℕ → State → State
  with_new h sp size s = record s { store = s.store ++ new_root sp size (field_kinds h.tree sp) ∷ [] }

  abbrev pub new_region : State → ℕ → Value
  new_region s size = a_region (record { root = length s.store; points = points size })

  -- a field space of the program is one of the code's
  space_there : (h : Here) (s : State) (i : Instance) (sp : ℕ) → IsMakable h.tree sp → Agrees x params slots aside h s i → sp < length x.code.spaces
  space_there h s i sp can g = subst (λ n. sp < n) (sym (ap length g.spaces ∙ length-map (spaces_of h.tree) space_code)) can.there

  pub made_agrees : (h : Here) (s : State) (i : Instance) (sp size : ℕ) → x.forms.makes ≡ true → IsMakable h.tree sp → size ≤ 4194304 →
      Agrees x params slots aside h s i →
      Agrees x params slots aside h (with_new h sp size s) (make_root x.code size sp i)
  made_agrees h s i sp size makes can few g =
      let kinds = kinds_are x.code h.tree sp g.spaces in
      let j = make_root x.code size sp i in
      let image = new_root sp size (kinds_of x.code sp) in
      subst (λ ks. Agrees x params slots aside h (record s { store = s.store ++ new_root sp size ks ∷ [] }) j) kinds (record {
        names = λ p l. g.names p l ∙ sym (same_names x s.store image i.contents j.contents
            (λ r low. number_old i.contents image g.memory.stands.numbered r (omega (arith, low, g.memory.stands.count)))
            h.scope.names s.names g.typed g.inside_store p (omega (arith, l, g.count)));
        hidden = g.hidden;
        held = g.held;
        typed = g.typed;
        inside_store = all_more x s.store image h.scope.names s.names g.typed g.inside_store;
        pointed = g.pointed;
        steady = g.steady;
        under = g.under;
        besides = beside_roots (λ p. get_or i.frame.slots (beside (where_of params h) p) blank) i.contents j.contents params (length s.store)
            (length (s.store ++ image ∷ [])) h.scope.names s.names g.typed
            (λ q low. (
              ap (λ n. machine.Region (region_with n q.points)) (number_old i.contents image g.memory.stands.numbered q.root (omega (arith, low, g.memory.stands.count))),
              omega (arith, low, length-append s.store (image ∷ [])),
            )) g.besides;
        count = g.count;
        inside = g.inside;
        slots_are = g.slots_are;
        turns = g.turns;
        bound = g.bound;
        text = g.text;
        ready = g.ready;
        calls = record { few = g.calls.few; children = g.calls.children; depth = g.calls.depth };
        result_is = g.result_is;
        answers = g.answers;
        spaces = g.spaces;
        tree_is = g.tree_is;
        memory = made_holds x.code s.store i size sp g.memory;
        framed = record {
          own_are = made_is_own x.code i size sp x.before g.framed.own_are;
          none = λ e. absurd (no_way (sym makes ∙ e));
          shaped = shaped_more x.code.spaces (length x.before) s.store image (new_shaped x.code sp size (space_there h s i sp can g)) g.framed.shaped;
          allows = made_covers x.code s.store i size sp (is_own x) g.memory g.framed.allows;
          given = λ n e. made_covers x.code s.store i size sp (is_asked x.args n) g.memory (g.framed.given n e);
          parts = g.framed.parts;
          kept = subst (λ ks. KeepsNumbers x.tree (s.store ++ new_root sp size ks ∷ [])) (sym kinds)
              (subst (λ t. KeepsNumbers t (s.store ++ new_root sp size (field_kinds h.tree sp) ∷ [])) g.tree_is
              (numbers_made h.tree s.store (kept_here x params slots aside h s i g) sp size few));
        };
      })
    where
      no_way : true ≡ false → ⊥
      no_way e = absurd cc

  pub makes_root : (h : Here) (s : State) (i : Instance) (sp size pc line : ℕ) → suc pc < 2 ^ 32 → IsMakable h.tree sp →
      Agrees x params slots aside h s i → Stands x.body pc (op (instr.NewRoot sp) line) →
      Leads x (placed pc (machine.Space size ∷ []) i)
      (placed (suc pc) (machine_value (make_root x.code size sp i).contents (new_region s size) ∷ []) (make_root x.code size sp i))
  makes_root h s i sp size pc line near can g f =
      let st = machine.Space size ∷ [] in
      let i1 = placed pc st i in
      let m = machine_of i1 in
      let low = space_there h s i sp can g in
      let there = slice_get-get_or x.code.spaces sp no_space low in
      let few : length (get_or x.code.spaces sp no_space).fields ≤ 256 =
      subst (λ n. n ≤ 256) (sym (sym (length-map (get_or x.code.spaces sp no_space).fields (λ (f : FieldCode). f.kind))
      ∙ ap length (kinds_are x.code h.tree sp g.spaces)
      ∙ length-map (space_at h.tree sp).fields (λ (p : Param). kind_said p.term))) can.few in
      let image = new_root sp size (kinds_of x.code sp) in
      let at_end : number_at (make_root x.code size sp i).contents (length s.store) ≡ i.contents.made =
      (made_is_numbered x.code s.store i size sp g.memory).0 in
      leads_by x i1 _ (instr.NewRoot sp) line f
      (ap (λ o. on_step x i1 (root_of_space o sp size [] m)) there
      ∙ ap (λ b. on_step x i1 (when b (yields (yield.Make (made.Root size sp)) (at (suc pc) [] m)) (broken m)))
      (le-leb (length (get_or x.code.spaces sp no_space).fields) 256 few)
      ∙ ap (λ b. on_step x i1 (when b (stops (yield.Make (made.Root size sp)) (at (suc pc) [] m)) (broken (at (suc pc) [] m))))
      (lt-ltb (suc pc) (2 ^ 32) near)
      ∙ ap (λ n. GoesOn (placed (suc pc) (machine.Region (region_with n (points size)) ∷ []) (make_root x.code size sp i))) (sym at_end))

  -- the roots that were there before the instance are among those of the store
  own_below : (h : Here) (s : State) (i : Instance) → Agrees x params slots aside h s i → length x.before ≤ length s.store
  own_below h s i g = omega (
    arith,
    ap length g.framed.own_are,
    length-append x.before (map (λ (id : RootId). id.0) i.frame.own),
    length-map i.contents.roots (λ (r : Root). r.id.0),
    g.memory.stands.count,
  )

  -- what the instance made itself it has
  own_had : (o : Option Taking) (r : Term) (q : Region) → length x.before ≤ q.root → IsFresh o r → IsHadBy o x r q
  own_had None r q own fresh = own
  own_had (Some y) r q own fresh = inl (own, fresh)

  pub new_inside : (h : Here) (s : State) (i : Instance) (sp size : ℕ) (k : Kind) (args : List Reach) (r : Term) → IsFresh x.forms.takes r → size ≤ 4194304 →
      Agrees x params slots aside h s i →
      IsInside x (with_new h sp size s).store (region_type k sp args r) (new_region s size)
  new_inside h s i sp size k args r fresh small g = (
    subst (λ ks. LiesIn x.code (s.store ++ new_root sp size ks ∷ []) sp (record { root = length s.store; points = points size }))
        (kinds_are x.code h.tree sp g.spaces) (new_lies x.code s.store sp size small),
    own_had x.forms.takes r (record { root = length s.store; points = points size }) (own_below h s i g) fresh,
  )
