-- What a call hands over: numbers, regions that the task took and roots that it made, as they stand on the stack.
use Rattle.std.proofs.Common.{◌≡◌, inl, inr, ℕ, zero, suc, ◌<◌, ◌≤◌, List, [], ◌∷◌, map, Bool, true, false, cond, None, Option, Some, refl, sym, ap, ◌∙◌, subst, arith}
use Rattle.std.specs.Prelude.{length, nat_le, slice_get}
use Rattle.std.proofs.lemmas.Bool.{false≢true, le-leb, leb-true}
use Rattle.std.proofs.lemmas.Option.{none-some, same_Some}
use Rattle.regent_tree.specs.Accesses.{space_in}
use Rattle.regent_tree.specs.Syntax.{Expression, Expressions, Name, TaskTree, access_expr, an_expr, at_step, no_expr, no_step}
use Rattle.regent_tree.specs.Typing.{is_disjoint, parent_of}
use Rattle.regent_tree.specs.declared.facts.Term.TheVariants as term
use Rattle.regent_tree.specs.declared.typing.StaticType.{StaticType}
use Rattle.regent_tree.specs.declared.typing.StaticType.TheVariants.{Partition as partition_type, Region as region_type}
use Rattle.task_code.specs.declared.code.TaskCode.{TaskCode}
use Rattle.task_code.specs.declared.instr.Instr.TheVariants as instr
use Rattle.machine_terms.specs.declared.value.RegionValue.{RegionValue}
use Rattle.machine_terms.specs.declared.value.Value.{Value}
use Rattle.machine_terms.specs.declared.value.Value.TheVariants as value
use Rattle.machine_terms.specs.Pointers.{region_in}
use Rattle.code_rules.specs.Expressions.{count}
use Rattle.code_rules.specs.Instructions.{converted_code}
use Rattle.code_rules.specs.Pieces.{empty, op}
use Rattle.code_rules.specs.Slots.{Where, bound, slot_bound, slot_named, typed}
use Rattle.code_laws.specs.Simple.{a_partition_type, AreRegions, IsPartition, IsRegion, a_region_type, simple_index, simple_integer, simple_space, simple_truth, two_regions}
use Rattle.code_laws.specs.Steps.{Forms, Taking}
use Rattle.code_laws.specs.Arguments.{IsCutName, IsHanded, name_at, name_of, parent_bound, part_at, part_of}
use Rattle.code_laws.specs.Typed.{ArePassed, IsIndexed, IsTyped}
use Rattle.check_rules.specs.types.Sorts.{type_at}
use Rattle.code_laws.proofs.CallCuts.{regions_no_cut}
use Rattle.code_laws.proofs.Arguments.{IsNoRegion, first_region, handed_name, named_typed, region_other}
use Rattle.fit_rules.specs.Shapes.{anything, argument, awaited, child_at, ComesFrom, held_at, index, integer, IsChild, cut_from, part, partition, pointer, Are, are_more, Each, Is, is_number, is_region, IsRegion as IsRegionValue, IsWhole, Origin, own_as, region, Shape, space, truth, unknown, World}
use Rattle.fit_rules.specs.Marks.{Mark, stacked}
use Rattle.fit_rules.specs.Fits.{Program}
use Rattle.fit_rules.specs.Sound.{Settled, settled_cut, settled_region}
use Rattle.fit_laws.proofs.Lookup.{any_region}
use Rattle.marked_code.proofs.Placed.{below}
use Rattle.sound_code.specs.Named.{slot_at}
use Rattle.sound_code.specs.Ways.{by_rules, origin_behind, origin_in, shape_in, shape_of, Tops, Way, whole_origin}
use Rattle.sound_code.proofs.Colours.{colour_at}
use Rattle.sound_code.proofs.Plain.{plain_origin}
use Rattle.sound_code.proofs.WholeTasks.{are_whole_arguments}
use Rattle.sound_code.proofs.NoCuts.{worth_no_cut}
use Rattle.sound_code.proofs.Wholes.{Asks, asks_first, asks_second, given_whole, IsWorth, worth_pointer, worth_settled, worth_simple}
use Rattle.sound_code.proofs.Parts.{part_regions}
use Rattle.sound_code.proofs.Combining.{Marked}
use Rattle.sound_code.proofs.Cutting.{region_taken}
use Rattle.sound_code.proofs.Interpreting.{high_region, low_region, made_at, meant, region_at, taken_at}

pub is_below : (a b : ℕ) → nat_le a b ≡ false → b < a
is_below a b e = elim (below b a) [
  | inl l ↦ l
  | inr h ↦ absurd (false≢true (sym e ∙ le-leb a b h))
]

-- ---- what is handed over

-- A region comes from where its name does: one that the task took is known to be the argument, any other the task made, under its
-- number, or it began as a part. A part is a child of the partition of a name, by a colour, and lies within such a region
abbrev pub given_child : Way → Where → ℕ → Name → Expression → Shape
given_child way w sp n e =
    region (Some sp) (child_at (slot_named w n) (colour_at w e) (origin_in way w.params (term.Name (parent_of (bound w n).static_type))))

-- what a task needs of it is asked of the region within which it lies
abbrev pub given_part : Way → ℕ → ℕ → ℕ → Shape
given_part way params sp i = region (Some sp) (part (origin_in way params (term.Name i)))

-- and a partition is of the region in such a name's slot
abbrev pub given_cut : Way → Where → StaticType → Shape
given_cut way w (partition_type d r p) = cut_from None d (held_at (slot_bound w r) (origin_in way w.params (term.Name r)))
given_cut way w u = shape_of u

-- a region that has a name is the one in its slot
abbrev pub held_in : ℕ → Shape → Shape
held_in s (region sp o) = region sp (held_at s o)
held_in s a = a

-- the shape of an argument for a parameter of a type
abbrev pub handed : Way → Where → StaticType → Expression → Shape
handed way w (region_type k sp args r) (access_expr n no_step) = held_in (slot_named w n) (shape_in way w.params (bound w n).static_type)
handed way w (region_type k sp args r) (access_expr n (at_step e no_step)) = given_child way w sp n e
handed way w (partition_type d r p) (access_expr n no_step) = given_cut way w (bound w n).static_type
handed way w p e = shape_of p

abbrev pub all_handed : Way → Where → List StaticType → Expressions → List Shape
all_handed way w (p ∷ ps) (an_expr e es) = handed way w p e ∷ all_handed way w ps es
all_handed way w ps es = []

pub worth_handed : (way : Way) (w : Where) (p : StaticType) (e : Expression) → IsWorth p → handed way w p e ≡ shape_of p
worth_handed way w _ e (worth_simple _ (simple_integer v)) = refl
worth_handed way w _ e (worth_simple _ simple_truth) = refl
worth_handed way w _ e (worth_simple _ (simple_index k)) = refl
worth_handed way w _ e (worth_simple _ (simple_space k)) = refl
worth_handed way w _ e (worth_pointer k sp args rs few) = refl

pub region_handed : (way : Way) (w : Where) (n : Name) (u p : StaticType) → AreRegions u p →
    handed way w p (access_expr n no_step) ≡ held_in (slot_named w n) (shape_in way w.params (bound w n).static_type)
region_handed way w n _ _ (two_regions c d sp args brgs r q) = refl

pub part_handed : (way : Way) (w : Where) (n : Name) (e : Expression) (u p : StaticType) → AreRegions u p →
    handed way w p (access_expr n (at_step e no_step)) ≡ given_child way w (space_in p) n e
part_handed way w n e _ _ (two_regions c d sp args brgs r q) = refl

pub cut_handed : (way : Way) (w : Where) (n : Name) (p : StaticType) → IsPartition p → handed way w p (access_expr n no_step) ≡ given_cut way w (bound w n).static_type
cut_handed way w n _ (a_partition_type d r q) = refl

pub given_cut_is : (way : Way) (w : Where) (u : StaticType) → IsPartition u →
    given_cut way w u ≡ cut_from None (is_disjoint u) (held_at (slot_bound w (parent_of u)) (origin_in way w.params (term.Name (parent_of u))))
given_cut_is way w _ (a_partition_type d r p) = refl

cut_settled : (way : Way) (w : Where) (u : StaticType) → IsPartition u → Settled (given_cut way w u)
cut_settled way w _ (a_partition_type d r p) = settled_cut None d _

-- a region isn't converted, nor is a partition
pub cut_unconverted : (w : Where) (u p : StaticType) → IsPartition p → converted_code w u p ≡ empty
cut_unconverted w u _ (a_partition_type d r q) = refl

pub same_code : (w : Where) (u p : StaticType) → AreRegions u p → converted_code w u p ≡ empty
same_code w _ _ (two_regions c d sp args brgs r q) = refl

pub handed_unconverted : (w : Where) (y : Taking) (u p : StaticType) (e : Expression) → IsHanded (Some y) w u p e →
    converted_code w (typed w e) u ≡ empty
handed_unconverted w y u p e h =
    let q = handed_name y w u p e h in
    subst (λ a. converted_code w (typed w a) u ≡ empty) (sym q.1)
    (subst (λ v. converted_code w (bound w q.0).static_type v ≡ empty) (sym q.3) (same_code w (bound w q.0).static_type p q.4))

-- it may be taken from the stack
given_settled : (way : Way) (params s : ℕ) (u : StaticType) → IsRegion u → Settled (held_in s (shape_in way params u))
given_settled way params s _ (a_region_type c sp args r) = settled_region (Some sp) _

module _ (forms : Forms) (way : Way) (w : Where) where
  pub all_settled : (ts ps : List StaticType) (es : Expressions) → ArePassed forms w ts ps es → Asks forms.keeps (are_whole_arguments true w ps es) →
      Each Settled (all_handed way w ps es)
  all_settled [] [] no_expr h asks = tt
  all_settled (t ∷ ts) (p ∷ ps) (an_expr e es) h asks = (
    given_whole forms.keeps forms.takes w t p e (IsTyped forms w e) (IsIndexed forms w e) (Settled (handed way w p e)) (asks_first _ _ _ asks)
        (λ enters is. subst Settled (sym (worth_handed way w p e enters.worth)) (worth_settled p enters.worth))
        (λ y takes q.
        let n = handed_name y w t p e q in
        subst (λ a. Settled (handed way w p a)) (sym n.1)
        (subst Settled (sym (region_handed way w n.0 _ p n.4)) (given_settled way w.params (slot_named w n.0) _ (first_region _ p n.4))))
        (λ b a. subst (λ y. Settled (handed way w p y)) (sym a.is) (subst Settled (sym (part_handed way w a.name a.index _ p a.regions)) (settled_region _ _)))
        (λ b a. subst (λ y. Settled (handed way w p y)) (sym a.is) (subst Settled (sym (cut_handed way w a.name p a.partition)) (cut_settled way w _ a.cut.partition))) h.0,
    all_settled ts ps es h.1 (asks_second _ _ _ asks),
  )
  all_settled [] [] (an_expr e es) h asks = absurd h
  all_settled [] (p ∷ ps) es h asks = absurd h
  all_settled (t ∷ ts) [] es h asks = absurd h
  all_settled (t ∷ ts) (p ∷ ps) no_expr h asks = absurd h

  pub all_long : (ts ps : List StaticType) (es : Expressions) → ArePassed forms w ts ps es → length (all_handed way w ps es) ≡ count es
  all_long [] [] no_expr h = refl
  all_long (t ∷ ts) (p ∷ ps) (an_expr e es) h = ap suc (all_long ts ps es h.1)
  all_long [] [] (an_expr e es) h = absurd h
  all_long [] (p ∷ ps) es h = absurd h
  all_long (t ∷ ts) [] es h = absurd h
  all_long (t ∷ ts) (p ∷ ps) no_expr h = absurd h

  pub worths_handed : (ps : List StaticType) (es : Expressions) → Each IsWorth ps → length ps ≡ count es → all_handed way w ps es ≡ map shape_of ps
  worths_handed [] no_expr h l = refl
  worths_handed (p ∷ ps) (an_expr e es) h l =
      ap (λ s. s ∷ all_handed way w ps es) (worth_handed way w p e h.0)
      ∙ ap (λ ss. shape_of p ∷ ss) (worths_handed ps es h.1 (omega (arith, l)))
  worths_handed [] (an_expr e es) h l = absurd (omega (arith, l))
  worths_handed (p ∷ ps) no_expr h l = absurd (omega (arith, l))

-- ---- a region is loaded

module _ (g : Program) (t : TaskCode) (k line params : ℕ) (m : Mark) where
  pub region_loaded : (way : Way) (place : ℕ) (u p : StaticType) (us : List Shape) → AreRegions u p → slot_at params place < m.fixed →
      slice_get m.slots (slot_at params place) ≡ Some (shape_in way params u) →
      Marked g t k (stacked m us) (op (instr.Load (slot_at params place)) line) (stacked m (held_in (slot_at params place) (shape_in way params u) ∷ us))
  region_loaded way place _ _ us (two_regions c d sp args brgs r q) low there =
      region_taken g t k line m (slot_at params place) sp (origin_in way params r) us (plain_origin way params r) low there

-- ---- what a handed value is

-- the root that the task made last under a number, or the region of an argument
pub record IsOf (x : World) (params i : ℕ) (r : RegionValue) : Type 0 where
  pub mine : params ≤ i → IsWhole x r × (x.last i ≡ Some r.root.0)
  pub taken : i < params → region_in (slice_get x.args i) ≡ Some r

pub of_number : (x : World) (params i : ℕ) (r : RegionValue) → ComesFrom x (whole_origin params i) r → IsOf x params i r
of_number x params i r = of (nat_le params i) refl
  where
    of : (b : Bool) → nat_le params i ≡ b → ComesFrom x (cond b (own_as i) (argument i)) r → IsOf x params i r
    of true e c = record { mine = λ l. c; taken = λ l. absurd (omega (arith, l, leb-true params i e)) }
    of false e c = record { mine = λ l. absurd (omega (arith, l, is_below params i e)); taken = λ l. c }

-- it is the region of its number
pub region_numbered : (x : World) (params : ℕ) (up : ℕ → Option (ℕ × ℕ)) (i : ℕ) (r : RegionValue) → (params ≤ i → up i ≡ None) → IsOf x params i r →
    region_at x params up i ≡ meant r
region_numbered x params up i r whole q = elim (below i params) [
  | inl low ↦ low_region x params up i low ∙ ap taken_at (q.taken low)
  | inr high ↦
      let own = q.mine high in
      high_region x params up i None high (whole high) ∙ ap (made_at x) own.1 ∙ ap (λ ps. record { root = r.root.0; points = ps }) (sym own.0.1)
]

-- a name's region is such a one, where it began as no part
pub named_of : (tops : Tops) (task : TaskTree) (x : World) (params i : ℕ) (r : RegionValue) → (params ≤ i → tops task i ≡ None) →
    ComesFrom x (origin_in (by_rules tops task) params (term.Name i)) r → IsOf x params i r
named_of tops task x params i r whole c = of (nat_le params i) refl (tops task i) whole c
  where
    of : (b : Bool) → nat_le params i ≡ b → (o : Option (ℕ × ℕ)) → (params ≤ i → o ≡ None) → ComesFrom x (cond b (origin_behind params i o) (argument i)) r →
        IsOf x params i r
    of true e None h c = record { mine = λ l. c; taken = λ l. absurd (omega (arith, l, leb-true params i e)) }
    of true e (Some k) h c = absurd (none-some k (sym (h (leb-true params i e))))
    of false e o h c = record { mine = λ l. absurd (omega (arith, l, is_below params i e)); taken = λ l. c }

-- a region of the field space
pub record IsAny (x : World) (sp : ℕ) (v : Value) : Type 0 where
  pub it : RegionValue
  pub is : v ≡ value.Region it
  pub of_space : IsRegionValue x (Some sp) unknown it

pub any_given : (x : World) (way : Way) (params : ℕ) (u p : StaticType) (v : Value) → AreRegions u p → Is x (shape_in way params u) v → IsAny x (space_in p) v
any_given x way params _ _ v (two_regions c d sp args brgs r q) h = of (origin_in way params r) v h
  where
    of : (o : Origin) (v : Value) → Is x (region (Some sp) o) v → IsAny x sp v
    of o _ (is_region _ _ r i) = record { it = r; is = refl; of_space = any_region x (Some sp) o r i }
    of o _ (is_number _ z i) = absurd i

pub any_of : (x : World) (sp : ℕ) (o : Origin) (v : Value) → Is x (region (Some sp) o) v → IsAny x sp v
any_of x sp o _ (is_region _ _ r i) = record { it = r; is = refl; of_space = any_region x (Some sp) o r i }
any_of x sp o _ (is_number _ z i) = absurd i

-- one in a slot has the shape that the slot has
pub unheld : (x : World) (s : ℕ) (a : Shape) (v : Value) → Is x (held_in s a) v → Is x a v
unheld x s (region sp o) _ (is_region _ _ r i) =
    is_region sp o r (record { there = i.there; space = i.space; set = i.set; points = i.points; origin = i.origin.0 })
unheld x s (region sp o) _ (is_number _ z h) = absurd h
unheld x s anything v h = h
unheld x s (integer w) v h = h
unheld x s truth v h = h
unheld x s index v h = h
unheld x s (pointer n) v h = h
unheld x s space v h = h
unheld x s (partition sp d) v h = h
unheld x s (cut_from sp d o) v h = h
unheld x s (awaited a) v h = h

held_region : (x : World) (s : ℕ) (sp : Option ℕ) (o : Origin) (v : Value) → Is x (region sp (held_at s o)) v → (r : RegionValue) → region_in (Some v) ≡ Some r →
    region_in (slice_get x.held s) ≡ Some r
held_region x s sp o _ (is_region _ _ q h) r e = subst (λ d. region_in (slice_get x.held s) ≡ Some d) (same_Some q r e) h.origin.1
held_region x s sp o _ (is_number _ z h) r e = absurd h

in_slot_held : (x : World) (way : Way) (params s : ℕ) (u : StaticType) (v : Value) → IsRegion u → Is x (held_in s (shape_in way params u)) v → (r : RegionValue) →
    region_in (Some v) ≡ Some r → region_in (slice_get x.held s) ≡ Some r
in_slot_held x way params s _ v (a_region_type c sp args q) h = held_region x s (Some sp) (origin_in way params q) v h

-- where it comes from
pub given_from : (x : World) (sp : ℕ) (o : Origin) (v : Value) → Is x (region (Some sp) o) v → (q : RegionValue) → region_in (Some v) ≡ Some q → ComesFrom x o q
given_from x sp o _ (is_region _ _ r h) q e = subst (ComesFrom x o) (same_Some r q e) h.origin
given_from x sp o _ (is_number _ z h) q e = absurd h

region_cut : (u : StaticType) → IsRegion u → IsPartition u → ⊥
region_cut _ (a_region_type k sp args r) c = elim c [ ]

-- ---- the argument at a place

pub record IsArgument (x : World) (ws : List Value) (k : ℕ) (s : Shape) : Type 0 where
  pub it : Value
  pub at : slice_get ws k ≡ Some it
  pub of : Is x s it

module _ (forms : Forms) (way : Way) (w : Where) (x : World) where
  -- that of a name is the one in its slot
  pub record IsNameGiven (ws : List Value) (k : ℕ) (n : Name) : Type 0 where
    pub given : IsArgument x ws k (shape_in way w.params (bound w n).static_type)
    pub held : (r : RegionValue) → region_in (slice_get ws k) ≡ Some r → region_in (slice_get x.held (slot_named w n)) ≡ Some r

  pub argument_at : (ts ps : List StaticType) (es : Expressions) (ws : List Value) (k : ℕ) (n : Name) → ArePassed forms w ts ps es →
      Asks forms.keeps (are_whole_arguments true w ps es) → Are x (all_handed way w ps es) ws → name_at es k ≡ Some n → IsRegion (bound w n).static_type →
      IsNameGiven ws k n
  argument_at (t ∷ ts) (p ∷ ps) (an_expr e es) _ zero n h asks (are_more _ v _ vs i a) en r =
      given_whole forms.keeps forms.takes w t p e (IsTyped forms w e) (IsIndexed forms w e) (IsNameGiven (v ∷ vs) 0 n)
      (asks_first _ _ _ asks)
      (λ enters is. absurd (region_other _ r (subst IsNoRegion (named_typed w e n en) enters.other)))
      (λ y takes q.
      let b = handed_name y w t p e q in
      let one : b.0 ≡ n = same_Some b.0 n (ap name_of (sym b.1) ∙ en) in
      let of = subst (λ s. Is x s v) (ap (handed way w p) b.1 ∙ region_handed way w b.0 _ p b.4
      ∙ ap (λ a. held_in (slot_named w a) (shape_in way w.params (bound w a).static_type)) one) i in
      record {
        given = record { it = v; at = refl; of = unheld x (slot_named w n) (shape_in way w.params (bound w n).static_type) v of };
        held = λ z e. in_slot_held x way w.params (slot_named w n) (bound w n).static_type v r of z e;
      }) (λ b a. absurd (none-some n (sym (ap name_of a.is) ∙ en)))
      (λ b a. absurd (region_cut (bound w n).static_type r (subst (λ y. IsPartition (bound w y).static_type)
      (same_Some a.name n (sym (ap name_of a.is) ∙ en)) a.cut.partition))) h.0
  argument_at (t ∷ ts) (p ∷ ps) (an_expr e es) _ (suc k) n h asks (are_more _ v _ vs i a) en r =
      let more = argument_at ts ps es vs k n h.1 (asks_second _ _ _ asks) a en r in
      record { given = record { it = more.given.it; at = more.given.at; of = more.given.of }; held = more.held }
  argument_at ts ps no_expr ws k n h asks a en r = absurd (none-some n en)
  argument_at [] [] (an_expr e es) ws k n h asks a en r = absurd h
  argument_at [] (p ∷ ps) (an_expr e es) ws k n h asks a en r = absurd h
  argument_at (t ∷ ts) [] (an_expr e es) ws k n h asks a en r = absurd h

  -- so of a part
  pub record IsPartGiven (ws : List Value) (k : ℕ) (q : Name × Expression) : Type 0 where
    pub space : ℕ
    pub same : space ≡ space_in (parent_bound w q.0).static_type
    pub given : IsArgument x ws k (given_part way w.params space (parent_of (bound w q.0).static_type))
    pub child : (r : RegionValue) → region_in (slice_get ws k) ≡ Some r → IsChild x.held (slot_named w q.0) (colour_at w q.1) r

  -- a child lies within the region of which its partition is, and is the one by its colour
  less_given : (x : World) (sp : ℕ) (n : Name) (e : Expression) (v : Value) → Is x (given_child way w sp n e) v → Is x (given_part way w.params sp (parent_of (bound w n).static_type)) v
  less_given x sp n e _ (is_region _ _ r h) = is_region _ _ r
      (record { there = h.there; space = h.space; set = h.set; points = h.points; origin = (h.origin.0, h.origin.1, h.origin.2) })
  less_given x sp n e _ (is_number _ z h) = absurd h

  given_as_child : (x : World) (sp : ℕ) (n : Name) (e : Expression) (v : Value) → Is x (given_child way w sp n e) v → (r : RegionValue) → region_in (Some v) ≡ Some r →
      IsChild x.held (slot_named w n) (colour_at w e) r
  given_as_child x sp n e _ (is_region _ _ q h) r eq = subst (IsChild x.held (slot_named w n) (colour_at w e)) (same_Some q r eq) h.origin.3
  given_as_child x sp n e _ (is_number _ z h) r eq = absurd h

  part_typed : (e : Expression) (q : Name × Expression) → part_of e ≡ Some q → IsTyped forms w e → IsPartition (bound w q.0).static_type → ⊥
  part_typed (access_expr n (at_step i no_step)) q e f c =
      region_cut (bound w n).static_type f.4 (subst (λ (y : Name × Expression). IsPartition (bound w y.0).static_type) (sym (same_Some (n, i) q e)) c)
  part_typed _ q e f c = absurd (none-some q e)

  pub part_argument_at : (ts ps : List StaticType) (es : Expressions) (ws : List Value) (k : ℕ) (q : Name × Expression) → ArePassed forms w ts ps es →
      Asks forms.keeps (are_whole_arguments true w ps es) → Are x (all_handed way w ps es) ws → part_at es k ≡ Some q → IsPartition (bound w q.0).static_type →
      IsPartGiven ws k q
  part_argument_at (t ∷ ts) (p ∷ ps) (an_expr e es) _ zero q h asks (are_more _ v _ vs i a) eq c =
      given_whole forms.keeps forms.takes w t p e (IsTyped forms w e) (IsIndexed forms w e) (IsPartGiven (v ∷ vs) 0 q) (asks_first _ _ _ asks)
      (λ enters is. absurd (part_typed e q eq is c))
      (λ y takes b. absurd (none-some q (sym (ap part_of (handed_name y w t p e b).1) ∙ eq)))
      (λ b d.
      let is = subst (λ s. Is x s v) (ap (handed way w p) d.is ∙ part_handed way w d.name d.index _ p d.regions) i in
      subst (IsPartGiven (v ∷ vs) 0) (same_Some (d.name, d.index) q (sym (ap part_of d.is) ∙ eq)) (record {
        space = space_in p;
        same = part_regions w d.name d.index p d.cut.partition (subst (λ y. AreRegions (typed w y) p) d.is d.regions);
        given = record {
          it = v;
          at = refl;
          of = less_given x (space_in p) d.name d.index v is;
        };
        child = λ r e. given_as_child x (space_in p) d.name d.index v is r e;
      })) (λ b d. absurd (none-some q (sym (ap part_of d.is) ∙ eq))) h.0
  part_argument_at (t ∷ ts) (p ∷ ps) (an_expr e es) _ (suc k) q h asks (are_more _ v _ vs i a) eq c =
      let more = part_argument_at ts ps es vs k q h.1 (asks_second _ _ _ asks) a eq c in
      record { space = more.space; same = more.same; given = record { it = more.given.it; at = more.given.at; of = more.given.of }; child = more.child }
  part_argument_at ts ps no_expr ws k q h asks a eq c = absurd (none-some q eq)
  part_argument_at [] [] (an_expr e es) ws k q h asks a eq c = absurd h
  part_argument_at [] (p ∷ ps) (an_expr e es) ws k q h asks a eq c = absurd h
  part_argument_at (t ∷ ts) [] (an_expr e es) ws k q h asks a eq c = absurd h

  -- and of a partition
  pub record IsCutGiven (es : Expressions) (ws : List Value) (k : ℕ) : Type 0 where
    pub name : Name
    pub at : name_at es k ≡ Some name
    pub is : IsCutName w name
    pub keeps : forms.keeps ≡ true
    pub given : IsArgument x ws k (given_cut way w (bound w name).static_type)

  pub cut_argument_at : (ts ps : List StaticType) (es : Expressions) (ws : List Value) (k : ℕ) → ArePassed forms w ts ps es →
      Asks forms.keeps (are_whole_arguments true w ps es) → Are x (all_handed way w ps es) ws → IsPartition (type_at ps k) → IsCutGiven es ws k
  cut_argument_at (t ∷ ts) (p ∷ ps) (an_expr e es) _ zero h asks (are_more _ v _ vs i a) c =
      given_whole forms.keeps forms.takes w t p e (IsTyped forms w e) (IsIndexed forms w e) (IsCutGiven (an_expr e es) (v ∷ vs) 0) (asks_first _ _ _ asks)
      (λ enters is. absurd (worth_no_cut p enters.worth c))
      (λ y takes q. let b = handed_name y w t p e q in absurd (regions_no_cut (bound w b.0).static_type p b.4 c))
      (λ b d. absurd (regions_no_cut (typed w e) p d.regions c))
      (λ b d. record {
        name = d.name;
        at = ap name_of d.is;
        is = d.cut;
        keeps = b;
        given = record { it = v; at = refl; of = subst (λ s. Is x s v) (ap (handed way w p) d.is ∙ cut_handed way w d.name p d.partition) i };
      }) h.0
  cut_argument_at (t ∷ ts) (p ∷ ps) (an_expr e es) _ (suc k) h asks (are_more _ v _ vs i a) c =
      let more = cut_argument_at ts ps es vs k h.1 (asks_second _ _ _ asks) a c in
      record { name = more.name; at = more.at; is = more.is; keeps = more.keeps; given = record { it = more.given.it; at = more.given.at; of = more.given.of } }
  cut_argument_at [] [] no_expr ws zero h asks a c = absurd (elim c [ ])
  cut_argument_at [] [] no_expr ws (suc k) h asks a c = absurd (elim c [ ])
  cut_argument_at [] [] (an_expr e es) ws k h asks a c = absurd h
  cut_argument_at [] (p ∷ ps) es ws k h asks a c = absurd h
  cut_argument_at (t ∷ ts) [] es ws k h asks a c = absurd h
  cut_argument_at (t ∷ ts) (p ∷ ps) no_expr ws k h asks a c = absurd h
