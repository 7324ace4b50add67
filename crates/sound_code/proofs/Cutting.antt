-- The code that makes partitions, that keeps them, and that goes through their colours has marks; of a partition that is kept is
-- known of which region it is.
use Rattle.std.proofs.Common.{◌≡◌, inl, ℕ, ℤ, ◌<◌, ◌≤◌, List, [], ◌∷◌, ◌++◌, Bool, true, false, ◌||◌, None, Option, Some, refl, sym, ap, ◌∙◌, subst, arith}
use Rattle.std.specs.Prelude.{length, slice_get, slice_set, take}
use Rattle.std.proofs.lemmas.List.{length-set}
use Rattle.std.proofs.lemmas.Option.{same_Some}
use Rattle.lane_kernels.specs.declared.numbers.Mode.TheVariants as mode
use Rattle.regent_tree.specs.Syntax.{field_step, Name, no_step}
use Rattle.regent_tree.specs.Typing.{type_of_field}
use Rattle.regent_tree.specs.declared.typing.StaticType.{StaticType}
use Rattle.task_code.specs.declared.code.TaskCode.{TaskCode}
use Rattle.task_code.specs.declared.instr.Instr.{Instr}
use Rattle.task_code.specs.declared.instr.Instr.TheVariants as instr
use Rattle.machine_terms.specs.declared.value.PartitionValue.{PartitionValue}
use Rattle.machine_terms.specs.declared.value.RegionValue.{RegionValue}
use Rattle.machine_terms.specs.declared.value.Value.{Value}
use Rattle.machine_terms.specs.declared.value.Value.TheVariants as value
use Rattle.machine_terms.specs.Pointers.{region_in}
use Rattle.machine_terms.specs.Regions.{partition_in}
use Rattle.code_rules.specs.Expressions.{steps_code}
use Rattle.code_rules.specs.Instructions.{load_code}
use Rattle.code_rules.specs.Pieces.{op, ◌⨟◌}
use Rattle.code_rules.specs.Slots.{own_slot, slot, Where}
use Rattle.code_laws.specs.Simple.{a_partition_type, IsPartition}
use Rattle.code_laws.specs.Steps.{Forms}
use Rattle.fit_laws.proofs.Held.{none_held, plain_held, region_held}
use Rattle.fit_laws.proofs.Keeping.{are_first, are_others, get_other, get_set, set_mark}
use Rattle.fit_laws.proofs.Lookup.{as_long, each_among, set_at, value_at}
use Rattle.fit_laws.proofs.Pointers.{among_coloured}
use Rattle.fit_rules.specs.Shapes.{Among, Are, are_more, child_at, ComesFrom, cut_from, Each, held_at, Is, is_cut, IsCutOf, is_number, is_partition, is_region, IsPlain, IsPlainOrigin, IsRegion, Numeric, numeric_index, numeric_integer, numeric_pointer, numeric_truth, Origin, part, partition, region, Shape, space, unknown, World, HasNumber, HasPoint}
use Rattle.fit_rules.specs.Marks.{any_colour, around, child_in, Colour, colour_in, HasColour, Into, IsChild, Fact, Holds, HoldsTop, in_slot, IsParted, lies, LiesAt, LiesIn, Mark, parted, point_in, stacked, Stores, Suits, the_colour, top_colour, TopFact, top_at, topped, top_parted}
use Rattle.fit_rules.specs.Fits.{Program}
use Rattle.fit_rules.specs.Sound.{Allowed, does_colors, does_load_as, HasPartition, HasRegion, settled_cut, settled_region}
use Rattle.marked_code.specs.Marked.{Leads, leads_child, leads_colouring, leads_cutting, leads_image, leads_join, leads_meet, leads_minus, leads_preimage, leads_storing, typed_from, typed_op}
use Rattle.sound_code.specs.Ways.{shape_in, shape_of, Way}
use Rattle.sound_code.proofs.Asked.{AskedAt}
use Rattle.sound_code.proofs.Colours.{child_taken, IsUnder, stays_at}
use Rattle.sound_code.proofs.Combining.{both, does, into, Keeps, Marked, nothing_done}

-- a partition of a field space is one of any, and known to be disjoint where that was known
any_space : (x : World) (sp : Option ℕ) (r : RegionValue) → IsRegion x sp unknown r → IsRegion x None unknown r
any_space x sp r h = record { there = h.there; space = tt; set = h.set; points = h.points; origin = h.origin }

pub any_partition : (x : World) (sp : Option ℕ) (d e : Bool) (v : Value) → (e ≡ true → d ≡ true) → Is x (partition sp d) v → Is x (partition None e) v
any_partition x sp d e _ i (is_number _ z h) = absurd h
any_partition x sp d e _ i (is_partition _ _ q h) = is_partition None e q (record {
  flag = λ y. h.flag (i y);
  apart = h.apart;
  there = h.there;
  space = tt;
  count = h.count;
  regions = λ r a. let o = h.regions r a in (o.0, any_space x sp r o.1);
})

-- ---- a partition that is stored

-- the one on top of the stack is of the region in a slot, and so it is where it stands in a slot itself
parted_there : (vs st : List Value) (v : Value) (s p : ℕ) → (p ≡ s → ⊥) → p < length vs → HoldsTop (top_parted s) vs (v ∷ st) →
    Holds (parted p s) (slice_set vs p v)
parted_there vs st (value.Partition q) s p n l h = λ o e.
    let same : q ≡ o = same_Some q o (sym (ap partition_in (get_set vs p (value.Partition q) l)) ∙ e) in
    subst (λ y. IsParted (slice_set vs p (value.Partition q)) y s) same
    (record { parent = h.parent; at = ap region_in (get_other vs p s (value.Partition q) n) ∙ h.at; root = h.root; inside = h.inside })
parted_there vs st (value.Number z) s p n l h = absurd h
parted_there vs st (value.Space z) s p n l h = absurd h
parted_there vs st (value.Region z) s p n l h = absurd h
parted_there vs st (value.Pending z) s p n l h = absurd h

-- a colour of slots below another
written_set : (vs : List Value) (p : ℕ) (v : Value) (c : Colour) (z : ℤ) → IsUnder p c → HasColour vs c z → HasColour (slice_set vs p v) c z
written_set vs p v (the_colour y) z under h = h
written_set vs p v (colour_in s) z under h = subst (HasNumber z) (sym (get_other vs p s v (λ e. omega (arith, e, under)))) h
written_set vs p v (point_in s) z under h = subst (HasPoint z) (sym (get_other vs p s v (λ e. omega (arith, e, under)))) h
written_set vs p v any_colour z under h = h

-- a child of a partition is that, in a slot, and lies within the region in another of which the partition is
piece_there : (vs st : List Value) (v : Value) (q s p : ℕ) (c : Colour) → (p ≡ s → ⊥) → (p ≡ q → ⊥) → p < length vs → IsUnder p c → Holds (parted q s) vs →
    HoldsTop (top_at (child_in q c)) vs (v ∷ st) →
    Holds (lies (in_slot p) (child_in q c)) (slice_set vs p v) × Holds (lies (in_slot p) (in_slot s)) (slice_set vs p v)
piece_there vs st (value.Region r) q s p c n o l written parts h = (
  λ d e. record {
    other = r;
    at = record {
      parts = h.parts;
      there = ap partition_in (get_other vs p q (value.Region r) o) ∙ h.there;
      colour = h.colour;
      has_colour = written_set vs p (value.Region r) c h.colour written h.has_colour;
      child = h.child;
    };
    inside = subst (λ y. LiesIn y r) (same_Some r d (sym (ap region_in (get_set vs p (value.Region r) l)) ∙ e)) (refl, λ i y. y);
  },
  λ d e.
      let w = parts h.parts h.there in
      let same : r ≡ d = same_Some r d (sym (ap region_in (get_set vs p (value.Region r) l)) ∙ e) in
      subst (λ y. LiesAt (slice_set vs p (value.Region r)) y (in_slot s)) same
      (record { other = w.parent; at = ap region_in (get_other vs p s (value.Region r) n) ∙ w.at; inside = w.inside r (among_coloured h.parts.children h.colour r h.child) }),
)
piece_there vs st (value.Number z) q s p c n o l written parts h = absurd h
piece_there vs st (value.Space z) q s p c n o l written parts h = absurd h
piece_there vs st (value.Partition z) q s p c n o l written parts h = absurd h
piece_there vs st (value.Pending z) q s p c n o l written parts h = absurd h

abbrev knowing_all : List Fact → Mark → Mark
knowing_all fs m = record m { facts = fs ++ m.facts }

pub each_onto : (P : Fact → Type 0) (fs ks : List Fact) → Each P fs → Each P ks → Each P (fs ++ ks)
each_onto P [] ks h q = q
each_onto P (f ∷ fs) ks h q = (h.0, each_onto P fs ks h.1 q)

abbrev pub knowing : Fact → Mark → Mark
knowing f m = record m { facts = f ∷ m.facts }

module _ (g : Program) (t : TaskCode) (k line : ℕ) (m : Mark) where
  -- what is known of the top of the stack is known of the slot into which it goes
  storing_known : (p : ℕ) (a b : Shape) (top : TopFact) (fs : List Fact) → Keeps m p → t.params ≤ p → p < length m.slots → IsPlain b →
      ((x : World) (v : Value) → Is x a v → Is x b v) →
      ((vs st : List Value) (v : Value) → p < length vs → Each (λ f. Holds f vs) m.facts → HoldsTop top vs (v ∷ st) → Each (λ f. Holds f (slice_set vs p v)) fs) →
      Marked g t k (topped m (a ∷ []) top) (op (instr.Store p) line) (knowing_all fs (set_mark m p b []))
  storing_known p a b top fs kept lo hi plain h there = record {
    marks = _;
    is = typed_op _ _ _ line (leads_storing (topped m (a ∷ []) top) (knowing_all fs (set_mark m p b [])) p a [] refl hi stores (length-set m.slots p b));
  }
    where
      stores : Stores t.params (topped m (a ∷ []) top) p (knowing_all fs (set_mark m p b []))
      stores x vs st v q = record {
        slots = set_at x m.slots vs p b v q.slots
            (plain_held (around x m vs) x.held b v plain (h (around x m vs) v (are_first (around x m vs) a [] v st q.stack)));
        stack = none_held _ _ st (are_others (around x m vs) a [] v st q.stack);
        facts = each_onto (λ f. Holds f (slice_set vs p v)) fs m.facts (there vs st v (omega (arith, hi, as_long x m.slots vs q.slots)) q.facts q.top.0) (kept vs v q.facts);
        top = tt;
        args = λ i o. ap region_in (get_other vs p i v (λ d. omega (arith, d, o, lo))) ∙ q.args i o;
      }

  pub storing_cut : (s p : ℕ) (a b : Shape) → Keeps m p → t.params ≤ p → p < length m.slots → (p ≡ s → ⊥) → IsPlain b → ((x : World) (v : Value) → Is x a v → Is x b v) →
      Marked g t k (topped m (a ∷ []) (top_parted s)) (op (instr.Store p) line) (knowing (parted p s) (set_mark m p b []))
  storing_cut s p a b kept lo hi n plain h =
      storing_known p a b (top_parted s) (parted p s ∷ []) kept lo hi plain h (λ vs st v l all top. (parted_there vs st v s p n l top, tt))

  -- a child of a partition, of the region in a slot, lies within that, and is known as that child
  pub storing_piece : (s q p : ℕ) (c : Colour) (a b : Shape) → Keeps m p → t.params ≤ p → p < length m.slots → (p ≡ s → ⊥) → (p ≡ q → ⊥) → IsUnder p c → IsPlain b →
      Among m.facts (parted q s) → ((x : World) (v : Value) → Is x a v → Is x b v) →
      Marked g t k (topped m (a ∷ []) (top_at (child_in q c))) (op (instr.Store p) line)
      (knowing (lies (in_slot p) (child_in q c)) (knowing (lies (in_slot p) (in_slot s)) (set_mark m p b [])))
  storing_piece s q p c a b kept lo hi n o written plain fact h =
      storing_known p a b (top_at (child_in q c)) (lies (in_slot p) (child_in q c) ∷ lies (in_slot p) (in_slot s) ∷ []) kept lo hi plain h (λ vs st v l all top.
      let both = piece_there vs st v q s p c n o l written (each_among (λ f. Holds f vs) m.facts (parted q s) fact all) top in (both.0, (both.1, tt)))

  -- ---- a part

  -- the number on top may be any colour
  pub any_coloured : (x : World) (a : Shape) (us : List Shape) (vs st : List Value) → Numeric a → Are x (a ∷ us) st → HoldsTop (top_colour any_colour) vs st
  any_coloured x _ us vs _ (numeric_integer w) (are_more _ _ _ st (is_number _ z h) b) = tt
  any_coloured x _ us vs _ numeric_truth (are_more _ _ _ st (is_number _ z h) b) = tt
  any_coloured x _ us vs _ numeric_index (are_more _ _ _ st (is_number _ z h) b) = tt
  any_coloured x _ us vs _ (numeric_pointer n) (are_more _ _ _ st (is_number _ z h) b) = tt

  -- a child lies within the region in a slot, of which the partition is
  pub child_within : (x : World) (vs : List Value) (p s sp : ℕ) (c : Colour) (o : Origin) (r : RegionValue) → IsPlainOrigin o → p < m.fixed → IsUnder m.fixed c →
      Holds (parted p s) vs → Are x m.slots vs → slice_get m.slots s ≡ Some (region (Some sp) o) → IsRegion (around x m vs) None unknown r → IsChild vs p c r →
      Is (around x m vs) (region (Some sp) (child_at p c o)) (value.Region r)
  child_within x vs p s sp c o r plain low under parts slots e i h =
      let v = value_at x m.slots vs s (region (Some sp) o) slots e in of v.value v.at v.of
    where
      of : (v : Value) → slice_get vs s ≡ Some v → Is x (region (Some sp) o) v → Is (around x m vs) (region (Some sp) (child_at p c o)) (value.Region r)
      of _ at (is_number _ z f) = absurd f
      of _ at (is_region _ _ q f) =
          let w = parts h.parts h.there in
          let same : q ≡ w.parent = same_Some q w.parent (sym (ap region_in at) ∙ w.at) in
          let over : LiesIn r w.parent = w.inside r (among_coloured h.parts.children h.colour r h.child) in
          is_region (Some sp) (child_at p c o) r (record {
            there = i.there;
            space = ap x.spaces over.0 ∙ subst (λ (d : RegionValue). x.spaces d.root.0 ≡ sp) same f.space;
            set = i.set;
            points = i.points;
            origin = (
              w.parent,
              subst (ComesFrom (around x m vs) o) same (region_held x (take m.fixed vs) (Some sp) o q plain f).origin,
              over,
              child_taken m.fixed vs p c r low under h,
            );
          })

  -- where the number on top is its colour
  taken_child : (p s sp : ℕ) (d : Bool) (c : Colour) (o : Origin) (a : Shape) (us : List Shape) → Numeric a → IsPlainOrigin o → p < m.fixed → IsUnder m.fixed c →
      slice_get m.slots p ≡ Some (partition None d) → slice_get m.slots s ≡ Some (region (Some sp) o) → Among m.facts (parted p s) →
      Marked g t k (topped m (a ∷ us) (top_colour c)) (op (instr.Child p) line) (topped m (region (Some sp) (child_at p c o) ∷ us) (top_at (child_in p c)))
  taken_child p s sp d c o a us n plain low under hp hs fact =
      let known = topped m (a ∷ us) (top_colour c) in
      into g t k (record {
        marks = _;
        is = typed_op known (topped m (region None unknown ∷ us) (top_at (child_in p c))) (instr.Child p) line
            (leads_child known p None a us c refl n (record { disjoint = d; shape = hp }) (inl refl));
      }) (λ x vs st q. record {
        slots = q.slots;
        stack = of x vs st q.slots q.facts q.stack q.top.0;
        facts = q.facts;
        top = q.top;
        args = q.args;
      }) refl
    where
      of : (x : World) (vs st : List Value) → Are x m.slots vs → Each (λ f. Holds f vs) m.facts → Are (around x m vs) (region None unknown ∷ us) st →
          HoldsTop (top_at (child_in p c)) vs st → Are (around x m vs) (region (Some sp) (child_at p c o) ∷ us) st
      of x vs _ slots facts (are_more _ _ _ st (is_region _ _ r i) b) h =
          are_more _ _ us st (child_within x vs p s sp c o r plain low under (each_among (λ f. Holds f vs) m.facts (parted p s) fact facts) slots hs i h) b
      of x vs _ slots facts (are_more _ _ _ st (is_number _ z f) b) h = absurd f

  pub cut_child : (p s sp : ℕ) (d : Bool) (c : Colour) (o : Origin) (a : Shape) (us : List Shape) → Numeric a → IsPlainOrigin o → p < m.fixed → IsUnder m.fixed c →
      slice_get m.slots p ≡ Some (partition None d) → slice_get m.slots s ≡ Some (region (Some sp) o) → Among m.facts (parted p s) →
      Marked g t k (topped m (a ∷ us) (top_colour c)) (op (instr.Child p) line) (stacked m (region (Some sp) (child_at p c o) ∷ us))
  cut_child p s sp d c o a us n plain low under hp hs fact = into g t k (taken_child p s sp d c o a us n plain low under hp hs fact)
      (λ x vs st q. record { slots = q.slots; stack = q.stack; facts = q.facts; top = tt; args = q.args }) refl

  -- by any colour
  pub colour_any : (a : Shape) (us : List Shape) → Numeric a → Into t.params (stacked m (a ∷ us)) (topped m (a ∷ us) (top_colour any_colour))
  colour_any a us n x vs st q =
      record { slots = q.slots; stack = q.stack; facts = q.facts; top = (any_coloured _ a us vs st n q.stack, tt); args = q.args }

  less_child : (x : World) (sp : Option ℕ) (p : ℕ) (c : Colour) (o : Origin) (us : List Shape) (st : List Value) → Are x (region sp (child_at p c o) ∷ us) st →
      Are x (region sp (part o) ∷ us) st
  less_child x sp p c o us _ (are_more _ _ _ st (is_region _ _ r h) b) = are_more _ _ us st (is_region sp (part o) r (record {
    there = h.there;
    space = h.space;
    set = h.set;
    points = h.points;
    origin = (h.origin.0, h.origin.1, h.origin.2);
  })) b
  less_child x sp p c o us _ (are_more _ _ _ st (is_number _ z f) b) = absurd f

  -- a child of which the colour is known
  pub taken_piece : (p s sp : ℕ) (d : Bool) (c : Colour) (o : Origin) (a : Shape) (us : List Shape) → Numeric a → IsPlainOrigin o → p < m.fixed → IsUnder m.fixed c →
      slice_get m.slots p ≡ Some (partition None d) → slice_get m.slots s ≡ Some (region (Some sp) o) → Among m.facts (parted p s) →
      Marked g t k (topped m (a ∷ us) (top_colour c)) (op (instr.Child p) line) (topped m (region (Some sp) (part o) ∷ us) (top_at (child_in p c)))
  taken_piece p s sp d c o a us n plain low under hp hs fact =
      into g t k (taken_child p s sp d c o a us n plain low under hp hs fact)
      (λ x vs st q. record { slots = q.slots; stack = less_child _ (Some sp) p c o us st q.stack; facts = q.facts; top = q.top; args = q.args }) refl

  -- the child itself is on top
  pub taken_any_child : (p s sp : ℕ) (d : Bool) (o : Origin) (a : Shape) (us : List Shape) → Numeric a → IsPlainOrigin o → p < m.fixed →
      slice_get m.slots p ≡ Some (partition None d) → slice_get m.slots s ≡ Some (region (Some sp) o) → Among m.facts (parted p s) →
      Marked g t k (stacked m (a ∷ us)) (op (instr.Child p) line) (topped m (region (Some sp) (part o) ∷ us) (top_at (child_in p any_colour)))
  taken_any_child p s sp d o a us n plain low hp hs fact =
      into g t k (both_from (taken_child p s sp d any_colour o a us n plain low tt hp hs fact))
      (λ x vs st q. record { slots = q.slots; stack = less_child _ (Some sp) p any_colour o us st q.stack; facts = q.facts; top = q.top; args = q.args }) refl
    where
      both_from : Marked g t k (topped m (a ∷ us) (top_colour any_colour)) (op (instr.Child p) line)
          (topped m (region (Some sp) (child_at p any_colour o) ∷ us) (top_at (child_in p any_colour))) →
          Marked g t k (stacked m (a ∷ us)) (op (instr.Child p) line) (topped m (region (Some sp) (child_at p any_colour o) ∷ us) (top_at (child_in p any_colour)))
      both_from f = record { marks = _; is = typed_from (stacked m (a ∷ us)) (topped m (a ∷ us) (top_colour any_colour)) _ _ _ (colour_any a us n) f.is refl }

  -- ---- regions and partitions that are loaded

  from_slot : (x : World) (vs : List Value) (s sp : ℕ) (o : Origin) (v : Value) → IsPlainOrigin o → Is x (region (Some sp) o) v → (r : RegionValue) →
      region_in (Some v) ≡ Some r → ComesFrom (around x m vs) o r
  from_slot x vs s sp o _ plain (is_number _ z f) r at = absurd f
  from_slot x vs s sp o _ plain (is_region _ _ q f) r at =
      subst (ComesFrom (around x m vs) o) (same_Some q r at) (region_held x (take m.fixed vs) (Some sp) o q plain f).origin

  -- a region in a slot that stays is known as the one there
  pub region_known : (x : World) (vs : List Value) (s sp : ℕ) (o : Origin) (v : Value) → IsPlainOrigin o → s < m.fixed → slice_get vs s ≡ Some v →
      Is x (region (Some sp) o) v → Is (around x m vs) (region (Some sp) (held_at s o)) v
  region_known x vs s sp o _ plain low at (is_number _ z f) = absurd f
  region_known x vs s sp o _ plain low at (is_region _ _ r f) =
      let i = region_held x (take m.fixed vs) (Some sp) o r plain f in is_region (Some sp) (held_at s o) r (record {
        there = i.there;
        space = i.space;
        set = i.set;
        points = i.points;
        origin = (i.origin, ap region_in (stays_at m.fixed vs s low) ∙ ap region_in at);
      })

  pub region_taken : (s sp : ℕ) (o : Origin) (us : List Shape) → IsPlainOrigin o → s < m.fixed → slice_get m.slots s ≡ Some (region (Some sp) o) →
      Marked g t k (stacked m us) (op (instr.Load s) line) (stacked m (region (Some sp) (held_at s o) ∷ us))
  region_taken s sp o us plain low hs = does g t k (stacked m us) (instr.Load s) line _
      (does_load_as s (region (Some sp) o) (region (Some sp) (held_at s o)) us hs (settled_region (Some sp) (held_at s o)) (λ x vs st q v at.
      let w = value_at x m.slots vs s (region (Some sp) o) q.slots hs in
      region_known x vs s sp o v plain low at (subst (Is x (region (Some sp) o)) (same_Some w.value v (sym w.at ∙ at)) w.of)))

  as_cut : (x : World) (d : Bool) (o : Origin) (v : Value) → Is x (partition None d) v → ((q : PartitionValue) → partition_in (Some v) ≡ Some q → IsCutOf x o q) →
      Is x (cut_from None d o) v
  as_cut x d o _ (is_partition _ _ q i) h = is_cut None d o q i (h q refl)
  as_cut x d o _ (is_number _ z f) h = absurd f

  -- what is known of a partition in a slot, by the region in another of which it is
  pub cut_known : (x : World) (vs : List Value) (p s sp : ℕ) (d : Bool) (o : Origin) (v : Value) → IsPlainOrigin o → s < m.fixed → Holds (parted p s) vs →
      Are x m.slots vs → slice_get m.slots s ≡ Some (region (Some sp) o) → slice_get vs p ≡ Some v → Is x (partition None d) v →
      Is (around x m vs) (cut_from None d (held_at s o)) v
  cut_known x vs p s sp d o v plain low parts slots e at i =
      as_cut (around x m vs) d (held_at s o) v (plain_held x (take m.fixed vs) (partition None d) v tt i) (λ q is.
      let w = parts q (ap partition_in at ∙ is) in
      let u = value_at x m.slots vs s (region (Some sp) o) slots e in record {
        parent = w.parent;
        origin = (
          from_slot x vs s sp o u.value plain u.of w.parent (sym (ap region_in u.at) ∙ w.at),
          ap region_in (stays_at m.fixed vs s low) ∙ w.at,
        );
        root = w.root;
        inside = w.inside;
      })

  pub cut_loaded : (p s sp : ℕ) (d : Bool) (o : Origin) (us : List Shape) → IsPlainOrigin o → s < m.fixed → slice_get m.slots p ≡ Some (partition None d) →
      slice_get m.slots s ≡ Some (region (Some sp) o) → Among m.facts (parted p s) →
      Marked g t k (stacked m us) (op (instr.Load p) line) (stacked m (cut_from None d (held_at s o) ∷ us))
  cut_loaded p s sp d o us plain low hp hs fact = does g t k (stacked m us) (instr.Load p) line _
      (does_load_as p (partition None d) (cut_from None d (held_at s o)) us hp (settled_cut None d (held_at s o)) (λ x vs st q v at.
      let w = value_at x m.slots vs p (partition None d) q.slots hp in
      cut_known x vs p s sp d o v plain low (each_among (λ f. Holds f vs) m.facts (parted p s) fact q.facts) q.slots hs at
      (subst (Is x (partition None d)) (same_Some w.value v (sym w.at ∙ at)) w.of)))

  -- ---- partitions that are made

  pub cut_equal : (s : ℕ) (sp : Option ℕ) → HasRegion m sp s →
      Marked g t k (stacked m (space ∷ [])) (op (instr.Equal s) line) (topped m (partition sp true ∷ []) (top_parted s))
  cut_equal s sp h = record {
    marks = _;
    is = typed_op (stacked m (space ∷ [])) _ _ line (leads_cutting (stacked m (space ∷ [])) s sp [] refl (record { origin = h.origin; shape = h.shape }));
  }

  pub cut_by_field : (s f sp : ℕ) → Allowed g t (stacked m (space ∷ [])) sp f mode.Read s →
      Marked g t k (stacked m (space ∷ [])) (op (instr.ByField s f) line) (topped m (partition (Some sp) true ∷ []) (top_parted s))
  cut_by_field s f sp h = record {
    marks = _;
    is = typed_op (stacked m (space ∷ [])) _ _ line (leads_colouring (stacked m (space ∷ [])) s f sp [] refl h);
  }

  pub cut_minus : (p q s : ℕ) (sp sq so : Option ℕ) (d : Bool) → slice_get m.slots p ≡ Some (partition sp d) → HasPartition m sq q → HasRegion m so s →
      Among m.facts (parted p s) → Marked g t k (stacked m []) (op (instr.Minus p q s) line) (topped m (partition so d ∷ []) (top_parted s))
  cut_minus p q s sp sq so d hp hq hs f = record {
    marks = _;
    is = typed_op (stacked m []) _ _ line (leads_minus (stacked m []) p q s sp sq so d hp
        (record { disjoint = hq.disjoint; shape = hq.shape }) (record { origin = hs.origin; shape = hs.shape }) f);
  }

  pub cut_meet : (p q s : ℕ) (sp sq so : Option ℕ) (d e : Bool) → slice_get m.slots p ≡ Some (partition sp d) →
      slice_get m.slots q ≡ Some (partition sq e) → HasRegion m so s → Among m.facts (parted p s) →
      Marked g t k (stacked m []) (op (instr.Meet p q s) line) (topped m (partition so (d || e) ∷ []) (top_parted s))
  cut_meet p q s sp sq so d e hp hq hs f = record {
    marks = _;
    is = typed_op (stacked m []) _ _ line (leads_meet (stacked m []) p q s sp sq so d e hp hq (record { origin = hs.origin; shape = hs.shape }) f);
  }

  pub cut_join : (p q s : ℕ) (sp sq so : Option ℕ) → HasPartition m sp p → HasPartition m sq q → HasRegion m so s → Among m.facts (parted p s) →
      Among m.facts (parted q s) → Marked g t k (stacked m []) (op (instr.Join p q s) line) (topped m (partition so false ∷ []) (top_parted s))
  cut_join p q s sp sq so hp hq hs f h = record {
    marks = _;
    is = typed_op (stacked m []) _ _ line (leads_join (stacked m []) p q s sp sq so (record { disjoint = hp.disjoint; shape = hp.shape })
        (record { disjoint = hq.disjoint; shape = hq.shape }) (record { origin = hs.origin; shape = hs.shape }) f h);
  }

  -- by a fact that follows from the others
  by_fact : (f : Fact) (i : Instr) (us : List Shape) (top : TopFact) → ((x : World) (vs st : List Value) → Suits x t.params (stacked m []) vs st → Holds f vs) →
      Leads g t k (knowing f (stacked m [])) i (topped (knowing f m) us top) → Marked g t k (stacked m []) (op i line) (topped m us top)
  by_fact f i us top h l = into g t k (record {
    marks = _;
    is = typed_from (stacked m []) (knowing f (stacked m [])) _ _ _
        (λ x vs st q. record { slots = q.slots; stack = q.stack; facts = (h x vs st q, q.facts); top = q.top; args = q.args })
        (typed_op (knowing f (stacked m [])) _ i line l) refl;
  }) (λ x vs st q. record { slots = q.slots; stack = q.stack; facts = q.facts.1; top = q.top; args = q.args }) refl

  -- what is allowed is so where more is known
  allowed_knowing : (f : Fact) (sp r : ℕ) (field : ℕ) → Allowed g t (stacked m []) sp field mode.Read r → Allowed g t (knowing f (stacked m [])) sp field mode.Read r
  allowed_knowing f sp r field h = record {
    origin = h.origin;
    shape = h.shape;
    covers = λ x vs st q. h.covers x vs st (record { slots = q.slots; stack = q.stack; facts = q.facts.1; top = q.top; args = q.args });
  }

  pub cut_image : (s p r f sp : ℕ) (sq so : Option ℕ) → HasRegion m so s → HasPartition m sq p → Allowed g t (stacked m []) sp f mode.Read r →
      ((x : World) (vs st : List Value) → Suits x t.params (stacked m []) vs st → Holds (parted p r) vs) →
      Marked g t k (stacked m []) (op (instr.Image s p r f) line) (topped m (partition so false ∷ []) (top_parted s))
  cut_image s p r f sp sq so hs hp h held = by_fact (parted p r) (instr.Image s p r f) (partition so false ∷ []) (top_parted s) held
      (leads_image (knowing (parted p r) (stacked m [])) s p r f sp sq so (record { origin = hs.origin; shape = hs.shape })
      (record { disjoint = hp.disjoint; shape = hp.shape }) (allowed_knowing (parted p r) sp r f h) (inl refl))

  pub cut_preimage : (s p r f sp : ℕ) (sq so : Option ℕ) (d : Bool) → HasRegion m so s → slice_get m.slots p ≡ Some (partition sq d) →
      Allowed g t (stacked m []) sp f mode.Read r →
      ((x : World) (vs st : List Value) → Suits x t.params (stacked m []) vs st → Holds (lies (in_slot s) (in_slot r)) vs) →
      Marked g t k (stacked m []) (op (instr.Preimage s p r f) line) (topped m (partition so d ∷ []) (top_parted s))
  cut_preimage s p r f sp sq so d hs hp h held = by_fact (lies (in_slot s) (in_slot r)) (instr.Preimage s p r f) (partition so d ∷ []) (top_parted s) held
      (leads_preimage (knowing (lies (in_slot s) (in_slot r)) (stacked m [])) s p r f sp sq so d (record { origin = hs.origin; shape = hs.shape }) hp
      (allowed_knowing (lies (in_slot s) (in_slot r)) sp r f h) (inl refl))

module _ (g : Program) (t : TaskCode) (k slots : ℕ) (forms : Forms) (way : Way) (w : Where) (m : Mark) {deep : ℕ} (asked : AskedAt g t k slots deep forms way w m) where
  pub colours_marked : (d : ℕ) (x f : Name) (us : List Shape) (u : StaticType) (place : ℕ) → IsPartition u →
      slice_get m.slots (slot w place) ≡ Some (shape_in way w.params u) →
      Marked g t k (stacked m us) (load_code w u (slot w place) (field_step f no_step) ⨟ steps_code w d u (own_slot w u place) (field_step f no_step))
      (stacked m (shape_of (type_of_field w.tree u f) ∷ us))
  colours_marked d x f us _ place (a_partition_type e r p) there =
      both g t k (nothing_done g t k _)
      (both g t k (does g t k (stacked m us) (instr.Colors (slot w place)) w.line (space ∷ us)
      (does_colors (slot w place) None us (record { disjoint = e; shape = there })))
      (nothing_done g t k _))
