-- What is known of partitions that names have, and the code that takes a part of one: the part lies within the region of which
-- the partition is.
use Rattle.std.proofs.Common.{◌≡◌, inl, ℕ, ◌<◌, ℤ, List, ◌∷◌, Bool, true, false, cond, None, Option, Some, refl, sym, ap, ◌∙◌, subst}
use Rattle.std.specs.Prelude.{length, slice_get}
use Rattle.lane_kernels.specs.declared.numbers.Width.{Width}
use Rattle.regent_tree.specs.Accesses.{space_in}
use Rattle.regent_tree.specs.Scopes.{bound_as}
use Rattle.regent_tree.specs.Syntax.{access_expr, at_step, call_expr, cast_expr, chain_expr, convert_expr, Expression, field_step, is_null_expr, Name, no_step, null_expr, number_expr, prefix_expr, space_expr, truth_expr}
use Rattle.regent_tree.specs.Typing.{child_type, counting_as, is_disjoint, parent_of, type_of_element}
use Rattle.regent_tree.specs.declared.facts.Term.{Term}
use Rattle.regent_tree.specs.declared.facts.Term.TheVariants as term
use Rattle.regent_tree.specs.declared.typing.Bound.{Bound}
use Rattle.regent_tree.specs.declared.typing.StaticType.{StaticType}
use Rattle.regent_tree.specs.declared.typing.StaticType.TheVariants.{Integer as integer_type, Truth as truth_type, Index as index_type, Pointer as pointer_type, Ispace as ispace_type, Region as region_type, Partition as partition_type, Nothing as no_type, Unknown as unknown_type}
use Rattle.task_code.specs.declared.code.TaskCode.{TaskCode}
use Rattle.task_code.specs.declared.instr.Instr.TheVariants as instr
use Rattle.code_rules.specs.Expressions.{expr_code, steps_code}
use Rattle.code_rules.specs.Instructions.{load_code, one, standing_code}
use Rattle.code_rules.specs.Pieces.{◌⨟◌, empty, Piece}
use Rattle.code_rules.specs.Slots.{bound, own_slot, slot_bound, slot_named, typed, Where}
use Rattle.code_laws.specs.Arguments.{IsCutName, parent_bound}
use Rattle.code_laws.specs.Handing.{told_in}
use Rattle.regent_tree.specs.declared.facts.Known.{Known}
use Rattle.code_laws.specs.Pointers.{counts_number, counts_pointer, IsCounting}
use Rattle.code_laws.specs.Simple.{a_partition_type, a_region_type, AreRegions, IsPartition, IsRegion, number_index, number_integer, term_in, two_regions}
use Rattle.code_laws.specs.Standing.{Stands}
use Rattle.code_laws.specs.Steps.{Forms}
use Rattle.code_laws.specs.Typed.{IsTyped}
use Rattle.fit_rules.specs.Shapes.{Among, any_colour, child_at, Colour, colour_in, cut_from, held_at, index, integer, NumberIs, numeric_index, numeric_integer, numeric_pointer, Origin, part, partition, pointer, region, Shape, the_colour}
use Rattle.fit_rules.specs.Marks.{any_colour, child_in, Mark, parted, stacked, top_at, top_colour, topped}
use Rattle.marked_code.specs.Marked.{leads_coloured, leads_loaded, leads_pointed, typed_op}
use Rattle.fit_rules.specs.Fits.{Program}
use Rattle.std.proofs.Common.{◌||◌, nat_lt}
use Rattle.sound_code.proofs.Placing.{named_as}
use Rattle.sound_code.proofs.SlotShapes.{partition_plain, pointer_plain, region_plain, slot_bare, slot_is, slot_numbered, slot_plain}
use Rattle.sound_code.specs.Named.{name_shape, slot_shape}
use Rattle.sound_code.specs.Ways.{by_rules, origin_in, shape_in, shape_of, Way}
use Rattle.sound_code.proofs.Asked.{AskedAt, ruled}
use Rattle.sound_code.proofs.Colours.{colour_at, held_colour, IsUnder, named_low, slot_low}
use Rattle.sound_code.proofs.Combining.{both, into, Marked, nothing_done}
use Rattle.sound_code.proofs.Plain.{plain_origin}
use Rattle.sound_code.proofs.Counting.{counted_numeric, standing_counted}
use Rattle.sound_code.proofs.Cuts.{AreCut, cut_named, CutBy, IsCut, place_as}
use Rattle.sound_code.proofs.Cutting.{colour_any, taken_any_child, taken_piece, cut_child, cut_loaded}
use Rattle.sound_code.proofs.Placing.{named_at}
use Rattle.sound_code.proofs.Scoped.{IsScoped, own_shape, region_as, region_found, scoped_as}

-- a name's partition, in its slot, is of the region with a number
pub record IsCutOf (w : Where) (m : Mark) (n : Name) (r : ℕ) : Type 0 where
  pub disjoint : Bool
  pub is : is_disjoint (bound w n).static_type ≡ disjoint
  pub shape : slice_get m.slots (slot_named w n) ≡ Some (partition None disjoint)
  pub region : IsRegion (bound_as w.scope.names r).static_type
  pub fact : Among m.facts (parted (slot_named w n) (slot_bound w r))

-- ---- the space of a part

child_regions : (v : StaticType) (t : Term) (p : StaticType) → AreRegions (child_type v t) p → space_in p ≡ space_in v
child_regions (region_type k sp args r) t _ (two_regions c d _ _ brgs _ q) = refl
child_regions (integer_type w) t p h = elim h [ ]
child_regions truth_type t p h = elim h [ ]
child_regions (index_type k) t p h = elim h [ ]
child_regions (pointer_type k sp args rs) t p h = elim h [ ]
child_regions (ispace_type k) t p h = elim h [ ]
child_regions (partition_type d r q) t p h = elim h [ ]
child_regions no_type t p h = elim h [ ]
child_regions unknown_type t p h = elim h [ ]

element_regions : (w : Where) (u : StaticType) (e : Expression) (p : StaticType) → IsPartition u → AreRegions (type_of_element w.scope u e) p →
    space_in p ≡ space_in (bound_as w.scope.names (parent_of u)).static_type
element_regions w _ e p (a_partition_type d r q) h = child_regions (bound_as w.scope.names r).static_type _ p h

-- the type of what is given for a part is of the field space of the region of which the partition is
pub part_regions : (w : Where) (n : Name) (e : Expression) (p : StaticType) → IsPartition (bound w n).static_type → AreRegions (typed w (access_expr n (at_step e no_step))) p →
    space_in p ≡ space_in (bound_as w.scope.names (parent_of (bound w n).static_type)).static_type
part_regions w n e p is h = element_regions w (bound w n).static_type e p is h

pub own_named : (all : List Bound) (u : StaticType) (n i : ℕ) → IsRegion u → IsScoped all n u → n ≡ i → term_in u ≡ term.Name i
own_named all _ n i (a_region_type k sp args r) h e = h ∙ ap term.Name e

module _ (g : Program) (t : TaskCode) (k slots : ℕ) (forms : Forms) (way : Way) (w : Where) (m : Mark) {deep : ℕ} (asked : AskedAt g t k slots deep forms way w m) where
  abbrev Goes : List Shape → Piece → List Shape → Type 0
  Goes us p vs = Marked g t k (stacked m us) p (stacked m vs)

  pub cuts : (q : forms.keeps ≡ true) →
      AreCut w.params ((ruled g t k slots forms way w m asked q).tops (ruled g t k slots forms way w m asked q).task) (told_in w.tree (ruled g t k slots forms way w m asked q).task) m.facts w.scope.names w.scope.names
  cuts q = subst (λ v. CutBy v w.tree w.params m.facts w.scope.names) (ruled g t k slots forms way w m asked q).by (asked.cut q)

  of_type : (up : ℕ → Option (ℕ × ℕ)) (total : List Known) (n : Name) (u : StaticType) → is_disjoint (bound w n).static_type ≡ is_disjoint u → IsPartition u →
      slice_get m.slots (slot_named w n) ≡ Some (shape_in way w.params u) → IsCut w.params up total m.facts w.scope.names (bound w n).place u → IsCutOf w m n (parent_of u)
  of_type up total n _ same (a_partition_type d r p) there cut = record { disjoint = d; is = same; shape = there; region = cut.0; fact = cut.1 }

  pub cut_of : (n : Name) → forms.keeps ≡ true → IsCutName w n → IsCutOf w m n (parent_of (bound w n).static_type)
  cut_of n q c =
      let r = ruled g t k slots forms way w m asked q in
      of_type (r.tops r.task) (told_in w.tree r.task) n (bound w n).static_type refl c.partition (named_as way w.params m.slots w.scope.names n asked.ready.named c.named (partition_plain way w.params _ c.partition))
      (cut_named w.params (r.tops r.task) (told_in w.tree r.task) m.facts w.scope.names w.scope.names n (cuts q) c.named)

  -- the number of the region of which a name's partition is, and where a part comes from
  abbrev pub parent : Name → ℕ
  parent n = parent_of (bound w n).static_type

  abbrev pub within : Name → Origin
  within n = part (origin_in way w.params (term.Name (parent n)))

  -- ---- colours

  -- The code of a number stands for a colour: it has a mark, and behind the code that makes a point of a pointer the number is known
  -- to be that colour.
  pub record Coloured (us : List Shape) (p : Piece) (u : StaticType) (c : Colour) : Type 0 where
    pub between : Mark
    pub value : Marked g t k (stacked m us) p between
    pub counts : Marked g t k between (standing_code w u) (topped m (shape_of (counting_as u) ∷ us) (top_colour c))
    pub below : IsUnder m.fixed c

  pub coloured_any : (us : List Shape) (p : Piece) (u : StaticType) → IsCounting u → Marked g t k (stacked m us) p (stacked m (shape_of u ∷ us)) →
      Coloured us p u any_colour
  coloured_any us p u h f = record {
    between = _;
    value = f;
    counts = into g t k (standing_counted g t k w m u us h) (colour_any g t k w.line m (shape_of (counting_as u)) us (counted_numeric u h)) refl;
    below = tt;
  }

  -- a number that is written
  coloured_number : (us : List Shape) (z : ℤ) (v : Width) → NumberIs (integer v) z → Coloured us (one w (instr.Num z)) (integer_type v) (the_colour z)
  coloured_number us z v fine = record {
    between = _;
    value = record { marks = _; is = typed_op _ _ _ w.line (leads_coloured (stacked m us) z (integer v) fine) };
    counts = nothing_done g t k _;
    below = tt;
  }

  -- the variable of a loop
  coloured_loop : (us : List Shape) (s : ℕ) (u : StaticType) → s < m.fixed → slice_get m.slots s ≡ Some (shape_in way w.params u) → IsCounting u →
      Coloured us (one w (instr.Load s) ⨟ empty) u (held_colour u s)
  coloured_loop us s _ low there (counts_number _ (number_integer v)) = record {
    between = _;
    value = both g t k (record { marks = _; is = typed_op _ _ _ w.line (leads_loaded (stacked m us) s (integer v) there (numeric_integer v)) }) (nothing_done g t k _);
    counts = nothing_done g t k _;
    below = low;
  }
  coloured_loop us s _ low there (counts_number _ (number_index c)) = record {
    between = _;
    value = both g t k (record { marks = _; is = typed_op _ _ _ w.line (leads_loaded (stacked m us) s index there numeric_index) }) (nothing_done g t k _);
    counts = nothing_done g t k _;
    below = low;
  }
  coloured_loop us s _ low there (counts_pointer c sp args rs) =
      let between = topped m (pointer (length rs) ∷ us) (top_colour (colour_in s)) in record {
        between = between;
        value = both g t k (record { marks = _; is = typed_op _ _ _ w.line (leads_loaded (stacked m us) s (pointer (length rs)) there (numeric_pointer (length rs))) })
            (nothing_done g t k _);
        counts = record { marks = _; is = typed_op _ _ _ w.line (leads_pointed between s (pointer (length rs)) us refl (numeric_pointer (length rs)) (inl refl)) };
        below = low;
      }

  -- what stands for the colour of a part
  pub coloured : (d : ℕ) (us : List Shape) (e : Expression) → IsTyped forms w e → IsCounting (typed w e) →
      Goes us (expr_code w d e) (shape_of (typed w e) ∷ us) → Coloured us (expr_code w d e) (typed w e) (colour_at w e)
  coloured d us (number_expr z v) fine h f = coloured_number us z v fine
  coloured d us (access_expr n no_step) fine h f = of (bound w n).by_loop refl
    where
      of : (b : Bool) → (bound w n).by_loop ≡ b → Coloured us (expr_code w d (access_expr n no_step)) (bound w n).static_type (cond b (held_colour (bound w n).static_type (slot_named w n)) any_colour)
      of true loop = coloured_loop us (slot_named w n) (bound w n).static_type (subst (λ l. slot_named w n < l) (sym asked.ready.fixed)
          (slot_low w.params (bound w n).place (length w.scope.names) (named_low way w.params m.slots w.scope.names n asked.ready.named fine.0)))
          (named_at way w.params m.slots w.scope.names n asked.ready.named fine.0
          ∙ ap (λ c. Some (slot_shape (c || nat_lt (bound w n).place w.params) (shape_in way w.params (bound w n).static_type))) loop) h
      of false loop = coloured_any us _ (bound w n).static_type h f
  coloured d us (access_expr n (field_step a rest)) fine h f = coloured_any us _ _ h f
  coloured d us (access_expr n (at_step a rest)) fine h f = coloured_any us _ _ h f
  coloured d us (truth_expr b) fine h f = coloured_any us _ _ h f
  coloured d us (chain_expr a rest) fine h f = coloured_any us _ _ h f
  coloured d us (prefix_expr signs a) fine h f = coloured_any us _ _ h f
  coloured d us (call_expr a args) fine h f = coloured_any us _ _ h f
  coloured d us (convert_expr c a) fine h f = coloured_any us _ _ h f
  coloured d us (is_null_expr a) fine h f = coloured_any us _ _ h f
  coloured d us (null_expr p) fine h f = coloured_any us _ _ h f
  coloured d us (cast_expr p a) fine h f = coloured_any us _ _ h f
  coloured d us (space_expr c a) fine h f = coloured_any us _ _ h f

  module _ (n : Name) (keeps : forms.keeps ≡ true) (cut : IsCutName w n) where
    -- that region names itself
    pub parent_named : term_in (parent_bound w n).static_type ≡ term.Name (parent n)
    parent_named =
        let names = w.scope.names in
        let of = cut_of n keeps cut in
        own_named names (parent_bound w n).static_type (parent_bound w n).number (parent n) of.region
        (scoped_as names names (parent n) (ruled g t k slots forms way w m asked keeps).scoped of.region) (region_found names (parent n) of.region).1

    -- its shape in its slot
    pub parent_there : slice_get m.slots (slot_bound w (parent n))
        ≡ Some (region (Some (space_in (bound_as w.scope.names (parent n)).static_type)) (origin_in way w.params (term.Name (parent n))))
    parent_there =
        let names = w.scope.names in
        let of = cut_of n keeps cut in
        let r = ruled g t k slots forms way w m asked keeps in
        let b = bound_as names (parent n) in
        subst (λ v. slice_get m.slots (slot_bound w (parent n)) ≡ Some (region (Some (space_in b.static_type)) (origin_in v w.params (term.Name (parent n))))) (sym r.by)
        (region_as (by_rules r.tops r.task) w.params m.slots names (parent n) r.named of.region
        ∙ ap Some (own_shape r.tops r.task w.params names b.static_type b.number (parent n) (space_in b.static_type) of.region
        (scoped_as names names (parent n) r.scoped of.region) (region_found names (parent n) of.region).1 refl))

    -- its slot is one of those that stay
    pub under : slot_named w n < m.fixed
    under = subst (λ l. slot_named w n < l) (sym asked.ready.fixed)
        (slot_low w.params (bound w n).place (length w.scope.names) (named_low way w.params m.slots w.scope.names n asked.ready.named cut.named))

    -- so is that of the region of which it is
    parent_under : slot_bound w (parent n) < m.fixed
    parent_under = subst (λ l. slot_bound w (parent n) < l) (sym asked.ready.fixed)
        (slot_low w.params (bound_as w.scope.names (parent n)).place (length w.scope.names)
        (place_as way w.params m.slots w.scope.names (parent n) asked.ready.named (cut_of n keeps cut).region))

    -- the code that loads the partition
    pub cut_code : (d : ℕ) (us : List Shape) → Goes us (expr_code w d (access_expr n no_step))
        (cut_from None (is_disjoint (bound w n).static_type) (held_at (slot_bound w (parent n)) (origin_in way w.params (term.Name (parent n)))) ∷ us)
    cut_code d us =
        let of = cut_of n keeps cut in
        both g t k (subst (λ e. Goes us (one w (instr.Load (slot_named w n))) (cut_from None e (held_at (slot_bound w (parent n)) (origin_in way w.params (term.Name (parent n)))) ∷ us)) (sym of.is)
        (cut_loaded g t k w.line m (slot_named w n) (slot_bound w (parent n)) _ of.disjoint _ us (plain_origin way w.params (term.Name (parent n))) parent_under of.shape parent_there of.fact))
        (nothing_done g t k _)

    -- the code that takes a part
    pub part_taken : (d : ℕ) (us : List Shape) (u : StaticType) (e : Expression) → IsPartition u → IsCounting (typed w e) →
        ((pc : ℕ) → Stands t.body pc (expr_code w d e) → Goes us (expr_code w d e) (shape_of (typed w e) ∷ us)) → (pc : ℕ) →
        Stands t.body pc (load_code w u (slot_named w n) (at_step e no_step) ⨟ steps_code w d u (own_slot w u (bound w n).place) (at_step e no_step)) →
        Marked g t k (stacked m us) (load_code w u (slot_named w n) (at_step e no_step) ⨟ steps_code w d u (own_slot w u (bound w n).place) (at_step e no_step))
        (topped m (region (Some (space_in (bound_as w.scope.names (parent n)).static_type)) (within n) ∷ us) (top_at (child_in (slot_named w n) any_colour)))
    part_taken d us _ e (a_partition_type f r p) h marked pc st =
        let of = cut_of n keeps cut in
        both g t k (nothing_done g t k _)
        (both g t k (marked pc st.1.0) (both g t k (standing_counted g t k w m (typed w e) us h)
        (both g t k (taken_any_child g t k w.line m (slot_named w n) (slot_bound w (parent n)) _ of.disjoint _ _ us (counted_numeric _ h)
        (plain_origin way w.params (term.Name (parent n))) under of.shape parent_there of.fact)
        (both g t k (nothing_done g t k _) (nothing_done g t k _)))))

    pub part_code : (d : ℕ) (us : List Shape) (u : StaticType) (e : Expression) → IsPartition u → IsCounting (typed w e) →
        ((pc : ℕ) → Stands t.body pc (expr_code w d e) → Goes us (expr_code w d e) (shape_of (typed w e) ∷ us)) → (pc : ℕ) →
        Stands t.body pc (load_code w u (slot_named w n) (at_step e no_step) ⨟ steps_code w d u (own_slot w u (bound w n).place) (at_step e no_step)) →
        Goes us (load_code w u (slot_named w n) (at_step e no_step) ⨟ steps_code w d u (own_slot w u (bound w n).place) (at_step e no_step))
        (region (Some (space_in (bound_as w.scope.names (parent n)).static_type)) (within n) ∷ us)
    part_code d us u e is h marked pc st = into g t k (part_taken d us u e is h marked pc st)
        (λ x vs st q. record { slots = q.slots; stack = q.stack; facts = q.facts; top = tt; args = q.args }) refl

    -- a part of which the colour is known
    pub piece_taken : (d : ℕ) (us : List Shape) (u : StaticType) (e : Expression) (c : Colour) → IsPartition u → IsCounting (typed w e) →
        ((pc : ℕ) → Stands t.body pc (expr_code w d e) → Coloured us (expr_code w d e) (typed w e) c) → (pc : ℕ) →
        Stands t.body pc (load_code w u (slot_named w n) (at_step e no_step) ⨟ steps_code w d u (own_slot w u (bound w n).place) (at_step e no_step)) →
        Marked g t k (stacked m us) (load_code w u (slot_named w n) (at_step e no_step) ⨟ steps_code w d u (own_slot w u (bound w n).place) (at_step e no_step))
        (topped m (region (Some (space_in (bound_as w.scope.names (parent n)).static_type)) (within n) ∷ us) (top_at (child_in (slot_named w n) c)))
    piece_taken d us _ e c (a_partition_type f r p) h coloured pc st =
        let of = cut_of n keeps cut in
        let by = coloured pc st.1.0 in
        both g t k (nothing_done g t k _)
        (both g t k by.value (both g t k by.counts
        (both g t k (taken_piece g t k w.line m (slot_named w n) (slot_bound w (parent n)) _ of.disjoint c _ _ us (counted_numeric _ h)
        (plain_origin way w.params (term.Name (parent n))) under by.below of.shape parent_there of.fact)
        (both g t k (nothing_done g t k _) (nothing_done g t k _)))))

    -- one that is known to be the child by its colour
    pub child_code : (d : ℕ) (us : List Shape) (u : StaticType) (e : Expression) → IsPartition u → IsCounting (typed w e) →
        ((pc : ℕ) → Stands t.body pc (expr_code w d e) → Coloured us (expr_code w d e) (typed w e) (colour_at w e)) → (pc : ℕ) →
        Stands t.body pc (load_code w u (slot_named w n) (at_step e no_step) ⨟ steps_code w d u (own_slot w u (bound w n).place) (at_step e no_step)) →
        Goes us (load_code w u (slot_named w n) (at_step e no_step) ⨟ steps_code w d u (own_slot w u (bound w n).place) (at_step e no_step))
        (region (Some (space_in (bound_as w.scope.names (parent n)).static_type))
        (child_at (slot_named w n) (colour_at w e) (origin_in way w.params (term.Name (parent n)))) ∷ us)
    child_code d us _ e (a_partition_type f r p) h coloured pc st =
        let of = cut_of n keeps cut in
        let by = coloured pc st.1.0 in
        both g t k (nothing_done g t k _)
        (both g t k by.value (both g t k by.counts
        (both g t k (cut_child g t k w.line m (slot_named w n) (slot_bound w (parent n)) _ of.disjoint (colour_at w e) _ _ us (counted_numeric _ h)
        (plain_origin way w.params (term.Name (parent n))) under by.below of.shape parent_there of.fact)
        (both g t k (nothing_done g t k _) (nothing_done g t k _)))))
