-- Accesses through pointers: what the rules allow of a field that a name's pointer goes to is allowed in each region that
-- the pointer's type names, and the code that goes through has marks.
use Rattle.std.proofs.Common.{◌≡◌, ℕ, ◌<◌, List, [], ◌∷◌, map, true, false, ◌&&◌, cond, not, None, Some, refl, sym, ap, ◌∙◌, subst, arith}
use Rattle.std.specs.Prelude.{bytes_eq, length, slice_get}
use Rattle.std.specs.List.{list_all}
use Rattle.std.proofs.lemmas.Bool.{and_parts, false≢true, not-false}
use Rattle.std.proofs.lemmas.List.{length-map}
use Rattle.plain_values.proofs.Plain.{option_or_parts}
use Rattle.lane_kernels.specs.declared.numbers.Mode.{Mode}
use Rattle.lane_kernels.specs.declared.numbers.Mode.TheVariants as mode
use Rattle.lane_kernels.specs.declared.numbers.Width.{Width}
use Rattle.lane_kernels.specs.declared.numbers.Op.{Op}
use Rattle.lane_kernels.specs.Numbers.{width_of}
use Rattle.regent_tree.specs.Accesses.{space_in}
use Rattle.regent_tree.specs.Lookup.{has_field, is_bound}
use Rattle.regent_tree.specs.StaticTypes.{field_place, field_term, Reach, space_at}
use Rattle.regent_tree.specs.Syntax.{access_expr, assign_form, Expression, field_step, Name, no_step, Steps, TaskTree}
use Rattle.regent_tree.specs.Typing.{has_wild, reaches_of}
use Rattle.regent_tree.specs.declared.facts.Colour.{Colour}
use Rattle.regent_tree.specs.declared.facts.Term.TheVariants as term
use Rattle.regent_tree.specs.declared.rights.Access.{Access}
use Rattle.regent_tree.specs.declared.rights.Access.TheVariants as access
use Rattle.regent_tree.specs.declared.statement.How.TheVariants as how
use Rattle.regent_tree.specs.declared.types.Param.{Param}
use Rattle.regent_tree.specs.declared.typing.Bound.{Bound}
use Rattle.regent_tree.specs.declared.typing.StaticType.{StaticType}
use Rattle.regent_tree.specs.declared.typing.StaticType.TheVariants.{Pointer as pointer_type}
use Rattle.regent_tree.specs.Scopes.{bound_as}
use Rattle.task_code.specs.declared.code.TaskCode.{TaskCode}
use Rattle.task_code.specs.declared.instr.Instr.TheVariants as instr
use Rattle.check_rules.specs.first.FirstInExpressions.{first_in_expression, first_of_step, first_of_taking}
use Rattle.check_rules.specs.first.FirstInStatements.{first_of_form}
use Rattle.check_rules.specs.first.Rules.{rule_if}
use Rattle.check_rules.specs.rules.Privileges.{lacks, may_do, regions_named, rights_declared, wanted_of_step, wanting}
use Rattle.check_rules.specs.types.TypedForms.{field_of}
use Rattle.check_rules.specs.declared.rule.Rule.TheVariants as rule
use Rattle.check_rules.proofs.Untold.{rule_none}
use Rattle.code_rules.specs.Assignments.{put_code}
use Rattle.code_rules.specs.Instructions.{field_code, load_code, one}
use Rattle.code_rules.specs.Pieces.{◌⨟◌, Piece}
use Rattle.code_rules.specs.Slots.{beside, bound, own_slot, slot, slot_of_reach, slots_of, Where}
use Rattle.code_laws.specs.Pointers.{a_pointer_type, AreAims, AreThere, FieldKeeps, IsPointer}
use Rattle.code_laws.specs.Simple.{an_integer, IsInteger, IsRegion, a_region_type}
use Rattle.expression_laws.specs.Needs.{mode_of}
use Rattle.fit_rules.specs.Shapes.{Each, integer, Numeric, numeric_pointer, pointer, Shape}
use Rattle.fit_rules.specs.Marks.{Mark, stacked}
use Rattle.fit_rules.specs.Fits.{kind_at, Program, shape_at}
use Rattle.fit_rules.specs.Sound.{Allowed, does_load, does_read, does_reduce, does_write, settled_number}
use Rattle.sound_code.specs.Named.{AreNamed, HasPartBeside, IsPartBeside, parent_as}
use Rattle.sound_code.specs.Ways.{Tops, by_rules, shape_of}
use Rattle.sound_code.proofs.Asked.{Known}
use Rattle.sound_code.proofs.Combining.{both, does, Marked}
use Rattle.sound_code.proofs.Elements.{field_shape, kind_same}
use Rattle.sound_code.proofs.Granting.{allowed, allowed_part, term_in}
use Rattle.sound_code.proofs.Grounds.{HasFacts, Kept}
use Rattle.sound_code.proofs.Scoped.{Aims, AreScoped, IsScoped, placed_as, region_as, scoped_as}
use Rattle.sound_code.proofs.Wanting.{below_any, not_lacking}

own_term : (all : List Bound) (n : ℕ) (t : StaticType) → IsRegion t → IsScoped all n t → term_in t ≡ term.Name n
own_term all n _ (a_region_type k sp args r) h = h

module _ (w : Where) (task : TaskTree) where
  -- each region of a list may be touched so
  abbrev pub MayEach : List Reach → ℕ → Access → Type 0
  MayEach [] f a = Unit {0}
  MayEach (Some r ∷ rs) f a = (may_do (rights_declared w.tree task) w.scope.known (wanting f a r) ≡ true) × MayEach rs f a
  MayEach (None ∷ rs) f a = MayEach rs f a

  each_of : (rs : List Reach) (f : ℕ) (a : Access) →
      list_all (may_do (rights_declared w.tree task) w.scope.known) (map (wanting f a) (regions_named rs)) ≡ true → MayEach rs f a
  each_of [] f a h = tt
  each_of (Some r ∷ rs) f a h = let p = and_parts _ _ h in (p.0, each_of rs f a p.1)
  each_of (None ∷ rs) f a h = each_of rs f a h

  has_it : (sp : ℕ) (f : Name) → field_place w.tree sp f < length (space_at w.tree sp).fields → has_field w.tree sp f ≡ true
  has_it sp f l = below_any (λ (p : Param). bytes_eq p.name f) (space_at w.tree sp).fields l

  -- a pointer's field of which nothing is lacking
  pub may_each : (u : StaticType) (f : Name) (a : Access) → IsPointer u → has_wild (reaches_of u) ≡ false →
      field_place w.tree (space_in u) f < length (space_at w.tree (space_in u)).fields →
      lacks w.tree task w.scope (wanted_of_step w.tree a (field_of u f)) ≡ false → MayEach (reaches_of u) (field_place w.tree (space_in u) f) a
  may_each _ f a (a_pointer_type k sp args rs names) certain l none =
      each_of rs (field_place w.tree sp f) a
      (subst (λ b. list_all (may_do (rights_declared w.tree task) w.scope.known)
      (cond b (map (wanting (field_place w.tree sp f) a) (regions_named rs)) []) ≡ true)
      (ap (λ b. b && not (has_wild rs)) (has_it sp f l) ∙ ap not certain) (not-false _ none))

  -- one that is read, and one that is assigned or reduced
  pub may_read_through : (x f : Name) → IsPointer (bound w x).static_type → has_wild (reaches_of (bound w x).static_type) ≡ false →
      field_place w.tree (space_in (bound w x).static_type) f < length (space_at w.tree (space_in (bound w x).static_type)).fields →
      first_in_expression w.tree task w.scope (access_expr x (field_step f no_step)) ≡ None →
      MayEach (reaches_of (bound w x).static_type) (field_place w.tree (space_in (bound w x).static_type) f) access.Read
  may_read_through x f p certain l h =
      let u = (bound w x).static_type in
      let a = option_or_parts (rule_if (not (is_bound w.scope.names x)) rule.Name) _ h in
      let b = option_or_parts (first_of_step w.tree task w.scope (field_of u f)) _ a.1 in
      let c = option_or_parts (first_of_taking w.tree (field_of u f)) _ b.0 in
      may_each u f access.Read p certain l (rule_none _ rule.Read c.1)

  pub may_write_through : (x f : Name) (y : Expression) → IsPointer (bound w x).static_type → has_wild (reaches_of (bound w x).static_type) ≡ false →
      field_place w.tree (space_in (bound w x).static_type) f < length (space_at w.tree (space_in (bound w x).static_type)).fields →
      first_of_form w.tree task w.scope (assign_form x (field_step f no_step) how.Set y) ≡ None →
      MayEach (reaches_of (bound w x).static_type) (field_place w.tree (space_in (bound w x).static_type) f) access.Write
  may_write_through x f y p certain l h =
      may_each (bound w x).static_type f access.Write p certain l (not_lacking w.tree task w.scope (assign_form x (field_step f no_step) how.Set y) h).0

  pub may_reduce_through : (x f : Name) (o : Op) (y : Expression) → IsPointer (bound w x).static_type → has_wild (reaches_of (bound w x).static_type) ≡ false →
      field_place w.tree (space_in (bound w x).static_type) f < length (space_at w.tree (space_in (bound w x).static_type)).fields →
      first_of_form w.tree task w.scope (assign_form x (field_step f no_step) (how.Reduce o) y) ≡ None →
      MayEach (reaches_of (bound w x).static_type) (field_place w.tree (space_in (bound w x).static_type) f) (access.Reduce o)
  may_reduce_through x f o y p certain l h =
      may_each (bound w x).static_type f (access.Reduce o) p certain l (not_lacking w.tree task w.scope (assign_form x (field_step f no_step) (how.Reduce o) y) h).1

  -- so each access is allowed
  module _ (tops : Tops) (g : Program) (t : TaskCode) (m : Mark) (ep : w.params ≡ t.params) (known : Known (by_rules tops task) g w.tree)
      (kept : Kept t tops task w.tree w.params w.scope) (facts : HasFacts (by_rules tops task) w.tree m.facts)
      (named : AreNamed (by_rules tops task) w.params m.slots w.scope.names) (scoped : AreScoped w.scope.names w.scope.names) where
    allowed_each : (sp f own : ℕ) (a : Access) (us : List Shape) (rs : List Reach) → AreThere w.scope.names sp rs → has_wild rs ≡ false → MayEach rs f a →
        f < length (space_at w.tree sp).fields → Each (Allowed g t (stacked m us) sp f (mode_of a)) (map (slot_of_reach w own) rs)
    allowed_each sp f own a us [] there certain may l = tt
    allowed_each sp f own a us (Some (term.Name i) ∷ rs) there certain may l =
        let b = bound_as w.scope.names i in (
          subst (λ sq. Allowed g t (stacked m us) sq f (mode_of a) (slot w b.place)) there.2
              (allowed g t w.tree w.params w.scope m ep (by_rules tops task) known kept facts b.static_type b.place f a us there.1
              (region_as (by_rules tops task) w.params m.slots w.scope.names i named there.1) (placed_as w.params w.scope.names i kept.placed there.1)
              (subst (λ sq. f < length (space_at w.tree sq).fields) (sym there.2) l)
              (subst (λ r. may_do (rights_declared w.tree task) w.scope.known (wanting f a r) ≡ true)
              (sym (own_term w.scope.names b.number b.static_type there.1 (scoped_as w.scope.names w.scope.names i scoped there.1) ∙ ap term.Name there.0)) may.0)),
          allowed_each sp f own a us rs there.3 certain may.1 l,
        )
    allowed_each sp f own a us (Some (term.Child p c) ∷ rs) there certain may l = absurd there
    allowed_each sp f own a us (None ∷ rs) there certain may l = absurd (false≢true (sym certain))

    -- through a pointer that no name has, whose regions are in scope
    pub allowed_reached : (u : StaticType) (f own : ℕ) (a : Access) (us : List Shape) → IsPointer u → AreThere w.scope.names (space_in u) (reaches_of u) →
        has_wild (reaches_of u) ≡ false → MayEach (reaches_of u) f a → f < length (space_at w.tree (space_in u)).fields →
        Each (Allowed g t (stacked m us) (space_in u) f (mode_of a)) (slots_of w own u)
    allowed_reached _ f own a us (a_pointer_type k sp args rs aims) there certain may l = allowed_each sp f own a us rs there certain may l

    -- through the region of a part, which stands beside the pointer
    allowed_beside : (sp f place : ℕ) (a : Access) (us : List Shape) (p : ℕ) (c : Colour) →
        IsPartBeside (by_rules tops task) w.params m.slots place sp (bound_as w.scope.names p) (parent_as w.scope.names p) →
        may_do (rights_declared w.tree task) w.scope.known (wanting f a (term.Child p c)) ≡ true → f < length (space_at w.tree sp).fields →
        Allowed g t (stacked m us) sp f (mode_of a) (beside w place)
    allowed_beside sp f place a us p c h may l =
        allowed_part g t w.tree w.params w.scope m ep tops task known kept facts p c (beside w place) sp f a us h.is_partition h.shape l may

    pub allowed_through : (u : StaticType) (f place : ℕ) (a : Access) (us : List Shape) → IsPointer u → Aims w.scope.names (space_in u) (reaches_of u) →
        HasPartBeside (by_rules tops task) w.params m.slots w.scope.names place u → has_wild (reaches_of u) ≡ false → MayEach (reaches_of u) f a →
        f < length (space_at w.tree (space_in u)).fields → Each (Allowed g t (stacked m us) (space_in u) f (mode_of a)) (slots_of w (own_slot w u place) u)
    allowed_through _ f place a us (a_pointer_type k sp args rs aims) there part certain may l = by rs aims there part certain may
      where
        by : (rs : List Reach) → AreAims rs → Aims w.scope.names sp rs → HasPartBeside (by_rules tops task) w.params m.slots w.scope.names place (pointer_type k sp args rs) →
            has_wild rs ≡ false → MayEach rs f a → Each (Allowed g t (stacked m us) sp f (mode_of a)) (map (slot_of_reach w (beside w place)) rs)
        by [] aims there part certain may = tt
        by (Some (term.Name i) ∷ rs) aims there part certain may = allowed_each sp f (beside w place) a us (Some (term.Name i) ∷ rs) there certain may l
        by (Some (term.Child p c) ∷ rs) aims there part certain may =
            subst (λ qs. Each (Allowed g t (stacked m us) sp f (mode_of a)) (map (slot_of_reach w (beside w place)) (Some (term.Child p c) ∷ qs))) (sym aims)
            (allowed_beside sp f place a us p c part may.0 l, tt)
        by (None ∷ rs) aims there part certain may = allowed_each sp f (beside w place) a us (None ∷ rs) there certain may l

-- ---- code

module _ (g : Program) (t : TaskCode) (k : ℕ) (tops : Tops) (task : TaskTree) (w : Where) (m : Mark) (known : Known (by_rules tops task) g w.tree) (f : Name) (out : StaticType) where
  abbrev place_of : StaticType → ℕ
  place_of u = field_place w.tree (space_in u) f

  abbrev pub Allows : StaticType → ℕ → Mode → Type 0
  Allows u own a = (us : List Shape) → Each (Allowed g t (stacked m us) (space_in u) (place_of u) a) (slots_of w own u)

  -- the field is read that a pointer on the stack goes to
  pub field_read : (u : StaticType) (own : ℕ) (us : List Shape) → IsPointer u → FieldKeeps (field_term w.tree (space_in u) (place_of u)) out → Allows u own mode.Read →
      Marked g t k (stacked m (shape_of u ∷ us)) (field_code w u own f) (stacked m (shape_of out ∷ us))
  field_read _ own us (a_pointer_type c sp args rs names) keeps may =
      let n = length rs in
      let fp = field_place w.tree sp f in
      let us1 : List Shape = pointer n ∷ us in
      let long = length-map rs (slot_of_reach w own) in
      subst (λ y. Marked g t k (stacked m us1) (one w (instr.Read (map (slot_of_reach w own) rs) fp)) (stacked m (y ∷ us)))
      (field_shape g w.tree (by_rules tops task) known sp fp out keeps)
      (does g t k (stacked m us1) (instr.Read (map (slot_of_reach w own) rs) fp) w.line _
      (does_read (map (slot_of_reach w own) rs) fp sp n us (omega (arith, long), may us1)))

  -- a name's pointer is loaded, its field is read, and what stands behind goes on with that
  pub reads_through : (u : StaticType) (place own : ℕ) (rest : Steps) (p : Piece) (us vs : List Shape) → IsPointer u →
      slice_get m.slots (slot w place) ≡ Some (shape_of u) → FieldKeeps (field_term w.tree (space_in u) (place_of u)) out → Allows u own mode.Read →
      Marked g t k (stacked m (shape_of out ∷ us)) p (stacked m vs) →
      Marked g t k (stacked m us) (load_code w u (slot w place) (field_step f rest) ⨟ (field_code w u own f ⨟ p)) (stacked m vs)
  reads_through _ place own rest p us vs (a_pointer_type c sp args rs names) there keeps may more =
      let n = length rs in
      both g t k (does g t k (stacked m us) (instr.Load (slot w place)) w.line (pointer n ∷ us) (does_load (slot w place) (pointer n) us there (settled_number _ (numeric_pointer n)) tt))
      (both g t k (field_read (pointer_type c sp args rs) own us (a_pointer_type c sp args rs names) keeps may) more)

  pub writes_through : (u : StaticType) (own : ℕ) (us : List Shape) → IsPointer u → FieldKeeps (field_term w.tree (space_in u) (place_of u)) out → Allows u own mode.Write →
      Marked g t k (stacked m (shape_of u ∷ shape_of out ∷ us)) (put_code w u own f how.Set) (stacked m us)
  writes_through _ own us (a_pointer_type c sp args rs names) keeps may =
      let n = length rs in
      let fp = field_place w.tree sp f in
      let ss = map (slot_of_reach w own) rs in
      let us1 : List Shape = pointer n ∷ shape_of out ∷ us in
      let long = length-map rs (slot_of_reach w own) in
      subst (λ y. Marked g t k (stacked m us1) (one w (instr.Write ss fp (width_of y))) (stacked m us)) (kind_same g w.tree (by_rules tops task) known sp fp)
      (subst (λ y. Marked g t k (stacked m (pointer n ∷ y ∷ us)) (one w (instr.Write ss fp (width_of (kind_at g sp fp)))) (stacked m us))
      (field_shape g w.tree (by_rules tops task) known sp fp out keeps)
      (does g t k (stacked m (pointer n ∷ shape_at g sp fp ∷ us)) (instr.Write ss fp (width_of (kind_at g sp fp))) w.line us
      (does_write ss fp sp n us (omega (arith, long), may (pointer n ∷ shape_at g sp fp ∷ us)))))

  pub reduces_through : (u : StaticType) (own : ℕ) (o : Op) (a : Shape) (us : List Shape) → IsPointer u → IsInteger out → Numeric a →
      FieldKeeps (field_term w.tree (space_in u) (place_of u)) out → Allows u own (mode.Reduce o) →
      Marked g t k (stacked m (shape_of u ∷ a ∷ us)) (put_code w u own f (how.Reduce o)) (stacked m us)
  reduces_through _ own o a us (a_pointer_type c sp args rs names) io na keeps may =
      let n = length rs in
      let fp = field_place w.tree sp f in
      let ss = map (slot_of_reach w own) rs in
      let us1 : List Shape = pointer n ∷ a ∷ us in
      let long = length-map rs (slot_of_reach w own) in
      let wide = integer_shape out io in
      subst (λ y. Marked g t k (stacked m us1) (one w (instr.Reduce ss fp o (width_of y))) (stacked m us)) (kind_same g w.tree (by_rules tops task) known sp fp)
      (does g t k (stacked m us1) (instr.Reduce ss fp o (width_of (kind_at g sp fp))) w.line us
      (does_reduce ss fp sp n o wide.0 a us (field_shape g w.tree (by_rules tops task) known sp fp out keeps ∙ wide.1) na (omega (arith, long), may us1)))
    where
      integer_shape : (u : StaticType) → IsInteger u → (v : Width) × (shape_of u ≡ integer v)
      integer_shape _ (an_integer v) = (v, refl)
