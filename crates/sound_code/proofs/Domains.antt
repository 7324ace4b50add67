-- Over what loops go: index spaces, of which indices are taken, and regions that have names and parts of partitions, of which
-- pointers are taken. Of a part is known within which region it lies.
use Rattle.std.proofs.Common.{◌≡◌, inl, inr, ℕ, ◌+◌, List, [], ◌∷◌, Bool, true, false, Some, refl, sym, ap, ◌∙◌, subst, arith, ⊎_elim}
use Rattle.std.specs.Prelude.{length, slice_get}
use Rattle.std.proofs.lemmas.Bool.{false≢true, or_cases, and_parts}
use Rattle.regent_tree.specs.Accesses.{space_in}
use Rattle.regent_tree.specs.Scopes.{bound_as}
use Rattle.regent_tree.specs.Syntax.{access_expr, at_step, Expression, Name, no_step}
use Rattle.regent_tree.specs.Typing.{child_type, is_pointer, parent_of, taken_from, type_of_element}
use Rattle.regent_tree.specs.declared.facts.Colour.{Colour}
use Rattle.regent_tree.specs.declared.facts.Term.{Term}
use Rattle.regent_tree.specs.declared.facts.Term.TheVariants as term
use Rattle.regent_tree.specs.declared.typing.Bound.{Bound}
use Rattle.regent_tree.specs.declared.typing.StaticType.{StaticType}
use Rattle.regent_tree.specs.declared.typing.StaticType.TheVariants.{Integer as integer_type, Truth as truth_type, Index as index_type, Pointer as pointer_type, Ispace as ispace_type, Region as region_type, Partition as partition_type, Nothing as no_type, Unknown as unknown_type}
use Rattle.task_code.specs.declared.code.TaskCode.{TaskCode}
use Rattle.task_code.specs.declared.instr.Instr.TheVariants as instr
use Rattle.machine_terms.specs.declared.value.Value.{Value}
use Rattle.check_rules.specs.types.Sorts.{is_partition, is_region}
use Rattle.check_laws.proofs.Scopes.{found_by_number}
use Rattle.code_rules.specs.Expressions.{expr_code}
use Rattle.code_rules.specs.Instructions.{one}
use Rattle.code_rules.specs.Pieces.{Piece}
use Rattle.code_rules.specs.Slots.{bound, slot_named, typed, Where}
use Rattle.code_laws.specs.Arguments.{IsCutName}
use Rattle.code_laws.specs.Simple.{a_region_type, a_space_type, IsRegion, IsSpace, simple_index}
use Rattle.code_laws.specs.Standing.{Stands}
use Rattle.code_laws.specs.Steps.{Forms}
use Rattle.code_laws.specs.Typed.{IsIndexed, IsNamedRegion, IsOwnCut, IsOwnRegion, IsTyped, LoopsOverPart}
use Rattle.code_laws.proofs.Wider.{loops_over}
use Rattle.fit_laws.proofs.Lookup.{any_region}
use Rattle.fit_rules.specs.Shapes.{Are, are_more, index, is_number, is_region as is_region_value, IsPlainOrigin, Origin, part, pointer, region, Shape, space, unknown, World}
use Rattle.fit_rules.specs.Marks.{Mark, stacked}
use Rattle.fit_rules.specs.Fits.{Program}
use Rattle.fit_rules.specs.Sound.{does_load, settled_region}
use Rattle.sound_code.proofs.Placing.{named_as}
use Rattle.sound_code.proofs.SlotShapes.{partition_plain, pointer_plain, region_plain, slot_bare, slot_is, slot_numbered, slot_plain}
use Rattle.sound_code.specs.Named.{name_shape, slot_shape}
use Rattle.sound_code.specs.Named.{HasPartBeside, HasSlots, IsNumbered, IsOfNumber, IsPartBeside, parent_as, slot_at}
use Rattle.sound_code.proofs.WholeTasks.{is_whole_domain, is_whole_expression, names_region, takes_part}
use Rattle.sound_code.specs.Ways.{origin_in, shape_in, shape_of, Way}
use Rattle.sound_code.proofs.Asked.{Asked}
use Rattle.sound_code.proofs.Combining.{both, does, into, Marked, nothing_done}
use Rattle.sound_code.proofs.Parts.{parent_there, cut_of, IsCutOf, part_code}
use Rattle.sound_code.proofs.Numbering.{numbered_at}
use Rattle.sound_code.proofs.Placing.{named_at}
use Rattle.sound_code.proofs.Plain.{plain_origin}
use Rattle.sound_code.proofs.PointLoops.{IsDomain, regions, spaces}
use Rattle.sound_code.proofs.Statements.{value_marked}
use Rattle.sound_code.proofs.Taken.{Over}
use Rattle.sound_code.proofs.Told.{Told, told_at}
use Rattle.sound_code.proofs.Wholes.{Asks, index_whole, IsWorth, worth_pointer, worth_simple}

-- what is taken of a domain of a type, where names are in scope
pub record Takes (way : Way) (params : ℕ) (bs : List Bound) (u : StaticType) : Type 0 where
  pub D : Shape
  pub V : Shape
  pub ptr : Bool
  pub domain : IsDomain D V ptr
  pub is_ptr : is_pointer (taken_from u) ≡ ptr
  pub shape : shape_in way params (taken_from u) ≡ V
  pub worth : IsWorth (taken_from u)
  pub numbered : IsNumbered bs D × IsNumbered bs V
  pub beside : (ss : List Shape) → slice_get ss (slot_at params (length bs) + 2) ≡ Some D → HasPartBeside way params ss bs (length bs) (taken_from u)

module _ (way : Way) (params : ℕ) (bs : List Bound) where
  abbrev pub takes_indices : (u : StaticType) → IsSpace u → Takes way params bs u
  takes_indices _ (a_space_type c) = record {
    D = space;
    V = index;
    ptr = false;
    domain = spaces;
    is_ptr = refl;
    shape = refl;
    worth = worth_simple _ (simple_index c);
    numbered = (tt, tt);
    beside = λ ss e. tt;
  }

  -- of a region from anywhere
  abbrev pub takes_pointers : (u : StaticType) (o : Origin) → IsRegion u → IsOfNumber bs o → IsPlainOrigin o →
      ((ss : List Shape) → slice_get ss (slot_at params (length bs) + 2) ≡ Some (region (Some (space_in u)) o) →
      HasPartBeside way params ss bs (length bs) (taken_from u)) → Takes way params bs u
  takes_pointers _ o (a_region_type c sp args r) numbered plain beside = record {
    D = region (Some sp) o;
    V = pointer 1;
    ptr = true;
    domain = regions (Some sp) o plain;
    is_ptr = refl;
    shape = refl;
    worth = worth_pointer c sp args (Some r ∷ []) (omega arith);
    numbered = (numbered, tt);
    beside = beside;
  }

  -- a region that has a name is no part
  own_beside : (w : Where) (b : Bound) (u : StaticType) → IsRegion u → IsOwnRegion w b u → (ss : List Shape) → HasPartBeside way params ss bs (length bs) (taken_from u)
  own_beside w b _ (a_region_type c sp args r) own ss =
      subst (λ rs. HasPartBeside way params ss bs (length bs) (pointer_type c sp args rs)) (sym own.is) tt

  pub named_beside : (w : Where) (e : Expression) → IsNamedRegion w e → (ss : List Shape) → HasPartBeside way params ss bs (length bs) (taken_from (typed w e))
  named_beside w (access_expr n no_step) r ss = own_beside w (bound w n) (bound w n).static_type r.0 r.1 ss
  named_beside w _ r ss = absurd r

  -- beside what goes into a part stands the part
  child_beside : (ss : List Shape) (v : StaticType) (p : ℕ) (c : Colour) → IsRegion v → IsPartBeside way params ss (length bs) (space_in v) (bound_as bs p) (parent_as bs p) →
      HasPartBeside way params ss bs (length bs) (taken_from (child_type v (term.Child p c)))
  child_beside ss _ p c (a_region_type k sp args r) h = h

-- its space is that of the region of which the partition is
child_space : (v : StaticType) (t : Term) → IsRegion v → space_in (child_type v t) ≡ space_in v
child_space _ t (a_region_type k sp args r) = refl

-- ---- what is asked of a domain

-- a name that has an index space names no region, and takes no part
pub space_whole : (w : Where) (e : Expression) → IsSpace (typed w e) → is_whole_domain true w e ≡ true → is_whole_expression true w e ≡ true
space_whole w e s h = ⊎_elim (λ r. absurd (of_region_name e r s)) (λ h. ⊎_elim (λ p. absurd (of_part e p s)) (λ q. q) (or_cases (takes_part true w e) _ h))
    (or_cases (names_region w e) _ h)
  where
    no_space : (u : StaticType) → IsSpace u → is_region u ≡ true → ⊥
    no_space _ (a_space_type c) e = false≢true e

    of_region_name : (e : Expression) → names_region w e ≡ true → IsSpace (typed w e) → ⊥
    of_region_name (access_expr n no_step) r s = no_space _ s r
    of_region_name _ r s = false≢true r

    of_child : (u : StaticType) (t : Term) → IsSpace (child_type u t) → ⊥
    of_child (region_type k sp args r) t h = elim h [ ]
    of_child (integer_type w) t h = elim h [ ]
    of_child truth_type t h = elim h [ ]
    of_child (index_type k) t h = elim h [ ]
    of_child (pointer_type k sp args rs) t h = elim h [ ]
    of_child (ispace_type k) t h = elim h [ ]
    of_child (partition_type d r p) t h = elim h [ ]
    of_child no_type t h = elim h [ ]
    of_child unknown_type t h = elim h [ ]

    of_cut : (u : StaticType) (e : Expression) → is_partition u ≡ true → IsSpace (type_of_element w.scope u e) → ⊥
    of_cut (partition_type d r p) e q h = of_child (bound_as w.scope.names r).static_type _ h
    of_cut _ e q h = false≢true q

    of_part : (e : Expression) → takes_part true w e ≡ true → IsSpace (typed w e) → ⊥
    of_part (access_expr n (at_step e no_step)) p s = of_cut (bound w n).static_type e (and_parts _ _ p).0 s
    of_part _ p s = false≢true p

-- the colour of a part is asked for
part_whole : (w : Where) (n : Name) (e : Expression) → is_whole_domain true w (access_expr n (at_step e no_step)) ≡ true → is_whole_expression true w e ≡ true
part_whole w n e h = index_whole w n e h

module _ (g : Program) (t : TaskCode) (k slots : ℕ) (have : HasSlots t slots) (forms : Forms) (way : Way) (w : Where) (m : Mark)
    (asked : Asked g t k slots forms way w m) where
  abbrev Goes : List Shape → Piece → List Shape → Type 0
  Goes us p vs = Marked g t k (stacked m us) p (stacked m vs)

  abbrev Taken : Expression → Type 0
  Taken e = Takes way w.params w.scope.names (typed w e)

  any_origin : (sp o : _) → (x : World) (st : List Value) → Are x (region sp o ∷ []) st → Are x (region sp unknown ∷ []) st
  any_origin sp o x _ (are_more _ _ _ vs (is_region_value _ _ r h) a) = are_more _ _ _ vs (is_region_value sp unknown r (any_region x sp o r h)) a
  any_origin sp o x _ (are_more _ _ _ vs (is_number _ z h) a) = absurd h

  -- the region of a name
  loaded : (place : ℕ) (u : StaticType) → IsRegion u → slice_get m.slots place ≡ Some (shape_in way w.params u) →
      Goes [] (one w (instr.Load place)) (region (Some (space_in u)) unknown ∷ [])
  loaded place _ (a_region_type c sp args r) there = into g t k
      (does g t k (stacked m []) (instr.Load place) w.line _ (does_load place (region (Some sp) (origin_in way w.params r)) [] there (settled_region (Some sp) _) (plain_origin way w.params r)))
      (λ x vs st q. record { slots = q.slots; stack = any_origin (Some sp) (origin_in way w.params r) _ st q.stack; facts = q.facts; top = tt; args = q.args }) refl

  -- ---- parts

  abbrev parent : Name → ℕ
  parent n = parent_of (bound w n).static_type

  abbrev within : Name → Origin
  within n = part (origin_in way w.params (term.Name (parent n)))

  module _ (n : Name) (keeps : forms.keeps ≡ true) (cut : IsCutName w n) where
    of : IsCutOf w m n (parent n)
    of = cut_of g t k slots forms way w m asked n keeps cut

    -- the shape of a part
    abbrev pub part_shape : Shape
    part_shape = region (Some (space_in (bound_as w.scope.names (parent n)).static_type)) (within n)

    -- it is numbered by a name
    pub parent_numbered : IsOfNumber w.scope.names (within n)
    parent_numbered = numbered_at w.scope.names m.slots _ _ asked.ready.numbered (parent_there g t k slots forms way w m asked n keeps cut)

    pub part_beside : (e : Expression) → IsOwnCut w n → (ss : List Shape) →
        slice_get ss (slot_at w.params (length w.scope.names) + 2) ≡ Some (region (Some (space_in (bound_as w.scope.names (parent n)).static_type)) (within n)) →
        HasPartBeside way w.params ss w.scope.names (length w.scope.names) (taken_from (type_of_element w.scope (bound w n).static_type e))
    part_beside e own ss there =
        let names = w.scope.names in
        let found = (found_by_number w.scope.next names n cut.numbers cut.named).0 in
        subst (λ u. HasPartBeside way w.params ss names (length names) (taken_from (type_of_element w.scope u e))) (sym own)
        (child_beside way w.params names ss (bound_as names (parent n)).static_type (bound w n).number _ of.region
        (subst (λ (b : Bound). IsPartBeside way w.params ss (length names) (space_in (bound_as names (parent n)).static_type) b (bound_as names (parent_of b.static_type))) (sym found)
        (record { behind = asked.ready.low; is_partition = cut.partition; is_region = of.region; space = refl; shape = there })))

    -- the space of the part
    part_space : (e : Expression) → IsOwnCut w n → space_in (type_of_element w.scope (bound w n).static_type e) ≡ space_in (bound_as w.scope.names (parent n)).static_type
    part_space e own = ap (λ u. space_in (type_of_element w.scope u e)) own ∙ child_space (bound_as w.scope.names (parent n)).static_type _ of.region

    abbrev part_taken : (e : Expression) → IsOwnCut w n → IsRegion (typed w (access_expr n (at_step e no_step))) → Taken (access_expr n (at_step e no_step))
    part_taken e own is = takes_pointers way w.params w.scope.names (typed w (access_expr n (at_step e no_step))) (within n) is parent_numbered (plain_origin way w.params (term.Name (parent n)))
        (λ ss there. part_beside e own ss (subst (λ sp. slice_get ss (slot_at w.params (length w.scope.names) + 2) ≡ Some (region (Some sp) (within n))) (part_space e own) there))

  -- ---- domains

  -- a domain and its code
  pub record Domain (e : Expression) : Type 0 where
    pub taken : Taken e
    pub is : Goes [] (expr_code w 0 e) (taken.D ∷ [])

  pub domain_marked : (e : Expression) → Over forms.keeps w e (IsTyped forms w e) (IsIndexed forms w e) → Asks forms.keeps (is_whole_domain true w e) →
      Told way w.tree w.scope e → (pc : ℕ) → Stands t.body pc (expr_code w 0 e) → Domain e
  domain_marked e (inl o) whole told pc st = ⊎_elim of_space (of_region e o.1) (loops_over forms.keeps w e o.0)
    where
      space_domain : (u : StaticType) (is : IsSpace u) → Goes [] (expr_code w 0 e) (shape_of u ∷ []) →
          Goes [] (expr_code w 0 e) ((takes_indices way w.params w.scope.names u is).D ∷ [])
      space_domain _ (a_space_type c) f = f

      of_space : IsSpace (typed w e) → Domain e
      of_space s = record {
        taken = takes_indices way w.params w.scope.names (typed w e) s;
        is = space_domain (typed w e) s (value_marked g t k slots have forms way w m asked e [] o.1 (λ q. space_whole w e s (whole q)) told pc st);
      }

      region_domain : (u : StaticType) (is : IsRegion u) (ob : _) (b : _) (pl : _) (p : Piece) → Goes [] p (region (Some (space_in u)) unknown ∷ []) →
          Goes [] p ((takes_pointers way w.params w.scope.names u unknown is ob pl b).D ∷ [])
      region_domain _ (a_region_type c sp args r) ob b pl p f = f

      of_region : (e : Expression) → IsTyped forms w e → IsNamedRegion w e → Domain e
      of_region (access_expr x no_step) f r = record {
        taken = takes_pointers way w.params w.scope.names (bound w x).static_type unknown r.0 tt tt
            (λ ss there. named_beside way w.params w.scope.names w (access_expr x no_step) r ss);
        is = region_domain (bound w x).static_type r.0 tt _ tt _ (both g t k
            (loaded (slot_named w x) (bound w x).static_type r.0 (named_as way w.params m.slots w.scope.names x asked.ready.named f.0 (region_plain way w.params _ r.0))) (nothing_done g t k _));
      }
      of_region _ f r = absurd r
  domain_marked e (inr p) whole told pc st = of_part e p.0 p.1 whole told pc st
    where
      part_domain : (u : StaticType) (is : IsRegion u) (o : Origin) (ob : _) (pl : _) (b : _) (sp : ℕ) (p : Piece) → space_in u ≡ sp → Goes [] p (region (Some sp) o ∷ []) →
          Goes [] p ((takes_pointers way w.params w.scope.names u o is ob pl b).D ∷ [])
      part_domain _ (a_region_type c sq args r) o ob pl b sp p e f = subst (λ y. Goes [] p (region (Some y) o ∷ [])) (sym e) f

      of_part : (e : Expression) → forms.keeps ≡ true → LoopsOverPart w e (IsIndexed forms w e) → Asks forms.keeps (is_whole_domain true w e) →
          Told way w.tree w.scope e → (pc : ℕ) → Stands t.body pc (expr_code w 0 e) → Domain e
      of_part (access_expr n (at_step e no_step)) keeps p whole told pc st = record {
        taken = part_taken n keeps p.0 e p.1 p.2;
        is = part_domain (typed w (access_expr n (at_step e no_step))) p.2 (within n) _ _ _ _ _ (part_space n keeps p.0 e p.1)
            (part_code g t k slots forms way w m asked n keeps p.0 0 [] (bound w n).static_type e p.0.partition p.3.1
            (λ q s. value_marked g t k slots have forms way w m asked e [] p.3.0 (λ b. part_whole w n e (whole b)) (told_at w.tree w.scope way n e told) q s) pc st);
      }
      of_part _ keeps p whole told pc st = absurd p
