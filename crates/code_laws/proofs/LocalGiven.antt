-- Regions that are given to parameters: each is a name's, or a part of a name's partition; and colours that are written alike.
use Rattle.std.proofs.Common.{◌≡◌, ℕ, zero, suc, ℤ, pos, Bool, List, [], ◌∷◌, true, false, ◌⊎◌, ⊎_elim, inl, inr, Option, Some, refl, ap, sym, subst, ◌∙◌}
use Rattle.std.specs.Prelude.{bytes_eq, cond, not, ◌||◌}
use Rattle.std.proofs.lemmas.Slice.Eq.{bytes_eq-Decides}
use Rattle.lane_kernels.specs.declared.numbers.Width.{Width}
use Rattle.regent_tree.specs.Facts.{is_unknown}
use Rattle.regent_tree.specs.Lookup.{is_bound}
use Rattle.regent_tree.specs.Scopes.{Scope, bound_as, bound_to}
use Rattle.regent_tree.specs.Syntax.{Expression, Expressions, Name, access_expr, an_expr, at_step, call_expr, cast_expr, chain_expr, convert_expr, field_step, is_null_expr, no_expr, no_step, null_expr, number_expr, prefix_expr, space_expr, truth_expr}
use Rattle.regent_tree.specs.Typing.{colour_named, colour_of, child_type, is_disjoint, parent_of}
use Rattle.regent_tree.specs.declared.facts.Colour.{Colour}
use Rattle.regent_tree.specs.declared.facts.Colour.TheVariants.{Constant, Loop, Unknown}
use Rattle.regent_tree.specs.declared.facts.Term.{Term}
use Rattle.regent_tree.specs.declared.facts.Term.TheVariants as term
use Rattle.regent_tree.specs.declared.typing.Bound.{Bound}
use Rattle.regent_tree.specs.declared.typing.StaticType.{StaticType}
use Rattle.regent_tree.specs.declared.typing.StaticType.TheVariants.{Partition as partition_type}
use Rattle.check_laws.proofs.Scopes.{found_by_number}
use Rattle.check_laws.specs.SoundScopes.{Falls}
use Rattle.check_rules.specs.types.Sorts.{is_region, type_at}
use Rattle.code_rules.specs.Slots.{Where, bound, typed}
use Rattle.code_laws.specs.Arguments.{AreOneColour, IsCutName, IsHanded, IsHandedPart, name_at, name_of, one_name, one_number, part_at, part_of, parent_bound}
use Rattle.code_laws.specs.Pointers.{Passes, passes_plain, passes_pointer}
use Rattle.code_laws.specs.Simple.{IsPartition, a_partition_type, AreRegions, IsSimple, IsRegion, a_region_type, simple_index, simple_integer, simple_space, simple_truth, term_in}
use Rattle.code_laws.specs.Steps.{Forms, Taking}
use Rattle.code_laws.specs.Typed.{ArePassed, IsIndexed, IsPassed, IsTyped}
use Rattle.code_laws.proofs.Arguments.{IsCutArgument, IsPartArgument, handed_name, handed_part}
use Rattle.code_laws.proofs.Typing.{no_way_back}
use Rattle.code_laws.proofs.Wider.{into_simple, passing}

simple_sort : (t : StaticType) → IsSimple t → is_region t ≡ true → ⊥
simple_sort _ (simple_integer w) e = no_way_back e
simple_sort _ simple_truth e = no_way_back e
simple_sort _ (simple_space k) e = no_way_back e
simple_sort _ (simple_index k) e = no_way_back e

cut_sort : (t : StaticType) → IsPartition t → is_region t ≡ true → ⊥
cut_sort _ (a_partition_type d r own) e = no_way_back e

-- what is given so is no region
passed_sort : (t u p : StaticType) → Passes t u p → is_region p ≡ true → ⊥
passed_sort t _ _ (passes_plain _ u goes) e = simple_sort u (into_simple t u goes) e
passed_sort _ _ _ (passes_pointer _ k sp args brgs rs qs n same) e = no_way_back e

-- a name is that of what it is bound to
bound_name : (bs : List Bound) (n : Name) → is_bound bs n ≡ true → (bound_to bs n).name ≡ n
bound_name [] n e = absurd (no_way_back e)
bound_name (b ∷ bs) n e = chosen (bytes_eq b.name n) refl e (bound_name bs n)
  where
    chosen : (c : Bool) → bytes_eq b.name n ≡ c → (c || is_bound bs n) ≡ true → (is_bound bs n ≡ true → (bound_to bs n).name ≡ n) →
        (cond c b (bound_to bs n)).name ≡ n
    chosen true q e more = (bytes_eq-Decides b.name n).0 q
    chosen false q e more = more e

-- ---- arguments

-- an argument that is the name of a region
pub record IsHandedAt (w : Where) (es : Expressions) (k : ℕ) (p : StaticType) : Type 0 where
  pub name : Name
  pub at : name_at es k ≡ Some name
  pub there : is_bound w.scope.names name ≡ true
  pub regions : AreRegions (bound w name).static_type p

-- or a part of a name's partition
pub record IsPartAt (forms : Forms) (w : Where) (es : Expressions) (k : ℕ) (p : StaticType) : Type 0 where
  pub name : Name
  pub index : Expression
  pub at : part_at es k ≡ Some (name, index)
  pub keeps : forms.keeps ≡ true
  pub cut : IsCutName w name
  pub regions : AreRegions (typed w (access_expr name (at_step index no_step))) p
  pub indexed : IsTyped forms w index

part_keeps : (keeps : Bool) (o : Option Taking) (w : Where) (t p : StaticType) (e : Expression) (Part : Type 0) → IsHandedPart keeps o w t p e Part → keeps ≡ true
part_keeps false o w t p e Part h = absurd h
part_keeps true o w t p e Part h = refl

module _ (forms : Forms) (y : Taking) (takes : forms.takes ≡ Some y) (w : Where) where
  abbrev pub IsGivenAt : Expressions → ℕ → StaticType → Type 0
  IsGivenAt es k p = IsHandedAt w es k p ⊎ IsPartAt forms w es k p

  handed_first : (t p : StaticType) (e : Expression) (es : Expressions) → is_region p ≡ true →
      IsPassed forms w t p e (IsTyped forms w e) (IsIndexed forms w e) → IsGivenAt (an_expr e es) 0 p
  handed_first t p e es region (inl c) = absurd (passed_sort (typed w e) t p (passing forms.keeps (typed w e) t p c.0) region)
  handed_first t p e es region (inr (inl h)) =
      let n = handed_name y w t p e (subst (λ o. IsHanded o w t p e) takes h) in
      inl (record { name = n.0; at = ap name_of n.1; there = n.2; regions = n.4 })
  handed_first t p e es region (inr (inr h)) = ⊎_elim
      (λ (a : IsPartArgument forms.takes w t p e (IsIndexed forms w e)). inr (record {
        name = a.name;
        index = a.index;
        at = ap part_of a.is;
        keeps = part_keeps forms.keeps forms.takes w t p e (IsIndexed forms w e) h;
        cut = a.cut;
        regions = subst (λ e. AreRegions (typed w e) p) a.is a.regions;
        indexed = (subst (IsIndexed forms w) a.is a.part).0;
      }))
      (λ (a : IsCutArgument forms.takes w t p e). absurd (cut_sort p a.partition region)) (handed_part forms.keeps forms.takes w t p e (IsIndexed forms w e) h)

  handed_later : (e : Expression) (es : Expressions) (k : ℕ) (p : StaticType) → IsGivenAt es k p → IsGivenAt (an_expr e es) (suc k) p
  handed_later e es k p (inl h) = inl (record { name = h.name; at = h.at; there = h.there; regions = h.regions })
  handed_later e es k p (inr h) = inr (record {
    name = h.name;
    index = h.index;
    at = h.at;
    keeps = h.keeps;
    cut = h.cut;
    regions = h.regions;
    indexed = h.indexed;
  })

  pub handed_at : (ts ps : List StaticType) (es : Expressions) → ArePassed forms w ts ps es → (k : ℕ) → is_region (type_at ps k) ≡ true →
      IsGivenAt es k (type_at ps k)
  handed_at [] [] no_expr a k e = absurd (no_way_back e)
  handed_at (t ∷ ts) (p ∷ ps) (an_expr e es) a zero region = handed_first t p e es region a.0
  handed_at (t ∷ ts) (p ∷ ps) (an_expr e es) a (suc k) region = handed_later e es k (type_at ps k) (handed_at ts ps es a.1 k region)
  handed_at [] [] (an_expr e es) a k region = absurd a
  handed_at [] (p ∷ ps) es a k region = absurd a
  handed_at (t ∷ ts) [] es a k region = absurd a
  handed_at (t ∷ ts) (p ∷ ps) no_expr a k region = absurd a

-- ---- parts

-- a partition's name: its number, its parent, and what stands for a part of it
pub record IsCutBy (w : Where) (n : Name) : Type 0 where
  pub is : (bound w n).static_type ≡ partition_type (is_disjoint (bound w n).static_type) (parent_of (bound w n).static_type) (bound w n).number
  pub parent : IsRegion (parent_bound w n).static_type
  pub named : term_in (parent_bound w n).static_type ≡ term.Name (parent_of (bound w n).static_type)
  pub part : (e : Expression) → term_in (typed w (access_expr n (at_step e no_step))) ≡ term.Child (bound w n).number (colour_of w.scope e)
  pub like : (e : Expression) → IsRegion (typed w (access_expr n (at_step e no_step)))

pub child_term : (t : StaticType) (r : Term) → IsRegion t → IsRegion (child_type t r) × (term_in (child_type t r) ≡ r)
child_term _ r (a_region_type k sp args q) = (a_region_type k sp args r, refl)

-- ---- colours

-- names that are bound with one number are one
pub same_name : (w : Where) → Falls w.scope.next w.scope.names → (a b : Name) → is_bound w.scope.names a ≡ true → is_bound w.scope.names b ≡ true →
    (bound w a).number ≡ (bound w b).number → a ≡ b
same_name w falls a b ha hb equal =
    sym (bound_name w.scope.names a ha)
    ∙ ap (λ (c : Bound). c.name)
    (sym (found_by_number w.scope.next w.scope.names a falls ha).0 ∙ ap (bound_as w.scope.names) equal
    ∙ (found_by_number w.scope.next w.scope.names b falls hb).0)
    ∙ bound_name w.scope.names b hb

-- how a colour is written
data IsColourOf (s : Scope) (e : Expression) : Type 0 where
  by_number : (z : ℤ) (v : Width) → e ≡ number_expr z v → IsColourOf s e
  by_name : (n : Name) → e ≡ access_expr n no_step → IsColourOf s e
  by_other : colour_of s e ≡ Unknown → IsColourOf s e

colour_is : (s : Scope) (e : Expression) → IsColourOf s e
colour_is s (number_expr z v) = by_number z v refl
colour_is s (access_expr n no_step) = by_name n refl
colour_is s (access_expr n (field_step _ _)) = by_other refl
colour_is s (access_expr n (at_step _ _)) = by_other refl
colour_is s (truth_expr _) = by_other refl
colour_is s (chain_expr _ _) = by_other refl
colour_is s (prefix_expr _ _) = by_other refl
colour_is s (call_expr _ _) = by_other refl
colour_is s (convert_expr _ _) = by_other refl
colour_is s (is_null_expr _) = by_other refl
colour_is s (null_expr _) = by_other refl
colour_is s (cast_expr _ _) = by_other refl
colour_is s (space_expr _ _) = by_other refl

abbrev IsConstant : Colour → Type 0
IsConstant (Constant z) = Unit {0}
IsConstant (Loop i) = ⊥
IsConstant Unknown = ⊥

abbrev IsLoop : Colour → Type 0
IsLoop (Constant z) = ⊥
IsLoop (Loop i) = Unit {0}
IsLoop Unknown = ⊥

abbrev constant_in : Colour → ℤ
constant_in (Constant z) = z
constant_in (Loop i) = pos 0
constant_in Unknown = pos 0

abbrev loop_in : Colour → ℕ
loop_in (Constant z) = 0
loop_in (Loop i) = i
loop_in Unknown = 0

-- the colour of a name is a loop's, or unknown
named_loop : (b : Bound) → not (is_unknown (colour_named b)) ≡ true → colour_named b ≡ Loop b.number
named_loop b e = by b.by_loop e
  where
    by : (c : Bool) → not (is_unknown (cond c (Loop b.number) Unknown)) ≡ true → cond c (Loop b.number) Unknown ≡ Loop b.number
    by true e = refl
    by false e = absurd (no_way_back e)

-- colours that are written alike, and stand for one colour
pub one_colour : (forms : Forms) (w : Where) → Falls w.scope.next w.scope.names → (e f : Expression) → IsTyped forms w e → IsTyped forms w f →
    colour_of w.scope e ≡ colour_of w.scope f → not (is_unknown (colour_of w.scope e)) ≡ true → AreOneColour e f
one_colour forms w falls e f te tf same sure = by (colour_is w.scope e) (colour_is w.scope f)
  where
    s : Scope
    s = w.scope

    loop : (n : Name) → colour_of s e ≡ colour_named (bound w n) → colour_named (bound w n) ≡ Loop (bound w n).number
    loop n d = named_loop (bound w n) (ap (λ c. not (is_unknown c)) (sym d) ∙ sure)

    by : IsColourOf s e → IsColourOf s f → AreOneColour e f
    by (by_other u) d = absurd (no_way_back (ap (λ c. not (is_unknown c)) (sym u) ∙ sure))
    by (by_number z v p) (by_other u) = absurd (no_way_back (ap (λ c. not (is_unknown c)) (sym (same ∙ u)) ∙ sure))
    by (by_name n p) (by_other u) = absurd (no_way_back (ap (λ c. not (is_unknown c)) (sym (same ∙ u)) ∙ sure))
    by (by_number z v p) (by_number y u q) =
        let equal : z ≡ y = ap constant_in (ap (colour_of s) (sym p) ∙ same ∙ ap (colour_of s) q) in
        subst (λ e. AreOneColour e f) (sym p) (subst (AreOneColour (number_expr z v)) (sym q)
        (subst (λ y. AreOneColour (number_expr z v) (number_expr y u)) equal (one_number z v u)))
    by (by_number z v p) (by_name n q) =
        let d = same ∙ ap (colour_of s) q in
        absurd (subst IsConstant (ap (colour_of s) (sym p) ∙ d ∙ loop n d) tt)
    by (by_name n p) (by_number z v q) =
        absurd (subst IsLoop (sym (loop n (ap (colour_of s) p)) ∙ ap (colour_of s) (sym p) ∙ same ∙ ap (colour_of s) q) tt)
    by (by_name n p) (by_name k q) =
        let d = same ∙ ap (colour_of s) q in
        let equal : (bound w n).number ≡ (bound w k).number =
        ap loop_in (sym (loop n (ap (colour_of s) p)) ∙ ap (colour_of s) (sym p) ∙ d ∙ loop k d) in
        let one = same_name w falls n k (subst (IsTyped forms w) p te).0 (subst (IsTyped forms w) q tf).0 equal in
        subst (λ e. AreOneColour e f) (sym p) (subst (AreOneColour (access_expr n no_step)) (sym q)
        (subst (λ k. AreOneColour (access_expr n no_step) (access_expr k no_step)) one (one_name n)))
