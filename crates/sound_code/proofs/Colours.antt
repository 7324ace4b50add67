-- The colours of parts, as marks know them: a number that is written, that of a loop's variable, or the point of one that is a
-- pointer, which stay in the loop's body. And the slots of names, which stay while something stands on the stack.
use Rattle.std.proofs.Common.{◌≡◌, ℕ, zero, suc, ◌<◌, ℤ, List, [], ◌∷◌, Bool, true, false, not, cond, Option, None, Some, refl, sym, ap, ◌∙◌, subst, arith, ◌≤◌}
use Rattle.std.specs.Prelude.{bytes_eq, length, slice_get, take, ◌||◌, ◌==◌}
use Rattle.std.proofs.lemmas.Bool.{false≢true, eqb-true, ne_eqb}
use Rattle.std.proofs.lemmas.Option.{same_Some}
use Rattle.regent_tree.specs.Lookup.{is_bound}
use Rattle.regent_tree.specs.Scopes.{bound_to, bound_as}
use Rattle.regent_tree.specs.Syntax.{access_expr, at_step, call_expr, cast_expr, chain_expr, convert_expr, Expression, field_step, is_null_expr, Name, no_step, null_expr, number_expr, prefix_expr, space_expr, truth_expr}
use Rattle.regent_tree.specs.Facts.{is_unknown}
use Rattle.regent_tree.specs.Typing.{colour_of}
use Rattle.regent_tree.specs.declared.facts.Colour.{Colour as WrittenColour}
use Rattle.regent_tree.specs.declared.facts.Colour.TheVariants.{Constant, Loop, Unknown}
use Rattle.regent_tree.specs.Values.{null_target, point_target, Target, target_kept}
use Rattle.regent_tree.specs.declared.typing.Bound.{Bound}
use Rattle.regent_tree.specs.declared.typing.StaticType.{StaticType}
use Rattle.regent_tree.specs.declared.typing.StaticType.TheVariants.{Integer as integer_type, Truth as truth_type, Index as index_type, Pointer as pointer_type, Ispace as ispace_type, Region as region_type, Partition as partition_type, Nothing as no_type, Unknown as unknown_type}
use Rattle.machine_terms.specs.declared.value.RegionValue.{RegionValue}
use Rattle.machine_terms.specs.declared.value.Value.{Value}
use Rattle.machine_terms.specs.declared.value.Value.TheVariants as value
use Rattle.machine_terms.specs.Regions.{coloured, partition_in}
use Rattle.code_rules.specs.Slots.{bound, slot_named, Where}
use Rattle.fit_rules.specs.Shapes.{any_colour, Colour, colour_in, HasColour, HasNumber, HasPoint, IsChild, IsPointOf, point_in, Shape, the_colour}
use Rattle.sound_code.specs.Named.{AreNamed, slot_at, IsLoopSlot, IsSteadyColour}
use Rattle.sound_code.specs.Ways.{Way}
use Rattle.check_laws.specs.SoundScopes.{Falls}
use Rattle.check_laws.proofs.Scopes.{found_by_number}
use Rattle.code_laws.specs.Coloured.{IsBoundIn}
use Rattle.code_laws.proofs.Pieced.{bound_there}

-- ---- colours

-- that of a variable in a slot
abbrev pub held_colour : StaticType → ℕ → Colour
held_colour (pointer_type k sp args rs) s = point_in s
held_colour u s = colour_in s

abbrev pub colour_at : Where → Expression → Colour
colour_at w (number_expr z v) = the_colour z
colour_at w (access_expr n no_step) = cond (bound w n).by_loop (held_colour (bound w n).static_type (slot_named w n)) any_colour
colour_at w e = any_colour

-- so by the number of a variable's binding
abbrev pub held_of : ℕ → List Bound → WrittenColour → Colour
held_of params bs (Constant z) = the_colour z
held_of params bs (Loop i) = held_colour (bound_as bs i).static_type (slot_at params (bound_as bs i).place)
held_of params bs Unknown = any_colour

-- where it is that of a loop's variable, this is in scope
abbrev pub IsLoopIn : List Bound → WrittenColour → Type 0
IsLoopIn bs (Constant z) = Unit {0}
IsLoopIn bs (Loop i) = (bound_as bs i).by_loop ≡ true
IsLoopIn bs Unknown = Unit {0}

-- the slot that a colour names is below a number
abbrev pub IsUnder : ℕ → Colour → Type 0
IsUnder n (the_colour z) = Unit {0}
IsUnder n (colour_in s) = s < n
IsUnder n (point_in s) = s < n
IsUnder n any_colour = Unit {0}

abbrev pub IsKnown : Colour → Type 0
IsKnown any_colour = ⊥
IsKnown c = Unit {0}

-- one that is known is one number
same_number : (y z : ℤ) (o : Option Value) → HasNumber y o → HasNumber z o → y ≡ z
same_number y z (Some (value.Number x)) h k = sym h ∙ k
same_number y z None h k = absurd h
same_number y z (Some (value.Space x)) h k = absurd h
same_number y z (Some (value.Region x)) h k = absurd h
same_number y z (Some (value.Partition x)) h k = absurd h
same_number y z (Some (value.Pending x)) h k = absurd h

one_point : (y z : ℤ) (o : Option Value) → HasPoint y o → HasPoint z o → y ≡ z
one_point y z (Some (value.Number x)) h k = of (target_kept x) h k
  where
    of : (a : Target) → IsPointOf y a → IsPointOf z a → y ≡ z
    of null_target h k = absurd h
    of (point_target n i) h k = sym h ∙ k
one_point y z None h k = absurd h
one_point y z (Some (value.Space x)) h k = absurd h
one_point y z (Some (value.Region x)) h k = absurd h
one_point y z (Some (value.Partition x)) h k = absurd h
one_point y z (Some (value.Pending x)) h k = absurd h

one_colour : (vs : List Value) (c : Colour) → IsKnown c → (y z : ℤ) → HasColour vs c y → HasColour vs c z → y ≡ z
one_colour vs (the_colour x) known y z h k = h ∙ sym k
one_colour vs (colour_in s) known y z h k = same_number y z (slice_get vs s) h k
one_colour vs (point_in s) known y z h k = one_point y z (slice_get vs s) h k
one_colour vs any_colour known y z h k = absurd known

-- and one child
pub one_child : (vs : List Value) (p : ℕ) (c : Colour) → IsKnown c → (r q : RegionValue) → IsChild vs p c r → IsChild vs p c q → r ≡ q
one_child vs p c known r q h k =
    let parts = same_Some h.parts k.parts (sym h.there ∙ k.there) in
    same_Some r q (sym h.child ∙ ap (coloured h.parts.children) (one_colour vs c known h.colour k.colour h.has_colour k.has_colour)
    ∙ subst (λ o. coloured o.children k.colour ≡ Some q) (sym parts) k.child)

-- ---- colours that are written

known_held : (u : StaticType) (s : ℕ) → IsKnown (held_colour u s)
known_held (pointer_type k sp args rs) s = tt
known_held (integer_type v) s = tt
known_held truth_type s = tt
known_held (index_type k) s = tt
known_held (ispace_type k) s = tt
known_held (region_type k sp args r) s = tt
known_held (partition_type d r p) s = tt
known_held no_type s = tt
known_held unknown_type s = tt

-- one that is certain is known
pub certain_known : (w : Where) (e : Expression) → not (is_unknown (colour_of w.scope e)) ≡ true → IsKnown (colour_at w e)
certain_known w (number_expr z v) h = tt
certain_known w (access_expr n no_step) h = of (bound w n).by_loop h
  where
    of : (b : Bool) → not (is_unknown (cond b (Loop (bound w n).number) Unknown)) ≡ true →
        IsKnown (cond b (held_colour (bound w n).static_type (slot_named w n)) any_colour)
    of true h = known_held (bound w n).static_type (slot_named w n)
    of false h = absurd (false≢true h)
certain_known w (access_expr n (field_step a rest)) h = absurd (false≢true h)
certain_known w (access_expr n (at_step a rest)) h = absurd (false≢true h)
certain_known w (truth_expr b) h = absurd (false≢true h)
certain_known w (chain_expr a rest) h = absurd (false≢true h)
certain_known w (prefix_expr signs a) h = absurd (false≢true h)
certain_known w (call_expr a args) h = absurd (false≢true h)
certain_known w (convert_expr c a) h = absurd (false≢true h)
certain_known w (is_null_expr a) h = absurd (false≢true h)
certain_known w (null_expr p) h = absurd (false≢true h)
certain_known w (cast_expr p a) h = absurd (false≢true h)
certain_known w (space_expr c a) h = absurd (false≢true h)

-- a name that a loop bound is bound
loop_bound : (bs : List Bound) (n : Name) → (bound_to bs n).by_loop ≡ true → is_bound bs n ≡ true
loop_bound [] n e = absurd (false≢true e)
loop_bound (b ∷ bs) n e = chosen (bytes_eq b.name n) (loop_bound bs n) e
  where
    chosen : (c : Bool) → ((bound_to bs n).by_loop ≡ true → is_bound bs n ≡ true) → (cond c b (bound_to bs n)).by_loop ≡ true → (c || is_bound bs n) ≡ true
    chosen true more e = refl
    chosen false more e = more e

-- what is written is known by the binding
abbrev IsHeld : Where → Expression → Type 0
IsHeld w e = IsLoopIn w.scope.names (colour_of w.scope e) × (colour_at w e ≡ held_of w.params w.scope.names (colour_of w.scope e))

pub colour_held : (w : Where) (e : Expression) → Falls w.scope.next w.scope.names → IsHeld w e
colour_held w (number_expr z v) falls = (tt, refl)
colour_held w (access_expr n no_step) falls = of (bound w n).by_loop refl
  where
    of : (b : Bool) → (bound w n).by_loop ≡ b → IsLoopIn w.scope.names (cond b (Loop (bound w n).number) Unknown)
        × (cond b (held_colour (bound w n).static_type (slot_named w n)) any_colour ≡ held_of w.params w.scope.names (cond b (Loop (bound w n).number) Unknown))
    of true e =
        let at = sym (found_by_number w.scope.next w.scope.names n falls (loop_bound w.scope.names n e)).0 in
        (subst (λ (b : Bound). b.by_loop ≡ true) at e, ap (λ (b : Bound). held_colour b.static_type (slot_at w.params b.place)) at)
    of false e = (tt, refl)
colour_held w (access_expr n (field_step a rest)) falls = (tt, refl)
colour_held w (access_expr n (at_step a rest)) falls = (tt, refl)
colour_held w (truth_expr b) falls = (tt, refl)
colour_held w (chain_expr a rest) falls = (tt, refl)
colour_held w (prefix_expr signs a) falls = (tt, refl)
colour_held w (call_expr a args) falls = (tt, refl)
colour_held w (convert_expr c a) falls = (tt, refl)
colour_held w (is_null_expr a) falls = (tt, refl)
colour_held w (null_expr p) falls = (tt, refl)
colour_held w (cast_expr p a) falls = (tt, refl)
colour_held w (space_expr c a) falls = (tt, refl)

-- it names no slot, or that of a loop's variable
held_steady : (params : ℕ) (bs : List Bound) (u : StaticType) (s : ℕ) → IsLoopSlot params bs s → IsSteadyColour params bs (held_colour u s)
held_steady params bs (pointer_type k sp args rs) s h = h
held_steady params bs (integer_type v) s h = h
held_steady params bs truth_type s h = h
held_steady params bs (index_type k) s h = h
held_steady params bs (ispace_type k) s h = h
held_steady params bs (region_type k sp args r) s h = h
held_steady params bs (partition_type d r p) s h = h
held_steady params bs no_type s h = h
held_steady params bs unknown_type s h = h

pub colour_steady : (w : Where) (e : Expression) → IsSteadyColour w.params w.scope.names (colour_at w e)
colour_steady w (number_expr z v) = tt
colour_steady w (access_expr n no_step) = of (bound w n).by_loop refl
  where
    of : (b : Bool) → (bound w n).by_loop ≡ b → IsSteadyColour w.params w.scope.names (cond b (held_colour (bound w n).static_type (slot_named w n)) any_colour)
    of true e = held_steady w.params w.scope.names (bound w n).static_type (slot_named w n)
        (record { variable = bound w n; there = bound_there w.scope.names n (loop_bound w.scope.names n e); by_loop = e; slot = refl })
    of false e = tt
colour_steady w (access_expr n (field_step a rest)) = tt
colour_steady w (access_expr n (at_step a rest)) = tt
colour_steady w (truth_expr b) = tt
colour_steady w (chain_expr a rest) = tt
colour_steady w (prefix_expr signs a) = tt
colour_steady w (call_expr a args) = tt
colour_steady w (convert_expr c a) = tt
colour_steady w (is_null_expr a) = tt
colour_steady w (null_expr p) = tt
colour_steady w (cast_expr p a) = tt
colour_steady w (space_expr c a) = tt

-- such a slot is below those behind the names
pub steady_under : (params : ℕ) (bs : List Bound) (c : Colour) → ((b : Bound) → IsBoundIn bs b → b.place < length bs) → IsSteadyColour params bs c →
    IsUnder (slot_at params (length bs)) c
steady_under params bs (the_colour z) low h = tt
steady_under params bs (colour_in s) low h = let l = low h.variable h.there in let same = h.slot in omega (arith, l, same)
steady_under params bs (point_in s) low h = let l = low h.variable h.there in let same = h.slot in omega (arith, l, same)
steady_under params bs any_colour low h = tt

-- behind one more name it is the same
loop_low : (next : ℕ) (bs : List Bound) (i : ℕ) → Falls next bs → (bound_as bs i).by_loop ≡ true → i < next
loop_low next [] i f e = absurd (false≢true e)
loop_low next (b ∷ bs) i f e = chosen (b.number == i) refl (loop_low b.number bs i f.1) e
  where
    chosen : (c : Bool) → (b.number == i) ≡ c → ((bound_as bs i).by_loop ≡ true → i < b.number) → (cond c b (bound_as bs i)).by_loop ≡ true → i < next
    chosen true same more e = let one = eqb-true b.number i same in let less = f.0 in omega (arith, one, less)
    chosen false same more e = let low = more e in let less = f.0 in omega (arith, low, less)

loop_same : (next : ℕ) (bs : List Bound) (b : Bound) (i : ℕ) → Falls next bs → next ≤ b.number → (bound_as bs i).by_loop ≡ true → bound_as bs i ≡ bound_as (b ∷ bs) i
loop_same next bs b i f new e =
    let low = loop_low next bs i f e in ap (λ c. cond c b (bound_as bs i)) (sym (ne_eqb b.number i (λ q. omega (arith, low, new, q))))

pub held_more : (params next : ℕ) (bs : List Bound) (b : Bound) (c : WrittenColour) → Falls next bs → next ≤ b.number → IsLoopIn bs c →
    IsLoopIn (b ∷ bs) c × (held_of params bs c ≡ held_of params (b ∷ bs) c)
held_more params next bs b (Constant z) f new h = (tt, refl)
held_more params next bs b (Loop i) f new h =
    let same = loop_same next bs b i f new h in (
      subst (λ (c : Bound). c.by_loop ≡ true) same h,
      ap (λ (c : Bound). held_colour c.static_type (slot_at params c.place)) same,
    )
held_more params next bs b Unknown f new h = (tt, refl)

-- ---- slots that stay

pub stays_at : (n : ℕ) (vs : List Value) (i : ℕ) → i < n → slice_get (take n vs) i ≡ slice_get vs i
stays_at zero vs i l = absurd (omega (arith, l))
stays_at (suc n) [] i l = refl
stays_at (suc n) (v ∷ vs) zero l = refl
stays_at (suc n) (v ∷ vs) (suc i) l = stays_at n vs i (omega (arith, l))

colour_taken : (n : ℕ) (vs : List Value) (c : Colour) (z : ℤ) → IsUnder n c → HasColour vs c z → HasColour (take n vs) c z
colour_taken n vs (the_colour x) z under h = h
colour_taken n vs (colour_in s) z under h = subst (HasNumber z) (sym (stays_at n vs s under)) h
colour_taken n vs (point_in s) z under h = subst (HasPoint z) (sym (stays_at n vs s under)) h
colour_taken n vs any_colour z under h = h

pub colour_untaken : (n : ℕ) (vs : List Value) (c : Colour) (z : ℤ) → IsUnder n c → HasColour (take n vs) c z → HasColour vs c z
colour_untaken n vs (the_colour x) z under h = h
colour_untaken n vs (colour_in s) z under h = subst (HasNumber z) (stays_at n vs s under) h
colour_untaken n vs (point_in s) z under h = subst (HasPoint z) (stays_at n vs s under) h
colour_untaken n vs any_colour z under h = h

-- a child by such slots
pub child_taken : (n : ℕ) (vs : List Value) (p : ℕ) (c : Colour) (r : RegionValue) → p < n → IsUnder n c → IsChild vs p c r → IsChild (take n vs) p c r
child_taken n vs p c r l under h = record {
  parts = h.parts;
  there = ap partition_in (stays_at n vs p l) ∙ h.there;
  colour = h.colour;
  has_colour = colour_taken n vs c h.colour under h.has_colour;
  child = h.child;
}

-- and as it was
pub child_there : (n : ℕ) (vs : List Value) (p : ℕ) → p < n → (c : Colour) (r : RegionValue) (h : IsChild (take n vs) p c r) → partition_in (slice_get vs p) ≡ Some h.parts
child_there n vs p l c r h = ap partition_in (sym (stays_at n vs p l)) ∙ h.there

-- the slot of a name is below those behind all names
pub named_low : (way : Way) (params : ℕ) (ss : List Shape) (bs : List Bound) (n : Name) → AreNamed way params ss bs → is_bound bs n ≡ true →
    (bound_to bs n).place < length bs
named_low way params ss [] n a h = absurd (false≢true h)
named_low way params ss (b ∷ bs) n a h = chosen (bytes_eq b.name n) (named_low way params ss bs n a.2) h
  where
    chosen : (c : Bool) → (is_bound bs n ≡ true → (bound_to bs n).place < length bs) → (c || is_bound bs n) ≡ true →
        (cond c b (bound_to bs n)).place < length (b ∷ bs)
    chosen true more e = omega (arith, a.0)
    chosen false more e = let l = more e in omega (arith, l)

pub slot_low : (params p n : ℕ) → p < n → slot_at params p < slot_at params n
slot_low params p n l = omega (arith, l)
