-- For which colour stands what is written: where that is certain, it is seen.
use Rattle.std.proofs.Common.{◌≡◌, inl, inr, ℕ, ◌<◌, ℤ, pos, List, [], ◌∷◌, Bool, true, false, Some, refl, sym, ap, ◌∙◌, subst, arith}
use Rattle.std.specs.Prelude.{bytes_eq, cond, get_or, not, ◌||◌}
use Rattle.std.proofs.lemmas.Bool.{eq-eqb, false≢true, ne_eqb}
use Rattle.check_laws.specs.SoundScopes.{Falls}
use Rattle.regent_tree.specs.Facts.{is_unknown}
use Rattle.regent_tree.specs.Lookup.{is_bound}
use Rattle.regent_tree.specs.Running.{Here}
use Rattle.regent_tree.specs.Scopes.{bound_as, bound_to}
use Rattle.regent_tree.specs.Syntax.{Expression, Name, access_expr, at_step, call_expr, cast_expr, chain_expr, convert_expr, field_step, is_null_expr, no_step, null_expr, number_expr, prefix_expr, space_expr, truth_expr}
use Rattle.regent_tree.specs.Typing.{colour_of}
use Rattle.regent_tree.specs.Values.{Value}
use Rattle.regent_tree.specs.declared.facts.Colour.TheVariants.{Loop, Unknown}
use Rattle.regent_tree.specs.declared.typing.Bound.{Bound}
use Rattle.code_laws.specs.Coloured.{IsBoundIn, IsColour, point_of}
use Rattle.code_laws.specs.Standing.{nothing}
use Rattle.code_laws.proofs.Parts.{colour_seen}
use Rattle.code_laws.proofs.Pieced.{bound_there}

-- ---- bindings by their numbers

number_below : (next : ℕ) (bs : List Bound) (b : Bound) → Falls next bs → IsBoundIn bs b → b.number < next
number_below next [] b f h = absurd h
number_below next (c ∷ bs) b f (inl e) = subst (λ (b : Bound). b.number < next) e f.0
number_below next (c ∷ bs) b f (inr h) = let low = number_below c.number bs b f.1 h in let more = f.0 in omega (arith, low, more)

found_there : (next : ℕ) (bs : List Bound) (b : Bound) → Falls next bs → IsBoundIn bs b → bound_as bs b.number ≡ b
found_there next [] b f h = absurd h
found_there next (c ∷ bs) b f (inl e) = subst (λ (b : Bound). bound_as (c ∷ bs) b.number ≡ b) e (ap (λ d. cond d c (bound_as bs c.number)) (eq-eqb c.number c.number refl))
found_there next (c ∷ bs) b f (inr h) =
    let low = number_below c.number bs b f.1 h in
    ap (λ d. cond d c (bound_as bs b.number)) (ne_eqb c.number b.number (λ e. omega (arith, e, low))) ∙ found_there c.number bs b f.1 h

pub bound_once : (next : ℕ) (bs : List Bound) (b c : Bound) → Falls next bs → IsBoundIn bs b → IsBoundIn bs c → b.number ≡ c.number → b ≡ c
bound_once next bs b c f h k e = sym (found_there next bs b f h) ∙ ap (bound_as bs) e ∙ found_there next bs c f k

-- ---- colours

-- a name that a loop bound is bound
loop_bound : (bs : List Bound) (n : Name) → (bound_to bs n).by_loop ≡ true → is_bound bs n ≡ true
loop_bound [] n e = absurd (false≢true e)
loop_bound (b ∷ bs) n e = chosen (bytes_eq b.name n) (loop_bound bs n) e
  where
    chosen : (c : Bool) → ((bound_to bs n).by_loop ≡ true → is_bound bs n ≡ true) → (cond c b (bound_to bs n)).by_loop ≡ true → (c || is_bound bs n) ≡ true
    chosen true more e = refl
    chosen false more e = more e

-- what is seen of a colour is what is written
pub colour_written : (h : Here) (e : Expression) (names : List Value) (c : ℕ) → ((y : ℤ) → colour_seen h e names ≡ Some y → y ≡ pos c) →
    IsColour h.scope.names names (colour_of h.scope e) c
colour_written h (number_expr z w) names c seen = seen z refl
colour_written h (access_expr n no_step) names c seen = of (bound_to h.scope.names n).by_loop refl
  where
    b : Bound
    b = bound_to h.scope.names n

    of : (d : Bool) → b.by_loop ≡ d → IsColour h.scope.names names (cond d (Loop b.number) Unknown) c
    of true e = record {
      variable = b;
      there = bound_there h.scope.names n (loop_bound h.scope.names n e);
      number = refl;
      by_loop = e;
      is = seen (point_of (get_or names b.place nothing)) refl;
    }
    of false e = tt
colour_written h (access_expr n (field_step f rest)) names c seen = tt
colour_written h (access_expr n (at_step e rest)) names c seen = tt
colour_written h (truth_expr b) names c seen = tt
colour_written h (chain_expr first rest) names c seen = tt
colour_written h (prefix_expr signs e) names c seen = tt
colour_written h (call_expr task args) names c seen = tt
colour_written h (convert_expr t e) names c seen = tt
colour_written h (is_null_expr e) names c seen = tt
colour_written h (null_expr t) names c seen = tt
colour_written h (cast_expr t e) names c seen = tt
colour_written h (space_expr k e) names c seen = tt

-- and what is written is seen, where it is known
pub record IsSeen (h : Here) (e : Expression) (names : List Value) (c : ℕ) : Type 0 where
  pub number : ℤ
  pub seen : colour_seen h e names ≡ Some number
  pub is : number ≡ pos c

pub written_seen : (h : Here) (e : Expression) (names : List Value) (c : ℕ) → Falls h.scope.next h.scope.names → not (is_unknown (colour_of h.scope e)) ≡ true →
    IsColour h.scope.names names (colour_of h.scope e) c → IsSeen h e names c
written_seen h (number_expr z w) names c falls certain k = record { number = z; seen = refl; is = k }
written_seen h (access_expr n no_step) names c falls certain k = of (bound_to h.scope.names n).by_loop refl certain k
  where
    b : Bound
    b = bound_to h.scope.names n

    of : (d : Bool) → b.by_loop ≡ d → not (is_unknown (cond d (Loop b.number) Unknown)) ≡ true → IsColour h.scope.names names (cond d (Loop b.number) Unknown) c →
        IsSeen h (access_expr n no_step) names c
    of true e certain k =
        let same = bound_once h.scope.next h.scope.names k.variable b falls k.there (bound_there h.scope.names n (loop_bound h.scope.names n e)) k.number in
        record { number = point_of (get_or names b.place nothing); seen = refl; is = ap (λ (d : Bound). point_of (get_or names d.place nothing)) (sym same) ∙ k.is }
    of false e certain k = absurd (false≢true certain)
written_seen h (access_expr n (field_step f rest)) names c falls certain k = absurd (false≢true certain)
written_seen h (access_expr n (at_step e rest)) names c falls certain k = absurd (false≢true certain)
written_seen h (truth_expr b) names c falls certain k = absurd (false≢true certain)
written_seen h (chain_expr first rest) names c falls certain k = absurd (false≢true certain)
written_seen h (prefix_expr signs e) names c falls certain k = absurd (false≢true certain)
written_seen h (call_expr task args) names c falls certain k = absurd (false≢true certain)
written_seen h (convert_expr t e) names c falls certain k = absurd (false≢true certain)
written_seen h (is_null_expr e) names c falls certain k = absurd (false≢true certain)
written_seen h (null_expr t) names c falls certain k = absurd (false≢true certain)
written_seen h (cast_expr t e) names c falls certain k = absurd (false≢true certain)
written_seen h (space_expr k e) names c falls certain k2 = absurd (false≢true certain)
