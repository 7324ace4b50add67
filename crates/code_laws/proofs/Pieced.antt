-- A region that is the part of a colour stays so where what is assigned is neither a partition nor the variable of a loop.
use Rattle.std.proofs.Common.{◌≡◌, inl, inr, List, [], ◌∷◌, Bool, true, false, refl, sym, ap, ◌∙◌, arith, ◌<◌, Option, None, Some}
use Rattle.std.specs.Prelude.{bytes_eq, cond, get_or, ◌||◌, length, slice_set}
use Rattle.std.proofs.lemmas.Bool.{false≢true}
use Rattle.regent_tree.specs.Lookup.{is_bound}
use Rattle.regent_tree.specs.Scopes.{bound_to}
use Rattle.regent_tree.specs.Syntax.{Name}
use Rattle.regent_tree.specs.Values.{Partition, Value, a_partition}
use Rattle.regent_tree.specs.declared.typing.Bound.{Bound}
use Rattle.regent_tree.specs.declared.typing.StaticType.{StaticType}
use Rattle.code_laws.specs.Coloured.{IsBoundIn}
use Rattle.code_laws.specs.Pointers.{IsPointer, a_pointer_type}
use Rattle.code_laws.specs.Simple.{IsSimple, simple_index, simple_integer, simple_space, simple_truth}
use Rattle.code_laws.specs.Standing.{AreOf, IsOf, nothing, of_index, of_integer, of_pointer, of_space, of_truth, AreUnder}
use Rattle.code_laws.proofs.Under.{IsFixed, place_below, under_set}
use Rattle.code_laws.proofs.Values.{not_true}
use Rattle.code_laws.specs.Steps.{Taking}
use Rattle.code_laws.specs.Taking.{MayChange}
use Rattle.code_laws.proofs.Pointing.{IsNoRegion}

-- ---- what is assigned

abbrev pub IsNoPartition : Value → Type 0
IsNoPartition v = (q : Partition) → v ≡ a_partition q → ⊥

pub simple_uncut : (t : StaticType) (v : Value) → IsSimple t → IsOf t v → IsNoPartition v
simple_uncut _ _ (simple_integer w) (of_integer _ z p) q e = absurd cc
simple_uncut _ _ simple_truth (of_truth b) q e = absurd cc
simple_uncut _ _ (simple_space k) (of_space _ n p) q e = absurd cc
simple_uncut _ _ (simple_index k) (of_index _ z p) q e = absurd cc

pub pointer_uncut : (t : StaticType) (v : Value) → IsPointer t → IsOf t v → IsNoPartition v
pointer_uncut _ _ (a_pointer_type k sp args rs n) (of_pointer _ _ _ _ tg us o) q e = absurd cc

-- a name is bound among others
pub bound_there : (bs : List Bound) (n : Name) → is_bound bs n ≡ true → IsBoundIn bs (bound_to bs n)
bound_there [] n h = absurd (not_true h)
bound_there (b ∷ bs) n h = chosen (bytes_eq b.name n) (bound_there bs n) h
  where
    chosen : (c : Bool) → (is_bound bs n ≡ true → IsBoundIn bs (bound_to bs n)) → (c || is_bound bs n) ≡ true → IsBoundIn (b ∷ bs) (cond c b (bound_to bs n))
    chosen true more e = inl refl
    chosen false more e = inr (more e)

-- two that have one place are one
one_place : (bs : List Bound) (names : List Value) (b c : Bound) → AreOf IsOf bs names → IsBoundIn bs b → IsBoundIn bs c → b.place ≡ c.place → b ≡ c
one_place [] names b c o h k e = absurd h
one_place (d ∷ bs) names b c o (inl f) (inl g) e = sym f ∙ g
one_place (d ∷ bs) names b c o (inl f) (inr k) e =
    let low = place_below bs names c o.2 k in let same = ap (λ (x : Bound). x.place) f in absurd (omega (arith, low, o.0, same, e))
one_place (d ∷ bs) names b c o (inr h) (inl g) e =
    let low = place_below bs names b o.2 h in let same = ap (λ (x : Bound). x.place) g in absurd (omega (arith, low, o.0, same, e))
one_place (d ∷ bs) names b c o (inr h) (inr k) e = one_place bs names b c o.2 h k e

-- what is assigned is none of those that stay
not_fixed : (bs : List Bound) (names : List Value) (n : Name) → is_bound bs n ≡ true → (bound_to bs n).by_loop ≡ false →
    IsNoPartition (get_or names (bound_to bs n).place nothing) → AreOf IsOf bs names →
    (b : Bound) → IsBoundIn bs b → IsFixed b (get_or names b.place nothing) → b.place ≡ (bound_to bs n).place → ⊥
not_fixed bs names n h free uncut o b there (inl loop) e =
    let same = one_place bs names b (bound_to bs n) o there (bound_there bs n h) e in
    absurd (false≢true (sym free ∙ sym (ap (λ (c : Bound). c.by_loop) same) ∙ loop))
not_fixed bs names n h free uncut o b there (inr cut) e = uncut cut.0 (ap (λ k. get_or names k nothing) (sym e) ∙ cut.1)

under_none : (bs : List Bound) (names : List Value) → AreUnder None bs names
under_none [] names = tt
under_none (b ∷ bs) names = (tt, under_none bs names)

-- so regions that began as parts are what they were
pub under_changed : (takes : Option Taking) (bs : List Bound) (names : List Value) (n : Name) (v : Value) → is_bound bs n ≡ true →
    MayChange takes (bound_to bs n).by_loop → IsNoPartition (get_or names (bound_to bs n).place nothing) → (bound_to bs n).place < length names →
    IsNoRegion (get_or names (bound_to bs n).place nothing) → IsNoRegion v → AreOf IsOf bs names → AreUnder takes bs names →
    AreUnder takes bs (slice_set names (bound_to bs n).place v)
under_changed None bs names n v h free uncut room none new o u = under_none bs (slice_set names (bound_to bs n).place v)
under_changed (Some y) bs names n v h free uncut room none new o u =
    under_set (Some y) bs names (bound_to bs n).place v room none new (not_fixed bs names n h free uncut o) o u
