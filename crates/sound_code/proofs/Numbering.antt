-- Roots that are made under the numbers of names: a root is made under a number that no name has.
use Rattle.std.proofs.Common.{◌≡◌, ◌≢◌, inl, inr, ℕ, zero, suc, ◌<◌, ◌+◌, List, [], ◌∷◌, map, cond, Some, sym, ap, ◌∙◌, subst, arith}
use Rattle.std.specs.Prelude.{slice_get, slice_set}
use Rattle.std.proofs.lemmas.Option.{none-some, same_Some}
use Rattle.std.proofs.lemmas.Bool.{le-leb}
use Rattle.regent_tree.specs.Scopes.{Scope}
use Rattle.regent_tree.specs.StaticTypes.{Reach}
use Rattle.regent_tree.specs.Syntax.{Form, Tree}
use Rattle.regent_tree.specs.declared.facts.Term.TheVariants as term
use Rattle.regent_tree.specs.declared.types.Kind.{Kind}
use Rattle.regent_tree.specs.declared.typing.Bound.{Bound}
use Rattle.regent_tree.specs.declared.typing.StaticType.{StaticType}
use Rattle.regent_tree.specs.declared.typing.StaticType.TheVariants.{Region as region_type}
use Rattle.machine_terms.specs.declared.value.Value.{Value}
use Rattle.check_laws.specs.SoundScopes.{Falls}
use Rattle.code_laws.specs.Simple.{IsSimple, simple_index, simple_integer, simple_space, simple_truth}
use Rattle.fit_rules.specs.Shapes.{Among, Each, Shape, anything, integer, truth, index, pointer, space, region, partition, awaited, cut_from, Origin, unknown, argument, own_root, own_as, part, child_at, held_at, World, Is, is_number, is_region}
use Rattle.fit_rules.specs.Sound.{IsElsewhere, IsOther}
use Rattle.sound_code.specs.Named.{IsNumbered, IsOfNumber}
use Rattle.sound_code.specs.Ways.{origin_behind, Way, all_made, by_rules, origin_in, shape_in}
use Rattle.sound_code.proofs.Grounds.{BeginsWholly, Ground}
use Rattle.sound_code.proofs.Told.{ToldForm}

abbrev pub numbers_of : List Bound → List ℕ
numbers_of bs = map (λ (b : Bound). b.number) bs

-- ---- among more names

origin_more : (bs : List Bound) (b : Bound) (o : Origin) → IsOfNumber bs o → IsOfNumber (b ∷ bs) o
origin_more bs b unknown h = tt
origin_more bs b (argument i) h = tt
origin_more bs b own_root h = tt
origin_more bs b (own_as i) h = inr h
origin_more bs b (part o) h = origin_more bs b o h
origin_more bs b (child_at s c o) h = origin_more bs b o h
origin_more bs b (held_at s o) h = origin_more bs b o h

pub numbered_more : (bs : List Bound) (b : Bound) (s : Shape) → IsNumbered bs s → IsNumbered (b ∷ bs) s
numbered_more bs b anything h = tt
numbered_more bs b (integer w) h = tt
numbered_more bs b truth h = tt
numbered_more bs b index h = tt
numbered_more bs b (pointer n) h = tt
numbered_more bs b space h = tt
numbered_more bs b (region sp o) h = origin_more bs b o h
numbered_more bs b (partition sp d) h = tt
numbered_more bs b (cut_from sp d o) h = origin_more bs b o h
numbered_more bs b (awaited s) h = tt

pub each_numbered : (bs : List Bound) (b : Bound) (ss : List Shape) → Each (IsNumbered bs) ss → Each (IsNumbered (b ∷ bs)) ss
each_numbered bs b [] h = tt
each_numbered bs b (s ∷ ss) h = (numbered_more bs b s h.0, each_numbered bs b ss h.1)

-- where a slot is set
pub numbered_set : (bs : List Bound) (ss : List Shape) (i : ℕ) (s : Shape) → Each (IsNumbered bs) ss → IsNumbered bs s → Each (IsNumbered bs) (slice_set ss i s)
numbered_set bs [] i s h n = h
numbered_set bs (u ∷ ss) zero s h n = (n, h.1)
numbered_set bs (u ∷ ss) (suc i) s h n = (h.0, numbered_set bs ss i s h.1 n)

-- what stands in a slot
pub numbered_at : (bs : List Bound) (ss : List Shape) (i : ℕ) (s : Shape) → Each (IsNumbered bs) ss → slice_get ss i ≡ Some s → IsNumbered bs s
numbered_at bs [] i s h e = absurd (none-some s e)
numbered_at bs (u ∷ ss) zero s h e = subst (IsNumbered bs) (same_Some u s e) h.0
numbered_at bs (u ∷ ss) (suc i) s h e = numbered_at bs ss i s h.1 e

pub simple_numbered : (way : Way) (params : ℕ) (bs : List Bound) (u : StaticType) → IsSimple u → IsNumbered bs (shape_in way params u)
simple_numbered way params bs _ (simple_integer w) = tt
simple_numbered way params bs _ simple_truth = tt
simple_numbered way params bs _ (simple_space c) = tt
simple_numbered way params bs _ (simple_index c) = tt

-- ---- numbers that no name has

origin_other : (bs : List Bound) (i : ℕ) → ((j : ℕ) → Among (numbers_of bs) j → i ≢ j) → (o : Origin) → IsOfNumber bs o → IsElsewhere i o
origin_other bs i h unknown n = tt
origin_other bs i h (argument j) n = tt
origin_other bs i h own_root n = tt
origin_other bs i h (own_as j) n = h j n
origin_other bs i h (part o) n = origin_other bs i h o n
origin_other bs i h (child_at s c o) n = origin_other bs i h o n
origin_other bs i h (held_at s o) n = origin_other bs i h o n

numbered_other : (bs : List Bound) (i : ℕ) → ((j : ℕ) → Among (numbers_of bs) j → i ≢ j) → (s : Shape) → IsNumbered bs s → IsOther i s
numbered_other bs i h anything n = tt
numbered_other bs i h (integer w) n = tt
numbered_other bs i h truth n = tt
numbered_other bs i h index n = tt
numbered_other bs i h (pointer k) n = tt
numbered_other bs i h space n = tt
numbered_other bs i h (region sp o) n = origin_other bs i h o n
numbered_other bs i h (partition sp d) n = tt
numbered_other bs i h (cut_from sp d o) n = origin_other bs i h o n
numbered_other bs i h (awaited s) n = tt

each_other : (bs : List Bound) (i : ℕ) → ((j : ℕ) → Among (numbers_of bs) j → i ≢ j) → (ss : List Shape) → Each (IsNumbered bs) ss → Each (IsOther i) ss
each_other bs i h [] n = tt
each_other bs i h (s ∷ ss) n = (numbered_other bs i h s n.0, each_other bs i h ss n.1)

-- the numbers of names in scope are below the next
falls_below : (next : ℕ) (bs : List Bound) → Falls next bs → (j : ℕ) → Among (numbers_of bs) j → j < next
falls_below next [] f j h = absurd h
falls_below next (b ∷ bs) f j (inl e) = omega (arith, e, f.0)
falls_below next (b ∷ bs) f j (inr h) = let l = falls_below b.number bs f.1 j h in omega (arith, l, f.0)

-- and those of any names below some number
abbrev above : List Bound → ℕ
above [] = 0
above (b ∷ bs) = suc (b.number + above bs)

above_each : (bs : List Bound) (j : ℕ) → Among (numbers_of bs) j → j < above bs
above_each [] j h = absurd h
above_each (b ∷ bs) j (inl e) = omega (arith, e)
above_each (b ∷ bs) j (inr h) = let l = above_each bs j h in omega (arith, l)

-- ---- the number of a new root

-- Of the slots none is known to be a root that was made under this number, and one that is made under it may be that of
-- the next name.
pub record IsFree (way : Way) (params : ℕ) (s : Scope) (ss : List Shape) (k : Kind) (sp : ℕ) (args : List Reach) : Type 0 where
  pub number : ℕ
  pub others : Each (IsOther number) ss
  pub becomes : (x : World) (v : Value) → Is x (region (Some sp) (own_as number)) v →
      Is x (shape_in way params (region_type k sp args (term.Name s.next))) v
  pub named : (b : Bound) → b.number ≡ s.next → IsNumbered (b ∷ s.names) (shape_in way params (region_type k sp args (term.Name s.next)))

-- what was made under a number was made
own_any : (x : World) (sp i : ℕ) (v : Value) → Is x (region (Some sp) (own_as i)) v → Is x (region (Some sp) own_root) v
own_any x sp i _ (is_region _ _ r q) = is_region (Some sp) own_root r
    (record { there = q.there; space = q.space; set = q.set; points = q.points; origin = q.origin.0 })
own_any x sp i _ (is_number _ z h) = absurd h

pub free_number : (t : _) (way : Way) (tree : Tree) (params : ℕ) (s : Scope) (form : Form) (ss : List Shape) (k : Kind) (sp : ℕ) (args : List Reach) →
    BeginsWholly way s.next → Ground t way tree params s → ToldForm way tree s form → Each (IsNumbered s.names) ss → IsFree way params s ss k sp args
free_number t all_made tree params s form ss k sp args wholly g told h = record {
  number = above s.names;
  others = each_other s.names (above s.names) (λ j a e. let l = above_each s.names j a in omega (arith, l, e)) ss h;
  becomes = λ x v i. own_any x sp (above s.names) v i;
  named = λ b e. tt;
}
free_number t (by_rules tops task) tree params s form ss k sp args wholly g told h =
    let same : origin_in (by_rules tops task) params (term.Name s.next) ≡ own_as s.next =
    ap (λ b. cond b (origin_behind params s.next (tops task s.next)) (argument s.next)) (le-leb params s.next g.next) ∙ ap (origin_behind params s.next) wholly in record {
      number = s.next;
      others = each_other s.names s.next (λ j a e. let l = falls_below s.next s.names told.1.scope.numbers j a in omega (arith, l, e)) ss h;
      becomes = λ x v i. subst (λ o. Is x (region (Some sp) o) v) (sym same) i;
      named = λ b e. subst (λ o. IsNumbered (b ∷ s.names) (region (Some sp) o)) (sym same) (inl e);
    }
