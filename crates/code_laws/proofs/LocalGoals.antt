-- What regions and partitions are bound, and to which of them pointers of a type go.
use Rattle.std.proofs.Common.{◌≡◌, Bool, List, [], ◌∷◌, None, Some, false, true, refl, ap, subst, sym, ℕ, ◌<◌, ◌∙◌, ◌||◌, cond, inl, inr, arith}
use Rattle.std.specs.Prelude.{bytes_eq, ◌==◌}
use Rattle.regent_tree.proofs.Members.{Has}
use Rattle.regent_tree.specs.Accesses.{space_in}
use Rattle.regent_tree.specs.Lookup.{is_bound}
use Rattle.regent_tree.specs.Scopes.{bound_as, bound_to}
use Rattle.regent_tree.specs.StaticTypes.{Reach}
use Rattle.regent_tree.specs.Syntax.{Name}
use Rattle.regent_tree.specs.Typing.{is_disjoint, parent_of}
use Rattle.regent_tree.specs.declared.facts.Term.TheVariants as place
use Rattle.regent_tree.specs.declared.typing.Bound.{Bound}
use Rattle.regent_tree.specs.declared.typing.StaticType.TheVariants.{Partition as partition_type}
use Rattle.check_laws.proofs.Scopes.{differ}
use Rattle.check_laws.specs.SoundScopes.{Falls}
use Rattle.code_laws.specs.Pointers.{AreAims, AreNames, AreThere}
use Rattle.code_laws.specs.Simple.{IsRegion, term_in}
use Rattle.code_laws.proofs.Typing.{no_way_back}

-- ---- regions that are bound

-- a region is bound with a number, which is its term's
pub record IsRegionAmong (bs : List Bound) (i : ℕ) : Type 0 where
  pub named : Bound
  pub among : Has bs named
  pub number : named.number ≡ i
  pub region : IsRegion named.static_type
  pub term : term_in named.static_type ≡ place.Name i

pub region_behind : (b : Bound) (bs : List Bound) (i : ℕ) → IsRegionAmong bs i → IsRegionAmong (b ∷ bs) i
region_behind b bs i r = record { named = r.named; among = inr r.among; number = r.number; region = r.region; term = r.term }

-- so is each region of a list, of a field space, but those that may be any
abbrev pub AreAmong : List Bound → ℕ → List Reach → Type 0
AreAmong bs sp [] = Unit {0}
AreAmong bs sp (Some (place.Name i) ∷ rs) = (r : IsRegionAmong bs i) × (space_in r.named.static_type ≡ sp) × AreAmong bs sp rs
AreAmong bs sp (Some (place.Child p c) ∷ rs) = ⊥
AreAmong bs sp (None ∷ rs) = AreAmong bs sp rs

among_behind : (b : Bound) (bs : List Bound) (sp : ℕ) (rs : List Reach) → AreAmong bs sp rs → AreAmong (b ∷ bs) sp rs
unfolding region_behind
among_behind b bs sp [] a = tt
among_behind b bs sp (Some (place.Name i) ∷ rs) a = (region_behind b bs i a.0, a.1, among_behind b bs sp rs a.2)
among_behind b bs sp (Some (place.Child p c) ∷ rs) a = absurd a
among_behind b bs sp (None ∷ rs) a = among_behind b bs sp rs a

-- they have names
pub names_among : (bs : List Bound) (sp : ℕ) (rs : List Reach) → AreAmong bs sp rs → AreNames rs
names_among bs sp [] a = tt
names_among bs sp (Some (place.Name i) ∷ rs) a = names_among bs sp rs a.2
names_among bs sp (Some (place.Child p c) ∷ rs) a = absurd a
names_among bs sp (None ∷ rs) a = names_among bs sp rs a

-- ---- a partition that is bound

-- a partition of a region of a field space is bound with a number
pub record IsCutAmong (bs : List Bound) (sp p : ℕ) : Type 0 where
  pub named : Bound
  pub among : Has bs named
  pub number : named.number ≡ p
  pub is : named.static_type ≡ partition_type (is_disjoint named.static_type) (parent_of named.static_type) p
  pub parent : IsRegionAmong bs (parent_of named.static_type)
  pub space : space_in parent.named.static_type ≡ sp

cut_behind : (b : Bound) (bs : List Bound) (sp p : ℕ) → IsCutAmong bs sp p → IsCutAmong (b ∷ bs) sp p
unfolding region_behind
cut_behind b bs sp p r =
    record { named = r.named; among = inr r.among; number = r.number; is = r.is; parent = region_behind b bs (parent_of r.named.static_type) r.parent; space = r.space }

-- a pointer goes to such regions, or into a part of such a partition
abbrev pub AreGoals : List Bound → ℕ → List Reach → Type 0
AreGoals bs sp (Some (place.Child p c) ∷ rs) = IsCutAmong bs sp p × (rs ≡ [])
AreGoals bs sp rs = AreAmong bs sp rs

pub goals_behind : (b : Bound) (bs : List Bound) (sp : ℕ) (rs : List Reach) → AreGoals bs sp rs → AreGoals (b ∷ bs) sp rs
goals_behind b bs sp [] a = tt
goals_behind b bs sp (Some (place.Name i) ∷ rs) a = among_behind b bs sp (Some (place.Name i) ∷ rs) a
goals_behind b bs sp (Some (place.Child p c) ∷ rs) a = (cut_behind b bs sp p a.0, a.1)
goals_behind b bs sp (None ∷ rs) a = among_behind b bs sp (None ∷ rs) a

pub names_aims : (rs : List Reach) → AreNames rs → AreAims rs
names_aims [] n = tt
names_aims (Some (place.Name i) ∷ rs) n = n
names_aims (Some (place.Child p c) ∷ rs) n = absurd n
names_aims (None ∷ rs) n = n

pub among_goals : (bs : List Bound) (sp : ℕ) (rs : List Reach) → AreAmong bs sp rs → AreGoals bs sp rs
among_goals bs sp [] a = tt
among_goals bs sp (Some (place.Name i) ∷ rs) a = a
among_goals bs sp (Some (place.Child p c) ∷ rs) a = absurd a
among_goals bs sp (None ∷ rs) a = a

pub goals_aims : (bs : List Bound) (sp : ℕ) (rs : List Reach) → AreGoals bs sp rs → AreAims rs
goals_aims bs sp [] a = tt
goals_aims bs sp (Some (place.Name i) ∷ rs) a = names_among bs sp (Some (place.Name i) ∷ rs) a
goals_aims bs sp (Some (place.Child p c) ∷ rs) a = a.1
goals_aims bs sp (None ∷ rs) a = names_among bs sp (None ∷ rs) a

pub goals_among : (bs : List Bound) (sp : ℕ) (rs : List Reach) → AreNames rs → AreGoals bs sp rs → AreAmong bs sp rs
goals_among bs sp [] n a = tt
goals_among bs sp (Some (place.Name i) ∷ rs) n a = a
goals_among bs sp (Some (place.Child p c) ∷ rs) n a = absurd n
goals_among bs sp (None ∷ rs) n a = a

-- ---- what is bound

-- what a name is bound to is among what is bound
pub bound_among : (bs : List Bound) (n : Name) → is_bound bs n ≡ true → Has bs (bound_to bs n)
bound_among [] n e = absurd (no_way_back e)
bound_among (b ∷ bs) n e = chosen (bytes_eq b.name n) (bound_among bs n) e
  where
    chosen : (c : Bool) → (is_bound bs n ≡ true → Has bs (bound_to bs n)) → (c || is_bound bs n) ≡ true → Has (b ∷ bs) (cond c b (bound_to bs n))
    chosen true more h = inl refl
    chosen false more h = inr (more h)

same_number : (a b : ℕ) → a ≡ b → (a == b) ≡ true
same_number a b e = search (arith, e)

-- and it is found by its number, where numbers fall
pub found_among : (next : ℕ) (bs : List Bound) (b : Bound) → Falls next bs → Has bs b → (bound_as bs b.number ≡ b) × (b.number < next)
found_among next [] b falls h = absurd h
found_among next (c ∷ bs) b falls (inl same) =
    let l = falls.0 in
    let number : c.number ≡ b.number = ap (λ (x : Bound). x.number) same in
    (ap (λ x. cond x c (bound_as bs b.number)) (same_number c.number b.number number) ∙ same, omega (arith, l, number))
found_among next (c ∷ bs) b falls (inr h) =
    let r = found_among c.number bs b falls.1 h in
    let less = r.1 in
    let l = falls.0 in
    (ap (λ x. cond x c (bound_as bs b.number)) (differ c.number b.number less) ∙ r.0, omega (arith, l, less))

-- so is each region of such a list
pub among_there : (next : ℕ) (bs : List Bound) (sp : ℕ) (rs : List Reach) → Falls next bs → AreAmong bs sp rs → AreThere bs sp rs
among_there next bs sp [] falls a = tt
among_there next bs sp (Some (place.Name i) ∷ rs) falls a =
    let r = a.0 in
    let found : bound_as bs i ≡ r.named = subst (λ j. bound_as bs j ≡ r.named) r.number (found_among next bs r.named falls r.among).0 in (
      ap (λ (b : Bound). b.number) found ∙ r.number,
      subst (λ (b : Bound). IsRegion b.static_type) (sym found) r.region,
      ap (λ (b : Bound). space_in b.static_type) found ∙ a.1,
      among_there next bs sp rs falls a.2,
    )
among_there next bs sp (Some (place.Child p c) ∷ rs) falls a = absurd a
among_there next bs sp (None ∷ rs) falls a = among_there next bs sp rs falls a
