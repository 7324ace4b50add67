-- What is known where a task is looked at by the rules: its program has no breach, what is known of regions is what
-- clauses tell, what the task made and what began as parts, and regions that have a parameter's number stand in its place.
use Rattle.std.proofs.Common.{◌≡◌, inl, inr, leb-true, ℕ, ◌<◌, ◌≤◌, List, ◌∷◌, Bool, true, false, refl, sym, ap, ◌∙◌, subst, arith}
use Rattle.std.specs.Prelude.{cond, length, nat_le, None, Option, Some}
use Rattle.std.proofs.lemmas.Bool.{le-leb}
use Rattle.std.proofs.lemmas.Option.{same_Some}
use Rattle.regent_tree.specs.declared.facts.Colour.{Colour}
use Rattle.regent_tree.specs.declared.facts.Term.{Term}
use Rattle.regent_tree.specs.declared.facts.Known.{Known}
use Rattle.regent_tree.specs.declared.facts.Known.TheVariants.{Within, Apart, PartOf, Made}
use Rattle.regent_tree.specs.declared.facts.Term.TheVariants.{Name, Child}
use Rattle.regent_tree.specs.declared.typing.Bound.{Bound}
use Rattle.regent_tree.specs.declared.typing.StaticType.{StaticType}
use Rattle.regent_tree.specs.declared.typing.StaticType.TheVariants.{Region as region_type}
use Rattle.regent_tree.specs.Scopes.{Scope, scope_of}
use Rattle.regent_tree.specs.Syntax.{Tree, TaskTree}
use Rattle.code_laws.proofs.KnownHeads.{KnowsFacts}
use Rattle.regent_tree.proofs.Members.{Has}
use Rattle.task_code.specs.declared.code.TaskCode.{TaskCode}
use Rattle.check_rules.specs.scopes.Sound.{IsSound, IsSoundTask}
use Rattle.code_rules.specs.Needs.{needs_of_clauses}
use Rattle.marked_code.proofs.Placed.{below}
use Rattle.code_laws.specs.Simple.{a_region_type, IsRegion, term_in}
use Rattle.fit_rules.specs.Shapes.{Among, Each}
use Rattle.fit_rules.specs.Marks.{apart, Fact, in_slot, lies}
use Rattle.sound_code.specs.Ways.{Tops, Way, all_made, by_rules, opening_facts}
use Rattle.sound_code.proofs.Narrowing.{AtLeast}

-- ---- one fact, and one name

-- What is known was told of parameters, of a region that was made behind them and began as no part, or of one behind them
-- that began as a part.
pub data IsTold (params : ℕ) (up : ℕ → Option (ℕ × ℕ)) (ks : List Fact) : Known → Type 0 where
  tells_within : (a b : ℕ) → a < params → b < params → Among ks (lies (in_slot a) (in_slot b)) →
      IsTold params up ks (Within (Name a) (Name b))
  tells_apart : (a b : ℕ) → a < params → b < params → Among ks (apart (in_slot a) (in_slot b)) →
      IsTold params up ks (Apart (Name a) (Name b))
  tells_part : (p r : ℕ) (d : Bool) → IsTold params up ks (PartOf p r d)
  tells_made : (i : ℕ) → params ≤ i → up i ≡ None → IsTold params up ks (Made i)
  tells_begun : (i p : ℕ) (k : ℕ × ℕ) (c : Colour) → params ≤ i → up i ≡ Some k → IsTold params up ks (Within (Name i) (Child p c))

-- the number of the region within which one with a number lies, and which began as no part
abbrev pub top_behind : ℕ → Option (ℕ × ℕ) → ℕ
top_behind i None = i
top_behind i (Some k) = k.1

abbrev pub top_in : ℕ → (ℕ → Option (ℕ × ℕ)) → ℕ → ℕ
top_in params up i = cond (nat_le params i) (top_behind i (up i)) i

-- a region that began as a part of a partition: it lies where the region lies of which that is
pub record IsBegun (params : ℕ) (up : ℕ → Option (ℕ × ℕ)) (known : List Known) (i p : ℕ) : Type 0 where
  pub parent : ℕ
  pub flag : Bool
  pub of : Has known (PartOf p parent flag)
  pub top : up i ≡ Some (parent, top_in params up parent)
  pub whole : params ≤ top_in params up parent → up (top_in params up parent) ≡ None

-- of a region behind the parameters it is told that it was made, or that it began as a part
pub data IsSaid (known : List Known) (i : ℕ) : Type 0 where
  said_made : Has known (Made i) → IsSaid known i
  said_begun : (p : ℕ) (c : Colour) → Has known (Within (Name i) (Child p c)) → IsSaid known i

abbrev number_in : Term → ℕ
number_in (Name i) = i
number_in (Child p c) = 0

abbrev IsChildTerm : Term → Type 0
IsChildTerm (Name i) = ⊥
IsChildTerm (Child p c) = Unit {0}

abbrev pub HasSaid : ℕ → List Known → StaticType → Type 0
HasSaid params known (region_type k sp args (Name i)) = params ≤ i → IsSaid known i
HasSaid params known t = Unit {0}

abbrev pub OfType : ℕ → ℕ → StaticType → Type 0
OfType params place (region_type k sp args (Name i)) = i < params → place ≡ i
OfType params place (region_type k sp args (Child p c)) = ⊥
OfType params place t = Unit {0}

abbrev pub IsPlaced : ℕ → Bound → Type 0
IsPlaced params b = OfType params b.place b.static_type

-- ---- a place

pub record Kept (t : TaskCode) (tops : Tops) (task : TaskTree) (tree : Tree) (params : ℕ) (s : Scope) : Type 0 where
  pub sound : IsSound tree
  pub sound_task : IsSoundTask tree task
  pub needs : t.needs ≡ needs_of_clauses tree task task.clauses
  pub many : params ≡ length task.params
  pub known : (k : Known) → Has s.known k → IsTold params (tops task) (opening_facts (by_rules tops task) tree task) k
  pub begins : (i p : ℕ) (c : Colour) → Has s.known (Within (Name i) (Child p c)) → IsBegun params (tops task) s.known i p
  pub said : (b : Bound) → Has s.names b → HasSaid params s.known b.static_type
  pub falls : (i : ℕ) (k : ℕ × ℕ) → tops task i ≡ Some k → k.1 ≤ i
  pub next : params ≤ s.next
  pub placed : Each (IsPlaced params) s.names
  pub begun : (k : Known) → Has (scope_of tree task).known k → IsTold params (tops task) (opening_facts (by_rules tops task) tree task) k
  pub head : KnowsFacts tree task s

abbrev pub Ground : TaskCode → Way → Tree → ℕ → Scope → Type 0
Ground t all_made tree params s = Unit {0}
Ground t (by_rules tops task) tree params s = Kept t tops task tree params s

-- how the region with a number begins: as no part, or as one of a region with another number
abbrev pub BeginsWholly : Way → ℕ → Type 0
BeginsWholly all_made i = Unit {0}
BeginsWholly (by_rules tops task) i = tops task i ≡ None

abbrev pub BeginsUnder : Way → ℕ → ℕ → ℕ → Type 0
BeginsUnder all_made params i r = Unit {0}
BeginsUnder (by_rules tops task) params i r = tops task i ≡ Some (r, top_in params (tops task) r)

-- facts of a mark beside those of the opening one
abbrev pub HasFacts : Way → Tree → List Fact → Type 0
HasFacts all_made tree ks = Unit {0}
HasFacts (by_rules tops task) tree ks = (k : Fact) → Among (opening_facts (by_rules tops task) tree task) k → Among ks k

pub facts_more : (way : Way) (tree : Tree) (ks : List Fact) (k : Fact) → HasFacts way tree ks → HasFacts way tree (k ∷ ks)
facts_more all_made tree ks k h = tt
facts_more (by_rules tops task) tree ks k h = λ l a. inr (h l a)

pub facts_among : (way : Way) (tree : Tree) (ks ls : List Fact) → AtLeast ks ls → HasFacts way tree ks → HasFacts way tree ls
facts_among all_made tree ks ls more h = tt
facts_among (by_rules tops task) tree ks ls more h = λ l a. more l (h l a)

-- ---- where regions lie that began as parts

pub low_top : (params : ℕ) (up : ℕ → Option (ℕ × ℕ)) (i : ℕ) → i < params → top_in params up i ≡ i
low_top params up i l = of (nat_le params i) refl
  where
    of : (b : Bool) → nat_le params i ≡ b → cond b (top_behind i (up i)) i ≡ i
    of true e = absurd (omega (arith, l, leb-true params i e))
    of false e = refl

pub high_top : (params : ℕ) (up : ℕ → Option (ℕ × ℕ)) (i : ℕ) (o : Option (ℕ × ℕ)) → params ≤ i → up i ≡ o → top_in params up i ≡ top_behind i o
high_top params up i o l e = ap (λ b. cond b (top_behind i (up i)) i) (le-leb params i l) ∙ ap (top_behind i) e

-- of a name in scope
pub said_of : (params : ℕ) (known : List Known) (u : StaticType) (r : ℕ) → IsRegion u → term_in u ≡ Name r → HasSaid params known u → params ≤ r → IsSaid known r
said_of params known _ r (a_region_type k sp args (Name i)) e h l = let same : i ≡ r = ap number_in e in subst (IsSaid known) same (h (omega (arith, l, same)))
said_of params known _ r (a_region_type k sp args (Child p c)) e h l = absurd (subst IsChildTerm e tt)

module _ (t : TaskCode) (tops : Tops) (task : TaskTree) (tree : Tree) (params : ℕ) (s : Scope) (h : Kept t tops task tree params s) where
  abbrev above : ℕ → Option (ℕ × ℕ)
  above = tops task

  -- a partition is of one region
  one_parent : (p r q : ℕ) (d f : Bool) → Has s.known (PartOf p r d) → Has s.known (PartOf p q f) → r ≡ q
  one_parent p r q d f a b = same_Some r q (sym (h.head.parts (PartOf p r d) a).told ∙ (h.head.parts (PartOf p q f) b).told)

  -- by each fact that tells of which region a partition is
  pub begins_under : (i p : ℕ) (c : Colour) → Has s.known (Within (Name i) (Child p c)) → (r : ℕ) (d : Bool) → Has s.known (PartOf p r d) →
      above i ≡ Some (r, top_in params above r)
  begins_under i p c a r d b =
      let is = h.begins i p c a in
      subst (λ q. above i ≡ Some (q, top_in params above q)) (one_parent p is.parent r is.flag d is.of b) is.top

  none_above : (r : ℕ) → IsTold params above (opening_facts (by_rules tops task) tree task) (Made r) → above r ≡ None
  none_above _ (tells_made _ l e) = e

  -- it lies within one that began as no part
  pub top_whole : (r : ℕ) → (params ≤ r → IsSaid s.known r) → params ≤ top_in params above r → above (top_in params above r) ≡ None
  top_whole r said l = elim (below r params) [
    | inl low ↦ let same = low_top params above r low in absurd (omega (arith, low, same, l))
    | inr high ↦ of high (said high)
  ]
    where
      of : params ≤ r → IsSaid s.known r → above (top_in params above r) ≡ None
      of high (said_made a) =
          let none = none_above r (h.known (Made r) a) in
          subst (λ n. above n ≡ None) (sym (high_top params above r None high none)) none
      of high (said_begun p c a) =
          let is = h.begins r p c a in
          let same = high_top params above r (Some (is.parent, top_in params above is.parent)) high is.top in
          subst (λ n. above n ≡ None) (sym same) (is.whole (subst (λ n. params ≤ n) same l))
