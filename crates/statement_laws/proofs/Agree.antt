-- Facts hold where what they speak of stands for the same, and facts on bindings that were never reached
-- hold of nothing.
use Rattle.std.proofs.Common.{None, Some, arith, Bool, List, [], ◌∷◌, ◌++◌, false, true, refl, ap, sym, subst, ℕ, ℤ, pos, ◌≡◌, ◌∙◌, ◌<◌, ◌≤◌, ◌==◌, length, cond, ◌⊎◌, inl, inr}
use Rattle.std.proofs.lemmas.Bool.{cond-true, cond-false, lt-ltb}
use Rattle.std.proofs.lemmas.List.{append_assoc, append-nil}
use Rattle.std.specs.List.{Contains}
use Rattle.std.specs.Prelude.{nat_lt}
use Rattle.regent_tree.specs.Scopes.{Scope, bound_as, with_name}
use Rattle.regent_tree.specs.Syntax.{Name as NameText}
use Rattle.regent_tree.specs.StaticTypes.{Reach}
use Rattle.regent_tree.specs.declared.typing.StaticType.{StaticType}
use Rattle.regent_tree.specs.declared.typing.StaticType.TheVariants.{Index as index_type, Integer as integer_type, Ispace as ispace_type, Nothing as no_type, Partition as partition_type, Pointer as pointer_type, Region as region_type, Truth as truth_type, Unknown as unknown_type}
use Rattle.regent_tree.specs.Values.{Partition, Region, no_region}
use Rattle.regent_tree.specs.declared.facts.Colour.{Colour}
use Rattle.regent_tree.specs.declared.facts.Colour.TheVariants.{Constant, Loop, Unknown}
use Rattle.regent_tree.specs.declared.facts.Known.{Known}
use Rattle.regent_tree.specs.declared.facts.Known.TheVariants.{Within, Apart, PartOf, Made}
use Rattle.regent_tree.specs.declared.facts.Term.{Term}
use Rattle.regent_tree.specs.declared.facts.Term.TheVariants.{Name, Child}
use Rattle.regent_tree.proofs.Members.{Contains-from_Has, Has-append_cases, Has-append_left, Has-append_right, Has-from_Contains}
use Rattle.fact_laws.specs.Regions.{AllHold, Holds, IsColour, IsIn, LiesWithin, Interpretation, SharesNoPoint, StandsFor, child_at}
use Rattle.expression_laws.specs.Sound.{AreGivenRegions, AreOwnRoots, AreInStore, Instance, IsInStore, IsOfParent, IsSoundPlace, no_partition}
use Rattle.statement_laws.specs.Steady.{AgreeBelow, FactsBelow, FactBelow, KnowsMore, IsFresh, IsStaticPlace}
pub use Rattle.expression_laws.proofs.Stores.{child_in_store, no_child, none_in_store, nothing_in}
use Rattle.expression_laws.specs.Kinds.{ColourBelow, TermBelow, TermsBelow, TypeBelow}

pub agree_back : (n : ℕ) (a b : Interpretation) → AgreeBelow n a b → AgreeBelow n b a
agree_back n a b e = record {
  regions = λ i l. sym (e.regions i l);
  partitions = λ i l. sym (e.partitions i l);
  numbers = λ i l. sym (e.numbers i l);
}

pub agree_less : (n k : ℕ) (a b : Interpretation) → k ≤ n → AgreeBelow n a b → AgreeBelow k a b
agree_less n k a b less e = record {
  regions = λ i l. e.regions i (omega (arith, l, less));
  partitions = λ i l. e.partitions i (omega (arith, l, less));
  numbers = λ i l. e.numbers i (omega (arith, l, less));
}

pub agree_same : (n : ℕ) (a : Interpretation) → AgreeBelow n a a
agree_same n a = record { regions = λ i l. refl; partitions = λ i l. refl; numbers = λ i l. refl }

pub agree_then : (n k : ℕ) (a b c : Interpretation) → n ≤ k → AgreeBelow n a b → AgreeBelow k b c → AgreeBelow n a c
agree_then n k a b c less e f = record {
  regions = λ i l. e.regions i l ∙ f.regions i (omega (arith, l, less));
  partitions = λ i l. e.partitions i l ∙ f.partitions i (omega (arith, l, less));
  numbers = λ i l. e.numbers i l ∙ f.numbers i (omega (arith, l, less));
}

module _ (n : ℕ) (a b : Interpretation) (e : AgreeBelow n a b) where
  colour_too : (c : Colour) (z : ℤ) → ColourBelow n c → IsColour a c z → IsColour b c z
  colour_too (Constant i) z l is = is
  colour_too (Loop i) z l is = sym (e.numbers i l) ∙ is
  colour_too Unknown z l is = tt

  pub stands_too : (t : Term) (r : Region) → TermBelow n t → StandsFor a t r → StandsFor b t r
  stands_too (Name i) r l is = sym (e.regions i l) ∙ is
  stands_too (Child p c) r l is = record {
    number = is.number;
    is_colour = colour_too c is.number l.1 is.is_colour;
    is_child = ap (λ q. child_at q is.number) (sym (e.partitions p l.0)) ∙ is.is_child;
  }

module _ (n : ℕ) (a b : Interpretation) (e : AgreeBelow n a b) where
  pub holds_too : (k : Known) → FactBelow n k → Holds a k → Holds b k
  holds_too (Within x y) l h = λ r is.
      let found = h r (stands_too n b a (agree_back n a b e) x r l.0 is) in
      record { outer = found.outer; stands = stands_too n a b e y found.outer l.1 found.stands; lies = found.lies }
  holds_too (Apart x y) l h = λ r t is js.
      h r t (stands_too n b a (agree_back n a b e) x r l.0 is) (stands_too n b a (agree_back n a b e) y t l.1 js)
  holds_too (PartOf p r d) l h = record {
    within = λ c. subst (λ q. LiesWithin (child_at q c) (b.region r)) (e.partitions p l.0)
        (subst (LiesWithin (child_at (a.partition p) c)) (e.regions r l.1) (h.within c));
    apart = λ is c f ne. subst (λ q. SharesNoPoint (child_at q c) (child_at q f)) (e.partitions p l.0) (h.apart is c f ne);
  }
  holds_too (Made s) l h = λ r less.
      let below : r < n = omega (arith, l, less) in
      subst (λ q. SharesNoPoint q (b.region r)) (e.regions s l) (subst (SharesNoPoint (a.region s)) (e.regions r below) (h r less))

  pub all_hold_too : (known : List Known) → FactsBelow n known → AllHold a known → AllHold b known
  all_hold_too known below h k c = holds_too k (below k c) (h k c)

  pub own_too : (roots : ℕ) (known : List Known) → FactsBelow n known → AreOwnRoots roots a known → AreOwnRoots roots b known
  own_too roots known below own i c root p is = own i c root p (subst (λ r. IsIn r root p) (sym (e.regions i (below (Made i) c))) is)

  pub given_too : (x : Instance) (s : Scope) → IsStaticPlace x s → s.next ≤ n → AreGivenRegions x a → AreGivenRegions x b
  given_too x s static less given i is =
      let l = static.params i is in
      sym (e.regions i (omega (arith, l, less))) ∙ given i is

  pub parent_too : (known : List Known) → FactsBelow n known → (t : StaticType) → IsOfParent a known t → IsOfParent b known t
  parent_too known below (partition_type d r p) is =
      let l = below (PartOf p r d) is.0 in
      (is.0, ap (λ (q : Partition). q.root) (sym (e.partitions p l.0)) ∙ is.1 ∙ ap (λ (q : Region). q.root) (e.regions r l.1))
  parent_too known below (pointer_type k sp args terms) is = tt
  parent_too known below (region_type k sp args t) is = tt
  parent_too known below (integer_type w) is = tt
  parent_too known below truth_type is = tt
  parent_too known below (index_type k) is = tt
  parent_too known below (ispace_type k) is = tt
  parent_too known below no_type is = tt
  parent_too known below unknown_type is = tt

  pub place_too : (x : Instance) (s : Scope) → IsStaticPlace x s → s.next ≡ n → IsSoundPlace x a s → IsSoundPlace x b s
  place_too x s static same place = record {
    holds = all_hold_too s.known (subst (λ k. FactsBelow k s.known) same static.below) place.holds;
    own = own_too x.roots s.known (subst (λ k. FactsBelow k s.known) same static.below) place.own;
    params = given_too x s static (omega (arith, same)) place.params;
    parents = λ i. parent_too s.known (subst (λ k. FactsBelow k s.known) same static.below) (bound_as s.names i).static_type (place.parents i);
  }

-- ---- bindings that were never reached

-- bindings from a number on stand for nothing
abbrev pub emptied : ℕ → Interpretation → Interpretation
emptied n m = record {
  region = λ i. cond (nat_lt i n) (m.region i) no_region;
  partition = λ i. cond (nat_lt i n) (m.partition i) (record { root = 0; disjoint = false; sets = [] });
  number = m.number;
}

pub emptied_agrees : (n : ℕ) (m : Interpretation) → AgreeBelow n m (emptied n m)
emptied_agrees n m = record {
  regions = λ i l. sym (cond-true (nat_lt i n) (m.region i) no_region (lt-ltb i n l));
  partitions = λ i l. sym (cond-true (nat_lt i n) (m.partition i) _ (lt-ltb i n l));
  numbers = λ i l. refl;
}

not_less : (i n : ℕ) → n ≤ i → nat_lt i n ≡ false
not_less i n l = search (arith)

emptied_region : (n i : ℕ) (m : Interpretation) → n ≤ i → (emptied n m).region i ≡ no_region
emptied_region n i m l = cond-false (nat_lt i n) (m.region i) no_region (not_less i n l)

emptied_partition : (n i : ℕ) (m : Interpretation) → n ≤ i → (emptied n m).partition i ≡ record { root = 0; disjoint = false; sets = [] }
emptied_partition n i m l = cond-false (nat_lt i n) (m.partition i) _ (not_less i n l)

-- a term stands for something
some_region : (m : Interpretation) (t : Term) → (r : Region) × StandsFor m t r
some_region m (Name i) = (m.region i, refl)
some_region m (Child p (Constant z)) = (child_at (m.partition p) z, record { number = z; is_colour = refl; is_child = refl })
some_region m (Child p (Loop i)) = (child_at (m.partition p) (m.number i), record { number = m.number i; is_colour = refl; is_child = refl })
some_region m (Child p Unknown) = (child_at (m.partition p) (pos 0), record { number = pos 0; is_colour = tt; is_child = refl })

pub fresh_holds : (n : ℕ) (m : Interpretation) (k : Known) → IsFresh n k → Holds (emptied n m) k
fresh_holds n m (Within (Name i) b) l = λ r is.
    let outer = some_region (emptied n m) b in
    record { outer = outer.0; stands = outer.1; lies = λ root p there. absurd (nothing_in root p (subst (λ q. IsIn q root p) (sym is ∙ emptied_region n i m l) there)) }
fresh_holds n m (PartOf q r d) l = record {
  within = λ c root p there. absurd (no_child c root p (subst (λ y. IsIn (child_at y c) root p) (emptied_partition n q m l) there));
  apart = λ e c f ne root p there other. absurd (no_child c root p (subst (λ y. IsIn (child_at y c) root p) (emptied_partition n q m l) there));
}
fresh_holds n m (Made s) l = λ r less root p there other. nothing_in root p (subst (λ q. IsIn q root p) (emptied_region n s m l) there)
fresh_holds n m (Within (Child p c) b) l = absurd l
fresh_holds n m (Apart a b) l = absurd l

-- ---- more is known

pub fresh_less : (n k : ℕ) (f : Known) → k ≤ n → IsFresh n f → IsFresh k f
fresh_less n k (Within (Name i) b) less l = omega (arith, l, less)
fresh_less n k (PartOf p r d) less l = omega (arith, l, less)
fresh_less n k (Made s) less l = omega (arith, l, less)
fresh_less n k (Within (Child p c) b) less l = absurd l
fresh_less n k (Apart a b) less l = absurd l

pub term_up : (n k : ℕ) (t : Term) → n ≤ k → TermBelow n t → TermBelow k t
term_up n k (Name i) less l = omega (arith, l, less)
term_up n k (Child p (Constant z)) less l = let a = l.0 in (omega (arith, a, less), tt)
term_up n k (Child p (Loop i)) less l = let a = l.0 in let b = l.1 in (omega (arith, a, less), omega (arith, b, less))
term_up n k (Child p Unknown) less l = let a = l.0 in (omega (arith, a, less), tt)

terms_up : (n k : ℕ) (terms : List Reach) → n ≤ k → TermsBelow n terms → TermsBelow k terms
terms_up n k [] less l = tt
terms_up n k (None ∷ terms) less l = terms_up n k terms less l
terms_up n k (Some t ∷ terms) less l = (term_up n k t less l.0, terms_up n k terms less l.1)

pub type_up : (n k : ℕ) (t : StaticType) → n ≤ k → TypeBelow n t → TypeBelow k t
type_up n k (pointer_type j s args terms) less l = terms_up n k terms less l
type_up n k (region_type j s args t) less l = term_up n k t less l
type_up n k (partition_type d r p) less l = omega (arith, l, less)
type_up n k (integer_type w) less l = tt
type_up n k truth_type less l = tt
type_up n k (index_type j) less l = tt
type_up n k (ispace_type j) less l = tt
type_up n k no_type less l = tt
type_up n k unknown_type less l = tt

pub fact_up : (n k : ℕ) (f : Known) → n ≤ k → FactBelow n f → FactBelow k f
fact_up n k (Within a b) less l = (term_up n k a less l.0, term_up n k b less l.1)
fact_up n k (Apart a b) less l = (term_up n k a less l.0, term_up n k b less l.1)
fact_up n k (PartOf p r d) less l = let a = l.0 in let b = l.1 in (omega (arith, a, less), omega (arith, b, less))
fact_up n k (Made s) less l = omega (arith, l, less)

pub in_either : (xs ys : List Known) (k : Known) → Contains (xs ++ ys) k → Contains xs k ⊎ Contains ys k
in_either xs ys k c = elim (Has-append_cases xs ys k (Has-from_Contains (xs ++ ys) k c)) [
  | inl h ↦ inl (Contains-from_Has xs k h)
  | inr h ↦ inr (Contains-from_Has ys k h)
]

pub in_left : (xs ys : List Known) (k : Known) → Contains xs k → Contains (xs ++ ys) k
in_left xs ys k c = Contains-from_Has (xs ++ ys) k (Has-append_left xs ys k (Has-from_Contains xs k c))

pub grows_none : (s t : Scope) → t.known ≡ s.known → s.next ≤ t.next → KnowsMore s t
grows_none s t same less = record {
  more = [];
  known = same ∙ sym (append-nil s.known);
  next = less;
  fresh = λ k c. absurd (Has-from_Contains [] k c);
  below = λ k c. absurd (Has-from_Contains [] k c);
}

pub grows_then : (s t u : Scope) → KnowsMore s t → KnowsMore t u → KnowsMore s u
grows_then s t u a b = let p = a.next in let q = b.next in record {
  more = a.more ++ b.more;
  known = b.known ∙ ap (λ ks. ks ++ b.more) a.known ∙ append_assoc s.known a.more b.more;
  next = omega (arith, p, q);
  fresh = λ k c. elim (in_either a.more b.more k c) [
    | inl h ↦ a.fresh k h
    | inr h ↦ fresh_less t.next s.next k a.next (b.fresh k h)
  ];
  below = λ k c. elim (in_either a.more b.more k c) [
    | inl h ↦ fact_up t.next u.next k b.next (a.below k h)
    | inr h ↦ b.below k h
  ];
}

-- facts stay below where more is known
pub grows_below : (s t : Scope) → KnowsMore s t → FactsBelow s.next s.known → FactsBelow t.next t.known
grows_below s t a below k c = elim (in_either s.known a.more k (subst (λ ks. Contains ks k) a.known c)) [
  | inl h ↦ fact_up s.next t.next k a.next (below k h)
  | inr h ↦ a.below k h
]

-- a partition is of its parent where more is known
pub parent_more : (m : Interpretation) (known more : List Known) (t : StaticType) → IsOfParent m known t → IsOfParent m (known ++ more) t
parent_more m known more (partition_type d r p) is = (in_left known more (PartOf p r d) is.0, is.1)
parent_more m known more (pointer_type k sp args terms) is = tt
parent_more m known more (region_type k sp args t) is = tt
parent_more m known more (integer_type w) is = tt
parent_more m known more truth_type is = tt
parent_more m known more (index_type k) is = tt
parent_more m known more (ispace_type k) is = tt
parent_more m known more no_type is = tt
parent_more m known more unknown_type is = tt

-- and where it is among those
pub parent_among : (m : Interpretation) (known more : List Known) (t : StaticType) → IsOfParent m more t → IsOfParent m (known ++ more) t
parent_among m known more (partition_type d r p) is = (Contains-from_Has (known ++ more) (PartOf p r d) (Has-append_right known more (PartOf p r d) (Has-from_Contains more (PartOf p r d) is.0)), is.1)
parent_among m known more (pointer_type k sp args terms) is = tt
parent_among m known more (region_type k sp args t) is = tt
parent_among m known more (integer_type w) is = tt
parent_among m known more truth_type is = tt
parent_among m known more (index_type k) is = tt
parent_among m known more (ispace_type k) is = tt
parent_among m known more no_type is = tt
parent_among m known more unknown_type is = tt

-- with one more name
pub parents_with : (m : Interpretation) (known : List Known) (s : Scope) (n : NameText) (ty : StaticType) (by_loop : Bool) → IsOfParent m known ty →
    ((i : ℕ) → IsOfParent m known (bound_as s.names i).static_type) → (i : ℕ) → IsOfParent m known (bound_as (with_name s n ty by_loop).names i).static_type
parents_with m known s n ty by_loop new old i = here (s.next == i)
  where
    here : (c : Bool) → IsOfParent m known (cond c (record { name = n; number = s.next; place = length s.names; static_type = ty; by_loop = by_loop }) (bound_as s.names i)).static_type
    here true = new
    here false = old i

-- where what is more known was never reached, a place is a place still
pub grown_place : (x : Instance) (m : Interpretation) (s t : Scope) → IsStaticPlace x s → KnowsMore s t → t.names ≡ s.names → IsSoundPlace x m s → IsSoundPlace x (emptied s.next m) t
grown_place x m s t static a same place = record {
  holds = λ k c. elim (in_either s.known a.more k (subst (λ ks. Contains ks k) a.known c)) [
    | inl h ↦ holds_too s.next m (emptied s.next m) (emptied_agrees s.next m) k (static.below k h) (place.holds k h)
    | inr h ↦ fresh_holds s.next m k (a.fresh k h)
  ];
  own = λ i c root p is. elim (in_either s.known a.more (Made i) (subst (λ ks. Contains ks (Made i)) a.known c)) [
    | inl h ↦ own_too s.next m (emptied s.next m) (emptied_agrees s.next m) x.roots s.known static.below place.own i h root p is
    | inr h ↦ absurd (nothing_in root p (subst (λ q. IsIn q root p) (emptied_region s.next i m (a.fresh (Made i) h)) is))
  ];
  params = given_too s.next m (emptied s.next m) (emptied_agrees s.next m) x s static (omega (arith)) place.params;
  parents = λ i. subst (λ known. IsOfParent (emptied s.next m) known (bound_as t.names i).static_type) (sym a.known)
      (parent_more (emptied s.next m) s.known a.more (bound_as t.names i).static_type
      (subst (λ names. IsOfParent (emptied s.next m) s.known (bound_as names i).static_type) (sym same)
      (parent_too s.next m (emptied s.next m) (emptied_agrees s.next m) s.known static.below (bound_as s.names i).static_type (place.parents i))));
}

pub emptied_in_store : (n : ℕ) (m : Interpretation) (count : ℕ) → AreInStore m count → AreInStore (emptied n m) count
emptied_in_store n m count are =
    record { regions = λ i. region i (nat_lt i n); children = λ i c. child i c (nat_lt i n) }
  where
    region : (i : ℕ) (b : Bool) → IsInStore count (cond b (m.region i) no_region)
    region i true = are.regions i
    region i false = none_in_store count

    child : (i : ℕ) (c : ℤ) (b : Bool) → IsInStore count (child_at (cond b (m.partition i) no_partition) c)
    child i c true = are.children i c
    child i c false = child_in_store count c

-- a store has more roots
pub in_longer_store : (m : Interpretation) (count long : ℕ) → count ≤ long → AreInStore m count → AreInStore m long
in_longer_store m count long less are = record {
  regions = λ i. longer (m.region i) (are.regions i);
  children = λ i c. longer (child_at (m.partition i) c) (are.children i c);
}
  where
    longer : (r : Region) → IsInStore count r → IsInStore long r
    longer r is = record { below = λ root p at. let l = is.below root p at in omega (arith, l, less); rising = is.rising }
