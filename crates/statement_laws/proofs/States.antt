-- States where one more name is bound, and where a block's names are taken away.
use Rattle.std.proofs.Common.{arith, ℤ, Bool, List, [], ◌∷◌, ◌++◌, None, Some, false, true, refl, ap, sym, subst, ℕ, suc, ◌≡◌, ◌∙◌, ◌<◌, ◌==◌, ◌⊎◌, inl, inr, cond, get_or, length, take}
use Rattle.std.proofs.lemmas.Bool.{cond-false, cond-true, eqb-true, lt-ltb}
use Rattle.std.proofs.lemmas.List.{get_or-take, get_or_append_left}
use Rattle.std.proofs.Math.Seq.{get_or-append_seam}
use Rattle.std.specs.Prelude.{nat_lt}
use Rattle.regent_tree.specs.Running.{State}
use Rattle.regent_tree.specs.Scopes.{Scope, bound_as, past, unbound, with_name}
use Rattle.regent_tree.specs.StaticTypes.{Reach}
use Rattle.regent_tree.specs.Syntax.{Name}
use Rattle.regent_tree.specs.Values.{Region, Value, a_truth, partition_of, region_of}
use Rattle.regent_tree.specs.declared.typing.Bound.{Bound}
use Rattle.regent_tree.specs.declared.typing.StaticType.{StaticType}
use Rattle.regent_tree.specs.declared.typing.StaticType.TheVariants.{Index as index_type, Integer as integer_type, Ispace as ispace_type, Nothing as no_type, Partition as partition_type, Pointer as pointer_type, Region as region_type, Truth as truth_type, Unknown as unknown_type}
use Rattle.check_laws.specs.SoundScopes.{Falls, IsSoundScope}
use Rattle.expression_laws.specs.Kinds.{GoInto, IsBoundTo, IsOfType, IsWellScoped, NamesFit, TermsBelow, TypeBelow, is_index, is_nothing, is_number, is_partition_of, is_pointer, is_region_of, is_space, is_truth, is_unknown, number_stood_for}
use Rattle.fact_laws.specs.Regions.{Interpretation, child_at}
use Rattle.expression_laws.specs.Sound.{AreInStore, Instance, IsInStore, IsNoCollection, IsSoundPlace, IsSoundState}
use Rattle.statement_laws.specs.Steady.{AgreeBelow, ArePlaced, KnowsMore, IsSoundAfter, IsStaticPlace}
use Rattle.statement_laws.proofs.Agree.{child_in_store, none_in_store, emptied, emptied_agrees, emptied_in_store, grown_place, stands_too}

-- ---- values where bindings stand for the same

module _ (n : ℕ) (a b : Interpretation) (e : AgreeBelow n a b) where
  go_too : (terms : List Reach) (rs : List Region) → TermsBelow n terms → GoInto a terms rs → GoInto b terms rs
  go_too terms [] l go = tt
  go_too [] (r ∷ rs) l go = absurd go
  go_too (None ∷ terms) (r ∷ rs) l go = go_too terms rs l go
  go_too (Some t ∷ terms) (r ∷ rs) l go = (stands_too n a b e t r l.0 go.0, go_too terms rs l.1 go.1)

  pub is_of_too : (t : StaticType) (v : Value) → TypeBelow n t → IsOfType a t v → IsOfType b t v
  is_of_too (integer_type w) v l is_number = is_number
  is_of_too truth_type v l is_truth = is_truth
  is_of_too (index_type k) v l is_index = is_index
  is_of_too (pointer_type k s args terms) v l (is_pointer {rs = rs} go) = is_pointer (go_too terms rs l go)
  is_of_too (ispace_type k) v l is_space = is_space
  is_of_too (region_type k s args t) v l (is_region_of {r = r} stands) = is_region_of (stands_too n a b e t r l stands)
  is_of_too (partition_type d r p) v l (is_partition_of same) = is_partition_of (sym (e.partitions p l) ∙ same)
  is_of_too no_type v l is_nothing = is_nothing
  is_of_too unknown_type v l is = is_unknown

-- a binding that is there has a number below the next
pub found_below : (next : ℕ) (names : List Bound) → Falls next names → (j : ℕ) → (j < next) ⊎ (bound_as names j ≡ unbound)
found_below next [] falls j = inr refl
found_below next (b ∷ bs) falls j = here (b.number == j) refl (found_below b.number bs falls.1 j)
  where
    here : (c : Bool) → (b.number == j) ≡ c → (j < b.number) ⊎ (bound_as bs j ≡ unbound) → (j < next) ⊎ (cond c b (bound_as bs j) ≡ unbound)
    here true q rest = let same = eqb-true b.number j q in let less = falls.0 in inl (omega (arith, same, less))
    here false q (inl l) = let less = falls.0 in inl (omega (arith, l, less))
    here false q (inr g) = inr g

pub unbound_fits : (m : Interpretation) (i : ℕ) (b : Bound) (v : Value) → b ≡ unbound → IsBoundTo m i b v
unbound_fits m i b v e = subst (λ (c : Bound). IsBoundTo m i c v) (sym e) (record { is_of = is_unknown; colour = λ q. absurd cc })

pub names_too : (s : Scope) (a b : Interpretation) (names : List Value) → IsSoundScope s → IsWellScoped s → AgreeBelow s.next a b → NamesFit a s names → NamesFit b s names
names_too s a b names scope well_scoped e fit i = elim (found_below s.next s.names scope.numbers i) [
  | inl l ↦ record {
    is_of = is_of_too s.next a b e (bound_as s.names i).static_type _ (well_scoped i).below (fit i).is_of;
    colour = λ q. sym (e.numbers i l) ∙ (fit i).colour q;
  }
  | inr g ↦ unbound_fits b i (bound_as s.names i) _ g
]

-- ---- places of names

pub placed_below : (names : List Bound) → ArePlaced names → (j : ℕ) → ((bound_as names j).place < length names) ⊎ (bound_as names j ≡ unbound)
placed_below [] placed j = inr refl
placed_below (b ∷ bs) placed j = here (b.number == j) (placed_below bs placed.1 j)
  where
    here : (c : Bool) → ((bound_as bs j).place < length bs) ⊎ (bound_as bs j ≡ unbound) →
        ((cond c b (bound_as bs j)).place < suc (length bs)) ⊎ (cond c b (bound_as bs j) ≡ unbound)
    here true rest = let e = placed.0 in inl (omega (arith, e))
    here false (inl l) = inl (omega (arith, l))
    here false (inr g) = inr g

-- ---- one more name

-- a binding that stands for what a value is
abbrev pub put : ℕ → Value → Interpretation → Interpretation
put i v m = record {
  region = λ j. cond (nat_lt j i) (m.region j) (region_of v);
  partition = λ j. cond (nat_lt j i) (m.partition j) (partition_of v);
  number = λ j. cond (nat_lt j i) (m.number j) (number_stood_for v);
}

pub put_agrees : (i : ℕ) (v : Value) (m : Interpretation) → AgreeBelow i m (put i v m)
put_agrees i v m = record {
  regions = λ j l. sym (cond-true (nat_lt j i) (m.region j) (region_of v) (lt-ltb j i l));
  partitions = λ j l. sym (cond-true (nat_lt j i) (m.partition j) (partition_of v) (lt-ltb j i l));
  numbers = λ j l. sym (cond-true (nat_lt j i) (m.number j) (number_stood_for v) (lt-ltb j i l));
}

not_below : (i : ℕ) → nat_lt i i ≡ false
not_below i = search (arith)

pub put_number : (i : ℕ) (v : Value) (m : Interpretation) → (put i v m).number i ≡ number_stood_for v
put_number i v m = cond-false (nat_lt i i) (m.number i) (number_stood_for v) (not_below i)

pub put_region : (i : ℕ) (v : Value) (m : Interpretation) → (put i v m).region i ≡ region_of v
put_region i v m = cond-false (nat_lt i i) (m.region i) (region_of v) (not_below i)

pub put_partition : (i : ℕ) (v : Value) (m : Interpretation) → (put i v m).partition i ≡ partition_of v
put_partition i v m = cond-false (nat_lt i i) (m.partition i) (partition_of v) (not_below i)

pub put_in_store : (i : ℕ) (v : Value) (m : Interpretation) (count : ℕ) → AreInStore m count → IsInStore count (region_of v) →
    ((c : ℤ) → IsInStore count (child_at (partition_of v) c)) → AreInStore (put i v m) count
put_in_store i v m count are region children =
    record { regions = λ j. region_at j (nat_lt j i); children = λ j c. child_of j c (nat_lt j i) }
  where
    region_at : (j : ℕ) (b : Bool) → IsInStore count (cond b (m.region j) (region_of v))
    region_at j true = are.regions j
    region_at j false = region

    child_of : (j : ℕ) (c : ℤ) (b : Bool) → IsInStore count (child_at (cond b (m.partition j) (partition_of v)) c)
    child_of j c true = are.children j c
    child_of j c false = children c

-- what is no collection has no points
pub plain_region : (count : ℕ) (v : Value) → IsNoCollection v → IsInStore count (region_of v)
plain_region count v none = subst (IsInStore count) (sym none.0) (none_in_store count)

pub plain_children : (count : ℕ) (v : Value) → IsNoCollection v → (c : ℤ) → IsInStore count (child_at (partition_of v) c)
plain_children count v none c = subst (λ q. IsInStore count (child_at q c)) (sym none.1) (child_in_store count c)

pub bound_fits : (s : Scope) (n : Name) (t : StaticType) (by_loop : Bool) (m : Interpretation) (names : List Value) (v : Value) → IsSoundScope s → IsWellScoped s → ArePlaced s.names →
    length names ≡ length s.names → NamesFit m s names → IsOfType (put s.next v m) t v → NamesFit (put s.next v m) (with_name s n t by_loop) (names ++ v ∷ [])
bound_fits s n t by_loop m names v scope well_scoped placed counted fit is i = here (s.next == i) refl
  where
    here : (c : Bool) → (s.next == i) ≡ c →
        IsBoundTo (put s.next v m) i (cond c (record { name = n; number = s.next; place = length s.names; static_type = t; by_loop = by_loop }) (bound_as s.names i))
        (get_or (names ++ v ∷ []) (cond c (record { name = n; number = s.next; place = length s.names; static_type = t; by_loop = by_loop }) (bound_as s.names i)).place (a_truth false))
    here true q = subst (λ w. IsBoundTo (put s.next v m) i (record { name = n; number = s.next; place = length s.names; static_type = t; by_loop = by_loop }) w)
        (sym (ap (λ k. get_or (names ++ v ∷ []) k (a_truth false)) (sym counted) ∙ get_or-append_seam names v [] (a_truth false)))
        (record { is_of = is; colour = λ r. subst (λ j. (put s.next v m).number j ≡ number_stood_for v) (eqb-true s.next i q) (put_number s.next v m) })
    here false q = elim (placed_below s.names placed i) [
      | inl l ↦ subst (IsBoundTo (put s.next v m) i (bound_as s.names i))
          (sym (get_or_append_left names (v ∷ []) (a_truth false) (bound_as s.names i).place (omega (arith, l, counted))))
          (names_too s m (put s.next v m) names scope well_scoped (put_agrees s.next v m) fit i)
      | inr g ↦ unbound_fits (put s.next v m) i (bound_as s.names i) _ g
    ]

-- ---- a block's end

-- the names of a scope are bound still in another
abbrev pub KeepsBindings : Scope → Scope → Type 0
KeepsBindings s t = (i : ℕ) → i < s.next → bound_as t.names i ≡ bound_as s.names i

pub left_fits : (s t : Scope) (m : Interpretation) (names : List Value) → IsSoundScope s → ArePlaced s.names → KeepsBindings s t → NamesFit m t names →
    NamesFit m (past s t) (take (length s.names) names)
left_fits s t m names scope placed more fit i = elim (found_below s.next s.names scope.numbers i) [
  | inl l ↦ elim (placed_below s.names placed i) [
    | inl k ↦ subst (IsBoundTo m i (bound_as s.names i)) (sym (get_or-take (length s.names) names (bound_as s.names i).place (a_truth false) k))
        (subst (λ (b : Bound). IsBoundTo m i b (get_or names b.place (a_truth false))) (more i l) (fit i))
    | inr g ↦ unbound_fits m i (bound_as s.names i) _ g
  ]
  | inr g ↦ unbound_fits m i (bound_as s.names i) _ g
]

-- ---- what was never reached

-- states are the same where bindings stand for the same
pub state_too : (x : Instance) (s : Scope) (m b : Interpretation) (u : State) → IsSoundScope s → IsWellScoped s → AgreeBelow s.next m b → AreInStore b (length u.store) →
    IsSoundState x m s u → IsSoundState x b s u
state_too x s m b u scope well_scoped e rooted st =
    record { names = names_too s m b u.names scope well_scoped e st.names; counted = st.counted; rooted = rooted; grown = st.grown; covered = st.covered }

-- the names of another scope are the same
pub state_same : (x : Instance) (s t : Scope) (m : Interpretation) (u : State) → t.names ≡ s.names → IsSoundState x m s u → IsSoundState x m t u
state_same x s t m u same st = record {
  names = λ i. subst (λ names. IsBoundTo m i (bound_as names i) (get_or u.names (bound_as names i).place (a_truth false))) (sym same) (st.names i);
  counted = st.counted ∙ ap length (sym same);
  rooted = st.rooted;
  grown = st.grown;
  covered = st.covered;
}

-- behind statements that weren't run
pub skipped : (x : Instance) (m : Interpretation) (s t : Scope) (u : State) → IsSoundScope s → IsStaticPlace x s → KnowsMore s t → t.names ≡ s.names → IsSoundPlace x m s → IsSoundState x m s u →
    IsSoundAfter x m s.next t u
skipped x m s t u scope static grows same place st = record {
  meant = emptied s.next m;
  agree = emptied_agrees s.next m;
  place = grown_place x m s t static grows same place;
  state = state_same x s t (emptied s.next m) u same
      (state_too x s m (emptied s.next m) u scope static.well_scoped (emptied_agrees s.next m) (emptied_in_store s.next m (length u.store) st.rooted) st);
}
