-- What is known of roots that are closed: others stay as they were, and frames that speak of none of them stay so.
use Rattle.std.proofs.Common.{◌≡◌, ◌<◌, ◌∷◌, ◌∙◌, ◌==◌, ◌||◌, ℕ, Bool, List, [], ap, cond, eqb-true, false, length, map, not, refl, subst, sym, true, ⊎_elim}
use Rattle.std.specs.Prelude.{All}
use Rattle.std.specs.List.{list_any}
use Rattle.std.proofs.lemmas.Bool.{cases_eq, false≢true, ne_eqb}
use Rattle.std.proofs.lemmas.List.Elements.{All-cons, All-head, All-nil, All-tail}
use Rattle.region_tree.specs.Needs.{AreNeeds, IsNeed, requirement_of, requirements_of}
use Rattle.region_tree.specs.Requirements.{Requirement}
use Rattle.region_tree.specs.Trees.{RegionTree}
use Rattle.region_tree.specs.declared.needs.Need.{Need}
use Rattle.region_tree.specs.declared.tree.RootId.{RootId}
use Rattle.logical_map.specs.Maps.{LogicalMap, closed, columns_of, is_live}
use Rattle.logical_map.proofs.Deciding.{closed_is_gone, closed_keeps_others}
use Rattle.board_terms.specs.declared.extent.Extent.{Extent}
use Rattle.board_terms.specs.Closings.{closed_all}
use Rattle.board_trees.specs.Names.{AreMade, IsNaming, requirement_named}
use Rattle.board_trees.proofs.Named.{is_naming, named_all, one_there}

-- ---- roots that are closed

-- a root is none of these
abbrev pub IsFree : List RootId → RootId → Type 0
IsFree gone r = All (λ (q : RootId). ¬ (r ≡ q)) gone

live_kept : (root : ℕ) (m : LogicalMap) (r : ℕ) → ¬ (r ≡ root) → is_live (closed root m) r ≡ is_live m r
live_kept root [] r n = refl
live_kept root (x ∷ xs) r n = chosen (x.root == root) refl (live_kept root xs r n)
  where
    chosen : (b : Bool) → (x.root == root) ≡ b → is_live (closed root xs) r ≡ is_live xs r →
        is_live (cond (not b) (x ∷ closed root xs) (closed root xs)) r ≡ ((x.root == r) || is_live xs r)
    chosen true e more = more ∙ ap (λ b. b || is_live xs r) (sym (ne_eqb x.root r (λ q. n (sym q ∙ eqb-true x.root root e))))
    chosen false e more = ap (λ b. (x.root == r) || b) more

live_before : (root : ℕ) (m : LogicalMap) (r : ℕ) → is_live (closed root m) r ≡ true → is_live m r ≡ true
live_before root m r e = ⊎_elim
    (λ q. absurd (false≢true (sym (closed_is_gone root m) ∙ ap (is_live (closed root m)) (sym q) ∙ e)))
    (λ n. sym (live_kept root m r n) ∙ e) (cases_eq r root)

pub live_was : (gone : List RootId) (m : LogicalMap) (r : ℕ) → is_live (closed_all gone m) r ≡ true → is_live m r ≡ true
live_was [] m r e = e
live_was (q ∷ gone) m r e = live_before q.0 m r (live_was gone (closed q.0 m) r e)

pub live_free : (gone : List RootId) (m : LogicalMap) (r : RootId) → is_live (closed_all gone m) r.0 ≡ true → IsFree gone r
live_free [] m r e = All-nil (λ (q : RootId). ¬ (r ≡ q))
live_free (q ∷ gone) m r e = All-cons (λ (q : RootId). ¬ (r ≡ q)) q gone
    (λ same. false≢true (sym (closed_is_gone q.0 m) ∙ ap (λ (x : RootId). is_live (closed q.0 m) x.0) (sym same) ∙ live_was gone (closed q.0 m) r.0 e))
    (live_free gone (closed q.0 m) r e)

other_number : (q r : RootId) → ¬ (r ≡ q) → ¬ (r.0 ≡ q.0)
other_number q r n e = n (λ i. record { 0 = e i })

pub live_still : (gone : List RootId) (m : LogicalMap) (r : RootId) → IsFree gone r → is_live m r.0 ≡ true → is_live (closed_all gone m) r.0 ≡ true
live_still [] m r h e = e
live_still (q ∷ gone) m r h e = live_still gone (closed q.0 m) r (All-tail (λ (q : RootId). ¬ (r ≡ q)) q gone h)
    (live_kept q.0 m r.0 (other_number q r (All-head (λ (q : RootId). ¬ (r ≡ q)) q gone h)) ∙ e)

pub all_live : (gone : List RootId) (m : LogicalMap) (rs : List RootId) → All (IsFree gone) rs → All (λ (r : RootId). is_live m r.0 ≡ true) rs → All (λ (r : RootId). is_live (closed_all gone m) r.0 ≡ true) rs
all_live gone m [] f e = All-nil (λ (r : RootId). is_live (closed_all gone m) r.0 ≡ true)
all_live gone m (r ∷ rs) f e = All-cons (λ (r : RootId). is_live (closed_all gone m) r.0 ≡ true) r rs
    (live_still gone m r (All-head (IsFree gone) r rs f) (All-head (λ (r : RootId). is_live m r.0 ≡ true) r rs e))
    (all_live gone m rs (All-tail (IsFree gone) r rs f) (All-tail (λ (r : RootId). is_live m r.0 ≡ true) r rs e))

pub columns_still : (gone : List RootId) (m : LogicalMap) (r : RootId) → IsFree gone r → columns_of (closed_all gone m) r.0 ≡ columns_of m r.0
columns_still [] m r h = refl
columns_still (q ∷ gone) m r h =
    columns_still gone (closed q.0 m) r (All-tail (λ (q : RootId). ¬ (r ≡ q)) q gone h)
    ∙ closed_keeps_others q.0 m r.0 (other_number q r (All-head (λ (q : RootId). ¬ (r ≡ q)) q gone h))

-- ---- what has one name under all namings is one of the roots

pub free_one : (gone : List RootId) (roots : List RootId) (r : RootId) → All (IsFree gone) roots → list_any (λ (x : RootId). x.0 == r.0) roots ≡ true → IsFree gone r
free_one gone [] r h e = absurd (false≢true e)
free_one gone (x ∷ xs) r h e = chosen (x.0 == r.0) refl e (free_one gone xs r (All-tail (IsFree gone) x xs h))
  where
    chosen : (b : Bool) → (x.0 == r.0) ≡ b → (b || list_any (λ (x : RootId). x.0 == r.0) xs) ≡ true → (list_any (λ (x : RootId). x.0 == r.0) xs ≡ true → IsFree gone r) → IsFree gone r
    chosen true q e more = subst (IsFree gone) (λ i. record { 0 = eqb-true x.0 r.0 q i }) (All-head (IsFree gone) x xs h)
    chosen false q e more = more e

-- ---- what is needed

module _ (extents : List Extent) (who : ℕ → ℕ) (makings : ℕ) (made : AreMade (length extents) who makings) (t : RegionTree) (roots : List RootId) (were : All (λ (r : RootId). r.0 < length extents) roots) (gone : List RootId)
    (free : All (IsFree gone) roots) (m : LogicalMap) where
  abbrev HasField : LogicalMap → Need → Type 0
  HasField m n = n.field < length (columns_of m n.root.0)

  pub fields_still : (X : List Requirement) (ns : List Need) → ((name : ℕ → ℕ) → IsNaming extents who roots name → X ≡ map (requirement_named name) (requirements_of t ns)) → AreNeeds t ns →
      All (HasField m) ns → All (HasField (closed_all gone m)) ns
  fields_still X [] says are h = All-nil (HasField (closed_all gone m))
  fields_still [] (n ∷ ns) says are h = let e = says (named_all extents who makings made 0) (is_naming extents who makings made 0 roots were) in absurd cc
  fields_still (x ∷ xs) (n ∷ ns) says are h =
      let in_roots = one_there extents who makings made n.root.0 x.root roots were (λ name is. root_named name (says name is)) in
      All-cons (HasField (closed_all gone m)) n ns
      (subst (λ cs. n.field < length cs) (sym (columns_still gone m n.root (free_one gone roots n.root free in_roots))) (All-head (HasField m) n ns h))
      (fields_still xs ns (λ name is. rest_named name (says name is)) (All-tail (IsNeed t) n ns are) (All-tail (HasField m) n ns h))
    where
      root_named : (name : ℕ → ℕ) → (x ∷ xs) ≡ map (requirement_named name) (requirements_of t (n ∷ ns)) → name n.root.0 ≡ x.root
      root_named name e = let f : x ≡ requirement_named name (requirement_of t n) = cc in sym (ap (λ (y : Requirement). y.root) f)

      rest_named : (name : ℕ → ℕ) → (x ∷ xs) ≡ map (requirement_named name) (requirements_of t (n ∷ ns)) → xs ≡ map (requirement_named name) (requirements_of t ns)
      rest_named name e = cc
