-- The rows that a call leaves, and what they tell of the board.
use Rattle.std.proofs.Common.{◌≡◌, ◌<◌, ◌≤◌, ◌+◌, ◌++◌, ◌∷◌, ◌∙◌, inl, inr, ⊎_elim, ◌⊎◌, ℕ, zero, suc, List, Some, [], ap, arith, length, map, refl, subst, sym}
use Rattle.std.specs.Prelude.{All, slice_get, slice_index}
use Rattle.std.proofs.lemmas.Bool.{cases_eq, cases_lt}
use Rattle.std.proofs.lemmas.List.{get_or_past}
use Rattle.std.proofs.lemmas.List.Elements.{All-head, All-tail}
use Rattle.std.proofs.lemmas.Option.{none-some}
use Rattle.region_finder.specs.Listings.{AreRising}
use Rattle.region_tree.specs.declared.tree.OpNumber.{OpNumber}
use Rattle.region_tree.specs.declared.tree.RootId.{RootId}
use Rattle.dependence_graph.specs.Knots.{number}
use Rattle.task_code.specs.declared.job.Job.{Job}
use Rattle.machine_terms.specs.declared.frame.Frame.{Frame}
use Rattle.board_rules.specs.NumberedBoards.{Board, holds_claim}
use Rattle.regent_boards.specs.RegentMachine.{regent_ground}
use Rattle.code_boards.specs.Laws.{machine_of}
use Rattle.code_boards.specs.Views.{spaces_of}
use Rattle.board_terms.specs.declared.operation.Operation.{Operation}
use Rattle.board_terms.specs.States.{State, called_by, no_operation, operation_at}
use Rattle.board_trees.specs.Shows.{Leads, ShowsBoard, is_claimed}
use Rattle.changed_trees.specs.Changes.{IsAt}
use Rattle.called_trees.proofs.Changes.{row_here, row_new, row_old, size_more, speaks_of}
use Rattle.called_trees.proofs.Calling.{caller, with_child}

-- ---- rising numbers, and one more behind them

rising_tail : (x y : OpNumber) (ys : List OpNumber) → AreRising (x ∷ y ∷ ys) → AreRising (y ∷ ys)
rising_tail x y ys r k l =
    let e : suc (k + 1) ≡ suc k + 1 = omega arith in
    subst (λ (i : ℕ). slice_index (map (λ (o : OpNumber). o.0) (x ∷ y ∷ ys)) (suc k) < slice_index (map (λ (o : OpNumber). o.0) (x ∷ y ∷ ys)) i)
    (sym e) (r (suc k) (omega (arith, l)))

pub rising_more : (n : ℕ) (xs : List OpNumber) → All (λ (o : OpNumber). o.0 < n) xs → AreRising xs → AreRising (xs ++ number n ∷ [])
rising_more n [] b r k l = absurd (omega (arith, l))
rising_more n (x ∷ []) b r zero l = All-head (λ (o : OpNumber). o.0 < n) x [] b
rising_more n (x ∷ []) b r (suc k) l = absurd (omega (arith, l))
rising_more n (x ∷ y ∷ ys) b r zero l = r zero (omega arith)
rising_more n (x ∷ y ∷ ys) b r (suc k) l =
    let e : suc (k + 1) ≡ suc k + 1 = omega arith in
    subst (λ (i : ℕ). slice_index (map (λ (o : OpNumber). o.0) (x ∷ y ∷ ys ++ number n ∷ [])) (suc k) < slice_index (map (λ (o : OpNumber). o.0) (x ∷ y ∷ ys ++ number n ∷ [])) i)
    e (rising_more n (y ∷ ys) (All-tail (λ (o : OpNumber). o.0 < n) x (y ∷ ys) b) (rising_tail x y ys r) k (omega (arith, l)))

pub found_more : (xs more : List OpNumber) (c : ℕ) (x : OpNumber) → slice_get xs c ≡ Some x → slice_get (xs ++ more) c ≡ Some x
found_more [] more c x e = absurd (none-some x e)
found_more (y ∷ xs) more zero x e = e
found_more (y ∷ xs) more (suc c) x e = found_more xs more c x e

pub found_last : (xs : List OpNumber) (x : OpNumber) → slice_get (xs ++ x ∷ []) (length xs) ≡ Some x
found_last [] x = refl
found_last (y ∷ xs) x = found_last xs x

-- ---- the ways

module _ (job : Job) where
  -- a way among so many and one more
  pub way_among : (ways : List (List ℕ)) (last : List ℕ) (j : ℕ) (w : List ℕ) → IsAt job (ways ++ last ∷ []) j w → IsAt job ways j w ⊎ ((j ≡ length ways) × (last ≡ w))
  way_among [] last zero w e = inr (refl, some_way last w e)
    where
      some_way : (x y : List ℕ) → Some x ≡ Some y → x ≡ y
      some_way x y e = cc
  way_among [] last (suc j) w e = absurd (none-some w e)
  way_among (x ∷ ways) last zero w e = inl e
  way_among (x ∷ ways) last (suc j) w e = ⊎_elim (λ l. inl l) (λ r. inr (ap (λ n. suc n) r.0, r.1)) (way_among ways last j w e)

module _ (job : Job) (s : State) (b : Board (regent_ground (spaces_of job.code))) (h : ShowsBoard job s b) (k : ℕ) (v : List ℕ) (at : IsAt job b.ways k v) (f : Frame) where
  abbrev u : State
  u = with_child s k f

  abbrev n : ℕ
  n = length s.operations

  here : operation_at u k ≡ caller s k
  here = row_here job s b h k v at f

  fresh : operation_at u n ≡ called_by (number k) f
  fresh = row_new job s b h k v at f

  past : (j : ℕ) → n ≤ j → operation_at s j ≡ no_operation
  past j l = get_or_past s.operations j no_operation l

  row_else : (j : ℕ) → ¬ (j ≡ k) → ¬ (j ≡ n) → operation_at u j ≡ operation_at s j
  row_else j a c = ⊎_elim (λ l. row_old job s b h k v at f j l a)
      (λ l. get_or_past u.operations j no_operation (omega (arith, l, c, size_more job s b h k v at f)) ∙ sym (past j l)) (cases_lt j n)

  by_row : (P : ℕ → Type 0) → P k → P n → ((j : ℕ) → ¬ (j ≡ k) → ¬ (j ≡ n) → P j) → (j : ℕ) → P j
  by_row P one two others j = elim (cases_eq j k) [
    | inl q ↦ subst P (sym q) one
    | inr a ↦ elim (cases_eq j n) [ inl q ↦ subst P (sym q) two | inr c ↦ others j a c ]
  ]

  -- ---- roots of one's own

  module _ (none : f.own ≡ []) where
    pub own_same : (j : ℕ) → (operation_at u j).frame.own ≡ (operation_at s j).frame.own
    own_same = by_row (λ j. (operation_at u j).frame.own ≡ (operation_at s j).frame.own)
        (ap (λ (o : Operation). o.frame.own) here)
        (ap (λ (o : Operation). o.frame.own) fresh ∙ none ∙ sym (ap (λ (o : Operation). o.frame.own) (past n (omega arith))))
        (λ j a c. ap (λ (o : Operation). o.frame.own) (row_else j a c))

    pub own_made : (j : ℕ) → All (λ (r : RootId). r.0 < length s.roots) (operation_at u j).frame.own
    own_made j = subst (λ rs. All (λ (r : RootId). r.0 < length s.roots) rs) (sym (own_same j)) (h.own_made j)

    pub own_apart : (i j : ℕ) → ¬ (i ≡ j) → All (λ (r : RootId). All (λ (q : RootId). ¬ (r ≡ q)) (operation_at u j).frame.own) (operation_at u i).frame.own
    own_apart i j a = subst (λ rs. All (λ (r : RootId). All (λ (q : RootId). ¬ (r ≡ q)) (operation_at u j).frame.own) rs) (sym (own_same i))
        (subst (λ rs. All (λ (r : RootId). All (λ (q : RootId). ¬ (r ≡ q)) rs) (operation_at s i).frame.own) (sym (own_same j)) (h.own_apart i j a))

  -- ---- claims

  pub claims : (j seat : ℕ) → holds_claim (regent_ground (spaces_of job.code)) (machine_of job) j seat b.claims ≡ is_claimed job seat (operation_at u j).activity
  claims j seat = by_row (λ j. holds_claim (regent_ground (spaces_of job.code)) (machine_of job) j seat b.claims ≡ is_claimed job seat (operation_at u j).activity)
      (h.claims k seat ∙ sym (ap (λ (o : Operation). is_claimed job seat o.activity) here))
      (h.claims n seat ∙ ap (λ (o : Operation). is_claimed job seat o.activity) (past n (omega arith)) ∙ sym (ap (λ (o : Operation). is_claimed job seat o.activity) fresh))
      (λ j a c. h.claims j seat ∙ sym (ap (λ (o : Operation). is_claimed job seat o.activity) (row_else j a c))) j

  -- ---- children

  issued : All (λ (o : OpNumber). o.0 < n) (operation_at s k).children
  issued = (speaks_of job s b h k v at f k v at).children

  pub rising : (j : ℕ) → AreRising (operation_at u j).children
  rising = by_row (λ j. AreRising (operation_at u j).children)
      (subst AreRising (sym (ap (λ (o : Operation). o.children) here)) (rising_more n (operation_at s k).children issued (h.rising k)))
      (subst AreRising (sym (ap (λ (o : Operation). o.children) fresh)) (λ i l. absurd (omega (arith, l))))
      (λ j a c. subst (λ (o : Operation). AreRising o.children) (sym (row_else j a c)) (h.rising j))

  child_stays : (j c : ℕ) (x : OpNumber) → slice_get (operation_at s j).children c ≡ Some x → slice_get (operation_at u j).children c ≡ Some x
  child_stays = by_row (λ j. (c : ℕ) (x : OpNumber) → slice_get (operation_at s j).children c ≡ Some x → slice_get (operation_at u j).children c ≡ Some x)
      (λ c x q. ap (λ (o : Operation). slice_get o.children c) here ∙ found_more (operation_at s k).children (number n ∷ []) c x q)
      (λ c x q. absurd (none-some x (sym (ap (λ (o : Operation). slice_get o.children c) (past n (omega arith))) ∙ q)))
      (λ j a d c x q. ap (λ (o : Operation). slice_get o.children c) (row_else j a d) ∙ q)

  leads_still : (way : List ℕ) (j z : ℕ) → Leads job s j way z → Leads job u j way z
  leads_still [] j z l = l
  leads_still (c ∷ way) j z l = (l.0, child_stays j c (number l.0) l.1, leads_still way l.0 z l.2)

  leads_last : (way : List ℕ) (j : ℕ) → Leads job s j way k → Leads job u j (way ++ length (operation_at s k).children ∷ []) n
  leads_last [] j l = (
    n,
    ap (λ i. slice_get (operation_at u i).children (length (operation_at s k).children)) l
        ∙ ap (λ (o : Operation). slice_get o.children (length (operation_at s k).children)) here
        ∙ found_last (operation_at s k).children (number n),
    refl,
  )
  leads_last (c ∷ way) j l = (l.0, child_stays j c (number l.0) l.1, leads_last way l.0 l.2)

  pub leads : (j : ℕ) (w : List ℕ) → IsAt job (b.ways ++ (v ++ length (operation_at s k).children ∷ []) ∷ []) j w → Leads job u 0 w j
  leads j w q = ⊎_elim (λ l. leads_still w 0 j (h.leads j w l))
      (λ r. subst (λ i. Leads job u 0 w i) (sym (r.0 ∙ h.ways)) (subst (λ w. Leads job u 0 w n) r.1 (leads_last v 0 (h.leads k v at))))
      (way_among job b.ways (v ++ length (operation_at s k).children ∷ []) j w q)
