-- One operation calls: what others see of the board stays.
use Rattle.std.proofs.Common.{◌≡◌, ◌<◌, ◌≤◌, ◌⊎◌, ◌+◌, ◌++◌, ◌∷◌, ◌∙◌, ◌&&◌, ◌||◌, inl, inr, ℕ, zero, suc, List, None, Some, [], ap, arith, cond, false, length, not, refl, subst, sym, true}
use Rattle.std.specs.Prelude.{All, set}
use Rattle.std.specs.List.{Contains}
use Rattle.std.proofs.lemmas.Bool.{cases_eq, cases_lt, false≢true, le-ltb}
use Rattle.std.proofs.lemmas.List.{get_or_append_left, get_or-append-add, get_or-set_other, get_or-set_same, length-append, length-set}
use Rattle.std.proofs.lemmas.List.Elements.{All-head, All-nil, All-tail, Contains-append_left, Contains-append_right}
use Rattle.std.proofs.lemmas.Option.{none-some, same_Some}
use Rattle.region_finder.specs.Listings.{Listed}
use Rattle.region_tree.specs.declared.tree.OpNumber.{OpNumber}
use Rattle.dependence_graph.specs.Entries.{Knot}
use Rattle.dependence_graph.specs.Knots.{has_failed, is_done, knot_at, number, some_failed, stage_at}
use Rattle.task_code.specs.declared.job.Job.{Job}
use Rattle.machine_terms.specs.declared.frame.Frame.{Frame}
use Rattle.board_rules.specs.NumberedBoards.{Board, way_of}
use Rattle.regent_boards.specs.RegentMachine.{regent_ground}
use Rattle.code_boards.specs.Laws.{machine_of}
use Rattle.code_boards.specs.Views.{spaces_of}
use Rattle.board_terms.specs.declared.operation.Operation.{Operation}
use Rattle.board_terms.specs.Closings.{all_over}
use Rattle.board_terms.specs.Stages.{is_over, stage_at as place_of}
use Rattle.board_terms.specs.Stages as table
use Rattle.board_terms.specs.States.{State, called_by, no_operation, operation_at}
use Rattle.board_trees.specs.Shows.{ShowsBoard}
use Rattle.board_trees.specs.Waits.{has_ended}
use Rattle.changed_trees.specs.Changes.{Change, IsAt}
use Rattle.called_trees.proofs.Issued.{ended_old, inserted_last, knot_old, length_more, listed_below, new_ongoing, stage_old}
use Rattle.called_trees.proofs.Calling.{caller, child_knot, child_on, entry, with_child}
use Rattle.called_trees.proofs.Within.{SpeaksOfIssued, speaks}

-- ---- ways

module _ (job : Job) where
  pub way_still : (ways behind : List (List ℕ)) (j : ℕ) (w : List ℕ) → IsAt job ways j w → IsAt job (ways ++ behind) j w
  way_still [] behind j w e = absurd (none-some w e)
  way_still (x ∷ ways) behind zero w e = e
  way_still (x ∷ ways) behind (suc j) w e = way_still ways behind j w e

  pub way_below : (ways : List (List ℕ)) (j : ℕ) (w : List ℕ) → IsAt job ways j w → j < length ways
  way_below [] j w e = absurd (none-some w e)
  way_below (x ∷ ways) zero w e = omega arith
  way_below (x ∷ ways) (suc j) w e = let l = way_below ways j w e in omega (arith, l)

  pub other_way : (ways : List (List ℕ)) (k : ℕ) (v : List ℕ) → IsAt job ways k v → (j : ℕ) (w : List ℕ) → IsAt job ways j w → ¬ (w ≡ v) → ¬ (j ≡ k)
  other_way ways k v at j w e n q = n (same_Some w v (sym e ∙ ap (way_of (regent_ground (spaces_of job.code)) (machine_of job) ways) q ∙ at))

  pub way_last : (ways : List (List ℕ)) (w : List ℕ) → IsAt job (ways ++ w ∷ []) (length ways) w
  way_last [] w = refl
  way_last (x ∷ ways) w = way_last ways w

-- ---- the state

module _ (job : Job) (s : State) (b : Board (regent_ground (spaces_of job.code))) (h : ShowsBoard job s b) (k : ℕ) (v : List ℕ) (at : IsAt job b.ways k v) (f : Frame) where
  pub there : k < length s.waits.knots
  there = omega (arith, way_below job b.ways k v at, h.ways, h.knots)

  pub within : k < length s.operations
  within = omega (arith, there, h.knots)

  abbrev u : State
  u = with_child s k f

  abbrev new : Knot
  new = child_knot s k f

  abbrev e : Listed
  e = entry s k f

  rows_long : length (set s.operations k (caller s k)) ≡ length s.operations
  rows_long = length-set s.operations k (caller s k)

  pub size_more : length u.operations ≡ suc (length s.operations)
  size_more = length-append (set s.operations k (caller s k)) (called_by (number k) f ∷ []) ∙ (let r = rows_long in omega (arith, r))

  pub row_here : operation_at u k ≡ caller s k
  row_here = get_or_append_left (set s.operations k (caller s k)) (called_by (number k) f ∷ []) no_operation k (omega (arith, within, rows_long)) ∙ get_or-set_same s.operations k (caller s k) no_operation within

  pub row_old : (j : ℕ) → j < length s.operations → ¬ (j ≡ k) → operation_at u j ≡ operation_at s j
  row_old j l n = get_or_append_left (set s.operations k (caller s k)) (called_by (number k) f ∷ []) no_operation j (omega (arith, l, rows_long)) ∙ get_or-set_other s.operations k j (caller s k) no_operation n

  pub row_new : operation_at u (length s.operations) ≡ called_by (number k) f
  row_new =
      let last : length (set s.operations k (caller s k)) + 0 ≡ length s.operations = omega (arith, rows_long) in
      ap (operation_at u) (sym last) ∙ get_or-append-add (set s.operations k (caller s k)) (called_by (number k) f ∷ []) 0 no_operation

  issued : (j : ℕ) (w : List ℕ) → IsAt job b.ways j w → j < length s.operations
  issued j w e = let l = way_below job b.ways j w e in omega (arith, l, h.ways)

  known : (j : ℕ) → j < length s.operations → j < length s.waits.knots
  known j l = omega (arith, l, h.knots)

  pub starts : is_done (Some new.stage) ≡ false
  starts = new_ongoing (some_failed s.waits.knots (child_on s k f))

  pub knot_kept : (j : ℕ) → j < length s.operations → knot_at u.waits.knots j ≡ knot_at s.waits.knots j
  knot_kept j l = knot_old s.waits.knots new j (known j l)

  pub speaks_of : (j : ℕ) (w : List ℕ) → IsAt job b.ways j w → SpeaksOfIssued job s h.who b.ways j
  speaks_of j w e = speaks job s h.who b.ways w [] 0 [] [] b.state.tree h.shows (All-nil _) j (h.leads j w e)

  pub ended_same : (j : ℕ) → j < length s.operations → has_ended u.waits.knots j ≡ has_ended s.waits.knots j
  ended_same j l = ended_old s.waits.knots new starts j (known j l)

  failed_same : (j : ℕ) → j < length s.operations → has_failed (stage_at u.waits.knots j) ≡ has_failed (stage_at s.waits.knots j)
  failed_same j l = ap has_failed (stage_old s.waits.knots new j (known j l))

  pub some_failed_same : (on : List OpNumber) → All (λ (o : OpNumber). o.0 < length s.operations) on → some_failed u.waits.knots on ≡ some_failed s.waits.knots on
  some_failed_same [] l = refl
  some_failed_same (o ∷ on) l =
      let P = λ (o : OpNumber). o.0 < length s.operations in
      λ i. failed_same o.0 (All-head P o on l) i || some_failed_same on (All-tail P o on l) i

  over_same : (j : ℕ) → j < length s.operations → is_over (place_of u j) ≡ is_over (place_of s j)
  over_same j l = elim (cases_eq j k) [
    | inl q ↦ subst (λ x. is_over (place_of u x) ≡ is_over (place_of s x)) (sym q)
        (λ i. is_over (table.stage_of (knot_kept k within i).stage (row_here i).wait (row_here i).activity))
    | inr q ↦ λ i. is_over (table.stage_of (knot_kept j l i).stage (row_old j l q i).wait (row_old j l q i).activity)
  ]

  all_over_same : (ks : List OpNumber) → All (λ (o : OpNumber). o.0 < length s.operations) ks → all_over u ks ≡ all_over s ks
  all_over_same [] l = refl
  all_over_same (o ∷ ks) l =
      let P = λ (o : OpNumber). o.0 < length s.operations in
      λ i. over_same o.0 (All-head P o ks l) i && all_over_same ks (All-tail P o ks l) i

  op_is : e.op ≡ number (length s.operations)
  op_is = ap number h.knots

  listed_before : All (λ (l : Listed). l.op.0 < e.op.0) s.waits.listing
  listed_before = subst (λ (o : OpNumber). All (λ (l : Listed). l.op.0 < o.0) s.waits.listing) (sym op_is)
      (listed_below (λ j. not (has_ended s.waits.knots j)) (length s.operations) s.waits.listing (omega (arith, within)) h.listed)

  pub entry_there : Contains u.waits.listing e
  entry_there = subst (λ ls. Contains ls e) (sym (inserted_last e s.waits.listing listed_before)) (Contains-append_right s.waits.listing (e ∷ []) e (0, omega arith, refl))

  -- the others are listed still
  pub others_there : (x : Listed) → Contains s.waits.listing x → Contains u.waits.listing x
  others_there x c = subst (λ ls. Contains ls x) (sym (inserted_last e s.waits.listing listed_before)) (Contains-append_left s.waits.listing (e ∷ []) x c)

  -- one that has ended was issued
  ended_issued : (j : ℕ) → has_ended s.waits.knots j ≡ true → j < length s.operations
  ended_issued j t = by_size (cases_lt j (length s.waits.knots))
    where
      by_size : (j < length s.waits.knots) ⊎ (length s.waits.knots ≤ j) → j < length s.operations
      by_size (inl l) = omega (arith, l, h.knots)
      by_size (inr l) = absurd (false≢true (sym (ap is_done (ap (λ q. cond q (Some (knot_at s.waits.knots j).stage) None) (le-ltb j (length s.waits.knots) l))) ∙ t))

  pub same_activity : (j : ℕ) → j < length s.operations → (operation_at u j).activity ≡ (operation_at s j).activity
  same_activity j l = elim (cases_eq j k) [
    | inl q ↦ subst (λ x. (operation_at u x).activity ≡ (operation_at s x).activity) (sym q) (ap (λ (o : Operation). o.activity) row_here)
    | inr q ↦ ap (λ (o : Operation). o.activity) (row_old j l q)
  ]

  pub change : (later : List (List ℕ)) → Change job s u h.who h.who b.ways (b.ways ++ later) (λ w. w ≡ v)
  change later = record {
    size = λ j l. omega (arith, l, size_more);
    knots = λ j l. omega (arith, l, length_more s.waits.knots new);
    way = λ j w e. way_still job b.ways later j w e;
    row = λ j w e n. row_old j (issued j w e) (other_way job b.ways k v at j w e n);
    knot = λ j w e n. knot_kept j (issued j w e);
    ended = λ j t. ended_same j (ended_issued j t) ∙ t;
    answers = λ j t. same_activity j (ended_issued j t);
    failed = λ j w e n idle f. some_failed_same (knot_at s.waits.knots j).on ((speaks_of j w e).on idle) ∙ f;
    over = λ j w e n. all_over_same (operation_at s j).children (speaks_of j w e).children;
    parent = λ j l. elim (cases_eq j k) [
      | inl q ↦ subst (λ x. (operation_at u x).parent ≡ (operation_at s x).parent) (sym q) (ap (λ (o : Operation). o.parent) row_here)
      | inr q ↦ ap (λ (o : Operation). o.parent) (row_old j l q)
    ];
    nodes = λ n l. (l, refl);
    names = λ r l. refl;
    there = λ r l. l;
    fields = λ r field l. l;
    entries = λ j w a n x q f c. others_there x c;
  }
