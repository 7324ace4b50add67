-- What changes leave of the links, and of the set of ready operations.
use Rattle.std.specs.Prelude.{Contains, Some, not}
use Rattle.std.proofs.Common.{◌≡◌, ◌≢◌, ◌<◌, ◌&&◌, ◌⊎◌, ◌∷◌, [], ◌∙◌, ℕ, suc, Bool, true, false, List, All, inl, inr, ⊎_elim, ap, sym, refl, subst, arith, length, set, take}
use Rattle.std.proofs.lemmas.Bool.{and_parts, cases_Bool, cases_eq, cases_lt, false≢true}
use Rattle.std.proofs.lemmas.List.{get_or-set_other, get_or-set_same, get_or_past, length-set}
use Rattle.std.proofs.lemmas.List.Elements.{All-filter, All-weaker}
use Rattle.region_finder.specs.Listings.{Listed, is_op, without}
use Rattle.region_tree.specs.declared.tree.OpNumber.{OpNumber}
use Rattle.least_set.specs.Members.{has}
use Rattle.dependence_graph.specs.Entries.{Knot}
use Rattle.dependence_graph.specs.Knots.{all_done, given_up, is_done, is_idle, is_in_progress, is_ready, knot_at, number, stage_at, with_stage}
use Rattle.dependence_graph.specs.Links.{AreGrown, AreReady, HasAll, HasReady, IsIssued, IsKept, IsLinked, WaitsFor, link_at, waiters_at}
use Rattle.dependence_graph.specs.declared.link.Link.{Link}
use Rattle.dependence_graph.specs.declared.stage.Stage.{Stage}
use Rattle.dependence_graph.specs.declared.stage.Stage.TheVariants.{Begun, Done, Dropped, Failed, Parked, Stopped, Waiting}
use Rattle.dependence_graph.proofs.Following.{Follows, GivesUp, all_done_same, all_give_up, done_other, done_same, follows_on, follows_stage, idle_there, not_ready, progress_there, ready_same, stage_other, stage_same}

-- ---- flags

pub has_set_same : (flags : List Bool) (k : ℕ) (b : Bool) → k < length flags → has (set flags k b) k ≡ b
has_set_same flags k b l = get_or-set_same flags k b false l

pub has_set_other : (flags : List Bool) (k j : ℕ) (b : Bool) → j ≢ k → has (set flags k b) j ≡ has flags j
has_set_other flags k j b n = get_or-set_other flags k j b false n

pub has_below : (flags : List Bool) (k : ℕ) → has flags k ≡ true → k < length flags
has_below flags k h = ⊎_elim (λ l. l)
    (λ g. absurd (false≢true (sym (get_or_past flags k false g) ∙ h))) (cases_lt k (length flags))

pub same_bools : (a b : Bool) → (a ≡ true → b ≡ true) → (b ≡ true → a ≡ true) → a ≡ b
same_bools true b f g = sym (f refl)
same_bools false true f g = g refl
same_bools false false f g = refl

-- ---- links

pub linked_grown : (ks : List Knot) (ls us : List Link) → IsLinked ks ls → AreGrown ls us → IsLinked ks us
linked_grown ks ls us l g = record {
  size = g.size ∙ l.size;
  known = l.known;
  waiters = λ k j w f. g.waiters j k (l.waiters k j w f);
  children = l.children;
  passed = λ k. ap (λ (n : ℕ). all_done ks (take n (knot_at ks k).on)) (g.passed k) ∙ l.passed k;
}

waits_before : (ks us : List Knot) (k j : ℕ) → Follows ks us → WaitsFor us k j → WaitsFor ks k j
waits_before ks us k j f w = record {
  on = subst (λ (ops : List OpNumber). Contains ops (number j)) (f.on k) w.on;
  undone = sym (f.done j) ∙ w.undone;
}

waiting_idle : (s : Stage) → s ≡ Waiting → is_idle s ≡ true
waiting_idle s e = ap is_idle e

parked_idle : (s : Stage) → s ≡ Parked → is_idle s ≡ true
parked_idle s e = ap is_idle e

pub linked_follows : (ks us : List Knot) (ls : List Link) → Follows ks us → IsLinked ks ls → IsLinked us ls
linked_follows ks us ls f l = record {
  size = l.size ∙ sym f.size;
  known = λ k j c. omega (arith, f.size, l.known k j (subst (λ (ops : List OpNumber). Contains ops (number j)) (f.on k) c));
  waiters = λ k j s w. l.waiters k j (sym (f.waits k (waiting_idle (knot_at us k).stage s)) ∙ s) (waits_before ks us k j f w);
  children = λ k j s w. ap (λ (o : OpNumber). o.0) (f.parent j)
      ∙ l.children k j (sym (f.waits k (parked_idle (knot_at us k).stage s)) ∙ s) (waits_before ks us k j f w);
  passed = λ k. all_done_same ks us f.done (take (link_at ls k).passed (knot_at us k).on)
      ∙ ap (λ (ops : List OpNumber). all_done ks (take (link_at ls k).passed ops)) (f.on k) ∙ l.passed k;
}

pub issued_follows : (ks us : List Knot) → Follows ks us → (listing : List Listed) → All (IsIssued ks) listing →
    All (IsIssued us) listing
issued_follows ks us f listing a =
    All-weaker (IsIssued ks) (IsIssued us) (λ l i. record {
      there = omega (arith, i.there, f.size);
      parent = f.parent l.op.0 ∙ i.parent;
    }) listing a

-- ---- one leaves those that wait, or are ready

-- what is ready after a step of one operation which doesn't wait behind it, and gives up of others
ready_without : (ks us ws : List Knot) (flags : List Bool) (op : ℕ) → Follows ks us → GivesUp us ws →
    ((k : ℕ) → has flags k ≡ is_ready ks k) → op < length flags → is_idle (knot_at us op).stage ≡ false →
    ((k : ℕ) → k ≢ op → (knot_at us k).stage ≡ (knot_at ks k).stage) →
    (k : ℕ) → has (set flags op false) k ≡ is_ready ws k
ready_without ks us ws flags op f g r l i o k = ⊎_elim
    (λ e. ap (has (set flags op false)) e ∙ has_set_same flags op false l
    ∙ sym (ap (is_ready ws) e ∙ g.ready op ∙ not_ready us op i))
    (λ n. has_set_other flags op k false n ∙ r k ∙ sym (g.ready k ∙ ready_same ks us k f (o k n)))
    (cases_eq k op)

itself : (ks : List Knot) → GivesUp ks ks
itself ks = record {
  follows = record { size = refl; parent = λ k. refl; on = λ k. refl; done = λ k. refl; waits = λ k h. refl };
  ready = λ k. refl;
}

kept_behind : (ks us ws : List Knot) (ls : List Link) (flags : List Bool) (listing : List Listed) (op : ℕ) →
    IsKept ks ls flags listing → Follows ks us → GivesUp us ws → op < length ks → is_idle (knot_at us op).stage ≡ false →
    ((k : ℕ) → k ≢ op → (knot_at us k).stage ≡ (knot_at ks k).stage) →
    IsKept ws ls (set flags op false) listing
kept_behind ks us ws ls flags listing op k f g l i o =
    let all = follows_on ks us ws f g.follows in
    record {
      main = omega (arith, k.main, all.size);
      linked = linked_follows ks ws ls all k.linked;
      ready = ready_without ks us ws flags op f g k.ready (omega (arith, l, k.room)) i o;
      room = omega (arith, k.room, all.size, length-set flags op false);
      listed = issued_follows ks ws all listing k.listed;
    }

others_stay : (ks : List Knot) (op : ℕ) (s : Stage) (k : ℕ) → k ≢ op →
    (knot_at (with_stage ks op s) k).stage ≡ (knot_at ks k).stage
others_stay ks op s k n = ap (λ (x : Knot). x.stage) (stage_other ks op k s n)

own_stage : (ks : List Knot) (op : ℕ) (s : Stage) → op < length ks → is_idle s ≡ false →
    is_idle (knot_at (with_stage ks op s) op).stage ≡ false
own_stage ks op s l i = ap (λ (x : Knot). is_idle x.stage) (stage_same ks op s l) ∙ i

ready_stage : (s : Stage) (b : Bool) → (is_idle s && b) ≡ true → is_idle s ≡ true
ready_stage s b h = (and_parts (is_idle s) b h).0

idle_not_done : (s : Stage) → is_idle s ≡ true → is_done (Some s) ≡ false
idle_not_done Waiting h = refl
idle_not_done Parked h = refl
idle_not_done Begun h = absurd (false≢true h)
idle_not_done Stopped h = absurd (false≢true h)
idle_not_done Done h = absurd (false≢true h)
idle_not_done Failed h = absurd (false≢true h)
idle_not_done Dropped h = absurd (false≢true h)

pub idle_cases : (s : Stage) → is_idle s ≡ true → (s ≡ Waiting) ⊎ (s ≡ Parked)
idle_cases Waiting h = inl refl
idle_cases Parked h = inr refl
idle_cases Begun h = absurd (false≢true h)
idle_cases Stopped h = absurd (false≢true h)
idle_cases Done h = absurd (false≢true h)
idle_cases Failed h = absurd (false≢true h)
idle_cases Dropped h = absurd (false≢true h)

pub progress_not_done : (s : Stage) → is_in_progress s ≡ true → is_done (Some s) ≡ false
progress_not_done Waiting h = absurd (false≢true h)
progress_not_done Parked h = refl
progress_not_done Begun h = refl
progress_not_done Stopped h = refl
progress_not_done Done h = absurd (false≢true h)
progress_not_done Failed h = absurd (false≢true h)
progress_not_done Dropped h = absurd (false≢true h)

-- a ready operation begins
pub kept_begun : (ks : List Knot) (ls : List Link) (flags : List Bool) (listing : List Listed) (op : ℕ) →
    IsKept ks ls flags listing → is_ready ks op ≡ true →
    IsKept (with_stage ks op Begun) ls (set flags op false) listing
kept_begun ks ls flags listing op k r =
    let idle = ready_stage (knot_at ks op).stage (all_done ks (knot_at ks op).on) r in
    let here = idle_there ks op idle in
    kept_behind ks (with_stage ks op Begun) (with_stage ks op Begun) ls flags listing op k
    (follows_stage ks op Begun here refl (sym (idle_not_done (knot_at ks op).stage idle)))
    (itself (with_stage ks op Begun)) here (own_stage ks op Begun here refl) (others_stay ks op Begun)

-- one in progress fails, and others give up
pub kept_failed : (ks : List Knot) (ls : List Link) (flags : List Bool) (listing : List Listed) (op : ℕ) →
    IsKept ks ls flags listing → is_in_progress (knot_at ks op).stage ≡ true →
    IsKept (given_up (with_stage ks op Failed)) ls (set flags op false) listing
kept_failed ks ls flags listing op k p =
    let here = progress_there ks op p in
    kept_behind ks (with_stage ks op Failed) (given_up (with_stage ks op Failed)) ls flags listing op k
    (follows_stage ks op Failed here refl (sym (progress_not_done (knot_at ks op).stage p)))
    (all_give_up (with_stage ks op Failed)) here (own_stage ks op Failed here refl) (others_stay ks op Failed)

-- ---- one ends as Done

module _ (ks : List Knot) (op : ℕ) (here : op < length ks) where
  abbrev after : List Knot
  after = with_stage ks op Done

  more_done : (j : ℕ) → is_done (stage_at ks j) ≡ true → is_done (stage_at after j) ≡ true
  more_done j h = ⊎_elim
      (λ e. ap (λ (n : ℕ). is_done (stage_at after n)) e ∙ ap is_done (done_same ks op Done here))
      (λ n. ap is_done (done_other ks op j Done n) ∙ h)
      (cases_eq j op)

  more_all_done : (ops : List OpNumber) → all_done ks ops ≡ true → all_done after ops ≡ true
  more_all_done [] h = refl
  more_all_done (o ∷ ops) h =
      let parts = and_parts (is_done (stage_at ks o.0)) (all_done ks ops) h in
      ap (λ (b : Bool). b && all_done after ops) (more_done o.0 parts.0) ∙ more_all_done ops parts.1

  -- what is clear only now waited for it
  waited_for : (ops : List OpNumber) → all_done ks ops ≡ false → all_done after ops ≡ true →
      Contains ops (number op)
  waited_for [] h now = absurd (false≢true (sym h))
  waited_for (o ∷ ops) h now =
      let parts = and_parts (is_done (stage_at after o.0)) (all_done after ops) now in
      ⊎_elim
      (λ e. subst (λ (n : ℕ). Contains (o ∷ ops) (number n)) e (0, omega arith, refl))
      (λ n. let rest = waited_for ops (sym (ap (λ (b : Bool). b && all_done ks ops)
      (sym (ap is_done (done_other ks op o.0 Done n)) ∙ parts.0)) ∙ h) parts.1 in
      (suc rest.0, omega (arith, rest.1), rest.2))
      (cases_eq o.0 op)

  stage_before : (k : ℕ) (s : Stage) → is_idle s ≡ true → (knot_at after k).stage ≡ s → k ≢ op
  stage_before k s i e same = absurd (false≢true
      (sym (ap (λ (x : Knot). is_idle x.stage) (stage_same ks op Done here))
      ∙ ap (λ (n : ℕ). is_idle (knot_at after n).stage) (sym same) ∙ ap is_idle e ∙ i))

  waits_still : (k j : ℕ) → k ≢ op → WaitsFor after k j → WaitsFor ks k j
  waits_still k j n w = record {
    on = subst (λ (x : Knot). Contains x.on (number j)) (stage_other ks op k Done n) w.on;
    undone = ⊎_elim (λ e. absurd (false≢true (sym w.undone ∙ more_done j e))) (λ e. e) (cases_Bool (is_done (stage_at ks j)));
  }

  on_same : (k : ℕ) → (knot_at after k).on ≡ (knot_at ks k).on
  on_same k = ⊎_elim
      (λ e. ap (λ (n : ℕ). (knot_at after n).on) e ∙ ap (λ (x : Knot). x.on) (stage_same ks op Done here)
      ∙ ap (λ (n : ℕ). (knot_at ks n).on) (sym e))
      (λ n. ap (λ (x : Knot). x.on) (stage_other ks op k Done n)) (cases_eq k op)

  parent_same : (k : ℕ) → (knot_at after k).parent ≡ (knot_at ks k).parent
  parent_same k = ⊎_elim
      (λ e. ap (λ (n : ℕ). (knot_at after n).parent) e ∙ ap (λ (x : Knot). x.parent) (stage_same ks op Done here)
      ∙ ap (λ (n : ℕ). (knot_at ks n).parent) (sym e))
      (λ n. ap (λ (x : Knot). x.parent) (stage_other ks op k Done n)) (cases_eq k op)

  size_same : length after ≡ length ks
  size_same = length-set ks op (record { parent = (knot_at ks op).parent; on = (knot_at ks op).on; stage = Done })

  pub linked_done : (ls : List Link) → IsLinked ks ls → IsLinked (with_stage ks op Done) ls
  linked_done ls l = record {
    size = l.size ∙ sym size_same;
    known = λ k j c. omega (arith, size_same, l.known k j (subst (λ (ops : List OpNumber). Contains ops (number j)) (on_same k) c));
    waiters = λ k j s w. let n = stage_before k Waiting refl s in
        l.waiters k j (sym (others_stay ks op Done k n) ∙ s) (waits_still k j n w);
    children = λ k j s w. let n = stage_before k Parked refl s in
        ap (λ (o : OpNumber). o.0) (parent_same j)
        ∙ l.children k j (sym (others_stay ks op Done k n) ∙ s) (waits_still k j n w);
    passed = λ k. more_all_done (take (link_at ls k).passed (knot_at after k).on)
        (ap (λ (ops : List OpNumber). all_done ks (take (link_at ls k).passed ops)) (on_same k) ∙ l.passed k);
  }

  pub ready_done : (flags : List Bool) → ((k : ℕ) → has flags k ≡ is_ready ks k) → op < length flags →
      AreReady (with_stage ks op Done) (set flags op false)
  ready_done flags r l k h = ⊎_elim
      (λ e. absurd (false≢true (sym (has_set_same flags op false l) ∙ ap (has (set flags op false)) (sym e) ∙ h)))
      (λ n. still n (sym (r k) ∙ sym (has_set_other flags op k false n) ∙ h))
      (cases_eq k op)
    where
      still : k ≢ op → is_ready ks k ≡ true → is_ready after k ≡ true
      still n e =
          let parts = and_parts (is_idle (knot_at ks k).stage) (all_done ks (knot_at ks k).on) e in
          ap (λ (s : Stage). is_idle s && all_done after (knot_at after k).on) (others_stay ks op Done k n)
          ∙ ap (λ (b : Bool). b && all_done after (knot_at after k).on) parts.0
          ∙ ap (all_done after) (on_same k) ∙ more_all_done (knot_at ks k).on parts.1

  -- the set holds all that is ready, once those that wait for the operation and its parent are looked at
  pub all_ready : (ls : List Link) (flags new : List Bool) → is_done (stage_at ks op) ≡ false → IsLinked ks ls →
      ((k : ℕ) → has flags k ≡ is_ready ks k) → AreReady (with_stage ks op Done) new →
      HasAll (set flags op false) new → HasReady (with_stage ks op Done) (waiters_at ls op) new →
      (is_ready (with_stage ks op Done) (knot_at ks op).parent.0 ≡ true → has new (knot_at ks op).parent.0 ≡ true) →
      (k : ℕ) → has new k ≡ is_ready (with_stage ks op Done) k
  all_ready ls flags new undone l r a h w p k = same_bools (has new k) (is_ready after k) (a k) found
    where
      found : is_ready after k ≡ true → has new k ≡ true
      found e =
          let parts = and_parts (is_idle (knot_at after k).stage) (all_done after (knot_at after k).on) e in
          let n = not_op (knot_at after k).stage refl parts.0 in
          let idle = ap is_idle (sym (others_stay ks op Done k n)) ∙ parts.0 in
          ⊎_elim
          (λ was. h k (has_set_other flags op k false n ∙ was))
          (λ was. only_now idle
          (waited_for (knot_at ks k).on
          (sym (ap (λ (b : Bool). b && all_done ks (knot_at ks k).on) idle) ∙ sym (r k) ∙ was)
          (ap (all_done after) (sym (on_same k)) ∙ parts.1)))
          (cases_Bool (has flags k))
        where
          not_op : (s : Stage) → (knot_at after k).stage ≡ s → is_idle s ≡ true → k ≢ op
          not_op s f i = stage_before k s i f

          only_now : is_idle (knot_at ks k).stage ≡ true → Contains (knot_at ks k).on (number op) → has new k ≡ true
          only_now idle c = ⊎_elim
              (λ s. w k (l.waiters k op s (record { on = c; undone = undone })) e)
              (λ s. let own = l.children k op s (record { on = c; undone = undone }) in
              ap (has new) (sym own) ∙ p (ap (is_ready after) own ∙ e))
              (idle_cases (knot_at ks k).stage idle)

  pub issued_done : (listing : List Listed) → All (IsIssued ks) listing → All (IsIssued (with_stage ks op Done)) (without listing op)
  issued_done listing a = All-filter (λ (l : Listed). not (is_op op l)) (IsIssued after) listing
      (All-weaker (IsIssued ks) (IsIssued after) (λ l i. record {
        there = omega (arith, i.there, size_same);
        parent = parent_same l.op.0 ∙ i.parent;
      }) listing a)
