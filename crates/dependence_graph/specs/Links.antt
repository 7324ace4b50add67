-- How an operation that ends finds those that wait for it, and what is known of those that are ready.
use Rattle.std.specs.Prelude.{◌≡◌, ◌<◌, ◌≤◌, Bool, Contains, List, [], false, get_or, length, set, take, true, ℕ, All}
use Rattle.least_set.specs.Members.{has}
use Rattle.region_finder.specs.Listings.{Listed}
use Rattle.region_tree.specs.declared.tree.OpNumber.{OpNumber}
use Rattle.dependence_graph.specs.Entries.{Knot}
use Rattle.dependence_graph.specs.Knots.{all_done, is_done, is_ready, knot_at, number, stage_at}
use Rattle.dependence_graph.specs.declared.link.Link.{Link}
use Rattle.dependence_graph.specs.declared.stage.Stage.TheVariants.{Parked, Waiting}

abbrev pub no_link : Link
no_link = record { waiters = []; passed = 0 }

abbrev pub link_at : List Link → ℕ → Link
link_at ls k = get_or ls k no_link

abbrev pub waiters_at : List Link → ℕ → List ℕ
waiters_at ls k = (link_at ls k).waiters

-- one operation waits for another, which has not ended as Done
pub record WaitsFor (ks : List Knot) (k j : ℕ) : Type 0 where
  pub on : Contains (knot_at ks k).on (number j)
  pub undone : is_done (stage_at ks j) ≡ false

-- What is waited for was issued. Each Waiting operation is linked from those that it waits for, each Parked
-- one is the parent of those, and what it has passed of them is Done.
pub record IsLinked (ks : List Knot) (ls : List Link) : Type 0 where
  pub size : length ls ≡ length ks
  pub known : (k j : ℕ) → Contains (knot_at ks k).on (number j) → j < length ks
  pub waiters : (k j : ℕ) → (knot_at ks k).stage ≡ Waiting → WaitsFor ks k j →
      Contains (waiters_at ls j) k
  pub children : (k j : ℕ) → (knot_at ks k).stage ≡ Parked → WaitsFor ks k j →
      (knot_at ks j).parent.0 ≡ k
  pub passed : (k : ℕ) → all_done ks (take (link_at ls k).passed (knot_at ks k).on) ≡ true

abbrev pub restarted : List Link → ℕ → List Link
restarted ls k = set ls k (record { waiters = waiters_at ls k; passed = 0 })

-- more operations may be known to wait
pub record AreGrown (ls us : List Link) : Type 0 where
  pub size : length us ≡ length ls
  pub passed : (k : ℕ) → (link_at us k).passed ≡ (link_at ls k).passed
  pub waiters : (k n : ℕ) → Contains (waiters_at ls k) n → Contains (waiters_at us k) n

-- of one it is known by all of these
abbrev pub AreTold : List Link → List OpNumber → ℕ → Type 0
AreTold ls on waiter =
    (k : ℕ) → k < length ls → Contains on (number k) → Contains (waiters_at ls k) waiter

-- the set holds ready operations alone; these of them; all that another one held
abbrev pub AreReady : List Knot → List Bool → Type 0
AreReady ks flags = (k : ℕ) → has flags k ≡ true → is_ready ks k ≡ true

abbrev pub HasReady : List Knot → List ℕ → List Bool → Type 0
HasReady ks ns flags = (k : ℕ) → Contains ns k → is_ready ks k ≡ true → has flags k ≡ true

abbrev pub HasAll : List Bool → List Bool → Type 0
HasAll old flags = (k : ℕ) → has old k ≡ true → has flags k ≡ true

-- what is listed was issued in its context
pub record IsIssued (ks : List Knot) (l : Listed) : Type 0 where
  pub there : l.op.0 < length ks
  pub parent : (knot_at ks l.op.0).parent ≡ l.context

-- what a graph keeps
pub record IsKept (ks : List Knot) (ls : List Link) (flags : List Bool) (listing : List Listed) : Type 0 where
  pub main : 0 < length ks
  pub linked : IsLinked ks ls
  pub ready : (k : ℕ) → has flags k ≡ is_ready ks k
  pub room : length ks ≤ length flags
  pub listed : All (IsIssued ks) listing
