-- What the children that were issued cover of earlier siblings is listed no more: all shows as before.
use Rattle.std.proofs.Common.{◌≡◌, ◌<◌, ◌++◌, ◌∷◌, ◌∙◌, ◌&&◌, ⊎_elim, ℕ, List, [], ap, append-nil, append_assoc, length, refl, subst, sym}
use Rattle.std.specs.Prelude.{All, nat_lt}
use Rattle.std.specs.List.{Contains}
use Rattle.std.proofs.lemmas.Bool.{ne_eqb}
use Rattle.std.proofs.lemmas.List.Elements.{All-append, All-contains, All-head, All-nil, All-tail, All-weaker}
use Rattle.region_finder.specs.Listings.{all_uncovered}
use Rattle.region_tree.specs.Requirements.{Requirement}
use Rattle.region_tree.specs.declared.tree.OpNumber.{OpNumber}
use Rattle.region_tree.specs.declared.tree.RootId.{RootId}
use Rattle.task_code.specs.declared.job.Job.{Job}
use Rattle.board_rules.specs.Boards.{Items, Operation as Node, idle, nothing, op}
use Rattle.board_rules.specs.Ground.{Ground}
use Rattle.board_rules.specs.NumberedBoards.{Board}
use Rattle.board_rules.specs.RootNumbers.{made_in}
use Rattle.board_rules.specs.Running.{Element}
use Rattle.regent_boards.specs.Frames as board
use Rattle.regent_boards.specs.RegentMachine.{regent_ground}
use Rattle.code_boards.specs.Laws.{machine_of}
use Rattle.code_boards.specs.Views.{spaces_of}
use Rattle.board_terms.specs.declared.operation.Operation.{Operation}
use Rattle.board_terms.specs.States.{State, operation_at}
use Rattle.board_trees.specs.Names.{IsNaming}
use Rattle.board_trees.specs.Shows.{AreListed, Row, Shows, ShowsBoard, siblings}
use Rattle.board_trees.specs.Waits.{Sibling}
use Rattle.board_trees.proofs.Along.{not_above}
use Rattle.changed_trees.specs.Changes.{Change, IsAt, IsWider}
use Rattle.changed_trees.specs.Open.{Asked, HasAt}
use Rattle.changed_trees.proofs.Below.{children_kept, node_within}
use Rattle.changed_trees.proofs.Edited.{all_shows, has_edited}
use Rattle.changed_trees.proofs.Kept.{back, seen_kept, wider_itself, wider_on}
use Rattle.called_trees.proofs.Changes.{other_way}
use Rattle.called_trees.proofs.Covered.{ops_uncovered, uncovered_else, uncovered_there}
use Rattle.called_trees.proofs.Edits.{edited_same}
use Rattle.called_trees.proofs.Entries.{covered_listed}
use Rattle.called_trees.proofs.Issuing.{IsGoing}
use Rattle.called_trees.proofs.Calling.{IsAlike, IsAmong, IsCalling, NewCall, NewChild, Calling, by_calling, items_of, calling_shows, sibling_of, still_waits}

-- what such a child covers of those with smaller numbers is listed no more
abbrev pub with_covered : Job → ℕ → State → ℕ → NewChild → State
with_covered job depth s k d = record s { waits = record { knots = s.waits.knots; listing = all_uncovered k d.number (items_of job depth d.call) s.waits.listing } }

module _ (job : Job) (s : State) (b : Board (regent_ground (spaces_of job.code))) (h : ShowsBoard job s b) (k : ℕ) (v : List ℕ) (at : IsAt job b.ways k v)
    (name : ℕ → ℕ) (depth : ℕ) (calls : List NewCall) (done : List NewChild) (d : NewChild) (among : Contains done d) where
  abbrev G : Ground
  G = regent_ground (spaces_of job.code)

  abbrev o : Operation
  o = operation_at s k

  abbrev u : State
  u = with_covered job depth s k d

  changes : Change job s u h.who h.who b.ways b.ways (λ w. w ≡ v)
  changes = record {
    size = λ j l. l;
    knots = λ j l. l;
    way = λ j w e. e;
    row = λ j w e n. refl;
    knot = λ j w e n. refl;
    ended = λ j t. t;
    answers = λ j t. refl;
    failed = λ j w e n idle f. f;
    over = λ j w e n. refl;
    parent = λ j l. refl;
    nodes = λ n l. (l, refl);
    names = λ r l. refl;
    there = λ r l. l;
    fields = λ r field l. l;
    entries = λ j w a n x q f c. subst (Contains u.waits.listing)
        (uncovered_else k d.number (items_of job depth d.call) x
        (ap (λ b. b && nat_lt x.op.0 d.number) (ne_eqb x.context.0 k (λ y. other_way job b.ways k v at j w a n (ap (λ (o : OpNumber). o.0) (sym q) ∙ y)))))
        (uncovered_there k d.number (items_of job depth d.call) s.waits.listing x c);
  }

  abbrev makings : ℕ
  makings = made_in G (machine_of job) b.state.tree

  module _ (earlier : List Sibling) (above more : List RootId) (D N : List Requirement) (i : ℕ) (f : board.Frame) (ps : List (Element G)) (is : Items G) (wider : IsWider u above more)
      (r : IsCalling job s h.who b.ways k v name depth calls done earlier above D N i f ps (idle nothing) is) where
    abbrev roots : List RootId
    roots = above ++ o.frame.own

    abbrev wide : List RootId
    wide = more ++ o.frame.own

    abbrev xs : List Sibling
    xs = siblings job o.children is

    wide_roots : IsWider u roots wide
    wide_roots = wider_on u above more o.frame.own wider

    under : All (λ (r : RootId). r.0 < length s.roots) roots
    under = All-append (λ (r : RootId). r.0 < length s.roots) above o.frame.own r.below (h.own_made k)

    back_name : (one : ℕ → ℕ) → IsNaming s.roots h.who wide one → IsNaming s.roots h.who roots one
    back_name = back job s u h.who h.who b.ways b.ways (λ w. w ≡ v) changes roots wide wide_roots under

    it : IsAmong job s h.who b.ways k v name depth roots xs d
    it = All-contains (IsAmong job s h.who b.ways k v name depth roots xs) done d r.among among

    all_listed : AreListed job u h.who wide k xs
    all_listed = subst (AreListed job u h.who wide k) (sym it.split)
        (covered_listed job s h.who roots wide k (sibling_of job name d) (items_of job depth d.call) back_name (λ one z. it.required one (back_name one z)) it.placed it.before it.after it.later
        (subst (AreListed job s h.who roots k) it.split r.shown.0.listed))

    row : Row job u h.who b.ways v k earlier wide D N f ps (idle nothing) is
    row = record {
      within = r.shown.0.within;
      knot = r.shown.0.knot;
      way_is = r.shown.0.way_is;
      own = λ name z. r.shown.0.own name (back_name name z);
      seen = seen_kept job s u h.who h.who b.ways b.ways (λ w. w ≡ v) changes roots wide wide_roots under o N f ps r.shown.0.seen;
      said_is = r.shown.0.said_is;
      stands = (r.shown.0.stands.0, (r.shown.0.stands.1.0, still_waits job s h.who o o.wait roots wide o.children r.shown.0.stands.1.1));
      free = λ p e. absurd cc;
      waits = r.shown.0.waits;
      begun = r.shown.0.begun;
      listed = all_listed;
      children_are = tt;
    }

    shown : Shows job u h.who b.ways v k earlier more (op D N i f ps (idle nothing) is)
    shown = (
      row,
      children_kept job s u h.who h.who b.ways b.ways (λ w. w ≡ v) changes makings h.made h.own_made v k 0 [] roots wide o.children is wide_roots under
          (λ x l z e. not_above v x z (sym e ∙ append_assoc v (x ∷ []) z)) r.shown.1,
    )

    calling : IsCalling job u h.who b.ways k v name depth calls done earlier more D N i f ps (idle nothing) is
    calling = record {
      below = λ z e l. ⊎_elim (λ y. All-contains (λ (r : RootId). r.0 < length s.roots) above _ r.below y) (λ y. (h.held _ y).made) (wider.added z e l);
      stage_is = refl;
      shown = shown;
      alike = All-weaker (IsAlike job s h.who b.ways k v name depth roots) (IsAlike job u h.who b.ways k v name depth wide)
          (λ c a one other z y. a one other (back_name one z) (back_name other y)) calls r.alike;
      among = All-weaker (IsAmong job s h.who b.ways k v name depth roots xs) (IsAmong job u h.who b.ways k v name depth wide xs)
          (λ c x. record { before = x.before; after = x.after; split = x.split; later = x.later; required = λ one z. x.required one (back_name one z); placed = x.placed }) done r.among;
    }

  module _ (here : HasAt job s h.who b.ways (Calling job s h.who b.ways k v name depth calls done) v [] 0 [] [] b.state.tree) where
    abbrev Before : Asked job
    Before = Calling job s h.who b.ways k v name depth calls done

    abbrev Behind : Asked job
    Behind = Calling job u h.who b.ways k v name depth calls done

    own : (w : List ℕ) (j : ℕ) (earlier : List Sibling) (above more : List RootId) (n : Node G) → v ≡ w → IsWider u above more → Before w j earlier above n → Behind w j earlier more n
    own w j earlier above more n e wider y = by_calling job s h.who b.ways k v name depth calls done (λ w j earlier above n. (more : List RootId) → IsWider u above more → Behind w j earlier more n)
        (λ earlier above D N i f ps is r more wider. (refl, refl, calling earlier above more D N i f ps is wider r)) w j earlier above n y more wider

    pub behind : HasAt job u h.who b.ways Behind v [] 0 [] [] b.state.tree
    behind = subst (HasAt job u h.who b.ways Behind v [] 0 [] []) (edited_same G v b.state.tree)
        (has_edited job (λ n. n) (λ n. refl) s u h.who h.who b.ways b.ways (λ w. w ≡ v) changes makings h.made h.own_made v
        (λ w e. ([], e ∙ sym (append-nil v))) Before Behind
        (λ w j earlier above n y. node_within job s u h.who h.who b.ways b.ways (λ w. w ≡ v) changes makings h.made h.own_made w j earlier above n
        (calling_shows job s h.who b.ways k v name depth calls done w j earlier above n y))
        own v [] 0 [] [] [] b.state.tree refl (wider_itself u []) (All-nil (λ (r : RootId). r.0 < length s.roots)) here)

    abbrev pub shows : ShowsBoard job u b
    shows = record {
      who = h.who;
      extents = h.extents;
      made = h.made;
      regions = h.regions;
      held = h.held;
      rising = h.rising;
      first = h.first;
      own_made = h.own_made;
      own_apart = h.own_apart;
      shows = all_shows job u h.who b.ways Behind (calling_shows job u h.who b.ways k v name depth calls done) v [] 0 [] [] b.state.tree behind;
      leads = h.leads;
      ways = h.ways;
      knots = h.knots;
      listed = ops_uncovered k d.number (items_of job depth d.call) s.waits.listing ∙ h.listed;
      claims = h.claims;
      turns = h.turns;
    }

-- ---- all of them

module _ (job : Job) (k : ℕ) (v : List ℕ) (name : ℕ → ℕ) (depth : ℕ) where
  abbrev pub all_covered : State → List NewChild → State
  all_covered s [] = s
  all_covered s (d ∷ ds) = all_covered (with_covered job depth s k d) ds

  pub covers : (ds : List NewChild) (s : State) (b : Board (regent_ground (spaces_of job.code))) (calls : List NewCall) (done : List NewChild) → All (Contains done) ds →
      IsGoing job k v name depth s b calls done → IsGoing job k v name depth (all_covered s ds) b calls done
  covers [] s b calls done there g = g
  covers (d ∷ ds) s b calls done there g =
      let among = All-head (Contains done) d ds there in
      covers ds (with_covered job depth s k d) b calls done (All-tail (Contains done) d ds there) (record {
        shows = shows job s b g.shows k v g.at name depth calls done d among g.here;
        at = g.at;
        naming = g.naming;
        here = behind job s b g.shows k v g.at name depth calls done d among g.here;
      })
