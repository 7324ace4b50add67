-- When a task instance of the run in order and an operation of the run by numbers are one: the same frame, parts and
-- needs but for the numbers of roots, and what the roots hold.
use Rattle.std.proofs.Common.{◌≡◌, ◌||◌, ℕ, ◌+◌, ◌<◌, ◌≤◌, ℤ, List, ◌++◌, Bool, true, false, Option, refl, ap, ◌∙◌, subst, map, arith, append_assoc, le_refl}
use Rattle.std.specs.Prelude.{length}
use Rattle.plain_values.specs.Points.{has}
use Rattle.point_sets.proofs.Rising.{has-append}
use Rattle.std.proofs.lemmas.List.{length-append}
use Rattle.region_tree.specs.declared.tree.RootId.{RootId}
use Rattle.region_tree.specs.Requirements.{Requirement}
use Rattle.regent_tree.specs.Laws.{shape_of}
use Rattle.task_code.specs.declared.code.Code.{Code}
use Rattle.machine_terms.specs.declared.order.Contents.{Contents}
use Rattle.machine_terms.specs.declared.order.Ended.{Ended}
use Rattle.machine_terms.specs.declared.order.Ended.TheVariants.{CameBack, Broke}
use Rattle.machine_terms.specs.declared.order.Instance.{Instance}
use Rattle.machine_terms.specs.Contents.{image_of}
use Rattle.machine_terms.specs.Orders.{result_of}
use Rattle.machine_terms.proofs.FitParts.{PartsFit}
use Rattle.memory_laws.specs.Closing.{AreOwn}
use Rattle.memory_laws.proofs.Closing.{ids_of}
use Rattle.board_rules.specs.Ground.{Ground}
use Rattle.board_rules.specs.NumberedRuns.{Making, Run}
use Rattle.board_rules.specs.Processes.{Map, Result, done, fails, prefix, spent}
use Rattle.board_rules.specs.Running.{Element}
use Rattle.regent_boards.specs.Frames as board
use Rattle.regent_boards.specs.RegentMachine.{regent_ground, root_of}
use Rattle.regent_boards.proofs.NeedRenaming.{moved}
use Rattle.segment_renaming.specs.Renaming.{frame_to, part_to}
use Rattle.code_boards.specs.Views.{frame_in, parts_in, spaces_of}
use Rattle.order_boards.specs.Outcomes.{fault_of}
use Rattle.order_boards.proofs.Given.{AreAsHeld}
use Rattle.order_boards.proofs.Needs.{Covered, pointed}
use Rattle.order_boards.proofs.OwnRoots.{Owns, owns_on, told_roots}
use Rattle.order_boards.proofs.Renumbering.{names}
use Rattle.order_boards.proofs.Stands.{IsLive, Naming, Stands, live_below}

-- roots came, and none went or changed its shape; those that were there are who they were
pub record Grown (c : Contents) (who : ℕ → ℕ) (d : Contents) (who_now : ℕ → ℕ) : Type 0 where
  pub made : c.made ≤ d.made
  pub same : (r : ℕ) → r < c.made → who_now r ≡ who r
  pub live : (r : ℕ) → IsLive c r → IsLive d r
  pub shapes : (r : ℕ) → IsLive c r → shape_of (image_of d r) ≡ shape_of (image_of c r)

pub grown_self : (c : Contents) (who : ℕ → ℕ) → Grown c who c who
grown_self c who = record { made = le_refl c.made; same = λ r l. refl; live = λ r l. l; shapes = λ r l. refl }

pub grown_then : (c d e : Contents) (who now later : ℕ → ℕ) → Grown c who d now → Grown d now e later → Grown c who e later
grown_then c d e who now later a b = record {
  made = omega (arith, a.made, b.made);
  same = λ r l. b.same r (omega (arith, l, a.made)) ∙ a.same r l;
  live = λ r l. b.live r (a.live r l);
  shapes = λ r l. b.shapes r (a.live r l) ∙ a.shapes r l;
}

-- the number that an instance has of an answer
abbrev pub number_in : board.Answer → ℤ
number_in a = result_of a.value

module _ (code : Code) where
  abbrev G : Ground
  G = regent_ground (spaces_of code)

  -- what names the roots now named them before
  pub naming_back : (c d : Contents) (who now : ℕ → ℕ) (n : ℕ) (m : Map G) → Stands code who n c m → Grown c who d now → (s : ℕ → ℕ) → Naming code d now s → Naming code c who s
  naming_back c d who now n m st g s is = record {
    one = is.one;
    live = λ r l. is.live r (g.live r l)
        ∙ (λ i. root_of (g.shapes r l i).space (g.shapes r l i).count (g.same r (live_below c r st.numbered l) i));
  }

  -- The roots that were there when the instance began are before. It stands for an operation with these needs, this
  -- frame, these parts and answers, where there were so many makings.
  pub record Alike (before : List ℕ) (who : ℕ → ℕ) (n : ℕ) (i : Instance) (N : List Requirement) (f : board.Frame) (ps : List (Element G))
      (vs : List board.Answer) (m : Map G) : Type 0 where
    pub stands : Stands code who n i.contents m
    pub own : AreOwn before i.frame.own i.contents
    pub frame : (s : ℕ → ℕ) → Naming code i.contents who s → frame_in f ≡ frame_to (names s) i.frame
    pub board_needs : f.needs ≡ N
    pub parts : (s : ℕ → ℕ) → Naming code i.contents who s → parts_in code ps ≡ map (part_to (names s)) i.parts
    pub needs : (s : ℕ → ℕ) → Naming code i.contents who s → pointed N ≡ map (moved s) i.needs
    pub covered : Covered i.contents i.needs
    pub results : map number_in vs ≡ i.results
    pub fit : PartsFit i.parts
    pub held : AreAsHeld code ps

  -- ---- ends

  -- An instance that came back, of contents and makings from which it began. It stands at a place, and made its own
  -- roots but for the first ones there; the answer tells of each.
  pub record Came (p : List ℕ) (first : List RootId) (first_makings : List ℕ) (before : List ℕ) (who : ℕ → ℕ) (n : ℕ) (c : Contents) (text : List ℕ)
      (v : Option ℤ) (roots : List RootId) (d : Contents) (u : List ℕ) (xs : List Making) (w : board.Answer) (t : List ℕ) (m : Map G) : Type 0 where
    pub value : v ≡ w.value
    pub says : u ≡ text ++ t
    pub now : ℕ → ℕ
    pub stands : Stands code now (n + length xs) d m
    pub makings : List ℕ
    pub owns : Owns p first first_makings n xs now roots makings
    pub tells : w.roots ≡ told_roots d roots makings
    pub own : AreOwn before roots d
    pub grown : Grown c who d now

  -- the end of an instance, and what the run by numbers comes to
  abbrev pub EndsAlike : List ℕ → List RootId → List ℕ → List ℕ → (ℕ → ℕ) → ℕ → Contents → List ℕ → Ended → List Making → Result G board.Answer → Type 0
  EndsAlike p first makings before who n c text (CameBack v own d u) xs (done w t m) = Came p first makings before who n c text v own d u xs w t m
  EndsAlike p first makings before who n c text (Broke fault u) xs (fails x t) = (u ≡ text ++ t) × (fault ≡ fault_of x)
  EndsAlike p first makings before who n c text (CameBack v own d u) xs (fails x t) = ⊥
  EndsAlike p first makings before who n c text (Broke fault u) xs (done w t m) = ⊥
  EndsAlike p first makings before who n c text (CameBack v own d u) xs spent = Unit {0}
  EndsAlike p first makings before who n c text (Broke fault u) xs spent = Unit {0}

  abbrev pub RunsAlike : List ℕ → List RootId → List ℕ → List ℕ → (ℕ → ℕ) → ℕ → Contents → List ℕ → Ended → Run G board.Answer → Type 0
  RunsAlike p first makings before who n c text e r = EndsAlike p first makings before who n c text e r.made r.result

  -- behind a text and more makings
  pub ends_on : (p : List ℕ) (first own : List RootId) (makings own_makings : List ℕ) (before : List ℕ) (who now : ℕ → ℕ) (n : ℕ) (c d : Contents) (text t : List ℕ)
      (xs : List Making) → Grown c who d now → ((r : ℕ) → has (ids_of own) r ≡ true → r < d.made) → Owns p first makings n xs now own own_makings →
      (e : Ended) (ys : List Making) (r : Result G board.Answer) → EndsAlike p own own_makings before now (n + length xs) d (text ++ t) e ys r →
      EndsAlike p first makings before who n c text e (xs ++ ys) (prefix G t r)
  ends_on p first own makings own_makings before who now n c d text t xs g below mine (CameBack v roots a u) ys (done w y m) h = record {
    value = h.value;
    says = h.says ∙ append_assoc text t y;
    now = h.now;
    stands = subst (λ k. Stands code h.now k a m) (omega (arith, length-append xs ys)) h.stands;
    makings = h.makings;
    owns = owns_on p first own roots makings own_makings h.makings n xs ys now h.now (λ r k. h.grown.same r (below r k)) mine h.owns;
    tells = h.tells;
    own = h.own;
    grown = grown_then c d a who now h.now g h.grown;
  }
  ends_on p first own makings own_makings before who now n c d text t xs g below mine (CameBack v roots a u) ys (fails x y) h = absurd h
  ends_on p first own makings own_makings before who now n c d text t xs g below mine (CameBack v roots a u) ys spent h = tt
  ends_on p first own makings own_makings before who now n c d text t xs g below mine (Broke fault u) ys (done w y m) h = absurd h
  ends_on p first own makings own_makings before who now n c d text t xs g below mine (Broke fault u) ys (fails x y) h = (h.0 ∙ append_assoc text t y, h.1)
  ends_on p first own makings own_makings before who now n c d text t xs g below mine (Broke fault u) ys spent h = tt

  -- own roots are there
  pub own_live : (before : List ℕ) (who : ℕ → ℕ) (n : ℕ) (i : Instance) (N : List Requirement) (f : board.Frame) (ps : List (Element G))
      (vs : List board.Answer) (m : Map G) → Alike before who n i N f ps vs m → (r : ℕ) → has (ids_of i.frame.own) r ≡ true → IsLive i.contents r
  own_live before who n i N f ps vs m a r h =
      ap (λ ns. has ns r) a.own ∙ has-append before (ids_of i.frame.own) r ∙ ap (λ b. has before r || b) h ∙ always (has before r)
    where
      always : (b : Bool) → (b || true) ≡ true
      always true = refl
      always false = refl

  pub own_below : (before : List ℕ) (who : ℕ → ℕ) (n : ℕ) (i : Instance) (N : List Requirement) (f : board.Frame) (ps : List (Element G))
      (vs : List board.Answer) (m : Map G) → Alike before who n i N f ps vs m → (r : ℕ) → has (ids_of i.frame.own) r ≡ true → r < i.contents.made
  own_below before who n i N f ps vs m a r h = live_below i.contents r a.stands.numbered (own_live before who n i N f ps vs m a r h)
