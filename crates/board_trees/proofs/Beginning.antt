-- A new board shows the tree's beginning.
use Rattle.std.proofs.Common.{◌≡◌, ℕ, zero, suc, ◌<◌, ℤ, pos, List, [], ◌∷◌, ◌++◌, true, false, cond, Some, refl, sym, ap, ◌∙◌, subst, map, arith, inr}
use Rattle.std.specs.Prelude.{All, length, replicate, ◌-◌}
use Rattle.std.proofs.lemmas.Bool.{false≢true}
use Rattle.std.proofs.lemmas.List.Elements.{All-cons, All-nil}
use Rattle.region_finder.specs.Listings.{AreRising}
use Rattle.region_tree.specs.Needs.{AreNeeds, IsNeed, requirements_of}
use Rattle.region_tree.specs.Trees.{RegionTree, empty_tree}
use Rattle.region_tree.specs.declared.needs.Need.{Need}
use Rattle.region_tree.specs.declared.tree.RootId.{RootId}
use Rattle.logical_map.specs.Maps.{columns_of, is_live}
use Rattle.task_code.specs.declared.code.TaskCode.{TaskCode}
use Rattle.task_code.specs.declared.job.Job.{Job}
use Rattle.machine_terms.specs.declared.value.Value.TheVariants.{Number}
use Rattle.machine_terms.specs.Jobs.{first_frame, may_start}
use Rattle.machine_terms.specs.Opening.{needs_on}
use Rattle.board_rules.specs.NumberedBoards.{start, way_of}
use Rattle.regent_boards.specs.RegentMachine.{regent_ground}
use Rattle.code_boards.specs.Laws.{machine_of, main_of}
use Rattle.code_boards.specs.Views.{spaces_of}
use Rattle.code_boards.proofs.Beginning.{first_seen, none_needed}
use Rattle.board_terms.specs.States.{opened_with, operation_at, void_state, with_main}
use Rattle.board_trees.specs.Laws.{NewBoardsShow}
use Rattle.board_trees.specs.Names.{named, requirement_named}
use Rattle.board_trees.specs.Shows.{Leads, ShowsBoard, is_claimed}
use Rattle.board_trees.specs.Frames.{HasEachOnce, HasFitting, HasPlaces, IsHeld}

module _ (job : Job) (t : TaskCode) (may : may_start job t ≡ true) where
  numbers_placed : (t : RegionTree) (zs : List ℤ) (k : ℕ) → All (HasPlaces t) (map Number zs ++ replicate k (Number (pos 0)))
  numbers_placed t [] zero = All-nil (HasPlaces t)
  numbers_placed t [] (suc k) = All-cons (HasPlaces t) (Number (pos 0)) (replicate k (Number (pos 0))) tt (numbers_placed t [] k)
  numbers_placed t (z ∷ zs) k = All-cons (HasPlaces t) (Number z) (map Number zs ++ replicate k (Number (pos 0))) tt (numbers_placed t zs k)

  main_shows : ShowsBoard job (with_main (first_frame job t)) (start (regent_ground (spaces_of job.code)) (machine_of job) (main_of job t))
  main_shows = record {
    who = λ r. 0;
    extents = refl;
    made = record { below = λ r l. absurd (omega (arith, l)); rising = λ a b l k. absurd (omega (arith, k)) };
    regions = λ n l. absurd (omega (arith, l));
    rising = λ k. subst AreRising (sym (none_called k)) (λ i l. absurd (omega (arith, l)));
    first = subst (λ rs. All (λ (r : RootId). is_live [] r.0 ≡ true) rs) (sym (none_own 0)) (All-nil (λ (r : RootId). is_live [] r.0 ≡ true));
    own_made = λ k. subst (λ rs. All (λ (r : RootId). r.0 < 0) rs) (sym (none_own k)) (All-nil (λ (r : RootId). r.0 < 0));
    own_apart = λ j k n. subst (λ rs. All (λ (r : RootId). All (λ (q : RootId). ¬ (r ≡ q)) (operation_at (with_main (first_frame job t)) k).frame.own) rs) (sym (none_own j))
        (All-nil (λ (r : RootId). All (λ (q : RootId). ¬ (r ≡ q)) (operation_at (with_main (first_frame job t)) k).frame.own));
    held = λ r e. absurd (false≢true e);
    shows = (
      record {
        within = omega arith;
        knot = omega arith;
        way_is = refl;
        own = λ name is. refl;
        seen = record {
          frame = λ name is. first_seen job t may (named name);
          needs = refl;
          required = λ name is. ap (λ ns. map (requirement_named name) (requirements_of empty_tree (needs_on ns (map Number job.inputs)))) (sym (none_needed job t may));
          parts = λ name is. refl;
          held = All-nil (IsHeld job.code);
          fitting = All-nil HasFitting;
          placed = record {
            slots = numbers_placed empty_tree job.inputs (t.slots - length (map Number job.inputs));
            stack = All-nil (HasPlaces empty_tree);
            needs = subst (λ ns. AreNeeds empty_tree (needs_on ns (map Number job.inputs))) (sym (none_needed job t may)) (All-nil (IsNeed empty_tree));
          };
          once = All-nil HasEachOnce;
          there = All-nil (λ (r : RootId). is_live [] r.0 ≡ true);
          fields = subst (λ ns. All (λ (n : Need). n.field < length (columns_of [] n.root.0)) (needs_on ns (map Number job.inputs))) (sym (none_needed job t may))
              (All-nil (λ (n : Need). n.field < length (columns_of [] n.root.0)));
        };
        said_is = refl;
        stands = (inr refl, (refl, refl));
        free = λ p q. refl;
        waits = (refl, refl);
        begun = λ e. refl;
        listed = tt;
        children_are = tt;
      },
      refl,
    );
    leads = first_leads;
    ways = refl;
    knots = refl;
    listed = refl;
    claims = first_claims;
    turns = refl;
  }
    where
      first_leads : (k : ℕ) (way : List ℕ) → way_of (regent_ground (spaces_of job.code)) (machine_of job) ([] ∷ []) k ≡ Some way → Leads job (with_main (first_frame job t)) 0 way k
      first_leads zero [] e = refl
      first_leads zero (c ∷ way) e = absurd cc
      first_leads (suc k) way e = absurd cc

      none_own : (k : ℕ) → (operation_at (with_main (first_frame job t)) k).frame.own ≡ []
      none_own zero = refl
      none_own (suc zero) = refl
      none_own (suc (suc k)) = refl

      none_called : (k : ℕ) → (operation_at (with_main (first_frame job t)) k).children ≡ []
      none_called zero = refl
      none_called (suc zero) = refl
      none_called (suc (suc k)) = refl

      first_claims : (k seat : ℕ) → false ≡ is_claimed job seat (operation_at (with_main (first_frame job t)) k).activity
      first_claims zero seat = refl
      first_claims (suc zero) seat = refl
      first_claims (suc (suc k)) seat = refl

pub new_boards_show : NewBoardsShow
new_boards_show job t e may = subst (λ s. ShowsBoard job s (start (regent_ground (spaces_of job.code)) (machine_of job) (main_of job t)))
    (sym (ap (opened_with job) e ∙ ap (λ b. cond b (with_main (first_frame job t)) void_state) may)) (main_shows job t may)
