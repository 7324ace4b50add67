-- Calls behind a segment: the child of the run in order and the operation that the board issues are one, and so are
-- their callers when it came back.
use Rattle.std.proofs.Common.{◌≡◌, ℕ, suc, ◌+◌, ◌<◌, ℤ, List, [], ◌∷◌, ◌++◌, Bool, true, false, cond, Option, Some, None, refl, sym, ap, ◌∙◌, subst, map, option_map, append-nil, append_assoc, arith}
use Rattle.std.specs.Prelude.{length, nat_le, slice_get}
use Rattle.std.proofs.lemmas.List.{length-append, map-append}
use Rattle.std.proofs.lemmas.Option.{same_Some}
use Rattle.plain_values.specs.Points.{has}
use Rattle.region_tree.specs.declared.tree.RootId.{RootId}
use Rattle.region_tree.specs.Requirements.{Requirement, is_within}
use Rattle.regent_tree.specs.Laws.{shape_of}
use Rattle.task_code.specs.declared.code.Code.{Code}
use Rattle.task_code.specs.declared.code.TaskCode.{TaskCode}
use Rattle.machine_terms.specs.declared.frame.Frame.{Frame}
use Rattle.machine_terms.specs.declared.order.Contents.{Contents}
use Rattle.machine_terms.specs.declared.order.Ended.{Ended}
use Rattle.machine_terms.specs.declared.order.Ended.TheVariants.{CameBack, Broke}
use Rattle.machine_terms.specs.declared.order.Instance.{Instance}
use Rattle.machine_terms.specs.declared.outcome.CallOut.{CallOut}
use Rattle.machine_terms.specs.declared.value.Value.{Value}
use Rattle.machine_terms.specs.Contents.{closed, image_of}
use Rattle.machine_terms.specs.Opening.{opening, requirements_on}
use Rattle.machine_terms.specs.Orders.{Runner, after_call, begun, breaks, call_all, call_task, call_within, on_resumed, result_of, until_over}
use Rattle.memory_laws.specs.Places.{numbers}
use Rattle.memory_laws.proofs.Shapes.{length_of}
use Rattle.board_rules.specs.Ground.{Ground}
use Rattle.board_rules.specs.NumberedRuns.{Making, Run, bind_run, children_run, go_run, go_then, just, numbered_run, faulty}
use Rattle.board_rules.specs.Processes.{Map, Result, done, fails, prefix, spent}
use Rattle.board_rules.specs.Running.{Call, Machine as BoardMachine, calls}
use Rattle.regent_boards.specs.Frames as board
use Rattle.regent_boards.specs.Laws.{by_number}
use Rattle.regent_boards.specs.RegentMachine.{regent_ground}
use Rattle.regent_boards.proofs.NeedRenaming as renaming
use Rattle.regent_boards.proofs.NeedRenaming.{moved}
use Rattle.segment_renaming.specs.Renaming.{call_to, value_to}
use Rattle.segment_renaming.proofs.Alike.{same_root}
use Rattle.segment_renaming.proofs.Openings.{openings_renamed}
use Rattle.code_boards.specs.Views.{board_segment, called, called_with, opened_with, opening_with, refused, required_all, spaces_of, value_out}
use Rattle.order_boards.proofs.Alike.{number_in, Alike, Came, EndsAlike, Grown, RunsAlike, ends_on, grown_self, naming_back, own_below}
use Rattle.order_boards.proofs.Calls.{as_many_values, opening_seen, requirements_same}
use Rattle.order_boards.proofs.Closing.{image_left, left, stands_closed}
use Rattle.order_boards.proofs.Needs.{covered_still, covered_within, pointed, within_pointed}
use Rattle.order_boards.proofs.OwnRoots.{owns_same}
use Rattle.order_boards.proofs.Renumbering.{names}
use Rattle.order_boards.proofs.Stands.{IsLive, Naming, Stands, named, shown_live, some_naming}

module _ (code : Code) where
  abbrev G : Ground
  G = regent_ground (spaces_of code)

  -- whatever an instance comes to, where the run by numbers has no segments left
  pub any_spent : (p : List ℕ) (first : List RootId) (makings : List ℕ) (before : List ℕ) (who : ℕ → ℕ) (n : ℕ) (c : Contents) (text : List ℕ) (e : Ended) (xs : List Making) → EndsAlike code p first makings before who n c text e xs spent
  any_spent p first makings before who n c text (CameBack v own d u) xs = tt
  any_spent p first makings before who n c text (Broke fault u) xs = tt

module _ (code : Code) (turns : ℕ) where
  abbrev M : ℕ → BoardMachine (regent_ground (spaces_of code))
  M = by_number (spaces_of code) (board_segment code turns)

  -- ---- runs of children, behind which more follows

  abbrev Counts : Type 0 → Type 0
  Counts A = ℕ → Map (G code) → Run (G code) A

  -- a child that is done, the children behind it, and what follows these
  onward : (n : ℕ) (xs : List Making) (w : board.Answer) (t : List ℕ) (o m : Map (G code)) (C : Counts (List board.Answer)) (K L : List board.Answer → Counts board.Answer) →
      ((ws : List board.Answer) → K (w ∷ ws) ≡ L ws) →
      bind_run (G code) M (λ n m. go_then (G code) M n xs (done w t o) (λ v. bind_run (G code) M C (λ ws. just (G code) M (v ∷ ws)))) K n m
      ≡ record {
        made = xs ++ (bind_run (G code) M C L (n + length xs) o).made;
        result = prefix (G code) t (bind_run (G code) M C L (n + length xs) o).result;
      }
  onward n xs w t o m C K L same = by_result (C (n + length xs) o).made (C (n + length xs) o).result
    where
      by_result : (ms : List Making) (r : Result (G code) (List board.Answer)) →
          go_then (G code) M n (xs ++ (go_then (G code) M (n + length xs) ms r (λ ws. just (G code) M (w ∷ ws))).made)
          (prefix (G code) t (go_then (G code) M (n + length xs) ms r (λ ws. just (G code) M (w ∷ ws))).result) K
          ≡ record {
            made = xs ++ (go_then (G code) M (n + length xs) ms r L).made;
            result = prefix (G code) t (go_then (G code) M (n + length xs) ms r L).result;
          }
      by_result ms (fails x u) = refl
      by_result ms spent = refl
      by_result ms (done ws u q) =
          let made : xs ++ (ms ++ []) ≡ xs ++ ms = ap (λ ys. xs ++ ys) (append-nil ms) in
          let count : n + length (xs ++ (ms ++ [])) ≡ (n + length xs) + length ms =
          ap (λ ys. n + length ys) made ∙ ap (λ c. n + c) (length-append xs ms) ∙ omega arith in
          (λ i. record {
            made = made i ++ (same ws i (count i) q).made;
            result = prefix (G code) (t ++ append-nil u i) (same ws i (count i) q).result;
          })
          ∙ (λ i. record {
            made = append_assoc xs ms (L ws ((n + length xs) + length ms) q).made i;
            result = prefix_twice (L ws ((n + length xs) + length ms) q).result i;
          })
        where
          prefix_twice : (r : Result (G code) board.Answer) → prefix (G code) (t ++ u) r ≡ prefix (G code) t (prefix (G code) u r)
          prefix_twice (done a v z) = ap (λ y. done a y z) (append_assoc t u v)
          prefix_twice (fails x v) = ap (λ y. fails x y) (append_assoc t u v)
          prefix_twice spent = refl

  -- calls of a caller that gave its parts back, with its operation, and the segments that are left
  abbrev CallsAlike : ℕ → List ℕ → List Requirement → board.Frame → List ℕ → ℕ → Runner → (Instance → Ended) → List CallOut → Type 0
  CallsAlike k before N f p j child next cs =
      (who : ℕ → ℕ) (n : ℕ) (i : Instance) (vs : List board.Answer) (m : Map (G code)) → Alike code before who n i N f [] vs m →
      (s : ℕ → ℕ) → Naming code i.contents who s →
      ((t : ℕ → ℕ) → Naming code i.contents who t → map (call_to (names t)) cs ≡ map (call_to (names s)) cs) →
      RunsAlike code p i.frame.own f.makings before who n i.contents i.text (until_over (call_all code turns child cs i) next)
      (go_run (G code) M (numbered_run (G code) M k) p N j vs f [] (calls (map (called code turns f.depth) (map (call_to (names s)) cs))) n m)

  -- a caller that gave its parts back, with its operation; the segments that are left, and the calls behind the next one
  module _ (k : ℕ) (before : List ℕ) (who : ℕ → ℕ) (n : ℕ) (i : Instance) (N : List Requirement) (f : board.Frame) (vs : List board.Answer) (m : Map (G code))
      (a : Alike code before who n i N f [] vs m) (p : List ℕ) (j : ℕ) (child : Runner) (next : Instance → Ended)
      (begins : (who : ℕ → ℕ) (n : ℕ) (c : Contents) (g : Frame) (needs : List Requirement) (N : List Requirement) (f : board.Frame) (m : Map (G code)) →
      Alike code (numbers c) who n (begun g needs c) N f [] [] m →
      RunsAlike code (length vs ∷ p) g.own f.makings (numbers c) who n c [] (child (begun g needs c)) (numbered_run (G code) M k (length vs ∷ p) N 0 f [] [] n m))
      (cs : List CallOut) (behind_alike : CallsAlike k before N f p j child next cs)
      (s : ℕ → ℕ) (is : Naming code i.contents who s)
      (others_same : (t : ℕ → ℕ) → Naming code i.contents who t → map (call_to (names t)) cs ≡ map (call_to (names s)) cs) where
    -- the calls behind the next one, on the board
    abbrev ys : List (Call (G code))
    ys = map (called code turns f.depth) (map (call_to (names s)) cs)

    abbrev then : board.Answer → Counts (List board.Answer)
    then v = bind_run (G code) M (children_run (G code) M (numbered_run (G code) M k) p N (suc (length vs)) ys) (λ ws. just (G code) M (v ∷ ws))

    abbrev at_last : List board.Answer → Counts board.Answer
    at_last ws = numbered_run (G code) M k p N j f [] (vs ++ ws)

    -- ---- the child came back

    module _ (v : Option ℤ) (own : List RootId) (d : Contents) (u : List ℕ) (xs : List Making) (w : board.Answer) (t : List ℕ) (o : Map (G code))
        (h : Came code (length vs ∷ p) [] [] (numbers i.contents) who n i.contents [] v own d u xs w t o) where
      abbrev back : Instance
      back = record i { contents = closed own d; results = i.results ++ result_of v ∷ []; text = i.text ++ u }

      same_numbers : numbers (closed own d) ≡ numbers i.contents
      same_numbers = left (numbers i.contents) own d h.own h.stands.numbered

      shapes : (r : ℕ) → IsLive i.contents r → shape_of (image_of (closed own d) r) ≡ shape_of (image_of i.contents r)
      shapes r l = ap shape_of (image_left (numbers i.contents) own d h.own h.stands.numbered r l) ∙ h.grown.shapes r l

      back_grown : Grown i.contents who (closed own d) h.now
      back_grown = record {
        made = h.grown.made;
        same = h.grown.same;
        live = λ r l. subst (λ ns. has ns r ≡ true) (sym same_numbers) l;
        shapes = shapes;
      }

      back_stands : Stands code h.now (n + length xs) (closed own d) o
      back_stands = stands_closed (numbers i.contents) own d h.own h.stands.numbered code h.now (n + length xs) i.contents.made o
          a.stands.numbered h.grown.made h.grown.live h.stands

      back_alike : Alike code before h.now (n + length xs) back N f [] (vs ++ w ∷ []) o
      back_alike =
          let named = λ (s : ℕ → ℕ) (is : Naming code (closed own d) h.now s). naming_back code i.contents (closed own d) who h.now n m a.stands back_grown s is in record {
            stands = back_stands;
            own = same_numbers ∙ a.own;
            frame = λ s is. a.frame s (named s is);
            board_needs = a.board_needs;
            parts = λ s is. a.parts s (named s is);
            needs = λ s is. a.needs s (named s is);
            covered = covered_still i.contents (closed own d)
                (λ r g q l. subst (λ b. q < b) (sym (length_of (image_of (closed own d) r) (image_of i.contents r) g (shapes r (shown_live i.contents r g q l)))) l)
                i.needs a.covered;
            results = map-append number_in vs (w ∷ []) ∙ (λ b. a.results b ++ result_of (sym h.value b) ∷ []);
            fit = a.fit;
            held = tt;
          }

      -- with numbers of the roots that are there then
      abbrev others : ℕ → ℕ
      others = named code h.now (n + length xs) back.contents o back_stands 0

      others_named : Naming code back.contents h.now others
      others_named = some_naming code h.now (n + length xs) back.contents o back_stands 0

      before_back : (t : ℕ → ℕ) → Naming code back.contents h.now t → Naming code i.contents who t
      before_back t names_of = naming_back code i.contents (closed own d) who h.now n m a.stands back_grown t names_of

      -- the calls behind it
      abbrev onwards : Run (G code) board.Answer
      onwards = bind_run (G code) M (children_run (G code) M (numbered_run (G code) M k) p N (suc (length vs)) ys)
          (λ ws. numbered_run (G code) M k p N j f [] ((vs ++ w ∷ []) ++ ws)) (n + length xs) o

      on_alike : RunsAlike code p i.frame.own f.makings before h.now (n + length xs) back.contents back.text (until_over (call_all code turns child cs back) next) onwards
      on_alike = subst (λ r. RunsAlike code p i.frame.own f.makings before h.now (n + length xs) back.contents back.text (until_over (call_all code turns child cs back) next) r)
          (λ b. bind_run (G code) M (children_run (G code) M (numbered_run (G code) M k) p N (one_longer b) (map (called code turns f.depth) (others_same others (before_back others others_named) b)))
          (λ ws. numbered_run (G code) M k p N j f [] ((vs ++ w ∷ []) ++ ws)) (n + length xs) o)
          (behind_alike h.now (n + length xs) back (vs ++ w ∷ []) o back_alike others others_named
          (λ t names_of. others_same t (before_back t names_of) ∙ sym (others_same others (before_back others others_named))))
        where
          one_longer : length (vs ++ w ∷ []) ≡ suc (length vs)
          one_longer = length-append vs (w ∷ []) ∙ omega arith

      came_on : RunsAlike code p i.frame.own f.makings before who n i.contents i.text (until_over (call_all code turns child cs back) next)
          (bind_run (G code) M (λ n m. go_then (G code) M n xs (done w t o) then) at_last n m)
      came_on = subst (λ r. RunsAlike code p i.frame.own f.makings before who n i.contents i.text (until_over (call_all code turns child cs back) next) r)
          (sym (onward n xs w t o m (children_run (G code) M (numbered_run (G code) M k) p N (suc (length vs)) ys) at_last
          (λ ws. numbered_run (G code) M k p N j f [] ((vs ++ w ∷ []) ++ ws))
          (λ ws. ap (λ us. numbered_run (G code) M k p N j f [] us) (sym (append_assoc vs (w ∷ []) ws)))))
          (ends_on code p i.frame.own i.frame.own f.makings f.makings before who h.now n i.contents (closed own d) i.text t xs back_grown
          (λ b l. own_below code before h.now (n + length xs) back N f [] (vs ++ w ∷ []) o back_alike b l)
          (owns_same p i.frame.own i.frame.own f.makings n xs h.now refl) (until_over (call_all code turns child cs back) next) onwards.made onwards.result
          (subst (λ y. EndsAlike code p i.frame.own f.makings before h.now (n + length xs) (closed own d) y (until_over (call_all code turns child cs back) next) onwards.made onwards.result)
          (ap (λ y. i.text ++ y) h.says) on_alike))

    -- ---- what the child comes to

    abbrev behind_child : List Making → Result (G code) board.Answer → Run (G code) board.Answer
    behind_child xs r = bind_run (G code) M (λ n m. go_then (G code) M n xs r then) at_last n m

    behind : (e : Ended) (xs : List Making) (r : Result (G code) board.Answer) → EndsAlike code (length vs ∷ p) [] [] (numbers i.contents) who n i.contents [] e xs r →
        RunsAlike code p i.frame.own f.makings before who n i.contents i.text (until_over (on_resumed (after_call e i) (call_all code turns child cs)) next) (behind_child xs r)
    behind (CameBack v own d u) xs (done w t o) h = came_on v own d u xs w t o h
    behind (CameBack v own d u) xs (fails x t) h = absurd h
    behind (CameBack v own d u) xs spent h = any_spent code p i.frame.own f.makings before who n i.contents i.text _ xs
    behind (Broke fault u) xs (done w t o) h = absurd h
    behind (Broke fault u) xs (fails x t) h = (ap (λ y. i.text ++ y) h.0, h.1)
    behind (Broke fault u) xs spent h = tt

    -- ---- the call

    module _ (c : CallOut)
        (same : (t : ℕ → ℕ) → Naming code i.contents who t → map (value_to (names t)) c.args ≡ map (value_to (names s)) c.args) where
      abbrev args : List board.Value
      args = map value_out (map (value_to (names s)) c.args)

      -- a caller that is broken
      broken_off : RunsAlike code p i.frame.own f.makings before who n i.contents i.text (until_over (on_resumed (breaks i) (call_all code turns child cs)) next)
          (go_run (G code) M (numbered_run (G code) M k) p N j vs f [] (calls (refused code ∷ ys)) n m)
      broken_off = (sym (append-nil i.text), refl)

      within_same : (needs ours : List Requirement) → pointed ours ≡ map (moved s) needs → is_within ours N ≡ is_within needs i.needs
      within_same needs ours e = sym (within_pointed ours N) ∙ (λ b. is_within (e b) (a.needs s is b))
          ∙ renaming.within_to s (same_root (names s) is.one) needs i.needs

      module _ (t : TaskCode) where
        abbrev x : List Requirement → Call (G code)
        x ours = opening_with code turns f.depth c.task t.slots args ours

        abbrev frame : Frame
        frame = opening turns (suc i.frame.depth) c.task t c.args

        opened_alike : (needs ours : List Requirement) → required_all code t.needs args ≡ Some ours → requirements_on code i.contents t.needs c.args ≡ Some needs →
            is_within needs i.needs ≡ true → Alike code (numbers i.contents) who n (begun frame needs i.contents) ours (x ours).frame [] [] m
        opened_alike needs ours e d l = record {
          stands = a.stands;
          own = sym (append-nil (numbers i.contents));
          frame = λ r names_of. opening_seen code s c.args turns f.depth c.task t ours e
              ∙ (λ b. opening turns (suc (ap (λ (g : Frame). g.depth) (a.frame s is) b)) c.task t (sym (same r names_of) b))
              ∙ openings_renamed (names r) turns (suc i.frame.depth) c.task t c.args;
          board_needs = refl;
          parts = λ r names_of. refl;
          needs = λ r names_of. same_Some _ _ (
              ap (option_map pointed) (sym (ap (λ ws. required_all code t.needs (map value_out ws)) (same r names_of) ∙ e))
              ∙ requirements_same code i.contents who n m a.stands r names_of c.args (λ q ns. same q ns ∙ sym (same r names_of)) t.needs
              ∙ ap (option_map (map (moved r))) d);
          covered = covered_within i.contents needs i.needs l a.covered;
          results = refl;
          fit = tt;
          held = tt;
        }

        by_test : (needs ours : List Requirement) → required_all code t.needs args ≡ Some ours → requirements_on code i.contents t.needs c.args ≡ Some needs →
            (b : Bool) → is_within needs i.needs ≡ b →
            RunsAlike code p i.frame.own f.makings before who n i.contents i.text
            (until_over (on_resumed (cond b (after_call (child (begun frame needs i.contents)) i) (breaks i)) (call_all code turns child cs)) next)
            (bind_run (G code) M (λ n m. cond b
            (bind_run (G code) M (numbered_run (G code) M k (length vs ∷ p) ours 0 (x ours).frame [] [])
            then n m)
            (faulty (G code) M board.broken n m)) at_last n m)
        by_test needs ours e d true l =
            let r = numbered_run (G code) M k (length vs ∷ p) ours 0 (x ours).frame [] [] n m in
            behind (child (begun frame needs i.contents)) r.made r.result
            (begins who n i.contents frame needs ours (x ours).frame m (opened_alike needs ours e d l))
        by_test needs ours e d false l = (sym (append-nil i.text), refl)

        by_needs : (o : Option (List Requirement)) (q : Option (List Requirement)) → required_all code t.needs args ≡ o → requirements_on code i.contents t.needs c.args ≡ q →
            option_map pointed o ≡ option_map (map (moved s)) q →
            RunsAlike code p i.frame.own f.makings before who n i.contents i.text (until_over (on_resumed (call_within child frame q i) (call_all code turns child cs)) next)
            (go_run (G code) M (numbered_run (G code) M k) p N j vs f []
            (calls (opened_with code turns f.depth c.task t.slots args o ∷ ys)) n m)
        by_needs None None e d l = broken_off
        by_needs (Some ours) None e d l = absurd cc
        by_needs None (Some needs) e d l = absurd cc
        by_needs (Some ours) (Some needs) e d l =
            subst (λ b. RunsAlike code p i.frame.own f.makings before who n i.contents i.text
            (until_over (on_resumed (cond (is_within needs i.needs) (after_call (child (begun frame needs i.contents)) i) (breaks i)) (call_all code turns child cs)) next)
            (bind_run (G code) M (λ n m. cond b
            (bind_run (G code) M (numbered_run (G code) M k (length vs ∷ p) ours 0 (x ours).frame [] [])
            then n m)
            (faulty (G code) M board.broken n m)) at_last n m))
            (sym (within_same needs ours (same_Some _ _ l)))
            (by_test needs ours e d (is_within needs i.needs) refl)

        by_slots : (b : Bool) →
            RunsAlike code p i.frame.own f.makings before who n i.contents i.text
            (until_over (on_resumed (cond b (call_within child frame (requirements_on code i.contents t.needs c.args) i) (breaks i)) (call_all code turns child cs)) next)
            (go_run (G code) M (numbered_run (G code) M k) p N j vs f []
            (calls (cond b (opened_with code turns f.depth c.task t.slots args (required_all code t.needs args)) (refused code) ∷ ys)) n m)
        by_slots true = by_needs (required_all code t.needs args) (requirements_on code i.contents t.needs c.args) refl refl
            (requirements_same code i.contents who n m a.stands s is c.args same t.needs)
        by_slots false = broken_off

      by_task : (o : Option TaskCode) →
          RunsAlike code p i.frame.own f.makings before who n i.contents i.text (until_over (on_resumed (call_task code turns child c o i) (call_all code turns child cs)) next)
          (go_run (G code) M (numbered_run (G code) M k) p N j vs f [] (calls (called_with code turns f.depth c.task args o ∷ ys)) n m)
      by_task None = broken_off
      by_task (Some t) =
          subst (λ q. RunsAlike code p i.frame.own f.makings before who n i.contents i.text
          (until_over (on_resumed (call_task code turns child c (Some t) i) (call_all code turns child cs)) next)
          (go_run (G code) M (numbered_run (G code) M k) p N j vs f []
          (calls (cond (nat_le q t.slots) (opened_with code turns f.depth c.task t.slots args (required_all code t.needs args)) (refused code) ∷ ys)) n m))
          (sym (as_many_values code s c.args)) (by_slots t (nat_le (length c.args) t.slots))

      pub call_alike : RunsAlike code p i.frame.own f.makings before who n i.contents i.text (until_over (call_all code turns child (c ∷ cs) i) next)
          (go_run (G code) M (numbered_run (G code) M k) p N j vs f [] (calls (called code turns f.depth (call_to (names s) c) ∷ ys)) n m)
      call_alike = by_task (slice_get code.tasks c.task)

  -- ---- calls, one after another

  abbrev rest_of : List CallOut → List CallOut
  rest_of [] = []
  rest_of (c ∷ cs) = cs

  abbrev first_args : List CallOut → List Value
  first_args [] = []
  first_args (c ∷ cs) = c.args

  module _ (k : ℕ) (before : List ℕ) (N : List Requirement) (f : board.Frame) (p : List ℕ) (j : ℕ) (child : Runner) (next : Instance → Ended)
      (begins : (vs : List board.Answer) (who : ℕ → ℕ) (n : ℕ) (c : Contents) (g : Frame) (needs : List Requirement) (N : List Requirement) (f : board.Frame) (m : Map (G code)) →
      Alike code (numbers c) who n (begun g needs c) N f [] [] m →
      RunsAlike code (length vs ∷ p) g.own f.makings (numbers c) who n c [] (child (begun g needs c)) (numbered_run (G code) M k (length vs ∷ p) N 0 f [] [] n m))
      (goes_on : (who : ℕ → ℕ) (n : ℕ) (i : Instance) (vs : List board.Answer) (m : Map (G code)) → Alike code before who n i N f [] vs m →
      RunsAlike code p i.frame.own f.makings before who n i.contents i.text (next i) (numbered_run (G code) M k p N j f [] vs n m)) where
    none_alike : CallsAlike k before N f p j child next []
    none_alike who n i vs m a s is same =
        let r = numbered_run (G code) M k p N j f [] (vs ++ []) (n + 0) m in
        let count : n ≡ n + 0 = omega arith in
        ends_on code p i.frame.own i.frame.own f.makings f.makings before who who n i.contents i.contents i.text [] [] (grown_self i.contents who)
        (λ b l. own_below code before who n i N f [] vs m a b l) (owns_same p i.frame.own i.frame.own f.makings n [] who refl) (next i) r.made r.result
        (subst (λ y. EndsAlike code p i.frame.own f.makings before who (n + 0) i.contents y (next i) r.made r.result) (sym (append-nil i.text))
        (subst (λ l. RunsAlike code p i.frame.own f.makings before who l i.contents i.text (next i) (numbered_run (G code) M k p N j f [] (vs ++ []) l m)) count
        (subst (λ ws. RunsAlike code p i.frame.own f.makings before who n i.contents i.text (next i) (numbered_run (G code) M k p N j f [] ws n m)) (sym (append-nil vs))
        (goes_on who n i vs m a))))

    pub calls_alike : (cs : List CallOut) → CallsAlike k before N f p j child next cs
    calls_alike [] = none_alike
    calls_alike (c ∷ cs) = λ who n i vs m a s is same.
        call_alike k before who n i N f vs m a p j child next (begins vs) cs (calls_alike cs) s is
        (λ t names_of. ap rest_of (same t names_of)) c (λ t names_of. ap first_args (same t names_of))
