-- With marks that are chosen task by task, where regions are given, a program is its tree's.
use Rattle.std.proofs.Common.{◌≡◌, inr, ℕ, ◌-◌, pos, List, [], ◌∷◌, ◌++◌, Some, refl, sym, ap, ◌∙◌, subst, arith}
use Rattle.std.specs.Prelude.{get_or, length, option_map, replicate, slice_get}
use Rattle.std.proofs.lemmas.List.{length-map}
use Rattle.std.proofs.lemmas.Option.{slice_get-map}
use Rattle.regent_tree.specs.StaticTypes.{no_task}
use Rattle.regent_tree.specs.Syntax.{TaskTree, Tree}
use Rattle.regent_tree.specs.Typing.{param_types, result_type}
use Rattle.code_rules.specs.Instructions.{tasks_of}
use Rattle.code_rules.specs.Programs.{place_of, task_code}
use Rattle.code_rules.specs.Slots.{Where}
use Rattle.machine_terms.specs.declared.value.Value.{Value}
use Rattle.machine_terms.specs.declared.value.Value.TheVariants.{Number}
use Rattle.fit_rules.specs.Shapes.{anything, Are, are_more, are_none, Shape, World}
use Rattle.fit_rules.specs.Marks.{Into, Mark, stacked, Suits}
use Rattle.fit_rules.specs.Fits.{Begins, called, Program}
use Rattle.marked_code.proofs.Remarked.{remarked}
use Rattle.sound_code.specs.Marks.{begins_by_rules, IsOfTree, opening_mark}
use Rattle.sound_code.specs.Places.{BeginsAt, IsOfScope}
use Rattle.sound_code.specs.Programs.{AreConstrained, argument_shapes}
use Rattle.sound_code.specs.Ways.{by_rules, none_begun, shape_in, shape_of, Tops, Way}
use Rattle.sound_code.proofs.Calling.{facts_kept, types_many}
use Rattle.sound_code.proofs.Parameters.{lows_same, params_low}
use Rattle.sound_code.proofs.Tasks.{bare, begins, first_of, is_at, IsMarked, marks_of, task_at, Treated}

module _ (tree : Tree) (tops : Tops) (lists : ℕ → List Mark)
    (treated : (k : ℕ) (t : TaskTree) → slice_get (tasks_of tree) k ≡ Some t → Treated tree (by_rules tops no_task) k t (lists k)) where
  abbrev way : Way
  way = by_rules tops no_task

  -- which regions began as parts is nothing to parameters
  begins_so : (t : TaskTree) → opening_mark (by_rules tops t) tree t ≡ begins_by_rules tree t
  begins_so t = sym (ap (λ ss. record (opening_mark (by_rules tops t) tree t) {
    slots = ss ++ replicate ((task_code tree t).slots - length t.params) anything;
  }) (lows_same tops t (length t.params) (param_types tree t) (params_low tree t)))

  begins_at : (k : ℕ) (t : TaskTree) → slice_get (tasks_of tree) k ≡ Some t → (bare tree way).begins k ≡ begins_by_rules tree t
  begins_at k t e = ap (first_of tree way) (is_at tree way k t e) ∙ begins_so t

  marked : IsMarked tree way lists
  marked k t there = inr (treated k t there)

  -- where a statement begins there is the mark of its scope
  placed : (k : ℕ) (t : TaskTree) → slice_get (tasks_of tree) k ≡ Some t → (v : Where) (q : ℕ) → BeginsAt (place_of tree t) t.body 0 v q →
      IsOfScope tops tree t v (marks_of tree way lists k q)
  placed k t there v q h =
      let d = first_of tree way (task_at tree way k) in
      let x = treated k t there in
      let s = x.stops d v q h in
      let same : get_or (x.front ++ x.last ∷ []) s.0 d ≡ marks_of tree way lists k q =
      (let here : s.0 ≡ q = omega (arith, s.1) in ap (λ l. get_or l s.0 d) (sym x.are) ∙ ap (λ i. get_or (lists k) i d) here) in
      record { mark = s.2.mark; ready = s.2.ready; told = s.2.facts; only = s.2.only; suits = subst (Into (length t.params) (stacked s.2.mark [])) same s.2.suits }

  pub of_tree : IsOfTree tree (remarked (bare tree way) (marks_of tree way lists))
  of_tree = record {
    code = refl;
    positions = λ sp f. refl;
    results = λ k t e. ap (λ (y : TaskTree). shape_of (result_type tree y.result)) (is_at tree way k t e);
    begins = begins_at;
    tops = tops;
    places = placed;
    first = λ k t e. subst (λ y. Into (length t.params) y (marks_of tree way lists k 0)) (begins_at k t e)
        (begins tree way lists marked k (task_code tree t) (slice_get-map (task_code tree) (tasks_of tree) k ∙ ap (option_map (task_code tree)) e));
  }

-- ---- what a frame began with

-- of the first values of a list, where others come behind
front_are : (x : World) (ss us : List Shape) (vs ws : List Value) → length vs ≡ length ss → Are x (ss ++ us) (vs ++ ws) → Are x ss vs
front_are x [] us [] ws e a = are_none
front_are x [] us (v ∷ vs) ws e a = absurd (omega (arith, e))
front_are x (s ∷ ss) us [] ws e a = absurd (omega (arith, e))
front_are x (s ∷ ss) us (v ∷ vs) ws e (are_more _ _ _ _ h more) = are_more s v ss vs h (front_are x ss us vs ws (omega (arith, e)) more)

module _ (tree : Tree) (g : Program) (is : IsOfTree tree g) (k : ℕ) (t : TaskTree) (there : slice_get (tasks_of tree) k ≡ Some t) where
  -- arguments with which a frame of the task may begin are of its parameters' types, and its clauses hold of them
  pub began_so : (x : World) (args : List Value) → Begins g x (task_code tree t) k args → Are (called x args) (argument_shapes tree t) args × AreConstrained tree t args
  began_so x args (count, suits) =
      let behind = replicate ((task_code tree t).slots - length args) (Number (pos 0)) in
      let s : Suits (called x args) (length t.params) (begins_by_rules tree t) (args ++ behind) [] =
      subst (λ m. Suits (called x args) (length t.params) m (args ++ behind) []) (is.begins k t there) suits in
      let many = length-map (param_types tree t) (shape_in (by_rules none_begun t) (length t.params)) in (
        front_are (called x args) (argument_shapes tree t) _ args behind (omega (arith, count, many, types_many tree t)) s.slots,
        facts_kept (by_rules none_begun t) tree t args behind count s.facts,
      )
