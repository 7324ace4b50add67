-- A task that may be called with some arguments may be called with what is alike.
use Rattle.std.proofs.Common.{◌≡◌, ℕ, ◌+◌, ◌-◌, pos, List, [], ◌∷◌, ◌++◌, map, Some, sym, ◌∙◌, subst, arith}
use Rattle.std.specs.Prelude.{length, replicate, slice_get}
use Rattle.std.proofs.lemmas.List.{length-map}
use Rattle.region_tree.specs.Requirements.{IsWithin}
use Rattle.regent_tree.specs.Syntax.{TaskTree, Tree}
use Rattle.regent_tree.specs.Typing.{param_types}
use Rattle.task_code.specs.declared.code.TaskCode.{TaskCode}
use Rattle.machine_terms.specs.declared.value.Value.{Value}
use Rattle.machine_terms.specs.declared.value.Value.TheVariants.{Number}
use Rattle.code_rules.specs.Instructions.{tasks_of}
use Rattle.code_rules.specs.Programs.{task_code}
use Rattle.fit_rules.specs.Shapes.{Are, are_more, are_none, Shape, World}
use Rattle.fit_rules.specs.Marks.{Suits}
use Rattle.fit_rules.specs.Fits.{claims, Program}
use Rattle.fit_rules.specs.Ends.{called}
use Rattle.fit_rules.specs.Sound.{OpensWith}
use Rattle.sound_code.specs.Ways.{by_rules, shape_in, Tops}
use Rattle.sound_code.proofs.Asked.{Known}
use Rattle.sound_code.proofs.Calling.{args_many, facts_kept, opening_suits, types_many}
use Rattle.sound_code.proofs.Parameters.{params_low, params_own}
use Rattle.sound_code.proofs.Alike.{AllAlike, all_taken, claims_like, needed_like, told_like}

-- what stands in front
pub are_front : (x : World) (ss us : List Shape) (vs ws : List Value) → length vs ≡ length ss → Are x (ss ++ us) (vs ++ ws) → Are x ss vs
are_front x [] us [] ws l a = are_none
are_front x (s ∷ ss) us (v ∷ vs) ws l (are_more _ _ _ _ h a) = are_more s v ss vs h (are_front x ss us vs ws (omega (arith, l)) a)
are_front x [] us (v ∷ vs) ws l a = absurd (omega (arith, l))
are_front x (s ∷ ss) us [] ws l a = absurd (omega (arith, l))

module _ (g : Program) (t : TaskCode) (tree : Tree) (tops : Tops) (task u : TaskTree) (known : Known (by_rules tops task) g tree) (place : ℕ)
    (is : slice_get (tasks_of tree) place ≡ Some u) where
  abbrev code : TaskCode
  code = task_code tree u

  abbrev shapes : List Shape
  shapes = map (shape_in (by_rules tops u) (length u.params)) (param_types tree u)

  pub opens_alike : (x : World) (ws zs : List Value) → AllAlike ws zs → OpensWith g t x place code ws → OpensWith g t x place code zs
  opens_alike x ws zs like o =
      let long : length ws ≡ length u.params = o.0.0 in
      let begun = subst (λ m. Suits (called x ws) (length u.params) m (ws ++ replicate (code.slots - length ws) (Number (pos 0))) []) (known.begins place u is) o.0.1 in
      let many : length ws ≡ length shapes =
      long ∙ sym (types_many tree u) ∙ sym (length-map (param_types tree u) (shape_in (by_rules tops u) (length u.params))) in
      let are = are_front (called x ws) shapes _ ws _ many begun.slots in
      let told = facts_kept (by_rules tops u) tree u ws _ long begun.facts in
      let taken = all_taken x ws zs tops u (length u.params) 0 (param_types tree u) ws zs (params_low tree u) (params_own tree u)
      (λ i v e. let from : 0 + i ≡ i = omega arith in subst (λ j. slice_get zs j ≡ Some v) (sym from) e) like are in (
        (
          args_many (by_rules tops u) tree u (called x zs) zs taken,
          subst (λ m. Suits (called x zs) (length u.params) m (zs ++ replicate (code.slots - length zs) (Number (pos 0))) []) (sym (known.begins place u is))
              (opening_suits (by_rules tops u) tree u x zs taken (told_like tops tree u ws zs like told)),
        ),
        needed_like g x ws zs like code.needs o.1,
        subst (λ cs. IsWithin cs (claims g x t)) (claims_like ws zs like code.needs) o.2,
      )
