-- The task of a name stands at its place, where there is one.
use Rattle.std.proofs.Common.{◌≡◌, ℕ, suc, ◌<◌, ◌+◌, ◌∷◌, [], Bool, true, false, cond, not, Some, refl, sym, ap, ◌∙◌, subst, arith}
use Rattle.std.specs.Prelude.{bytes_eq, length, slice_get}
use Rattle.std.proofs.lemmas.List.{length-map}
use Rattle.std.proofs.lemmas.Option.{slice_get_within}
use Rattle.regent_tree.specs.StaticTypes.{task_named}
use Rattle.regent_tree.specs.Syntax.{Name, Tree, TaskTree, ItemForm, import_item, alias_item, space_item, task_item, start_item}
use Rattle.task_code.specs.declared.code.TaskCode.{TaskCode}
use Rattle.code_rules.specs.Instructions.{place_of_task, tasks_of}
use Rattle.code_rules.specs.Programs.{code_of, task_code}

module _ (n : Name) where
  abbrev IsThere : Tree → Type 0
  IsThere tree = place_of_task tree n < length (tasks_of tree) →
      slice_get (tasks_of tree) (place_of_task tree n) ≡ Some (task_named tree n)

  -- the first task has the name or not
  chosen : (line : ℕ) (t : TaskTree) (items : Tree) (b : Bool) → bytes_eq t.name n ≡ b → IsThere items →
      IsThere (record { line = line; form = task_item t } ∷ items)
  chosen line t items true q more l =
      ap (λ b. slice_get (t ∷ tasks_of items) (cond (not b) (1 + place_of_task items n) 0)) q
      ∙ ap (λ b. Some (cond b t (task_named items n))) (sym q)
  chosen line t items false q more l =
      let place : cond (not (bytes_eq t.name n)) (1 + place_of_task items n) 0 ≡ suc (place_of_task items n) =
      ap (λ b. cond (not b) (1 + place_of_task items n) 0) q ∙ omega arith in
      ap (slice_get (t ∷ tasks_of items)) place
      ∙ more (omega (arith, subst (λ m. m < suc (length (tasks_of items))) place l))
      ∙ ap (λ b. Some (cond b t (task_named items n))) (sym q)

  by_form : (line : ℕ) (form : ItemForm) (items : Tree) → IsThere items → IsThere (record { line = line; form = form } ∷ items)
  by_form line import_item items more = more
  by_form line (alias_item m) items more = more
  by_form line (space_item s) items more = more
  by_form line (start_item m) items more = more
  by_form line (task_item t) items more = chosen line t items (bytes_eq t.name n) refl more

  there : (tree : Tree) → IsThere tree
  there [] = λ l. absurd (omega (arith, l))
  there (i ∷ items) = by_form i.line i.form items (there items)

pub named_there : (tree : Tree) (n : Name) (c : TaskCode) → slice_get (code_of tree).tasks (place_of_task tree n) ≡ Some c →
    slice_get (tasks_of tree) (place_of_task tree n) ≡ Some (task_named tree n)
named_there tree n c e =
    there n tree (subst (λ m. place_of_task tree n < m) (length-map (tasks_of tree) (task_code tree))
    (slice_get_within (code_of tree).tasks (place_of_task tree n) c e))
