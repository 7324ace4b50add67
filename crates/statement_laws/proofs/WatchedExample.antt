-- What the watched example computes.
use Rattle.std.proofs.Common.{[], ◌∷◌, ap, refl, subst, inl, inr, map}
use Rattle.lane_kernels.specs.declared.numbers.Op.TheVariants.{Sum}
use Rattle.regent_tree.proofs.Members.{Has, Has-from_Contains}
use Rattle.regent_tree.specs.Syntax.{Block, ItemForm, ItemTree, no_statement, task_item}
use Rattle.regent_tree.specs.declared.program.Grant.TheVariants.{Reads, Reduces}
use Rattle.statement_laws.specs.WatchedExample.{WatchedExampleHolds, calling_tree}
use Rattle.expression_laws.specs.WrittenStatements.{AreWrittenTasks, IsWrittenBlock}

abbrev pub body_of_item : ItemForm → Block
body_of_item (task_item t) = t.body
body_of_item form = no_statement

written : AreWrittenTasks (calling_tree (Reads ∷ Reduces Sum ∷ []))
written t stands = by (Has-from_Contains (map (λ (i : ItemTree). i.form) (calling_tree (Reads ∷ Reduces Sum ∷ []))) (task_item t) stands)
  where
    by : Has (map (λ (i : ItemTree). i.form) (calling_tree (Reads ∷ Reduces Sum ∷ []))) (task_item t) → IsWrittenBlock t.body
    by (inl e) = absurd cc
    by (inr (inl e)) = subst IsWrittenBlock (ap body_of_item e) (((tt, tt), (tt, tt)), tt)
    by (inr (inr (inl e))) = subst IsWrittenBlock (ap body_of_item e) (tt, ((tt, tt), tt))
    by (inr (inr (inr h))) = absurd h

pub watched_example_holds : WatchedExampleHolds
watched_example_holds = record { accepted = refl; written = written; quiet = refl; told = refl; own = refl }
