-- That the main task's instance makes the call, and no other: a test that the call alone passes.
use Rattle.std.proofs.Common.{Bool, List, [], ap, codes, false, pos, refl, true, ℕ, ℤ, ◌&&◌, ◌==◌, ◌∙◌, ◌∷◌, ◌≡◌}
use Rattle.std.proofs.lemmas.Bool.{and_parts, eqb-true}
use Rattle.std.proofs.lemmas.Slice.Eq.{bytes_eq-Decides}
use Rattle.std.specs.Prelude.{bytes_eq}
use Rattle.regent_tree.specs.Store.{Store}
use Rattle.regent_tree.specs.Values.{Value, a_region}
use Rattle.regent_tree.specs.declared.outcome.RootImage.{RootImage}
use Rattle.statement_laws.specs.Opened.{Call, Makes, by_call, entry}
use Rattle.statement_laws.specs.OpenedExample.{OpenedExampleHolds, opened_by_call}
use Rattle.statement_laws.specs.PlaceExample.{caller_task, caller_tree}

-- ---- tests for what the call is made with

abbrev are_handed : List Value → Bool
are_handed (a_region r ∷ []) = (r.root == 0) && bytes_eq r.points (0 ∷ 1 ∷ [])
are_handed _ = false

handed_only : (vs : List Value) → are_handed vs ≡ true → vs ≡ opened_by_call.args
handed_only (a_region r ∷ []) e =
    let p = and_parts (r.root == 0) (bytes_eq r.points (0 ∷ 1 ∷ [])) e in
    ap (λ n. a_region (record { root = n; points = r.points }) ∷ []) (eqb-true r.root 0 p.0)
    ∙ ap (λ ps. a_region (record { root = 0; points = ps }) ∷ []) ((bytes_eq-Decides r.points (0 ∷ 1 ∷ [])).0 p.1)
handed_only _ e = absurd cc

abbrev are_zeros : List (List ℤ) → Bool
are_zeros ((pos a ∷ pos b ∷ []) ∷ []) = (a == 0) && (b == 0)
are_zeros _ = false

zeros_only : (fs : List (List ℤ)) → are_zeros fs ≡ true → fs ≡ (pos 0 ∷ pos 0 ∷ []) ∷ []
zeros_only ((pos a ∷ pos b ∷ []) ∷ []) e =
    let p = and_parts (a == 0) (b == 0) e in
    ap (λ n. (pos n ∷ pos b ∷ []) ∷ []) (eqb-true a 0 p.0) ∙ ap (λ n. (pos 0 ∷ pos n ∷ []) ∷ []) (eqb-true b 0 p.1)
zeros_only _ e = absurd cc

abbrev is_made : Store → Bool
is_made (r ∷ []) = (r.space == 0) && ((r.count == 2) && are_zeros r.fields)
is_made _ = false

made_only : (store : Store) → is_made store ≡ true → store ≡ opened_by_call.store
made_only (r ∷ []) e =
    let p = and_parts (r.space == 0) ((r.count == 2) && are_zeros r.fields) e in
    let q = and_parts (r.count == 2) (are_zeros r.fields) p.1 in
    ap (λ n. image n r.count r.fields ∷ []) (eqb-true r.space 0 p.0)
    ∙ ap (λ n. image 0 n r.fields ∷ []) (eqb-true r.count 2 q.0)
    ∙ ap (λ fs. image 0 2 fs ∷ []) (zeros_only r.fields q.1)
  where
    image : ℕ → ℕ → List (List ℤ) → RootImage
    image space count fields = record { space = space; count = count; fields = fields }
made_only _ e = absurd cc

-- ---- the call

abbrev the_call : Call
the_call = record { line = 6; task = codes "t"; args = opened_by_call.args; store = opened_by_call.store }

abbrev is_the_call : Call → Bool
is_the_call c = (c.line == 6) && (bytes_eq c.task (codes "t") && (are_handed c.args && is_made c.store))

the_call_only : (c : Call) → is_the_call c ≡ true → c ≡ the_call
the_call_only c e =
    let p = and_parts (c.line == 6) (bytes_eq c.task (codes "t") && (are_handed c.args && is_made c.store)) e in
    let q = and_parts (bytes_eq c.task (codes "t")) (are_handed c.args && is_made c.store) p.1 in
    let r = and_parts (are_handed c.args) (is_made c.store) q.1 in
    ap (λ n. record { line = n; task = c.task; args = c.args; store = c.store }) (eqb-true c.line 6 p.0)
    ∙ ap (λ n. record { line = 6; task = n; args = c.args; store = c.store }) ((bytes_eq-Decides c.task (codes "t")).0 q.0)
    ∙ ap (λ vs. record { line = 6; task = codes "t"; args = vs; store = c.store }) (handed_only c.args r.0)
    ∙ ap (λ u. record { line = 6; task = codes "t"; args = opened_by_call.args; store = u }) (made_only c.store r.1)

made_by_main : Makes caller_tree 10 (record { more = 63; task = caller_task; args = []; store = [] }) the_call
made_by_main = record { test = is_the_call; only = the_call_only; ends = refl }

pub opened_example_holds : OpenedExampleHolds
opened_example_holds = record { opened = by_call entry made_by_main; touches = refl }
