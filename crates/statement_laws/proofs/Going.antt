-- Results that go on: one step after another, blocks that are left, and states at a loop's turns.
use Rattle.std.proofs.Common.{arith, Bool, false, true, refl, sym, subst, ℕ, ℤ, ◌≡◌, ◌∙◌, ◌<◌, ◌≤◌, length, take, cond, inl, inr}
use Rattle.std.proofs.lemmas.Bool.{ltb-true}
use Rattle.std.proofs.lemmas.List.{length-take-le}
use Rattle.std.specs.Prelude.{nat_lt}
use Rattle.regent_tree.specs.Execution.{Going, goes_on, going_on, leaving, returned}
use Rattle.regent_tree.specs.Running.{Result, Run, State, and_then, fails, gives, if_true}
use Rattle.regent_tree.specs.Scopes.{Scope, bound_as, past}
use Rattle.regent_tree.specs.declared.typing.Bound.{Bound}
use Rattle.regent_tree.specs.Values.{no_region}
use Rattle.check_laws.specs.SoundScopes.{IsSoundScope}
use Rattle.fact_laws.specs.Regions.{Interpretation, child_at}
use Rattle.expression_laws.specs.Sound.{IsInStore, IsOfParent, no_partition, AreInStore, Instance, IsSoundPlace, IsSoundState, KeepsSound}
use Rattle.statement_laws.specs.Steady.{AgreeBelow, GoesOnSound, IsSoundAfter, IsStaticPlace}
use Rattle.statement_laws.proofs.Agree.{child_in_store, none_in_store, agree_back, agree_same, agree_then, emptied, emptied_agrees}
use Rattle.statement_laws.proofs.Scopes.{IsMore}
use Rattle.statement_laws.proofs.States.{found_below, left_fits, state_same, state_too}

-- ---- what goes on

module _ (x : Instance) (m : Interpretation) (s : Scope) (n : ℕ) (t : Scope) where
  pub then_goes : {A : Type 0} {Is : A → Type 0} (r : Result A) (more : A → Run Going) → KeepsSound x m s Is r →
      ((a : A) (u : State) → IsSoundState x m s u → Is a → GoesOnSound x m n t (more a u)) → GoesOnSound x m n t (and_then r more)
  then_goes (gives a u) more stays next = next a u stays.0 stays.1
  then_goes (fails f u) more stays next = stays

  pub either_goes : (b : Bool) (this that : Run Going) (u : State) → GoesOnSound x m n t (this u) → GoesOnSound x m n t (that u) → GoesOnSound x m n t (if_true b this that u)
  either_goes true this that u a b = a
  either_goes false this that u a b = b

-- from where more bindings stand for something
pub rebased : (x : Instance) (m b : Interpretation) (n k : ℕ) (t : Scope) (r : Result Going) → AgreeBelow n m b → n ≤ k → GoesOnSound x b k t r → GoesOnSound x m n t r
rebased x m b n k t (gives goes_on u) e less goes = record { meant = goes.meant; agree = agree_then n k m b goes.meant less e goes.agree; place = goes.place; state = goes.state }
rebased x m b n k t (gives (returned v) u) e less goes = goes
rebased x m b n k t (fails f u) e less goes = goes

pub in_order : (x : Instance) (m : Interpretation) (n k : ℕ) (s t : Scope) (r : Result Going) (rest : Run Going) → n ≤ k → GoesOnSound x m n s r →
    ((u : State) (b : IsSoundAfter x m n s u) → GoesOnSound x b.meant k t (rest u)) → GoesOnSound x m n t (and_then r (λ g. going_on rest g))
in_order x m n k s t (gives goes_on u) rest less goes next = rebased x m goes.meant n k t (rest u) goes.agree less (next u goes)
in_order x m n k s t (gives (returned v) u) rest less goes next = goes
in_order x m n k s t (fails f u) rest less goes next = goes

-- a state goes on behind a statement that binds nothing
pub stays_here : (x : Instance) (m : Interpretation) (s : Scope) (u : State) → IsSoundPlace x m s → IsSoundState x m s u → IsSoundAfter x m s.next s u
stays_here x m s u place st = record { meant = m; agree = agree_same s.next m; place = place; state = st }

pub stays_goes : (x : Instance) (m : Interpretation) (s : Scope) (r : Result Going) → IsSoundPlace x m s → KeepsSound x m s (λ g. goes_on ≡ g) r → GoesOnSound x m s.next s r
stays_goes x m s (gives goes_on u) place stays = stays_here x m s u place stays.0
stays_goes x m s (gives (returned v) u) place stays = absurd cc
stays_goes x m s (fails f u) place stays = stays

-- a block's names are taken away where it ends
pub leaves : (x : Instance) (m : Interpretation) (s t : Scope) (k : ℕ) (n : ℕ) (r : Result Going) → IsSoundScope s → IsStaticPlace x s → IsMore s t → k ≡ length s.names →
    GoesOnSound x m n t r → GoesOnSound x m n (past s t) (leaving k r)
leaves x m s t k n (gives goes_on u) scope static more counted goes =
    let st = goes.state in
    let long = st.counted in
    let longer = more.longer in record {
      meant = goes.meant;
      agree = goes.agree;
      place = record { holds = goes.place.holds; own = goes.place.own; params = goes.place.params; parents = parents goes.meant goes.place.parents };
      state = subst (λ j. IsSoundState x goes.meant (past s t) (record u { names = take j u.names })) (sym counted) (record {
        names = left_fits s t goes.meant u.names scope static.placed more.extends st.names;
        counted = length-take-le (length s.names) u.names (omega (arith, long, longer));
        rooted = st.rooted;
        grown = st.grown;
        covered = st.covered;
      });
    }
  where
    parents : (b : Interpretation) → ((i : ℕ) → IsOfParent b t.known (bound_as t.names i).static_type) → (i : ℕ) → IsOfParent b t.known (bound_as s.names i).static_type
    parents b are i = elim (found_below s.next s.names scope.numbers i) [
      | inl l ↦ subst (λ (c : Bound). IsOfParent b t.known c.static_type) (more.extends i l) (are i)
      | inr g ↦ subst (λ (c : Bound). IsOfParent b t.known c.static_type) (sym g) tt
    ]
leaves x m s t k n (gives (returned v) u) scope static more counted goes = record { is_of = goes.is_of; grown = goes.grown; covered = goes.covered }
leaves x m s t k n (fails f u) scope static more counted goes = goes

-- behind a block that was left, as before it, where later bindings stood for nothing
pub back_again : (x : Instance) (m : Interpretation) (s t : Scope) (u : State) → IsSoundScope s → IsStaticPlace x s → IsSoundAfter x (emptied s.next m) s.next (past s t) u →
    IsSoundState x (emptied s.next m) s u
back_again x m s t u scope static b =
    state_too x s b.meant (emptied s.next m) u scope static.well_scoped (agree_back s.next (emptied s.next m) b.meant b.agree) rooted
    (state_same x (past s t) s b.meant u refl b.state)
  where
    same : (i : ℕ) → i < s.next → m.region i ≡ b.meant.region i
    same i l = (emptied_agrees s.next m).regions i l ∙ b.agree.regions i l

    same_parts : (i : ℕ) → i < s.next → m.partition i ≡ b.meant.partition i
    same_parts i l = (emptied_agrees s.next m).partitions i l ∙ b.agree.partitions i l

    region : (i : ℕ) (c : Bool) → nat_lt i s.next ≡ c → IsInStore (length u.store) (cond c (m.region i) no_region)
    region i true q = subst (IsInStore (length u.store)) (sym (same i (ltb-true i s.next q))) (b.state.rooted.regions i)
    region i false q = none_in_store (length u.store)

    child : (i : ℕ) (z : ℤ) (c : Bool) → nat_lt i s.next ≡ c → IsInStore (length u.store) (child_at (cond c (m.partition i) no_partition) z)
    child i z true q = subst (λ p. IsInStore (length u.store) (child_at p z)) (sym (same_parts i (ltb-true i s.next q))) (b.state.rooted.children i z)
    child i z false q = child_in_store (length u.store) z

    rooted : AreInStore (emptied s.next m) (length u.store)
    rooted = record { regions = λ i. region i (nat_lt i s.next) refl; children = λ i z. child i z (nat_lt i s.next) refl }
