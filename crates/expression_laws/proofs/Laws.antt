-- The laws of expressions, from the induction on them.
use Rattle.expression_laws.specs.Laws.{ArgumentsFit, CallsLieWithin, ValuesHaveTheirTypes, instance_at}
use Rattle.std.proofs.Common.{length}
use Rattle.fact_laws.specs.Regions.{Interpretation}
use Rattle.regent_tree.specs.Running.{Result, State, fails, gives}
use Rattle.regent_tree.specs.Scopes.{Scope}
use Rattle.expression_laws.specs.Sound.{AreFitting, EndsIn, Instance, IsSoundFault, IsSoundState, KeepsSound}
use Rattle.expression_laws.proofs.Passing.{call_fits}
use Rattle.expression_laws.proofs.Calls.{call_within}
use Rattle.expression_laws.proofs.Operators.{weaker}
use Rattle.expression_laws.proofs.Values.{value_is, values_are}
use Rattle.regent_tree.specs.Evaluation.{values}
use Rattle.regent_tree.specs.StaticTypes.{task_named}
use Rattle.regent_tree.specs.Typing.{params_at}

pub values_have_their_types : ValuesHaveTheirTypes
values_have_their_types task args roots m h r e written told u st =
    value_is task args roots m h r.sound r.sound_task r.scope r.well_scoped r.place r.answers e written told u st

pub calls_lie_within : CallsLieWithin
calls_lie_within task args roots m h r name es written told called u st =
    let types = params_at h.tree h.scope (task_named h.tree name) es in
    weaker (instance_at task args roots h) m h.scope (values h types es u)
    (values_are task args roots m h r.sound r.sound_task r.scope r.well_scoped r.place r.answers types es written told u st) (λ vs passed.
    call_within task args roots m h r.sound r.sound_task r.scope r.place name es vs told called passed)

-- a claim on what a step gives and on the state after it
given_there : {A : Type 0} (x : Instance) (m : Interpretation) (s : Scope) {Is : A → Type 0} (Js : A → State → Type 0) (r : Result A) → KeepsSound x m s Is r →
    ((a : A) (u : State) → IsSoundState x m s u → Is a → Js a u) → EndsIn (λ a u. IsSoundState x m s u × Js a u) (λ f u. IsSoundFault x f u) r
given_there x m s Js (gives a u) stays more = (stays.0, more a u stays.0 stays.1)
given_there x m s Js (fails f u) stays more = stays

pub arguments_fit : ArgumentsFit
arguments_fit task args roots m h r name es written told called u st =
    let types = params_at h.tree h.scope (task_named h.tree name) es in
    given_there (instance_at task args roots h) m h.scope (λ vs w. AreFitting h.tree (task_named h.tree name) vs (length w.store)) (values h types es u)
    (values_are task args roots m h r.sound r.sound_task r.scope r.well_scoped r.place r.answers types es written told u st) (λ vs w st passed.
    call_fits task args roots m h r.sound r.sound_task r.scope r.place name es vs w written told called passed st)
