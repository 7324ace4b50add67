-- Loops: each turn begins and ends in a state that fits.
use Rattle.std.proofs.Common.{List, [], ◌∷◌, ◌++◌, false, true, refl, ◌≡◌, ℕ, ℤ, zero, suc, pos, ◌∙◌, ◌+ℤ◌, arith}
use Rattle.std.proofs.lemmas.List.{length-append}
use Rattle.std.proofs.lemmas.List.Elements.{All-head, All-tail}
use Rattle.std.specs.List.{All}
use Rattle.std.specs.Prelude.{length}
use Rattle.lane_kernels.specs.Numbers.{FitsWidth}
use Rattle.lane_kernels.specs.declared.numbers.Width.{Width}
use Rattle.regent_tree.specs.Execution.{Going, bind, counting, goes_on, going_on, leaving, round, rounds, turn, turning}
use Rattle.regent_tree.specs.Laws.{Extends, Shape}
use Rattle.regent_tree.specs.Running.{Here, Result, Run, State, and_then, fault, given, if_true, pay, pay_from, ◌>>=◌}
use Rattle.regent_tree.specs.Scopes.{Scope, with_name}
use Rattle.regent_tree.specs.Syntax.{Name, Tree}
use Rattle.regent_tree.specs.Values.{Value, a_number, truth_of}
use Rattle.regent_tree.specs.declared.outcome.FaultKind.TheVariants.{Turns}
use Rattle.regent_tree.specs.declared.typing.Bound.{Bound}
use Rattle.regent_tree.specs.declared.typing.StaticType.{StaticType}
use Rattle.check_laws.specs.SoundScopes.{IsSoundScope}
use Rattle.statement_laws.specs.Steady.{ArePlaced}
use Rattle.state_laws.specs.Going.{GoesOnFit}
use Rattle.state_laws.proofs.Counts.{AreUpTo, next_up_to}
use Rattle.state_laws.proofs.Going.{either_fits, in_order, leaves_fit, state_here, store_here, then_fits}
use Rattle.regent_tree.proofs.Laws.{extends_twice}
use Rattle.state_laws.proofs.Growing.{fits_more, names_new}
use Rattle.state_laws.proofs.Scopes.{HasMoreNames, more_then, one_more}
use Rattle.state_laws.proofs.Rooted.{no_parent, plain_own, plain_parent, roots_new}
use Rattle.check_rules.specs.types.Sorts.{is_collection}
use Rattle.value_laws.specs.Fitting.{Fits}
use Rattle.value_laws.specs.Keeping.{KeepsFit, StateFits}
use Rattle.value_laws.specs.Shapes.{AreRootsOfSpaces}
use Rattle.value_laws.specs.Spaces.{AreSpaced}

module _ (tree : Tree) (h : Here) (result : StaticType) where
  -- a turn is paid for
  paid : (roots : List Shape) (names others : List Bound) (more : Run Going) (u : State) → AreRootsOfSpaces tree roots → StateFits tree roots names u →
      ((w : State) → StateFits tree roots names w → GoesOnFit tree roots others result (more w)) → (n : ℕ) → GoesOnFit tree roots others result (and_then (pay_from n h u) (λ _. more))
  paid roots names others more u rooted st next zero = store_here tree roots rooted u.store st.store
  paid roots names others more u rooted st next (suc n) = next (record u { turns = n }) (record { names = st.names; counted = st.counted; agree = st.agree; store = st.store })

  -- a loop with a test
  pub turning_fits : (first : List Shape) (names : List Bound) (Is : List Shape → Value → Type 0) (test : Run Value) (body : Run Going) →
      ((roots : List Shape) (w : State) → Extends first roots → AreRootsOfSpaces tree roots → StateFits tree roots names w → KeepsFit tree roots names (Is roots) (test w)) →
      ((roots : List Shape) (w : State) → Extends first roots → AreRootsOfSpaces tree roots → StateFits tree roots names w → GoesOnFit tree roots names result (body w)) →
      (k : ℕ) (roots : List Shape) (w : State) → Extends first roots → AreRootsOfSpaces tree roots → StateFits tree roots names w → GoesOnFit tree roots names result (turning h k test body w)
  turning_fits first names Is test body tests bodies zero roots w more rooted st =
      then_fits tree roots rooted names names result (test w) (λ v. if_true (truth_of v) (fault h Turns) (given goes_on)) (tests roots w more rooted st) (λ v w st is.
      either_fits tree roots rooted names result (truth_of v) (fault h Turns) (given goes_on) w (store_here tree roots rooted w.store st.store) (state_here tree roots rooted names w st))
  turning_fits first names Is test body tests bodies (suc k) roots w more rooted st =
      let again = turning h k test body in
      then_fits tree roots rooted names names result (test w) (λ v. turn h v body again) (tests roots w more rooted st) (λ v w st is.
      either_fits tree roots rooted names result (truth_of v) (pay h >>= λ _. body >>= λ g. going_on again g) (given goes_on) w
      (paid roots names names (body >>= λ g. going_on again g) w rooted st (λ u st.
      in_order tree roots names names result (body u) again (bodies roots u more rooted st) (λ after u further rooted st.
      turning_fits first names Is test body tests bodies k after u (extends_twice first roots after more further) rooted st)) w.turns)
      (state_here tree roots rooted names w st))

  -- ---- loops that bind a name

  module _ (s : Scope) (n : Name) (ty : StaticType) (scope : IsSoundScope s) (placed : ArePlaced s.names) (spaced : AreSpaced tree s.names)
      (plain : is_collection ty ≡ false)
      (inner : List Bound) (more_names : HasMoreNames (with_name s n ty true).names inner) (first : List Shape) (body : Run Going)
      (bodies : (roots : List Shape) (w : State) → Extends first roots → AreRootsOfSpaces tree roots → StateFits tree roots (with_name s n ty true).names w →
      GoesOnFit tree roots inner result (body w)) where
    abbrev bound : Bound
    bound = record { name = n; number = s.next; place = length s.names; static_type = ty; by_loop = true }

    abbrev Turns_fit : List Shape → Result Going → Type 0
    Turns_fit roots q = GoesOnFit tree roots s.names result q

    pub round_fits : (roots : List Shape) (v : Value) (u : State) → Extends first roots → AreRootsOfSpaces tree roots → StateFits tree roots s.names u →
        Fits roots (bound ∷ s.names) ty v → Turns_fit roots (round h v body u)
    round_fits roots v u more rooted st is =
        paid roots s.names s.names (λ w. leaving (length w.names) (and_then (bind v w) (λ _. body))) u rooted st (λ w st.
        let all = more_then s.names (bound ∷ s.names) inner (one_more s bound scope refl refl) more_names in
        let count = st.counted in
        leaves_fit tree roots s.names inner (length w.names) result (body (record w { names = w.names ++ v ∷ [] })) st.counted all.stays all.longer placed spaced
        (bodies roots (record w { names = w.names ++ v ∷ [] }) more rooted (record {
          names = names_new tree s.next s.names bound scope.numbers refl roots w.names v (refl, placed) st.counted spaced st.names is;
          counted = length-append w.names (v ∷ []) ∙ omega (arith, count);
          agree = roots_new tree s.next s.names bound scope.numbers refl w.names v (refl, placed) st.counted spaced st.agree (plain_parent s.names ty plain) (plain_own s.next ty plain) (no_parent s.names w.names ty v plain);
          store = st.store;
        }))) u.turns

    pub rounds_fit : (vs : List Value) (roots : List Shape) (u : State) → Extends first roots → AreRootsOfSpaces tree roots → StateFits tree roots s.names u →
        All (Fits first (bound ∷ s.names) ty) vs → Turns_fit roots (rounds h vs body u)
    rounds_fit [] roots u more rooted st are = state_here tree roots rooted s.names u st
    rounds_fit (v ∷ vs) roots u more rooted st are =
        in_order tree roots s.names s.names result (round h v body u) (rounds h vs body)
        (round_fits roots v u more rooted st (fits_more first roots more (bound ∷ s.names) ty v (All-head (Fits first (bound ∷ s.names) ty) v vs are))) (λ after w further rooted st.
        rounds_fit vs after w (extends_twice first roots after more further) rooted st (All-tail (Fits first (bound ∷ s.names) ty) v vs are))

    pub counting_fits : (w : Width) (b : ℤ) → FitsWidth w b → ((roots : List Shape) (z : ℤ) → FitsWidth w z → Fits roots (bound ∷ s.names) ty (a_number w z)) →
        (k : ℕ) (i : ℤ) (roots : List Shape) (u : State) → FitsWidth w i → AreUpTo i k b → Extends first roots → AreRootsOfSpaces tree roots → StateFits tree roots s.names u →
        Turns_fit roots (counting h k w i body u)
    counting_fits w b last numbers zero i roots u fit up more rooted st = state_here tree roots rooted s.names u st
    counting_fits w b last numbers (suc k) i roots u fit up more rooted st =
        let next = next_up_to w i b k fit last up in
        in_order tree roots s.names s.names result (round h (a_number w i) body u) (counting h k w (i +ℤ pos 1) body)
        (round_fits roots (a_number w i) u more rooted st (numbers roots i fit)) (λ after v further rooted st.
        counting_fits w b last numbers k (i +ℤ pos 1) after v next.0 next.1 (extends_twice first roots after more further) rooted st)
