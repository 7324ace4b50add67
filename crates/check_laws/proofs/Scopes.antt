-- Scopes with one more name, and after a block.
use Rattle.std.proofs.Common.{arith, Bool, List, [], ◌∷◌, ◌<◌, ◌≤◌, ◌==◌, ◌||◌, ◌≡◌, ap, bytes_eq, cond, false, length, refl, true, ◌∙◌, ℕ}
use Rattle.regent_tree.specs.Lookup.{is_bound, type_named}
use Rattle.regent_tree.specs.declared.facts.Known.{Known}
use Rattle.regent_tree.specs.declared.typing.StaticType.{StaticType}
use Rattle.regent_tree.specs.declared.typing.StaticType.TheVariants.{Integer as integer_type, Truth as truth_type, Index as index_type, Pointer as pointer_type, Ispace as ispace_type, Region as region_type, Partition as partition_type, Nothing as no_type, Unknown as unknown_type}
use Rattle.check_rules.specs.types.Sorts.{is_region}
use Rattle.regent_tree.specs.Scopes.{Scope, bound_as, bound_to, past, with_name}
use Rattle.check_laws.specs.SoundScopes.{Falls, IsKnown, IsPlaced, IsSoundScope}
use Rattle.regent_tree.specs.Syntax.{Arms, Block, Form, Name, Otherwise, Tree, a_statement, an_arm, do_form, else_block, for_in_form, for_to_form, if_form, no_arm, no_else, no_statement, then_statement, var_form, while_form}
use Rattle.regent_tree.specs.declared.typing.Bound.{Bound}
use Rattle.check_rules.specs.scopes.Variables.{known_scope_after, known_scope_after_arms, known_scope_after_block, known_scope_after_else, scope_in_count, scope_in_loop}

pub differ : (a b : ℕ) → b < a → (a == b) ≡ false
differ a b lt = search (arith)

pub differ_below : (a b : ℕ) → a < b → (a == b) ≡ false
differ_below a b lt = search (arith)

same : (a : ℕ) → (a == a) ≡ true
same a = search (arith)

-- the binding of a name is found by its number
pub found_by_number : (next : ℕ) (names : List Bound) (n : Name) → Falls next names → is_bound names n ≡ true →
    (bound_as names (bound_to names n).number ≡ bound_to names n) × ((bound_to names n).number < next)
found_by_number next [] n falls e = absurd cc
found_by_number next (b ∷ bs) n falls e = here (bytes_eq b.name n) (found_by_number b.number bs n falls.1) e
  where
    here : (is : Bool) → (is_bound bs n ≡ true → (bound_as bs (bound_to bs n).number ≡ bound_to bs n) × ((bound_to bs n).number < b.number)) →
        (is || is_bound bs n) ≡ true →
        (cond (b.number == (cond is b (bound_to bs n)).number) b (bound_as bs (cond is b (bound_to bs n)).number) ≡ cond is b (bound_to bs n))
        × ((cond is b (bound_to bs n)).number < next)
    here true rest e = (ap (λ x. cond x b (bound_as bs b.number)) (same b.number), falls.0)
    here false rest e =
        let r = rest e in
        let lt = r.1 in
        let less = falls.0 in
        (ap (λ x. cond x b (bound_as bs (bound_to bs n).number)) (differ b.number (bound_to bs n).number lt) ∙ r.0, omega (arith, lt, less))

-- ---- one more name

-- what is known in a scope is known where more is bound, of which no number stands in it
module _ (s more : Scope) (less : s.next ≤ more.next) (same_bound : (r : ℕ) → r < s.next → bound_as more.names r ≡ bound_as s.names r) where
  placed_too : (t : StaticType) → IsPlaced s t → IsPlaced more t
  placed_too (partition_type d r p) h =
      let lt = h.1 in
      (ap (λ (b : Bound). is_region b.static_type) (same_bound r h.1) ∙ h.0, omega (arith, lt, less))
  placed_too (integer_type w) h = tt
  placed_too truth_type h = tt
  placed_too (index_type k) h = tt
  placed_too (pointer_type k sp args regions) h = tt
  placed_too (ispace_type k) h = tt
  placed_too (region_type k sp args r) h = tt
  placed_too no_type h = tt
  placed_too unknown_type h = tt

  pub known_too : (t : StaticType) → IsKnown s t → IsKnown more t
  known_too t h = record { known = h.known; placed = placed_too t h.placed }

fresh_number : (s : Scope) (n : Name) (t : StaticType) (by_loop : Bool) (r : ℕ) → r < s.next →
    bound_as (with_name s n t by_loop).names r ≡ bound_as s.names r
fresh_number s n t by_loop r lt = ap (λ x. cond x (record { name = n; number = s.next; place = length s.names; static_type = t; by_loop = by_loop }) (bound_as s.names r)) (differ s.next r lt)

pub one_more : (s : Scope) (n : Name) (t : StaticType) (by_loop : Bool) (known : List Known) → IsSoundScope s → IsKnown s t →
    IsSoundScope (record { names = (with_name s n t by_loop).names; known = known; next = (with_name s n t by_loop).next })
one_more s n t by_loop known sound is = record {
  numbers = (omega (arith), sound.numbers);
  types = λ m e. here m (bytes_eq n m) e;
}
  where
    more : Scope
    more = record { names = (with_name s n t by_loop).names; known = known; next = (with_name s n t by_loop).next }

    here : (m : Name) (found : Bool) → (found || is_bound s.names m) ≡ true →
        IsKnown more (cond found (record { name = n; number = s.next; place = length s.names; static_type = t; by_loop = by_loop }) (bound_to s.names m)).static_type
    here m true e = known_too s more (omega (arith)) (fresh_number s n t by_loop) t is
    here m false e = known_too s more (omega (arith)) (fresh_number s n t by_loop) (type_named s.names m) (sound.types m e)

-- ---- after a block

falls_too : (next more : ℕ) (names : List Bound) → next ≤ more → Falls next names → Falls more names
falls_too next more [] less h = tt
falls_too next more (b ∷ bs) less h = let lt = h.0 in (omega (arith, lt, less), h.1)

pub past_sound : (s inner : Scope) → s.next ≤ inner.next → IsSoundScope s → IsSoundScope (past s inner)
past_sound s inner less sound = record {
  numbers = falls_too s.next inner.next s.names less sound.numbers;
  types = λ m e. known_too s (past s inner) less (λ r lt. refl) (type_named s.names m) (sound.types m e);
}

-- no number of a binding is used again
mutual
  pub next_after : (tree : Tree) (s : Scope) (form : Form) → s.next ≤ (known_scope_after tree s form).next
  next_after tree s (var_form n t initializer) = omega (arith)
  next_after tree s (if_form arms other) =
      let a = next_arms tree s arms in
      let b = next_else tree (known_scope_after_arms tree s arms) other in
      omega (arith, a, b)
  next_after tree s (while_form test body) = next_block tree s body
  next_after tree s (for_in_form demanded n domain body) =
      let a = next_block tree (scope_in_loop tree s n domain) body in
      omega (arith, a)
  next_after tree s (for_to_form demanded n from to body) =
      let a = next_block tree (scope_in_count tree s n from to) body in
      omega (arith, a)
  next_after tree s (do_form body) = next_block tree s body
  next_after tree s form = omega (arith)

  pub next_block : (tree : Tree) (s : Scope) (b : Block) → s.next ≤ (known_scope_after_block tree s b).next
  next_block tree s no_statement = omega (arith)
  next_block tree s (then_statement (a_statement line form) rest) =
      let a = next_after tree s form in
      let b = next_block tree (known_scope_after tree s form) rest in
      omega (arith, a, b)

  pub next_arms : (tree : Tree) (s : Scope) (arms : Arms) → s.next ≤ (known_scope_after_arms tree s arms).next
  next_arms tree s no_arm = omega (arith)
  next_arms tree s (an_arm test body rest) =
      let a = next_block tree s body in
      let b = next_arms tree (past s (known_scope_after_block tree s body)) rest in
      omega (arith, a, b)

  pub next_else : (tree : Tree) (s : Scope) (other : Otherwise) → s.next ≤ (known_scope_after_else tree s other).next
  next_else tree s no_else = omega (arith)
  next_else tree s (else_block body) = next_block tree s body
