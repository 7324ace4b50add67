-- Where calls answer alike, the execution of every statement is alike.
use Rattle.std.proofs.Common.{◌≡◌, ℕ, zero, suc, ℤ, pos, List, [], ◌∷◌, Option, Some, None, ap, refl}
use Rattle.std.specs.Prelude.{nat_le, ◌+ℤ◌}
use Rattle.lane_kernels.specs.declared.numbers.Mode.TheVariants.{Write}
use Rattle.lane_kernels.specs.declared.numbers.Width.{Width}
use Rattle.regent_tree.specs.declared.outcome.FaultKind.{FaultKind}
use Rattle.regent_tree.specs.declared.outcome.FaultKind.TheVariants.{AssertFailed, BadSize, Turns}
use Rattle.regent_tree.specs.declared.statement.How.{How}
use Rattle.regent_tree.specs.declared.statement.How.TheVariants as how
use Rattle.regent_tree.specs.declared.types.SpaceUse.{SpaceUse}
use Rattle.regent_tree.specs.declared.types.TypeTerm.{TypeTerm}
use Rattle.regent_tree.specs.Syntax.{Name, Expression, access_expr, Steps, no_step, field_step, at_step, Initializer, region_initializer, equal_initializer, by_field_initializer, image_initializer, preimage_initializer, both_initializer, either_initializer, plain_initializer, a_statement, Form, var_form, if_form, while_form, for_in_form, for_to_form, do_form, fill_form, assert_form, print_form, call_form, assign_form, return_form, Block, no_statement, then_statement, Arms, no_arm, an_arm, Otherwise, no_else, else_block}
use Rattle.regent_tree.specs.Numbers.{distance}
use Rattle.regent_tree.specs.Values.{Value, Region, a_number, truth_of, number_of, region_of, size_of, kept_number}
use Rattle.regent_tree.specs.Store.{write_all, touch_all}
use Rattle.regent_tree.specs.StaticTypes.{field_type, field_place, task_named}
use Rattle.regent_tree.specs.declared.typing.StaticType.{StaticType}
use Rattle.regent_tree.specs.Typing.{reaches_of, stepped_type, arithmetic_type, params_at, var_type, taken_from, width_of_type}
use Rattle.regent_tree.specs.Running.{Calls, State, Here, Run, fails, change, pay, touch}
use Rattle.regent_tree.specs.Accesses.{converted, Aim, hits, misses, aimed, space_in, args_in, regions_reached}
use Rattle.regent_tree.specs.Evaluation.{value, values, stepped, named_value, static_type_of, typed, called}
use Rattle.regent_tree.specs.Initializers.{initial_value, initialized, make_root, colours, region_named, partition_named, read_all}
use Rattle.regent_tree.specs.Execution.{Going, goes_on, returned, going_on, scoped, bind, round, rounds, counting, turn, turning, items_of, write_field, write_name, write_to, right_side, fill_fields, before_last, last_field, on_line, looping, after_statement, after_arm, after_arms, exec, exec_arms, exec_else, exec_block}
use Rattle.alike_runs.specs.Alike.{AreAlike, renamed}
use Rattle.alike_runs.specs.Laws.{RunsAlike}
use Rattle.alike_runs.proofs.Steps.{Alike, IsPlainAim, aimed_plain, called_alike, choice_alike, converted_alike, equal, fault_alike, given_alike, in_turn, named_alike, pay_alike, then, with}
use Rattle.alike_runs.proofs.Expressions.{stepped_alike, value_alike, values_alike}

module _ (other : FaultKind) (calls : Calls) where
  pub going_alike : (m n : Run Going) (g : Going) → Alike other m n → Alike other (going_on m g) (going_on n g)
  going_alike m n goes_on h = h
  going_alike m n (returned v) h = given_alike (returned v)

  pub scoped_alike : (m n : Run Going) → Alike other m n → Alike other (scoped m) (scoped n)
  scoped_alike m n h = record { all = λ s. then (m s) (n s) _ _ (h.all s) (λ g. equal _ _ (λ t. refl)) }

  pub bind_alike : (v : Value) → Alike other (bind v) (bind v)
  bind_alike v = equal (bind v) (bind v) (λ s. refl)

  pub round_alike : (h : Here) (v : Value) (m n : Run Going) → Alike other m n → Alike other (round h v m) (round (with calls h) v n)
  round_alike h v m n k = in_turn (pay h) (pay (with calls h)) _ _ (pay_alike other calls h)
      (λ u. scoped_alike _ _ (in_turn (bind v) (bind v) _ _ (bind_alike v) (λ g. k)))

  pub rounds_alike : (h : Here) (vs : List Value) (m n : Run Going) → Alike other m n →
      Alike other (rounds h vs m) (rounds (with calls h) vs n)
  rounds_alike h [] m n k = given_alike goes_on
  rounds_alike h (v ∷ vs) m n k = in_turn (round h v m) (round (with calls h) v n) _ _ (round_alike h v m n k)
      (λ g. going_alike _ _ g (rounds_alike h vs m n k))

  pub counting_alike : (h : Here) (count : ℕ) (w : Width) (i : ℤ) (m n : Run Going) → Alike other m n →
      Alike other (counting h count w i m) (counting (with calls h) count w i n)
  counting_alike h zero w i m n k = given_alike goes_on
  counting_alike h (suc count) w i m n k = in_turn (round h (a_number w i) m) (round (with calls h) (a_number w i) n) _ _ (round_alike h (a_number w i) m n k)
      (λ g. going_alike _ _ g (counting_alike h count w (i +ℤ pos 1) m n k))

  pub turn_alike : (h : Here) (v : Value) (m n again more : Run Going) → Alike other m n → Alike other again more →
      Alike other (turn h v m again) (turn (with calls h) v n more)
  turn_alike h v m n again more k l = choice_alike (truth_of v) _ _ _ _
      (in_turn (pay h) (pay (with calls h)) _ _ (pay_alike other calls h)
      (λ u. in_turn m n _ _ k (λ g. going_alike again more g l)))
      (given_alike goes_on)

  pub turning_alike : (h : Here) (count : ℕ) (test tried : Run Value) (m n : Run Going) → Alike other test tried →
      Alike other m n → Alike other (turning h count test m) (turning (with calls h) count tried n)
  turning_alike h zero test tried m n t k = in_turn test tried _ _ t
      (λ v. choice_alike (truth_of v) _ _ _ _ (fault_alike other calls h Turns refl)
      (given_alike goes_on))
  turning_alike h (suc count) test tried m n t k = in_turn test tried _ _ t
      (λ v. turn_alike h v m n _ _ k (turning_alike h count test tried m n t k))

  -- initializers
  pub region_alike : (h : Here) (n : Name) → Alike other (region_named h n) (region_named (with calls h) n)
  region_alike h n = equal _ _ (λ s. refl)

  pub partition_alike : (h : Here) (n : Name) → Alike other (partition_named h n) (partition_named (with calls h) n)
  partition_alike h n = equal _ _ (λ s. refl)

  pub read_all_alike : (h : Here) (t : StaticType) (r : Region) (f : Name) →
      Alike other (read_all h t r f) (read_all (with calls h) t r f)
  read_all_alike h t r f = equal _ _ (λ s. refl)

  pub colours_alike : (h : Here) (v : Value) → Alike other (colours h v) (colours (with calls h) v)
  colours_alike h v = choice_alike (nat_le (size_of v) 65536) _ _ _ _ (given_alike _)
      (fault_alike other calls h BadSize refl)

  pub root_alike : (h : Here) (u : SpaceUse) (n : ℕ) → Alike other (make_root h u n) (make_root (with calls h) u n)
  root_alike h u n = equal _ _ (λ s. refl)

  pub initialized_alike : (h : Here) → AreAlike other h.calls calls →
      (t : Option TypeTerm) (wanted : StaticType) (initializer : Initializer) → Alike other (initialized h t wanted initializer) (initialized (with calls h) t wanted initializer)
  initialized_alike h g t wanted (region_initializer e u) =
      in_turn (value h e) (value (with calls h) e) _ _ (value_alike other calls h g e)
      (λ v. root_alike h u (size_of v))
  initialized_alike h g t wanted (equal_initializer r e) =
      in_turn (value h e) (value (with calls h) e) _ _ (value_alike other calls h g e)
      (λ v. in_turn (colours h v) (colours (with calls h) v) _ _ (colours_alike h v)
      (λ n. equal _ _ (λ s. refl)))
  initialized_alike h g t wanted (by_field_initializer r f e) =
      in_turn (value h e) (value (with calls h) e) _ _ (value_alike other calls h g e)
      (λ v. in_turn (colours h v) (colours (with calls h) v) _ _ (colours_alike h v)
      (λ n. equal _ _ (λ s. refl)))
  initialized_alike h g t wanted (image_initializer parent p r f) = equal _ _ (λ s. refl)
  initialized_alike h g t wanted (preimage_initializer parent p r f) = equal _ _ (λ s. refl)
  initialized_alike h g t wanted (both_initializer p q) = equal _ _ (λ s. refl)
  initialized_alike h g t wanted (either_initializer p q) = equal _ _ (λ s. refl)
  initialized_alike h g None wanted (plain_initializer e) = value_alike other calls h g e
  initialized_alike h g (Some t) wanted (plain_initializer e) =
      in_turn (value h e) (value (with calls h) e) _ _ (value_alike other calls h g e)
      (λ v. record { all = λ s. (converted_alike other calls h (typed h e) wanted (regions_reached h.scope s.names (reaches_of wanted)) v).all s })

  pub initial_alike : (h : Here) → AreAlike other h.calls calls →
      (t : Option TypeTerm) (wanted : StaticType) (initializer : Option Initializer) → Alike other (initial_value h t wanted initializer) (initial_value (with calls h) t wanted initializer)
  initial_alike h g t wanted None = equal _ _ (λ s. refl)
  initial_alike h g t wanted (Some initializer) = initialized_alike h g t wanted initializer

  -- writes
  write_field_equal : (h : Here) (t : StaticType) (f : Name) (how : How) (v : Value) (a : Aim) → IsPlainAim other calls a → (s : State) →
      write_field h t f how v a s ≡ renamed other (write_field (with calls h) t f how v a s)
  write_field_equal h t f how v (misses k) e s = ap (λ kind. fails (record { kind = kind; line = h.line }) s) e
  write_field_equal h t f how v (hits root n) e s = refl

  pub write_field_alike : (h : Here) (t : StaticType) (f : Name) (how : How) (v p : Value) →
      Alike other (write_field h t f how v (aimed p)) (write_field (with calls h) t f how v (aimed p))
  write_field_alike h t f how v p = equal _ _ (write_field_equal h t f how v (aimed p) (aimed_plain other calls p))

  pub write_name_alike : (h : Here) (n : Name) (how : How) (v : Value) →
      Alike other (write_name h n how v) (write_name (with calls h) n how v)
  write_name_alike h n how v = equal _ _ (λ s. refl)

  pub write_to_alike : (h : Here) → AreAlike other h.calls calls →
      (n : Name) (ss : Steps) (how : How) (v : Value) → Alike other (write_to h n ss how v) (write_to (with calls h) n ss how v)
  write_to_alike h g n no_step how v = write_name_alike h n how v
  write_to_alike h g n (field_step f rest) how v =
      in_turn (named_value h n) (named_value (with calls h) n) _ _ (named_alike other calls h n) (λ u.
      in_turn (stepped h (static_type_of h n) u (before_last (field_step f rest))) (stepped (with calls h) (static_type_of h n) u (before_last (field_step f rest))) _ _
      (stepped_alike other calls h g (static_type_of h n) u (before_last (field_step f rest)))
      (λ p. write_field_alike h
      (stepped_type h.tree h.scope (static_type_of h n) (before_last (field_step f rest)))
      (last_field (field_step f rest)) how v p))
  write_to_alike h g n (at_step e rest) how v =
      in_turn (named_value h n) (named_value (with calls h) n) _ _ (named_alike other calls h n) (λ u.
      in_turn (stepped h (static_type_of h n) u (before_last (at_step e rest))) (stepped (with calls h) (static_type_of h n) u (before_last (at_step e rest))) _ _
      (stepped_alike other calls h g (static_type_of h n) u (before_last (at_step e rest)))
      (λ p. write_field_alike h
      (stepped_type h.tree h.scope (static_type_of h n) (before_last (at_step e rest)))
      (last_field (at_step e rest)) how v p))

  pub right_side_alike : (h : Here) → AreAlike other h.calls calls →
      (n : Name) (ss : Steps) (how : How) (e : Expression) → Alike other (right_side h n ss how e) (right_side (with calls h) n ss how e)
  right_side_alike h g n ss how.Set e = in_turn (value h e) (value (with calls h) e) _ _ (value_alike other calls h g e)
      (λ v. converted_alike other calls h (typed h e) (typed h (access_expr n ss)) [] v)
  right_side_alike h g n ss (how.Reduce o) e = value_alike other calls h g e

  pub fill_alike : (h : Here) (from : StaticType) (v : Value) (t : StaticType) (r : Region)
      (fs : List Name) →
      Alike other (fill_fields h from v t r fs) (fill_fields (with calls h) from v t r fs)
  fill_alike h from v t r [] = given_alike goes_on
  fill_alike h from v t r (f ∷ fs) =
      let place = field_place h.tree (space_in t) f in
      in_turn (converted h from (field_type h.tree (space_in t) (args_in t) f) [] v) (converted (with calls h) from (field_type h.tree (space_in t) (args_in t) f) [] v) _ _
      (converted_alike other calls h from (field_type h.tree (space_in t) (args_in t) f) [] v) (λ u.
      in_turn (touch (touch_all r.root place Write r.points)) (touch (touch_all r.root place Write r.points)) _ _ (equal _ _ (λ s. refl))
      (λ a.
      in_turn (change (λ s. record s { store = write_all s.store r.root place r.points (kept_number u) }))
      (change (λ s. record s { store = write_all s.store r.root place r.points (kept_number u) })) _ _
      (equal _ _ (λ s. refl)) (λ b.
      fill_alike h from v t r fs)))

  mutual
    pub exec_alike : (h : Here) → AreAlike other h.calls calls → (form : Form) → Alike other (exec h form) (exec (with calls h) form)
    exec_alike h g (var_form n t initializer) =
        in_turn (initial_value h t (var_type h.tree h.scope t initializer) initializer)
        (initial_value (with calls h) t (var_type h.tree h.scope t initializer) initializer) _ _
        (initial_alike h g t (var_type h.tree h.scope t initializer) initializer)
        (λ v. bind_alike v)
    exec_alike h g (if_form arms last) =
        arms_alike h h g g arms _ _ (else_alike (after_arms h arms) g last)
    exec_alike h g (while_form test body) = record {
      all = λ s. (turning_alike h s.turns _ _ _ _ (value_alike other calls h g test)
          (scoped_alike _ _ (block_alike h g body))).all s;
    }
    exec_alike h g (for_in_form demanded n domain body) =
        in_turn (value h domain) (value (with calls h) domain) _ _ (value_alike other calls h g domain)
        (λ v. rounds_alike h (items_of v) _ _
        (block_alike (looping h n (taken_from (typed h domain))) g body))
    exec_alike h g (for_to_form demanded n from to body) =
        let t = arithmetic_type (typed h from) (typed h to) in
        in_turn (value h from) (value (with calls h) from) _ _ (value_alike other calls h g from) (λ a.
        in_turn (value h to) (value (with calls h) to) _ _ (value_alike other calls h g to) (λ b.
        counting_alike h (distance (number_of a) (number_of b)) (width_of_type t) (number_of a) _ _
        (block_alike (looping h n t) g body)))
    exec_alike h g (do_form body) = scoped_alike _ _ (block_alike h g body)
    exec_alike h g (fill_form r fields e) =
        in_turn (value h e) (value (with calls h) e) _ _ (value_alike other calls h g e) (λ v.
        in_turn (named_value h r) (named_value (with calls h) r) _ _ (named_alike other calls h r) (λ w.
        fill_alike h (typed h e) v (static_type_of h r) (region_of w) fields))
    exec_alike h g (assert_form e) = in_turn (value h e) (value (with calls h) e) _ _ (value_alike other calls h g e)
        (λ v. choice_alike (truth_of v) _ _ _ _ (given_alike goes_on)
        (fault_alike other calls h AssertFailed refl))
    exec_alike h g (print_form alias format args) =
        in_turn (values h [] args) (values (with calls h) [] args) _ _ (values_alike other calls h g [] args)
        (λ vs. equal _ _ (λ s. refl))
    exec_alike h g (call_form task args) =
        let types = params_at h.tree h.scope (task_named h.tree task) args in
        in_turn (values h types args) (values (with calls h) types args) _ _ (values_alike other calls h g types args) (λ vs.
        in_turn (called h task vs) (called (with calls h) task vs) _ _ (called_alike other calls h g task vs)
        (λ v. given_alike goes_on))
    exec_alike h g (assign_form n steps how e) =
        in_turn (right_side h n steps how e) (right_side (with calls h) n steps how e) _ _ (right_side_alike h g n steps how e)
        (λ v. write_to_alike h g n steps how v)
    exec_alike h g (return_form None) = given_alike _
    exec_alike h g (return_form (Some e)) =
        in_turn (value h e) (value (with calls h) e) _ _ (value_alike other calls h g e) (λ v.
        in_turn (converted h (typed h e) h.result [] v) (converted (with calls h) (typed h e) h.result [] v) _ _
        (converted_alike other calls h (typed h e) h.result [] v) (λ u.
        given_alike (returned u)))

    pub arms_alike : (own h : Here) → AreAlike other own.calls calls → AreAlike other h.calls calls →
        (arms : Arms) (m n : Run Going) → Alike other m n → Alike other (exec_arms own h arms m) (exec_arms (with calls own) (with calls h) arms n)
    arms_alike own h f g no_arm m n k = k
    arms_alike own h f g (an_arm test body rest) m n k =
        in_turn (value own test) (value (with calls own) test) _ _ (value_alike other calls own f test)
        (λ v. choice_alike (truth_of v) _ _ _ _ (scoped_alike _ _ (block_alike h g body))
        (arms_alike own (after_arm h body) f g rest m n k))

    pub else_alike : (h : Here) → AreAlike other h.calls calls → (last : Otherwise) →
        Alike other (exec_else h last) (exec_else (with calls h) last)
    else_alike h g no_else = given_alike goes_on
    else_alike h g (else_block body) = scoped_alike _ _ (block_alike h g body)

    pub block_alike : (h : Here) → AreAlike other h.calls calls → (b : Block) → Alike other (exec_block h b) (exec_block (with calls h) b)
    block_alike h g no_statement = given_alike goes_on
    block_alike h g (then_statement (a_statement line form) rest) =
        in_turn (exec (on_line h line) form) (exec (with calls (on_line h line)) form) _ _ (exec_alike (on_line h line) g form)
        (λ x. going_alike _ _ x (block_alike (after_statement h form) g rest))

pub runs_alike : RunsAlike
runs_alike other h calls g b s = (block_alike other calls h g b).all s
