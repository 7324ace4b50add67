-- What each step keeps, the execution of every statement keeps.
use Rattle.std.specs.Prelude.{ℕ, zero, suc, ℤ, pos, ◌+ℤ◌, List, [], ◌∷◌, ◌++◌, Option, Some, None, length, take, nat_le}
use Rattle.lane_kernels.specs.declared.numbers.Mode.TheVariants.{Write}
use Rattle.lane_kernels.specs.declared.numbers.Width.{Width}
use Rattle.regent_tree.specs.declared.outcome.RootImage.{RootImage}
use Rattle.regent_tree.specs.declared.statement.How.{How}
use Rattle.regent_tree.specs.declared.statement.How.TheVariants as how
use Rattle.regent_tree.specs.declared.types.SpaceUse.{SpaceUse}
use Rattle.regent_tree.specs.declared.types.TypeTerm.{TypeTerm}
use Rattle.regent_tree.specs.Syntax.{Name, Expression, access_expr, Steps, no_step, field_step, at_step, Initializer, region_initializer, equal_initializer, by_field_initializer, image_initializer, preimage_initializer, both_initializer, either_initializer, plain_initializer, a_statement, Form, var_form, if_form, while_form, for_in_form, for_to_form, do_form, fill_form, assert_form, print_form, call_form, assign_form, return_form, Block, no_statement, then_statement, Arms, no_arm, an_arm, Otherwise, no_else, else_block}
use Rattle.regent_tree.specs.Numbers.{distance}
use Rattle.regent_tree.specs.Values.{Value, Region, truth_of, number_of, region_of, size_of, kept_number}
use Rattle.regent_tree.specs.Store.{Store, write_at, write_all, touch_all}
use Rattle.regent_tree.specs.StaticTypes.{field_type, field_place, task_named}
use Rattle.regent_tree.specs.declared.typing.StaticType.{StaticType}
use Rattle.regent_tree.specs.Typing.{stepped_type, arithmetic_type, params_at, var_type, taken_from, width_of_type}
use Rattle.regent_tree.specs.Running.{State, Here, Run, Result, gives, fails, change, pay, touch}
use Rattle.regent_tree.specs.Accesses.{converted, Aim, hits, misses, aimed, space_in, args_in}
use Rattle.regent_tree.specs.Evaluation.{value, values, stepped, named_value, static_type_of, typed, called}
use Rattle.regent_tree.specs.Initializers.{initial_value, initialized, make_root, colours, region_named, partition_named, read_all}
use Rattle.regent_tree.specs.Execution.{Going, goes_on, returned, going_on, leaving, scoped, bind, round, rounds, counting, turn, turning, items_of, write_field, write_name, write_to, right_side, fill_fields, before_last, last_field, on_line, looping, after_statement, after_arm, after_arms, exec, exec_arms, exec_else, exec_block}
use Rattle.regent_tree.specs.Laws.{Leaves, CallsAre}
use Rattle.regent_tree.proofs.Steps.{Law, Kept, in_turn, given_kept, fault_kept, choice_kept, pay_kept, touch_kept, named_kept, converted_kept, called_kept}
use Rattle.regent_tree.proofs.Expressions.{value_kept, values_kept, stepped_kept}

-- a relation of states that each step of a statement keeps
pub record RunLaw (Good : Store → Store → Type 0) (R : State → State → Type 0) : Type 0 where
  pub law : Law Good R
  pub named : (s : State) (names : List Value) → R s (record s { names = names })
  pub made : (s : State) (r : RootImage) → R s (record s { store = s.store ++ r ∷ [] })
  pub written : (s : State) (root field point : ℕ) (z : ℤ) →
      R s (record s { store = write_at s.store root field point z })

module _ {Good : Store → Store → Type 0} {R : State → State → Type 0} (rules : RunLaw Good R) where
  pub going_kept : (rest : Run Going) (g : Going) → Kept R rest → Kept R (going_on rest g)
  going_kept rest goes_on h = h
  going_kept rest (returned v) h = given_kept rules.law (returned v)

  pub leaving_kept : (n : ℕ) (s : State) (r : Result Going) → Leaves R s r →
      Leaves R s (leaving n r)
  leaving_kept n s (gives g t) h = rules.law.through s t _ h (rules.named t (take n t.names))
  leaving_kept n s (fails f t) h = h

  pub scoped_kept : (body : Run Going) → Kept R body → Kept R (scoped body)
  scoped_kept body h = record { all = λ s. leaving_kept (length s.names) s (body s) (h.all s) }

  pub bind_kept : (v : Value) → Kept R (bind v)
  bind_kept v = record { all = λ s. rules.named s _ }

  pub round_kept : (h : Here) (v : Value) (body : Run Going) → Kept R body → Kept R (round h v body)
  round_kept h v body k = in_turn rules.law (pay h) _ (pay_kept rules.law h)
      (λ u. scoped_kept _ (in_turn rules.law (bind v) _ (bind_kept v) (λ g. k)))

  pub rounds_kept : (h : Here) (vs : List Value) (body : Run Going) → Kept R body →
      Kept R (rounds h vs body)
  rounds_kept h [] body k = given_kept rules.law goes_on
  rounds_kept h (v ∷ vs) body k = in_turn rules.law (round h v body) _ (round_kept h v body k)
      (λ g. going_kept _ g (rounds_kept h vs body k))

  pub counting_kept : (h : Here) (n : ℕ) (w : Width) (i : ℤ) (body : Run Going) → Kept R body →
      Kept R (counting h n w i body)
  counting_kept h zero w i body k = given_kept rules.law goes_on
  counting_kept h (suc n) w i body k = in_turn rules.law _ _ (round_kept h _ body k)
      (λ g. going_kept _ g (counting_kept h n w (i +ℤ pos 1) body k))

  pub turn_kept : (h : Here) (v : Value) (body again : Run Going) → Kept R body → Kept R again →
      Kept R (turn h v body again)
  turn_kept h v body again k l = choice_kept rules.law (truth_of v) _ _
      (in_turn rules.law (pay h) _ (pay_kept rules.law h)
      (λ u. in_turn rules.law body _ k (λ g. going_kept again g l)))
      (given_kept rules.law goes_on)

  pub turning_kept : (h : Here) (n : ℕ) (test : Run Value) (body : Run Going) → Kept R test →
      Kept R body → Kept R (turning h n test body)
  turning_kept h zero test body t k = in_turn rules.law test _ t
      (λ v. choice_kept rules.law (truth_of v) _ _ (fault_kept rules.law h _)
      (given_kept rules.law goes_on))
  turning_kept h (suc n) test body t k = in_turn rules.law test _ t
      (λ v. turn_kept h v body _ k (turning_kept h n test body t k))

  -- initializers
  pub region_kept : (h : Here) (n : Name) → Kept R (region_named h n)
  region_kept h n = record { all = λ s. rules.law.same s }

  pub partition_kept : (h : Here) (n : Name) → Kept R (partition_named h n)
  partition_kept h n = record { all = λ s. rules.law.same s }

  pub read_all_kept : (h : Here) (t : StaticType) (r : Region) (f : Name) →
      Kept R (read_all h t r f)
  read_all_kept h t r f = record { all = λ s. rules.law.touched s _ }

  pub colours_kept : (h : Here) (v : Value) → Kept R (colours h v)
  colours_kept h v = choice_kept rules.law (nat_le (size_of v) 65536) _ _ (given_kept rules.law _)
      (fault_kept rules.law h _)

  pub root_kept : (h : Here) (u : SpaceUse) (n : ℕ) → Kept R (make_root h u n)
  root_kept h u n = record { all = λ s. rules.made s _ }

  pub initialized_kept : (h : Here) → CallsAre Good h.calls →
      (t : Option TypeTerm) (wanted : StaticType) (initializer : Initializer) → Kept R
      (initialized h t wanted initializer)
  initialized_kept h g t wanted (region_initializer e u) =
      in_turn rules.law (value h e) _ (value_kept rules.law h g e)
      (λ v. root_kept h u (size_of v))
  initialized_kept h g t wanted (equal_initializer r e) =
      in_turn rules.law (value h e) _ (value_kept rules.law h g e)
      (λ v. in_turn rules.law (colours h v) _ (colours_kept h v)
      (λ n. record { all = λ s. rules.law.same s }))
  initialized_kept h g t wanted (by_field_initializer r f e) =
      in_turn rules.law (value h e) _ (value_kept rules.law h g e)
      (λ v. in_turn rules.law (colours h v) _ (colours_kept h v)
      (λ n. record { all = λ s. rules.law.touched s _ }))
  initialized_kept h g t wanted (image_initializer parent p r f) = record { all = λ s. rules.law.touched s _ }
  initialized_kept h g t wanted (preimage_initializer parent p r f) =
      record { all = λ s. rules.law.touched s _ }
  initialized_kept h g t wanted (both_initializer p q) = record { all = λ s. rules.law.same s }
  initialized_kept h g t wanted (either_initializer p q) = record { all = λ s. rules.law.same s }
  initialized_kept h g None wanted (plain_initializer e) = value_kept rules.law h g e
  initialized_kept h g (Some t) wanted (plain_initializer e) =
      in_turn rules.law (value h e) _ (value_kept rules.law h g e)
      (λ v. record { all = λ s. (converted_kept rules.law h (typed h e) wanted _ v).all s })

  pub initial_kept : (h : Here) → CallsAre Good h.calls →
      (t : Option TypeTerm) (wanted : StaticType) (initializer : Option Initializer) → Kept R
      (initial_value h t wanted initializer)
  initial_kept h g t wanted None = record { all = λ s. rules.law.same s }
  initial_kept h g t wanted (Some initializer) = initialized_kept h g t wanted initializer

  -- writes
  pub write_all_kept : (root field : ℕ) (xs : List ℕ) (z : ℤ) (s : State) →
      R s (record s { store = write_all s.store root field xs z })
  write_all_kept root field [] z s = rules.law.same s
  write_all_kept root field (x ∷ xs) z s =
      rules.law.through s (record s { store = write_at s.store root field x z }) _
      (rules.written s root field x z)
      (write_all_kept root field xs z (record s { store = write_at s.store root field x z }))

  pub write_field_kept : (h : Here) (t : StaticType) (f : Name) (how : How) (v : Value) (a : Aim) →
      Kept R (write_field h t f how v a)
  write_field_kept h t f how v (misses k) = record { all = λ s. rules.law.same s }
  write_field_kept h t f how v (hits root n) = record {
    all = λ s. rules.law.through s _ _ (rules.law.touched s _) (rules.written _ _ _ _ _);
  }

  pub write_name_kept : (h : Here) (n : Name) (how : How) (v : Value) →
      Kept R (write_name h n how v)
  write_name_kept h n how v = record { all = λ s. rules.named s _ }

  pub write_to_kept : (h : Here) → CallsAre Good h.calls →
      (n : Name) (ss : Steps) (how : How) (v : Value) → Kept R (write_to h n ss how v)
  write_to_kept h g n no_step how v = write_name_kept h n how v
  write_to_kept h g n (field_step f rest) how v =
      in_turn rules.law (named_value h n) _ (named_kept rules.law h n) (λ u.
      in_turn rules.law (stepped h (static_type_of h n) u (before_last (field_step f rest))) _
      (stepped_kept rules.law h g (static_type_of h n) u (before_last (field_step f rest)))
      (λ p. write_field_kept h
      (stepped_type h.tree h.scope (static_type_of h n) (before_last (field_step f rest)))
      (last_field (field_step f rest)) how v (aimed p)))
  write_to_kept h g n (at_step e rest) how v =
      in_turn rules.law (named_value h n) _ (named_kept rules.law h n) (λ u.
      in_turn rules.law (stepped h (static_type_of h n) u (before_last (at_step e rest))) _
      (stepped_kept rules.law h g (static_type_of h n) u (before_last (at_step e rest)))
      (λ p. write_field_kept h
      (stepped_type h.tree h.scope (static_type_of h n) (before_last (at_step e rest)))
      (last_field (at_step e rest)) how v (aimed p)))

  pub right_side_kept : (h : Here) → CallsAre Good h.calls →
      (n : Name) (ss : Steps) (how : How) (e : Expression) → Kept R (right_side h n ss how e)
  right_side_kept h g n ss how.Set e = in_turn rules.law (value h e) _ (value_kept rules.law h g e)
      (λ v. converted_kept rules.law h (typed h e) (typed h (access_expr n ss)) [] v)
  right_side_kept h g n ss (how.Reduce o) e = value_kept rules.law h g e

  pub fill_kept : (h : Here) (from : StaticType) (v : Value) (t : StaticType) (r : Region)
      (fs : List Name) →
      Kept R (fill_fields h from v t r fs)
  fill_kept h from v t r [] = given_kept rules.law goes_on
  fill_kept h from v t r (f ∷ fs) =
      let place = field_place h.tree (space_in t) f in
      in_turn rules.law (converted h from (field_type h.tree (space_in t) (args_in t) f) [] v) _
      (converted_kept rules.law h from (field_type h.tree (space_in t) (args_in t) f) [] v) (λ u.
      in_turn rules.law (touch (touch_all r.root place Write r.points)) _ (touch_kept rules.law _)
      (λ a.
      in_turn rules.law (change
      (λ s. record s { store = write_all s.store r.root place r.points (kept_number u) })) _
      (record { all = λ s. write_all_kept r.root place r.points (kept_number u) s }) (λ b.
      fill_kept h from v t r fs)))

  mutual
    pub exec_kept : (h : Here) → CallsAre Good h.calls → (form : Form) → Kept R (exec h form)
    exec_kept h g (var_form n t initializer) =
        in_turn rules.law _ _ (initial_kept h g t (var_type h.tree h.scope t initializer) initializer)
        (λ v. bind_kept v)
    exec_kept h g (if_form arms other) =
        arms_kept h h g g arms _ (else_kept (after_arms h arms) g other)
    exec_kept h g (while_form test body) = record {
      all = λ s. (turning_kept h s.turns _ _ (value_kept rules.law h g test)
          (scoped_kept _ (block_kept h g body))).all s;
    }
    exec_kept h g (for_in_form demanded n domain body) =
        in_turn rules.law (value h domain) _ (value_kept rules.law h g domain)
        (λ v. rounds_kept h (items_of v) _
        (block_kept (looping h n (taken_from (typed h domain))) g body))
    exec_kept h g (for_to_form demanded n from to body) =
        let t = arithmetic_type (typed h from) (typed h to) in
        in_turn rules.law (value h from) _ (value_kept rules.law h g from) (λ a.
        in_turn rules.law (value h to) _ (value_kept rules.law h g to) (λ b.
        counting_kept h (distance (number_of a) (number_of b)) (width_of_type t) (number_of a) _
        (block_kept (looping h n t) g body)))
    exec_kept h g (do_form body) = scoped_kept _ (block_kept h g body)
    exec_kept h g (fill_form r fields e) =
        in_turn rules.law (value h e) _ (value_kept rules.law h g e) (λ v.
        in_turn rules.law (named_value h r) _ (named_kept rules.law h r) (λ w.
        fill_kept h (typed h e) v (static_type_of h r) (region_of w) fields))
    exec_kept h g (assert_form e) = in_turn rules.law (value h e) _ (value_kept rules.law h g e)
        (λ v. choice_kept rules.law (truth_of v) _ _ (given_kept rules.law goes_on)
        (fault_kept rules.law h _))
    exec_kept h g (print_form alias format args) =
        in_turn rules.law (values h [] args) _ (values_kept rules.law h g [] args)
        (λ vs. record { all = λ s. rules.law.printed s _ })
    exec_kept h g (call_form task args) =
        let types = params_at h.tree h.scope (task_named h.tree task) args in
        in_turn rules.law (values h types args) _ (values_kept rules.law h g types args) (λ vs.
        in_turn rules.law (called h task vs) _ (called_kept rules.law h g task vs)
        (λ v. given_kept rules.law goes_on))
    exec_kept h g (assign_form n steps how e) =
        in_turn rules.law (right_side h n steps how e) _ (right_side_kept h g n steps how e)
        (λ v. write_to_kept h g n steps how v)
    exec_kept h g (return_form None) = given_kept rules.law _
    exec_kept h g (return_form (Some e)) =
        in_turn rules.law (value h e) _ (value_kept rules.law h g e) (λ v.
        in_turn rules.law (converted h (typed h e) h.result [] v) _
        (converted_kept rules.law h (typed h e) h.result [] v) (λ u.
        given_kept rules.law (returned u)))

    pub arms_kept : (own h : Here) → CallsAre Good own.calls → CallsAre Good h.calls →
        (arms : Arms) (other : Run Going) → Kept R other → Kept R (exec_arms own h arms other)
    arms_kept own h f g no_arm other k = k
    arms_kept own h f g (an_arm test body rest) other k =
        in_turn rules.law (value own test) _ (value_kept rules.law own f test)
        (λ v. choice_kept rules.law (truth_of v) _ _ (scoped_kept _ (block_kept h g body))
        (arms_kept own (after_arm h body) f g rest other k))

    pub else_kept : (h : Here) → CallsAre Good h.calls → (other : Otherwise) →
        Kept R (exec_else h other)
    else_kept h g no_else = given_kept rules.law goes_on
    else_kept h g (else_block body) = scoped_kept _ (block_kept h g body)

    pub block_kept : (h : Here) → CallsAre Good h.calls → (b : Block) → Kept R (exec_block h b)
    block_kept h g no_statement = given_kept rules.law goes_on
    block_kept h g (then_statement (a_statement line form) rest) =
        in_turn rules.law _ _ (exec_kept (on_line h line) g form)
        (λ x. going_kept _ x (block_kept (after_statement h form) g rest))
