-- The laws of running, as instances of one induction.
use Rattle.std.proofs.Common.{◌≡◌, zero, suc, List, [], ◌∷◌, ◌++◌, length, take, refl, arith}
use mathlib.Core.Path.{ap, sym, ◌∙◌}
use Rattle.std.specs.List.{take-map}
use Rattle.std.proofs.lemmas.List.{append_assoc, append-nil, length-map, map-append}
use Rattle.std.proofs.Math.Seq.{take-append_seam}
use Rattle.regent_tree.specs.Scopes.{Scope, scope_of}
use Rattle.regent_tree.specs.StaticTypes.{task_named}
use Rattle.regent_tree.specs.declared.typing.StaticType.{StaticType}
use Rattle.regent_tree.specs.Typing.{result_type}
use Rattle.regent_tree.specs.Store.{Store}
use Rattle.regent_tree.specs.Running.{State, Result, gives, fails, Called, came_back, broke, Calls}
use Rattle.regent_tree.specs.Execution.{Going}
use Rattle.regent_tree.specs.Meaning.{calls_at, ended, body_of, opening}
use Rattle.regent_tree.specs.Laws.{Leaves, Answers, CallsAre, FewerTurns, TurnsNeverRise, Extends, MoreText, TextOnlyGrows, MoreTouches, TouchesOnlyGrow, SameNames, ExpressionsKeepNames, shape_of, shapes, MoreRoots, SameRoots, RootsStay, CallsDropRoots}
use Rattle.regent_tree.proofs.Steps.{Law}
use Rattle.regent_tree.proofs.Expressions.{value_kept}
use Rattle.regent_tree.proofs.Statements.{RunLaw, block_kept}
use Rattle.regent_tree.proofs.Roots.{shapes_written}

-- any calls will do
abbrev pub Anything : Store → Store → Type 0
Anything before after = Unit {0}

pub answers_anything : (store : Store) (c : Called) → Answers Anything store c
answers_anything store (came_back v after text) = tt
answers_anything store (broke f text) = tt

pub any_calls : (calls : Calls) → CallsAre Anything calls
any_calls calls line task vs store = answers_anything store (calls line task vs store)

-- ---- turns

pub turns_law : RunLaw Anything FewerTurns
turns_law = record {
  law = record {
    same = λ s. omega arith;
    through = λ s t u p q. omega arith;
    paid = λ s n e. omega arith;
    touched = λ s more. omega arith;
    printed = λ s more. omega arith;
    answered = λ s store g. omega arith;
  };
  named = λ s names. omega arith;
  made = λ s r. omega arith;
  written = λ s root field point z. omega arith;
}

pub turns_never_rise : TurnsNeverRise
turns_never_rise h b s = (block_kept turns_law h (any_calls h.calls) b).all s

-- ---- lists that only grow

pub extends_equal : {A : Type 0} (xs ys : List A) → ys ≡ xs → Extends xs ys
extends_equal xs ys e = ([], e ∙ sym (append-nil xs))

pub extends_twice : {A : Type 0} (xs ys zs : List A) → Extends xs ys → Extends ys zs → Extends xs zs
extends_twice xs ys zs p q =
    (p.0 ++ q.0, q.1 ∙ ap (λ l. l ++ q.0) p.1 ∙ append_assoc xs p.0 q.0)

-- ---- text

pub text_law : RunLaw Anything MoreText
text_law = record {
  law = record {
    same = λ s. extends_equal s.text s.text refl;
    through = λ s t u p q. extends_twice s.text t.text u.text p q;
    paid = λ s n e. extends_equal s.text s.text refl;
    touched = λ s more. extends_equal s.text s.text refl;
    printed = λ s more. (more, refl);
    answered = λ s store g. extends_equal s.text s.text refl;
  };
  named = λ s names. extends_equal s.text s.text refl;
  made = λ s r. extends_equal s.text s.text refl;
  written = λ s root field point z. extends_equal s.text s.text refl;
}

pub text_only_grows : TextOnlyGrows
text_only_grows h b s = (block_kept text_law h (any_calls h.calls) b).all s

-- ---- touches

pub touches_law : RunLaw Anything MoreTouches
touches_law = record {
  law = record {
    same = λ s. extends_equal s.touches s.touches refl;
    through = λ s t u p q. extends_twice s.touches t.touches u.touches p q;
    paid = λ s n e. extends_equal s.touches s.touches refl;
    touched = λ s more. (more, refl);
    printed = λ s more. extends_equal s.touches s.touches refl;
    answered = λ s store g. extends_equal s.touches s.touches refl;
  };
  named = λ s names. extends_equal s.touches s.touches refl;
  made = λ s r. extends_equal s.touches s.touches refl;
  written = λ s root field point z. extends_equal s.touches s.touches refl;
}

pub touches_only_grow : TouchesOnlyGrow
touches_only_grow h b s = (block_kept touches_law h (any_calls h.calls) b).all s

-- ---- names

pub names_law : Law Anything SameNames
names_law = record {
  same = λ s. refl;
  through = λ s t u p q. q ∙ p;
  paid = λ s n e. refl;
  touched = λ s more. refl;
  printed = λ s more. refl;
  answered = λ s store g. refl;
}

pub expressions_keep_names : ExpressionsKeepNames
expressions_keep_names h e s = (value_kept names_law h (any_calls h.calls) e).all s

-- ---- roots

pub roots_law : RunLaw SameRoots MoreRoots
roots_law = record {
  law = record {
    same = λ s. extends_equal (shapes s.store) (shapes s.store) refl;
    through = λ s t u p q. extends_twice (shapes s.store) (shapes t.store) (shapes u.store) p q;
    paid = λ s n e. extends_equal (shapes s.store) (shapes s.store) refl;
    touched = λ s more. extends_equal (shapes s.store) (shapes s.store) refl;
    printed = λ s more. extends_equal (shapes s.store) (shapes s.store) refl;
    answered = λ s store g. extends_equal (shapes s.store) (shapes store) g;
  };
  named = λ s names. extends_equal (shapes s.store) (shapes s.store) refl;
  made = λ s r. (shape_of r ∷ [], map-append shape_of s.store (r ∷ []));
  written = λ s root field point z.
      extends_equal (shapes s.store) _ (shapes_written s.store root field point z);
}

pub roots_stay : RootsStay
roots_stay h g b s = (block_kept roots_law h g b).all s

-- what begins with a store's shapes has those shapes where it is cut at the store's length
pub shapes_cut : (before after : Store) → Extends (shapes before) (shapes after) →
    shapes (take (length before) after) ≡ shapes before
shapes_cut before after e =
    sym (take-map shape_of (length before) after)
    ∙ ap (take (length before)) e.1
    ∙ ap (λ n. take n (shapes before ++ e.0)) (sym (length-map before shape_of))
    ∙ take-append_seam (shapes before) e.0

pub end_drops_roots : (sc : Scope) (t : StaticType) (s : State) (r : Result Going) →
    Leaves MoreRoots s r → Answers SameRoots s.store (ended (length s.store) sc t r)
end_drops_roots sc t s (gives g u) h = shapes_cut s.store u.store h
end_drops_roots sc t s (fails f u) h = tt

pub calls_drop_roots : CallsDropRoots
calls_drop_roots tree turns zero line task vs store = tt
calls_drop_roots tree turns (suc more) line task vs store =
    let t = task_named tree task in
    end_drops_roots (scope_of tree t) (result_type tree t.result) (opening tree turns t vs store) _
    (roots_stay (body_of tree (calls_at tree turns more) t) (calls_drop_roots tree turns more)
    t.body (opening tree turns t vs store))
