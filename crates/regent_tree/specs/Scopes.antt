-- Scopes: the names that are bound at a place of the text, with what is known of regions there. A
-- scope is found from the text alone.
--
-- Of a name that is bound, the number is that of the binding, which is never used again within the
-- task; the place is where its value stands among those of the names in scope.
use Rattle.std.specs.Prelude.{ℕ, suc, List, [], ◌∷◌, ◌++◌, length, Bool, false, ◌==◌, cond, Some, bytes_eq}
use Rattle.regent_tree.specs.declared.facts.Known.{Known}
use Rattle.regent_tree.specs.declared.facts.Known.TheVariants.{Within, Apart, PartOf}
use Rattle.regent_tree.specs.declared.facts.Term.{Term}
use Rattle.regent_tree.specs.declared.facts.Term.TheVariants as term
use Rattle.regent_tree.specs.declared.program.Clause.{Clause}
use Rattle.regent_tree.specs.declared.program.Clause.TheVariants as clause
use Rattle.regent_tree.specs.declared.types.Param.{Param}
use Rattle.regent_tree.specs.Syntax.{Name, Tree, TaskTree}
use Rattle.regent_tree.specs.StaticTypes.{Looking, among_params, place_in, type_said}
use Rattle.regent_tree.specs.declared.typing.StaticType.{StaticType}
use Rattle.regent_tree.specs.declared.typing.StaticType.TheVariants.{Partition as partition_type, Unknown as unknown_type}
use Rattle.regent_tree.specs.declared.typing.Bound.{Bound}

-- the names in scope, innermost first; what is known; and the number of the next binding
pub record Scope : Type 0 where
  pub names : List Bound
  pub known : List Known
  pub next : ℕ

abbrev pub unbound : Bound
unbound = record { name = []; number = 0; place = 0; static_type = unknown_type; by_loop = false }

-- what a name is bound to
abbrev pub bound_to : List Bound → Name → Bound
bound_to [] n = unbound
bound_to (b ∷ bs) n = cond (bytes_eq b.name n) b (bound_to bs n)

-- the binding with a number
abbrev pub bound_as : List Bound → ℕ → Bound
bound_as [] i = unbound
bound_as (b ∷ bs) i = cond (b.number == i) b (bound_as bs i)

-- the scope with one more name, which a loop binds or not
abbrev pub with_name : Scope → Name → StaticType → Bool → Scope
with_name s n t by_loop = record {
  names = record {
    name = n;
    number = s.next;
    place = length s.names;
    static_type = t;
    by_loop = by_loop;
  } ∷ s.names;
  known = s.known;
  next = suc s.next;
}

-- the scope where more is known
abbrev pub knowing : Scope → List Known → Scope
knowing s more = record s { known = s.known ++ more }

-- a scope after a block that began in it: its names again, but no binding's number is used again
abbrev pub past : Scope → Scope → Scope
past s inner = record { names = s.names; known = inner.known; next = inner.next }

-- names in a body stand for what they are bound to
abbrev pub in_scope : Scope → Looking
in_scope s n = Some (term.Name (bound_to s.names n).number)

-- ---- the scope in which a task's body begins

-- the bindings of parameters, from a place on, innermost first
abbrev pub bound_params : Tree → List Param → ℕ → List Param → List Bound
bound_params tree all i [] = []
bound_params tree all i (p ∷ ps) = bound_params tree all (suc i) ps ++ record {
  name = p.name;
  number = i;
  place = i;
  static_type = type_said tree (among_params all) i p.term;
  by_loop = false;
} ∷ []

-- a partition's type tells its parent, and whether it is disjoint
abbrev pub known_of_type : StaticType → List Known
known_of_type (partition_type disjoint parent own) = PartOf own parent disjoint ∷ []
known_of_type _ = []

abbrev pub known_of_params : List Bound → List Known
known_of_params [] = []
known_of_params (b ∷ bs) = known_of_params bs ++ known_of_type b.static_type

-- a clause `a <= b` or `a * b` tells of two parameters
abbrev pub param_term : List Param → Name → Term
param_term params n = term.Name (place_in params n)

abbrev pub known_of_clause : List Param → Clause → List Known
known_of_clause params (clause.Within a b) =
    Within (param_term params a) (param_term params b) ∷ []
known_of_clause params (clause.Apart a b) =
    Apart (param_term params a) (param_term params b) ∷ []
known_of_clause params (clause.Grants grants places) = []

abbrev pub known_of_clauses : List Param → List Clause → List Known
known_of_clauses params [] = []
known_of_clauses params (c ∷ cs) = known_of_clause params c ++ known_of_clauses params cs

abbrev pub scope_of : Tree → TaskTree → Scope
scope_of tree t = let names = bound_params tree t.params 0 t.params in record {
  names = names;
  known = known_of_params names ++ known_of_clauses t.params t.clauses;
  next = length t.params;
}
