-- Where the statements of a task's body begin in its code, and that the marks there are those of their scopes.
use Rattle.std.specs.Prelude.{◌≡◌, ◌⊎◌, ◌≤◌, ℕ, List, [], length}
use Rattle.regent_tree.specs.Syntax.{a_statement, Block, no_statement, TaskTree, then_statement, Tree}
use Rattle.code_rules.specs.Pieces.{past}
use Rattle.code_rules.specs.Slots.{Where}
use Rattle.code_rules.specs.Statements.{after_form, form_code, on_line}
use Rattle.fit_rules.specs.Shapes.{Among}
use Rattle.fit_rules.specs.Marks.{apart, child_in, counts, Fact, in_slot, Into, lies, Mark, parted, stacked}
use Rattle.sound_code.specs.Named.{Ready}
use Rattle.sound_code.specs.Ways.{by_rules, opening_facts, Tops}

-- A statement of a block that is compiled somewhere from a place on begins at a place, in the scope in which it is compiled.
abbrev pub BeginsAt : Where → Block → ℕ → Where → ℕ → Type 0
BeginsAt w no_statement pc v q = ⊥
BeginsAt w (then_statement (a_statement line form) rest) pc v q = ((v ≡ w) × (q ≡ pc))
    ⊎ BeginsAt (after_form w form) rest (past (form_code (on_line w line) form) pc) v q

-- A fact of a region or a partition that was bound behind the parameters, or of a loop's counter.
abbrev pub IsBehind : ℕ → Fact → Type 0
IsBehind params (lies (in_slot s) b) = params ≤ s
IsBehind params (lies (child_in p c) b) = ⊥
IsBehind params (apart a b) = ⊥
IsBehind params (parted p s) = params ≤ p
IsBehind params (counts c s) = Unit {0}

-- facts are those that were known, or such ones
abbrev pub AreMore : ℕ → List Fact → List Fact → Type 0
AreMore params ks ls = (f : Fact) → Among ls f → Among ks f ⊎ IsBehind params f

-- What suits a mark of a scope suits the mark that is there: the names in scope have their shapes, what is known of the parameters is what the
-- task's clauses tell, the other facts speak of what was bound behind these, and the stack is empty. So no state is left out there
-- that fits the scope.
pub record IsOfScope (tops : Tops) (tree : Tree) (t : TaskTree) (v : Where) (there : Mark) : Type 0 where
  pub mark : Mark
  pub ready : Ready (by_rules tops t) (length t.params) v.scope.names mark
  pub told : (f : Fact) → Among (opening_facts (by_rules tops t) tree t) f → Among mark.facts f
  pub only : AreMore (length t.params) (opening_facts (by_rules tops t) tree t) mark.facts
  pub suits : Into (length t.params) (stacked mark []) there
