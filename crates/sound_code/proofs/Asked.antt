-- What is asked of a place of a body: what is known of the program's tasks, and that the mark is ready there.
use Rattle.std.proofs.Common.{◌≡◌, ℕ, ◌<◌, ◌≤◌, true, false, refl, sym, ◌∙◌, None, Option, Some, List, subst}
use Rattle.std.specs.Prelude.{length, slice_get}
use Rattle.regent_tree.specs.Scopes.{past, Scope, scope_of}
use Rattle.regent_tree.specs.StaticTypes.{field_term}
use Rattle.regent_tree.specs.Syntax.{TaskTree, Tree}
use Rattle.value_laws.specs.Shapes.{regions_listed}
use Rattle.regent_tree.specs.Typing.{result_type, scope_after_block}
use Rattle.regent_tree.proofs.Members.{Has, Has-append_left}
use Rattle.regent_tree.specs.declared.facts.Known.{Known as RegionFact}
use Rattle.regent_tree.specs.declared.typing.Bound.{Bound}
use Rattle.task_code.specs.declared.code.TaskCode.{TaskCode}
use Rattle.code_rules.specs.Instructions.{tasks_of}
use Rattle.code_rules.specs.Programs.{code_of}
use Rattle.code_rules.specs.Slots.{Where}
use Rattle.code_laws.proofs.Told.{all_told, Grows, told_before, ToldUpTo}
use Rattle.code_laws.specs.Handing.{told_in}
use Rattle.code_laws.specs.Steps.{Forms, Taking}
use Rattle.std.proofs.lemmas.Bool.{false≢true}
use Rattle.code_laws.specs.Taking.{BeginsWhole, BeginsWithin, LiesUp, pairs_in}
use Rattle.fit_rules.specs.Marks.{Into, Mark}
use Rattle.fit_rules.specs.Fits.{Program}
use Rattle.sound_code.specs.Marks.{opening_mark}
use Rattle.sound_code.specs.Named.{AreNamed, HavePartsBeside, Ready, ReadyAt}
use Rattle.sound_code.specs.Ways.{Tops, Way, all_made, by_rules, shape_of}
use Rattle.sound_code.proofs.Grounds.{BeginsUnder, BeginsWholly, Ground, HasFacts, Kept, top_in}
use Rattle.sound_code.proofs.Cuts.{Cut}
use Rattle.sound_code.proofs.Scoped.{AreScoped, IsByRules, is_by_rules, Scoped}

-- another task is looked at in the same way
abbrev pub other : Way → TaskTree → Way
other all_made u = all_made
other (by_rules tops task) u = by_rules tops u

-- the program is the tree's, and its tasks give results of their types and begin in these marks
pub record Known (way : Way) (g : Program) (tree : Tree) : Type 0 where
  pub code : g.code ≡ code_of tree
  pub positions : (sp f : ℕ) → g.positions sp f ≡ regions_listed (field_term tree sp f)
  pub results : (k : ℕ) (u : TaskTree) → slice_get (tasks_of tree) k ≡ Some u →
      g.results k ≡ shape_of (result_type tree u.result)
  pub begins : (k : ℕ) (u : TaskTree) → slice_get (tasks_of tree) k ≡ Some u → g.begins k ≡ opening_mark (other way u) tree u
  pub first : (k : ℕ) (u : TaskTree) → slice_get (tasks_of tree) k ≡ Some u → Into (length u.params) (g.begins k) (g.marks k 0)

-- which regions of a task began as parts, as is read from its text
pub record AreTops (y : Taking) (params : ℕ) (up : ℕ → Option (ℕ × ℕ)) : Type 0 where
  pub wholly : (i : ℕ) → y.above i ≡ None → up i ≡ None
  pub none : (i : ℕ) → up i ≡ None → y.above i ≡ None
  pub under : (i r : ℕ) → y.above i ≡ Some r → r < i → up i ≡ Some (r, top_in params up r)
  pub same : (i : ℕ) (k : ℕ × ℕ) → up i ≡ Some k → y.above i ≡ Some k.0
  pub falls : (i : ℕ) (k : ℕ × ℕ) → up i ≡ Some k → k.1 ≤ i
  pub upwards : (i : ℕ) → LiesUp y i (top_in params up i)

-- No regions are handed over, and none began as a part; or, by the rules, those that the task made, and those that it took, by
-- what its code needs and what its clauses tell of them, and those that began as parts.
pub data Hands (forms : Forms) (t : TaskCode) (way : Way) (tree : Tree) : Type 0 where
  hands_none : forms.takes ≡ None → forms.keeps ≡ false → ((i : ℕ) → BeginsWholly way i) → Hands forms t way tree
  hands_taken : (tops : Tops) (task : TaskTree) (y : Taking) → way ≡ by_rules tops task → forms.takes ≡ Some y → y.params ≡ t.params →
      y.needs ≡ t.needs → y.within ≡ pairs_in (scope_of tree task).known → AreTops y t.params (tops task) →
      (forms.keeps ≡ false → (i : ℕ) → tops task i ≡ None) → Hands forms t way tree

-- how a region begins, by its number
pub begins_wholly : (forms : Forms) (t : TaskCode) (way : Way) (tree : Tree) (i : ℕ) → Hands forms t way tree → BeginsWhole forms.takes i → BeginsWholly way i
begins_wholly forms t way tree i (hands_none none keeps wholly) b = wholly i
begins_wholly forms t way tree i (hands_taken tops task y by takes e1 e2 e3 are unkept) b =
    subst (λ v. BeginsWholly v i) (sym by) (are.wholly i (subst (λ o. BeginsWhole o i) takes b).1)

pub begins_under : (forms : Forms) (t : TaskCode) (way : Way) (tree : Tree) (params i r : ℕ) → params ≡ t.params → forms.keeps ≡ true → Hands forms t way tree →
    BeginsWithin forms.takes i r → r < i → BeginsUnder way params i r
begins_under forms t way tree params i r ep keeps (hands_none none not wholly) b l = absurd (false≢true (sym not ∙ keeps))
begins_under forms t way tree params i r ep keeps (hands_taken tops task y by takes e1 e2 e3 are unkept) b l =
    subst (λ v. BeginsUnder v params i r) (sym by)
    (subst (λ n. tops task i ≡ Some (r, top_in n (tops task) r)) (sym ep) (are.under i r (subst (λ o. BeginsWithin o i r) takes b).1 l))

-- a mark is ready for names that are the same
pub same_names : (way : Way) (params : ℕ) (bs cs : List Bound) (m : Mark) → bs ≡ cs → Ready way params bs m → Ready way params cs m
same_names way params bs cs m e r = subst (λ y. Ready way params y m) e r

-- what is known at a place is told in the task's body, and all else that is told there is told behind it
abbrev pub UpTo : Way → Tree → Scope → Type 0
UpTo all_made tree s = Unit {0}
UpTo (by_rules tops task) tree s = ToldUpTo (told_in tree task) s

pub upto_before : (way : Way) (tree : Tree) (s u : Scope) → Grows s u → UpTo way tree u → UpTo way tree s
upto_before all_made tree s u grows up = tt
upto_before (by_rules tops task) tree s u grows up = told_before (told_in tree task) s u grows up

-- where a block ends, and behind it
pub upto_inner : (way : Way) (tree : Tree) (s inner : Scope) → UpTo way tree (past s inner) → UpTo way tree inner
upto_inner all_made tree s inner up = tt
upto_inner (by_rules tops task) tree s inner up = record { more = up.more; known = up.known; behind = up.behind }

-- what is known there is told in the body
pub told_total : (tree : Tree) (task : TaskTree) (s : Scope) → ToldUpTo (told_in tree task) s → (k : RegionFact) → Has s.known k → Has (told_in tree task) k
told_total tree task s up k h = subst (λ ks. Has ks k) (sym up.known) (Has-append_left s.known up.more k h)

-- at a body's end
pub upto_end : (way : Way) (tree : Tree) (t : TaskTree) → UpTo (other way t) tree (scope_after_block tree (scope_of tree t) t.body)
upto_end all_made tree t = tt
upto_end (by_rules tops task) tree t = all_told (scope_after_block tree (scope_of tree t) t.body)

module _ (g : Program) (t : TaskCode) (k n : ℕ) where
  pub record AskedAt (deep : ℕ) (forms : Forms) (way : Way) (w : Where) (m : Mark) : Type 0 where
    pub hands : Hands forms t way w.tree
    pub ready : ReadyAt deep way w.params w.scope.names m
    pub params : w.params ≡ t.params
    pub result : g.results k ≡ shape_of w.result
    pub room : length m.slots ≡ n
    pub known : Known way g w.tree
    pub ground : Ground t way w.tree w.params w.scope
    pub facts : HasFacts way w.tree m.facts
    pub ruled : forms.keeps ≡ true → IsByRules way
    pub scoped : Scoped forms.keeps way w.scope.names
    pub cut : Cut forms.keeps way w.tree w.params m.facts w.scope.names
    pub upto : UpTo way w.tree w.scope

  -- between two statements
  abbrev pub Asked : Forms → Way → Where → Mark → Type 0
  Asked forms way w m = AskedAt 0 forms way w m

  -- what is so where pointers are kept: the task is looked at by the rules
  pub record Ruled (way : Way) (w : Where) (m : Mark) : Type 0 where
    pub tops : Tops
    pub task : TaskTree
    pub by : way ≡ by_rules tops task
    pub known : Known (by_rules tops task) g w.tree
    pub kept : Kept t tops task w.tree w.params w.scope
    pub facts : HasFacts (by_rules tops task) w.tree m.facts
    pub named : AreNamed (by_rules tops task) w.params m.slots w.scope.names
    pub beside : HavePartsBeside (by_rules tops task) w.params m.slots w.scope.names
    pub scoped : AreScoped w.scope.names w.scope.names

  pub ruled : {deep : ℕ} (forms : Forms) (way : Way) (w : Where) (m : Mark) → AskedAt deep forms way w m → forms.keeps ≡ true → Ruled way w m
  ruled {deep = e} forms way w m a q = of (a.ruled q) a
    where
      of : {way : Way} → IsByRules way → AskedAt e forms way w m → Ruled way w m
      of (is_by_rules tops task) a =
          record { tops = tops; task = task; by = refl; known = a.known; kept = a.ground; facts = a.facts; named = a.ready.named; beside = a.ready.beside; scoped = a.scoped q }
