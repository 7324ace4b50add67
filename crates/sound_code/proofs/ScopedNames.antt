-- Names that are bound next are scoped: a root names itself, and the regions that a new pointer's type names are in scope.
use Rattle.std.proofs.Common.{◌≡◌, Bool, ℕ, suc, List, [], ◌∷◌, ◌++◌, map, refl, sym, subst, arith, ⊎_elim}
use Rattle.regent_tree.specs.Accesses.{space_in}
use Rattle.regent_tree.specs.Scopes.{bound_params, Scope, scope_of}
use Rattle.regent_tree.specs.StaticTypes.{among_params, looked_up, Looking, place_of_space, type_said}
use Rattle.regent_tree.specs.Syntax.{access_expr, at_step, cast_expr, Expression, field_step, Form, no_step, null_expr, TaskTree, Tree}
use Rattle.regent_tree.specs.Typing.{owned, reaches_of, type_of_element}
use Rattle.regent_tree.specs.declared.types.NumberTerm.TheVariants as number
use Rattle.regent_tree.specs.declared.types.Param.{Param}
use Rattle.regent_tree.specs.declared.types.TypeTerm.{TypeTerm}
use Rattle.regent_tree.specs.declared.types.TypeTerm.TheVariants as typing
use Rattle.regent_tree.specs.declared.typing.Bound.{Bound}
use Rattle.regent_tree.specs.declared.typing.StaticType.{StaticType}
use Rattle.code_rules.specs.Slots.{bound, typed, Where}
use Rattle.code_laws.specs.Pointers.{a_pointer_type, AllGoToParams, AreThere, GoToParams, GoesToParams, Begins, begins_plain, begins_pointer, BeginsItself, IsPointer, itself_null, itself_plain}
use Rattle.code_laws.specs.Simple.{a_region_type, IsRegion, IsSimple, simple_index, simple_integer, simple_space, simple_truth}
use Rattle.code_laws.specs.Steps.{Forms}
use Rattle.code_laws.specs.Typed.{element_field, field_behind, IsKeepable, IsOwnRegion, IsPartElement, IsPointing, IsTyped, part_element}
use Rattle.code_laws.proofs.PartTypes.{a_part_pointer, IsPartPointer, part_pointer}
use Rattle.code_laws.proofs.Wider.{into_simple, keepable, zero_simple}
use Rattle.sound_code.specs.Ways.{all_made, by_rules, Way}
use Rattle.sound_code.proofs.Scoped.{Aims, aims_there, AreScoped, IsScoped, pointer_aims, Scoped, scoped_named, scoped_with}
use Rattle.sound_code.proofs.Told.{ToldForm}

pub scoped_bound : (keeps : Bool) (way : Way) (tree : Tree) (s : Scope) (form : Form) (b : Bound) → b.number ≡ s.next → ToldForm way tree s form →
    Scoped keeps way s.names → (AreScoped s.names s.names → IsScoped s.names b.number b.static_type) → Scoped keeps way (b ∷ s.names)
scoped_bound keeps all_made tree s form b e told o h q = tt
scoped_bound keeps (by_rules tops task) tree s form b e told o h q = scoped_with s.next s.names b told.1.scope.numbers (omega (arith, e)) (o q) (h (o q))

pub simple_scoped : (all : List Bound) (n : ℕ) (u : StaticType) → IsSimple u → IsScoped all n u
simple_scoped all n _ (simple_integer w) = tt
simple_scoped all n _ simple_truth = tt
simple_scoped all n _ (simple_space k) = tt
simple_scoped all n _ (simple_index k) = tt

pointer_scoped : (all : List Bound) (n : ℕ) (u : StaticType) → IsPointer u → AreThere all (space_in u) (reaches_of u) → IsScoped all n u
pointer_scoped all n _ (a_pointer_type k sp args rs names) h = aims_there all sp rs h

owned_simple : (all : List Bound) (n i : ℕ) (u : StaticType) → IsSimple u → IsScoped all n (owned i u)
owned_simple all n i _ (simple_integer w) = tt
owned_simple all n i _ simple_truth = tt
owned_simple all n i _ (simple_space k) = tt
owned_simple all n i _ (simple_index k) = tt

owned_pointer : (all : List Bound) (n i : ℕ) (u : StaticType) → IsPointer u → Aims all (space_in u) (reaches_of u) → IsScoped all n (owned i u)
owned_pointer all n i _ (a_pointer_type k sp args rs names) h = h

-- the regions of an expression that gives a pointer
pub region_there : (w : Where) (b : Bound) (u : StaticType) (e : Expression) → IsRegion u → IsOwnRegion w b u →
    AreThere w.scope.names (space_in (type_of_element w.scope u e)) (reaches_of (type_of_element w.scope u e))
region_there w b _ e (a_region_type k sp args r) own =
    subst (AreThere w.scope.names sp) (sym own.is) (own.numbered, own.typed, own.space, tt)

module _ (forms : Forms) (w : Where) (all : AreScoped w.scope.names w.scope.names) where
  there : (u : StaticType) → AreThere w.scope.names (space_in u) (reaches_of u) → Aims w.scope.names (space_in u) (reaches_of u)
  there u h = aims_there w.scope.names (space_in u) (reaches_of u) h

  pointing_aims : (e : Expression) → IsPointer (typed w e) → IsPointing w e → IsTyped forms w e →
      Aims w.scope.names (space_in (typed w e)) (reaches_of (typed w e))
  pointing_aims (access_expr n no_step) p h f =
      pointer_aims w.scope.names (bound w n).number (typed w (access_expr n no_step)) p (scoped_named w.scope.names w.scope.names n all f.0)
  pointing_aims (access_expr n (at_step e no_step)) p h f = there (type_of_element w.scope (bound w n).static_type e) (region_there w (bound w n) (bound w n).static_type e f.4 f.5)
  pointing_aims (access_expr n (at_step e (field_step g no_step))) p h f = there (element_field w n e g) h
  pointing_aims (access_expr n (field_step g no_step)) p h f = there (field_behind w n g) h
  pointing_aims (null_expr t) p h f = there (typed w (null_expr t)) f.1.1
  pointing_aims (cast_expr t e) p h f = there (typed w (cast_expr t e)) f.1.1
  pointing_aims (access_expr n (at_step e (field_step f (field_step g rest)))) p h fine =
      there (typed w (access_expr n (at_step e (field_step f (field_step g rest))))) h
  pointing_aims (access_expr n (field_step f (field_step g rest))) p h fine = there (typed w (access_expr n (field_step f (field_step g rest)))) h
  pointing_aims (access_expr n (at_step e (at_step i (field_step f rest)))) p h fine =
      there (typed w (access_expr n (at_step e (at_step i (field_step f rest))))) h
  pointing_aims _ p h f = absurd h

  -- an element of a part goes into that
  part_aims : (u : StaticType) (own sp : ℕ) → IsPartPointer u own sp → Aims w.scope.names (space_in u) (reaches_of u)
  part_aims _ _ _ (a_part_pointer k sp args own c) = tt

  element_aims : (e : Expression) → IsPartElement e → IsTyped forms w e → Aims w.scope.names (space_in (typed w e)) (reaches_of (typed w e))
  element_aims (access_expr n (at_step e (at_step i no_step))) p f = part_aims (part_element w n e i) _ _ (part_pointer w n e i f.1)
  element_aims _ p f = absurd p

  pub begun_scoped : (b : Bool) (e : Expression) (n : ℕ) → IsKeepable b w e → IsTyped forms w e → IsScoped w.scope.names n (owned w.scope.next (typed w e))
  begun_scoped b e n k f = ⊎_elim (owned_simple w.scope.names n w.scope.next (typed w e))
      (λ p. owned_pointer w.scope.names n w.scope.next (typed w e) p.0 (⊎_elim (λ q. pointing_aims e p.0 q f) (λ q. element_aims e q f) p.1)) (keepable b w e k)

pub said_scoped : (bs : List Bound) (n : ℕ) (t u : StaticType) → Begins bs t u → IsScoped bs n u
said_scoped bs n t u (begins_plain _ _ g) = simple_scoped bs n u (into_simple t u g)
said_scoped bs n t u (begins_pointer _ _ p q) = pointer_scoped bs n u q.0 q.1

pub zero_scoped : (bs : List Bound) (n : ℕ) (u : StaticType) → BeginsItself bs u → IsScoped bs n u
zero_scoped bs n u (itself_plain _ z) = simple_scoped bs n u (zero_simple u z)
zero_scoped bs n u (itself_null _ q) = pointer_scoped bs n u q.0 q.1

-- ---- where a body begins

pub go_both : (all bs : List Bound) (b : Bound) → GoToParams all (bs ++ b ∷ []) → GoToParams all bs × GoesToParams all b.static_type
go_both all [] b h = (tt, h.0)
go_both all (c ∷ bs) b h = let more = go_both all bs b h.1 in ((h.0, more.0), more.1)

scoped_behind : (all bs : List Bound) (b : Bound) → AreScoped all bs → IsScoped all b.number b.static_type → AreScoped all (bs ++ b ∷ [])
scoped_behind all [] b a h = (h, tt)
scoped_behind all (c ∷ bs) b a h = (a.0, scoped_behind all bs b a.1 h)

type_scoped : (tree : Tree) (look : Looking) (all : List Bound) (i : ℕ) (t : TypeTerm) → GoesToParams all (type_said tree look i t) → IsScoped all i (type_said tree look i t)
type_scoped tree look all i (typing.Number number.Int32) h = tt
type_scoped tree look all i (typing.Number number.Int64) h = tt
type_scoped tree look all i (typing.Number (number.Index k)) h = tt
type_scoped tree look all i typing.Truth h = tt
type_scoped tree look all i (typing.Pointer p) h = aims_there all (place_of_space tree p.space.name) (map (looked_up look) p.regions) h
type_scoped tree look all i (typing.Ispace k) h = tt
type_scoped tree look all i (typing.Region k u) h = refl
type_scoped tree look all i (typing.Partition d r c) h = refl

params_scoped : (tree : Tree) (all : List Bound) (ps : List Param) (i : ℕ) (qs : List Param) → GoToParams all (bound_params tree ps i qs) → AreScoped all (bound_params tree ps i qs)
params_scoped tree all ps i [] h = tt
params_scoped tree all ps i (q ∷ qs) h =
    let both = go_both all (bound_params tree ps (suc i) qs) _ h in
    scoped_behind all (bound_params tree ps (suc i) qs) _ (params_scoped tree all ps (suc i) qs both.0) (type_scoped tree (among_params ps) all i q.term both.1)

-- the parameters of a task, whose pointers go to parameters
pub opening_scoped : (tree : Tree) (t : TaskTree) → AllGoToParams (scope_of tree t).names → AreScoped (scope_of tree t).names (scope_of tree t).names
opening_scoped tree t h = params_scoped tree (scope_of tree t).names t.params 0 t.params h
