-- What an accepted program has: its field spaces and its tasks.
use Rattle.std.proofs.Common.{◌≡◌, Bool, List, [], ◌∷◌, ◌++◌, None, Some, true, false, refl, ap, sym, subst, ◌∙◌, ℕ, zero, suc, ◌≤◌, ◌<◌, ◌+◌, inl, inr, arith, cond}
use Rattle.std.specs.Prelude.{bytes_eq, get_or, length, map, slice_get}
use Rattle.std.specs.List.{list_any}
use Rattle.std.proofs.lemmas.Bool.{or_parts}
use Rattle.std.proofs.lemmas.Option.{none-some, same_Some}
use Rattle.std.proofs.lemmas.Slice.Eq.{bytes_eq-Decides}
use Rattle.plain_values.proofs.Plain.{option_or_parts}
use Rattle.regent_tree.proofs.Members.{Contains-from_Has, Has, Has-map}
use Rattle.regent_tree.specs.Limits.{WithinLimits, counted, parts_of_item, parts_of_program}
use Rattle.regent_tree.specs.Scopes.{bound_params, scope_of}
use Rattle.regent_tree.specs.StaticTypes.{place_in, space_at, spaces_of, task_named}
use Rattle.regent_tree.specs.Syntax.{ItemForm, ItemTree, TaskTree, Tree, alias_item, import_item, space_item, start_item, task_item}
use Rattle.regent_tree.specs.declared.limits.Counted.TheVariants.{Fields}
use Rattle.regent_tree.specs.declared.program.FieldSpace.{FieldSpace}
use Rattle.regent_tree.specs.declared.types.Param.{Param}
use Rattle.regent_tree.specs.declared.typing.Bound.{Bound}
use Rattle.regent_tree.specs.declared.typing.StaticType.{StaticType}
use Rattle.check_laws.proofs.Entries.{no_line, none_left}
use Rattle.check_laws.proofs.Parameters.{place_step}
use Rattle.check_laws.proofs.Trees.{declared_none, none_of}
use Rattle.check_rules.specs.Breaches.{breaches}
use Rattle.check_rules.specs.declared.rule.Rule.TheVariants as rule
use Rattle.check_rules.specs.first.FirstInItems.{first_declared, first_line, first_in_fields, first_of_said, first_of_saying}
use Rattle.check_rules.specs.rules.Repeats.{Given, given_by, repeats, repeats_after, repeats_within, was_given}
use Rattle.check_rules.specs.scopes.Sound.{StandsIn}
use Rattle.code_rules.specs.Instructions.{tasks_of}
use Rattle.code_laws.specs.WrittenForms.{is_written_block, is_written_item, is_written_program}
use Rattle.state_laws.proofs.Texts.{declarations_are}
use Rattle.code_laws.proofs.Openings.{types_cons, types_in}
use Rattle.code_laws.proofs.Entries.{all_of, found, kept_all, kept_item}
use Rattle.code_laws.proofs.Typing.{AreKept}
use Rattle.code_laws.proofs.LocalNames.{AllKept, AreTakable, IsLocalTree}
use Rattle.code_laws.proofs.LocalParams.{AreAmongParams, all_kept, pointers_among, term_takable}
use Rattle.code_laws.proofs.LocalTypes.{IsTakable}
use Rattle.check_rules.specs.first.FirstInStatements.{told_on}
use Rattle.check_rules.specs.first.Rules.{first_in, rule_if}
use Rattle.check_rules.specs.rules.Results.{misdeclares_result}
use Rattle.check_rules.specs.scopes.Visits.{declarations_of_item}
use Rattle.check_rules.specs.types.Declarations.{is_no_result_type}

-- ---- field spaces

abbrev no_fields : FieldSpace
no_fields = record { name = []; params = []; fields = [] }

-- what holds of each field space of a program, and of none, holds at each place
module _ (P : FieldSpace → Type 0) (of_none : P no_fields) where
  space_has : (items : Tree) → ((i : ItemTree) → Has items i → (s : FieldSpace) → i.form ≡ space_item s → P s) → (sp : ℕ) →
      P (get_or (spaces_of items) sp no_fields)
  space_has [] each sp = of_none
  space_has (i ∷ items) each sp = by_form i.line i.form refl (space_has items (λ j h. each j (inr h))) sp
    where
      by_form : (line : ℕ) (form : ItemForm) → i.form ≡ form → ((sp : ℕ) → P (get_or (spaces_of items) sp no_fields)) → (sp : ℕ) →
          P (get_or (spaces_of (record { line = line; form = form } ∷ items)) sp no_fields)
      by_form line import_item same more sp = more sp
      by_form line (alias_item m) same more sp = more sp
      by_form line (start_item m) same more sp = more sp
      by_form line (task_item t) same more sp = more sp
      by_form line (space_item s) same more zero = each i (inl refl) s same
      by_form line (space_item s) same more (suc sp) = more sp

-- ---- tasks

-- a task at a place among them is an item
pub task_stands : (items : Tree) (k : ℕ) (t : TaskTree) → slice_get (tasks_of items) k ≡ Some t →
    (i : ItemTree) × Has items i × (i.form ≡ task_item t)
task_stands [] k t e = absurd (none-some t e)
task_stands (i ∷ items) k t e = by_form i.line i.form refl (task_stands items) k e
  where
    by_form : (line : ℕ) (form : ItemForm) → i.form ≡ form →
        ((k : ℕ) (t : TaskTree) → slice_get (tasks_of items) k ≡ Some t → (j : ItemTree) × Has items j × (j.form ≡ task_item t)) → (k : ℕ) →
        slice_get (tasks_of (record { line = line; form = form } ∷ items)) k ≡ Some t →
        (j : ItemTree) × Has (i ∷ items) j × (j.form ≡ task_item t)
    by_form line import_item same more k e = let m = more k t e in (m.0, inr m.1, m.2)
    by_form line (alias_item n) same more k e = let m = more k t e in (m.0, inr m.1, m.2)
    by_form line (start_item n) same more k e = let m = more k t e in (m.0, inr m.1, m.2)
    by_form line (space_item s) same more k e = let m = more k t e in (m.0, inr m.1, m.2)
    by_form line (task_item u) same more zero e = (i, inl refl, same ∙ ap task_item (same_Some u t e))
    by_form line (task_item u) same more (suc k) e = let m = more k t e in (m.0, inr m.1, m.2)

-- a task that is an item stands in the program
pub item_stands : (tree : Tree) (i : ItemTree) → Has tree i → (t : TaskTree) → i.form ≡ task_item t → StandsIn tree t
item_stands tree i h t same = Contains-from_Has (map (λ (i : ItemTree). i.form) tree) (task_item t)
    (subst (Has (map (λ (i : ItemTree). i.form) tree)) same (Has-map (λ (i : ItemTree). i.form) tree i h))

-- the body of a task of the form
pub body_of_form : (tree : Tree) → is_written_program tree ≡ true → (i : ItemTree) → Has tree i → (t : TaskTree) → i.form ≡ task_item t → is_written_block t.body ≡ true
body_of_form tree e i h t same = subst (λ form. is_written_item form ≡ true) same (all_of (λ i. is_written_item i.form) tree e i h)

-- the result that it declares
pub result_declared : (tree : Tree) → breaches tree ≡ [] → (i : ItemTree) → Has tree i → (t : TaskTree) → i.form ≡ task_item t → is_no_result_type t.result ≡ false
result_declared tree none i h t same =
    let told = none_of (first_declared tree) tree i (declared_none tree none) h in
    let a = option_or_parts (first_line rule.Twice (repeats_within i.form)) _ told in
    let b = option_or_parts (first_in (first_of_saying tree) (declarations_of_item tree i.form)) _ a.1 in
    let c = option_or_parts (first_in (first_of_said tree) (declarations_of_item tree i.form)) _ b.1 in
    let d = option_or_parts (first_in_fields i.form) _ c.1 in
    let f = option_or_parts (told_on i.line (rule_if (misdeclares_result i.form) rule.Return)) _ d.1 in
    subst (λ form. misdeclares_result form ≡ false) same (untold_on i.line (misdeclares_result i.form) f.0)
  where
    untold_on : (line : ℕ) (b : Bool) → told_on line (rule_if b rule.Return) ≡ None → b ≡ false
    untold_on line true e = absurd cc
    untold_on line false e = refl

-- so where a task begins
pub begins_kept : (tree : Tree) (t : TaskTree) → AreAmongParams tree t.params 0 t.params → AllKept true (scope_of tree t).names
begins_kept tree t among = all_kept true refl tree t.params among

abbrev AllTakable : List Bound → Type 0
AllTakable [] = Unit {0}
AllTakable (b ∷ bs) = IsTakable true b.static_type × AllTakable bs

takable_behind : (bs : List Bound) (b : Bound) → AllTakable bs → IsTakable true b.static_type → AllTakable (bs ++ b ∷ [])
takable_behind [] b a i = (i, tt)
takable_behind (c ∷ bs) b a i = (a.0, takable_behind bs b a.1 i)

params_takable : (tree : Tree) (all : List Param) (i : ℕ) (ps : List Param) → AllTakable (bound_params tree all i ps)
params_takable tree all i [] = tt
params_takable tree all i (p ∷ ps) =
    takable_behind (bound_params tree all (suc i) ps) _ (params_takable tree all (suc i) ps) (term_takable true refl tree all p.term i)

takable_types_behind : (ts : List StaticType) (t : StaticType) → AreTakable true ts → IsTakable true t → AreTakable true (ts ++ t ∷ [])
takable_types_behind [] t a i = (i, tt)
takable_types_behind (u ∷ ts) t a i = (a.0, takable_types_behind ts t a.1 i)

types_takable : (bs : List Bound) → AllTakable bs → AreTakable true (types_in bs)
types_takable [] a = tt
types_takable (b ∷ bs) a = subst (AreTakable true) (sym (types_cons b bs)) (takable_types_behind (types_in bs) b.static_type (types_takable bs a.1) a.0)

-- ---- the names of fields

abbrev given : Param → Given
given p = record { name = p.name; line = p.line }

-- a name that is given once is at its own place
given_apart : (earlier : List Given) (ps : List Param) → repeats_after earlier (given_by ps) ≡ [] → (k : ℕ) (q : Param) → slice_get ps k ≡ Some q →
    list_any (λ (e : Given). bytes_eq e.name q.name) earlier ≡ false
given_apart earlier [] e k q at = absurd (none-some q at)
given_apart earlier (p ∷ ps) e zero q at = chosen (was_given earlier (given p)) refl e
  where
    chosen : (b : Bool) → was_given earlier (given p) ≡ b → (cond b (p.line ∷ []) [] ++ repeats_after (given p ∷ earlier) (given_by ps)) ≡ [] →
        list_any (λ (e : Given). bytes_eq e.name q.name) earlier ≡ false
    chosen true w e = absurd cc
    chosen false w e = subst (λ (x : Param). list_any (λ (e : Given). bytes_eq e.name x.name) earlier ≡ false) (same_Some p q at) w
given_apart earlier (p ∷ ps) e (suc k) q at =
    let g : Given = record { name = p.name; line = p.line } in
    let rest = (none_left (cond (was_given earlier g) (p.line ∷ []) []) (repeats_after (g ∷ earlier) (given_by ps)) e).1 in
    (or_parts (bytes_eq p.name q.name) _ (given_apart (g ∷ earlier) ps rest k q at)).1

own_place : (earlier : List Given) (ps : List Param) → repeats_after earlier (given_by ps) ≡ [] → (k : ℕ) (q : Param) → slice_get ps k ≡ Some q →
    place_in ps q.name ≡ k
own_place earlier [] e k q at = absurd (none-some q at)
own_place earlier (p ∷ ps) e zero q at = place_step p ps q.name true ((bytes_eq-Decides p.name q.name).1 (ap (λ (x : Param). x.name) (same_Some p q at)))
own_place earlier (p ∷ ps) e (suc k) q at =
    let g : Given = record { name = p.name; line = p.line } in
    let rest = (none_left (cond (was_given earlier g) (p.line ∷ []) []) (repeats_after (g ∷ earlier) (given_by ps)) e).1 in
    let other = (or_parts (bytes_eq p.name q.name) _ (given_apart (g ∷ earlier) ps rest k q at)).0 in
    let next : 1 + place_in ps q.name ≡ suc (place_in ps q.name) = omega (arith) in
    place_step p ps q.name false other ∙ next ∙ ap suc (own_place (g ∷ earlier) ps rest k q at)

-- each place of a field is named
place_named : (all : List Param) (ps : List Param) (k j : ℕ) → k < length ps → ((q : Param) → slice_get ps k ≡ Some q → place_in all q.name ≡ j) →
    Has (map (λ (p : Param). place_in all p.name) ps) j
place_named all [] k j low own = absurd (omega (arith, low))
place_named all (p ∷ ps) zero j low own = inl (own p refl)
place_named all (p ∷ ps) (suc k) j low own = inr (place_named all ps k j (omega (arith, low)) own)

-- ---- the program

pub local_tree : (tree : Tree) → WithinLimits tree → breaches tree ≡ [] → IsLocalTree tree
local_tree tree within none = record {
  declared = declarations_are tree none within;
  few = space_has (λ (s : FieldSpace). length s.fields ≤ 256) (omega (arith)) tree few_in;
  named = λ sp i low.
      let once = space_has (λ (s : FieldSpace). repeats (given_by s.fields) ≡ []) refl tree once_in sp in
      place_named (space_at tree sp).fields (space_at tree sp).fields i i low (own_place [] (space_at tree sp).fields once i);
  tasks = λ n there.
      let f = found n tree there in
      let own = task_named tree n in
      let stands = item_stands tree f.stands.0 f.stands.1 own f.stands.2 in record {
        stands = stands;
        called = f.at;
        params = types_takable (scope_of tree own).names (params_takable tree own.params 0 own.params);
        result = result_declared tree none f.stands.0 f.stands.1 own f.stands.2;
        goals = pointers_among tree own none within stands;
      };
}
  where
    few_in : (i : ItemTree) → Has tree i → (s : FieldSpace) → i.form ≡ space_item s → length s.fields ≤ 256
    few_in i h s same =
        let every = kept_all (parts_of_program tree) within.each in
        let least : length s.fields ≤ 16 = subst (λ form. AreKept (parts_of_item form)) same (kept_item tree (λ q h. every q (inr (inr h))) i h)
        (counted Fields (length s.fields)) (inl refl) in
        omega (arith, least)

    once_in : (i : ItemTree) → Has tree i → (s : FieldSpace) → i.form ≡ space_item s → repeats (given_by s.fields) ≡ []
    once_in i h s same =
        let told = none_of (first_declared tree) tree i (declared_none tree none) h in
        let twice = no_line rule.Twice (repeats_within i.form) (option_or_parts (first_line rule.Twice (repeats_within i.form)) _ told).0 in
        (none_left (repeats (given_by s.params)) (repeats (given_by s.fields)) (ap repeats_within (sym same) ∙ twice)).1
