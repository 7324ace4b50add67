-- Where no declaration has a breach, parameters are bound as they are written, and fields and
-- results are sound.
use Rattle.std.proofs.Common.{◌⊎◌, inl, inr, Bool, List, None, Option, [], ◌++◌, ◌∷◌, ◌<◌, ◌||◌, ◌≡◌, ℕ, arith, ap, bytes_eq, cond, false, filter, flat_map, get_or, length, map, not, refl, subst, suc, sym, true, zero, ◌∙◌}
use Rattle.std.specs.List.{list_any}
use Rattle.std.specs.Option.{option_or}
use Rattle.std.proofs.lemmas.List.{append_assoc, append-nil}
use Rattle.std.proofs.lemmas.List.Folds.{list_any-append}
use Rattle.std.proofs.lemmas.Bool.{or_parts, or_from, not-false}
use Rattle.regent_tree.specs.PlainProgram.{item_of, item_tree_of, task_of}
use Rattle.regent_tree.specs.declared.program.Item.{Item}
use Rattle.regent_tree.specs.declared.program.ItemKind.TheVariants as kind
use Rattle.regent_tree.specs.declared.program.Task.{Task}
use Rattle.check_rules.specs.scopes.Sound.{IsSound, IsSoundTask, StandsIn}
use Rattle.regent_tree.specs.Lookup.{has_space, is_bound, type_named}
use Rattle.regent_tree.specs.Scopes.{Scope, bound_params, bound_to, unbound, known_of_clauses, known_of_params, scope_of}
use Rattle.regent_tree.specs.StaticTypes.{Looking, among_params, field_place, no_task, spaces_of, task_named, type_said}
use Rattle.regent_tree.specs.Syntax.{ItemForm, ItemTree, Name, TaskTree, Tree, alias_item, import_item, space_item, start_item, task_item}
use Rattle.regent_tree.specs.declared.program.FieldSpace.{FieldSpace}
use Rattle.regent_tree.specs.declared.types.Param.{Param}
use Rattle.regent_tree.specs.declared.types.NumberTerm.TheVariants as number
use Rattle.regent_tree.specs.declared.types.Ref.{Ref}
use Rattle.regent_tree.specs.declared.types.Ref.TheVariants.{Named, Wild}
use Rattle.regent_tree.specs.declared.types.TypeTerm.{TypeTerm}
use Rattle.regent_tree.specs.declared.types.TypeTerm.TheVariants as typed
use Rattle.regent_tree.specs.declared.typing.Bound.{Bound}
use Rattle.check_rules.specs.rules.Clauses.{clauses_told, misdeclares, misdeclares_item}
use Rattle.regent_tree.specs.declared.program.Clause.{Clause}
use Rattle.check_rules.specs.rules.Counts.{miscounts_in_type}
use Rattle.check_rules.specs.scopes.Bodies.{body_scope, known_once}
use Rattle.check_rules.specs.types.Declarations.{is_flawed_field, is_flawed_type, is_no_field_type, is_unknown_ref, names_unknown, params_bound}
use Rattle.check_rules.specs.types.Params.{params_beside, says_no_type, term_at, type_unless, types_in_order, with_unknown}
use Rattle.check_rules.specs.first.FirstInItems.{first_declared, first_in_fields, first_line, first_of_field, first_of_said, first_of_saying}
use Rattle.check_rules.specs.first.FirstInStatements.{told_on}
use Rattle.check_rules.specs.types.Lookup.{names_a}
use Rattle.check_rules.specs.rules.Names.{unbound_name_in_type, unbound_name_in_use, misses_region, misses_space}
use Rattle.check_rules.specs.types.Sorts.{is_region, is_unknown_type}
use Rattle.check_rules.specs.rules.Partitions.{miscolours_in_type}
use Rattle.check_rules.specs.rules.Pointers.{wrong_region_in_type}
use Rattle.check_rules.specs.rules.Privileges.{rights_declared, rights_of_clause, rights_told}
use Rattle.check_rules.specs.rules.Repeats.{Given, given_by, repeats, repeats_after, repeats_within, was_given}
use Rattle.check_rules.specs.rules.Results.{misdeclares_result}
use Rattle.check_rules.specs.first.Rules.{first_in, rule_if}
use Rattle.check_rules.specs.rules.Spaces.{misfits_in_type}
use Rattle.check_rules.specs.scopes.Visits.{Declaration, declarations_in, declarations_of_item}
use Rattle.check_rules.specs.declared.rule.Rule.{Rule}
use Rattle.check_rules.specs.declared.rule.Rule.TheVariants as rule
use Rattle.plain_values.proofs.Plain.{option_or_parts, and_first}
use Rattle.check_rules.proofs.Untold.{told_none, rule_none}

-- ---- of what nothing is told

-- what two and three rules tell
pub two_none : (line : ℕ) (a b : Bool) (q r : Rule) → told_on line (option_or (rule_if a q) (option_or (rule_if b r) None)) ≡ None →
    (a ≡ false) × (b ≡ false)
two_none line true b q r e = absurd cc
two_none line false true q r e = absurd cc
two_none line false false q r e = (refl, refl)

pub three_none : (line : ℕ) (a b c : Bool) (p q r : Rule) →
    told_on line (option_or (rule_if a p) (option_or (rule_if b q) (option_or (rule_if c r) None))) ≡ None →
    (a ≡ false) × (b ≡ false) × (c ≡ false)
three_none line true b c p q r e = absurd cc
three_none line false true c p q r e = absurd cc
three_none line false false true p q r e = absurd cc
three_none line false false false p q r e = (refl, refl, refl)

-- ---- types that are as they are written

unflawed_at : (flawed : TypeTerm → Bool) (params : List Param) → flawed typed.Truth ≡ false →
    list_any (λ (p : Param). flawed p.term) params ≡ false → (i : ℕ) → flawed (term_at params i) ≡ false
unflawed_at flawed [] t e i = t
unflawed_at flawed (p ∷ ps) t e zero = (or_parts (flawed p.term) (list_any (λ (q : Param). flawed q.term) ps) e).0
unflawed_at flawed (p ∷ ps) t e (suc i) = unflawed_at flawed ps t (or_parts (flawed p.term) (list_any (λ (q : Param). flawed q.term) ps) e).1 i

nothing_unknown : (flawed : TypeTerm → Bool) (params : List Param) (names : List Bound) →
    ((i : ℕ) → flawed (term_at params i) ≡ false) → with_unknown flawed params names ≡ names
nothing_unknown flawed params [] h = refl
nothing_unknown flawed params (b ∷ bs) h =
    (λ j. record b { static_type = type_unless (h b.number j) b.static_type } ∷ nothing_unknown flawed params bs h j)

pub as_written : (flawed : TypeTerm → Bool) (params : List Param) (names : List Bound) → flawed typed.Truth ≡ false →
    list_any (λ (p : Param). flawed p.term) params ≡ false → with_unknown flawed params names ≡ names
as_written flawed params names t e = nothing_unknown flawed params names (unflawed_at flawed params t e)

-- ---- names whose types are written

-- what a name is bound to behind others
pub bound_after : (names : List Bound) (b : Bound) (n : Name) → is_bound (names ++ b ∷ []) n ≡ true →
    ((is_bound names n ≡ true) × (bound_to (names ++ b ∷ []) n ≡ bound_to names n))
    ⊎ ((bytes_eq b.name n ≡ true) × (bound_to (names ++ b ∷ []) n ≡ b))
bound_after [] b n e = here (bytes_eq b.name n) e
  where
    here : (is : Bool) → (is || false) ≡ true →
        ((is_bound [] n ≡ true) × (cond is b unbound ≡ bound_to [] n)) ⊎ ((is ≡ true) × (cond is b unbound ≡ b))
    here true e = inr (refl, refl)
    here false e = absurd cc
bound_after (x ∷ xs) b n e = here (bytes_eq x.name n) (bound_after xs b n) e
  where
    here : (is : Bool) →
        (is_bound (xs ++ b ∷ []) n ≡ true → ((is_bound xs n ≡ true) × (bound_to (xs ++ b ∷ []) n ≡ bound_to xs n)) ⊎ ((bytes_eq b.name n ≡ true) × (bound_to (xs ++ b ∷ []) n ≡ b))) →
        (is || is_bound (xs ++ b ∷ []) n) ≡ true →
        (((is || is_bound xs n) ≡ true) × (cond is x (bound_to (xs ++ b ∷ []) n) ≡ cond is x (bound_to xs n)))
        ⊎ ((bytes_eq b.name n ≡ true) × (cond is x (bound_to (xs ++ b ∷ []) n) ≡ b))
    here true rest e = inl (refl, refl)
    here false rest e = rest e

said_known : (tree : Tree) (look : Looking) (own : ℕ) (t : TypeTerm) → is_unknown_type (type_said tree look own t) ≡ false
said_known tree look own (typed.Number number.Int32) = refl
said_known tree look own (typed.Number number.Int64) = refl
said_known tree look own (typed.Number (number.Index k)) = refl
said_known tree look own typed.Truth = refl
said_known tree look own (typed.Pointer t) = refl
said_known tree look own (typed.Ispace k) = refl
said_known tree look own (typed.Region k u) = refl
said_known tree look own (typed.Partition d r c) = refl

pub written_known : (tree : Tree) (all : List Param) (i : ℕ) (ps : List Param) (n : Name) →
    is_bound (bound_params tree all i ps) n ≡ true → is_unknown_type (type_named (bound_params tree all i ps) n) ≡ false
written_known tree all i [] n e = absurd cc
written_known tree all i (p ∷ ps) n e = elim (bound_after (bound_params tree all (suc i) ps) _ n e) [
  | inl h ↦ ap (λ (b : Bound). is_unknown_type b.static_type) h.1 ∙ written_known tree all (suc i) ps n h.0
  | inr h ↦ ap (λ (b : Bound). is_unknown_type b.static_type) h.1 ∙ said_known tree (among_params all) i p.term
]

-- a type in which each name is bound to a region, among names that are all known, names nothing unknown
module _ (tree : Tree) (names : List Bound) (known : (n : Name) → is_bound names n ≡ true → is_unknown_type (type_named names n) ≡ false) where
  region_known : (n : Name) → not (names_a is_region names n) ≡ false → is_unknown_type (type_named names n) ≡ false
  region_known n e = known n (and_first (is_bound names n) _ (not-false _ e))

  refs_known : (refs : List Ref) → list_any (misses_region names) refs ≡ false → list_any (is_unknown_ref names) refs ≡ false
  refs_known [] e = refl
  refs_known (Wild ∷ refs) e = refs_known refs e
  refs_known (Named n ∷ refs) e =
      let p = or_parts (not (names_a is_region names n)) (list_any (misses_region names) refs) e in
      or_from _ _ (region_known n p.0) (refs_known refs p.1)

  pub names_known : (t : TypeTerm) → unbound_name_in_type tree names t ≡ false → names_unknown names t ≡ false
  names_known (typed.Number t) e = refl
  names_known typed.Truth e = refl
  names_known (typed.Ispace k) e = refl
  names_known (typed.Pointer t) e =
      let p = or_parts (unbound_name_in_use tree names t.space) (list_any (misses_region names) t.regions) e in
      or_from _ _ (refs_known t.space.args (or_parts (not (has_space tree t.space.name)) (list_any (misses_region names) t.space.args) p.0).1) (refs_known t.regions p.1)
  names_known (typed.Region k u) e = refs_known u.args (or_parts (not (has_space tree u.name)) (list_any (misses_region names) u.args) e).1
  names_known (typed.Partition d r c) e = region_known r (or_parts (not (names_a is_region names r)) (misses_space names c) e).0

-- ---- declarations

module _ (tree : Tree) (written beside : List Bound) (known : (n : Name) → is_bound written n ≡ true → is_unknown_type (type_named written n) ≡ false) where
  abbrev declared : List Param → List Declaration
  declared all = map (λ (p : Param). record { written = written; names = beside; param = p }) all

  saying_none : (all : List Param) → first_in (first_of_saying tree) (declared all) ≡ None →
      list_any (λ (p : Param). says_no_type tree written p.term) all ≡ false
  saying_none [] e = refl
  saying_none (p ∷ ps) e =
      let parts = option_or_parts (first_of_saying tree (record { written = written; names = beside; param = p })) (first_in (first_of_saying tree) (declared ps)) e in
      let here = two_none p.line (unbound_name_in_type tree written p.term) (miscounts_in_type tree p.term) rule.Name rule.Count parts.0 in
      or_from _ _ (or_from _ _ here.0 here.1) (saying_none ps parts.1)

  said_none : (all : List Param) → beside ≡ written → first_in (first_of_saying tree) (declared all) ≡ None →
      first_in (first_of_said tree) (declared all) ≡ None →
      list_any (λ (p : Param). is_flawed_type tree beside p.term) all ≡ false
  said_none [] same e f = refl
  said_none (p ∷ ps) same e f =
      let d : Declaration = record { written = written; names = beside; param = p } in
      let says = option_or_parts (first_of_saying tree d) (first_in (first_of_saying tree) (declared ps)) e in
      let said = option_or_parts (first_of_said tree d) (first_in (first_of_said tree) (declared ps)) f in
      let named = two_none p.line (unbound_name_in_type tree written p.term) (miscounts_in_type tree p.term) rule.Name rule.Count says.0 in
      let fits = three_none p.line (wrong_region_in_type tree beside p.term) (misfits_in_type tree beside p.term) (miscolours_in_type beside p.term) rule.Pointer rule.Spaces rule.Partition said.0 in
      let right = ap (λ ns. unbound_name_in_type tree ns p.term) same ∙ named.0 in
      let all_known = ap (λ ns. names_unknown ns p.term) same ∙ names_known tree written known p.term named.0 in
      or_from _ _ (or_from _ _ (or_from _ _ (or_from _ _ (or_from _ _ right named.1) fits.0) fits.1) all_known) (said_none ps same says.1 said.1)

-- names beside written types are those that are written, where each says a type
pub beside_written : (tree : Tree) (params more : List Param) →
    first_in (first_of_saying tree) (declarations_in tree params (params ++ more)) ≡ None →
    params_beside tree params ≡ bound_params tree params 0 params
beside_written tree params more e =
    let names = bound_params tree params 0 params in
    let all = sym (list_any-append (λ (p : Param). says_no_type tree names p.term) params more)
    ∙ saying_none tree names (params_beside tree params) (written_known tree params 0 params) (params ++ more) e in
    as_written (says_no_type tree names) params names refl (or_parts _ _ all).0

-- no type is flawed
pub all_sound : (tree : Tree) (params more : List Param) →
    first_in (first_of_saying tree) (declarations_in tree params (params ++ more)) ≡ None →
    first_in (first_of_said tree) (declarations_in tree params (params ++ more)) ≡ None →
    (list_any (λ (p : Param). is_flawed_type tree (params_beside tree params) p.term) params ≡ false)
    × (list_any (λ (p : Param). is_flawed_type tree (params_beside tree params) p.term) more ≡ false)
all_sound tree params more e f =
    let beside = params_beside tree params in
    let names = bound_params tree params 0 params in
    or_parts _ _ (sym (list_any-append (λ (p : Param). is_flawed_type tree beside p.term) params more)
    ∙ said_none tree names beside (written_known tree params 0 params) (params ++ more) (beside_written tree params more e) e f)

pub bound_written : (tree : Tree) (params more : List Param) →
    first_in (first_of_saying tree) (declarations_in tree params (params ++ more)) ≡ None →
    first_in (first_of_said tree) (declarations_in tree params (params ++ more)) ≡ None →
    params_bound tree params ≡ bound_params tree params 0 params
bound_written tree params more e f =
    let beside = params_beside tree params in
    as_written (is_flawed_type tree beside) params beside refl (all_sound tree params more e f).0
    ∙ beside_written tree params more e

-- ---- names that are given once

abbrev was_bound : (bs : List Bound) (earlier : List Given) → Type 0
was_bound bs earlier = (n : Name) → is_bound bs n ≡ list_any (λ (e : Given). bytes_eq e.name n) earlier

not_again : (again : Bool) (line : ℕ) (more : List ℕ) → (cond again (line ∷ []) [] ++ more) ≡ [] → (again ≡ false) × (more ≡ [])
not_again true line more e = absurd cc
not_again false line more e = (refl, e)

once_after : (tree : Tree) (all : List Param) (i : ℕ) (ps : List Param) (bs : List Bound) (earlier : List Given) →
    was_bound bs earlier → known_once bs ≡ bs → repeats_after earlier (given_by ps) ≡ [] →
    known_once (bound_params tree all i ps ++ bs) ≡ bound_params tree all i ps ++ bs
once_after tree all i [] bs earlier same once e = once
once_after tree all i (p ∷ ps) bs earlier same once e =
    let b : Bound = record { name = p.name; number = i; place = i; static_type = type_said tree (among_params all) i p.term; by_loop = false } in
    let g : Given = record { name = p.name; line = p.line } in
    let parts = not_again (was_given earlier g) p.line (repeats_after (g ∷ earlier) (given_by ps)) e in
    let fresh : is_bound bs p.name ≡ false = same p.name ∙ parts.0 in
    let here : known_once (b ∷ bs) ≡ b ∷ bs = λ j. record b { static_type = type_unless (fresh j) b.static_type } ∷ once j in
    let joined : (bound_params tree all (suc i) ps ++ b ∷ []) ++ bs ≡ bound_params tree all (suc i) ps ++ (b ∷ bs) =
    append_assoc (bound_params tree all (suc i) ps) (b ∷ []) bs in
    ap known_once joined
    ∙ once_after tree all (suc i) ps (b ∷ bs) (g ∷ earlier) (λ n j. bytes_eq p.name n || same n j) here parts.1
    ∙ sym joined

-- parameters of which no two share a name
pub bound_once : (tree : Tree) (params : List Param) → repeats (given_by params) ≡ [] →
    known_once (bound_params tree params 0 params) ≡ bound_params tree params 0 params
bound_once tree params e =
    let end = append-nil (bound_params tree params 0 params) in
    ap known_once (sym end) ∙ once_after tree params 0 params [] [] (λ n. refl) refl e ∙ end

no_lines : (r : Rule) (lines : List ℕ) → first_line r lines ≡ None → lines ≡ []
no_lines r [] e = refl
no_lines r (l ∷ ls) e = absurd cc

-- ---- items

-- what isn't told of an item
pub record Untold (tree : Tree) (i : ItemTree) : Type 0 where
  pub twice : first_line rule.Twice (repeats_within i.form) ≡ None
  pub saying : first_in (first_of_saying tree) (declarations_of_item tree i.form) ≡ None
  pub said : first_in (first_of_said tree) (declarations_of_item tree i.form) ≡ None
  pub fields : first_in_fields i.form ≡ None
  pub returns : misdeclares_result i.form ≡ false
  pub clauses : misdeclares_item tree i.form ≡ false

pub untold : (tree : Tree) (i : ItemTree) → first_declared tree i ≡ None → Untold tree i
untold tree i e =
    let a = option_or_parts _ _ e in
    let b = option_or_parts _ _ a.1 in
    let c = option_or_parts _ _ b.1 in
    let d = option_or_parts _ _ c.1 in
    let f = option_or_parts _ _ d.1 in
    let g = option_or_parts _ _ f.1 in record {
      twice = a.0;
      saying = b.0;
      said = c.0;
      fields = d.0;
      returns = rule_none _ _ (told_none i.line _ f.0);
      clauses = rule_none _ _ (told_none i.line _ g.0);
    }

fields_none : (fields : List Param) → first_in first_of_field fields ≡ None →
    list_any (λ (p : Param). is_no_field_type p.term) fields ≡ false
fields_none [] e = refl
fields_none (p ∷ ps) e =
    let parts = option_or_parts (first_of_field p) (first_in first_of_field ps) e in
    or_from _ _ (rule_none _ _ (told_none p.line _ parts.0)) (fields_none ps parts.1)

abbrev flaw : Tree → FieldSpace → TypeTerm → Bool
flaw tree s t = is_no_field_type t || is_flawed_type tree (params_beside tree s.params) t

flawless : (tree : Tree) (s : FieldSpace) (fields : List Param) →
    list_any (λ (p : Param). is_no_field_type p.term) fields ≡ false →
    list_any (λ (p : Param). is_flawed_type tree (params_beside tree s.params) p.term) fields ≡ false →
    list_any (λ (p : Param). flaw tree s p.term) fields ≡ false
flawless tree s [] e f = refl
flawless tree s (p ∷ ps) e f =
    let here = or_parts _ _ e in
    let there = or_parts _ _ f in
    or_from _ _ (or_from _ _ here.0 there.0) (flawless tree s ps here.1 there.1)

space_sound : (tree : Tree) (line : ℕ) (s : FieldSpace) →
    first_declared tree (record { line = line; form = space_item s }) ≡ None →
    (i : ℕ) → flaw tree s (term_at s.fields i) ≡ false
space_sound tree line s e i =
    let of = untold tree (record { line = line; form = space_item s }) e in
    unflawed_at (flaw tree s) s.fields refl
    (flawless tree s s.fields (fields_none s.fields of.fields) (all_sound tree s.params s.fields of.saying of.said).1) i

pub task_sound : (tree : Tree) (line : ℕ) (t : TaskTree) →
    first_declared tree (record { line = line; form = task_item t }) ≡ None → IsSoundTask tree t
task_sound tree line t e =
    let of = untold tree (record { line = line; form = task_item t }) e in
    let same = sym (append-nil t.params) in
    let written = bound_written tree t.params []
    (subst (λ all. first_in (first_of_saying tree) (declarations_in tree t.params all) ≡ None) same of.saying)
    (subst (λ all. first_in (first_of_said tree) (declarations_in tree t.params all) ≡ None) same of.said) in
    let names = bound_once tree t.params (no_lines rule.Twice (repeats (given_by t.params)) of.twice) in
    record {
      params = written;
      once = ap known_once written ∙ names ∙ sym written;
      result = of.returns;
      clauses = of.clauses;
    }

-- ---- whole trees

abbrev nothing : FieldSpace
nothing = record { name = []; params = []; fields = [] }

more_spaces : (tree : Tree) (line : ℕ) (form : ItemForm) (items : Tree) →
    first_declared tree (record { line = line; form = form }) ≡ None →
    ((k i : ℕ) → flaw tree (get_or (spaces_of items) k nothing) (term_at (get_or (spaces_of items) k nothing).fields i) ≡ false) →
    (k i : ℕ) → let s = get_or (spaces_of (record { line = line; form = form } ∷ items)) k nothing in flaw tree s (term_at s.fields i) ≡ false
more_spaces tree line import_item items e h k i = h k i
more_spaces tree line (alias_item n) items e h k i = h k i
more_spaces tree line (task_item t) items e h k i = h k i
more_spaces tree line (start_item n) items e h k i = h k i
more_spaces tree line (space_item s) items e h zero i = space_sound tree line s e i
more_spaces tree line (space_item s) items e h (suc k) i = h k i

spaces_sound : (tree items : Tree) → first_in (first_declared tree) items ≡ None →
    (k i : ℕ) → flaw tree (get_or (spaces_of items) k nothing) (term_at (get_or (spaces_of items) k nothing).fields i) ≡ false
spaces_sound tree [] e k i = refl
spaces_sound tree (item ∷ items) e k i =
    let parts = option_or_parts (first_declared tree item) (first_in (first_declared tree) items) e in
    more_spaces tree item.line item.form items parts.0 (spaces_sound tree items parts.1) k i

-- no field's declaration has a breach
pub field_sound : (tree : Tree) → first_in (first_declared tree) tree ≡ None → (s : ℕ) (f : Name) →
    is_flawed_field tree s f ≡ false
field_sound tree e s f = spaces_sound tree tree e s (field_place tree s f)

no_task_sound : (tree : Tree) → IsSoundTask tree no_task
no_task_sound tree = record { params = refl; once = refl; result = refl; clauses = refl }

either_sound : (tree : Tree) (b : Bool) (t u : TaskTree) → IsSoundTask tree t → IsSoundTask tree u → IsSoundTask tree (cond b t u)
either_sound tree true t u h k = h
either_sound tree false t u h k = k

more_tasks : (tree : Tree) (line : ℕ) (form : ItemForm) (items : Tree) (n : Name) →
    first_declared tree (record { line = line; form = form }) ≡ None → IsSoundTask tree (task_named items n) →
    IsSoundTask tree (task_named (record { line = line; form = form } ∷ items) n)
more_tasks tree line import_item items n e h = h
more_tasks tree line (alias_item m) items n e h = h
more_tasks tree line (space_item s) items n e h = h
more_tasks tree line (start_item m) items n e h = h
more_tasks tree line (task_item t) items n e h =
    either_sound tree (bytes_eq t.name n) t (task_named items n) (task_sound tree line t e) h

tasks_sound : (tree items : Tree) → first_in (first_declared tree) items ≡ None → (n : Name) → IsSoundTask tree (task_named items n)
tasks_sound tree [] e n = no_task_sound tree
tasks_sound tree (item ∷ items) e n =
    let parts = option_or_parts (first_declared tree item) (first_in (first_declared tree) items) e in
    more_tasks tree item.line item.form items n parts.0 (tasks_sound tree items parts.1 n)

-- the task of a name, also where there is none
pub named_sound : (tree : Tree) → first_in (first_declared tree) tree ≡ None → (n : Name) → IsSoundTask tree (task_named tree n)
named_sound tree e n = tasks_sound tree tree e n

-- nothing is told of an item that has a form
form_untold : (tree items : Tree) (form : ItemForm) → first_in (first_declared tree) items ≡ None → (k : ℕ) →
    k < length (map (λ (i : ItemTree). i.form) items) → get_or (map (λ (i : ItemTree). i.form) items) k form ≡ form →
    (line : ℕ) × (first_declared tree (record { line = line; form = form }) ≡ None)
form_untold tree [] form e k h is = absurd (omega (arith, h))
form_untold tree (i ∷ items) form e zero h is = (
  i.line,
  subst (λ f. first_declared tree (record { line = i.line; form = f }) ≡ None) is
      (option_or_parts (first_declared tree i) (first_in (first_declared tree) items) e).0,
)
form_untold tree (i ∷ items) form e (suc k) h is =
    form_untold tree items form (option_or_parts (first_declared tree i) (first_in (first_declared tree) items) e).1 k (omega (arith, h)) is

-- a task among a tree's items
pub standing_sound : (tree : Tree) → first_in (first_declared tree) tree ≡ None → (t : TaskTree) → StandsIn tree t →
    IsSoundTask tree t
standing_sound tree e t (k, below, is) =
    let found = form_untold tree tree (task_item t) e k below is in
    task_sound tree found.0 t found.1

-- all that is known where nothing is told
pub all_is_sound : (tree : Tree) → first_in (first_declared tree) tree ≡ None → IsSound tree
all_is_sound tree e = record {
  params = λ n. (named_sound tree e n).params;
  fields = λ s f has. field_sound tree e s f;
  results = λ n. (named_sound tree e n).result;
  clauses = λ n. (named_sound tree e n).clauses;
  tasks = standing_sound tree e;
}

-- where no clause has a breach, all of them tell
kept : (b : Bool) (c : Clause) (cs all : List Clause) → b ≡ false → cs ≡ all → cond (not b) (c ∷ cs) cs ≡ c ∷ all
kept true c cs all e f = absurd cc
kept false c cs all e f = ap (λ (xs : List Clause). c ∷ xs) f

all_told : (misdeclared : Clause → Bool) (cs : List Clause) → list_any misdeclared cs ≡ false →
    filter (λ c. not (misdeclared c)) cs ≡ cs
all_told misdeclared [] e = refl
all_told misdeclared (c ∷ cs) e =
    let parts = or_parts (misdeclared c) (list_any misdeclared cs) e in
    kept (misdeclared c) c (filter (λ c. not (misdeclared c)) cs) cs parts.0 (all_told misdeclared cs parts.1)

-- a task without a clause that has a breach
pub told_soundly : (tree : Tree) (t : TaskTree) → list_any (misdeclares tree (params_bound tree t.params)) t.clauses ≡ false →
    clauses_told tree t ≡ t.clauses
told_soundly tree t e = all_told (misdeclares tree (params_bound tree t.params)) t.clauses e

pub rights_soundly : (tree : Tree) (t : TaskTree) → list_any (misdeclares tree (params_bound tree t.params)) t.clauses ≡ false →
    rights_told tree t ≡ rights_declared tree t
rights_soundly tree t e = ap (flat_map (rights_of_clause tree t.params)) (told_soundly tree t e)

abbrev scope_with : List Param → List Bound → List Clause → Scope
scope_with params names clauses = record {
  names = names;
  known = known_of_params names ++ known_of_clauses params clauses;
  next = length params;
}

-- the scope of a sound task's body
pub body_scope_written : (tree : Tree) (t : TaskTree) → IsSoundTask tree t → body_scope tree t ≡ scope_of tree t
body_scope_written tree t sound =
    ap (scope_with t.params (known_once (params_bound tree t.params))) (told_soundly tree t sound.clauses)
    ∙ ap (λ (names : List Bound). scope_with t.params names t.clauses) (sound.once ∙ sound.params)

form_at : (items : List Item) (k : ℕ) (item : Item) (t : Task) → k < length items → item ≡ get_or items k item →
    item.what ≡ kind.Task t →
    (k < length (map (λ (i : ItemTree). i.form) (map item_tree_of items)))
    × (get_or (map (λ (i : ItemTree). i.form) (map item_tree_of items)) k (task_item (task_of t)) ≡ task_item (task_of t))
form_at [] k item t below is what = absurd (omega (arith, below))
form_at (i ∷ items) zero item t below is what =
    (omega arith, ap item_of (ap (λ (x : Item). x.what) (sym is) ∙ what))
form_at (i ∷ items) (suc k) item t below is what =
    let rest = form_at items k item t (omega (arith, below)) is what in (omega (arith, rest.0), rest.1)

-- the task of an item stands in the tree of the program
pub stands_at : (items : List Item) (k : ℕ) (item : Item) (t : Task) → k < length items → item ≡ get_or items k item →
    item.what ≡ kind.Task t → StandsIn (map item_tree_of items) (task_of t)
stands_at items k item t below is what =
    let found = form_at items k item t below is what in (k, found.0, found.1)

-- the parameters of a sound task, bound as they are written
pub bound_soundly : (tree known : Tree) (params : List Param) (t : TaskTree) → tree ≡ known → params ≡ t.params →
    IsSoundTask known t → bound_params tree params 0 params ≡ params_bound known t.params
bound_soundly tree known params t e f sound =
    ap (λ (r : Tree). bound_params r params 0 params) e ∙ ap (λ (ps : List Param). bound_params known ps 0 ps) f
    ∙ sym sound.params

pub typed_soundly : (tree known : Tree) (params : List Param) (t : TaskTree) → tree ≡ known → params ≡ t.params →
    IsSoundTask known t → types_in_order (bound_params tree params 0 params) ≡ types_in_order (params_bound known t.params)
typed_soundly tree known params t e f sound = ap types_in_order (bound_soundly tree known params t e f sound)
