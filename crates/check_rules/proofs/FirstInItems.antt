-- The first breach of a tree is one of its breaches, and there is none exactly where there are none.
use Rattle.std.proofs.Common.{◌≡◌, ℕ, Bool, false, List, [], ◌∷◌, ◌++◌, map, refl, ap, sym, ◌∙◌, subst, inl, inr, append_assoc, arith, pred}
use Rattle.std.specs.List.{Contains, flat_map, fold}
use Rattle.std.specs.Prelude.{Option, Some, None}
use Rattle.std.proofs.lemmas.List.{append-nil}
use Rattle.regent_tree.proofs.Members.{Contains-from_Has, Has, Has-append_left, Has-append_right, Has-from_Contains, Has-map}
use Rattle.regent_tree.specs.Syntax.{ItemForm, ItemTree, Tree, space_item, task_item, import_item}
use Rattle.regent_tree.specs.declared.program.FieldSpace.{FieldSpace}
use Rattle.regent_tree.specs.declared.types.Param.{Param}
use Rattle.check_rules.specs.Breaches.{Breach, breaches, breaks, broken, each_once, field_lines, lines_of_items, unbound_name_in_declaration, constraint_lines, count_lines, declared_lines, format_lines, interference_lines, launch_lines, name_lines, partition_lines, place_lines, pointer_lines, privilege_lines, read_lines, reduce_lines, return_lines, space_lines, entry_lines, target_lines, twice_lines, type_lines, write_lines}
use Rattle.check_rules.specs.rules.Clauses.{misdeclares_item}
use Rattle.check_rules.specs.rules.Counts.{miscounts_in_type}
use Rattle.check_rules.specs.scopes.Bodies.{body_scope}
use Rattle.check_rules.specs.types.Declarations.{is_no_field_type}
use Rattle.check_rules.specs.first.FirstInItems.{first_breach, first_declared, first_in_body, first_in_fields, first_of_field}
use Rattle.check_rules.specs.Laws.{FirstIsOne, NoneWithoutFirst}
use Rattle.check_rules.specs.rules.Partitions.{miscolours_in_type}
use Rattle.check_rules.specs.rules.Pointers.{wrong_region_in_type}
use Rattle.check_rules.specs.rules.Repeats.{alias_given, repeats, repeats_within, space_given, task_given}
use Rattle.check_rules.specs.rules.Results.{misdeclares_result}
use Rattle.check_rules.specs.first.Rules.{first_in, number_of}
use Rattle.check_rules.specs.rules.Spaces.{misfits_in_type}
use Rattle.check_rules.specs.rules.Entries.{wrong_entry_lines}
use Rattle.check_rules.specs.scopes.Visits.{Declaration, Visit, declarations_of_item, lines_of_declarations, lines_where, visits, visits_of_item}
use Rattle.check_rules.specs.declared.rule.Rule.{Rule}
use Rattle.check_rules.specs.declared.rule.Rule.TheVariants as rule
use Rattle.check_rules.proofs.Exchange.{Finding, any_finding, asked, by_test, first_finding, or_nothing}
use Rattle.check_rules.proofs.FirstInStatements.{form_test, lines_at, tells_block}
use Rattle.check_rules.proofs.Laws.{pairs_kept}
use Rattle.check_rules.proofs.Lines.{Part, TellsLine, first_part, line_all, line_if, line_same, lines_passing, lines_passing-each, lines_passing-flat, lines_of_none, lines_of_rule, lines_passing_none, part_lines, part_of_all, part_of_lines, part_on}

-- the lines on which a rule is breached
abbrev rule_lines : Tree → Rule → List ℕ
rule_lines tree rule.Name = name_lines tree
rule_lines tree rule.Twice = twice_lines tree
rule_lines tree rule.Type = type_lines tree
rule_lines tree rule.Count = count_lines tree
rule_lines tree rule.Place = place_lines tree
rule_lines tree rule.Target = target_lines tree
rule_lines tree rule.Format = format_lines tree
rule_lines tree rule.Read = read_lines tree
rule_lines tree rule.Write = write_lines tree
rule_lines tree rule.Reduce = reduce_lines tree
rule_lines tree rule.CallPrivilege = privilege_lines tree
rule_lines tree rule.CallConstraint = constraint_lines tree
rule_lines tree rule.Pointer = pointer_lines tree
rule_lines tree rule.Spaces = space_lines tree
rule_lines tree rule.Partition = partition_lines tree
rule_lines tree rule.Declared = declared_lines tree
rule_lines tree rule.Return = return_lines tree
rule_lines tree rule.Start = entry_lines tree
rule_lines tree rule.NotLaunch = launch_lines tree
rule_lines tree rule.Interferes = interference_lines tree

-- ---- what an item declares

-- that a declared type says one, and what it says
abbrev saying_test : Tree → Declaration → Rule → Bool
saying_test tree d rule.Name = unbound_name_in_declaration tree d
saying_test tree d rule.Count = miscounts_in_type tree d.param.term
saying_test tree d q = false

abbrev said_test : Tree → Declaration → Rule → Bool
said_test tree d rule.Pointer = wrong_region_in_type tree d.names d.param.term
said_test tree d rule.Spaces = misfits_in_type tree d.names d.param.term
said_test tree d rule.Partition = miscolours_in_type d.names d.param.term
said_test tree d q = false

abbrev saying_asked : Tree → Declaration → List Finding
saying_asked tree d = asked (unbound_name_in_declaration tree d) rule.Name
    ∷ asked (miscounts_in_type tree d.param.term) rule.Count ∷ []

abbrev said_asked : Tree → Declaration → List Finding
said_asked tree d = asked (wrong_region_in_type tree d.names d.param.term) rule.Pointer
    ∷ asked (misfits_in_type tree d.names d.param.term) rule.Spaces
    ∷ asked (miscolours_in_type d.names d.param.term) rule.Partition ∷ []

saying_parts : (tree : Tree) (d : Declaration) (q : Rule) →
    any_finding (saying_asked tree d) q ≡ saying_test tree d q
saying_parts tree d rule.Name = or_nothing _
saying_parts tree d rule.Count = or_nothing _
saying_parts tree d q = refl

said_parts : (tree : Tree) (d : Declaration) (q : Rule) →
    any_finding (said_asked tree d) q ≡ said_test tree d q
said_parts tree d rule.Pointer = or_nothing _
said_parts tree d rule.Spaces = or_nothing _
said_parts tree d rule.Partition = or_nothing _
said_parts tree d q = refl

abbrev saying_part : Tree → Declaration → Part
saying_part tree d = part_on d.param.line
    (by_test (first_finding (saying_asked tree d)) (saying_test tree d) (saying_asked tree d) refl
    (saying_parts tree d))

abbrev said_part : Tree → Declaration → Part
said_part tree d = part_on d.param.line
    (by_test (first_finding (said_asked tree d)) (said_test tree d) (said_asked tree d) refl
    (said_parts tree d))

-- the fields' own types
abbrev fields_lines : ItemForm → Rule → List ℕ
fields_lines form rule.Type = field_lines form
fields_lines form q = []

abbrev field_part : Param → Part
field_part p = part_on p.line (asked (is_no_field_type p.term) rule.Type)

fields_parts : (space : FieldSpace) (q : Rule) →
    flat_map (λ p. (field_part p).lines q) space.fields ≡ fields_lines (space_item space) q
fields_parts space rule.Type = lines_passing-each (λ (p : Param). p.line)
    (λ (p : Param). is_no_field_type p.term) space.fields
fields_parts space rule.Name = lines_of_none space.fields
fields_parts space q = lines_of_none space.fields

no_fields : (form : ItemForm) → field_lines form ≡ [] → (q : Rule) → fields_lines form q ≡ []
no_fields form e rule.Type = e
no_fields form e q = refl

tells_fields : (form : ItemForm) → TellsLine (first_in_fields form) (fields_lines form)
tells_fields (space_item space) = line_same (first_in first_of_field space.fields)
    (λ q. flat_map (λ p. (field_part p).lines q) space.fields) (fields_lines (space_item space))
    (fields_parts space) (part_of_all field_part space.fields).tells
tells_fields import_item = no_fields import_item refl
tells_fields form = no_fields form refl

module _ (tree : Tree) where
  abbrev declared_passing : (Declaration → Bool) → ItemTree → List ℕ
  declared_passing test i = lines_passing (λ (d : Declaration). d.param.line) test
      (declarations_of_item tree i.form)

  -- the lines on which an item's declarations breach a rule
  abbrev declared_at : ItemTree → Rule → List ℕ
  declared_at i rule.Name = declared_passing (unbound_name_in_declaration tree) i
  declared_at i rule.Twice = repeats_within i.form
  declared_at i rule.Type = field_lines i.form
  declared_at i rule.Count =
      declared_passing (λ (d : Declaration). miscounts_in_type tree d.param.term) i
  declared_at i rule.Pointer =
      declared_passing (λ (d : Declaration). wrong_region_in_type tree d.names d.param.term) i
  declared_at i rule.Spaces =
      declared_passing (λ (d : Declaration). misfits_in_type tree d.names d.param.term) i
  declared_at i rule.Partition =
      declared_passing (λ (d : Declaration). miscolours_in_type d.names d.param.term) i
  declared_at i rule.Declared = line_if (misdeclares_item tree i.form) i.line
  declared_at i rule.Return = line_if (misdeclares_result i.form) i.line
  declared_at i q = []

  abbrev fields_part : ItemForm → Part
  fields_part form = record {
    told = first_in_fields form;
    lines = fields_lines form;
    tells = tells_fields form;
  }

  abbrev declared_parts : ItemTree → List Part
  declared_parts i = part_of_lines rule.Twice (repeats_within i.form)
      ∷ part_of_all (saying_part tree) (declarations_of_item tree i.form)
      ∷ part_of_all (said_part tree) (declarations_of_item tree i.form)
      ∷ fields_part i.form
      ∷ part_on i.line (asked (misdeclares_result i.form) rule.Return)
      ∷ part_on i.line (asked (misdeclares_item tree i.form) rule.Declared)
      ∷ []

  -- lines before and behind none
  first_alone : {A : Type 0} (ds : List A) (lines : List ℕ) →
      lines ++ (flat_map {A = ℕ} (λ d. []) ds ++ []) ≡ lines
  first_alone ds lines = ap (λ n. lines ++ (n ++ [])) (lines_of_none ds) ∙ append-nil lines

  last_alone : {A : Type 0} (ds : List A) (lines : List ℕ) →
      flat_map {A = ℕ} (λ d. []) ds ++ (lines ++ []) ≡ lines
  last_alone ds lines = ap (λ n. n ++ (lines ++ [])) (lines_of_none ds) ∙ append-nil lines

  both_alone : {A : Type 0} (ds : List A) (lines : List ℕ) →
      flat_map {A = ℕ} (λ d. []) ds ++ (flat_map {A = ℕ} (λ d. []) ds ++ (lines ++ [])) ≡ lines
  both_alone ds lines = ap (λ n. n ++ (n ++ (lines ++ []))) (lines_of_none ds) ∙ append-nil lines

  each_declared : (test : Declaration → Bool) (i : ItemTree) →
      flat_map (λ d. line_if (test d) d.param.line) (declarations_of_item tree i.form)
      ≡ declared_passing test i
  each_declared test i = lines_passing-each (λ (d : Declaration). d.param.line) test
      (declarations_of_item tree i.form)

  declared_whole : (i : ItemTree) (q : Rule) → part_lines (declared_parts i) q ≡ declared_at i q
  declared_whole i rule.Name = let ds = declarations_of_item tree i.form in
      first_alone ds (flat_map (λ d. (saying_part tree d).lines rule.Name) ds)
      ∙ each_declared (unbound_name_in_declaration tree) i
  declared_whole i rule.Twice = ap (λ ls. repeats_within i.form ++ ls)
      (both_alone (declarations_of_item tree i.form) []) ∙ append-nil (repeats_within i.form)
  declared_whole i rule.Type = both_alone (declarations_of_item tree i.form) (field_lines i.form)
  declared_whole i rule.Count = let ds = declarations_of_item tree i.form in
      first_alone ds (flat_map (λ d. (saying_part tree d).lines rule.Count) ds)
      ∙ each_declared (λ (d : Declaration). miscounts_in_type tree d.param.term) i
  declared_whole i rule.Pointer = let ds = declarations_of_item tree i.form in
      last_alone ds (flat_map (λ d. (said_part tree d).lines rule.Pointer) ds)
      ∙ each_declared (λ (d : Declaration). wrong_region_in_type tree d.names d.param.term) i
  declared_whole i rule.Spaces = let ds = declarations_of_item tree i.form in
      last_alone ds (flat_map (λ d. (said_part tree d).lines rule.Spaces) ds)
      ∙ each_declared (λ (d : Declaration). misfits_in_type tree d.names d.param.term) i
  declared_whole i rule.Partition = let ds = declarations_of_item tree i.form in
      last_alone ds (flat_map (λ d. (said_part tree d).lines rule.Partition) ds)
      ∙ each_declared (λ (d : Declaration). miscolours_in_type d.names d.param.term) i
  declared_whole i rule.Return = both_alone (declarations_of_item tree i.form)
      (line_if (misdeclares_result i.form) i.line)
  declared_whole i rule.Declared = both_alone (declarations_of_item tree i.form)
      (line_if (misdeclares_item tree i.form) i.line)
  declared_whole i q = both_alone (declarations_of_item tree i.form) []

  tells_declared : (i : ItemTree) → TellsLine (first_declared tree i) (declared_at i)
  tells_declared i = line_same (first_declared tree i) (part_lines (declared_parts i))
      (declared_at i) (declared_whole i) (line_all (declared_parts i))

  -- ---- the whole text

  tells_body : (form : ItemForm) →
      TellsLine (first_in_body tree form) (lines_at tree (visits_of_item tree form))
  tells_body (task_item t) = tells_block tree t (body_scope tree t) t.body
  tells_body import_item = λ q. refl
  tells_body form = λ q. refl

  abbrev repeated_parts : List Part
  repeated_parts = part_of_lines rule.Twice (repeats (flat_map task_given tree))
      ∷ part_of_lines rule.Twice (repeats (flat_map space_given tree))
      ∷ part_of_lines rule.Twice (repeats (flat_map alias_given tree))
      ∷ []

  abbrev repeated_part : Part
  repeated_part = record {
    told = first_part repeated_parts;
    lines = part_lines repeated_parts;
    tells = line_all repeated_parts;
  }

  abbrev declared_part : ItemTree → Part
  declared_part i = record {
    told = first_declared tree i;
    lines = declared_at i;
    tells = tells_declared i;
  }

  abbrev body_part : ItemTree → Part
  body_part i = record {
    told = first_in_body tree i.form;
    lines = lines_at tree (visits_of_item tree i.form);
    tells = tells_body i.form;
  }

  abbrev text_parts : List Part
  text_parts = repeated_part
      ∷ part_of_lines rule.Start (wrong_entry_lines tree)
      ∷ part_of_all declared_part tree
      ∷ part_of_all body_part tree
      ∷ []

  -- the lines of all items' declarations, and those of all statements
  abbrev all_declared : Rule → List ℕ
  all_declared q = flat_map (λ i. declared_at i q) tree

  abbrev all_stated : Rule → List ℕ
  all_stated q = lines_where tree (λ v. form_test tree v q)

  stated_whole : (q : Rule) →
      flat_map (λ (i : ItemTree). lines_at tree (visits_of_item tree i.form) q) tree ++ []
      ≡ all_stated q
  stated_whole q = append-nil _
      ∙ sym (lines_passing-flat (λ (v : Visit). v.line) (λ v. form_test tree v q)
      (λ (i : ItemTree). visits_of_item tree i.form) tree)

  by_declarations : (test : Declaration → Bool) (lines : List ℕ) →
      flat_map (λ i. declared_passing test i) tree ++ lines
      ≡ lines_of_declarations tree test ++ lines
  by_declarations test lines = ap (λ ls. ls ++ lines)
      (sym (lines_passing-flat (λ (d : Declaration). d.param.line) test
      (λ (i : ItemTree). declarations_of_item tree i.form) tree))

  undeclared : (lines : List ℕ) → flat_map {A = ℕ} (λ (i : ItemTree). []) tree ++ lines ≡ lines
  undeclared lines = ap (λ ls. ls ++ lines) (lines_of_none tree)

  unstated : (lines : List ℕ) → lines ++ lines_where tree (λ (v : Visit). false) ≡ lines
  unstated lines = ap (λ ls. lines ++ ls)
      (lines_passing_none (λ (v : Visit). v.line) (visits tree)) ∙ append-nil lines

  by_items : (test : ItemForm → Bool) →
      flat_map (λ (i : ItemTree). line_if (test i.form) i.line) tree ≡ lines_of_items tree test
  by_items test = lines_passing-each (λ (i : ItemTree). i.line)
      (λ (i : ItemTree). test i.form) tree

  repeated_whole : (a b c : List ℕ) → a ++ (b ++ (c ++ [])) ≡ a ++ b ++ c
  repeated_whole a b c = ap (λ ls. a ++ (b ++ ls)) (append-nil c) ∙ sym (append_assoc a b c)

  joined_whole : (q : Rule) →
      repeated_part.lines q ++ (lines_of_rule rule.Start (wrong_entry_lines tree) q
      ++ (all_declared q ++ all_stated q)) ≡ rule_lines tree q
  joined_whole rule.Name = by_declarations (unbound_name_in_declaration tree) (all_stated rule.Name)
  joined_whole rule.Twice =
      ap (λ ls. repeated_part.lines rule.Twice ++ ls) (unstated (all_declared rule.Twice))
      ∙ ap (λ ls. ls ++ all_declared rule.Twice)
      (repeated_whole (repeats (flat_map task_given tree)) (repeats (flat_map space_given tree))
      (repeats (flat_map alias_given tree)))
  joined_whole rule.Type = refl
  joined_whole rule.Count = by_declarations
      (λ (d : Declaration). miscounts_in_type tree d.param.term) (all_stated rule.Count)
  joined_whole rule.Pointer = by_declarations
      (λ (d : Declaration). wrong_region_in_type tree d.names d.param.term) (all_stated rule.Pointer)
  joined_whole rule.Spaces = by_declarations
      (λ (d : Declaration). misfits_in_type tree d.names d.param.term) (all_stated rule.Spaces)
  joined_whole rule.Partition = by_declarations
      (λ (d : Declaration). miscolours_in_type d.names d.param.term) (all_stated rule.Partition)
  joined_whole rule.Declared =
      unstated (all_declared rule.Declared) ∙ by_items (misdeclares_item tree)
  joined_whole rule.Return =
      ap (λ ls. ls ++ all_stated rule.Return) (by_items misdeclares_result)
  joined_whole rule.Start =
      ap (λ ls. wrong_entry_lines tree ++ ls) (undeclared (all_stated rule.Start))
      ∙ unstated (wrong_entry_lines tree)
  joined_whole q = undeclared (all_stated q)

  text_whole : (q : Rule) → part_lines text_parts q ≡ rule_lines tree q
  text_whole q = ap (λ ls. repeated_part.lines q ++ (lines_of_rule rule.Start (wrong_entry_lines tree) q
      ++ (all_declared q ++ ls))) (stated_whole q) ∙ joined_whole q

  pub tells_breach : TellsLine (first_breach tree) (rule_lines tree)
  tells_breach = line_same (first_breach tree) (part_lines text_parts) (rule_lines tree)
      text_whole (line_all text_parts)

-- ---- each rule's breaches

abbrev all_rules : List Rule
all_rules = rule.Name
    ∷ rule.Twice
    ∷ rule.Type
    ∷ rule.Count
    ∷ rule.Place
    ∷ rule.Target
    ∷ rule.Format
    ∷ rule.Read
    ∷ rule.Write
    ∷ rule.Reduce
    ∷ rule.CallPrivilege
    ∷ rule.CallConstraint
    ∷ rule.Pointer
    ∷ rule.Spaces
    ∷ rule.Partition
    ∷ rule.Declared
    ∷ rule.Return
    ∷ rule.Start
    ∷ rule.NotLaunch
    ∷ rule.Interferes
    ∷ []

-- they stand by their numbers
among_rules : (q : Rule) → Contains all_rules q
among_rules rule.Name = (0, omega arith, refl)
among_rules q = (pred (number_of q), omega arith, refl)

abbrev broken_by : Tree → Rule → List Breach
broken_by tree q = broken (number_of q) (rule_lines tree q)

abbrev after_all : List Breach → List (List Breach) → List Breach
after_all acc lists = fold (λ bs more. bs ++ more) acc lists

after-keeps : (f : Rule → List Breach) (acc : List Breach) (rs : List Rule) (b : Breach) →
    Has acc b → Has (after_all acc (map f rs)) b
after-keeps f acc [] b h = h
after-keeps f acc (r ∷ rs) b h =
    after-keeps f (acc ++ f r) rs b (Has-append_left acc (f r) b h)

after-has : (f : Rule → List Breach) (acc : List Breach) (rs : List Rule) (q : Rule)
    (b : Breach) → Has rs q → Has (f q) b → Has (after_all acc (map f rs)) b
after-has f acc [] q b g h = absurd g
after-has f acc (r ∷ rs) q b (inl e) h = after-keeps f (acc ++ f r) rs b
    (Has-append_right acc (f r) b (subst (λ x. Has (f x) b) (sym e) h))
after-has f acc (r ∷ rs) q b (inr g) h = after-has f (acc ++ f r) rs q b g h

after-nothing : (f : Rule → List Breach) → ((q : Rule) → f q ≡ []) → (rs : List Rule) →
    after_all [] (map f rs) ≡ []
after-nothing f h [] = refl
after-nothing f h (r ∷ rs) =
    ap (λ bs. after_all bs (map f rs)) (h r) ∙ after-nothing f h rs

-- ---- the laws

told_is_one : (tree : Tree) (b : Breach) → TellsLine (Some b) (rule_lines tree) →
    Contains (breaches tree) b
told_is_one tree b t = let all = after_all [] (map (broken_by tree) all_rules) in
    (pairs_kept all b).1 (Contains-from_Has all b
    (after-has (broken_by tree) [] all_rules t.0 b (Has-from_Contains all_rules t.0 (among_rules t.0))
    (subst (λ x. Has (broken_by tree t.0) x) t.3
    (Has-map (breaks (number_of t.0)) (rule_lines tree t.0) t.1 t.2))))

pub first_is_one : FirstIsOne
first_is_one tree b e =
    told_is_one tree b (subst (λ o. TellsLine o (rule_lines tree)) e (tells_breach tree))

none_told : (tree : Tree) → TellsLine None (rule_lines tree) → breaches tree ≡ []
none_told tree t = ap each_once (after-nothing (broken_by tree)
    (λ q. ap (broken (number_of q)) (t q)) all_rules)

none_where_none : (tree : Tree) (r : Option Breach) → first_breach tree ≡ r →
    breaches tree ≡ [] → first_breach tree ≡ None
none_where_none tree None e h = e
none_where_none tree (Some b) e h =
    absurd (Has-from_Contains [] b (subst (λ bs. Contains bs b) h (first_is_one tree b e)))

pub none_without_first : NoneWithoutFirst
none_without_first tree = (
  λ e. none_told tree (subst (λ o. TellsLine o (rule_lines tree)) e (tells_breach tree)),
  none_where_none tree (first_breach tree) refl,
)
