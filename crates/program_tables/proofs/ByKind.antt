-- The items of a kind among a program's items are those that its tree tells of.
use Rattle.std.proofs.Common.{◌≡◌, ℕ, ◌<◌, ◌↔◌, List, [], ◌∷◌, map, length, get_or, refl, sym, ap, ◌∙◌, subst, Bool, true, false, cond, Option, None, Some, is_some, IsSome, arith, slice_get, nat_lt, ◌≤◌, ◌+◌, zero, suc, not, true≢false, unwrap_or}
use Rattle.std.specs.Prelude.{bytes_eq, position, ◌||◌, IfSome, IfNone}
use Rattle.std.specs.List.{position_or_len, list_any, find, position_from}
use Rattle.std.specs.Option.{option_copied}
use Rattle.std.specs.Borrow.{Bor}
use Rattle.std.proofs.lemmas.Bool.{ltb-false}
use Rattle.std.proofs.lemmas.List.Quantifiers.{position-Some}
use Rattle.std.proofs.lemmas.Option.{unwrap_or-slice_get}
use Rattle.std.proofs.lemmas.List.Sums.{prefix_len-le-length}
use Rattle.std.proofs.lemmas.Iterator.Adapters.{position_from-zero}
use Rattle.regent_tree.specs.declared.program.FieldSpace.{FieldSpace}
use Rattle.regent_tree.specs.declared.program.Item.{Item}
use Rattle.regent_tree.specs.declared.program.ItemKind.{ItemKind}
use Rattle.regent_tree.specs.declared.program.ItemKind.TheVariants as kind
use Rattle.regent_tree.specs.declared.program.Program.{Program}
use Rattle.regent_tree.specs.declared.program.Task.{Task}
use Rattle.regent_tree.specs.Lookup.{has_task, has_alias, has_space}
use Rattle.regent_tree.specs.PlainProgram.{item_tree_of, task_of, tree_of}
use Rattle.regent_tree.specs.StaticTypes.{spaces_of, no_task, task_named, place_of_space}
use Rattle.regent_tree.specs.Syntax.{Name, TaskTree, Tree}
use Rattle.program_tables.specs.Kinds.{tasks_among, spaces_among, aliases_among}
use Rattle.program_tables.specs.Lookups.{is_named, place_named, first_named, any_named}

pub spaces_of-items : (items : List Item) → spaces_of (map item_tree_of items) ≡ spaces_among items
spaces_of-items [] = refl
spaces_of-items (i ∷ items) = by i.what (spaces_of-items items)
  where
    by : (k : ItemKind) → spaces_of (map item_tree_of items) ≡ spaces_among items →
        spaces_of (map item_tree_of (record i { what = k } ∷ items)) ≡ spaces_among (record i { what = k } ∷ items)
    by (kind.Space s) h = ap (λ r. s ∷ r) h
    by kind.Import h = h
    by (kind.Alias n) h = h
    by (kind.Task t) h = h
    by (kind.Start n) h = h

pub has_task-items : (items : List Item) (n : Name) → has_task (map item_tree_of items) n ≡ any_named (λ (t : Task). t.name) (tasks_among items) n
has_task-items [] n = refl
has_task-items (i ∷ items) n = by i.what (has_task-items items n)
  where
    by : (k : ItemKind) → has_task (map item_tree_of items) n ≡ any_named (λ (t : Task). t.name) (tasks_among items) n →
        has_task (map item_tree_of (record i { what = k } ∷ items)) n ≡ any_named (λ (t : Task). t.name) (tasks_among (record i { what = k } ∷ items)) n
    by (kind.Task t) h = ap (λ b. bytes_eq t.name n || b) h
    by kind.Import h = h
    by (kind.Alias m) h = h
    by (kind.Space s) h = h
    by (kind.Start m) h = h

pub has_alias-items : (items : List Item) (n : Name) → has_alias (map item_tree_of items) n ≡ any_named (λ (m : Name). m) (aliases_among items) n
has_alias-items [] n = refl
has_alias-items (i ∷ items) n = by i.what (has_alias-items items n)
  where
    by : (k : ItemKind) → has_alias (map item_tree_of items) n ≡ any_named (λ (m : Name). m) (aliases_among items) n →
        has_alias (map item_tree_of (record i { what = k } ∷ items)) n ≡ any_named (λ (m : Name). m) (aliases_among (record i { what = k } ∷ items)) n
    by (kind.Alias m) h = ap (λ b. bytes_eq m n || b) h
    by kind.Import h = h
    by (kind.Task t) h = h
    by (kind.Space s) h = h
    by (kind.Start m) h = h

abbrev IsTaskNamed : Tree → Name → Task → Type 0
IsTaskNamed tree n t = task_of t ≡ task_named tree n

pub task_named-items : (items : List Item) (n : Name) →
    IfSome (first_named (λ (t : Task). t.name) (tasks_among items) n) (λ t. task_of t ≡ task_named (map item_tree_of items) n)
task_named-items [] n = tt
task_named-items (i ∷ items) n = by i.what (task_named-items items n)
  where
    on : (b : Bool) (t : Task) (rest : TaskTree) (o : Option Task) → IfSome o (λ u. task_of u ≡ rest) →
        IfSome (cond b (Some t) o) (λ u. task_of u ≡ cond b (task_of t) rest)
    on true t rest o h = refl
    on false t rest o h = h

    by : (k : ItemKind) → IfSome (first_named (λ (t : Task). t.name) (tasks_among items) n) (λ t. task_of t ≡ task_named (map item_tree_of items) n) →
        IfSome (first_named (λ (t : Task). t.name) (tasks_among (record i { what = k } ∷ items)) n) (λ t. task_of t ≡ task_named (map item_tree_of (record i { what = k } ∷ items)) n)
    by (kind.Task t) h = on (bytes_eq t.name n) t (task_named (map item_tree_of items) n) (first_named (λ (u : Task). u.name) (tasks_among items) n) h
    by kind.Import h = h
    by (kind.Alias m) h = h
    by (kind.Space s) h = h
    by (kind.Start m) h = h

pub no_task-items : (items : List Item) (n : Name) → first_named (λ (t : Task). t.name) (tasks_among items) n ≡ None → task_named (map item_tree_of items) n ≡ no_task
no_task-items [] n none = refl
no_task-items (i ∷ items) n none = by i.what none (no_task-items items n)
  where
    on : (b : Bool) (t : Task) (o : Option Task) → cond b (Some t) o ≡ None → (o ≡ None → task_named (map item_tree_of items) n ≡ no_task) →
        cond b (task_of t) (task_named (map item_tree_of items) n) ≡ no_task
    on true t o e h = absurd (true≢false (ap is_some e))
    on false t o e h = h e

    by : (k : ItemKind) → first_named (λ (t : Task). t.name) (tasks_among (record i { what = k } ∷ items)) n ≡ None →
        (first_named (λ (t : Task). t.name) (tasks_among items) n ≡ None → task_named (map item_tree_of items) n ≡ no_task) →
        task_named (map item_tree_of (record i { what = k } ∷ items)) n ≡ no_task
    by (kind.Task t) e h = on (bytes_eq t.name n) t (first_named (λ (u : Task). u.name) (tasks_among items) n) e h
    by kind.Import e h = h e
    by (kind.Alias m) e h = h e
    by (kind.Space s) e h = h e
    by (kind.Start m) e h = h e

-- whether a look-up finds something
pub is_some-find : {X : Type 0} (p : X → Bool) (xs : List X) → is_some (find p xs) ≡ list_any p xs
is_some-find p [] = refl
is_some-find p (x ∷ xs) = by (p x) (is_some-find p xs)
  where
    by : (b : Bool) → is_some (find p xs) ≡ list_any p xs → is_some (cond b (Some x) (find p xs)) ≡ (b || list_any p xs)
    by true h = refl
    by false h = h

is_some-position_from : {X : Type 0} (p : X → Bool) (i : ℕ) (xs : List X) → is_some (position_from p i xs) ≡ list_any p xs
is_some-position_from p i [] = refl
is_some-position_from p i (x ∷ xs) = by (p x) (is_some-position_from p (i + 1) xs)
  where
    by : (b : Bool) → is_some (position_from p (i + 1) xs) ≡ list_any p xs → is_some (cond b (Some i) (position_from p (i + 1) xs)) ≡ (b || list_any p xs)
    by true h = refl
    by false h = h

pub is_some-position : {X : Type 0} (p : X → Bool) (xs : List X) → is_some (position p xs) ≡ list_any p xs
is_some-position p xs = ap is_some (position_from-zero p xs) ∙ is_some-position_from p 0 xs

-- the place that a look-up finds is the first
pub position_is_first : {X : Type 0} (p : X → Bool) (xs : List X) → IfSome (position p xs) (λ i. i ≡ position_or_len p xs)
position_is_first p xs = by (nat_lt (position_or_len p xs) (length xs))
  where
    by : (b : Bool) → IfSome (cond b (Some (position_or_len p xs)) None) (λ i. i ≡ position_or_len p xs)
    by true = refl
    by false = tt

-- what holds of a value that is pointed to
pub copied_then : {X : Type 0} (P : X → Type 0) (o : Option (Bor X)) (r : Option X) → option_copied o ≡ r → IfSome r P → IfSome o (λ x. P x.now)
copied_then P (Some x) r e h = subst (λ r'. IfSome r' P) (sym e) h
copied_then P None r e h = tt

pub is_some-copied : {X : Type 0} (o : Option (Bor X)) → is_some o ≡ is_some (option_copied o)
is_some-copied None = refl
is_some-copied (Some x) = refl

-- what is at a place of a list
pub get_found : {X : Type 0} (xs : List X) (i : ℕ) (o : Option (Bor X)) → option_copied o ≡ slice_get xs i → IsSome o ↔ (i < length xs)
get_found [] i None e = (λ h. absurd (true≢false (sym h)), λ h. absurd (omega arith))
get_found [] i (Some x) e = absurd (true≢false (ap is_some e))
get_found (x ∷ xs) zero o e = (λ h. omega arith, λ h. is_some-copied o ∙ ap is_some e)
get_found (x ∷ xs) (suc i) o e = let h = get_found xs i o e in (λ s. let lt : i < length xs = h.0 s in omega arith, λ lt. h.1 (omega arith))

pub get_is : {X : Type 0} (xs : List X) (i : ℕ) (d : X) → IfSome (slice_get xs i) (λ x. x ≡ get_or xs i d)
get_is [] i d = tt
get_is (x ∷ xs) zero d = refl
get_is (x ∷ xs) (suc i) d = get_is xs i d

pub get_missing : {X : Type 0} (xs : List X) (i : ℕ) (d : X) (o : Option (Bor X)) → option_copied o ≡ slice_get xs i → IfNone o (get_or xs i d ≡ d)
get_missing xs i d (Some x) e = tt
get_missing xs i d None e = sym (unwrap_or-slice_get xs i d) ∙ ap (λ o. unwrap_or o d) (sym e)

-- the field spaces of a program's tree
pub spaces_are : (p q : Program) (spaces : List FieldSpace) → p ≡ q → spaces ≡ spaces_among p.items.items → spaces ≡ spaces_of (tree_of q)
spaces_are p q spaces same is = is ∙ sym (spaces_of-items p.items.items) ∙ ap (λ r. spaces_of (tree_of r)) same

-- a place that a look-up finds, or the length, is the first place
pub place_or_len : {X : Type 0} (p : X → Bool) (xs : List X) → unwrap_or (position p xs) (length xs) ≡ position_or_len p xs
place_or_len p xs = by (nat_lt (position_or_len p xs) (length xs)) refl
  where
    by : (b : Bool) → nat_lt (position_or_len p xs) (length xs) ≡ b → unwrap_or (cond b (Some (position_or_len p xs)) None) (length xs) ≡ position_or_len p xs
    by true e = refl
    by false e = let past : length xs ≤ position_or_len p xs = ltb-false (position_or_len p xs) (length xs) e in
        let within : position_or_len p xs ≤ length xs = prefix_len-le-length (λ x. not (p x)) xs in omega arith

pub position_within : {X : Type 0} (p : X → Bool) (xs : List X) (o : Option ℕ) → o ≡ position p xs → IfSome o (λ i. i < length xs)
position_within p [] None e = tt
position_within p [] (Some i) e = absurd (true≢false (ap is_some e))
position_within p (x ∷ xs) None e = tt
position_within p (x ∷ xs) (Some i) e = (position-Some p (x ∷ xs) i x (sym e)).0

pub none_is_end : {X : Type 0} (p : X → Bool) (xs : List X) (o : Option ℕ) → o ≡ position p xs → IfNone o (position_or_len p xs ≡ length xs)
none_is_end p xs None e = sym (ap (λ o. unwrap_or o (length xs)) e ∙ place_or_len p xs)
none_is_end p xs (Some i) e = tt

-- ---- what the tables of the program p say of a program q that is p

abbrev task_name : Task → Name
task_name t = t.name

abbrev space_name : FieldSpace → Name
space_name s = s.name

abbrev own_name : Name → Name
own_name n = n

module _ (p q : Program) (n : Name) (same : p ≡ q) where
  pub task_found : (tasks : List Task) (o : Option (Bor Task)) → tasks ≡ tasks_among p.items.items → option_copied o ≡ first_named task_name tasks n →
      is_some o ≡ has_task (tree_of q) n
  task_found tasks o are is = is_some-copied o ∙ ap is_some is ∙ ap (λ l. is_some (first_named task_name l n)) are
      ∙ is_some-find (is_named task_name n) (tasks_among p.items.items) ∙ sym (has_task-items p.items.items n) ∙ ap (λ r. has_task (tree_of r) n) same

  pub task_is : (tasks : List Task) (o : Option (Bor Task)) → tasks ≡ tasks_among p.items.items → option_copied o ≡ first_named task_name tasks n →
      IfSome o (λ t. task_of t.now ≡ task_named (tree_of q) n)
  task_is tasks o are is = copied_then (λ (t : Task). task_of t ≡ task_named (tree_of q) n) o (first_named task_name (tasks_among p.items.items) n)
      (is ∙ ap (λ l. first_named task_name l n) are)
      (subst (λ r. IfSome (first_named task_name (tasks_among p.items.items) n) (λ t. task_of t ≡ task_named (tree_of r) n)) same (task_named-items p.items.items n))

  pub task_missing : (tasks : List Task) (o : Option (Bor Task)) → tasks ≡ tasks_among p.items.items → option_copied o ≡ first_named task_name tasks n →
      IfNone o (task_named (tree_of q) n ≡ no_task)
  task_missing tasks (Some t) are is = tt
  task_missing tasks None are is = ap (λ r. task_named (tree_of r) n) (sym same)
      ∙ no_task-items p.items.items n (ap (λ l. first_named task_name l n) (sym are) ∙ sym is)

  pub space_found : (spaces : List FieldSpace) (o : Option ℕ) → spaces ≡ spaces_among p.items.items → o ≡ place_named space_name spaces n →
      is_some o ≡ has_space (tree_of q) n
  space_found spaces o are is = ap is_some is ∙ is_some-position (is_named space_name n) spaces
      ∙ ap (list_any (is_named space_name n)) (spaces_are p q spaces same are)

  pub space_place : (spaces : List FieldSpace) (o : Option ℕ) → spaces ≡ spaces_among p.items.items → o ≡ place_named space_name spaces n →
      IfSome o (λ i. i ≡ place_of_space (tree_of q) n)
  space_place spaces o are is = subst (λ r. IfSome r (λ i. i ≡ place_of_space (tree_of q) n)) (sym is)
      (subst (λ l. IfSome (place_named space_name spaces n) (λ i. i ≡ position_or_len (is_named space_name n) l)) (spaces_are p q spaces same are)
      (position_is_first (is_named space_name n) spaces))

  pub space_within : (spaces : List FieldSpace) (o : Option ℕ) → spaces ≡ spaces_among p.items.items → o ≡ place_named space_name spaces n →
      IfSome o (λ i. i < length (spaces_of (tree_of q)))
  space_within spaces o are is = subst (λ l. IfSome o (λ i. i < length l)) (spaces_are p q spaces same are) (position_within (is_named space_name n) spaces o is)

  pub place_or_count : (spaces : List FieldSpace) (o : Option ℕ) (count : ℕ) → spaces ≡ spaces_among p.items.items → o ≡ place_named space_name spaces n →
      count ≡ length spaces → unwrap_or o count ≡ place_of_space (tree_of q) n
  place_or_count spaces o count are is counted = (λ j. unwrap_or (is j) (counted j)) ∙ place_or_len (is_named space_name n) spaces
      ∙ ap (position_or_len (is_named space_name n)) (spaces_are p q spaces same are)

  pub alias_found : (aliases : List Name) (o : Option ℕ) → aliases ≡ aliases_among p.items.items → o ≡ place_named own_name aliases n →
      is_some o ≡ has_alias (tree_of q) n
  alias_found aliases o are is = ap is_some is ∙ is_some-position (is_named own_name n) aliases
      ∙ ap (list_any (is_named own_name n)) are ∙ sym (has_alias-items p.items.items n) ∙ ap (λ r. has_alias (tree_of r) n) same
