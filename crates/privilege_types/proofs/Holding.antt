-- A search through the privileges finds what is held.
use Rattle.std.proofs.Common.{◌≡◌, ℕ, true, ◌==◌, ◌&&◌, List, refl, ap, subst, ◌∙◌, ◌↔◌, inl, inr}
use Rattle.std.specs.List.{Any, Contains, list_any}
use Rattle.std.proofs.lemmas.Bool.{and_parts, and_from, or_cases, or_left, or_right, eqb-true, eq-eqb}
use Rattle.std.proofs.lemmas.List.Folds.{Any-from_list_any, list_any-from_Any}
use Rattle.constraint_check.proofs.Table.{is_subregion-derivable}
use Rattle.regent_tree.specs.Facts.{is_subregion}
use Rattle.regent_tree.specs.declared.facts.Known.{Known}
use Rattle.regent_tree.specs.declared.facts.Term.{Term}
use Rattle.regent_tree.specs.declared.facts.Term.TheVariants.{Name}
use Rattle.regent_tree.specs.Rights.{same_access}
use Rattle.privilege_types.specs.Privileges.{IsHeld, IsAllowed}
use Rattle.regent_tree.specs.Rights.{gives, is_held, allows}
use Rattle.regent_tree.specs.declared.rights.Access.{Access}
use Rattle.regent_tree.specs.declared.rights.Access.TheVariants.{Read, Write, Reduce}
use Rattle.regent_tree.specs.declared.rights.Right.{Right}
use Rattle.privilege_types.proofs.Accesses.{same_access-refl, same-accesses}

held-from_any : (rights : List Right) (facts : List Known) (term : Term) (field : ℕ) (access : Access) →
    Any (λ right. gives facts term field access right ≡ true) rights → IsHeld rights facts term field access
held-from_any rights facts term field access (k, right, l, at, e) =
    let both = and_parts ((right.field == field) && same_access right.access access) (is_subregion facts term (Name right.region)) e in
    let first = and_parts (right.field == field) (same_access right.access access) both.0 in
    let same_field : right.field ≡ field = eqb-true right.field field first.0 in
    let same_one : right.access ≡ access = same-accesses right.access access first.1 in
    let with_field : ℕ → Right = λ f. record { region = right.region; field = f; access = right.access } in
    let with_access : Access → Right = λ a. record { region = right.region; field = field; access = a } in
    let is_it = ap with_field same_field ∙ ap with_access same_one in
    record {
      region = right.region;
      held = subst (λ (r : Right). Contains rights r) is_it (k, l, at);
      inside = (is_subregion-derivable facts term (Name right.region)).0 both.1;
    }

any-from_held : (rights : List Right) (facts : List Known) (term : Term) (field : ℕ) (access : Access) →
    IsHeld rights facts term field access → Any (λ right. gives facts term field access right ≡ true) rights
any-from_held rights facts term field access h =
    let right : Right = record { region = h.region; field = field; access = access } in (
      h.held.0,
      right,
      h.held.1,
      h.held.2,
      and_from ((field == field) && same_access access access) (is_subregion facts term (Name h.region))
          (and_from (field == field) (same_access access access) (eq-eqb field field refl) (same_access-refl access))
          ((is_subregion-derivable facts term (Name h.region)).1 h.inside),
    )

is_held-derivable : (rights : List Right) (facts : List Known) (term : Term) (field : ℕ) (access : Access) →
    (list_any (gives facts term field access) rights ≡ true) ↔ IsHeld rights facts term field access
is_held-derivable rights facts term field access = (
  λ e. held-from_any rights facts term field access (Any-from_list_any (gives facts term field access) rights e),
  λ h. list_any-from_Any (gives facts term field access) rights (any-from_held rights facts term field access h),
)

-- what is allowed by the search is what is allowed
pub allowed-derivable : (rights : List Right) (known : List Known) (t : Term) (f : ℕ) (a : Access) →
    (allows rights known t f a ≡ true) ↔ IsAllowed rights known t f a
allowed-derivable rights known t f Read = is_held-derivable rights known t f Read
allowed-derivable rights known t f Write = is_held-derivable rights known t f Write
allowed-derivable rights known t f (Reduce o) =
    let reduces = is_held rights known t f (Reduce o) in
    let reads = is_held rights known t f Read in
    let writes = is_held rights known t f Write in
    let r = is_held-derivable rights known t f Read in
    let w = is_held-derivable rights known t f Write in
    let d = is_held-derivable rights known t f (Reduce o) in (
      λ e. elim (or_cases reduces (reads && writes) e) [
        | inl g ↦ inl (d.0 g)
        | inr g ↦ let both = and_parts reads writes g in inr (r.0 both.0, w.0 both.1)
      ],
      λ h. elim h [
        | inl g ↦ or_left reduces (reads && writes) (d.1 g)
        | inr g ↦ or_right reduces (reads && writes) (and_from reads writes (r.1 g.0) (w.1 g.1))
      ],
    )
