-- Where a constraint of a called task asks that a region lies within a part that has no name, it lies within the child by the part's colour
-- of the partition in its name's slot, and that is the part.
use Rattle.std.proofs.Common.{◌≡◌, ℕ, ◌<◌, List, true, not, sym, ap, subst}
use Rattle.std.specs.Prelude.{take}
use Rattle.check_laws.proofs.Scopes.{found_by_number}
use Rattle.regent_tree.specs.Facts.{is_unknown}
use Rattle.regent_tree.specs.Syntax.{Expression, Name}
use Rattle.regent_tree.specs.Typing.{colour_of}
use Rattle.regent_tree.specs.declared.typing.Bound.{Bound}
use Rattle.machine_terms.specs.declared.value.RegionValue.{RegionValue}
use Rattle.machine_terms.specs.declared.value.Value.{Value}
use Rattle.code_rules.specs.Slots.{bound, slot_bound, slot_named, Where}
use Rattle.code_laws.specs.Arguments.{IsCutName}
use Rattle.fit_rules.specs.Marks.{child_in, IsChild, LiesAt, LiesIn}
use Rattle.sound_code.proofs.Colours.{certain_known, child_taken, colour_at, colour_held, held_of, IsUnder, one_child}
use Rattle.sound_code.specs.Named.{slot_at}

pub lies_child : (w : Where) (kept : ℕ) (vs : List Value) (n : Name) (e : Expression) (r q : RegionValue) → IsCutName w n → not (is_unknown (colour_of w.scope e)) ≡ true →
    slot_named w n < kept → IsUnder kept (colour_at w e) →
    LiesAt vs r (child_in (slot_bound w (bound w n).number) (held_of w.params w.scope.names (colour_of w.scope e))) →
    IsChild (take kept vs) (slot_named w n) (colour_at w e) q → LiesIn r q
lies_child w kept vs n e r q cut certain low under lies child =
    let names = w.scope.names in
    let at = (found_by_number w.scope.next names n cut.numbers cut.named).0 in
    let slot : slot_bound w (bound w n).number ≡ slot_named w n = ap (λ (b : Bound). slot_at w.params b.place) at in
    let there = subst (λ s. IsChild vs s (colour_at w e) lies.other) slot
    (subst (λ c. IsChild vs (slot_bound w (bound w n).number) c lies.other) (sym (colour_held w e cut.numbers).1) lies.at) in
    let one : lies.other ≡ q = one_child (take kept vs) (slot_named w n) (colour_at w e) (certain_known w e certain) lies.other q
    (child_taken kept vs (slot_named w n) (colour_at w e) lies.other low under there) child in
    subst (LiesIn r) one lies.inside
