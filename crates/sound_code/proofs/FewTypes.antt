-- Types that name few regions, within the limits of a text: those that are written, and those that come of others.
use Rattle.std.proofs.Common.{◌≡◌, inl, ℕ, true, false, refl, arith}
use Rattle.std.specs.Prelude.{length}
use Rattle.std.proofs.lemmas.Bool.{le-leb}
use Rattle.std.proofs.lemmas.List.{length-map}
use Rattle.regent_tree.specs.Limits.{counted, parts_of_pointer, parts_of_term}
use Rattle.regent_tree.specs.declared.limits.Counted.TheVariants.{Regions}
use Rattle.regent_tree.specs.StaticTypes.{Looking, looked_up, type_said, written_pointer}
use Rattle.regent_tree.specs.Syntax.{Expression, Name, Tree}
use Rattle.regent_tree.specs.Typing.{arithmetic_type, operated, owned, taken_from, type_of_element, type_of_field}
use Rattle.regent_tree.specs.declared.expression.Arithmetic.TheVariants.{Subtract}
use Rattle.regent_tree.specs.declared.expression.Operator.TheVariants.{Compute}
use Rattle.regent_tree.specs.declared.types.NumberTerm.TheVariants as number
use Rattle.regent_tree.specs.declared.types.PointerTerm.{PointerTerm}
use Rattle.regent_tree.specs.declared.types.TypeTerm.{TypeTerm}
use Rattle.regent_tree.specs.declared.types.TypeTerm.TheVariants as typing
use Rattle.regent_tree.specs.declared.typing.StaticType.{StaticType}
use Rattle.regent_tree.specs.declared.typing.StaticType.TheVariants.{Integer as integer_type, Truth as truth_type, Index as index_type, Pointer as pointer_type, Ispace as ispace_type, Region as region_type, Partition as partition_type, Nothing as no_type, Unknown as unknown_type}
use Rattle.code_rules.specs.Slots.{Where}
use Rattle.code_laws.proofs.Typing.{AreKept}
use Rattle.code_laws.specs.Simple.{a_partition_type, a_region_type, an_integer, IsInteger, IsPartition, IsRegion}
use Rattle.sound_code.proofs.WholeTasks.{is_value}
use Rattle.sound_code.proofs.Wholes.{HasFew}

pub value_few : (t : StaticType) → HasFew t → is_value false t ≡ true → is_value true t ≡ true
value_few (pointer_type k sp args rs) l e = le-leb (length rs) 4 l
value_few (integer_type w) l e = refl
value_few truth_type l e = refl
value_few (index_type k) l e = refl
value_few (ispace_type k) l e = refl
value_few (region_type k sp args r) l e = e
value_few (partition_type d r p) l e = e
value_few no_type l e = e
value_few unknown_type l e = e

pub written_few : (tree : Tree) (look : Looking) (p : PointerTerm) → AreKept (parts_of_pointer p) → HasFew (written_pointer tree look p)
written_few tree look p k = let l = k (counted Regions (length p.regions)) (inl refl) in omega (arith, l, length-map p.regions (looked_up look))

pub said_few : (tree : Tree) (look : Looking) (i : ℕ) (t : TypeTerm) → AreKept (parts_of_term t) → HasFew (type_said tree look i t)
said_few tree look i (typing.Number number.Int32) k = omega arith
said_few tree look i (typing.Number number.Int64) k = omega arith
said_few tree look i (typing.Number (number.Index c)) k = omega arith
said_few tree look i typing.Truth k = omega arith
said_few tree look i (typing.Pointer p) k = written_few tree look p k
said_few tree look i (typing.Ispace c) k = omega arith
said_few tree look i (typing.Region c u) k = omega arith
said_few tree look i (typing.Partition d r c) k = omega arith

pub owned_few : (i : ℕ) (t : StaticType) → HasFew t → HasFew (owned i t)
owned_few i (pointer_type k sp args rs) l = l
owned_few i (integer_type w) l = l
owned_few i truth_type l = l
owned_few i (index_type k) l = l
owned_few i (ispace_type k) l = l
owned_few i (region_type k sp args r) l = l
owned_few i (partition_type d r p) l = l
owned_few i no_type l = l
owned_few i unknown_type l = l

pub taken_few : (t : StaticType) → HasFew (taken_from t)
taken_few (pointer_type k sp args rs) = omega arith
taken_few (integer_type w) = omega arith
taken_few truth_type = omega arith
taken_few (index_type k) = omega arith
taken_few (ispace_type k) = omega arith
taken_few (region_type k sp args r) = omega arith
taken_few (partition_type d r p) = omega arith
taken_few no_type = omega arith
taken_few unknown_type = omega arith

pub counted_few : (t u : StaticType) → IsInteger t → IsInteger u → HasFew (arithmetic_type t u)
counted_few _ _ (an_integer a) (an_integer b) = omega arith

pub element_few : (w : Where) (u : StaticType) (e : Expression) → IsRegion u → HasFew (type_of_element w.scope u e)
element_few w _ e (a_region_type k sp args r) = omega arith

pub colours_few : (w : Where) (u : StaticType) (f : Name) → IsPartition u → HasFew (type_of_field w.tree u f)
colours_few w _ f (a_partition_type d r p) = omega arith

pub minus_few : (u v : StaticType) → IsPartition u → HasFew (operated (Compute Subtract) u v)
minus_few _ v (a_partition_type d r p) = omega arith
