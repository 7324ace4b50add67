-- Shapes of names and of their types tell of no child.
use Rattle.std.proofs.Common.{ℕ, Bool, true, false, cond, None, Option, Some}
use Rattle.std.specs.Prelude.{nat_le}
use Rattle.regent_tree.specs.declared.facts.Term.{Term}
use Rattle.regent_tree.specs.declared.facts.Term.TheVariants as term
use Rattle.regent_tree.specs.declared.typing.StaticType.{StaticType}
use Rattle.regent_tree.specs.declared.typing.StaticType.TheVariants.{Integer as integer_type, Truth as truth_type, Index as index_type, Pointer as pointer_type, Ispace as ispace_type, Region as region_type, Partition as partition_type, Nothing as no_type, Unknown as unknown_type}
use Rattle.fit_rules.specs.Shapes.{argument, IsPlain, IsPlainOrigin, Numeric, numeric_index, numeric_integer, numeric_pointer, numeric_truth, own_as, Shape}
use Rattle.sound_code.specs.Ways.{all_made, by_rules, origin_behind, origin_in, whole_origin, shape_in, shape_of, Way}

pub numeric_plain : (s : Shape) → Numeric s → IsPlain s
numeric_plain _ (numeric_integer w) = tt
numeric_plain _ numeric_truth = tt
numeric_plain _ numeric_index = tt
numeric_plain _ (numeric_pointer n) = tt

-- a root that was made under a number, an argument, or what began as a part of one
pub plain_whole : (params i : ℕ) → IsPlainOrigin (whole_origin params i)
plain_whole params i = of (nat_le params i)
  where
    of : (b : Bool) → IsPlainOrigin (cond b (own_as i) (argument i))
    of true = tt
    of false = tt

pub plain_origin : (way : Way) (params : ℕ) (r : Term) → IsPlainOrigin (origin_in way params r)
plain_origin all_made params r = tt
plain_origin (by_rules tops task) params (term.Name i) = of (nat_le params i) (tops task i)
  where
    of : (b : Bool) (o : Option (ℕ × ℕ)) → IsPlainOrigin (cond b (origin_behind params i o) (argument i))
    of true None = tt
    of true (Some k) = plain_whole params k.1
    of false o = tt
plain_origin (by_rules tops task) params (term.Child p c) = tt

pub plain_shape : (t : StaticType) → IsPlain (shape_of t)
plain_shape (integer_type w) = tt
plain_shape truth_type = tt
plain_shape (index_type k) = tt
plain_shape (pointer_type k sp args rs) = tt
plain_shape (ispace_type k) = tt
plain_shape (region_type k sp args r) = tt
plain_shape (partition_type d r p) = tt
plain_shape no_type = tt
plain_shape unknown_type = tt

pub plain_in : (way : Way) (params : ℕ) (t : StaticType) → IsPlain (shape_in way params t)
plain_in way params (region_type k sp args r) = plain_origin way params r
plain_in way params (integer_type w) = tt
plain_in way params truth_type = tt
plain_in way params (index_type k) = tt
plain_in way params (pointer_type k sp args rs) = tt
plain_in way params (ispace_type k) = tt
plain_in way params (partition_type d r p) = tt
plain_in way params no_type = tt
plain_in way params unknown_type = tt
