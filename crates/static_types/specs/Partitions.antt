-- What a partition fits.
use Rattle.std.specs.Prelude.{Bool, ℕ, false}
use Rattle.check_rules.specs.types.Fitting.{is_partition_like}
use Rattle.regent_tree.specs.declared.typing.StaticType.{StaticType}
use Rattle.regent_tree.specs.declared.typing.StaticType.TheVariants.{Partition as partition_type}

abbrev pub partition_fits : Bool → ℕ → StaticType → Bool
partition_fits d r (partition_type asked parent own) =
    is_partition_like asked parent (partition_type d r own)
partition_fits d r t = false
