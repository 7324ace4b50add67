-- Partitions that follow from another.
use Rattle.std.specs.Prelude.{ℕ, List}
use Rattle.regent_tree.specs.Syntax.{Initializer, image_initializer, preimage_initializer}
use Rattle.read_forms.specs.declared.initializers.Mapping.{Mapping}
use Rattle.read_forms.specs.declared.initializers.Mapping.TheVariants.{Image, Preimage}

abbrev pub mapping_by : Mapping → List ℕ → List ℕ → List ℕ → List ℕ → Initializer
mapping_by Image = λ s p r f. image_initializer s p r f
mapping_by Preimage = λ s p r f. preimage_initializer s p r f
