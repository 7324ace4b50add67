use Rattle.std.specs.Prelude.{refl}
use Rattle.check_examples.specs.PrivilegeExamples.{write_under_reads_breaks, read_under_writes_breaks, other_reduction_breaks, two_regions_breaks, call_without_privilege_breaks, partition_by_field_breaks, privileges_of_parts_breaks}

pub write_under_reads_holds : write_under_reads_breaks
write_under_reads_holds = refl

pub read_under_writes_holds : read_under_writes_breaks
read_under_writes_holds = refl

pub other_reduction_holds : other_reduction_breaks
other_reduction_holds = refl

pub two_regions_holds : two_regions_breaks
two_regions_holds = refl

pub call_without_privilege_holds : call_without_privilege_breaks
call_without_privilege_holds = refl

pub partition_by_field_holds : partition_by_field_breaks
partition_by_field_holds = refl

pub privileges_of_parts_holds : privileges_of_parts_breaks
privileges_of_parts_holds = refl
