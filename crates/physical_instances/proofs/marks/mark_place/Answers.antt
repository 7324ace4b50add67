use Rattle.std.proofs.Common.{rules, ◌+◌, ◌-◌, Fits, arith, get_or, length, refl, slice_set, w64}
use Rattle.physical_instances.proofs.Marking.{counts_again, new_count_fits, old_inside, old_is_counted}
use Rattle.physical_instances.proofs.marks.mark_place.Goals as goal

pub bounds-counts-before : goal.bounds-counts-before
bounds-counts-before c = old_inside c.args.counts.now c.args.valid.now c.args.place c.args.which 0 0 c.requires.place c.requires.which c.requires.counts

pub overflow_sub-counts : goal.overflow_sub-counts
overflow_sub-counts c =
    omega (arith, old_is_counted c.args.counts.now c.args.valid.now c.args.place c.args.which 0 0 c.requires.place c.requires.which c.requires.counts)

pub bounds-counts-before-2 : goal.bounds-counts-before-2
bounds-counts-before-2 c = old_inside c.args.counts.now c.args.valid.now c.args.place c.args.which 0 0 c.requires.place c.requires.which c.requires.counts

pub overflow_add-counts : goal.overflow_add-counts
overflow_add-counts c =
    let counts = c.args.counts.now in
    let valid = c.args.valid.now in
    let old = get_or valid c.args.place 0 in
    let less = get_or counts old 0 - 1 in
    let some = old_is_counted counts valid c.args.place c.args.which less 0 c.requires.place c.requires.which c.requires.counts in
    let short : Fits w64 (length valid) = search (rules) in
    let fits = new_count_fits counts valid c.args.place c.args.which less 0 c.requires.place c.requires.which c.requires.counts (omega (arith, some)) in
    omega (arith, short, fits)

pub returns-clause-counts : goal.returns-clause-counts
returns-clause-counts c =
    let counts = c.args.counts.now in
    let valid = c.args.valid.now in
    let old = get_or valid c.args.place 0 in
    let less = get_or counts old 0 - 1 in
    let more = get_or (slice_set counts old less) c.args.which 0 + 1 in
    let some = old_is_counted counts valid c.args.place c.args.which less more c.requires.place c.requires.which c.requires.counts in
    counts_again counts valid c.args.place c.args.which less more c.requires.place c.requires.which c.requires.counts (omega (arith, some)) refl
