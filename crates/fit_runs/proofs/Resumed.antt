-- Behind a segment an instance fits again, with what came: a part, a child's value, a root or a partition, or the calls that it
-- made.
use Rattle.std.proofs.Common.{◌≡◌, ℕ, ◌<◌, ◌^◌, pos, List, [], ◌∷◌, ◌++◌, Bool, true, false, cond, Option, Some, None, refl, sym, ap, ◌∙◌, subst}
use Rattle.std.specs.Prelude.{get_or, length, slice_get}
use Rattle.plain_values.specs.Points.{points}
use Rattle.region_tree.specs.declared.piece.Part.{Part}
use Rattle.region_tree.specs.declared.tree.RootId.{RootId}
use Rattle.task_code.specs.declared.code.TaskCode.{TaskCode}
use Rattle.machine_terms.specs.declared.frame.Before.{Before}
use Rattle.machine_terms.specs.declared.frame.Frame.{Frame}
use Rattle.machine_terms.specs.declared.order.Contents.{Contents}
use Rattle.machine_terms.specs.declared.order.Ended.TheVariants.{Broke, CameBack}
use Rattle.machine_terms.specs.declared.order.Instance.{Instance}
use Rattle.machine_terms.specs.declared.order.Resumed.{Resumed}
use Rattle.machine_terms.specs.declared.order.Resumed.TheVariants.{GoesOn, IsOver}
use Rattle.machine_terms.specs.declared.outcome.CallOut.{CallOut}
use Rattle.machine_terms.specs.declared.outcome.Made.TheVariants as made
use Rattle.machine_terms.specs.declared.outcome.Yield.{Yield}
use Rattle.machine_terms.specs.declared.outcome.Yield.TheVariants as yield
use Rattle.machine_terms.specs.declared.value.RegionValue.{RegionValue}
use Rattle.machine_terms.specs.Copies.{give_parts, part_from}
use Rattle.machine_terms.specs.Makes.{fields_needed, is_sound, make_partition, make_root, region_with, root_needs, root_requirements}
use Rattle.machine_terms.specs.Orders.{await, before_of, breaks, call_all, fetch_part, give_all, make, resume_after, resume_in, Runner}
use Rattle.machine_terms.specs.Segments.{segment}
use Rattle.memory_laws.specs.Places.{column_of}
use Rattle.memory_laws.proofs.Giving.{CanGive}
use Rattle.memory_laws.proofs.Shapes.{alike_parts, length_same}
use Rattle.fit_rules.specs.Shapes.{World}
use Rattle.fit_rules.specs.Fits.{BeforeFits, claims, Fits, PartsFit, Program}
use Rattle.fit_rules.specs.Ends.{grown_by, IsLeft, IsMet, rooted}
use Rattle.fit_laws.proofs.Fetching.{parts_are_fetched}
use Rattle.fit_laws.proofs.Made.{partitions_are_made, roots_are_claimed}
use Rattle.fit_laws.proofs.Rooting.{claims_rooted}
use Rattle.fit_laws.proofs.Segments.{segments_keep_fitting}
use Rattle.fit_runs.specs.Runs.{IsSoundCode}
use Rattle.fit_runs.proofs.Standing.{Agrees, Grew, grew_itself, InstanceFits}
use Rattle.fit_runs.proofs.Giving.{agrees_given, left_given, reached_given}
use Rattle.fit_runs.proofs.Claiming.{needed_there}
use Rattle.fit_runs.proofs.Fetched.{fetched_given}
use Rattle.fit_runs.proofs.Rooted.{agrees_rooted, fresh_root, given_rooted, grew_rooted, reached_rooted, root_required}
use Rattle.fit_runs.proofs.Calls.{Between, calls_fit, EndsFitting, GoesBetween, grew_by, RunnerFits}

-- an instance goes on that fits, in a world that has grown, or it ends so
abbrev pub GoesFitting : Program → World → TaskCode → ℕ → Contents → Resumed → Type 0
GoesFitting g x t k c (GoesOn j) = (y : World) × Grew x c y j.contents × InstanceFits g y t k j
GoesFitting g x t k c (IsOver e) = EndsFitting g x c k e

module _ (g : Program) (sound : IsSoundCode g) (turns : ℕ) (few : turns < 2 ^ 64) (child : Runner) (runner : RunnerFits g child)
    (x : World) (t : TaskCode) (k : ℕ) (i : Instance) (fits : InstanceFits g x t k i) where
  -- what a segment may leave
  abbrev left : Frame → List Part → List ℕ → Instance
  left f ps text = record i { frame = f; parts = ps; text = text }

  agrees_left : (ps : List Part) → PartsFit g x t ps → CanGive i.contents ps → Agrees g x (give_parts ps i.contents)
  agrees_left ps pf can = agrees_given g x t i.contents ps pf can fits.contents

  columns_left : (ps : List Part) (r f : ℕ) → x.there r ≡ true → length (column_of (give_parts ps i.contents) r f) ≡ length (column_of i.contents r f)
  columns_left ps r f h = length_same i.contents (give_parts ps i.contents) (alike_parts ps i.contents).2 r f

  -- ---- one wait each

  wanted : (root : RootId) (field : ℕ) (f : Frame) (ps : List Part) (text : List ℕ) → IsMet g x t k (yield.Want root field) (record { frame = f; parts = ps }) →
      CanGive i.contents ps → InstanceFits g x t k (fetch_part g.code root.0 field (left f ps text))
  wanted root field f ps text (fit, needed, none, met) can =
      let there = needed_there g x t fit.beside.roots f.needs.items fit.beside.needs root.0 field needed in
      let q = part_from g.code i.contents (claims g x t) root.0 field in
      subst (λ ns. InstanceFits g x t k (record (left f ps text) { parts = ps ++ part_from g.code i.contents ns root.0 field ∷ [] })) (sym fits.needs)
      (record {
        machine = met q refl refl (parts_are_fetched g x t i.contents root.0 field fits.contents.spaces there (λ p m e. fits.contents.kept root.0 field p there));
        contents = fits.contents;
        needs = fits.needs;
        reached = fits.reached;
        parts = fetched_given g x t i.contents ps root.0 field fits.contents there fits.reached none can;
        count = fits.count;
        results = fits.results;
      })

  awaited : (n : ℕ) (f : Frame) (ps : List Part) (text : List ℕ) → IsMet g x t k (yield.Await n) (record { frame = f; parts = ps }) →
      CanGive i.contents ps → InstanceFits g x t k (await n (left f ps text))
  awaited n f ps text (fit, low, met) can = record {
    machine = met (get_or i.results n (pos 0)) (fits.results n low);
    contents = fits.contents;
    needs = fits.needs;
    reached = fits.reached;
    parts = can;
    count = fits.count;
    results = fits.results;
  }

  root_made : (size sp : ℕ) (f : Frame) (ps : List Part) (text : List ℕ) → IsMet g x t k (yield.Make (made.Root size sp)) (record { frame = f; parts = ps }) →
      CanGive i.contents ps → GoesFitting g x t k i.contents (GoesOn (make_root g.code size sp (left f ps text)))
  root_made size sp f ps text (small, (number, met)) can =
      let root = i.contents.made in
      let fresh = fresh_root g x i.contents fits.contents number sp size in
      let knows = fits.machine.beside.roots in (
        rooted x number root sp size,
        grew_rooted g x i.contents fits.contents number sp size,
        record {
          machine = met (region_with root (points size)) (root_needs root (fields_needed g.code size sp)) fresh refl (roots_are_claimed g root sp size);
          contents = agrees_rooted g x i.contents fits.contents number sp size;
          needs = ap (λ rs. rs ++ root_requirements root (points size) (fields_needed g.code size sp)) fits.needs
              ∙ ap (λ rs. claims g x t ++ rs) (root_required g root sp size) ∙ sym (claims_rooted x number root sp size fresh g t knows.own_there);
          reached = reached_rooted g x i.contents fits.contents number sp size t knows fits.reached;
          parts = given_rooted g x i.contents fits.contents number sp size ps can;
          count = fits.count;
          results = fits.results;
        },
      )

  partition_made : (r : RegionValue) (sets : List (List ℕ)) (flag : Bool) (f : Frame) (ps : List Part) (text : List ℕ) →
      IsMet g x t k (yield.Make (made.Partition r sets flag)) (record { frame = f; parts = ps }) → CanGive i.contents ps →
      GoesFitting g x t k i.contents (make g.code (made.Partition r sets flag) (left f ps text))
  partition_made r sets flag f ps text (sf, met) can = of (is_sound r.points sets flag)
    where
      of : (b : Bool) → GoesFitting g x t k i.contents (cond b (GoesOn (make_partition r sets flag (left f ps text))) (breaks (left f ps text)))
      of false = tt
      of true = (
        x,
        grew_itself x i.contents,
        record {
          machine = met _ (partitions_are_made r sets flag);
          contents = fits.contents;
          needs = fits.needs;
          reached = fits.reached;
          parts = can;
          count = fits.count;
          results = fits.results;
        },
      )

  -- before its calls an instance gives its parts back
  pub between : (f : Frame) (ps : List Part) (text : List ℕ) → PartsFit g x t ps → CanGive i.contents ps → Between g x t f (give_all (left f ps text))
  between f ps text pf can = record {
    frame = refl;
    contents = agrees_left ps pf can;
    knows = fits.machine.beside.roots;
    needs = fits.needs;
    reached = reached_given i.contents ps (claims g x t) fits.reached;
    parts = refl;
    count = fits.count;
    results = fits.results;
  }

  called_all : (cs : List CallOut) (f : Frame) (ps : List Part) (text : List ℕ) → IsMet g x t k (yield.Calls cs) (record { frame = f; parts = ps }) →
      PartsFit g x t ps → CanGive i.contents ps → GoesFitting g x t k i.contents (call_all g.code turns child cs (give_all (left f ps text)))
  called_all cs f ps text (well, fit) pf can =
      of (call_all g.code turns child cs (give_all (left f ps text)))
      (calls_fit g sound turns few child runner t f cs x (give_all (left f ps text)) well (between f ps text pf can))
    where
      machine_of : (j : Instance) → j.frame ≡ f → j.parts ≡ [] → Fits g (grown_by g x cs) t k (record { frame = j.frame; parts = j.parts })
      machine_of j ef ep = subst (λ u. Fits g (grown_by g x cs) t k (record { frame = u; parts = j.parts })) (sym ef)
          (subst (λ u. Fits g (grown_by g x cs) t k (record { frame = f; parts = u })) (sym ep) fit)

      of : (r : Resumed) → GoesBetween g x (grown_by g x cs) t f (give_parts ps i.contents) r → GoesFitting g x t k i.contents r
      of (IsOver (Broke q text)) h = tt
      of (IsOver (CameBack v own d text)) h = absurd h
      of (GoesOn j) (b, same) = (
        grown_by g x cs,
        grew_by g cs x i.contents j.contents (λ r q e. same r q e ∙ columns_left ps r q e),
        record {
          machine = machine_of j b.frame b.parts;
          contents = b.contents;
          needs = b.needs;
          reached = b.reached;
          parts = subst (CanGive j.contents) (sym b.parts) tt;
          count = b.count;
          results = b.results;
        },
      )

  -- ---- behind a segment

  resumed : (o : Option Frame) (y : Yield) (ps : List Part) (text : List ℕ) → IsLeft g x t k y o ps → PartsFit g x t ps → CanGive i.contents ps →
      GoesFitting g x t k i.contents (resume_in g.code turns child o y (record i { parts = ps; text = text }))
  resumed None (yield.End v) ps text h pf can = (
    h,
    (
      x,
      record { there = λ r e. e; spaces = λ r e. refl; points = λ r e. refl; own = λ r a e. a; columns = columns_left ps },
      fits.machine.beside.own,
      agrees_left ps pf can,
    ),
  )
  resumed None (yield.Fault q) ps text h pf can = tt
  resumed None yield.MachineFault ps text h pf can = tt
  resumed None (yield.Want root field) ps text h pf can = tt
  resumed None (yield.Await n) ps text h pf can = tt
  resumed None (yield.Calls cs) ps text h pf can = tt
  resumed None (yield.Make m) ps text h pf can = tt
  resumed (Some f) (yield.Want root field) ps text h pf can = (x, grew_itself x i.contents, wanted root field f ps text h can)
  resumed (Some f) (yield.Await n) ps text h pf can = (x, grew_itself x i.contents, awaited n f ps text h can)
  resumed (Some f) (yield.Calls cs) ps text h pf can = called_all cs f ps text h pf can
  resumed (Some f) (yield.Make (made.Root size sp)) ps text h pf can = root_made size sp f ps text h can
  resumed (Some f) (yield.Make (made.Partition r sets flag)) ps text h pf can = partition_made r sets flag f ps text h can
  resumed (Some f) (yield.End v) ps text h pf can = tt
  resumed (Some f) (yield.Fault q) ps text h pf can = tt
  resumed (Some f) yield.MachineFault ps text h pf can = tt

  abbrev before : Before
  before = before_of g.code i

  pub before_fits : BeforeFits g x t k before
  before_fits = record { code = refl; machine = fits.machine }

  module _ (there : slice_get g.code.tasks k ≡ Some t) where
    pub after_fits : PartsFit g x t (segment before).parts × IsLeft g x t k (segment before).ends (segment before).frame (segment before).parts
    after_fits = segments_keep_fitting g x t k before (sound.tasks k t there) before_fits

    pub parts_given_back : CanGive i.contents (segment before).parts
    parts_given_back = left_given i.contents before fits.parts

    pub step_fits : GoesFitting g x t k i.contents (resume_after g.code turns child (segment before) i)
    step_fits = resumed (segment before).frame (segment before).ends (segment before).parts (i.text ++ (segment before).text)
        after_fits.1 after_fits.0 parts_given_back
