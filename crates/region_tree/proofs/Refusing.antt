-- What a refusal says follows from the clauses on each answer.
use Rattle.std.proofs.Common.{◌≡◌, ℕ, Bool, true, List, Result, Ok, Err}
use Rattle.std.specs.Result.{IfErr, OnOk}
use Rattle.region_tree.specs.Refusals.{AreWithin, Refuses, TellsLeaving, TellsSharing}
use Rattle.region_tree.specs.Sharing.{AreDisjoint, set_of_colour}
use Rattle.region_tree.specs.declared.content.Node.{Node}
use Rattle.region_tree.specs.declared.fault.TreeFault.{TreeFault}
use Rattle.region_tree.specs.declared.fault.TreeFault.TheVariants.{NotWithin, NotDisjoint, Memory}
use Rattle.plain_values.specs.Points.{has}
use Rattle.point_sets.proofs.Rising.{within_each}
use Rattle.std.proofs.lemmas.Bool.{both_ways}

pub leaving_told : (points : List ℕ) (sets : List (List ℕ)) (disjoint : Bool)
    (r : Result Node TreeFault) → OnOk r (AreWithin points sets) →
    IfErr r (Refuses points sets disjoint) → ¬ AreWithin points sets → TellsLeaving r
leaving_told points sets disjoint (Ok n) ok err h = absurd (h ok)
leaving_told points sets disjoint (Err (NotWithin colour point)) ok err h = tt
leaving_told points sets disjoint (Err (NotDisjoint a b point)) ok err h = absurd (h err.0)
leaving_told points sets disjoint (Err (Memory e)) ok err h = tt

pub sharing_told : (points : List ℕ) (sets : List (List ℕ)) (disjoint : Bool)
    (r : Result Node TreeFault) → OnOk r (disjoint ≡ true → AreDisjoint sets) →
    IfErr r (Refuses points sets disjoint) → AreWithin points sets → disjoint ≡ true →
    ¬ AreDisjoint sets → TellsSharing r
sharing_told points sets disjoint (Ok n) ok err h d some = absurd (some (ok d))
sharing_told points sets disjoint (Err (NotWithin colour point)) ok err h d some =
    absurd (both_ways (has points point) err.leaves.outside
    (within_each (set_of_colour sets colour) points (h colour err.below) point err.leaves.in_set))
sharing_told points sets disjoint (Err (NotDisjoint a b point)) ok err h d some = tt
sharing_told points sets disjoint (Err (Memory e)) ok err h d some = tt
