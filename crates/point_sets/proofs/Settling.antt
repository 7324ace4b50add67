-- Which form takes fewer words.
use Rattle.std.proofs.Common.{◌≡◌, ℕ, ◌<◌, ◌≤◌, min, List, sym, ap, subst, arith}
use Rattle.plain_values.specs.Points.{IsPoints}
use Rattle.bit_planes.specs.Planes.{IsBelow, IsSpan, count_below, is_last}
use Rattle.point_sets.specs.Forms.{AreWordsOf, IsFewest, IsSettled, plane_points, points_of, runs_of}
use Rattle.point_sets.specs.declared.form.Form.{Form}
use Rattle.point_sets.specs.declared.form.Form.TheVariants.{Runs, Plane}
use Rattle.point_sets.specs.declared.TheConstants.{POINT_LIMIT}
use Rattle.point_sets.proofs.PlaneLists.{points-plane_points, runs-plane_points}
use Rattle.point_sets.proofs.Spans.{plane_words, same_words}

pub settled_runs : (xs : List ℕ) (count words : ℕ) → IsPoints POINT_LIMIT xs → count ≡ runs_of xs → AreWordsOf xs words → count ≤ words → IsSettled (Runs xs)
settled_runs xs count words p e w l = (p, (words, w, (let g : runs_of xs ≤ words = omega arith in g)))

pub settled_plane : (s : ℕ) (xs : List ℕ) (count words : ℕ) → IsBelow POINT_LIMIT s → plane_points s ≡ xs → count ≡ runs_of xs → AreWordsOf xs words → words < count → IsSettled (Plane s)
settled_plane s xs count words b same e w l =
    (b, (words, subst (λ ys. AreWordsOf ys words) (sym same) w, (let g : words < runs_of (plane_points s) = omega (arith, ap runs_of same) in g)))

pub settled_full : (s count words : ℕ) → IsBelow POINT_LIMIT s → IsSpan s words → count ≡ count_below (is_last s) POINT_LIMIT → words < count → IsSettled (Plane s)
settled_full s count words b span e l =
    (b, (words, plane_words s words b span, (let g : words < runs_of (plane_points s) = omega (arith, runs-plane_points s b) in g)))

pub settled_sparse : (s : ℕ) (xs : List ℕ) (count words : ℕ) → IsBelow POINT_LIMIT s → xs ≡ plane_points s → IsSpan s words → count ≡ count_below (is_last s) POINT_LIMIT → count ≤ words → IsSettled (Runs xs)
settled_sparse s xs count words b same span e l =
    subst (λ ys. IsSettled (Runs ys)) (sym same) (points-plane_points s, (words, plane_words s words b span, (let g : runs_of (plane_points s) ≤ words = omega (arith, runs-plane_points s b) in g)))

pub points_settled : (f : Form) → IsSettled f → IsPoints POINT_LIMIT (points_of f)
points_settled (Runs xs) h = h.0
points_settled (Plane s) h = points-plane_points s

pub fewest_runs : (xs : List ℕ) (count : ℕ) → IsSettled (Runs xs) → count ≡ runs_of xs → IsFewest xs count
fewest_runs xs count h e = record {
  reach = h.1.0;
  reaches = h.1.1;
  fewest = let l : runs_of xs ≤ h.1.0 = h.1.2 in omega arith;
}

few_enough : (s words : ℕ) → IsSettled (Plane s) → IsSpan s words → words ≡ min (runs_of (plane_points s)) words
few_enough s words h span =
    let same : words ≡ h.1.0 = same_words (plane_points s) words h.1.0 (plane_words s words h.0 span) h.1.1 in
    let l : h.1.0 < runs_of (plane_points s) = h.1.2 in
    omega arith

pub fewest_plane : (s words : ℕ) → IsSettled (Plane s) → IsSpan s words → IsFewest (plane_points s) words
fewest_plane s words h span = record {
  reach = words;
  reaches = plane_words s words h.0 span;
  fewest = few_enough s words h span;
}
