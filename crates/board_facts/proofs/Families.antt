-- Who was called by whom, and what is said, behind a segment that is given back.
use Rattle.std.proofs.Common.{◌≡◌, ◌<◌, ◌≤◌, ◌∙◌, ◌+◌, ◌++◌, ◌⊎◌, ℕ, List, [], ◌∷◌, Option, None, Some, All, ap, arith, inl, inr, length, map, refl, set, subst, sum_by, sym}
use Rattle.std.specs.Prelude.{IfSome}
use Rattle.std.proofs.lemmas.Bool.Decides.{eqb_tells}
use Rattle.std.proofs.lemmas.List.{length-append, length-map, length-set}
use Rattle.std.proofs.lemmas.List.Elements.{All-append, All-cons, All-get_or, All-map, All-nil, All-set, All-weaker}
use Rattle.std.proofs.lemmas.List.Sums.{sum_by-append, sum_by-set, sum_by_push}
use Rattle.plain_values.specs.Points.{counted_from, points}
use Rattle.point_sets.proofs.Rising.{counted_from-+}
use Rattle.region_tree.specs.declared.tree.OpNumber.{OpNumber}
use Rattle.region_tree.specs.declared.tree.RootId.{RootId}
use Rattle.dependence_graph.specs.Knots.{number}
use Rattle.logical_map.specs.Maps.{columns_of}
use Rattle.task_code.specs.declared.code.Code.{Code}
use Rattle.machine_terms.specs.declared.frame.Before.{Before}
use Rattle.machine_terms.specs.declared.frame.Frame.{Frame}
use Rattle.machine_terms.specs.declared.outcome.After.{After}
use Rattle.machine_terms.specs.declared.outcome.Made.TheVariants as made
use Rattle.machine_terms.specs.declared.outcome.Yield.{Yield}
use Rattle.machine_terms.specs.declared.outcome.Yield.TheVariants as yield
use Rattle.machine_terms.specs.Segments.{frame_after, segment, stop_of}
use Rattle.machine_terms.proofs.Kept.{stop_fixed}
use Rattle.board_terms.specs.declared.claim.Claim.{Claim}
use Rattle.board_terms.specs.declared.operation.Activity.{Activity}
use Rattle.board_terms.specs.declared.operation.Activity.TheVariants as activity
use Rattle.board_terms.specs.declared.operation.Operation.{Operation}
use Rattle.board_terms.specs.declared.operation.Said.{Said}
use Rattle.board_terms.specs.Gives.{also_said, frame_left, given_after}
use Rattle.board_terms.specs.Makes.{next_root}
use Rattle.board_terms.specs.States.{State, called_by, no_operation, operation_at}
use Rattle.board_facts.proofs.Giving.{segments_are_given}
use Rattle.board_facts.proofs.Held.{nothing_held}
use Rattle.board_facts.proofs.Lists.{sum_mapped, sum_nothing}
use Rattle.board_facts.specs.Families.{AreMade, HasMadeOwn, IsFamily, IsLentOwn, IsLentOwnBy, IsSound, of_children}
use Rattle.board_facts.specs.Given.{IsGiven, IsHeldBehind, IsMadeIn, IsUnclaimed}
use Rattle.board_facts.specs.Laws.{TextGrowsByWhatIsPrinted}
use Rattle.board_facts.specs.Texts.{said_by}

-- ---- sums

pub sum_given : (f : Operation → ℕ) (code : Code) (s t : State) (k : ℕ) (a : After) (g : IsGiven code s k a t) → k < length s.operations →
    ((fr : Frame) → f (called_by (number k) fr) ≡ 0) →
    sum_by f t.operations + f (operation_at s k) ≡ sum_by f s.operations + f g.operation
sum_given f code s t k a g b none =
    let new : sum_by f (map (called_by (number k)) g.frames) ≡ 0 = sum_mapped f (called_by (number k)) g.frames ∙ sum_nothing (λ (fr : Frame). f (called_by (number k) fr)) g.frames none in
    omega (
      arith,
      ap (sum_by f) g.operations,
      sum_by-append f (set s.operations k g.operation) (map (called_by (number k)) g.frames),
      new,
      sum_by-set f s.operations k g.operation no_operation b,
    )

-- ---- texts

said_more : (n : ℕ) (text : List ℕ) (said : List Said) →
    sum_by (λ (p : Said). length p.text) (also_said n text said) ≡ sum_by (λ (p : Said). length p.text) said + length text
said_more n [] said = omega arith
said_more n (b ∷ bs) said = sum_by_push (λ (p : Said). length p.text) said (record { children = n; text = b ∷ bs })

pub text_grows_by_what_is_printed : TextGrowsByWhatIsPrinted
text_grows_by_what_is_printed code s t k a b g =
    omega (
      arith,
      sum_given said_by code s t k a g b (λ fr. refl),
      ap (sum_by (λ (p : Said). length p.text)) g.said,
      said_more (length (operation_at s k).children) a.text (operation_at s k).said,
    )

-- ---- callers

given_family : (code : Code) (s t : State) (k : ℕ) (a : After) → k < length s.operations → IsGiven code s k a t → IsFamily s.operations → IsFamily t.operations
given_family code s t k a b g family w =
    let n = length s.operations in
    let m = length g.frames in
    let more : of_children w g.operation ≡ of_children w (operation_at s k) + sum_by w (counted_from n m) =
    ap (sum_by (λ (c : OpNumber). w c.0)) g.children
    ∙ sum_by-append (λ (c : OpNumber). w c.0) (operation_at s k).children (map number (counted_from n m))
    ∙ ap (λ (x : ℕ). of_children w (operation_at s k) + x) (sum_mapped (λ (c : OpNumber). w c.0) number (counted_from n m)) in
    let long : length t.operations ≡ n + m =
    ap length g.operations ∙ length-append (set s.operations k g.operation) (map (called_by (number k)) g.frames)
    ∙ ap (λ (x : ℕ). x + length (map (called_by (number k)) g.frames)) (length-set s.operations k g.operation)
    ∙ ap (λ (x : ℕ). n + x) (length-map g.frames (called_by (number k))) in
    let zero_first : 0 + n ≡ n = omega arith in
    let all : sum_by w (points (length t.operations)) ≡ sum_by w (points n) + sum_by w (counted_from n m) =
    ap (λ (x : ℕ). sum_by w (points x)) long ∙ ap (sum_by w) (counted_from-+ 0 n m ∙ ap (λ (x : ℕ). points n ++ counted_from x m) zero_first) ∙ sum_by-append w (points n) (counted_from n m) in
    omega (arith, sum_given (of_children w) code s t k a g b (λ fr. refl), more, all, family w)

-- ---- roots

-- the frame keeps its roots
own_after : (y : Yield) (f : Frame) (own : List RootId) → f.own ≡ own → IfSome (frame_after y f) (λ h. h.own ≡ own)
own_after (yield.Calls cs) f own e = e
own_after (yield.Want root field) f own e = e
own_after (yield.Await n) f own e = e
own_after (yield.Make m) f own e = e
own_after (yield.End v) f own e = tt
own_after (yield.Fault x) f own e = tt
own_after yield.MachineFault f own e = tt

own_left : (f : Frame) (own : List RootId) (o : Option Frame) → own ≡ f.own → IfSome o (λ h. h.own ≡ own) → (frame_left f o).own ≡ f.own
own_left f own None e h = refl
own_left f own (Some g) e h = h ∙ e

-- a root of the operation's own is made
record IsOneMade (s t : State) (left own : List RootId) : Type 0 where
  roots : t.tree.roots ≡ s.tree.roots + 1
  extents : length t.roots ≡ length s.roots + 1
  made : own ≡ left ++ next_root s ∷ []

record IsNoneMade (s t : State) (left own : List RootId) : Type 0 where
  roots : t.tree.roots ≡ s.tree.roots
  extents : length t.roots ≡ length s.roots
  made : own ≡ left
  held : IsHeldBehind s.map t.map s.tree.roots

none_made : (s t : State) (left own : List RootId) →
    (t.tree.roots ≡ s.tree.roots) × ((t.roots ≡ s.roots) × ((own ≡ left) × IsHeldBehind s.map t.map s.tree.roots)) → IsNoneMade s t left own
none_made s t left own m = record { roots = m.0; extents = ap length m.1.0; made = m.1.1.0; held = m.1.1.1 }

either_made : (code : Code) (y : Yield) (s t : State) (left own : List RootId) → IsMadeIn code y s left t own →
    IsOneMade s t left own ⊎ IsNoneMade s t left own
either_made code (yield.Make (made.Root size space)) s t left own m = inl (record { roots = m.0; extents = ap length m.1.0 ∙ length-append s.roots (record { space = space; count = size } ∷ []); made = m.1.1.0 })
either_made code (yield.Make (made.Partition r sets disjoint)) s t left own m = inr (none_made s t left own m)
either_made code (yield.Calls cs) s t left own m = inr (none_made s t left own m)
either_made code (yield.Want root field) s t left own m = inr (none_made s t left own m)
either_made code (yield.Await n) s t left own m = inr (none_made s t left own m)
either_made code (yield.End v) s t left own m = inr (none_made s t left own m)
either_made code (yield.Fault x) s t left own m = inr (none_made s t left own m)
either_made code yield.MachineFault s t left own m = inr (none_made s t left own m)

more_made : (m n : ℕ) (rs : List RootId) → m ≤ n → AreMade m rs → AreMade n rs
more_made m n rs b h = All-weaker (λ (r : RootId). r.0 < m) (λ (r : RootId). r.0 < n) (λ r l. omega (arith, l, b)) rs h

made_own : (s t : State) (left own : List RootId) → AreMade s.tree.roots left →
    IsOneMade s t left own ⊎ IsNoneMade s t left own → AreMade t.tree.roots own × (s.tree.roots ≤ t.tree.roots)
made_own s t left own h (inl m) = (
  subst (AreMade t.tree.roots) (sym m.made) (All-append (λ (r : RootId). r.0 < t.tree.roots) left (next_root s ∷ [])
      (more_made s.tree.roots t.tree.roots left (omega (arith, m.roots)) h)
      (All-cons (λ (r : RootId). r.0 < t.tree.roots) (next_root s) [] (omega (arith, m.roots)) (All-nil (λ (r : RootId). r.0 < t.tree.roots)))),
  omega (arith, m.roots),
)
made_own s t left own h (inr m) = (
  subst (AreMade t.tree.roots) (sym m.made) (more_made s.tree.roots t.tree.roots left (omega (arith, m.roots)) h),
  omega (arith, m.roots),
)

made_extents : (s t : State) (left own : List RootId) → length s.roots ≡ s.tree.roots → IsOneMade s t left own ⊎ IsNoneMade s t left own →
    length t.roots ≡ t.tree.roots
made_extents s t left own e (inl m) = omega (arith, e, m.roots, m.extents)
made_extents s t left own e (inr m) = omega (arith, e, m.roots, m.extents)

made_live : (code : Code) (s t : State) (k : ℕ) (a : After) (left own : List RootId) → IsGiven code s k a t →
    ((root : ℕ) → s.tree.roots ≤ root → columns_of s.map root ≡ []) →
    IsOneMade s t left own ⊎ IsNoneMade s t left own →
    (root : ℕ) → t.tree.roots ≤ root → columns_of t.map root ≡ []
made_live code s t k a left own g live (inl m) root b =
    nothing_held s.map t.map root (g.held root (λ e. omega (arith, e, b, m.roots))) (live root (omega (arith, b, m.roots)))
made_live code s t k a left own g live (inr m) root b = elim (eqb_tells root s.tree.roots) [
  | inl h ↦ subst (λ (n : ℕ). columns_of t.map n ≡ []) (sym h.1)
      (nothing_held s.map t.map s.tree.roots m.held (live s.tree.roots (omega arith)))
  | inr h ↦ nothing_held s.map t.map root (g.held root h.1) (live root (omega (arith, b, m.roots)))
]

-- ---- all of it

pub everywhere : {A : Type 0} (P : A → Type 0) (xs : List A) → ((x : A) → P x) → All P xs
everywhere P [] h = All-nil P
everywhere P (x ∷ xs) h = All-cons P x xs (h x) (everywhere P xs h)

unclaimed_lent : (own : List RootId) (a : Activity) → IsUnclaimed a → IsLentOwnBy own a
unclaimed_lent own (activity.Filling c f) h = absurd h
unclaimed_lent own (activity.Out c b) h = absurd h
unclaimed_lent own activity.Idle h = tt
unclaimed_lent own (activity.Closing e) h = tt

lent_own : (own : List RootId) (a : Activity) (c : Claim) (b : Before) → a ≡ activity.Out c b → IsLentOwnBy own a → b.frame.own ≡ own
lent_own own a c b e h = subst (IsLentOwnBy own) e h

-- a segment leaves an operation that is out its own roots
pub own_is_left : (s : State) (k : ℕ) (c : Claim) (b : Before) → IsSound s → k < length s.operations →
    (operation_at s k).activity ≡ activity.Out c b →
    (frame_left (operation_at s k).frame (segment b).frame).own ≡ (operation_at s k).frame.own
own_is_left s k c b sound there e =
    let o = operation_at s k in
    let lent : b.frame.own ≡ o.frame.own =
    lent_own o.frame.own o.activity c b e (All-get_or IsLentOwn s.operations k no_operation there sound.lent) in
    own_left o.frame b.frame.own (segment b).frame lent
    (own_after (stop_of b).ends (stop_of b).machine.frame b.frame.own (stop_fixed b).own)

pub given_sound : (code : Code) (turns : ℕ) (s : State) (k : ℕ) (c : Claim) (b : Before) → IsSound s → k < length s.operations →
    (operation_at s k).activity ≡ activity.Out c b → IsSound (given_after code turns s k (segment b))
given_sound code turns s k c b sound there e =
    let o = operation_at s k in
    let a = segment b in
    let t = given_after code turns s k a in
    let g = segments_are_given code turns s k a sound there in
    let left = (frame_left o.frame a.frame).own in
    let kept = own_is_left s k c b sound there e in
    let here : AreMade s.tree.roots left = subst (AreMade s.tree.roots) (sym kept) (All-get_or (HasMadeOwn s.tree.roots) s.operations k no_operation there sound.own) in
    let either = either_made code a.ends s t left g.operation.frame.own g.made in
    let own = made_own s t left g.operation.frame.own here either in
    record {
      family = given_family code s t k a there g sound.family;
      lent = subst (All IsLentOwn) (sym g.operations) (All-append IsLentOwn (set s.operations k g.operation) (map (called_by (number k)) g.frames)
          (All-set IsLentOwn s.operations k g.operation (unclaimed_lent g.operation.frame.own g.operation.activity g.unclaimed) sound.lent)
          (All-map IsLentOwn (called_by (number k)) g.frames (everywhere (λ (f : Frame). IsLentOwn (called_by (number k) f)) g.frames (λ f. tt))));
      own = subst (All (HasMadeOwn t.tree.roots)) (sym g.operations) (All-append (HasMadeOwn t.tree.roots) (set s.operations k g.operation) (map (called_by (number k)) g.frames)
          (All-set (HasMadeOwn t.tree.roots) s.operations k g.operation own.0
          (All-weaker (HasMadeOwn s.tree.roots) (HasMadeOwn t.tree.roots) (λ x h. more_made s.tree.roots t.tree.roots x.frame.own own.1 h) s.operations sound.own))
          (All-map (HasMadeOwn t.tree.roots) (called_by (number k)) g.frames
          (All-weaker (λ (f : Frame). f.own ≡ []) (λ (f : Frame). HasMadeOwn t.tree.roots (called_by (number k) f))
          (λ f h. subst (AreMade t.tree.roots) (sym h) (All-nil (λ (r : RootId). r.0 < t.tree.roots))) g.frames g.own)));
      extents = made_extents s t left g.operation.frame.own sound.extents either;
      live = made_live code s t k a left g.operation.frame.own g sound.live either;
    }
