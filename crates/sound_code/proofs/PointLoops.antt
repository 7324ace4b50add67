-- The code of loops over index spaces and regions has marks: the counter is never more than the points of the domain.
use Rattle.std.proofs.Common.{◌≡◌, inl, ℕ, zero, suc, ◌<◌, ◌≤◌, ◌+◌, ◌^◌, Option, pos, ◌+ℤ◌, List, [], ◌∷◌, Bool, true, false, Some, None, refl, sym, ap, ◌∙◌, subst, arith}
use Rattle.std.specs.Prelude.{get_or, slice_get, slice_set, length, nat_lt, cond}
use Rattle.std.specs.List.Sorted.{IsStrictlyIncreasing}
use Rattle.plain_values.specs.Points.{IsPoints}
use Rattle.std.proofs.lemmas.Bool.{ltb-true}
use Rattle.std.proofs.lemmas.List.{length-set}
use Rattle.std.proofs.lemmas.Int.{ints}
use Rattle.std.proofs.lemmas.Option.{get_or_from_slice_get, none-some, same_Some, slice_get_within}
use Rattle.regent_tree.specs.declared.typing.Bound.{Bound}
use Rattle.task_code.specs.declared.code.TaskCode.{TaskCode}
use Rattle.task_code.specs.declared.instr.Instr.TheVariants as instr
use Rattle.machine_terms.specs.declared.value.Value.{Value}
use Rattle.machine_terms.specs.declared.value.Value.TheVariants as value
use Rattle.machine_terms.specs.Jumps.{point_at, size_of, taken}
use Rattle.machine_terms.specs.Pointers.{region_in}
use Rattle.code_rules.specs.Pieces.{Piece, op, ◌⨟◌, rounds}
use Rattle.fit_rules.specs.Shapes.{Each, index, IsPlain, IsPlainOrigin, NumberIs, Origin, pointer, region, Shape, space, World, Is, is_number, is_region, is_space}
use Rattle.fit_rules.specs.Marks.{around, Stores, AtMost, counts, Fact, HoldsTop, Mark, size_in, stacked, the_colour, top_colour, topped}
use Rattle.fit_rules.specs.Fits.{Program}
use Rattle.fit_rules.specs.Sound.{RoundPoint}
use Rattle.marked_code.specs.Marked.{leads_coloured, leads_storing, typed_op, typed_points}
use Rattle.fit_laws.proofs.Held.{none_held, plain_held}
use Rattle.fit_laws.proofs.Keeping.{are_first, are_others, get_other, get_set, set_mark}
use Rattle.sound_code.specs.Ways.{Way}
use Rattle.sound_code.proofs.Steady.{steady_below}
use Rattle.sound_code.specs.Named.{IsSteady, is_count, slot_at, Ready, loops_in}
use Rattle.fit_laws.proofs.Lookup.{as_long, value_at, set_at}
use Rattle.sound_code.proofs.Combining.{Marked, both, into, behind_kept, slot_high, storing}
use Rattle.sound_code.proofs.Narrowing.{narrow_into}
use Rattle.sound_code.proofs.Rounds.{va, co, be, head_mark, round_mark, long_be, long_head, long_round, limit_there, head_narrow}

-- a point of a domain: it is below the size, and what is taken of it has a shape
pub record HasPoint (V : Shape) (ptr : Bool) (d : Value) (i p : ℕ) : Type 0 where
  pub size : ℕ
  pub is : size_of d ≡ Some size
  pub low : i < size
  pub small : size ≤ 4194304
  pub fits : NumberIs V (taken ptr p)

-- What a loop goes over: what has the domain's shape has a size, and of its points something of a shape is taken, a number.
pub record IsDomain (D V : Shape) (ptr : Bool) : Type 0 where
  pub point : (x : World) (d : Value) (i p : ℕ) → Is x D d → point_at d i ≡ Some p → HasPoint V ptr d i p
  pub sized : (x : World) (d : Value) → Is x D d → (n : ℕ) × (size_of d ≡ Some n)
  pub plain : IsPlain D

-- ---- index spaces

space_point : (x : World) (d : Value) (i p : ℕ) → Is x space d → point_at d i ≡ Some p → HasPoint index false d i p
space_point x _ i p (is_number _ z h) e = absurd h
space_point x _ i p (is_space n h) e = of_test (nat_lt i n) refl e
  where
    of_test : (b : Bool) → nat_lt i n ≡ b → cond b (Some i) None ≡ Some p → HasPoint index false (value.Space n) i p
    of_test true q e =
        let same : p ≡ i = sym (same_Some i p e) in
        let low = ltb-true i n q in
        record { size = n; is = refl; low = low; small = h; fits = omega (arith, ints, low, same, h) }
    of_test false q e = absurd (none-some p e)

space_sized : (x : World) (d : Value) → Is x space d → (n : ℕ) × (size_of d ≡ Some n)
space_sized x _ (is_space n h) = (n, refl)
space_sized x _ (is_number _ z h) = absurd h

pub spaces : IsDomain space index false
spaces = record { point = space_point; sized = space_sized; plain = tt }

-- ---- regions

-- points rise, so that there are no more of them than the last one and one
as_many : (xs : List ℕ) → IsStrictlyIncreasing xs → (i : ℕ) → i < length xs → i ≤ get_or xs i 0
as_many xs up zero l = omega arith
as_many xs up (suc i) l =
    let more = as_many xs up i (omega (arith, l)) in
    let same : i + 1 ≡ suc i = omega arith in
    let next : get_or xs i 0 < get_or xs (suc i) 0 = subst (λ j. get_or xs i 0 < get_or xs j 0) same (up i (omega (arith, l))) in omega (arith, more, next)

few_points : (xs : List ℕ) → IsPoints 4194304 xs → length xs ≤ 4194304
few_points [] h = omega arith
few_points (y ∷ ys) h =
    let last = as_many (y ∷ ys) h.rising (length ys) (omega arith) in
    let low = h.below (length ys) 0 (omega arith) in omega (arith, last, low)

region_point : (sp : Option ℕ) (o : Origin) (x : World) (d : Value) (i p : ℕ) → Is x (region sp o) d → point_at d i ≡ Some p → HasPoint (pointer 1) true d i p
region_point sp o x _ i p (is_number _ z h) e = absurd h
region_point sp o x _ i p (is_region _ _ r h) e =
    let low = slice_get_within r.points i p e in
    let at : get_or r.points i 0 ≡ p = get_or_from_slice_get r.points i p 0 e in
    let under = h.set.below i 0 low in
    let small = few_points r.points h.set in
    record { size = length r.points; is = refl; low = low; small = small; fits = element_fits p (omega (arith, under, at)) }
  where
    element_fits : (p : ℕ) → p < 4194304 → NumberIs (pointer 1) (pos (2 ^ 32 + p))
    element_fits p l = (omega (arith, ints, l), omega (arith, l))

region_sized : (sp : Option ℕ) (o : Origin) (x : World) (d : Value) → Is x (region sp o) d → (n : ℕ) × (size_of d ≡ Some n)
region_sized sp o x _ (is_region _ _ r h) = (length r.points, refl)
region_sized sp o x _ (is_number _ z h) = absurd h

pub regions : (sp : Option ℕ) (o : Origin) → IsPlainOrigin o → IsDomain (region sp o) (pointer 1) true
regions sp o plain = record { point = region_point sp o; sized = region_sized sp o; plain = plain }

-- ---- loops

-- a counter of none is at most the points of a domain
none_yet : (D V : Shape) (ptr : Bool) → IsDomain D V ptr → (x : World) (d v : Value) (vs st : List Value) → Is x D d →
    HoldsTop (top_colour (the_colour (pos 0))) vs (v ∷ st) → AtMost (size_of d) (Some v)
none_yet D V ptr h x d v vs st i q = let n = h.sized x d i in subst (λ o. AtMost o (Some v)) (sym n.1) (of v q)
  where
    of : (v : Value) → HoldsTop (top_colour (the_colour (pos 0))) vs (v ∷ st) → AtMost (Some (h.sized x d i).0) (Some v)
    of (value.Number z) q = (0, q, omega arith)
    of (value.Space i) q = absurd q
    of (value.Region i) q = absurd q
    of (value.Partition i) q = absurd q
    of (value.Pending i) q = absurd q

module _ (g : Program) (t : TaskCode) (k : ℕ) (way : Way) (params : ℕ) (bs : List Bound) (m : Mark) (r : Ready way params bs m)
    (ep : params ≡ t.params) (hi : slot_at params (length bs) + 2 < length m.slots) (D V : Shape) (ptr : Bool) (dom : IsDomain D V ptr) where
  -- what is known of the counter and the domain, and what was known
  abbrev pub counting : List Fact
  counting = counts (slot_at params (length bs) + 1) (slot_at params (length bs) + 2) ∷ m.facts

  -- the slots of the variable, of its counter and of the domain
  abbrev v : ℕ
  v = va way params bs m r D index V counting

  abbrev c : ℕ
  c = co way params bs m r D index V counting

  abbrev d : ℕ
  d = be way params bs m r D index V counting

  -- the marks at the head and in the body
  abbrev pub head : Mark
  head = head_mark way params bs m r D index V counting

  abbrev pub round : Mark
  round = round_mark way params bs m r D index V counting

  pub are_counts : Each (IsSteady params (suc (length bs)) (loops_in way bs)) counting
  are_counts = (is_count (length bs) r.low (omega arith), steady_below params (length bs) (suc (length bs)) (loops_in way bs) (loops_in way bs) m.facts (omega arith) (λ c h. h) r.facts)

  rounds_on : RoundPoint g t d c v ptr (stacked head []) round
  rounds_on x vs st s u i p eu ei ep1 =
      let o = value_at x head.slots vs d D s.slots (limit_there way params bs m r D index V counting hi) in
      let h = dom.point x u i p (subst (Is x D) (same_Some _ _ (sym o.at ∙ eu)) o.of) ep1 in
      let high = slot_high params (length bs) r.low in
      let ws = slice_set vs v (value.Number (taken ptr p)) in
      let z = pos i +ℤ pos 1 in
      let long : length vs ≡ length m.slots = as_long x head.slots vs s.slots ∙ long_head way params bs m r D index V counting hi in
      let at_c : slice_get (slice_set ws c (value.Number z)) c ≡ Some (value.Number z) =
      get_set ws c _ (omega (arith, hi, long, length-set vs v (value.Number (taken ptr p)))) in
      let at_d : size_in (slice_get (slice_set ws c (value.Number z)) d) ≡ Some h.size =
      ap size_in (get_other ws c d _ (λ q. omega (arith, q)) ∙ get_other vs v d _ (λ q. omega (arith, q)) ∙ eu) ∙ h.is in
      record {
        slots = set_at x _ _ c index _ (set_at x head.slots vs v V _ s.slots (is_number V (taken ptr p) h.fits))
            (is_number index z (omega (arith, ints, h.low, h.small)));
        stack = none_held _ _ st s.stack;
        facts = (
          subst (λ y. AtMost y (slice_get (slice_set ws c (value.Number z)) c)) (sym at_d)
              (subst (λ y. AtMost (Some h.size) y) (sym at_c) (suc i, omega (arith, ints), omega (arith, h.low))),
          behind_kept way params bs m c r (omega arith) _ _ (behind_kept way params bs m v r (omega arith) vs _ s.facts.1),
        );
        top = tt;
        args = λ j q. ap region_in (get_other ws c j _ (λ e. omega (arith, e, q, high, ep))
            ∙ get_other vs v j _ (λ e. omega (arith, e, q, high, ep))) ∙ s.args j q;
      }

  -- the domain is stored, the counter begins with none, and the loop runs
  pub counted : (line : ℕ) (body : Piece) → Marked g t k round body (stacked head []) →
      Marked g t k (stacked m (D ∷ []))
      (op (instr.Store d) line ⨟ op (instr.Num (pos 0)) line ⨟ op (instr.Store c) line ⨟ rounds (instr.NextPoint d c v ptr) line body)
      (stacked m [])
  counted line body f =
      let high = slot_high params (length bs) r.low in
      let long = long_head way params bs m r D index V counting hi in
      let o = set_mark m d D [] in
      both g t k (storing g t k m d D D [] line (behind_kept way params bs m d r (omega arith)) (omega (arith, high, ep)) (omega (arith, r.fixed)) dom.plain hi (λ x y h. h))
      (both g t k (record {
        marks = _;
        is = typed_op o (topped o (index ∷ []) (top_colour (the_colour (pos 0)))) (instr.Num (pos 0)) line
            (leads_coloured o (pos 0) index (omega (arith, ints)));
      })
      (both g t k (record {
        marks = _;
        is = typed_op (topped o (index ∷ []) (top_colour (the_colour (pos 0)))) head (instr.Store c) line
            (leads_storing _ head c index [] refl (omega (arith, hi, long_be way params bs m r D index V counting hi)) begun
            (length-set o.slots c index));
      })
      (into g t k (record {
        marks = _;
        is = typed_points (stacked head []) round d c v ptr line body _ (inl refl) (omega (arith, hi, long)) rounds_on
            (long_round way params bs m r D index V counting hi ∙ sym long) f.is;
      }) (narrow_into t.params head m (head_narrow way params bs m r D index V counting hi) (λ vs h. h.1)) (sym long))))
    where
      begun : Stores t.params (topped (set_mark m d D []) (index ∷ []) (top_colour (the_colour (pos 0)))) c head
      begun x vs st y q =
          let o = set_mark m d D [] in
          let high = slot_high params (length bs) r.low in
          let u = value_at x o.slots vs d D q.slots (get_set m.slots d D hi) in
          let long : length vs ≡ length m.slots = as_long x o.slots vs q.slots ∙ length-set m.slots d D in
          record {
            slots = set_at x o.slots vs c index y q.slots (plain_held (around x m vs) x.held index y tt (are_first (around x m vs) index [] y st q.stack));
            stack = none_held _ _ st (are_others (around x m vs) index [] y st q.stack);
            facts = (
              subst (λ z. AtMost (size_in (slice_get (slice_set vs c y) d)) z) (sym (get_set vs c y (omega (arith, hi, long))))
                  (subst (λ z. AtMost z (Some y)) (sym (ap size_in (get_other vs c d y (λ e. omega (arith, e)) ∙ u.at)))
                  (none_yet D V ptr dom x u.value y vs st u.of q.top.0)),
              behind_kept way params bs m c r (omega arith) vs y q.facts,
            );
            top = tt;
            args = λ j h. ap region_in (get_other vs c j y (λ e. omega (arith, e, h, high, ep))) ∙ q.args j h;
          }
