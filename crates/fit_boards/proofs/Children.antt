-- Operations that are called: each begins in a frame that fits, and gives its caller what is of its task's result type.
use Rattle.std.proofs.Common.{◌≡◌, ⊎_elim, ℕ, zero, suc, ◌<◌, ◌≤◌, ◌^◌, ◌+◌, pos, List, [], ◌∷◌, ◌++◌, Bool, true, false, ◌&&◌, cond, Some, None, Option, refl, sym, ap, ◌∙◌, subst, arith, length, map, append-nil, append_assoc, eqb-true}
use Rattle.std.specs.Prelude.{get_or, nat_le, slice_get, take, ◌==◌}
use Rattle.std.proofs.lemmas.Bool.{cases_eq, eqb-false}
use Rattle.std.proofs.lemmas.List.{get_or-append-add, length-append}
use Rattle.std.proofs.lemmas.Option.{same_Some}
use Rattle.plain_values.specs.Points.{counted_from}
use Rattle.region_tree.specs.Needs.{requirement_of, requirements_of}
use Rattle.region_tree.specs.Trees.{RegionTree}
use Rattle.region_tree.specs.declared.needs.Need.{Need}
use Rattle.region_tree.specs.declared.tree.OpNumber.{OpNumber}
use Rattle.dependence_graph.specs.Knots.{number}
use Rattle.task_code.specs.declared.code.NeedCode.{NeedCode}
use Rattle.task_code.specs.declared.code.TaskCode.{TaskCode}
use Rattle.machine_terms.specs.declared.frame.Frame.{Frame}
use Rattle.machine_terms.specs.declared.outcome.CallOut.{CallOut}
use Rattle.machine_terms.specs.declared.value.RegionValue.{RegionValue}
use Rattle.machine_terms.specs.declared.value.Value.{Value}
use Rattle.machine_terms.specs.Opening.{need_on, needs_on, opening, with_points}
use Rattle.machine_terms.specs.Pointers.{region_in}
use Rattle.board_terms.specs.declared.operation.Operation.{Operation}
use Rattle.board_terms.specs.Calls.{are_declared, first_opens, frames_before, needs_within, opening_of, opens}
use Rattle.board_terms.specs.States.{State, called_by, no_operation, operation_at}
use Rattle.fit_rules.specs.Shapes.{Each, NumberIs, Shape, World}
use Rattle.fit_rules.specs.Fits.{claim_on, claims, declared_claims, Fits, Program, requires}
use Rattle.fit_rules.specs.Ends.{called, CallsWell, grown, grown_by, opening_machine}
use Rattle.fit_laws.proofs.Calls.{claims_grown}
use Rattle.fit_boards.specs.Fitting.{ChildGives, Gives, Going, IsRootOf, OperationFits}
use Rattle.fit_boards.specs.Steps.{ArePlaced}

-- ---- what a task needs on placed arguments

pub needs_placed : (t : RegionTree) (args : List Value) → ArePlaced t args → (ns : List NeedCode) →
    Each (λ (n : Need). n.node.0 < length t.nodes) (needs_on ns args) × (requirements_of t (needs_on ns args) ≡ declared_claims ns args)
needs_placed t args placed [] = (tt, refl)
needs_placed t args placed (n ∷ ns) = of (region_in (slice_get args n.param)) refl (needs_placed t args placed ns)
  where
    of : (o : Option RegionValue) → region_in (slice_get args n.param) ≡ o →
        Each (λ (m : Need). m.node.0 < length t.nodes) (needs_on ns args) × (requirements_of t (needs_on ns args) ≡ declared_claims ns args) →
        Each (λ (m : Need). m.node.0 < length t.nodes) (need_on n o (needs_on ns args)) × (requirements_of t (need_on n o (needs_on ns args)) ≡ claim_on n o (declared_claims ns args))
    of None e more = more
    of (Some r) e more = by_points r.points
      where
        one : requirement_of t (record { root = r.root; node = r.node; field = n.field; mode = n.mode }) ≡ requires r.root.0 r.points n.mode n.field
        one = ap (λ ps. requires r.root.0 ps n.mode n.field) (placed n.param r e).1

        by_points : (xs : List ℕ) →
            Each (λ (m : Need). m.node.0 < length t.nodes) (with_points xs (record { root = r.root; node = r.node; field = n.field; mode = n.mode }) (needs_on ns args))
            × (requirements_of t (with_points xs (record { root = r.root; node = r.node; field = n.field; mode = n.mode }) (needs_on ns args))
            ≡ with_points xs (requires r.root.0 r.points n.mode n.field) (declared_claims ns args))
        by_points [] = more
        by_points (x ∷ xs) = (((placed n.param r e).0, more.0), λ i. one i ∷ more.1 i)

-- ---- the frames in which calls begin

-- frames are those in which the tasks of the first calls begin
abbrev pub AreOpened : Program → ℕ → ℕ → List Frame → List CallOut → Type 0
AreOpened g turns depth [] cs = Unit {0}
AreOpened g turns depth (f ∷ fs) [] = ⊥
AreOpened g turns depth (f ∷ fs) (c ∷ cs) =
    ((t : TaskCode) × (slice_get g.code.tasks c.task ≡ Some t) × (f ≡ opening turns depth c.task t c.args)) × AreOpened g turns depth fs cs

pub frames_opened : (g : Program) (turns : ℕ) (s : State) (o : Operation) (cs : List CallOut) → AreOpened g turns (suc o.frame.depth) (frames_before g.code turns s o cs) cs
frames_opened g turns s o [] = tt
frames_opened g turns s o (c ∷ cs) = of (slice_get g.code.tasks c.task) refl (frames_opened g turns s o cs)
  where
    by_test : (t : TaskCode) → slice_get g.code.tasks c.task ≡ Some t → (b : Bool) → AreOpened g turns (suc o.frame.depth) (frames_before g.code turns s o cs) cs →
        AreOpened g turns (suc o.frame.depth) (first_opens (cond b (Some (opening_of g.code turns o c t)) None) (frames_before g.code turns s o cs)) (c ∷ cs)
    by_test t e false more = tt
    by_test t e true more = ((t, e, refl), more)

    of : (q : Option TaskCode) → slice_get g.code.tasks c.task ≡ q → AreOpened g turns (suc o.frame.depth) (frames_before g.code turns s o cs) cs →
        AreOpened g turns (suc o.frame.depth) (first_opens (opens g.code turns s o c q) (frames_before g.code turns s o cs)) (c ∷ cs)
    of None e more = tt
    of (Some t) e more = by_test t e (nat_le (length c.args) t.slots && (are_declared s t.needs c.args && needs_within s (opening_of g.code turns o c t) o)) more

-- ---- the calls by which they are issued

-- those of the first frames are, from a number on
abbrev pub AreIssued : List CallOut → ℕ → List Frame → List CallOut → Type 0
AreIssued log first [] cs = Unit {0}
AreIssued log first (f ∷ fs) [] = ⊥
AreIssued log first (f ∷ fs) (c ∷ cs) = (slice_get log first ≡ Some c) × AreIssued log (suc first) fs cs

pub are_issued : (g : Program) (turns depth : ℕ) (log : List CallOut) (fs : List Frame) (cs : List CallOut) → AreOpened g turns depth fs cs →
    AreIssued (log ++ take (length fs) cs) (length log) fs cs
are_issued g turns depth log [] cs o = tt
are_issued g turns depth log (f ∷ fs) [] o = absurd o
are_issued g turns depth log (f ∷ fs) (c ∷ cs) o =
    let rest = take (length fs) cs in
    let more : length (log ++ c ∷ []) ≡ suc (length log) = (let l = length-append log (c ∷ []) in omega (arith, l)) in (
      seam log rest,
      subst (λ n. AreIssued (log ++ c ∷ rest) n fs cs) more
          (subst (λ l. AreIssued l (length (log ++ c ∷ [])) fs cs) (append_assoc log (c ∷ []) rest) (are_issued g turns depth (log ++ c ∷ []) fs cs o.1)),
    )
  where
    seam : (log rest : List CallOut) → slice_get (log ++ c ∷ rest) (length log) ≡ Some c
    seam [] rest = refl
    seam (d ∷ log) rest = seam log rest

-- as many as frames are opened
pub many_issued : (g : Program) (turns depth : ℕ) (fs : List Frame) (cs : List CallOut) → AreOpened g turns depth fs cs → length (take (length fs) cs) ≡ length fs
many_issued g turns depth [] cs o = refl
many_issued g turns depth (f ∷ fs) [] o = absurd o
many_issued g turns depth (f ∷ fs) (c ∷ cs) o = ap suc (many_issued g turns depth fs cs o.1)

-- ---- rows that come behind all

module _ (u : State) (k : ℕ) where
  abbrev pub RowsAre : ℕ → List Frame → Type 0
  RowsAre first [] = Unit {0}
  RowsAre first (f ∷ fs) = (first < length u.operations) × (operation_at u first ≡ called_by (number k) f) × RowsAre (suc first) fs

  pub rows_are : (os : List Operation) (fs : List Frame) → u.operations ≡ os ++ map (called_by (number k)) fs → RowsAre (length os) fs
  rows_are os [] e = tt
  rows_are os (f ∷ fs) e =
      let new = called_by (number k) f in
      let long = ap length e ∙ length-append os (map (called_by (number k)) (f ∷ fs)) in
      let last : length os ≡ length os + 0 = omega arith in
      let more : length (os ++ new ∷ []) ≡ suc (length os) = (let l = length-append os (new ∷ []) in omega (arith, l)) in (
        omega (arith, long),
        ap (λ xs. get_or xs (length os) no_operation) e ∙ ap (λ n. get_or (os ++ new ∷ map (called_by (number k)) fs) n no_operation) last
            ∙ get_or-append-add os (new ∷ map (called_by (number k)) fs) 0 no_operation,
        subst (λ n. RowsAre n fs) more (rows_are (os ++ new ∷ []) fs (e ∙ sym (append_assoc os (new ∷ []) (map (called_by (number k)) fs)))),
      )

  module _ (g : Program) (zeros : (n : ℕ) → NumberIs (g.results n) (pos 0)) (turns depth : ℕ) (few : turns < 2 ^ 64) where
    -- ---- each of them fits

    module _ (log : List CallOut) (x : World) (t : TaskCode) (known : (r : ℕ) → x.there r ≡ true → IsRootOf u.roots x r) where
      child_going : (j : ℕ) (c : CallOut) (callee : TaskCode) → slice_get log j ≡ Some c → CallsWell g x t c → ArePlaced u.tree c.args →
          slice_get g.code.tasks c.task ≡ Some callee → Going g log u j (called_by (number k) (opening turns depth c.task callee c.args))
      child_going j c callee issued w placed there =
          let needs = needs_placed u.tree c.args placed callee.needs in record {
            world = called x c.args;
            task = callee;
            there = there;
            call = c;
            issued = issued;
            named = refl;
            args = refl;
            roots = known;
            nodes = needs.0;
            required = needs.1 ∙ sym (append-nil (declared_claims callee.needs c.args));
            once = tt;
            count = refl;
            results = λ n l. absurd (omega (arith, l));
            waits = subst (λ (y : TaskCode). Fits g (called x c.args) y c.task (opening_machine turns depth c.task y c.args)) (same_Some w.callee callee (sym w.there ∙ there))
                (w.opens turns depth few);
            does = tt;
          }

      pub children_fit : (first : ℕ) (fs : List Frame) (cs : List CallOut) → AreOpened g turns depth fs cs → AreIssued log first fs cs → Each (CallsWell g x t) cs →
          Each (λ (c : CallOut). ArePlaced u.tree c.args) cs → RowsAre first fs → (j : ℕ) → first ≤ j → j < first + length fs → OperationFits g log u j (operation_at u j)
      children_fit first [] cs o i w p r j l m = absurd (omega (arith, l, m))
      children_fit first (f ∷ fs) [] o i w p r j l m = absurd o
      children_fit first (f ∷ fs) (c ∷ cs) o i w p r j l m = ⊎_elim
          (λ e. subst (λ n. OperationFits g log u n (operation_at u n)) (sym e)
          (subst (λ (q : Operation). OperationFits g log u first q) (sym r.1)
          (subst (λ (n : Frame). Going g log u first (called_by (number k) n)) (sym o.0.2) (child_going first c o.0.0 i.0 w.0 p.0 o.0.1))))
          (λ n. children_fit (suc first) fs cs o.1 i.1 w.1 p.1 r.2 j (omega (arith, l, n)) (omega (arith, m)))
          (cases_eq j first)

    -- ---- what they give

    -- a caller's children are as many as its world says, and give what is of its shapes
    abbrev pub HasChildren : List CallOut → World → List OpNumber → Type 0
    HasChildren log x ks = (length ks ≡ x.children) × ((n : ℕ) → n < x.children → ChildGives g log u (x.results n) (slice_get ks n))

    slice_front : (ks : List OpNumber) (c : OpNumber) (n : ℕ) → n < length ks → slice_get (ks ++ c ∷ []) n ≡ slice_get ks n
    slice_front [] c n l = absurd (omega (arith, l))
    slice_front (x ∷ ks) c zero l = refl
    slice_front (x ∷ ks) c (suc n) l = slice_front ks c n (omega (arith, l))

    slice_last : (ks : List OpNumber) (c : OpNumber) → slice_get (ks ++ c ∷ []) (length ks) ≡ Some c
    slice_last [] c = refl
    slice_last (x ∷ ks) c = slice_last ks c

    one_more : (log : List CallOut) (x : World) (ks : List OpNumber) (sh : Shape) (c : OpNumber) → HasChildren log x ks → ChildGives g log u sh (Some c) → HasChildren log (grown x sh) (ks ++ c ∷ [])
    one_more log x ks sh c h gives = (
      (let l = length-append ks (c ∷ []) in omega (arith, l, h.0)),
      λ n l. of n (n == x.children) refl l,
    )
      where
        of : (n : ℕ) (b : Bool) → n == x.children ≡ b → n < suc x.children → ChildGives g log u (cond b sh (x.results n)) (slice_get (ks ++ c ∷ []) n)
        of n true e l = subst (ChildGives g log u sh) (sym (ap (slice_get (ks ++ c ∷ [])) (eqb-true n x.children e ∙ sym h.0) ∙ slice_last ks c)) gives
        of n false e l =
            let low : n < x.children = (let d = eqb-false n x.children e in omega (arith, l, d)) in
            subst (ChildGives g log u (x.results n)) (sym (slice_front ks c n (omega (arith, low, h.0)))) (h.1 n low)

    pub all_more : (log : List CallOut) (first : ℕ) (fs : List Frame) (cs : List CallOut) → length fs ≡ length cs → AreOpened g turns depth fs cs → AreIssued log first fs cs →
        RowsAre first fs → (x : World) (ks : List OpNumber) → HasChildren log x ks → HasChildren log (grown_by g x cs) (ks ++ map number (counted_from first (length fs)))
    all_more log first [] [] e o i r x ks h = subst (HasChildren log x) (sym (append-nil ks)) h
    all_more log first [] (c ∷ cs) e o i r x ks h = absurd (omega (arith, e))
    all_more log first (f ∷ fs) [] e o i r x ks h = absurd o
    all_more log first (f ∷ fs) (c ∷ cs) e o i r x ks h =
        let sh = g.results c.task in
        subst (HasChildren log (grown_by g x (c ∷ cs))) (append_assoc ks (number first ∷ []) (map number (counted_from (suc first) (length fs))))
        (all_more log (suc first) fs cs (omega (arith, e)) o.1 i.1 r.2 (grown x sh) (ks ++ number first ∷ [])
        (one_more log x ks sh (number first) h
        (r.0, subst (λ (q : Operation). Gives g sh q) (sym r.1) (zeros c.task, ap (λ (n : Frame). g.results n.task) (sym o.0.2)), (c, i.0, refl))))

-- ---- the caller's world

-- the roots that are there stay
pub known_by : (g : Program) (P : (ℕ → Bool) → (ℕ → ℕ) → (ℕ → List ℕ) → List Value → Type 0) (cs : List CallOut) (x : World) → P x.there x.spaces x.points x.args →
    P (grown_by g x cs).there (grown_by g x cs).spaces (grown_by g x cs).points (grown_by g x cs).args
known_by g P [] x h = h
known_by g P (c ∷ cs) x h = known_by g P cs (grown x (g.results c.task)) h

pub claims_by : (g : Program) (t : TaskCode) (cs : List CallOut) (x : World) → claims g (grown_by g x cs) t ≡ claims g x t
claims_by g t [] x = refl
claims_by g t (c ∷ cs) x = claims_by g t cs (grown x (g.results c.task)) ∙ claims_grown g x (g.results c.task) t
