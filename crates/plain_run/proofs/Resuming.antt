-- What follows for a holder of parts, beside what follows for its instance.
use Rattle.std.proofs.Common.{◌≡◌, ◌<◌, ◌-◌, ◌++◌, ℕ, ℤ, pos, Bool, true, false, cond, List, [], ◌∷◌, Option, Some, None, refl, sym, ap, subst, ◌∙◌, append-nil, get_or, inl, length}
use Rattle.std.proofs.lemmas.List.Elements.{All-nil}
use Rattle.plain_values.specs.Points.{points}
use Rattle.region_tree.specs.declared.tree.RootId.{RootId}
use Rattle.regent_tree.specs.Store.{new_root}
use Rattle.task_code.specs.declared.code.Code.{Code}
use Rattle.machine_terms.specs.declared.frame.Frame.{Frame}
use Rattle.machine_terms.specs.declared.order.Contents.{Contents}
use Rattle.machine_terms.specs.declared.order.Ended.{Ended}
use Rattle.machine_terms.specs.declared.order.Ended.TheVariants.{Broke, CameBack}
use Rattle.machine_terms.specs.declared.order.Instance.{Instance}
use Rattle.machine_terms.specs.declared.order.Resumed.{Resumed}
use Rattle.machine_terms.specs.declared.order.Resumed.TheVariants as resumed
use Rattle.machine_terms.specs.declared.outcome.After.{After}
use Rattle.machine_terms.specs.declared.outcome.CallOut.{CallOut}
use Rattle.machine_terms.specs.declared.outcome.Made.{Made}
use Rattle.machine_terms.specs.declared.outcome.Made.TheVariants as made
use Rattle.machine_terms.specs.declared.outcome.Yield.{Yield}
use Rattle.machine_terms.specs.declared.outcome.Yield.TheVariants as yield
use Rattle.machine_terms.specs.declared.value.Value.TheVariants as value
use Rattle.machine_terms.specs.Contents.{kinds_of, with_root}
use Rattle.machine_terms.specs.Copies.{give_parts}
use Rattle.machine_terms.specs.Makes.{fields_needed, is_sound, make_partition, region_with, root_needs, root_requirements}
use Rattle.machine_terms.specs.Orders.{Runner, before_of, breaks, call_all, conclude, fetch_part, give_all, make, resume_after, run_segments, with_parts}
use Rattle.machine_terms.specs.Segments.{segment}
use Rattle.plain_store.specs.declared.holder.Holder.{Holder}
use Rattle.plain_run.specs.Nexts.{FrameLeft, HasRun, resumed_as}
use Rattle.plain_store.specs.declared.loan.Loan.{Loan}
use Rattle.plain_store.specs.Loans.{AreLent, Follows, GoesOnAs, Stands, whole}
use Rattle.segment_regions.proofs.Pendings.{segments_ask_no_other}
use Rattle.plain_run.specs.Answers.{KeptAnswers, LetGo, Serves, await_answer, resume_after_by, resume_by, resume_in_by, with_numbers, with_results}
use Rattle.plain_run.specs.declared.answers.Answer.{Answer}
use Rattle.plain_run.proofs.Answered.{serves_fewer, serves_more, serves_still}
use Rattle.plain_run.proofs.Calling.{segment_last, segment_next}
use Rattle.plain_run.proofs.Serving.{AsksNoMore, after, asks_behind, behind, follows_behind}
use Rattle.plain_store.proofs.Lending.{kept_made, made_beside}

-- ---- a segment tells how an instance ended by the roots of its frame alone

conclude_with_roots : (y : Yield) (i : Instance) (f : Frame) → f.own ≡ i.frame.own →
    conclude y (record i { frame = f }) ≡ conclude y i
conclude_with_roots (yield.End v) i f e =
    ap (λ (own : List RootId). CameBack v own (give_parts i.parts i.contents) i.text) e
conclude_with_roots (yield.Calls cs) i f e = refl
conclude_with_roots (yield.Want r g) i f e = refl
conclude_with_roots (yield.Await n) i f e = refl
conclude_with_roots (yield.Make m) i f e = refl
conclude_with_roots (yield.Fault k) i f e = refl
conclude_with_roots yield.MachineFault i f e = refl

-- ---- what follows

-- what follows with these loans
abbrev Goes : List Loan → Resumed → Resumed → Type 0
Goes ls (resumed.GoesOn i) r = GoesOnAs (record { instance = i; loans = ls }) r
Goes ls (resumed.IsOver e) r = r ≡ resumed.IsOver e

as_follows : (over : Option Ended) (i : Instance) (ls : List Loan) (r : Resumed) →
    Goes ls (resumed_as over i) r →
    Follows over (record { instance = i; loans = ls }) r
as_follows None i ls r f = f
as_follows (Some e) i ls r f = f

nothing_lent : (over : Option Ended) (i : Instance) →
    Follows over (record { instance = i; loans = [] }) (resumed_as over i)
nothing_lent None i = record { contents = i.contents; instance = refl; stands = refl }
nothing_lent (Some e) i = refl

made_follows : (ls : List Loan) (code : Code) (m : Made) (i : Instance) (c : Contents) →
    AreLent ls c i.contents → Goes ls (make code m i) (make code m (record i { contents = c }))
made_follows ls code (made.Root size space) i c h =
    let image = new_root space size (kinds_of code space) in
    let fields = fields_needed code size space in record {
      contents = with_root image c;
      instance = ap (λ (root : ℕ). resumed.GoesOn (record i {
        frame = record i.frame {
          stack = value.Region (region_with root (points size)) ∷ i.frame.stack;
          needs = record { items = i.frame.needs.items ++ root_needs root fields };
          own = i.frame.own ++ record { 0 = root } ∷ [];
        };
        contents = with_root image c;
        needs = i.needs ++ root_requirements root (points size) fields;
      })) (sym (kept_made ls c i.contents h));
      stands = made_beside ls c i.contents image h;
    }
made_follows ls code (made.Partition r sets disjoint) i c h = go (is_sound r.points sets disjoint)
  where
    go : (b : Bool) →
        Goes ls (cond b (resumed.GoesOn (make_partition r sets disjoint i)) (breaks i))
        (cond b (resumed.GoesOn (make_partition r sets disjoint (record i { contents = c })))
        (breaks (record i { contents = c })))
    go true = record { contents = c; instance = refl; stands = h }
    go false = refl

-- ---- segment after segment

-- a holder and answers from which an instance, with the values of all its children, ends so within so many segments
pub record RunsOn (code : Code) (turns : ℕ) (child : Runner) (left : ℕ) (now : Holder) (answers : KeptAnswers) (total : Ended) : Type 0 where
  pub contents : Contents
  pub results : List ℤ
  pub stands : Stands contents now
  pub serves : Serves answers now.instance.frame results
  pub ends : run_segments code turns child left (after results (whole contents now)) ≡ total

module _ (code : Code) (turns : ℕ) (child : Runner) where
  abbrev stopped : Holder → After
  stopped h = segment (before_of code h.instance)

  -- what follows by the answers
  abbrev by_answers : List Answer → Contents → Holder → Resumed
  by_answers kept c h = resume_after_by kept code turns child (stopped h) (whole c h)

  -- with the values of children that came back last put to those that are kept
  abbrev emptied : Holder → Holder
  emptied h = record h { instance = with_results [] h.instance }

  all_follow : (answers : KeptAnswers) (rs : List ℤ) (c : Contents) (h : Holder) →
      h.instance.results ≡ [] →
      Serves answers h.instance.frame rs →
      resume_after code turns child (stopped h) (after rs (whole c h)) ≡ behind rs (by_answers answers.kept c h)
  all_follow answers rs c h none serves =
      follows_behind code turns child answers.kept rs (stopped h) (whole c h) (λ f e n had.
      serves.told n (segments_ask_no_other (before_of code h.instance) f n e (inl (inl had)))
      ∙ ap (λ (zs : List ℤ). get_or zs n (pos 0)) (sym (ap (λ (zs : List ℤ). rs ++ zs) none ∙ append-nil rs)))

  keeps : (left : ℕ) (now : Holder) (answers more : KeptAnswers) (total : Ended) →
      RunsOn code turns child left now answers total →
      LetGo (with_numbers now.instance.results answers) more now.instance.frame →
      RunsOn code turns child left (emptied now) more total
  keeps left now answers more total r let_go =
      let rs = r.results in
      let zs = now.instance.results in record {
        contents = r.contents;
        results = rs ++ zs;
        stands = r.stands;
        serves = serves_still (with_numbers zs answers) more now.instance.frame (rs ++ zs) let_go
            (serves_more answers now.instance.frame rs zs r.serves);
        ends = ap (λ (ys : List ℤ). run_segments code turns child left (with_results ys (whole r.contents now)))
            (append-nil (rs ++ zs)) ∙ r.ends;
      }

  steps : (left : ℕ) (now next : Holder) (answers : KeptAnswers) (total : Ended) → 0 < left →
      now.instance.results ≡ [] →
      (r : RunsOn code turns child left now answers total) →
      GoesOnAs next (by_answers answers.kept r.contents now) →
      RunsOn code turns child (left - 1) next answers total
  steps left now next answers total l none r f =
      let rs = r.results in
      let to : resume_after code turns child (stopped now) (after rs (whole r.contents now)) ≡ behind rs (resumed.GoesOn (whole f.contents next)) =
      all_follow answers rs r.contents now none r.serves ∙ ap (behind rs) f.instance in
      let asks : AsksNoMore now.instance.frame (resumed.GoesOn (whole f.contents next)) =
      subst (AsksNoMore now.instance.frame) f.instance
      (asks_behind code turns child answers.kept (stopped now) (whole r.contents now) now.instance.frame
      (λ g e n may. segments_ask_no_other (before_of code now.instance) g n e may)) in record {
        contents = f.contents;
        results = rs;
        stands = f.stands;
        serves = serves_fewer answers now.instance.frame next.instance.frame rs asks r.serves;
        ends = segment_next code turns child left (after rs (whole r.contents now)) (after rs (whole f.contents next)) total l (sym to) r.ends;
      }

  module _ (left : ℕ) (now kept next : Holder) (answers more : KeptAnswers) (total : Ended) (l : 0 < left)
      (r : RunsOn code turns child left now answers total) (is : kept ≡ emptied now)
      (let_go : LetGo (with_numbers now.instance.results answers) more now.instance.frame) where
    ready : RunsOn code turns child left kept more total
    ready = subst (λ (h : Holder). RunsOn code turns child left h more total) (sym is) (keeps left now answers more total r let_go)

    none : kept.instance.results ≡ []
    none = ap (λ (h : Holder). h.instance.results) is

    -- behind a segment that isn't the last
    pub holder_next : ((c : Contents) → Stands c kept → Follows None next (by_answers more.kept c kept)) →
        RunsOn code turns child (left - 1) next more total
    holder_next f = steps left kept next more total l none ready (f ready.contents ready.stands)

    -- and behind the last
    pub holder_last : (over : Ended) →
        ((c : Contents) → Stands c kept → Follows (Some over) next (by_answers more.kept c kept)) →
        over ≡ total
    holder_last over f =
        segment_last code turns child left (after ready.results (whole ready.contents kept)) over total l
        (sym (all_follow more ready.results ready.contents kept none ready.serves
        ∙ ap (behind ready.results) (f ready.contents ready.stands))) ready.ends

  -- before the first segment
  pub holder_first : (left : ℕ) (h : Holder) (answers : KeptAnswers) → h.loans ≡ [] →
      answers ≡ record { kept = []; count = 0 } →
      RunsOn code turns child left h answers (run_segments code turns child left h.instance)
  holder_first left h answers no_loans no_answers = record {
    contents = h.instance.contents;
    results = [];
    stands = subst (λ (ls : List Loan). AreLent ls h.instance.contents h.instance.contents) (sym no_loans) refl;
    serves = subst (λ (a : KeptAnswers). Serves a h.instance.frame []) (sym no_answers)
        (record { count = refl; below = All-nil (λ (x : Answer). x.child < 0); told = λ n may. refl });
    ends = refl;
  }

  -- where no segment is left
  pub holder_out : (left : ℕ) (now : Holder) (answers : KeptAnswers) (total : Ended) → left ≡ 0 →
      RunsOn code turns child left now answers total → Broke None now.instance.text ≡ total
  holder_out left now answers total none r =
      ap (λ (n : ℕ). run_segments code turns child n (after r.results (whole r.contents now))) (sym none) ∙ r.ends

-- ---- what an instance waits for

module _ (kept : List Answer) (code : Code) (turns : ℕ) (child : Runner) (k : Contents) (h : Holder) (y : Yield) where
  abbrev for_it : Yield → Resumed
  for_it z = resume_by kept code turns child z (whole k h)

  pub calls_follow : (calls : List CallOut) (given : Holder) (i : Instance) (over : Option Ended) →
      y ≡ yield.Calls calls → given.loans ≡ [] → given.instance ≡ give_all (whole k h) →
      resumed_as over i ≡ call_all code turns child calls given.instance →
      Follows over (record given { instance = i }) (for_it y)
  calls_follow calls given i over is no_loans all made =
      subst (λ (ls : List Loan). Follows over (record { instance = i; loans = ls }) (for_it y)) (sym no_loans)
      (subst (λ (r : Resumed). Follows over (record { instance = i; loans = [] }) r)
      (made ∙ ap (call_all code turns child calls) all ∙ ap for_it (sym is)) (nothing_lent over i))

  pub want_follows : (root : RootId) (field : ℕ) (after : Holder) → y ≡ yield.Want root field →
      Stands k after × (whole k after ≡ fetch_part code root.0 field (whole k h)) →
      Follows None after (for_it y)
  want_follows root field after is f = record {
    contents = k;
    instance = ap for_it is ∙ ap resumed.GoesOn (sym f.1);
    stands = f.0;
  }

  pub await_follows : (n : ℕ) (i : Instance) → Stands k h → y ≡ yield.Await n →
      i ≡ await_answer kept n h.instance →
      Follows None (record h { instance = i }) (for_it y)
  await_follows n i st is made =
      subst (λ (j : Instance). Follows None (record h { instance = j }) (for_it y)) (sym made)
      (record { contents = k; instance = ap for_it is; stands = st })

  pub make_follows : (m : Made) (over : Option Ended) (i : Instance) → Stands k h →
      y ≡ yield.Make m →
      resumed_as over i ≡ make code m h.instance →
      Follows over (record h { instance = i }) (for_it y)
  make_follows m over i st is made = as_follows over i h.loans (for_it y)
      (subst (λ (r : Resumed). Goes h.loans r (for_it y)) (sym made)
      (subst (λ (r : Resumed). Goes h.loans (make code m h.instance) r) (ap for_it (sym is))
      (made_follows h.loans code m h.instance k st)))

-- ---- behind a segment

module _ (kept : List Answer) (code : Code) (turns : ℕ) (child : Runner) (k : Contents) (h rest : Holder) (a : After)
    (goes_on : Bool) (ends : Yield) (ran : HasRun a goes_on ends h.instance rest.instance) (loans : rest.loans ≡ h.loans) where
  same_contents : rest.instance.contents ≡ h.instance.contents
  same_contents = ap (λ (i : Instance). i.contents) ran.rest

  stands_still : Stands k h → Stands k rest
  stands_still st = subst (λ (ls : List Loan). AreLent ls k rest.instance.contents) (sym loans)
      (subst (λ (c : Contents). AreLent h.loans k c) (sym same_contents) st)

  -- the instance with what the segment left
  abbrev left : Instance
  left = record (with_parts a (whole k h)) { frame = rest.instance.frame }

  same : whole k rest ≡ left
  same = ap (λ (i : Instance). record i { contents = k }) ran.rest

  by_frame : (o : Option Frame) → FrameLeft o goes_on h.instance.frame rest.instance.frame →
      goes_on ≡ true →
      resume_by kept code turns child a.ends left ≡ resume_in_by kept code turns child o a.ends (with_parts a (whole k h))
  by_frame (Some f) was is = ap (λ (g : Frame). resume_by kept code turns child a.ends (record (with_parts a (whole k h)) { frame = g })) was.1
  by_frame None was is = absurd (let q : true ≡ false = sym is ∙ was.0 in cc)

  by_roots : (o : Option Frame) → FrameLeft o goes_on h.instance.frame rest.instance.frame →
      goes_on ≡ false →
      resumed.IsOver (conclude a.ends left) ≡ resume_in_by kept code turns child o a.ends (with_parts a (whole k h))
  by_roots (Some f) was is = absurd (let q : true ≡ false = sym was.0 ∙ is in cc)
  by_roots None was is = ap resumed.IsOver (conclude_with_roots a.ends (with_parts a (whole k h)) rest.instance.frame was.1)

  pub goes_on_behind : (over : Option Ended) (next : Holder) → goes_on ≡ true → Stands k h →
      ((c : Contents) → Stands c rest → Follows over next (resume_by kept code turns child ends (whole c rest))) →
      Follows over next (resume_after_by kept code turns child a (whole k h))
  goes_on_behind over next is st f = subst (λ (r : Resumed). Follows over next r)
      (ap (λ (y : Yield). resume_by kept code turns child y (whole k rest)) ran.stops
      ∙ ap (resume_by kept code turns child a.ends) same
      ∙ by_frame a.frame ran.frame is) (f k (stands_still st))

  pub ends_behind : (over : Ended) (next : Holder) → goes_on ≡ false → Stands k h →
      ((c : Contents) → Stands c rest → over ≡ conclude ends (whole c rest)) →
      Follows (Some over) next (resume_after_by kept code turns child a (whole k h))
  ends_behind over next is st f = sym (ap resumed.IsOver (f k (stands_still st)
      ∙ ap (λ (y : Yield). conclude y (whole k rest)) ran.stops
      ∙ ap (conclude a.ends) same) ∙ by_roots a.frame ran.frame is)
