-- The segment of the code, as the board sees it, keeps parts and runs renamed.
use Rattle.std.proofs.Common.{◌≡◌, ℕ, zero, suc, ℤ, pos, List, [], ◌∷◌, ◌++◌, Bool, true, false, cond, Option, Some, None, refl, sym, ap, ◌∙◌, map, option_map, ◌==◌, ◌&&◌, get_or}
use Rattle.std.specs.Prelude.{length, nat_lt, nat_le, replicate, slice_get, ◌-◌}
use Rattle.std.proofs.lemmas.List.{map-append, length-map}
use Rattle.lane_kernels.specs.declared.numbers.Mode.{Mode as FieldMode}
use Rattle.region_tree.specs.declared.piece.Part.{Part}
use Rattle.region_tree.specs.Pieces.{Held}
use Rattle.region_tree.specs.Requirements.{Requirement}
use Rattle.task_code.specs.declared.code.Code.{Code}
use Rattle.task_code.specs.declared.code.NeedCode.{NeedCode}
use Rattle.task_code.specs.declared.code.TaskCode.{TaskCode}
use Rattle.machine_terms.specs.declared.frame.Frame.{Frame}
use Rattle.machine_terms.specs.declared.outcome.After.{After}
use Rattle.machine_terms.specs.declared.outcome.CallOut.{CallOut}
use Rattle.machine_terms.specs.declared.outcome.Made.{Made}
use Rattle.machine_terms.specs.declared.outcome.Made.TheVariants as made
use Rattle.machine_terms.specs.declared.outcome.Yield.{Yield}
use Rattle.machine_terms.specs.declared.outcome.Yield.TheVariants as yield
use Rattle.machine_terms.specs.declared.value.RegionValue.{RegionValue}
use Rattle.machine_terms.specs.declared.value.Value.{Value}
use Rattle.machine_terms.specs.declared.value.Value.TheVariants as value
use Rattle.machine_terms.specs.Parts.{is_part_of}
use Rattle.machine_terms.specs.Segments.{segment}
use Rattle.board_rules.specs.Running.{Call, Element, Yield as BoardYield, ends, make, spots, calls}
use Rattle.board_rules.specs.Renaming.{after_to as board_after_to, calls_to, elements, yield_to as board_yield_to}
use Rattle.regent_boards.specs.Laws as laws
use Rattle.regent_boards.specs.RegentMachine.{base, kinds_of, regent_ground, regent_roots}
use Rattle.regent_boards.specs.RootRenaming.{IsOneToOne as OneToOne, region_to as board_region_to, renamed_frame, renamed_made, renamed_value, renaming, requirement_to, root_to as board_root_to}
use Rattle.regent_boards.specs.Frames as board
use Rattle.regent_boards.proofs.RootRenaming.{kind_to, own_roots_to, space_to, to_one}
use Rattle.segment_renaming.specs.Renaming.{Names, IsOneToOne, after_to, before_to, call_to, frame_to, made_to, need_to, part_to, region_to, root_to, value_to, yield_to}
use Rattle.code_boards.specs.Views.{after_out, and_all, before_in, board_segment, called, called_with, frame_in, frame_out, last_frame, made_out, need_in, needs_in, numbers_in_parts, onto_parts, opened_with, opening_with, part_with, parts_in, piece_with, mode_in, onto_pieces, spaces_of, refused, region_in, region_out, required, required_all, root_in, value_in, value_out, with_numbers, yield_out}
use Rattle.segment_renaming.proofs.Alike.{same_root}
use Rattle.segment_renaming.proofs.Segments.{segment_same}

-- ---- parts are kept

module _ (code : Code) where
  numbers_keep : (ps : List (Element (regent_ground (spaces_of code)))) (zs : List ℤ) →
      spots (regent_ground (spaces_of code)) (with_numbers code ps zs) ≡ spots (regent_ground (spaces_of code)) ps
  numbers_keep [] zs = refl
  numbers_keep (x ∷ ps) [] = refl
  numbers_keep (x ∷ ps) (z ∷ zs) = ap (λ ys. record { location = x.location; mode = x.mode } ∷ ys) (numbers_keep ps zs)

  pub board_keeps : (turns : ℕ) → laws.KeepsParts (spaces_of code) (board_segment code turns)
  board_keeps turns f ps = numbers_keep ps (numbers_in_parts code (segment (before_in code f ps)).parts)

-- ---- renamed

module _ (code : Code) (name : ℕ → ℕ) (one : OneToOne name) where
  abbrev names : Names
  names = record { root = board_root_to name; node = λ k. k }

  names_one : IsOneToOne names
  names_one a b e = to_one (spaces_of code) name one a b e

  regions_in_to : (rs : List board.Region) → map region_in (map (board_region_to name) rs) ≡ map (region_to names) (map region_in rs)
  regions_in_to [] = refl
  regions_in_to (r ∷ rs) = ap (λ xs. region_in (board_region_to name r) ∷ xs) (regions_in_to rs)

  value_in_to : (v : board.Value) → value_in (renamed_value name v) ≡ value_to names (value_in v)
  value_in_to (board.a_number z) = refl
  value_in_to (board.a_space k) = refl
  value_in_to (board.a_region r) = refl
  value_in_to (board.a_partition p) = ap (λ rs. value.Partition (record {
    root = record { 0 = board_root_to name p.root };
    disjoint = p.disjoint;
    children = rs;
  })) (regions_in_to p.children)
  value_in_to (board.pending i) = refl

  values_in_to : (vs : List board.Value) → map value_in (map (renamed_value name) vs) ≡ map (value_to names) (map value_in vs)
  values_in_to [] = refl
  values_in_to (v ∷ vs) = λ i. value_in_to v i ∷ values_in_to vs i

  needs_in_to : (rs : List Requirement) → needs_in (map (requirement_to name) rs) ≡ map (need_to names) (needs_in rs)
  needs_in_to [] = refl
  needs_in_to (r ∷ rs) = ap (λ ds. cond (nat_lt 0 (length r.points)) (need_to names (need_in r) ∷ ds) ds) (needs_in_to rs)
      ∙ choice (nat_lt 0 (length r.points))
    where
      choice : (b : Bool) → cond b (need_to names (need_in r) ∷ map (need_to names) (needs_in rs)) (map (need_to names) (needs_in rs))
          ≡ map (need_to names) (cond b (need_in r ∷ needs_in rs) (needs_in rs))
      choice true = refl
      choice false = refl

  roots_in_to : (rs : List ℕ) → map root_in (map (board_root_to name) rs) ≡ map (root_to names) (map root_in rs)
  roots_in_to [] = refl
  roots_in_to (r ∷ rs) = ap (λ ds. root_in (board_root_to name r) ∷ ds) (roots_in_to rs)

  frame_in_to : (f : board.Frame) → frame_in (renamed_frame name f) ≡ frame_to names (frame_in f)
  frame_in_to f = λ i. record {
    task = f.task;
    pc = f.pc;
    slots = values_in_to f.slots i;
    stack = values_in_to f.stack i;
    turns = f.turns;
    depth = f.depth;
    needs = record { items = needs_in_to f.needs i };
    own = roots_in_to f.own i;
    children = f.children;
    later = f.later;
  }

  -- ---- and back

  regions_out_to : (rs : List RegionValue) → map region_out (map (region_to names) rs) ≡ map (board_region_to name) (map region_out rs)
  regions_out_to [] = refl
  regions_out_to (r ∷ rs) = ap (λ xs. board_region_to name (region_out r) ∷ xs) (regions_out_to rs)

  value_out_to : (v : Value) → value_out (value_to names v) ≡ renamed_value name (value_out v)
  value_out_to (value.Number z) = refl
  value_out_to (value.Space k) = refl
  value_out_to (value.Region r) = refl
  value_out_to (value.Partition p) = ap (λ rs. board.a_partition (record {
    root = board_root_to name p.root.0;
    disjoint = p.disjoint;
    children = rs;
  })) (regions_out_to p.children)
  value_out_to (value.Pending i) = refl

  values_out_to : (vs : List Value) → map value_out (map (value_to names) vs) ≡ map (renamed_value name) (map value_out vs)
  values_out_to [] = refl
  values_out_to (v ∷ vs) = λ i. value_out_to v i ∷ values_out_to vs i

  frame_out_to : (g : board.Frame) (o : Option Frame) →
      last_frame (renamed_frame name g) (option_map (frame_to names) o) ≡ renamed_frame name (last_frame g o)
  frame_out_to g None = refl
  frame_out_to g (Some f) = λ i. record {
    task = g.task;
    pc = f.pc;
    slots = values_out_to f.slots i;
    stack = values_out_to f.stack i;
    turns = f.turns;
    depth = f.depth;
    needs = map (requirement_to name) g.needs;
    own = map (board_root_to name) g.own;
    makings = g.makings;
    children = f.children;
    later = f.later;
  }

  made_out_to : (d : Made) → made_out (made_to names d) ≡ renamed_made name (made_out d)
  made_out_to (made.Root size space) = refl
  made_out_to (made.Partition r sets disjoint) = refl

  -- ---- parts

  abbrev renamed_elems : List (Element (regent_ground (spaces_of code))) → List (Element (regent_ground (spaces_of code)))
  renamed_elems = elements base (regent_roots (spaces_of code)) (regent_roots (spaces_of code)) (renaming name (spaces_of code))

  part_with_to : (root field : ℕ) (hs : List Held) →
      part_with code (board_root_to name root) field hs ≡ part_to names (part_with code root field hs)
  part_with_to root field hs = λ i. record {
    root = record { 0 = board_root_to name root };
    field = field;
    kind = kind_to (spaces_of code) name one root field i;
    pieces = hs;
  }

  onto_to : (root field : ℕ) (m : FieldMode) (p : ℕ) (z : ℤ) (qs : List Part) →
      onto_parts code (board_root_to name root) field m p z (map (part_to names) qs)
      ≡ map (part_to names) (onto_parts code root field m p z qs)
  onto_to root field m p z [] = ap (λ q. q ∷ []) (part_with_to root field (piece_with code m p z ∷ []))
  onto_to root field m p z (q ∷ qs) =
      (λ i. cond (same_root names names_one q.root.0 root i && (q.field == field))
      (part_to names (longer q) ∷ map (part_to names) qs)
      (part_with_to root field (piece_with code m p z ∷ []) i ∷ part_to names q ∷ map (part_to names) qs))
      ∙ choice (is_part_of root field q)
    where
      longer : Part → Part
      longer x = record { root = x.root; field = x.field; kind = x.kind; pieces = onto_pieces code m p z x.pieces }

      choice : (b : Bool) →
          cond b (part_to names (longer q) ∷ map (part_to names) qs)
          (part_to names (part_with code root field (piece_with code m p z ∷ [])) ∷ part_to names q ∷ map (part_to names) qs)
          ≡ map (part_to names) (cond b (longer q ∷ qs) (part_with code root field (piece_with code m p z ∷ []) ∷ q ∷ qs))
      choice true = refl
      choice false = refl

  parts_in_to : (ps : List (Element (regent_ground (spaces_of code)))) →
      parts_in code (renamed_elems ps) ≡ map (part_to names) (parts_in code ps)
  parts_in_to [] = refl
  parts_in_to (x ∷ ps) =
      ap (onto_parts code (board_root_to name x.location.root) x.location.field (mode_in code x.mode) x.location.point x.number) (parts_in_to ps)
      ∙ onto_to x.location.root x.location.field (mode_in code x.mode) x.location.point x.number (parts_in code ps)

  numbers_to : (qs : List Part) → numbers_in_parts code (map (part_to names) qs) ≡ numbers_in_parts code qs
  numbers_to [] = refl
  numbers_to (q ∷ qs) = ap (λ zs. Rattle.code_boards.specs.Views.numbers_in_pieces code q.pieces ++ zs) (numbers_to qs)

  with_numbers_to : (ps : List (Element (regent_ground (spaces_of code)))) (zs : List ℤ) →
      with_numbers code (renamed_elems ps) zs ≡ renamed_elems (with_numbers code ps zs)
  with_numbers_to [] zs = refl
  with_numbers_to (x ∷ ps) [] = refl
  with_numbers_to (x ∷ ps) (z ∷ zs) = ap (λ ys. record {
    location = record { root = board_root_to name x.location.root; field = x.location.field; point = x.location.point };
    mode = x.mode;
    number = z;
  } ∷ ys) (with_numbers_to ps zs)

  -- ---- calls

  abbrev renamed_call : Call (regent_ground (spaces_of code)) → Call (regent_ground (spaces_of code))
  renamed_call x = record { may = x.may; needs = map (requirement_to name) x.needs; frame = renamed_frame name x.frame }

  abbrev renamed_calls : List (Call (regent_ground (spaces_of code))) → List (Call (regent_ground (spaces_of code)))
  renamed_calls = calls_to base (regent_roots (spaces_of code)) (regent_roots (spaces_of code)) (renaming name (spaces_of code))

  kinds_to : (root : ℕ) → kinds_of (spaces_of code) (board_root_to name root) ≡ kinds_of (spaces_of code) root
  kinds_to root = ap (λ s. get_or (spaces_of code) s []) (space_to (spaces_of code) name one root)

  required_to : (d : NeedCode) (v : board.Value) →
      required code d (renamed_value name v) ≡ option_map (requirement_to name) (required code d v)
  required_to d (board.a_number z) = refl
  required_to d (board.a_space k) = refl
  required_to d (board.a_region r) =
      ap (λ ks. cond (nat_lt d.field (length ks)) (Some (requirement_to name (wanted r))) None) (kinds_to r.root)
      ∙ choice (nat_lt d.field (length (kinds_of (spaces_of code) r.root)))
    where
      wanted : board.Region → Requirement
      wanted r = record { root = r.root; points = r.points; field = d.field; mode = d.mode }

      choice : (b : Bool) → cond b (Some (requirement_to name (wanted r))) None
          ≡ option_map (requirement_to name) (cond b (Some (wanted r)) None)
      choice true = refl
      choice false = refl
  required_to d (board.a_partition p) = refl
  required_to d (board.pending i) = refl

  argument_to : (vs : List board.Value) (i : ℕ) →
      get_or (map (renamed_value name) vs) i (board.a_number (pos 0)) ≡ renamed_value name (get_or vs i (board.a_number (pos 0)))
  argument_to [] i = refl
  argument_to (v ∷ vs) zero = refl
  argument_to (v ∷ vs) (suc i) = argument_to vs i

  both_to : (a : Option Requirement) (b : Option (List Requirement)) →
      and_all code (option_map (requirement_to name) a) (option_map (map (requirement_to name)) b)
      ≡ option_map (map (requirement_to name)) (and_all code a b)
  both_to (Some a) (Some b) = refl
  both_to (Some a) None = refl
  both_to None b = refl

  required_all_to : (ds : List NeedCode) (vs : List board.Value) →
      required_all code ds (map (renamed_value name) vs) ≡ option_map (map (requirement_to name)) (required_all code ds vs)
  required_all_to [] vs = refl
  required_all_to (d ∷ ds) vs =
      (λ i. and_all code ((ap (required code d) (argument_to vs d.param) ∙ required_to d (get_or vs d.param (board.a_number (pos 0)))) i) (required_all_to ds vs i))
      ∙ both_to (required code d (get_or vs d.param (board.a_number (pos 0)))) (required_all code ds vs)

  zeros_to : (k : ℕ) → map (renamed_value name) (replicate k (board.a_number (pos 0))) ≡ replicate k (board.a_number (pos 0))
  zeros_to zero = refl
  zeros_to (suc k) = ap (λ vs. board.a_number (pos 0) ∷ vs) (zeros_to k)

  slots_to : (k : ℕ) (vs : List board.Value) →
      map (renamed_value name) vs ++ replicate (k - length (map (renamed_value name) vs)) (board.a_number (pos 0))
      ≡ map (renamed_value name) (vs ++ replicate (k - length vs) (board.a_number (pos 0)))
  slots_to k vs =
      (λ i. map (renamed_value name) vs ++ replicate (k - length-map vs (renamed_value name) i) (board.a_number (pos 0)))
      ∙ (λ i. map (renamed_value name) vs ++ sym (zeros_to (k - length vs)) i)
      ∙ sym (map-append (renamed_value name) vs (replicate (k - length vs) (board.a_number (pos 0))))

  opening_to : (turns depth task slots : ℕ) (vs : List board.Value) (needs : List Requirement) →
      opening_with code turns depth task slots (map (renamed_value name) vs) (map (requirement_to name) needs)
      ≡ renamed_call (opening_with code turns depth task slots vs needs)
  opening_to turns depth task slots vs needs = λ i. record {
    may = true;
    needs = map (requirement_to name) needs;
    frame = record {
      task = task;
      pc = 0;
      slots = slots_to slots vs i;
      stack = [];
      turns = turns;
      depth = suc depth;
      needs = map (requirement_to name) needs;
      own = [];
      makings = [];
      children = 0;
      later = None;
    };
  }

  openings_to : (turns depth task slots : ℕ) (vs : List board.Value) (o : Option (List Requirement)) →
      opened_with code turns depth task slots (map (renamed_value name) vs) (option_map (map (requirement_to name)) o)
      ≡ renamed_call (opened_with code turns depth task slots vs o)
  openings_to turns depth task slots vs None = refl
  openings_to turns depth task slots vs (Some needs) = opening_to turns depth task slots vs needs

  called_with_to : (turns depth task : ℕ) (vs : List board.Value) (o : Option TaskCode) →
      called_with code turns depth task (map (renamed_value name) vs) o ≡ renamed_call (called_with code turns depth task vs o)
  called_with_to turns depth task vs None = refl
  called_with_to turns depth task vs (Some t) =
      (λ i. cond (nat_le (length-map vs (renamed_value name) i) t.slots)
      ((ap (opened_with code turns depth task t.slots (map (renamed_value name) vs)) (required_all_to t.needs vs)
      ∙ openings_to turns depth task t.slots vs (required_all code t.needs vs)) i) (refused code))
      ∙ choice (nat_le (length vs) t.slots) (opened_with code turns depth task t.slots vs (required_all code t.needs vs))
    where
      choice : (b : Bool) (x : Call (regent_ground (spaces_of code))) →
          cond b (renamed_call x) (refused code) ≡ renamed_call (cond b x (refused code))
      choice true x = refl
      choice false x = refl

  called_to : (turns depth : ℕ) (c : CallOut) →
      called code turns depth (call_to names c) ≡ renamed_call (called code turns depth c)
  called_to turns depth c =
      ap (λ vs. called_with code turns depth c.task vs (slice_get code.tasks c.task)) (values_out_to c.args)
      ∙ called_with_to turns depth c.task (map value_out c.args) (slice_get code.tasks c.task)

  called_all_to : (turns depth : ℕ) (cs : List CallOut) →
      map (called code turns depth) (map (call_to names) cs) ≡ renamed_calls (map (called code turns depth) cs)
  called_all_to turns depth [] = refl
  called_all_to turns depth (c ∷ cs) = λ i. called_to turns depth c i ∷ called_all_to turns depth cs i

  -- ---- what a segment gives

  abbrev renamed_yield : BoardYield (regent_ground (spaces_of code)) → BoardYield (regent_ground (spaces_of code))
  renamed_yield = board_yield_to base (regent_roots (spaces_of code)) (regent_roots (spaces_of code)) (renaming name (spaces_of code))

  yield_out_to : (turns : ℕ) (f : board.Frame) (y : Yield) →
      yield_out code turns (renamed_frame name f) (yield_to names y) ≡ renamed_yield (yield_out code turns f y)
  yield_out_to turns f (yield.Calls cs) = ap (λ xs. calls xs) (called_all_to turns f.depth cs)
  yield_out_to turns f (yield.Want r k) = refl
  yield_out_to turns f (yield.Await i) = refl
  yield_out_to turns f (yield.Make d) = ap (λ x. make x) (made_out_to d)
  yield_out_to turns f (yield.End v) =
      ap (λ (rs : List board.OwnRoot). ends (record { value = v; roots = rs })) (own_roots_to (spaces_of code) name one f.own f.makings)
  yield_out_to turns f (yield.Fault x) = refl
  yield_out_to turns f yield.MachineFault = refl

  after_out_to : (turns : ℕ) (f : board.Frame) (ps : List (Element (regent_ground (spaces_of code)))) (a : After) →
      after_out code turns (renamed_frame name f) (renamed_elems ps) (after_to names a)
      ≡ board_after_to base (regent_roots (spaces_of code)) (regent_roots (spaces_of code)) (renaming name (spaces_of code)) (after_out code turns f ps a)
  after_out_to turns f ps a = λ i. record {
    text = a.text;
    frame = frame_out_to f a.frame i;
    parts = (ap (with_numbers code (renamed_elems ps)) (numbers_to a.parts) ∙ with_numbers_to ps (numbers_in_parts code a.parts)) i;
    yields = yield_out_to turns f a.ends i;
  }

  before_in_to : (f : board.Frame) (ps : List (Element (regent_ground (spaces_of code)))) →
      before_in code (renamed_frame name f) (renamed_elems ps) ≡ before_to names (before_in code f ps)
  before_in_to f ps = λ i. record { code = code; frame = frame_in_to f i; parts = parts_in_to ps i }

  board_renamed : (turns : ℕ) (f : board.Frame) (ps : List (Element (regent_ground (spaces_of code)))) →
      board_segment code turns (renamed_frame name f) (renamed_elems ps)
      ≡ board_after_to base (regent_roots (spaces_of code)) (regent_roots (spaces_of code)) (renaming name (spaces_of code)) (board_segment code turns f ps)
  board_renamed turns f ps =
      ap (λ b. after_out code turns (renamed_frame name f) (renamed_elems ps) (segment b)) (before_in_to f ps)
      ∙ ap (after_out code turns (renamed_frame name f) (renamed_elems ps)) (segment_same names names_one (before_in code f ps))
      ∙ after_out_to turns f ps (segment (before_in code f ps))

pub board_runs_renamed : (code : Code) (turns : ℕ) → laws.RunsRenamed (spaces_of code) (board_segment code turns)
board_runs_renamed code turns name one f ps = board_renamed code name one turns f ps
