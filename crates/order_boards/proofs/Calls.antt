-- A call: the frame in which the child begins, and what it needs.
use Rattle.std.proofs.Common.{◌≡◌, ℕ, zero, suc, pos, List, [], ◌∷◌, ◌++◌, Bool, true, false, cond, Option, Some, None, refl, sym, ap, ◌∙◌, map, option_map, get_or}
use Rattle.std.specs.Prelude.{length, nat_lt, replicate, slice_get, ◌-◌}
use Rattle.std.proofs.lemmas.List.{length-map, map-append}
use Rattle.std.proofs.lemmas.Option.{same_Some, slice_get-map}
use Rattle.region_tree.specs.declared.needs.Need.{Need}
use Rattle.region_tree.specs.Requirements.{Requirement}
use Rattle.task_code.specs.declared.code.Code.{Code}
use Rattle.task_code.specs.declared.code.NeedCode.{NeedCode}
use Rattle.task_code.specs.declared.code.TaskCode.{TaskCode}
use Rattle.machine_terms.specs.declared.order.Contents.{Contents}
use Rattle.machine_terms.specs.declared.value.RegionValue.{RegionValue}
use Rattle.machine_terms.specs.declared.value.Value.{Value}
use Rattle.machine_terms.specs.declared.value.Value.TheVariants as value
use Rattle.machine_terms.specs.Contents.{image_of, kinds_of as root_kinds}
use Rattle.machine_terms.specs.Opening.{need_on, needs_on, opening, required_before, required_on, requirements_on, with_points}
use Rattle.machine_terms.specs.Pointers.{region_in as region_of}
use Rattle.board_rules.specs.Processes.{Map}
use Rattle.regent_boards.specs.Frames as board
use Rattle.regent_boards.specs.RegentMachine.{kinds_of, regent_ground, space_of}
use Rattle.regent_boards.proofs.NeedRenaming.{moved}
use Rattle.segment_renaming.specs.Renaming.{region_to, value_to}
use Rattle.code_boards.specs.Views.{and_all, frame_in, need_in, needs_in, opening_with, required, required_all, spaces_of, value_in, value_out}
use Rattle.order_boards.proofs.Frames.{some_less, values_seen}
use Rattle.order_boards.proofs.Needs.{pointed}
use Rattle.order_boards.proofs.Renumbering.{names}
use Rattle.order_boards.proofs.Stands.{IsLive, Naming, Stands, kinds_same, named_live, root_space}

-- ---- arguments

abbrev pub value_or : Option Value → board.Value
value_or None = board.a_number (pos 0)
value_or (Some v) = value_out v

argument : (vs : List Value) (k : ℕ) → get_or (map value_out vs) k (board.a_number (pos 0)) ≡ value_or (slice_get vs k)
argument [] k = refl
argument (v ∷ vs) zero = refl
argument (v ∷ vs) (suc k) = argument vs k

abbrev root_in_value : Option Value → ℕ
root_in_value (Some (value.Region r)) = r.root.0
root_in_value _ = 0

module _ (code : Code) (s : ℕ → ℕ) (args : List Value) where
  abbrev pub values : List Value
  values = map (value_to (names s)) args

  value_at : (k : ℕ) (o : Option Value) → slice_get args k ≡ o → slice_get values k ≡ option_map (value_to (names s)) o
  value_at k o e = slice_get-map (value_to (names s)) args k ∙ ap (option_map (value_to (names s))) e

  pub argument_at : (k : ℕ) (o : Option Value) → slice_get args k ≡ o → get_or (map value_out values) k (board.a_number (pos 0)) ≡ value_or (option_map (value_to (names s)) o)
  argument_at k o e = argument values k ∙ ap value_or (value_at k o e)

  -- ---- the frame

  need_seen : (d : NeedCode) (o : Option Value) (q : Requirement) → required code d (value_or (option_map (value_to (names s)) o)) ≡ Some q → (rest : List Need) →
      cond (nat_lt 0 (length q.points)) (need_in q ∷ rest) rest ≡ need_on d (region_of (option_map (value_to (names s)) o)) rest
  need_seen d None q e rest = absurd cc
  need_seen d (Some (value.Number z)) q e rest = absurd cc
  need_seen d (Some (value.Space k)) q e rest = absurd cc
  need_seen d (Some (value.Partition p)) q e rest = absurd cc
  need_seen d (Some (value.Pending i)) q e rest = absurd cc
  need_seen d (Some (value.Region r)) q e rest =
      ap (λ (x : Requirement). cond (nat_lt 0 (length x.points)) (need_in x ∷ rest) rest)
      (sym (chosen (nat_lt d.field (length (kinds_of (spaces_of code) (s r.root.0)))) e)) ∙ by_points r.points
    where
      need : Requirement
      need = record { root = s r.root.0; points = r.points; field = d.field; mode = d.mode }

      chosen : (b : Bool) → cond b (Some need) None ≡ Some q → need ≡ q
      chosen true h = same_Some need q h
      chosen false h = absurd cc

      by_points : (xs : List ℕ) → cond (nat_lt 0 (length xs)) (need_in need ∷ rest) rest ≡ with_points xs (need_in need) rest
      by_points [] = refl
      by_points (x ∷ xs) = ap (λ b. cond b (need_in need ∷ rest) rest) (some_less (length xs))

  needs_seen : (ds : List NeedCode) (rs : List Requirement) → required_all code ds (map value_out values) ≡ Some rs → needs_in rs ≡ needs_on ds values
  needs_seen [] rs e = ap needs_in (sym (same_Some [] rs e))
  needs_seen (d ∷ ds) rs e = both (required code d (get_or (map value_out values) d.param (board.a_number (pos 0))))
      (required_all code ds (map value_out values)) refl refl e (needs_seen ds)
    where
      both : (a : Option Requirement) (b : Option (List Requirement)) →
          required code d (get_or (map value_out values) d.param (board.a_number (pos 0))) ≡ a → required_all code ds (map value_out values) ≡ b →
          and_all code a b ≡ Some rs → ((qs : List Requirement) → required_all code ds (map value_out values) ≡ Some qs → needs_in qs ≡ needs_on ds values) →
          needs_in rs ≡ needs_on (d ∷ ds) values
      both None b x y h more = absurd cc
      both (Some q) None x y h more = absurd cc
      both (Some q) (Some qs) x y h more =
          ap needs_in (sym (same_Some (q ∷ qs) rs h))
          ∙ need_seen d (slice_get args d.param) q
          (ap (λ v. required code d (value_or v)) (sym (value_at d.param _ refl)) ∙ ap (required code d) (sym (argument values d.param)) ∙ x) (needs_in qs)
          ∙ (λ i. need_on d (region_of (sym (value_at d.param _ refl) i)) (more qs y i))

  zeros_seen : (k : ℕ) → map value_in (replicate k (board.a_number (pos 0))) ≡ replicate k (value.Number (pos 0))
  zeros_seen zero = refl
  zeros_seen (suc k) = ap (λ vs. value.Number (pos 0) ∷ vs) (zeros_seen k)

  pub opening_seen : (turns depth task : ℕ) (t : TaskCode) (needs : List Requirement) → required_all code t.needs (map value_out values) ≡ Some needs →
      frame_in (opening_with code turns depth task t.slots (map value_out values) needs).frame ≡ opening turns (suc depth) task t values
  opening_seen turns depth task t needs e = λ i. record {
    task = task;
    pc = 0;
    slots = (map-append value_in (map value_out values) (replicate (t.slots - length (map value_out values)) (board.a_number (pos 0)))
        ∙ (λ j. values_seen s args j ++ zeros_seen (t.slots - length (map value_out values)) j)
        ∙ ap (λ k. values ++ replicate (t.slots - k) (value.Number (pos 0))) (length-map values value_out)) i;
    stack = [];
    turns = turns;
    depth = suc depth;
    needs = record { items = needs_seen t.needs needs e i };
    own = [];
    children = 0;
    later = None;
  }

  pub as_many_values : length (map value_out values) ≡ length args
  as_many_values = length-map values value_out ∙ length-map args (value_to (names s))

module _ (code : Code) (c : Contents) (who : ℕ → ℕ) (n : ℕ) (m : Map (regent_ground (spaces_of code))) (st : Stands code who n c m)
    (s : ℕ → ℕ) (is : Naming code c who s) (args : List Value)
    (same : (t : ℕ → ℕ) → Naming code c who t → map (value_to (names t)) args ≡ map (value_to (names s)) args) where
  -- a region among the arguments is of a root that is there
  argument_live : (k : ℕ) (r : RegionValue) → slice_get args k ≡ Some (value.Region r) → IsLive c r.root.0
  argument_live k r e = named_live code who n c m st r.root.0 (s r.root.0) (λ t names_of. ap root_in_value (
      sym (slice_get-map (value_to (names t)) args k ∙ ap (option_map (value_to (names t))) e)
      ∙ ap (λ vs. slice_get vs k) (same t names_of) ∙ value_at code s args k (Some (value.Region r)) e))

  -- ---- what is needed of the arguments

  required_region : (d : NeedCode) (r : RegionValue) → IsLive c r.root.0 →
      required code d (value_out (value.Region (region_to (names s) r))) ≡ option_map (moved s) (required_on code c d (Some r))
  required_region d r l =
      ap (λ ks. cond (nat_lt d.field (length ks)) (Some (moved s need)) None)
      (ap (λ R. get_or (spaces_of code) (space_of R) []) (is.live r.root.0 l)
      ∙ ap (λ k. get_or (spaces_of code) k []) (root_space (image_of c r.root.0).space (image_of c r.root.0).count (who r.root.0))
      ∙ kinds_same code (image_of c r.root.0).space)
      ∙ chosen (nat_lt d.field (length (root_kinds code (image_of c r.root.0).space)))
    where
      need : Requirement
      need = record { root = r.root.0; points = r.points; field = d.field; mode = d.mode }

      chosen : (b : Bool) → cond b (Some (moved s need)) None ≡ option_map (moved s) (cond b (Some need) None)
      chosen true = refl
      chosen false = refl

  required_same : (d : NeedCode) → required code d (get_or (map value_out (values code s args)) d.param (board.a_number (pos 0)))
      ≡ option_map (moved s) (required_on code c d (region_of (slice_get args d.param)))
  required_same d = ap (required code d) (argument_at code s args d.param (slice_get args d.param) refl) ∙ by_value (slice_get args d.param) refl
    where
      by_value : (o : Option Value) → slice_get args d.param ≡ o →
          required code d (value_or (option_map (value_to (names s)) o)) ≡ option_map (moved s) (required_on code c d (region_of o))
      by_value None e = refl
      by_value (Some (value.Number z)) e = refl
      by_value (Some (value.Space k)) e = refl
      by_value (Some (value.Partition p)) e = refl
      by_value (Some (value.Pending i)) e = refl
      by_value (Some (value.Region r)) e = required_region d r (argument_live d.param r e)

  more_points : (q : Requirement) (xs : List ℕ) (rs : List Requirement) → with_points xs (moved s q) (map (moved s) rs) ≡ map (moved s) (with_points xs q rs)
  more_points q [] rs = refl
  more_points q (x ∷ xs) rs = refl

  both_same : (a : Option Requirement) (b : Option (List Requirement)) (e : Option (List Requirement)) → option_map pointed b ≡ option_map (map (moved s)) e →
      option_map pointed (and_all code (option_map (moved s) a) b) ≡ option_map (map (moved s)) (required_before a e)
  both_same None b e h = refl
  both_same (Some q) None None h = refl
  both_same (Some q) (Some rs) None h = absurd cc
  both_same (Some q) None (Some ss) h = absurd cc
  both_same (Some q) (Some rs) (Some ss) h =
      ap (λ ts. Some (with_points q.points (moved s q) ts)) (same_Some _ _ h) ∙ ap (λ ts. Some ts) (more_points q q.points ss)

  pub requirements_same : (ds : List NeedCode) →
      option_map pointed (required_all code ds (map value_out (values code s args))) ≡ option_map (map (moved s)) (requirements_on code c ds args)
  requirements_same [] = refl
  requirements_same (d ∷ ds) =
      ap (λ a. option_map pointed (and_all code a (required_all code ds (map value_out (values code s args))))) (required_same d)
      ∙ both_same (required_on code c d (region_of (slice_get args d.param))) (required_all code ds (map value_out (values code s args))) (requirements_on code c ds args)
      (requirements_same ds)
