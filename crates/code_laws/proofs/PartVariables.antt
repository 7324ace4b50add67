-- A variable that begins with an expression, also as a part of a partition that has a name, of a written type or not: its code
-- does what it means.
use Rattle.std.proofs.Common.{◌≡◌, ◌⊎◌, ℕ, suc, ◌≤◌, List, Option, None, Some, [], ⊎_elim, refl, sym, ap, ◌∙◌, subst}
use Rattle.std.specs.Prelude.{length}
use Rattle.std.proofs.lemmas.Option.{same_Some}
use Rattle.regent_tree.specs.Accesses.{converted, regions_reached, space_in}
use Rattle.regent_tree.specs.Evaluation.{value}
use Rattle.regent_tree.specs.Execution.{after_statement, bind, exec}
use Rattle.regent_tree.specs.Initializers.{initial_value}
use Rattle.regent_tree.specs.Running.{Here, State}
use Rattle.regent_tree.specs.Scopes.{bound_as, bound_to}
use Rattle.regent_tree.specs.StaticTypes.{Reach}
use Rattle.regent_tree.specs.Syntax.{Expression, Name, access_expr, at_step, no_step, plain_initializer, var_form}
use Rattle.regent_tree.specs.Typing.{owned, parent_of, reaches_of, var_type, colour_of, initializer_type}
use Rattle.regent_tree.specs.Values.{Region, Value, a_region, region_of}
use Rattle.regent_tree.specs.declared.facts.Term.{Term}
use Rattle.regent_tree.specs.declared.facts.Term.TheVariants as term
use Rattle.regent_tree.specs.declared.types.Kind.{Kind}
use Rattle.regent_tree.specs.declared.types.TypeTerm.{TypeTerm}
use Rattle.regent_tree.specs.declared.typing.Bound.{Bound}
use Rattle.regent_tree.specs.declared.typing.StaticType.{StaticType}
use Rattle.regent_tree.specs.declared.typing.StaticType.TheVariants.{Region as region_type}
use Rattle.task_code.specs.declared.instr.Instr.TheVariants as instr
use Rattle.machine_terms.specs.declared.order.Instance.{Instance}
use Rattle.code_rules.specs.Expressions.{expr_code}
use Rattle.code_rules.specs.Initializers.{initializer_code, new_place, plain_code, written_code}
use Rattle.code_rules.specs.Pieces.{empty, op, past, ◌⨟◌}
use Rattle.code_rules.specs.Slots.{slot, typed}
use Rattle.code_rules.specs.Statements.{begun_form, form_code}
use Rattle.code_laws.specs.Pointers.{BeginsWith, IsLike, IsPointed, like_region}
use Rattle.code_laws.specs.Standing.{Agrees, Aside, Comes, Does, IsInside, IsOf, IsUnder, IsUnderName, LiesIn, SlotsFit, Stands, of_region, where_of}
use Rattle.code_laws.specs.Steps.{Setting, Taking, placed}
use Rattle.code_laws.specs.Taking.{BeginsWithin, IsHad, IsSubregion, BeginsAt}
use Rattle.code_laws.specs.Typed.{BeginsAsPart, CountsDown, IsIndexed, IsKeepable, IsTyped, IsTypedForm, IsDifference}
use Rattle.code_laws.proofs.Began.{part_had}
use Rattle.code_laws.proofs.Besides.{HasNoPart, no_part_goes}
use Rattle.code_laws.proofs.Differences.{difference_begins, difference_said}
use Rattle.code_laws.proofs.Domains.{part_is}
use Rattle.code_laws.proofs.Expressions.{value_runs}
use Rattle.code_laws.proofs.Good.{valued}
use Rattle.code_laws.proofs.Parts.{GoodPart, IsColoured, cut_of, parent_inside, part_at_colour, part_lies_in, part_runs, part_within}
use Rattle.code_laws.proofs.PointerForms.{begins_run, declares_run}
use Rattle.code_laws.proofs.Reaching.{region_had, region_lies_in}
use Rattle.code_laws.proofs.Rows.{does_said}
use Rattle.code_laws.proofs.Runs.{comes_said, leads_none, then}
use Rattle.code_laws.proofs.Variables.{binds}
use Rattle.code_laws.proofs.Wider.{begun, keepable, beginning, said_either}
use Rattle.code_laws.specs.Coloured.{IsPartOf}
use Rattle.regent_tree.specs.declared.facts.Colour.{Colour}
use Rattle.code_laws.proofs.Pieced.{bound_there}
use Rattle.code_laws.proofs.SeenColours.{colour_written}

abbrev number_in : Term → ℕ
number_in (term.Name i) = i
number_in (term.Child p c) = 0

-- a type like a region's is one of the same field space and term
like_region_said : (u : StaticType) (k : Kind) (sp : ℕ) (args : List Reach) (r : Term) → IsLike u (region_type k sp args r) →
    (j : Kind) × (brgs : List Reach) × (u ≡ region_type j sp brgs r)
like_region_said _ _ _ _ _ (like_region j k sp args brgs r) = (j, args, refl)

-- a new region that began as a part lies within the region of which the partition is
begun_under : (takes : Option Taking) (bs : List Bound) (names : List Value) (k : Kind) (sp : ℕ) (args : List Reach) (own r p : ℕ) (c : Colour) (d : Region) →
    BeginsWithin takes own r → BeginsAt takes own p c → IsUnderName bs names r d → IsPartOf bs names p c d →
    IsUnder takes bs names (region_type k sp args (term.Name own)) (a_region d)
begun_under None bs names k sp args own r p c d begins at under part = tt
begun_under (Some y) bs names k sp args own r p c d begins at under part = (
  λ i u q region named behind above is.
      subst (λ u. IsUnderName bs names u q) (same_Some r u (sym begins.1 ∙ ap y.above (ap number_in named) ∙ above))
      (subst (IsUnderName bs names r) (ap region_of is) under),
  λ i k q region named behind piece is.
      subst (λ (k : ℕ × Colour). IsPartOf bs names k.0 k.1 q) (same_Some (p, c) k (sym at ∙ ap y.piece (ap number_in named) ∙ piece))
      (subst (IsPartOf bs names p c) (ap region_of is) part),
)

module _ (x : Setting) (params slots : ℕ) (fit : SlotsFit x slots) (counts : CountsDown) where
  -- what is known of a part that stands on the stack
  record IsPiece (h : Here) (own r p : ℕ) (k : Colour) (sp : ℕ) (s : State) (d : Region) : Type 0 where
    lies : LiesIn x.code s.store sp d
    had : IsHad x (term.Name own) d
    under : IsUnderName h.scope.names s.names r d
    part : IsPartOf h.scope.names s.names p k d

  piece : (aside : Aside 0) (h : Here) (q : Name) (e : Expression) (v : Value) (s : State) (j : Instance) →
      (part : BeginsAsPart x.forms.takes (where_of params h) (access_expr q (at_step e no_step)) (IsIndexed x.forms (where_of params h) (access_expr q (at_step e no_step)))) →
      (c : IsColoured h q e v s.names) → Agrees x params slots aside h s j →
      IsPiece h h.scope.next (parent_of (bound_to h.scope.names q).static_type) (bound_to h.scope.names q).number (colour_of h.scope e)
      (space_in (bound_as h.scope.names (parent_of (bound_to h.scope.names q).static_type)).static_type) s (part_at_colour c.partition c.colour)
  piece aside h q e v s j part c g =
      let r = parent_of (bound_to h.scope.names q).static_type in
      let t = (bound_as h.scope.names r).static_type in
      let is = cut_of x params slots fit aside h s j q c.partition part.0.0 c.has_it g in
      let d = part_at_colour c.partition c.colour in
      let inside = parent_inside x params slots fit aside h s j r c.partition is g in
      let sub : IsSubregion d is.parent =
      (is.root, λ root point m. (sym is.root ∙ m.0, part_within is.parent.points c.partition.sets c.colour point is.sets c.low m.1)) in
      record {
        lies = part_lies_in x.code s.store (space_in t) is.parent c.partition c.colour is.root is.sets c.low
            (region_lies_in x s.store t is.parent is.is.region inside);
        had = part_had x x.forms.takes h.scope.next r d is.parent part.2 sub
            (subst (λ u. IsHad x u is.parent) part.1 (region_had x s.store t is.parent is.is.region inside));
        under = record { whole = is.parent; is = is.is; named = part.1; within = sub };
        part = record {
          cut = bound_to h.scope.names q;
          there = bound_there h.scope.names q part.0.0.named;
          number = refl;
          partition = c.partition;
          has_it = c.has_it;
          colour = c.colour;
          is_colour = colour_written h e s.names c.colour c.seen;
          is = refl;
        };
      }

  -- the part is left on the stack
  piece_comes : (aside : Aside 0) (h : Here) (q : Name) (e : Expression) (s : State) (pc : ℕ) (i : Instance) → params ≤ length h.scope.names →
      BeginsAsPart x.forms.takes (where_of params h) (access_expr q (at_step e no_step)) (IsIndexed x.forms (where_of params h) (access_expr q (at_step e no_step))) →
      Agrees x params slots aside h s i → Stands x.body pc (expr_code (where_of params h) 0 (access_expr q (at_step e no_step))) →
      Comes x (placed pc [] i) (valued (past (expr_code (where_of params h) 0 (access_expr q (at_step e no_step))) pc) [])
      (GoodPart x params slots fit aside h q e) (value h (access_expr q (at_step e no_step)) s)
  piece_comes aside h q e s pc i low part g f = part_runs x params slots fit aside h 0 q e s pc [] i part.0.0
      (λ pc st. value_runs x params slots fit aside h 0 low e s pc [] i part.0.3.0 g st) part.0.3.1 g f

  -- and kept by a name of a region's type, which is its own
  piece_kept : (aside : Aside 0) (h : Here) (n q : Name) (e : Expression) (said : Option TypeTerm) (s : State) (pc : ℕ) (i : Instance) → params ≤ length h.scope.names →
      (part : BeginsAsPart x.forms.takes (where_of params h) (access_expr q (at_step e no_step)) (IsIndexed x.forms (where_of params h) (access_expr q (at_step e no_step)))) →
      (j : Kind) (args : List Reach) →
      var_type h.tree h.scope said (Some (plain_initializer (access_expr q (at_step e no_step))))
      ≡ region_type j (part_is (where_of params h) q e part.0.1 part.0.2).space args (term.Name h.scope.next) →
      initializer_code (where_of params h) said (var_type h.tree h.scope said (Some (plain_initializer (access_expr q (at_step e no_step)))))
      (Some (plain_initializer (access_expr q (at_step e no_step)))) ≡ expr_code (where_of params h) 0 (access_expr q (at_step e no_step)) ⨟ empty →
      (Stands x.body pc (expr_code (where_of params h) 0 (access_expr q (at_step e no_step))) →
      Comes x (placed pc [] i) (valued (past (expr_code (where_of params h) 0 (access_expr q (at_step e no_step))) pc) []) (GoodPart x params slots fit aside h q e)
      (initial_value h said (var_type h.tree h.scope said (Some (plain_initializer (access_expr q (at_step e no_step)))))
      (Some (plain_initializer (access_expr q (at_step e no_step)))) s)) →
      Stands x.body pc (form_code (where_of params h) (var_form n said (Some (plain_initializer (access_expr q (at_step e no_step)))))) →
      Does x params slots aside (placed pc [] i) (past (form_code (where_of params h) (var_form n said (Some (plain_initializer (access_expr q (at_step e no_step)))))) pc)
      (after_statement h (var_form n said (Some (plain_initializer (access_expr q (at_step e no_step))))))
      (exec h (var_form n said (Some (plain_initializer (access_expr q (at_step e no_step))))) s)
  piece_kept aside h n q e said s pc i low part t args type code comes f =
      let w = where_of params h in
      let y = access_expr q (at_step e no_step) in
      let start = Some (plain_initializer y) in
      let form = var_form n said start in
      let u = var_type h.tree h.scope said start in
      let r = parent_of (bound_to h.scope.names q).static_type in
      let kind = part_is w q e part.0.1 part.0.2 in
      let k = slot w (new_place w) in
      let a = past (expr_code w 0 y) pc in
      let there : past (initializer_code w said u start) pc ≡ a = ap (λ c. past c pc) code in
      let f1 = subst (Stands x.body pc) code f.0 in
      let f2 : Stands x.body a (op (instr.Store k) h.line) = subst (λ p. Stands x.body p (op (instr.Store k) h.line)) there f.1 in
      subst (λ p. Does x params slots aside (placed pc [] i) (suc p) (after_statement h form) (exec h form s)) (sym there)
      (then x (does_said x params slots fit counts aside (suc a) (after_statement h form)) (valued a []) (GoodPart x params slots fit aside h q e) _
      (initial_value h said u start s) (λ v. bind v) (comes f1.0)
      (λ v s1 j k1.
      let d = part_at_colour k1.0.partition k1.0.colour in
      let p = piece aside h q e v s1 j part k1.0 k1.1 in
      subst (λ v. Does x params slots aside (valued a [] v j) (suc a) (after_statement h form) (bind v s1)) (sym k1.0.is)
      (binds x params slots fit counts aside h n said start (a_region d) s1 a j low (subst (λ u. IsOf u (a_region d)) (sym type) (of_region _ _ _ _ d))
      (subst (λ u. IsInside x s1.store u (a_region d)) (sym type) (subst (λ sp. LiesIn x.code s1.store sp d) (sym kind.of_space) p.lies, p.had))
      (subst (λ u. IsPointed h.scope.names s1.names u (a_region d)) (sym type) tt)
      (subst (λ u. IsUnder x.forms.takes h.scope.names s1.names u (a_region d)) (sym type)
      (begun_under x.forms.takes h.scope.names s1.names t kind.space args h.scope.next r (bound_to h.scope.names q).number (colour_of h.scope e) d part.2 part.3 p.under p.part))
      (no_part_goes _ j.contents (length s1.store) u (a_region d) (subst HasNoPart (sym type) (λ p c e. absurd cc))) k1.1 f2)))

  -- `var n = q[e]`
  pub piece_begins : (aside : Aside 0) (h : Here) (n : Name) (e : Expression) (s : State) (pc : ℕ) (i : Instance) → params ≤ length h.scope.names →
      BeginsAsPart x.forms.takes (where_of params h) e (IsIndexed x.forms (where_of params h) e) → Agrees x params slots aside h s i →
      Stands x.body pc (begun_form (where_of params h) None (Some (plain_initializer e))) →
      Does x params slots aside (placed pc [] i) (past (begun_form (where_of params h) None (Some (plain_initializer e))) pc)
      (after_statement h (var_form n None (Some (plain_initializer e)))) (exec h (var_form n None (Some (plain_initializer e))) s)
  piece_begins aside h n (access_expr q (at_step e no_step)) s pc i low part g f =
      let w = where_of params h in
      let y = access_expr q (at_step e no_step) in
      let kind = part_is w q e part.0.1 part.0.2 in
      piece_kept aside h n q e None s pc i low part kind.kind kind.args (ap (owned h.scope.next) kind.is)
      (ap (λ u. plain_code w (owned h.scope.next u) y) kind.is) (piece_comes aside h q e s pc i low part g) f
  piece_begins aside h n _ s pc i low part g f = absurd part

  -- so where its type is written, which is like that of the part
  piece_said : (aside : Aside 0) (h : Here) (n : Name) (t : TypeTerm) (e : Expression) (s : State) (pc : ℕ) (i : Instance) → params ≤ length h.scope.names →
      BeginsAsPart x.forms.takes (where_of params h) e (IsIndexed x.forms (where_of params h) e) →
      IsLike (var_type h.tree h.scope (Some t) (Some (plain_initializer e))) (initializer_type h.tree h.scope h.scope.next (plain_initializer e)) →
      Agrees x params slots aside h s i → Stands x.body pc (begun_form (where_of params h) (Some t) (Some (plain_initializer e))) →
      Does x params slots aside (placed pc [] i) (past (begun_form (where_of params h) (Some t) (Some (plain_initializer e))) pc)
      (after_statement h (var_form n (Some t) (Some (plain_initializer e)))) (exec h (var_form n (Some t) (Some (plain_initializer e))) s)
  piece_said aside h n t (access_expr q (at_step e no_step)) s pc i low part like g f =
      let w = where_of params h in
      let y = access_expr q (at_step e no_step) in
      let u = var_type h.tree h.scope (Some t) (Some (plain_initializer y)) in
      let a = past (expr_code w 0 y) pc in
      let kind = part_is w q e part.0.1 part.0.2 in
      let said = like_region_said u kind.kind kind.space kind.args (term.Name h.scope.next) (subst (IsLike u) (ap (owned h.scope.next) kind.is) like) in
      piece_kept aside h n q e (Some t) s pc i low part said.0 said.1 said.2 (ap (λ v. written_code w v y) said.2)
      (λ f1. then x (comes_said x (valued a []) (GoodPart x params slots fit aside h q e)) (valued a []) (GoodPart x params slots fit aside h q e) _ (value h y s) _
      (piece_comes aside h q e s pc i low part g f1)
      (λ v s1 j k. subst (λ z. Comes x (valued a [] v j) (valued a []) (GoodPart x params slots fit aside h q e)
      (converted h (typed w y) z (regions_reached h.scope s1.names (reaches_of z)) v s1)) (sym said.2) (j, leads_none x _, k))) f
  piece_said aside h n t _ s pc i low part like g f = absurd part

  -- `var n = e`, of whatever e gives
  pub plain_begins : (aside : Aside 0) (h : Here) (n : Name) (e : Expression) (s : State) (pc : ℕ) (i : Instance) → params ≤ length h.scope.names →
      IsTypedForm x.forms (where_of params h) (var_form n None (Some (plain_initializer e))) → Agrees x params slots aside h s i →
      Stands x.body pc (begun_form (where_of params h) None (Some (plain_initializer e))) →
      Does x params slots aside (placed pc [] i) (past (begun_form (where_of params h) None (Some (plain_initializer e))) pc)
      (after_statement h (var_form n None (Some (plain_initializer e)))) (exec h (var_form n None (Some (plain_initializer e))) s)
  plain_begins aside h n e s pc i low fine g f =
      let w = where_of params h in
      ⊎_elim (λ (p : IsKeepable x.forms.keeps w e × IsTyped x.forms w e).
      begins_run x params slots fit counts aside h n e s pc i low (keepable x.forms.keeps w e p.0) p.1 g f)
      (⊎_elim (λ d. difference_begins x params slots fit counts aside h n e s pc i low d g f) (λ d. piece_begins aside h n e s pc i low d g f))
      (begun x.forms.keeps w e (IsKeepable x.forms.keeps w e × IsTyped x.forms w e) (BeginsAsPart x.forms.takes w e (IsIndexed x.forms w e)) fine)

  -- `var n : t = e`
  pub said_begins : (aside : Aside 0) (h : Here) (n : Name) (t : TypeTerm) (e : Expression) (s : State) (pc : ℕ) (i : Instance) → params ≤ length h.scope.names →
      IsTypedForm x.forms (where_of params h) (var_form n (Some t) (Some (plain_initializer e))) → Agrees x params slots aside h s i →
      Stands x.body pc (begun_form (where_of params h) (Some t) (Some (plain_initializer e))) →
      Does x params slots aside (placed pc [] i) (past (begun_form (where_of params h) (Some t) (Some (plain_initializer e))) pc)
      (after_statement h (var_form n (Some t) (Some (plain_initializer e)))) (exec h (var_form n (Some t) (Some (plain_initializer e))) s)
  said_begins aside h n t e s pc i low fine g f =
      let w = where_of params h in
      let u = var_type h.tree h.scope (Some t) (Some (plain_initializer e)) in
      ⊎_elim (λ (p : BeginsWith x.forms.keeps h.scope.names (typed w e) u × IsTyped x.forms w e).
      declares_run x params slots fit counts aside h n t e s pc i low (beginning x.forms.keeps h.scope.names _ _ p.0) p.1 g f)
      (λ (d : (IsDifference w e ⊎ BeginsAsPart x.forms.takes w e (IsIndexed x.forms w e)) × IsLike u (initializer_type h.tree h.scope h.scope.next (plain_initializer e))).
      ⊎_elim (λ b. difference_said x params slots fit counts aside h n t e s pc i low b d.1 g f) (λ b. piece_said aside h n t e s pc i low b d.1 g f) d.0)
      (said_either x.forms.keeps w e (BeginsWith x.forms.keeps h.scope.names (typed w e) u × IsTyped x.forms w e) (BeginsAsPart x.forms.takes w e (IsIndexed x.forms w e))
      (IsLike u (initializer_type h.tree h.scope h.scope.next (plain_initializer e))) fine)
