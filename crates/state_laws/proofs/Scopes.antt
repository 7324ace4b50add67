-- Names behind statements: those before stay, each in its place.
use Rattle.std.proofs.Common.{List, ◌∷◌, None, refl, ap, sym, subst, ◌≡◌, ◌∙◌, ◌≤◌, arith}
use Rattle.std.specs.Prelude.{length}
use Rattle.regent_tree.specs.Scopes.{Scope}
use Rattle.regent_tree.specs.Syntax.{Block, Form, TaskTree, Tree, a_statement, assert_form, assign_form, call_form, do_form, fill_form, for_in_form, for_to_form, if_form, no_statement, print_form, return_form, then_statement, var_form, while_form}
use Rattle.regent_tree.specs.Typing.{scope_after, scope_after_arms, scope_after_block}
use Rattle.regent_tree.specs.declared.typing.Bound.{Bound}
use Rattle.check_rules.specs.first.FirstInStatements.{first_in_block}
use Rattle.check_rules.specs.scopes.Sound.{IsSound}
use Rattle.check_laws.proofs.Onward.{block_next}
use Rattle.check_laws.specs.SoundScopes.{IsSoundScope}
use Rattle.statement_laws.proofs.Scopes.{names_arms, names_else}
use Rattle.statement_laws.specs.Steady.{ArePlaced}
use Rattle.state_laws.proofs.Growing.{StaysBound, stays_bound, stays_none, stays_then}

-- what is bound in a list of names is bound so in another, which is no shorter, and places stay places
pub record HasMoreNames (names others : List Bound) : Type 0 where
  pub stays : StaysBound names others
  pub longer : length names ≤ length others
  pub placed : ArePlaced names → ArePlaced others

pub same_names : (names others : List Bound) → others ≡ names → HasMoreNames names others
same_names names others same = record {
  stays = stays_none names others same;
  longer = let len = ap length same in omega (arith, len);
  placed = λ p. subst ArePlaced (sym same) p;
}

pub more_then : (a b c : List Bound) → HasMoreNames a b → HasMoreNames b c → HasMoreNames a c
more_then a b c f g = let l = f.longer in let k = g.longer in record {
  stays = stays_then a b c f.stays g.stays;
  longer = omega (arith, l, k);
  placed = λ p. g.placed (f.placed p);
}

pub one_more : (s : Scope) (b : Bound) → IsSoundScope s → b.number ≡ s.next → b.place ≡ length s.names → HasMoreNames s.names (b ∷ s.names)
one_more s b scope number place = record {
  stays = stays_bound s.next s.names b scope.numbers number;
  longer = omega (arith);
  placed = λ p. (place, p);
}

module _ (tree : Tree) (task : TaskTree) (sound : IsSound tree) where
  pub more_form : (s : Scope) (form : Form) → IsSoundScope s → HasMoreNames s.names (scope_after tree s form).names
  more_form s (var_form n t start) scope = one_more s _ scope refl refl
  more_form s (if_form arms other) scope =
      same_names s.names _ (names_else tree task sound (scope_after_arms tree s arms) other ∙ names_arms tree task sound s arms)
  more_form s (while_form test body) scope = same_names s.names s.names refl
  more_form s (for_in_form demanded n domain body) scope = same_names s.names s.names refl
  more_form s (for_to_form demanded n from to body) scope = same_names s.names s.names refl
  more_form s (do_form body) scope = same_names s.names s.names refl
  more_form s (fill_form r fields x) scope = same_names s.names s.names refl
  more_form s (assert_form x) scope = same_names s.names s.names refl
  more_form s (print_form alias format args) scope = same_names s.names s.names refl
  more_form s (call_form t args) scope = same_names s.names s.names refl
  more_form s (assign_form n steps how x) scope = same_names s.names s.names refl
  more_form s (return_form x) scope = same_names s.names s.names refl

  pub more_block : (s : Scope) (b : Block) → IsSoundScope s → first_in_block tree task s b ≡ None → HasMoreNames s.names (scope_after_block tree s b).names
  more_block s no_statement scope e = same_names s.names s.names refl
  more_block s (then_statement (a_statement line form) rest) scope e =
      let next = block_next tree task sound s line form rest scope e in
      more_then s.names (scope_after tree s form).names (scope_after_block tree (scope_after tree s form) rest).names
      (more_form s form scope) (more_block (scope_after tree s form) rest next.2 next.3)
