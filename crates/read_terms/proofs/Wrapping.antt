-- An expression in parentheses with what stands around them.
use Rattle.std.proofs.Common.{◌≡◌, List, refl}
use Rattle.regent_tree.specs.Syntax.{Expression, convert_expr, is_null_expr, cast_expr, space_expr}
use Rattle.regent_grammar.specs.declared.symbol.Terminal.{Terminal}
use Rattle.regent_grammar.specs.Rules.{Sort, Value, Rule, gives, ◌⊛◌, ◌⊳◌}
use Rattle.regent_grammar.specs.Reading.{read, reading, reading_with, then_read}
use Rattle.read_terms.specs.declared.heads.Wrap.{Wrap}
use Rattle.read_terms.specs.declared.heads.Wrap.TheVariants.{Plain, Convert, IsNull, Cast, Space}
use Rattle.read_terms.specs.Heads.{nothing, closed, around, rest_of_wrap}

applied : (s t : Sort) (f : Value s → Value t) (r : Rule s) (ts : List Terminal) (x : Value s) (rest : List Terminal) →
    reading r ts ≡ read x rest → reading (◌⊛◌ {s = s} {t = t} (gives f) r) ts ≡ read (f x) rest
unfolding reading reading_with then_read
applied s t f r ts x rest h = rw h refl

behind : {s : Sort} (r : Rule s) (ts : List Terminal) (x : Value s) (rest : List Terminal) → reading r ts ≡ read x rest → reading (nothing ⊳ r) ts ≡ read x rest
unfolding reading reading_with then_read
behind r ts x rest h = rw h refl

pub wrapped_read : (w : Wrap) (ts : List Terminal) (e : Expression) (rest : List Terminal) → reading closed ts ≡ read e rest → reading (rest_of_wrap w) ts ≡ read (around w e) rest
wrapped_read Plain ts e rest h = h
wrapped_read (Convert to) ts e rest h = applied Sort.expression Sort.expression (λ x. convert_expr to x) closed ts e rest h
wrapped_read IsNull ts e rest h = applied Sort.expression Sort.expression (λ x. is_null_expr x) (nothing ⊳ closed) ts e rest (behind closed ts e rest h)
wrapped_read (Cast pointer) ts e rest h = applied Sort.expression Sort.expression (λ x. cast_expr pointer x) closed ts e rest h
wrapped_read (Space kind) ts e rest h = applied Sort.expression Sort.expression (λ x. space_expr kind x) closed ts e rest h
