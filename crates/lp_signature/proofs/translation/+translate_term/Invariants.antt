use Rattle.std.proofs.Common.{◌≡◌, ◌+◌, ◌*◌, take}
use Rattle.lp_terms.specs.Term as plain
use Rattle.lp_terms.specs.View.{term_of}
use Rattle.zm_logic.specs.Measure.{term_size, terms_size}
use Rattle.zm_logic.specs.View.{types_tree, term_tree, terms_tree}
use Rattle.lp_signature.specs.Names as names
use Rattle.lp_signature.specs.Translation as translation
use Rattle.lp_signature.specs.View.{symbols_tree, scope_tree}
use Rattle.lp_signature.proofs.translation.+translate_term.Given as goal

abbrev pub decreases-translate_term : goal.decreases-translate_term
decreases-translate_term l = 2 * term_size (term_tree l.term.now)

abbrev pub decreases-apply_to_terms : goal.decreases-apply_to_terms
decreases-apply_to_terms l = 2 * terms_size (terms_tree l.terms.now) + 1

abbrev pub invariant-apply_to_terms-loop-term : goal.invariant-apply_to_terms-loop-term
invariant-apply_to_terms-loop-term l =
    term_of l.applied
    ≡ translation.apply_terms (symbols_tree l.symbols) (scope_tree l.scope) (translation.apply_types (symbols_tree l.symbols) (scope_tree l.scope) 0 (plain.Lp.const (names.constant (symbols_tree l.symbols) l.fn.symbol.0)) (types_tree l.types)) (terms_tree (take l.term-index l.term-items))
