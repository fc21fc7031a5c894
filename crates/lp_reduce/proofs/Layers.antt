-- The plain term of a layer of the code's.
use Rattle.std.proofs.Common.{ℕ, ◌≡◌, sym, ◌∙◌, ap}
use Rattle.lp_terms.specs.Term as plain
use Rattle.lp_terms.specs.declared.term.Lp.{Lp}
use Rattle.lp_terms.specs.declared.term.Lp.TheFolds.{fold-roll-Lp}
use Rattle.lp_terms.specs.declared.term.Lp.TheOpen as layer
use Rattle.lp_terms.specs.declared.term.Lp.TheVariants.{Sort, Free, Index, rolls-Sort, rolls-Free, rolls-Index}
use Rattle.lp_terms.specs.View.{step_of, term_of}

pub sort_is : term_of Sort ≡ plain.Lp.sort
sort_is = ap term_of (sym rolls-Sort) ∙ fold-roll-Lp plain.Lp step_of layer.Sort

pub free_is : (n : ℕ) → term_of (Free n) ≡ plain.Lp.free n
free_is n = ap term_of (sym (rolls-Free n)) ∙ fold-roll-Lp plain.Lp step_of (layer.Free n)

pub index_is : (i : ℕ) → term_of (Index i) ≡ plain.Lp.index i
index_is i = ap term_of (sym (rolls-Index i)) ∙ fold-roll-Lp plain.Lp step_of (layer.Index i)
