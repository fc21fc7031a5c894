-- The ids of the list are ids of the store, and their trees are less deep.
use Rattle.std.proofs.Common.{◌≡◌, length, get_or, take, ap, sym, ◌∙◌, arith}
use Rattle.std.proofs.lemmas.Result.{IfOk-weaker}
use Rattle.zm_logic.specs.Measure.{term_size, terms_size}
use Rattle.term_store.specs.Node.{term_at, terms_at}
use Rattle.term_store.specs.Trees.{all_trees, term_of}
use Rattle.term_store.specs.declared.ids.TermId.{TermId}
use Rattle.term_store.proofs.Loops.{term_below_at}
use Rattle.term_store.proofs.Stays.{term_depth_at_within}
use Rattle.branch.specs.Listed.{capped}
use Rattle.branch.proofs.Sizing.{capped_sum, terms_size_more}
use Rattle.branch.proofs.sizes.+term_size.Goals as goal

abbrev none : TermId
none = record { 0 = 0 }

pub term_sizes-term_size-requires : goal.term_sizes-term_size-requires
term_sizes-term_size-requires t c =
    let s = c.args.store.now in
    let ids = c.args.ids.now in
    let i = c.loop-id.id-index in
    let less = term_depth_at_within (all_trees s).terms ids i none c.loop-id-test.true in
    (omega (arith, less, c.decreases), (term_below_at (length s.terms) ids c.requires.below i none c.loop-id-test.true, c.loop-id.invariant.knows))

pub term_sizes-loop-id-preserved : goal.term_sizes-loop-id-preserved
term_sizes-loop-id-preserved t c =
    let terms = (all_trees c.args.store.now).terms in
    let ids = c.args.ids.now in
    let i = c.loop-id.id-index in
    let sum = capped_sum c.loop-id.all c.in_ok-size.size (terms_size (terms_at terms (take i ids))) (term_size (term_at terms (get_or ids i none)))
    c.loop-id.invariant.sized c.in_ok-size.ensures.value in
    record {
      sized = c.saturating_add-all.ensures ∙ (sum ∙ sym (ap capped (terms_size_more terms ids i none c.loop-id-test.true)));
      knows = c.in_ok-size.ensures.knows;
    }

pub term_size-returns-clause-value : goal.term_size-returns-clause-value
term_size-returns-clause-value t c =
    IfOk-weaker c.keep_term.result (λ n. n ≡ c.in_ok-size.size) (λ n. n ≡ capped (term_size (term_of c.args.store.now c.args.id)))
    (λ n e. e ∙ c.in_ok-size.ensures.value) c.keep_term.ensures.value

pub term_size-returns-clause-knows : goal.term_size-returns-clause-knows
term_size-returns-clause-knows t c = c.keep_term.ensures.knows c.args.store.now c.requires.has c.in_ok-size.ensures.value c.in_ok-size.ensures.knows
