-- Bounds found one after the other.
use Rattle.std.proofs.Common.{ℕ, ◌≡◌, ◌+◌, ◌<◌, max, List, ◌∷◌, length, get_or, drop, sym, ap, ◌∙◌, arith}
use Rattle.std.proofs.lemmas.List.{at_drop_more}
use Rattle.lp_terms.specs.declared.term.Lp as code
use Rattle.lp_terms.specs.declared.file.Entry as file
use Rattle.lp_terms.specs.Measure.{free_bound}
use Rattle.lp_terms.specs.View.{term_of, terms_of, entry_of, entries_of}
use Rattle.lp_reduce.specs.Number.{terms_bound, entry_bound, entries_bound}

moved : (a b c : ℕ) → max (max a b) c ≡ max b (max a c)
moved a b c = omega arith

pub next_entry : (items : List file.Entry) (i most : ℕ) (x : file.Entry) → i < length items → x ≡ get_or items i x →
    max (max (entry_bound (entry_of x)) most) (entries_bound (entries_of (drop (i + 1) items))) ≡ max most (entries_bound (entries_of (drop i items)))
next_entry items i most x lt is =
    moved (entry_bound (entry_of x)) most (entries_bound (entries_of (drop (i + 1) items)))
    ∙ ap (max most)
    (ap (λ y. max (entry_bound (entry_of y)) (entries_bound (entries_of (drop (i + 1) items)))) is
    ∙ sym (at_drop_more (λ xs. entries_bound (entries_of xs)) items i x lt))

pub next_term : (items : List code.Lp) (i most : ℕ) (x : code.Lp) → i < length items → x ≡ get_or items i x →
    max (max (free_bound (term_of x)) most) (terms_bound (terms_of (drop (i + 1) items))) ≡ max most (terms_bound (terms_of (drop i items)))
next_term items i most x lt is =
    moved (free_bound (term_of x)) most (terms_bound (terms_of (drop (i + 1) items)))
    ∙ ap (max most)
    (ap (λ y. max (free_bound (term_of y)) (terms_bound (terms_of (drop (i + 1) items)))) is
    ∙ sym (at_drop_more (λ xs. terms_bound (terms_of xs)) items i x lt))
