-- What a file keeps is what printing asks of its parts.
use Rattle.std.proofs.Common.{◌≡◌, ℕ, zero, suc, ◌+◌, ◌<◌, List, [], ◌∷◌, length, get_or, sym, subst, arith}
use Rattle.lp_terms.specs.Term.{Lp, IsClosedAt}
use Rattle.lp_terms.specs.Signature.{Entry}
use Rattle.lp_terms.specs.Measure.{binder_depth, context_depth, entry_depth, entries_depth, limit}
use Rattle.lp_terms.specs.File.{declared_after, IsTermOf, IsContextOf, empty, bind, IsEntryOf, AreEntriesOf, next, IsFile}
use Rattle.lp_terms.specs.View.{term_of, terms_of, entry_of, entries_of}
use Rattle.lp_terms.specs.declared.term.Lp as term
use Rattle.lp_terms.specs.declared.file.Entry as file
use Rattle.dk_printer.specs.Parts.{IsPrintable, ArePrintable, IsPrintableEntry}

is_closed : (names : List (List ℕ)) (k : ℕ) (t : Lp) → IsTermOf names k t → IsClosedAt k t
is_closed names k t IsTermOf.sort = IsClosedAt.sort
is_closed names k t (IsTermOf.const h) = IsClosedAt.const
is_closed names k t (IsTermOf.index h) = IsClosedAt.index h
is_closed names k t (IsTermOf.app {f = f} {a = a} p q) = IsClosedAt.app (is_closed names k f p) (is_closed names k a q)
is_closed names k t (IsTermOf.abs {a = a} {b = b} p q) = IsClosedAt.abs (is_closed names k a p) (is_closed names (suc k) b q)
is_closed names k t (IsTermOf.prod {a = a} {b = b} p q) = IsClosedAt.prod (is_closed names k a p) (is_closed names (suc k) b q)

term_printable : (names : List (List ℕ)) (k : ℕ) (t : Lp) → IsTermOf names k t → k + binder_depth t < limit → IsPrintable k t
term_printable names k t p h = record { below = is_closed names k t p; room = h }

context_printable : (names : List (List ℕ)) (k : ℕ) (types : List Lp) → IsContextOf names k types → context_depth k types < limit → ArePrintable k types
context_printable names k [] empty h = record {}
context_printable names k (a ∷ types) (bind p q) h = (term_printable names k a p (omega arith), context_printable names (suc k) types q (omega arith))

entry_printable : (names : List (List ℕ)) (e : Entry) → IsEntryOf names e → entry_depth e < limit → IsPrintableEntry e
entry_printable names (Entry.declare name definable a) (IsEntryOf.declare n p) h = term_printable names 0 a p (omega arith)
entry_printable names (Entry.define name a b) (IsEntryOf.define n p q) h = (term_printable names 0 a p (omega arith), term_printable names 0 b q (omega arith))
entry_printable names (Entry.rule context a b) (IsEntryOf.rule c p q l o) h =
    (context_printable names 0 context c (omega arith), term_printable names (length context) a p (omega arith), term_printable names (length context) b q (omega arith))

-- each entry of a file can be printed
printable_at : (names : List (List ℕ)) (items : List file.Entry) (i : ℕ) (d : file.Entry) → AreEntriesOf names (entries_of items) → entries_depth (entries_of items) < limit →
    i < length items → IsPrintableEntry (entry_of (get_or items i d))
printable_at names [] i d es h lt = absurd (omega arith)
printable_at names (x ∷ items) zero d (next e es) h lt = entry_printable names (entry_of x) e (omega arith)
printable_at names (x ∷ items) (suc i) d (next e es) h lt = printable_at (declared_after names (entry_of x)) items i d es (omega arith) (omega arith)

-- each type of a context can be printed
type_printable : (types : List term.Lp) (k i : ℕ) (d : term.Lp) → ArePrintable k (terms_of types) → i < length types → IsPrintable (k + i) (term_of (get_or types i d))
type_printable [] k i d p lt = absurd (omega arith)
type_printable (x ∷ types) k zero d p lt = let same : k ≡ k + 0 = omega arith in subst (λ (n : ℕ). IsPrintable n (term_of x)) same p.0
type_printable (x ∷ types) k (suc i) d p lt =
    let same : suc k + i ≡ k + suc i = omega arith in
    subst (λ (n : ℕ). IsPrintable n (term_of (get_or types i d))) same (type_printable types (suc k) i d p.1 (omega arith))

-- the entry in hand can be printed
pub this_entry_printable : (items kept : List file.Entry) (i : ℕ) (x : file.Entry) → IsFile (entries_of kept) → items ≡ kept → i < length items → x ≡ get_or items i x →
    IsPrintableEntry (entry_of x)
this_entry_printable items kept i x f same lt is =
    let here = subst (λ (xs : List file.Entry). IsFile (entries_of xs)) (sym same) f in
    subst (λ (y : file.Entry). IsPrintableEntry (entry_of y)) (sym is) (printable_at [] items i x here.in_order here.bounded lt)

-- the type in hand can be printed
pub this_type_printable : (types : List term.Lp) (i n : ℕ) (x : term.Lp) → ArePrintable 0 (terms_of types) → n ≡ i → i < length types → x ≡ get_or types i x → IsPrintable n (term_of x)
this_type_printable types i n x p same lt is =
    let place : 0 + i ≡ n = omega arith in
    subst (λ (y : term.Lp). IsPrintable n (term_of y)) (sym is) (subst (λ (k : ℕ). IsPrintable k (term_of (get_or types i x))) place (type_printable types 0 i x p lt))
