-- Texts as they are written, piece by piece.
use Rattle.std.proofs.Common.{◌≡◌, ℕ, suc, Bool, true, false, cond, ◌||◌, List, [], ◌++◌, length, refl, sym, ◌∙◌, ap, append-nil, append_assoc}
use Rattle.std.specs.Prelude.{codes}
use Rattle.lp_terms.specs.Term.{Lp}
use Rattle.lp_terms.specs.Signature.{Entry}
use Rattle.lp_terms.specs.File.{occurs}
use Rattle.dk_text.specs.Text.{binder_text, is_binder, is_compound, term_text, part_text, bindings_text, entry_text}
use Rattle.dk_printer.specs.Parts.{ended_text, typed_text, context_text}

pub part_pieces : (b : Bool) (text : List ℕ) → part_text b text ≡ (cond b (codes "(") [] ++ text) ++ cond b (codes ")") []
part_pieces true text = refl
part_pieces false text = sym (append-nil text)

-- the text of a term by its parts
pub application_text : (d : ℕ) (t f a : Lp) → t ≡ Lp.app f a →
    term_text d t ≡ part_text (is_binder f) (term_text d f) ++ (codes " " ++ part_text (is_compound a) (term_text d a))
application_text d t f a e = ap (term_text d) e

pub abstraction_pieces : (d : ℕ) (t a b : Lp) → t ≡ Lp.abs a b →
    term_text d t ≡ (binder_text d ++ part_text (is_binder a) (term_text d a)) ++ (codes " => " ++ term_text (suc d) b)
abstraction_pieces d t a b e =
    ap (term_text d) e ∙ sym (append_assoc (binder_text d) (part_text (is_binder a) (term_text d a)) (codes " => " ++ term_text (suc d) b))

pub product_pieces : (d : ℕ) (t a b : Lp) (named : Bool) → t ≡ Lp.prod a b → named ≡ occurs 0 b →
    term_text d t ≡ (cond named (binder_text d) [] ++ part_text (is_binder a) (term_text d a)) ++ (codes " -> " ++ term_text (suc d) b)
product_pieces d t a b named e h =
    ap (term_text d) e
    ∙ ap (λ n. cond n (binder_text d) [] ++ (part_text (is_binder a) (term_text d a) ++ (codes " -> " ++ term_text (suc d) b))) (sym h)
    ∙ sym (append_assoc (cond named (binder_text d) []) (part_text (is_binder a) (term_text d a)) (codes " -> " ++ term_text (suc d) b))

-- what two walks find
pub occurs_abstraction : (k n : ℕ) (t a b : Lp) (x y r : Bool) → t ≡ Lp.abs a b → n ≡ suc k → x ≡ occurs k a → y ≡ occurs n b → r ≡ (x || y) → r ≡ occurs k t
occurs_abstraction k n t a b x y r e s p q h =
    h ∙ ap (λ z. z || y) p ∙ ap (λ z. occurs k a || z) (q ∙ ap (λ m. occurs m b) s) ∙ sym (ap (occurs k) e)

pub occurs_product : (k n : ℕ) (t a b : Lp) (x y r : Bool) → t ≡ Lp.prod a b → n ≡ suc k → x ≡ occurs k a → y ≡ occurs n b → r ≡ (x || y) → r ≡ occurs k t
occurs_product k n t a b x y r e s p q h =
    h ∙ ap (λ z. z || y) p ∙ ap (λ z. occurs k a || z) (q ∙ ap (λ m. occurs m b) s) ∙ sym (ap (occurs k) e)

pub argument_text : (d : ℕ) (t : Lp) (brackets : Bool) → brackets ≡ is_compound t →
    codes " " ++ part_text (is_compound t) (term_text d t) ≡ codes " " ++ part_text brackets (term_text d t)
argument_text d t brackets e = ap (λ b. codes " " ++ part_text b (term_text d t)) (sym e)

pub behind_text : (arrow : List ℕ) (d n : ℕ) (t : Lp) → n ≡ suc d → arrow ++ term_text (suc d) t ≡ arrow ++ term_text n t
behind_text arrow d n t e = ap (λ k. arrow ++ term_text k t) (sym e)

pub declared_text : (name : List ℕ) (definable : Bool) (a : Lp) →
    entry_text (Entry.declare name definable a) ≡ cond definable (codes "def ") [] ++ typed_text name a (codes ".")
declared_text name definable a = ap (λ w. cond definable (codes "def ") [] ++ w) (sym (append_assoc name (codes " : ") (term_text 0 a ++ codes ".")))

five : (n c a d b : List ℕ) → n ++ (c ++ (a ++ (d ++ b))) ≡ ((n ++ c) ++ (a ++ d)) ++ b
five n c a d b = sym (simp append_assoc)

pub defined_text : (name : List ℕ) (a b : Lp) →
    entry_text (Entry.define name a b) ≡ codes "def " ++ (typed_text name a (codes " := ") ++ ended_text 0 b (codes "."))
defined_text name a b = ap (λ w. codes "def " ++ w) (five name (codes " : ") (term_text 0 a) (codes " := ") (term_text 0 b ++ codes "."))

six : (o c e l m r : List ℕ) → o ++ (c ++ (e ++ (l ++ (m ++ r)))) ≡ (o ++ (c ++ e)) ++ ((l ++ m) ++ r)
six o c e l m r = sym (simp append_assoc)

pub rule_text : (context : List Lp) (a b : Lp) (n : ℕ) → n ≡ length context →
    entry_text (Entry.rule context a b) ≡ context_text context ++ (ended_text n a (codes " --> ") ++ ended_text n b (codes "."))
rule_text context a b n e =
    six (codes "[") (bindings_text 0 context) (codes "] ") (term_text (length context) a) (codes " --> ") (term_text (length context) b ++ codes ".")
    ∙ ap (λ k. context_text context ++ (ended_text k a (codes " --> ") ++ ended_text k b (codes "."))) (sym e)

pub rule_pieces : (context : List Lp) (a b : Lp) (n : ℕ) → n ≡ length context →
    entry_text (Entry.rule context a b) ≡ (context_text context ++ ended_text n a (codes " --> ")) ++ ended_text n b (codes ".")
rule_pieces context a b n e =
    rule_text context a b n e ∙ sym (append_assoc (context_text context) (ended_text n a (codes " --> ")) (ended_text n b (codes ".")))
