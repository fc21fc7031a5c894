-- The text of a term before other bytes is its text and then these.
use Rattle.std.proofs.Common.{◌≡◌, ℕ, suc, Bool, true, false, cond, List, [], ◌∷◌, ◌++◌, length, refl, sym, ◌∙◌, ap}
use Rattle.std.specs.Fmt.{decimal}
use mathlib.Core.List.{append_assoc}
use Rattle.lp_terms.specs.Term.{Lp}
use Rattle.lp_terms.specs.Signature.{Entry}
use Rattle.lp_terms.specs.File.{occurs}
use Rattle.dk_text.specs.Text.{variable, binder_text, is_binder, is_compound, part_text, term_text, bindings_text, entry_text, file_text}
use Rattle.dk_text.proofs.Printed.{variable_onto, bracketed_onto, term_onto}
use Rattle.dk_text.proofs.PrintedFiles.{bindings_onto, entry_onto, file_onto}

bracketed_onto_is : (b : Bool) (text : List ℕ → List ℕ) (s : List ℕ) → ((tail : List ℕ) → text tail ≡ s ++ tail) → (tail : List ℕ) → bracketed_onto b text tail ≡ part_text b s ++ tail
bracketed_onto_is true text s h tail = ap (λ w. 40 ∷ w) (h (41 ∷ tail)) ∙ sym (simp append_assoc)
bracketed_onto_is false text s h tail = h tail

after_three : (x s y t tail : List ℕ) → (x ++ (s ++ (y ++ t))) ++ tail ≡ x ++ (s ++ (y ++ (t ++ tail)))
after_three x s y t tail = simp append_assoc

binder_onto_is : (d : ℕ) (tail : List ℕ) → variable_onto d (32 ∷ 58 ∷ 32 ∷ tail) ≡ binder_text d ++ tail
binder_onto_is d tail = ap (λ w. 120 ∷ w) (sym (append_assoc (decimal d) (32 ∷ 58 ∷ 32 ∷ []) tail))

product_onto_is : (d : ℕ) (a b : Lp) (tail : List ℕ) (text : List ℕ → List ℕ) → ((rest : List ℕ) → text rest ≡ term_text d a ++ rest) → term_onto (suc d) b tail ≡ term_text (suc d) b ++ tail → (o : Bool) →
    (let rest = bracketed_onto (is_binder a) text (32 ∷ 45 ∷ 62 ∷ 32 ∷ term_onto (suc d) b tail) in cond o (variable_onto d (32 ∷ 58 ∷ 32 ∷ rest)) rest)
    ≡ (cond o (binder_text d) [] ++ (part_text (is_binder a) (term_text d a) ++ ((32 ∷ 45 ∷ 62 ∷ 32 ∷ []) ++ term_text (suc d) b))) ++ tail
product_onto_is d a b tail text h e true =
    let s = part_text (is_binder a) (term_text d a) in
    ap (λ w. variable_onto d (32 ∷ 58 ∷ 32 ∷ w)) (bracketed_onto_is (is_binder a) text (term_text d a) h (32 ∷ 45 ∷ 62 ∷ 32 ∷ term_onto (suc d) b tail))
    ∙ ap (λ w. variable_onto d (32 ∷ 58 ∷ 32 ∷ (s ++ (32 ∷ 45 ∷ 62 ∷ 32 ∷ w)))) e
    ∙ binder_onto_is d (s ++ (32 ∷ 45 ∷ 62 ∷ 32 ∷ (term_text (suc d) b ++ tail)))
    ∙ sym (after_three (binder_text d) s (32 ∷ 45 ∷ 62 ∷ 32 ∷ []) (term_text (suc d) b) tail)
product_onto_is d a b tail text h e false =
    let s = part_text (is_binder a) (term_text d a) in
    bracketed_onto_is (is_binder a) text (term_text d a) h (32 ∷ 45 ∷ 62 ∷ 32 ∷ term_onto (suc d) b tail)
    ∙ ap (λ w. s ++ (32 ∷ 45 ∷ 62 ∷ 32 ∷ w)) e
    ∙ sym (simp append_assoc)

pub term_onto_is : (d : ℕ) (t : Lp) (tail : List ℕ) → term_onto d t tail ≡ term_text d t ++ tail
term_onto_is d Lp.sort tail = refl
term_onto_is d (Lp.const c) tail = refl
term_onto_is d (Lp.free n) tail = refl
term_onto_is d (Lp.index i) tail = refl
term_onto_is d (Lp.app f a) tail =
    let s = part_text (is_binder f) (term_text d f) in
    bracketed_onto_is (is_binder f) (term_onto d f) (term_text d f) (term_onto_is d f) (32 ∷ bracketed_onto (is_compound a) (term_onto d a) tail)
    ∙ ap (λ w. s ++ (32 ∷ w)) (bracketed_onto_is (is_compound a) (term_onto d a) (term_text d a) (term_onto_is d a) tail)
    ∙ sym (simp append_assoc)
term_onto_is d (Lp.abs a b) tail =
    let s = part_text (is_binder a) (term_text d a) in
    ap (λ w. variable_onto d (32 ∷ 58 ∷ 32 ∷ w)) (bracketed_onto_is (is_binder a) (term_onto d a) (term_text d a) (term_onto_is d a) (32 ∷ 61 ∷ 62 ∷ 32 ∷ term_onto (suc d) b tail))
    ∙ ap (λ w. variable_onto d (32 ∷ 58 ∷ 32 ∷ (s ++ (32 ∷ 61 ∷ 62 ∷ 32 ∷ w)))) (term_onto_is (suc d) b tail)
    ∙ binder_onto_is d (s ++ (32 ∷ 61 ∷ 62 ∷ 32 ∷ (term_text (suc d) b ++ tail)))
    ∙ sym (after_three (binder_text d) s (32 ∷ 61 ∷ 62 ∷ 32 ∷ []) (term_text (suc d) b) tail)
term_onto_is d (Lp.prod a b) tail = product_onto_is d a b tail (term_onto d a) (term_onto_is d a) (term_onto_is (suc d) b tail) (occurs 0 b)

bindings_onto_is : (d : ℕ) (context : List Lp) (tail : List ℕ) → bindings_onto d context tail ≡ bindings_text d context ++ tail
bindings_onto_is d [] tail = refl
bindings_onto_is d (a ∷ []) tail =
    ap (λ w. variable_onto d (32 ∷ 58 ∷ 32 ∷ w)) (term_onto_is d a tail) ∙ binder_onto_is d (term_text d a ++ tail) ∙ sym (append_assoc (binder_text d) (term_text d a) tail)
bindings_onto_is d (a ∷ c ∷ rest) tail =
    ap (λ w. variable_onto d (32 ∷ 58 ∷ 32 ∷ w)) (term_onto_is d a (44 ∷ 32 ∷ bindings_onto (suc d) (c ∷ rest) tail))
    ∙ ap (λ w. variable_onto d (32 ∷ 58 ∷ 32 ∷ (term_text d a ++ (44 ∷ 32 ∷ w)))) (bindings_onto_is (suc d) (c ∷ rest) tail)
    ∙ binder_onto_is d (term_text d a ++ (44 ∷ 32 ∷ (bindings_text (suc d) (c ∷ rest) ++ tail)))
    ∙ sym (after_three (binder_text d) (term_text d a) (44 ∷ 32 ∷ []) (bindings_text (suc d) (c ∷ rest)) tail)

pub entry_onto_is : (e : Entry) (tail : List ℕ) → entry_onto e tail ≡ entry_text e ++ tail
entry_onto_is (Entry.declare name true a) tail = ap (λ w. 100 ∷ 101 ∷ 102 ∷ 32 ∷ (name ++ (32 ∷ 58 ∷ 32 ∷ w))) (term_onto_is 0 a (46 ∷ tail)) ∙ sym (simp append_assoc)
entry_onto_is (Entry.declare name false a) tail = ap (λ w. name ++ (32 ∷ 58 ∷ 32 ∷ w)) (term_onto_is 0 a (46 ∷ tail)) ∙ sym (simp append_assoc)
entry_onto_is (Entry.define name a b) tail =
    ap (λ w. 100 ∷ 101 ∷ 102 ∷ 32 ∷ (name ++ (32 ∷ 58 ∷ 32 ∷ w))) (term_onto_is 0 a (32 ∷ 58 ∷ 61 ∷ 32 ∷ term_onto 0 b (46 ∷ tail)))
    ∙ ap (λ w. 100 ∷ 101 ∷ 102 ∷ 32 ∷ (name ++ (32 ∷ 58 ∷ 32 ∷ (term_text 0 a ++ (32 ∷ 58 ∷ 61 ∷ 32 ∷ w))))) (term_onto_is 0 b (46 ∷ tail))
    ∙ sym (simp append_assoc)
entry_onto_is (Entry.rule context a b) tail =
    let n = length context in
    ap (λ w. 91 ∷ w) (bindings_onto_is 0 context (93 ∷ 32 ∷ term_onto n a (32 ∷ 45 ∷ 45 ∷ 62 ∷ 32 ∷ term_onto n b (46 ∷ tail))))
    ∙ ap (λ w. 91 ∷ (bindings_text 0 context ++ (93 ∷ 32 ∷ w))) (term_onto_is n a (32 ∷ 45 ∷ 45 ∷ 62 ∷ 32 ∷ term_onto n b (46 ∷ tail)))
    ∙ ap (λ w. 91 ∷ (bindings_text 0 context ++ (93 ∷ 32 ∷ (term_text n a ++ (32 ∷ 45 ∷ 45 ∷ 62 ∷ 32 ∷ w))))) (term_onto_is n b (46 ∷ tail))
    ∙ sym (simp append_assoc)

pub file_onto_is : (es : List Entry) → file_onto es ≡ file_text es
file_onto_is [] = refl
file_onto_is (e ∷ es) = entry_onto_is e (10 ∷ file_onto es) ∙ ap (λ w. entry_text e ++ (10 ∷ w)) (file_onto_is es)
