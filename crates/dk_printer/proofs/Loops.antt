-- How far the loops over entries and over the types of a context have come.
use Rattle.std.proofs.Common.{◌≡◌, ℕ, suc, ◌+◌, ◌<◌, ◌≤◌, cond, List, [], ◌∷◌, ◌++◌, length, get_or, take, drop, refl, sym, ◌∙◌, ap, append-nil, append_assoc, arith}
use Rattle.std.specs.Prelude.{codes, nat_lt}
use Rattle.std.proofs.lemmas.Bool.{lt-ltb}
use Rattle.std.proofs.lemmas.List.{map_more, map-append, take-append-drop, length-map, length-take-le, take_all}
use Rattle.lp_terms.specs.Term.{Lp}
use Rattle.lp_terms.specs.Signature.{Entry}
use Rattle.lp_terms.specs.View.{term_of, terms_of, entry_of, entries_of}
use Rattle.lp_terms.specs.declared.term.Lp as term
use Rattle.lp_terms.specs.declared.file.Entry as file
use Rattle.dk_text.specs.Text.{binder_text, term_text, bindings_text, entry_text, file_text}
use Rattle.dk_printer.specs.Parts.{binding_text, line_text}

file_text_append : (xs ys : List Entry) → file_text (xs ++ ys) ≡ file_text xs ++ file_text ys
file_text_append [] ys = refl
file_text_append (x ∷ xs) ys =
    ap (λ w. entry_text x ++ (codes "\n" ++ w)) (file_text_append xs ys) ∙ sym (append_assoc (entry_text x) (codes "\n" ++ file_text xs) (file_text ys))

-- the entries so far and the next one
pub next_entry : (items : List file.Entry) (i : ℕ) (x : file.Entry) → i < length items → x ≡ get_or items i x →
    file_text (entries_of (take (i + 1) items)) ≡ file_text (entries_of (take i items)) ++ line_text (entry_of x)
next_entry items i x lt is =
    ap file_text (map_more entry_of items i x lt)
    ∙ file_text_append (entries_of (take i items)) (entry_of (get_or items i x) ∷ [])
    ∙ ap (λ y. file_text (entries_of (take i items)) ++ line_text (entry_of y)) (sym is)

-- and all of the rest
pub entry_and_rest : (items : List file.Entry) (i : ℕ) (x : file.Entry) → i < length items → x ≡ get_or items i x →
    file_text (entries_of items) ≡ (file_text (entries_of (take i items)) ++ line_text (entry_of x)) ++ file_text (entries_of (drop (i + 1) items))
entry_and_rest items i x lt is =
    ap (λ xs. file_text (entries_of xs)) (sym (take-append-drop (i + 1) items))
    ∙ ap file_text (map-append entry_of (take (i + 1) items) (drop (i + 1) items))
    ∙ file_text_append (entries_of (take (i + 1) items)) (entries_of (drop (i + 1) items))
    ∙ ap (λ w. w ++ file_text (entries_of (drop (i + 1) items))) (next_entry items i x lt is)

pub all_entries : (items : List file.Entry) (i : ℕ) → length items ≤ i → file_text (entries_of items) ≡ file_text (entries_of (take i items))
all_entries items i le = ap (λ xs. file_text (entries_of xs)) (sym (take_all i items le))

-- the comma behind the variables so far
abbrev pub comma : List Lp → List ℕ
comma [] = []
comma (x ∷ xs) = codes ", "

comma_is : (n : ℕ) (xs : List Lp) → n ≡ length xs → cond (nat_lt 0 n) (codes ", ") [] ≡ comma xs
comma_is n [] e = ap (λ k. cond (nat_lt 0 k) (codes ", ") []) e
comma_is n (x ∷ xs) e = let h : 0 < n = omega arith in ap (λ t. cond t (codes ", ") []) (lt-ltb 0 n h)

joined_binding : (b t c w : List ℕ) → ((b ++ t) ++ c) ++ w ≡ b ++ (t ++ (c ++ w))
joined_binding b t c w = simp append_assoc

joined_bindings : (b t c r m w : List ℕ) → ((b ++ (t ++ (c ++ r))) ++ m) ++ w ≡ b ++ (t ++ (c ++ ((r ++ m) ++ w)))
joined_bindings b t c r m w = simp append_assoc

bindings_more : (d : ℕ) (xs : List Lp) (a : Lp) → bindings_text d (xs ++ a ∷ []) ≡ (bindings_text d xs ++ comma xs) ++ binding_text (d + length xs) a
bindings_more d [] a = let e : d ≡ d + 0 = omega arith in ap (λ k. binding_text k a) e
bindings_more d (x ∷ []) a =
    let e : suc d ≡ d + length (x ∷ []) = omega arith in
    ap (λ k. binder_text d ++ (term_text d x ++ (codes ", " ++ binding_text k a))) e
    ∙ sym (joined_binding (binder_text d) (term_text d x) (codes ", ") (binding_text (d + length (x ∷ [])) a))
bindings_more d (x ∷ y ∷ rest) a =
    let e : suc d + length (y ∷ rest) ≡ d + length (x ∷ y ∷ rest) = omega arith in
    ap (λ w. binder_text d ++ (term_text d x ++ (codes ", " ++ w))) (bindings_more (suc d) (y ∷ rest) a)
    ∙ ap (λ k. binder_text d ++ (term_text d x ++ (codes ", " ++ ((bindings_text (suc d) (y ∷ rest) ++ codes ", ") ++ binding_text k a)))) e
    ∙ sym (joined_bindings (binder_text d) (term_text d x) (codes ", ") (bindings_text (suc d) (y ∷ rest)) (codes ", ") (binding_text (d + length (x ∷ y ∷ rest)) a))

-- what follows the variables so far
abbrev pub rest_of : ℕ → List Lp → List Lp → List ℕ
rest_of d [] ys = bindings_text d ys
rest_of d (x ∷ []) [] = []
rest_of d (x ∷ []) (y ∷ ys) = codes ", " ++ bindings_text (suc d) (y ∷ ys)
rest_of d (x ∷ z ∷ xs) ys = rest_of (suc d) (z ∷ xs) ys

joined_rest : (b t c w r : List ℕ) → b ++ (t ++ (c ++ (w ++ r))) ≡ (b ++ (t ++ (c ++ w))) ++ r
joined_rest b t c w r = sym (simp append_assoc)

bindings_split : (d : ℕ) (xs ys : List Lp) → bindings_text d (xs ++ ys) ≡ bindings_text d xs ++ rest_of d xs ys
bindings_split d [] ys = refl
bindings_split d (x ∷ []) [] = sym (append-nil (binding_text d x))
bindings_split d (x ∷ []) (y ∷ ys) = sym (append_assoc (binder_text d) (term_text d x) (codes ", " ++ bindings_text (suc d) (y ∷ ys)))
bindings_split d (x ∷ z ∷ xs) ys =
    ap (λ w. binder_text d ++ (term_text d x ++ (codes ", " ++ w))) (bindings_split (suc d) (z ∷ xs) ys)
    ∙ joined_rest (binder_text d) (term_text d x) (codes ", ") (bindings_text (suc d) (z ∷ xs)) (rest_of (suc d) (z ∷ xs) ys)

-- the variables so far and the next one, which has the number n
pub next_binding : (types : List term.Lp) (i n : ℕ) (x : term.Lp) → n ≡ i → i < length types → x ≡ get_or types i x →
    bindings_text 0 (terms_of (take (i + 1) types)) ≡ (bindings_text 0 (terms_of (take i types)) ++ cond (nat_lt 0 n) (codes ", ") []) ++ binding_text n (term_of x)
next_binding types i n x same lt is =
    let before = terms_of (take i types) in
    let many : length before ≡ i = length-map (take i types) term_of ∙ length-take-le i types (omega arith) in
    let number : n ≡ length before = same ∙ sym many in
    let place : 0 + length before ≡ n = omega arith in
    ap (bindings_text 0) (map_more term_of types i x lt)
    ∙ bindings_more 0 before (term_of (get_or types i x))
    ∙ ap (λ k. (bindings_text 0 before ++ comma before) ++ binding_text k (term_of (get_or types i x))) place
    ∙ ap (λ y. (bindings_text 0 before ++ comma before) ++ binding_text n (term_of y)) (sym is)
    ∙ ap (λ w. (bindings_text 0 before ++ w) ++ binding_text n (term_of x)) (sym (comma_is n before number))

-- and all of the rest
pub binding_and_rest : (types : List term.Lp) (i n : ℕ) (x : term.Lp) → n ≡ i → i < length types → x ≡ get_or types i x →
    bindings_text 0 (terms_of types)
    ≡ ((bindings_text 0 (terms_of (take i types)) ++ cond (nat_lt 0 n) (codes ", ") []) ++ binding_text n (term_of x))
    ++ rest_of 0 (terms_of (take (i + 1) types)) (terms_of (drop (i + 1) types))
binding_and_rest types i n x same lt is =
    ap (λ xs. bindings_text 0 (terms_of xs)) (sym (take-append-drop (i + 1) types))
    ∙ ap (bindings_text 0) (map-append term_of (take (i + 1) types) (drop (i + 1) types))
    ∙ bindings_split 0 (terms_of (take (i + 1) types)) (terms_of (drop (i + 1) types))
    ∙ ap (λ w. w ++ rest_of 0 (terms_of (take (i + 1) types)) (terms_of (drop (i + 1) types))) (next_binding types i n x same lt is)

pub comma_and_rest : (types : List term.Lp) (i n : ℕ) (x : term.Lp) → n ≡ i → i < length types → x ≡ get_or types i x →
    bindings_text 0 (terms_of types)
    ≡ (bindings_text 0 (terms_of (take i types)) ++ cond (nat_lt 0 n) (codes ", ") [])
    ++ (binding_text n (term_of x) ++ rest_of 0 (terms_of (take (i + 1) types)) (terms_of (drop (i + 1) types)))
comma_and_rest types i n x same lt is =
    binding_and_rest types i n x same lt is
    ∙ append_assoc (bindings_text 0 (terms_of (take i types)) ++ cond (nat_lt 0 n) (codes ", ") []) (binding_text n (term_of x))
    (rest_of 0 (terms_of (take (i + 1) types)) (terms_of (drop (i + 1) types)))

pub all_bindings : (types : List term.Lp) (i : ℕ) → length types ≤ i → bindings_text 0 (terms_of types) ≡ bindings_text 0 (terms_of (take i types))
all_bindings types i le = ap (λ xs. bindings_text 0 (terms_of xs)) (sym (take_all i types le))
