-- The derived comparisons of nodes decide equality.
use Rattle.std.proofs.Common.{ℕ, ◌≡◌, ◌&&◌, Bool, true, nat_eq, List, refl, ap, sym, true≢false}
use Rattle.std.proofs.lemmas.Bool.{eqb-true, eq-eqb, and_parts}
use Rattle.std.specs.Cmp.Lexicographic.{pointwise, pointwise_decides}
use Rattle.std.specs.Ordering.{on}
use Rattle.zm_logic.specs.declared.tree.SymId.{SymId}
use Rattle.term_store.specs.declared.ids.TyId.{TyId}
use Rattle.term_store.specs.declared.ids.TermId.{TermId}
use Rattle.term_store.specs.declared.ids.FormId.{FormId}
use Rattle.term_store.specs.declared.node.TyNode.{TyNode}
use Rattle.term_store.specs.declared.node.TyNode.TheVariants as ty
use Rattle.term_store.specs.declared.node.TermNode.{TermNode}
use Rattle.term_store.specs.declared.node.TermNode.TheVariants as term
use Rattle.term_store.specs.declared.node.FormNode.{FormNode}
use Rattle.term_store.specs.declared.node.FormNode.TheVariants as form
use Rattle.term_store.specs.contracts.node.TyNodePartialEq.TheImpl as type_impl
use Rattle.term_store.specs.contracts.node.TermNodePartialEq.TheImpl as term_impl
use Rattle.term_store.specs.contracts.node.FormNodePartialEq.TheImpl as form_impl

abbrev pub type_eq : TyNode → TyNode → Bool
type_eq = (type_impl.ghosts).eq

abbrev pub term_eq : TermNode → TermNode → Bool
term_eq = (term_impl.ghosts).eq

abbrev pub form_eq : FormNode → FormNode → Bool
form_eq = (form_impl.ghosts).eq

pub same_symbol : (c d : SymId) → c.0 ≡ d.0 → c ≡ d
same_symbol c d e = let make : ℕ → SymId = λ n. record { 0 = n } in ap make e

pub same_type : (i j : TyId) → i.0 ≡ j.0 → i ≡ j
same_type i j e = let make : ℕ → TyId = λ n. record { 0 = n } in ap make e

pub same_term : (i j : TermId) → i.0 ≡ j.0 → i ≡ j
same_term i j e = let make : ℕ → TermId = λ n. record { 0 = n } in ap make e

pub same_form : (i j : FormId) → i.0 ≡ j.0 → i ≡ j
same_form i j e = let make : ℕ → FormId = λ n. record { 0 = n } in ap make e

three_true : (b c d : Bool) → (b && (c && d)) ≡ true → (b ≡ true) × (c ≡ true) × (d ≡ true)
three_true b c d e = let h = and_parts b (c && d) e in let g = and_parts c d h.1 in (h.0, g.0, g.1)

symbols : (c d : SymId) → nat_eq c.0 d.0 ≡ true → c ≡ d
symbols c d e = same_symbol c d (eqb-true c.0 d.0 e)

types : (i j : TyId) → nat_eq i.0 j.0 ≡ true → i ≡ j
types i j e = same_type i j (eqb-true i.0 j.0 e)

terms : (i j : TermId) → nat_eq i.0 j.0 ≡ true → i ≡ j
terms i j e = same_term i j (eqb-true i.0 j.0 e)

forms : (i j : FormId) → nat_eq i.0 j.0 ≡ true → i ≡ j
forms i j e = same_form i j (eqb-true i.0 j.0 e)

itself : (n : ℕ) → nat_eq n n ≡ true
itself n = eq-eqb n n refl

lists_of_types : (is js : List TyId) → (pointwise (on (λ i. i.0) nat_eq) is js ≡ true → is ≡ js) × (is ≡ js → pointwise (on (λ i. i.0) nat_eq) is js ≡ true)
lists_of_types is js = pointwise_decides (λ i j. (types i j, λ e. eq-eqb i.0 j.0 (ap (λ k. k.0) e))) is js

lists_of_terms : (is js : List TermId) → (pointwise (on (λ i. i.0) nat_eq) is js ≡ true → is ≡ js) × (is ≡ js → pointwise (on (λ i. i.0) nat_eq) is js ≡ true)
lists_of_terms is js = pointwise_decides (λ i j. (terms i j, λ e. eq-eqb i.0 j.0 (ap (λ k. k.0) e))) is js

pub type_same : (a b : TyNode) → type_eq a b ≡ true → a ≡ b
type_same (ty.Bound i) (ty.Bound j) e = ap ty.Bound (eqb-true i j e)
type_same (ty.Param i) (ty.Param j) e = ap ty.Param (eqb-true i j e)
type_same (ty.Meta i) (ty.Meta j) e = ap ty.Meta (eqb-true i j e)
type_same (ty.Con c is) (ty.Con d js) e =
    let h = and_parts (nat_eq c.0 d.0) (pointwise (on (λ i. i.0) nat_eq) is js) e in
    let x = symbols c d h.0 in let y = (lists_of_types is js).0 h.1 in cc
type_same _ _ e = absurd (true≢false (sym e))

pub type_self : (a : TyNode) → type_eq a a ≡ true
type_self (ty.Bound i) = itself i
type_self (ty.Param i) = itself i
type_self (ty.Meta i) = itself i
type_self (ty.Con c is) = rw (itself c.0, (lists_of_types is is).1 refl) refl

pub term_same : (a b : TermNode) → term_eq a b ≡ true → a ≡ b
term_same (term.Bound i) (term.Bound j) e = ap term.Bound (eqb-true i j e)
term_same (term.Eps i t) (term.Eps j u) e =
    let h = and_parts (nat_eq i j) (nat_eq t.0 u.0) e in let x = eqb-true i j h.0 in let y = types t u h.1 in cc
term_same (term.Meta i t) (term.Meta j u) e =
    let h = and_parts (nat_eq i j) (nat_eq t.0 u.0) e in let x = eqb-true i j h.0 in let y = types t u h.1 in cc
term_same (term.App f is js) (term.App g ks ls) e =
    let h = three_true (nat_eq f.0 g.0) (pointwise (on (λ i. i.0) nat_eq) is ks) (pointwise (on (λ i. i.0) nat_eq) js ls) e in
    let x = symbols f g h.0 in let y = (lists_of_types is ks).0 h.1 in let z = (lists_of_terms js ls).0 h.2 in cc
term_same _ _ e = absurd (true≢false (sym e))

pub term_self : (a : TermNode) → term_eq a a ≡ true
term_self (term.Bound i) = itself i
term_self (term.Eps i t) = rw (itself i, itself t.0) refl
term_self (term.Meta i t) = rw (itself i, itself t.0) refl
term_self (term.App f is js) = rw (itself f.0, (lists_of_types is is).1 refl, (lists_of_terms js js).1 refl) refl

pub form_same : (a b : FormNode) → form_eq a b ≡ true → a ≡ b
form_same form.True form.True e = refl
form_same form.False form.False e = refl
form_same (form.Atom f is js) (form.Atom g ks ls) e =
    let h = three_true (nat_eq f.0 g.0) (pointwise (on (λ i. i.0) nat_eq) is ks) (pointwise (on (λ i. i.0) nat_eq) js ls) e in
    let x = symbols f g h.0 in let y = (lists_of_types is ks).0 h.1 in let z = (lists_of_terms js ls).0 h.2 in cc
form_same (form.Equal s a b) (form.Equal t c d) e =
    let h = three_true (nat_eq s.0 t.0) (nat_eq a.0 c.0) (nat_eq b.0 d.0) e in
    let x = types s t h.0 in let y = terms a c h.1 in let z = terms b d h.2 in cc
form_same (form.Not f) (form.Not g) e = ap form.Not (forms f g e)
form_same (form.And f g) (form.And h k) e =
    let z = and_parts (nat_eq f.0 h.0) (nat_eq g.0 k.0) e in let x = forms f h z.0 in let y = forms g k z.1 in cc
form_same (form.Or f g) (form.Or h k) e =
    let z = and_parts (nat_eq f.0 h.0) (nat_eq g.0 k.0) e in let x = forms f h z.0 in let y = forms g k z.1 in cc
form_same (form.Imp f g) (form.Imp h k) e =
    let z = and_parts (nat_eq f.0 h.0) (nat_eq g.0 k.0) e in let x = forms f h z.0 in let y = forms g k z.1 in cc
form_same (form.Iff f g) (form.Iff h k) e =
    let z = and_parts (nat_eq f.0 h.0) (nat_eq g.0 k.0) e in let x = forms f h z.0 in let y = forms g k z.1 in cc
form_same (form.All t f) (form.All u g) e =
    let z = and_parts (nat_eq t.0 u.0) (nat_eq f.0 g.0) e in let x = types t u z.0 in let y = forms f g z.1 in cc
form_same (form.Ex t f) (form.Ex u g) e =
    let z = and_parts (nat_eq t.0 u.0) (nat_eq f.0 g.0) e in let x = types t u z.0 in let y = forms f g z.1 in cc
form_same (form.AllType f) (form.AllType g) e = ap form.AllType (forms f g e)
form_same (form.ExType f) (form.ExType g) e = ap form.ExType (forms f g e)
form_same _ _ e = absurd (true≢false (sym e))

pub form_self : (a : FormNode) → form_eq a a ≡ true
form_self form.True = refl
form_self form.False = refl
form_self (form.Atom f is js) = rw (itself f.0, (lists_of_types is is).1 refl, (lists_of_terms js js).1 refl) refl
form_self (form.Equal t a b) = rw (itself t.0, itself a.0, itself b.0) refl
form_self (form.Not f) = itself f.0
form_self (form.And f g) = rw (itself f.0, itself g.0) refl
form_self (form.Or f g) = rw (itself f.0, itself g.0) refl
form_self (form.Imp f g) = rw (itself f.0, itself g.0) refl
form_self (form.Iff f g) = rw (itself f.0, itself g.0) refl
form_self (form.All t f) = rw (itself t.0, itself f.0) refl
form_self (form.Ex t f) = rw (itself t.0, itself f.0) refl
form_self (form.AllType f) = itself f.0
form_self (form.ExType f) = itself f.0
