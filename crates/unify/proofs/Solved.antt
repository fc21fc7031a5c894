-- Bindings as they are made: what they give is the most general solution.
use Rattle.std.proofs.Common.{ℕ, ◌≡◌, ◌≢◌, inl, inr, List, [], ◌∷◌, refl, ap, sym, subst, ◌∙◌}
use Rattle.std.proofs.lemmas.Bool.Decides.{eqb_tells}
use Rattle.zm_logic.specs.Tree.{Ty, Tys, Term, Terms}
use Rattle.unify.specs.Lawful.{LacksTypeBinding, LacksTermBinding, AreLawful}
use Rattle.unify.specs.Substitution.{Substitution, put_type, put_types, put_term, put_terms}
use Rattle.unify.specs.Binding.{Binding, only_type, only_term, solved_type, solved_term, if_type_meta, if_term_meta, head_type, head_term}
use Rattle.unify.specs.Unification.{LacksTypeMeta, LacksTermMeta}
use Rattle.unify.specs.Solution.{Agrees}
use Rattle.unify.proofs.Same.{same_meta_tells}
use Rattle.unify.proofs.Put.{put_only_type, put_only_type_in_term, put_only_term, put_types_kept, lacking_type, lacking_term, itself_type, other_type, itself_term, other_term}

-- lists of trees with all bindings put in
abbrev pub solved_types : List Binding → Tys → Tys
solved_types [] ts = ts
solved_types (Binding.of_type m u ∷ bs) ts = put_types (only_type m (solved_type bs u)) (solved_types bs ts)
solved_types (Binding.of_term m k u ∷ bs) ts = solved_types bs ts

abbrev pub solved_terms : List Binding → Terms → Terms
solved_terms [] us = us
solved_terms (Binding.of_type m u ∷ bs) us = put_terms (only_type m (solved_type bs u)) (solved_terms bs us)
solved_terms (Binding.of_term m k u ∷ bs) us = put_terms (only_term m k (solved_term bs u)) (solved_terms bs us)

-- a substitution that solves the bindings takes no notice of them: they are the most general
pub agrees_type : (a : Substitution) (bs : List Binding) → Agrees a bs → (t : Ty) → put_type a (solved_type bs t) ≡ put_type a t
agrees_type a [] h t = refl
agrees_type a (Binding.of_type m u ∷ bs) h t =
    put_only_type a m (solved_type bs u) (agrees_type a bs h.1 u ∙ sym h.0) (solved_type bs t) ∙ agrees_type a bs h.1 t
agrees_type a (Binding.of_term m k u ∷ bs) h t = agrees_type a bs h.1 t

pub agrees_term : (a : Substitution) (bs : List Binding) → Agrees a bs → (t : Term) → put_term a (solved_term bs t) ≡ put_term a t
agrees_term a [] h t = refl
agrees_term a (Binding.of_type m u ∷ bs) h t =
    put_only_type_in_term a m (solved_type bs u) (agrees_type a bs h.1 u ∙ sym h.0) (solved_term bs t) ∙ agrees_term a bs h.1 t
agrees_term a (Binding.of_term m k u ∷ bs) h t =
    put_only_term a m k (solved_term bs u) (agrees_term a bs h.1 u ∙ sym h.0) (solved_term bs t) ∙ agrees_term a bs h.1 t

-- bindings go into the parts
pub solved_con : (bs : List Binding) (c : ℕ) (ts : Tys) → solved_type bs (Ty.con c ts) ≡ Ty.con c (solved_types bs ts)
solved_con [] c ts = refl
solved_con (Binding.of_type m u ∷ bs) c ts = ap (put_type (only_type m (solved_type bs u))) (solved_con bs c ts)
solved_con (Binding.of_term m k u ∷ bs) c ts = solved_con bs c ts

pub solved_more : (bs : List Binding) (t : Ty) (ts : Tys) → solved_types bs (Tys.more t ts) ≡ Tys.more (solved_type bs t) (solved_types bs ts)
solved_more [] t ts = refl
solved_more (Binding.of_type m u ∷ bs) t ts = ap (put_types (only_type m (solved_type bs u))) (solved_more bs t ts)
solved_more (Binding.of_term m k u ∷ bs) t ts = solved_more bs t ts

pub solved_app : (bs : List Binding) (f : ℕ) (ts : Tys) (us : Terms) → solved_term bs (Term.app f ts us) ≡ Term.app f (solved_types bs ts) (solved_terms bs us)
solved_app [] f ts us = refl
solved_app (Binding.of_type m u ∷ bs) f ts us = ap (put_term (only_type m (solved_type bs u))) (solved_app bs f ts us)
solved_app (Binding.of_term m k u ∷ bs) f ts us =
    ap (put_term (only_term m k (solved_term bs u))) (solved_app bs f ts us) ∙ ap (λ x. Term.app f x (put_terms (only_term m k (solved_term bs u)) (solved_terms bs us))) (put_types_kept m k (solved_term bs u) (solved_types bs ts))

pub solved_more_term : (bs : List Binding) (u : Term) (us : Terms) → solved_terms bs (Terms.more u us) ≡ Terms.more (solved_term bs u) (solved_terms bs us)
solved_more_term [] t ts = refl
solved_more_term (Binding.of_type m u ∷ bs) t ts = ap (put_terms (only_type m (solved_type bs u))) (solved_more_term bs t ts)
solved_more_term (Binding.of_term m k u ∷ bs) t ts = ap (put_terms (only_term m k (solved_term bs u))) (solved_more_term bs t ts)

-- a metavariable that none binds stays
pub unbound_type : (bs : List Binding) (m : ℕ) → LacksTypeBinding m bs → solved_type bs (Ty.meta m) ≡ Ty.meta m
unbound_type [] m h = refl
unbound_type (Binding.of_type n u ∷ bs) m h = ap (put_type (only_type n (solved_type bs u))) (unbound_type bs m h.1) ∙ other_type m n (solved_type bs u) h.0
unbound_type (Binding.of_term n k u ∷ bs) m h = unbound_type bs m h

pub unbound_term : (bs : List Binding) (m : ℕ) (j : Ty) → LacksTermBinding m j bs → solved_term bs (Term.meta m j) ≡ Term.meta m j
unbound_term [] m j h = refl
unbound_term (Binding.of_type n u ∷ bs) m j h = ap (put_term (only_type n (solved_type bs u))) (unbound_term bs m j h)
unbound_term (Binding.of_term n k u ∷ bs) m j h = ap (put_term (only_term n k (solved_term bs u))) (unbound_term bs m j h.1) ∙ other_term m n j k (solved_term bs u) h.0

-- a binding puts its two sides together
pub joined_type : (bs : List Binding) (m : ℕ) (u : Ty) → LacksTypeBinding m bs → LacksTypeMeta m (solved_type bs u)
    → solved_type (Binding.of_type m u ∷ bs) (Ty.meta m) ≡ solved_type (Binding.of_type m u ∷ bs) u
joined_type bs m u h o =
    ap (put_type (only_type m (solved_type bs u))) (unbound_type bs m h) ∙ itself_type m (solved_type bs u) ∙ sym (lacking_type m (solved_type bs u) (solved_type bs u) o)

pub joined_term : (bs : List Binding) (m : ℕ) (k : Ty) (u : Term) → LacksTermBinding m k bs → LacksTermMeta m k (solved_term bs u)
    → solved_term (Binding.of_term m k u ∷ bs) (Term.meta m k) ≡ solved_term (Binding.of_term m k u ∷ bs) u
joined_term bs m k u h o =
    ap (put_term (only_term m k (solved_term bs u))) (unbound_term bs m k h) ∙ itself_term m k (solved_term bs u) ∙ sym (lacking_term m k (solved_term bs u) (solved_term bs u) o)

-- the head of a side is equal to it under the bindings
pub head_solved_type : (bs : List Binding) → AreLawful bs → (t : Ty) → solved_type bs (head_type bs t) ≡ solved_type bs t
head_solved_type [] h t = refl
head_solved_type (Binding.of_term m k u ∷ bs) h t = head_solved_type bs h.3 t
head_solved_type (Binding.of_type m u ∷ bs) h t = go (head_type bs t) ∙ ap (put_type (only_type m (solved_type bs u))) (head_solved_type bs h.3 t)
  where
    go : (s : Ty) → put_type (only_type m (solved_type bs u)) (solved_type bs (if_type_meta m u s)) ≡ put_type (only_type m (solved_type bs u)) (solved_type bs s)
    go (Ty.bound i) = refl
    go (Ty.param i) = refl
    go (Ty.con c ts) = refl
    go (Ty.meta n) = elim (eqb_tells n m) [ inl x ↦ rw x.0 (sym (joined_type bs m u h.0 h.1) ∙ ap (λ i. put_type (only_type m (solved_type bs u)) (solved_type bs (Ty.meta i))) (sym x.1)) | inr x ↦ rw x.0 refl ]

pub head_solved_term : (bs : List Binding) → AreLawful bs → (t : Term) → solved_term bs (head_term bs t) ≡ solved_term bs t
head_solved_term [] h t = refl
head_solved_term (Binding.of_type m u ∷ bs) h t = ap (put_term (only_type m (solved_type bs u))) (head_solved_term bs h.3 t)
head_solved_term (Binding.of_term m k u ∷ bs) h t = go (head_term bs t) ∙ ap (put_term (only_term m k (solved_term bs u))) (head_solved_term bs h.3 t)
  where
    go : (s : Term) → put_term (only_term m k (solved_term bs u)) (solved_term bs (if_term_meta m k u s)) ≡ put_term (only_term m k (solved_term bs u)) (solved_term bs s)
    go (Term.bound i) = refl
    go (Term.eps i t) = refl
    go (Term.app f ts us) = refl
    go (Term.meta n j) = elim (same_meta_tells n m j k) [ inl x ↦ rw x.0 (sym (joined_term bs m k u h.0 h.1) ∙ ap (λ i. put_term (only_term m k (solved_term bs u)) (solved_term bs i)) (sym x.1)) | inr x ↦ rw x.0 refl ]

-- a metavariable at the head of a side is bound by none
pub head_unbound_type : (bs : List Binding) → AreLawful bs → (t : Ty) (n : ℕ) → head_type bs t ≡ Ty.meta n → LacksTypeBinding n bs
head_unbound_type [] h t n e = tt
head_unbound_type (Binding.of_term m k u ∷ bs) h t n e = head_unbound_type bs h.3 t n e
head_unbound_type (Binding.of_type m u ∷ bs) h t n e = go (head_unbound_type bs h.3 t n) (head_type bs t) refl e
  where
    made : u ≡ Ty.meta n → LacksTypeBinding n (Binding.of_type m u ∷ bs)
    made x = let l = h.2 n x in (subst (LacksTypeMeta m) (ap (solved_type bs) x ∙ unbound_type bs n l) h.1, l)

    go : (head_type bs t ≡ Ty.meta n → LacksTypeBinding n bs) → (s : Ty) → head_type bs t ≡ s → if_type_meta m u s ≡ Ty.meta n → LacksTypeBinding n (Binding.of_type m u ∷ bs)
    go rest (Ty.bound i) r x = absurd cc
    go rest (Ty.param i) r x = absurd cc
    go rest (Ty.con c ts) r x = absurd cc
    go rest (Ty.meta i) r x = elim (eqb_tells i m) [ inl y ↦ made (sym (rw y.0 refl) ∙ x) | inr y ↦ (let z : Ty.meta i ≡ Ty.meta n = sym (rw y.0 refl) ∙ x in let w : i ≡ n = cc in (subst (λ j. j ≢ m) w y.1, rest (r ∙ z))) ]

pub head_unbound_term : (bs : List Binding) → AreLawful bs → (t : Term) (n : ℕ) (j : Ty) → head_term bs t ≡ Term.meta n j → LacksTermBinding n j bs
head_unbound_term [] h t n j e = tt
head_unbound_term (Binding.of_type m u ∷ bs) h t n j e = head_unbound_term bs h.3 t n j e
head_unbound_term (Binding.of_term m k u ∷ bs) h t n j e = go (head_unbound_term bs h.3 t n j) (head_term bs t) refl e
  where
    made : u ≡ Term.meta n j → LacksTermBinding n j (Binding.of_term m k u ∷ bs)
    made x = let l = h.2 n j x in (subst (LacksTermMeta m k) (ap (solved_term bs) x ∙ unbound_term bs n j l) h.1, l)

    go : (head_term bs t ≡ Term.meta n j → LacksTermBinding n j bs) → (s : Term) → head_term bs t ≡ s → if_term_meta m k u s ≡ Term.meta n j → LacksTermBinding n j (Binding.of_term m k u ∷ bs)
    go rest (Term.bound i) r x = absurd cc
    go rest (Term.eps i t) r x = absurd cc
    go rest (Term.app f ts us) r x = absurd cc
    go rest (Term.meta i l) r x = elim (same_meta_tells i m l k) [ inl y ↦ made (sym (rw y.0 refl) ∙ x) | inr y ↦ (let z : Term.meta i l ≡ Term.meta n j = sym (rw y.0 refl) ∙ x in (subst (λ w. w ≢ Term.meta m k) z y.1, rest (r ∙ z))) ]
