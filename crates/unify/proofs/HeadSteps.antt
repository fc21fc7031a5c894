-- Heads of ids, one binding further.
use Rattle.std.proofs.Common.{ℕ, ◌≡◌, ◌≢◌, ◌+◌, ◌<◌, true, false, inl, inr, All, List, [], ◌∷◌, ◌++◌, length, get_or, take, drop, refl, ap, sym, subst, ◌∙◌}
use Rattle.std.proofs.lemmas.List.{take_more, take-append-drop}
use Rattle.std.proofs.lemmas.List.Elements.{All-get_or}
use Rattle.std.proofs.lemmas.Bool.Decides.{eqb_tells}
use Rattle.term_store.proofs.Told.{types_told}
use Rattle.zm_logic.specs.Tree.{Ty, Term}
use Rattle.zm_logic.specs.Same.{same_type}
use Rattle.term_store.specs.Trees.{Tables, HasType, HasTerm, type_of, term_of, AreShared}
use Rattle.term_store.specs.declared.ids.TyId.{TyId}
use Rattle.term_store.specs.declared.ids.TermId.{TermId}
use Rattle.unify.specs.Binding as trees
use Rattle.unify.specs.declared.binding.Binding.{Binding}
use Rattle.unify.specs.declared.binding.Binding.TheVariants.{OfTerm, OfType}
use Rattle.unify.specs.View.{HasBinding, binding_of, latest_on, latest}
use Rattle.unify.proofs.Same.{same_type_tells}

abbrev pub id_of : ℕ → TyId
id_of n = record { 0 = n }

-- what stands for a side, where one binding is put in at its head
abbrev past_type : trees.Binding → Ty → Ty
past_type (trees.Binding.of_type m u) t = trees.if_type_meta m u t
past_type (trees.Binding.of_term m k u) t = t

abbrev past_term : trees.Binding → Term → Term
past_term (trees.Binding.of_type m u) t = t
past_term (trees.Binding.of_term m k u) t = trees.if_term_meta m k u t

past_meta_yes : (x u : Term) (n m : ℕ) (t k : Ty) → x ≡ Term.meta n t → n ≡ m → same_type t k ≡ true → u ≡ trees.if_term_meta m k u x
past_meta_yes x u n m t k e f g =
    subst (λ z. u ≡ trees.if_term_meta m k u z) (sym e)
    (elim (eqb_tells n m) [ inl y ↦ rw (y.0, g) refl | inr y ↦ absurd (y.1 f) ])

past_meta_no : (x u : Term) (n m : ℕ) (t k : Ty) → x ≡ Term.meta n t → (n ≡ m → same_type t k ≡ false) → x ≡ trees.if_term_meta m k u x
past_meta_no x u n m t k e f =
    subst (λ z. z ≡ trees.if_term_meta m k u z) (sym e)
    (elim (eqb_tells n m) [ inl y ↦ rw (y.0, f y.1) refl | inr y ↦ rw y.0 refl ])

head_type_more : (b : trees.Binding) (bs : List trees.Binding) (t : Ty) → trees.head_type (b ∷ bs) t ≡ past_type b (trees.head_type bs t)
head_type_more (trees.Binding.of_type m u) bs t = refl
head_type_more (trees.Binding.of_term m k u) bs t = refl

head_term_more : (b : trees.Binding) (bs : List trees.Binding) (t : Term) → trees.head_term (b ∷ bs) t ≡ past_term b (trees.head_term bs t)
head_term_more (trees.Binding.of_type m u) bs t = refl
head_term_more (trees.Binding.of_term m k u) bs t = refl

pub latest_push : (s : Tables) (before : List trees.Binding) (bs : List Binding) (b : Binding) → latest_on s before (bs ++ b ∷ []) ≡ binding_of s b ∷ latest_on s before bs
latest_push s before [] b = refl
latest_push s before (x ∷ xs) b = latest_push s (binding_of s x ∷ before) xs b

-- the head after one more binding of a list
head_type_next : (s : Tables) (bs : List Binding) (i : ℕ) (d : Binding) (t h r : Ty) → i < length bs
    → h ≡ trees.head_type (latest s (take i bs)) t → r ≡ past_type (binding_of s (get_or bs i d)) h
    → r ≡ trees.head_type (latest s (take (i + 1) bs)) t
head_type_next s bs i d t h r l e f =
    rw (take_more bs i d l, latest_push s [] (take i bs) (get_or bs i d))
    (f ∙ ap (past_type (binding_of s (get_or bs i d))) e ∙ sym (head_type_more (binding_of s (get_or bs i d)) (latest s (take i bs)) t))

head_term_next : (s : Tables) (bs : List Binding) (i : ℕ) (d : Binding) (t h r : Term) → i < length bs
    → h ≡ trees.head_term (latest s (take i bs)) t → r ≡ past_term (binding_of s (get_or bs i d)) h
    → r ≡ trees.head_term (latest s (take (i + 1) bs)) t
head_term_next s bs i d t h r l e f =
    rw (take_more bs i d l, latest_push s [] (take i bs) (get_or bs i d))
    (f ∙ ap (past_term (binding_of s (get_or bs i d))) e ∙ sym (head_term_more (binding_of s (get_or bs i d)) (latest s (take i bs)) t))

-- a side that is no metavariable stands for itself
type_past_other : (m : ℕ) (u x : Ty) → ((n : ℕ) → x ≢ Ty.meta n) → trees.if_type_meta m u x ≡ x
type_past_other m u (Ty.bound i) h = refl
type_past_other m u (Ty.param i) h = refl
type_past_other m u (Ty.con c ts) h = refl
type_past_other m u (Ty.meta n) h = absurd (h n refl)

term_past_other : (m : ℕ) (k : Ty) (u x : Term) → ((n : ℕ) (j : Ty) → x ≢ Term.meta n j) → trees.if_term_meta m k u x ≡ x
term_past_other m k u (Term.bound i) h = refl
term_past_other m k u (Term.eps i t) h = refl
term_past_other m k u (Term.app f ts us) h = refl
term_past_other m k u (Term.meta n j) h = absurd (h n j refl)

pub head_type_other : (bs : List trees.Binding) (t : Ty) → ((n : ℕ) → t ≢ Ty.meta n) → t ≡ trees.head_type bs t
head_type_other [] t h = refl
head_type_other (trees.Binding.of_type m u ∷ bs) t h = sym (type_past_other m u t h) ∙ ap (trees.if_type_meta m u) (head_type_other bs t h)
head_type_other (trees.Binding.of_term m k u ∷ bs) t h = head_type_other bs t h

pub head_term_other : (bs : List trees.Binding) (t : Term) → ((n : ℕ) (j : Ty) → t ≢ Term.meta n j) → t ≡ trees.head_term bs t
head_term_other [] t h = refl
head_term_other (trees.Binding.of_type m u ∷ bs) t h = head_term_other bs t h
head_term_other (trees.Binding.of_term m k u ∷ bs) t h = sym (term_past_other m k u t h) ∙ ap (trees.if_term_meta m k u) (head_term_other bs t h)

-- a metavariable past a binding of it, and past another binding
past_type_given : (s : Tables) (b : Binding) (n : ℕ) (to : TyId) → b ≡ OfType n to → type_of s to ≡ past_type (binding_of s b) (Ty.meta n)
past_type_given s b n to e = rw e (elim (eqb_tells n n) [ inl y ↦ rw y.0 refl | inr y ↦ absurd (y.1 refl) ])

past_type_not_given : (s : Tables) (b : Binding) (n : ℕ) → ((to : TyId) → b ≢ OfType n to) → Ty.meta n ≡ past_type (binding_of s b) (Ty.meta n)
past_type_not_given s (OfTerm m k u) n h = refl
past_type_not_given s (OfType m u) n h = elim (eqb_tells n m) [ inl y ↦ absurd (h u (ap (λ (x : ℕ). OfType x u) (sym y.1))) | inr y ↦ rw y.0 refl ]

past_term_given : (s : Tables) (b : Binding) (n : ℕ) (k : TyId) (to : TermId) → b ≡ OfTerm n k to
    → term_of s to ≡ past_term (binding_of s b) (Term.meta n (type_of s k))
past_term_given s b n k to e =
    rw e
    (past_meta_yes (Term.meta n (type_of s k)) (term_of s to) n n (type_of s k) (type_of s k) refl refl
    (elim (same_type_tells (type_of s k) (type_of s k)) [ inl y ↦ y.0 | inr y ↦ absurd (y.1 refl) ]))

past_term_not_given : (s : Tables) (b : Binding) (n : ℕ) (k : TyId) → AreShared s → HasBinding s b → HasType s k → ((to : TermId) → b ≢ OfTerm n k to)
    → Term.meta n (type_of s k) ≡ past_term (binding_of s b) (Term.meta n (type_of s k))
past_term_not_given s (OfType m u) n k sh hb hk h = refl
past_term_not_given s (OfTerm m j u) n k sh hb hk h =
    past_meta_no (Term.meta n (type_of s k)) (term_of s u) n m (type_of s k) (type_of s j) refl
    (λ e. elim (eqb_tells k.0 j.0) [
      | inl x ↦ (let f : k ≡ j = ap (λ (i : ℕ). id_of i) x.1 in absurd (h u (ap (λ (i : ℕ). OfTerm i j u) (sym e) ∙ ap (λ (i : TyId). OfTerm n i u) (sym f))))
      | inr x ↦ sym (types_told s sh k j hk hb.0) ∙ x.0
    ])

-- a tree that is no metavariable stays as it is past a binding, and past all later ones
past_type_other : (b : trees.Binding) (x : Ty) → ((n : ℕ) → x ≢ Ty.meta n) → past_type b x ≡ x
past_type_other (trees.Binding.of_type m u) x h = type_past_other m u x h
past_type_other (trees.Binding.of_term m k u) x h = refl

past_term_other : (b : trees.Binding) (x : Term) → ((n : ℕ) (j : Ty) → x ≢ Term.meta n j) → past_term b x ≡ x
past_term_other (trees.Binding.of_type m u) x h = refl
past_term_other (trees.Binding.of_term m k u) x h = term_past_other m k u x h

latest_append : (s : Tables) (before : List trees.Binding) (bs cs : List Binding) → latest_on s before (bs ++ cs) ≡ latest_on s (latest_on s before bs) cs
latest_append s before [] cs = refl
latest_append s before (b ∷ bs) cs = latest_append s (binding_of s b ∷ before) bs cs

head_type_later : (s : Tables) (before : List trees.Binding) (bs : List Binding) (t x : Ty) → x ≡ trees.head_type before t → ((n : ℕ) → x ≢ Ty.meta n)
    → x ≡ trees.head_type (latest_on s before bs) t
head_type_later s before [] t x e h = e
head_type_later s before (b ∷ bs) t x e h =
    head_type_later s (binding_of s b ∷ before) bs t x
    (sym (past_type_other (binding_of s b) x h) ∙ ap (past_type (binding_of s b)) e ∙ sym (head_type_more (binding_of s b) before t)) h

head_term_later : (s : Tables) (before : List trees.Binding) (bs : List Binding) (t x : Term) → x ≡ trees.head_term before t
    → ((n : ℕ) (j : Ty) → x ≢ Term.meta n j) → x ≡ trees.head_term (latest_on s before bs) t
head_term_later s before [] t x e h = e
head_term_later s before (b ∷ bs) t x e h =
    head_term_later s (binding_of s b ∷ before) bs t x
    (sym (past_term_other (binding_of s b) x h) ∙ ap (past_term (binding_of s b)) e ∙ sym (head_term_more (binding_of s b) before t)) h

-- a list of bindings, as far as a loop has come: what stands at its next place, and the head of a side whose head so far is a metavariable
module _ (s : Tables) (bs : List Binding) (i : ℕ) (d : Binding) (here : i < length bs) where
  pub has_given_type : (n : ℕ) (to : TyId) → All (HasBinding s) bs → get_or bs i d ≡ OfType n to → HasType s to
  has_given_type n to h e = (subst (HasBinding s) e (All-get_or (HasBinding s) bs i d here h)).0

  pub has_given_term : (n : ℕ) (k : TyId) (to : TermId) → All (HasBinding s) bs → get_or bs i d ≡ OfTerm n k to → HasTerm s to
  has_given_term n k to h e = (subst (HasBinding s) e (All-get_or (HasBinding s) bs i d here h)).1

  module _ (t h : Ty) (n : ℕ) (so_far : h ≡ trees.head_type (latest s (take i bs)) t) (is_meta : h ≡ Ty.meta n) where
    pub head_type_kept : ((to : TyId) → get_or bs i d ≢ OfType n to) → h ≡ trees.head_type (latest s (take (i + 1) bs)) t
    head_type_kept g =
        head_type_next s bs i d t h h here so_far
        (subst (λ z. z ≡ past_type (binding_of s (get_or bs i d)) z) (sym is_meta) (past_type_not_given s (get_or bs i d) n g))

    pub head_type_given : (to : TyId) → get_or bs i d ≡ OfType n to → type_of s to ≡ trees.head_type (latest s (take (i + 1) bs)) t
    head_type_given to e =
        head_type_next s bs i d t h (type_of s to) here so_far
        (past_type_given s (get_or bs i d) n to e ∙ ap (past_type (binding_of s (get_or bs i d))) (sym is_meta))

    pub head_type_found : (to : TyId) → get_or bs i d ≡ OfType n to → ((m : ℕ) → type_of s to ≢ Ty.meta m) → type_of s to ≡ trees.head_type (latest s bs) t
    head_type_found to e o =
        subst (λ all. type_of s to ≡ trees.head_type (latest s all) t) (take-append-drop (i + 1) bs)
        (rw (latest_append s [] (take (i + 1) bs) (drop (i + 1) bs))
        (head_type_later s (latest s (take (i + 1) bs)) (drop (i + 1) bs) t (type_of s to) (head_type_given to e) o))

  module _ (t h : Term) (n : ℕ) (k : TyId) (so_far : h ≡ trees.head_term (latest s (take i bs)) t) (is_meta : h ≡ Term.meta n (type_of s k)) where
    pub head_term_kept : AreShared s → All (HasBinding s) bs → HasType s k → ((to : TermId) → get_or bs i d ≢ OfTerm n k to)
        → h ≡ trees.head_term (latest s (take (i + 1) bs)) t
    head_term_kept sh have hk g =
        head_term_next s bs i d t h h here so_far
        (subst (λ z. z ≡ past_term (binding_of s (get_or bs i d)) z) (sym is_meta)
        (past_term_not_given s (get_or bs i d) n k sh (All-get_or (HasBinding s) bs i d here have) hk g))

    pub head_term_given : (to : TermId) → get_or bs i d ≡ OfTerm n k to → term_of s to ≡ trees.head_term (latest s (take (i + 1) bs)) t
    head_term_given to e =
        head_term_next s bs i d t h (term_of s to) here so_far
        (past_term_given s (get_or bs i d) n k to e ∙ ap (past_term (binding_of s (get_or bs i d))) (sym is_meta))

    pub head_term_found : (to : TermId) → get_or bs i d ≡ OfTerm n k to → ((m : ℕ) (j : Ty) → term_of s to ≢ Term.meta m j) → term_of s to ≡ trees.head_term (latest s bs) t
    head_term_found to e o =
        subst (λ all. term_of s to ≡ trees.head_term (latest s all) t) (take-append-drop (i + 1) bs)
        (rw (latest_append s [] (take (i + 1) bs) (drop (i + 1) bs))
        (head_term_later s (latest s (take (i + 1) bs)) (drop (i + 1) bs) t (term_of s to) (head_term_given to e) o))
