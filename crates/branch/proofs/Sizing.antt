-- Sizes of trees, counted up to the greatest u64, and as they are kept.
use Rattle.std.proofs.Common.{ℕ, ◌≡◌, ◌+◌, ◌-◌, ◌^◌, ◌<◌, min, cond, Some, List, [], ◌∷◌, ◌++◌, length, take, get_or, nat_eq, refl, ap, sym, subst, ◌∙◌, inl, inr, arith}
use Rattle.std.specs.List.{fold, sum_by}
use Rattle.std.specs.Map.{lookup}
use Rattle.std.proofs.lemmas.Bool.Decides.{eqb_tells}
use Rattle.std.proofs.lemmas.List.{take_more}
use Rattle.term_store.proofs.Equal.{same_type, same_term, same_form}
use Rattle.indexmap.specs.IndexMap.{IndexMap, get}
use Rattle.zm_logic.specs.Tree as tree
use Rattle.zm_logic.specs.Measure.{type_size, types_size, term_size, terms_size, size}
use Rattle.term_store.specs.Node.{type_at, types_at, term_at, terms_at}
use Rattle.term_store.specs.Trees.{Tables, form_of, Extends}
use Rattle.term_store.specs.declared.ids.TyId.{TyId}
use Rattle.term_store.specs.declared.ids.TermId.{TermId}
use Rattle.term_store.specs.declared.ids.FormId.{FormId}
use Rattle.term_store.proofs.Kept.{still_type, still_term, still_form, kept_type, kept_term, kept_form}
use Rattle.param_store.specs.View.{forms_of, lists_of}
use Rattle.branch.specs.declared.sizes.Sizes.{Sizes}
use Rattle.branch.specs.Offers.{Child, total_size}
use Rattle.branch.specs.Left.{unchanged}
use Rattle.branch.specs.Listed.{capped, forms_size, lists_size, children_of}
use Rattle.branch.specs.Sizes.{KnowsSizes}

-- sums that don't pass the greatest number count on
sum_at : (top a b n m : ℕ) → a ≡ min n top → b ≡ min m top → min (a + b) top ≡ min (n + m) top
sum_at top a b n m e h = omega arith

pub capped_sum : (a b n m : ℕ) → a ≡ capped n → b ≡ capped m → capped (a + b) ≡ capped (n + m)
capped_sum a b n m e h = sum_at (2 ^ 64 - 1) a b n m e h

pub capped_more : (a n : ℕ) → a ≡ capped n → capped (a + 1) ≡ capped (1 + n)
capped_more a n e =
    let one : 1 ≡ capped 1 = refl in
    let turned : n + 1 ≡ 1 + n = omega arith in
    capped_sum a 1 n 1 e one ∙ ap capped turned

-- the size of a list, one further
pub types_size_more : (T : List tree.Ty) (is : List TyId) (j : ℕ) (d : TyId) → j < length is
    → types_size (types_at T (take (j + 1) is)) ≡ types_size (types_at T (take j is)) + type_size (type_at T (get_or is j d))
types_size_more T is j d l = rw (take_more is j d l) (pushed (take j is) (get_or is j d))
  where
    pushed : (xs : List TyId) (x : TyId) → types_size (types_at T (xs ++ x ∷ [])) ≡ types_size (types_at T xs) + type_size (type_at T x)
    pushed [] x = omega arith
    pushed (y ∷ ys) x = omega (arith, pushed ys x)

pub terms_size_more : (U : List tree.Term) (is : List TermId) (j : ℕ) (d : TermId) → j < length is
    → terms_size (terms_at U (take (j + 1) is)) ≡ terms_size (terms_at U (take j is)) + term_size (term_at U (get_or is j d))
terms_size_more U is j d l = rw (take_more is j d l) (pushed (take j is) (get_or is j d))
  where
    pushed : (xs : List TermId) (x : TermId) → terms_size (terms_at U (xs ++ x ∷ [])) ≡ terms_size (terms_at U xs) + term_size (term_at U x)
    pushed [] x = omega arith
    pushed (y ∷ ys) x = omega (arith, pushed ys x)

pub forms_size_more : (s : Tables) (is : List FormId) (j : ℕ) (d : FormId) → j < length is
    → forms_size (forms_of s (take (j + 1) is)) ≡ forms_size (forms_of s (take j is)) + size (form_of s (get_or is j d))
forms_size_more s is j d l = rw (take_more is j d l) (pushed (take j is) (get_or is j d))
  where
    pushed : (xs : List FormId) (x : FormId) → forms_size (forms_of s (xs ++ x ∷ [])) ≡ forms_size (forms_of s xs) + size (form_of s x)
    pushed [] x = omega arith
    pushed (y ∷ ys) x = omega (arith, pushed ys x)

pub lists_size_more : (s : Tables) (lists : List (List FormId)) (j : ℕ) (d : List FormId) → j < length lists
    → lists_size (lists_of s (take (j + 1) lists)) ≡ lists_size (lists_of s (take j lists)) + forms_size (forms_of s (get_or lists j d))
lists_size_more s lists j d l = rw (take_more lists j d l) (pushed (take j lists) (get_or lists j d))
  where
    pushed : (xs : List (List FormId)) (x : List FormId) → lists_size (lists_of s (xs ++ x ∷ [])) ≡ lists_size (lists_of s xs) + forms_size (forms_of s x)
    pushed [] x = omega arith
    pushed (y ∷ ys) x = omega (arith, pushed ys x)

-- the size of children that are their own normal forms
forms_total : (a : ℕ) (fs : List tree.Form) → fold (λ n f. n + size f) a fs ≡ a + forms_size fs
forms_total a [] = omega arith
forms_total a (f ∷ fs) = omega (arith, forms_total (a + size f) fs)

lists_total : (a : ℕ) (rs : List (List tree.Form)) → fold (λ n (c : Child). n + sum_by size c.normal) a (unchanged rs) ≡ a + lists_size rs
lists_total a [] = omega arith
lists_total a (r ∷ rs) = omega (arith, lists_total (a + sum_by size r) rs, forms_total 0 r)

pub total_is : (rs : List (List tree.Form)) → lists_size rs ≡ total_size (unchanged rs)
total_is rs = omega (arith, lists_total 0 rs)

pub unchanged_is : (rs : List (List tree.Form)) → children_of rs rs ≡ unchanged rs
unchanged_is [] = refl
unchanged_is (r ∷ rs) = ap (λ cs. record { raw = r; normal = r } ∷ cs) (unchanged_is rs)

-- what is kept stays right while the store grows
pub sizes_stay : (s t : Tables) → Extends s t → (kept : Sizes) → KnowsSizes s kept → KnowsSizes t kept
sizes_stay s t e kept h = record {
  types = λ i n g. (let k = h.types i n g in (still_type s t e i k.0, k.1 ∙ ap (λ x. capped (type_size x)) (sym (kept_type s t e i k.0))));
  terms = λ i n g. (let k = h.terms i n g in (still_term s t e i k.0, k.1 ∙ ap (λ x. capped (term_size x)) (sym (kept_term s t e i k.0))));
  forms = λ i n g. (let k = h.forms i n g in (still_form s t e i k.0, k.1 ∙ ap (λ x. capped (size x)) (sym (kept_form s t e i k.0))));
}

-- nothing is kept at first
pub nothing_kept : (s : Tables) (kept : Sizes) → kept.types.entries ≡ [] → kept.terms.entries ≡ [] → kept.forms.entries ≡ [] → KnowsSizes s kept
nothing_kept s kept e f g = record {
  types = λ i n k. (let h = ap (lookup (λ (y : TyId). nat_eq i.0 y.0)) e in absurd (cc));
  terms = λ i n k. (let h = ap (lookup (λ (y : TermId). nat_eq i.0 y.0)) f in absurd (cc));
  forms = λ i n k. (let h = ap (lookup (λ (y : FormId). nat_eq i.0 y.0)) g in absurd (cc));
}

-- one size more is kept
pub type_kept : {S : Type 0} (P : TyId → ℕ → Type 0) (old new : IndexMap TyId ℕ S) (k : TyId) (r : ℕ)
    → ((q : TyId) → get (λ x y. nat_eq x.0 y.0) new q ≡ cond (nat_eq k.0 q.0) (Some r) (get (λ x y. nat_eq x.0 y.0) old q))
    → ((i : TyId) (j : ℕ) → get (λ x y. nat_eq x.0 y.0) old i ≡ Some j → P i j) → P k r
    → (i : TyId) (j : ℕ) → get (λ x y. nat_eq x.0 y.0) new i ≡ Some j → P i j
type_kept P old new k r u h p i j e =
    elim (eqb_tells k.0 i.0) [
      | inl x ↦ (let f : k ≡ i = same_type k i x.1 in
          let g = sym e ∙ u i ∙ ap (λ b. cond b (Some r) (get (λ x y. nat_eq x.0 y.0) old i)) x.0 in
          let w : j ≡ r = cc in
          subst (λ z. P z j) f (subst (P k) (sym w) p))
      | inr x ↦ (let f = u i ∙ ap (λ b. cond b (Some r) (get (λ x y. nat_eq x.0 y.0) old i)) x.0 in h i j (sym f ∙ e))
    ]

pub term_kept : {S : Type 0} (P : TermId → ℕ → Type 0) (old new : IndexMap TermId ℕ S) (k : TermId) (r : ℕ)
    → ((q : TermId) → get (λ x y. nat_eq x.0 y.0) new q ≡ cond (nat_eq k.0 q.0) (Some r) (get (λ x y. nat_eq x.0 y.0) old q))
    → ((i : TermId) (j : ℕ) → get (λ x y. nat_eq x.0 y.0) old i ≡ Some j → P i j) → P k r
    → (i : TermId) (j : ℕ) → get (λ x y. nat_eq x.0 y.0) new i ≡ Some j → P i j
term_kept P old new k r u h p i j e =
    elim (eqb_tells k.0 i.0) [
      | inl x ↦ (let f : k ≡ i = same_term k i x.1 in
          let g = sym e ∙ u i ∙ ap (λ b. cond b (Some r) (get (λ x y. nat_eq x.0 y.0) old i)) x.0 in
          let w : j ≡ r = cc in
          subst (λ z. P z j) f (subst (P k) (sym w) p))
      | inr x ↦ (let f = u i ∙ ap (λ b. cond b (Some r) (get (λ x y. nat_eq x.0 y.0) old i)) x.0 in h i j (sym f ∙ e))
    ]

pub form_kept : {S : Type 0} (P : FormId → ℕ → Type 0) (old new : IndexMap FormId ℕ S) (k : FormId) (r : ℕ)
    → ((q : FormId) → get (λ x y. nat_eq x.0 y.0) new q ≡ cond (nat_eq k.0 q.0) (Some r) (get (λ x y. nat_eq x.0 y.0) old q))
    → ((i : FormId) (j : ℕ) → get (λ x y. nat_eq x.0 y.0) old i ≡ Some j → P i j) → P k r
    → (i : FormId) (j : ℕ) → get (λ x y. nat_eq x.0 y.0) new i ≡ Some j → P i j
form_kept P old new k r u h p i j e =
    elim (eqb_tells k.0 i.0) [
      | inl x ↦ (let f : k ≡ i = same_form k i x.1 in
          let g = sym e ∙ u i ∙ ap (λ b. cond b (Some r) (get (λ x y. nat_eq x.0 y.0) old i)) x.0 in
          let w : j ≡ r = cc in
          subst (λ z. P z j) f (subst (P k) (sym w) p))
      | inr x ↦ (let f = u i ∙ ap (λ b. cond b (Some r) (get (λ x y. nat_eq x.0 y.0) old i)) x.0 in h i j (sym f ∙ e))
    ]
