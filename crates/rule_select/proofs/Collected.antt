-- From a well typed instance of a tree: the part of each index in the tree has its type.
use Rattle.std.proofs.Common.{ℕ, ◌≡◌, true, inl, inr, ap, sym, ◌∙◌, subst, arith, List}
use Rattle.std.proofs.lemmas.Bool.Decides.{Decides-eqb}
use Rattle.std.proofs.lemmas.Bool.{or_cases}
use Rattle.zm_logic.specs.Tree.{Ty, Tys, Term, Terms, Opening, Symbol}
use Rattle.zm_logic.specs.Opening.{type_at, term_at, type_instance, types_instance}
use Rattle.zm_logic.specs.Parameter.{EachInType, EachInTypes, EachInTerm, EachInTerms, Never}
use Rattle.zm_logic.specs.Index.{type_has, types_have, term_has, terms_have}
use Rattle.zm_logic.specs.Typing.{IsType, AreTypes, HasType, HaveTypes, IsSignature, argument_types}
use Rattle.zm_logic.proofs.Opened.{itself}
use Rattle.zm_logic.proofs.Substitution.{Substitution, sub_type, sub_types, sub_term, sub_terms, Closed}
use Rattle.zm_logic.proofs.Typed.{declared_types_sub, no_parameters}
use Rattle.rule_select.proofs.Instances.{term_instance, terms_instance, con_instance, types_more, app_instance, terms_more}
use Rattle.rule_select.proofs.Beside.{Entry, AreClosedOpenings, entry_type, entry_term}

-- what is shown of each parameter: its part has its type
abbrev pub Meets : List Symbol → Substitution → Opening → Type 0
Meets symbols s (Opening.of_type t) = IsType symbols 0 (sub_type s.types t)
Meets symbols s (Opening.of_term a) = (t : Ty) × HasType symbols a t × HasType symbols (sub_term s a) (sub_type s.types t)

pub meets_type : (symbols : List Symbol) (s : Substitution) (i : ℕ) (o : Opening) → IsType symbols 0 (sub_type s.types (type_at i o i)) → Meets symbols s o
meets_type symbols s i (Opening.of_type t) h =
    let e : type_at i (Opening.of_type t) i ≡ t = rw (itself i) in subst (λ x. IsType symbols 0 (sub_type s.types x)) e h
meets_type symbols s i (Opening.of_term u) h = absurd (omega arith)

pub meets_term : (symbols : List Symbol) (s : Substitution) (i : ℕ) (o : Opening) (t : Ty) → HasType symbols (term_at i o i) t
    → HasType symbols (sub_term s (term_at i o i)) (sub_type s.types t) → Meets symbols s o
meets_term symbols s i (Opening.of_type u) t g h = absurd g
meets_term symbols s i (Opening.of_term a) t g h =
    let e : term_at i (Opening.of_term a) i ≡ a = rw (itself i) in
    (t, subst (λ x. HasType symbols x t) e g, subst (λ x. HasType symbols (sub_term s x) (sub_type s.types t)) e h)

module _ (symbols : List Symbol) (sig : IsSignature symbols) (s : Substitution) (c : Closed s) (es : List Opening) (closed : AreClosedOpenings es)
    (i : ℕ) (o : Opening) (entry : Entry es i o) where
  mutual
    pub collect_type : (t : Ty) → EachInType Never t → type_has i t ≡ true → IsType symbols 0 (sub_type s.types (type_instance es t)) → IsType symbols 0 (type_instance es t)
        → Meets symbols s o
    collect_type (Ty.bound j) free has h g =
        let e : j ≡ i = (Decides-eqb j i).0 has in
        meets_type symbols s i o
        (subst (λ x. IsType symbols 0 (sub_type s.types x)) (ap (λ n. type_instance es (Ty.bound n)) e ∙ entry_type closed entry) h)
    collect_type (Ty.param n) free has h g = absurd free
    collect_type (Ty.meta n) free has h g = absurd free
    collect_type (Ty.con f ts) free has h g =
        collect_types ts free has (subst (IsType symbols 0) (ap (sub_type s.types) (con_instance es f ts)) h).1 (subst (IsType symbols 0) (con_instance es f ts) g).1

    pub collect_types : (ts : Tys) → EachInTypes Never ts → types_have i ts ≡ true → AreTypes symbols 0 (sub_types s.types (types_instance es ts))
        → AreTypes symbols 0 (types_instance es ts) → Meets symbols s o
    collect_types Tys.none free has h g = absurd (cc)
    collect_types (Tys.more t ts) free has h g =
        let x = subst (AreTypes symbols 0) (ap (sub_types s.types) (types_more es t ts)) h in
        let y = subst (AreTypes symbols 0) (types_more es t ts) g in
        elim (or_cases (type_has i t) (types_have i ts) has) [ inl e ↦ collect_type t free.0 e x.0 y.0 | inr e ↦ collect_types ts free.1 e x.1 y.1 ]

  mutual
    pub collect_term : (a : Term) (t : Ty) → EachInTerm Never a → term_has i a ≡ true → HasType symbols (term_instance es a) t
        → HasType symbols (sub_term s (term_instance es a)) (sub_type s.types t) → Meets symbols s o
    collect_term (Term.bound j) t free has g h =
        let e : j ≡ i = (Decides-eqb j i).0 has in
        let x : term_instance es (Term.bound j) ≡ term_at i o i = ap (λ n. term_instance es (Term.bound n)) e ∙ entry_term closed entry in
        meets_term symbols s i o t (subst (λ y. HasType symbols y t) x g) (subst (λ y. HasType symbols (sub_term s y) (sub_type s.types t)) x h)
    collect_term (Term.eps n r) t free has g h = absurd free.0
    collect_term (Term.meta n r) t free has g h = absurd free.0
    collect_term (Term.app f ts us) t free has g h =
        let e = app_instance es f ts us in
        let x = subst (λ y. HasType symbols y t) e g in
        let y = subst (λ y. HasType symbols (sub_term s y) (sub_type s.types t)) e h in
        let d : y.0 ≡ x.0 = cc (x.2.0, y.2.0) in
        let r = declared_types_sub s c (types_instance es ts) x.0.arguments (no_parameters symbols sig f x.0 x.2.0).arguments in
        let z = subst (λ d. HaveTypes symbols (sub_terms s (terms_instance es us)) (argument_types d (sub_types s.types (types_instance es ts)))) d y.5 in
        elim (or_cases (types_have i ts) (terms_have i us) has) [
          | inl k ↦ collect_types ts free.0 k y.4 x.4
          | inr k ↦ collect_terms us (argument_types x.0 (types_instance es ts)) free.1 k x.5
              (subst (HaveTypes symbols (sub_terms s (terms_instance es us))) (sym r) z)
        ]

    pub collect_terms : (us : Terms) (ss : Tys) → EachInTerms Never us → terms_have i us ≡ true → HaveTypes symbols (terms_instance es us) ss
        → HaveTypes symbols (sub_terms s (terms_instance es us)) (sub_types s.types ss) → Meets symbols s o
    collect_terms Terms.none ss free has g h = absurd (cc)
    collect_terms (Terms.more u us) Tys.none free has g h = absurd (subst (λ y. HaveTypes symbols y Tys.none) (terms_more es u us) g)
    collect_terms (Terms.more u us) (Tys.more r ss) free has g h =
        let x = subst (λ y. HaveTypes symbols y (Tys.more r ss)) (terms_more es u us) g in
        let y = subst (λ y. HaveTypes symbols (sub_terms s y) (sub_types s.types (Tys.more r ss))) (terms_more es u us) h in
        elim (or_cases (term_has i u) (terms_have i us) has) [ inl e ↦ collect_term u r free.0 e x.0 y.0 | inr e ↦ collect_terms us ss free.1 e x.1 y.1 ]
