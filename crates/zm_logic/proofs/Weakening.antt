-- A sequent with more formulas has a derivation too. An epsilon term may have to be renamed on the way.
use Rattle.std.proofs.Common.{ℕ, ◌≡◌, zero, suc, ◌⊎◌, inl, inr, refl, ap, sym, ◌∙◌, subst, arith, List, [], ◌∷◌, map, Some}
use Rattle.std.specs.List.{Contains}
use Rattle.zm_logic.specs.Tree.{Ty, Tys, Term, Terms, Form, Opening, Symbol, Rule, both, either, implies, iff, for_all, exists, for_all_types, exists_types, differ}
use Rattle.zm_logic.specs.Opening.{at_term, at_type}
use Rattle.zm_logic.specs.Parameter.{IsNot, IsFresh, IsFreshForAll}
use Rattle.zm_logic.specs.Typing.{HaveTypes, IsSignature, symbol_at, argument_types}
use Rattle.zm_logic.specs.Calculus.{Derives, DerivesEach, differ_each}
use Rattle.zm_logic.proofs.Substitution.{Substitution, sub_type, sub_types, sub_term, sub_terms, sub, sub_open, same, Agree}
use Rattle.zm_logic.proofs.Each.{each, some_fresh_for_all}
use Rattle.zm_logic.proofs.Typed.{rename_eps, rename_param, sub_at_eps, sub_at_param, agree_eps, agree_param, sub_is_type, sub_has_type, sub_have_types, declared_types_sub, no_parameters}
use Rattle.zm_logic.proofs.Renaming.{Renames, renames_closed, renames_puts, renames_eps, renames_param, respects_renamed_term, respects_renamed_terms, congruent_sub}
use Rattle.zm_logic.specs.Laws.{AreWithoutParameters, WeakeningIsAdmissible}
use Rattle.zm_logic.proofs.Instance.{identity, form_itself}

-- each formula of gamma, renamed, stands in delta
abbrev pub Within : Substitution → List Form → List Form → Type 0
Within s gamma delta = (f : Form) → Contains gamma f → Contains delta (sub s f)

there : (x f : Form) (xs : List Form) → Contains xs f → Contains (x ∷ xs) f
there x f xs c = (suc c.0, omega arith, c.2)

pub first_or_later : (x f : Form) (xs : List Form) → Contains (x ∷ xs) f → (x ≡ f) ⊎ Contains xs f
first_or_later x f xs (zero, h, e) = inl e
first_or_later x f xs (suc k, h, e) = inr (k, omega arith, e)

pub within_more : (s : Substitution) (x : Form) (gamma delta : List Form) → Within s gamma delta → Within s (x ∷ gamma) (sub s x ∷ delta)
within_more s x gamma delta w f c = go (first_or_later x f gamma c)
  where
    go : (x ≡ f) ⊎ Contains gamma f → Contains (sub s x ∷ delta) (sub s f)
    go (inl e) = (0, omega arith, ap (sub s) e)
    go (inr h) = there (sub s x) (sub s f) delta (w f h)

fresh_member : (n : ℕ) (f : Form) (fs : List Form) → IsFreshForAll n fs → Contains fs f → IsFresh n f
fresh_member n f [] h c = absurd (omega arith)
fresh_member n f (x ∷ xs) h c = go (first_or_later x f xs c) (fresh_member n f xs h.1)
  where
    go : (x ≡ f) ⊎ Contains xs f → (Contains xs f → IsFresh n f) → IsFresh n f
    go (inl e) later = subst (IsFresh n) e h.0
    go (inr d) later = later d

-- a renaming of a fresh number leaves the sequent's formulas as they were renamed
within_eps : (s : Substitution) (n m : ℕ) (gamma delta : List Form) → IsFreshForAll n gamma → Within s gamma delta
    → Within (rename_eps s n m) gamma delta
within_eps s n m gamma delta fresh w f c =
    subst (Contains delta) (sym (same (rename_eps s n m) s f (each (IsNot n) (Agree (rename_eps s n m) s) (agree_eps s n m) f (fresh_member n f gamma fresh c)))) (w f c)

within_param : (s : Substitution) (n m : ℕ) (gamma delta : List Form) → IsFreshForAll n gamma → Within s gamma delta
    → Within (rename_param s n m) gamma delta
within_param s n m gamma delta fresh w f c =
    subst (Contains delta) (sym (same (rename_param s n m) s f (each (IsNot n) (Agree (rename_param s n m) s) (agree_param s n m) f (fresh_member n f gamma fresh c)))) (w f c)

differ_each_sub : (s : Substitution) (ts : Tys) (us vs : Terms)
    → differ_each (sub_types s.types ts) (sub_terms s us) (sub_terms s vs) ≡ map (sub s) (differ_each ts us vs)
differ_each_sub s Tys.none us vs = refl
differ_each_sub s (Tys.more t ts) Terms.none vs = refl
differ_each_sub s (Tys.more t ts) (Terms.more a us) Terms.none = refl
differ_each_sub s (Tys.more t ts) (Terms.more a us) (Terms.more b vs) =
    ap (λ fs. differ (sub_type s.types t) (sub_term s a) (sub_term s b) ∷ fs) (differ_each_sub s ts us vs)

-- the differences of the arguments, put through
differences_sub : (symbols : List Symbol) → IsSignature symbols → (s : Substitution) → Renames s → (x : Symbol) (p : ℕ) (ts : Tys) (us vs : Terms)
    → symbol_at symbols p ≡ Some x
    → map (sub s) (differ_each (argument_types x ts) us vs) ≡ differ_each (argument_types x (sub_types s.types ts)) (sub_terms s us) (sub_terms s vs)
differences_sub symbols sig s r x p ts us vs e =
    sym (differ_each_sub s (argument_types x ts) us vs)
    ∙ ap (λ rs. differ_each rs (sub_terms s us) (sub_terms s vs))
    (declared_types_sub s (renames_closed s r) ts x.arguments (no_parameters symbols sig p x e).arguments)

-- the arguments have the declared types, put through
arguments_sub : (symbols : List Symbol) → IsSignature symbols → (s : Substitution) → Renames s → (x : Symbol) (p : ℕ) (ts : Tys) (us : Terms)
    → symbol_at symbols p ≡ Some x → HaveTypes symbols us (argument_types x ts)
    → HaveTypes symbols (sub_terms s us) (argument_types x (sub_types s.types ts))
arguments_sub symbols sig s r x p ts us e h =
    subst (HaveTypes symbols (sub_terms s us))
    (declared_types_sub s (renames_closed s r) ts x.arguments (no_parameters symbols sig p x e).arguments)
    (sub_have_types symbols sig s (renames_puts symbols s r) (renames_closed s r) us (argument_types x ts) h (respects_renamed_terms symbols s r us))

module _ (symbols : List Symbol) (rules : List Rule) (sig : IsSignature symbols) (free : AreWithoutParameters rules) where
  mutual
    pub renamed : {gamma : List Form} (s : Substitution) → Renames s → (delta : List Form) → Within s gamma delta
        → Derives symbols rules gamma → Derives symbols rules delta
    renamed s r delta w (Derives.falsity c) = Derives.falsity (w Form.falsity c)
    renamed s r delta w (Derives.not_truth c) = Derives.not_truth (w (Form.negation Form.truth) c)
    renamed s r delta w (Derives.closes a c d) = Derives.closes (sub s a) (w a c) (w (Form.negation a) d)
    renamed s r delta w (Derives.reflexive t a c) = Derives.reflexive (sub_type s.types t) (sub_term s a) (w (differ t a a) c)
    renamed s r delta w (Derives.symmetric t a b c d) =
        Derives.symmetric (sub_type s.types t) (sub_term s a) (sub_term s b) (w (Form.equal t a b) c) (w (differ t b a) d)
    renamed s r delta w (Derives.not_not {gamma = g} a c d) =
        Derives.not_not (sub s a) (w (Form.negation (Form.negation a)) c) (renamed s r (sub s a ∷ delta) (within_more s a g delta w) d)
    renamed s r delta w (Derives.conjunction {gamma = g} a b c d) =
        Derives.conjunction (sub s a) (sub s b) (w (both a b) c) (renamed s r (sub s (a) ∷ sub s (b) ∷ delta) (within_more s (a) ((b) ∷ g) (sub s (b) ∷ delta) (within_more s (b) g delta w)) d)
    renamed s r delta w (Derives.not_or {gamma = g} a b c d) =
        Derives.not_or (sub s a) (sub s b) (w (Form.negation (either a b)) c) (renamed s r (sub s (Form.negation a) ∷ sub s (Form.negation b) ∷ delta) (within_more s (Form.negation a) ((Form.negation b) ∷ g) (sub s (Form.negation b) ∷ delta) (within_more s (Form.negation b) g delta w)) d)
    renamed s r delta w (Derives.not_implies {gamma = g} a b c d) =
        Derives.not_implies (sub s a) (sub s b) (w (Form.negation (implies a b)) c) (renamed s r (sub s (a) ∷ sub s (Form.negation b) ∷ delta) (within_more s (a) ((Form.negation b) ∷ g) (sub s (Form.negation b) ∷ delta) (within_more s (Form.negation b) g delta w)) d)
    renamed s r delta w (Derives.disjunction {gamma = g} a b c d e) =
        Derives.disjunction (sub s a) (sub s b) (w (either a b) c)
        (renamed s r (sub s (a) ∷ delta) (within_more s (a) g delta w) d)
        (renamed s r (sub s (b) ∷ delta) (within_more s (b) g delta w) e)
    renamed s r delta w (Derives.not_and {gamma = g} a b c d e) =
        Derives.not_and (sub s a) (sub s b) (w (Form.negation (both a b)) c)
        (renamed s r (sub s (Form.negation a) ∷ delta) (within_more s (Form.negation a) g delta w) d)
        (renamed s r (sub s (Form.negation b) ∷ delta) (within_more s (Form.negation b) g delta w) e)
    renamed s r delta w (Derives.implication {gamma = g} a b c d e) =
        Derives.implication (sub s a) (sub s b) (w (implies a b) c)
        (renamed s r (sub s (Form.negation a) ∷ delta) (within_more s (Form.negation a) g delta w) d)
        (renamed s r (sub s (b) ∷ delta) (within_more s (b) g delta w) e)
    renamed s r delta w (Derives.equivalence {gamma = g} a b c d e) =
        Derives.equivalence (sub s a) (sub s b) (w (iff a b) c)
        (renamed s r (sub s (a) ∷ sub s (b) ∷ delta) (within_more s (a) ((b) ∷ g) (sub s (b) ∷ delta) (within_more s (b) g delta w)) d)
        (renamed s r (sub s (Form.negation a) ∷ sub s (Form.negation b) ∷ delta) (within_more s (Form.negation a) ((Form.negation b) ∷ g) (sub s (Form.negation b) ∷ delta) (within_more s (Form.negation b) g delta w)) e)
    renamed s r delta w (Derives.not_iff {gamma = g} a b c d e) =
        Derives.not_iff (sub s a) (sub s b) (w (Form.negation (iff a b)) c)
        (renamed s r (sub s (a) ∷ sub s (Form.negation b) ∷ delta) (within_more s (a) ((Form.negation b) ∷ g) (sub s (Form.negation b) ∷ delta) (within_more s (Form.negation b) g delta w)) d)
        (renamed s r (sub s (Form.negation a) ∷ sub s (b) ∷ delta) (within_more s (Form.negation a) ((b) ∷ g) (sub s (b) ∷ delta) (within_more s (b) g delta w)) e)
    renamed s r delta w (Derives.existential {gamma = g} t f n c fresh d) =
        let m = some_fresh_for_all delta in
        let x = rename_eps s n m.0 in
        let e = sub_at_eps s (renames_closed s r) n m.0 t f (fresh_member n (exists t f) g fresh c).1 in
        Derives.existential (sub_type s.types t) (sub s f) m.0 (w (exists t f) c) m.1
        (subst (λ y. Derives symbols rules (y ∷ delta)) e
        (renamed x (renames_eps s n m.0 r) (sub x (at_term f (Term.eps n t)) ∷ delta)
        (within_more x (at_term f (Term.eps n t)) g delta (within_eps s n m.0 g delta fresh w)) d))
    renamed s r delta w (Derives.not_for_all {gamma = g} t f n c fresh d) =
        let m = some_fresh_for_all delta in
        let x = rename_eps s n m.0 in
        let e = sub_at_eps s (renames_closed s r) n m.0 t f (fresh_member n (Form.negation (for_all t f)) g fresh c).1 in
        Derives.not_for_all (sub_type s.types t) (sub s f) m.0 (w (Form.negation (for_all t f)) c) m.1
        (subst (λ y. Derives symbols rules (Form.negation y ∷ delta)) e
        (renamed x (renames_eps s n m.0 r) (sub x (Form.negation (at_term f (Term.eps n t))) ∷ delta)
        (within_more x (Form.negation (at_term f (Term.eps n t))) g delta (within_eps s n m.0 g delta fresh w)) d))
    renamed s r delta w (Derives.existential_types {gamma = g} f n c fresh d) =
        let m = some_fresh_for_all delta in
        let x = rename_param s n m.0 in
        let e = sub_at_param s (renames_closed s r) n m.0 f (fresh_member n (exists_types f) g fresh c) in
        Derives.existential_types (sub s f) m.0 (w (exists_types f) c) m.1
        (subst (λ y. Derives symbols rules (y ∷ delta)) e
        (renamed x (renames_param s n m.0 r) (sub x (at_type f (Ty.param n)) ∷ delta)
        (within_more x (at_type f (Ty.param n)) g delta (within_param s n m.0 g delta fresh w)) d))
    renamed s r delta w (Derives.not_for_all_types {gamma = g} f n c fresh d) =
        let m = some_fresh_for_all delta in
        let x = rename_param s n m.0 in
        let e = sub_at_param s (renames_closed s r) n m.0 f (fresh_member n (Form.negation (for_all_types f)) g fresh c) in
        Derives.not_for_all_types (sub s f) m.0 (w (Form.negation (for_all_types f)) c) m.1
        (subst (λ y. Derives symbols rules (Form.negation y ∷ delta)) e
        (renamed x (renames_param s n m.0 r) (sub x (Form.negation (at_type f (Ty.param n))) ∷ delta)
        (within_more x (Form.negation (at_type f (Ty.param n))) g delta (within_param s n m.0 g delta fresh w)) d))
    renamed s r delta w (Derives.universal {gamma = g} t f u c h d) =
        Derives.universal (sub_type s.types t) (sub s f) (sub_term s u) (w (for_all t f) c)
        (sub_has_type symbols sig s (renames_puts symbols s r) (renames_closed s r) u t h (respects_renamed_term symbols s r u))
        (subst (λ y. Derives symbols rules (y ∷ delta)) (sub_open s (renames_closed s r) 0 (Opening.of_term u) f)
        (renamed s r (sub s (at_term f u) ∷ delta) (within_more s (at_term f u) g delta w) d))
    renamed s r delta w (Derives.not_exists {gamma = g} t f u c h d) =
        Derives.not_exists (sub_type s.types t) (sub s f) (sub_term s u) (w (Form.negation (exists t f)) c)
        (sub_has_type symbols sig s (renames_puts symbols s r) (renames_closed s r) u t h (respects_renamed_term symbols s r u))
        (subst (λ y. Derives symbols rules (Form.negation y ∷ delta)) (sub_open s (renames_closed s r) 0 (Opening.of_term u) f)
        (renamed s r (sub s (Form.negation (at_term f u)) ∷ delta) (within_more s (Form.negation (at_term f u)) g delta w) d))
    renamed s r delta w (Derives.universal_types {gamma = g} f t c h d) =
        Derives.universal_types (sub s f) (sub_type s.types t) (w (for_all_types f) c)
        (sub_is_type symbols sig s (renames_puts symbols s r) t h)
        (subst (λ y. Derives symbols rules (y ∷ delta)) (sub_open s (renames_closed s r) 0 (Opening.of_type t) f)
        (renamed s r (sub s (at_type f t) ∷ delta) (within_more s (at_type f t) g delta w) d))
    renamed s r delta w (Derives.not_exists_types {gamma = g} f t c h d) =
        Derives.not_exists_types (sub s f) (sub_type s.types t) (w (Form.negation (exists_types f)) c)
        (sub_is_type symbols sig s (renames_puts symbols s r) t h)
        (subst (λ y. Derives symbols rules (Form.negation y ∷ delta)) (sub_open s (renames_closed s r) 0 (Opening.of_type t) f)
        (renamed s r (sub s (Form.negation (at_type f t)) ∷ delta) (within_more s (Form.negation (at_type f t)) g delta w) d))
    renamed s r delta w (Derives.equal_arguments p x ts us vs e y z c d h) =
        Derives.equal_arguments p x (sub_types s.types ts) (sub_terms s us) (sub_terms s vs) e
        (arguments_sub symbols sig s r x p ts us e y) (arguments_sub symbols sig s r x p ts vs e z) (w (Form.atom p ts us) c)
        (w (Form.negation (Form.atom p ts vs)) d)
        (subst (DerivesEach symbols rules delta) (differences_sub symbols sig s r x p ts us vs e) (renamed_each s r delta w h))
    renamed s r delta w (Derives.equal_values t f x ts us vs e y z c h) =
        Derives.equal_values (sub_type s.types t) f x (sub_types s.types ts) (sub_terms s us) (sub_terms s vs) e
        (arguments_sub symbols sig s r x f ts us e y) (arguments_sub symbols sig s r x f ts vs e z)
        (w (differ t (Term.app f ts us) (Term.app f ts vs)) c)
        (subst (DerivesEach symbols rules delta) (differences_sub symbols sig s r x f ts us vs e) (renamed_each s r delta w h))
    renamed s r delta w (Derives.transitive_first {gamma = g} t a b c d x y h k) =
        Derives.transitive_first (sub_type s.types t) (sub_term s a) (sub_term s b) (sub_term s c) (sub_term s d) (w (Form.equal t a b) x) (w (differ t c d) y)
        (renamed s r (sub s (differ t c a) ∷ delta) (within_more s (differ t c a) g delta w) h)
        (renamed s r (sub s (differ t b d) ∷ delta) (within_more s (differ t b d) g delta w) k)
    renamed s r delta w (Derives.transitive_second {gamma = g} t a b c d x y h k) =
        Derives.transitive_second (sub_type s.types t) (sub_term s a) (sub_term s b) (sub_term s c) (sub_term s d) (w (Form.equal t a b) x) (w (differ t c d) y)
        (renamed s r (sub s (differ t c b) ∷ delta) (within_more s (differ t c b) g delta w) h)
        (renamed s r (sub s (differ t a d) ∷ delta) (within_more s (differ t a d) g delta w) k)
    renamed s r delta w (Derives.conversion {gamma = g} f h c e d) =
        Derives.conversion (sub s f) (sub s h) (w f c) (congruent_sub rules free symbols sig s r e)
        (renamed s r (sub s h ∷ delta) (within_more s h g delta w) d)

    pub renamed_each : {gamma fs : List Form} (s : Substitution) → Renames s → (delta : List Form) → Within s gamma delta
        → DerivesEach symbols rules gamma fs → DerivesEach symbols rules delta (map (sub s) fs)
    renamed_each s r delta w DerivesEach.none = DerivesEach.none
    renamed_each s r delta w (DerivesEach.more {f = f} {gamma = g} d e) =
        DerivesEach.more (renamed s r (sub s f ∷ delta) (within_more s f g delta w) d) (renamed_each s r delta w e)

  -- what has a derivation has one with more formulas
  pub weaken : (gamma delta : List Form) → ((f : Form) → Contains gamma f → Contains delta f) → Derives symbols rules gamma
      → Derives symbols rules delta
  weaken gamma delta w d =
      renamed identity (record { types = λ n. (n, refl); terms = λ n. (n, λ t. refl) }) delta
      (λ f c. subst (Contains delta) (sym (form_itself f)) (w f c)) d

pub weakening : WeakeningIsAdmissible
weakening symbols rules gamma delta sig free w d = weaken symbols rules sig free gamma delta w d
