-- A typed rule whose left side has every binder keeps the type of what it rewrites.
use Rattle.std.proofs.Common.{ℕ, ◌≡◌, ◌<◌, true, ◌||◌, inl, inr, refl, ap, sym, ◌∙◌, subst, arith, List, map, length}
use Rattle.std.specs.List.{Contains}
use Rattle.std.proofs.lemmas.Bool.{or_cases}
use Rattle.zm_logic.proofs.Inverted.{well_typed_equality, well_typed_left, well_typed_right, well_typed_atom, first_part, second_part}
use Rattle.zm_logic.specs.Tree.{Ty, Tys, Term, Terms, Form, Opening, Symbol, Side, Rule, Binder, iff}
use Rattle.zm_logic.specs.Opening.{type_instance, types_instance, side_instance, openings}
use Rattle.zm_logic.specs.Parameter.{EachInTerm, EachIn, Never}
use Rattle.zm_logic.specs.Index.{type_has, types_have, term_has, terms_have, form_has, side_has}
use Rattle.zm_logic.specs.Typing.{HasType, HaveTypes, WellTyped, IsSignature, argument_types}
use Rattle.zm_logic.specs.Problem.{IsTypedSides}
use Rattle.zm_logic.specs.Rewriting.{Fit}
use Rattle.rule_select.proofs.Kept.{KeepTypes}
use Rattle.zm_logic.proofs.Substitution.{Substitution, sub_type, sub_types, sub_term, sub_terms, sub, sub_opening, Closed}
use Rattle.zm_logic.proofs.Each.{each, each_term}
use Rattle.zm_logic.proofs.Renaming.{sub_side, sub_free_side, side_instance_sub}
use Rattle.zm_logic.proofs.Typed.{Respects, PutsTypes, sub_well_typed, sub_has_type, declared_types_sub, declared_type_sub, no_parameters}
use Rattle.zm_logic.specs.Laws.{HasNoParameterIn}
use Rattle.rule_select.specs.Sound.{IsPattern, IsSound}
use Rattle.rule_select.proofs.Instances.{term_instance, terms_instance, form_instance, side_of_term, side_of_form, app_instance, atom_instance, equal_instance, iff_instance}
use Rattle.rule_select.proofs.Beside.{Entry, Beside, same_length, put, put_closed, parts_put, entry_below, AreClosedOpenings}
use Rattle.rule_select.proofs.Collected.{Meets, collect_type, collect_types, collect_term, collect_terms}
use Rattle.rule_select.proofs.AtParameters.{fit_length, at_parameters, EachMeets, respects_form_instance, respects_term_instance, puts_types, beside_closed}

module _ (symbols : List Symbol) (sig : IsSignature symbols) where
  -- an instance of the side is what the substitution makes of the side at its parameters
  pub through : {es os : List Opening} → Beside symbols es os → (x : Side) → HasNoParameterIn x → sub_side (put os) (side_instance es x) ≡ side_instance os x
  through {es} {os} b x free =
      side_instance_sub (put os) (put_closed symbols b) es x ∙ ap (side_instance (map (sub_opening (put os)) es)) (sub_free_side (put os) x free)
      ∙ ap (λ o. side_instance o x) (parts_put symbols b)

  pub through_term : {es os : List Opening} → Beside symbols es os → (a : Term) → EachInTerm Never a → sub_term (put os) (term_instance es a) ≡ term_instance os a
  through_term {es} {os} b a free =
      let x : Side.of_term (sub_term (put os) (term_instance es a)) ≡ Side.of_term (term_instance os a) =
      sym (ap (sub_side (put os)) (side_of_term es a)) ∙ through b (Side.of_term a) free ∙ side_of_term os a in
      cc

  pub through_form : {es os : List Opening} → Beside symbols es os → (f : Form) → EachIn Never f → sub (put os) (form_instance es f) ≡ form_instance os f
  through_form {es} {os} b f free =
      let x : Side.of_form (sub (put os) (form_instance es f)) ≡ Side.of_form (form_instance os f) =
      sym (ap (sub_side (put os)) (side_of_form es f)) ∙ through b (Side.of_form f) free ∙ side_of_form os f in
      cc

  -- the type of an application is determined
  pub app_determines : (s : Substitution) → Closed s → (f : ℕ) (ts : Tys) (us : Terms) (r t : Ty) → HasType symbols (Term.app f ts us) r
      → HasType symbols (Term.app f (sub_types s.types ts) (sub_terms s us)) t → t ≡ sub_type s.types r
  app_determines s c f ts us r t g h =
      let d : h.0 ≡ g.0 = cc (g.2.0, h.2.0) in
      let e : h.1 ≡ g.1 = cc (d, g.3, h.3) in
      let free = (no_parameters symbols sig f g.0 g.2.0).result g.1 g.3 in
      sym h.6 ∙ ap (type_instance (openings (sub_types s.types ts))) e ∙ sym (declared_type_sub s c ts g.1 free) ∙ ap (sub_type s.types) g.6

  -- a term rule keeps the type
  pub term_rule : {es os : List Opening} → Beside symbols es os → (f : ℕ) (ts : Tys) (us : Terms) (right : Term) (r : Ty)
      → EachInTerm Never (Term.app f ts us) → EachInTerm Never right → ((i : ℕ) → i < length es → term_has i (Term.app f ts us) ≡ true)
      → HasType symbols (term_instance es (Term.app f ts us)) r → HasType symbols (term_instance es right) r
      → (t : Ty) → HasType symbols (term_instance os (Term.app f ts us)) t → HasType symbols (term_instance os right) t
  term_rule {es} {os} b f ts us right r free free_right has g k t w =
      let s = put os in
      let c = put_closed symbols b in
      let w' : HasType symbols (sub_term s (term_instance es (Term.app f ts us))) t = subst (λ a. HasType symbols a t) (sym (through_term b (Term.app f ts us) free)) w in
      let e = app_instance es f ts us in
      let same : t ≡ sub_type s.types r =
      app_determines s c f (types_instance es ts) (terms_instance es us) r t (subst (λ a. HasType symbols a r) e g) (subst (λ a. HasType symbols (sub_term s a) t) e w') in
      let h = subst (HasType symbols (sub_term s (term_instance es (Term.app f ts us)))) same w' in
      let m : EachMeets symbols s es = λ i o x. collect_term symbols sig s c es (beside_closed symbols b) i o x (Term.app f ts us) r free (has i (entry_below x)) g h in
      let p : PutsTypes symbols s = puts_types symbols s b m (λ n l. refl) in
      let respects = respects_term_instance symbols s b m right (each_term Never (Respects symbols s) (λ q x. absurd x) right free_right) in
      subst (HasType symbols (term_instance os right)) (sym same)
      (subst (λ a. HasType symbols a (sub_type s.types r)) (through_term b right free_right)
      (sub_has_type symbols sig s p c (term_instance es right) r k respects))

  -- a formula rule keeps the typing, once its parts have their types
  pub form_rule : {es os : List Opening} → Beside symbols es os → EachMeets symbols (put os) es → (right : Form) → EachIn Never right
      → WellTyped symbols (form_instance es right) → WellTyped symbols (form_instance os right)
  form_rule {es} {os} b m right free k =
      let s = put os in
      let p : PutsTypes symbols s = puts_types symbols s b m (λ n l. refl) in
      let respects = respects_form_instance symbols s b m right (each Never (Respects symbols s) (λ q x. absurd x) right free) in
      subst (WellTyped symbols) (through_form b right free) (sub_well_typed symbols sig s p (put_closed symbols b) k respects)

  pub collect_atom : (s : Substitution) → Closed s → (es : List Opening) → AreClosedOpenings es → (i : ℕ) (o : Opening) → Entry es i o
      → (p : ℕ) (ts : Tys) (us : Terms) → EachIn Never (Form.atom p ts us) → form_has i (Form.atom p ts us) ≡ true
      → WellTyped symbols (form_instance es (Form.atom p ts us)) → WellTyped symbols (sub s (form_instance es (Form.atom p ts us))) → Meets symbols s o
  collect_atom s c es closed i o entry p ts us free has g h =
      let e = atom_instance es p ts us in
      let x = well_typed_atom symbols (subst (WellTyped symbols) e g) in
      let y = well_typed_atom symbols (subst (λ f. WellTyped symbols (sub s f)) e h) in
      let d : y.0 ≡ x.0 = cc (x.1.0, y.1.0) in
      let r = declared_types_sub s c (types_instance es ts) x.0.arguments (no_parameters symbols sig p x.0 x.1.0).arguments in
      let z = subst (λ d. HaveTypes symbols (sub_terms s (terms_instance es us)) (argument_types d (sub_types s.types (types_instance es ts)))) d y.4 in
      elim (or_cases (types_have i ts) (terms_have i us) has) [
        | inl k ↦ collect_types symbols sig s c es closed i o entry ts free.0 k y.3 x.3
        | inr k ↦ collect_terms symbols sig s c es closed i o entry us (argument_types x.0 (types_instance es ts)) free.1 k x.4
            (subst (HaveTypes symbols (sub_terms s (terms_instance es us))) (sym r) z)
      ]

  pub collect_equal : (s : Substitution) → Closed s → (es : List Opening) → AreClosedOpenings es → (i : ℕ) (o : Opening) → Entry es i o
      → (t : Ty) (a b : Term) → EachIn Never (Form.equal t a b) → form_has i (Form.equal t a b) ≡ true
      → WellTyped symbols (form_instance es (Form.equal t a b)) → WellTyped symbols (sub s (form_instance es (Form.equal t a b))) → Meets symbols s o
  collect_equal s c es closed i o entry t a b free has g h =
      let e = equal_instance es t a b in
      let x = subst (WellTyped symbols) e g in
      let y = subst (λ f. WellTyped symbols (sub s f)) e h in
      elim (or_cases (type_has i t) (term_has i a || term_has i b) has) [
        | inl k ↦ collect_type symbols sig s c es closed i o entry t free.0 k (well_typed_equality symbols y) (well_typed_equality symbols x)
        | inr k ↦ elim (or_cases (term_has i a) (term_has i b) k) [
          | inl l ↦ collect_term symbols sig s c es closed i o entry a (type_instance es t) free.1 l (well_typed_left symbols x) (well_typed_left symbols y)
          | inr l ↦ collect_term symbols sig s c es closed i o entry b (type_instance es t) free.2 l (well_typed_right symbols x) (well_typed_right symbols y)
        ]
      ]

  pub meets_pattern : (s : Substitution) → Closed s → (es : List Opening) → AreClosedOpenings es → (i : ℕ) (o : Opening) → Entry es i o
      → (x : Form) → IsPattern (Side.of_form x) → EachIn Never x → form_has i x ≡ true
      → WellTyped symbols (form_instance es x) → WellTyped symbols (sub s (form_instance es x)) → Meets symbols s o
  meets_pattern s c es closed i o entry (Form.atom p ts us) pattern free has g h = collect_atom s c es closed i o entry p ts us free has g h
  meets_pattern s c es closed i o entry (Form.equal t a b) pattern free has g h = collect_equal s c es closed i o entry t a b free has g h
  meets_pattern s c es closed i o entry _ pattern free has g h = absurd pattern

  pub counts : {es os : List Opening} {bs : List Binder} → Beside symbols es os → Fit os bs → length es ≡ length bs
  counts b fits = same_length symbols b ∙ fit_length fits

  -- a sound rule keeps the type of a term and the typing of a formula
  pub keeps_term : (bs : List Binder) (x y : Side) → IsTypedSides symbols bs x y → ((i : ℕ) → i < length bs → side_has i x ≡ true) → IsPattern x
      → HasNoParameterIn x → HasNoParameterIn y → (os : List Opening) → Fit os bs → (a b : Term) (t : Ty) → side_instance os x ≡ Side.of_term a
      → side_instance os y ≡ Side.of_term b → HasType symbols a t → HasType symbols b t
  keeps_term bs (Side.of_form f) y typed bound pattern free free_right os fits a b t left right w =
      absurd (let e : Side.of_form (form_instance os f) ≡ Side.of_term a = sym (side_of_form os f) ∙ left in cc)
  keeps_term bs (Side.of_term (Term.bound i)) y typed bound pattern free free_right os fits a b t left right w = absurd pattern
  keeps_term bs (Side.of_term (Term.eps n r)) y typed bound pattern free free_right os fits a b t left right w = absurd pattern
  keeps_term bs (Side.of_term (Term.meta n r)) y typed bound pattern free free_right os fits a b t left right w = absurd pattern
  keeps_term bs (Side.of_term (Term.app f ts us)) (Side.of_form g) typed bound pattern free free_right os fits a b t left right w = absurd typed
  keeps_term bs (Side.of_term (Term.app f ts us)) (Side.of_term z) typed bound pattern free free_right os fits a b t left right w =
      let x = at_parameters symbols sig os bs (Form.equal typed.0 (Term.app f ts us) z) fits typed.1 in
      let v = subst (WellTyped symbols) (equal_instance x.0 typed.0 (Term.app f ts us) z) x.2 in
      let e : a ≡ term_instance os (Term.app f ts us) =
      let k : Side.of_term (term_instance os (Term.app f ts us)) ≡ Side.of_term a = sym (side_of_term os (Term.app f ts us)) ∙ left in cc in
      let d : term_instance os z ≡ b = let k : Side.of_term (term_instance os z) ≡ Side.of_term b = sym (side_of_term os z) ∙ right in cc in
      subst (λ q. HasType symbols q t) d
      (term_rule x.1 f ts us z (type_instance x.0 typed.0) free free_right (λ i l. let c = counts x.1 fits in bound i (omega arith))
      (well_typed_left symbols v) (well_typed_right symbols v) t (subst (λ q. HasType symbols q t) e w))

  pub keeps_form : (bs : List Binder) (x y : Side) → IsTypedSides symbols bs x y → ((i : ℕ) → i < length bs → side_has i x ≡ true) → IsPattern x
      → HasNoParameterIn x → HasNoParameterIn y → (os : List Opening) → Fit os bs → (f g : Form) → side_instance os x ≡ Side.of_form f
      → side_instance os y ≡ Side.of_form g → WellTyped symbols f → WellTyped symbols g
  keeps_form bs (Side.of_term a) y typed bound pattern free free_right os fits f g left right w =
      absurd (let e : Side.of_term (term_instance os a) ≡ Side.of_form f = sym (side_of_term os a) ∙ left in cc)
  keeps_form bs (Side.of_form x) (Side.of_term b) typed bound pattern free free_right os fits f g left right w = absurd typed
  keeps_form bs (Side.of_form x) (Side.of_form z) typed bound pattern free free_right os fits f g left right w =
      let q = at_parameters symbols sig os bs (iff x z) fits typed in
      let v = subst (WellTyped symbols) (iff_instance q.0 x z) q.2 in
      let e : f ≡ form_instance os x = let k : Side.of_form (form_instance os x) ≡ Side.of_form f = sym (side_of_form os x) ∙ left in cc in
      let d : form_instance os z ≡ g = let k : Side.of_form (form_instance os z) ≡ Side.of_form g = sym (side_of_form os z) ∙ right in cc in
      let u : WellTyped symbols (sub (put os) (form_instance q.0 x)) = subst (WellTyped symbols) (e ∙ sym (through_form q.1 x free)) w in
      let m : EachMeets symbols (put os) q.0 =
      λ i o n. let c = counts q.1 fits in let l = entry_below n in
      meets_pattern (put os) (put_closed symbols q.1) q.0 (beside_closed symbols q.1) i o n x pattern free (bound i (omega arith)) (first_part symbols v) u in
      subst (WellTyped symbols) d (form_rule q.1 m z free_right (second_part symbols v))

  pub sound_rules_keep_types : (rules : List Rule) → ((r : Rule) → Contains rules r → IsSound symbols r) → KeepTypes symbols rules
  sound_rules_keep_types rules sound = record {
    terms = λ a b t (r, has, (os, fits, left, right)) w. let k = sound r has in
        keeps_term r.binders r.left r.right k.typed k.bound k.pattern k.left_parameters k.right_parameters os fits a b t left right w;
    forms = λ f g (r, has, (os, fits, left, right)) w. let k = sound r has in
        keeps_form r.binders r.left r.right k.typed k.bound k.pattern k.left_parameters k.right_parameters os fits f g left right w;
  }
