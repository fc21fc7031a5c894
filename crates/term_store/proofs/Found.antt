-- What a search for a node tells, and what one more node changes.
use Rattle.std.proofs.Common.{ℕ, zero, suc, ◌≡◌, ◌≢◌, ◌+◌, ◌<◌, ◌≤◌, ◌⊎◌, inl, inr, Bool, true, false, not, cond, nat_lt, Some, None, List, [], ◌∷◌, ◌++◌, length, get_or, map, position, All, refl, ap, sym, subst, ◌∙◌, append-nil, true≢false, arith}
use Rattle.std.specs.List.{position_or_len}
use Rattle.std.proofs.lemmas.List.{get_or-map, map-append, length-map, length_push}
use Rattle.std.proofs.lemmas.List.Sums.{prefix_len_passes}
use Rattle.std.proofs.lemmas.Bool.{ltb-true, ltb-false, not-true}
use Rattle.std.proofs.lemmas.List.Quantifiers.{position-Some}
use Rattle.zm_logic.specs.Tree as tree
use Rattle.zm_logic.specs.Measure.{type_depth, term_depth, depth}
use Rattle.term_store.specs.Table.{trees, AllFit}
use Rattle.term_store.specs.declared.node.TyNode.{TyNode}
use Rattle.term_store.specs.declared.node.TermNode.{TermNode}
use Rattle.term_store.specs.declared.node.FormNode.{FormNode}
use Rattle.term_store.specs.Node.{make_type, make_term, make_form, TypeFits, TermFits, FormFits}
use Rattle.term_store.specs.Trees.{Trees, trees_of, AreAllDistinct}
use Rattle.term_store.specs.Sound.{IsSound}
use Rattle.term_store.proofs.Tables.{trees_push, trees_length, trees_at, trees_from_same, fit_push, fit_more, fit_at, distinct_push}
use Rattle.term_store.proofs.Equal.{type_eq, term_eq, form_eq, type_same, term_same, form_same, type_self, term_self, form_self}
use Rattle.term_store.proofs.Nodes.{make_type_stays, make_term_stays, make_form_stays, type_fits_more, term_fits_more, form_fits_more, make_type_same, make_term_same, make_form_same}

ltb_tells : (a b : ℕ) → ((nat_lt a b ≡ true) × (a < b)) ⊎ ((nat_lt a b ≡ false) × (b ≤ a))
ltb_tells a b = by (nat_lt a b) refl
  where
    by : (t : Bool) → nat_lt a b ≡ t → ((nat_lt a b ≡ true) × (a < b)) ⊎ ((nat_lt a b ≡ false) × (b ≤ a))
    by true e = inl (e, ltb-true a b e)
    by false e = inr (e, ltb-false a b e)

module _ {A : Type 0} (p : A → Bool) (xs : List A) where
  -- where there is none, no element passes
  pub position_absent : position p xs ≡ None → (k : ℕ) (d : A) → k < length xs → p (get_or xs k d) ≡ false
  position_absent e k d h = elim (ltb_tells (position_or_len p xs) (length xs)) [
    | inl t ↦
        (let z : cond (nat_lt (position_or_len p xs) (length xs)) (Some (position_or_len p xs)) None ≡ Some (position_or_len p xs) = rw t.0 refl in
        let y : None ≡ Some (position_or_len p xs) = sym e ∙ z in absurd (cc))
    | inr t ↦ not-true (p (get_or xs k d)) (prefix_len_passes (λ x. not (p x)) xs k d (omega (arith, t.1)))
  ]

-- a bound for all, and for one more
pub bounded_push : (ds : List ℕ) (d : ℕ) → All (λ x. x ≤ 2000) ds → d ≤ 2000 → All (λ x. x ≤ 2000) (ds ++ d ∷ [])
bounded_push [] d h l zero e k = l
bounded_push [] d h l (suc n) e k = absurd (omega arith)
bounded_push (x ∷ xs) d h l zero e k = h 0 e (omega arith)
bounded_push (x ∷ xs) d h l (suc n) e k = bounded_push xs d (λ m f j. h (suc m) f (omega arith)) l n e (omega arith)

-- the depths of one more tree
depths_push : {T : Type 0} (f : T → ℕ) (ts : List T) (ds : List ℕ) (t : T) (d : ℕ) → ds ≡ map f ts → d ≡ f t → ds ++ d ∷ [] ≡ map f (ts ++ t ∷ [])
depths_push f ts ds t d e g = ap (λ x. x ++ d ∷ []) e ∙ ap (λ x. map f ts ++ x ∷ []) g ∙ sym (map-append f ts (t ∷ []))

-- one depth is bounded
pub depth_bounded : {T : Type 0} (f : T → ℕ) (ts : List T) (ds : List ℕ) → ds ≡ map f ts → All (λ x. x ≤ 2000) ds → (i : ℕ) (d : T) → i < length ts → f (get_or ts i d) ≤ 2000
depth_bounded f ts ds e h i d l =
    let len : length (map f ts) ≡ length ts = length-map ts f in
    let b = subst (All (λ x. x ≤ 2000)) e h in
    subst (λ x. x ≤ 2000) (get_or-map f ts i d 0 l) (b i 0 (omega (arith, len)))

-- longer tables of types and terms leave what stands over them
module _ (ts : List TyNode) (more : List tree.Ty) where
  pub grown_terms : (us : List TermNode) → AllFit (TermFits (length ts)) 0 us
      → trees (make_term (trees make_type ts ++ more)) us ≡ trees (make_term (trees make_type ts)) us
  grown_terms us f = trees_from_same (make_term (trees make_type ts ++ more)) (make_term (trees make_type ts)) (TermFits (length ts))
      (λ vs n h. subst (λ v. make_term (trees make_type ts ++ more) v n ≡ make_term (trees make_type ts) vs n) (append-nil vs)
      (make_term_stays (trees make_type ts) more vs [] n (subst (λ k. TermFits k (length vs) n) (sym (trees_length make_type ts)) h))) [] us f

  pub grown_forms : (us : List TermNode) (vs : List tree.Term) (fs : List FormNode) → AllFit (FormFits (length ts) (length us)) 0 fs
      → trees (make_form (trees make_type ts ++ more) (trees (make_term (trees make_type ts)) us ++ vs)) fs ≡ trees (make_form (trees make_type ts) (trees (make_term (trees make_type ts)) us)) fs
  grown_forms us vs fs f =
      let T = trees make_type ts in let U = trees (make_term T) us in
      trees_from_same (make_form (T ++ more) (U ++ vs)) (make_form T U) (FormFits (length ts) (length us))
      (λ gs n h. subst (λ g. make_form (T ++ more) (U ++ vs) g n ≡ make_form T U gs n) (append-nil gs)
      (make_form_stays T more U vs gs [] n (subst (λ k. FormFits k (length U) (length gs) n) (sym (trees_length make_type ts)) (subst (λ k. FormFits (length ts) k (length gs) n) (sym (trees_length (make_term T) us)) h)))) [] fs f

-- the parts of soundness, at the trees that the tables give
sound_at : (ts : List TyNode) (ds : List ℕ) (us : List TermNode) (es : List ℕ) (fs : List FormNode) (gs : List ℕ) (s : Trees) → trees_of ts us fs ≡ s
    → AllFit TypeFits 0 ts → AllFit (TermFits (length ts)) 0 us → AllFit (FormFits (length ts) (length us)) 0 fs → AreAllDistinct s
    → ds ≡ map type_depth s.types → es ≡ map term_depth s.terms → gs ≡ map depth s.forms
    → All (λ d. d ≤ 2000) ds → All (λ d. d ≤ 2000) es → All (λ d. d ≤ 2000) gs → IsSound ts ds us es fs gs
sound_at ts ds us es fs gs s e f g h a x y z p q r = record {
  types_fit = f;
  terms_fit = g;
  forms_fit = h;
  shared = subst AreAllDistinct (sym e) a;
  type_depths = x ∙ ap (λ w. map type_depth w.types) (sym e);
  term_depths = y ∙ ap (λ w. map term_depth w.terms) (sym e);
  form_depths = z ∙ ap (λ w. map depth w.forms) (sym e);
  types_bounded = p;
  terms_bounded = q;
  forms_bounded = r;
}

-- a table of terms over all types, and of formulas over all terms
pub over_types : (T : List tree.Ty) {k : ℕ} → length T ≡ k → (us more : List tree.Term) (n : TermNode) → TermFits k (length us) n → make_term T (us ++ more) n ≡ make_term T us n
over_types T e us more n f = subst (λ t. make_term t (us ++ more) n ≡ make_term T us n) (append-nil T) (make_term_stays T [] us more n (subst (λ k. TermFits k (length us) n) (sym e) f))

pub over_terms : (T : List tree.Ty) (U : List tree.Term) {k m : ℕ} → length T ≡ k → length U ≡ m → (fs more : List tree.Form) (n : FormNode) → FormFits k m (length fs) n → make_form T U (fs ++ more) n ≡ make_form T U fs n
over_terms T U {k = k} e g fs more n f =
    subst (λ u. make_form T u (fs ++ more) n ≡ make_form T U fs n) (append-nil U) (subst (λ t. make_form t (U ++ []) (fs ++ more) n ≡ make_form T U fs n) (append-nil T)
    (make_form_stays T [] U [] fs more n (subst (λ j. FormFits j (length U) (length fs) n) (sym e) (subst (λ m. FormFits k m (length fs) n) (sym g) f))))

module _ (ts : List TyNode) (ds : List ℕ) (us : List TermNode) (es : List ℕ) (fs : List FormNode) (gs : List ℕ) (h : IsSound ts ds us es fs gs) where
  -- a type node that is found
  pub found_type : (n : TyNode) (i : ℕ) → position (type_eq n) ts ≡ Some i
      → (i < length (trees_of ts us fs).types) × (get_or (trees_of ts us fs).types i (tree.Ty.bound 0) ≡ make_type (trees_of ts us fs).types n) × (type_depth (make_type (trees_of ts us fs).types n) ≤ 2000)
  found_type n i e =
      let T = trees make_type ts in
      let p = position-Some (type_eq n) ts i n e in
      let l : i < length T = omega (arith, p.0, trees_length make_type ts) in
      let at = trees_at make_type TypeFits make_type_stays ts h.types_fit i (tree.Ty.bound 0) n p.0 ∙ sym (ap (make_type T) (type_same n (get_or ts i n) p.1)) in
      (l, at, subst (λ t. type_depth t ≤ 2000) at (depth_bounded type_depth T ds h.type_depths h.types_bounded i (tree.Ty.bound 0) l))

  -- the trees with one more type
  pub type_grows : (n : TyNode) → trees_of (ts ++ n ∷ []) us fs
      ≡ record { types = (trees_of ts us fs).types ++ make_type (trees_of ts us fs).types n ∷ []; terms = (trees_of ts us fs).terms; forms = (trees_of ts us fs).forms }
  type_grows n =
      let T = trees make_type ts in let t = make_type T n in let U = trees (make_term T) us in let F = trees (make_form T U) fs in
      let all : List tree.Ty → Trees = λ x. record { types = x; terms = trees (make_term x) us; forms = trees (make_form x (trees (make_term x) us)) fs } in
      let over : List tree.Term → Trees = λ u. record { types = T ++ t ∷ []; terms = u; forms = trees (make_form (T ++ t ∷ []) u) fs } in
      let last : List tree.Form → Trees = λ f. record { types = T ++ t ∷ []; terms = U; forms = f } in
      let forms : trees (make_form (T ++ t ∷ []) U) fs ≡ F = ap (λ u. trees (make_form (T ++ t ∷ []) u) fs) (sym (append-nil U)) ∙ grown_forms ts (t ∷ []) us [] fs h.forms_fit in
      ap all (trees_push make_type ts n) ∙ ap over (grown_terms ts (t ∷ []) us h.terms_fit) ∙ ap last forms

  -- a new type node may be added
  pub added_type : (n : TyNode) (d : ℕ) → position (type_eq n) ts ≡ None → TypeFits (length (trees_of ts us fs).types) n → d ≡ type_depth (make_type (trees_of ts us fs).types n) → d ≤ 2000
      → IsSound (ts ++ n ∷ []) (ds ++ d ∷ []) us es fs gs
  added_type n d e f x l =
      let T = trees make_type ts in let t = make_type T n in
      let len = length_push ts n in
      let fits : TypeFits (0 + length ts) n = subst (λ k. TypeFits k n) (trees_length make_type ts ∙ omega arith) f in
      let new : (k : ℕ) (c : tree.Ty) → k < length T → get_or T k c ≢ t = λ k c b g.
      (let b' : k < length ts = omega (arith, b, trees_length make_type ts) in
      let node = get_or ts k n in
      let same : make_type T n ≡ make_type T node = sym g ∙ trees_at make_type TypeFits make_type_stays ts h.types_fit k c n b' in
      let here : TypeFits (length T) node = subst (λ m. TypeFits m node) (omega (arith, trees_length make_type ts)) (fit_at TypeFits type_fits_more 0 ts h.types_fit k n b') in
      let is : n ≡ node = make_type_same T h.shared.types n node f here same in
      true≢false (sym (subst (λ m. type_eq n m ≡ true) is (type_self n)) ∙ position_absent (type_eq n) ts e k n b')) in
      sound_at (ts ++ n ∷ []) (ds ++ d ∷ []) us es fs gs _ (type_grows n)
      (fit_push TypeFits 0 ts n h.types_fit fits)
      (fit_more (TermFits (length ts)) (TermFits (length (ts ++ n ∷ []))) (λ k m g. term_fits_more (length ts) (length (ts ++ n ∷ [])) k k m (omega (arith, len)) (omega arith) g) 0 us h.terms_fit)
      (fit_more (FormFits (length ts) (length us)) (FormFits (length (ts ++ n ∷ [])) (length us)) (λ k m g. form_fits_more (length ts) (length (ts ++ n ∷ [])) (length us) (length us) k k m (omega (arith, len)) (omega arith) (omega arith) g) 0 fs h.forms_fit)
      (record { types = distinct_push T t h.shared.types new; terms = h.shared.terms; forms = h.shared.forms })
      (depths_push type_depth T ds t d h.type_depths x) h.term_depths h.form_depths
      (bounded_push ds d h.types_bounded l) h.terms_bounded h.forms_bounded

  -- a term node that is found
  pub found_term : (n : TermNode) (i : ℕ) → position (term_eq n) us ≡ Some i
      → (i < length (trees_of ts us fs).terms) × (get_or (trees_of ts us fs).terms i (tree.Term.bound 0) ≡ make_term (trees_of ts us fs).types (trees_of ts us fs).terms n)
      × (term_depth (make_term (trees_of ts us fs).types (trees_of ts us fs).terms n) ≤ 2000)
  found_term n i e =
      let T = trees make_type ts in let U = trees (make_term T) us in
      let p = position-Some (term_eq n) us i n e in
      let l : i < length U = omega (arith, p.0, trees_length (make_term T) us) in
      let at = trees_at (make_term T) (TermFits (length ts)) (over_types T (trees_length make_type ts)) us h.terms_fit i (tree.Term.bound 0) n p.0 ∙ sym (ap (make_term T U) (term_same n (get_or us i n) p.1)) in
      (l, at, subst (λ t. term_depth t ≤ 2000) at (depth_bounded term_depth U es h.term_depths h.terms_bounded i (tree.Term.bound 0) l))

  -- the trees with one more term
  pub term_grows : (n : TermNode) → trees_of ts (us ++ n ∷ []) fs
      ≡ record { types = (trees_of ts us fs).types; terms = (trees_of ts us fs).terms ++ make_term (trees_of ts us fs).types (trees_of ts us fs).terms n ∷ []; forms = (trees_of ts us fs).forms }
  term_grows n =
      let T = trees make_type ts in let U = trees (make_term T) us in let u = make_term T U n in let F = trees (make_form T U) fs in
      let all : List tree.Term → Trees = λ x. record { types = T; terms = x; forms = trees (make_form T x) fs } in
      let last : List tree.Form → Trees = λ f. record { types = T; terms = U ++ u ∷ []; forms = f } in
      let forms : trees (make_form T (U ++ u ∷ [])) fs ≡ F = ap (λ t. trees (make_form t (U ++ u ∷ [])) fs) (sym (append-nil T)) ∙ grown_forms ts [] us (u ∷ []) fs h.forms_fit in
      ap all (trees_push (make_term T) us n) ∙ ap last forms

  pub added_term : (n : TermNode) (d : ℕ) → position (term_eq n) us ≡ None → TermFits (length (trees_of ts us fs).types) (length (trees_of ts us fs).terms) n
      → d ≡ term_depth (make_term (trees_of ts us fs).types (trees_of ts us fs).terms n) → d ≤ 2000
      → IsSound ts ds (us ++ n ∷ []) (es ++ d ∷ []) fs gs
  added_term n d e f x l =
      let T = trees make_type ts in let U = trees (make_term T) us in let u = make_term T U n in
      let stays = over_types T (trees_length make_type ts) in
      let len = length_push us n in
      let g : TermFits (length ts) (length U) n = subst (λ k. TermFits k (length U) n) (trees_length make_type ts) f in
      let fits : TermFits (length ts) (0 + length us) n = subst (λ k. TermFits (length ts) k n) (trees_length (make_term T) us ∙ omega arith) g in
      let new : (k : ℕ) (c : tree.Term) → k < length U → get_or U k c ≢ u = λ k c b g.
      (let b' : k < length us = omega (arith, b, trees_length (make_term T) us) in
      let node = get_or us k n in
      let same : make_term T U n ≡ make_term T U node = sym g ∙ trees_at (make_term T) (TermFits (length ts)) stays us h.terms_fit k c n b' in
      let here : TermFits (length T) (length U) node = term_fits_more (length ts) (length T) (0 + length us) (length U) node (omega (arith, trees_length make_type ts)) (omega (arith, trees_length (make_term T) us))
      (fit_at (TermFits (length ts)) (λ i j m w. term_fits_more (length ts) (length ts) i j m (omega arith) w) 0 us h.terms_fit k n b') in
      let is : n ≡ node = make_term_same T h.shared.types U h.shared.terms n node f here same in
      true≢false (sym (subst (λ m. term_eq n m ≡ true) is (term_self n)) ∙ position_absent (term_eq n) us e k n b')) in
      sound_at ts ds (us ++ n ∷ []) (es ++ d ∷ []) fs gs _ (term_grows n)
      h.types_fit
      (fit_push (TermFits (length ts)) 0 us n h.terms_fit fits)
      (fit_more (FormFits (length ts) (length us)) (FormFits (length ts) (length (us ++ n ∷ []))) (λ k m g. form_fits_more (length ts) (length ts) (length us) (length (us ++ n ∷ [])) k k m (omega arith) (omega (arith, len)) (omega arith) g) 0 fs h.forms_fit)
      (record { types = h.shared.types; terms = distinct_push U u h.shared.terms new; forms = h.shared.forms })
      h.type_depths (depths_push term_depth U es u d h.term_depths x) h.form_depths
      h.types_bounded (bounded_push es d h.terms_bounded l) h.forms_bounded

  -- a formula node that is found
  pub found_form : (n : FormNode) (i : ℕ) → position (form_eq n) fs ≡ Some i
      → let s = trees_of ts us fs in (i < length s.forms) × (get_or s.forms i tree.Form.truth ≡ make_form s.types s.terms s.forms n) × (depth (make_form s.types s.terms s.forms n) ≤ 2000)
  found_form n i e =
      let T = trees make_type ts in let U = trees (make_term T) us in let F = trees (make_form T U) fs in
      let p = position-Some (form_eq n) fs i n e in
      let l : i < length F = omega (arith, p.0, trees_length (make_form T U) fs) in
      let at = trees_at (make_form T U) (FormFits (length ts) (length us)) (over_terms T U (trees_length make_type ts) (trees_length (make_term T) us)) fs h.forms_fit i tree.Form.truth n p.0 ∙ sym (ap (make_form T U F) (form_same n (get_or fs i n) p.1)) in
      (l, at, subst (λ t. depth t ≤ 2000) at (depth_bounded depth F gs h.form_depths h.forms_bounded i tree.Form.truth l))

  -- the trees with one more formula
  pub form_grows : (n : FormNode) → trees_of ts us (fs ++ n ∷ [])
      ≡ (let s = trees_of ts us fs in record { types = s.types; terms = s.terms; forms = s.forms ++ make_form s.types s.terms s.forms n ∷ [] })
  form_grows n =
      let T = trees make_type ts in let U = trees (make_term T) us in
      let last : List tree.Form → Trees = λ f. record { types = T; terms = U; forms = f } in
      ap last (trees_push (make_form T U) fs n)

  pub added_form : (n : FormNode) (d : ℕ) → position (form_eq n) fs ≡ None → (let s = trees_of ts us fs in FormFits (length s.types) (length s.terms) (length s.forms) n)
      → (let s = trees_of ts us fs in d ≡ depth (make_form s.types s.terms s.forms n)) → d ≤ 2000
      → IsSound ts ds us es (fs ++ n ∷ []) (gs ++ d ∷ [])
  added_form n d e f x l =
      let T = trees make_type ts in let U = trees (make_term T) us in let F = trees (make_form T U) fs in let v = make_form T U F n in
      let stays = over_terms T U (trees_length make_type ts) (trees_length (make_term T) us) in
      let fits : FormFits (length ts) (length us) (0 + length fs) n =
      form_fits_more (length T) (length ts) (length U) (length us) (length F) (0 + length fs) n (omega (arith, trees_length make_type ts)) (omega (arith, trees_length (make_term T) us)) (omega (arith, trees_length (make_form T U) fs)) f in
      let new : (k : ℕ) (c : tree.Form) → k < length F → get_or F k c ≢ v = λ k c b g.
      (let b' : k < length fs = omega (arith, b, trees_length (make_form T U) fs) in
      let node = get_or fs k n in
      let same : make_form T U F n ≡ make_form T U F node = sym g ∙ trees_at (make_form T U) (FormFits (length ts) (length us)) stays fs h.forms_fit k c n b' in
      let here : FormFits (length T) (length U) (length F) node =
      form_fits_more (length ts) (length T) (length us) (length U) (0 + length fs) (length F) node (omega (arith, trees_length make_type ts)) (omega (arith, trees_length (make_term T) us)) (omega (arith, trees_length (make_form T U) fs))
      (fit_at (FormFits (length ts) (length us)) (λ i j m w. form_fits_more (length ts) (length ts) (length us) (length us) i j m (omega arith) (omega arith) w) 0 fs h.forms_fit k n b') in
      let is : n ≡ node = make_form_same T h.shared.types U h.shared.terms F h.shared.forms n node f here same in
      true≢false (sym (subst (λ m. form_eq n m ≡ true) is (form_self n)) ∙ position_absent (form_eq n) fs e k n b')) in
      sound_at ts ds us es (fs ++ n ∷ []) (gs ++ d ∷ []) _ (form_grows n)
      h.types_fit h.terms_fit (fit_push (FormFits (length ts) (length us)) 0 fs n h.forms_fit fits)
      (record { types = h.shared.types; terms = h.shared.terms; forms = distinct_push F v h.shared.forms new })
      h.type_depths h.term_depths (depths_push depth F gs v d h.form_depths x)
      h.types_bounded h.terms_bounded (bounded_push gs d h.forms_bounded l)
