-- The next step doesn't depend on the parameter that a place under a binder is opened with: opening commutes with it.
use Rattle.std.proofs.Common.{ℕ, ◌≡◌, ◌+◌, ◌==◌, Bool, true, false, if◌then◌else◌, refl, ap, sym, ◌∙◌, arith, List, [], ◌∷◌, map, Option, Some, None}
use Rattle.zm_logic.specs.Tree.{Ty, Term, Terms, Form, Binder, Opening, Side, Rule}
use Rattle.zm_logic.specs.Opening.{term_at, open_type, open_types, open_term, open_terms, open_at, close_term, close_at}
use Rattle.zm_logic.specs.Parameter.{IsNot, EachInTerm, EachInTerms, EachIn}
use Rattle.zm_logic.proofs.Opened.{Undoes, term_undone, undone}
use Rattle.rule_index.specs.Instance.{put_term, put_form, put}
use Rattle.rule_index.specs.Matching.{is_of, are_of, match_side, put_some, rewrite, or_else, first_rewrite, IsKinded}
use Rattle.normaliser.specs.NextStep.{under, as_term, as_form, root_term, root_form, next_term, next_terms, next_step}
use Rattle.rule_index.specs.Usable.{IsUsable, AreUsable}
use Rattle.zm_logic.specs.Laws.{HasNoParameterIn}
use Rattle.rule_index.proofs.Commute.{IsClosedPart, open_part, close_part, open_put_term, open_put_form, close_put_term, close_put_form}
use Rattle.rule_index.proofs.Matched.{match_is_sound, match_is_complete}

abbrev pub open_side : ℕ → Opening → Side → Side
open_side k o (Side.of_term a) = Side.of_term (open_term k o a)
open_side k o (Side.of_form f) = Side.of_form (open_at k o f)

abbrev pub IsFreshSide : ℕ → Side → Type 0
IsFreshSide n (Side.of_term a) = EachInTerm (IsNot n) a
IsFreshSide n (Side.of_form f) = EachIn (IsNot n) f

no_more : (k : ℕ) → k + 0 ≡ k
no_more k = omega arith

are_of_map : (g : Opening → Opening) → ((o : Opening) (b : Binder) → is_of (g o) b ≡ is_of o b) → (os : List Opening) (bs : List Binder) → are_of (map g os) bs ≡ are_of os bs
are_of_map g h [] [] = refl
are_of_map g h (o ∷ os) (b ∷ bs) = cc (h o b, are_of_map g h os bs)
are_of_map g h [] (b ∷ bs) = refl
are_of_map g h (o ∷ os) [] = refl

opened_kind : (k : ℕ) (o p : Opening) (b : Binder) → is_of (open_part k o p) b ≡ is_of p b
opened_kind k o (Opening.of_type t) Binder.of_type = refl
opened_kind k o (Opening.of_type t) (Binder.of_term u) = refl
opened_kind k o (Opening.of_term t) Binder.of_type = refl
opened_kind k o (Opening.of_term t) (Binder.of_term u) = refl

closed_kind : (k n : ℕ) (p : Opening) (b : Binder) → is_of (close_part k n p) b ≡ is_of p b
closed_kind k o (Opening.of_type t) Binder.of_type = refl
closed_kind k o (Opening.of_type t) (Binder.of_term u) = refl
closed_kind k o (Opening.of_term t) Binder.of_type = refl
closed_kind k o (Opening.of_term t) (Binder.of_term u) = refl

-- under a part with some answer or a later one
joined : {A B : Type 0} (h h' : A → B) (g : A → A) (g' : B → B) → ((a : A) → h' (g a) ≡ g' (h a)) → (m m' : Option A) (y y' : Option B)
    → m' ≡ under g m → y' ≡ under g' y → or_else (under h' m') y' ≡ under g' (or_else (under h m) y)
joined h h' g g' e None m' y y' d f = rw d f
joined h h' g g' e (Some a) m' y y' d f = rw d (ap Some (e a))

joined_last : {A B : Type 0} (h h' : A → B) (g : A → A) (g' : B → B) → ((a : A) → h' (g a) ≡ g' (h a)) → (m m' : Option A)
    → m' ≡ under g m → under h' m' ≡ under g' (under h m)
joined_last h h' g g' e None m' d = rw d refl
joined_last h h' g g' e (Some a) m' d = rw d (ap Some (e a))

abbrev pub close_side : ℕ → ℕ → Side → Side
close_side k n (Side.of_term a) = Side.of_term (close_term k n a)
close_side k n (Side.of_form f) = Side.of_form (close_at k n f)

opened_instance : (bs : List Binder) (k : ℕ) (o : Opening) → IsClosedPart o → (os : List Opening) → are_of os bs ≡ true → (x : Side) → IsKinded bs x
    → put (map (open_part k o) os) x ≡ open_side k o (put os x)
opened_instance bs k o c os kinds (Side.of_term a) w =
    ap Side.of_term (sym (ap (λ j. open_term j o (put_term 0 os a)) (sym (no_more k)) ∙ open_put_term bs os kinds k o c 0 a w))
opened_instance bs k o c os kinds (Side.of_form f) w =
    ap Side.of_form (sym (ap (λ j. open_at j o (put_form 0 os f)) (sym (no_more k)) ∙ open_put_form bs os kinds k o c 0 f w))

closed_instance : (bs : List Binder) (k n : ℕ) (os : List Opening) → are_of os bs ≡ true → (x : Side) → IsKinded bs x → HasNoParameterIn x
    → put (map (close_part k n) os) x ≡ close_side k n (put os x)
closed_instance bs k n os kinds (Side.of_term a) w free =
    ap Side.of_term (sym (ap (λ j. close_term j n (put_term 0 os a)) (sym (no_more k)) ∙ close_put_term bs os kinds k n 0 a w free))
closed_instance bs k n os kinds (Side.of_form f) w free =
    ap Side.of_form (sym (ap (λ j. close_at j n (put_form 0 os f)) (sym (no_more k)) ∙ close_put_form bs os kinds k n 0 f w free))

abbrev pub IsParameter : Opening → Type 0
IsParameter (Opening.of_type t) = Unit {0}
IsParameter (Opening.of_term (Term.eps m t)) = Unit {0}
IsParameter (Opening.of_term _) = ⊥

-- o is a parameter of number n: closing on n undoes opening with it
module _ (n : ℕ) (o : Opening) (c : IsClosedPart o) (u : Undoes n o) where
  side_undone : (k : ℕ) (x : Side) → IsFreshSide n x → close_side k n (open_side k o x) ≡ x
  side_undone k (Side.of_term a) fresh = ap Side.of_term (term_undone n o u k a fresh)
  side_undone k (Side.of_form f) fresh = ap Side.of_form (undone n o u k f fresh)

  pub match_opened : (r : Rule) → IsUsable r → (k : ℕ) (x : Side) → IsFreshSide n x
      → match_side r.binders r.left (open_side k o x) ≡ under (map (open_part k o)) (match_side r.binders r.left x)
  match_opened r ok k x fresh = go (match_side r.binders r.left x) refl
    where
      other : (m : Option (List Opening)) → match_side r.binders r.left (open_side k o x) ≡ m → match_side r.binders r.left x ≡ None
          → match_side r.binders r.left (open_side k o x) ≡ None
      other None e d = e
      other (Some ps) e d =
          let s = match_is_sound r.binders r.left (open_side k o x) ps e in
          let back : put (map (close_part k n) ps) r.left ≡ x =
          closed_instance r.binders k n ps s.kinds r.left ok.left.kinded ok.free_left ∙ ap (close_side k n) s.instance ∙ side_undone k x fresh in
          let found : match_side r.binders r.left x ≡ Some (map (close_part k n) ps) =
          match_is_complete r.binders r.left x (map (close_part k n) ps) ok.left
          (record { kinds = are_of_map (close_part k n) (closed_kind k n) ps r.binders ∙ s.kinds; instance = back }) in
          cc

      go : (m : Option (List Opening)) → match_side r.binders r.left x ≡ m → match_side r.binders r.left (open_side k o x) ≡ under (map (open_part k o)) m
      go None e = other (match_side r.binders r.left (open_side k o x)) refl e
      go (Some os) e =
          let s = match_is_sound r.binders r.left x os e in
          match_is_complete r.binders r.left (open_side k o x) (map (open_part k o) os) ok.left
          (record {
            kinds = are_of_map (open_part k o) (opened_kind k o) os r.binders ∙ s.kinds;
            instance = opened_instance r.binders k o c os s.kinds r.left ok.left.kinded ∙ ap (open_side k o) s.instance;
          })

  rewrite_opened : (r : Rule) → IsUsable r → (k : ℕ) (x : Side) → IsFreshSide n x → rewrite r (open_side k o x) ≡ under (open_side k o) (rewrite r x)
  rewrite_opened r ok k x fresh = rw (match_opened r ok k x fresh) (go (match_side r.binders r.left x) refl)
    where
      go : (m : Option (List Opening)) → match_side r.binders r.left x ≡ m
          → put_some r.right (under (map (open_part k o)) m) ≡ under (open_side k o) (put_some r.right m)
      go None e = refl
      go (Some os) e = ap Some (opened_instance r.binders k o c os (match_is_sound r.binders r.left x os e).kinds r.right ok.right)

  first_rewrite_opened : (rules : List Rule) → AreUsable rules → (k : ℕ) (x : Side) → IsFreshSide n x
      → first_rewrite rules (open_side k o x) ≡ under (open_side k o) (first_rewrite rules x)
  first_rewrite_opened [] ok k x fresh = refl
  first_rewrite_opened (r ∷ rules) ok k x fresh =
      go (rewrite r x) (rewrite r (open_side k o x)) (rewrite_opened r ok.0 k x fresh) (first_rewrite_opened rules ok.1 k x fresh)
    where
      go : (m m' : Option Side) → m' ≡ under (open_side k o) m → first_rewrite rules (open_side k o x) ≡ under (open_side k o) (first_rewrite rules x)
          → or_else m' (first_rewrite rules (open_side k o x)) ≡ under (open_side k o) (or_else m (first_rewrite rules x))
      go None m' e ih = rw e ih
      go (Some y) m' e ih = rw e

  module _ (p : IsParameter o) (rules : List Rule) (ok : AreUsable rules) where
    root_term_opened : (k : ℕ) (a : Term) → EachInTerm (IsNot n) a → root_term rules (open_term k o a) ≡ under (open_term k o) (root_term rules a)
    root_term_opened k a fresh = rw (first_rewrite_opened rules ok k (Side.of_term a) fresh) (go (first_rewrite rules (Side.of_term a)))
      where
        go : (m : Option Side) → as_term (under (open_side k o) m) ≡ under (open_term k o) (as_term m)
        go None = refl
        go (Some (Side.of_term b)) = refl
        go (Some (Side.of_form b)) = refl

    root_form_opened : (k : ℕ) (f : Form) → EachIn (IsNot n) f → root_form rules (open_at k o f) ≡ under (open_at k o) (root_form rules f)
    root_form_opened k f fresh = rw (first_rewrite_opened rules ok k (Side.of_form f) fresh) (go (first_rewrite rules (Side.of_form f)))
      where
        go : (m : Option Side) → as_form (under (open_side k o) m) ≡ under (open_at k o) (as_form m)
        go None = refl
        go (Some (Side.of_term b)) = refl
        go (Some (Side.of_form b)) = refl

    mutual
      pub next_term_opened : (k : ℕ) (a : Term) → EachInTerm (IsNot n) a → next_term rules (open_term k o a) ≡ under (open_term k o) (next_term rules a)
      next_term_opened k (Term.bound i) fresh = variable i o p
        where
          chosen_eps : (b : Bool) (m : ℕ) (t : Ty) (i : ℕ) → next_term rules (if b then Term.eps m t else Term.bound i) ≡ None
          chosen_eps true m t i = refl
          chosen_eps false m t i = refl

          variable : (i : ℕ) (o : Opening) → IsParameter o → next_term rules (term_at k o i) ≡ None
          variable i (Opening.of_type t) p = refl
          variable i (Opening.of_term (Term.eps m t)) p = chosen_eps (i == k) m t i
          variable i (Opening.of_term (Term.bound j)) p = absurd p
          variable i (Opening.of_term (Term.meta m t)) p = absurd p
          variable i (Opening.of_term (Term.app f ts us)) p = absurd p
      next_term_opened k (Term.eps m t) fresh = refl
      next_term_opened k (Term.meta m t) fresh = refl
      next_term_opened k (Term.app f ts us) fresh =
          joined (Term.app f ts) (Term.app f (open_types k o ts)) (open_terms k o) (open_term k o) (λ x. refl)
          (next_terms rules us) (next_terms rules (open_terms k o us)) (root_term rules (Term.app f ts us)) (root_term rules (open_term k o (Term.app f ts us)))
          (next_terms_opened k us fresh.1) (root_term_opened k (Term.app f ts us) fresh)

      pub next_terms_opened : (k : ℕ) (us : Terms) → EachInTerms (IsNot n) us → next_terms rules (open_terms k o us) ≡ under (open_terms k o) (next_terms rules us)
      next_terms_opened k Terms.none fresh = refl
      next_terms_opened k (Terms.more a us) fresh =
          joined (λ v. Terms.more v us) (λ v. Terms.more v (open_terms k o us)) (open_term k o) (open_terms k o) (λ x. refl)
          (next_term rules a) (next_term rules (open_term k o a)) (under (Terms.more a) (next_terms rules us)) (under (Terms.more (open_term k o a)) (next_terms rules (open_terms k o us)))
          (next_term_opened k a fresh.0)
          (joined_last (Terms.more a) (Terms.more (open_term k o a)) (open_terms k o) (open_terms k o) (λ x. refl) (next_terms rules us) (next_terms rules (open_terms k o us))
          (next_terms_opened k us fresh.1))

    pub next_step_opened : (k : ℕ) (f : Form) → EachIn (IsNot n) f → next_step rules (open_at k o f) ≡ under (open_at k o) (next_step rules f)
    next_step_opened k Form.truth fresh = root_form_opened k Form.truth fresh
    next_step_opened k Form.falsity fresh = root_form_opened k Form.falsity fresh
    next_step_opened k (Form.atom p ts us) fresh =
        joined (Form.atom p ts) (Form.atom p (open_types k o ts)) (open_terms k o) (open_at k o) (λ x. refl)
        (next_terms rules us) (next_terms rules (open_terms k o us)) (root_form rules (Form.atom p ts us)) (root_form rules (open_at k o (Form.atom p ts us)))
        (next_terms_opened k us fresh.1) (root_form_opened k (Form.atom p ts us) fresh)
    next_step_opened k (Form.equal t a b) fresh =
        let x : Form = Form.equal t a b in
        joined (λ c. Form.equal t c b) (λ c. Form.equal (open_type k o t) c (open_term k o b)) (open_term k o) (open_at k o) (λ x. refl)
        (next_term rules a) (next_term rules (open_term k o a))
        (or_else (under (Form.equal t a) (next_term rules b)) (root_form rules x))
        (or_else (under (Form.equal (open_type k o t) (open_term k o a)) (next_term rules (open_term k o b))) (root_form rules (open_at k o x)))
        (next_term_opened k a fresh.1)
        (joined (Form.equal t a) (Form.equal (open_type k o t) (open_term k o a)) (open_term k o) (open_at k o) (λ x. refl)
        (next_term rules b) (next_term rules (open_term k o b)) (root_form rules x) (root_form rules (open_at k o x))
        (next_term_opened k b fresh.2) (root_form_opened k x fresh))
    next_step_opened k (Form.negation f) fresh =
        let x : Form = Form.negation f in
        joined Form.negation Form.negation (open_at k o) (open_at k o) (λ x. refl)
        (next_step rules f) (next_step rules (open_at k o f)) (root_form rules x) (root_form rules (open_at k o x))
        (next_step_opened k f fresh) (root_form_opened k x fresh)
    next_step_opened k (Form.binary c f g) fresh =
        let x : Form = Form.binary c f g in
        joined (λ h. Form.binary c h g) (λ h. Form.binary c h (open_at k o g)) (open_at k o) (open_at k o) (λ x. refl)
        (next_step rules f) (next_step rules (open_at k o f))
        (or_else (under (Form.binary c f) (next_step rules g)) (root_form rules x))
        (or_else (under (Form.binary c (open_at k o f)) (next_step rules (open_at k o g))) (root_form rules (open_at k o x)))
        (next_step_opened k f fresh.0)
        (joined (Form.binary c f) (Form.binary c (open_at k o f)) (open_at k o) (open_at k o) (λ x. refl)
        (next_step rules g) (next_step rules (open_at k o g)) (root_form rules x) (root_form rules (open_at k o x))
        (next_step_opened k g fresh.1) (root_form_opened k x fresh))
    next_step_opened k (Form.quantified q t f) fresh =
        let x : Form = Form.quantified q t f in
        joined (Form.quantified q t) (Form.quantified q (open_type k o t)) (open_at (k + 1) o) (open_at k o) (λ x. refl)
        (next_step rules f) (next_step rules (open_at (k + 1) o f)) (root_form rules x) (root_form rules (open_at k o x))
        (next_step_opened (k + 1) f fresh.1) (root_form_opened k x fresh)
    next_step_opened k (Form.quantified_types q f) fresh =
        let x : Form = (Form.quantified_types q) f in
        joined (Form.quantified_types q) (Form.quantified_types q) (open_at (k + 1) o) (open_at k o) (λ x. refl)
        (next_step rules f) (next_step rules (open_at (k + 1) o f)) (root_form rules x) (root_form rules (open_at k o x))
        (next_step_opened (k + 1) f fresh) (root_form_opened k x fresh)
