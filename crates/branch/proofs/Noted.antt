-- A formula that can't close a branch with the earlier ones, and a search for what closes that starts behind a branch.
use Rattle.std.proofs.Common.{ℕ, ◌≡◌, ◌+◌, Bool, true, false, ◌||◌, cond, refl, ap, sym, subst, ◌∙◌, Option, None, Some, List, [], ◌∷◌, ◌++◌, length, take, drop, map, append_assoc, append-nil, get_or, ◌<◌, ◌≤◌, arith}
use Rattle.std.specs.Option.{option_or}
use Rattle.std.proofs.Math.Seq.{take-append_seam}
use Rattle.std.proofs.Math.ListN.{drop_of_length-le}
use Rattle.std.proofs.lemmas.List.{drop_more, take-append-drop, take-map, drop-map, length-append, length-map}
use Rattle.zm_logic.specs.Tree.{Form}
use Rattle.zm_logic.specs.Same.{same, has}
use Rattle.zm_logic.proofs.Sames.{same-self, same-true}
use Rattle.term_store.specs.Trees.{Tables, HasForm, form_of}
use Rattle.term_store.specs.declared.ids.FormId.{FormId}
use Rattle.param_store.specs.View.{forms_of, HasForms}
use Rattle.branch.specs.declared.closing.Earlier.{Earlier}
use Rattle.branch.specs.Branch.{Closing, add, extend, alone, closes_alone, closing_of, closing_with, closing_at, closing_from, closing}
use Rattle.branch.specs.Denied.{denied, is_equation}
use Rattle.branch.specs.Earlier.{AreEarlier, CantClose}
use Rattle.branch.proofs.Closes.{denied_some, denied_none, closes_none}
use Rattle.branch.proofs.Found.{has_both, has_added}
use Rattle.branch.proofs.Held.{forms_front}

neither : (x y : Bool) → (x || y) ≡ false → (x ≡ false) × (y ≡ false)
neither true y e = cc
neither false y e = (refl, e)

turned : (f g : Form) → same f g ≡ false → same g f ≡ false
turned f g e = by (same g f) refl
  where
    by : (v : Bool) → same g f ≡ v → v ≡ false
    by true h = let i : g ≡ f = same-true g f h in absurd (let j : same f g ≡ true = ap (λ x. same f x) i ∙ same-self f in cc)
    by false h = refl

-- no earlier formula is denied
denies_none : (g f : Form) → ((d : Form) → denied f ≡ Some d → same g d ≡ false) → same f (Form.negation g) ≡ false
denies_none g f h = by (denied f) refl
  where
    by : (d : Option Form) → denied f ≡ d → same f (Form.negation g) ≡ false
    by None e = denied_none f g (sym e)
    by (Some d) e = denied_some f d g (sym e) ∙ turned g d (h d e)

with_none : (gs : List Form) (f : Form) → is_equation f ≡ false → ((d : Form) → denied f ≡ Some d → has gs d ≡ false) → has gs (Form.negation f) ≡ false
    → closing_with gs f ≡ None
with_none [] f q h k = refl
with_none (g ∷ gs) f q h k =
    let p = neither (same g (Form.negation f)) (has gs (Form.negation f)) k in
    let one : closing_of g f ≡ None = closes_none g f (denies_none g f (λ d e. (neither (same g d) (has gs d) (h d e)).0)) p.0 q in
    ap (λ o. option_or o (closing_with gs f)) one ∙ with_none gs f q (λ d e. (neither (same g d) (has gs d) (h d e)).1) p.1

module _ (s : Tables) where
  pub cant_close : (gs : List Form) (e : Earlier) (f : Form) → AreEarlier s gs e → CantClose (forms_of s e.forms) (forms_of s e.denied) f → closing_at gs f ≡ None
  cant_close gs e f h k =
      ap (λ v. cond v (Some (alone f)) (closing_with gs f)) k.alone
      ∙ with_none gs f k.equation (λ d i. sym (h.forms d) ∙ k.denies d i) (sym (h.denied f) ∙ k.is_denied)

  -- nothing is earlier than the first formula
  pub none_earlier : (e : Earlier) → e.forms ≡ [] → e.denied ≡ [] → AreEarlier s [] e
  none_earlier e p q = record {
    has_forms = subst (HasForms s) (sym p) tt;
    has_denied = subst (HasForms s) (sym q) tt;
    forms = λ f. ap (λ ids. has (forms_of s ids) f) p;
    denied = λ f. ap (λ ids. has (forms_of s ids) f) q;
  }

  standing_more : (gs : List Form) (ids now : List FormId) (f : Form) → ((x : Form) → has (forms_of s ids) x ≡ has gs x)
      → forms_of s now ≡ add (forms_of s ids) f → (x : Form) → has (forms_of s now) x ≡ has (gs ++ f ∷ []) x
  standing_more gs ids now f h e x =
      ap (λ fs. has fs x) e ∙ has_added (forms_of s ids) f x ∙ has_both (forms_of s ids) (f ∷ []) x ∙ ap (λ v. v || has (f ∷ []) x) (h x) ∙ sym (has_both gs (f ∷ []) x)

  -- a formula that denies another one
  pub denial_earlier : (gs : List Form) (old now : Earlier) (f d : Form) → AreEarlier s gs old → HasForms s now.forms → HasForms s now.denied
      → forms_of s now.forms ≡ add (forms_of s old.forms) f → forms_of s now.denied ≡ add (forms_of s old.denied) d → denied f ≡ Some d
      → AreEarlier s (gs ++ f ∷ []) now
  denial_earlier gs old now f d h a b p q e = record {
    has_forms = a;
    has_denied = b;
    forms = standing_more gs old.forms now.forms f h.forms p;
    denied = λ x.
        ap (λ fs. has fs x) q ∙ has_added (forms_of s old.denied) d x ∙ has_both (forms_of s old.denied) (d ∷ []) x
        ∙ ap (λ v. v || has (d ∷ []) x) (h.denied x)
        ∙ ap (λ v. has gs (Form.negation x) || (v || false)) (sym (denied_some f d x (sym e)))
        ∙ sym (has_both gs (f ∷ []) (Form.negation x));
  }

  -- one that denies none
  pub other_earlier : (gs : List Form) (old now : Earlier) (f : Form) → AreEarlier s gs old → HasForms s now.forms
      → forms_of s now.forms ≡ add (forms_of s old.forms) f → now.denied ≡ old.denied → denied f ≡ None → AreEarlier s (gs ++ f ∷ []) now
  other_earlier gs old now f h a p q e = record {
    has_forms = a;
    has_denied = subst (HasForms s) (sym q) h.has_denied;
    forms = standing_more gs old.forms now.forms f h.forms p;
    denied = λ x.
        ap (λ ids. has (forms_of s ids) x) q ∙ h.denied x ∙ or_none (has gs (Form.negation x))
        ∙ ap (λ v. has gs (Form.negation x) || (v || false)) (sym (denied_none f x (sym e)))
        ∙ sym (has_both gs (f ∷ []) (Form.negation x));
  }
    where
      or_none : (v : Bool) → v ≡ (v || (false || false))
      or_none true = refl
      or_none false = refl

-- what closes two lists of formulas, one behind the other
closing_parts : (gs xs ys : List Form) → closing_from gs (xs ++ ys) ≡ option_or (closing_from gs xs) (closing_from (gs ++ xs) ys)
closing_parts gs [] ys = ap (λ fs. closing_from fs ys) (sym (append-nil gs))
closing_parts gs (x ∷ xs) ys =
    ap (option_or (closing_at gs x)) (closing_parts (gs ++ x ∷ []) xs ys ∙ ap (λ fs. option_or (closing_from (gs ++ x ∷ []) xs) (closing_from fs ys)) (append_assoc gs (x ∷ []) xs))
    ∙ either (closing_at gs x) (closing_from (gs ++ x ∷ []) xs) (closing_from (gs ++ x ∷ xs) ys)
  where
    either : (a b c : Option Closing) → option_or a (option_or b c) ≡ option_or (option_or a b) c
    either None b c = refl
    either (Some a) b c = refl

-- behind a branch that isn't closed
closing_behind : (b : List Form) (n : ℕ) → closing (take n b) ≡ None → closing_from (take n b) (drop n b) ≡ closing b
closing_behind b n e =
    sym (ap (closing_from []) (sym (take-append-drop n b)) ∙ closing_parts [] (take n b) (drop n b) ∙ ap (λ o. option_or o (closing_from (take n b) (drop n b))) e)

pub closing_rest : (s : Tables) (ids : List FormId) (n : ℕ) → closing (forms_of s (take n ids)) ≡ None
    → closing_from (forms_of s (take n ids)) (forms_of s (drop n ids)) ≡ closing (forms_of s ids)
closing_rest s ids n e =
    let t : forms_of s (take n ids) ≡ take n (forms_of s ids) = sym (take-map (form_of s) n ids) in
    let d : forms_of s (drop n ids) ≡ drop n (forms_of s ids) = sym (drop-map (form_of s) n ids) in
    ap (λ fs. closing_from fs (forms_of s (drop n ids))) t ∙ ap (closing_from (take n (forms_of s ids))) d
    ∙ closing_behind (forms_of s ids) n (sym (ap closing t) ∙ e)

-- the branch stands before the formulas that were added
extended_is : (b fs : List Form) → (r : List Form) × (extend b fs ≡ b ++ r)
extended_is b [] = ([], sym (append-nil b))
extended_is b (f ∷ fs) = by (has b f) (extended_is (add b f) fs)
  where
    by : (v : Bool) → (r : List Form) × (extend (add b f) fs ≡ cond v b (b ++ f ∷ []) ++ r) → (r : List Form) × (extend (add b f) fs ≡ b ++ r)
    by true h = h
    by false h = (f ∷ h.0, h.1 ∙ append_assoc b (f ∷ []) h.0)

module _ (s : Tables) (ids all : List FormId) (more : List Form) (e : forms_of s all ≡ extend (forms_of s ids) more) where
  pub added_front : forms_of s (take (length ids) all) ≡ forms_of s ids
  added_front =
      let r = extended_is (forms_of s ids) more in
      sym (take-map (form_of s) (length ids) all) ∙ ap (take (length ids)) (e ∙ r.1)
      ∙ ap (λ n. take n (forms_of s ids ++ r.0)) (sym (length-map ids (form_of s))) ∙ take-append_seam (forms_of s ids) r.0

  pub added_longer : length ids ≤ length all
  added_longer =
      let r = extended_is (forms_of s ids) more in
      let f : length (forms_of s all) ≡ length (forms_of s ids) + length r.0 = ap length (e ∙ r.1) ∙ length-append (forms_of s ids) r.0 in
      let a = length-map all (form_of s) in
      let b = length-map ids (form_of s) in
      omega arith

-- The loops of the search for what closes: at its start, at a place, and at its end.
module _ (s : Tables) (ids : List FormId) where
  abbrev pub rest_from : ℕ → Option Closing
  rest_from i = closing_from (forms_of s (take i ids)) (forms_of s (drop i ids))

  rest_step : (i : ℕ) (d : FormId) → i < length ids
      → rest_from i ≡ option_or (closing_at (forms_of s (take i ids)) (form_of s (get_or ids i d))) (rest_from (i + 1))
  rest_step i d l =
      ap (λ js. closing_from (forms_of s (take i ids)) (forms_of s js)) (drop_more ids i d l)
      ∙ ap (λ fs. option_or (closing_at (forms_of s (take i ids)) (form_of s (get_or ids i d))) (closing_from fs (forms_of s (drop (i + 1) ids))))
      (sym (forms_front s ids i d l))

  pub rest_on : (i : ℕ) (d : FormId) → i < length ids → closing_at (forms_of s (take i ids)) (form_of s (get_or ids i d)) ≡ None → rest_from i ≡ rest_from (i + 1)
  rest_on i d l e = rest_step i d l ∙ ap (λ o. option_or o (rest_from (i + 1))) e

  pub rest_here : (i : ℕ) (d : FormId) (c : Closing) → i < length ids → closing_at (forms_of s (take i ids)) (form_of s (get_or ids i d)) ≡ Some c → rest_from i ≡ Some c
  rest_here i d c l e = rest_step i d l ∙ ap (λ o. option_or o (rest_from (i + 1))) e

  pub rest_end : (i : ℕ) → length ids ≤ i → rest_from i ≡ None
  rest_end i l = ap (λ js. closing_from (forms_of s (take i ids)) (forms_of s js)) (drop_of_length-le ids l)

pub rest_start : (s : Tables) (ids : List FormId) → closing (forms_of s ids) ≡ rest_from s ids 0
rest_start s [] = refl
rest_start s (i ∷ is) = refl

pub front_none : (s : Tables) (ids : List FormId) → forms_of s (take 0 ids) ≡ []
front_none s [] = refl
front_none s (i ∷ is) = refl
