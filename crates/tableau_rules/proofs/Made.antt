-- The formulas of children, made one after the other.
use Rattle.std.proofs.Common.{◌≡◌, List, [], ◌∷◌, ap, ◌∙◌}
use Rattle.zm_logic.specs.Tree as tree
use Rattle.term_store.specs.Trees.{Tables, HasForm, form_of, Extends}
use Rattle.term_store.specs.declared.ids.FormId.{FormId}
use Rattle.term_store.proofs.Kept.{still_form, kept_form}
use Rattle.param_store.specs.RawOffers.{one, two, signed}
use Rattle.param_store.specs.View.{AreForms, AreLists, forms_of}
use Rattle.param_store.proofs.Stay.{are_forms_stay}
use Rattle.tableau_rules.specs.declared.split.Signed.{Signed}
use Rattle.tableau_rules.specs.declared.split.Child.{Child}
use Rattle.tableau_rules.specs.declared.split.Child.TheVariants as childs
use Rattle.tableau_rules.specs.Split.{HasSigned, HasChild, signed_of, child_of}

-- a formula that is made stays the same while others are made
module _ (s t : Tables) (e : Extends s t) where
  pub signed_stays : (x : Signed) → HasSigned s x → signed_of t x ≡ signed_of s x
  signed_stays x h = ap (signed x.holds) (kept_form s t e x.form h)

  pub child_still : (c : Child) → HasChild s c → HasChild t c
  child_still (childs.One x) h = still_form s t e x.form h
  child_still (childs.Two x y) h = (still_form s t e x.form h.0, still_form s t e y.form h.1)

  pub child_stays : (c : Child) → HasChild s c → child_of t c ≡ child_of s c
  child_stays (childs.One x) h = ap one (signed_stays x h)
  child_stays (childs.Two x y) h = ap (λ f. two f (signed_of t y)) (signed_stays x h.0) ∙ ap (two (signed_of s x)) (signed_stays y h.1)

-- two formulas, the first of which was made before
pub two_forms : (s t : Tables) → Extends s t → (f g : tree.Form) (i j : FormId) → HasForm s i → form_of s i ≡ f → HasForm t j → form_of t j ≡ g
    → AreForms t (two f g) (i ∷ j ∷ [])
two_forms s t x f g i j h e k d = record {
  has = (still_form s t x i h, (k, tt));
  forms = ap (λ a. two a (form_of t j)) (kept_form s t x i h ∙ e) ∙ ap (two f) d;
}

-- two children, the first of which was made before
pub two_children : (s t : Tables) → Extends s t → (fs gs : List tree.Form) (is js : List FormId) → AreForms s fs is → AreForms t gs js
    → AreLists t (fs ∷ gs ∷ []) (is ∷ js ∷ [])
two_children s t x fs gs is js h k =
    let m = are_forms_stay s t x fs is h in
    record {
      has = (m.has, (k.has, tt));
      lists = ap (λ a. a ∷ forms_of t js ∷ []) m.forms ∙ ap (λ a. fs ∷ a ∷ []) k.forms;
    }
