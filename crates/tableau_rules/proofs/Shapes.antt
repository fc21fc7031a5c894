-- The own offers of a formula are those that its shape gives.
use Rattle.std.proofs.Common.{◌≡◌, Some, IfOk, OnOk, OnErr, Result, Ok, Err, List, [], ap, sym, subst, ◌∙◌}
use Rattle.term_store.specs.Trees.{Tables, AreShared, HasForm, form_of, Extends}
use Rattle.term_store.specs.declared.ids.FormId.{FormId}
use Rattle.term_store.proofs.Kept.{kept_form}
use Rattle.param_store.specs.declared.offer.RawOffer.{RawOffer}
use Rattle.param_store.specs.declared.fault.OfferFault.{OfferFault}
use Rattle.param_store.specs.Numbers.{number_in, with_form}
use Rattle.param_store.specs.RawOffers as raw
use Rattle.param_store.specs.View.{AreRaws, HasForms, forms_of}
use Rattle.param_store.proofs.Numbers.{number_is, number_with, has_with}
use Rattle.param_store.proofs.Stay.{forms_still, forms_stay}
use Rattle.param_store.proofs.Offers.{own_opened}

-- the number of a formula in the table of the trees, after it was put there and the store grew
pub number_after : (s t : Tables) → Extends s t → AreShared s → (ids : List FormId) (f : FormId) → HasForms s ids → HasForm s f
    → raw.number_of (forms_of t (with_form ids f)) (form_of t f) ≡ number_in ids f
number_after s t e shared ids f h k =
    let w = has_with s ids f h k in
    ap (λ table. raw.number_of table (form_of t f)) (forms_stay s t e (with_form ids f) w)
    ∙ ap (raw.number_of (forms_of s (with_form ids f))) (kept_form s t e f k)
    ∙ number_is s shared (with_form ids f) f w k
    ∙ number_with ids f

-- offers by their definition
pub raws_are : (s : Tables) (os ps : List raw.Raw) (rs : List RawOffer) → os ≡ ps → AreRaws s ps rs → AreRaws s os rs
raws_are s os ps rs e h = subst (λ x. AreRaws s x rs) (sym e) h

-- a quantified formula
pub opened_after : (s t : Tables) → Extends s t → AreShared s → (ids : List FormId) (f : FormId) (q : raw.Quantified) → HasForms s ids → HasForm s f
    → raw.split (form_of s f) ≡ [] → raw.quantified (form_of s f) ≡ Some q
    → raw.own_offers (forms_of t (with_form ids f)) (form_of t f) ≡ raw.opened_offers (number_in ids f) (form_of s f) (Some q)
opened_after s t e shared ids f q h k c d =
    let n = number_after s t e shared ids f h k in
    let table = forms_of t (with_form ids f) in
    let m : raw.number_of table (form_of s f) ≡ number_in ids f = ap (raw.number_of table) (sym (kept_form s t e f k)) ∙ n in
    ap (raw.own_offers table) (kept_form s t e f k) ∙ own_opened table (form_of s f) q (number_in ids f) c d m

-- the same before it is put into the table
pub opened_before : (s : Tables) → AreShared s → (ids : List FormId) (f : FormId) (q : raw.Quantified) → HasForms s ids → HasForm s f
    → raw.split (form_of s f) ≡ [] → raw.quantified (form_of s f) ≡ Some q
    → raw.own_offers (forms_of s ids) (form_of s f) ≡ raw.opened_offers (number_in ids f) (form_of s f) (Some q)
opened_before s shared ids f q h k c d =
    own_opened (forms_of s ids) (form_of s f) q (number_in ids f) c d (number_is s shared ids f h k)

-- what an answer says of the offers of a quantified formula, where the numbers are those after it
pub opened_answer : (s t : Tables) → Extends s t → AreShared s → (ids now : List FormId) (f : FormId) (q : raw.Quantified)
    (answer : Result (List RawOffer) OfferFault) → HasForms s ids → HasForm s f → raw.split (form_of s f) ≡ [] → raw.quantified (form_of s f) ≡ Some q
    → OnOk answer (now ≡ with_form ids f) → IfOk answer (AreRaws t (raw.opened_offers (number_in ids f) (form_of s f) (Some q)))
    → IfOk answer (AreRaws t (raw.own_offers (forms_of t now) (form_of t f)))
opened_answer s t e shared ids now f q (Ok rs) h k c d n o =
    raws_are t _ _ rs (ap (λ xs. raw.own_offers (forms_of t xs) (form_of t f)) n ∙ opened_after s t e shared ids f q h k c d) o
opened_answer s t e shared ids now f q (Err x) h k c d n o = tt

-- the formulas of the table stand in the store
pub numbered_after : (s t : Tables) → Extends s t → (ids now : List FormId) (f : FormId) (answer : Result (List RawOffer) OfferFault)
    → HasForms s ids → HasForm s f → OnOk answer (now ≡ with_form ids f) → OnErr answer (now ≡ ids) → HasForms t now
numbered_after s t e ids now f (Ok rs) h k n o = subst (HasForms t) (sym n) (forms_still s t e (with_form ids f) (has_with s ids f h k))
numbered_after s t e ids now f (Err x) h k n o = subst (HasForms t) (sym o) (forms_still s t e ids h)
