-- What stands at a place of a list of ids is in the store, and what is in a store stays in a later one.
use Rattle.std.proofs.Common.{◌≡◌, sym, subst, ℕ, zero, suc, ◌<◌, List, [], ◌∷◌, length, get_or, All, arith}
use Rattle.std.proofs.lemmas.List.Elements.{All-get_or}
use Rattle.term_store.specs.Trees.{Tables, HasTerm, HasForm, Extends}
use Rattle.term_store.specs.declared.ids.TermId.{TermId}
use Rattle.term_store.specs.declared.ids.FormId.{FormId}
use Rattle.term_store.specs.Fault.{IfDeepAt}
use Rattle.term_store.specs.declared.fault.OpenFault.{OpenFault}
use Rattle.term_store.specs.declared.fault.OpenFault.TheVariants as opened
use Rattle.term_store.proofs.Kept as kept
use Rattle.term_store.specs.Open.{HasRedex}
use Rattle.term_store.specs.declared.opening.Redex.{Redex}
use Rattle.term_store.specs.declared.opening.Redex.TheVariants as places
use Rattle.param_store.specs.Fault as offering
use Rattle.param_store.specs.declared.fault.OfferFault.{OfferFault}
use Rattle.param_store.specs.declared.fault.OfferFault.TheVariants as offered
use Rattle.param_store.specs.Numbers.{with_form}
use Rattle.param_store.specs.View.{HasForms, HasLists, HasRaw, HasRaws}
use Rattle.param_store.specs.declared.offer.RawOffer.{RawOffer}
use Rattle.unify.specs.Answer.{HasIds}
use Rattle.unify.specs.declared.binding.Binding.{Binding}
use Rattle.param_store.proofs.Numbers.{has_with}
use Rattle.param_store.proofs.Stay.{forms_still}

pub form_at : (s : Tables) (ids : List FormId) (j : ℕ) (d : FormId) → j < length ids → HasForms s ids → HasForm s (get_or ids j d)
form_at s [] j d l h = absurd (omega arith)
form_at s (i ∷ is) zero d l h = h.0
form_at s (i ∷ is) (suc j) d l h = form_at s is j d (omega arith) h.1

pub list_at : (s : Tables) (lists : List (List FormId)) (j : ℕ) (d : List FormId) → j < length lists → HasLists s lists → HasForms s (get_or lists j d)
list_at s [] j d l h = absurd (omega arith)
list_at s (i ∷ is) zero d l h = h.0
list_at s (i ∷ is) (suc j) d l h = list_at s is j d (omega arith) h.1

pub raw_at : (s : Tables) (raws : List RawOffer) (j : ℕ) (d : RawOffer) → j < length raws → HasRaws s raws → HasRaw s (get_or raws j d)
raw_at s [] j d l h = absurd (omega arith)
raw_at s (i ∷ is) zero d l h = h.0
raw_at s (i ∷ is) (suc j) d l h = raw_at s is j d (omega arith) h.1

pub binding_at : (s : Tables) (bs : List Binding) (j : ℕ) (d : Binding) → j < length bs → All (HasIds s) bs → HasIds s (get_or bs j d)
binding_at s bs j d l h = All-get_or (HasIds s) bs j d l h

pub term_still : (s t : Tables) → Extends s t → (i : TermId) → HasTerm s i → HasTerm t i
term_still s t e i h = kept.still_term s t e i h

pub form_still : (s t : Tables) → Extends s t → (i : FormId) → HasForm s i → HasForm t i
form_still s t e i h = kept.still_form s t e i h

pub extends_more : (r s t : Tables) → Extends r s → Extends s t → Extends r t
extends_more r s t p q = kept.extends_more r s t p q

pub numbered_still : (s t : Tables) → Extends s t → (ids : List FormId) → HasForms s ids → HasForms t ids
numbered_still s t e ids h = forms_still s t e ids h

pub numbered_more : (s t : Tables) → Extends s t → (ids : List FormId) (i : FormId) → HasForms s ids → HasForm t i → HasForms t (with_form ids i)
numbered_more s t e ids i h k = has_with t ids i (forms_still s t e ids h) k

-- the formula that is named is the given one, so the later store has it
pub named_still : (s t : Tables) → Extends s t → (f i : FormId) (Q : Type 0) (e : OpenFault) → HasForm s f → e ≡ opened.Deep i → IfDeepAt (λ j. (j ≡ f) × Q) e → HasForm t i
named_still s t k f i Q e h w d =
    let named : IfDeepAt (λ j. (j ≡ f) × Q) (opened.Deep i) = subst (IfDeepAt (λ j. (j ≡ f) × Q)) w d in
    subst (HasForm t) (sym named.0) (kept.still_form s t k f h)

-- the same where it is named as a place
pub place_still : (s t : Tables) → Extends s t → (f : FormId) (i : Redex) (Q : Type 0) (e : OfferFault) → HasForm s f → e ≡ offered.Deep i → offering.IfDeepAt (λ j. (j ≡ places.OfForm f) × Q) e → HasRedex t i
place_still s t k f i Q e h w d =
    let named : offering.IfDeepAt (λ j. (j ≡ places.OfForm f) × Q) (offered.Deep i) = subst (offering.IfDeepAt (λ j. (j ≡ places.OfForm f) × Q)) w d in
    subst (HasRedex t) (sym named.0) (kept.still_form s t k f h)
